use Rattle.jx_tier2_reader.proofs.BlockOfLemmas.{blocks_of_stream}
use Rattle.jx_tier2_reader.proofs.SoundLemmas.{sound_gathered}
use Rattle.jx_tier2_reader.proofs.laws.blocks_are_named.Goals as goal

pub returns-clause-named : goal.returns-clause-named
returns-clause-named c = blocks_of_stream

pub returns-clause-sound : goal.returns-clause-sound
returns-clause-sound c = sound_gathered
