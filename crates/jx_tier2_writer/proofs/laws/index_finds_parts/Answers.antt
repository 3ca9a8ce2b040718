use Rattle.jx_tier2_writer.proofs.OutputLemmas.{entries_found, parts_found}
use Rattle.jx_tier2_writer.proofs.laws.index_finds_parts.Goals as goal

pub returns-clause-told : goal.returns-clause-told
returns-clause-told c = entries_found

pub returns-clause-stand : goal.returns-clause-stand
returns-clause-stand c = parts_found
