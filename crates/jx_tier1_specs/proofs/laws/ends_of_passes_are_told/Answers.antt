use Rattle.jx_tier1_specs.proofs.GivesLemmas.{AreInverse}
use Rattle.jx_tier1_specs.proofs.EndLemmas.{AreTold}
use Rattle.jx_tier1_specs.proofs.SeenLemmas.{passes_told, first_looked}
use Rattle.jx_tier1_specs.proofs.laws.ends_of_passes_are_told.Goals as goal

pub returns-clause-told : goal.returns-clause-told
returns-clause-told k c g passes =
    let i : AreInverse = record {
      bits = k.decisions_are_read_back.ensures.bits;
      contexts = k.decisions_are_read_back.ensures.contexts;
      raw = k.raw_bits_are_read_back.ensures.bits;
    } in
    let t : AreTold = record {
      mq = k.ends_are_told.ensures;
      raw = k.raw_ends_are_told.ensures;
      counted = k.raw_bits_one_by_one.ensures.looked;
    } in
    passes_told i t c g passes

pub returns-clause-first : goal.returns-clause-first
returns-clause-first k = first_looked
