use Rattle.std.proofs.Common.{◌∙◌, arith}
use Rattle.jx_tier1_specs.specs.Reading.{decoded}
use Rattle.jx_tier1_specs.proofs.GivesLemmas.{AreInverse}
use Rattle.jx_tier1_specs.proofs.BackLemmas.{all_read}
use Rattle.jx_tier1_specs.proofs.laws.written_is_read_back.Goals as goal

pub returns-clause-first : goal.returns-clause-first
unfolding decoded
returns-clause-first k c g passes first l =
    let i : AreInverse = record {
      bits = k.decisions_are_read_back.ensures.bits;
      contexts = k.decisions_are_read_back.ensures.contexts;
      raw = k.raw_bits_are_read_back.ensures.bits;
    } in
    (all_read i c g passes first l).cells

pub returns-clause-right : goal.returns-clause-right
unfolding decoded
returns-clause-right k c g passes first l =
    let i : AreInverse = record {
      bits = k.decisions_are_read_back.ensures.bits;
      contexts = k.decisions_are_read_back.ensures.contexts;
      raw = k.raw_bits_are_read_back.ensures.bits;
    } in
    (all_read i c g passes first l).wrong

pub returns-clause-grid : goal.returns-clause-grid
unfolding decoded
returns-clause-grid k c g passes f =
    let i : AreInverse = record {
      bits = k.decisions_are_read_back.ensures.bits;
      contexts = k.decisions_are_read_back.ensures.contexts;
      raw = k.raw_bits_are_read_back.ensures.bits;
    } in
    (all_read i c g passes passes (omega arith)).cells ∙ f.is
