use Rattle.std.proofs.Common.{arith}
use Rattle.jx_tier1.proofs.MaskLemmas.{behind_before, behind_same}
use Rattle.jx_tier1.proofs.words.behind.Goals as goal

pub returns : goal.returns
returns c = record {
  before = λ i l. behind_before c.args.places c.args.place i c.requires l;
  behind = λ i l. behind_same c.args.places c.args.place i (omega arith) l;
}
