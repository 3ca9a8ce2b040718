use Rattle.std.proofs.Common.{refl, arith}
use Rattle.jx_tier1.proofs.MaskLemmas.{following_there, following_other}
use Rattle.jx_tier1.proofs.words.following.Goals as goal

pub returns : goal.returns
returns c = record {
  below = following_there c.args.place 1 (omega arith) refl;
  first = following_there c.args.place 5 (omega arith) refl;
  second = following_there c.args.place 6 (omega arith) refl;
  third = following_there c.args.place 7 (omega arith) refl;
  others = λ i k l m n. following_other c.args.place i k l m n;
}
