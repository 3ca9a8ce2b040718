use Rattle.std.proofs.Common.{◌+◌, arith}
use Rattle.jx_tier1.proofs.MaskLemmas.{signed_there, signed_other}
use Rattle.jx_tier1.proofs.words.signed.Goals as goal

pub returns : goal.returns
returns c = record {
  place = signed_there c.args.signs (c.args.place + 8) c.from.result c.args.negative c.from.ensures (omega arith);
  others = λ i n. signed_other c.args.signs (c.args.place + 8) i c.from.result c.args.negative c.from.ensures n;
}
