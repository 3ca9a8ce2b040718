use Rattle.std.proofs.Common.{arith}
use Rattle.jx_jp2.proofs.WrapLemmas.{placed}
use Rattle.jx_jp2.proofs.wrapping.around.Goals as goal

pub split_at-requires : goal.split_at-requires
split_at-requires c = let p = placed c.args.bytes.now c.args.boxed.now c.requires in omega (arith, p.head)

pub split_at-requires-2 : goal.split_at-requires-2
split_at-requires-2 c = let p = placed c.args.bytes.now c.args.boxed.now c.requires in omega (arith, p.end)
