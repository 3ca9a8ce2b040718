use Rattle.std.proofs.Common.{◌∙◌}
use Rattle.jx_codestream.proofs.PackedLemmas.{goes_last}
use Rattle.jx_codestream.proofs.packed.insert.Goals as goal

pub returns-then-packed-most : goal.returns-then-packed-most
returns-then-packed-most c = c.in_ok-push.ensures.items ∙ goes_last c.args.sorted.now.items c.args.packed c.args.most c.requires c.if-packed-most.true
