use Rattle.std.proofs.Common.{◌∙◌, sym, subst}
use Rattle.jx_codestream.specs.PackedHeaders.{LieIn}
use Rattle.jx_codestream.proofs.PackedLemmas.{order_lies}
use Rattle.jx_codestream.proofs.packed.with_shares.Goals as goal

pub share_out-requires-clause-inside : goal.share_out-requires-clause-inside
share_out-requires-clause-inside c =
    subst (LieIn c.args.bytes.now) (sym (c.deref.ensures.value ∙ c.in_ok-pieces.ensures)) (order_lies c.args.bytes.now c.args.packed.now c.requires.inside)
