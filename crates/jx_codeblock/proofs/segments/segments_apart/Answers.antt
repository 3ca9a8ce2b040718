use Rattle.std.proofs.Common.{◌+◌, map, drop, ℕ, List}
use Rattle.jx_base.specs.declared.pieces.Piece.{Piece}
use Rattle.jx_base.specs.Pieces.{value_of}
use Rattle.jx_codeblock.specs.Groups.{groups}
use Rattle.jx_codeblock.proofs.DropLemmas.{drop_one, first_piece, no_piece, apart_step}
use Rattle.jx_codeblock.proofs.segments.segments_apart.Goals as goal

pub loop-piece-preserved : goal.loop-piece-preserved
loop-piece-preserved c =
    let ps : List Piece = c.args.pieces.now in
    let at : ℕ = c.loop-piece.piece-index in
    let step = apart_step c.args.style.bits c.loop-piece.segments c.push.new.self (groups c.args.style.bits (map value_of ps)) (value_of (first_piece ps at)) (map value_of (drop (at + 1) ps))
    (map value_of (drop at ps)) (drop_one ps at no_piece c.loop-piece-test.true) c.loop-piece.invariant.apart c.loop-piece.invariant.listed c.in_ok-push.ensures.ok in
    record { listed = step.0; apart = step.1 }
