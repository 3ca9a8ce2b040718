use Rattle.std.proofs.Common.{◌∙◌, ◌+◌, sym, map, drop, ℕ, List}
use Rattle.jx_base.specs.declared.pieces.Piece.{Piece}
use Rattle.jx_base.specs.Pieces.{value_of}
use Rattle.jx_codeblock.proofs.DropLemmas.{drop_one, first_piece, no_piece, on_here, on_later}
use Rattle.jx_codeblock.proofs.segments.goes_on.Goals as goal

pub returns-then-not-ends_its_segment : goal.returns-then-not-ends_its_segment
returns-then-not-ends_its_segment c =
    let ps : List Piece = c.args.pieces.now in
    let at : ℕ = c.loop-at.at in
    sym (on_here c.args.style.bits (value_of (first_piece ps at)) (map value_of (drop (at + 1) ps)) (map value_of (drop at ps)) (drop_one ps at no_piece c.loop-at-test.true)
    (sym c.ends_its_segment.ensures ∙ c.if-not-ends_its_segment.true)) ∙ c.loop-at.invariant

pub loop-at-preserved : goal.loop-at-preserved
loop-at-preserved c =
    let ps : List Piece = c.args.pieces.now in
    let at : ℕ = c.loop-at.at in
    sym (on_later c.args.style.bits (value_of (first_piece ps at)) (map value_of (drop (at + 1) ps)) (map value_of (drop at ps)) (drop_one ps at no_piece c.loop-at-test.true)
    (sym c.ends_its_segment.ensures ∙ c.if-not-ends_its_segment.false)) ∙ c.loop-at.invariant
