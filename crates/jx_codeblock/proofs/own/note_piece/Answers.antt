use Rattle.std.proofs.Common.{◌≡◌, ◌+◌, ◌∙◌, ◌||◌, ap, sym, map, drop, get_or, false, List}
use Rattle.jx_base.specs.declared.pieces.Piece.{Piece}
use Rattle.jx_base.specs.Pieces.{value_of, PieceValue}
use Rattle.jx_codeblock.specs.Tables.{is_own_end, is_last_of_layer}
use Rattle.jx_codeblock.proofs.DropLemmas.{drop_one, first_piece, no_piece}
use Rattle.jx_codeblock.proofs.OwnLemmas.{own_passed}
use Rattle.jx_codeblock.proofs.own.note_piece.Goals as goal

pub returns-then-not-ends_layer-clause-each : goal.returns-then-not-ends_layer-clause-each
returns-then-not-ends_layer-clause-each c n lt =
    let ps : List Piece = c.args.pieces.now in
    let split = drop_one ps c.args.at no_piece c.requires in
    let last : is_last_of_layer (map value_of (drop c.args.at ps)) ≡ false = sym c.ends_layer.ensures ∙ c.if-not-ends_layer.true in
    own_passed (value_of (first_piece ps c.args.at)) (map value_of (drop (c.args.at + 1) ps)) n (get_or c.args.own.now.items n false)
    (get_or c.args.own.now.items n false || is_own_end (map value_of (drop c.args.at ps)) n) (sym (ap is_last_of_layer split) ∙ last)
    (ap (λ (qs : List PieceValue). get_or c.args.own.now.items n false || is_own_end qs n) (sym split))
