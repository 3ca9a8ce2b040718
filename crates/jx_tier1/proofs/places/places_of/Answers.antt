use Rattle.std.proofs.Common.{◌-◌, ◌*◌, ◌∙◌, ap, sym, min, arith, ℕ}
use Rattle.jx_tier1.proofs.PlaceMasks.{AreRows, block_places, block_word}
use Rattle.jx_tier1.proofs.places.places_of.Goals as goal

rows_are : (c : goal.After-first_columns) → AreRows c.rows.result c.first_columns.result c.min-high.result c.min-wide.result
rows_are c = record { rows = c.rows.ensures; below = c.first_columns.ensures.below; behind = c.first_columns.ensures.behind }

pub returns-clause-places : goal.returns-clause-places
returns-clause-places c = λ g w h.
    let a = c.requires.stripe in
    let b = c.requires.group in
    let d = c.width.ensures in
    let e = c.height.ensures in
    block_places g (8 * c.args.group) (4 * c.args.stripe) c.rows.result c.first_columns.result c.min-high.result c.min-wide.result (rows_are c) (omega arith) (omega arith)
    (c.min-high.ensures ∙ ap (λ (n : ℕ). min 4 (n - 4 * c.args.stripe)) (e ∙ sym h))
    (c.min-wide.ensures ∙ ap (λ (n : ℕ). min 8 (n - 8 * c.args.group)) (d ∙ sym w))

pub returns-clause-word : goal.returns-clause-word
returns-clause-word c =
    let a = c.min-high.ensures in
    let b = c.min-wide.ensures in
    block_word c.rows.result c.first_columns.result c.min-high.result c.min-wide.result (rows_are c) (omega arith) (omega arith)
