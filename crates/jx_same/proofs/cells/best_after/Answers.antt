use Rattle.std.proofs.Common.{◌≡◌, Option, None, arith, subst}
use Rattle.std.specs.List.{find}
use Rattle.jx_base.specs.Joined.{joined}
use Rattle.jx_same.specs.declared.cells.Hit.{Hit}
use Rattle.jx_same.specs.Items.{block_items, differs}
use Rattle.jx_same.specs.Runs.{FirstRow, IsFirstRow, row_items}
use Rattle.jx_same.specs.Sides.{geometry_at, meaning_at}
use Rattle.jx_same.proofs.FindLemmas.{nothing}
use Rattle.jx_same.proofs.RowLemmas.{best_new, best_same}
use Rattle.jx_same.proofs.cells.best_after.Goals as goal

pub compare_patch-requires-clause-high : goal.compare_patch-requires-clause-high
compare_patch-requires-clause-high c = omega (arith, c.requires.best.within, c.requires.high)

pub returns-in-Some-clause-best : goal.returns-in-Some-clause-best
returns-in-Some-clause-best c =
    let n = c.args.name in
    let r = c.args.rows in
    let p = differs (meaning_at c.args.a.now) (meaning_at c.args.b.now) in
    let f = block_items (geometry_at c.args.a.now) n.comp n.res n.band in
    let first : FirstRow p (row_items f c.args.walk.wide r.left r.right) r.low c.args.best.end c.in-Some.hit =
    subst (λ (h : Option Hit). IsFirstRow p (row_items f c.args.walk.wide r.left r.right) r.low c.args.best.end h) c.in-Some.is c.in_ok-hit.ensures.first in
    best_new p f c.args.walk.wide r.left r.right c.requires.columns.0 r.low r.high c.args.best c.in-Some.hit c.requires.best first

pub returns-clause-best : goal.returns-clause-best
returns-clause-best c =
    let n = c.args.name in
    let r = c.args.rows in
    let p = differs (meaning_at c.args.a.now) (meaning_at c.args.b.now) in
    let f = block_items (geometry_at c.args.a.now) n.comp n.res n.band in
    let none : find p (joined (row_items f c.args.walk.wide r.left r.right) r.low c.args.best.end) ≡ None =
    subst (λ (h : Option Hit). IsFirstRow p (row_items f c.args.walk.wide r.left r.right) r.low c.args.best.end h) (nothing c.in_ok-hit.field-0 (λ x is. c.in_default.not-Some x is)) c.in_ok-hit.ensures.first in
    best_same p f c.args.walk.wide r.left r.right c.requires.columns.0 r.low r.high c.args.best c.requires.best none
