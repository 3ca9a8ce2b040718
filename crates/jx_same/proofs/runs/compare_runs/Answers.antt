use Rattle.std.proofs.Common.{◌≡◌, ◌∙◌, ap, arith, length, sym}
use Rattle.std.specs.List.{find}
use Rattle.std.proofs.lemmas.Result.{IfOk-weaker}
use Rattle.jx_base.specs.Joined.{joined}
use Rattle.jx_same.specs.Items.{block_items, differs}
use Rattle.jx_same.specs.Runs.{AreFirsts, run_items, unit_items}
use Rattle.jx_same.specs.Sides.{geometry_at, meaning_at}
use Rattle.jx_same.proofs.RunLemmas.{firsts_each, runs_whole}
use Rattle.jx_same.proofs.runs.compare_runs.Goals as goal

pub returns : goal.returns
returns g c =
    let n = c.args.name in
    let p = differs (meaning_at c.args.a.now) (meaning_at c.args.b.now) in
    let f = unit_items c.args.walk.by_rows (block_items (geometry_at c.args.a.now) n.comp n.res n.band) c.args.walk.wide in
    let parts = run_items f c.args.cut.low c.args.cut.size c.args.cut.high in
    let long : length c.deref.result.now ≡ c.args.cut.runs = omega (arith, c.deref.ensures.len, c.in_ok-answers.ensures.len) in
    let count : length c.in_ok-answers.answers.items ≡ c.args.cut.runs = ap (λ xs. length xs) (sym c.deref.ensures.value) ∙ long in
    let firsts : AreFirsts p parts c.deref.result.now =
    rw c.deref.ensures.value (firsts_each p parts c.in_ok-answers.answers.items c.args.cut.runs count (λ i d lt. (c.in_ok-answers.ensures.each i d lt).1.met)) in
    IfOk-weaker c.first_found.result _ _
    (λ r h. h ∙ ap (λ k. find p (joined parts 0 k)) long ∙ ap (find p) (runs_whole f c.args.cut.low c.args.cut.size c.args.cut.high c.args.cut.runs c.requires.low c.requires.all)) (c.first_found.ensures p parts firsts)
