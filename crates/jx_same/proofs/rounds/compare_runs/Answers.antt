use Rattle.std.proofs.Common.{◌≡◌, ◌∙◌, ap, arith, length, sym}
use Rattle.std.specs.List.{find}
use Rattle.std.proofs.lemmas.Result.{IfOk-weaker}
use Rattle.jx_base.specs.Joined.{joined}
use Rattle.jx_same.specs.Items.{differs, tile_items}
use Rattle.jx_same.specs.Runs.{AreFirsts, run_items}
use Rattle.jx_same.specs.Sides.{meaning_in}
use Rattle.jx_same.proofs.RunLemmas.{firsts_each, runs_whole}
use Rattle.jx_same.proofs.rounds.compare_runs.Goals as goal

pub returns : goal.returns
returns g c =
    let p = differs (meaning_in c.args.a) (meaning_in c.args.b) in
    let f = tile_items c.args.a.stream.now in
    let cut = c.args.cut in
    let parts = run_items f cut.low cut.size cut.high in
    let long : length c.deref.result.now ≡ cut.runs = omega (arith, c.deref.ensures.len, c.in_ok-answers.ensures.len) in
    let count : length c.in_ok-answers.answers.items ≡ cut.runs = ap (λ xs. length xs) (sym c.deref.ensures.value) ∙ long in
    let firsts : AreFirsts p parts c.deref.result.now =
    rw c.deref.ensures.value (firsts_each p parts c.in_ok-answers.answers.items cut.runs count (λ i d lt. (c.in_ok-answers.ensures.each i d lt).1.met)) in
    IfOk-weaker c.first_found.result _ _
    (λ r h. h ∙ ap (λ k. find p (joined parts 0 k)) long ∙ ap (find p) (runs_whole f cut.low cut.size cut.high cut.runs c.requires.low c.requires.all)) (c.first_found.ensures p parts firsts)
