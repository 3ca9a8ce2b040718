use Rattle.std.proofs.Common.{ℕ, false, ◌≡◌, ◌<◌, ◌+◌, ◌/◌, ◌%◌, arith, sym, subst}
use Rattle.jx_tier1_specs.specs.Cells.{coef_at}
use Rattle.jx_tier1_specs.specs.Asking.{told}
use Rattle.jx_tier1_specs.specs.Pass.{sign_of}
use Rattle.jx_tier1.specs.Sights.{IsPlaceIn, EndsIn}
use Rattle.jx_tier1.proofs.CleanRuns.{run_none_left, run_named_left, named_place, named_neat}
use Rattle.jx_tier1.proofs.DueWords.{less_behind}
use Rattle.jx_tier1.proofs.word_passes.cleanup_run.Goals as goal

pub returns-then-row-eq4-clause-walk : goal.returns-then-row-eq4-clause-walk
returns-then-row-eq4-clause-walk g c = λ v h.
    run_none_left g.S.Source.ask c.args.plane v c.args.corner.x c.args.corner.y c.args.word.sight.window c.args.word.sight.signs c.args.word.due c.args.word.runs c.args.place
    c.behind.result c.args.source.now c.decide_run.new.source h c.requires.first c.requires.one c.requires.row c.requires.run
    (c.in_ok-row.ensures.none v c.if-row-eq4.true) c.behind.ensures.before c.behind.ensures.behind

pub returns-then-row-eq4-clause-before : goal.returns-then-row-eq4-clause-before
returns-then-row-eq4-clause-before g c = λ i l. c.behind.ensures.before i (omega arith)

pub returns-then-row-eq4-clause-due : goal.returns-then-row-eq4-clause-due
returns-then-row-eq4-clause-due g c = λ i. less_behind c.args.word.due c.behind.result (c.args.place + 3) i c.behind.ensures.before c.behind.ensures.behind

pub returns : goal.returns
returns g c =
    let w : ℕ = c.args.word.sight.window in
    let s : ℕ = c.args.word.sight.signs in
    let d : ℕ = c.args.word.due in
    let z : ℕ = c.args.word.runs in
    let p : ℕ = c.args.place in
    let n : ℕ = c.in_ok-row.row in
    let x : ℕ = c.args.corner.x in
    let y : ℕ = c.args.corner.y in
    let k = c.args.plane in
    let row = c.requires.row in
    let few : n < 4 = let a = c.in_ok-row.ensures.few in let b = c.if-row-eq4.false in omega arith in
    let a : x + p / 6 ≡ x + (p + n) / 6 = omega arith in
    let b : y + p % 6 + n ≡ y + (p + n) % 6 = omega arith in
    record {
      walk = λ v h.
          let q = named_place k v x y w s d z p n h c.requires.first c.requires.one row c.requires.run few in
          let e = named_neat k v x y w s d z p n h c.requires.first c.requires.one row c.requires.run few in
          let q' : IsPlaceIn v (x + (p + n) / 6) (y + (p + n) % 6) = subst (λ (m : ℕ). IsPlaceIn v m (y + (p + n) % 6)) a (subst (λ (m : ℕ). IsPlaceIn v (x + p / 6) m) b q) in
          let e' = subst (λ (m : ℕ). (coef_at v m (y + (p + n) % 6)).negative ≡ false) a (subst (λ (m : ℕ). (coef_at v (x + p / 6) m).negative ≡ false) b e) in
          let ends = c.in_ok-sight.ensures.walk v h.sight q' e' in
          let E : ℕ → ℕ → Type 0 = λ i j.
          EndsIn k.causal x y (told g.S.Source.ask (sign_of k v i j) c.decide_run.new.source) c.in_ok-sight.sight.window c.in_ok-sight.sight.signs c.decide_sign.new.source in
          let ends' : E (x + p / 6) (y + p % 6 + n) = subst (λ (m : ℕ). E (x + p / 6) m) (sym b) (subst (λ (m : ℕ). E m (y + (p + n) % 6)) (sym a) ends) in
          run_named_left g.S.Source.ask k v x y w s d z p n c.in_ok-sight.sight.window c.in_ok-sight.sight.signs c.behind-2.result c.behind-3.result c.args.source.now
          c.decide_run.new.source c.decide_sign.new.source h c.requires.first c.requires.one row c.requires.run few (c.in_ok-row.ensures.named v few) ends'
          c.in_ok-sight.ensures.there c.in_ok-sight.ensures.others c.behind-2.ensures.before c.behind-2.ensures.behind c.behind-3.ensures.before c.behind-3.ensures.behind;
      before = λ i l. c.behind-2.ensures.before i (omega arith);
      due = λ i. less_behind d c.behind-2.result (p + n) i c.behind-2.ensures.before c.behind-2.ensures.behind;
      runs = λ i. less_behind z c.behind-3.result (p + n + 6) i c.behind-3.ensures.before c.behind-3.ensures.behind;
      fits = c.behind-2.type_inv;
    }
