use Rattle.std.proofs.Common.{◌≡◌, ◌∙◌, ◌≤◌, ◌^◌, IfOk, List, ℕ, ap, sym, subst, arith, length}
use Rattle.std.specs.Global.{Vec}
use Rattle.std.proofs.lemmas.Result.{IfOk-weaker}
use Rattle.jx_tier2_reader.specs.Accepted.{IsAccepted}
use Rattle.jx_tier2_reader.specs.WellFormed.{IsWellFormed}
use Rattle.jx_generate.specs.Headers.{AreSizes}
use Rattle.jx_generate.specs.Made.{body_made, file_made, file_with}
use Rattle.jx_generate.specs.Making.{Making}
use Rattle.jx_generate.specs.Reading.{stream_made}
use Rattle.jx_generate.proofs.ShortLemmas.{body_short, file_short}
use Rattle.jx_generate.proofs.WellLemmas.{made_accepted, made_formed}
use Rattle.jx_generate.proofs.make.Goals as goal

abbrev IsMade : ℕ → ℕ → ℕ → Vec ℕ → Type 0
IsMade seed w h v = v.items ≡ file_made seed w h

pub file-requires-clause-few : goal.file-requires-clause-few
file-requires-clause-few c =
    let body : c.deref.result.now ≡ body_made c.args.seed c.args.width c.args.height =
    c.deref.ensures.value ∙ c.in_ok-body.ensures ∙ ap (λ (m : Making). body_made m.seed m.width m.height) c.in_ok-new.ensures in
    let sizes : AreSizes c.args.width c.args.height = record { wide = c.requires.wide; most_wide = c.requires.most_wide; high = c.requires.high; most_high = c.requires.most_high } in
    omega (arith, ap length body, body_short c.args.seed c.args.width c.args.height sizes)

pub returns-clause-made : goal.returns-clause-made
unfolding file_made
returns-clause-made c =
    let body : c.deref.result.now ≡ body_made c.args.seed c.args.width c.args.height =
    c.deref.ensures.value ∙ c.in_ok-body.ensures ∙ ap (λ (m : Making). body_made m.seed m.width m.height) c.in_ok-new.ensures in
    subst (λ (xs : List ℕ). IfOk c.file.result (λ bytes. bytes.items ≡ file_with c.args.width c.args.height xs)) body c.file.ensures

pub returns-clause-short : goal.returns-clause-short
returns-clause-short c =
    let sizes : AreSizes c.args.width c.args.height = record { wide = c.requires.wide; most_wide = c.requires.most_wide; high = c.requires.high; most_high = c.requires.most_high } in
    let few : length (file_made c.args.seed c.args.width c.args.height) ≤ 2 ^ 28 = file_short c.args.seed c.args.width c.args.height sizes in
    IfOk-weaker c.file.result (IsMade c.args.seed c.args.width c.args.height) (λ (v : Vec ℕ). length v.items ≤ 2 ^ 28) (λ v is. subst (λ (xs : List ℕ). length xs ≤ 2 ^ 28) (sym is) few) (returns-clause-made c)

pub returns-clause-well_formed : goal.returns-clause-well_formed
returns-clause-well_formed c =
    let sizes : AreSizes c.args.width c.args.height = record { wide = c.requires.wide; most_wide = c.requires.most_wide; high = c.requires.high; most_high = c.requires.most_high } in
    let few : length (file_made c.args.seed c.args.width c.args.height) ≤ 2 ^ 28 = file_short c.args.seed c.args.width c.args.height sizes in
    IfOk-weaker c.file.result (IsMade c.args.seed c.args.width c.args.height) (λ (v : Vec ℕ). IsWellFormed v.items) (λ v is. subst (λ (xs : List ℕ). IsWellFormed xs) (sym is) (made_formed c.args.seed c.args.width c.args.height sizes few)) (returns-clause-made c)

pub returns-clause-accepted : goal.returns-clause-accepted
returns-clause-accepted c =
    let sizes : AreSizes c.args.width c.args.height = record { wide = c.requires.wide; most_wide = c.requires.most_wide; high = c.requires.high; most_high = c.requires.most_high } in
    let few : length (file_made c.args.seed c.args.width c.args.height) ≤ 2 ^ 28 = file_short c.args.seed c.args.width c.args.height sizes in
    let size : ℕ = length (body_made c.args.seed c.args.width c.args.height) in
    IfOk-weaker c.file.result (IsMade c.args.seed c.args.width c.args.height) (λ (v : Vec ℕ). IsAccepted v.items (stream_made c.args.width c.args.height size)) (λ v is. subst (λ (xs : List ℕ). IsAccepted xs (stream_made c.args.width c.args.height size)) (sym is) (made_accepted c.args.seed c.args.width c.args.height sizes few)) (returns-clause-made c)
