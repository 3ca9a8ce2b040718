use Rattle.std.proofs.Common.{◌≡◌, ◌++◌, ◌∙◌, ap, ℕ, List, Option, append_assoc, string_bytes}
use Rattle.std.specs.Prelude.{codes}
use Rattle.jx_show.specs.Text.{about_text, part_text}
use Rattle.jx_show.specs.declared.fact.About.{About}
use Rattle.jx_show.proofs.lines.push_about.Goals as goal

appended : (a : About) (comp tile : Option ℕ) (t0 t1 t2 t3 : List ℕ) → comp ≡ a.comp → tile ≡ a.tile → t1 ≡ t0 ++ part_text (codes " ") a.number
    → t2 ≡ t1 ++ part_text (codes " of component ") comp → t3 ≡ t2 ++ part_text (codes " of tile ") tile → t3 ≡ t0 ++ about_text a
appended a comp tile t0 t1 t2 t3 c t e1 e2 e3 =
    let n : List ℕ = part_text (codes " ") a.number in
    let o : List ℕ = part_text (codes " of component ") a.comp in
    let p : List ℕ = part_text (codes " of tile ") a.tile in
    let s2 : t2 ≡ (t0 ++ n) ++ o = e2 ∙ (ap (λ (x : Option ℕ). t1 ++ part_text (codes " of component ") x) c ∙ ap (λ (x : List ℕ). x ++ o) e1) in
    let s3 : t3 ≡ ((t0 ++ n) ++ o) ++ p = e3 ∙ (ap (λ (x : Option ℕ). t2 ++ part_text (codes " of tile ") x) t ∙ ap (λ (x : List ℕ). x ++ p) s2) in
    s3 ∙ (append_assoc (t0 ++ n) o p ∙ append_assoc t0 n (o ++ p))

pub returns : goal.returns
returns c =
    appended c.args.about c.wide.result c.wide-2.result (string_bytes c.args.text.now) (string_bytes c.push_part.new.text) (string_bytes c.push_part-2.new.text)
    (string_bytes c.push_part-3.new.text) c.wide.ensures c.wide-2.ensures c.in_ok-push_part.ensures c.in_ok-push_part-2.ensures c.in_ok-push_part-3.ensures
