-- A walk over marks, place after place, column after column, stripe after stripe.
use Rattle.std.proofs.Common.{◌≡◌, ◌<◌, ◌≤◌, ◌+◌, ◌*◌, ℕ, zero, suc, Bool, refl, sym, ◌∙◌, arith, subst}
use Rattle.jx_tier1_specs.specs.declared.question.Plane.{Plane}
use Rattle.jx_tier1_specs.specs.declared.question.Question.{Question}
use Rattle.jx_tier1_specs.specs.Cells.{Cells}
use Rattle.jx_tier1_specs.specs.Asking.{Asking, and_then, told}
use Rattle.jx_tier1_specs.specs.Pass.{scan_column, scan_row, pass_at, pass_at_nth, scanned}
use Rattle.jx_tier1_specs.proofs.DoneLemmas.{AreNeat, place_neat}
use Rattle.jx_tier1_specs.proofs.GridLemmas.{IsIn}
use Rattle.jx_tier1_specs.proofs.LeafLemmas.{IsBack, leaves_told}
use Rattle.jx_tier1_specs.proofs.PassBackLemmas.{place_back}
use Rattle.jx_tier1_specs.proofs.PhaseLemmas.{at_next}
use Rattle.jx_tier1_specs.proofs.Scanning.{column_inside, row_inside}
use Rattle.jx_tier1_specs.proofs.Told.{told_then}
use Rattle.jx_tier1.specs.Walking.{IsNow}

-- coefficients that go on within the plane
pub record IsAfter (k : Plane) (g v : Cells) : Type 0 where
  pub now : IsNow k v
  pub width : v.width ≡ g.width
  pub height : v.height ≡ g.height

pub place_after : {S : Type 0} (ask : S → Question → Bool × S) (pass : ℕ) (k : Plane) (g : Cells) (x y : ℕ) (s : S) → IsNow k g → IsIn g x y
    → IsAfter k g (told ask (pass_at pass k g x y) s).0
place_after ask pass k g x y s w i =
    let t : Asking Cells = pass_at pass k g x y in
    let v : Cells = (told ask t s).0 in
    let b : IsBack k.planes (k.number + 1) g t v = leaves_told ask t (IsBack k.planes (k.number + 1) g t) s (place_back pass k g x y w.scan i w.at.clean) in
    let n : AreNeat v = leaves_told ask t AreNeat s (place_neat pass k g x y w.scan i w.at.clean w.at.neat) in
    let a = at_next k g.width g.height g v t w.at b n in
    record {
      now = record { scan = w.scan; at = record { width = refl; height = refl; clean = a.clean; least = a.least; neat = a.neat } };
      width = a.width;
      height = a.height;
    }

pub scan_after : {S : Type 0} (ask : S → Question → Bool × S) (pass : ℕ) (k : Plane) (count n : ℕ) (g : Cells) (s : S) → IsNow k g → n + count ≤ g.width * g.height
    → IsAfter k g (told ask (scanned pass k count n g) s).0
scan_after {S = S} ask pass k zero n g s w l = record { now = w; width = refl; height = refl }
scan_after {S = S} ask pass k (suc count) n g s w l =
    let p : n < g.width * g.height = omega arith in
    let i : IsIn g (scan_column g.width g.height n) (scan_row g.width g.height n) =
    record { column = column_inside g.width g.height n p; row = row_inside g.width g.height n p } in
    let t : Asking Cells = pass_at_nth pass k g n in
    let v : Cells = (told ask t s).0 in
    let z : S = (told ask t s).1 in
    let more : Cells → Asking Cells = λ h. scanned pass k count (n + 1) h in
    let a = place_after ask pass k g (scan_column g.width g.height n) (scan_row g.width g.height n) s w i in
    let q : n + 1 + count ≤ v.width * v.height = rw (a.width, a.height) (omega arith) in
    let b = scan_after ask pass k count (n + 1) v z a.now q in
    let P : Cells × S → Type 0 = λ u. IsAfter k g u.0 in
    let e : told ask (and_then t more) s ≡ told ask (more v) z = told_then ask t more s in
    subst P (sym e) (record { now = b.now; width = b.width ∙ a.width; height = b.height ∙ a.height })
