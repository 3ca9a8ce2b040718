-- Passes of a block, one after the other: what its lists show between them.
use Rattle.std.proofs.Common.{◌≡◌, ◌≤◌, ◌+◌, ◌*◌, ◌/◌, ◌%◌, ◌==◌, ℕ, zero, suc, Bool, refl, sym, ap, ◌∙◌, arith, subst, if◌then◌else◌}
use Rattle.jx_tier1_specs.specs.declared.question.Plane.{Plane}
use Rattle.jx_tier1_specs.specs.declared.question.Question.{Question}
use Rattle.jx_tier1_specs.specs.Cells.{Cells, coef_at}
use Rattle.jx_tier1_specs.specs.Asking.{Asking, told}
use Rattle.jx_tier1_specs.specs.Pass.{significance_at, refinement_at, cleanup_at, pass_at, pass_at_nth, scan_column, scan_row, scanned}
use Rattle.jx_tier1_specs.proofs.Told.{told_then}
use Rattle.jx_tier1.specs.Blocks.{BlockWords, bit_in, wide_for}
use Rattle.jx_tier1.specs.BlockPasses.{IsVisited, passes_at, AreVisited, Shows, Ends, IsMidway, ComesTo}
use Rattle.jx_tier1.specs.Walking.{IsNow}
use Rattle.jx_tier1.proofs.PaceLemmas.{scan_after}
use Rattle.jx_tier1.proofs.VisitLemmas.{none_before}

-- a pass's kind is all that counts
kind_is : (m n : ℕ) (k : Plane) (g : Cells) (x y : ℕ) → m % 3 ≡ n % 3 → pass_at m k g x y ≡ pass_at n k g x y
kind_is m n k g x y e = ap (λ (z : ℕ). if z == 1 then significance_at k g x y else if z == 2 then refinement_at k g x y else cleanup_at k g x y) e

pub same_kind : {S : Type 0} (ask : S → Question → Bool × S) (m n : ℕ) (k : Plane) (count p : ℕ) (g : Cells) (s : S) → m % 3 ≡ n % 3
    → told ask (scanned m k count p g) s ≡ told ask (scanned n k count p g) s
same_kind ask m n k zero p g s e = refl
same_kind {S = S} ask m n k (suc count) p g s e =
    let a : Asking Cells = pass_at_nth m k g p in
    let b : Asking Cells = pass_at_nth n k g p in
    let f : a ≡ b = kind_is m n k g (scan_column g.width g.height p) (scan_row g.width g.height p) e in
    let more : Cells → Asking Cells = λ h. scanned m k count (p + 1) h in
    let rest : Cells → Asking Cells = λ h. scanned n k count (p + 1) h in
    told_then ask a more s
    ∙ (ap (λ (t : Asking Cells). told ask (more (told ask t s).0) (told ask t s).1) f
    ∙ (same_kind ask m n k count (p + 1) (told ask b s).0 (told ask b s).1 e ∙ sym (told_then ask b rest s)))

-- no place stands before the first word
pub visited_before : (n number : ℕ) (g : Cells) (b : BlockWords) (x y : ℕ) → IsVisited n number (coef_at g x y) (bit_in (wide_for b.width) b.visited (x + 1) (y + 1))
    → IsVisited (passes_at n 0 0 x y) number (coef_at g x y) (bit_in (wide_for b.width) b.visited (x + 1) (y + 1))
visited_before n number g b x y v =
    subst (λ (z : Bool). IsVisited (if z then suc n else n) number (coef_at g x y) (bit_in (wide_for b.width) b.visited (x + 1) (y + 1))) (sym (none_before x y)) v

-- before a pass
pub midway_of : (pass m : ℕ) (k : Plane) (g : Cells) (b : BlockWords) → k.number ≡ (pass + 2) / 3 → m ≡ (pass + 2) % 3 → Shows k.planes pass g b → IsMidway m 0 0 k g b
midway_of pass m k g b e f s = record {
  drawn = s.drawn;
  visited = subst (λ (z : ℕ). AreVisited z k.number 0 0 g b) (sym f) (subst (λ (z : ℕ). AreVisited ((pass + 2) % 3) z 0 0 g b) (sym e) s.visited);
}

-- after it: the next one is a pass of the same plane, or the first one of the next plane, in which nothing was decided
pub ends_within : {S : Type 0} (ask : S → Question → Bool × S) (pass kind m : ℕ) (k : Plane) (g : Cells) (b : BlockWords) (u v : S) → k.number ≡ (pass + 2) / 3
    → pass % 3 ≡ kind % 3 → m ≡ (pass + 1 + 2) % 3 → (pass + 1 + 2) / 3 ≡ (pass + 2) / 3
    → ComesTo m 0 0 k (told ask (scanned kind k (g.width * g.height) 0 g) u) b v
    → Ends k.planes (pass + 1) (told ask (scanned pass k (g.width * g.height) 0 g) u) b v
ends_within {S = S} ask pass kind m k g b u v e f n o c =
    let P : Cells × S → Type 0 = λ q. Ends k.planes (pass + 1) q b v in
    let h : Cells = (told ask (scanned kind k (g.width * g.height) 0 g) u).0 in
    subst P (sym (same_kind ask pass kind k (g.width * g.height) 0 g u f)) (record {
      block = record {
        drawn = c.block.drawn;
        visited = subst (λ (z : ℕ). AreVisited z ((pass + 1 + 2) / 3) 0 0 h b) n
            (subst (λ (z : ℕ). AreVisited m z 0 0 h b) (e ∙ sym o) c.block.visited);
      };
      source = c.source;
    })

pub ends_plane : {S : Type 0} (ask : S → Question → Bool × S) (pass m : ℕ) (k : Plane) (g : Cells) (b : BlockWords) (u v : S) → k.number ≡ (pass + 2) / 3 → IsNow k g
    → pass % 3 ≡ 0 → ComesTo m 0 0 k (told ask (scanned 0 k (g.width * g.height) 0 g) u) b v
    → Ends k.planes (pass + 1) (told ask (scanned pass k (g.width * g.height) 0 g) u) b v
ends_plane {S = S} ask pass m k g b u v e w f c =
    let P : Cells × S → Type 0 = λ q. Ends k.planes (pass + 1) q b v in
    let h : Cells = (told ask (scanned 0 k (g.width * g.height) 0 g) u).0 in
    let a = scan_after ask 0 k (g.width * g.height) 0 g u w (omega arith) in
    let none : AreVisited 0 ((pass + 1 + 2) / 3) 0 0 h b = record {
      at = λ x y l r.
          (let d = (a.now.at.clean.at (y * h.width + x)).decided in
          let z : (coef_at h x y).planes ≤ (pass + 1 + 2) / 3 = omega arith in
          visited_before 0 ((pass + 1 + 2) / 3) h b x y z);
    } in
    subst P (sym (same_kind ask pass 0 k (g.width * g.height) 0 g u f)) (record {
      block = record { drawn = c.block.drawn; visited = subst (λ (z : ℕ). AreVisited z ((pass + 1 + 2) / 3) 0 0 h b) (let z : 0 ≡ (pass + 1 + 2) % 3 = omega arith in z) none };
      source = c.source;
    })
