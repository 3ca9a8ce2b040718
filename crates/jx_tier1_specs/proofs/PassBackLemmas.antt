-- Passes go the same way again where a grid answers that their result may become.
use Rattle.std.proofs.Common.{◌≡◌, ◌<◌, ◌≤◌, ◌+◌, ◌-◌, ◌*◌, ◌/◌, ◌%◌, ◌^◌, ◌==◌, ℕ, zero, suc, Bool, List, get_or, replicate, refl, sym, ap, ◌∙◌, arith, subst, if◌then◌else◌}
use Rattle.std.proofs.lemmas.List.{length-replicate}
use Rattle.std.proofs.Math.Nat.{zero-mod}
use Rattle.jx_base.specs.declared.names.Band.{Band}
use Rattle.jx_tier1_specs.specs.declared.coef.Coef.{Coef}
use Rattle.jx_tier1_specs.specs.declared.question.Plane.{Plane}
use Rattle.jx_tier1_specs.specs.Cells.{Cells, zero_coef}
use Rattle.jx_tier1_specs.specs.Asking.{told}
use Rattle.jx_tier1_specs.specs.Pass.{IsScan, scan_column, scan_row, significance_at, refinement_at, cleanup_at, pass_at, pass_at_nth, scanned, plane_of, pass_of}
use Rattle.jx_tier1_specs.specs.Segments.{begins}
use Rattle.jx_tier1_specs.specs.Reading.{Reading, Coding, Decoding, opened, renewed, read_answer, read_pass, read_from, zeros, at_start, decoded}
use Rattle.jx_tier1_specs.specs.Needs.{followed, followed_pass, followed_from}
use Rattle.jx_tier1_specs.specs.Alike.{HasPasses, AreAlike}
use Rattle.jx_tier1_specs.proofs.Scanning.{column_inside, row_inside}
use Rattle.jx_tier1_specs.proofs.FrontLemmas.{IsClean}
use Rattle.jx_tier1_specs.proofs.GridLemmas.{IsFront, AreClean, IsIn, front_same, front_next}
use Rattle.jx_tier1_specs.proofs.LeafLemmas.{IsBack, Back, back_told, back_then, leaves_told}
use Rattle.jx_tier1_specs.proofs.StepLemmas.{if_back, PassBack, significance_back, refinement_back}
use Rattle.jx_tier1_specs.proofs.RunBackLemmas.{cleanup_back}
use Rattle.jx_tier1_specs.proofs.BackLemmas.{tree_of, opened_cells}
use Rattle.jx_base.specs.Passes.{is_causal}

pub place_back : (pass : ℕ) (k : Plane) (m : Cells) (x y : ℕ) → IsScan k → IsIn m x y → AreClean k.planes (k.number + 1) m → PassBack k m (pass_at pass k m x y)
place_back pass k m x y s i a =
    if_back k.planes (k.number + 1) m (pass % 3 == 1) (significance_at k m x y) (if pass % 3 == 2 then refinement_at k m x y else cleanup_at k m x y)
    (λ e. significance_back k m x y s i a)
    (λ e. if_back k.planes (k.number + 1) m (pass % 3 == 2) (refinement_at k m x y) (cleanup_at k m x y)
    (λ f. refinement_back k m x y s i a) (λ f. cleanup_back k m x y s i a))

pub room : (vw vh w h n count : ℕ) → vw ≡ w → vh ≡ h → n + suc count ≤ w * h → n + 1 + count ≤ vw * vh
room vw vh w h n count e f l = rw (e, f) (omega arith)

scanned_back : (pass : ℕ) (k : Plane) (count n : ℕ) (m : Cells) → IsScan k → AreClean k.planes (k.number + 1) m → n + count ≤ m.width * m.height
    → PassBack k m (scanned pass k count n m)
scanned_back pass k zero n m s a l = back_told k.planes (k.number + 1) m a
scanned_back pass k (suc count) n m s a l =
    let p : n < m.width * m.height = omega arith in
    let i : IsIn m (scan_column m.width m.height n) (scan_row m.width m.height n) =
    record { column = column_inside m.width m.height n p; row = row_inside m.width m.height n p } in
    back_then k.planes (k.number + 1) m (pass_at_nth pass k m n) (λ h. scanned pass k count (n + 1) h)
    (place_back pass k m (scan_column m.width m.height n) (scan_row m.width m.height n) s i a)
    (λ v b. scanned_back pass k count (n + 1) v s b.clean (room v.width v.height m.width m.height n count b.front.width b.front.height l))

-- what a pass of some coding may end in
pub pass_back : (c : Coding) (pass : ℕ) (m : Cells) → IsScan (plane_of c.band (is_causal c.style) c.planes pass) → AreClean c.planes ((pass + 2) / 3 + 1) m
    → Back c.planes ((pass + 2) / 3 + 1) m (tree_of c pass m)
unfolding pass_of
pass_back c pass m s a = scanned_back pass (plane_of c.band (is_causal c.style) c.planes pass) (m.width * m.height) 0 m s a (omega arith)

-- a pass that is read
read_back_pass : (c : Coding) (pass : ℕ) (d : Decoding) → IsScan (plane_of c.band (is_causal c.style) c.planes pass) → AreClean c.planes ((pass + 2) / 3 + 1) d.cells
    → IsBack c.planes ((pass + 2) / 3 + 1) d.cells (tree_of c pass d.cells) (read_pass c pass d).cells
read_back_pass c pass d s a =
    let o : Decoding = opened c.style pass d in
    let e : o.cells ≡ d.cells = opened_cells (begins c.style pass) c.style pass d in
    let r : Reading = renewed c.style o.reading in
    let P : Cells → Type 0 = λ x. IsBack c.planes ((pass + 2) / 3 + 1) d.cells (tree_of c pass d.cells) (told read_answer (tree_of c pass x) r).0 in
    subst P (sym e) (leaves_told read_answer (tree_of c pass d.cells) (IsBack c.planes ((pass + 2) / 3 + 1) d.cells (tree_of c pass d.cells)) r (pass_back c pass d.cells s a))

wider : (planes fewer more : ℕ) (c : Coef) → fewer ≤ more → IsClean planes fewer c → IsClean planes more c
wider planes fewer more c l h = let d = h.decided in record { decided = omega arith; low = h.low }

pub clean_more : (planes fewer more : ℕ) (g : Cells) → fewer ≤ more → AreClean planes fewer g → AreClean planes more g
clean_more planes fewer more g l a = record { whole = a.whole; at = λ i. wider planes fewer more (get_or g.coefs i zero_coef) l (a.at i) }

pub one_scan : (c : Coding) (pass passes : ℕ) → HasPasses c passes → pass < passes → IsScan (plane_of c.band (is_causal c.style) c.planes pass)
one_scan c pass passes h l = let f = h.few in let s = h.some in record { number = omega arith; most = h.most }

-- passes that are read
pub record IsFollowed (c : Coding) (count pass : ℕ) (d : Decoding) : Type 0 where
  pub front : IsFront c.planes d.cells (read_from c count pass d).cells
  pub clean : AreClean c.planes ((pass + count + 1) / 3 + 1) (read_from c count pass d).cells
  pub follows : (g : Cells) → IsFront c.planes (read_from c count pass d).cells g → followed_from c g count pass d.cells ≡ (read_from c count pass d).cells

pub passes_back : (c : Coding) (passes count pass : ℕ) (d : Decoding) → HasPasses c passes → pass + count ≤ passes → AreClean c.planes ((pass + 1) / 3 + 1) d.cells
    → IsFollowed c count pass d
unfolding read_from followed_from
passes_back c passes zero pass d h l a = record {
  front = front_same c.planes d.cells;
  clean = clean_more c.planes ((pass + 1) / 3 + 1) ((pass + 0 + 1) / 3 + 1) d.cells (omega arith) a;
  follows = λ g f. refl;
}
passes_back c passes (suc count) pass d h l a =
    let s = one_scan c pass passes h (omega arith) in
    let after : Decoding = read_pass c pass d in
    let b = read_back_pass c pass d s (clean_more c.planes ((pass + 1) / 3 + 1) ((pass + 2) / 3 + 1) d.cells (omega arith) a) in
    let r = passes_back c passes count (pass + 1) after h (omega arith)
    (clean_more c.planes ((pass + 2) / 3 + 1) ((pass + 1 + 1) / 3 + 1) after.cells (omega arith) b.clean) in
    let end : Cells = (read_from c count (pass + 1) after).cells in
    record {
      front = front_next c.planes d.cells after.cells end b.front r.front;
      clean = clean_more c.planes ((pass + 1 + count + 1) / 3 + 1) ((pass + suc count + 1) / 3 + 1) end (omega arith) r.clean;
      follows = λ g f.
          ap (λ (x : Cells). followed_from c g count (pass + 1) x) (b.follows g (front_next c.planes after.cells end g r.front f)) ∙ r.follows g f;
    }

pub zero_at : (n i : ℕ) → get_or (replicate n zero_coef) i zero_coef ≡ zero_coef
zero_at zero i = refl
zero_at (suc n) zero = refl
zero_at (suc n) (suc i) = zero_at n i

pub zeros_clean : (planes most width height : ℕ) → AreClean planes most (zeros width height)
zeros_clean planes most width height = record {
  whole = record { size = length-replicate (height * width) zero_coef };
  at = λ i. subst (λ (x : Coef). IsClean planes most x) (sym (zero_at (height * width) i)) (record { decided = omega arith; low = zero-mod (2 ^ (planes - 0)) });
}

-- passes in two parts
pub read_join : (c : Coding) (first more pass : ℕ) (d : Decoding) → read_from c (first + more) pass d ≡ read_from c more (pass + first) (read_from c first pass d)
unfolding read_from
read_join c zero more pass d =
    let e : 0 + more ≡ more = omega arith in
    let f : pass + 0 ≡ pass = omega arith in
    rw (e, f) refl
read_join c (suc first) more pass d =
    let e : suc first + more ≡ suc (first + more) = omega arith in
    let f : pass + suc first ≡ pass + 1 + first = omega arith in
    rw (e, f) (read_join c first more (pass + 1) (read_pass c pass d))

alike_pass : (c d : Coding) (g : Cells) (pass : ℕ) (now : Cells) → AreAlike c d → followed_pass d g pass now ≡ followed_pass c g pass now
alike_pass c d g pass now h =
    ap (λ (b : Band). followed g (pass_of b (is_causal d.style) d.planes pass now)) h.band
    ∙ (ap (λ (b : Bool). followed g (pass_of c.band b d.planes pass now)) h.causal
    ∙ ap (λ (p : ℕ). followed g (pass_of c.band (is_causal c.style) p pass now)) h.planes)

pub alike_from : (c d : Coding) (g : Cells) (count pass : ℕ) (now : Cells) → AreAlike c d → followed_from d g count pass now ≡ followed_from c g count pass now
unfolding followed_from
alike_from c d g zero pass now h = refl
alike_from c d g (suc count) pass now h =
    ap (λ (x : Cells). followed_from d g count (pass + 1) x) (alike_pass c d g pass now h) ∙ alike_from c d g count (pass + 1) (followed_pass c g pass now) h

-- the first passes of those that were read, where a grid answers that all of them made
pub record IsRefollowed (width height : ℕ) (c d : Coding) (segments : List (List ℕ)) (passes first : ℕ) : Type 0 where
  pub width_is : (decoded width height c segments passes).cells.width ≡ width
  pub height_is : (decoded width height c segments passes).cells.height ≡ height
  pub cells : followed_from d (decoded width height c segments passes).cells first 0 (zeros width height) ≡ (decoded width height c segments first).cells

pub refollowed : (width height : ℕ) (c d : Coding) (segments : List (List ℕ)) (passes first : ℕ) → first ≤ passes → HasPasses c passes → AreAlike c d
    → IsRefollowed width height c d segments passes first
unfolding decoded
refollowed width height c d segments passes first l h e =
    let start : Decoding = at_start width height segments in
    let v : Decoding = read_from c first 0 start in
    let w : Decoding = read_from c passes 0 start in
    let a = passes_back c passes first 0 start h (omega arith) (zeros_clean c.planes ((0 + 1) / 3 + 1) width height) in
    let b = passes_back c passes (passes - first) (0 + first) v h (omega arith) (clean_more c.planes ((0 + first + 1) / 3 + 1) ((0 + first + 1) / 3 + 1) v.cells (omega arith) a.clean) in
    let k : first + (passes - first) ≡ passes = omega arith in
    let j : w ≡ read_from c (passes - first) (0 + first) v = ap (λ (n : ℕ). read_from c n 0 start) (sym k) ∙ read_join c first (passes - first) 0 start in
    let f : IsFront c.planes v.cells w.cells = subst (λ (x : Decoding). IsFront c.planes v.cells x.cells) (sym j) b.front in
    record {
      width_is = f.width ∙ a.front.width;
      height_is = f.height ∙ a.front.height;
      cells = alike_from c d w.cells first 0 (zeros width height) e ∙ a.follows w.cells f;
    }
