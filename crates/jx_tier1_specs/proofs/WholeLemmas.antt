-- Whole planes: where a grid answers that was decided in them all, the passes of any style make it.
use Rattle.std.proofs.Common.{◌≡◌, ◌≢◌, ◌<◌, ◌≤◌, ◌+◌, ◌-◌, ◌*◌, ◌/◌, ◌%◌, ◌^◌, ◌==◌, ℕ, zero, suc, Bool, true, false, List, [], ◌∷◌, length, get_or, refl, sym, ap, ◌∙◌, arith, subst, inl, inr}
use Rattle.std.proofs.lemmas.Bool.{cases_Bool, cases_eq, eq-eqb, eqb-false, eqb-true}
use Rattle.jx_tier1_specs.specs.declared.coef.Coef.{Coef}
use Rattle.jx_tier1_specs.specs.declared.question.Plane.{Plane}
use Rattle.jx_tier1_specs.specs.Cells.{Cells, zero_coef}
use Rattle.jx_tier1_specs.specs.Asking.{Asking, told}
use Rattle.jx_tier1_specs.specs.Pass.{IsScan, scan_column, scan_row, pass_at_nth, scanned, plane_of, pass_of}
use Rattle.jx_tier1_specs.specs.Segments.{begins}
use Rattle.jx_tier1_specs.specs.Reading.{Reading, Coding, Decoding, opened, renewed, read_answer, read_pass, read_from, zeros, at_start, decoded}
use Rattle.jx_tier1_specs.specs.Needs.{followed, followed_pass, followed_from}
use Rattle.jx_tier1_specs.specs.Alike.{HasPasses, AreOfOneBlock}
use Rattle.jx_tier1_specs.proofs.PowerLemmas.{multiple}
use Rattle.jx_tier1_specs.proofs.FrontLemmas.{IsBefore, IsClean}
use Rattle.jx_tier1_specs.proofs.GridLemmas.{IsFront, AreClean}
use Rattle.jx_tier1_specs.proofs.LeafLemmas.{AllLeaves, leaves_told, leaves_more, followed_then, IsBack}
use Rattle.jx_tier1_specs.proofs.PassBackLemmas.{clean_more, one_scan, zeros_clean, zero_at, passes_back, read_join}
use Rattle.jx_tier1_specs.proofs.BackLemmas.{tree_of, opened_cells}
use Rattle.jx_tier1_specs.proofs.DoneLemmas.{AreNeat}
use Rattle.jx_tier1_specs.proofs.FollowLemmas.{AreDue, place_stays}
use Rattle.jx_tier1_specs.proofs.PhaseLemmas.{IsAt, at_next, at_step, same_length, in_place, leaves_followed, AllSettled, AllDone, any_pass, refinement_pass, cleanup_pass, size_is}
use Rattle.jx_base.specs.Passes.{is_causal}
use Rattle.jx_tier1_specs.proofs.StayLemmas.{zero_times}

due_next : (k : Plane) (m v g : Cells) (t : Asking Cells) → AreDue k m g → IsBack k.planes (k.number + 1) m t v → IsFront k.planes v g → AreDue k v g
due_next k m v g t d b f =
    let e = same_length k.planes (k.number + 1) (k.number + 1) m v d.clean b.clean b.front in
    record {
      front = f;
      clean = b.clean;
      least = λ i l. let p = d.least i (omega arith) in let q = (b.front.at i).decided in omega arith;
      more = λ i l. d.more i (omega arith);
    }

-- a pass where the grid answers
scanned_stays : (pass : ℕ) (k : Plane) (w h count n : ℕ) (m g : Cells) → IsScan k → IsAt k w h m → AreDue k m g → n + count ≤ w * h
    → IsFront k.planes (followed g (scanned pass k count n m)) g
scanned_stays pass k w h zero n m g s a d l = d.front
scanned_stays pass k w h (suc count) n m g s a d l =
    let x : ℕ = scan_column m.width m.height n in
    let y : ℕ = scan_row m.width m.height n in
    let t : Asking Cells = pass_at_nth pass k m n in
    let v : Cells = followed g t in
    let b = leaves_followed g t (λ u. IsBack k.planes (k.number + 1) m t u × AreNeat u) (at_step pass k w h n m s a (omega arith)) in
    let f : IsFront k.planes v g = place_stays pass k m g x y s (in_place w h n m a.width a.height (omega arith)) d in
    let P : Cells → Type 0 = λ u. IsFront k.planes u g in
    subst P (sym (followed_then g t (λ u. scanned pass k count (n + 1) u)))
    (scanned_stays pass k w h count (n + 1) v g s (at_next k w h m v t a b.0 b.1) (due_next k m v g t d b.0 f) (omega arith))

-- before a pass
abbrev pub plane_at : Coding → ℕ → Plane
plane_at c pass = plane_of c.band (is_causal c.style) c.planes pass

pub record Phase (c : Coding) (w h pass : ℕ) (m : Cells) : Type 0 where
  pub here : IsAt (plane_at c pass) w h m
  pub clean : AreClean c.planes ((pass + 1) / 3 + 1) m
  pub settled : (pass % 3 == 0) ≡ true → AllSettled (plane_at c pass) m

tree_is : (c : Coding) (w h pass : ℕ) (m : Cells) → m.width ≡ w → m.height ≡ h → scanned pass (plane_at c pass) (w * h) 0 m ≡ tree_of c pass m
unfolding pass_of
tree_is c w h pass m e f =
    ap (λ (n : ℕ). scanned pass (plane_at c pass) (n * h) 0 m) (sym e) ∙ ap (λ (n : ℕ). scanned pass (plane_at c pass) (m.width * n) 0 m) (sym f)

later : (c : Coding) (w h pass : ℕ) (v : Cells) → IsAt (plane_at c pass) w h v → ((i : ℕ) → i < length v.coefs → (pass + 1 + 2) / 3 ≤ (get_or v.coefs i zero_coef).planes)
    → IsAt (plane_at c (pass + 1)) w h v
later c w h pass v a f = record {
  width = a.width;
  height = a.height;
  clean = clean_more c.planes ((pass + 2) / 3 + 1) ((pass + 1 + 2) / 3 + 1) v (omega arith) a.clean;
  least = f;
  neat = a.neat;
}

one_more : (pass : ℕ) → (pass % 3 == 1) ≡ false → (pass % 3 == 2) ≡ false → pass % 3 ≡ 0
one_more pass e f =
    let a = eqb-false (pass % 3) 1 e in
    let b = eqb-false (pass % 3) 2 f in
    omega arith

next_clean : (c : Coding) (pass : ℕ) (v : Cells) → AreClean c.planes ((pass + 2) / 3 + 1) v → AreClean c.planes ((pass + 1 + 1) / 3 + 1) v
next_clean c pass v a = clean_more c.planes ((pass + 2) / 3 + 1) ((pass + 1 + 1) / 3 + 1) v (omega arith) a

not_test : (n m : ℕ) → n ≢ m → (n == m) ≡ true → ⊥
not_test n m h e = h (eqb-true n m e)

pub phase_next : (c : Coding) (w h pass : ℕ) (m : Cells) → IsScan (plane_at c pass) → Phase c w h pass m → AllLeaves (tree_of c pass m) (Phase c w h (pass + 1))
phase_next c w h pass m s p =
    let k : Plane = plane_at c pass in
    let t : Asking Cells = scanned pass k (w * h) 0 m in
    let Q : Cells → Type 0 = Phase c w h (pass + 1) in
    let go : AllLeaves t Q =
    elim (cases_Bool (pass % 3 == 1)) [
      | inl e ↦ (
          let r = eqb-true (pass % 3) 1 e in
          leaves_more t (IsAt k w h) Q
          (λ v a. record {
            here = later c w h pass v a (λ i l. let q = a.least i l in omega arith);
            clean = next_clean c pass v a.clean;
            settled = λ z. absurd (not_test ((pass + 1) % 3) 0 (omega arith) z);
          })
          (any_pass pass k w h m s p.here))
      | inr e ↦ elim (cases_Bool (pass % 3 == 2)) [
        | inl f ↦ (
            let r = eqb-true (pass % 3) 2 f in
            let n : (pass + 2) / 3 ≡ (pass + 1 + 2) / 3 = omega arith in
            leaves_more t (λ v. IsAt k w h v × AllSettled k v) Q
            (λ v a. record {
              here = later c w h pass v a.0 (λ i l. let q = a.0.least i l in omega arith);
              clean = next_clean c pass v a.0.clean;
              settled = λ z. λ i l. λ u. subst (λ (x : ℕ). x + 1 ≤ (get_or v.coefs i zero_coef).planes) n (a.1 i l u);
            })
            (refinement_pass pass k w h m e f s p.here))
        | inr f ↦ (
            let r = one_more pass e f in
            leaves_more t (λ v. IsAt k w h v × AllDone k v) Q
            (λ v a. record {
              here = later c w h pass v a.0 (λ i l. let q = a.1 i l in omega arith);
              clean = next_clean c pass v a.0.clean;
              settled = λ z. absurd (not_test ((pass + 1) % 3) 0 (omega arith) z);
            })
            (cleanup_pass pass k w h m e f s p.here (p.settled (eq-eqb (pass % 3) 0 r))))
      ]
    ] in
    subst (λ (x : Asking Cells). AllLeaves x Q) (tree_is c w h pass m p.here.width p.here.height) go

-- passes that are read
pub phase_read : (c : Coding) (w h passes count pass : ℕ) (d : Decoding) → HasPasses c passes → pass + count ≤ passes → Phase c w h pass d.cells
    → Phase c w h (pass + count) (read_from c count pass d).cells
unfolding read_from
phase_read c w h passes zero pass d b l p =
    let e : pass ≡ pass + 0 = omega arith in
    subst (λ (n : ℕ). Phase c w h n d.cells) e p
phase_read c w h passes (suc count) pass d b l p =
    let o : Decoding = opened c.style pass d in
    let oc : o.cells ≡ d.cells = opened_cells (begins c.style pass) c.style pass d in
    let r : Reading = renewed c.style o.reading in
    let after : Decoding = read_pass c pass d in
    let s = one_scan c pass passes b (omega arith) in
    let F : Cells → Type 0 = λ x. Phase c w h (pass + 1) (told read_answer (tree_of c pass x) r).0 in
    let n : Phase c w h (pass + 1) after.cells = subst F (sym oc) (leaves_told read_answer (tree_of c pass d.cells) (Phase c w h (pass + 1)) r (phase_next c w h pass d.cells s p)) in
    let e : pass + 1 + count ≡ pass + suc count = omega arith in
    subst (λ (z : ℕ). Phase c w h z (read_from c count (pass + 1) after).cells) e (phase_read c w h passes count (pass + 1) after b (omega arith) n)

-- passes where a grid answers
pub record IsReached (c : Coding) (w h pass : ℕ) (v g : Cells) : Type 0 where
  pub phase : Phase c w h pass v
  pub front : IsFront c.planes v g

pub phase_follow : (c : Coding) (w h passes count pass most : ℕ) (now g : Cells) → HasPasses c passes → pass + count ≤ passes → (pass + count + 1) / 3 + 1 ≤ most
    → ((i : ℕ) → i < h * w → most ≤ (get_or g.coefs i zero_coef).planes) → IsReached c w h pass now g
    → IsReached c w h (pass + count) (followed_from c g count pass now) g
unfolding followed_from
phase_follow c w h passes zero pass most now g b l q f r =
    let e : pass ≡ pass + 0 = omega arith in
    subst (λ (n : ℕ). IsReached c w h n now g) e r
phase_follow c w h passes (suc count) pass most now g b l q f r =
    let k : Plane = plane_at c pass in
    let s = one_scan c pass passes b (omega arith) in
    let v : Cells = followed_pass c g pass now in
    let p : Phase c w h (pass + 1) v = leaves_followed g (tree_of c pass now) (Phase c w h (pass + 1)) (phase_next c w h pass now s r.phase) in
    let z = size_is k w h now r.phase.here in
    let d : AreDue k now g = record {
      front = r.front;
      clean = r.phase.here.clean;
      least = r.phase.here.least;
      more = λ i u. let m = f i (omega arith) in omega arith;
    } in
    let front : IsFront c.planes v g = subst (λ (t : Asking Cells). IsFront c.planes (followed g t) g) (tree_is c w h pass now r.phase.here.width r.phase.here.height)
    (scanned_stays pass k w h (w * h) 0 now g s r.phase.here d (omega arith)) in
    let e : pass + 1 + count ≡ pass + suc count = omega arith in
    subst (λ (n : ℕ). IsReached c w h n (followed_from c g count (pass + 1) v) g) e
    (phase_follow c w h passes count (pass + 1) most v g b (omega arith) (omega arith) f (record { phase = p; front = front }))

-- at the start
pub zeros_at : (c : Coding) (w h : ℕ) → Phase c w h 0 (zeros w h)
zeros_at c w h = record {
  here = record {
    width = refl;
    height = refl;
    clean = zeros_clean c.planes ((0 + 2) / 3 + 1) w h;
    least = λ i l. omega arith;
    neat = λ i z. ap (λ (x : Coef). x.negative) (zero_at (h * w) i);
  };
  clean = zeros_clean c.planes ((0 + 1) / 3 + 1) w h;
  settled = λ z i l n. absurd (n (ap (λ (x : Coef). x.bits) (zero_at (h * w) i)));
}

-- coefficients of the same planes that may become one
coef_same : (a b : Coef) → a.negative ≡ b.negative → a.bits ≡ b.bits → a.planes ≡ b.planes → a ≡ b
coef_same a b n q p =
    let F = λ (x : Bool). record a { negative = x } in
    let G = λ (x : ℕ). record a { negative = b.negative; bits = x } in
    let H = λ (x : ℕ). record a { negative = b.negative; bits = b.bits; planes = x } in
    ap F n ∙ (ap G q ∙ ap H p)

shown_by : (n e : ℕ) → n % 2 ^ e ≡ 0 → n ≢ 0 → n / 2 ^ e ≢ 0
shown_by n e z h q = h (multiple n e z ∙ (ap (λ (x : ℕ). x * 2 ^ e) q ∙ zero_times (2 ^ e)))

one_coef : (planes most : ℕ) (a b g : Coef) → IsClean planes most a → IsClean planes most b → most ≤ a.planes → most ≤ b.planes → IsBefore planes a g → IsBefore planes b g
    → (a.bits ≡ 0 → a.negative ≡ false) → (b.bits ≡ 0 → b.negative ≡ false) → a ≡ b
one_coef planes most a b g ca cb la lb fa fb na nb =
    let da = ca.decided in
    let db = cb.decided in
    let e : b.planes ≡ a.planes = omega arith in
    let s : ℕ = planes - a.planes in
    let zb : b.bits % 2 ^ s ≡ 0 = subst (λ (n : ℕ). b.bits % 2 ^ (planes - n) ≡ 0) e cb.low in
    let tb : g.bits / 2 ^ s ≡ b.bits / 2 ^ s = subst (λ (n : ℕ). g.bits / 2 ^ (planes - n) ≡ b.bits / 2 ^ (planes - n)) e fb.bits in
    let q : a.bits ≡ b.bits = multiple a.bits s ca.low ∙ (ap (λ (n : ℕ). n * 2 ^ s) (sym fa.bits ∙ tb) ∙ sym (multiple b.bits s zb)) in
    coef_same a b
    (elim (cases_eq a.bits 0) [
      | inl z ↦ na z ∙ sym (nb (sym q ∙ z))
      | inr n ↦ (
          let u = shown_by a.bits s ca.low n in
          let v : b.bits / 2 ^ (planes - b.planes) ≢ 0 = shown_by b.bits (planes - b.planes) cb.low (λ w. n (q ∙ w)) in
          sym (fa.sign u) ∙ fb.sign v)
    ])
    q (sym e)

list_same : (xs ys : List Coef) → length xs ≡ length ys → ((i : ℕ) → i < length xs → get_or xs i zero_coef ≡ get_or ys i zero_coef) → xs ≡ ys
list_same [] [] e f = refl
list_same [] (y ∷ ys) e f = absurd (omega arith)
list_same (x ∷ xs) [] e f = absurd (omega arith)
list_same (x ∷ xs) (y ∷ ys) e f =
    let r : xs ≡ ys = list_same xs ys (omega arith) (λ i l. f (suc i) (omega arith)) in
    let h : x ≡ y = f 0 (omega arith) in
    ap (λ (z : Coef). z ∷ xs) h ∙ ap (λ (zs : List Coef). y ∷ zs) r

cells_same : (a b : Cells) → a.width ≡ b.width → a.height ≡ b.height → a.coefs ≡ b.coefs → a ≡ b
cells_same a b w h c =
    let F = λ (x : ℕ). record a { width = x } in
    let G = λ (x : ℕ). record a { width = b.width; height = x } in
    let H = λ (x : List Coef). record a { width = b.width; height = b.height; coefs = x } in
    ap F w ∙ (ap G h ∙ ap H c)

-- after a whole number of planes two grids that may become one are the same
one_end : (c d : Coding) (w h pass : ℕ) (u v g : Cells) → d.planes ≡ c.planes → pass % 3 ≡ 1 → Phase c w h pass u → Phase d w h pass v
    → IsFront c.planes u g → IsFront d.planes v g → u ≡ v
one_end c d w h pass u v g e r p q f j =
    let zu = size_is (plane_at c pass) w h u p.here in
    let zv = size_is (plane_at d pass) w h v q.here in
    let n : (pass + 1) / 3 + 1 ≡ (pass + 2) / 3 = omega arith in
    let P : ℕ → Type 0 = λ x. AreClean x ((pass + 1) / 3 + 1) v in
    let cv : AreClean c.planes ((pass + 1) / 3 + 1) v = subst P e q.clean in
    let fv : IsFront c.planes v g = subst (λ (x : ℕ). IsFront x v g) e j in
    cells_same u v (p.here.width ∙ sym q.here.width) (p.here.height ∙ sym q.here.height)
    (list_same u.coefs v.coefs (zu ∙ sym zv)
    (λ i l.
    let a = p.here.least i l in
    let b = q.here.least i (omega arith) in
    one_coef c.planes ((pass + 1) / 3 + 1) (get_or u.coefs i zero_coef) (get_or v.coefs i zero_coef) (get_or g.coefs i zero_coef)
    (p.clean.at i) (cv.at i) (omega arith) (omega arith) (f.at i) (fv.at i) (p.here.neat i) (q.here.neat i)))

-- what more passes make of a block
fronts : (width height : ℕ) (c : Coding) (segments : List (List ℕ)) (passes first : ℕ) → first ≤ passes → HasPasses c passes
    → IsFront c.planes (decoded width height c segments first).cells (decoded width height c segments passes).cells
unfolding decoded
fronts width height c segments passes first l h =
    let start : Decoding = at_start width height segments in
    let v : Decoding = read_from c first 0 start in
    let w : Decoding = read_from c passes 0 start in
    let a = passes_back c passes first 0 start h (omega arith) (zeros_clean c.planes ((0 + 1) / 3 + 1) width height) in
    let b = passes_back c passes (passes - first) (0 + first) v h (omega arith) (clean_more c.planes ((0 + first + 1) / 3 + 1) ((0 + first + 1) / 3 + 1) v.cells (omega arith) a.clean) in
    let k : first + (passes - first) ≡ passes = omega arith in
    let j : w ≡ read_from c (passes - first) (0 + first) v = ap (λ (n : ℕ). read_from c n 0 start) (sym k) ∙ read_join c first (passes - first) 0 start in
    subst (λ (x : Decoding). IsFront c.planes v.cells x.cells) (sym j) b.front

phase_decoded : (width height : ℕ) (c : Coding) (segments : List (List ℕ)) (passes first : ℕ) → first ≤ passes → HasPasses c passes
    → Phase c width height (0 + first) (decoded width height c segments first).cells
unfolding decoded
phase_decoded width height c segments passes first l h =
    phase_read c width height passes first 0 (at_start width height segments) h (omega arith) (zeros_at c width height)

none_read : (width height : ℕ) (c : Coding) (segments : List (List ℕ)) → (decoded width height c segments 0).cells ≡ zeros width height
unfolding decoded read_from
none_read width height c segments = refl

-- in any style, the first passes make what they made, where they end with a plane and all passes do
pub record IsMadeAgain (width height : ℕ) (c d : Coding) (segments : List (List ℕ)) (passes first : ℕ) : Type 0 where
  pub width_is : (decoded width height c segments passes).cells.width ≡ width
  pub height_is : (decoded width height c segments passes).cells.height ≡ height
  pub cells : followed_from d (decoded width height c segments passes).cells first 0 (zeros width height) ≡ (decoded width height c segments first).cells

pub made_again : (width height : ℕ) (c d : Coding) (segments : List (List ℕ)) (passes first : ℕ) → first ≤ passes → passes % 3 ≡ 1 → first % 3 ≡ 1
    → HasPasses c passes → AreOfOneBlock c d → IsMadeAgain width height c d segments passes first
made_again width height c d segments passes first l r t h e =
    let g : Cells = (decoded width height c segments passes).cells in
    let u : Cells = (decoded width height c segments first).cells in
    let k = h.some in
    let m = h.most in
    let n = h.few in
    let q = e.planes in
    let hd : HasPasses d passes = record { some = omega arith; most = omega arith; few = omega arith } in
    let p = phase_decoded width height c segments passes first l h in
    let w = phase_decoded width height c segments passes passes (omega arith) h in
    let size = size_is (plane_at c (0 + passes)) width height g w.here in
    let z0 : IsFront c.planes (zeros width height) g =
    subst (λ (x : Cells). IsFront c.planes x g) (none_read width height c segments) (fronts width height c segments passes 0 (omega arith) h) in
    let z : IsFront d.planes (zeros width height) g = subst (λ (x : ℕ). IsFront x (zeros width height) g) (sym q) z0 in
    let v = phase_follow d width height passes first 0 ((passes + 2) / 3) (zeros width height) g hd (omega arith) (omega arith)
    (λ i b. let y = w.here.least i (omega arith) in omega arith) (record { phase = zeros_at d width height; front = z }) in
    record {
      width_is = w.here.width;
      height_is = w.here.height;
      cells = sym (one_end c d width height (0 + first) u (followed_from d g first 0 (zeros width height)) g q (omega arith) p v.phase
          (fronts width height c segments passes first l h) v.front);
    }
