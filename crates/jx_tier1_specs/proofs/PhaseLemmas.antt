-- What whole passes have done.
use Rattle.std.proofs.Common.{◌≡◌, ◌<◌, ◌≤◌, ◌+◌, ◌*◌, ◌/◌, ◌%◌, ◌==◌, ℕ, zero, suc, Bool, true, false, length, get_or, refl, sym, ap, ◌∙◌, arith, subst, inl, inr, if◌then◌else◌, mul-le-mul_right}
use Rattle.std.proofs.lemmas.Bool.{cases_lt}
use Rattle.std.proofs.lemmas.Nat.{div-add-mod'}
use Rattle.std.proofs.Math.Nat.{mod-lt, div-lt_iff_lt-mul, mul-le-mul_right}
use Rattle.jx_tier1_specs.specs.declared.question.Plane.{Plane}
use Rattle.jx_tier1_specs.specs.Cells.{Cells, zero_coef}
use Rattle.jx_tier1_specs.specs.Asking.{Asking, Told, Ask}
use Rattle.jx_tier1_specs.specs.Pass.{IsScan, scan_column, scan_row, significance_at, refinement_at, cleanup_at, pass_at, pass_at_nth, scanned}
use Rattle.jx_tier1_specs.specs.Needs.{answer_of, followed}
use Rattle.jx_tier1_specs.proofs.Scanning.{column_inside, row_inside}
use Rattle.jx_tier1_specs.proofs.GridLemmas.{IsFront, AreClean, IsIn, index_in}
use Rattle.jx_tier1_specs.proofs.LeafLemmas.{AllLeaves, leaves_more, leaves_then, IsBack}
use Rattle.jx_tier1_specs.proofs.PassBackLemmas.{place_back}
use Rattle.jx_tier1_specs.proofs.CoverLemmas.{scanned_once}
use Rattle.jx_tier1_specs.proofs.DoneLemmas.{IsDone, IsSettled, place_of, refinement_settles, cleanup_done, done_front, settled_coef, AreNeat, place_neat}

pub leaves_followed : (g : Cells) (t : Asking Cells) (P : Cells → Type 0) → AllLeaves t P → P (followed g t)
leaves_followed g (Told a) P h = h
leaves_followed g (Ask q k) P h = leaves_followed g (k (answer_of g q)) P (h (answer_of g q))

leaves_both : (t : Asking Cells) (P Q : Cells → Type 0) → AllLeaves t P → AllLeaves t Q → AllLeaves t (λ v. P v × Q v)
leaves_both (Told a) P Q p q = (p, q)
leaves_both (Ask x k) P Q p q = λ b. leaves_both (k b) P Q (p b) (q b)

-- within a plane: what was decided of the planes above
pub record IsAt (k : Plane) (w h : ℕ) (m : Cells) : Type 0 where
  pub width : m.width ≡ w
  pub height : m.height ≡ h
  pub clean : AreClean k.planes (k.number + 1) m
  pub least : (i : ℕ) → i < length m.coefs → k.number ≤ (get_or m.coefs i zero_coef).planes
  pub neat : AreNeat m

pub same_length : (planes most more : ℕ) (m v : Cells) → AreClean planes most m → AreClean planes more v → IsFront planes m v → length v.coefs ≡ length m.coefs
same_length planes most more m v a b f =
    b.whole.size ∙ (ap (λ (n : ℕ). n * v.width) f.height ∙ (ap (λ (n : ℕ). m.height * n) f.width ∙ sym a.whole.size))

pub at_next : (k : Plane) (w h : ℕ) (m v : Cells) (t : Asking Cells) → IsAt k w h m → IsBack k.planes (k.number + 1) m t v → AreNeat v → IsAt k w h v
at_next k w h m v t a b n =
    let e = same_length k.planes (k.number + 1) (k.number + 1) m v a.clean b.clean b.front in
    record {
      width = b.front.width ∙ a.width;
      height = b.front.height ∙ a.height;
      clean = b.clean;
      least = λ i l. let p = a.least i (omega arith) in let q = (b.front.at i).decided in omega arith;
      neat = n;
    }

settled_next : (k : Plane) (w h : ℕ) (m v : Cells) (t : Asking Cells) (i : ℕ) → IsAt k w h m → IsBack k.planes (k.number + 1) m t v → i < length m.coefs
    → IsSettled k m i → IsSettled k v i
settled_next k w h m v t i a b l s =
    settled_coef k (get_or m.coefs i zero_coef) (get_or v.coefs i zero_coef) (b.front.at i) (a.clean.at i) (b.clean.at i) (a.least i l) s

abbrev index_of : ℕ → ℕ → ℕ → ℕ
index_of w h n = scan_row w h n * w + scan_column w h n

index_less : (w h n : ℕ) → n < w * h → index_of w h n < h * w
index_less w h n l =
    let a = column_inside w h n l in
    let b = row_inside w h n l in
    let m : (scan_row w h n + 1) * w ≤ h * w = mul-le-mul_right w (omega arith) in
    omega arith

-- a pass over the places: what holds of the grid, and of each place once it was scanned
fold_leaves : (pass : ℕ) (k : Plane) (w h : ℕ) (I : Cells → Type 0) (R : Cells → ℕ → Type 0)
    → ((m : Cells) (n : ℕ) → I m → n < w * h
    → AllLeaves (pass_at_nth pass k m n) (λ v. I v × R v (index_of w h n) × ((j : ℕ) → j < w * h → R m (index_of w h j) → R v (index_of w h j))))
    → (count n : ℕ) (m : Cells) → I m → ((j : ℕ) → j < n → R m (index_of w h j)) → n + count ≤ w * h
    → AllLeaves (scanned pass k count n m) (λ v. I v × ((j : ℕ) → j < n + count → R v (index_of w h j)))
fold_leaves pass k w h I R step zero n m i f l = (i, λ j q. f j (omega arith))
fold_leaves pass k w h I R step (suc count) n m i f l =
    let P : Cells → Type 0 = λ v. I v × R v (index_of w h n) × ((j : ℕ) → j < w * h → R m (index_of w h j) → R v (index_of w h j)) in
    let Q : Cells → Type 0 = λ v. I v × ((j : ℕ) → j < n + suc count → R v (index_of w h j)) in
    let S : Cells → Type 0 = λ v. I v × ((j : ℕ) → j < n + 1 + count → R v (index_of w h j)) in
    let more = λ (v : Cells). scanned pass k count (n + 1) v in
    leaves_then (pass_at_nth pass k m n) more Q
    (leaves_more (pass_at_nth pass k m n) P (λ v. AllLeaves (more v) Q)
    (λ v p. leaves_more (more v) S Q (λ u s. (s.0, λ j q. s.1 j (omega arith)))
    (fold_leaves pass k w h I R step count (n + 1) v p.0
    (λ j q. elim (cases_lt j n) [
      | inl a ↦ p.2 j (omega arith) (f j a)
      | inr a ↦ (let e : n ≡ j = omega arith in subst (λ (z : ℕ). R v (index_of w h z)) e p.1)
    ])
    (omega arith)))
    (step m n i (omega arith)))

pub in_place : (w h n : ℕ) (m : Cells) → m.width ≡ w → m.height ≡ h → n < w * h → IsIn m (scan_column m.width m.height n) (scan_row m.width m.height n)
in_place w h n m e f l =
    let p : n < m.width * m.height = rw (e, f) l in
    record { column = column_inside m.width m.height n p; row = row_inside m.width m.height n p }

index_same : (w h n : ℕ) (m : Cells) → m.width ≡ w → m.height ≡ h → place_of m (scan_column m.width m.height n) (scan_row m.width m.height n) ≡ index_of w h n
index_same w h n m e f = rw (e, f) refl

index_there : (k : Plane) (w h j : ℕ) (m : Cells) → IsAt k w h m → j < w * h → index_of w h j < length m.coefs
index_there k w h j m a l =
    let s = a.clean.whole.size in
    let e = ap (λ (n : ℕ). n * m.width) a.height ∙ ap (λ (n : ℕ). h * n) a.width in
    let q = index_less w h j l in
    omega arith

-- one place: the grid stays within its plane
pub at_step : (pass : ℕ) (k : Plane) (w h n : ℕ) (m : Cells) → IsScan k → IsAt k w h m → n < w * h
    → AllLeaves (pass_at_nth pass k m n) (λ v. IsBack k.planes (k.number + 1) m (pass_at_nth pass k m n) v × AreNeat v)
at_step pass k w h n m s a l =
    let x : ℕ = scan_column m.width m.height n in
    let y : ℕ = scan_row m.width m.height n in
    let i = in_place w h n m a.width a.height l in
    leaves_both (pass_at_nth pass k m n) (IsBack k.planes (k.number + 1) m (pass_at_nth pass k m n)) AreNeat
    (place_back pass k m x y s i a.clean) (place_neat pass k m x y s i a.clean a.neat)

-- all numbers are those of places
some_wide : (w h i : ℕ) → i < h * w → 0 < w
some_wide zero h i l = omega arith
some_wide (suc w) h i l = omega arith

all_numbers : (w h : ℕ) (Q : ℕ → Type 0) → ((j : ℕ) → j < w * h → Q (index_of w h j)) → (i : ℕ) → i < h * w → Q i
all_numbers w h Q f i l =
    let p = some_wide w h i l in
    let s = scanned_once w h (i % w) (i / w) (mod-lt i p) ((div-lt_iff_lt-mul p).1 l) in
    let e : index_of w h s.number ≡ i =
    ap (λ (r : ℕ). r * w + scan_column w h s.number) s.row ∙ (ap (λ (c : ℕ). i / w * w + c) s.column ∙ div-add-mod' i w) in
    subst Q e (f s.number s.below)

-- a pass of a kind
as_refinement : (pass : ℕ) (k : Plane) (m : Cells) (x y : ℕ) (P : Cells → Type 0) → (pass % 3 == 1) ≡ false → (pass % 3 == 2) ≡ true
    → AllLeaves (refinement_at k m x y) P → AllLeaves (pass_at pass k m x y) P
as_refinement pass k m x y P e f h =
    subst (λ (b : Bool). AllLeaves (if b then significance_at k m x y else if pass % 3 == 2 then refinement_at k m x y else cleanup_at k m x y) P) (sym e)
    (subst (λ (b : Bool). AllLeaves (if b then refinement_at k m x y else cleanup_at k m x y) P) (sym f) h)

as_cleanup : (pass : ℕ) (k : Plane) (m : Cells) (x y : ℕ) (P : Cells → Type 0) → (pass % 3 == 1) ≡ false → (pass % 3 == 2) ≡ false
    → AllLeaves (cleanup_at k m x y) P → AllLeaves (pass_at pass k m x y) P
as_cleanup pass k m x y P e f h =
    subst (λ (b : Bool). AllLeaves (if b then significance_at k m x y else if pass % 3 == 2 then refinement_at k m x y else cleanup_at k m x y) P) (sym e)
    (subst (λ (b : Bool). AllLeaves (if b then refinement_at k m x y else cleanup_at k m x y) P) (sym f) h)

abbrev pub AllSettled : Plane → Cells → Type 0
AllSettled k m = (i : ℕ) → i < length m.coefs → IsSettled k m i

abbrev pub AllDone : Plane → Cells → Type 0
AllDone k m = (i : ℕ) → i < length m.coefs → IsDone k m i

pub size_is : (k : Plane) (w h : ℕ) (m : Cells) → IsAt k w h m → length m.coefs ≡ h * w
size_is k w h m a = a.clean.whole.size ∙ (ap (λ (n : ℕ). n * m.width) a.height ∙ ap (λ (n : ℕ). h * n) a.width)

-- any pass
pub any_pass : (pass : ℕ) (k : Plane) (w h : ℕ) (m : Cells) → IsScan k → IsAt k w h m → AllLeaves (scanned pass k (w * h) 0 m) (IsAt k w h)
any_pass pass k w h m s a =
    let I : Cells → Type 0 = λ v. IsAt k w h v in
    let R : Cells → ℕ → Type 0 = λ v i. Unit {0} in
    leaves_more (scanned pass k (w * h) 0 m) (λ v. I v × ((j : ℕ) → j < 0 + w * h → R v (index_of w h j))) I (λ v p. p.0)
    (fold_leaves pass k w h I R
    (λ u n i l. leaves_more (pass_at_nth pass k u n) (λ v. IsBack k.planes (k.number + 1) u (pass_at_nth pass k u n) v × AreNeat v) (λ v. I v × R v (index_of w h n) × ((j : ℕ) → j < w * h → R u (index_of w h j) → R v (index_of w h j)))
    (λ v b. (at_next k w h u v (pass_at_nth pass k u n) i b.0 b.1, tt, λ j q r. tt))
    (at_step pass k w h n u s i l))
    (w * h) 0 m a (λ j q. tt) (omega arith))

-- a refinement pass settles all places
pub refinement_pass : (pass : ℕ) (k : Plane) (w h : ℕ) (m : Cells) → (pass % 3 == 1) ≡ false → (pass % 3 == 2) ≡ true → IsScan k → IsAt k w h m
    → AllLeaves (scanned pass k (w * h) 0 m) (λ v. IsAt k w h v × AllSettled k v)
refinement_pass pass k w h m e f s a =
    let I : Cells → Type 0 = λ v. IsAt k w h v in
    let R : Cells → ℕ → Type 0 = λ v i. IsSettled k v i in
    leaves_more (scanned pass k (w * h) 0 m) (λ v. I v × ((j : ℕ) → j < 0 + w * h → R v (index_of w h j))) (λ v. IsAt k w h v × AllSettled k v)
    (λ v p. (p.0, λ i l. let z = size_is k w h v p.0 in all_numbers w h (λ j. R v j) (λ j q. p.1 j (omega arith)) i (omega arith)))
    (fold_leaves pass k w h I R
    (λ u n i l.
    let x : ℕ = scan_column u.width u.height n in
    let y : ℕ = scan_row u.width u.height n in
    let t : Asking Cells = pass_at_nth pass k u n in
    let o = in_place w h n u i.width i.height l in
    leaves_more t (λ v. (IsBack k.planes (k.number + 1) u t v × AreNeat v) × IsSettled k v (place_of u x y)) (λ v. I v × R v (index_of w h n) × ((j : ℕ) → j < w * h → R u (index_of w h j) → R v (index_of w h j)))
    (λ v b. (
      at_next k w h u v t i b.0.0 b.0.1,
      subst (λ (j : ℕ). IsSettled k v j) (index_same w h n u i.width i.height) b.1,
      λ j q r. settled_next k w h u v t (index_of w h j) i b.0.0 (index_there k w h j u i q) r,
    ))
    (leaves_both t (λ v. IsBack k.planes (k.number + 1) u t v × AreNeat v) (λ v. IsSettled k v (place_of u x y))
    (at_step pass k w h n u s i l)
    (as_refinement pass k u x y (λ v. IsSettled k v (place_of u x y)) e f (refinement_settles k u x y i.clean.whole o))))
    (w * h) 0 m a (λ j q. absurd (omega arith)) (omega arith))

-- a cleanup pass decides all places, where those that are significant were decided
pub cleanup_pass : (pass : ℕ) (k : Plane) (w h : ℕ) (m : Cells) → (pass % 3 == 1) ≡ false → (pass % 3 == 2) ≡ false → IsScan k → IsAt k w h m → AllSettled k m
    → AllLeaves (scanned pass k (w * h) 0 m) (λ v. IsAt k w h v × AllDone k v)
cleanup_pass pass k w h m e f s a z =
    let I : Cells → Type 0 = λ v. IsAt k w h v × AllSettled k v in
    let R : Cells → ℕ → Type 0 = λ v i. IsDone k v i in
    leaves_more (scanned pass k (w * h) 0 m) (λ v. I v × ((j : ℕ) → j < 0 + w * h → R v (index_of w h j))) (λ v. IsAt k w h v × AllDone k v)
    (λ v p. (p.0.0, λ i l. let r = size_is k w h v p.0.0 in all_numbers w h (λ j. R v j) (λ j q. p.1 j (omega arith)) i (omega arith)))
    (fold_leaves pass k w h I R
    (λ u n i l.
    let x : ℕ = scan_column u.width u.height n in
    let y : ℕ = scan_row u.width u.height n in
    let t : Asking Cells = pass_at_nth pass k u n in
    let o = in_place w h n u i.0.width i.0.height l in
    leaves_more t (λ v. (IsBack k.planes (k.number + 1) u t v × AreNeat v) × IsDone k v (place_of u x y)) (λ v. I v × R v (index_of w h n) × ((j : ℕ) → j < w * h → R u (index_of w h j) → R v (index_of w h j)))
    (λ v b.
    let d = same_length k.planes (k.number + 1) (k.number + 1) u v i.0.clean b.0.0.clean b.0.0.front in (
      (at_next k w h u v t i.0 b.0.0 b.0.1, λ j q. settled_next k w h u v t j i.0 b.0.0 (omega arith) (i.1 j (omega arith))),
      subst (λ (j : ℕ). IsDone k v j) (index_same w h n u i.0.width i.0.height) b.1,
      λ j q r. done_front k u v (index_of w h j) b.0.0.front r,
    ))
    (leaves_both t (λ v. IsBack k.planes (k.number + 1) u t v × AreNeat v) (λ v. IsDone k v (place_of u x y))
    (at_step pass k w h n u s i.0 l)
    (as_cleanup pass k u x y (λ v. IsDone k v (place_of u x y)) e f (cleanup_done k u x y s o i.0.clean (i.1 (place_of u x y) (index_in u x y i.0.clean.whole o))))))
    (w * h) 0 m (a, z) (λ j q. absurd (omega arith)) (omega arith))
