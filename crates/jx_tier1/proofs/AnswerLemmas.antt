-- A grid that the coefficients may become answers each question of a pass as it was answered when they were made.
use Rattle.std.proofs.Common.{◌≡◌, ◌≤◌, ◌<◌, ◌+◌, ◌*◌, ◌/◌, ◌%◌, ◌==◌, nat_lt, nat_le, ℕ, zero, suc, Bool, true, false, not, ◌&&◌, ◌||◌, refl, ap, ◌∙◌, arith, if◌then◌else◌}
use Rattle.std.proofs.lemmas.Bool.{ltb-false, not-true, and_parts}
use Rattle.jx_tier1_specs.specs.declared.coef.Coef.{Coef}
use Rattle.jx_tier1_specs.specs.declared.question.Plane.{Plane}
use Rattle.jx_tier1_specs.specs.declared.question.Question.{Question}
use Rattle.jx_tier1_specs.specs.declared.question.About.TheVariants.{Bit, High, Low, Run}
use Rattle.jx_tier1_specs.specs.Cells.{Cells, coef_at, significant}
use Rattle.jx_tier1_specs.specs.Asking.{Asking, Told, Ask, and_then, told}
use Rattle.jx_tier1_specs.specs.Pass.{IsScan, shift_of, is_decided, with_bit, with_sign, changed, question, sign_question, label_at, refinement_label_at, sign_of, bit_of, significance_at, refinement_at, usual_at, is_run, zeroed, number_in_run, place_at, run_at, cleanup_at, pass_at, pass_at_nth, scan_column, scan_row, scanned, plane_of, pass_of}
use Rattle.jx_tier1_specs.specs.Reading.{Coding}
use Rattle.jx_tier1_specs.specs.Needs.{answer_of, bit_at_place, first_of_four, followed}
use Rattle.jx_tier1_specs.proofs.Scanning.{column_inside, row_inside}
use Rattle.jx_tier1_specs.proofs.Told.{told_then}
use Rattle.jx_tier1_specs.proofs.FrontLemmas.{IsClean, more_seen, sign_bit_seen, sign_seen}
use Rattle.jx_tier1_specs.proofs.GridLemmas.{IsFront, AreClean, IsIn, seen_at, front_same, front_next}
use Rattle.jx_tier1_specs.proofs.LeafLemmas.{IsBack, leaves_told}
use Rattle.jx_tier1_specs.proofs.StepLemmas.{or_right, clean_at}
use Rattle.jx_tier1_specs.proofs.RunBackLemmas.{IsRun, is_one, number_is, zero_seen, first_none, named_is}
use Rattle.jx_tier1_specs.proofs.WroteLemmas.{or_false}
use Rattle.jx_tier1_specs.proofs.PassBackLemmas.{place_back, room}
use Rattle.jx_tier1_specs.proofs.BackLemmas.{tree_of}
use Rattle.jx_base.specs.Passes.{is_causal}

-- a grid answers each question of a procedure as someone else does
abbrev pub AnswersAs : {S A : Type 0} → (S → Question → Bool × S) → Cells → Asking A → S → Type 0
AnswersAs ask g (Told a) s = Unit {0}
AnswersAs ask g (Ask q k) s = (answer_of g q ≡ (ask s q).0) × AnswersAs ask g (k (ask s q).0) (ask s q).1

pub answers_follow : {S A : Type 0} (ask : S → Question → Bool × S) (g : Cells) (t : Asking A) (s : S) → AnswersAs ask g t s → followed g t ≡ (told ask t s).0
answers_follow ask g (Told a) s h = refl
answers_follow ask g (Ask q k) s h =
    ap (λ (b : Bool). followed g (k b)) h.0 ∙ answers_follow ask g (k (ask s q).0) (ask s q).1 h.1

answers_then : {S A B : Type 0} (ask : S → Question → Bool × S) (g : Cells) (t : Asking A) (f : A → Asking B) (s : S) → AnswersAs ask g t s
    → AnswersAs ask g (f (told ask t s).0) (told ask t s).1 → AnswersAs ask g (and_then t f) s
answers_then ask g (Told a) f s h k = k
answers_then ask g (Ask q n) f s h k = (h.0, answers_then ask g (n (ask s q).0) f (ask s q).1 h.1 k)

-- what is told shows the answers to any grid that it may become
abbrev Shows : {S : Type 0} → (S → Question → Bool × S) → Cells → ℕ → Asking Cells → S → Type 0
Shows ask g planes t s = IsFront planes (told ask t s).0 g → AnswersAs ask g t s

shows_if : {S : Type 0} (ask : S → Question → Bool × S) (g : Cells) (planes : ℕ) (s : S) (b : Bool) (t u : Asking Cells)
    → (b ≡ true → Shows ask g planes t s) → (b ≡ false → Shows ask g planes u s) → Shows ask g planes (if b then t else u) s
shows_if ask g planes s true t u p q = p refl
shows_if ask g planes s false t u p q = q refl

-- a first bit, and the sign after it
bit_shows_at : {S : Type 0} (ask : S → Question → Bool × S) (g : Cells) (k : Plane) (m : Cells) (x y : ℕ) → IsScan k → IsIn m x y
    → AreClean k.planes (k.number + 1) m → (coef_at m x y).planes ≤ k.number → (bit : Bool) (s : S)
    → IsFront k.planes (told ask (if bit then sign_of k m x y else Told (changed m x y (with_bit k false))) s).0 g
    → (bit_at_place g (shift_of k) x y ≡ bit) × AnswersAs ask g (if bit then sign_of k m x y else Told (changed m x y (with_bit k false))) s
bit_shows_at ask g k m x y c i a u true s f =
    let n : Bool = (ask s (sign_question k m x y)).0 in
    let old : Coef = coef_at m x y in
    let cl : IsClean k.planes (k.number + 1) old = clean_at k m x y a in
    let p = seen_at k.planes m x y (with_sign k n old) g a.whole i f in
    (sign_bit_seen k n old (coef_at g x y) c u cl p, (sign_seen k n old (coef_at g x y) c u cl p, tt))
bit_shows_at ask g k m x y c i a u false s f =
    let old : Coef = coef_at m x y in
    let cl : IsClean k.planes (k.number + 1) old = clean_at k m x y a in
    (more_seen k false old (coef_at g x y) c u cl (seen_at k.planes m x y (with_bit k false old) g a.whole i f), tt)

bit_shows : {S : Type 0} (ask : S → Question → Bool × S) (g : Cells) (k : Plane) (m : Cells) (x y : ℕ) (s : S) → IsScan k → IsIn m x y
    → AreClean k.planes (k.number + 1) m → (coef_at m x y).planes ≤ k.number → Shows ask g k.planes (bit_of k m x y) s
bit_shows ask g k m x y s c i a u f =
    let q : Question = question k (label_at k m x y) false (Bit x y) in
    bit_shows_at ask g k m x y c i a u (ask s q).0 (ask s q).1 f

significance_shows : {S : Type 0} (ask : S → Question → Bool × S) (g : Cells) (k : Plane) (m : Cells) (x y : ℕ) (s : S) → IsScan k → IsIn m x y
    → AreClean k.planes (k.number + 1) m → Shows ask g k.planes (significance_at k m x y) s
significance_shows ask g k m x y s c i a =
    let old : Coef = coef_at m x y in
    let p : Bool = significant old || is_decided k old in
    let l : Bool = label_at k m x y == 0 in
    shows_if ask g k.planes s (p || l) (Told m) (bit_of k m x y) (λ e f. tt)
    (λ e. bit_shows ask g k m x y s c i a (ltb-false k.number old.planes (or_right (significant old) (is_decided k old) (or_false p l e))))

usual_shows : {S : Type 0} (ask : S → Question → Bool × S) (g : Cells) (k : Plane) (m : Cells) (x y : ℕ) (s : S) → IsScan k → IsIn m x y
    → AreClean k.planes (k.number + 1) m → Shows ask g k.planes (usual_at k m x y) s
usual_shows ask g k m x y s c i a =
    let old : Coef = coef_at m x y in
    shows_if ask g k.planes s (significant old || is_decided k old) (Told m) (bit_of k m x y) (λ e f. tt)
    (λ e. bit_shows ask g k m x y s c i a (ltb-false k.number old.planes (or_right (significant old) (is_decided k old) e)))

refinement_shows : {S : Type 0} (ask : S → Question → Bool × S) (g : Cells) (k : Plane) (m : Cells) (x y : ℕ) (s : S) → IsScan k → IsIn m x y
    → AreClean k.planes (k.number + 1) m → Shows ask g k.planes (refinement_at k m x y) s
refinement_shows ask g k m x y s c i a =
    let old : Coef = coef_at m x y in
    let q : Question = question k (refinement_label_at k m x y) false (Bit x y) in
    let b : Bool = (ask s q).0 in
    let cl : IsClean k.planes (k.number + 1) old = clean_at k m x y a in
    shows_if ask g k.planes s (significant old && not (is_decided k old)) (Ask q (λ bit. Told (changed m x y (with_bit k bit)))) (Told m)
    (λ e f.
    let u = ltb-false k.number old.planes (not-true (is_decided k old) ((and_parts (significant old) (not (is_decided k old)) e).1)) in
    (more_seen k b old (coef_at g x y) c u cl (seen_at k.planes m x y (with_bit k b old) g a.whole i f), tt))
    (λ e f. tt)

-- the run mode
run_shows_at : {S : Type 0} (ask : S → Question → Bool × S) (g : Cells) (k : Plane) (m : Cells) (x y : ℕ) → IsScan k → x < m.width
    → AreClean k.planes (k.number + 1) m → IsRun k m x y → (any : Bool) (s : S)
    → IsFront k.planes (told ask (if any then place_at k m x y else Told (zeroed k 4 m x y)) s).0 g
    → (nat_lt (first_of_four g (shift_of k) x y) 4 ≡ any) × AnswersAs ask g (if any then place_at k m x y else Told (zeroed k 4 m x y)) s
run_shows_at ask g k m x y c p a r true s f =
    let high : Question = question k 18 false (High x y) in
    let low : Question = question k 18 false (Low x y) in
    let h : Bool = (ask s high).0 in
    let l : Bool = (ask (ask s high).1 low).0 in
    let d = number_is h l in
    let n : Bool = (ask (ask (ask s high).1 low).1 (sign_question k m x (y + number_in_run h l))).0 in
    let w = named_is k m x y (number_in_run h l) n c a p r d.few in
    let e = w.seen g f in (
      ap (λ (z : ℕ). nat_lt z 4) e.first ∙ d.any,
      (ap (λ (z : ℕ). nat_le 2 z) e.first ∙ d.high, (ap (λ (z : ℕ). z % 2 == 1) e.first ∙ d.low, (e.sign, tt))),
    )
run_shows_at ask g k m x y c p a r false s f =
    (ap (λ (z : ℕ). nat_lt z 4) (first_none g (shift_of k) x y (λ i l. zero_seen k 4 i m x y g c a p r.rows l (r.left i l) f)), tt)

cleanup_shows : {S : Type 0} (ask : S → Question → Bool × S) (g : Cells) (k : Plane) (m : Cells) (x y : ℕ) (s : S) → IsScan k → IsIn m x y
    → AreClean k.planes (k.number + 1) m → Shows ask g k.planes (cleanup_at k m x y) s
cleanup_shows ask g k m x y s c i a =
    let q : Question = question k 17 false (Run x y) in
    shows_if ask g k.planes s (is_run k m x y) (run_at k m x y) (usual_at k m x y)
    (λ e f. run_shows_at ask g k m x y c i.column a (is_one k m x y e) (ask s q).0 (ask s q).1 f)
    (λ e. usual_shows ask g k m x y s c i a)

place_shows : {S : Type 0} (ask : S → Question → Bool × S) (g : Cells) (pass : ℕ) (k : Plane) (m : Cells) (x y : ℕ) (s : S) → IsScan k → IsIn m x y
    → AreClean k.planes (k.number + 1) m → Shows ask g k.planes (pass_at pass k m x y) s
place_shows ask g pass k m x y s c i a =
    shows_if ask g k.planes s (pass % 3 == 1) (significance_at k m x y) (if pass % 3 == 2 then refinement_at k m x y else cleanup_at k m x y)
    (λ e. significance_shows ask g k m x y s c i a)
    (λ e. shows_if ask g k.planes s (pass % 3 == 2) (refinement_at k m x y) (cleanup_at k m x y)
    (λ h. refinement_shows ask g k m x y s c i a) (λ h. cleanup_shows ask g k m x y s c i a))

-- places one after the other
record AreShown {S : Type 0} (ask : S → Question → Bool × S) (planes : ℕ) (m : Cells) (t : Asking Cells) (s : S) : Type 0 where
  pub front : IsFront planes m (told ask t s).0
  pub shows : (g : Cells) → Shows ask g planes t s

scan_shows : {S : Type 0} (ask : S → Question → Bool × S) (pass : ℕ) (k : Plane) (count n : ℕ) (m : Cells) (s : S) → IsScan k
    → AreClean k.planes (k.number + 1) m → n + count ≤ m.width * m.height → AreShown ask k.planes m (scanned pass k count n m) s
scan_shows ask pass k zero n m s c a l = record { front = front_same k.planes m; shows = λ g f. tt }
scan_shows ask pass k (suc count) n m s c a l =
    let p : n < m.width * m.height = omega arith in
    let x : ℕ = scan_column m.width m.height n in
    let y : ℕ = scan_row m.width m.height n in
    let i : IsIn m x y = record { column = column_inside m.width m.height n p; row = row_inside m.width m.height n p } in
    let t : Asking Cells = pass_at_nth pass k m n in
    let v : Cells = (told ask t s).0 in
    let z = (told ask t s).1 in
    let more : Cells → Asking Cells = λ h. scanned pass k count (n + 1) h in
    let b : IsBack k.planes (k.number + 1) m t v = leaves_told ask t (IsBack k.planes (k.number + 1) m t) s (place_back pass k m x y c i a) in
    let r : AreShown ask k.planes v (more v) z =
    scan_shows ask pass k count (n + 1) v z c b.clean (room v.width v.height m.width m.height n count b.front.width b.front.height l) in
    let e : told ask (and_then t more) s ≡ told ask (more v) z = told_then ask t more s in
    record {
      front = rw e (front_next k.planes m v (told ask (more v) z).0 b.front r.front);
      shows = λ g f.
          let h : IsFront k.planes (told ask (more v) z).0 g = rw e at f in
          answers_then ask g t more s (place_shows ask g pass k m x y s c i a (front_next k.planes v (told ask (more v) z).0 g r.front h)) (r.shows g h);
    }

-- a whole pass
pub pass_shows : {S : Type 0} (ask : S → Question → Bool × S) (c : Coding) (pass : ℕ) (m : Cells) (s : S) (g : Cells)
    → IsScan (plane_of c.band (is_causal c.style) c.planes pass) → AreClean c.planes ((pass + 2) / 3 + 1) m
    → IsFront c.planes (told ask (tree_of c pass m) s).0 g → AnswersAs ask g (tree_of c pass m) s
unfolding pass_of
pass_shows ask c pass m s g k a f =
    (scan_shows ask pass (plane_of c.band (is_causal c.style) c.planes pass) (m.width * m.height) 0 m s k a (omega arith)).shows g f
