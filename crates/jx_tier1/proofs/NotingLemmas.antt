-- What is noted while it is read is what a procedure makes of the coefficients.
use Rattle.std.proofs.Common.{◌≡◌, ◌<◌, ◌+◌, ◌-◌, ◌*◌, ◌/◌, ◌%◌, ◌^◌, ◌==◌, ◌&&◌, ◌||◌, not, ℕ, zero, suc, Bool, true, false, refl, sym, ap, ◌∙◌, arith, subst, if◌then◌else◌, List}
use Rattle.std.proofs.lemmas.Bool.{ltb-false, not-true, and_parts, true≢false}
use Rattle.std.proofs.lemmas.List.{set-set}
use Rattle.std.proofs.Math.Nat.{mod-eq_of_lt}
use Rattle.jx_base.specs.Passes.{is_causal}
use Rattle.jx_tier1_specs.specs.declared.coef.Coef.{Coef}
use Rattle.jx_tier1_specs.specs.declared.question.Plane.{Plane}
use Rattle.jx_tier1_specs.specs.declared.question.Question.{Question}
use Rattle.jx_tier1_specs.specs.declared.question.About.TheVariants.{Bit, High, Low, Run}
use Rattle.jx_tier1_specs.specs.Cells.{Cells, coef_at, with_coef, significant, AreWithin, IsKept}
use Rattle.jx_tier1_specs.specs.Asking.{Asking, Told, Ask, and_then, told}
use Rattle.jx_tier1_specs.specs.Pass.{IsScan, shift_of, is_decided, with_bit, with_sign, changed, question, sign_question, label_at, refinement_label_at, sign_of, bit_of, significance_at, refinement_at, usual_at, is_run, zeroed, number_in_run, place_at, run_at, cleanup_at, pass_at, pass_at_nth, scan_column, scan_row, scanned, plane_of, pass_of}
use Rattle.jx_tier1_specs.specs.Reading.{Reading, Coding, Decoding, read_answer, renewed, read_bits}
use Rattle.jx_tier1_specs.proofs.Places.{bit_kept, sign_kept, bit_fits}
use Rattle.jx_tier1_specs.proofs.RunLemmas.{run_quiet}
use Rattle.jx_tier1_specs.proofs.StepLemmas.{no_bits}
use Rattle.jx_tier1_specs.proofs.Told.{told_then}
use Rattle.jx_tier1_specs.proofs.WroteLemmas.{or_false}
use Rattle.jx_tier1.specs.Blocks.{BlockWords}
use Rattle.jx_tier1.specs.BlockPasses.{Shows, Ends}
use Rattle.jx_tier1.specs.Noting.{Noting, noting, with_more, first_bit, noted_about, note_answer}

-- from these notes a procedure over the coefficients leaves the coefficients in the notes, within their bounds
record IsNoted (k : Plane) (m : Cells) (t : Asking Cells) (s : Noting) (r : Reading) : Type 0 where
  pub is : told note_answer t s ≡ ((told read_answer t r).0, noting k (told read_answer t r).0 (told read_answer t r).1)
  pub kept : IsKept k.planes (k.number + 1) m (told read_answer t r).0

kept_same : (planes most : ℕ) (m : Cells) → AreWithin planes most m → IsKept planes most m m
kept_same planes most m h = record { width = refl; height = refl; within = h }

kept_next : (planes most : ℕ) (m v w : Cells) → IsKept planes most m v → IsKept planes most v w → IsKept planes most m w
kept_next planes most m v w a b = record { width = b.width ∙ a.width; height = b.height ∙ a.height; within = b.within }

noted_still : (k : Plane) (m : Cells) (r : Reading) → AreWithin k.planes (k.number + 1) m → IsNoted k m (Told m) (noting k m r) r
noted_still k m r h = record { is = refl; kept = kept_same k.planes (k.number + 1) m h }

noted_if : (k : Plane) (m : Cells) (s : Noting) (r : Reading) (b : Bool) (t u : Asking Cells)
    → (b ≡ true → IsNoted k m t s r) → (b ≡ false → IsNoted k m u s r) → IsNoted k m (if b then t else u) s r
noted_if k m s r true t u p q = p refl
noted_if k m s r false t u p q = q refl

-- a coefficient that becomes significant
first_is : (k : Plane) (negative : Bool) (c d : Coef) → d.bits ≡ 0 → first_bit k (shift_of k) negative c ≡ with_sign k negative d
first_is k negative c d z =
    let e : 2 ^ shift_of k ≡ d.bits + 2 ^ shift_of k = omega arith in
    ap (λ (n : ℕ). record { negative = negative; bits = n; planes = k.number + 1 }) e

first_changed : (k : Plane) (m : Cells) (x y : ℕ) (negative : Bool) → (coef_at m x y).bits ≡ 0
    → changed m x y (first_bit k (shift_of k) negative) ≡ changed m x y (with_sign k negative)
first_changed k m x y negative z = ap (λ (c : Coef). with_coef m x y c) (first_is k negative (coef_at m x y) (coef_at m x y) z)

twice_changed : (k : Plane) (m : Cells) (x y : ℕ) (f : Coef → Coef) (negative : Bool) → (coef_at m x y).bits ≡ 0
    → changed (changed m x y f) x y (first_bit k (shift_of k) negative) ≡ changed m x y (with_sign k negative)
twice_changed k m x y f negative z =
    let i : ℕ = y * m.width + x in
    let c : Coef = first_bit k (shift_of k) negative (coef_at (changed m x y f) x y) in
    ap (λ (cs : List Coef). record m { coefs = cs }) (set-set m.coefs i (f (coef_at m x y)) c)
    ∙ ap (λ (d : Coef). with_coef m x y d) (first_is k negative (coef_at (changed m x y f) x y) (coef_at m x y) z)

sign_noted : (k : Plane) (m v : Cells) (x y : ℕ) (r : Reading) → IsScan k → AreWithin k.planes (k.number + 1) m → (coef_at m x y).bits ≡ 0
    → ((negative : Bool) → changed v x y (first_bit k (shift_of k) negative) ≡ changed m x y (with_sign k negative))
    → IsNoted k m (sign_of k m x y) (noting k v r) r
sign_noted k m v x y r s h z f =
    let q : Question = sign_question k m x y in
    let a : Bool = (read_answer r q).0 in
    record {
      is = ap (λ (c : Cells). (changed m x y (with_sign k a), noting k c (read_answer r q).1)) (f a);
      kept = sign_kept k m x y a s h z;
    }

-- a first bit
bit_noted_at : (k : Plane) (m : Cells) (x y : ℕ) (bit : Bool) (r : Reading) → IsScan k → AreWithin k.planes (k.number + 1) m → (coef_at m x y).bits ≡ 0
    → IsNoted k m (if bit then sign_of k m x y else Told (changed m x y (with_bit k false))) (noting k (changed m x y (with_more k (shift_of k) bit)) r) r
bit_noted_at k m x y true r s h z =
    sign_noted k m (changed m x y (with_more k (shift_of k) true)) x y r s h z (λ negative. twice_changed k m x y (with_more k (shift_of k) true) negative z)
bit_noted_at k m x y false r s h z = record { is = refl; kept = bit_kept k m x y false s h (λ e. absurd (true≢false (sym e))) }

bit_noted : (k : Plane) (m : Cells) (x y : ℕ) (r : Reading) → IsScan k → AreWithin k.planes (k.number + 1) m → (coef_at m x y).bits ≡ 0
    → IsNoted k m (bit_of k m x y) (noting k m r) r
bit_noted k m x y r s h z =
    let q : Question = question k (label_at k m x y) false (Bit x y) in
    let n = bit_noted_at k m x y (read_answer r q).0 (read_answer r q).1 s h z in
    record { is = n.is; kept = n.kept }

significance_noted : (k : Plane) (m : Cells) (x y : ℕ) (r : Reading) → IsScan k → AreWithin k.planes (k.number + 1) m
    → IsNoted k m (significance_at k m x y) (noting k m r) r
significance_noted k m x y r s h =
    let old : Coef = coef_at m x y in
    let p : Bool = significant old || is_decided k old in
    let l : Bool = label_at k m x y == 0 in
    noted_if k m (noting k m r) r (p || l) (Told m) (bit_of k m x y) (λ e. noted_still k m r h)
    (λ e. bit_noted k m x y r s h (no_bits old.bits (or_false (significant old) (is_decided k old) (or_false p l e))))

usual_noted : (k : Plane) (m : Cells) (x y : ℕ) (r : Reading) → IsScan k → AreWithin k.planes (k.number + 1) m
    → IsNoted k m (usual_at k m x y) (noting k m r) r
usual_noted k m x y r s h =
    let old : Coef = coef_at m x y in
    noted_if k m (noting k m r) r (significant old || is_decided k old) (Told m) (bit_of k m x y) (λ e. noted_still k m r h)
    (λ e. bit_noted k m x y r s h (no_bits old.bits (or_false (significant old) (is_decided k old) e)))

-- a further bit
more_is : (k : Plane) (m : Cells) (x y : ℕ) (bit : Bool) → IsScan k → AreWithin k.planes (k.number + 1) m
    → with_more k (shift_of k) bit (coef_at m x y) ≡ with_bit k bit (coef_at m x y)
more_is k m x y true s h =
    let c : Coef = coef_at m x y in
    ap (λ (n : ℕ). record c { bits = n; planes = k.number + 1 }) (mod-eq_of_lt (bit_fits k m x y s h))
more_is k m x y false s h = refl

refinement_noted : (k : Plane) (m : Cells) (x y : ℕ) (r : Reading) → IsScan k → AreWithin k.planes (k.number + 1) m
    → IsNoted k m (refinement_at k m x y) (noting k m r) r
refinement_noted k m x y r s h =
    let old : Coef = coef_at m x y in
    let q : Question = question k (refinement_label_at k m x y) false (Bit x y) in
    let b : Bool = (read_answer r q).0 in
    noted_if k m (noting k m r) r (significant old && not (is_decided k old)) (Ask q (λ bit. Told (changed m x y (with_bit k bit)))) (Told m)
    (λ e. record {
      is = ap (λ (c : Coef). (changed m x y (with_bit k b), noting k (with_coef m x y c) (read_answer r q).1)) (more_is k m x y b s h);
      kept = bit_kept k m x y b s h (λ _. ltb-false k.number old.planes (not-true (is_decided k old) ((and_parts (significant old) (not (is_decided k old)) e).1)));
    })
    (λ e. noted_still k m r h)

-- the run mode
zeroed_kept : (k : Plane) (n : ℕ) (m : Cells) (x y : ℕ) → IsScan k → AreWithin k.planes (k.number + 1) m → IsKept k.planes (k.number + 1) m (zeroed k n m x y)
zeroed_kept k zero m x y s h = kept_same k.planes (k.number + 1) m h
zeroed_kept k (suc n) m x y s h =
    let v : Cells = changed m x y (with_bit k false) in
    let a = bit_kept k m x y false s h (λ e. absurd (true≢false (sym e))) in
    kept_next k.planes (k.number + 1) m v (zeroed k n v x (y + 1)) a (zeroed_kept k n v x (y + 1) s a.within)

number_few : (high low : Bool) → number_in_run high low < 4
number_few true true = omega arith
number_few true false = omega arith
number_few false true = omega arith
number_few false false = omega arith

run_noted_at : (k : Plane) (m : Cells) (x y : ℕ) (any : Bool) (r : Reading) → IsScan k → AreWithin k.planes (k.number + 1) m → is_run k m x y ≡ true
    → IsNoted k m (if any then place_at k m x y else Told (zeroed k 4 m x y)) (noted_about (noting k m r) (shift_of k) (Run x y) any) r
run_noted_at k m x y true r s h e =
    let high : Question = question k 18 false (High x y) in
    let low : Question = question k 18 false (Low x y) in
    let a : Bool = (read_answer r high).0 in
    let u : Reading = (read_answer r high).1 in
    let b : Bool = (read_answer u low).0 in
    let v : Reading = (read_answer u low).1 in
    let n : ℕ = number_in_run a b in
    let q : Question = sign_question k m x (y + n) in
    let negative : Bool = (read_answer v q).0 in
    let w : Reading = (read_answer v q).1 in
    let z : (coef_at m x (y + n)).bits ≡ 0 = run_quiet k m x y n e (number_few a b) in
    let p : y + n - n ≡ y = omega arith in
    let c : Cells = changed m x (y + n) (with_sign k negative) in
    let k2 = sign_kept k m x (y + n) negative s h z in
    record {
      is = ap (λ (g : Cells). (zeroed k n c x y, noting k (zeroed k n g x (y + n - n)) w)) (first_changed k m x (y + n) negative z)
          ∙ ap (λ (i : ℕ). (zeroed k n c x y, noting k (zeroed k n c x i) w)) p;
      kept = kept_next k.planes (k.number + 1) m c (zeroed k n c x y) k2 (zeroed_kept k n c x y s k2.within);
    }
run_noted_at k m x y false r s h e = record { is = refl; kept = zeroed_kept k 4 m x y s h }

cleanup_noted : (k : Plane) (m : Cells) (x y : ℕ) (r : Reading) → IsScan k → AreWithin k.planes (k.number + 1) m
    → IsNoted k m (cleanup_at k m x y) (noting k m r) r
cleanup_noted k m x y r s h =
    let q : Question = question k 17 false (Run x y) in
    noted_if k m (noting k m r) r (is_run k m x y) (run_at k m x y) (usual_at k m x y)
    (λ e. let n = run_noted_at k m x y (read_answer r q).0 (read_answer r q).1 s h e in record { is = n.is; kept = n.kept })
    (λ e. usual_noted k m x y r s h)

place_noted : (pass : ℕ) (k : Plane) (m : Cells) (x y : ℕ) (r : Reading) → IsScan k → AreWithin k.planes (k.number + 1) m
    → IsNoted k m (pass_at pass k m x y) (noting k m r) r
place_noted pass k m x y r s h =
    noted_if k m (noting k m r) r (pass % 3 == 1) (significance_at k m x y) (if pass % 3 == 2 then refinement_at k m x y else cleanup_at k m x y)
    (λ e. significance_noted k m x y r s h)
    (λ e. noted_if k m (noting k m r) r (pass % 3 == 2) (refinement_at k m x y) (cleanup_at k m x y)
    (λ f. refinement_noted k m x y r s h) (λ f. cleanup_noted k m x y r s h))

-- places one after the other
scan_noted : (pass : ℕ) (k : Plane) (count n : ℕ) (m : Cells) (r : Reading) → IsScan k → AreWithin k.planes (k.number + 1) m
    → IsNoted k m (scanned pass k count n m) (noting k m r) r
scan_noted pass k zero n m r s h = noted_still k m r h
scan_noted pass k (suc count) n m r s h =
    let t : Asking Cells = pass_at_nth pass k m n in
    let p = place_noted pass k m (scan_column m.width m.height n) (scan_row m.width m.height n) r s h in
    let v : Cells = (told read_answer t r).0 in
    let z : Reading = (told read_answer t r).1 in
    let more : Cells → Asking Cells = λ g. scanned pass k count (n + 1) g in
    let i = scan_noted pass k count (n + 1) v z s p.kept.within in
    let e : told read_answer (and_then t more) r ≡ told read_answer (more v) z = told_then read_answer t more r in
    record {
      is = told_then note_answer t more (noting k m r)
          ∙ (ap (λ (o : Cells × Noting). told note_answer (more o.0) o.1) p.is
          ∙ (i.is ∙ sym (ap (λ (o : Cells × Reading). (o.0, noting k o.0 o.1)) e)));
      kept = rw e (kept_next k.planes (k.number + 1) m v (told read_answer (more v) z).0 p.kept i.kept);
    }

-- what a pass leaves, as the words of a block show it
pub record IsRead (c : Coding) (pass : ℕ) (d : Decoding) (m : BlockWords) (n : Noting) : Type 0 where
  pub cells : n.cells ≡ (read_bits c pass d).0
  pub reading : n.reading ≡ (read_bits c pass d).1
  pub shows : Shows c.planes (pass + 1) n.cells m
  pub within : AreWithin c.planes ((pass + 2) / 3 + 1) n.cells

pub pass_read : (c : Coding) (pass : ℕ) (d : Decoding) (m : BlockWords) (n o : Noting) → IsScan (plane_of c.band (is_causal c.style) c.planes pass)
    → AreWithin c.planes ((pass + 2) / 3 + 1) d.cells → o ≡ noting (plane_of c.band (is_causal c.style) c.planes pass) d.cells (renewed c.style d.reading)
    → Ends c.planes (pass + 1) (told note_answer (scanned pass (plane_of c.band (is_causal c.style) c.planes pass) (d.cells.width * d.cells.height) 0 d.cells) o) m n
    → IsRead c pass d m n
unfolding pass_of
pass_read c pass d m n o s h e w =
    let k : Plane = plane_of c.band (is_causal c.style) c.planes pass in
    let t : Asking Cells = scanned pass k (d.cells.width * d.cells.height) 0 d.cells in
    let r : Reading = renewed c.style d.reading in
    let i = scan_noted pass k (d.cells.width * d.cells.height) 0 d.cells r s h in
    let j : told note_answer t o ≡ ((told read_answer t r).0, noting k (told read_answer t r).0 (told read_answer t r).1) =
    ap (λ (x : Noting). told note_answer t x) e ∙ i.is in
    let u : n ≡ noting k (told read_answer t r).0 (told read_answer t r).1 = w.source ∙ ap (λ (x : Cells × Noting). x.1) j in
    let v : n.cells ≡ (told read_answer t r).0 = ap (λ (x : Noting). x.cells) u in
    let f : (told note_answer t o).0 ≡ n.cells = ap (λ (x : Cells × Noting). x.0) j ∙ sym v in
    record {
      cells = v;
      reading = ap (λ (x : Noting). x.reading) u;
      shows = subst (λ (x : Cells). Shows c.planes (pass + 1) x m) f w.block;
      within = subst (λ (x : Cells). AreWithin c.planes ((pass + 2) / 3 + 1) x) (sym v) i.kept.within;
    }
