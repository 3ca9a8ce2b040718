-- What a significance pass asks at the bits of a word.
use Rattle.std.proofs.Common.{◌≡◌, ◌<◌, ◌≤◌, ◌+◌, ◌*◌, ◌/◌, ◌%◌, ℕ, min, Bool, true, false, not, refl, sym, ap, ◌∙◌, arith, subst, inl, inr}
use Rattle.std.specs.Int.{bit_at}
use Rattle.std.proofs.lemmas.Bool.{cases_Bool}
use Rattle.jx_tier1_specs.specs.declared.question.Plane.{Plane}
use Rattle.jx_tier1_specs.specs.Cells.{Cells, significant}
use Rattle.jx_tier1_specs.specs.Near.{one_if}
use Rattle.jx_tier1_specs.specs.Asking.{Told}
use Rattle.jx_tier1_specs.specs.Pass.{pass_at, significance_at, bit_of}
use Rattle.jx_tier1.specs.Blocks.{Sees}
use Rattle.jx_tier1.specs.Marks.{mark}
use Rattle.jx_tier1.specs.Places.{of_nine, of_eight}
use Rattle.jx_tier1.specs.WordPasses.{IsDue, coef_in, in_word}
use Rattle.jx_tier1.specs.WordScan.{has_place, pass_at_bit}
use Rattle.jx_tier1.proofs.DueWords.{IsPlaceOf, place_of, no_place, some_place}
use Rattle.jx_tier1.proofs.MarkLemmas.{mark_there}
use Rattle.jx_tier1.proofs.NextLemmas.{nine_less, eight_none}
use Rattle.jx_tier1.proofs.SightLemmas.{SeesNine, sees_nine, label_none, label_some, nine_as_eight, shown, not_five}
use Rattle.jx_tier1.proofs.SignificanceLemmas.{significance_marked, significance_none, significance_asked}
use Rattle.jx_tier1.proofs.WordScanLemmas.{at_place, at_no_place}

kind_is : (pass : ℕ) (k : Plane) (g : Cells) (x y : ℕ) → pass % 3 ≡ 1 → pass_at pass k g x y ≡ significance_at k g x y
kind_is pass k g x y e = rw e refl

bit_is : (p : ℕ) → 6 * (p / 6) + p % 6 ≡ p
bit_is p = omega arith

pub nine_at : (k : Plane) (g : Cells) (x y w i : ℕ) → Sees k.causal (mark g) x y w → y % 4 ≡ 0 → i < 48 → i % 6 < 4 → SeesNine g k.causal (x + i / 6) (y + i % 6) w i
nine_at k g x y w i s f l m =
    subst (λ (p : ℕ). SeesNine g k.causal (x + i / 6) (y + i % 6) w p) (bit_is i) (sees_nine g k.causal x y w (i / 6) (i % 6) s f (omega arith) m)

no_nine : (n o : ℕ) → min n o ≡ 0 → o ≡ 1 → n ≡ 0
no_nine n o e f = omega arith

pub not_due : (pass : ℕ) (k : Plane) (g : Cells) (x y w free due seen b i : ℕ) → pass % 3 ≡ 1 → IsDue k g x y w free due seen b → Sees k.causal (mark g) x y w → y % 4 ≡ 0
    → i < 48 → b ≤ i → bit_at due i ≡ 0 → pass_at_bit pass k g x y i ≡ Told g
not_due pass k g x y w free due seen b i e d s f l m z =
    elim (cases_Bool (in_word g x y i)) [
      | inr t ↦ at_no_place pass k g x y i (no_place g x y i l t)
      | inl t ↦
          (let p = place_of g x y i t in
          at_place pass k g x y i (sym (some_place g x y i l) ∙ t)
          ∙ (kind_is pass k g (x + i / 6) (y + i % 6) e
          ∙ elim (cases_Bool (significant (coef_in g x y i))) [
            | inl a ↦ significance_marked k g (x + i / 6) (y + i % 6) a
            | inr a ↦
                (let o : bit_at free i ≡ 1 = d.free i m t ∙ ap (λ (c : Bool). one_if (not c)) a in
                let n = no_nine (of_nine w i) (bit_at free i) (sym (d.due i m) ∙ z) o in
                significance_none k g (x + i / 6) (y + i % 6)
                (label_none k g (x + i / 6) (y + i % 6) w i (nine_at k g x y w i s f l p.gap) (eight_none w i n)))
          ]))
    ]

-- a place that is due
pub record Asks (pass : ℕ) (k : Plane) (g : Cells) (x y i : ℕ) : Type 0 where
  pub place : IsPlaceOf g x y i
  pub has : has_place g x y i ≡ true
  pub bit : pass_at_bit pass k g x y i ≡ bit_of k g (x + i / 6) (y + i % 6)
  pub none : significant (coef_in g x y i) ≡ false

both_one : (n o : ℕ) → n ≤ 1 → o ≤ 1 → min n o ≡ 1 → (n ≡ 1) × (o ≡ 1)
both_one n o a b e = (omega arith, omega arith)

not_zero_one : (n : ℕ) → n ≡ 0 → n ≡ 1 → ⊥
not_zero_one n e f = omega arith

one_not : (b : Bool) → one_if (not b) ≡ 1 → b ≡ false
one_not true e = absurd (not_zero_one (one_if (not true)) refl e)
one_not false e = refl

flag_le : (b : Bool) → one_if b ≤ 1
flag_le true = omega arith
flag_le false = omega arith

pub own_none : (k : Plane) (g : Cells) (x y w i : ℕ) → Sees k.causal (mark g) x y w → i < 48 → IsPlaceOf g x y i → significant (coef_in g x y i) ≡ false
    → bit_at w (i + 6 + 1) ≡ 0
own_none k g x y w i s l p a =
    let c : ℕ = i / 6 in
    let r : ℕ = i % 6 in
    let gap = p.gap in
    let j : i + 6 + 1 ≡ 6 * (c + 1) + (r + 1) = omega arith in
    let b : x + (c + 1) ≡ x + c + 1 = omega arith in
    let d : y + (r + 1) ≡ y + r + 1 = omega arith in
    ap (λ (n : ℕ). bit_at w n) j
    ∙ (s.at (c + 1) (r + 1) (omega arith) (omega arith)
    ∙ (shown k.causal (r + 1) (mark g (x + (c + 1)) (y + (r + 1))) (not_five k.causal (r + 1) (λ z. omega arith))
    ∙ (ap (λ (n : ℕ). mark g n (y + (r + 1))) b
    ∙ (ap (λ (n : ℕ). mark g (x + c + 1) n) d
    ∙ (mark_there g (x + c) (y + r) p.column p.row ∙ ap one_if a)))))

pub is_due : (pass : ℕ) (k : Plane) (g : Cells) (x y w free due seen i : ℕ) → pass % 3 ≡ 1 → IsDue k g x y w free due seen i → Sees k.causal (mark g) x y w → y % 4 ≡ 0
    → i < 48 → bit_at due i ≡ 1 → bit_at free i ≤ 1 → Asks pass k g x y i
is_due pass k g x y w free due seen i e d s f l one small =
    let both = both_one (of_nine w i) (bit_at free i) (nine_less w i) small (sym (d.due i (omega arith)) ∙ one) in
    elim (cases_Bool (in_word g x y i)) [
      | inr t ↦ absurd (not_zero_one (bit_at free i) (d.none i t) both.1)
      | inl t ↦
          (let p = place_of g x y i t in
          let a = one_not (significant (coef_in g x y i)) (sym (d.free i (omega arith) t) ∙ both.1) in
          let n = nine_at k g x y w i s f l p.gap in
          let here : bit_at w (i + 6 + 1) ≡ 0 = own_none k g x y w i s l p a in
          let eight : of_eight w i ≡ 1 = sym (nine_as_eight w i here) ∙ both.0 in
          record {
            place = p;
            has = sym (some_place g x y i l) ∙ t;
            bit = at_place pass k g x y i (sym (some_place g x y i l) ∙ t)
                ∙ (kind_is pass k g (x + i / 6) (y + i % 6) e
                ∙ significance_asked k g (x + i / 6) (y + i % 6) a (d.fresh i (omega arith) t)
                (λ z. label_some k g (x + i / 6) (y + i % 6) w i n eight z));
            none = a;
          })
    ]
