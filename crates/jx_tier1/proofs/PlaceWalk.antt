-- A decision at a place of a word.
use Rattle.std.proofs.Common.{◌≡◌, ◌≢◌, ◌<◌, ◌+◌, ◌*◌, ◌/◌, ◌%◌, ◌^◌, ℕ, max, Bool, true, false, not, sym, ap, ◌∙◌, arith, subst}
use Rattle.std.specs.Int.{bit_at}
use Rattle.std.proofs.lemmas.Bool.{ne_eqb}
use Rattle.std.proofs.lemmas.Nat.{pow_pos}
use Rattle.jx_tier1_specs.specs.declared.coef.Coef.{Coef}
use Rattle.jx_tier1_specs.specs.declared.question.Plane.{Plane}
use Rattle.jx_tier1_specs.specs.declared.question.Question.{Question}
use Rattle.jx_tier1_specs.specs.declared.question.About.TheVariants.{Sign}
use Rattle.jx_tier1_specs.specs.Cells.{Cells, coef_at, significant}
use Rattle.jx_tier1_specs.specs.Labels.{sign_row}
use Rattle.jx_tier1_specs.specs.Near.{one_if, across_of, down_of}
use Rattle.jx_tier1_specs.specs.Asking.{told}
use Rattle.jx_tier1_specs.specs.Pass.{shift_of, with_sign, question, sign_of, changed}
use Rattle.jx_tier1.specs.Blocks.{Sees}
use Rattle.jx_tier1.specs.Marks.{minus}
use Rattle.jx_tier1.specs.Sights.{IsSight, EndsIn, IsBit}
use Rattle.jx_tier1.proofs.BitLemmas.{bit_shr}
use Rattle.jx_tier1.proofs.ChangeSight.{sees_raised, sees_signed, minus_there}
use Rattle.jx_tier1.proofs.MarkLemmas.{IsWholeAt}
use Rattle.jx_tier1.proofs.SightLemmas.{shown, not_five}

sign_shows : (k : Plane) (negative : Bool) (c : Coef) → significant (with_sign k negative c) ≡ true
sign_shows k negative c =
    let p = pow_pos (shift_of k) in
    ap not (ne_eqb (c.bits + 2 ^ shift_of k) 0 (λ e. omega arith))

-- the bit of a place that isn't negative
sign_before : (g : Cells) (causal : Bool) (x y w c r : ℕ) → Sees causal (minus g) x y (w / 2) → c < 8 → r < 4 → IsWholeAt g (x + c) (y + r)
    → (coef_at g (x + c) (y + r)).negative ≡ false → bit_at w (6 * c + r + 8) ≡ 0
sign_before g causal x y w c r s p q i e =
    let a : 6 * c + r + 8 ≡ 6 * (c + 1) + (r + 1) + 1 = omega arith in
    let b : x + (c + 1) ≡ x + c + 1 = omega arith in
    let d : y + (r + 1) ≡ y + r + 1 = omega arith in
    ap (λ (n : ℕ). bit_at w n) a
    ∙ (sym (bit_shr w 1 (6 * (c + 1) + (r + 1)))
    ∙ (s.at (c + 1) (r + 1) (omega arith) (omega arith)
    ∙ (shown causal (r + 1) (minus g (x + (c + 1)) (y + (r + 1))) (not_five causal (r + 1) (λ z. omega arith))
    ∙ (ap (λ (n : ℕ). minus g n (y + (r + 1))) b
    ∙ (ap (λ (n : ℕ). minus g (x + c + 1) n) d
    ∙ (minus_there g (x + c) (y + r) i.column i.row ∙ ap one_if e))))))

-- a sign
pub sign_ends : {S : Type 0} (ask : S → Question → Bool × S) (k : Plane) (g : Cells) (x y w v w' v' p : ℕ) (row : ℕ × Bool) (negative : Bool) (s t : S)
    → IsSight k.causal g x y w v → IsBit p → IsWholeAt g (x + p / 6) (y + p % 6) → (coef_at g (x + p / 6) (y + p % 6)).negative ≡ false
    → row ≡ sign_row (across_of g k.causal (x + p / 6) (y + p % 6)) (down_of g k.causal (x + p / 6) (y + p % 6))
    → negative ≡ (ask s (question k row.0 row.1 (Sign (x + p / 6) (y + p % 6)))).0
    → t ≡ (ask s (question k row.0 row.1 (Sign (x + p / 6) (y + p % 6)))).1
    → bit_at w' (p + 7) ≡ 1 → ((i : ℕ) → i ≢ p + 7 → bit_at w' i ≡ bit_at w i)
    → bit_at v' (p + 8) ≡ max (bit_at v (p + 8)) (one_if negative) → ((i : ℕ) → i ≢ p + 8 → bit_at v' i ≡ bit_at v i)
    → EndsIn k.causal x y (told ask (sign_of k g (x + p / 6) (y + p % 6)) s) w' v' t
sign_ends {S = S} ask k g x y w v w' v' p row negative s t h b i n r e u a o d f =
    let c : ℕ = p / 6 in
    let q : ℕ = p % 6 in
    let column = b.column in
    let j : p + 7 ≡ 6 * c + q + 7 = omega arith in
    let l : p + 8 ≡ 6 * c + q + 8 = omega arith in
    let coef : Coef = with_sign k negative (coef_at g (x + c) (y + q)) in
    let z : bit_at v (p + 8) ≡ 0 = ap (λ (m : ℕ). bit_at v m) l ∙ sign_before g k.causal x y v c q h.signs (omega arith) b.row i n in
    let d' : bit_at v' (6 * c + q + 8) ≡ one_if negative =
    ap (λ (m : ℕ). bit_at v' m) (sym l) ∙ (d ∙ (ap (λ (m : ℕ). max m (one_if negative)) z ∙ (let y' : max 0 (one_if negative) ≡ one_if negative = omega arith in y'))) in
    let window = sees_raised k.causal g coef x y w w' c q h.window (omega arith) b.row i (sign_shows k negative (coef_at g (x + c) (y + q)))
    (ap (λ (m : ℕ). bit_at w' m) (sym j) ∙ a) (λ m z'. o m (λ y'. z' (y' ∙ j))) in
    let signs = sees_signed k.causal g coef x y v v' c q h.signs (omega arith) b.row i d' (λ m z'. f m (λ y'. z' (y' ∙ l))) in
    let Q : ℕ × Bool → Question = λ z'. question k z'.0 z'.1 (Sign (x + c) (y + q)) in
    let e' : negative ≡ (ask s (Q (sign_row (across_of g k.causal (x + c) (y + q)) (down_of g k.causal (x + c) (y + q))))).0 =
    e ∙ ap (λ (z' : ℕ × Bool). (ask s (Q z')).0) r in
    let u' : t ≡ (ask s (Q (sign_row (across_of g k.causal (x + c) (y + q)) (down_of g k.causal (x + c) (y + q))))).1 =
    u ∙ ap (λ (z' : ℕ × Bool). (ask s (Q z')).1) r in
    let P : Bool → Type 0 = λ m. IsSight k.causal (changed g (x + c) (y + q) (with_sign k m)) x y w' v' in
    record {
      sight = subst P e' (record { window = window; signs = signs });
      source = u';
    }
