-- Marks and signs of coefficients that a pass over a word changes, and the lists that show them.
use Rattle.std.proofs.Common.{◌≡◌, ◌<◌, ◌≤◌, ◌+◌, ◌-◌, ◌*◌, ◌/◌, ◌%◌, ◌==◌, ◌||◌, ◌&&◌, ℕ, min, Bool, true, false, sym, ap, ◌∙◌, arith, subst, inl, inr, List, get_or, set, if◌then◌else◌}
use Rattle.std.specs.Prelude.{nat_lt}
use Rattle.std.specs.Int.{bit_at}
use Rattle.std.proofs.lemmas.Bool.{cases_Bool, cases_lt, lt-ltb}
use Rattle.std.proofs.lemmas.Bool.Decides.{nat_tests}
use Rattle.jx_tier1_specs.specs.declared.coef.Coef.{Coef}
use Rattle.jx_tier1_specs.specs.Cells.{Cells, zero_coef, coef_at, significant}
use Rattle.jx_tier1_specs.specs.Near.{one_if}
use Rattle.jx_tier1.specs.Blocks.{Draws, Sees}
use Rattle.jx_tier1.specs.Marks.{mark, minus, is_outside}
use Rattle.jx_tier1.specs.WordPasses.{in_word, Picks}
use Rattle.jx_tier1.proofs.BlockBits.{IsWordAt, IsOwn, draws_put}
use Rattle.jx_tier1.proofs.MarkLemmas.{not_inside, inside_not, one_le}
use Rattle.jx_tier1.proofs.SightLemmas.{shown, not_five}
use Rattle.jx_tier1.proofs.WordMoves.{Moves}
use Rattle.jx_tier1.proofs.WordScanLemmas.{place_there}

-- 1 where a coefficient stands that passes a test
abbrev pub flag : (Coef → Bool) → Cells → ℕ → ℕ → ℕ
flag T g column row = if is_outside g column row then 0 else one_if (T (coef_at g (column - 1) (row - 1)))

abbrev pub is_marked : Coef → Bool
is_marked c = significant c

abbrev pub is_negative : Coef → Bool
is_negative c = c.negative

-- marks and signs are such values
pub draws_marks : (wide : ℕ) (g : Cells) (words : List ℕ) → Draws wide (flag is_marked g) words → Draws wide (mark g) words
unfolding mark
draws_marks wide g words d = d

pub marks_drawn : (wide : ℕ) (g : Cells) (words : List ℕ) → Draws wide (mark g) words → Draws wide (flag is_marked g) words
unfolding mark
marks_drawn wide g words d = d

pub draws_signs : (wide : ℕ) (g : Cells) (words : List ℕ) → Draws wide (flag is_negative g) words → Draws wide (minus g) words
unfolding minus
draws_signs wide g words d = d

pub signs_drawn : (wide : ℕ) (g : Cells) (words : List ℕ) → Draws wide (minus g) words → Draws wide (flag is_negative g) words
unfolding minus
signs_drawn wide g words d = d

pub sees_marks : (causal : Bool) (g : Cells) (x y w : ℕ) → Sees causal (mark g) x y w → Sees causal (flag is_marked g) x y w
unfolding mark
sees_marks causal g x y w s = s

pub sees_signs : (causal : Bool) (g : Cells) (x y w : ℕ) → Sees causal (minus g) x y w → Sees causal (flag is_negative g) x y w
unfolding minus
sees_signs causal g x y w s = s

-- within the block, and outside it
within : (T : Coef → Bool) (g : Cells) (c r : ℕ) → is_outside g c r ≡ false → flag T g c r ≡ one_if (T (coef_at g (c - 1) (r - 1)))
within T g c r e = ap (λ (b : Bool). if b then 0 else one_if (T (coef_at g (c - 1) (r - 1)))) e

pub outside : (T : Coef → Bool) (g : Cells) (c r : ℕ) → is_outside g c r ≡ true → flag T g c r ≡ 0
outside T g c r e = ap (λ (b : Bool). if b then 0 else one_if (T (coef_at g (c - 1) (r - 1)))) e

pub flag_there : (T : Coef → Bool) (g : Cells) (x y : ℕ) → x < g.width → y < g.height → flag T g (x + 1) (y + 1) ≡ one_if (T (coef_at g x y))
flag_there T g x y l m =
    let e : x + 1 - 1 ≡ x = omega arith in
    let f : y + 1 - 1 ≡ y = omega arith in
    within T g (x + 1) (y + 1) (inside_not g (x + 1) (y + 1) (record { left = omega arith; top = omega arith; right = omega arith; bottom = omega arith }))
    ∙ (ap (λ (n : ℕ). one_if (T (coef_at g n (y + 1 - 1)))) e ∙ ap (λ (n : ℕ). one_if (T (coef_at g x n))) f)

flag_le : (T : Coef → Bool) (g : Cells) (c r : ℕ) → flag T g c r ≤ 1
flag_le T g c r =
    elim (cases_Bool (is_outside g c r)) [
      | inl e ↦ subst (λ (n : ℕ). n ≤ 1) (sym (outside T g c r e)) (omega arith)
      | inr e ↦ subst (λ (n : ℕ). n ≤ 1) (sym (within T g c r e)) (one_le (T (coef_at g (c - 1) (r - 1))))
    ]

-- what a pass over a word leaves
outside_as : (R : Coef → Coef → Type 0) (t s : ℕ) (g v : Cells) (c r : ℕ) → Moves R t s g v → is_outside v c r ≡ is_outside g c r
outside_as R t s g v c r m =
    ap (λ (n : ℕ). c == 0 || r == 0 || nat_lt n c || nat_lt v.height r) m.width ∙ ap (λ (n : ℕ). c == 0 || r == 0 || nat_lt g.width c || nat_lt n r) m.height

pub flag_elsewhere : (T : Coef → Bool) (R : Coef → Coef → Type 0) (t s : ℕ) (g v : Cells) (c r : ℕ) → Moves R t s g v → (IsOwn s t c r → ⊥) → flag T v c r ≡ flag T g c r
flag_elsewhere T R t s g v c r m n =
    let o = outside_as R t s g v c r m in
    elim (cases_Bool (is_outside g c r)) [
      | inl e ↦ outside T v c r (o ∙ e) ∙ sym (outside T g c r e)
      | inr e ↦
          (let i = not_inside g c r e in
          let a = i.left in
          let b = i.top in
          let d = i.right in
          within T v c r (o ∙ e)
          ∙ (ap (λ (u : Coef). one_if (T u))
          (m.stays (c - 1) (r - 1) (omega arith) (λ p q. n (record { group = omega arith; stripe = omega arith })))
          ∙ sym (within T g c r e)))
    ]

-- a coefficient and what becomes of it
pub pair_at : (R : Coef → Coef → Type 0) (t s : ℕ) (g v : Cells) (x y : ℕ) → Moves R t s g v → R (coef_at g x y) (coef_at v x y)
pair_at R t s g v x y m =
    let P : ℕ → Type 0 = λ n. R (coef_at g x y) (get_or v.coefs (y * n + x) zero_coef) in
    subst P (sym m.width) (m.each (y * g.width + x))

pub flag_same : (T : Coef → Bool) (R : Coef → Coef → Type 0) (t s : ℕ) (g v : Cells) (c r : ℕ) → Moves R t s g v → ((a b : Coef) → R a b → T b ≡ T a) → flag T v c r ≡ flag T g c r
flag_same T R t s g v c r m f =
    let o = outside_as R t s g v c r m in
    elim (cases_Bool (is_outside g c r)) [
      | inl e ↦ outside T v c r (o ∙ e) ∙ sym (outside T g c r e)
      | inr e ↦
          (within T v c r (o ∙ e)
          ∙ (ap one_if (f (coef_at g (c - 1) (r - 1)) (coef_at v (c - 1) (r - 1)) (pair_at R t s g v (c - 1) (r - 1) m)) ∙ sym (within T g c r e)))
    ]

pub draws_same : (T : Coef → Bool) (R : Coef → Coef → Type 0) (t s wide : ℕ) (g v : Cells) (words : List ℕ) → Moves R t s g v → ((a b : Coef) → R a b → T b ≡ T a)
    → Draws wide (flag T g) words → Draws wide (flag T v) words
draws_same T R t s wide g v words m f d = record { at = λ c r l. d.at c r l ∙ sym (flag_same T R t s g v c r m f) }

-- whether a bit of the word has a place
pub record IsThere (g : Cells) (x y c r : ℕ) : Type 0 where
  pub has : in_word g x y (6 * c + r) ≡ true
  pub column : x + c < g.width
  pub row : y + r < g.height

pub record IsNowhere (g : Cells) (x y c r : ℕ) : Type 0 where
  pub has : in_word g x y (6 * c + r) ≡ false
  pub outside : is_outside g (x + (c + 1)) (y + (r + 1)) ≡ true

pub word_there : (g : Cells) (x y c r : ℕ) → c < 8 → r < 4 → x + c < g.width → y + r < g.height → in_word g x y (6 * c + r) ≡ true
word_there g x y c r l m p q =
    let i : ℕ = 6 * c + r in
    rw (lt-ltb i 48 (omega arith)) (place_there g x y i (omega arith) (omega arith) (omega arith))

no_column : (w h c r : ℕ) → w < c → (c == 0 || r == 0 || nat_lt w c || nat_lt h r) ≡ true
no_column w h c r l = grind (arith, nat_tests)

no_row : (w h c r : ℕ) → h < r → (c == 0 || r == 0 || nat_lt w c || nat_lt h r) ≡ true
no_row w h c r l = grind (arith, nat_tests)

no_word : (a b c d e f i : ℕ) → (d ≤ c) → (nat_lt i 48 && (nat_lt a b && (nat_lt c d && nat_lt e f))) ≡ false
no_word a b c d e f i l = grind (arith, nat_tests)

no_word_row : (a b c d e f i : ℕ) → (f ≤ e) → (nat_lt i 48 && (nat_lt a b && (nat_lt c d && nat_lt e f))) ≡ false
no_word_row a b c d e f i l = grind (arith, nat_tests)

pub there_or_not : (g : Cells) (x y c r : ℕ) (A : Type 0) → c < 8 → r < 4 → (IsThere g x y c r → A) → (IsNowhere g x y c r → A) → A
there_or_not g x y c r A l m f h =
    let i : ℕ = 6 * c + r in
    elim (cases_lt (x + c) g.width) [
      | inl p ↦ elim (cases_lt (y + r) g.height) [
        | inl q ↦ f (record { has = word_there g x y c r l m p q; column = p; row = q })
        | inr q ↦ h (record {
          has = no_word_row (i % 6) 4 (x + i / 6) g.width (y + i % 6) g.height i (omega arith);
          outside = no_row g.width g.height (x + (c + 1)) (y + (r + 1)) (omega arith);
        })
      ]
      | inr p ↦ h (record {
        has = no_word (i % 6) 4 (x + i / 6) g.width (y + i % 6) g.height i (omega arith);
        outside = no_column g.width g.height (x + (c + 1)) (y + (r + 1)) (omega arith);
      })
    ]

abbrev pub any : Coef → Bool
any c = true

-- a word's own places of a window
pub own_flags : (T : Coef → Bool) (causal : Bool) (g : Cells) (x y w valid o : ℕ) → Sees causal (flag T g) x y w → Picks any g x y valid
    → ((i : ℕ) → bit_at o i ≡ min (bit_at w (i + 7)) (bit_at valid i))
    → (c r : ℕ) → c < 8 → r < 4 → bit_at o (6 * c + r) ≡ flag T g (x + (c + 1)) (y + (r + 1))
own_flags T causal g x y w valid o s v e c r l m =
    let F : ℕ = flag T g (x + (c + 1)) (y + (r + 1)) in
    let i : 6 * c + r + 7 ≡ 6 * (c + 1) + (r + 1) = omega arith in
    let a : bit_at w (6 * c + r + 7) ≡ F =
    ap (λ (n : ℕ). bit_at w n) i
    ∙ (s.at (c + 1) (r + 1) (omega arith) (omega arith) ∙ shown causal (r + 1) F (not_five causal (r + 1) (λ z. omega arith))) in
    let few = flag_le T g (x + (c + 1)) (y + (r + 1)) in
    there_or_not g x y c r (bit_at o (6 * c + r) ≡ F) l m
    (λ t. let b = v.place (6 * c + r) t.has in let f = e (6 * c + r) in let z : min F 1 ≡ F = omega arith in
    f ∙ (ap (λ (n : ℕ). min n (bit_at valid (6 * c + r))) a ∙ (ap (λ (n : ℕ). min F n) b ∙ z)))
    (λ t. let b = v.none (6 * c + r) t.has in let f = e (6 * c + r) in let z : min F 0 ≡ 0 = omega arith in
    f ∙ (ap (λ (n : ℕ). min n (bit_at valid (6 * c + r))) a ∙ (ap (λ (n : ℕ). min F n) b ∙ (z ∙ sym (outside T g (x + (c + 1)) (y + (r + 1)) t.outside)))))

-- the list, once the word's own places stand in it
pub flags_put : (T : Coef → Bool) (R : Coef → Coef → Type 0) (causal : Bool) (wide t s at w valid o : ℕ) (g v : Cells) (words : List ℕ) → IsWordAt wide s t at words
    → Moves R t s g v → Draws wide (flag T g) words → Sees causal (flag T v) (8 * t) (4 * s) w → Picks any v (8 * t) (4 * s) valid
    → ((i : ℕ) → bit_at o i ≡ min (bit_at w (i + 7)) (bit_at valid i)) → Draws wide (flag T v) (set words at o)
flags_put T R causal wide t s at w valid o g v words a m d e p q =
    draws_put wide s t at o (flag T g) (flag T v) words a d (λ c r n. flag_elsewhere T R t s g v c r m n) (own_flags T causal v (8 * t) (4 * s) w valid o e p q)
