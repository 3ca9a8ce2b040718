-- The passes of a drawn block: where the layers begin, and what a loop over passes and bytes draws.
use Rattle.std.proofs.Common.{◌≡◌, ℕ, zero, suc, ◌+◌, ◌-◌, ◌*◌, ◌/◌, ◌%◌, ◌≤◌, ◌<◌, ◌==◌, List, [], ◌∷◌, ◌++◌, map, refl, sym, ap, ◌∙◌, arith, if◌then◌else◌, cond, append_assoc, append-nil}
use Rattle.std.proofs.lemmas.Bool.{cond-false, ne_eqb}
use Rattle.jx_base.specs.Numbers.{ceil_of}
use Rattle.jx_base.proofs.Ceilings.{below_ceil, ceil_above, ceil_from, ceil_least, ceil_grows, ceil_reaches}
use Rattle.std.specs.Prelude.{◌↔◌}
use Rattle.std.proofs.Math.Nat.{le-div_iff_mul-le}
use Rattle.jx_generate.specs.Random.{number_at, numbers_at, state_after, state_past}
use Rattle.jx_generate.specs.Drawn.{first_pass, lowered, pass_bytes, passes_bytes, passes_in, past_block, past_pass, past_passes, state_before, stuffed, without_end, without_markers}

pub first_few : (n layer : ℕ) → n ≤ 37 → layer ≤ 12 → ceil_of (layer * n) 12 ≤ 37
first_few n layer few le =
    let reaches : layer * n ≤ 37 * 12 = grind arith in
    ceil_least (layer * n) 12 37 (omega arith) reaches

-- the bytes that are left, once one of them was drawn
abbrev pub bytes_left : ℕ → ℕ → ℕ → List ℕ
bytes_left before x n = without_end (without_markers before (map (λ (b : ℕ). b % 256) (numbers_at x n)))

pub one_byte : (before x n : ℕ) → bytes_left before x (suc n)
    ≡ (if n == 0 then lowered (stuffed before (number_at x % 256)) else stuffed before (number_at x % 256)) ∷ bytes_left (stuffed before (number_at x % 256)) (state_after x) n
one_byte before x zero = refl
one_byte before x (suc n) =
    let v : ℕ = stuffed before (number_at x % 256) in
    let w : ℕ = cond (suc n == 0) (lowered v) v in
    let e : w ≡ v = cond-false (suc n == 0) (lowered v) v (ne_eqb (suc n) 0 (λ z. omega arith)) in
    ap (λ (b : ℕ). b ∷ bytes_left v (state_after x) (suc n)) (sym e)

-- a step of the loop over a pass's bytes
pub byte_next : (out more base : List ℕ) (before x v y byte left next : ℕ) → left ≡ suc next → v ≡ stuffed before (number_at x % 256) → y ≡ state_after x
    → byte ≡ (if next == 0 then lowered v else v) → more ≡ out ++ byte ∷ [] → out ++ bytes_left before x left ≡ base → more ++ bytes_left v y next ≡ base
byte_next out more base before x v y byte left next e value state last step was =
    let w : ℕ → ℕ = λ z. cond (next == 0) (lowered z) z in
    let z : ℕ = stuffed before (number_at x % 256) in
    let rest : List ℕ = bytes_left v y next in
    let same : byte ∷ rest ≡ w z ∷ bytes_left z (state_after x) next =
    ap (λ (b : ℕ). b ∷ rest) (last ∙ ap w value) ∙ ap (λ (b : ℕ). w z ∷ bytes_left b y next) value ∙ ap (λ (b : ℕ). w z ∷ bytes_left z b next) state in
    let whole : byte ∷ rest ≡ bytes_left before x left = same ∙ sym (one_byte before x next) ∙ ap (bytes_left before x) (sym e) in
    ap (λ (xs : List ℕ). xs ++ rest) step ∙ append_assoc out (byte ∷ []) rest ∙ ap (λ (xs : List ℕ). out ++ xs) whole ∙ was

pub past_next : (x y left next end : ℕ) → left ≡ suc next → y ≡ state_after x → state_past x left ≡ end → state_past y next ≡ end
past_next x y left next end e state was = ap (λ (z : ℕ). state_past z next) state ∙ ap (state_past x) (sym e) ∙ was

pub bytes_none : (out base : List ℕ) (before x left : ℕ) → left ≡ 0 → out ++ bytes_left before x left ≡ base → out ≡ base
bytes_none out base before x left none was = sym (append-nil out) ∙ sym (ap (λ (n : ℕ). out ++ bytes_left before x n) none) ∙ was

pub past_none : (x left end : ℕ) → left ≡ 0 → state_past x left ≡ end → x ≡ end
past_none x left end none was = sym (ap (state_past x) none) ∙ was

-- the bytes of a pass
pub pass_drawn : (x y n : ℕ) → y ≡ state_after x → n ≡ number_at x % 24 → bytes_left 0 y n ≡ pass_bytes x
unfolding pass_bytes
pass_drawn x y n state count = ap (λ (z : ℕ). bytes_left 0 z n) state ∙ ap (bytes_left 0 (state_after x)) count

pub pass_past : (x y n : ℕ) → y ≡ state_after x → n ≡ number_at x % 24 → state_past y n ≡ past_pass x
unfolding past_pass
pass_past x y n state count = ap (λ (z : ℕ). state_past z n) state ∙ ap (state_past (state_after x)) count

-- a step of the loop over passes
pub passes_next : (out more base : List ℕ) (x y left next : ℕ) → left ≡ suc next → y ≡ past_pass x → more ≡ out ++ pass_bytes x
    → out ++ passes_bytes x left ≡ base → more ++ passes_bytes y next ≡ base
passes_next out more base x y left next e state step was =
    ap (λ (xs : List ℕ). xs ++ passes_bytes y next) step ∙ append_assoc out (pass_bytes x) (passes_bytes y next)
    ∙ ap (λ (z : ℕ). out ++ (pass_bytes x ++ passes_bytes z next)) state ∙ ap (λ (n : ℕ). out ++ passes_bytes x n) (sym e) ∙ was

pub passed_next : (x y left next end : ℕ) → left ≡ suc next → y ≡ past_pass x → past_passes x left ≡ end → past_passes y next ≡ end
passed_next x y left next end e state was = ap (λ (z : ℕ). past_passes z next) state ∙ ap (past_passes x) (sym e) ∙ was

pub first_grows : (n layer : ℕ) → first_pass n layer ≤ first_pass n (layer + 1)
unfolding first_pass
first_grows n layer =
    let le : layer * n ≤ (layer + 1) * n = grind arith in
    ceil_grows (layer * n) ((layer + 1) * n) 12 (omega arith) le

pub first_none : (n : ℕ) → first_pass n 0 ≡ 0
unfolding first_pass
first_none n = (let le : ceil_of (0 * n) 12 ≤ 0 = ceil_least (0 * n) 12 0 (omega arith) (omega arith) in omega arith)

-- twelve layers have all passes
pub first_all : (n : ℕ) → first_pass n 12 ≡ n
unfolding first_pass
first_all n =
    let le : ceil_of (12 * n) 12 ≤ n = ceil_least (12 * n) 12 n (omega arith) (omega arith) in
    let reaches : 12 * n ≤ ceil_of (12 * n) 12 * 12 = ceil_reaches (12 * n) 12 (omega arith) in
    omega arith

pub past_more : (x m n : ℕ) → past_passes (past_passes x m) n ≡ past_passes x (m + n)
past_more x zero n = let e : 0 + n ≡ n = omega arith in ap (past_passes x) (sym e)
past_more x (suc m) n = let e : suc (m + n) ≡ suc m + n = omega arith in past_more (past_pass x) m n ∙ ap (past_passes x) e

-- the state before the next layer
pub past_layer : (x y z n layer : ℕ) → y ≡ past_passes x (first_pass n layer) → z ≡ past_passes y (passes_in n layer) → z ≡ past_passes x (first_pass n (layer + 1))
unfolding passes_in
past_layer x y z n layer before after =
    let e : first_pass n layer + (first_pass n (layer + 1) - first_pass n layer) ≡ first_pass n (layer + 1) = omega (arith, first_grows n layer) in
    after ∙ ap (λ (s : ℕ). past_passes s (first_pass n (layer + 1) - first_pass n layer)) before
    ∙ past_more x (first_pass n layer) (first_pass n (layer + 1) - first_pass n layer) ∙ ap (past_passes x) e

-- the state before the next block
pub before_next : (seed n x y : ℕ) → x ≡ state_before seed n → y ≡ past_block x → y ≡ state_before seed (n + 1)
before_next seed n x y before after = let e : suc n ≡ n + 1 = omega arith in after ∙ ap past_block before ∙ ap (state_before seed) e

-- ---- in which layer a pass lies
pub pass_layer : (n i layer : ℕ) → i < n → (12 * i / n ≡ layer) ↔ ((first_pass n layer ≤ i) × (i < first_pass n (layer + 1)))
unfolding first_pass
pass_layer n i layer lt =
    let some : 0 < n = omega arith in
    let q : ℕ = 12 * i / n in
    let here : (layer ≤ q) ↔ (layer * n ≤ 12 * i) = le-div_iff_mul-le some in
    let past : (layer + 1 ≤ q) ↔ ((layer + 1) * n ≤ 12 * i) = le-div_iff_mul-le some in
    let up : layer ≤ q → layer * n ≤ 12 * i = here.0 in
    let down : layer * n ≤ 12 * i → layer ≤ q = here.1 in
    let up_next : layer + 1 ≤ q → (layer + 1) * n ≤ 12 * i = past.0 in
    let down_next : (layer + 1) * n ≤ 12 * i → layer + 1 ≤ q = past.1 in (
      λ e.
          (let low : layer * n ≤ 12 * i = up (omega arith) in
          let turned : layer * n ≤ i * 12 = omega arith in
          let high : i * 12 < (layer + 1) * n = grind arith in
          (ceil_least (layer * n) 12 i (omega arith) turned, ceil_above ((layer + 1) * n) 12 i (omega arith) high)),
      λ is.
          (let low : layer * n ≤ i * 12 = ceil_from (layer * n) 12 i (omega arith) is.0 in
          let high : i * 12 < (layer + 1) * n = below_ceil ((layer + 1) * n) 12 i (omega arith) is.1 in
          grind arith),
    )
