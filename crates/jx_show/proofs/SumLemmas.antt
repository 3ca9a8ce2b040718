-- The bytes of the blocks of each component, one block more.
use Rattle.std.proofs.Common.{◌≡◌, ◌∙◌, ◌<◌, ◌≤◌, ◌+◌, ◌*◌, ◌==◌, ℕ, Bool, true, false, nat_lt, arith, ap, sym, List, length, take, get_or, sum_by, cond, inl, inr}
use Rattle.std.proofs.Math.ListN.{set}
use Rattle.std.proofs.lemmas.Bool.{cases_eq, cases_lt, eq-eqb, le-ltb, lt-ltb, ne_eqb}
use Rattle.std.proofs.lemmas.Grind.{get_or-set_at}
use Rattle.std.proofs.lemmas.List.{get_or-set_other, length-set}
use Rattle.std.proofs.lemmas.List.Sums.{sum_by_more}
use Rattle.jx_base.specs.declared.pieces.Block.{Block}
use Rattle.jx_show.specs.Facts.{block_bytes, bytes_in_comp}
use Rattle.jx_base.specs.Limits.{most_bytes}

-- the sums with n more at k, where it is there
abbrev pub with_more : List ℕ → ℕ → ℕ → List ℕ
with_more sums k n = cond (nat_lt k (length sums)) (set sums k (get_or sums k 0 + n)) sums

more_inside : (sums : List ℕ) (k n : ℕ) → k < length sums → with_more sums k n ≡ set sums k (get_or sums k 0 + n)
more_inside sums k n lt = ap (λ (b : Bool). cond b (set sums k (get_or sums k 0 + n)) sums) (lt-ltb k (length sums) lt)

more_outside : (sums : List ℕ) (k n : ℕ) → length sums ≤ k → with_more sums k n ≡ sums
more_outside sums k n ge = ap (λ (b : Bool). cond b (set sums k (get_or sums k 0 + n)) sums) (le-ltb k (length sums) ge)

pub more_long : (sums : List ℕ) (k n : ℕ) → length (with_more sums k n) ≡ length sums
more_long sums k n = elim (cases_lt k (length sums)) [
  | inl lt ↦ ap (λ (xs : List ℕ). length xs) (more_inside sums k n lt) ∙ length-set sums k (get_or sums k 0 + n)
  | inr ge ↦ ap (λ (xs : List ℕ). length xs) (more_outside sums k n ge)
]

pub added : (sums next : List ℕ) (k n c : ℕ) → c < length sums → next ≡ with_more sums k n → get_or next c 0 ≡ get_or sums c 0 + cond (k == c) n 0
added sums next k n c inside e = elim (cases_eq k c) [
  | inl same ↦
      let within : k < length sums = omega (arith, same, inside) in
      let there : get_or (set sums k (get_or sums k 0 + n)) c 0 ≡ get_or sums k 0 + n = get_or-set_at sums k c (get_or sums k 0 + n) 0 (sym same) within in
      let was : get_or sums k 0 ≡ get_or sums c 0 = ap (λ (m : ℕ). get_or sums m 0) same in
      let right : cond (k == c) n 0 ≡ n = ap (λ (b : Bool). cond b n 0) (eq-eqb k c same) in
      let left : get_or next c 0 ≡ get_or sums k 0 + n = ap (λ (xs : List ℕ). get_or xs c 0) (e ∙ more_inside sums k n within) ∙ there in
      omega (arith, left, was, right)
  | inr other ↦
      let right : cond (k == c) n 0 ≡ 0 = ap (λ (b : Bool). cond b n 0) (ne_eqb k c other) in
      let left : get_or next c 0 ≡ get_or sums c 0 = elim (cases_lt k (length sums)) [
        | inl lt ↦ ap (λ (xs : List ℕ). get_or xs c 0) (e ∙ more_inside sums k n lt) ∙ get_or-set_other sums k c (get_or sums k 0 + n) 0 (λ h. other (sym h))
        | inr ge ↦ ap (λ (xs : List ℕ). get_or xs c 0) (e ∙ more_outside sums k n ge)
      ] in
      omega (arith, left, right)
]

pub sums_next : (blocks : List Block) (i c n : ℕ) (b : Block) (sums next : List ℕ) → i < length blocks → b ≡ get_or blocks i b → c < length sums → n ≡ block_bytes b
    → next ≡ with_more sums b.name.comp n → get_or sums c 0 ≡ sum_by (bytes_in_comp c) (take i blocks) → get_or next c 0 ≡ sum_by (bytes_in_comp c) (take (i + 1) blocks)
sums_next blocks i c n b sums next inside item within bytes e before =
    let more : sum_by (bytes_in_comp c) (take (i + 1) blocks) ≡ sum_by (bytes_in_comp c) (take i blocks) + bytes_in_comp c (get_or blocks i b) = sum_by_more (bytes_in_comp c) blocks i b inside in
    let here : bytes_in_comp c b ≡ bytes_in_comp c (get_or blocks i b) = ap (bytes_in_comp c) item in
    let own : cond (b.name.comp == c) n 0 ≡ bytes_in_comp c b = ap (λ (m : ℕ). cond (b.name.comp == c) m 0) bytes in
    omega (arith, added sums next b.name.comp n c within e, before, more, here, own)

at_most : (holds : Bool) (n m : ℕ) → n ≤ m → cond holds n 0 ≤ m
at_most true n m le = le
at_most false n m le = omega arith

pub sums_most : (sums next : List ℕ) (k n c i : ℕ) → c < length sums → n ≤ most_bytes → next ≡ with_more sums k n → get_or sums c 0 ≤ i * most_bytes → get_or next c 0 ≤ (i + 1) * most_bytes
sums_most sums next k n c i within few e before = omega (arith, added sums next k n c within e, at_most (k == c) n (most_bytes) few, before)
