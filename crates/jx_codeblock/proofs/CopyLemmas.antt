-- Bytes from a place up to another, out of pieces one behind another.
use Rattle.std.proofs.Common.{◌≡◌, ℕ, zero, suc, ◌+◌, ◌-◌, ◌≤◌, List, [], ◌∷◌, ◌++◌, ◌∙◌, ap, sym, refl, arith, length, take, drop, append_assoc, append-nil, length-append}
use Rattle.std.proofs.lemmas.List.{length-take, take-append-le}
use Rattle.std.proofs.Math.Seq.{drop-nil}

pub take_nil : (n : ℕ) → ◌≡◌ {A = List ℕ} (take n []) []
take_nil zero = refl
take_nil (suc n) = refl

-- what is taken of two lists
pub part_split : (b rest : List ℕ) (skip left : ℕ)
    → take left (drop skip (b ++ rest)) ≡ take left (drop skip b) ++ take (left - length (take left (drop skip b))) (drop (skip - length b) rest)
part_split [] rest skip left =
    let z : take left (drop skip []) ≡ [] = ap (take left) (drop-nil skip) ∙ take_nil left in
    let e : left - 0 ≡ left = omega arith in
    let f : skip - 0 ≡ skip = omega arith in
    rw z (rw (e, f) refl)
part_split (x ∷ b) rest zero zero = refl
part_split (x ∷ b) rest zero (suc left) =
    let e : suc left - suc (length (take left b)) ≡ left - length (take left b) = omega arith in
    let f : 0 - suc (length b) ≡ 0 - length b = omega arith in
    rw (e, f) (ap (λ (l : List ℕ). x ∷ l) (part_split b rest zero left))
part_split (x ∷ b) rest (suc skip) left =
    let f : suc skip - suc (length b) ≡ skip - length b = omega arith in
    rw f (part_split b rest skip left)

pub copied_next : (out more whole bytes rest all : List ℕ) (skip left skip' left' : ℕ) → all ≡ bytes ++ rest → out ++ take left (drop skip all) ≡ whole
    → more ≡ out ++ take left (drop skip bytes) → skip' ≡ skip - length bytes → left' ≡ left - length (take left (drop skip bytes))
    → more ++ take left' (drop skip' rest) ≡ whole
copied_next out more whole bytes rest all skip left skip' left' split before step s l =
    let some : List ℕ = take left (drop skip bytes) in
    let e : take left' (drop skip' rest) ≡ take (left - length some) (drop (skip - length bytes) rest) = rw (s, l) refl in
    ap (λ (m : List ℕ). m ++ take left' (drop skip' rest)) step
    ∙ ap (λ (m : List ℕ). (out ++ some) ++ m) e
    ∙ append_assoc out some (take (left - length some) (drop (skip - length bytes) rest))
    ∙ ap (λ (m : List ℕ). out ++ m) (sym (part_split bytes rest skip left))
    ∙ ap (λ (m : List ℕ). out ++ take left (drop skip m)) (sym split) ∙ before

-- where nothing is left
pub copied_done : (out whole rest : List ℕ) (skip left : ℕ) → out ++ take left (drop skip rest) ≡ whole → left ≡ 0 → out ≡ whole
copied_done out whole rest skip left before none =
    let e : out ++ take 0 (drop skip rest) ≡ whole = rw none at before in
    sym (append-nil out) ∙ e

pub copied_room : (out whole bytes rest all : List ℕ) (skip left : ℕ) → all ≡ bytes ++ rest → out ++ take left (drop skip all) ≡ whole
    → length out + length (take left (drop skip bytes)) ≤ length whole
copied_room out whole bytes rest all skip left split before =
    let some : List ℕ = take left (drop skip bytes) in
    let more : List ℕ = take (left - length some) (drop (skip - length bytes) rest) in
    let e : out ++ (some ++ more) ≡ whole = ap (λ (m : List ℕ). out ++ m) (sym (part_split bytes rest skip left)) ∙ ap (λ (m : List ℕ). out ++ take left (drop skip m)) (sym split) ∙ before in
    let f : length (out ++ (some ++ more)) ≡ length whole = ap (λ (m : List ℕ). length m) e in
    omega (arith, length-append out (some ++ more), length-append some more)

pub before_next : (first out more some : List ℕ) → take (length first) out ≡ first → more ≡ out ++ some → take (length first) more ≡ first
before_next first out more some h e =
    let l : length (take (length first) out) ≡ length first = ap (λ (m : List ℕ). length m) h in
    let within : length first ≤ length out = omega (arith, length-take (length first) out) in
    ap (take (length first)) e ∙ take-append-le (length first) out some within ∙ h
