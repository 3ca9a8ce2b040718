-- Values that stand one after the other.
use Rattle.std.proofs.Common.{◌≡◌, ◌∙◌, ◌≤◌, ◌<◌, ◌+◌, ◌-◌, ◌*◌, ℕ, zero, suc, List, ◌∷◌, ◌++◌, [], length, arith, append_assoc, append-nil, ap, sym, refl, Bool, ◌&&◌}
use Rattle.std.specs.List.{list_all}
use Rattle.jx_marker.specs.Values.{values_from}

pub length_values : {A : Type 0} (value_at : ℕ → List ℕ → A) (size n at : ℕ) (bytes : List ℕ) → length (values_from value_at size n at bytes) ≡ n
length_values value_at size zero at bytes = refl
length_values value_at size (suc n) at bytes = let e = length_values value_at size n (at + size) bytes in omega (arith, e)

-- one more value
pub values_more : {A : Type 0} (value_at : ℕ → List ℕ → A) (size count i at : ℕ) (bytes : List ℕ) (so_far : List A) → i < count
    → so_far ++ values_from value_at size (count - i) at bytes ≡ (so_far ++ value_at at bytes ∷ []) ++ values_from value_at size (count - (i + 1)) (at + size) bytes
values_more value_at size count i at bytes so_far more =
    let one : count - i ≡ suc (count - (i + 1)) = omega arith in rw (one, append_assoc) refl

-- none is left
pub values_all : {A : Type 0} (value_at : ℕ → List ℕ → A) (size count i at : ℕ) (bytes : List ℕ) (so_far all : List A) → count ≤ i
    → so_far ++ values_from value_at size (count - i) at bytes ≡ all → so_far ≡ all
values_all value_at size count i at bytes so_far all done e =
    let none : 0 ≡ count - i = omega arith in
    sym (append-nil so_far) ∙ (ap (λ n. so_far ++ values_from value_at size n at bytes) none ∙ e)

-- a test of all that are left
pub all_left : {A : Type 0} (test : A → Bool) (value_at : ℕ → List ℕ → A) (size count i at : ℕ) (bytes : List ℕ) → i < count
    → list_all test (values_from value_at size (count - i) at bytes) ≡ (test (value_at at bytes) && list_all test (values_from value_at size (count - (i + 1)) (at + size) bytes))
all_left test value_at size count i at bytes more =
    let one : count - i ≡ suc (count - (i + 1)) = omega arith in rw one refl

-- room for those that are left
pub room_left : (size count i : ℕ) → i < count → (count - i) * size ≡ size + (count - (i + 1)) * size
room_left size count i more =
    let one : count - i ≡ suc (count - (i + 1)) = omega arith in rw one (omega arith)
