-- The order of keys.
use Rattle.std.proofs.Common.{ℕ, List, [], ◌∷◌, ◌++◌, inl, inr, ◌∙◌, arith}
use Rattle.jx_progression.specs.Orders.{IsLess}

pub less_both : (xs ys : List ℕ) → IsLess xs ys → IsLess ys xs → ⊥
less_both [] ys h k = h
less_both (x ∷ xs) [] h k = h
less_both (x ∷ xs) (y ∷ ys) h k = elim h [
  | inl lt ↦ elim k [ inl gt ↦ omega arith | inr same ↦ omega (arith, same.0) ]
  | inr eq ↦ elim k [ inl gt ↦ omega (arith, eq.0) | inr same ↦ less_both xs ys eq.1 same.1 ]
]

pub less_trans : (xs ys zs : List ℕ) → IsLess xs ys → IsLess ys zs → IsLess xs zs
less_trans [] ys zs h k = absurd h
less_trans (x ∷ xs) [] zs h k = absurd h
less_trans (x ∷ xs) (y ∷ ys) [] h k = absurd k
less_trans (x ∷ xs) (y ∷ ys) (z ∷ zs) h k = elim h [
  | inl lt ↦ elim k [ inl lt2 ↦ inl (omega arith) | inr same ↦ inl (omega (arith, same.0)) ]
  | inr eq ↦ elim k [ inl lt2 ↦ inl (omega (arith, eq.0)) | inr same ↦ inr (eq.0 ∙ same.0, less_trans xs ys zs eq.1 same.1) ]
]

-- a key that goes on behind one that is less is less
pub less_more : (xs ys zs ws : List ℕ) → IsLess xs ys → IsLess (xs ++ zs) (ys ++ ws)
less_more [] ys zs ws h = absurd h
less_more (x ∷ xs) [] zs ws h = absurd h
less_more (x ∷ xs) (y ∷ ys) zs ws h = elim h [
  | inl lt ↦ inl lt
  | inr eq ↦ inr (eq.0, less_more xs ys zs ws eq.1)
]

-- a last 0 changes no order
pub drop_zero : (a b c d e f : ℕ) → IsLess (a ∷ b ∷ c ∷ 0 ∷ []) (d ∷ e ∷ f ∷ 0 ∷ []) → IsLess (a ∷ b ∷ c ∷ []) (d ∷ e ∷ f ∷ [])
drop_zero a b c d e f less = elim less [
  | inl lt ↦ inl lt
  | inr one ↦ inr (
    one.0,
    elim one.1 [
      | inl lt ↦ inl lt
      | inr two ↦ inr (
        two.0,
        elim two.1 [
          | inl lt ↦ inl lt
          | inr three ↦ elim three.1 [ inl zero_less ↦ absurd (omega (arith, zero_less)) | inr four ↦ absurd four.1 ]
        ],
      )
    ],
  )
]
