-- The greatest of a list is one of its numbers, and none is above it.
use Rattle.std.proofs.Common.{◌≡◌, ◌<◌, ◌≤◌, ◌+◌, ap, arith, ℕ, zero, suc, List, [], ◌∷◌, map, inl, inr, Some}
use Rattle.std.specs.List.{slice_get, range_with_len}
use Rattle.std.proofs.lemmas.Bool.{cases_lt, cases_eq}
use Rattle.std.proofs.lemmas.Option.{none-some, same_Some}
use Rattle.jx_base.specs.declared.pieces.Block.{Block}
use Rattle.jx_codestream.specs.declared.Stream.{Stream}
use Rattle.jx_codestream.specs.First.{tile_number}
use Rattle.jx_codestream.specs.Shapes.{layers_of}
use Rattle.jx_layers.specs.Rule.{greatest}
use Rattle.jx_plan.specs.Facts.{IsReached, most_layers, most_planes}

above : (f : ℕ → ℕ) (a n k : ℕ) → a ≤ k → k < a + n → f k ≤ greatest (map f (range_with_len a n))
above f a zero k from below = absurd (omega arith)
above f a (suc n) k from below = elim (cases_eq a k) [
  | inl same ↦ omega (arith, ap f same)
  | inr other ↦ omega (arith, above f (a + 1) n k (omega arith) (omega arith))
]

-- and one of them is it
reached : (f : ℕ → ℕ) (a n : ℕ) → 1 ≤ n → IsReached f a (a + n) (greatest (map f (range_with_len a n)))
reached f a zero some = absurd (omega arith)
reached f a (suc zero) some = record { at = a; from = omega arith; below = omega arith; is = omega arith }
reached f a (suc (suc n)) some =
    let more = reached f (a + 1) (suc n) (omega arith) in
    elim (cases_lt (f a) (greatest (map f (range_with_len (a + 1) (suc n))))) [
      | inl lt ↦ record { at = more.at; from = omega (arith, more.from); below = omega (arith, more.below); is = omega (arith, more.is) }
      | inr ge ↦ record { at = a; from = omega arith; below = omega arith; is = omega arith }
    ]

pub layers_most : (s : Stream) (t : ℕ) → t < tile_number s.siz → layers_of s t ≤ most_layers s
unfolding most_layers
layers_most s t lt = above (layers_of s) 0 (tile_number s.siz) t (omega arith) (omega arith)

pub layers_reached : (s : Stream) → 1 ≤ tile_number s.siz → IsReached (layers_of s) 0 (tile_number s.siz) (most_layers s)
unfolding most_layers
layers_reached s some =
    let r = reached (layers_of s) 0 (tile_number s.siz) some in
    record { at = r.at; from = r.from; below = omega (arith, r.below); is = r.is }

pub planes_most : (blocks : List Block) (n : ℕ) (b : Block) → slice_get blocks n ≡ Some b → b.planes ≤ most_planes blocks
planes_most [] n b is = absurd (none-some b is)
planes_most (x ∷ blocks) zero b is = omega (arith, ap (λ (y : Block). y.planes) (same_Some x b is))
planes_most (x ∷ blocks) (suc n) b is = omega (arith, planes_most blocks n b is)
