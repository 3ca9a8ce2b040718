-- Segments whose lengths are counted in 32 bits.
use Rattle.std.proofs.Common.{◌<◌, ◌^◌, ◌++◌, ◌∷◌, [], ℕ, List, length}
use Rattle.std.proofs.lemmas.List.Elements.{All-append, All-cons, All-nil}
use Rattle.jx_tier1_specs.specs.Short.{AreShort}

pub short_none : AreShort []
short_none = All-nil (λ (t : List ℕ). length t < 2 ^ 32)

pub short_more : (s : List (List ℕ)) (t : List ℕ) → AreShort s → length t < 2 ^ 32 → AreShort (s ++ t ∷ [])
short_more s t h l =
    All-append (λ (u : List ℕ). length u < 2 ^ 32) s (t ∷ []) h (All-cons (λ (u : List ℕ). length u < 2 ^ 32) t [] l (All-nil (λ (u : List ℕ). length u < 2 ^ 32)))
