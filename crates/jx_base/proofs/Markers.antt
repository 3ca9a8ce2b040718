-- Bytes without a marker, after another byte and one after another.
use Rattle.std.proofs.Common.{◌≡◌, ◌≢◌, ℕ, refl, List, [], ◌∷◌, ◌++◌}
use Rattle.jx_base.specs.Markers.{HasNoMarker, last_after}

pub clean_after : (x y : ℕ) (xs : List ℕ) → HasNoMarker x xs → y ≢ 255 → HasNoMarker y xs
clean_after x y [] h ne = ne
clean_after x y (b ∷ bs) h ne = (λ (e : y ≡ 255). absurd (ne e), h.1)

pub append_clean : (x : ℕ) (xs ys : List ℕ) → HasNoMarker x xs → HasNoMarker 0 ys → HasNoMarker x (xs ++ ys)
append_clean x [] ys h k = clean_after 0 x ys k h
append_clean x (b ∷ bs) ys h k = (h.0, append_clean b bs ys h.1 k)

pub last_push : (before : ℕ) (bytes : List ℕ) (byte : ℕ) → last_after before (bytes ++ byte ∷ []) ≡ byte
last_push before [] byte = refl
last_push before (b ∷ rest) byte = last_push b rest byte
