-- Coded bytes hold no marker: ITU-T T.800, Annexes B.10.1, C.2 and D.6.
use Rattle.std.specs.Prelude.{◌≡◌, ◌≢◌, ◌≤◌, ℕ, List, [], ◌∷◌}

-- after a byte, no FF stands before a byte above 8F, and the last one isn't FF
abbrev pub HasNoMarker : ℕ → List ℕ → Type 0
HasNoMarker before [] = before ≢ 255
HasNoMarker before (byte ∷ rest) = (before ≡ 255 → byte ≤ 143) × HasNoMarker byte rest

-- the last byte, or the one before the first
abbrev pub last_after : ℕ → List ℕ → ℕ
last_after before [] = before
last_after before (byte ∷ rest) = last_after byte rest
