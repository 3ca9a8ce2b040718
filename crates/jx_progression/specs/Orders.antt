-- The five progression orders, as keys by which packets are sorted (ITU-T T.800, Table A.16 and B.12.1).
use Rattle.std.specs.Prelude.{ℕ, ◌==◌, ◌<◌, ◌≡◌, ◌⊎◌, List, [], ◌∷◌, if◌then◌else◌}
use Rattle.jx_geom.specs.Geometry.{Geometry, reference_across, reference_down}
use Rattle.jx_progression.specs.declared.names.PacketName.{PacketName}
use Rattle.jx_progression.specs.declared.keys.Order.{Order}
use Rattle.jx_progression.specs.declared.keys.Order.TheVariants.{Lrcp, Rlcp, Rpcl, Pcrl, Cprl}

-- Table A.16: the order of a number from 0 to 4
abbrev pub order_of : ℕ → Order
order_of n = (if n == 0 then Lrcp else (if n == 1 then Rlcp else (if n == 2 then Rpcl else (if n == 3 then Pcrl else Cprl))))

-- B.12.1.3: where a packet's precinct stands on the reference grid
abbrev pub across_of : Geometry → PacketName → ℕ
across_of g p = reference_across g p.comp p.res p.precinct

abbrev pub down_of : Geometry → PacketName → ℕ
down_of g p = reference_down g p.comp p.res p.precinct

-- B.12.1.1 to B.12.1.5: the numbers that change in an order, the slowest first
abbrev pub key_of : Geometry → Order → PacketName → List ℕ
key_of g Lrcp p = p.layer ∷ p.res ∷ p.comp ∷ p.precinct ∷ []
key_of g Rlcp p = p.res ∷ p.layer ∷ p.comp ∷ p.precinct ∷ []
key_of g Rpcl p = p.res ∷ down_of g p ∷ across_of g p ∷ p.comp ∷ p.layer ∷ []
key_of g Pcrl p = down_of g p ∷ across_of g p ∷ p.comp ∷ p.res ∷ p.layer ∷ []
key_of g Cprl p = p.comp ∷ down_of g p ∷ across_of g p ∷ p.res ∷ p.layer ∷ []

-- the first number in which two keys differ is less
abbrev pub IsLess : List ℕ → List ℕ → Type 0
IsLess [] ys = ⊥
IsLess (x ∷ xs) [] = ⊥
IsLess (x ∷ xs) (y ∷ ys) = (x < y) ⊎ ((x ≡ y) × IsLess xs ys)

abbrev pub ComesBefore : Geometry → Order → PacketName → PacketName → Type 0
ComesBefore g o p q = IsLess (key_of g o p) (key_of g o q)
