-- Where a packet's precinct stands on the reference grid, or 0 where it isn't there.
use Rattle.std.proofs.Common.{◌≡◌, ℕ, ◌<◌, ◌≤◌, inl, inr, arith}
use Rattle.std.proofs.lemmas.Bool.{cases_lt}
use Rattle.std.proofs.lemmas.Bool.Decides.{nat_tests}
use Rattle.jx_base.specs.Places.{size_of}
use Rattle.jx_geom.specs.Geometry.{Geometry, precincts_in, reference_across, reference_down}
use Rattle.jx_geom.specs.Precincts.{HasPrecinct}
use Rattle.jx_progression.specs.declared.names.PacketName.{PacketName}
use Rattle.jx_progression.specs.Steps.{across_or, count_of, down_or}
use Rattle.jx_progression.proofs.GroupLemmas.{count_is, count_there}

below_count : (g : Geometry) (c r k : ℕ) → HasPrecinct g c r k → k < count_of g c r
below_count g c r k h =
    let lt : k < size_of (precincts_in g c r) = h.precinct in
    omega (arith, count_is g c r h.resolution)

past_count : (g : Geometry) (c r k : ℕ) → (HasPrecinct g c r k → ⊥) → count_of g c r ≤ k
past_count g c r k none = elim (cases_lt k (count_of g c r)) [
  | inl lt ↦ let there = count_there g c r k lt in absurd (none (record { resolution = there.0; precinct = there.1 }))
  | inr le ↦ le
]

pub across_there : (g : Geometry) (p : PacketName) (x : ℕ) → HasPrecinct g p.comp p.res p.precinct → x ≡ reference_across g p.comp p.res p.precinct → x ≡ across_or g p
unfolding across_or
across_there g p x h is = let lt : p.precinct < count_of g p.comp p.res = below_count g p.comp p.res p.precinct h in grind (arith, nat_tests)

pub down_there : (g : Geometry) (p : PacketName) (y : ℕ) → HasPrecinct g p.comp p.res p.precinct → y ≡ reference_down g p.comp p.res p.precinct → y ≡ down_or g p
unfolding down_or
down_there g p y h is = let lt : p.precinct < count_of g p.comp p.res = below_count g p.comp p.res p.precinct h in grind (arith, nat_tests)

pub across_none : (g : Geometry) (p : PacketName) → (HasPrecinct g p.comp p.res p.precinct → ⊥) → 0 ≡ across_or g p
unfolding across_or
across_none g p none = let le : count_of g p.comp p.res ≤ p.precinct = past_count g p.comp p.res p.precinct none in grind (arith, nat_tests)

pub down_none : (g : Geometry) (p : PacketName) → (HasPrecinct g p.comp p.res p.precinct → ⊥) → 0 ≡ down_or g p
unfolding down_or
down_none g p none = let le : count_of g p.comp p.res ≤ p.precinct = past_count g p.comp p.res p.precinct none in grind (arith, nat_tests)
