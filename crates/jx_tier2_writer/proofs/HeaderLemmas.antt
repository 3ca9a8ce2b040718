-- Segments of a header with PLT segments after them.
use Rattle.std.proofs.Common.{◌≡◌, ◌<◌, ◌≤◌, ◌+◌, ◌==◌, ◌&&◌, ℕ, suc, Bool, true, false, arith, List, [], ◌∷◌, ◌++◌, length, refl, sym, ap, subst, inl, inr, append-nil, append_assoc}
use Rattle.std.specs.List.{AllByRecursion}
use Rattle.std.proofs.lemmas.Bool.{cases_Bool}
use Rattle.std.proofs.lemmas.Bool.Decides.{nat_tests}
use Rattle.std.proofs.lemmas.List.Elements.{All-cons}
use Rattle.jx_marker.specs.declared.Segment.{Segment}
use Rattle.jx_marker.specs.declared.Segment.TheVariants as segment
use Rattle.jx_marker.specs.Ranges.{AreBytes, InRange}
use Rattle.jx_codestream.specs.declared.headers.HeaderKind.{HeaderKind}
use Rattle.jx_codestream.specs.Headers.{is_beside_ppm, is_packed_twice, slot_of, stands_in}
use Rattle.jx_codestream.specs.Tiles.{in_slot, entries_joined}
use Rattle.jx_codestream.specs.Spells.{AreSegments}
use Rattle.jx_tier2_writer.specs.Lengths.{numbered}

-- ---- segments after others
pub segments_on : (kind : HeaderKind) (comps : ℕ) (before xs ys : List Segment) → AreSegments kind comps before xs → AreSegments kind comps (before ++ xs) ys
    → AreSegments kind comps before (xs ++ ys)
segments_on kind comps before [] ys a b = subst (λ (z : List Segment). AreSegments kind comps z ys) (append-nil before) b
segments_on kind comps before (x ∷ xs) ys a b =
    (a.0, segments_on kind comps (before ++ x ∷ []) xs ys a.1 (subst (λ (z : List Segment). AreSegments kind comps z ys) (sym (append_assoc before (x ∷ []) xs)) b))

-- bytes that a PLT segment holds after its number
pub record IsHeld (bytes : List ℕ) : Type 0 where
  pub short : length bytes ≤ 65532
  pub each : AreBytes bytes

-- PLT stands in the headers of tile-parts, beside PPM too
not_ppt : (kind : HeaderKind) (bytes : List ℕ) → is_packed_twice kind (segment.Plt bytes) ≡ false
not_ppt kind bytes = neither (is_beside_ppm kind)
  where
    neither : (beside : Bool) → (beside && false) ≡ false
    neither true = refl
    neither false = refl

pub lengths_stand : (kind : HeaderKind) (comps number : ℕ) (before : List Segment) (held : List (List ℕ)) → ((bytes : List ℕ) → stands_in kind (segment.Plt bytes) ≡ true)
    → number + length held ≤ 256 → AllByRecursion IsHeld held → AreSegments kind comps before (numbered number held)
lengths_stand kind comps number before [] stands few fit = tt
lengths_stand kind comps number before (bytes ∷ held) stands few fit = (
  record {
    range = record { some = omega arith; count = omega (arith, fit.0.short); each = All-cons (λ (byte : ℕ). byte < 256) number bytes (omega arith) fit.0.each };
    stands = stands (number ∷ bytes);
    once_packed = not_ppt kind (number ∷ bytes);
    inside = refl;
    once = refl;
  },
  lengths_stand kind comps (number + 1) (before ++ segment.Plt (number ∷ bytes) ∷ []) held stands (omega arith) fit.1,
)

-- ---- what is found in a header isn't PLT
pub same_slots : (slot number : ℕ) (own : List Segment) (held : List (List ℕ)) → 0 < slot → in_slot slot (own ++ numbered number held) ≡ in_slot slot own
same_slots slot number [] [] some = refl
same_slots slot number [] (bytes ∷ held) some = let e : (0 == slot) ≡ false = not_this slot some in rw e (same_slots slot (number + 1) [] held some)
  where
    not_this : (n : ℕ) → 0 < n → (0 == n) ≡ false
    not_this n h = grind (arith, nat_tests)
same_slots slot number (s ∷ own) held some = elim (cases_Bool (slot_of s == slot)) [
  | inl t ↦ rw t refl
  | inr f ↦ rw f (same_slots slot number own held some)
]

-- ---- progression entries
pub lengths_none : (number : ℕ) (held : List (List ℕ)) → entries_joined (numbered number held) ≡ []
lengths_none number [] = refl
lengths_none number (bytes ∷ held) = lengths_none (number + 1) held

-- ---- ranges
pub lengths_range : (comps number : ℕ) (held : List (List ℕ)) → number + length held ≤ 256 → AllByRecursion IsHeld held → AllByRecursion (InRange comps) (numbered number held)
lengths_range comps number [] few fit = tt
lengths_range comps number (bytes ∷ held) few fit =
    (record { some = omega arith; count = omega (arith, fit.0.short); each = All-cons (λ (byte : ℕ). byte < 256) number bytes (omega arith) fit.0.each }, lengths_range comps (number + 1) held (omega arith) fit.1)

pub numbered_long : (number : ℕ) (held : List (List ℕ)) → length (numbered number held) ≡ length held
numbered_long number [] = refl
numbered_long number (bytes ∷ held) = ap suc (numbered_long (number + 1) held)
