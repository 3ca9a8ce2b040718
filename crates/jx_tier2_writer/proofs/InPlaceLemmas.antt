-- Headers without PPM and PPT: what is left out is among them, and packet headers stand in their places (T.800, A.7.4
-- and A.7.5).
use Rattle.std.proofs.Common.{◌≡◌, ◌+◌, ℕ, true, false, List, [], ◌∷◌, length, refl}
use Rattle.std.specs.List.{list_any}
use Rattle.std.proofs.lemmas.Bool.{or_parts, true≢false}
use Rattle.jx_marker.specs.declared.Segment.{Segment}
use Rattle.jx_marker.specs.declared.Segment.TheVariants as segment
use Rattle.jx_marker.specs.Segments.{spelling}
use Rattle.jx_codestream.specs.Headers.{has_packed, is_packed}
use Rattle.jx_codestream.specs.PackedHeaders.{packed_at, packed_from}
use Rattle.jx_plan.specs.Asides.{is_left_out}
use Rattle.jx_tier2_writer.specs.Lengths.{numbered}

none_at : (at : ℕ) (s : Segment) → is_packed s ≡ false → packed_at at s ≡ []
none_at at (segment.Ppm index bytes) h = absurd (true≢false h)
none_at at (segment.Ppt index bytes) h = absurd (true≢false h)
none_at at _ h = refl

pub none_packed : (comps at : ℕ) (ss : List Segment) → has_packed ss ≡ false → packed_from comps at ss ≡ []
none_packed comps at [] h = refl
none_packed comps at (s ∷ ss) h =
    let both = or_parts (is_packed s) (has_packed ss) h in
    rw (none_at at s both.0, none_packed comps (at + length (spelling comps s)) ss both.1) refl

-- PPM and PPT are left out
kept_unpacked : (s : Segment) → is_left_out s ≡ false → is_packed s ≡ false
kept_unpacked (segment.Ppm index bytes) h = absurd (true≢false h)
kept_unpacked (segment.Ppt index bytes) h = absurd (true≢false h)
kept_unpacked _ h = refl

pub unpacked : (ss : List Segment) → list_any is_left_out ss ≡ false → has_packed ss ≡ false
unpacked [] h = refl
unpacked (s ∷ ss) h =
    let both = or_parts (is_left_out s) (list_any is_left_out ss) h in
    rw (kept_unpacked s both.0, unpacked ss both.1) refl

pub lengths_unpacked : (number : ℕ) (held : List (List ℕ)) → has_packed (numbered number held) ≡ false
lengths_unpacked number [] = refl
lengths_unpacked number (bytes ∷ held) = lengths_unpacked (number + 1) held
