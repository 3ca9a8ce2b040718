-- One tile-part, and its length.
use Rattle.std.proofs.Common.{◌≡◌, ℕ, ◌+◌, ◌<◌, ◌≤◌, List, [], ◌∷◌, ◌++◌, length, map, refl, sym, ap, ◌∙◌, arith, append_assoc, length-append}
use Rattle.std.proofs.lemmas.List.Sums.{sum_by-cons}
use Rattle.jx_base.specs.declared.pieces.Block.{Block}
use Rattle.jx_geom.specs.Geometry.{Geometry}
use Rattle.jx_marker.specs.declared.Segment.{Segment}
use Rattle.jx_marker.specs.declared.Segment.TheVariants as segment
use Rattle.jx_marker.specs.declared.Sot.{Sot}
use Rattle.jx_marker.specs.Segments.{spelling}
use Rattle.jx_progression.specs.declared.names.PacketName.{PacketName}
use Rattle.jx_codestream.specs.declared.Stream.{Stream}
use Rattle.jx_codestream.specs.Spells.{TilePart, all_bytes, part_bytes}
use Rattle.jx_tier2_reader.specs.Written.{bytes_from, packet_bytes}
use Rattle.jx_options.specs.declared.Marks.{Marks}
use Rattle.jx_tier2_writer.specs.Packed.{own_length, own_packet, own_packets, own_part, total}
use Rattle.jx_tier2_writer.specs.TileParts.{written_part_header}
use Rattle.jx_codestream.specs.Params.{header_of}
use Rattle.jx_tier2_writer.proofs.PacketLemmas.{packet_long}

-- its packets' lengths make up its data
pub packets_long : (m : Marks) (s : Stream) (g : Geometry) (own : List Block) (number : ℕ) (names : List PacketName)
    → length (bytes_from (own_packets m s g own) number names) ≡ total (map (own_length m s g own) names)
packets_long m s g own number [] = refl
packets_long m s g own number (p ∷ names) =
    let here : length (packet_bytes number (own_packet m s g own p)) ≡ own_length m s g own p = packet_long (own_packet m s g own p) number ∙ sym (packet_long (own_packet m s g own p) 0) in
    let rest : length (bytes_from (own_packets m s g own) (number + 1) names) ≡ total (map (own_length m s g own) names) = packets_long m s g own (number + 1) names in
    let both : length (packet_bytes number (own_packet m s g own p) ++ bytes_from (own_packets m s g own) (number + 1) names)
    ≡ length (packet_bytes number (own_packet m s g own p)) + length (bytes_from (own_packets m s g own) (number + 1) names) =
    length-append (packet_bytes number (own_packet m s g own p)) (bytes_from (own_packets m s g own) (number + 1) names) in
    let sum : total (map (own_length m s g own) (p ∷ names)) ≡ own_length m s g own p + total (map (own_length m s g own) names) =
    sum_by-cons (λ (n : ℕ). n) (own_length m s g own p) (map (own_length m s g own) names) in
    both ∙ ap (λ (n : ℕ). n + length (bytes_from (own_packets m s g own) (number + 1) names)) here ∙ ap (λ (n : ℕ). own_length m s g own p + n) rest ∙ sym sum

-- the bytes in one piece
pub part_is : (comps : ℕ) (sot : Sot) (header : List Segment) (body bytes : List ℕ)
    → bytes ≡ spelling comps (segment.Sot sot) ++ (all_bytes comps header ++ (spelling comps segment.Sod ++ body))
    → bytes ≡ part_bytes comps (record { sot = sot; header = header; body = body })
part_is comps sot header body bytes is =
    let first : List ℕ = spelling comps (segment.Sot sot) in
    let middle : List ℕ = all_bytes comps header in
    let sod : List ℕ = spelling comps segment.Sod in
    is ∙ ap (λ (xs : List ℕ). first ++ xs) (sym (append_assoc middle sod body)) ∙ sym (append_assoc first (middle ++ sod) body)

-- ---- what was put together is the tile-part
abbrev sot_of : ℕ → ℕ → ℕ → ℕ → Sot
sot_of tile size part parts = record { tile = tile; psot = size; part = part; parts = parts }

module _ (m : Marks) (s : Stream) (g : Geometry) (own : List Block) (part parts number : ℕ) (names : List PacketName) where
  abbrev comps : ℕ
  comps = length s.siz.comps

  abbrev made : TilePart
  made = own_part m s g own part parts number names

  abbrev lengths_in : List ℕ
  lengths_in = map (own_length m s g own) names

  pub part_header_is : (tile : ℕ) (lengths header : List ℕ) → tile ≡ g.tile → lengths ≡ lengths_in → header ≡ all_bytes comps (written_part_header m (header_of s tile) part lengths)
      → header ≡ all_bytes comps made.header
  part_header_is tile lengths header et el is =
      is ∙ ap (λ (t : ℕ). all_bytes comps (written_part_header m (header_of s t) part lengths)) et
      ∙ ap (λ (ls : List ℕ). all_bytes comps (written_part_header m (header_of s g.tile) part ls)) el

  -- from the bytes of its header
  pub part_size : (header : List ℕ) → header ≡ all_bytes comps made.header → 14 + length header + total lengths_in ≡ made.sot.psot
  part_size header is =
      ap (λ (xs : List ℕ). 14 + length xs + total lengths_in) is
      ∙ ap (λ (k : ℕ). 14 + length (all_bytes comps made.header) + k) (sym (packets_long m s g own number names))

  pub part_least : total lengths_in ≤ made.sot.psot
  part_least = omega (arith, packets_long m s g own number names)

  part_put : (size : ℕ) (header bytes : List ℕ) → header ≡ all_bytes comps made.header → size ≡ made.sot.psot
      → bytes ≡ spelling comps (segment.Sot (sot_of g.tile size part parts)) ++ (header ++ (spelling comps segment.Sod ++ bytes_from (own_packets m s g own) number names))
      → bytes ≡ part_bytes comps made
  part_put size header bytes is long put =
      let body : List ℕ = bytes_from (own_packets m s g own) number names in
      let sod : List ℕ = spelling comps segment.Sod in
      part_is comps made.sot made.header body bytes
      (put ∙ ap (λ (n : ℕ). spelling comps (segment.Sot (sot_of g.tile n part parts)) ++ (header ++ (sod ++ body))) long
      ∙ ap (λ (xs : List ℕ). spelling comps (segment.Sot made.sot) ++ (xs ++ (sod ++ body))) is)

  -- from what stands before its packets
  pub front_put : (tile size : ℕ) (header front : List ℕ) → tile ≡ g.tile → header ≡ all_bytes comps made.header → size ≡ made.sot.psot
      → front ≡ spelling comps (segment.Sot (sot_of tile size part parts)) ++ (header ++ spelling comps segment.Sod)
      → front ++ bytes_from (own_packets m s g own) number names ≡ part_bytes comps made
  front_put tile size header front et is long put =
      let body : List ℕ = bytes_from (own_packets m s g own) number names in
      let sod : List ℕ = spelling comps segment.Sod in
      let sot : List ℕ = spelling comps (segment.Sot (sot_of g.tile size part parts)) in
      part_put size header (front ++ body) is long
      (ap (λ (xs : List ℕ). xs ++ body) (put ∙ ap (λ (t : ℕ). spelling comps (segment.Sot (sot_of t size part parts)) ++ (header ++ sod)) et)
      ∙ append_assoc sot (header ++ sod) body ∙ ap (λ (xs : List ℕ). sot ++ xs) (append_assoc header sod body))

pub below_same : (most a b c : ℕ) → b < a → b ≡ most → a ≡ c → most < c
below_same most a b c lt eb ea = omega arith

pub at_most_same : (most a b c : ℕ) → a ≤ b → b ≡ most → a ≡ c → c ≤ most
at_most_same most a b c le eb ea = omega arith
