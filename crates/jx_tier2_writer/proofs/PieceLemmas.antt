-- The pieces of a tile: how many a tile-part has, each of them, and what they are together.
use Rattle.std.proofs.Common.{◌≡◌, ◌∙◌, ◌<◌, ◌≤◌, ◌+◌, ◌-◌, ℕ, zero, suc, arith, List, [], ◌∷◌, ◌++◌, length, map, take, drop, refl, sym, ap, subst}
use Rattle.std.specs.List.{All, concat}
use Rattle.std.specs.Prelude.{slice_index_or}
use Rattle.std.proofs.lemmas.List.{get_or-drop, get_or-map, get_or-take, length-map, map-append}
use Rattle.jx_base.specs.declared.pieces.Block.{Block}
use Rattle.jx_geom.specs.Geometry.{Geometry}
use Rattle.jx_progression.specs.declared.names.PacketName.{PacketName}
use Rattle.jx_codestream.specs.declared.Stream.{Stream}
use Rattle.jx_codestream.specs.Params.{header_of}
use Rattle.jx_codestream.specs.Spells.{TilePart, part_bytes}
use Rattle.jx_tier2_reader.specs.Written.{Packets, bytes_from, packet_bytes}
use Rattle.jx_options.specs.declared.Marks.{Marks}
use Rattle.jx_tile_parts.proofs.GroupLemmas.{part_length}
use Rattle.jx_tier2_writer.specs.Packed.{own_length, own_packets, own_part, own_parts}
use Rattle.jx_tier2_writer.specs.Pieces.{IsPartOut, packet_pieces, part_pieces, pieces_with, tile_pieces}
use Rattle.jx_tier2_writer.specs.TileParts.{written_part_header}
use Rattle.jx_tier2_writer.specs.declared.assemble.Layout.{Layout}
use Rattle.jx_tier2_writer.specs.declared.tile_part.PartOut.{PartOut}
use Rattle.jx_tier2_writer.proofs.CutLemmas.{empty_parts}
use Rattle.jx_tier2_writer.proofs.MadeLemmas.{part_long}

-- ---- packets
packets_joined : (ps : Packets) (number : ℕ) (names : List PacketName) → concat (packet_pieces ps number names) ≡ bytes_from ps number names
packets_joined ps number [] = refl
packets_joined ps number (p ∷ names) = ap (λ (xs : List ℕ). packet_bytes number (ps.written p) ++ xs) (packets_joined ps (number + 1) names)

packets_count : (ps : Packets) (number : ℕ) (names : List PacketName) → length (packet_pieces ps number names) ≡ length names
packets_count ps number [] = refl
packets_count ps number (p ∷ names) = ap suc (packets_count ps (number + 1) names)

packet_at : (ps : Packets) (number : ℕ) (names : List PacketName) (i : ℕ) (d : PacketName) → i < length names
    → slice_index_or (packet_pieces ps number names) i [] ≡ packet_bytes (number + i) (ps.written (slice_index_or names i d))
packet_at ps number [] i d lt = absurd (omega arith)
packet_at ps number (p ∷ names) zero d lt = let e : number ≡ number + 0 = omega arith in ap (λ (n : ℕ). packet_bytes n (ps.written p)) e
packet_at ps number (p ∷ names) (suc i) d lt =
    let e : number + 1 + i ≡ number + suc i = omega arith in
    packet_at ps (number + 1) names i d (omega arith) ∙ ap (λ (n : ℕ). packet_bytes n (ps.written (slice_index_or names i d))) e

-- ---- a tile-part
module _ (ps : Packets) (names : List PacketName) (p : PartOut) (is : IsPartOut ps names p) where
  abbrev own : List PacketName
  own = take (p.end - p.from) (drop p.from names)

  own_long : length own ≡ p.end - p.from
  own_long = let whole : p.from + length own ≡ p.end = part_length names p.from p.end is.order is.within in omega arith

  pub pieces_count : length (part_pieces ps names p) ≡ 1 + (p.end - p.from)
  pieces_count = let rest : length (packet_pieces ps p.from own) ≡ length own = packets_count ps p.from own in omega (arith, rest, own_long)

  pub packet_below : (piece number : ℕ) → piece < length (part_pieces ps names p) → 1 ≤ piece → number ≡ p.from + (piece - 1) → number < length names
  packet_below piece number lt some at = let low : p.from ≤ p.end = is.order in let high : p.end ≤ length names = is.within in omega (arith, pieces_count)

  pub piece_at : (piece number : ℕ) (d : PacketName) → piece < length (part_pieces ps names p) → 1 ≤ piece → number ≡ p.from + (piece - 1)
      → slice_index_or (part_pieces ps names p) piece [] ≡ packet_bytes number (ps.written (slice_index_or names number d))
  piece_at zero number d lt some at = absurd (omega arith)
  piece_at (suc i) number d lt some at =
      let below : i < p.end - p.from = omega (arith, pieces_count) in
      let there : i < length own = omega (arith, own_long) in
      let number_is : p.from + i ≡ number = omega arith in
      packet_at ps p.from own i d there
      ∙ ap (λ (x : PacketName). packet_bytes (p.from + i) (ps.written x)) (get_or-take (p.end - p.from) (drop p.from names) i d below ∙ get_or-drop p.from names i d)
      ∙ ap (λ (n : ℕ). packet_bytes n (ps.written (slice_index_or names n d))) number_is

-- ---- one that was put together
module _ (m : Marks) (s : Stream) (g : Geometry) (own : List Block) (names : List PacketName) (part count from end : ℕ) (p : PartOut) where
  abbrev packets : Packets
  packets = own_packets m s g own

  abbrev here : List PacketName
  here = take (end - from) (drop from names)

  abbrev made : TilePart
  made = own_part m s g own part count from here

  pub pieces_joined : p.from ≡ from → p.end ≡ end → p.front.items ++ bytes_from packets from here ≡ part_bytes (length s.siz.comps) made
      → concat (part_pieces packets names p) ≡ part_bytes (length s.siz.comps) made
  pieces_joined first last bytes =
      let P : ℕ → ℕ → List ℕ = λ a b. concat (packet_pieces packets a (take (b - a) (drop a names))) in
      ap (λ (xs : List ℕ). p.front.items ++ xs) (ap (λ (a : ℕ). P a p.end) first ∙ ap (λ (b : ℕ). P from b) last ∙ packets_joined packets from here) ∙ bytes

  pub part_out : from ≤ end → end ≤ length names → p.from ≡ from → p.end ≡ end → p.front.items ++ bytes_from packets from here ≡ part_bytes (length s.siz.comps) made
      → p.size ≡ made.sot.psot → IsPartOut packets names p
  part_out low high first last bytes size = record {
    order = omega arith;
    within = omega arith;
    size = size
        ∙ part_long (length s.siz.comps) g.tile part count (written_part_header m (header_of s g.tile) part (map (own_length m s g own) here)) (bytes_from packets from here)
        ∙ ap (λ (xs : List ℕ). length xs) (sym (pieces_joined first last bytes));
  }

-- ---- a tile
pub pieces_push : (ps : Packets) (names : List PacketName) (parts more : List PartOut) (p : PartOut) → more ≡ parts ++ p ∷ []
    → map concat (pieces_with ps names more) ≡ map concat (pieces_with ps names parts) ++ concat (part_pieces ps names p) ∷ []
pieces_push ps names parts more p e =
    ap (λ (xs : List PartOut). map concat (pieces_with ps names xs)) e
    ∙ ap (map concat) (map-append (part_pieces ps names) parts (p ∷ []))
    ∙ map-append concat (pieces_with ps names parts) (part_pieces ps names p ∷ [])

-- without packets it has one tile-part
module _ (m : Marks) (s : Stream) (g : Geometry) (own : List Block) (names : List PacketName) (none : names ≡ []) (p : PartOut) (first : p.from ≡ 0) (last : p.end ≡ 0 + length names)
    (bytes : p.front.items ++ bytes_from (own_packets m s g own) 0 names ≡ part_bytes (length s.siz.comps) (own_part m s g own 0 1 0 names)) where
  abbrev all_packets : Packets
  all_packets = own_packets m s g own

  abbrev bytes_of : TilePart → List ℕ
  bytes_of = part_bytes (length s.siz.comps)

  pub empty_out : p.size ≡ (own_part m s g own 0 1 0 names).sot.psot → IsPartOut all_packets names p
  empty_out size =
      let P : List PacketName → Type 0 = λ ns. p.end ≡ 0 + length ns → p.front.items ++ bytes_from all_packets 0 ns ≡ bytes_of (own_part m s g own 0 1 0 ns)
      → p.size ≡ (own_part m s g own 0 1 0 ns).sot.psot → IsPartOut all_packets ns p in
      subst P (sym none) (λ end put long. part_out m s g own [] 0 1 0 0 p (omega arith) (omega arith) first end put long) last bytes size

  pub empty_pieces : (parts : List PartOut) → parts ≡ p ∷ [] → map concat (pieces_with all_packets names parts) ≡ map bytes_of (own_parts m s g own names)
  empty_pieces parts e =
      let P : List PacketName → Type 0 = λ ns. p.end ≡ 0 + length ns → p.front.items ++ bytes_from all_packets 0 ns ≡ bytes_of (own_part m s g own 0 1 0 ns)
      → concat (part_pieces all_packets ns p) ≡ bytes_of (own_part m s g own 0 1 0 ns) in
      let one : concat (part_pieces all_packets names p) ≡ bytes_of (own_part m s g own 0 1 0 names) =
      subst P (sym none) (λ end put. pieces_joined m s g own [] 0 1 0 0 p first end put) last bytes in
      ap (λ (xs : List PartOut). map concat (pieces_with all_packets names xs)) e ∙ ap (λ (b : List ℕ). b ∷ []) one
      ∙ ap (map bytes_of) (sym (empty_parts m s g own names none))

module _ (ps : Packets) (layout : Layout) (value : List (List (List ℕ))) (is : tile_pieces ps layout ≡ value) where
  pub parts_count : length layout.parts.items ≡ length value
  parts_count = sym (length-map layout.parts.items (part_pieces ps layout.names.items)) ∙ ap (λ (xs : List (List (List ℕ))). length xs) is

  pub part_at : (part : ℕ) (p : PartOut) → part < length value → p ≡ slice_index_or layout.parts.items part p → slice_index_or value part [] ≡ part_pieces ps layout.names.items p
  part_at part p lt at =
      let below : part < length layout.parts.items = omega (arith, parts_count) in
      ap (λ (xs : List (List (List ℕ))). slice_index_or xs part []) (sym is)
      ∙ get_or-map (part_pieces ps layout.names.items) layout.parts.items part p [] below
      ∙ ap (part_pieces ps layout.names.items) (sym at)

pub part_is_out : (ps : Packets) (names : List PacketName) (parts : List PartOut) (part : ℕ) (p : PartOut) → All (IsPartOut ps names) parts → part < length parts → p ≡ slice_index_or parts part p → IsPartOut ps names p
part_is_out ps names parts part p all lt at = subst (IsPartOut ps names) (sym at) (all part p lt)
