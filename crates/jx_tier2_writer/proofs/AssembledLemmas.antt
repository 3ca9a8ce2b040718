-- The packets made from the blocks of a tile are those of the whole codestream's blocks.
use Rattle.std.proofs.Common.{◌≡◌, ℕ, zero, suc, ◌+◌, ◌<◌, List, [], ◌∷◌, ◌++◌, length, map, refl, sym, ap, ◌∙◌, subst, arith, All, Option}
use Rattle.std.specs.Prelude.{slice_get}
use Rattle.std.specs.List.{AllByRecursion, range_with_len}
use Rattle.std.proofs.lemmas.List.Elements.{recursion_from_All}
use Rattle.jx_base.specs.declared.pieces.Block.{Block}
use Rattle.jx_base.specs.Joined.{joined}
use Rattle.jx_base.proofs.Joined.{joined_same}
use Rattle.jx_geom.specs.Counts.{tile_blocks}
use Rattle.jx_geom.specs.Geometry.{Geometry, GeometryInRange, rect_of_tile}
use Rattle.jx_geom.specs.Precincts.{HasPrecinct, leaves, leaf_number}
use Rattle.jx_geom.proofs.LeafLemmas.{leaf_below}
use Rattle.jx_packet_header.specs.LeavesFit.{header_at}
use Rattle.jx_packet_header.specs.Written.{Leafed}
use Rattle.jx_progression.specs.Packets.{IsPacketName}
use Rattle.jx_progression.specs.Steps.{name_of}
use Rattle.jx_progression.specs.declared.names.PacketName.{PacketName}
use Rattle.jx_codestream.specs.declared.Stream.{Stream}
use Rattle.jx_codestream.specs.Params.{header_of}
use Rattle.jx_codestream.specs.Shapes.{geometry, layers_of, shapes_of, style_of}
use Rattle.jx_codestream.specs.Spells.{TilePart, part_bytes}
use Rattle.jx_tier2_reader.specs.Carries.{block_in, carried_bytes, pieces_of}
use Rattle.jx_tile.specs.Cells.{precinct_bands}
use Rattle.jx_tile.specs.Covered.{IsListOf}
use Rattle.jx_tier2_reader.specs.Planned.{leaf_from, leaf_in, leaves_of_blocks}
use Rattle.jx_tier2_reader.specs.Written.{bytes_from, packet_bytes}
use Rattle.jx_tier2_writer.specs.Assembled.{AreOwn, AreTileBytes, HasMoreBytes}
use Rattle.jx_tier2_writer.specs.Own.{leaf_bytes, own_leaf, own_leaves}
use Rattle.jx_tier2_writer.specs.Packed.{own_body, own_length, own_packet, own_packets, own_part, own_parts, packet_with, packed_parts_from}
use Rattle.jx_tier2_writer.specs.BlockParts.{layer_bytes}
use Rattle.jx_tier2_writer.specs.TileParts.{AreTilePartsOf, packet_length, packet_of, packets_of, written_part_header, parts_with, tile_part, tile_parts}
use Rattle.jx_tier2_writer.specs.Tile.{AreAtMost}
use Rattle.jx_options.specs.declared.Marks.{Marks}
use Rattle.jx_tile_parts.specs.Groups.{groups_of}
use Rattle.jx_tile_parts.proofs.GroupLemmas.{groups_all}

-- ---- a leaf
same_block : (s : Stream) (t : ℕ) (blocks own : List Block) (p : PacketName) (j : ℕ) → GeometryInRange (geometry s t) → AreOwn s t blocks own → HasPrecinct (geometry s t) p.comp p.res p.precinct
    → j < leaves (geometry s t) p.comp p.res p.precinct → block_in s t blocks p j ≡ slice_get own (leaf_number (geometry s t) p.comp p.res p.precinct j)
same_block s t blocks own p j range are has lt =
    let below : leaf_number (geometry s t) p.comp p.res p.precinct j < tile_blocks (rect_of_tile (geometry s t)) (shapes_of s t) = leaf_below (geometry s t) p.comp p.res p.precinct j range has lt in
    are.each (leaf_number (geometry s t) p.comp p.res p.precinct j) (subst (λ (n : ℕ). leaf_number (geometry s t) p.comp p.res p.precinct j < n) (sym are.all) below)

map_same : {X : Type 0} (f h : ℕ → X) (a n : ℕ) → ((i : ℕ) → i < n → f (a + i) ≡ h (a + i)) → map f (range_with_len a n) ≡ map h (range_with_len a n)
map_same f h a zero each = refl
map_same {X} f h a (suc n) each =
    let here : a + 0 ≡ a = omega arith in
    let first : f a ≡ h a = ap f (sym here) ∙ each 0 (omega arith) ∙ ap h here in
    let rest : map f (range_with_len (a + 1) n) ≡ map h (range_with_len (a + 1) n) =
    map_same f h (a + 1) n (λ i lt. (let e : a + suc i ≡ a + 1 + i = omega arith in ap f (sym e) ∙ each (suc i) (omega arith) ∙ ap h e)) in
    ap (λ (x : X). x ∷ map f (range_with_len (a + 1) n)) first ∙ ap (λ (xs : List X). h a ∷ xs) rest

same_leaves : (s : Stream) (t : ℕ) (blocks own : List Block) (c r k : ℕ) → GeometryInRange (geometry s t) → AreOwn s t blocks own → HasPrecinct (geometry s t) c r k
    → leaves_of_blocks s t blocks c r k ≡ own_leaves (geometry s t) own c r k
unfolding leaves_of_blocks own_leaves
same_leaves s t blocks own c r k range are has =
    map_same (leaf_in s t blocks c r k) (own_leaf (geometry s t) own c r k) 0 (leaves (geometry s t) c r k)
    (λ i lt. (let e : i ≡ 0 + i = omega arith in
    let P : ℕ → Type 0 = λ j. j < leaves (geometry s t) c r k in
    ap (leaf_from (0 + i)) (same_block s t blocks own (name_of 0 r c k) (0 + i) range are has (subst P e lt))))

same_body : (s : Stream) (t : ℕ) (blocks own : List Block) (p : PacketName) → GeometryInRange (geometry s t) → AreOwn s t blocks own → HasPrecinct (geometry s t) p.comp p.res p.precinct
    → joined (carried_bytes s t blocks p) 0 (leaves (geometry s t) p.comp p.res p.precinct) ≡ own_body (geometry s t) own p
unfolding layer_bytes
same_body s t blocks own p range are has =
    joined_same (carried_bytes s t blocks p) (leaf_bytes (geometry s t) own p.comp p.res p.precinct p.layer) (leaves (geometry s t) p.comp p.res p.precinct)
    (λ j lt. ap (λ (o : Option Block). layer_bytes p.layer (pieces_of o)) (same_block s t blocks own p j range are has lt))

-- ---- a packet
same_packet : (m : Marks) (s : Stream) (t : ℕ) (blocks own : List Block) (p : PacketName) (n : ℕ) → GeometryInRange (geometry s t) → AreOwn s t blocks own → IsPacketName (geometry s t) (layers_of s t) p
    → packet_bytes n (packet_of m s t blocks p) ≡ packet_bytes n (own_packet m s (geometry s t) own p)
same_packet m s t blocks own p n range are is =
    let has : HasPrecinct (geometry s t) p.comp p.res p.precinct = record { resolution = is.resolution; precinct = is.precinct } in
    let header : List Leafed → List ℕ = λ lvs. header_at (layers_of s t) (style_of s t p.comp) (precinct_bands s (geometry s t) p.comp p.res p.precinct) lvs p.layer in
    ap (λ (lvs : List Leafed). packet_with m n (header lvs) (joined (carried_bytes s t blocks p) 0 (leaves (geometry s t) p.comp p.res p.precinct))) (same_leaves s t blocks own p.comp p.res p.precinct range are has)
    ∙ ap (λ (b : List ℕ). packet_with m n (header (own_leaves (geometry s t) own p.comp p.res p.precinct)) b) (same_body s t blocks own p range are has)

same_bytes : (m : Marks) (s : Stream) (t : ℕ) (blocks own : List Block) (n : ℕ) (names : List PacketName) → GeometryInRange (geometry s t) → AreOwn s t blocks own
    → AllByRecursion (IsPacketName (geometry s t) (layers_of s t)) names → bytes_from (packets_of m s t blocks) n names ≡ bytes_from (own_packets m s (geometry s t) own) n names
unfolding packets_of
same_bytes m s t blocks own n [] range are each = refl
same_bytes m s t blocks own n (p ∷ names) range are each =
    ap (λ (b : List ℕ). b ++ bytes_from (packets_of m s t blocks) (n + 1) names) (same_packet m s t blocks own p n range are each.0)
    ∙ ap (λ (b : List ℕ). packet_bytes n (own_packet m s (geometry s t) own p) ++ b) (same_bytes m s t blocks own (n + 1) names range are each.1)

same_lengths : (m : Marks) (s : Stream) (t : ℕ) (blocks own : List Block) (names : List PacketName) → GeometryInRange (geometry s t) → AreOwn s t blocks own
    → AllByRecursion (IsPacketName (geometry s t) (layers_of s t)) names → map (packet_length (packets_of m s t blocks)) names ≡ map (own_length m s (geometry s t) own) names
unfolding packets_of
same_lengths m s t blocks own [] range are each = refl
same_lengths m s t blocks own (p ∷ names) range are each =
    ap (λ (b : List ℕ). length b ∷ map (packet_length (packets_of m s t blocks)) names) (same_packet m s t blocks own p 0 range are each.0)
    ∙ ap (λ (ns : List ℕ). own_length m s (geometry s t) own p ∷ ns) (same_lengths m s t blocks own names range are each.1)

-- ---- the tile-parts
same_parts : (m : Marks) (s : Stream) (t : ℕ) (blocks own : List Block) (part parts number : ℕ) (groups : List (List PacketName)) → GeometryInRange (geometry s t) → AreOwn s t blocks own
    → AllByRecursion (λ (names : List PacketName). All (IsPacketName (geometry s t) (layers_of s t)) names) groups
    → parts_with m (length s.siz.comps) t (header_of s t) (packets_of m s t blocks) part parts number groups ≡ packed_parts_from m s (geometry s t) own part parts number groups
same_parts m s t blocks own part parts number [] range are each = refl
same_parts m s t blocks own part parts number (names ∷ groups) range are each =
    let rec : AllByRecursion (IsPacketName (geometry s t) (layers_of s t)) names = recursion_from_All (IsPacketName (geometry s t) (layers_of s t)) names each.0 in
    let own_lengths : List ℕ = map (own_length m s (geometry s t) own) names in
    let later : List TilePart = parts_with m (length s.siz.comps) t (header_of s t) (packets_of m s t blocks) (part + 1) parts (number + length names) groups in
    ap (λ (ls : List ℕ). tile_part (length s.siz.comps) t part parts (written_part_header m (header_of s t) part ls) (bytes_from (packets_of m s t blocks) number names) ∷ later)
    (same_lengths m s t blocks own names range are rec)
    ∙ ap (λ (b : List ℕ). tile_part (length s.siz.comps) t part parts (written_part_header m (header_of s t) part own_lengths) b ∷ later) (same_bytes m s t blocks own number names range are rec)
    ∙ ap (λ (ps : List TilePart). own_part m s (geometry s t) own part parts number names ∷ ps) (same_parts m s t blocks own (part + 1) parts (number + length names) groups range are each.1)

same_tile : (m : Marks) (s : Stream) (t : ℕ) (blocks own : List Block) (names : List PacketName) → GeometryInRange (geometry s t) → AreOwn s t blocks own
    → All (IsPacketName (geometry s t) (layers_of s t)) names → tile_parts m s blocks t (groups_of m.parts names) ≡ own_parts m s (geometry s t) own names
same_tile m s t blocks own names range are each =
    same_parts m s t blocks own 0 (length (groups_of m.parts names)) 0 (groups_of m.parts names) range are (groups_all (IsPacketName (geometry s t) (layers_of s t)) m.parts names each)

tile_parts_are : (m : Marks) (s : Stream) (g : Geometry) (blocks own : List Block) (names : List PacketName) → g ≡ geometry s g.tile → GeometryInRange g → AreOwn s g.tile blocks own
    → All (IsPacketName g (layers_of s g.tile)) names → IsListOf s g.tile names → AreTilePartsOf m s blocks g.tile (own_parts m s g own names)
tile_parts_are m s g blocks own names e range are each listed =
    let P : Geometry → Type 0 = λ x. GeometryInRange x in
    let Q : Geometry → Type 0 = λ x. All (IsPacketName x (layers_of s g.tile)) names in
    record {
      names = names;
      order = listed;
      are = ap (λ (x : Geometry). own_parts m s x own names) e ∙ sym (same_tile m s g.tile blocks own names (subst P e range) are (subst Q e each));
    }

pub tile_bytes : (m : Marks) (s : Stream) (g : Geometry) (blocks own : List Block) (names : List PacketName) (most : ℕ) (bytes : List (List ℕ)) → g ≡ geometry s g.tile → GeometryInRange g
    → AreOwn s g.tile blocks own → All (IsPacketName g (layers_of s g.tile)) names → IsListOf s g.tile names → bytes ≡ map (part_bytes (length s.siz.comps)) (own_parts m s g own names)
    → AreAtMost most (own_parts m s g own names) → (is : AreTileBytes m s blocks g.tile bytes) × AreAtMost most is.parts
tile_bytes m s g blocks own names most bytes e range are each listed is few =
    (record { parts = own_parts m s g own names; are = tile_parts_are m s g blocks own names e range are each listed; bytes_are = is }, few)

pub too_long : (m : Marks) (s : Stream) (g : Geometry) (blocks own : List Block) (names : List PacketName) (most : ℕ) → g ≡ geometry s g.tile → GeometryInRange g → AreOwn s g.tile blocks own
    → All (IsPacketName g (layers_of s g.tile)) names → IsListOf s g.tile names → (AreAtMost most (own_parts m s g own names) → ⊥) → HasMoreBytes m s blocks g.tile most
too_long m s g blocks own names most e range are each listed long =
    record { parts = own_parts m s g own names; are = tile_parts_are m s g blocks own names e range are each listed; long = long }
