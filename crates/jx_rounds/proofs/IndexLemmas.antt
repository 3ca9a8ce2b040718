-- The tile-parts of a front, as headers and code-blocks give them: their bytes, their lengths, and how many there are.
use Rattle.std.proofs.Common.{◌≡◌, ◌∙◌, ◌<◌, ◌≤◌, ◌+◌, ℕ, zero, suc, true, List, [], ◌∷◌, ◌++◌, length, map, refl, ap, sym, arith, inr}
use Rattle.std.specs.List.{flat_map}
use Rattle.std.proofs.lemmas.Grind.{flat_map-append}
use Rattle.std.proofs.lemmas.List.{length-map, map-append}
use Rattle.jx_base.specs.Joined.{joined, sum_below}
use Rattle.jx_base.proofs.Joined.{joined_length, joined_next, joined_none}
use Rattle.jx_base.specs.declared.pieces.Block.{Block}
use Rattle.jx_marker.specs.declared.Segment.{Segment}
use Rattle.jx_progression.specs.declared.names.PacketName.{PacketName}
use Rattle.jx_codestream.specs.declared.Stream.{Stream}
use Rattle.jx_codestream.specs.First.{tile_number}
use Rattle.jx_codestream.specs.Params.{header_of}
use Rattle.jx_codestream.specs.Spells.{TilePart, all_bytes, part_bytes}
use Rattle.jx_options.specs.declared.Marks.{Marks}
use Rattle.jx_tile_parts.specs.Groups.{HasFewEntries, IsPartCount, groups_of}
use Rattle.jx_plan.specs.Plan.{Plan, headers_of}
use Rattle.jx_tier2_reader.specs.Written.{Packets, bytes_from}
use Rattle.jx_tier2_writer.specs.Index.{entry_of, index_segments}
use Rattle.jx_tier2_writer.specs.Tile.{main_bytes}
use Rattle.jx_tier2_writer.specs.TileParts.{AreTilePartsOf, packet_length, packets_of, parts_with, tile_part, written_part_header}
use Rattle.jx_tier2_writer.specs.declared.index.PartLength.{PartLength}
use Rattle.jx_tier2_writer.proofs.MadeLemmas.{made_long, part_long}
use Rattle.jx_rounds.specs.Heads.{AreMeasured, IsHead}
use Rattle.jx_rounds.specs.Rounds.{IsShortFront, blocks_of}
use Rattle.jx_rounds.specs.Sent.{PartSent, bytes_sent, length_sent, lengths_sent, sent_as, sent_of}
use Rattle.jx_rounds.proofs.FrontLemmas.{comps_stay, sent_by, tiles_stay}
use Rattle.jx_rounds.proofs.SentLemmas.{both_sent}

-- ---- bytes
tile_bytes : (comps t : ℕ) (parts : List TilePart) → bytes_sent (sent_of t (map (part_bytes comps) parts)) ≡ flat_map (part_bytes comps) parts
tile_bytes comps t [] = refl
tile_bytes comps t (p ∷ parts) = ap (λ (b : List ℕ). part_bytes comps p ++ b) (tile_bytes comps t parts)

tiles_bytes : (p : Plan) (parts : ℕ → List TilePart) (n : ℕ) → bytes_sent (joined (sent_by p parts) 0 n) ≡ flat_map (part_bytes (length p.stream.siz.comps)) (joined parts 0 n)
tiles_bytes p parts zero =
    ap bytes_sent (joined_none (sent_by p parts) 0 0 (omega arith)) ∙ sym (ap (λ (ps : List TilePart). flat_map (part_bytes (length p.stream.siz.comps)) ps) (joined_none parts 0 0 (omega arith)))
tiles_bytes p parts (suc n) =
    let f : TilePart → List ℕ = part_bytes (length p.stream.siz.comps) in
    let next : suc n ≡ n + 1 = omega arith in
    ap (λ (k : ℕ). bytes_sent (joined (sent_by p parts) 0 k)) next ∙ ap bytes_sent (joined_next (sent_by p parts) 0 n (omega arith)) ∙ both_sent (joined (sent_by p parts) 0 n) (sent_by p parts n)
    ∙ ap (λ (b : List ℕ). b ++ bytes_sent (sent_by p parts n)) (tiles_bytes p parts n) ∙ ap (λ (b : List ℕ). flat_map f (joined parts 0 n) ++ b) (tile_bytes (length p.stream.siz.comps) n (parts n))
    ∙ sym (flat_map-append f (joined parts 0 n) (parts n)) ∙ sym (ap (λ (ps : List TilePart). flat_map f ps) (joined_next parts 0 n (omega arith))) ∙ sym (ap (λ (k : ℕ). flat_map f (joined parts 0 k)) next)

pub front_bytes : (p : Plan) (n : ℕ) (sent : List PartSent) (front : IsShortFront p n sent) → bytes_sent sent ≡ flat_map (part_bytes (length p.stream.siz.comps)) (joined front.parts 0 n)
front_bytes p n sent front = ap bytes_sent front.sent_are ∙ tiles_bytes p front.parts n

-- ---- lengths
groups_lengths : (m : Marks) (comps t : ℕ) (own : List Segment) (ps : Packets) (part count number : ℕ) (groups : List (List PacketName))
    → lengths_sent (sent_of t (map (part_bytes comps) (parts_with m comps t own ps part count number groups))) ≡ map entry_of (parts_with m comps t own ps part count number groups)
groups_lengths m comps t own ps part count number [] = refl
groups_lengths m comps t own ps part count number (names ∷ groups) =
    let header : List Segment = written_part_header m own part (map (packet_length ps) names) in
    let body : List ℕ = bytes_from ps number names in
    let later : List TilePart = parts_with m comps t own ps (part + 1) count (number + length names) groups in
    ap (λ (n : ℕ). (record { tile = t; length = n }) ∷ lengths_sent (sent_of t (map (part_bytes comps) later))) (sym (part_long comps t part count header body))
    ∙ ap (λ (l : List PartLength). entry_of (tile_part comps t part count header body) ∷ l) (groups_lengths m comps t own ps (part + 1) count (number + length names) groups)

tile_lengths : (m : Marks) (s : Stream) (blocks : List Block) (comps t : ℕ) (parts : List TilePart) → length s.siz.comps ≡ comps → AreTilePartsOf m s blocks t parts
    → lengths_sent (sent_of t (map (part_bytes comps) parts)) ≡ map entry_of parts
tile_lengths m s blocks comps t parts same is =
    let groups : List (List PacketName) = groups_of m.parts is.names in
    let all : parts ≡ parts_with m comps t (header_of s t) (packets_of m s t blocks) 0 (length groups) 0 groups =
    is.are ∙ ap (λ (n : ℕ). parts_with m n t (header_of s t) (packets_of m s t blocks) 0 (length groups) 0 groups) same in
    rw all (groups_lengths m comps t (header_of s t) (packets_of m s t blocks) 0 (length groups) 0 groups)

tiles_lengths : (p : Plan) (parts : ℕ → List TilePart) (n : ℕ) → ((t : ℕ) → t < n → AreTilePartsOf p.wanted.marks (headers_of p) (blocks_of p) t (parts t))
    → lengths_sent (joined (sent_by p parts) 0 n) ≡ map entry_of (joined parts 0 n)
tiles_lengths p parts zero are = ap lengths_sent (joined_none (sent_by p parts) 0 0 (omega arith)) ∙ sym (ap (λ (ps : List TilePart). map entry_of ps) (joined_none parts 0 0 (omega arith)))
tiles_lengths p parts (suc n) are =
    let next : suc n ≡ n + 1 = omega arith in
    let own : lengths_sent (sent_by p parts n) ≡ map entry_of (parts n) =
    tile_lengths p.wanted.marks (headers_of p) (blocks_of p) (length p.stream.siz.comps) n (parts n) (comps_stay p.wanted p.layers p.stream) (are n (omega arith)) in
    ap (λ (k : ℕ). lengths_sent (joined (sent_by p parts) 0 k)) next ∙ ap lengths_sent (joined_next (sent_by p parts) 0 n (omega arith)) ∙ map-append length_sent (joined (sent_by p parts) 0 n) (sent_by p parts n)
    ∙ ap (λ (l : List PartLength). l ++ lengths_sent (sent_by p parts n)) (tiles_lengths p parts n (λ t lt. are t (omega (arith, lt)))) ∙ ap (λ (l : List PartLength). map entry_of (joined parts 0 n) ++ l) own
    ∙ sym (map-append entry_of (joined parts 0 n) (parts n)) ∙ sym (ap (λ (ps : List TilePart). map entry_of ps) (joined_next parts 0 n (omega arith)))
    ∙ sym (ap (λ (k : ℕ). map entry_of (joined parts 0 k)) next)

pub front_lengths : (p : Plan) (n : ℕ) (sent : List PartSent) (front : IsShortFront p n sent) → lengths_sent sent ≡ map entry_of (joined front.parts 0 n)
front_lengths p n sent front = ap lengths_sent front.sent_are ∙ tiles_lengths p front.parts n front.are

-- ---- how many there are
sums_same : (f g : ℕ → ℕ) (n : ℕ) → ((t : ℕ) → t < n → f t ≡ g t) → sum_below f n ≡ sum_below g n
sums_same f g zero same = refl
sums_same f g (suc n) same = omega (arith, sums_same f g n (λ t lt. same t (omega (arith, lt))), same n (omega arith))

module _ (p : Plan) (n : ℕ) (sent : List PartSent) (front : IsShortFront p n sent) where
  part_count : (t : ℕ) → t < n → IsPartCount p.wanted.marks.parts (headers_of p) t (length (front.parts t))
  part_count t lt =
      let groups : List (List PacketName) = groups_of p.wanted.marks.parts (front.are t lt).names in
      record {
        names = (front.are t lt).names;
        order = (front.are t lt).order;
        count_is = ap (λ (ps : List TilePart). length ps) (front.are t lt).are
            ∙ made_long p.wanted.marks (length (headers_of p).siz.comps) t (header_of (headers_of p) t) (packets_of p.wanted.marks (headers_of p) t (blocks_of p)) (length groups) 0 0 groups;
      }

  front_counted : length sent ≡ sum_below (λ t. length (front.parts t)) n
  front_counted =
      let f : ℕ → List PartSent = sent_by p front.parts in
      ap (λ (s : List PartSent). length s) front.sent_are ∙ joined_length f (λ t. length (f t)) n (λ t. refl)
      ∙ sums_same (λ t. length (f t)) (λ t. length (front.parts t)) n (λ t lt.
      length-map (map (part_bytes (length p.stream.siz.comps)) (front.parts t)) (sent_as t) ∙ length-map (front.parts t) (part_bytes (length p.stream.siz.comps)))

pub measured_few : (p : Plan) (lengths : List PartLength) → HasFewEntries p.wanted.marks (headers_of p) → p.wanted.marks.tlm ≡ true → AreMeasured p lengths → length lengths ≤ 2795776
measured_few p lengths few asked is =
    let n : ℕ = tile_number p.stream.siz in
    let same : tile_number (headers_of p).siz ≡ n = tiles_stay p.wanted p.layers p.stream in
    let counts : ℕ → ℕ = λ t. length (is.front.parts t) in
    let all : sum_below counts (tile_number (headers_of p).siz) ≤ 2795776 = few asked counts (λ t lt. part_count p n is.sent is.front t (omega (arith, lt, same))) in
    let here : sum_below counts (tile_number (headers_of p).siz) ≡ sum_below counts n = ap (λ (k : ℕ). sum_below counts k) same in
    omega (arith, all, here, front_counted p n is.sent is.front, ap (λ (l : List PartLength). length l) is.lengths_are, length-map is.sent length_sent)

pub head_indexed : (p : Plan) (lengths : List PartLength) (header index head : List ℕ) → p.wanted.marks.tlm ≡ true → AreMeasured p lengths → header ≡ main_bytes (headers_of p)
    → ((comps : ℕ) → index ≡ all_bytes comps (index_segments lengths)) → head ≡ header ++ index → IsHead p head
head_indexed p lengths header index head asked are main is all = inr (
  asked,
  record {
    lengths = lengths;
    are = are;
    head_is = all ∙ ap (λ (b : List ℕ). b ++ index) main ∙ ap (λ (b : List ℕ). main_bytes (headers_of p) ++ b) (is (length p.stream.siz.comps));
  },
)
