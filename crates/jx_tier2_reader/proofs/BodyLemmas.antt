-- Where the data of a tile lie in the file that is read.
use Rattle.std.proofs.Common.{◌≡◌, ℕ, ◌+◌, ◌<◌, ◌≤◌, ◌==◌, Bool, true, false, List, [], ◌∷◌, ◌++◌, length, map, filter, sum_by, flat_map, refl, sym, ap, ◌∙◌, subst, cond, arith, length-append, get_or}
use Rattle.std.specs.List.{AllByRecursion}
use Rattle.std.proofs.lemmas.List.Elements.{All-from_recursion}
use Rattle.std.proofs.lemmas.List.FromFn.{get_or-map-range_with_len}
use Rattle.std.proofs.lemmas.List.Sums.{sum_by-cons}
use Rattle.jx_marker.specs.Segments.{spelling}
use Rattle.jx_marker.specs.declared.Segment.{Segment}
use Rattle.jx_marker.specs.declared.Segment.TheVariants as segment
use Rattle.jx_codestream.specs.declared.parts.PlacedPart.{PlacedPart}
use Rattle.jx_codestream.specs.declared.Body.{Body}
use Rattle.jx_codestream.specs.declared.Stream.{Stream}
use Rattle.jx_codestream.specs.declared.Tile.{Tile}
use Rattle.jx_codestream.specs.Tiles.{tile_of, tiles_of}
use Rattle.jx_codestream.specs.First.{tile_number}
use Rattle.jx_codestream.specs.declared.packed.PackedSegment.{PackedSegment}
use Rattle.jx_codestream.specs.PackedHeaders.{after_share, data_in_order, share_of, shared_out, with_heads, with_shares}
use Rattle.jx_codestream.specs.Spells.{TilePart, all_bytes, head_bytes, main_packed, part_bytes, part_of, placed, first_sot, Spells}
use Rattle.jx_codestream.specs.Shapes.{no_tile, tile_at}
use Rattle.jx_codestream.specs.Read.{IsRead}
use Rattle.jx_tier2_reader.specs.InRange.{DataInRange}

-- what stands between the front and the rest of a file
between : (soc siz main parts rest : List ℕ) → length soc + length siz + length main + length parts ≤ length (soc ++ (siz ++ (main ++ (parts ++ rest))))
between soc siz main parts rest =
    let a : length (soc ++ (siz ++ (main ++ (parts ++ rest)))) ≡ length soc + length (siz ++ (main ++ (parts ++ rest))) = length-append soc (siz ++ (main ++ (parts ++ rest))) in
    let b : length (siz ++ (main ++ (parts ++ rest))) ≡ length siz + length (main ++ (parts ++ rest)) = length-append siz (main ++ (parts ++ rest)) in
    let c : length (main ++ (parts ++ rest)) ≡ length main + length (parts ++ rest) = length-append main (parts ++ rest) in
    let d : length (parts ++ rest) ≡ length parts + length rest = length-append parts rest in
    omega arith

-- the data of those tile-parts that a test picks
abbrev bodies_by : (PlacedPart → Bool) → List PlacedPart → List Body
bodies_by test parts = map (λ (p : PlacedPart). p.body) (filter test parts)

part_length : (comps : ℕ) (p : TilePart) → length (part_bytes comps p) ≡ length (head_bytes comps p) + length p.body
part_length comps p = length-append (head_bytes comps p) p.body

inside : (test : PlacedPart → Bool) (comps at n : ℕ) (ps : List TilePart) → at + length (flat_map (part_bytes comps) ps) ≤ n →
    AllByRecursion (λ (body : Body). body.at + body.length ≤ n) (bodies_by test (placed comps at ps))
inside test comps at n [] le = tt
inside test comps at n (p ∷ ps) le =
    let a : length (part_bytes comps p ++ flat_map (part_bytes comps) ps) ≡ length (part_bytes comps p) + length (flat_map (part_bytes comps) ps) = length-append (part_bytes comps p) (flat_map (part_bytes comps) ps) in
    let l : length (part_bytes comps p) ≡ length (head_bytes comps p) + length p.body = part_length comps p in
    by (test (part_of comps at p)) (omega arith) (inside test comps (at + length (part_bytes comps p)) n ps (omega arith))
  where
    by : (c : Bool) → at + length (head_bytes comps p) + length p.body ≤ n → AllByRecursion (λ (body : Body). body.at + body.length ≤ n) (bodies_by test (placed comps (at + length (part_bytes comps p)) ps)) →
        AllByRecursion (λ (body : Body). body.at + body.length ≤ n) (map (λ (q : PlacedPart). q.body) (cond c (part_of comps at p ∷ filter test (placed comps (at + length (part_bytes comps p)) ps)) (filter test (placed comps (at + length (part_bytes comps p)) ps))))
    by true h later = (h, later)
    by false h later = later

together : (test : PlacedPart → Bool) (comps at : ℕ) (ps : List TilePart) → sum_by (λ (body : Body). body.length) (bodies_by test (placed comps at ps)) ≤ length (flat_map (part_bytes comps) ps)
together test comps at [] = omega arith
together test comps at (p ∷ ps) =
    let a : length (part_bytes comps p ++ flat_map (part_bytes comps) ps) ≡ length (part_bytes comps p) + length (flat_map (part_bytes comps) ps) = length-append (part_bytes comps p) (flat_map (part_bytes comps) ps) in
    let l : length (part_bytes comps p) ≡ length (head_bytes comps p) + length p.body = part_length comps p in
    let some : sum_by (λ (body : Body). body.length) (map (λ (q : PlacedPart). q.body) (cond (test (part_of comps at p)) (part_of comps at p ∷ filter test (placed comps (at + length (part_bytes comps p)) ps)) (filter test (placed comps (at + length (part_bytes comps p)) ps))))
    ≤ length p.body + length (flat_map (part_bytes comps) ps) = by (test (part_of comps at p)) (together test comps (at + length (part_bytes comps p)) ps) in
    omega arith
  where
    by : (c : Bool) → sum_by (λ (body : Body). body.length) (bodies_by test (placed comps (at + length (part_bytes comps p)) ps)) ≤ length (flat_map (part_bytes comps) ps) →
        sum_by (λ (body : Body). body.length) (map (λ (q : PlacedPart). q.body) (cond c (part_of comps at p ∷ filter test (placed comps (at + length (part_bytes comps p)) ps)) (filter test (placed comps (at + length (part_bytes comps p)) ps))))
        ≤ length p.body + length (flat_map (part_bytes comps) ps)
    by true h =
        let later = bodies_by test (placed comps (at + length (part_bytes comps p)) ps) in
        let c : sum_by (λ (body : Body). body.length) ((part_of comps at p).body ∷ later) ≡ length p.body + sum_by (λ (body : Body). body.length) later =
        sum_by-cons (λ (body : Body). body.length) (part_of comps at p).body later in
        omega arith
    by false h = omega arith

-- those of a tile
pub tile_there : (main : List Segment) (parts : List PlacedPart) (tiles : List Tile) (n t : ℕ) → tiles ≡ tiles_of main parts n → t < n →
    get_or tiles t no_tile ≡ tile_of main parts t
tile_there main parts tiles n t is lt =
    ap (λ (l : List Tile). get_or l t no_tile) is ∙ get_or-map-range_with_len (tile_of main parts) 0 n t t no_tile lt (let e : 0 + t ≡ t = omega arith in e)

bodies_are : (main : List Segment) (parts : List PlacedPart) (t : ℕ) → (tile_of main parts t).bodies ≡ bodies_by (λ (p : PlacedPart). p.sot.tile == t) parts
unfolding tile_of
bodies_are main parts t = refl

-- tile-parts with their shares of packed headers have the same data
shared_bodies : (b : List ℕ) (t : ℕ) (pieces : List Body) (parts : List PlacedPart) → bodies_by (λ (p : PlacedPart). p.sot.tile == t) (shared_out b pieces parts) ≡ bodies_by (λ (p : PlacedPart). p.sot.tile == t) parts
shared_bodies b t pieces [] = refl
shared_bodies b t pieces (p ∷ parts) = by (p.sot.tile == t) (shared_bodies b t (after_share b pieces) parts)
  where
    rest : List PlacedPart
    rest = filter (λ (q : PlacedPart). q.sot.tile == t) (shared_out b (after_share b pieces) parts)

    by : (c : Bool) → map (λ (q : PlacedPart). q.body) rest ≡ bodies_by (λ (q : PlacedPart). q.sot.tile == t) parts
        → map (λ (q : PlacedPart). q.body) (cond c (with_heads p (share_of b pieces) ∷ rest) rest) ≡ map (λ (q : PlacedPart). q.body) (cond c (p ∷ filter (λ (q : PlacedPart). q.sot.tile == t) parts) (filter (λ (q : PlacedPart). q.sot.tile == t) parts))
    by true again = ap (λ (xs : List Body). p.body ∷ xs) again
    by false again = again

with_bodies : (b : List ℕ) (t : ℕ) (packed : List PackedSegment) (parts : List PlacedPart) → bodies_by (λ (p : PlacedPart). p.sot.tile == t) (with_shares b packed parts) ≡ bodies_by (λ (p : PlacedPart). p.sot.tile == t) parts
with_bodies b t [] parts = refl
with_bodies b t (p ∷ ps) parts = shared_bodies b t (data_in_order (p ∷ ps)) parts

-- all tile-parts stand in the file
pub file_long : (b : List ℕ) (s : Stream) → (w : Spells b s) → first_sot s.siz s.main + length (flat_map (part_bytes (length s.siz.comps)) w.parts) ≤ length b
file_long b s w =
    let soc : List ℕ = spelling 1 segment.Soc in
    let siz : List ℕ = spelling 1 (segment.Siz s.siz) in
    let main : List ℕ = all_bytes (length s.siz.comps) s.main in
    let bodies : List ℕ = flat_map (part_bytes (length s.siz.comps)) w.parts in
    let rest : List ℕ = spelling 1 segment.Eoc ++ w.rest in
    let long : length b ≡ length (soc ++ (siz ++ (main ++ (bodies ++ rest)))) = ap length w.bytes in
    let le : length soc + length siz + length main + length bodies ≤ length (soc ++ (siz ++ (main ++ (bodies ++ rest)))) = between soc siz main bodies rest in
    omega arith

pub read_data : (b : List ℕ) (s : Stream) (t : ℕ) → IsRead b s → t < tile_number s.siz → DataInRange b (tile_at s t).bodies
read_data b s t r lt =
    let w : Spells b s = r.spelled in
    let bodies : List ℕ = flat_map (part_bytes (length s.siz.comps)) w.parts in
    let within : first_sot s.siz s.main + length bodies ≤ length b = file_long b s w in
    let all : List PlacedPart = placed (length s.siz.comps) (first_sot s.siz s.main) w.parts in
    let shared : List PlacedPart = with_shares b (main_packed s.siz s.main) all in
    let test : PlacedPart → Bool = λ (p : PlacedPart). p.sot.tile == t in
    let is : (tile_at s t).bodies ≡ bodies_by test all =
    ap (λ (x : Tile). x.bodies) (tile_there s.main shared s.tiles (tile_number s.siz) t w.tiles lt) ∙ bodies_are s.main shared t ∙ with_bodies b t (main_packed s.siz s.main) all in
    let sum : sum_by (λ (body : Body). body.length) (bodies_by test all) ≤ length bodies = together test (length s.siz.comps) (first_sot s.siz s.main) w.parts in
    subst (λ (l : List Body). DataInRange b l) (sym is) (record {
      inside = All-from_recursion (λ (body : Body). body.at + body.length ≤ length b) (bodies_by test all) (inside test (length s.siz.comps) (first_sot s.siz s.main) (length b) w.parts within);
      together = omega arith;
    })
