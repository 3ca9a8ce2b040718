-- A made file is well formed, and within the limits.
use Rattle.std.proofs.Common.{◌≡◌, ℕ, ◌+◌, ◌^◌, ◌≤◌, ◌<◌, List, [], ◌∷◌, ◌++◌, length, refl, sym, subst, arith, append-nil, length-append}
use Rattle.jx_geom.specs.Geometry.{Geometry}
use Rattle.jx_marker.specs.Codes.{EOC}
use Rattle.jx_marker.specs.Values.{canvas_bytes}
use Rattle.jx_progression.specs.declared.names.PacketName.{PacketName}
use Rattle.jx_progression.specs.Packets.{AreCovered, IsOrder}
use Rattle.jx_codestream.specs.declared.Stream.{Stream}
use Rattle.jx_codestream.specs.First.{tile_number}
use Rattle.jx_codestream.specs.Read.{IsRead}
use Rattle.jx_tier2_reader.specs.Accepted.{IsAccepted}
use Rattle.jx_tile.specs.Covered.{IsListOf, IsWhole}
use Rattle.jx_tier2_reader.specs.WellFormed.{IsWellFormed}
use Rattle.jx_tier2_reader.specs.Written.{IsLaid, laid_blocks}
use Rattle.jx_tier2_reader.proofs.LaidTiles.{laid_gathered}
use Rattle.jx_generate.specs.Headers.{AreSizes}
use Rattle.jx_generate.specs.Made.{body_made, file_made, file_with}
use Rattle.jx_generate.specs.Packets.{names_made, packets_made}
use Rattle.jx_generate.specs.Reading.{entry_made, stream_made}
use Rattle.jx_generate.proofs.OrderLemmas.{cover_made, order_made}
use Rattle.jx_generate.proofs.ReadLemmas.{geometry_is, one_number, read_made, totals_within}
use Rattle.jx_generate.proofs.WrittenLemmas.{all_filled, all_written}

-- ---- how long it is
behind_124 : (w h : ℕ) (body : List ℕ) → length (file_with w h body) ≡ 124 + length ((body ++ []) ++ (0xFF ∷ EOC ∷ []))
unfolding file_with canvas_bytes
behind_124 w h body = omega arith

pub file_long : (w h : ℕ) (body : List ℕ) → length (file_with w h body) ≡ 126 + length body
file_long w h body = omega (arith, behind_124 w h body, length-append (body ++ []) (0xFF ∷ EOC ∷ []), length-append body [])

-- ---- its one tile
whole_0 : (w h size : ℕ) → AreSizes w h → IsWhole (stream_made w h size) 0
unfolding stream_made
whole_0 w h size sizes =
    let P : Geometry → Type 0 = λ g. AreCovered g 12 (entry_made ∷ []) in
    subst P (sym (geometry_is w h size)) (cover_made w h sizes)

order_0 : (w h size : ℕ) → AreSizes w h → IsListOf (stream_made w h size) 0 names_made
unfolding stream_made
order_0 w h size sizes =
    let P : Geometry → Type 0 = λ g. IsOrder g 12 (entry_made ∷ []) 1 names_made in
    subst P (sym (geometry_is w h size)) (order_made w h sizes)

laid_0 : (seed w h : ℕ) → AreSizes w h → IsLaid (file_made seed w h) (stream_made w h (length (body_made seed w h))) 0 (packets_made seed w h) (names_made ∷ [])
unfolding file_made stream_made
laid_0 seed w h sizes =
    let size : ℕ = length (body_made seed w h) in
    record {
      order = subst (λ (list : List PacketName). IsListOf (stream_made w h size) 0 list) (sym (append-nil names_made)) (order_0 w h size sizes);
      in_place = refl;
      written = all_written seed w h size sizes;
      filled = all_filled seed w h;
    }

-- ---- the file

only_tile : (w h size t : ℕ) → AreSizes w h → t < tile_number (stream_made w h size).siz → t ≡ 0
only_tile w h size t sizes lt = omega (arith, one_number w h size sizes)

read_file : (seed w h : ℕ) → AreSizes w h → length (file_made seed w h) ≤ 2 ^ 28 → IsRead (file_made seed w h) (stream_made w h (length (body_made seed w h)))
unfolding file_made
read_file seed w h sizes short =
    let few : 14 + length (body_made seed w h) < 2 ^ 32 = omega (arith, file_long w h (body_made seed w h)) in
    read_made w h (body_made seed w h) sizes few

pub made_accepted : (seed w h : ℕ) → AreSizes w h → length (file_made seed w h) ≤ 2 ^ 28 → IsAccepted (file_made seed w h) (stream_made w h (length (body_made seed w h)))
made_accepted seed w h sizes short =
    let size : ℕ = length (body_made seed w h) in
    let s : Stream = stream_made w h size in
    let b : List ℕ = file_made seed w h in
    let read : IsRead b s = read_file seed w h sizes short in
    let W : ℕ → Type 0 = λ t. IsWhole s t in
    let L : ℕ → Type 0 = λ t. IsLaid b s t (packets_made seed w h) (names_made ∷ []) in
    record {
      read = read;
      totals = totals_within w h size sizes;
      blocks = laid_blocks s (λ t. packets_made seed w h) (λ t. names_made ∷ []);
      gathered = laid_gathered b s (λ t. packets_made seed w h) (λ t. names_made ∷ []) read (totals_within w h size sizes)
          (λ t lt. subst W (sym (only_tile w h size t sizes lt)) (whole_0 w h size sizes))
          (λ t lt. subst L (sym (only_tile w h size t sizes lt)) (laid_0 seed w h sizes));
    }

pub made_formed : (seed w h : ℕ) → AreSizes w h → length (file_made seed w h) ≤ 2 ^ 28 → IsWellFormed (file_made seed w h)
made_formed seed w h sizes short =
    let is : IsAccepted (file_made seed w h) (stream_made w h (length (body_made seed w h))) = made_accepted seed w h sizes short in
    record { stream = stream_made w h (length (body_made seed w h)); spelled = is.read.spelled; blocks = is.blocks; gathered = is.gathered }

-- ---- what a call gives
pub body_few : (seed w h : ℕ) → length (body_made seed w h) ≤ 268435330 → length (file_made seed w h) ≤ 2 ^ 28
unfolding file_made
body_few seed w h few = omega (arith, file_long w h (body_made seed w h))
