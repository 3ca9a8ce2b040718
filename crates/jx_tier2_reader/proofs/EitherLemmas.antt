-- Tile data are cut up, or a rule is violated in them: there is always one of both.
use Rattle.std.proofs.Common.{◌≡◌, ℕ, zero, suc, ◌+◌, ◌<◌, ◌≤◌, ◌^◌, Bool, List, [], ◌∷◌, ◌++◌, length, take, drop, set, refl, sym, ap, ◌∙◌, subst, arith, Some, None, Option, Ok, Err, Result, inl, inr, ◌⊎◌, append-nil, length-append, length-drop}
use Rattle.std.specs.Prelude.{slice_get}
use Rattle.std.proofs.lemmas.Bool.{cases_lt}
use Rattle.std.proofs.Math.Seq.{drop-append_seam}
use Rattle.jx_base.specs.declared.pieces.Block.{Block}
use Rattle.jx_base.specs.Joined.{joined}
use Rattle.jx_base.proofs.Lists.{push_on}
use Rattle.jx_tagtree.specs.declared.BitFault.{BitFault}
use Rattle.jx_tagtree.specs.Header.{bits_of, end_after, Reading, start_of}
use Rattle.jx_geom.specs.Geometry.{Geometry, GeometryInRange}
use Rattle.jx_packet_header.specs.declared.HeaderPart.{HeaderPart}
use Rattle.jx_packet_header.specs.declared.HeadFault.{HeadFault}
use Rattle.jx_packet_header.specs.Packet.{State, IsPacket, header_bits}
use Rattle.jx_packet_header.specs.Kept.{AreBands}
use Rattle.jx_packet_header.specs.Frame.{frame}
use Rattle.jx_packet_header.specs.Scan.{HeaderRead, scan_header}
use Rattle.jx_packet_header.proofs.PacketLemmas.{HeaderGo, header_read, header_over, header_breaks, packet_none, packet_ok, end_cause, WasRead}
use Rattle.jx_marker.specs.declared.Progression.{Progression}
use Rattle.jx_progression.specs.declared.names.PacketName.{PacketName}
use Rattle.jx_progression.specs.Packets.{HasUncovered, IsOrder}
use Rattle.jx_codestream.specs.declared.Body.{Body}
use Rattle.jx_codestream.specs.declared.Stream.{Stream}
use Rattle.jx_codestream.specs.First.{tile_number}
use Rattle.jx_codestream.specs.declared.faults.StreamFault.{StreamFault}
use Rattle.jx_codestream.specs.Read.{IsRead}
use Rattle.jx_codestream.specs.Shapes.{geometry, layers_of, tile_at}
use Rattle.jx_tile.specs.Totals.{totals_fault}
use Rattle.jx_tier2_reader.specs.Data.{window, due, due_or, behind, packed_behind, sop_fault, header_in, front_length, parts_length, body_fault}
use Rattle.jx_tier2_reader.specs.Cuts.{Cut, Left, IsCut, BreaksHeader, Breaks, IsTurn, AreCuts, BreaksDue, left_fault, names_of, number_of}
use Rattle.jx_tier2_reader.specs.Blocks.{founds_of, blocks_of_tile}
use Rattle.jx_tile.specs.Covered.{IsListOf, IsWhole}
use Rattle.jx_tier2_reader.specs.Gathered.{IsCutUp, AreTileBlocks, BreaksTile, head_pieces, start}
use Rattle.jx_tier2_reader.specs.Either.{HasBlocks, HasFault}
use Rattle.jx_codestream.specs.InRange.{StreamInRange}
use Rattle.jx_codestream.proofs.RangeLemmas.{read_in_range}
use Rattle.jx_tier2_reader.proofs.ListLemmas.{few_components}
use Rattle.jx_tier2_reader.proofs.PacketLemmas.{cut_made}
use Rattle.jx_tier2_reader.proofs.TileLemmas.{cuts_on, names_on as names_more}
use Rattle.jx_tier2_reader.proofs.TurnLemmas.{Precincts, Keeps, AreFew, Listed, Known, listed, known_there, has_precinct, due_named}
use Rattle.jx_tier2_reader.proofs.OnceLemmas.{Ready}
use Rattle.jx_tier2_reader.proofs.ReadyLemmas.{ready}
use Rattle.jx_tile.proofs.TotalLemmas.{geometry_fits}
use Rattle.jx_tier2_reader.proofs.CoverEither.{search_first, cover_or}
use Rattle.jx_packet_header.specs.declared.HeadFault.TheVariants as head
use Rattle.jx_codestream.specs.declared.faults.StreamFault.TheVariants as fault

-- ---- a header
-- it stands there, or it breaks a rule
abbrev HeaderOr : List ℕ → ℕ → State → Type 0
HeaderOr h at k = ((parts : List HeaderPart) × ((used : ℕ) × ((after : State) × IsPacket h k parts used after))) ⊎ ((f : StreamFault) × BreaksHeader h at k f)

bits_differ : head.Bits ≡ head.Planes → ⊥
bits_differ e = cc

memory_differs : head.NoMemory ≡ head.Planes → ⊥
memory_differs e = cc

-- no header, and no block that breaks its planes
header_bad : (h : List ℕ) (at : ℕ) (k : State) (e : HeadFault) → AreBands k.bands → scan_header k (bits_of h).bits ≡ Err e → (e ≡ head.Planes → ⊥) → HeaderOr h at k
header_bad h at k e b s other = inr (
  fault.Rule 26 at,
  inr (
    (λ x. (let same : Err e ≡ Err head.Planes = sym s ∙ header_over h k b x in other (cc))),
    (λ parts used after p. packet_none h k e parts after used b s p),
    refl,
  ),
)

same_frame : (h : List ℕ) (n : ℕ) → n ≤ length (bits_of h).bits → frame (record { bytes = h; taken = n; refused = None }) ≡ frame (start_of h)
unfolding frame
same_frame h n le =
    let total : n + length (drop n (bits_of h).bits) ≡ 0 + length (drop 0 (bits_of h).bits) = omega (arith, length-drop n (bits_of h).bits) in
    rw total refl

abbrev reader_at : List ℕ → ℕ → Reading
reader_at h n = record { bytes = h; taken = n; refused = None }

was_scanned : (h : List ℕ) (k : State) (r : HeaderRead) → scan_header k (bits_of h).bits ≡ Ok r → (g : HeaderGo k (bits_of h).bits r) → WasRead h k (reader_at h (length (header_bits k g.header))) r.parts r.after
was_scanned h k r s g =
    let n : ℕ = length (header_bits k g.header) in
    let all : length (bits_of h).bits ≡ n + length r.rest = ap length g.stands ∙ length-append (header_bits k g.header) r.rest in
    let rest : r.rest ≡ drop n (bits_of h).bits = sym (ap (drop n) g.stands ∙ drop-append_seam (header_bits k g.header) r.rest) in
    record {
      scanned = s ∙ ap (λ (l : List Bool). let y : HeaderRead = record { parts = r.parts; after = r.after; rest = l } in let z : Result HeaderRead HeadFault = Ok y in z) rest;
      kept = same_frame h n (omega arith);
    }

read_to : (h : List ℕ) (at : ℕ) (k : State) (r : HeaderRead) → AreBands k.bands → (g : HeaderGo k (bits_of h).bits r) → WasRead h k (reader_at h (length (header_bits k g.header))) r.parts r.after
    → (e : Result ℕ BitFault) → end_after h (length (header_bits k g.header)) ≡ e → HeaderOr h at k
read_to h at k r b g was (Ok used) eq = inl (r.parts, (used, (r.after, packet_ok h k (reader_at h (length (header_bits k g.header))) r.parts r.after used b was eq)))
read_to h at k r b g was (Err e) eq =
    let bad = end_cause h k (reader_at h (length (header_bits k g.header))) r.parts r.after e b was eq in
    inr (fault.Rule 26 at, inr (bad.0, bad.1, refl))

header_by : (h : List ℕ) (at : ℕ) (k : State) → AreBands k.bands → (s : Result HeaderRead HeadFault) → scan_header k (bits_of h).bits ≡ s → HeaderOr h at k
header_by h at k b (Ok r) s =
    let g : HeaderGo k (bits_of h).bits r = header_read k (bits_of h).bits r b s in
    read_to h at k r b g (was_scanned h k r s g) (end_after h (length (header_bits k g.header))) refl
header_by h at k b (Err head.Bits) s = header_bad h at k head.Bits b s bits_differ
header_by h at k b (Err head.Planes) s = inr (fault.Rule 27 at, inl (header_breaks h k b s, refl))
header_by h at k b (Err head.NoMemory) s = header_bad h at k head.NoMemory b s memory_differs

header_or : (h : List ℕ) (at : ℕ) (k : State) → AreBands k.bands → HeaderOr h at k
header_or h at k b = header_by h at k b (scan_header k (bits_of h).bits) refl

-- ---- a packet
abbrev PacketOr : Option (List ℕ) → List ℕ → ℕ → ℕ → State → PacketName → Type 0
PacketOr packed w at number k p = ((c : Cut) × ((c.name ≡ p) × IsCut packed w number k c)) ⊎ ((f : StreamFault) × Breaks packed w at number k f)

abbrev cut_of : Option (List ℕ) → List ℕ → PacketName → List HeaderPart → ℕ → State → Cut
cut_of packed w p parts used after = record {
  name = p;
  count = front_length packed w used + parts_length parts;
  used = used;
  parts = parts;
  bytes = take (parts_length parts) (drop (front_length packed w used) w);
  after = after;
}

body_by : (packed : Option (List ℕ)) (w : List ℕ) (at number : ℕ) (k : State) (p : PacketName) (parts : List HeaderPart) (used : ℕ) (after : State) → sop_fault w at number ≡ None
    → IsPacket (header_in packed w) k parts used after → (o : Option StreamFault) → body_fault packed w at used parts ≡ o → PacketOr packed w at number k p
body_by packed w at number k p parts used after sop header None body =
    inl (cut_of packed w p parts used after, (refl, cut_made packed w at number k (cut_of packed w p parts used after) sop header body refl refl))
body_by packed w at number k p parts used after sop header (Some f) body = inr (f, inr (sop, inr (record { parts = parts; used = used; after = after; header = header; body = body })))

sop_by : (packed : Option (List ℕ)) (w : List ℕ) (at number : ℕ) (k : State) (p : PacketName) → AreBands k.bands → (o : Option StreamFault) → sop_fault w at number ≡ o → PacketOr packed w at number k p
sop_by packed w at number k p b (Some f) sop = inr (f, inl sop)
sop_by packed w at number k p b None sop = elim (header_or (header_in packed w) at k b) [
  | inl stands ↦ body_by packed w at number k p stands.0 stands.1.0 stands.1.1.0 sop stands.1.1.1 (body_fault packed w at stands.1.0 stands.0) refl
  | inr broken ↦ inr (broken.0, inr (sop, inl broken.1))
]

packet_or : (packed : Option (List ℕ)) (w : List ℕ) (at number : ℕ) (k : State) (p : PacketName) → AreBands k.bands → PacketOr packed w at number k p
packet_or packed w at number k p b = sop_by packed w at number k p b (sop_fault w at number) refl

-- ---- the packet that is due
abbrev TurnOr : List ℕ → Geometry → ℕ → Left → PacketName → Type 0
TurnOr b g number left p = ((c : Cut) × ((new : Left) × ((c.name ≡ p) × IsTurn b g number left c new))) ⊎ ((f : StreamFault) × BreaksDue b g number left p f)

turn_at : (b : List ℕ) (g : Geometry) (number : ℕ) (left : Left) (p : PacketName) (k : State) → AreBands k.bands → slice_get left.states (number_of g p) ≡ Some k
    → (body : Body) (later : List Body) → due_or left.end (due left.bodies) ≡ body ∷ later → TurnOr b g number left p
turn_at b g number left p k bands found body later first = elim (packet_or left.packed (window b body) body.at number k p bands) [
  | inl cut ↦
      let c : Cut = cut.0 in
      inl (
        c,
        (
          record {
            bodies = behind body c.count ∷ later;
            end = left.end;
            packed = packed_behind left.packed c.used;
            states = set left.states (number_of g c.name) c.after;
          },
          (
            cut.1.0,
            record {
              body = body;
              later = later;
              due_is = first;
              state = k;
              known = ap (λ (q : PacketName). slice_get left.states (number_of g q)) cut.1.0 ∙ found;
              cut = cut.1.1;
              new_is = refl;
            },
          ),
        ),
      )
  | inr broken ↦ inr (broken.0, record { body = body; later = later; due_is = first; state = k; known = found; breaks = broken.1 })
]

turn_by : (b : List ℕ) (g : Geometry) (number : ℕ) (left : Left) (p : PacketName) (k : State) → AreBands k.bands → slice_get left.states (number_of g p) ≡ Some k
    → (bodies : List Body) → due left.bodies ≡ bodies → TurnOr b g number left p
turn_by b g number left p k bands found [] first = turn_at b g number left p k bands found (record { at = left.end; length = 0 }) [] (ap (due_or left.end) first)
turn_by b g number left p k bands found (body ∷ later) first = turn_at b g number left p k bands found body later (ap (due_or left.end) first)

-- ---- a tile
abbrev TileOr : List ℕ → Stream → ℕ → Type 0
TileOr b s t = ((cuts : List Cut) × IsCutUp b s t cuts) ⊎ ((f : StreamFault) × BreaksTile b s t f)

-- a tile that is read by a list
record Reads (b : List ℕ) (s : Stream) (t : ℕ) (list : List PacketName) : Type 0 where
  pub places : Precincts s (geometry s t)
  pub keeps : Keeps b
  pub few : AreFew b (start b s t).packed
  pub listed : Listed (geometry s t) (layers_of s t) list
  pub order : IsListOf s t list

end_by : (b : List ℕ) (s : Stream) (t : ℕ) (cuts : List Cut) (left : Left) → IsListOf s t (names_of cuts ++ []) → AreCuts b (geometry s t) 0 (start b s t) cuts left
    → (o : Option StreamFault) → left_fault (head_pieces s t) left ≡ o → TileOr b s t
end_by b s t cuts left order are None over = inl (cuts, record { order = subst (IsListOf s t) (append-nil (names_of cuts)) order; end = left; are = are; none_left = over })
end_by b s t cuts left order are (Some f) over = inr (f, record { cuts = cuts; rest = []; order = order; left = left; are = are; stops = over })

tile_from : (b : List ℕ) (s : Stream) (t : ℕ) (list rest : List PacketName) (cuts : List Cut) (left : Left) → Reads b s t list → list ≡ names_of cuts ++ rest
    → AreCuts b (geometry s t) 0 (start b s t) cuts left → TileOr b s t
tile_from b s t list [] cuts left r e are = end_by b s t cuts left (subst (IsListOf s t) e r.order) are (left_fault (head_pieces s t) left) refl
tile_from b s t list (p ∷ rest) cuts left r e are =
    let g : Geometry = geometry s t in
    let layers : ℕ = layers_of s t in
    let all = known_there b s t list cuts (p ∷ rest) left r.places r.keeps r.listed e r.few are in
    let k : Known s g layers (names_of cuts) left.states p.comp p.res p.precinct =
    all p.comp p.res p.precinct (has_precinct g layers p (due_named g layers list (names_of cuts) rest p r.listed e)) in
    let count : 0 + length cuts ≡ length cuts = omega arith in
    elim (turn_by b g (0 + length cuts) left p k.state k.is.bands k.turned.known (due left.bodies) refl) [
      | inl turn ↦
          let c : Cut = turn.0 in
          let next : list ≡ names_of (cuts ++ c ∷ []) ++ rest =
          e ∙ ap (λ (q : PacketName). names_of cuts ++ (q ∷ rest)) (sym turn.1.1.0) ∙ sym (push_on (names_of cuts) rest c.name) ∙ ap (λ (xs : List PacketName). xs ++ rest) (sym (names_more cuts c)) in
          tile_from b s t list rest (cuts ++ c ∷ []) turn.1.0 r next (cuts_on b g 0 (start b s t) left turn.1.0 cuts c are turn.1.1.1)
      | inr stops ↦ inr (
        stops.0,
        record {
          cuts = cuts;
          rest = p ∷ rest;
          order = subst (IsListOf s t) e r.order;
          left = left;
          are = are;
          stops = subst (λ (n : ℕ). BreaksDue b g n left p stops.0) count stops.1;
        },
      )
    ]

pub tile_or : (b : List ℕ) (s : Stream) (t : ℕ) (list : List PacketName) → Precincts s (geometry s t) → Keeps b → AreFew b (start b s t).packed → IsListOf s t list → IsWhole s t → TileOr b s t
tile_or b s t list places keeps few order whole =
    tile_from b s t list list [] (start b s t) (record { places = places; keeps = keeps; few = few; listed = listed s t list order whole; order = order }) refl refl

-- ---- all tiles
abbrev TilesOr : List ℕ → Stream → ℕ → Type 0
TilesOr b s n =
    ((t : ℕ) → t < n → (cuts : List Cut) × IsCutUp b s t cuts)
    ⊎ ((t : ℕ) × ((t < n) × (((i : ℕ) → i < t → (cuts : List Cut) × IsCutUp b s i cuts) × ((f : StreamFault) × BreaksTile b s t f))))

one_more : (b : List ℕ) (s : Stream) (n t : ℕ) → ((t : ℕ) → t < n → (cuts : List Cut) × IsCutUp b s t cuts) → ((cuts : List Cut) × IsCutUp b s n cuts) → t < suc n → (cuts : List Cut) × IsCutUp b s t cuts
one_more b s n t front own lt = elim (cases_lt t n) [
  | inl below ↦ front t below
  | inr ge ↦ (let same : n ≡ t = omega arith in subst (λ (i : ℕ). (cuts : List Cut) × IsCutUp b s i cuts) same own)
]

tiles_or : (b : List ℕ) (s : Stream) (n : ℕ) → ((t : ℕ) → t < n → TileOr b s t) → TilesOr b s n
tiles_or b s zero each = inl (λ t lt. absurd (omega arith))
tiles_or b s (suc n) each = elim (tiles_or b s n (λ t lt. each t (omega arith))) [
  | inl front ↦ elim (each n (omega arith)) [
    | inl own ↦ inl (λ t lt. one_more b s n t front own lt)
    | inr broken ↦ inr (n, (omega arith, (front, broken)))
  ]
  | inr broken ↦ inr (broken.0, ((let lt = broken.1.0 in omega arith), broken.1.1))
]

-- ---- a codestream
abbrev HasList : Stream → ℕ → Type 0
HasList s t = (list : List PacketName) × IsListOf s t list

abbrev DataOr : List ℕ → Stream → Type 0
DataOr b s = HasBlocks b s ⊎ HasFault b s

abbrev TileList : List ℕ → Stream → ℕ → ℕ → Type 0
TileList b s n t = t < n → (cuts : List Cut) × IsCutUp b s t cuts

tile_with : (b : List ℕ) (s : Stream) (n t : ℕ) → TileList b s n t → (t < n) ⊎ (n ≤ t) → List Block
tile_with b s n t cuts (inl lt) = blocks_of_tile s (geometry s t) (founds_of (geometry s t) (cuts lt).0)
tile_with b s n t cuts (inr ge) = []

tile_is : (b : List ℕ) (s : Stream) (n t : ℕ) (cuts : TileList b s n t) (d : (t < n) ⊎ (n ≤ t)) → t < n → AreTileBlocks b s t (tile_with b s n t cuts d)
unfolding tile_with
tile_is b s n t cuts (inl lt) inside = ((cuts lt).0, (cuts lt).1, refl)
tile_is b s n t cuts (inr ge) inside = absurd (omega arith)

data_or : (b : List ℕ) (s : Stream) → Ready b s → totals_fault s ≡ None → ((t : ℕ) → t < tile_number s.siz → HasList s t) → ((t : ℕ) → t < tile_number s.siz → IsWhole s t) → DataOr b s
data_or b s r none lists whole =
    let n : ℕ = tile_number s.siz in
    elim (tiles_or b s n (λ t lt. (let list = lists t lt in tile_or b s t list.0 (r.places t lt) r.keeps (r.few t lt) list.1 (whole t lt)))) [
      | inl all ↦
          let tiles : ℕ → List Block = λ t. tile_with b s n t (all t) (cases_lt t n) in
          inl (joined tiles 0 n, record { whole = whole; tiles = tiles; are = λ t lt. tile_is b s n t (all t) (cases_lt t n) lt; blocks_are = refl })
      | inr broken ↦ inr (
        broken.1.1.1.0,
        inr (
          none,
          inr (record {
            whole = whole;
            tile = broken.0;
            inside = broken.1.0;
            before = broken.1.1.0;
            breaks = broken.1.1.1.1;
          }),
        ),
      )
    ]

cover_first : (b : List ℕ) (s : Stream) → Ready b s → StreamInRange s → totals_fault s ≡ None → ((t : ℕ) → t < tile_number s.siz → HasList s t) → DataOr b s
cover_first b s r range none lists =
    elim (search_first (IsWhole s) (λ t. HasUncovered (geometry s t) (layers_of s t) (tile_at s t).progressions) (tile_number s.siz)
    (λ t lt. cover_or (geometry s t) (layers_of s t) (tile_at s t).progressions (let few = few_components s (geometry s t) range refl in omega arith))) [
      | inl whole ↦ data_or b s r none lists whole
      | inr some ↦ inr (
        fault.Rule 25 (tile_at s some.0).place,
        inr (
          none,
          inl (record {
            tile = some.0;
            inside = some.1.0;
            some = some.1.1.1;
            lowest = some.1.1.0;
            fault_is = refl;
          }),
        ),
      )
    ]

-- what is cited of jx_progression
pub record OrdersExist : Type 0 where
  pub exist : (g : Geometry) (layers : ℕ) (entries : List Progression) (n : ℕ) → GeometryInRange g → (list : List PacketName) × IsOrder g layers entries n list

-- so each tile has a list of its packets
lists : OrdersExist → (s : Stream) (t : ℕ) → StreamInRange s → totals_fault s ≡ None → t < tile_number s.siz → HasList s t
lists orders s t range none inside =
    let entries : List Progression = (tile_at s t).progressions in
    orders.exist (geometry s t) (layers_of s t) entries (length entries) (geometry_fits s t range none inside)

totals_by : OrdersExist → (b : List ℕ) (s : Stream) (o : Option StreamFault) → totals_fault s ≡ o → IsRead b s → length b < 2 ^ 64 → DataOr b s
totals_by orders b s (Some f) e read few = inr (f, inl e)
totals_by orders b s None e read few =
    let range : StreamInRange s = read_in_range b s read in
    cover_first b s (ready b s read few e) range e (λ t inside. lists orders s t range e inside)

pub one_of_both : OrdersExist → (b : List ℕ) (s : Stream) → IsRead b s → length b < 2 ^ 64 → HasBlocks b s ⊎ HasFault b s
one_of_both orders b s read few = totals_by orders b s (totals_fault s) refl read few
