-- Whole headers.
use Rattle.std.proofs.Common.{◌≡◌, ℕ, suc, ◌+◌, ◌*◌, ◌<◌, ◌≤◌, ◌^◌, Bool, true, false, List, [], ◌∷◌, ◌++◌, length, refl, sym, ap, ◌∙◌, subst, cond, arith, length-append, None, Ok, Err, Result}
use Rattle.std.specs.Prelude.{Option}
use Rattle.std.specs.Bool.{MatchBool}
use Rattle.std.proofs.lemmas.List.{append_cancel_right}
use Rattle.jx_tagtree.specs.Header.{bytes_of}
use Rattle.jx_tagtree.proofs.LawLemmas.{read_back}
use Rattle.jx_tagtree.specs.declared.BitFault.{BitFault}
use Rattle.jx_tagtree.specs.Header.{Reading, Bits as ByteBits, room, is_stuffed, low_bits, bits_after, bits_of, to_come, start_of, end_after, end_of, end_unless}
use Rattle.jx_tagtree.proofs.HeaderLemmas.{length-low_bits, room-le}
use Rattle.jx_packet_header.specs.declared.HeaderPart.{HeaderPart}
use Rattle.jx_packet_header.specs.declared.HeadFault.{HeadFault}
use Rattle.jx_packet_header.specs.declared.HeadFault.TheVariants.{Bits, Planes, NoMemory}
use Rattle.jx_packet_header.specs.Packet.{Cells, State, AreBandsTold, bands_bits, bands_after, bands_parts, Header, header_bits, header_after, header_parts, IsToldOf, AgreeAfter, IsPacket, BreaksPlanes, OneHeader}
use Rattle.jx_packet_header.specs.Precinct.{IsState}
use Rattle.jx_packet_header.specs.ReadBack.{IsOneReading}
use Rattle.jx_packet_header.specs.Kept.{AreBands}
use Rattle.jx_packet_header.specs.Frame.{Frame, frame}
use Rattle.jx_packet_header.specs.Scan.{and_then, BandsRead, scan_bands, HeaderRead, header_of, scan_header}
use Rattle.jx_packet_header.specs.Said.{HasCause, Refuses, OnlyMemory, OnlyPlanes, HeaderSaid}
use Rattle.jx_packet_header.proofs.BandLemmas.{AreAllTrees, bands_is, bands_made, bands_over, bands_read, bands_breaks, bands_agree}

-- ---- a reader of a header's bytes
-- bytes have at most eight times as many bits
pub bits_few : (before : ℕ) (bytes : List ℕ) → length (bits_after before bytes).bits ≤ 8 * length bytes
bits_few before [] = omega arith
bits_few before (byte ∷ bytes) = by (is_stuffed before byte) (bits_few byte bytes)
  where
    by : (b : Bool) → length (bits_after byte bytes).bits ≤ 8 * length bytes →
        length (let r : ByteBits = cond b (record { bits = []; fault = Rattle.jx_tagtree.specs.declared.BitFault.TheVariants.Stuffed }) (record { bits = low_bits (room before) byte ++ (bits_after byte bytes).bits; fault = (bits_after byte bytes).fault }) in r.bits) ≤ 8 * suc (length bytes)
    by true i = omega arith
    by false i =
        let a : length (low_bits (room before) byte ++ (bits_after byte bytes).bits) ≡ length (low_bits (room before) byte) + length (bits_after byte bytes).bits = length-append (low_bits (room before) byte) (bits_after byte bytes).bits in
        let l : length (low_bits (room before) byte) ≡ room before = length-low_bits (room before) byte in
        let r : room before ≤ 8 = room-le before in
        omega arith

pub total_few : (bytes : List ℕ) → length bytes < 2 ^ 64 → (frame (start_of bytes)).total < 2 ^ 67
unfolding frame
total_few bytes lt =
    let le : length (bits_of bytes).bits ≤ 8 * length bytes = bits_few 0 bytes in
    omega arith

-- where it ends
pub finish_is : (bytes : List ℕ) (r : Reading) (front : List Bool) → frame r ≡ frame (start_of bytes) → (bits_of bytes).bits ≡ front ++ to_come r → end_of r ≡ end_after bytes (length front)
unfolding frame
finish_is bytes r front same stands =
    let a : length (bits_of bytes).bits ≡ length front + length (to_come r) = ap (λ (l : List Bool). length l) stands ∙ length-append front (to_come r) in
    let total : r.taken + length (to_come r) ≡ 0 + length (bits_of bytes).bits = ap (λ (f : Frame). f.total) same in
    let taken : r.taken ≡ length front = omega arith in
    let begun : r.bytes ≡ bytes = ap (λ (f : Frame). f.bytes) same in
    let none : r.refused ≡ None = ap (λ (f : Frame). f.refused) same in
    ap (λ (o : Option BitFault). end_unless o (end_after r.bytes r.taken)) none
    ∙ ap (λ (b : List ℕ). end_after b r.taken) begun
    ∙ ap (λ (n : ℕ). end_after bytes n) taken

-- ---- all bands have their trees
pub all_trees : (bands : List Cells) → AreBands bands → AreAllTrees bands
all_trees [] b = tt
all_trees (cells ∷ bands) b = (b.0.trees, all_trees bands b.1)

-- ---- a header
abbrev pub header_is : List HeaderPart → State → List Bool → HeaderRead
header_is parts after rest = record { parts = parts; after = after; rest = rest }

pub header_made : (k : State) (h : Header) (rest : List Bool) → AreBands k.bands → IsToldOf k h → scan_header k (header_bits k h ++ rest) ≡ Ok (header_is (header_parts h) (header_after k h) rest)
header_made k h rest b is = by h.some is
  where
    by : (c : Bool) → MatchBool c (AreBandsTold k.style k.layer 0 k.bands h.tolds) (h.tolds ≡ []) →
        scan_header k ((cond c (true ∷ bands_bits k.layer k.bands h.tolds) (false ∷ [])) ++ rest)
        ≡ Ok (header_is (cond c (bands_parts h.tolds) []) (record { style = k.style; layer = k.layer + 1; bands = cond c (bands_after k.layer k.bands h.tolds) k.bands }) rest)
    by true t = ap (λ (r : Result BandsRead HeadFault). and_then r (λ (x : BandsRead). Ok (header_of k x))) (bands_made k.style k.layer 0 k.bands h.tolds rest (all_trees k.bands b) t)
    by false t = refl

pub record HeaderGo (k : State) (bits : List Bool) (r : HeaderRead) : Type 0 where
  pub header : Header
  pub is : IsToldOf k header
  pub stands : bits ≡ header_bits k header ++ r.rest
  pub parts_are : r.parts ≡ header_parts header
  pub after_is : r.after ≡ header_after k header

pub header_read : (k : State) (bits : List Bool) (r : HeaderRead) → AreBands k.bands → scan_header k bits ≡ Ok r → HeaderGo k bits r
header_read k [] r b h = absurd cc
header_read k (false ∷ bits) r b h =
    let is : header_of k (bands_is [] k.bands bits) ≡ r = cc in
    subst (λ (x : HeaderRead). HeaderGo k (false ∷ bits) x) is (record { header = record { some = false; tolds = [] }; is = refl; stands = refl; parts_are = refl; after_is = refl })
header_read k (true ∷ bits) r b h = by (scan_bands k.style k.layer 0 k.bands bits) refl h
  where
    by : (s : Result BandsRead HeadFault) → scan_bands k.style k.layer 0 k.bands bits ≡ s → and_then s (λ (x : BandsRead). Ok (header_of k x)) ≡ Ok r → HeaderGo k (true ∷ bits) r
    by (Err e) eq h = absurd cc
    by (Ok x) eq h =
        let is : header_of k x ≡ r = cc in
        let g = bands_read k.style k.layer 0 k.bands bits x (all_trees k.bands b) eq in
        subst (λ (y : HeaderRead). HeaderGo k (true ∷ bits) y) is (record {
          header = record { some = true; tolds = g.tolds };
          is = g.are;
          stands = ap (λ (l : List Bool). true ∷ l) g.bits_are;
          parts_are = g.parts_are;
          after_is = ap (λ (cs : List Cells). let s : State = record { style = k.style; layer = k.layer + 1; bands = cs } in s) g.bands_are;
        })

pub header_over : (bytes : List ℕ) (k : State) → AreBands k.bands → BreaksPlanes bytes k → scan_header k (bits_of bytes).bits ≡ Err Planes
header_over bytes k b x =
    ap (scan_header k) x.stands
    ∙ ap (λ (r : Result BandsRead HeadFault). and_then r (λ (y : BandsRead). Ok (header_of k y))) (bands_over k.style k.layer 0 k.bands x.rest (all_trees k.bands b) x.breaks)

pub header_breaks : (bytes : List ℕ) (k : State) → AreBands k.bands → scan_header k (bits_of bytes).bits ≡ Err Planes → BreaksPlanes bytes k
header_breaks bytes k b h = by (bits_of bytes).bits refl h
  where
    inner : (s : Result BandsRead HeadFault) → and_then s (λ (x : BandsRead). Ok (header_of k x)) ≡ Err Planes → s ≡ Err Planes
    inner (Err e) h = let is : e ≡ Planes = cc in ap (λ (x : HeadFault). let y : Result BandsRead HeadFault = Err x in y) is
    inner (Ok x) h = absurd cc

    by : (bits : List Bool) → (bits_of bytes).bits ≡ bits → scan_header k bits ≡ Err Planes → BreaksPlanes bytes k
    by [] eq h = absurd cc
    by (false ∷ rest) eq h = absurd cc
    by (true ∷ rest) eq h = record { rest = rest; stands = eq; breaks = bands_breaks k.style k.layer 0 k.bands rest (all_trees k.bands b) (inner (scan_bands k.style k.layer 0 k.bands rest) h) }

-- ---- what `read_header` answers
-- the bits were read, by a reader of these bytes
pub record WasRead (bytes : List ℕ) (k : State) (r : Reading) (parts : List HeaderPart) (after : State) : Type 0 where
  pub scanned : scan_header k (bits_of bytes).bits ≡ Ok (header_is parts after (to_come r))
  pub kept : frame r ≡ frame (start_of bytes)

pub packet_ok : (bytes : List ℕ) (k : State) (r : Reading) (parts : List HeaderPart) (after : State) (used : ℕ) → AreBands k.bands → WasRead bytes k r parts after → end_of r ≡ Ok used → IsPacket bytes k parts used after
packet_ok bytes k r parts after used b w ends =
    let g = header_read k (bits_of bytes).bits (header_is parts after (to_come r)) b w.scanned in
    record {
      header = g.header;
      is = g.is;
      rest = to_come r;
      stands = g.stands;
      ends = sym (finish_is bytes r (header_bits k g.header) w.kept g.stands) ∙ ends;
      parts_are = g.parts_are;
      after_is = g.after_is;
    }

-- a packet that stands there was read
pub record SameRead (bytes : List ℕ) (k : State) (r : Reading) (parts others : List HeaderPart) (after others_after : State) (used : ℕ) : Type 0 where
  pub parts_are : parts ≡ others
  pub after_is : after ≡ others_after
  pub ends : end_of r ≡ Ok used

pub packet_only : (bytes : List ℕ) (k : State) (r : Reading) (parts others : List HeaderPart) (after others_after : State) (used : ℕ) → AreBands k.bands → WasRead bytes k r parts after → IsPacket bytes k others used others_after →
    SameRead bytes k r parts others after others_after used
packet_only bytes k r parts others after others_after used b w p =
    let one : Ok (header_is parts after (to_come r)) ≡ Ok (header_is (header_parts p.header) (header_after k p.header) p.rest) =
    sym w.scanned ∙ ap (scan_header k) p.stands ∙ header_made k p.header p.rest b p.is in
    let same : header_is parts after (to_come r) ≡ header_is (header_parts p.header) (header_after k p.header) p.rest = cc in
    let rests : p.rest ≡ to_come r = sym (ap (λ (x : HeaderRead). x.rest) same) in
    record {
      parts_are = ap (λ (x : HeaderRead). x.parts) same ∙ sym p.parts_are;
      after_is = ap (λ (x : HeaderRead). x.after) same ∙ sym p.after_is;
      ends = finish_is bytes r (header_bits k p.header) w.kept (p.stands ∙ ap (λ (l : List Bool). header_bits k p.header ++ l) rests) ∙ p.ends;
    }

-- where nothing was read, no packet stands there
pub packet_none : (bytes : List ℕ) (k : State) (f : HeadFault) (parts : List HeaderPart) (after : State) (used : ℕ) → AreBands k.bands → scan_header k (bits_of bytes).bits ≡ Err f → IsPacket bytes k parts used after → ⊥
packet_none bytes k f parts after used b h p =
    let one : Ok (header_is (header_parts p.header) (header_after k p.header) p.rest) ≡ Err f = sym (header_made k p.header p.rest b p.is) ∙ sym (ap (scan_header k) p.stands) ∙ h in
    cc

-- ---- refusals
pub refuse_cause : (f : HeadFault) (bytes : List ℕ) (k : State) → AreBands k.bands → Refuses f (scan_header k (bits_of bytes).bits) → HasCause f bytes k
refuse_cause Bits bytes k b h = (
  λ (x : BreaksPlanes bytes k). (let e : Err Bits ≡ Err Planes = sym h ∙ header_over bytes k b x in cc),
  λ (parts : List HeaderPart) (used : ℕ) (after : State) (p : IsPacket bytes k parts used after). packet_none bytes k Bits parts after used b h p,
)
refuse_cause Planes bytes k b h = header_breaks bytes k b h
refuse_cause NoMemory bytes k b h = tt

pub refuse_only : (f : HeadFault) (bytes : List ℕ) (k : State) (parts : List HeaderPart) (used : ℕ) (after : State) → AreBands k.bands → Refuses f (scan_header k (bits_of bytes).bits) → IsPacket bytes k parts used after → OnlyMemory f
refuse_only Bits bytes k parts used after b h p = absurd (packet_none bytes k Bits parts after used b h p)
refuse_only Planes bytes k parts used after b h p = absurd (packet_none bytes k Planes parts after used b h p)
refuse_only NoMemory bytes k parts used after b h p = tt

pub refuse_planes : (f : HeadFault) (bytes : List ℕ) (k : State) → AreBands k.bands → Refuses f (scan_header k (bits_of bytes).bits) → BreaksPlanes bytes k → OnlyPlanes f
refuse_planes Bits bytes k b h x = absurd (let e : Err Bits ≡ Err Planes = sym h ∙ header_over bytes k b x in cc)
refuse_planes Planes bytes k b h x = tt
refuse_planes NoMemory bytes k b h x = tt

-- where bits were read, no block breaks its planes
pub read_planes : (bytes : List ℕ) (k : State) (r : Reading) (parts : List HeaderPart) (after : State) → AreBands k.bands → WasRead bytes k r parts after → BreaksPlanes bytes k → ⊥
read_planes bytes k r parts after b w x =
    let e : Ok (header_is parts after (to_come r)) ≡ Err Planes = sym w.scanned ∙ header_over bytes k b x in
    cc

-- where its last byte is missing, no header stands there
pub end_cause : (bytes : List ℕ) (k : State) (r : Reading) (parts : List HeaderPart) (after : State) (e : BitFault) → AreBands k.bands → WasRead bytes k r parts after → end_of r ≡ Err e → HasCause Bits bytes k
end_cause bytes k r parts after e b w ends = (
  λ (x : BreaksPlanes bytes k). read_planes bytes k r parts after b w x,
  λ (others : List HeaderPart) (used : ℕ) (others_after : State) (p : IsPacket bytes k others used others_after). (
      let s = packet_only bytes k r parts others after others_after used b w p in
      let f : Err e ≡ Ok used = sym ends ∙ s.ends in
      cc),
)

-- the bits of bytes are all there at first
pub was_read : (bytes : List ℕ) (k : State) (r : Reading) (parts : List HeaderPart) (after : State) (new : List HeaderPart) →
    scan_header k (to_come (start_of bytes)) ≡ Ok (header_is parts after (to_come r)) → new ≡ [] ++ parts → frame r ≡ frame (start_of bytes) → WasRead bytes k r new after
was_read bytes k r parts after new h is kept = record { scanned = h ∙ ap (λ (l : List HeaderPart). Ok (header_is l after (to_come r))) (sym is); kept = kept }

-- the same of a call, whose state is seen by its view
pub read_by : (bytes : List ℕ) (inner k : State) (start r : Reading) (old new : List HeaderPart) (after : State) → inner ≡ k → start ≡ start_of bytes → old ≡ [] →
    HeaderSaid (scan_header inner (to_come start)) old new after (to_come r) → frame r ≡ frame start → WasRead bytes k r new after
read_by bytes inner k start r old new after view begun none said kept =
    was_read bytes k r said.parts after new
    (ap (λ (s : State). scan_header s (to_come (start_of bytes))) (sym view) ∙ ap (λ (x : Reading). scan_header inner (to_come x)) (sym begun) ∙ said.is)
    (said.new_is ∙ ap (λ (l : List HeaderPart). l ++ said.parts) none) (kept ∙ ap frame begun)

-- ---- one reading
-- a written header stands at the front of its bytes
pub stands_there : (k : State) (h : Header) (rest : List ℕ) → IsToldOf k h → IsPacket (bytes_of (header_bits k h) ++ rest) k (header_parts h) (length (bytes_of (header_bits k h))) (header_after k h)
stands_there k h rest is =
    let b = read_back (header_bits k h) rest in
    record { header = h; is = is; rest = b.more; stands = b.first; ends = b.end; parts_are = refl; after_is = refl }

-- two headers at the front of the same bytes are one
pub one_header : (bytes : List ℕ) (k : State) (parts others : List HeaderPart) (used ends : ℕ) (after others_after : State) → AreBands k.bands → IsPacket bytes k parts used after → IsPacket bytes k others ends others_after →
    OneHeader parts others after others_after used ends
one_header bytes k parts others used ends after others_after b p q =
    let one : Ok (header_is (header_parts p.header) (header_after k p.header) p.rest) ≡ Ok (header_is (header_parts q.header) (header_after k q.header) q.rest) =
    sym (header_made k p.header p.rest b p.is) ∙ sym (ap (scan_header k) p.stands) ∙ ap (scan_header k) q.stands ∙ header_made k q.header q.rest b q.is in
    let same : header_is (header_parts p.header) (header_after k p.header) p.rest ≡ header_is (header_parts q.header) (header_after k q.header) q.rest = cc in
    let whole : header_bits k p.header ++ p.rest ≡ header_bits k q.header ++ q.rest = sym p.stands ∙ q.stands in
    let rests : p.rest ≡ q.rest = ap (λ (x : HeaderRead). x.rest) same in
    let bits : header_bits k p.header ≡ header_bits k q.header = append_cancel_right (header_bits k p.header) (header_bits k q.header) p.rest (whole ∙ ap (λ (l : List Bool). header_bits k q.header ++ l) (sym rests)) in
    let both : Ok used ≡ Ok ends = sym p.ends ∙ ap (λ (l : List Bool). end_after bytes (length l)) bits ∙ q.ends in
    record {
      parts_are = p.parts_are ∙ ap (λ (x : HeaderRead). x.parts) same ∙ sym q.parts_are;
      used_is = cc;
      after_is = p.after_is ∙ ap (λ (x : HeaderRead). x.after) same ∙ sym q.after_is;
    }

-- where a block breaks its planes, no header stands
pub planes_or_packet : (bytes : List ℕ) (k : State) (parts : List HeaderPart) (used : ℕ) (after : State) → AreBands k.bands → BreaksPlanes bytes k → IsPacket bytes k parts used after → ⊥
planes_or_packet bytes k parts used after b x p = packet_none bytes k Planes parts after used b (header_over bytes k b x) p

-- what is written has one reading
pub written_one : (k : State) (h : Header) (rest : List ℕ) → IsState k → IsToldOf k h →
    IsOneReading (bytes_of (header_bits k h) ++ rest) k (header_parts h) (length (bytes_of (header_bits k h))) (header_after k h)
written_one k h rest is told =
    let stands = stands_there k h rest told in
    record {
      stands = stands;
      only = λ others ends others_after p.
          one_header (bytes_of (header_bits k h) ++ rest) k others (header_parts h) ends (length (bytes_of (header_bits k h))) others_after (header_after k h) is.bands p stands;
    }

-- the values agree with the state after
pub header_agrees_after : (k : State) (h : Header) → IsState k → IsToldOf k h → h.some ≡ true → AgreeAfter k.layer k.bands h.tolds
header_agrees_after k h is told some =
    bands_agree k.style k.layer 0 k.bands h.tolds (all_trees k.bands is.bands)
    (subst (λ (b : Bool). MatchBool b (AreBandsTold k.style k.layer 0 k.bands h.tolds) (h.tolds ≡ [])) some told)
