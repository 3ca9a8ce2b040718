-- The pieces of one block: those of one packet, and those of packets one after another.
use Rattle.std.proofs.Common.{◌≡◌, ℕ, ◌+◌, ◌-◌, ◌<◌, ◌≤◌, ◌==◌, min, Bool, true, false, List, [], ◌∷◌, ◌++◌, length, take, drop, filter, refl, sym, ap, ◌∙◌, subst, cond, arith, Some, None, inl, inr, ◌⊎◌, append-nil, length-take, length-drop}
use Rattle.std.specs.List.{AllByRecursion}
use Rattle.std.proofs.lemmas.Bool.{cases_eq, eq-eqb, ne_eqb}
use Rattle.std.proofs.lemmas.List.{take-take, drop-take, map-append}
use Rattle.std.proofs.lemmas.List.Sums.{sum_by-cons, sum_by-append}
use Rattle.std.proofs.lemmas.Option.{same_Some, none-some}
use Rattle.jx_base.specs.Markers.{HasNoMarker}
use Rattle.jx_base.specs.Pieces.{PieceValue, ArePieces, IsInOneSegment, bytes_in}
use Rattle.jx_geom.specs.Geometry.{Geometry}
use Rattle.jx_packet_header.specs.declared.HeaderPart.{HeaderPart}
use Rattle.jx_packet_header.specs.declared.known.Known.{Known}
use Rattle.jx_packet_header.specs.Packet.{State, most_passes}
use Rattle.jx_progression.specs.declared.names.PacketName.{PacketName}
use Rattle.jx_geom.specs.Precincts.{leaf_number}
use Rattle.jx_tier2_reader.specs.Data.{parts_length, marks_fault}
use Rattle.jx_tier2_reader.specs.Blocks.{FoundPiece, zero_in, founds_from, own_founds, pieces_in, passes_in, zero_from}
use Rattle.jx_tier2_reader.proofs.PartLemmas.{own_parts, AreSteps, Goes}
use Rattle.jx_tier2_reader.proofs.MarkLemmas.{mark_here, marks_later}
use Rattle.jx_base.proofs.PieceLemmas.{pieces_lower}

pub pieces_join : (style low layer first mid last : ℕ) (ps qs : List PieceValue) → low ≤ layer → AllByRecursion (λ (p : PieceValue). p.layer ≤ layer) ps → ArePieces style low first mid ps → ArePieces style layer mid last qs →
    ArePieces style low first last (ps ++ qs)
pieces_join style low layer first mid last [] qs le top a b = subst (λ (n : ℕ). ArePieces style low n last qs) (sym a) (pieces_lower style low layer mid last qs le b)
pieces_join style low layer first mid last (p ∷ ps) qs le top a b = (a.0, pieces_join style p.layer layer (first + p.passes) mid last ps qs top.0 top.1 a.1 b)

-- how many passes they have
pub pieces_sum : (style layer first last : ℕ) (own : List FoundPiece) → ArePieces style layer first last (pieces_in own) → first + passes_in own ≡ last
pieces_sum style layer first last [] are = (let e : first ≡ last = are in omega arith)
pieces_sum style layer first last (f ∷ own) are =
    let again : first + f.piece.passes + passes_in own ≡ last = pieces_sum style f.piece.layer (first + f.piece.passes) last own are.1 in
    let c : passes_in (f ∷ own) ≡ f.piece.passes + passes_in own = sum_by-cons (λ (x : FoundPiece). x.piece.passes) f own in
    omega arith

-- ---- the pieces of one packet
-- a packet's pieces of a block are those of its parts
abbrev Matches : ℕ → ℕ → List HeaderPart → List FoundPiece → Type 0
Matches layer z [] [] = Unit {0}
Matches layer z [] (f ∷ fs) = ⊥
Matches layer z (q ∷ qs) [] = ⊥
Matches layer z (q ∷ qs) (f ∷ fs) =
    (f.zero ≡ z) × (f.piece.layer ≡ layer) × (f.piece.first ≡ q.first) × (f.piece.passes ≡ q.passes) × HasNoMarker 0 f.piece.bytes × Matches layer z qs fs

matches_pieces : (style layer z first last : ℕ) (qs : List HeaderPart) (fs : List FoundPiece) → Matches layer z qs fs → AreSteps style first last qs → ArePieces style layer first last (pieces_in fs)
matches_pieces style layer z first last [] [] m a = a
matches_pieces style layer z first last [] (f ∷ fs) m a = absurd m
matches_pieces style layer z first last (q ∷ qs) [] m a = absurd m
matches_pieces style layer z first last (q ∷ qs) (f ∷ fs) m a =
    let at : f.piece.layer ≡ layer = m.1 in
    let begins : f.piece.first ≡ q.first = m.2 in
    let has : f.piece.passes ≡ q.passes = m.3 in
    let some : 1 ≤ q.passes = a.0.some in
    let later : ArePieces style layer (first + q.passes) last (pieces_in fs) = matches_pieces style layer z (first + q.passes) last qs fs m.5 a.1 in (
      record {
        layers = omega arith;
        begins = begins ∙ a.0.begins;
        some = omega arith;
        segment = subst (λ (n : ℕ). IsInOneSegment style n f.piece.passes) (sym begins) (subst (λ (n : ℕ). IsInOneSegment style q.first n) (sym has) a.0.segment);
        markers = m.4;
      },
      subst (λ (l : ℕ). ArePieces style l (first + f.piece.passes) last (pieces_in fs)) (sym at)
          (subst (λ (n : ℕ). ArePieces style layer (first + n) last (pieces_in fs)) (sym has) later),
    )

matches_top : (layer z : ℕ) (qs : List HeaderPart) (fs : List FoundPiece) → Matches layer z qs fs → AllByRecursion (λ (p : PieceValue). p.layer ≤ layer) (pieces_in fs)
matches_top layer z [] [] m = tt
matches_top layer z [] (f ∷ fs) m = absurd m
matches_top layer z (q ∷ qs) [] m = absurd m
matches_top layer z (q ∷ qs) (f ∷ fs) m = ((let at : f.piece.layer ≡ layer = m.1 in omega arith), matches_top layer z qs fs m.5)

matches_zero : (planes layer z : ℕ) (qs : List HeaderPart) (fs : List FoundPiece) → Matches layer z qs fs → (qs ≡ [] → ⊥) → zero_from planes fs ≡ z
matches_zero planes layer z [] fs m some = absurd (some refl)
matches_zero planes layer z (q ∷ qs) [] m some = absurd m
matches_zero planes layer z (q ∷ qs) (f ∷ fs) m some = m.0

matches_none : (layer z : ℕ) (fs : List FoundPiece) → Matches layer z [] fs → fs ≡ []
matches_none layer z [] m = refl
matches_none layer z (f ∷ fs) m = absurd m

-- parts of other blocks have other numbers
abbrev pub Apart : Geometry → PacketName → ℕ → ℕ → List HeaderPart → Type 0
Apart g p number j parts = AllByRecursion (λ (q : HeaderPart). leaf_number g p.comp p.res p.precinct q.block ≡ number → q.block ≡ j) parts

same_test : (m n i j : ℕ) → (m ≡ n → i ≡ j) → (i ≡ j → m ≡ n) → (m == n) ≡ (i == j)
same_test m n i j to from = by (cases_eq i j)
  where
    by : (i ≡ j) ⊎ (i ≡ j → ⊥) → (m == n) ≡ (i == j)
    by (inl e) = eq-eqb m n (from e) ∙ sym (eq-eqb i j e)
    by (inr ne) = ne_eqb m n (λ (e : m ≡ n). ne (to e)) ∙ sym (ne_eqb i j ne)

-- the piece of the first part of some bytes
abbrev piece_from : Geometry → PacketName → State → List ℕ → HeaderPart → FoundPiece
piece_from g p k bytes q = record {
  number = leaf_number g p.comp p.res p.precinct q.block;
  zero = zero_in k q.block;
  piece = record { layer = p.layer; first = q.first; passes = q.passes; bytes = take q.length bytes };
}

-- those of some pieces that have this number, after a piece that has it or hasn't
abbrev Picked : ℕ → ℕ → List HeaderPart → List FoundPiece → HeaderPart → FoundPiece → Bool → Bool → Type 0
Picked layer z qs fs q f c d = Matches layer z (cond c (q ∷ qs) qs) (cond d (f ∷ fs) fs)

matched : (g : Geometry) (p : PacketName) (k : State) (j at : ℕ) (bytes : List ℕ) (parts : List HeaderPart) → Apart g p (leaf_number g p.comp p.res p.precinct j) j parts → marks_fault at bytes parts ≡ None →
    Matches p.layer (zero_in k j) (own_parts j parts) (own_founds (leaf_number g p.comp p.res p.precinct j) (founds_from g p k (take (parts_length parts) bytes) parts))
unfolding own_founds
matched g p k j at bytes [] apart h = tt
matched g p k j at bytes (q ∷ parts) apart h =
    let number : ℕ = leaf_number g p.comp p.res p.precinct j in
    let whole : List ℕ = take (parts_length (q ∷ parts)) bytes in
    let here : FoundPiece = piece_from g p k whole q in
    let sum : parts_length (q ∷ parts) ≡ q.length + parts_length parts = sum_by-cons (λ (x : HeaderPart). x.length) q parts in
    let tests : (leaf_number g p.comp p.res p.precinct q.block == number) ≡ (q.block == j) =
    same_test (leaf_number g p.comp p.res p.precinct q.block) number q.block j apart.0 (λ (e : q.block ≡ j). ap (leaf_number g p.comp p.res p.precinct) e) in
    let behind : drop q.length whole ≡ take (parts_length parts) (drop q.length bytes) = ap (λ (n : ℕ). drop q.length (take n bytes)) sum ∙ drop-take q.length (parts_length parts) bytes in
    let front : take q.length whole ≡ take q.length bytes = take-take q.length (parts_length (q ∷ parts)) bytes (omega arith) in
    let clean : HasNoMarker 0 (take q.length whole) = subst (λ (l : List ℕ). HasNoMarker 0 l) (sym front) (mark_here at bytes q parts h) in
    subst (λ (l : List ℕ). Picked p.layer (zero_in k j) (own_parts j parts) (own_founds number (founds_from g p k l parts)) q here (q.block == j) (leaf_number g p.comp p.res p.precinct q.block == number)) (sym behind)
    (subst (λ (b : Bool). Picked p.layer (zero_in k j) (own_parts j parts) (own_founds number (founds_from g p k (take (parts_length parts) (drop q.length bytes)) parts)) q here (q.block == j) b) (sym tests)
    (by (own_founds number (founds_from g p k (take (parts_length parts) (drop q.length bytes)) parts)) (cases_eq q.block j) clean (matched g p k j (at + q.length) (drop q.length bytes) parts apart.1 (marks_later at bytes q parts h))))
  where
    by : (later : List FoundPiece) → (q.block ≡ j) ⊎ (q.block ≡ j → ⊥) → HasNoMarker 0 (take q.length (take (parts_length (q ∷ parts)) bytes)) → Matches p.layer (zero_in k j) (own_parts j parts) later →
        Picked p.layer (zero_in k j) (own_parts j parts) later q (piece_from g p k (take (parts_length (q ∷ parts)) bytes) q) (q.block == j) (q.block == j)
    by later (inl e) clean again =
        subst (λ (b : Bool). Picked p.layer (zero_in k j) (own_parts j parts) later q (piece_from g p k (take (parts_length (q ∷ parts)) bytes) q) b b) (sym (eq-eqb q.block j e))
        (ap (zero_in k) e, refl, refl, refl, clean, again)
    by later (inr ne) clean again =
        subst (λ (b : Bool). Picked p.layer (zero_in k j) (own_parts j parts) later q (piece_from g p k (take (parts_length (q ∷ parts)) bytes) q) b b) (sym (ne_eqb q.block j ne)) again

-- none of another block
abbrev pub Elsewhere : Geometry → PacketName → ℕ → List HeaderPart → Type 0
Elsewhere g p number parts = AllByRecursion (λ (q : HeaderPart). leaf_number g p.comp p.res p.precinct q.block ≡ number → ⊥) parts

pub own_elsewhere : (g : Geometry) (p : PacketName) (k : State) (number : ℕ) (bytes : List ℕ) (parts : List HeaderPart) → Elsewhere g p number parts → own_founds number (founds_from g p k bytes parts) ≡ []
unfolding own_founds
own_elsewhere g p k number bytes [] e = refl
own_elsewhere g p k number bytes (q ∷ parts) e =
    let later = founds_from g p k (drop q.length bytes) parts in
    let test : FoundPiece → Bool = λ (f : FoundPiece). f.number == number in
    ap (λ (b : Bool). cond b (piece_from g p k bytes q ∷ filter test later) (filter test later)) (ne_eqb (leaf_number g p.comp p.res p.precinct q.block) number e.0)
    ∙ own_elsewhere g p k number (drop q.length bytes) parts e.1

-- ---- a block over packets
pub record Gained (style planes layer : ℕ) (own : List FoundPiece) (old new : Known) : Type 0 where
  pub z : ℕ
  pub below : z < planes
  pub was : (old.zero ≡ None) ⊎ (old.zero ≡ Some z)
  pub is : new.zero ≡ Some z
  pub few : new.passes ≤ most_passes planes z
  pub told : zero_from planes own ≡ z
  pub pieces : ArePieces style layer old.passes new.passes (pieces_in own)

-- it has got no piece, or these
abbrev pub Grows : ℕ → ℕ → ℕ → List FoundPiece → Known → Known → Type 0
Grows style planes layer own old new = ((own ≡ []) × (new ≡ old)) ⊎ Gained style planes layer own old new

abbrev pub HaveTop : ℕ → List FoundPiece → Type 0
HaveTop layer own = AllByRecursion (λ (p : PieceValue). p.layer ≤ layer) (pieces_in own)

-- by one packet
pub packet_grows : (g : Geometry) (p : PacketName) (style planes j at : ℕ) (k : State) (old new : Known) (bytes : List ℕ) (parts : List HeaderPart) →
    Apart g p (leaf_number g p.comp p.res p.precinct j) j parts → marks_fault at bytes parts ≡ None → Goes style planes (own_parts j parts) old new → ((z : ℕ) → new.zero ≡ Some z → zero_in k j ≡ z) →
    Grows style planes p.layer (own_founds (leaf_number g p.comp p.res p.precinct j) (founds_from g p k (take (parts_length parts) bytes) parts)) old new
    × HaveTop p.layer (own_founds (leaf_number g p.comp p.res p.precinct j) (founds_from g p k (take (parts_length parts) bytes) parts))
packet_grows g p style planes j at k old new bytes parts apart marks goes told = (
  by goes (matched g p k j at bytes parts apart marks),
  matches_top p.layer (zero_in k j) (own_parts j parts) (own_founds (leaf_number g p.comp p.res p.precinct j) (founds_from g p k (take (parts_length parts) bytes) parts)) (matched g p k j at bytes parts apart marks),
)
  where
    by : Goes style planes (own_parts j parts) old new →
        Matches p.layer (zero_in k j) (own_parts j parts) (own_founds (leaf_number g p.comp p.res p.precinct j) (founds_from g p k (take (parts_length parts) bytes) parts)) →
        Grows style planes p.layer (own_founds (leaf_number g p.comp p.res p.precinct j) (founds_from g p k (take (parts_length parts) bytes) parts)) old new
    by (inl n) m =
        let own = own_founds (leaf_number g p.comp p.res p.precinct j) (founds_from g p k (take (parts_length parts) bytes) parts) in
        inl (matches_none p.layer (zero_in k j) own (subst (λ (l : List HeaderPart). Matches p.layer (zero_in k j) l own) n.0 m), n.1)
    by (inr i) m =
        let own = own_founds (leaf_number g p.comp p.res p.precinct j) (founds_from g p k (take (parts_length parts) bytes) parts) in
        let more : old.passes < new.passes = i.some in
        let some : own_parts j parts ≡ [] → ⊥ = λ (e : own_parts j parts ≡ []).
        (let same : old.passes ≡ new.passes = subst (λ (l : List HeaderPart). AreSteps style old.passes new.passes l) e i.steps in omega arith) in
        inr (record {
          z = i.z;
          below = i.below;
          was = i.was;
          is = i.is;
          few = i.few;
          told = matches_zero planes p.layer (zero_in k j) (own_parts j parts) own m some ∙ told i.z i.is;
          pieces = matches_pieces style p.layer (zero_in k j) old.passes new.passes (own_parts j parts) own m i.steps;
        })

-- by no piece, and by more
pub grows_lower : (style planes low layer : ℕ) (own : List FoundPiece) (old new : Known) → low ≤ layer → Grows style planes layer own old new → Grows style planes low own old new
grows_lower style planes low layer own old new le (inl n) = inl n
grows_lower style planes low layer own old new le (inr i) = inr (record {
  z = i.z;
  below = i.below;
  was = i.was;
  is = i.is;
  few = i.few;
  told = i.told;
  pieces = pieces_lower style low layer old.passes new.passes (pieces_in own) le i.pieces;
})

zero_left : (planes z : ℕ) (own more : List FoundPiece) → zero_from planes own ≡ z → z < planes → zero_from planes (own ++ more) ≡ z
zero_left planes z [] more e lt = absurd (let e' : planes ≡ z = e in omega arith)
zero_left planes z (f ∷ own) more e lt = e

pub grows_join : (style planes low layer : ℕ) (own more : List FoundPiece) (old mid new : Known) → low ≤ layer → HaveTop layer own → Grows style planes low own old mid → Grows style planes layer more mid new →
    Grows style planes low (own ++ more) old new
grows_join style planes low layer own more old mid new le top (inl n) g =
    subst (λ (l : List FoundPiece). Grows style planes low (l ++ more) old new) (sym n.0) (subst (λ (k : Known). Grows style planes low more k new) n.1 (grows_lower style planes low layer more mid new le g))
grows_join style planes low layer own more old mid new le top (inr i) (inl n) =
    subst (λ (l : List FoundPiece). Grows style planes low (own ++ l) old new) (sym n.0)
    (subst (λ (l : List FoundPiece). Grows style planes low l old new) (sym (append-nil own))
    (subst (λ (k : Known). Grows style planes low own old k) (sym n.1) (inr i)))
grows_join style planes low layer own more old mid new le top (inr i) (inr n) =
    let same : i.z ≡ n.z = one n.was in
    inr (record {
      z = n.z;
      below = n.below;
      was = subst (λ (z : ℕ). (old.zero ≡ None) ⊎ (old.zero ≡ Some z)) same i.was;
      is = n.is;
      few = n.few;
      told = zero_left planes i.z own more i.told i.below ∙ same;
      pieces = subst (λ (l : List PieceValue). ArePieces style low old.passes new.passes l) (sym (map-append (λ (f : FoundPiece). f.piece) own more))
          (pieces_join style low layer old.passes mid.passes new.passes (pieces_in own) (pieces_in more) le top i.pieces n.pieces);
    })
  where
    one : (mid.zero ≡ None) ⊎ (mid.zero ≡ Some n.z) → i.z ≡ n.z
    one (inl e) = absurd (none-some i.z (sym e ∙ i.is))
    one (inr e) = same_Some i.z n.z (sym i.is ∙ e)

-- ---- how many bytes pieces have
bytes_cons : (f : FoundPiece) (fs : List FoundPiece) → bytes_in (pieces_in (f ∷ fs)) ≡ length f.piece.bytes + bytes_in (pieces_in fs)
bytes_cons f fs = sum_by-cons (λ (p : PieceValue). length p.bytes) f.piece (pieces_in fs)

pub bytes_join : (fs gs : List FoundPiece) → bytes_in (pieces_in (fs ++ gs)) ≡ bytes_in (pieces_in fs) + bytes_in (pieces_in gs)
bytes_join fs gs =
    ap (λ (l : List PieceValue). bytes_in l) (map-append (λ (f : FoundPiece). f.piece) fs gs) ∙ sum_by-append (λ (p : PieceValue). length p.bytes) (pieces_in fs) (pieces_in gs)

pub bytes_own : (number : ℕ) (fs : List FoundPiece) → bytes_in (pieces_in (own_founds number fs)) ≤ bytes_in (pieces_in fs)
unfolding own_founds
bytes_own number [] = omega arith
bytes_own number (f ∷ fs) =
    let c : bytes_in (pieces_in (f ∷ fs)) ≡ length f.piece.bytes + bytes_in (pieces_in fs) = bytes_cons f fs in
    let l : bytes_in (pieces_in (cond (f.number == number) (f ∷ filter (λ (x : FoundPiece). x.number == number) fs) (filter (λ (x : FoundPiece). x.number == number) fs))) ≤ length f.piece.bytes + bytes_in (pieces_in fs) =
    by (f.number == number) (bytes_own number fs) in
    omega arith
  where
    by : (b : Bool) → bytes_in (pieces_in (filter (λ (x : FoundPiece). x.number == number) fs)) ≤ bytes_in (pieces_in fs) →
        bytes_in (pieces_in (cond b (f ∷ filter (λ (x : FoundPiece). x.number == number) fs) (filter (λ (x : FoundPiece). x.number == number) fs))) ≤ length f.piece.bytes + bytes_in (pieces_in fs)
    by true h =
        let own : List FoundPiece = filter (λ (x : FoundPiece). x.number == number) fs in
        let c : bytes_in (pieces_in (f ∷ own)) ≡ length f.piece.bytes + bytes_in (pieces_in own) = bytes_cons f own in
        let h' : bytes_in (pieces_in own) ≤ bytes_in (pieces_in fs) = h in
        omega arith
    by false h = omega arith

pub bytes_from : (g : Geometry) (p : PacketName) (k : State) (bytes : List ℕ) (parts : List HeaderPart) → bytes_in (pieces_in (founds_from g p k bytes parts)) ≤ length bytes
bytes_from g p k bytes [] = omega arith
bytes_from g p k bytes (q ∷ parts) =
    let later : List FoundPiece = founds_from g p k (drop q.length bytes) parts in
    let c : bytes_in (pieces_in (piece_from g p k bytes q ∷ later)) ≡ length (take q.length bytes) + bytes_in (pieces_in later) = bytes_cons (piece_from g p k bytes q) later in
    let again : bytes_in (pieces_in later) ≤ length (drop q.length bytes) = bytes_from g p k (drop q.length bytes) parts in
    let t : length (take q.length bytes) ≡ min q.length (length bytes) = length-take q.length bytes in
    let d : length (drop q.length bytes) ≡ length bytes - q.length = length-drop q.length bytes in
    omega arith
