-- A packet that is written stands in front of what follows it: its marks, header and coded bytes are told apart again.
use Rattle.std.proofs.Common.{◌≡◌, ℕ, zero, suc, ◌+◌, ◌%◌, ◌<◌, ◌≤◌, ◌==◌, ◌&&◌, nat_lt, Bool, true, false, List, [], ◌∷◌, ◌++◌, length, take, drop, refl, sym, ap, ◌∙◌, subst, cond, arith, Some, None, inl, inr, find, slice_index, append_assoc, append-nil, length-append, length-drop, Ok}
use Rattle.std.specs.List.{range_with_len}
use Rattle.std.proofs.lemmas.Bool.{cases_eq}
use Rattle.std.proofs.lemmas.Bool.Decides.{nat_tests}
use Rattle.std.proofs.lemmas.List.{take-append-le, drop-append-le}
use Rattle.std.proofs.lemmas.List.Sums.{sum_by-cons}
use Rattle.std.proofs.Math.Seq.{take-append_seam, drop-append_seam}
use Rattle.jx_base.specs.Markers.{HasNoMarker}
use Rattle.jx_tagtree.specs.Header.{bits_of, end_after}
use Rattle.jx_tagtree.proofs.LawLemmas.{ends_at, clean_pair}
use Rattle.jx_packet_header.specs.declared.HeaderPart.{HeaderPart}
use Rattle.jx_packet_header.specs.Packet.{State, IsPacket, header_bits, bands_bits}
use Rattle.jx_progression.specs.declared.names.PacketName.{PacketName}
use Rattle.jx_tier2_reader.specs.Data.{begins_with, has_sop, sop_fault, sop_length, eph_length, header_in, front_length, parts_length, is_marked, first_mark, marks_fault, body_fault, number_at}
use Rattle.jx_tier2_reader.specs.Cuts.{Cut, IsCut}
use Rattle.jx_tier2_reader.specs.Written.{WrittenPacket, sop_bytes, packet_bytes, AreClear}
use Rattle.jx_tier2_reader.proofs.MarkLemmas.{later_mark}
use Rattle.jx_marker.specs.Codes.{SOP, EPH, eph_spelling}

-- ---- headers
-- a header has a byte, and no marker stands in front of it
abbrev pub StartsClear : List ℕ → Type 0
StartsClear [] = ⊥
StartsClear (byte ∷ []) = byte ≡ 255 → ⊥
StartsClear (byte ∷ next ∷ more) = byte ≡ 255 → next < 128

starts_clear : (h : List ℕ) (n : ℕ) → 0 < n → n ≤ length (bits_of h).bits → end_after h n ≡ Ok (length h) → StartsClear h
starts_clear [] n some few ends = absurd (omega arith)
starts_clear (byte ∷ []) n some few ends = λ e. (ends_at (byte ∷ []) n 1 few ends).last e
starts_clear (byte ∷ next ∷ more) n some few ends =
    λ e. clean_pair 0 (take (suc (suc (length more))) (byte ∷ next ∷ more)) (ends_at (byte ∷ next ∷ more) n (suc (suc (length more))) few ends).clean 0 e

some_bit : (c : Bool) (bits : List Bool) → 0 < length {A = Bool} (cond c (true ∷ bits) (false ∷ []))
some_bit true bits = omega arith
some_bit false bits = omega arith

header_clear : (h : List ℕ) (k : State) (parts : List HeaderPart) (after : State) → IsPacket h k parts (length h) after → StartsClear h
header_clear h k parts after p =
    let some : 0 < length (header_bits k p.header) = some_bit p.header.some (bands_bits k.layer k.bands p.header.tolds) in
    let few : length (header_bits k p.header) ≤ length (bits_of h).bits = omega (arith, ap length p.stands, length-append (header_bits k p.header) p.rest) in
    starts_clear h (length (header_bits k p.header)) some few p.ends

pub header_starts : (h : List ℕ) (k : State) (parts : List HeaderPart) (after : State) → ((rest : List ℕ) → IsPacket (h ++ rest) k parts (length h) after) → StartsClear h
header_starts h k parts after p = header_clear h k parts after (subst (λ (x : List ℕ). IsPacket x k parts (length h) after) (append-nil h) (p []))

pub starts_some : (h : List ℕ) → StartsClear h → 0 < length h
starts_some [] s = absurd s
starts_some (byte ∷ h) s = omega arith

-- ---- what stands in front isn't a marker
not_first : (byte next code : ℕ) → (byte ≡ 255 → ⊥) → ((byte == 255) && (next == code)) ≡ false
not_first byte next code ne = let e : (byte == 255) ≡ false = grind (arith, nat_tests, ne) in rw e refl

not_next : (byte next code most : ℕ) → (byte ≡ 255 → next ≤ most) → most < code → ((byte == 255) && (next == code)) ≡ false
not_next byte next code most low less = elim (cases_eq byte 255) [
  | inl e ↦
      let below : next ≤ most = low e in
      let other : (next == code) ≡ false = grind (arith, nat_tests) in
      let same : (byte == 255) ≡ true = grind (arith, nat_tests) in
      rw (other, same) refl
  | inr ne ↦ not_first byte next code ne
]

pub header_no_mark : (h tail : List ℕ) (code : ℕ) → StartsClear h → 128 ≤ code → begins_with (h ++ tail) code ≡ false
header_no_mark [] tail code s le = absurd s
header_no_mark (byte ∷ []) tail code s le = not_first byte (slice_index (byte ∷ tail) 1) code s
header_no_mark (byte ∷ next ∷ more) tail code s le = not_next byte next code 127 (λ e. (let lt : next < 128 = s e in omega arith)) (omega arith)

-- ---- coded bytes
-- no marker stands in front of the pieces
abbrev StartsPiece : List ℕ → Type 0
StartsPiece [] = Unit {0}
StartsPiece (byte ∷ []) = byte ≡ 255 → ⊥
StartsPiece (byte ∷ next ∷ more) = byte ≡ 255 → next ≤ 143

piece_starts : (m : ℕ) (bytes : List ℕ) → HasNoMarker 0 (take (suc m) bytes) → StartsPiece bytes
piece_starts m [] h = tt
piece_starts zero (byte ∷ []) h = h.1
piece_starts (suc m) (byte ∷ []) h = h.1
piece_starts zero (byte ∷ next ∷ more) h = λ e. absurd (h.1 e)
piece_starts (suc m) (byte ∷ next ∷ more) h = h.1.0

parts_sum : (p : HeaderPart) (parts : List HeaderPart) → parts_length (p ∷ parts) ≡ p.length + parts_length parts
parts_sum p parts = sum_by-cons (λ (q : HeaderPart). q.length) p parts

pieces_start : (parts : List HeaderPart) (bytes : List ℕ) → AreClear parts bytes → length bytes ≡ parts_length parts → StartsPiece bytes
pieces_start [] [] clear long = tt
pieces_start [] (byte ∷ bytes) clear long = absurd (omega (arith, long))
pieces_start (p ∷ parts) bytes clear long = by p.length refl (λ bs c l. pieces_start parts bs c l)
  where
    by : (m : ℕ) → p.length ≡ m → ((bs : List ℕ) → AreClear parts bs → length bs ≡ parts_length parts → StartsPiece bs) → StartsPiece bytes
    by zero e again =
        again bytes (subst (λ (n : ℕ). AreClear parts (drop n bytes)) e clear.1) (let sum : parts_length (p ∷ parts) ≡ p.length + parts_length parts = parts_sum p parts in omega arith)
    by (suc m) e again = piece_starts m bytes (subst (λ (n : ℕ). HasNoMarker 0 (take n bytes)) e clear.0)

piece_no_mark : (bytes rest : List ℕ) → StartsPiece bytes → begins_with rest EPH ≡ false → begins_with (bytes ++ rest) EPH ≡ false
piece_no_mark [] rest s none = none
piece_no_mark (byte ∷ []) rest s none = not_first byte (slice_index (byte ∷ rest) 1) EPH s
piece_no_mark (byte ∷ next ∷ more) rest s none = not_next byte next EPH 143 s (omega arith)

-- rule 30
none_found : (p : ℕ → Bool) (a n : ℕ) → ((i : ℕ) → i < n → p (a + i) ≡ false) → find p (range_with_len a n) ≡ None
none_found p a zero none = refl
none_found p a (suc n) none =
    let first : p a ≡ false = (let e : a + 0 ≡ a = omega arith in subst (λ (m : ℕ). p m ≡ false) e (none 0 (omega arith))) in
    ap (λ (b : Bool). cond b (Some a) (find p (range_with_len (a + 1) n))) first
    ∙ none_found p (a + 1) n (λ i lt. (let e : a + suc i ≡ a + 1 + i = omega arith in subst (λ (m : ℕ). p m ≡ false) e (none (suc i) (omega arith))))

not_marked : (before : ℕ) (bytes : List ℕ) → HasNoMarker before bytes → (i : ℕ) → i < length bytes → is_marked bytes i ≡ false
not_marked before [] h i lt = absurd (omega arith)
not_marked before (byte ∷ []) h zero lt = let e : (byte == 255) ≡ false = grind (arith, nat_tests, h.1) in rw e refl
not_marked before (byte ∷ []) h (suc i) lt = absurd (omega arith)
not_marked before (byte ∷ next ∷ rest) h zero lt = elim (cases_eq byte 255) [
  | inl e ↦
      let below : next ≤ 143 = h.1.0 e in
      let other : nat_lt 143 next ≡ false = grind (arith, nat_tests) in
      let inner : (1 == suc (suc (length rest))) ≡ false = grind (arith, nat_tests) in
      let same : (byte == 255) ≡ true = grind (arith, nat_tests) in
      rw (other, same, inner) refl
  | inr ne ↦ (let e : (byte == 255) ≡ false = grind (arith, nat_tests, ne) in rw e refl)
]
not_marked before (byte ∷ next ∷ rest) h (suc i) lt = later_mark byte (next ∷ rest) i ∙ not_marked byte (next ∷ rest) h.1 i (omega arith)

pub no_mark : (bytes : List ℕ) → HasNoMarker 0 bytes → first_mark bytes ≡ None
unfolding first_mark
no_mark bytes h =
    none_found (is_marked bytes) 0 (length bytes) (λ i lt. (let e : i ≡ 0 + i = omega arith in subst (λ (m : ℕ). is_marked bytes m ≡ false) e (not_marked 0 bytes h i lt)))

no_marks : (at : ℕ) (parts : List HeaderPart) (bytes rest : List ℕ) → AreClear parts bytes → parts_length parts ≤ length bytes → marks_fault at (bytes ++ rest) parts ≡ None
no_marks at [] bytes rest clear few = refl
no_marks at (p ∷ parts) bytes rest clear few =
    let sum : parts_length (p ∷ parts) ≡ p.length + parts_length parts = parts_sum p parts in
    let front : take p.length (bytes ++ rest) ≡ take p.length bytes = take-append-le p.length bytes rest (omega arith) in
    let back : drop p.length (bytes ++ rest) ≡ drop p.length bytes ++ rest = drop-append-le p.length bytes rest (omega arith) in
    let none : first_mark (take p.length (bytes ++ rest)) ≡ None = ap first_mark front ∙ no_mark (take p.length bytes) clear.0 in
    let later : marks_fault (at + p.length) (drop p.length (bytes ++ rest)) parts ≡ None =
    ap (λ (x : List ℕ). marks_fault (at + p.length) x parts) back ∙ no_marks (at + p.length) parts (drop p.length bytes) rest clear.1 (omega (arith, length-drop p.length bytes)) in
    rw (none, later) refl

-- ---- SOP
pub record Front (c : Bool) (number : ℕ) (tail w : List ℕ) : Type 0 where
  pub fault : sop_fault w 0 number ≡ None
  pub header : header_in None w ≡ tail
  pub length_is : sop_length w ≡ length {A = ℕ} (cond c (sop_bytes number) [])

two_bytes : (number : ℕ) → (number_at (sop_bytes number) 4 == number % 65536) ≡ true
two_bytes number = let e : number_at (sop_bytes number) 4 ≡ number % 65536 = omega arith in grind (arith, nat_tests)

sop_long : (n : ℕ) → nat_lt (suc (suc (suc (suc (suc (suc n)))))) 6 ≡ false
sop_long n = grind (arith, nat_tests)

front_is : (c : Bool) (number : ℕ) (tail : List ℕ) → has_sop tail ≡ false → Front c number tail (cond c (sop_bytes number) [] ++ tail)
unfolding sop_fault header_in
front_is true number tail none = record { fault = rw (sop_long (length tail), two_bytes number) refl; header = refl; length_is = refl }
front_is false number tail none = record { fault = rw none refl; header = rw none refl; length_is = rw none refl }

-- ---- EPH
eph_is : (c : Bool) (tail : List ℕ) → begins_with tail EPH ≡ false → eph_length (cond c eph_spelling [] ++ tail) ≡ length {A = ℕ} (cond c eph_spelling [])
eph_is true tail none = refl
eph_is false tail none = rw none refl

-- ---- the coded bytes d behind a SOP a, a header h and an EPH e
pub record Coded (w d : List ℕ) (used : ℕ) (parts : List HeaderPart) : Type 0 where
  pub none : body_fault None w 0 used parts ≡ None
  pub bytes : d ≡ take (parts_length parts) (drop (front_length None w used) w)

coded_is : (a h e d rest w : List ℕ) (used : ℕ) (parts : List HeaderPart) → w ≡ (a ++ (h ++ e)) ++ (d ++ rest) → front_length None w used ≡ length (a ++ (h ++ e)) → length d ≡ parts_length parts
    → AreClear parts d → Coded w d used parts
unfolding body_fault
coded_is a h e d rest w used parts is front long clear =
    let behind : drop (front_length None w used) w ≡ d ++ rest = ap (λ (n : ℕ). drop n w) front ∙ ap (drop (length (a ++ (h ++ e)))) is ∙ drop-append_seam (a ++ (h ++ e)) (d ++ rest) in
    let all : length w ≡ length (a ++ (h ++ e)) + length (d ++ rest) = ap length is ∙ length-append (a ++ (h ++ e)) (d ++ rest) in
    let rear : length (d ++ rest) ≡ length d + length rest = length-append d rest in
    let fits : nat_lt (length w) (front_length None w used + parts_length parts) ≡ false =
    (let le : front_length None w used + parts_length parts ≤ length w = omega arith in grind (arith, nat_tests)) in
    let marks : marks_fault (0 + front_length None w used) (drop (front_length None w used) w) parts ≡ None =
    ap (λ (x : List ℕ). marks_fault (0 + front_length None w used) x parts) behind ∙ no_marks (0 + front_length None w used) parts d rest clear (omega arith) in
    record {
      none = rw (fits, marks) refl;
      bytes = sym (ap (take (parts_length parts)) behind ∙ ap (λ (n : ℕ). take n (d ++ rest)) (sym long) ∙ take-append_seam d rest);
    }

-- ---- a packet
abbrev pub cut_with : PacketName → WrittenPacket → State → Cut
cut_with p x after = record { name = p; count = length (packet_bytes 0 x); used = length x.header; parts = x.parts; bytes = x.bytes; after = after }

regroup : (a h e d rest : List ℕ) → (a ++ (h ++ (e ++ d))) ++ rest ≡ (a ++ (h ++ e)) ++ (d ++ rest)
regroup a h e d rest =
    ap (λ (x : List ℕ). (a ++ x) ++ rest) (sym (append_assoc h e d)) ∙ ap (λ (x : List ℕ). x ++ rest) (sym (append_assoc a (h ++ e) d)) ∙ append_assoc (a ++ (h ++ e)) d rest

by_marks : (a h e d rest : List ℕ) → (a ++ (h ++ (e ++ d))) ++ rest ≡ a ++ (h ++ (e ++ (d ++ rest)))
by_marks a h e d rest = append_assoc a (h ++ (e ++ d)) rest ∙ ap (λ (x : List ℕ). a ++ x) (append_assoc h (e ++ d) rest ∙ ap (λ (x : List ℕ). h ++ x) (append_assoc e d rest))

same_size : (c : Bool) (n m : ℕ) → length {A = ℕ} (cond c (sop_bytes n) []) ≡ length {A = ℕ} (cond c (sop_bytes m) [])
same_size true n m = refl
same_size false n m = refl

pub packet_size : (n m : ℕ) (x : WrittenPacket) → length (packet_bytes n x) ≡ length (packet_bytes m x)
packet_size n m x =
    let tail : List ℕ = x.header ++ (cond x.eph eph_spelling [] ++ x.bytes) in
    length-append (cond x.sop (sop_bytes n) []) tail ∙ ap (λ (k : ℕ). k + length tail) (same_size x.sop n m) ∙ sym (length-append (cond x.sop (sop_bytes m) []) tail)

pub packet_some : (n : ℕ) (x : WrittenPacket) → StartsClear x.header → 0 < length (packet_bytes n x)
packet_some n x s =
    let some : 0 < length x.header = starts_some x.header s in
    let tail : List ℕ = cond x.eph eph_spelling [] ++ x.bytes in
    omega (arith, length-append (cond x.sop (sop_bytes n) []) (x.header ++ tail), length-append x.header tail)

pub cut_stands : (number : ℕ) (p : PacketName) (x : WrittenPacket) (k after : State) (rest : List ℕ) → ((more : List ℕ) → IsPacket (x.header ++ more) k x.parts (length x.header) after)
    → length x.bytes ≡ parts_length x.parts → AreClear x.parts x.bytes → begins_with rest EPH ≡ false → IsCut None (packet_bytes number x ++ rest) number k (cut_with p x after)
unfolding front_length
cut_stands number p x k after rest stands long clear none =
    let w : List ℕ = packet_bytes number x ++ rest in
    let a : List ℕ = cond x.sop (sop_bytes number) [] in
    let e : List ℕ = cond x.eph eph_spelling [] in
    let behind : List ℕ = x.bytes ++ rest in
    let tail : List ℕ = x.header ++ (e ++ behind) in
    let starts = header_starts x.header k x.parts after stands in
    let whole : w ≡ a ++ tail = by_marks a x.header e x.bytes rest in
    let fronts : Front x.sop number tail w =
    subst (λ (l : List ℕ). Front x.sop number tail l) (sym whole) (front_is x.sop number tail (header_no_mark x.header (e ++ behind) SOP starts (omega arith))) in
    let after_header : drop (length x.header) (header_in None w) ≡ e ++ behind = ap (drop (length x.header)) fronts.header ∙ drop-append_seam x.header (e ++ behind) in
    let eph : eph_length (drop (length x.header) (header_in None w)) ≡ length e =
    ap (λ (l : List ℕ). eph_length l) after_header ∙ eph_is x.eph behind (piece_no_mark x.bytes rest (pieces_start x.parts x.bytes clear long) none) in
    let front : front_length None w (length x.header) ≡ length (a ++ (x.header ++ e)) =
    omega (arith, fronts.length_is, eph, length-append a (x.header ++ e), length-append x.header e) in
    let coded : Coded w x.bytes (length x.header) x.parts = coded_is a x.header e x.bytes rest w (length x.header) x.parts (regroup a x.header e x.bytes rest) front long clear in
    let size : length (packet_bytes number x) ≡ length (a ++ (x.header ++ e)) + length x.bytes =
    omega (arith, length-append a (x.header ++ (e ++ x.bytes)), length-append x.header (e ++ x.bytes), length-append e x.bytes, length-append a (x.header ++ e), length-append x.header e) in
    record {
      sop = fronts.fault;
      header = subst (λ (h : List ℕ). IsPacket h k x.parts (length x.header) after) (sym fronts.header) (stands (e ++ behind));
      body = coded.none;
      count_is = packet_size 0 number x ∙ omega (arith, size, front, long);
      bytes_are = coded.bytes;
    }
