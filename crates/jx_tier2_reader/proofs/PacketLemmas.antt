-- One packet: its parts make a packet that was cut off, or what breaks a rule in it does so in the packet.
use Rattle.std.proofs.Common.{◌≡◌, ℕ, ◌+◌, ◌≤◌, Bool, true, false, List, [], ◌∷◌, length, take, drop, Option, Some, None, refl, ap, subst, inl, inr, arith, length-append}
use Rattle.jx_tagtree.specs.Header.{bits_of}
use Rattle.jx_tagtree.proofs.LawLemmas.{ends_at}
use Rattle.jx_packet_header.specs.declared.HeaderPart.{HeaderPart}
use Rattle.jx_packet_header.specs.Packet.{State, IsPacket, header_bits}
use Rattle.jx_codestream.specs.declared.faults.StreamFault.{StreamFault}
use Rattle.jx_codestream.specs.declared.faults.StreamFault.TheVariants as fault
use Rattle.jx_codestream.specs.Faults.{broken}
use Rattle.jx_tile.specs.Faults.{HasCause}
use Rattle.jx_tier2_reader.specs.Data.{sop_fault, eph_fault, header_in, front_length, parts_length, first_mark, rule_30, marks_fault, body_fault}
use Rattle.jx_tier2_reader.specs.Cuts.{Cut, IsCut, Breaks, BreaksHeader}
use Rattle.jx_tier2_reader.specs.Reading.{HasBytes}
use Rattle.jx_codestream.proofs.FaultLemmas.{none_later, none_first, none_of_both}
use Rattle.jx_tier2_reader.proofs.MarkLemmas.{rule_none as mark_none}

pub cause_on : (P Q : StreamFault → Type 0) (e : StreamFault) → ((f : StreamFault) → P f → Q f) → HasCause P e → HasCause Q e
cause_on P Q (fault.Rule number place) on h = on (fault.Rule number place) h
cause_on P Q (fault.Limit number found) on h = on (fault.Limit number found) h
cause_on P Q fault.NoMemory on h = tt

-- a header lies in its bytes
pub packet_within : (bytes : List ℕ) (k : State) (parts : List HeaderPart) (used : ℕ) (after : State) → IsPacket bytes k parts used after → used ≤ length bytes
packet_within bytes k parts used after p =
    let long : length (header_bits k p.header) ≤ length (bits_of bytes).bits = omega (arith, ap length p.stands, length-append (header_bits k p.header) p.rest) in
    (ends_at bytes (length (header_bits k p.header)) used long p.ends).within

-- a packed header lies in the packed headers
pub has_bytes : (packed : Option (List ℕ)) (w : List ℕ) (used : ℕ) → used ≤ length (header_in packed w) → HasBytes packed used
unfolding header_in
has_bytes None w used within = tt
has_bytes (Some packed) w used within = within

-- ---- nothing is violated at one place as at another
broken_none : (rule at : ℕ) (b : Bool) → broken rule at b ≡ None → broken rule 0 b ≡ None
broken_none rule at true h = absurd (cc)
broken_none rule at false h = refl

pub sop_anywhere : (w : List ℕ) (at number : ℕ) → sop_fault w at number ≡ None → sop_fault w 0 number ≡ None
unfolding sop_fault
sop_anywhere w at number h = none_of_both _ _ (broken_none 26 at _ (none_first _ _ h)) (broken_none 29 at _ (none_later _ _ h))

marks_anywhere : (at to : ℕ) (bytes : List ℕ) (parts : List HeaderPart) → marks_fault at bytes parts ≡ None → marks_fault to bytes parts ≡ None
marks_anywhere at to bytes [] h = refl
marks_anywhere at to bytes (p ∷ parts) h =
    let clear : first_mark (take p.length bytes) ≡ None = mark_none at _ (none_first _ _ h) in
    none_of_both (rule_30 to (first_mark (take p.length bytes))) _ (rw clear refl) (marks_anywhere (at + p.length) (to + p.length) (drop p.length bytes) parts (none_later _ _ h))

eph_anywhere : (packed : Option (List ℕ)) (at used : ℕ) → eph_fault packed at used ≡ None → eph_fault packed 0 used ≡ None
eph_anywhere None at used h = refl
eph_anywhere (Some packed) at used h = broken_none 26 at _ h

pub body_anywhere : (packed : Option (List ℕ)) (w : List ℕ) (at used : ℕ) (parts : List HeaderPart) → body_fault packed w at used parts ≡ None → body_fault packed w 0 used parts ≡ None
unfolding body_fault
body_anywhere packed w at used parts h =
    let later = none_later (eph_fault packed at used) _ h in
    none_of_both (eph_fault packed 0 used) _ (eph_anywhere packed at used (none_first (eph_fault packed at used) _ h))
    (none_of_both _ _ (broken_none 28 at _ (none_first _ _ later)) (marks_anywhere _ _ _ parts (none_later _ _ later)))

-- ---- a packet
pub cut_made : (packed : Option (List ℕ)) (w : List ℕ) (at number : ℕ) (k : State) (c : Cut) → sop_fault w at number ≡ None → IsPacket (header_in packed w) k c.parts c.used c.after
    → body_fault packed w at c.used c.parts ≡ None → c.count ≡ front_length packed w c.used + parts_length c.parts
    → c.bytes ≡ take (parts_length c.parts) (drop (front_length packed w c.used) w) → IsCut packed w number k c
cut_made packed w at number k c sop header body count bytes = record {
  sop = sop_anywhere w at number sop;
  header = header;
  body = body_anywhere packed w at c.used c.parts body;
  count_is = count;
  bytes_are = bytes;
}

pub head_breaks : (packed : Option (List ℕ)) (w h : List ℕ) (at number : ℕ) (k : State) (e : StreamFault) → sop_fault w at number ≡ None → h ≡ header_in packed w
    → HasCause (BreaksHeader h at k) e → HasCause (Breaks packed w at number k) e
head_breaks packed w h at number k e sop same breaks =
    let P : List ℕ → Type 0 = λ h. HasCause (BreaksHeader h at k) e in
    cause_on (BreaksHeader (header_in packed w) at k) (Breaks packed w at number k) e (λ f b. inr (sop, inl b)) (subst P same breaks)

pub body_breaks : (packed : Option (List ℕ)) (w h : List ℕ) (at number : ℕ) (k : State) (parts : List HeaderPart) (used : ℕ) (after : State) (e : StreamFault) → sop_fault w at number ≡ None
    → h ≡ header_in packed w → IsPacket h k parts used after → HasCause (λ f. body_fault packed w at used parts ≡ Some f) e → HasCause (Breaks packed w at number k) e
body_breaks packed w h at number k parts used after e sop same packet breaks =
    let P : List ℕ → Type 0 = λ h. IsPacket h k parts used after in
    cause_on (λ f. body_fault packed w at used parts ≡ Some f) (Breaks packed w at number k) e
    (λ f b. inr (sop, inr (record { parts = parts; used = used; after = after; header = subst P same packet; body = b }))) breaks
