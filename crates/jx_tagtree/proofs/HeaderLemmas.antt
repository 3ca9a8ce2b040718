-- The bits of bytes that are cut at some place.
use Rattle.std.proofs.Common.{◌≡◌, ℕ, zero, suc, ◌+◌, ◌-◌, ◌<◌, ◌≤◌, ◌==◌, Bool, true, false, List, [], ◌∷◌, ◌++◌, length, take, drop, get_or, refl, sym, ap, ◌∙◌, subst, cond, arith, append_assoc, length-append, add-one, add-zero, length-drop, ◌/◌, ◌%◌, ◌^◌, Ok, Err, nat_le}
use Rattle.std.proofs.lemmas.List.{append-nil, drop_at, take-append-drop, drop-append-le, length-take-le, drop-drop, drop_more}
use Rattle.std.proofs.lemmas.Bool.Decides.{nat_tests}
use Rattle.jx_tagtree.specs.declared.BitFault.{BitFault}
use Rattle.jx_tagtree.specs.declared.BitFault.TheVariants.{Ended, Stuffed}
use Rattle.jx_tagtree.specs.Header.{Bits, room, is_stuffed, low_bits, before_all, none_after_stuffed, bits_after, bits_of, bytes_for, end_after, past_last_ff}
use Rattle.jx_tagtree.specs.Place.{count, Stands}
use Rattle.jx_base.specs.Markers.{last_after}
use Rattle.jx_base.proofs.Markers.{last_push}

abbrev bits_with : List Bool → BitFault → Bits
bits_with l f = record { bits = l; fault = f }

pub length-low_bits : (n byte : ℕ) → length (low_bits n byte) ≡ n
length-low_bits zero byte = refl
length-low_bits (suc n) byte = ap suc (length-low_bits n byte)

-- bits in front are bits in front of all
before_all-before_all : (a b : List Bool) (r : Bits) → before_all a (before_all b r) ≡ before_all (a ++ b) r
before_all-before_all a b r = ap (λ (l : List Bool). bits_with l r.fault) (sym (append_assoc a b r.bits))

-- where the fault isn't that of a stuffed 1, no bit was stuffed as 1
clean_by : (s : Bool) (r : Bits) → (cond s none_after_stuffed r).fault ≡ Ended → (s ≡ false) × (cond s none_after_stuffed r ≡ r)
clean_by true r h = absurd cc
clean_by false r h = (refl, refl)

pub clean_first : (before x : ℕ) (xs : List ℕ) → (bits_after before (x ∷ xs)).fault ≡ Ended →
    (is_stuffed before x ≡ false) × (bits_after before (x ∷ xs) ≡ before_all (low_bits (room before) x) (bits_after x xs))
clean_first before x xs h = clean_by (is_stuffed before x) (before_all (low_bits (room before) x) (bits_after x xs)) h

-- without a stuffed 1 among the first bytes, the bits of all are theirs and those of the rest
pub bits_after-append : (before : ℕ) (xs ys : List ℕ) → (bits_after before xs).fault ≡ Ended →
    bits_after before (xs ++ ys) ≡ before_all (bits_after before xs).bits (bits_after (last_after before xs) ys)
bits_after-append before [] ys clean = refl
bits_after-append before (x ∷ xs) ys clean =
    let h = clean_first before x xs clean in
    let rest_clean : (bits_after x xs).fault ≡ Ended = sym (ap (λ (r : Bits). r.fault) h.1) ∙ clean in
    let front = ap (λ (r : Bits). r.bits) h.1 in
    let opened : bits_after before (x ∷ (xs ++ ys)) ≡ before_all (low_bits (room before) x) (bits_after x (xs ++ ys)) =
    ap (λ (s : Bool). cond s none_after_stuffed (before_all (low_bits (room before) x) (bits_after x (xs ++ ys)))) h.0 in
    opened ∙ ap (before_all (low_bits (room before) x)) (bits_after-append x xs ys rest_clean)
    ∙ before_all-before_all (low_bits (room before) x) (bits_after x xs).bits (bits_after (last_after x xs) ys)
    ∙ ap (λ (l : List Bool). before_all l (bits_after (last_after x xs) ys)) (sym front)

pub room-le : (before : ℕ) → room before ≤ 8
room-le before = grind (arith, nat_tests)

-- one more byte, whose stuffed bit isn't 1
pub bits_after-push : (before : ℕ) (xs : List ℕ) (b : ℕ) → (bits_after before xs).fault ≡ Ended → is_stuffed (last_after before xs) b ≡ false →
    bits_after before (xs ++ b ∷ []) ≡ record { bits = (bits_after before xs).bits ++ low_bits (room (last_after before xs)) b; fault = Ended }
bits_after-push before xs b clean plain =
    bits_after-append before xs (b ∷ []) clean ∙
    (let one : bits_after (last_after before xs) (b ∷ []) ≡ record { bits = low_bits (room (last_after before xs)) b; fault = Ended } =
    rw plain (ap (λ (l : List Bool). bits_with l Ended) (append-nil (low_bits (room (last_after before xs)) b)))
    in ap (before_all (bits_after before xs).bits) one)

-- a list that is cut before an element
pub take-push : (n : ℕ) (xs : List ℕ) (y : ℕ) (ys : List ℕ) → drop n xs ≡ y ∷ ys → take (n + 1) xs ≡ take n xs ++ y ∷ []
take-push n xs y ys cut = rw add-one (pushed n xs cut)
  where
    pushed : (n : ℕ) (xs : List ℕ) → drop n xs ≡ y ∷ ys → take (suc n) xs ≡ take n xs ++ y ∷ []
    pushed zero (x ∷ xs) h = let e : x ≡ y = cc in ap (λ (z : ℕ). z ∷ []) e
    pushed zero [] h = absurd cc
    pushed (suc n) [] h = absurd cc
    pushed (suc n) (x ∷ xs) h = ap (λ (l : List ℕ). x ∷ l) (pushed n xs h)

-- the bits that a reader has not given
pub to_come_is : (bytes : List ℕ) (used last left : ℕ) → Stands bytes used last left →
    (drop (count bytes used - left) (bits_of bytes).bits ≡ low_bits left last ++ (bits_after last (drop used bytes)).bits)
    × ((bits_of bytes).fault ≡ (bits_after last (drop used bytes)).fault)
to_come_is bytes used last left s =
    let whole : bits_of bytes ≡ before_all (bits_of (take used bytes)).bits (bits_after last (drop used bytes)) =
    ap bits_of (sym (take-append-drop used bytes)) ∙ bits_after-append 0 (take used bytes) (drop used bytes) s.clean
    ∙ ap (λ (z : ℕ). before_all (bits_of (take used bytes)).bits (bits_after z (drop used bytes))) (sym s.is_last) in (
      ap (λ (b : Bits). drop (count bytes used - left) b.bits) whole
          ∙ drop-append-le (count bytes used - left) (bits_of (take used bytes)).bits (bits_after last (drop used bytes)).bits (omega arith)
          ∙ ap (λ (l : List Bool). l ++ (bits_after last (drop used bytes)).bits) s.are_left,
      ap (λ (b : Bits). b.fault) whole,
    )

-- one bit of the last byte is given
pub Stands-bit : (bytes : List ℕ) (used last left : ℕ) → Stands bytes used last left → 0 < left → Stands bytes used last (left - 1)
Stands-bit bytes used last left s some =
    let small : left - 1 + 1 ≡ left = omega arith in
    record {
      within = s.within;
      is_last = s.is_last;
      small = let h : left < 8 = s.small in omega arith;
      clean = s.clean;
      some_left = let h : left ≤ count bytes used = s.some_left in omega arith;
      begun = λ h. let b : count bytes (used - 1) + left < count bytes used = s.begun h in omega arith;
      are_left =
          let h : left ≤ count bytes used = s.some_left in
          let e : count bytes used - (left - 1) ≡ (count bytes used - left) + 1 = omega arith in
          let f : left ≡ suc (left - 1) = omega arith in
          rw e (sym (drop-drop 1 (count bytes used - left) (bits_of (take used bytes)).bits) ∙ ap (drop 1) (s.are_left ∙ ap (λ (n : ℕ). low_bits n last) f));
    }

-- the next byte is begun, and its first bit is given
pub Stands-byte : (bytes : List ℕ) (used last b left : ℕ) → Stands bytes used last 0 → drop used bytes ≡ b ∷ drop (used + 1) bytes → is_stuffed last b ≡ false →
    left + 1 ≡ room last → (Stands bytes (used + 1) b left) × (count bytes (used + 1) - left ≡ count bytes used + 1)
Stands-byte bytes used last b left s cut plain enough =
    let more : take (used + 1) bytes ≡ take used bytes ++ b ∷ [] = take-push used bytes b (drop (used + 1) bytes) cut in
    let pushed : bits_of (take (used + 1) bytes) ≡ record { bits = (bits_of (take used bytes)).bits ++ low_bits (room last) b; fault = Ended } =
    ap bits_of more ∙ bits_after-push 0 (take used bytes) b s.clean (subst (λ (z : ℕ). is_stuffed z b ≡ false) s.is_last plain)
    ∙ ap (λ (z : ℕ). let x : Bits = record { bits = (bits_of (take used bytes)).bits ++ low_bits (room z) b; fault = Ended } in x) (sym s.is_last) in
    let counted : count bytes (used + 1) ≡ count bytes used + room last =
    ap (λ (r : Bits). length r.bits) pushed ∙ length-append (bits_of (take used bytes)).bits (low_bits (room last) b)
    ∙ ap (λ (n : ℕ). count bytes used + n) (length-low_bits (room last) b) in
    let long : 0 < length (drop used bytes) = rw cut (omega arith) in
    let smaller : left < 8 = let r : room last ≤ 8 = room-le last in omega arith in
    let given : count bytes (used + 1) - left ≡ count bytes used + 1 = omega arith in (
      record {
        within = omega (arith, length-drop used bytes);
        small = smaller;
        is_last = sym (ap (last_after 0) more ∙ last_push 0 (take used bytes) b);
        clean = ap (λ (r : Bits). r.fault) pushed;
        some_left = omega arith;
        begun = λ h. let e : used + 1 - 1 ≡ used = omega arith in rw e (omega arith);
        are_left = rw given (ap (λ (r : Bits). drop (count bytes used + 1) r.bits) pushed
            ∙ sym (drop-drop 1 (count bytes used) ((bits_of (take used bytes)).bits ++ low_bits (room last) b))
            ∙ ap (drop 1) (drop_at (bits_of (take used bytes)).bits (low_bits (room last) b) (count bytes used) refl)
            ∙ ap (λ (n : ℕ). drop 1 (low_bits n b)) (sym enough ∙ add-one left));
      },
      given,
    )

-- a bit of the last byte comes first
pub give_bit : (bytes : List ℕ) (used last left : ℕ) → Stands bytes used last left → 0 < left →
    drop (count bytes used - left) (bits_of bytes).bits ≡ (last / 2 ^ (left - 1) % 2 == 1) ∷ drop (count bytes used - (left - 1)) (bits_of bytes).bits
give_bit bytes used last left s some =
    let f : left ≡ suc (left - 1) = omega arith in
    (to_come_is bytes used last left s).0
    ∙ ap (λ (n : ℕ). low_bits n last ++ (bits_after last (drop used bytes)).bits) f
    ∙ ap (λ (l : List Bool). (last / 2 ^ (left - 1) % 2 == 1) ∷ l) (sym (to_come_is bytes used last (left - 1) (Stands-bit bytes used last left s some)).0)

-- and then the first bit of the next
pub give_byte : (bytes : List ℕ) (used last b left none : ℕ) → Stands bytes used last none → none ≡ 0 → drop used bytes ≡ b ∷ drop (used + 1) bytes → is_stuffed last b ≡ false →
    left + 1 ≡ room last →
    drop (count bytes used - none) (bits_of bytes).bits ≡ (b / 2 ^ left % 2 == 1) ∷ drop (count bytes (used + 1) - left) (bits_of bytes).bits
give_byte bytes used last b left none s0 z cut plain enough =
    let s : Stands bytes used last 0 = subst (λ (n : ℕ). Stands bytes used last n) z s0 in
    let next : Stands bytes (used + 1) b left = (Stands-byte bytes used last b left s cut plain enough).0 in
    let f : room last ≡ suc left = sym enough ∙ add-one left in
    ap (λ (n : ℕ). drop (count bytes used - n) (bits_of bytes).bits) z ∙ (to_come_is bytes used last 0 s).0
    ∙ ap (λ (l : List ℕ). (bits_after last l).bits) cut
    ∙ ap (λ (x : Bool). (cond x none_after_stuffed (before_all (low_bits (room last) b) (bits_after b (drop (used + 1) bytes)))).bits) plain
    ∙ ap (λ (n : ℕ). low_bits n b ++ (bits_after b (drop (used + 1) bytes)).bits) f
    ∙ ap (λ (l : List Bool). (b / 2 ^ left % 2 == 1) ∷ l) (sym (to_come_is bytes (used + 1) b left next).0)

-- where no byte gives a bit, all bits are given
pub give_none : (bytes : List ℕ) (used last none : ℕ) (e : BitFault) → Stands bytes used last none → none ≡ 0 → bits_after last (drop used bytes) ≡ record { bits = []; fault = e } →
    (drop (count bytes used - none) (bits_of bytes).bits ≡ []) × (e ≡ (bits_of bytes).fault)
give_none bytes used last none e s0 z h =
    let s : Stands bytes used last 0 = subst (λ (n : ℕ). Stands bytes used last n) z s0 in (
      ap (λ (n : ℕ). drop (count bytes used - n) (bits_of bytes).bits) z ∙ (to_come_is bytes used last 0 s).0 ∙ ap (λ (r : Bits). r.bits) h,
      sym ((to_come_is bytes used last 0 s).1 ∙ ap (λ (r : Bits). r.fault) h),
    )

-- the bits up to one of a byte's are those of that byte and the ones before it
pub bytes_for-cut : (before : ℕ) (xs : List ℕ) (b : ℕ) (ys : List ℕ) (n : ℕ) → (bits_after before (xs ++ b ∷ [])).fault ≡ Ended →
    length (bits_after before xs).bits < n → n ≤ length (bits_after before (xs ++ b ∷ [])).bits → bytes_for before (xs ++ b ∷ ys) n ≡ length xs + 1
bytes_for-cut before xs b ys zero clean some few = absurd (omega arith)
bytes_for-cut before [] b ys (suc m) clean some few =
    let h = clean_first before b [] clean in
    let counted : length (bits_after before (b ∷ [])).bits ≡ room before =
    ap (λ (r : Bits). length r.bits) h.1 ∙ length-append (low_bits (room before) b) [] ∙ ap (λ (n : ℕ). n + 0) (length-low_bits (room before) b) ∙ add-zero (room before) in
    let none : suc m - room before ≡ 0 = omega arith in
    ap (λ (k : ℕ). suc (bytes_for b ys k)) none
bytes_for-cut before (x ∷ xs) b ys (suc m) clean some few =
    let h = clean_first before x (xs ++ b ∷ []) clean in
    let rest_clean : (bits_after x (xs ++ b ∷ [])).fault ≡ Ended = sym (ap (λ (r : Bits). r.fault) h.1) ∙ clean in
    let all : length (bits_after before (x ∷ (xs ++ b ∷ []))).bits ≡ room before + length (bits_after x (xs ++ b ∷ [])).bits =
    ap (λ (r : Bits). length r.bits) h.1 ∙ length-append (low_bits (room before) x) (bits_after x (xs ++ b ∷ [])).bits
    ∙ ap (λ (n : ℕ). n + length (bits_after x (xs ++ b ∷ [])).bits) (length-low_bits (room before) x) in
    let front : length (bits_after before (x ∷ xs)).bits ≡ room before + length (bits_after x xs).bits =
    ap (λ (s : Bool). length (cond s none_after_stuffed (before_all (low_bits (room before) x) (bits_after x xs))).bits) h.0
    ∙ length-append (low_bits (room before) x) (bits_after x xs).bits
    ∙ ap (λ (n : ℕ). n + length (bits_after x xs).bits) (length-low_bits (room before) x) in
    let more : length (bits_after x xs).bits < suc m - room before = omega arith in
    let within : suc m - room before ≤ length (bits_after x (xs ++ b ∷ [])).bits = omega arith in
    let last : suc (length xs + 1) ≡ length (x ∷ xs) + 1 = omega arith in
    ap suc (bytes_for-cut x xs b ys (suc m - room before) rest_clean more within) ∙ last

-- a reader has begun as many bytes as its bits take
pub bytes_for_is : (bytes : List ℕ) (used last left : ℕ) → Stands bytes used last left → bytes_for 0 bytes (count bytes used - left) ≡ used
bytes_for_is bytes zero last left s = ap (bytes_for 0 bytes) (let none : 0 - left ≡ 0 = omega arith in none)
bytes_for_is bytes (suc u) last left s =
    let within : suc u ≤ length bytes = s.within in
    let lt : u < length bytes = omega arith in
    let cut : drop u bytes ≡ get_or bytes u 0 ∷ drop (u + 1) bytes = drop_more bytes u 0 lt in
    let more : take (suc u) bytes ≡ take u bytes ++ get_or bytes u 0 ∷ [] = rw (← add-one u) (take-push u bytes (get_or bytes u 0) (drop (u + 1) bytes) cut) in
    let whole : bytes ≡ take u bytes ++ get_or bytes u 0 ∷ drop (u + 1) bytes = sym (take-append-drop u bytes) ∙ ap (λ (l : List ℕ). take u bytes ++ l) cut in
    let begun : count bytes u + left < count bytes (suc u) = let e : suc u - 1 ≡ u = omega arith in let b = s.begun (omega arith) in rw e at b in
    let long : length (bits_of (take u bytes ++ get_or bytes u 0 ∷ [])).bits ≡ count bytes (suc u) = ap (λ (l : List ℕ). length (bits_of l).bits) (sym more) in
    ap (λ (l : List ℕ). bytes_for 0 l (count bytes (suc u) - left)) whole
    ∙ bytes_for-cut 0 (take u bytes) (get_or bytes u 0) (drop (u + 1) bytes) (count bytes (suc u) - left)
    (ap (λ (l : List ℕ). (bits_of l).fault) (sym more) ∙ s.clean) (omega arith) (omega arith)
    ∙ ap (λ (n : ℕ). n + 1) (length-take-le u bytes (omega arith)) ∙ add-one u

-- where a reader's header ends
pub end_is : (bytes : List ℕ) (used last left : ℕ) → Stands bytes used last left →
    end_after bytes (count bytes used - left) ≡ cond (last == 255) (past_last_ff used (drop used bytes)) (Ok used)
end_is bytes used last left s =
    ap (λ (u : ℕ). cond (last_after 0 (take u bytes) == 255) (past_last_ff u (drop u bytes)) (Ok u)) (bytes_for_is bytes used last left s)
    ∙ ap (λ (z : ℕ). cond (z == 255) (past_last_ff used (drop used bytes)) (Ok used)) (sym s.is_last)

-- the same at a reader's fields, which say that no bit of the last byte is left
pub begin_byte : (bytes : List ℕ) (used last b left none : ℕ) → Stands bytes used last none → none ≡ 0 → drop used bytes ≡ b ∷ drop (used + 1) bytes → is_stuffed last b ≡ false →
    left + 1 ≡ room last → (Stands bytes (used + 1) b left) × (count bytes (used + 1) - left ≡ count bytes used - none + 1)
begin_byte bytes used last b left none s z cut plain enough =
    let r = Stands-byte bytes used last b left (subst (λ (n : ℕ). Stands bytes used last n) z s) cut plain enough in
    let same : count bytes used + 1 ≡ count bytes used - none + 1 = omega arith in
    (r.0, r.1 ∙ same)

-- a header ends after its last byte, where that isn't FF
pub end_here : (bytes : List ℕ) (used last left : ℕ) → Stands bytes used last left → (last ≡ 255 → ⊥) → end_after bytes (count bytes used - left) ≡ Ok used
end_here bytes used last left s other = end_is bytes used last left s ∙ ap (λ (x : Bool). cond x (past_last_ff used (drop used bytes)) (Ok used)) (let no : (last == 255) ≡ false = grind (arith, nat_tests) in no)

-- and after the byte behind it, where it is
pub end_past : (bytes : List ℕ) (used last left b : ℕ) → Stands bytes used last left → last ≡ 255 → drop used bytes ≡ b ∷ drop (used + 1) bytes → is_stuffed 255 b ≡ false →
    end_after bytes (count bytes used - left) ≡ Ok (used + 1)
end_past bytes used last left b s e cut plain =
    end_is bytes used last left s
    ∙ ap (λ (z : ℕ). cond (z == 255) (past_last_ff used (drop used bytes)) (Ok used)) e
    ∙ ap (λ (l : List ℕ). past_last_ff used l) cut
    ∙ ap (λ (x : Bool). cond x (Err Stuffed) (Ok (used + 1))) plain

past_fault : (used : ℕ) (l : List ℕ) (e : BitFault) → bits_after 255 l ≡ record { bits = []; fault = e } → past_last_ff used l ≡ Err e
past_fault used [] e h = ap Err (ap (λ (r : Bits). r.fault) h)
past_fault used (b ∷ l) e h = by (nat_le 128 b) (ap (λ (r : Bits). r.bits) h) (ap (λ (r : Bits). r.fault) h)
  where
    by : (x : Bool) → (cond x none_after_stuffed (before_all (low_bits (room 255) b) (bits_after b l))).bits ≡ []
        → (cond x none_after_stuffed (before_all (low_bits (room 255) b) (bits_after b l))).fault ≡ e → cond x (Err Stuffed) (Ok (used + 1)) ≡ Err e
    by true none fault = ap Err fault
    by false none fault = absurd cc

-- unless that byte isn't there, or its stuffed bit is 1
pub end_fault : (bytes : List ℕ) (used last left : ℕ) (e : BitFault) → Stands bytes used last left → last ≡ 255 → bits_after 255 (drop used bytes) ≡ record { bits = []; fault = e } →
    end_after bytes (count bytes used - left) ≡ Err e
end_fault bytes used last left e s is h =
    end_is bytes used last left s
    ∙ ap (λ (z : ℕ). cond (z == 255) (past_last_ff used (drop used bytes)) (Ok used)) is
    ∙ past_fault used (drop used bytes) e h
