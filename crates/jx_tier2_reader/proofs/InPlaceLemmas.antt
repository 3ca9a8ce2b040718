-- A packet whose header stands apart is read alike where its header stands in its place.
use Rattle.std.proofs.Common.{◌≡◌, ℕ, zero, suc, false, ◌+◌, ◌-◌, ◌<◌, ◌≤◌, ◌==◌, Bool, List, [], ◌∷◌, ◌++◌, length, take, drop, Option, None, Some, refl, sym, ap, ◌∙◌, subst, arith, Ok, append_assoc, length-append, length-take, length-drop, take-append-drop}
use Rattle.std.specs.Prelude.{if◌then◌else◌}
use Rattle.std.proofs.lemmas.List.{take-append-le, length-take-le}
use Rattle.std.proofs.lemmas.List.Sums.{sum_by-cons}
use Rattle.std.proofs.Math.Seq.{take-append_seam}
use Rattle.jx_tagtree.specs.Header.{Bits, bits_of, bits_after, before_all, end_after, EndsAt}
use Rattle.jx_tagtree.proofs.LawLemmas.{ends_at, ends_only}
use Rattle.jx_tagtree.proofs.HeaderLemmas.{bits_after-append}
use Rattle.jx_base.specs.Markers.{HasNoMarker, last_after}
use Rattle.jx_marker.specs.Codes.{EPH}
use Rattle.jx_packet_header.specs.declared.HeaderPart.{HeaderPart}
use Rattle.jx_packet_header.specs.Packet.{State, IsPacket, header_bits}
use Rattle.jx_tier2_reader.specs.Data.{begins_with, front_length, header_in, marks_fault, parts_length}
use Rattle.jx_tier2_reader.specs.Cuts.{Cut, IsCut}
use Rattle.jx_tier2_reader.specs.InPlace.{placed, placed_cut}
use Rattle.jx_tier2_reader.specs.Written.{AreClear, packet_bytes}
use Rattle.jx_tier2_reader.proofs.FrontLemmas.{cut_stands}
use Rattle.jx_tier2_reader.proofs.PacketLemmas.{packet_within}
use Rattle.jx_tier2_reader.proofs.MarkLemmas.{body_fits, body_marks, mark_here, marks_later}

-- ---- a header is read alike whatever follows its bytes
pub read_anywhere : (h : List ℕ) (k : State) (parts : List HeaderPart) (used : ℕ) (after : State) → IsPacket h k parts used after
    → (more : List ℕ) → IsPacket (take used h ++ more) k parts (length (take used h)) after
read_anywhere h k parts used after p more =
    let bits : List Bool = header_bits k p.header in
    let n : ℕ = length bits in
    let all : length (bits_of h).bits ≡ n + length p.rest = ap length p.stands ∙ length-append bits p.rest in
    let few : n ≤ length (bits_of h).bits = omega arith in
    let e : EndsAt h n used = ends_at h n used few p.ends in
    let x : List ℕ = take used h in
    let long : length x ≡ used = length-take-le used h e.within in
    let first : take n (bits_of h).bits ≡ bits = ap (take n) p.stands ∙ take-append_seam bits p.rest in
    let own : (bits_of x).bits ≡ bits ++ e.filling = e.are_bits ∙ ap (λ (l : List Bool). l ++ e.filling) first in
    let behind : Bits = bits_after (last_after 0 x) more in
    let both : bits_of (x ++ more) ≡ before_all (bits_of x).bits behind = bits_after-append 0 x more e.clean in
    let stands : (bits_of (x ++ more)).bits ≡ bits ++ (e.filling ++ behind.bits) =
    ap (λ (b : Bits). b.bits) both ∙ ap (λ (l : List Bool). l ++ behind.bits) own ∙ append_assoc bits e.filling behind.bits in
    let again : take n (bits_of (x ++ more)).bits ≡ take n (bits_of h).bits = ap (take n) stands ∙ take-append_seam bits (e.filling ++ behind.bits) ∙ sym first in
    let cut : take used (x ++ more) ≡ x = ap (λ (m : ℕ). take m (x ++ more)) (sym long) ∙ take-append_seam x more in
    let shorter : take (used - 1) (x ++ more) ≡ take (used - 1) h = take-append-le (used - 1) x more (omega arith) ∙ take_less (used - 1) used h (omega arith) in
    let enough : n ≤ length (bits_of (x ++ more)).bits =
    (let l : length (bits_of (x ++ more)).bits ≡ n + length (e.filling ++ behind.bits) = ap length stands ∙ length-append bits (e.filling ++ behind.bits) in omega arith) in
    let ends : EndsAt (x ++ more) n used = record {
      within = (let l : length (x ++ more) ≡ length x + length more = length-append x more in omega arith);
      filling = e.filling;
      few = subst (λ (l : List ℕ). length e.filling < (if last_after 0 l == 255 then 15 else 8)) (sym shorter) e.few;
      are_bits = ap (λ (l : List ℕ). (bits_of l).bits) cut ∙ e.are_bits ∙ ap (λ (l : List Bool). l ++ e.filling) (sym again);
      clean = ap (λ (l : List ℕ). (bits_of l).fault) cut ∙ e.clean;
      last = subst (λ (l : List ℕ). last_after 0 l ≡ 255 → ⊥) (sym cut) e.last;
    } in
    record {
      header = p.header;
      is = p.is;
      rest = e.filling ++ behind.bits;
      stands = stands;
      ends = ends_only (x ++ more) n used enough ends ∙ ap (λ (m : ℕ). Ok m) (sym long);
      parts_are = p.parts_are;
      after_is = p.after_is;
    }
  where
    take_less : (m n : ℕ) (xs : List ℕ) → m ≤ n → take m (take n xs) ≡ take m xs
    take_less zero n xs le = refl
    take_less (suc m) zero xs le = absurd (omega arith)
    take_less (suc m) (suc n) [] le = refl
    take_less (suc m) (suc n) (y ∷ xs) le = ap (λ (l : List ℕ). y ∷ l) (take_less m n xs (omega arith))

-- ---- no piece has a marker
clear_from : (at : ℕ) (parts : List HeaderPart) (bytes : List ℕ) → marks_fault at bytes parts ≡ None → AreClear parts bytes
clear_from at [] bytes none = tt
clear_from at (p ∷ parts) bytes none = (mark_here at bytes p parts none, clear_from (at + p.length) parts (drop p.length bytes) (marks_later at bytes p parts none))

-- pieces that are shorter together than the bytes have no marker in them either, where the bytes are cut behind them
clear_cut : (parts : List HeaderPart) (bytes : List ℕ) → AreClear parts bytes → AreClear parts (take (parts_length parts) bytes)
clear_cut [] bytes clear = tt
clear_cut (p ∷ parts) bytes clear =
    let sum : parts_length (p ∷ parts) ≡ p.length + parts_length parts = sum_by-cons (λ (x : HeaderPart). x.length) p parts in
    let front : take p.length (take (parts_length (p ∷ parts)) bytes) ≡ take p.length bytes = ap (λ (m : ℕ). take p.length (take m bytes)) sum ∙ take_front p.length (parts_length parts) bytes in
    let back : drop p.length (take (parts_length (p ∷ parts)) bytes) ≡ take (parts_length parts) (drop p.length bytes) =
    ap (λ (m : ℕ). drop p.length (take m bytes)) sum ∙ drop_front p.length (parts_length parts) bytes in
    (subst (λ (l : List ℕ). HasNoMarker 0 l) (sym front) clear.0, subst (λ (l : List ℕ). AreClear parts l) (sym back) (clear_cut parts (drop p.length bytes) clear.1))
  where
    no_front : (k : ℕ) → take {A = ℕ} k [] ≡ []
    no_front zero = refl
    no_front (suc k) = refl

    take_front : (m n : ℕ) (xs : List ℕ) → take m (take (m + n) xs) ≡ take m xs
    take_front zero n xs = refl
    take_front (suc m) n [] = ap (take (suc m)) (no_front (suc m + n))
    take_front (suc m) n (y ∷ xs) =
        let e : suc m + n ≡ suc (m + n) = omega arith in
        ap (λ (k : ℕ). take (suc m) (take k (y ∷ xs))) e ∙ ap (λ (l : List ℕ). y ∷ l) (take_front m n xs)

    drop_front : (m n : ℕ) (xs : List ℕ) → drop m (take (m + n) xs) ≡ take n (drop m xs)
    drop_front zero n xs = let e : 0 + n ≡ n = omega arith in ap (λ (k : ℕ). take k xs) e
    drop_front (suc m) n [] = ap (drop (suc m)) (no_front (suc m + n)) ∙ sym (no_front n)
    drop_front (suc m) n (y ∷ xs) =
        let e : suc m + n ≡ suc (m + n) = omega arith in
        ap (λ (k : ℕ). drop (suc m) (take k (y ∷ xs))) e ∙ drop_front m n xs

-- ---- a packet
pub placed_stands : (packed w : List ℕ) (number : ℕ) (k : State) (c : Cut) (rest : List ℕ) → IsCut (Some packed) w number k c → begins_with rest EPH ≡ false
    → IsCut None (packet_bytes number (placed packed w c) ++ rest) number k (placed_cut packed w c)
unfolding header_in
placed_stands packed w number k c rest cut none =
    let n : ℕ = front_length (Some packed) w c.used in
    let header : IsPacket packed k c.parts c.used c.after = cut.header in
    let long : length (take c.used packed) ≡ c.used = length-take-le c.used packed (packet_within packed k c.parts c.used c.after header) in
    let fits : n + parts_length c.parts ≤ length w = body_fits (Some packed) w 0 c.used c.parts cut.body in
    let size : length c.bytes ≡ parts_length c.parts = ap length cut.bytes_are ∙ length-take-le (parts_length c.parts) (drop n w) (let e = length-drop n w in omega arith) in
    let clear : AreClear c.parts c.bytes =
    subst (λ (l : List ℕ). AreClear c.parts l) (sym cut.bytes_are) (clear_cut c.parts (drop n w) (clear_from (0 + n) c.parts (drop n w) (body_marks (Some packed) w 0 c.used c.parts cut.body))) in
    let stands = cut_stands number c.name (placed packed w c) k c.after rest (λ more. read_anywhere packed k c.parts c.used c.after header more) size clear none in
    let U : ℕ → Type 0 = λ u. IsCut None (packet_bytes number (placed packed w c) ++ rest) number k
    (record { name = c.name; count = length (packet_bytes 0 (placed packed w c)); used = u; parts = c.parts; bytes = c.bytes; after = c.after }) in
    subst U long stands
