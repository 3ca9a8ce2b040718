-- A block of which a bit is missing, or a length is too large: exactly then its bits aren't read.
use Rattle.std.proofs.Common.{◌≡◌, ℕ, ◌+◌, ◌*◌, ◌≤◌, nat_lt, Bool, true, false, List, [], ◌∷◌, ◌++◌, length, replicate, refl, sym, ap, ◌∙◌, cond, arith, append_assoc, Some, None, Err, inl, inr, ◌⊎◌}
use Rattle.std.specs.Prelude.{Option, option_map, option_and_then}
use Rattle.std.proofs.lemmas.List.{append-nil}
use Rattle.std.proofs.lemmas.Bool.{le-ltb, ltb-false}
use Rattle.jx_tagtree.specs.Shape.{way}
use Rattle.jx_tagtree.specs.TagTree.{Tree, ValuesOf, query}
use Rattle.jx_tagtree.proofs.QuestionLemmas.{known_values}
use Rattle.jx_packet_header.specs.declared.HeaderPart.{HeaderPart}
use Rattle.jx_packet_header.specs.declared.HeadFault.TheVariants.{Bits, Planes}
use Rattle.jx_packet_header.specs.declared.known.Known.{Known}
use Rattle.jx_packet_header.specs.Words.{pass_word, raise_word}
use Rattle.jx_packet_header.specs.Parts.{cut}
use Rattle.jx_packet_header.specs.Packet.{zero_bits, zero_after, first_bits, first_after, IsInclusion, most_passes}
use Rattle.jx_packet_header.specs.Kept.{IsLeafOf}
use Rattle.jx_packet_header.specs.Unread.{IsCutOf, PassesStop, HasPasses, RaiseStops, PartsStop}
use Rattle.jx_packet_header.specs.Scan.{Found, or_bits, and_then, scan_passes, scan_raise, scan_parts, Asked, ask, scan_first, Zeros, scan_more_zeros, scan_zeros, entry_of, scan_lengths, scan_entry}
use Rattle.jx_packet_header.proofs.WordLemmas.{passes_made, passes_read, PassesRead, raise_made, raise_read}
use Rattle.jx_packet_header.proofs.AskLemmas.{asked_is, ask_made, ask_read, ask_tree, AskRead, zeros_is}
use Rattle.jx_packet_header.proofs.BlockLemmas.{on_passes, on_raise, first_made, first_read, FirstRead, first_leaf, zero_made, zero_read, ZeroRead, zero_leaf, counted}
use Rattle.jx_packet_header.proofs.FrontLemmas.{front_of, none_left, padded, padded_long, padded_split, passes_none_of, passes_stop, raise_none, raise_stops, parts_none, parts_stop}
use Rattle.jx_packet_header.proofs.LongLemmas.{AskLong, ask_long, zeros_long}

-- ---- whether it is included
pub record SomeFirst (known : Option ℕ) (tree : Tree) (leaf layer : ℕ) (bits : List Bool) : Type 0 where
  pub values : ℕ → ℕ
  pub agree : ValuesOf tree values
  pub included : Bool
  pub is : IsInclusion known values leaf layer included
  pub cut_off : IsCutOf (first_bits known values tree leaf layer included) bits

pub first_none : (known : Option ℕ) (tree : Tree) (leaf layer : ℕ) (bits : List Bool) → IsLeafOf tree leaf → scan_first known tree leaf layer bits ≡ None → SomeFirst known tree leaf layer bits
first_none (Some z) tree leaf layer (b ∷ bits) l h = absurd cc
first_none (Some z) tree leaf layer [] l h =
    let v = known_values tree l.is in
    record { values = v.0; agree = v.1; included = true; is = tt; cut_off = record { missing = true ∷ []; some = omega arith; begins = refl } }
first_none None tree leaf layer bits l h = by long (known_values long.found.tree (ask_tree tree leaf (layer + 1) l (padded most bits) long.found long.is).is)
  where
    most : ℕ
    most = length (way tree.wide tree.high leaf) * (layer + 1)

    long : AskLong tree leaf (layer + 1) most (padded most bits)
    long = ask_long tree leaf (layer + 1) most (padded most bits) (omega arith) (padded_long most bits)

    pick : (values : ℕ → ℕ) → ValuesOf tree values → (b : Bool) → nat_lt (values leaf) (layer + 1) ≡ b →
        IsCutOf (query values tree leaf (layer + 1)).bits bits ⊎ ((left : List Bool) × (bits ≡ (query values tree leaf (layer + 1)).bits ++ left)) → SomeFirst None tree leaf layer bits
    pick values v b e (inl c) = record { values = values; agree = v; included = b; is = e; cut_off = c }
    pick values v b e (inr p) = absurd (let x : Some (asked_is (nat_lt (values leaf) (layer + 1)) (Rattle.jx_tagtree.specs.TagTree.tree_after values tree leaf (layer + 1)) p.0) ≡ None =
        sym (ask_made tree leaf (layer + 1) l values p.0 v) ∙ sym (ap (ask tree leaf (layer + 1)) p.1) ∙ h in cc)

    by : (a : AskLong tree leaf (layer + 1) most (padded most bits)) → ((values : ℕ → ℕ) × ValuesOf a.found.tree values) → SomeFirst None tree leaf layer bits
    by a v =
        let r : AskRead v.0 tree leaf (layer + 1) (padded most bits) a.found = ask_read tree leaf (layer + 1) l v.0 (padded most bits) a.found a.is v.1 in
        let q = (query v.0 tree leaf (layer + 1)).bits in
        pick v.0 r.before (nat_lt (v.0 leaf) (layer + 1)) refl (front_of bits q (replicate most false) a.found.rest (padded_split most bits q a.found.rest r.bits_are))

pub first_stop : (known : Option ℕ) (values : ℕ → ℕ) (tree : Tree) (leaf layer : ℕ) (included : Bool) (bits : List Bool) → IsLeafOf tree leaf → ValuesOf tree values →
    IsInclusion known values leaf layer included → IsCutOf (first_bits known values tree leaf layer included) bits → scan_first known tree leaf layer bits ≡ None
first_stop known values tree leaf layer included bits l v is c = by (scan_first known tree leaf layer bits) refl
  where
    by : (o : Option Asked) → scan_first known tree leaf layer bits ≡ o → o ≡ None
    by None eq = refl
    by (Some a) eq =
        let w = known_values a.tree (first_leaf known tree leaf layer bits a l eq).is in
        let r : FirstRead known w.0 tree leaf layer bits a = first_read known w.0 tree leaf layer bits a l eq w.1 in
        let front = first_bits known w.0 tree leaf layer a.below in
        let whole : first_bits known values tree leaf layer included ++ [] ≡ front ++ (a.rest ++ c.missing) =
        append-nil (first_bits known values tree leaf layer included) ∙ c.begins ∙ ap (λ (x : List Bool). x ++ c.missing) r.bits_are ∙ append_assoc front a.rest c.missing in
        let one : Some (asked_is included (first_after known values tree leaf layer) []) ≡ Some (asked_is a.below (first_after known w.0 tree leaf layer) (a.rest ++ c.missing)) =
        sym (first_made known values tree leaf layer included [] l v is) ∙ ap (scan_first known tree leaf layer) whole ∙ first_made known w.0 tree leaf layer a.below (a.rest ++ c.missing) l r.before r.is in
        let same : asked_is included (first_after known values tree leaf layer) [] ≡ asked_is a.below (first_after known w.0 tree leaf layer) (a.rest ++ c.missing) = cc in
        absurd (none_left a.rest c.missing c.some (ap (λ (x : Asked). x.rest) same))

-- ---- its zero planes
pub record SomeZeros (known : Option ℕ) (tree : Tree) (leaf planes : ℕ) (bits : List Bool) : Type 0 where
  pub values : ℕ → ℕ
  pub agree : ValuesOf tree values
  pub cut_off : IsCutOf (zero_bits known values tree leaf planes) bits

pub zero_none : (known : Option ℕ) (tree : Tree) (leaf planes : ℕ) (bits : List Bool) → IsLeafOf tree leaf → scan_zeros known tree leaf planes bits ≡ None → SomeZeros known tree leaf planes bits
zero_none (Some z) tree leaf planes bits l h = absurd cc
zero_none None tree leaf planes bits l h = by long (known_values long.0.tree (zero_leaf None tree leaf planes (padded all bits) long.0 l long.1).is)
  where
    all : ℕ
    all = planes * (length (way tree.wide tree.high leaf) * planes)

    long : (z : Zeros) × (scan_more_zeros tree leaf 0 planes (padded all bits) ≡ Some z)
    long = zeros_long leaf planes (length (way tree.wide tree.high leaf) * planes) planes 0 (length (way tree.wide tree.high leaf)) tree (padded all bits) refl (omega arith) (omega arith) (padded_long all bits)

    pick : (values : ℕ → ℕ) → ValuesOf tree values →
        IsCutOf (zero_bits None values tree leaf planes) bits ⊎ ((left : List Bool) × (bits ≡ zero_bits None values tree leaf planes ++ left)) → SomeZeros None tree leaf planes bits
    pick values v (inl c) = record { values = values; agree = v; cut_off = c }
    pick values v (inr p) = absurd (let x : Some (zeros_is (counted None values leaf planes) (zero_after None values tree leaf planes) p.0) ≡ None =
        sym (zero_made None values tree leaf planes p.0 l v) ∙ sym (ap (scan_zeros None tree leaf planes) p.1) ∙ h in cc)

    by : (a : (z : Zeros) × (scan_more_zeros tree leaf 0 planes (padded all bits) ≡ Some z)) → ((values : ℕ → ℕ) × ValuesOf a.0.tree values) → SomeZeros None tree leaf planes bits
    by a v =
        let r : ZeroRead None v.0 tree leaf planes (padded all bits) a.0 = zero_read None v.0 tree leaf planes (padded all bits) a.0 l a.1 v.1 in
        let q = zero_bits None v.0 tree leaf planes in
        pick v.0 r.before (front_of bits q (replicate all false) a.0.rest (padded_split all bits q a.0.rest r.bits_are))

pub zero_stop : (known : Option ℕ) (values : ℕ → ℕ) (tree : Tree) (leaf planes : ℕ) (bits : List Bool) → IsLeafOf tree leaf → ValuesOf tree values →
    IsCutOf (zero_bits known values tree leaf planes) bits → scan_zeros known tree leaf planes bits ≡ None
zero_stop known values tree leaf planes bits l v c = by (scan_zeros known tree leaf planes bits) refl
  where
    by : (o : Option Zeros) → scan_zeros known tree leaf planes bits ≡ o → o ≡ None
    by None eq = refl
    by (Some z) eq =
        let w = known_values z.tree (zero_leaf known tree leaf planes bits z l eq).is in
        let r : ZeroRead known w.0 tree leaf planes bits z = zero_read known w.0 tree leaf planes bits z l eq w.1 in
        let front = zero_bits known w.0 tree leaf planes in
        let whole : zero_bits known values tree leaf planes ++ [] ≡ front ++ (z.rest ++ c.missing) =
        append-nil (zero_bits known values tree leaf planes) ∙ c.begins ∙ ap (λ (x : List Bool). x ++ c.missing) r.bits_are ∙ append_assoc front z.rest c.missing in
        let one : Some (zeros_is (counted known values leaf planes) (zero_after known values tree leaf planes) []) ≡ Some (zeros_is (counted known w.0 leaf planes) (zero_after known w.0 tree leaf planes) (z.rest ++ c.missing)) =
        sym (zero_made known values tree leaf planes [] l v) ∙ ap (scan_zeros known tree leaf planes) whole ∙ zero_made known w.0 tree leaf planes (z.rest ++ c.missing) l r.before in
        let same : zeros_is (counted known values leaf planes) (zero_after known values tree leaf planes) [] ≡ zeros_is (counted known w.0 leaf planes) (zero_after known w.0 tree leaf planes) (z.rest ++ c.missing) = cc in
        absurd (none_left z.rest c.missing c.some (ap (λ (x : Zeros). x.rest) same))

-- ---- its passes, raise and lengths
abbrev pub EntryStops : ℕ → ℕ → ℕ → ℕ → Known → List Bool → Type 0
EntryStops style block planes z known bits = PassesStop bits ⊎ RaiseStops planes z known bits ⊎ PartsStop style block planes z known bits

option_none : {A B : Type 0} (f : A → B) (o : Option A) → or_bits (option_map f o) ≡ Err Bits → o ≡ None
option_none f None h = refl
option_none f (Some x) h = absurd cc

pub entry_none : (style block planes z : ℕ) (known : Known) (bits : List Bool) → scan_entry style block planes z known bits ≡ Err Bits → EntryStops style block planes z known bits
entry_none style block planes z known bits h = by (scan_passes bits) refl h
  where
    end : (p : Found ℕ) → PassesRead bits p → known.passes + p.value ≤ most_passes planes z → (o : Option (Found ℕ)) → scan_raise p.rest ≡ o →
        or_bits (option_and_then (on_raise style block known p.value) o) ≡ Err Bits → EntryStops style block planes z known bits
    end p r few None was h = inr (inl (record {
      passes = p.value;
      ones = length p.rest;
      has = record { count = r.count; few = few; stands = r.bits_are ∙ ap (λ (l : List Bool). pass_word p.value ++ l) (raise_none p.rest was) };
    }))
    end p r few (Some k) was h =
        let none = option_none (entry_of p.value k.value) (scan_parts (known.lblock + k.value) block known.passes (cut style known.passes p.value) k.rest) h in
        inr (inr (record {
          passes = p.value;
          raise = k.value;
          behind = k.rest;
          has = record { count = r.count; few = few; stands = r.bits_are ∙ ap (λ (l : List Bool). pass_word p.value ++ l) (raise_read p.rest k was) };
          stops = parts_none (known.lblock + k.value) block known.passes (cut style known.passes p.value) k.rest none;
        }))

    pick : (p : Found ℕ) → PassesRead bits p → (b : Bool) → nat_lt (most_passes planes z) (known.passes + p.value) ≡ b →
        cond b (Err Planes) (or_bits (scan_lengths style block known p.value p.rest)) ≡ Err Bits → EntryStops style block planes z known bits
    pick p r true e h = absurd (let x : Planes ≡ Bits = cc in cc)
    pick p r false e h = end p r (ltb-false (most_passes planes z) (known.passes + p.value) e) (scan_raise p.rest) refl h

    by : (o : Option (Found ℕ)) → scan_passes bits ≡ o → and_then (or_bits o) (on_passes style block planes z known) ≡ Err Bits → EntryStops style block planes z known bits
    by None eq h = inl (passes_none_of bits eq)
    by (Some p) eq h = pick p (passes_read bits p eq) (nat_lt (most_passes planes z) (known.passes + p.value)) refl h

pub entry_stop : (style block planes z : ℕ) (known : Known) (bits : List Bool) → EntryStops style block planes z known bits → scan_entry style block planes z known bits ≡ Err Bits
entry_stop style block planes z known bits s = by s
  where
    after : (n : ℕ) (behind : List Bool) → HasPasses planes z known n bits behind → scan_entry style block planes z known bits ≡ or_bits (scan_lengths style block known n behind)
    after n behind x =
        ap (λ (l : List Bool). scan_entry style block planes z known l) x.stands
        ∙ ap (λ (o : Option (Found ℕ)). and_then (or_bits o) (on_passes style block planes z known)) (passes_made n behind x.count)
        ∙ ap (λ (b : Bool). cond b (Err Planes) (or_bits (scan_lengths style block known n behind))) (le-ltb (most_passes planes z) (known.passes + n) x.few)

    by : EntryStops style block planes z known bits → scan_entry style block planes z known bits ≡ Err Bits
    by (inl p) = ap (λ (o : Option (Found ℕ)). and_then (or_bits o) (on_passes style block planes z known)) (passes_stop bits p)
    by (inr (inl r)) = after r.passes (replicate r.ones true) r.has ∙ ap (λ (o : Option (Found ℕ)). or_bits (option_and_then (on_raise style block known r.passes) o)) (raise_stops r.ones)
    by (inr (inr p)) = after p.passes (raise_word p.raise ++ p.behind) p.has
        ∙ ap (λ (o : Option (Found ℕ)). or_bits (option_and_then (on_raise style block known p.passes) o)) (raise_made p.raise p.behind)
        ∙ ap (λ (o : Option (Found (List HeaderPart))). or_bits (option_map (entry_of p.passes p.raise) o)) (parts_stop (known.lblock + p.raise) block known.passes (cut style known.passes p.passes) p.behind p.stops)
