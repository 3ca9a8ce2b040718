-- The same of whole blocks.
use Rattle.std.proofs.Common.{◌≡◌, ℕ, ◌<◌, nat_le, Bool, true, false, List, ◌++◌, refl, ap, ◌∙◌, subst, cond, Some, None, Ok, Err, Result, inl, inr, ◌⊎◌}
use Rattle.std.specs.Prelude.{Option}
use Rattle.std.proofs.lemmas.Bool.{leb-false, lt-leb}
use Rattle.jx_tagtree.specs.TagTree.{Tree, ValuesOf}
use Rattle.jx_tagtree.proofs.QuestionLemmas.{known_values}
use Rattle.jx_packet_header.specs.declared.HeadFault.{HeadFault}
use Rattle.jx_packet_header.specs.declared.HeadFault.TheVariants.{Bits, Planes}
use Rattle.jx_packet_header.specs.Packet.{Cells, Values, Agree, Entry, nothing, block_at, zero_bits, zero_after, zero_planes, first_bits, first_after, IsInclusion}
use Rattle.jx_packet_header.specs.Unread.{IsCutOf, ToldStops, Stops}
use Rattle.jx_packet_header.specs.Scan.{Found, or_bits, and_then, Asked, scan_first, Zeros, scan_zeros, scan_entry, Told, told_of, and_told, scan_included, scan_block}
use Rattle.jx_packet_header.proofs.AskLemmas.{zeros_is}
use Rattle.jx_packet_header.proofs.BlockLemmas.{IsBlockOf, told_is, on_zeros, on_first, first_made, first_read, FirstRead, first_leaf, zero_made, zero_read, zero_leaf, counted, counted_below, below_counted}
use Rattle.jx_packet_header.proofs.StopLemmas.{first_none, first_stop, SomeZeros, zero_none, zero_stop, EntryStops, entry_none, entry_stop}

-- ---- where it isn't read it stops, for some values
pub record SomeStop (style layer block leaf : ℕ) (cells : Cells) (bits : List Bool) : Type 0 where
  pub values : Values
  pub agree : Agree cells values
  pub stops : Stops values style layer block leaf cells bits

-- what comes after the first bits of an included block
record SomeTold (style block leaf : ℕ) (cells : Cells) (bits : List Bool) : Type 0 where
  pub zeros : ℕ → ℕ
  pub agree : ValuesOf cells.zeros zeros
  pub stops : (first : ℕ → ℕ) →
      IsCutOf (zero_bits (block_at cells leaf).zero zeros cells.zeros leaf cells.planes) bits ⊎ ToldStops (record { first = first; zeros = zeros }) style block leaf cells bits

told_stops : (style block leaf : ℕ) (cells : Cells) (bits : List Bool) (z : Zeros) → IsBlockOf cells leaf → scan_zeros (block_at cells leaf).zero cells.zeros leaf cells.planes bits ≡ Some z →
    z.zeros < cells.planes → EntryStops style block cells.planes z.zeros (block_at cells leaf) z.rest → SomeTold style block leaf cells bits
told_stops style block leaf cells bits z b was lt s =
    let v = known_values z.tree (zero_leaf (block_at cells leaf).zero cells.zeros leaf cells.planes bits z b.in_zeros was).is in
    let q = zero_read (block_at cells leaf).zero v.0 cells.zeros leaf cells.planes bits z b.in_zeros was v.1 in
    let lt' : counted (block_at cells leaf).zero v.0 leaf cells.planes < cells.planes = subst (λ (n : ℕ). n < cells.planes) q.zeros_are lt in
    let same : z.zeros ≡ zero_planes (block_at cells leaf).zero v.0 leaf = q.zeros_are ∙ below_counted (block_at cells leaf).zero v.0 leaf cells.planes lt' in
    record {
      zeros = v.0;
      agree = q.before;
      stops = λ first. inr (record {
        below = subst (λ (n : ℕ). n < cells.planes) same lt;
        behind = z.rest;
        stands = q.bits_are;
        stops = subst (λ (n : ℕ). EntryStops style block cells.planes n (block_at cells leaf) z.rest) same s;
      });
    }

included_none : (style block leaf : ℕ) (cells : Cells) (first : Tree) (bits : List Bool) → IsBlockOf cells leaf →
    scan_included style block leaf (record cells { first = first }) bits ≡ Err Bits → SomeTold style block leaf cells bits
included_none style block leaf cells first bits b h = by (scan_zeros (block_at cells leaf).zero cells.zeros leaf cells.planes bits) refl h
  where
    inner : (g : Found Entry → Told) (r : Result (Found Entry) HeadFault) → and_told g r ≡ Err Bits → r ≡ Err Bits
    inner g (Err e) h = let is : e ≡ Bits = cc in ap (λ (x : HeadFault). let y : Result (Found Entry) HeadFault = Err x in y) is
    inner g (Ok f) h = absurd cc

    pick : (z : Zeros) → scan_zeros (block_at cells leaf).zero cells.zeros leaf cells.planes bits ≡ Some z → (c : Bool) → nat_le cells.planes z.zeros ≡ c →
        cond c (Err Planes) (and_told (told_of (record cells { first = first; zeros = z.tree }) leaf z.zeros) (scan_entry style block cells.planes z.zeros (block_at cells leaf) z.rest)) ≡ Err Bits →
        SomeTold style block leaf cells bits
    pick z was true c h = absurd (let x : Planes ≡ Bits = cc in cc)
    pick z was false c h =
        let i = inner (told_of (record cells { first = first; zeros = z.tree }) leaf z.zeros) (scan_entry style block cells.planes z.zeros (block_at cells leaf) z.rest) h in
        told_stops style block leaf cells bits z b was (leb-false cells.planes z.zeros c) (entry_none style block cells.planes z.zeros (block_at cells leaf) z.rest i)

    by : (o : Option Zeros) → scan_zeros (block_at cells leaf).zero cells.zeros leaf cells.planes bits ≡ o →
        and_then (or_bits o) (on_zeros style block leaf (record cells { first = first })) ≡ Err Bits → SomeTold style block leaf cells bits
    by None was h =
        let s : SomeZeros (block_at cells leaf).zero cells.zeros leaf cells.planes bits = zero_none (block_at cells leaf).zero cells.zeros leaf cells.planes bits b.in_zeros was in
        record { zeros = s.values; agree = s.agree; stops = λ f. inl s.cut_off }
    by (Some z) was h = pick z was (nat_le cells.planes z.zeros) refl h

pub block_none : (style layer block leaf : ℕ) (cells : Cells) (bits : List Bool) → IsBlockOf cells leaf → scan_block style layer block leaf cells bits ≡ Err Bits → SomeStop style layer block leaf cells bits
block_none style layer block leaf cells bits b h = by (scan_first (block_at cells leaf).zero cells.first leaf layer bits) refl h
  where
    included : (s : Asked) → scan_first (block_at cells leaf).zero cells.first leaf layer bits ≡ Some s → s.below ≡ true → SomeTold style block leaf cells s.rest → SomeStop style layer block leaf cells bits
    included s eq e t =
        let f = known_values s.tree (first_leaf (block_at cells leaf).zero cells.first leaf layer bits s b.in_first eq).is in
        let r : FirstRead (block_at cells leaf).zero f.0 cells.first leaf layer bits s = first_read (block_at cells leaf).zero f.0 cells.first leaf layer bits s b.in_first eq f.1 in
        record {
          values = record { first = f.0; zeros = t.zeros };
          agree = record { in_first = r.before; in_zeros = t.agree };
          stops = inr (record {
            first = subst (λ (x : Bool). IsInclusion (block_at cells leaf).zero f.0 leaf layer x) e r.is;
            behind = s.rest;
            stands = r.bits_are ∙ ap (λ (x : Bool). first_bits (block_at cells leaf).zero f.0 cells.first leaf layer x ++ s.rest) e;
            stops = t.stops f.0;
          });
        }

    pick : (s : Asked) → scan_first (block_at cells leaf).zero cells.first leaf layer bits ≡ Some s → (c : Bool) → s.below ≡ c →
        cond c (scan_included style block leaf (record cells { first = s.tree }) s.rest) (Ok (told_is nothing (record cells { first = s.tree }) s.rest)) ≡ Err Bits → SomeStop style layer block leaf cells bits
    pick s eq true e h = included s eq e (included_none style block leaf cells s.tree s.rest b h)
    pick s eq false e h = absurd cc

    by : (o : Option Asked) → scan_first (block_at cells leaf).zero cells.first leaf layer bits ≡ o → and_then (or_bits o) (on_first style block leaf cells) ≡ Err Bits → SomeStop style layer block leaf cells bits
    by None eq h =
        let s = first_none (block_at cells leaf).zero cells.first leaf layer bits b.in_first eq in
        let v = known_values cells.zeros b.in_zeros.is in
        record {
          values = record { first = s.values; zeros = v.0 };
          agree = record { in_first = s.agree; in_zeros = v.1 };
          stops = inl (record { included = s.included; is = s.is; cut_off = s.cut_off });
        }
    by (Some s) eq h = pick s eq s.below refl h

-- ---- where it stops it isn't read
pub block_stop : (v : Values) (style layer block leaf : ℕ) (cells : Cells) (bits : List Bool) → IsBlockOf cells leaf → Agree cells v → Stops v style layer block leaf cells bits →
    scan_block style layer block leaf cells bits ≡ Err Bits
block_stop v style layer block leaf cells bits b a s = by s
  where
    told : (behind : List Bool) → ToldStops v style block leaf cells behind →
        scan_included style block leaf (record cells { first = first_after (block_at cells leaf).zero v.first cells.first leaf layer }) behind ≡ Err Bits
    told behind t =
        let known = block_at cells leaf in
        let cells' : Cells = record cells { first = first_after known.zero v.first cells.first leaf layer } in
        let tree = zero_after known.zero v.zeros cells.zeros leaf cells.planes in
        let z = zero_planes known.zero v.zeros leaf in
        ap (λ (q : List Bool). scan_included style block leaf cells' q) t.stands
        ∙ ap (λ (o : Option Zeros). and_then (or_bits o) (on_zeros style block leaf cells')) (zero_made known.zero v.zeros cells.zeros leaf cells.planes t.behind b.in_zeros a.in_zeros)
        ∙ ap (λ (n : ℕ). on_zeros style block leaf cells' (zeros_is n tree t.behind)) (counted_below known.zero v.zeros leaf cells.planes t.below)
        ∙ ap (λ (x : Bool). cond x (Err Planes) (and_told (told_of (record cells' { zeros = tree }) leaf z) (scan_entry style block cells.planes z known t.behind))) (lt-leb cells.planes z t.below)
        ∙ ap (and_told (told_of (record cells' { zeros = tree }) leaf z)) (entry_stop style block cells.planes z known t.behind t.stops)

    behind_first : (behind : List Bool) → IsCutOf (zero_bits (block_at cells leaf).zero v.zeros cells.zeros leaf cells.planes) behind ⊎ ToldStops v style block leaf cells behind →
        scan_included style block leaf (record cells { first = first_after (block_at cells leaf).zero v.first cells.first leaf layer }) behind ≡ Err Bits
    behind_first behind (inl c) =
        ap (λ (o : Option Zeros). and_then (or_bits o) (on_zeros style block leaf (record cells { first = first_after (block_at cells leaf).zero v.first cells.first leaf layer })))
        (zero_stop (block_at cells leaf).zero v.zeros cells.zeros leaf cells.planes behind b.in_zeros a.in_zeros c)
    behind_first behind (inr t) = told behind t

    by : Stops v style layer block leaf cells bits → scan_block style layer block leaf cells bits ≡ Err Bits
    by (inl f) =
        ap (λ (o : Option Asked). and_then (or_bits o) (on_first style block leaf cells))
        (first_stop (block_at cells leaf).zero v.first cells.first leaf layer f.included bits b.in_first a.in_first f.is f.cut_off)
    by (inr i) =
        ap (λ (q : List Bool). scan_block style layer block leaf cells q) i.stands
        ∙ ap (λ (o : Option Asked). and_then (or_bits o) (on_first style block leaf cells)) (first_made (block_at cells leaf).zero v.first cells.first leaf layer true i.behind b.in_first a.in_first i.first)
        ∙ behind_first i.behind i.stops
