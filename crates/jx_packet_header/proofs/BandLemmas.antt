-- What is read of the blocks of a band, and of the bands of a precinct.
use Rattle.std.proofs.Common.{◌≡◌, ◌≢◌, ℕ, zero, suc, ◌+◌, ◌-◌, ◌*◌, ◌<◌, ◌≤◌, ◌^◌, min, nat_le, Bool, true, false, List, [], ◌∷◌, ◌++◌, length, refl, sym, ap, ◌∙◌, subst, cond, arith, append_assoc, Some, None, Ok, Err, Result, inl, inr, ◌⊎◌, length-set, length-append, get_or, set, ◌≢◌, get_or-set_same, get_or-set_other}
use Rattle.std.specs.Prelude.{Option}
use Rattle.std.specs.Bool.{MatchBool}
use Rattle.std.proofs.lemmas.Bool.{cases_eq, cases_lt, leb-false, leb-true}
use Rattle.std.proofs.lemmas.List.{set_past, get_or_default, append-nil}
use Rattle.jx_base.specs.Passes.{end_pass}
use Rattle.jx_tagtree.specs.Header.{low_bits}
use Rattle.jx_tagtree.proofs.HeaderLemmas.{length-low_bits}
use Rattle.jx_tagtree.specs.Shape.{IsShape}
use Rattle.jx_tagtree.specs.TagTree.{Tree, node_at, ValuesOf, IsTree, tree_after}
use Rattle.jx_tagtree.specs.Questions.{Question, after_all}
use Rattle.jx_tagtree.proofs.QuestionLemmas.{known_values}
use Rattle.jx_packet_header.specs.declared.HeaderPart.{HeaderPart}
use Rattle.jx_packet_header.specs.declared.HeadFault.{HeadFault}
use Rattle.jx_packet_header.specs.declared.HeadFault.TheVariants.{Bits, Planes, NoMemory}
use Rattle.jx_packet_header.specs.Said.{Refuses, BandSaid}
use Rattle.jx_packet_header.specs.Writable.{SameSize}
use Rattle.jx_packet_header.specs.declared.known.Known.{Known}
use Rattle.jx_packet_header.specs.Words.{pass_word, raise_word}
use Rattle.jx_packet_header.specs.Parts.{one_more, cut, width, AreHeaderParts, length_bits}
use Rattle.jx_packet_header.specs.Packet.{Cells, Values, Agree, Entry, nothing, contributes, block_at, block_after, unknown_block, told_bits, included_bits, most_passes, IsIncluded, asked, zero_questions, zero_bits, zero_after, zero_planes, first_bits, first_after, IsInclusion, entry_bits, cells_first, cells_included, entry_after, IsEntry, ReachesPlanes, PassesPlanes, Breaks, blocks_bits, blocks_after, AreEntries, parts_told, BandTold, IsBandTold, band_bits, band_after, bands_bits, bands_after, AreBandsTold, AgreeAfter, bands_parts, BandBreaks, BandStands, BandsBreak}
use Rattle.jx_packet_header.specs.Kept.{AreTrees, IsLeafOf, IsKnown, AreSettled, IsBand, IsSilent}
use Rattle.jx_packet_header.specs.Scan.{Found, or_bits, and_then, Asked, scan_first, Zeros, scan_zeros, scan_entry, Told, told_of, and_told, scan_included, scan_block, AllTold, after_told, and_parts, scan_blocks, scan_band, BandsRead, after_band, and_band, scan_bands}
use Rattle.jx_packet_header.proofs.AskLemmas.{asked_is, ask_past, after_leaf, after_agrees}
use Rattle.jx_packet_header.proofs.SettledLemmas.{first_unsettled, entry_settled, entry_silent}
use Rattle.jx_packet_header.proofs.BlockLemmas.{IsBlockOf, told_is, on_zeros, on_first, first_leaf, first_agrees, zero_leaf, zero_read, below_counted, reaches_counted, counted, entry_breaks, TooMany, block_made, block_over, BlockRead, block_read, FirstRead, first_read}

-- ---- trees stay trees
asked_agree : (values : ℕ → ℕ) (leaf n more : ℕ) (tree : Tree) → IsLeafOf tree leaf → ValuesOf tree values → ValuesOf (after_all values tree (asked leaf n more)) values
asked_agree values leaf n zero tree l v = v
asked_agree values leaf n (suc more) tree l v = asked_agree values leaf (n + 1) more (tree_after values tree leaf (n + 1)) (after_leaf tree leaf (n + 1) l values v) (after_agrees tree leaf (n + 1) l values v)

zero_agree : (known : Option ℕ) (values : ℕ → ℕ) (tree : Tree) (leaf planes : ℕ) → IsLeafOf tree leaf → ValuesOf tree values → ValuesOf (zero_after known values tree leaf planes) values
zero_agree None values tree leaf planes l v = asked_agree values leaf 0 (min planes (values leaf + 1)) tree l v
zero_agree (Some z) values tree leaf planes l v = v

pub entry_agrees : (v : Values) (layer leaf : ℕ) (cells : Cells) (e : Entry) → IsBlockOf cells leaf → Agree cells v → Agree (entry_after v layer leaf cells e) v
entry_agrees v layer leaf cells e b a = by (contributes e)
  where
    by : (c : Bool) → Agree (cond c (cells_included v leaf (cells_first v layer leaf cells) e) (cells_first v layer leaf cells)) v
    by true = record {
      in_first = first_agrees (block_at cells leaf).zero v.first cells.first leaf layer b.in_first a.in_first;
      in_zeros = zero_agree (block_at cells leaf).zero v.zeros cells.zeros leaf cells.planes b.in_zeros a.in_zeros;
    }
    by false = record { in_first = first_agrees (block_at cells leaf).zero v.first cells.first leaf layer b.in_first a.in_first; in_zeros = a.in_zeros }

pub block_of : (cells : Cells) (leaf : ℕ) → AreTrees cells → leaf < length cells.blocks → IsBlockOf cells leaf
block_of cells leaf t lt =
    let inside : leaf < cells.first.wide * cells.first.high = subst (λ (n : ℕ). leaf < n) t.long lt in
    record {
      in_first = record { shape = t.shape; is = t.first_is; inside = inside };
      in_zeros = record {
        shape = subst (λ (w : ℕ). IsShape w cells.zeros.high) (sym t.wide) (subst (λ (h : ℕ). IsShape cells.first.wide h) (sym t.high) t.shape);
        is = t.zeros_is;
        inside = subst (λ (w : ℕ). leaf < w * cells.zeros.high) (sym t.wide) (subst (λ (h : ℕ). leaf < cells.first.wide * h) (sym t.high) inside);
      };
    }

-- the block's leaves stay leaves
included_leaf : (style block leaf : ℕ) (cells : Cells) (bits : List Bool) (t : Told) → IsBlockOf cells leaf → scan_included style block leaf cells bits ≡ Ok t → IsBlockOf t.cells leaf
included_leaf style block leaf cells bits t b h = by (scan_zeros (block_at cells leaf).zero cells.zeros leaf cells.planes bits) refl h
  where
    last : (z : Zeros) → IsLeafOf z.tree leaf → (r : Result (Found Entry) HeadFault) → and_told (told_of (record cells { zeros = z.tree }) leaf z.zeros) r ≡ Ok t → IsBlockOf t.cells leaf
    last z l (Err e) h = absurd cc
    last z l (Ok f) h = let is : told_of (record cells { zeros = z.tree }) leaf z.zeros f ≡ t = cc in
        subst (λ (x : Told). IsBlockOf x.cells leaf) is (record { in_first = b.in_first; in_zeros = l })

    pick : (z : Zeros) → IsLeafOf z.tree leaf → (c : Bool) →
        cond c (Err Planes) (and_told (told_of (record cells { zeros = z.tree }) leaf z.zeros) (scan_entry style block cells.planes z.zeros (block_at cells leaf) z.rest)) ≡ Ok t → IsBlockOf t.cells leaf
    pick z l true h = absurd cc
    pick z l false h = last z l (scan_entry style block cells.planes z.zeros (block_at cells leaf) z.rest) h

    by : (o : Option Zeros) → scan_zeros (block_at cells leaf).zero cells.zeros leaf cells.planes bits ≡ o → and_then (or_bits o) (on_zeros style block leaf cells) ≡ Ok t → IsBlockOf t.cells leaf
    by None eq h = absurd cc
    by (Some z) eq h = pick z (zero_leaf (block_at cells leaf).zero cells.zeros leaf cells.planes bits z b.in_zeros eq) (nat_le cells.planes z.zeros) h

block_leaf : (style layer block leaf : ℕ) (cells : Cells) (bits : List Bool) (t : Told) → IsBlockOf cells leaf → scan_block style layer block leaf cells bits ≡ Ok t → IsBlockOf t.cells leaf
block_leaf style layer block leaf cells bits t b h = by (scan_first (block_at cells leaf).zero cells.first leaf layer bits) refl h
  where
    pick : (s : Asked) → IsLeafOf s.tree leaf → (c : Bool) →
        cond c (scan_included style block leaf (record cells { first = s.tree }) s.rest) (Ok (told_is nothing (record cells { first = s.tree }) s.rest)) ≡ Ok t → IsBlockOf t.cells leaf
    pick s l true h = included_leaf style block leaf (record cells { first = s.tree }) s.rest t (record { in_first = l; in_zeros = b.in_zeros }) h
    pick s l false h = let is : told_is nothing (record cells { first = s.tree }) s.rest ≡ t = cc in
        subst (λ (x : Told). IsBlockOf x.cells leaf) is (record { in_first = l; in_zeros = b.in_zeros })

    by : (o : Option Asked) → scan_first (block_at cells leaf).zero cells.first leaf layer bits ≡ o → and_then (or_bits o) (on_first style block leaf cells) ≡ Ok t → IsBlockOf t.cells leaf
    by None eq h = absurd cc
    by (Some s) eq h = pick s (first_leaf (block_at cells leaf).zero cells.first leaf layer bits s b.in_first eq) s.below h

-- sizes stay
first_wide : (known : Option ℕ) (values : ℕ → ℕ) (tree : Tree) (leaf layer : ℕ) → (first_after known values tree leaf layer).wide ≡ tree.wide
first_wide None values tree leaf layer = refl
first_wide (Some z) values tree leaf layer = refl

first_high : (known : Option ℕ) (values : ℕ → ℕ) (tree : Tree) (leaf layer : ℕ) → (first_after known values tree leaf layer).high ≡ tree.high
first_high None values tree leaf layer = refl
first_high (Some z) values tree leaf layer = refl

all_wide : (values : ℕ → ℕ) (qs : List Question) (tree : Tree) → (after_all values tree qs).wide ≡ tree.wide
all_wide values [] tree = refl
all_wide values (q ∷ qs) tree = all_wide values qs (tree_after values tree q.leaf q.threshold)

all_high : (values : ℕ → ℕ) (qs : List Question) (tree : Tree) → (after_all values tree qs).high ≡ tree.high
all_high values [] tree = refl
all_high values (q ∷ qs) tree = all_high values qs (tree_after values tree q.leaf q.threshold)

zero_wide : (known : Option ℕ) (values : ℕ → ℕ) (tree : Tree) (leaf planes : ℕ) → (zero_after known values tree leaf planes).wide ≡ tree.wide
zero_wide None values tree leaf planes = all_wide values (zero_questions values leaf planes) tree
zero_wide (Some z) values tree leaf planes = refl

zero_high : (known : Option ℕ) (values : ℕ → ℕ) (tree : Tree) (leaf planes : ℕ) → (zero_after known values tree leaf planes).high ≡ tree.high
zero_high None values tree leaf planes = all_high values (zero_questions values leaf planes) tree
zero_high (Some z) values tree leaf planes = refl

pub entry_size : (v : Values) (layer leaf : ℕ) (cells : Cells) (e : Entry) → SameSize (entry_after v layer leaf cells e) cells
entry_size v layer leaf cells e = by (contributes e)
  where
    by : (c : Bool) → SameSize (cond c (cells_included v leaf (cells_first v layer leaf cells) e) (cells_first v layer leaf cells)) cells
    by true = record {
      wide = first_wide (block_at cells leaf).zero v.first cells.first leaf layer;
      high = first_high (block_at cells leaf).zero v.first cells.first leaf layer;
      zeros_wide = zero_wide (block_at cells leaf).zero v.zeros cells.zeros leaf cells.planes;
      zeros_high = zero_high (block_at cells leaf).zero v.zeros cells.zeros leaf cells.planes;
      long = length-set cells.blocks leaf (block_after (block_at cells leaf) (zero_planes (block_at cells leaf).zero v.zeros leaf) e);
      planes = refl;
    }
    by false = record {
      wide = first_wide (block_at cells leaf).zero v.first cells.first leaf layer;
      high = first_high (block_at cells leaf).zero v.first cells.first leaf layer;
      zeros_wide = refl;
      zeros_high = refl;
      long = refl;
      planes = refl;
    }

same_trees : (new old : Cells) → SameSize new old → AreTrees old → IsTree new.first → IsTree new.zeros → AreTrees new
same_trees new old s t f z = record {
  shape = subst (λ (w : ℕ). IsShape w new.first.high) (sym s.wide) (subst (λ (h : ℕ). IsShape old.first.wide h) (sym s.high) t.shape);
  wide = s.zeros_wide ∙ t.wide ∙ sym s.wide;
  high = s.zeros_high ∙ t.high ∙ sym s.high;
  first_is = f;
  zeros_is = z;
  long = s.long ∙ t.long ∙ ap (λ (w : ℕ). w * old.first.high) (sym s.wide) ∙ ap (λ (h : ℕ). new.first.wide * h) (sym s.high);
}

pub record BlockKept (new old : Cells) : Type 0 where
  pub trees : AreTrees new
  pub long : length new.blocks ≡ length old.blocks
  pub planes : new.planes ≡ old.planes

pub block_kept : (style layer block leaf : ℕ) (cells : Cells) (bits : List Bool) (t : Told) → AreTrees cells → leaf < length cells.blocks → scan_block style layer block leaf cells bits ≡ Ok t → BlockKept t.cells cells
block_kept style layer block leaf cells bits t trees lt h =
    let b = block_of cells leaf trees lt in
    let l = block_leaf style layer block leaf cells bits t b h in
    let f = known_values t.cells.first l.in_first.is in
    let z = known_values t.cells.zeros l.in_zeros.is in
    let v : Values = record { first = f.0; zeros = z.0 } in
    let r : BlockRead v style layer block leaf cells bits t = block_read v style layer block leaf cells bits t b h (record { in_first = f.1; in_zeros = z.1 }) in
    let s : SameSize t.cells cells = subst (λ (c : Cells). SameSize c cells) (sym r.cells_are) (entry_size v layer leaf cells t.entry) in
    record { trees = same_trees t.cells cells s trees l.in_first.is l.in_zeros.is; long = s.long; planes = s.planes }

-- the same of the definition
pub entry_kept : (v : Values) (style layer block leaf : ℕ) (cells : Cells) (e : Entry) → AreTrees cells → leaf < length cells.blocks → Agree cells v → IsEntry v style layer block leaf cells e →
    BlockKept (entry_after v layer leaf cells e) cells
entry_kept v style layer block leaf cells e trees lt a is =
    block_kept style layer block leaf cells (entry_bits v layer leaf cells e ++ []) (told_is e (entry_after v layer leaf cells e) []) trees lt (block_made v style layer block leaf cells e [] (block_of cells leaf trees lt) a is)

-- ---- a block that breaks its planes has values
pub record SomeBreak (layer leaf : ℕ) (cells : Cells) (bits : List Bool) : Type 0 where
  pub values : Values
  pub agree : Agree cells values
  pub breaks : Breaks values layer leaf cells bits

block_breaks : (style layer block leaf : ℕ) (cells : Cells) (bits : List Bool) → IsBlockOf cells leaf → scan_block style layer block leaf cells bits ≡ Err Planes → SomeBreak layer leaf cells bits
block_breaks style layer block leaf cells bits b h = by (scan_first (block_at cells leaf).zero cells.first leaf layer bits) refl h
  where
    whole : (s : Asked) → scan_first (block_at cells leaf).zero cells.first leaf layer bits ≡ Some s → s.below ≡ true → (z : Zeros) →
        scan_zeros (block_at cells leaf).zero cells.zeros leaf cells.planes s.rest ≡ Some z →
        ((v : Values) → ValuesOf z.tree v.zeros → ReachesPlanes v leaf cells s.rest ⊎ PassesPlanes v leaf cells s.rest) → SomeBreak layer leaf cells bits
    whole s eq e z was breaks =
        let f = known_values s.tree (first_leaf (block_at cells leaf).zero cells.first leaf layer bits s b.in_first eq).is in
        let g = known_values z.tree (zero_leaf (block_at cells leaf).zero cells.zeros leaf cells.planes s.rest z b.in_zeros was).is in
        let v : Values = record { first = f.0; zeros = g.0 } in
        let r : FirstRead (block_at cells leaf).zero f.0 cells.first leaf layer bits s = first_read (block_at cells leaf).zero f.0 cells.first leaf layer bits s b.in_first eq f.1 in
        let q = zero_read (block_at cells leaf).zero g.0 cells.zeros leaf cells.planes s.rest z b.in_zeros was g.1 in
        record {
          values = v;
          agree = record { in_first = r.before; in_zeros = q.before };
          breaks = record {
            first = subst (λ (x : Bool). IsInclusion (block_at cells leaf).zero f.0 leaf layer x) e r.is;
            behind = s.rest;
            stands = r.bits_are ∙ ap (λ (x : Bool). first_bits (block_at cells leaf).zero f.0 cells.first leaf layer x ++ s.rest) e;
            breaks = breaks v g.1;
          };
        }

    reach : (s : Asked) → (z : Zeros) → scan_zeros (block_at cells leaf).zero cells.zeros leaf cells.planes s.rest ≡ Some z → cells.planes ≤ z.zeros →
        (v : Values) → ValuesOf z.tree v.zeros → ReachesPlanes v leaf cells s.rest
    reach s z was le v a =
        let q = zero_read (block_at cells leaf).zero v.zeros cells.zeros leaf cells.planes s.rest z b.in_zeros was a in
        let le' : cells.planes ≤ counted (block_at cells leaf).zero v.zeros leaf cells.planes = subst (λ (n : ℕ). cells.planes ≤ n) q.zeros_are le in
        record { reach = reaches_counted (block_at cells leaf).zero v.zeros leaf cells.planes le'; rest = z.rest; stands = q.bits_are }

    pass : (s : Asked) → (z : Zeros) → scan_zeros (block_at cells leaf).zero cells.zeros leaf cells.planes s.rest ≡ Some z → z.zeros < cells.planes →
        TooMany cells.planes z.zeros (block_at cells leaf) z.rest → (v : Values) → ValuesOf z.tree v.zeros → PassesPlanes v leaf cells s.rest
    pass s z was lt m v a =
        let q = zero_read (block_at cells leaf).zero v.zeros cells.zeros leaf cells.planes s.rest z b.in_zeros was a in
        let lt' : counted (block_at cells leaf).zero v.zeros leaf cells.planes < cells.planes = subst (λ (n : ℕ). n < cells.planes) q.zeros_are lt in
        let same : z.zeros ≡ zero_planes (block_at cells leaf).zero v.zeros leaf = q.zeros_are ∙ below_counted (block_at cells leaf).zero v.zeros leaf cells.planes lt' in
        let m' : TooMany cells.planes (zero_planes (block_at cells leaf).zero v.zeros leaf) (block_at cells leaf) z.rest = subst (λ (n : ℕ). TooMany cells.planes n (block_at cells leaf) z.rest) same m in
        record {
          below = subst (λ (n : ℕ). n < cells.planes) same lt;
          passes = m'.passes;
          count = m'.count;
          over = m'.over;
          rest = m'.rest;
          stands = q.bits_are ∙ ap (λ (l : List Bool). zero_bits (block_at cells leaf).zero v.zeros cells.zeros leaf cells.planes ++ l) m'.stands;
        }

    inner : (style planes z : ℕ) (known : Known) (g : Found Entry → Told) (rest : List Bool) (r : Result (Found Entry) HeadFault) → and_told g r ≡ Err Planes → r ≡ Err Planes
    inner style planes z known g rest (Err e) h = let is : e ≡ Planes = cc in ap (λ (x : HeadFault). let y : Result (Found Entry) HeadFault = Err x in y) is
    inner style planes z known g rest (Ok f) h = absurd cc

    over : (s : Asked) → scan_first (block_at cells leaf).zero cells.first leaf layer bits ≡ Some s → s.below ≡ true → (z : Zeros) →
        scan_zeros (block_at cells leaf).zero cells.zeros leaf cells.planes s.rest ≡ Some z → (c : Bool) → nat_le cells.planes z.zeros ≡ c →
        cond c (Err Planes) (and_told (told_of (record cells { first = s.tree; zeros = z.tree }) leaf z.zeros) (scan_entry style block cells.planes z.zeros (block_at cells leaf) z.rest)) ≡ Err Planes →
        SomeBreak layer leaf cells bits
    over s eq e z was true c h = whole s eq e z was (λ v a. inl (reach s z was (leb-true cells.planes z.zeros c) v a))
    over s eq e z was false c h =
        let i = inner style cells.planes z.zeros (block_at cells leaf) (told_of (record cells { first = s.tree; zeros = z.tree }) leaf z.zeros) z.rest (scan_entry style block cells.planes z.zeros (block_at cells leaf) z.rest) h in
        let m = entry_breaks style block cells.planes z.zeros (block_at cells leaf) z.rest i in
        whole s eq e z was (λ v a. inr (pass s z was (leb-false cells.planes z.zeros c) m v a))

    zeros : (s : Asked) → scan_first (block_at cells leaf).zero cells.first leaf layer bits ≡ Some s → s.below ≡ true → (o : Option Zeros) →
        scan_zeros (block_at cells leaf).zero cells.zeros leaf cells.planes s.rest ≡ o → and_then (or_bits o) (on_zeros style block leaf (record cells { first = s.tree })) ≡ Err Planes →
        SomeBreak layer leaf cells bits
    zeros s eq e None was h = absurd cc
    zeros s eq e (Some z) was h = over s eq e z was (nat_le cells.planes z.zeros) refl h

    pick : (s : Asked) → scan_first (block_at cells leaf).zero cells.first leaf layer bits ≡ Some s → (c : Bool) → s.below ≡ c →
        cond c (scan_included style block leaf (record cells { first = s.tree }) s.rest) (Ok (told_is nothing (record cells { first = s.tree }) s.rest)) ≡ Err Planes → SomeBreak layer leaf cells bits
    pick s eq true e h = zeros s eq e (scan_zeros (block_at cells leaf).zero cells.zeros leaf cells.planes s.rest) refl h
    pick s eq false e h = absurd cc

    by : (o : Option Asked) → scan_first (block_at cells leaf).zero cells.first leaf layer bits ≡ o → and_then (or_bits o) (on_first style block leaf cells) ≡ Err Planes → SomeBreak layer leaf cells bits
    by None eq h = absurd cc
    by (Some s) eq h = pick s eq s.below refl h

-- ---- the blocks of a band
abbrev pub all_is : List HeaderPart → Cells → List Bool → AllTold
all_is parts cells rest = record { parts = parts; cells = cells; rest = rest }

abbrev on_block : ℕ → ℕ → ℕ → ℕ → ℕ → Told → Result AllTold HeadFault
on_block style layer base more leaf t = and_parts t.entry.parts (scan_blocks style layer base more (leaf + 1) t.cells t.rest)

blocks_made : (v : Values) (style layer base stop more leaf : ℕ) (cells : Cells) (es : List Entry) (rest : List Bool) → AreTrees cells → Agree cells v → stop ≡ length cells.blocks → leaf + more ≡ stop →
    AreEntries v style layer base stop leaf cells es →
    scan_blocks style layer base more leaf cells (blocks_bits v layer leaf cells es ++ rest) ≡ Ok (all_is (parts_told es) (blocks_after v layer leaf cells es) rest)
blocks_made v style layer base stop zero leaf cells [] rest t a all sum are = refl
blocks_made v style layer base stop (suc more) leaf cells [] rest t a all sum are = absurd (omega arith)
blocks_made v style layer base stop zero leaf cells (e ∷ es) rest t a all sum are = absurd (let lt : leaf < stop = are.0 in omega arith)
blocks_made v style layer base stop (suc more) leaf cells (e ∷ es) rest t a all sum are =
    let lt : leaf < length cells.blocks = subst (λ (n : ℕ). leaf < n) all are.0 in
    let next = entry_after v layer leaf cells e in
    let k = entry_kept v style layer (base + leaf) leaf cells e t lt a are.1 in
    let b = block_of cells leaf t lt in
    let behind = blocks_bits v layer (leaf + 1) next es in
    let again : scan_blocks style layer base more (leaf + 1) next (behind ++ rest) ≡ Ok (all_is (parts_told es) (blocks_after v layer (leaf + 1) next es) rest) =
    blocks_made v style layer base stop more (leaf + 1) next es rest k.trees (entry_agrees v layer leaf cells e b a) (all ∙ sym k.long) (omega arith) are.2 in
    ap (λ (q : List Bool). scan_blocks style layer base (suc more) leaf cells q) (append_assoc (entry_bits v layer leaf cells e) behind rest)
    ∙ ap (λ (r : Result Told HeadFault). and_then r (on_block style layer base more leaf)) (block_made v style layer (base + leaf) leaf cells e (behind ++ rest) b a are.1)
    ∙ ap (and_parts e.parts) again

blocks_over : (v : Values) (style layer base stop at more leaf : ℕ) (cells : Cells) (es : List Entry) (behind : List Bool) → AreTrees cells → Agree cells v → stop ≡ length cells.blocks → leaf + more ≡ stop → at < stop →
    AreEntries v style layer base at leaf cells es → Breaks v layer at (blocks_after v layer leaf cells es) behind →
    scan_blocks style layer base more leaf cells (blocks_bits v layer leaf cells es ++ behind) ≡ Err Planes
blocks_over v style layer base stop at zero leaf cells [] behind t a all sum lt are breaks = absurd (let e : leaf ≡ at = are in omega arith)
blocks_over v style layer base stop at (suc more) leaf cells [] behind t a all sum lt are breaks =
    let e : at ≡ leaf = sym are in
    let here : Breaks v layer leaf cells behind = subst (λ (n : ℕ). Breaks v layer n cells behind) e breaks in
    let lt' : leaf < length cells.blocks = (let i : leaf < stop = omega arith in subst (λ (n : ℕ). leaf < n) all i) in
    ap (λ (r : Result Told HeadFault). and_then r (on_block style layer base more leaf)) (block_over v style layer (base + leaf) leaf cells behind (block_of cells leaf t lt') a here)
blocks_over v style layer base stop at zero leaf cells (e ∷ es) behind t a all sum lt are breaks = absurd (let l : leaf < at = are.0 in omega arith)
blocks_over v style layer base stop at (suc more) leaf cells (e ∷ es) behind t a all sum lt are breaks =
    let lt' : leaf < length cells.blocks = (let l : leaf < at = are.0 in let i : leaf < stop = omega arith in subst (λ (n : ℕ). leaf < n) all i) in
    let next = entry_after v layer leaf cells e in
    let k = entry_kept v style layer (base + leaf) leaf cells e t lt' a are.1 in
    let b = block_of cells leaf t lt' in
    let front = blocks_bits v layer (leaf + 1) next es in
    ap (λ (q : List Bool). scan_blocks style layer base (suc more) leaf cells q) (append_assoc (entry_bits v layer leaf cells e) front behind)
    ∙ ap (λ (r : Result Told HeadFault). and_then r (on_block style layer base more leaf)) (block_made v style layer (base + leaf) leaf cells e (front ++ behind) b a are.1)
    ∙ ap (and_parts e.parts) (blocks_over v style layer base stop at more (leaf + 1) next es behind k.trees (entry_agrees v layer leaf cells e b a) (all ∙ sym k.long) (omega arith) lt are.2 breaks)

-- what was read, for some values
pub record BlocksGo (v : Values) (style layer base stop leaf : ℕ) (cells : Cells) (bits : List Bool) (es : List Entry) (a : AllTold) : Type 0 where
  pub before : Agree cells v
  pub are : AreEntries v style layer base stop leaf cells es
  pub bits_are : bits ≡ blocks_bits v layer leaf cells es ++ a.rest
  pub cells_are : a.cells ≡ blocks_after v layer leaf cells es

pub record BlocksRead (style layer base stop leaf : ℕ) (cells : Cells) (bits : List Bool) (a : AllTold) : Type 0 where
  pub kept : BlockKept a.cells cells
  pub entries : List Entry
  pub parts_are : a.parts ≡ parts_told entries
  pub go : (v : Values) → Agree a.cells v → BlocksGo v style layer base stop leaf cells bits entries a

blocks_read : (style layer base stop more leaf : ℕ) (cells : Cells) (bits : List Bool) (a : AllTold) → AreTrees cells → stop ≡ length cells.blocks → leaf + more ≡ stop →
    scan_blocks style layer base more leaf cells bits ≡ Ok a → BlocksRead style layer base stop leaf cells bits a
blocks_read style layer base stop zero leaf cells bits a t all sum h =
    let is : all_is [] cells bits ≡ a = cc in
    subst (λ (x : AllTold). BlocksRead style layer base stop leaf cells bits x) is (record {
      kept = record { trees = t; long = refl; planes = refl };
      entries = [];
      parts_are = refl;
      go = λ v agree. record { before = agree; are = omega arith; bits_are = refl; cells_are = refl };
    })
blocks_read style layer base stop (suc more) leaf cells bits a t all sum h =
    by (λ (next : Cells) (rest : List Bool) (x : AllTold) (k : AreTrees next) (l : stop ≡ length next.blocks) (e : scan_blocks style layer base more (leaf + 1) next rest ≡ Ok x).
    blocks_read style layer base stop more (leaf + 1) next rest x k l (omega arith) e) (scan_block style layer (base + leaf) leaf cells bits) refl h
  where
    lt : leaf < length cells.blocks
    lt = let i : leaf < stop = omega arith in subst (λ (n : ℕ). leaf < n) all i

    join : (u : Told) → scan_block style layer (base + leaf) leaf cells bits ≡ Ok u → (x : AllTold) → BlocksRead style layer base stop (leaf + 1) u.cells u.rest x → after_told u.entry.parts x ≡ a →
        BlocksRead style layer base stop leaf cells bits a
    join u eq x r is =
        let b = block_of cells leaf t lt in
        let k = block_kept style layer (base + leaf) leaf cells bits u t lt eq in
        subst (λ (y : AllTold). BlocksRead style layer base stop leaf cells bits y) is (record {
          kept = record { trees = r.kept.trees; long = r.kept.long ∙ k.long; planes = r.kept.planes ∙ k.planes };
          entries = u.entry ∷ r.entries;
          parts_are = ap (λ (ps : List HeaderPart). u.entry.parts ++ ps) r.parts_are;
          go = λ v agree. (
              let g : BlocksGo v style layer base stop (leaf + 1) u.cells u.rest r.entries x = r.go v agree in
              let o : BlockRead v style layer (base + leaf) leaf cells bits u = block_read v style layer (base + leaf) leaf cells bits u b eq g.before in
              let front = entry_bits v layer leaf cells u.entry in
              let next = entry_after v layer leaf cells u.entry in
              record {
                before = o.before;
                are = ((let i : leaf < stop = omega arith in i), o.is, subst (λ (c : Cells). AreEntries v style layer base stop (leaf + 1) c r.entries) o.cells_are g.are);
                bits_are = o.bits_are ∙ ap (λ (q : List Bool). front ++ q) g.bits_are
                    ∙ ap (λ (c : Cells). front ++ (blocks_bits v layer (leaf + 1) c r.entries ++ x.rest)) o.cells_are
                    ∙ sym (append_assoc front (blocks_bits v layer (leaf + 1) next r.entries) x.rest);
                cells_are = g.cells_are ∙ ap (λ (c : Cells). blocks_after v layer (leaf + 1) c r.entries) o.cells_are;
              });
        })

    last : ((next : Cells) (rest : List Bool) (x : AllTold) → AreTrees next → stop ≡ length next.blocks → scan_blocks style layer base more (leaf + 1) next rest ≡ Ok x →
        BlocksRead style layer base stop (leaf + 1) next rest x) →
        (u : Told) → scan_block style layer (base + leaf) leaf cells bits ≡ Ok u → (r : Result AllTold HeadFault) → scan_blocks style layer base more (leaf + 1) u.cells u.rest ≡ r →
        and_parts u.entry.parts r ≡ Ok a → BlocksRead style layer base stop leaf cells bits a
    last again u eq (Err e) was h = absurd cc
    last again u eq (Ok x) was h =
        let k = block_kept style layer (base + leaf) leaf cells bits u t lt eq in
        join u eq x (again u.cells u.rest x k.trees (all ∙ sym k.long) was) cc

    by : ((next : Cells) (rest : List Bool) (x : AllTold) → AreTrees next → stop ≡ length next.blocks → scan_blocks style layer base more (leaf + 1) next rest ≡ Ok x →
        BlocksRead style layer base stop (leaf + 1) next rest x) →
        (r : Result Told HeadFault) → scan_block style layer (base + leaf) leaf cells bits ≡ r → and_then r (on_block style layer base more leaf) ≡ Ok a → BlocksRead style layer base stop leaf cells bits a
    by again (Err e) eq h = absurd cc
    by again (Ok u) eq h = last again u eq (scan_blocks style layer base more (leaf + 1) u.cells u.rest) refl h

-- a band that breaks its planes has values
pub record SomeBlocksBreak (style layer base stop leaf : ℕ) (cells : Cells) (bits : List Bool) : Type 0 where
  pub values : Values
  pub agree : Agree cells values
  pub at : ℕ
  pub inside : at < stop
  pub entries : List Entry
  pub are : AreEntries values style layer base at leaf cells entries
  pub behind : List Bool
  pub stands : bits ≡ blocks_bits values layer leaf cells entries ++ behind
  pub breaks : Breaks values layer at (blocks_after values layer leaf cells entries) behind
  pub from : leaf ≤ at

same_fault : (parts : List HeaderPart) (r : Result AllTold HeadFault) → and_parts parts r ≡ Err Planes → r ≡ Err Planes
same_fault parts (Err e) h = let is : e ≡ Planes = cc in ap (λ (x : HeadFault). let y : Result AllTold HeadFault = Err x in y) is
same_fault parts (Ok x) h = absurd cc

blocks_breaks : (style layer base stop more leaf : ℕ) (cells : Cells) (bits : List Bool) → AreTrees cells → stop ≡ length cells.blocks → leaf + more ≡ stop →
    scan_blocks style layer base more leaf cells bits ≡ Err Planes → SomeBlocksBreak style layer base stop leaf cells bits
blocks_breaks style layer base stop zero leaf cells bits t all sum h = absurd cc
blocks_breaks style layer base stop (suc more) leaf cells bits t all sum h =
    by (λ (next : Cells) (rest : List Bool) (k : AreTrees next) (l : stop ≡ length next.blocks) (e : scan_blocks style layer base more (leaf + 1) next rest ≡ Err Planes).
    blocks_breaks style layer base stop more (leaf + 1) next rest k l (omega arith) e) (scan_block style layer (base + leaf) leaf cells bits) refl h
  where
    in_stop : leaf < stop
    in_stop = omega arith

    lt : leaf < length cells.blocks
    lt = subst (λ (n : ℕ). leaf < n) all in_stop

    join : (u : Told) → scan_block style layer (base + leaf) leaf cells bits ≡ Ok u → SomeBlocksBreak style layer base stop (leaf + 1) u.cells u.rest → SomeBlocksBreak style layer base stop leaf cells bits
    join u eq s =
        let v = s.values in
        let from : leaf + 1 ≤ s.at = s.from in
        let o : BlockRead v style layer (base + leaf) leaf cells bits u = block_read v style layer (base + leaf) leaf cells bits u (block_of cells leaf t lt) eq s.agree in
        let front = entry_bits v layer leaf cells u.entry in
        let next = entry_after v layer leaf cells u.entry in
        record {
          values = v;
          agree = o.before;
          at = s.at;
          inside = s.inside;
          entries = u.entry ∷ s.entries;
          are = ((let i : leaf < s.at = omega arith in i), o.is, subst (λ (c : Cells). AreEntries v style layer base s.at (leaf + 1) c s.entries) o.cells_are s.are);
          behind = s.behind;
          stands = o.bits_are ∙ ap (λ (q : List Bool). front ++ q) s.stands
              ∙ ap (λ (c : Cells). front ++ (blocks_bits v layer (leaf + 1) c s.entries ++ s.behind)) o.cells_are
              ∙ sym (append_assoc front (blocks_bits v layer (leaf + 1) next s.entries) s.behind);
          breaks = subst (λ (c : Cells). Breaks v layer s.at (blocks_after v layer (leaf + 1) c s.entries) s.behind) o.cells_are s.breaks;
          from = omega arith;
        }

    by : ((next : Cells) (rest : List Bool) → AreTrees next → stop ≡ length next.blocks → scan_blocks style layer base more (leaf + 1) next rest ≡ Err Planes → SomeBlocksBreak style layer base stop (leaf + 1) next rest) →
        (r : Result Told HeadFault) → scan_block style layer (base + leaf) leaf cells bits ≡ r → and_then r (on_block style layer base more leaf) ≡ Err Planes → SomeBlocksBreak style layer base stop leaf cells bits
    by again (Err e) eq h =
        let is : e ≡ Planes = cc in
        let was : scan_block style layer (base + leaf) leaf cells bits ≡ Err Planes = eq ∙ ap (λ (x : HeadFault). let y : Result Told HeadFault = Err x in y) is in
        let s = block_breaks style layer (base + leaf) leaf cells bits (block_of cells leaf t lt) was in
        record { values = s.values; agree = s.agree; at = leaf; inside = in_stop; entries = []; are = refl; behind = bits; stands = refl; breaks = s.breaks; from = omega arith }
    by again (Ok u) eq h =
        let k = block_kept style layer (base + leaf) leaf cells bits u t lt eq in
        join u eq (again u.cells u.rest k.trees (all ∙ sym k.long) (same_fault u.entry.parts (scan_blocks style layer base more (leaf + 1) u.cells u.rest) h))

-- ---- the bands of a precinct
abbrev pub AreAllTrees : List Cells → Type 0
AreAllTrees [] = Unit {0}
AreAllTrees (cells ∷ bands) = AreTrees cells × AreAllTrees bands

abbrev pub bands_is : List HeaderPart → List Cells → List Bool → BandsRead
bands_is parts bands rest = record { parts = parts; bands = bands; rest = rest }

abbrev pub on_band : ℕ → ℕ → ℕ → Cells → List Cells → AllTold → Result BandsRead HeadFault
on_band style layer base cells bands a = and_band a (scan_bands style layer (base + length cells.blocks) bands a.rest)

pub band_made : (style layer base : ℕ) (cells : Cells) (told : BandTold) (rest : List Bool) → AreTrees cells → IsBandTold style layer base cells told →
    scan_band style layer base cells (band_bits layer cells told ++ rest) ≡ Ok (all_is (parts_told told.entries) (band_after layer cells told) rest)
unfolding scan_band
band_made style layer base cells told rest t is =
    blocks_made told.values style layer base (length cells.blocks) (length cells.blocks) 0 cells told.entries rest t is.agree refl (omega arith) is.are

pub bands_made : (style layer base : ℕ) (bands : List Cells) (tolds : List BandTold) (rest : List Bool) → AreAllTrees bands → AreBandsTold style layer base bands tolds →
    scan_bands style layer base bands (bands_bits layer bands tolds ++ rest) ≡ Ok (bands_is (bands_parts tolds) (bands_after layer bands tolds) rest)
bands_made style layer base [] [] rest t are = refl
bands_made style layer base [] (told ∷ tolds) rest t are = absurd are
bands_made style layer base (cells ∷ bands) [] rest t are = absurd are
bands_made style layer base (cells ∷ bands) (told ∷ tolds) rest t are =
    let behind = bands_bits layer bands tolds in
    let a = all_is (parts_told told.entries) (band_after layer cells told) (behind ++ rest) in
    ap (λ (q : List Bool). scan_bands style layer base (cells ∷ bands) q) (append_assoc (band_bits layer cells told) behind rest)
    ∙ ap (λ (r : Result AllTold HeadFault). and_then r (on_band style layer base cells bands)) (band_made style layer base cells told (behind ++ rest) t.0 are.0)
    ∙ ap (and_band a) (bands_made style layer (base + length cells.blocks) bands tolds rest t.1 are.1)

pub band_over : (style layer base : ℕ) (cells : Cells) (bits : List Bool) → AreTrees cells → BandBreaks style layer base cells bits → scan_band style layer base cells bits ≡ Err Planes
unfolding scan_band
band_over style layer base cells bits t b =
    let k = b.breaks in
    ap (λ (q : List Bool). scan_blocks style layer base (length cells.blocks) 0 cells q) k.stands
    ∙ blocks_over b.values style layer base (length cells.blocks) k.at (length cells.blocks) 0 cells k.entries k.behind t b.agree refl (omega arith) k.inside k.are k.breaks

pub bands_over : (style layer base : ℕ) (bands : List Cells) (bits : List Bool) → AreAllTrees bands → BandsBreak style layer base bands bits → scan_bands style layer base bands bits ≡ Err Planes
bands_over style layer base [] bits t b = absurd b
bands_over style layer base (cells ∷ bands) bits t b =
    by (λ (q : List Bool) (x : BandsBreak style layer (base + length cells.blocks) bands q). bands_over style layer (base + length cells.blocks) bands q t.1 x) b
  where
    by : ((q : List Bool) → BandsBreak style layer (base + length cells.blocks) bands q → scan_bands style layer (base + length cells.blocks) bands q ≡ Err Planes) →
        BandBreaks style layer base cells bits ⊎ ((behind : List Bool) × BandStands style layer base cells bits behind × BandsBreak style layer (base + length cells.blocks) bands behind) →
        scan_bands style layer base (cells ∷ bands) bits ≡ Err Planes
    by again (inl x) = ap (λ (r : Result AllTold HeadFault). and_then r (on_band style layer base cells bands)) (band_over style layer base cells bits t.0 x)
    by again (inr x) =
        let s = x.1 in
        let a = all_is (parts_told s.told.entries) (band_after layer cells s.told) x.0 in
        ap (λ (q : List Bool). scan_bands style layer base (cells ∷ bands) q) s.stands
        ∙ ap (λ (r : Result AllTold HeadFault). and_then r (on_band style layer base cells bands)) (band_made style layer base cells s.told x.0 t.0 s.is)
        ∙ ap (and_band a) (again x.0 x.2)

-- what was read of bands
pub record BandsGo (style layer base : ℕ) (bands : List Cells) (bits : List Bool) (b : BandsRead) : Type 0 where
  pub tolds : List BandTold
  pub are : AreBandsTold style layer base bands tolds
  pub bits_are : bits ≡ bands_bits layer bands tolds ++ b.rest
  pub parts_are : b.parts ≡ bands_parts tolds
  pub bands_are : b.bands ≡ bands_after layer bands tolds
  pub trees : AreAllTrees b.bands

pub band_read : (style layer base : ℕ) (cells : Cells) (bits : List Bool) (a : AllTold) → AreTrees cells → scan_band style layer base cells bits ≡ Ok a → BlocksRead style layer base (length cells.blocks) 0 cells bits a
unfolding scan_band
band_read style layer base cells bits a t h = blocks_read style layer base (length cells.blocks) (length cells.blocks) 0 cells bits a t refl (omega arith) h

pub record BandGo (style layer base : ℕ) (cells : Cells) (bits : List Bool) (a : AllTold) : Type 0 where
  pub told : BandTold
  pub is : IsBandTold style layer base cells told
  pub bits_are : bits ≡ band_bits layer cells told ++ a.rest
  pub parts_are : a.parts ≡ parts_told told.entries
  pub cells_are : a.cells ≡ band_after layer cells told
  pub kept : BlockKept a.cells cells

pub band_go : (style layer base : ℕ) (cells : Cells) (bits : List Bool) (a : AllTold) → AreTrees cells → scan_band style layer base cells bits ≡ Ok a → BandGo style layer base cells bits a
band_go style layer base cells bits a t h =
    let r = band_read style layer base cells bits a t h in
    let f = known_values a.cells.first r.kept.trees.first_is in
    let z = known_values a.cells.zeros r.kept.trees.zeros_is in
    let v : Values = record { first = f.0; zeros = z.0 } in
    let g : BlocksGo v style layer base (length cells.blocks) 0 cells bits r.entries a = r.go v (record { in_first = f.1; in_zeros = z.1 }) in
    record {
      told = record { values = v; entries = r.entries };
      is = record { agree = g.before; are = g.are };
      bits_are = g.bits_are;
      parts_are = r.parts_are;
      cells_are = g.cells_are;
      kept = r.kept;
    }

pub bands_read : (style layer base : ℕ) (bands : List Cells) (bits : List Bool) (b : BandsRead) → AreAllTrees bands → scan_bands style layer base bands bits ≡ Ok b → BandsGo style layer base bands bits b
bands_read style layer base [] bits b t h =
    let is : bands_is [] [] bits ≡ b = cc in
    subst (λ (x : BandsRead). BandsGo style layer base [] bits x) is (record { tolds = []; are = tt; bits_are = refl; parts_are = refl; bands_are = refl; trees = tt })
bands_read style layer base (cells ∷ bands) bits b t h =
    by (λ (q : List Bool) (x : BandsRead) (e : scan_bands style layer (base + length cells.blocks) bands q ≡ Ok x). bands_read style layer (base + length cells.blocks) bands q x t.1 e)
    (scan_band style layer base cells bits) refl h
  where
    join : (a : AllTold) → scan_band style layer base cells bits ≡ Ok a → (x : BandsRead) → BandsGo style layer (base + length cells.blocks) bands a.rest x → after_band a x ≡ b →
        BandsGo style layer base (cells ∷ bands) bits b
    join a eq x g is =
        let o = band_go style layer base cells bits a t.0 eq in
        let front = band_bits layer cells o.told in
        subst (λ (y : BandsRead). BandsGo style layer base (cells ∷ bands) bits y) is (record {
          tolds = o.told ∷ g.tolds;
          are = (o.is, g.are);
          bits_are = o.bits_are ∙ ap (λ (q : List Bool). front ++ q) g.bits_are ∙ sym (append_assoc front (bands_bits layer bands g.tolds) x.rest);
          parts_are = ap (λ (ps : List HeaderPart). ps ++ x.parts) o.parts_are ∙ ap (λ (ps : List HeaderPart). parts_told o.told.entries ++ ps) g.parts_are;
          bands_are = ap (λ (c : Cells). c ∷ x.bands) o.cells_are ∙ ap (λ (cs : List Cells). band_after layer cells o.told ∷ cs) g.bands_are;
          trees = (o.kept.trees, g.trees);
        })

    last : ((q : List Bool) (x : BandsRead) → scan_bands style layer (base + length cells.blocks) bands q ≡ Ok x → BandsGo style layer (base + length cells.blocks) bands q x) →
        (a : AllTold) → scan_band style layer base cells bits ≡ Ok a → (r : Result BandsRead HeadFault) → scan_bands style layer (base + length cells.blocks) bands a.rest ≡ r →
        and_band a r ≡ Ok b → BandsGo style layer base (cells ∷ bands) bits b
    last again a eq (Err e) was h = absurd cc
    last again a eq (Ok x) was h = join a eq x (again a.rest x was) cc

    by : ((q : List Bool) (x : BandsRead) → scan_bands style layer (base + length cells.blocks) bands q ≡ Ok x → BandsGo style layer (base + length cells.blocks) bands q x) →
        (r : Result AllTold HeadFault) → scan_band style layer base cells bits ≡ r → and_then r (on_band style layer base cells bands) ≡ Ok b → BandsGo style layer base (cells ∷ bands) bits b
    by again (Err e) eq h = absurd cc
    by again (Ok a) eq h = last again a eq (scan_bands style layer (base + length cells.blocks) bands a.rest) refl h

band_breaks : (style layer base : ℕ) (cells : Cells) (bits : List Bool) → AreTrees cells → scan_band style layer base cells bits ≡ Err Planes → BandBreaks style layer base cells bits
unfolding scan_band
band_breaks style layer base cells bits t h =
    let s = blocks_breaks style layer base (length cells.blocks) (length cells.blocks) 0 cells bits t refl (omega arith) h in
    record { values = s.values; agree = s.agree; breaks = record { at = s.at; inside = s.inside; entries = s.entries; are = s.are; behind = s.behind; stands = s.stands; breaks = s.breaks } }

bands_fault : (a : AllTold) (r : Result BandsRead HeadFault) → and_band a r ≡ Err Planes → r ≡ Err Planes
bands_fault a (Err e) h = let is : e ≡ Planes = cc in ap (λ (x : HeadFault). let y : Result BandsRead HeadFault = Err x in y) is
bands_fault a (Ok x) h = absurd cc

pub bands_breaks : (style layer base : ℕ) (bands : List Cells) (bits : List Bool) → AreAllTrees bands → scan_bands style layer base bands bits ≡ Err Planes → BandsBreak style layer base bands bits
bands_breaks style layer base [] bits t h = absurd cc
bands_breaks style layer base (cells ∷ bands) bits t h =
    by (λ (q : List Bool) (e : scan_bands style layer (base + length cells.blocks) bands q ≡ Err Planes). bands_breaks style layer (base + length cells.blocks) bands q t.1 e) (scan_band style layer base cells bits) refl h
  where
    by : ((q : List Bool) → scan_bands style layer (base + length cells.blocks) bands q ≡ Err Planes → BandsBreak style layer (base + length cells.blocks) bands q) →
        (r : Result AllTold HeadFault) → scan_band style layer base cells bits ≡ r → and_then r (on_band style layer base cells bands) ≡ Err Planes → BandsBreak style layer base (cells ∷ bands) bits
    by again (Err e) eq h =
        let is : e ≡ Planes = cc in
        inl (band_breaks style layer base cells bits t.0 (eq ∙ ap (λ (x : HeadFault). let y : Result AllTold HeadFault = Err x in y) is))
    by again (Ok a) eq h =
        let o = band_go style layer base cells bits a t.0 eq in
        inr (a.rest, record { told = o.told; is = o.is; stands = o.bits_are }, again a.rest (bands_fault a (scan_bands style layer (base + length cells.blocks) bands a.rest) h))

-- ---- what is true of a band stays true
first_size : (known : Option ℕ) (tree : Tree) (leaf layer : ℕ) (bits : List Bool) (a : Asked) → IsLeafOf tree leaf → scan_first known tree leaf layer bits ≡ Some a → (a.tree.wide ≡ tree.wide) × (a.tree.high ≡ tree.high)
first_size known tree leaf layer bits a l h =
    let f = known_values a.tree (first_leaf known tree leaf layer bits a l h).is in
    let r : FirstRead known f.0 tree leaf layer bits a = first_read known f.0 tree leaf layer bits a l h f.1 in
    (ap (λ (t : Tree). t.wide) r.tree_is ∙ first_wide known f.0 tree leaf layer, ap (λ (t : Tree). t.high) r.tree_is ∙ first_high known f.0 tree leaf layer)

pub first_band : (cells old : Cells) (leaf layer : ℕ) (bits : List Bool) (a : Asked) → cells ≡ old → IsBand old → leaf < length old.blocks →
    scan_first (block_at cells leaf).zero cells.first leaf layer bits ≡ Some a → IsBand (record cells { first = a.tree })
first_band cells old leaf layer bits a same b lt h =
    let b' : IsBand cells = subst (λ (c : Cells). IsBand c) (sym same) b in
    let lt' : leaf < length cells.blocks = subst (λ (c : Cells). leaf < length c.blocks) (sym same) lt in
    let l = (block_of cells leaf b'.trees lt').in_first in
    let s = first_size (block_at cells leaf).zero cells.first leaf layer bits a l h in
    let f = known_values a.tree (first_leaf (block_at cells leaf).zero cells.first leaf layer bits a l h).is in
    let r : FirstRead (block_at cells leaf).zero f.0 cells.first leaf layer bits a = first_read (block_at cells leaf).zero f.0 cells.first leaf layer bits a l h f.1 in
    let size : SameSize (record cells { first = a.tree }) cells = record { wide = s.0; high = s.1; zeros_wide = refl; zeros_high = refl; long = refl; planes = refl } in
    record {
      trees = same_trees (record cells { first = a.tree }) cells size b'.trees (first_leaf (block_at cells leaf).zero cells.first leaf layer bits a l h).is b'.trees.zeros_is;
      planes = b'.planes;
      blocks = b'.blocks;
      settled = λ q un. b'.settled q (first_unsettled (block_at cells leaf).zero f.0 cells.first leaf layer q (ap (λ (x : Tree). (node_at x.nodes q).settled) (sym r.tree_is) ∙ un));
    }

-- a length's field lies within the bits
cut_some : (style first n : ℕ) → 1 ≤ n → (run : ℕ) × (runs : List ℕ) × (cut style first n ≡ run ∷ runs)
cut_some style first zero ge = absurd (omega arith)
cut_some style first (suc n) ge = by (end_pass style first) (cut style (first + 1) n)
  where
    by : (b : Bool) (runs : List ℕ) → (run : ℕ) × (more : List ℕ) × (cond b (1 ∷ runs) (one_more runs) ≡ run ∷ more)
    by true runs = (1, runs, refl)
    by false [] = (1, [], refl)
    by false (run ∷ runs) = (suc run, runs, refl)

lblock_fits : (lblock block first : ℕ) (runs : List ℕ) (parts : List HeaderPart) (run : ℕ) (more : List ℕ) → runs ≡ run ∷ more → AreHeaderParts lblock block first runs parts → lblock ≤ length (length_bits lblock parts)
lblock_fits lblock block first [] parts run more e are = absurd cc
lblock_fits lblock block first (x ∷ xs) [] run more e are = absurd are
lblock_fits lblock block first (x ∷ xs) (p ∷ ps) run more e are =
    let front = low_bits (width lblock p.passes) p.length in
    let l : length front ≡ width lblock p.passes = length-low_bits (width lblock p.passes) p.length in
    let a : length (front ++ length_bits lblock ps) ≡ length front + length (length_bits lblock ps) = length-append front (length_bits lblock ps) in
    omega arith

entry_lblock : (style block planes z : ℕ) (known : Known) (e : Entry) → IsIncluded style block planes z known e → known.lblock + e.raise ≤ length (told_bits known.lblock e)
entry_lblock style block planes z known e is =
    let s = cut_some style known.passes e.passes is.count.some in
    let le : known.lblock + e.raise ≤ length (length_bits (known.lblock + e.raise) e.parts) = lblock_fits (known.lblock + e.raise) block known.passes (cut style known.passes e.passes) e.parts s.0 s.1 s.2 is.parts in
    let lengths = length_bits (known.lblock + e.raise) e.parts in
    let a : length (pass_word e.passes ++ (raise_word e.raise ++ lengths)) ≡ length (pass_word e.passes) + length (raise_word e.raise ++ lengths) = length-append (pass_word e.passes) (raise_word e.raise ++ lengths) in
    let b : length (raise_word e.raise ++ lengths) ≡ length (raise_word e.raise) + length lengths = length-append (raise_word e.raise) lengths in
    omega arith

known_after : (style block planes z : ℕ) (known : Known) (e : Entry) (more : ℕ) → IsIncluded style block planes z known e → planes ≤ 255 → length (told_bits known.lblock e) ≤ more → more ≤ 2 ^ 67 → IsKnown (block_after known z e)
known_after style block planes z known e more is few le small =
    let fit : known.passes + e.passes ≤ most_passes planes z = is.few in
    let l : known.lblock + e.raise ≤ length (told_bits known.lblock e) = entry_lblock style block planes z known e is in
    record { passes = omega arith; lblock = omega arith }

blocks_after_set : (cells : Cells) (leaf : ℕ) (known : Known) → ((i : ℕ) → IsKnown (block_at cells i)) → IsKnown known → (i : ℕ) → IsKnown (get_or (set cells.blocks leaf known) i unknown_block)
blocks_after_set cells leaf known all here i = by (cases_lt leaf (length cells.blocks)) (cases_eq i leaf)
  where
    by : (leaf < length cells.blocks) ⊎ (length cells.blocks ≤ leaf) → (i ≡ leaf) ⊎ (i ≢ leaf) → IsKnown (get_or (set cells.blocks leaf known) i unknown_block)
    by (inl lt) (inl e) = subst (λ (k : Known). IsKnown k) (sym (ap (λ (j : ℕ). get_or (set cells.blocks leaf known) j unknown_block) e ∙ get_or-set_same cells.blocks leaf known unknown_block lt)) here
    by (inr ge) (inl e) = subst (λ (l : List Known). IsKnown (get_or l i unknown_block)) (sym (set_past cells.blocks leaf known ge)) (all i)
    by s (inr ne) = subst (λ (k : Known). IsKnown k) (sym (get_or-set_other cells.blocks leaf i known unknown_block ne)) (all i)

entry_bound : (v : Values) (style layer block leaf : ℕ) (cells : Cells) (e : Entry) (bits rest : List Bool) → IsBand cells → leaf < length cells.blocks → IsEntry v style layer block leaf cells e →
    bits ≡ entry_bits v layer leaf cells e ++ rest → length bits ≤ 2 ^ 67 → (i : ℕ) → IsKnown (block_at (entry_after v layer leaf cells e) i)
entry_bound v style layer block leaf cells e bits rest b lt is stands small = by (contributes e) is.told stands
  where
    known : Known
    known = block_at cells leaf

    by : (c : Bool) → MatchBool c (IsIncluded style block cells.planes (zero_planes (block_at cells leaf).zero v.zeros leaf) (block_at cells leaf) e) (e ≡ nothing) →
        bits ≡ (first_bits (block_at cells leaf).zero v.first cells.first leaf layer (contributes e) ++ cond c (included_bits v leaf cells e) []) ++ rest →
        (i : ℕ) → IsKnown (block_at (cond c (cells_included v leaf (cells_first v layer leaf cells) e) (cells_first v layer leaf cells)) i)
    by true told s i =
        let firsts = first_bits (block_at cells leaf).zero v.first cells.first leaf layer (contributes e) in
        let zeros = zero_bits (block_at cells leaf).zero v.zeros cells.zeros leaf cells.planes in
        let tell = told_bits (block_at cells leaf).lblock e in
        let whole : length bits ≡ length (firsts ++ (zeros ++ tell)) + length rest = ap (λ (l : List Bool). length l) s ∙ length-append (firsts ++ (zeros ++ tell)) rest in
        let a : length (firsts ++ (zeros ++ tell)) ≡ length firsts + length (zeros ++ tell) = length-append firsts (zeros ++ tell) in
        let d : length (zeros ++ tell) ≡ length zeros + length tell = length-append zeros tell in
        blocks_after_set cells leaf (block_after (block_at cells leaf) (zero_planes (block_at cells leaf).zero v.zeros leaf) e) b.blocks
        (known_after style block cells.planes (zero_planes (block_at cells leaf).zero v.zeros leaf) (block_at cells leaf) e (length bits) told b.planes (omega arith) small) i
    by false told s i = b.blocks i

pub block_band : (style layer block leaf : ℕ) (cells : Cells) (bits : List Bool) (t : Told) → IsBand cells → leaf < length cells.blocks → length bits ≤ 2 ^ 67 →
    scan_block style layer block leaf cells bits ≡ Ok t → IsBand t.cells × (length t.cells.blocks ≡ length cells.blocks)
block_band style layer block leaf cells bits t b lt small h =
    let k = block_kept style layer block leaf cells bits t b.trees lt h in
    let o = block_of cells leaf b.trees lt in
    let l = block_leaf style layer block leaf cells bits t o h in
    let f = known_values t.cells.first l.in_first.is in
    let z = known_values t.cells.zeros l.in_zeros.is in
    let v : Values = record { first = f.0; zeros = z.0 } in
    let r : BlockRead v style layer block leaf cells bits t = block_read v style layer block leaf cells bits t o h (record { in_first = f.1; in_zeros = z.1 }) in (
      record {
        trees = k.trees;
        planes = subst (λ (n : ℕ). n ≤ 255) (sym k.planes) b.planes;
        blocks = subst (λ (c : Cells). (i : ℕ) → IsKnown (block_at c i)) (sym r.cells_are) (entry_bound v style layer block leaf cells t.entry bits t.rest b lt r.is r.bits_are small);
        settled = subst (λ (c : Cells). AreSettled c) (sym r.cells_are) (entry_settled v style layer block leaf cells t.entry o.in_first r.before.in_first b.settled r.is);
      },
      k.long,
    )

-- ---- block after block
pub parts_parts : (ps qs : List HeaderPart) (r : Result AllTold HeadFault) → and_parts ps (and_parts qs r) ≡ and_parts (ps ++ qs) r
parts_parts ps qs (Err e) = refl
parts_parts ps qs (Ok a) = ap (λ (l : List HeaderPart). Ok (all_is l a.cells a.rest)) (sym (append_assoc ps qs a.parts))

pub blocks_step : (whole : Result AllTold HeadFault) (begun now new : List HeaderPart) (style layer base left leaf : ℕ) (cells after : Cells) (bits rest : List Bool) (e : Entry) → 0 < left →
    and_parts begun whole ≡ and_parts now (scan_blocks style layer base left leaf cells bits) → scan_block style layer (base + leaf) leaf cells bits ≡ Ok (told_is e after rest) → new ≡ now ++ e.parts →
    and_parts begun whole ≡ and_parts new (scan_blocks style layer base (left - 1) (leaf + 1) after rest)
blocks_step whole begun now new style layer base zero leaf cells after bits rest e lt h was is = absurd (omega arith)
blocks_step whole begun now new style layer base (suc more) leaf cells after bits rest e lt h was is =
    let less : more ≡ suc more - 1 = omega arith in
    h ∙ ap (λ (r : Result Told HeadFault). and_parts now (and_then r (on_block style layer base more leaf))) was
    ∙ parts_parts now e.parts (scan_blocks style layer base more (leaf + 1) after rest)
    ∙ ap (λ (l : List HeaderPart). and_parts l (scan_blocks style layer base more (leaf + 1) after rest)) (sym is)
    ∙ ap (λ (k : ℕ). and_parts new (scan_blocks style layer base k (leaf + 1) after rest)) less

pub whole_fault : (begun : List HeaderPart) (whole : Result AllTold HeadFault) (f : HeadFault) → and_parts begun whole ≡ Err f → whole ≡ Err f
whole_fault begun (Err e) f h = let is : e ≡ f = cc in ap (λ (x : HeadFault). let y : Result AllTold HeadFault = Err x in y) is
whole_fault begun (Ok x) f h = absurd cc

blocks_err : (whole : Result AllTold HeadFault) (begun now : List HeaderPart) (style layer base left leaf : ℕ) (cells : Cells) (bits : List Bool) (f : HeadFault) → 0 < left →
    and_parts begun whole ≡ and_parts now (scan_blocks style layer base left leaf cells bits) → scan_block style layer (base + leaf) leaf cells bits ≡ Err f → whole ≡ Err f
blocks_err whole begun now style layer base zero leaf cells bits f lt h was = absurd (omega arith)
blocks_err whole begun now style layer base (suc more) leaf cells bits f lt h was =
    whole_fault begun whole f (h ∙ ap (λ (r : Result Told HeadFault). and_parts now (and_then r (on_block style layer base more leaf))) was)

pub blocks_refuse : (whole : Result AllTold HeadFault) (begun now : List HeaderPart) (style layer base left leaf : ℕ) (cells : Cells) (bits : List Bool) (f : HeadFault) → 0 < left →
    and_parts begun whole ≡ and_parts now (scan_blocks style layer base left leaf cells bits) → Refuses f (scan_block style layer (base + leaf) leaf cells bits) → Refuses f whole
blocks_refuse whole begun now style layer base left leaf cells bits Bits lt h was = blocks_err whole begun now style layer base left leaf cells bits Bits lt h was
blocks_refuse whole begun now style layer base left leaf cells bits Planes lt h was = blocks_err whole begun now style layer base left leaf cells bits Planes lt h was
blocks_refuse whole begun now style layer base left leaf cells bits NoMemory lt h was = tt

pub blocks_said : (whole : Result AllTold HeadFault) (begun now : List HeaderPart) (style layer base left leaf : ℕ) (cells : Cells) (bits : List Bool) → left ≡ 0 →
    and_parts begun whole ≡ and_parts now (scan_blocks style layer base left leaf cells bits) → BandSaid whole begun now cells bits
blocks_said (Err e) begun now style layer base zero leaf cells bits none h = absurd cc
blocks_said (Ok a) begun now style layer base zero leaf cells bits none h =
    let is : all_is (begun ++ a.parts) a.cells a.rest ≡ all_is (now ++ []) cells bits = cc in
    let new : begun ++ a.parts ≡ now = ap (λ (x : AllTold). x.parts) is ∙ append-nil now in
    record {
      parts = a.parts;
      is = ap (λ (c : Cells). Ok (all_is a.parts c a.rest)) (ap (λ (x : AllTold). x.cells) is) ∙ ap (λ (l : List Bool). Ok (all_is a.parts cells l)) (ap (λ (x : AllTold). x.rest) is);
      new_is = sym new;
    }
blocks_said whole begun now style layer base (suc left) leaf cells bits none h = absurd (omega arith)

pub block_is : (blocks : List Known) (leaf : ℕ) (k : Known) → leaf < length blocks → k ≡ get_or blocks leaf k → get_or blocks leaf unknown_block ≡ k
block_is blocks leaf k lt e = get_or_default blocks leaf unknown_block k lt ∙ sym e

-- ---- blocks of which no header has a bit
abbrev asked_block : ℕ → ℕ → ℕ → Cells → Asked → Result Told HeadFault
asked_block style block leaf cells a =
    cond a.below (scan_included style block leaf (record cells { first = a.tree }) a.rest) (Ok (told_is nothing (record cells { first = a.tree }) a.rest))

silent_block : (style layer block leaf : ℕ) (cells : Cells) (bits : List Bool) → IsBand cells → leaf < length cells.blocks → IsSilent layer cells leaf →
    scan_block style layer block leaf cells bits ≡ Ok (told_is nothing cells bits)
silent_block style layer block leaf cells bits b lt s =
    let l : IsLeafOf cells.first leaf = (block_of cells leaf b.trees lt).in_first in
    let first : scan_first (block_at cells leaf).zero cells.first leaf layer bits ≡ Some (asked_is false cells.first bits) =
    ap (λ (z : Option ℕ). scan_first z cells.first leaf layer bits) s.none ∙ ask_past cells.first leaf (layer + 1) bits l s.past in
    ap (λ (o : Option Asked). and_then (or_bits o) (asked_block style block leaf cells)) first

no_parts : (r : Result AllTold HeadFault) → and_parts [] r ≡ r
no_parts (Err e) = refl
no_parts (Ok a) = refl

-- a run of blocks is passed over
pub silent_blocks : (style layer base n more leaf : ℕ) (cells : Cells) (bits : List Bool) → IsBand cells → n ≤ more → leaf + n ≤ length cells.blocks →
    ((other : ℕ) → leaf ≤ other → other < leaf + n → IsSilent layer cells other) →
    scan_blocks style layer base more leaf cells bits ≡ scan_blocks style layer base (more - n) (leaf + n) cells bits
silent_blocks style layer base zero more leaf cells bits b few le s =
    let m : more ≡ more - 0 = omega arith in
    let l : leaf ≡ leaf + 0 = omega arith in
    ap (λ (k : ℕ). scan_blocks style layer base k leaf cells bits) m ∙ ap (λ (k : ℕ). scan_blocks style layer base (more - 0) k cells bits) l
silent_blocks style layer base (suc n) zero leaf cells bits b few le s = absurd (omega arith)
silent_blocks style layer base (suc n) (suc more) leaf cells bits b few le s =
    let m : more - n ≡ suc more - suc n = omega arith in
    let l : leaf + 1 + n ≡ leaf + suc n = omega arith in
    ap (λ (r : Result Told HeadFault). and_then r (on_block style layer base more leaf)) (silent_block style layer (base + leaf) leaf cells bits b (omega arith) (s leaf (omega arith) (omega arith)))
    ∙ no_parts (scan_blocks style layer base more (leaf + 1) cells bits)
    ∙ silent_blocks style layer base n more (leaf + 1) cells bits b (omega arith) (omega arith) (λ other ge lt. s other (omega arith) (omega arith))
    ∙ ap (λ (k : ℕ). scan_blocks style layer base k (leaf + 1 + n) cells bits) m
    ∙ ap (λ (k : ℕ). scan_blocks style layer base (suc more - suc n) k cells bits) l

-- the first blocks of some, and those behind them
pub first_blocks : (style layer base n more leaf : ℕ) (cells : Cells) (bits : List Bool) (a : AllTold) → n ≤ more → scan_blocks style layer base n leaf cells bits ≡ Ok a →
    scan_blocks style layer base more leaf cells bits ≡ and_parts a.parts (scan_blocks style layer base (more - n) (leaf + n) a.cells a.rest)
first_blocks style layer base zero more leaf cells bits a few h =
    let is : all_is [] cells bits ≡ a = cc in
    let m : more ≡ more - 0 = omega arith in
    let l : leaf ≡ leaf + 0 = omega arith in
    subst (λ (x : AllTold). scan_blocks style layer base more leaf cells bits ≡ and_parts x.parts (scan_blocks style layer base (more - 0) (leaf + 0) x.cells x.rest)) is
    (ap (λ (k : ℕ). scan_blocks style layer base k leaf cells bits) m ∙ ap (λ (k : ℕ). scan_blocks style layer base (more - 0) k cells bits) l
    ∙ sym (no_parts (scan_blocks style layer base (more - 0) (leaf + 0) cells bits)))
first_blocks style layer base (suc n) zero leaf cells bits a few h = absurd (omega arith)
first_blocks style layer base (suc n) (suc more) leaf cells bits a few h =
    by (scan_block style layer (base + leaf) leaf cells bits) h (λ t x eq. first_blocks style layer base n more (leaf + 1) t.cells t.rest x (omega arith) eq)
  where
    m : more - n ≡ suc more - suc n
    m = omega arith

    l : leaf + 1 + n ≡ leaf + suc n
    l = omega arith

    within : (t : Told) (r : Result AllTold HeadFault) → and_parts t.entry.parts r ≡ Ok a →
        ((x : AllTold) → r ≡ Ok x → scan_blocks style layer base more (leaf + 1) t.cells t.rest ≡ and_parts x.parts (scan_blocks style layer base (more - n) (leaf + 1 + n) x.cells x.rest)) →
        and_parts t.entry.parts (scan_blocks style layer base more (leaf + 1) t.cells t.rest) ≡ and_parts a.parts (scan_blocks style layer base (suc more - suc n) (leaf + suc n) a.cells a.rest)
    within t (Err e) k again = absurd cc
    within t (Ok x) k again =
        let is : after_told t.entry.parts x ≡ a = cc in
        subst (λ (y : AllTold). and_parts t.entry.parts (scan_blocks style layer base more (leaf + 1) t.cells t.rest) ≡ and_parts y.parts (scan_blocks style layer base (suc more - suc n) (leaf + suc n) y.cells y.rest)) is
        (ap (and_parts t.entry.parts) (again x refl)
        ∙ parts_parts t.entry.parts x.parts (scan_blocks style layer base (more - n) (leaf + 1 + n) x.cells x.rest)
        ∙ ap (λ (k : ℕ). and_parts (t.entry.parts ++ x.parts) (scan_blocks style layer base k (leaf + 1 + n) x.cells x.rest)) m
        ∙ ap (λ (k : ℕ). and_parts (t.entry.parts ++ x.parts) (scan_blocks style layer base (suc more - suc n) k x.cells x.rest)) l)

    by : (o : Result Told HeadFault) → and_then o (on_block style layer base n leaf) ≡ Ok a →
        ((t : Told) (x : AllTold) → scan_blocks style layer base n (leaf + 1) t.cells t.rest ≡ Ok x →
        scan_blocks style layer base more (leaf + 1) t.cells t.rest ≡ and_parts x.parts (scan_blocks style layer base (more - n) (leaf + 1 + n) x.cells x.rest)) →
        and_then o (on_block style layer base more leaf) ≡ and_parts a.parts (scan_blocks style layer base (suc more - suc n) (leaf + suc n) a.cells a.rest)
    by (Err e) k again = absurd cc
    by (Ok t) k again = within t (scan_blocks style layer base n (leaf + 1) t.cells t.rest) k (again t)

pub first_fault : (style layer base n more leaf : ℕ) (cells : Cells) (bits : List Bool) (f : HeadFault) → n ≤ more → scan_blocks style layer base n leaf cells bits ≡ Err f →
    scan_blocks style layer base more leaf cells bits ≡ Err f
first_fault style layer base zero more leaf cells bits f few h = absurd cc
first_fault style layer base (suc n) zero leaf cells bits f few h = absurd (omega arith)
first_fault style layer base (suc n) (suc more) leaf cells bits f few h =
    by (scan_block style layer (base + leaf) leaf cells bits) h (λ t eq. first_fault style layer base n more (leaf + 1) t.cells t.rest f (omega arith) eq)
  where
    within : (t : Told) (r : Result AllTold HeadFault) → and_parts t.entry.parts r ≡ Err f → (r ≡ Err f → scan_blocks style layer base more (leaf + 1) t.cells t.rest ≡ Err f) →
        and_parts t.entry.parts (scan_blocks style layer base more (leaf + 1) t.cells t.rest) ≡ Err f
    within t (Err e) k again =
        let is : e ≡ f = cc in
        ap (and_parts t.entry.parts) (again (ap (λ (x : HeadFault). let y : Result AllTold HeadFault = Err x in y) is))
    within t (Ok x) k again = absurd cc

    by : (o : Result Told HeadFault) → and_then o (on_block style layer base n leaf) ≡ Err f →
        ((t : Told) → scan_blocks style layer base n (leaf + 1) t.cells t.rest ≡ Err f → scan_blocks style layer base more (leaf + 1) t.cells t.rest ≡ Err f) →
        and_then o (on_block style layer base more leaf) ≡ Err f
    by (Err e) k again = let is : e ≡ f = cc in ap (λ (x : HeadFault). let y : Result AllTold HeadFault = Err x in y) is
    by (Ok t) k again = within t (scan_blocks style layer base n (leaf + 1) t.cells t.rest) k (again t)

-- a block that is silent stays so
pub block_silent : (style layer block leaf other : ℕ) (cells : Cells) (bits : List Bool) (t : Told) → IsBand cells → leaf < length cells.blocks →
    scan_block style layer block leaf cells bits ≡ Ok t → other ≢ leaf → IsSilent layer cells other → IsSilent layer t.cells other
block_silent style layer block leaf other cells bits t b lt h ne s =
    let o = block_of cells leaf b.trees lt in
    let l = block_leaf style layer block leaf cells bits t o h in
    let f = known_values t.cells.first l.in_first.is in
    let z = known_values t.cells.zeros l.in_zeros.is in
    let v : Values = record { first = f.0; zeros = z.0 } in
    let r : BlockRead v style layer block leaf cells bits t = block_read v style layer block leaf cells bits t o h (record { in_first = f.1; in_zeros = z.1 }) in
    subst (λ (c : Cells). IsSilent layer c other) (sym r.cells_are) (entry_silent v layer leaf other cells t.entry ne s)

-- a band keeps its width
pub block_wide : (style layer block leaf : ℕ) (cells : Cells) (bits : List Bool) (t : Told) → IsBand cells → leaf < length cells.blocks →
    scan_block style layer block leaf cells bits ≡ Ok t → (t.cells.first.wide ≡ cells.first.wide) × (t.cells.first.high ≡ cells.first.high)
block_wide style layer block leaf cells bits t b lt h =
    let o = block_of cells leaf b.trees lt in
    let l = block_leaf style layer block leaf cells bits t o h in
    let f = known_values t.cells.first l.in_first.is in
    let z = known_values t.cells.zeros l.in_zeros.is in
    let v : Values = record { first = f.0; zeros = z.0 } in
    let r : BlockRead v style layer block leaf cells bits t = block_read v style layer block leaf cells bits t o h (record { in_first = f.1; in_zeros = z.1 }) in
    let s : SameSize t.cells cells = subst (λ (c : Cells). SameSize c cells) (sym r.cells_are) (entry_size v layer leaf cells t.entry) in
    (s.wide, s.high)

-- ---- the values that are told agree with what is known afterwards
blocks_agree : (v : Values) (style layer base stop leaf : ℕ) (cells : Cells) (es : List Entry) → AreTrees cells → Agree cells v → stop ≡ length cells.blocks →
    AreEntries v style layer base stop leaf cells es → Agree (blocks_after v layer leaf cells es) v
blocks_agree v style layer base stop leaf cells [] t a all are = a
blocks_agree v style layer base stop leaf cells (e ∷ es) t a all are =
    let lt : leaf < length cells.blocks = subst (λ (n : ℕ). leaf < n) all are.0 in
    let k = entry_kept v style layer (base + leaf) leaf cells e t lt a are.1 in
    blocks_agree v style layer base stop (leaf + 1) (entry_after v layer leaf cells e) es k.trees (entry_agrees v layer leaf cells e (block_of cells leaf t lt) a) (all ∙ sym k.long) are.2

-- what was included is settled after all blocks
pub entries_settled : (v : Values) (style layer base stop leaf : ℕ) (cells : Cells) (es : List Entry) → AreTrees cells → Agree cells v → AreSettled cells → stop ≡ length cells.blocks →
    AreEntries v style layer base stop leaf cells es → AreSettled (blocks_after v layer leaf cells es)
entries_settled v style layer base stop leaf cells [] t a s all are = s
entries_settled v style layer base stop leaf cells (e ∷ es) t a s all are =
    let lt : leaf < length cells.blocks = subst (λ (n : ℕ). leaf < n) all are.0 in
    let k = entry_kept v style layer (base + leaf) leaf cells e t lt a are.1 in
    entries_settled v style layer base stop (leaf + 1) (entry_after v layer leaf cells e) es k.trees (entry_agrees v layer leaf cells e (block_of cells leaf t lt) a)
    (entry_settled v style layer (base + leaf) leaf cells e (block_of cells leaf t lt).in_first a.in_first s are.1) (all ∙ sym k.long) are.2

pub bands_agree : (style layer base : ℕ) (bands : List Cells) (tolds : List BandTold) → AreAllTrees bands → AreBandsTold style layer base bands tolds → AgreeAfter layer bands tolds
bands_agree style layer base [] [] t are = tt
bands_agree style layer base [] (told ∷ tolds) t are = absurd are
bands_agree style layer base (cells ∷ bands) [] t are = absurd are
bands_agree style layer base (cells ∷ bands) (told ∷ tolds) t are = (
  blocks_agree told.values style layer base (length cells.blocks) 0 cells told.entries t.0 are.0.agree refl are.0.are,
  bands_agree style layer (base + length cells.blocks) bands tolds t.1 are.1,
)
