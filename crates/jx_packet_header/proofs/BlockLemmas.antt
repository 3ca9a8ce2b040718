-- What is read of one block.
use Rattle.std.proofs.Common.{◌≡◌, ℕ, ◌+◌, ◌-◌, ◌<◌, ◌≤◌, min, nat_lt, nat_le, Bool, true, false, List, [], ◌∷◌, ◌++◌, refl, sym, ap, ◌∙◌, subst, cond, arith, append_assoc, Some, None, Ok, Err, Result, inl, inr, ◌⊎◌}
use Rattle.std.specs.Prelude.{Option, option_map, option_and_then}
use Rattle.std.specs.Bool.{MatchBool}
use Rattle.std.proofs.lemmas.Bool.{le-leb, le-ltb, leb-false, lt-leb, lt-ltb, ltb-false, ltb-true}
use Rattle.jx_tagtree.specs.TagTree.{Tree, ValuesOf, tree_after}
use Rattle.jx_tagtree.specs.Questions.{Question, all_bits, after_all}
use Rattle.jx_packet_header.specs.declared.HeaderPart.{HeaderPart}
use Rattle.jx_packet_header.specs.declared.HeadFault.{HeadFault}
use Rattle.jx_packet_header.specs.declared.HeadFault.TheVariants.{Planes}
use Rattle.jx_packet_header.specs.declared.known.Known.{Known}
use Rattle.jx_packet_header.specs.Words.{IsCount, pass_word, raise_word}
use Rattle.jx_packet_header.specs.Parts.{cut, AreHeaderParts, length_bits}
use Rattle.jx_packet_header.specs.Packet.{Cells, Values, Agree, Entry, nothing, contributes, block_at, asked, zero_questions, zero_bits, zero_after, zero_planes, first_bits, first_after, IsInclusion, told_bits, included_bits, entry_bits, cells_first, cells_included, entry_after, most_passes, IsIncluded, IsEntry, ReachesPlanes, PassesPlanes, Breaks}
use Rattle.jx_packet_header.specs.Kept.{IsLeafOf}
use Rattle.jx_packet_header.specs.Scan.{Found, or_bits, and_then, scan_passes, scan_raise, scan_parts, Asked, scan_first, Zeros, scan_more_zeros, scan_zeros, entry_of, scan_lengths, scan_entry, Told, told_of, and_told, scan_included, scan_block}
use Rattle.jx_packet_header.proofs.WordLemmas.{found, passes_made, passes_read, PassesRead, raise_made, raise_read, parts_made, parts_read}
use Rattle.jx_packet_header.proofs.AskLemmas.{asked_is, ask_made, ask_read, ask_tree, after_agrees, zeros_is, zeros_made, zeros_leaf, zeros_go}

-- ---- whether it is included
pub first_made : (known : Option ℕ) (values : ℕ → ℕ) (tree : Tree) (leaf layer : ℕ) (included : Bool) (rest : List Bool) → IsLeafOf tree leaf → ValuesOf tree values →
    IsInclusion known values leaf layer included →
    scan_first known tree leaf layer (first_bits known values tree leaf layer included ++ rest) ≡ Some (asked_is included (first_after known values tree leaf layer) rest)
first_made None values tree leaf layer included rest l v is =
    ask_made tree leaf (layer + 1) l values rest v ∙ ap (λ (b : Bool). Some (asked_is b (tree_after values tree leaf (layer + 1)) rest)) is
first_made (Some z) values tree leaf layer included rest l v is = refl

pub record FirstRead (known : Option ℕ) (values : ℕ → ℕ) (tree : Tree) (leaf layer : ℕ) (bits : List Bool) (a : Asked) : Type 0 where
  pub before : ValuesOf tree values
  pub is : IsInclusion known values leaf layer a.below
  pub bits_are : bits ≡ first_bits known values tree leaf layer a.below ++ a.rest
  pub tree_is : a.tree ≡ first_after known values tree leaf layer

pub first_read : (known : Option ℕ) (values : ℕ → ℕ) (tree : Tree) (leaf layer : ℕ) (bits : List Bool) (a : Asked) → IsLeafOf tree leaf →
    scan_first known tree leaf layer bits ≡ Some a → ValuesOf a.tree values → FirstRead known values tree leaf layer bits a
first_read None values tree leaf layer bits a l h v =
    let r = ask_read tree leaf (layer + 1) l values bits a h v in
    record { before = r.before; is = sym r.below_is; bits_are = r.bits_are; tree_is = r.tree_is }
first_read (Some z) values tree leaf layer [] a l h v = absurd cc
first_read (Some z) values tree leaf layer (b ∷ bits) a l h v =
    let is : asked_is b tree bits ≡ a = cc in
    subst (λ (x : Asked). FirstRead (Some z) values tree leaf layer (b ∷ bits) x) is (record { before = subst (λ (x : Asked). ValuesOf x.tree values) (sym is) v; is = tt; bits_are = refl; tree_is = refl })

pub first_leaf : (known : Option ℕ) (tree : Tree) (leaf layer : ℕ) (bits : List Bool) (a : Asked) → IsLeafOf tree leaf → scan_first known tree leaf layer bits ≡ Some a → IsLeafOf a.tree leaf
first_leaf None tree leaf layer bits a l h = ask_tree tree leaf (layer + 1) l bits a h
first_leaf (Some z) tree leaf layer [] a l h = absurd cc
first_leaf (Some z) tree leaf layer (b ∷ bits) a l h = let is : asked_is b tree bits ≡ a = cc in subst (λ (x : Asked). IsLeafOf x.tree leaf) is l

pub first_agrees : (known : Option ℕ) (values : ℕ → ℕ) (tree : Tree) (leaf layer : ℕ) → IsLeafOf tree leaf → ValuesOf tree values → ValuesOf (first_after known values tree leaf layer) values
first_agrees None values tree leaf layer l v = after_agrees tree leaf (layer + 1) l values v
first_agrees (Some z) values tree leaf layer l v = v

-- ---- its zero planes
-- their number, or the band's planes where these are reached
pub counted : Option ℕ → (ℕ → ℕ) → ℕ → ℕ → ℕ
counted None values leaf planes = min (values leaf) planes
counted (Some z) values leaf planes = z

pub counted_reaches : (known : Option ℕ) (values : ℕ → ℕ) (leaf planes : ℕ) → planes ≤ zero_planes known values leaf → planes ≤ counted known values leaf planes
unfolding counted
counted_reaches None values leaf planes le = omega arith
counted_reaches (Some z) values leaf planes le = le

pub reaches_counted : (known : Option ℕ) (values : ℕ → ℕ) (leaf planes : ℕ) → planes ≤ counted known values leaf planes → planes ≤ zero_planes known values leaf
unfolding counted
reaches_counted None values leaf planes le = omega arith
reaches_counted (Some z) values leaf planes le = le

pub counted_below : (known : Option ℕ) (values : ℕ → ℕ) (leaf planes : ℕ) → zero_planes known values leaf < planes → counted known values leaf planes ≡ zero_planes known values leaf
unfolding counted
counted_below None values leaf planes lt = omega arith
counted_below (Some z) values leaf planes lt = refl

pub below_counted : (known : Option ℕ) (values : ℕ → ℕ) (leaf planes : ℕ) → counted known values leaf planes < planes → counted known values leaf planes ≡ zero_planes known values leaf
unfolding counted
below_counted None values leaf planes lt = omega arith
below_counted (Some z) values leaf planes lt = refl

questions : (values : ℕ → ℕ) (leaf planes : ℕ) → asked leaf 0 (min planes (values leaf + 1 - 0)) ≡ zero_questions values leaf planes
questions values leaf planes = let e : min planes (values leaf + 1 - 0) ≡ min planes (values leaf + 1) = omega arith in ap (asked leaf 0) e

pub zero_made : (known : Option ℕ) (values : ℕ → ℕ) (tree : Tree) (leaf planes : ℕ) (rest : List Bool) → IsLeafOf tree leaf → ValuesOf tree values →
    scan_zeros known tree leaf planes (zero_bits known values tree leaf planes ++ rest) ≡ Some (zeros_is (counted known values leaf planes) (zero_after known values tree leaf planes) rest)
unfolding counted
zero_made None values tree leaf planes rest l v =
    let q = questions values leaf planes in
    let c : min (values leaf) (0 + planes) ≡ min (values leaf) planes = omega arith in
    ap (λ (qs : List Question). scan_more_zeros tree leaf 0 planes (all_bits values tree qs ++ rest)) (sym q)
    ∙ zeros_made values leaf planes 0 tree rest l v (omega arith)
    ∙ ap (λ (n : ℕ). Some (zeros_is n (after_all values tree (asked leaf 0 (min planes (values leaf + 1 - 0)))) rest)) c
    ∙ ap (λ (qs : List Question). Some (zeros_is (min (values leaf) planes) (after_all values tree qs) rest)) q
zero_made (Some z) values tree leaf planes rest l v = refl

pub record ZeroRead (known : Option ℕ) (values : ℕ → ℕ) (tree : Tree) (leaf planes : ℕ) (bits : List Bool) (z : Zeros) : Type 0 where
  pub before : ValuesOf tree values
  pub zeros_are : z.zeros ≡ counted known values leaf planes
  pub bits_are : bits ≡ zero_bits known values tree leaf planes ++ z.rest
  pub tree_is : z.tree ≡ zero_after known values tree leaf planes

pub zero_read : (known : Option ℕ) (values : ℕ → ℕ) (tree : Tree) (leaf planes : ℕ) (bits : List Bool) (z : Zeros) → IsLeafOf tree leaf →
    scan_zeros known tree leaf planes bits ≡ Some z → ValuesOf z.tree values → ZeroRead known values tree leaf planes bits z
unfolding counted
zero_read None values tree leaf planes bits z l h v =
    let g = zeros_go values leaf planes 0 tree bits z l h v in
    let r = g.read (omega arith) in
    let q = questions values leaf planes in
    let zs : z.zeros ≡ min (values leaf) (0 + planes) = r.zeros_are in
    record {
      before = g.before;
      zeros_are = omega arith;
      bits_are = r.bits_are ∙ ap (λ (qs : List Question). all_bits values tree qs ++ z.rest) q;
      tree_is = r.tree_is ∙ ap (after_all values tree) q;
    }
zero_read (Some n) values tree leaf planes bits z l h v =
    let is : zeros_is n tree bits ≡ z = cc in
    subst (λ (x : Zeros). ZeroRead (Some n) values tree leaf planes bits x) is (record { before = subst (λ (x : Zeros). ValuesOf x.tree values) (sym is) v; zeros_are = refl; bits_are = refl; tree_is = refl })

pub zero_leaf : (known : Option ℕ) (tree : Tree) (leaf planes : ℕ) (bits : List Bool) (z : Zeros) → IsLeafOf tree leaf → scan_zeros known tree leaf planes bits ≡ Some z → IsLeafOf z.tree leaf
zero_leaf None tree leaf planes bits z l h = zeros_leaf leaf planes 0 tree bits z l h
zero_leaf (Some n) tree leaf planes bits z l h = let is : zeros_is n tree bits ≡ z = cc in subst (λ (x : Zeros). IsLeafOf x.tree leaf) is l

-- ---- what it has where it is included
-- after the code word of the passes
abbrev pub on_passes : ℕ → ℕ → ℕ → ℕ → Known → Found ℕ → Result (Found Entry) HeadFault
on_passes style block planes z known p = cond (nat_lt (most_passes planes z) (known.passes + p.value)) (Err Planes) (or_bits (scan_lengths style block known p.value p.rest))

abbrev pub on_raise : ℕ → ℕ → Known → ℕ → Found ℕ → Option (Found Entry)
on_raise style block known n k = option_map (entry_of n k.value) (scan_parts (known.lblock + k.value) block known.passes (cut style known.passes n) k.rest)

abbrev entry_is : ℕ → ℕ → List HeaderPart → Entry
entry_is n k parts = record { passes = n; raise = k; parts = parts }

lengths_made : (style block : ℕ) (known : Known) (e : Entry) (rest : List Bool) → AreHeaderParts (known.lblock + e.raise) block known.passes (cut style known.passes e.passes) e.parts →
    scan_lengths style block known e.passes ((raise_word e.raise ++ length_bits (known.lblock + e.raise) e.parts) ++ rest) ≡ Some (found e rest)
lengths_made style block known e rest are =
    ap (λ (l : List Bool). scan_lengths style block known e.passes l) (append_assoc (raise_word e.raise) (length_bits (known.lblock + e.raise) e.parts) rest)
    ∙ ap (option_and_then (on_raise style block known e.passes)) (raise_made e.raise (length_bits (known.lblock + e.raise) e.parts ++ rest))
    ∙ ap (option_map (entry_of e.passes e.raise)) (parts_made (known.lblock + e.raise) block known.passes (cut style known.passes e.passes) e.parts rest are)

pub entry_made : (style block planes z : ℕ) (known : Known) (e : Entry) (rest : List Bool) → IsIncluded style block planes z known e →
    scan_entry style block planes z known (told_bits known.lblock e ++ rest) ≡ Ok (found e rest)
entry_made style block planes z known e rest is =
    let behind = raise_word e.raise ++ length_bits (known.lblock + e.raise) e.parts in
    ap (λ (l : List Bool). scan_entry style block planes z known l) (append_assoc (pass_word e.passes) behind rest)
    ∙ ap (λ (o : Option (Found ℕ)). and_then (or_bits o) (on_passes style block planes z known)) (passes_made e.passes (behind ++ rest) is.count)
    ∙ ap (λ (b : Bool). cond b (Err Planes) (or_bits (scan_lengths style block known e.passes (behind ++ rest)))) (le-ltb (most_passes planes z) (known.passes + e.passes) is.few)
    ∙ ap or_bits (lengths_made style block known e rest is.parts)

pub entry_over : (style block planes z : ℕ) (known : Known) (n : ℕ) (rest : List Bool) → IsCount n → most_passes planes z < known.passes + n →
    scan_entry style block planes z known (pass_word n ++ rest) ≡ Err Planes
entry_over style block planes z known n rest is over =
    ap (λ (o : Option (Found ℕ)). and_then (or_bits o) (on_passes style block planes z known)) (passes_made n rest is)
    ∙ ap (λ (b : Bool). cond b (Err Planes) (or_bits (scan_lengths style block known n rest))) (lt-ltb (most_passes planes z) (known.passes + n) over)

pub record EntryRead (style block planes z : ℕ) (known : Known) (bits : List Bool) (f : Found Entry) : Type 0 where
  pub is : IsIncluded style block planes z known f.value
  pub bits_are : bits ≡ told_bits known.lblock f.value ++ f.rest

pub entry_read : (style block planes z : ℕ) (known : Known) (bits : List Bool) (f : Found Entry) → z < planes → scan_entry style block planes z known bits ≡ Ok f →
    EntryRead style block planes z known bits f
entry_read style block planes z known bits f below h = by (scan_passes bits) refl h
  where
    end : (p k : Found ℕ) → PassesRead bits p → known.passes + p.value ≤ most_passes planes z → scan_raise p.rest ≡ Some k →
        (o : Option (Found (List HeaderPart))) → scan_parts (known.lblock + k.value) block known.passes (cut style known.passes p.value) k.rest ≡ o →
        or_bits (option_map (entry_of p.value k.value) o) ≡ Ok f → EntryRead style block planes z known bits f
    end p k r few was None eq h = absurd cc
    end p k r few was (Some q) eq h =
        let is : entry_of p.value k.value q ≡ f = cc in
        let s = parts_read (known.lblock + k.value) block known.passes (cut style known.passes p.value) k.rest q eq in
        let lengths = length_bits (known.lblock + k.value) q.value in
        subst (λ (x : Found Entry). EntryRead style block planes z known bits x) is (record {
          is = record { below = below; count = r.count; few = few; parts = s.are };
          bits_are = r.bits_are
              ∙ ap (λ (l : List Bool). pass_word p.value ++ l) (raise_read p.rest k was ∙ ap (λ (l : List Bool). raise_word k.value ++ l) s.bits_are ∙ sym (append_assoc (raise_word k.value) lengths q.rest))
              ∙ sym (append_assoc (pass_word p.value) (raise_word k.value ++ lengths) q.rest);
        })

    more : (p : Found ℕ) → PassesRead bits p → known.passes + p.value ≤ most_passes planes z → (o : Option (Found ℕ)) → scan_raise p.rest ≡ o →
        or_bits (option_and_then (on_raise style block known p.value) o) ≡ Ok f → EntryRead style block planes z known bits f
    more p r few None eq h = absurd cc
    more p r few (Some k) eq h = end p k r few eq (scan_parts (known.lblock + k.value) block known.passes (cut style known.passes p.value) k.rest) refl h

    pick : (p : Found ℕ) → PassesRead bits p → (b : Bool) → nat_lt (most_passes planes z) (known.passes + p.value) ≡ b →
        cond b (Err Planes) (or_bits (scan_lengths style block known p.value p.rest)) ≡ Ok f → EntryRead style block planes z known bits f
    pick p r true e h = absurd cc
    pick p r false e h = more p r (ltb-false (most_passes planes z) (known.passes + p.value) e) (scan_raise p.rest) refl h

    by : (o : Option (Found ℕ)) → scan_passes bits ≡ o → and_then (or_bits o) (on_passes style block planes z known) ≡ Ok f → EntryRead style block planes z known bits f
    by None eq h = absurd cc
    by (Some p) eq h = pick p (passes_read bits p eq) (nat_lt (most_passes planes z) (known.passes + p.value)) refl h

-- too many passes
pub record TooMany (planes z : ℕ) (known : Known) (bits : List Bool) : Type 0 where
  pub passes : ℕ
  pub count : IsCount passes
  pub over : most_passes planes z < known.passes + passes
  pub rest : List Bool
  pub stands : bits ≡ pass_word passes ++ rest

pub only_bits : {A : Type 0} (o : Option A) → or_bits o ≡ Err Planes → ⊥
only_bits None h = cc
only_bits (Some x) h = cc

pub entry_breaks : (style block planes z : ℕ) (known : Known) (bits : List Bool) → scan_entry style block planes z known bits ≡ Err Planes → TooMany planes z known bits
entry_breaks style block planes z known bits h = by (scan_passes bits) refl h
  where
    pick : (p : Found ℕ) → PassesRead bits p → (b : Bool) → nat_lt (most_passes planes z) (known.passes + p.value) ≡ b →
        cond b (Err Planes) (or_bits (scan_lengths style block known p.value p.rest)) ≡ Err Planes → TooMany planes z known bits
    pick p r true e h = record { passes = p.value; count = r.count; over = ltb-true (most_passes planes z) (known.passes + p.value) e; rest = p.rest; stands = r.bits_are }
    pick p r false e h = absurd (only_bits (scan_lengths style block known p.value p.rest) h)

    by : (o : Option (Found ℕ)) → scan_passes bits ≡ o → and_then (or_bits o) (on_passes style block planes z known) ≡ Err Planes → TooMany planes z known bits
    by None eq h = absurd cc
    by (Some p) eq h = pick p (passes_read bits p eq) (nat_lt (most_passes planes z) (known.passes + p.value)) refl h

-- ---- the block
-- a band's block
pub record IsBlockOf (cells : Cells) (leaf : ℕ) : Type 0 where
  pub in_first : IsLeafOf cells.first leaf
  pub in_zeros : IsLeafOf cells.zeros leaf

abbrev pub told_is : Entry → Cells → List Bool → Told
told_is e cells rest = record { entry = e; cells = cells; rest = rest }

abbrev pub on_zeros : ℕ → ℕ → ℕ → Cells → Zeros → Result Told HeadFault
on_zeros style block leaf cells z =
    cond (nat_le cells.planes z.zeros) (Err Planes) (and_told (told_of (record cells { zeros = z.tree }) leaf z.zeros) (scan_entry style block cells.planes z.zeros (block_at cells leaf) z.rest))

abbrev pub on_first : ℕ → ℕ → ℕ → Cells → Asked → Result Told HeadFault
on_first style block leaf cells a =
    cond a.below (scan_included style block leaf (record cells { first = a.tree }) a.rest) (Ok (told_is nothing (record cells { first = a.tree }) a.rest))

included_made : (v : Values) (style block leaf : ℕ) (cells : Cells) (e : Entry) (rest : List Bool) → IsLeafOf cells.zeros leaf → ValuesOf cells.zeros v.zeros →
    IsIncluded style block cells.planes (zero_planes (block_at cells leaf).zero v.zeros leaf) (block_at cells leaf) e →
    scan_included style block leaf cells (included_bits v leaf cells e ++ rest) ≡ Ok (told_is e (cells_included v leaf cells e) rest)
included_made v style block leaf cells e rest l a is =
    let known = block_at cells leaf in
    let zeros = zero_bits known.zero v.zeros cells.zeros leaf cells.planes in
    let told = told_bits known.lblock e in
    let tree = zero_after known.zero v.zeros cells.zeros leaf cells.planes in
    let z = counted known.zero v.zeros leaf cells.planes in
    let same : z ≡ zero_planes known.zero v.zeros leaf = counted_below known.zero v.zeros leaf cells.planes is.below in
    ap (λ (q : List Bool). scan_included style block leaf cells q) (append_assoc zeros told rest)
    ∙ ap (λ (o : Option Zeros). and_then (or_bits o) (on_zeros style block leaf cells)) (zero_made known.zero v.zeros cells.zeros leaf cells.planes (told ++ rest) l a)
    ∙ ap (λ (n : ℕ). on_zeros style block leaf cells (zeros_is n tree (told ++ rest))) same
    ∙ ap (λ (b : Bool). cond b (Err Planes) (and_told (told_of (record cells { zeros = tree }) leaf (zero_planes known.zero v.zeros leaf)) (scan_entry style block cells.planes (zero_planes known.zero v.zeros leaf) known (told ++ rest))))
    (lt-leb cells.planes (zero_planes known.zero v.zeros leaf) is.below)
    ∙ ap (and_told (told_of (record cells { zeros = tree }) leaf (zero_planes known.zero v.zeros leaf))) (entry_made style block cells.planes (zero_planes known.zero v.zeros leaf) known e rest is)

pub block_made : (v : Values) (style layer block leaf : ℕ) (cells : Cells) (e : Entry) (rest : List Bool) → IsBlockOf cells leaf → Agree cells v → IsEntry v style layer block leaf cells e →
    scan_block style layer block leaf cells (entry_bits v layer leaf cells e ++ rest) ≡ Ok (told_is e (entry_after v layer leaf cells e) rest)
block_made v style layer block leaf cells e rest b a is = by (contributes e) refl is.told
  where
    by : (c : Bool) → contributes e ≡ c → MatchBool c (IsIncluded style block cells.planes (zero_planes (block_at cells leaf).zero v.zeros leaf) (block_at cells leaf) e) (e ≡ nothing) →
        scan_block style layer block leaf cells ((first_bits (block_at cells leaf).zero v.first cells.first leaf layer (contributes e) ++ cond c (included_bits v leaf cells e) []) ++ rest)
        ≡ Ok (told_is e (cond c (cells_included v leaf (cells_first v layer leaf cells) e) (cells_first v layer leaf cells)) rest)
    by true is_c told =
        let known = block_at cells leaf in
        let firsts = first_bits known.zero v.first cells.first leaf layer (contributes e) in
        let tree = first_after known.zero v.first cells.first leaf layer in
        ap (λ (q : List Bool). scan_block style layer block leaf cells q) (append_assoc firsts (included_bits v leaf cells e) rest)
        ∙ ap (λ (o : Option Asked). and_then (or_bits o) (on_first style block leaf cells)) (first_made known.zero v.first cells.first leaf layer (contributes e) (included_bits v leaf cells e ++ rest) b.in_first a.in_first is.first)
        ∙ ap (λ (x : Bool). on_first style block leaf cells (asked_is x tree (included_bits v leaf cells e ++ rest))) is_c
        ∙ included_made v style block leaf (record cells { first = tree }) e rest b.in_zeros a.in_zeros told
    by false is_c told =
        let known = block_at cells leaf in
        let firsts = first_bits known.zero v.first cells.first leaf layer (contributes e) in
        let tree = first_after known.zero v.first cells.first leaf layer in
        ap (λ (q : List Bool). scan_block style layer block leaf cells q) (append_assoc firsts [] rest)
        ∙ ap (λ (o : Option Asked). and_then (or_bits o) (on_first style block leaf cells)) (first_made known.zero v.first cells.first leaf layer (contributes e) rest b.in_first a.in_first is.first)
        ∙ ap (λ (x : Bool). on_first style block leaf cells (asked_is x tree rest)) is_c
        ∙ ap (λ (x : Entry). Ok (told_is x (record cells { first = tree }) rest)) (sym told)

-- a block that breaks its band's planes
pub block_over : (v : Values) (style layer block leaf : ℕ) (cells : Cells) (bits : List Bool) → IsBlockOf cells leaf → Agree cells v → Breaks v layer leaf cells bits →
    scan_block style layer block leaf cells bits ≡ Err Planes
block_over v style layer block leaf cells bits b a breaks =
    let known = block_at cells leaf in
    let tree = first_after known.zero v.first cells.first leaf layer in
    ap (λ (q : List Bool). scan_block style layer block leaf cells q) breaks.stands
    ∙ ap (λ (o : Option Asked). and_then (or_bits o) (on_first style block leaf cells)) (first_made known.zero v.first cells.first leaf layer true breaks.behind b.in_first a.in_first breaks.first)
    ∙ by breaks.breaks
  where
    reach : ReachesPlanes v leaf cells breaks.behind → scan_included style block leaf (record cells { first = first_after (block_at cells leaf).zero v.first cells.first leaf layer }) breaks.behind ≡ Err Planes
    reach r =
        let known = block_at cells leaf in
        let cells' : Cells = record cells { first = first_after known.zero v.first cells.first leaf layer } in
        let z = counted known.zero v.zeros leaf cells.planes in
        let zs = zeros_is z (zero_after known.zero v.zeros cells.zeros leaf cells.planes) r.rest in
        ap (λ (q : List Bool). scan_included style block leaf cells' q) r.stands
        ∙ ap (λ (o : Option Zeros). and_then (or_bits o) (on_zeros style block leaf cells')) (zero_made known.zero v.zeros cells.zeros leaf cells.planes r.rest b.in_zeros a.in_zeros)
        ∙ ap (λ (x : Bool). cond x (Err Planes) (and_told (told_of (record cells' { zeros = zs.tree }) leaf zs.zeros) (scan_entry style block cells.planes zs.zeros known zs.rest)))
        (le-leb cells.planes z (counted_reaches known.zero v.zeros leaf cells.planes r.reach))

    pass : PassesPlanes v leaf cells breaks.behind → scan_included style block leaf (record cells { first = first_after (block_at cells leaf).zero v.first cells.first leaf layer }) breaks.behind ≡ Err Planes
    pass r =
        let known = block_at cells leaf in
        let cells' : Cells = record cells { first = first_after known.zero v.first cells.first leaf layer } in
        let tree = zero_after known.zero v.zeros cells.zeros leaf cells.planes in
        let z = zero_planes known.zero v.zeros leaf in
        let behind = pass_word r.passes ++ r.rest in
        ap (λ (q : List Bool). scan_included style block leaf cells' q) r.stands
        ∙ ap (λ (o : Option Zeros). and_then (or_bits o) (on_zeros style block leaf cells')) (zero_made known.zero v.zeros cells.zeros leaf cells.planes behind b.in_zeros a.in_zeros)
        ∙ ap (λ (n : ℕ). on_zeros style block leaf cells' (zeros_is n tree behind)) (counted_below known.zero v.zeros leaf cells.planes r.below)
        ∙ ap (λ (x : Bool). cond x (Err Planes) (and_told (told_of (record cells' { zeros = tree }) leaf z) (scan_entry style block cells.planes z known behind))) (lt-leb cells.planes z r.below)
        ∙ ap (and_told (told_of (record cells' { zeros = tree }) leaf z)) (entry_over style block cells.planes z known r.passes r.rest r.count r.over)

    by : ReachesPlanes v leaf cells breaks.behind ⊎ PassesPlanes v leaf cells breaks.behind →
        scan_included style block leaf (record cells { first = first_after (block_at cells leaf).zero v.first cells.first leaf layer }) breaks.behind ≡ Err Planes
    by (inl r) = reach r
    by (inr r) = pass r

-- what was read of a block, for some values
pub record BlockRead (v : Values) (style layer block leaf : ℕ) (cells : Cells) (bits : List Bool) (t : Told) : Type 0 where
  pub before : Agree cells v
  pub is : IsEntry v style layer block leaf cells t.entry
  pub bits_are : bits ≡ entry_bits v layer leaf cells t.entry ++ t.rest
  pub cells_are : t.cells ≡ entry_after v layer leaf cells t.entry

pub record IncludedRead (v : Values) (style block leaf : ℕ) (cells : Cells) (bits : List Bool) (t : Told) : Type 0 where
  pub before : ValuesOf cells.zeros v.zeros
  pub is : IsIncluded style block cells.planes (zero_planes (block_at cells leaf).zero v.zeros leaf) (block_at cells leaf) t.entry
  pub bits_are : bits ≡ included_bits v leaf cells t.entry ++ t.rest
  pub cells_are : t.cells ≡ cells_included v leaf cells t.entry
  pub first_is : t.cells.first ≡ cells.first

included_read : (v : Values) (style block leaf : ℕ) (cells : Cells) (bits : List Bool) (t : Told) → IsLeafOf cells.zeros leaf → scan_included style block leaf cells bits ≡ Ok t →
    ValuesOf t.cells.zeros v.zeros → IncludedRead v style block leaf cells bits t
included_read v style block leaf cells bits t l h a = by (scan_zeros (block_at cells leaf).zero cells.zeros leaf cells.planes bits) refl h
  where
    known : Known
    known = block_at cells leaf

    last : (z : Zeros) → scan_zeros (block_at cells leaf).zero cells.zeros leaf cells.planes bits ≡ Some z → z.zeros < cells.planes →
        (r : Result (Found Entry) HeadFault) → scan_entry style block cells.planes z.zeros (block_at cells leaf) z.rest ≡ r →
        and_told (told_of (record cells { zeros = z.tree }) leaf z.zeros) r ≡ Ok t → IncludedRead v style block leaf cells bits t
    last z eq lt (Err e) was h = absurd cc
    last z eq lt (Ok f) was h =
        let is : told_of (record cells { zeros = z.tree }) leaf z.zeros f ≡ t = cc in
        let a' : ValuesOf z.tree v.zeros = subst (λ (x : Told). ValuesOf x.cells.zeros v.zeros) (sym is) a in
        let r = zero_read (block_at cells leaf).zero v.zeros cells.zeros leaf cells.planes bits z l eq a' in
        let lt' : counted (block_at cells leaf).zero v.zeros leaf cells.planes < cells.planes = subst (λ (n : ℕ). n < cells.planes) r.zeros_are lt in
        let same : z.zeros ≡ zero_planes (block_at cells leaf).zero v.zeros leaf = r.zeros_are ∙ below_counted (block_at cells leaf).zero v.zeros leaf cells.planes lt' in
        let e = entry_read style block cells.planes z.zeros (block_at cells leaf) z.rest f lt was in
        subst (λ (x : Told). IncludedRead v style block leaf cells bits x) is (record {
          before = r.before;
          is = subst (λ (n : ℕ). IsIncluded style block cells.planes n (block_at cells leaf) f.value) same e.is;
          bits_are = r.bits_are ∙ ap (λ (q : List Bool). zero_bits (block_at cells leaf).zero v.zeros cells.zeros leaf cells.planes ++ q) e.bits_are
              ∙ sym (append_assoc (zero_bits (block_at cells leaf).zero v.zeros cells.zeros leaf cells.planes) (told_bits (block_at cells leaf).lblock f.value) f.rest);
          cells_are = ap (λ (x : Tree). (told_of (record cells { zeros = x }) leaf z.zeros f).cells) r.tree_is
              ∙ ap (λ (n : ℕ). (told_of (record cells { zeros = zero_after (block_at cells leaf).zero v.zeros cells.zeros leaf cells.planes }) leaf n f).cells) same;
          first_is = refl;
        })

    pick : (z : Zeros) → scan_zeros (block_at cells leaf).zero cells.zeros leaf cells.planes bits ≡ Some z → (b : Bool) → nat_le cells.planes z.zeros ≡ b →
        cond b (Err Planes) (and_told (told_of (record cells { zeros = z.tree }) leaf z.zeros) (scan_entry style block cells.planes z.zeros (block_at cells leaf) z.rest)) ≡ Ok t →
        IncludedRead v style block leaf cells bits t
    pick z eq true e h = absurd cc
    pick z eq false e h = last z eq (leb-false cells.planes z.zeros e) (scan_entry style block cells.planes z.zeros (block_at cells leaf) z.rest) refl h

    by : (o : Option Zeros) → scan_zeros (block_at cells leaf).zero cells.zeros leaf cells.planes bits ≡ o → and_then (or_bits o) (on_zeros style block leaf cells) ≡ Ok t →
        IncludedRead v style block leaf cells bits t
    by None eq h = absurd cc
    by (Some z) eq h = pick z eq (nat_le cells.planes z.zeros) refl h

pub block_read : (v : Values) (style layer block leaf : ℕ) (cells : Cells) (bits : List Bool) (t : Told) → IsBlockOf cells leaf → scan_block style layer block leaf cells bits ≡ Ok t → Agree t.cells v →
    BlockRead v style layer block leaf cells bits t
block_read v style layer block leaf cells bits t b h a = by (scan_first (block_at cells leaf).zero cells.first leaf layer bits) refl h
  where
    firsts : Bool → List Bool
    firsts c = first_bits (block_at cells leaf).zero v.first cells.first leaf layer c

    yes : (s : Asked) → scan_first (block_at cells leaf).zero cells.first leaf layer bits ≡ Some s → s.below ≡ true →
        scan_included style block leaf (record cells { first = s.tree }) s.rest ≡ Ok t → BlockRead v style layer block leaf cells bits t
    yes s eq e h =
        let i : IncludedRead v style block leaf (record cells { first = s.tree }) s.rest t = included_read v style block leaf (record cells { first = s.tree }) s.rest t b.in_zeros h a.in_zeros in
        let in_first : ValuesOf s.tree v.first = subst (λ (x : Tree). ValuesOf x v.first) i.first_is a.in_first in
        let r = first_read (block_at cells leaf).zero v.first cells.first leaf layer bits s b.in_first eq in_first in
        let c : contributes t.entry ≡ true = lt-ltb 0 t.entry.passes (i.is.count.some) in
        let below : s.below ≡ contributes t.entry = e ∙ sym c in
        let known = block_at cells leaf in
        let body = included_bits v leaf cells t.entry in
        record {
          before = record { in_first = r.before; in_zeros = i.before };
          is = record {
            first = subst (λ (x : Bool). IsInclusion known.zero v.first leaf layer x) below r.is;
            told = subst (λ (x : Bool). MatchBool x (IsIncluded style block cells.planes (zero_planes known.zero v.zeros leaf) known t.entry) (t.entry ≡ nothing)) (sym c) i.is;
          };
          bits_are = r.bits_are ∙ ap (λ (x : Bool). first_bits known.zero v.first cells.first leaf layer x ++ s.rest) below
              ∙ ap (λ (q : List Bool). first_bits known.zero v.first cells.first leaf layer (contributes t.entry) ++ q) i.bits_are
              ∙ sym (append_assoc (first_bits known.zero v.first cells.first leaf layer (contributes t.entry)) body t.rest)
              ∙ ap (λ (x : Bool). (first_bits known.zero v.first cells.first leaf layer (contributes t.entry) ++ cond x body []) ++ t.rest) (sym c);
          cells_are = i.cells_are ∙ ap (λ (x : Tree). cells_included v leaf (record cells { first = x }) t.entry) r.tree_is
              ∙ ap (λ (x : Bool). cond x (cells_included v leaf (cells_first v layer leaf cells) t.entry) (cells_first v layer leaf cells)) (sym c);
        }

    none : (s : Asked) → scan_first (block_at cells leaf).zero cells.first leaf layer bits ≡ Some s → s.below ≡ false →
        told_is nothing (record cells { first = s.tree }) s.rest ≡ t → BlockRead v style layer block leaf cells bits t
    none s eq e is =
        let a' : Agree (record cells { first = s.tree }) v = subst (λ (x : Told). Agree x.cells v) (sym is) a in
        let r = first_read (block_at cells leaf).zero v.first cells.first leaf layer bits s b.in_first eq a'.in_first in
        let known = block_at cells leaf in
        subst (λ (x : Told). BlockRead v style layer block leaf cells bits x) is (record {
          before = record { in_first = r.before; in_zeros = a'.in_zeros };
          is = record { first = subst (λ (x : Bool). IsInclusion known.zero v.first leaf layer x) e r.is; told = refl };
          bits_are = r.bits_are ∙ ap (λ (x : Bool). first_bits known.zero v.first cells.first leaf layer x ++ s.rest) e
              ∙ sym (append_assoc (first_bits known.zero v.first cells.first leaf layer false) [] s.rest);
          cells_are = ap (λ (x : Tree). let c : Cells = record cells { first = x } in c) r.tree_is;
        })

    pick : (s : Asked) → scan_first (block_at cells leaf).zero cells.first leaf layer bits ≡ Some s → (x : Bool) → s.below ≡ x →
        cond x (scan_included style block leaf (record cells { first = s.tree }) s.rest) (Ok (told_is nothing (record cells { first = s.tree }) s.rest)) ≡ Ok t →
        BlockRead v style layer block leaf cells bits t
    pick s eq true e h = yes s eq e h
    pick s eq false e h = none s eq e cc

    by : (o : Option Asked) → scan_first (block_at cells leaf).zero cells.first leaf layer bits ≡ o → and_then (or_bits o) (on_first style block leaf cells) ≡ Ok t →
        BlockRead v style layer block leaf cells bits t
    by None eq h = absurd cc
    by (Some s) eq h = pick s eq s.below refl h
