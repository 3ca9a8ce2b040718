-- How many bytes a packet header has, by the code-blocks that it may tell of (ITU-T T.800, B.10): at most 552 bits for each of 13 planes, and 463
-- for each part that a layer has of it. A query of a tag tree has at most as many bits as its threshold and its nodes.
use Rattle.std.proofs.Common.{◌≡◌, ◌∙◌, ◌<◌, ◌≤◌, ◌+◌, ◌-◌, ◌*◌, ◌==◌, nat_le, nat_lt, min, max, ℕ, zero, suc, Bool, true, false, arith, List, [], ◌∷◌, ◌++◌, drop, take, length, replicate, slice_index_or, slice_set, refl, ap, subst, inl, inr, length-append, length-drop, length-take, Option, None, Some, if◌then◌else◌}
use Rattle.std.proofs.lemmas.Bool.{cases_Bool, or_parts}
use Rattle.std.proofs.lemmas.List.{length-replicate}
use Rattle.std.proofs.lemmas.Bool.Decides.{nat_tests}
use Rattle.std.proofs.lemmas.Nat.{mul-le}
use Rattle.jx_tagtree.specs.declared.node.Node.{Node}
use Rattle.jx_tagtree.specs.declared.shape.Level.{Level}
use Rattle.jx_tagtree.specs.Shape.{base, is_root, over, parent_at, way, way_from}
use Rattle.jx_tagtree.specs.Header.{bytes_from, low_bits, number_of, room}
use Rattle.jx_tagtree.specs.Questions.{all_bits}
use Rattle.jx_tagtree.specs.TagTree.{Tree, Walk, is_told, node_after, node_at, node_bits, query, step, tree_after, walk}
use Rattle.jx_packet_header.specs.declared.BandCells.{BandCells}
use Rattle.jx_packet_header.specs.declared.HeaderPart.{HeaderPart}
use Rattle.jx_packet_header.specs.declared.known.Known.{Known}
use Rattle.jx_packet_header.specs.LeavesFit.{header_at}
use Rattle.jx_packet_header.specs.Packet.{BandTold, Cells, Entry, State, Values, asked, band_bits, bands_after, bands_bits, block_after, block_at, blocks_after, blocks_bits, contributes, entry_after, entry_bits, first_bits, header_after, header_bits, told_bits, unknown_block, zero_bits, zero_planes}
use Rattle.jx_packet_header.specs.Parts.{length_bits, width}
use Rattle.jx_packet_header.specs.Precinct.{fresh_bands}
use Rattle.jx_packet_header.specs.Words.{pass_word, raise_word}
use Rattle.jx_packet_header.specs.Written.{Leafed, bands_written, entries_written, header_written, parts_in, raise_of, some_in, state_at}
use Rattle.jx_packet_header.proofs.PutLemmas.{size_le}

-- ---- tag trees
way_long : (n : ℕ) (level : Level) (node : ℕ) → length (way_from n level node) ≤ suc n
way_long zero level node = omega arith
way_long (suc n) level node = by (is_root level) (way_long n (over level) (parent_at level node))
  where
    by : (b : Bool) → length (way_from n (over level) (parent_at level node)) ≤ suc n → length (if b then node ∷ [] else node ∷ way_from n (over level) (parent_at level node)) ≤ suc (suc n)
    by true h = omega arith
    by false h = omega arith

way_few : (wide high leaf : ℕ) → length (way wide high leaf) ≤ 23
unfolding way
way_few wide high leaf = way_long 22 (base wide high) leaf

last_few : (b : Bool) → length (if b then true ∷ [] else []) ≤ 1
last_few true = omega arith
last_few false = omega arith

not_past : (start threshold : ℕ) → nat_le threshold start ≡ false → start < threshold
not_past start threshold h = grind (arith, nat_tests)

-- a node's bits are at most one more than what is known more by them, below the threshold
grows : (a start m threshold count : ℕ) → a ≤ start → start < threshold → count ≤ min m threshold - start + 1 → min a threshold + count ≤ min (max a (max start (min m threshold))) threshold + 1
grows a start m threshold count low below few = omega arith

node_grows : (node : Node) (a start m threshold : ℕ) → a ≤ start → min a threshold + length (node_bits node start m threshold) ≤ min (max a (node_after node start m threshold).known) threshold + 1
node_grows node a start m threshold low = elim (cases_Bool (is_told node start threshold)) [
  | inl t ↦ rw t (omega arith)
  | inr f ↦
      let both = or_parts node.settled (nat_le threshold start) f in
      let zeros : List Bool = replicate (min m threshold - start) false in
      let last : List Bool = if nat_lt m threshold then true ∷ [] else [] in
      let few : length (zeros ++ last) ≤ min m threshold - start + 1 = omega (arith, length-append zeros last, length-replicate (min m threshold - start) false, last_few (nat_lt m threshold)) in
      rw f (grows a start m threshold (length (zeros ++ last)) low (not_past start threshold both.1) few)
]

step_few : (values : ℕ → ℕ) (threshold n few : ℕ) (above : Walk) → length above.bits ≤ min above.known threshold + few
    → length (step values threshold n above).bits ≤ min (step values threshold n above).known threshold + suc few
step_few values threshold n few above h =
    let node : Node = node_at above.nodes n in
    let start : ℕ = max node.known above.known in
    let g = node_grows node above.known start (values n) threshold (omega arith) in
    omega (arith, length-append above.bits (node_bits node start (values n) threshold), g, h)

walk_few : (values : ℕ → ℕ) (threshold : ℕ) (nodes : List Node) (ns : List ℕ) → length (walk values threshold nodes ns).bits ≤ min (walk values threshold nodes ns).known threshold + length ns
walk_few values threshold nodes [] = omega arith
walk_few values threshold nodes (n ∷ ns) = step_few values threshold n (length ns) (walk values threshold nodes ns) (walk_few values threshold nodes ns)

pub query_few : (values : ℕ → ℕ) (tree : Tree) (leaf threshold : ℕ) → length (query values tree leaf threshold).bits ≤ threshold + 23
query_few values tree leaf threshold =
    omega (arith, walk_few values threshold tree.nodes (way tree.wide tree.high leaf), way_few tree.wide tree.high leaf)

-- ---- a block
asked_few : (values : ℕ → ℕ) (tree : Tree) (leaf n more : ℕ) → n + more ≤ 13 → length (all_bits values tree (asked leaf n more)) ≤ 36 * more
asked_few values tree leaf n zero le = omega arith
asked_few values tree leaf n (suc more) le =
    let here : List Bool = (query values tree leaf (n + 1)).bits in
    let after : Tree = tree_after values tree leaf (n + 1) in
    let few = query_few values tree leaf (n + 1) in
    let rest = asked_few values after leaf (n + 1) more (omega arith) in
    omega (arith, length-append here (all_bits values after (asked leaf (n + 1) more)), few, rest)

zero_few : (known : Option ℕ) (values : ℕ → ℕ) (tree : Tree) (leaf planes : ℕ) → planes ≤ 13 → length (zero_bits known values tree leaf planes) ≤ 468
zero_few None values tree leaf planes le = let a = asked_few values tree leaf 0 (min planes (values leaf + 1)) (omega arith) in omega (arith, a, le)
zero_few (Some z) values tree leaf planes le = omega arith

first_few : (known : Option ℕ) (values : ℕ → ℕ) (tree : Tree) (leaf layer : ℕ) (included : Bool) → layer < 12 → length (first_bits known values tree leaf layer included) ≤ 35
first_few None values tree leaf layer included lt = omega (arith, query_few values tree leaf (layer + 1), lt)
first_few (Some z) values tree leaf layer included lt = omega arith

low_long : (n byte : ℕ) → length (low_bits n byte) ≡ n
low_long zero byte = refl
low_long (suc n) byte = ap suc (low_long n byte)

word_few : (n : ℕ) → length (pass_word n) ≤ 16
unfolding pass_word
word_few n = by (n == 1) (n == 2) (nat_le n 5) (nat_le n 36)
  where
    by : (a b c d : Bool) → length (if a then false ∷ []
        else if b then true ∷ false ∷ []
        else if c then true ∷ true ∷ low_bits 2 (n - 3)
        else if d then true ∷ true ∷ true ∷ true ∷ low_bits 5 (n - 6)
        else true ∷ true ∷ true ∷ true ∷ true ∷ true ∷ true ∷ true ∷ true ∷ low_bits 7 (n - 37)) ≤ 16
    by true b c d = omega arith
    by false true c d = omega arith
    by false false true d = omega (arith, low_long 2 (n - 3))
    by false false false true = omega (arith, low_long 5 (n - 6))
    by false false false false = omega (arith, low_long 7 (n - 37))

raise_long : (k : ℕ) → length (raise_word k) ≡ k + 1
raise_long k = length-append (replicate k true) (false ∷ []) ∙ ap (λ (n : ℕ). n + 1) (length-replicate k true)

lengths_few : (lblock : ℕ) (parts : List HeaderPart) → lblock ≤ 432 → length (length_bits lblock parts) ≤ 463 * length parts
lengths_few lblock [] le = omega arith
lengths_few lblock (p ∷ ps) le =
    omega (
      arith,
      length-append (low_bits (width lblock p.passes) p.length) (length_bits lblock ps),
      low_long (width lblock p.passes) p.length,
      size_le p.passes,
      lengths_few lblock ps le,
    )

-- an entry that raises Lblock by 32 at most, and has so many parts at most
record IsLow (most : ℕ) (e : Entry) : Type 0 where
  raise : e.raise ≤ 32
  parts : length e.parts ≤ most

told_few : (lblock most : ℕ) (e : Entry) → lblock ≤ 400 → IsLow most e → length (told_bits lblock e) ≤ 49 + 463 * most
told_few lblock most e le low =
    let w : List Bool = pass_word e.passes in
    let r : List Bool = raise_word e.raise in
    let l : List Bool = length_bits (lblock + e.raise) e.parts in
    omega (arith, length-append w (r ++ l), length-append r l, word_few e.passes, raise_long e.raise, lengths_few (lblock + e.raise) e.parts (omega (arith, low.raise, le)), low.parts, low.raise, le)

entry_few : (v : Values) (layer leaf most : ℕ) (cells : Cells) (e : Entry) → layer < 12 → cells.planes ≤ 13 → (block_at cells leaf).lblock ≤ 400 → IsLow most e
    → length (entry_bits v layer leaf cells e) ≤ 552 + 463 * most
entry_few v layer leaf most cells e lt planes le low =
    let known : Option ℕ = (block_at cells leaf).zero in
    let first : List Bool = first_bits known v.first cells.first leaf layer (contributes e) in
    let zeros : List Bool = zero_bits known v.zeros cells.zeros leaf cells.planes in
    let told : List Bool = told_bits (block_at cells leaf).lblock e in
    let both : length (zeros ++ told) ≤ 517 + 463 * most = omega (arith, length-append zeros told, zero_few known v.zeros cells.zeros leaf cells.planes planes, told_few (block_at cells leaf).lblock most e le low) in
    let rest : length (if contributes e then zeros ++ told else []) ≤ 517 + 463 * most = either (contributes e) (zeros ++ told) (517 + 463 * most) both in
    omega (arith, length-append first (if contributes e then zeros ++ told else []), first_few known v.first cells.first leaf layer (contributes e) lt, rest)
  where
    either : (b : Bool) (bits : List Bool) (n : ℕ) → length bits ≤ n → length (if b then bits else []) ≤ n
    either true bits n h = h
    either false bits n h = omega arith

-- ---- what is known after it
set_low : (xs : List Known) (leaf i most : ℕ) (k : Known) → (slice_index_or xs i unknown_block).lblock ≤ most → k.lblock ≤ most → (slice_index_or (slice_set xs leaf k) i unknown_block).lblock ≤ most
set_low [] leaf i most k h le = h
set_low (x ∷ xs) zero zero most k h le = le
set_low (x ∷ xs) zero (suc i) most k h le = h
set_low (x ∷ xs) (suc leaf) zero most k h le = h
set_low (x ∷ xs) (suc leaf) (suc i) most k h le = set_low xs leaf i most k h le

set_past : (xs : List Known) (leaf i : ℕ) (k : Known) → leaf < i → slice_index_or (slice_set xs leaf k) i unknown_block ≡ slice_index_or xs i unknown_block
set_past [] leaf i k lt = refl
set_past (x ∷ xs) zero zero k lt = absurd (omega arith)
set_past (x ∷ xs) zero (suc i) k lt = refl
set_past (x ∷ xs) (suc leaf) zero k lt = absurd (omega arith)
set_past (x ∷ xs) (suc leaf) (suc i) k lt = set_past xs leaf i k (omega arith)

entry_planes : (v : Values) (layer leaf : ℕ) (cells : Cells) (e : Entry) → (entry_after v layer leaf cells e).planes ≡ cells.planes
entry_planes v layer leaf cells e = elim (cases_Bool (contributes e)) [
  | inl t ↦ rw t refl
  | inr f ↦ rw f refl
]

entry_past : (v : Values) (layer leaf i : ℕ) (cells : Cells) (e : Entry) → leaf < i → block_at (entry_after v layer leaf cells e) i ≡ block_at cells i
entry_past v layer leaf i cells e lt = elim (cases_Bool (contributes e)) [
  | inl t ↦ rw t (set_past cells.blocks leaf i (block_after (block_at cells leaf) (zero_planes (block_at cells leaf).zero v.zeros leaf) e) lt)
  | inr f ↦ rw f refl
]

entry_low : (v : Values) (layer leaf i most : ℕ) (cells : Cells) (e : Entry) → (block_at cells i).lblock ≤ most → (block_at cells leaf).lblock + e.raise ≤ most → (block_at (entry_after v layer leaf cells e) i).lblock ≤ most
entry_low v layer leaf i most cells e h le = elim (cases_Bool (contributes e)) [
  | inl t ↦ rw t (set_low cells.blocks leaf i most (block_after (block_at cells leaf) (zero_planes (block_at cells leaf).zero v.zeros leaf) e) h le)
  | inr f ↦ rw f h
]

-- ---- the blocks of a band
one_more : (each n a b all : ℕ) → all ≡ a + b → a ≤ each → b ≤ each * n → all ≤ each * suc n
one_more each n a b all e first rest = grind arith

some_more : (each m n a b all : ℕ) → all ≡ a + b → a ≤ each * m → b ≤ each * n → all ≤ each * (m + n)
some_more each m n a b all e first rest = grind arith

abbrev AreLow : ℕ → List Entry → Type 0
AreLow most [] = Unit {0}
AreLow most (e ∷ es) = IsLow most e × AreLow most es

blocks_planes : (v : Values) (layer leaf : ℕ) (cells : Cells) (es : List Entry) → (blocks_after v layer leaf cells es).planes ≡ cells.planes
blocks_planes v layer leaf cells [] = refl
blocks_planes v layer leaf cells (e ∷ es) = blocks_planes v layer (leaf + 1) (entry_after v layer leaf cells e) es ∙ entry_planes v layer leaf cells e

-- ---- the bands
pub record IsLowBand (most : ℕ) (c : Cells) : Type 0 where
  pub planes : c.planes ≤ 13
  pub each : (i : ℕ) → (block_at c i).lblock ≤ most

abbrev pub AreLowBands : ℕ → List Cells → Type 0
AreLowBands most [] = Unit {0}
AreLowBands most (c ∷ cs) = IsLowBand most c × AreLowBands most cs

abbrev AreLowTolds : ℕ → List BandTold → Type 0
AreLowTolds most [] = Unit {0}
AreLowTolds most (t ∷ ts) = AreLow most t.entries × AreLowTolds most ts

abbrev count_told : List BandTold → ℕ
count_told [] = 0
count_told (t ∷ ts) = length t.entries + count_told ts

low_more : (most more : ℕ) (bands : List Cells) → most ≤ more → AreLowBands most bands → AreLowBands more bands
low_more most more [] le low = tt
low_more most more (c ∷ cs) le low = (record { planes = low.0.planes; each = λ i. omega (arith, low.0.each i, le) }, low_more most more cs le low.1)

-- ---- what is written: each leaf has so many parts in a layer at most
abbrev pub HaveFew : ℕ → ℕ → List Leafed → Type 0
HaveFew most layer [] = Unit {0}
HaveFew most layer (l ∷ ls) = (length (parts_in layer l.parts) ≤ most) × HaveFew most layer ls

raise_low : (lblock : ℕ) (parts : List HeaderPart) → raise_of lblock parts ≤ 32
raise_low lblock [] = omega arith
raise_low lblock (p ∷ ps) = omega (arith, size_le p.length, raise_low lblock ps)

entries_few : (layer : ℕ) (blocks : List Known) (ls : List Leafed) → length (entries_written layer blocks ls) ≤ length ls
entries_few layer [] ls = omega arith
entries_few layer (k ∷ ks) [] = omega arith
entries_few layer (k ∷ ks) (l ∷ ls) = omega (arith, entries_few layer ks ls)

written_few : (layers layer : ℕ) (bands : List Cells) (ls : List Leafed) → count_told (bands_written layers layer bands ls) ≤ length ls
written_few layers layer [] ls = omega arith
written_few layers layer (c ∷ cs) ls =
    omega (arith, entries_few layer c.blocks (take (length c.blocks) ls), written_few layers layer cs (drop (length c.blocks) ls), length-take (length c.blocks) ls, length-drop (length c.blocks) ls)

-- ---- the state before a layer
one_unknown : (n i : ℕ) → (slice_index_or (replicate n unknown_block) i unknown_block).lblock ≤ 3
one_unknown zero i = omega arith
one_unknown (suc n) zero = omega arith
one_unknown (suc n) (suc i) = one_unknown n i

abbrev pub AreOf13 : List BandCells → Type 0
AreOf13 [] = Unit {0}
AreOf13 (b ∷ bs) = (b.planes ≤ 13) × AreOf13 bs

fresh_low : (bands : List BandCells) → AreOf13 bands → AreLowBands 3 (fresh_bands bands)
fresh_low [] h = tt
fresh_low (b ∷ bs) h = elim (cases_Bool (b.wide == 0)) [
  | inl t ↦ rw t (fresh_low bs h.1)
  | inr f ↦ rw f (record { planes = h.0; each = λ i. one_unknown (b.wide * b.high) i }, fresh_low bs h.1)
]

pub state_layer : (layers style : ℕ) (bands : List BandCells) (ls : List Leafed) (layer : ℕ) → (state_at layers style bands ls layer).layer ≡ layer
state_layer layers style bands ls zero = refl
state_layer layers style bands ls (suc layer) = let e = state_layer layers style bands ls layer in omega (arith, e)

bytes_long : (fuel before : ℕ) (bits : List Bool) → 7 * length (bytes_from fuel before bits) ≤ length bits + 13
bytes_long zero before bits = omega arith
bytes_long (suc fuel) before [] = one (before == 255)
  where
    one : (b : Bool) → 7 * length {A = ℕ} (if b then 0 ∷ [] else []) ≤ 13
    one true = omega arith
    one false = omega arith
bytes_long (suc fuel) before (bit ∷ bits) =
    let byte : ℕ = number_of (room before) (bit ∷ bits) in
    let rest : List Bool = drop (room before) (bit ∷ bits) in
    omega (arith, bytes_long fuel byte rest, length-drop (room before) (bit ∷ bits), seven (before == 255))
  where
    seven : (b : Bool) → 7 ≤ (if b then 7 else 8)
    seven true = omega arith
    seven false = omega arith

-- ---- where a layer has so many parts of each block at most
module _ (share each : ℕ) (enough : 552 + 463 * share ≤ each) where
  blocks_few : (v : Values) (layer leaf : ℕ) (cells : Cells) (es : List Entry) → layer < 12 → cells.planes ≤ 13 → AreLow share es → ((i : ℕ) → leaf ≤ i → (block_at cells i).lblock ≤ 400)
      → length (blocks_bits v layer leaf cells es) ≤ each * length es
  blocks_few v layer leaf cells [] lt planes low from = omega arith
  blocks_few v layer leaf cells (e ∷ es) lt planes low from =
      let after : Cells = entry_after v layer leaf cells e in
      let here = entry_few v layer leaf share cells e lt planes (from leaf (omega arith)) low.0 in
      let later : (i : ℕ) → leaf + 1 ≤ i → (block_at after i).lblock ≤ 400 = λ i le. omega (arith, ap (λ (k : Known). k.lblock) (entry_past v layer leaf i cells e (omega arith)), from i (omega arith)) in
      let rest = blocks_few v layer (leaf + 1) after es lt (omega (arith, entry_planes v layer leaf cells e, planes)) low.1 later in
      one_more each (length es) (length (entry_bits v layer leaf cells e)) (length (blocks_bits v layer (leaf + 1) after es)) _ (length-append (entry_bits v layer leaf cells e) (blocks_bits v layer (leaf + 1) after es)) (omega (arith, enough, here)) rest

  blocks_low : (v : Values) (layer leaf most : ℕ) (cells : Cells) (es : List Entry) → AreLow share es → ((i : ℕ) → leaf ≤ i → (block_at cells i).lblock ≤ most) → ((i : ℕ) → (block_at cells i).lblock ≤ most + 32)
      → (i : ℕ) → (block_at (blocks_after v layer leaf cells es) i).lblock ≤ most + 32
  blocks_low v layer leaf most cells [] low from all = all
  blocks_low v layer leaf most cells (e ∷ es) low from all =
      let after : Cells = entry_after v layer leaf cells e in
      let later : (i : ℕ) → leaf + 1 ≤ i → (block_at after i).lblock ≤ most = λ i le. omega (arith, ap (λ (k : Known). k.lblock) (entry_past v layer leaf i cells e (omega arith)), from i (omega arith)) in
      let every : (i : ℕ) → (block_at after i).lblock ≤ most + 32 = λ i. entry_low v layer leaf i (most + 32) cells e (all i) (omega (arith, from leaf (omega arith), low.0.raise)) in
      blocks_low v layer (leaf + 1) most after es low.1 later every

  bands_few : (layer most : ℕ) (bands : List Cells) (tolds : List BandTold) → layer < 12 → most ≤ 400 → AreLowBands most bands → AreLowTolds share tolds → length (bands_bits layer bands tolds) ≤ each * count_told tolds
  bands_few layer most [] tolds lt le low all = omega arith
  bands_few layer most (c ∷ cs) [] lt le low all = omega arith
  bands_few layer most (c ∷ cs) (t ∷ ts) lt le low all =
      let here = blocks_few t.values layer 0 c t.entries lt low.0.planes all.0 (λ i from. omega (arith, low.0.each i, le)) in
      let rest = bands_few layer most cs ts lt le low.1 all.1 in
      some_more each (length t.entries) (count_told ts) (length (band_bits layer c t)) (length (bands_bits layer cs ts)) _ (length-append (band_bits layer c t) (bands_bits layer cs ts)) here rest

  bands_low : (layer most : ℕ) (bands : List Cells) (tolds : List BandTold) → AreLowBands most bands → AreLowTolds share tolds → AreLowBands (most + 32) (bands_after layer bands tolds)
  bands_low layer most [] tolds low all = tt
  bands_low layer most (c ∷ cs) [] low all = low_more most (most + 32) (c ∷ cs) (omega arith) low
  bands_low layer most (c ∷ cs) (t ∷ ts) low all = (
    record {
      planes = omega (arith, blocks_planes t.values layer 0 c t.entries, low.0.planes);
      each = blocks_low t.values layer 0 most c t.entries all.0 (λ i from. low.0.each i) (λ i. omega (arith, low.0.each i));
    },
    bands_low layer most cs ts low.1 all.1,
  )

  one_taken : (layer n : ℕ) (ls : List Leafed) → HaveFew share layer ls → HaveFew share layer (take n ls)
  one_taken layer zero ls h = tt
  one_taken layer (suc n) [] h = tt
  one_taken layer (suc n) (l ∷ ls) h = (h.0, one_taken layer n ls h.1)

  one_left : (layer n : ℕ) (ls : List Leafed) → HaveFew share layer ls → HaveFew share layer (drop n ls)
  one_left layer zero ls h = h
  one_left layer (suc n) [] h = tt
  one_left layer (suc n) (l ∷ ls) h = one_left layer n ls h.1

  entries_low : (layer : ℕ) (blocks : List Known) (ls : List Leafed) → HaveFew share layer ls → AreLow share (entries_written layer blocks ls)
  entries_low layer [] ls h = tt
  entries_low layer (k ∷ ks) [] h = tt
  entries_low layer (k ∷ ks) (l ∷ ls) h = (record { raise = raise_low k.lblock (parts_in layer l.parts); parts = h.0 }, entries_low layer ks ls h.1)

  written_low : (layers layer : ℕ) (bands : List Cells) (ls : List Leafed) → HaveFew share layer ls → AreLowTolds share (bands_written layers layer bands ls)
  written_low layers layer [] ls h = tt
  written_low layers layer (c ∷ cs) ls h =
      (entries_low layer c.blocks (take (length c.blocks) ls) (one_taken layer (length c.blocks) ls h), written_low layers layer cs (drop (length c.blocks) ls) (one_left layer (length c.blocks) ls h))

  after_low : (most layers : ℕ) (k : State) (ls : List Leafed) → HaveFew share k.layer ls → AreLowBands most k.bands → AreLowBands (most + 32) (header_after k (header_written layers k ls)).bands
  after_low most layers k ls one low = elim (cases_Bool (some_in k.layer ls)) [
    | inl t ↦ rw t (bands_low k.layer most k.bands (bands_written layers k.layer k.bands ls) low (written_low layers k.layer k.bands ls one))
    | inr f ↦ rw f (low_more most (most + 32) k.bands (omega arith) low)
  ]

  state_low : (layers style : ℕ) (bands : List BandCells) (ls : List Leafed) (layer : ℕ) → AreOf13 bands → ((l : ℕ) → HaveFew share l ls) → AreLowBands (3 + 32 * layer) (state_at layers style bands ls layer).bands
  state_low layers style bands ls zero of one = fresh_low bands of
  state_low layers style bands ls (suc layer) of one =
      let k : State = state_at layers style bands ls layer in
      let same : 3 + 32 * layer + 32 ≡ 3 + 32 * suc layer = omega arith in
      subst (λ (n : ℕ). AreLowBands n (state_at layers style bands ls (suc layer)).bands) same (after_low (3 + 32 * layer) layers k ls (one k.layer) (state_low layers style bands ls layer of one))

  bits_long : (layers : ℕ) (k : State) (ls : List Leafed) (most : ℕ) → k.layer < 12 → most ≤ 400 → HaveFew share k.layer ls → AreLowBands most k.bands → length (header_bits k (header_written layers k ls)) ≤ 1 + each * length ls
  bits_long layers k ls most lt le one low = elim (cases_Bool (some_in k.layer ls)) [
    | inl t ↦
        let tolds : List BandTold = bands_written layers k.layer k.bands ls in
        let all : each * count_told tolds ≤ each * length ls = mul-le each (count_told tolds) each (length ls) (omega arith) (written_few layers k.layer k.bands ls) in
        rw t (omega (arith, bands_few k.layer most k.bands tolds lt le low (written_low layers k.layer k.bands ls one), all))
    | inr f ↦ rw f (omega arith)
  ]

  -- seven bits of each byte are the header's
  pub header_few : (layers style : ℕ) (bands : List BandCells) (ls : List Leafed) (layer : ℕ) → layer < 12 → AreOf13 bands → ((l : ℕ) → HaveFew share l ls) → 7 * length (header_at layers style bands ls layer) ≤ each * length ls + 14
  header_few layers style bands ls layer lt of one =
      let k : State = state_at layers style bands ls layer in
      let bits : List Bool = header_bits k (header_written layers k ls) in
      let few = bits_long layers k ls (3 + 32 * layer) (omega (arith, state_layer layers style bands ls layer)) (omega arith) (one k.layer) (state_low layers style bands ls layer of one) in
      omega (arith, bytes_long (suc (length bits)) 0 bits, few)
