-- Headers that are written.
use Rattle.std.proofs.Common.{◌≡◌, ◌≢◌, ℕ, zero, suc, ◌+◌, ◌*◌, ◌^◌, ◌<◌, ◌≤◌, ◌==◌, nat_lt, nat_le, Bool, true, false, List, [], ◌∷◌, ◌++◌, length, drop, map, get_or, set, refl, sym, ap, ◌∙◌, subst, cond, arith, append_assoc, get_or-set_same, get_or-set_other, length-set, inl, inr, ◌⊎◌}
use Rattle.std.proofs.lemmas.Bool.Decides.{nat_tests}
use Rattle.std.proofs.lemmas.Bool.{cases_eq, cases_lt}
use Rattle.std.proofs.lemmas.List.{get_or-map, length-map, get_or_past, append-nil}
use Rattle.jx_tagtree.specs.Shape.{IsShape}
use Rattle.jx_tagtree.specs.Leaves.{least_leaf}
use Rattle.jx_tagtree.specs.TagTree.{IsTree, ValuesOf}
use Rattle.jx_tagtree.proofs.LeafLemmas.{least_of_leaf}
use Rattle.jx_packet_header.specs.declared.HeaderPart.{HeaderPart}
use Rattle.jx_packet_header.specs.declared.LeafPart.{LeafPart}
use Rattle.jx_packet_header.specs.declared.Leaf.{Leaf}
use Rattle.jx_packet_header.specs.declared.known.Known.{Known}
use Rattle.jx_packet_header.specs.Words.{size}
use Rattle.jx_packet_header.specs.Packet.{Cells, Values, Entry, contributes, unknown_block, block_at, block_after, zero_planes, cells_first, cells_included, entry_bits, entry_after, blocks_bits, blocks_after}
use Rattle.jx_packet_header.specs.Written.{Leafed, Writes, zero_leaf, zero_leaves, parts_in, passes_of, raise_of, entry_written, entries_written, least_of, cells_of, values_of}
use Rattle.jx_packet_header.specs.Leafs.{leaf_of}
use Rattle.jx_packet_header.specs.Writable.{no_leaf, leaf_at, passes_from, IsCursor, IsDue, AreWrites, IsWrites, IsPartly, SameSize}
use Rattle.jx_packet_header.proofs.BandLemmas.{entry_size}
use Rattle.jx_packet_header.proofs.CursorLemmas.{from_less, from_none}
use Rattle.jx_packet_header.proofs.FirstLemmas.{first_still}
use Rattle.jx_packet_header.proofs.PutLemmas.{same_least, size_le}

-- ---- passes that are due
pub due_split : (layer : ℕ) (parts : List LeafPart) → passes_from layer parts ≡ passes_of (parts_in layer parts) + passes_from (layer + 1) parts
due_split layer [] = refl
due_split layer (p ∷ ps) = by (cases_lt p.layer layer) (due_split layer ps)
  where
    by : (p.layer < layer) ⊎ (layer ≤ p.layer) → passes_from layer ps ≡ passes_of (parts_in layer ps) + passes_from (layer + 1) ps →
        passes_from layer (p ∷ ps) ≡ passes_of (parts_in layer (p ∷ ps)) + passes_from (layer + 1) (p ∷ ps)
    by (inl lt) i =
        let a : nat_le layer p.layer ≡ false = grind (arith, nat_tests) in
        let b : (p.layer == layer) ≡ false = grind (arith, nat_tests) in
        let c : nat_le (layer + 1) p.layer ≡ false = grind (arith, nat_tests) in
        rw (a, b, c) i
    by (inr ge) i = elim (cases_lt layer p.layer) [
      | inl gt ↦
          (let a : nat_le layer p.layer ≡ true = grind (arith, nat_tests) in
          let b : (p.layer == layer) ≡ false = grind (arith, nat_tests) in
          let c : nat_le (layer + 1) p.layer ≡ true = grind (arith, nat_tests) in
          rw (a, b, c) (omega arith))
      | inr le ↦
          (let a : nat_le layer p.layer ≡ true = grind (arith, nat_tests) in
          let b : (p.layer == layer) ≡ true = (let e : p.layer ≡ layer = omega arith in grind (arith, nat_tests)) in
          let c : nat_le (layer + 1) p.layer ≡ false = grind (arith, nat_tests) in
          rw (a, b, c) (omega arith))
    ]

-- ---- a block's leaf
pub leaf_is : (leaves : List Leaf) (i : ℕ) (x : Leaf) → i < length leaves → x ≡ get_or leaves i x → leaf_at (map leaf_of leaves) i ≡ leaf_of x
leaf_is leaves i x lt e = get_or-map leaf_of leaves i x no_leaf lt ∙ ap leaf_of (sym e)

some_part : (layer : ℕ) (parts : List LeafPart) (planes z : ℕ) → 1 ≤ passes_of (parts_in layer parts) → zero_leaf planes z parts ≡ z
some_part layer [] planes z ge = absurd (omega arith)
some_part layer (p ∷ ps) planes z ge = refl

pub zero_is : (layer i : ℕ) (leaves : List Leafed) (w : Writes) → AreWrites leaves w → i < length w.blocks → 1 ≤ passes_of (parts_in layer (leaf_at leaves i).parts) →
    least_of w.zeros i ≡ (leaf_at leaves i).zero
zero_is layer i leaves w a lt ge =
    let zs = zero_leaves w.planes leaves in
    let f : Leafed → ℕ = λ (l : Leafed). zero_leaf w.planes l.zero l.parts in
    let lt' : i < length leaves = (let e : length leaves ≡ length w.blocks = a.all in omega arith) in
    let inside : i < w.zeros.tree.wide * w.zeros.tree.high = subst (λ (n : ℕ). i < n) a.long lt in
    let long : length zs ≡ w.zeros.tree.wide * w.zeros.tree.high = length-map leaves f ∙ a.all ∙ a.long in
    ap (λ (ls : List ℕ). least_leaf w.zeros.tree.wide w.zeros.tree.high ls i) a.zeros_are
    ∙ least_of_leaf w.zeros.tree.wide w.zeros.tree.high zs i a.shape long a.fit inside
    ∙ get_or-map f leaves i no_leaf 0 lt'
    ∙ some_part layer (leaf_at leaves i).parts w.planes (leaf_at leaves i).zero ge

-- ---- block after block
-- the next block's entry is the next of those to come
pub entry_next : (layer i : ℕ) (blocks : List Known) (leaves : List Leafed) → i < length blocks → length leaves ≡ length blocks →
    entries_written layer (drop i blocks) (drop i leaves) ≡ entry_written layer (get_or blocks i unknown_block) (leaf_at leaves i) ∷ entries_written layer (drop (i + 1) blocks) (drop (i + 1) leaves)
entry_next layer i [] leaves lt e = absurd (omega arith)
entry_next layer i (k ∷ ks) [] lt e = absurd (omega arith)
entry_next layer zero (k ∷ ks) (l ∷ ls) lt e = refl
entry_next layer (suc i) (k ∷ ks) (l ∷ ls) lt e =
    let s : suc i + 1 ≡ suc (i + 1) = omega arith in
    entry_next layer i ks ls (omega arith) (omega arith)
    ∙ ap (λ (n : ℕ). entry_written layer (get_or ks i unknown_block) (leaf_at ls i) ∷ entries_written layer (drop n (k ∷ ks)) (drop n (l ∷ ls))) (sym s)

pub entries_end : (layer i : ℕ) (blocks : List Known) (leaves : List Leafed) → length blocks ≤ i → entries_written layer (drop i blocks) (drop i leaves) ≡ []
entries_end layer zero [] leaves ge = refl
entries_end layer zero (k ∷ ks) leaves ge = absurd (omega arith)
entries_end layer (suc i) [] leaves ge = refl
entries_end layer (suc i) (k ∷ ks) [] ge = by (drop i ks)
  where
    by : (l : List Known) → entries_written layer l [] ≡ []
    by [] = refl
    by (x ∷ xs) = refl
entries_end layer (suc i) (k ∷ ks) (l ∷ ls) ge = entries_end layer i ks ls (omega arith)

drop_set : (xs : List Known) (i : ℕ) (y : Known) → drop (i + 1) (set xs i y) ≡ drop (i + 1) xs
drop_set [] i y = refl
drop_set (x ∷ xs) zero y = refl
drop_set (x ∷ xs) (suc i) y = let s : suc i + 1 ≡ suc (i + 1) = omega arith in
    ap (λ (n : ℕ). drop n (x ∷ set xs i y)) s ∙ drop_set xs i y ∙ ap (λ (n : ℕ). drop n (x ∷ xs)) (sym s)

pub behind_same : (v : Values) (layer i : ℕ) (cells : Cells) (e : Entry) → drop (i + 1) (entry_after v layer i cells e).blocks ≡ drop (i + 1) cells.blocks
behind_same v layer i cells e = by (contributes e)
  where
    by : (c : Bool) → drop (i + 1) (cond c (cells_included v i (cells_first v layer i cells) e) (cells_first v layer i cells)).blocks ≡ drop (i + 1) cells.blocks
    by true = drop_set cells.blocks i (block_after (block_at cells i) (zero_planes (block_at cells i).zero v.zeros i) e)
    by false = refl

pub record Writing (v : Values) (layer i : ℕ) (cells : Cells) (leaves : List Leafed) (bits : List Bool) (begun : List Bool) (start : Cells) : Type 0 where
  pub bits_are : bits ++ blocks_bits v layer i cells (entries_written layer (drop i cells.blocks) (drop i leaves)) ≡ begun ++ blocks_bits v layer 0 start (entries_written layer start.blocks leaves)
  pub after_is : blocks_after v layer i cells (entries_written layer (drop i cells.blocks) (drop i leaves)) ≡ blocks_after v layer 0 start (entries_written layer start.blocks leaves)

pub writing_next : (v : Values) (layer i : ℕ) (cells after : Cells) (leaves : List Leafed) (bits next begun : List Bool) (start : Cells) → i < length cells.blocks → length leaves ≡ length cells.blocks →
    Writing v layer i cells leaves bits begun start →
    next ≡ bits ++ entry_bits v layer i cells (entry_written layer (block_at cells i) (leaf_at leaves i)) → after ≡ entry_after v layer i cells (entry_written layer (block_at cells i) (leaf_at leaves i)) →
    Writing v layer (i + 1) after leaves next begun start
writing_next v layer i cells after leaves bits next begun start lt all w is is_after =
    let e = entry_written layer (block_at cells i) (leaf_at leaves i) in
    let now = entry_after v layer i cells e in
    let es = entries_written layer (drop (i + 1) cells.blocks) (drop (i + 1) leaves) in
    let first : entries_written layer (drop i cells.blocks) (drop i leaves) ≡ e ∷ es = entry_next layer i cells.blocks leaves lt all in
    let to_come : entries_written layer (drop (i + 1) after.blocks) (drop (i + 1) leaves) ≡ es =
    ap (λ (c : Cells). entries_written layer (drop (i + 1) c.blocks) (drop (i + 1) leaves)) is_after
    ∙ ap (λ (ks : List Known). entries_written layer ks (drop (i + 1) leaves)) (behind_same v layer i cells e) in
    let front = entry_bits v layer i cells e in
    record {
      bits_are = ap (λ (l : List Entry). next ++ blocks_bits v layer (i + 1) after l) to_come
          ∙ ap (λ (c : Cells). next ++ blocks_bits v layer (i + 1) c es) is_after
          ∙ ap (λ (l : List Bool). l ++ blocks_bits v layer (i + 1) now es) is
          ∙ append_assoc bits front (blocks_bits v layer (i + 1) now es)
          ∙ ap (λ (l : List Entry). bits ++ blocks_bits v layer i cells l) (sym first) ∙ w.bits_are;
      after_is = ap (λ (l : List Entry). blocks_after v layer (i + 1) after l) to_come
          ∙ ap (λ (c : Cells). blocks_after v layer (i + 1) c es) is_after
          ∙ ap (λ (l : List Entry). blocks_after v layer i cells l) (sym first) ∙ w.after_is;
    }

-- ---- what is due stays due
pub same_values : (w old : Writes) → w.first.leaves ≡ old.first.leaves → w.zeros.leaves ≡ old.zeros.leaves → SameSize (cells_of w) (cells_of old) → values_of w ≡ values_of old
same_values w old first zeros s =
    ap (λ (f : ℕ → ℕ). let v : Values = record { first = f; zeros = least_of w.zeros } in v) (same_least w.first old.first first s.wide s.high)
    ∙ ap (λ (f : ℕ → ℕ). let v : Values = record { first = least_of old.first; zeros = f } in v) (same_least w.zeros old.zeros zeros s.zeros_wide s.zeros_high)

pub still_writes : (leaves : List Leafed) (w old : Writes) → w.first.leaves ≡ old.first.leaves → w.zeros.leaves ≡ old.zeros.leaves → SameSize (cells_of w) (cells_of old) → length w.cursors ≡ length old.cursors →
    IsTree w.first.tree × ValuesOf w.first.tree (least_of w.first) → AreWrites leaves old → AreWrites leaves w
still_writes leaves w old first zeros s cursors known a = record {
  shape = subst (λ (n : ℕ). IsShape n w.zeros.tree.high) (sym s.zeros_wide) (subst (λ (n : ℕ). IsShape old.zeros.tree.wide n) (sym s.zeros_high) a.shape);
  wide = s.wide ∙ a.wide ∙ sym s.zeros_wide;
  high = s.high ∙ a.high ∙ sym s.zeros_high;
  long = s.long ∙ a.long ∙ ap (λ (n : ℕ). n * old.zeros.tree.high) (sym s.zeros_wide) ∙ ap (λ (n : ℕ). w.zeros.tree.wide * n) (sym s.zeros_high);
  all = a.all ∙ sym s.long;
  cursors = cursors ∙ a.cursors ∙ sym s.long;
  zeros_are = zeros ∙ a.zeros_are ∙ ap (λ (n : ℕ). zero_leaves n leaves) (sym s.planes);
  fit = subst (λ (n : ℕ). (i : ℕ) → get_or (zero_leaves n leaves) i 0 < 2 ^ 32) (sym s.planes) a.fit;
  layers = a.layers;
  first_are = first ∙ a.first_are;
  first_is = known.0;
  first_values = known.1;
}

pub raise_few : (lblock : ℕ) (parts : List HeaderPart) → lblock ≤ 32 → lblock + raise_of lblock parts ≤ 32
raise_few lblock [] le = omega arith
raise_few lblock (p ∷ ps) le = let i : lblock + raise_of lblock ps ≤ 32 = raise_few lblock ps le in let s : size p.length ≤ 32 = size_le p.length in omega arith

due_here : (v : Values) (layer i c m : ℕ) (cells : Cells) (leaves : List Leafed) → i < length cells.blocks → IsDue layer (block_at cells i) c (leaf_at leaves i) → IsCursor (layer + 1) m (leaf_at leaves i).parts →
    IsDue (layer + 1) (block_at (entry_after v layer i cells (entry_written layer (block_at cells i) (leaf_at leaves i))) i) m (leaf_at leaves i)
due_here v layer i c m cells leaves lt d moved = by (contributes e) refl
  where
    e : Entry
    e = entry_written layer (block_at cells i) (leaf_at leaves i)

    by : (c : Bool) → contributes (entry_written layer (block_at cells i) (leaf_at leaves i)) ≡ c →
        IsDue (layer + 1) (block_at (cond c (cells_included v i (cells_first v layer i cells) (entry_written layer (block_at cells i) (leaf_at leaves i))) (cells_first v layer i cells)) i) m (leaf_at leaves i)
    by c is =
        let split : passes_from layer (leaf_at leaves i).parts ≡ passes_of (parts_in layer (leaf_at leaves i).parts) + passes_from (layer + 1) (leaf_at leaves i).parts = due_split layer (leaf_at leaves i).parts in
        let few : (block_at cells i).passes + passes_from layer (leaf_at leaves i).parts < 2 ^ 16 = d.few in
        let l : (block_at cells i).lblock ≤ 32 = d.lblock in
        let r = raise_few (block_at cells i).lblock (parts_in layer (leaf_at leaves i).parts) l in
        two c is split few r
      where
        two : (c : Bool) → contributes (entry_written layer (block_at cells i) (leaf_at leaves i)) ≡ c → passes_from layer (leaf_at leaves i).parts ≡ passes_of (parts_in layer (leaf_at leaves i).parts) + passes_from (layer + 1) (leaf_at leaves i).parts →
            (block_at cells i).passes + passes_from layer (leaf_at leaves i).parts < 2 ^ 16 → (block_at cells i).lblock + raise_of (block_at cells i).lblock (parts_in layer (leaf_at leaves i).parts) ≤ 32 →
            IsDue (layer + 1) (block_at (cond c (cells_included v i (cells_first v layer i cells) (entry_written layer (block_at cells i) (leaf_at leaves i))) (cells_first v layer i cells)) i) m (leaf_at leaves i)
        two true is split few r =
            let known = block_at cells i in
            let after = block_after known (zero_planes known.zero v.zeros i) (entry_written layer known (leaf_at leaves i)) in
            subst (λ (k : Known). IsDue (layer + 1) k m (leaf_at leaves i)) (sym (get_or-set_same cells.blocks i after unknown_block lt)) (record {
              cursor_is = moved;
              few = omega arith;
              lblock = r;
              fresh = λ from. absurd (let none : true ≡ false = sym is ∙ ap (λ (ps : List HeaderPart). nat_lt 0 (passes_of ps)) (from_none layer (leaf_at leaves i).parts from) in cc);
            })
        two false is split few r = record { cursor_is = moved; few = omega arith; lblock = omega arith; fresh = λ from. d.fresh (from_less layer (leaf_at leaves i).parts from) }

pub other_same : (v : Values) (layer i j : ℕ) (cells : Cells) (e : Entry) → j ≢ i → block_at (entry_after v layer i cells e) j ≡ block_at cells j
other_same v layer i j cells e ne = by (contributes e)
  where
    by : (c : Bool) → block_at (cond c (cells_included v i (cells_first v layer i cells) e) (cells_first v layer i cells)) j ≡ block_at cells j
    by true = get_or-set_other cells.blocks i j (block_after (block_at cells i) (zero_planes (block_at cells i).zero v.zeros i) e) unknown_block ne
    by false = refl

pub partly_next : (v : Values) (layer i m : ℕ) (leaves : List Leafed) (w new : Writes) → i < length w.blocks → IsPartly layer i leaves w → v.first ≡ least_of w.first →
    new.first.leaves ≡ w.first.leaves → new.zeros.leaves ≡ w.zeros.leaves → cells_of new ≡ entry_after v layer i (cells_of w) (entry_written layer (block_at (cells_of w) i) (leaf_at leaves i)) →
    new.cursors ≡ set w.cursors i m → IsCursor (layer + 1) m (leaf_at leaves i).parts → IsPartly layer (i + 1) leaves new
partly_next v layer i m leaves w new lt p same first zeros is cursors moved =
    let e = entry_written layer (block_at (cells_of w) i) (leaf_at leaves i) in
    let size : SameSize (cells_of new) (cells_of w) = subst (λ (c : Cells). SameSize c (cells_of w)) (sym is) (entry_size v layer i (cells_of w) e) in
    let at : (j : ℕ) → get_or new.blocks j unknown_block ≡ block_at (entry_after v layer i (cells_of w) e) j = λ (j : ℕ). ap (λ (c : Cells). block_at c j) is in
    let long : length new.cursors ≡ length w.cursors = ap (λ (l : List ℕ). length l) cursors ∙ length-set w.cursors i m in
    let inside : i < length w.cursors = (let l : length w.cursors ≡ length w.blocks = p.are.cursors in omega arith) in
    let here : get_or new.cursors i 0 ≡ m = ap (λ (l : List ℕ). get_or l i 0) cursors ∙ get_or-set_same w.cursors i m 0 inside in
    let other : (j : ℕ) → j ≢ i → get_or new.cursors j 0 ≡ get_or w.cursors j 0 = λ (j : ℕ) (ne : j ≢ i). ap (λ (l : List ℕ). get_or l j 0) cursors ∙ get_or-set_other w.cursors i j m 0 ne in
    record {
      are = still_writes leaves new w first zeros size long (first_still v layer i leaves w new e p.are lt same first is size) p.are;
      done = λ j lt'. elim (cases_eq j i) [
        | inl e' ↦ subst (λ (n : ℕ). IsDue (layer + 1) (get_or new.blocks n unknown_block) (get_or new.cursors n 0) (leaf_at leaves n)) (sym e')
            (subst (λ (k : Known). IsDue (layer + 1) k (get_or new.cursors i 0) (leaf_at leaves i)) (sym (at i))
            (subst (λ (k : ℕ). IsDue (layer + 1) (block_at (entry_after v layer i (cells_of w) e) i) k (leaf_at leaves i)) (sym here)
            (due_here v layer i (get_or w.cursors i 0) m (cells_of w) leaves lt (p.due i (omega arith)) moved)))
        | inr ne ↦ subst (λ (k : Known). IsDue (layer + 1) k (get_or new.cursors j 0) (leaf_at leaves j)) (sym (at j ∙ other_same v layer i j (cells_of w) e ne))
            (subst (λ (k : ℕ). IsDue (layer + 1) (block_at (cells_of w) j) k (leaf_at leaves j)) (sym (other j ne)) (p.done j (below j i lt' ne)))
      ];
      due = λ j ge. subst (λ (k : Known). IsDue layer k (get_or new.cursors j 0) (leaf_at leaves j)) (sym (at j ∙ other_same v layer i j (cells_of w) e (above j i ge)))
          (subst (λ (k : ℕ). IsDue layer (block_at (cells_of w) j) k (leaf_at leaves j)) (sym (other j (above j i ge))) (p.due j (omega arith)));
    }
  where
    below : (j i : ℕ) → j < i + 1 → j ≢ i → j < i
    below j i lt ne = omega arith

    above : (j i : ℕ) → i + 1 ≤ j → j ≢ i
    above j i ge = λ (e : j ≡ i). (let f : j ≡ i = e in omega arith)

pub same_size : (v : Values) (layer i : ℕ) (e : Entry) (new w old : Writes) → cells_of new ≡ entry_after v layer i (cells_of w) e → SameSize (cells_of w) (cells_of old) → SameSize (cells_of new) (cells_of old)
same_size v layer i e new w old is s =
    let n : SameSize (cells_of new) (cells_of w) = subst (λ (c : Cells). SameSize c (cells_of w)) (sym is) (entry_size v layer i (cells_of w) e) in
    record { wide = n.wide ∙ s.wide; high = n.high ∙ s.high; zeros_wide = n.zeros_wide ∙ s.zeros_wide; zeros_high = n.zeros_high ∙ s.zeros_high; long = n.long ∙ s.long; planes = n.planes ∙ s.planes }

pub no_size : (c : Cells) → SameSize c c
no_size c = record { wide = refl; high = refl; zeros_wide = refl; zeros_high = refl; long = refl; planes = refl }

-- past the last block there is nothing
pub partly_end : (layer at : ℕ) (leaves : List Leafed) (w : Writes) → length leaves ≤ at → IsPartly layer at leaves w → IsWrites (layer + 1) leaves w
partly_end layer at leaves w ge p = record {
  are = p.are;
  due = λ j. elim (cases_lt j at) [
    | inl lt ↦ p.done j lt
    | inr past ↦ none j past
  ];
}
  where
    none : (j : ℕ) → at ≤ j → IsDue (layer + 1) (get_or w.blocks j unknown_block) (get_or w.cursors j 0) (leaf_at leaves j)
    none j past =
        let le : length leaves ≤ j = omega arith in
        let all : length leaves ≡ length w.blocks = p.are.all in
        let le' : length w.blocks ≤ j = omega arith in
        let l : leaf_at leaves j ≡ no_leaf = get_or_past leaves j no_leaf le in
        let b : get_or w.blocks j unknown_block ≡ unknown_block = get_or_past w.blocks j unknown_block le' in
        let c : get_or w.cursors j 0 ≡ 0 = get_or_past w.cursors j 0 (let n : length w.cursors ≡ length w.blocks = p.are.cursors in omega arith) in
        subst (λ (x : Leafed). IsDue (layer + 1) (get_or w.blocks j unknown_block) (get_or w.cursors j 0) x) (sym l) (subst (λ (k : Known). IsDue (layer + 1) k (get_or w.cursors j 0) no_leaf) (sym b)
        (subst (λ (k : ℕ). IsDue (layer + 1) unknown_block k no_leaf) (sym c) (record { cursor_is = tt; few = omega arith; lblock = omega arith; fresh = λ from. refl })))

-- ---- a call that writes a block
-- what stands in the loop over a band's blocks
pub record Loop (layer at : ℕ) (leaves : List Leafed) (start w : Writes) (begun bits : List Bool) : Type 0 where
  pub partly : IsPartly layer at leaves w
  pub writing : Writing (values_of start) layer at (cells_of w) leaves bits begun (cells_of start)
  pub first : w.first.leaves ≡ start.first.leaves
  pub zeros : w.zeros.leaves ≡ start.zeros.leaves
  pub size : SameSize (cells_of w) (cells_of start)

pub loop_begin : (layer : ℕ) (leaves : List Leafed) (start : Writes) (begun : List Bool) → IsWrites layer leaves start → Loop layer 0 leaves start start begun begun
loop_begin layer leaves start begun is = record {
  partly = record { are = is.are; done = λ i lt. absurd (omega arith); due = λ i ge. is.due i };
  writing = record { bits_are = refl; after_is = refl };
  first = refl;
  zeros = refl;
  size = no_size (cells_of start);
}

pub loop_values : (layer at : ℕ) (leaves : List Leafed) (start w : Writes) (begun bits : List Bool) → Loop layer at leaves start w begun bits → values_of w ≡ values_of start
loop_values layer at leaves start w begun bits l = same_values w start l.first l.zeros l.size

pub loop_next : (layer at m : ℕ) (leaves : List Leafed) (start w new : Writes) (begun bits next : List Bool) (x : Leafed) → Loop layer at leaves start w begun bits → at < length leaves → leaf_at leaves at ≡ x →
    next ≡ bits ++ entry_bits (values_of w) layer at (cells_of w) (entry_written layer (block_at (cells_of w) at) x) →
    cells_of new ≡ entry_after (values_of w) layer at (cells_of w) (entry_written layer (block_at (cells_of w) at) x) →
    new.first.leaves ≡ w.first.leaves → new.zeros.leaves ≡ w.zeros.leaves → new.cursors ≡ set w.cursors at m → IsCursor (layer + 1) m x.parts → Loop layer (at + 1) leaves start new begun next
loop_next layer at m leaves start w new begun bits next x l lt x_is is is_after first zeros cursors moved =
    let all : length leaves ≡ length w.blocks = l.partly.are.all in
    let inside : at < length w.blocks = omega arith in
    let v = loop_values layer at leaves start w begun bits l in
    let e : Leafed → Entry = λ (y : Leafed). entry_written layer (block_at (cells_of w) at) y in
    let is' : next ≡ bits ++ entry_bits (values_of start) layer at (cells_of w) (e (leaf_at leaves at)) =
    is ∙ ap (λ (y : Leafed). bits ++ entry_bits (values_of w) layer at (cells_of w) (e y)) (sym x_is) ∙ ap (λ (u : Values). bits ++ entry_bits u layer at (cells_of w) (e (leaf_at leaves at))) v in
    let after' : cells_of new ≡ entry_after (values_of start) layer at (cells_of w) (e (leaf_at leaves at)) =
    is_after ∙ ap (λ (y : Leafed). entry_after (values_of w) layer at (cells_of w) (e y)) (sym x_is) ∙ ap (λ (u : Values). entry_after u layer at (cells_of w) (e (leaf_at leaves at))) v in
    record {
      partly = partly_next (values_of start) layer at m leaves w new inside l.partly (ap (λ (u : Values). u.first) (sym v)) first zeros after' cursors (subst (λ (y : Leafed). IsCursor (layer + 1) m y.parts) (sym x_is) moved);
      writing = writing_next (values_of start) layer at (cells_of w) (cells_of new) leaves bits next begun (cells_of start) inside all l.writing is' after';
      first = first ∙ l.first;
      zeros = zeros ∙ l.zeros;
      size = same_size (values_of start) layer at (e (leaf_at leaves at)) new w start after' l.size;
    }

-- when each block was written
pub record Done (layer : ℕ) (leaves : List Leafed) (start w : Writes) (begun bits : List Bool) : Type 0 where
  pub bits_are : bits ≡ begun ++ blocks_bits (values_of start) layer 0 (cells_of start) (entries_written layer start.blocks leaves)
  pub after_is : cells_of w ≡ blocks_after (values_of start) layer 0 (cells_of start) (entries_written layer start.blocks leaves)
  pub due : IsWrites (layer + 1) leaves w

pub loop_end : (layer at : ℕ) (leaves : List Leafed) (start w : Writes) (begun bits : List Bool) → length leaves ≤ at → Loop layer at leaves start w begun bits → Done layer leaves start w begun bits
loop_end layer at leaves start w begun bits ge l =
    let all : length leaves ≡ length w.blocks = l.partly.are.all in
    let none : entries_written layer (drop at w.blocks) (drop at leaves) ≡ [] = entries_end layer at w.blocks leaves (omega arith) in
    record {
      bits_are = sym (append-nil bits) ∙ ap (λ (es : List Entry). bits ++ blocks_bits (values_of start) layer at (cells_of w) es) (sym none) ∙ l.writing.bits_are;
      after_is = ap (λ (es : List Entry). blocks_after (values_of start) layer at (cells_of w) es) (sym none) ∙ l.writing.after_is;
      due = partly_end layer at leaves w ge l.partly;
    }

-- what a call asks of the band
pub record CallsBlock (layer at : ℕ) (x : Leafed) (w : Writes) : Type 0 where
  pub inside : at < length w.blocks
  pub first : at < w.first.tree.wide * w.first.tree.high
  pub zeros : at < w.zeros.tree.wide * w.zeros.tree.high
  pub zero : 1 ≤ passes_of (parts_in layer x.parts) → least_of w.zeros at ≡ x.zero
  pub few : (block_at (cells_of w) at).passes + passes_of (parts_in layer x.parts) < 2 ^ 16
  pub lblock : (block_at (cells_of w) at).lblock ≤ 32

pub loop_calls : (layer at : ℕ) (leaves : List Leafed) (w : Writes) (x : Leafed) → IsPartly layer at leaves w → at < length leaves → leaf_at leaves at ≡ x → CallsBlock layer at x w
loop_calls layer at leaves w x p lt is =
    let a = p.are in
    let all : length leaves ≡ length w.blocks = a.all in
    let inside : at < length w.blocks = omega arith in
    let zeros : at < w.zeros.tree.wide * w.zeros.tree.high = subst (λ (n : ℕ). at < n) a.long inside in
    subst (λ (y : Leafed). CallsBlock layer at y w) is (record {
      inside = inside;
      first = subst (λ (n : ℕ). at < n * w.first.tree.high) (sym a.wide) (subst (λ (n : ℕ). at < w.zeros.tree.wide * n) (sym a.high) zeros);
      zeros = zeros;
      zero = λ ge. zero_is layer at leaves w a inside ge;
      few = (let d : (block_at (cells_of w) at).passes + passes_from layer (leaf_at leaves at).parts < 2 ^ 16 = (p.due at (omega arith)).few in
          let s : passes_from layer (leaf_at leaves at).parts ≡ passes_of (parts_in layer (leaf_at leaves at).parts) + passes_from (layer + 1) (leaf_at leaves at).parts = due_split layer (leaf_at leaves at).parts in
          omega arith);
      lblock = (p.due at (omega arith)).lblock;
    })

-- ---- a call that writes the parts of a block from its cursor on
abbrev pub with_cursors : Writes → List ℕ → Writes
with_cursors w cs = record w { cursors = cs }

abbrev pub run_of : ℕ → List LeafPart → Leafed
run_of z parts = record { zero = z; parts = parts }

abbrev pub entry_with : Known → List HeaderPart → Entry
entry_with known ps = record { passes = passes_of ps; raise = raise_of known.lblock ps; parts = ps }

pub run_calls : (layer at : ℕ) (leaves : List Leafed) (w mid : Writes) (x : Leafed) (parts : List LeafPart) (cs : List ℕ) → IsPartly layer at leaves w → at < length leaves → leaf_at leaves at ≡ x →
    mid ≡ with_cursors w cs → parts_in layer parts ≡ parts_in layer x.parts → CallsBlock layer at (run_of x.zero parts) mid
run_calls layer at leaves w mid x parts cs p lt is mid_is same =
    let c : CallsBlock layer at x w = loop_calls layer at leaves w x p lt is in
    subst (λ (m : Writes). CallsBlock layer at (run_of x.zero parts) m) (sym mid_is) (record {
      inside = c.inside;
      first = c.first;
      zeros = c.zeros;
      zero = λ ge. c.zero (subst (λ (l : List HeaderPart). 1 ≤ passes_of l) same ge);
      few = subst (λ (l : List HeaderPart). (block_at (cells_of w) at).passes + passes_of l < 2 ^ 16) (sym same) c.few;
      lblock = c.lblock;
    })

pub loop_run : (layer at m : ℕ) (leaves : List Leafed) (start w mid new : Writes) (begun bits next : List Bool) (x : Leafed) (parts : List LeafPart) → Loop layer at leaves start w begun bits → at < length leaves →
    leaf_at leaves at ≡ x → mid ≡ with_cursors w (set w.cursors at m) → IsCursor (layer + 1) m x.parts → parts_in layer parts ≡ parts_in layer x.parts →
    next ≡ bits ++ entry_bits (values_of mid) layer at (cells_of mid) (entry_written layer (block_at (cells_of mid) at) (run_of x.zero parts)) →
    cells_of new ≡ entry_after (values_of mid) layer at (cells_of mid) (entry_written layer (block_at (cells_of mid) at) (run_of x.zero parts)) →
    new.first.leaves ≡ mid.first.leaves → new.zeros.leaves ≡ mid.zeros.leaves → new.cursors ≡ mid.cursors → Loop layer (at + 1) leaves start new begun next
loop_run layer at m leaves start w mid new begun bits next x parts l lt is mid_is moved same next_is after_is first zeros cursors =
    loop_next layer at m leaves start w new begun bits next x l lt is
    (next_is ∙ ap (λ (y : Writes). bits ++ entry_bits (values_of y) layer at (cells_of y) (entry_written layer (block_at (cells_of y) at) (run_of x.zero parts))) mid_is
    ∙ ap (λ (ps : List HeaderPart). bits ++ entry_bits (values_of w) layer at (cells_of w) (entry_with (block_at (cells_of w) at) ps)) same)
    (after_is ∙ ap (λ (y : Writes). entry_after (values_of y) layer at (cells_of y) (entry_written layer (block_at (cells_of y) at) (run_of x.zero parts))) mid_is
    ∙ ap (λ (ps : List HeaderPart). entry_after (values_of w) layer at (cells_of w) (entry_with (block_at (cells_of w) at) ps)) same)
    (first ∙ ap (λ (y : Writes). y.first.leaves) mid_is) (zeros ∙ ap (λ (y : Writes). y.zeros.leaves) mid_is) (cursors ∙ ap (λ (y : Writes). y.cursors) mid_is) moved
