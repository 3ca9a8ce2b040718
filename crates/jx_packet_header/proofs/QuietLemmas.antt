-- What is written of the rows of a band: blocks under a node that is past the layer are passed over.
use Rattle.std.proofs.Common.{◌≡◌, ◌≢◌, ℕ, zero, suc, ◌+◌, ◌-◌, ◌*◌, ◌/◌, ◌%◌, ◌^◌, ◌<◌, ◌≤◌, min, true, false, Bool, List, [], ◌++◌, length, get_or, refl, sym, ap, ◌∙◌, subst, arith, inl, inr, None}
use Rattle.std.specs.Prelude.{Option}
use Rattle.std.proofs.lemmas.Bool.{cases_lt}
use Rattle.std.proofs.lemmas.List.{append-nil, get_or-map, length-map, set-get_or}
use Rattle.std.proofs.lemmas.Nat.{div_below, mod_below, mul-le, mul-add-lt, div-add-mod', le-div}
use Rattle.jx_tagtree.specs.Shape.{IsShape}
use Rattle.jx_tagtree.specs.TagTree.{Tree, HasNothing}
use Rattle.jx_tagtree.specs.Past.{IsPast, AreUnder}
use Rattle.jx_tagtree.proofs.LeafLemmas.{least_le_leaf}
use Rattle.jx_tagtree.proofs.QuestionLemmas.{past_nothing, past_least}
use Rattle.jx_packet_header.specs.declared.HeaderPart.{HeaderPart}
use Rattle.jx_packet_header.specs.declared.known.Known.{Known}
use Rattle.jx_packet_header.specs.Packet.{Cells, Values, Entry, block_at, first_bits, first_after, entry_bits, entry_after}
use Rattle.jx_packet_header.specs.Written.{Leafed, Writes, first_layer, parts_in, entry_written, least_of, cells_of, values_of}
use Rattle.jx_packet_header.specs.Writable.{no_leaf, leaf_at, AreRising, AreFrom, IsDue, AreWrites, IsWrites}
use Rattle.jx_packet_header.proofs.CursorLemmas.{cursor_more, from_less, from_none, rising_first, rising_at}
use Rattle.jx_packet_header.proofs.FirstLemmas.{first_of, first_shape, first_long}
use Rattle.jx_packet_header.proofs.RowLemmas.{end, before_end, in_run, under, later_row, spread}
use Rattle.jx_packet_header.proofs.SettledLemmas.{first_past}
use Rattle.jx_packet_header.proofs.WriteLemmas.{Loop, loop_begin, loop_next, entry_with, with_cursors}
use Rattle.jx_base.specs.Limits.{most_blocks}

-- a block of which a layer's packet has no bit and no part
pub record IsQuiet (layer : ℕ) (leaves : List Leafed) (w : Writes) (leaf : ℕ) : Type 0 where
  pub past : IsPast w.first.tree leaf (layer + 1)
  pub from : AreFrom (layer + 1) (leaf_at leaves leaf).parts

-- one that is past the layer, where parts stand in the order of their layers
quiet_past : (layer leaf : ℕ) (leaves : List Leafed) (w : Writes) → AreWrites leaves w → AreRising leaves → leaf < length leaves → IsPast w.first.tree leaf (layer + 1) → IsQuiet layer leaves w leaf
quiet_past layer leaf leaves w a rising lt past =
    let f : Leafed → ℕ = λ (l : Leafed). first_layer a.layers l.parts in
    let long : length leaves ≡ w.first.tree.wide * w.first.tree.high = a.all ∙ first_long leaves w a in
    let inside : leaf < w.first.tree.wide * w.first.tree.high = subst (λ (n : ℕ). leaf < n) long lt in
    let shape : IsShape w.first.tree.wide w.first.tree.high = first_shape leaves w a in
    let least : layer + 1 ≤ least_of w.first leaf = past_least w.first.tree (least_of w.first) leaf (layer + 1) shape a.first_is inside a.first_values past in
    let le : least_of w.first leaf ≤ get_or w.first.leaves leaf 0 =
    least_le_leaf w.first.tree.wide w.first.tree.high w.first.leaves leaf shape (ap (λ (ls : List ℕ). length ls) a.first_are ∙ length-map leaves f ∙ long) inside in
    let is : get_or w.first.leaves leaf 0 ≡ first_layer a.layers (leaf_at leaves leaf).parts = ap (λ (ls : List ℕ). get_or ls leaf 0) a.first_are ∙ get_or-map f leaves leaf no_leaf 0 lt in
    record { past = past; from = rising_first a.layers (layer + 1) (leaf_at leaves leaf).parts (rising_at leaf leaves rising) (omega arith) }

-- it stays so while another block is written
quiet_still : (v : Values) (layer leaf other : ℕ) (leaves : List Leafed) (w new : Writes) (e : Entry) → cells_of new ≡ entry_after v layer leaf (cells_of w) e → IsQuiet layer leaves w other → IsQuiet layer leaves new other
quiet_still v layer leaf other leaves w new e is q =
    let known : Option ℕ = (block_at (cells_of w) leaf).zero in
    let tree : first_after known v.first w.first.tree leaf layer ≡ new.first.tree = sym (first_of v layer leaf (cells_of w) e) ∙ ap (λ (c : Cells). c.first) (sym is) in
    record { past = subst (λ (t : Tree). IsPast t other (layer + 1)) tree (first_past known v.first w.first.tree leaf other layer q.past); from = q.from }

-- the same of a call that writes the parts from the block's cursor on
pub still_run : (layer leaf : ℕ) (leaves : List Leafed) (w mid new : Writes) (cs : List ℕ) (y : Leafed) → mid ≡ with_cursors w cs →
    cells_of new ≡ entry_after (values_of mid) layer leaf (cells_of mid) (entry_written layer (block_at (cells_of mid) leaf) y) → (other : ℕ) → IsQuiet layer leaves w other → IsQuiet layer leaves new other
still_run layer leaf leaves w mid new cs y mid_is is other q =
    quiet_still (values_of mid) layer leaf other leaves mid new (entry_written layer (block_at (cells_of mid) leaf) y) is
    (subst (λ (m : Writes). IsQuiet layer leaves m other) (sym mid_is) (record { past = q.past; from = q.from }))

-- ---- passing over
abbrev with_first : Cells → Tree → Cells
with_first c t = record c { first = t }

loop_pass : (layer at : ℕ) (leaves : List Leafed) (start w : Writes) (begun bits : List Bool) → Loop layer at leaves start w begun bits → at < length leaves → IsQuiet layer leaves w at → Loop layer (at + 1) leaves start w begun bits
loop_pass layer at leaves start w begun bits l lt q =
    let x : Leafed = leaf_at leaves at in
    let known : Known = block_at (cells_of w) at in
    let a : AreWrites leaves w = l.partly.are in
    let due : IsDue layer known (get_or w.cursors at 0) x = l.partly.due at (omega arith) in
    let fresh : known.zero ≡ None = due.fresh (from_less layer x.parts q.from) in
    let none : parts_in layer x.parts ≡ [] = from_none layer x.parts q.from in
    let inside : at < w.first.tree.wide * w.first.tree.high = subst (λ (n : ℕ). at < n) (a.all ∙ first_long leaves w a) lt in
    let h : HasNothing w.first.tree (least_of w.first) at (layer + 1) = past_nothing w.first.tree (least_of w.first) at (layer + 1) (first_shape leaves w a) a.first_is inside a.first_values q.past in
    let no_bits : entry_bits (values_of w) layer at (cells_of w) (entry_written layer known x) ≡ [] =
    ap (λ (ps : List HeaderPart). entry_bits (values_of w) layer at (cells_of w) (entry_with known ps)) none
    ∙ ap (λ (z : Option ℕ). first_bits z (least_of w.first) w.first.tree at layer false ++ []) fresh
    ∙ ap (λ (b : List Bool). b ++ []) h.bits in
    let same : entry_after (values_of w) layer at (cells_of w) (entry_written layer known x) ≡ cells_of w =
    ap (λ (ps : List HeaderPart). entry_after (values_of w) layer at (cells_of w) (entry_with known ps)) none
    ∙ ap (λ (z : Option ℕ). with_first (cells_of w) (first_after z (least_of w.first) w.first.tree at layer)) fresh
    ∙ ap (λ (t : Tree). with_first (cells_of w) t) h.after in
    loop_next layer at (get_or w.cursors at 0) leaves start w w begun bits bits x l lt refl (sym (ap (λ (b : List Bool). bits ++ b) no_bits ∙ append-nil bits)) (sym same) refl refl
    (sym (set-get_or w.cursors at 0)) (cursor_more layer (get_or w.cursors at 0) x.parts due.cursor_is)

loop_over : (n layer at : ℕ) (leaves : List Leafed) (start w : Writes) (begun bits : List Bool) → Loop layer at leaves start w begun bits → at + n ≤ length leaves →
    ((other : ℕ) → at ≤ other → other < at + n → IsQuiet layer leaves w other) → Loop layer (at + n) leaves start w begun bits
loop_over zero layer at leaves start w begun bits l le q = subst (λ (k : ℕ). Loop layer k leaves start w begun bits) (let e : at ≡ at + 0 = omega arith in e) l
loop_over (suc n) layer at leaves start w begun bits l le q =
    subst (λ (k : ℕ). Loop layer k leaves start w begun bits) (let e : at + 1 + n ≡ at + suc n = omega arith in e)
    (loop_over n layer (at + 1) leaves start w begun bits (loop_pass layer at leaves start w begun bits l (omega arith) (q at (omega arith) (omega arith))) (omega arith) (λ other ge lt. q other (omega arith) (omega arith)))

-- the blocks under a node that is past the layer
pub quiet_under : (layer at leaf place wide : ℕ) (leaves : List Leafed) (start new : Writes) (begun bits : List Bool) (rising : Bool) → Loop layer at leaves start new begun bits → wide ≡ start.first.tree.wide →
    (rising ≡ true → AreRising leaves) →
    ((other : ℕ) → other < new.first.tree.wide * new.first.tree.high → other ≢ leaf → AreUnder new.first.tree.wide place leaf other → (rising ≡ true) × IsPast new.first.tree other (layer + 1)) →
    (other : ℕ) → other < length leaves → other ≢ leaf → AreUnder wide place leaf other → IsQuiet layer leaves new other
quiet_under layer at leaf place wide leaves start new begun bits rising l wide_is are past other lt ne u =
    let a : AreWrites leaves new = l.partly.are in
    let p = past other (subst (λ (n : ℕ). other < n) (a.all ∙ first_long leaves new a) lt) ne (subst (λ (n : ℕ). AreUnder n place leaf other) (wide_is ∙ sym l.size.wide) u) in
    quiet_past layer other leaves new a (are p.0) lt p.1

-- ---- rows
-- The blocks before one of a row are written. Those of the rows behind it, up to the next to be written, that stand left of it are quiet.
pub record Row (layer down across next wide high : ℕ) (leaves : List Leafed) (start w : Writes) (begun bits : List Bool) : Type 0 where
  pub loop : Loop layer (down * wide + across) leaves start w begun bits
  pub wide_is : wide ≡ start.first.tree.wide
  pub high_is : high ≡ start.first.tree.high
  pub within : down ≤ high
  pub inside : across < wide
  pub up_to : next ≤ high
  pub later : down < high → down < next
  pub quiet : (y x : ℕ) → down < y → y < next → x < across → y * wide + x < length leaves → IsQuiet layer leaves w (y * wide + x)

-- the band has a block for each of its places
pub row_whole : (layer down across next wide high : ℕ) (leaves : List Leafed) (start w : Writes) (begun bits : List Bool) → Row layer down across next wide high leaves start w begun bits → length leaves ≡ wide * high
row_whole layer down across next wide high leaves start w begun bits r =
    r.loop.partly.are.all ∙ first_long leaves w r.loop.partly.are
    ∙ ap (λ (n : ℕ). n * w.first.tree.high) (r.loop.size.wide ∙ sym r.wide_is) ∙ ap (λ (n : ℕ). wide * n) (r.loop.size.high ∙ sym r.high_is)

-- a place of it is one of its blocks
pub row_at : (layer down across next wide high : ℕ) (leaves : List Leafed) (start w : Writes) (begun bits : List Bool) → Row layer down across next wide high leaves start w begun bits → down < high → down * wide + across < length leaves
row_at layer down across next wide high leaves start w begun bits r lt =
    let a : down * wide + across < wide * high = mul-add-lt down wide across high lt r.inside in
    let b : length leaves ≡ wide * high = row_whole layer down across next wide high leaves start w begun bits r in
    omega arith

pub row_few : (layer down across next wide high : ℕ) (leaves : List Leafed) (start w : Writes) (begun bits : List Bool) → Row layer down across next wide high leaves start w begun bits → down < high →
    (down ≤ most_blocks) × (across ≤ most_blocks) × (length leaves ≤ most_blocks)
row_few layer down across next wide high leaves start w begun bits r lt =
    let few : w.first.tree.wide * w.first.tree.high ≤ most_blocks = (first_shape leaves w r.loop.partly.are).few in
    let long : length leaves ≡ w.first.tree.wide * w.first.tree.high = r.loop.partly.are.all ∙ first_long leaves w r.loop.partly.are in
    let whole : length leaves ≡ wide * high = row_whole layer down across next wide high leaves start w begun bits r in
    let across_lt : across < wide = r.inside in
    let rows : 1 * high ≤ wide * high = mul-le 1 high wide high (omega arith) (omega arith) in
    let columns : wide * 1 ≤ wide * high = mul-le wide 1 wide high (omega arith) (omega arith) in
    (omega arith, omega arith, omega arith)

some_wide : (wide high : ℕ) → 1 ≤ wide * high → 0 < wide
some_wide zero high le = absurd (omega arith)
some_wide (suc wide) high le = omega arith

pub row_begin : (layer wide high : ℕ) (leaves : List Leafed) (start : Writes) (begun : List Bool) → IsWrites layer leaves start → wide ≡ start.first.tree.wide → high ≡ start.first.tree.high →
    Row layer 0 0 high wide high leaves start start begun begun
row_begin layer wide high leaves start begun is wide_is high_is =
    let shape : IsShape wide start.first.tree.high = subst (λ (n : ℕ). IsShape n start.first.tree.high) (sym wide_is) (first_shape leaves start is.are) in
    record {
      loop = subst (λ (k : ℕ). Loop layer k leaves start start begun begun) (let e : 0 ≡ 0 * wide + 0 = omega arith in e) (loop_begin layer leaves start begun is);
      wide_is = wide_is;
      high_is = high_is;
      within = omega arith;
      inside = some_wide wide start.first.tree.high shape.some;
      up_to = omega arith;
      later = λ lt. lt;
      quiet = λ y x later before x_lt lt. absurd (omega arith);
    }

module _ (layer down across next wide high : ℕ) (leaves : List Leafed) (start w : Writes) (begun bits : List Bool) (row : Row layer down across next wide high leaves start w begun bits) (down_lt : down < high)
    (new : Writes) (more : List Bool) (loop : Loop layer (down * wide + across + 1) leaves start new begun more)
    (still : (other : ℕ) → IsQuiet layer leaves w other → IsQuiet layer leaves new other)
    (place : ℕ) (facts : (other : ℕ) → other < length leaves → other ≢ down * wide + across → AreUnder wide place (down * wide + across) other → IsQuiet layer leaves new other) where
  abbrev leaf : ℕ
  leaf = down * wide + across

  abbrev row_end : ℕ
  row_end = end across place

  abbrev later_end : ℕ
  later_end = min next (end down place)

  whole : length leaves ≡ high * wide
  whole = row_whole layer down across next wide high leaves start w begun bits row ∙ (let turned : wide * high ≡ high * wide = omega arith in turned)

  row_inside : (x : ℕ) → x < wide → down * wide + x < length leaves
  row_inside x lt =
      let a : down * wide + x < wide * high = mul-add-lt down wide x high down_lt lt in
      let b : length leaves ≡ wide * high = row_whole layer down across next wide high leaves start w begun bits row in
      omega arith

  -- the blocks under the node
  under_it : (y x : ℕ) → x < wide → y * wide + x ≢ leaf → y / 2 ^ place ≡ down / 2 ^ place → x / 2 ^ place ≡ across / 2 ^ place → y * wide + x < length leaves → IsQuiet layer leaves new (y * wide + x)
  under_it y x x_lt ne rows columns lt = facts (y * wide + x) lt ne (under wide place down across y x row.inside x_lt rows columns)

  new_quiet : (y x : ℕ) → down < y → y < later_end → x < min row_end wide → y * wide + x < length leaves → IsQuiet layer leaves new (y * wide + x)
  new_quiet y x later before x_lt lt =
      let across_lt : across < wide = row.inside in
      elim (cases_lt x across) [
        | inl left ↦ still (y * wide + x) (row.quiet y x later (omega arith) left lt)
        | inr right ↦ under_it y x (omega arith) (later_row wide down across y x across_lt later) (in_run down place y (omega arith) (omega arith)) (in_run across place x right (omega arith)) lt
      ]

  behind : across < row_end
  behind = before_end across place

  run_quiet : (other : ℕ) → leaf + 1 ≤ other → other < leaf + 1 + (min row_end wide - across - 1) → IsQuiet layer leaves new other
  run_quiet other ge lt =
      let first : across < row_end = behind in
      let across_lt : across < wide = row.inside in
      let x : ℕ = other - down * wide in
      let is : down * wide + x ≡ other = omega arith in
      let ne : down * wide + x ≢ leaf = λ (e : down * wide + x ≡ leaf). (omega arith) in
      subst (λ (n : ℕ). IsQuiet layer leaves new n) is
      (under_it down x (omega arith) ne refl (in_run across place x (omega arith) (omega arith)) (row_inside x (omega arith)))

  in_row : Loop layer (down * wide + min row_end wide) leaves start new begun more
  in_row =
      let first : across < row_end = behind in
      let across_lt : across < wide = row.inside in
      let last : down * wide + (min row_end wide - 1) < length leaves = row_inside (min row_end wide - 1) (omega arith) in
      let l : leaf + 1 + (min row_end wide - across - 1) ≡ down * wide + min row_end wide = omega arith in
      subst (λ (k : ℕ). Loop layer k leaves start new begun more) l
      (loop_over (min row_end wide - across - 1) layer (leaf + 1) leaves start new begun more loop (omega arith) run_quiet)

  after_down : down < later_end
  after_down = let a : down < next = row.later down_lt in let b : down < end down place = before_end down place in omega arith

  on : row_end < wide → Row layer down row_end later_end wide high leaves start new begun more
  on lt =
      let m : min row_end wide ≡ row_end = omega arith in
      let up : next ≤ high = row.up_to in
      record {
        loop = subst (λ (k : ℕ). Loop layer (down * wide + k) leaves start new begun more) m in_row;
        wide_is = row.wide_is;
        high_is = row.high_is;
        within = row.within;
        inside = lt;
        up_to = omega arith;
        later = λ below. after_down;
        quiet = λ y x after before x_lt here. new_quiet y x after before (omega arith) here;
      }

  rows_quiet : wide ≤ row_end → (other : ℕ) → down * wide + wide ≤ other → other < later_end * wide → IsQuiet layer leaves new other
  rows_quiet le other ge lt =
      let across_lt : across < wide = row.inside in
      let some : 0 < wide = omega arith in
      let begin : (down + 1) * wide ≡ down * wide + wide = omega arith in
      let low : down + 1 ≤ other / wide = le-div (down + 1) other wide some (omega arith) in
      let below : other / wide < later_end = div_below other wide later_end some lt in
      let back : other / wide * wide + other % wide ≡ other = div-add-mod' other wide in
      let column : other % wide < wide = mod_below other wide some in
      let up : next ≤ high = row.up_to in
      let last : later_end * wide ≤ high * wide = mul-le later_end wide high wide (omega arith) (omega arith) in
      let all : length leaves ≡ high * wide = whole in
      subst (λ (n : ℕ). IsQuiet layer leaves new n) back (new_quiet (other / wide) (other % wide) (omega arith) below (omega arith) (omega arith))

  next_row : wide ≤ row_end → Row layer later_end 0 high wide high leaves start new begun more
  next_row le =
      let across_lt : across < wide = row.inside in
      let up : next ≤ high = row.up_to in
      let first : down < later_end = after_down in
      let d : ℕ = later_end - down - 1 in
      let is_to : down + 1 + d ≡ later_end = omega arith in
      let sum : later_end * wide ≡ down * wide + wide + d * wide = ap (λ (n : ℕ). n * wide) (sym is_to) ∙ spread down d wide in
      let last : later_end * wide ≤ high * wide = mul-le later_end wide high wide (omega arith) (omega arith) in
      let all : length leaves ≡ high * wide = whole in
      let m : min row_end wide ≡ wide = omega arith in
      let to : down * wide + wide + d * wide ≡ later_end * wide + 0 = omega arith in
      record {
        loop = subst (λ (k : ℕ). Loop layer k leaves start new begun more) to
            (loop_over (d * wide) layer (down * wide + wide) leaves start new begun more (subst (λ (k : ℕ). Loop layer (down * wide + k) leaves start new begun more) m in_row) (omega arith)
            (λ other ge lt. rows_quiet le other ge (omega arith)));
        wide_is = row.wide_is;
        high_is = row.high_is;
        within = omega arith;
        inside = omega arith;
        up_to = omega arith;
        later = λ below. below;
        quiet = λ y x after before x_lt here. absurd (omega arith);
      }

  module _ (to below : ℕ) (to_is : to ≡ row_end) (below_is : below ≡ later_end) where
    -- there are more blocks in the row
    pub row_on : to < wide → Row layer down to below wide high leaves start new begun more
    row_on lt =
        subst (λ (n : ℕ). Row layer down n below wide high leaves start new begun more) (sym to_is)
        (subst (λ (n : ℕ). Row layer down row_end n wide high leaves start new begun more) (sym below_is) (on (subst (λ (n : ℕ). n < wide) to_is lt)))

    -- it ends, and rows behind it are passed over
    pub row_next : wide ≤ to → Row layer below 0 high wide high leaves start new begun more
    row_next le = subst (λ (n : ℕ). Row layer n 0 high wide high leaves start new begun more) (sym below_is) (next_row (subst (λ (n : ℕ). wide ≤ n) to_is le))

    -- the blocks that aren't written yet get fewer
    pub row_fewer : high * wide - (down * wide + to) < high * wide - (down * wide + across)
    row_fewer =
        let first : across < row_end = behind in
        let here : down * wide + across < length leaves = row_inside across row.inside in
        let all : length leaves ≡ high * wide = whole in
        omega arith

    pub rows_fewer : high * wide - (below * wide + 0) < high * wide - (down * wide + across)
    rows_fewer =
        let here : down * wide + across < length leaves = row_inside across row.inside in
        let all : length leaves ≡ high * wide = whole in
        let lt : across < wide = row.inside in
        let begin : (down + 1) * wide ≡ down * wide + wide = omega arith in
        let after : down < below = subst (λ (n : ℕ). down < n) (sym below_is) after_down in
        let behind' : (down + 1) * wide ≤ below * wide = mul-le (down + 1) wide below wide (omega arith) (omega arith) in
        omega arith

-- past the last row each block is written
pub rows_end : (layer down across next wide high : ℕ) (leaves : List Leafed) (start w : Writes) (begun bits : List Bool) → Row layer down across next wide high leaves start w begun bits → high ≤ down → length leaves ≤ down * wide + across
rows_end layer down across next wide high leaves start w begun bits r le =
    let all : length leaves ≡ wide * high = row_whole layer down across next wide high leaves start w begun bits r in
    let turned : wide * high ≡ high * wide = omega arith in
    let last : high * wide ≤ down * wide = mul-le high wide down wide le (omega arith) in
    omega arith
