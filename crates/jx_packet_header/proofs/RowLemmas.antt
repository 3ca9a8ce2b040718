-- What is read of the rows of a band: blocks under a node that is past the layer are passed over.
use Rattle.std.proofs.Common.{◌≡◌, ◌≢◌, ℕ, zero, suc, ◌+◌, ◌-◌, ◌*◌, ◌/◌, ◌%◌, ◌^◌, ◌<◌, ◌≤◌, min, Bool, List, ◌++◌, length, refl, sym, ap, ◌∙◌, subst, arith, Ok, Err, inl, inr}
use Rattle.std.proofs.lemmas.Bool.{cases_lt}
use Rattle.std.proofs.lemmas.Nat.{div_below, mod_below, mul-le, mul-add-lt, div-mul-add, mod-mul-add, div-add-mod', le-div, pow_pos}
use Rattle.std.proofs.Math.Nat.{div-mul-le_self}
use Rattle.jx_tagtree.specs.TagTree.{Tree}
use Rattle.jx_tagtree.specs.Past.{IsPast, AreUnder}
use Rattle.jx_packet_header.specs.declared.HeaderPart.{HeaderPart}
use Rattle.jx_packet_header.specs.declared.HeadFault.{HeadFault}
use Rattle.jx_packet_header.specs.declared.HeadFault.TheVariants.{Bits, Planes, NoMemory}
use Rattle.jx_packet_header.specs.Said.{Refuses, BandSaid}
use Rattle.jx_packet_header.specs.Packet.{Cells}
use Rattle.jx_packet_header.specs.Kept.{IsLeafOf, IsBand, IsSilent, AreSilent, KeepsSize}
use Rattle.jx_packet_header.specs.Scan.{Told, and_parts, scan_block, scan_blocks}
use Rattle.jx_packet_header.proofs.AskLemmas.{past_unsettled}
use Rattle.jx_packet_header.proofs.BandLemmas.{all_is, block_of, blocks_refuse, block_band, block_wide, block_silent, blocks_step, blocks_said, silent_blocks, first_blocks, first_fault, whole_fault, parts_parts}

-- ---- rows and columns
-- the end of the places under a node
abbrev pub end : ℕ → ℕ → ℕ
end at place = (at / 2 ^ place + 1) * 2 ^ place

next_times : (q w r : ℕ) → r < w → q * w + r < (q + 1) * w
next_times q w r lt = let e : (q + 1) * w ≡ q * w + w = omega arith in omega arith

pub before_end : (at place : ℕ) → at < end at place
before_end at place =
    let back : at / 2 ^ place * 2 ^ place + at % 2 ^ place ≡ at = div-add-mod' at (2 ^ place) in
    let lt : at / 2 ^ place * 2 ^ place + at % 2 ^ place < end at place = next_times (at / 2 ^ place) (2 ^ place) (at % 2 ^ place) (mod_below at (2 ^ place) (pow_pos place)) in
    omega arith

pub in_run : (at place x : ℕ) → at ≤ x → x < end at place → x / 2 ^ place ≡ at / 2 ^ place
in_run at place x ge lt =
    let low : at / 2 ^ place * 2 ^ place ≤ at = div-mul-le_self at (2 ^ place) in
    let le : at / 2 ^ place ≤ x / 2 ^ place = le-div (at / 2 ^ place) x (2 ^ place) (pow_pos place) (omega arith) in
    let less : x / 2 ^ place < at / 2 ^ place + 1 = div_below x (2 ^ place) (at / 2 ^ place + 1) (pow_pos place) lt in
    omega arith

pub under : (wide place down across y x : ℕ) → across < wide → x < wide → y / 2 ^ place ≡ down / 2 ^ place → x / 2 ^ place ≡ across / 2 ^ place →
    AreUnder wide place (down * wide + across) (y * wide + x)
under wide place down across y x across_lt x_lt rows columns = record {
  row = ap (λ (n : ℕ). n / 2 ^ place) (div-mul-add y wide x x_lt) ∙ rows ∙ sym (ap (λ (n : ℕ). n / 2 ^ place) (div-mul-add down wide across across_lt));
  column = ap (λ (n : ℕ). n / 2 ^ place) (mod-mul-add y wide x x_lt) ∙ columns ∙ sym (ap (λ (n : ℕ). n / 2 ^ place) (mod-mul-add down wide across across_lt));
}

pub later_row : (wide down across y x : ℕ) → across < wide → down < y → y * wide + x ≢ down * wide + across
later_row wide down across y x lt later = λ (e : y * wide + x ≡ down * wide + across). (
    let le : (down + 1) * wide ≤ y * wide = mul-le (down + 1) wide y wide (omega arith) (omega arith) in
    let one : (down + 1) * wide ≡ down * wide + wide = omega arith in
    omega arith)

-- ---- a row
pub record IsRow (style layer base down wide : ℕ) (begun : List HeaderPart) (start : Cells) (from : List Bool) (across next : ℕ) (cells : Cells) (parts : List HeaderPart) (bits : List Bool) : Type 0 where
  pub wide_is : wide ≡ start.first.wide
  pub within : across ≤ wide
  pub read : and_parts begun (scan_blocks style layer base wide (down * wide) start from)
      ≡ and_parts parts (scan_blocks style layer base (wide - across) (down * wide + across) cells bits)
  pub band : IsBand cells
  pub size : KeepsSize cells start
  pub later : down < next
  pub silent : (y x : ℕ) → down < y → y < next → x < across → y * wide + x < length cells.blocks → IsSilent layer cells (y * wide + x)

pub row_begin : (style layer base down wide next : ℕ) (begun : List HeaderPart) (start : Cells) (from : List Bool) → wide ≡ start.first.wide → IsBand start → down < next →
    IsRow style layer base down wide begun start from 0 next start begun from
row_begin style layer base down wide next begun start from is b lt =
    let l : down * wide ≡ down * wide + 0 = omega arith in
    let m : wide ≡ wide - 0 = omega arith in
    record {
      wide_is = is;
      within = omega arith;
      read = ap (λ (k : ℕ). and_parts begun (scan_blocks style layer base wide k start from)) l
          ∙ ap (λ (k : ℕ). and_parts begun (scan_blocks style layer base k (down * wide + 0) start from)) m;
      band = b;
      size = record { wide = refl; high = refl; long = refl };
      later = lt;
      silent = λ y x later before x_lt inside. absurd (omega arith);
    }

-- a block of the row is one of the band
pub row_inside : (start cells : Cells) (down across wide : ℕ) → wide ≡ start.first.wide → IsBand cells → KeepsSize cells start → down < start.first.high → across < wide → down * wide + across < length cells.blocks
row_inside start cells down across wide is b size down_lt across_lt =
    let long : length cells.blocks ≡ cells.first.wide * cells.first.high = b.trees.long in
    let same : cells.first.wide * cells.first.high ≡ wide * start.first.high =
    ap (λ (w : ℕ). w * cells.first.high) (size.wide ∙ sym is) ∙ ap (λ (h : ℕ). wide * h) size.high in
    let lt : down * wide + across < wide * start.first.high = mul-add-lt down wide across start.first.high down_lt across_lt in
    omega arith

module _ (style layer base down wide : ℕ) (begun : List HeaderPart) (start : Cells) (from : List Bool) (across next : ℕ) (cells : Cells) (parts : List HeaderPart) (bits : List Bool)
    (row : IsRow style layer base down wide begun start from across next cells parts bits) (down_lt : down < start.first.high) (across_lt : across < wide)
    (t : Told) (was : scan_block style layer (base + (down * wide + across)) (down * wide + across) cells bits ≡ Ok t) (small : length bits ≤ 2 ^ 67)
    (place : ℕ) (facts : (other : ℕ) → other < length t.cells.blocks → other ≢ down * wide + across →
    AreUnder t.cells.first.wide place (down * wide + across) other → IsSilent layer t.cells other) where
  abbrev leaf : ℕ
  leaf = down * wide + across

  inside : leaf < length cells.blocks
  inside = row_inside start cells down across wide row.wide_is row.band row.size down_lt across_lt

  kept : IsBand t.cells × (length t.cells.blocks ≡ length cells.blocks)
  kept = block_band style layer (base + leaf) leaf cells bits t row.band inside small was

  sizes : (t.cells.first.wide ≡ cells.first.wide) × (t.cells.first.high ≡ cells.first.high)
  sizes = block_wide style layer (base + leaf) leaf cells bits t row.band inside was

  new_size : KeepsSize t.cells start
  new_size = record { wide = sizes.0 ∙ row.size.wide; high = sizes.1 ∙ row.size.high; long = kept.1 ∙ row.size.long }

  -- the blocks under the node
  under_it : (y x : ℕ) → x < wide → y * wide + x ≢ leaf → y / 2 ^ place ≡ down / 2 ^ place → x / 2 ^ place ≡ across / 2 ^ place → y * wide + x < length t.cells.blocks → IsSilent layer t.cells (y * wide + x)
  under_it y x x_lt ne rows columns lt =
      facts (y * wide + x) lt ne (subst (λ (w : ℕ). AreUnder w place leaf (y * wide + x)) (row.wide_is ∙ sym new_size.wide) (under wide place down across y x across_lt x_lt rows columns))

  new_silent : (y x : ℕ) → down < y → y < min next (end down place) → x < min (end across place) wide → y * wide + x < length t.cells.blocks → IsSilent layer t.cells (y * wide + x)
  new_silent y x later before x_lt lt =
      let ne : y * wide + x ≢ leaf = later_row wide down across y x across_lt later in
      elim (cases_lt x across) [
        | inl left ↦
            block_silent style layer (base + leaf) leaf (y * wide + x) cells bits t row.band inside was ne
            (row.silent y x later (omega arith) left (let e : length t.cells.blocks ≡ length cells.blocks = kept.1 in omega arith))
        | inr right ↦ under_it y x (omega arith) ne (in_run down place y (omega arith) (omega arith)) (in_run across place x right (omega arith)) lt
      ]

  abbrev to : ℕ
  to = min (end across place) wide

  behind : across < to
  behind = let lt : across < end across place = before_end across place in omega arith

  run_silent : (other : ℕ) → leaf + 1 ≤ other → other < leaf + 1 + (to - across - 1) → IsSilent layer t.cells other
  run_silent other ge lt =
      let first : across < to = behind in
      let x : ℕ = other - down * wide in
      let is : down * wide + x ≡ other = omega arith in
      let x_lt : x < to = omega arith in
      let ne : down * wide + x ≢ leaf = λ (e : down * wide + x ≡ leaf). (omega arith) in
      subst (λ (n : ℕ). IsSilent layer t.cells n) is
      (under_it down x (omega arith) ne refl (in_run across place x (omega arith) (omega arith))
      (let l : down * wide + x < length cells.blocks = row_inside start cells down x wide row.wide_is row.band row.size down_lt (omega arith) in let e : length t.cells.blocks ≡ length cells.blocks = kept.1 in omega arith))

  pub row_step : (new : List HeaderPart) → new ≡ parts ++ t.entry.parts → IsRow style layer base down wide begun start from to (min next (end down place)) t.cells new t.rest
  row_step new new_is =
      let first : across < to = behind in
      let last : down * wide + (to - 1) < length cells.blocks = row_inside start cells down (to - 1) wide row.wide_is row.band row.size down_lt (omega arith) in
      let long : length t.cells.blocks ≡ length cells.blocks = kept.1 in
      let m : wide - across - 1 - (to - across - 1) ≡ wide - to = omega arith in
      let l : leaf + 1 + (to - across - 1) ≡ down * wide + to = omega arith in
      let below : down < end down place = before_end down place in
      let later : down < next = row.later in
      record {
        wide_is = row.wide_is;
        within = omega arith;
        read = blocks_step (scan_blocks style layer base wide (down * wide) start from) begun parts new style layer base (wide - across) leaf cells t.cells bits t.rest t.entry (omega arith) row.read was new_is
            ∙ ap (and_parts new) (silent_blocks style layer base (to - across - 1) (wide - across - 1) (leaf + 1) t.cells t.rest kept.0 (omega arith) (omega arith) run_silent)
            ∙ ap (λ (k : ℕ). and_parts new (scan_blocks style layer base k (leaf + 1 + (to - across - 1)) t.cells t.rest)) m
            ∙ ap (λ (k : ℕ). and_parts new (scan_blocks style layer base (wide - to) k t.cells t.rest)) l;
        band = kept.0;
        size = new_size;
        later = omega arith;
        silent = new_silent;
      }

pub row_said : (style layer base down wide : ℕ) (begun : List HeaderPart) (start : Cells) (from : List Bool) (across next : ℕ) (cells : Cells) (parts : List HeaderPart) (bits : List Bool) →
    IsRow style layer base down wide begun start from across next cells parts bits → wide ≤ across →
    BandSaid (scan_blocks style layer base start.first.wide (down * start.first.wide) start from) begun parts cells bits × AreSilent layer cells (down + 1) next cells.first.wide
row_said style layer base down wide begun start from across next cells parts bits row le = (
  subst (λ (w : ℕ). BandSaid (scan_blocks style layer base w (down * w) start from) begun parts cells bits) row.wide_is
      (blocks_said (scan_blocks style layer base wide (down * wide) start from) begun parts style layer base (wide - across) (down * wide + across) cells bits (omega arith) row.read),
  subst (λ (w : ℕ). AreSilent layer cells (down + 1) next w) (row.wide_is ∙ sym row.size.wide) (λ y x ge lt x_lt inside. row.silent y x (omega arith) lt (omega arith) inside),
)

-- a block of it is refused
pub row_refuse : (style layer base down wide : ℕ) (begun : List HeaderPart) (start : Cells) (from : List Bool) (across next : ℕ) (cells : Cells) (parts : List HeaderPart) (bits : List Bool) (f : HeadFault) →
    IsRow style layer base down wide begun start from across next cells parts bits → across < wide →
    Refuses f (scan_block style layer (base + (down * wide + across)) (down * wide + across) cells bits) → Refuses f (scan_blocks style layer base start.first.wide (down * start.first.wide) start from)
row_refuse style layer base down wide begun start from across next cells parts bits f row lt r =
    subst (λ (w : ℕ). Refuses f (scan_blocks style layer base w (down * w) start from)) row.wide_is
    (blocks_refuse (scan_blocks style layer base wide (down * wide) start from) begun parts style layer base (wide - across) (down * wide + across) cells bits f (omega arith) row.read r)

-- what is known of the blocks under a node
pub silent_under : (cells : Cells) (tree : Tree) (layer leaf place : ℕ) → tree ≡ cells.first → IsBand cells →
    ((other : ℕ) → other < tree.wide * tree.high → AreUnder tree.wide place leaf other → IsPast tree other (layer + 1)) →
    (other : ℕ) → other < length cells.blocks → other ≢ leaf → AreUnder cells.first.wide place leaf other → IsSilent layer cells other
silent_under cells tree layer leaf place is b past other lt ne u =
    let l : IsLeafOf cells.first other = (block_of cells other b.trees lt).in_first in
    let here : IsPast cells.first other (layer + 1) = subst (λ (t : Tree). IsPast t other (layer + 1)) is
    (past other (subst (λ (t : Tree). other < t.wide * t.high) (sym is) l.inside) (subst (λ (t : Tree). AreUnder t.wide place leaf other) (sym is) u)) in
    record { none = b.settled other (past_unsettled cells.first other (layer + 1) l here); past = here }

-- ---- row after row
pub record IsRows (style layer base : ℕ) (begun : List HeaderPart) (start : Cells) (from : List Bool) (down : ℕ) (cells : Cells) (parts : List HeaderPart) (bits : List Bool) : Type 0 where
  pub within : down ≤ start.first.high
  pub read : and_parts begun (scan_blocks style layer base (length start.blocks) 0 start from)
      ≡ and_parts parts (scan_blocks style layer base (length start.blocks - down * start.first.wide) (down * start.first.wide) cells bits)
  pub band : IsBand cells
  pub size : KeepsSize cells start

pub rows_begin : (style layer base : ℕ) (begun : List HeaderPart) (start : Cells) (from : List Bool) → IsBand start → IsRows style layer base begun start from 0 start begun from
rows_begin style layer base begun start from b =
    let l : 0 ≡ 0 * start.first.wide = omega arith in
    let m : length start.blocks ≡ length start.blocks - 0 * start.first.wide = omega arith in
    record {
      within = omega arith;
      read = ap (λ (k : ℕ). and_parts begun (scan_blocks style layer base (length start.blocks) k start from)) l
          ∙ ap (λ (k : ℕ). and_parts begun (scan_blocks style layer base k (0 * start.first.wide) start from)) m;
      band = b;
      size = record { wide = refl; high = refl; long = refl };
    }

pub spread : (a d w : ℕ) → (a + 1 + d) * w ≡ a * w + w + d * w
spread a d w = omega arith

module _ (style layer base : ℕ) (begun : List HeaderPart) (start : Cells) (from : List Bool) (down : ℕ) (cells : Cells) (parts : List HeaderPart) (bits : List Bool)
    (rows : IsRows style layer base begun start from down cells parts bits) (down_lt : down < start.first.high) where
  abbrev wide : ℕ
  wide = start.first.wide

  abbrev more : ℕ
  more = length start.blocks - down * wide

  whole : length start.blocks ≡ start.first.high * wide
  whole =
      let long : length cells.blocks ≡ cells.first.wide * cells.first.high = rows.band.trees.long in
      let same : cells.first.wide * cells.first.high ≡ wide * start.first.high = ap (λ (w : ℕ). w * cells.first.high) rows.size.wide ∙ ap (λ (h : ℕ). wide * h) rows.size.high in
      let turned : wide * start.first.high ≡ start.first.high * wide = omega arith in
      sym rows.size.long ∙ long ∙ same ∙ turned

  up_to : (n : ℕ) → n ≤ start.first.high → n * wide ≤ length start.blocks
  up_to n le =
      let a : n * wide ≤ start.first.high * wide = mul-le n wide start.first.high wide le (omega arith) in
      let b : length start.blocks ≡ start.first.high * wide = whole in
      omega arith

  one : down * wide + wide ≤ length start.blocks
  one =
      let a : (down + 1) * wide ≤ length start.blocks = up_to (down + 1) (omega arith) in
      let b : (down + 1) * wide ≡ down * wide + wide = omega arith in
      omega arith

  pub rows_refuse : (f : HeadFault) → Refuses f (scan_blocks style layer base cells.first.wide (down * cells.first.wide) cells bits) → Refuses f (scan_blocks style layer base (length start.blocks) 0 start from)
  rows_refuse f r = by f (subst (λ (w : ℕ). Refuses f (scan_blocks style layer base w (down * w) cells bits)) rows.size.wide r)
    where
      fault : (g : HeadFault) → scan_blocks style layer base wide (down * wide) cells bits ≡ Err g → scan_blocks style layer base (length start.blocks) 0 start from ≡ Err g
      fault g e =
          let first : down * wide + wide ≤ length start.blocks = one in
          whole_fault begun (scan_blocks style layer base (length start.blocks) 0 start from) g
          (rows.read ∙ ap (and_parts parts) (first_fault style layer base wide more (down * wide) cells bits g (omega arith) e))

      by : (g : HeadFault) → Refuses g (scan_blocks style layer base wide (down * wide) cells bits) → Refuses g (scan_blocks style layer base (length start.blocks) 0 start from)
      by Bits e = fault Bits e
      by Planes e = fault Planes e
      by NoMemory e = tt

  pub rows_step : (next : ℕ) (after : Cells) (new : List HeaderPart) (rest : List Bool) →
      BandSaid (scan_blocks style layer base cells.first.wide (down * cells.first.wide) cells bits) parts new after rest → IsBand after → KeepsSize after cells → down < next →
      AreSilent layer after (down + 1) next after.first.wide → IsRows style layer base begun start from (min next start.first.high) after new rest
  rows_step next after new rest said b size later silent =
      let to : ℕ = min next start.first.high in
      let d : ℕ = to - down - 1 in
      let first : down * wide + wide ≤ length start.blocks = one in
      let is_to : down + 1 + d ≡ to = omega arith in
      let sum : to * wide ≡ down * wide + wide + d * wide = ap (λ (n : ℕ). n * wide) (sym is_to) ∙ spread down d wide in
      let last : to * wide ≤ length start.blocks = up_to to (omega arith) in
      let long : length after.blocks ≡ length start.blocks = size.long ∙ rows.size.long in
      let wide_is : after.first.wide ≡ wide = size.wide ∙ rows.size.wide in
      let is : scan_blocks style layer base wide (down * wide) cells bits ≡ Ok (all_is said.parts after rest) = subst (λ (w : ℕ). scan_blocks style layer base w (down * w) cells bits ≡ Ok (all_is said.parts after rest)) rows.size.wide said.is in
      let m : more - wide - d * wide ≡ length start.blocks - to * wide = omega arith in
      let l : down * wide + wide + d * wide ≡ to * wide = sym sum in
      record {
        within = omega arith;
        read = rows.read
            ∙ ap (and_parts parts) (first_blocks style layer base wide more (down * wide) cells bits (all_is said.parts after rest) (omega arith) is)
            ∙ parts_parts parts said.parts (scan_blocks style layer base (more - wide) (down * wide + wide) after rest)
            ∙ ap (λ (ps : List HeaderPart). and_parts ps (scan_blocks style layer base (more - wide) (down * wide + wide) after rest)) (sym said.new_is)
            ∙ ap (and_parts new) (silent_blocks style layer base (d * wide) (more - wide) (down * wide + wide) after rest b (omega arith) (omega arith) (run to is_to sum long wide_is last))
            ∙ ap (λ (k : ℕ). and_parts new (scan_blocks style layer base k (down * wide + wide + d * wide) after rest)) m
            ∙ ap (λ (k : ℕ). and_parts new (scan_blocks style layer base (length start.blocks - to * wide) k after rest)) l;
        band = b;
        size = record { wide = wide_is; high = size.high ∙ rows.size.high; long = long };
      }
    where
      positive : (other : ℕ) → other < length start.blocks → 0 < wide
      positive other lt = by wide refl
        where
          by : (w : ℕ) → wide ≡ w → 0 < w
          by zero e = absurd (let a : length start.blocks ≡ start.first.high * wide = whole in let z : start.first.high * wide ≡ 0 = ap (λ (n : ℕ). start.first.high * n) e ∙ omega arith in omega arith)
          by (suc w) e = omega arith

      run : (to : ℕ) → down + 1 + (min next start.first.high - down - 1) ≡ to → to * wide ≡ down * wide + wide + (min next start.first.high - down - 1) * wide → length after.blocks ≡ length start.blocks → after.first.wide ≡ wide →
          to * wide ≤ length start.blocks → (other : ℕ) → down * wide + wide ≤ other → other < down * wide + wide + (min next start.first.high - down - 1) * wide → IsSilent layer after other
      run to is_to sum long wide_is last other ge lt =
          let pos : 0 < wide = positive other (omega arith) in
          let begin : (down + 1) * wide ≡ down * wide + wide = omega arith in
          let low : down + 1 ≤ other / wide = le-div (down + 1) other wide pos (omega arith) in
          let high : other / wide < to = div_below other wide to pos (omega arith) in
          let back : other / wide * wide + other % wide ≡ other = div-add-mod' other wide in
          let silent' : AreSilent layer after (down + 1) next wide = subst (λ (w : ℕ). AreSilent layer after (down + 1) next w) wide_is silent in
          subst (λ (n : ℕ). IsSilent layer after n) back (silent' (other / wide) (other % wide) low (omega arith) (mod_below other wide pos) (omega arith))

pub rows_said : (style layer base : ℕ) (begun : List HeaderPart) (start : Cells) (from : List Bool) (down : ℕ) (cells : Cells) (parts : List HeaderPart) (bits : List Bool) →
    IsRows style layer base begun start from down cells parts bits → start.first.high ≤ down → BandSaid (scan_blocks style layer base (length start.blocks) 0 start from) begun parts cells bits
rows_said style layer base begun start from down cells parts bits rows le =
    let long : length cells.blocks ≡ cells.first.wide * cells.first.high = rows.band.trees.long in
    let same : cells.first.wide * cells.first.high ≡ start.first.wide * start.first.high = ap (λ (w : ℕ). w * cells.first.high) rows.size.wide ∙ ap (λ (h : ℕ). start.first.wide * h) rows.size.high in
    let turned : start.first.wide * start.first.high ≡ start.first.high * start.first.wide = omega arith in
    let all : start.first.high * start.first.wide ≤ down * start.first.wide = mul-le start.first.high start.first.wide down start.first.wide le (omega arith) in
    let kept : length cells.blocks ≡ length start.blocks = rows.size.long in
    blocks_said (scan_blocks style layer base (length start.blocks) 0 start from) begun parts style layer base (length start.blocks - down * start.first.wide) (down * start.first.wide) cells bits (omega arith) rows.read
