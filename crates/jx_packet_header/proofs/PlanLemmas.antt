-- The bands of a precinct that is written.
use Rattle.std.proofs.Common.{◌≡◌, ℕ, zero, suc, ◌+◌, ◌-◌, ◌*◌, ◌^◌, ◌<◌, ◌≤◌, ◌==◌, nat_le, min, Bool, true, false, List, [], ◌∷◌, ◌++◌, length, take, drop, map, replicate, get_or, set, refl, sym, ap, ◌∙◌, subst, cond, arith, append_assoc, length-set, length-append, length-drop, length-take, inl, inr, drop-drop}
use Rattle.std.proofs.lemmas.List.{append-nil, take_all, drop_all, take-map, drop-map, length-map, length-replicate, get_or_default, get_or-replicate, get_or_past, drop-append-le, take-append-le}
use Rattle.std.proofs.Math.Seq.{drop-append_seam, get_or-append_seam}
use Rattle.std.proofs.Math.ListN.{get_or-append}
use Rattle.std.proofs.lemmas.Bool.Decides.{nat_tests}
use Rattle.std.proofs.lemmas.Bool.{cases_lt}
use Rattle.jx_tagtree.specs.Header.{bytes_of}
use Rattle.jx_tagtree.specs.Leaves.{least_leaf}
use Rattle.jx_tagtree.proofs.LeafLemmas.{least_are_values}
use Rattle.jx_tagtree.proofs.QuestionLemmas.{fresh_tree, fresh_values}
use Rattle.jx_packet_header.specs.declared.LeafPart.{LeafPart}
use Rattle.jx_packet_header.specs.declared.BandCells.{BandCells}
use Rattle.jx_packet_header.specs.declared.known.Known.{Known}
use Rattle.jx_packet_header.specs.declared.Leaf.{Leaf}
use Rattle.jx_packet_header.specs.Leafs.{leaf_of}
use Rattle.jx_packet_header.specs.Packet.{Cells, BandTold, band_bits, bands_bits, bands_after, blocks_bits, blocks_after, most_passes, unknown_block}
use Rattle.jx_packet_header.specs.Written.{Leafed, Writes, entries_written, cells_of, values_of, first_layer, first_leaves, zero_leaf, zero_leaves, parts_in, passes_of, some_in, bands_written, state_at}
use Rattle.jx_packet_header.specs.Precinct.{cells_in, CellsInRange, IsBandCells, AreBandCells, fresh_cells, fresh_bands}
use Rattle.jx_packet_header.specs.LeavesFit.{LeavesFit, LeavesInRange, FitsLeaf, FitBand, FitBands, fresh_writes, header_at, IsCutOut, AreHeaders}
use Rattle.jx_packet_header.proofs.CursorLemmas.{cursor_more, from_less}
use Rattle.jx_packet_header.proofs.FreshLemmas.{some_cells, unknown_at}
use Rattle.jx_packet_header.proofs.WriteLemmas.{due_split}
use Rattle.jx_packet_header.specs.Writable.{IsDue, IsWrites, AreDue, tolds_of, head_of, heads_of, AreFirst, AllFew, AllBytes, HeaderDone, AreMade, leaf_at, all_passes, passes_from}
use Rattle.jx_base.specs.Limits.{most_blocks}

-- ---- a list at a place
pub record Place (A : Type 0) (xs : List A) (at : ℕ) (y x : A) : Type 0 where
  pub front : take (at + 1) (set xs at y) ≡ take at xs ++ y ∷ []
  pub behind : drop (at + 1) (set xs at y) ≡ drop (at + 1) xs
  pub here : drop at xs ≡ x ∷ drop (at + 1) xs

pub place : {A : Type 0} (xs : List A) (at : ℕ) (y x : A) → at < length xs → x ≡ get_or xs at x → Place A xs at y x
place [] at y x lt e = absurd (omega arith)
place (z ∷ zs) zero y x lt e = record { front = refl; behind = refl; here = ap (λ u. u ∷ zs) (sym e) }
place (z ∷ zs) (suc at) y x lt e =
    let s = place zs at y x (omega arith) e in
    let n : suc at + 1 ≡ suc (at + 1) = omega arith in
    record {
      front = ap (λ (k : ℕ). take k (z ∷ set zs at y)) n ∙ ap (λ l. z ∷ l) s.front;
      behind = ap (λ (k : ℕ). drop k (z ∷ set zs at y)) n ∙ s.behind ∙ ap (λ (k : ℕ). drop k (z ∷ zs)) (sym n);
      here = s.here ∙ ap (λ (k : ℕ). x ∷ drop k (z ∷ zs)) (sym n);
    }

-- ---- band after band
pub blocks_of : List Writes → ℕ
blocks_of [] = 0
blocks_of (w ∷ ws) = length w.blocks + blocks_of ws

pub blocks_of-snoc : (ws : List Writes) (w : Writes) → blocks_of (ws ++ w ∷ []) ≡ blocks_of ws + length w.blocks
unfolding blocks_of
blocks_of-snoc [] w = omega arith
blocks_of-snoc (x ∷ xs) w = let i : blocks_of (xs ++ w ∷ []) ≡ blocks_of xs + length w.blocks = blocks_of-snoc xs w in omega arith

due_snoc : (layer : ℕ) (ws : List Writes) (w : Writes) (leaves : List Leafed) → AreDue layer ws leaves → IsWrites layer (take (length w.blocks) (drop (blocks_of ws) leaves)) w → AreDue layer (ws ++ w ∷ []) leaves
unfolding blocks_of
due_snoc layer [] w leaves d i = (i, tt)
due_snoc layer (x ∷ xs) w leaves d i =
    (d.0, due_snoc layer xs w (drop (length x.blocks) leaves) d.1 (subst (λ (l : List Leafed). IsWrites layer (take (length w.blocks) l) w) (sym (drop-drop (blocks_of xs) (length x.blocks) leaves)) i))

heads_set : (ws : List Writes) (at : ℕ) (y x : Writes) → at < length ws → x ≡ get_or ws at x → head_of y ≡ head_of x → heads_of (set ws at y) ≡ heads_of ws
heads_set [] at y x lt e h = absurd (omega arith)
heads_set (w ∷ ws) zero y x lt e h = ap (λ (k : List ℕ × ℕ). k ∷ heads_of ws) (h ∙ ap head_of e)
heads_set (w ∷ ws) (suc at) y x lt e h = ap (λ (l : List (List ℕ × ℕ)). head_of w ∷ l) (heads_set ws at y x (omega arith) e h)

map_snoc : (ws : List Writes) (w : Writes) → map cells_of (ws ++ w ∷ []) ≡ map cells_of ws ++ cells_of w ∷ []
map_snoc [] w = refl
map_snoc (x ∷ xs) w = ap (λ (l : List Cells). cells_of x ∷ l) (map_snoc xs w)

-- what stands in the loop over the bands
pub record BandsLoop (layer at base : ℕ) (leaves : List Leafed) (start ws : List Writes) (begun bits : List Bool) : Type 0 where
  pub bits_are : bits ++ bands_bits layer (map cells_of (drop at ws)) (tolds_of layer (drop at ws) (drop base leaves)) ≡ begun ++ bands_bits layer (map cells_of start) (tolds_of layer start leaves)
  pub after_are : map cells_of (take at ws) ++ bands_after layer (map cells_of (drop at ws)) (tolds_of layer (drop at ws) (drop base leaves)) ≡ bands_after layer (map cells_of start) (tolds_of layer start leaves)
  pub due : AreDue layer (drop at ws) (drop base leaves)
  pub done : AreDue (layer + 1) (take at ws) leaves
  pub base_is : base ≡ blocks_of (take at ws)
  pub heads : heads_of ws ≡ heads_of start
  pub long : length ws ≡ length start

pub bands_start : (layer : ℕ) (leaves : List Leafed) (ws : List Writes) (bits : List Bool) → AreDue layer ws leaves → BandsLoop layer 0 0 leaves ws ws bits bits
unfolding blocks_of
bands_start layer leaves ws bits d = record { bits_are = refl; after_are = refl; due = d; done = tt; base_is = refl; heads = refl; long = refl }

pub bands_next : (layer at base next_base : ℕ) (leaves : List Leafed) (start ws : List Writes) (begun bits next : List Bool) (x y : Writes) → BandsLoop layer at base leaves start ws begun bits → at < length ws → x ≡ get_or ws at x →
    next ≡ bits ++ blocks_bits (values_of x) layer 0 (cells_of x) (entries_written layer x.blocks (take (length x.blocks) (drop base leaves))) →
    cells_of y ≡ blocks_after (values_of x) layer 0 (cells_of x) (entries_written layer x.blocks (take (length x.blocks) (drop base leaves))) →
    IsWrites (layer + 1) (take (length x.blocks) (drop base leaves)) y → y.first.leaves ≡ x.first.leaves → length y.blocks ≡ length x.blocks → next_base ≡ base + length x.blocks →
    BandsLoop layer (at + 1) next_base leaves start (set ws at y) begun next
bands_next layer at base next_base leaves start ws begun bits next x y l lt is is_bits is_after due first long base' =
    let p = place ws at y x lt is in
    let mine = drop base leaves in
    let n = length x.blocks in
    let behind = drop (at + 1) ws in
    let others = drop n mine in
    let told : BandTold = record { values = values_of x; entries = entries_written layer x.blocks (take n mine) } in
    let tolds = tolds_of layer behind others in
    let left : drop next_base leaves ≡ others = ap (λ (k : ℕ). drop k leaves) base' ∙ sym (drop-drop n base leaves) in
    let bits1 = band_bits layer (cells_of x) told in
    let due_now : AreDue layer (x ∷ behind) mine = subst (λ (q : List Writes). AreDue layer q mine) p.here l.due in
    let same_base : base ≡ blocks_of (take at ws) = l.base_is in
    record {
      bits_are = ap (λ (q : List Writes). next ++ bands_bits layer (map cells_of q) (tolds_of layer q (drop next_base leaves))) p.behind
          ∙ ap (λ (q : List Leafed). next ++ bands_bits layer (map cells_of behind) (tolds_of layer behind q)) left
          ∙ ap (λ (q : List Bool). q ++ bands_bits layer (map cells_of behind) tolds) is_bits
          ∙ append_assoc bits bits1 (bands_bits layer (map cells_of behind) tolds)
          ∙ ap (λ (q : List Writes). bits ++ bands_bits layer (map cells_of q) (tolds_of layer q mine)) (sym p.here) ∙ l.bits_are;
      after_are = ap (λ (q : List Writes). map cells_of (take (at + 1) (set ws at y)) ++ bands_after layer (map cells_of q) (tolds_of layer q (drop next_base leaves))) p.behind
          ∙ ap (λ (q : List Leafed). map cells_of (take (at + 1) (set ws at y)) ++ bands_after layer (map cells_of behind) (tolds_of layer behind q)) left
          ∙ ap (λ (q : List Cells). q ++ bands_after layer (map cells_of behind) tolds) (ap (map cells_of) p.front ∙ map_snoc (take at ws) y)
          ∙ append_assoc (map cells_of (take at ws)) (cells_of y ∷ []) (bands_after layer (map cells_of behind) tolds)
          ∙ ap (λ (c : Cells). map cells_of (take at ws) ++ c ∷ bands_after layer (map cells_of behind) tolds) is_after
          ∙ ap (λ (q : List Writes). map cells_of (take at ws) ++ bands_after layer (map cells_of q) (tolds_of layer q mine)) (sym p.here) ∙ l.after_are;
      due = subst (λ (q : List Writes). AreDue layer q (drop next_base leaves)) (sym p.behind) (subst (λ (q : List Leafed). AreDue layer behind q) (sym left) due_now.1);
      done = subst (λ (q : List Writes). AreDue (layer + 1) q leaves) (sym p.front) (due_snoc (layer + 1) (take at ws) y leaves l.done
          (subst (λ (k : ℕ). IsWrites (layer + 1) (take (length y.blocks) (drop k leaves)) y) same_base (subst (λ (k : ℕ). IsWrites (layer + 1) (take k mine) y) (sym long) due)));
      base_is = base' ∙ ap (λ (k : ℕ). k + n) same_base ∙ ap (λ (k : ℕ). blocks_of (take at ws) + k) (sym long) ∙ sym (blocks_of-snoc (take at ws) y) ∙ ap blocks_of (sym p.front);
      heads = heads_set ws at y x lt is (ap (λ (f : List ℕ). let h : List ℕ × ℕ = (f, length y.blocks) in h) first ∙ ap (λ (k : ℕ). let h : List ℕ × ℕ = (x.first.leaves, k) in h) long) ∙ l.heads;
      long = length-set ws at y ∙ l.long;
    }

-- the leaves of the band that is next
pub bands_due : (layer at base : ℕ) (leaves : List Leafed) (start ws : List Writes) (begun bits : List Bool) (x : Writes) → BandsLoop layer at base leaves start ws begun bits → at < length ws → x ≡ get_or ws at x →
    IsWrites layer (take (length x.blocks) (drop base leaves)) x
bands_due layer at base leaves start ws begun bits x l lt is =
    let p = place ws at x x lt is in
    let d : AreDue layer (x ∷ drop (at + 1) ws) (drop base leaves) = subst (λ (q : List Writes). AreDue layer q (drop base leaves)) p.here l.due in
    d.0

-- the leaves of a part of the blocks
pub part_leaves : (leaves : List Leaf) (base n m : ℕ) → m ≡ n → map leaf_of (take m (drop base leaves)) ≡ take n (drop base (map leaf_of leaves))
part_leaves leaves base n m e =
    ap (λ (k : ℕ). map leaf_of (take k (drop base leaves))) e ∙ sym (take-map leaf_of n (drop base leaves)) ∙ ap (take n) (sym (drop-map leaf_of base leaves))

-- ---- few passes
in_le : (layer : ℕ) (parts : List LeafPart) → passes_of (parts_in layer parts) ≤ all_passes parts
in_le layer [] = omega arith
in_le layer (p ∷ ps) = by (p.layer == layer) (in_le layer ps)
  where
    by : (b : Bool) → passes_of (parts_in layer ps) ≤ all_passes ps → passes_of (cond b (p.told ∷ parts_in layer ps) (parts_in layer ps)) ≤ p.told.passes + all_passes ps
    by true le = omega arith
    by false le = omega arith

from_first : (parts : List LeafPart) → passes_from 0 parts ≡ all_passes parts
from_first [] = refl
from_first (p ∷ ps) =
    let z : nat_le 0 p.layer ≡ true = grind (arith, nat_tests) in
    ap (λ (b : Bool). cond b (p.told.passes + passes_from 0 ps) (passes_from 0 ps)) z ∙ ap (λ (n : ℕ). p.told.passes + n) (from_first ps)

pub few_at : (layer i : ℕ) (leaves : List Leaf) (x : Leaf) → AllFew (map leaf_of leaves) → i < length leaves → x ≡ get_or leaves i x → passes_of (parts_in layer x.parts.items) < 2 ^ 16
few_at layer i [] x f lt e = absurd (omega arith)
few_at layer zero (l ∷ ls) x f lt e =
    subst (λ (y : Leaf). passes_of (parts_in layer y.parts.items) < 2 ^ 16) (sym e)
    (let le : passes_of (parts_in layer l.parts.items) ≤ all_passes l.parts.items = in_le layer l.parts.items in let s : all_passes l.parts.items < 2 ^ 16 = f.0 in omega arith)
few_at layer (suc i) (l ∷ ls) x f lt e = few_at layer i ls x f.1 (omega arith) e

few_split : (n : ℕ) (leaves : List Leafed) → AllFew (take n leaves) → AllFew (drop n leaves) → AllFew leaves
few_split zero leaves a b = b
few_split (suc n) [] a b = tt
few_split (suc n) (l ∷ ls) a b = (a.0, few_split n ls a.1 b)

pub few_take : (n : ℕ) (leaves : List Leafed) → AllFew leaves → AllFew (take n leaves)
few_take zero leaves f = tt
few_take (suc n) [] f = tt
few_take (suc n) (l ∷ ls) f = (f.0, few_take n ls f.1)

pub few_drop : (n : ℕ) (leaves : List Leafed) → AllFew leaves → AllFew (drop n leaves)
few_drop zero leaves f = f
few_drop (suc n) [] f = tt
few_drop (suc n) (l ∷ ls) f = few_drop n ls f.1

bytes_take : (n : ℕ) (leaves : List Leafed) → AllBytes leaves → AllBytes (take n leaves)
bytes_take zero leaves f = tt
bytes_take (suc n) [] f = tt
bytes_take (suc n) (l ∷ ls) f = (f.0, bytes_take n ls f.1)

bytes_drop : (n : ℕ) (leaves : List Leafed) → AllBytes leaves → AllBytes (drop n leaves)
bytes_drop zero leaves f = f
bytes_drop (suc n) [] f = tt
bytes_drop (suc n) (l ∷ ls) f = bytes_drop n ls f.1

fit_leaf : (style layers planes block z : ℕ) (parts : List LeafPart) → planes ≤ 255 → FitsLeaf style layers planes block (record { zero = z; parts = parts }) parts →
    all_passes parts < 2 ^ 16
fit_leaf style layers planes block z [] le f = omega arith
fit_leaf style layers planes block z (p ∷ ps) le f =
    let a : all_passes (p ∷ ps) ≤ most_passes planes z = f.few in
    omega arith

fit_band : (style layers planes block : ℕ) (leaves : List Leafed) → planes ≤ 255 → FitBand style layers planes block leaves → AllFew leaves
fit_band style layers planes block [] le f = tt
fit_band style layers planes block (l ∷ ls) le f =
    (fit_leaf style layers planes block l.zero l.parts le f.0, fit_band style layers planes (block + 1) ls le f.1)

pub fit_few : (style layers base : ℕ) (bands : List BandCells) (leaves : List Leafed) → AreBandCells bands → length leaves ≡ cells_in bands → FitBands style layers base bands leaves → AllFew leaves
fit_few style layers base [] [] a e f = tt
fit_few style layers base [] (l ∷ ls) a e f = absurd (omega arith)
fit_few style layers base (b ∷ bs) leaves a e f =
    let n = b.wide * b.high in
    let l : length (drop n leaves) ≡ length leaves - n = length-drop n leaves in
    few_split n leaves (fit_band style layers b.planes base (take n leaves) a.0.planes f.0) (fit_few style layers (base + n) bs (drop n leaves) a.1 (omega arith) f.1)

-- ---- bands that are made
zeros_fit : (planes i : ℕ) (leaves : List Leafed) → planes ≤ 255 → AllBytes leaves → get_or (zero_leaves planes leaves) i 0 < 2 ^ 32
zeros_fit planes i [] le f = omega arith
zeros_fit planes zero (l ∷ ls) le f = by l.parts f.0
  where
    by : (parts : List LeafPart) → l.zero < 2 ^ 8 → zero_leaf planes l.zero parts < 2 ^ 32
    by [] lt = omega arith
    by (p ∷ ps) lt = omega arith
zeros_fit planes (suc i) (l ∷ ls) le f = zeros_fit planes i ls le f.1

few_leaf : (i : ℕ) (leaves : List Leafed) → AllFew leaves → all_passes (leaf_at leaves i).parts < 2 ^ 16
few_leaf i [] f = omega arith
few_leaf zero (l ∷ ls) f = f.0
few_leaf (suc i) (l ∷ ls) f = few_leaf i ls f.1

zero_at : (n i : ℕ) → ◌≡◌ {A = ℕ} (get_or (replicate n 0) i 0) 0
zero_at n i = elim (cases_lt i n) [
  | inl lt ↦ get_or-replicate n i 0 0 lt
  | inr ge ↦ past ge
]
  where
    zeros : List ℕ
    zeros = replicate n 0

    past : n ≤ i → get_or zeros i 0 ≡ 0
    past ge = let e : length zeros ≡ n = length-replicate n 0 in get_or_past zeros i 0 (omega arith)

fresh_due : (layers : ℕ) (b : BandCells) (leaves : List Leafed) → IsBandCells b → 0 < b.wide → b.wide * b.high ≤ most_blocks → length leaves ≡ b.wide * b.high → AllFew leaves → AllBytes leaves → IsWrites 0 leaves (fresh_writes layers b leaves)
fresh_due layers b leaves is lt few all f bytes = record {
  are = record {
    shape = record { some = some_cells b is lt; few = few };
    wide = refl;
    high = refl;
    long = length-replicate (b.wide * b.high) unknown_block;
    all = all ∙ sym (length-replicate (b.wide * b.high) unknown_block);
    cursors = length-replicate (b.wide * b.high) 0 ∙ sym (length-replicate (b.wide * b.high) unknown_block);
    zeros_are = refl;
    fit = λ i. zeros_fit b.planes i leaves is.planes bytes;
    layers = layers;
    first_are = refl;
    first_is = fresh_tree b.wide b.high;
    first_values = fresh_values b.wide b.high (least_leaf b.wide b.high (first_leaves layers leaves))
        (least_are_values b.wide b.high (first_leaves layers leaves) (record { some = some_cells b is lt; few = few }) (length-map leaves (λ (l : Leafed). first_layer layers l.parts) ∙ all));
  };
  due = λ i. subst (λ (k : Known). IsDue 0 k (get_or (replicate (b.wide * b.high) 0) i 0) (leaf_at leaves i)) (sym (unknown_at (b.wide * b.high) i))
      (subst (λ (c : ℕ). IsDue 0 unknown_block c (leaf_at leaves i)) (sym (zero_at (b.wide * b.high) i)) (record { cursor_is = tt; few = (let s : all_passes (leaf_at leaves i).parts < 2 ^ 16 = few_leaf i leaves f in let e : passes_from 0 (leaf_at leaves i).parts ≡ all_passes (leaf_at leaves i).parts = from_first (leaf_at leaves i).parts in omega arith); lblock = omega arith; fresh = λ from. refl }));
}

pub record Making (layers at base : ℕ) (bands : List BandCells) (leaves : List Leafed) (made : List Writes) : Type 0 where
  pub cells : map cells_of made ++ fresh_bands (drop at bands) ≡ fresh_bands bands
  pub due : AreDue 0 made leaves
  pub first : AreFirst layers (heads_of made) leaves
  pub base_is : base ≡ blocks_of made
  pub left : base + cells_in (drop at bands) ≡ length leaves

pub making_start : (layers : ℕ) (bands : List BandCells) (leaves : List Leafed) → length leaves ≡ cells_in bands → Making layers 0 0 bands leaves []
unfolding blocks_of
making_start layers bands leaves e = record { cells = refl; due = tt; first = tt; base_is = refl; left = omega arith }

first_snoc : (layers : ℕ) (ws : List Writes) (w : Writes) (leaves : List Leafed) → AreFirst layers (heads_of ws) leaves → w.first.leaves ≡ first_leaves layers (take (length w.blocks) (drop (blocks_of ws) leaves)) → AreFirst layers (heads_of (ws ++ w ∷ [])) leaves
unfolding blocks_of
first_snoc layers [] w leaves f e = (e, tt)
first_snoc layers (x ∷ xs) w leaves f e =
    (f.0, first_snoc layers xs w (drop (length x.blocks) leaves) f.1 (e ∙ ap (λ (l : List Leafed). first_leaves layers (take (length w.blocks) l)) (sym (drop-drop (blocks_of xs) (length x.blocks) leaves))))

drop_get : (bands : List BandCells) (at : ℕ) (d : BandCells) → at < length bands → drop at bands ≡ get_or bands at d ∷ drop (at + 1) bands
drop_get bands at d lt = (place bands at (get_or bands at d) (get_or bands at d) lt (get_or_default bands at d (get_or bands at d) lt)).here

pub making_next : (layers at base : ℕ) (bands : List BandCells) (leaves : List Leafed) (made : List Writes) (y : Writes) (d : BandCells) → Making layers at base bands leaves made → at < length bands → IsBandCells (get_or bands at d) →
    0 < (get_or bands at d).wide → (get_or bands at d).wide * (get_or bands at d).high ≤ most_blocks → AllFew leaves → AllBytes leaves →
    y ≡ fresh_writes layers (get_or bands at d) (take ((get_or bands at d).wide * (get_or bands at d).high) (drop base leaves)) →
    Making layers (at + 1) (base + (get_or bands at d).wide * (get_or bands at d).high) bands leaves (made ++ y ∷ [])
making_next layers at base bands leaves made y d m lt ok some few f bytes y_is =
    let b = get_or bands at d in
    let n = b.wide * b.high in
    let mine = take n (drop base leaves) in
    let z = fresh_writes layers b mine in
    let here = drop_get bands at d lt in
    let e : cells_in (drop at bands) ≡ n + cells_in (drop (at + 1) bands) = ap cells_in here in
    let t : (b.wide == 0) ≡ false = grind (arith, nat_tests) in
    let l : base + cells_in (drop at bands) ≡ length leaves = m.left in
    let is : base ≡ blocks_of made = m.base_is in
    let blocks : length z.blocks ≡ n = length-replicate n unknown_block in
    let dl : length (drop base leaves) ≡ length leaves - base = length-drop base leaves in
    let tl : length mine ≡ min n (length (drop base leaves)) = length-take n (drop base leaves) in
    let all : length mine ≡ n = omega arith in
    let due : IsWrites 0 mine z = fresh_due layers b mine ok some few all (few_take n (drop base leaves) (few_drop base leaves f)) (bytes_take n (drop base leaves) (bytes_drop base leaves bytes)) in
    let part : take (length z.blocks) (drop (blocks_of made) leaves) ≡ mine = ap (λ (k : ℕ). take k (drop (blocks_of made) leaves)) blocks ∙ ap (λ (k : ℕ). take n (drop k leaves)) (sym is) in
    let m' : Making layers (at + 1) (base + n) bands leaves (made ++ z ∷ []) = record {
      cells = ap (λ (q : List Cells). q ++ fresh_bands (drop (at + 1) bands)) (map_snoc made z) ∙ append_assoc (map cells_of made) (cells_of z ∷ []) (fresh_bands (drop (at + 1) bands))
          ∙ ap (λ (q : List Cells). map cells_of made ++ q) (sym (ap fresh_bands here ∙ ap (λ (x : Bool). cond x (fresh_bands (drop (at + 1) bands)) (fresh_cells b ∷ fresh_bands (drop (at + 1) bands))) t)) ∙ m.cells;
      due = due_snoc 0 made z leaves m.due (subst (λ (q : List Leafed). IsWrites 0 q z) (sym part) due);
      first = first_snoc layers made z leaves m.first (ap (first_leaves layers) (sym part));
      base_is = (let s : blocks_of (made ++ z ∷ []) ≡ blocks_of made + length z.blocks = blocks_of-snoc made z in omega arith);
      left = omega arith;
    } in
    subst (λ (w : Writes). Making layers (at + 1) (base + n) bands leaves (made ++ w ∷ [])) (sym y_is) m'

pub making_end : (layers at base : ℕ) (bands : List BandCells) (leaves : List Leafed) (made : List Writes) → length bands ≤ at → Making layers at base bands leaves made → AreMade layers bands leaves made
making_end layers at base bands leaves made ge m = record {
  cells = sym (append-nil (map cells_of made)) ∙ ap (λ (q : List BandCells). map cells_of made ++ fresh_bands q) (sym (drop_all at bands ge)) ∙ m.cells;
  due = m.due;
  first = m.first;
}

-- ---- a layer in which no block contributes
due_less : (layer : ℕ) (known : Known) (c : ℕ) (leaf : Leafed) → IsDue layer known c leaf → IsDue (layer + 1) known c leaf
due_less layer known c leaf d =
    let s : passes_from layer leaf.parts ≡ passes_of (parts_in layer leaf.parts) + passes_from (layer + 1) leaf.parts = due_split layer leaf.parts in
    let f : known.passes + passes_from layer leaf.parts < 2 ^ 16 = d.few in
    record { cursor_is = cursor_more layer c leaf.parts d.cursor_is; few = omega arith; lblock = d.lblock; fresh = λ from. d.fresh (from_less layer leaf.parts from) }

pub due_empty : (layer : ℕ) (ws : List Writes) (leaves : List Leafed) → AreDue layer ws leaves → AreDue (layer + 1) ws leaves
due_empty layer [] leaves d = tt
due_empty layer (w ∷ ws) leaves d =
    (record { are = d.0.are; due = λ i. due_less layer (get_or w.blocks i unknown_block) (get_or w.cursors i 0) (leaf_at (take (length w.blocks) leaves) i) (d.0.due i) }, due_empty layer ws (drop (length w.blocks) leaves) d.1)

pub header_empty : (layer : ℕ) (leaves : List Leafed) (ws : List Writes) (bits : List Bool) (bytes : List ℕ) → AreDue layer ws leaves → some_in layer leaves ≡ false → bits ≡ false ∷ [] → bytes ≡ bytes_of bits → HeaderDone layer leaves ws ws bytes
header_empty layer leaves ws bits bytes d none is e = record {
  bytes_are = e ∙ ap bytes_of (is ∙ ap (λ (b : Bool). cond b (true ∷ bands_bits layer (map cells_of ws) (tolds_of layer ws leaves)) (false ∷ [])) (sym none));
  after_are = ap (λ (b : Bool). cond b (bands_after layer (map cells_of ws) (tolds_of layer ws leaves)) (map cells_of ws)) (sym none);
  due = due_empty layer ws leaves d;
  heads = refl;
}

-- ---- what is told of the bands is what is written
pub tolds_written : (layers layer : ℕ) (ws : List Writes) (leaves : List Leafed) → AreDue layer ws leaves → AreFirst layers (heads_of ws) leaves → tolds_of layer ws leaves ≡ bands_written layers layer (map cells_of ws) leaves
tolds_written layers layer [] leaves d f = refl
tolds_written layers layer (w ∷ ws) leaves d f =
    let n = length w.blocks in
    let mine = take n leaves in
    let told : List ℕ → List ℕ → BandTold = λ (a b : List ℕ). record {
      values = record { first = least_leaf w.first.tree.wide w.first.tree.high a; zeros = least_leaf w.zeros.tree.wide w.zeros.tree.high b };
      entries = entries_written layer w.blocks mine;
    } in
    ap (λ (a : List ℕ). told a w.zeros.leaves ∷ tolds_of layer ws (drop n leaves)) f.0
    ∙ ap (λ (b : List ℕ). told (first_leaves layers mine) b ∷ tolds_of layer ws (drop n leaves)) d.0.are.zeros_are
    ∙ ap (λ (l : List BandTold). told (first_leaves layers mine) (zero_leaves w.planes mine) ∷ l) (tolds_written layers layer ws (drop n leaves) d.1 f.1)

-- ---- layer after layer
pub state_is : (layers style : ℕ) (bands : List BandCells) (leaves : List Leafed) (layer : ℕ) → ((state_at layers style bands leaves layer).style ≡ style) × ((state_at layers style bands leaves layer).layer ≡ layer)
state_is layers style bands leaves zero = (refl, refl)
state_is layers style bands leaves (suc layer) = let i = state_is layers style bands leaves layer in (i.0, (let e : (state_at layers style bands leaves layer).layer ≡ layer = i.1 in omega arith))

pub record LayersLoop (layers style layer : ℕ) (bands : List BandCells) (leaves : List Leafed) (ws : List Writes) (bytes places : List ℕ) : Type 0 where
  pub cells : map cells_of ws ≡ (state_at layers style bands leaves layer).bands
  pub due : AreDue layer ws leaves
  pub first : AreFirst layers (heads_of ws) leaves
  pub headers_are : AreHeaders layers style bands leaves layer bytes places

pub layers_start : (layers style : ℕ) (bands : List BandCells) (leaves : List Leafed) (ws : List Writes) → AreMade layers bands leaves ws → LayersLoop layers style 0 bands leaves ws [] (0 ∷ [])
layers_start layers style bands leaves ws m = record { cells = m.cells; due = m.due; first = m.first; headers_are = record { long = refl; last = refl; each = λ k lt. absurd (omega arith) } }

more_behind : (bytes more : List ℕ) (start stop : ℕ) (header : List ℕ) → IsCutOut bytes start stop header → IsCutOut (bytes ++ more) start stop header
more_behind bytes more start stop header c =
    let ordered : start ≤ stop = c.ordered in
    let within : stop ≤ length bytes = c.within in
    let long : length (bytes ++ more) ≡ length bytes + length more = length-append bytes more in
    let left : length (drop start bytes) ≡ length bytes - start = length-drop start bytes in
    record {
      ordered = ordered;
      within = omega arith;
      is = ap (take (stop - start)) (drop-append-le start bytes more (omega arith)) ∙ take-append-le (stop - start) (drop start bytes) more (omega arith) ∙ c.is;
    }

last_behind : (bytes header : List ℕ) → IsCutOut (bytes ++ header) (length bytes) (length (bytes ++ header)) header
last_behind bytes header =
    let long : length (bytes ++ header) ≡ length bytes + length header = length-append bytes header in
    let size : length (bytes ++ header) - length bytes ≡ length header = omega arith in
    record {
      ordered = omega arith;
      within = omega arith;
      is = ap (take (length (bytes ++ header) - length bytes)) (drop-append_seam bytes header) ∙ ap (λ (k : ℕ). take k header) size ∙ take_all (length header) header (omega arith);
    }

headers_push : (layers style layer : ℕ) (bands : List BandCells) (leaves : List Leafed) (bytes places header : List ℕ) → AreHeaders layers style bands leaves layer bytes places → header ≡ header_at layers style bands leaves layer →
    AreHeaders layers style bands leaves (layer + 1) (bytes ++ header) (places ++ length (bytes ++ header) ∷ [])
headers_push layers style layer bands leaves bytes places header a e =
    let end = length (bytes ++ header) in
    let long : length places ≡ layer + 1 = a.long in
    let kept : (k : ℕ) → k < layer + 1 → get_or (places ++ end ∷ []) k 0 ≡ get_or places k 0 = λ (k : ℕ) (lt : k < layer + 1). get_or-append places (end ∷ []) 0 k (omega arith) in
    let new : get_or (places ++ end ∷ []) (layer + 1) 0 ≡ end = ap (λ (k : ℕ). get_or (places ++ end ∷ []) k 0) (sym long) ∙ get_or-append_seam places end [] 0 in
    record {
      long = length-append places (end ∷ []) ∙ (let s : length places + 1 ≡ layer + 1 + 1 = omega arith in s);
      last = new;
      each = λ k lt. elim (cases_lt k layer) [
        | inl below ↦
            subst (λ (i : ℕ). IsCutOut (bytes ++ header) i (get_or (places ++ end ∷ []) (k + 1) 0) (header_at layers style bands leaves k)) (sym (kept k (omega arith)))
            (subst (λ (j : ℕ). IsCutOut (bytes ++ header) (get_or places k 0) j (header_at layers style bands leaves k)) (sym (kept (k + 1) (omega arith)))
            (more_behind bytes header (get_or places k 0) (get_or places (k + 1) 0) (header_at layers style bands leaves k) (a.each k below)))
        | inr ge ↦
            (let k_is : layer ≡ k = omega arith in
            subst (λ (i : ℕ). IsCutOut (bytes ++ header) (get_or (places ++ end ∷ []) i 0) (get_or (places ++ end ∷ []) (i + 1) 0) (header_at layers style bands leaves i)) k_is
            (subst (λ (i : ℕ). IsCutOut (bytes ++ header) i (get_or (places ++ end ∷ []) (layer + 1) 0) (header_at layers style bands leaves layer)) (sym (kept layer (omega arith) ∙ a.last))
            (subst (λ (j : ℕ). IsCutOut (bytes ++ header) (length bytes) j (header_at layers style bands leaves layer)) (sym new)
            (subst (λ (h : List ℕ). IsCutOut (bytes ++ header) (length bytes) end h) e (last_behind bytes header)))))
      ];
    }

pub layers_next : (layers style layer : ℕ) (bands : List BandCells) (leaves : List Leafed) (ws new : List Writes) (headers places after ends bytes : List ℕ) → LayersLoop layers style layer bands leaves ws headers places →
    HeaderDone layer leaves ws new bytes → after ≡ headers ++ bytes → ends ≡ places ++ length after ∷ [] → LayersLoop layers style (layer + 1) bands leaves new after ends
layers_next layers style layer bands leaves ws new headers places after ends bytes l d e f =
    let k = state_at layers style bands leaves layer in
    let s = state_is layers style bands leaves layer in
    let told = tolds_written layers layer ws leaves l.due l.first in
    let bits : ℕ → List Cells → List Bool = λ (n : ℕ) (cs : List Cells). cond (some_in n leaves) (true ∷ bands_bits n cs (cond (some_in n leaves) (bands_written layers n cs leaves) [])) (false ∷ []) in
    let same : (b : Bool) → (cond b (true ∷ bands_bits layer (map cells_of ws) (tolds_of layer ws leaves)) (false ∷ [])) ≡ cond b (true ∷ bands_bits layer (map cells_of ws) (cond b (bands_written layers layer (map cells_of ws) leaves) [])) (false ∷ []) =
    λ (b : Bool). elim b as (λ x. (cond x (true ∷ bands_bits layer (map cells_of ws) (tolds_of layer ws leaves)) (false ∷ [])) ≡ cond x (true ∷ bands_bits layer (map cells_of ws) (cond x (bands_written layers layer (map cells_of ws) leaves) [])) (false ∷ [])) [
      | true ↦ ap (λ (t : List BandTold). true ∷ bands_bits layer (map cells_of ws) t) told
      | false ↦ refl
    ] in
    let header : bytes ≡ header_at layers style bands leaves layer =
    d.bytes_are ∙ ap bytes_of (same (some_in layer leaves)) ∙ ap (λ (cs : List Cells). bytes_of (bits layer cs)) l.cells ∙ ap (λ (n : ℕ). bytes_of (bits n k.bands)) (sym s.1) in
    let cells_to : ℕ → List Cells → List Cells = λ (n : ℕ) (cs : List Cells). cond (some_in n leaves) (bands_after n cs (cond (some_in n leaves) (bands_written layers n cs leaves) [])) cs in
    let same_after : (b : Bool) → (cond b (bands_after layer (map cells_of ws) (tolds_of layer ws leaves)) (map cells_of ws)) ≡ cond b (bands_after layer (map cells_of ws) (cond b (bands_written layers layer (map cells_of ws) leaves) [])) (map cells_of ws) =
    λ (b : Bool). elim b as (λ x. (cond x (bands_after layer (map cells_of ws) (tolds_of layer ws leaves)) (map cells_of ws)) ≡ cond x (bands_after layer (map cells_of ws) (cond x (bands_written layers layer (map cells_of ws) leaves) [])) (map cells_of ws)) [
      | true ↦ ap (λ (t : List BandTold). bands_after layer (map cells_of ws) t) told
      | false ↦ refl
    ] in
    let cells : map cells_of new ≡ (state_at layers style bands leaves (suc layer)).bands =
    d.after_are ∙ same_after (some_in layer leaves) ∙ ap (λ (cs : List Cells). cells_to layer cs) l.cells ∙ ap (λ (n : ℕ). cells_to n k.bands) (sym s.1) in
    let n_is : suc layer ≡ layer + 1 = omega arith in
    record {
      cells = cells ∙ ap (λ (n : ℕ). (state_at layers style bands leaves n).bands) n_is;
      due = d.due;
      first = subst (λ (h : List (List ℕ × ℕ)). AreFirst layers h leaves) (sym d.heads) l.first;
      headers_are = subst (λ (ps : List ℕ). AreHeaders layers style bands leaves (layer + 1) after ps) (sym f)
          (subst (λ (hs : List ℕ). AreHeaders layers style bands leaves (layer + 1) hs (places ++ length hs ∷ [])) (sym e) (headers_push layers style layer bands leaves headers places bytes l.headers_are header));
    }

-- ---- calls
pub one_empty : (layer : ℕ) (leaves : List Leafed) (ws : List Writes) (start bits : List Bool) (contributes : Bool) → AreDue layer ws leaves → contributes ≡ some_in layer leaves → contributes ≡ false → start ≡ [] → bits ≡ start ++ false ∷ [] →
    (bytes : List ℕ) → bytes ≡ bytes_of bits → HeaderDone layer leaves ws ws bytes
one_empty layer leaves ws start bits contributes d is none e f bytes g = header_empty layer leaves ws bits bytes d (sym is ∙ none) (f ∙ ap (λ (l : List Bool). l ++ false ∷ []) e) g

-- leaves that fit are in range
pub fit_range : (style layers : ℕ) (bands : List BandCells) (leaves : List Leafed) → CellsInRange bands → LeavesFit style layers bands leaves → LeavesInRange bands leaves
fit_range style layers bands leaves r f = record { all = f.all; few = fit_few style layers 0 bands leaves r.each f.all f.each }
