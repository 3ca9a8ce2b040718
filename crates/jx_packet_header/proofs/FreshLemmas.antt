-- A precinct before its first packet.
use Rattle.std.proofs.Common.{◌≡◌, ℕ, zero, suc, ◌+◌, ◌-◌, ◌*◌, ◌<◌, ◌≤◌, ◌==◌, Bool, true, false, List, [], ◌∷◌, ◌++◌, length, drop, get_or, replicate, refl, sym, ap, ◌∙◌, subst, cond, arith, length-append, inl, inr, ◌⊎◌}
use Rattle.std.proofs.lemmas.Bool.{cases_lt}
use Rattle.std.proofs.lemmas.Bool.Decides.{nat_tests}
use Rattle.std.proofs.lemmas.List.{length-replicate, get_or-replicate, get_or_past, drop_all}
use Rattle.jx_tagtree.proofs.QuestionLemmas.{fresh_tree}
use Rattle.jx_packet_header.specs.declared.BandCells.{BandCells}
use Rattle.jx_packet_header.specs.declared.known.Known.{Known}
use Rattle.jx_packet_header.specs.Packet.{Cells, unknown_block}
use Rattle.jx_packet_header.specs.Kept.{IsKnown, IsBand, AreBands}
use Rattle.jx_packet_header.proofs.BandLoopLemmas.{set_at}
use Rattle.jx_packet_header.specs.Precinct.{cells_in, IsBandCells, AreBandCells, CellsInRange, fresh_cells, fresh_bands, fresh_state, all_blocks, IsState}
use Rattle.jx_base.specs.Limits.{most_blocks}

pub cells_at : (bands : List BandCells) (at : ℕ) (d : BandCells) → AreBandCells bands → at < length bands → IsBandCells (get_or bands at d)
cells_at [] at d a lt = absurd (omega arith)
cells_at (b ∷ bs) zero d a lt = a.0
cells_at (b ∷ bs) (suc at) d a lt = cells_at bs at d a.1 (omega arith)

pub cells_few : (bands : List BandCells) (at : ℕ) (d : BandCells) → at < length bands → (get_or bands at d).wide * (get_or bands at d).high ≤ cells_in bands
cells_few [] at d lt = absurd (omega arith)
cells_few (b ∷ bs) zero d lt = omega arith
cells_few (b ∷ bs) (suc at) d lt = let le : (get_or bs at d).wide * (get_or bs at d).high ≤ cells_in bs = cells_few bs at d (omega arith) in omega arith

pub unknown_at : (n i : ℕ) → get_or (replicate n unknown_block) i unknown_block ≡ unknown_block
unknown_at n i = elim (cases_lt i n) [
  | inl lt ↦ get_or-replicate n i unknown_block unknown_block lt
  | inr ge ↦ get_or_past (replicate n unknown_block) i unknown_block (let e : length (replicate n unknown_block) ≡ n = length-replicate n unknown_block in omega arith)
]

product : (w h : ℕ) → 1 ≤ w → 1 ≤ h → 1 ≤ w * h
product w h p q = grind arith

pub some_cells : (b : BandCells) → IsBandCells b → 0 < b.wide → 1 ≤ b.wide * b.high
some_cells b is lt = by is.size
  where
    by : ((b.wide ≡ 0) × (b.high ≡ 0)) ⊎ ((1 ≤ b.wide) × (1 ≤ b.high)) → 1 ≤ b.wide * b.high
    by (inl n) = absurd (let e : b.wide ≡ 0 = n.0 in omega arith)
    by (inr s) = product b.wide b.high s.0 s.1

pub fresh_is : (b : BandCells) → IsBandCells b → 0 < b.wide → b.wide * b.high ≤ most_blocks → IsBand (fresh_cells b)
fresh_is b is lt few = record {
  trees = record {
    shape = record { some = some_cells b is lt; few = few };
    wide = refl;
    high = refl;
    first_is = fresh_tree b.wide b.high;
    zeros_is = fresh_tree b.wide b.high;
    long = length-replicate (b.wide * b.high) unknown_block;
  };
  planes = is.planes;
  blocks = λ i. subst (λ (k : Known). IsKnown k) (sym (unknown_at (b.wide * b.high) i)) (record { passes = omega arith; lblock = omega arith });
  settled = λ i un. ap (λ (k : Known). k.zero) (unknown_at (b.wide * b.high) i);
}

pub fresh_are : (bands : List BandCells) → AreBandCells bands → cells_in bands ≤ most_blocks → AreBands (fresh_bands bands) × (length (all_blocks (fresh_bands bands)) ≤ cells_in bands)
fresh_are [] a few = (tt, omega arith)
fresh_are (b ∷ bs) a few = by (b.wide == 0) refl (fresh_are bs a.1 (omega arith))
  where
    by : (c : Bool) → (b.wide == 0) ≡ c → AreBands (fresh_bands bs) × (length (all_blocks (fresh_bands bs)) ≤ cells_in bs) →
        AreBands (cond c (fresh_bands bs) (fresh_cells b ∷ fresh_bands bs)) × (length (all_blocks (cond c (fresh_bands bs) (fresh_cells b ∷ fresh_bands bs))) ≤ b.wide * b.high + cells_in bs)
    by true e again = (again.0, (let le : length (all_blocks (fresh_bands bs)) ≤ cells_in bs = again.1 in omega arith))
    by false e again =
        let lt : 0 < b.wide = grind (arith, nat_tests) in
        let le : length (all_blocks (fresh_bands bs)) ≤ cells_in bs = again.1 in
        let small : b.wide * b.high ≤ most_blocks = omega arith in
        let l : length (replicate (b.wide * b.high) unknown_block) ≡ b.wide * b.high = length-replicate (b.wide * b.high) unknown_block in
        let s : length (replicate (b.wide * b.high) unknown_block ++ all_blocks (fresh_bands bs)) ≡ length (replicate (b.wide * b.high) unknown_block) + length (all_blocks (fresh_bands bs)) =
        length-append (replicate (b.wide * b.high) unknown_block) (all_blocks (fresh_bands bs)) in
        ((fresh_is b a.0 lt small, again.0), omega arith)

pub fresh_state_is : (style : ℕ) (bands : List BandCells) → CellsInRange bands → IsState (fresh_state style bands)
fresh_state_is style bands r =
    let f = fresh_are bands r.each r.few in
    let le : length (all_blocks (fresh_bands bands)) ≤ cells_in bands = f.1 in
    let few : cells_in bands ≤ most_blocks = r.few in
    record { bands = f.0; few = omega arith }

-- ---- a block among all
pub block_left : (xs ys : List Known) (i : ℕ) (d : Known) → i < length xs → get_or (xs ++ ys) i d ≡ get_or xs i d
block_left [] ys i d lt = absurd (omega arith)
block_left (x ∷ xs) ys zero d lt = refl
block_left (x ∷ xs) ys (suc i) d lt = block_left xs ys i d (omega arith)

pub block_right : (xs ys : List Known) (i : ℕ) (d : Known) → length xs ≤ i → get_or (xs ++ ys) i d ≡ get_or ys (i - length xs) d
block_right [] ys i d le = let e : i ≡ i - 0 = omega arith in ap (λ (n : ℕ). get_or ys n d) e
block_right (x ∷ xs) ys zero d le = absurd (omega arith)
block_right (x ∷ xs) ys (suc i) d le = let e : i - length xs ≡ suc i - suc (length xs) = omega arith in block_right xs ys i d (omega arith) ∙ ap (λ (n : ℕ). get_or ys n d) e

-- a block's place among the bands from one on
pub record Within (bands : List Cells) (at left block : ℕ) : Type 0 where
  pub same : get_or (all_blocks (drop at bands)) left unknown_block ≡ get_or (all_blocks bands) block unknown_block
  pub inside : left < length (all_blocks (drop at bands))

all_from : (bands : List Cells) (at : ℕ) (x : Cells) → at < length bands → x ≡ get_or bands at x → all_blocks (drop at bands) ≡ x.blocks ++ all_blocks (drop (at + 1) bands)
all_from bands at x lt is = ap all_blocks (set_at bands at x x lt).here ∙ ap (λ (c : Cells). c.blocks ++ all_blocks (drop (at + 1) bands)) (sym is)

pub within_here : (bands : List Cells) (at left block : ℕ) (x : Cells) → at < length bands → x ≡ get_or bands at x → Within bands at left block → left < length x.blocks →
    get_or x.blocks left unknown_block ≡ get_or (all_blocks bands) block unknown_block
within_here bands at left block x lt is w here =
    sym (block_left x.blocks (all_blocks (drop (at + 1) bands)) left unknown_block here) ∙ ap (λ (l : List Known). get_or l left unknown_block) (sym (all_from bands at x lt is)) ∙ w.same

pub within_next : (bands : List Cells) (at left block : ℕ) (x : Cells) → at < length bands → x ≡ get_or bands at x → Within bands at left block → length x.blocks ≤ left →
    Within bands (at + 1) (left - length x.blocks) block
within_next bands at left block x lt is w past =
    let e : length (all_blocks (drop at bands)) ≡ length (x.blocks ++ all_blocks (drop (at + 1) bands)) = ap (λ (l : List Known). length l) (all_from bands at x lt is) in
    let a : length (x.blocks ++ all_blocks (drop (at + 1) bands)) ≡ length x.blocks + length (all_blocks (drop (at + 1) bands)) = length-append x.blocks (all_blocks (drop (at + 1) bands)) in
    let i : left < length (all_blocks (drop at bands)) = w.inside in
    record {
      same = sym (block_right x.blocks (all_blocks (drop (at + 1) bands)) left unknown_block past) ∙ ap (λ (l : List Known). get_or l left unknown_block) (sym (all_from bands at x lt is)) ∙ w.same;
      inside = omega arith;
    }

pub within_end : (bands : List Cells) (at left block : ℕ) → length bands ≤ at → Within bands at left block → ⊥
within_end bands at left block ge w =
    let e : length (all_blocks (drop at bands)) ≡ 0 = ap (λ (l : List Cells). length (all_blocks l)) (drop_all at bands ge) in
    let i : left < length (all_blocks (drop at bands)) = w.inside in
    omega arith

-- it has the blocks of all bands
pub fresh_count : (bands : List BandCells) → AreBandCells bands → length (all_blocks (fresh_bands bands)) ≡ cells_in bands
fresh_count [] a = refl
fresh_count (b ∷ bs) a = by (b.wide == 0) refl (fresh_count bs a.1)
  where
    none : b.wide ≡ 0 → b.wide * b.high ≡ 0
    none e = ap (λ (n : ℕ). n * b.high) e ∙ (let z : 0 * b.high ≡ 0 = omega arith in z)

    by : (c : Bool) → (b.wide == 0) ≡ c → length (all_blocks (fresh_bands bs)) ≡ cells_in bs →
        length (all_blocks (cond c (fresh_bands bs) (fresh_cells b ∷ fresh_bands bs))) ≡ b.wide * b.high + cells_in bs
    by true e again =
        let z : b.wide ≡ 0 = grind (arith, nat_tests) in
        let p : b.wide * b.high ≡ 0 = none z in
        omega arith
    by false e again =
        let l : length (replicate (b.wide * b.high) unknown_block) ≡ b.wide * b.high = length-replicate (b.wide * b.high) unknown_block in
        let s : length (replicate (b.wide * b.high) unknown_block ++ all_blocks (fresh_bands bs)) ≡ length (replicate (b.wide * b.high) unknown_block) + length (all_blocks (fresh_bands bs)) =
        length-append (replicate (b.wide * b.high) unknown_block) (all_blocks (fresh_bands bs)) in
        omega arith
