-- What is written agrees with the state before it: the nodes of its trees have the values of the leaves, and of each block
-- is known what was written of its leaf.
use Rattle.std.proofs.Common.{◌≡◌, ◌≢◌, ℕ, zero, suc, ◌+◌, ◌-◌, ◌*◌, ◌^◌, ◌<◌, ◌≤◌, ◌==◌, nat_lt, min, Bool, true, false, ◌||◌, List, [], ◌∷◌, ◌++◌, length, take, drop, map, get_or, replicate, refl, sym, ap, ◌∙◌, subst, cond, arith, append_assoc, length-append, length-drop, length-take, get_or-set_same, inl, inr}
use Rattle.std.specs.Bool.{MatchBool}
use Rattle.std.proofs.lemmas.Bool.Decides.{nat_tests}
use Rattle.std.proofs.lemmas.Bool.{cases_eq, cases_lt, or_parts}
use Rattle.std.proofs.lemmas.List.{get_or-map, length-map, get_or_past, length-replicate}
use Rattle.jx_tagtree.specs.Shape.{IsShape}
use Rattle.jx_tagtree.specs.Leaves.{least_leaf}
use Rattle.jx_tagtree.proofs.LeafLemmas.{least_of_leaf, least_are_values}
use Rattle.jx_tagtree.proofs.QuestionLemmas.{fresh_values}
use Rattle.jx_packet_header.specs.declared.HeaderPart.{HeaderPart}
use Rattle.jx_packet_header.specs.declared.LeafPart.{LeafPart}
use Rattle.jx_packet_header.specs.declared.BandCells.{BandCells}
use Rattle.jx_packet_header.specs.declared.known.Known.{Known}
use Rattle.jx_packet_header.specs.Packet.{Cells, State, Values, Agree, Entry, unknown_block, block_at, block_after, zero_planes, cells_first, cells_included, entry_after, IsEntry, AreEntries, blocks_after, parts_told, BandTold, IsBandTold, band_after, AreBandsTold, bands_after, bands_parts, header_after, header_parts, IsToldOf, IsPacket}
use Rattle.jx_packet_header.specs.Kept.{AreTrees, IsKnown, AreSettled, IsBand, AreBands}
use Rattle.jx_packet_header.specs.Precinct.{cells_in, CellsInRange, IsBandCells, AreBandCells, fresh_cells, fresh_bands, all_blocks, IsState}
use Rattle.jx_packet_header.specs.Written.{Leafed, first_layer, zero_leaf, first_leaves, zero_leaves, parts_in, passes_of, entry_written, entries_written, values_written, band_written, bands_written, header_written, some_in, state_at, Plan, state_of, next_header}
use Rattle.jx_packet_header.specs.Writable.{no_leaf, leaf_at, SameSize}
use Rattle.jx_packet_header.specs.LeavesFit.{LeavesFit, FitsLeaf, FitBand, FitBands, AllShort, InTypes, parts_at, header_at, IsPlan}
use Rattle.jx_packet_header.specs.ReadBack.{IsOneReading}
use Rattle.jx_packet_header.proofs.BandLemmas.{block_of, entry_agrees, entry_size, entry_kept, entries_settled}
use Rattle.jx_packet_header.proofs.FreshLemmas.{fresh_is, unknown_at, some_cells}
use Rattle.jx_packet_header.proofs.PacketLemmas.{stands_there, one_header}
use Rattle.jx_packet_header.proofs.WriteLemmas.{entry_next, entries_end, behind_same, other_same, no_size}
use Rattle.jx_packet_header.proofs.PlanLemmas.{state_is}
use Rattle.jx_packet_header.proofs.LayerLemmas.{IsTold, IsFit, fits_runs, none_in, inclusion, zero_of, entry_told, told_more, told_still, told_known, nothing_told}
use Rattle.jx_base.specs.Limits.{most_blocks}

-- ---- values of a band's leaves
pub record AreLeafValues (layers planes : ℕ) (v : Values) (leaves : List Leafed) : Type 0 where
  pub first : (i : ℕ) → i < length leaves → v.first i ≡ first_layer layers (leaf_at leaves i).parts
  pub zeros : (i : ℕ) → i < length leaves → v.zeros i ≡ zero_leaf planes (leaf_at leaves i).zero (leaf_at leaves i).parts

-- ---- block after block
-- a band of which the layer was written up to a block
pub record Going (v : Values) (style layers layer base at : ℕ) (cells : Cells) (leaves : List Leafed) : Type 0 where
  pub trees : AreTrees cells
  pub all : length leaves ≡ length cells.blocks
  pub agree : Agree cells v
  pub values : AreLeafValues layers cells.planes v leaves
  pub fits : (i : ℕ) → i < length leaves → IsFit style layers cells.planes (base + i) (leaf_at leaves i)
  pub done : (i : ℕ) → i < at → IsTold (layer + 1) (block_at cells i) (leaf_at leaves i)
  pub due : (i : ℕ) → at ≤ i → i < length leaves → IsTold layer (block_at cells i) (leaf_at leaves i)

-- a block that contributes has its leaf's zero planes
zero_here : (v : Values) (style layers layer base at : ℕ) (cells : Cells) (leaves : List Leafed) → at < length leaves → Going v style layers layer base at cells leaves →
    1 ≤ passes_of (parts_in layer (leaf_at leaves at).parts) → zero_planes (block_at cells at).zero v.zeros at ≡ (leaf_at leaves at).zero
zero_here v style layers layer base at cells leaves lt g ge =
    zero_of (block_at cells at).zero v.zeros at layer cells.planes (leaf_at leaves at).zero (leaf_at leaves at).parts ge (g.due at (omega arith) lt).zero (g.values.zeros at lt)

entry_is : (v : Values) (style layers layer base at : ℕ) (cells : Cells) (leaves : List Leafed) → at < length leaves → layer < layers → Going v style layers layer base at cells leaves →
    IsEntry v style layer (base + at) at cells (entry_written layer (block_at cells at) (leaf_at leaves at))
entry_is v style layers layer base at cells leaves lt small g =
    let known = block_at cells at in
    let leaf = leaf_at leaves at in
    let fit = g.fits at lt in
    let told = g.due at (omega arith) lt in
    record {
      first = inclusion known.zero v.first at layers layer (base + at) leaf.zero leaf.parts small (fits_runs style layers cells.planes (base + at) leaf.zero leaf.parts fit.fits) told.zero (g.values.first at lt);
      told = entry_told style layers layer cells.planes (base + at) (zero_planes known.zero v.zeros at) known leaf (nat_lt 0 (passes_of (parts_in layer leaf.parts))) refl (zero_here v style layers layer base at cells leaves lt g) fit told;
    }

known_here : (v : Values) (style layers layer block at : ℕ) (cells : Cells) (leaf : Leafed) → at < length cells.blocks → (1 ≤ passes_of (parts_in layer leaf.parts) → zero_planes (block_at cells at).zero v.zeros at ≡ leaf.zero) →
    IsFit style layers cells.planes block leaf → IsTold layer (block_at cells at) leaf → IsTold (layer + 1) (block_at (entry_after v layer at cells (entry_written layer (block_at cells at) leaf)) at) leaf
known_here v style layers layer block at cells leaf lt of_leaf fit told = by (nat_lt 0 (passes_of (parts_in layer leaf.parts))) refl
  where
    by : (b : Bool) → nat_lt 0 (passes_of (parts_in layer leaf.parts)) ≡ b →
        IsTold (layer + 1) (block_at (cond b (cells_included v at (cells_first v layer at cells) (entry_written layer (block_at cells at) leaf)) (cells_first v layer at cells)) at) leaf
    by true is =
        let known = block_at cells at in
        let z = zero_planes known.zero v.zeros at in
        let ge : 1 ≤ passes_of (parts_in layer leaf.parts) = grind (arith, nat_tests) in
        subst (λ (k : Known). IsTold (layer + 1) k leaf) (sym (get_or-set_same cells.blocks at (block_after known z (entry_written layer known leaf)) unknown_block lt))
        (told_more style layers layer cells.planes block z known leaf (of_leaf ge) ge fit told)
    by false is =
        let e : passes_of (parts_in layer leaf.parts) ≡ 0 = grind (arith, nat_tests) in
        told_still style layers layer cells.planes block (block_at cells at) leaf e fit told

going_next : (v : Values) (style layers layer base at : ℕ) (cells : Cells) (leaves : List Leafed) → at < length leaves → layer < layers → Going v style layers layer base at cells leaves →
    Going v style layers layer base (at + 1) (entry_after v layer at cells (entry_written layer (block_at cells at) (leaf_at leaves at))) leaves
going_next v style layers layer base at cells leaves lt small g =
    let e = entry_written layer (block_at cells at) (leaf_at leaves at) in
    let all : length leaves ≡ length cells.blocks = g.all in
    let inside : at < length cells.blocks = omega arith in
    let size = entry_size v layer at cells e in
    record {
      trees = (entry_kept v style layer (base + at) at cells e g.trees inside g.agree (entry_is v style layers layer base at cells leaves lt small g)).trees;
      all = all ∙ sym size.long;
      agree = entry_agrees v layer at cells e (block_of cells at g.trees inside) g.agree;
      values = subst (λ (n : ℕ). AreLeafValues layers n v leaves) (sym size.planes) g.values;
      fits = subst (λ (n : ℕ). (i : ℕ) → i < length leaves → IsFit style layers n (base + i) (leaf_at leaves i)) (sym size.planes) g.fits;
      done = λ i lt'. elim (cases_eq i at) [
        | inl is ↦ subst (λ (n : ℕ). IsTold (layer + 1) (block_at (entry_after v layer at cells e) n) (leaf_at leaves n)) (sym is)
            (known_here v style layers layer (base + at) at cells (leaf_at leaves at) inside (zero_here v style layers layer base at cells leaves lt g) (g.fits at lt) (g.due at (omega arith) lt))
        | inr ne ↦ subst (λ (k : Known). IsTold (layer + 1) k (leaf_at leaves i)) (sym (other_same v layer at i cells e ne)) (g.done i (below i at lt' ne))
      ];
      due = λ i ge lt'. subst (λ (k : Known). IsTold layer k (leaf_at leaves i)) (sym (other_same v layer at i cells e (above i at ge))) (g.due i (omega arith) lt');
    }
  where
    below : (j i : ℕ) → j < i + 1 → j ≢ i → j < i
    below j i lt ne = omega arith

    above : (j i : ℕ) → i + 1 ≤ j → j ≢ i
    above j i ge = λ (e : j ≡ i). (let f : j ≡ i = e in omega arith)

size_on : (new mid old : Cells) → SameSize new mid → SameSize mid old → SameSize new old
size_on new mid old s t = record { wide = s.wide ∙ t.wide; high = s.high ∙ t.high; zeros_wide = s.zeros_wide ∙ t.zeros_wide; zeros_high = s.zeros_high ∙ t.zeros_high; long = s.long ∙ t.long; planes = s.planes ∙ t.planes }

-- entries of the blocks from one on, and what is known after them
pub record BlocksAgree (v : Values) (style layers layer base at : ℕ) (cells : Cells) (leaves : List Leafed) (es : List Entry) : Type 0 where
  pub are : AreEntries v style layer base (length leaves) at cells es
  pub going : Going v style layers layer base (length leaves) (blocks_after v layer at cells es) leaves
  pub size : SameSize (blocks_after v layer at cells es) cells

blocks_agree : (v : Values) (style layers layer base more at : ℕ) (cells : Cells) (leaves : List Leafed) → at + more ≡ length leaves → layer < layers → Going v style layers layer base at cells leaves →
    BlocksAgree v style layers layer base at cells leaves (entries_written layer (drop at cells.blocks) (drop at leaves))
blocks_agree v style layers layer base zero at cells leaves sum small g =
    let all : length leaves ≡ length cells.blocks = g.all in
    let end : at ≡ length leaves = omega arith in
    let none : entries_written layer (drop at cells.blocks) (drop at leaves) ≡ [] = entries_end layer at cells.blocks leaves (omega arith) in
    subst (λ (es : List Entry). BlocksAgree v style layers layer base at cells leaves es) (sym none)
    (record { are = end; going = subst (λ (n : ℕ). Going v style layers layer base n cells leaves) end g; size = no_size cells })
blocks_agree v style layers layer base (suc more) at cells leaves sum small g =
    let e = entry_written layer (block_at cells at) (leaf_at leaves at) in
    let after = entry_after v layer at cells e in
    let all : length leaves ≡ length cells.blocks = g.all in
    let lt : at < length leaves = omega arith in
    let es = entries_written layer (drop (at + 1) cells.blocks) (drop (at + 1) leaves) in
    let first : entries_written layer (drop at cells.blocks) (drop at leaves) ≡ e ∷ es = entry_next layer at cells.blocks leaves (omega arith) all in
    let behind : entries_written layer (drop (at + 1) after.blocks) (drop (at + 1) leaves) ≡ es = ap (λ (ks : List Known). entries_written layer ks (drop (at + 1) leaves)) (behind_same v layer at cells e) in
    let rest : BlocksAgree v style layers layer base (at + 1) after leaves es =
    subst (λ (l : List Entry). BlocksAgree v style layers layer base (at + 1) after leaves l) behind
    (blocks_agree v style layers layer base more (at + 1) after leaves (omega arith) small (going_next v style layers layer base at cells leaves lt small g)) in
    subst (λ (l : List Entry). BlocksAgree v style layers layer base at cells leaves l) (sym first)
    (record {
      are = (lt, entry_is v style layers layer base at cells leaves lt small g, rest.are);
      going = rest.going;
      size = size_on (blocks_after v layer (at + 1) after es) after cells rest.size (entry_size v layer at cells e);
    })

-- ---- a band before a layer
pub record IsBandAt (style layers layer base : ℕ) (cells : Cells) (leaves : List Leafed) : Type 0 where
  pub trees : AreTrees cells
  pub planes : cells.planes ≤ 255
  pub all : length leaves ≡ length cells.blocks
  pub agree : Agree cells (values_written layers cells leaves)
  pub settled : AreSettled cells
  pub fits : (i : ℕ) → i < length leaves → IsFit style layers cells.planes (base + i) (leaf_at leaves i)
  pub told : (i : ℕ) → i < length leaves → IsTold layer (block_at cells i) (leaf_at leaves i)

-- leaves of the tag trees fit 32 bits
first_fits : (style layers planes block z : ℕ) (parts : List LeafPart) → layers < 2 ^ 16 → FitsLeaf style layers planes block (record { zero = z; parts = parts }) parts → first_layer layers parts < 2 ^ 32
first_fits style layers planes block z [] few f = omega arith
first_fits style layers planes block z (p ∷ ps) few f = let lt : p.layer < layers = f.parts.1 in omega arith

zero_fits : (style layers planes block z : ℕ) (parts : List LeafPart) → planes ≤ 255 → FitsLeaf style layers planes block (record { zero = z; parts = parts }) parts → zero_leaf planes z parts < 2 ^ 32
zero_fits style layers planes block z [] few f = omega arith
zero_fits style layers planes block z (p ∷ ps) few f = let lt : z < planes = f.zero_planes in omega arith

all_fit : (f : Leafed → ℕ) (leaves : List Leafed) → ((i : ℕ) → i < length leaves → f (leaf_at leaves i) < 2 ^ 32) → (i : ℕ) → get_or (map f leaves) i 0 < 2 ^ 32
all_fit f leaves each i = elim (cases_lt i (length leaves)) [
  | inl lt ↦ subst (λ (n : ℕ). n < 2 ^ 32) (sym (get_or-map f leaves i no_leaf 0 lt)) (each i lt)
  | inr ge ↦ subst (λ (n : ℕ). n < 2 ^ 32) (sym (get_or_past (map f leaves) i 0 (let e : length (map f leaves) ≡ length leaves = length-map leaves f in omega arith))) (omega arith)
]

band_values : (style layers layer base : ℕ) (cells : Cells) (leaves : List Leafed) → layers < 2 ^ 16 → IsBandAt style layers layer base cells leaves → AreLeafValues layers cells.planes (values_written layers cells leaves) leaves
band_values style layers layer base cells leaves few b =
    let t = b.trees in
    let all : length leaves ≡ length cells.blocks = b.all in
    let long : length cells.blocks ≡ cells.first.wide * cells.first.high = t.long in
    let first : Leafed → ℕ = λ (l : Leafed). first_layer layers l.parts in
    let zeros : Leafed → ℕ = λ (l : Leafed). zero_leaf cells.planes l.zero l.parts in
    let zeros_long : cells.first.wide * cells.first.high ≡ cells.zeros.wide * cells.zeros.high = ap (λ (n : ℕ). n * cells.first.high) (sym t.wide) ∙ ap (λ (n : ℕ). cells.zeros.wide * n) (sym t.high) in
    let zeros_shape : IsShape cells.zeros.wide cells.zeros.high = subst (λ (n : ℕ). IsShape n cells.zeros.high) (sym t.wide) (subst (λ (n : ℕ). IsShape cells.first.wide n) (sym t.high) t.shape) in
    record {
      first = λ i lt.
          least_of_leaf cells.first.wide cells.first.high (first_leaves layers leaves) i t.shape (length-map leaves first ∙ all ∙ long)
          (all_fit first leaves (λ j lt'. first_fits style layers cells.planes (base + j) (leaf_at leaves j).zero (leaf_at leaves j).parts few (b.fits j lt').fits)) (omega arith)
          ∙ get_or-map first leaves i no_leaf 0 lt;
      zeros = λ i lt.
          least_of_leaf cells.zeros.wide cells.zeros.high (zero_leaves cells.planes leaves) i zeros_shape (length-map leaves zeros ∙ all ∙ long ∙ zeros_long)
          (all_fit zeros leaves (λ j lt'. zero_fits style layers cells.planes (base + j) (leaf_at leaves j).zero (leaf_at leaves j).parts b.planes (b.fits j lt').fits)) (omega arith)
          ∙ get_or-map zeros leaves i no_leaf 0 lt;
    }

same_written : (layers : ℕ) (new old : Cells) (leaves : List Leafed) → SameSize new old → values_written layers old leaves ≡ values_written layers new leaves
same_written layers new old leaves s =
    let of : ℕ → ℕ → ℕ → ℕ → ℕ → Values = λ (a b c d p : ℕ). record { first = least_leaf a b (first_leaves layers leaves); zeros = least_leaf c d (zero_leaves p leaves) } in
    ap (λ (n : ℕ). of n old.first.high old.zeros.wide old.zeros.high old.planes) (sym s.wide)
    ∙ ap (λ (n : ℕ). of new.first.wide n old.zeros.wide old.zeros.high old.planes) (sym s.high)
    ∙ ap (λ (n : ℕ). of new.first.wide new.first.high n old.zeros.high old.planes) (sym s.zeros_wide)
    ∙ ap (λ (n : ℕ). of new.first.wide new.first.high new.zeros.wide n old.planes) (sym s.zeros_high)
    ∙ ap (λ (n : ℕ). of new.first.wide new.first.high new.zeros.wide new.zeros.high n) (sym s.planes)

-- what a layer's packet tells of a band, and the band after it
pub record BandAgrees (style layers layer base : ℕ) (cells : Cells) (leaves : List Leafed) : Type 0 where
  pub told : IsBandTold style layer base cells (band_written layers layer cells leaves)
  pub next : IsBandAt style layers (layer + 1) base (band_after layer cells (band_written layers layer cells leaves)) leaves
  pub long : length (band_after layer cells (band_written layers layer cells leaves)).blocks ≡ length cells.blocks

band_agrees : (style layers layer base : ℕ) (cells : Cells) (leaves : List Leafed) → layers < 2 ^ 16 → layer < layers → IsBandAt style layers layer base cells leaves → BandAgrees style layers layer base cells leaves
band_agrees style layers layer base cells leaves few small b =
    let v = values_written layers cells leaves in
    let start : Going v style layers layer base 0 cells leaves = record {
      trees = b.trees;
      all = b.all;
      agree = b.agree;
      values = band_values style layers layer base cells leaves few b;
      fits = b.fits;
      done = λ i lt. absurd (omega arith);
      due = λ i ge lt. b.told i lt;
    } in
    let r = blocks_agree v style layers layer base (length leaves) 0 cells leaves (omega arith) small start in
    let after = band_after layer cells (band_written layers layer cells leaves) in
    record {
      told = record { agree = b.agree; are = subst (λ (n : ℕ). AreEntries v style layer base n 0 cells (entries_written layer cells.blocks leaves)) b.all r.are };
      next = record {
        trees = r.going.trees;
        planes = subst (λ (n : ℕ). n ≤ 255) (sym r.size.planes) b.planes;
        all = r.going.all;
        agree = subst (λ (u : Values). Agree after u) (same_written layers after cells leaves r.size) r.going.agree;
        settled = entries_settled v style layer base (length leaves) 0 cells (entries_written layer cells.blocks leaves) b.trees b.agree b.settled b.all r.are;
        fits = r.going.fits;
        told = r.going.done;
      };
      long = r.size.long;
    }

-- ---- the bands of a precinct before a layer
abbrev pub AreBandsAt : ℕ → ℕ → ℕ → ℕ → List Cells → List Leafed → Type 0
AreBandsAt style layers layer base [] leaves = leaves ≡ []
AreBandsAt style layers layer base (cells ∷ bands) leaves =
    IsBandAt style layers layer base cells (take (length cells.blocks) leaves) × AreBandsAt style layers layer (base + length cells.blocks) bands (drop (length cells.blocks) leaves)

parts_at-split : (layer n : ℕ) (leaves : List Leafed) → parts_at layer (take n leaves) ++ parts_at layer (drop n leaves) ≡ parts_at layer leaves
parts_at-split layer zero leaves = refl
parts_at-split layer (suc n) [] = refl
parts_at-split layer (suc n) (l ∷ ls) = append_assoc (parts_in layer l.parts) (parts_at layer (take n ls)) (parts_at layer (drop n ls)) ∙ ap (λ (ps : List HeaderPart). parts_in layer l.parts ++ ps) (parts_at-split layer n ls)

parts_written : (layer : ℕ) (blocks : List Known) (leaves : List Leafed) → length leaves ≡ length blocks → parts_told (entries_written layer blocks leaves) ≡ parts_at layer leaves
parts_written layer [] [] e = refl
parts_written layer [] (l ∷ ls) e = absurd (omega arith)
parts_written layer (k ∷ ks) [] e = absurd (omega arith)
parts_written layer (k ∷ ks) (l ∷ ls) e = ap (λ (ps : List HeaderPart). parts_in layer l.parts ++ ps) (parts_written layer ks ls (omega arith))

pub record BandsAgree (style layers layer base : ℕ) (bands : List Cells) (leaves : List Leafed) : Type 0 where
  pub told : AreBandsTold style layer base bands (bands_written layers layer bands leaves)
  pub next : AreBandsAt style layers (layer + 1) base (bands_after layer bands (bands_written layers layer bands leaves)) leaves
  pub parts : bands_parts (bands_written layers layer bands leaves) ≡ parts_at layer leaves

bands_agree : (style layers layer base : ℕ) (bands : List Cells) (leaves : List Leafed) → layers < 2 ^ 16 → layer < layers → AreBandsAt style layers layer base bands leaves → BandsAgree style layers layer base bands leaves
bands_agree style layers layer base [] leaves few small b = record { told = tt; next = b; parts = sym (ap (parts_at layer) b) }
bands_agree style layers layer base (cells ∷ bands) leaves few small b =
    let n = length cells.blocks in
    let mine = take n leaves in
    let one = band_agrees style layers layer base cells mine few small b.0 in
    let others = bands_agree style layers layer (base + n) bands (drop n leaves) few small b.1 in
    let after = band_after layer cells (band_written layers layer cells mine) in
    let behind = bands_after layer bands (bands_written layers layer bands (drop n leaves)) in
    record {
      told = (one.told, others.told);
      next = subst (λ (m : ℕ). IsBandAt style layers (layer + 1) base after (take m leaves) × AreBandsAt style layers (layer + 1) (base + m) behind (drop m leaves)) (sym one.long) (one.next, others.next);
      parts = ap (λ (ps : List HeaderPart). ps ++ bands_parts (bands_written layers layer bands (drop n leaves))) (parts_written layer cells.blocks mine b.0.all)
          ∙ ap (λ (ps : List HeaderPart). parts_at layer mine ++ ps) others.parts ∙ parts_at-split layer n leaves;
    }

-- ---- a layer in which no block contributes
some_none : (layer : ℕ) (leaves : List Leafed) (i : ℕ) → some_in layer leaves ≡ false → passes_of (parts_in layer (leaf_at leaves i).parts) ≡ 0
some_none layer [] i e = refl
some_none layer (l ∷ ls) zero e = let o = (or_parts (nat_lt 0 (passes_of (parts_in layer l.parts))) (some_in layer ls) e).0 in grind (arith, nat_tests)
some_none layer (l ∷ ls) (suc i) e = some_none layer ls i (or_parts (nat_lt 0 (passes_of (parts_in layer l.parts))) (some_in layer ls) e).1

some_take : (layer n : ℕ) (leaves : List Leafed) → some_in layer leaves ≡ false → some_in layer (take n leaves) ≡ false
some_take layer zero leaves e = refl
some_take layer (suc n) [] e = refl
some_take layer (suc n) (l ∷ ls) e =
    let o = or_parts (nat_lt 0 (passes_of (parts_in layer l.parts))) (some_in layer ls) e in
    ap (λ (b : Bool). b || some_in layer (take n ls)) o.0 ∙ some_take layer n ls o.1

some_drop : (layer n : ℕ) (leaves : List Leafed) → some_in layer leaves ≡ false → some_in layer (drop n leaves) ≡ false
some_drop layer zero leaves e = e
some_drop layer (suc n) [] e = refl
some_drop layer (suc n) (l ∷ ls) e = some_drop layer n ls (or_parts (nat_lt 0 (passes_of (parts_in layer l.parts))) (some_in layer ls) e).1

parts_none : (layer : ℕ) (leaves : List Leafed) → ((i : ℕ) → i < length leaves → parts_in layer (leaf_at leaves i).parts ≡ []) → parts_at layer leaves ≡ []
parts_none layer [] each = refl
parts_none layer (l ∷ ls) each = ap (λ (ps : List HeaderPart). ps ++ parts_at layer ls) (each 0 (omega arith)) ∙ parts_none layer ls (λ i lt. each (suc i) (omega arith))

pub record BandsStill (style layers layer base : ℕ) (bands : List Cells) (leaves : List Leafed) : Type 0 where
  pub next : AreBandsAt style layers (layer + 1) base bands leaves
  pub parts : parts_at layer leaves ≡ []

band_still : (style layers layer base : ℕ) (cells : Cells) (leaves : List Leafed) → some_in layer leaves ≡ false → IsBandAt style layers layer base cells leaves →
    IsBandAt style layers (layer + 1) base cells leaves × (parts_at layer leaves ≡ [])
band_still style layers layer base cells leaves e b = (
  record {
    trees = b.trees;
    planes = b.planes;
    all = b.all;
    agree = b.agree;
    settled = b.settled;
    fits = b.fits;
    told = λ i lt. told_still style layers layer cells.planes (base + i) (block_at cells i) (leaf_at leaves i) (some_none layer leaves i e) (b.fits i lt) (b.told i lt);
  },
  parts_none layer leaves (λ i lt.
      none_in layers (base + i) layer 0 0 (leaf_at leaves i).parts (fits_runs style layers cells.planes (base + i) (leaf_at leaves i).zero (leaf_at leaves i).parts (b.fits i lt).fits) (some_none layer leaves i e)),
)

bands_still : (style layers layer base : ℕ) (bands : List Cells) (leaves : List Leafed) → some_in layer leaves ≡ false → AreBandsAt style layers layer base bands leaves → BandsStill style layers layer base bands leaves
bands_still style layers layer base [] leaves e b = record { next = b; parts = ap (parts_at layer) b }
bands_still style layers layer base (cells ∷ bands) leaves e b =
    let n = length cells.blocks in
    let one = band_still style layers layer base cells (take n leaves) (some_take layer n leaves e) b.0 in
    let others = bands_still style layers layer (base + n) bands (drop n leaves) (some_drop layer n leaves e) b.1 in
    record {
      next = (one.0, others.next);
      parts = sym (parts_at-split layer n leaves) ∙ ap (λ (ps : List HeaderPart). ps ++ parts_at layer (drop n leaves)) one.1 ∙ others.parts;
    }

-- ---- a header
-- a precinct before a layer
pub record IsPrecinctAt (layers : ℕ) (leaves : List Leafed) (k : State) : Type 0 where
  pub few : layers < 2 ^ 16
  pub bands : AreBandsAt k.style layers k.layer 0 k.bands leaves

pub record HeaderAgrees (layers : ℕ) (leaves : List Leafed) (k : State) : Type 0 where
  pub told : IsToldOf k (header_written layers k leaves)
  pub next : IsPrecinctAt layers leaves (header_after k (header_written layers k leaves))
  pub parts : header_parts (header_written layers k leaves) ≡ parts_at k.layer leaves

pub header_agrees : (layers : ℕ) (leaves : List Leafed) (k : State) → k.layer < layers → IsPrecinctAt layers leaves k → HeaderAgrees layers leaves k
header_agrees layers leaves k small p = of (by (some_in k.layer leaves) refl)
  where
    written : List BandTold
    written = bands_written layers k.layer k.bands leaves

    by : (b : Bool) → some_in k.layer leaves ≡ b →
        MatchBool b (AreBandsTold k.style k.layer 0 k.bands (cond b (bands_written layers k.layer k.bands leaves) [])) (cond b (bands_written layers k.layer k.bands leaves) [] ≡ [])
        × AreBandsAt k.style layers (k.layer + 1) 0 (cond b (bands_after k.layer k.bands (cond b (bands_written layers k.layer k.bands leaves) [])) k.bands) leaves
        × (cond b (bands_parts (cond b (bands_written layers k.layer k.bands leaves) [])) [] ≡ parts_at k.layer leaves)
    by true e = let r = bands_agree k.style layers k.layer 0 k.bands leaves p.few small p.bands in (r.told, r.next, r.parts)
    by false e = let r = bands_still k.style layers k.layer 0 k.bands leaves e p.bands in (refl, r.next, sym r.parts)

    of : MatchBool (some_in k.layer leaves) (AreBandsTold k.style k.layer 0 k.bands (header_written layers k leaves).tolds) ((header_written layers k leaves).tolds ≡ [])
        × AreBandsAt k.style layers (k.layer + 1) 0 (header_after k (header_written layers k leaves)).bands leaves
        × (header_parts (header_written layers k leaves) ≡ parts_at k.layer leaves) → HeaderAgrees layers leaves k
    of r = record { told = r.0; next = record { few = p.few; bands = r.1 }; parts = r.2 }

-- ---- before the first layer
fits_at : (style layers planes block : ℕ) (leaves : List Leafed) → FitBand style layers planes block leaves → AllShort leaves → (i : ℕ) → i < length leaves → IsFit style layers planes (block + i) (leaf_at leaves i)
fits_at style layers planes block [] f s i lt = absurd (omega arith)
fits_at style layers planes block (l ∷ ls) f s zero lt =
    let e : block ≡ block + 0 = omega arith in
    subst (λ (n : ℕ). IsFit style layers planes n l) e (record { fits = f.0; short = s.0 })
fits_at style layers planes block (l ∷ ls) f s (suc i) lt =
    let e : block + 1 + i ≡ block + suc i = omega arith in
    subst (λ (n : ℕ). IsFit style layers planes n (leaf_at ls i)) e (fits_at style layers planes (block + 1) ls f.1 s.1 i (omega arith))

short_take : (n : ℕ) (leaves : List Leafed) → AllShort leaves → AllShort (take n leaves)
short_take zero leaves s = tt
short_take (suc n) [] s = tt
short_take (suc n) (l ∷ ls) s = (s.0, short_take n ls s.1)

short_drop : (n : ℕ) (leaves : List Leafed) → AllShort leaves → AllShort (drop n leaves)
short_drop zero leaves s = s
short_drop (suc n) [] s = tt
short_drop (suc n) (l ∷ ls) s = short_drop n ls s.1

fresh_band_at : (style layers base : ℕ) (b : BandCells) (leaves : List Leafed) → IsBandCells b → 0 < b.wide → b.wide * b.high ≤ most_blocks → length leaves ≡ b.wide * b.high → FitBand style layers b.planes base leaves → AllShort leaves →
    IsBandAt style layers 0 base (fresh_cells b) leaves
fresh_band_at style layers base b leaves is lt few all f s =
    let shape : IsShape b.wide b.high = record { some = some_cells b is lt; few = few } in
    let first : Leafed → ℕ = λ (l : Leafed). first_layer layers l.parts in
    let zeros : Leafed → ℕ = λ (l : Leafed). zero_leaf b.planes l.zero l.parts in
    record {
      trees = (fresh_is b is lt few).trees;
      planes = is.planes;
      all = all ∙ sym (length-replicate (b.wide * b.high) unknown_block);
      agree = record {
        in_first = fresh_values b.wide b.high (least_leaf b.wide b.high (first_leaves layers leaves)) (least_are_values b.wide b.high (first_leaves layers leaves) shape (length-map leaves first ∙ all));
        in_zeros = fresh_values b.wide b.high (least_leaf b.wide b.high (zero_leaves b.planes leaves)) (least_are_values b.wide b.high (zero_leaves b.planes leaves) shape (length-map leaves zeros ∙ all));
      };
      settled = (fresh_is b is lt few).settled;
      fits = fits_at style layers b.planes base leaves f s;
      told = λ i lt'. subst (λ (k : Known). IsTold 0 k (leaf_at leaves i)) (sym (unknown_at (b.wide * b.high) i)) (nothing_told (leaf_at leaves i));
    }

fresh_bands_at : (style layers base : ℕ) (bands : List BandCells) (leaves : List Leafed) → AreBandCells bands → cells_in bands ≤ most_blocks → length leaves ≡ cells_in bands → FitBands style layers base bands leaves → AllShort leaves →
    AreBandsAt style layers 0 base (fresh_bands bands) leaves
fresh_bands_at style layers base [] [] a few all f s = refl
fresh_bands_at style layers base [] (l ∷ ls) a few all f s = absurd (omega arith)
fresh_bands_at style layers base (b ∷ bs) leaves a few all f s =
    let n = b.wide * b.high in
    let left : length (drop n leaves) ≡ length leaves - n = length-drop n leaves in
    by (b.wide == 0) refl (fresh_bands_at style layers (base + n) bs (drop n leaves) a.1 (omega arith) (omega arith) f.1 (short_drop n leaves s))
  where
    by : (c : Bool) → (b.wide == 0) ≡ c → AreBandsAt style layers 0 (base + b.wide * b.high) (fresh_bands bs) (drop (b.wide * b.high) leaves) →
        AreBandsAt style layers 0 base (cond c (fresh_bands bs) (fresh_cells b ∷ fresh_bands bs)) leaves
    by true e again =
        let z : b.wide ≡ 0 = grind (arith, nat_tests) in
        let none : b.wide * b.high ≡ 0 = ap (λ (n : ℕ). n * b.high) z ∙ (let z : 0 * b.high ≡ 0 = omega arith in z) in
        let start : base + 0 ≡ base = omega arith in
        subst (λ (n : ℕ). AreBandsAt style layers 0 n (fresh_bands bs) leaves) start (subst (λ (n : ℕ). AreBandsAt style layers 0 (base + n) (fresh_bands bs) (drop n leaves)) none again)
    by false e again =
        let n = b.wide * b.high in
        let lt : 0 < b.wide = grind (arith, nat_tests) in
        let long : n ≡ length (replicate n unknown_block) = sym (length-replicate n unknown_block) in
        let front : length (take n leaves) ≡ min n (length leaves) = length-take n leaves in
        let here : IsBandAt style layers 0 base (fresh_cells b) (take n leaves) = fresh_band_at style layers base b (take n leaves) a.0 lt (omega arith) (omega arith) f.0 (short_take n leaves s) in
        subst (λ (m : ℕ). IsBandAt style layers 0 base (fresh_cells b) (take m leaves) × AreBandsAt style layers 0 (base + m) (fresh_bands bs) (drop m leaves)) long (here, again)

-- ---- layer after layer
pub precinct_at : (layers style layer : ℕ) (bands : List BandCells) (leaves : List Leafed) → CellsInRange bands → LeavesFit style layers bands leaves → InTypes layers leaves → layer ≤ layers →
    IsPrecinctAt layers leaves (state_at layers style bands leaves layer)
precinct_at layers style zero bands leaves r f t le = record { few = t.few; bands = fresh_bands_at style layers 0 bands leaves r.each r.few f.all f.each t.short }
precinct_at layers style (suc layer) bands leaves r f t le =
    let is : (state_at layers style bands leaves layer).layer ≡ layer = (state_is layers style bands leaves layer).1 in
    (header_agrees layers leaves (state_at layers style bands leaves layer) (omega arith) (precinct_at layers style layer bands leaves r f t (omega arith))).next

pub leaves_agree : (layers style layer : ℕ) (bands : List BandCells) (leaves : List Leafed) → CellsInRange bands → LeavesFit style layers bands leaves → InTypes layers leaves → layer < layers →
    HeaderAgrees layers leaves (state_at layers style bands leaves layer)
leaves_agree layers style layer bands leaves r f t lt =
    let is : (state_at layers style bands leaves layer).layer ≡ layer = (state_is layers style bands leaves layer).1 in
    header_agrees layers leaves (state_at layers style bands leaves layer) (omega arith) (precinct_at layers style layer bands leaves r f t (omega arith))

-- it is a precinct that may be read
band_read : (style layers layer base : ℕ) (cells : Cells) (leaves : List Leafed) → IsBandAt style layers layer base cells leaves → IsBand cells
band_read style layers layer base cells leaves b = record {
  trees = b.trees;
  planes = b.planes;
  blocks = λ i. elim (cases_lt i (length leaves)) [
    | inl lt ↦ told_known style layers layer cells.planes (base + i) (block_at cells i) (leaf_at leaves i) b.planes (b.fits i lt) (b.told i lt)
    | inr ge ↦ subst IsKnown (sym (get_or_past cells.blocks i unknown_block (let e : length leaves ≡ length cells.blocks = b.all in omega arith))) (record { passes = omega arith; lblock = omega arith })
  ];
  settled = b.settled;
}

bands_read : (style layers layer base : ℕ) (bands : List Cells) (leaves : List Leafed) → AreBandsAt style layers layer base bands leaves → AreBands bands × (length (all_blocks bands) ≡ length leaves)
bands_read style layers layer base [] leaves b = (tt, sym (ap (λ (l : List Leafed). length l) b))
bands_read style layers layer base (cells ∷ bands) leaves b =
    let n = length cells.blocks in
    let others = bands_read style layers layer (base + n) bands (drop n leaves) b.1 in
    let front : length (take n leaves) ≡ n = b.0.all in
    let taken : length (take n leaves) ≡ min n (length leaves) = length-take n leaves in
    let left : length (drop n leaves) ≡ length leaves - n = length-drop n leaves in
    let same : length (all_blocks bands) ≡ length (drop n leaves) = others.1 in
    let sum : length (cells.blocks ++ all_blocks bands) ≡ n + length (all_blocks bands) = length-append cells.blocks (all_blocks bands) in
    ((band_read style layers layer base cells (take n leaves) b.0, others.0), omega arith)

pub written_state : (layers style layer : ℕ) (bands : List BandCells) (leaves : List Leafed) → CellsInRange bands → LeavesFit style layers bands leaves → InTypes layers leaves → layer ≤ layers →
    IsState (state_at layers style bands leaves layer)
written_state layers style layer bands leaves r f t le =
    let k = state_at layers style bands leaves layer in
    let p = precinct_at layers style layer bands leaves r f t le in
    let b = bands_read k.style layers k.layer 0 k.bands leaves p.bands in
    let long : length (all_blocks k.bands) ≡ length leaves = b.1 in
    let all : length leaves ≡ cells_in bands = f.all in
    let few : cells_in bands ≤ most_blocks = r.few in
    record { bands = b.0; few = omega arith }

-- ---- it is read back
pub written_is_read : (layers style layer : ℕ) (bands : List BandCells) (leaves : List Leafed) (rest : List ℕ) → CellsInRange bands → LeavesFit style layers bands leaves → InTypes layers leaves → layer < layers →
    IsOneReading (header_at layers style bands leaves layer ++ rest) (state_at layers style bands leaves layer) (parts_at layer leaves) (length (header_at layers style bands leaves layer)) (state_at layers style bands leaves (layer + 1))
written_is_read layers style layer bands leaves rest r f t lt =
    let k = state_at layers style bands leaves layer in
    let h = header_written layers k leaves in
    let bytes = header_at layers style bands leaves layer in
    let a = leaves_agree layers style layer bands leaves r f t lt in
    let parts : header_parts h ≡ parts_at layer leaves = a.parts ∙ ap (λ (n : ℕ). parts_at n leaves) (state_is layers style bands leaves layer).1 in
    let next : suc layer ≡ layer + 1 = omega arith in
    let after : header_after k h ≡ state_at layers style bands leaves (layer + 1) = ap (state_at layers style bands leaves) next in
    let stands : IsPacket (bytes ++ rest) k (parts_at layer leaves) (length bytes) (state_at layers style bands leaves (layer + 1)) =
    subst (λ (s : State). IsPacket (bytes ++ rest) k (parts_at layer leaves) (length bytes) s) after
    (subst (λ (ps : List HeaderPart). IsPacket (bytes ++ rest) k ps (length bytes) (header_after k h)) parts (stands_there k h rest a.told)) in
    record {
      stands = stands;
      only = λ others ends others_after p.
          one_header (bytes ++ rest) k others (parts_at layer leaves) ends (length bytes) others_after (state_at layers style bands leaves (layer + 1)) (written_state layers style layer bands leaves r f t (omega arith)).bands p stands;
    }

-- the next header of a precinct that is written
pub plan_is_read : (p new : Plan) (layer : ℕ) (bytes places rest : List ℕ) → IsPlan p.layers p.style p.bands p.leaves bytes places → LeavesFit p.style p.layers p.bands p.leaves → p.next ≡ layer → layer < p.layers →
    new ≡ record p { next = p.next + 1 } → IsOneReading (next_header p ++ rest) (state_of p) (parts_at layer p.leaves) (length (next_header p)) (state_of new)
plan_is_read p new layer bytes places rest is fit next lt after =
    let r = written_is_read p.layers p.style p.next p.bands p.leaves rest is.cells fit is.types (omega arith) in
    subst (λ (q : Plan). IsOneReading (next_header p ++ rest) (state_of p) (parts_at layer p.leaves) (length (next_header p)) (state_of q)) (sym after)
    (subst (λ (n : ℕ). IsOneReading (next_header p ++ rest) (state_of p) (parts_at n p.leaves) (length (next_header p)) (state_at p.layers p.style p.bands p.leaves (p.next + 1))) next r)
