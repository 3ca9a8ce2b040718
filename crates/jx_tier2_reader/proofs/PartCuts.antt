-- The parts of a block in one packet are cut exactly after each pass that ends a segment.
use Rattle.std.proofs.Common.{◌≡◌, ℕ, ◌+◌, ◌-◌, ◌<◌, ◌≤◌, Bool, true, false, List, [], ◌∷◌, ◌++◌, length, map, refl, sym, ap, ◌∙◌, subst, cond, arith, inl, inr, MatchBool, length-append}
use Rattle.std.proofs.lemmas.Bool.{cases_lt, cases_eq}
use Rattle.jx_packet_header.specs.declared.HeaderPart.{HeaderPart}
use Rattle.jx_packet_header.specs.declared.known.Known.{Known}
use Rattle.jx_packet_header.specs.Parts.{cut, AreHeaderParts}
use Rattle.jx_packet_header.specs.Written.{passes_of}
use Rattle.jx_packet_header.specs.Packet.{Cells, State, Values, Entry, nothing, contributes, block_at, unknown_block, IsIncluded, zero_planes, entry_after, IsEntry, AreEntries, parts_told, BandTold, AreBandsTold, bands_parts, Header, IsPacket}
use Rattle.jx_packet_header.specs.Precinct.{all_blocks}
use Rattle.jx_packet_header.proofs.FreshLemmas.{block_left, block_right}
use Rattle.jx_tier2_reader.proofs.PartLemmas.{own_parts, known_in, AreWithin, Goes, steps_from, cut_runs, own_none, own_left, own_right, entry_within, blocks_within, bands_within, own_all as own_same}
use Rattle.jx_tier2_reader.proofs.FewLemmas.{steps_sum as steps_all}
use Rattle.jx_packet_header.proofs.WriteLemmas.{other_same as other_known}

-- ---- the parts of a packet
-- parts from a pass on that are cut at the ends of segments
abbrev pub Cuts : ℕ → ℕ → List HeaderPart → Type 0
Cuts style first ps = map (λ (p : HeaderPart). p.passes) ps ≡ cut style first (passes_of ps)

runs_are : (lblock block first : ℕ) (runs : List ℕ) (ps : List HeaderPart) → AreHeaderParts lblock block first runs ps → map (λ (p : HeaderPart). p.passes) ps ≡ runs
runs_are lblock block first [] [] a = refl
runs_are lblock block first [] (p ∷ ps) a = absurd a
runs_are lblock block first (run ∷ runs) [] a = absurd a
runs_are lblock block first (run ∷ runs) (p ∷ ps) a =
    ap (λ (n : ℕ). n ∷ map (λ (q : HeaderPart). q.passes) ps) a.0.has ∙ ap (λ (ns : List ℕ). run ∷ ns) (runs_are lblock block (first + run) runs ps a.1)

entry_cut : (v : Values) (style layer block leaf : ℕ) (cells : Cells) (e : Entry) → IsEntry v style layer block leaf cells e → Cuts style (block_at cells leaf).passes e.parts
entry_cut v style layer block leaf cells e is = by (contributes e) is.told
  where
    by : (c : Bool) → MatchBool c (IsIncluded style block cells.planes (zero_planes (block_at cells leaf).zero v.zeros leaf) (block_at cells leaf) e) (e ≡ nothing) → Cuts style (block_at cells leaf).passes e.parts
    by true h =
        let known = block_at cells leaf in
        let all : known.passes + passes_of e.parts ≡ known.passes + e.passes = steps_all style known.passes (known.passes + e.passes) e.parts
        (steps_from style (known.lblock + e.raise) block known.passes (known.passes + e.passes) (cut style known.passes e.passes) e.parts h.parts (cut_runs style known.passes e.passes)) in
        let same : e.passes ≡ passes_of e.parts = omega arith in
        runs_are (known.lblock + e.raise) block known.passes (cut style known.passes e.passes) e.parts h.parts ∙ ap (cut style known.passes) same
    by false n = subst (λ (x : Entry). Cuts style (block_at cells leaf).passes x.parts) (sym n) refl

blocks_cut : (v : Values) (style layer base stop leaf j : ℕ) (cells : Cells) (es : List Entry) → AreEntries v style layer base stop leaf cells es → leaf ≤ j → j < stop
    → Cuts style (block_at cells j).passes (own_parts (base + j) (parts_told es))
blocks_cut v style layer base stop leaf j cells [] are ge lt = absurd (let e : leaf ≡ stop = are in omega arith)
blocks_cut v style layer base stop leaf j cells (e ∷ es) are ge lt = elim (cases_eq j leaf) [
  | inl same ↦
      let none : own_parts (base + leaf) (parts_told es) ≡ [] = own_none (base + (leaf + 1)) (base + stop) (base + leaf) (parts_told es)
      (blocks_within v style layer base stop (leaf + 1) (entry_after v layer leaf cells e) es are.2) (inl (omega arith)) in
      let own : e.parts ≡ own_parts (base + leaf) (e.parts ++ parts_told es) =
      sym (own_same (base + leaf) e.parts (entry_within v style layer (base + leaf) leaf cells e are.1)) ∙ own_left (base + leaf) e.parts (parts_told es) none in
      subst (λ (n : ℕ). Cuts style (block_at cells n).passes (own_parts (base + n) (e.parts ++ parts_told es))) (sym same)
      (subst (Cuts style (block_at cells leaf).passes) own (entry_cut v style layer (base + leaf) leaf cells e are.1))
  | inr ne ↦
      let none : own_parts (base + j) e.parts ≡ [] =
      own_none (base + leaf) (base + leaf + 1) (base + j) e.parts (entry_within v style layer (base + leaf) leaf cells e are.1) (inr (let other : j ≡ leaf → ⊥ = ne in omega (arith, other))) in
      subst (Cuts style (block_at cells j).passes) (own_right (base + j) e.parts (parts_told es) none)
      (subst (λ (n : ℕ). Cuts style n (own_parts (base + j) (parts_told es))) (ap (λ (x : Known). x.passes) (other_known v layer leaf j cells e ne))
      (blocks_cut v style layer base stop (leaf + 1) j (entry_after v layer leaf cells e) es are.2 (let other : j ≡ leaf → ⊥ = ne in omega (arith, other)) lt))
]

bands_cut : (style layer base j : ℕ) (bands : List Cells) (tolds : List BandTold) → AreBandsTold style layer base bands tolds → j < length (all_blocks bands)
    → Cuts style (known_in bands j).passes (own_parts (base + j) (bands_parts tolds))
bands_cut style layer base j [] [] are lt = absurd (omega arith)
bands_cut style layer base j [] (told ∷ tolds) are lt = absurd are
bands_cut style layer base j (cells ∷ bands) [] are lt = absurd are
bands_cut style layer base j (cells ∷ bands) (told ∷ tolds) are lt =
    let n : ℕ = length cells.blocks in
    let sum : length (cells.blocks ++ all_blocks bands) ≡ n + length (all_blocks bands) = length-append cells.blocks (all_blocks bands) in
    let first : AreWithin (base + 0) (base + n) (parts_told told.entries) = blocks_within told.values style layer base n 0 cells told.entries are.0.are in
    let later : AreWithin (base + n) (base + n + length (all_blocks bands)) (bands_parts tolds) = bands_within style layer (base + n) bands tolds are.1 in
    elim (cases_lt j n) [
      | inl here ↦
          let none : own_parts (base + j) (bands_parts tolds) ≡ [] = own_none (base + n) (base + n + length (all_blocks bands)) (base + j) (bands_parts tolds) later (inl (omega arith)) in
          let known : known_in (cells ∷ bands) j ≡ block_at cells j = block_left cells.blocks (all_blocks bands) j unknown_block here in
          subst (λ (x : Known). Cuts style x.passes (own_parts (base + j) (parts_told told.entries ++ bands_parts tolds))) (sym known)
          (subst (Cuts style (block_at cells j).passes) (own_left (base + j) (parts_told told.entries) (bands_parts tolds) none)
          (blocks_cut told.values style layer base n 0 j cells told.entries are.0.are (omega arith) here))
      | inr past ↦
          let at : base + n + (j - n) ≡ base + j = omega arith in
          let none : own_parts (base + j) (parts_told told.entries) ≡ [] = own_none (base + 0) (base + n) (base + j) (parts_told told.entries) first (inr (omega arith)) in
          let known : known_in (cells ∷ bands) j ≡ known_in bands (j - n) = block_right cells.blocks (all_blocks bands) j unknown_block past in
          subst (λ (x : Known). Cuts style x.passes (own_parts (base + j) (parts_told told.entries ++ bands_parts tolds))) (sym known)
          (subst (Cuts style (known_in bands (j - n)).passes) (own_right (base + j) (parts_told told.entries) (bands_parts tolds) none)
          (subst (λ (i : ℕ). Cuts style (known_in bands (j - n)).passes (own_parts i (bands_parts tolds))) at (bands_cut style layer (base + n) (j - n) bands tolds are.1 (omega arith))))
    ]

header_cut : (k : State) (h : Header) (j : ℕ) (c : Bool) → MatchBool c (AreBandsTold k.style k.layer 0 k.bands h.tolds) (h.tolds ≡ []) → j < length (all_blocks k.bands)
    → Cuts k.style (known_in k.bands j).passes (own_parts j (cond c (bands_parts h.tolds) []))
header_cut k h j true is lt =
    let e : 0 + j ≡ j = omega arith in
    subst (λ (i : ℕ). Cuts k.style (known_in k.bands j).passes (own_parts i (bands_parts h.tolds))) e (bands_cut k.style k.layer 0 j k.bands h.tolds is lt)
header_cut k h j false is lt = refl

pub packet_cut : (bytes : List ℕ) (k : State) (parts : List HeaderPart) (used : ℕ) (after : State) → IsPacket bytes k parts used after → (j : ℕ) → j < length (all_blocks k.bands)
    → Cuts k.style (known_in k.bands j).passes (own_parts j parts)
packet_cut bytes k parts used after p j lt = subst (λ (l : List HeaderPart). Cuts k.style (known_in k.bands j).passes (own_parts j l)) (sym p.parts_are) (header_cut k p.header j p.header.some p.is lt)

-- how many passes a block has after a packet
pub goes_on : (style planes : ℕ) (own : List HeaderPart) (old new : Known) → Goes style planes own old new → new.passes ≡ old.passes + passes_of own
goes_on style planes own old new (inl none) =
    let a : new.passes ≡ old.passes = ap (λ (x : Known). x.passes) none.1 in
    let b : passes_of own ≡ 0 = ap (λ (l : List HeaderPart). passes_of l) none.0 in
    omega arith
goes_on style planes own old new (inr some) = sym (steps_all style old.passes new.passes own some.steps)
