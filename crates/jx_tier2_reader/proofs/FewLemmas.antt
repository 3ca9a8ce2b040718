-- One packet has at most 164 passes of a block.
use Rattle.std.proofs.Common.{◌≡◌, ℕ, ◌+◌, ◌≤◌, ◌==◌, Bool, true, false, List, [], ◌∷◌, ◌++◌, length, drop, take, refl, sym, ap, ◌∙◌, subst, cond, arith, inl, inr, MatchBool}
use Rattle.std.specs.List.{AllByRecursion, filter}
use Rattle.std.proofs.lemmas.Bool.{cases_lt, cases_eq, eq-eqb, ne_eqb, cond-true, cond-false}
use Rattle.jx_base.specs.Pieces.{PieceValue, passes_at}
use Rattle.jx_geom.specs.Geometry.{Geometry}
use Rattle.jx_packet_header.specs.declared.HeaderPart.{HeaderPart}
use Rattle.jx_packet_header.specs.Parts.{cut}
use Rattle.jx_packet_header.specs.Written.{passes_of}
use Rattle.jx_packet_header.specs.Packet.{Cells, State, Values, Entry, nothing, contributes, block_at, IsIncluded, zero_planes, entry_after, IsEntry, AreEntries, parts_told, BandTold, AreBandsTold, bands_parts, Header, IsPacket}
use Rattle.jx_packet_header.specs.Precinct.{all_blocks}
use Rattle.jx_progression.specs.declared.names.PacketName.{PacketName}
use Rattle.jx_geom.specs.Precincts.{leaf_number}
use Rattle.jx_tier2_reader.specs.Blocks.{FoundPiece, zero_in, founds_from, own_founds, pieces_in}
use Rattle.jx_tier2_reader.proofs.PartLemmas.{own_parts, AreSteps, AreWithin, steps_from, cut_runs, own_none, own_left, own_right, entry_within, blocks_within, bands_within}
use Rattle.jx_tier2_reader.proofs.GrowLemmas.{Apart}

-- ---- parts
pub steps_sum : (style first last : ℕ) (ps : List HeaderPart) → AreSteps style first last ps → first + passes_of ps ≡ last
steps_sum style first last [] a = let e : first ≡ last = a in omega arith
steps_sum style first last (p ∷ ps) a = let e : first + p.passes + passes_of ps ≡ last = steps_sum style (first + p.passes) last ps a.1 in omega arith

own_fewer : (i : ℕ) (ps : List HeaderPart) → passes_of (own_parts i ps) ≤ passes_of ps
own_fewer i [] = omega arith
own_fewer i (p ∷ ps) = by (p.block == i) (own_fewer i ps)
  where
    by : (c : Bool) → passes_of (own_parts i ps) ≤ passes_of ps → passes_of (cond c (p ∷ own_parts i ps) (own_parts i ps)) ≤ p.passes + passes_of ps
    by true h = omega arith
    by false h = omega arith

-- at most 164 passes of each block
abbrev Few : List HeaderPart → Type 0
Few ps = (i : ℕ) → passes_of (own_parts i ps) ≤ 164

few_none : Few []
few_none i = omega arith

few_append : (low mid high : ℕ) (ps qs : List HeaderPart) → AreWithin low mid ps → AreWithin mid high qs → Few ps → Few qs → Few (ps ++ qs)
few_append low mid high ps qs a b f g i = elim (cases_lt i mid) [
  | inl lt ↦ subst (λ (l : List HeaderPart). passes_of l ≤ 164) (own_left i ps qs (own_none mid high i qs b (inl lt))) (f i)
  | inr ge ↦ subst (λ (l : List HeaderPart). passes_of l ≤ 164) (own_right i ps qs (own_none low mid i ps a (inr ge))) (g i)
]

-- ---- a header
entry_few : (v : Values) (style layer block leaf : ℕ) (cells : Cells) (e : Entry) → IsEntry v style layer block leaf cells e → Few e.parts
entry_few v style layer block leaf cells e is i = by (contributes e) is.told
  where
    by : (c : Bool) → MatchBool c (IsIncluded style block cells.planes (zero_planes (block_at cells leaf).zero v.zeros leaf) (block_at cells leaf) e) (e ≡ nothing) → passes_of (own_parts i e.parts) ≤ 164
    by true h =
        let known = block_at cells leaf in
        let all : known.passes + passes_of e.parts ≡ known.passes + e.passes = steps_sum style known.passes (known.passes + e.passes) e.parts
        (steps_from style (known.lblock + e.raise) block known.passes (known.passes + e.passes) (cut style known.passes e.passes) e.parts h.parts (cut_runs style known.passes e.passes)) in
        let most : e.passes ≤ 164 = h.count.few in
        let fewer : passes_of (own_parts i e.parts) ≤ passes_of e.parts = own_fewer i e.parts in
        omega arith
    by false n = subst (λ (x : Entry). passes_of (own_parts i x.parts) ≤ 164) (sym n) (few_none i)

blocks_few : (v : Values) (style layer base stop leaf : ℕ) (cells : Cells) (es : List Entry) → AreEntries v style layer base stop leaf cells es → Few (parts_told es)
blocks_few v style layer base stop leaf cells [] are = few_none
blocks_few v style layer base stop leaf cells (e ∷ es) are =
    let next : base + (leaf + 1) ≡ base + leaf + 1 = omega arith in
    few_append (base + leaf) (base + leaf + 1) (base + stop) e.parts (parts_told es) (entry_within v style layer (base + leaf) leaf cells e are.1)
    (subst (λ (n : ℕ). AreWithin n (base + stop) (parts_told es)) next (blocks_within v style layer base stop (leaf + 1) (entry_after v layer leaf cells e) es are.2))
    (entry_few v style layer (base + leaf) leaf cells e are.1) (blocks_few v style layer base stop (leaf + 1) (entry_after v layer leaf cells e) es are.2)

bands_few : (style layer base : ℕ) (bands : List Cells) (tolds : List BandTold) → AreBandsTold style layer base bands tolds → Few (bands_parts tolds)
bands_few style layer base [] [] are = few_none
bands_few style layer base [] (told ∷ tolds) are = absurd are
bands_few style layer base (cells ∷ bands) [] are = absurd are
bands_few style layer base (cells ∷ bands) (told ∷ tolds) are =
    few_append (base + 0) (base + length cells.blocks) (base + length cells.blocks + length (all_blocks bands)) (parts_told told.entries) (bands_parts tolds)
    (blocks_within told.values style layer base (length cells.blocks) 0 cells told.entries are.0.are)
    (bands_within style layer (base + length cells.blocks) bands tolds are.1)
    (blocks_few told.values style layer base (length cells.blocks) 0 cells told.entries are.0.are)
    (bands_few style layer (base + length cells.blocks) bands tolds are.1)

header_few : (k : State) (h : Header) (c : Bool) → MatchBool c (AreBandsTold k.style k.layer 0 k.bands h.tolds) (h.tolds ≡ []) → Few (cond c (bands_parts h.tolds) [])
header_few k h true is = bands_few k.style k.layer 0 k.bands h.tolds is
header_few k h false is = few_none

pub packet_few : (bytes : List ℕ) (k : State) (parts : List HeaderPart) (used : ℕ) (after : State) → IsPacket bytes k parts used after → (i : ℕ) → passes_of (own_parts i parts) ≤ 164
packet_few bytes k parts used after p i = subst (λ (l : List HeaderPart). passes_of (own_parts i l) ≤ 164) (sym p.parts_are) (header_few k p.header p.header.some p.is i)

-- ---- the pieces of a packet
pub passes_cons : (layer : ℕ) (p : PieceValue) (ps : List PieceValue) → p.layer ≡ layer → passes_at layer (p ∷ ps) ≡ p.passes + passes_at layer ps
passes_cons layer p ps e = cond-true (p.layer == layer) (p.passes + passes_at layer ps) (passes_at layer ps) (eq-eqb p.layer layer e)

pub passes_past : (layer : ℕ) (p : PieceValue) (ps : List PieceValue) → (p.layer ≡ layer → ⊥) → passes_at layer (p ∷ ps) ≡ passes_at layer ps
passes_past layer p ps ne = cond-false (p.layer == layer) (p.passes + passes_at layer ps) (passes_at layer ps) (ne_eqb p.layer layer ne)

pub passes_join : (layer : ℕ) (ps qs : List PieceValue) → passes_at layer (ps ++ qs) ≡ passes_at layer ps + passes_at layer qs
passes_join layer [] qs = omega arith
passes_join layer (p ∷ ps) qs = elim (cases_eq p.layer layer) [
  | inl e ↦ omega (arith, passes_cons layer p (ps ++ qs) e, passes_cons layer p ps e, passes_join layer ps qs)
  | inr ne ↦ omega (arith, passes_past layer p (ps ++ qs) ne, passes_past layer p ps ne, passes_join layer ps qs)
]

-- pieces of other layers have none
pub passes_none : (layer : ℕ) (ps : List PieceValue) → AllByRecursion (λ (p : PieceValue). p.layer ≡ layer → ⊥) ps → passes_at layer ps ≡ 0
passes_none layer [] a = refl
passes_none layer (p ∷ ps) a = passes_past layer p ps a.0 ∙ passes_none layer ps a.1

passes_less : (layer : ℕ) (p : PieceValue) (ps : List PieceValue) → passes_at layer (p ∷ ps) ≤ p.passes + passes_at layer ps
passes_less layer p ps = elim (cases_eq p.layer layer) [
  | inl e ↦ omega (arith, passes_cons layer p ps e)
  | inr ne ↦ omega (arith, passes_past layer p ps ne)
]

pub own_here : (number : ℕ) (f : FoundPiece) (fs : List FoundPiece) → f.number ≡ number → own_founds number (f ∷ fs) ≡ f ∷ own_founds number fs
unfolding own_founds
own_here number f fs e = cond-true (f.number == number) (f ∷ filter (λ (x : FoundPiece). x.number == number) fs) (filter (λ (x : FoundPiece). x.number == number) fs) (eq-eqb f.number number e)

pub own_past : (number : ℕ) (f : FoundPiece) (fs : List FoundPiece) → (f.number ≡ number → ⊥) → own_founds number (f ∷ fs) ≡ own_founds number fs
unfolding own_founds
own_past number f fs ne = cond-false (f.number == number) (f ∷ filter (λ (x : FoundPiece). x.number == number) fs) (filter (λ (x : FoundPiece). x.number == number) fs) (ne_eqb f.number number ne)

pub own_nothing : (number : ℕ) → own_founds number [] ≡ []
unfolding own_founds
own_nothing number = refl

abbrev pub found_from : Geometry → PacketName → State → List ℕ → HeaderPart → FoundPiece
found_from g p k bytes q = record {
  number = leaf_number g p.comp p.res p.precinct q.block;
  zero = zero_in k q.block;
  piece = record { layer = p.layer; first = q.first; passes = q.passes; bytes = take q.length bytes };
}

pub founds_few : (g : Geometry) (p : PacketName) (k : State) (j layer : ℕ) (bytes : List ℕ) (parts : List HeaderPart) → Apart g p (leaf_number g p.comp p.res p.precinct j) j parts
    → passes_at layer (pieces_in (own_founds (leaf_number g p.comp p.res p.precinct j) (founds_from g p k bytes parts))) ≤ passes_of (own_parts j parts)
founds_few g p k j layer bytes [] apart =
    let e : passes_at layer (pieces_in (own_founds (leaf_number g p.comp p.res p.precinct j) [])) ≡ 0 = ap (λ (l : List FoundPiece). passes_at layer (pieces_in l)) (own_nothing (leaf_number g p.comp p.res p.precinct j)) in
    omega arith
founds_few g p k j layer bytes (q ∷ parts) apart =
    let number : ℕ = leaf_number g p.comp p.res p.precinct j in
    let f : FoundPiece = found_from g p k bytes q in
    let later : List FoundPiece = founds_from g p k (drop q.length bytes) parts in
    let own : List FoundPiece = own_founds number later in
    let again : passes_at layer (pieces_in own) ≤ passes_of (own_parts j parts) = founds_few g p k j layer (drop q.length bytes) parts apart.1 in
    elim (cases_eq q.block j) [
      | inl e ↦
          let here : passes_at layer (pieces_in (own_founds number (f ∷ later))) ≡ passes_at layer (f.piece ∷ pieces_in own) =
          ap (λ (l : List FoundPiece). passes_at layer (pieces_in l)) (own_here number f later (ap (leaf_number g p.comp p.res p.precinct) e)) in
          let less : passes_at layer (f.piece ∷ pieces_in own) ≤ q.passes + passes_at layer (pieces_in own) = passes_less layer f.piece (pieces_in own) in
          let parts_are : passes_of (own_parts j (q ∷ parts)) ≡ q.passes + passes_of (own_parts j parts) =
          ap (λ (l : List HeaderPart). passes_of l) (cond-true (q.block == j) (q ∷ own_parts j parts) (own_parts j parts) (eq-eqb q.block j e)) in
          omega arith
      | inr ne ↦
          let here : passes_at layer (pieces_in (own_founds number (f ∷ later))) ≡ passes_at layer (pieces_in own) =
          ap (λ (l : List FoundPiece). passes_at layer (pieces_in l)) (own_past number f later (λ (e : f.number ≡ number). ne (apart.0 e))) in
          let parts_are : passes_of (own_parts j (q ∷ parts)) ≡ passes_of (own_parts j parts) =
          ap (λ (l : List HeaderPart). passes_of l) (cond-false (q.block == j) (q ∷ own_parts j parts) (own_parts j parts) (ne_eqb q.block j ne)) in
          omega arith
    ]

-- they are all of its layer
pub founds_layer : (g : Geometry) (p : PacketName) (k : State) (number : ℕ) (bytes : List ℕ) (parts : List HeaderPart)
    → AllByRecursion (λ (f : PieceValue). f.layer ≡ p.layer) (pieces_in (own_founds number (founds_from g p k bytes parts)))
founds_layer g p k number bytes [] = subst (λ (l : List FoundPiece). AllByRecursion (λ (f : PieceValue). f.layer ≡ p.layer) (pieces_in l)) (sym (own_nothing number)) tt
founds_layer g p k number bytes (q ∷ parts) =
    let f : FoundPiece = found_from g p k bytes q in
    let later : List FoundPiece = founds_from g p k (drop q.length bytes) parts in
    let again = founds_layer g p k number (drop q.length bytes) parts in
    let P : List FoundPiece → Type 0 = λ l. AllByRecursion (λ (f : PieceValue). f.layer ≡ p.layer) (pieces_in l) in
    elim (cases_eq f.number number) [
      | inl e ↦ subst P (sym (own_here number f later e)) (refl, again)
      | inr ne ↦ subst P (sym (own_past number f later ne)) again
    ]
