-- What a packet's header tells of one block of its precinct.
use Rattle.std.proofs.Common.{◌≡◌, ℕ, zero, suc, ◌+◌, ◌-◌, ◌*◌, ◌<◌, ◌≤◌, ◌^◌, ◌==◌, nat_lt, Bool, true, false, List, [], ◌∷◌, ◌++◌, length, refl, sym, ap, ◌∙◌, subst, cond, arith, append-nil, Some, None, inl, inr, ◌⊎◌, length-append, get_or, set, filter, All, MatchBool, if◌then◌else◌, get_or-set_same, Option}
use Rattle.std.proofs.lemmas.Bool.{cases_lt, cases_eq, eq-eqb, ne_eqb, lt-ltb, le-ltb, cond-true, cond-false}
use Rattle.std.proofs.lemmas.List.Elements.{filter-append}
use Rattle.jx_base.specs.Passes.{end_pass}
use Rattle.jx_base.specs.Pieces.{IsInOneSegment}
use Rattle.jx_tagtree.specs.Header.{bits_of}
use Rattle.jx_packet_header.specs.declared.HeaderPart.{HeaderPart}
use Rattle.jx_packet_header.specs.declared.known.Known.{Known}
use Rattle.jx_packet_header.specs.Parts.{one_more, cut, AreHeaderParts}
use Rattle.jx_packet_header.specs.Packet.{Cells, State, Values, Agree, Entry, nothing, contributes, block_at, block_after, unknown_block, most_passes, IsIncluded, zero_planes, cells_first, cells_included, entry_after, entry_bits, IsEntry, blocks_bits, blocks_after, AreEntries, parts_told, BandTold, band_bits, band_after, bands_bits, bands_after, AreBandsTold, bands_parts, Header, header_bits, IsPacket}
use Rattle.jx_packet_header.specs.Kept.{IsBand, AreBands}
use Rattle.jx_packet_header.specs.Writable.{SameSize}
use Rattle.jx_packet_header.specs.Precinct.{all_blocks, IsState}
use Rattle.jx_packet_header.proofs.BlockLemmas.{told_is, block_made}
use Rattle.jx_packet_header.proofs.BandLemmas.{block_of, entry_size, entry_agrees, block_band}
use Rattle.jx_packet_header.proofs.FreshLemmas.{block_left, block_right}
use Rattle.jx_packet_header.proofs.PacketLemmas.{bits_few}
use Rattle.jx_packet_header.proofs.WriteLemmas.{other_same as entry_other}
use Rattle.jx_base.proofs.PieceLemmas.{alone, longer}
use Rattle.jx_base.specs.Limits.{most_blocks}

-- ---- parts
-- those of one block
abbrev pub own_parts : ℕ → List HeaderPart → List HeaderPart
own_parts j parts = filter (λ (p : HeaderPart). p.block == j) parts

-- what was told of a block of a precinct
abbrev pub known_in : List Cells → ℕ → Known
known_in bands j = get_or (all_blocks bands) j unknown_block

-- the planes of the band in which it stands
abbrev pub planes_of : List Cells → ℕ → ℕ
planes_of [] j = 0
planes_of (cells ∷ bands) j = if nat_lt j (length cells.blocks) then cells.planes else planes_of bands (j - length cells.blocks)

-- a part has passes from one on, in one segment
pub record IsStep (style first : ℕ) (p : HeaderPart) : Type 0 where
  pub begins : p.first ≡ first
  pub some : 1 ≤ p.passes
  pub segment : IsInOneSegment style p.first p.passes

-- parts that have each pass from one on and below another once
abbrev pub AreSteps : ℕ → ℕ → ℕ → List HeaderPart → Type 0
AreSteps style first passes [] = first ≡ passes
AreSteps style first passes (p ∷ ps) = IsStep style first p × AreSteps style (first + p.passes) passes ps

-- a packet includes a block
pub record Included (style planes : ℕ) (own : List HeaderPart) (old new : Known) : Type 0 where
  pub z : ℕ
  pub below : z < planes
  pub was : (old.zero ≡ None) ⊎ (old.zero ≡ Some z)
  pub is : new.zero ≡ Some z
  pub some : old.passes < new.passes
  pub few : new.passes ≤ most_passes planes z
  pub steps : AreSteps style old.passes new.passes own

-- it does, or it tells nothing of it
abbrev pub Goes : ℕ → ℕ → List HeaderPart → Known → Known → Type 0
Goes style planes own old new = ((own ≡ []) × (new ≡ old)) ⊎ Included style planes own old new

-- the same, written otherwise
goes_same : (style planes planes' : ℕ) (own own' : List HeaderPart) (old old' new new' : Known) → planes ≡ planes' → own ≡ own' → old ≡ old' → new ≡ new' → Goes style planes own old new → Goes style planes' own' old' new'
goes_same style planes planes' own own' old old' new new' p o e f g =
    subst (λ (n : ℕ). Goes style n own' old' new') p
    (subst (λ (l : List HeaderPart). Goes style planes l old' new') o
    (subst (λ (k : Known). Goes style planes own k new') e
    (subst (λ (k : Known). Goes style planes own old k) f g)))

-- ---- the passes of a part
-- runs of passes, each of some passes and in one segment
abbrev pub AreRuns : ℕ → ℕ → ℕ → List ℕ → Type 0
AreRuns style first last [] = first ≡ last
AreRuns style first last (run ∷ runs) = (1 ≤ run) × IsInOneSegment style first run × AreRuns style (first + run) last runs

more_runs : (style first last : ℕ) (runs : List ℕ) → end_pass style first ≡ false → AreRuns style (first + 1) last runs → AreRuns style first last (one_more runs)
more_runs style first last [] e r = (omega arith, alone style first, r)
more_runs style first last (run ∷ runs) e r =
    let same : first + 1 + run ≡ first + suc run = omega arith in
    (omega arith, longer style first run e r.1, subst (λ (n : ℕ). AreRuns style n last runs) same r.2)

pub cut_runs : (style first n : ℕ) → AreRuns style first (first + n) (cut style first n)
cut_runs style first zero = omega arith
cut_runs style first (suc n) = by (end_pass style first) refl
    (let same : first + 1 + n ≡ first + suc n = omega arith in subst (λ (m : ℕ). AreRuns style (first + 1) m (cut style (first + 1) n)) same (cut_runs style (first + 1) n))
  where
    by : (b : Bool) → end_pass style first ≡ b → AreRuns style (first + 1) (first + suc n) (cut style (first + 1) n) →
        AreRuns style first (first + suc n) (cond b (1 ∷ cut style (first + 1) n) (one_more (cut style (first + 1) n)))
    by true e r = (omega arith, alone style first, r)
    by false e r = more_runs style first (first + suc n) (cut style (first + 1) n) e r

pub steps_from : (style lblock block first last : ℕ) (runs : List ℕ) (ps : List HeaderPart) → AreHeaderParts lblock block first runs ps → AreRuns style first last runs → AreSteps style first last ps
steps_from style lblock block first last [] [] a r = r
steps_from style lblock block first last [] (p ∷ ps) a r = absurd a
steps_from style lblock block first last (run ∷ runs) [] a r = absurd a
steps_from style lblock block first last (run ∷ runs) (p ∷ ps) a r =
    let has : run ≡ p.passes = sym a.0.has in
    let begins : first ≡ p.first = sym a.0.begins in (
      record {
        begins = a.0.begins;
        some = subst (λ (n : ℕ). 1 ≤ n) has r.0;
        segment = subst (λ (n : ℕ). IsInOneSegment style n p.passes) begins (subst (λ (n : ℕ). IsInOneSegment style first n) has r.1);
      },
      subst (λ (n : ℕ). AreSteps style (first + n) last ps) has (steps_from style lblock block (first + run) last runs ps a.1 r.2),
    )

-- ---- the blocks of parts
-- a part of one of some blocks
pub record IsWithin (low high : ℕ) (p : HeaderPart) : Type 0 where
  pub above : low ≤ p.block
  pub below : p.block < high
  pub some : 1 ≤ p.passes

abbrev pub AreWithin : ℕ → ℕ → List HeaderPart → Type 0
AreWithin low high [] = Unit {0}
AreWithin low high (p ∷ ps) = IsWithin low high p × AreWithin low high ps

within_append : (low high : ℕ) (ps qs : List HeaderPart) → AreWithin low high ps → AreWithin low high qs → AreWithin low high (ps ++ qs)
within_append low high [] qs p q = q
within_append low high (x ∷ ps) qs p q = (p.0, within_append low high ps qs p.1 q)

within_wider : (low high low' high' : ℕ) (ps : List HeaderPart) → low' ≤ low → high ≤ high' → AreWithin low high ps → AreWithin low' high' ps
within_wider low high low' high' [] l h a = tt
within_wider low high low' high' (p ∷ ps) l h a =
    let x : low ≤ p.block = a.0.above in
    let y : p.block < high = a.0.below in
    (record { above = omega arith; below = omega arith; some = a.0.some }, within_wider low high low' high' ps l h a.1)

pub own_none : (low high j : ℕ) (ps : List HeaderPart) → AreWithin low high ps → (j < low) ⊎ (high ≤ j) → own_parts j ps ≡ []
own_none low high j [] a out = refl
own_none low high j (p ∷ ps) a out =
    let other : p.block ≡ j → ⊥ = (λ (e : p.block ≡ j). apart e out) in
    cond-false (p.block == j) (p ∷ own_parts j ps) (own_parts j ps) (ne_eqb p.block j other) ∙ own_none low high j ps a.1 out
  where
    apart : p.block ≡ j → (j < low) ⊎ (high ≤ j) → ⊥
    apart e (inl lt) = let x : low ≤ p.block = a.0.above in omega arith
    apart e (inr ge) = let y : p.block < high = a.0.below in omega arith

own_append : (j : ℕ) (ps qs : List HeaderPart) → own_parts j (ps ++ qs) ≡ own_parts j ps ++ own_parts j qs
own_append j ps qs = filter-append (λ (p : HeaderPart). p.block == j) ps qs

-- where the one list or the other has none of a block
pub own_left : (j : ℕ) (ps qs : List HeaderPart) → own_parts j qs ≡ [] → own_parts j ps ≡ own_parts j (ps ++ qs)
own_left j ps qs e = sym (own_append j ps qs ∙ ap (λ (l : List HeaderPart). own_parts j ps ++ l) e ∙ append-nil (own_parts j ps))

pub own_right : (j : ℕ) (ps qs : List HeaderPart) → own_parts j ps ≡ [] → own_parts j qs ≡ own_parts j (ps ++ qs)
own_right j ps qs e = sym (own_append j ps qs ∙ ap (λ (l : List HeaderPart). l ++ own_parts j qs) e)

parts_within : (style lblock block first last : ℕ) (runs : List ℕ) (ps : List HeaderPart) → AreHeaderParts lblock block first runs ps → AreRuns style first last runs → AreWithin block (block + 1) ps
parts_within style lblock block first last [] [] a r = tt
parts_within style lblock block first last [] (p ∷ ps) a r = absurd a
parts_within style lblock block first last (run ∷ runs) [] a r = absurd a
parts_within style lblock block first last (run ∷ runs) (p ∷ ps) a r =
    let of : p.block ≡ block = a.0.of in
    let has : p.passes ≡ run = a.0.has in
    let some : 1 ≤ run = r.0 in
    (record { above = omega arith; below = omega arith; some = omega arith }, parts_within style lblock block (first + run) last runs ps a.1 r.2)

pub own_all : (block : ℕ) (ps : List HeaderPart) → AreWithin block (block + 1) ps → own_parts block ps ≡ ps
own_all block [] a = refl
own_all block (p ∷ ps) a =
    let x : block ≤ p.block = a.0.above in
    let y : p.block < block + 1 = a.0.below in
    let same : p.block ≡ block = omega arith in
    cond-true (p.block == block) (p ∷ own_parts block ps) (own_parts block ps) (eq-eqb p.block block same) ∙ ap (λ (l : List HeaderPart). p ∷ l) (own_all block ps a.1)

-- ---- one block
pub entry_within : (v : Values) (style layer block leaf : ℕ) (cells : Cells) (e : Entry) → IsEntry v style layer block leaf cells e → AreWithin block (block + 1) e.parts
entry_within v style layer block leaf cells e is = by (contributes e) is.told
  where
    by : (c : Bool) → MatchBool c (IsIncluded style block cells.planes (zero_planes (block_at cells leaf).zero v.zeros leaf) (block_at cells leaf) e) (e ≡ nothing) → AreWithin block (block + 1) e.parts
    by true i = parts_within style ((block_at cells leaf).lblock + e.raise) block (block_at cells leaf).passes ((block_at cells leaf).passes + e.passes)
        (cut style (block_at cells leaf).passes e.passes) e.parts i.parts (cut_runs style (block_at cells leaf).passes e.passes)
    by false n = subst (λ (x : Entry). AreWithin block (block + 1) x.parts) (sym n) tt

was_zero : (o : Option ℕ) (values : ℕ → ℕ) (leaf : ℕ) → (o ≡ None) ⊎ (o ≡ Some (zero_planes o values leaf))
was_zero None values leaf = inl refl
was_zero (Some z) values leaf = inr refl

entry_here : (v : Values) (style layer block leaf : ℕ) (cells : Cells) (e : Entry) → leaf < length cells.blocks → IsEntry v style layer block leaf cells e →
    Goes style cells.planes e.parts (block_at cells leaf) (block_at (entry_after v layer leaf cells e) leaf)
entry_here v style layer block leaf cells e lt is = by (contributes e) is.told
  where
    by : (c : Bool) → MatchBool c (IsIncluded style block cells.planes (zero_planes (block_at cells leaf).zero v.zeros leaf) (block_at cells leaf) e) (e ≡ nothing) →
        Goes style cells.planes e.parts (block_at cells leaf) (block_at (cond c (cells_included v leaf (cells_first v layer leaf cells) e) (cells_first v layer leaf cells)) leaf)
    by true i =
        let known = block_at cells leaf in
        let z = zero_planes known.zero v.zeros leaf in
        let after = block_after known z e in
        let same : get_or (set cells.blocks leaf after) leaf unknown_block ≡ after = get_or-set_same cells.blocks leaf after unknown_block lt in
        let some : 1 ≤ e.passes = i.count.some in
        let goes : Goes style cells.planes e.parts known after = inr (record {
          z = z;
          below = i.below;
          was = was_zero known.zero v.zeros leaf;
          is = refl;
          some = omega arith;
          few = i.few;
          steps = steps_from style (known.lblock + e.raise) block known.passes (known.passes + e.passes) (cut style known.passes e.passes) e.parts i.parts (cut_runs style known.passes e.passes);
        }) in
        subst (λ (k : Known). Goes style cells.planes e.parts known k) (sym same) goes
    by false n = inl (ap (λ (x : Entry). x.parts) n, refl)

-- ---- the blocks of a band
pub record SameCells (new old : Cells) : Type 0 where
  pub long : length new.blocks ≡ length old.blocks
  pub planes : new.planes ≡ old.planes

blocks_size : (v : Values) (layer leaf : ℕ) (cells : Cells) (es : List Entry) → SameCells (blocks_after v layer leaf cells es) cells
blocks_size v layer leaf cells [] = record { long = refl; planes = refl }
blocks_size v layer leaf cells (e ∷ es) =
    let s : SameSize (entry_after v layer leaf cells e) cells = entry_size v layer leaf cells e in
    let r : SameCells (blocks_after v layer (leaf + 1) (entry_after v layer leaf cells e) es) (entry_after v layer leaf cells e) = blocks_size v layer (leaf + 1) (entry_after v layer leaf cells e) es in
    record { long = r.long ∙ s.long; planes = r.planes ∙ s.planes }

pub blocks_within : (v : Values) (style layer base stop leaf : ℕ) (cells : Cells) (es : List Entry) → AreEntries v style layer base stop leaf cells es → AreWithin (base + leaf) (base + stop) (parts_told es)
blocks_within v style layer base stop leaf cells [] are = tt
blocks_within v style layer base stop leaf cells (e ∷ es) are =
    let lt : leaf < stop = are.0 in
    within_append (base + leaf) (base + stop) e.parts (parts_told es)
    (within_wider (base + leaf) (base + leaf + 1) (base + leaf) (base + stop) e.parts (omega arith) (omega arith) (entry_within v style layer (base + leaf) leaf cells e are.1))
    (within_wider (base + (leaf + 1)) (base + stop) (base + leaf) (base + stop) (parts_told es) (omega arith) (omega arith)
    (blocks_within v style layer base stop (leaf + 1) (entry_after v layer leaf cells e) es are.2))

blocks_before : (v : Values) (style layer base stop leaf j : ℕ) (cells : Cells) (es : List Entry) → AreEntries v style layer base stop leaf cells es → j < leaf →
    block_at (blocks_after v layer leaf cells es) j ≡ block_at cells j
blocks_before v style layer base stop leaf j cells [] are lt = refl
blocks_before v style layer base stop leaf j cells (e ∷ es) are lt =
    blocks_before v style layer base stop (leaf + 1) j (entry_after v layer leaf cells e) es are.2 (omega arith)
    ∙ entry_other v layer leaf j cells e (λ (q : j ≡ leaf). (let q' : j ≡ leaf = q in omega arith))

blocks_go : (v : Values) (style layer base stop leaf j : ℕ) (cells : Cells) (es : List Entry) → stop ≡ length cells.blocks → AreEntries v style layer base stop leaf cells es → leaf ≤ j → j < stop →
    Goes style cells.planes (own_parts (base + j) (parts_told es)) (block_at cells j) (block_at (blocks_after v layer leaf cells es) j)
blocks_go v style layer base stop leaf j cells [] all are ge lt = absurd (let e : leaf ≡ stop = are in omega arith)
blocks_go v style layer base stop leaf j cells (e ∷ es) all are ge lt =
    by (cases_eq j leaf) (λ (ge' : leaf + 1 ≤ j). blocks_go v style layer base stop (leaf + 1) j (entry_after v layer leaf cells e) es (all ∙ sym (entry_size v layer leaf cells e).long) are.2 ge' lt)
  where
    by : (j ≡ leaf) ⊎ (j ≡ leaf → ⊥) →
        (leaf + 1 ≤ j → Goes style (entry_after v layer leaf cells e).planes (own_parts (base + j) (parts_told es)) (block_at (entry_after v layer leaf cells e) j) (block_at (blocks_after v layer (leaf + 1) (entry_after v layer leaf cells e) es) j)) →
        Goes style cells.planes (own_parts (base + j) (e.parts ++ parts_told es)) (block_at cells j) (block_at (blocks_after v layer (leaf + 1) (entry_after v layer leaf cells e) es) j)
    by (inl same) again =
        let here : Goes style cells.planes e.parts (block_at cells leaf) (block_at (entry_after v layer leaf cells e) leaf) =
        entry_here v style layer (base + leaf) leaf cells e (let l : leaf < stop = are.0 in subst (λ (n : ℕ). leaf < n) all l) are.1 in
        let none : own_parts (base + j) (parts_told es) ≡ [] = own_none (base + (leaf + 1)) (base + stop) (base + j) (parts_told es)
        (blocks_within v style layer base stop (leaf + 1) (entry_after v layer leaf cells e) es are.2) (inl (omega arith)) in
        let within : AreWithin (base + j) (base + j + 1) e.parts =
        subst (λ (n : ℕ). AreWithin (base + n) (base + n + 1) e.parts) (sym same) (entry_within v style layer (base + leaf) leaf cells e are.1) in
        let own : e.parts ≡ own_parts (base + j) (e.parts ++ parts_told es) = sym (own_all (base + j) e.parts within) ∙ own_left (base + j) e.parts (parts_told es) none in
        let still : block_at (entry_after v layer leaf cells e) leaf ≡ block_at (blocks_after v layer (leaf + 1) (entry_after v layer leaf cells e) es) j =
        ap (λ (n : ℕ). block_at (entry_after v layer leaf cells e) n) (sym same)
        ∙ sym (blocks_before v style layer base stop (leaf + 1) j (entry_after v layer leaf cells e) es are.2 (omega arith)) in
        goes_same style cells.planes cells.planes e.parts (own_parts (base + j) (e.parts ++ parts_told es)) (block_at cells leaf) (block_at cells j)
        (block_at (entry_after v layer leaf cells e) leaf) (block_at (blocks_after v layer (leaf + 1) (entry_after v layer leaf cells e) es) j)
        refl own (ap (λ (n : ℕ). block_at cells n) (sym same)) still here
    by (inr ne) again =
        let past : leaf + 1 ≤ j = omega arith in
        let none : own_parts (base + j) e.parts ≡ [] = own_none (base + leaf) (base + leaf + 1) (base + j) e.parts (entry_within v style layer (base + leaf) leaf cells e are.1) (inr (omega arith)) in
        goes_same style (entry_after v layer leaf cells e).planes cells.planes (own_parts (base + j) (parts_told es)) (own_parts (base + j) (e.parts ++ parts_told es))
        (block_at (entry_after v layer leaf cells e) j) (block_at cells j)
        (block_at (blocks_after v layer (leaf + 1) (entry_after v layer leaf cells e) es) j) (block_at (blocks_after v layer (leaf + 1) (entry_after v layer leaf cells e) es) j)
        (entry_size v layer leaf cells e).planes (own_right (base + j) e.parts (parts_told es) none) (entry_other v layer leaf j cells e ne) refl (again past)

-- what is true of a band stays true
blocks_band : (v : Values) (style layer base stop leaf : ℕ) (cells : Cells) (es : List Entry) → IsBand cells → stop ≡ length cells.blocks → Agree cells v → AreEntries v style layer base stop leaf cells es →
    length (blocks_bits v layer leaf cells es) ≤ 2 ^ 67 → IsBand (blocks_after v layer leaf cells es)
blocks_band v style layer base stop leaf cells [] b all a are few = b
blocks_band v style layer base stop leaf cells (e ∷ es) b all a are few =
    let lt : leaf < length cells.blocks = (let l : leaf < stop = are.0 in subst (λ (n : ℕ). leaf < n) all l) in
    let next : Cells = entry_after v layer leaf cells e in
    let leafed = block_of cells leaf b.trees lt in
    let sum : length (entry_bits v layer leaf cells e ++ blocks_bits v layer (leaf + 1) next es) ≡ length (entry_bits v layer leaf cells e) + length (blocks_bits v layer (leaf + 1) next es) =
    length-append (entry_bits v layer leaf cells e) (blocks_bits v layer (leaf + 1) next es) in
    let front : length (entry_bits v layer leaf cells e ++ []) ≡ length (entry_bits v layer leaf cells e) = ap length (append-nil (entry_bits v layer leaf cells e)) in
    let k = block_band style layer (base + leaf) leaf cells (entry_bits v layer leaf cells e ++ []) (told_is e next []) b lt (omega arith)
    (block_made v style layer (base + leaf) leaf cells e [] leafed a are.1) in
    blocks_band v style layer base stop (leaf + 1) next es k.0 (all ∙ sym k.1) (entry_agrees v layer leaf cells e leafed a) are.2 (omega arith)

-- ---- the bands of a precinct
pub bands_within : (style layer base : ℕ) (bands : List Cells) (tolds : List BandTold) → AreBandsTold style layer base bands tolds → AreWithin base (base + length (all_blocks bands)) (bands_parts tolds)
bands_within style layer base [] [] are = tt
bands_within style layer base [] (told ∷ tolds) are = absurd are
bands_within style layer base (cells ∷ bands) [] are = absurd are
bands_within style layer base (cells ∷ bands) (told ∷ tolds) are =
    let sum : length (cells.blocks ++ all_blocks bands) ≡ length cells.blocks + length (all_blocks bands) = length-append cells.blocks (all_blocks bands) in
    within_append base (base + length (cells.blocks ++ all_blocks bands)) (parts_told told.entries) (bands_parts tolds)
    (within_wider (base + 0) (base + length cells.blocks) base (base + length (cells.blocks ++ all_blocks bands)) (parts_told told.entries) (omega arith) (omega arith)
    (blocks_within told.values style layer base (length cells.blocks) 0 cells told.entries are.0.are))
    (within_wider (base + length cells.blocks) (base + length cells.blocks + length (all_blocks bands)) base (base + length (cells.blocks ++ all_blocks bands)) (bands_parts tolds) (omega arith) (omega arith)
    (bands_within style layer (base + length cells.blocks) bands tolds are.1))

bands_go : (style layer base j : ℕ) (bands : List Cells) (tolds : List BandTold) → AreBandsTold style layer base bands tolds → j < length (all_blocks bands) →
    Goes style (planes_of bands j) (own_parts (base + j) (bands_parts tolds)) (known_in bands j) (known_in (bands_after layer bands tolds) j)
bands_go style layer base j [] [] are lt = absurd (omega arith)
bands_go style layer base j [] (told ∷ tolds) are lt = absurd are
bands_go style layer base j (cells ∷ bands) [] are lt = absurd are
bands_go style layer base j (cells ∷ bands) (told ∷ tolds) are lt =
    by (cases_lt j (length cells.blocks)) (λ (i : ℕ) (l : i < length (all_blocks bands)). bands_go style layer (base + length cells.blocks) i bands tolds are.1 l)
  where
    by : (j < length cells.blocks) ⊎ (length cells.blocks ≤ j) →
        ((i : ℕ) → i < length (all_blocks bands) → Goes style (planes_of bands i) (own_parts (base + length cells.blocks + i) (bands_parts tolds)) (known_in bands i) (known_in (bands_after layer bands tolds) i)) →
        Goes style (if nat_lt j (length cells.blocks) then cells.planes else planes_of bands (j - length cells.blocks)) (own_parts (base + j) (parts_told told.entries ++ bands_parts tolds))
        (known_in (cells ∷ bands) j) (known_in (band_after layer cells told ∷ bands_after layer bands tolds) j)
    by (inl here) again =
        let long : length (band_after layer cells told).blocks ≡ length cells.blocks = (blocks_size told.values layer 0 cells told.entries).long in
        let none : own_parts (base + j) (bands_parts tolds) ≡ [] = own_none (base + length cells.blocks) (base + length cells.blocks + length (all_blocks bands)) (base + j) (bands_parts tolds)
        (bands_within style layer (base + length cells.blocks) bands tolds are.1) (inl (omega arith)) in
        goes_same style cells.planes (cond (nat_lt j (length cells.blocks)) cells.planes (planes_of bands (j - length cells.blocks)))
        (own_parts (base + j) (parts_told told.entries)) (own_parts (base + j) (parts_told told.entries ++ bands_parts tolds))
        (block_at cells j) (known_in (cells ∷ bands) j) (block_at (band_after layer cells told) j) (known_in (band_after layer cells told ∷ bands_after layer bands tolds) j)
        (sym (cond-true (nat_lt j (length cells.blocks)) cells.planes (planes_of bands (j - length cells.blocks)) (lt-ltb j (length cells.blocks) here)))
        (own_left (base + j) (parts_told told.entries) (bands_parts tolds) none)
        (sym (block_left cells.blocks (all_blocks bands) j unknown_block here))
        (sym (block_left (band_after layer cells told).blocks (all_blocks (bands_after layer bands tolds)) j unknown_block (omega arith)))
        (blocks_go told.values style layer base (length cells.blocks) 0 j cells told.entries refl are.0.are (omega arith) here)
    by (inr past) again =
        let long : length (band_after layer cells told).blocks ≡ length cells.blocks = (blocks_size told.values layer 0 cells told.entries).long in
        let sum : length (cells.blocks ++ all_blocks bands) ≡ length cells.blocks + length (all_blocks bands) = length-append cells.blocks (all_blocks bands) in
        let at : base + length cells.blocks + (j - length cells.blocks) ≡ base + j = omega arith in
        let none : own_parts (base + j) (parts_told told.entries) ≡ [] = own_none (base + 0) (base + length cells.blocks) (base + j) (parts_told told.entries)
        (blocks_within told.values style layer base (length cells.blocks) 0 cells told.entries are.0.are) (inr (omega arith)) in
        let gone : j - length (band_after layer cells told).blocks ≡ j - length cells.blocks = ap (λ (n : ℕ). j - n) long in
        goes_same style (planes_of bands (j - length cells.blocks)) (cond (nat_lt j (length cells.blocks)) cells.planes (planes_of bands (j - length cells.blocks)))
        (own_parts (base + length cells.blocks + (j - length cells.blocks)) (bands_parts tolds)) (own_parts (base + j) (parts_told told.entries ++ bands_parts tolds))
        (known_in bands (j - length cells.blocks)) (known_in (cells ∷ bands) j)
        (known_in (bands_after layer bands tolds) (j - length cells.blocks)) (known_in (band_after layer cells told ∷ bands_after layer bands tolds) j)
        (sym (cond-false (nat_lt j (length cells.blocks)) cells.planes (planes_of bands (j - length cells.blocks)) (le-ltb j (length cells.blocks) past)))
        (ap (λ (n : ℕ). own_parts n (bands_parts tolds)) at ∙ own_right (base + j) (parts_told told.entries) (bands_parts tolds) none)
        (sym (block_right cells.blocks (all_blocks bands) j unknown_block past))
        (ap (λ (n : ℕ). known_in (bands_after layer bands tolds) n) (sym gone)
        ∙ sym (block_right (band_after layer cells told).blocks (all_blocks (bands_after layer bands tolds)) j unknown_block (omega arith)))
        (again (j - length cells.blocks) (omega arith))

bands_long : (style layer base : ℕ) (bands : List Cells) (tolds : List BandTold) → AreBandsTold style layer base bands tolds → length (all_blocks (bands_after layer bands tolds)) ≡ length (all_blocks bands)
bands_long style layer base [] [] are = refl
bands_long style layer base [] (told ∷ tolds) are = absurd are
bands_long style layer base (cells ∷ bands) [] are = absurd are
bands_long style layer base (cells ∷ bands) (told ∷ tolds) are =
    let long : length (band_after layer cells told).blocks ≡ length cells.blocks = (blocks_size told.values layer 0 cells told.entries).long in
    let again : length (all_blocks (bands_after layer bands tolds)) ≡ length (all_blocks bands) = bands_long style layer (base + length cells.blocks) bands tolds are.1 in
    let a : length (cells.blocks ++ all_blocks bands) ≡ length cells.blocks + length (all_blocks bands) = length-append cells.blocks (all_blocks bands) in
    let b : length ((band_after layer cells told).blocks ++ all_blocks (bands_after layer bands tolds)) ≡ length (band_after layer cells told).blocks + length (all_blocks (bands_after layer bands tolds)) =
    length-append (band_after layer cells told).blocks (all_blocks (bands_after layer bands tolds)) in
    omega arith

bands_planes : (style layer base j : ℕ) (bands : List Cells) (tolds : List BandTold) → AreBandsTold style layer base bands tolds → planes_of (bands_after layer bands tolds) j ≡ planes_of bands j
bands_planes style layer base j [] [] are = refl
bands_planes style layer base j [] (told ∷ tolds) are = absurd are
bands_planes style layer base j (cells ∷ bands) [] are = absurd are
bands_planes style layer base j (cells ∷ bands) (told ∷ tolds) are =
    let s : SameCells (band_after layer cells told) cells = blocks_size told.values layer 0 cells told.entries in
    let after = bands_after layer bands tolds in
    ap (λ (n : ℕ). if nat_lt j n then (band_after layer cells told).planes else planes_of after (j - n)) s.long
    ∙ ap (λ (n : ℕ). if nat_lt j (length cells.blocks) then n else planes_of after (j - length cells.blocks)) s.planes
    ∙ ap (λ (n : ℕ). if nat_lt j (length cells.blocks) then cells.planes else n) (bands_planes style layer (base + length cells.blocks) (j - length cells.blocks) bands tolds are.1)

bands_state : (style layer base : ℕ) (bands : List Cells) (tolds : List BandTold) → AreBands bands → AreBandsTold style layer base bands tolds → length (bands_bits layer bands tolds) ≤ 2 ^ 67 → AreBands (bands_after layer bands tolds)
bands_state style layer base [] [] b are few = tt
bands_state style layer base [] (told ∷ tolds) b are few = absurd are
bands_state style layer base (cells ∷ bands) [] b are few = absurd are
bands_state style layer base (cells ∷ bands) (told ∷ tolds) b are few =
    let sum : length (band_bits layer cells told ++ bands_bits layer bands tolds) ≡ length (band_bits layer cells told) + length (bands_bits layer bands tolds) =
    length-append (band_bits layer cells told) (bands_bits layer bands tolds) in (
      blocks_band told.values style layer base (length cells.blocks) 0 cells told.entries b.0 refl are.0.agree are.0.are (omega arith),
      bands_state style layer (base + length cells.blocks) bands tolds b.1 are.1 (omega arith),
    )

-- ---- a packet
-- a part of one of so many blocks
pub record PartIn (count : ℕ) (p : HeaderPart) : Type 0 where
  pub inside : p.block < count
  pub some : 1 ≤ p.passes

-- the precinct after a packet
pub record Kept (after k : State) : Type 0 where
  pub style : after.style ≡ k.style
  pub layer : after.layer ≡ k.layer + 1
  pub blocks : length (all_blocks after.bands) ≡ length (all_blocks k.bands)
  pub planes : (j : ℕ) → planes_of after.bands j ≡ planes_of k.bands j

parts_in : (high : ℕ) (ps : List HeaderPart) → AreWithin 0 high ps → (i : ℕ) (d : HeaderPart) → i < length ps → PartIn high (get_or ps i d)
parts_in high [] a i d lt = absurd (omega arith)
parts_in high (p ∷ ps) a zero d lt = record { inside = a.0.below; some = a.0.some }
parts_in high (p ∷ ps) a (suc i) d lt = parts_in high ps a.1 i d (omega arith)

pub header_within : (k : State) (h : Header) (c : Bool) → MatchBool c (AreBandsTold k.style k.layer 0 k.bands h.tolds) (h.tolds ≡ []) → AreWithin 0 (length (all_blocks k.bands)) (cond c (bands_parts h.tolds) [])
header_within k h true is = subst (λ (n : ℕ). AreWithin 0 n (bands_parts h.tolds)) (let e : 0 + length (all_blocks k.bands) ≡ length (all_blocks k.bands) = omega arith in e) (bands_within k.style k.layer 0 k.bands h.tolds is)
header_within k h false is = tt

header_goes : (k : State) (h : Header) (j : ℕ) → j < length (all_blocks k.bands) → (c : Bool) → MatchBool c (AreBandsTold k.style k.layer 0 k.bands h.tolds) (h.tolds ≡ []) →
    Goes k.style (planes_of k.bands j) (own_parts j (cond c (bands_parts h.tolds) [])) (known_in k.bands j) (known_in (cond c (bands_after k.layer k.bands h.tolds) k.bands) j)
header_goes k h j lt true is =
    subst (λ (n : ℕ). Goes k.style (planes_of k.bands j) (own_parts n (bands_parts h.tolds)) (known_in k.bands j) (known_in (bands_after k.layer k.bands h.tolds) j))
    (let e : 0 + j ≡ j = omega arith in e) (bands_go k.style k.layer 0 j k.bands h.tolds is lt)
header_goes k h j lt false is = inl (refl, refl)

header_kept : (k : State) (h : Header) (c : Bool) → MatchBool c (AreBandsTold k.style k.layer 0 k.bands h.tolds) (h.tolds ≡ []) →
    Kept (record { style = k.style; layer = k.layer + 1; bands = cond c (bands_after k.layer k.bands h.tolds) k.bands }) k
header_kept k h true is = record {
  style = refl;
  layer = refl;
  blocks = bands_long k.style k.layer 0 k.bands h.tolds is;
  planes = λ j. bands_planes k.style k.layer 0 j k.bands h.tolds is;
}
header_kept k h false is = record { style = refl; layer = refl; blocks = refl; planes = λ j. refl }

header_state : (k : State) (h : Header) (c : Bool) → AreBands k.bands → length (cond c (true ∷ bands_bits k.layer k.bands h.tolds) (false ∷ [])) ≤ 2 ^ 67 →
    MatchBool c (AreBandsTold k.style k.layer 0 k.bands h.tolds) (h.tolds ≡ []) → AreBands (cond c (bands_after k.layer k.bands h.tolds) k.bands)
header_state k h true b few is = bands_state k.style k.layer 0 k.bands h.tolds b is (omega arith)
header_state k h false b few is = b

pub part_inside : (bytes : List ℕ) (k : State) (parts : List HeaderPart) (used : ℕ) (after : State) → IsPacket bytes k parts used after → All (PartIn (length (all_blocks k.bands))) parts
part_inside bytes k parts used after p =
    subst (λ (l : List HeaderPart). All (PartIn (length (all_blocks k.bands))) l) (sym p.parts_are)
    (parts_in (length (all_blocks k.bands)) (cond p.header.some (bands_parts p.header.tolds) []) (header_within k p.header p.header.some p.is))

pub packet_goes : (bytes : List ℕ) (k : State) (parts : List HeaderPart) (used : ℕ) (after : State) → IsPacket bytes k parts used after → (j : ℕ) → j < length (all_blocks k.bands) →
    Goes k.style (planes_of k.bands j) (own_parts j parts) (known_in k.bands j) (known_in after.bands j)
packet_goes bytes k parts used after p j lt =
    subst (λ (l : List HeaderPart). Goes k.style (planes_of k.bands j) (own_parts j l) (known_in k.bands j) (known_in after.bands j)) (sym p.parts_are)
    (subst (λ (a : State). Goes k.style (planes_of k.bands j) (own_parts j (cond p.header.some (bands_parts p.header.tolds) [])) (known_in k.bands j) (known_in a.bands j)) (sym p.after_is)
    (header_goes k p.header j lt p.header.some p.is))

pub packet_kept : (bytes : List ℕ) (k : State) (parts : List HeaderPart) (used : ℕ) (after : State) → IsPacket bytes k parts used after → Kept after k
packet_kept bytes k parts used after p = subst (λ (a : State). Kept a k) (sym p.after_is) (header_kept k p.header p.header.some p.is)

pub state_kept : (bytes : List ℕ) (k : State) (parts : List HeaderPart) (used : ℕ) (after : State) → length bytes < 2 ^ 64 → IsState k → IsPacket bytes k parts used after → IsState after
state_kept bytes k parts used after short s p =
    let kept : Kept after k = packet_kept bytes k parts used after p in
    let all : length (bits_of bytes).bits ≡ length (header_bits k p.header) + length p.rest = ap length p.stands ∙ length-append (header_bits k p.header) p.rest in
    let few : length (bits_of bytes).bits ≤ 8 * length bytes = bits_few 0 bytes in
    let bits : length (header_bits k p.header) ≤ 2 ^ 67 = omega arith in
    let blocks : length (all_blocks after.bands) ≡ length (all_blocks k.bands) = kept.blocks in
    let most : length (all_blocks k.bands) ≤ most_blocks = s.few in
    record {
      bands = subst (λ (a : State). AreBands a.bands) (sym p.after_is) (header_state k p.header p.header.some s.bands bits p.is);
      few = omega arith;
    }
