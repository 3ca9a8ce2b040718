-- The parts of a block in one layer and before it.
use Rattle.std.proofs.Common.{◌≡◌, ℕ, ◌+◌, ◌<◌, ◌≤◌, ◌==◌, nat_lt, Bool, true, false, List, [], ◌∷◌, map, refl, sym, ap, ◌∙◌, subst, cond, arith, Some, None, inl, inr, ◌⊎◌}
use Rattle.std.specs.Prelude.{Option}
use Rattle.std.specs.Bool.{MatchBool}
use Rattle.std.proofs.lemmas.Bool.Decides.{nat_tests}
use Rattle.std.proofs.lemmas.Bool.{cases_lt}
use Rattle.jx_packet_header.specs.declared.HeaderPart.{HeaderPart}
use Rattle.jx_packet_header.specs.declared.LeafPart.{LeafPart}
use Rattle.jx_packet_header.specs.declared.known.Known.{Known}
use Rattle.jx_packet_header.specs.Parts.{cut, AreHeaderParts}
use Rattle.jx_packet_header.specs.Packet.{Entry, nothing, most_passes, IsInclusion, zero_planes, block_after, unknown_block, IsIncluded}
use Rattle.jx_packet_header.specs.Written.{Leafed, first_layer, zero_leaf, parts_in, passes_of, raise_of, entry_written}
use Rattle.jx_packet_header.specs.Kept.{IsKnown}
use Rattle.jx_packet_header.specs.Writable.{all_passes}
use Rattle.jx_packet_header.specs.LeavesFit.{AreRuns, passes_before, IsLeaf, FitsLeaf, AreShort, AllFit, HasShort}
use Rattle.jx_packet_header.proofs.PutLemmas.{raise_fits}
use Rattle.jx_packet_header.proofs.WriteLemmas.{raise_few}

-- ---- parts in order of layers
-- none stands before the first
pub in_none : (layers block layer from first : ℕ) (parts : List LeafPart) → AreRuns layers block from first parts → layer < from → parts_in layer parts ≡ []
in_none layers block layer from first [] r lt = refl
in_none layers block layer from first (p ∷ ps) r lt =
    let ge : from ≤ p.layer = r.0 in
    let other : (p.layer == layer) ≡ false = grind (arith, nat_tests) in
    ap (λ (b : Bool). cond b (p.told ∷ parts_in layer ps) (parts_in layer ps)) other ∙ in_none layers block layer p.layer (first + p.told.passes) ps r.5 (omega arith)

pub before_none : (layers block layer from first : ℕ) (parts : List LeafPart) → AreRuns layers block from first parts → layer ≤ from → passes_before layer parts ≡ 0
before_none layers block layer from first [] r le = refl
before_none layers block layer from first (p ∷ ps) r le =
    let ge : from ≤ p.layer = r.0 in
    let late : nat_lt p.layer layer ≡ false = grind (arith, nat_tests) in
    ap (λ (b : Bool). cond b (p.told.passes + passes_before layer ps) (passes_before layer ps)) late ∙ before_none layers block layer p.layer (first + p.told.passes) ps r.5 (omega arith)

-- where they have no passes in a layer, there are none
pub none_in : (layers block layer from first : ℕ) (parts : List LeafPart) → AreRuns layers block from first parts → passes_of (parts_in layer parts) ≡ 0 → parts_in layer parts ≡ []
none_in layers block layer from first [] r e = refl
none_in layers block layer from first (p ∷ ps) r e = by (p.layer == layer) e (none_in layers block layer p.layer (first + p.told.passes) ps r.5)
  where
    by : (b : Bool) → passes_of (cond b (p.told ∷ parts_in layer ps) (parts_in layer ps)) ≡ 0 → (passes_of (parts_in layer ps) ≡ 0 → parts_in layer ps ≡ []) → cond b (p.told ∷ parts_in layer ps) (parts_in layer ps) ≡ []
    by true e again = absurd (let some : 1 ≤ p.told.passes = r.4 in omega arith)
    by false e again = again e

-- the passes before a layer and in it are those before the next one
pub before_split : (layer : ℕ) (parts : List LeafPart) → passes_before (layer + 1) parts ≡ passes_before layer parts + passes_of (parts_in layer parts)
before_split layer [] = refl
before_split layer (p ∷ ps) = by (cases_lt p.layer layer) (before_split layer ps)
  where
    by : (p.layer < layer) ⊎ (layer ≤ p.layer) → passes_before (layer + 1) ps ≡ passes_before layer ps + passes_of (parts_in layer ps) →
        passes_before (layer + 1) (p ∷ ps) ≡ passes_before layer (p ∷ ps) + passes_of (parts_in layer (p ∷ ps))
    by (inl lt) i =
        let a : nat_lt p.layer layer ≡ true = grind (arith, nat_tests) in
        let b : (p.layer == layer) ≡ false = grind (arith, nat_tests) in
        let c : nat_lt p.layer (layer + 1) ≡ true = grind (arith, nat_tests) in
        rw (a, b, c) (omega arith)
    by (inr ge) i = elim (cases_lt layer p.layer) [
      | inl gt ↦
          (let a : nat_lt p.layer layer ≡ false = grind (arith, nat_tests) in
          let b : (p.layer == layer) ≡ false = grind (arith, nat_tests) in
          let c : nat_lt p.layer (layer + 1) ≡ false = grind (arith, nat_tests) in
          rw (a, b, c) i)
      | inr le ↦
          (let a : nat_lt p.layer layer ≡ false = grind (arith, nat_tests) in
          let b : (p.layer == layer) ≡ true = (let e : p.layer ≡ layer = omega arith in grind (arith, nat_tests)) in
          let c : nat_lt p.layer (layer + 1) ≡ true = grind (arith, nat_tests) in
          rw (a, b, c) (omega arith))
    ]

pub before_few : (layer : ℕ) (parts : List LeafPart) → passes_before layer parts ≤ all_passes parts
before_few layer [] = omega arith
before_few layer (p ∷ ps) = by (nat_lt p.layer layer) (before_few layer ps)
  where
    by : (b : Bool) → passes_before layer ps ≤ all_passes ps → cond b (p.told.passes + passes_before layer ps) (passes_before layer ps) ≤ p.told.passes + all_passes ps
    by true le = omega arith
    by false le = omega arith

-- ---- those of one layer follow one another
abbrev pub Follow : ℕ → ℕ → List HeaderPart → Type 0
Follow block first [] = Unit {0}
Follow block first (p ∷ ps) = (p.block ≡ block) × (p.first ≡ first) × Follow block (first + p.passes) ps

pub runs_in : (layers block layer from first : ℕ) (parts : List LeafPart) → AreRuns layers block from first parts → Follow block (first + passes_before layer parts) (parts_in layer parts)
runs_in layers block layer from first [] r = tt
runs_in layers block layer from first (p ∷ ps) r = by (cases_lt p.layer layer) (runs_in layers block layer p.layer (first + p.told.passes) ps r.5)
  where
    by : (p.layer < layer) ⊎ (layer ≤ p.layer) → Follow block (first + p.told.passes + passes_before layer ps) (parts_in layer ps) →
        Follow block (first + cond (nat_lt p.layer layer) (p.told.passes + passes_before layer ps) (passes_before layer ps)) (cond (p.layer == layer) (p.told ∷ parts_in layer ps) (parts_in layer ps))
    by (inl lt) i =
        let a : nat_lt p.layer layer ≡ true = grind (arith, nat_tests) in
        let b : (p.layer == layer) ≡ false = grind (arith, nat_tests) in
        let e : first + p.told.passes + passes_before layer ps ≡ first + (p.told.passes + passes_before layer ps) = omega arith in
        rw (a, b) (subst (λ (n : ℕ). Follow block n (parts_in layer ps)) e i)
    by (inr ge) i = elim (cases_lt layer p.layer) [
      | inl gt ↦
          (let b : (p.layer == layer) ≡ false = grind (arith, nat_tests) in
          let none : parts_in layer ps ≡ [] = in_none layers block layer p.layer (first + p.told.passes) ps r.5 gt in
          rw (b, none) tt)
      | inr le ↦
          (let a : nat_lt p.layer layer ≡ false = grind (arith, nat_tests) in
          let b : (p.layer == layer) ≡ true = (let e : p.layer ≡ layer = omega arith in grind (arith, nat_tests)) in
          let z : passes_before layer ps ≡ 0 = before_none layers block layer p.layer (first + p.told.passes) ps r.5 (omega arith) in
          let begins : p.told.first ≡ first = r.3 in
          let e : first + p.told.passes + passes_before layer ps ≡ first + passes_before layer ps + p.told.passes = omega arith in
          rw (a, b) (r.2, (let f : p.told.first ≡ first + passes_before layer ps = omega arith in f), subst (λ (n : ℕ). Follow block n (parts_in layer ps)) e i))
    ]

pub parts_are : (lblock block first : ℕ) (ps : List HeaderPart) → Follow block first ps → AllFit lblock ps → AreShort ps → AreHeaderParts lblock block first (map (λ (p : HeaderPart). p.passes) ps) ps
parts_are lblock block first [] f a s = tt
parts_are lblock block first (p ∷ ps) f a s = (
  record { of = f.0; begins = f.1; has = refl; fits = a.0; short = s.0 },
  parts_are lblock block (first + p.passes) ps f.2 a.1 s.1,
)

pub short_in : (layer : ℕ) (parts : List LeafPart) → HasShort parts → AreShort (parts_in layer parts)
short_in layer [] s = tt
short_in layer (p ∷ ps) s = by (p.layer == layer) (short_in layer ps s.1)
  where
    by : (b : Bool) → AreShort (parts_in layer ps) → AreShort (cond b (p.told ∷ parts_in layer ps) (parts_in layer ps))
    by true i = (s.0, i)
    by false i = i

-- ---- a leaf that fits
pub fits_runs : (style layers planes block z : ℕ) (parts : List LeafPart) → FitsLeaf style layers planes block (record { zero = z; parts = parts }) parts → AreRuns layers block 0 0 parts
fits_runs style layers planes block z [] f = tt
fits_runs style layers planes block z (p ∷ ps) f = f.parts

-- one that contributes has parts
pub fits_some : (style layers planes block layer z : ℕ) (parts : List LeafPart) → 1 ≤ passes_of (parts_in layer parts) → FitsLeaf style layers planes block (record { zero = z; parts = parts }) parts →
    IsLeaf style layers planes block (record { zero = z; parts = parts })
fits_some style layers planes block layer z [] ge f = absurd (omega arith)
fits_some style layers planes block layer z (p ∷ ps) ge f = f

-- ---- what was told of a block before a layer
-- its zero planes, exactly where a part of it stands in an earlier layer
abbrev pub zero_told : ℕ → ℕ → List LeafPart → Option ℕ
zero_told layer z [] = None
zero_told layer z (p ∷ ps) = cond (nat_lt p.layer layer) (Some z) None

pub record IsTold (layer : ℕ) (known : Known) (leaf : Leafed) : Type 0 where
  pub passes : known.passes ≡ passes_before layer leaf.parts
  pub zero : known.zero ≡ zero_told layer leaf.zero leaf.parts
  pub lblock : known.lblock ≤ 32

pub record IsFit (style layers planes block : ℕ) (leaf : Leafed) : Type 0 where
  pub fits : FitsLeaf style layers planes block leaf leaf.parts
  pub short : HasShort leaf.parts

pub nothing_told : (leaf : Leafed) → IsTold 0 unknown_block leaf
nothing_told leaf = by leaf.zero leaf.parts
  where
    by : (z : ℕ) (parts : List LeafPart) → IsTold 0 unknown_block (record { zero = z; parts = parts })
    by z [] = record { passes = refl; zero = refl; lblock = omega arith }
    by z (p ∷ ps) = record {
      passes = zeros (p ∷ ps);
      zero = (let e : nat_lt p.layer 0 ≡ false = grind (arith, nat_tests) in sym (ap (λ (b : Bool). let o : Option ℕ = cond b (Some z) None in o) e));
      lblock = omega arith;
    }
      where
        zeros : (parts : List LeafPart) → 0 ≡ passes_before 0 parts
        zeros [] = refl
        zeros (p ∷ ps) =
            let e : nat_lt p.layer 0 ≡ false = grind (arith, nat_tests) in
            zeros ps ∙ sym (ap (λ (b : Bool). cond b (p.told.passes + passes_before 0 ps) (passes_before 0 ps)) e)

-- a block that isn't known yet is included where its first layer is this one
pub inclusion : (o : Option ℕ) (f : ℕ → ℕ) (i layers layer block z : ℕ) (parts : List LeafPart) → layer < layers → AreRuns layers block 0 0 parts → o ≡ zero_told layer z parts → f i ≡ first_layer layers parts →
    IsInclusion o f i layer (nat_lt 0 (passes_of (parts_in layer parts)))
inclusion (Some y) f i layers layer block z parts lt r told first = tt
inclusion None f i layers layer block z [] lt r told first = (let e : nat_lt (f i) (layer + 1) ≡ false = grind (arith, nat_tests) in e)
inclusion None f i layers layer block z (p ∷ ps) lt r told first = by (cases_lt p.layer layer)
  where
    by : (p.layer < layer) ⊎ (layer ≤ p.layer) → nat_lt (f i) (layer + 1) ≡ nat_lt 0 (passes_of (cond (p.layer == layer) (p.told ∷ parts_in layer ps) (parts_in layer ps)))
    by (inl early) = absurd (let e : nat_lt p.layer layer ≡ true = grind (arith, nat_tests) in
        let f : None ≡ Some z = told ∙ ap (λ (b : Bool). let o : Option ℕ = cond b (Some z) None in o) e in cc)
    by (inr ge) = elim (cases_lt layer p.layer) [
      | inl gt ↦
          (let b : (p.layer == layer) ≡ false = grind (arith, nat_tests) in
          let none : parts_in layer ps ≡ [] = in_none layers block layer p.layer (0 + p.told.passes) ps r.5 gt in
          let e : nat_lt (f i) (layer + 1) ≡ false = grind (arith, nat_tests) in
          rw (b, none) e)
      | inr le ↦
          (let b : (p.layer == layer) ≡ true = (let e : p.layer ≡ layer = omega arith in grind (arith, nat_tests)) in
          let some : 1 ≤ p.told.passes = r.4 in
          let e : nat_lt (f i) (layer + 1) ≡ true = grind (arith, nat_tests) in
          let g : nat_lt 0 (p.told.passes + passes_of (parts_in layer ps)) ≡ true = grind (arith, nat_tests) in
          rw b (e ∙ sym g))
    ]

-- one that contributes has its leaf's zero planes
pub zero_of : (o : Option ℕ) (f : ℕ → ℕ) (i layer planes z : ℕ) (parts : List LeafPart) → 1 ≤ passes_of (parts_in layer parts) → o ≡ zero_told layer z parts → f i ≡ zero_leaf planes z parts → zero_planes o f i ≡ z
zero_of None f i layer planes z [] ge told of_leaf = absurd (omega arith)
zero_of None f i layer planes z (p ∷ ps) ge told of_leaf = of_leaf
zero_of (Some y) f i layer planes z [] ge told of_leaf = absurd (omega arith)
zero_of (Some y) f i layer planes z (p ∷ ps) ge told of_leaf = by (nat_lt p.layer layer) told
  where
    by : (b : Bool) → Some y ≡ cond b (Some z) None → y ≡ z
    by true e = (let same : y ≡ z = cc in same)
    by false e = absurd cc

-- ---- a block's entry
pub entry_included : (style layers layer planes block z : ℕ) (known : Known) (leaf : Leafed) → z ≡ leaf.zero → 1 ≤ passes_of (parts_in layer leaf.parts) → IsFit style layers planes block leaf → IsTold layer known leaf →
    IsIncluded style block planes z known (entry_written layer known leaf)
entry_included style layers layer planes block z known leaf of_leaf ge fit told =
    let l : IsLeaf style layers planes block leaf = fits_some style layers planes block layer leaf.zero leaf.parts ge fit.fits in
    let ps = parts_in layer leaf.parts in
    let below : leaf.zero < planes = l.zero_planes in
    let few : all_passes leaf.parts ≤ most_passes planes leaf.zero = l.few in
    let le : passes_before (layer + 1) leaf.parts ≤ all_passes leaf.parts = before_few (layer + 1) leaf.parts in
    let split : passes_before (layer + 1) leaf.parts ≡ passes_before layer leaf.parts + passes_of ps = before_split layer leaf.parts in
    let before : known.passes ≡ passes_before layer leaf.parts = told.passes in
    let short : AreShort ps = short_in layer leaf.parts fit.short in
    let follow : Follow block (0 + passes_before layer leaf.parts) ps = runs_in layers block layer 0 0 leaf.parts l.parts in
    let start : 0 + passes_before layer leaf.parts ≡ known.passes = omega arith in
    let fits : AllFit (known.lblock + raise_of known.lblock ps) ps = raise_fits known.lblock ps short in
    let are : AreHeaderParts (known.lblock + raise_of known.lblock ps) block known.passes (map (λ (p : HeaderPart). p.passes) ps) ps =
    parts_are (known.lblock + raise_of known.lblock ps) block known.passes ps (subst (λ (n : ℕ). Follow block n ps) start follow) fits short in
    let runs : map (λ (p : HeaderPart). p.passes) ps ≡ cut style known.passes (passes_of ps) = (l.cuts layer).runs ∙ ap (λ (n : ℕ). cut style n (passes_of ps)) (sym before) in
    record {
      below = subst (λ (n : ℕ). n < planes) (sym of_leaf) below;
      count = record { some = ge; few = (l.cuts layer).few };
      few = subst (λ (n : ℕ). known.passes + passes_of ps ≤ most_passes planes n) (sym of_leaf) (let s : known.passes + passes_of ps ≤ most_passes planes leaf.zero = omega arith in s);
      parts = subst (λ (r : List ℕ). AreHeaderParts (known.lblock + raise_of known.lblock ps) block known.passes r ps) runs are;
    }

pub entry_nothing : (style layers layer planes block : ℕ) (known : Known) (leaf : Leafed) → passes_of (parts_in layer leaf.parts) ≡ 0 → IsFit style layers planes block leaf → entry_written layer known leaf ≡ nothing
entry_nothing style layers layer planes block known leaf e fit =
    let none : parts_in layer leaf.parts ≡ [] = none_in layers block layer 0 0 leaf.parts (fits_runs style layers planes block leaf.zero leaf.parts fit.fits) e in
    ap (λ (ps : List HeaderPart). let e : Entry = record { passes = passes_of ps; raise = raise_of known.lblock ps; parts = ps } in e) none

-- ---- what is told afterwards
first_here : (layers layer block z : ℕ) (parts : List LeafPart) → AreRuns layers block 0 0 parts → 1 ≤ passes_of (parts_in layer parts) → Some z ≡ zero_told (layer + 1) z parts
first_here layers layer block z [] r ge = absurd (omega arith)
first_here layers layer block z (p ∷ ps) r ge = elim (cases_lt layer p.layer) [
  | inl gt ↦ absurd
      (let b : (p.layer == layer) ≡ false = grind (arith, nat_tests) in
      let none : cond (p.layer == layer) (p.told ∷ parts_in layer ps) (parts_in layer ps) ≡ [] = ap (λ (x : Bool). cond x (p.told ∷ parts_in layer ps) (parts_in layer ps)) b ∙ in_none layers block layer p.layer (0 + p.told.passes) ps r.5 gt in
      let zero : passes_of (parts_in layer (p ∷ ps)) ≡ 0 = ap passes_of none in
      omega arith)
  | inr le ↦ (let e : nat_lt p.layer (layer + 1) ≡ true = grind (arith, nat_tests) in sym (ap (λ (b : Bool). let o : Option ℕ = cond b (Some z) None in o) e))
]

pub told_more : (style layers layer planes block z : ℕ) (known : Known) (leaf : Leafed) → z ≡ leaf.zero → 1 ≤ passes_of (parts_in layer leaf.parts) → IsFit style layers planes block leaf → IsTold layer known leaf →
    IsTold (layer + 1) (block_after known z (entry_written layer known leaf)) leaf
told_more style layers layer planes block z known leaf of_leaf ge fit told = record {
  passes = ap (λ (n : ℕ). n + passes_of (parts_in layer leaf.parts)) told.passes ∙ sym (before_split layer leaf.parts);
  zero = ap (λ (n : ℕ). let o : Option ℕ = Some n in o) of_leaf ∙ first_here layers layer block leaf.zero leaf.parts (fits_runs style layers planes block leaf.zero leaf.parts fit.fits) ge;
  lblock = raise_few known.lblock (parts_in layer leaf.parts) told.lblock;
}

same_told : (layer z : ℕ) (parts : List LeafPart) (layers block : ℕ) → AreRuns layers block 0 0 parts → passes_of (parts_in layer parts) ≡ 0 → zero_told layer z parts ≡ zero_told (layer + 1) z parts
same_told layer z [] layers block r e = refl
same_told layer z (p ∷ ps) layers block r e = by (p.layer == layer) refl e
  where
    by : (b : Bool) → (p.layer == layer) ≡ b → passes_of (cond b (p.told ∷ parts_in layer ps) (parts_in layer ps)) ≡ 0 → cond (nat_lt p.layer layer) (Some z) None ≡ cond (nat_lt p.layer (layer + 1)) (Some z) None
    by true is e = absurd (let some : 1 ≤ p.told.passes = r.4 in omega arith)
    by false is e =
        let same : nat_lt p.layer layer ≡ nat_lt p.layer (layer + 1) = grind (arith, nat_tests) in
        ap (λ (b : Bool). let o : Option ℕ = cond b (Some z) None in o) same

pub told_still : (style layers layer planes block : ℕ) (known : Known) (leaf : Leafed) → passes_of (parts_in layer leaf.parts) ≡ 0 → IsFit style layers planes block leaf → IsTold layer known leaf → IsTold (layer + 1) known leaf
told_still style layers layer planes block known leaf e fit told =
    let split : passes_before (layer + 1) leaf.parts ≡ passes_before layer leaf.parts + passes_of (parts_in layer leaf.parts) = before_split layer leaf.parts in
    let passes : known.passes ≡ passes_before layer leaf.parts = told.passes in
    record {
      passes = omega arith;
      zero = told.zero ∙ same_told layer leaf.zero leaf.parts layers block (fits_runs style layers planes block leaf.zero leaf.parts fit.fits) e;
      lblock = told.lblock;
    }

-- ---- an entry, and what is known after it
pub entry_told : (style layers layer planes block z : ℕ) (known : Known) (leaf : Leafed) (b : Bool) → nat_lt 0 (passes_of (parts_in layer leaf.parts)) ≡ b → (1 ≤ passes_of (parts_in layer leaf.parts) → z ≡ leaf.zero) →
    IsFit style layers planes block leaf → IsTold layer known leaf → MatchBool b (IsIncluded style block planes z known (entry_written layer known leaf)) (entry_written layer known leaf ≡ nothing)
entry_told style layers layer planes block z known leaf true is of_leaf fit told =
    let ge : 1 ≤ passes_of (parts_in layer leaf.parts) = grind (arith, nat_tests) in
    entry_included style layers layer planes block z known leaf (of_leaf ge) ge fit told
entry_told style layers layer planes block z known leaf false is of_leaf fit told =
    entry_nothing style layers layer planes block known leaf (let e : passes_of (parts_in layer leaf.parts) ≡ 0 = grind (arith, nat_tests) in e) fit

-- what is known of a block has the ranges of a precinct that is read
pub told_known : (style layers layer planes block : ℕ) (known : Known) (leaf : Leafed) → planes ≤ 255 → IsFit style layers planes block leaf → IsTold layer known leaf → IsKnown known
told_known style layers layer planes block known leaf le fit told =
    let a = few leaf.zero leaf.parts fit.fits in
    let before : passes_before layer leaf.parts ≤ all_passes leaf.parts = before_few layer leaf.parts in
    let is : known.passes ≡ passes_before layer leaf.parts = told.passes in
    let small : known.lblock ≤ 32 = told.lblock in
    record { passes = omega arith; lblock = omega arith }
  where
    few : (z : ℕ) (parts : List LeafPart) → FitsLeaf style layers planes block (record { zero = z; parts = parts }) parts → all_passes parts ≤ 765
    few z [] f = omega arith
    few z (p ∷ ps) f = let l : all_passes (p ∷ ps) ≤ most_passes planes z = f.few in omega arith
