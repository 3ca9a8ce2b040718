-- Tile-parts that are spelled are walked over.
use Rattle.std.proofs.Common.{◌≡◌, ◌≢◌, ◌∙◌, ◌<◌, ◌≤◌, ◌+◌, ◌-◌, ◌==◌, ◌&&◌, ℕ, Bool, true, false, nat_lt, arith, List, [], ◌∷◌, ◌++◌, length, drop, get_or, refl, sym, ap, subst, None, ◌⊎◌, inl, inr, add-zero}
use Rattle.std.specs.List.{flat_map}
use Rattle.std.proofs.lemmas.List.{append-nil, append_assoc, length-append, length-drop, get_or-drop}
use Rattle.jx_marker.specs.Codes.{SOT, EOC}
use Rattle.jx_marker.specs.declared.Segment.TheVariants as segment
use Rattle.jx_marker.specs.declared.Sot.{Sot}
use Rattle.jx_marker.specs.Segments.{spelling}
use Rattle.jx_marker.specs.Ranges.{SotInRange}
use Rattle.jx_codestream.specs.declared.headers.Header.{Header}
use Rattle.jx_codestream.specs.declared.parts.PlacedPart.{PlacedPart}
use Rattle.jx_codestream.specs.Headers.{stands_in, header_at, header_fault, without_ppt}
use Rattle.jx_codestream.specs.PackedHeaders.{heads_in}
use Rattle.jx_codestream.specs.Parts.{marker_at, sot_in, after_sot, kind_of, comes_out_of_turn, start_fault, sot_fault, sod_fault, end_of, part_header, part_at, fault_after, end_of_part, Parts, longest_parts}
use Rattle.jx_codestream.specs.Spells.{TilePart, all_bytes, head_bytes, part_bytes, part_of, placed, HasLength, IsTilePart, AreTileParts}
use Rattle.jx_codestream.proofs.PartLemmas.{sot_stands, start_clear, part_none, part_is, parts_stopped, parts_on, stop_at_eoc, go_on}
use Rattle.jx_codestream.proofs.SpellLemmas.{regroup, same_part}
use Rattle.jx_codestream.proofs.OneLemmas.{stands_there, drop_on, header_read, header_clear}
use Rattle.std.proofs.lemmas.Bool.{cases_Bool, eq-eqb, ne_eqb, le-ltb, lt-leb, and_right}

-- which marker stands at a place

pub marker_is : (b : List ℕ) (at code : ℕ) (rest : List ℕ) → drop at b ≡ 255 ∷ code ∷ rest → marker_at b at code ≡ true
marker_is b at code rest h =
    let first : get_or b at 0 ≡ 255 = sym (get_or-drop at b 0 0 ∙ ap (λ (n : ℕ). get_or b n 0) (add-zero at)) ∙ ap (λ (x : List ℕ). get_or x 0 0) h in
    let second : get_or b (at + 1) 0 ≡ code = sym (get_or-drop at b 1 0) ∙ ap (λ (x : List ℕ). get_or x 1 0) h in
    rw (eq-eqb (get_or b at 0) 255 first, eq-eqb (get_or b (at + 1) 0) code second) refl

pub marker_is_not : (b : List ℕ) (at code other : ℕ) (rest : List ℕ) → drop at b ≡ 255 ∷ code ∷ rest → code ≢ other → marker_at b at other ≡ false
marker_is_not b at code other rest h differs =
    let second : get_or b (at + 1) 0 ≡ code = sym (get_or-drop at b 1 0) ∙ ap (λ (x : List ℕ). get_or x 1 0) h in
    let no_such : (get_or b (at + 1) 0 == other) ≡ false = ne_eqb (get_or b (at + 1) 0) other (λ e. differs (sym second ∙ e)) in
    ap (λ (x : Bool). (get_or b at 0 == 255) && x) no_such ∙ and_right (get_or b at 0 == 255) false refl

pub sod_stands : (packed : Bool) (sot : Sot) → stands_in (kind_of packed sot) segment.Sod ≡ true
sod_stands false sot =
    elim (cases_Bool (sot.part == 0)) [
      | inl t ↦ rw t refl
      | inr f ↦ rw f refl
    ]
sod_stands true sot =
    elim (cases_Bool (sot.part == 0)) [
      | inl t ↦ rw t refl
      | inr f ↦ rw f refl
    ]

pub sot_size : (comps : ℕ) (sot : Sot) → length (spelling comps (segment.Sot sot)) ≡ 12
sot_size comps sot = refl

-- a SOT that is spelled
pub record SotRead (comps : ℕ) (b : List ℕ) (at : ℕ) (sot : Sot) (tail : List ℕ) : Type 0 where
  pub goes : marker_at b at EOC ≡ false
  pub clear : start_fault comps b at ≡ None
  pub value : sot_in b at ≡ sot
  pub after : after_sot b at ≡ at + 12
  pub there : drop (at + 12) b ≡ tail

pub sot_read : (comps : ℕ) (b : List ℕ) (at : ℕ) (sot : Sot) (tail : List ℕ) → SotInRange sot → drop at b ≡ spelling comps (segment.Sot sot) ++ tail → SotRead comps b at sot tail
sot_read comps b at sot tail range h =
    let there = stands_there comps b at (segment.Sot sot) tail range h in
    let here : marker_at b at SOT ≡ true = marker_is b at SOT (drop 2 (spelling comps (segment.Sot sot) ++ tail)) h in
    let same : segment.Sot (sot_in b at) ≡ segment.Sot sot = sym (sot_stands comps b at here) ∙ there.value in
    record {
      goes = marker_is_not b at SOT EOC (drop 2 (spelling comps (segment.Sot sot) ++ tail)) h (λ e. absurd (omega arith));
      clear = start_clear comps b at here there.rules;
      value = cc;
      after = ap (λ (n : ℕ). at + n) (there.takes ∙ sot_size comps sot);
      there = drop_on b at 12 (spelling comps (segment.Sot sot)) tail h (sot_size comps sot);
    }

-- where Psot is the tile-part's length, or it is 0 and only EOC follows
pub Ends : ℕ → TilePart → List ℕ → Type 0
Ends comps p tail = (p.sot.psot ≡ length (part_bytes comps p)) ⊎ ((p.sot.psot ≡ 0) × (tail ≡ 0xFF ∷ EOC ∷ []))

pub ends_named : (comps : ℕ) (p : TilePart) (tail : List ℕ) → p.sot.psot ≡ length (part_bytes comps p) → Ends comps p tail
unfolding Ends
ends_named comps p tail named = inl named

pub record PartRead (packed : Bool) (comps tiles : ℕ) (b : List ℕ) (before : List PlacedPart) (at : ℕ) (p : TilePart) : Type 0 where
  pub goes : marker_at b at EOC ≡ false
  pub clear : fault_after packed comps tiles b before at ≡ None
  pub value : part_at packed comps b at ≡ part_of comps at p
  pub inside : at < length b

module _ (packed : Bool) (comps tiles : ℕ) (b : List ℕ) (before : List PlacedPart) (at : ℕ) (p : TilePart) (tail : List ℕ) (is : IsTilePart packed comps tiles before p) (ends : Ends comps p tail)
    (h : drop at b ≡ part_bytes comps p ++ tail) where
  front : drop at b ≡ spelling comps (segment.Sot p.sot) ++ (all_bytes comps p.header ++ (spelling comps segment.Sod ++ (p.body ++ tail)))
  front = h ∙ sym (regroup (spelling comps (segment.Sot p.sot)) (all_bytes comps p.header) (spelling comps segment.Sod) p.body tail)

  sod : ℕ
  sod = at + 12 + length (all_bytes comps p.header)

  head : at + length (head_bytes comps p) ≡ sod + 2
  unfolding sod
  head = omega (arith, sot_size comps p.sot, length-append (spelling comps (segment.Sot p.sot)) (all_bytes comps p.header ++ spelling comps segment.Sod), length-append (all_bytes comps p.header) (spelling comps segment.Sod))

  whole : at + length (part_bytes comps p) ≡ sod + 2 + length p.body
  whole = omega (arith, head, length-append (head_bytes comps p) p.body)

  after : sod ≡ at + 12 + length (all_bytes comps p.header)
  unfolding sod
  after = refl

  total : length b ≡ at + length (part_bytes comps p) + length tail
  total =
      let left : length b - at ≡ length (part_bytes comps p) + length tail = sym (length-drop at b) ∙ ap (λ (x : List ℕ). length x) h ∙ length-append (part_bytes comps p) tail in
      omega (arith, left, whole, after)

  sot_there : SotRead comps b at p.sot (all_bytes comps p.header ++ (spelling comps segment.Sod ++ (p.body ++ tail)))
  sot_there = sot_read comps b at p.sot (all_bytes comps p.header ++ (spelling comps segment.Sod ++ (p.body ++ tail))) is.range front

  header_is : part_header packed comps b at ≡ record { segments = p.header; end = sod }
  unfolding sod
  header_is =
      ap (λ (s : Sot). header_at (kind_of packed s) comps b (after_sot b at)) sot_there.value ∙ ap (λ (n : ℕ). header_at (kind_of packed p.sot) comps b n) sot_there.after
      ∙ header_read (kind_of packed p.sot) comps b p.header [] (at + 12) segment.Sod (p.body ++ tail) is.header tt refl (sod_stands packed p.sot) sot_there.there

  header_none : header_fault (kind_of packed (sot_in b at)) comps b (after_sot b at) ≡ None
  header_none =
      ap (λ (s : Sot). header_fault (kind_of packed s) comps b (after_sot b at)) sot_there.value ∙ ap (λ (n : ℕ). header_fault (kind_of packed p.sot) comps b n) sot_there.after
      ∙ header_clear (kind_of packed p.sot) comps b p.header (at + 12) segment.Sod (p.body ++ tail) is.header tt refl (sod_stands packed p.sot) sot_there.there

  fits : at + p.sot.psot ≤ length b
  unfolding Ends
  fits = elim ends [
    | inl named ↦ omega (arith, total, named)
    | inr last ↦ omega (arith, total, last.0)
  ]

  not_short : (nat_lt 0 p.sot.psot && nat_lt p.sot.psot 14) ≡ false
  unfolding Ends
  not_short = elim ends [
    | inl named ↦
        let long : 14 ≤ p.sot.psot = omega (arith, named, whole, after) in
        ap (λ (x : Bool). nat_lt 0 p.sot.psot && x) (le-ltb p.sot.psot 14 long) ∙ and_right (nat_lt 0 p.sot.psot) false refl
    | inr last ↦ let none : p.sot.psot ≤ 0 = omega (arith, last.0) in rw (le-ltb 0 p.sot.psot none) refl
  ]

  sot_none : sot_fault tiles b at p.sot (comes_out_of_turn before p.sot) ≡ None
  unfolding sot_fault
  sot_none = rw (lt-leb tiles p.sot.tile is.tile, is.turn, not_short, le-ltb (length b) (at + p.sot.psot) fits) refl

  end_is : end_of b at p.sot ≡ at + length (part_bytes comps p)
  unfolding Ends
  end_is = elim ends [
    | inl named ↦
        let some : (p.sot.psot == 0) ≡ false = ne_eqb p.sot.psot 0 (λ e. absurd (omega (arith, named, whole, after))) in
        rw some (omega (arith, named))
    | inr last ↦ rw (eq-eqb p.sot.psot 0 last.0) (omega (arith, total, ap (λ (x : List ℕ). length x) last.1))
  ]

  sod_none : sod_fault b at p.sot sod ≡ None
  unfolding Ends sod_fault
  sod_none = elim ends [
    | inl named ↦
        let some : (p.sot.psot == 0) ≡ false = ne_eqb p.sot.psot 0 (λ e. absurd (omega (arith, named, whole, after))) in
        let long : sod + 2 ≤ at + p.sot.psot = omega (arith, named, whole) in
        rw (some, le-ltb (at + p.sot.psot) (sod + 2) long) refl
    | inr last ↦
        let place : length b - 2 ≡ at + length (part_bytes comps p) = omega (arith, total, ap (λ (x : List ℕ). length x) last.1) in
        let there : drop (length b - 2) b ≡ 0xFF ∷ EOC ∷ [] = ap (λ (n : ℕ). drop n b) place ∙ drop_on b at (length (part_bytes comps p)) (part_bytes comps p) tail h refl ∙ last.1 in
        let long : sod + 2 ≤ length b - 2 = omega (arith, place, whole) in
        rw (eq-eqb p.sot.psot 0 last.0, marker_is b (length b - 2) EOC [] there, le-ltb (length b - 2) (sod + 2) long) refl
  ]

  pub part_read : PartRead packed comps tiles b before at p
  part_read =
      let P : Sot → Type 0 = λ s. sot_fault tiles b at s (comes_out_of_turn before s) ≡ None in
      let Q : Sot → Type 0 = λ s. sod_fault b at s (part_header packed comps b at).end ≡ None in
      let last : sod_fault b at p.sot (part_header packed comps b at).end ≡ None = ap (λ (x : Header). sod_fault b at p.sot x.end) header_is ∙ sod_none in
      record {
        goes = sot_there.goes;
        clear = part_none packed comps tiles b (comes_out_of_turn before (sot_in b at)) at sot_there.clear (subst P (sym sot_there.value) sot_none) header_none (subst Q (sym sot_there.value) last);
        value = sym (part_is packed comps b at p.sot (record { segments = p.header; end = sod }) (without_ppt p.header) (at + length (part_bytes comps p)) (heads_in comps (after_sot b at) p.header) (sym sot_there.value) (sym header_is) refl (sym end_is) refl)
            ∙ same_part at p.sot (without_ppt p.header) (without_ppt p.header) (heads_in comps (after_sot b at) p.header) (heads_in comps (at + length (spelling comps (segment.Sot p.sot))) p.header) (sod + 2) (at + length (head_bytes comps p)) (at + length (part_bytes comps p) - (sod + 2)) (length p.body) refl (ap (λ (n : ℕ). heads_in comps n p.header) (sot_there.after ∙ ap (λ (n : ℕ). at + n) (sym (sot_size comps p.sot)))) (sym head) (omega (arith, whole));
        inside = omega (arith, total, whole, after);
      }

parts_same : (one other : List PlacedPart) (end place : ℕ) → one ≡ other → end ≡ place → ◌≡◌ {A = Parts} (record { parts = one; end = end }) (record { parts = other; end = place })
parts_same one other end place same ends = rw (same, ends) refl

ends_of : (comps : ℕ) (p : TilePart) (ps : List TilePart) (rest : List ℕ) → HasLength comps p ps rest → Ends comps p (flat_map (part_bytes comps) ps ++ (0xFF ∷ EOC ∷ rest))
unfolding Ends
ends_of comps p ps rest has = elim has [
  | inl named ↦ ends_named comps p (flat_map (part_bytes comps) ps ++ (0xFF ∷ EOC ∷ rest)) named
  | inr last ↦ inr (last.0, ap (λ (x : List TilePart). flat_map (part_bytes comps) x ++ (0xFF ∷ EOC ∷ rest)) last.1 ∙ ap (λ (x : List ℕ). 0xFF ∷ EOC ∷ x) last.2)
]

-- tile-parts that are spelled, with EOC after them
pub parts_read : (packed : Bool) (comps tiles : ℕ) (b : List ℕ) (ps : List TilePart) (before : List PlacedPart) (at : ℕ) (rest : List ℕ) → AreTileParts packed comps tiles rest before at ps
    → drop at b ≡ flat_map (part_bytes comps) ps ++ (0xFF ∷ EOC ∷ rest)
    → longest_parts packed comps tiles b (length b) before at ≡ record { parts = before ++ placed comps at ps; end = at + length (flat_map (part_bytes comps) ps) }
parts_read packed comps tiles b [] before at rest are h =
    parts_stopped packed comps tiles b (length b) before at (stop_at_eoc packed comps tiles b before at (marker_is b at EOC rest h)) ∙ parts_same before (before ++ []) at (at + 0) (sym (append-nil before)) (sym (add-zero at))
parts_read packed comps tiles b (p ∷ ps) before at rest are h =
    let tail = flat_map (part_bytes comps) ps ++ (0xFF ∷ EOC ∷ rest) in
    let front : drop at b ≡ part_bytes comps p ++ tail = h ∙ append_assoc (part_bytes comps p) (flat_map (part_bytes comps) ps) (0xFF ∷ EOC ∷ rest) in
    let read = part_read packed comps tiles b before at p tail are.0 (ends_of comps p ps rest are.1) front in
    let later : drop (at + length (part_bytes comps p)) b ≡ tail = drop_on b at (length (part_bytes comps p)) (part_bytes comps p) tail front refl in
    let end : end_of_part (part_at packed comps b at) ≡ at + length (part_bytes comps p) = ap end_of_part read.value ∙ omega (arith, length-append (head_bytes comps p) p.body) in
    parts_on packed comps tiles b before at read.inside (go_on packed comps tiles b before at read.goes read.clear)
    ∙ ap (λ (n : ℕ). longest_parts packed comps tiles b (length b) (before ++ part_at packed comps b at ∷ []) n) end
    ∙ ap (λ (x : PlacedPart). longest_parts packed comps tiles b (length b) (before ++ x ∷ []) (at + length (part_bytes comps p))) read.value
    ∙ parts_read packed comps tiles b ps (before ++ part_of comps at p ∷ []) (at + length (part_bytes comps p)) rest are.2 later
    ∙ parts_same ((before ++ part_of comps at p ∷ []) ++ placed comps (at + length (part_bytes comps p)) ps) (before ++ placed comps at (p ∷ ps))
    (at + length (part_bytes comps p) + length (flat_map (part_bytes comps) ps)) (at + length (flat_map (part_bytes comps) (p ∷ ps)))
    (append_assoc before (part_of comps at p ∷ []) (placed comps (at + length (part_bytes comps p)) ps))
    (omega (arith, length-append (part_bytes comps p) (flat_map (part_bytes comps) ps)))
