-- Segments of headers that were read: each is in range, and so is each that is chosen by precedence.
use Rattle.std.proofs.Common.{◌≡◌, ◌∙◌, ◌+◌, ◌*◌, ◌==◌, ◌&&◌, ◌||◌, nat_lt, ℕ, Bool, true, false, not, arith, List, [], ◌∷◌, ◌++◌, length, refl, sym, ap, Option, Some, None, ◌⊎◌, inl, inr}
use Rattle.std.specs.List.{All}
use Rattle.std.specs.Option.{option_or, is_some}
use Rattle.std.proofs.lemmas.List.Folds.{list_any-append}
use Rattle.std.proofs.lemmas.List.Elements.{All-nil, All-cons, All-head, All-tail, All-append, All-filter}
use Rattle.jx_marker.specs.declared.Segment.{Segment}
use Rattle.jx_marker.specs.declared.Segment.TheVariants as segment
use Rattle.jx_marker.specs.declared.Shape.{Shape}
use Rattle.jx_marker.specs.declared.Quant.{Quant}
use Rattle.jx_marker.specs.declared.Cod.{Cod}
use Rattle.jx_marker.specs.Ranges.{InRange, ShapeInRange, CodInRange}
use Rattle.jx_base.proofs.Tests.{or_false}
use Rattle.jx_codestream.specs.declared.headers.HeaderKind.{HeaderKind}
use Rattle.jx_codestream.specs.declared.parts.PlacedPart.{PlacedPart}
use Rattle.jx_codestream.specs.Headers.{slot_of, has_slot, is_ppt, without_ppt}
use Rattle.jx_codestream.specs.Tiles.{in_slot, headers_of, first_header}
use Rattle.jx_codestream.specs.Params.{shape_in, quant_in, cod_in, chosen}
use Rattle.jx_codestream.specs.First.{lacks_default}
use Rattle.jx_codestream.specs.Spells.{TilePart, part_bytes, part_of, placed, AreSegments, AreTileParts}
use Rattle.std.proofs.lemmas.Bool.{not-false, and_parts, or_parts, eqb-true, cases_Bool}

has_slot_on : (slot : ℕ) (before : List Segment) (s : Segment) → has_slot slot (before ++ s ∷ []) ≡ (has_slot slot before || (slot_of s == slot))
has_slot_on slot before s = list_any-append (λ (x : Segment). slot_of x == slot) before (s ∷ []) ∙ ap (λ (x : Bool). has_slot slot before || x) (or_false (slot_of s == slot))

-- each segment of a header is in range

pub segments_fit : (kind : HeaderKind) (comps : ℕ) (before segments : List Segment) → AreSegments kind comps before segments → All (InRange comps) segments
segments_fit kind comps before [] h = All-nil (InRange comps)
segments_fit kind comps before (s ∷ ss) h = All-cons (InRange comps) s ss h.0.range (segments_fit kind comps (before ++ s ∷ []) ss h.1)

-- without PPT they stand as they did, with fewer before them

once_more : (some one other : Bool) → (some && one) ≡ false → (one ≡ false → other ≡ false) → (some && other) ≡ false
once_more false one other h fewer = refl
once_more true one other h fewer = fewer h

pub without_stand : (kind : HeaderKind) (comps : ℕ) (before other segments : List Segment) → ((slot : ℕ) → has_slot slot before ≡ false → has_slot slot other ≡ false)
    → AreSegments kind comps before segments → AreSegments kind comps other (without_ppt segments)
without_stand kind comps before other [] fewer h = tt
without_stand kind comps before other (s ∷ ss) fewer h = elim (cases_Bool (is_ppt s)) [
  | inl t ↦ rw t (without_stand kind comps (before ++ s ∷ []) other ss (λ slot none. fewer slot (or_parts (has_slot slot before) _ (sym (has_slot_on slot before s) ∙ none)).0) h.1)
  | inr f ↦ rw f (
    record {
      range = h.0.range;
      stands = h.0.stands;
      once_packed = h.0.once_packed;
      inside = h.0.inside;
      once = once_more (nat_lt 0 (slot_of s)) (has_slot (slot_of s) before) (has_slot (slot_of s) other) h.0.once (fewer (slot_of s));
    },
    without_stand kind comps (before ++ s ∷ []) (other ++ s ∷ []) ss
        (λ slot none. (let both = or_parts (has_slot slot before) (slot_of s == slot) (sym (has_slot_on slot before s) ∙ none) in
        has_slot_on slot other s ∙ rw (fewer slot both.0, both.1) refl)) h.1,
  )
]

pub held_stand : (kind : HeaderKind) (comps : ℕ) (segments : List Segment) → AreSegments kind comps [] segments → AreSegments kind comps [] (without_ppt segments)
held_stand kind comps segments h = without_stand kind comps [] [] segments (λ slot none. none) h

abbrev pub HasFitting : ℕ → PlacedPart → Type 0
HasFitting comps p = All (InRange comps) p.header

pub parts_fit : (packed : Bool) (comps tiles : ℕ) (rest : List ℕ) (before : List PlacedPart) (at : ℕ) (parts : List TilePart) → AreTileParts packed comps tiles rest before at parts
    → All (HasFitting comps) (placed comps at parts)
parts_fit packed comps tiles rest before at [] h = All-nil (HasFitting comps)
parts_fit packed comps tiles rest before at (p ∷ ps) h =
    All-cons (HasFitting comps) (part_of comps at p) (placed comps (at + length (part_bytes comps p)) ps)
    (All-filter (λ (s : Segment). not (is_ppt s)) (InRange comps) p.header (segments_fit _ comps [] p.header h.0.header))
    (parts_fit packed comps tiles rest (before ++ part_of comps at p ∷ []) (at + length (part_bytes comps p)) ps h.2)

pub first_fits : (comps : ℕ) (own : List PlacedPart) → All (HasFitting comps) own → All (InRange comps) (first_header own)
first_fits comps [] h = All-nil (InRange comps)
first_fits comps (p ∷ later) h = All-head (HasFitting comps) p later h

pub headers_fit : (comps : ℕ) (own : List PlacedPart) → All (HasFitting comps) own → All (InRange comps) (headers_of own)
headers_fit comps [] h = All-nil (InRange comps)
headers_fit comps (p ∷ later) h =
    All-append (InRange comps) p.header (headers_of later) (All-head (HasFitting comps) p later h) (headers_fit comps later (All-tail (HasFitting comps) p later h))

-- the segment that is there, if any, is in range and of one of two slots

abbrev pub IsChosen : ℕ → ℕ → ℕ → Option Segment → Type 0
IsChosen comps own default None = Unit {0}
IsChosen comps own default (Some s) = InRange comps s × ((slot_of s ≡ own) ⊎ (slot_of s ≡ default))

pub slot_chosen : (comps own default slot : ℕ) (segments : List Segment) → All (InRange comps) segments → (slot ≡ own) ⊎ (slot ≡ default)
    → IsChosen comps own default (in_slot slot segments)
slot_chosen comps own default slot [] fit one = tt
slot_chosen comps own default slot (s ∷ ss) fit one =
    elim (cases_Bool (slot_of s == slot)) [
      | inl t ↦ rw t (All-head (InRange comps) s ss fit, elim one [ inl e ↦ inl (let q = eqb-true (slot_of s) slot t in omega (arith, q, e)) | inr e ↦ inr (let q = eqb-true (slot_of s) slot t in omega (arith, q, e)) ])
      | inr f ↦ rw f (slot_chosen comps own default slot ss (All-tail (InRange comps) s ss fit) one)
    ]

pub or_chosen : (comps own default : ℕ) (first later : Option Segment) → IsChosen comps own default first → IsChosen comps own default later
    → IsChosen comps own default (option_or first later)
or_chosen comps own default None later a b = b
or_chosen comps own default (Some s) later a b = a

pub slot_there : (slot : ℕ) (segments : List Segment) → has_slot slot segments ≡ true → is_some (in_slot slot segments) ≡ true
slot_there slot [] h = absurd (cc)
slot_there slot (s ∷ ss) h = elim (cases_Bool (slot_of s == slot)) [
  | inl t ↦ rw t refl
  | inr f ↦ rw f (slot_there slot ss (rw f at h))
]

pub or_there : (first later : Option Segment) → is_some later ≡ true → is_some (option_or first later) ≡ true
or_there None later h = h
or_there (Some s) later h = refl

-- the main header has and_parts defaults
pub defaults_there : (main : List Segment) → lacks_default main ≡ false → (has_slot 1 main ≡ true) × (has_slot 2 main ≡ true)
defaults_there main h = and_parts (has_slot 1 main) (has_slot 2 main) (not-false (has_slot 1 main && has_slot 2 main) h)

pub chosen_fits : (comps own default : ℕ) (tile main : List Segment) → All (InRange comps) tile → All (InRange comps) main
    → IsChosen comps own default (chosen own default tile main)
chosen_fits comps own default tile main here there =
    or_chosen comps own default _ _ (slot_chosen comps own default own tile here (inl refl))
    (or_chosen comps own default _ _ (slot_chosen comps own default default tile here (inr refl))
    (or_chosen comps own default _ _ (slot_chosen comps own default own main there (inl refl)) (slot_chosen comps own default default main there (inr refl))))

pub chosen_there : (own default : ℕ) (tile main : List Segment) → has_slot default main ≡ true → is_some (chosen own default tile main) ≡ true
chosen_there own default tile main h =
    or_there (in_slot own tile) _ (or_there (in_slot default tile) _ (or_there (in_slot own main) _ (slot_there default main h)))

-- so a component has a shape in range, a quantization and a COD

pub record IsShaped (o : Option Segment) : Type 0 where
  pub shape : Shape
  pub is : shape_in o ≡ Some shape
  pub fits : ShapeInRange shape

shaped : (comps comp : ℕ) (s : Segment) → InRange comps s → (slot_of s ≡ 261 + 3 * comp) ⊎ (slot_of s ≡ 1) → IsShaped (Some s)
shaped comps comp (segment.Cod cod) r one = record { shape = cod.shape; is = refl; fits = r.shape }
shaped comps comp (segment.Coc other shape) r one = record { shape = shape; is = refl; fits = r.fits }
shaped comps comp (segment.Qcc other quant) r one = absurd (omega arith)
shaped comps comp (segment.Rgn other shift) r one = absurd (omega arith)
shaped comps comp (segment.Ppm index bytes) r one = absurd (omega (arith, r.index_fits))
shaped comps comp (segment.Ppt index bytes) r one = absurd (omega (arith, r.index_fits))
shaped comps comp _ r one = absurd (omega arith)

pub shape_there : (comps comp : ℕ) (o : Option Segment) → IsChosen comps (261 + 3 * comp) 1 o → is_some o ≡ true → IsShaped o
shape_there comps comp None is there = absurd (cc)
shape_there comps comp (Some s) is there = shaped comps comp s is.0 is.1

pub record IsQuantized (o : Option Segment) : Type 0 where
  pub quant : Quant
  pub is : quant_in o ≡ Some quant

quantized : (comp : ℕ) (s : Segment) → (slot_of s ≡ 262 + 3 * comp) ⊎ (slot_of s ≡ 2) → IsQuantized (Some s)
quantized comp (segment.Qcd quant) one = record { quant = quant; is = refl }
quantized comp (segment.Qcc other quant) one = record { quant = quant; is = refl }
quantized comp (segment.Coc other shape) one = absurd (omega arith)
quantized comp (segment.Rgn other shift) one = absurd (omega arith)
quantized comp _ one = absurd (omega arith)

pub quant_there : (comps comp : ℕ) (o : Option Segment) → IsChosen comps (262 + 3 * comp) 2 o → is_some o ≡ true → IsQuantized o
quant_there comps comp None is there = absurd (cc)
quant_there comps comp (Some s) is there = quantized comp s is.1

pub record IsCoded (o : Option Segment) : Type 0 where
  pub cod : Cod
  pub is : cod_in o ≡ Some cod
  pub fits : CodInRange cod

coded : (comps : ℕ) (s : Segment) → InRange comps s → slot_of s ≡ 1 → IsCoded (Some s)
coded comps (segment.Cod cod) r one = record { cod = cod; is = refl; fits = r }
coded comps (segment.Coc other shape) r one = absurd (omega arith)
coded comps (segment.Qcc other quant) r one = absurd (omega arith)
coded comps (segment.Rgn other shift) r one = absurd (omega arith)
coded comps _ r one = absurd (omega arith)

is_one : (n : ℕ) → (n ≡ 1) ⊎ (n ≡ 1) → n ≡ 1
is_one n (inl e) = e
is_one n (inr e) = e

pub cod_there : (comps : ℕ) (o : Option Segment) → IsChosen comps 1 1 o → is_some o ≡ true → IsCoded o
cod_there comps None is there = absurd (cc)
cod_there comps (Some s) is there = coded comps s is.0 (is_one (slot_of s) is.1)
