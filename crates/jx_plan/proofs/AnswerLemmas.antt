-- Of a rule and a stream there is an answer: nothing is in the way of its plan, or a cause is.
use Rattle.std.proofs.Common.{◌≡◌, ◌<◌, ◌≤◌, ◌⊎◌, ◌^◌, ap, refl, arith, ℕ, suc, Bool, true, false, List, length, inl, inr, slice_index_or, Option, None, Some}
use Rattle.std.proofs.lemmas.Bool.{cases_eq, cases_lt}
use Rattle.jx_base.specs.declared.pieces.Block.{Block}
use Rattle.jx_geom.specs.declared.shape.CompShape.{CompShape}
use Rattle.jx_geom.specs.Geometry.{no_shape}
use Rattle.jx_geom.specs.Rects.{block_across, block_down}
use Rattle.jx_geom.specs.Same.{SameBlocks}
use Rattle.jx_progression.specs.declared.names.PacketName.{PacketName}
use Rattle.jx_progression.proofs.ExistLemmas.{orders_exist}
use Rattle.jx_progression.proofs.OrderLemmas.{one_order}
use Rattle.jx_codestream.specs.declared.Stream.{Stream}
use Rattle.jx_codestream.specs.First.{tile_number}
use Rattle.jx_codestream.specs.InRange.{StreamInRange}
use Rattle.jx_codestream.specs.Shapes.{geometry, layers_of, shapes_of, tile_at}
use Rattle.jx_tile.specs.Totals.{packet_total, totals_fault}
use Rattle.jx_tier2_reader.proofs.CoverEither.{cover_or, search_first}
use Rattle.jx_codestream.proofs.RangeLemmas.{shapes_length}
use Rattle.jx_tile.proofs.TotalLemmas.{geometry_fits}
use Rattle.jx_options.specs.declared.PartChoice.{PartChoice}
use Rattle.jx_plan.specs.declared.faults.PlanFault.{PlanFault}
use Rattle.jx_plan.specs.declared.faults.PlanFault.TheVariants as fault
use Rattle.jx_plan.specs.Causal.{first_broken}
use Rattle.jx_layers.specs.Rule.{Rule}
use Rattle.jx_plan.specs.Fits.{Fits, IsSameAt, IsUnfit, KeepsBlocks, first_zero}
use Rattle.jx_plan.specs.Causes.{IsLate}
use Rattle.jx_tile_parts.specs.Groups.{HasFewEntries, HasFewParts, HasManyParts, IsPartedAt, groups_of, most_parts}
use Rattle.jx_plan.specs.Profile.{unclaimed}
use Rattle.jx_plan.specs.Headers.{comp_written, with_layers}
use Rattle.jx_plan.specs.Plan.{MayBePlanned, headers_with, most_packets}
use Rattle.jx_plan.specs.Planned.{CanBePlannedBy, HasPlanCause, IsCrowded, MakesLayers, layers_of_rule}
use Rattle.jx_options.specs.Wanted.{MayBeWanted, Wanted}
use Rattle.jx_plan.proofs.FitLemmas.{all_at, all_made}
use Rattle.jx_plan.proofs.LayerLaws.{CrowdLaws}
use Rattle.jx_plan.proofs.PartedLemmas.{entries_or}
use Rattle.jx_plan.proofs.PlanLemmas.{headers_in_range, headers_pass}
use Rattle.jx_plan.proofs.StreamLemmas.{tile_number_stays}
use Rattle.jx_plan.specs.Changes.{has_long, has_outside, main_order}
use Rattle.jx_plan.specs.Strays.{HasNoStray, HasNoStrayIn, IsStray}
use Rattle.jx_tile.specs.Covered.{IsWhole}

abbrev Or : Type 0 → Type 0
Or P = P ⊎ (P → ⊥)

same_or : (s t : CompShape) (r : ℕ) → Or (IsSameAt s t r)
same_or s t r = elim (cases_eq (block_across s r) (block_across t r)) [
  | inl e ↦ elim (cases_eq (block_down s r) (block_down t r)) [
    | inl h ↦ inl (e, h)
    | inr other ↦ inr (λ same. other same.1)
  ]
  | inr other ↦ inr (λ same. other same.0)
]

module _ (precincts : Option (List ℕ)) where
  comp_or : (s : CompShape) → Or (SameBlocks s (comp_written precincts s))
  comp_or s =
      let t : CompShape = comp_written precincts s in
      elim (search_first (IsSameAt s t) (λ r. IsSameAt s t r → ⊥) (suc s.levels) (λ r lt. same_or s t r)) [
        | inl all ↦ inl (record {
          step_across = refl;
          step_down = refl;
          levels = refl;
          across = λ r le. (all r (omega arith)).0;
          down = λ r le. (all r (omega arith)).1;
        })
        | inr some ↦ inr (λ same. some.1.1.1 (same.across some.0 (let lt = some.1.0 in omega arith), same.down some.0 (let lt = some.1.0 in omega arith)))
      ]

  keeps_or : (s : Stream) (t : ℕ) → Or (KeepsBlocks precincts s t)
  keeps_or s t =
      let xs : List CompShape = shapes_of s t in
      let P : ℕ → Type 0 = λ c. SameBlocks (slice_index_or xs c no_shape) (comp_written precincts (slice_index_or xs c no_shape)) in
      elim (search_first P (λ c. P c → ⊥) (length xs) (λ c lt. comp_or (slice_index_or xs c no_shape))) [
        | inl all ↦ inl (all_made precincts xs all)
        | inr some ↦ inr (λ keeps. some.1.1.1 (all_at precincts xs some.0 keeps some.1.0))
      ]

  abbrev FitsOr : Stream → Type 0
  FitsOr s = Fits precincts s ⊎ ((number place : ℕ) × IsUnfit s precincts number place)

  zero_or : (s : Stream) (o : Option ℕ) → first_zero precincts s ≡ o → FitsOr s
  zero_or s (Some place) e = inr (3, place, inl (refl, e))
  zero_or s None e = elim (search_first (KeepsBlocks precincts s) (λ t. KeepsBlocks precincts s t → ⊥) (tile_number s.siz) (λ t lt. keeps_or s t)) [
    | inl all ↦ inl (record { above = e; blocks = all })
    | inr some ↦ inr (2, some.0, inr (refl, record { above = e; inside = some.1.0; changed = some.1.1.1; lowest = some.1.1.0 }))
  ]

  fits_or : (s : Stream) → FitsOr s
  fits_or s = zero_or s (first_zero precincts s) refl

parts_or : (parts : PartChoice) (s : Stream) (t : ℕ) → StreamInRange s → totals_fault s ≡ None → t < tile_number s.siz → HasFewParts parts s t ⊎ HasManyParts parts s t
parts_or parts s t range none inside =
    let list = orders_exist (geometry s t) (layers_of s t) (tile_at s t).progressions (length (tile_at s t).progressions) (geometry_fits s t range none inside) in
    elim (cases_lt most_parts (length (groups_of parts list.0))) [
      | inl many ↦ inr (record { names = list.0; order = list.1; many = many })
      | inr few ↦ inl (λ names order.
          let same : names ≡ list.0 = one_order (geometry s t) (layers_of s t) (tile_at s t).progressions (length (tile_at s t).progressions) names list.0 order list.1 in
          omega (arith, few, ap (λ (xs : List PacketName). length (groups_of parts xs)) same))
    ]

parted_or : (parts : PartChoice) (s : Stream) → StreamInRange s → totals_fault s ≡ None
    → ((t : ℕ) → t < tile_number s.siz → HasFewParts parts s t) ⊎ ((place : ℕ) × IsPartedAt parts s place)
parted_or parts s range none =
    elim (search_first (HasFewParts parts s) (HasManyParts parts s) (tile_number s.siz) (λ t inside. parts_or parts s t range none inside)) [
      | inl all ↦ inl all
      | inr some ↦ inr (some.0, record { inside = some.1.0; many = some.1.1.1; lowest = some.1.1.0 })
    ]

whole_or : (s : Stream) (t : ℕ) → StreamInRange s → totals_fault s ≡ None → t < tile_number s.siz → IsWhole s t ⊎ (IsWhole s t → ⊥)
whole_or s t range none inside =
    elim (cover_or (geometry s t) (layers_of s t) (tile_at s t).progressions (omega (arith, shapes_length s t, range.few_comps))) [
      | inl whole ↦ inl whole
      | inr lacks ↦ inr (λ whole. lacks.2 (whole lacks.0 lacks.1))
    ]

module _ (s : Stream) (w : Wanted) (layers : ℕ) (range : StreamInRange (headers_with w layers s)) (none : totals_fault (headers_with w layers s) ≡ None) where
  tile_stray : (t : ℕ) → t < tile_number s.siz → HasNoStrayIn s w layers t ⊎ (HasNoStrayIn s w layers t → ⊥)
  tile_stray t inside = by (has_long (length s.siz.comps) w.changes (main_order s.main) (tile_at s t)) refl
    where
      by : (long : Bool) → has_long (length s.siz.comps) w.changes (main_order s.main) (tile_at s t) ≡ long → HasNoStrayIn s w layers t ⊎ (HasNoStrayIn s w layers t → ⊥)
      by true e = inr (λ placed. let f = placed.room in absurd (cc))
      by false e = elim (whole_or (headers_with w layers s) t range none (omega (arith, inside, tile_number_stays (with_layers w layers) s))) [
        | inl whole ↦ inl (record { room = e; whole = whole })
        | inr not ↦ inr (λ placed. not placed.whole)
      ]

  stray_or : HasNoStray s w layers ⊎ ((place : ℕ) × IsStray s w layers place)
  stray_or = by (has_outside (length s.siz.comps) w.changes) refl
    where
      by : (out : Bool) → has_outside (length s.siz.comps) w.changes ≡ out → HasNoStray s w layers ⊎ ((place : ℕ) × IsStray s w layers place)
      by true e = inr (0, inl (e, refl))
      by false e = elim (search_first (HasNoStrayIn s w layers) (λ t. HasNoStrayIn s w layers t → ⊥) (tile_number s.siz) tile_stray) [
        | inl all ↦ inl (record { comps = e; each = all })
        | inr some ↦ inr (some.0, inr (e, record { inside = some.1.0; stray = some.1.1.1; lowest = some.1.1.0 }))
      ]

module _ (crowds : CrowdLaws) (s : Stream) (blocks : List Block) (w : Wanted) (may : MayBePlanned s blocks) (wanted : MayBeWanted w) where
  abbrev Caused : Option Rule → Type 0
  Caused o = (e : PlanFault) × (e ≡ fault.NoMemory → ⊥) × HasPlanCause o s blocks w e

  abbrev Answer : Option Rule → Type 0
  Answer o = CanBePlannedBy o s blocks w ⊎ Caused o

  module _ (r : Rule) (some : 1 ≤ layers_of_rule r s blocks) (little : layers_of_rule r s blocks < 2 ^ 16) (whole : first_broken w.style blocks ≡ None) (fits : Fits w.precincts s) where
    abbrev layers : ℕ
    layers = layers_of_rule r s blocks

    abbrev made : Stream
    made = headers_with w layers s

    abbrev AreFew : Type 0
    AreFew = (t : ℕ) → t < tile_number s.siz → HasFewParts w.marks.parts made t

    late : IsCrowded r s blocks None → (number place : ℕ) → IsLate s w layers number place → Answer (Some r)
    late uncrowded number place cause = inr (fault.Choice number place, (λ e. absurd (cc)), inr (whole, inr (inr (inr (record { cause = cause; uncrowded = uncrowded })))))

    module _ (few : packet_total made ≤ most_packets) (range : StreamInRange made) (pass : totals_fault made ≡ None) where
      by_claim : HasNoStray s w layers → IsCrowded r s blocks None → AreFew → HasFewEntries w.marks made → (first : Option ℕ) → unclaimed w.marks made ≡ first → Answer (Some r)
      by_claim placed uncrowded parts entries None met =
          inl (record { whole = whole; free = record { fits = fits; few = few; placed = placed; parts = parts; entries = entries; claimed = met }; uncrowded = uncrowded })
      by_claim placed uncrowded parts entries (Some place) first =
          late uncrowded 11 place (inr (inr (refl, record { fits = fits; few = few; placed = placed; parts = parts; entries = entries; first = first })))

      by_entries : HasNoStray s w layers → IsCrowded r s blocks None → AreFew → Answer (Some r)
      by_entries placed uncrowded parts = elim (entries_or w.marks made range pass) [
        | inl entries ↦ by_claim placed uncrowded parts entries (unclaimed w.marks made) refl
        | inr many ↦ late uncrowded 10 0 (inr (inl (refl, record { fits = fits; few = few; placed = placed; parts = parts; many = many; place_is = refl })))
      ]

      by_parts : HasNoStray s w layers → IsCrowded r s blocks None → Answer (Some r)
      by_parts placed uncrowded =
          elim (parted_or w.marks.parts made range pass) [
            | inl all ↦ by_entries placed uncrowded (λ t inside. all t (omega (arith, inside, tile_number_stays (with_layers w layers) s)))
            | inr place ↦ late uncrowded 5 place.0 (inl (refl, record { fits = fits; few = few; placed = placed; many = place.1 }))
          ]

      by_crowds : HasNoStray s w layers → (lowest : Option ℕ) → IsCrowded r s blocks lowest → Answer (Some r)
      by_crowds placed None uncrowded = by_parts placed uncrowded
      by_crowds placed (Some place) crowded =
          inr (fault.Choice 4 place, (λ e. absurd (cc)), inr (whole, inr (inr (inl (refl, record { fits = fits; few = few; placed = placed; lowest = crowded })))))

      by_strays : Answer (Some r)
      by_strays = elim (stray_or s w layers range pass) [
        | inl placed ↦ (let found = crowds.some r layers blocks in by_crowds placed found.0 found.1)
        | inr place ↦ inr (fault.Choice 12 place.0, (λ e. absurd (cc)), inr (whole, inr (inl (refl, record { fits = fits; few = few; stray = place.1 }))))
      ]

    by_packets : Answer (Some r)
    by_packets = elim (cases_lt most_packets (packet_total made)) [
      | inl many ↦ inr (fault.Limit 7 (packet_total made), (λ e. absurd (cc)), inr (whole, inr (refl, record { fits = fits; count = refl; many = many })))
      | inr few ↦
          by_strays few (headers_in_range w layers s made may.headers may.range wanted fits some little refl)
          (headers_pass w layers s made may.headers may.range wanted fits some little refl may.totals few)
    ]

  by_rule : (o : Option Rule) → MakesLayers o s blocks → first_broken w.style blocks ≡ None → Fits w.precincts s → Answer o
  by_rule None makes whole fits = inr (fault.Choice 6 0, (λ e. absurd (cc)), inr (whole, inr (fits, refl)))
  by_rule (Some r) makes whole fits = by_packets r makes.0 makes.1 whole fits

  by_precincts : (o : Option Rule) → MakesLayers o s blocks → first_broken w.style blocks ≡ None → Answer o
  by_precincts o makes whole = elim (fits_or w.precincts s) [
    | inl fits ↦ by_rule o makes whole fits
    | inr unfit ↦ inr (fault.Choice unfit.0 unfit.1, (λ e. absurd (cc)), inr (whole, inl unfit.2))
  ]

  by_planes : (o : Option Rule) → MakesLayers o s blocks → (first : Option ℕ) → first_broken w.style blocks ≡ first → Answer o
  by_planes o makes None whole = by_precincts o makes whole
  by_planes o makes (Some place) broken = inr (fault.Choice 1 place, (λ e. absurd (cc)), inl (refl, broken))

  pub some_answer : (o : Option Rule) → MakesLayers o s blocks → Answer o
  some_answer o makes = by_planes o makes (first_broken w.style blocks) refl
