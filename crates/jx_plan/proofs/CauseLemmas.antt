-- Of a rule and a stream there is one answer at most: nothing is in the way of its plan, or one cause is.
use Rattle.std.proofs.Common.{◌≡◌, ◌<◌, ◌≤◌, ◌∙◌, ap, sym, subst, refl, arith, ℕ, Bool, true, false, List, length, map, inl, inr, Option, None, Some, Result, Ok, Err, OnOk}
use Rattle.std.proofs.lemmas.Bool.{cases_lt}
use Rattle.std.proofs.lemmas.Option.{same_Some}
use Rattle.jx_base.specs.declared.pieces.Block.{Block}
use Rattle.jx_base.specs.declared.style.Style.{Style}
use Rattle.jx_base.proofs.Lists.{some_none}
use Rattle.jx_codestream.specs.declared.Stream.{Stream}
use Rattle.jx_codestream.specs.First.{tile_number}
use Rattle.jx_tile.specs.Totals.{packet_total}
use Rattle.jx_codeblock.specs.Written.{block_asked}
use Rattle.jx_options.specs.declared.Marks.{Marks}
use Rattle.jx_options.specs.declared.PartChoice.{PartChoice}
use Rattle.jx_plan.specs.Headers.{with_layers}
use Rattle.jx_plan.specs.declared.faults.PlanFault.{PlanFault}
use Rattle.jx_plan.specs.declared.faults.PlanFault.TheVariants as fault
use Rattle.jx_plan.specs.Causal.{first_broken}
use Rattle.jx_plan.specs.Fits.{AreUnfit, Fits, IsUnfit}
use Rattle.jx_tile_parts.specs.Groups.{HasFewEntries, HasFewParts, HasManyEntries, IsPartedAt}
use Rattle.jx_plan.specs.Profile.{unclaimed}
use Rattle.jx_plan.specs.Causes.{HasManyPartsAt, IsFree, IsLate, IsPlaneBroken, PassesPackets}
use Rattle.jx_plan.specs.Layers.{AreJobs}
use Rattle.jx_plan.specs.Plan.{IsPlan, Plan, headers_of, headers_with, most_packets}
use Rattle.jx_plan.specs.Planned.{CanBePlannedBy, HasLaterCause, HasPlanCause, IsCrowded, IsFreeBy, IsPlanned, IsPlannedBy, IsUnplannedBy, LacksPlan, blocks_written, layers_of_rule}
use Rattle.jx_layers.specs.Rule.{Rule}
use Rattle.jx_plan.specs.Changes.{has_outside}
use Rattle.jx_plan.specs.Steps.{IsTooLate, IsUnmet}
use Rattle.jx_plan.specs.Strays.{HasNoStray, IsStray}
use Rattle.jx_options.specs.Wanted.{Wanted}
use Rattle.jx_plan.proofs.LayerLaws.{CrowdLaws, WrittenLaws}
use Rattle.jx_plan.proofs.StreamLemmas.{tile_number_stays}

same_choice : (a b c d : ℕ) → a ≡ b → c ≡ d → ◌≡◌ {A = PlanFault} (fault.Choice a c) (fault.Choice b d)
same_choice a b c d e h = rw (e, h) refl

same_limit : (a b c d : ℕ) → a ≡ b → c ≡ d → ◌≡◌ {A = PlanFault} (fault.Limit a c) (fault.Limit b d)
same_limit a b c d e h = rw (e, h) refl

true_false : (b : Bool) → b ≡ true → b ≡ false → ⊥
true_false b e h = absurd (cc)

same_some : (o : Option ℕ) (c d : ℕ) → o ≡ Some c → o ≡ Some d → c ≡ d
same_some o c d e h = cc

none_some : (o : Option ℕ) (c : ℕ) → o ≡ Some c → o ≡ None → ⊥
none_some o c e h = absurd (cc)

-- ---- choice 1
module _ (style : Option Style) (blocks : List Block) where
  one_broken : (e f : PlanFault) → IsPlaneBroken style blocks e → IsPlaneBroken style blocks f → e ≡ f
  one_broken (fault.Choice a c) (fault.Choice b d) x y = same_choice a b c d (x.0 ∙ sym y.0) (same_some _ c d x.1 y.1)
  one_broken (fault.Choice a c) (fault.Limit b d) x y = absurd y
  one_broken (fault.Choice a c) fault.NoMemory x y = absurd y
  one_broken (fault.Limit a c) f x y = absurd x
  one_broken fault.NoMemory f x y = absurd x

  broken_whole : (e : PlanFault) → IsPlaneBroken style blocks e → first_broken style blocks ≡ None → ⊥
  broken_whole (fault.Choice a c) x whole = none_some _ c x.1 whole
  broken_whole (fault.Limit a c) x whole = x
  broken_whole fault.NoMemory x whole = x

plan_whole : (blocks : List Block) (w : Wanted) (p : Plan) → p.blocks ≡ blocks → p.wanted ≡ w → IsPlan p → first_broken w.style blocks ≡ None
plan_whole blocks w p blocks_are wanted plan =
    subst (λ (x : Wanted). first_broken x.style blocks ≡ None) wanted (subst (λ (bs : List Block). first_broken p.wanted.style bs ≡ None) blocks_are plan.whole)

-- ---- choices 3 and 2
module _ (s : Stream) (precincts : Option (List ℕ)) where
  one_unfit : (a c b d : ℕ) → IsUnfit s precincts a c → IsUnfit s precincts b d → ◌≡◌ {A = PlanFault} (fault.Choice a c) (fault.Choice b d)
  one_unfit a c b d (inl x) (inl y) = same_choice a b c d (x.0 ∙ sym y.0) (same_some _ c d x.1 y.1)
  one_unfit a c b d (inl x) (inr y) = absurd (none_some _ c x.1 y.1.above)
  one_unfit a c b d (inr x) (inl y) = absurd (none_some _ d y.1 x.1.above)
  one_unfit a c b d (inr x) (inr y) = elim (cases_lt c d) [
    | inl lt ↦ absurd (x.1.changed (y.1.lowest c lt))
    | inr ge ↦ elim (cases_lt d c) [
      | inl lt ↦ absurd (y.1.changed (x.1.lowest d lt))
      | inr le ↦ same_choice a b c d (x.0 ∙ sym y.0) (omega arith)
    ]
  ]

  unfit_fits : (a c : ℕ) → IsUnfit s precincts a c → Fits precincts s → ⊥
  unfit_fits a c (inl x) fits = none_some _ c x.1 fits.above
  unfit_fits a c (inr x) fits = x.1.changed (fits.blocks c x.1.inside)

  are_unfit : (e : PlanFault) → (e ≡ fault.NoMemory → ⊥) → AreUnfit s precincts e → Fits precincts s → ⊥
  are_unfit (fault.Choice a c) ne unfit fits = unfit_fits a c unfit fits
  are_unfit (fault.Limit a c) ne unfit fits = unfit
  are_unfit fault.NoMemory ne unfit fits = ne refl

  unfit_same : (e f : PlanFault) → (e ≡ fault.NoMemory → ⊥) → (f ≡ fault.NoMemory → ⊥) → AreUnfit s precincts e → AreUnfit s precincts f → e ≡ f
  unfit_same (fault.Choice a c) (fault.Choice b d) ne nf he hf = one_unfit a c b d he hf
  unfit_same (fault.Choice a c) (fault.Limit b d) ne nf he hf = absurd hf
  unfit_same (fault.Choice a c) fault.NoMemory ne nf he hf = absurd (nf refl)
  unfit_same (fault.Limit a c) f ne nf he hf = absurd he
  unfit_same fault.NoMemory f ne nf he hf = absurd (ne refl)

-- ---- choice 5
parted_few : (parts : PartChoice) (s : Stream) (c : ℕ) → IsPartedAt parts s c → HasFewParts parts s c → ⊥
parted_few parts s c x few = omega (arith, x.many.many, few x.many.names x.many.order)

one_parted : (parts : PartChoice) (s : Stream) (c d : ℕ) → IsPartedAt parts s c → IsPartedAt parts s d → c ≡ d
one_parted parts s c d x y = elim (cases_lt c d) [
  | inl lt ↦ absurd (parted_few parts s c x (y.lowest c lt))
  | inr ge ↦ elim (cases_lt d c) [
    | inl lt ↦ absurd (parted_few parts s d y (x.lowest d lt))
    | inr le ↦ omega arith
  ]
]

-- ---- choice 10
entries_few : (m : Marks) (s : Stream) → HasManyEntries m s → HasFewEntries m s → ⊥
entries_few m s many few = omega (arith, many.many, few many.asked many.counts many.each)

-- ---- nothing is in the way of a plan
few_parts : (x y : Wanted) (s t : Stream) (n : ℕ) → x ≡ y → s ≡ t → HasFewParts x.marks.parts s n → HasFewParts y.marks.parts t n
few_parts x y s t n e h few =
    subst (λ (w : Wanted). HasFewParts w.marks.parts t n) e (subst (λ (u : Stream). HasFewParts x.marks.parts u n) h few)

few_entries : (x y : Wanted) (s t : Stream) → x ≡ y → s ≡ t → HasFewEntries x.marks s → HasFewEntries y.marks t
few_entries x y s t e h few = subst (λ (w : Wanted). HasFewEntries w.marks t) e (subst (λ (u : Stream). HasFewEntries x.marks u) h few)

met_claim : (x y : Wanted) (s t : Stream) → x ≡ y → s ≡ t → unclaimed x.marks s ≡ None → unclaimed y.marks t ≡ None
met_claim x y s t e h met = subst (λ (w : Wanted). unclaimed w.marks t ≡ None) e (subst (λ (u : Stream). unclaimed x.marks u ≡ None) h met)

no_stray : (r s : Stream) (v w : Wanted) (m n : ℕ) → r ≡ s → v ≡ w → m ≡ n → HasNoStray r v m → HasNoStray s w n
no_stray r s v w m n e h k placed =
    subst (λ (x : Stream). HasNoStray x w n) e (subst (λ (x : Wanted). HasNoStray r x n) h (subst (λ (x : ℕ). HasNoStray r v x) k placed))

-- ---- choice 12
module _ (s : Stream) (w : Wanted) (layers : ℕ) where
  stray_none : (place : ℕ) → IsStray s w layers place → HasNoStray s w layers → ⊥
  stray_none place (inl x) none = true_false (has_outside (length s.siz.comps) w.changes) x.0 none.comps
  stray_none place (inr x) none = x.1.stray (none.each place x.1.inside)

  one_stray : (c d : ℕ) → IsStray s w layers c → IsStray s w layers d → c ≡ d
  one_stray c d (inl x) (inl y) = x.1 ∙ sym y.1
  one_stray c d (inl x) (inr y) = absurd (true_false (has_outside (length s.siz.comps) w.changes) x.0 y.0)
  one_stray c d (inr x) (inl y) = absurd (true_false (has_outside (length s.siz.comps) w.changes) y.0 x.0)
  one_stray c d (inr x) (inr y) = elim (cases_lt c d) [
    | inl lt ↦ absurd (x.1.stray (y.1.lowest c lt))
    | inr ge ↦ elim (cases_lt d c) [
      | inl lt ↦ absurd (y.1.stray (x.1.lowest d lt))
      | inr le ↦ omega arith
    ]
  ]

module _ (s : Stream) (w : Wanted) (layers : ℕ) where
  plan_free : (p : Plan) → p.stream ≡ s → p.wanted ≡ w → p.layers ≡ layers → IsPlan p → IsFree s w layers
  plan_free p stream wanted is plan =
      let same : headers_of p ≡ headers_with w layers s = rw (wanted, is, stream) refl in
      record {
        fits = subst (λ (x : Wanted). Fits x.precincts s) wanted (subst (λ (x : Stream). Fits p.wanted.precincts x) stream plan.fits);
        few = subst (λ (x : Stream). packet_total x ≤ most_packets) same plan.packets;
        placed = no_stray p.stream s p.wanted w p.layers layers stream wanted is plan.placed;
        parts = λ t inside.
            let there : t < tile_number p.stream.siz = omega (arith, inside, ap (λ (x : Stream). tile_number x.siz) stream) in
            few_parts p.wanted w (headers_of p) (headers_with w layers s) t wanted same (plan.parts t there);
        entries = few_entries p.wanted w (headers_of p) (headers_with w layers s) wanted same plan.entries;
        claimed = met_claim p.wanted w (headers_of p) (headers_with w layers s) wanted same plan.claimed;
      }

  free_few : (found : ℕ) → IsFree s w layers → PassesPackets s w layers found → ⊥
  free_few found free passes = omega (arith, free.few, passes.count, passes.many)

  -- choices 5, 10 and 11
  abbrev made : Stream
  made = headers_with w layers s

  many_few : (place : ℕ) → HasManyPartsAt s w layers place → ((t : ℕ) → t < tile_number s.siz → HasFewParts w.marks.parts made t) → ⊥
  many_few place many few =
      let inside : place < tile_number s.siz = omega (arith, many.many.inside, tile_number_stays (with_layers w layers) s) in
      parted_few w.marks.parts made place many.many (few place inside)

  one_late : (a c b d : ℕ) → IsLate s w layers a c → IsLate s w layers b d → ◌≡◌ {A = PlanFault} (fault.Choice a c) (fault.Choice b d)
  one_late a c b d (inl x) (inl y) = same_choice a b c d (x.0 ∙ sym y.0) (one_parted w.marks.parts made c d x.1.many y.1.many)
  one_late a c b d (inl x) (inr (inl y)) = absurd (many_few c x.1 y.1.parts)
  one_late a c b d (inl x) (inr (inr y)) = absurd (many_few c x.1 y.1.parts)
  one_late a c b d (inr (inl x)) (inl y) = absurd (many_few d y.1 x.1.parts)
  one_late a c b d (inr (inr x)) (inl y) = absurd (many_few d y.1 x.1.parts)
  one_late a c b d (inr (inl x)) (inr (inl y)) = same_choice a b c d (x.0 ∙ sym y.0) (x.1.place_is ∙ sym y.1.place_is)
  one_late a c b d (inr (inl x)) (inr (inr y)) = absurd (entries_few w.marks made x.1.many y.1.entries)
  one_late a c b d (inr (inr x)) (inr (inl y)) = absurd (entries_few w.marks made y.1.many x.1.entries)
  one_late a c b d (inr (inr x)) (inr (inr y)) = same_choice a b c d (x.0 ∙ sym y.0) (same_some _ c d x.1.first y.1.first)

  late_fits : (number place : ℕ) → IsLate s w layers number place → Fits w.precincts s
  late_fits number place (inl x) = x.1.fits
  late_fits number place (inr (inl x)) = x.1.fits
  late_fits number place (inr (inr x)) = x.1.fits

  late_few : (number place : ℕ) → IsLate s w layers number place → packet_total made ≤ most_packets
  late_few number place (inl x) = x.1.few
  late_few number place (inr (inl x)) = x.1.few
  late_few number place (inr (inr x)) = x.1.few

  late_placed : (number place : ℕ) → IsLate s w layers number place → HasNoStray s w layers
  late_placed number place (inl x) = x.1.placed
  late_placed number place (inr (inl x)) = x.1.placed
  late_placed number place (inr (inr x)) = x.1.placed

  free_late : (number place : ℕ) → IsFree s w layers → IsLate s w layers number place → ⊥
  free_late number place free (inl x) = many_few place x.1 free.parts
  free_late number place free (inr (inl x)) = entries_few w.marks made x.1.many free.entries
  free_late number place free (inr (inr x)) = none_some _ place x.1.first free.claimed

  late_passes : (number place found : ℕ) → IsLate s w layers number place → PassesPackets s w layers found → ⊥
  late_passes number place found late passes = omega (arith, late_few number place late, passes.count, passes.many)

-- ---- choices 10 and 11 of the headers that are written, which are there
pub met_made : {X E : Type 0} (r : Result X E) (P Q : Type 0) → (P → Q) → OnOk r P → OnOk r Q
met_made (Ok x) P Q then met = then met
met_made (Err e) P Q then met = tt

module _ (own : Marks) (w : Wanted) (layers : ℕ) (s other : Stream) (same : own ≡ w.marks) (is : other ≡ headers_with w layers s) where
  pub claim_made : unclaimed own other ≡ None → unclaimed w.marks (headers_with w layers s) ≡ None
  claim_made met = subst (λ (m : Marks). unclaimed m (headers_with w layers s) ≡ None) same (subst (λ (u : Stream). unclaimed own u ≡ None) is met)

  pub entries_made : HasFewEntries own other → HasFewEntries w.marks (headers_with w layers s)
  entries_made few = subst (λ (m : Marks). HasFewEntries m (headers_with w layers s)) same (subst (HasFewEntries own) is few)

  pub unmet_late : Fits w.precincts s → packet_total (headers_with w layers s) ≤ most_packets → HasNoStray s w layers → ((t : ℕ) → t < tile_number s.siz → HasFewParts w.marks.parts (headers_with w layers s) t)
      → HasFewEntries w.marks (headers_with w layers s) → (e : PlanFault) → IsUnmet own other e → IsTooLate s w layers e
  unmet_late fits few placed parts entries (fault.Choice number place) unmet =
      let first : unclaimed w.marks (headers_with w layers s) ≡ Some place =
      subst (λ (m : Marks). unclaimed m (headers_with w layers s) ≡ Some place) same (subst (λ (u : Stream). unclaimed own u ≡ Some place) is unmet.1) in
      inr (inr (unmet.0, record { fits = fits; few = few; placed = placed; parts = parts; entries = entries; first = first }))
  unmet_late fits few placed parts entries (fault.Limit number found) unmet = absurd unmet
  unmet_late fits few placed parts entries fault.NoMemory unmet = absurd unmet

-- ---- choice 4
module _ (crowds : CrowdLaws) (r : Rule) (s : Stream) (blocks : List Block) where
  one_crowded : (c d : ℕ) → IsCrowded r s blocks (Some c) → IsCrowded r s blocks (Some d) → c ≡ d
  one_crowded c d x y = same_Some c d (crowds.one r (layers_of_rule r s blocks) blocks (Some c) (Some d) x y)

  none_crowded : (c : ℕ) → IsCrowded r s blocks (Some c) → IsCrowded r s blocks None → ⊥
  none_crowded c x y = some_none c (crowds.one r (layers_of_rule r s blocks) blocks (Some c) None x y)

-- ---- one answer
module _ (crowds : CrowdLaws) (s : Stream) (blocks : List Block) (w : Wanted) where
  lacks_fits : (o : Option Rule) (e : PlanFault) → (e ≡ fault.NoMemory → ⊥) → LacksPlan o s blocks w e → Fits w.precincts s
  lacks_fits None e ne h = h.0
  lacks_fits (Some r) (fault.Choice a c) ne (inl h) = h.1.fits
  lacks_fits (Some r) (fault.Choice a c) ne (inr (inl h)) = h.1.fits
  lacks_fits (Some r) (fault.Choice a c) ne (inr (inr h)) = late_fits s w (layers_of_rule r s blocks) a c h.cause
  lacks_fits (Some r) (fault.Limit a c) ne h = h.1.fits
  lacks_fits (Some r) fault.NoMemory ne h = absurd (ne refl)

  lacks_same : (o : Option Rule) (e f : PlanFault) → (e ≡ fault.NoMemory → ⊥) → (f ≡ fault.NoMemory → ⊥) → LacksPlan o s blocks w e → LacksPlan o s blocks w f → e ≡ f
  lacks_same None e f ne nf he hf = he.1 ∙ sym hf.1
  lacks_same (Some r) fault.NoMemory f ne nf he hf = absurd (ne refl)
  lacks_same (Some r) (fault.Choice a c) fault.NoMemory ne nf he hf = absurd (nf refl)
  lacks_same (Some r) (fault.Limit a c) fault.NoMemory ne nf he hf = absurd (nf refl)
  lacks_same (Some r) (fault.Choice a c) (fault.Choice b d) ne nf (inl x) (inl y) = same_choice a b c d (x.0 ∙ sym y.0) (one_stray s w (layers_of_rule r s blocks) c d x.1.stray y.1.stray)
  lacks_same (Some r) (fault.Choice a c) (fault.Choice b d) ne nf (inl x) (inr (inl y)) = absurd (stray_none s w (layers_of_rule r s blocks) c x.1.stray y.1.placed)
  lacks_same (Some r) (fault.Choice a c) (fault.Choice b d) ne nf (inl x) (inr (inr y)) =
      absurd (stray_none s w (layers_of_rule r s blocks) c x.1.stray (late_placed s w (layers_of_rule r s blocks) b d y.cause))
  lacks_same (Some r) (fault.Choice a c) (fault.Choice b d) ne nf (inr (inl x)) (inl y) = absurd (stray_none s w (layers_of_rule r s blocks) d y.1.stray x.1.placed)
  lacks_same (Some r) (fault.Choice a c) (fault.Choice b d) ne nf (inr (inr x)) (inl y) =
      absurd (stray_none s w (layers_of_rule r s blocks) d y.1.stray (late_placed s w (layers_of_rule r s blocks) a c x.cause))
  lacks_same (Some r) (fault.Choice a c) (fault.Choice b d) ne nf (inr (inl x)) (inr (inl y)) = same_choice a b c d (x.0 ∙ sym y.0) (one_crowded crowds r s blocks c d x.1.lowest y.1.lowest)
  lacks_same (Some r) (fault.Choice a c) (fault.Choice b d) ne nf (inr (inl x)) (inr (inr y)) = absurd (none_crowded crowds r s blocks c x.1.lowest y.uncrowded)
  lacks_same (Some r) (fault.Choice a c) (fault.Choice b d) ne nf (inr (inr x)) (inr (inl y)) = absurd (none_crowded crowds r s blocks d y.1.lowest x.uncrowded)
  lacks_same (Some r) (fault.Choice a c) (fault.Choice b d) ne nf (inr (inr x)) (inr (inr y)) = one_late s w (layers_of_rule r s blocks) a c b d x.cause y.cause
  lacks_same (Some r) (fault.Choice a c) (fault.Limit b d) ne nf (inl x) hf = absurd (omega (arith, x.1.few, hf.1.count, hf.1.many))
  lacks_same (Some r) (fault.Choice a c) (fault.Limit b d) ne nf (inr (inl x)) hf = absurd (omega (arith, x.1.few, hf.1.count, hf.1.many))
  lacks_same (Some r) (fault.Choice a c) (fault.Limit b d) ne nf (inr (inr x)) hf = absurd (late_passes s w (layers_of_rule r s blocks) a c d x.cause hf.1)
  lacks_same (Some r) (fault.Limit a c) (fault.Choice b d) ne nf he (inl y) = absurd (omega (arith, y.1.few, he.1.count, he.1.many))
  lacks_same (Some r) (fault.Limit a c) (fault.Choice b d) ne nf he (inr (inl y)) = absurd (omega (arith, y.1.few, he.1.count, he.1.many))
  lacks_same (Some r) (fault.Limit a c) (fault.Choice b d) ne nf he (inr (inr y)) = absurd (late_passes s w (layers_of_rule r s blocks) b d c y.cause he.1)
  lacks_same (Some r) (fault.Limit a c) (fault.Limit b d) ne nf he hf = same_limit a b c d (he.0 ∙ sym hf.0) (he.1.count ∙ sym hf.1.count)

  later_same : (o : Option Rule) (e f : PlanFault) → (e ≡ fault.NoMemory → ⊥) → (f ≡ fault.NoMemory → ⊥) → HasLaterCause o s blocks w e → HasLaterCause o s blocks w f → e ≡ f
  later_same o e f ne nf (inl x) (inl y) = unfit_same s w.precincts e f ne nf x y
  later_same o e f ne nf (inl x) (inr y) = absurd (are_unfit s w.precincts e ne x (lacks_fits o f nf y))
  later_same o e f ne nf (inr x) (inl y) = absurd (are_unfit s w.precincts f nf y (lacks_fits o e ne x))
  later_same o e f ne nf (inr x) (inr y) = lacks_same o e f ne nf x y

  pub one_cause : (o : Option Rule) (e f : PlanFault) → (e ≡ fault.NoMemory → ⊥) → (f ≡ fault.NoMemory → ⊥) → HasPlanCause o s blocks w e → HasPlanCause o s blocks w f → e ≡ f
  one_cause o e f ne nf (inl x) (inl y) = one_broken w.style blocks e f x y
  one_cause o e f ne nf (inl x) (inr y) = absurd (broken_whole w.style blocks e x y.0)
  one_cause o e f ne nf (inr x) (inl y) = absurd (broken_whole w.style blocks f y x.0)
  one_cause o e f ne nf (inr x) (inr y) = later_same o e f ne nf x.1 y.1

  -- nothing is in the way, and a cause is
  free_lacks : (r : Rule) (e : PlanFault) → IsFreeBy r s blocks w → IsUnplannedBy r s blocks w e → e ≡ fault.NoMemory
  free_lacks r (fault.Choice number place) free (inl x) = absurd (stray_none s w (layers_of_rule r s blocks) place x.1.stray free.free.placed)
  free_lacks r (fault.Choice number place) free (inr (inl x)) = absurd (none_crowded crowds r s blocks place x.1.lowest free.uncrowded)
  free_lacks r (fault.Choice number place) free (inr (inr x)) = absurd (free_late s w (layers_of_rule r s blocks) number place free.free x.cause)
  free_lacks r (fault.Limit number found) free cause = absurd (free_few s w (layers_of_rule r s blocks) found free.free cause.1)
  free_lacks r fault.NoMemory free cause = refl

  free_unfit : (r : Rule) (e : PlanFault) → IsFreeBy r s blocks w → AreUnfit s w.precincts e → e ≡ fault.NoMemory
  free_unfit r (fault.Choice number place) free unfit = absurd (unfit_fits s w.precincts number place unfit free.free.fits)
  free_unfit r (fault.Limit number found) free unfit = absurd unfit
  free_unfit r fault.NoMemory free unfit = refl

  free_later : (r : Rule) (e : PlanFault) → IsFreeBy r s blocks w → HasLaterCause (Some r) s blocks w e → e ≡ fault.NoMemory
  free_later r e free (inl x) = free_unfit r e free x
  free_later r e free (inr x) = free_lacks r e free x

  pub free_or_not : (o : Option Rule) (e : PlanFault) → CanBePlannedBy o s blocks w → HasPlanCause o s blocks w e → e ≡ fault.NoMemory
  free_or_not None e free cause = absurd free
  free_or_not (Some r) e free (inl x) = absurd (broken_whole w.style blocks e x free.whole)
  free_or_not (Some r) e free (inr x) = free_later r e free x.1

  -- nothing is in the way of a plan that is there
  pub planned_free : (r : Rule) (p : Plan) → IsPlan p → IsPlannedBy r s blocks w p → IsFreeBy r s blocks w
  planned_free r p plan is =
      let layers : ℕ = layers_of_rule r s blocks in
      let some : 1 ≤ layers = omega (arith, plan.some, is.layers) in
      let jobs : AreJobs w.style r layers blocks p.jobs = subst (λ (k : ℕ). AreJobs w.style r k blocks p.jobs) is.layers is.jobs in
      record {
        whole = plan_whole blocks w p is.blocks_are is.wanted plan;
        free = plan_free s w layers p is.stream is.wanted is.layers plan;
        uncrowded = crowds.jobs w.style r layers blocks p.jobs None some jobs plan.uncrowded;
      }

  pub planned_or_not : (o : Option Rule) (p : Plan) (e : PlanFault) → IsPlan p → IsPlanned o s blocks w p → HasPlanCause o s blocks w e → e ≡ fault.NoMemory
  planned_or_not None p e plan is cause = absurd is
  planned_or_not (Some r) p e plan is cause = free_or_not (Some r) e (planned_free r p plan is) cause

-- ---- what a plan writes
pub planned_blocks : WrittenLaws → (s : Stream) (blocks : List Block) (w : Wanted) (r : Rule) (p : Plan) → IsPlan p → IsPlannedBy r s blocks w p
    → map block_asked p.jobs ≡ blocks_written w r s blocks
planned_blocks written s blocks w r p plan is =
    let layers : ℕ = layers_of_rule r s blocks in
    let some : 1 ≤ layers = omega (arith, plan.some, is.layers) in
    written.jobs w.style r layers blocks p.jobs some (subst (λ (k : ℕ). AreJobs w.style r k blocks p.jobs) is.layers is.jobs)
