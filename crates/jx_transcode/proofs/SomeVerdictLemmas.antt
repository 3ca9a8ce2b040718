-- Each input has a verdict.
use Rattle.std.proofs.Common.{◌≡◌, ◌⊎◌, ◌≤◌, ◌<◌, ◌+◌, ◌^◌, inl, inr, refl, sym, subst, arith, List, [], ◌∷◌, ℕ, Option, None, Some, length}
use Rattle.std.proofs.lemmas.Bool.{cases_lt}
use Rattle.jx_base.specs.Limits.{most_bytes}
use Rattle.jx_base.specs.declared.pieces.Block.{Block}
use Rattle.jx_marker.specs.Ranges.{AreBytes}
use Rattle.jx_codestream.specs.declared.faults.StreamFault.{StreamFault}
use Rattle.jx_codestream.specs.declared.faults.StreamFault.TheVariants as fault
use Rattle.jx_codestream.specs.declared.Stream.{Stream}
use Rattle.jx_codestream.specs.First.{tile_number}
use Rattle.jx_codestream.specs.FirstViolated.{IsFirst}
use Rattle.jx_codestream.specs.InRange.{StreamInRange}
use Rattle.jx_codestream.specs.Read.{IsRead}
use Rattle.jx_codestream.specs.Spells.{TilePart}
use Rattle.jx_tier2_reader.specs.Either.{HasBlocks, HasFault}
use Rattle.jx_tier2_reader.specs.Gathered.{IsBroken, IsGathered}
use Rattle.jx_tile.specs.Totals.{totals_fault}
use Rattle.jx_options.specs.declared.Marks.{Marks}
use Rattle.jx_plan.specs.declared.faults.PlanFault.{PlanFault}
use Rattle.jx_plan.specs.declared.faults.PlanFault.TheVariants as unplanned
use Rattle.jx_plan.specs.Facts.{facts_of}
use Rattle.jx_layers.specs.Rule.{Rule}
use Rattle.jx_plan.specs.Causes.{IsFree}
use Rattle.jx_plan.specs.Plan.{MayBePlanned, headers_with}
use Rattle.jx_plan.specs.Planned.{CanBePlannedBy, HasPlanCause, MakesLayers, blocks_written, layers_of_rule}
use Rattle.jx_plan.specs.Standing.{HeadersStand}
use Rattle.jx_options.specs.Wanted.{MayBeWanted, Wanted}
use Rattle.jx_reduce.specs.Reduction.{blocks_left, stream_left}
use Rattle.jx_reduce.specs.Unreducible.{first_choice}
use Rattle.jx_reduce.specs.declared.faults.ReduceFault.{ReduceFault}
use Rattle.jx_reduce.specs.declared.faults.ReduceFault.TheVariants as unreduced
use Rattle.jx_tier2_writer.specs.Ready.{AreReady, AreShort}
use Rattle.jx_tier2_writer.specs.TileParts.{AreTilePartsOf, IsOutput}
use Rattle.jx_transcode.specs.declared.status.Status.{Status}
use Rattle.jx_transcode.specs.declared.status.Status.TheVariants as status
use Rattle.jx_transcode.specs.Aims.{Aim, MayBeAimed, rule_in}
use Rattle.jx_transcode.specs.Judged.{BreaksTiles}
use Rattle.jx_transcode.specs.Outcome.{Verdict}
use Rattle.jx_transcode.specs.Rewritten.{CanBePlanned, IsSpoiled, Reads, ReadsLeft, headers_of}
use Rattle.jx_rounds.specs.Tiles.{IsRight}
use Rattle.jx_transcode.proofs.ReducedLemmas.{never_memory}
use Rattle.jx_transcode.proofs.ToldLemmas.{stop_told}
use Rattle.jx_rounds.proofs.FrontLemmas.{tiles_stay}
use Rattle.jx_transcode.proofs.WrongLemmas.{all_right, first_or_none, right_or_wrong, wrong_or_right}
use Rattle.jx_transcode.proofs.MadeVerdictLemmas.{makes_layers}

-- what the laws of the crates below say
pub record Laws : Type 0 where
  pub either : (b : List ℕ) → AreBytes b → ((f : StreamFault) × IsFirst b f) ⊎ ((s : Stream) × IsRead b s)
  pub blocks : (b : List ℕ) (s : Stream) → IsRead b s → length b < 2 ^ 64 → HasBlocks b s ⊎ HasFault b s
  pub may : (b : List ℕ) (s : Stream) (blocks : List Block) → IsRead b s → length b ≤ most_bytes → totals_fault s ≡ None → IsGathered b s blocks → MayBePlanned s blocks
  pub left : (d : ℕ) (s : Stream) (blocks : List Block) → MayBePlanned s blocks → first_choice d s ≡ None → MayBePlanned (stream_left d s) (blocks_left d s blocks)
  pub planned : (s : Stream) (blocks : List Block) (w : Wanted) (o : Option Rule) → MayBePlanned s blocks → MayBeWanted w → MakesLayers o s blocks
      → CanBePlannedBy o s blocks w ⊎ ((e : PlanFault) × (e ≡ unplanned.NoMemory → ⊥) × HasPlanCause o s blocks w e)
  pub ready : (w : Wanted) (layers : ℕ) (s : Stream) → 1 ≤ layers → layers < 2 ^ 16 → MayBeWanted w → HeadersStand s → StreamInRange s → totals_fault s ≡ None
      → IsFree s w layers → AreReady w.marks (headers_with w layers s)
  pub output : (m : Marks) (s : Stream) (blocks : List Block) → AreReady m s → (b : List ℕ) × IsOutput m s blocks b
  pub parts : (m : Marks) (s : Stream) (blocks : List Block) (t : ℕ) (xs ys : List TilePart) → AreTilePartsOf m s blocks t xs → AreTilePartsOf m s blocks t ys → xs ≡ ys

short_or_not : (parts : List TilePart) → AreShort parts ⊎ (AreShort parts → ⊥)
short_or_not [] = inl tt
short_or_not (p ∷ ps) = elim (cases_lt p.sot.psot 4294967296) [
  | inl few ↦ elim (short_or_not ps) [
    | inl rest ↦ inl (few, rest)
    | inr long ↦ inr (λ (short : AreShort (p ∷ ps)). long short.1)
  ]
  | inr many ↦ inr (λ (short : AreShort (p ∷ ps)). omega (arith, short.0, many))
]

can_of : (aim : Aim) (s : Stream) (blocks : List Block) (o : Option Rule) → rule_in aim s blocks ≡ o → MakesLayers o s blocks → CanBePlannedBy o s blocks aim.wanted → CanBePlanned aim s blocks
can_of aim s blocks None e made never = absurd never
can_of aim s blocks (Some r) e made free = record { by = r; is = e; layers = made; free = free }

-- a tile is written, or it has a block that is wrong, or else a tile-part that is too long
module _ (laws : Laws) (w : Wanted) (r : Rule) (s : Stream) (blocks : List Block) (t : ℕ) (parts : List TilePart) (are : AreTilePartsOf w.marks (headers_of w r s blocks) (blocks_written w r s blocks) t parts) where
  abbrev Written : Type 0
  Written = IsRight w s blocks t × AreShort parts

  written_or_not : IsSpoiled w r s blocks t ⊎ Written
  written_or_not = elim (wrong_or_right w s blocks t) [
    | inl wrong ↦ inl (inl wrong)
    | inr right ↦ elim (short_or_not parts) [
      | inl short ↦ inr (right, short)
      | inr long ↦ inl (inr (record { right = right; parts = parts; are = are; long = long }))
    ]
  ]

  unspoiled : Written → IsSpoiled w r s blocks t → ⊥
  unspoiled is (inl wrong) = right_or_wrong w s blocks t wrong.0 is.0 wrong.1
  unspoiled is (inr long) = long.long (subst AreShort (laws.parts w.marks (headers_of w r s blocks) (blocks_written w r s blocks) t parts long.parts are long.are) is.1)

  spoiled_or_not : IsSpoiled w r s blocks t ⊎ (IsSpoiled w r s blocks t → ⊥)
  spoiled_or_not = elim written_or_not [
    | inl spoiled ↦ inl spoiled
    | inr is ↦ inr (unspoiled is)
  ]

  written_of : (IsSpoiled w r s blocks t → ⊥) → Written
  written_of none = elim written_or_not [
    | inl spoiled ↦ absurd (none spoiled)
    | inr is ↦ is
  ]

module _ (laws : Laws) (aim : Aim) (may : MayBeAimed aim) (input : List ℕ) (short : length input ≤ aim.limit) where
  stopped : (f : StreamFault) → IsFirst input f ⊎ BreaksTiles input f → (st : Status) × Verdict aim input st
  stopped (fault.Rule number place) cause = (status.Rule number place, (short, cause))
  stopped (fault.Limit number found) cause = (status.Limit number found, inl (inr (short, cause)))
  stopped fault.NoMemory cause = absurd (stop_told input fault.NoMemory cause)

  spoiled_by : (s : Stream) (blocks : List Block) (t : ℕ) → ReadsLeft aim.reduce input s blocks → (can : CanBePlanned aim s blocks) → t < tile_number s.siz → IsSpoiled aim.wanted can.by s blocks t
      → ((n : ℕ) → n < t → IsSpoiled aim.wanted can.by s blocks n → ⊥) → (st : Status) × Verdict aim input st
  spoiled_by s blocks t reads can inside (inl wrong) lowest =
      (status.Block wrong.0, (short, record { stream = s; blocks = blocks; reads = reads; can = can; tile = t; inside = inside; is = wrong.1; lowest = lowest }))
  spoiled_by s blocks t reads can inside (inr long) lowest =
      (status.Choice 7 t, (short, inl (refl, record { stream = s; blocks = blocks; reads = reads; can = can; inside = inside; is = long; lowest = lowest })))

  -- the headers that are written are such as a file may be written from
  ready : (s : Stream) (blocks : List Block) → MayBePlanned s blocks → (can : CanBePlanned aim s blocks) → AreReady aim.wanted.marks (headers_of aim.wanted can.by s blocks)
  ready s blocks plan can = laws.ready aim.wanted (layers_of_rule can.by s blocks) s can.layers.0 can.layers.1 may.may plan.headers plan.range plan.totals can.free.free

  written : (s : Stream) (blocks : List Block) → ReadsLeft aim.reduce input s blocks → MayBePlanned s blocks → CanBePlanned aim s blocks → (st : Status) × Verdict aim input st
  written s blocks reads plan can =
      let w : Wanted = aim.wanted in
      let r : Rule = can.by in
      let out = laws.output w.marks (headers_of w r s blocks) (blocks_written w r s blocks) (ready s blocks plan can) in
      let are : (t : ℕ) → t < tile_number s.siz → AreTilePartsOf w.marks (headers_of w r s blocks) (blocks_written w r s blocks) t (out.1.parts t) =
      λ t lt. out.1.are t (subst (λ (n : ℕ). t < n) (sym (tiles_stay w (layers_of_rule r s blocks) s)) lt) in
      elim (first_or_none (λ (t : ℕ). IsSpoiled w r s blocks t) 0 (tile_number s.siz) (λ t from lt. spoiled_or_not laws w r s blocks t (out.1.parts t) (are t (omega (arith, lt))))) [
        | inl first ↦ spoiled_by s blocks first.0 reads can (omega (arith, first.1.below)) first.1.is (λ n lt spoiled. first.1.lowest n (omega arith) lt spoiled)
        | inr none ↦
            let each : (t : ℕ) → t < tile_number s.siz → IsRight w s blocks t × AreShort (out.1.parts t) =
            λ t lt. written_of laws w r s blocks t (out.1.parts t) (are t lt) (none t (omega arith) (omega (arith, lt))) in (
              status.Done,
              (
                short,
                out.0,
                record {
                  stream = s;
                  blocks = blocks;
                  reads = reads;
                  can = can;
                  right = all_right w s blocks plan.blocks_are.all (λ t lt. (each t lt).0);
                  output = out.1;
                  short = λ t lt. (each t lt).1;
                },
              ),
            )
      ]

  unplanned_for : (s : Stream) (blocks : List Block) (e : PlanFault) → (e ≡ unplanned.NoMemory → ⊥) → HasPlanCause (rule_in aim s blocks) s blocks aim.wanted e → ReadsLeft aim.reduce input s blocks
      → (st : Status) × Verdict aim input st
  unplanned_for s blocks (unplanned.Choice number place) caused cause reads = (status.Choice number place, (short, inr (inl (record { stream = s; blocks = blocks; reads = reads; cause = cause }))))
  unplanned_for s blocks (unplanned.Limit number found) caused cause reads = (status.Limit number found, inr (short, record { stream = s; blocks = blocks; reads = reads; cause = cause }))
  unplanned_for s blocks unplanned.NoMemory caused cause reads = absurd (caused refl)

  planned : (s : Stream) (blocks : List Block) → ReadsLeft aim.reduce input s blocks → MayBePlanned s blocks → (st : Status) × Verdict aim input st
  planned s blocks reads plan =
      let made : MakesLayers (rule_in aim s blocks) s blocks = makes_layers (rule_in aim s blocks) s blocks (may.layers (facts_of s blocks)) in
      elim (laws.planned s blocks aim.wanted (rule_in aim s blocks) plan may.may made) [
        | inl free ↦ written s blocks reads plan (can_of aim s blocks (rule_in aim s blocks) refl made free)
        | inr why ↦ unplanned_for s blocks why.0 why.1 why.2 reads
      ]

  -- so many resolutions can be left out, or a choice is in the way
  reduced : (s : Stream) (blocks : List Block) → Reads input s blocks → (o : Option ReduceFault) → first_choice aim.reduce s ≡ o → (st : Status) × Verdict aim input st
  reduced s blocks reads None free =
      let small : length input ≤ most_bytes = omega (arith, short, may.limit) in
      let plan : MayBePlanned s blocks = laws.may input s blocks reads.read small reads.totals reads.gathered in
      planned (stream_left aim.reduce s) (blocks_left aim.reduce s blocks) (record { whole = s; all = blocks; reads = reads; free = free; stream = refl; blocks_are = refl }) (laws.left aim.reduce s blocks plan free)
  reduced s blocks reads (Some (unreduced.Choice number place)) cause = (status.Choice number place, (short, inr (inr (record { stream = s; blocks = blocks; reads = reads; cause = cause }))))
  reduced s blocks reads (Some unreduced.NoMemory) cause = absurd (never_memory aim.reduce s cause)

  gathered : (s : Stream) → IsRead input s → HasBlocks input s ⊎ HasFault input s → (totals_fault s ≡ None) ⊎ ((f : StreamFault) × IsBroken input s f) → (st : Status) × Verdict aim input st
  gathered s read (inr broken) totals = stopped broken.0 (inr (record { stream = s; read = read; broken = broken.1 }))
  gathered s read (inl blocks) (inr broken) = stopped broken.0 (inr (record { stream = s; read = read; broken = broken.1 }))
  gathered s read (inl blocks) (inl none) = reduced s blocks.0 (record { read = read; totals = none; gathered = blocks.1 }) (first_choice aim.reduce s) refl

  totals_of : (s : Stream) → (totals_fault s ≡ None) ⊎ ((f : StreamFault) × IsBroken input s f)
  totals_of s = told (totals_fault s) refl
    where
      told : (o : Option StreamFault) → totals_fault s ≡ o → (totals_fault s ≡ None) ⊎ ((f : StreamFault) × IsBroken input s f)
      told None e = inl e
      told (Some f) e = inr (f, inl e)

  short_verdict : AreBytes input → (st : Status) × Verdict aim input st
  short_verdict bytes = elim (laws.either input bytes) [
    | inl first ↦ stopped first.0 (inl first.1)
    | inr read ↦
        let few : length input ≤ most_bytes = omega (arith, short, may.limit) in
        gathered read.0 read.1 (laws.blocks input read.0 read.1 (omega (arith, few))) (totals_of read.0)
  ]

pub some_verdict : Laws → (aim : Aim) (input : List ℕ) → MayBeAimed aim → AreBytes input → (st : Status) × Verdict aim input st
some_verdict laws aim input may bytes = elim (cases_lt aim.limit (length input)) [
  | inl long ↦ (status.Limit 1 (aim.limit + 1), inl (inl (long, refl, refl)))
  | inr short ↦ short_verdict laws aim may input short bytes
]
