-- What the verdict on a generated codestream is not: of the limits none, no wrong block, and of the choices none but choice 7 and, where
-- there is no rule of layers, choice 6.
use Rattle.std.proofs.Common.{◌≡◌, ◌∙◌, ap, ◌⊎◌, ◌≤◌, ◌<◌, ◌^◌, ℕ, List, [], ◌∷◌, length, All, inl, inr, refl, sym, subst, arith, Option, None, Some, IfSome}
use Rattle.std.specs.Prelude.{slice_get}
use Rattle.std.proofs.lemmas.Option.{get_or_from_slice_get, slice_get_within}
use Rattle.jx_base.specs.Limits.{most_bytes}
use Rattle.jx_base.specs.declared.pieces.Block.{Block}
use Rattle.jx_base.specs.Sound.{IsSound}
use Rattle.jx_geom.specs.Geometry.{Geometry}
use Rattle.jx_progression.specs.declared.names.PacketName.{PacketName}
use Rattle.jx_progression.specs.Packets.{IsOrder}
use Rattle.jx_codestream.specs.declared.Stream.{Stream}
use Rattle.jx_codestream.specs.First.{tile_number}
use Rattle.jx_codestream.specs.Shapes.{geometry}
use Rattle.jx_codestream.specs.Spells.{TilePart}
use Rattle.jx_codestream.specs.declared.faults.StreamFault.TheVariants as fault
use Rattle.jx_tier2_reader.specs.Accepted.{IsAccepted}
use Rattle.jx_layers.specs.declared.StreamFacts.{StreamFacts}
use Rattle.jx_plan.specs.Facts.{facts_of}
use Rattle.jx_layers.specs.Rule.{Rule, layers_by}
use Rattle.jx_plan.specs.declared.faults.PlanFault.{PlanFault}
use Rattle.jx_plan.specs.declared.faults.PlanFault.TheVariants as unplanned
use Rattle.jx_plan.specs.Plan.{MayBePlanned, headers_with}
use Rattle.jx_plan.specs.Planned.{HasPlanCause, MakesLayers, layers_of_rule}
use Rattle.jx_plan.specs.Layers.{written_by}
use Rattle.jx_generate.specs.OneLayer.{entry_of_layers}
use Rattle.jx_tier2_writer.specs.Ready.{AreShort}
use Rattle.jx_tier2_writer.specs.TileParts.{AreTilePartsOf}
use Rattle.jx_reduce.specs.Unreducible.{first_choice}
use Rattle.jx_generate.specs.Headers.{AreSizes}
use Rattle.jx_generate.specs.Made.{body_made}
use Rattle.jx_generate.specs.Plain.{IsPlain}
use Rattle.jx_generate.specs.Reading.{stream_made}
use Rattle.jx_cli.specs.MakeWords.{Make, MayBeMade}
use Rattle.jx_transcode.specs.Aims.{Aim, MayBeAimed, rule_in}
use Rattle.jx_transcode.specs.MadeVerdict.{HasNoRule, MakesOneLayer}
use Rattle.jx_transcode.specs.MakeRun.{aim_made, input_of, wanted_made}
use Rattle.jx_transcode.specs.Outcome.{Verdict}
use Rattle.jx_transcode.specs.Rewritten.{IsBad, IsIrreducible, IsTooLongAt, IsUnplanned, Reads, ReadsLeft}
use Rattle.jx_rounds.specs.Tiles.{IsWrongBlock}
use Rattle.jx_transcode.specs.declared.status.Status.TheVariants as status
use Rattle.jx_transcode.proofs.AcceptedLemmas.{AllAccepted, made_short}
use Rattle.jx_transcode.proofs.OneVerdictLemmas.{Laws, free_or_choice, reads_on}
use Rattle.jx_transcode.proofs.ReducedLemmas.{WholeLaws, left_reads, planned_of}
use Rattle.jx_transcode.proofs.PlannedMade.{IsSent, MadeLaws, headers_geometry, never_wrong, one_entry, only_rule}
use Rattle.jx_transcode.proofs.ShortMade.{ShortLaws, made_short as parts_short}

abbrev seven : ℕ
seven = 7

choice_number : (number place : ℕ) → unplanned.Choice number place ≡ unplanned.Choice 6 0 → number ≡ 6
choice_number number place e = cc

choice_place : (number place : ℕ) → unplanned.Choice number place ≡ unplanned.Choice 6 0 → place ≡ 0
choice_place number place e = cc

pub makes_layers : (o : Option Rule) (s : Stream) (blocks : List Block) → IfSome o (λ r. (1 ≤ layers_by r (facts_of s blocks)) × (layers_by r (facts_of s blocks) < 2 ^ 16)) → MakesLayers o s blocks
makes_layers None s blocks h = tt
makes_layers (Some r) s blocks h = h

module _ (laws : Laws) (law : AllAccepted) (made_laws : MadeLaws) (whole_laws : WholeLaws) (rule : List ℕ → StreamFacts → Option Rule) (m : Make) (may : MayBeMade m) where
  abbrev aim : Aim
  aim = aim_made rule

  abbrev made : Stream
  made = stream_made m.width m.height (length (body_made m.seed m.width m.height))

  sizes : AreSizes m.width m.height
  sizes = record { wide = may.some_width; most_wide = may.few_width; high = may.some_height; most_high = may.few_height }

  accepted : IsAccepted (input_of m) made
  accepted = law.accepted m.seed m.width m.height sizes

  small : length (input_of m) ≤ most_bytes
  small = made_short law m may

  -- nothing is left out
  reads_of : (s : Stream) (blocks : List Block) → length (input_of m) ≤ most_bytes → ReadsLeft 0 (input_of m) s blocks → Reads (input_of m) s blocks
  reads_of s blocks short left = left_reads whole_laws 0 (input_of m) s blocks short refl left

  never_irreducible : (number place : ℕ) → length (input_of m) ≤ most_bytes → IsIrreducible 0 (input_of m) number place → ⊥
  never_irreducible number place short is =
      free_or_choice (first_choice 0 is.stream) number place (whole_laws.free is.stream (planned_of whole_laws (input_of m) is.stream is.blocks short is.reads).headers) is.cause

  same_stream : (s : Stream) (blocks : List Block) → length (input_of m) ≤ most_bytes → Reads (input_of m) s blocks → s ≡ made
  same_stream s blocks short reads = laws.one_stream (input_of m) s made reads.read.spelled accepted.read.spelled

  may_be_planned : (s : Stream) (blocks : List Block) → length (input_of m) ≤ most_bytes → Reads (input_of m) s blocks → MayBePlanned made blocks
  may_be_planned s blocks short reads =
      subst (λ (x : Stream). MayBePlanned x blocks) (same_stream s blocks short reads) (made_laws.may (input_of m) s blocks reads.read short reads.totals reads.gathered)

  without_rule : (e : PlanFault) → length (input_of m) ≤ most_bytes → MayBeAimed aim → (e ≡ unplanned.NoMemory → ⊥) → IsUnplanned aim (input_of m) e
      → HasNoRule aim (input_of m) × (e ≡ unplanned.Choice 6 0)
  without_rule e short aimed caused is =
      let same : is.stream ≡ made = same_stream is.stream is.blocks short (reads_of is.stream is.blocks short is.reads) in
      let P : Stream → Type 0 = λ s. HasPlanCause (rule_in aim s is.blocks) s is.blocks wanted_made e in
      let cause : HasPlanCause (rule_in aim made is.blocks) made is.blocks wanted_made e = subst P same is.cause in
      let makes : MakesLayers (rule_in aim made is.blocks) made is.blocks = makes_layers (rule_in aim made is.blocks) made is.blocks (aimed.layers (facts_of made is.blocks)) in
      let lacks = only_rule made_laws m.width m.height (length (body_made m.seed m.width m.height)) is.blocks sizes (may_be_planned is.stream is.blocks short (reads_of is.stream is.blocks short is.reads)) (rule_in aim made is.blocks) e makes caused cause in
      let Q : Stream → Type 0 = λ s. rule_in aim s is.blocks ≡ None in
      (record { stream = is.stream; blocks = is.blocks; reads = is.reads; none = subst Q (sym same) lacks.0 }, lacks.1)

  pub no_choice : (number place : ℕ) → MayBeAimed aim → Verdict aim (input_of m) (status.Choice number place) → (number ≡ 7) ⊎ ((number ≡ 6) × (place ≡ 0) × HasNoRule aim (input_of m))
  no_choice number place aimed verdict = by verdict.1
    where
      by : ((number ≡ 7) × IsTooLongAt aim (input_of m) place) ⊎ (IsUnplanned aim (input_of m) (unplanned.Choice number place) ⊎ IsIrreducible 0 (input_of m) number place) → (number ≡ 7) ⊎ ((number ≡ 6) × (place ≡ 0) × HasNoRule aim (input_of m))
      by (inl long) = inl long.0
      by (inr (inr is)) = absurd (never_irreducible number place small is)
      by (inr (inl is)) =
          let lacks = without_rule (unplanned.Choice number place) small aimed (λ e. cc) is in
          inr (choice_number number place lacks.1, choice_place number place lacks.1, lacks.0)

  pub no_limit : (number found : ℕ) → MayBeAimed aim → Verdict aim (input_of m) (status.Limit number found) → ⊥
  no_limit number found aimed (inl (inl long)) = absurd (omega (arith, long.0, law.short m.seed m.width m.height sizes))
  no_limit number found aimed (inl (inr passed)) =
      let is : IsAccepted (input_of m) made = accepted in
      reads_on laws (input_of m) made is.blocks (fault.Limit number found) small (record { read = is.read; totals = is.totals; gathered = is.gathered }) passed.1
  no_limit number found aimed (inr over) = absurd (let lacks = without_rule (unplanned.Limit number found) small aimed (λ e. cc) over.1 in let e = lacks.1 in cc)

  plain : (s : Stream) (blocks : List Block) → length (input_of m) ≤ most_bytes → Reads (input_of m) s blocks → All IsPlain blocks
  plain s blocks short reads =
      let is : MayBePlanned made blocks = may_be_planned s blocks short reads in
      made_laws.plain m.width m.height (length (body_made m.seed m.width m.height)) blocks sizes is.blocks_are is.sound

  right : (blocks : List Block) (number : ℕ) (o : Option Block) → All IsPlain blocks → slice_get blocks number ≡ o → IsWrongBlock wanted_made o → ⊥
  right blocks number None all at wrong = wrong
  right blocks number (Some b) all at wrong =
      never_wrong wanted_made.style b (subst IsPlain (get_or_from_slice_get blocks number b b at) (all number b (slice_get_within blocks number b at))) wrong

  pub no_block : (number : ℕ) → Verdict aim (input_of m) (status.Block number) → ⊥
  no_block number verdict =
      let bad : IsBad aim (input_of m) number = verdict.1 in
      right bad.blocks number (slice_get bad.blocks number) (plain bad.stream bad.blocks small (reads_of bad.stream bad.blocks small bad.reads)) refl bad.is.wrong

  -- choice 7: in one layer no tile-part is too long
  module _ (short : ShortLaws) where
    abbrev AreParts : Stream → ℕ → ℕ → Rule → List Block → List TilePart → Type 0
    AreParts s layers t r blocks parts = AreTilePartsOf wanted_made.marks (headers_with wanted_made layers s) (written_by wanted_made.style r layers blocks) t parts

    in_order : (g : Geometry) (names : List PacketName) → IsSent g 1 names → IsOrder g 1 (entry_of_layers 1 ∷ []) 1 names
    in_order g names is = (is.k, is.none, is.sends)

    short_by : (r : Rule) (blocks : List Block) (parts : List TilePart) → All IsPlain blocks → All IsSound blocks → AreParts made 1 0 r blocks parts → AreShort parts
    short_by r blocks parts plain sound are =
        let P : Geometry → Type 0 = λ g. IsSent g 1 are.names in
        let sent : IsSent (geometry made 0) 1 are.names =
        subst P (headers_geometry m.width m.height (length (body_made m.seed m.width m.height)) 1) (one_entry m.width m.height (length (body_made m.seed m.width m.height)) 1 are.names are.order) in
        subst (λ (ps : List TilePart). AreShort ps) (sym are.are)
        (parts_short short m.width m.height (length (body_made m.seed m.width m.height)) r blocks are.names sizes plain sound (in_order (geometry made 0) are.names sent))

    one_layer : (o : Option Rule) (r : Rule) (facts : StreamFacts) → o ≡ Some r → IfSome o (λ q. layers_by q facts ≡ 1) → layers_by r facts ≡ 1
    one_layer o r facts e h = subst (λ (x : Option Rule). IfSome x (λ q. layers_by q facts ≡ 1)) e h

    never_long : (place : ℕ) → MakesOneLayer aim → IsTooLongAt aim (input_of m) place → ⊥
    never_long place one long =
        let reads : Reads (input_of m) long.stream long.blocks = reads_of long.stream long.blocks small long.reads in
        let same : long.stream ≡ made = same_stream long.stream long.blocks small reads in
        let is : MayBePlanned made long.blocks = may_be_planned long.stream long.blocks small reads in
        let layers : layers_of_rule long.can.by long.stream long.blocks ≡ 1 =
        one_layer (rule_in aim long.stream long.blocks) long.can.by (facts_of long.stream long.blocks) long.can.is (one (facts_of long.stream long.blocks)) in
        let tiles : tile_number long.stream.siz ≡ 1 =
        ap (λ (s : Stream). tile_number s.siz) same ∙ made_laws.tiles m.width m.height (length (body_made m.seed m.width m.height)) sizes in
        let first : place ≡ 0 = omega (arith, long.inside, tiles) in
        let parts : List TilePart = long.is.parts in
        let by_stream : AreParts made (layers_of_rule long.can.by long.stream long.blocks) place long.can.by long.blocks parts =
        subst (λ (s : Stream). AreParts s (layers_of_rule long.can.by long.stream long.blocks) place long.can.by long.blocks parts) same long.is.are in
        let by_layers : AreParts made 1 place long.can.by long.blocks parts = subst (λ (n : ℕ). AreParts made n place long.can.by long.blocks parts) layers by_stream in
        let by_tile : AreParts made 1 0 long.can.by long.blocks parts = subst (λ (t : ℕ). AreParts made 1 t long.can.by long.blocks parts) first by_layers in
        long.is.long (short_by long.can.by long.blocks parts (plain long.stream long.blocks small reads) is.sound by_tile)

    pub no_seven : (place : ℕ) → MayBeAimed aim → MakesOneLayer aim → Verdict aim (input_of m) (status.Choice 7 place) → ⊥
    no_seven place aimed one verdict = by verdict.1
      where
        by : ((seven ≡ seven) × IsTooLongAt aim (input_of m) place) ⊎ (IsUnplanned aim (input_of m) (unplanned.Choice 7 place) ⊎ IsIrreducible 0 (input_of m) 7 place) → ⊥
        by (inl long) = never_long place one long.1
        by (inr (inr is)) = never_irreducible 7 place small is
        by (inr (inl is)) =
            let lacks = without_rule (unplanned.Choice 7 place) small aimed (λ e. cc) is in
            let six : seven ≡ 6 = choice_number seven place lacks.1 in
            omega arith
