-- A generated codestream as it is read, planned and written to memory.
use Rattle.std.proofs.Common.{◌≡◌, ◌∙◌, ◌^◌, ◌≤◌, ℕ, List, [], length, Option, None, Some, ap, refl, subst}
use Rattle.std.specs.List.{sum}
use Rattle.jx_base.specs.declared.pieces.Block.{Block}
use Rattle.jx_codestream.specs.declared.Stream.{Stream}
use Rattle.jx_io.specs.Stored.{empty}
use Rattle.jx_jp2.specs.Codestream.{IsJp2}
use Rattle.jx_jp2.specs.declared.Boxed.{Boxed}
use Rattle.jx_cli.specs.MakeWords.{Make}
use Rattle.jx_options.specs.Work.{Work}
use Rattle.jx_options.specs.Wanted.{MayBeWanted}
use Rattle.jx_plan.specs.Plan.{Plan}
use Rattle.jx_plan.specs.Planned.{IsPlanned}
use Rattle.jx_rounds.specs.declared.tape.TapeEntry.{TapeEntry}
use Rattle.jx_transcode.specs.Aims.{Aim, rule_in}
use Rattle.jx_transcode.specs.Filed.{IsAnswered, IsCarriedIn, IsUnplannedEnd, blocks_told, told_of_plan}
use Rattle.jx_transcode.specs.MakeRun.{ComesOut, IsReadyToSay, aim_made, input_of, wanted_made, work_made}
use Rattle.jx_transcode.specs.Rewritten.{Reads, ReadsLeft}
use Rattle.jx_transcode.specs.Sources.{IsUnfit, LiesIn}
use Rattle.jx_transcode.specs.declared.rewrite.Ending.{Ending}
use Rattle.jx_transcode.specs.declared.status.Status.{Status}
use Rattle.jx_transcode.specs.declared.status.Status.TheVariants as status
use Rattle.jx_transcode.proofs.AroundLemmas.{carried_told}
use Rattle.jx_transcode.proofs.DoneLemmas.{IsOther, undone}
use Rattle.jx_transcode.proofs.MakeLemmas.{Rules, comes_unmade, made_bare, ready_of, wanted_may}
use Rattle.jx_transcode.proofs.RefusedLemmas.{answered_unplanned, plan_told, told_unwritten}
use Rattle.jx_transcode.proofs.SourceLemmas.{unfit_bare, unfit_other, unfit_told, unplanned_other}

pub made_reads : (m : Make) (input : List ℕ) (boxed : Option Boxed) (from : ℕ) (inner : List ℕ) (s : Stream) (blocks : List Block) → input ≡ input_of m → LiesIn input boxed from inner → Reads inner s blocks → Reads input s blocks
made_reads m input None from inner s blocks same lies reads = subst (λ (b : List ℕ). Reads b s blocks) lies.2 reads
made_reads m input (Some boxed) from inner s blocks same lies reads = absurd (made_bare m (subst IsJp2 same lies.0))

-- refused, which the generator's laws exclude but for memory
pub made_unfit : (m : Make) (rule : Rules) (input : List ℕ) (s : Status) (before after total : ℕ) → input ≡ input_of m → IsUnfit (2 ^ 28) input s → IsReadyToSay m rule s 0 before after total []
made_unfit m rule input s before after total same is =
    let here : IsUnfit (2 ^ 28) (input_of m) s = subst (λ (b : List ℕ). IsUnfit (2 ^ 28) b s) same is in
    let told = unfit_told (2 ^ 28) (input_of m) s here in
    let other = unfit_other (2 ^ 28) (input_of m) s here in
    ready_of m rule s 0 before after total [] [] (comes_unmade [] work_made (aim_made rule) (input_of m) s 0 0 [] empty empty told other (unfit_bare [] work_made (aim_made rule) (input_of m) s empty (made_bare m) here)) (told_unwritten s told)
    (λ done. absurd (undone s other done))

pub made_unplanned : (m : Make) (rule : Rules) (input : List ℕ) (s : Stream) (blocks : List Block) (ending : Ending) (before after total : ℕ) → input ≡ input_of m → length input ≤ 2 ^ 28 → ReadsLeft 0 input s blocks
    → IsUnplannedEnd (rule_in (aim_made rule) s blocks) s blocks wanted_made ending → IsReadyToSay m rule ending.status ending.blocks before after total []
made_unplanned m rule input s blocks ending before after total same within left over = rw (over.status_is, over.count_is) (
    let here : ReadsLeft 0 (input_of m) s blocks = subst (λ (b : List ℕ). ReadsLeft 0 b s blocks) same left in
    let short : length (input_of m) ≤ 2 ^ 28 = subst (λ (b : List ℕ). length b ≤ 2 ^ 28) same within in
    ready_of m rule (told_of_plan over.why) (blocks_told over.why (length blocks)) before after total [] []
    (comes_unmade [] work_made (aim_made rule) (input_of m) (told_of_plan over.why) (blocks_told over.why (length blocks)) 0 [] empty empty (plan_told over.why) (unplanned_other over.why)
    (answered_unplanned [] work_made (aim_made rule) (input_of m) s blocks over.why (length blocks) empty over.cause refl short here))
    (told_unwritten (told_of_plan over.why) (plan_told over.why)) (λ done. absurd (undone (told_of_plan over.why) (unplanned_other over.why) done)))

-- what came out of a plan that was written to memory
abbrev pub CarriesOut : Type 0
CarriesOut =
    (work : Work) (aim : Aim) (input : List ℕ) (s : Stream) (blocks : List Block) (p : Plan) (st : Status) (count : ℕ) (out : List ℕ) (tape : List TapeEntry) → MayBeWanted aim.wanted → IsPlanned (rule_in aim s blocks) s blocks aim.wanted p
    → length input ≤ aim.limit → ReadsLeft aim.reduce input s blocks → IsCarriedIn p work st count out tape → ComesOut work aim input st count out tape

pub made_carried : (m : Make) (rule : Rules) (input : List ℕ) (work : Work) (s : Stream) (all : List Block) (p : Plan) (st : Status) (blocks before after total : ℕ) (out : List ℕ) (entries : List TapeEntry) → CarriesOut → input ≡ input_of m
    → work ≡ work_made → IsPlanned (rule_in (aim_made rule) s all) s all wanted_made p → length input ≤ 2 ^ 28 → ReadsLeft 0 input s all → IsCarriedIn p work st blocks out entries → before ≡ length input → after ≡ length out → total ≡ sum out
    → IsReadyToSay m rule st blocks before after total entries
made_carried m rule input work s all p st blocks before after total out entries law same asked planned within reads is long many summed =
    ready_of m rule st blocks before after total out entries
    (subst (λ (b : List ℕ). ComesOut work_made (aim_made rule) b st blocks out entries) same
    (law work_made (aim_made rule) input s all p st blocks out entries (wanted_may wanted_made refl) planned within reads (subst (λ (x : Work). IsCarriedIn p x st blocks out entries) asked is)))
    (told_unwritten st (carried_told p work st blocks out entries is)) (λ done. (long ∙ ap (λ (b : List ℕ). length b) same, many, summed))
