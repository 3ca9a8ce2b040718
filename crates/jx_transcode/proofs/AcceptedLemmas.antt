-- What an accepted input's verdict is not: a rule, or a limit of inputs.
use Rattle.std.proofs.Common.{◌≡◌, ◌≤◌, ◌^◌, ℕ, List, length, inl, inr, arith}
use Rattle.jx_base.specs.Limits.{most_bytes}
use Rattle.jx_codestream.specs.declared.faults.StreamFault.TheVariants as fault
use Rattle.jx_codestream.specs.declared.Stream.{Stream}
use Rattle.jx_tier2_reader.specs.Accepted.{IsAccepted}
use Rattle.jx_generate.specs.Headers.{AreSizes}
use Rattle.jx_generate.specs.Made.{body_made, file_made}
use Rattle.jx_generate.specs.Reading.{stream_made}
use Rattle.jx_cli.specs.MakeWords.{Make, MayBeMade}
use Rattle.jx_transcode.specs.Aims.{Aim, rule_in}
use Rattle.jx_transcode.specs.MakeRun.{input_of}
use Rattle.jx_transcode.specs.Outcome.{Verdict}
use Rattle.jx_transcode.specs.Rewritten.{Reads}
use Rattle.jx_transcode.specs.declared.status.Status.TheVariants as status
use Rattle.jx_transcode.proofs.OneVerdictLemmas.{Laws, reads_on}
use Rattle.jx_transcode.proofs.RefusedLemmas.{limit_seven}

-- the laws of the generator
pub record AllAccepted : Type 0 where
  pub accepted : (seed w h : ℕ) → AreSizes w h → IsAccepted (file_made seed w h) (stream_made w h (length (body_made seed w h)))
  pub short : (seed w h : ℕ) → AreSizes w h → length (file_made seed w h) ≤ 2 ^ 28

accepted_reads : (b : List ℕ) (s : Stream) (is : IsAccepted b s) → Reads b s is.blocks
accepted_reads b s is = record { read = is.read; totals = is.totals; gathered = is.gathered }

sizes_of : (m : Make) → MayBeMade m → AreSizes m.width m.height
sizes_of m may = record { wide = may.some_width; most_wide = may.few_width; high = may.some_height; most_high = may.few_height }

made_accepted : AllAccepted → (m : Make) → MayBeMade m → IsAccepted (input_of m) (stream_made m.width m.height (length (body_made m.seed m.width m.height)))
made_accepted law m may = law.accepted m.seed m.width m.height (sizes_of m may)

pub made_short : AllAccepted → (m : Make) → MayBeMade m → length (input_of m) ≤ most_bytes
made_short law m may = omega (arith, law.short m.seed m.width m.height (sizes_of m may))

pub no_rule : Laws → AllAccepted → (aim : Aim) (m : Make) (number place : ℕ) → MayBeMade m → Verdict aim (input_of m) (status.Rule number place) → ⊥
no_rule laws law aim m number place may verdict =
    let is = made_accepted law m may in
    reads_on laws (input_of m) (stream_made m.width m.height (length (body_made m.seed m.width m.height))) is.blocks (fault.Rule number place) (made_short law m may) (accepted_reads (input_of m) (stream_made m.width m.height (length (body_made m.seed m.width m.height))) is) verdict.1

pub seven_alone : Laws → AllAccepted → (aim : Aim) (m : Make) (number found : ℕ) → MayBeMade m → length (input_of m) ≤ aim.limit → Verdict aim (input_of m) (status.Limit number found) → number ≡ 7
seven_alone laws law aim m number found may within (inl (inl long)) = absurd (omega (arith, long.0, within))
seven_alone laws law aim m number found may within (inl (inr passed)) =
    let is = made_accepted law m may in
    absurd (reads_on laws (input_of m) (stream_made m.width m.height (length (body_made m.seed m.width m.height))) is.blocks (fault.Limit number found) (made_short law m may) (accepted_reads (input_of m) (stream_made m.width m.height (length (body_made m.seed m.width m.height))) is) passed.1)
seven_alone laws law aim m number found may within (inr over) = limit_seven (rule_in aim over.1.stream over.1.blocks) over.1.stream over.1.blocks aim.wanted number found over.1.cause
