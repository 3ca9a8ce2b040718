-- Two files have a verdict.
use Rattle.std.proofs.Common.{◌⊎◌, ◌≤◌, ◌+◌, ℕ, List, length, inl, inr, refl, arith}
use Rattle.std.proofs.lemmas.Bool.{cases_lt}
use Rattle.jx_base.specs.Limits.{most_bytes}
use Rattle.jx_base.specs.declared.pieces.Block.{Block}
use Rattle.jx_codestream.specs.declared.Stream.{Stream}
use Rattle.jx_marker.specs.Ranges.{AreBytes}
use Rattle.jx_jp2.specs.Codestream.{IsJp2, content}
use Rattle.jx_plan.specs.Meaning.{meaning_of}
use Rattle.jx_same.specs.Items.{answer_of}
use Rattle.jx_same.specs.declared.answer.Answer.{Answer}
use Rattle.jx_same.specs.declared.answer.Answer.TheVariants as answer
use Rattle.jx_transcode.specs.Aims.{Aim, MayBeAimed}
use Rattle.jx_transcode.specs.Jp2Run.{FileVerdict, RefusesBoxes}
use Rattle.jx_transcode.specs.Outcome.{Verdict}
use Rattle.jx_transcode.specs.Rewritten.{ReadsLeft}
use Rattle.jx_transcode.specs.SameRun.{AreAnswered, SameVerdict}
use Rattle.jx_transcode.specs.Sources.{BreaksLimit, BreaksRule, HasCodestream, IsGoodInput}
use Rattle.jx_transcode.specs.declared.status.Status.{Status}
use Rattle.jx_transcode.specs.declared.status.Status.TheVariants as status
use Rattle.jx_transcode.specs.declared.status.Unlike.TheVariants as unlike
use Rattle.jx_transcode.proofs.FileVerdictLemmas.{lowered}
use Rattle.jx_transcode.proofs.JudgeLemmas.{accepted_of}
use Rattle.jx_transcode.proofs.SameVerdictLemmas.{any_aim, inner_short}

-- a file is accepted, or a rule or a limit is first
abbrev IsJudged : ℕ → List ℕ → Type 0
IsJudged limit input = IsGoodInput limit input ⊎ (((n : ℕ) × (p : ℕ) × BreaksRule limit input n p) ⊎ ((n : ℕ) × (p : ℕ) × BreaksLimit limit input n p))

-- what is left of a codestream was read
judged_left : (limit d : ℕ) (input inner : List ℕ) (from : ℕ) (s : Stream) (blocks : List Block) → HasCodestream input from inner → length input ≤ limit → ReadsLeft d inner s blocks → IsJudged limit input
judged_left limit d input inner from s blocks has short left = inl (left.whole, left.all, accepted_of limit input inner from left.whole left.all short has left.reads)

judged_inner : (limit : ℕ) (input inner : List ℕ) (from : ℕ) (s : Status) → HasCodestream input from inner → length input ≤ limit → Verdict (any_aim limit) inner s → IsJudged limit input
judged_inner limit input inner from status.Done has short v = judged_left limit 0 input inner from v.2.stream v.2.blocks has short v.2.reads
judged_inner limit input inner from (status.Rule n p) has short v = inr (inl (n, from + p, (short, inr (from, inner, p, has, refl, v.1))))
judged_inner limit input inner from (status.Limit n f) has short (inl (inl long)) = absurd (omega (arith, inner_short limit input inner from has short, long.0))
judged_inner limit input inner from (status.Limit n f) has short (inl (inr passes)) = inr (inr (n, f, inr (short, from, inner, has, passes.1)))
judged_inner limit input inner from (status.Limit n f) has short (inr over) = judged_left limit 0 input inner from over.1.stream over.1.blocks has short over.1.reads
judged_inner limit input inner from (status.Choice n p) has short (within, inl long) = judged_left limit 0 input inner from long.1.stream long.1.blocks has short long.1.reads
judged_inner limit input inner from (status.Choice n p) has short (within, inr (inl over)) = judged_left limit 0 input inner from over.stream over.blocks has short over.reads
judged_inner limit input inner from (status.Choice n p) has short (within, inr (inr none)) = inl (none.stream, none.blocks, accepted_of limit input inner from none.stream none.blocks short has none.reads)
judged_inner limit input inner from (status.Block n) has short v = judged_left limit 0 input inner from v.1.stream v.1.blocks has short v.1.reads
judged_inner limit input inner from (status.Unlike how) has short v = absurd v
judged_inner limit input inner from status.Words has short v = absurd v
judged_inner limit input inner from status.ReadFault has short v = absurd v
judged_inner limit input inner from status.WriteFault has short v = absurd v
judged_inner limit input inner from status.NoMemory has short v = absurd v

judged_boxes : (limit : ℕ) (input : List ℕ) (s : Status) → length input ≤ limit → IsJp2 input → RefusesBoxes limit input s → IsJudged limit input
judged_boxes limit input (status.Rule n p) short jp2 r = inr (inl (n, p, (short, inl (jp2, r.1))))
judged_boxes limit input (status.Limit n f) short jp2 r = absurd (omega (arith, short, r.0))
judged_boxes limit input status.Done short jp2 r = absurd r
judged_boxes limit input (status.Choice n p) short jp2 r = absurd r
judged_boxes limit input (status.Block n) short jp2 r = absurd r
judged_boxes limit input (status.Unlike how) short jp2 r = absurd r
judged_boxes limit input status.Words short jp2 r = absurd r
judged_boxes limit input status.ReadFault short jp2 r = absurd r
judged_boxes limit input status.WriteFault short jp2 r = absurd r
judged_boxes limit input status.NoMemory short jp2 r = absurd r

judged_short : (limit : ℕ) (input : List ℕ) (s : Status) → length input ≤ limit → FileVerdict (any_aim limit) input s → IsJudged limit input
judged_short limit input s short (inl bare) = judged_inner limit input input 0 s (inl (bare.0, refl, refl)) short bare.1
judged_short limit input s short (inr (jp2, inl refused)) = judged_boxes limit input s short jp2 refused
judged_short limit input s short (inr (jp2, inr found)) =
    let own = lowered (any_aim limit) found.1.from (content input found.1) s found.3 in
    judged_inner limit input (content input found.1) found.1.from own.own (inr (jp2, found.1, found.2, refl, refl)) short own.verdict

any_may : (limit : ℕ) → limit ≤ most_bytes → MayBeAimed (any_aim limit)
any_may limit few = record { may = record { order = tt; changes = inl refl; bytes = tt; style = tt }; limit = few; layers = λ facts. tt }

module _ (some : (aim : Aim) (input : List ℕ) → MayBeAimed aim → AreBytes input → (s : Status) × FileVerdict aim input s) (limit : ℕ) (few : limit ≤ most_bytes) where
  judged : (input : List ℕ) → AreBytes input → IsJudged limit input
  judged input bytes = elim (cases_lt limit (length input)) [
    | inl long ↦ inr (inr (1, limit + 1, inl (long, refl, refl)))
    | inr short ↦ let of = some (any_aim limit) input (any_may limit few) bytes in judged_short limit input of.0 short of.1
  ]

  answered : (first second : List ℕ) (told : Answer) → AreAnswered limit first second told → (s : Status) × SameVerdict limit first second s
  answered first second answer.Same is = (status.Done, is)
  answered first second (answer.Differs difference) is = (status.Unlike (unlike.Differs difference), is)

  beside : (first second : List ℕ) → IsGoodInput limit first → IsJudged limit second → (s : Status) × SameVerdict limit first second s
  beside first second own (inl other) = answered first second (answer_of own.0 (meaning_of own.0 own.1) (meaning_of other.0 other.1)) (record {
    stream = own.0;
    blocks = own.1;
    accepted = own.2;
    other = other.0;
    others = other.1;
    accepted_too = other.2;
    is = refl;
  })
  beside first second own (inr (inl rule)) = (status.Unlike (unlike.SecondRule rule.0 rule.1), (own, rule.2))
  beside first second own (inr (inr limit)) = (status.Unlike (unlike.SecondLimit limit.0 limit.1), (own, limit.2))

  both : (first second : List ℕ) → IsJudged limit first → IsJudged limit second → (s : Status) × SameVerdict limit first second s
  both first second (inl own) other = beside first second own other
  both first second (inr (inl rule)) other = (status.Rule rule.0 rule.1, rule.2)
  both first second (inr (inr limit)) other = (status.Limit limit.0 limit.1, limit.2)

  pub some_of_two : (first second : List ℕ) → AreBytes first → AreBytes second → (s : Status) × SameVerdict limit first second s
  some_of_two first second bytes others = both first second (judged first bytes) (judged second others)
