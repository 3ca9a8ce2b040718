-- Runs of `same`.
use Rattle.std.proofs.Common.{◌≡◌, ◌⊎◌, ◌∙◌, ℕ, List, [], length, Option, Result, Ok, Err, inl, inr, refl, subst, sym, IfOk, IfSome}
use Rattle.jx_base.specs.declared.pieces.Block.{Block}
use Rattle.jx_io.specs.Device.{Meaning, joined}
use Rattle.jx_cli.specs.SameWords.{Pair}
use Rattle.jx_cli.specs.Words.{Text}
use Rattle.jx_codestream.specs.declared.Stream.{Stream}
use Rattle.jx_plan.specs.Meaning.{meaning_of}
use Rattle.jx_same.specs.Items.{answer_of}
use Rattle.jx_same.specs.declared.answer.Answer.{Answer}
use Rattle.jx_same.specs.declared.answer.Answer.TheVariants as answer
use Rattle.jx_rounds.specs.Files.{IsUntouched}
use Rattle.jx_transcode.specs.Outcome.{EndsAs, EndsUnread, IsVerdict, line_of}
use Rattle.jx_transcode.specs.SameRun.{EndsCompared, IsOfFirst, IsSecondTold, IsToTell, SameVerdict, SecondVerdict, TellsBlocks, answer_status, blocks_after, same_line, second_status}
use Rattle.jx_transcode.specs.Sources.{IsAccepted, IsUnfit}
use Rattle.jx_transcode.specs.declared.status.Status.{Status}
use Rattle.jx_transcode.specs.declared.status.Status.TheVariants as status
use Rattle.jx_transcode.specs.declared.status.Unlike.TheVariants as unlike
use Rattle.jx_rounds.proofs.FiledLemmas.{untouched}
use Rattle.jx_transcode.proofs.LeftLemmas.{IsFront, long_whole, short_told, told_whole, untouched_twice, whole}
use Rattle.jx_transcode.proofs.SaidLemmas.{unread_said}

-- ---- a file of which a front was read, and that is refused
pub record IsUnfitInput (limit : ℕ) (held : Option (List ℕ)) (s : Status) : Type 0 where
  pub input : List ℕ
  pub told : IfSome held (λ bytes. input ≡ bytes)
  pub is : IsUnfit limit input s

pub unfit_told : (limit : ℕ) (held : Option (List ℕ)) (read : List ℕ) (s : Status) → IsFront limit held read → IsUnfit limit read s → IsUnfitInput limit held s
unfit_told limit held read (status.Rule number place) front is = record { input = read; told = short_told limit held read front is.0; is = is }
unfit_told limit held read (status.Limit number found) front (inl long) =
    record { input = whole held read; told = told_whole held read; is = inl (long_whole limit held read front long.0, long.1, long.2) }
unfit_told limit held read (status.Limit number found) front (inr short) = record { input = read; told = short_told limit held read front short.0; is = inr short }
unfit_told limit held read status.NoMemory front is = record { input = whole held read; told = told_whole held read; is = tt }
unfit_told limit held read status.Done front is = absurd is
unfit_told limit held read status.Words front is = absurd is
unfit_told limit held read (status.Choice number place) front is = absurd is
unfit_told limit held read (status.Block number) front is = absurd is
unfit_told limit held read (status.Unlike how) front is = absurd is
unfit_told limit held read status.ReadFault front is = absurd is
unfit_told limit held read status.WriteFault front is = absurd is

-- ---- no fault of a device
abbrev IsCalm : Status → Type 0
IsCalm status.ReadFault = ⊥
IsCalm status.WriteFault = ⊥
IsCalm status.Done = Unit {0}
IsCalm status.Words = Unit {0}
IsCalm (status.Rule number place) = Unit {0}
IsCalm (status.Limit number found) = Unit {0}
IsCalm (status.Choice number place) = Unit {0}
IsCalm (status.Block number) = Unit {0}
IsCalm (status.Unlike how) = Unit {0}
IsCalm status.NoMemory = Unit {0}

calm : (s : Status) → IsCalm s → (s ≡ status.ReadFault → ⊥) × (s ≡ status.WriteFault → ⊥)
calm s is = (λ failed. subst IsCalm failed is, λ failed. subst IsCalm failed is)

unfit_calm : (limit : ℕ) (read : List ℕ) (s : Status) → IsUnfit limit read s → IsCalm s
unfit_calm limit read (status.Rule number place) is = tt
unfit_calm limit read (status.Limit number found) is = tt
unfit_calm limit read status.NoMemory is = tt
unfit_calm limit read status.Done is = absurd is
unfit_calm limit read status.Words is = absurd is
unfit_calm limit read (status.Choice number place) is = absurd is
unfit_calm limit read (status.Block number) is = absurd is
unfit_calm limit read (status.Unlike how) is = absurd is
unfit_calm limit read status.ReadFault is = absurd is
unfit_calm limit read status.WriteFault is = absurd is

second_calm : (limit : ℕ) (read : List ℕ) (s : Status) → IsUnfit limit read s → IsCalm (second_status s)
second_calm limit read (status.Rule number place) is = tt
second_calm limit read (status.Limit number found) is = tt
second_calm limit read status.NoMemory is = tt
second_calm limit read status.Done is = absurd is
second_calm limit read status.Words is = absurd is
second_calm limit read (status.Choice number place) is = absurd is
second_calm limit read (status.Block number) is = absurd is
second_calm limit read (status.Unlike how) is = absurd is
second_calm limit read status.ReadFault is = absurd is
second_calm limit read status.WriteFault is = absurd is

answer_calm : {E : Type 0} (r : Result Answer E) → IsCalm (answer_status r)
answer_calm (Ok answer.Same) = tt
answer_calm (Ok (answer.Differs difference)) = tt
answer_calm (Err e) = tt

pub unfit_unread : (limit : ℕ) (read : List ℕ) (s : Status) → IsUnfit limit read s → (s ≡ status.ReadFault → ⊥) × (s ≡ status.WriteFault → ⊥)
unfit_unread limit read s is = calm s (unfit_calm limit read s is)

pub second_unfit_unread : (limit : ℕ) (read : List ℕ) (s t : Status) → t ≡ second_status s → IsUnfit limit read s → t ≡ status.ReadFault → ⊥
second_unfit_unread limit read s t e is failed = (calm (second_status s) (second_calm limit read s is)).0 (sym e ∙ failed)

pub answer_unread : {E : Type 0} (r : Result Answer E) (t : Status) → t ≡ answer_status r → t ≡ status.ReadFault → ⊥
answer_unread r t e failed = (calm (answer_status r) (answer_calm r)).0 (sym e ∙ failed)

-- ---- the second file, beside a codestream
answered_verdict : {E : Type 0} (r : Result Answer E) (s : Stream) (blocks : List Block) (limit : ℕ) (second : List ℕ) (other : Stream) (others : List Block) → IsAccepted limit second other others
    → IfOk r (λ told. told ≡ answer_of s (meaning_of s blocks) (meaning_of other others)) → SecondVerdict s blocks limit second (answer_status r)
answered_verdict (Ok answer.Same) s blocks limit second other others accepted is = record { other = other; others = others; accepted = accepted; is = is }
answered_verdict (Ok (answer.Differs difference)) s blocks limit second other others accepted is = record { other = other; others = others; accepted = accepted; is = is }
answered_verdict (Err e) s blocks limit second other others accepted is = tt

pub second_answered : {E : Type 0} (r : Result Answer E) (limit : ℕ) (name : Text) (read : List ℕ) (s : Stream) (blocks : List Block) (other : Stream) (others : List Block) (t : Status) (old new : Meaning) → t ≡ answer_status r
    → IsFront limit (joined (old.holds name)) read → IsUntouched old new → IsAccepted limit read other others
    → IfOk r (λ told. told ≡ answer_of s (meaning_of s blocks) (meaning_of other others)) → IsSecondTold limit name s blocks t old new
second_answered r limit name read s blocks other others t old new e front same accepted is = rw e (record {
  second = read;
  told = short_told limit (joined (old.holds name)) read front accepted.within;
  verdict = answered_verdict r s blocks limit read other others accepted is;
  files = same;
})

refused_verdict : (s : Stream) (blocks : List Block) (limit : ℕ) (second : List ℕ) (t : Status) → IsUnfit limit second t → SecondVerdict s blocks limit second (second_status t)
refused_verdict s blocks limit second (status.Rule number place) is = is
refused_verdict s blocks limit second (status.Limit number found) is = is
refused_verdict s blocks limit second status.NoMemory is = tt
refused_verdict s blocks limit second status.Done is = absurd is
refused_verdict s blocks limit second status.Words is = absurd is
refused_verdict s blocks limit second (status.Choice number place) is = absurd is
refused_verdict s blocks limit second (status.Block number) is = absurd is
refused_verdict s blocks limit second (status.Unlike how) is = absurd is
refused_verdict s blocks limit second status.ReadFault is = absurd is
refused_verdict s blocks limit second status.WriteFault is = absurd is

pub second_unfit : (limit : ℕ) (name : Text) (read : List ℕ) (s : Stream) (blocks : List Block) (t u : Status) (old new : Meaning) → u ≡ second_status t → IsFront limit (joined (old.holds name)) read → IsUntouched old new → IsUnfit limit read t
    → IsSecondTold limit name s blocks u old new
second_unfit limit name read s blocks t u old new e front same is =
    let input : IsUnfitInput limit (joined (old.holds name)) t = unfit_told limit (joined (old.holds name)) read t front is in
    rw e (record { second = input.input; told = input.told; verdict = refused_verdict s blocks limit input.input t input.is; files = same })

pub second_unread : (limit : ℕ) (name : Text) (s : Stream) (blocks : List Block) (u : Status) (old new : Meaning) → (u ≡ status.ReadFault) ⊎ (u ≡ status.NoMemory) → IsUntouched old new → IsSecondTold limit name s blocks u old new
second_unread limit name s blocks u old new (inl e) same =
    rw e (record { second = whole (joined (old.holds name)) []; told = told_whole (joined (old.holds name)) []; verdict = tt; files = same })
second_unread limit name s blocks u old new (inr e) same =
    rw e (record { second = whole (joined (old.holds name)) []; told = told_whole (joined (old.holds name)) []; verdict = tt; files = same })

pub second_unwritten : (limit : ℕ) (name : Text) (s : Stream) (blocks : List Block) (u : Status) (old new : Meaning) → IsSecondTold limit name s blocks u old new → u ≡ status.WriteFault → ⊥
second_unwritten limit name s blocks u old new told failed = subst (λ (t : Status). SecondVerdict s blocks limit told.second t) failed told.verdict

-- and isn't told as what comes of the first
pub second_not_first : (limit : ℕ) (name : Text) (s : Stream) (blocks : List Block) (u : Status) (old new : Meaning) → IsSecondTold limit name s blocks u old new → IsOfFirst u → ⊥
second_not_first limit name s blocks u old new told (inl of) = subst (λ (t : Status). SecondVerdict s blocks limit told.second t) of.2 told.verdict
second_not_first limit name s blocks u old new told (inr of) = subst (λ (t : Status). SecondVerdict s blocks limit told.second t) of.2 told.verdict

-- ---- both files
pub first_unread : (names : Pair) (u : Status) (old new : Meaning) → (u ≡ status.ReadFault) ⊎ (u ≡ status.NoMemory) → IsUntouched old new → IsToTell names u 0 old new
first_unread names u old new (inl e) same = rw e (record {
  first = whole (joined (old.holds names.first)) [];
  second = whole (joined (old.holds names.second)) [];
  told = told_whole (joined (old.holds names.first)) [];
  told_too = told_whole (joined (old.holds names.second)) [];
  verdict = λ never. absurd never;
  counts = refl;
  files = same;
})
first_unread names u old new (inr e) same = rw e (record {
  first = whole (joined (old.holds names.first)) [];
  second = whole (joined (old.holds names.second)) [];
  told = told_whole (joined (old.holds names.first)) [];
  told_too = told_whole (joined (old.holds names.second)) [];
  verdict = λ never. absurd never;
  counts = refl;
  files = same;
})

first_refused : (names : Pair) (t : Status) (old new : Meaning) → IsUnfitInput names.limit (joined (old.holds names.first)) t → IsUntouched old new → IsToTell names t 0 old new
first_refused names (status.Rule number place) old new input same = record {
  first = input.input;
  second = whole (joined (old.holds names.second)) [];
  told = input.told;
  told_too = told_whole (joined (old.holds names.second)) [];
  verdict = λ v. input.is;
  counts = refl;
  files = same;
}
first_refused names (status.Limit number found) old new input same = record {
  first = input.input;
  second = whole (joined (old.holds names.second)) [];
  told = input.told;
  told_too = told_whole (joined (old.holds names.second)) [];
  verdict = λ v. input.is;
  counts = refl;
  files = same;
}
first_refused names status.NoMemory old new input same = first_unread names status.NoMemory old new (inr refl) same
first_refused names status.Done old new input same = absurd input.is
first_refused names status.Words old new input same = absurd input.is
first_refused names (status.Choice number place) old new input same = absurd input.is
first_refused names (status.Block number) old new input same = absurd input.is
first_refused names (status.Unlike how) old new input same = absurd input.is
first_refused names status.ReadFault old new input same = absurd input.is
first_refused names status.WriteFault old new input same = absurd input.is

pub first_unfit : (names : Pair) (read : List ℕ) (t : Status) (old new : Meaning) → IsFront names.limit (joined (old.holds names.first)) read → IsUntouched old new → IsUnfit names.limit read t → IsToTell names t 0 old new
first_unfit names read t old new front same is = first_refused names t old new (unfit_told names.limit (joined (old.holds names.first)) read t front is) same

both_verdict : (limit : ℕ) (first second : List ℕ) (s : Stream) (blocks : List Block) (t : Status) → IsAccepted limit first s blocks → IsVerdict t → SecondVerdict s blocks limit second t → SameVerdict limit first second t
both_verdict limit first second s blocks status.Done accepted v is =
    record { stream = s; blocks = blocks; accepted = accepted; other = is.other; others = is.others; accepted_too = is.accepted; is = is.is }
both_verdict limit first second s blocks (status.Unlike (unlike.Differs difference)) accepted v is =
    record { stream = s; blocks = blocks; accepted = accepted; other = is.other; others = is.others; accepted_too = is.accepted; is = is.is }
both_verdict limit first second s blocks (status.Unlike (unlike.SecondRule number place)) accepted v is = ((s, blocks, accepted), is)
both_verdict limit first second s blocks (status.Unlike (unlike.SecondLimit number found)) accepted v is = ((s, blocks, accepted), is)
both_verdict limit first second s blocks status.Words accepted v is = absurd is
both_verdict limit first second s blocks (status.Rule number place) accepted v is = absurd is
both_verdict limit first second s blocks (status.Limit number found) accepted v is = absurd is
both_verdict limit first second s blocks (status.Choice number place) accepted v is = absurd is
both_verdict limit first second s blocks (status.Block number) accepted v is = absurd is
both_verdict limit first second s blocks status.ReadFault accepted v is = absurd v
both_verdict limit first second s blocks status.WriteFault accepted v is = absurd v
both_verdict limit first second s blocks status.NoMemory accepted v is = absurd v

both_counts : (limit : ℕ) (first : List ℕ) (s : Stream) (blocks : List Block) (t : Status) (count : ℕ) → IsAccepted limit first s blocks → count ≡ length blocks → TellsBlocks limit first t (blocks_after t count)
both_counts limit first s blocks status.Done count accepted e = record { stream = s; blocks = blocks; accepted = accepted; count_is = e }
both_counts limit first s blocks (status.Unlike (unlike.Differs difference)) count accepted e = record { stream = s; blocks = blocks; accepted = accepted; count_is = e }
both_counts limit first s blocks (status.Unlike (unlike.SecondRule number place)) count accepted e = refl
both_counts limit first s blocks (status.Unlike (unlike.SecondLimit number found)) count accepted e = refl
both_counts limit first s blocks status.Words count accepted e = refl
both_counts limit first s blocks (status.Rule number place) count accepted e = refl
both_counts limit first s blocks (status.Limit number found) count accepted e = refl
both_counts limit first s blocks (status.Choice number place) count accepted e = refl
both_counts limit first s blocks (status.Block number) count accepted e = refl
both_counts limit first s blocks status.ReadFault count accepted e = refl
both_counts limit first s blocks status.WriteFault count accepted e = refl
both_counts limit first s blocks status.NoMemory count accepted e = refl

pub both_told : (names : Pair) (read : List ℕ) (s : Stream) (blocks : List Block) (t : Status) (count : ℕ) (old mid new : Meaning) → IsFront names.limit (joined (old.holds names.first)) read → IsUntouched old mid → IsAccepted names.limit read s blocks
    → count ≡ length blocks → IsSecondTold names.limit names.second s blocks t mid new → IsToTell names t count old new
both_told names read s blocks t count old mid new front same accepted e second = record {
  first = read;
  second = second.second;
  told = short_told names.limit (joined (old.holds names.first)) read front accepted.within;
  told_too = subst (λ (held : Option (Option (List ℕ))). IfSome (joined held) (λ bytes. second.second ≡ bytes)) (same.holds names.second) second.told;
  verdict = λ v. both_verdict names.limit read second.second s blocks t accepted v second.verdict;
  counts = both_counts names.limit read s blocks t count accepted e;
  files = untouched_twice old mid new same second.files;
}

-- a refusal of the first is a rule or a limit, or want of memory
pub unfit_of_first : (limit : ℕ) (read : List ℕ) (t : Status) → IsUnfit limit read t → ((t ≡ status.ReadFault) ⊎ (t ≡ status.NoMemory)) ⊎ IsOfFirst t
unfit_of_first limit read (status.Rule number place) is = inr (inl (number, place, refl))
unfit_of_first limit read (status.Limit number found) is = inr (inr (number, found, refl))
unfit_of_first limit read status.NoMemory is = inl (inr refl)
unfit_of_first limit read status.Done is = absurd is
unfit_of_first limit read status.Words is = absurd is
unfit_of_first limit read (status.Choice number place) is = absurd is
unfit_of_first limit read (status.Block number) is = absurd is
unfit_of_first limit read (status.Unlike how) is = absurd is
unfit_of_first limit read status.ReadFault is = absurd is
unfit_of_first limit read status.WriteFault is = absurd is

-- ---- said, or not
pub compared_said : (names : Pair) (s late : Status) (count fault_before fault_now : ℕ) (old new : Meaning) (before now : Option (List ℕ)) → IsToTell names s count old new
    → EndsAs s (same_line s) late before now fault_before fault_now → EndsCompared names late (blocks_after late count) [] old new before now
compared_said names s late count fault_before fault_now old new before now is (inl said) = rw said.0 (record {
  first = is.first;
  second = is.second;
  told = is.told;
  told_too = is.told_too;
  verdict = is.verdict;
  counts = is.counts;
  said = said.1;
  files = is.files;
  tape = refl;
})
compared_said names s late count fault_before fault_now old new before now is (inr (inl fault)) = rw fault.0 (record {
  first = is.first;
  second = is.second;
  told = is.told;
  told_too = is.told_too;
  verdict = λ never. absurd never;
  counts = refl;
  said = fault.1;
  files = is.files;
  tape = refl;
})
compared_said names s late count fault_before fault_now old new before now is (inr (inr short)) = rw short.0 (record {
  first = is.first;
  second = is.second;
  told = is.told;
  told_too = is.told_too;
  verdict = λ never. absurd never;
  counts = refl;
  said = inl short.1;
  files = is.files;
  tape = refl;
})

none_after : (s : Status) → blocks_after s 0 ≡ 0
none_after status.Done = refl
none_after (status.Unlike (unlike.Differs difference)) = refl
none_after (status.Unlike (unlike.SecondRule number place)) = refl
none_after (status.Unlike (unlike.SecondLimit number found)) = refl
none_after status.Words = refl
none_after (status.Rule number place) = refl
none_after (status.Limit number found) = refl
none_after (status.Choice number place) = refl
none_after (status.Block number) = refl
none_after status.ReadFault = refl
none_after status.WriteFault = refl
none_after status.NoMemory = refl

-- there was no memory to read the words
pub compared_short : (names : Pair) (late : Status) (fault_before fault_now : ℕ) (files : Meaning) (before now : Option (List ℕ))
    → EndsAs status.NoMemory (line_of status.NoMemory 0 0) late before now fault_before fault_now → EndsCompared names late 0 [] files files before now
compared_short names late fault_before fault_now files before now said = subst (λ (n : ℕ). EndsCompared names late n [] files files before now) (none_after late)
    (compared_said names status.NoMemory late 0 fault_before fault_now files files before now (first_unread names status.NoMemory files files (inr refl) (untouched files)) said)

-- a second file that isn't there is met once the first is accepted
pub of_first_said : (s late : Status) (line : List ℕ) (before now : Option (List ℕ)) (fault_before fault_now : ℕ) → ((s ≡ status.ReadFault) ⊎ (s ≡ status.NoMemory)) ⊎ IsOfFirst s
    → EndsAs s line late before now fault_before fault_now → EndsUnread late fault_before fault_now ⊎ IsOfFirst late
of_first_said s late line before now fault_before fault_now (inl unread) said = inl (unread_said s late line before now fault_before fault_now unread said)
of_first_said s late line before now fault_before fault_now (inr of) (inl said) = inr (subst IsOfFirst (sym said.0) of)
of_first_said s late line before now fault_before fault_now (inr of) (inr (inl fault)) = inl (inr (inl (fault.0, fault.2)))
of_first_said s late line before now fault_before fault_now (inr of) (inr (inr short)) = inl (inr (inr short.0))

-- ---- a refusal of the first that was said is one
read_not_first : IsOfFirst status.ReadFault → ⊥
read_not_first (inl of) = let e : status.ReadFault ≡ status.Rule of.0 of.1 = of.2 in cc
read_not_first (inr of) = let e : status.ReadFault ≡ status.Limit of.0 of.1 = of.2 in cc

memory_not_first : IsOfFirst status.NoMemory → ⊥
memory_not_first (inl of) = let e : status.NoMemory ≡ status.Rule of.0 of.1 = of.2 in cc
memory_not_first (inr of) = let e : status.NoMemory ≡ status.Limit of.0 of.1 = of.2 in cc

fault_not_first : IsOfFirst status.WriteFault → ⊥
fault_not_first (inl of) = let e : status.WriteFault ≡ status.Rule of.0 of.1 = of.2 in cc
fault_not_first (inr of) = let e : status.WriteFault ≡ status.Limit of.0 of.1 = of.2 in cc

pub unread_not_first : (u : Status) → (u ≡ status.ReadFault) ⊎ (u ≡ status.NoMemory) → IsOfFirst u → ⊥
unread_not_first u (inl is) of = read_not_first (subst IsOfFirst is of)
unread_not_first u (inr is) of = memory_not_first (subst IsOfFirst is of)

pub of_first_before : (s late : Status) (line : List ℕ) (before now : Option (List ℕ)) (fault_before fault_now : ℕ) → EndsAs s line late before now fault_before fault_now → IsOfFirst late → IsOfFirst s
of_first_before s late line before now fault_before fault_now (inl said) of = subst IsOfFirst said.0 of
of_first_before s late line before now fault_before fault_now (inr (inl fault)) of = absurd (fault_not_first (subst IsOfFirst fault.0 of))
of_first_before s late line before now fault_before fault_now (inr (inr short)) of = absurd (memory_not_first (subst IsOfFirst short.0 of))
