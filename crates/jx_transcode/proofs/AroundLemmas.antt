-- A file that is written around the output of its codestream.
use Rattle.std.proofs.Common.{◌≡◌, ◌∙◌, ◌≤◌, ◌<◌, ◌+◌, ℕ, List, [], ◌∷◌, ◌++◌, length, map, take, drop, inl, inr, refl, sym, subst, append-nil, Result, Ok, Err, IfErr, IfOk, IsErrOf, OnOk, OnErr, Bor}
use Rattle.std.specs.List.{concat}
use Rattle.jx_io.specs.Device.{Meaning}
use Rattle.jx_io.specs.declared.refused.Refused.{Refused}
use Rattle.jx_io.specs.declared.refused.Refused.TheVariants as refused
use Rattle.jx_cli.specs.Words.{Text}
use Rattle.jx_jp2.specs.declared.Boxed.{Boxed}
use Rattle.jx_jp2.specs.Codestream.{IsCodestream, IsNextFault, content}
use Rattle.jx_jp2.specs.Wrapped.{form_for, head_bytes, wrapped}
use Rattle.jx_options.specs.Work.{Work}
use Rattle.jx_options.specs.declared.FormChoice.{FormChoice}
use Rattle.jx_transcode.specs.Aims.{Aim}
use Rattle.jx_transcode.specs.Filed.{IsCarriedIn, IsEndIn, status_of, unwritten_as}
use Rattle.jx_transcode.specs.Jp2Run.{EndsAround, EndsJp2, IsCarriedAround, IsFileEnd, IsPastRules, LeavesFile, VerdictAt, file_in}
use Rattle.jx_transcode.specs.MakeRun.{ComesOut, TellsMade}
use Rattle.jx_transcode.specs.RunTapes.{IsTapedAfter}
use Rattle.jx_rounds.specs.Files.{IsBegun, IsMade}
use Rattle.jx_transcode.specs.Outcome.{IsVerdict, Verdict}
use Rattle.jx_transcode.specs.declared.status.Status.{Status}
use Rattle.jx_transcode.specs.declared.status.Status.TheVariants as status
use Rattle.jx_plan.specs.Plan.{Plan}
use Rattle.jx_rounds.specs.Heads.{IsCodestreamOf, IsUnmeasured}
use Rattle.jx_rounds.specs.Rounds.{IsTapedTo}
use Rattle.jx_rounds.specs.declared.halt.Halt.{Halt}
use Rattle.jx_rounds.specs.declared.halt.Halt.TheVariants as halt
use Rattle.jx_rounds.specs.declared.tape.TapeEntry.{TapeEntry}
use Rattle.jx_transcode.proofs.DoneLemmas.{IsOther, undone, unfailed}
use Rattle.jx_rounds.proofs.FiledLemmas.{untouched}
use Rattle.jx_transcode.proofs.RefusedLemmas.{IsTold, told_unwritten, block_told, choice_told, done_told, memory_told}
use Rattle.jx_transcode.proofs.TapeLemmas.{taped_late}

-- ---- a file in pieces
abbrev pub bytes_of : List (Bor (List ℕ)) → List ℕ
bytes_of pieces = concat (map (λ (piece : Bor (List ℕ)). piece.now) pieces)

pub pieces_cut : (pieces rest : List (Bor (List ℕ))) (piece : Bor (List ℕ)) → pieces ≡ piece ∷ rest → bytes_of pieces ≡ piece.now ++ bytes_of rest
pieces_cut pieces rest piece is = rw is refl

pub pieces_wrapped : (input : List ℕ) (boxed : Boxed) (out front head back : List ℕ) → front ≡ take boxed.head input → head ≡ head_bytes (form_for boxed.form (length out)) (length out) → back ≡ drop boxed.to input
    → front ++ (head ++ (out ++ (back ++ []))) ≡ wrapped input boxed out
unfolding wrapped
pieces_wrapped input boxed out front head back fronts heads backs = rw (fronts, heads, backs, append-nil) refl

-- ---- how it ends
pub left_by : (r : Result ℕ Refused) (name : Text) (file : List ℕ) (s : Status) (bytes : ℕ) (old new : Meaning) → IfOk r (λ count. (s ≡ status.Done) × (bytes ≡ count)) → IfErr r (λ refused. s ≡ unwritten_as refused)
    → OnOk r (IsMade name file old new) → OnErr r (IsBegun name file old new) → IfOk r (λ count. count ≡ length file) → LeavesFile name file s bytes old new
left_by (Ok count) name file s bytes old new ok err made begun long = rw ok.0 (made, ok.1 ∙ long)
left_by (Err refused.Failed) name file s bytes old new ok err made begun long = rw err begun
left_by (Err refused.NoMemory) name file s bytes old new ok err made begun long = rw err begun

pub ends_by : (r : Result ℕ Refused) (s : Status) (bytes : ℕ) → IfOk r (λ count. (s ≡ status.Done) × (bytes ≡ count)) → IfErr r (λ refused. s ≡ unwritten_as refused) → IsFileEnd s
ends_by (Ok count) s bytes ok err = inl ok.0
ends_by (Err refused.Failed) s bytes ok err = inr (inl err)
ends_by (Err refused.NoMemory) s bytes ok err = inr (inr err)

pub failed_by : (r : Result ℕ Refused) (s : Status) (bytes : ℕ) → IfOk r (λ count. (s ≡ status.Done) × (bytes ≡ count)) → IfErr r (λ refused. s ≡ unwritten_as refused) → s ≡ status.WriteFault → IsErrOf r refused.Failed
failed_by (Ok count) s bytes ok err failed = absurd (undone status.WriteFault tt (sym failed ∙ ok.0))
failed_by (Err refused.Failed) s bytes ok err failed = refl
failed_by (Err refused.NoMemory) s bytes ok err failed = absurd (unfailed (sym err ∙ failed))

pub rose_by : (r : Result ℕ Refused) (s : Status) (bytes : ℕ) → IfErr r (λ refused. s ≡ unwritten_as refused) → IsErrOf r refused.Failed → s ≡ status.WriteFault
rose_by (Ok count) s bytes err failed = absurd (cc)
rose_by (Err refused.Failed) s bytes err failed = err
rose_by (Err refused.NoMemory) s bytes err failed = absurd (cc)

pub end_apart : (s : Status) → IsFileEnd s → (s ≡ status.ReadFault → ⊥) × (s ≡ status.Words → ⊥)
end_apart s (inl e) = (λ f. let never : status.Done ≡ status.ReadFault = sym e ∙ f in cc, λ f. let never : status.Done ≡ status.Words = sym e ∙ f in cc)
end_apart s (inr (inl e)) = (λ f. let never : status.WriteFault ≡ status.ReadFault = sym e ∙ f in cc, λ f. let never : status.WriteFault ≡ status.Words = sym e ∙ f in cc)
end_apart s (inr (inr e)) = (λ f. let never : status.NoMemory ≡ status.ReadFault = sym e ∙ f in cc, λ f. let never : status.NoMemory ≡ status.Words = sym e ∙ f in cc)

-- ---- a codestream without an output
verdict_at : (aim : Aim) (from : ℕ) (inner : List ℕ) (s : Status) → IsPastRules s → (IsVerdict s → Verdict aim inner s) → IsVerdict s → VerdictAt aim from inner s
verdict_at aim from inner status.Done past of v = of tt
verdict_at aim from inner status.Words past of v = of tt
verdict_at aim from inner (status.Unlike how) past of v = of tt
verdict_at aim from inner (status.Rule number place) past of v = absurd past
verdict_at aim from inner (status.Limit number found) past of v = of tt
verdict_at aim from inner (status.Choice number place) past of v = of tt
verdict_at aim from inner (status.Block number) past of v = of tt
verdict_at aim from inner status.ReadFault past of v = absurd v
verdict_at aim from inner status.WriteFault past of v = absurd v
verdict_at aim from inner status.NoMemory past of v = absurd v

pub around_refused : (name : Text) (work : Work) (kind : FormChoice) (aim : Aim) (input : List ℕ) (boxed : Boxed) (s : Status) (blocks : ℕ) (out : List ℕ) (entries : List TapeEntry) (files : Meaning) → length input ≤ aim.limit → IsCodestream input boxed
    → ComesOut work aim (content input boxed) s blocks out entries → IsPastRules s → (s ≡ status.Done → ⊥) → EndsAround name work kind aim input boxed s blocks 0 entries files files
around_refused name work kind aim input boxed s blocks out entries files within found comes past other = record {
  within = within;
  found = found;
  verdict = verdict_at aim boxed.from (content input boxed) s past comes.verdict;
  out = out;
  tells = comes.tells;
  leaves = inr (other, untouched files);
  tape = comes.tape;
  whole = λ done. absurd (other done);
  taped = comes.taped;
}

-- ---- a codestream with one
module _ (name : Text) (work : Work) (kind : FormChoice) (aim : Aim) (input : List ℕ) (boxed : Boxed) (blocks bytes : ℕ) (out : List ℕ) (entries : List TapeEntry) (old new : Meaning) (within : length input ≤ aim.limit) (found : IsCodestream input boxed)
    (comes : ComesOut work aim (content input boxed) status.Done blocks out entries) where
  around_late : (late : Status) → IsOther late → (IsVerdict late → ⊥) → TellsMade aim (content input boxed) late blocks out → IsTapedAfter aim.reduce (content input boxed) late (length entries)
      → LeavesFile name (file_in kind input boxed out) late bytes old new → EndsAround name work kind aim input boxed late blocks bytes entries old new
  around_late late other free tells taped stands = record {
    within = within;
    found = found;
    verdict = λ v. absurd (free v);
    out = out;
    tells = tells;
    leaves = inl (comes.tells.is, comes.tells.count, stands);
    tape = comes.tape;
    whole = λ done. absurd (undone late other done);
    taped = taped;
  }

  around_done : LeavesFile name (file_in kind input boxed out) status.Done bytes old new → EndsAround name work kind aim input boxed status.Done blocks bytes entries old new
  around_done stands = record {
    within = within;
    found = found;
    verdict = comes.verdict;
    out = out;
    tells = comes.tells;
    leaves = inl (comes.tells.is, comes.tells.count, stands);
    tape = comes.tape;
    whole = comes.whole;
    taped = comes.taped;
  }

  pub around_written : (late : Status) → IsFileEnd late → LeavesFile name (file_in kind input boxed out) late bytes old new → EndsAround name work kind aim input boxed late blocks bytes entries old new
  around_written late (inl e) stands =
      subst (λ (x : Status). EndsAround name work kind aim input boxed x blocks bytes entries old new) (sym e) (around_done (subst (λ (x : Status). LeavesFile name (file_in kind input boxed out) x bytes old new) e stands))
  around_written late (inr (inl e)) stands =
      subst (λ (x : Status). EndsAround name work kind aim input boxed x blocks bytes entries old new) (sym e)
      (around_late status.WriteFault tt (λ v. v) (inr (inl comes.tells.count)) (taped_late aim.reduce (content input boxed) status.Done (length entries) comes.taped)
      (subst (λ (x : Status). LeavesFile name (file_in kind input boxed out) x bytes old new) e stands))
  around_written late (inr (inr e)) stands =
      subst (λ (x : Status). EndsAround name work kind aim input boxed x blocks bytes entries old new) (sym e)
      (around_late status.NoMemory tt (λ v. v) (inr (inl comes.tells.count)) (taped_late aim.reduce (content input boxed) status.Done (length entries) comes.taped)
      (subst (λ (x : Status). LeavesFile name (file_in kind input boxed out) x bytes old new) e stands))

-- ---- a plan that was written to memory
halt_past : (h : Halt) → IsPastRules (status_of h)
halt_past (halt.Bad tile number) = tt
halt_past (halt.TooLong tile) = tt
halt_past halt.Failed = tt
halt_past halt.NoMemory = tt

ended_past : (p : Plan) (s : Status) (out : List ℕ) (entries : ℕ) → IsEndIn p s out entries → IsPastRules s
ended_past p s out entries (inl done) = subst IsPastRules (sym done.0) tt
ended_past p s out entries (inr (why, is, unmade, to)) = subst IsPastRules (sym is) (halt_past why)

halt_told : (p : Plan) (h : Halt) → IsUnmeasured p h → IsTold (status_of h)
halt_told p (halt.Bad tile number) is = block_told number
halt_told p (halt.TooLong tile) is = choice_told 7 tile
halt_told p halt.Failed never = absurd never
halt_told p halt.NoMemory is = memory_told

ended_told : (p : Plan) (s : Status) (out : List ℕ) (entries : ℕ) → IsEndIn p s out entries → IsTold s
ended_told p s out entries (inl done) = subst IsTold (sym done.0) done_told
ended_told p s out entries (inr (why, is, unmade, to)) = subst IsTold (sym is) (halt_told p why unmade)

pub carried_told : (p : Plan) (work : Work) (s : Status) (blocks : ℕ) (out : List ℕ) (entries : List TapeEntry) → IsCarriedIn p work s blocks out entries → IsTold s
carried_told p work s blocks out entries is = ended_told p s out (length entries) is.ends

pub ends_in : {V : Type 0} (r : Result V Halt) (items : V → List ℕ) (p : Plan) (s : Status) (out : List ℕ) (entries : ℕ) → IfOk r (λ v. (s ≡ status.Done) × (out ≡ items v)) → IfErr r (λ h. s ≡ status_of h)
    → IfOk r (λ v. IsCodestreamOf p (items v)) → IfErr r (λ h. IsUnmeasured p h) → OnOk r (entries ≡ length p.blocks) → IfErr r (λ h. IsTapedTo p h entries) → IsEndIn p s out entries
ends_in (Ok v) items p s out entries ok err made unmade whole taped = inl (ok.0, subst (IsCodestreamOf p) (sym ok.1) made, whole)
ends_in (Err h) items p s out entries ok err made unmade whole taped = inr (h, err, unmade, taped)

pub around_ends : (name : Text) (work : Work) (kind : FormChoice) (aim : Aim) (input : List ℕ) (boxed : Boxed) (p : Plan) (s : Status) (blocks bytes : ℕ) (entries : List TapeEntry) (old new : Meaning) → length input ≤ aim.limit → IsCodestream input boxed
    → ((st : Status) (out : List ℕ) → IsCarriedIn p work st blocks out entries → ComesOut work aim (content input boxed) st blocks out entries) → IsCarriedAround p name work kind input boxed s blocks bytes entries old new
    → EndsAround name work kind aim input boxed s blocks bytes entries old new
around_ends name work kind aim input boxed p s blocks bytes entries old new within found comes is = elim is.ends [
  | inl none ↦ rw (none.1, none.2, none.3)
      (around_refused name work kind aim input boxed is.inner blocks is.out entries old within found (comes is.inner is.out is.is) (ended_past p is.inner is.out (length entries) is.is.ends) none.0)
  | inr made ↦
      let done : ComesOut work aim (content input boxed) status.Done blocks is.out entries = subst (λ (x : Status). ComesOut work aim (content input boxed) x blocks is.out entries) made.0 (comes is.inner is.out is.is) in
      around_written name work kind aim input boxed blocks bytes is.out entries old new within found done s made.1 made.2
]

-- ---- no codestream
pub too_long_jp2 : (name : Text) (work : Work) (kind : FormChoice) (aim : Aim) (input : List ℕ) (files : Meaning) → aim.limit < length input → EndsJp2 name work kind aim input (status.Limit 1 (aim.limit + 1)) 0 0 [] files files
too_long_jp2 name work kind aim input files long = inl (record { verdict = λ v. (long, refl, refl); none = refl; tape = refl; same = untouched files })

pub boxes_refused : (name : Text) (work : Work) (kind : FormChoice) (aim : Aim) (input : List ℕ) (number place : ℕ) (files : Meaning) → length input ≤ aim.limit → IsNextFault input 0 number place
    → EndsJp2 name work kind aim input (status.Rule number place) 0 0 [] files files
boxes_refused name work kind aim input number place files within broken = inl (record { verdict = λ v. (within, broken); none = refl; tape = refl; same = untouched files })

pub carried_unfailed : (p : Plan) (work : Work) (s : Status) (blocks : ℕ) (out : List ℕ) (entries : List TapeEntry) → IsCarriedIn p work s blocks out entries → s ≡ status.WriteFault → ⊥
carried_unfailed p work s blocks out entries is = told_unwritten s (carried_told p work s blocks out entries is)
