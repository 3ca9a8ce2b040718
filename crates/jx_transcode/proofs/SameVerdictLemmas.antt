-- Two files have at most one verdict.
use Rattle.std.proofs.Common.{◌≡◌, ◌∙◌, ◌⊎◌, ◌≤◌, ◌<◌, ◌+◌, ℕ, List, [], length, None, Some, inl, inr, refl, ap, sym, subst, arith}
use Rattle.jx_base.specs.Limits.{most_bytes}
use Rattle.jx_base.specs.declared.pieces.Block.{Block}
use Rattle.jx_codestream.specs.declared.faults.StreamFault.TheVariants as fault
use Rattle.jx_codestream.specs.declared.Stream.{Stream}
use Rattle.jx_jp2.specs.Codestream.{content}
use Rattle.jx_options.specs.Names.{no_marks}
use Rattle.jx_options.specs.declared.RsizChoice.TheVariants as rsiz
use Rattle.jx_same.specs.declared.answer.Answer.{Answer}
use Rattle.jx_same.specs.declared.answer.Answer.TheVariants as answer
use Rattle.jx_transcode.specs.Aims.{Aim}
use Rattle.jx_transcode.specs.Jp2Run.{FileVerdict}
use Rattle.jx_transcode.specs.Judged.{Passes, Violates}
use Rattle.jx_transcode.specs.Rewritten.{Reads}
use Rattle.jx_transcode.specs.SameRun.{AreAnswered, SameVerdict}
use Rattle.jx_transcode.specs.Sources.{BreaksLimit, BreaksRule, HasCodestream, IsAccepted, IsGoodInput}
use Rattle.jx_transcode.specs.declared.status.Status.{Status}
use Rattle.jx_transcode.specs.declared.status.Status.TheVariants as status
use Rattle.jx_transcode.specs.declared.status.Unlike.TheVariants as unlike
use Rattle.jx_transcode.proofs.FileVerdictLemmas.{OneCodestream}
use Rattle.jx_transcode.proofs.JudgeLemmas.{content_short}
use Rattle.jx_transcode.proofs.OneVerdictLemmas.{Laws, one_reading, reads_on}

abbrev pub HasOneFile : Type 0
HasOneFile = (aim : Aim) (input : List ℕ) (s t : Status) → aim.limit ≤ most_bytes → FileVerdict aim input s → FileVerdict aim input t → s ≡ t

-- a rule or a limit stands in the verdict of any aim
abbrev pub any_aim : ℕ → Aim
any_aim limit = record { wanted = record { order = None; changes = Some []; precincts = None; style = None; layers = []; marks = no_marks; rsiz = rsiz.Zero }; reduce = 0; limit = limit; rule = λ facts. None }

pub inner_short : (most : ℕ) (input inner : List ℕ) (from : ℕ) → HasCodestream input from inner → length input ≤ most → length inner ≤ most
inner_short most input inner from (inl bare) short = rw bare.2 short
inner_short most input inner from (inr boxed) short = rw boxed.4 (content_short most input boxed.1 short)

rule_verdict : (limit : ℕ) (input : List ℕ) (number place : ℕ) → BreaksRule limit input number place → FileVerdict (any_aim limit) input (status.Rule number place)
rule_verdict limit input number place (short, inl box) = inr (box.0, inl (short, box.1))
rule_verdict limit input number place (short, inr (from, inner, at, inl bare, is, violates)) =
    let e : place ≡ at = is ∙ ap (λ (n : ℕ). n + at) bare.1 ∙ (let none : 0 + at ≡ at = omega arith in none) in
    inl (bare.0, rw e (short, subst (λ (b : List ℕ). Violates b number at) bare.2 violates))
rule_verdict limit input number place (short, inr (from, inner, at, inr boxed, is, violates)) =
    let e : place ≡ boxed.1.from + at = is ∙ ap (λ (n : ℕ). n + at) boxed.3 in
    inr (boxed.0, inr (short, boxed.1, boxed.2, (at, e, (content_short limit input boxed.1 short, subst (λ (b : List ℕ). Violates b number at) boxed.4 violates))))

limit_verdict : (limit : ℕ) (input : List ℕ) (number found : ℕ) → BreaksLimit limit input number found → FileVerdict (any_aim limit) input (status.Limit number found) ⊎ ((limit < length input) × (number ≡ 1) × (found ≡ limit + 1))
limit_verdict limit input number found (inl long) = inr long
limit_verdict limit input number found (inr (short, from, inner, inl bare, passes)) =
    inl (inl (bare.0, inl (inr (short, subst (λ (b : List ℕ). Passes b number found) bare.2 passes))))
limit_verdict limit input number found (inr (short, from, inner, inr boxed, passes)) =
    inl (inr (boxed.0, inr (short, boxed.1, boxed.2, inl (inr (content_short limit input boxed.1 short, subst (λ (b : List ℕ). Passes b number found) boxed.4 passes)))))

same_rules : (n p m q : ℕ) → status.Rule n p ≡ status.Rule m q → (n ≡ m) × (p ≡ q)
same_rules n p m q e = (cc, cc)

same_limits : (n p m q : ℕ) → status.Limit n p ≡ status.Limit m q → (n ≡ m) × (p ≡ q)
same_limits n p m q e = (cc, cc)

rule_no_limit : (n p m q : ℕ) → status.Rule n p ≡ status.Limit m q → ⊥
rule_no_limit n p m q e = cc

-- the status of an answer
abbrev answered_as : Answer → Status
answered_as answer.Same = status.Done
answered_as (answer.Differs difference) = status.Unlike (unlike.Differs difference)

module _ (laws : Laws) (boxes : OneCodestream) (one : HasOneFile) (limit : ℕ) (few : limit ≤ most_bytes) where
  one_inner : (input inner other : List ℕ) (from to : ℕ) → HasCodestream input from inner → HasCodestream input to other → other ≡ inner
  one_inner input inner other from to (inl a) (inl b) = b.2 ∙ sym a.2
  one_inner input inner other from to (inl a) (inr b) = absurd (a.0 b.0)
  one_inner input inner other from to (inr a) (inl b) = absurd (b.0 a.0)
  one_inner input inner other from to (inr a) (inr b) =
      let e : b.1 ≡ a.1 = boxes.same input b.1 a.1 b.2 a.2 in
      b.4 ∙ ap (content input) e ∙ sym a.4

  accepted_once : (input : List ℕ) (s t : Stream) (blocks others : List Block) → IsAccepted limit input s blocks → IsAccepted limit input t others → (t ≡ s) × (others ≡ blocks)
  accepted_once input s t blocks others x y =
      let e : y.inner ≡ x.inner = one_inner input x.inner y.inner x.from y.from x.has y.has in
      one_reading laws x.inner s t blocks others (inner_short most_bytes input x.inner x.from x.has (omega (arith, x.within, few))) x.reads (subst (λ (b : List ℕ). Reads b t others) e y.reads)

  rule_unaccepted : (input : List ℕ) (s : Stream) (blocks : List Block) (number place : ℕ) → IsAccepted limit input s blocks → BreaksRule limit input number place → ⊥
  rule_unaccepted input s blocks number place x (short, inl box) = by x.has
    where
      by : HasCodestream input x.from x.inner → ⊥
      by (inl bare) = bare.0 box.0
      by (inr boxed) = boxes.either input boxed.1 number place boxed.2 box.1
  rule_unaccepted input s blocks number place x (short, inr (from, inner, at, has, is, violates)) =
      let e : inner ≡ x.inner = one_inner input x.inner inner x.from from x.has has in
      reads_on laws x.inner s blocks (fault.Rule number at) (inner_short most_bytes input x.inner x.from x.has (omega (arith, x.within, few))) x.reads (subst (λ (b : List ℕ). Violates b number at) e violates)

  limit_unaccepted : (input : List ℕ) (s : Stream) (blocks : List Block) (number found : ℕ) → IsAccepted limit input s blocks → BreaksLimit limit input number found → ⊥
  limit_unaccepted input s blocks number found x (inl long) = omega (arith, x.within, long.0)
  limit_unaccepted input s blocks number found x (inr (short, from, inner, has, passes)) =
      let e : inner ≡ x.inner = one_inner input x.inner inner x.from from x.has has in
      reads_on laws x.inner s blocks (fault.Limit number found) (inner_short most_bytes input x.inner x.from x.has (omega (arith, x.within, few))) x.reads (subst (λ (b : List ℕ). Passes b number found) e passes)

  rules_once : (input : List ℕ) (n p m q : ℕ) → BreaksRule limit input n p → BreaksRule limit input m q → (n ≡ m) × (p ≡ q)
  rules_once input n p m q x y = same_rules n p m q (one (any_aim limit) input (status.Rule n p) (status.Rule m q) few (rule_verdict limit input n p x) (rule_verdict limit input m q y))

  rule_or_limit : (input : List ℕ) (n p m q : ℕ) → BreaksRule limit input n p → BreaksLimit limit input m q → ⊥
  rule_or_limit input n p m q x y = elim (limit_verdict limit input m q y) [
    | inl v ↦ rule_no_limit n p m q (one (any_aim limit) input (status.Rule n p) (status.Limit m q) few (rule_verdict limit input n p x) v)
    | inr long ↦ let short : length input ≤ limit = x.0 in omega (arith, short, long.0)
  ]

  limits_once : (input : List ℕ) (n p m q : ℕ) → BreaksLimit limit input n p → BreaksLimit limit input m q → (n ≡ m) × (p ≡ q)
  limits_once input n p m q (inl x) (inl y) = (x.1 ∙ sym y.1, x.2 ∙ sym y.2)
  limits_once input n p m q (inl x) (inr y) = absurd (omega (arith, x.0, y.0))
  limits_once input n p m q (inr x) (inl y) = absurd (omega (arith, x.0, y.0))
  limits_once input n p m q (inr x) (inr y) = elim (limit_verdict limit input n p (inr x)) [
    | inl v ↦ elim (limit_verdict limit input m q (inr y)) [
      | inl w ↦ same_limits n p m q (one (any_aim limit) input (status.Limit n p) (status.Limit m q) few v w)
      | inr long ↦ absurd (omega (arith, long.0, y.0))
    ]
    | inr long ↦ absurd (omega (arith, long.0, x.0))
  ]

  -- ---- both files
  answers_once : (first second : List ℕ) (a b : Answer) → AreAnswered limit first second a → AreAnswered limit first second b → a ≡ b
  answers_once first second a b x y =
      let own = accepted_once first x.stream y.stream x.blocks y.blocks x.accepted y.accepted in
      let of = accepted_once second x.other y.other x.others y.others x.accepted_too y.accepted_too in
      x.is ∙ (rw (sym own.0, sym own.1, sym of.0, sym of.1) refl) ∙ sym y.is

  good : (first second : List ℕ) (a : Answer) → AreAnswered limit first second a → IsGoodInput limit first
  good first second a x = (x.stream, x.blocks, x.accepted)

  good_too : (first second : List ℕ) (a : Answer) → AreAnswered limit first second a → IsGoodInput limit second
  good_too first second a x = (x.other, x.others, x.accepted_too)

  rule_not_good : (input : List ℕ) (n p : ℕ) → BreaksRule limit input n p → IsGoodInput limit input → ⊥
  rule_not_good input n p x g = rule_unaccepted input g.0 g.1 n p g.2 x

  limit_not_good : (input : List ℕ) (n p : ℕ) → BreaksLimit limit input n p → IsGoodInput limit input → ⊥
  limit_not_good input n p x g = limit_unaccepted input g.0 g.1 n p g.2 x

  pub one_of_two : (first second : List ℕ) (s t : Status) → SameVerdict limit first second s → SameVerdict limit first second t → s ≡ t
  one_of_two first second status.Done status.Done x y = refl
  one_of_two first second status.Done (status.Rule m q) x y = absurd (rule_not_good first m q y (good first second answer.Same x))
  one_of_two first second status.Done (status.Limit m q) x y = absurd (limit_not_good first m q y (good first second answer.Same x))
  one_of_two first second status.Done (status.Unlike (unlike.Differs m)) x y = ap (λ (r : Answer). answered_as r) (answers_once first second answer.Same (answer.Differs m) x y)
  one_of_two first second status.Done (status.Unlike (unlike.SecondRule m q)) x y = absurd (rule_not_good second m q y.1 (good_too first second answer.Same x))
  one_of_two first second status.Done (status.Unlike (unlike.SecondLimit m q)) x y = absurd (limit_not_good second m q y.1 (good_too first second answer.Same x))
  one_of_two first second status.Done status.Words x y = absurd y
  one_of_two first second status.Done (status.Choice m q) x y = absurd y
  one_of_two first second status.Done (status.Block m) x y = absurd y
  one_of_two first second status.Done status.ReadFault x y = absurd y
  one_of_two first second status.Done status.WriteFault x y = absurd y
  one_of_two first second status.Done status.NoMemory x y = absurd y
  one_of_two first second (status.Rule n p) status.Done x y = absurd (rule_not_good first n p x (good first second answer.Same y))
  one_of_two first second (status.Rule n p) (status.Rule m q) x y = let e = rules_once first n p m q x y in rw (e.0, e.1) refl
  one_of_two first second (status.Rule n p) (status.Limit m q) x y = absurd (rule_or_limit first n p m q x y)
  one_of_two first second (status.Rule n p) (status.Unlike (unlike.Differs m)) x y = absurd (rule_not_good first n p x (good first second (answer.Differs m) y))
  one_of_two first second (status.Rule n p) (status.Unlike (unlike.SecondRule m q)) x y = absurd (rule_not_good first n p x y.0)
  one_of_two first second (status.Rule n p) (status.Unlike (unlike.SecondLimit m q)) x y = absurd (rule_not_good first n p x y.0)
  one_of_two first second (status.Rule n p) status.Words x y = absurd y
  one_of_two first second (status.Rule n p) (status.Choice m q) x y = absurd y
  one_of_two first second (status.Rule n p) (status.Block m) x y = absurd y
  one_of_two first second (status.Rule n p) status.ReadFault x y = absurd y
  one_of_two first second (status.Rule n p) status.WriteFault x y = absurd y
  one_of_two first second (status.Rule n p) status.NoMemory x y = absurd y
  one_of_two first second (status.Limit n p) status.Done x y = absurd (limit_not_good first n p x (good first second answer.Same y))
  one_of_two first second (status.Limit n p) (status.Rule m q) x y = absurd (rule_or_limit first m q n p y x)
  one_of_two first second (status.Limit n p) (status.Limit m q) x y = let e = limits_once first n p m q x y in rw (e.0, e.1) refl
  one_of_two first second (status.Limit n p) (status.Unlike (unlike.Differs m)) x y = absurd (limit_not_good first n p x (good first second (answer.Differs m) y))
  one_of_two first second (status.Limit n p) (status.Unlike (unlike.SecondRule m q)) x y = absurd (limit_not_good first n p x y.0)
  one_of_two first second (status.Limit n p) (status.Unlike (unlike.SecondLimit m q)) x y = absurd (limit_not_good first n p x y.0)
  one_of_two first second (status.Limit n p) status.Words x y = absurd y
  one_of_two first second (status.Limit n p) (status.Choice m q) x y = absurd y
  one_of_two first second (status.Limit n p) (status.Block m) x y = absurd y
  one_of_two first second (status.Limit n p) status.ReadFault x y = absurd y
  one_of_two first second (status.Limit n p) status.WriteFault x y = absurd y
  one_of_two first second (status.Limit n p) status.NoMemory x y = absurd y
  one_of_two first second (status.Unlike (unlike.Differs n)) status.Done x y = ap (λ (r : Answer). answered_as r) (answers_once first second (answer.Differs n) answer.Same x y)
  one_of_two first second (status.Unlike (unlike.Differs n)) (status.Rule m q) x y = absurd (rule_not_good first m q y (good first second (answer.Differs n) x))
  one_of_two first second (status.Unlike (unlike.Differs n)) (status.Limit m q) x y = absurd (limit_not_good first m q y (good first second (answer.Differs n) x))
  one_of_two first second (status.Unlike (unlike.Differs n)) (status.Unlike (unlike.Differs m)) x y = ap (λ (r : Answer). answered_as r) (answers_once first second (answer.Differs n) (answer.Differs m) x y)
  one_of_two first second (status.Unlike (unlike.Differs n)) (status.Unlike (unlike.SecondRule m q)) x y = absurd (rule_not_good second m q y.1 (good_too first second (answer.Differs n) x))
  one_of_two first second (status.Unlike (unlike.Differs n)) (status.Unlike (unlike.SecondLimit m q)) x y = absurd (limit_not_good second m q y.1 (good_too first second (answer.Differs n) x))
  one_of_two first second (status.Unlike (unlike.Differs n)) status.Words x y = absurd y
  one_of_two first second (status.Unlike (unlike.Differs n)) (status.Choice m q) x y = absurd y
  one_of_two first second (status.Unlike (unlike.Differs n)) (status.Block m) x y = absurd y
  one_of_two first second (status.Unlike (unlike.Differs n)) status.ReadFault x y = absurd y
  one_of_two first second (status.Unlike (unlike.Differs n)) status.WriteFault x y = absurd y
  one_of_two first second (status.Unlike (unlike.Differs n)) status.NoMemory x y = absurd y
  one_of_two first second (status.Unlike (unlike.SecondRule n p)) status.Done x y = absurd (rule_not_good second n p x.1 (good_too first second answer.Same y))
  one_of_two first second (status.Unlike (unlike.SecondRule n p)) (status.Rule m q) x y = absurd (rule_not_good first m q y x.0)
  one_of_two first second (status.Unlike (unlike.SecondRule n p)) (status.Limit m q) x y = absurd (limit_not_good first m q y x.0)
  one_of_two first second (status.Unlike (unlike.SecondRule n p)) (status.Unlike (unlike.Differs m)) x y = absurd (rule_not_good second n p x.1 (good_too first second (answer.Differs m) y))
  one_of_two first second (status.Unlike (unlike.SecondRule n p)) (status.Unlike (unlike.SecondRule m q)) x y = let e = rules_once second n p m q x.1 y.1 in rw (e.0, e.1) refl
  one_of_two first second (status.Unlike (unlike.SecondRule n p)) (status.Unlike (unlike.SecondLimit m q)) x y = absurd (rule_or_limit second n p m q x.1 y.1)
  one_of_two first second (status.Unlike (unlike.SecondRule n p)) status.Words x y = absurd y
  one_of_two first second (status.Unlike (unlike.SecondRule n p)) (status.Choice m q) x y = absurd y
  one_of_two first second (status.Unlike (unlike.SecondRule n p)) (status.Block m) x y = absurd y
  one_of_two first second (status.Unlike (unlike.SecondRule n p)) status.ReadFault x y = absurd y
  one_of_two first second (status.Unlike (unlike.SecondRule n p)) status.WriteFault x y = absurd y
  one_of_two first second (status.Unlike (unlike.SecondRule n p)) status.NoMemory x y = absurd y
  one_of_two first second (status.Unlike (unlike.SecondLimit n p)) status.Done x y = absurd (limit_not_good second n p x.1 (good_too first second answer.Same y))
  one_of_two first second (status.Unlike (unlike.SecondLimit n p)) (status.Rule m q) x y = absurd (rule_not_good first m q y x.0)
  one_of_two first second (status.Unlike (unlike.SecondLimit n p)) (status.Limit m q) x y = absurd (limit_not_good first m q y x.0)
  one_of_two first second (status.Unlike (unlike.SecondLimit n p)) (status.Unlike (unlike.Differs m)) x y = absurd (limit_not_good second n p x.1 (good_too first second (answer.Differs m) y))
  one_of_two first second (status.Unlike (unlike.SecondLimit n p)) (status.Unlike (unlike.SecondRule m q)) x y = absurd (rule_or_limit second m q n p y.1 x.1)
  one_of_two first second (status.Unlike (unlike.SecondLimit n p)) (status.Unlike (unlike.SecondLimit m q)) x y = let e = limits_once second n p m q x.1 y.1 in rw (e.0, e.1) refl
  one_of_two first second (status.Unlike (unlike.SecondLimit n p)) status.Words x y = absurd y
  one_of_two first second (status.Unlike (unlike.SecondLimit n p)) (status.Choice m q) x y = absurd y
  one_of_two first second (status.Unlike (unlike.SecondLimit n p)) (status.Block m) x y = absurd y
  one_of_two first second (status.Unlike (unlike.SecondLimit n p)) status.ReadFault x y = absurd y
  one_of_two first second (status.Unlike (unlike.SecondLimit n p)) status.WriteFault x y = absurd y
  one_of_two first second (status.Unlike (unlike.SecondLimit n p)) status.NoMemory x y = absurd y
  one_of_two first second status.Words t x y = absurd x
  one_of_two first second (status.Choice n p) t x y = absurd x
  one_of_two first second (status.Block n) t x y = absurd x
  one_of_two first second status.ReadFault t x y = absurd x
  one_of_two first second status.WriteFault t x y = absurd x
  one_of_two first second status.NoMemory t x y = absurd x
