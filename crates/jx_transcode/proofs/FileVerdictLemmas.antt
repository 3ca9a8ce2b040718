-- A file has one verdict, JP2 or not.
use Rattle.std.proofs.Common.{◌≡◌, ◌∙◌, ◌⊎◌, ◌<◌, ◌≤◌, ◌+◌, ◌-◌, ℕ, List, length, take, drop, inl, inr, refl, ap, sym, subst, arith}
use Rattle.std.specs.Str.{bytes_eq}
use Rattle.std.proofs.lemmas.Bool.{both_ways, cases_Bool, cases_lt}
use Rattle.std.proofs.lemmas.List.Elements.{All-drop, All-take}
use Rattle.std.proofs.lemmas.Slice.Eq.{bytes_eq-Decides}
use Rattle.jx_base.specs.Limits.{most_bytes}
use Rattle.jx_marker.specs.Ranges.{AreBytes}
use Rattle.jx_jp2.specs.declared.Boxed.{Boxed}
use Rattle.jx_jp2.specs.Codestream.{IsCodestream, IsNextFault, content, signature}
use Rattle.jx_transcode.specs.Aims.{Aim, MayBeAimed}
use Rattle.jx_transcode.specs.Jp2Run.{FileVerdict, Jp2Verdict, RefusesBoxes, VerdictAt, raised}
use Rattle.jx_transcode.specs.Outcome.{Verdict}
use Rattle.jx_transcode.specs.declared.status.Status.{Status}
use Rattle.jx_transcode.specs.declared.status.Status.TheVariants as status

-- ---- the laws that this rests on
abbrev pub HasOne : Type 0
HasOne = (aim : Aim) (input : List ℕ) (s t : Status) → aim.limit ≤ most_bytes → Verdict aim input s → Verdict aim input t → s ≡ t

pub record OneCodestream : Type 0 where
  pub same : (bytes : List ℕ) (first second : Boxed) → IsCodestream bytes first → IsCodestream bytes second → first ≡ second
  pub either : (bytes : List ℕ) (boxed : Boxed) (number place : ℕ) → IsCodestream bytes boxed → IsNextFault bytes 0 number place → ⊥
  pub fault : (bytes : List ℕ) (number place number2 place2 : ℕ) → IsNextFault bytes 0 number place → IsNextFault bytes 0 number2 place2 → (number ≡ number2) × (place ≡ place2)

-- ---- a refusal by boxes is a limit or a rule
record IsRule (limit : ℕ) (input : List ℕ) (s : Status) : Type 0 where
  number : ℕ
  place : ℕ
  within : length input ≤ limit
  broken : IsNextFault input 0 number place
  is : s ≡ status.Rule number place

refusal : (limit : ℕ) (input : List ℕ) (s : Status) → RefusesBoxes limit input s → ((limit < length input) × (s ≡ status.Limit 1 (limit + 1))) ⊎ IsRule limit input s
refusal limit input status.Done r = absurd r
refusal limit input status.Words r = absurd r
refusal limit input (status.Unlike how) r = absurd r
refusal limit input (status.Rule number place) r = inr (record { number = number; place = place; within = r.0; broken = r.1; is = refl })
refusal limit input (status.Limit number found) r = inl (r.0, rw (r.1, r.2) refl)
refusal limit input (status.Choice number place) r = absurd r
refusal limit input (status.Block number) r = absurd r
refusal limit input status.ReadFault r = absurd r
refusal limit input status.WriteFault r = absurd r
refusal limit input status.NoMemory r = absurd r

one_refusal : OneCodestream → (limit : ℕ) (input : List ℕ) (s t : Status) → RefusesBoxes limit input s → RefusesBoxes limit input t → s ≡ t
one_refusal laws limit input s t x y = elim (refusal limit input s x) [
  | inl long ↦ elim (refusal limit input t y) [
    | inl other ↦ long.1 ∙ sym other.1
    | inr rule ↦ absurd (omega (arith, long.0, rule.within))
  ]
  | inr rule ↦ elim (refusal limit input t y) [
    | inl long ↦ absurd (omega (arith, long.0, rule.within))
    | inr other ↦
        let same = laws.fault input rule.number rule.place other.number other.place rule.broken other.broken in
        rule.is ∙ (rw (same.0, same.1) refl) ∙ sym other.is
  ]
]

-- ---- the verdict of a codestream, with its place as the codestream has it
pub record IsRaised (aim : Aim) (from : ℕ) (inner : List ℕ) (s : Status) : Type 0 where
  pub own : Status
  pub verdict : Verdict aim inner own
  pub is : s ≡ raised from own

pub lowered : (aim : Aim) (from : ℕ) (inner : List ℕ) (s : Status) → VerdictAt aim from inner s → IsRaised aim from inner s
lowered aim from inner status.Done v = record { own = status.Done; verdict = v; is = refl }
lowered aim from inner status.Words v = absurd v
lowered aim from inner (status.Unlike how) v = absurd v
lowered aim from inner (status.Rule number place) v = record { own = status.Rule number v.0; verdict = v.2; is = rw v.1 refl }
lowered aim from inner (status.Limit number found) v = record { own = (status.Limit number found); verdict = v; is = refl }
lowered aim from inner (status.Choice number place) v = record { own = (status.Choice number place); verdict = v; is = refl }
lowered aim from inner (status.Block number) v = record { own = (status.Block number); verdict = v; is = refl }
lowered aim from inner status.ReadFault v = absurd v
lowered aim from inner status.WriteFault v = absurd v
lowered aim from inner status.NoMemory v = absurd v

one_raised : HasOne → (aim : Aim) → aim.limit ≤ most_bytes → (from : ℕ) (inner : List ℕ) (s t : Status) → VerdictAt aim from inner s → VerdictAt aim from inner t → s ≡ t
one_raised one aim few from inner s t x y =
    let a : IsRaised aim from inner s = lowered aim from inner s x in
    let b : IsRaised aim from inner t = lowered aim from inner t y in
    a.is ∙ ap (raised from) (one aim inner a.own b.own few a.verdict b.verdict) ∙ sym b.is

-- ---- a file
refused_or_read : OneCodestream → (limit : ℕ) (input : List ℕ) (s : Status) (boxed : Boxed) → RefusesBoxes limit input s → length input ≤ limit → IsCodestream input boxed → ⊥
refused_or_read laws limit input s boxed x within found = elim (refusal limit input s x) [
  | inl long ↦ omega (arith, long.0, within)
  | inr rule ↦ laws.either input boxed rule.number rule.place found rule.broken
]

one_jp2 : HasOne → OneCodestream → (aim : Aim) → aim.limit ≤ most_bytes → (input : List ℕ) (s t : Status) → Jp2Verdict aim input s → Jp2Verdict aim input t → s ≡ t
one_jp2 one laws aim few input s t (inl x) (inl y) = one_refusal laws aim.limit input s t x y
one_jp2 one laws aim few input s t (inl x) (inr y) = absurd (refused_or_read laws aim.limit input s y.1 x y.0 y.2)
one_jp2 one laws aim few input s t (inr x) (inl y) = absurd (refused_or_read laws aim.limit input t x.1 y x.0 x.2)
one_jp2 one laws aim few input s t (inr x) (inr y) =
    let same : y.1 ≡ x.1 = laws.same input y.1 x.1 y.2 x.2 in
    one_raised one aim few x.1.from (content input x.1) s t x.3 (subst (λ (b : Boxed). VerdictAt aim b.from (content input b) t) same y.3)

pub one_of_file : HasOne → OneCodestream → (aim : Aim) (input : List ℕ) (s t : Status) → aim.limit ≤ most_bytes → FileVerdict aim input s → FileVerdict aim input t → s ≡ t
one_of_file one laws aim input s t few (inl x) (inl y) = one aim input s t few x.1 y.1
one_of_file one laws aim input s t few (inl x) (inr y) = absurd (x.0 y.0)
one_of_file one laws aim input s t few (inr x) (inl y) = absurd (y.0 x.0)
one_of_file one laws aim input s t few (inr x) (inr y) = one_jp2 one laws aim few input s t x.1 y.1

-- ---- a file has a verdict
abbrev pub SomeCodestream : Type 0
SomeCodestream = (bytes : List ℕ) → ((boxed : Boxed) × IsCodestream bytes boxed) ⊎ ((number : ℕ) × (place : ℕ) × IsNextFault bytes 0 number place)

raised_at : (aim : Aim) (from : ℕ) (inner : List ℕ) (s : Status) → Verdict aim inner s → VerdictAt aim from inner (raised from s)
raised_at aim from inner status.Done v = v
raised_at aim from inner status.Words v = absurd v
raised_at aim from inner (status.Unlike how) v = absurd v
raised_at aim from inner (status.Rule number place) v = (place, refl, v)
raised_at aim from inner (status.Limit number found) v = v
raised_at aim from inner (status.Choice number place) v = v
raised_at aim from inner (status.Block number) v = v
raised_at aim from inner status.ReadFault v = absurd v
raised_at aim from inner status.WriteFault v = absurd v
raised_at aim from inner status.NoMemory v = absurd v

module _ (some : (aim : Aim) (input : List ℕ) → MayBeAimed aim → AreBytes input → (s : Status) × Verdict aim input s) (codestream : SomeCodestream) (aim : Aim) (may : MayBeAimed aim) (input : List ℕ) (bytes : AreBytes input) where
  boxed_verdict : length input ≤ aim.limit → (boxed : Boxed) → IsCodestream input boxed → (s : Status) × Jp2Verdict aim input s
  boxed_verdict short boxed found =
      let of = some aim (content input boxed) may (All-take (λ (byte : ℕ). byte < 256) (boxed.to - boxed.from) (drop boxed.from input) (All-drop (λ (byte : ℕ). byte < 256) boxed.from input bytes)) in
      (raised boxed.from of.0, inr (short, boxed, found, raised_at aim boxed.from (content input boxed) of.0 of.1))

  short_jp2 : length input ≤ aim.limit → (s : Status) × Jp2Verdict aim input s
  short_jp2 short = elim (codestream input) [
    | inl found ↦ boxed_verdict short found.0 found.1
    | inr broken ↦ (status.Rule broken.0 broken.1, inl (short, broken.2))
  ]

  jp2_verdict : (s : Status) × Jp2Verdict aim input s
  jp2_verdict = elim (cases_lt aim.limit (length input)) [
    | inl long ↦ (status.Limit 1 (aim.limit + 1), inl (long, refl, refl))
    | inr short ↦ short_jp2 short
  ]

  pub some_of_file : (s : Status) × FileVerdict aim input s
  some_of_file = elim (cases_Bool (bytes_eq (take 12 input) signature)) [
    | inl is ↦ let of = jp2_verdict in (of.0, inr ((bytes_eq-Decides (take 12 input) signature).0 is, of.1))
    | inr other ↦ let of = some aim input may bytes in (of.0, inl (λ is. both_ways (bytes_eq (take 12 input) signature) other ((bytes_eq-Decides (take 12 input) signature).1 is), of.1))
  ]
