-- Words of `make`, and what they ask for.
use Rattle.std.proofs.Common.{◌≡◌, ◌<◌, ◌≤◌, ◌^◌, ◌-◌, ◌∙◌, ap, sym, refl, arith, ℕ, true, false, List, [], ◌∷◌, Option, None, Some, inl, inr, codes, drop, unwrap_or}
use Rattle.std.specs.Str.{bytes_eq}
use Rattle.std.specs.Fmt.{decimal}
use Rattle.std.proofs.lemmas.Bool.{cases_Bool, cases_lt}
use Rattle.std.proofs.lemmas.Fmt.{decimal_digit, decimal_injective}
use Rattle.std.proofs.lemmas.Slice.Eq.{bytes_eq-Decides}
use Rattle.clap.specs.Words.{fault_of}
use Rattle.clap.proofs.OnLiterals.{clap_on_literals}
use Rattle.jx_cli.specs.Command.{with_place}
use Rattle.jx_cli.specs.Words.{Text}
use Rattle.jx_cli.specs.MakeWords.{Make, MayBeMade, are_numbers, is_make, is_taken, made_in, make, make_of}
use Rattle.jx_options.specs.Values.{seed_said, side_said}
use Rattle.jx_cli.specs.MakeFound.{AsksMake, make_by, texts_of, under}
use Rattle.jx_options.proofs.NumberLemmas.{number_spelled}
use Rattle.jx_base.specs.Texts.{number_in}
use Rattle.jx_base.proofs.Texts.{number_read}

-- ---- numbers that are said, or their defaults
number_within : (most default : ℕ) (text : Text) → default ≤ most → unwrap_or (number_in most text) default ≤ most
number_within most default text may = by (number_in most text) refl
  where
    by : (o : Option ℕ) → number_in most text ≡ o → unwrap_or o default ≤ most
    by None is = may
    by (Some n) is = (number_read most n text is).1

side_some : (text : Text) → 1 ≤ unwrap_or (side_said text) 1
side_some text = by (number_in 4096 text) refl
  where
    by : (o : Option ℕ) → number_in 4096 text ≡ o → 1 ≤ unwrap_or o 1
    by None is = omega arith
    by (Some n) is = (number_read 4096 n text is).0

seed_small : (text : Text) → unwrap_or (seed_said text) 0 < 2 ^ 64
seed_small text = elim (cases_Bool (bytes_eq text (codes "0"))) [
  | inl t ↦ rw t (omega arith)
  | inr t ↦
      let within : unwrap_or (number_in (2 ^ 64 - 1) text) 0 ≤ 2 ^ 64 - 1 = number_within (2 ^ 64 - 1) 0 text (omega arith) in
      rw t (omega (arith, within))
]

pub make_may_be : (found : Text → Option Text) → MayBeMade (make_by found)
unfolding make_by
make_may_be found =
    let width = under found (codes "width") in
    let height = under found (codes "height") in
    record {
      seed = seed_small (under found (codes "seed"));
      some_width = side_some width;
      few_width = number_within 4096 1 width (omega arith);
      some_height = side_some height;
      few_height = number_within 4096 1 height (omega arith);
    }

pub words_may_be : (words : List Text) → MayBeMade (make_of words)
unfolding make_of make_by
words_may_be words = make_may_be (texts_of make (drop 1 words))

-- ---- words that ask for a codestream
abbrev words_for : Make → List Text
words_for m = codes "make" ∷ codes "--" ∷ decimal m.seed ∷ decimal m.width ∷ decimal m.height ∷ []

words_taken : (seed width height : Text) → fault_of make (codes "make" ∷ codes "--" ∷ seed ∷ width ∷ height ∷ []) ≡ []
unfolding clap_on_literals make with_place
words_taken seed width height = refl

seed_found : (seed width height : Text) → made_in (codes "make" ∷ codes "--" ∷ seed ∷ width ∷ height ∷ []) (codes "seed") ≡ seed
unfolding clap_on_literals make with_place
seed_found seed width height = refl

width_found : (seed width height : Text) → made_in (codes "make" ∷ codes "--" ∷ seed ∷ width ∷ height ∷ []) (codes "width") ≡ width
unfolding clap_on_literals make with_place
width_found seed width height = refl

height_found : (seed width height : Text) → made_in (codes "make" ∷ codes "--" ∷ seed ∷ width ∷ height ∷ []) (codes "height") ≡ height
unfolding clap_on_literals make with_place
height_found seed width height = refl

-- 0 alone has the digit 0
some_seed : (n : ℕ) → 1 ≤ n → n < 2 ^ 64 → bytes_eq (decimal n) (codes "0") ≡ false
some_seed n some small = elim (cases_Bool (bytes_eq (decimal n) (codes "0"))) [
  | inl t ↦
      let is : decimal n ≡ decimal 0 = (bytes_eq-Decides (decimal n) (codes "0")).0 t ∙ sym (decimal_digit 0 (omega arith)) in
      let none = decimal_injective n 0 small (omega arith) is in
      absurd (omega (arith, none, some))
  | inr t ↦ t
]

seed_back : (n : ℕ) → n < 2 ^ 64 → seed_said (decimal n) ≡ Some n
seed_back n small = elim (cases_lt 0 n) [
  | inl some ↦ rw (some_seed n some small) (number_spelled (2 ^ 64 - 1) n (omega arith) some (omega (arith, small)))
  | inr none ↦
      let is : n ≡ 0 = omega arith in
      let digit : decimal n ≡ codes "0" = ap decimal is ∙ decimal_digit 0 (omega arith) in
      rw digit (ap Some (sym is))
]

side_back : (n : ℕ) → 1 ≤ n → n ≤ 4096 → side_said (decimal n) ≡ Some n
side_back n some few = number_spelled 4096 n (omega arith) some few

words_good : (m : Make) → MayBeMade m → is_make ([] ∷ words_for m) ≡ true
unfolding is_make
words_good m may =
    let none : is_taken (words_for m) ≡ true = rw (words_taken (decimal m.seed) (decimal m.width) (decimal m.height)) refl in
    let numbers : are_numbers (words_for m) ≡ true =
    rw (
      seed_found (decimal m.seed) (decimal m.width) (decimal m.height),
      width_found (decimal m.seed) (decimal m.width) (decimal m.height),
      height_found (decimal m.seed) (decimal m.width) (decimal m.height),
      seed_back m.seed may.seed,
      side_back m.width may.some_width may.few_width,
      side_back m.height may.some_height may.few_height,
    ) refl in
    rw (none, numbers) refl

words_made : (m : Make) → MayBeMade m → make_of ([] ∷ words_for m) ≡ m
unfolding make_of
words_made m may =
    rw (
      seed_found (decimal m.seed) (decimal m.width) (decimal m.height),
      width_found (decimal m.seed) (decimal m.width) (decimal m.height),
      height_found (decimal m.seed) (decimal m.width) (decimal m.height),
      seed_back m.seed may.seed,
      side_back m.width may.some_width may.few_width,
      side_back m.height may.some_height may.few_height,
    ) refl

pub has_make_words : (m : Make) → MayBeMade m → AsksMake m
has_make_words m may = record { words = [] ∷ words_for m; good = words_good m may; made = words_made m may }
