-- Which styles names say.
use Rattle.std.proofs.Common.{◌≡◌, ◌<◌, ◌+◌, ◌/◌, ◌%◌, ◌==◌, ◌∙◌, ap, sym, subst, refl, arith, ℕ, eqb, ltb, bit_and, bit_or, codes, Bool, true, false, not, ◌&&◌, ◌||◌, if◌then◌else◌, List, [], ◌∷◌, sum, Option, None, Some, IfSome, inl, inr}
use Rattle.std.specs.Str.{bytes_eq}
use Rattle.std.specs.List.{All, Contains, list_all, list_any}
use Rattle.std.specs.Option.{option_and_then, option_map, option_or}
use Rattle.std.proofs.Math.Bool.{beq}
use Rattle.std.specs.Cmp.{booleans_Decides}
use Rattle.std.proofs.lemmas.Bool.{agree_below, agree_below_at, and_parts, cases_Bool, eq-eqb, eqb-false, eqb-true, ne_eqb, ltb-true, not-false, not-true}
use Rattle.std.proofs.lemmas.Nat.{or_disjoint}
use Rattle.std.proofs.lemmas.List.Sums.{AllPass-from_list_all, sum_by-cons}
use Rattle.std.proofs.lemmas.List.Elements.{All-cons, All-contains, All-nil}
use Rattle.std.proofs.lemmas.Option.{none-some, same_Some}
use Rattle.jx_base.specs.Passes.{bypasses, has_symbols, is_causal, resets, terminates}
use Rattle.jx_base.specs.declared.style.Style.{Style}
use Rattle.jx_options.specs.Wanted.{MayBeStyle}
use Rattle.jx_options.specs.Parts.{with_bit, with_names}
use Rattle.jx_options.specs.Values.{HasNamed, are_apart, bits_in, in_front, parts_of, style_in, style_names, style_of, style_said, style_text, value_in, whole_styles}
use Rattle.jx_options.proofs.ValueLemmas.{found_at}

-- ---- numbers that are apart
abbrev apart : List ℕ → Bool
apart [] = true
apart (n ∷ list) = not (list_any (eqb n) list) && apart list

-- from some and from one another
abbrev are_new : List ℕ → List ℕ → Bool
are_new done [] = true
are_new done (n ∷ list) = not (list_any (eqb n) done) && are_new (n ∷ done) list

apart_from : List ℕ → List ℕ → Bool
apart_from done list = list_all (λ n. not (list_any (eqb n) done)) list

one_more : (a b c d : Bool) → ((not (a || b)) && (c && not d)) ≡ ((not b && c) && not (a || d))
one_more true true c d = refl
one_more true false true d = refl
one_more true false false d = refl
one_more false true c d = refl
one_more false false c d = refl

turned : (a b : ℕ) → eqb a b ≡ eqb b a
turned a b = elim (cases_Bool (eqb b a)) [
  | inl t ↦ eq-eqb a b (sym (eqb-true b a t)) ∙ sym t
  | inr t ↦ ne_eqb a b (λ e. eqb-false b a t (sym e)) ∙ sym t
]

from_one_more : (n : ℕ) (done list : List ℕ) → apart_from (n ∷ done) list ≡ (apart_from done list && not (list_any (eqb n) list))
unfolding apart_from
from_one_more n done [] = refl
from_one_more n done (m ∷ list) =
    rw (from_one_more n done list, turned m n) (one_more (eqb n m) (list_any (eqb m) done) (apart_from done list) (list_any (eqb n) list))

regrouped : (a b c d : Bool) → (not a && ((b && not c) && d)) ≡ ((not a && b) && (not c && d))
regrouped true b c d = refl
regrouped false true true d = refl
regrouped false true false d = refl
regrouped false false c d = refl

new_apart : (done list : List ℕ) → are_new done list ≡ (apart_from done list && apart list)
unfolding apart_from
new_apart done [] = refl
new_apart done (n ∷ list) =
    ap (λ b. not (list_any (eqb n) done) && b) (new_apart (n ∷ done) list ∙ ap (λ b. b && apart list) (from_one_more n done list))
    ∙ regrouped (list_any (eqb n) done) (apart_from done list) (list_any (eqb n) list) (apart list)

from_none : (list : List ℕ) → apart_from [] list ≡ true
unfolding apart_from
from_none [] = refl
from_none (n ∷ list) = from_none list

-- ---- a bit more
abbrev Named : Type 0
Named = List ℕ × ℕ

abbrev has : ℕ → ℕ → Bool
has bits bit = not (bit_and bits bit == 0)

-- bit 4 is clear
abbrev is_free : ℕ → Bool
is_free bits = bits / 16 % 2 == 0

-- six bits with bit 4 clear, and another that a name names, are such bits, and have no others
abbrev adds : ℕ → ℕ → Bool
adds bit bits = not (is_free bits) || (has bits bit || (ltb (bits + bit) 64 && (is_free (bits + bit) && list_all (λ (p : Named). beq (has (bits + bit) p.1) (has bits p.1 || eqb p.1 bit)) style_names)))

abbrev AddsBelow : Named → Type 0
AddsBelow p = agree_below (adds p.1) (λ n. true) 64 ≡ true

each_adds : (name : List ℕ) (bit : ℕ) → Contains style_names (name, bit) → AddsBelow (name, bit)
each_adds name bit at = All-contains AddsBelow style_names (name, bit) (AllPass-from_list_all (λ (p : Named). agree_below (adds p.1) (λ n. true) 64) style_names refl) at

record IsAdded (bits bit : ℕ) : Type 0 where
  total : bit_or bits bit ≡ bits + bit
  few : bits + bit < 64
  free : is_free (bits + bit) ≡ true
  kept : (p : Named) → Contains style_names p → has (bits + bit) p.1 ≡ (has bits p.1 || eqb p.1 bit)

third : (a b c : Bool) → (not a || (b || c)) ≡ true → a ≡ true → b ≡ false → c ≡ true
third true true c h t f = absurd (cc)
third true false c h t f = h
third false b c h t f = absurd (cc)

added : (name : List ℕ) (bits bit : ℕ) → Contains style_names (name, bit) → bits < 64 → is_free bits ≡ true → has bits bit ≡ false → IsAdded bits bit
added name bits bit at few free new =
    let told = third (is_free bits) (has bits bit) _ (agree_below_at (adds bit) (λ n. true) 64 bits (each_adds name bit at) few) free new in
    let parts = and_parts (ltb (bits + bit) 64) _ told in
    let more = and_parts (is_free (bits + bit)) _ parts.1 in
    record {
      total = or_disjoint bits bit (eqb-true (bit_and bits bit) 0 (not-false (bit_and bits bit == 0) new));
      few = ltb-true (bits + bit) 64 parts.0;
      free = more.0;
      kept = λ p is. (booleans_Decides (has (bits + bit) p.1) (has bits p.1 || eqb p.1 bit)).0
          (All-contains (λ (q : Named). beq (has (bits + bit) q.1) (has bits q.1 || eqb q.1 bit) ≡ true) style_names p
          (AllPass-from_list_all (λ (q : Named). beq (has (bits + bit) q.1) (has bits q.1 || eqb q.1 bit)) style_names more.1) is);
    }

-- ---- bits that are taken one after another
record Agree (bits : ℕ) (done : List ℕ) : Type 0 where
  total : sum done ≡ bits
  few : bits < 64
  free : is_free bits ≡ true
  same : (p : Named) → Contains style_names p → has bits p.1 ≡ list_any (eqb p.1) done

agree_none : Agree 0 []
agree_none = record {
  total = refl;
  few = omega arith;
  free = refl;
  same = λ p is. not-true (has 0 p.1) (All-contains (λ (q : Named). not (has 0 q.1) ≡ true) style_names p (AllPass-from_list_all (λ (q : Named). not (has 0 q.1)) style_names refl) is);
}

swapped : (a b c : Bool) → a ≡ c → (a || b) ≡ (b || c)
swapped true true c e = refl
swapped true false c e = e
swapped false true c e = refl
swapped false false c e = e

agree_more : (name : List ℕ) (bits bit : ℕ) (done : List ℕ) → Agree bits done → Contains style_names (name, bit) → has bits bit ≡ false → Agree (bits + bit) (bit ∷ done)
agree_more name bits bit done a at new =
    let is = added name bits bit at a.few a.free new in
    record {
      total = omega (arith, a.total, sum_by-cons (λ (y : ℕ). y) bit done);
      few = is.few;
      free = is.free;
      same = λ p listed. is.kept p listed ∙ swapped (has bits p.1) (eqb p.1 bit) (list_any (eqb p.1) done) (a.same p listed);
    }

abbrev after : List ℕ → List ℕ → Option ℕ
after done more = if are_new done more then Some (sum done + sum more) else None

refused : (done : List ℕ) (bit : ℕ) (o : Option (List ℕ)) → list_any (eqb bit) done ≡ true → None ≡ option_and_then (after done) (option_map (λ more. bit ∷ more) o)
refused done bit None there = refl
refused done bit (Some more) there = rw there refl

taken : (done : List ℕ) (bit : ℕ) (o : Option (List ℕ)) → list_any (eqb bit) done ≡ false → option_and_then (after (bit ∷ done)) o ≡ option_and_then (after done) (option_map (λ more. bit ∷ more) o)
taken done bit None new = refl
taken done bit (Some more) new =
    let same : sum (bit ∷ done) + sum more ≡ sum done + sum (bit ∷ more) = omega (arith, sum_by-cons (λ (y : ℕ). y) bit done, sum_by-cons (λ (y : ℕ). y) bit more) in
    rw new (ap (λ n. if are_new (bit ∷ done) more then Some n else None) same)

with_is : (names : List (List ℕ)) (bits : ℕ) (done : List ℕ) → Agree bits done → with_names names bits ≡ option_and_then (after done) (bits_in names)
unfolding with_names bits_in
with_is [] bits done a =
    let same : bits ≡ sum done + sum [] = omega (arith, a.total) in
    ap Some same
with_is (name ∷ names) bits done a = by (value_in style_names name) (found_at style_names name) (λ b d is. with_is names b d is)
  where
    by : (o : Option ℕ) → IfSome o (λ bit. Contains style_names (name, bit)) → ((b : ℕ) (d : List ℕ) → Agree b d → with_names names b ≡ option_and_then (after d) (bits_in names))
        → option_and_then (with_names names) (with_bit bits o) ≡ option_and_then (after done) (in_front o (bits_in names))
    by None at next = refl
    by (Some bit) at next = elim (cases_Bool (has bits bit)) [
      | inl t ↦ rw (not-true (bit_and bits bit == 0) t) (refused done bit (bits_in names) (sym (a.same (name, bit) at) ∙ t))
      | inr t ↦
          let is = added name bits bit at a.few a.free t in
          rw (not-false (bit_and bits bit == 0) t, is.total) (next (bits + bit) (bit ∷ done) (agree_more name bits bit done a at t) ∙ taken done bit (bits_in names) (sym (a.same (name, bit) at) ∙ t))
    ]

abbrev made_of : ℕ → Style
made_of bits = record { bits = bits }

-- two names are the same where their bits are
one_name : (p q : Named) → Contains style_names p → Contains style_names q → eqb p.1 q.1 ≡ bytes_eq p.0 q.0
one_name p q at there =
    let rows = AllPass-from_list_all (λ (r : Named). list_all (λ (s : Named). beq (eqb r.1 s.1) (bytes_eq r.0 s.0)) style_names) style_names refl in
    let row = All-contains (λ (r : Named). list_all (λ (s : Named). beq (eqb r.1 s.1) (bytes_eq r.0 s.0)) style_names ≡ true) style_names p rows at in
    (booleans_Decides (eqb p.1 q.1) (bytes_eq p.0 q.0)).0
    (All-contains (λ (s : Named). beq (eqb p.1 s.1) (bytes_eq p.0 s.0) ≡ true) style_names q (AllPass-from_list_all (λ (s : Named). beq (eqb p.1 s.1) (bytes_eq p.0 s.0)) style_names row) there)

-- so bits are apart where their names are
record AreRead (names : List (List ℕ)) (bits : List ℕ) : Type 0 where
  among : (p : Named) → Contains style_names p → list_any (eqb p.1) bits ≡ list_any (bytes_eq p.0) names
  once : apart bits ≡ are_apart names

bits_read : (names : List (List ℕ)) (bits : List ℕ) → bits_in names ≡ Some bits → AreRead names bits
unfolding bits_in
bits_read [] bits e = subst (AreRead []) (same_Some [] bits e) (record { among = λ p listed. refl; once = refl })
bits_read (name ∷ names) bits e = by (value_in style_names name) (found_at style_names name) (bits_in names) refl e (λ more is. bits_read names more is)
  where
    by : (o : Option ℕ) → IfSome o (λ bit. Contains style_names (name, bit)) → (m : Option (List ℕ)) → bits_in names ≡ m → in_front o m ≡ Some bits → ((more : List ℕ) → bits_in names ≡ Some more → AreRead names more)
        → AreRead (name ∷ names) bits
    by None at m is f next = absurd (none-some bits f)
    by (Some bit) at None is f next = absurd (none-some bits f)
    by (Some bit) at (Some more) is f next =
        let r = next more is in
        subst (AreRead (name ∷ names)) (same_Some (bit ∷ more) bits f)
        (record { among = λ p listed. rw (one_name p (name, bit) listed at, r.among p listed) refl; once = rw (r.among (name, bit) at, r.once) refl })

style_each : (names : List (List ℕ)) → style_of names ≡ option_map made_of (option_and_then (after []) (bits_in names))
style_each names = by (bits_in names) refl
  where
    none : (b : Bool) → ◌≡◌ {A = Option Style} (if b then None else None) None
    none true = refl
    none false = refl

    both : (bits : List ℕ) (b : Bool) → (if b then Some (made_of (sum bits)) else None) ≡ option_map made_of (if b then Some (sum [] + sum bits) else None)
    both bits true =
        let same : sum bits ≡ sum [] + sum bits = omega arith in
        ap (λ n. Some (made_of n)) same
    both bits false = refl

    by : (o : Option (List ℕ)) → bits_in names ≡ o → (if are_apart names then option_map (λ bits. made_of (sum bits)) o else None) ≡ option_map made_of (option_and_then (after []) o)
    by None is = none (are_apart names)
    by (Some bits) is = rw (← (bits_read names bits is).once, new_apart [] bits, from_none bits) (both bits (apart bits))

pub style_is : (text : List ℕ) → style_in text ≡ option_map made_of (with_names (parts_of 43 text) 0)
unfolding style_in
style_is text = style_each (parts_of 43 text) ∙ ap (option_map made_of) (sym (with_is (parts_of 43 text) 0 [] agree_none))

-- ---- a text that is read name by name
pub ended : (text : List ℕ) (names : List (List ℕ)) (bits : ℕ) → names ≡ [] → with_names names bits ≡ with_names (parts_of 43 text) 0 → Some (made_of bits) ≡ style_in text
unfolding with_names
ended text names bits none so_far =
    let all : Some bits ≡ with_names (parts_of 43 text) 0 = sym (ap (λ n. with_names n bits) none) ∙ so_far in
    ap (option_map made_of) all ∙ sym (style_is text)

pub refused_name : (text name : List ℕ) (names more : List (List ℕ)) (bits : ℕ) → names ≡ name ∷ more → None ≡ with_bit bits (value_in style_names name) → with_names names bits ≡ with_names (parts_of 43 text) 0 → None ≡ style_in text
unfolding with_names
refused_name text name names more bits is no_bit so_far =
    let all : None ≡ with_names (parts_of 43 text) 0 = ap (option_and_then (with_names more)) no_bit ∙ sym (ap (λ n. with_names n bits) is) ∙ so_far in
    ap (option_map made_of) all ∙ sym (style_is text)

pub next_name : (text name : List ℕ) (names more : List (List ℕ)) (bits next : ℕ) → names ≡ name ∷ more → Some next ≡ with_bit bits (value_in style_names name) → with_names names bits ≡ with_names (parts_of 43 text) 0
    → with_names more next ≡ with_names (parts_of 43 text) 0
unfolding with_names
next_name text name names more bits next is bit so_far = ap (option_and_then (with_names more)) bit ∙ sym (ap (λ n. with_names n bits) is) ∙ so_far

-- ---- what names say
record IsTold (names : List (List ℕ)) (bits out : ℕ) : Type 0 where
  few : out < 64
  free : is_free out ≡ true
  named : (p : Named) → Contains style_names p → has out p.1 ≡ (has bits p.1 || list_any (bytes_eq p.0) names)

by_parts : (a b c d e f : Bool) → a ≡ (b || c) → b ≡ (d || e) → e ≡ f → a ≡ (d || (f || c))
by_parts a b c true e f first second third = rw (first, second) refl
by_parts a b c false e f first second third = rw (first, second, third) refl

none_more : (b : Bool) → b ≡ (b || false)
none_more true = refl
none_more false = refl

names_told : (names : List (List ℕ)) (bits : ℕ) → bits < 64 → is_free bits ≡ true → IfSome (with_names names bits) (IsTold names bits)
unfolding with_names
names_told [] bits few free = record { few = few; free = free; named = λ p is. none_more (has bits p.1) }
names_told (name ∷ names) bits few free = by (value_in style_names name) (found_at style_names name) (λ b few free. names_told names b few free)
  where
    one_more_name : (bit : ℕ) (o : Option ℕ) → Contains style_names (name, bit) → IsAdded bits bit → IfSome o (IsTold names (bits + bit)) → IfSome o (IsTold (name ∷ names) bits)
    one_more_name bit None at is told = tt
    one_more_name bit (Some out) at is told = record {
      few = told.few;
      free = told.free;
      named = λ p listed. by_parts (has out p.1) (has (bits + bit) p.1) (list_any (bytes_eq p.0) names) (has bits p.1) (eqb p.1 bit) (bytes_eq p.0 name) (told.named p listed) (is.kept p listed) (one_name p (name, bit) listed at);
    }

    by : (o : Option ℕ) → IfSome o (λ bit. Contains style_names (name, bit)) → ((b : ℕ) → b < 64 → is_free b ≡ true → IfSome (with_names names b) (IsTold names b))
        → IfSome (option_and_then (with_names names) (with_bit bits o)) (IsTold (name ∷ names) bits)
    by None at next = tt
    by (Some bit) at next = elim (cases_Bool (has bits bit)) [
      | inl t ↦ rw (not-true (bit_and bits bit == 0) t) tt
      | inr t ↦
          let is = added name bits bit at few free t in
          rw (not-false (bit_and bits bit == 0) t, is.total) (one_more_name bit (with_names names (bits + bit)) at is (next (bits + bit) is.few is.free))
    ]

-- ---- what a text says
abbrev pub IsGood : List ℕ → Style → Type 0
IsGood text style = MayBeStyle style × HasNamed (parts_of 43 text) style

good_told : (text : List ℕ) (bits : ℕ) → IsTold (parts_of 43 text) 0 bits → IsGood text (made_of bits)
good_told text bits told = (
  record { few = told.few; free = eqb-true (bits / 16 % 2) 0 told.free },
  record {
    bypass = sym (agree_below_at (λ b. has b 1) bypasses 64 bits refl told.few) ∙ told.named (codes "bypass", 1) (0, omega arith, refl);
    reset = sym (agree_below_at (λ b. has b 2) resets 64 bits refl told.few) ∙ told.named (codes "reset", 2) (1, omega arith, refl);
    terminate = sym (agree_below_at (λ b. has b 4) terminates 64 bits refl told.few) ∙ told.named (codes "terminate", 4) (2, omega arith, refl);
    causal = sym (agree_below_at (λ b. has b 8) is_causal 64 bits refl told.few) ∙ told.named (codes "causal", 8) (3, omega arith, refl);
    segment = sym (agree_below_at (λ b. has b 32) has_symbols 64 bits refl told.few) ∙ told.named (codes "segment", 32) (4, omega arith, refl);
  },
)

named_good : (text : List ℕ) → IfSome (style_in text) (IsGood text)
named_good text =
    let few : 0 < 64 = omega arith in
    rw (style_is text) (by (with_names (parts_of 43 text) 0) (names_told (parts_of 43 text) 0 few refl))
  where
    by : (o : Option ℕ) → IfSome o (IsTold (parts_of 43 text) 0) → IfSome (option_map made_of o) (IsGood text)
    by None told = tt
    by (Some bits) told = good_told text bits told

none_good : IsGood (codes "none") (made_of 0)
unfolding parts_of
none_good = (record { few = omega arith; free = refl }, record { bypass = refl; reset = refl; terminate = refl; causal = refl; segment = refl })

whole_good : (text : List ℕ) → IfSome (value_in whole_styles text) (λ v. IfSome v (IsGood text))
whole_good text = by (value_in whole_styles text) (found_at whole_styles text)
  where
    by : (o : Option (Option Style)) → IfSome o (λ v. Contains whole_styles (text, v)) → IfSome o (λ v. IfSome v (IsGood text))
    by None at = tt
    by (Some v) at = All-contains (λ (p : List ℕ × Option Style). IfSome p.1 (IsGood p.0)) whole_styles (text, v) both at
      where
        both : All (λ (p : List ℕ × Option Style). IfSome p.1 (IsGood p.0)) whole_styles
        both = All-cons (λ (p : List ℕ × Option Style). IfSome p.1 (IsGood p.0)) (codes "keep", None) ((codes "none", Some (made_of 0)) ∷ []) tt
            (All-cons (λ (p : List ℕ × Option Style). IfSome p.1 (IsGood p.0)) (codes "none", Some (made_of 0)) [] none_good (All-nil (λ (p : List ℕ × Option Style). IfSome p.1 (IsGood p.0))))

pub style_good : (text : List ℕ) → IfSome (style_said text) (λ v. IfSome v (IsGood text))
style_good text = by (value_in whole_styles text) (whole_good text) (style_in text) (named_good text)
  where
    by : (whole : Option (Option Style)) → IfSome whole (λ v. IfSome v (IsGood text)) → (o : Option Style) → IfSome o (IsGood text) → IfSome (option_or whole (option_map Some o)) (λ v. IfSome v (IsGood text))
    by (Some v) good o named = good
    by None good None named = tt
    by None good (Some style) named = named

pub style_read : (text : List ℕ) (style : Style) → style_said text ≡ Some (Some style) → IsGood text style
style_read text style e =
    let good : IfSome (style_said text) (λ v. IfSome v (IsGood text)) = style_good text in
    rw e at good

-- ---- and each style is said by some
abbrev says : Option (Option Style) → ℕ → Bool
says None bits = false
says (Some None) bits = false
says (Some (Some style)) bits = style.bits == bits

says_read : (o : Option (Option Style)) (bits : ℕ) → says o bits ≡ true → o ≡ Some (Some (made_of bits))
says_read None bits e = absurd (cc)
says_read (Some None) bits e = absurd (cc)
says_read (Some (Some style)) bits e = ap (λ b. Some (Some (made_of b))) (eqb-true style.bits bits e)

abbrev is_said : ℕ → Bool
is_said bits = not (is_free bits) || says (style_said (style_text (made_of bits))) bits

all_said : agree_below is_said (λ n. true) 64 ≡ true
unfolding style_in parts_of bits_in
all_said = refl

second : (a b : Bool) → (not a || b) ≡ true → a ≡ true → b ≡ true
second true b h t = h
second false b h t = absurd (cc)

pub style_spelled : (style : Style) → MayBeStyle style → style_said (style_text style) ≡ Some (Some style)
style_spelled style may =
    says_read (style_said (style_text style)) style.bits
    (second (is_free style.bits) _ (agree_below_at is_said (λ n. true) 64 style.bits all_said may.few) (eq-eqb (style.bits / 16 % 2) 0 may.free))
