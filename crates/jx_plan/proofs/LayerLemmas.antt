-- The layers of a rule as a closed list: its ends rise, and divide the passes by the layers in which they lie.
use Rattle.std.proofs.Common.{◌≡◌, ◌<◌, ◌≤◌, ◌+◌, ◌-◌, ◌==◌, ◌∙◌, ◌||◌, ap, sym, subst, arith, ℕ, zero, suc, cond, Bool, true, false, List, [], ◌∷◌, map, inl, inr, Option}
use Rattle.std.specs.Prelude.{count_by, nat_le}
use Rattle.std.specs.List.{All, filter, list_any, range_with_len}
use Rattle.std.proofs.lemmas.Bool.{cases_Bool, cases_lt, cases_eq, eq-eqb, ne_eqb, or_parts}
use Rattle.std.proofs.lemmas.Bool.Decides.{nat_tests}
use Rattle.std.proofs.lemmas.List.Sums.{sum_by-cons}
use Rattle.jx_base.specs.declared.pieces.Block.{Block}
use Rattle.jx_base.specs.declared.style.Style.{Style}
use Rattle.jx_base.specs.Pieces.{PieceValue}
use Rattle.jx_base.specs.Sound.{IsSound}
use Rattle.jx_codeblock.specs.declared.LayerEnd.{LayerEnd}
use Rattle.jx_codeblock.specs.declared.job.Job.{Job}
use Rattle.jx_codeblock.specs.Jobs.{AreEnds, IsAsked}
use Rattle.jx_codeblock.specs.Recoding.{layer_ends}
use Rattle.jx_codeblock.specs.Written.{style_for}
use Rattle.jx_plan.specs.Causal.{breaks_plane}
use Rattle.jx_layers.specs.Rule.{Rule}
use Rattle.jx_layers.specs.Rule.Rule.{Keep}
use Rattle.jx_plan.specs.Layers.{IsJobOf, Divide, answer_at, ends_by, ends_of, greatest_to, has_pass, layer_at, passes_to}
use Rattle.jx_plan.proofs.CausalLemmas.{kept}
use Rattle.jx_plan.proofs.OneLemmas.{ends_below, greatest_below, keeps_ends, one_ends}

-- ---- layers that never fall
abbrev pub NeverFalls : (ℕ → ℕ) → Type 0
NeverFalls f = (k : ℕ) → f k ≤ f (suc k)

climbs : (f : ℕ → ℕ) (a d : ℕ) → NeverFalls f → f a ≤ f (a + d)
climbs f a zero up = let same : a + 0 ≡ a = omega arith in rw same (omega arith)
climbs f a (suc d) up =
    let next : a + suc d ≡ suc (a + d) = omega arith in
    rw next (omega (arith, climbs f a d up, up (a + d)))

above : (f : ℕ → ℕ) (a b : ℕ) → NeverFalls f → a ≤ b → f a ≤ f b
above f a b up le =
    let there : a + (b - a) ≡ b = omega arith in
    subst (λ k. f a ≤ f k) there (climbs f a (b - a) up)

-- of n passes, from one on, just the first lie in layers up to one, and so many they are
record LieFirst (f : ℕ → ℕ) (l s n count : ℕ) : Type 0 where
  few : count ≤ n
  low : (pass : ℕ) → s ≤ pass → pass < s + count → f pass ≤ l
  high : (pass : ℕ) → s + count ≤ pass → pass < s + n → l < f pass

first_none : (f : ℕ → ℕ) (l s : ℕ) → LieFirst f l s 0 0
first_none f l s = record { few = omega arith; low = λ pass from below. absurd (omega arith); high = λ pass from below. absurd (omega arith) }

first_one : (f : ℕ → ℕ) (l s n count : ℕ) → f s ≤ l → LieFirst f l (s + 1) n count → LieFirst f l s (suc n) (1 + count)
first_one f l s n count here rest = record {
  few = omega (arith, rest.few);
  low = λ pass from below. elim (cases_eq s pass) [
    | inl same ↦ subst (λ k. f k ≤ l) same here
    | inr other ↦ rest.low pass (omega arith) (omega arith)
  ];
  high = λ pass from below. rest.high pass (omega arith) (omega arith);
}

first_past : (f : ℕ → ℕ) (l s n count : ℕ) → NeverFalls f → l < f s → LieFirst f l (s + 1) n count → LieFirst f l s (suc n) (0 + count)
first_past f l s n count up over rest =
    let none : count ≡ 0 = elim (cases_lt 0 count) [
      | inl lt ↦ absurd (omega (arith, over, above f s (s + 1) up (omega arith), rest.low (s + 1) (omega arith) (omega arith)))
      | inr ge ↦ omega arith
    ] in
    record {
      few = omega (arith, none);
      low = λ pass from below. absurd (omega (arith, none, below, from));
      high = λ pass from below. omega (arith, over, above f s pass up (omega (arith, none, from)));
    }

counted : (f : ℕ → ℕ) (l s n : ℕ) → NeverFalls f → LieFirst f l s n (count_by (λ pass. nat_le (f pass) l) (range_with_len s n))
counted f l s zero up = first_none f l s
counted f l s (suc n) up =
    let rest : ℕ = count_by (λ pass. nat_le (f pass) l) (range_with_len (s + 1) n) in
    let split : count_by (λ pass. nat_le (f pass) l) (range_with_len s (suc n)) ≡ cond (nat_le (f s) l) 1 0 + rest = sum_by-cons (λ pass. cond (nat_le (f pass) l) 1 0) s (range_with_len (s + 1) n) in
    let more : LieFirst f l (s + 1) n rest = counted f l (s + 1) n up in
    subst (LieFirst f l s (suc n)) (sym split) (elim (cases_lt l (f s)) [
      | inl lt ↦
          let test : nat_le (f s) l ≡ false = grind (arith, nat_tests) in
          subst (λ (b : Bool). LieFirst f l s (suc n) (cond b 1 0 + rest)) (sym test) (first_past f l s n rest up lt more)
      | inr le ↦
          let test : nat_le (f s) l ≡ true = grind (arith, nat_tests) in
          subst (λ (b : Bool). LieFirst f l s (suc n) (cond b 1 0 + rest)) (sym test) (first_one f l s n rest le more)
    ])

-- of n passes just the first, so many, lie in layers below one
record AreParted (f : ℕ → ℕ) (n layer passes : ℕ) : Type 0 where
  few : passes ≤ n
  low : (pass : ℕ) → pass < passes → f pass < layer
  high : (pass : ℕ) → passes ≤ pass → pass < n → layer ≤ f pass

parted_none : (f : ℕ → ℕ) (n : ℕ) → AreParted f n 0 0
parted_none f n = record { few = omega arith; low = λ pass below. absurd (omega arith); high = λ pass from below. omega arith }

parted_to : (f : ℕ → ℕ) (n l : ℕ) → NeverFalls f → AreParted f n (l + 1) (passes_to f n l)
parted_to f n l up =
    let first = counted f l 0 n up in
    record {
      few = first.few;
      low = λ pass below. omega (arith, first.low pass (omega arith) (omega arith));
      high = λ pass from below. omega (arith, first.high pass (omega arith) (omega arith));
    }

-- ---- whether a layer has a pass
there : (f : ℕ → ℕ) (l s n : ℕ) → list_any (λ pass. f pass == l) (range_with_len s n) ≡ true → (pass : ℕ) × (s ≤ pass) × (pass < s + n) × (f pass ≡ l)
there f l s zero has = absurd (cc)
there f l s (suc n) has = elim (cases_eq (f s) l) [
  | inl same ↦ (s, omega arith, omega arith, same)
  | inr other ↦
      let rest : Bool = list_any (λ pass. f pass == l) (range_with_len (s + 1) n) in
      let more : rest ≡ true = subst (λ (b : Bool). (b || rest) ≡ true) (ne_eqb (f s) l other) has in
      let at = there f l (s + 1) n more in
      (at.0, omega (arith, at.1), omega (arith, at.2), at.3)
]

not_there : (f : ℕ → ℕ) (l s n : ℕ) → list_any (λ pass. f pass == l) (range_with_len s n) ≡ false → (pass : ℕ) → s ≤ pass → pass < s + n → f pass ≡ l → ⊥
not_there f l s zero none pass from below is = omega arith
not_there f l s (suc n) none pass from below is =
    let parts = or_parts (f s == l) (list_any (λ k. f k == l) (range_with_len (s + 1) n)) none in
    elim (cases_eq s pass) [
      | inl same ↦ let e : true ≡ false = sym (eq-eqb (f s) l (ap f same ∙ is)) ∙ parts.0 in absurd (cc)
      | inr other ↦ not_there f l (s + 1) n parts.1 pass (omega arith) (omega arith) is
    ]

-- where it has one its end is later than the end before it, else it is the same
later : (f : ℕ → ℕ) (n layer p q pass : ℕ) → AreParted f n layer p → AreParted f n (layer + 1) q → pass < n → f pass ≡ layer → p < q
later f n layer p q pass before to below is = elim (cases_lt pass p) [
  | inl lt ↦ absurd (omega (arith, is, before.low pass lt))
  | inr ge ↦ elim (cases_lt pass q) [
    | inl lt ↦ omega arith
    | inr le ↦ absurd (omega (arith, is, to.high pass le below))
  ]
]

same_end : (f : ℕ → ℕ) (n layer p q : ℕ) → AreParted f n layer p → AreParted f n (layer + 1) q → ((pass : ℕ) → pass < n → f pass ≡ layer → ⊥) → q ≡ p
same_end f n layer p q before to none = elim (cases_lt p q) [
  | inl lt ↦
      let below : p < n = omega (arith, to.few) in
      absurd (none p below (omega (arith, to.low p lt, before.high p (omega arith) below)))
  | inr ge ↦ elim (cases_lt q p) [
    | inl lt ↦
        let below : q < n = omega (arith, before.few) in
        absurd (omega (arith, before.low q lt, to.high q (omega arith) below))
    | inr le ↦ omega arith
  ]
]

-- ---- the closed list, from a layer on
abbrev end_by : (ℕ → ℕ) → ℕ → ℕ → LayerEnd
end_by f n l = record { layer = l; passes = passes_to f n l }

abbrev ends_from : (ℕ → ℕ) → ℕ → ℕ → ℕ → List LayerEnd
ends_from f n a count = map (end_by f n) (filter (has_pass f n) (range_with_len a count))

-- the same, where it is known whether the first layer has a pass
abbrev ends_where : Bool → (ℕ → ℕ) → ℕ → ℕ → ℕ → List LayerEnd
ends_where has f n a count = map (end_by f n) (cond has (a ∷ filter (has_pass f n) (range_with_len (a + 1) count)) (filter (has_pass f n) (range_with_len (a + 1) count)))

ends_lower : (layer passes n : ℕ) (ends : List LayerEnd) → AreEnds (layer + 1) passes n ends → AreEnds layer passes n ends
ends_lower layer passes n [] are = are
ends_lower layer passes n (e ∷ ends) are = (omega (arith, are.0), are.1, are.2)

rise_from : (f : ℕ → ℕ) (n a count p : ℕ) → NeverFalls f → ((pass : ℕ) → pass < n → f pass < a + count) → AreParted f n a p → AreEnds a p n (ends_from f n a count)
rise_from f n a zero p up within parted = elim (cases_lt p n) [
  | inl lt ↦ absurd (omega (arith, within p lt, parted.high p (omega arith) lt))
  | inr ge ↦ omega (arith, parted.few)
]
rise_from f n a (suc count) p up within parted =
    let q : ℕ = passes_to f n a in
    let to : AreParted f n (a + 1) q = parted_to f n a up in
    let rest : AreEnds (a + 1) q n (ends_from f n (a + 1) count) = rise_from f n (a + 1) count q up (λ pass lt. omega (arith, within pass lt)) to in
    elim (cases_Bool (has_pass f n a)) [
      | inl has ↦
          let at = there f a 0 n has in
          subst (λ (b : Bool). AreEnds a p n (ends_where b f n a count)) (sym has) (omega arith, later f n a p q at.0 parted to (omega (arith, at.2)) at.3, rest)
      | inr none ↦
          let same : q ≡ p = same_end f n a p q parted to (λ pass lt is. not_there f a 0 n none pass (omega arith) (omega arith) is) in
          let moved : AreEnds (a + 1) p n (ends_from f n (a + 1) count) = subst (λ k. AreEnds (a + 1) k n (ends_from f n (a + 1) count)) same rest in
          subst (λ (b : Bool). AreEnds a p n (ends_where b f n a count)) (sym none) (ends_lower a p n (ends_from f n (a + 1) count) moved)
    ]

divide_from : (f : ℕ → ℕ) (n a count p : ℕ) → NeverFalls f → AreParted f n a p → Divide f p (ends_from f n a count)
divide_from f n a zero p up parted = tt
divide_from f n a (suc count) p up parted =
    let q : ℕ = passes_to f n a in
    let to : AreParted f n (a + 1) q = parted_to f n a up in
    let rest : Divide f q (ends_from f n (a + 1) count) = divide_from f n (a + 1) count q up to in
    elim (cases_Bool (has_pass f n a)) [
      | inl has ↦
          let here : (pass : ℕ) → p ≤ pass → pass < q → f pass ≡ a = λ pass from below. omega (arith, to.low pass below, parted.high pass from (omega (arith, below, to.few))) in
          subst (λ (b : Bool). Divide f p (ends_where b f n a count)) (sym has) (here, rest)
      | inr none ↦
          let same : q ≡ p = same_end f n a p q parted to (λ pass lt is. not_there f a 0 n none pass (omega arith) (omega arith) is) in
          subst (λ (b : Bool). Divide f p (ends_where b f n a count)) (sym none) (subst (λ k. Divide f k (ends_from f n (a + 1) count)) same rest)
    ]

pub ends_rise : (f : ℕ → ℕ) (n layers : ℕ) → NeverFalls f → ((pass : ℕ) → f pass < layers) → AreEnds 0 0 n (ends_by f n layers)
unfolding ends_by
ends_rise f n layers up within = rise_from f n 0 layers 0 up (λ pass lt. omega (arith, within pass)) (parted_none f n)

pub ends_divide : (f : ℕ → ℕ) (n layers : ℕ) → NeverFalls f → Divide f 0 (ends_by f n layers)
unfolding ends_by
ends_divide f n layers up = divide_from f n 0 layers 0 up (parted_none f n)

-- ---- the layers of a rule
greatest_up : (g : ℕ → ℕ) (k : ℕ) → greatest_to g k ≤ greatest_to g (suc k)
greatest_up g k = omega arith

layer_below : (rule : Rule) (layers : ℕ) (blocks : List Block) (number : ℕ) (b : Block) (pass : ℕ) → 1 ≤ layers → layer_at rule layers blocks number b pass < layers
layer_below rule layers blocks number b pass some = greatest_below (answer_at rule layers blocks number b) layers pass (λ k. omega arith)

pub rule_ends : (rule : Rule) (layers : ℕ) (blocks : List Block) (number : ℕ) (b : Block) → 1 ≤ layers → AreEnds 0 0 b.passes (ends_of rule layers blocks number b)
rule_ends rule layers blocks number b some =
    ends_rise (layer_at rule layers blocks number b) b.passes layers (greatest_up (answer_at rule layers blocks number b)) (λ pass. layer_below rule layers blocks number b pass some)

pub rule_divides : (rule : Rule) (layers : ℕ) (blocks : List Block) (number : ℕ) (b : Block) → Divide (layer_at rule layers blocks number b) 0 (ends_of rule layers blocks number b)
rule_divides rule layers blocks number b = ends_divide (layer_at rule layers blocks number b) b.passes layers (greatest_up (answer_at rule layers blocks number b))

pub job_ends : (style : Option Style) (rule : Rule) (layers : ℕ) (blocks : List Block) (number : ℕ) (b : Block) (job : Job) → 1 ≤ layers → IsJobOf style rule layers blocks number b job → job.ends ≡ ends_of rule layers blocks number b
job_ends style rule layers blocks number b job some is =
    one_ends (layer_at rule layers blocks number b) 0 0 0 b.passes job.ends (ends_of rule layers blocks number b) is.ends (rule_ends rule layers blocks number b some) is.layers_are
    (rule_divides rule layers blocks number b)

pub rule_asked : (style : Option Style) (rule : Rule) (layers : ℕ) (blocks : List Block) (number : ℕ) (b : Block) → 1 ≤ layers → IsSound b → breaks_plane style b ≡ false
    → IsAsked b (style_for style b) (ends_of rule layers blocks number b)
rule_asked style rule layers blocks number b some sound clear = record { sound = sound; layers = rule_ends rule layers blocks number b some; causal = kept style b clear }

pub rule_written : (rule : Rule) (layers : ℕ) (blocks : List Block) (number : ℕ) (b : Block) → 1 ≤ layers → All (λ (e : LayerEnd). e.layer < layers) (ends_of rule layers blocks number b)
rule_written rule layers blocks number b some =
    ends_below (layer_at rule layers blocks number b) 0 0 b.passes layers (ends_of rule layers blocks number b) (λ pass. layer_below rule layers blocks number b pass some) (rule_ends rule layers blocks number b some)
    (rule_divides rule layers blocks number b)

pub rule_keeps : (layers : ℕ) (blocks : List Block) (number : ℕ) (b : Block) → 1 ≤ layers → IsSound b → All (λ (p : PieceValue). p.layer < layers) b.pieces → ends_of Keep layers blocks number b ≡ layer_ends b.pieces
rule_keeps layers blocks number b some sound all =
    keeps_ends layers blocks number b (ends_of Keep layers blocks number b) sound all (rule_ends Keep layers blocks number b some) (rule_divides Keep layers blocks number b)
