-- The decoder has looked at no more bytes of a pass's segment than it has.
use Rattle.std.proofs.Common.{◌≡◌, ℕ, zero, suc, ◌+◌, ◌-◌, ◌≤◌, ◌==◌, min, Bool, true, false, ◌||◌, List, [], ◌∷◌, ◌++◌, inl, inr, ◌∙◌, ap, sym, subst, refl, add-one, arith, length, drop, get_or}
use Rattle.std.proofs.lemmas.Bool.{cases_lt, cases_eq, cases_Bool, ne_eqb}
use Rattle.std.proofs.lemmas.List.{get_or_append_left, get_or-append_right}
use Rattle.jx_base.specs.Passes.{end_pass, resets, is_causal}
use Rattle.jx_coder_specs.specs.RawBits.{raw_bits}
use Rattle.jx_tier1_specs.specs.Asking.{Asking, Told, Ask, told}
use Rattle.jx_tier1_specs.specs.Pass.{pass_of}
use Rattle.jx_tier1_specs.specs.Symbol.{symbol_asked}
use Rattle.jx_tier1_specs.specs.Segments.{begins}
use Rattle.jx_tier1_specs.specs.Reading.{Reading, Coding, Decoding, after_bit, read_answer, looked_of, first_segment, opened, renewed, read_bits, read_symbol, ends_by_symbol, read_within, read_pass, read_from, at_start, decoded}
use Rattle.jx_codeblock.specs.Segments.{ends_below, segment_count}
use Rattle.jx_codeblock.specs.Tables.{AreFew}
use Rattle.jx_codeblock.proofs.EndLemmas.{below_ended, below_still}
use Rattle.jx_tier1_specs.proofs.Firsts.{looked_most as raw_most}

-- ---- a coder stays in its segment
after_segment : (r : Reading) (label : ℕ) → (after_bit r label).segment ≡ r.segment
after_segment r label = elim (cases_Bool r.raw) [
  | inl t ↦ rw t refl
  | inr f ↦ rw f refl
]

told_segment : {A : Type 0} (t : Asking A) (r : Reading) → (told read_answer t r).1.segment ≡ r.segment
told_segment (Told a) r = refl
told_segment (Ask q more) r = told_segment (more (read_answer r q).0) (after_bit r q.label) ∙ after_segment r q.label

renewed_segment : (style : ℕ) (r : Reading) → (renewed style r).segment ≡ r.segment
renewed_segment style r = elim (cases_Bool (resets style)) [
  | inl t ↦ rw t refl
  | inr f ↦ rw f refl
]

symbol_segment : (style pass : ℕ) (r : Reading) → (read_symbol style pass r).1.segment ≡ r.segment
symbol_segment style pass r = elim (cases_Bool (ends_by_symbol style pass)) [
  | inl t ↦ rw t (told_segment symbol_asked r)
  | inr f ↦ rw f refl
]

-- ---- and looks at what is there
min_most : (a b : ℕ) → min a b ≤ b
min_most a b = omega arith

looked_most : (r : Reading) → looked_of r ≤ length r.segment
looked_most r = elim (cases_Bool r.raw) [
  | inl t ↦ rw t (raw_most 0 r.segment (length (raw_bits r.segment) - length r.left))
  | inr f ↦ rw f (min_most r.mq.looked (length r.segment))
]

-- ---- which segment it is
-- before a pass: those that weren't begun, and that of the pass before
pub record Before (style pass : ℕ) (ss : List (List ℕ)) (d : Decoding) : Type 0 where
  pub rest : d.rest ≡ drop (segment_count style pass) ss
  pub here : (m : ℕ) → pass ≡ m + 1 → d.reading.segment ≡ get_or ss (ends_below style m) []

first_at : (ss : List (List ℕ)) (i : ℕ) → first_segment (drop i ss) ≡ get_or ss i []
first_at [] zero = refl
first_at [] (suc i) = refl
first_at (s ∷ ss) zero = refl
first_at (s ∷ ss) (suc i) = first_at ss i

drop_next : (ss : List (List ℕ)) (i : ℕ) → drop 1 (drop i ss) ≡ drop (suc i) ss
drop_next [] zero = refl
drop_next [] (suc i) = refl
drop_next (s ∷ ss) zero = refl
drop_next (s ∷ ss) (suc i) = drop_next ss i

-- in a pass: its segment is begun
pub record Within (style pass : ℕ) (ss : List (List ℕ)) (d : Decoding) : Type 0 where
  pub rest : d.rest ≡ drop (suc (ends_below style pass)) ss
  pub here : d.reading.segment ≡ get_or ss (ends_below style pass) []

opened_fresh : (style pass : ℕ) (ss : List (List ℕ)) (d : Decoding) → begins style pass ≡ true → d.rest ≡ drop (ends_below style pass) ss
    → Within style pass ss (opened style pass d)
opened_fresh style pass ss d fresh e = rw fresh (record {
  rest = ap (drop 1) e ∙ drop_next ss (ends_below style pass);
  here = ap first_segment e ∙ first_at ss (ends_below style pass);
})

opened_same : (style pass : ℕ) (ss : List (List ℕ)) (d : Decoding) → begins style pass ≡ false → d.rest ≡ drop (suc (ends_below style pass)) ss
    → d.reading.segment ≡ get_or ss (ends_below style pass) [] → Within style pass ss (opened style pass d)
opened_same style pass ss d old e f = rw old (record { rest = e; here = f })

pub opened_within : (style pass : ℕ) (ss : List (List ℕ)) (d : Decoding) → Before style pass ss d → Within style pass ss (opened style pass d)
opened_within style zero ss d h = opened_fresh style 0 ss d refl h.rest
opened_within style (suc m) ss d h =
    let back : suc m - 1 ≡ m = omega arith in
    let later : (suc m == 0) ≡ false = ne_eqb (suc m) 0 (λ (e : suc m ≡ 0). omega arith) in
    let start : begins style (suc m) ≡ end_pass style m = ap (λ (b : Bool). b || end_pass style (suc m - 1)) later ∙ ap (λ (k : ℕ). end_pass style k) back in
    let next : suc m ≡ m + 1 = omega arith in
    elim (cases_Bool (end_pass style m)) [
      | inl t ↦
          let e : ends_below style (suc m) ≡ suc (ends_below style m) = ap (ends_below style) next ∙ below_ended style m t ∙ omega arith in
          opened_fresh style (suc m) ss d (start ∙ t) (h.rest ∙ ap (λ (k : ℕ). drop k ss) (sym e))
      | inr f ↦
          let e : ends_below style (suc m) ≡ ends_below style m = ap (ends_below style) next ∙ below_still style m f in
          opened_same style (suc m) ss d (start ∙ f) (h.rest ∙ ap (λ (k : ℕ). drop (suc k) ss) (sym e))
          (h.here m next ∙ ap (λ (k : ℕ). get_or ss k []) (sym e))
    ]

-- ---- after each pass
few_more : (style : ℕ) (ss : List (List ℕ)) (looked : List ℕ) (n : ℕ) → AreFew style ss looked → n ≤ length (get_or ss (ends_below style (length looked)) [])
    → AreFew style ss (looked ++ n ∷ [])
few_more style ss looked n few le i = elim (cases_lt i (length looked)) [
  | inl less ↦ let e : get_or (looked ++ n ∷ []) i 0 ≡ get_or looked i 0 = get_or_append_left looked (n ∷ []) 0 i less in rw e (few i)
  | inr ge ↦
      let e : get_or (looked ++ n ∷ []) i 0 ≡ get_or (n ∷ []) (i - length looked) 0 = get_or-append_right looked (n ∷ []) (length looked) i 0 refl ge in
      elim (cases_eq i (length looked)) [
        | inl same ↦
            let z : i - length looked ≡ 0 = omega arith in
            let f : get_or (looked ++ n ∷ []) i 0 ≡ n = e ∙ ap (λ (k : ℕ). get_or (n ∷ []) k 0) z in
            rw f (rw same le)
        | inr more ↦
            let s : i - length looked ≡ suc (i - length looked - 1) = omega arith in
            let f : get_or (looked ++ n ∷ []) i 0 ≡ 0 = e ∙ ap (λ (k : ℕ). get_or (n ∷ []) k 0) s in
            rw f (omega arith)
      ]
]

pub length_more : (xs : List ℕ) (n : ℕ) → length (xs ++ n ∷ []) ≡ suc (length xs)
length_more [] n = refl
length_more (x ∷ xs) n = ap suc (length_more xs n)

pub record Decodes (style pass : ℕ) (ss : List (List ℕ)) (d : Decoding) : Type 0 where
  pub before : Before style pass ss d
  pub long : length d.looked ≡ pass
  pub few : AreFew style ss d.looked

within_next : (c : Coding) (pass : ℕ) (ss : List (List ℕ)) (d : Decoding) → Within c.style pass ss d → length d.looked ≡ pass → AreFew c.style ss d.looked
    → Decodes c.style (suc pass) ss (read_within c pass d)
within_next c pass ss d w long few =
    let r : Reading = (read_symbol c.style pass (read_bits c pass d).1).1 in
    let stays : r.segment ≡ d.reading.segment =
    symbol_segment c.style pass (read_bits c pass d).1
    ∙ told_segment (pass_of c.band (is_causal c.style) c.planes pass d.cells) (renewed c.style d.reading) ∙ renewed_segment c.style d.reading in
    let here : r.segment ≡ get_or ss (ends_below c.style pass) [] = stays ∙ w.here in
    let most : looked_of r ≤ length (get_or ss (ends_below c.style pass) []) = subst (λ (s : List ℕ). looked_of r ≤ length s) here (looked_most r) in
    let most' : looked_of r ≤ length (get_or ss (ends_below c.style (length d.looked)) []) = rw long most in
    record {
      before = record {
        rest = w.rest;
        here = λ (m : ℕ) (e : suc pass ≡ m + 1). let same : pass ≡ m = omega arith in here ∙ ap (λ (k : ℕ). get_or ss (ends_below c.style k) []) same;
      };
      long = length_more d.looked (looked_of r) ∙ ap suc long;
      few = few_more c.style ss d.looked (looked_of r) few most';
    }

pub opened_looked : (style pass : ℕ) (d : Decoding) → (opened style pass d).looked ≡ d.looked
opened_looked style pass d = elim (cases_Bool (begins style pass)) [
  | inl t ↦ rw t refl
  | inr f ↦ rw f refl
]

pass_next : (c : Coding) (pass : ℕ) (ss : List (List ℕ)) (d : Decoding) → Decodes c.style pass ss d → Decodes c.style (suc pass) ss (read_pass c pass d)
pass_next c pass ss d h =
    let same : (opened c.style pass d).looked ≡ d.looked = opened_looked c.style pass d in
    within_next c pass ss (opened c.style pass d) (opened_within c.style pass ss d h.before) (ap (λ (l : List ℕ). length l) same ∙ h.long)
    (subst (λ (l : List ℕ). AreFew c.style ss l) (sym same) h.few)

pub all_next : (c : Coding) (count pass : ℕ) (ss : List (List ℕ)) (d : Decoding) → Decodes c.style pass ss d → Decodes c.style (pass + count) ss (read_from c count pass d)
unfolding read_from
all_next c zero pass ss d h = let e : pass + 0 ≡ pass = omega arith in rw e h
all_next c (suc count) pass ss d h =
    let e : pass + suc count ≡ pass + 1 + count = omega arith in
    let next : Decodes c.style (pass + 1) ss (read_pass c pass d) = rw add-one (pass_next c pass ss d h) in
    rw e (all_next c count (pass + 1) ss (read_pass c pass d) next)

none_looked : (style : ℕ) (ss : List (List ℕ)) → AreFew style ss []
none_looked style ss i = omega arith

-- what a block's passes looked at
pub looked_few : (width height : ℕ) (c : Coding) (ss : List (List ℕ)) (passes : ℕ) → AreFew c.style ss (decoded width height c ss passes).looked
unfolding decoded
looked_few width height c ss passes =
    let start : Decodes c.style 0 ss (at_start width height ss) = record {
      before = record { rest = refl; here = λ (m : ℕ) (e : 0 ≡ m + 1). absurd (omega arith) };
      long = refl;
      few = none_looked c.style ss;
    } in
    (all_next c passes 0 ss (at_start width height ss) start).few
