-- What was looked at grows within a segment, pass by pass.
use Rattle.std.proofs.Common.{◌≡◌, ℕ, zero, suc, ◌+◌, ◌-◌, ◌<◌, ◌≤◌, ◌==◌, ◌||◌, Bool, false, List, [], ◌∷◌, ◌++◌, inl, inr, ◌∙◌, ap, sym, subst, refl, add-one, arith, length, get_or}
use Rattle.std.proofs.lemmas.Bool.{cases_eq, cases_Bool, ne_eqb}
use Rattle.std.proofs.lemmas.List.{get_or_append_left, get_or-append_right}
use Rattle.jx_base.specs.Passes.{end_pass, raw_pass, is_causal}
use Rattle.jx_mq.proofs.Looking.{IsSeen}
use Rattle.jx_tier1_specs.specs.Pass.{pass_of}
use Rattle.jx_tier1_specs.specs.Segments.{begins}
use Rattle.jx_tier1_specs.specs.Reading.{Reading, Coding, Decoding, looked_of, first_segment, opened, renewed, read_bits, read_symbol, read_within, read_pass, read_from, at_start, decoded}
use Rattle.jx_codeblock.proofs.LookedLemmas.{length_more, opened_looked}
use Rattle.jx_codeblock.proofs.SeenLemmas.{Grows, fresh_seen, told_grows, renewed_grows, symbol_grows, sum_grows}

-- ---- after some passes
pub record Runs (style pass : ℕ) (d : Decoding) : Type 0 where
  pub seen : IsSeen d.reading.mq
  pub last : (m : ℕ) → pass ≡ m + 1 → get_or d.looked m 0 ≡ looked_of d.reading
  pub long : length d.looked ≡ pass
  pub grows : (i : ℕ) → i + 1 < pass → end_pass style i ≡ false → get_or d.looked i 0 ≤ get_or d.looked (i + 1) 0

at_last : (xs : List ℕ) (n k : ℕ) → length xs ≡ k → get_or (xs ++ n ∷ []) k 0 ≡ n
at_last xs n k e =
    let z : k - k ≡ 0 = omega arith in
    get_or-append_right xs (n ∷ []) k k 0 e (omega arith) ∙ ap (λ (i : ℕ). get_or (n ∷ []) i 0) z

-- a pass within its segment
within_runs : (c : Coding) (pass : ℕ) (d : Decoding) → IsSeen d.reading.mq → length d.looked ≡ pass
    → ((i : ℕ) → i + 1 < pass → end_pass c.style i ≡ false → get_or d.looked i 0 ≤ get_or d.looked (i + 1) 0)
    → ((m : ℕ) → pass ≡ m + 1 → end_pass c.style m ≡ false → get_or d.looked m 0 ≡ looked_of d.reading)
    → Runs c.style (suc pass) (read_within c pass d)
within_runs c pass d seen long grows last =
    let first : Reading = renewed c.style d.reading in
    let bits : Reading = (read_bits c pass d).1 in
    let r : Reading = (read_symbol c.style pass bits).1 in
    let a : Grows d.reading first = renewed_grows c.style d.reading seen in
    let b : Grows first bits = told_grows (pass_of c.band (is_causal c.style) c.planes pass d.cells) first a.seen in
    let e : Grows bits r = symbol_grows c.style pass bits b.seen in
    let all : Grows d.reading r = sum_grows d.reading first bits r a b e in
    record {
      seen = all.seen;
      last = λ (m : ℕ) (same : suc pass ≡ m + 1). let k : length d.looked ≡ m = omega arith in at_last d.looked (looked_of r) m k;
      long = length_more d.looked (looked_of r) ∙ ap suc long;
      grows = λ (i : ℕ) (lt : i + 1 < suc pass) (flat : end_pass c.style i ≡ false). elim (cases_eq (i + 1) pass) [
        | inl here ↦
            let back : get_or (d.looked ++ looked_of r ∷ []) i 0 ≡ get_or d.looked i 0 = get_or_append_left d.looked ((looked_of r) ∷ []) 0 i (omega arith) in
            let new : get_or (d.looked ++ looked_of r ∷ []) (i + 1) 0 ≡ looked_of r = at_last d.looked (looked_of r) (i + 1) (omega arith) in
            let own : get_or d.looked i 0 ≡ looked_of d.reading = last i (sym here) flat in
            let more : looked_of d.reading ≤ looked_of r = all.more in
            omega arith
        | inr other ↦
            let back : get_or (d.looked ++ looked_of r ∷ []) i 0 ≡ get_or d.looked i 0 = get_or_append_left d.looked ((looked_of r) ∷ []) 0 i (omega arith) in
            let next : get_or (d.looked ++ looked_of r ∷ []) (i + 1) 0 ≡ get_or d.looked (i + 1) 0 = get_or_append_left d.looked ((looked_of r) ∷ []) 0 (i + 1) (omega arith) in
            let old : get_or d.looked i 0 ≤ get_or d.looked (i + 1) 0 = grows i (omega arith) flat in
            omega arith
      ];
    }

opened_seen : (style pass : ℕ) (d : Decoding) → IsSeen d.reading.mq → IsSeen (opened style pass d).reading.mq
opened_seen style pass d h = elim (cases_Bool (begins style pass)) [
  | inl t ↦ rw t (fresh_seen (raw_pass style pass) (first_segment d.rest) d.reading)
  | inr f ↦ rw f h
]

opened_still : (style m : ℕ) (d : Decoding) → end_pass style m ≡ false → (opened style (m + 1) d).reading ≡ d.reading
opened_still style m d flat =
    let back : m + 1 - 1 ≡ m = omega arith in
    let later : (m + 1 == 0) ≡ false = ne_eqb (m + 1) 0 (λ (e : m + 1 ≡ 0). omega arith) in
    let still : begins style (m + 1) ≡ false = ap (λ (b : Bool). b || end_pass style (m + 1 - 1)) later ∙ ap (λ (k : ℕ). end_pass style k) back ∙ flat in
    rw still refl

pass_runs : (c : Coding) (pass : ℕ) (d : Decoding) → Runs c.style pass d → Runs c.style (suc pass) (read_pass c pass d)
pass_runs c pass d h =
    let o : Decoding = opened c.style pass d in
    let same : o.looked ≡ d.looked = opened_looked c.style pass d in
    within_runs c pass o (opened_seen c.style pass d h.seen) (ap (λ (l : List ℕ). length l) same ∙ h.long)
    (λ (i : ℕ) lt flat. subst (λ (l : List ℕ). get_or l i 0 ≤ get_or l (i + 1) 0) (sym same) (h.grows i lt flat))
    (λ (m : ℕ) (e : pass ≡ m + 1) flat.
    let still : o.reading ≡ d.reading = ap (λ (k : ℕ). (opened c.style k d).reading) e ∙ opened_still c.style m d flat in
    ap (λ (l : List ℕ). get_or l m 0) same ∙ h.last m e ∙ ap (λ (r : Reading). looked_of r) (sym still))

all_run : (c : Coding) (count pass : ℕ) (d : Decoding) → Runs c.style pass d → Runs c.style (pass + count) (read_from c count pass d)
unfolding read_from
all_run c zero pass d h = let e : pass + 0 ≡ pass = omega arith in rw e h
all_run c (suc count) pass d h =
    let e : pass + suc count ≡ pass + 1 + count = omega arith in
    let next : Runs c.style (pass + 1) (read_pass c pass d) = rw add-one (pass_runs c pass d h) in
    rw e (all_run c count (pass + 1) (read_pass c pass d) next)

abbrev pub AreGrowing : ℕ → ℕ → List ℕ → Type 0
AreGrowing style passes looked = (i : ℕ) → i + 1 < passes → end_pass style i ≡ false → get_or looked i 0 ≤ get_or looked (i + 1) 0

pub looked_grows : (width height : ℕ) (c : Coding) (ss : List (List ℕ)) (passes : ℕ) → AreGrowing c.style passes (decoded width height c ss passes).looked
unfolding decoded
looked_grows width height c ss passes =
    let start : Runs c.style 0 (at_start width height ss) = record {
      seen = fresh_seen false [] (at_start width height ss).reading;
      last = λ (m : ℕ) (e : 0 ≡ m + 1). absurd (omega arith);
      long = refl;
      grows = λ (i : ℕ) (lt : i + 1 < 0) flat. absurd (omega arith);
    } in
    λ (i : ℕ) (lt : i + 1 < passes) flat. (all_run c passes 0 (at_start width height ss) start).grows i (omega arith) flat
