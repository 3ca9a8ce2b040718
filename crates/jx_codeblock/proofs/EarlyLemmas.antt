-- What a block's first passes decode to, from segments that agree as far as was looked at.
use Rattle.std.proofs.Common.{◌≡◌, ℕ, zero, suc, ◌+◌, ◌-◌, ◌<◌, ◌≤◌, ◌==◌, ◌||◌, Bool, true, false, List, [], ◌∷◌, ◌++◌, inl, inr, ◌∙◌, ap, sym, subst, refl, arith, length, get_or, take}
use Rattle.std.proofs.lemmas.Bool.{cases_lt, cases_Bool, ne_eqb}
use Rattle.std.proofs.lemmas.List.{get_or_append_left, get_or-append_right}
use Rattle.std.proofs.Math.Seq.{get_or-append_seam}
use Rattle.jx_base.specs.Passes.{end_pass, is_causal, raw_pass}
use Rattle.jx_mq.proofs.Looking.{IsSeen}
use Rattle.jx_tier1_specs.specs.Cells.{Cells}
use Rattle.jx_tier1_specs.specs.Asking.{told}
use Rattle.jx_tier1_specs.specs.Pass.{pass_of}
use Rattle.jx_tier1_specs.specs.Segments.{begins}
use Rattle.jx_tier1_specs.specs.Reading.{Reading, Coding, Decoding, fresh_reading, read_answer, looked_of, first_segment, opened, renewed, read_bits, read_symbol, read_within, read_pass, read_from, at_start, decoded}
use Rattle.jx_codeblock.specs.Segments.{ends_below, segment_count, less_last_ff}
use Rattle.jx_codeblock.proofs.AgreeLemmas.{Agrees, agrees_same, agrees_fewer, agrees_cut}
use Rattle.jx_codeblock.proofs.EndLemmas.{below_ended, below_grows, below_more, below_still}
use Rattle.jx_codeblock.proofs.GrowLemmas.{looked_grows}
use Rattle.jx_codeblock.proofs.LookedLemmas.{Before, Decodes, opened_within, all_next, opened_looked}
use Rattle.jx_codeblock.proofs.SeenLemmas.{Grows, fresh_seen, told_grows, renewed_grows, symbol_grows, sum_grows}
use Rattle.jx_codeblock.proofs.WithinLemmas.{looked_on}
use Rattle.jx_codeblock.proofs.TwinLemmas.{Twins, Ends, told_twins, renewed_twins, symbol_twins, fresh_twins}

-- ---- one pass more
pass_last : (c : Coding) (count pass : ℕ) (d : Decoding) → read_from c (suc count) pass d ≡ read_pass c (pass + count) (read_from c count pass d)
unfolding read_from
pass_last c zero pass d = let e : pass + 0 ≡ pass = omega arith in rw e refl
pass_last c (suc count) pass d =
    let e : pass + 1 + count ≡ pass + suc count = omega arith in
    pass_last c count (pass + 1) (read_pass c pass d) ∙ ap (λ (k : ℕ). read_pass c k (read_from c count (pass + 1) (read_pass c pass d))) e

pub decoded_more : (w h : ℕ) (c : Coding) (ss : List (List ℕ)) (n : ℕ) → decoded w h c ss (suc n) ≡ read_pass c n (decoded w h c ss n)
unfolding decoded
decoded_more w h c ss n = let e : 0 + n ≡ n = omega arith in pass_last c n 0 (at_start w h ss) ∙ ap (λ (k : ℕ). read_pass c k (read_from c n 0 (at_start w h ss))) e

-- ---- the numbers of the first passes stay
pub decodes : (w h : ℕ) (c : Coding) (ss : List (List ℕ)) (n : ℕ) → Decodes c.style n ss (decoded w h c ss n)
unfolding decoded
decodes w h c ss n =
    let e : 0 + n ≡ n = omega arith in
    subst (λ (k : ℕ). Decodes c.style k ss (read_from c n 0 (at_start w h ss))) e (all_next c n 0 ss (at_start w h ss) (record {
      before = record { rest = refl; here = λ (m : ℕ) (e : 0 ≡ m + 1). absurd (omega arith) };
      long = refl;
      few = λ (i : ℕ). omega arith;
    }))

-- what was looked at by the end of a pass
last_looked : (c : Coding) (pass : ℕ) (d : Decoding) → length d.looked ≡ pass → get_or (read_pass c pass d).looked pass 0 ≡ looked_of (read_pass c pass d).reading
last_looked c pass d long =
    let same : (opened c.style pass d).looked ≡ d.looked = opened_looked c.style pass d in
    let z : pass - pass ≡ 0 = omega arith in
    let k : length (opened c.style pass d).looked ≡ pass = ap (λ (l : List ℕ). length l) same ∙ long in
    get_or-append_right (opened c.style pass d).looked (looked_of (read_pass c pass d).reading ∷ []) pass pass 0 k (omega arith)
    ∙ ap (λ (i : ℕ). get_or (looked_of (read_pass c pass d).reading ∷ []) i 0) z

earlier_looked : (c : Coding) (pass : ℕ) (d : Decoding) (i : ℕ) → i < length d.looked → get_or (read_pass c pass d).looked i 0 ≡ get_or d.looked i 0
earlier_looked c pass d i lt =
    let same : (opened c.style pass d).looked ≡ d.looked = opened_looked c.style pass d in
    let inside : i < length (opened c.style pass d).looked = rw same lt in
    get_or_append_left (opened c.style pass d).looked (looked_of (read_pass c pass d).reading ∷ []) 0 i inside ∙ ap (λ (l : List ℕ). get_or l i 0) same

looked_later : (w h : ℕ) (c : Coding) (ss : List (List ℕ)) (m i : ℕ)
    → get_or (decoded w h c ss (i + 1 + m)).looked i 0 ≡ get_or (decoded w h c ss (i + 1)).looked i 0
looked_later w h c ss zero i = let e : i + 1 + 0 ≡ i + 1 = omega arith in rw e refl
looked_later w h c ss (suc m) i =
    let e : i + 1 + suc m ≡ suc (i + 1 + m) = omega arith in
    let long : length (decoded w h c ss (i + 1 + m)).looked ≡ i + 1 + m = (decodes w h c ss (i + 1 + m)).long in
    ap (λ (k : ℕ). get_or (decoded w h c ss k).looked i 0) e
    ∙ ap (λ (x : Decoding). get_or x.looked i 0) (decoded_more w h c ss (i + 1 + m))
    ∙ earlier_looked c (i + 1 + m) (decoded w h c ss (i + 1 + m)) i (omega arith)
    ∙ looked_later w h c ss m i

pub looked_front : (w h : ℕ) (c : Coding) (segments : List (List ℕ)) (all i : ℕ) → i < all
    → get_or (decoded w h c segments all).looked i 0 ≡ get_or (decoded w h c segments (i + 1)).looked i 0
looked_front w h c segments all i lt =
    let e : all ≡ i + 1 + (all - (i + 1)) = omega arith in
    ap (λ (k : ℕ). get_or (decoded w h c segments k).looked i 0) e ∙ looked_later w h c segments (all - (i + 1)) i

-- ---- a pass over segments that agree
record Both (s t : List ℕ) (d e : Decoding) : Type 0 where
  cells : e.cells ≡ d.cells
  twins : Twins s t d.reading e.reading

within_same : (c : Coding) (pass : ℕ) (s t : List ℕ) (d e : Decoding) (n : ℕ) → Agrees s t n → Both s t d e → looked_of (read_within c pass d).reading ≤ n
    → Both s t (read_within c pass d) (read_within c pass e)
within_same c pass s t d e n agrees h le =
    let first : Twins s t (renewed c.style d.reading) (renewed c.style e.reading) = renewed_twins c.style s t d.reading e.reading h.twins in
    let bits : Grows (renewed c.style d.reading) (read_bits c pass d).1 = told_grows (pass_of c.band (is_causal c.style) c.planes pass d.cells) (renewed c.style d.reading) first.seen in
    let symbol : Grows (read_bits c pass d).1 (read_symbol c.style pass (read_bits c pass d).1).1 = symbol_grows c.style pass (read_bits c pass d).1 bits.seen in
    let grown = symbol.more in
    let pass_ends = told_twins (pass_of c.band (is_causal c.style) c.planes pass d.cells) s t (renewed c.style d.reading) (renewed c.style e.reading) n agrees first (omega arith) in
    let ends : Ends s t (read_bits c pass d) (read_bits c pass e) =
    subst (λ (g : Cells). Ends s t (read_bits c pass d) (told read_answer (pass_of c.band (is_causal c.style) c.planes pass g) (renewed c.style e.reading))) (sym h.cells) pass_ends in
    let last = symbol_twins c.style pass s t (read_bits c pass d).1 (read_bits c pass e).1 n agrees ends.twins le in
    record { cells = ends.same; twins = last.twins }

opened_cells : (style pass : ℕ) (d : Decoding) → (opened style pass d).cells ≡ d.cells
opened_cells style pass d = elim (cases_Bool (begins style pass)) [
  | inl t ↦ rw t refl
  | inr f ↦ rw f refl
]

-- how far the decoder looks in a pass's segment, from its beginning on
grows_within : (c : Coding) (pass : ℕ) (d : Decoding) → IsSeen d.reading.mq → looked_of d.reading ≤ looked_of (read_within c pass d).reading
grows_within c pass d seen =
    let first = renewed_grows c.style d.reading seen in
    let bits = told_grows (pass_of c.band (is_causal c.style) c.planes pass d.cells) (renewed c.style d.reading) first.seen in
    let symbol = symbol_grows c.style pass (read_bits c pass d).1 bits.seen in
    let all = sum_grows d.reading (renewed c.style d.reading) (read_bits c pass d).1 (read_symbol c.style pass (read_bits c pass d).1).1 first bits symbol in
    all.more

abbrev segment_of_pass : ℕ → List (List ℕ) → ℕ → List ℕ
segment_of_pass style ss pass = get_or ss (ends_below style pass) []

-- after some passes
record Same (style pass : ℕ) (ss tt : List (List ℕ)) (d e : Decoding) : Type 0 where
  cells : e.cells ≡ d.cells
  contexts : e.reading.contexts ≡ d.reading.contexts
  twins : (m : ℕ) → pass ≡ m + 1 → Twins (segment_of_pass style ss m) (segment_of_pass style tt m) d.reading e.reading

begun_same : (style pass : ℕ) (s t : List ℕ) (d e : Decoding) (n : ℕ) → Agrees s t n → begins style pass ≡ true
    → (opened style pass d).reading.segment ≡ s → (opened style pass e).reading.segment ≡ t → e.reading.contexts ≡ d.reading.contexts
    → looked_of (opened style pass d).reading ≤ n → Twins s t (opened style pass d).reading (opened style pass e).reading
begun_same style pass s t d e n agrees new here there contexts le =
    let here' : first_segment d.rest ≡ s = rw new at here in
    let there' : first_segment e.rest ≡ t = rw new at there in
    let mine : (opened style pass d).reading ≡ fresh_reading (raw_pass style pass) s d.reading.contexts = rw (new, here') refl in
    let other : (opened style pass e).reading ≡ fresh_reading (raw_pass style pass) t d.reading.contexts = rw (new, there', contexts) refl in
    let few : looked_of (fresh_reading (raw_pass style pass) s d.reading.contexts) ≤ n = subst (λ (r : Reading). looked_of r ≤ n) mine le in
    rw (mine, other) (fresh_twins (raw_pass style pass) s t d.reading.contexts n agrees few)

opened_new : (c : Coding) (pass : ℕ) (ss tt : List (List ℕ)) (d e : Decoding) (n : ℕ) → Before c.style pass ss d → Before c.style pass tt e → Same c.style pass ss tt d e
    → Agrees (segment_of_pass c.style ss pass) (segment_of_pass c.style tt pass) n → begins c.style pass ≡ true → looked_of (read_pass c pass d).reading ≤ n
    → Twins (segment_of_pass c.style ss pass) (segment_of_pass c.style tt pass) (opened c.style pass d).reading (opened c.style pass e).reading
opened_new c pass ss tt d e n mine other h agrees new le =
    let seen : IsSeen (opened c.style pass d).reading.mq = rw new (fresh_seen (raw_pass c.style pass) (first_segment d.rest) d.reading) in
    let grown : looked_of (opened c.style pass d).reading ≤ looked_of (read_pass c pass d).reading = grows_within c pass (opened c.style pass d) seen in
    begun_same c.style pass (segment_of_pass c.style ss pass) (segment_of_pass c.style tt pass) d e n agrees new
    (opened_within c.style pass ss d mine).here (opened_within c.style pass tt e other).here h.contexts (omega arith)

opened_same : (c : Coding) (pass : ℕ) (ss tt : List (List ℕ)) (d e : Decoding) (n : ℕ) → Before c.style pass ss d → Before c.style pass tt e → Same c.style pass ss tt d e
    → Agrees (segment_of_pass c.style ss pass) (segment_of_pass c.style tt pass) n → looked_of (read_pass c pass d).reading ≤ n
    → Twins (segment_of_pass c.style ss pass) (segment_of_pass c.style tt pass) (opened c.style pass d).reading (opened c.style pass e).reading
opened_same c zero ss tt d e n mine other h agrees le = opened_new c 0 ss tt d e n mine other h agrees refl le
opened_same c (suc m) ss tt d e n mine other h agrees le =
    let back : suc m - 1 ≡ m = omega arith in
    let later : (suc m == 0) ≡ false = ne_eqb (suc m) 0 (λ (z : suc m ≡ 0). omega arith) in
    let start : begins c.style (suc m) ≡ end_pass c.style m = ap (λ (b : Bool). b || end_pass c.style (suc m - 1)) later ∙ ap (λ (k : ℕ). end_pass c.style k) back in
    let next : suc m ≡ m + 1 = omega arith in
    elim (cases_Bool (end_pass c.style m)) [
      | inl t ↦ opened_new c (suc m) ss tt d e n mine other h agrees (start ∙ t) le
      | inr f ↦
          let old : begins c.style (suc m) ≡ false = start ∙ f in
          let same : ends_below c.style m ≡ ends_below c.style (suc m) = sym (ap (ends_below c.style) next ∙ below_still c.style m f) in
          let there : Twins (segment_of_pass c.style ss (suc m)) (segment_of_pass c.style tt (suc m)) d.reading e.reading =
          subst (λ (i : ℕ). Twins (get_or ss i []) (get_or tt i []) d.reading e.reading) same (h.twins m next) in
          rw old there
    ]

pass_same : (c : Coding) (pass : ℕ) (ss tt : List (List ℕ)) (d e : Decoding) → Before c.style pass ss d → Before c.style pass tt e → Same c.style pass ss tt d e
    → Agrees (segment_of_pass c.style ss pass) (segment_of_pass c.style tt pass) (looked_of (read_pass c pass d).reading)
    → Same c.style (suc pass) ss tt (read_pass c pass d) (read_pass c pass e)
pass_same c pass ss tt d e mine other h agrees =
    let begun : Both (segment_of_pass c.style ss pass) (segment_of_pass c.style tt pass) (opened c.style pass d) (opened c.style pass e) = record {
      cells = opened_cells c.style pass e ∙ h.cells ∙ sym (opened_cells c.style pass d);
      twins = opened_same c pass ss tt d e (looked_of (read_pass c pass d).reading) mine other h agrees (omega arith);
    } in
    let done : Both (segment_of_pass c.style ss pass) (segment_of_pass c.style tt pass) (read_pass c pass d) (read_pass c pass e) =
    within_same c pass (segment_of_pass c.style ss pass) (segment_of_pass c.style tt pass) (opened c.style pass d) (opened c.style pass e) (looked_of (read_pass c pass d).reading) agrees begun (omega arith) in
    let ends : Twins (segment_of_pass c.style ss pass) (segment_of_pass c.style tt pass) (read_pass c pass d).reading (read_pass c pass e).reading = done.twins in
    record {
      cells = done.cells;
      contexts = ends.contexts;
      twins = λ (m : ℕ) (e' : suc pass ≡ m + 1).
          let same : pass ≡ m = omega arith in
          subst (λ (k : ℕ). Twins (segment_of_pass c.style ss k) (segment_of_pass c.style tt k) (read_pass c pass d).reading (read_pass c pass e).reading) same ends;
    }

-- ---- all passes
abbrev pub AgreeAll : ℕ → ℕ → Coding → List (List ℕ) → List (List ℕ) → ℕ → Type 0
AgreeAll w h c ss tt passes = (m : ℕ) → m < passes → Agrees (get_or ss (ends_below c.style m) []) (get_or tt (ends_below c.style m) []) (get_or (decoded w h c ss (m + 1)).looked m 0)

same_after : (w h : ℕ) (c : Coding) (ss tt : List (List ℕ)) (passes : ℕ) → AgreeAll w h c ss tt passes → Same c.style passes ss tt (decoded w h c ss passes) (decoded w h c tt passes)
unfolding decoded read_from
same_after w h c ss tt zero agree = record { cells = refl; contexts = refl; twins = λ (m : ℕ) (e : 0 ≡ m + 1). absurd (omega arith) }
same_after w h c ss tt (suc n) agree =
    let next : n + 1 ≡ suc n = omega arith in
    let before : Same c.style n ss tt (decoded w h c ss n) (decoded w h c tt n) = same_after w h c ss tt n (λ (m : ℕ) (lt : m < n). agree m (omega arith)) in
    let mine = decodes w h c ss n in
    let looked : get_or (decoded w h c ss (n + 1)).looked n 0 ≡ looked_of (read_pass c n (decoded w h c ss n)).reading =
    ap (λ (k : ℕ). get_or (decoded w h c ss k).looked n 0) next ∙ ap (λ (x : Decoding). get_or x.looked n 0) (decoded_more w h c ss n) ∙ last_looked c n (decoded w h c ss n) mine.long in
    let here : Agrees (segment_of_pass c.style ss n) (segment_of_pass c.style tt n) (looked_of (read_pass c n (decoded w h c ss n)).reading) =
    subst (λ (k : ℕ). Agrees (segment_of_pass c.style ss n) (segment_of_pass c.style tt n) k) looked (agree n (omega arith)) in
    let after : Same c.style (suc n) ss tt (read_pass c n (decoded w h c ss n)) (read_pass c n (decoded w h c tt n)) =
    pass_same c n ss tt (decoded w h c ss n) (decoded w h c tt n) mine.before (decodes w h c tt n).before before here in
    subst (λ (x : Decoding). Same c.style (suc n) ss tt x (decoded w h c tt (suc n))) (sym (decoded_more w h c ss n))
    (subst (λ (x : Decoding). Same c.style (suc n) ss tt (read_pass c n (decoded w h c ss n)) x) (sym (decoded_more w h c tt n)) after)

pub same_cells : (w h : ℕ) (c : Coding) (ss tt : List (List ℕ)) (passes : ℕ) → AgreeAll w h c ss tt passes
    → (decoded w h c tt passes).cells ≡ (decoded w h c ss passes).cells
same_cells w h c ss tt passes agree = (same_after w h c ss tt passes agree).cells

-- ---- the segments that are begun
at_front : (before after : List (List ℕ)) (i : ℕ) → i < length before → get_or (before ++ after) i [] ≡ get_or before i []
at_front before after i lt = get_or_append_left before after [] i lt

at_seam : (before after : List (List ℕ)) (s : List ℕ) (i : ℕ) → i ≡ length before → get_or (before ++ s ∷ after) i [] ≡ s
at_seam before after s i e = ap (λ (k : ℕ). get_or (before ++ s ∷ after) k []) e ∙ get_or-append_seam before s after []

-- the first passes don't depend on segments that they don't begin
pub cells_begun : (w h : ℕ) (c : Coding) (before after : List (List ℕ)) (passes : ℕ) → segment_count c.style passes ≤ length before
    → (decoded w h c (before ++ after) passes).cells ≡ (decoded w h c before passes).cells
cells_begun w h c before after zero le = sym (same_cells w h c (before ++ after) before 0 (λ (m : ℕ) (lt : m < 0). absurd (omega arith)))
cells_begun w h c before after (suc last) le =
    sym (same_cells w h c (before ++ after) before (suc last) (λ (m : ℕ) (lt : m < suc last).
    let grown = below_grows c.style m last (omega arith) in
    rw (at_front before after (ends_below c.style m) (omega arith))
    (agrees_same (get_or before (ends_below c.style m) []) (get_or (decoded w h c (before ++ after) (m + 1)).looked m 0))))

-- nor, where the last of them ends a segment, on later ones
pub cells_front : (w h : ℕ) (c : Coding) (before after : List (List ℕ)) (passes : ℕ) → 0 < passes → end_pass c.style (passes - 1) ≡ true
    → ends_below c.style passes ≤ length before → (decoded w h c (before ++ after) passes).cells ≡ (decoded w h c before passes).cells
cells_front w h c before after zero some e le = absurd (omega arith)
cells_front w h c before after (suc last) some e le =
    let back : suc last - 1 ≡ last = omega arith in
    let next : last + 1 ≡ suc last = omega arith in
    let ended : end_pass c.style last ≡ true = ap (λ (k : ℕ). end_pass c.style k) (sym back) ∙ e in
    let count : ends_below c.style (suc last) ≡ ends_below c.style last + 1 = ap (ends_below c.style) (sym next) ∙ below_ended c.style last ended in
    cells_begun w h c before after (suc last) (omega arith)

-- ---- a segment that is cut
-- passes of one segment
one_segment : (style m last k : ℕ) → ends_below style m ≡ ends_below style last → m ≤ k → k < last → end_pass style k ≡ false
one_segment style m last k e le lt = elim (cases_Bool (end_pass style k)) [
  | inl t ↦ let more = below_more style m k last le lt t in absurd (omega arith)
  | inr f ↦ f
]

looked_within : (w h : ℕ) (c : Coding) (ss : List (List ℕ)) (passes m : ℕ) → m < passes → ends_below c.style m ≡ ends_below c.style (passes - 1)
    → get_or (decoded w h c ss (m + 1)).looked m 0 ≤ get_or (decoded w h c ss passes).looked (passes - 1) 0
looked_within w h c ss passes m lt e =
    let far : m + (passes - 1 - m) ≡ passes - 1 = omega arith in
    let front : get_or (decoded w h c ss passes).looked m 0 ≡ get_or (decoded w h c ss (m + 1)).looked m 0 = looked_front w h c ss passes m lt in
    let on : get_or (decoded w h c ss passes).looked m 0 ≤ get_or (decoded w h c ss passes).looked (m + (passes - 1 - m)) 0 =
    looked_on c.style passes (decoded w h c ss passes).looked m (passes - 1 - m) (looked_grows w h c ss passes) (omega arith)
    (λ (k : ℕ) (le : m ≤ k) (below : k < m + (passes - 1 - m)). one_segment c.style m (passes - 1) k e le (omega arith)) in
    let end : get_or (decoded w h c ss passes).looked m 0 ≤ get_or (decoded w h c ss passes).looked (passes - 1) 0 =
    subst (λ (k : ℕ). get_or (decoded w h c ss passes).looked m 0 ≤ get_or (decoded w h c ss passes).looked k 0) far on in
    rw (← front) end

-- the first passes don't depend on bytes of their last segment that weren't looked at, nor on later segments
pub cut_short : (w h : ℕ) (c : Coding) (before after : List (List ℕ)) (s : List ℕ) (passes n : ℕ) → 0 < passes → ends_below c.style (passes - 1) ≡ length before
    → less_last_ff s (get_or (decoded w h c (before ++ s ∷ after) passes).looked (passes - 1) 0) ≡ n
    → (decoded w h c (before ++ take n s ∷ []) passes).cells ≡ (decoded w h c (before ++ s ∷ after) passes).cells
cut_short w h c before after s passes n some last e =
    same_cells w h c (before ++ s ∷ after) (before ++ take n s ∷ []) passes (λ (m : ℕ) (lt : m < passes).
    let grown = below_grows c.style m (passes - 1) (omega arith) in
    elim (cases_lt (ends_below c.style m) (length before)) [
      | inl earlier ↦
          rw (at_front before (s ∷ after) (ends_below c.style m) earlier, at_front before (take n s ∷ []) (ends_below c.style m) earlier)
          (agrees_same (get_or before (ends_below c.style m) []) (get_or (decoded w h c (before ++ s ∷ after) (m + 1)).looked m 0))
      | inr there ↦
          let here : ends_below c.style m ≡ length before = omega arith in
          let most = looked_within w h c (before ++ s ∷ after) passes m lt (here ∙ sym last) in
          rw (at_seam before after s (ends_below c.style m) here, at_seam before [] (take n s) (ends_below c.style m) here)
          (agrees_fewer s (take n s) (get_or (decoded w h c (before ++ s ∷ after) (m + 1)).looked m 0) (get_or (decoded w h c (before ++ s ∷ after) passes).looked (passes - 1) 0) most
          (agrees_cut s (get_or (decoded w h c (before ++ s ∷ after) passes).looked (passes - 1) 0) n e))
    ])
