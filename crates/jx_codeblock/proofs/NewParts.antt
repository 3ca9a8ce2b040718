-- Parts from the tables that are made of segments, and how far these are looked at for them.
use Rattle.std.proofs.Common.{◌≡◌, ℕ, zero, suc, ◌+◌, ◌-◌, ◌≤◌, ◌==◌, ◌||◌, true, List, [], ◌∷◌, inl, inr, ◌⊎◌, ◌∙◌, ap, sym, subst, refl, arith, map, get_or, Some}
use Rattle.std.specs.List.{range_with_len}
use Rattle.std.proofs.Math.Nat.{le-max_left, le-max_right, max-le}
use Rattle.std.proofs.lemmas.Bool.{cases_Bool, cases_eq, cond-true, cond-false, or_right}
use Rattle.jx_base.specs.declared.pieces.Block.{Block}
use Rattle.jx_base.specs.declared.style.Style.{Style}
use Rattle.jx_base.specs.Passes.{end_pass}
use Rattle.jx_base.specs.Places.{length_of}
use Rattle.jx_tier1_specs.specs.Reading.{Coding, decoded}
use Rattle.jx_codeblock.specs.declared.LayerEnd.{LayerEnd}
use Rattle.jx_codeblock.specs.Jobs.{AreEnds}
use Rattle.jx_codeblock.specs.Laws.{decoded_first}
use Rattle.jx_codeblock.specs.Recoding.{coding_in, decoded_in, layer_parts_after, sent_in}
use Rattle.jx_codeblock.specs.Segments.{sent_by_looks}
use Rattle.jx_codeblock.specs.Tables.{are_cut, at_place, end_within, is_cut, last_within}
use Rattle.jx_codeblock.proofs.DecideLemmas.{listed_table}
use Rattle.jx_codeblock.proofs.EarlyLemmas.{looked_front}
use Rattle.jx_codeblock.proofs.PartLemmas.{AtEnds, IsCut, cut_from, ends_within, parts_at_cuts, parts_same}
use Rattle.jx_codeblock.proofs.WithinLemmas.{looks_all, looks_cut}

-- where passes are cut, what was looked at doesn't count
same_looks : (style passes n : ℕ) (ss : List (List ℕ)) (a b : List ℕ) → IsCut style passes n → sent_by_looks style passes ss a n ≡ sent_by_looks style passes ss b n
same_looks style passes n ss a b cut = elim (cases_eq n passes) [
  | inl last ↦ looks_all style passes n ss a last ∙ sym (looks_all style passes n ss b last)
  | inr ne ↦
      let at : (n == 0 || end_pass style (n - 1)) ≡ true = elim cut [
        | inl none ↦ subst (λ (k : ℕ). (k == 0 || end_pass style (k - 1)) ≡ true) (sym none) refl
        | inr (inl last) ↦ absurd (ne last)
        | inr (inr ended) ↦ or_right (n == 0) (end_pass style (n - 1)) ended
      ] in
      looks_cut style passes n ss a ne at ∙ sym (looks_cut style passes n ss b ne at)
]

-- where no layer ends within a segment, from a table that is made without looking
pub ends_parts : (b : Block) (style : Style) (ends : List LayerEnd) (ss : List (List ℕ)) (table : List ℕ) (seen : List (List ℕ)) (looked : List ℕ) → AreEnds 0 0 b.passes ends
    → are_cut style.bits b.passes ends ≡ true → seen ≡ ss → table ≡ map (sent_by_looks style.bits b.passes seen looked) (range_with_len 0 (b.passes + 1))
    → layer_parts_after style.bits (at_place table) 0 ends ≡ layer_parts_after style.bits (sent_in b (Some style) ends ss) 0 ends
ends_parts b style ends ss table seen looked are cuts same e =
    let e' : table ≡ map (sent_by_looks style.bits b.passes ss looked) (range_with_len 0 (b.passes + 1)) =
    e ∙ ap (λ (s : List (List ℕ)). map (sent_by_looks style.bits b.passes s looked) (range_with_len 0 (b.passes + 1))) same in
    listed_table (sent_by_looks style.bits b.passes ss looked) style.bits b.passes ends table are e'
    ∙ parts_at_cuts (sent_by_looks style.bits b.passes ss looked) (sent_in b (Some style) ends ss) style.bits 0 b.passes ends are cuts
    (λ (n : ℕ) le cut. same_looks style.bits b.passes n ss looked (decoded_in b style.bits ss).looked cut)

-- from a table of what is known to be looked at
pub learnt_parts : (b : Block) (style : Style) (ends : List LayerEnd) (ss : List (List ℕ)) (table : List ℕ) (seen : List (List ℕ)) (looked : List ℕ) → AreEnds 0 0 b.passes ends
    → seen ≡ ss → looked ≡ (decoded_in b style.bits ss).looked → table ≡ map (sent_by_looks style.bits b.passes seen looked) (range_with_len 0 (b.passes + 1))
    → layer_parts_after style.bits (at_place table) 0 ends ≡ layer_parts_after style.bits (sent_in b (Some style) ends ss) 0 ends
learnt_parts b style ends ss table seen looked are same far e =
    let n : List ℕ = range_with_len 0 (b.passes + 1) in
    listed_table (sent_by_looks style.bits b.passes ss (decoded_in b style.bits ss).looked) style.bits b.passes ends table are
    (e
    ∙ ap (λ (s : List (List ℕ)). map (sent_by_looks style.bits b.passes s looked) n) same
    ∙ ap (λ (l : List ℕ). map (sent_by_looks style.bits b.passes ss l) n) far)

-- ---- looking no further than the last end within a segment
-- that end, the others before it, and where passes are cut
abbrev IsTold : ℕ → ℕ → ℕ → ℕ → Type 0
IsTold style all last n = (n ≤ last) ⊎ IsCut style all n

within_most : (style all : ℕ) (e : LayerEnd) → end_within style all e ≤ e.passes
within_most style all e = elim (cases_Bool (is_cut style all e)) [
  | inl t ↦ let z : end_within style all e ≡ 0 = cond-true (is_cut style all e) 0 e.passes t in omega arith
  | inr f ↦ let z : end_within style all e ≡ e.passes = cond-false (is_cut style all e) 0 e.passes f in omega arith
]

pub last_most : (style layer passes all : ℕ) (ends : List LayerEnd) → AreEnds layer passes all ends → last_within style all ends ≤ all
last_most style layer passes all [] are = omega arith
last_most style layer passes all (e ∷ ends) are =
    let most : e.passes ≤ all = ends_within (e.layer + 1) e.passes all ends are.2 in
    let here : end_within style all e ≤ all = omega (arith, within_most style all e) in
    max-le here (last_most style (e.layer + 1) e.passes all ends are.2)

told_ends : (style all last : ℕ) (ends : List LayerEnd) → last_within style all ends ≤ last → AtEnds (IsTold style all last) ends
told_ends style all last [] le = tt
told_ends style all last (e ∷ ends) le =
    let here = le-max_left (end_within style all e) (last_within style all ends) in
    let more = le-max_right (end_within style all e) (last_within style all ends) in
    let first : IsTold style all last e.passes = elim (cases_Bool (is_cut style all e)) [
      | inl t ↦ inr (cut_from style all e.passes t)
      | inr f ↦ let z : end_within style all e ≡ e.passes = cond-false (is_cut style all e) 0 e.passes f in inl (omega arith)
    ] in
    (first, told_ends style all last ends (omega arith))

looks_by : (style passes n : ℕ) (ss : List (List ℕ)) (a b : List ℕ) → get_or a (n - 1) 0 ≡ get_or b (n - 1) 0 → sent_by_looks style passes ss a n ≡ sent_by_looks style passes ss b n
unfolding sent_by_looks
looks_by style passes n ss a b e = rw e refl

looks_front : (w h : ℕ) (c : Coding) (ss : List (List ℕ)) (last all n : ℕ) → last ≤ all → n ≤ last
    → sent_by_looks c.style all ss (decoded w h c ss last).looked n ≡ sent_by_looks c.style all ss (decoded w h c ss all).looked n
looks_front w h c ss last all zero within le = same_looks c.style all 0 ss (decoded w h c ss last).looked (decoded w h c ss all).looked (inl refl)
looks_front w h c ss last all (suc i) within le =
    let back : suc i - 1 ≡ i = omega arith in
    let same : get_or (decoded w h c ss last).looked i 0 ≡ get_or (decoded w h c ss all).looked i 0 =
    looked_front w h c ss last i (omega arith) ∙ sym (looked_front w h c ss all i (omega arith)) in
    looks_by c.style all (suc i) ss (decoded w h c ss last).looked (decoded w h c ss all).looked (rw back same)

pub first_parts : (b : Block) (style last : ℕ) (ends : List LayerEnd) (ss : List (List ℕ)) → AreEnds 0 0 b.passes ends → last ≡ last_within style b.passes ends
    → layer_parts_after style (sent_by_looks style b.passes ss (decoded_first b style ss last).looked) 0 ends
    ≡ layer_parts_after style (sent_by_looks style b.passes ss (decoded_in b style ss).looked) 0 ends
first_parts b style last ends ss are e =
    let within : last ≤ b.passes = rw e (last_most style 0 0 b.passes ends are) in
    parts_same (IsTold style b.passes last) (sent_by_looks style b.passes ss (decoded_first b style ss last).looked) (sent_by_looks style b.passes ss (decoded_in b style ss).looked)
    style 0 0 b.passes ends are
    (λ (n : ℕ) most told. elim told [
      | inl low ↦ looks_front (length_of b.rect.x) (length_of b.rect.y) (coding_in b style) ss last b.passes n within low
      | inr cut ↦ same_looks style b.passes n ss (decoded_first b style ss last).looked (decoded_in b style ss).looked cut
    ])
    (λ (m : ℕ) lt ended. let same : m ≡ m + 1 - 1 = omega arith in inr (inr (inr (subst (λ (k : ℕ). end_pass style k ≡ true) same ended))))
    (inl (omega arith)) (told_ends style b.passes last ends (omega arith))

-- from a table of what was looked at
pub looks_parts : (b : Block) (style : Style) (last : ℕ) (ends : List LayerEnd) (ss : List (List ℕ)) (table : List ℕ) → AreEnds 0 0 b.passes ends
    → last ≡ last_within style.bits b.passes ends → table ≡ map (sent_by_looks style.bits b.passes ss (decoded_first b style.bits ss last).looked) (range_with_len 0 (b.passes + 1))
    → layer_parts_after style.bits (at_place table) 0 ends ≡ layer_parts_after style.bits (sent_in b (Some style) ends ss) 0 ends
looks_parts b style last ends ss table are far e =
    listed_table (sent_by_looks style.bits b.passes ss (decoded_first b style.bits ss last).looked) style.bits b.passes ends table are e
    ∙ first_parts b style.bits last ends ss are far
