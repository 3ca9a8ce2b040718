-- The first of some segments, the last of them as far as its bytes go.
use Rattle.std.proofs.Common.{◌≡◌, ℕ, zero, suc, ◌+◌, ◌-◌, ◌<◌, ◌≤◌, true, false, List, [], ◌∷◌, ◌++◌, inl, inr, ◌⊎◌, ◌∙◌, ap, sym, subst, refl, arith, length, take, drop, get_or, append-nil}
use Rattle.std.specs.List.{concat, sum_by}
use Rattle.std.proofs.Math.Seq.{take-append-add, take-length}
use Rattle.std.proofs.lemmas.Bool.{cases_eq, cases_Bool}
use Rattle.std.proofs.lemmas.List.{length-take-le, take-append-drop, take-append-le}
use Rattle.std.proofs.lemmas.List.Sums.{sum_by-cons}
use Rattle.jx_base.specs.Passes.{end_pass}
use Rattle.jx_base.specs.Pieces.{IsInOneSegment}
use Rattle.jx_codeblock.specs.Segments.{bytes_before, ends_below}
use Rattle.jx_codeblock.proofs.EndLemmas.{below_ended, below_still}
use Rattle.jx_codeblock.proofs.RegroupLemmas.{Sends, drop_at}
use Rattle.jx_codeblock.proofs.SentLemmas.{all_before, before_next}

-- ---- some segments, and the front of one more
abbrev pub front : List (List ℕ) → ℕ → ℕ → List (List ℕ)
front ss a k = take a ss ++ take k (get_or ss a []) ∷ []

pub front_long : (ss : List (List ℕ)) (a k : ℕ) → a < length ss → length (front ss a k) ≡ a + 1
front_long [] a k lt = absurd (omega arith)
front_long (s ∷ ss) zero k lt = refl
front_long (s ∷ ss) (suc a) k lt = let more : length (front ss a k) ≡ a + 1 = front_long ss a k (omega arith) in omega arith

pub front_before : (ss : List (List ℕ)) (a k i : ℕ) → a < length ss → i ≤ a → bytes_before (front ss a k) i ≡ bytes_before ss i
front_before [] a k i lt le = absurd (omega arith)
front_before (s ∷ ss) a k zero lt le = refl
front_before (s ∷ ss) zero k (suc i) lt le = absurd (omega arith)
front_before (s ∷ ss) (suc a) k (suc i) lt le =
    before_next s (front ss a k) i ∙ ap (λ (n : ℕ). length s + n) (front_before ss a k i (omega arith) (omega arith)) ∙ sym (before_next s ss i)

front_total : (ss : List (List ℕ)) (a k : ℕ) → a < length ss → k ≤ length (get_or ss a []) → sum_by (λ (t : List ℕ). length t) (front ss a k) ≡ bytes_before ss a + k
front_total [] a k lt le = absurd (omega arith)
front_total (s ∷ ss) zero k lt le = sum_by-cons (λ (t : List ℕ). length t) (take k s) [] ∙ omega (arith, length-take-le k s le)
front_total (s ∷ ss) (suc a) k lt le =
    sum_by-cons (λ (t : List ℕ). length t) s (front ss a k) ∙ omega (arith, front_total ss a k (omega arith) le, before_next s ss a)

pub front_all : (ss : List (List ℕ)) (a k : ℕ) → a < length ss → k ≤ length (get_or ss a []) → bytes_before (front ss a k) (length (front ss a k)) ≡ bytes_before ss a + k
front_all ss a k lt le = all_before (front ss a k) ∙ front_total ss a k lt le

pub front_bytes : (ss : List (List ℕ)) (a k : ℕ) → a < length ss → k ≤ length (get_or ss a []) → concat (front ss a k) ≡ take (bytes_before ss a + k) (concat ss)
front_bytes [] a k lt le = absurd (omega arith)
front_bytes (s ∷ ss) zero k lt le =
    let all : k ≡ 0 + k = omega arith in
    append-nil (take k s) ∙ sym (take-append-le k s (concat ss) le) ∙ ap (λ (m : ℕ). take m (s ++ concat ss)) all
front_bytes (s ∷ ss) (suc a) k lt le =
    let n : bytes_before (s ∷ ss) (suc a) + k ≡ length s + (bytes_before ss a + k) = omega (arith, before_next s ss a) in
    ap (λ (bs : List ℕ). s ++ bs) (front_bytes ss a k (omega arith) le)
    ∙ sym (take-append-add s (concat ss) (bytes_before ss a + k))
    ∙ ap (λ (m : ℕ). take m (s ++ concat ss)) (sym n)

-- with all bytes of the last of them
pub front_whole : (ss : List (List ℕ)) (a : ℕ) → front ss a (length (get_or ss a [])) ≡ take a ss ++ get_or ss a [] ∷ []
front_whole ss a = ap (λ (s : List ℕ). take a ss ++ s ∷ []) (take-length (get_or ss a []))

pub split_at : (ss : List (List ℕ)) (a : ℕ) → a < length ss → take a ss ++ get_or ss a [] ∷ drop (a + 1) ss ≡ ss
split_at ss a lt = ap (λ (rest : List (List ℕ)). take a ss ++ rest) (sym (drop_at ss a lt)) ∙ take-append-drop a ss

-- ---- where the segment of a pass begins
record Begins (style pass : ℕ) : Type 0 where
  at : ℕ
  low : at ≤ pass
  one : IsInOneSegment style at (pass + 1 - at)
  same : ends_below style at ≡ ends_below style pass
  is : (at ≡ 0) ⊎ (end_pass style (at - 1) ≡ true)

begins_at : (style pass : ℕ) → Begins style pass
begins_at style zero = record { at = 0; low = omega arith; one = λ (k : ℕ) le lt. absurd (omega arith); same = refl; is = inl refl }
begins_at style (suc pass) =
    let next : suc pass ≡ pass + 1 = omega arith in
    let back : suc pass - 1 ≡ pass = omega arith in
    elim (cases_Bool (end_pass style pass)) [
      | inl t ↦ record {
        at = suc pass;
        low = omega arith;
        one = λ (k : ℕ) le lt. absurd (omega arith);
        same = refl;
        is = inr (ap (λ (n : ℕ). end_pass style n) back ∙ t);
      }
      | inr f ↦
          let b = begins_at style pass in
          let low : b.at ≤ pass = b.low in
          record {
            at = b.at;
            low = omega arith;
            one = λ (k : ℕ) (le : b.at ≤ k) (lt : k + 1 < b.at + (suc pass + 1 - b.at)). elim (cases_eq k pass) [
              | inl same ↦ ap (λ (n : ℕ). end_pass style n) same ∙ f
              | inr ne ↦ b.one k le (omega arith)
            ];
            same = b.same ∙ sym (below_still style pass f) ∙ ap (ends_below style) (sym next);
            is = b.is;
          }
    ]

-- ---- and where it ends, after some passes of it
record Stops (style passes n : ℕ) : Type 0 where
  at : ℕ
  high : n ≤ at
  within : at ≤ passes
  flat : (k : ℕ) → n ≤ k + 1 → k + 1 < at → end_pass style k ≡ false
  same : ends_below style (at - 1) ≡ ends_below style (n - 1)
  is : (at ≡ passes) ⊎ (end_pass style (at - 1) ≡ true)

stops_at : (style passes n left : ℕ) → 1 ≤ n → n + left ≡ passes → Stops style passes n
stops_at style passes n zero some e = record {
  at = n;
  high = omega arith;
  within = omega arith;
  flat = λ (k : ℕ) le lt. absurd (omega arith);
  same = refl;
  is = inl (omega arith);
}
stops_at style passes n (suc left) some e = elim (cases_Bool (end_pass style (n - 1))) [
  | inl t ↦ record {
    at = n;
    high = omega arith;
    within = omega arith;
    flat = λ (k : ℕ) le lt. absurd (omega arith);
    same = refl;
    is = inr t;
  }
  | inr f ↦
      let s = stops_at style passes (n + 1) left (omega arith) (omega arith) in
      let high : n + 1 ≤ s.at = s.high in
      let next : n + 1 - 1 ≡ n - 1 + 1 = omega arith in
      record {
        at = s.at;
        high = omega arith;
        within = s.within;
        flat = λ (k : ℕ) (le : n ≤ k + 1) (lt : k + 1 < s.at). elim (cases_eq k (n - 1)) [
          | inl same ↦ ap (λ (m : ℕ). end_pass style m) same ∙ f
          | inr ne ↦ s.flat k (omega arith) lt
        ];
        same = s.same ∙ ap (ends_below style) next ∙ below_still style (n - 1) f;
        is = s.is;
      }
]

-- ---- between what is sent of a segment at its two ends lies what is sent within it
module _ (style passes : ℕ) (ss : List (List ℕ)) (sent : ℕ → ℕ) (sends : Sends style passes ss sent) (n : ℕ) (some : 1 ≤ n) (within : n ≤ passes) where
  pub sent_low : bytes_before ss (ends_below style (n - 1)) ≤ sent n
  sent_low =
      let b = begins_at style (n - 1) in
      let low : b.at ≤ n - 1 = b.low in
      let long : n - 1 + 1 - b.at ≡ n - b.at = omega arith in
      let one : IsInOneSegment style b.at (n - b.at) = subst (λ (m : ℕ). IsInOneSegment style b.at m) long b.one in
      let more : sent b.at ≤ sent n = sends.grows b.at n (omega arith) within one in
      let here : sent b.at ≡ bytes_before ss (ends_below style b.at) = elim b.is [
        | inl start ↦
            let none : sent b.at ≡ 0 = ap sent start ∙ sends.none in
            let nothing : bytes_before ss (ends_below style b.at) ≡ 0 = ap (λ (m : ℕ). bytes_before ss (ends_below style m)) start in
            none ∙ sym nothing
        | inr ended ↦ sends.cut b.at (omega arith) ended
      ] in
      let same : bytes_before ss (ends_below style b.at) ≡ bytes_before ss (ends_below style (n - 1)) = ap (bytes_before ss) b.same in
      omega arith

  pub sent_high : sent n ≤ bytes_before ss (ends_below style (n - 1) + 1)
  sent_high =
      let s = stops_at style passes n (passes - n) some (omega arith) in
      let high : n ≤ s.at = s.high in
      let one : IsInOneSegment style n (s.at - n) = λ (k : ℕ) (le : n ≤ k) (lt : k + 1 < n + (s.at - n)). s.flat k (omega arith) (omega arith) in
      let more : sent n ≤ sent s.at = sends.grows n s.at high s.within one in
      let next : s.at - 1 + 1 ≡ s.at = omega arith in
      let same : ends_below style (s.at - 1) ≡ ends_below style (n - 1) = s.same in
      let here : sent s.at ≡ bytes_before ss (ends_below style (n - 1) + 1) = elim (cases_eq s.at passes) [
        | inl all ↦
            let long : length ss ≡ ends_below style (passes - 1) + 1 = sends.long (omega arith) in
            let last : ends_below style (passes - 1) ≡ ends_below style (s.at - 1) = ap (λ (m : ℕ). ends_below style (m - 1)) (sym all) in
            ap sent all ∙ sends.all ∙ ap (bytes_before ss) (omega arith)
        | inr other ↦
            let ended : end_pass style (s.at - 1) ≡ true = elim s.is [
              | inl all ↦ absurd (other all)
              | inr e ↦ e
            ] in
            let below : s.at ≤ passes = s.within in
            let up : ends_below style s.at ≡ ends_below style (n - 1) + 1 =
            ap (ends_below style) (sym next) ∙ below_ended style (s.at - 1) ended ∙ ap (λ (m : ℕ). m + 1) same in
            sends.cut s.at (before s.at passes below other) ended ∙ ap (bytes_before ss) up
      ] in
      omega arith
    where
      before : (a b : ℕ) → a ≤ b → (a ≡ b → ⊥) → a < b
      before a b le ne = elim (cases_eq a b) [
        | inl e ↦ absurd (ne e)
        | inr other ↦ omega arith
      ]
