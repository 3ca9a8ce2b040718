-- What a block's lists show of a word before a pass over it.
use Rattle.std.proofs.Common.{◌≡◌, ◌≤◌, ◌+◌, ◌-◌, ◌*◌, ◌/◌, ◌%◌, ◌^◌, ◌||◌, ◌&&◌, not, nat_le, ℕ, min, Bool, true, false, refl, sym, ap, ◌∙◌, arith, inl, inr, List, get_or}
use Rattle.std.specs.Int.{bit_at}
use Rattle.std.proofs.lemmas.Bool.{cases_Bool, cases_lt, le-ltb, lt-ltb, true≢false}
use Rattle.std.proofs.lemmas.Nat.Bits.{bit_at-zero}
use Rattle.jx_tier1_specs.specs.declared.coef.Coef.{Coef}
use Rattle.jx_tier1_specs.specs.declared.question.Plane.{Plane}
use Rattle.jx_tier1_specs.specs.Cells.{Cells, significant}
use Rattle.jx_tier1_specs.specs.declared.question.Question.{Question}
use Rattle.jx_tier1_specs.specs.Asking.{told}
use Rattle.jx_tier1_specs.specs.Near.{one_if}
use Rattle.jx_tier1_specs.specs.Pass.{is_decided}
use Rattle.jx_tier1_specs.proofs.GridLemmas.{IsIn, index_in}
use Rattle.jx_tier1_specs.proofs.StepLemmas.{no_bits}
use Rattle.jx_tier1.specs.Blocks.{BlockWords, Draws, Sees, wide_for}
use Rattle.jx_tier1.specs.BlockPasses.{IsMidway}
use Rattle.jx_tier1.specs.Marks.{mark}
use Rattle.jx_tier1.specs.Places.{IsWord, of_nine}
use Rattle.jx_tier1.specs.Sights.{IsSight}
use Rattle.jx_tier1.specs.Walking.{IsNow}
use Rattle.jx_tier1.specs.WordPasses.{Picks, in_word, coef_in, IsDue, BeforeSignificance, BeforeRefinement, BeforeCleanup}
use Rattle.jx_tier1.specs.WordScan.{word_pass}
use Rattle.jx_tier1.proofs.BlockBits.{IsWordAt, IsOwn, bit_there}
use Rattle.jx_tier1.proofs.DueWords.{place_of}
use Rattle.jx_tier1.proofs.FlagLemmas.{flag, is_marked, any, marks_drawn, sees_marks, flag_there, there_or_not, outside}
use Rattle.jx_tier1.proofs.GroupLemmas.{HasWord}
use Rattle.jx_tier1.proofs.SightLemmas.{shown, not_five}
use Rattle.jx_tier1.proofs.SignificanceWord.{not_due}
use Rattle.jx_tier1.proofs.WordScanLemmas.{bits_none}
use Rattle.jx_tier1.proofs.VisitLemmas.{HasBit, own_visited, place_there_in}

has_bit : (g : Cells) (s t i : ℕ) → in_word g (8 * t) (4 * s) i ≡ true → HasBit g s t (8 * t + i / 6) (4 * s + i % 6) i
has_bit g s t i e =
    let p = place_of g (8 * t) (4 * s) i e in
    record { has = e; column = refl; row = refl; few = p.few; gap = p.gap }

pub window_flag : (T : Coef → Bool) (causal : Bool) (g : Cells) (x y w i : ℕ) → Sees causal (flag T g) x y w → in_word g x y i ≡ true → bit_at w (i + 7) ≡ one_if (T (coef_in g x y i))
window_flag T causal g x y w i s e =
    let p = place_of g x y i e in
    let few = p.few in
    let gap = p.gap in
    let c : ℕ = i / 6 in
    let r : ℕ = i % 6 in
    let j : i + 7 ≡ 6 * (c + 1) + (r + 1) = omega arith in
    let a : x + (c + 1) ≡ x + c + 1 = omega arith in
    let b : y + (r + 1) ≡ y + r + 1 = omega arith in
    ap (λ (n : ℕ). bit_at w n) j
    ∙ (s.at (c + 1) (r + 1) (omega arith) (omega arith)
    ∙ (shown causal (r + 1) (flag T g (x + (c + 1)) (y + (r + 1))) (not_five causal (r + 1) (λ z. omega arith))
    ∙ (ap (λ (n : ℕ). flag T g n (y + (r + 1))) a
    ∙ (ap (λ (n : ℕ). flag T g (x + c + 1) n) b ∙ flag_there T g (x + c) (y + r) p.column p.row))))

-- bits of the lists
pub list_flag : (T : Coef → Bool) (g : Cells) (width s t at i : ℕ) (words : List ℕ) → IsWordAt (wide_for width) s t at words → Draws (wide_for width) (flag T g) words
    → g.width ≡ width → in_word g (8 * t) (4 * s) i ≡ true → bit_at (get_or words at 0) i ≡ one_if (T (coef_in g (8 * t) (4 * s) i))
list_flag T g width s t at i words a d e h =
    let p = place_of g (8 * t) (4 * s) i h in
    let few = p.few in
    let group = a.group in
    sym (place_there_in (wide_for width) s t at (8 * t + i / 6) (4 * s + i % 6) i g words a (has_bit g s t i h))
    ∙ (d.at (8 * t + i / 6 + 1) (4 * s + i % 6 + 1) (omega arith) ∙ flag_there T g (8 * t + i / 6) (4 * s + i % 6) p.column p.row)

no_flag : (T : Coef → Bool) (g : Cells) (wide s t at i : ℕ) (words : List ℕ) → IsWordAt wide s t at words → Draws wide (flag T g) words
    → IsWord (get_or words at 0) → in_word g (8 * t) (4 * s) i ≡ false → bit_at (get_or words at 0) i ≡ 0
no_flag T g wide s t at i words a d w h =
    let c : ℕ = i / 6 in
    let r : ℕ = i % 6 in
    elim (cases_lt i 48) [
      | inr l ↦ w.behind i l
      | inl l ↦ elim (cases_lt r 4) [
        | inr m ↦ w.between i m
        | inl m ↦
            (let group = a.group in
            let e : 6 * c + r ≡ i = omega arith in
            there_or_not g (8 * t) (4 * s) c r (bit_at (get_or words at 0) i ≡ 0) (omega arith) m
            (λ z. absurd (true≢false (sym (z.has) ∙ (ap (λ (n : ℕ). in_word g (8 * t) (4 * s) n) e ∙ h))))
            (λ z.
            let column : ℕ = 8 * t + (c + 1) in
            let row : ℕ = 4 * s + (r + 1) in
            let o : IsOwn s t column row = record { group = omega arith; stripe = omega arith } in
            let f : 6 * ((column + 7) % 8) + (row + 3) % 4 ≡ i = omega arith in
            sym (ap (λ (n : ℕ). bit_at (get_or words at 0) n) f)
            ∙ (sym (bit_there wide s t at column row words a o) ∙ (d.at column row (omega arith) ∙ outside T g column row z.outside))))
      ]
    ]

visited_one : (k : Plane) (g : Cells) (b : BlockWords) (s t at i : ℕ) → IsMidway 1 s t k g b → HasWord b s t at → in_word g (8 * t) (4 * s) i ≡ true
    → bit_at (get_or b.visited at 0) i ≡ one_if (is_decided k (coef_in g (8 * t) (4 * s) i))
visited_one k g b s t at i d a h =
    let p = place_of g (8 * t) (4 * s) i h in
    let few = p.few in
    let gap = p.gap in
    sym (place_there_in (wide_for b.width) s t at (8 * t + i / 6) (4 * s + i % 6) i g b.visited a.visited (has_bit g s t i h))
    ∙ own_visited 1 k.number s t g b (8 * t + i / 6) (4 * s + i % 6) d.visited p.column p.row (omega arith) (omega arith)

visited_two : (k : Plane) (g : Cells) (b : BlockWords) (s t at i : ℕ) → IsMidway 2 s t k g b → HasWord b s t at → in_word g (8 * t) (4 * s) i ≡ true
    → significant (coef_in g (8 * t) (4 * s) i) ≡ false → bit_at (get_or b.visited at 0) i ≡ one_if (is_decided k (coef_in g (8 * t) (4 * s) i))
visited_two k g b s t at i d a h z =
    let p = place_of g (8 * t) (4 * s) i h in
    let few = p.few in
    let gap = p.gap in
    sym (place_there_in (wide_for b.width) s t at (8 * t + i / 6) (4 * s + i % 6) i g b.visited a.visited (has_bit g s t i h))
    ∙ own_visited 2 k.number s t g b (8 * t + i / 6) (4 * s + i % 6) d.visited p.column p.row (omega arith) (omega arith)
    (no_bits (coef_in g (8 * t) (4 * s) i).bits z)

-- tests by bits
not_bit : (b : Bool) → min 1 (1 - one_if b) ≡ one_if (not b)
not_bit true = refl
not_bit false = refl

due_bit : (a b : Bool) → min (one_if a) (1 - one_if b) ≡ one_if (a && not b)
due_bit true true = refl
due_bit true false = refl
due_bit false true = refl
due_bit false false = refl

left_marked : (v n : ℕ) (b d : Bool) → v ≡ 1 → b ≡ true → min (min v (1 - one_if b)) (1 - n) ≡ one_if (not (b || d))
left_marked v n true d e f = let z : min (min v 0) (1 - n) ≡ 0 = omega arith in z
left_marked v n false d e f = absurd (true≢false (sym f))

left_bit : (v : ℕ) (b d : Bool) → v ≡ 1 → b ≡ false → min (min v (1 - one_if b)) (1 - one_if d) ≡ one_if (not (b || d))
left_bit v true d e f = absurd (true≢false f)
left_bit v false true e f = let z : min (min v 1) 0 ≡ 0 = omega arith in z
left_bit v false false e f = let z : min (min v 1) 1 ≡ 1 = omega arith in z

none_min : (n m : ℕ) → n ≡ 0 → min n m ≡ 0
none_min n m e = omega arith

-- before a significance pass
pub free_picked : (k : Plane) (g : Cells) (s t w valid free : ℕ) → Sees k.causal (mark g) (8 * t) (4 * s) w → Picks any g (8 * t) (4 * s) valid
    → ((i : ℕ) → bit_at free i ≡ min (bit_at valid i) (1 - bit_at w (i + 7))) → Picks (λ c. not (significant c)) g (8 * t) (4 * s) free
free_picked k g s t w valid free o p e = record {
  place = λ j h.
      e j
      ∙ (ap (λ (m : ℕ). min m (1 - bit_at w (j + 7))) (p.place j h)
      ∙ (ap (λ (m : ℕ). min 1 (1 - m)) (window_flag is_marked k.causal g (8 * t) (4 * s) w j (sees_marks k.causal g (8 * t) (4 * s) w o) h)
      ∙ not_bit (significant (coef_in g (8 * t) (4 * s) j))));
  none = λ j h. e j ∙ none_min (bit_at valid j) (1 - bit_at w (j + 7)) (p.none j h);
}

pub none_decided : (k : Plane) (g : Cells) (b : BlockWords) (s t j : ℕ) → IsMidway 0 s t k g b → in_word g (8 * t) (4 * s) j ≡ true
    → is_decided k (coef_in g (8 * t) (4 * s) j) ≡ false
none_decided k g b s t j d h =
    let q = place_of g (8 * t) (4 * s) j h in
    let few = q.few in
    let gap = q.gap in
    le-ltb k.number (coef_in g (8 * t) (4 * s) j).planes
    (own_visited 0 k.number s t g b (8 * t + j / 6) (4 * s + j % 6) d.visited q.column q.row (omega arith) (omega arith))

pub before_significance : (k : Plane) (g : Cells) (b : BlockWords) (s t w v valid free : ℕ) → IsNow k g → IsMidway 0 s t k g b → IsSight k.causal g (8 * t) (4 * s) w v
    → Picks any g (8 * t) (4 * s) valid → ((i : ℕ) → bit_at free i ≡ min (bit_at valid i) (1 - bit_at w (i + 7)))
    → BeforeSignificance k g (8 * t) (4 * s) w v free
before_significance k g b s t w v valid free n d i p e = record {
  now = n;
  sight = i;
  fresh = λ j h. none_decided k g b s t j d h;
  free = free_picked k g s t w valid free i.window p e;
}

-- a pass that asks nothing, as no place is due
no_bits_in : (T : Coef → Bool) (g : Cells) (x y : ℕ) → ((i : ℕ) → in_word g x y i ≡ true → T (coef_in g x y i) ≡ false) → Picks T g x y 0
no_bits_in T g x y h = record { place = λ i e. bit_at-zero i ∙ sym (ap one_if (h i e)); none = λ i e. bit_at-zero i }

pub significance_idle : {S : Type 0} (ask : S → Question → Bool × S) (k : Plane) (g : Cells) (b : BlockWords) (s t w valid free : ℕ) (u : S) → IsMidway 0 s t k g b
    → Sees k.causal (mark g) (8 * t) (4 * s) w → Picks any g (8 * t) (4 * s) valid → ((i : ℕ) → bit_at free i ≡ min (bit_at valid i) (1 - bit_at w (i + 7)))
    → ((i : ℕ) → min (of_nine w i) (bit_at free i) ≡ 0)
    → (told ask (word_pass 1 k (8 * t) (4 * s) g) u ≡ (g, u)) × Picks (is_decided k) g (8 * t) (4 * s) 0
unfolding word_pass
significance_idle ask k g b s t w valid free u d o p e z =
    let f = free_picked k g s t w valid free o p e in
    let due : IsDue k g (8 * t) (4 * s) w free 0 0 0 = record {
      free = λ i l h. f.place i h;
      none = λ i h. f.none i h;
      fresh = λ i l h. none_decided k g b s t i d h;
      due = λ i l. bit_at-zero i ∙ sym (z i);
      before = λ i l. absurd (omega arith);
      seen = λ i l h. absurd (omega arith);
      coming = λ i l. refl;
      blank = λ i h. bit_at-zero i;
    } in (
      bits_none ask 1 k (8 * t) (4 * s) 48 0 g u (λ i l m. not_due 1 k g (8 * t) (4 * s) w free 0 0 0 i refl due o (omega arith) (omega arith) (omega arith) (bit_at-zero i)),
      no_bits_in (is_decided k) g (8 * t) (4 * s) (λ i h. none_decided k g b s t i d h),
    )

-- before a refinement pass
undecided_planes : (k : Plane) (c : Coef) → is_decided k c ≡ false → k.number ≤ c.planes → c.planes ≡ k.number
undecided_planes k c e l =
    elim (cases_lt k.number c.planes) [
      | inl p ↦ absurd (true≢false (sym (lt-ltb k.number c.planes p) ∙ e))
      | inr p ↦ omega arith
    ]

due_parts : (a b : Bool) → one_if (a && not b) ≡ 1 → b ≡ false
due_parts true true e = absurd (let z : 0 ≡ 1 → ⊥ = λ y. omega arith in z e)
due_parts true false e = refl
due_parts false b e = absurd (let z : 0 ≡ 1 → ⊥ = λ y. omega arith in z e)

pub due_picked : (k : Plane) (g : Cells) (b : BlockWords) (s t at due : ℕ) → IsMidway 1 s t k g b → HasWord b s t at → IsWord (get_or b.significant at 0)
    → ((i : ℕ) → bit_at due i ≡ min (bit_at (get_or b.significant at 0) i) (1 - bit_at (get_or b.visited at 0) i))
    → Picks (λ z. significant z && not (is_decided k z)) g (8 * t) (4 * s) due
due_picked k g b s t at due d a o e =
    let wide : ℕ = wide_for b.width in
    let m = marks_drawn wide g b.significant d.drawn.significant in
    record {
      place = λ i h.
          e i
          ∙ (ap (λ (z : ℕ). min z (1 - bit_at (get_or b.visited at 0) i)) (list_flag is_marked g b.width s t at i b.significant a.significant m (sym d.drawn.width) h)
          ∙ (ap (λ (z : ℕ). min (one_if (significant (coef_in g (8 * t) (4 * s) i))) (1 - z)) (visited_one k g b s t at i d a h)
          ∙ due_bit (significant (coef_in g (8 * t) (4 * s) i)) (is_decided k (coef_in g (8 * t) (4 * s) i))));
      none = λ i h. e i ∙ none_min (bit_at (get_or b.significant at 0) i) (1 - bit_at (get_or b.visited at 0) i) (no_flag is_marked g wide s t at i b.significant a.significant m o h);
    }

pub before_refinement : (k : Plane) (g : Cells) (b : BlockWords) (s t at w due : ℕ) → IsNow k g → IsMidway 1 s t k g b → HasWord b s t at → Sees k.causal (mark g) (8 * t) (4 * s) w
    → IsWord (get_or b.significant at 0) → ((i : ℕ) → bit_at due i ≡ min (bit_at (get_or b.significant at 0) i) (1 - bit_at (get_or b.visited at 0) i))
    → BeforeRefinement k g (8 * t) (4 * s) w due (get_or b.refined at 0)
before_refinement k g b s t at w due n d a c o e =
    let wide : ℕ = wide_for b.width in
    let q = d.drawn in
    let picks = due_picked k g b s t at due d a o e in
    record {
      now = n;
      window = c;
      due = picks;
      refined = λ i h j.
          (let p = place_of g (8 * t) (4 * s) i h in
          let z : Coef = coef_in g (8 * t) (4 * s) i in
          let inside : IsIn g (8 * t + i / 6) (4 * s + i % 6) = record { column = p.column; row = p.row } in
          let u = due_parts (significant z) (is_decided k z) (sym (picks.place i h) ∙ j) in
          let l = undecided_planes k z u (n.at.least ((4 * s + i % 6) * g.width + (8 * t + i / 6)) (index_in g (8 * t + i / 6) (4 * s + i % 6) n.at.clean.whole inside)) in
          sym (place_there_in wide s t at (8 * t + i / 6) (4 * s + i % 6) i g b.refined a.refined (has_bit g s t i h))
          ∙ (q.refined (8 * t + i / 6) (4 * s + i % 6) p.column p.row ∙ ap (λ (f : ℕ). one_if (nat_le 2 (z.bits / 2 ^ (k.planes - f)))) l));
    }

-- before a cleanup pass
pub left_picked : (k : Plane) (g : Cells) (b : BlockWords) (s t at valid places : ℕ) → IsMidway 2 s t k g b → HasWord b s t at → Picks any g (8 * t) (4 * s) valid
    → ((i : ℕ) → bit_at places i ≡ min (min (bit_at valid i) (1 - bit_at (get_or b.significant at 0) i)) (1 - bit_at (get_or b.visited at 0) i))
    → Picks (λ z. not (significant z || is_decided k z)) g (8 * t) (4 * s) places
left_picked k g b s t at valid places d a p e =
    let wide : ℕ = wide_for b.width in
    let q = d.drawn in
    let m = marks_drawn wide g b.significant q.significant in
    record {
      place = λ i h.
          (let z : Coef = coef_in g (8 * t) (4 * s) i in
          let f = list_flag is_marked g b.width s t at i b.significant a.significant m (sym q.width) h in
          let j : bit_at places i ≡ min (min (bit_at valid i) (1 - one_if (significant z))) (1 - bit_at (get_or b.visited at 0) i) =
          e i ∙ ap (λ (y : ℕ). min (min (bit_at valid i) (1 - y)) (1 - bit_at (get_or b.visited at 0) i)) f in
          elim (cases_Bool (significant z)) [
            | inl r ↦ j ∙ left_marked (bit_at valid i) (bit_at (get_or b.visited at 0) i) (significant z) (is_decided k z) (p.place i h) r
            | inr r ↦
                j
                ∙ (ap (λ (y : ℕ). min (min (bit_at valid i) (1 - one_if (significant z))) (1 - y)) (visited_two k g b s t at i d a h r)
                ∙ left_bit (bit_at valid i) (significant z) (is_decided k z) (p.place i h) r)
          ]);
      none = λ i h.
          e i
          ∙ none_min (min (bit_at valid i) (1 - bit_at (get_or b.significant at 0) i)) (1 - bit_at (get_or b.visited at 0) i)
          (none_min (bit_at valid i) (1 - bit_at (get_or b.significant at 0) i) (p.none i h));
    }

pub before_cleanup : (k : Plane) (g : Cells) (b : BlockWords) (s t at w v valid places : ℕ) → IsNow k g → IsMidway 2 s t k g b → HasWord b s t at
    → IsSight k.causal g (8 * t) (4 * s) w v → Picks any g (8 * t) (4 * s) valid
    → ((i : ℕ) → bit_at places i ≡ min (min (bit_at valid i) (1 - bit_at (get_or b.significant at 0) i)) (1 - bit_at (get_or b.visited at 0) i))
    → BeforeCleanup k g (8 * t) (4 * s) w v places
before_cleanup k g b s t at w v valid places n d a c p e = record { now = n; sight = c; due = left_picked k g b s t at valid places d a p e }
