-- A pass over a word of a block: what is known before it, and what its lists show after it.
use Rattle.std.proofs.Common.{◌≡◌, ◌<◌, ◌+◌, ◌*◌, ◌/◌, ◌%◌, ◌&&◌, ℕ, min, Bool, refl, sym, ap, ◌∙◌, arith, subst, List, set}
use Rattle.std.specs.Prelude.{nat_lt}
use Rattle.std.specs.Int.{bit_at}
use Rattle.jx_tier1_specs.specs.declared.coef.Coef.{Coef}
use Rattle.jx_tier1_specs.specs.declared.question.Plane.{Plane}
use Rattle.jx_tier1_specs.specs.declared.question.Question.{Question}
use Rattle.jx_tier1_specs.specs.Cells.{Cells, coef_at}
use Rattle.jx_tier1_specs.specs.Near.{one_if}
use Rattle.jx_tier1_specs.specs.Asking.{told}
use Rattle.jx_tier1_specs.specs.Pass.{is_decided}
use Rattle.jx_tier1.specs.Blocks.{BlockWords, HasLists, bit_in, wide_for, count_for, place_in}
use Rattle.jx_tier1.specs.BlockPasses.{IsDrawn, IsMidway, ComesTo}
use Rattle.jx_tier1.specs.Sights.{IsSight, EndsIn}
use Rattle.jx_tier1.specs.Walking.{IsNow}
use Rattle.jx_tier1.specs.WordPasses.{Picks, in_word, AfterSignificance}
use Rattle.jx_tier1.specs.WordScan.{word_pass}
use Rattle.jx_tier1.proofs.BlockBits.{IsWordAt}
use Rattle.jx_tier1.proofs.FlagLemmas.{is_marked, is_negative, any, draws_marks, marks_drawn, draws_signs, signs_drawn, sees_marks, sees_signs, flags_put, pair_at}
use Rattle.jx_tier1.proofs.MoreLemmas.{KeepsMore, keeps_more}
use Rattle.jx_tier1.proofs.VisitLemmas.{word_visited, bit_of_place, place_here, place_elsewhere, picked}
use Rattle.jx_tier1.proofs.WordMoves.{Moves, IsStep, moves_same, significance_moves, cleanup_moves, word_moves}

-- a word of a block's lists
pub record HasWord (b : BlockWords) (s t at : ℕ) : Type 0 where
  pub significant : IsWordAt (wide_for b.width) s t at b.significant
  pub negative : IsWordAt (wide_for b.width) s t at b.negative
  pub visited : IsWordAt (wide_for b.width) s t at b.visited
  pub refined : IsWordAt (wide_for b.width) s t at b.refined

pub has_word : (b : BlockWords) (s t at : ℕ) → HasLists b → at ≡ place_in (wide_for b.width) s t → at + wide_for b.width + 1 < count_for b.width b.height → 8 * t < b.width
    → HasWord b s t at
has_word b s t at l e f h =
    let n : ℕ = count_for b.width b.height in
    let i : at < n = omega arith in
    let g : t + 2 < wide_for b.width = omega arith in
    record {
      significant = record { spot = e; group = g; size = subst (λ (m : ℕ). at < m) (sym l.significant) i };
      negative = record { spot = e; group = g; size = subst (λ (m : ℕ). at < m) (sym l.negative) i };
      visited = record { spot = e; group = g; size = subst (λ (m : ℕ). at < m) (sym l.visited) i };
      refined = record { spot = e; group = g; size = subst (λ (m : ℕ). at < m) (sym l.refined) i };
    }

-- the block keeps its places
in_word_as : (R : Coef → Coef → Type 0) (t s : ℕ) (g h : Cells) (x y i : ℕ) → Moves R t s g h → in_word h x y i ≡ in_word g x y i
in_word_as R t s g h x y i m =
    ap (λ (n : ℕ). nat_lt i 48 && (nat_lt (i % 6) 4 && (nat_lt (x + i / 6) n && nat_lt (y + i % 6) h.height))) m.width
    ∙ ap (λ (n : ℕ). nat_lt i 48 && (nat_lt (i % 6) 4 && (nat_lt (x + i / 6) g.width && nat_lt (y + i % 6) n))) m.height

places_kept : (R : Coef → Coef → Type 0) (t s : ℕ) (g h : Cells) (x y w : ℕ) → Moves R t s g h → Picks any g x y w → Picks any h x y w
places_kept R t s g h x y w m p = record {
  place = λ i e. p.place i (sym (in_word_as R t s g h x y i m) ∙ e);
  none = λ i e. p.none i (sym (in_word_as R t s g h x y i m) ∙ e);
}

-- the word's own places of its windows stand in the lists
abbrev pub put_in : BlockWords → ℕ → ℕ → ℕ → List ℕ → BlockWords
put_in b at o n visited = record b { significant = set b.significant at o; negative = set b.negative at n; visited = visited }

pub put_drawn : (k : Plane) (g h : Cells) (b : BlockWords) (s t at w v valid o n : ℕ) (visited : List ℕ) → IsDrawn k.planes g b → HasWord b s t at
    → Moves (KeepsMore k.planes) t s g h → IsSight k.causal h (8 * t) (4 * s) w v → Picks any g (8 * t) (4 * s) valid
    → ((i : ℕ) → bit_at o i ≡ min (bit_at w (i + 7)) (bit_at valid i)) → ((i : ℕ) → bit_at n i ≡ min (bit_at (v / 2) (i + 7)) (bit_at valid i))
    → IsDrawn k.planes h (put_in b at o n visited)
put_drawn k g h b s t at w v valid o n visited d a m i p e f =
    let R : Coef → Coef → Type 0 = KeepsMore k.planes in
    let wide : ℕ = wide_for b.width in
    let q = places_kept R t s g h (8 * t) (4 * s) valid m p in
    record {
      width = d.width ∙ sym m.width;
      height = d.height ∙ sym m.height;
      significant = draws_marks wide h (set b.significant at o)
          (flags_put is_marked R k.causal wide t s at w valid o g h b.significant a.significant m (marks_drawn wide g b.significant d.significant)
          (sees_marks k.causal h (8 * t) (4 * s) w i.window) q e);
      negative = draws_signs wide h (set b.negative at n)
          (flags_put is_negative R k.causal wide t s at (v / 2) valid n g h b.negative a.negative m (signs_drawn wide g b.negative d.negative)
          (sees_signs k.causal h (8 * t) (4 * s) (v / 2) i.signs) q f);
      refined = λ x y l r.
          d.refined x y (let z = m.width in omega arith) (let z = m.height in omega arith) ∙ sym (ap one_if (pair_at R t s g h x y m));
    }

-- after a significance pass
bit_same : (i : ℕ) → i ≡ i
bit_same i = refl

significance_steps : (k : Plane) (t s : ℕ) → IsStep 1 k (KeepsMore k.planes) t s
significance_steps k t s = λ g x y w a. significance_moves k (KeepsMore k.planes) t s g x y (keeps_more k) a

decided_bit : (k : Plane) (h : Cells) (s t x y e bit : ℕ) → Picks (is_decided k) h (8 * t) (4 * s) e → x < h.width → y < h.height → x / 8 ≡ t → y / 4 ≡ s
    → bit ≡ bit_at e (6 * (x % 8) + y % 4) → bit ≡ one_if (nat_lt k.number (coef_at h x y).planes)
decided_bit k h s t x y e bit p l r a c f = f ∙ picked (is_decided k) h s t x y e (6 * (x % 8) + y % 4) p (bit_of_place h s t x y l r a c)

pub significance_comes : {S : Type 0} (ask : S → Question → Bool × S) (k : Plane) (g : Cells) (b : BlockWords) (s t at w v valid e o n : ℕ) (u after : S)
    → IsNow k g → IsMidway 0 s t k g b → HasWord b s t at → Picks any g (8 * t) (4 * s) valid
    → AfterSignificance k (8 * t) (4 * s) (told ask (word_pass 1 k (8 * t) (4 * s) g) u) w v e after
    → ((i : ℕ) → bit_at o i ≡ min (bit_at w (i + 7)) (bit_at valid i)) → ((i : ℕ) → bit_at n i ≡ min (bit_at (v / 2) (i + 7)) (bit_at valid i))
    → ComesTo 0 s (t + 1) k (told ask (word_pass 1 k (8 * t) (4 * s) g) u) (put_in b at o n (set b.visited at e)) after
significance_comes {S = S} ask k g b s t at w v valid e o n u after now d a p z f j =
    let R : Coef → Coef → Type 0 = KeepsMore k.planes in
    let h : Cells = (told ask (word_pass 1 k (8 * t) (4 * s) g) u).0 in
    let m = word_moves ask 1 k R t s g u (keeps_more k).path (significance_steps k t s) now in
    record {
      block = record {
        drawn = put_drawn k g h b s t at w v valid o n (set b.visited at e) d.drawn a m z.ends.sight p f j;
        visited = word_visited R 0 k.number s t g h b (put_in b at o n (set b.visited at e)) m d.visited
            (λ x y l r q. place_elsewhere b.width s t at e x y b.visited a.visited (let c = d.drawn.width in omega arith) q)
            (λ x y l r c q _.
            let l' : x < h.width = (let y' = m.width in omega arith) in
            let r' : y < h.height = (let y' = m.height in omega arith) in
            decided_bit k h s t x y e (bit_in (wide_for b.width) (set b.visited at e) (x + 1) (y + 1)) z.seen l' r' c q
            (place_here (wide_for b.width) s t at e x y (6 * (x % 8) + y % 4) h b.visited a.visited (bit_of_place h s t x y l' r' c q)));
      };
      source = z.ends.source;
    }

-- it asks nothing
pub significance_rests : {S : Type 0} (ask : S → Question → Bool × S) (k : Plane) (g : Cells) (b : BlockWords) (s t at : ℕ) (u : S)
    → IsMidway 0 s t k g b → HasWord b s t at → told ask (word_pass 1 k (8 * t) (4 * s) g) u ≡ (g, u) → Picks (is_decided k) g (8 * t) (4 * s) 0
    → ComesTo 0 s (t + 1) k (told ask (word_pass 1 k (8 * t) (4 * s) g) u) (record b { visited = set b.visited at 0 }) u
significance_rests {S = S} ask k g b s t at u d a e p =
    let R : Coef → Coef → Type 0 = KeepsMore k.planes in
    let o : BlockWords = record b { visited = set b.visited at 0 } in
    let Q : Cells × S → Type 0 = λ q. ComesTo 0 s (t + 1) k q o u in
    let q = d.drawn in
    let c : ComesTo 0 s (t + 1) k (g, u) o u = record {
      block = record {
        drawn = record { width = q.width; height = q.height; significant = q.significant; negative = q.negative; refined = q.refined };
        visited = word_visited R 0 k.number s t g g b o (moves_same R t s g (keeps_more k).path) d.visited
            (λ x y l r z. place_elsewhere b.width s t at 0 x y b.visited a.visited (let c = q.width in omega arith) z)
            (λ x y l r c z _. decided_bit k g s t x y 0 (bit_in (wide_for b.width) (set b.visited at 0) (x + 1) (y + 1)) p l r c z
            (place_here (wide_for b.width) s t at 0 x y (6 * (x % 8) + y % 4) g b.visited a.visited (bit_of_place g s t x y l r c z)));
      };
      source = refl;
    } in
    subst Q (sym e) c

-- after a cleanup pass
cleanup_steps : (k : Plane) (t s : ℕ) → IsStep 0 k (KeepsMore k.planes) t s
cleanup_steps k t s = λ g x y w a. cleanup_moves k (KeepsMore k.planes) t s g x y (keeps_more k) a

pub cleanup_comes : {S : Type 0} (ask : S → Question → Bool × S) (k : Plane) (g : Cells) (b : BlockWords) (s t at w v valid o n : ℕ) (u after : S)
    → IsNow k g → IsMidway 2 s t k g b → HasWord b s t at → Picks any g (8 * t) (4 * s) valid
    → EndsIn k.causal (8 * t) (4 * s) (told ask (word_pass 0 k (8 * t) (4 * s) g) u) w v after
    → ((i : ℕ) → bit_at o i ≡ min (bit_at w (i + 7)) (bit_at valid i)) → ((i : ℕ) → bit_at n i ≡ min (bit_at (v / 2) (i + 7)) (bit_at valid i))
    → ComesTo 2 s (t + 1) k (told ask (word_pass 0 k (8 * t) (4 * s) g) u) (put_in b at o n b.visited) after
cleanup_comes {S = S} ask k g b s t at w v valid o n u after now d a p z f j =
    let R : Coef → Coef → Type 0 = KeepsMore k.planes in
    let h : Cells = (told ask (word_pass 0 k (8 * t) (4 * s) g) u).0 in
    let m = word_moves ask 0 k R t s g u (keeps_more k).path (cleanup_steps k t s) now in
    record {
      block = record {
        drawn = put_drawn k g h b s t at w v valid o n b.visited d.drawn a m z.sight p f j;
        visited = word_visited R 2 k.number s t g h b (put_in b at o n b.visited) m d.visited (λ x y l r q. refl) (λ x y l r c q _. tt);
      };
      source = z.source;
    }

pub cleanup_rests : {S : Type 0} (ask : S → Question → Bool × S) (k : Plane) (g : Cells) (b : BlockWords) (s t : ℕ) (u : S)
    → IsMidway 2 s t k g b → told ask (word_pass 0 k (8 * t) (4 * s) g) u ≡ (g, u)
    → ComesTo 2 s (t + 1) k (told ask (word_pass 0 k (8 * t) (4 * s) g) u) b u
cleanup_rests {S = S} ask k g b s t u d e =
    let R : Coef → Coef → Type 0 = KeepsMore k.planes in
    let Q : Cells × S → Type 0 = λ q. ComesTo 2 s (t + 1) k q b u in
    let c : ComesTo 2 s (t + 1) k (g, u) b u = record {
      block = record {
        drawn = d.drawn;
        visited = word_visited R 2 k.number s t g g b b (moves_same R t s g (keeps_more k).path) d.visited (λ x y l r q. refl) (λ x y l r c q _. tt);
      };
      source = refl;
    } in
    subst Q (sym e) c

-- after a refinement pass that asks nothing
pub refinement_rests : {S : Type 0} (ask : S → Question → Bool × S) (k : Plane) (g : Cells) (b : BlockWords) (s t : ℕ) (u : S)
    → IsMidway 1 s t k g b → told ask (word_pass 2 k (8 * t) (4 * s) g) u ≡ (g, u)
    → ComesTo 1 s (t + 1) k (told ask (word_pass 2 k (8 * t) (4 * s) g) u) b u
refinement_rests {S = S} ask k g b s t u d e =
    let R : Coef → Coef → Type 0 = KeepsMore k.planes in
    let Q : Cells × S → Type 0 = λ q. ComesTo 1 s (t + 1) k q b u in
    let c : ComesTo 1 s (t + 1) k (g, u) b u = record {
      block = record {
        drawn = d.drawn;
        visited = word_visited R 1 k.number s t g g b b (moves_same R t s g (keeps_more k).path) d.visited (λ x y l r q. refl) (λ x y l r c q v. λ z. v);
      };
      source = refl;
    } in
    subst Q (sym e) c
