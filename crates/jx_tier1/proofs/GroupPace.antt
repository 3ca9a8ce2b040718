-- A pass over a block, word after word and stripe after stripe.
use Rattle.std.proofs.Common.{◌≡◌, ◌<◌, ◌≤◌, ◌+◌, ◌-◌, ◌*◌, ◌/◌, ℕ, suc, min, Bool, refl, sym, ap, ◌∙◌, arith, subst}
use Rattle.std.proofs.Math.Nat.{mul-le-mul_right, mul-le-mul_left}
use Rattle.jx_tier1_specs.specs.declared.question.Plane.{Plane}
use Rattle.jx_tier1_specs.specs.declared.question.Question.{Question}
use Rattle.jx_tier1_specs.specs.Cells.{Cells}
use Rattle.jx_tier1_specs.specs.Asking.{told}
use Rattle.jx_tier1_specs.specs.Pass.{scanned}
use Rattle.jx_tier1.specs.Blocks.{BlockWords}
use Rattle.jx_tier1.specs.BlockPasses.{AreVisited, IsMidway, ComesTo}
use Rattle.jx_tier1.specs.Numbers.{first_of}
use Rattle.jx_tier1.specs.Walking.{IsNow}
use Rattle.jx_tier1.specs.WordScan.{word_pass}
use Rattle.jx_tier1.proofs.PaceLemmas.{IsAfter, scan_after}
use Rattle.jx_tier1.proofs.ScanLemmas.{scanned_then}
use Rattle.jx_tier1.proofs.VisitLemmas.{stripe_visited, block_visited}
use Rattle.jx_tier1.proofs.WordScanLemmas.{IsStripe, word_scanned}

-- some places, and some more
comes_then : {S : Type 0} (ask : S → Question → Bool × S) (pass : ℕ) (k : Plane) (m s t a b n : ℕ) (g : Cells) (o : BlockWords) (u v z : S)
    → v ≡ (told ask (scanned pass k a n g) u).1
    → ComesTo m s t k (told ask (scanned pass k b (n + a) (told ask (scanned pass k a n g) u).0) v) o z
    → ComesTo m s t k (told ask (scanned pass k (a + b) n g) u) o z
comes_then {S = S} ask pass k m s t a b n g o u v z e f =
    let h : Cells = (told ask (scanned pass k a n g) u).0 in
    let P : S → Type 0 = λ c. ComesTo m s t k (told ask (scanned pass k b (n + a) h) c) o z in
    let Q : Cells × S → Type 0 = λ c. ComesTo m s t k c o z in
    subst Q (sym (scanned_then ask pass k a b n g u)) (subst P e f)

-- one more word of a stripe
abbrev pub rows_in : Cells → ℕ → ℕ
rows_in g s = min 4 (g.height - 4 * s)

abbrev pub words_in : Cells → ℕ → ℕ → ℕ
words_in g s t = min (8 * t) g.width * rows_in g s

words_room : (w h t s rows : ℕ) → 4 * s < h → rows ≡ min 4 (h - 4 * s) → 4 * s * w + min (8 * t) w * rows ≤ w * h
words_room w h t s rows l r =
    let a = mul-le-mul_right {m = min (8 * t) w} {n = w} rows (omega arith) in
    let b = mul-le-mul_left {m = 4 * s + rows} {n = h} w (omega arith) in
    omega arith

pub words_after : {S : Type 0} (ask : S → Question → Bool × S) (pass : ℕ) (k : Plane) (s t : ℕ) (g : Cells) (u : S) → IsNow k g → 4 * s < g.height
    → IsAfter k g (told ask (scanned pass k (words_in g s t) (4 * s * g.width) g) u).0
words_after ask pass k s t g u w l = scan_after ask pass k (words_in g s t) (4 * s * g.width) g u w (words_room g.width g.height t s (rows_in g s) l refl)

next_word : (w t rows : ℕ) → min (8 * t) w * rows + min 8 (w - 8 * t) * rows ≡ min (8 * (t + 1)) w * rows
next_word w t rows =
    let e : min (8 * t) w + min 8 (w - 8 * t) ≡ min (8 * (t + 1)) w = omega arith in
    let d : min (8 * t) w * rows + min 8 (w - 8 * t) * rows ≡ (min (8 * t) w + min 8 (w - 8 * t)) * rows = omega arith in
    d ∙ ap (λ (n : ℕ). n * rows) e

pass_scanned : {S : Type 0} (ask : S → Question → Bool × S) (pass : ℕ) (k : Plane) (x y rows : ℕ) (f g : Cells) (s : S) → IsNow k g
    → g.width ≡ f.width → g.height ≡ f.height → IsStripe f y rows
    → told ask (word_pass pass k x y g) s ≡ told ask (scanned pass k (min 8 (f.width - x) * rows) (first_of f x y rows) g) s
unfolding word_pass
pass_scanned ask pass k x y rows f g s w a b d = word_scanned ask pass k x y rows f g s w a b d

pub group_walked : {S : Type 0} (ask : S → Question → Bool × S) (pass : ℕ) (k : Plane) (m s t : ℕ) (g : Cells) (b o : BlockWords) (u v z : S)
    → IsNow k g → 8 * t < g.width → 4 * s < g.height
    → ComesTo m s t k (told ask (scanned pass k (words_in g s t) (4 * s * g.width) g) u) b v
    → ((h : Cells) → IsAfter k g h → IsMidway m s t k h b → ComesTo m s (t + 1) k (told ask (word_pass pass k (8 * t) (4 * s) h) v) o z)
    → ComesTo m s (t + 1) k (told ask (scanned pass k (words_in g s (t + 1)) (4 * s * g.width) g) u) o z
group_walked {S = S} ask pass k m s t g b o u v z w l q e f =
    let rows : ℕ = rows_in g s in
    let n : ℕ = 4 * s * g.width in
    let h : Cells = (told ask (scanned pass k (words_in g s t) n g) u).0 in
    let r = words_after ask pass k s t g u w q in
    let d : IsStripe g (4 * s) rows = record { first = omega arith; row = q; count = refl } in
    let c = f h r e.block in
    let P : Cells × S → Type 0 = λ y. ComesTo m s (t + 1) k y o z in
    let x : min (8 * t) g.width ≡ 8 * t = omega arith in
    let at : first_of g (8 * t) (4 * s) rows ≡ n + words_in g s t = ap (λ (y : ℕ). n + y * rows) (sym x) in
    let Q : ℕ → Type 0 = λ y. ComesTo m s (t + 1) k (told ask (scanned pass k (min 8 (g.width - 8 * t) * rows) y h) v) o z in
    let R : ℕ → Type 0 = λ y. ComesTo m s (t + 1) k (told ask (scanned pass k y n g) u) o z in
    subst R (next_word g.width t rows)
    (comes_then ask pass k m s (t + 1) (words_in g s t) (min 8 (g.width - 8 * t) * rows) n g o u v z e.source
    (subst Q at (subst P (pass_scanned ask pass k (8 * t) (4 * s) rows g h v r.now r.width r.height d) c)))

pub words_none : {S : Type 0} (ask : S → Question → Bool × S) (pass : ℕ) (k : Plane) (m s : ℕ) (g : Cells) (b : BlockWords) (u : S) → IsMidway m s 0 k g b
    → ComesTo m s 0 k (told ask (scanned pass k (words_in g s 0) (4 * s * g.width) g) u) b u
words_none {S = S} ask pass k m s g b u h =
    let e : min (8 * 0) g.width ≡ 0 = omega arith in
    let d : 0 * rows_in g s ≡ 0 = omega arith in
    let R : ℕ → Type 0 = λ y. ComesTo m s 0 k (told ask (scanned pass k y (4 * s * g.width) g) u) b u in
    subst R (sym (ap (λ (y : ℕ). y * rows_in g s) e ∙ d)) (record { block = h; source = refl })

-- all words of a stripe
pub stripe_done : {S : Type 0} (ask : S → Question → Bool × S) (pass : ℕ) (k : Plane) (m s t : ℕ) (g : Cells) (b : BlockWords) (u v : S) → IsNow k g → 4 * s < g.height
    → t ≡ (g.width + 7) / 8
    → ComesTo m s t k (told ask (scanned pass k (words_in g s t) (4 * s * g.width) g) u) b v
    → ComesTo m (s + 1) 0 k (told ask (scanned pass k (g.width * min 4 (g.height - 4 * s)) (4 * s * g.width) g) u) b v
stripe_done {S = S} ask pass k m s t g b u v w l q e =
    let h : Cells = (told ask (scanned pass k (words_in g s t) (4 * s * g.width) g) u).0 in
    let r = words_after ask pass k s t g u w l in
    let d : min (8 * t) g.width ≡ g.width = omega arith in
    let R : ℕ → Type 0 = λ y. ComesTo m (s + 1) 0 k (told ask (scanned pass k (y * rows_in g s) (4 * s * g.width) g) u) b v in
    subst R d (record {
      block = record { drawn = e.block.drawn; visited = stripe_visited m k.number s t h b (q ∙ ap (λ (y : ℕ). (y + 7) / 8) (sym r.width)) e.block.visited };
      source = e.source;
    })

-- one more stripe
abbrev pub stripes_in : Cells → ℕ → ℕ
stripes_in g s = g.width * min (4 * s) g.height

pub stripes_after : {S : Type 0} (ask : S → Question → Bool × S) (pass : ℕ) (k : Plane) (s : ℕ) (g : Cells) (u : S) → IsNow k g
    → IsAfter k g (told ask (scanned pass k (stripes_in g s) 0 g) u).0
stripes_after ask pass k s g u w =
    let d = mul-le-mul_left {m = min (4 * s) g.height} {n = g.height} g.width (omega arith) in
    scan_after ask pass k (stripes_in g s) 0 g u w (omega arith)

stripe_first : (w h q : ℕ) → 4 * q < h → 4 * q * w ≡ 0 + w * min (4 * q) h
stripe_first w h q l = let e : min (4 * q) h ≡ 4 * q = omega arith in rw e (omega arith)

stripe_last : (w h q : ℕ) → w * min (4 * q) h + w * min 4 (h - 4 * q) ≡ w * min (4 * (q + 1)) h
stripe_last w h q =
    let e : min (4 * q) h + min 4 (h - 4 * q) ≡ min (4 * (q + 1)) h = omega arith in
    let d : w * min (4 * q) h + w * min 4 (h - 4 * q) ≡ w * (min (4 * q) h + min 4 (h - 4 * q)) = omega arith in
    d ∙ ap (λ (z : ℕ). w * z) e

pub stripe_walked : {S : Type 0} (ask : S → Question → Bool × S) (pass : ℕ) (k : Plane) (m s : ℕ) (g : Cells) (b o : BlockWords) (u v z : S)
    → IsNow k g → 4 * s < g.height
    → ComesTo m s 0 k (told ask (scanned pass k (stripes_in g s) 0 g) u) b v
    → ((h : Cells) → IsAfter k g h → IsMidway m s 0 k h b
    → ComesTo m (s + 1) 0 k (told ask (scanned pass k (h.width * min 4 (h.height - 4 * s)) (4 * s * h.width) h) v) o z)
    → ComesTo m (s + 1) 0 k (told ask (scanned pass k (stripes_in g (s + 1)) 0 g) u) o z
stripe_walked {S = S} ask pass k m s g b o u v z w l e f =
    let a : ℕ = stripes_in g s in
    let h : Cells = (told ask (scanned pass k a 0 g) u).0 in
    let r = stripes_after ask pass k s g u w in
    let c : h.width * min 4 (h.height - 4 * s) ≡ g.width * min 4 (g.height - 4 * s) =
    ap (λ (y : ℕ). y * min 4 (h.height - 4 * s)) r.width ∙ ap (λ (y : ℕ). g.width * min 4 (y - 4 * s)) r.height in
    let d : 4 * s * h.width ≡ 0 + a = ap (λ (y : ℕ). 4 * s * y) r.width ∙ stripe_first g.width g.height s l in
    let P : ℕ → Type 0 = λ y. ComesTo m (s + 1) 0 k (told ask (scanned pass k y (4 * s * h.width) h) v) o z in
    let Q : ℕ → Type 0 = λ y. ComesTo m (s + 1) 0 k (told ask (scanned pass k (g.width * min 4 (g.height - 4 * s)) y h) v) o z in
    let R : ℕ → Type 0 = λ y. ComesTo m (s + 1) 0 k (told ask (scanned pass k y 0 g) u) o z in
    subst R (stripe_last g.width g.height s)
    (comes_then ask pass k m (s + 1) 0 a (g.width * min 4 (g.height - 4 * s)) 0 g o u v z e.source (subst Q d (subst P c (f h r e.block))))

pub stripes_none : {S : Type 0} (ask : S → Question → Bool × S) (pass : ℕ) (k : Plane) (m : ℕ) (g : Cells) (b : BlockWords) (u : S) → IsMidway m 0 0 k g b
    → ComesTo m 0 0 k (told ask (scanned pass k (stripes_in g 0) 0 g) u) b u
stripes_none {S = S} ask pass k m g b u h =
    let e : min (4 * 0) g.height ≡ 0 = omega arith in
    let d : g.width * 0 ≡ 0 = omega arith in
    let R : ℕ → Type 0 = λ y. ComesTo m 0 0 k (told ask (scanned pass k y 0 g) u) b u in
    subst R (sym (ap (λ (y : ℕ). g.width * y) e ∙ d)) (record { block = h; source = refl })

-- all of them: one more pass of the plane went over the block
pub stripes_done : {S : Type 0} (ask : S → Question → Bool × S) (pass : ℕ) (k : Plane) (m s : ℕ) (g : Cells) (b : BlockWords) (u v : S) → IsNow k g → g.height ≤ 4 * s
    → ComesTo m s 0 k (told ask (scanned pass k (stripes_in g s) 0 g) u) b v
    → ComesTo (m + 1) 0 0 k (told ask (scanned pass k (g.width * g.height) 0 g) u) b v
stripes_done {S = S} ask pass k m s g b u v w l e =
    let h : Cells = (told ask (scanned pass k (stripes_in g s) 0 g) u).0 in
    let r = stripes_after ask pass k s g u w in
    let d : min (4 * s) g.height ≡ g.height = omega arith in
    let R : ℕ → Type 0 = λ y. ComesTo (m + 1) 0 0 k (told ask (scanned pass k (g.width * y) 0 g) u) b v in
    let n : suc m ≡ m + 1 = omega arith in
    let all = block_visited m k.number s h b (let c = r.height in omega arith) e.block.visited in
    subst R d (record {
      block = record { drawn = e.block.drawn; visited = subst (λ (y : ℕ). AreVisited y k.number 0 0 h b) n all };
      source = e.source;
    })
