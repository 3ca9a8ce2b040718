-- Sums of sizes: the running sums of a core, and the sizes of a stretch of numbers.
use Rattle.std.proofs.Common.{◌≡◌, ℕ, zero, suc, ◌+◌, ◌-◌, ◌<◌, ◌≤◌, List, [], ◌∷◌, ◌++◌, length, get_or, take, drop, refl, sym, ap, ◌∙◌, arith}
use Rattle.std.specs.Prelude.{Some, slice_get}
use Rattle.std.specs.List.{sum}
use Rattle.std.proofs.Math.Seq.{take-suc}
use Rattle.std.proofs.lemmas.Option.{same_Some}
use Rattle.std.proofs.lemmas.List.Sums.{sum_by-cons, sum_by_more}
use Rattle.jx_store.specs.Setup.{Setup, load}
use Rattle.jx_store.specs.Sums.{sums_from, gaps_from, items_of}

gaps_of_sums : (a b : ℕ) (xs : List ℕ) → gaps_from a (sums_from (a + b) xs) ≡ b ∷ xs
gaps_of_sums a b [] = (let e : a + b - a ≡ b = omega arith in ap (λ (x : ℕ). x ∷ []) e)
gaps_of_sums a b (x ∷ xs) = (let e : a + b - a ≡ b = omega arith in ap (λ (y : ℕ). y ∷ gaps_from (a + b) (sums_from (a + b + x) xs)) e ∙ ap (λ (l : List ℕ). b ∷ l) (gaps_of_sums (a + b) x xs))

-- the items of running sums
pub items_of_sums : (a : ℕ) (xs : List ℕ) → items_of (sums_from a xs) ≡ xs
items_of_sums a [] = refl
items_of_sums a (x ∷ xs) = gaps_of_sums a x xs

pub sums_push : (a : ℕ) (xs : List ℕ) (x : ℕ) → sums_from a (xs ++ x ∷ []) ≡ sums_from a xs ++ (a + sum xs + x) ∷ []
sums_push a [] x = (let e : a + x ≡ a + sum [] + x = omega arith in ap (λ (y : ℕ). a ∷ y ∷ []) e)
sums_push a (y ∷ ys) x = (let c = sum_by-cons (λ (y : ℕ). y) y ys in let e : a + y + sum ys + x ≡ a + sum (y ∷ ys) + x = omega (arith, c) in ap (λ (l : List ℕ). a ∷ l) (sums_push (a + y) ys x ∙ ap (λ (z : ℕ). sums_from (a + y) ys ++ z ∷ []) e))

pub sums_at : (a : ℕ) (xs : List ℕ) (i : ℕ) → i ≤ length xs → slice_get (sums_from a xs) i ≡ Some (a + sum (take i xs))
sums_at a [] zero le = ap Some (omega arith)
sums_at a [] (suc i) le = absurd (omega arith)
sums_at a (x ∷ xs) zero le = ap Some (omega arith)
sums_at a (x ∷ xs) (suc i) le = (let c = sum_by-cons (λ (y : ℕ). y) x (take i xs) in sums_at (a + x) xs i (omega arith) ∙ ap Some (omega (arith, c)))

pub sums_length : (a : ℕ) (xs : List ℕ) → length (sums_from a xs) ≡ length xs + 1
sums_length a [] = refl
sums_length a (x ∷ xs) = (let below = sums_length (a + x) xs in omega (arith, below))

pub sum_stretch : (xs : List ℕ) (i n : ℕ) → sum (take i xs) + sum (take n (drop i xs)) ≡ sum (take (i + n) xs)
sum_stretch xs zero n = (let e : 0 + n ≡ n = omega arith in let z : sum (take 0 xs) ≡ 0 = refl in let w : sum (take n (drop 0 xs)) ≡ sum (take n xs) = refl in rw e (omega (arith, z, w)))
sum_stretch [] (suc i) zero = (let e : suc i + 0 ≡ suc i = omega arith in rw e refl)
sum_stretch [] (suc i) (suc n) = (let e : suc i + suc n ≡ suc (i + suc n) = omega arith in rw e refl)
sum_stretch (x ∷ xs) (suc i) n = (let below = sum_stretch xs i n in let a = sum_by-cons (λ (y : ℕ). y) x (take i xs) in let b = sum_by-cons (λ (y : ℕ). y) x (take (i + n) xs) in let e : suc i + n ≡ suc (i + n) = omega arith in rw e (omega (arith, below, a, b)))

-- a load is a difference of two running sums
pub load_is : (p : Setup) (a b : ℕ) → p.first ≤ a → a ≤ b → sum (take (a - p.first) p.sizes) + load p a b ≡ sum (take (b - p.first) p.sizes)
load_is p a b low le = sum_stretch p.sizes (a - p.first) (b - a) ∙ (let e : a - p.first + (b - a) ≡ b - p.first = omega arith in ap (λ (i : ℕ). sum (take i p.sizes)) e)

sum_more : (xs : List ℕ) (i : ℕ) → sum (take i xs) ≤ sum (take (i + 1) xs)
sum_more xs zero = omega arith
sum_more [] (suc i) = omega arith
sum_more (x ∷ xs) (suc i) = (let below = sum_more xs i in let a = sum_by-cons (λ (y : ℕ). y) x (take i xs) in let b = sum_by-cons (λ (y : ℕ). y) x (take (i + 1) xs) in let e : suc i + 1 ≡ suc (i + 1) = omega arith in rw e (omega (arith, below, a, b)))

-- without its first number a stretch weighs no more
pub load_rest : (p : Setup) (a b : ℕ) → p.first ≤ a → a < b → load p (a + 1) b ≤ load p a b
load_rest p a b low lt =
    let one = load_is p a b low (omega arith) in
    let two = load_is p (a + 1) b (omega arith) (omega arith) in
    let e : a + 1 - p.first ≡ a - p.first + 1 = omega arith in
    let same = ap (λ (i : ℕ). sum (take i p.sizes)) e in
    let more = sum_more p.sizes (a - p.first) in
    omega (arith, one, two, same, more)

-- a load read off the running sums x and y
pub load_read : (p : Setup) (a b x y : ℕ) → p.first ≤ a → a ≤ b → b ≤ p.first + length p.sizes
    → slice_get (sums_from 0 p.sizes) (b - p.first) ≡ Some x → slice_get (sums_from 0 p.sizes) (a - p.first) ≡ Some y → y + load p a b ≡ x
load_read p a b x y low le high atx aty =
    let ex : 0 + sum (take (b - p.first) p.sizes) ≡ x = same_Some _ _ (sym (sums_at 0 p.sizes (b - p.first) (omega arith)) ∙ atx) in
    let ey : 0 + sum (take (a - p.first) p.sizes) ≡ y = same_Some _ _ (sym (sums_at 0 p.sizes (a - p.first) (omega arith)) ∙ aty) in
    let l = load_is p a b low le in
    omega (arith, l, ex, ey)

pub sums_long : (xs sums : List ℕ) → sums ≡ sums_from 0 xs → length sums ≡ length xs + 1
sums_long xs sums e = ap length e ∙ sums_length 0 xs

take_next : (xs : List ℕ) (i d : ℕ) → i < length xs → take (i + 1) xs ≡ take i xs ++ get_or xs i d ∷ []
take_next xs i d lt = (let e : i + 1 ≡ suc i = omega arith in rw e (take-suc xs i d lt))

-- one item more of a list that is summed up
pub sums_grow : (xs sums : List ℕ) (i x d : ℕ) → i < length xs → x ≡ get_or xs i d → sums ≡ sums_from 0 (take i xs) → sums ++ (sum (take i xs) + x) ∷ [] ≡ sums_from 0 (take (i + 1) xs)
sums_grow xs sums i x d lt at is =
    let more : take (i + 1) xs ≡ take i xs ++ x ∷ [] = take_next xs i d lt ∙ ap (λ (y : ℕ). take i xs ++ y ∷ []) (sym at) in
    let z : 0 + sum (take i xs) + x ≡ sum (take i xs) + x = omega arith in
    ap (λ (l : List ℕ). l ++ (sum (take i xs) + x) ∷ []) is
    ∙ sym (ap (sums_from 0) more ∙ sums_push 0 (take i xs) x ∙ ap (λ (y : ℕ). sums_from 0 (take i xs) ++ y ∷ []) z)

pub total_grow : (xs : List ℕ) (i x d : ℕ) → i < length xs → x ≡ get_or xs i d → sum (take (i + 1) xs) ≡ sum (take i xs) + x
total_grow xs i x d lt at = sum_by_more (λ (y : ℕ). y) xs i d lt ∙ ap (λ (y : ℕ). sum (take i xs) + y) (sym at)
