-- Loops in loops: what they run through is sorted by their numbers, the outermost first.
use Rattle.std.proofs.Common.{◌≡◌, ℕ, zero, suc, ◌+◌, ◌≤◌, ◌<◌, List, [], ◌∷◌, ◌++◌, inl, inr, ◌⊎◌, refl, arith, sym, subst, ◌∙◌, add-one, get_or, Bool, true, false, cond}
use Rattle.std.specs.List.{AllPairs, Contains, filter}
use Rattle.std.proofs.lemmas.Bool.{cases_lt}
use Rattle.std.proofs.lemmas.List.Elements.{Contains-get_or}
use Rattle.jx_base.specs.Joined.{joined, JoinedAt}
use Rattle.jx_base.proofs.Joined.{joined_none, joined_next, joined_has}
use Rattle.jx_base.proofs.Lists.{pairs_append, contains_cons, contains_head, contains_tail, contains_none}
use Rattle.jx_progression.specs.declared.names.PacketName.{PacketName}
use Rattle.jx_progression.specs.Orders.{IsLess}

-- ---- pairs of a joined list
no_pairs : {X : Type 0} (R : X → X → Type 0) (xs : List X) → xs ≡ [] → AllPairs R xs
no_pairs {X} R xs e = subst (λ (ys : List X). AllPairs R ys) (sym e) (λ i j d lt below. absurd (omega arith))

ranged_pairs : {X : Type 0} (R : X → X → Type 0) (f : ℕ → List X) (a b : ℕ) → ((i : ℕ) → a ≤ i → i < b → AllPairs R (f i))
    → ((i j : ℕ) (x y : X) → a ≤ i → i < j → j < b → Contains (f i) x → Contains (f j) y → R x y) → AllPairs R (joined f a b)
ranged_pairs R f a zero each across = no_pairs R (joined f a zero) (joined_none f a zero (omega arith))
ranged_pairs {X} R f a (suc b) each across = elim (cases_lt b a) [
  | inl none ↦ no_pairs R (joined f a (suc b)) (joined_none f a (suc b) (omega arith))
  | inr some ↦
      let next : joined f a (b + 1) ≡ joined f a b ++ f b = joined_next f a b some in
      let next' : joined f a (suc b) ≡ joined f a b ++ f b = rw add-one at next in
      subst (λ (ys : List X). AllPairs R ys) (sym next')
      (pairs_append R (joined f a b) (f b)
      (ranged_pairs R f a b (λ i ha hb. each i ha (omega arith)) (λ i j x y ha lt hb hx hy. across i j x y ha lt (omega arith) hx hy))
      (each b some (omega arith))
      (λ x y hx hy. (let d : JoinedAt f a b x = joined_has f a b x hx in across d.number b x y d.from d.below (omega arith) d.has hy)))
]

abbrev pub Sorted : (PacketName → List ℕ) → List PacketName → Type 0
Sorted key xs = AllPairs (λ (p q : PacketName). IsLess (key p) (key q)) xs

same_first : (num : PacketName → ℕ) (rest : PacketName → List ℕ) (i : ℕ) (xs : List PacketName) → ((p : PacketName) → Contains xs p → num p ≡ i) → Sorted rest xs
    → Sorted (λ (p : PacketName). num p ∷ rest p) xs
same_first num rest i xs is sorted = λ m n d lt below.
    inr (is (get_or xs m d) (Contains-get_or xs m d (omega arith)) ∙ sym (is (get_or xs n d) (Contains-get_or xs n d below)), sorted m n d lt below)

pub nest : (num : PacketName → ℕ) (rest : PacketName → List ℕ) (f : ℕ → List PacketName) (a b : ℕ) → ((i : ℕ) → a ≤ i → i < b → (p : PacketName) → Contains (f i) p → num p ≡ i)
    → ((i : ℕ) → a ≤ i → i < b → Sorted rest (f i)) → Sorted (λ (p : PacketName). num p ∷ rest p) (joined f a b)
nest num rest f a b is each =
    ranged_pairs (λ (p q : PacketName). IsLess (num p ∷ rest p) (num q ∷ rest q)) f a b
    (λ i ha hb. same_first num rest i (f i) (is i ha hb) (each i ha hb))
    (λ i j p q ha lt hb hp hq. inl (
    let ep : num p ≡ i = is i ha (omega arith) p hp in
    let eq : num q ≡ j = is j (omega arith) hb q hq in
    omega arith))

pub one_sorted_packet : (key : PacketName → List ℕ) (p : PacketName) → Sorted key (p ∷ [])
one_sorted_packet key p = λ i j d lt below. absurd (omega arith)

-- ---- what a filter keeps
pub kept_to : (test : PacketName → Bool) (xs : List PacketName) (p : PacketName) → Contains (filter test xs) p → Contains xs p × (test p ≡ true)
kept_to test [] p h = absurd (contains_none p h)
kept_to test (x ∷ xs) p h = by (λ k. kept_to test xs p k) (test x) refl h
  where
    wider : Contains xs p × (test p ≡ true) → Contains (x ∷ xs) p × (test p ≡ true)
    wider k = (contains_tail x xs p k.0, k.1)

    here : test x ≡ true → x ≡ p → Contains (x ∷ xs) p × (test p ≡ true)
    here e same = (subst (λ (q : PacketName). Contains (x ∷ xs) q) same (contains_head x xs), subst (λ (q : PacketName). test q ≡ true) same e)

    by : (Contains (filter test xs) p → Contains xs p × (test p ≡ true)) → (b : Bool) → test x ≡ b → Contains (cond b (x ∷ filter test xs) (filter test xs)) p
        → Contains (x ∷ xs) p × (test p ≡ true)
    by again true e k = elim (contains_cons x (filter test xs) p k) [ inl same ↦ here e same | inr rest ↦ wider (again rest) ]
    by again false e k = wider (again k)

pub kept_from : (test : PacketName → Bool) (xs : List PacketName) (p : PacketName) → Contains xs p → test p ≡ true → Contains (filter test xs) p
kept_from test [] p h t = absurd (contains_none p h)
kept_from test (x ∷ xs) p h t = by (λ k. kept_from test xs p k t) (test x) refl (contains_cons x xs p h)
  where
    by : (Contains xs p → Contains (filter test xs) p) → (b : Bool) → test x ≡ b → (x ≡ p) ⊎ Contains xs p → Contains (cond b (x ∷ filter test xs) (filter test xs)) p
    by again true e (inl same) = subst (λ (q : PacketName). Contains (x ∷ filter test xs) q) same (contains_head x (filter test xs))
    by again true e (inr rest) = contains_tail x (filter test xs) p (again rest)
    by again false e (inl same) = absurd (let f : test p ≡ false = subst (λ (q : PacketName). test q ≡ false) same e in let g : true ≡ false = sym t ∙ f in cc)
    by again false e (inr rest) = again rest
