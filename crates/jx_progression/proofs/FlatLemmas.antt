-- Lists of lists, joined.
use Rattle.std.proofs.Common.{◌≡◌, ℕ, suc, zero, ◌+◌, ◌<◌, List, [], ◌∷◌, ◌++◌, inl, inr, ◌∙◌, ap, sym, subst, arith, append_assoc, append-nil, length, take, get_or}
use Rattle.std.proofs.lemmas.List.Elements.{Contains-append_left, Contains-append_right, Contains-append_cases}
use Rattle.std.specs.List.{AllPairs, Contains, flat_map}
use Rattle.jx_base.proofs.Lists.{contains_cons, contains_head, contains_tail, contains_none, pairs_append, pairs_head, pairs_tail}

pub flat_has : {X A : Type 0} (f : X → List A) (xs : List X) (a : A) → Contains (flat_map f xs) a → (x : X) × Contains xs x × Contains (f x) a
flat_has f [] a h = absurd (contains_none a h)
flat_has f (x ∷ xs) a h = elim (Contains-append_cases (f x) (flat_map f xs) a h) [
  | inl here ↦ (x, contains_head x xs, here)
  | inr rest ↦ let r = flat_has f xs a rest in (r.0, contains_tail x xs r.0 r.1, r.2)
]

pub flat_from : {X A : Type 0} (f : X → List A) (xs : List X) (x : X) (a : A) → Contains xs x → Contains (f x) a → Contains (flat_map f xs) a
flat_from f [] x a h c = absurd (contains_none x h)
flat_from {X} {A} f (y ∷ xs) x a h c = elim (contains_cons y xs x h) [
  | inl same ↦
      let P : X → Type 0 = λ z. Contains (f z) a in
      Contains-append_left (f y) (flat_map f xs) a (subst P (sym same) c)
  | inr rest ↦ Contains-append_right (f y) (flat_map f xs) a (flat_from f xs x a rest c)
]

pub flat_pairs : {X A : Type 0} (R : X → X → Type 0) (S : A → A → Type 0) (f : X → List A) (xs : List X) → AllPairs R xs
    → ((x : X) → Contains xs x → AllPairs S (f x))
    → ((x y : X) (a b : A) → Contains xs x → Contains xs y → R x y → Contains (f x) a → Contains (f y) b → S a b) → AllPairs S (flat_map f xs)
flat_pairs R S f [] pairs each across = λ i j d lt below. absurd (omega arith)
flat_pairs R S f (x ∷ xs) pairs each across =
    pairs_append S (f x) (flat_map f xs) (each x (contains_head x xs))
    (flat_pairs R S f xs (pairs_tail R x xs pairs) (λ y h. each y (contains_tail x xs y h))
    (λ y z a b hy hz r ca cb. across y z a b (contains_tail x xs y hy) (contains_tail x xs z hz) r ca cb))
    (λ a b ca cb.
    (let r = flat_has f xs b cb in
    across x r.0 a b (contains_head x xs) (contains_tail x xs r.0 r.1) (pairs_head R x xs r.0 pairs r.1) ca r.2))

-- a list of lists joined, with one more
pub flat_next : {X A : Type 0} (f : X → List A) (xs : List X) (i : ℕ) (d : X) → i < length xs
    → flat_map f (take (i + 1) xs) ≡ flat_map f (take i xs) ++ f (get_or xs i d)
flat_next f [] i d lt = absurd (omega arith)
flat_next f (x ∷ xs) zero d lt = append-nil (f x)
flat_next f (x ∷ xs) (suc i) d lt =
    let e : suc i + 1 ≡ suc (i + 1) = omega arith in
    ap (λ n. flat_map f (take n (x ∷ xs))) e ∙ ap (λ zs. f x ++ zs) (flat_next f xs i d (omega arith)) ∙ sym (append_assoc (f x) (flat_map f (take i xs)) (f (get_or xs i d)))
