-- Lists that a loop makes one item after another.
use Rattle.std.proofs.Common.{◌≡◌, ◌∙◌, ℕ, ◌+◌, List, [], ◌∷◌, ◌++◌, map, sym, ap, arith, append_assoc, append-nil}
use Rattle.std.specs.List.{range_with_len}
use Rattle.std.proofs.lemmas.List.{map-append}
use Rattle.jx_base.specs.Joined.{joined}
use Rattle.jx_base.proofs.Joined.{appends_next, appends_none}
use Rattle.jx_base.proofs.Lists.{range_push}

-- the next item of a list that is made by numbers
pub next_made : {X Y : Type 0} (view : X → Y) (f : ℕ → Y) (xs ys : List X) (n : ℕ) (x : X) → map view xs ≡ map f (range_with_len 0 n) → view x ≡ f n → ys ≡ xs ++ x ∷ []
    → map view ys ≡ map f (range_with_len 0 (n + 1))
next_made {X} {Y} view f xs ys n x before is made =
    ap (map view) made ∙ map-append view xs (x ∷ []) ∙ ap (λ (zs : List Y). zs ++ view x ∷ []) before ∙ ap (λ (z : Y). map f (range_with_len 0 n) ++ z ∷ []) is
    ∙ sym (ap (map f) (range_push 0 n) ∙ map-append f (range_with_len 0 n) ((0 + n) ∷ []) ∙ (let e : 0 + n ≡ n = omega arith in ap (λ (m : ℕ). map f (range_with_len 0 n) ++ f m ∷ []) e))

-- three lists are appended
pub three_put : (f : ℕ → List ℕ) (a b c d : List ℕ) → b ≡ a ++ f 0 → c ≡ b ++ f 1 → d ≡ c ++ f 2 → d ≡ a ++ joined f 0 3
three_put f a b c d one two three =
    let none : a ≡ a ++ joined f 0 0 = appends_none a f 0 0 (omega arith) in
    let first : b ≡ a ++ joined f 0 1 = appends_next a a b f 0 0 (omega arith) none one in
    let second : c ≡ a ++ joined f 0 2 = appends_next a b c f 0 1 (omega arith) first two in
    appends_next a c d f 0 2 (omega arith) second three

pub three_appended : (a b c d x y z : List ℕ) → b ≡ a ++ x → c ≡ b ++ y → d ≡ c ++ z → d ≡ a ++ (x ++ (y ++ (z ++ [])))
three_appended a b c d x y z one two three =
    three ∙ ap (λ (xs : List ℕ). xs ++ z) (two ∙ ap (λ (xs : List ℕ). xs ++ y) one) ∙ append_assoc (a ++ x) y z ∙ append_assoc a x (y ++ z)
    ∙ ap (λ (xs : List ℕ). a ++ (x ++ (y ++ xs))) (sym (append-nil z))

-- a file piece by piece
pub file_put : (a b c d out s z m p e : List ℕ) → a ≡ [] → b ≡ a ++ (s ++ z) → c ≡ b ++ m → d ≡ c ++ p → out ≡ d ++ e → out ≡ s ++ (z ++ (m ++ ((p ++ []) ++ (e ++ []))))
file_put a b c d out s z m p e none one two three four =
    let front : b ≡ s ++ z = one ∙ ap (λ (xs : List ℕ). xs ++ (s ++ z)) none in
    let tail : p ++ e ≡ (p ++ []) ++ (e ++ []) = ap (λ (xs : List ℕ). xs ++ e) (sym (append-nil p)) ∙ ap (λ (xs : List ℕ). (p ++ []) ++ xs) (sym (append-nil e)) in
    four ∙ ap (λ (xs : List ℕ). xs ++ e) (three ∙ ap (λ (xs : List ℕ). xs ++ p) (two ∙ ap (λ (xs : List ℕ). xs ++ m) front))
    ∙ append_assoc ((s ++ z) ++ m) p e ∙ append_assoc (s ++ z) m (p ++ e) ∙ append_assoc s z (m ++ (p ++ e)) ∙ ap (λ (xs : List ℕ). s ++ (z ++ (m ++ xs))) tail
