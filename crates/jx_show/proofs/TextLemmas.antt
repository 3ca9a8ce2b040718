-- Texts of statements, appended one behind another.
use Rattle.std.proofs.Common.{◌≡◌, ◌∙◌, ◌≤◌, ◌+◌, ap, sym, ℕ, Bool, List, ◌++◌, append_assoc, append-nil}
use Rattle.std.proofs.lemmas.Grind.{flat_map-append}
use Rattle.jx_base.specs.Joined.{joined}
use Rattle.jx_base.proofs.Joined.{joined_next, joined_none}
use Rattle.jx_show.specs.Facts.{Statement}
use Rattle.jx_show.specs.Stated.{statement_text, text_of}

pub both : (json : Bool) (xs ys : List Statement) (t0 t1 t2 : List ℕ) → t1 ≡ t0 ++ text_of json xs → t2 ≡ t1 ++ text_of json ys → t2 ≡ t0 ++ text_of json (xs ++ ys)
both json xs ys t0 t1 t2 h1 h2 =
    h2 ∙ (ap (λ (t : List ℕ). t ++ text_of json ys) h1
    ∙ (append_assoc t0 (text_of json xs) (text_of json ys) ∙ ap (λ (t : List ℕ). t0 ++ t) (sym (flat_map-append (statement_text json) xs ys))))

-- the steps of a loop that appends: before the first, and one more
pub none : (json : Bool) (t : List ℕ) (f : ℕ → List Statement) (a b : ℕ) → b ≤ a → t ≡ t ++ text_of json (joined f a b)
none json t f a b h = sym (append-nil t) ∙ ap (λ (xs : List Statement). t ++ text_of json xs) (sym (joined_none f a b h))

pub next : (json : Bool) (t0 t1 t2 : List ℕ) (f : ℕ → List Statement) (a b : ℕ) → a ≤ b → t1 ≡ t0 ++ text_of json (joined f a b) → t2 ≡ t1 ++ text_of json (f b)
    → t2 ≡ t0 ++ text_of json (joined f a (b + 1))
next json t0 t1 t2 f a b h before step =
    both json (joined f a b) (f b) t0 t1 t2 before step ∙ ap (λ (xs : List Statement). t0 ++ text_of json xs) (sym (joined_next f a b h))

pub seven : (json : Bool) (a b c d e f g : List Statement) (t0 t1 t2 t3 t4 t5 t6 t7 : List ℕ) → t1 ≡ t0 ++ text_of json a → t2 ≡ t1 ++ text_of json b → t3 ≡ t2 ++ text_of json c
    → t4 ≡ t3 ++ text_of json d → t5 ≡ t4 ++ text_of json e → t6 ≡ t5 ++ text_of json f → t7 ≡ t6 ++ text_of json g
    → t7 ≡ t0 ++ text_of json (a ++ (b ++ (c ++ (d ++ (e ++ (f ++ g))))))
seven json a b c d e f g t0 t1 t2 t3 t4 t5 t6 t7 h1 h2 h3 h4 h5 h6 h7 =
    let s5 = both json f g t5 t6 t7 h6 h7 in
    let s4 = both json e (f ++ g) t4 t5 t7 h5 s5 in
    let s3 = both json d (e ++ (f ++ g)) t3 t4 t7 h4 s4 in
    let s2 = both json c (d ++ (e ++ (f ++ g))) t2 t3 t7 h3 s3 in
    let s1 = both json b (c ++ (d ++ (e ++ (f ++ g)))) t1 t2 t7 h2 s2 in
    both json a (b ++ (c ++ (d ++ (e ++ (f ++ g))))) t0 t1 t7 h1 s1
