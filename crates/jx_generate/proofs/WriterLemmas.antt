-- The writers of the precincts, resolution by resolution.
use Rattle.std.proofs.Common.{◌≡◌, ◌∙◌, ℕ, zero, suc, ◌+◌, ◌<◌, List, [], ◌∷◌, ◌++◌, map, refl, sym, ap, arith}
use Rattle.std.specs.Prelude.{slice_set}
use Rattle.std.specs.List.{range_with_len}
use Rattle.std.proofs.lemmas.List.{map-append}
use Rattle.jx_packet_header.specs.Written.{Plan}
use Rattle.jx_generate.specs.Making.{Making, three_made, writers_made}
use Rattle.jx_base.proofs.Lists.{range_push}

abbrev pub Three : Type 0
Three = Plan × Plan × Plan

abbrev pub fresh : Making → ℕ → Three
fresh m r = three_made m r 0

-- one more resolution
pub one_more : (m : Making) (n : ℕ) (xs ys : List Three) (x : Three) → xs ≡ map (fresh m) (range_with_len 0 n) → x ≡ fresh m n → ys ≡ xs ++ x ∷ [] → ys ≡ map (fresh m) (range_with_len 0 (n + 1))
one_more m n xs ys x was is made =
    let e : 0 + n ≡ n = omega arith in
    made ∙ ap (λ (zs : List Three). zs ++ x ∷ []) was ∙ ap (λ (z : Three). map (fresh m) (range_with_len 0 n) ++ z ∷ []) is
    ∙ sym (ap (map (fresh m)) (range_push 0 n) ∙ map-append (fresh m) (range_with_len 0 n) ((0 + n) ∷ []) ∙ ap (λ (k : ℕ). map (fresh m) (range_with_len 0 n) ++ fresh m k ∷ []) e)

-- the packets of one more resolution were written
set_next : (m : Making) (layer n : ℕ) → n < 6 → slice_set (writers_made m layer n) n (three_made m n (layer + 1)) ≡ writers_made m layer (n + 1)
set_next m layer zero lt = refl
set_next m layer (suc zero) lt = refl
set_next m layer (suc (suc zero)) lt = refl
set_next m layer (suc (suc (suc zero))) lt = refl
set_next m layer (suc (suc (suc (suc zero)))) lt = refl
set_next m layer (suc (suc (suc (suc (suc zero))))) lt = refl
set_next m layer (suc (suc (suc (suc (suc (suc n)))))) lt = absurd (omega arith)

pub moved : (m : Making) (layer n place : ℕ) (xs : List Three) (x : Three) → n < 6 → place ≡ n → xs ≡ writers_made m layer n → x ≡ three_made m n (layer + 1) → slice_set xs place x ≡ writers_made m layer (n + 1)
moved m layer n place xs x lt at was is =
    ap (λ (ys : List Three). slice_set ys place x) was ∙ ap (λ (k : ℕ). slice_set (writers_made m layer n) k x) at ∙ ap (slice_set (writers_made m layer n) n) is ∙ set_next m layer n lt
