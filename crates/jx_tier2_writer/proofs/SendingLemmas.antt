-- What is sent of a precinct.
use Rattle.std.proofs.Common.{◌≡◌, ℕ, zero, suc, ◌+◌, ◌<◌, List, [], ◌∷◌, ◌++◌, length, map, refl, sym, ap, ◌∙◌, subst, arith}
use Rattle.std.specs.Global.{Vec}
use Rattle.std.specs.List.{range_with_len}
use Rattle.std.proofs.lemmas.List.Elements.{All-from_recursion}
use Rattle.std.proofs.lemmas.List.FromFn.{length-map-range_with_len}
use Rattle.jx_base.specs.Joined.{joined}
use Rattle.jx_base.proofs.Joined.{joined_next}
use Rattle.jx_tier2_writer.specs.BlockParts.{AreBlockParts, IsBlockPart, row_at, rows_of}
use Rattle.jx_tier2_writer.specs.Sendings.{no_part}
use Rattle.jx_tier2_writer.specs.Silent.{empty_header}
use Rattle.jx_tier2_writer.specs.declared.block_parts.BlockPart.{BlockPart}

pub none_more : (vecs : List (Vec BlockPart)) (v : Vec BlockPart) → v.items ≡ [] → ((l : ℕ) → row_at (rows_of vecs) l ≡ []) → (l : ℕ) → row_at (rows_of (vecs ++ v ∷ [])) l ≡ []
none_more [] v none before zero = none
none_more [] v none before (suc l) = refl
none_more (w ∷ vecs) v none before zero = before 0
none_more (w ∷ vecs) v none before (suc l) = none_more vecs v none (λ i. before (suc i)) l

-- the bytes of one leaf more
pub bytes_next : (f : ℕ → List ℕ) (old new last : List ℕ) (n : ℕ) → new ≡ old ++ last → old ≡ joined f 0 n → last ≡ f n → new ≡ joined f 0 (n + 1)
bytes_next f old new last n made before is =
    made ∙ ap (λ (xs : List ℕ). xs ++ last) before ∙ ap (λ (xs : List ℕ). joined f 0 n ++ xs) is ∙ sym (joined_next f 0 n (omega arith))

pub none_sent : (datas : List (List ℕ)) (row : List BlockPart) → row ≡ [] → AreBlockParts datas row
none_sent datas row none = subst (AreBlockParts datas) (sym none) (All-from_recursion (IsBlockPart datas) [] tt)

-- ---- of a precinct of which no block has a part
same_rows : {X : Type 0} (row : List X) (f : ℕ → List X) (a n l : ℕ) → ((i : ℕ) → f i ≡ row) → l < n → row_at (map f (range_with_len a n)) l ≡ row
same_rows {X} row f a zero l same lt = absurd (omega arith)
same_rows {X} row f a (suc n) zero same lt = same a
same_rows {X} row f a (suc n) (suc l) same lt = same_rows row f (a + 1) n l same (omega arith)

pub silent_header : (n l : ℕ) → l < length (map empty_header (range_with_len 0 n)) → 0 ∷ [] ≡ row_at (map empty_header (range_with_len 0 n)) l
silent_header n l lt =
    let count : length (map empty_header (range_with_len 0 n)) ≡ n = length-map-range_with_len empty_header 0 n in
    sym (same_rows (0 ∷ []) empty_header 0 n l (λ i. refl) (omega (arith, count)))

pub silent_parts : (n l : ℕ) → [] ≡ row_at (map no_part (range_with_len 0 n)) l
silent_parts n l = sym (no_rows 0 n l)
  where
    no_rows : (a n l : ℕ) → row_at (map no_part (range_with_len a n)) l ≡ []
    no_rows a zero l = refl
    no_rows a (suc n) zero = refl
    no_rows a (suc n) (suc l) = no_rows (a + 1) n l

pub silent_long : (n : ℕ) → length (map no_part (range_with_len 0 n)) ≡ n
silent_long n = length-map-range_with_len no_part 0 n
