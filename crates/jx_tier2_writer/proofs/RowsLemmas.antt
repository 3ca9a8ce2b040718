-- Rows kept one behind another.
use Rattle.std.proofs.Common.{◌≡◌, ℕ, zero, suc, ◌+◌, ◌-◌, ◌<◌, ◌≤◌, List, [], ◌∷◌, ◌++◌, length, take, drop, refl, ap, ◌∙◌, arith}
use Rattle.std.specs.Prelude.{slice_index_or}
use Rattle.std.proofs.Math.Seq.{drop-append_seam, take-length}
use Rattle.std.proofs.lemmas.List.{take-append-le, drop-append-le, length-append, length-drop}
use Rattle.jx_tier2_writer.specs.Rows.{AreEnds, rows_from}

pub ends_rise : (start stop : ℕ) (ends : List ℕ) → AreEnds start ends stop → start ≤ stop
ends_rise start stop [] e = let same : start ≡ stop = e in omega arith
ends_rise start stop (x ∷ ends) e = let low : start ≤ x = e.0 in let rest : x ≤ stop = ends_rise x stop ends e.1 in omega arith

-- one more row
pub ends_push : (start stop last : ℕ) (ends : List ℕ) → AreEnds start ends stop → stop ≤ last → AreEnds start (ends ++ last ∷ []) last
ends_push start stop last [] e le = let same : start ≡ stop = e in (omega arith, refl)
ends_push start stop last (x ∷ ends) e le = (e.0, ends_push x stop last ends e.1 le)

front_row : {X : Type 0} (start stop : ℕ) (items row : List X) → start ≤ stop → stop ≤ length items
    → take (stop - start) (drop start (items ++ row)) ≡ take (stop - start) (drop start items)
front_row {X} start stop items row low le =
    let long : length (drop start items) ≡ length items - start = length-drop start items in
    ap (λ (xs : List X). take (stop - start) xs) (drop-append-le start items row (omega arith))
    ∙ take-append-le (stop - start) (drop start items) row (omega arith)

last_row : {X : Type 0} (start : ℕ) (items row : List X) → start ≡ length items → take (length (items ++ row) - start) (drop start (items ++ row)) ≡ row
last_row {X} start items row e =
    let long : length (items ++ row) ≡ length items + length row = length-append items row in
    let size : length (items ++ row) - start ≡ length row = omega arith in
    ap (λ (n : ℕ). take n (drop start (items ++ row))) size
    ∙ ap (λ (n : ℕ). take (length row) (drop n (items ++ row))) e
    ∙ ap (λ (xs : List X). take (length row) xs) (drop-append_seam items row)
    ∙ take-length row

pub rows_push : {X : Type 0} (start : ℕ) (ends : List ℕ) (items row : List X) → AreEnds start ends (length items)
    → rows_from start (ends ++ length (items ++ row) ∷ []) (items ++ row) ≡ rows_from start ends items ++ row ∷ []
rows_push {X} start [] items row e = ap (λ (xs : List X). xs ∷ []) (last_row start items row e)
rows_push {X} start (x ∷ ends) items row e =
    let le : x ≤ length items = ends_rise x (length items) ends e.1 in
    ap (λ (xs : List X). xs ∷ rows_from x (ends ++ length (items ++ row) ∷ []) (items ++ row)) (front_row start x items row e.0 le)
    ∙ ap (λ (rest : List (List X)). take (x - start) (drop start items) ∷ rest) (rows_push x ends items row e.1)

-- a row
pub rows_long : {X : Type 0} (start : ℕ) (ends : List ℕ) (items : List X) → length (rows_from start ends items) ≡ length ends
rows_long start [] items = refl
rows_long start (x ∷ ends) items = ap (λ (n : ℕ). suc n) (rows_long x ends items)

pub row_is : {X : Type 0} (start stop : ℕ) (ends : List ℕ) (items : List X) (i : ℕ) → AreEnds start ends stop → i < length ends
    → slice_index_or (rows_from start ends items) i [] ≡ take (slice_index_or ends i 0 - slice_index_or (start ∷ ends) i 0) (drop (slice_index_or (start ∷ ends) i 0) items)
row_is start stop [] items i e lt = absurd (omega arith)
row_is start stop (x ∷ ends) items zero e lt = refl
row_is start stop (x ∷ ends) items (suc i) e lt = row_is x stop ends items i e.1 (omega arith)

pub row_low : (start stop : ℕ) (ends : List ℕ) (i : ℕ) → AreEnds start ends stop → i < length ends → slice_index_or (start ∷ ends) i 0 ≤ slice_index_or ends i 0
row_low start stop [] i e lt = absurd (omega arith)
row_low start stop (x ∷ ends) zero e lt = e.0
row_low start stop (x ∷ ends) (suc i) e lt = row_low x stop ends i e.1 (omega arith)

pub row_high : (start stop : ℕ) (ends : List ℕ) (i : ℕ) → AreEnds start ends stop → i < length ends → slice_index_or ends i 0 ≤ stop
row_high start stop [] i e lt = absurd (omega arith)
row_high start stop (x ∷ ends) zero e lt = ends_rise x stop ends e.1
row_high start stop (x ∷ ends) (suc i) e lt = row_high x stop ends i e.1 (omega arith)
