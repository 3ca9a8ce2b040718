-- Tiles written through one buffer: what the device has taken and what stands in the buffer are the bytes so far.
use Rattle.std.proofs.Common.{◌≡◌, ◌∙◌, ◌<◌, ◌+◌, ℕ, suc, List, Option, [], ◌∷◌, ◌++◌, length, map, drop, refl, ap, sym, subst, arith, append_assoc, length-append, append-nil, slice_index_or, OnOk, Result, Ok, Err}
use Rattle.std.specs.List.{concat}
use Rattle.std.proofs.Math.Seq.{drop-cons}
use Rattle.std.proofs.lemmas.List.Folds.{concat-append}
use Rattle.jx_rounds.specs.MadeRounds.{parts_of}
use Rattle.jx_rounds.specs.Taken.{HasTaken, SomeFront, followed_by}
use Rattle.jx_rounds.specs.declared.halt.Halt.{Halt}
use Rattle.jx_rounds.proofs.TakenLemmas.{front_after, has_taken_all, has_taken_more, has_taken_none}

-- ---- one piece
pub nothing_gone : (w : Option (List ℕ)) (bytes rest : List ℕ) → rest ≡ bytes → HasTaken w w bytes rest
nothing_gone w bytes rest is = subst (HasTaken w w bytes) (sym is) (has_taken_none w bytes)

pub nothing_left : (r : Result (Unit {0}) Halt) (old new : Option (List ℕ)) (bytes rest : List ℕ) → OnOk r (new ≡ followed_by bytes old) → OnOk r (rest ≡ []) → OnOk r (HasTaken old new bytes rest)
nothing_left (Ok x) old new bytes rest wrote none =
    subst (HasTaken old new bytes) (sym none) (record { front = bytes; whole = sym (append-nil bytes); written = wrote })
nothing_left (Err h) old new bytes rest wrote none = tt

-- ---- one more
pub cut_at : {X : Type 0} (xs : List X) (i : ℕ) (d : X) → i < length xs → drop i xs ≡ slice_index_or xs i d ∷ drop (i + 1) xs
cut_at {X} xs i d lt =
    let next : suc i ≡ i + 1 = omega arith in
    drop-cons xs i d lt ∙ ap (λ (k : ℕ). slice_index_or xs i d ∷ drop k xs) next

pub pieces_cut : (pieces : List (List ℕ)) (i : ℕ) → i < length pieces → concat (drop i pieces) ≡ slice_index_or pieces i [] ++ concat (drop (i + 1) pieces)
pieces_cut pieces i lt = ap concat (cut_at pieces i [] lt)

pub parts_cut : (tile : List (List (List ℕ))) (i : ℕ) → i < length tile → concat (map concat (drop i tile)) ≡ concat (slice_index_or tile i []) ++ concat (map concat (drop (i + 1) tile))
parts_cut tile i lt = ap (λ (parts : List (List (List ℕ))). concat (map concat parts)) (cut_at tile i [] lt)

pub tiles_cut : (tiles : List (List (List (List ℕ)))) (i : ℕ) (tile : List (List (List ℕ))) → i < length tiles → tile ≡ slice_index_or tiles i tile
    → concat (parts_of (drop i tiles)) ≡ concat (map concat tile) ++ concat (parts_of (drop (i + 1) tiles))
tiles_cut tiles i tile lt is =
    ap (λ (all : List (List (List (List ℕ)))). concat (parts_of all)) (cut_at tiles i tile lt) ∙ ap (λ (t : List (List (List ℕ))). concat (map concat t ++ parts_of (drop (i + 1) tiles))) (sym is)
    ∙ concat-append (map concat tile) (parts_of (drop (i + 1) tiles))

-- ---- what the device has taken and what stands in the buffer
pub piece_put : (old now new : Option (List ℕ)) (bytes buffer all piece rest left : List ℕ) → HasTaken old now bytes (buffer ++ all) → all ≡ piece ++ rest → HasTaken now new (buffer ++ piece) left
    → HasTaken old new bytes (left ++ rest)
piece_put old now new bytes buffer all piece rest left so_far cut put =
    let whole : buffer ++ all ≡ put.front ++ (left ++ rest) =
    ap (λ (b : List ℕ). buffer ++ b) cut ∙ sym (append_assoc buffer piece rest) ∙ ap (λ (b : List ℕ). b ++ rest) put.whole ∙ append_assoc put.front left rest in
    has_taken_more old now new bytes (buffer ++ all) put.front (left ++ rest) so_far whole put.written

pub piece_cut_off : (old now new : Option (List ℕ)) (bytes buffer all piece rest : List ℕ) → HasTaken old now bytes (buffer ++ all) → all ≡ piece ++ rest → SomeFront now new (buffer ++ piece)
    → SomeFront old new bytes
piece_cut_off old now new bytes buffer all piece rest so_far cut some =
    front_after old now new bytes (buffer ++ all) (buffer ++ piece) rest so_far (ap (λ (b : List ℕ). buffer ++ b) cut ∙ sym (append_assoc buffer piece rest)) some

pub pieces_put : (old now : Option (List ℕ)) (bytes buffer rest : List ℕ) → HasTaken old now bytes (buffer ++ rest) → rest ≡ [] → HasTaken old now bytes buffer
pieces_put old now bytes buffer rest so_far none = subst (HasTaken old now bytes) (ap (λ (b : List ℕ). buffer ++ b) none ∙ append-nil buffer) so_far

pub part_put : (old now new : Option (List ℕ)) (bytes buffer : List ℕ) → HasTaken old now bytes buffer → new ≡ followed_by buffer now → new ≡ followed_by bytes old
part_put old now new bytes buffer so_far wrote = has_taken_all old new bytes [] (has_taken_more old now new bytes buffer buffer [] so_far (sym (append-nil buffer)) wrote) refl

pub part_cut_off : (old now new : Option (List ℕ)) (bytes buffer : List ℕ) → HasTaken old now bytes buffer → SomeFront now new buffer → SomeFront old new bytes
part_cut_off old now new bytes buffer so_far some = front_after old now new bytes buffer buffer [] so_far (sym (append-nil buffer)) some

pub tiles_counted : (tiles : List (List (List (List ℕ)))) (i : ℕ) (tile : List (List (List ℕ))) (before count more : ℕ) → i < length tiles → tile ≡ slice_index_or tiles i tile
    → more ≡ count + length (concat (map concat tile)) → count + length (concat (parts_of (drop i tiles))) ≡ before + length (concat (parts_of tiles))
    → more + length (concat (parts_of (drop (i + 1) tiles))) ≡ before + length (concat (parts_of tiles))
tiles_counted tiles i tile before count more lt is counted so_far =
    let all : length (concat (parts_of (drop i tiles))) ≡ length (concat (map concat tile)) + length (concat (parts_of (drop (i + 1) tiles))) =
    ap length (tiles_cut tiles i tile lt is) ∙ length-append (concat (map concat tile)) (concat (parts_of (drop (i + 1) tiles))) in
    omega (arith, all, counted, so_far)
