-- A file that is read to where its bytes stay.
use Rattle.std.proofs.Common.{◌≡◌, ◌<◌, ◌≤◌, ◌+◌, ◌∙◌, ◌++◌, ℕ, List, [], length, take, drop, Option, None, Some, Result, Ok, Err, refl, ap, sym, subst, arith, append_assoc, append-nil, IfOk, IfSome, inl, inr}
use Rattle.std.specs.Option.{option_map}
use Rattle.std.proofs.lemmas.List.{length-take-le, take-append-drop, take-take, take_all}
use Rattle.std.proofs.Math.Seq.{take-append-add, take-append_seam, drop-nil}
use Rattle.jx_io.specs.Device.{Meaning, Takes, after_read}
use Rattle.jx_transcode.specs.Progress.{HasRead}

-- ---- what was read, and what is left
pub has_read_more : (old now : Option (List ℕ)) (bytes piece : List ℕ) (n : ℕ) → HasRead old now bytes
    → IfSome now (λ rest. piece ≡ take n rest) → HasRead old (option_map (drop n) now) (bytes ++ piece)
has_read_more old None bytes piece n so_far cut = so_far
has_read_more old (Some rest) bytes piece n so_far cut =
    so_far ∙ ap (λ (r : List ℕ). Some r) (rw (cut, append_assoc, take-append-drop) refl)

-- all of it was read
pub has_read_end : (old now : Option (List ℕ)) (bytes : List ℕ) (most : ℕ) → HasRead old now bytes → length bytes ≤ most
    → IfSome now (λ rest. rest ≡ []) → IfSome old (λ left. bytes ≡ take most left)
has_read_end old None bytes most so_far fits end = rw so_far tt
has_read_end old (Some rest) bytes most so_far fits end = rw (so_far, end, append-nil) (sym (take_all most bytes fits))

-- no more is asked for
pub has_read_full : (old now : Option (List ℕ)) (bytes : List ℕ) (most : ℕ) → HasRead old now bytes → length bytes ≡ most → IfSome old (λ left. bytes ≡ take most left)
has_read_full old None bytes most so_far full = rw so_far tt
has_read_full old (Some rest) bytes most so_far full = rw (so_far, ← full, take-append_seam) refl

-- where there was room and nothing came, nothing is left
pub takes_none : (left : Option (List ℕ)) (n room : ℕ) (into : List ℕ) → IfSome left (λ l. Takes l n room into) → n ≡ 0 → 0 < room → IfSome left (λ rest. rest ≡ [])
takes_none None n room into takes none some = tt
takes_none (Some left) n room into takes none some = elim (takes.end none) [ inl no_room ↦ absurd (omega arith) | inr end ↦ end ]

-- what was taken is a front of what is left
pub takes_front : (left : Option (List ℕ)) (n room : ℕ) (into : List ℕ) → IfSome left (λ l. Takes l n room into) → IfSome left (λ l. take n into ≡ take n l)
takes_front None n room into takes = tt
takes_front (Some left) n room into takes = takes.bytes

-- ---- to where it stays
-- the filled bytes of a buffer, and some of those that were read behind them
front_of_both : (before after piece : List ℕ) (filled n : ℕ) → filled ≤ length before → n ≤ length piece → take (filled + length piece) after ≡ take filled before ++ piece
    → take (filled + n) after ≡ take filled before ++ take n piece
front_of_both before after piece filled n fits within whole =
    let long : filled + n ≡ length (take filled before) + n = ap (λ (k : ℕ). k + n) (sym (length-take-le filled before fits)) in
    sym (take-take (filled + n) (filled + length piece) after (omega (arith, within))) ∙ ap (take (filled + n)) whole ∙ ap (λ (k : ℕ). take k (take filled before ++ piece)) long
    ∙ take-append-add (take filled before) piece n

has_read_on : (old left : Option (List ℕ)) (before after piece : List ℕ) (filled n : ℕ) → filled ≤ length before → n ≤ length piece
    → take (filled + length piece) after ≡ take filled before ++ piece → IfSome left (λ l. Takes l n (length piece) piece) → HasRead old left (take filled before)
    → HasRead old (option_map (drop n) left) (take (filled + n) after)
has_read_on old left before after piece filled n fits within whole takes so_far =
    subst (HasRead old (option_map (drop n) left)) (sym (front_of_both before after piece filled n fits within whole))
    (has_read_more old left (take filled before) (take n piece) n so_far (takes_front left n (length piece) piece takes))

-- what a call of read leaves
pub read_answer : {E : Type 0} (r : Result ℕ E) (was now : Meaning) (before after piece : List ℕ) (filled : ℕ) → filled ≤ length before
    → take (filled + length piece) after ≡ take filled before ++ piece → IfOk r (λ n. now ≡ after_read n was) → IfOk r (λ n. n ≤ length piece)
    → IfOk r (λ n. IfSome was.left (λ l. Takes l n (length piece) piece))
    → IfOk r (λ n. (old : Option (List ℕ)) → HasRead old was.left (take filled before) → HasRead old now.left (take (filled + n) after))
read_answer (Ok n) was now before after piece filled fits whole ok within takes = λ old so_far.
    subst (λ (m : Meaning). HasRead old m.left (take (filled + n) after)) (sym ok) (has_read_on old was.left before after piece filled n fits within whole takes so_far)
read_answer (Err e) was now before after piece filled fits whole ok within takes = tt

-- nothing came where there was room, and nothing is left
end_stays : (left : Option (List ℕ)) (n : ℕ) → IfSome left (λ rest. rest ≡ []) → IfSome (option_map (drop n) left) (λ rest. rest ≡ [])
end_stays None n none = tt
end_stays (Some rest) n none = ap (drop n) none ∙ drop-nil n

pub read_end : {E : Type 0} (r : Result ℕ E) (was now : Meaning) (piece : List ℕ) → IfOk r (λ n. now ≡ after_read n was) → 0 < length piece
    → IfOk r (λ n. IfSome was.left (λ l. Takes l n (length piece) piece)) → IfOk r (λ n. n ≡ 0 → IfSome now.left (λ rest. rest ≡ []))
read_end (Ok n) was now piece ok some takes = λ none.
    subst (λ (m : Meaning). IfSome m.left (λ rest. rest ≡ [])) (sym ok) (end_stays was.left n (takes_none was.left n (length piece) piece takes none some))
read_end (Err e) was now piece ok some takes = tt
