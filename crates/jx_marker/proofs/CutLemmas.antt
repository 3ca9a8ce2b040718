-- Bytes cut into numbers, and the numbers' bytes.
use Rattle.std.proofs.Common.{◌≡◌, ◌<◌, ◌≤◌, ◌+◌, ◌*◌, ◌^◌, ◌%◌, ◌/◌, ℕ, zero, suc, List, ◌∷◌, ◌++◌, [], length, drop, arith, refl, ap, sym, ◌∙◌, slice_index, inl, inr, ◌⊎◌, drop-cons}
use Rattle.std.proofs.lemmas.Bool.{cases_lt}
use Rattle.std.proofs.lemmas.List.{get_or_past, drop_all, drop-drop}
use Rattle.std.proofs.lemmas.List.Elements.{All-from_recursion, All-drop}
use Rattle.std.specs.List.{All, AllByRecursion, flat_map}
use Rattle.byteorder.specs.Endian.{big_from, big_bytes}
use Rattle.jx_marker.specs.Values.{values_from}
use Rattle.jx_marker.specs.Ranges.{AreBytes}

pub byte_small : (bytes : List ℕ) → AreBytes bytes → (i : ℕ) → slice_index bytes i < 256
byte_small bytes are i = elim (cases_lt i (length bytes)) [
  | inl inside ↦ are i 0 inside
  | inr past ↦ let none : slice_index bytes i ≡ 0 = get_or_past bytes i 0 past in omega arith
]

pub cut_byte : (bytes : List ℕ) (at : ℕ) → at < length bytes → drop at bytes ≡ slice_index bytes at ∷ drop (at + 1) bytes
cut_byte bytes at inside = let e : at + 1 ≡ suc at = omega arith in rw e (drop-cons bytes at 0 inside)

pub cut_to : (bytes : List ℕ) (at next : ℕ) → next ≡ at + 1 → at < length bytes → drop at bytes ≡ slice_index bytes at ∷ drop next bytes
cut_to bytes at next is inside = rw is (cut_byte bytes at inside)

pub bytes_drop : (bytes : List ℕ) (n : ℕ) → AreBytes bytes → AreBytes (drop n bytes)
bytes_drop bytes n are = All-drop (λ (byte : ℕ). byte < 256) n bytes are

pub drop_one : (bytes : List ℕ) (n next : ℕ) → next ≡ n + 1 → drop 1 (drop n bytes) ≡ drop next bytes
drop_one bytes n next is = rw is (drop-drop 1 n bytes)

bytes_2 : (a b : ℕ) → a < 256 → b < 256 → big_bytes 2 (a * 256 + (b * 1 + 0)) ≡ a ∷ b ∷ []
bytes_2 a b ha hb =
    let first : (a * 256 + (b * 1 + 0)) / 256 % 256 ≡ a = omega arith in
    let last : (a * 256 + (b * 1 + 0)) % 256 ≡ b = omega arith in
    rw (first, last) refl

bytes_4 : (a b c d : ℕ) → a < 256 → b < 256 → c < 256 → d < 256 → big_bytes 4 (a * 16777216 + (b * 65536 + (c * 256 + (d * 1 + 0)))) ≡ a ∷ b ∷ c ∷ d ∷ []
bytes_4 a b c d ha hb hc hd =
    let n : ℕ = a * 16777216 + (b * 65536 + (c * 256 + (d * 1 + 0))) in
    let e1 : n / 16777216 % 256 ≡ a = omega arith in
    let e2 : n / 65536 % 256 ≡ b = omega arith in
    let e3 : n / 256 % 256 ≡ c = omega arith in
    let e4 : n % 256 ≡ d = omega arith in
    rw (e1, e2, e3, e4) refl

pub cut_1 : (bytes : List ℕ) (at : ℕ) → AreBytes bytes → at + 1 ≤ length bytes → drop at bytes ≡ big_bytes 1 (big_from at 1 bytes) ++ drop (at + 1) bytes
cut_1 bytes at are room =
    let small = byte_small bytes are at in
    let one : (slice_index bytes at * 1 + 0) % 256 ≡ slice_index bytes at = omega arith in
    rw one (cut_byte bytes at (omega arith))

pub cut_2 : (bytes : List ℕ) (at : ℕ) → AreBytes bytes → at + 2 ≤ length bytes → drop at bytes ≡ big_bytes 2 (big_from at 2 bytes) ++ drop (at + 2) bytes
cut_2 bytes at are room =
    let e : at + 2 ≡ suc (suc at) = omega arith in
    let bytes_are = bytes_2 (slice_index bytes at) (slice_index bytes (suc at)) (byte_small bytes are at) (byte_small bytes are (suc at)) in
    rw e (drop-cons bytes at 0 (omega arith) ∙ ap (λ (t : List ℕ). slice_index bytes at ∷ t) (drop-cons bytes (suc at) 0 (omega arith))
    ∙ ap (λ (t : List ℕ). t ++ drop (suc (suc at)) bytes) (sym bytes_are))

pub cut_4 : (bytes : List ℕ) (at : ℕ) → AreBytes bytes → at + 4 ≤ length bytes → drop at bytes ≡ big_bytes 4 (big_from at 4 bytes) ++ drop (at + 4) bytes
cut_4 bytes at are room =
    let e : at + 4 ≡ suc (suc (suc (suc at))) = omega arith in
    let a : ℕ = slice_index bytes at in
    let b : ℕ = slice_index bytes (suc at) in
    let c : ℕ = slice_index bytes (suc (suc at)) in
    let d : ℕ = slice_index bytes (suc (suc (suc at))) in
    let bytes_are = bytes_4 a b c d (byte_small bytes are at) (byte_small bytes are (suc at)) (byte_small bytes are (suc (suc at))) (byte_small bytes are (suc (suc (suc at)))) in
    rw e (drop-cons bytes at 0 (omega arith)
    ∙ ap (λ (t : List ℕ). a ∷ t) (drop-cons bytes (suc at) 0 (omega arith)
    ∙ ap (λ (t : List ℕ). b ∷ t) (drop-cons bytes (suc (suc at)) 0 (omega arith)
    ∙ ap (λ (t : List ℕ). c ∷ t) (drop-cons bytes (suc (suc (suc at))) 0 (omega arith))))
    ∙ ap (λ (t : List ℕ). t ++ drop (suc (suc (suc (suc at)))) bytes) (sym bytes_are))

-- a number of one or two bytes
pub cut_narrow : (size : ℕ) → (size ≡ 1) ⊎ (size ≡ 2) → (bytes : List ℕ) (at next : ℕ) → next ≡ at + size → AreBytes bytes → at + size ≤ length bytes
    → drop at bytes ≡ big_bytes size (big_from at size bytes) ++ drop next bytes
cut_narrow size (inl e) bytes at next is are room =
    let most : at + 1 ≤ length bytes = omega arith in
    let place : next ≡ at + 1 = omega arith in
    rw (e, place) (cut_1 bytes at are most)
cut_narrow size (inr e) bytes at next is are room =
    let most : at + 2 ≤ length bytes = omega arith in
    let place : next ≡ at + 2 = omega arith in
    rw (e, place) (cut_2 bytes at are most)

pub cut_2_to : (bytes : List ℕ) (at next : ℕ) → next ≡ at + 2 → AreBytes bytes → at + 2 ≤ length bytes → drop at bytes ≡ big_bytes 2 (big_from at 2 bytes) ++ drop next bytes
cut_2_to bytes at next is are room = rw is (cut_2 bytes at are room)

pub small_2 : (bytes : List ℕ) (at : ℕ) → AreBytes bytes → big_from at 2 bytes < 2 ^ 16
small_2 bytes at are = let a = byte_small bytes are at in let b = byte_small bytes are (suc at) in omega arith

pub small_4 : (bytes : List ℕ) (at : ℕ) → AreBytes bytes → big_from at 4 bytes < 2 ^ 32
small_4 bytes at are =
    let a = byte_small bytes are at in
    let b = byte_small bytes are (suc at) in
    let c = byte_small bytes are (suc (suc at)) in
    let d = byte_small bytes are (suc (suc (suc at))) in
    omega arith

pub small_narrow : (size : ℕ) → (size ≡ 1) ⊎ (size ≡ 2) → (bytes : List ℕ) (at : ℕ) → AreBytes bytes → big_from at size bytes < 256 ^ size
small_narrow size (inl e) bytes at are = let a = byte_small bytes are at in rw e (omega arith)
small_narrow size (inr e) bytes at are = let h = small_2 bytes at are in rw e (omega arith)

pub drop_end : (bytes : List ℕ) (at : ℕ) → at ≡ length bytes → drop at bytes ≡ []
drop_end bytes at end = drop_all at bytes (omega arith)

-- values that stand one after the other, up to the end
pub values_spelled : {A : Type 0} (value_at : ℕ → List ℕ → A) (bytes_of : A → List ℕ) (size : ℕ) (bytes : List ℕ)
    (each : (at : ℕ) → at + size ≤ length bytes → drop at bytes ≡ bytes_of (value_at at bytes) ++ drop (at + size) bytes)
    (n at : ℕ) → at + n * size ≡ length bytes → flat_map bytes_of (values_from value_at size n at bytes) ≡ drop at bytes
values_spelled value_at bytes_of size bytes each zero at whole = sym (drop_end bytes at (omega arith))
values_spelled value_at bytes_of size bytes each (suc n) at whole =
    let more = values_spelled value_at bytes_of size bytes each n (at + size) (omega arith) in
    ap (λ (t : List ℕ). bytes_of (value_at at bytes) ++ t) more ∙ sym (each at (omega arith))

all_by_recursion : {A : Type 0} (P : A → Type 0) (value_at : ℕ → List ℕ → A) (size : ℕ) (bytes : List ℕ) → ((at : ℕ) → P (value_at at bytes))
    → (n at : ℕ) → AllByRecursion P (values_from value_at size n at bytes)
all_by_recursion P value_at size bytes each zero at = tt
all_by_recursion P value_at size bytes each (suc n) at = (each at, all_by_recursion P value_at size bytes each n (at + size))

-- what holds of a value at each place holds of all of them
pub all_values : {A : Type 0} (P : A → Type 0) (value_at : ℕ → List ℕ → A) (size : ℕ) (bytes : List ℕ) → ((at : ℕ) → P (value_at at bytes))
    → (n at : ℕ) → All P (values_from value_at size n at bytes)
all_values P value_at size bytes each n at = All-from_recursion P (values_from value_at size n at bytes) (all_by_recursion P value_at size bytes each n at)
