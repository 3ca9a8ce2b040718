-- Types and lines as they are written, byte by byte.
use Rattle.std.proofs.Common.{◌≡◌, ◌≤◌, ◌<◌, ◌+◌, ◌++◌, ℕ, arith, sym, ap, ◌∙◌, true, List, [], ◌∷◌, length, take, get_or, nat_le, append_assoc, append-nil}
use Rattle.std.specs.List.{list_all, flat_map}
use Rattle.std.proofs.lemmas.Bool.{and_parts, leb-true}
use Rattle.std.proofs.lemmas.List.{take_more, take_all}
use Rattle.std.proofs.lemmas.Grind.{flat_map-append}
use Rattle.jx_base.proofs.Lists.{all_pass}
use Rattle.std.specs.Prelude.{codes}
use Rattle.std.specs.Fmt.{decimal}
use Rattle.byteorder.specs.Endian.{big_bytes}
use Rattle.jx_jp2.specs.Lines.{indent, is_shown, hex_pair, type_text, line_text}

pub ascii_at : (kind : List ℕ) (i : ℕ) → list_all is_shown kind ≡ true → i < length kind → get_or kind i 0 < 128
ascii_at kind i all inside =
    let shown : is_shown (get_or kind i 0) ≡ true = all_pass is_shown kind all i 0 inside in
    let parts = and_parts (nat_le 32 (get_or kind i 0)) (nat_le (get_or kind i 0) 126) shown in
    let most : get_or kind i 0 ≤ 126 = leb-true (get_or kind i 0) 126 parts.1 in
    omega arith

-- one more byte of a type
pub shown_next : (kind : List ℕ) (i : ℕ) (start now next : List ℕ) → i < length kind → now ≡ start ++ take i kind → next ≡ now ++ get_or kind i 0 ∷ []
    → next ≡ start ++ take (i + 1) kind
shown_next kind i start now next inside before e =
    e ∙ (ap (λ (t : List ℕ). t ++ get_or kind i 0 ∷ []) before
    ∙ (append_assoc start (take i kind) (get_or kind i 0 ∷ []) ∙ ap (λ (t : List ℕ). start ++ t) (sym (take_more kind i 0 inside))))

pub shown_all : (kind : List ℕ) (i : ℕ) (start now : List ℕ) → length kind ≤ i → now ≡ start ++ take i kind → now ≡ start ++ kind
shown_all kind i start now past e = e ∙ ap (λ (t : List ℕ). start ++ t) (take_all i kind past)

-- the digits of one more byte
pub digits_next : (kind : List ℕ) (i : ℕ) (start now next : List ℕ) → i < length kind → now ≡ start ++ flat_map hex_pair (take i kind)
    → next ≡ now ++ hex_pair (get_or kind i 0) → next ≡ start ++ flat_map hex_pair (take (i + 1) kind)
digits_next kind i start now next inside before e =
    let one : flat_map hex_pair (take (i + 1) kind) ≡ flat_map hex_pair (take i kind) ++ hex_pair (get_or kind i 0) =
    ap (λ (t : List ℕ). flat_map hex_pair t) (take_more kind i 0 inside)
    ∙ (flat_map-append hex_pair (take i kind) (get_or kind i 0 ∷ [])
    ∙ ap (λ (t : List ℕ). flat_map hex_pair (take i kind) ++ t) (append-nil (hex_pair (get_or kind i 0)))) in
    e ∙ (ap (λ (t : List ℕ). t ++ hex_pair (get_or kind i 0)) before
    ∙ (append_assoc start (flat_map hex_pair (take i kind)) (hex_pair (get_or kind i 0)) ∙ ap (λ (t : List ℕ). start ++ t) (sym one)))

pub digits_all : (kind : List ℕ) (i : ℕ) (start now : List ℕ) → length kind ≤ i → now ≡ start ++ flat_map hex_pair (take i kind) → now ≡ start ++ flat_map hex_pair kind
digits_all kind i start now past e = e ∙ ap (λ (t : List ℕ). start ++ flat_map hex_pair t) (take_all i kind past)

-- a line, appended piece by piece
pub line_appended : (depth kind place size : ℕ) (t0 t1 t2 t3 four : List ℕ) → four ≡ big_bytes 4 kind → t1 ≡ t0 ++ indent depth → t2 ≡ t1 ++ type_text four
    → t3 ≡ t2 ++ (codes " " ++ (decimal place ++ (codes " " ++ (decimal size ++ codes "\n")))) → t3 ≡ t0 ++ line_text depth kind place size
unfolding line_text
line_appended depth kind place size t0 t1 t2 t3 four fours e1 e2 e3 =
    let numbers : List ℕ = codes " " ++ (decimal place ++ (codes " " ++ (decimal size ++ codes "\n"))) in
    let s2 : t2 ≡ (t0 ++ indent depth) ++ type_text (big_bytes 4 kind) = e2 ∙ (ap (λ (t : List ℕ). t ++ type_text four) e1 ∙ ap (λ (t : List ℕ). (t0 ++ indent depth) ++ type_text t) fours) in
    e3 ∙ (ap (λ (t : List ℕ). t ++ numbers) s2
    ∙ (append_assoc (t0 ++ indent depth) (type_text (big_bytes 4 kind)) numbers ∙ append_assoc t0 (indent depth) (type_text (big_bytes 4 kind) ++ numbers)))
