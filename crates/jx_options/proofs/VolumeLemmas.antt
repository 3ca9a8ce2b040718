-- Which texts say volumes, and which volumes.
use Rattle.std.proofs.Common.{◌≡◌, ◌<◌, ◌≤◌, ◌+◌, ◌^◌, ◌/◌, ◌%◌, ◌∙◌, ◌&&◌, ap, sym, subst, refl, arith, ℕ, zero, suc, eqb, nat_lt, Bool, true, false, List, [], ◌∷◌, ◌++◌, Option, None, Some, inl, inr, length, map, codes, slice_index_or, if◌then◌else◌}
use Rattle.std.specs.Char.{to_ascii_lowercase}
use Rattle.std.specs.Fmt.{decimal}
use Rattle.std.specs.List.{All, join_with_byte}
use Rattle.std.specs.Option.{option_map, IfSome}
use Rattle.std.specs.Str.{bytes_eq}
use Rattle.std.proofs.lemmas.Bool.{cases_Bool, cases_lt, ne_eqb}
use Rattle.std.proofs.lemmas.Bool.Decides.{nat_tests}
use Rattle.std.proofs.lemmas.Fmt.{decimal_by_steps, decimal_digit, decimal_injective, decimal_nonempty}
use Rattle.std.proofs.lemmas.List.{length-append}
use Rattle.std.proofs.lemmas.List.Elements.{All-nil, All-cons, All-append, All-head, All-tail}
use Rattle.std.proofs.lemmas.List.Splits.{slice_split_at, slice_split_none}
use Rattle.std.proofs.lemmas.Option.{none-some, same_Some}
use Rattle.std.proofs.lemmas.Slice.Eq.{bytes_eq-Decides}
use Rattle.jx_base.specs.OrderNumbers.{IsOrderNumber}
use Rattle.jx_base.specs.Texts.{number_in}
use Rattle.jx_base.proofs.Texts.{number_read}
use Rattle.jx_marker.specs.declared.Progression.{Progression}
use Rattle.jx_options.specs.Orders.{word_named}
use Rattle.jx_options.specs.Values.{all_in, in_front, parts_of, value_in}
use Rattle.jx_options.specs.Volumes.{AreVolumes, IsVolume, all_six, number_from_0, order_named, volume_in, volume_of, volume_orders, volume_text, volume_with, volumes_in, volumes_text}
use Rattle.jx_options.proofs.ListLemmas.{some_part}
use Rattle.jx_options.proofs.NumberLemmas.{number_spelled}
use Rattle.jx_options.proofs.ValueLemmas.{found}

-- ---- digits and letters are neither commas nor slashes
abbrev HasNo : ℕ → List ℕ → Type 0
HasNo c text = All (λ b. eqb b c ≡ false) text

one_byte : (c b : ℕ) (text : List ℕ) → c < 48 → 48 ≤ b → HasNo c text → HasNo c (b ∷ text)
one_byte c b text low high more = All-cons (λ x. eqb x c ≡ false) b text (ne_eqb b c (λ e. omega (arith, e))) more

no_text : (c : ℕ) → HasNo c []
no_text c = All-nil (λ x. eqb x c ≡ false)

digits_apart : (c n : ℕ) → c < 48 → n < 2 ^ 64 → HasNo c (decimal n)
digits_apart c n low small =
    decimal_by_steps (λ m ds. HasNo c ds) (λ m l. one_byte c (48 + m) [] low (omega arith) (no_text c))
    (λ m ds l h. All-append (λ x. eqb x c ≡ false) ds ((48 + m % 10) ∷ []) h (one_byte c (48 + m % 10) [] low (omega arith) (no_text c))) n small

letters : (c a b d e : ℕ) → c < 48 → 48 ≤ a → 48 ≤ b → 48 ≤ d → 48 ≤ e → HasNo c (a ∷ b ∷ d ∷ e ∷ [])
letters c a b d e low one two three four =
    one_byte c a (b ∷ d ∷ e ∷ []) low one (one_byte c b (d ∷ e ∷ []) low two (one_byte c d (e ∷ []) low three (one_byte c e [] low four (no_text c))))

word_apart : (c n : ℕ) → c < 48 → IsOrderNumber n → HasNo c (word_named n)
word_apart c zero low few = letters c 108 114 99 112 low (omega arith) (omega arith) (omega arith) (omega arith)
word_apart c (suc zero) low few = letters c 114 108 99 112 low (omega arith) (omega arith) (omega arith) (omega arith)
word_apart c (suc (suc zero)) low few = letters c 114 112 99 108 low (omega arith) (omega arith) (omega arith) (omega arith)
word_apart c (suc (suc (suc zero))) low few = letters c 112 99 114 108 low (omega arith) (omega arith) (omega arith) (omega arith)
word_apart c (suc (suc (suc (suc zero)))) low few = letters c 99 112 114 108 low (omega arith) (omega arith) (omega arith) (omega arith)
word_apart c (suc (suc (suc (suc (suc n))))) low few = absurd (omega arith)

-- ---- one volume
zero_word : (n : ℕ) → 0 < n → n < 2 ^ 64 → bytes_eq (decimal n) (codes "0") ≡ false
zero_word n some small = elim (cases_Bool (bytes_eq (decimal n) (codes "0"))) [
  | inl t ↦
      let same : decimal n ≡ decimal 0 = (bytes_eq-Decides (decimal n) (codes "0")).0 t ∙ sym (decimal_digit 0 (omega arith)) in
      absurd (omega (arith, some, decimal_injective n 0 small (omega arith) same))
  | inr f ↦ f
]

zero_is : bytes_eq (decimal 0) (codes "0") ≡ true
zero_is = rw (decimal_digit 0 (omega arith)) refl

from_0_spelled : (most n : ℕ) → most < 2 ^ 64 → n ≤ most → number_from_0 most (decimal n) ≡ Some n
from_0_spelled most zero small few = rw zero_is refl
from_0_spelled most (suc n) small few = rw (zero_word (suc n) (omega arith) (omega (arith, small, few))) (number_spelled most (suc n) small (omega arith) few)

order_spelled : (n : ℕ) → IsOrderNumber n → order_named (word_named n) ≡ Some n
order_spelled zero few = refl
order_spelled (suc zero) few = refl
order_spelled (suc (suc zero)) few = refl
order_spelled (suc (suc (suc zero))) few = refl
order_spelled (suc (suc (suc (suc zero)))) few = refl
order_spelled (suc (suc (suc (suc (suc n))))) few = absurd (omega arith)

both_less : (a b c d : ℕ) → a < b → c < d → (nat_lt a b && nat_lt c d) ≡ true
both_less a b c d h k = grind (arith, nat_tests)

with_spelled : (e : Progression) → IsVolume e → volume_with e.rs e.cs e.lye e.re e.ce e.order ≡ Some e
with_spelled e is = rw (both_less e.rs e.re e.cs e.ce is.res is.comp) refl

six_spelled : (e : Progression) → IsVolume e
    → volume_of (decimal e.rs ∷ decimal e.cs ∷ decimal e.lye ∷ decimal e.re ∷ decimal e.ce ∷ word_named e.order ∷ []) ≡ Some e
six_spelled e is =
    rw (
      from_0_spelled 32 e.rs (omega arith) (omega (arith, is.res, is.few_res)),
      from_0_spelled 16383 e.cs (omega arith) (omega (arith, is.comp, is.few_comps)),
      number_spelled 65535 e.lye (omega arith) is.layers is.few_layers,
      number_spelled 33 e.re (omega arith) (omega (arith, is.res)) is.few_res,
      number_spelled 16384 e.ce (omega arith) (omega (arith, is.comp)) is.few_comps,
      order_spelled e.order is.order,
    ) (with_spelled e is)

cut_here : (c : ℕ) (text more : List ℕ) → HasNo c text → parts_of c (text ++ c ∷ more) ≡ text ∷ parts_of c more
unfolding parts_of
cut_here c text more none = slice_split_at (λ b. eqb b c) text c more none (by c)
  where
    by : (n : ℕ) → eqb n n ≡ true
    by n = grind (arith, nat_tests)

cut_last : (c : ℕ) (text : List ℕ) → HasNo c text → parts_of c text ≡ text ∷ []
unfolding parts_of
cut_last c text none = slice_split_none (λ b. eqb b c) text none

-- the parts of an entry's text
six_parts : (e : Progression) → IsVolume e
    → parts_of 44 (volume_text e) ≡ decimal e.rs ∷ decimal e.cs ∷ decimal e.lye ∷ decimal e.re ∷ decimal e.ce ∷ word_named e.order ∷ []
six_parts e is =
    cut_here 44 (decimal e.rs) _ (digits_apart 44 e.rs (omega arith) (omega (arith, is.res, is.few_res)))
    ∙ ap (λ ps. decimal e.rs ∷ ps) (cut_here 44 (decimal e.cs) _ (digits_apart 44 e.cs (omega arith) (omega (arith, is.comp, is.few_comps)))
    ∙ ap (λ ps. decimal e.cs ∷ ps) (cut_here 44 (decimal e.lye) _ (digits_apart 44 e.lye (omega arith) (omega (arith, is.few_layers)))
    ∙ ap (λ ps. decimal e.lye ∷ ps) (cut_here 44 (decimal e.re) _ (digits_apart 44 e.re (omega arith) (omega (arith, is.few_res)))
    ∙ ap (λ ps. decimal e.re ∷ ps) (cut_here 44 (decimal e.ce) _ (digits_apart 44 e.ce (omega arith) (omega (arith, is.few_comps)))
    ∙ ap (λ ps. decimal e.ce ∷ ps) (cut_last 44 (word_named e.order) (word_apart 44 e.order (omega arith) is.order))))))

volume_spelled : (e : Progression) → IsVolume e → volume_in (volume_text e) ≡ Some e
unfolding volume_in
volume_spelled e is = ap volume_of (six_parts e is) ∙ six_spelled e is

-- no slash stands in it
text_apart : (e : Progression) → IsVolume e → HasNo 47 (volume_text e)
text_apart e is =
    let P : ℕ → Type 0 = λ x. eqb x 47 ≡ false in
    let comma : (text : List ℕ) → HasNo 47 text → HasNo 47 (44 ∷ text) = λ text none. All-cons P 44 text refl none in
    let digits : (n : ℕ) → n < 2 ^ 64 → HasNo 47 (decimal n) = λ n small. digits_apart 47 n (omega arith) small in
    All-append P (decimal e.rs) _ (digits e.rs (omega (arith, is.res, is.few_res))) (comma _
    (All-append P (decimal e.cs) _ (digits e.cs (omega (arith, is.comp, is.few_comps))) (comma _
    (All-append P (decimal e.lye) _ (digits e.lye (omega (arith, is.few_layers))) (comma _
    (All-append P (decimal e.re) _ (digits e.re (omega (arith, is.few_res))) (comma _
    (All-append P (decimal e.ce) _ (digits e.ce (omega (arith, is.few_comps))) (comma _
    (word_apart 47 e.order (omega arith) is.order))))))))))

-- ---- several volumes
volume_parts : (e : Progression) (es : List Progression) → All IsVolume (e ∷ es) → parts_of 47 (volumes_text (e ∷ es)) ≡ map volume_text (e ∷ es)
volume_parts e [] each = cut_last 47 (volume_text e) (text_apart e (All-head IsVolume e [] each))
volume_parts e (next ∷ es) each =
    cut_here 47 (volume_text e) (volumes_text (next ∷ es)) (text_apart e (All-head IsVolume e (next ∷ es) each))
    ∙ ap (λ ps. volume_text e ∷ ps) (volume_parts next es (All-tail IsVolume e (next ∷ es) each))

each_spelled : (room : ℕ) (es : List Progression) → All IsVolume es → length es ≤ room → all_in volume_in room (map volume_text es) ≡ Some es
unfolding all_in
each_spelled room [] each few = refl
each_spelled zero (e ∷ es) each few = absurd (omega (arith, few))
each_spelled (suc room) (e ∷ es) each few =
    rw (volume_spelled e (All-head IsVolume e es each), each_spelled room es (All-tail IsVolume e es each) (omega (arith, few))) refl

pub volumes_spelled : (es : List Progression) → AreVolumes es → volumes_in (volumes_text es) ≡ Some es
unfolding volumes_in
volumes_spelled [] are = absurd (omega (arith, are.some))
volumes_spelled (e ∷ es) are = ap (all_in volume_in 32) (volume_parts e es are.each) ∙ each_spelled 32 (e ∷ es) are.each are.few

-- it begins with a digit
digit_first : (n : ℕ) (more : List ℕ) → n < 2 ^ 64 → slice_index_or (decimal n ++ more) 0 0 ≤ 57
digit_first n more small =
    (decimal_by_steps (λ m ds. (1 ≤ length ds) × ((rest : List ℕ) → slice_index_or (ds ++ rest) 0 0 ≤ 57)) (λ m l. (omega arith, λ rest. omega arith))
    (λ m ds l h. (omega (arith, length-append ds ((48 + m % 10) ∷ [])), λ rest. by m ds rest h.0 h.1)) n small).1 more
  where
    by : (m : ℕ) (ds rest : List ℕ) → 1 ≤ length ds → ((more : List ℕ) → slice_index_or (ds ++ more) 0 0 ≤ 57) → slice_index_or ((ds ++ (48 + m % 10) ∷ []) ++ rest) 0 0 ≤ 57
    by m [] rest some low = absurd (omega (arith, some))
    by m (d ∷ ds) rest some low = low []

pub volumes_first : (e : Progression) (es : List Progression) → AreVolumes (e ∷ es) → slice_index_or (volumes_text (e ∷ es)) 0 0 ≤ 57
volumes_first e [] are = digit_first e.rs _ (let is = All-head IsVolume e [] are.each in omega (arith, is.res, is.few_res))
volumes_first e (next ∷ es) are = low _ (volume_text e) (digit_text e (All-head IsVolume e (next ∷ es) are.each))
  where
    digit_text : (e : Progression) → IsVolume e → (1 ≤ length (volume_text e)) × (slice_index_or (volume_text e) 0 0 ≤ 57)
    digit_text e is =
        let small : e.rs < 2 ^ 64 = omega (arith, is.res, is.few_res) in (
          omega (arith, decimal_nonempty e.rs small, length-append (decimal e.rs) (44 ∷ join_with_byte 44 (decimal e.cs ∷ decimal e.lye ∷ decimal e.re ∷ decimal e.ce ∷ word_named e.order ∷ []))),
          digit_first e.rs _ small,
        )

    low : (more text : List ℕ) → (1 ≤ length text) × (slice_index_or text 0 0 ≤ 57) → slice_index_or (text ++ more) 0 0 ≤ 57
    low more [] is = absurd (omega (arith, is.0))
    low more (b ∷ text) is = is.1

-- ---- what is read
pub from_0_read : (most n : ℕ) (text : List ℕ) → number_from_0 most text ≡ Some n → n ≤ most
from_0_read most n text e = elim (cases_Bool (bytes_eq text (codes "0"))) [
  | inl t ↦ omega (arith, same_Some 0 n (rw t at e))
  | inr f ↦ (number_read most n text (rw f at e)).1
]

order_read : (n : ℕ) (text : List ℕ) → order_named text ≡ Some n → IsOrderNumber n
order_read n text e =
    subst (λ (o : Option ℕ). IfSome o IsOrderNumber) e
    (found IsOrderNumber volume_orders (map to_ascii_lowercase text) (omega arith, (omega arith, (omega arith, (omega arith, (omega arith, tt))))))

less_parts : (a b c d : ℕ) → (nat_lt a b && nat_lt c d) ≡ true → (a < b) × (c < d)
less_parts a b c d h = (grind (arith, nat_tests), grind (arith, nat_tests))

with_read : (rs cs lye re ce order : ℕ) (e : Progression) → volume_with rs cs lye re ce order ≡ Some e → re ≤ 33 → ce ≤ 16384 → 1 ≤ lye → lye ≤ 65535 → IsOrderNumber order → IsVolume e
with_read rs cs lye re ce order e is few_res few_comps layers few_layers known = elim (cases_Bool (nat_lt rs re && nat_lt cs ce)) [
  | inl t ↦
      let less = less_parts rs re cs ce t in
      subst IsVolume (same_Some (record { rs = rs; cs = cs; lye = lye; re = re; ce = ce; order = order }) e (rw t at is))
      (record { res = less.0; few_res = few_res; comp = less.1; few_comps = few_comps; layers = layers; few_layers = few_layers; order = known })
  | inr f ↦ absurd (none-some e (rw f at is))
]

six_read : (rs cs lye re ce order : Option ℕ) (e : Progression) → all_six rs cs lye re ce order ≡ Some e → IfSome lye (λ n. (1 ≤ n) × (n ≤ 65535)) → IfSome re (λ n. n ≤ 33)
    → IfSome ce (λ n. n ≤ 16384) → IfSome order IsOrderNumber → IsVolume e
six_read None cs lye re ce order e is a b c d = absurd (none-some e is)
six_read (Some rs) None lye re ce order e is a b c d = absurd (none-some e is)
six_read (Some rs) (Some cs) None re ce order e is a b c d = absurd (none-some e is)
six_read (Some rs) (Some cs) (Some lye) None ce order e is a b c d = absurd (none-some e is)
six_read (Some rs) (Some cs) (Some lye) (Some re) None order e is a b c d = absurd (none-some e is)
six_read (Some rs) (Some cs) (Some lye) (Some re) (Some ce) None e is a b c d = absurd (none-some e is)
six_read (Some rs) (Some cs) (Some lye) (Some re) (Some ce) (Some order) e is a b c d = with_read rs cs lye re ce order e is b c a.0 a.1 d

known : {P : ℕ → Type 0} (o : Option ℕ) → ((n : ℕ) → o ≡ Some n → P n) → IfSome o P
known None h = tt
known (Some n) h = h n refl

of_read : (parts : List (List ℕ)) (e : Progression) → volume_of parts ≡ Some e → IsVolume e
of_read [] e is = absurd (none-some e is)
of_read (a ∷ []) e is = absurd (none-some e is)
of_read (a ∷ b ∷ []) e is = absurd (none-some e is)
of_read (a ∷ b ∷ c ∷ []) e is = absurd (none-some e is)
of_read (a ∷ b ∷ c ∷ d ∷ []) e is = absurd (none-some e is)
of_read (a ∷ b ∷ c ∷ d ∷ f ∷ []) e is = absurd (none-some e is)
of_read (a ∷ b ∷ c ∷ d ∷ f ∷ g ∷ []) e is =
    six_read (number_from_0 32 a) (number_from_0 16383 b) (number_in 65535 c) (number_in 33 d) (number_in 16384 f) (order_named g) e is
    (known (number_in 65535 c) (λ n k. let r = number_read 65535 n c k in (r.0, r.1))) (known (number_in 33 d) (λ n k. (number_read 33 n d k).1))
    (known (number_in 16384 f) (λ n k. (number_read 16384 n f k).1)) (known (order_named g) (λ n k. order_read n g k))
of_read (a ∷ b ∷ c ∷ d ∷ f ∷ g ∷ h ∷ more) e is = absurd (none-some e is)

volume_read : (text : List ℕ) (e : Progression) → volume_in text ≡ Some e → IsVolume e
unfolding volume_in
volume_read text e is = of_read (parts_of 44 text) e is

record AreRead (room : ℕ) (parts : List (List ℕ)) (es : List Progression) : Type 0 where
  each : All IsVolume es
  few : length es ≤ room
  count : length es ≡ length parts

all_read : (room : ℕ) (parts : List (List ℕ)) (es : List Progression) → all_in volume_in room parts ≡ Some es → AreRead room parts es
unfolding all_in
all_read room [] es e = subst (AreRead room []) (same_Some [] es e) (record { each = All-nil IsVolume; few = omega arith; count = refl })
all_read zero (text ∷ parts) es e = absurd (none-some es e)
all_read (suc room) (text ∷ parts) es e = with_volume (volume_in text) refl (all_in volume_in room parts) refl e (λ more rest. all_read room parts more rest)
  where
    with_volume : (o : Option Progression) → volume_in text ≡ o → (m : Option (List Progression)) → all_in volume_in room parts ≡ m → in_front o m ≡ Some es
        → ((more : List Progression) → all_in volume_in room parts ≡ Some more → AreRead room parts more) → AreRead (suc room) (text ∷ parts) es
    with_volume None is m rest f next = absurd (none-some es f)
    with_volume (Some v) is None rest f next = absurd (none-some es f)
    with_volume (Some v) is (Some more) rest f next =
        let r = next more rest in
        subst (AreRead (suc room) (text ∷ parts)) (same_Some (v ∷ more) es f)
        (record { each = All-cons IsVolume v more (volume_read text v is) r.each; few = omega (arith, r.few); count = omega (arith, r.count) })

pub volumes_read : (text : List ℕ) (es : List Progression) → volumes_in text ≡ Some es → AreVolumes es
unfolding volumes_in
volumes_read text es e =
    let r = all_read 32 (parts_of 47 text) es e in
    record { some = omega (arith, r.count, some_part 47 text); few = r.few; each = r.each }
