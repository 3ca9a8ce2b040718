-- A file with another codestream in the place of its own: the boxes before it are read as they were, and then the new content is found.
use Rattle.std.proofs.Common.{◌≡◌, ◌≢◌, ◌≤◌, ◌<◌, ◌+◌, ◌-◌, ◌^◌, ◌++◌, ℕ, suc, arith, refl, sym, ap, subst, ◌∙◌, true, false, List, [], ◌∷◌, length, take, drop, None, inl, inr, ◌==◌, nat_lt, append_assoc, length-append}
use Rattle.std.proofs.lemmas.Bool.{cases_Bool, cases_eq, ne_eqb, ltb-true}
use Rattle.std.proofs.lemmas.List.{take_at, drop_at, drop_all, length-take-le, length-drop, take-take, take-append-le}
use Rattle.byteorder.specs.Endian.{big_from, big_bytes}
use Rattle.byteorder.specs.Numbers.{big_from-cons, big_from-take, big_number-reads_back}
use Rattle.jx_jp2.specs.declared.Boxed.{Boxed}
use Rattle.jx_jp2.specs.declared.HeadForm.{HeadForm}
use Rattle.jx_jp2.specs.declared.HeadForm.TheVariants as form
use Rattle.jx_jp2.specs.Heads.{lbox, tbox, xlbox, form_of, head_size, length_at, from_at, end_at, boxed_at, first_broken}
use Rattle.jx_jp2.specs.Kinds.{jp2c}
use Rattle.jx_jp2.specs.Codestream.{IsJp2, OthersUpTo, IsCodestream, content}
use Rattle.jx_jp2.specs.Wrapped.{form_for, head_bytes, wrapped, boxed_for}
use Rattle.jx_jp2.proofs.HeadLemmas.{at_least, IsSound, IsClear, sound, clear, is_clear, room_is, rest_length, long_length, short_length, rest_form, long_form, short_form, rest_told, long_told, short_told, long_is_told, short_is_told, within_ends}
use Rattle.jx_jp2.proofs.FindLemmas.{rule_inside, none_broken}

-- ---- numbers in the front of a file, and behind it
same_number : (w b : List ℕ) (h i n : ℕ) → take h w ≡ take h b → i + n ≤ h → big_from i n w ≡ big_from i n b
same_number w b h i n front inside =
    sym (big_from-take i n h w inside) ∙ (ap (λ (t : List ℕ). big_from i n t) front ∙ big_from-take i n h b inside)

number_past : (front rest : List ℕ) (i n : ℕ) → big_from (length front + i) n (front ++ rest) ≡ big_from i n rest
number_past [] rest i n = let e : 0 + i ≡ i = omega arith in ap (λ (m : ℕ). big_from m n rest) e
number_past (x ∷ front) rest i n =
    let e : length (x ∷ front) + i ≡ suc (length front + i) = omega arith in
    ap (λ (m : ℕ). big_from m n (x ∷ (front ++ rest))) e ∙ (big_from-cons (length front + i) n x (front ++ rest) ∙ number_past front rest i n)

number_at : (front rest : List ℕ) (p i n : ℕ) → p ≡ length front + i → big_from p n (front ++ rest) ≡ big_from i n rest
number_at front rest p i n e = ap (λ (m : ℕ). big_from m n (front ++ rest)) e ∙ number_past front rest i n

-- ---- boxes in the front of a file
lbox_same : (w b : List ℕ) (h at : ℕ) → take h w ≡ take h b → at + 8 ≤ h → lbox w at ≡ lbox b at
unfolding lbox
lbox_same w b h at front inside = same_number w b h at 4 front (omega arith)

tbox_same : (w b : List ℕ) (h at : ℕ) → take h w ≡ take h b → at + 8 ≤ h → tbox w at ≡ tbox b at
unfolding tbox
tbox_same w b h at front inside = same_number w b h (at + 4) 4 front (omega arith)

xlbox_same : (w b : List ℕ) (h at : ℕ) → take h w ≡ take h b → at + 16 ≤ h → xlbox w at ≡ xlbox b at
unfolding xlbox
xlbox_same w b h at front inside = same_number w b h (at + 8) 8 front (omega arith)

record IsSame (w b : List ℕ) (at : ℕ) : Type 0 where
  none : first_broken w true (length w) at ≡ None
  kind : tbox w at ≡ tbox b at
  size : length_at w at ≡ length_at b at

box_same : (w b : List ℕ) (h at : ℕ) → take h w ≡ take h b → h ≤ length w → h < length b → first_broken b true (length b) at ≡ None
    → end_at b at ≤ h → IsSame w b at
box_same w b h at front within inside none below =
    let s : IsSound b (length b) at = sound b true (length b) at (omega arith) none in
    let c : IsClear b true (length b) at = clear b true (length b) at none in
    let grows : 8 ≤ length_at b at = s.grows in
    let head : at + 8 ≤ length b = s.head in
    let lboxes : lbox w at ≡ lbox b at = lbox_same w b h at front (omega arith) in
    let kinds : tbox w at ≡ tbox b at = tbox_same w b h at front (omega arith) in
    elim (cases_eq (lbox b at) 0) [
      | inl rest ↦ let is : length_at b at ≡ length b - at = rest_length b at rest in absurd (omega arith)
      | inr not_rest ↦ elim (cases_eq (lbox b at) 1) [
        | inl long ↦
            let is : length_at b at ≡ xlbox b at = long_length b at long in
            let some : 16 ≤ xlbox b at = long_told b true at c.told long in
            let xlboxes : xlbox w at ≡ xlbox b at = xlbox_same w b h at front (omega arith) in
            let long' : lbox w at ≡ 1 = lboxes ∙ long in
            let size : length_at w at ≡ length_at b at = long_length w at long' ∙ (xlboxes ∙ sym is) in
            record {
              none = is_clear w true (length w) at (record {
                head = room_is w at (length w - at) (omega arith) (λ (e : lbox w at ≡ 1). omega arith);
                told = long_is_told w true at long' (omega arith);
                ends = within_ends w at (length w - at) (omega arith);
              });
              kind = kinds;
              size = size;
            }
        | inr not_long ↦
            let some : 8 ≤ lbox b at = short_told b true at c.told not_rest not_long in
            let is : length_at b at ≡ lbox b at = short_length b at some in
            let some' : 8 ≤ lbox w at = omega arith in
            let size : length_at w at ≡ length_at b at = short_length w at some' ∙ (lboxes ∙ sym is) in
            record {
              none = is_clear w true (length w) at (record {
                head = room_is w at (length w - at) (omega arith) (λ (e : lbox w at ≡ 1). absurd (omega arith));
                told = short_is_told w true at some';
                ends = within_ends w at (length w - at) (omega arith);
              });
              kind = kinds;
              size = size;
            }
      ]
    ]

pub others_rise : (b : List ℕ) (xs : List ℕ) (at p : ℕ) → OthersUpTo b at xs p → at ≤ p
others_rise b [] at p o = omega (arith, o)
others_rise b (x ∷ xs) at p o = let more = others_rise b xs (end_at b at) p o.3 in omega (arith, more)

others_same : (w b : List ℕ) (h : ℕ) → take h w ≡ take h b → h ≤ length w → h < length b → (xs : List ℕ) (at : ℕ) → OthersUpTo b at xs h → OthersUpTo w at xs h
others_same w b h front within inside [] at o = o
others_same w b h front within inside (x ∷ xs) at o =
    let below : end_at b at ≤ h = others_rise b xs (end_at b at) h o.3 in
    let same : IsSame w b at = box_same w b h at front within inside (none_broken b at o.1) below in
    let s : IsSound b (length b) at = sound b true (length b) at (omega arith) (none_broken b at o.1) in
    let grows : 8 ≤ length_at b at = s.grows in
    let kind : tbox w at ≢ jp2c = λ (e : tbox w at ≡ jp2c). o.2 (sym same.kind ∙ e) in
    let ends : end_at b at ≡ end_at w at = ap (λ (m : ℕ). at + m) (sym same.size) in
    let more : OthersUpTo w (end_at b at) xs h = others_same w b h front within inside xs (end_at b at) o.3 in
    (o.0, rule_inside w at (omega arith) ∙ same.none, kind, subst (λ (m : ℕ). OthersUpTo w m xs h) ends more)

-- ---- the new box
record IsPut (w : List ℕ) (h : ℕ) (f : HeadForm) (n : ℕ) : Type 0 where
  none : first_broken w true (length w) h ≡ None
  size : length_at w h ≡ head_size f + n
  told : form_of (lbox w h) ≡ f
  kind : tbox w h ≡ jp2c

short_put : (w : List ℕ) (h n : ℕ) → lbox w h ≡ 8 + n → tbox w h ≡ jp2c → h + (8 + n) ≤ length w → IsPut w h form.Short n
short_put w h n told kind room =
    let some : 8 ≤ lbox w h = omega arith in
    let size : length_at w h ≡ 8 + n = short_length w h some ∙ told in
    record {
      none = is_clear w true (length w) h (record {
        head = room_is w h (length w - h) (omega arith) (λ (e : lbox w h ≡ 1). absurd (omega arith));
        told = short_is_told w true h some;
        ends = within_ends w h (length w - h) (omega arith);
      });
      size = size;
      told = short_form (lbox w h) some;
      kind = kind;
    }

long_put : (w : List ℕ) (h n : ℕ) → lbox w h ≡ 1 → tbox w h ≡ jp2c → xlbox w h ≡ 16 + n → h + (16 + n) ≤ length w → IsPut w h form.Long n
long_put w h n long kind told room =
    let size : length_at w h ≡ 16 + n = long_length w h long ∙ told in
    record {
      none = is_clear w true (length w) h (record {
        head = room_is w h (length w - h) (omega arith) (λ (e : lbox w h ≡ 1). omega arith);
        told = long_is_told w true h long (omega arith);
        ends = within_ends w h (length w - h) (omega arith);
      });
      size = size;
      told = long_form (lbox w h) long;
      kind = kind;
    }

rest_put : (w : List ℕ) (h n : ℕ) → lbox w h ≡ 0 → tbox w h ≡ jp2c → length w ≡ h + (8 + n) → IsPut w h form.Rest n
rest_put w h n rest kind whole =
    let is : length_at w h ≡ length w - h = rest_length w h rest in
    let size : length_at w h ≡ 8 + n = omega arith in
    record {
      none = is_clear w true (length w) h (record {
        head = room_is w h (length w - h) (omega arith) (λ (e : lbox w h ≡ 1). absurd (omega arith));
        told = rest_told w h rest;
        ends = within_ends w h (length w - h) (omega arith);
      });
      size = size;
      told = rest_form (lbox w h) rest;
      kind = kind;
    }

-- what is read of a head that is put behind a front
read_lbox : (front rest : List ℕ) (h a k : ℕ) → h ≡ length front → a < 256 ^ 4 → lbox (front ++ ((big_bytes 4 a ++ big_bytes 4 k) ++ rest)) h ≡ a
unfolding lbox
read_lbox front rest h a k at fits =
    number_at front ((big_bytes 4 a ++ big_bytes 4 k) ++ rest) h 0 4 (omega arith) ∙ big_number-reads_back 4 a (big_bytes 4 k ++ rest) fits

read_tbox : (front rest : List ℕ) (h a k : ℕ) → h ≡ length front → k < 256 ^ 4 → tbox (front ++ ((big_bytes 4 a ++ big_bytes 4 k) ++ rest)) h ≡ k
unfolding tbox
read_tbox front rest h a k at fits =
    number_at front ((big_bytes 4 a ++ big_bytes 4 k) ++ rest) (h + 4) 4 4 (omega arith)
    ∙ (number_at (big_bytes 4 a) (big_bytes 4 k ++ rest) 4 0 4 refl ∙ big_number-reads_back 4 k rest fits)

read_xlbox : (front rest : List ℕ) (h a k x : ℕ) → h ≡ length front → x < 256 ^ 8
    → xlbox (front ++ ((big_bytes 4 a ++ big_bytes 4 k) ++ (big_bytes 8 x ++ rest))) h ≡ x
unfolding xlbox
read_xlbox front rest h a k x at fits =
    number_at front ((big_bytes 4 a ++ big_bytes 4 k) ++ (big_bytes 8 x ++ rest)) (h + 8) 8 8 (omega arith)
    ∙ (number_at (big_bytes 4 a ++ big_bytes 4 k) (big_bytes 8 x ++ rest) 8 0 8 refl ∙ big_number-reads_back 8 x rest fits)

pub head_length : (f : HeadForm) (n : ℕ) → length (head_bytes f n) ≡ head_size f
unfolding head_bytes
head_length form.Short n = refl
head_length form.Long n = refl
head_length form.Rest n = refl

whole_length : (front head inner tail : List ℕ) → length (front ++ (head ++ (inner ++ tail))) ≡ length front + (length head + (length inner + length tail))
whole_length front head inner tail = simp length-append

put_short : (front inner tail : List ℕ) (h n : ℕ) → h ≡ length front → n ≡ length inner → 8 + n < 2 ^ 32
    → IsPut (front ++ (head_bytes form.Short n ++ (inner ++ tail))) h form.Short n
unfolding head_bytes
put_short front inner tail h n at is fits =
    let long = whole_length front (big_bytes 4 (8 + n) ++ big_bytes 4 jp2c) inner tail in
    short_put (front ++ ((big_bytes 4 (8 + n) ++ big_bytes 4 jp2c) ++ (inner ++ tail))) h n
    (read_lbox front (inner ++ tail) h (8 + n) jp2c at (omega arith)) (read_tbox front (inner ++ tail) h (8 + n) jp2c at (omega arith)) (omega (arith, long))

put_long : (front inner tail : List ℕ) (h n : ℕ) → h ≡ length front → n ≡ length inner → 16 + n < 2 ^ 64
    → IsPut (front ++ (head_bytes form.Long n ++ (inner ++ tail))) h form.Long n
unfolding head_bytes
put_long front inner tail h n at is fits =
    let long = whole_length front (big_bytes 4 1 ++ big_bytes 4 jp2c ++ big_bytes 8 (16 + n)) inner tail in
    long_put (front ++ ((big_bytes 4 1 ++ big_bytes 4 jp2c ++ big_bytes 8 (16 + n)) ++ (inner ++ tail))) h n
    (read_lbox front (big_bytes 8 (16 + n) ++ (inner ++ tail)) h 1 jp2c at (omega arith)) (read_tbox front (big_bytes 8 (16 + n) ++ (inner ++ tail)) h 1 jp2c at (omega arith))
    (read_xlbox front (inner ++ tail) h 1 jp2c (16 + n) at (omega arith)) (omega (arith, long))

put_rest : (front inner tail : List ℕ) (h n : ℕ) → h ≡ length front → n ≡ length inner → tail ≡ []
    → IsPut (front ++ (head_bytes form.Rest n ++ (inner ++ tail))) h form.Rest n
unfolding head_bytes
put_rest front inner tail h n at is end =
    let long = whole_length front (big_bytes 4 0 ++ big_bytes 4 jp2c) inner tail in
    let none : length tail ≡ 0 = ap (λ (t : List ℕ). length t) end in
    rest_put (front ++ ((big_bytes 4 0 ++ big_bytes 4 jp2c) ++ (inner ++ tail))) h n
    (read_lbox front (inner ++ tail) h 0 jp2c at (omega arith)) (read_tbox front (inner ++ tail) h 0 jp2c at (omega arith)) (omega (arith, long))

put_by_form : (f : HeadForm) (front inner tail : List ℕ) (h n : ℕ) → h ≡ length front → n ≡ length inner → 16 + n < 2 ^ 64 → (f ≡ form.Rest → tail ≡ [])
    → IsPut (front ++ (head_bytes (form_for f n) n ++ (inner ++ tail))) h (form_for f n) n
put_by_form form.Short front inner tail h n at is fits end = elim (cases_Bool (nat_lt (8 + n) (2 ^ 32))) [
  | inl t ↦ rw t (put_short front inner tail h n at is (ltb-true (8 + n) (2 ^ 32) t))
  | inr t ↦ rw t (put_long front inner tail h n at is fits)
]
put_by_form form.Long front inner tail h n at is fits end = put_long front inner tail h n at is fits
put_by_form form.Rest front inner tail h n at is fits end = put_rest front inner tail h n at is (end refl)

-- ---- where the codestream of a file is
pub record IsPlaced (bytes : List ℕ) (boxed : Boxed) : Type 0 where
  pub head : boxed.head + 8 ≤ length bytes
  pub content : boxed.from ≤ boxed.to
  pub end : boxed.to ≤ length bytes
  pub rest : boxed.form ≡ form.Rest → boxed.to ≡ length bytes

rest_only : (told : ℕ) → form_of told ≡ form.Rest → told ≡ 0
unfolding form_of
rest_only told e = elim (cases_eq told 0) [
  | inl is ↦ is
  | inr other ↦
      let f : (told == 0) ≡ false = ne_eqb told 0 other in
      elim (cases_Bool (told == 1)) [
        | inl t ↦ let no_rest : form.Long ≡ form.Rest = rw (f, t) at e in absurd (cc)
        | inr g ↦ let no_rest : form.Short ≡ form.Rest = rw (f, g) at e in absurd (cc)
      ]
]

rest_ends : (bytes : List ℕ) (boxed : Boxed) → boxed.form ≡ form_of (lbox bytes boxed.head) → boxed.to ≡ end_at bytes boxed.head
    → boxed.head + 8 ≤ length bytes → boxed.form ≡ form.Rest → boxed.to ≡ length bytes
rest_ends bytes boxed is end room rest =
    let told : lbox bytes boxed.head ≡ 0 = rest_only (lbox bytes boxed.head) (sym is ∙ rest) in
    let size : length_at bytes boxed.head ≡ length bytes - boxed.head = rest_length bytes boxed.head told in
    omega arith

pub placed : (bytes : List ℕ) (boxed : Boxed) → IsCodestream bytes boxed → IsPlaced bytes boxed
placed bytes boxed found =
    let s : IsSound bytes (length bytes) boxed.head = sound bytes true (length bytes) boxed.head (omega arith) (none_broken bytes boxed.head found.sound) in
    let begin : boxed.from ≡ from_at bytes boxed.head = ap (λ (b : Boxed). b.from) found.is in
    let end : boxed.to ≡ end_at bytes boxed.head = ap (λ (b : Boxed). b.to) found.is in
    let told : boxed.form ≡ form_of (lbox bytes boxed.head) = ap (λ (b : Boxed). b.form) found.is in
    let size : head_size (form_of (lbox bytes boxed.head)) ≤ length_at bytes boxed.head = s.size in
    let ends : boxed.head + length_at bytes boxed.head ≤ length bytes = s.ends in
    record {
      head = s.head;
      content = omega arith;
      end = omega arith;
      rest = rest_ends bytes boxed told end s.head;
    }

pub wrapped_length : (bytes inner : List ℕ) (boxed : Boxed) → IsCodestream bytes boxed
    → length (wrapped bytes boxed inner) ≡ boxed.head + (head_size (form_for boxed.form (length inner)) + (length inner + (length bytes - boxed.to)))
unfolding wrapped
wrapped_length bytes inner boxed found =
    let p : IsPlaced bytes boxed = placed bytes boxed found in
    let head : boxed.head + 8 ≤ length bytes = p.head in
    let front : length (take boxed.head bytes) ≡ boxed.head = length-take-le boxed.head bytes (omega arith) in
    let tail : length (drop boxed.to bytes) ≡ length bytes - boxed.to = length-drop boxed.to bytes in
    let size = head_length (form_for boxed.form (length inner)) (length inner) in
    let whole = whole_length (take boxed.head bytes) (head_bytes (form_for boxed.form (length inner)) (length inner)) inner (drop boxed.to bytes) in
    omega (arith, front, tail, size, whole)

-- ---- the laws
place_same : (w : List ℕ) (h n : ℕ) (f : HeadForm) → length_at w h ≡ head_size f + n → form_of (lbox w h) ≡ f
    → ◌≡◌ {A = Boxed} (record { head = h; from = h + head_size f; to = h + head_size f + n; form = f }) (boxed_at w h)
place_same w h n f size is =
    let e : h + head_size f + n ≡ h + (head_size f + n) = omega arith in
    rw (size, is, e) refl

found_again : (w b : List ℕ) (boxed : Boxed) (f : HeadForm) (n : ℕ) → IsCodestream b boxed → take boxed.head w ≡ take boxed.head b → boxed.head < length w
    → IsPut w boxed.head f n → IsCodestream w (record { head = boxed.head; from = boxed.head + head_size f; to = boxed.head + head_size f + n; form = f })
found_again w b boxed f n found front within put =
    let p : IsPlaced b boxed = placed b boxed found in
    let head : boxed.head + 8 ≤ length b = p.head in
    record {
      before = found.before;
      others = others_same w b boxed.head front (omega arith) (omega arith) found.before 0 found.others;
      sound = rule_inside w boxed.head within ∙ put.none;
      kind = put.kind;
      is = place_same w boxed.head n f put.size put.told;
    }

content_of : (front head inner tail : List ℕ) (from n to : ℕ) → length front + length head ≡ from → length inner ≡ n → to ≡ from + n
    → take (to - from) (drop from (front ++ (head ++ (inner ++ tail)))) ≡ inner
content_of front head inner tail from n to at size end =
    let whole : front ++ (head ++ (inner ++ tail)) ≡ (front ++ head) ++ (inner ++ tail) = sym (append_assoc front head (inner ++ tail)) in
    let long : length (front ++ head) ≡ from = length-append front head ∙ at in
    let dropped : drop from (front ++ (head ++ (inner ++ tail))) ≡ inner ++ tail = ap (λ (t : List ℕ). drop from t) whole ∙ drop_at (front ++ head) (inner ++ tail) from long in
    let left : to - from ≡ n = omega arith in
    rw (dropped, left) (take_at inner tail n size)

front_same : (bytes inner : List ℕ) (boxed : Boxed) → length (take boxed.head bytes) ≡ boxed.head → take boxed.head (wrapped bytes boxed inner) ≡ take boxed.head bytes
unfolding wrapped
front_same bytes inner boxed front =
    take_at (take boxed.head bytes) (head_bytes (form_for boxed.form (length inner)) (length inner) ++ (inner ++ drop boxed.to bytes)) boxed.head front

put_there : (bytes inner : List ℕ) (boxed : Boxed) → IsPlaced bytes boxed → 16 + length inner < 2 ^ 64 → length (take boxed.head bytes) ≡ boxed.head
    → IsPut (wrapped bytes boxed inner) boxed.head (form_for boxed.form (length inner)) (length inner)
unfolding wrapped
put_there bytes inner boxed p fits front =
    put_by_form boxed.form (take boxed.head bytes) inner (drop boxed.to bytes) boxed.head (length inner) (sym front) refl fits
    (λ (rest : boxed.form ≡ form.Rest). (let end : boxed.to ≡ length bytes = p.rest rest in drop_all boxed.to bytes (omega arith)))

content_there : (bytes inner : List ℕ) (boxed : Boxed) → length (take boxed.head bytes) ≡ boxed.head
    → content (wrapped bytes boxed inner) (boxed_for boxed (length inner)) ≡ inner
unfolding wrapped
content_there bytes inner boxed front =
    let f : HeadForm = form_for boxed.form (length inner) in
    let size = head_length f (length inner) in
    content_of (take boxed.head bytes) (head_bytes f (length inner)) inner (drop boxed.to bytes) (boxed.head + head_size f) (length inner)
    (boxed.head + head_size f + length inner) (omega (arith, front, size)) refl refl

pub content_found : (bytes inner : List ℕ) (boxed : Boxed) → IsCodestream bytes boxed → 16 + length inner < 2 ^ 64
    → IsCodestream (wrapped bytes boxed inner) (boxed_for boxed (length inner)) × (content (wrapped bytes boxed inner) (boxed_for boxed (length inner)) ≡ inner)
content_found bytes inner boxed found fits =
    let p : IsPlaced bytes boxed = placed bytes boxed found in
    let head : boxed.head + 8 ≤ length bytes = p.head in
    let f : HeadForm = form_for boxed.form (length inner) in
    let front : length (take boxed.head bytes) ≡ boxed.head = length-take-le boxed.head bytes (omega arith) in
    let some : 8 ≤ head_size f = at_least f in
    let long = wrapped_length bytes inner boxed found in (
      found_again (wrapped bytes boxed inner) bytes boxed f (length inner) found (front_same bytes inner boxed front) (omega (arith, long, some)) (put_there bytes inner boxed p fits front),
      content_there bytes inner boxed front,
    )

past_signature : (bytes : List ℕ) (xs : List ℕ) (p : ℕ) → OthersUpTo bytes 0 xs p → tbox bytes p ≡ jp2c → lbox bytes 0 ≡ 12 → tbox bytes 0 ≡ 0x6A50_2020 → 12 ≤ p
past_signature bytes [] p o kind told other =
    let first : tbox bytes 0 ≡ jp2c = subst (λ (m : ℕ). tbox bytes m ≡ jp2c) (sym o) kind in
    absurd (omega arith)
past_signature bytes (x ∷ xs) p o kind told other =
    let size : length_at bytes 0 ≡ lbox bytes 0 = short_length bytes 0 (omega arith) in
    let more : end_at bytes 0 ≤ p = others_rise bytes xs (end_at bytes 0) p o.3 in
    omega arith

signature_lbox : (bytes : List ℕ) → IsJp2 bytes → lbox bytes 0 ≡ 12
unfolding lbox
signature_lbox bytes jp2 = sym (big_from-take 0 4 12 bytes (omega arith)) ∙ ap (λ (t : List ℕ). big_from 0 4 t) jp2

signature_tbox : (bytes : List ℕ) → IsJp2 bytes → tbox bytes 0 ≡ 0x6A50_2020
unfolding tbox
signature_tbox bytes jp2 = sym (big_from-take 4 4 12 bytes (omega arith)) ∙ ap (λ (t : List ℕ). big_from 4 4 t) jp2

pub wrapped_jp2 : (bytes inner : List ℕ) (boxed : Boxed) → IsJp2 bytes → IsCodestream bytes boxed → IsJp2 (wrapped bytes boxed inner)
unfolding wrapped
wrapped_jp2 bytes inner boxed jp2 found =
    let p : IsPlaced bytes boxed = placed bytes boxed found in
    let head : boxed.head + 8 ≤ length bytes = p.head in
    let past : 12 ≤ boxed.head = past_signature bytes found.before boxed.head found.others found.kind (signature_lbox bytes jp2) (signature_tbox bytes jp2) in
    let front : length (take boxed.head bytes) ≡ boxed.head = length-take-le boxed.head bytes (omega arith) in
    take-append-le 12 (take boxed.head bytes) (head_bytes (form_for boxed.form (length inner)) (length inner) ++ (inner ++ drop boxed.to bytes)) (omega arith)
    ∙ (take-take 12 boxed.head bytes past ∙ jp2)
