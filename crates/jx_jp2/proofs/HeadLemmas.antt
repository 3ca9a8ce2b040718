-- What holds of a box that breaks none of the rules 32 to 34, and how to show that it breaks none.
use Rattle.std.proofs.Common.{◌≡◌, ◌≤◌, ◌+◌, ◌-◌, ℕ, arith, refl, Bool, true, false, List, length, Option, Some, None, inl, inr, ◌⊎◌, nat_lt, ◌==◌, ◌&&◌}
use Rattle.std.proofs.lemmas.Bool.{cases_Bool, cases_eq, or_parts, or_from, and_cases, and_left, and_right, ltb-false, le-ltb, eq-eqb, eqb-false, ne_eqb, not-false}
use Rattle.jx_jp2.specs.declared.HeadForm.{HeadForm}
use Rattle.jx_jp2.specs.declared.HeadForm.TheVariants as form
use Rattle.jx_jp2.specs.Heads.{lbox, xlbox, form_of, head_size, length_at, breaks_32, breaks_33, breaks_34, first_broken}

-- ---- an option has a value or none
pub cases_of : {X : Type 0} (o : Option X) → (o ≡ None) ⊎ ((x : X) × (o ≡ Some x))
cases_of None = inl refl
cases_of (Some x) = inr (x, refl)

-- ---- the head is there
pub head_room : (bytes : List ℕ) (at left : ℕ) → breaks_32 bytes at left ≡ false → 8 ≤ left
unfolding breaks_32
head_room bytes at left h =
    let parts = or_parts (nat_lt left 8) ((lbox bytes at == 1) && nat_lt left 16) h in
    ltb-false left 8 parts.0

pub long_room : (bytes : List ℕ) (at left : ℕ) → breaks_32 bytes at left ≡ false → lbox bytes at ≡ 1 → 16 ≤ left
unfolding breaks_32
long_room bytes at left h long =
    let parts = or_parts (nat_lt left 8) ((lbox bytes at == 1) && nat_lt left 16) h in
    elim (and_cases (lbox bytes at == 1) (nat_lt left 16) parts.1) [
      | inl short ↦ absurd (eqb-false (lbox bytes at) 1 short long)
      | inr room ↦ ltb-false left 16 room
    ]

pub room_is : (bytes : List ℕ) (at left : ℕ) → 8 ≤ left → (lbox bytes at ≡ 1 → 16 ≤ left) → breaks_32 bytes at left ≡ false
unfolding breaks_32
room_is bytes at left head long =
    or_from (nat_lt left 8) ((lbox bytes at == 1) && nat_lt left 16) (le-ltb left 8 head) (elim (cases_eq (lbox bytes at) 1) [
      | inl is ↦ and_right (lbox bytes at == 1) (nat_lt left 16) (le-ltb left 16 (long is))
      | inr other ↦ and_left (lbox bytes at == 1) (nat_lt left 16) (ne_eqb (lbox bytes at) 1 other)
    ])

-- ---- its size
pub at_least : (f : HeadForm) → 8 ≤ head_size f
at_least form.Short = omega arith
at_least form.Long = omega arith
at_least form.Rest = omega arith

-- ---- the length by the form
pub rest_length : (bytes : List ℕ) (at : ℕ) → lbox bytes at ≡ 0 → length_at bytes at ≡ length bytes - at
unfolding length_at
rest_length bytes at is = let t : (lbox bytes at == 0) ≡ true = eq-eqb (lbox bytes at) 0 is in rw t refl

pub long_length : (bytes : List ℕ) (at : ℕ) → lbox bytes at ≡ 1 → length_at bytes at ≡ xlbox bytes at
unfolding length_at
long_length bytes at is =
    let f : (lbox bytes at == 0) ≡ false = ne_eqb (lbox bytes at) 0 (λ (e : lbox bytes at ≡ 0). absurd (omega arith)) in
    let t : (lbox bytes at == 1) ≡ true = eq-eqb (lbox bytes at) 1 is in
    rw (f, t) refl

pub short_length : (bytes : List ℕ) (at : ℕ) → 8 ≤ lbox bytes at → length_at bytes at ≡ lbox bytes at
unfolding length_at
short_length bytes at some =
    let f : (lbox bytes at == 0) ≡ false = ne_eqb (lbox bytes at) 0 (λ (e : lbox bytes at ≡ 0). absurd (omega arith)) in
    let g : (lbox bytes at == 1) ≡ false = ne_eqb (lbox bytes at) 1 (λ (e : lbox bytes at ≡ 1). absurd (omega arith)) in
    rw (f, g) refl

-- ---- the form
pub rest_form : (told : ℕ) → told ≡ 0 → form_of told ≡ form.Rest
unfolding form_of
rest_form told is = let t : (told == 0) ≡ true = eq-eqb told 0 is in rw t refl

pub long_form : (told : ℕ) → told ≡ 1 → form_of told ≡ form.Long
unfolding form_of
long_form told is =
    let f : (told == 0) ≡ false = ne_eqb told 0 (λ (e : told ≡ 0). absurd (omega arith)) in
    let t : (told == 1) ≡ true = eq-eqb told 1 is in
    rw (f, t) refl

pub short_form : (told : ℕ) → 8 ≤ told → form_of told ≡ form.Short
unfolding form_of
short_form told some =
    let f : (told == 0) ≡ false = ne_eqb told 0 (λ (e : told ≡ 0). absurd (omega arith)) in
    let g : (told == 1) ≡ false = ne_eqb told 1 (λ (e : told ≡ 1). absurd (omega arith)) in
    rw (f, g) refl

-- ---- the length is that of the head or more
pub rest_is_top : (bytes : List ℕ) (top : Bool) (at : ℕ) → breaks_33 bytes top at ≡ false → lbox bytes at ≡ 0 → top ≡ true
unfolding breaks_33
rest_is_top bytes top at h is =
    let t : (lbox bytes at == 0) ≡ true = eq-eqb (lbox bytes at) 0 is in
    not-false top (rw t at h)

pub long_told : (bytes : List ℕ) (top : Bool) (at : ℕ) → breaks_33 bytes top at ≡ false → lbox bytes at ≡ 1 → 16 ≤ xlbox bytes at
unfolding breaks_33
long_told bytes top at h is =
    let f : (lbox bytes at == 0) ≡ false = ne_eqb (lbox bytes at) 0 (λ (e : lbox bytes at ≡ 0). absurd (omega arith)) in
    let t : (lbox bytes at == 1) ≡ true = eq-eqb (lbox bytes at) 1 is in
    ltb-false (xlbox bytes at) 16 (rw (f, t) at h)

pub short_told : (bytes : List ℕ) (top : Bool) (at : ℕ) → breaks_33 bytes top at ≡ false → (lbox bytes at ≡ 0 → ⊥) → (lbox bytes at ≡ 1 → ⊥) → 8 ≤ lbox bytes at
unfolding breaks_33
short_told bytes top at h rest long =
    let f : (lbox bytes at == 0) ≡ false = ne_eqb (lbox bytes at) 0 rest in
    let g : (lbox bytes at == 1) ≡ false = ne_eqb (lbox bytes at) 1 long in
    ltb-false (lbox bytes at) 8 (rw (f, g) at h)

pub rest_told : (bytes : List ℕ) (at : ℕ) → lbox bytes at ≡ 0 → breaks_33 bytes true at ≡ false
unfolding breaks_33
rest_told bytes at is = let t : (lbox bytes at == 0) ≡ true = eq-eqb (lbox bytes at) 0 is in rw t refl

pub long_is_told : (bytes : List ℕ) (top : Bool) (at : ℕ) → lbox bytes at ≡ 1 → 16 ≤ xlbox bytes at → breaks_33 bytes top at ≡ false
unfolding breaks_33
long_is_told bytes top at is some =
    let f : (lbox bytes at == 0) ≡ false = ne_eqb (lbox bytes at) 0 (λ (e : lbox bytes at ≡ 0). absurd (omega arith)) in
    let t : (lbox bytes at == 1) ≡ true = eq-eqb (lbox bytes at) 1 is in
    rw (f, t) (le-ltb (xlbox bytes at) 16 some)

pub short_is_told : (bytes : List ℕ) (top : Bool) (at : ℕ) → 8 ≤ lbox bytes at → breaks_33 bytes top at ≡ false
unfolding breaks_33
short_is_told bytes top at some =
    let f : (lbox bytes at == 0) ≡ false = ne_eqb (lbox bytes at) 0 (λ (e : lbox bytes at ≡ 0). absurd (omega arith)) in
    let g : (lbox bytes at == 1) ≡ false = ne_eqb (lbox bytes at) 1 (λ (e : lbox bytes at ≡ 1). absurd (omega arith)) in
    rw (f, g) (le-ltb (lbox bytes at) 8 some)

-- ---- all three rules
pub record IsClear (bytes : List ℕ) (top : Bool) (stop at : ℕ) : Type 0 where
  pub head : breaks_32 bytes at (stop - at) ≡ false
  pub told : breaks_33 bytes top at ≡ false
  pub ends : breaks_34 bytes at (stop - at) ≡ false

pub clear : (bytes : List ℕ) (top : Bool) (stop at : ℕ) → first_broken bytes top stop at ≡ None → IsClear bytes top stop at
unfolding first_broken
clear bytes top stop at h = elim (cases_Bool (breaks_32 bytes at (stop - at))) [
  | inl t ↦ let e = rw t at h in absurd (cc)
  | inr head ↦ elim (cases_Bool (breaks_33 bytes top at)) [
    | inl t ↦ let e = rw (head, t) at h in absurd (cc)
    | inr told ↦ elim (cases_Bool (breaks_34 bytes at (stop - at))) [
      | inl t ↦ let e = rw (head, told, t) at h in absurd (cc)
      | inr ends ↦ record { head = head; told = told; ends = ends }
    ]
  ]
]

pub is_clear : (bytes : List ℕ) (top : Bool) (stop at : ℕ) → IsClear bytes top stop at → first_broken bytes top stop at ≡ None
unfolding first_broken
is_clear bytes top stop at h =
    let head : breaks_32 bytes at (stop - at) ≡ false = h.head in
    let told : breaks_33 bytes top at ≡ false = h.told in
    let ends : breaks_34 bytes at (stop - at) ≡ false = h.ends in
    rw (head, told, ends) refl

pub ends_within : (bytes : List ℕ) (at left : ℕ) → breaks_34 bytes at left ≡ false → length_at bytes at ≤ left
unfolding breaks_34
ends_within bytes at left h = ltb-false left (length_at bytes at) h

pub within_ends : (bytes : List ℕ) (at left : ℕ) → length_at bytes at ≤ left → breaks_34 bytes at left ≡ false
unfolding breaks_34
within_ends bytes at left h = le-ltb left (length_at bytes at) h

-- a box that breaks none of the rules, on a level that ends within the file
pub record IsSound (bytes : List ℕ) (stop at : ℕ) : Type 0 where
  pub head : at + 8 ≤ stop
  pub long : lbox bytes at ≡ 1 → at + 16 ≤ stop
  pub size : head_size (form_of (lbox bytes at)) ≤ length_at bytes at
  pub grows : 8 ≤ length_at bytes at
  pub ends : at + length_at bytes at ≤ stop

size_by_form : (bytes : List ℕ) (top : Bool) (at : ℕ) → at + 8 ≤ length bytes → breaks_33 bytes top at ≡ false
    → (head_size (form_of (lbox bytes at)) ≤ length_at bytes at) × (8 ≤ length_at bytes at)
size_by_form bytes top at room told = elim (cases_eq (lbox bytes at) 0) [
  | inl rest ↦
      let is : length_at bytes at ≡ length bytes - at = rest_length bytes at rest in
      let told_form : form_of (lbox bytes at) ≡ form.Rest = rest_form (lbox bytes at) rest in
      (rw told_form (omega arith), omega arith)
  | inr not_rest ↦ elim (cases_eq (lbox bytes at) 1) [
    | inl long ↦
        let is : length_at bytes at ≡ xlbox bytes at = long_length bytes at long in
        let told_form : form_of (lbox bytes at) ≡ form.Long = long_form (lbox bytes at) long in
        let some : 16 ≤ xlbox bytes at = long_told bytes top at told long in
        (rw told_form (omega arith), omega arith)
    | inr not_long ↦
        let some : 8 ≤ lbox bytes at = short_told bytes top at told not_rest not_long in
        let is : length_at bytes at ≡ lbox bytes at = short_length bytes at some in
        let told_form : form_of (lbox bytes at) ≡ form.Short = short_form (lbox bytes at) some in
        (rw told_form (omega arith), omega arith)
  ]
]

pub sound : (bytes : List ℕ) (top : Bool) (stop at : ℕ) → stop ≤ length bytes → first_broken bytes top stop at ≡ None → IsSound bytes stop at
sound bytes top stop at within none =
    let h = clear bytes top stop at none in
    let room : 8 ≤ stop - at = head_room bytes at (stop - at) h.head in
    let sizes = size_by_form bytes top at (omega arith) h.told in
    let ends : length_at bytes at ≤ stop - at = ends_within bytes at (stop - at) h.ends in
    record {
      head = omega arith;
      long = λ (is : lbox bytes at ≡ 1). (let more : 16 ≤ stop - at = long_room bytes at (stop - at) h.head is in omega arith);
      size = sizes.0;
      grows = sizes.1;
      ends = omega arith;
    }

-- at the end of a level there is no box
pub none_at_end : (bytes : List ℕ) (top : Bool) (stop at : ℕ) → first_broken bytes top stop at ≡ None → at ≡ stop → ⊥
none_at_end bytes top stop at none is =
    let h = clear bytes top stop at none in
    let room : 8 ≤ stop - at = head_room bytes at (stop - at) h.head in
    omega arith
