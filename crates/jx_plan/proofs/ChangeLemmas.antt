-- Headers with a POC put in, or with another POC, say the same as without, but for the order of packets.
use Rattle.std.proofs.Common.{◌≡◌, ◌∙◌, ◌==◌, ◌||◌, ◌++◌, ℕ, true, false, arith, List, [], ◌∷◌, map, take, drop, refl, sym, ap, Option, Some, None, inl, inr}
use Rattle.std.specs.List.{list_any}
use Rattle.std.specs.Option.{option_or, option_map}
use Rattle.std.proofs.lemmas.Bool.{cases_Bool}
use Rattle.std.proofs.lemmas.Bool.Decides.{nat_tests}
use Rattle.std.proofs.lemmas.List.{take-append-drop}
use Rattle.std.proofs.lemmas.List.Folds.{list_any-append}
use Rattle.jx_marker.specs.declared.Progression.{Progression}
use Rattle.jx_marker.specs.declared.Segment.{Segment}
use Rattle.jx_marker.specs.declared.Segment.TheVariants as segment
use Rattle.jx_codestream.specs.Headers.{slot_of, has_slot}
use Rattle.jx_codestream.specs.Index.{gives}
use Rattle.jx_codestream.specs.Tiles.{in_slot}
use Rattle.jx_plan.specs.Changes.{coding_end, is_poc, poc_of, put_entries, volumes_written, with_entries}
use Rattle.jx_plan.specs.Headers.{HeaderOptions, all_written, main_written, written}
use Rattle.jx_plan.proofs.WrittenLemmas.{kind_written, slot_written}

-- ---- segments one behind another
pub slot_app : (slot : ℕ) (xs ys : List Segment) → in_slot slot (xs ++ ys) ≡ option_or (in_slot slot xs) (in_slot slot ys)
slot_app slot [] ys = refl
slot_app slot (x ∷ xs) ys = elim (cases_Bool (slot_of x == slot)) [
  | inl here ↦ rw here refl
  | inr past ↦ rw past (slot_app slot xs ys)
]

or_none : (o : Option Segment) → option_or o None ≡ o
or_none None = refl
or_none (Some s) = refl

pub or_map : (f : Segment → Segment) (x y : Option Segment) → option_or (option_map f x) (option_map f y) ≡ option_map f (option_or x y)
or_map f None y = refl
or_map f (Some s) y = refl

-- ---- a POC gives no parameter
poc_gives : (slot : ℕ) → gives slot ≡ true → (3 == slot) ≡ false
poc_gives slot g = grind (arith, nat_tests)

none_poc : (slot : ℕ) (es : List Progression) → gives slot ≡ true → in_slot slot (poc_of es) ≡ None
none_poc slot [] g = refl
none_poc slot (e ∷ es) g = rw (poc_gives slot g) refl

no_kind : (slot : ℕ) (es : List Progression) → gives slot ≡ true → has_slot slot (poc_of es) ≡ false
no_kind slot [] g = refl
no_kind slot (e ∷ es) g = rw (poc_gives slot g) refl

-- ---- the main header
module _ (a : HeaderOptions) (comps : ℕ) (main : List Segment) where
  abbrev front : List Segment
  front = take (coding_end main) main

  abbrev back : List Segment
  back = drop (coding_end main) main

  abbrev put : List Progression
  put = volumes_written comps a.wanted.changes

  without_put : (slot : ℕ) → gives slot ≡ true → in_slot slot (main_written a comps main) ≡ option_or (in_slot slot (all_written a front)) (in_slot slot (all_written a back))
  without_put slot g =
      slot_app slot (all_written a front) (poc_of put ++ all_written a back)
      ∙ ap (λ (o : Option Segment). option_or (in_slot slot (all_written a front)) o)
      (slot_app slot (poc_of put) (all_written a back) ∙ ap (λ (o : Option Segment). option_or o (in_slot slot (all_written a back))) (none_poc slot put g))

  both_kept : (o p x y : Option Segment) → o ≡ option_map (written a) x → p ≡ option_map (written a) y → option_or o p ≡ option_map (written a) (option_or x y)
  both_kept o p x y e h = rw (e, h) (or_map (written a) x y)

  pub main_slots : (slot : ℕ) → gives slot ≡ true → in_slot slot (main_written a comps main) ≡ option_map (written a) (in_slot slot main)
  main_slots slot g =
      without_put slot g
      ∙ both_kept (in_slot slot (all_written a front)) (in_slot slot (all_written a back)) (in_slot slot front) (in_slot slot back) (slot_written a slot front g) (slot_written a slot back g)
      ∙ ap (option_map (written a)) (sym (slot_app slot front back) ∙ ap (λ (xs : List Segment). in_slot slot xs) (take-append-drop (coding_end main) main))

  kinds : (slot : ℕ) → gives slot ≡ true → has_slot slot (main_written a comps main) ≡ (has_slot slot (all_written a front) || has_slot slot (all_written a back))
  kinds slot g =
      list_any-append (λ (s : Segment). slot_of s == slot) (all_written a front) (poc_of put ++ all_written a back)
      ∙ rw (list_any-append (λ (s : Segment). slot_of s == slot) (poc_of put) (all_written a back), no_kind slot put g) refl

  pub main_kind : (slot : ℕ) → gives slot ≡ true → has_slot slot (main_written a comps main) ≡ has_slot slot main
  main_kind slot g =
      kinds slot g ∙ rw (kind_written a slot front g, kind_written a slot back g) refl
      ∙ sym (list_any-append (λ (s : Segment). slot_of s == slot) front back) ∙ ap (λ (xs : List Segment). has_slot slot xs) (take-append-drop (coding_end main) main)

-- ---- a tile's header
pub put_slot_of : (es : List Progression) (s : Segment) → slot_of (put_entries es s) ≡ slot_of s
put_slot_of es (segment.Poc own) = refl
put_slot_of es _ = refl

put_same : (es : List Progression) (slot : ℕ) (s : Segment) → gives slot ≡ true → (slot_of s == slot) ≡ true → put_entries es s ≡ s
put_same es slot (segment.Poc own) g t = absurd (let f = poc_gives slot g in cc)
put_same es slot _ g t = refl

put_slots : (es : List Progression) (slot : ℕ) (ss : List Segment) → gives slot ≡ true → in_slot slot (map (put_entries es) ss) ≡ in_slot slot ss
put_slots es slot [] g = refl
put_slots es slot (s ∷ ss) g = elim (cases_Bool (slot_of s == slot)) [
  | inl here ↦ rw (put_slot_of es s, here) (ap Some (put_same es slot s g here))
  | inr past ↦ rw (put_slot_of es s, past) (put_slots es slot ss g)
]

poc_behind : (slot : ℕ) (es : List Progression) (ss : List Segment) → gives slot ≡ true → in_slot slot (ss ++ segment.Poc es ∷ []) ≡ in_slot slot ss
poc_behind slot es ss g =
    let none : in_slot slot (segment.Poc es ∷ []) ≡ None = rw (poc_gives slot g) refl in
    slot_app slot ss (segment.Poc es ∷ []) ∙ ap (λ (o : Option Segment). option_or (in_slot slot ss) o) none ∙ or_none (in_slot slot ss)

pub with_slots : (es : List Progression) (slot : ℕ) (ss : List Segment) → gives slot ≡ true → in_slot slot (with_entries es ss) ≡ in_slot slot ss
with_slots [] slot ss g = refl
with_slots (e ∷ es) slot ss g = elim (cases_Bool (list_any is_poc ss)) [
  | inl some ↦ rw some (put_slots (e ∷ es) slot ss g)
  | inr none ↦ rw none (poc_behind slot (e ∷ es) ss g)
]
