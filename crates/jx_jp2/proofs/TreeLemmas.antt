-- The walk over the boxes of a level and of what is in them, in order of place.
use Rattle.std.proofs.Common.{◌≡◌, ◌≤◌, ◌<◌, ◌+◌, ◌-◌, ◌++◌, ℕ, zero, suc, arith, refl, sym, ap, subst, ◌∙◌, List, length, Some, None, inl, inr, ◌⊎◌, ◌==◌, append_assoc, append-nil}
use Rattle.std.proofs.lemmas.Bool.{cases_Bool, cases_lt}
use Rattle.jx_jp2.specs.Kinds.{jp2h, uinf, res}
use Rattle.std.specs.Option.{MatchOption}
use Rattle.jx_jp2.specs.declared.Boxed.{Boxed}
use Rattle.jx_jp2.specs.declared.faults.BoxFault.{BoxFault}
use Rattle.jx_jp2.specs.declared.faults.BoxFault.TheVariants as fault
use Rattle.jx_jp2.specs.declared.levels.Level.{Level}
use Rattle.jx_jp2.specs.declared.levels.Level.TheVariants as levels
use Rattle.jx_jp2.specs.Heads.{lbox, tbox, form_of, length_at, from_at, end_at, boxed_at, first_broken, IsBroken}
use Rattle.jx_jp2.specs.Trees.{is_top, opened, below, Tree, Ended, Next, Fills, IsInside, Way, Here, Past, Into, LeadsTo, BreaksFirst, IsLevelFault}
use Rattle.jx_jp2.specs.Lines.{line_text, tree_text, AddsLines}
use Rattle.jx_jp2.proofs.HeadLemmas.{at_least, cases_of, sound, none_at_end}

-- ---- levels
deeper : (known within : Level) (most : ℕ) → Some known ≡ Some within → below known + 1 ≤ most → below within + 1 ≤ most
deeper known within most e h =
    let is : known ≡ within = cc in
    subst (λ (l : Level). below l + 1 ≤ most) is h

pub below_opened : (level within : Level) (kind : ℕ) → opened level kind ≡ Some within → below within + 1 ≤ below level
unfolding opened
below_opened levels.Top within kind e = elim (cases_Bool (kind == jp2h)) [
  | inl t ↦ let is : Some levels.Header ≡ Some within = rw t at e in deeper levels.Header within 2 is (omega arith)
  | inr f ↦ elim (cases_Bool (kind == uinf)) [
    | inl t ↦ let is : Some levels.Closed ≡ Some within = rw (f, t) at e in deeper levels.Closed within 2 is (omega arith)
    | inr g ↦ let is : None ≡ Some within = rw (f, g) at e in absurd (cc)
  ]
]
below_opened levels.Header within kind e = elim (cases_Bool (kind == res)) [
  | inl t ↦ let is : Some levels.Closed ≡ Some within = rw t at e in deeper levels.Closed within 1 is (omega arith)
  | inr f ↦ let is : None ≡ Some within = rw f at e in absurd (cc)
]
below_opened levels.Closed within kind e = absurd (cc)

-- ---- the walk
pub record IsWalked (bytes : List ℕ) (level : Level) (depth from stop at : ℕ) (start now : List ℕ) : Type 0 where
  pub within : at ≤ stop
  pub lines : (rest : Tree) → Fills bytes level at stop rest
      → (whole : Tree) × Fills bytes level from stop whole × (now ++ tree_text bytes depth rest ≡ start ++ tree_text bytes depth whole)
  pub fault : (number place : ℕ) → BreaksFirst bytes level at stop number place → BreaksFirst bytes level from stop number place

pub walked_first : (bytes : List ℕ) (level : Level) (depth from stop : ℕ) (start : List ℕ) → from ≤ stop → IsWalked bytes level depth from stop from start start
walked_first bytes level depth from stop start span =
    record { within = span; lines = λ (rest : Tree) (fills : Fills bytes level from stop rest). (rest, fills, refl); fault = λ number place h. h }

regrouped : (now line more rest : List ℕ) → ((now ++ line) ++ more) ++ rest ≡ now ++ (line ++ (more ++ rest))
regrouped now line more rest = simp append_assoc

-- past a box, with the tree of what is in it
walked_next : (bytes : List ℕ) (level : Level) (depth from stop at next : ℕ) (start now line after : List ℕ) (inside : Tree) → IsWalked bytes level depth from stop at start now
    → stop ≤ length bytes → first_broken bytes (is_top level) stop at ≡ None → next ≡ end_at bytes at
    → IsInside bytes level at inside → line ≡ line_text depth (tbox bytes at) at (length_at bytes at) → after ≡ (now ++ line) ++ tree_text bytes (depth + 1) inside
    → IsWalked bytes level depth from stop next start after
walked_next bytes level depth from stop at next start now line after inside before most none end tree is text =
    let step = sound bytes (is_top level) stop at most none in
    record {
      within = omega (arith, step.ends, end);
      lines = λ (rest : Tree) (fills : Fills bytes level next stop rest). (
          let d = before.lines (Next at inside rest) (refl, none, tree, subst (λ (m : ℕ). Fills bytes level m stop rest) end fills) in
          let front : after ++ tree_text bytes depth rest ≡ ((now ++ line) ++ tree_text bytes (depth + 1) inside) ++ tree_text bytes depth rest = ap (λ (t : List ℕ). t ++ tree_text bytes depth rest) text in
          let own : now ++ (line ++ (tree_text bytes (depth + 1) inside ++ tree_text bytes depth rest)) ≡ now ++ tree_text bytes depth (Next at inside rest) =
          ap (λ (t : List ℕ). now ++ (t ++ (tree_text bytes (depth + 1) inside ++ tree_text bytes depth rest))) is in
          (d.0, d.1, front ∙ (regrouped now line (tree_text bytes (depth + 1) inside) (tree_text bytes depth rest) ∙ (own ∙ d.2)))
          );
      fault = λ (number place : ℕ) (h : BreaksFirst bytes level next stop number place). before.fault number place (record {
        way = Past inside h.way;
        leads = (none, tree, subst (λ (m : ℕ). LeadsTo bytes number place level m stop h.way) end h.leads);
      });
    }

inside_none : (bytes : List ℕ) (level : Level) (at : ℕ) → opened level (tbox bytes at) ≡ None → IsInside bytes level at Ended
inside_none bytes level at e = rw e refl

inside_some : (bytes : List ℕ) (level within : Level) (at : ℕ) (tree : Tree) → opened level (tbox bytes at) ≡ Some within
    → Fills bytes within (from_at bytes at) (end_at bytes at) tree → IsInside bytes level at tree
inside_some bytes level within at tree e fills = rw e fills

-- what a box's line says of it
line_same : (bytes : List ℕ) (depth at : ℕ) (boxed : Boxed) → boxed ≡ boxed_at bytes at
    → line_text depth (tbox bytes at) boxed.head (boxed.to - boxed.head) ≡ line_text depth (tbox bytes at) at (length_at bytes at)
line_same bytes depth at boxed is =
    let head : boxed.head ≡ at = ap (λ (b : Boxed). b.head) is in
    let end : boxed.to ≡ at + length_at bytes at = ap (λ (b : Boxed). b.to) is in
    let size : boxed.to - boxed.head ≡ length_at bytes at = omega arith in
    rw (size, head) refl

-- past a box that isn't opened
pub walked_closed : (bytes : List ℕ) (level : Level) (depth from stop at : ℕ) (boxed : Boxed) (start now after : List ℕ) → IsWalked bytes level depth from stop at start now
    → stop ≤ length bytes → first_broken bytes (is_top level) stop at ≡ None → boxed ≡ boxed_at bytes at → opened level (tbox bytes at) ≡ None
    → after ≡ now ++ line_text depth (tbox bytes at) boxed.head (boxed.to - boxed.head) → IsWalked bytes level depth from stop boxed.to start after
walked_closed bytes level depth from stop at boxed start now after before most none is closed text =
    let line : List ℕ = line_text depth (tbox bytes at) boxed.head (boxed.to - boxed.head) in
    walked_next bytes level depth from stop at boxed.to start now line after Ended before most none
    (ap (λ (b : Boxed). b.to) is) (inside_none bytes level at closed) (line_same bytes depth at boxed is) (text ∙ sym (append-nil (now ++ line)))

-- past a box that is opened
pub walked_opened : (bytes : List ℕ) (level within : Level) (depth from stop at : ℕ) (boxed : Boxed) (start now lined after : List ℕ) → IsWalked bytes level depth from stop at start now
    → stop ≤ length bytes → first_broken bytes (is_top level) stop at ≡ None → boxed ≡ boxed_at bytes at → opened level (tbox bytes at) ≡ Some within
    → lined ≡ now ++ line_text depth (tbox bytes at) boxed.head (boxed.to - boxed.head) → AddsLines bytes within (depth + 1) boxed.from boxed.to lined after
    → IsWalked bytes level depth from stop boxed.to start after
walked_opened bytes level within depth from stop at boxed start now lined after before most none is open_ text adds =
    let line : List ℕ = line_text depth (tbox bytes at) boxed.head (boxed.to - boxed.head) in
    let begin : boxed.from ≡ from_at bytes at = ap (λ (b : Boxed). b.from) is in
    let end : boxed.to ≡ end_at bytes at = ap (λ (b : Boxed). b.to) is in
    let fills : Fills bytes within (from_at bytes at) (end_at bytes at) adds.tree =
    subst (λ (m : ℕ). Fills bytes within (from_at bytes at) m adds.tree) end (subst (λ (m : ℕ). Fills bytes within m boxed.to adds.tree) begin adds.fills) in
    walked_next bytes level depth from stop at boxed.to start now line after adds.tree before most none
    end (inside_some bytes level within at adds.tree open_ fills) (line_same bytes depth at boxed is)
    (adds.added ∙ ap (λ (t : List ℕ). t ++ tree_text bytes (depth + 1) adds.tree) text)

-- ---- its ends
pub walked_all : (bytes : List ℕ) (level : Level) (depth from stop at : ℕ) (start now : List ℕ) → IsWalked bytes level depth from stop at start now → stop ≤ at
    → AddsLines bytes level depth from stop start now
walked_all bytes level depth from stop at start now before past =
    let within : at ≤ stop = before.within in
    let end : at ≡ stop = omega arith in
    let d = before.lines Ended end in
    record { tree = d.0; fills = d.1; added = sym (append-nil now) ∙ d.2 }

pub broken_here : (bytes : List ℕ) (level : Level) (depth from stop at : ℕ) (start now : List ℕ) (wrong : BoxFault) → IsWalked bytes level depth from stop at start now → at < stop
    → IsBroken bytes (is_top level) stop at wrong → IsLevelFault bytes level from stop wrong
broken_here bytes level depth from stop at start now (fault.Rule number place) before inside h =
    before.fault number place (record { way = Here; leads = (h.1, (λ (e : at ≡ stop). absurd (omega arith)), h.0) })
broken_here bytes level depth from stop at start now fault.NoMemory before inside h = absurd h

into_box : (bytes : List ℕ) (level within : Level) (at number place : ℕ) (way : Way) → opened level (tbox bytes at) ≡ Some within
    → LeadsTo bytes number place within (from_at bytes at) (end_at bytes at) way
    → MatchOption (opened level (tbox bytes at)) ⊥ (λ inner. LeadsTo bytes number place inner (from_at bytes at) (end_at bytes at) way)
into_box bytes level within at number place way e h = rw e h

pub broken_inside : (bytes : List ℕ) (level within : Level) (depth from stop at : ℕ) (boxed : Boxed) (start now : List ℕ) (wrong : BoxFault) → IsWalked bytes level depth from stop at start now
    → first_broken bytes (is_top level) stop at ≡ None → boxed ≡ boxed_at bytes at → opened level (tbox bytes at) ≡ Some within
    → IsLevelFault bytes within boxed.from boxed.to wrong → IsLevelFault bytes level from stop wrong
broken_inside bytes level within depth from stop at boxed start now (fault.Rule number place) before none is open_ h =
    let begin : boxed.from ≡ from_at bytes at = ap (λ (b : Boxed). b.from) is in
    let end : boxed.to ≡ end_at bytes at = ap (λ (b : Boxed). b.to) is in
    let leads : LeadsTo bytes number place within (from_at bytes at) (end_at bytes at) h.way =
    subst (λ (m : ℕ). LeadsTo bytes number place within (from_at bytes at) m h.way) end (subst (λ (m : ℕ). LeadsTo bytes number place within m boxed.to h.way) begin h.leads) in
    before.fault number place (record { way = Into h.way; leads = (none, into_box bytes level within at number place h.way open_ leads) })
broken_inside bytes level within depth from stop at boxed start now fault.NoMemory before none is open_ h = tt

-- ---- a file has one tree, or one box that breaks a rule first
pub one_tree : (bytes : List ℕ) (level : Level) (at stop : ℕ) (s t : Tree) → Fills bytes level at stop s → Fills bytes level at stop t → s ≡ t
one_tree bytes level at stop Ended Ended f g = refl
one_tree bytes level at stop Ended (Next p i a) f g = absurd (none_at_end bytes (is_top level) stop at g.1 f)
one_tree bytes level at stop (Next p i a) Ended f g = absurd (none_at_end bytes (is_top level) stop at f.1 g)
one_tree bytes level at stop (Next p i a) (Next q j c) f g =
    let places : p ≡ q = f.0 ∙ sym g.0 in
    let inside : i ≡ j =
    (elim (opened level (tbox bytes at)) as (λ o. MatchOption o (i ≡ Ended) (λ l. Fills bytes l (from_at bytes at) (end_at bytes at) i)
    → MatchOption o (j ≡ Ended) (λ l. Fills bytes l (from_at bytes at) (end_at bytes at) j) → i ≡ j) [
      | None ↦ λ x y. x ∙ sym y
      | Some l ↦ λ x y. one_tree bytes l (from_at bytes at) (end_at bytes at) i j x y
    ]) f.2 g.2 in
    let after : a ≡ c = one_tree bytes level (end_at bytes at) stop a c f.3 g.3 in
    rw (places, inside, after) refl

pub tree_or_fault : (bytes : List ℕ) (number place : ℕ) (level : Level) (at stop : ℕ) (t : Tree) (w : Way)
    → Fills bytes level at stop t → LeadsTo bytes number place level at stop w → ⊥
tree_or_fault bytes number place level at stop Ended Here f g = g.1 f
tree_or_fault bytes number place level at stop Ended (Past j w) f g = none_at_end bytes (is_top level) stop at g.0 f
tree_or_fault bytes number place level at stop Ended (Into w) f g = none_at_end bytes (is_top level) stop at g.0 f
tree_or_fault bytes number place level at stop (Next p i a) Here f g =
    let none : first_broken bytes (is_top level) stop at ≡ None = f.1 in
    let some : first_broken bytes (is_top level) stop at ≡ Some number = g.2 in
    absurd (cc)
tree_or_fault bytes number place level at stop (Next p i a) (Past j w) f g = tree_or_fault bytes number place level (end_at bytes at) stop a w f.3 g.2
tree_or_fault bytes number place level at stop (Next p i a) (Into w) f g =
    (elim (opened level (tbox bytes at)) as (λ o. MatchOption o (i ≡ Ended) (λ l. Fills bytes l (from_at bytes at) (end_at bytes at) i)
    → MatchOption o ⊥ (λ l. LeadsTo bytes number place l (from_at bytes at) (end_at bytes at) w) → ⊥) [
      | None ↦ λ x y. y
      | Some l ↦ λ x y. tree_or_fault bytes number place l (from_at bytes at) (end_at bytes at) i w x y
    ]) f.2 g.1

pub one_fault : (bytes : List ℕ) (number place number2 place2 : ℕ) (level : Level) (at stop : ℕ) (v w : Way)
    → LeadsTo bytes number place level at stop v → LeadsTo bytes number2 place2 level at stop w → (number ≡ number2) × (place ≡ place2)
one_fault bytes number place number2 place2 level at stop Here Here f g =
    let first : first_broken bytes (is_top level) stop at ≡ Some number = f.2 in
    let second : first_broken bytes (is_top level) stop at ≡ Some number2 = g.2 in
    let numbers : number ≡ number2 = cc in
    (numbers, f.0 ∙ sym g.0)
one_fault bytes number place number2 place2 level at stop Here (Past j w) f g =
    let first : first_broken bytes (is_top level) stop at ≡ Some number = f.2 in
    let second : first_broken bytes (is_top level) stop at ≡ None = g.0 in
    absurd (cc)
one_fault bytes number place number2 place2 level at stop Here (Into w) f g =
    let first : first_broken bytes (is_top level) stop at ≡ Some number = f.2 in
    let second : first_broken bytes (is_top level) stop at ≡ None = g.0 in
    absurd (cc)
one_fault bytes number place number2 place2 level at stop (Past i v) Here f g =
    let first : first_broken bytes (is_top level) stop at ≡ None = f.0 in
    let second : first_broken bytes (is_top level) stop at ≡ Some number2 = g.2 in
    absurd (cc)
one_fault bytes number place number2 place2 level at stop (Past i v) (Past j w) f g =
    one_fault bytes number place number2 place2 level (end_at bytes at) stop v w f.2 g.2
one_fault bytes number place number2 place2 level at stop (Past i v) (Into w) f g =
    absurd ((elim (opened level (tbox bytes at)) as (λ o. MatchOption o (i ≡ Ended) (λ l. Fills bytes l (from_at bytes at) (end_at bytes at) i)
    → MatchOption o ⊥ (λ l. LeadsTo bytes number2 place2 l (from_at bytes at) (end_at bytes at) w) → ⊥) [
      | None ↦ λ x y. y
      | Some l ↦ λ x y. tree_or_fault bytes number2 place2 l (from_at bytes at) (end_at bytes at) i w x y
    ]) f.1 g.1)
one_fault bytes number place number2 place2 level at stop (Into v) Here f g =
    let first : first_broken bytes (is_top level) stop at ≡ None = f.0 in
    let second : first_broken bytes (is_top level) stop at ≡ Some number2 = g.2 in
    absurd (cc)
one_fault bytes number place number2 place2 level at stop (Into v) (Past j w) f g =
    absurd ((elim (opened level (tbox bytes at)) as (λ o. MatchOption o (j ≡ Ended) (λ l. Fills bytes l (from_at bytes at) (end_at bytes at) j)
    → MatchOption o ⊥ (λ l. LeadsTo bytes number place l (from_at bytes at) (end_at bytes at) v) → ⊥) [
      | None ↦ λ x y. y
      | Some l ↦ λ x y. tree_or_fault bytes number place l (from_at bytes at) (end_at bytes at) j v x y
    ]) g.1 f.1)
one_fault bytes number place number2 place2 level at stop (Into v) (Into w) f g =
    (elim (opened level (tbox bytes at)) as (λ o. MatchOption o ⊥ (λ l. LeadsTo bytes number place l (from_at bytes at) (end_at bytes at) v)
    → MatchOption o ⊥ (λ l. LeadsTo bytes number2 place2 l (from_at bytes at) (end_at bytes at) w) → (number ≡ number2) × (place ≡ place2)) [
      | None ↦ λ x y. absurd x
      | Some l ↦ λ x y. one_fault bytes number place number2 place2 l (from_at bytes at) (end_at bytes at) v w x y
    ]) f.1 g.1

-- ---- and it has one of the two
abbrev pub HasTree : List ℕ → Level → ℕ → ℕ → Type 0
HasTree bytes level at stop = ((tree : Tree) × Fills bytes level at stop tree) ⊎ ((number : ℕ) × (place : ℕ) × BreaksFirst bytes level at stop number place)

-- what is in a box
abbrev HasInside : List ℕ → Level → ℕ → Type 0
HasInside bytes level at = ((inside : Tree) × IsInside bytes level at inside) ⊎ ((number : ℕ) × (place : ℕ) × (way : Way) ×
    MatchOption (opened level (tbox bytes at)) ⊥ (λ within. LeadsTo bytes number place within (from_at bytes at) (end_at bytes at) way))

inside_opened : (bytes : List ℕ) (level within : Level) (at : ℕ) → opened level (tbox bytes at) ≡ Some within
    → HasTree bytes within (from_at bytes at) (end_at bytes at) → HasInside bytes level at
inside_opened bytes level within at is (inl (tree, fills)) = inl (tree, inside_some bytes level within at tree is fills)
inside_opened bytes level within at is (inr (number, place, broken)) =
    inr (number, place, broken.way, into_box bytes level within at number place broken.way is broken.leads)

has_next : (bytes : List ℕ) (level : Level) (at stop : ℕ) → first_broken bytes (is_top level) stop at ≡ None → HasInside bytes level at
    → HasTree bytes level (end_at bytes at) stop → HasTree bytes level at stop
has_next bytes level at stop none (inl (inside, is)) (inl (after, fills)) = inl (Next at inside after, (refl, none, is, fills))
has_next bytes level at stop none (inl (inside, is)) (inr (number, place, broken)) =
    inr (number, place, record { way = Past inside broken.way; leads = (none, is, broken.leads) })
has_next bytes level at stop none (inr (number, place, way, leads)) after = inr (number, place, record { way = Into way; leads = (none, leads) })

has_from : (bytes : List ℕ) (most : ℕ) (level : Level) (at stop : ℕ) → stop ≤ at + most → at ≤ stop → stop ≤ length bytes → HasTree bytes level at stop
has_from bytes zero level at stop enough span within = let end : at ≡ stop = omega arith in inl (Ended, end)
has_from bytes (suc most) level at stop enough span within = elim (cases_lt at stop) [
  | inr past ↦ let end : at ≡ stop = omega arith in inl (Ended, end)
  | inl inside ↦ elim (cases_of (first_broken bytes (is_top level) stop at)) [
    | inr (number, broken) ↦ inr (number, at, record { way = Here; leads = (refl, (λ (e : at ≡ stop). absurd (omega arith)), broken) })
    | inl none ↦
        let step = sound bytes (is_top level) stop at within none in
        let grows : 8 ≤ length_at bytes at = step.grows in
        let ends : at + length_at bytes at ≤ stop = step.ends in
        let size = step.size in
        let some = at_least (form_of (lbox bytes at)) in
        has_next bytes level at stop none (elim (cases_of (opened level (tbox bytes at))) [
          | inl closed ↦ inl (Ended, inside_none bytes level at closed)
          | inr (inner, is) ↦ inside_opened bytes level inner at is
              (has_from bytes most inner (from_at bytes at) (end_at bytes at) (omega (arith, size, some)) (omega (arith, size)) (omega arith))
        ]) (has_from bytes most level (end_at bytes at) stop (omega arith) (omega arith) within)
  ]
]

pub has_tree : (bytes : List ℕ) → HasTree bytes levels.Top 0 (length bytes)
has_tree bytes = has_from bytes (length bytes) levels.Top 0 (length bytes) (omega arith) (omega arith) (omega arith)
