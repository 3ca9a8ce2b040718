-- The walk over the boxes of the top level up to the first codestream, or to the first rule that is broken.
use Rattle.std.proofs.Common.{◌≡◌, ◌≢◌, ◌≤◌, ◌<◌, ◌+◌, ℕ, zero, suc, arith, refl, sym, ap, subst, ◌∙◌, true, false, List, [], ◌∷◌, length, Some, None, inl, inr, ◌⊎◌, ◌==◌, Result, Ok, Err, IfOk, IfErr}
use Rattle.std.proofs.lemmas.Bool.{cases_Bool, cases_eq, cases_lt, eq-eqb, ne_eqb}
use Rattle.jx_jp2.specs.declared.Boxed.{Boxed}
use Rattle.jx_jp2.specs.declared.faults.BoxFault.{BoxFault}
use Rattle.jx_jp2.specs.declared.faults.BoxFault.TheVariants as fault
use Rattle.jx_jp2.specs.Heads.{tbox, length_at, end_at, boxed_at, first_broken, IsBroken}
use Rattle.jx_jp2.specs.Kinds.{jp2c}
use Rattle.jx_jp2.specs.Codestream.{rule_at, OthersUpTo, IsNextCodestream, IsNextFault, IsCodestream, IsFault}
use Rattle.jx_jp2.proofs.HeadLemmas.{cases_of, sound}

-- ---- the rule at a place
pub rule_inside : (bytes : List ℕ) (at : ℕ) → at < length bytes → rule_at bytes at ≡ first_broken bytes true (length bytes) at
unfolding rule_at
rule_inside bytes at inside =
    let f : (at == length bytes) ≡ false = ne_eqb at (length bytes) (λ (e : at ≡ length bytes). absurd (omega arith)) in
    rw f refl

pub rule_past : (bytes : List ℕ) (at : ℕ) → at ≡ length bytes → rule_at bytes at ≡ Some 35
unfolding rule_at
rule_past bytes at end = let t : (at == length bytes) ≡ true = eq-eqb at (length bytes) end in rw t refl

pub none_broken : (bytes : List ℕ) (at : ℕ) → rule_at bytes at ≡ None → first_broken bytes true (length bytes) at ≡ None
unfolding rule_at
none_broken bytes at none = elim (cases_Bool (at == length bytes)) [
  | inl t ↦ let e = rw t at none in absurd (cc)
  | inr f ↦ rw f at none
]

-- ---- the walk
pub record IsReached (bytes : List ℕ) (at : ℕ) : Type 0 where
  pub within : at ≤ length bytes
  pub found : (boxed : Boxed) → IsNextCodestream bytes at boxed → IsNextCodestream bytes 0 boxed
  pub fault : (number place : ℕ) → IsNextFault bytes at number place → IsNextFault bytes 0 number place

pub reached_first : (bytes : List ℕ) → IsReached bytes 0
reached_first bytes = record { within = omega arith; found = λ boxed h. h; fault = λ number place h. h }

pub reached_next : (bytes : List ℕ) (at : ℕ) (boxed : Boxed) → IsReached bytes at → at < length bytes → first_broken bytes true (length bytes) at ≡ None
    → tbox bytes at ≢ jp2c → boxed ≡ boxed_at bytes at → IsReached bytes boxed.to
reached_next bytes at boxed before inside none other is =
    let step = sound bytes true (length bytes) at (omega arith) none in
    let end : boxed.to ≡ end_at bytes at = ap (λ (b : Boxed). b.to) is in
    let clear : rule_at bytes at ≡ None = rule_inside bytes at inside ∙ none in
    record {
      within = omega (arith, step.ends, end);
      found = λ (found : Boxed) (h : IsNextCodestream bytes boxed.to found). before.found found (record {
        before = at ∷ h.before;
        others = (refl, clear, other, subst (λ (m : ℕ). OthersUpTo bytes m h.before found.head) end h.others);
        sound = h.sound;
        kind = h.kind;
        is = h.is;
      });
      fault = λ (number place : ℕ) (h : IsNextFault bytes boxed.to number place). before.fault number place (record {
        before = at ∷ h.before;
        others = (refl, clear, other, subst (λ (m : ℕ). OthersUpTo bytes m h.before place) end h.others);
        broken = h.broken;
      });
    }

-- ---- its ends
pub found_here : (bytes : List ℕ) (at : ℕ) (boxed : Boxed) → IsReached bytes at → at < length bytes → first_broken bytes true (length bytes) at ≡ None
    → tbox bytes at ≡ jp2c → boxed ≡ boxed_at bytes at → IsCodestream bytes boxed
found_here bytes at boxed before inside none kind is =
    let head : at ≡ boxed.head = sym (ap (λ (b : Boxed). b.head) is) in
    before.found boxed (record {
      before = [];
      others = head;
      sound = subst (λ (m : ℕ). rule_at bytes m ≡ None) head (rule_inside bytes at inside ∙ none);
      kind = subst (λ (m : ℕ). tbox bytes m ≡ jp2c) head kind;
      is = subst (λ (m : ℕ). boxed ≡ boxed_at bytes m) head is;
    })

pub broken_here : (bytes : List ℕ) (at : ℕ) (wrong : BoxFault) → IsReached bytes at → at < length bytes → IsBroken bytes true (length bytes) at wrong → IsFault bytes wrong
broken_here bytes at (fault.Rule number place) before inside h =
    before.fault number place (record {
      before = [];
      others = sym h.1;
      broken = subst (λ (m : ℕ). rule_at bytes m ≡ Some number) (sym h.1) (rule_inside bytes at inside ∙ h.0);
    })
broken_here bytes at fault.NoMemory before inside h = absurd h

pub none_here : (bytes : List ℕ) (at : ℕ) → IsReached bytes at → length bytes ≤ at → IsNextFault bytes 0 35 (length bytes)
none_here bytes at before past =
    let within : at ≤ length bytes = before.within in
    let end : at ≡ length bytes = omega arith in
    before.fault 35 (length bytes) (record { before = []; others = end; broken = rule_past bytes (length bytes) refl })

-- ---- a walk has one end
meet : (bytes : List ℕ) (xs ys : List ℕ) (at p q : ℕ) → OthersUpTo bytes at xs p → OthersUpTo bytes at ys q
    → (rule_at bytes p ≡ None → tbox bytes p ≢ jp2c → ⊥) → (rule_at bytes q ≡ None → tbox bytes q ≢ jp2c → ⊥) → p ≡ q
meet bytes [] [] at p q hp hq ends_p ends_q = sym hp ∙ hq
meet bytes [] (y ∷ ys) at p q hp hq ends_p ends_q =
    absurd (ends_p (subst (λ (m : ℕ). rule_at bytes m ≡ None) hp hq.1) (subst (λ (m : ℕ). tbox bytes m ≢ jp2c) hp hq.2))
meet bytes (x ∷ xs) [] at p q hp hq ends_p ends_q =
    absurd (ends_q (subst (λ (m : ℕ). rule_at bytes m ≡ None) hq hp.1) (subst (λ (m : ℕ). tbox bytes m ≢ jp2c) hq hp.2))
meet bytes (x ∷ xs) (y ∷ ys) at p q hp hq ends_p ends_q = meet bytes xs ys (end_at bytes at) p q hp.3 hq.3 ends_p ends_q

found_ends : (bytes : List ℕ) (at : ℕ) (boxed : Boxed) → IsNextCodestream bytes at boxed → rule_at bytes boxed.head ≡ None → tbox bytes boxed.head ≢ jp2c → ⊥
found_ends bytes at boxed h none other = other h.kind

fault_ends : (bytes : List ℕ) (at number place : ℕ) → IsNextFault bytes at number place → rule_at bytes place ≡ None → tbox bytes place ≢ jp2c → ⊥
fault_ends bytes at number place h none other =
    let broken : rule_at bytes place ≡ Some number = h.broken in
    absurd (cc)

pub same_codestream : (bytes : List ℕ) (first second : Boxed) → IsCodestream bytes first → IsCodestream bytes second → first ≡ second
same_codestream bytes first second f s =
    let heads : first.head ≡ second.head =
    meet bytes f.before s.before 0 first.head second.head f.others s.others (found_ends bytes 0 first f) (found_ends bytes 0 second s) in
    f.is ∙ (ap (λ (m : ℕ). boxed_at bytes m) heads ∙ sym s.is)

pub found_or_fault : (bytes : List ℕ) (boxed : Boxed) (number place : ℕ) → IsCodestream bytes boxed → IsNextFault bytes 0 number place → ⊥
found_or_fault bytes boxed number place f s =
    let heads : boxed.head ≡ place = meet bytes f.before s.before 0 boxed.head place f.others s.others (found_ends bytes 0 boxed f) (fault_ends bytes 0 number place s) in
    let none : rule_at bytes boxed.head ≡ None = f.sound in
    let broken : rule_at bytes place ≡ Some number = s.broken in
    let same : rule_at bytes boxed.head ≡ rule_at bytes place = ap (λ (m : ℕ). rule_at bytes m) heads in
    absurd (cc)

pub same_fault : (bytes : List ℕ) (number place number2 place2 : ℕ) → IsNextFault bytes 0 number place → IsNextFault bytes 0 number2 place2
    → (number ≡ number2) × (place ≡ place2)
same_fault bytes number place number2 place2 f s =
    let places : place ≡ place2 = meet bytes f.before s.before 0 place place2 f.others s.others (fault_ends bytes 0 number place f) (fault_ends bytes 0 number2 place2 s) in
    let broken : rule_at bytes place ≡ Some number = f.broken in
    let broken2 : rule_at bytes place2 ≡ Some number2 = s.broken in
    let same : rule_at bytes place ≡ rule_at bytes place2 = ap (λ (m : ℕ). rule_at bytes m) places in
    let numbers : number ≡ number2 = cc in
    (numbers, places)

-- ---- so what is answered is the one answer
pub only_found : (bytes : List ℕ) (r : Result Boxed BoxFault) → IfOk r (λ boxed. IsCodestream bytes boxed) → IfErr r (λ wrong. IsFault bytes wrong)
    → (boxed : Boxed) → IsCodestream bytes boxed → r ≡ Ok boxed
only_found bytes (Ok found) ok err boxed h = ap (λ (b : Boxed). Ok b) (same_codestream bytes found boxed ok h)
only_found bytes (Err (fault.Rule number place)) ok err boxed h = absurd (found_or_fault bytes boxed number place h err)
only_found bytes (Err fault.NoMemory) ok err boxed h = absurd err

pub only_fault : (bytes : List ℕ) (r : Result Boxed BoxFault) → IfOk r (λ boxed. IsCodestream bytes boxed) → IfErr r (λ wrong. IsFault bytes wrong)
    → (number place : ℕ) → IsNextFault bytes 0 number place → r ≡ Err (fault.Rule number place)
only_fault bytes (Ok found) ok err number place h = absurd (found_or_fault bytes found number place ok h)
only_fault bytes (Err (fault.Rule number2 place2)) ok err number place h =
    let same = same_fault bytes number2 place2 number place err h in
    let numbers : number2 ≡ number = same.0 in
    let places : place2 ≡ place = same.1 in
    rw (numbers, places) refl
only_fault bytes (Err fault.NoMemory) ok err number place h = absurd err

-- ---- a walk comes to an end
abbrev pub HasEnd : List ℕ → Type 0
HasEnd bytes = ((boxed : Boxed) × IsCodestream bytes boxed) ⊎ ((number : ℕ) × (place : ℕ) × IsNextFault bytes 0 number place)

ends_at_end : (bytes : List ℕ) (at : ℕ) → IsReached bytes at → length bytes ≤ at → HasEnd bytes
ends_at_end bytes at before past = inr (35, length bytes, none_here bytes at before past)

ends_from : (bytes : List ℕ) (most at : ℕ) → length bytes ≤ at + most → IsReached bytes at → HasEnd bytes
ends_from bytes zero at enough before = ends_at_end bytes at before (omega arith)
ends_from bytes (suc most) at enough before = elim (cases_lt at (length bytes)) [
  | inr past ↦ ends_at_end bytes at before past
  | inl inside ↦ elim (cases_of (first_broken bytes true (length bytes) at)) [
    | inr (number, broken) ↦ inr (number, at, broken_here bytes at (fault.Rule number at) before inside (broken, refl))
    | inl none ↦ elim (cases_eq (tbox bytes at) jp2c) [
      | inl kind ↦ inl (boxed_at bytes at, found_here bytes at (boxed_at bytes at) before inside none kind refl)
      | inr other ↦
          let step = sound bytes true (length bytes) at (omega arith) none in
          let grows : 8 ≤ length_at bytes at = step.grows in
          ends_from bytes most (end_at bytes at) (omega arith) (reached_next bytes at (boxed_at bytes at) before inside none other refl)
    ]
  ]
]

pub has_end : (bytes : List ℕ) → HasEnd bytes
has_end bytes = ends_from bytes (length bytes) 0 (omega arith) (reached_first bytes)
