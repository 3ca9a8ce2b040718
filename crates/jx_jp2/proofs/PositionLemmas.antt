-- The walk over the boxes of the top level up to the first that holds positions, or that breaks a rule.
use Rattle.std.proofs.Common.{◌≡◌, ◌≤◌, ◌<◌, ℕ, arith, refl, sym, ap, subst, ◌∙◌, true, false, List, [], ◌∷◌, length, None, Some}
use Rattle.jx_jp2.specs.declared.Boxed.{Boxed}
use Rattle.jx_jp2.specs.declared.faults.BoxFault.{BoxFault}
use Rattle.jx_jp2.specs.declared.faults.BoxFault.TheVariants as fault
use Rattle.jx_jp2.specs.Heads.{tbox, end_at, boxed_at, first_broken, IsBroken}
use Rattle.jx_jp2.specs.Codestream.{rule_at}
use Rattle.jx_jp2.specs.Positions.{has_positions, SoundUpTo, HoldsPositionsFrom, HoldsPositions}
use Rattle.jx_jp2.proofs.HeadLemmas.{sound}
use Rattle.jx_jp2.proofs.FindLemmas.{rule_inside, rule_past}

-- none of the boxes before a place holds positions: what is found from here on is what is found from the first byte on
pub record IsPassed (bytes : List ℕ) (at : ℕ) : Type 0 where
  pub within : at ≤ length bytes
  pub back : HoldsPositionsFrom bytes at → HoldsPositions bytes
  pub on : HoldsPositions bytes → HoldsPositionsFrom bytes at

pub passed_first : (bytes : List ℕ) → IsPassed bytes 0
passed_first bytes = record { within = omega arith; back = λ h. h; on = λ h. h }

past_box : (bytes : List ℕ) (at : ℕ) (xs : List ℕ) (place : ℕ) → SoundUpTo bytes at xs place → rule_at bytes place ≡ None
    → has_positions (tbox bytes place) ≡ true → has_positions (tbox bytes at) ≡ false → HoldsPositionsFrom bytes (end_at bytes at)
past_box bytes at [] place boxes none kind other =
    let here : has_positions (tbox bytes at) ≡ true = subst (λ (m : ℕ). has_positions (tbox bytes m) ≡ true) (sym boxes) kind in
    absurd (cc)
past_box bytes at (x ∷ xs) place boxes none kind other = record { before = xs; place = place; boxes = boxes.2; sound = none; kind = kind }

pub passed_next : (bytes : List ℕ) (at : ℕ) (boxed : Boxed) → IsPassed bytes at → at < length bytes → first_broken bytes true (length bytes) at ≡ None
    → has_positions (tbox bytes at) ≡ false → boxed ≡ boxed_at bytes at → IsPassed bytes boxed.to
passed_next bytes at boxed before inside none other is =
    let step = sound bytes true (length bytes) at (omega arith) none in
    let end : boxed.to ≡ end_at bytes at = ap (λ (b : Boxed). b.to) is in
    let clear : rule_at bytes at ≡ None = rule_inside bytes at inside ∙ none in
    record {
      within = omega (arith, step.ends, end);
      back = λ (h : HoldsPositionsFrom bytes boxed.to). before.back (record {
        before = at ∷ h.before;
        place = h.place;
        boxes = (refl, clear, subst (λ (m : ℕ). SoundUpTo bytes m h.before h.place) end h.boxes);
        sound = h.sound;
        kind = h.kind;
      });
      on = λ (h : HoldsPositions bytes). (
          let now : HoldsPositionsFrom bytes at = before.on h in
          subst (λ (m : ℕ). HoldsPositionsFrom bytes m) (sym end) (past_box bytes at now.before now.place now.boxes now.sound now.kind other)
          );
    }

-- ---- its ends
pub holds_here : (bytes : List ℕ) (at : ℕ) → IsPassed bytes at → at < length bytes → first_broken bytes true (length bytes) at ≡ None
    → has_positions (tbox bytes at) ≡ true → HoldsPositions bytes
holds_here bytes at before inside none kind =
    before.back (record { before = []; place = at; boxes = refl; sound = rule_inside bytes at inside ∙ none; kind = kind })

none_from : (bytes : List ℕ) (at number : ℕ) (xs : List ℕ) (place : ℕ) → rule_at bytes at ≡ Some number → SoundUpTo bytes at xs place → rule_at bytes place ≡ None → ⊥
none_from bytes at number [] place broken boxes none =
    let here : rule_at bytes at ≡ None = subst (λ (m : ℕ). rule_at bytes m ≡ None) (sym boxes) none in
    absurd (cc)
none_from bytes at number (x ∷ xs) place broken boxes none = let here : rule_at bytes at ≡ None = boxes.1 in absurd (cc)

none_behind : (bytes : List ℕ) (at number : ℕ) → IsPassed bytes at → rule_at bytes at ≡ Some number → HoldsPositions bytes → ⊥
none_behind bytes at number before broken h =
    let now : HoldsPositionsFrom bytes at = before.on h in
    none_from bytes at number now.before now.place broken now.boxes now.sound

pub broken_here : (bytes : List ℕ) (at : ℕ) (wrong : BoxFault) → IsPassed bytes at → at < length bytes → IsBroken bytes true (length bytes) at wrong
    → HoldsPositions bytes → ⊥
broken_here bytes at (fault.Rule number place) before inside broken h = none_behind bytes at number before (rule_inside bytes at inside ∙ broken.0) h
broken_here bytes at fault.NoMemory before inside broken h = broken

pub none_here : (bytes : List ℕ) (at : ℕ) → IsPassed bytes at → length bytes ≤ at → HoldsPositions bytes → ⊥
none_here bytes at before past h =
    let within : at ≤ length bytes = before.within in
    none_behind bytes at 35 before (rule_past bytes at (omega arith)) h
