-- The walk over the boxes of the top level whose types are told.
use Rattle.std.proofs.Common.{◌≡◌, ◌≤◌, ◌<◌, ◌++◌, ℕ, arith, refl, sym, ap, subst, ◌∙◌, true, List, [], ◌∷◌, length, map, None}
use Rattle.jx_jp2.specs.declared.Boxed.{Boxed}
use Rattle.jx_jp2.specs.declared.faults.BoxFault.{BoxFault}
use Rattle.jx_jp2.specs.declared.faults.BoxFault.TheVariants as fault
use Rattle.jx_jp2.specs.Heads.{tbox, end_at, boxed_at, first_broken, IsBroken}
use Rattle.jx_jp2.specs.Codestream.{rule_at}
use Rattle.jx_jp2.specs.Positions.{SoundUpTo}
use Rattle.jx_jp2.specs.Names.{AreKinds}
use Rattle.jx_jp2.proofs.HeadLemmas.{sound}
use Rattle.jx_jp2.proofs.FindLemmas.{rule_inside, rule_past}

-- the boxes before a place are sound, and these are their types
pub record AreBefore (bytes : List ℕ) (at : ℕ) (kinds : List ℕ) : Type 0 where
  pub within : at ≤ length bytes
  pub places : List ℕ
  pub boxes : SoundUpTo bytes 0 places at
  pub is : kinds ≡ map (tbox bytes) places

pub before_first : (bytes : List ℕ) → AreBefore bytes 0 []
before_first bytes = record { within = omega arith; places = []; boxes = refl; is = refl }

one_more : (bytes : List ℕ) (at : ℕ) (places : List ℕ) (stop : ℕ) → SoundUpTo bytes at places stop → rule_at bytes stop ≡ None
    → SoundUpTo bytes at (places ++ stop ∷ []) (end_at bytes stop)
one_more bytes at [] stop boxes none =
    (sym boxes, subst (λ (m : ℕ). rule_at bytes m ≡ None) (sym boxes) none, ap (λ (m : ℕ). end_at bytes m) boxes)
one_more bytes at (place ∷ places) stop boxes none = (boxes.0, boxes.1, one_more bytes (end_at bytes at) places stop boxes.2 none)

map_more : (f : ℕ → ℕ) (places : List ℕ) (stop : ℕ) → map f (places ++ stop ∷ []) ≡ map f places ++ f stop ∷ []
map_more f [] stop = refl
map_more f (place ∷ places) stop = ap (λ (xs : List ℕ). f place ∷ xs) (map_more f places stop)

pub before_next : (bytes : List ℕ) (at kind : ℕ) (kinds more : List ℕ) (boxed : Boxed) → AreBefore bytes at kinds → at < length bytes → first_broken bytes true (length bytes) at ≡ None
    → boxed ≡ boxed_at bytes at → kind ≡ tbox bytes at → more ≡ kinds ++ kind ∷ [] → AreBefore bytes boxed.to more
before_next bytes at kind kinds more boxed before inside none is named pushed =
    let step = sound bytes true (length bytes) at (omega arith) none in
    let end : boxed.to ≡ end_at bytes at = ap (λ (b : Boxed). b.to) is in
    record {
      within = omega (arith, step.ends, end);
      places = before.places ++ at ∷ [];
      boxes = subst (λ (m : ℕ). SoundUpTo bytes 0 (before.places ++ at ∷ []) m) (sym end) (one_more bytes 0 before.places at before.boxes (rule_inside bytes at inside ∙ none));
      is = pushed ∙ (ap (λ (k : ℕ). kinds ++ k ∷ []) named ∙ (ap (λ (ks : List ℕ). ks ++ tbox bytes at ∷ []) before.is ∙ sym (map_more (tbox bytes) before.places at)));
    }

-- ---- its ends
pub kinds_to_broken : (bytes : List ℕ) (at : ℕ) (kinds : List ℕ) (wrong : BoxFault) → AreBefore bytes at kinds → at < length bytes → IsBroken bytes true (length bytes) at wrong → AreKinds bytes kinds
kinds_to_broken bytes at kinds (fault.Rule number place) before inside broken =
    record { places = before.places; stop = at; number = number; boxes = before.boxes; last = rule_inside bytes at inside ∙ broken.0; is = before.is }
kinds_to_broken bytes at kinds fault.NoMemory before inside broken = absurd broken

pub kinds_to_end : (bytes : List ℕ) (at : ℕ) (kinds : List ℕ) → AreBefore bytes at kinds → length bytes ≤ at → AreKinds bytes kinds
kinds_to_end bytes at kinds before past =
    let within : at ≤ length bytes = before.within in
    record { places = before.places; stop = at; number = 35; boxes = before.boxes; last = rule_past bytes at (omega arith); is = before.is }
