-- What lies where in a closed table.
use Rattle.std.proofs.Common.{◌≡◌, ℕ, ◌+◌, ◌%◌, ◌<◌, ◌≤◌, List, sym, ap, ◌∙◌, inl, inr, arith}
use Rattle.std.specs.Global.{Vec}
use Rattle.std.proofs.lemmas.Bool.{cases_lt}
use mathlib.Core.Option.{some, some-injective}
use lib.ListN.{get_elem?}
use Rattle.jx_store.specs.declared.event.Taped.{Taped}
use Rattle.jx_store.specs.declared.work.Named.{Named}
use Rattle.jx_store.specs.Setup.{Setup}
use Rattle.jx_ring.specs.declared.view.Taken.{Taken}
use Rattle.jx_ring.specs.declared.view.Place.{Place}
use Rattle.jx_ring.specs.declared.view.Place.TheVariants.{Empty, Full, Tape}
use Rattle.jx_ring.specs.Closing.{Shut}
use Rattle.jx_ring.proofs.Gathers.{other_place}

module _ {V : Type 0} where
  abbrev tape_in : Vec (Taped (Named V)) → Place V → Vec (Taped (Named V))
  tape_in z Empty = z
  tape_in z (Full y) = z
  tape_in z (Tape v) = v

  same_tape : (a b : Vec (Taped (Named V))) → ◌≡◌ {A = Place V} (Tape a) (Tape b) → a ≡ b
  same_tape a b e = ap (tape_in a) e

module _ {V : Type 0} (p : Setup) (Ok : ℕ → Named V → Type 0) (claims : List Taken) (seen d : ℕ) (slots : List (Place V)) (x : Shut p Ok claims seen d slots) where
  -- the tape lies behind the window
  pub tape_place : (w : ℕ) (y : Place V) → w ≡ p.window → get_elem? slots w ≡ some y → y ≡ Tape x.tape
  tape_place w y e at = some-injective y (Tape x.tape) (sym at ∙ (ap (λ (n : ℕ). get_elem? slots n) e ∙ x.kept))

  pub tape_here : (w : ℕ) (t : Vec (Taped (Named V))) → w ≡ p.window → get_elem? slots w ≡ some (Tape t) → t ≡ x.tape
  tape_here w t e at = same_tape t x.tape (tape_place w (Tape t) e at)

  -- and at no number's place
  pub no_tape : (k : ℕ) (t : Vec (Taped (Named V))) → d ≤ k → k < d + p.window → get_elem? slots (k % p.window) ≡ some (Tape t) → ⊥
  no_tape k t low high at = elim (cases_lt k x.next) [
    | inl lt ↦ other_place (Tape t) (Full (x.entry k)) (some-injective (Tape t) (Full (x.entry k)) (sym at ∙ (x.parked k low lt).0)) (λ e. omega (arith, e))
    | inr le ↦ other_place (Tape t) Empty (some-injective (Tape t) Empty (sym at ∙ x.empty k le high)) (λ e. omega (arith, e))
  ]
