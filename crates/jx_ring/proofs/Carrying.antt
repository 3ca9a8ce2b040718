-- What a seat has taken, read off its list of slots.
use Rattle.std.proofs.Common.{◌≡◌, ℕ, zero, suc, ◌+◌, ◌<◌, ◌⊎◌, List, [], ◌∷◌, ◌++◌, length, refl, sym, ap, subst, inl, inr, ⊎_elim, arith}
use Rattle.std.specs.Global.{Vec}
use mathlib.Core.Option.{some, some-injective, some-ne-none}
use lib.ListN.{get_elem?}
use Rattle.std.proofs.lemmas.List.{length-append}
use Rattle.jx_store.specs.declared.event.Taped.{Taped}
use Rattle.jx_store.specs.declared.work.Named.{Named}
use Rattle.jx_store.specs.Setup.{Setup, end_of}
use Rattle.jx_ring.specs.declared.view.Place.{Place}
use Rattle.jx_ring.specs.declared.view.Place.TheVariants.{Empty, Full, Tape}
use Rattle.jx_ring.specs.Rule.{EntryOk, TapeOk}

-- an item of a list that grew
pub snoc_at : {X : Type 0} (xs : List X) (e x : X) (i : ℕ) → get_elem? (xs ++ e ∷ []) i ≡ some x → (get_elem? xs i ≡ some x) ⊎ ((i ≡ length xs) × (e ≡ x))
snoc_at [] e x zero at = inr (refl, some-injective e x at)
snoc_at [] e x (suc i) at = absurd (some-ne-none x (sym at))
snoc_at (y ∷ ys) e x zero at = inl at
snoc_at (y ∷ ys) e x (suc i) at = ⊎_elim (λ (t : get_elem? ys i ≡ some x). inl t) (λ (t : (i ≡ length ys) × (e ≡ x)). inr (ap suc t.0, t.1)) (snoc_at ys e x i at)

module _ {V : Type 0} where
  abbrev pub first_of : List (ℕ × Place V) → Place V
  first_of [] = Empty
  first_of (x ∷ xs) = x.1

  abbrev tape_or : Vec (Taped (Named V)) → Place V → Vec (Taped (Named V))
  tape_or d Empty = d
  tape_or d (Full e) = d
  tape_or d (Tape v) = v

  abbrev entry_or : Taped (Named V) → Place V → Taped (Named V)
  entry_or d Empty = d
  entry_or d (Full e) = e
  entry_or d (Tape v) = d

  pub one_tape : (t u : Vec (Taped (Named V))) → ◌≡◌ {A = Place V} (Tape t) (Tape u) → t ≡ u
  one_tape t u e = ap (tape_or t) e

  pub one_entry : (x y : Taped (Named V)) → ◌≡◌ {A = Place V} (Full x) (Full y) → x ≡ y
  one_entry x y e = ap (entry_or x) e

  -- an entry goes behind the tape
  pub longer_tape : (p : Setup) (Ok : ℕ → Named V → Type 0) (xs : List (Taped (Named V))) (e : Taped (Named V)) (k : ℕ) → TapeOk p Ok xs → EntryOk p Ok k e → length xs + p.first ≡ k → k < end_of p → TapeOk p Ok (xs ++ e ∷ [])
  longer_tape p Ok xs e k ok entry long below = record {
    each = λ i x at. go i x at;
    room = (let l = length-append xs (e ∷ []) in omega (arith, l, long, below));
  }
    where
      go : (i : ℕ) (x : Taped (Named V)) → get_elem? (xs ++ e ∷ []) i ≡ some x → EntryOk p Ok (p.first + i) x
      go i x at = ⊎_elim (ok.each i x) (λ (t : (i ≡ length xs) × (e ≡ x)). subst (λ (y : Taped (Named V)). EntryOk p Ok (p.first + i) y) t.1 (let at_k : k ≡ p.first + i = (let j = t.0 in omega (arith, j, long)) in subst (λ (n : ℕ). EntryOk p Ok n e) at_k entry)) (snoc_at xs e x i at)
