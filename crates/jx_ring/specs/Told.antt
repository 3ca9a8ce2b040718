-- What each step tells its caller.
use Rattle.std.specs.Prelude.{◌≡◌, ◌≢◌, ℕ, ◌+◌, ◌%◌, ◌/◌, ◌<◌, ◌≤◌, List, [], ◌∷◌, ◌++◌, map, length, Some, None, vec_capacity}
use Rattle.atomic_table.specs.Table.{Me, Step, rest}
use Rattle.jx_store.specs.declared.event.Taped.{Taped}
use Rattle.jx_store.specs.declared.work.Named.{Named}
use Rattle.jx_store.specs.Setup.{Setup, end_of}
use Rattle.jx_ring.specs.declared.view.Taken.{Taken}
use Rattle.jx_ring.specs.declared.view.RingView.{RingView}
use Rattle.jx_ring.specs.declared.view.Place.{Place}
use Rattle.jx_ring.specs.declared.view.Place.TheVariants.{Empty, Full, Tape}
use Rattle.jx_ring.specs.Claims.{taken}
use Rattle.jx_ring.specs.Rule.{EntryOk, TapeOk}

abbrev pub Seated : Type 0 → Type 0
Seated V = Me (Place V) RingView

-- a view after each step
abbrev pub sees_drained : RingView → ℕ → RingView
sees_drained v d = record v { drained = d }

abbrev pub sees_next : RingView → ℕ → RingView
sees_next v n = record v { next = n }

abbrev pub sees_committed : RingView → RingView
sees_committed v = record v { committed = Some v.drained }

abbrev pub claims_it : RingView → ℕ → RingView
claims_it v n = record v { holds = Some (record { number = n; worker = v.worker; seen = v.drained; kind = 0 }); next = n + 1 }

abbrev pub commits_it : RingView → List Taken → RingView
commits_it v l = record v { holds = None; done = v.done ++ l }

abbrev pub begins : RingView → List Taken → RingView
begins v l = record v { drains = Some l }

abbrev pub ends : RingView → RingView
ends v = record v { drains = None; drained = v.drained + 1 }

-- the entry of a claim
abbrev pub Fulfils : {V : Type 0} → Taken → Taped (Named V) → Type 0
Fulfils t e = (e.number ≡ t.number) × (e.worker ≡ t.worker) × (e.seen ≡ t.seen)

module _ {V : Type 0} where
  -- the claim whose entry is in the slot taken last
  abbrev pub claim_out : List (ℕ × Place V) → List Taken
  claim_out [] = []
  claim_out ((i, Full e) ∷ more) = taken e ∷ []
  claim_out ((i, Empty) ∷ more) = []
  claim_out ((i, Tape v) ∷ more) = []

  module _ (p : Setup) where
    -- the drained number, whether a drain is under way or not
    abbrev pub saw_drained : Step (Place V) → Seated V → ℕ → Seated V → Type 0
    saw_drained st m r m' = (m' ≡ (sees_drained m.0 (r / 2), m.1)) × (m.0.drained ≤ r / 2) × (p.first ≤ r / 2) × (r / 2 ≤ end_of p)

    -- the next number
    abbrev pub saw_next : Step (Place V) → Seated V → ℕ → Seated V → Type 0
    saw_next st m r m' = (m' ≡ (sees_next m.0 r, m.1)) × (m.0.next ≤ r) × (m.0.drained ≤ r) × (r ≤ end_of p)

    -- whether the first number that was not drained is committed
    abbrev pub saw_word : Step (Place V) → Seated V → ℕ → Seated V → Type 0
    saw_word st m r m' = (r ≡ m.0.drained + 1 → m' ≡ (sees_committed m.0, m.1)) × (r ≢ m.0.drained + 1 → m' ≡ m)

    -- the number is the seat's, with its empty slot, or nothing changes
    abbrev pub won : Step (Place V) → Seated V → ℕ → Seated V → Type 0
    won st m r m' = (r ≡ st.first → m' ≡ (claims_it m.0 st.first, (st.first % p.window, Empty) ∷ m.1)) × (r ≢ st.first → m' ≡ m)

    -- what was in the slot taken last is parked
    abbrev pub parks : Step (Place V) → Seated V → ℕ → Seated V → Type 0
    parks st m r m' = m' ≡ (commits_it m.0 (claim_out m.1), rest m.1)

    -- the tape and the head's entry are out with the seat, or nothing changes
    abbrev pub began : (ℕ → Named V → Type 0) → Step (Place V) → Seated V → ℕ → Seated V → Type 0
    began Ok st m r m' =
        (r ≡ st.first → (t : _) × (e : Taped (Named V)) × (m' ≡ (begins m.0 (map taken t.items ++ taken e ∷ []), (p.window, Tape t) ∷ (m.0.drained % p.window, Full e) ∷ m.1))
        × TapeOk p Ok t.items × EntryOk p Ok m.0.drained e × (length t.items + p.first ≡ m.0.drained) × (m.0.drained < end_of p) × (length p.sizes ≤ vec_capacity t))
        × (r ≢ st.first → m' ≡ m)

    -- both are home again
    abbrev pub ended : Step (Place V) → Seated V → ℕ → Seated V → Type 0
    ended st m r m' = m' ≡ (ends m.0, rest (rest m.1))
