-- What is left in a closed table, and the tape made of it.
use Rattle.std.specs.Prelude.{◌≡◌, ℕ, zero, suc, ◌+◌, ◌-◌, ◌%◌, ◌<◌, ◌≤◌, nat_lt, cond, List, [], ◌∷◌, ◌++◌, map, length, All, None, vec_capacity}
use Rattle.std.specs.List.{sum_by}
use Rattle.std.specs.Global.{Vec}
use mathlib.Core.Option.{some}
use lib.ListN.{get_elem?}
use Rattle.jx_store.specs.declared.event.Taped.{Taped}
use Rattle.jx_store.specs.declared.work.Named.{Named}
use Rattle.jx_store.specs.Setup.{Setup, end_of}
use Rattle.jx_ring.specs.declared.view.Taken.{Taken}
use Rattle.jx_ring.specs.declared.view.RingView.{RingView}
use Rattle.jx_ring.specs.declared.view.Place.{Place}
use Rattle.jx_ring.specs.declared.view.Place.TheVariants.{Empty, Full, Tape}
use Rattle.jx_ring.specs.Claims.{taken, stretch}
use Rattle.jx_ring.specs.Rule.{EntryOk, TapeOk}
use Rattle.jx_ring.specs.Passes.{PassView}

-- the view of a seat that took in these passes
pub record IsLast (passes : List PassView) (v : RingView) : Type 0 where
  pub holds : v.holds ≡ None
  pub drains : v.drains ≡ None
  pub stands : length v.stands ≡ length passes
  pub claims : (F : Taken → ℕ) → sum_by F v.done ≡ sum_by (λ p. sum_by F p.claims) passes
  pub next : All (λ p. p.next ≤ v.next) passes
  pub mine : All (λ p. All (λ t. t.worker ≡ p.worker) p.claims) passes

module _ {V : Type 0} (p : Setup) (Ok : ℕ → Named V → Type 0) (claims : List Taken) (seen : ℕ) where
  -- the entries of the numbers from the first on, one for each of these claims and for all numbers that
  -- were seen claimed
  pub record IsWhole (tape : List (Taped (Named V))) : Type 0 where
    pub ok : TapeOk p Ok tape
    pub same : (F : Taken → ℕ) → sum_by F (map taken tape) ≡ sum_by F claims
    pub long : seen ≤ length tape + p.first

  -- the slots of a closed table: `drained` numbers are on the tape, the others up to next are parked
  pub record Shut (drained : ℕ) (slots : List (Place V)) : Type 0 where
    pub next : ℕ
    pub entry : ℕ → Taped (Named V)
    pub tape : Vec (Taped (Named V))
    pub mid : drained ≤ next
    pub near : next ≤ drained + p.window
    pub high : next ≤ end_of p
    pub long : length tape.items + p.first ≡ drained
    pub taped : TapeOk p Ok tape.items
    pub room : length p.sizes ≤ vec_capacity tape
    pub kept : get_elem? slots p.window ≡ some (Tape tape)
    pub parked : (k : ℕ) → drained ≤ k → k < next → (get_elem? slots (k % p.window) ≡ some (Full (entry k))) × EntryOk p Ok k (entry k)
    pub empty : (k : ℕ) → next ≤ k → k < drained + p.window → get_elem? slots (k % p.window) ≡ some Empty
    pub same : (F : Taken → ℕ) → sum_by F claims ≡ sum_by F (map taken tape.items) + stretch (λ k. F (taken (entry k))) drained (next - drained)
    pub saw : seen ≤ next

-- the entries of the i numbers from d on, as far as they are below n
abbrev pub found : {V : Type 0} → ℕ → (ℕ → Taped (Named V)) → ℕ → ℕ → List (Taped (Named V))
found n entry d zero = []
found n entry d (suc i) = found n entry d i ++ cond (nat_lt (d + i) n) (entry (d + i) ∷ []) []
