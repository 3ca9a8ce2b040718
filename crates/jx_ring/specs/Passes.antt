-- What clauses say of a store's seats and passes.
use Rattle.std.specs.Prelude.{◌≡◌, ℕ, ◌+◌, ◌%◌, ◌<◌, ◌≤◌, ◌⊎◌, List, [], ◌∷◌, ◌++◌, Option, Some, None, ◌*◌, length, slice_index_or, vec_capacity}
use mathlib.Core.Option.{some}
use lib.ListN.{get_elem?}
use Rattle.atomic_table.specs.Seated.{TableId}
use Rattle.atomic_table.specs.declared.shared.Seat.{Seat}
use Rattle.jx_store.specs.declared.claim.ClaimAnswer.{ClaimAnswer}
use Rattle.jx_store.specs.declared.claim.ClaimAnswer.TheVariants.{Claim, Full, AllClaimed}
use Rattle.jx_store.specs.Setup.{Setup, load, end_of, Within}
use Rattle.jx_ring.specs.declared.view.Taken.{Taken}
use Rattle.jx_ring.specs.declared.view.RingView.{RingView}
use Rattle.jx_ring.specs.declared.view.Place.{Place}
use Rattle.jx_ring.specs.declared.view.Place.TheVariants.{Empty, Tape}

-- what a pass shows: its store's table, its number, the claims that it committed, the one that it
-- holds, and the greatest drained and next numbers that it saw
pub record PassView : Type 0 where
  pub table : TableId
  pub worker : ℕ
  pub claims : List Taken
  pub holds : Option Taken
  pub drained : ℕ
  pub next : ℕ

-- the claim of a number
abbrev pub claim_by : ℕ → ℕ → ℕ → ℕ → Taken
claim_by worker number seen kind = record { number = number; worker = worker; seen = seen; kind = kind }

-- the numbers drained to next - 1 fill a window, or with `next` they would pass `most`
abbrev pub Fills : Setup → ℕ → ℕ → Type 0
Fills p drained next = (drained + p.window ≤ next) ⊎ ((drained < next) × (p.most < load p drained (next + 1)))

-- a pass after a call of `claim`: the same, but that it saw more
pub record SawMore (a b : PassView) : Type 0 where
  pub table : b.table ≡ a.table
  pub worker : b.worker ≡ a.worker
  pub claims : b.claims ≡ a.claims
  pub drained : a.drained ≤ b.drained
  pub next : a.next ≤ b.next

-- what an answer of `claim` says. A number given is at least all that the pass saw before, and `seen`
-- is the greatest drained number that it has seen
abbrev pub Answers : Setup → ClaimAnswer → PassView → PassView → Type 0
Answers p (Claim c) a b = SawMore a b × (b.holds ≡ Some (claim_by a.worker c.number c.seen 0)) × (b.drained ≡ c.seen) × (a.next ≤ c.number) × (b.next ≡ c.number + 1) × Within p c.seen c.number × (c.number < end_of p)
Answers p (Full n d) a b = SawMore a b × (b.holds ≡ None) × (b.drained ≡ d) × (b.next ≡ n) × Fills p d n × (n < end_of p)
Answers p AllClaimed a b = SawMore a b × (b.holds ≡ None) × (b.next ≡ end_of p)

-- a pass whose claim is committed
abbrev pub commits_claim : PassView → Taken → PassView
commits_claim a t = record a { claims = a.claims ++ t ∷ []; holds = None }

-- the same for a view
pub record SeesMore (v w : RingView) : Type 0 where
  pub worker : w.worker ≡ v.worker
  pub stands : w.stands ≡ v.stands
  pub done : w.done ≡ v.done
  pub drains : w.drains ≡ v.drains
  pub drained : v.drained ≤ w.drained
  pub next : v.next ≤ w.next

abbrev pub AnswersView : Setup → ClaimAnswer → RingView → RingView → Type 0
AnswersView p (Claim c) v w = SeesMore v w × (w.holds ≡ Some (claim_by v.worker c.number c.seen 0)) × (w.drained ≡ c.seen) × (v.next ≤ c.number) × (w.next ≡ c.number + 1) × Within p c.seen c.number × (c.number < end_of p)
AnswersView p (Full n d) v w = SeesMore v w × (w.holds ≡ None) × (w.drained ≡ d) × (w.next ≡ n) × Fills p d n × (n < end_of p)
AnswersView p AllClaimed v w = SeesMore v w × (w.holds ≡ None) × (w.next ≡ end_of p)

module _ {V : Type 0} where
  -- the slots that are out with a seat that holds this claim
  abbrev pub out : ℕ → Option Taken → List (ℕ × Place V)
  out window None = []
  out window (Some t) = (t.number % window, Empty) ∷ []

  -- the slots after a call of `claim`
  abbrev pub out_after : ℕ → ClaimAnswer → List (ℕ × Place V)
  out_after window (Claim c) = (c.number % window, Empty) ∷ []
  out_after window (Full n d) = []
  out_after window AllClaimed = []

  -- the slots at the start: empty, and the tape with its room
  pub record Row (window count : ℕ) (slots : List (Place V)) : Type 0 where
    pub wide : length slots ≡ window + 1
    pub empty : (j : ℕ) → j < window → get_elem? slots j ≡ some Empty
    pub tape : (t : _) × (get_elem? slots window ≡ some (Tape t)) × (t.items ≡ []) × (count ≤ vec_capacity t)

  -- the same seat, after a step
  abbrev pub IsSameSeat : Seat (Place V) RingView → Seat (Place V) RingView → Type 0
  IsSameSeat old new = (new.table_id ≡ old.table_id) × (new.id ≡ old.id)

-- the words at the start
pub record Blank (first window : ℕ) (words : List ℕ) : Type 0 where
  pub wide : length words ≡ window + 2
  pub next : slice_index_or words 0 0 ≡ first
  pub drain : slice_index_or words 1 0 ≡ 2 * first
  pub zeros : (j : ℕ) → j < window → slice_index_or words (j + 2) 0 ≡ 0
