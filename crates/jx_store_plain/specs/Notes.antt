-- What the history keeps of a run: the events that changed the state, without their values, and before
-- each how many claims were refused since the one before.
use Rattle.std.specs.Prelude.{ℕ, ◌+◌, List, [], ◌∷◌, ◌++◌, sum_by}
use Rattle.jx_store.specs.declared.event.Event.{Event}
use Rattle.jx_store.specs.declared.event.Event.TheVariants.{Claim, Commit, Drain}
use Rattle.jx_store.specs.declared.event.Reply.{Reply}
use Rattle.jx_store.specs.declared.event.Reply.TheVariants.{Claimed, Full, AllClaimed, Committed, Foreign, Drained, Nothing}
use Rattle.jx_store_plain.specs.declared.history.Kind.{Kind}
use Rattle.jx_store_plain.specs.declared.history.Kind.TheVariants.{Claims, Commits, Drains}
use Rattle.jx_store_plain.specs.declared.history.Step.{Step}

pub record Notes : Type 0 where
  pub steps : List Step
  pub full : ℕ
  pub all : ℕ

abbrev pub no_notes : Notes
no_notes = record { steps = []; full = 0; all = 0 }

abbrev pub tells : Notes → Kind → Notes
tells n k = record { steps = n.steps ++ record { full = n.full; all = n.all; kind = k } ∷ []; full = 0; all = 0 }

abbrev pub adds_full : Notes → Notes
adds_full n = record n { full = n.full + 1 }

abbrev pub adds_all : Notes → Notes
adds_all n = record n { all = n.all + 1 }

-- how many refusals of each kind
abbrev pub count_full : Notes → ℕ
count_full n = sum_by (λ s. s.full) n.steps + n.full

abbrev pub count_all : Notes → ℕ
count_all n = sum_by (λ s. s.all) n.steps + n.all

abbrev pub is_claim : Kind → ℕ
is_claim (Claims w) = 1
is_claim (Commits w k) = 0
is_claim Drains = 0

abbrev pub is_commit : Kind → ℕ
is_commit (Claims w) = 0
is_commit (Commits w k) = 1
is_commit Drains = 0

-- how many claims and commits
abbrev pub count_claims : Notes → ℕ
count_claims n = sum_by (λ s. is_claim s.kind) n.steps

abbrev pub count_commits : Notes → ℕ
count_commits n = sum_by (λ s. is_commit s.kind) n.steps

module _ {V : Type 0} where
  abbrev pub kind_of : Event V → Kind
  kind_of (Claim w) = Claims w
  kind_of (Commit w k v) = Commits w k
  kind_of Drain = Drains

  -- one more event with its reply: one that changed nothing is counted where it was a refused claim
  abbrev pub note : Notes → Event V → Reply → Notes
  note n e (Claimed k seen) = tells n (kind_of e)
  note n e (Full next drained) = adds_full n
  note n e AllClaimed = adds_all n
  note n e Committed = tells n (kind_of e)
  note n e Foreign = n
  note n e (Drained k) = tells n (kind_of e)
  note n e Nothing = n

  abbrev pub notes : Notes → List (Event V × Reply) → Notes
  notes n [] = n
  notes n (x ∷ xs) = notes (note n x.0 x.1) xs
