-- What a pass shows, and how a call changes it.
use Rattle.std.specs.Prelude.{ℕ, ◌+◌, Option, Some, None}
use Rattle.jx_store.specs.declared.work.Named.{Named}
use Rattle.jx_store_plain.specs.Made.{one_made}

pub record PassView : Type 0 where
  pub worker : ℕ
  pub holds : Option ℕ
  pub claimed : ℕ
  pub full : ℕ
  pub all_claimed : ℕ
  pub committed : ℕ
  pub made : ℕ

abbrev pub claims_one : PassView → ℕ → PassView
claims_one p k = record p { claimed = p.claimed + 1; holds = Some k }

abbrev pub sees_full : PassView → PassView
sees_full p = record p { full = p.full + 1 }

abbrev pub sees_all : PassView → PassView
sees_all p = record p { all_claimed = p.all_claimed + 1 }

abbrev pub commits_one : {V : Type 0} → PassView → Named V → PassView
commits_one p v = record p { committed = p.committed + 1; made = p.made + one_made v; holds = None }

abbrev pub gives_up : PassView → PassView
gives_up p = record p { holds = None }
