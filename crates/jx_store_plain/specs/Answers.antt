-- What a claim and a commit say of the pass, and of what the core replies.
use Rattle.std.specs.Prelude.{◌≡◌, ◌+◌, ◌<◌, ◌≤◌, ◌⊎◌, length}
use Rattle.jx_store.specs.declared.claim.ClaimAnswer.{ClaimAnswer}
use Rattle.jx_store.specs.declared.claim.ClaimAnswer.TheVariants.{Claim, Full, AllClaimed}
use Rattle.jx_store.specs.declared.event.Reply.{Reply}
use Rattle.jx_store.specs.declared.event.Reply.TheVariants.{Committed}
use Rattle.jx_store.specs.declared.work.Named.{Named}
use Rattle.jx_store.specs.Setup.{Setup, load, Within}
use Rattle.jx_store_plain.specs.Passes.{PassView, claims_one, sees_full, sees_all, commits_one, gives_up}

-- the answer to a claim, and the pass before and after: its own kind rises by one. A number is one of
-- the store's, at least the first and the claims that this pass made before, and inside both windows.
-- `Full` names numbers that fill a window.
abbrev pub Tells : Setup → ClaimAnswer → PassView → PassView → Type 0
Tells p (Claim c) a b = (b ≡ claims_one a c.number) × (p.first + a.claimed ≤ c.number) × (c.number < p.first + length p.sizes) × (p.first ≤ c.seen) × Within p c.seen c.number
Tells p (Full next drained) a b = (b ≡ sees_full a) × (p.first ≤ drained) × (next < p.first + length p.sizes) × ((next ≡ drained + p.window) ⊎ ((drained < next) × (p.most < load p drained (next + 1))))
Tells p AllClaimed a b = b ≡ sees_all a

-- the pass after a commit of this value with this reply
abbrev pub counted : {V : Type 0} → Reply → Named V → PassView → PassView
counted Committed v a = commits_one a v
counted r v a = gives_up a
