-- The core's reply that a claim hands on.
use Rattle.jx_store.specs.declared.claim.ClaimAnswer.{ClaimAnswer}
use Rattle.jx_store.specs.declared.claim.ClaimAnswer.TheVariants.{Claim, Full, AllClaimed}
use Rattle.jx_store.specs.declared.event.Reply.{Reply}
use Rattle.jx_store.specs.declared.event.Reply.TheVariants.{Claimed, Full as IsFull, AllClaimed as IsAll}

abbrev pub replied : ClaimAnswer → Reply
replied (Claim c) = Claimed c.number c.seen
replied (Full next drained) = IsFull next drained
replied AllClaimed = IsAll
