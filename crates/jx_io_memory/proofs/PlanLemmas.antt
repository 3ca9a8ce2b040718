-- Before any call was made.
use Rattle.std.proofs.Common.{◌≡◌, [], ◌∷◌, refl}
use Rattle.jx_io_memory.specs.declared.plan.Call.{Call}
use Rattle.jx_io_memory.specs.declared.plan.Call.TheVariants.{Open, Read, Create, Write, Finish}
use Rattle.jx_io_memory.specs.declared.plan.Plan.{Plan}
use Rattle.jx_io_memory.specs.Planned.{next_of}

pub first_next : (plan : Plan) → plan.made ≡ 0 ∷ 0 ∷ 0 ∷ 0 ∷ 0 ∷ [] → (call : Call) → next_of plan call ≡ 1
first_next plan e Open = rw e refl
first_next plan e Read = rw e refl
first_next plan e Create = rw e refl
first_next plan e Write = rw e refl
first_next plan e Finish = rw e refl
