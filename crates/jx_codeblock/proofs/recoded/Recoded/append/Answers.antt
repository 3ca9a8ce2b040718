use Rattle.std.proofs.Common.{sym, subst, List, ℕ}
use Rattle.jx_base.specs.Pieces.{PieceValue}
use Rattle.jx_codeblock.specs.Starts.{AreStarts}
use Rattle.jx_codeblock.proofs.MadeJobs.{kept_bytes}
use Rattle.jx_codeblock.proofs.recoded.Recoded.append.Goals as goal

pub append_bytes-requires : goal.append_bytes-requires
append_bytes-requires c =
    subst (λ (ps : List PieceValue). AreStarts ps c.starts.result.now) (sym c.as_slice-pieces.ensures)
    (subst (λ (starts : List ℕ). AreStarts c.self.inside.job.now.block.now.pieces starts) (sym c.starts.ensures) c.self.invariant.begins)

pub returns-in-None-clause-ok : goal.returns-in-None-clause-ok
returns-in-None-clause-ok c =
    let same = kept_bytes c.self.inside.job.now c.self.inside.made.bytes c.self.invariant.asked.sound c.in-None.is in
    rw (← c.self.view_is) (rw same (rw (← c.as_slice-pieces.ensures) c.append_bytes.ensures.ok))

pub returns-in-None-clause-room : goal.returns-in-None-clause-room
returns-in-None-clause-room c =
    let same = kept_bytes c.self.inside.job.now c.self.inside.made.bytes c.self.invariant.asked.sound c.in-None.is in
    rw (← c.self.view_is) (rw same (rw (← c.as_slice-pieces.ensures) c.append_bytes.ensures.room))
