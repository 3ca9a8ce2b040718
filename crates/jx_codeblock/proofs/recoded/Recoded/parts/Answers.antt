use Rattle.std.proofs.Common.{◌≤◌, sym, subst, length, List}
use Rattle.std.specs.List.{All}
use Rattle.jx_codeblock.specs.declared.LayerPart.{LayerPart}
use Rattle.jx_codeblock.specs.Laws.{IsWithin}
use Rattle.jx_codeblock.specs.Recoded.{WrittenBlock}
use Rattle.jx_base.specs.Pieces.{ArePieces}
use Rattle.jx_codeblock.specs.Recoding.{recoded_pieces}
use Rattle.jx_codeblock.proofs.MadeJobs.{job_few, job_within, job_sound}
use Rattle.jx_codeblock.proofs.recoded.Recoded.parts.Goals as goal
use Rattle.jx_base.specs.Limits.{most_bytes}

pub returns-clause-within : goal.returns-clause-within
returns-clause-within c =
    let parts : List LayerPart = c.self.inside.made.parts in
    let P : WrittenBlock → Type 0 = λ w. All (IsWithin (length w.recoding.bytes)) parts in
    let Q : List LayerPart → Type 0 = λ ps. All (IsWithin (length c.args.self.now.recoding.bytes)) ps in
    subst Q (sym c.parts.ensures) (subst P c.self.view_is (job_within c.self.inside.job.now c.self.inside.made.bytes c.self.inside.made.starts parts c.self.invariant))

pub returns-clause-sound : goal.returns-clause-sound
returns-clause-sound c =
    let P : WrittenBlock → Type 0 = λ w. ArePieces w.recoding.style 0 0 w.job.block.now.passes (recoded_pieces w.recoding) in
    subst P c.self.view_is (job_sound c.self.inside.job.now c.self.inside.made.bytes c.self.inside.made.starts c.self.inside.made.parts c.self.invariant)

pub returns-clause-few : goal.returns-clause-few
returns-clause-few c =
    let P : WrittenBlock → Type 0 = λ w. length w.recoding.bytes ≤ most_bytes in
    subst P c.self.view_is (job_few c.self.inside.job.now c.self.inside.made.bytes c.self.inside.made.starts c.self.inside.made.parts c.self.invariant)
