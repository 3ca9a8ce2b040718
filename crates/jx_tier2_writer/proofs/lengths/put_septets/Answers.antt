use Rattle.std.proofs.Common.{◌∙◌, ◌++◌, ℕ, List, ap}
use Rattle.jx_tier2_writer.proofs.LengthLemmas.{groups_last}
use Rattle.jx_tier2_writer.proofs.lengths.put_septets.Goals as goal

pub returns : goal.returns
returns c =
    c.in_ok-extend_from_slice.ensures.items
    ∙ ap (λ (xs : List ℕ). c.args.out.now.items ++ xs) (groups_last c.args.size c.args.length c.septet.result c.septet-2.result c.septet-3.result c.septet-4.result c.last_septet.result
    c.requires.0 c.requires.1 c.septet.ensures c.septet-2.ensures c.septet-3.ensures c.septet-4.ensures c.last_septet.ensures)
