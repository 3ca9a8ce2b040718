use Rattle.std.proofs.Common.{◌∙◌, sym, ap, List, ℕ, length}
use Rattle.jx_tagtree.proofs.ShapeLemmas.{nodes_long}
use Rattle.jx_tagtree.proofs.shape.Way.len.Goals as goal

pub returns : goal.returns
returns c = sym (nodes_long c.self.inside.levels.now c.self.inside.down c.self.inside.across) ∙ ap (λ (l : List ℕ). length l) c.self.view_is
