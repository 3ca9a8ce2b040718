use Rattle.std.proofs.Common.{◌≡◌, ◌++◌}
use Rattle.jx_base.specs.Joined.{joined}
use Rattle.jx_generate.specs.Made.{drawn_leaf_bytes}
use Rattle.jx_generate.proofs.picture.Picture.put_data.Given as goal

abbrev pub invariant-loop-leaf : goal.invariant-loop-leaf
invariant-loop-leaf l = l.out.items ≡ l.initial.out.items ++ joined (drawn_leaf_bytes l.self.seed l.self.width l.self.height l.comp l.res l.layer) 0 l.leaf
