use Rattle.std.proofs.Common.{◌/◌, ◌%◌, ◌∙◌, ap}
use Rattle.jx_tagtree.specs.declared.shape.Level.{Level}
use Rattle.jx_tagtree.specs.Shape.{nodes_over}
use Rattle.jx_tagtree.proofs.ShapeLemmas.{way_over}
use Rattle.jx_tagtree.proofs.WayLemmas.{fits_way}
use Rattle.std.proofs.Common.{List}
use Rattle.jx_tagtree.proofs.shape.Way.new.Goals as goal

pub invariant_of-result : goal.invariant_of-result
invariant_of-result c = fits_way c.args.wide c.args.high c.args.leaf c.args.levels.now c.requires.shape c.requires.leaf c.requires.levels

pub returns : goal.returns
returns c = ap (λ (l : List Level). nodes_over l (c.args.leaf / c.args.wide) (c.args.leaf % c.args.wide)) c.requires.levels
    ∙ way_over c.args.wide c.args.high c.args.leaf c.requires.shape c.requires.leaf
