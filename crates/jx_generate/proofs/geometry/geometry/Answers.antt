use Rattle.std.proofs.Common.{◌<◌, sym, subst, arith}
use Rattle.std.proofs.lemmas.Grind.{common_steps}
use Rattle.jx_geom.specs.declared.shape.Canvas.{Canvas}
use Rattle.jx_geom.specs.Counts.{tile_count}
use Rattle.jx_generate.specs.Headers.{geometry_made}
use Rattle.jx_generate.proofs.GeometryLemmas.{limits_of, one_tile}
use Rattle.jx_generate.proofs.geometry.geometry.Goals as goal

pub new-requires-clause-tile : goal.new-requires-clause-tile
new-requires-clause-tile c = subst (λ (x : Canvas). 0 < tile_count x) (sym c.canvas-canvas.ensures) (one_tile c.args.width c.args.height c.requires)

pub new-requires-clause-limits : goal.new-requires-clause-limits
new-requires-clause-limits c = limits_of c.args.width c.args.height c.canvas-canvas.result c.shape.result c.shape-2.result c.shape-3.result c.requires c.canvas-canvas.ensures c.shape.ensures c.shape-2.ensures c.shape-3.ensures

pub returns : goal.returns
unfolding geometry_made
returns c = grind (arith, common_steps)
