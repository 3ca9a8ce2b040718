use Rattle.std.proofs.Common.{◌<◌, sym, subst, arith}
use Rattle.jx_geom.specs.declared.shape.Canvas.{Canvas}
use Rattle.jx_geom.specs.Counts.{tile_count}
use Rattle.jx_generate.specs.Making.{count_drawn}
use Rattle.jx_generate.proofs.GeometryLemmas.{component_limited, count_is, count_made, one_tile}
use Rattle.jx_generate.proofs.geometry.count.Goals as goal

pub count_blocks-blocks-requires-clause-tile : goal.count_blocks-blocks-requires-clause-tile
count_blocks-blocks-requires-clause-tile c = subst (λ (x : Canvas). 0 < tile_count x) (sym c.canvas.ensures) (one_tile c.args.width c.args.height c.requires)

pub overflow_cast-result : goal.overflow_cast-result
overflow_cast-result c = omega (arith, component_limited c.args.width c.args.height c.count_blocks-blocks.result c.requires (count_is c.args.width c.args.height c.count_blocks-blocks.result c.canvas.result c.shape.result c.canvas.ensures c.shape.ensures c.count_blocks-blocks.ensures.value))

pub overflow_mul-result : goal.overflow_mul-result
overflow_mul-result c = omega (arith, component_limited c.args.width c.args.height c.count_blocks-blocks.result c.requires (count_is c.args.width c.args.height c.count_blocks-blocks.result c.canvas.result c.shape.result c.canvas.ensures c.shape.ensures c.count_blocks-blocks.ensures.value))

pub returns : goal.returns
unfolding count_drawn
returns c = count_made c.args.width c.args.height c.count_blocks-blocks.result (count_is c.args.width c.args.height c.count_blocks-blocks.result c.canvas.result c.shape.result c.canvas.ensures c.shape.ensures c.count_blocks-blocks.ensures.value)
