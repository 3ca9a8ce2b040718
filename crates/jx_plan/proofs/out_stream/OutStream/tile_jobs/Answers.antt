use Rattle.std.proofs.Common.{◌≡◌, ◌≤◌, ◌+◌, arith}
use Rattle.jx_geom.specs.Counts.{tile_blocks}
use Rattle.jx_geom.specs.Rects.{tile_rect}
use Rattle.jx_codestream.specs.First.{canvas_of}
use Rattle.jx_codestream.specs.Shapes.{shapes_of}
use Rattle.jx_plan.proofs.TileJobLemmas.{tile_count, tile_own}
use Rattle.jx_plan.proofs.out_stream.OutStream.tile_jobs.Goals as goal

pub returns-clause-own : goal.returns-clause-own
returns-clause-own c =
    let s = c.args.self.now.stream in
    let count : c.jobs_before-2.result ≡ c.jobs_before.result + tile_blocks (tile_rect (canvas_of s.siz) c.args.tile) (shapes_of s c.args.tile) =
    tile_count s c.args.tile c.from-tile.result c.jobs_before.result c.jobs_before-2.result c.from-tile.ensures c.jobs_before.ensures.count c.jobs_before-2.ensures.count in
    let order : c.jobs_before.result ≤ c.jobs_before-2.result = omega (arith, count) in
    tile_own c.args.self.now.jobs c.args.tile c.from-tile.result c.jobs_before.result c.jobs_before-2.result c.from-tile.ensures c.jobs_before.ensures.below c.jobs_before-2.ensures.below order

pub returns-clause-count : goal.returns-clause-count
returns-clause-count c =
    tile_count c.args.self.now.stream c.args.tile c.from-tile.result c.jobs_before.result c.jobs_before-2.result c.from-tile.ensures c.jobs_before.ensures.count c.jobs_before-2.ensures.count
