use Rattle.std.proofs.Common.{◌≡◌, arith, drop, length, suc}
use Rattle.jx_tile_parts.specs.Groups.{more_groups}
use Rattle.jx_tile_parts.proofs.GroupLemmas.{count_next}
use Rattle.jx_tile_parts.proofs.cutting.count_parts.Goals as goal

pub loop-from-preserved : goal.loop-from-preserved
loop-from-preserved c =
    let names = c.args.names.now in
    let next : length (more_groups c.args.parts (drop c.loop-from.from names)) ≡ suc (length (more_groups c.args.parts (drop c.part_end-from.result names))) =
    count_next c.args.parts names c.loop-from.from c.part_end-from.result c.loop-from-test.true c.part_end-from.ensures.group in
    record { within = omega arith; few = omega arith; count = omega arith }
