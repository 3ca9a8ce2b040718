use Rattle.std.specs.Path.{path_buf_bytes}
use Rattle.jx_io.proofs.DraftLemmas.{led_on}
use Rattle.jx_io.proofs.names.followed.Goals as goal

pub loop-preserved : goal.loop-preserved
loop-preserved g c =
    led_on c.args.name.now (path_buf_bytes c.loop.path) c.as_str.result.now (path_buf_bytes c.in_ok-path-in-Ok.path) c.loop.invariant c.in_ok-path-in-Ok.ensures
