use Rattle.std.proofs.Common.{arith}
use Rattle.jx_options.proofs.VolumeTexts.{cut_once}
use Rattle.jx_options.proofs.volumes.at_comma.Goals as goal

pub returns : goal.returns
returns c = cut_once 44 c.args.text.now c.split_once.result c.split_once.ensures.cases (omega arith)
