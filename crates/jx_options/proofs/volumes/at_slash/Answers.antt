use Rattle.std.proofs.Common.{arith}
use Rattle.jx_options.proofs.VolumeTexts.{cut_first, uncut}
use Rattle.jx_options.proofs.volumes.at_slash.Goals as goal

pub returns-in-Some : goal.returns-in-Some
returns-in-Some c = cut_first 47 c.args.text.now c.split_once.result _ c.in-Some.is c.split_once.ensures.cases (omega arith)

pub returns-in-None : goal.returns-in-None
returns-in-None c = uncut 47 c.args.text.now c.split_once.result c.in-None.is c.split_once.ensures.cases (omega arith)
