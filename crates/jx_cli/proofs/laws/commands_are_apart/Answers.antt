use Rattle.jx_cli.proofs.ApartLemmas.{commands_apart}
use Rattle.jx_cli.proofs.laws.commands_are_apart.Goals as goal

pub returns : goal.returns
returns c = λ one other words good too. commands_apart one other words good too
