use Rattle.jx_mq.proofs.States.{adapted_by}
use Rattle.jx_mq.proofs.contexts.Contexts.adapt.Goals as goal

pub returns : goal.returns
returns c before narrowed =
    let row = rw (← c.self.view_is) at c.requires.row in
    let symbol = rw (← c.self.view_is) at c.requires.symbol in
    let narrowed' = rw (← c.self.view_is) at narrowed in
    rw (← c.self.view_is, c.state_after.ensures.state) (adapted_by _ before c.args.label c.args.state _ c.args.is_mps row symbol narrowed')
