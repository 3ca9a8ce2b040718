use Rattle.jx_mq.proofs.States.{width_known}
use Rattle.jx_mq.proofs.table.width_of.Goals as goal

pub returns-clause-qe : goal.returns-clause-qe
returns-clause-qe c = (width_known c.args.state c.requires).qe

pub returns-clause-wide : goal.returns-clause-wide
returns-clause-wide c = (width_known c.args.state c.requires).wide

pub returns-clause-some : goal.returns-clause-some
returns-clause-some c = (width_known c.args.state c.requires).some

pub returns-clause-most : goal.returns-clause-most
returns-clause-most c = (width_known c.args.state c.requires).most
