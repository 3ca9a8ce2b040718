use Rattle.std.proofs.Common.{◌∙◌, ap}
use Rattle.jx_io.specs.Device.{after_finish}
use Rattle.jx_io.proofs.StoreLemmas.{finished}
use Rattle.jx_io.proofs.store.Store.finish.Goals as goal

pub returns-clause-ok : goal.returns-clause-ok
returns-clause-ok c =
    finished c.settle.new.self.whole c.settle.new.self.written c.settle.new.self.stored.items c.settle.new.self.reading c.settle.new.self.making _ c.in_ok-settle.ensures.settled
    ∙ ap after_finish c.in_ok-settle.ensures.same
