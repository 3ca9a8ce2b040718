use Rattle.std.proofs.Common.{◌∙◌, List, Some, ap, drop}
use Rattle.jx_io.specs.Device.{after_put}
use Rattle.jx_io.specs.declared.store.StoredFile.{StoredFile}
use Rattle.jx_io.proofs.StoreLemmas.{on_error, put_in_front, shown}
use Rattle.jx_io.proofs.store.Store.put.Goals as goal

pub returns-in_err-insert-clause-err : goal.returns-in_err-insert-clause-err
returns-in_err-insert-clause-err c = on_error _ c.from_residual-in_err-insert.result
    (ap (λ (files : List StoredFile). shown c.settle.new.self.whole c.settle.new.self.written files c.settle.new.self.reading c.settle.new.self.making (Some (drop c.settle.new.self.at c.settle.new.self.opened.items))) c.in_err-insert.ensures.items
    ∙ c.in_ok-settle.ensures.same)

pub returns-clause-ok : goal.returns-clause-ok
returns-clause-ok c =
    put_in_front c.settle.new.self.whole c.settle.new.self.written c.settle.new.self.stored.items c.insert.new.self.items c.in_ok-file.file c.args.name.now c.args.bytes.now c.settle.new.self.reading
    c.settle.new.self.making _ c.in_ok-settle.ensures.settled c.in_ok-insert.ensures.items c.in_ok-file.ensures.name c.in_ok-file.ensures.bytes
    ∙ ap (after_put c.args.name.now c.args.bytes.now) c.in_ok-settle.ensures.same
