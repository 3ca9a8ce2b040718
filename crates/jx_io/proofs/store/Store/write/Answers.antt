use Rattle.std.proofs.Common.{◌∙◌, ap, refl}
use Rattle.jx_io.specs.Device.{after_write}
use Rattle.jx_io.proofs.StoreLemmas.{nowhere, on_error, unchanged, written_on}
use Rattle.jx_io.proofs.store.Store.write.Goals as goal

pub returns-in_err-extend_from_slice-clause-err : goal.returns-in_err-extend_from_slice-clause-err
returns-in_err-extend_from_slice-clause-err c = on_error _ c.from_residual-in_err-extend_from_slice.result
    (unchanged c.settle.new.self.whole c.settle.new.self.written c.in-Some.file _ c.settle.new.self.stored.items c.settle.new.self.reading c.settle.new.self.making _ c.in_ok-settle.ensures.settled c.in-Some.is refl
    c.in_err-extend_from_slice.ensures.items ∙ c.in_ok-settle.ensures.same)

pub returns-in_ok-extend_from_slice-clause-ok : goal.returns-in_ok-extend_from_slice-clause-ok
returns-in_ok-extend_from_slice-clause-ok c =
    written_on c.settle.new.self.whole c.settle.new.self.written c.in-Some.file _ c.settle.new.self.stored.items c.args.from.now c.settle.new.self.reading c.settle.new.self.making _ c.in_ok-settle.ensures.settled c.in-Some.is refl
    c.in_ok-extend_from_slice.ensures.items ∙ ap (after_write c.args.from.now) c.in_ok-settle.ensures.same

pub returns-in_default-clause-ok : goal.returns-in_default-clause-ok
returns-in_default-clause-ok c =
    nowhere c.settle.new.self.whole c.settle.new.self.written c.settle.new.self.stored.items c.args.from.now c.settle.new.self.reading c.settle.new.self.making _ c.in_ok-settle.ensures.settled (λ file is. c.in_default.not-Some file is)
    ∙ ap (after_write c.args.from.now) c.in_ok-settle.ensures.same
