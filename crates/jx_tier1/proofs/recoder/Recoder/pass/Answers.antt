use Rattle.jx_tier1_specs.specs.Reading.{Coding, coding_of}
use Rattle.jx_tier1.proofs.PlacingLemmas.{bits_go, pass_goes}
use Rattle.jx_tier1.proofs.recoder.Recoder.pass.Goals as goal

pub returns-clause-walk : goal.returns-clause-walk
returns-clause-walk c = λ v s n.
    let old : Coding = coding_of c.args.band c.args.old.bits c.args.planes in
    let new : Coding = coding_of c.args.band c.args.new.bits c.args.planes in
    pass_goes old new c.args.last c.args.pass c.args.self.now c.open.new.self c.bits.new.self c.check.new.self c.mark.new.self c.close.new.self v c.bits.new.block
    c.open.ensures.recoding
    (bits_go old new c.args.pass c.open.new.self c.bits.new.self v c.bits.new.block c.in_ok-bits.ensures.kept (c.in_ok-bits.ensures.walk v s n))
    c.in_ok-check.ensures.recoding c.in_ok-mark.ensures.recoding c.in_ok-close.ensures.recoding
