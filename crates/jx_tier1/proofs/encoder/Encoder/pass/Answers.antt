use Rattle.jx_tier1_specs.specs.Reading.{Coding, coding_of}
use Rattle.jx_tier1.proofs.ComingLemmas.{pass_comes}
use Rattle.jx_tier1.proofs.encoder.Encoder.pass.Goals as goal

pub returns-clause-walk : goal.returns-clause-walk
returns-clause-walk c = λ g s n.
    let d : Coding = coding_of c.args.band c.args.style.bits c.args.planes in
    pass_comes d c.args.last c.args.pass c.args.self.now c.bits.new.self c.symbol.new.self c.finish.new.self g c.bits.new.block c.requires.kind c.in_ok-bits.ensures.kept
    (c.in_ok-bits.ensures.walk g s n) c.in_ok-symbol.ensures.encoding c.in_ok-finish.ensures.encoding
