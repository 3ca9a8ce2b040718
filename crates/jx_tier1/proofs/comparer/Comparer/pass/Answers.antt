use Rattle.std.proofs.Common.{refl}
use Rattle.jx_tier1_specs.specs.Reading.{Coding, coding_of}
use Rattle.jx_tier1.proofs.BesideLemmas.{pass_beside}
use Rattle.jx_tier1.proofs.comparer.Comparer.pass.Goals as goal

pub returns-clause-beside : goal.returns-clause-beside
returns-clause-beside c = λ a b g n.
    let old : Coding = coding_of c.args.band c.args.one.bits c.args.planes in
    let new : Coding = coding_of c.args.band c.args.two.bits c.args.planes in
    pass_beside old new c.args.pass a b c.args.block.now c.bits.new.block c.args.self.now c.begin.new.self c.bits.new.self c.end.new.self
    (record { band = refl; causal = c.requires.causal; planes = refl }) g n c.begin.ensures (c.in_ok-bits.ensures.walk a.cells g.block n) c.in_ok-end.ensures
