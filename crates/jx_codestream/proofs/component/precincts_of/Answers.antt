use Rattle.std.proofs.Common.{arith}
use Rattle.std.proofs.lemmas.List.FromFn.{fill_by_all}
use Rattle.jx_codestream.specs.Params.{precinct_of}
use Rattle.jx_codestream.proofs.component.precincts_of.Goals as goal

pub returns : goal.returns
returns c = fill_by_all (precinct_of c.args.bytes.now) c.loop-res.precincts 33 0 c.loop-res.invariant.size (λ k inside. c.loop-res.invariant.each k (omega (arith, c.loop-res-test.false)))
