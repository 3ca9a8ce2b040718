use Rattle.std.proofs.Common.{arith}
use Rattle.jx_tier2_reader.proofs.ReadyLemmas.{one_gathering, not_both, ready, only_memory, only_first}
use Rattle.jx_tier2_reader.proofs.gathering.gather.Goals as goal

pub returns-in-Ok-clause-only : goal.returns-in-Ok-clause-only
returns-in-Ok-clause-only c = λ others gathered.
    one_gathering c.args.bytes.now c.args.stream.now c.in-Ok.blocks.items others c.requires.read (omega (arith, c.requires.fits)) c.in-Ok.ensures.totals c.in-Ok.ensures.gathered gathered

pub returns-in-Ok-clause-unbroken : goal.returns-in-Ok-clause-unbroken
returns-in-Ok-clause-unbroken c = λ first broken.
    not_both c.args.bytes.now c.args.stream.now c.in-Ok.blocks.items first c.requires.read (omega (arith, c.requires.fits)) c.in-Ok.ensures.totals c.in-Ok.ensures.gathered broken

pub returns-in-Err-clause-first : goal.returns-in-Err-clause-first
returns-in-Err-clause-first c = λ first broken.
    only_first c.args.bytes.now c.args.stream.now first c.in-Err.fault (ready c.args.bytes.now c.args.stream.now c.requires.read (omega (arith, c.requires.fits))) broken c.in-Err.ensures.broken

pub returns-in-Err-clause-memory : goal.returns-in-Err-clause-memory
returns-in-Err-clause-memory c = λ blocks totals gathered.
    only_memory c.args.bytes.now c.args.stream.now blocks c.in-Err.fault (ready c.args.bytes.now c.args.stream.now c.requires.read (omega (arith, c.requires.fits)) totals) totals gathered c.in-Err.ensures.broken
