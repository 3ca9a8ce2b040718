use Rattle.std.proofs.Common.{arith}
use Rattle.jx_codeblock.proofs.MadeJobs.{nothing_made}
use Rattle.jx_codeblock.proofs.StartLemmas.{no_starts}
use Rattle.jx_codeblock.proofs.recoded.nothing.Goals as goal

pub invariant_of-result : goal.invariant_of-result
invariant_of-result c = record {
  asked = c.requires.asked;
  few = rw c.nothing.ensures.bytes (omega arith);
  begins = no_starts c.args.job.now.block.now.pieces _ c.nothing.ensures.starts;
  is = nothing_made c.args.job.now _ _ c.requires.asked c.requires.none c.nothing.ensures.bytes c.nothing.ensures.parts;
}

pub returns-clause-recoding : goal.returns-clause-recoding
returns-clause-recoding c = nothing_made c.args.job.now _ _ c.requires.asked c.requires.none c.nothing.ensures.bytes c.nothing.ensures.parts
