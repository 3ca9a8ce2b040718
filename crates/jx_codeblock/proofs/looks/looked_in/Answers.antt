use Rattle.std.proofs.Common.{◌∙◌, map}
use Rattle.jx_tier1_specs.specs.Segments.{bytes_of}
use Rattle.jx_codeblock.proofs.DecideLemmas.{looked_few_in}
use Rattle.jx_codeblock.proofs.looks.looked_in.Goals as goal

pub by_looks-requires-clause-few : goal.by_looks-requires-clause-few
by_looks-requires-clause-few c =
    looked_few_in c.args.block.now c.args.style c.coded_first-coded.result.style c.coded_first-coded.result.passes c.coded_first-coded.result.segments (map bytes_of c.as_slice.result.now) c.deref.result.now
    c.coded_first-coded.ensures.style c.as_slice.ensures (c.deref.ensures.value ∙ c.in_ok-decoded.ensures.looked)
