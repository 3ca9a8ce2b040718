use Rattle.std.proofs.Common.{length, sym, ◌∙◌}
use Rattle.jx_tier2_reader.specs.Data.{first_mark}
use Rattle.jx_tier2_reader.proofs.DataLemmas.{mark_here, mark_on, mark_none}
use Rattle.jx_tier2_reader.proofs.data.first_mark.Goals as goal

pub loop-i-preserved : goal.loop-i-preserved
loop-i-preserved c =
    sym (mark_on c.args.bytes.now c.loop-i.i (length c.args.bytes.now) c.loop-i-test.true (sym c.is_marked.ensures ∙ c.if-is_marked.false)) ∙ c.loop-i.invariant

pub returns-then-is_marked-clause-is : goal.returns-then-is_marked-clause-is
unfolding first_mark
returns-then-is_marked-clause-is c =
    sym (mark_here c.args.bytes.now c.loop-i.i (length c.args.bytes.now) c.loop-i-test.true (sym c.is_marked.ensures ∙ c.if-is_marked.true)) ∙ c.loop-i.invariant

pub returns-clause-is : goal.returns-clause-is
unfolding first_mark
returns-clause-is c = sym (mark_none c.args.bytes.now c.loop-i.i (length c.args.bytes.now) c.loop-i-test.false) ∙ c.loop-i.invariant
