use Rattle.std.proofs.Common.{ℕ, ◌∙◌, arith}
use Rattle.jx_tier2_writer.specs.BlockParts.{row_at, rows_of}
use Rattle.jx_tier2_writer.proofs.SentLemmas.{layer_inside, sent_last, sent_step}
use Rattle.jx_tier2_writer.proofs.block_parts.put_parts.Goals as goal

pub put_sent-requires : goal.put_sent-requires
put_sent-requires c = layer_inside _ _ c.args.parts.now c.loop-part.part-index _ c.requires c.loop-part.invariant.0 c.loop-part-test.true

pub loop-part-preserved : goal.loop-part-preserved
loop-part-preserved c = (
  c.in_ok-put_sent.ensures.long ∙ c.loop-part.invariant.0,
  λ (n : ℕ). sent_step n c.args.block c.args.parts.now c.loop-part.part-index _ (row_at (rows_of c.loop-part.rows.items) n) (row_at (rows_of c.put_sent.new.rows.items) n) _
      c.loop-part-test.true (c.in_ok-put_sent.ensures.each n) (c.loop-part.invariant.1 n),
)

pub returns-clause-each : goal.returns-clause-each
returns-clause-each c =
    λ (n : ℕ). sent_last n c.args.block c.args.parts.now c.loop-part.part-index (row_at (rows_of c.loop-part.rows.items) n) _ (omega (arith, c.loop-part-test.false)) (c.loop-part.invariant.1 n)
