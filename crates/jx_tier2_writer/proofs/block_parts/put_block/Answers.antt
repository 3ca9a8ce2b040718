use Rattle.std.proofs.Common.{◌<◌, sym, subst, map, ℕ}
use Rattle.std.proofs.lemmas.List.{length-map}
use Rattle.jx_tier2_writer.specs.BlockParts.{row_at, rows_of}
use Rattle.jx_tier2_writer.proofs.SentLemmas.{block_inside}
use Rattle.jx_tier2_writer.proofs.block_parts.put_block.Goals as goal

pub returns-clause-sent : goal.returns-clause-sent
returns-clause-sent g c l =
    let P : ℕ → Type 0 = λ n. c.args.block < n in
    block_inside (map g.B.Coded.bytes c.args.values.now) l c.args.block (row_at (rows_of c.args.rows.now.items) l) (row_at (rows_of c.put_parts.new.rows.items) l)
    (g.B.Coded.block c.block_at-value.result.now) (g.B.Coded.bytes c.block_at-value.result.now) c.parts.result.now
    (subst P (sym (length-map c.args.values.now g.B.Coded.bytes)) c.requires.block) c.block_at-value.ensures.bytes c.parts.ensures (c.requires.sent l) (c.in_ok-put_parts.ensures.each l)
