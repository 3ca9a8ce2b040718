use Rattle.std.proofs.Common.{◌<◌, sym, subst, length, ℕ}
use Rattle.jx_tier2_writer.proofs.SentLemmas.{pushed}
use Rattle.jx_tier2_writer.proofs.block_parts.push_sent.Goals as goal

pub returns-clause-each : goal.returns-clause-each
returns-clause-each c l =
    let P : ℕ → Type 0 = λ n. n < length c.args.rows.now.items in
    pushed c.args.rows.now.items c.from.result l c.args.block c.push.new.self c.index_mut.result.now c.args.part c.from.ensures (subst P (sym c.from.ensures) c.requires.layer) c.requires.some
    c.index_mut.ensures.value c.in_ok-push.ensures.items
