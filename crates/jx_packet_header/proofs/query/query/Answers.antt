use Rattle.std.proofs.Common.{refl, Err}
use Rattle.jx_tagtree.specs.Header.{to_come}
use Rattle.jx_packet_header.proofs.AskLemmas.{asked_is, ask_tree, reach_ok, reach_err, took_frame}
use Rattle.jx_packet_header.proofs.query.query.Goals as goal

pub returns-in-Ok-clause-ok : goal.returns-in-Ok-clause-ok
returns-in-Ok-clause-ok c = reach_ok c.args.tree.now c.reach.new.self c.args.leaf c.args.threshold c.args.bits.now c.reach.new.bits c.in-Ok.below c.requires c.in-Ok.ensures.tree c.in-Ok.ensures.read

pub returns-in-Ok-clause-leaf : goal.returns-in-Ok-clause-leaf
returns-in-Ok-clause-leaf c = ask_tree c.args.tree.now c.args.leaf c.args.threshold c.requires (to_come c.args.bits.now) (asked_is c.in-Ok.below c.reach.new.self (to_come c.reach.new.bits))
    (reach_ok c.args.tree.now c.reach.new.self c.args.leaf c.args.threshold c.args.bits.now c.reach.new.bits c.in-Ok.below c.requires c.in-Ok.ensures.tree c.in-Ok.ensures.read)

pub returns-in-Ok-clause-frame : goal.returns-in-Ok-clause-frame
returns-in-Ok-clause-frame c = took_frame c.args.bits.now c.reach.new.bits c.in-Ok.ensures.took

pub returns-in-Err-clause-err : goal.returns-in-Err-clause-err
returns-in-Err-clause-err c = (refl, reach_err c.args.tree.now c.reach.new.self c.args.leaf c.args.threshold c.args.bits.now c.reach.new.bits c.in-Err.field-0 (Err c.in-Err.field-0) c.requires refl c.in-Err.ensures.only)
