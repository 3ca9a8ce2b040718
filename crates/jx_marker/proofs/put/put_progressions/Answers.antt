use Rattle.std.proofs.Common.{take}
use Rattle.jx_marker.specs.Values.{poc_bytes, progression_bytes}
use Rattle.jx_marker.proofs.PutLemmas.{each_all, each_next, front_kept, kept}
use Rattle.jx_marker.proofs.put.put_progressions.Goals as goal

pub returns-in_err-put_progression-clause-front : goal.returns-in_err-put_progression-clause-front
returns-in_err-put_progression-clause-front c =
    front_kept c.args.out.now.items (poc_bytes c.args.comps (take c.loop-entry.entry-index c.args.entries.now)) c.loop-entry.out.items c.put_progression.new.out.items
    c.loop-entry.invariant c.put_progression.ensures.front

pub loop-entry-preserved : goal.loop-entry-preserved
loop-entry-preserved c =
    each_next (progression_bytes c.args.comps) c.args.entries.now c.loop-entry.entry-index (record { rs = 0; cs = 0; lye = 0; re = 0; ce = 0; order = 0 })
    c.args.out.now.items c.loop-entry.out.items c.put_progression.new.out.items c.loop-entry-test.true c.loop-entry.invariant c.in_ok-put_progression.ensures.ok

pub returns-clause-ok : goal.returns-clause-ok
returns-clause-ok c =
    each_all (progression_bytes c.args.comps) c.args.entries.now c.loop-entry.entry-index c.args.out.now.items c.loop-entry.out.items
    c.loop-entry-test.false c.loop-entry.invariant

pub returns-clause-front : goal.returns-clause-front
returns-clause-front c =
    kept c.args.out.now.items (poc_bytes c.args.comps (take c.loop-entry.entry-index c.args.entries.now)) c.loop-entry.out.items c.loop-entry.invariant

pub put_progression-requires : goal.put_progression-requires
put_progression-requires c = c.requires c.loop-entry.entry-index (record { rs = 0; cs = 0; lye = 0; re = 0; ce = 0; order = 0 }) c.loop-entry-test.true
