use Rattle.std.proofs.Common.{◌∙◌, take}
use Rattle.std.specs.List.{flat_map}
use Rattle.byteorder.specs.Endian.{big_bytes}
use Rattle.jx_marker.proofs.PutLemmas.{each_all, each_next, kept}
use Rattle.jx_marker.proofs.put.put_entries.Goals as goal

pub loop-entry-preserved : goal.loop-entry-preserved
loop-entry-preserved c =
    each_next (big_bytes c.args.size) c.args.entries.now c.loop-entry.entry-index 0 c.args.out.now.items c.loop-entry.out.items c.put_narrow.new.out.items
    c.loop-entry-test.true c.loop-entry.invariant c.in_ok-put_narrow.ensures.ok

pub returns-clause-ok : goal.returns-clause-ok
returns-clause-ok c =
    each_all (big_bytes c.args.size) c.args.entries.now c.loop-entry.entry-index c.args.out.now.items c.loop-entry.out.items
    c.loop-entry-test.false c.loop-entry.invariant

pub returns-clause-front : goal.returns-clause-front
returns-clause-front c =
    kept c.args.out.now.items (flat_map (big_bytes c.args.size) (take c.loop-entry.entry-index c.args.entries.now)) c.loop-entry.out.items c.loop-entry.invariant

pub returns-in_err-put_narrow-clause-front : goal.returns-in_err-put_narrow-clause-front
returns-in_err-put_narrow-clause-front c =
    kept c.args.out.now.items (flat_map (big_bytes c.args.size) (take c.loop-entry.entry-index c.args.entries.now)) c.put_narrow.new.out.items
    (c.in_err-put_narrow.ensures.err ∙ c.loop-entry.invariant)

pub put_narrow-requires-clause-fits : goal.put_narrow-requires-clause-fits
put_narrow-requires-clause-fits c = c.requires.fits c.loop-entry.entry-index 0 c.loop-entry-test.true
