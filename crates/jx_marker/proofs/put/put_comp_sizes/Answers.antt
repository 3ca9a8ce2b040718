use Rattle.std.proofs.Common.{◌∙◌, take}
use Rattle.std.specs.List.{flat_map}
use Rattle.jx_marker.specs.Values.{comp_size_bytes}
use Rattle.jx_marker.proofs.PutLemmas.{each_all, each_next, kept}
use Rattle.jx_marker.proofs.put.put_comp_sizes.Goals as goal

pub loop-comp-preserved : goal.loop-comp-preserved
loop-comp-preserved c =
    each_next comp_size_bytes c.args.comps.now c.loop-comp.comp-index (record { ssiz = 0; dx = 0; dy = 0 }) c.args.out.now.items c.loop-comp.out.items c.extend_from_slice.new.self.items
    c.loop-comp-test.true c.loop-comp.invariant c.in_ok-extend_from_slice.ensures.items

pub returns-clause-ok : goal.returns-clause-ok
returns-clause-ok c =
    each_all comp_size_bytes c.args.comps.now c.loop-comp.comp-index c.args.out.now.items c.loop-comp.out.items c.loop-comp-test.false c.loop-comp.invariant

pub returns-clause-front : goal.returns-clause-front
returns-clause-front c = kept c.args.out.now.items (flat_map comp_size_bytes (take c.loop-comp.comp-index c.args.comps.now)) c.loop-comp.out.items c.loop-comp.invariant

pub returns-in_err-extend_from_slice-clause-front : goal.returns-in_err-extend_from_slice-clause-front
returns-in_err-extend_from_slice-clause-front c =
    kept c.args.out.now.items (flat_map comp_size_bytes (take c.loop-comp.comp-index c.args.comps.now)) c.extend_from_slice.new.self.items (c.in_err-extend_from_slice.ensures.items ∙ c.loop-comp.invariant)
