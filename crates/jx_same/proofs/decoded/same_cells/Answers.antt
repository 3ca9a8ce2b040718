use Rattle.std.proofs.Common.{◌∙◌, arith, sym}
use Rattle.jx_same.proofs.CellLemmas.{coded_planes, heads_from}
use Rattle.jx_same.proofs.decoded.same_cells.Goals as goal

pub same_flags-requires-clause-some : goal.same_flags-requires-clause-some
same_flags-requires-clause-some c =
    let o = c.in_ok-first.ensures.coded in
    omega (arith, o.planes, c.requires.some, c.requires.one.few)

pub same_flags-requires-clause-planes : goal.same_flags-requires-clause-planes
same_flags-requires-clause-planes c =
    let o = c.in_ok-first.ensures.coded in
    omega (arith, o.planes, c.requires.one.planes)

pub same_flags-requires-clause-passes : goal.same_flags-requires-clause-passes
same_flags-requires-clause-passes c =
    let o = c.in_ok-first.ensures.coded in
    omega (arith, o.planes, o.passes, c.requires.one.few)

pub same_flags-requires-clause-band : goal.same_flags-requires-clause-band
same_flags-requires-clause-band c = c.in_ok-second.ensures.coded.band ∙ sym (c.in_ok-first.ensures.coded.band ∙ c.requires.band)

pub same_flags-requires-clause-as_planes : goal.same_flags-requires-clause-as_planes
same_flags-requires-clause-as_planes c =
    let a = c.args.a.now in
    let b = c.args.b.now in
    c.in_ok-second.ensures.coded.planes ∙ sym (c.in_ok-first.ensures.coded.planes ∙ coded_planes a b (heads_from a b c.requires.heads))

pub same_flags-requires-clause-as_passes : goal.same_flags-requires-clause-as_passes
same_flags-requires-clause-as_passes c =
    let a = c.args.a.now in
    let b = c.args.b.now in
    let h = heads_from a b c.requires.heads in
    c.in_ok-second.ensures.coded.passes ∙ sym (c.in_ok-first.ensures.coded.passes ∙ h.passes)
