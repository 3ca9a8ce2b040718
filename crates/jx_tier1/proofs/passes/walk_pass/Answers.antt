use Rattle.std.proofs.Common.{◌≡◌, ◌%◌, arith}
use Rattle.std.proofs.lemmas.Result.{on_ok_weaker}
use Rattle.jx_tier1.proofs.PassLemmas.{midway_of, ends_within, ends_plane}
use Rattle.jx_tier1.proofs.passes.walk_pass.Goals as goal

pub returns-then-pass-eq1-clause-walk : goal.returns-then-pass-eq1-clause-walk
returns-then-pass-eq1-clause-walk g c = λ v s n.
    let e = c.requires.number in
    let k = c.if-pass-eq1.true in
    on_ok_weaker c.significance_pass.result
    (ends_within g.S.Source.ask c.args.pass 1 1 c.args.plane v c.significance_pass.new.block c.args.source.now c.significance_pass.new.source e k (omega arith) (omega arith))
    (c.significance_pass.ensures.walk v n (midway_of c.args.pass 0 c.args.plane v c.args.block.now e (omega arith) s))

pub returns-then-pass-eq2-clause-walk : goal.returns-then-pass-eq2-clause-walk
returns-then-pass-eq2-clause-walk g c = λ v s n.
    let e = c.requires.number in
    let k = c.if-pass-eq2.true in
    on_ok_weaker c.refinement_pass.result
    (ends_within g.S.Source.ask c.args.pass 2 2 c.args.plane v c.refinement_pass.new.block c.args.source.now c.refinement_pass.new.source e k (omega arith) (omega arith))
    (c.refinement_pass.ensures.walk v n (midway_of c.args.pass 1 c.args.plane v c.args.block.now e (omega arith) s))

pub returns-clause-walk : goal.returns-clause-walk
returns-clause-walk g c = λ v s n.
    let e = c.requires.number in
    let a = c.if-pass-eq1.false in
    let b = c.if-pass-eq2.false in
    let k : c.args.pass % 3 ≡ 0 = omega arith in
    on_ok_weaker c.cleanup_pass.result
    (ends_plane g.S.Source.ask c.args.pass 3 c.args.plane v c.cleanup_pass.new.block c.args.source.now c.cleanup_pass.new.source e n k)
    (c.cleanup_pass.ensures.walk v n (midway_of c.args.pass 2 c.args.plane v c.args.block.now e (omega arith) s))
