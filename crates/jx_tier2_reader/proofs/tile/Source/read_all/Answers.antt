use Rattle.std.proofs.Common.{◌<◌, ◌^◌, sym, subst, List, arith}
use Rattle.jx_codestream.specs.declared.Body.{Body}
use Rattle.jx_codestream.specs.PackedHeaders.{together}
use Rattle.jx_tier2_reader.specs.Reading.{AreShort}
use Rattle.jx_tier2_reader.proofs.TileLemmas.{left_over, all_read, heads_short}
use Rattle.jx_tier2_reader.proofs.tile.Source.read_all.Goals as goal

pub check_left-requires-clause-short : goal.check_left-requires-clause-short
check_left-requires-clause-short c =
    subst (λ (xs : List Body). AreShort xs) (sym c.requires.pieces) (heads_short c.args.self.now.bytes.now _ c.requires.task.fits c.requires.task.heads)

pub check_left-requires-clause-few : goal.check_left-requires-clause-few
check_left-requires-clause-few c =
    subst (λ (xs : List Body). together xs < 2 ^ 64) (sym c.requires.pieces) (omega (arith, c.requires.task.heads.few, c.requires.task.fits))

pub returns-in-Ok-check_left-clause-ok : goal.returns-in-Ok-check_left-clause-ok
returns-in-Ok-check_left-clause-ok c =
    all_read c.args.self.now.bytes.now c.args.self.now.stream.now c.args.self.now.geom.now c.args.self.now.list.now c.loop-number.number c.loop-number.rest c.loop-number.blocks.items c.args.self.now.pieces.now
    c.requires.task c.loop-number-test.false c.loop-number.invariant.front c.requires.pieces c.in-Ok-check_left.ensures.0

pub returns-in-Err-check_left-clause-err : goal.returns-in-Err-check_left-clause-err
returns-in-Err-check_left-clause-err c =
    left_over c.args.self.now.bytes.now c.args.self.now.stream.now c.args.self.now.geom.now c.args.self.now.list.now c.loop-number.number c.loop-number.rest c.loop-number.blocks.items c.args.self.now.pieces.now
    c.in-Err-check_left.fault c.requires.task c.loop-number-test.false c.loop-number.invariant.front c.requires.pieces c.in-Err-check_left.ensures
