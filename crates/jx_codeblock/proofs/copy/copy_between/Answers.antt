use Rattle.std.proofs.Common.{map}
use Rattle.jx_base.specs.Pieces.{value_of}
use Rattle.jx_codeblock.proofs.StartLemmas.{starts_rise, first_start, there_same}
use Rattle.jx_codeblock.proofs.copy.copy_between.Goals as goal

pub piece_at-first-requires : goal.piece_at-first-requires
piece_at-first-requires c = starts_rise (map value_of c.args.pieces.now) c.args.starts.now c.requires

pub returns-clause-ok : goal.returns-clause-ok
returns-clause-ok c =
    let before = c.piece_at-first.ensures.begins (first_start (map value_of c.args.pieces.now) c.args.starts.now c.args.from c.requires) in
    let same = there_same c.args.pieces.now c.split_at.result.1.now c.args.starts.now c.piece_at-first.result c.number_at.result c.args.from c.requires c.piece_at-first.ensures.within
    c.number_at.ensures (rw c.number_at.ensures before) c.split_at.ensures.back in
    rw (← same) c.copy.ensures.ok

pub returns-clause-room : goal.returns-clause-room
returns-clause-room c =
    let before = c.piece_at-first.ensures.begins (first_start (map value_of c.args.pieces.now) c.args.starts.now c.args.from c.requires) in
    let same = there_same c.args.pieces.now c.split_at.result.1.now c.args.starts.now c.piece_at-first.result c.number_at.result c.args.from c.requires c.piece_at-first.ensures.within
    c.number_at.ensures (rw c.number_at.ensures before) c.split_at.ensures.back in
    rw (← same) c.copy.ensures.room
