use Rattle.std.proofs.Common.{◌≡◌, ◌≤◌, ◌<◌, ◌+◌, ◌++◌, arith, map, take, drop, length, vec_len, vec_capacity, length-append, List, ℕ}
use Rattle.jx_base.specs.declared.pieces.Piece.{Piece}
use Rattle.jx_base.specs.Pieces.{value_of}
use Rattle.jx_codeblock.specs.Tables.{bytes_joined}
use Rattle.jx_codeblock.proofs.CopyLemmas.{copied_next, copied_room, before_next}
use Rattle.jx_codeblock.proofs.DropLemmas.{joined_one, first_piece}
use Rattle.jx_codeblock.proofs.copy.copy.Goals as goal
use Rattle.jx_base.proofs.Tests.{on_err}

pub loop-piece-preserved : goal.loop-piece-preserved
loop-piece-preserved c =
    let ps : List Piece = c.args.pieces.now in
    let i : ℕ = c.loop-piece.piece-index in
    let bytes : List ℕ = (first_piece ps i).bytes.now in
    let split = joined_one ps i c.loop-piece-test.true in
    record {
      copied = copied_next c.loop-piece.out.items c.copy_some.new.out.items (c.args.out.now.items ++ take c.args.left (drop c.args.skip (bytes_joined (map value_of ps)))) bytes
          (bytes_joined (map value_of (drop (i + 1) ps))) (bytes_joined (map value_of (drop i ps))) c.loop-piece.now.0 c.loop-piece.now.1 c.in_ok-now.now.0 c.in_ok-now.now.1
          split c.loop-piece.invariant.copied c.in_ok-now.ensures.ok c.in_ok-now.ensures.skip c.in_ok-now.ensures.left;
      before = before_next c.args.out.now.items c.loop-piece.out.items c.copy_some.new.out.items (take c.loop-piece.now.1 (drop c.loop-piece.now.0 bytes)) c.loop-piece.invariant.before
          c.in_ok-now.ensures.ok;
      room = omega (arith, c.loop-piece.invariant.room, c.in_ok-now.ensures.capacity);
    }

pub returns-in_err-now-clause-room : goal.returns-in_err-now-clause-room
returns-in_err-now-clause-room c =
    let ps : List Piece = c.args.pieces.now in
    let i : ℕ = c.loop-piece.piece-index in
    let bytes : List ℕ = (first_piece ps i).bytes.now in
    let whole : List ℕ = take c.args.left (drop c.args.skip (bytes_joined (map value_of ps))) in
    let split = joined_one ps i c.loop-piece-test.true in
    let room : length c.loop-piece.out.items + length (take c.loop-piece.now.1 (drop c.loop-piece.now.0 bytes)) ≤ length (c.args.out.now.items ++ whole) =
    copied_room c.loop-piece.out.items (c.args.out.now.items ++ whole) bytes (bytes_joined (map value_of (drop (i + 1) ps))) (bytes_joined (map value_of (drop i ps)))
    c.loop-piece.now.0 c.loop-piece.now.1 split c.loop-piece.invariant.copied in
    let refused : vec_capacity c.loop-piece.out < vec_len c.loop-piece.out + length (take c.loop-piece.now.1 (drop c.loop-piece.now.0 bytes)) = c.in_err-now.ensures.room in
    let long : vec_len c.loop-piece.out ≡ length c.loop-piece.out.items = c.loop-piece.out.ok.0 in
    let long' : vec_len c.args.out.now ≡ length c.args.out.now.items = c.args.out.now.ok.0 in
    on_err c.from_residual.result (omega (arith, room, refused, long, long', c.loop-piece.invariant.room, length-append c.args.out.now.items whole))
