use Rattle.std.proofs.Common.{◌≡◌, ◌<◌, ◌+◌, ◌^◌, ◌++◌, length}
use Rattle.std.specs.List.{All}
use Rattle.jx_codestream.specs.declared.Body.{Body}
use Rattle.jx_codestream.specs.PackedHeaders.{after_bytes, first_bytes, some_piece, together}
use Rattle.jx_codestream.proofs.shares.Cursor.take.Given as goal

abbrev pub invariant-loop-self : goal.invariant-loop-self
invariant-loop-self l = record {
  first : l.taken.items ++ first_bytes l.wanted (some_piece l.self-inside.first ++ l.self-inside.later.now) ≡ first_bytes l.count l.fn.self;
  after : after_bytes l.wanted (some_piece l.self-inside.first ++ l.self-inside.later.now) ≡ after_bytes l.count l.fn.self;
  sum : l.count + together (some_piece l.self-inside.first ++ l.self-inside.later.now) ≡ l.wanted + together l.fn.self;
  fits : All (λ (piece : Body). piece.at + piece.length < 2 ^ 32) (some_piece l.self-inside.first ++ l.self-inside.later.now);
}

abbrev pub decreases-loop-self : goal.decreases-loop-self
decreases-loop-self l = length l.self-inside.later.now
