use Rattle.jx_codeblock_tests.proofs.Samples.{Spread}
use Rattle.jx_codeblock_tests.proofs.pieces_tests.thirteen_pieces.Given as goal

abbrev pub invariant-loop-pass : goal.invariant-loop-pass
invariant-loop-pass l = Spread l.style.bits l.pass l.pieces
