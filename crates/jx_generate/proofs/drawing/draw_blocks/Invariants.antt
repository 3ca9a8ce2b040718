use Rattle.std.proofs.Common.{◌≡◌, map}
use Rattle.std.specs.List.{range_with_len}
use Rattle.jx_generate.specs.Drawn.{block_drawn, state_before}
use Rattle.jx_generate.specs.Values.{drawn_of}
use Rattle.jx_generate.proofs.drawing.draw_blocks.Given as goal

abbrev pub invariant-loop : goal.invariant-loop
invariant-loop l =
    (map drawn_of l.blocks.items ≡ map (block_drawn l.seed) (range_with_len 0 l.counter)) × (l.state ≡ state_before l.seed l.counter)
