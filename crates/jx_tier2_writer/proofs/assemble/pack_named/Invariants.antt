use Rattle.std.proofs.Common.{◌≡◌, ◌≤◌, ◌+◌, ◌-◌, All, drop, length, map}
use Rattle.std.specs.List.{concat}
use Rattle.jx_tile_parts.specs.Groups.{more_groups}
use Rattle.jx_tier2_writer.specs.Packed.{own_packets}
use Rattle.jx_tier2_writer.specs.Pieces.{IsPartOut, pieces_with}
use Rattle.jx_tier2_writer.proofs.CutLemmas.{IsCut}
use Rattle.jx_tier2_writer.proofs.assemble.pack_named.Given as goal

abbrev pub invariant-loop-from : goal.invariant-loop-from
invariant-loop-from g l = record {
  within : l.from ≤ length l.names;
  few : l.count ≤ 255;
  left : length l.parts.items + length (more_groups l.marks.parts (drop l.from l.names)) ≡ l.count;
  cut : IsCut l.marks l.stream l.geom (map g.B.Coded.block l.values) l.names l.most l.count (length l.parts.items) l.from
      (map concat (pieces_with (own_packets l.marks l.stream l.geom (map g.B.Coded.block l.values)) l.names l.parts.items));
  parts : All (IsPartOut (own_packets l.marks l.stream l.geom (map g.B.Coded.block l.values)) l.names) l.parts.items;
}

abbrev pub decreases-loop-from : goal.decreases-loop-from
decreases-loop-from g l = length l.names - l.from
