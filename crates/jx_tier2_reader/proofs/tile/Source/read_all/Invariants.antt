use Rattle.std.proofs.Common.{take}
use Rattle.jx_tier2_reader.specs.Reading.{IsFront, IsInside}
use Rattle.jx_tier2_reader.proofs.tile.Source.read_all.Given as goal

abbrev pub invariant-loop-number : goal.invariant-loop-number
invariant-loop-number l = record {
  front : IsFront l.self.bytes.now l.self.stream.now l.self.geom.now.tile (take l.number l.self.list.now) l.rest l.blocks.items;
  inside : IsInside l.self.bytes.now l.rest;
}
