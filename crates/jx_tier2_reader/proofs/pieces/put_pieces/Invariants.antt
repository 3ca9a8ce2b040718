use Rattle.std.proofs.Common.{◌≡◌, ◌≤◌, length, drop}
use Rattle.jx_tier2_reader.specs.Data.{parts_length}
use Rattle.jx_tier2_reader.specs.Blocks.{founds_from}
use Rattle.jx_tier2_reader.specs.Put.{put_all}
use Rattle.jx_tier2_reader.specs.Reading.{CanPut}
use Rattle.jx_tier2_reader.proofs.pieces.put_pieces.Given as goal

abbrev pub invariant-loop-part : goal.invariant-loop-part
invariant-loop-part l = record {
  same : put_all l.blocks.items (founds_from l.geom l.name l.precinct l.rest (drop l.part-index l.packet.parts.items))
      ≡ put_all l.fn.blocks.items (founds_from l.geom l.name l.precinct l.packet.bytes.now l.packet.parts.items);
  can : CanPut l.blocks.items (founds_from l.geom l.name l.precinct l.rest (drop l.part-index l.packet.parts.items));
  bytes : parts_length (drop l.part-index l.packet.parts.items) ≤ length l.rest;
}
