use Rattle.std.proofs.Common.{◌≡◌, ◌++◌, ◌-◌, map}
use Rattle.std.specs.List.{range_with_len}
use Rattle.jx_tier1_specs.specs.Segments.{bytes_of}
use Rattle.jx_codeblock.specs.Segments.{ends_below, bytes_before, sent_by_looks}
use Rattle.jx_codeblock.proofs.sent.by_looks.Given as goal

abbrev pub invariant-loop-sent : goal.invariant-loop-sent
invariant-loop-sent l = record {
  listed : l.table.items ++ map (sent_by_looks l.style.bits l.passes (map bytes_of l.segments) l.looked) (range_with_len l.sent (l.sent-end - l.sent))
      ≡ map (sent_by_looks l.style.bits l.passes (map bytes_of l.segments) l.looked) (range_with_len 0 l.sent-end);
  at : l.at ≡ ends_below l.style.bits l.sent;
  before : l.before ≡ bytes_before (map bytes_of l.segments) l.at;
}
