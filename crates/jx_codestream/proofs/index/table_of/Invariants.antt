use Rattle.std.proofs.Common.{◌≡◌, length, take}
use Rattle.jx_codestream.specs.Headers.{slot_count}
use Rattle.jx_codestream.specs.Index.{Indexes}
use Rattle.jx_codestream.proofs.IndexLemmas.{IsSmall}
use Rattle.jx_codestream.proofs.index.table_of.Given as goal

abbrev pub invariant-loop-place : goal.invariant-loop-place
invariant-loop-place l = record {
  right : Indexes (take l.place l.segments) l.table.items;
  small : IsSmall l.place l.table.items;
  count : length l.table.items ≡ slot_count l.comps;
}
