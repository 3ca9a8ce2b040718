use Rattle.std.proofs.Common.{◌∙◌, ◌==◌, ◌&&◌, ◌+◌, ℕ, nat_lt, cond, length, ap, get_or}
use Rattle.std.proofs.Math.ListN.{set}
use Rattle.jx_codestream.proofs.IndexLemmas.{index_on, size_after, front_size}
use Rattle.jx_codestream.proofs.index.table_of.Goals as goal

pub loop-place-preserved : goal.loop-place-preserved
loop-place-preserved c =
    let next = c.enter.ensures ∙ ap (λ (n : ℕ). cond (nat_lt n (length c.loop-place.table.items) && (get_or c.loop-place.table.items n 0 == 0)) (set c.loop-place.table.items n (c.loop-place.place + 1)) c.loop-place.table.items) c.slot_of.ensures in
    let on = index_on c.args.segments.now c.loop-place.place c.index-segments-place.result c.loop-place.table.items c.enter.new.table.items c.loop-place-test.true c.index-segments-place.is
    (front_size c.args.segments.now c.loop-place.place c.loop-place-test.true) c.loop-place.invariant.right c.loop-place.invariant.small next in
    record {
      right = on.0;
      small = on.1;
      count = size_after c.slot_of.result (c.loop-place.place + 1) (nat_lt c.slot_of.result (length c.loop-place.table.items) && (get_or c.loop-place.table.items c.slot_of.result 0 == 0)) c.loop-place.table.items c.enter.new.table.items c.enter.ensures ∙ c.loop-place.invariant.count;
    }
