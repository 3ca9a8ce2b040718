use Rattle.std.proofs.Common.{◌∙◌, ◌+◌, ◌-◌, ◌++◌, ◌∷◌, [], arith, sym, ap, List, ℕ}
use Rattle.jx_marker.specs.Values.{values_from, entry_at}
use Rattle.jx_marker.proofs.ValueLemmas.{values_all, values_more, room_left}
use Rattle.jx_marker.proofs.fields.entries.Goals as goal

pub loop-i-preserved : goal.loop-i-preserved
loop-i-preserved c =
    let left = room_left c.args.size c.args.count c.loop-i._i c.loop-i-test.true in
    record {
      room = omega (arith, left, c.loop-i.invariant.room);
      so_far = ap (λ (x : List ℕ). x ++ values_from (entry_at c.args.size) c.args.size (c.args.count - (c.loop-i._i + 1)) (c.loop-i.at + c.args.size) c.args.body.now)
          (c.in_ok-push.ensures.items ∙ ap (λ (n : ℕ). c.loop-i.items.items ++ n ∷ []) c.narrow_at.ensures)
          ∙ sym (values_more (entry_at c.args.size) c.args.size c.args.count c.loop-i._i c.loop-i.at c.args.body.now c.loop-i.items.items c.loop-i-test.true)
          ∙ c.loop-i.invariant.so_far;
    }

pub returns : goal.returns
returns c =
    c.new.ensures ∙ values_all (entry_at c.args.size) c.args.size c.args.count c.loop-i._i c.loop-i.at c.args.body.now c.loop-i.items.items
    (values_from (entry_at c.args.size) c.args.size c.args.count c.args.«from» c.args.body.now) c.loop-i-test.false c.loop-i.invariant.so_far

pub narrow_at-requires-clause-room : goal.narrow_at-requires-clause-room
narrow_at-requires-clause-room c =
    let left = room_left c.args.size c.args.count c.loop-i._i c.loop-i-test.true in
    omega (arith, left, c.loop-i.invariant.room)
