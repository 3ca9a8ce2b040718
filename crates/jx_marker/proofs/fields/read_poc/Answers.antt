use Rattle.std.proofs.Common.{◌∙◌, ◌+◌, ◌-◌, ◌/◌, ◌++◌, ◌∷◌, [], arith, sym, ap, length, List}
use Rattle.jx_marker.specs.declared.Progression.{Progression}
use Rattle.jx_marker.specs.Values.{values_from, progression_at}
use Rattle.jx_marker.proofs.ValueLemmas.{room_left, values_all, values_more}
use Rattle.jx_marker.proofs.fields.read_poc.Goals as goal

pub loop-i-preserved : goal.loop-i-preserved
loop-i-preserved c =
    let size = c.progression_size-size.result in
    let count = length c.args.body.now / size in
    let left = room_left size count c.loop-i._i c.loop-i-test.true in
    record {
      room = omega (arith, left, c.loop-i.invariant.room);
      so_far = ap (λ (x : List Progression). x ++ values_from (progression_at c.args.comps) size (count - (c.loop-i._i + 1)) (c.loop-i.at + size) c.args.body.now)
          (c.in_ok-push.ensures.items ∙ ap (λ (x : Progression). c.loop-i.items.items ++ x ∷ []) c.progression_at.ensures)
          ∙ (sym (values_more (progression_at c.args.comps) size count c.loop-i._i c.loop-i.at c.args.body.now c.loop-i.items.items c.loop-i-test.true)
          ∙ c.loop-i.invariant.so_far);
    }

pub progression_at-requires : goal.progression_at-requires
progression_at-requires c =
    let size = c.progression_size-size.result in
    let left = room_left size (length c.args.body.now / size) c.loop-i._i c.loop-i-test.true in
    omega (arith, left, c.loop-i.invariant.room, c.progression_size-size.ensures.value)

pub returns : goal.returns
returns c =
    let size = c.progression_size-size.result in
    let all = values_all (progression_at c.args.comps) size (length c.args.body.now / size) c.loop-i._i c.loop-i.at c.args.body.now c.loop-i.items.items
    (values_from (progression_at c.args.comps) size (length c.args.body.now / size) 0 c.args.body.now) c.loop-i-test.false c.loop-i.invariant.so_far in
    c.new.ensures ∙ (all ∙ ap (λ s. values_from (progression_at c.args.comps) s (length c.args.body.now / s) 0 c.args.body.now) c.progression_size-size.ensures.value)
