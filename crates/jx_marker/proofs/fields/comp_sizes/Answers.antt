use Rattle.std.proofs.Common.{◌∙◌, ◌+◌, ◌-◌, ◌++◌, ◌∷◌, [], arith, sym, ap, List}
use Rattle.jx_marker.specs.declared.CompSize.{CompSize}
use Rattle.jx_marker.specs.Values.{values_from, comp_size_at}
use Rattle.jx_marker.proofs.ValueLemmas.{values_all, values_more}
use Rattle.jx_marker.proofs.fields.comp_sizes.Goals as goal

pub loop-i-preserved : goal.loop-i-preserved
loop-i-preserved c =
    record {
      place = omega (arith, c.loop-i.invariant.place);
      so_far = ap (λ (x : List CompSize). x ++ values_from comp_size_at 3 (c.args.count - (c.loop-i._i + 1)) (c.loop-i.at + 3) c.args.body.now)
          (c.in_ok-push.ensures.items ∙ ap (λ (x : CompSize). c.loop-i.items.items ++ x ∷ []) c.comp_size_at.ensures)
          ∙ sym (values_more comp_size_at 3 c.args.count c.loop-i._i c.loop-i.at c.args.body.now c.loop-i.items.items c.loop-i-test.true)
          ∙ c.loop-i.invariant.so_far;
    }

pub returns : goal.returns
returns c =
    c.new.ensures ∙ values_all comp_size_at 3 c.args.count c.loop-i._i c.loop-i.at c.args.body.now c.loop-i.items.items
    (values_from comp_size_at 3 c.args.count 36 c.args.body.now) c.loop-i-test.false c.loop-i.invariant.so_far
