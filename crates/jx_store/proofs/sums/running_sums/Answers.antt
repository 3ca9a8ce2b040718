use Rattle.std.proofs.Common.{ℕ, ◌+◌, ◌∷◌, [], ◌++◌, get_or, refl, arith, ap, sym, ◌∙◌}
use Rattle.jx_store.proofs.Loads.{sums_grow, total_grow}
use Rattle.jx_store.proofs.sums.running_sums.Goals as goal

pub loop-size-preserved : goal.loop-size-preserved
loop-size-preserved c =
    let i = c.loop-size.invariant in let n = c.loop-size.size-index in let p = c.push_reserved-in-loop-size.ensures in
    let xs = c.args.sizes.now in let was = c.loop-size.sums.items in
    let x : ℕ = get_or xs n 0 in
    record {
      sums = p.items ∙ ap (λ (t : ℕ). was ++ (t + x) ∷ []) i.total ∙ sums_grow xs was n x 0 (omega arith) refl i.sums;
      total = ap (λ (t : ℕ). t + x) i.total ∙ sym (total_grow xs n x 0 (omega arith) refl);
      long = (let l = i.long in let m = p.len in omega (arith, l, m));
      room = (let l = i.room in let m = p.capacity in omega (arith, l, m));
    }
