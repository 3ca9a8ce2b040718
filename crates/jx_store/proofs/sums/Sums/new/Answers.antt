use Rattle.std.proofs.Common.{ℕ, List, length, arith, ap, sym, ◌∙◌}
use Rattle.jx_store.specs.Setup.{Setup}
use Rattle.jx_store.specs.Sums.{items_of, sums_from}
use Rattle.jx_store.proofs.Loads.{items_of_sums}
use Rattle.jx_store.proofs.sums.Sums.new.Goals as goal

pub invariant_of-result : goal.invariant_of-result
invariant_of-result c =
    let items = ap items_of c.in_ok-sums.ensures ∙ items_of_sums 0 c.args.sizes.now in let long = ap length items in let r = c.requires in
    record {
      some = (let n = r.count in omega (arith, long, n));
      range = (let n = r.count in omega (arith, long, n));
      window = r.window;
      sums = c.in_ok-sums.ensures ∙ ap (sums_from 0) (sym items);
    }

pub returns : goal.returns
returns c =
    let a = c.args in let with_sizes : List ℕ → Setup = λ sizes. record { first = a.first; sizes = sizes; window = a.window; most = a.most } in
    ap with_sizes (ap items_of c.in_ok-sums.ensures ∙ items_of_sums 0 a.sizes.now)
