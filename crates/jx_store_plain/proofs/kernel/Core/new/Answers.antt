use Rattle.std.proofs.Common.{List, length, arith, ap, sym, ◌∙◌}
use Rattle.jx_store.specs.declared.event.Taped.{Taped}
use Rattle.jx_store.specs.Setup.{Setup}
use Rattle.jx_store_plain.specs.Shown.{state_of}
use Rattle.jx_store.specs.Machine.{State}
use Rattle.jx_store_plain.proofs.Changes.{fresh}
use Rattle.jx_store_plain.proofs.kernel.Core.new.Goals as goal

pub invariant_of-result : goal.invariant_of-result
invariant_of-result g c =
    let r = c.requires in let e = c.in_ok-sums.ensures in let a = c.args in
    let first = ap (λ (p : Setup). p.first) e in let sizes = ap (λ (p : Setup). length p.sizes) e in let window = ap (λ (p : Setup). p.window) e in
    let t = c.in_ok-tape.ensures.len in let cap = c.in_ok-tape.ensures.capacity in let sl = c.in_ok-slots.ensures in let ok = c.in_ok-slots.slots.ok.0 in
    record {
      window = (let w = r.window in omega (arith, window, w));
      slots = ok ∙ sl ∙ sym window;
      range = (let n = r.count in omega (arith, first, sizes, n));
      low = omega (arith, first);
      mid = omega arith;
      high = omega (arith, first);
      near = omega arith;
      tape = omega (arith, t, first);
      room = omega (arith, cap, sizes);
    }

pub returns : goal.returns
returns g c =
    let a = c.args in let p : Setup = record { first = a.first; sizes = a.sizes.now; window = a.window; most = a.most } in
    let made : Setup → List (Taped g.row.V.Denot) → State g.row.V.Denot = λ q tape. state_of (record { setup = q; next = a.first; drained = a.first; slots = c.in_ok-slots.slots.items; tape = tape }) in
    ap (λ (q : Setup). made q c.in_ok-tape.tape.items) c.in_ok-sums.ensures ∙ ap (made p) c.in_ok-tape.ensures.items ∙ fresh p c.in_ok-slots.slots.items
