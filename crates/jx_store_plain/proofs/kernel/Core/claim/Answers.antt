use Rattle.std.proofs.Common.{ℕ, ◌+◌, ◌%◌, set, arith, ap, sym, ◌∙◌}
use Rattle.jx_store_plain.specs.declared.slot.Slot.TheVariants.{Held}
use Rattle.jx_store.specs.Machine.{State, is_full}
use Rattle.jx_store_plain.specs.Shown.{Shown, state_of}
use Rattle.jx_store_plain.proofs.Changes.{claim_does}
use Rattle.jx_store_plain.proofs.kernel.Core.claim.Goals as goal

pub returns-clause-state : goal.returns-clause-state
returns-clause-state g c = rw (← c.self.view_is) (
    let f = c.self.inside in let i = c.self.invariant in
    let v : Shown g.row.V.Denot = record { setup = f.sums; next = f.next; drained = f.drained; slots = f.slots.items; tape = f.tape.items } in
    let room = ap (λ (s : Shown g.row.V.Denot). is_full (state_of s)) c.self.view_is ∙ sym c.is_full.ensures ∙ c.if-is_full.false in
    let after : ℕ → State g.row.V.Denot = λ w. state_of (record v { next = f.next + 1; slots = set f.slots.items (f.next % w) (Held c.args.worker f.drained) }) in
    ap after c.window.ensures.is
    ∙ claim_does v c.args.worker (record { some = omega arith; slots = sym f.slots.ok.0 ∙ i.slots; mid = i.mid; near = i.near }) (λ e. let n = c.end.ensures.is in omega (arith, n, e)) room)
