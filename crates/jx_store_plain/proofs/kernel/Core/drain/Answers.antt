use Rattle.std.proofs.Common.{◌≡◌, ℕ, List, set, get_or, subst, ◌+◌, ◌%◌, ◌<◌, arith, ap, sym, ◌∙◌}
use Rattle.std.specs.Prelude.{Some, slice_get}
use Rattle.std.proofs.lemmas.Option.{slice_get_read}
use Rattle.std.proofs.lemmas.Nat.{mod_below}
use Rattle.jx_store_plain.specs.declared.slot.Slot.{Slot}
use Rattle.jx_store_plain.specs.declared.slot.Slot.TheVariants.{Empty, Parked}
use Rattle.jx_store.specs.declared.event.Taped.{Taped}
use Rattle.jx_store.specs.Machine.{State}
use Rattle.jx_store_plain.specs.Shown.{Shown, state_of}
use Rattle.jx_store_plain.proofs.Changes.{drain_does}
use Rattle.jx_store_plain.proofs.Refusals.{nothing_claimed, nothing_parked}
use Rattle.jx_store_plain.proofs.kernel.Core.drain.Goals as goal

pub returns : goal.returns
returns g c =
    let f = c.self.inside in let i = c.self.invariant in let t = c.in-Parked-replace in
    let v : Shown g.row.V.Denot = record { setup = f.sums; next = f.next; drained = f.drained; slots = f.slots.items; tape = f.tape.items } in
    let some : f.drained < f.next = omega arith in
    let in_place = c.window.ensures.is in
    let read = slice_get_read f.slots.items f.slots.len (f.drained % f.sums.window) c.index_mut.result.now f.slots.ok.0 (omega (arith, mod_below f.drained f.sums.window)) (subst (λ (w : ℕ). c.index_mut.result.now ≡ get_or f.slots.items (f.drained % w) c.index_mut.result.now) in_place c.index_mut.ensures.value) in
    let at : slice_get f.slots.items (f.drained % f.sums.window) ≡ Some (Parked t.worker t.seen t.value) = read ∙ ap (λ x. Some x) (sym c.replace.ensures.value ∙ t.is) in
    let does = drain_does v t.worker t.seen t.value (record { some = omega arith; slots = sym f.slots.ok.0 ∙ i.slots; mid = i.mid; near = i.near }) some at in
    let after : (w : ℕ) (x : Slot g.row.V.Denot) (tape : List (Taped g.row.V.Denot)) → State g.row.V.Denot = λ w x tape. state_of (record v { drained = f.drained + 1; slots = set f.slots.items (f.drained % w) x; tape = tape }) in
    rw (← c.self.view_is) record {
      state = ap (λ (w : ℕ). after w c.replace.new.dest c.push_reserved.new.self.items) in_place ∙ ap (λ (x : Slot g.row.V.Denot). after f.sums.window x c.push_reserved.new.self.items) c.replace.ensures.after ∙ ap (after f.sums.window Empty) c.push_reserved.ensures.items ∙ sym (ap (λ r. r.0) does);
      reply = sym (ap (λ r. r.1) does);
    }

pub returns-then-self-clause-state : goal.returns-then-self-clause-state
returns-then-self-clause-state g c =
    let f = c.self.inside in
    let v : Shown g.row.V.Denot = record { setup = f.sums; next = f.next; drained = f.drained; slots = f.slots.items; tape = f.tape.items } in
    rw (← c.self.view_is) (sym (ap (λ r. r.0) (nothing_claimed v (omega arith))))

pub returns-then-self-clause-reply : goal.returns-then-self-clause-reply
returns-then-self-clause-reply g c =
    let f = c.self.inside in
    let v : Shown g.row.V.Denot = record { setup = f.sums; next = f.next; drained = f.drained; slots = f.slots.items; tape = f.tape.items } in
    rw (← c.self.view_is) (sym (ap (λ r. r.1) (nothing_claimed v (omega arith))))

pub returns-in_default : goal.returns-in_default
returns-in_default g c =
    let f = c.self.inside in let i = c.self.invariant in
    let v : Shown g.row.V.Denot = record { setup = f.sums; next = f.next; drained = f.drained; slots = f.slots.items; tape = f.tape.items } in
    let at : slice_get f.slots.items (f.drained % f.sums.window) ≡ Some c.index.result.now = slice_get_read f.slots.items f.slots.len (f.drained % f.sums.window) c.index.result.now f.slots.ok.0 (omega (arith, mod_below f.drained f.sums.window)) (subst (λ (w : ℕ). c.index.result.now ≡ get_or f.slots.items (f.drained % w) c.index.result.now) c.window.ensures.is c.index.ensures) in
    let does = nothing_parked v c.index.result.now (omega arith) at c.in_default.not-Parked in
    rw (← c.self.view_is) record { state = sym (ap (λ r. r.0) does); reply = sym (ap (λ r. r.1) does) }
