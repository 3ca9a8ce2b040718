use Rattle.std.proofs.Common.{◌≡◌, ℕ, ◌%◌, ◌<◌, ◌≤◌, ◌⊎◌, get_or, set, subst, arith, refl, ap, sym, inl, inr, ◌∙◌}
use Rattle.std.specs.Prelude.{Some, slice_get}
use Rattle.std.proofs.lemmas.Option.{slice_get_read}
use Rattle.std.proofs.lemmas.Nat.{mod_below}
use Rattle.jx_store_plain.specs.declared.slot.Slot.TheVariants.{Held, Parked}
use Rattle.jx_store_plain.specs.Shown.{Shown, held_in, state_of}
use Rattle.jx_store.specs.Machine.{State}
use Rattle.jx_store.proofs.Changes.{does_commit}
use Rattle.jx_store_plain.proofs.Changes.{commits}
use Rattle.jx_store_plain.proofs.Windows.{slot_in}
use Rattle.jx_store_plain.proofs.Refusals.{foreign_out, foreign_free, foreign_other}
use Rattle.jx_store_plain.proofs.kernel.Core.commit.Goals.{then-number-self-via-then-number-self, then-number-self-via-else-number-self+then-number-self-2}
use Rattle.jx_store_plain.proofs.kernel.Core.commit.Goals as goal

pub returns : goal.returns
returns g c =
    let f = c.self.inside in let i = c.self.invariant in let w = c.args.worker in let k = c.args.number in let seen = c.in-Held.seen in
    let low : f.drained ≤ k = omega arith in
    let high : k < f.next = omega arith in
    let long = f.slots.ok.0 in
    let in_place = c.window.ensures.is in
    let read = slice_get_read f.slots.items f.slots.len (k % f.sums.window) c.index.result.now long (omega (arith, mod_below k f.sums.window)) (subst (λ (w : ℕ). c.index.result.now ≡ get_or f.slots.items (k % w) c.index.result.now) in_place c.index.ensures) in
    let at : slice_get f.slots.items (k % f.sums.window) ≡ Some (Held w seen) = read ∙ ap (λ x. Some x) (c.in-Held.is ∙ ap (λ x. Held x seen) c.if-holder-worker.false) in
    let held = ap held_in (slot_in f.drained f.next f.sums.window f.slots.items k low high ∙ at) in
    let does = does_commit _ w k c.args.value (record { worker = w; seen = seen }) held refl in
    let v : Shown g.row.V.Denot = record { setup = f.sums; next = f.next; drained = f.drained; slots = f.slots.items; tape = f.tape.items } in
    let after : ℕ → State g.row.V.Denot = λ m. state_of (record v { slots = set f.slots.items (k % m) (Parked w seen c.args.value) }) in
    rw (← c.self.view_is) record {
      state = ap after in_place ∙ commits _ w k seen c.args.value (record { some = omega arith; slots = sym long ∙ i.slots; mid = i.mid; near = i.near }) low high at ∙ sym (ap (λ r. r.0) does);
      reply = sym (ap (λ r. r.1) does);
    }

pub returns-then-number-self-clause-state : goal.returns-then-number-self-clause-state
returns-then-number-self-clause-state g c =
    let f = c.self.inside in
    let v : Shown g.row.V.Denot = record { setup = f.sums; next = f.next; drained = f.drained; slots = f.slots.items; tape = f.tape.items } in
    let out : (c.args.number < f.drained) ⊎ (f.next ≤ c.args.number) = elim c.then-number-self.branch [
      | then-number-self-via-then-number-self b ↦ inl b.if-number-self.true
      | then-number-self-via-else-number-self+then-number-self-2 b ↦ inr b.if-number-self-2.true
    ] in
    rw (← c.self.view_is) (sym (ap (λ r. r.0) (foreign_out v c.args.worker c.args.number c.args.value out)))

pub returns-then-number-self-clause-reply : goal.returns-then-number-self-clause-reply
returns-then-number-self-clause-reply g c =
    let f = c.self.inside in
    let v : Shown g.row.V.Denot = record { setup = f.sums; next = f.next; drained = f.drained; slots = f.slots.items; tape = f.tape.items } in
    let out : (c.args.number < f.drained) ⊎ (f.next ≤ c.args.number) = elim c.then-number-self.branch [
      | then-number-self-via-then-number-self b ↦ inl b.if-number-self.true
      | then-number-self-via-else-number-self+then-number-self-2 b ↦ inr b.if-number-self-2.true
    ] in
    rw (← c.self.view_is) (sym (ap (λ r. r.1) (foreign_out v c.args.worker c.args.number c.args.value out)))

pub returns-in_default : goal.returns-in_default
returns-in_default g c =
    let f = c.self.inside in let i = c.self.invariant in let k = c.args.number in
    let v : Shown g.row.V.Denot = record { setup = f.sums; next = f.next; drained = f.drained; slots = f.slots.items; tape = f.tape.items } in
    let at : slice_get f.slots.items (k % f.sums.window) ≡ Some c.index.result.now = slice_get_read f.slots.items f.slots.len (k % f.sums.window) c.index.result.now f.slots.ok.0 (omega (arith, mod_below k f.sums.window)) (subst (λ (w : ℕ). c.index.result.now ≡ get_or f.slots.items (k % w) c.index.result.now) c.window.ensures.is c.index.ensures) in
    let does = foreign_free v c.args.worker k c.args.value c.index.result.now (omega arith) (omega arith) at c.in_default.not-Held in
    rw (← c.self.view_is) record { state = sym (ap (λ r. r.0) does); reply = sym (ap (λ r. r.1) does) }

pub returns-then-holder-worker-clause-state : goal.returns-then-holder-worker-clause-state
returns-then-holder-worker-clause-state g c =
    let f = c.self.inside in let i = c.self.invariant in let k = c.args.number in let h = c.in-Held.holder in let seen = c.in-Held.seen in
    let v : Shown g.row.V.Denot = record { setup = f.sums; next = f.next; drained = f.drained; slots = f.slots.items; tape = f.tape.items } in
    let read = slice_get_read f.slots.items f.slots.len (k % f.sums.window) c.index.result.now f.slots.ok.0 (omega (arith, mod_below k f.sums.window)) (subst (λ (w : ℕ). c.index.result.now ≡ get_or f.slots.items (k % w) c.index.result.now) c.window.ensures.is c.index.ensures) in
    let at : slice_get f.slots.items (k % f.sums.window) ≡ Some (Held h seen) = read ∙ ap (λ x. Some x) c.in-Held.is in
    rw (← c.self.view_is) (sym (ap (λ r. r.0) (foreign_other v c.args.worker k c.args.value h seen (omega arith) (omega arith) at c.if-holder-worker.true)))

pub returns-then-holder-worker-clause-reply : goal.returns-then-holder-worker-clause-reply
returns-then-holder-worker-clause-reply g c =
    let f = c.self.inside in let i = c.self.invariant in let k = c.args.number in let h = c.in-Held.holder in let seen = c.in-Held.seen in
    let v : Shown g.row.V.Denot = record { setup = f.sums; next = f.next; drained = f.drained; slots = f.slots.items; tape = f.tape.items } in
    let read = slice_get_read f.slots.items f.slots.len (k % f.sums.window) c.index.result.now f.slots.ok.0 (omega (arith, mod_below k f.sums.window)) (subst (λ (w : ℕ). c.index.result.now ≡ get_or f.slots.items (k % w) c.index.result.now) c.window.ensures.is c.index.ensures) in
    let at : slice_get f.slots.items (k % f.sums.window) ≡ Some (Held h seen) = read ∙ ap (λ x. Some x) c.in-Held.is in
    rw (← c.self.view_is) (sym (ap (λ r. r.1) (foreign_other v c.args.worker k c.args.value h seen (omega arith) (omega arith) at c.if-holder-worker.true)))
