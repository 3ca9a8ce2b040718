use Rattle.std.proofs.Common.{◌≡◌, suc, ◌+◌, length, arith, ap, sym, subst, ◌∙◌}
use Rattle.std.proofs.lemmas.List.{length_push}
use Rattle.jx_store.specs.Machine.{State, does}
use Rattle.jx_store_plain.specs.Notes.{Notes, note}
use Rattle.jx_store.specs.declared.event.Event.TheVariants.{Drain}
use Rattle.jx_store.specs.declared.event.Reply.TheVariants.{Drained}
use Rattle.jx_store_plain.specs.Kept.{drains}
use Rattle.jx_store_plain.specs.Shown.{state_of}
use Rattle.jx_store_plain.specs.ShownNotes.{shown}
use Rattle.jx_store_plain.proofs.Tally.{Idle, was_idle, was_drained, drains_more}
use Rattle.jx_store_plain.proofs.Records.{drain_notes_more}
use Rattle.jx_store_plain.proofs.locked.settle.Goals as goal

pub loop-history-preserved : goal.loop-history-preserved
loop-history-preserved g c =
    let i = c.loop-history.invariant in
    let V = g.row.V.Denot in
    let s : State V = state_of c.loop-history.core in
    let r : (does s Drain).1 ≡ Drained c.in-Drained.number = sym c.step.ensures.reply ∙ c.in-Drained.is in
    let w = was_drained c.loop-history.core c.in-Drained.number r in
    let d : c.step.new.self.drained ≡ c.loop-history.core.drained + 1 = ap (λ (t : State V). t.drained) c.step.ensures.state ∙ w.1 in
    let n : c.step.new.self.next ≡ c.loop-history.core.next = ap (λ (t : State V). t.next) c.step.ensures.state ∙ w.2 in
    let grown : length c.tell.new.self.steps.items ≡ length c.loop-history.history.steps.items + 1 = ap (λ (m : Notes). length m.steps) c.tell.ensures.shown ∙ length_push c.loop-history.history.steps.items _ in
    let more = w.0 in
    record {
      m = suc i.m;
      state = c.step.ensures.state ∙ ap (λ (t : State V). (does t Drain).0) i.state ∙ drains_more (state_of c.args.core.now) i.m;
      notes = c.tell.ensures.shown ∙ ap (note {V = V} (shown c.loop-history.history) Drain) (sym r) ∙ ap (λ (t : State V). note {V = V} (shown c.loop-history.history) Drain (does t Drain).1) i.state
          ∙ ap (λ (m : Notes). note {V = V} m Drain (does (drains (state_of c.args.core.now) i.m) Drain).1) i.notes ∙ drain_notes_more (state_of c.args.core.now) (shown c.args.history.now) i.m;
      long = (let l = i.long in omega arith);
      next = n ∙ i.next;
      mid = omega arith;
      room = c.tell.ensures.room.1 ∙ i.room;
    }

pub returns-in_default : goal.returns-in_default
returns-in_default g c =
    let i = c.loop-history.invariant in
    let V = g.row.V.Denot in
    let w = was_idle (state_of c.loop-history.core) (λ k e. c.in_default.not-Drained k (c.step.ensures.reply ∙ e)) in
    let e = c.step.ensures.state ∙ w.0 in
    let d : c.step.new.self.drained ≡ c.loop-history.core.drained = ap (λ (t : State V). t.drained) e in
    let n : c.step.new.self.next ≡ c.loop-history.core.next = ap (λ (t : State V). t.next) e in
    record { settled = (i.m, e ∙ i.state, i.notes, subst Idle (sym e) w.1, (let l = i.long in omega arith), n ∙ i.next); room = i.room }
