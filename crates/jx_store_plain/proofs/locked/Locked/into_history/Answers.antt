use Rattle.std.proofs.Common.{List, ap, sym, subst, ◌∙◌}
use Rattle.std.specs.Prelude.{slice_get}
use Rattle.jx_store.specs.declared.event.Taped.{Taped}
use Rattle.jx_store.specs.declared.work.Named.{Named}
use Rattle.jx_store.specs.Setup.{Setup, Within}
use Rattle.jx_store_plain.proofs.Replays.{remembers}
use Rattle.jx_store_plain.proofs.locked.Locked.into_history.Goals as goal

pub returns-clause-within : goal.returns-clause-within
returns-clause-within g c i t at =
    let k = c.self.invariant.kept in
    let was = k.order.1.each i t (ap (λ (l : List (Taped (Named g.row.V.Denot))). slice_get l i) (sym c.into_tape-tape.ensures) ∙ at) in
    subst (λ (p : Setup). Within p t.seen t.number) k.setup_is was.0.1

pub returns-clause-valid : goal.returns-clause-valid
returns-clause-valid g c i t at = c.self.invariant.valid.tape i t (ap (λ (l : List (Taped (Named g.row.V.Denot))). slice_get l i) (sym c.into_tape-tape.ensures) ∙ at)

pub returns-clause-remembers : goal.returns-clause-remembers
returns-clause-remembers g c = rw (← c.self.view_is) (remembers _ _ _ c.self.invariant.recorded)
