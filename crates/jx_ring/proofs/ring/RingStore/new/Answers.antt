use Rattle.std.proofs.Common.{length, ap, sym, ◌∙◌}
use Rattle.jx_store.specs.Setup.{Setup}
use Rattle.jx_ring.proofs.ring.RingStore.new.Goals as goal

pub first_table-requires-clause-bounds : goal.first_table-requires-clause-bounds
first_table-requires-clause-bounds g c = let b = c.requires.bounds in
    (sym (ap (λ (s : Setup). s.first) b.0), sym (ap (λ (s : Setup). s.window) b.0), sym (ap (λ (s : Setup). length s.sizes) b.0), sym b.1)

pub deal_all-passes-requires-clause-table : goal.deal_all-passes-requires-clause-table
deal_all-passes-requires-clause-table g c = (c.in_ok-table.ensures.seat.0, c.requires.workers.0)

pub deal_all-passes-requires-clause-seat : goal.deal_all-passes-requires-clause-seat
deal_all-passes-requires-clause-seat g c = c.in_ok-table.ensures.seat.1

pub deal_all-passes-requires-clause-room : goal.deal_all-passes-requires-clause-room
deal_all-passes-requires-clause-room g c = c.in_ok-table.ensures.room

pub returns-clause-count : goal.returns-clause-count
returns-clause-count g c = c.deal_all-passes.ensures.count

pub returns-clause-workers : goal.returns-clause-workers
returns-clause-workers g c = c.deal_all-passes.ensures.workers

pub returns-clause-fresh : goal.returns-clause-fresh
returns-clause-fresh g c = λ k other inside.
    let f = ap (λ (s : Setup). s.first) c.requires.bounds.0 in
    let x = c.deal_all-passes.ensures.fresh k other inside in
    (x.0, x.1, x.2, x.3 ∙ f, x.4 ∙ f)
