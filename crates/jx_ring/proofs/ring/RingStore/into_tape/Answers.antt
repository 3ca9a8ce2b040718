use Rattle.std.proofs.Common.{ℕ, ◌+◌, ap, sym, ◌∙◌}
use Rattle.jx_ring.proofs.Ends.{lasts, says}
use Rattle.jx_ring.proofs.ring.RingStore.into_tape.Goals as goal

pub join_all-seat-requires : goal.join_all-seat-requires
join_all-seat-requires g c = record { all = (c.requires.all.1, c.requires.all.2); none = c.requires.none }

pub close_with-closed-requires : goal.close_with-closed-requires
close_with-closed-requires g c = c.join_all-seat.ensures.0

pub collect-requires-clause-slots : goal.collect-requires-clause-slots
collect-requires-clause-slots g c =
    let window = c.window-window.ensures in let closed = c.close_with-closed.ensures in
    (closed.counts.1 ∙ (window.counts.1 ∙ ap (λ (n : ℕ). n + 1) (sym window.is.0)), closed.values.1)

pub collect-requires-clause-shut : goal.collect-requires-clause-shut
collect-requires-clause-shut g c =
    let all = sym c.args.passes.ok.0 ∙ c.requires.all.0 in let v = c.join_all-seat.result.me.0 in
    (v.done, v.next, (lasts _ _ _ _ _ _ v c.args.passes.items _ c.close_with-closed.ensures.values.2 c.join_all-seat.ensures.1 all c.word.ensures).1)

pub returns-clause-order : goal.returns-clause-order
returns-clause-order g c =
    let all = sym c.args.passes.ok.0 ∙ c.requires.all.0 in let v = c.join_all-seat.result.me.0 in
    let shut = (lasts _ _ _ _ _ _ v c.args.passes.items _ c.close_with-closed.ensures.values.2 c.join_all-seat.ensures.1 all c.word.ensures).1 in
    (says _ _ c.args.passes.items v c.collect.result.items c.join_all-seat.ensures.1 (c.collect.ensures v.done v.next shut)).order

pub returns-clause-within : goal.returns-clause-within
returns-clause-within g c =
    let all = sym c.args.passes.ok.0 ∙ c.requires.all.0 in let v = c.join_all-seat.result.me.0 in
    let shut = (lasts _ _ _ _ _ _ v c.args.passes.items _ c.close_with-closed.ensures.values.2 c.join_all-seat.ensures.1 all c.word.ensures).1 in
    (says _ _ c.args.passes.items v c.collect.result.items c.join_all-seat.ensures.1 (c.collect.ensures v.done v.next shut)).within

pub returns-clause-valid : goal.returns-clause-valid
returns-clause-valid g c =
    let all = sym c.args.passes.ok.0 ∙ c.requires.all.0 in let v = c.join_all-seat.result.me.0 in
    let shut = (lasts _ _ _ _ _ _ v c.args.passes.items _ c.close_with-closed.ensures.values.2 c.join_all-seat.ensures.1 all c.word.ensures).1 in
    (says _ _ c.args.passes.items v c.collect.result.items c.join_all-seat.ensures.1 (c.collect.ensures v.done v.next shut)).valid

pub returns-clause-same : goal.returns-clause-same
returns-clause-same g c =
    let all = sym c.args.passes.ok.0 ∙ c.requires.all.0 in let v = c.join_all-seat.result.me.0 in
    let shut = (lasts _ _ _ _ _ _ v c.args.passes.items _ c.close_with-closed.ensures.values.2 c.join_all-seat.ensures.1 all c.word.ensures).1 in
    (says _ _ c.args.passes.items v c.collect.result.items c.join_all-seat.ensures.1 (c.collect.ensures v.done v.next shut)).same

pub returns-clause-count : goal.returns-clause-count
returns-clause-count g c =
    let all = sym c.args.passes.ok.0 ∙ c.requires.all.0 in let v = c.join_all-seat.result.me.0 in
    let shut = (lasts _ _ _ _ _ _ v c.args.passes.items _ c.close_with-closed.ensures.values.2 c.join_all-seat.ensures.1 all c.word.ensures).1 in
    (says _ _ c.args.passes.items v c.collect.result.items c.join_all-seat.ensures.1 (c.collect.ensures v.done v.next shut)).count

pub returns-clause-who : goal.returns-clause-who
returns-clause-who g c =
    let all = sym c.args.passes.ok.0 ∙ c.requires.all.0 in let v = c.join_all-seat.result.me.0 in
    let shut = (lasts _ _ _ _ _ _ v c.args.passes.items _ c.close_with-closed.ensures.values.2 c.join_all-seat.ensures.1 all c.word.ensures).1 in
    (says _ _ c.args.passes.items v c.collect.result.items c.join_all-seat.ensures.1 (c.collect.ensures v.done v.next shut)).by_whom

pub returns-clause-whole : goal.returns-clause-whole
returns-clause-whole g c =
    let all = sym c.args.passes.ok.0 ∙ c.requires.all.0 in let v = c.join_all-seat.result.me.0 in
    let shut = (lasts _ _ _ _ _ _ v c.args.passes.items _ c.close_with-closed.ensures.values.2 c.join_all-seat.ensures.1 all c.word.ensures).1 in
    (says _ _ c.args.passes.items v c.collect.result.items c.join_all-seat.ensures.1 (c.collect.ensures v.done v.next shut)).whole
