use Rattle.std.proofs.Common.{◌∙◌, ap, length, sym}
use Rattle.jx_store.proofs.NumberLemmas.{length_numbered}
use Rattle.jx_store_tests.proofs.Passes.{all_kept}
use Rattle.jx_store_tests.proofs.lock_thread_tests.shared.Goals as goal

pub all_work-requires-clause-some : goal.all_work-requires-clause-some
all_work-requires-clause-some g c κs within =
    let many = length_numbered _ c.in_ok-store.passes.items 0 c.args.limits.workers c.in_ok-store.ensures.workers in
    rw (c.as_mut_slice.ensures.value, many) c.requires.limits.4

pub into_tape-requires-clause-all : goal.into_tape-requires-clause-all
into_tape-requires-clause-all g c =
    let many = length_numbered _ c.in_ok-store.passes.items 0 c.args.limits.workers c.in_ok-store.ensures.workers in
    let long = c.in_ok-store.passes.ok.0 ∙ many in
    (c.requires.each.0 ∙ sym long, c.requires.each.3 ∙ sym long, rw long c.requires.limits.4)

pub into_tape-requires-clause-none : goal.into_tape-requires-clause-none
into_tape-requires-clause-none g c =
    let long = c.all_work.auto.passes ∙ ap length c.as_mut_slice.ensures.value ∙ sym c.in_ok-store.passes.ok.0 in
    rw (all_kept c.in_ok-store.passes.len c.all_work.new.passes _ long) c.all_work.ensures
