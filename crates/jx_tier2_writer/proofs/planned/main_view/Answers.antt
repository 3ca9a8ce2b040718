use Rattle.jx_tier2_writer.proofs.planned.main_view.Goals as goal

pub main_view-requires : goal.main_view-requires
main_view-requires c = c.ready_is_in_range.ensures.stream c.args.plan.now.wanted.marks c.ready_headers.result.now c.ready_headers.ensures.ready
