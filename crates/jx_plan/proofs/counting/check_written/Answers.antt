use Rattle.std.proofs.Common.{rules, ◌≡◌, ◌<◌, ◌^◌, ap}
use Rattle.std.proofs.lemmas.Result.{IfErr-weaker}
use Rattle.jx_options.specs.Wanted.{Wanted}
use Rattle.jx_tile_parts.specs.Groups.{HasFewEntries}
use Rattle.jx_plan.specs.Plan.{headers_with}
use Rattle.jx_plan.proofs.CauseLemmas.{claim_made, entries_made, met_made, unmet_late}
use Rattle.jx_plan.proofs.PlanLemmas.{headers_in_range, headers_pass}
use Rattle.jx_plan.proofs.counting.check_written.Goals as goal

pub check_entries-requires-clause-range : goal.check_entries-requires-clause-range
check_entries-requires-clause-range c =
    let few : c.args.layers < 2 ^ 16 = search rules in
    headers_in_range c.args.options.now c.args.layers c.args.stream.now c.args.written.now c.requires.stand c.requires.range c.requires.wanted c.requires.fits c.requires.some few c.requires.written

pub check_entries-requires-clause-totals : goal.check_entries-requires-clause-totals
check_entries-requires-clause-totals c =
    let few : c.args.layers < 2 ^ 16 = search rules in
    headers_pass c.args.options.now c.args.layers c.args.stream.now c.args.written.now c.requires.stand c.requires.range c.requires.wanted c.requires.fits c.requires.some few c.requires.written
    c.requires.totals c.requires.few

pub check_profile-requires : goal.check_profile-requires
check_profile-requires c =
    let few : c.args.layers < 2 ^ 16 = search rules in
    headers_in_range c.args.options.now c.args.layers c.args.stream.now c.args.written.now c.requires.stand c.requires.range c.requires.wanted c.requires.fits c.requires.some few c.requires.written

pub returns-clause-claimed : goal.returns-clause-claimed
returns-clause-claimed c =
    let own : c.options.inside.marks ≡ c.args.options.now.marks = ap (λ (w : Wanted). w.marks) c.options.view_is in
    met_made c.check_profile.result _ _ (claim_made c.options.inside.marks c.args.options.now c.args.layers c.args.stream.now c.args.written.now own c.requires.written) c.check_profile.ensures.met

pub returns-clause-cause : goal.returns-clause-cause
returns-clause-cause c =
    let own : c.options.inside.marks ≡ c.args.options.now.marks = ap (λ (w : Wanted). w.marks) c.options.view_is in
    let entries : HasFewEntries c.args.options.now.marks (headers_with c.args.options.now c.args.layers c.args.stream.now) =
    entries_made c.options.inside.marks c.args.options.now c.args.layers c.args.stream.now c.args.written.now own c.requires.written c.in_default.ensures.few in
    IfErr-weaker c.check_profile.result _ _
    (unmet_late c.options.inside.marks c.args.options.now c.args.layers c.args.stream.now c.args.written.now own c.requires.written c.requires.fits c.requires.few c.requires.placed c.in-Ok.ensures.few entries)
    c.check_profile.ensures.cause
