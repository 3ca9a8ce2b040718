use Rattle.std.proofs.Common.{◌≡◌, ◌<◌, ◌≤◌, arith, ap, not, ℕ, true, sym, ◌∙◌}
use Rattle.byteorder.specs.Endian.{big_from}
use Rattle.std.specs.List.{list_all}
use Rattle.jx_marker.specs.Values.{values_from, comp_size_at}
use Rattle.jx_marker.specs.Rules.{axis_fits, comp_size_fits}
use Rattle.jx_marker.proofs.RuleLemmas.{canvas_broken}
use Rattle.jx_marker.proofs.siz_rules.breaks_canvas.Goals as goal

pub returns : goal.returns
returns c =
    let body = c.args.body.now in
    let some : 0 < big_from 34 2 body = omega arith in
    let most : big_from 34 2 body ≤ 16384 = omega arith in
    let across : axis_fits (big_from 2 4 body) (big_from 10 4 body) (big_from 18 4 body) (big_from 26 4 body) ≡ true = sym c.axis_fits_at.ensures ∙ c.if-not-axis_fits_at.false in
    let down : axis_fits (big_from 6 4 body) (big_from 14 4 body) (big_from 22 4 body) (big_from 30 4 body) ≡ true = sym c.axis_fits_at-2.ensures ∙ c.if-not-axis_fits_at-2.false in
    rw (canvas_broken body some most across down) (ap not (c.comp_sizes_fit.ensures
    ∙ ap (λ (count : ℕ). list_all comp_size_fits (values_from comp_size_at 3 count 36 body)) c.u16_at-count.ensures))
