use Rattle.std.proofs.Common.{◌≡◌, ◌<◌, ◌≤◌, ◌∙◌, min, ℕ, sym, ap, subst}
use Rattle.jx_tagtree.specs.Header.{to_come}
use Rattle.jx_packet_header.specs.Packet.{Cells}
use Rattle.jx_packet_header.specs.Scan.{scan_band}
use Rattle.jx_packet_header.proofs.RowLemmas.{IsRows, rows_step, rows_refuse, rows_said}
use Rattle.jx_packet_header.proofs.band.read_band.Goals as goal

pub read_row-requires-clause-row : goal.read_row-requires-clause-row
read_row-requires-clause-row c =
    let high : c.high-high.result ≡ c.args.band.now.first.high = c.high-high.ensures ∙ ap (λ (x : Cells). x.first.high) c.band.view_is in
    subst (λ (n : ℕ). c.loop-down.down < n) (high ∙ sym c.loop-down.invariant.0.size.high) c.loop-down-test.true

pub returns-in-Err-clause-err : goal.returns-in-Err-clause-err
unfolding scan_band
returns-in-Err-clause-err c =
    let high : c.high-high.result ≡ c.args.band.now.first.high = c.high-high.ensures ∙ ap (λ (x : Cells). x.first.high) c.band.view_is in
    rows_refuse c.args.style.bits c.args.layer c.args.base c.args.parts.now.items c.args.band.now (to_come c.args.bits.now) c.loop-down.down c.loop-down.band c.loop-down.parts.items (to_come c.loop-down.bits)
    c.loop-down.invariant.0 (subst (λ (n : ℕ). c.loop-down.down < n) high c.loop-down-test.true) c.in-Err.fault c.in-Err.ensures.err

pub loop-down-preserved : goal.loop-down-preserved
loop-down-preserved c =
    let high : c.high-high.result ≡ c.args.band.now.first.high = c.high-high.ensures ∙ ap (λ (x : Cells). x.first.high) c.band.view_is in
    let down_is : c.min-down.result ≡ min c.in-Ok.next c.args.band.now.first.high = c.min-down.ensures ∙ ap (λ (n : ℕ). min c.in-Ok.next n) high in (
      subst (λ (n : ℕ). IsRows c.args.style.bits c.args.layer c.args.base c.args.parts.now.items c.args.band.now (to_come c.args.bits.now) n c.read_row.new.band c.read_row.new.parts.items (to_come c.read_row.new.bits))
          (sym down_is)
          (rows_step c.args.style.bits c.args.layer c.args.base c.args.parts.now.items c.args.band.now (to_come c.args.bits.now) c.loop-down.down c.loop-down.band c.loop-down.parts.items (to_come c.loop-down.bits)
          c.loop-down.invariant.0 (subst (λ (n : ℕ). c.loop-down.down < n) high c.loop-down-test.true) c.in-Ok.next c.read_row.new.band c.read_row.new.parts.items (to_come c.read_row.new.bits)
          c.in-Ok.ensures.ok c.in-Ok.ensures.kept c.in-Ok.ensures.size c.in-Ok.ensures.next c.in-Ok.ensures.silent),
      c.in-Ok.ensures.frame ∙ c.loop-down.invariant.1,
    )

pub returns-clause-ok : goal.returns-clause-ok
unfolding scan_band
returns-clause-ok c =
    let high : c.high-high.result ≡ c.args.band.now.first.high = c.high-high.ensures ∙ ap (λ (x : Cells). x.first.high) c.band.view_is in
    rows_said c.args.style.bits c.args.layer c.args.base c.args.parts.now.items c.args.band.now (to_come c.args.bits.now) c.loop-down.down c.loop-down.band c.loop-down.parts.items (to_come c.loop-down.bits)
    c.loop-down.invariant.0 (subst (λ (n : ℕ). n ≤ c.loop-down.down) high c.loop-down-test.false)
