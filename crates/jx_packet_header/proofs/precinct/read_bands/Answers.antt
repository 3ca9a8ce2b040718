use Rattle.std.proofs.Common.{◌≡◌, ◌<◌, ◌≤◌, ◌+◌, ◌∙◌, sym, ap, subst, length, drop, get_or, ℕ, refl, set, arith}
use Rattle.std.proofs.Common.{length-set}
use Rattle.jx_tagtree.specs.Header.{to_come}
use Rattle.jx_packet_header.specs.Packet.{Cells}
use Rattle.jx_packet_header.specs.Precinct.{all_blocks}
use Rattle.jx_packet_header.specs.Kept.{IsBand}
use Rattle.jx_packet_header.specs.Scan.{scan_bands, scan_band}
use Rattle.jx_packet_header.specs.Said.{BandSaid, Refuses}
use Rattle.jx_packet_header.proofs.BandLoopLemmas.{band_at, bands_set, blocks_set, bands_step, next_left, bands_said, bands_refuse}
use Rattle.jx_packet_header.proofs.precinct.read_bands.Goals as goal
use Rattle.jx_base.specs.Limits.{most_blocks}

pub read_band-requires-clause-band : goal.read_band-requires-clause-band
read_band-requires-clause-band c =
    let inside : c.loop-at.at < length c.loop-at.bands.items = omega (arith, c.loop-at.bands.ok.0) in
    subst (λ (x : Cells). IsBand x) (sym c.index_mut-band.ensures.value) (band_at c.loop-at.bands.items c.loop-at.at c.index_mut-band.result.now c.loop-at.invariant.are inside)

pub loop-at-preserved : goal.loop-at-preserved
loop-at-preserved c =
    let items = c.loop-at.bands.items in
    let at = c.loop-at.at in
    let x = c.index_mut-band.result.now in
    let y = c.read_band.new.band in
    let here : x ≡ get_or items at x = c.index_mut-band.ensures.value in
    let inside : at < length items = omega (arith, c.loop-at.bands.ok.0) in
    let said : BandSaid (scan_band c.args.style.bits c.args.layer c.loop-at.base x (to_come c.loop-at.bits)) c.loop-at.parts.items c.read_band.new.parts.items y (to_come c.read_band.new.bits) = c.in-Ok.ensures.ok in
    let same : length y.blocks ≡ length x.blocks = c.in-Ok.ensures.long in
    let view : length c.band.inside.blocks.items ≡ length x.blocks = ap (λ (z : Cells). length z.blocks) c.band.view_is in
    let count : c.len-count.result ≡ length x.blocks = omega (arith, c.len-count.ensures, c.band.inside.blocks.ok.0) in
    let count' : c.loop-at.base + length (get_or items at x).blocks ≡ c.loop-at.base + c.len-count.result = ap (λ (z : Cells). c.loop-at.base + length z.blocks) (sym here) ∙ ap (λ (n : ℕ). c.loop-at.base + n) (sym count) in
    let scan' : scan_band c.args.style.bits c.args.layer c.loop-at.base (get_or items at x) (to_come c.loop-at.bits) ≡ scan_band c.args.style.bits c.args.layer c.loop-at.base x (to_come c.loop-at.bits) =
    ap (λ (z : Cells). scan_band c.args.style.bits c.args.layer c.loop-at.base z (to_come c.loop-at.bits)) (sym here) in
    let step = bands_step (scan_bands c.args.style.bits c.args.layer 0 c.args.bands.now.items (to_come c.args.bits.now)) c.args.parts.now.items c.loop-at.parts.items c.read_band.new.parts.items said.parts
    c.args.style.bits c.args.layer c.loop-at.base at items y x (to_come c.loop-at.bits) (to_come c.read_band.new.bits) inside c.loop-at.invariant.scanned (scan' ∙ said.is) said.new_is in
    let same' : length y.blocks ≡ length (get_or items at x).blocks = same ∙ ap (λ (z : Cells). length z.blocks) here in
    let left' : c.loop-at.base + length (get_or items at x).blocks + length (all_blocks (drop (at + 1) (set items at y))) ≤ most_blocks = next_left items at c.loop-at.base (most_blocks) y x inside c.loop-at.invariant.left in
    record {
      scanned = rw count' at step;
      same = c.in-Ok.ensures.frame ∙ c.loop-at.invariant.same;
      are = bands_set items at y c.loop-at.invariant.are c.in-Ok.ensures.kept;
      long = length-set items at y ∙ c.loop-at.invariant.long;
      blocks = blocks_set items at y x inside same' ∙ c.loop-at.invariant.blocks;
      left = rw count' at left';
    }

pub returns-clause-ok : goal.returns-clause-ok
returns-clause-ok c =
    bands_said (scan_bands c.args.style.bits c.args.layer 0 c.args.bands.now.items (to_come c.args.bits.now)) c.args.parts.now.items c.loop-at.parts.items c.args.style.bits c.args.layer c.loop-at.base
    c.loop-at.at c.loop-at.bands.items (to_come c.loop-at.bits) (omega (arith, c.loop-at.bands.ok.0, c.loop-at.invariant.long)) c.loop-at.invariant.scanned

pub returns-in-Err-clause-err : goal.returns-in-Err-clause-err
returns-in-Err-clause-err c =
    let items = c.loop-at.bands.items in
    let x = c.index_mut-band.result.now in
    let here : x ≡ get_or items c.loop-at.at x = c.index_mut-band.ensures.value in
    bands_refuse (scan_bands c.args.style.bits c.args.layer 0 c.args.bands.now.items (to_come c.args.bits.now)) c.args.parts.now.items c.loop-at.parts.items c.args.style.bits c.args.layer c.loop-at.base
    c.loop-at.at items x (to_come c.loop-at.bits) c.in-Err.fault (omega (arith, c.loop-at.bands.ok.0)) c.loop-at.invariant.scanned
    (subst (λ (z : Cells). Refuses c.in-Err.fault (scan_band c.args.style.bits c.args.layer c.loop-at.base z (to_come c.loop-at.bits))) here c.in-Err.ensures.err)

pub loop-at-init : goal.loop-at-init
loop-at-init c = record {
  scanned = refl;
  same = refl;
  are = c.requires.bands;
  long = refl;
  blocks = refl;
  left = omega (arith, c.requires.blocks);
}

pub read_band-requires-clause-few : goal.read_band-requires-clause-few
read_band-requires-clause-few c = rw c.loop-at.invariant.same c.requires.few

pub read_band-requires-clause-room : goal.read_band-requires-clause-room
read_band-requires-clause-room c =
    let items = c.loop-at.bands.items in
    let x = c.index_mut-band.result.now in
    let inside : c.loop-at.at < length items = omega (arith, c.loop-at.bands.ok.0) in
    let left = next_left items c.loop-at.at c.loop-at.base (most_blocks) x x inside c.loop-at.invariant.left in
    omega (arith, left, ap (λ (z : Cells). length z.blocks) c.index_mut-band.ensures.value)

pub returns-clause-kept : goal.returns-clause-kept
returns-clause-kept c = c.loop-at.invariant.are

pub returns-clause-blocks : goal.returns-clause-blocks
returns-clause-blocks c = c.loop-at.invariant.blocks

pub returns-clause-frame : goal.returns-clause-frame
returns-clause-frame c = c.loop-at.invariant.same
