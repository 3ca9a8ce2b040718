use Rattle.std.proofs.Common.{◌≡◌, ◌<◌, ◌+◌, ◌-◌, ◌++◌, ◌∙◌, List, map, drop, length, refl, sym, ap, subst, arith}
use Rattle.jx_packet_header.specs.Packet.{blocks_bits, blocks_after}
use Rattle.jx_packet_header.specs.Written.{Leafed, Writes, cells_of, values_of, entries_written}
use Rattle.jx_packet_header.specs.Leafs.{leaf_of}
use Rattle.jx_packet_header.specs.Writable.{IsWrites, AreRising}
use Rattle.jx_packet_header.proofs.CursorLemmas.{rising_take, rising_drop}
use Rattle.jx_packet_header.proofs.PlanLemmas.{bands_start, bands_due, bands_next, part_leaves}
use Rattle.jx_packet_header.proofs.precinct_out.write_bands.Goals as goal

pub loop-at-init : goal.loop-at-init
loop-at-init c = bands_start c.args.layer (map leaf_of c.args.leaves.now) c.args.bands.now.items c.args.bits.now c.requires.due

pub write_band-requires-clause-writes : goal.write_band-requires-clause-writes
write_band-requires-clause-writes c =
    let x = c.index_mut-band.result.now in
    let leaves = map leaf_of c.args.leaves.now in
    let inside : c.loop-at.at < length c.loop-at.bands.items = omega (arith, c.loop-at.bands.ok.0) in
    let view : length c.band.inside.blocks.items ≡ length x.blocks = ap (λ (z : Writes). length z.blocks) c.band.view_is in
    let count : c.loop-at.base + c.len-count.result - c.loop-at.base ≡ length x.blocks = omega (arith, c.len-count.ensures, c.band.inside.blocks.ok.0) in
    let d = bands_due c.args.layer c.loop-at.at c.loop-at.base leaves c.args.bands.now.items c.loop-at.bands.items c.args.bits.now c.loop-at.bits x c.loop-at.invariant inside c.index_mut-band.ensures.value in
    subst (λ (l : List Leafed). IsWrites c.args.layer l x) (sym (part_leaves c.args.leaves.now c.loop-at.base (length x.blocks) (c.loop-at.base + c.len-count.result - c.loop-at.base) count)) d

pub write_band-requires-clause-rising : goal.write_band-requires-clause-rising
write_band-requires-clause-rising c = λ r.
    (let n = c.loop-at.base + c.len-count.result - c.loop-at.base in
    subst AreRising (sym (part_leaves c.args.leaves.now c.loop-at.base n n refl)) (rising_take n (drop c.loop-at.base (map leaf_of c.args.leaves.now)) (rising_drop c.loop-at.base (map leaf_of c.args.leaves.now) (c.requires.rising r))))

pub loop-at-preserved : goal.loop-at-preserved
loop-at-preserved c =
    let x = c.index_mut-band.result.now in
    let y = c.write_band.new.band in
    let leaves = map leaf_of c.args.leaves.now in
    let inside : c.loop-at.at < length c.loop-at.bands.items = omega (arith, c.loop-at.bands.ok.0) in
    let view : length c.band.inside.blocks.items ≡ length x.blocks = ap (λ (z : Writes). length z.blocks) c.band.view_is in
    let count : c.loop-at.base + c.len-count.result - c.loop-at.base ≡ length x.blocks = omega (arith, c.len-count.ensures, c.band.inside.blocks.ok.0) in
    let base' : c.loop-at.base + c.len-count.result ≡ c.loop-at.base + length x.blocks = omega (arith, c.len-count.ensures, c.band.inside.blocks.ok.0) in
    let part = part_leaves c.args.leaves.now c.loop-at.base (length x.blocks) (c.loop-at.base + c.len-count.result - c.loop-at.base) count in
    bands_next c.args.layer c.loop-at.at c.loop-at.base (c.loop-at.base + c.len-count.result) leaves c.args.bands.now.items c.loop-at.bands.items c.args.bits.now c.loop-at.bits c.write_band.new.bits x y
    c.loop-at.invariant inside c.index_mut-band.ensures.value
    (c.in_ok-write_band.ensures.bits ∙ ap (λ (l : List Leafed). c.loop-at.bits ++ blocks_bits (values_of x) c.args.layer 0 (cells_of x) (entries_written c.args.layer x.blocks l)) part)
    (c.in_ok-write_band.ensures.after ∙ ap (λ (l : List Leafed). blocks_after (values_of x) c.args.layer 0 (cells_of x) (entries_written c.args.layer x.blocks l)) part)
    (subst (λ (l : List Leafed). IsWrites (c.args.layer + 1) l y) part c.in_ok-write_band.ensures.due)
    c.in_ok-write_band.ensures.first c.in_ok-write_band.ensures.size.long base'
