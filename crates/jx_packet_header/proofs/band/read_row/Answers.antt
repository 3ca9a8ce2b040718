use Rattle.std.proofs.Common.{◌≡◌, ◌+◌, ◌*◌, ◌<◌, ◌≤◌, ◌^◌, ◌∙◌, min, ℕ, sym, ap, subst, length, arith}
use Rattle.jx_tagtree.specs.Header.{to_come}
use Rattle.jx_packet_header.specs.Frame.{Frame, frame}
use Rattle.jx_packet_header.proofs.AskLemmas.{few_left}
use Rattle.jx_packet_header.proofs.BlockLemmas.{told_is}
use Rattle.jx_packet_header.proofs.BandLemmas.{block_band}
use Rattle.jx_packet_header.proofs.RowLemmas.{IsRow, end, row_inside, row_step, row_refuse}
use Rattle.jx_packet_header.proofs.band.read_row.Goals as goal

pub returns-in-Err-clause-err : goal.returns-in-Err-clause-err
returns-in-Err-clause-err c =
    row_refuse c.args.style.bits c.args.layer c.args.base c.args.down c.wide-wide.result c.args.parts.now.items c.args.band.now (to_come c.args.bits.now) c.loop-across.across c.loop-across.next
    c.loop-across.band c.loop-across.parts.items (to_come c.loop-across.bits) c.in-Err.fault c.loop-across.invariant.0 c.loop-across-test.true c.in-Err.ensures.err

pub silent_place-place-requires-clause-band : goal.silent_place-place-requires-clause-band
silent_place-place-requires-clause-band c =
    let leaf : ℕ = c.args.down * c.wide-wide.result + c.loop-across.across in
    let inside : leaf < length c.loop-across.band.blocks =
    row_inside c.args.band.now c.loop-across.band c.args.down c.loop-across.across c.wide-wide.result c.loop-across.invariant.0.wide_is c.loop-across.invariant.0.band c.loop-across.invariant.0.size c.requires.row c.loop-across-test.true in
    let left : length (to_come c.loop-across.bits) ≤ (frame c.loop-across.bits).total = few_left c.loop-across.bits in
    let total : (frame c.loop-across.bits).total ≡ (frame c.args.bits.now).total = ap (λ (f : Frame). f.total) c.loop-across.invariant.1 in
    let few : (frame c.args.bits.now).total < 2 ^ 67 = c.requires.few in
    (block_band c.args.style.bits c.args.layer (c.args.base + leaf) leaf c.loop-across.band (to_come c.loop-across.bits) (told_is c.in-Ok.ensures.ok.entry c.read_block.new.band (to_come c.read_block.new.bits))
    c.loop-across.invariant.0.band inside (omega arith) c.in-Ok.ensures.ok.is).0

pub silent_place-place-requires-clause-leaf : goal.silent_place-place-requires-clause-leaf
silent_place-place-requires-clause-leaf c =
    let leaf : ℕ = c.args.down * c.wide-wide.result + c.loop-across.across in
    let inside : leaf < length c.loop-across.band.blocks =
    row_inside c.args.band.now c.loop-across.band c.args.down c.loop-across.across c.wide-wide.result c.loop-across.invariant.0.wide_is c.loop-across.invariant.0.band c.loop-across.invariant.0.size c.requires.row c.loop-across-test.true in
    let left : length (to_come c.loop-across.bits) ≤ (frame c.loop-across.bits).total = few_left c.loop-across.bits in
    let total : (frame c.loop-across.bits).total ≡ (frame c.args.bits.now).total = ap (λ (f : Frame). f.total) c.loop-across.invariant.1 in
    let few : (frame c.args.bits.now).total < 2 ^ 67 = c.requires.few in
    let long : length c.read_block.new.band.blocks ≡ length c.loop-across.band.blocks =
    (block_band c.args.style.bits c.args.layer (c.args.base + leaf) leaf c.loop-across.band (to_come c.loop-across.bits) (told_is c.in-Ok.ensures.ok.entry c.read_block.new.band (to_come c.read_block.new.bits))
    c.loop-across.invariant.0.band inside (omega arith) c.in-Ok.ensures.ok.is).1 in
    subst (λ (n : ℕ). leaf < n) (sym long) inside

pub loop-across-preserved : goal.loop-across-preserved
loop-across-preserved c =
    let left : length (to_come c.loop-across.bits) ≤ (frame c.loop-across.bits).total = few_left c.loop-across.bits in
    let total : (frame c.loop-across.bits).total ≡ (frame c.args.bits.now).total = ap (λ (f : Frame). f.total) c.loop-across.invariant.1 in
    let few : (frame c.args.bits.now).total < 2 ^ 67 = c.requires.few in
    let to_is : c.min-across.result ≡ min (end c.loop-across.across c.silent_place-place.result) c.wide-wide.result =
    c.min-across.ensures ∙ ap (λ (n : ℕ). min n c.wide-wide.result) c.end_under-in-loop-across.ensures in
    let next_is : c.min-next.result ≡ min c.loop-across.next (end c.args.down c.silent_place-place.result) = c.min-next.ensures ∙ ap (λ (n : ℕ). min c.loop-across.next n) c.end_under.ensures in
    let step = row_step c.args.style.bits c.args.layer c.args.base c.args.down c.wide-wide.result c.args.parts.now.items c.args.band.now (to_come c.args.bits.now) c.loop-across.across c.loop-across.next
    c.loop-across.band c.loop-across.parts.items (to_come c.loop-across.bits) c.loop-across.invariant.0 c.requires.row c.loop-across-test.true
    (told_is c.in-Ok.ensures.ok.entry c.read_block.new.band (to_come c.read_block.new.bits)) c.in-Ok.ensures.ok.is (omega arith) c.silent_place-place.result c.silent_place-place.ensures.silent
    c.read_block.new.parts.items c.in-Ok.ensures.ok.new_is in (
      subst (λ (a : ℕ). IsRow c.args.style.bits c.args.layer c.args.base c.args.down c.wide-wide.result c.args.parts.now.items c.args.band.now (to_come c.args.bits.now) a c.min-next.result
          c.read_block.new.band c.read_block.new.parts.items (to_come c.read_block.new.bits)) (sym to_is)
          (subst (λ (n : ℕ). IsRow c.args.style.bits c.args.layer c.args.base c.args.down c.wide-wide.result c.args.parts.now.items c.args.band.now (to_come c.args.bits.now)
          (min (end c.loop-across.across c.silent_place-place.result) c.wide-wide.result) n
          c.read_block.new.band c.read_block.new.parts.items (to_come c.read_block.new.bits)) (sym next_is) step),
      c.in-Ok.ensures.frame ∙ c.loop-across.invariant.1,
    )
