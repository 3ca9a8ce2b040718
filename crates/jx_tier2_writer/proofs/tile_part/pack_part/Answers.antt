use Rattle.std.proofs.Common.{◌≡◌, ◌+◌, ◌++◌, ◌∙◌, ℕ, List, map, length, ap, lt_of_lt_of_le}
use Rattle.jx_base.specs.declared.pieces.Block.{Block}
use Rattle.jx_marker.specs.declared.Segment.TheVariants as segment
use Rattle.jx_marker.specs.Segments.{spelling}
use Rattle.jx_codestream.specs.Spells.{TilePart, all_bytes}
use Rattle.jx_tier2_writer.specs.Packed.{own_part, total}
use Rattle.jx_tier2_writer.proofs.CutLemmas.{same_fault}
use Rattle.jx_tier2_writer.specs.declared.tile.AssembleFault.TheVariants.{TooLong}
use Rattle.jx_tier2_writer.proofs.PartLemmas.{at_most_same, below_same, front_put, part_header_is, part_least, part_size}
use Rattle.jx_tier2_writer.proofs.tile_part.pack_part.Goals as goal

pub returns-in-Err-clause-long : goal.returns-in-Err-clause-long
returns-in-Err-clause-long g c e =
    let s = c.args.stream.now in
    let geom = c.args.geom.now in
    let own : List Block = map g.B.Coded.block c.args.values.now in
    lt_of_lt_of_le (c.lengths_of.ensures.long (same_fault c.lengths_of.result c.in-Err.fault TooLong c.in-Err.is e)) (part_least c.args.marks s geom own c.args.place.part c.args.place.parts c.args.place.packet c.args.names.now)

pub returns-then-size-from-clause-long : goal.returns-then-size-from-clause-long
returns-then-size-from-clause-long g c e =
    let s = c.args.stream.now in
    let geom = c.args.geom.now in
    let own : List Block = map g.B.Coded.block c.args.values.now in
    let part : TilePart = own_part c.args.marks s geom own c.args.place.part c.args.place.parts c.args.place.packet c.args.names.now in
    let header : c.in_ok-header.header.items ≡ all_bytes (length s.siz.comps) part.header =
    part_header_is c.args.marks s geom own c.args.place.part c.args.place.parts c.args.place.packet c.args.names.now c.number.result c.deref.result.now c.in_ok-header.header.items
    c.number.ensures (c.deref.ensures.value ∙ c.in-Ok.ensures.value) c.in_ok-header.ensures in
    let size : c.size_of-size.result ≡ part.sot.psot =
    c.size_of-size.ensures ∙ ap (λ (xs : List ℕ). 14 + length xs + total c.deref-3.result.now) c.deref-2.ensures.value
    ∙ ap (λ (xs : List ℕ). 14 + length c.in_ok-header.header.items + total xs) (c.deref-3.ensures.value ∙ c.in-Ok.ensures.value)
    ∙ part_size c.args.marks s geom own c.args.place.part c.args.place.parts c.args.place.packet c.args.names.now c.in_ok-header.header.items header in
    below_same c.args.most c.size_of-size.result c.from.result part.sot.psot c.if-size-from.true c.from.ensures size

pub returns-clause-bytes : goal.returns-clause-bytes
returns-clause-bytes g c =
    let s = c.args.stream.now in
    let geom = c.args.geom.now in
    let own : List Block = map g.B.Coded.block c.args.values.now in
    let part : TilePart = own_part c.args.marks s geom own c.args.place.part c.args.place.parts c.args.place.packet c.args.names.now in
    let header : c.in_ok-header.header.items ≡ all_bytes (length s.siz.comps) part.header =
    part_header_is c.args.marks s geom own c.args.place.part c.args.place.parts c.args.place.packet c.args.names.now c.number.result c.deref.result.now c.in_ok-header.header.items
    c.number.ensures (c.deref.ensures.value ∙ c.in-Ok.ensures.value) c.in_ok-header.ensures in
    let size : c.size_of-size.result ≡ part.sot.psot =
    c.size_of-size.ensures ∙ ap (λ (xs : List ℕ). 14 + length xs + total c.deref-3.result.now) c.deref-2.ensures.value
    ∙ ap (λ (xs : List ℕ). 14 + length c.in_ok-header.header.items + total xs) (c.deref-3.ensures.value ∙ c.in-Ok.ensures.value)
    ∙ part_size c.args.marks s geom own c.args.place.part c.args.place.parts c.args.place.packet c.args.names.now c.in_ok-header.header.items header in
    front_put c.args.marks s geom own c.args.place.part c.args.place.parts c.args.place.packet c.args.names.now c.number-2.result c.size_of-size.result c.in_ok-header.header.items c.in_ok-front.front.items
    c.number-2.ensures header size
    (c.in_ok-front.ensures
    ∙ ap (λ (xs : List ℕ). spelling (length s.siz.comps) (segment.Sot (record { tile = c.number-2.result; psot = c.size_of-size.result; part = c.args.place.part; parts = c.args.place.parts }))
    ++ (xs ++ spelling (length s.siz.comps) segment.Sod)) c.deref-4.ensures.value)

pub returns-clause-size : goal.returns-clause-size
returns-clause-size g c =
    let s = c.args.stream.now in
    let geom = c.args.geom.now in
    let own : List Block = map g.B.Coded.block c.args.values.now in
    let part : TilePart = own_part c.args.marks s geom own c.args.place.part c.args.place.parts c.args.place.packet c.args.names.now in
    let header : c.in_ok-header.header.items ≡ all_bytes (length s.siz.comps) part.header =
    part_header_is c.args.marks s geom own c.args.place.part c.args.place.parts c.args.place.packet c.args.names.now c.number.result c.deref.result.now c.in_ok-header.header.items
    c.number.ensures (c.deref.ensures.value ∙ c.in-Ok.ensures.value) c.in_ok-header.ensures in
    let size : c.size_of-size.result ≡ part.sot.psot =
    c.size_of-size.ensures ∙ ap (λ (xs : List ℕ). 14 + length xs + total c.deref-3.result.now) c.deref-2.ensures.value
    ∙ ap (λ (xs : List ℕ). 14 + length c.in_ok-header.header.items + total xs) (c.deref-3.ensures.value ∙ c.in-Ok.ensures.value)
    ∙ part_size c.args.marks s geom own c.args.place.part c.args.place.parts c.args.place.packet c.args.names.now c.in_ok-header.header.items header in
    size

pub returns-clause-short : goal.returns-clause-short
returns-clause-short g c =
    let s = c.args.stream.now in
    let geom = c.args.geom.now in
    let own : List Block = map g.B.Coded.block c.args.values.now in
    let part : TilePart = own_part c.args.marks s geom own c.args.place.part c.args.place.parts c.args.place.packet c.args.names.now in
    let header : c.in_ok-header.header.items ≡ all_bytes (length s.siz.comps) part.header =
    part_header_is c.args.marks s geom own c.args.place.part c.args.place.parts c.args.place.packet c.args.names.now c.number.result c.deref.result.now c.in_ok-header.header.items
    c.number.ensures (c.deref.ensures.value ∙ c.in-Ok.ensures.value) c.in_ok-header.ensures in
    let size : c.size_of-size.result ≡ part.sot.psot =
    c.size_of-size.ensures ∙ ap (λ (xs : List ℕ). 14 + length xs + total c.deref-3.result.now) c.deref-2.ensures.value
    ∙ ap (λ (xs : List ℕ). 14 + length c.in_ok-header.header.items + total xs) (c.deref-3.ensures.value ∙ c.in-Ok.ensures.value)
    ∙ part_size c.args.marks s geom own c.args.place.part c.args.place.parts c.args.place.packet c.args.names.now c.in_ok-header.header.items header in
    at_most_same c.args.most c.size_of-size.result c.from.result part.sot.psot c.if-size-from.false c.from.ensures size
