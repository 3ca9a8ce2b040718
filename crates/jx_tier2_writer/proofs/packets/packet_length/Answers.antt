use Rattle.std.proofs.Common.{◌≡◌, ◌<◌, ◌+◌, ◌∙◌, ℕ, List, map, length, ap, sym, subst}
use Rattle.jx_codestream.specs.Shapes.{layers_of}
use Rattle.jx_tier2_writer.specs.Own.{own_header}
use Rattle.jx_tier2_writer.specs.Packed.{marks_length, own_body, own_packet}
use Rattle.jx_tier2_writer.specs.BlockParts.{AreBlockParts, row_at, row_bytes}
use Rattle.jx_tier2_writer.specs.declared.block_parts.BlockPart.{BlockPart}
use Rattle.jx_tier2_writer.proofs.PacketLemmas.{packet_long, row_of, rows_count}
use Rattle.jx_tier2_writer.proofs.packets.packet_length.Goals as goal

pub header-requires : goal.header-requires
header-requires g c =
    let s = c.args.stream.now in
    let geom = c.args.geom.now in
    let own = map g.B.Coded.block c.args.values.now in
    let long : length c.sending_at-sending.result.now.headers ≡ layers_of s geom.tile =
    rows_count (own_header s geom own c.args.name.comp c.args.name.res c.args.name.precinct) (layers_of s geom.tile) c.sending_at-sending.result.now.headers c.sending_at-sending.ensures.headers in
    let P : ℕ → Type 0 = λ n. c.from-layer.result < n in
    let Q : ℕ → Type 0 = λ n. n < layers_of s geom.tile in
    subst P (sym long) (subst Q (sym c.from-layer.ensures) c.requires.there.layer)

pub returns-clause-value : goal.returns-clause-value
returns-clause-value g c =
    let s = c.args.stream.now in
    let geom = c.args.geom.now in
    let own = map g.B.Coded.block c.args.values.now in
    let datas = map g.B.Coded.bytes c.args.values.now in
    let p = c.args.name in
    let l : ℕ = c.args.name.layer in
    let header : c.header.result.now ≡ own_header s geom own p.comp p.res p.precinct l =
    c.header.ensures ∙ ap (λ (n : ℕ). row_at c.sending_at-sending.result.now.headers n) c.from-layer.ensures
    ∙ row_of (own_header s geom own p.comp p.res p.precinct) (layers_of s geom.tile) l c.sending_at-sending.result.now.headers c.sending_at-sending.ensures.headers c.requires.there.layer in
    let sent : c.parts.result.now ≡ row_at c.sending_at-sending.result.now.sent l =
    c.parts.ensures ∙ ap (λ (n : ℕ). row_at c.sending_at-sending.result.now.sent n) c.from-layer.ensures in
    let body : row_bytes datas c.parts.result.now ≡ own_body geom own p =
    ap (λ (xs : List BlockPart). row_bytes datas xs) sent ∙ c.sending_at-sending.ensures.bytes l c.requires.there.layer in
    let inside : AreBlockParts datas c.parts.result.now = subst (AreBlockParts datas) (sym sent) (c.sending_at-sending.ensures.sent l) in
    let long : c.body_length-body.result ≡ length (own_body geom own p) = c.body_length-body.ensures.value datas inside ∙ ap (λ (xs : List ℕ). length xs) body in
    let front : length c.header.result.now ≡ length (own_header s geom own p.comp p.res p.precinct l) = ap (λ (xs : List ℕ). length xs) header in
    ap (λ (n : ℕ). n + length c.header.result.now + c.body_length-body.result) c.marks_length.ensures.value
    ∙ ap (λ (n : ℕ). marks_length c.args.marks + n + c.body_length-body.result) front
    ∙ ap (λ (n : ℕ). marks_length c.args.marks + length (own_header s geom own p.comp p.res p.precinct l) + n) long
    ∙ sym (packet_long (own_packet c.args.marks s geom own p) 0)
