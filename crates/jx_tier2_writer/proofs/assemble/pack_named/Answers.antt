use Rattle.std.proofs.Common.{◌≡◌, ◌<◌, ◌-◌, ◌∙◌, ◌≤◌, ◌++◌, ℕ, All, List, suc, drop, take, length, map, subst, sym, arith}
use Rattle.std.specs.List.{concat}
use Rattle.std.proofs.lemmas.List.Elements.{All-push}
use Rattle.jx_base.specs.declared.pieces.Block.{Block}
use Rattle.jx_progression.specs.declared.names.PacketName.{PacketName}
use Rattle.jx_codestream.specs.Spells.{part_bytes}
use Rattle.jx_tier2_reader.specs.Written.{bytes_from}
use Rattle.jx_tile_parts.specs.Groups.{more_groups}
use Rattle.jx_tile_parts.proofs.GroupLemmas.{count_next, part_length}
use Rattle.jx_tier2_writer.specs.Packed.{own_packets, own_part}
use Rattle.jx_tier2_writer.specs.Pieces.{IsPartOut, part_pieces, pieces_with}
use Rattle.jx_tier2_writer.specs.declared.tile_part.PartOut.{PartOut}
use Rattle.jx_tier2_writer.proofs.CutLemmas.{cut_long, cut_next, cut_short, cut_whole, same_fault}
use Rattle.jx_tier2_writer.proofs.PieceLemmas.{part_out, pieces_joined, pieces_push}
use Rattle.jx_tier2_writer.specs.declared.tile.AssembleFault.TheVariants.{TooLong}
use Rattle.jx_tier2_writer.proofs.assemble.pack_named.Goals as goal

pub returns-clause-value : goal.returns-clause-value
returns-clause-value g c =
    let own : List Block = map g.B.Coded.block c.args.values.now in
    let names : List PacketName = c.args.names.now in
    cut_whole c.args.marks c.args.stream.now c.args.geom.now own names c.args.most c.count_parts-count.result (length c.loop-from.parts.items) c.loop-from.from
    (map concat (pieces_with (own_packets c.args.marks c.args.stream.now c.args.geom.now own) names c.loop-from.parts.items)) c.loop-from-test.false c.loop-from.invariant.cut

pub returns-clause-short : goal.returns-clause-short
returns-clause-short g c =
    let own : List Block = map g.B.Coded.block c.args.values.now in
    let names : List PacketName = c.args.names.now in
    cut_short c.args.marks c.args.stream.now c.args.geom.now own names c.args.most c.count_parts-count.result (length c.loop-from.parts.items) c.loop-from.from
    (map concat (pieces_with (own_packets c.args.marks c.args.stream.now c.args.geom.now own) names c.loop-from.parts.items)) c.loop-from-test.false c.loop-from.invariant.cut

pub returns-in-Err-clause-long : goal.returns-in-Err-clause-long
returns-in-Err-clause-long g c e =
    let s = c.args.stream.now in
    let geom = c.args.geom.now in
    let own : List Block = map g.B.Coded.block c.args.values.now in
    let names : List PacketName = c.args.names.now in
    let from : ℕ = c.loop-from.from in
    let end : ℕ = c.part_end-end.result in
    cut_long c.args.marks s geom own names c.args.most c.count_parts-count.result (length c.loop-from.parts.items) from end
    (map concat (pieces_with (own_packets c.args.marks s geom own) names c.loop-from.parts.items))
    c.part_end-end.ensures.more c.part_end-end.ensures.within c.part_end-end.ensures.group c.loop-from.invariant.cut
    (let P : ℕ → Type 0 = λ n. c.args.most < (own_part c.args.marks s geom own n c.count_parts-count.result from (take (end - from) (drop from names))).sot.psot in
    subst P (c.len.ensures ∙ c.loop-from.parts.ok.0) (c.pack_part.ensures.long (same_fault c.pack_part.result c.in-Err.fault TooLong c.in-Err.is e)))

pub loop-from-preserved : goal.loop-from-preserved
loop-from-preserved g c =
    let s = c.args.stream.now in
    let geom = c.args.geom.now in
    let own : List Block = map g.B.Coded.block c.args.values.now in
    let names : List PacketName = c.args.names.now in
    let count : ℕ = c.count_parts-count.result in
    let from : ℕ = c.loop-from.from in
    let end : ℕ = c.part_end-end.result in
    let parts : List PartOut = c.loop-from.parts.items in
    let more : List PartOut = c.push_part.new.parts.items in
    let here : List PacketName = take (end - from) (drop from names) in
    let part : PartOut = c.in-Ok.part in
    let low : from ≤ end = omega (arith, c.part_end-end.ensures.more) in
    let next : length (more_groups c.args.marks.parts (drop from names)) ≡ suc (length (more_groups c.args.marks.parts (drop end names))) =
    count_next c.args.marks.parts names from end c.loop-from-test.true c.part_end-end.ensures.group in
    let P : ℕ → Type 0 = λ n. part.front.items ++ bytes_from (own_packets c.args.marks s geom own) from here ≡ part_bytes (length s.siz.comps) (own_part c.args.marks s geom own n count from here) in
    let Q : ℕ → Type 0 = λ n. (own_part c.args.marks s geom own n count from here).sot.psot ≤ c.args.most in
    let R : ℕ → Type 0 = λ n. part.size ≡ (own_part c.args.marks s geom own n count from here).sot.psot in
    let number = c.len.ensures ∙ c.loop-from.parts.ok.0 in
    let bytes : P (length parts) = subst P number c.in-Ok.ensures.bytes in
    let last : part.end ≡ end = c.in-Ok.ensures.last ∙ part_length names from end low c.part_end-end.ensures.within in
    let ps = own_packets c.args.marks s geom own in
    let AllOut : List PartOut → Type 0 = λ xs. All (IsPartOut ps names) xs in
    record {
      within = c.part_end-end.ensures.within;
      few = c.loop-from.invariant.few;
      left = omega (arith, next, c.in_ok-push_part.ensures.long, c.loop-from.invariant.left);
      cut = cut_next c.args.marks s geom own names c.args.most count (length parts) from end (length more)
          (map concat (pieces_with ps names parts)) (map concat (pieces_with ps names more)) (concat (part_pieces ps names part))
          c.part_end-end.ensures.more c.part_end-end.ensures.within c.part_end-end.ensures.group c.loop-from.invariant.cut
          (pieces_joined c.args.marks s geom own names (length parts) count from end part c.in-Ok.ensures.first last bytes)
          (subst Q number c.in-Ok.ensures.short)
          (pieces_push ps names parts more part c.in_ok-push_part.ensures.items) c.in_ok-push_part.ensures.long;
      parts = subst AllOut (sym c.in_ok-push_part.ensures.items)
          (All-push (IsPartOut ps names) parts part c.loop-from.invariant.parts
          (part_out c.args.marks s geom own names (length parts) count from end part low c.part_end-end.ensures.within c.in-Ok.ensures.first last bytes (subst R number c.in-Ok.ensures.size)));
    }
