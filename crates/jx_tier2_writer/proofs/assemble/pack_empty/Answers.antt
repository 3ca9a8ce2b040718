use Rattle.std.proofs.Common.{◌∙◌, ◌++◌, ◌∷◌, [], All, List, map, ap, subst, sym, arith}
use Rattle.std.proofs.lemmas.List.Elements.{All-push}
use Rattle.jx_base.specs.declared.pieces.Block.{Block}
use Rattle.jx_tier2_writer.specs.Packed.{own_packets}
use Rattle.jx_tier2_writer.specs.Pieces.{IsPartOut}
use Rattle.jx_tier2_writer.specs.declared.tile_part.PartOut.{PartOut}
use Rattle.jx_tier2_writer.proofs.CutLemmas.{empty_long, same_fault}
use Rattle.jx_tier2_writer.proofs.PieceLemmas.{empty_out, empty_pieces}
use Rattle.jx_tier2_writer.specs.declared.tile.AssembleFault.TheVariants.{TooLong}
use Rattle.jx_tier2_writer.proofs.assemble.pack_empty.Goals as goal

pub returns-in-Err-clause-long : goal.returns-in-Err-clause-long
returns-in-Err-clause-long g c e =
    let own : List Block = map g.B.Coded.block c.args.values.now in
    empty_long c.args.marks c.args.stream.now c.args.geom.now own c.args.names.now c.requires.none c.args.most (c.pack_part.ensures.long (same_fault c.pack_part.result c.in-Err.fault TooLong c.in-Err.is e))

pub returns-clause-value : goal.returns-clause-value
returns-clause-value g c =
    let own : List Block = map g.B.Coded.block c.args.values.now in
    empty_pieces c.args.marks c.args.stream.now c.args.geom.now own c.args.names.now c.requires.none c.in-Ok.part c.in-Ok.ensures.first c.in-Ok.ensures.last c.in-Ok.ensures.bytes
    c.push_part.new.parts.items (c.in_ok-push_part.ensures.items ∙ ap (λ (xs : List PartOut). xs ++ c.in-Ok.part ∷ []) c.new-parts.ensures.items)

pub returns-clause-parts : goal.returns-clause-parts
returns-clause-parts g c =
    let own : List Block = map g.B.Coded.block c.args.values.now in
    let ps = own_packets c.args.marks c.args.stream.now c.args.geom.now own in
    let P : List PartOut → Type 0 = λ xs. All (IsPartOut ps c.args.names.now) xs in
    subst P (sym (c.in_ok-push_part.ensures.items ∙ ap (λ (xs : List PartOut). xs ++ c.in-Ok.part ∷ []) c.new-parts.ensures.items))
    (All-push (IsPartOut ps c.args.names.now) [] c.in-Ok.part (λ k d lt. absurd (omega arith))
    (empty_out c.args.marks c.args.stream.now c.args.geom.now own c.args.names.now c.requires.none c.in-Ok.part c.in-Ok.ensures.first c.in-Ok.ensures.last c.in-Ok.ensures.bytes c.in-Ok.ensures.size))
