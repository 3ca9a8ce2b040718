use Rattle.std.proofs.Common.{◌≡◌, ◌<◌, ℕ, List, ◌∙◌, ap, subst, sym, map, arith}
use Rattle.std.specs.Prelude.{slice_get}
use Rattle.jx_base.specs.declared.pieces.Block.{Block}
use Rattle.jx_base.proofs.Joined.{joined_none}
use Rattle.jx_geom.specs.Precincts.{leaf_number, leaves}
use Rattle.jx_tier2_reader.specs.Carries.{pieces_of}
use Rattle.jx_tier2_writer.specs.Coded.{HasLayers}
use Rattle.jx_tier2_writer.specs.Own.{leaf_bytes}
use Rattle.jx_tier2_writer.specs.BlockParts.{layer_bytes, row_at, row_bytes, rows_of}
use Rattle.jx_tier2_writer.proofs.SendingLemmas.{bytes_next, none_sent}
use Rattle.jx_tier2_writer.proofs.sending.parts_of.Goals as goal

pub loop-leaf-init : goal.loop-leaf-init
loop-leaf-init g c =
    let own : List Block = map g.B.Coded.block c.args.values.now in
    let datas : List (List ℕ) = map g.B.Coded.bytes c.args.values.now in (
      c.in_ok-rows.ensures.long,
      λ n. ap (row_bytes datas) (c.in_ok-rows.ensures.none n) ∙ sym (joined_none (leaf_bytes c.args.geom.now own c.args.comp c.args.res c.args.precinct n) 0 0 (omega arith)),
      λ n. none_sent datas (row_at (rows_of c.in_ok-rows.rows.items) n) (c.in_ok-rows.ensures.none n),
    )

pub loop-leaf-preserved : goal.loop-leaf-preserved
loop-leaf-preserved g c =
    let own : List Block = map g.B.Coded.block c.args.values.now in
    let datas : List (List ℕ) = map g.B.Coded.bytes c.args.values.now in
    let inside : c.loop-leaf.leaf < leaves c.args.geom.now c.args.comp c.args.res c.args.precinct = grind arith in
    let number : c.number.result ≡ leaf_number c.args.geom.now c.args.comp c.args.res c.args.precinct c.loop-leaf.leaf = c.number.ensures ∙ c.leaves-leaves.ensures.each c.loop-leaf.leaf inside in (
      c.in_ok-put_block.ensures.long ∙ c.loop-leaf.invariant.0,
      λ n. bytes_next (leaf_bytes c.args.geom.now own c.args.comp c.args.res c.args.precinct n) (row_bytes datas (row_at (rows_of c.loop-leaf.rows.items) n))
          (row_bytes datas (row_at (rows_of c.put_block.new.rows.items) n)) (layer_bytes n (pieces_of (slice_get own c.number.result))) c.loop-leaf.leaf
          (c.in_ok-put_block.ensures.bytes n) (c.loop-leaf.invariant.1 n) (ap (λ (i : ℕ). layer_bytes n (pieces_of (slice_get own i))) number),
      λ n. c.in_ok-put_block.ensures.sent n,
    )

pub put_block-requires-clause-layers : goal.put_block-requires-clause-layers
put_block-requires-clause-layers g c =
    let own : List Block = map g.B.Coded.block c.args.values.now in
    let inside : c.loop-leaf.leaf < leaves c.args.geom.now c.args.comp c.args.res c.args.precinct = grind arith in
    let number : c.number.result ≡ leaf_number c.args.geom.now c.args.comp c.args.res c.args.precinct c.loop-leaf.leaf = c.number.ensures ∙ c.leaves-leaves.ensures.each c.loop-leaf.leaf inside in
    subst (λ (n : ℕ). HasLayers n (slice_get own c.number.result)) (sym c.loop-leaf.invariant.0)
    (subst (λ (i : ℕ). HasLayers c.args.layers (slice_get own i)) (sym number) (c.requires.layers c.loop-leaf.leaf inside))

pub put_block-requires-clause-sent : goal.put_block-requires-clause-sent
put_block-requires-clause-sent g c = c.loop-leaf.invariant.2
