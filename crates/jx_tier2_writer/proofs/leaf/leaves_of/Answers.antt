use Rattle.std.proofs.Common.{◌≡◌, ◌<◌, ◌∷◌, [], ◌∙◌, ℕ, List, map, ap, sym, arith}
use Rattle.std.proofs.lemmas.List.{map-append}
use Rattle.std.specs.Prelude.{slice_get}
use Rattle.jx_base.specs.declared.pieces.Block.{Block}
use Rattle.jx_geom.specs.Precincts.{leaf_number, leaves}
use Rattle.jx_packet_header.specs.Leafs.{leaf_of}
use Rattle.jx_tier2_reader.specs.Planned.{leaf_from}
use Rattle.jx_tier2_writer.specs.Own.{own_leaf}
use Rattle.jx_tier2_writer.proofs.LeafLemmas.{leaf_next, leaves_all}
use Rattle.jx_tier2_writer.proofs.leaf.leaves_of.Goals as goal

pub loop-leaf-preserved : goal.loop-leaf-preserved
loop-leaf-preserved g c =
    let own : List Block = map g.B.Coded.block c.args.values.now in
    let inside : c.loop-leaf.leaf < leaves c.args.geom.now c.args.comp c.args.res c.args.precinct = grind arith in
    let number : c.number.result ≡ leaf_number c.args.geom.now c.args.comp c.args.res c.args.precinct c.loop-leaf.leaf = c.number.ensures ∙ c.leaves-leaves.ensures.each c.loop-leaf.leaf inside in
    let own_is : leaf_of c.in_ok-leaf_of.field-0 ≡ own_leaf c.args.geom.now own c.args.comp c.args.res c.args.precinct c.loop-leaf.leaf =
    c.in_ok-leaf_of.ensures ∙ ap (leaf_from c.loop-leaf.leaf) (sym c.block_at-block.ensures.block) ∙ ap (λ (n : ℕ). leaf_from c.loop-leaf.leaf (slice_get own n)) number in
    leaf_next (own_leaf c.args.geom.now own c.args.comp c.args.res c.args.precinct) (map leaf_of c.loop-leaf.made.items) (map leaf_of c.push.new.self.items) c.loop-leaf.leaf (leaf_of c.in_ok-leaf_of.field-0)
    c.loop-leaf.invariant own_is (ap (map leaf_of) c.in_ok-push.ensures.items ∙ map-append leaf_of c.loop-leaf.made.items (c.in_ok-leaf_of.field-0 ∷ []))

pub returns : goal.returns
returns g c =
    let all : c.loop-leaf.leaf ≡ leaves c.args.geom.now c.args.comp c.args.res c.args.precinct = grind arith in
    leaves_all c.args.geom.now (map g.B.Coded.block c.args.values.now) c.args.comp c.args.res c.args.precinct (map leaf_of c.loop-leaf.made.items) c.loop-leaf.leaf c.loop-leaf.invariant all
