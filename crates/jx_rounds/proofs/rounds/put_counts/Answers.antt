use Rattle.std.proofs.Common.{rules, arith, ◌≡◌, ◌<◌, ◌≤◌, ◌+◌, ◌++◌, ◌∷◌, [], refl, subst, sym}
use Rattle.jx_codestream.specs.First.{tile_number}
use Rattle.jx_codestream.specs.Shapes.{tile_at}
use Rattle.jx_codestream.specs.declared.Tile.{Tile}
use Rattle.jx_tier2_writer.specs.Tile.{blocks_in}
use Rattle.jx_rounds.specs.MadeRounds.{IsRoundAt}
use Rattle.jx_rounds.specs.Tiles.{size_of_tile, tile_size}
use Rattle.jx_rounds.proofs.ExtentLemmas.{extent_full, extent_last, of_next, of_none}
use Rattle.jx_rounds.proofs.FrontLemmas.{block_few, in_round, round_begun, round_full, round_heavy, round_more}
use Rattle.jx_rounds.proofs.rounds.put_counts.Goals as goal

pub loop-at-init : goal.loop-at-init
loop-at-init c = record {
  of = rw c.requires.empty (of_none c.args.making.now c.args.tile c.requires.tile);
  place = rw c.requires.empty (omega arith);
  round = round_begun c.args.making.now c.args.tile c.requires.begins;
  few = omega arith;
}

pub overflow_add-all : goal.overflow_add-all
overflow_add-all c =
    let inside : c.loop-at.at < tile_number c.args.making.now.stream.siz = search rules in
    omega (arith, c.blocks_in-count.ensures, block_few c.args.making.now c.loop-at.at c.tile_count-at-end.ensures.plan inside)

pub returns-then-all-ge-ROUND_BLOCKS : goal.returns-then-all-ge-ROUND_BLOCKS
returns-then-all-ge-ROUND_BLOCKS c =
    let inside : c.loop-at.at < tile_number c.args.making.now.stream.siz = search rules in
    let items : c.push.new.self.items ≡ c.loop-at.each.items ++ c.blocks_in-count.result ∷ [] = search rules in
    let count : c.blocks_in-count.result ≡ blocks_in c.args.making.now c.loop-at.at = c.blocks_in-count.ensures in
    let many : 4096 ≤ c.loop-at.all + blocks_in c.args.making.now c.loop-at.at = omega (arith, count, c.if-all-ge-ROUND_BLOCKS.true) in
    extent_full c.args.making.now c.args.tile c.loop-at.at c.loop-at.all c.blocks_in-count.result c.loop-at.each.items c.push.new.self.items c.loop-at.invariant.of c.loop-at.invariant.place inside
    (in_round c.args.making.now c.loop-at.at c.args.tile c.loop-at.all c.loop-at.room c.loop-at.invariant.round) count items
    (round_full c.args.making.now c.loop-at.at c.args.tile c.loop-at.all c.loop-at.room c.loop-at.invariant.round many)

pub loop-at-preserved : goal.loop-at-preserved
loop-at-preserved c =
    let inside : c.loop-at.at < tile_number c.args.making.now.stream.siz = search rules in
    let items : c.push.new.self.items ≡ c.loop-at.each.items ++ c.blocks_in-count.result ∷ [] = search rules in
    let count : c.blocks_in-count.result ≡ blocks_in c.args.making.now c.loop-at.at = c.blocks_in-count.ensures in
    let read : c.tile.result.now ≡ tile_at c.args.making.now.stream c.loop-at.at = c.tile.ensures in
    let fits : c.in-Some.rest + tile_size c.args.making.now.stream c.loop-at.at ≡ c.loop-at.room = subst (λ (t : Tile). c.in-Some.rest + size_of_tile t ≡ c.loop-at.room) read c.in-Some.ensures.some in
    record {
      of = of_next c.args.making.now c.args.tile c.loop-at.at c.loop-at.all c.blocks_in-count.result c.loop-at.each.items c.push.new.self.items c.loop-at.invariant.of c.loop-at.invariant.place inside
          (in_round c.args.making.now c.loop-at.at c.args.tile c.loop-at.all c.loop-at.room c.loop-at.invariant.round) count items;
      place = search rules;
      round = subst (λ n. IsRoundAt c.args.making.now (c.loop-at.at + 1) c.args.tile (c.loop-at.all + n) c.in-Some.rest) (sym count)
          (round_more c.args.making.now c.loop-at.at c.args.tile c.loop-at.all c.loop-at.room c.in-Some.rest c.loop-at.invariant.round (omega (arith, count, c.if-all-ge-ROUND_BLOCKS.false)) fits);
      few = c.if-all-ge-ROUND_BLOCKS.false;
    }

pub returns : goal.returns
returns c = extent_last c.args.making.now c.args.tile c.loop-at.all c.tile_count-at-end.result c.loop-at.each.items c.loop-at.invariant.of c.tile_count-at-end.ensures.count c.requires.tile
    (omega (arith, c.loop-at.invariant.place, c.loop-at-test.false))

pub returns-in-None : goal.returns-in-None
returns-in-None c =
    let inside : c.loop-at.at < tile_number c.args.making.now.stream.siz = search rules in
    let items : c.push.new.self.items ≡ c.loop-at.each.items ++ c.blocks_in-count.result ∷ [] = search rules in
    let count : c.blocks_in-count.result ≡ blocks_in c.args.making.now c.loop-at.at = c.blocks_in-count.ensures in
    let read : c.tile.result.now ≡ tile_at c.args.making.now.stream c.loop-at.at = c.tile.ensures in
    let heavy : c.loop-at.room < tile_size c.args.making.now.stream c.loop-at.at = subst (λ (t : Tile). c.loop-at.room < size_of_tile t) read (c.in-None.ensures.none refl) in
    extent_full c.args.making.now c.args.tile c.loop-at.at c.loop-at.all c.blocks_in-count.result c.loop-at.each.items c.push.new.self.items c.loop-at.invariant.of c.loop-at.invariant.place inside
    (in_round c.args.making.now c.loop-at.at c.args.tile c.loop-at.all c.loop-at.room c.loop-at.invariant.round) count items
    (round_heavy c.args.making.now c.loop-at.at c.args.tile c.loop-at.all c.loop-at.room c.loop-at.invariant.round heavy)
