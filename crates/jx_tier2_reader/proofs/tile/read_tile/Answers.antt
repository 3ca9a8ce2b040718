use Rattle.std.proofs.Common.{ℕ, List, Option, Some, None, ◌≡◌, ◌≤◌, ◌∷◌, length, ap, sym, subst, ◌∙◌, arith}
use Rattle.jx_geom.specs.Geometry.{Geometry}
use Rattle.jx_codestream.specs.declared.Body.{Body}
use Rattle.jx_codestream.specs.declared.Tile.{Tile}
use Rattle.jx_codestream.specs.PackedHeaders.{LieIn}
use Rattle.jx_codestream.specs.Shapes.{tile_at}
use Rattle.jx_tier2_reader.specs.Fresh.{fresh_precincts}
use Rattle.jx_tier2_reader.specs.Data.{due, end_in, packed_in, packed_pieces}
use Rattle.jx_tier2_reader.specs.Reading.{AreShort, seen}
use Rattle.jx_tier2_reader.proofs.TileLemmas.{bodies_short, end_low, first_front, first_inside, seen_heads}
use Rattle.jx_tier2_reader.proofs.tile.read_tile.Goals as goal

pub tile-tile-requires : goal.tile-tile-requires
tile-tile-requires c = omega (arith, c.number.ensures, c.requires.tile.tile, c.requires.tile.range.tiles)

pub read_all-requires-clause-task : goal.read_all-requires-clause-task
read_all-requires-clause-task c =
    record {
      fits = c.requires.fits;
      range = c.requires.tile.range;
      totals = c.requires.tile.totals;
      below = c.requires.tile.tile;
      geometry_is = c.requires.tile.geometry;
      order = c.requires.order;
      whole = c.requires.whole;
      bodies = c.requires.bodies;
      heads = c.requires.heads;
    }

pub join-requires : goal.join-requires
join-requires c =
    let tile = c.tile-tile.ensures ∙ ap (λ (t : ℕ). tile_at c.args.stream.now t) c.number.ensures in
    let heads = seen_heads c.pieces-heads.result _ c.pieces-heads.ensures ∙ ap (λ (t : Tile). t.heads) tile in
    subst (λ (xs : List Body). LieIn c.args.bytes.now xs) (sym (c.packed_pieces-pieces.ensures ∙ ap packed_pieces heads)) c.requires.heads.inside

pub packed_in-packed-requires-clause-inside : goal.packed_in-packed-requires-clause-inside
packed_in-packed-requires-clause-inside c =
    let tile = c.tile-tile.ensures ∙ ap (λ (t : ℕ). tile_at c.args.stream.now t) c.number.ensures in
    let heads = seen_heads c.pieces-heads.result _ c.pieces-heads.ensures ∙ ap (λ (t : Tile). t.heads) tile in
    subst (λ (xs : List Body). LieIn c.args.bytes.now xs) (sym (ap packed_pieces heads)) c.requires.heads.inside

pub end_in-requires : goal.end_in-requires
end_in-requires c =
    let tile = c.tile-tile.ensures ∙ ap (λ (t : ℕ). tile_at c.args.stream.now t) c.number.ensures in
    let bodies = c.as_slice-bodies.ensures ∙ ap (λ (t : Tile). t.bodies) tile in
    subst (λ (xs : List Body). AreShort xs) (sym bodies) (bodies_short c.args.bytes.now _ c.requires.fits c.requires.bodies.inside)

pub read_all-requires-clause-pieces : goal.read_all-requires-clause-pieces
read_all-requires-clause-pieces c =
    let tile = c.tile-tile.ensures ∙ ap (λ (t : ℕ). tile_at c.args.stream.now t) c.number.ensures in
    let heads = seen_heads c.pieces-heads.result _ c.pieces-heads.ensures ∙ ap (λ (t : Tile). t.heads) tile in
    c.packed_pieces-pieces.ensures ∙ ap packed_pieces heads

pub read_all-requires-clause-front : goal.read_all-requires-clause-front
read_all-requires-clause-front c =
    let s = c.args.stream.now in
    let tile = c.tile-tile.ensures ∙ ap (λ (t : ℕ). tile_at s t) c.number.ensures in
    let bodies = c.as_slice-bodies.ensures ∙ ap (λ (t : Tile). t.bodies) tile in
    let heads = seen_heads c.pieces-heads.result _ c.pieces-heads.ensures ∙ ap (λ (t : Tile). t.heads) tile in
    let end = c.new-rest.ensures.end ∙ c.end_in.ensures ∙ ap (λ (o : Option (List Body)). end_in o c.as_slice-bodies.result.now) heads ∙ ap (end_in (tile_at s c.args.geom.now.tile).heads) bodies in
    let packed = c.new-rest.ensures.packed ∙ c.packed_in-packed.ensures ∙ ap (packed_in c.args.bytes.now) heads in
    let states = c.new-rest.ensures.states ∙ c.in_ok-precincts.ensures ∙ ap (λ (g : Geometry). fresh_precincts s g) c.requires.tile.geometry in
    first_front c.args.bytes.now s c.args.geom.now c.new-rest.result c.args.blocks.now.items c.requires.tile.geometry (ap due c.new-rest.ensures.bodies ∙ ap due bodies) end packed states c.requires.blocks

pub read_all-requires-clause-inside : goal.read_all-requires-clause-inside
read_all-requires-clause-inside c =
    let s = c.args.stream.now in
    let tile = c.tile-tile.ensures ∙ ap (λ (t : ℕ). tile_at s t) c.number.ensures in
    let bodies = c.as_slice-bodies.ensures ∙ ap (λ (t : Tile). t.bodies) tile in
    let heads = seen_heads c.pieces-heads.result _ c.pieces-heads.ensures ∙ ap (λ (t : Tile). t.heads) tile in
    let none : Body = record { at = 0; length = 0 } in
    let end : c.new-rest.result.end ≡ end_in (tile_at s c.args.geom.now.tile).heads (tile_at s c.args.geom.now.tile).bodies =
    c.new-rest.ensures.end ∙ c.end_in.ensures ∙ ap (λ (o : Option (List Body)). end_in o c.as_slice-bodies.result.now) heads ∙ ap (end_in (tile_at s c.args.geom.now.tile).heads) bodies in
    first_inside c.args.bytes.now (tile_at s c.args.geom.now.tile).bodies c.new-rest.result c.requires.bodies.inside (c.new-rest.ensures.bodies ∙ ap (λ (xs : List Body). none ∷ xs) bodies)
    (subst (λ (n : ℕ). n ≤ length c.args.bytes.now) (sym end) (end_low c.args.bytes.now (tile_at s c.args.geom.now.tile).heads _ c.requires.bodies.inside))
