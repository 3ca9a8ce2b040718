use Rattle.std.proofs.Common.{◌≡◌, ◌∙◌, ◌<◌, ℕ, ap, subst, sym, arith}
use Rattle.std.proofs.lemmas.Bool.{and_parts}
use Rattle.jx_marker.specs.declared.Siz.{Siz}
use Rattle.jx_codestream.specs.First.{tile_number}
use Rattle.jx_same.specs.Items.{differs, tile_items}
use Rattle.jx_same.specs.Shared.{AreSameHeaders, AreSameMain}
use Rattle.jx_same.specs.Sides.{meaning_in}
use Rattle.jx_same.proofs.FindLemmas.{from_begins, from_ends, from_goes, from_stops, nothing}
use Rattle.jx_same.proofs.HeaderLemmas.{siz_back}
use Rattle.jx_same.proofs.SharedLemmas.{changed_beside, headers_before, headers_beside, headers_from, headers_none, known_after, main_from}
use Rattle.jx_same.proofs.TileLemmas.{tile_found}
use Rattle.jx_same.proofs.tiles.compare_between.Goals as goal

pub loop-tile-init : goal.loop-tile-init
loop-tile-init g c = record {
  known = λ is. absurd (cc);
  none = from_begins (differs (meaning_in c.args.a) (meaning_in c.args.b)) (tile_items c.args.a.stream.now) c.args.tiles.low c.args.tiles.low (omega arith);
}

pub new-requires-in-loop-tile-clause-tile : goal.new-requires-in-loop-tile-clause-tile
new-requires-in-loop-tile-clause-tile g c =
    let same = siz_back c.args.a.stream.now c.args.b.stream.now c.args.a.blocks.now c.args.b.blocks.now c.requires.siz in
    let tiles : tile_number c.args.a.stream.now.siz ≡ tile_number c.args.b.stream.now.siz = ap (λ (z : Siz). tile_number z) same in
    let below : c.loop-tile.tile < tile_number c.args.a.stream.now.siz = omega (arith, c.loop-tile-test.true, c.requires.high) in
    subst (λ (n : ℕ). c.loop-tile.tile < n) tiles below

pub is_known-same-requires-clause-shared : goal.is_known-same-requires-clause-shared
is_known-same-requires-clause-shared g c = λ is.
    (let parts = and_parts c.loop-tile.known c.are_bare-bare.result (sym c.both.ensures ∙ is) in
    headers_from c.args.a.stream.now c.args.b.stream.now c.loop-tile.tile (c.are_bare-bare.ensures parts.1) (c.loop-tile.invariant.known parts.0))

pub is_known-same-requires-clause-before : goal.is_known-same-requires-clause-before
is_known-same-requires-clause-before g c = λ is. headers_before c.args.a c.args.b c.args.tiles.low c.loop-tile.tile (c.is_above-after.ensures is) c.loop-tile.invariant.none

pub changed_unless-requires : goal.changed_unless-requires
changed_unless-requires g c = λ is. headers_before c.args.a c.args.b c.args.tiles.low c.loop-tile.tile (c.is_above-after.ensures is) c.loop-tile.invariant.none

pub compare_tile-requires-clause-known : goal.compare_tile-requires-clause-known
compare_tile-requires-clause-known g c κs held = λ is.
    headers_beside AreSameHeaders c.args.a c.args.b c.in_ok-side_a.side_a c.in_ok-side_b.side_b c.loop-tile.tile c.in_ok-side_a.ensures c.in_ok-side_b.ensures
    (c.is_known-same.ensures is)

pub compare_tile-requires-clause-changed : goal.compare_tile-requires-clause-changed
compare_tile-requires-clause-changed g c κs held =
    λ k lt is. changed_beside c.args.a c.args.b c.in_ok-side_a.side_a c.in_ok-side_b.side_b c.loop-tile.tile k c.in_ok-side_a.ensures c.in_ok-side_b.ensures
    (λ low. c.in_ok-changed.ensures k low (rw (← c.deref.ensures.value) is)) lt

pub returns-in-Some : goal.returns-in-Some
returns-in-Some g c =
    let a = c.args.a in
    let b = c.args.b in
    let found = tile_found a b c.in_ok-side_a.side_a c.in_ok-side_b.side_b c.loop-tile.tile c.in_ok-spot.field-0 c.in_ok-side_a.ensures c.in_ok-side_b.ensures c.in_ok-spot.ensures in
    sym (from_stops (differs (meaning_in a) (meaning_in b)) (tile_items a.stream.now) c.args.tiles.low c.loop-tile.tile c.args.tiles.high c.in-Some.spot
    (omega arith) c.loop-tile.invariant.none (sym found ∙ c.in-Some.is) c.loop-tile-test.true)

pub loop-tile-preserved : goal.loop-tile-preserved
loop-tile-preserved g c =
    let a = c.args.a in
    let b = c.args.b in
    let t = c.loop-tile.tile in
    let found = tile_found a b c.in_ok-side_a.side_a c.in_ok-side_b.side_b t c.in_ok-spot.field-0 c.in_ok-side_a.ensures c.in_ok-side_b.ensures c.in_ok-spot.ensures in
    let none = sym found ∙ nothing c.in_ok-spot.field-0 (λ x is. c.in_default.not-Some x is) in
    record {
      known = λ now.
          known_after c.loop-tile.known c.are_bare-bare.result (AreSameMain a.stream.now b.stream.now) c.loop-tile.invariant.known
          (λ is. main_from a.stream.now b.stream.now t (c.are_bare-bare.ensures is) (headers_none a.stream.now b.stream.now a.blocks.now b.blocks.now t none)) (sym c.either-known.ensures ∙ now);
      none = from_goes (differs (meaning_in a) (meaning_in b)) (tile_items a.stream.now) c.args.tiles.low t (omega arith) c.loop-tile.invariant.none none;
    }

pub returns : goal.returns
returns g c =
    sym (from_ends (differs (meaning_in c.args.a) (meaning_in c.args.b)) (tile_items c.args.a.stream.now) c.args.tiles.low c.args.tiles.high c.loop-tile.tile
    (omega (arith, c.loop-tile-test.false)) (λ le. omega (arith, le)) c.loop-tile.invariant.none)
