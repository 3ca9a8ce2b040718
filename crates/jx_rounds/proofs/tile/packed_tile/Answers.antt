use Rattle.std.proofs.Common.{length, map, refl}
use Rattle.std.specs.List.{concat}
use Rattle.jx_plan.specs.Plan.{Plan}
use Rattle.jx_tier2_writer.specs.Tile.{AreMade, IsTooLong, StandIn, made_in}
use Rattle.jx_rounds.specs.Rounds.{IsRightTile, blocks_of, most_of_part}
use Rattle.jx_rounds.proofs.FrontLemmas.{tile_leads}
use Rattle.jx_rounds.proofs.TileLemmas.{BlockLaws, tile_right, tile_wrong, values_are, values_stand, whole_of}
use Rattle.jx_rounds.proofs.tile.packed_tile.Goals as goal

pub returns-in-Some-clause-unmade : goal.returns-in-Some-clause-unmade
returns-in-Some-clause-unmade c =
    let laws : BlockLaws = record {
      sound = c.written_is_sound.ensures.sound;
      layers = c.written_is_sound.ensures.layers;
      wrong = c.wrong_is_nothing.ensures.wrong;
      right = c.wrong_is_nothing.ensures.right;
    } in
    let p : Plan = c.args.making.now in
    (refl, tile_wrong laws p c.args.tile (length c.args.entries.now) c.args.entries.now c.plan-plan.ensures.plan c.requires.entries.of c.in-Some.number c.in-Some.ensures.unmade c.requires.entries.few)

pub pack_made-requires-clause-made : goal.pack_made-requires-clause-made
pack_made-requires-clause-made c = c.first_unmade.ensures.made c.in_default.is

pub pack_made-requires-clause-values : goal.pack_made-requires-clause-values
pack_made-requires-clause-values c =
    let laws : BlockLaws = record {
      sound = c.written_is_sound.ensures.sound;
      layers = c.written_is_sound.ensures.layers;
      wrong = c.wrong_is_nothing.ensures.wrong;
      right = c.wrong_is_nothing.ensures.right;
    } in
    let made : AreMade c.args.entries.now = c.first_unmade.ensures.made c.in_default.is in
    let p : Plan = c.args.making.now in
    values_are laws p c.args.tile (length c.args.entries.now) c.args.entries.now c.plan-plan.ensures.plan c.requires.entries.of made (whole_of p _ _ c.args.entries.now c.requires.entries made)

pub returns-in-Ok-clause-parts : goal.returns-in-Ok-clause-parts
returns-in-Ok-clause-parts c =
    let laws : BlockLaws = record {
      sound = c.written_is_sound.ensures.sound;
      layers = c.written_is_sound.ensures.layers;
      wrong = c.wrong_is_nothing.ensures.wrong;
      right = c.wrong_is_nothing.ensures.right;
    } in
    let made : AreMade c.args.entries.now = c.first_unmade.ensures.made c.in_default.is in
    let p : Plan = c.args.making.now in
    let stand : StandIn (blocks_of p) p c.args.tile (made_in c.args.entries.now) =
    values_stand laws p c.args.tile (length c.args.entries.now) c.args.entries.now c.plan-plan.ensures.plan c.requires.entries.of made in
    let right : IsRightTile p c.args.tile = tile_right laws p c.args.tile (length c.args.entries.now) c.args.entries.now c.plan-plan.ensures.plan c.requires.entries.of made (whole_of p _ _ c.args.entries.now c.requires.entries made) in
    tile_leads p c.args.tile (map concat c.in-Ok.out) right (c.in-Ok.ensures.parts (blocks_of p) stand)

pub returns-in-Err-TooLong-clause-unmade : goal.returns-in-Err-TooLong-clause-unmade
returns-in-Err-TooLong-clause-unmade c =
    let laws : BlockLaws = record {
      sound = c.written_is_sound.ensures.sound;
      layers = c.written_is_sound.ensures.layers;
      wrong = c.wrong_is_nothing.ensures.wrong;
      right = c.wrong_is_nothing.ensures.right;
    } in
    let made : AreMade c.args.entries.now = c.first_unmade.ensures.made c.in_default.is in
    let p : Plan = c.args.making.now in
    let stand : StandIn (blocks_of p) p c.args.tile (made_in c.args.entries.now) =
    values_stand laws p c.args.tile (length c.args.entries.now) c.args.entries.now c.plan-plan.ensures.plan c.requires.entries.of made in
    let right : IsRightTile p c.args.tile = tile_right laws p c.args.tile (length c.args.entries.now) c.args.entries.now c.plan-plan.ensures.plan c.requires.entries.of made (whole_of p _ _ c.args.entries.now c.requires.entries made) in
    let long : IsTooLong p (blocks_of p) c.args.tile most_of_part = c.in-Err-TooLong.ensures.long (rw c.in-Err-TooLong.field-0-is refl) (blocks_of p) stand in
    (refl, right, long)

pub returns-in-Ok-clause-whole : goal.returns-in-Ok-clause-whole
returns-in-Ok-clause-whole c =
    let made : AreMade c.args.entries.now = c.first_unmade.ensures.made c.in_default.is in
    (whole_of c.args.making.now _ _ c.args.entries.now c.requires.entries made, made)
