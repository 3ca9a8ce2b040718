use Rattle.jx_progression.proofs.PlacesLemmas.{filled_next}
use Rattle.jx_progression.proofs.table.filled_places.Goals as goal

pub loop-place-preserved : goal.loop-place-preserved
loop-place-preserved c =
    filled_next c.args.rows.now c.row_at.result c.loop-place.places.items c.push_filled.new.places.items c.loop-place.place c.row_at.ensures
    c.loop-place.invariant c.in_ok-push_filled.ensures.kept c.in_ok-push_filled.ensures.own
