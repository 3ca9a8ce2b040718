use Rattle.std.proofs.lemmas.List.Sorted.{Contains-permutation}
use Rattle.jx_progression.proofs.table.places_of.Goals as goal

pub returns : goal.returns
returns c = λ i lt some.
    Contains-permutation c.in_ok-places.places.items c.sort_by_key.new.self.items i c.sort_by_key.ensures.permutation (c.in_ok-places.ensures i lt some)
