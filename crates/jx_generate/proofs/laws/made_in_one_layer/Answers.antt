use Rattle.std.proofs.Common.{◌≤◌, ◌∷◌, [], subst, sym, arith}
use Rattle.jx_geom.specs.Geometry.{Geometry}
use Rattle.jx_geom.specs.Precincts.{leaves}
use Rattle.jx_progression.specs.Packets.{IsOrder}
use Rattle.jx_generate.specs.Headers.{geometry_made}
use Rattle.jx_generate.specs.OneLayer.{entry_of_layers}
use Rattle.jx_generate.specs.Packets.{layer_names}
use Rattle.jx_generate.proofs.OneLayer.{layer_order}
use Rattle.jx_generate.proofs.ReadLemmas.{geometry_is}
use Rattle.jx_generate.proofs.ShortLemmas.{few_leaves}
use Rattle.jx_generate.proofs.laws.made_in_one_layer.Goals as goal

pub returns-clause-order : goal.returns-clause-order
returns-clause-order c w h size names sizes is =
    let P : Geometry → Type 0 = λ g. IsOrder g 1 (entry_of_layers 1 ∷ []) 1 names in
    c.orders_are_one.ensures (geometry_made w h) 1 (entry_of_layers 1 ∷ []) 1 names (layer_names 0) (subst P (geometry_is w h size) is) (layer_order w h sizes)

pub returns-clause-leaves : goal.returns-clause-leaves
returns-clause-leaves c w h size comp r sizes lt below =
    let P : Geometry → Type 0 = λ g. leaves g comp r 0 ≤ 3072 in
    subst P (sym (geometry_is w h size)) (few_leaves w h comp r sizes lt (omega arith))
