-- Where the items of a short list stand. No public clause of a crate above cites this module.
use Rattle.std.specs.Prelude.{List, [], ◌∷◌}
use Rattle.jx_base.specs.declared.short_list.Held.{Held}
use Rattle.jx_base.specs.declared.short_list.Held.TheVariants.{None, One, Many}

module _ {T : Type 0} where
  abbrev pub items_held : Held T → List T
  items_held (None _) = []
  items_held (One item _) = item ∷ []
  items_held (Many items) = items.items
