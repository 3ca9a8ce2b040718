-- The order, the progression changes and the precincts that are asked, as Wanted has them.
use Rattle.std.specs.Prelude.{ℕ, List, [], Option, None, Some}
use Rattle.std.specs.Borrow.{Bor}
use Rattle.std.specs.Option.{option_map}
use Rattle.jx_marker.specs.declared.Progression.{Progression}
use Rattle.jx_options.specs.declared.options.OrderChoice.{OrderChoice}
use Rattle.jx_options.specs.declared.options.OrderChoice.TheVariants as order
use Rattle.jx_options.specs.declared.options.PocChoice.{PocChoice}
use Rattle.jx_options.specs.declared.options.PocChoice.TheVariants as poc
use Rattle.jx_options.specs.declared.options.PrecinctChoice.{PrecinctChoice}
use Rattle.jx_options.specs.declared.options.PrecinctChoice.TheVariants as precincts

abbrev pub order_in : OrderChoice → Option ℕ
order_in order.Keep = None
order_in (order.Order number) = Some number

abbrev pub changes_in : PocChoice → Option (List Progression)
changes_in poc.None = Some []
changes_in poc.Keep = None
changes_in (poc.Volumes entries) = Some entries.items

abbrev pub bytes_in : PrecinctChoice → Option (List ℕ)
bytes_in precincts.Keep = None
bytes_in precincts.Max = Some []
bytes_in (precincts.List bytes) = Some bytes.items

-- entries that are lent
abbrev pub borrowed_entries : Option (Bor (List Progression)) → Option (List Progression)
borrowed_entries entries = option_map (λ (list : Bor (List Progression)). list.now) entries

-- bytes that are lent
abbrev pub lent : Option (Bor (List ℕ)) → Option (List ℕ)
lent bytes = option_map (λ (b : Bor (List ℕ)). b.now) bytes
