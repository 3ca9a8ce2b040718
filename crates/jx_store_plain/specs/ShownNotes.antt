-- What a history shows.
use Rattle.jx_store_plain.specs.declared.history.History.{History}
use Rattle.jx_store_plain.specs.Notes.{Notes}

abbrev pub shown : History → Notes
shown h = record { steps = h.steps.items; full = h.full; all = h.all }
