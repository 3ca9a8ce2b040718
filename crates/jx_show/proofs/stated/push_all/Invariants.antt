use Rattle.std.proofs.Common.{◌≡◌, ◌++◌, string_bytes, take}
use Rattle.std.specs.List.{flat_map}
use Rattle.jx_show.specs.Facts.{One}
use Rattle.jx_show.specs.Stated.{statement_text}
use Rattle.jx_show.proofs.stated.push_all.Given as goal

abbrev pub invariant-loop-fact : goal.invariant-loop-fact
invariant-loop-fact l = string_bytes l.text ≡ string_bytes l.initial.text ++ flat_map (λ fact. statement_text l.json (One fact)) (take l.fact-index l.facts)
