use Rattle.std.proofs.Common.{◌≡◌, ◌++◌, string_bytes, drop}
use Rattle.jx_show.specs.Facts.{entry_facts}
use Rattle.jx_show.specs.Stated.{text_of}
use Rattle.jx_show.proofs.segments.push_entries.Given as goal

abbrev pub invariant-loop-number : goal.invariant-loop-number
invariant-loop-number l = string_bytes l.text ++ text_of l.json (entry_facts l.about l.number (drop l.number l.entries)) ≡ string_bytes l.initial.text ++ text_of l.json (entry_facts l.about 0 l.entries)
