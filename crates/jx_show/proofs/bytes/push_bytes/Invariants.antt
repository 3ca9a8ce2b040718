use Rattle.std.proofs.Common.{◌≡◌, ◌++◌, string_bytes}
use Rattle.jx_base.specs.Joined.{joined}
use Rattle.jx_show.specs.Facts.{byte_facts}
use Rattle.jx_show.specs.Stated.{text_of}
use Rattle.jx_show.proofs.bytes.push_bytes.Given as goal

abbrev pub invariant-loop-comp : goal.invariant-loop-comp
invariant-loop-comp l = string_bytes l.text ≡ string_bytes l.initial.text ++ text_of l.json (joined (byte_facts l.blocks) 0 l.comp)
