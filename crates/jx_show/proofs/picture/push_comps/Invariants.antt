use Rattle.std.proofs.Common.{◌≡◌, ◌++◌, string_bytes}
use Rattle.jx_base.specs.Joined.{joined}
use Rattle.jx_show.specs.Facts.{comp_facts}
use Rattle.jx_show.specs.Stated.{text_of}
use Rattle.jx_show.proofs.picture.push_comps.Given as goal

abbrev pub invariant-loop-comp : goal.invariant-loop-comp
invariant-loop-comp l = string_bytes l.text ≡ string_bytes l.initial.text ++ text_of l.json (joined (comp_facts l.siz) 0 l.comp)
