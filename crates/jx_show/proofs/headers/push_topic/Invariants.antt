use Rattle.std.proofs.Common.{◌≡◌, ◌++◌, string_bytes, take}
use Rattle.std.specs.List.{flat_map}
use Rattle.jx_show.specs.Facts.{facts_on}
use Rattle.jx_show.specs.Stated.{text_of}
use Rattle.jx_show.proofs.headers.push_topic.Given as goal

abbrev pub invariant-loop-segment : goal.invariant-loop-segment
invariant-loop-segment l = string_bytes l.text ≡ string_bytes l.initial.text ++ text_of l.json (flat_map (facts_on l.tile l.ordered l.topic) (take l.segment-index l.segments))
