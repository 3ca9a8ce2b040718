use Rattle.std.proofs.Common.{◌≡◌, ◌++◌, string_bytes}
use Rattle.jx_base.specs.Joined.{joined}
use Rattle.jx_show.specs.Facts.{topic_facts}
use Rattle.jx_show.specs.Stated.{text_of}
use Rattle.jx_show.proofs.headers.push_header.Given as goal

abbrev pub invariant-loop-topic : goal.invariant-loop-topic
invariant-loop-topic l = string_bytes l.text ≡ string_bytes l.initial.text ++ text_of l.json (joined (topic_facts l.tile l.ordered l.segments) 0 l.topic)
