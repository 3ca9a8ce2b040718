use Rattle.std.proofs.Common.{arith, string_bytes}
use Rattle.jx_show.specs.Facts.{topic_facts}
use Rattle.jx_show.proofs.TextLemmas.{next, none}
use Rattle.jx_show.proofs.headers.push_header.Goals as goal

pub loop-topic-init : goal.loop-topic-init
loop-topic-init c = none c.args.json (string_bytes c.args.text.now) (topic_facts c.args.tile c.args.ordered c.args.segments.now) 0 0 (omega arith)

pub loop-topic-preserved : goal.loop-topic-preserved
loop-topic-preserved c =
    next c.args.json (string_bytes c.args.text.now) (string_bytes c.loop-topic.text) (string_bytes c.push_topic.new.text)
    (topic_facts c.args.tile c.args.ordered c.args.segments.now) 0 c.loop-topic.topic (omega arith) c.loop-topic.invariant c.in_ok-push_topic.ensures
