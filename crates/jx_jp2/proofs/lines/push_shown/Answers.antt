use Rattle.std.proofs.Common.{string_bytes}
use Rattle.jx_jp2.proofs.LineLemmas.{ascii_at, shown_next, shown_all}
use Rattle.jx_jp2.proofs.lines.push_shown.Goals as goal

pub push_ascii-requires : goal.push_ascii-requires
push_ascii-requires c = ascii_at c.args.kind.now c.loop-byte.byte-index c.requires c.loop-byte-test.true

pub loop-byte-preserved : goal.loop-byte-preserved
loop-byte-preserved c =
    shown_next c.args.kind.now c.loop-byte.byte-index (string_bytes c.args.text.now) (string_bytes c.loop-byte.text) (string_bytes c.push_ascii.new.text)
    c.loop-byte-test.true c.loop-byte.invariant c.in_ok-push_ascii.ensures

pub returns : goal.returns
returns c =
    shown_all c.args.kind.now c.loop-byte.byte-index (string_bytes c.args.text.now) (string_bytes c.loop-byte.text) c.loop-byte-test.false c.loop-byte.invariant
