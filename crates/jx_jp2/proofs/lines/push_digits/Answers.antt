use Rattle.std.proofs.Common.{string_bytes}
use Rattle.jx_jp2.proofs.LineLemmas.{digits_next, digits_all}
use Rattle.jx_jp2.proofs.lines.push_digits.Goals as goal

pub loop-byte-preserved : goal.loop-byte-preserved
loop-byte-preserved c =
    digits_next c.args.kind.now c.loop-byte.byte-index (string_bytes c.args.text.now) (string_bytes c.loop-byte.text) (string_bytes c.push_hex.new.text)
    c.loop-byte-test.true c.loop-byte.invariant c.in_ok-push_hex.ensures

pub returns : goal.returns
returns c =
    digits_all c.args.kind.now c.loop-byte.byte-index (string_bytes c.args.text.now) (string_bytes c.loop-byte.text) c.loop-byte-test.false c.loop-byte.invariant
