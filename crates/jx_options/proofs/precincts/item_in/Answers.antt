use Rattle.std.proofs.Common.{◌≡◌, ◌+◌, ◌-◌, ◌∙◌, sym, suc, refl, arith}
use Rattle.std.specs.Str.{bytes_eq}
use Rattle.jx_options.specs.Values.{item_in, item_text}
use Rattle.jx_options.proofs.precincts.item_in.Goals as goal
use Rattle.jx_base.proofs.Lists.{find_on}

pub loop-byte-init : goal.loop-byte-init
unfolding item_in
loop-byte-init c = refl

pub loop-byte-preserved : goal.loop-byte-preserved
loop-byte-preserved c =
    let left : 256 - c.loop-byte.byte ≡ suc (256 - (c.loop-byte.byte + 1)) = omega arith in
    c.loop-byte.invariant ∙ find_on (λ byte. bytes_eq c.args.text.now (item_text byte)) c.loop-byte.byte (256 - c.loop-byte.byte) (256 - (c.loop-byte.byte + 1)) left (sym c.if-is_item.ensures)
