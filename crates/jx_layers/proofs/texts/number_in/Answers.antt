use Rattle.std.proofs.Common.{◌≡◌, ◌+◌, ◌-◌, ◌∙◌, sym, suc, arith}
use Rattle.std.specs.Str.{bytes_eq}
use Rattle.std.specs.Fmt.{decimal}
use Rattle.jx_layers.proofs.texts.number_in.Goals as goal
use Rattle.jx_base.proofs.Lists.{find_on}

pub loop-number-preserved : goal.loop-number-preserved
loop-number-preserved c =
    let left : c.args.most + 1 - c.loop-number.number ≡ suc (c.args.most + 1 - (c.loop-number.number + 1)) = omega arith in
    c.loop-number.invariant ∙ find_on (λ n. bytes_eq (decimal n) c.args.text.now) c.loop-number.number (c.args.most + 1 - c.loop-number.number) (c.args.most + 1 - (c.loop-number.number + 1)) left (sym c.is_decimal.ensures ∙ c.if-is_decimal.false)
