use Rattle.std.proofs.Common.{◌∙◌, ◌+◌, ◌*◌, sym, ap, nat_lt, ℕ}
use Rattle.jx_codestream.specs.Params.{planes_of}
use Rattle.jx_codestream.proofs.ScanLemmas.{mapped_later}
use Rattle.jx_codestream.proofs.checks.first_over.Goals as goal
use Rattle.std.proofs.lemmas.Bool.{le-ltb}

pub loop-number-preserved : goal.loop-number-preserved
loop-number-preserved c =
    c.loop-number.invariant ∙ mapped_later (nat_lt 74) (planes_of c.args.quant.now c.args.levels c.args.shift) c.loop-number.number (3 * c.from.result + 1) c.loop-number-test.true
    (ap (λ (n : ℕ). nat_lt 74 n) (sym c.planes_of-planes.ensures) ∙ le-ltb 74 c.planes_of-planes.result c.if-planes-gt74.false)
