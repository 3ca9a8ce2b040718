use Rattle.std.proofs.Common.{arith, rules, ◌+◌, ◌≡◌, false}
use Rattle.jx_base.specs.Passes.{end_pass}
use Rattle.jx_codeblock.proofs.RoomLemmas.{few_bytes}
use Rattle.jx_codeblock.proofs.sent.sent_at.Goals as goal

pub overflow_add-result : goal.overflow_add-result
overflow_add-result c =
    let next : c.from.result + 1 ≡ c.args.passes = omega (arith, c.from.ensures, c.if-passes-eq0.false) in
    let flat : end_pass c.args.style.bits c.from.result ≡ false = search rules in
    let within = few_bytes c.args.style.bits c.args.passes c.from.result c.args.at c.args.before c.args.segments.now c.args.looked.now c.requires.few c.requires.bytes c.requires.before c.requires.at next flat in
    omega (arith, within, c.seen_at-seen.ensures, c.less_last_ff.ensures.most)
