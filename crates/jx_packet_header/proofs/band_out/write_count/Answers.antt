use Rattle.std.proofs.Common.{◌≡◌, ◌-◌, ◌+◌, ◌∙◌, ap, arith}
use Rattle.jx_tagtree.specs.Leaves.{Written}
use Rattle.jx_packet_header.proofs.PutLemmas.{same_least, count_bits, count_after}
use Rattle.jx_packet_header.proofs.band_out.write_count.Goals as goal

pub loop-known-preserved : goal.loop-known-preserved
loop-known-preserved c =
    let first = c.args.tree.now in
    let w = c.loop-known.tree in
    let new = c.reach.new.self in
    let n = c.loop-known.known in
    let i = c.loop-known.invariant in
    let same = same_least w first i.leaves i.wide i.high in
    let less : c.args.count - (n + 1) ≡ c.args.count - n - 1 = omega arith in
    let after = c.in_ok-reach.ensures.after in
    record {
      bits = count_bits first w new c.loop-known.bits c.reach.new.bits c.args.leaf n (c.args.count - n) (c.args.count - (n + 1)) same (omega arith) less c.in_ok-reach.ensures.bits after ∙ i.bits;
      after = count_after first w new c.args.leaf n (c.args.count - n) (c.args.count - (n + 1)) same (omega arith) less after ∙ i.after;
      leaves = ap (λ (x : Written). x.leaves) after ∙ i.leaves;
      wide = ap (λ (x : Written). x.tree.wide) after ∙ i.wide;
      high = ap (λ (x : Written). x.tree.high) after ∙ i.high;
    }
