use Rattle.std.proofs.Common.{leb, leb-true, arith, rules, ℕ}
use Rattle.std.proofs.lemmas.Bool.{leb-false}
use Rattle.std.proofs.lemmas.List.Sorted.{IsPartitionPoint-from_clause, IsPartitionedBy-leb}
use Rattle.jx_codeblock.proofs.StartLemmas.{found_begins}
use Rattle.jx_codeblock.proofs.starts.piece_at.Goals as goal

pub returns-clause-begins : goal.returns-clause-begins
returns-clause-begins c =
    let parted = IsPartitionedBy-leb (λ (n : ℕ). n) c.args.starts.now c.args.place c.requires in
    let point = IsPartitionPoint-from_clause (λ (n : ℕ). leb n c.args.place) c.args.starts.now c.partition_point.result c.partition_point.ensures.partitioned parted (λ a r q k. search rules) in
    found_begins c.args.starts.now c.args.place c.partition_point.result c.saturating_sub.result c.saturating_sub.ensures (λ (k : ℕ) lt. leb-true _ _ (point.0 k 0 (omega arith) lt))

pub returns-clause-next : goal.returns-clause-next
returns-clause-next c =
    let parted = IsPartitionedBy-leb (λ (n : ℕ). n) c.args.starts.now c.args.place c.requires in
    let point = IsPartitionPoint-from_clause (λ (n : ℕ). leb n c.args.place) c.args.starts.now c.partition_point.result c.partition_point.ensures.partitioned parted (λ a r q k. search rules) in
    λ (next : ℕ) lt within. leb-false _ _ (point.1 next 0 (omega arith) within)
