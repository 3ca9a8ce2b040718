use Rattle.std.proofs.Common.{◌+◌, ◌++◌, ◌∷◌, ◌∙◌, ap, map, ℕ, []}
use Rattle.std.specs.List.{range_with_len}
use Rattle.jx_tier1_specs.specs.Segments.{bytes_of}
use Rattle.jx_codeblock.specs.Segments.{sent_by_looks}
use Rattle.jx_codeblock.proofs.RoomLemmas.{listed_next}
use Rattle.jx_codeblock.proofs.sent.by_looks.Goals as goal

pub loop-sent-preserved : goal.loop-sent-preserved
loop-sent-preserved c =
    let f : ℕ → ℕ = sent_by_looks c.args.style.bits c.args.passes (map bytes_of c.args.segments.now) c.args.looked.now in
    record {
      listed = listed_next c.loop-sent.table.items c.push.new.self.items f c.loop-sent.sent (c.args.passes + 1) (map f (range_with_len 0 (c.args.passes + 1))) c.loop-sent-test.true
          c.loop-sent.invariant.listed (c.in_ok-push.ensures.items ∙ ap (λ (n : ℕ). c.loop-sent.table.items ++ n ∷ []) c.sent_at.ensures);
      at = c.next_segment.ensures.at;
      before = c.next_segment.ensures.before;
    }
