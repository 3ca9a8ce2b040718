use Rattle.std.proofs.Common.{◌≡◌, ◌+◌, ◌++◌, ℕ, List, ◌∙◌, ap}
use Rattle.jx_packet_header.specs.LeavesFit.{header_at}
use Rattle.jx_packet_header.specs.Written.{Plan, next_header}
use Rattle.jx_tier2_writer.proofs.LeafLemmas.{leaf_next}
use Rattle.jx_tier2_writer.proofs.sending.headers_of.Goals as goal

pub loop-layer-preserved : goal.loop-layer-preserved
loop-layer-preserved c =
    let p : Plan = c.args.precinct in
    let was : c.loop-layer.out ≡ record p { next = c.loop-layer.layer } = c.loop-layer.invariant.0 in
    let own : c.deref.result.now ≡ header_at c.args.layers p.style p.bands p.leaves c.loop-layer.layer =
    c.deref.ensures.value ∙ c.in_ok-write_header.ensures.ok ∙ ap (λ (xs : List ℕ). xs ++ next_header c.loop-layer.out) c.clear.ensures.items
    ∙ ap (λ (q : Plan). next_header q) was ∙ ap (λ (n : ℕ). header_at n p.style p.bands p.leaves c.loop-layer.layer) c.requires.layers in (
      c.in_ok-write_header.ensures.next ∙ ap (λ (q : Plan). record q { next = q.next + 1 }) was,
      leaf_next (header_at c.args.layers p.style p.bands p.leaves) c.loop-layer.rows c.push.new.self c.loop-layer.layer c.deref.result.now c.loop-layer.invariant.1 own c.in_ok-push.ensures.ok,
    )
