use Rattle.std.proofs.Common.{◌+◌, ◌<◌, ◌^◌}
use Rattle.jx_codestream.specs.declared.Body.{Body}
use Rattle.jx_codestream.specs.PackedHeaders.{after_bytes, first_bytes, together}
use Rattle.jx_codestream.proofs.PieceLemmas.{after_goes, all_goes, first_goes, sum_goes, take_ends}
use Rattle.jx_codestream.proofs.shares.Cursor.take.Goals as goal

pub loop-self-preserved : goal.loop-self-preserved
loop-self-preserved c =
    let l = c.loop-self in
    let i = l.invariant in
    record {
      first = first_goes l.wanted l.self-inside.first c.in-Some.next.now l.self-inside.later.now c.in-Some.later.now l.taken.items c.push_some.new.pieces.items (first_bytes c.args.count c.args.self.now)
          c.loop-self-test.true c.in-Some.ensures.cases.0 c.in_ok-push_some.ensures i.first;
      after = after_goes l.wanted l.self-inside.first c.in-Some.next.now l.self-inside.later.now c.in-Some.later.now (after_bytes c.args.count c.args.self.now) c.loop-self-test.true c.in-Some.ensures.cases.0 i.after;
      sum = sum_goes c.args.count l.wanted (together c.args.self.now) l.self-inside.first c.in-Some.next.now l.self-inside.later.now c.in-Some.later.now c.loop-self-test.true c.in-Some.ensures.cases.0 i.sum;
      fits = all_goes (λ (piece : Body). piece.at + piece.length < 2 ^ 32) l.self-inside.first c.in-Some.next.now l.self-inside.later.now c.in-Some.later.now c.in-Some.ensures.cases.0 i.fits;
    }

pub returns : goal.returns
returns c =
    let l = c.loop-self in
    take_ends c.args.count l.wanted l.self-inside.first l.self-inside.later.now l.taken.items c.push_some-2.new.pieces.items c.args.self.now c.loop-self-test.false c.in_ok-push_some-2.ensures
    l.invariant.first l.invariant.after l.invariant.sum
