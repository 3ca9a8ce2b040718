use Rattle.std.proofs.Common.{◌≡◌, ◌≤◌, ◌<◌, ◌/◌, ◌∙◌, ℕ, refl, sym, ap, arith}
use Rattle.jx_store.specs.Setup.{end_of}
use Rattle.jx_ring.proofs.Asking.{look, more_then, free, drains_none, room, all_claimed, claimed, claimed_out, full, later}
use Rattle.jx_ring.proofs.ring.RingStore.claim_for.Goals as goal

strict : (n end all : ℕ) → n ≤ all → end ≡ all → (n ≡ end → ⊥) → n < all
strict n end all le e differs = omega (arith, le, e, differs)

pub is_full-requires : goal.is_full-requires
is_full-requires g c =
    let i = c.loop.invariant in let l = c.load_drain.ensures.1 in let n = c.load_next-next.ensures.1 in
    let x = look g.N.Bounds.setup c.args.seat.now.me c.loop.seat.me c.load_drain.new.seat.me c.load_next-next.new.seat.me (c.load_drain.result / 2) c.load_next-next.result i.more i.holds i.out l.0 l.1 l.2 n.0 n.1 n.2 n.3 in
    let high = x.high in let e = c.end-end.ensures.is ∙ ap end_of (c.sums.ensures.0 ∙ c.sums.ensures.1) in let below : c.load_next-next.result < end_of g.N.Bounds.setup = strict _ _ _ high e c.if-next-end.false in
    (x.low, x.order, below)

pub try_claim-requires-clause-table : goal.try_claim-requires-clause-table
try_claim-requires-clause-table g c =
    c.load_next-next.ensures.0.0 ∙ c.load_drain.ensures.0.0 ∙ c.loop.invariant.seat.0 ∙ c.requires.table

pub try_claim-requires-clause-free : goal.try_claim-requires-clause-free
try_claim-requires-clause-free g c =
    let i = c.loop.invariant in let l = c.load_drain.ensures.1 in let n = c.load_next-next.ensures.1 in
    let x = look g.N.Bounds.setup c.args.seat.now.me c.loop.seat.me c.load_drain.new.seat.me c.load_next-next.new.seat.me (c.load_drain.result / 2) c.load_next-next.result i.more i.holds i.out l.0 l.1 l.2 n.0 n.1 n.2 n.3 in
    free g.N.Bounds.setup c.args.seat.now.me c.load_next-next.new.seat.me (c.load_drain.result / 2) c.load_next-next.result x c.requires.free.0

pub try_claim-requires-clause-room : goal.try_claim-requires-clause-room
try_claim-requires-clause-room g c =
    let i = c.loop.invariant in let l = c.load_drain.ensures.1 in let n = c.load_next-next.ensures.1 in
    let x = look g.N.Bounds.setup c.args.seat.now.me c.loop.seat.me c.load_drain.new.seat.me c.load_next-next.new.seat.me (c.load_drain.result / 2) c.load_next-next.result i.more i.holds i.out l.0 l.1 l.2 n.0 n.1 n.2 n.3 in
    let high = x.high in let e = c.end-end.ensures.is ∙ ap end_of (c.sums.ensures.0 ∙ c.sums.ensures.1) in let below : c.load_next-next.result < end_of g.N.Bounds.setup = strict _ _ _ high e c.if-next-end.false in
    room g.N.Bounds.setup c.args.seat.now.me c.load_next-next.new.seat.me (c.load_drain.result / 2) c.load_next-next.result x (c.if-not-is_full.ensures.room refl) below

pub drain_one-requires-clause-table : goal.drain_one-requires-clause-table
drain_one-requires-clause-table g c =
    let i = c.loop.invariant in let l = c.load_drain.ensures.1 in let n = c.load_next-next.ensures.1 in
    let x = look g.N.Bounds.setup c.args.seat.now.me c.loop.seat.me c.load_drain.new.seat.me c.load_next-next.new.seat.me (c.load_drain.result / 2) c.load_next-next.result i.more i.holds i.out l.0 l.1 l.2 n.0 n.1 n.2 n.3 in
    (c.load_next-next.ensures.0.0 ∙ c.load_drain.ensures.0.0 ∙ c.loop.invariant.seat.0 ∙ c.requires.table, sym x.drained)

pub drain_one-requires-clause-free : goal.drain_one-requires-clause-free
drain_one-requires-clause-free g c =
    let i = c.loop.invariant in let l = c.load_drain.ensures.1 in let n = c.load_next-next.ensures.1 in
    let x = look g.N.Bounds.setup c.args.seat.now.me c.loop.seat.me c.load_drain.new.seat.me c.load_next-next.new.seat.me (c.load_drain.result / 2) c.load_next-next.result i.more i.holds i.out l.0 l.1 l.2 n.0 n.1 n.2 n.3 in
    drains_none g.N.Bounds.setup c.args.seat.now.me c.load_next-next.new.seat.me (c.load_drain.result / 2) c.load_next-next.result x c.requires.free.0 c.requires.free.2

pub loop-preserved-else-try_claim-next : goal.loop-preserved-else-try_claim-next
loop-preserved-else-try_claim-next g c =
    let i = c.loop.invariant in let l = c.load_drain.ensures.1 in let n = c.load_next-next.ensures.1 in
    let x = look g.N.Bounds.setup c.args.seat.now.me c.loop.seat.me c.load_drain.new.seat.me c.load_next-next.new.seat.me (c.load_drain.result / 2) c.load_next-next.result i.more i.holds i.out l.0 l.1 l.2 n.0 n.1 n.2 n.3 in
    let same = c.try_claim.ensures.1.1 c.if-try_claim-next.false in
    record {
      runs = c.loop.invariant.runs;
      seat = (let s = c.loop.invariant.seat in let l = c.load_drain.ensures.0 in let n = c.load_next-next.ensures.0 in let t = c.try_claim.ensures.0 in (t.0 ∙ n.0 ∙ l.0 ∙ s.0, t.1 ∙ n.1 ∙ l.1 ∙ s.1));
      more = rw same x.more;
      holds = rw same x.holds;
      out = rw same x.out;
      low = rw same (rw x.drained x.low);
    }

pub loop-preserved-then-not-drain_one : goal.loop-preserved-then-not-drain_one
loop-preserved-then-not-drain_one g c =
    let i = c.loop.invariant in let l = c.load_drain.ensures.1 in let n = c.load_next-next.ensures.1 in
    let x = look g.N.Bounds.setup c.args.seat.now.me c.loop.seat.me c.load_drain.new.seat.me c.load_next-next.new.seat.me (c.load_drain.result / 2) c.load_next-next.result i.more i.holds i.out l.0 l.1 l.2 n.0 n.1 n.2 n.3 in
    let b = c.drain_one.ensures.more in
    record {
      runs = c.loop.invariant.runs;
      seat = (let s = c.loop.invariant.seat in let l = c.load_drain.ensures.0 in let n = c.load_next-next.ensures.0 in let t = c.drain_one.ensures.seat.0 in (t.0 ∙ n.0 ∙ l.0 ∙ s.0, t.1 ∙ n.1 ∙ l.1 ∙ s.1));
      more = more_then _ _ _ x.more b.0;
      holds = b.1 ∙ x.holds;
      out = c.drain_one.ensures.seat.1;
      low = later g.N.Bounds.setup c.args.seat.now.me c.load_next-next.new.seat.me (c.load_drain.result / 2) c.load_next-next.result x _ b.0;
    }

pub loop-preserved : goal.loop-preserved
loop-preserved g c =
    let i = c.loop.invariant in let l = c.load_drain.ensures.1 in let n = c.load_next-next.ensures.1 in
    let x = look g.N.Bounds.setup c.args.seat.now.me c.loop.seat.me c.load_drain.new.seat.me c.load_next-next.new.seat.me (c.load_drain.result / 2) c.load_next-next.result i.more i.holds i.out l.0 l.1 l.2 n.0 n.1 n.2 n.3 in
    let b = c.drain_one.ensures.more in
    record {
      runs = c.loop.invariant.runs;
      seat = (let s = c.loop.invariant.seat in let l = c.load_drain.ensures.0 in let n = c.load_next-next.ensures.0 in let t = c.drain_one.ensures.seat.0 in (t.0 ∙ n.0 ∙ l.0 ∙ s.0, t.1 ∙ n.1 ∙ l.1 ∙ s.1));
      more = more_then _ _ _ x.more b.0;
      holds = b.1 ∙ x.holds;
      out = c.drain_one.ensures.seat.1;
      low = later g.N.Bounds.setup c.args.seat.now.me c.load_next-next.new.seat.me (c.load_drain.result / 2) c.load_next-next.result x _ b.0;
    }

pub returns-then-next-end-clause-seat : goal.returns-then-next-end-clause-seat
returns-then-next-end-clause-seat g c =
    let i = c.loop.invariant in let l = c.load_drain.ensures.1 in let n = c.load_next-next.ensures.1 in
    let x = look g.N.Bounds.setup c.args.seat.now.me c.loop.seat.me c.load_drain.new.seat.me c.load_next-next.new.seat.me (c.load_drain.result / 2) c.load_next-next.result i.more i.holds i.out l.0 l.1 l.2 n.0 n.1 n.2 n.3 in
    ((let s = c.loop.invariant.seat in let l = c.load_drain.ensures.0 in let n = c.load_next-next.ensures.0 in (n.0 ∙ l.0 ∙ s.0, n.1 ∙ l.1 ∙ s.1)), x.out)

pub returns-then-next-end-clause-told : goal.returns-then-next-end-clause-told
returns-then-next-end-clause-told g c =
    let i = c.loop.invariant in let l = c.load_drain.ensures.1 in let n = c.load_next-next.ensures.1 in
    let x = look g.N.Bounds.setup c.args.seat.now.me c.loop.seat.me c.load_drain.new.seat.me c.load_next-next.new.seat.me (c.load_drain.result / 2) c.load_next-next.result i.more i.holds i.out l.0 l.1 l.2 n.0 n.1 n.2 n.3 in
    all_claimed g.N.Bounds.setup c.args.seat.now.me c.load_next-next.new.seat.me (c.load_drain.result / 2) c.load_next-next.result x (c.if-next-end.true ∙ c.end-end.ensures.is ∙ ap end_of (c.sums.ensures.0 ∙ c.sums.ensures.1))

pub returns-then-rested-clause-seat : goal.returns-then-rested-clause-seat
returns-then-rested-clause-seat g c =
    ((let s = c.loop.invariant.seat in let l = c.load_drain.ensures.0 in let n = c.load_next-next.ensures.0 in let t = c.drain_one.ensures.seat.0 in (t.0 ∙ n.0 ∙ l.0 ∙ s.0, t.1 ∙ n.1 ∙ l.1 ∙ s.1)), c.drain_one.ensures.seat.1)

pub returns-then-rested-clause-told : goal.returns-then-rested-clause-told
returns-then-rested-clause-told g c =
    let i = c.loop.invariant in let l = c.load_drain.ensures.1 in let n = c.load_next-next.ensures.1 in
    let x = look g.N.Bounds.setup c.args.seat.now.me c.loop.seat.me c.load_drain.new.seat.me c.load_next-next.new.seat.me (c.load_drain.result / 2) c.load_next-next.result i.more i.holds i.out l.0 l.1 l.2 n.0 n.1 n.2 n.3 in
    let high = x.high in let e = c.end-end.ensures.is ∙ ap end_of (c.sums.ensures.0 ∙ c.sums.ensures.1) in let below : c.load_next-next.result < end_of g.N.Bounds.setup = strict _ _ _ high e c.if-next-end.false in
    let b = c.drain_one.ensures.more in
    full g.N.Bounds.setup c.args.seat.now.me c.load_next-next.new.seat.me (c.load_drain.result / 2) c.load_next-next.result x _ b.0 b.1 b.2 (c.if-not-drain_one.ensures.none refl) (c.if-not-is_full.ensures.full refl) below

pub returns-then-try_claim-next-clause-seat : goal.returns-then-try_claim-next-clause-seat
returns-then-try_claim-next-clause-seat g c =
    let i = c.loop.invariant in let l = c.load_drain.ensures.1 in let n = c.load_next-next.ensures.1 in
    let x = look g.N.Bounds.setup c.args.seat.now.me c.loop.seat.me c.load_drain.new.seat.me c.load_next-next.new.seat.me (c.load_drain.result / 2) c.load_next-next.result i.more i.holds i.out l.0 l.1 l.2 n.0 n.1 n.2 n.3 in
    ((let s = c.loop.invariant.seat in let l = c.load_drain.ensures.0 in let n = c.load_next-next.ensures.0 in let t = c.try_claim.ensures.0 in (t.0 ∙ n.0 ∙ l.0 ∙ s.0, t.1 ∙ n.1 ∙ l.1 ∙ s.1)), claimed_out g.N.Bounds.setup c.args.seat.now.me c.load_next-next.new.seat.me (c.load_drain.result / 2) c.load_next-next.result x _ c.issue.result c.issue.ensures (c.try_claim.ensures.1.0 c.if-try_claim-next.true))

pub returns-then-try_claim-next-clause-told : goal.returns-then-try_claim-next-clause-told
returns-then-try_claim-next-clause-told g c =
    let i = c.loop.invariant in let l = c.load_drain.ensures.1 in let n = c.load_next-next.ensures.1 in
    let x = look g.N.Bounds.setup c.args.seat.now.me c.loop.seat.me c.load_drain.new.seat.me c.load_next-next.new.seat.me (c.load_drain.result / 2) c.load_next-next.result i.more i.holds i.out l.0 l.1 l.2 n.0 n.1 n.2 n.3 in
    let high = x.high in let e = c.end-end.ensures.is ∙ ap end_of (c.sums.ensures.0 ∙ c.sums.ensures.1) in let below : c.load_next-next.result < end_of g.N.Bounds.setup = strict _ _ _ high e c.if-next-end.false in
    claimed g.N.Bounds.setup c.args.seat.now.me c.load_next-next.new.seat.me (c.load_drain.result / 2) c.load_next-next.result x _ c.issue.result c.issue.ensures (c.try_claim.ensures.1.0 c.if-try_claim-next.true) (c.if-not-is_full.ensures.room refl) below
