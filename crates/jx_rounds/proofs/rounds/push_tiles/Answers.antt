use Rattle.std.proofs.Common.{arith, ◌≤◌, ◌+◌, ◌-◌, List, drop, refl, take}
use Rattle.jx_rounds.specs.Sent.{sent_from}
use Rattle.jx_rounds.proofs.ExtentLemmas.{end_whole, entries_at, entries_whole, made_next, made_none, tile_at}
use Rattle.jx_rounds.proofs.FrontLemmas.{lead_none, unmade_of}
use Rattle.jx_rounds.proofs.rounds.push_tiles.Goals as goal

pub loop-at-init : goal.loop-at-init
loop-at-init c = record { lead = rw c.requires.empty (lead_none c.args.making.now c.args.tile); count = rw c.requires.empty (omega arith); from = omega arith; low = omega arith; made = made_none c.args.entries.now }

pub overflow_add-to : goal.overflow_add-to
overflow_add-to c =
    let own = tile_at c.args.making.now c.args.tile c.loop-at.at c.args.extent.now.blocks c.index-count.result.now c.loop-at.from c.args.extent.now.counts.items c.requires.extent.of c.loop-at.auto.at
    (omega (arith, c.loop-at-test.true, c.requires.tile)) c.index-count.ensures c.loop-at.invariant.from in
    let within : c.loop-at.from + c.index-count.result.now ≤ c.args.extent.now.blocks = own.within in
    omega (arith, within, c.requires.few)

pub push_packed-requires-clause-entries : goal.push_packed-requires-clause-entries
push_packed-requires-clause-entries c =
    let own = tile_at c.args.making.now c.args.tile c.loop-at.at c.args.extent.now.blocks c.index-count.result.now c.loop-at.from c.args.extent.now.counts.items c.requires.extent.of c.loop-at.auto.at
    (omega (arith, c.loop-at-test.true, c.requires.tile)) c.index-count.ensures c.loop-at.invariant.from in
    entries_at c.args.making.now c.args.tile c.loop-at.at c.args.extent.now.blocks c.index-count.result.now c.loop-at.from c.min-end.result c.args.entries.now _ own c.requires.entries c.loop-at.invariant.from
    c.loop-at.invariant.low c.loop-at.invariant.made c.min-end.ensures refl

pub returns-in-Err-clause-unmade : goal.returns-in-Err-clause-unmade
returns-in-Err-clause-unmade c =
    let own = tile_at c.args.making.now c.args.tile c.loop-at.at c.args.extent.now.blocks c.index-count.result.now c.loop-at.from c.args.extent.now.counts.items c.requires.extent.of c.loop-at.auto.at
    (omega (arith, c.loop-at-test.true, c.requires.tile)) c.index-count.ensures c.loop-at.invariant.from in
    unmade_of c.args.making.now c.args.tile c.loop-at.at (sent_from c.args.tile c.loop-at.tiles.items) c.in-Err.halt own.inside own.round c.loop-at.invariant.lead c.in-Err.ensures.unmade

pub loop-at-preserved : goal.loop-at-preserved
loop-at-preserved c =
    let own = tile_at c.args.making.now c.args.tile c.loop-at.at c.args.extent.now.blocks c.index-count.result.now c.loop-at.from c.args.extent.now.counts.items c.requires.extent.of c.loop-at.auto.at
    (omega (arith, c.loop-at-test.true, c.requires.tile)) c.index-count.ensures c.loop-at.invariant.from in
    let part : List _ = take (c.min-end.result - c.loop-at.from) (drop c.loop-at.from c.args.entries.now) in
    let end = end_whole c.args.making.now c.args.tile c.loop-at.at c.args.extent.now.blocks c.index-count.result.now c.loop-at.from c.min-end.result c.args.entries.now part own c.loop-at.invariant.low c.min-end.ensures
    refl c.in-Ok.ensures.whole.0 in
    record {
      lead = c.in-Ok.ensures.lead c.args.tile c.loop-at.invariant.count c.loop-at.invariant.lead;
      count = omega (arith, c.loop-at.invariant.count, c.in-Ok.ensures.count);
      from = own.next;
      low = end.2;
      made = made_next c.loop-at.from c.min-end.result (c.loop-at.from + c.index-count.result.now) c.args.entries.now part end.0 end.1 c.loop-at.invariant.made c.in-Ok.ensures.whole.1 refl;
    }

pub returns-clause-whole : goal.returns-clause-whole
returns-clause-whole c =
    entries_whole c.args.making.now c.args.tile c.loop-at.at c.args.extent.now.tile c.args.extent.now.blocks c.loop-at.from c.args.extent.now.counts.items c.args.entries.now c.requires.extent.of c.requires.entries
    c.requires.tile (omega (arith, c.loop-at-test.false, c.loop-at.auto.at)) c.loop-at.invariant.from c.loop-at.invariant.low
