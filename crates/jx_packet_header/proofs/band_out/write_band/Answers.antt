use Rattle.std.proofs.Common.{◌≡◌, ◌<◌, ◌+◌, ◌-◌, ◌*◌, ◌∙◌, ℕ, min, List, map, length, get_or, set, take, drop, sym, ap, subst, arith}
use Rattle.std.proofs.lemmas.List.{length-map}
use Rattle.jx_packet_header.specs.declared.LeafPart.{LeafPart}
use Rattle.jx_packet_header.specs.Written.{Leafed, Writes}
use Rattle.jx_packet_header.specs.Leafs.{leaf_of}
use Rattle.jx_packet_header.specs.Writable.{IsCursor, IsRising, leaf_at}
use Rattle.jx_packet_header.proofs.CursorLemmas.{rising_at, run_same}
use Rattle.jx_packet_header.proofs.FirstLemmas.{first_long}
use Rattle.jx_packet_header.proofs.QuietLemmas.{row_at, row_begin, row_on, row_next, row_fewer, rows_fewer, rows_end, still_run, quiet_under}
use Rattle.jx_packet_header.proofs.WriteLemmas.{leaf_is, loop_end, loop_run, loop_values, run_calls, run_of}
use Rattle.jx_packet_header.proofs.band_out.write_band.Goals as goal

pub next_run-start-requires-clause-inside : goal.next_run-start-requires-clause-inside
next_run-start-requires-clause-inside c =
    let leaf : ℕ = c.loop-down.down * c.wide-wide.result + c.loop-down.across in
    let inside' : leaf < length (map leaf_of c.args.leaves.now) = row_at c.args.layer c.loop-down.down c.loop-down.across c.loop-down.next c.wide-wide.result c.high-high.result (map leaf_of c.args.leaves.now) c.args.band.now c.loop-down.band c.args.bits.now c.loop-down.bits
    c.loop-down.invariant c.loop-down-test.true in
    let inside : leaf < length c.args.leaves.now = omega (arith, inside', length-map c.args.leaves.now leaf_of) in
    let all : length (map leaf_of c.args.leaves.now) ≡ length c.loop-down.band.blocks = c.loop-down.invariant.loop.partly.are.all in
    let long : length c.loop-down.band.cursors ≡ length c.loop-down.band.blocks = c.loop-down.invariant.loop.partly.are.cursors in
    omega arith

pub next_run-start-requires-clause-cursor : goal.next_run-start-requires-clause-cursor
next_run-start-requires-clause-cursor c =
    let leaf : ℕ = c.loop-down.down * c.wide-wide.result + c.loop-down.across in
    let inside' : leaf < length (map leaf_of c.args.leaves.now) = row_at c.args.layer c.loop-down.down c.loop-down.across c.loop-down.next c.wide-wide.result c.high-high.result (map leaf_of c.args.leaves.now) c.args.band.now c.loop-down.band c.args.bits.now c.loop-down.bits
    c.loop-down.invariant c.loop-down-test.true in
    let inside : leaf < length c.args.leaves.now = omega (arith, inside', length-map c.args.leaves.now leaf_of) in
    let is : leaf_at (map leaf_of c.args.leaves.now) leaf ≡ leaf_of c.index-leaves-leaf.result = leaf_is c.args.leaves.now leaf c.index-leaves-leaf.result inside c.index-leaves-leaf.is in
    subst (λ (l : List LeafPart). IsCursor c.args.layer (get_or c.loop-down.band.cursors leaf 0) l) (ap (λ (x : Leafed). x.parts) is ∙ sym c.deref.ensures.value)
    (c.loop-down.invariant.loop.partly.due leaf (omega arith)).cursor_is

pub next_run-start-requires-clause-rising : goal.next_run-start-requires-clause-rising
next_run-start-requires-clause-rising c =
    let leaf : ℕ = c.loop-down.down * c.wide-wide.result + c.loop-down.across in
    let inside' : leaf < length (map leaf_of c.args.leaves.now) = row_at c.args.layer c.loop-down.down c.loop-down.across c.loop-down.next c.wide-wide.result c.high-high.result (map leaf_of c.args.leaves.now) c.args.band.now c.loop-down.band c.args.bits.now c.loop-down.bits
    c.loop-down.invariant c.loop-down-test.true in
    let inside : leaf < length c.args.leaves.now = omega (arith, inside', length-map c.args.leaves.now leaf_of) in
    let is : leaf_at (map leaf_of c.args.leaves.now) leaf ≡ leaf_of c.index-leaves-leaf.result = leaf_is c.args.leaves.now leaf c.index-leaves-leaf.result inside c.index-leaves-leaf.is in
    λ r. subst (λ (l : List LeafPart). IsRising 0 l) (ap (λ (x : Leafed). x.parts) is ∙ sym c.deref.ensures.value) (rising_at leaf (map leaf_of c.args.leaves.now) (c.requires.rising r))

pub write_block-requires-clause-zero : goal.write_block-requires-clause-zero
write_block-requires-clause-zero c =
    let leaf : ℕ = c.loop-down.down * c.wide-wide.result + c.loop-down.across in
    let inside' : leaf < length (map leaf_of c.args.leaves.now) = row_at c.args.layer c.loop-down.down c.loop-down.across c.loop-down.next c.wide-wide.result c.high-high.result (map leaf_of c.args.leaves.now) c.args.band.now c.loop-down.band c.args.bits.now c.loop-down.bits
    c.loop-down.invariant c.loop-down-test.true in
    let inside : leaf < length c.args.leaves.now = omega (arith, inside', length-map c.args.leaves.now leaf_of) in
    (run_calls c.args.layer leaf (map leaf_of c.args.leaves.now) c.loop-down.band c.next_run-start.new.band (leaf_of c.index-leaves-leaf.result) (take (c.next_run-start.result.1 - c.next_run-start.result.0) (drop c.next_run-start.result.0 c.deref-in-loop-down.result.now))
    (set c.loop-down.band.cursors leaf c.next_run-start.ensures.moved.0) c.loop-down.invariant.loop.partly inside'
    (leaf_is c.args.leaves.now leaf c.index-leaves-leaf.result inside c.index-leaves-leaf.is) c.next_run-start.ensures.moved.2
    (run_same c.args.layer c.next_run-start.result.0 (c.next_run-start.result.1 - c.next_run-start.result.0) c.deref.result.now c.deref-in-loop-down.result.now c.index-leaves-leaf.result.parts.items
    c.deref.ensures.value c.deref-in-loop-down.ensures.value c.next_run-start.ensures.run)).zero

pub write_block-requires-clause-few : goal.write_block-requires-clause-few
write_block-requires-clause-few c =
    let leaf : ℕ = c.loop-down.down * c.wide-wide.result + c.loop-down.across in
    let inside' : leaf < length (map leaf_of c.args.leaves.now) = row_at c.args.layer c.loop-down.down c.loop-down.across c.loop-down.next c.wide-wide.result c.high-high.result (map leaf_of c.args.leaves.now) c.args.band.now c.loop-down.band c.args.bits.now c.loop-down.bits
    c.loop-down.invariant c.loop-down-test.true in
    let inside : leaf < length c.args.leaves.now = omega (arith, inside', length-map c.args.leaves.now leaf_of) in
    (run_calls c.args.layer leaf (map leaf_of c.args.leaves.now) c.loop-down.band c.next_run-start.new.band (leaf_of c.index-leaves-leaf.result) (take (c.next_run-start.result.1 - c.next_run-start.result.0) (drop c.next_run-start.result.0 c.deref-in-loop-down.result.now))
    (set c.loop-down.band.cursors leaf c.next_run-start.ensures.moved.0) c.loop-down.invariant.loop.partly inside'
    (leaf_is c.args.leaves.now leaf c.index-leaves-leaf.result inside c.index-leaves-leaf.is) c.next_run-start.ensures.moved.2
    (run_same c.args.layer c.next_run-start.result.0 (c.next_run-start.result.1 - c.next_run-start.result.0) c.deref.result.now c.deref-in-loop-down.result.now c.index-leaves-leaf.result.parts.items
    c.deref.ensures.value c.deref-in-loop-down.ensures.value c.next_run-start.ensures.run)).few

pub silent_place-place-requires-clause-inside : goal.silent_place-place-requires-clause-inside
silent_place-place-requires-clause-inside c =
    let leaf : ℕ = c.loop-down.down * c.wide-wide.result + c.loop-down.across in
    let inside' : leaf < length (map leaf_of c.args.leaves.now) = row_at c.args.layer c.loop-down.down c.loop-down.across c.loop-down.next c.wide-wide.result c.high-high.result (map leaf_of c.args.leaves.now) c.args.band.now c.loop-down.band c.args.bits.now c.loop-down.bits
    c.loop-down.invariant c.loop-down-test.true in
    let inside : leaf < length c.args.leaves.now = omega (arith, inside', length-map c.args.leaves.now leaf_of) in
    let leaves = map leaf_of c.args.leaves.now in
    let parts = take (c.next_run-start.result.1 - c.next_run-start.result.0) (drop c.next_run-start.result.0 c.deref-in-loop-down.result.now) in
    let loop = loop_run c.args.layer leaf c.next_run-start.ensures.moved.0 leaves c.args.band.now c.loop-down.band c.next_run-start.new.band c.write_block.new.band
    c.args.bits.now c.loop-down.bits c.write_block.new.bits (leaf_of c.index-leaves-leaf.result) parts c.loop-down.invariant.loop inside'
    (leaf_is c.args.leaves.now leaf c.index-leaves-leaf.result inside c.index-leaves-leaf.is) c.next_run-start.ensures.moved.2
    (subst (λ (l : List LeafPart). IsCursor (c.args.layer + 1) c.next_run-start.ensures.moved.0 l) c.deref.ensures.value c.next_run-start.ensures.moved.1)
    (run_same c.args.layer c.next_run-start.result.0 (c.next_run-start.result.1 - c.next_run-start.result.0) c.deref.result.now c.deref-in-loop-down.result.now c.index-leaves-leaf.result.parts.items
    c.deref.ensures.value c.deref-in-loop-down.ensures.value c.next_run-start.ensures.run)
    c.in_ok-write_block.ensures.bits c.in_ok-write_block.ensures.after c.in_ok-write_block.ensures.first c.in_ok-write_block.ensures.zeros c.in_ok-write_block.ensures.cursors in
    let all : length leaves ≡ length c.write_block.new.band.blocks = loop.partly.are.all in
    omega arith

pub silent_place-place-requires-clause-leaf : goal.silent_place-place-requires-clause-leaf
silent_place-place-requires-clause-leaf c =
    let leaf : ℕ = c.loop-down.down * c.wide-wide.result + c.loop-down.across in
    let inside' : leaf < length (map leaf_of c.args.leaves.now) = row_at c.args.layer c.loop-down.down c.loop-down.across c.loop-down.next c.wide-wide.result c.high-high.result (map leaf_of c.args.leaves.now) c.args.band.now c.loop-down.band c.args.bits.now c.loop-down.bits
    c.loop-down.invariant c.loop-down-test.true in
    let inside : leaf < length c.args.leaves.now = omega (arith, inside', length-map c.args.leaves.now leaf_of) in
    let leaves = map leaf_of c.args.leaves.now in
    let parts = take (c.next_run-start.result.1 - c.next_run-start.result.0) (drop c.next_run-start.result.0 c.deref-in-loop-down.result.now) in
    let loop = loop_run c.args.layer leaf c.next_run-start.ensures.moved.0 leaves c.args.band.now c.loop-down.band c.next_run-start.new.band c.write_block.new.band
    c.args.bits.now c.loop-down.bits c.write_block.new.bits (leaf_of c.index-leaves-leaf.result) parts c.loop-down.invariant.loop inside'
    (leaf_is c.args.leaves.now leaf c.index-leaves-leaf.result inside c.index-leaves-leaf.is) c.next_run-start.ensures.moved.2
    (subst (λ (l : List LeafPart). IsCursor (c.args.layer + 1) c.next_run-start.ensures.moved.0 l) c.deref.ensures.value c.next_run-start.ensures.moved.1)
    (run_same c.args.layer c.next_run-start.result.0 (c.next_run-start.result.1 - c.next_run-start.result.0) c.deref.result.now c.deref-in-loop-down.result.now c.index-leaves-leaf.result.parts.items
    c.deref.ensures.value c.deref-in-loop-down.ensures.value c.next_run-start.ensures.run)
    c.in_ok-write_block.ensures.bits c.in_ok-write_block.ensures.after c.in_ok-write_block.ensures.first c.in_ok-write_block.ensures.zeros c.in_ok-write_block.ensures.cursors in
    subst (λ (n : ℕ). leaf < n) (loop.partly.are.all ∙ first_long leaves c.write_block.new.band loop.partly.are) inside'

pub loop-down-preserved-then-across-wide : goal.loop-down-preserved-then-across-wide
loop-down-preserved-then-across-wide c =
    let leaf : ℕ = c.loop-down.down * c.wide-wide.result + c.loop-down.across in
    let inside' : leaf < length (map leaf_of c.args.leaves.now) = row_at c.args.layer c.loop-down.down c.loop-down.across c.loop-down.next c.wide-wide.result c.high-high.result (map leaf_of c.args.leaves.now) c.args.band.now c.loop-down.band c.args.bits.now c.loop-down.bits
    c.loop-down.invariant c.loop-down-test.true in
    let inside : leaf < length c.args.leaves.now = omega (arith, inside', length-map c.args.leaves.now leaf_of) in
    let leaves = map leaf_of c.args.leaves.now in
    let parts = take (c.next_run-start.result.1 - c.next_run-start.result.0) (drop c.next_run-start.result.0 c.deref-in-loop-down.result.now) in
    let loop = loop_run c.args.layer leaf c.next_run-start.ensures.moved.0 leaves c.args.band.now c.loop-down.band c.next_run-start.new.band c.write_block.new.band
    c.args.bits.now c.loop-down.bits c.write_block.new.bits (leaf_of c.index-leaves-leaf.result) parts c.loop-down.invariant.loop inside'
    (leaf_is c.args.leaves.now leaf c.index-leaves-leaf.result inside c.index-leaves-leaf.is) c.next_run-start.ensures.moved.2
    (subst (λ (l : List LeafPart). IsCursor (c.args.layer + 1) c.next_run-start.ensures.moved.0 l) c.deref.ensures.value c.next_run-start.ensures.moved.1)
    (run_same c.args.layer c.next_run-start.result.0 (c.next_run-start.result.1 - c.next_run-start.result.0) c.deref.result.now c.deref-in-loop-down.result.now c.index-leaves-leaf.result.parts.items
    c.deref.ensures.value c.deref-in-loop-down.ensures.value c.next_run-start.ensures.run)
    c.in_ok-write_block.ensures.bits c.in_ok-write_block.ensures.after c.in_ok-write_block.ensures.first c.in_ok-write_block.ensures.zeros c.in_ok-write_block.ensures.cursors in
    let still = still_run c.args.layer leaf leaves c.loop-down.band c.next_run-start.new.band c.write_block.new.band (set c.loop-down.band.cursors leaf c.next_run-start.ensures.moved.0) (run_of c.index-leaves-leaf.result.zero parts)
    c.next_run-start.ensures.moved.2 c.in_ok-write_block.ensures.after in
    let facts = quiet_under c.args.layer (leaf + 1) leaf c.silent_place-place.result c.wide-wide.result leaves c.args.band.now c.write_block.new.band c.args.bits.now c.write_block.new.bits c.args.rising
    loop c.loop-down.invariant.wide_is c.requires.rising c.silent_place-place.ensures.past in
    let below_is = c.min-next.ensures ∙ ap (λ (n : ℕ). min c.loop-down.next n) c.end_under.ensures in
    row_next c.args.layer c.loop-down.down c.loop-down.across c.loop-down.next c.wide-wide.result c.high-high.result leaves c.args.band.now c.loop-down.band c.args.bits.now c.loop-down.bits
    c.loop-down.invariant c.loop-down-test.true c.write_block.new.band c.write_block.new.bits loop still c.silent_place-place.result facts c.end_under-across.result c.min-next.result c.end_under-across.ensures below_is c.if-across-wide.true

pub loop-down-preserved : goal.loop-down-preserved
loop-down-preserved c =
    let leaf : ℕ = c.loop-down.down * c.wide-wide.result + c.loop-down.across in
    let inside' : leaf < length (map leaf_of c.args.leaves.now) = row_at c.args.layer c.loop-down.down c.loop-down.across c.loop-down.next c.wide-wide.result c.high-high.result (map leaf_of c.args.leaves.now) c.args.band.now c.loop-down.band c.args.bits.now c.loop-down.bits
    c.loop-down.invariant c.loop-down-test.true in
    let inside : leaf < length c.args.leaves.now = omega (arith, inside', length-map c.args.leaves.now leaf_of) in
    let leaves = map leaf_of c.args.leaves.now in
    let parts = take (c.next_run-start.result.1 - c.next_run-start.result.0) (drop c.next_run-start.result.0 c.deref-in-loop-down.result.now) in
    let loop = loop_run c.args.layer leaf c.next_run-start.ensures.moved.0 leaves c.args.band.now c.loop-down.band c.next_run-start.new.band c.write_block.new.band
    c.args.bits.now c.loop-down.bits c.write_block.new.bits (leaf_of c.index-leaves-leaf.result) parts c.loop-down.invariant.loop inside'
    (leaf_is c.args.leaves.now leaf c.index-leaves-leaf.result inside c.index-leaves-leaf.is) c.next_run-start.ensures.moved.2
    (subst (λ (l : List LeafPart). IsCursor (c.args.layer + 1) c.next_run-start.ensures.moved.0 l) c.deref.ensures.value c.next_run-start.ensures.moved.1)
    (run_same c.args.layer c.next_run-start.result.0 (c.next_run-start.result.1 - c.next_run-start.result.0) c.deref.result.now c.deref-in-loop-down.result.now c.index-leaves-leaf.result.parts.items
    c.deref.ensures.value c.deref-in-loop-down.ensures.value c.next_run-start.ensures.run)
    c.in_ok-write_block.ensures.bits c.in_ok-write_block.ensures.after c.in_ok-write_block.ensures.first c.in_ok-write_block.ensures.zeros c.in_ok-write_block.ensures.cursors in
    let still = still_run c.args.layer leaf leaves c.loop-down.band c.next_run-start.new.band c.write_block.new.band (set c.loop-down.band.cursors leaf c.next_run-start.ensures.moved.0) (run_of c.index-leaves-leaf.result.zero parts)
    c.next_run-start.ensures.moved.2 c.in_ok-write_block.ensures.after in
    let facts = quiet_under c.args.layer (leaf + 1) leaf c.silent_place-place.result c.wide-wide.result leaves c.args.band.now c.write_block.new.band c.args.bits.now c.write_block.new.bits c.args.rising
    loop c.loop-down.invariant.wide_is c.requires.rising c.silent_place-place.ensures.past in
    let below_is = c.min-next.ensures ∙ ap (λ (n : ℕ). min c.loop-down.next n) c.end_under.ensures in
    row_on c.args.layer c.loop-down.down c.loop-down.across c.loop-down.next c.wide-wide.result c.high-high.result leaves c.args.band.now c.loop-down.band c.args.bits.now c.loop-down.bits
    c.loop-down.invariant c.loop-down-test.true c.write_block.new.band c.write_block.new.bits loop still c.silent_place-place.result facts c.end_under-across.result c.min-next.result c.end_under-across.ensures below_is c.if-across-wide.false

pub returns-clause-bits : goal.returns-clause-bits
returns-clause-bits c = (loop_end c.args.layer (c.loop-down.down * c.wide-wide.result + c.loop-down.across) (map leaf_of c.args.leaves.now) c.args.band.now c.loop-down.band c.args.bits.now c.loop-down.bits
    (rows_end c.args.layer c.loop-down.down c.loop-down.across c.loop-down.next c.wide-wide.result c.high-high.result (map leaf_of c.args.leaves.now) c.args.band.now c.loop-down.band c.args.bits.now c.loop-down.bits
    c.loop-down.invariant c.loop-down-test.false) c.loop-down.invariant.loop).bits_are

pub returns-clause-after : goal.returns-clause-after
returns-clause-after c = (loop_end c.args.layer (c.loop-down.down * c.wide-wide.result + c.loop-down.across) (map leaf_of c.args.leaves.now) c.args.band.now c.loop-down.band c.args.bits.now c.loop-down.bits
    (rows_end c.args.layer c.loop-down.down c.loop-down.across c.loop-down.next c.wide-wide.result c.high-high.result (map leaf_of c.args.leaves.now) c.args.band.now c.loop-down.band c.args.bits.now c.loop-down.bits
    c.loop-down.invariant c.loop-down-test.false) c.loop-down.invariant.loop).after_is

pub returns-clause-due : goal.returns-clause-due
returns-clause-due c = (loop_end c.args.layer (c.loop-down.down * c.wide-wide.result + c.loop-down.across) (map leaf_of c.args.leaves.now) c.args.band.now c.loop-down.band c.args.bits.now c.loop-down.bits
    (rows_end c.args.layer c.loop-down.down c.loop-down.across c.loop-down.next c.wide-wide.result c.high-high.result (map leaf_of c.args.leaves.now) c.args.band.now c.loop-down.band c.args.bits.now c.loop-down.bits
    c.loop-down.invariant c.loop-down-test.false) c.loop-down.invariant.loop).due

pub returns-clause-values : goal.returns-clause-values
returns-clause-values c = loop_values c.args.layer (c.loop-down.down * c.wide-wide.result + c.loop-down.across) (map leaf_of c.args.leaves.now) c.args.band.now c.loop-down.band c.args.bits.now c.loop-down.bits c.loop-down.invariant.loop

pub returns-clause-first : goal.returns-clause-first
returns-clause-first c = c.loop-down.invariant.loop.first

pub returns-clause-size : goal.returns-clause-size
returns-clause-size c = c.loop-down.invariant.loop.size

pub loop-down-init : goal.loop-down-init
loop-down-init c =
    row_begin c.args.layer c.wide-wide.result c.high-high.result (map leaf_of c.args.leaves.now) c.args.band.now c.args.bits.now c.requires.writes
    (c.wide-wide.ensures ∙ ap (λ (x : Writes). x.first.tree.wide) c.band.view_is) (c.high-high.ensures ∙ ap (λ (x : Writes). x.first.tree.high) c.band.view_is)

pub loop-down-smaller-then-across-wide : goal.loop-down-smaller-then-across-wide
loop-down-smaller-then-across-wide c =
    let leaf : ℕ = c.loop-down.down * c.wide-wide.result + c.loop-down.across in
    let inside' : leaf < length (map leaf_of c.args.leaves.now) = row_at c.args.layer c.loop-down.down c.loop-down.across c.loop-down.next c.wide-wide.result c.high-high.result (map leaf_of c.args.leaves.now) c.args.band.now c.loop-down.band c.args.bits.now c.loop-down.bits
    c.loop-down.invariant c.loop-down-test.true in
    let inside : leaf < length c.args.leaves.now = omega (arith, inside', length-map c.args.leaves.now leaf_of) in
    let leaves = map leaf_of c.args.leaves.now in
    let parts = take (c.next_run-start.result.1 - c.next_run-start.result.0) (drop c.next_run-start.result.0 c.deref-in-loop-down.result.now) in
    let loop = loop_run c.args.layer leaf c.next_run-start.ensures.moved.0 leaves c.args.band.now c.loop-down.band c.next_run-start.new.band c.write_block.new.band
    c.args.bits.now c.loop-down.bits c.write_block.new.bits (leaf_of c.index-leaves-leaf.result) parts c.loop-down.invariant.loop inside'
    (leaf_is c.args.leaves.now leaf c.index-leaves-leaf.result inside c.index-leaves-leaf.is) c.next_run-start.ensures.moved.2
    (subst (λ (l : List LeafPart). IsCursor (c.args.layer + 1) c.next_run-start.ensures.moved.0 l) c.deref.ensures.value c.next_run-start.ensures.moved.1)
    (run_same c.args.layer c.next_run-start.result.0 (c.next_run-start.result.1 - c.next_run-start.result.0) c.deref.result.now c.deref-in-loop-down.result.now c.index-leaves-leaf.result.parts.items
    c.deref.ensures.value c.deref-in-loop-down.ensures.value c.next_run-start.ensures.run)
    c.in_ok-write_block.ensures.bits c.in_ok-write_block.ensures.after c.in_ok-write_block.ensures.first c.in_ok-write_block.ensures.zeros c.in_ok-write_block.ensures.cursors in
    let still = still_run c.args.layer leaf leaves c.loop-down.band c.next_run-start.new.band c.write_block.new.band (set c.loop-down.band.cursors leaf c.next_run-start.ensures.moved.0) (run_of c.index-leaves-leaf.result.zero parts)
    c.next_run-start.ensures.moved.2 c.in_ok-write_block.ensures.after in
    let facts = quiet_under c.args.layer (leaf + 1) leaf c.silent_place-place.result c.wide-wide.result leaves c.args.band.now c.write_block.new.band c.args.bits.now c.write_block.new.bits c.args.rising
    loop c.loop-down.invariant.wide_is c.requires.rising c.silent_place-place.ensures.past in
    let below_is = c.min-next.ensures ∙ ap (λ (n : ℕ). min c.loop-down.next n) c.end_under.ensures in
    rows_fewer c.args.layer c.loop-down.down c.loop-down.across c.loop-down.next c.wide-wide.result c.high-high.result leaves c.args.band.now c.loop-down.band c.args.bits.now c.loop-down.bits
    c.loop-down.invariant c.loop-down-test.true c.write_block.new.band c.write_block.new.bits loop still c.silent_place-place.result facts c.end_under-across.result c.min-next.result c.end_under-across.ensures below_is

pub loop-down-smaller : goal.loop-down-smaller
loop-down-smaller c =
    let leaf : ℕ = c.loop-down.down * c.wide-wide.result + c.loop-down.across in
    let inside' : leaf < length (map leaf_of c.args.leaves.now) = row_at c.args.layer c.loop-down.down c.loop-down.across c.loop-down.next c.wide-wide.result c.high-high.result (map leaf_of c.args.leaves.now) c.args.band.now c.loop-down.band c.args.bits.now c.loop-down.bits
    c.loop-down.invariant c.loop-down-test.true in
    let inside : leaf < length c.args.leaves.now = omega (arith, inside', length-map c.args.leaves.now leaf_of) in
    let leaves = map leaf_of c.args.leaves.now in
    let parts = take (c.next_run-start.result.1 - c.next_run-start.result.0) (drop c.next_run-start.result.0 c.deref-in-loop-down.result.now) in
    let loop = loop_run c.args.layer leaf c.next_run-start.ensures.moved.0 leaves c.args.band.now c.loop-down.band c.next_run-start.new.band c.write_block.new.band
    c.args.bits.now c.loop-down.bits c.write_block.new.bits (leaf_of c.index-leaves-leaf.result) parts c.loop-down.invariant.loop inside'
    (leaf_is c.args.leaves.now leaf c.index-leaves-leaf.result inside c.index-leaves-leaf.is) c.next_run-start.ensures.moved.2
    (subst (λ (l : List LeafPart). IsCursor (c.args.layer + 1) c.next_run-start.ensures.moved.0 l) c.deref.ensures.value c.next_run-start.ensures.moved.1)
    (run_same c.args.layer c.next_run-start.result.0 (c.next_run-start.result.1 - c.next_run-start.result.0) c.deref.result.now c.deref-in-loop-down.result.now c.index-leaves-leaf.result.parts.items
    c.deref.ensures.value c.deref-in-loop-down.ensures.value c.next_run-start.ensures.run)
    c.in_ok-write_block.ensures.bits c.in_ok-write_block.ensures.after c.in_ok-write_block.ensures.first c.in_ok-write_block.ensures.zeros c.in_ok-write_block.ensures.cursors in
    let still = still_run c.args.layer leaf leaves c.loop-down.band c.next_run-start.new.band c.write_block.new.band (set c.loop-down.band.cursors leaf c.next_run-start.ensures.moved.0) (run_of c.index-leaves-leaf.result.zero parts)
    c.next_run-start.ensures.moved.2 c.in_ok-write_block.ensures.after in
    let facts = quiet_under c.args.layer (leaf + 1) leaf c.silent_place-place.result c.wide-wide.result leaves c.args.band.now c.write_block.new.band c.args.bits.now c.write_block.new.bits c.args.rising
    loop c.loop-down.invariant.wide_is c.requires.rising c.silent_place-place.ensures.past in
    let below_is = c.min-next.ensures ∙ ap (λ (n : ℕ). min c.loop-down.next n) c.end_under.ensures in
    row_fewer c.args.layer c.loop-down.down c.loop-down.across c.loop-down.next c.wide-wide.result c.high-high.result leaves c.args.band.now c.loop-down.band c.args.bits.now c.loop-down.bits
    c.loop-down.invariant c.loop-down-test.true c.write_block.new.band c.write_block.new.bits loop still c.silent_place-place.result facts c.end_under-across.result c.min-next.result c.end_under-across.ensures below_is
