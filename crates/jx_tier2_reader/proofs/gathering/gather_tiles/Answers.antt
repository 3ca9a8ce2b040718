use Rattle.std.proofs.Common.{◌≡◌, ◌<◌, ℕ, List, arith, subst, sym}
use Rattle.std.specs.List.{All}
use Rattle.std.proofs.lemmas.List.Elements.{All-append, All-nil}
use Rattle.std.proofs.lemmas.Result.{err_from_is_err_and}
use Rattle.jx_base.specs.declared.pieces.Block.{Block}
use Rattle.jx_base.specs.Sound.{IsSound}
use Rattle.jx_codestream.specs.First.{tile_number}
use Rattle.jx_tile.specs.Covered.{IsWhole}
use Rattle.jx_tile.proofs.CoveredLemmas.{whole_next}
use Rattle.jx_tier2_reader.specs.Joined.{IsGatheredTo}
use Rattle.jx_tier2_reader.proofs.GatherLemmas.{gathered_all, gathered_next, gathered_none}
use Rattle.jx_tier2_reader.proofs.gathering.gather_tiles.Goals as goal

pub first_refused-requires-clause-read : goal.first_refused-requires-clause-read
first_refused-requires-clause-read c = λ (t : ℕ) lt. ((c.loop-tile.invariant.0.are t lt).0, (c.loop-tile.invariant.0.are t lt).1)

pub first_refused-requires-clause-whole : goal.first_refused-requires-clause-whole
first_refused-requires-clause-whole c = c.loop-tile.invariant.2

pub loop-tile-preserved : goal.loop-tile-preserved
loop-tile-preserved c = rw c.in_ok-append-in-Ok.ensures (
  gathered_next c.args.bytes.now c.args.stream.now c.loop-tile.tile c.loop-tile.blocks.items c.in-Ok.next.items c.loop-tile.invariant.0 c.in-Ok.ensures.blocks,
  All-append IsSound c.loop-tile.blocks.items c.in-Ok.next.items c.loop-tile.invariant.1 c.in-Ok.ensures.sound,
  whole_next c.args.stream.now c.loop-tile.tile c.loop-tile.invariant.2 c.in-Ok.ensures.whole,
)

pub loop-tile-init : goal.loop-tile-init
loop-tile-init c =
    let P : List Block → Type 0 = λ xs. IsGatheredTo c.args.bytes.now c.args.stream.now 0 xs × All IsSound xs × ((t : ℕ) → t < 0 → IsWhole c.args.stream.now t) in
    subst P (sym c.new-blocks.ensures.items) (gathered_none c.args.bytes.now c.args.stream.now, All-nil IsSound, λ (t : ℕ) lt. absurd (omega (arith, lt)))

pub returns-in_err-append-in-Ok-clause-broken : goal.returns-in_err-append-in-Ok-clause-broken
returns-in_err-append-in-Ok-clause-broken c =
    let p = err_from_is_err_and c.from_residual.result c.from_residual.ensures.1 in
    rw (p.1, p.2) tt

pub returns-clause-gathered : goal.returns-clause-gathered
returns-clause-gathered c =
    let all : c.loop-tile.tile ≡ tile_number c.args.stream.now.siz = omega (arith, c.loop-tile-test.false, c.loop-tile.auto.tile-end, c.tile_count-tile-end.ensures) in
    let P : ℕ → Type 0 = λ n. IsGatheredTo c.args.bytes.now c.args.stream.now n c.loop-tile.blocks.items in
    let Q : ℕ → Type 0 = λ n. (t : ℕ) → t < n → IsWhole c.args.stream.now t in
    gathered_all c.args.bytes.now c.args.stream.now c.loop-tile.blocks.items (subst Q all c.loop-tile.invariant.2) (subst P all c.loop-tile.invariant.0)

pub returns-clause-sound : goal.returns-clause-sound
returns-clause-sound c = c.loop-tile.invariant.1
