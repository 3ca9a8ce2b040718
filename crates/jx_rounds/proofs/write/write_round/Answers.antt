use Rattle.std.proofs.Common.{◌≡◌, ◌∙◌, ◌+◌, ℕ, List, ◌++◌, length, map, ap, sym, subst, arith}
use Rattle.jx_codeblock.specs.Recoded.{WrittenBlock}
use Rattle.jx_store.specs.declared.event.Taped.{Taped}
use Rattle.jx_store.specs.declared.work.Named.{Named}
use Rattle.jx_plan.specs.Plan.{Plan}
use Rattle.jx_tier2_writer.specs.Tile.{first_block}
use Rattle.jx_rounds.specs.MadeRounds.{IsExtent, entry_of}
use Rattle.jx_rounds.specs.Rounds.{HasTape, IsPlace}
use Rattle.jx_rounds.proofs.WriteLemmas.{cut_none, cut_round, round_written, same_err, unmade_unwritten}
use Rattle.jx_rounds.proofs.TapedLemmas.{fault_round, unmade_round}
use Rattle.jx_rounds.proofs.write.write_round.Goals as goal

-- a round with entries for all its blocks ends behind the last of them
round_end : (p : Plan) (tile next block blocks end count : ℕ) (counts : List ℕ) → IsExtent p tile counts blocks → block ≡ first_block p tile → next ≡ tile + length counts → IsPlace p next end → count ≡ blocks → block + count ≡ end
round_end p tile next block blocks end count counts extent begins ends place whole =
    let here : first_block p next ≡ first_block p (tile + length counts) = ap (first_block p) ends in
    omega (arith, extent.of.blocks_are, begins, here, place.block_is, whole)

pub returns-in_default-clause-err : goal.returns-in_default-clause-err
returns-in_default-clause-err g c = cut_none c.args.making.now c.args.mark.tile (g.W.ByteWriter.written c.args.writer.now) c.requires.tile c.requires.begins

pub returns-in-Err-clause-err : goal.returns-in-Err-clause-err
returns-in-Err-clause-err g c = unmade_unwritten c.args.making.now c.args.mark.tile c.in-Err.halt (g.W.ByteWriter.written c.args.writer.now) c.requires.tile c.requires.begins c.in-Err.ensures.unmade

pub returns-in_default-mark_after-clause-err : goal.returns-in_default-mark_after-clause-err
returns-in_default-mark_after-clause-err g c = cut_none c.args.making.now c.args.mark.tile (g.W.ByteWriter.written c.args.writer.now) c.requires.tile c.requires.begins

pub returns-in_default-mark_after-clause-kept : goal.returns-in_default-mark_after-clause-kept
returns-in_default-mark_after-clause-kept g c = c.mark_after.ensures.kept

pub returns-in-Ok-put_round-clause-ok : goal.returns-in-Ok-put_round-clause-ok
returns-in-Ok-put_round-clause-ok g c = rw c.in-Some.ensures.next.0 (round_written c.args.making.now c.args.mark.tile c.in-Ok.round.extent.tile c.args.mark.bytes c.in-Some.next.bytes c.in-Ok-packed_tiles.tiles.items _ _ c.args.lengths.now _
    c.in-Ok-packed_tiles.ensures.parts (rw c.deref-3.ensures.value at c.in-Ok-put_round.ensures.ok) (rw c.deref-2.ensures.value at c.in-Some.ensures.next.2)
    (rw c.deref-2.ensures.value at c.in-Some.ensures.lengths))

pub returns-in-Ok-put_round-clause-later : goal.returns-in-Ok-put_round-clause-later
returns-in-Ok-put_round-clause-later g c = rw c.in-Some.ensures.next.0 c.in-Ok.ensures.later

pub returns-in-Ok-put_round-clause-place : goal.returns-in-Ok-put_round-clause-place
returns-in-Ok-put_round-clause-place g c = rw (c.in-Some.ensures.next.0, c.in-Some.ensures.next.1) c.in-Ok.ensures.place

pub returns-in-Ok-put_round-clause-ends : goal.returns-in-Ok-put_round-clause-ends
returns-in-Ok-put_round-clause-ends g c = rw c.in-Some.ensures.next.0 c.in-Ok.ensures.ends

pub returns-in-Ok-put_round-clause-tape : goal.returns-in-Ok-put_round-clause-tape
returns-in-Ok-put_round-clause-tape g c =
    let p : Plan = c.args.making.now in
    let whole : length c.in-Ok.round.entries.items ≡ c.in-Ok.round.extent.blocks = sym (ap (λ (l : List (Taped (Named WrittenBlock))). length l) c.deref.ensures.value) ∙ c.in-Ok-packed_tiles.ensures.whole in
    let end = round_end p c.args.mark.tile c.in-Ok.round.extent.tile c.args.mark.block c.in-Ok.round.extent.blocks c.in-Ok.round.extent.block (length c.in-Ok.round.entries.items) c.in-Ok.round.extent.counts.items
    c.in-Ok.ensures.extent c.requires.block c.in-Ok.ensures.tile c.in-Ok.ensures.place whole in
    rw (c.in-Some.ensures.next.1, c.put_entries.ensures, c.mark_after.ensures.kept, c.deref-in-Ok-put_round.ensures.value)
    (subst (λ (n : ℕ). HasTape p c.args.crew.now.work n (c.args.tape.now.items ++ map entry_of c.in-Ok.round.entries.items)) end (c.in-Ok.ensures.tape c.args.tape.now.items c.requires.tape))

pub returns-in-Ok-put_round-clause-other : goal.returns-in-Ok-put_round-clause-other
returns-in-Ok-put_round-clause-other g c = c.put_round.ensures.other

pub returns-clause-err : goal.returns-clause-err
returns-clause-err g c = cut_round c.args.making.now c.args.mark.tile c.in-Ok.round.extent.tile c.in-Ok.round.extent.block c.in-Ok-packed_tiles.tiles.items c.in-Err-put_round.halt _ _ c.in-Ok.ensures.place
    c.in-Ok.ensures.ends c.in-Ok-packed_tiles.ensures.parts c.in-Err-put_round.ensures.fault (rw c.deref-3.ensures.value at c.put_round.ensures.front)

pub returns-clause-kept : goal.returns-clause-kept
returns-clause-kept g c = c.mark_after.ensures.kept

pub returns-clause-cause : goal.returns-clause-cause
returns-clause-cause g c = λ failed. c.in-Err-put_round.ensures.cause (same_err _ _ failed)

pub returns-clause-other : goal.returns-clause-other
returns-clause-other g c = c.put_round.ensures.other

pub returns-clause-rose : goal.returns-clause-rose
returns-clause-rose g c = λ rose. same_err _ _ (c.in-Err-put_round.ensures.rose rose)

pub returns-in-Err-clause-round : goal.returns-in-Err-clause-round
returns-in-Err-clause-round g c = unmade_round c.args.making.now c.args.mark.tile c.in-Err.halt c.in-Err.ensures.unmade

pub returns-clause-round : goal.returns-clause-round
returns-clause-round g c = fault_round c.args.making.now c.args.mark.tile c.in-Err-put_round.halt c.in-Err-put_round.ensures.fault
