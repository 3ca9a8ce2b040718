use Rattle.std.proofs.Common.{◌≡◌, ◌∙◌, ◌<◌, arith, sym, length, None, false}
use Rattle.std.proofs.lemmas.Result.{err_from_is_err_and}
use Rattle.std.proofs.lemmas.List.Elements.{All-push}
use Rattle.jx_codestream.specs.declared.parts.PlacedPart.{PlacedPart}
use Rattle.jx_codestream.specs.Parts.{fault_after, marker_at, part_fault, tables_say, sot_in}
use Rattle.jx_codestream.proofs.FaultLemmas.{cause_same}
use Rattle.jx_codestream.proofs.PartLemmas.{parts_end, parts_refused, parts_more, turn_at, tracks_more}
use Rattle.jx_codestream.proofs.parts.read_parts.Goals as goal
use Rattle.jx_marker.specs.Codes.{EOC}

pub returns-then-has_marker-clause-answer : goal.returns-then-has_marker-clause-answer
returns-then-has_marker-clause-answer c =
    let p = parts_end c.args.packed c.args.comps (length c.args.counts.now) c.args.bytes.now c.args.at c.parts.parts.items c.parts.place c.parts.invariant.same (sym c.has_marker.ensures ∙ c.if-has_marker.true) in
    (p.0, (p.1, p.2))

pub returns-in_err-part-clause-answer : goal.returns-in_err-part-clause-answer
returns-in_err-part-clause-answer c =
    let p = err_from_is_err_and c.from_residual.result c.from_residual.ensures.1 in
    rw (p.1, p.2) (parts_refused c.args.packed c.args.comps (length c.args.counts.now) c.args.bytes.now c.args.at c.parts.parts.items c.parts.place c.parts.invariant.same c.in_err-part.field-0.0
    (sym c.has_marker.ensures ∙ c.if-has_marker.false)
    (cause_same c.in_err-part.field-0.0 (part_fault c.args.packed c.args.comps (length c.parts.counts) c.args.bytes.now (tables_say c.parts.counts c.parts.told (sot_in c.args.bytes.now c.parts.place)) c.parts.place)
    (fault_after c.args.packed c.args.comps (length c.args.counts.now) c.args.bytes.now c.parts.parts.items c.parts.place)
    (turn_at c.args.packed c.args.comps (length c.args.counts.now) c.args.bytes.now c.parts.parts.items c.parts.counts c.parts.told c.parts.place c.parts.auto.counts (c.parts.auto.told ∙ c.requires.tables ∙ sym c.parts.auto.counts) c.parts.invariant.tracks)
    c.in_err-part.ensures.answer))

pub parts-preserved : goal.parts-preserved
parts-preserved c =
    let sizes : length c.parts.told ≡ length c.parts.counts = c.parts.auto.told ∙ c.requires.tables ∙ sym c.parts.auto.counts in
    let clear : fault_after c.args.packed c.args.comps (length c.args.counts.now) c.args.bytes.now c.parts.parts.items c.parts.place ≡ None =
    sym (turn_at c.args.packed c.args.comps (length c.args.counts.now) c.args.bytes.now c.parts.parts.items c.parts.counts c.parts.told c.parts.place c.parts.auto.counts sizes c.parts.invariant.tracks) ∙ c.in_ok-part.ensures.answer.0 in
    let goes : marker_at c.args.bytes.now c.parts.place EOC ≡ false = sym c.has_marker.ensures ∙ c.if-has_marker.false in
    record {
      within = omega (arith, c.end_of_part-place.ensures, c.in_ok-part.ensures.within.1);
      same = parts_more c.args.packed c.args.comps (length c.args.counts.now) c.args.bytes.now c.args.at c.parts.parts.items c.parts.place c.parts.invariant.same c.push.new.self.items c.in_ok-part.part c.end_of_part-place.result
          (omega (arith, c.in_ok-part.ensures.within.0, c.in_ok-part.ensures.within.1)) goes clear c.in_ok-part.ensures.answer.1 c.in_ok-push.ensures.items c.end_of_part-place.ensures;
      tracks = tracks_more c.args.packed c.args.comps (length c.args.counts.now) c.args.bytes.now c.parts.parts.items c.push.new.self.items c.in_ok-part.part c.parts.place c.parts.counts c.parts.told c.count_part.new.counts c.count_part.new.told clear
          c.in_ok-part.ensures.answer.1 c.in_ok-part.ensures.tile sizes c.in_ok-push.ensures.items c.count_part.ensures.counts c.count_part.ensures.told c.parts.invariant.tracks;
      tiles = rw c.in_ok-push.ensures.items (All-push (λ (part : PlacedPart). part.sot.tile < length c.args.counts.now) c.parts.parts.items c.in_ok-part.part c.parts.invariant.tiles (omega (arith, c.in_ok-part.ensures.tile, c.parts.auto.counts)));
      fresh = λ slot. rw c.end_of_part-place.ensures (c.in_ok-part.ensures.fresh slot);
    }
