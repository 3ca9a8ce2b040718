use Rattle.std.proofs.Common.{◌≡◌, ◌∙◌, ◌∷◌, ◌++◌, [], ℕ, List, length, get_or, refl, sym, ap, arith}
use Rattle.std.proofs.lemmas.Result.{on_ok_weaker}
use Rattle.jx_marker.specs.declared.Segment.TheVariants as segment
use Rattle.jx_marker.specs.Segments.{spelling}
use Rattle.jx_codestream.specs.Spells.{all_bytes}
use Rattle.jx_tier2_writer.specs.Lengths.{filled, numbered}
use Rattle.jx_tier2_writer.proofs.LengthLemmas.{few_segments, some_segments, walk_last, walk_next, weight_next}
use Rattle.jx_tier2_writer.proofs.lengths.put_lengths.Goals as goal

pub put_next-requires-clause-number : goal.put_next-requires-clause-number
put_next-requires-clause-number c = few_segments c.args.lengths.now c.loop-length.number c.requires.few c.requires.together (omega (arith, c.loop-length.invariant.2))

pub loop-length-preserved : goal.loop-length-preserved
loop-length-preserved c =
    let lengths : List ℕ = c.args.lengths.now in
    let i : ℕ = c.loop-length.length-index in
    let n : ℕ = get_or lengths i 0 in (
      walk_next c.args.comps c.loop-length.number c.in_ok-number.number n i 0 lengths c.loop-length.out.items c.put_next.new.out.items c.loop-length.held.items c.put_next.new.held.items
          (c.args.out.now.items ++ all_bytes c.args.comps (numbered 0 (filled [] lengths))) c.loop-length-test.true refl c.in_ok-number.ensures.walk c.loop-length.invariant.0,
      c.in_ok-number.ensures.room,
      weight_next c.loop-length.number c.in_ok-number.number (length c.loop-length.held.items) (length c.put_next.new.held.items) n i 0 lengths c.loop-length-test.true refl
          c.in_ok-number.ensures.few c.loop-length.invariant.2,
    )

pub returns : goal.returns
returns c =
    let lengths : List ℕ = c.args.lengths.now in
    let put_plt : List ℕ → List ℕ = λ xs. c.loop-length.out.items ++ spelling c.args.comps (segment.Plt (c.loop-length.number ∷ xs)) in
    on_ok_weaker c.put_lengths_segment.result
    (λ (put : c.put_lengths_segment.new.out.items ≡ c.loop-length.out.items ++ spelling c.args.comps (segment.Plt (c.loop-length.number ∷ c.deref.result.now))).
    walk_last c.args.comps c.loop-length.number c.loop-length.length-index lengths c.loop-length.out.items c.put_lengths_segment.new.out.items c.loop-length.held.items
    (c.args.out.now.items ++ all_bytes c.args.comps (numbered 0 (filled [] lengths))) c.loop-length-test.false (put ∙ ap put_plt c.deref.ensures.value) c.loop-length.invariant.0
    ∙ ap (λ (xs : List ℕ). c.args.out.now.items ++ xs) (some_segments c.args.comps lengths (sym c.is_empty.ensures ∙ c.if-is_empty.false)))
    c.put_lengths_segment.ensures

pub overflow_cast-number : goal.overflow_cast-number
overflow_cast-number c = omega (arith, few_segments c.args.lengths.now c.loop-length.number c.requires.few c.requires.together (omega (arith, c.loop-length.invariant.2)))
