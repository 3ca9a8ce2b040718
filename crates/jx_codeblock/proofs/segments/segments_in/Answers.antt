use Rattle.std.proofs.Common.{◌≡◌, ◌+◌, ◌-◌, ◌∙◌, ◌++◌, arith, ap, sym, map, take, drop, length, ℕ, List}
use Rattle.std.proofs.lemmas.List.{length-drop}
use Rattle.jx_base.specs.declared.pieces.Piece.{Piece}
use Rattle.jx_base.specs.Pieces.{value_of}
use Rattle.jx_codeblock.specs.Groups.{groups}
use Rattle.jx_codeblock.specs.Tables.{bytes_joined}
use Rattle.jx_codeblock.proofs.DropLemmas.{drop_one, first_piece, no_piece, joined_one, behind_has, taken_more, dropped_more, step_ended, step_on}
use Rattle.jx_codeblock.proofs.segments.segments_in.Goals.{then-ends_its_segment+in_ok-push, else-ends_its_segment}
use Rattle.jx_codeblock.proofs.segments.segments_in.Goals as goal

pub overflow_add-count : goal.overflow_add-count
overflow_add-count c =
    let ps : List Piece = c.args.pieces.now in
    let at : ℕ = c.loop-at.at in
    let behind = c.loop-at.invariant.behind ∙ joined_one ps at c.loop-at-test.true in
    omega (arith, c.loop-at.invariant.long, behind_has c.loop-at.rest.now (first_piece ps at).bytes.now (bytes_joined (map value_of (drop (at + 1) ps))) c.loop-at.count behind c.loop-at.invariant.within)

pub split_at-requires : goal.split_at-requires
split_at-requires c =
    let ps : List Piece = c.args.pieces.now in
    let at : ℕ = c.loop-at.at in
    let behind = c.loop-at.invariant.behind ∙ joined_one ps at c.loop-at-test.true in
    behind_has c.loop-at.rest.now (first_piece ps at).bytes.now (bytes_joined (map value_of (drop (at + 1) ps))) c.loop-at.count behind c.loop-at.invariant.within

pub loop-at-preserved : goal.loop-at-preserved
loop-at-preserved c =
    let ps : List Piece = c.args.pieces.now in
    let at : ℕ = c.loop-at.at in
    let bytes : List ℕ = (first_piece ps at).bytes.now in
    let more : List ℕ = bytes_joined (map value_of (drop (at + 1) ps)) in
    let behind : drop c.loop-at.count c.loop-at.rest.now ≡ bytes ++ more = c.loop-at.invariant.behind ∙ joined_one ps at c.loop-at-test.true in
    let taken = taken_more c.loop-at.rest.now bytes more c.loop-at.count behind in
    let dropped = dropped_more c.loop-at.rest.now bytes more c.loop-at.count behind in
    let within = behind_has c.loop-at.rest.now bytes more c.loop-at.count behind c.loop-at.invariant.within in
    let split = drop_one ps at no_piece c.loop-at-test.true in
    elim c.if-ends_its_segment.branch [
      | then-ends_its_segment+in_ok-push w ↦
          let back : ◌≡◌ {A = List ℕ} w.split_at.result.1.now more = w.split_at.ensures.back ∙ dropped in
          let fewer : length w.split_at.result.1.now ≡ length c.loop-at.rest.now - (c.loop-at.count + length bytes) =
          ap (λ (xs : List ℕ). length xs) w.split_at.ensures.back ∙ length-drop (c.loop-at.count + length bytes) c.loop-at.rest.now in
          rw (w.segments-is, w.rest-is, w.count-is) (record {
            listed = step_ended c.args.style.bits c.loop-at.segments w.push.new.self (groups c.args.style.bits (map value_of ps)) (value_of (first_piece ps at))
                (map value_of (drop (at + 1) ps)) (map value_of (drop at ps)) (take c.loop-at.count c.loop-at.rest.now) w.split_at.result.0.now split
                (sym c.ends_its_segment.ensures ∙ w.if-ends_its_segment.true) c.loop-at.invariant.listed (w.split_at.ensures.front ∙ taken) w.in_ok-push.ensures.ok;
            behind = back;
            within = omega arith;
            long = omega (arith, fewer, c.loop-at.invariant.long);
          })
      | else-ends_its_segment w ↦
          rw (w.segments-is, w.rest-is, w.count-is) (record {
            listed = step_on c.args.style.bits c.loop-at.segments (groups c.args.style.bits (map value_of ps)) (value_of (first_piece ps at)) (map value_of (drop (at + 1) ps))
                (map value_of (drop at ps)) (take c.loop-at.count c.loop-at.rest.now) (take (c.loop-at.count + length bytes) c.loop-at.rest.now) split
                (sym c.ends_its_segment.ensures ∙ w.if-ends_its_segment.false) c.loop-at.invariant.listed taken;
            behind = dropped;
            within = within;
            long = c.loop-at.invariant.long;
          })
    ]
