use Rattle.std.proofs.Common.{◌≡◌, ◌∙◌, ℕ, inl, sym, false}
use Rattle.jx_codestream.specs.Params.{has_too_few, quant_of, shape_of}
use Rattle.jx_codestream.proofs.NamedLemmas.{named_none, named_on, named_some, none_left}
use Rattle.jx_codestream.proofs.checks.names_short.Goals as goal
use Rattle.jx_codestream.proofs.checks.names_short.Goals.{in-Some+else-comp_has_too_few, in_default}

pub loop-segment-init : goal.loop-segment-init
loop-segment-init c = λ comp h. inl h

pub loop-segment-preserved : goal.loop-segment-preserved
loop-segment-preserved c =
    let P : ℕ → Type 0 = λ comp. has_too_few (quant_of c.args.tile.now.segments.now c.args.main.now.segments.now comp) (shape_of c.args.tile.now.segments.now c.args.main.now.segments.now comp) ≡ false in
    elim c.match-comp_named.branch [
      | in-Some+else-comp_has_too_few w ↦
          named_on P c.args.segments.now c.loop-segment.segment-index c.segment-item.result c.loop-segment-test.true c.segment-item.is
          (named_some P c.comp_named.result c.segment-item.result w.in-Some.comp c.comp_named.ensures w.in-Some.is (sym w.comp_has_too_few.ensures ∙ w.if-comp_has_too_few.false)) c.loop-segment.invariant
      | in_default w ↦
          named_on P c.args.segments.now c.loop-segment.segment-index c.segment-item.result c.loop-segment-test.true c.segment-item.is
          (named_none P c.comp_named.result c.segment-item.result c.comp_named.ensures w.in_default.is) c.loop-segment.invariant
    ]

pub returns : goal.returns
returns c =
    let P : ℕ → Type 0 = λ comp. has_too_few (quant_of c.args.tile.now.segments.now c.args.main.now.segments.now comp) (shape_of c.args.tile.now.segments.now c.args.main.now.segments.now comp) ≡ false in
    λ none comp h. none_left c.args.segments.now c.loop-segment.segment-index comp (P comp) c.loop-segment-test.false (c.loop-segment.invariant comp h)
