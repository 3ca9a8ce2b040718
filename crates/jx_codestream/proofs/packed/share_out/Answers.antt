use Rattle.std.proofs.Common.{◌∙◌, ◌<◌, ◌≤◌, [], None, length, arith, refl, sym, set}
use Rattle.std.proofs.lemmas.List.{length-set}
use Rattle.jx_codestream.specs.declared.parts.PlacedPart.{PlacedPart}
use Rattle.jx_codestream.specs.PackedHeaders.{shared_out, shares_fit}
use Rattle.jx_codestream.proofs.PieceLemmas.{share_lacks, share_goes_on, share_given, shares_over, shares_given}
use Rattle.jx_codestream.proofs.packed.share_out.Goals as goal

pub returns-in_default-clause-fit : goal.returns-in_default-clause-fit
returns-in_default-clause-fit c =
    let none : PlacedPart = record { place = 0; sot = record { tile = 0; psot = 0; part = 0; parts = 0 }; header = []; heads = None; body = record { at = 0; length = 0 } } in
    let lacks = rw c.in_default.is at c.in_ok-share.ensures in
    let inside : c.loop-place.place < length c.loop-place.parts = omega (arith, c.loop-place.invariant.size, c.loop-place-test.true) in
    sym (share_lacks c.args.bytes.now c.loop-place.left c.loop-place.parts c.loop-place.place none (shares_fit c.args.bytes.now c.args.pieces.now c.args.parts.now) inside c.loop-place.invariant.fit lacks)

pub loop-place-preserved : goal.loop-place-preserved
loop-place-preserved c =
    let l = c.loop-place in
    let i = l.invariant in
    let t = rw c.in-Some.is at c.in_ok-share.ensures in
    let inside : c.loop-place.place < length c.loop-place.parts = omega (arith, c.loop-place.invariant.size, c.loop-place-test.true) in
    record {
      lie = t.3;
      size = length-set l.parts l.place c.set_heads.new.self ∙ i.size;
      fit = share_goes_on c.args.bytes.now l.left c.take_share.new.self l.parts (set l.parts l.place c.set_heads.new.self) l.place c.index-parts-place.result c.set_heads.new.self
          (shares_fit c.args.bytes.now c.args.pieces.now c.args.parts.now) inside t.0 t.2 refl i.fit;
      shared = share_given c.args.bytes.now l.left c.take_share.new.self c.in-Some.share.items l.parts (set l.parts l.place c.set_heads.new.self) (shared_out c.args.bytes.now c.args.pieces.now c.args.parts.now)
          l.place c.index-parts-place.result c.set_heads.new.self inside t.1 t.2 c.set_heads.ensures refl i.shared;
    }

pub returns-clause-fit : goal.returns-clause-fit
returns-clause-fit c =
    let past : length c.loop-place.parts ≤ c.loop-place.place = omega (arith, c.loop-place.invariant.size, c.loop-place-test.false) in
    c.in_ok-fit.ensures ∙ shares_over c.args.bytes.now c.loop-place.left c.loop-place.parts c.loop-place.place (shares_fit c.args.bytes.now c.args.pieces.now c.args.parts.now) past c.loop-place.invariant.fit

pub returns-clause-shared : goal.returns-clause-shared
returns-clause-shared c =
    let past : length c.loop-place.parts ≤ c.loop-place.place = omega (arith, c.loop-place.invariant.size, c.loop-place-test.false) in
    λ _. shares_given c.args.bytes.now c.loop-place.left c.loop-place.parts (shared_out c.args.bytes.now c.args.pieces.now c.args.parts.now) c.loop-place.place past c.loop-place.invariant.shared
