use Rattle.std.proofs.Common.{◌∙◌, refl, ℕ}
use Rattle.jx_tier1_specs.specs.Alike.{HasPasses}
use Rattle.jx_tier1_specs.specs.Reading.{Coding, coding_of}
use Rattle.jx_tier1.proofs.ComingLemmas.{coming_begun, coming_now, coming_next, coming_done}
use Rattle.jx_tier1.proofs.encode.run.Goals as goal

pub loop-pass-init : goal.loop-pass-init
loop-pass-init c =
    let d : Coding = coding_of c.args.band c.args.style.bits c.args.planes in
    record {
      size = record { width = refl; height = refl };
      way = coming_begun d c.args.block.now.width c.args.block.now.height c.args.passes c.args.block.now c.args.encoder.now c.requires.fresh c.requires.kind;
    }

pub loop-pass-preserved : goal.loop-pass-preserved
loop-pass-preserved c =
    let d : Coding = coding_of c.args.band c.args.style.bits c.args.planes in
    let w : ℕ = c.args.block.now.width in
    let h : ℕ = c.args.block.now.height in
    let b : HasPasses d c.args.passes = record { some = c.requires.some; most = c.requires.planes; few = c.requires.passes } in
    let i = c.loop-pass.invariant in
    let o = i.way in
    let k = c.in_ok-pass.ensures in
    let n = coming_now d w h c.args.passes c.loop-pass.pass c.loop-pass.block c.loop-pass.encoder c.args.encoder.now b c.loop-pass-test.true o in
    record {
      size = record { width = k.size.width ∙ i.size.width; height = k.size.height ∙ i.size.height };
      way = coming_next d w h c.args.passes c.loop-pass.pass c.loop-pass.block c.pass.new.block c.loop-pass.encoder c.pass.new.self c.args.encoder.now b
          c.loop-pass-test.true o (k.walk o.cells o.shows n);
    }

pub returns : goal.returns
returns c =
    let d : Coding = coding_of c.args.band c.args.style.bits c.args.planes in
    coming_done d c.args.block.now.width c.args.block.now.height c.args.passes c.loop-pass.pass c.loop-pass.block c.loop-pass.encoder c.args.encoder.now
    c.loop-pass-test.false c.loop-pass.invariant.way
