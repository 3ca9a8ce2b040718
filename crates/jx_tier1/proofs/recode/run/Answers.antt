use Rattle.std.proofs.Common.{◌∙◌, refl, ℕ}
use Rattle.jx_tier1_specs.specs.Alike.{HasPasses}
use Rattle.jx_tier1_specs.specs.Reading.{Coding, coding_of, zeros}
use Rattle.jx_tier1.specs.InStep.{Recoding}
use Rattle.jx_tier1.specs.Placing.{placed}
use Rattle.jx_tier1.proofs.PlacingLemmas.{way_begun, now_on, way_next, way_done}
use Rattle.jx_tier1.proofs.recode.run.Goals as goal

pub loop-pass-init : goal.loop-pass-init
loop-pass-init c =
    let old : Coding = coding_of c.args.coded.now.band c.args.coded.now.style.bits c.args.coded.now.planes in
    let new : Coding = coding_of c.args.coded.now.band c.args.style.bits c.args.coded.now.planes in
    record {
      size = record { width = refl; height = refl };
      way = way_begun old new c.args.block.now.width c.args.block.now.height c.args.coded.now.passes c.args.block.now c.args.recoder.now c.requires.fresh;
      rest = c.requires.rest;
    }

pub loop-pass-preserved : goal.loop-pass-preserved
loop-pass-preserved c =
    let old : Coding = coding_of c.args.coded.now.band c.args.coded.now.style.bits c.args.coded.now.planes in
    let new : Coding = coding_of c.args.coded.now.band c.args.style.bits c.args.coded.now.planes in
    let w : ℕ = c.args.block.now.width in
    let h : ℕ = c.args.block.now.height in
    let start : Recoding = placed (zeros w h) c.args.recoder.now in
    let b : HasPasses old c.args.coded.now.passes = record { some = c.requires.some; most = c.requires.planes; few = c.requires.passes } in
    let i = c.loop-pass.invariant in
    let o = i.way in
    let k = c.in_ok-pass.ensures in
    let n = now_on old new w h c.args.coded.now.passes c.loop-pass.pass c.loop-pass.block c.loop-pass.recoder start b c.loop-pass-test.true o in
    record {
      size = record { width = k.size.width ∙ i.size.width; height = k.size.height ∙ i.size.height };
      way = way_next old new w h c.args.coded.now.passes c.loop-pass.pass c.loop-pass.block c.pass.new.block c.loop-pass.recoder c.pass.new.self start b
          c.loop-pass-test.true o (k.walk o.cells o.shows n);
      rest = k.rest;
    }

pub returns : goal.returns
returns c =
    let old : Coding = coding_of c.args.coded.now.band c.args.coded.now.style.bits c.args.coded.now.planes in
    let new : Coding = coding_of c.args.coded.now.band c.args.style.bits c.args.coded.now.planes in
    let w : ℕ = c.args.block.now.width in
    let h : ℕ = c.args.block.now.height in
    let d =
    way_done old new w h c.args.coded.now.passes c.loop-pass.pass c.loop-pass.block c.loop-pass.recoder (placed (zeros w h) c.args.recoder.now)
    c.loop-pass-test.false c.loop-pass.invariant.way in
    record { done = d.0; looked = d.1.0; wrong = d.1.1 }
