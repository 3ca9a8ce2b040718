use Rattle.std.proofs.Common.{◌∙◌, refl, arith, ℕ}
use Rattle.jx_tier1_specs.specs.Alike.{HasPasses}
use Rattle.jx_tier1_specs.specs.Reading.{Coding, coding_of}
use Rattle.jx_tier1.proofs.ReadingLemmas.{reading_begun, reading_ready, reading_next, reading_done}
use Rattle.jx_tier1.proofs.decode.run.Goals as goal

pub loop-pass-init : goal.loop-pass-init
loop-pass-init c =
    let d : Coding = coding_of c.args.coded.now.band c.args.coded.now.style.bits c.args.coded.now.planes in
    record {
      size = record { width = refl; height = refl };
      way = reading_begun d c.args.block.now.width c.args.block.now.height c.args.coded.now.passes c.args.block.now c.args.decoder.now c.requires.fresh c.requires.cells;
      most = omega arith;
      rest = c.requires.rest;
    }

pub pass-requires : goal.pass-requires
pass-requires c =
    let d : Coding = coding_of c.args.coded.now.band c.args.coded.now.style.bits c.args.coded.now.planes in
    let w : ℕ = c.args.block.now.width in
    let h : ℕ = c.args.block.now.height in
    let b : HasPasses d c.args.coded.now.passes = record { some = c.requires.some; most = c.requires.planes; few = c.requires.passes } in
    let i = c.loop-pass.invariant in
    let s = i.size in
    let wide = c.requires.wide in
    let high = c.requires.high in
    let sw = s.width in
    let sh = s.height in
    let few = c.requires.passes in
    let planes = c.requires.planes in
    let l = c.loop-pass-test.true in
    let r = reading_ready d w h c.args.coded.now.passes c.loop-pass.pass c.loop-pass.block c.loop-pass.decoder c.args.decoder.now b l i.way in
    record {
      band = c.requires.band;
      scan = r.now.scan;
      few = omega arith;
      wide = omega arith;
      high = omega arith;
      shows = i.way.shows;
      now = r.now;
      within = r.within;
      rest = i.rest;
    }

pub loop-pass-preserved : goal.loop-pass-preserved
loop-pass-preserved c =
    let d : Coding = coding_of c.args.coded.now.band c.args.coded.now.style.bits c.args.coded.now.planes in
    let w : ℕ = c.args.block.now.width in
    let h : ℕ = c.args.block.now.height in
    let b : HasPasses d c.args.coded.now.passes = record { some = c.requires.some; most = c.requires.planes; few = c.requires.passes } in
    let i = c.loop-pass.invariant in
    let k = c.in_ok-pass.ensures in
    let less = c.loop-pass-test.true in
    record {
      size = record { width = k.size.width ∙ i.size.width; height = k.size.height ∙ i.size.height };
      way = reading_next d w h c.args.coded.now.passes c.loop-pass.pass c.loop-pass.block c.pass.new.block c.loop-pass.decoder c.pass.new.self c.args.decoder.now b
          c.loop-pass-test.true i.way k.decoding k.shows k.within;
      most = omega arith;
      rest = k.rest;
    }

pub returns : goal.returns
returns c =
    let d : Coding = coding_of c.args.coded.now.band c.args.coded.now.style.bits c.args.coded.now.planes in
    let b : HasPasses d c.args.coded.now.passes = record { some = c.requires.some; most = c.requires.planes; few = c.requires.passes } in
    let least = c.loop-pass-test.false in
    let most = c.loop-pass.invariant.most in
    let r =
    reading_done d c.args.block.now.width c.args.block.now.height c.args.coded.now.passes c.loop-pass.pass c.loop-pass.block c.loop-pass.decoder c.args.decoder.now b
    (omega arith) c.loop-pass.invariant.way in
    record { decoding = r.0; within = r.1 }
