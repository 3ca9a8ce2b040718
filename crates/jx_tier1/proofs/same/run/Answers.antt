use Rattle.std.proofs.Common.{◌∙◌, ap, refl, sym, ℕ}
use Rattle.jx_tier1_specs.specs.Alike.{HasPasses}
use Rattle.jx_tier1_specs.specs.Reading.{Coding, coding_of}
use Rattle.jx_tier1.specs.Beside.{Pair}
use Rattle.jx_tier1.proofs.BesideRuns.{both_begun, both_now, both_next, both_done, both_stopped}
use Rattle.jx_tier1.proofs.same.run.Goals as goal

pub loop-pass-init : goal.loop-pass-init
loop-pass-init c =
    let one : Coding = coding_of c.args.coded.now.band c.args.coded.now.style.bits c.args.coded.now.planes in
    let two : Coding = coding_of c.args.coded.now.band c.args.style.bits c.args.coded.now.planes in
    record {
      size = record { width = refl; height = refl };
      way = both_begun one two c.args.block.now.width c.args.block.now.height c.args.coded.now.passes c.args.block.now c.args.comparer.now
          c.args.comparer.now.one.rest c.args.comparer.now.two.rest c.requires.fresh c.requires.start;
    }

pub loop-pass-preserved : goal.loop-pass-preserved
loop-pass-preserved c =
    let one : Coding = coding_of c.args.coded.now.band c.args.coded.now.style.bits c.args.coded.now.planes in
    let two : Coding = coding_of c.args.coded.now.band c.args.style.bits c.args.coded.now.planes in
    let w : ℕ = c.args.block.now.width in
    let h : ℕ = c.args.block.now.height in
    let s = c.args.comparer.now.one.rest in
    let t = c.args.comparer.now.two.rest in
    let passes = c.args.coded.now.passes in
    let b : HasPasses one passes = record { some = c.requires.some; most = c.requires.planes; few = c.requires.passes } in
    let i = c.loop-pass.invariant in
    let k = c.in_ok-pass.ensures in
    let n = both_now one two w h passes c.loop-pass.pass c.loop-pass.block c.loop-pass.comparer s t b c.loop-pass-test.true i.way in
    record {
      size = record { width = k.size.width ∙ i.size.width; height = k.size.height ∙ i.size.height };
      way = both_next one two w h passes c.loop-pass.pass c.loop-pass.block c.pass.new.block c.loop-pass.comparer c.pass.new.self s t b
          c.loop-pass-test.true i.way (k.beside i.way.one i.way.two i.way.agree n)
          (ap (λ (x : Pair). x.alike) (sym c.comparer.view_is) ∙ c.if-not-comparer.false);
    }

pub returns-then-not-comparer : goal.returns-then-not-comparer
returns-then-not-comparer c =
    let one : Coding = coding_of c.args.coded.now.band c.args.coded.now.style.bits c.args.coded.now.planes in
    let two : Coding = coding_of c.args.coded.now.band c.args.style.bits c.args.coded.now.planes in
    let w : ℕ = c.args.block.now.width in
    let h : ℕ = c.args.block.now.height in
    let s = c.args.comparer.now.one.rest in
    let t = c.args.comparer.now.two.rest in
    let passes = c.args.coded.now.passes in
    let b : HasPasses one passes = record { some = c.requires.some; most = c.requires.planes; few = c.requires.passes } in
    let i = c.loop-pass.invariant in
    let n = both_now one two w h passes c.loop-pass.pass c.loop-pass.block c.loop-pass.comparer s t b c.loop-pass-test.true i.way in (
      λ e. absurd (cc),
      λ same. absurd (both_stopped one two w h passes c.loop-pass.pass c.loop-pass.block c.pass.new.block c.loop-pass.comparer c.pass.new.self s t b
          (record { band = refl; causal = c.requires.causal; planes = refl }) c.loop-pass-test.true i.way
          (c.in_ok-pass.ensures.beside i.way.one i.way.two i.way.agree n) (ap (λ (x : Pair). x.alike) (sym c.comparer.view_is) ∙ c.if-not-comparer.true) same),
    )

pub returns : goal.returns
returns c =
    let one : Coding = coding_of c.args.coded.now.band c.args.coded.now.style.bits c.args.coded.now.planes in
    let two : Coding = coding_of c.args.coded.now.band c.args.style.bits c.args.coded.now.planes in
    let w : ℕ = c.args.block.now.width in
    let h : ℕ = c.args.block.now.height in
    let s = c.args.comparer.now.one.rest in
    let t = c.args.comparer.now.two.rest in
    let passes = c.args.coded.now.passes in
    (λ e. both_done one two w h passes c.loop-pass.pass c.loop-pass.block c.loop-pass.comparer s t c.loop-pass-test.false c.loop-pass.invariant.way, λ same. refl)
