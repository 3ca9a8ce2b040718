use Rattle.std.proofs.Common.{◌-◌, ◌+◌, ◌/◌, ◌++◌, ◌==◌, ◌∙◌, ap, sym, arith, Bool, ℕ}
use Rattle.jx_tier1_specs.specs.Cells.{Cells}
use Rattle.jx_tier1_specs.specs.Reading.{Coding, coding_of}
use Rattle.jx_tier1_specs.specs.Needs.{needs_from}
use Rattle.jx_tier1_specs.proofs.Places.{within_more}
use Rattle.jx_tier1_specs.specs.Writing.{finished_from}
use Rattle.jx_tier1_specs.specs.Encoding.{Encoding}
use Rattle.jx_tier1_specs.proofs.WroteLemmas.{step_more, step_end, step_kind, step_target}
use Rattle.jx_tier1_plain.proofs.encode.run.Goals as goal

pub loop-pass-preserved : goal.loop-pass-preserved
loop-pass-preserved c =
    let co : Coding = coding_of c.args.band c.args.style.bits c.args.planes in
    let g : Cells = c.args.encoder.now.writing.target in
    let e : Encoding = c.loop-pass.encoder in
    let pass : ℕ = c.loop-pass.pass in
    let last : Bool = pass + 1 == c.args.passes in
    let F = λ (x : Encoding). x.done ++ finished_from c.args.style.bits (pass + 1) x.writing (needs_from co g (c.args.passes - (pass + 1)) (pass + 1) x.cells) in
    let h = c.in_ok-pass.ensures.encoding in
    let k = c.in_ok-pass.ensures.kept in
    let i = c.loop-pass.invariant in
    let w = k.width in
    let v = k.height in
    let s = i.size in
    let wide = s.wide in
    let high = s.high in
    record {
      so_far = ap F h ∙ (step_more co g c.args.passes pass e c.loop-pass-test.true i.target ∙ i.so_far);
      target = ap (λ (x : Encoding). x.writing.target) h ∙ (step_target co last pass e ∙ i.target);
      kind = ap (λ (x : Encoding). x.writing.raw) h ∙ step_kind co last pass e i.kind;
      size = record { wide = omega arith; high = omega arith };
      within = within_more c.args.planes ((pass + 2) / 3 + 1) ((pass + 1 + 1) / 3 + 1) c.pass.new.self.cells (omega arith) k.within;
    }

pub returns : goal.returns
returns c =
    let co : Coding = coding_of c.args.band c.args.style.bits c.args.planes in
    sym (step_end co c.args.encoder.now.writing.target c.args.passes c.loop-pass.pass c.loop-pass.encoder c.loop-pass-test.false) ∙ c.loop-pass.invariant.so_far
