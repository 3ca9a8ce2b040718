use Rattle.std.proofs.Common.{◌≡◌, ◌+◌, ◌*◌, ◌∙◌, ap, subst}
use Rattle.jx_base.specs.Passes.{is_causal}
use Rattle.jx_tier1_specs.specs.declared.question.Plane.{Plane}
use Rattle.jx_tier1_specs.specs.Asking.{told}
use Rattle.jx_tier1_specs.specs.Cells.{Cells}
use Rattle.jx_tier1_specs.specs.Pass.{plane_of, scanned}
use Rattle.jx_tier1_specs.specs.Reading.{Reading, Coding, Decoding, coding_of, renewed, read_bits}
use Rattle.jx_tier1.specs.BlockPasses.{Shows, Ends}
use Rattle.jx_tier1.specs.Noting.{Noting, noting, note_answer}
use Rattle.jx_tier1.specs.Walking.{IsNow}
use Rattle.jx_tier1.proofs.NotingLemmas.{pass_read}
use Rattle.jx_tier1.proofs.decoder.Decoder.bits.Goals as goal

pub returns : goal.returns
returns c =
    let d : Coding = coding_of c.args.band c.args.style.bits c.args.planes in
    let old : Decoding = c.args.self.now in
    let g : Cells = old.cells in
    let n : Noting = c.walk_pass.new.source in
    let e : c.plane_for-plane.result ≡ plane_of d.band (is_causal d.style) d.planes c.args.pass = c.plane_for-plane.ensures in
    let W : Plane → Type 0 = λ k. Shows k.planes c.args.pass g c.args.block.now → IsNow k g
    → Ends k.planes (c.args.pass + 1) (told note_answer (scanned c.args.pass k (g.width * g.height) 0 g) c.begin.new.self) c.walk_pass.new.block n in
    let r =
    pass_read d c.args.pass old c.walk_pass.new.block n c.begin.new.self c.requires.scan c.requires.within
    (c.begin.ensures
    ∙ (ap (λ (x : Decoding). noting c.plane_for-plane.result x.cells (renewed d.style x.reading)) c.self.view_is
    ∙ ap (λ (k : Plane). noting k g (renewed d.style old.reading)) e))
    (subst W e (c.in_ok-walk_pass.ensures.walk g) c.requires.shows c.requires.now) in
    let bits : Cells × Reading = read_bits d c.args.pass old in
    record {
      decoding = ap (λ (x : Decoding). record x { cells = n.cells; reading = n.reading }) c.self.view_is
          ∙ (ap (λ (x : Cells). record old { cells = x; reading = n.reading }) r.cells ∙ ap (λ (x : Reading). record old { cells = bits.0; reading = x }) r.reading);
      size = c.in_ok-walk_pass.ensures.size;
      shows = r.shows;
      within = r.within;
    }
