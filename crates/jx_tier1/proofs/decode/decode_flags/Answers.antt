use Rattle.std.proofs.Common.{◌≡◌, ◌∙◌, ap, sym, subst}
use Rattle.jx_tier1_specs.specs.Cells.{Cells, AreWithin}
use Rattle.jx_tier1_specs.specs.Reading.{Coding, Decoding, coding_of, at_start, read_from, decoded}
use Rattle.jx_tier1.proofs.decode.decode_flags.Goals as goal

pub run_block-result-requires : goal.run_block-result-requires
run_block-result-requires c =
    let e : c.in_ok-decoder.decoder ≡ at_start c.args.width c.args.height c.args.coded.now.segments =
    c.in_ok-decoder.ensures.decoding ∙ ap (at_start c.args.width c.args.height) c.as_slice.ensures in
    record {
      some = c.requires.some;
      planes = c.requires.planes;
      passes = c.requires.passes;
      wide = c.requires.wide;
      high = c.requires.high;
      cells = ap (λ (x : Decoding). x.cells) e;
      rest = rw e c.requires.segments;
    }

pub returns : goal.returns
unfolding decoded
returns c =
    let p = c.args.coded.now.planes in
    let n = c.args.coded.now.passes in
    let co : Coding = coding_of c.args.coded.now.band c.args.coded.now.style.bits p in
    let begun : c.in_ok-decoder.decoder ≡ at_start c.args.width c.args.height c.args.coded.now.segments =
    c.in_ok-decoder.ensures.decoding ∙ ap (at_start c.args.width c.args.height) c.as_slice.ensures in
    let e : c.run_block-result.new.decoder ≡ decoded c.args.width c.args.height co c.args.coded.now.segments n =
    c.in_ok-result.ensures.decoding ∙ ap (read_from co n 0) begun in
    let d = c.end-decoded.ensures in
    record {
      grid = d.grid ∙ ap (λ (x : Decoding). x.cells) e;
      looked = d.looked ∙ ap (λ (x : Decoding). x.looked) e;
      wrong = d.wrong ∙ ap (λ (x : Decoding). x.wrong) e;
      within = subst (λ (g : Cells). AreWithin p p g) (sym d.grid) c.in_ok-result.ensures.within;
    }
