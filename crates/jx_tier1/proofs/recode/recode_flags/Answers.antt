use Rattle.std.proofs.Common.{◌≡◌, ◌∙◌, ap, sym, refl, List, ℕ}
use Rattle.jx_tier1_specs.specs.Reading.{Coding, coding_of, zeros, decoded}
use Rattle.jx_tier1_specs.specs.Alike.{HasPasses, AreAlike}
use Rattle.jx_tier1.specs.InStep.{Recoding, recoded_from, to_recode, no_grid}
use Rattle.jx_tier1.specs.Placing.{placed}
use Rattle.jx_tier1.proofs.RecodeLemmas.{recoded_wrong, recoded_done, recoded_looked}
use Rattle.jx_tier1.proofs.recode.recode_flags.Goals as goal

pub run_block-result-requires : goal.run_block-result-requires
run_block-result-requires c =
    let e : c.in_ok-recoder.recoder ≡ placed no_grid (to_recode 0 0 c.args.style.bits c.args.coded.now.segments) =
    c.in_ok-recoder.ensures.recoding ∙ ap (λ (s : List (List ℕ)). placed no_grid (to_recode 0 0 c.args.style.bits s)) c.as_slice.ensures in
    record {
      some = c.requires.some;
      planes = c.requires.planes;
      passes = c.requires.passes;
      wide = c.requires.wide;
      high = c.requires.high;
      rest = rw e c.requires.segments;
    }

pub returns : goal.returns
returns c =
    let w = c.args.width in
    let h = c.args.height in
    let s = c.args.coded.now.segments in
    let n = c.args.coded.now.passes in
    let old : Coding = coding_of c.args.coded.now.band c.args.coded.now.style.bits c.args.coded.now.planes in
    let new : Coding = coding_of c.args.coded.now.band c.args.style.bits c.args.coded.now.planes in
    let begun : placed (zeros w h) c.in_ok-recoder.recoder ≡ to_recode w h c.args.style.bits s =
    ap (λ (r : Recoding). placed (zeros w h) r) (c.in_ok-recoder.ensures.recoding ∙ ap (λ (t : List (List ℕ)). placed no_grid (to_recode 0 0 c.args.style.bits t)) c.as_slice.ensures) in
    let alike : AreAlike old new = record { band = refl; causal = c.requires.causal; planes = refl } in
    let has : HasPasses old n = record { some = c.requires.some; most = c.requires.planes; few = c.requires.passes } in
    let done = c.end-recoded.ensures.segments ∙ (c.in_ok-result.ensures.done ∙ ap (λ (r : Recoding). (recoded_from old new n 0 r).done) begun) in
    record {
      segments = done ∙ recoded_done w h old new s n has alike;
      looked = c.end-recoded.ensures.looked
          ∙ (c.in_ok-result.ensures.looked
          ∙ (ap (λ (r : Recoding). (recoded_from old new n 0 r).looked) begun
          ∙ (recoded_looked w h old new s n has alike c.ends_of_passes_are_told.ensures.told
          ∙ ap (λ (t : List (List ℕ)). (decoded w h new t n).looked) (sym done))));
      wrong = c.end-recoded.ensures.wrong
          ∙ (c.in_ok-result.ensures.wrong ∙ (ap (λ (r : Recoding). (recoded_from old new n 0 r).wrong) begun ∙ recoded_wrong w h old new s n));
    }
