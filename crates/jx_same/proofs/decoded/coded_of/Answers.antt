use Rattle.std.proofs.Common.{◌∙◌, List, ℕ, refl, subst, sym}
use Rattle.jx_tier1_specs.specs.Short.{AreShort}
use Rattle.jx_same.proofs.SegmentLemmas.{own_short}
use Rattle.jx_same.proofs.decoded.coded_of.Goals as goal

pub returns : goal.returns
returns c =
    let P : List (List ℕ) → Type 0 = λ ss. AreShort ss in
    let own = c.in_ok-segments.ensures ∙ c.requires.own in
    record {
      coded = record { band = refl; style = refl; planes = refl; passes = refl; segments = own };
      short = subst P (sym own) (own_short c.args.block.now c.requires.sound.bytes);
    }
