-- The segments of a made file are in their ranges.
use Rattle.std.proofs.Common.{◌≡◌, ℕ, ◌<◌, List, [], ◌∷◌, refl, arith, true, All}
use Rattle.std.specs.List.{AllByRecursion}
use Rattle.std.proofs.lemmas.Bool.Decides.{nat_tests}
use Rattle.std.proofs.lemmas.List.Elements.{All-from_recursion}
use Rattle.jx_marker.specs.Ranges.{BytesInRange, CodInRange, CompSizeInRange, QuantInRange, SizInRange}
use Rattle.jx_marker.specs.Rules.{siz_fits}
use Rattle.jx_generate.specs.Headers.{AreSizes, cod_made, com_made, comp_made, qcd_made, siz_made}

abbrev all_by : {X : Type 0} (P : X → Type 0) (xs : List X) → AllByRecursion P xs → All P xs
all_by P xs h = All-from_recursion P xs h

comp_in_range : CompSizeInRange comp_made
comp_in_range = record { ssiz = omega arith; dx = omega arith; dy = omega arith }

made_fits : (w h : ℕ) → AreSizes w h → siz_fits (siz_made w h) ≡ true
made_fits w h sizes = grind (arith, nat_tests, sizes.wide, sizes.high)

pub siz_in_range : (w h : ℕ) → AreSizes w h → SizInRange (siz_made w h)
siz_in_range w h sizes = record {
  rsiz = omega arith;
  x1 = omega (arith, sizes.most_wide);
  y1 = omega (arith, sizes.most_high);
  x0 = omega arith;
  y0 = omega arith;
  tw = omega (arith, sizes.most_wide);
  th = omega (arith, sizes.most_high);
  tx = omega arith;
  ty = omega arith;
  fits = made_fits w h sizes;
  each = all_by CompSizeInRange (comp_made ∷ comp_made ∷ comp_made ∷ []) (comp_in_range, (comp_in_range, (comp_in_range, tt)));
}

pub cod_in_range : CodInRange cod_made
cod_in_range = record {
  order = omega arith;
  some = omega arith;
  layers = omega arith;
  transform = omega arith;
  shape = record {
    levels = omega arith;
    least_xcb = omega arith;
    least_ycb = omega arith;
    xcb = omega arith;
    ycb = omega arith;
    area = omega arith;
    style = omega arith;
    wavelet = omega arith;
    count = refl;
    precincts = all_by (λ (b : ℕ). b < 256) [] tt;
    above = refl;
  };
}

pub qcd_in_range : QuantInRange qcd_made 0
qcd_in_range = record {
  sqcd = omega arith;
  style = omega arith;
  some = omega arith;
  count = omega arith;
  entries = all_by (λ (e : ℕ). e < 65536) qcd_made.entries (lt, (lt, (lt, (lt, (lt, (lt, (lt, (lt, (lt, (lt, (lt, (lt, (lt, (lt, (lt, (lt, tt))))))))))))))));
}
  where
    lt : 28416 < 65536
    lt = omega arith

pub com_in_range : BytesInRange 0 com_made
com_in_range = record { some = omega arith; count = omega arith; each = all_by (λ (b : ℕ). b < 256) com_made (omega arith, (omega arith, (omega arith, (omega arith, tt)))) }
