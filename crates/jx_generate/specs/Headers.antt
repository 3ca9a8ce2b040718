-- The headers of a made file (ITU-T T.800, A.4 to A.6 and A.9.2): one tile with three components of 8 bits, 5 levels of the 9-7
-- wavelet, code-blocks of 64 by 64, 12 layers in the order LRCP, 13 planes in each band, one precinct in each resolution.
use Rattle.std.specs.Prelude.{ℕ, ◌≤◌, List, [], ◌∷◌, replicate, false}
use Rattle.jx_geom.specs.declared.shape.Canvas.{Canvas}
use Rattle.jx_geom.specs.declared.shape.CompShape.{CompShape}
use Rattle.jx_geom.specs.Geometry.{Geometry}
use Rattle.jx_marker.specs.declared.CompSize.{CompSize}
use Rattle.jx_marker.specs.declared.Siz.{Siz}
use Rattle.jx_marker.specs.declared.Cod.{Cod}
use Rattle.jx_marker.specs.declared.Quant.{Quant}
use Rattle.jx_marker.specs.declared.Segment.{Segment}
use Rattle.jx_marker.specs.declared.Segment.TheVariants as segment

abbrev pub comp_made : CompSize
comp_made = record { ssiz = 7; dx = 1; dy = 1 }

abbrev pub siz_made : ℕ → ℕ → Siz
siz_made w h = record {
  rsiz = 0;
  x1 = w;
  y1 = h;
  x0 = 0;
  y0 = 0;
  tw = w;
  th = h;
  tx = 0;
  ty = 0;
  comps = comp_made ∷ comp_made ∷ comp_made ∷ [];
}

abbrev pub cod_made : Cod
cod_made = record {
  sop = false;
  eph = false;
  order = 0;
  layers = 12;
  transform = 1;
  shape = record { levels = 5; xcb = 6; ycb = 6; style = 0; wavelet = 0; precincts = [] };
}

-- one guard bit, and an exponent of 13 for each of 16 bands
abbrev pub qcd_made : Quant
qcd_made = record { sqcd = 34; entries = replicate 16 28416 }

-- a comment in Latin letters, "jx"
abbrev pub com_made : List ℕ
com_made = 0 ∷ 1 ∷ 106 ∷ 120 ∷ []

abbrev pub main_made : List Segment
main_made = segment.Cod cod_made ∷ segment.Qcd qcd_made ∷ segment.Com com_made ∷ []

-- what the geometry of the one tile is made from
abbrev pub canvas_made : ℕ → ℕ → Canvas
canvas_made w h = record { x1 = w; y1 = h; x0 = 0; y0 = 0; tw = w; th = h; tx = 0; ty = 0 }

abbrev pub shape_made : CompShape
shape_made = record { dx = 1; dy = 1; levels = 5; xcb = 6; ycb = 6; precincts = replicate 33 255 }

unfoldable pub geometry_made : ℕ → ℕ → Geometry
geometry_made w h = record { canvas = canvas_made w h; tile = 0; shapes = shape_made ∷ shape_made ∷ shape_made ∷ [] }

-- a width and a height of which a file is made
pub record AreSizes (w h : ℕ) : Type 0 where
  pub wide : 1 ≤ w
  pub most_wide : w ≤ 4096
  pub high : 1 ≤ h
  pub most_high : h ≤ 4096
