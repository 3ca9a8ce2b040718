-- What the bytes after a segment's length are for a value, and what value they stand for (T.800, A.4 to A.9).
use Rattle.std.specs.Prelude.{ℕ, ◌+◌, ◌-◌, ◌*◌, ◌/◌, ◌%◌, ◌==◌, zero, suc, List, [], ◌∷◌, ◌++◌, length, drop, min, if◌then◌else◌, slice_index}
use Rattle.std.specs.List.{flat_map}
use Rattle.byteorder.specs.Endian.{big_from, big_bytes}
use Rattle.jx_marker.specs.declared.CompSize.{CompSize}
use Rattle.jx_marker.specs.declared.Siz.{Siz}
use Rattle.jx_marker.specs.declared.Shape.{Shape}
use Rattle.jx_marker.specs.declared.Cod.{Cod}
use Rattle.jx_marker.specs.declared.Quant.{Quant}
use Rattle.jx_marker.specs.declared.Progression.{Progression}
use Rattle.jx_marker.specs.declared.Sot.{Sot}
use Rattle.jx_marker.specs.Markers.{index_size, entry_size, progression_size}

-- n values of this size, one after the other, from a place on
abbrev pub values_from : {A : Type 0} → (ℕ → List ℕ → A) → ℕ → ℕ → ℕ → List ℕ → List A
values_from value_at size zero at bytes = []
values_from value_at size (suc n) at bytes = value_at at bytes ∷ values_from value_at size n (at + size) bytes

-- SIZ (A.5.1)

abbrev pub comp_size_bytes : CompSize → List ℕ
comp_size_bytes comp = comp.ssiz ∷ comp.dx ∷ comp.dy ∷ []

abbrev pub comp_size_at : ℕ → List ℕ → CompSize
comp_size_at at bytes = record { ssiz = slice_index bytes at; dx = slice_index bytes (at + 1); dy = slice_index bytes (at + 2) }

-- the canvas, then the tiles
unfoldable pub canvas_bytes : Siz → List ℕ
canvas_bytes siz = big_bytes 4 siz.x1 ++ (big_bytes 4 siz.y1 ++ (big_bytes 4 siz.x0 ++ (big_bytes 4 siz.y0
    ++ (big_bytes 4 siz.tw ++ (big_bytes 4 siz.th ++ (big_bytes 4 siz.tx ++ big_bytes 4 siz.ty))))))

abbrev pub siz_bytes : Siz → List ℕ
siz_bytes siz = big_bytes 2 siz.rsiz ++ (canvas_bytes siz ++ (big_bytes 2 (length siz.comps) ++ flat_map comp_size_bytes siz.comps))

abbrev pub siz_at : List ℕ → Siz
siz_at body = record {
  rsiz = big_from 0 2 body;
  x1 = big_from 2 4 body;
  y1 = big_from 6 4 body;
  x0 = big_from 10 4 body;
  y0 = big_from 14 4 body;
  tw = big_from 18 4 body;
  th = big_from 22 4 body;
  tx = big_from 26 4 body;
  ty = big_from 30 4 body;
  comps = values_from comp_size_at 3 (big_from 34 2 body) 36 body;
}

-- COD and COC (A.6.1, A.6.2)

-- bit 0 of Scod and Scoc: whether precinct bytes follow
abbrev pub precinct_bit : Shape → ℕ
precinct_bit shape = min 1 (length shape.precincts)

-- from the number of levels on
abbrev pub shape_bytes : Shape → List ℕ
shape_bytes shape = shape.levels ∷ (shape.xcb - 2) ∷ (shape.ycb - 2) ∷ shape.style ∷ shape.wavelet ∷ shape.precincts

abbrev pub shape_at : ℕ → List ℕ → Shape
shape_at at body = record {
  levels = slice_index body at;
  xcb = slice_index body (at + 1) + 2;
  ycb = slice_index body (at + 2) + 2;
  style = slice_index body (at + 3);
  wavelet = slice_index body (at + 4);
  precincts = drop (at + 5) body;
}

-- bit 0 for precincts, bit 1 for SOP, bit 2 for EPH
abbrev pub scod : Cod → ℕ
scod cod = precinct_bit cod.shape + ((if cod.sop then 2 else 0) + (if cod.eph then 4 else 0))

abbrev pub cod_bytes : Cod → List ℕ
cod_bytes cod = scod cod ∷ cod.order ∷ (big_bytes 2 cod.layers ++ cod.transform ∷ shape_bytes cod.shape)

abbrev pub cod_at : List ℕ → Cod
cod_at body = record {
  sop = slice_index body 0 / 2 % 2 == 1;
  eph = slice_index body 0 / 4 % 2 == 1;
  order = slice_index body 1;
  layers = big_from 2 2 body;
  transform = slice_index body 4;
  shape = shape_at 5 body;
}

-- a component's index in front of what is said of it
abbrev pub index_bytes : ℕ → ℕ → List ℕ
index_bytes comps comp = big_bytes (index_size comps) comp

abbrev pub index_at : ℕ → ℕ → List ℕ → ℕ
index_at comps at body = big_from at (index_size comps) body

-- QCD and QCC (A.6.4, A.6.5)

abbrev pub quant_bytes : Quant → List ℕ
quant_bytes quant = quant.sqcd ∷ flat_map (big_bytes (entry_size quant.sqcd)) quant.entries

abbrev pub entry_at : ℕ → ℕ → List ℕ → ℕ
entry_at size at bytes = big_from at size bytes

abbrev pub quant_at : ℕ → List ℕ → Quant
quant_at at body = let size = entry_size (slice_index body at) in record {
  sqcd = slice_index body at;
  entries = values_from (entry_at size) size ((length body - (at + 1)) / size) (at + 1) body;
}

-- POC (A.6.6)

abbrev pub progression_bytes : ℕ → Progression → List ℕ
progression_bytes comps entry = entry.rs ∷ (index_bytes comps entry.cs ++ (big_bytes 2 entry.lye ++ entry.re ∷ (index_bytes comps entry.ce ++ entry.order ∷ [])))

abbrev pub progression_at : ℕ → ℕ → List ℕ → Progression
progression_at comps at body = record {
  rs = slice_index body at;
  cs = index_at comps (at + 1) body;
  lye = big_from (at + 1 + index_size comps) 2 body;
  re = slice_index body (at + 3 + index_size comps);
  ce = index_at comps (at + 4 + index_size comps) body;
  order = slice_index body (at + 4 + 2 * index_size comps);
}

abbrev pub poc_bytes : ℕ → List Progression → List ℕ
poc_bytes comps entries = flat_map (progression_bytes comps) entries

abbrev pub poc_at : ℕ → List ℕ → List Progression
poc_at comps body = values_from (progression_at comps) (progression_size comps) (length body / progression_size comps) 0 body

-- SOT (A.4.2)

abbrev pub sot_bytes : Sot → List ℕ
sot_bytes sot = big_bytes 2 sot.tile ++ (big_bytes 4 sot.psot ++ sot.part ∷ sot.parts ∷ [])

abbrev pub sot_at : List ℕ → Sot
sot_at body = record { tile = big_from 0 2 body; psot = big_from 2 4 body; part = slice_index body 6; parts = slice_index body 7 }
