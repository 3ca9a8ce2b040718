-- Two headers in which the same segments are found give the same parameters.
use Rattle.std.proofs.Common.{◌≡◌, ◌<◌, ◌+◌, ◌*◌, ℕ, Bool, arith, List, map, length, refl, ap, Option}
use Rattle.std.proofs.Math.Path.{fun_ext}
use Rattle.std.specs.List.{flat_map, list_any, range_with_len}
use Rattle.std.specs.Option.{option_or}
use Rattle.jx_base.specs.declared.names.Band.{Band}
use Rattle.jx_marker.specs.declared.Segment.{Segment}
use Rattle.jx_marker.specs.declared.Siz.{Siz}
use Rattle.jx_geom.specs.declared.shape.CompShape.{CompShape}
use Rattle.jx_codestream.specs.declared.Params.{Params}
use Rattle.jx_codestream.specs.declared.Tile.{Tile}
use Rattle.jx_codestream.specs.Tiles.{in_slot}
use Rattle.jx_codestream.specs.Params.{chosen, shape_of, quant_of, shift_of, cod_of, has_too_few, band_planes, header_has_too_few, header_planes, tile_has_too_few, tile_planes, shape_in, quant_in, shift_in, cod_in, params_by, planes_by, step_by}
use Rattle.jx_codestream.specs.Shapes.{comp_shape, shapes_in, size_in, shape_from}

abbrev pub AreAlike : List Segment → List Segment → Type 0
AreAlike own other = (slot : ℕ) → 0 < slot → in_slot slot own ≡ in_slot slot other

module _ (own other : List Segment) (alike : AreAlike own other) where
  chosen_alike : (slot default : ℕ) (main : List Segment) → 0 < slot → 0 < default → chosen slot default own main ≡ chosen slot default other main
  chosen_alike slot default main a b = rw (alike slot a, alike default b) refl

  pub shape_alike : (main : List Segment) (comp : ℕ) → shape_of own main comp ≡ shape_of other main comp
  shape_alike main comp = ap shape_in (chosen_alike (261 + 3 * comp) 1 main (omega arith) (omega arith))

  pub quant_alike : (main : List Segment) (comp : ℕ) → quant_of own main comp ≡ quant_of other main comp
  quant_alike main comp = ap quant_in (chosen_alike (262 + 3 * comp) 2 main (omega arith) (omega arith))

  pub shift_alike : (main : List Segment) (comp : ℕ) → shift_of own main comp ≡ shift_of other main comp
  shift_alike main comp = ap (λ (x : Option Segment). shift_in (option_or x (in_slot (263 + 3 * comp) main))) (alike (263 + 3 * comp) (omega arith))

  pub cod_alike : (main : List Segment) → cod_of own main ≡ cod_of other main
  cod_alike main = ap (λ (x : Option Segment). cod_in (option_or x (in_slot 1 main))) (alike 1 (omega arith))

  pub params_alike : (main : List Segment) (comp : ℕ) → params_by own main comp ≡ params_by other main comp
  params_alike main comp = rw (shape_alike main comp, cod_alike main, quant_alike main comp, shift_alike main comp) refl

  pub planes_alike : (main : List Segment) (comp res : ℕ) (band : Band) → planes_by own main comp res band ≡ planes_by other main comp res band
  planes_alike main comp res band = rw (shape_alike main comp, quant_alike main comp, shift_alike main comp) refl

  pub step_alike : (main : List Segment) (comp res : ℕ) (band : Band) → step_by own main comp res band ≡ step_by other main comp res band
  step_alike main comp res band = rw (shape_alike main comp, quant_alike main comp) refl

  few_at : (main : List Segment) (comp : ℕ) → has_too_few (quant_of own main comp) (shape_of own main comp) ≡ has_too_few (quant_of other main comp) (shape_of other main comp)
  few_at main comp = rw (quant_alike main comp, shape_alike main comp) refl

  bands_at : (main : List Segment) (comp : ℕ) → band_planes (quant_of own main comp) (shape_of own main comp) (shift_of own main comp) ≡ band_planes (quant_of other main comp) (shape_of other main comp) (shift_of other main comp)
  bands_at main comp = rw (quant_alike main comp, shape_alike main comp, shift_alike main comp) refl

  pub few_alike : (main : List Segment) (comps : ℕ) → header_has_too_few main comps own ≡ header_has_too_few main comps other
  few_alike main comps =
      ap (λ (f : ℕ → Bool). list_any f (range_with_len 0 comps)) (fun_ext (few_at main))

  pub all_planes_alike : (main : List Segment) (comps : ℕ) → header_planes main comps own ≡ header_planes main comps other
  all_planes_alike main comps =
      ap (λ (f : ℕ → List ℕ). flat_map f (range_with_len 0 comps)) (fun_ext (bands_at main))

  pub shapes_alike : (siz : Siz) (main : List Segment) → shapes_in (record { siz = siz; main = main; own = own }) ≡ shapes_in (record { siz = siz; main = main; own = other })
  unfolding shapes_in
  shapes_alike siz main =
      let same : comp_shape (record { siz = siz; main = main; own = own }) ≡ comp_shape (record { siz = siz; main = main; own = other }) =
      fun_ext (λ comp. ap (λ (p : Params). shape_from (size_in siz comp) p) (params_alike main comp)) in
      ap (λ (f : ℕ → CompShape). map f (range_with_len 0 (length siz.comps))) same

-- two main headers in which the same segments are found, under one header of a tile
module _ (main later : List Segment) (alike : AreAlike main later) where
  chosen_main : (slot default : ℕ) (own : List Segment) → 0 < slot → 0 < default → chosen slot default own main ≡ chosen slot default own later
  chosen_main slot default own a b = rw (alike slot a, alike default b) refl

  shape_main : (own : List Segment) (comp : ℕ) → shape_of own main comp ≡ shape_of own later comp
  shape_main own comp = ap shape_in (chosen_main (261 + 3 * comp) 1 own (omega arith) (omega arith))

  quant_main : (own : List Segment) (comp : ℕ) → quant_of own main comp ≡ quant_of own later comp
  quant_main own comp = ap quant_in (chosen_main (262 + 3 * comp) 2 own (omega arith) (omega arith))

  shift_main : (own : List Segment) (comp : ℕ) → shift_of own main comp ≡ shift_of own later comp
  shift_main own comp = ap (λ (x : Option Segment). shift_in (option_or (in_slot (263 + 3 * comp) own) x)) (alike (263 + 3 * comp) (omega arith))

  pub cod_main : (own : List Segment) → cod_of own main ≡ cod_of own later
  cod_main own = ap (λ (x : Option Segment). cod_in (option_or (in_slot 1 own) x)) (alike 1 (omega arith))

  pub params_main : (own : List Segment) (comp : ℕ) → params_by own main comp ≡ params_by own later comp
  params_main own comp = rw (shape_main own comp, cod_main own, quant_main own comp, shift_main own comp) refl

  pub planes_main : (own : List Segment) (comp res : ℕ) (band : Band) → planes_by own main comp res band ≡ planes_by own later comp res band
  planes_main own comp res band = rw (shape_main own comp, quant_main own comp, shift_main own comp) refl

  pub step_main : (own : List Segment) (comp res : ℕ) (band : Band) → step_by own main comp res band ≡ step_by own later comp res band
  step_main own comp res band = rw (shape_main own comp, quant_main own comp) refl

  few_main_at : (own : List Segment) (comp : ℕ) → has_too_few (quant_of own main comp) (shape_of own main comp) ≡ has_too_few (quant_of own later comp) (shape_of own later comp)
  few_main_at own comp = rw (quant_main own comp, shape_main own comp) refl

  bands_main_at : (own : List Segment) (comp : ℕ) → band_planes (quant_of own main comp) (shape_of own main comp) (shift_of own main comp) ≡ band_planes (quant_of own later comp) (shape_of own later comp) (shift_of own later comp)
  bands_main_at own comp = rw (quant_main own comp, shape_main own comp, shift_main own comp) refl

  few_main : (comps : ℕ) (own : List Segment) → header_has_too_few main comps own ≡ header_has_too_few later comps own
  few_main comps own = ap (λ (f : ℕ → Bool). list_any f (range_with_len 0 comps)) (fun_ext (few_main_at own))

  bands_main : (comps : ℕ) (own : List Segment) → header_planes main comps own ≡ header_planes later comps own
  bands_main comps own = ap (λ (f : ℕ → List ℕ). flat_map f (range_with_len 0 comps)) (fun_ext (bands_main_at own))

  pub too_few_main : (comps : ℕ) → tile_has_too_few main comps ≡ tile_has_too_few later comps
  unfolding tile_has_too_few
  too_few_main comps = fun_ext (λ (t : Tile). few_main comps t.header)

  pub tile_planes_main : (comps : ℕ) → tile_planes main comps ≡ tile_planes later comps
  unfolding tile_planes
  tile_planes_main comps = fun_ext (λ (t : Tile). bands_main comps t.header)

  pub shapes_main : (siz : Siz) (own : List Segment) → shapes_in (record { siz = siz; main = main; own = own }) ≡ shapes_in (record { siz = siz; main = later; own = own })
  unfolding shapes_in
  shapes_main siz own =
      let same : comp_shape (record { siz = siz; main = main; own = own }) ≡ comp_shape (record { siz = siz; main = later; own = own }) =
      fun_ext (λ comp. ap (λ (p : Params). shape_from (size_in siz comp) p) (params_main own comp)) in
      ap (λ (f : ℕ → CompShape). map f (range_with_len 0 (length siz.comps))) same
