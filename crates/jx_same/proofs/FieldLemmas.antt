-- The first field in which two codestreams differ, where a picture, a component or a band is looked at by itself.
use Rattle.std.proofs.Common.{◌≡◌, ◌∙◌, ◌==◌, ℕ, List, map, ap, refl, false, not, None}
use Rattle.std.proofs.lemmas.Bool.{eqb-true, not-false}
use Rattle.jx_base.proofs.Lists.{all_at, find_none}
use Rattle.std.specs.List.{find}
use Rattle.std.specs.Option.{option_map}
use Rattle.jx_base.specs.declared.names.Band.{Band}
use Rattle.jx_base.specs.declared.pieces.Block.{Block}
use Rattle.jx_codestream.specs.declared.Stream.{Stream}
use Rattle.jx_codestream.specs.Params.{params_of, step_of}
use Rattle.jx_codestream.specs.Shapes.{size_in}
use Rattle.jx_plan.specs.Meaning.{Component, component_of, meaning_of}
use Rattle.jx_same.specs.Items.{coding_fields, coding_items, differs, picture_fields, size_fields, size_items, spot_of_band, spot_of_component, step_fields, step_items}
use Rattle.jx_same.specs.declared.answer.Field.{Field}
use Rattle.jx_same.specs.declared.answer.Field.TheVariants as field
use Rattle.jx_same.specs.Sides.{AreAligned, AreBeside, SideValue, unlike_coding, unlike_picture, unlike_size, unlike_step}
use Rattle.jx_same.proofs.FindLemmas.{find_map}

module _ (s t : Stream) (x y : List Block) where
  pub picture_found : find (differs (meaning_of s x) (meaning_of t y)) (map (spot_of_component 0 0) picture_fields)
      ≡ option_map (spot_of_component 0 0) (find (unlike_picture s.siz t.siz) picture_fields)
  unfolding meaning_of
  picture_found = find_map (differs (meaning_of s x) (meaning_of t y)) (spot_of_component 0 0) picture_fields

  pub size_found : (c : ℕ) → find (differs (meaning_of s x) (meaning_of t y)) (size_items c)
      ≡ option_map (spot_of_component 0 c) (find (unlike_size (size_in s.siz c) (size_in t.siz c)) size_fields)
  unfolding meaning_of
  size_found c = find_map (differs (meaning_of s x) (meaning_of t y)) (spot_of_component 0 c) size_fields

  pub coding_found : (i c : ℕ) → find (differs (meaning_of s x) (meaning_of t y)) (coding_items i c)
      ≡ option_map (spot_of_component i c) (find (unlike_coding (component_of (params_of s i c)) (component_of (params_of t i c))) coding_fields)
  unfolding meaning_of
  coding_found i c = find_map (differs (meaning_of s x) (meaning_of t y)) (spot_of_component i c) coding_fields

  pub step_found : (i c r : ℕ) (b : Band) → find (differs (meaning_of s x) (meaning_of t y)) (step_items i c r b)
      ≡ option_map (spot_of_band i c r b) (find (unlike_step (step_of s i c r b) (step_of t i c r b)) step_fields)
  unfolding meaning_of
  step_found i c r b = find_map (differs (meaning_of s x) (meaning_of t y)) (spot_of_band i c r b) step_fields

-- ---- none of the fields of how a component is transformed differs
pub alike : (x y : ℕ) → not (x == y) ≡ false → x ≡ y
alike x y h = eqb-true x y (not-false (x == y) h)

component_by : ℕ → ℕ → ℕ → ℕ → ℕ → ℕ → Component
component_by l w t q g s = record { levels = l; wavelet = w; transform = t; quant = q; guard = g; shift = s }

by_same : (l l' w w' t t' q q' g g' s s' : ℕ) → l ≡ l' → w ≡ w' → t ≡ t' → q ≡ q' → g ≡ g' → s ≡ s' → component_by l w t q g s ≡ component_by l' w' t' q' g' s'
by_same l l' w w' t t' q q' g g' s s' e1 e2 e3 e4 e5 e6 = rw (e1, e2, e3, e4, e5, e6) refl

pub coding_same : (a b : Component) → find (unlike_coding a b) coding_fields ≡ None → a ≡ b
unfolding component_by
coding_same a b none =
    let all = find_none (unlike_coding a b) coding_fields none in
    let P : Field → Type 0 = λ f. unlike_coding a b f ≡ false in
    by_same a.levels b.levels a.wavelet b.wavelet a.transform b.transform a.quant b.quant a.guard b.guard a.shift b.shift
    (alike a.levels b.levels (all_at P coding_fields 0 field.Levels all refl)) (alike a.wavelet b.wavelet (all_at P coding_fields 1 field.Wavelet all refl))
    (alike a.transform b.transform (all_at P coding_fields 2 field.Transform all refl)) (alike a.quant b.quant (all_at P coding_fields 3 field.Quant all refl))
    (alike a.guard b.guard (all_at P coding_fields 4 field.Guard all refl)) (alike a.shift b.shift (all_at P coding_fields 5 field.Shift all refl))

pub aligned_from : (a b : SideValue) (c : ℕ) → AreBeside a b
    → find (unlike_coding (component_of (params_of a.stream a.tile c)) (component_of (params_of b.stream a.tile c))) coding_fields ≡ None → AreAligned a b c
unfolding meaning_of
aligned_from a b c beside none = record {
  beside = beside;
  component = coding_same (component_of (params_of a.stream a.tile c)) (component_of (params_of b.stream a.tile c)) none ∙ ap (λ (t : ℕ). component_of (params_of b.stream t c)) beside.tile;
}
