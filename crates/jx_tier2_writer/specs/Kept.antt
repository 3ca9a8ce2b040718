-- What the file that is written anew keeps of the file that was read (ITU-T T.800, A.5, A.6, B.3 and E.1).
use Rattle.std.specs.Prelude.{◌≡◌, ◌<◌, ℕ, false, List, map, Some, slice_get}
use Rattle.std.specs.List.{filter, list_any}
use Rattle.jx_base.specs.declared.names.Band.{Band}
use Rattle.jx_base.specs.declared.pieces.Block.{Block}
use Rattle.jx_codestream.specs.declared.Stream.{Stream}
use Rattle.jx_codestream.specs.First.{tile_number}
use Rattle.jx_codestream.specs.Params.{header_of, params_of, planes_at, step_of}
use Rattle.jx_codestream.specs.Read.{IsRead}
use Rattle.jx_codestream.specs.Shapes.{geometry, shapes_of, tile_at}
use Rattle.jx_tier2_reader.specs.Gathered.{IsGathered}
use Rattle.jx_tier2_reader.specs.WellFormed.{IsWellFormed}
use Rattle.jx_plan.specs.Asides.{is_informational, is_left_out}
use Rattle.jx_plan.specs.Headers.{comp_written, params_written, rsiz_written, with_layers}
use Rattle.jx_plan.specs.Meaning.{meaning_of}
use Rattle.jx_codeblock.specs.FirstLayers.{HasFirstLayers}
use Rattle.jx_plan.specs.Layers.{ends_of}
use Rattle.jx_plan.specs.Plan.{headers_with}
use Rattle.jx_layers.specs.Rule.{Rule}
use Rattle.jx_plan.specs.Planned.{blocks_written, layers_of_rule}
use Rattle.jx_options.specs.Wanted.{Wanted}
use Rattle.jx_tier2_writer.specs.Strict.{IsStrict}

-- the stream that is read of the new file, in the layers of a rule, beside the one before: a well-formed codestream, strictly made, with
-- just these code-blocks as they are written, and without what points to bytes of the input; SIZ but for Rsiz; each component's parameters but for the order, the layers, the precincts
-- and the style; the steps; the places of tiles and bands; the same meaning: each coefficient has its sign, magnitude bits and decoded
-- planes; and in the first layers of each block the passes that the rule puts there, with their final values
pub record IsKeptIn (w : Wanted) (rule : Rule) (before after : Stream) (blocks : List Block) (out : List ℕ) : Type 0 where
  pub read : IsRead out after
  pub gathered : IsGathered out after (blocks_written w rule before blocks)
  pub formed : IsWellFormed out
  pub strict : IsStrict w.marks out after
  -- a reader takes the packets of each tile in the order of the entries in which they were written
  pub orders : (t : ℕ) → t < tile_number before.siz
      → (tile_at after t).progressions ≡ (tile_at (headers_with w (layers_of_rule rule before blocks) before) t).progressions
  -- no TLM, PLM, PPM, PPT or skipped marker, in the main header before its index and in each tile's; the main header's CRG and
  -- COM, in their order
  pub left_main : list_any is_left_out strict.front ≡ false
  pub left_header : (t : ℕ) → t < tile_number before.siz → list_any is_left_out (header_of after t) ≡ false
  pub informs : filter is_informational after.main ≡ filter is_informational before.main
  pub siz : after.siz ≡ record before.siz { rsiz = rsiz_written w.rsiz before.siz.rsiz }
  pub params : (t c : ℕ) → params_of after t c ≡ params_written (with_layers w (layers_of_rule rule before blocks)) (params_of before t c)
  pub steps : (t c r : ℕ) (band : Band) → step_of after t c r band ≡ step_of before t c r band
  pub planes : (t c r : ℕ) (band : Band) → planes_at after t c r band ≡ planes_at before t c r band
  pub places : (t : ℕ) → geometry after t ≡ record (geometry before t) { shapes = map (comp_written w.precincts) (shapes_of before t) }
  pub meaning : meaning_of after (blocks_written w rule before blocks) ≡ meaning_of before blocks
  pub first : (k layer : ℕ) (b : Block) → slice_get blocks k ≡ Some b → HasFirstLayers w.style (ends_of rule (layers_of_rule rule before blocks) blocks k b) b layer
