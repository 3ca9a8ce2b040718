-- The code-blocks of the stream that is written: each is its stream's own, as it is written in the layers that a rule gives it.
use Rattle.std.proofs.Common.{◌≡◌, ◌∙◌, ◌<◌, ◌≤◌, ℕ, false, List, length, refl, sym, ap, subst, arith, slice_index_or, Option, None, Some}
use Rattle.std.specs.List.{All, slice_get}
use Rattle.std.specs.Option.{option_map}
use Rattle.std.proofs.lemmas.List.Elements.{All-weaker}
use Rattle.std.proofs.lemmas.Option.{get_or_from_slice_get, slice_get-get_or, slice_get_within}
use Rattle.jx_base.specs.declared.names.BlockName.{BlockName}
use Rattle.jx_base.specs.declared.pieces.Block.{Block}
use Rattle.jx_base.specs.declared.style.Style.{Style}
use Rattle.jx_base.specs.Pieces.{PieceValue}
use Rattle.jx_base.specs.Sound.{IsSound}
use Rattle.jx_base.proofs.Lists.{same_gets, all_at}
use Rattle.jx_geom.specs.Numbering.{IsBlock, block_number}
use Rattle.jx_codestream.specs.declared.Stream.{Stream}
use Rattle.jx_codestream.specs.First.{canvas_of}
use Rattle.jx_codestream.specs.Params.{planes_at}
use Rattle.jx_codestream.specs.Shapes.{layers_of, shapes_of, style_of}
use Rattle.jx_tier2_reader.specs.Another.{rect_in}
use Rattle.jx_tier2_reader.specs.BlockOf.{AreBlocksOf, IsBlockOf, IsFoundOf, pieces_at}
use Rattle.jx_tier2_reader.specs.BlockOf.{AreCutAsRead}
use Rattle.jx_codeblock.specs.declared.LayerEnd.{LayerEnd}
use Rattle.jx_codeblock.specs.Jobs.{IsAsked}
use Rattle.jx_codeblock.specs.Laws.{AreCutInLayers, asked_at}
use Rattle.jx_codeblock.specs.Written.{is_wrong, style_for, written_in}
use Rattle.jx_plan.specs.Causal.{first_broken}
use Rattle.jx_plan.specs.Facts.{most_layers}
use Rattle.jx_plan.specs.Layers.{ends_of, written_by}
use Rattle.jx_layers.specs.Rule.{Rule}
use Rattle.jx_layers.specs.Rule.Rule.{Keep}
use Rattle.jx_plan.proofs.FactLemmas.{layers_most}
use Rattle.jx_plan.specs.Fits.{Fits}
use Rattle.jx_plan.specs.Headers.{HeaderOptions, style_written, with_layers}
use Rattle.jx_plan.specs.Plan.{MayBePlanned, headers_with}
use Rattle.jx_plan.specs.Planned.{IsCrowded, blocks_written, layers_of_rule}
use Rattle.jx_plan.specs.Standing.{HeadersStand}
use Rattle.jx_options.specs.Wanted.{Wanted}
use Rattle.jx_plan.proofs.BlockLemmas.{number_same, rect_same, there, totals_same}
use Rattle.jx_plan.proofs.LayerLaws.{CrowdLaws, EndLaws, InLayers, KeepsOwn, WrittenLaws}
use Rattle.jx_plan.proofs.PlanLemmas.{block_at, some_layers, sound_at, whole_at}
use Rattle.jx_plan.proofs.StreamLemmas.{canvas_stays, layers_are, planes_stay, style_stays}
use Rattle.jx_plan.proofs.ViewLemmas.{written_shapes}

-- ---- how pieces are cut, as they are read and as they are written
cut_as_read : (style : ℕ) (ps : List PieceValue) → AreCutAsRead style ps → AreCutInLayers style ps
unfolding pieces_at
cut_as_read style ps cuts layer = cuts layer

cut_as_written : (style : ℕ) (ps : List PieceValue) → AreCutInLayers style ps → AreCutAsRead style ps
unfolding pieces_at
cut_as_written style ps cuts layer = cuts layer

-- ---- one block
-- the other stream has the block of a name too, in the style that is asked
record IsInStyle (s other : Stream) (asked : Option Style) (n : BlockName) : Type 0 where
  rect : rect_in s n ≡ rect_in other n
  planes : planes_at s n.tile n.comp n.res n.band ≡ planes_at other n.tile n.comp n.res n.band
  style : (style_written asked (record { bits = style_of s n.tile n.comp })).bits ≡ style_of other n.tile n.comp

-- it may be written in some layers, of which there are enough, with so few passes in each as a packet header can tell
record IsWritable (asked : Option Style) (most : ℕ) (b : Block) (ends : List LayerEnd) : Type 0 where
  may : IsAsked b (style_for asked b) ends
  right : is_wrong asked b ≡ false
  below : All (λ (e : LayerEnd). e.layer < most) ends
  few : (layer : ℕ) → asked_at layer 0 ends ≤ 164

module _ (own : InLayers) (asked : Option Style) where
  style_of_written : (o : Option Style) (ends : List LayerEnd) (b : Block) → is_wrong o b ≡ false → (written_in o ends b).style ≡ style_written o b.style
  style_of_written None ends b right = own.kept ends b
  style_of_written (Some style) ends b right = own.style style ends b right

  written_of : (s other : Stream) (n : BlockName) (ends : List LayerEnd) (b : Block) → IsInStyle s other asked n → IsWritable asked (layers_of other n.tile) b ends → IsBlockOf s n b
      → IsBlockOf other n (written_in asked ends b)
  written_of s other n ends b to is_so is = record {
    name = own.name asked ends b ∙ is.name;
    rect = own.rect asked ends b ∙ is.rect ∙ to.rect;
    planes = own.planes asked ends b ∙ is.planes ∙ to.planes;
    style = ap (λ (x : Style). x.bits) (style_of_written asked ends b is_so.right) ∙ ap (λ (bits : ℕ). (style_written asked (record { bits = bits })).bits) is.style ∙ to.style;
    empty = λ none. own.zero asked ends b ∙ is.empty (own.empty asked ends b is_so.may none) ∙ sym (own.planes asked ends b);
    layers = own.layers asked ends b (layers_of other n.tile) is_so.may is_so.right is_so.below;
    few = λ layer. omega (arith, is_so.few layer, own.each asked ends b layer is_so.may is_so.right);
    cuts = cut_as_written (written_in asked ends b).style.bits (written_in asked ends b).pieces (own.cuts asked ends b is_so.may is_so.right);
  }

found_of : (s other : Stream) (n : BlockName) (f : Block → Block) (o : Option Block) → ((b : Block) → o ≡ Some b → IsBlockOf s n b → IsBlockOf other n (f b)) → IsFoundOf s n o
    → IsFoundOf other n (option_map f o)
found_of s other n f None each is = is
found_of s other n f (Some b) each is = each b refl is

-- ---- the blocks by a rule
module _ (ends : EndLaws) (w : Wanted) (r : Rule) (s : Stream) (blocks : List Block) (some : 1 ≤ layers_of_rule r s blocks) (sound : All IsSound blocks)
    (whole : first_broken w.style blocks ≡ None) where
  may_be_written : (i : ℕ) (b : Block) → slice_get blocks i ≡ Some b → IsAsked b (style_for w.style b) (ends_of r (layers_of_rule r s blocks) blocks i b)
  may_be_written i b is =
      let inside = slice_get_within blocks i b is in
      ends.asked w.style r (layers_of_rule r s blocks) blocks i b some (sound_at blocks i b sound is inside) (whole_at w.style blocks i b whole is inside)

module _ (own : InLayers) (ends : EndLaws) (written : WrittenLaws) (crowds : CrowdLaws) (w : Wanted) (r : Rule) (s : Stream) (blocks : List Block)
    (some : 1 ≤ layers_of_rule r s blocks) (fits : Fits w.precincts s) (stand : HeadersStand s) (are : AreBlocksOf s blocks) (sound : All IsSound blocks)
    (whole : first_broken w.style blocks ≡ None) (right : All (λ (b : Block). is_wrong w.style b ≡ false) blocks) (uncrowded : IsCrowded r s blocks None) where
  abbrev layers : ℕ
  layers = layers_of_rule r s blocks

  abbrev a : HeaderOptions
  a = with_layers w layers

  abbrev other : Stream
  other = headers_with w layers s

  in_style : (n : BlockName) → IsBlock (canvas_of other.siz) (shapes_of other) n → IsInStyle s other w.style n
  in_style n is = record {
    rect = rect_same s other (canvas_stays a s) (written_shapes a s fits stand) n is;
    planes = sym (planes_stay a s stand n.tile n.comp n.res n.band);
    style = sym (style_stays a s stand n.tile n.comp);
  }

  writable : (n : BlockName) (i : ℕ) (b : Block) → slice_get blocks i ≡ Some b → IsWritable w.style (layers_of other n.tile) b (ends_of r layers blocks i b)
  writable n i b is = record {
    may = may_be_written ends w r s blocks some sound whole i b is;
    right = all_at (λ (x : Block). is_wrong w.style x ≡ false) blocks i b right is;
    below = subst (λ (most : ℕ). All (λ (e : LayerEnd). e.layer < most) (ends_of r layers blocks i b)) (sym (layers_are a s stand n.tile)) (ends.written r layers blocks i b some);
    few = λ layer. crowds.few r layers blocks i b layer uncrowded is;
  }

  found_at : (n : BlockName) → IsBlock (canvas_of other.siz) (shapes_of other) n
      → IsFoundOf other n (slice_get (blocks_written w r s blocks) (block_number (canvas_of other.siz) (shapes_of other) n))
  found_at n is =
      let i : ℕ = block_number (canvas_of s.siz) (shapes_of s) n in
      let here = there s other (canvas_stays a s) (written_shapes a s fits stand) n is in
      let f : Block → Block = λ b. written_in w.style (ends_of r layers blocks i b) b in
      let found : IsFoundOf other n (option_map f (slice_get blocks i)) =
      found_of s other n f (slice_get blocks i) (λ b at of. written_of own w.style s other n (ends_of r layers blocks i b) b (in_style n is) (writable n i b at) of) (are.each n here) in
      let at : IsFoundOf other n (slice_get (blocks_written w r s blocks) i) = subst (IsFoundOf other n) (sym (written.each w.style r layers blocks i)) found in
      subst (λ (k : ℕ). IsFoundOf other n (slice_get (blocks_written w r s blocks) k)) (number_same s other (canvas_stays a s) (written_shapes a s fits stand) n is) at

  pub written_stand : AreBlocksOf other (blocks_written w r s blocks)
  written_stand = record {
    all = written.count w.style r layers blocks ∙ are.all ∙ totals_same s other (canvas_stays a s) (written_shapes a s fits stand);
    each = found_at;
  }

-- ---- what holds of each of them
all_written : WrittenLaws → (style : Option Style) (r : Rule) (layers : ℕ) (blocks : List Block) (P : Block → Type 0)
    → ((n : ℕ) (b : Block) → slice_get blocks n ≡ Some b → P (written_in style (ends_of r layers blocks n b) b)) → All P (written_by style r layers blocks)
all_written written style r layers blocks P each = λ n d inside.
    let within : n < length blocks = omega (arith, inside, written.count style r layers blocks) in
    let b : Block = slice_index_or blocks n d in
    let at : slice_get blocks n ≡ Some b = slice_get-get_or blocks n d within in
    let f : Block → Block = λ x. written_in style (ends_of r layers blocks n x) x in
    let is : slice_get (written_by style r layers blocks) n ≡ Some (f b) = written.each style r layers blocks n ∙ ap (option_map f) at in
    subst P (sym (get_or_from_slice_get (written_by style r layers blocks) n (f b) d is)) (each n b at)

pub written_sound : InLayers → EndLaws → WrittenLaws → (w : Wanted) (r : Rule) (s : Stream) (blocks : List Block) → 1 ≤ layers_of_rule r s blocks → All IsSound blocks
    → first_broken w.style blocks ≡ None → All IsSound (blocks_written w r s blocks)
written_sound own ends written w r s blocks some sound whole =
    let layers : ℕ = layers_of_rule r s blocks in
    all_written written w.style r layers blocks IsSound
    (λ n b at. own.sound w.style (ends_of r layers blocks n b) b (may_be_written ends w r s blocks some sound whole n b at))

-- ---- by the rule that keeps, where no style is asked
module _ (own : InLayers) (keeps : KeepsOwn) (ends : EndLaws) (written : WrittenLaws) (s : Stream) (blocks : List Block) (may : MayBePlanned s blocks) where
  abbrev most : ℕ
  most = most_layers s

  kept_at : (n : ℕ) (b : Block) → slice_get blocks n ≡ Some b → written_in None (ends_of Keep most blocks n b) b ≡ b
  kept_at n b at =
      let inside = slice_get_within blocks n b at in
      let block = block_at s blocks n b may.blocks_are at inside in
      let sound = sound_at blocks n b may.sound at inside in
      let reach = layers_most s block.0.tile block.1.0.0 in
      let below : All (λ (p : PieceValue). p.layer < most) b.pieces =
      All-weaker (λ (p : PieceValue). p.layer < layers_of s block.0.tile) (λ (p : PieceValue). p.layer < most) (λ p lt. omega (arith, reach, lt)) b.pieces block.1.1.layers in
      ap (λ (list : List LayerEnd). written_in None list b) (ends.kept most blocks n b (some_layers s may.range) sound below)
      ∙ sym (own.own None b) ∙ keeps b sound (cut_as_read b.style.bits b.pieces block.1.1.cuts)

  kept_each : (n : ℕ) → slice_get (written_by None Keep most blocks) n ≡ slice_get blocks n
  kept_each n = written.each None Keep most blocks n ∙ same (slice_get blocks n) (kept_at n)
    where
      same : (o : Option Block) → ((b : Block) → o ≡ Some b → written_in None (ends_of Keep most blocks n b) b ≡ b)
          → option_map (λ (b : Block). written_in None (ends_of Keep most blocks n b) b) o ≡ o
      same None each = refl
      same (Some b) each = ap Some (each b refl)

  pub written_kept : (w : Wanted) → w.style ≡ None → blocks_written w Keep s blocks ≡ blocks
  written_kept w plain =
      ap (λ (style : Option Style). written_by style Keep most blocks) plain
      ∙ same_gets (written_by None Keep most blocks) blocks (written.count None Keep most blocks) (λ n inside. kept_each n)
