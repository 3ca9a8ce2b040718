-- A block as it is written in layers that are asked of it.
use Rattle.std.proofs.Common.{◌≡◌, ℕ, ◌-◌, ◌+◌, ◌<◌, ◌≤◌, ◌==◌, false, List, [], ◌∷◌, inl, inr, ◌∙◌, ap, sym, subst, refl, arith, Option, Some, None}
use Rattle.std.specs.List.{All}
use Rattle.std.proofs.lemmas.Bool.{cases_Bool, cond-true, cond-false, eqb-true, ne_eqb}
use Rattle.jx_base.specs.declared.pieces.Block.{Block}
use Rattle.jx_base.specs.declared.style.Style.{Style}
use Rattle.jx_base.specs.Pieces.{ArePieces, PieceValue, passes_at}
use Rattle.jx_base.specs.Sound.{IsSound}
use Rattle.jx_codeblock.specs.declared.LayerEnd.{LayerEnd}
use Rattle.jx_codeblock.specs.Jobs.{AreEnds, IsAsked}
use Rattle.jx_codeblock.specs.Laws.{AreCutInLayers, asked_at}
use Rattle.jx_codeblock.specs.Recoding.{Recoding, layer_ends, new_style, recoded_pieces, recoding}
use Rattle.jx_codeblock.specs.Written.{block_with, is_wrong, own_cells, style_for, written_in}
use Rattle.jx_codeblock.proofs.GroupLemmas.{none_left}
use Rattle.jx_codeblock.proofs.MadeBlocks.{AnewKeeps, in_has, made_cells, made_cut, made_ends, made_layers, made_sound, made_style, right_makes_some, style_asked}
use Rattle.jx_codeblock.proofs.MadeJobs.{all_sound}
use Rattle.jx_codeblock.proofs.ShareLemmas.{share, share_is}

-- ---- what holds of it where something is made of it
pub in_made : (P : Block → Type 0) (asked : Option Style) (ends : List LayerEnd) (b : Block) → is_wrong asked b ≡ false
    → ((r : Recoding) → Some r ≡ recoding b (style_for asked b) ends → P (block_with b (Some r))) → P (written_in asked ends b)
in_made P asked ends b right made = in_has P asked ends b (λ none. absurd (right_makes_some asked b ends right none)) made

-- ---- the block
pub in_same : {X : Type 0} (f : Block → X) (asked : Option Style) (ends : List LayerEnd) (b : Block) → ((r : Recoding) → f (block_with b (Some r)) ≡ f b)
    → f (written_in asked ends b) ≡ f b
in_same f asked ends b same = in_has (λ (c : Block). f c ≡ f b) asked ends b (λ none. refl) (λ (r : Recoding) made. same r)

pub in_sound : (asked : Option Style) (ends : List LayerEnd) (b : Block) → IsAsked b (style_for asked b) ends → IsSound (written_in asked ends b)
in_sound asked ends b is =
    in_has (λ (c : Block). IsSound c) asked ends b (λ none. is.sound) (λ (r : Recoding) made. made_sound b (style_for asked b) ends r is made)

pub in_cells : AnewKeeps → (asked : Option Style) (ends : List LayerEnd) (b : Block) → IsAsked b (style_for asked b) ends → own_cells (written_in asked ends b) ≡ own_cells b
in_cells keeps asked ends b is =
    in_has (λ (c : Block). own_cells c ≡ own_cells b) asked ends b (λ none. refl) (λ (r : Recoding) made. made_cells keeps b (style_for asked b) ends r is made)

same_style : (bits : ℕ) (style : Style) → bits ≡ style.bits → ◌≡◌ {A = Style} (record { bits = bits }) style
same_style bits style e = ap (λ (n : ℕ). record { bits = n }) e

pub in_style : (asked : Style) (ends : List LayerEnd) (b : Block) → is_wrong (Some asked) b ≡ false → (written_in (Some asked) ends b).style ≡ asked
in_style asked ends b right =
    in_made (λ (c : Block). c.style ≡ asked) (Some asked) ends b right
    (λ (r : Recoding) made. same_style r.style asked (made_style b (style_for (Some asked) b) ends r made ∙ style_asked asked b))

pub in_kept : (ends : List LayerEnd) (b : Block) → (written_in None ends b).style ≡ b.style
in_kept ends b =
    in_has (λ (c : Block). c.style ≡ b.style) None ends b (λ none. refl) (λ (r : Recoding) made. same_style r.style b.style (made_style b None ends r made))

-- ---- its pieces
pub in_empty : (asked : Option Style) (ends : List LayerEnd) (b : Block) → IsAsked b (style_for asked b) ends → (written_in asked ends b).pieces ≡ [] → b.pieces ≡ []
in_empty asked ends b is =
    in_has (λ (c : Block). c.pieces ≡ [] → b.pieces ≡ []) asked ends b (λ none e. e)
    (λ (r : Recoding) made (e : recoded_pieces r ≡ []).
    let style : Option Style = style_for asked b in
    let are : ArePieces (new_style b style) 0 0 b.passes (recoded_pieces r) = all_sound b style ends r is made in
    let nothing : 0 ≡ b.passes = subst (λ (ps : List PieceValue). ArePieces (new_style b style) 0 0 b.passes ps) e are in
    none_left b.style.bits 0 0 b.passes b.pieces is.sound.pieces (omega arith))

pub in_layers : (P : ℕ → Type 0) (asked : Option Style) (ends : List LayerEnd) (b : Block) → is_wrong asked b ≡ false → All (λ (e : LayerEnd). P e.layer) ends
    → All (λ (p : PieceValue). P p.layer) (written_in asked ends b).pieces
in_layers P asked ends b right each =
    in_made (λ (c : Block). All (λ (p : PieceValue). P p.layer) c.pieces) asked ends b right
    (λ (r : Recoding) made. made_layers P b (style_for asked b) ends r made each)

pub in_ends : (asked : Option Style) (ends : List LayerEnd) (b : Block) → IsAsked b (style_for asked b) ends → is_wrong asked b ≡ false
    → layer_ends (written_in asked ends b).pieces ≡ ends
in_ends asked ends b is right =
    in_made (λ (c : Block). layer_ends c.pieces ≡ ends) asked ends b right (λ (r : Recoding) made. made_ends b (style_for asked b) ends r is made)

pub in_cut : (asked : Option Style) (ends : List LayerEnd) (b : Block) → IsAsked b (style_for asked b) ends → is_wrong asked b ≡ false
    → AreCutInLayers (written_in asked ends b).style.bits (written_in asked ends b).pieces
in_cut asked ends b is right =
    in_made (λ (c : Block). AreCutInLayers c.style.bits c.pieces) asked ends b right (λ (r : Recoding) made. made_cut b (style_for asked b) ends r is made)

-- ---- how many passes each layer has
share_past : (m layer first all before : ℕ) (ends : List LayerEnd) → m < layer → AreEnds layer first all ends → share m before ends ≡ 0
share_past m layer first all before [] lt are = refl
share_past m layer first all before (e ∷ ends) lt are =
    let le : layer ≤ e.layer = are.0 in
    cond-false (e.layer == m) ((e.passes - before) + share m e.passes ends) (share m e.passes ends) (ne_eqb e.layer m (λ (same : e.layer ≡ m). omega arith))
    ∙ share_past m (e.layer + 1) e.passes all e.passes ends (omega arith) are.2

share_asked : (m layer first all : ℕ) (ends : List LayerEnd) → AreEnds layer first all ends → share m first ends ≡ asked_at m first ends
share_asked m layer first all [] are = refl
share_asked m layer first all (e ∷ ends) are =
    let own : ℕ = e.passes - first in
    elim (cases_Bool (e.layer == m)) [
      | inl t ↦
          let same : e.layer ≡ m = eqb-true e.layer m t in
          let past : share m e.passes ends ≡ 0 = share_past m (e.layer + 1) e.passes all e.passes ends (omega arith) are.2 in
          cond-true (e.layer == m) (own + share m e.passes ends) (share m e.passes ends) t ∙ omega arith
          ∙ sym (cond-true (e.layer == m) own (asked_at m e.passes ends) t)
      | inr f ↦
          cond-false (e.layer == m) (own + share m e.passes ends) (share m e.passes ends) f
          ∙ share_asked m (e.layer + 1) e.passes all ends are.2
          ∙ sym (cond-false (e.layer == m) own (asked_at m e.passes ends) f)
    ]

pub in_each : (asked : Option Style) (ends : List LayerEnd) (b : Block) (layer : ℕ) → IsAsked b (style_for asked b) ends → is_wrong asked b ≡ false
    → passes_at layer (written_in asked ends b).pieces ≡ asked_at layer 0 ends
in_each asked ends b layer is right =
    in_made (λ (c : Block). passes_at layer c.pieces ≡ asked_at layer 0 ends) asked ends b right
    (λ (r : Recoding) made.
    let style : Option Style = style_for asked b in
    share_is (new_style b style) 0 0 b.passes layer (recoded_pieces r) (all_sound b style ends r is made)
    ∙ ap (share layer 0) (made_ends b style ends r is made)
    ∙ share_asked layer 0 0 b.passes ends is.layers)
