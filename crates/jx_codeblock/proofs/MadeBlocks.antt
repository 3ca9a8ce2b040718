-- A block with what was made of it: sound, with its coefficients, and with its passes in the layers that were asked.
use Rattle.std.proofs.Common.{◌≡◌, ℕ, ◌≤◌, ◌==◌, true, false, List, [], inl, inr, ◌∙◌, ap, sym, subst, refl, arith, length, ◌&&◌, Option, Some, None, is_some}
use Rattle.std.specs.List.{All, concat}
use Rattle.std.proofs.lemmas.Bool.{and_parts, cases_Bool, cond-true, cond-false, eq-eqb, eqb-true, true≢false}
use Rattle.std.proofs.lemmas.List.Concat.{length-flat_map}
use Rattle.std.proofs.lemmas.Option.{same_Some}
use Rattle.jx_base.specs.declared.pieces.Block.{Block}
use Rattle.jx_base.specs.declared.style.Style.{Style}
use Rattle.jx_base.specs.Passes.{bypasses}
use Rattle.jx_base.specs.Pieces.{ArePieces, PieceValue, bytes_in, passes_at}
use Rattle.jx_base.specs.Sound.{IsSound}
use Rattle.jx_base.proofs.Lists.{some_none}
use Rattle.jx_codeblock.specs.declared.LayerEnd.{LayerEnd}
use Rattle.jx_codeblock.specs.Jobs.{IsAsked, KeepsCausal}
use Rattle.jx_codeblock.specs.Laws.{AreCutInLayers}
use Rattle.jx_codeblock.specs.Recoding.{Recoding, decoded_in, layer_ends, new_segments, new_style, option_recoding, own_segments, recoded_pieces, recoding, recoding_of, sent_in, wrong_in}
use Rattle.jx_codeblock.specs.Segments.{segments_of}
use Rattle.jx_codeblock.specs.Written.{block_with, is_wrong, own_cells, style_for, written_as, written_in}
use Rattle.jx_codeblock.proofs.AnewLemmas.{kept_some, right_some, wrong_none}
use Rattle.jx_codeblock.proofs.AnewParts.{anew_segments}
use Rattle.jx_codeblock.proofs.CutLemmas.{cut_in_layers}
use Rattle.jx_codeblock.proofs.GroupLemmas.{groups_bytes, none_left, segments_are}
use Rattle.jx_codeblock.proofs.KeptLemmas.{own_ends_rise}
use Rattle.jx_codeblock.proofs.LawLemmas.{kept_pieces}
use Rattle.jx_codeblock.proofs.LengthLemmas.{anew_few, anew_short}
use Rattle.jx_codeblock.proofs.MadeJobs.{all_sound}
use Rattle.jx_codeblock.proofs.RegroupLemmas.{kept_segments}
use Rattle.jx_codeblock.proofs.ShareLemmas.{ends_all, parts_all, parts_cut, parts_end, same_shares}
use Rattle.jx_base.specs.Limits.{most_bytes}

-- ---- what is made of a block, by its segments
pub record IsFrom (b : Block) (style : Option Style) (ends : List LayerEnd) (r : Recoding) : Type 0 where
  pub segments : List (List ℕ)
  pub is : r ≡ recoding_of b style ends segments

pub is_from : (b : Block) (style : Option Style) (ends : List LayerEnd) (r : Recoding) → Some r ≡ recoding b style ends → IsFrom b style ends r
unfolding recoding
is_from b style ends r e = by (new_segments b style) e
  where
    by : (found : Option (List (List ℕ))) → Some r ≡ option_recoding b style ends found → IsFrom b style ends r
    by None h = absurd (some_none r h)
    by (Some ss) h = record { segments = ss; is = same_Some r (recoding_of b style ends ss) h }

pub made_style : (b : Block) (style : Option Style) (ends : List LayerEnd) (r : Recoding) → Some r ≡ recoding b style ends → r.style ≡ new_style b style
made_style b style ends r e = ap (λ (q : Recoding). q.style) (is_from b style ends r e).is

pub made_ends : (b : Block) (style : Option Style) (ends : List LayerEnd) (r : Recoding) → IsAsked b style ends → Some r ≡ recoding b style ends → layer_ends (recoded_pieces r) ≡ ends
made_ends b style ends r asked e =
    let from = is_from b style ends r e in
    let P : Recoding → Type 0 = λ q. layer_ends (recoded_pieces q) ≡ ends in
    subst P (sym from.is) (parts_end (sent_in b style ends from.segments) (concat from.segments) (new_style b style) 0 0 b.passes ends asked.layers)

pub made_cut : (b : Block) (style : Option Style) (ends : List LayerEnd) (r : Recoding) → IsAsked b style ends → Some r ≡ recoding b style ends → AreCutInLayers r.style (recoded_pieces r)
made_cut b style ends r asked e =
    let from = is_from b style ends r e in
    let P : Recoding → Type 0 = λ q. AreCutInLayers q.style (recoded_pieces q) in
    subst P (sym from.is) (parts_cut (sent_in b style ends from.segments) (concat from.segments) (new_style b style) b.passes ends asked.layers)

-- its layers are among those that were asked
pub made_layers : (P : ℕ → Type 0) (b : Block) (style : Option Style) (ends : List LayerEnd) (r : Recoding) → Some r ≡ recoding b style ends
    → All (λ (e : LayerEnd). P e.layer) ends → All (λ (p : PieceValue). P p.layer) (recoded_pieces r)
made_layers P b style ends r e each =
    let from = is_from b style ends r e in
    let Q : Recoding → Type 0 = λ q. All (λ (p : PieceValue). P p.layer) (recoded_pieces q) in
    subst Q (sym from.is) (parts_all (sent_in b style ends from.segments) (concat from.segments) P (new_style b style) 0 ends each)

-- ---- it is sound
bytes_together : (style passes : ℕ) (ps : List PieceValue) → ArePieces style 0 0 passes ps → length (concat (segments_of style passes ps)) ≡ bytes_in ps
bytes_together style passes ps are =
    ap (λ (ss : List (List ℕ)). length (concat ss)) (segments_are style 0 passes ps are) ∙ ap (λ (xs : List ℕ). length xs) (groups_bytes style ps)
    ∙ length-flat_map (λ (p : PieceValue). p.bytes) ps

segments_few : (b : Block) (style : Option Style) (ends : List LayerEnd) (r : Recoding) → IsAsked b style ends → Some r ≡ recoding b style ends
    → length (concat (segments_of (new_style b style) b.passes (recoded_pieces r))) ≤ most_bytes
segments_few b None ends r asked e =
    let own : length (concat (own_segments b)) ≡ bytes_in b.pieces = bytes_together b.style.bits b.passes b.pieces asked.sound.pieces in
    subst (λ (ss : List (List ℕ)). length (concat ss) ≤ most_bytes) (sym (kept_segments b ends r asked e)) (omega (arith, asked.sound.bytes))
segments_few b (Some style) ends r asked e =
    subst (λ (ss : List (List ℕ)). length (concat ss) ≤ most_bytes) (sym (anew_segments b style ends r asked e)) (anew_few b style asked.sound)

pub made_sound : (b : Block) (style : Option Style) (ends : List LayerEnd) (r : Recoding) → IsAsked b style ends → Some r ≡ recoding b style ends → IsSound (block_with b (Some r))
made_sound b style ends r asked e =
    let are : ArePieces (new_style b style) 0 0 b.passes (recoded_pieces r) = all_sound b style ends r asked e in
    let few = segments_few b style ends r asked e in
    let same = bytes_together (new_style b style) b.passes (recoded_pieces r) are in
    record {
      size = asked.sound.size;
      planes = asked.sound.planes;
      zero = asked.sound.zero;
      few = asked.sound.few;
      pieces = subst (λ (s : ℕ). ArePieces s 0 0 b.passes (recoded_pieces r)) (sym (made_style b style ends r e)) are;
      bytes = omega arith;
    }

pub bypass_short : (b : Block) (style : Style) (ends : List LayerEnd) (r : Recoding) → IsAsked b (Some style) ends → Some r ≡ recoding b (Some style) ends
    → bypasses style.bits ≡ true → b.passes ≤ 37 → bytes_in (recoded_pieces r) ≤ 309123
bypass_short b style ends r asked e bypass few =
    let are : ArePieces style.bits 0 0 b.passes (recoded_pieces r) = all_sound b (Some style) ends r asked e in
    let short : length (concat (segments_of style.bits b.passes (recoded_pieces r))) ≤ 309123 =
    subst (λ (ss : List (List ℕ)). length (concat ss) ≤ 309123) (sym (anew_segments b style ends r asked e)) (anew_short b style asked.sound bypass few) in
    let same = bytes_together style.bits b.passes (recoded_pieces r) are in
    omega arith

pub made_shares : (b : Block) (style : Option Style) (ends : List LayerEnd) (r : Recoding) (layer : ℕ) → IsAsked b style ends → Some r ≡ recoding b style ends → layer_ends b.pieces ≡ ends
    → passes_at layer (recoded_pieces r) ≡ passes_at layer b.pieces
made_shares b style ends r layer asked e own =
    same_shares (new_style b style) b.style.bits b.passes layer (recoded_pieces r) b.pieces (all_sound b style ends r asked e) asked.sound.pieces
    (made_ends b style ends r asked e ∙ sym own)

-- ---- it has the block's coefficients, where a block that is coded anew has
abbrev pub AnewKeeps : Type 0
AnewKeeps = (b : Block) → (style : Style) → (ends : List LayerEnd) → (r : Recoding) → IsAsked b (Some style) ends → Some r ≡ recoding b (Some style) ends
    → (decoded_in b style.bits (segments_of style.bits b.passes (recoded_pieces r))).cells ≡ (decoded_in b b.style.bits (own_segments b)).cells

pub made_cells : AnewKeeps → (b : Block) (style : Option Style) (ends : List LayerEnd) (r : Recoding) → IsAsked b style ends → Some r ≡ recoding b style ends
    → own_cells (block_with b (Some r)) ≡ own_cells b
made_cells keeps b style ends r asked e =
    ap (λ (s : ℕ). (decoded_in b s (segments_of s b.passes (recoded_pieces r))).cells) (made_style b style ends r e) ∙ by style asked e
  where
    by : (t : Option Style) → IsAsked b t ends → Some r ≡ recoding b t ends
        → (decoded_in b (new_style b t) (segments_of (new_style b t) b.passes (recoded_pieces r))).cells ≡ own_cells b
    by None asked e = ap (λ (ss : List (List ℕ)). (decoded_in b b.style.bits ss).cells) (kept_segments b ends r asked e)
    by (Some s) asked e = keeps b s ends r asked e

-- ---- nothing is made exactly of a block that is wrong
none_from : {X : Type 0} (o : Option X) → is_some o ≡ false → o ≡ None
none_from None e = refl
none_from (Some x) e = absurd (true≢false e)

pub wrong_makes_nothing : (asked : Option Style) (b : Block) (ends : List LayerEnd) → is_wrong asked b ≡ true → recoding b (style_for asked b) ends ≡ None
wrong_makes_nothing asked b ends h = by (style_for asked b) h
  where
    by : (style : Option Style) → (is_some style && is_some (wrong_in b)) ≡ true → recoding b style ends ≡ None
    by None h = absurd (true≢false (sym h))
    by (Some style) h =
        wrong_none b style ends (λ (e : wrong_in b ≡ None). true≢false (sym (and_parts (is_some (Some style)) (is_some (wrong_in b)) h).1 ∙ ap (λ (o : Option ℕ). is_some o) e))

pub right_makes_some : (asked : Option Style) (b : Block) (ends : List LayerEnd) → is_wrong asked b ≡ false → recoding b (style_for asked b) ends ≡ None → ⊥
right_makes_some asked b ends h = by (style_for asked b) h
  where
    by : (style : Option Style) → (is_some style && is_some (wrong_in b)) ≡ false → recoding b style ends ≡ None → ⊥
    by None h = kept_some b ends
    by (Some style) h = right_some b style ends (none_from (wrong_in b) h)

-- ---- a block as it is written
pub may_ask : (b : Block) (style : Option Style) → IsSound b → KeepsCausal b style → IsAsked b style (layer_ends b.pieces)
may_ask b style sound causal = record { sound = sound; layers = own_ends_rise b.style.bits 0 0 b.passes b.pieces sound.pieces; causal = causal }

-- what holds of the block where nothing is made of it, and of it with all that is made of it
pub in_has : (P : Block → Type 0) (asked : Option Style) (ends : List LayerEnd) (b : Block) → (recoding b (style_for asked b) ends ≡ None → P b)
    → ((r : Recoding) → Some r ≡ recoding b (style_for asked b) ends → P (block_with b (Some r))) → P (written_in asked ends b)
unfolding written_in
in_has P asked ends b kept made = by (recoding b (style_for asked b) ends) refl
  where
    by : (found : Option Recoding) → found ≡ recoding b (style_for asked b) ends → P (block_with b found)
    by None h = kept (sym h)
    by (Some r) h = made r h

pub in_own : (asked : Option Style) (b : Block) → written_as asked b ≡ written_in asked (layer_ends b.pieces) b
unfolding written_as written_in
in_own asked b = refl

pub written_has : (P : Block → Type 0) (asked : Option Style) (b : Block) → (recoding b (style_for asked b) (layer_ends b.pieces) ≡ None → P b)
    → ((r : Recoding) → Some r ≡ recoding b (style_for asked b) (layer_ends b.pieces) → P (block_with b (Some r))) → P (written_as asked b)
written_has P asked b kept made = subst P (sym (in_own asked b)) (in_has P asked (layer_ends b.pieces) b kept made)

pub written_cells : AnewKeeps → (asked : Option Style) (b : Block) → IsSound b → KeepsCausal b (style_for asked b) → own_cells (written_as asked b) ≡ own_cells b
written_cells keeps asked b sound causal =
    written_has (λ (c : Block). own_cells c ≡ own_cells b) asked b (λ none. refl)
    (λ (r : Recoding) made. made_cells keeps b (style_for asked b) (layer_ends b.pieces) r (may_ask b (style_for asked b) sound causal) made)

pub written_sound : (asked : Option Style) (b : Block) → IsSound b → KeepsCausal b (style_for asked b) → IsSound (written_as asked b)
written_sound asked b sound causal =
    written_has (λ (c : Block). IsSound c) asked b (λ none. sound)
    (λ (r : Recoding) made. made_sound b (style_for asked b) (layer_ends b.pieces) r (may_ask b (style_for asked b) sound causal) made)

-- what the pieces and the style don't change
pub written_same : {X : Type 0} (f : Block → X) (asked : Option Style) (b : Block) → ((r : Recoding) → f (block_with b (Some r)) ≡ f b) → f (written_as asked b) ≡ f b
written_same f asked b same = written_has (λ (c : Block). f c ≡ f b) asked b (λ none. refl) (λ (r : Recoding) made. same r)

-- its style is the one that was asked
pub style_asked : (asked : Style) (b : Block) → new_style b (style_for (Some asked) b) ≡ asked.bits
style_asked asked b = elim (cases_Bool (asked.bits == b.style.bits)) [
  | inl t ↦ ap (new_style b) (cond-true (asked.bits == b.style.bits) None (Some asked) t) ∙ sym (eqb-true asked.bits b.style.bits t)
  | inr f ↦ ap (new_style b) (cond-false (asked.bits == b.style.bits) None (Some asked) f)
]

pub written_style : (asked : Style) (b : Block) → is_wrong (Some asked) b ≡ false → (written_as (Some asked) b).style ≡ asked
written_style asked b right =
    written_has (λ (c : Block). c.style ≡ asked) (Some asked) b (λ none. absurd (right_makes_some (Some asked) b (layer_ends b.pieces) right none))
    (λ (r : Recoding) made. by r.style (made_style b (style_for (Some asked) b) (layer_ends b.pieces) r made ∙ style_asked asked b))
  where
    by : (bits : ℕ) → bits ≡ asked.bits → ◌≡◌ {A = Style} (record { bits = bits }) asked
    by bits e = ap (λ (n : ℕ). record { bits = n }) e

-- with none that is asked, or its own, it stays
same_block : (b : Block) (bits : ℕ) (ps : List PieceValue) → bits ≡ b.style.bits → ps ≡ b.pieces → ◌≡◌ {A = Block} (record b { style = record { bits = bits }; pieces = ps }) b
same_block b bits ps e f = rw (e, f) refl

pub written_kept : (b : Block) → IsSound b → AreCutInLayers b.style.bits b.pieces → written_as None b ≡ b
written_kept b sound cuts =
    let ends : List LayerEnd = layer_ends b.pieces in
    let at_ends = cut_in_layers b.style.bits b.passes b.pieces sound.pieces cuts in
    written_has (λ (c : Block). c ≡ b) None b (λ none. absurd (kept_some b ends none))
    (λ (r : Recoding) made. same_block b r.style (recoded_pieces r) (made_style b None ends r made) (kept_pieces b r sound at_ends made))

pub written_own : (b : Block) → IsSound b → AreCutInLayers b.style.bits b.pieces → written_as (Some b.style) b ≡ b
unfolding written_as
written_own b sound cuts =
    ap (λ (style : Option Style). block_with b (recoding b style (layer_ends b.pieces)))
    (cond-true (b.style.bits == b.style.bits) None (Some b.style) (eq-eqb b.style.bits b.style.bits refl))
    ∙ written_kept b sound cuts

-- ---- its pieces
pub written_empty : (asked : Option Style) (b : Block) → IsSound b → KeepsCausal b (style_for asked b) → (written_as asked b).pieces ≡ [] → b.pieces ≡ []
written_empty asked b sound causal =
    written_has (λ (c : Block). c.pieces ≡ [] → b.pieces ≡ []) asked b (λ none e. e)
    (λ (r : Recoding) made (e : recoded_pieces r ≡ []).
    let style : Option Style = style_for asked b in
    let are : ArePieces (new_style b style) 0 0 b.passes (recoded_pieces r) = all_sound b style (layer_ends b.pieces) r (may_ask b style sound causal) made in
    let nothing : 0 ≡ b.passes = subst (λ (ps : List PieceValue). ArePieces (new_style b style) 0 0 b.passes ps) e are in
    none_left b.style.bits 0 0 b.passes b.pieces sound.pieces (omega arith))

pub written_layers : (P : ℕ → Type 0) (asked : Option Style) (b : Block) → All (λ (p : PieceValue). P p.layer) b.pieces → All (λ (p : PieceValue). P p.layer) (written_as asked b).pieces
written_layers P asked b each =
    written_has (λ (c : Block). All (λ (p : PieceValue). P p.layer) c.pieces) asked b (λ none. each)
    (λ (r : Recoding) made. made_layers P b (style_for asked b) (layer_ends b.pieces) r made (ends_all P b.pieces each))

pub written_shares : (asked : Option Style) (b : Block) (layer : ℕ) → IsSound b → KeepsCausal b (style_for asked b)
    → passes_at layer (written_as asked b).pieces ≡ passes_at layer b.pieces
written_shares asked b layer sound causal =
    written_has (λ (c : Block). passes_at layer c.pieces ≡ passes_at layer b.pieces) asked b (λ none. refl)
    (λ (r : Recoding) made. made_shares b (style_for asked b) (layer_ends b.pieces) r layer (may_ask b (style_for asked b) sound causal) made refl)

pub written_cut : (asked : Option Style) (b : Block) → IsSound b → KeepsCausal b (style_for asked b) → is_wrong asked b ≡ false
    → AreCutInLayers (written_as asked b).style.bits (written_as asked b).pieces
written_cut asked b sound causal right =
    written_has (λ (c : Block). AreCutInLayers c.style.bits c.pieces) asked b (λ none. absurd (right_makes_some asked b (layer_ends b.pieces) right none))
    (λ (r : Recoding) made. made_cut b (style_for asked b) (layer_ends b.pieces) r (may_ask b (style_for asked b) sound causal) made)
