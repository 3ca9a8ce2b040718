-- The first layers of a block that is written, in any style or none.
use Rattle.std.proofs.Common.{◌≡◌, ℕ, ◌+◌, ◌-◌, ◌≤◌, true, false, List, [], ◌∷◌, inl, inr, ◌∙◌, ap, sym, subst, refl, arith, map, Option, Some, None}
use Rattle.std.specs.List.{concat}
use Rattle.std.proofs.lemmas.Bool.{cases_eq, cond-true, cond-false, true≢false}
use Rattle.jx_base.specs.declared.pieces.Block.{Block}
use Rattle.jx_base.specs.declared.style.Style.{Style}
use Rattle.jx_base.specs.Pieces.{ArePieces, PieceValue, passes_below}
use Rattle.jx_base.specs.Places.{length_of}
use Rattle.jx_base.specs.Sound.{IsSound}
use Rattle.jx_codeblock.specs.declared.LayerEnd.{LayerEnd}
use Rattle.jx_codeblock.specs.FirstLayers.{HasFirstLayers, KeepsValues, cells_after, first_cells, pieces_below, sent_below}
use Rattle.jx_codeblock.specs.Jobs.{IsAsked}
use Rattle.jx_codeblock.specs.Laws.{KeepsFirst, decoded_first}
use Rattle.jx_codeblock.specs.Recoding.{Recoding, coding_in, decoded_in, has_own_ends, is_kept_whole, new_style, own_segments, piece_of, recoded_pieces, recoding, sent_in}
use Rattle.jx_codeblock.specs.Segments.{bytes_before, ends_below, segments_of, sent_by_looks, sent_by_pieces}
use Rattle.jx_codeblock.specs.Written.{block_with, is_wrong, style_for}
use Rattle.jx_codeblock.proofs.BelowLemmas.{asked_below, below_are, below_have, below_most, front_segments, sent_most}
use Rattle.jx_codeblock.proofs.FirstLemmas.{IsSent, front_final, is_sent, none_decoded}
use Rattle.jx_codeblock.proofs.FrontLemmas.{front}
use Rattle.jx_codeblock.proofs.InLayers.{in_made}
use Rattle.jx_codeblock.proofs.KeptLemmas.{part_for, pieces_same}
use Rattle.jx_codeblock.proofs.MadeBlocks.{is_from, made_style}
use Rattle.jx_codeblock.proofs.MadeJobs.{all_sound}
use Rattle.jx_codeblock.proofs.OwnBytes.{own_bytes}
use Rattle.jx_codeblock.proofs.RegroupLemmas.{HaveBytes, Sends, kept_have, kept_segments, kept_sends}

-- ---- what the laws on blocks that are coded anew say of their first passes
abbrev pub FirstKeeps : Type 0
FirstKeeps = (b : Block) → (style : Style) → (ends : List LayerEnd) → (r : Recoding) → (first : ℕ) → IsAsked b (Some style) ends → Some r ≡ recoding b (Some style) ends
    → first ≤ b.passes → KeepsFirst b style first
    → (decoded_first b style.bits (segments_of style.bits b.passes (recoded_pieces r)) first).cells ≡ (decoded_first b b.style.bits (own_segments b) first).cells

-- ---- the definitions, opened
first_are : (m : ℕ) (b : Block) (bits : ℕ) (r : Recoding) → r.style ≡ bits
    → first_cells m (block_with b (Some r)) ≡ (decoded_first b bits (segments_of bits (passes_below m (recoded_pieces r)) (pieces_below m (recoded_pieces r))) (passes_below m (recoded_pieces r))).cells
unfolding first_cells
first_are m b bits r e =
    ap (λ (s : ℕ). (decoded_first b s (segments_of s (passes_below m (recoded_pieces r)) (pieces_below m (recoded_pieces r))) (passes_below m (recoded_pieces r))).cells) e

own_are : (m : ℕ) (b : Block)
    → first_cells m b ≡ (decoded_first b b.style.bits (segments_of b.style.bits (passes_below m b.pieces) (pieces_below m b.pieces)) (passes_below m b.pieces)).cells
unfolding first_cells
own_are m b = refl

after_are : (n : ℕ) (b : Block) (bits : ℕ) (r : Recoding) → r.style ≡ bits
    → cells_after n (block_with b (Some r)) ≡ (decoded_first b bits (segments_of bits b.passes (recoded_pieces r)) n).cells
unfolding cells_after
after_are n b bits r e = ap (λ (s : ℕ). (decoded_first b s (segments_of s b.passes (recoded_pieces r)) n).cells) e

after_own : (n : ℕ) (b : Block) → cells_after n b ≡ (decoded_first b b.style.bits (own_segments b) n).cells
unfolding cells_after
after_own n b = refl

-- ---- the segments of the layers below one
below_segments : (style passes : ℕ) (ss : List (List ℕ)) (sent : ℕ → ℕ) (sends : Sends style passes ss sent) (m n : ℕ) (ps : List PieceValue)
    → ArePieces style 0 0 passes ps → HaveBytes sent (concat ss) ps → passes_below m ps ≡ n → 1 ≤ n
    → segments_of style n (pieces_below m ps) ≡ front ss (ends_below style (n - 1)) (sent n - bytes_before ss (ends_below style (n - 1)))
below_segments style passes ss sent sends m n ps are have e some =
    let most : 0 + passes_below m ps ≤ passes = below_most style 0 0 passes m ps are in
    let count : 0 + passes_below m ps ≡ n = omega arith in
    let first : ArePieces style 0 0 n (pieces_below m ps) = subst (λ (k : ℕ). ArePieces style 0 0 k (pieces_below m ps)) count (below_are style 0 0 passes m ps are) in
    front_segments style passes ss sent sends n some (omega arith) 0 (pieces_below m ps) first (below_have sent (concat ss) m ps have)

-- ---- what is made of a block
module _ (b : Block) (style : Option Style) (ends : List LayerEnd) (r : Recoding) (asked : IsAsked b style ends) (is : Some r ≡ recoding b style ends) (m : ℕ) where
  pub made_below : passes_below m (recoded_pieces r) ≡ sent_below m ends
  made_below =
      let from = is_from b style ends r is in
      let P : Recoding → Type 0 = λ q. passes_below m (recoded_pieces q) ≡ sent_below m ends in
      let count = asked_below (sent_in b style ends from.segments) (concat from.segments) (new_style b style) m 0 0 b.passes ends asked.layers in
      subst P (sym from.is) (omega arith)

  made_most : passes_below m (recoded_pieces r) ≤ b.passes
  made_most = let most = sent_most m 0 0 b.passes ends asked.layers in omega (arith, made_below)

  made_segments : (n : ℕ) → passes_below m (recoded_pieces r) ≡ n → 1 ≤ n → (s : IsSent b style ends r)
      → segments_of (new_style b style) n (pieces_below m (recoded_pieces r))
      ≡ front s.segments (ends_below (new_style b style) (n - 1)) (sent_in b style ends s.segments n - bytes_before s.segments (ends_below (new_style b style) (n - 1)))
  made_segments n e some s =
      below_segments (new_style b style) b.passes s.segments (sent_in b style ends s.segments) s.sends m n (recoded_pieces r) (all_sound b style ends r asked is) s.have e some

  -- the values that they have in the end
  pub made_final : (n : ℕ) → passes_below m (recoded_pieces r) ≡ n → is_kept_whole b style ends ≡ false
      → first_cells m (block_with b (Some r)) ≡ cells_after n (block_with b (Some r))
  made_final n e kept =
      let bits : ℕ = new_style b style in
      let s = is_sent b style ends r asked is in
      let in_bits : r.style ≡ bits = made_style b style ends r is in
      let front_is : first_cells m (block_with b (Some r)) ≡ (decoded_first b bits (segments_of bits n (pieces_below m (recoded_pieces r))) n).cells =
      first_are m b bits r in_bits ∙ ap (λ (k : ℕ). (decoded_first b bits (segments_of bits k (pieces_below m (recoded_pieces r))) k).cells) e in
      let whole_is : cells_after n (block_with b (Some r)) ≡ (decoded_first b bits s.segments n).cells =
      after_are n b bits r in_bits ∙ ap (λ (ss : List (List ℕ)). (decoded_first b bits ss n).cells) s.whole in
      let same : (decoded_first b bits (segments_of bits n (pieces_below m (recoded_pieces r))) n).cells ≡ (decoded_first b bits s.segments n).cells =
      elim (cases_eq n 0) [
        | inl none ↦
            none_decoded (length_of b.rect.x) (length_of b.rect.y) (coding_in b bits) (coding_in b bits) (segments_of bits n (pieces_below m (recoded_pieces r))) s.segments n none
        | inr some ↦
            let most = made_most in
            ap (λ (ss : List (List ℕ)). (decoded_first b bits ss n).cells) (made_segments n e (omega arith) s)
            ∙ front_final (length_of b.rect.x) (length_of b.rect.y) (coding_in b bits) b.passes s.segments (sent_in b style ends s.segments) s.sends
            (λ (k : ℕ). cond-false (is_kept_whole b style ends) (sent_by_pieces b.pieces k) (sent_by_looks bits b.passes s.segments (decoded_in b bits s.segments).looked k) kept)
            n (omega arith) (omega arith)
      ] in
      front_is ∙ same ∙ sym whole_is

-- ---- a block that is kept in layers of which each ends where one of its own ended
parts_have_own : (sent : ℕ → ℕ) (bytes : List ℕ) (ps : List PieceValue) → HaveBytes sent bytes (map (piece_of bytes) (map (part_for sent) ps))
parts_have_own sent bytes [] = tt
parts_have_own sent bytes (p ∷ ps) = (refl, parts_have_own sent bytes ps)

own_have : (b : Block) (ends : List LayerEnd) → IsSound b → has_own_ends b.pieces ends ≡ true → HaveBytes (sent_in b None ends (own_segments b)) (concat (own_segments b)) b.pieces
own_have b ends sound own =
    let at : (n : ℕ) → sent_in b None ends (own_segments b) n ≡ sent_by_pieces b.pieces n =
    λ (n : ℕ). cond-true (has_own_ends b.pieces ends) (sent_by_pieces b.pieces n)
    (sent_by_looks b.style.bits b.passes (own_segments b) (decoded_in b b.style.bits (own_segments b)).looked n) own in
    subst (λ (ps : List PieceValue). HaveBytes (sent_in b None ends (own_segments b)) (concat (own_segments b)) ps)
    (pieces_same b.style.bits (sent_in b None ends (own_segments b)) 0 0 b.passes b.pieces [] (concat (own_segments b)) sound.pieces (λ (n : ℕ) le. omega (arith, at n)) (own_bytes b sound))
    (parts_have_own (sent_in b None ends (own_segments b)) (concat (own_segments b)) b.pieces)

made_own : (b : Block) (style : Option Style) (ends : List LayerEnd) (r : Recoding) (m before : ℕ) → IsAsked b style ends → Some r ≡ recoding b style ends
    → is_kept_whole b style ends ≡ true → passes_below m (recoded_pieces r) ≡ passes_below before b.pieces → first_cells m (block_with b (Some r)) ≡ first_cells before b
made_own b (Some style) ends r m before asked is kept e = absurd (true≢false (sym kept))
made_own b None ends r m before asked is kept e =
    let bits : ℕ = b.style.bits in
    let front_is : first_cells m (block_with b (Some r))
    ≡ (decoded_first b bits (segments_of bits (passes_below before b.pieces) (pieces_below m (recoded_pieces r))) (passes_below before b.pieces)).cells =
    first_are m b b.style.bits r (made_style b None ends r is)
    ∙ ap (λ (k : ℕ). (decoded_first b b.style.bits (segments_of b.style.bits k (pieces_below m (recoded_pieces r))) k).cells) e in
    let same : (decoded_first b bits (segments_of bits (passes_below before b.pieces) (pieces_below m (recoded_pieces r))) (passes_below before b.pieces)).cells
    ≡ (decoded_first b bits (segments_of bits (passes_below before b.pieces) (pieces_below before b.pieces)) (passes_below before b.pieces)).cells =
    elim (cases_eq (passes_below before b.pieces) 0) [
      | inl none ↦
          none_decoded (length_of b.rect.x) (length_of b.rect.y) (coding_in b b.style.bits) (coding_in b b.style.bits)
          (segments_of b.style.bits (passes_below before b.pieces) (pieces_below m (recoded_pieces r))) (segments_of b.style.bits (passes_below before b.pieces) (pieces_below before b.pieces))
          (passes_below before b.pieces) none
      | inr some ↦
          let sends = kept_sends b ends asked.sound in
          let one = below_segments b.style.bits b.passes (own_segments b) (sent_in b None ends (own_segments b)) sends m (passes_below before b.pieces) (recoded_pieces r)
          (all_sound b None ends r asked is) (kept_have b ends r is) e (omega arith) in
          let other = below_segments b.style.bits b.passes (own_segments b) (sent_in b None ends (own_segments b)) sends before (passes_below before b.pieces) b.pieces
          asked.sound.pieces (own_have b ends asked.sound kept) refl (omega arith) in
          ap (λ (ss : List (List ℕ)). (decoded_first b b.style.bits ss (passes_below before b.pieces)).cells) (one ∙ sym other)
    ] in
    front_is ∙ same ∙ sym (own_are before b)

-- ---- the values of the block that was read
made_same : FirstKeeps → (b : Block) (style : Option Style) (ends : List LayerEnd) (r : Recoding) (n : ℕ) → IsAsked b style ends → Some r ≡ recoding b style ends → n ≤ b.passes
    → KeepsValues b style n → cells_after n (block_with b (Some r)) ≡ cells_after n b
made_same keeps b None ends r n asked is le values =
    after_are n b b.style.bits r (made_style b None ends r is)
    ∙ ap (λ (ss : List (List ℕ)). (decoded_first b b.style.bits ss n).cells) (kept_segments b ends r asked is) ∙ sym (after_own n b)
made_same keeps b (Some style) ends r n asked is le values =
    let none : n ≡ 0 → (decoded_first b style.bits (segments_of style.bits b.passes (recoded_pieces r)) n).cells ≡ (decoded_first b b.style.bits (own_segments b) n).cells =
    λ (e : n ≡ 0). none_decoded (length_of b.rect.x) (length_of b.rect.y) (coding_in b style.bits) (coding_in b b.style.bits) (segments_of style.bits b.passes (recoded_pieces r)) (own_segments b) n e in
    let values_are : (decoded_first b style.bits (segments_of style.bits b.passes (recoded_pieces r)) n).cells ≡ (decoded_first b b.style.bits (own_segments b) n).cells =
    elim values [
      | inl causal ↦ keeps b style ends r n asked is le (inl causal)
      | inr (inl e) ↦ none e
      | inr (inr whole) ↦ elim asked.causal [
        | inl causal ↦ keeps b style ends r n asked is le (inl causal)
        | inr (inl e) ↦ none (omega arith)
        | inr (inr all) ↦ keeps b style ends r n asked is le (inr (all, whole))
      ]
    ] in
    after_are n b style.bits r (made_style b (Some style) ends r is) ∙ values_are ∙ sym (after_own n b)

-- ---- as it is written
pub first_layers : FirstKeeps → (asked : Option Style) (ends : List LayerEnd) (b : Block) (layer : ℕ) → IsAsked b (style_for asked b) ends → is_wrong asked b ≡ false
    → HasFirstLayers asked ends b layer
first_layers keeps asked ends b layer may right = record {
  passes =
      in_made (λ (c : Block). passes_below layer c.pieces ≡ sent_below layer ends) asked ends b right
      (λ (r : Recoding) made. made_below b (style_for asked b) ends r may made layer);
  final =
      in_made (λ (c : Block). is_kept_whole b (style_for asked b) ends ≡ false → first_cells layer c ≡ cells_after (sent_below layer ends) c) asked ends b right
      (λ (r : Recoding) made kept. made_final b (style_for asked b) ends r may made layer (sent_below layer ends) (made_below b (style_for asked b) ends r may made layer) kept);
  own =
      in_made (λ (c : Block). is_kept_whole b (style_for asked b) ends ≡ true → (before : ℕ) → sent_below layer ends ≡ passes_below before b.pieces → first_cells layer c ≡ first_cells before b)
      asked ends b right
      (λ (r : Recoding) made kept (before : ℕ) e. made_own b (style_for asked b) ends r layer before may made kept (made_below b (style_for asked b) ends r may made layer ∙ e));
  same =
      in_made (λ (c : Block). KeepsValues b (style_for asked b) (sent_below layer ends) → cells_after (sent_below layer ends) c ≡ cells_after (sent_below layer ends) b) asked ends b right
      (λ (r : Recoding) made values. made_same keeps b (style_for asked b) ends r (sent_below layer ends) may made (sent_most layer 0 0 b.passes ends may.layers) values);
}
