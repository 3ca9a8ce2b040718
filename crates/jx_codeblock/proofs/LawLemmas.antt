-- A sound block may be kept in its own layers, and has its own pieces then.
use Rattle.std.proofs.Common.{◌≡◌, ℕ, List, [], ◌∙◌, ap, sym, subst, refl, arith, length, map, Some, None, Bool, true, false}
use Rattle.std.specs.List.{All, concat}
use Rattle.std.proofs.lemmas.Bool.{cond-true, cond-false}
use Rattle.std.proofs.lemmas.List.Concat.{length-flat_map, concat_is}
use Rattle.std.proofs.lemmas.Option.{same_Some}
use Rattle.jx_base.specs.declared.pieces.Block.{Block}
use Rattle.jx_base.specs.Pieces.{PieceValue, bytes_in}
use Rattle.jx_base.specs.Places.{length_of}
use Rattle.jx_base.specs.Sound.{IsSound}
use Rattle.jx_codeblock.specs.declared.LayerEnd.{LayerEnd}
use Rattle.jx_codeblock.specs.Jobs.{IsAsked, AreEnds}
use Rattle.jx_codeblock.specs.Laws.{AreCutAtEnds, IsWithin}
use Rattle.jx_codeblock.specs.Recoding.{Recoding, recoding, recoding_of, layer_ends, own_segments, recoded_pieces, piece_of, layer_parts_after, sent_in, has_own_ends, coding_in}
use Rattle.jx_codeblock.specs.Segments.{sent_by_pieces, bytes_before}
use Rattle.jx_codeblock.proofs.DecideLemmas.{kept_parts, own_looked, looks}
use Rattle.jx_codeblock.proofs.GrowLemmas.{looked_grows}
use Rattle.jx_codeblock.proofs.LookedLemmas.{looked_few}
use Rattle.jx_codeblock.proofs.SentLemmas.{all_before}
use Rattle.jx_codeblock.proofs.WithinLemmas.{Rises, parts_within, pieces_rise, looks_rise}
use Rattle.jx_codeblock.proofs.KeptLemmas.{own_are_own, own_ends_rise, parts_own, pieces_same}
use Rattle.jx_codeblock.proofs.OwnBytes.{own_bytes}

pub own_asked : (b : Block) → IsSound b → IsAsked b None (layer_ends b.pieces)
own_asked b sound = record { sound = sound; layers = own_ends_rise b.style.bits 0 0 b.passes b.pieces sound.pieces; causal = tt }

pub kept_pieces : (b : Block) (r : Recoding) → IsSound b → AreCutAtEnds b.style.bits b.pieces → Some r ≡ recoding b None (layer_ends b.pieces) → recoded_pieces r ≡ b.pieces
unfolding recoding
kept_pieces b r sound cuts e =
    let ends = layer_ends b.pieces in
    let is : r ≡ recoding_of b None ends (own_segments b) = same_Some r (recoding_of b None ends (own_segments b)) e in
    let whole : List ℕ = concat (own_segments b) in
    let rise : AreEnds 0 0 b.passes ends = own_ends_rise b.style.bits 0 0 b.passes b.pieces sound.pieces in
    let parts : layer_parts_after b.style.bits (sent_in b None ends (own_segments b)) 0 ends ≡ map _ b.pieces =
    sym (kept_parts b ends rise (own_are_own b.pieces)) ∙ parts_own b.style.bits (sent_by_pieces b.pieces) 0 0 b.passes b.pieces sound.pieces cuts in
    ap recoded_pieces is
    ∙ ap (map (piece_of whole)) parts
    ∙ pieces_same b.style.bits (sent_by_pieces b.pieces) 0 0 b.passes b.pieces [] whole sound.pieces (λ (n : ℕ) le. omega arith) (own_bytes b sound)

-- each part of a kept block lies within its bytes
pub kept_rises : (b : Block) (ends : List LayerEnd) → IsSound b → (own : Bool) → has_own_ends b.pieces ends ≡ own
    → Rises b.style.bits b.passes (length (concat (own_segments b))) (sent_in b None ends (own_segments b))
kept_rises b ends sound true e =
    let same : length (concat (own_segments b)) ≡ bytes_in b.pieces =
    ap (λ (xs : List ℕ). length xs) (own_bytes b sound) ∙ length-flat_map (λ (p : PieceValue). p.bytes) b.pieces in
    let rises = pieces_rise b.style.bits 0 b.passes b.pieces sound.pieces in
    let at : (n : ℕ) → sent_in b None ends (own_segments b) n ≡ sent_by_pieces b.pieces n = λ (n : ℕ). cond-true (has_own_ends b.pieces ends) (sent_by_pieces b.pieces n) (looks b n) e in
    record {
      grows = λ (n m : ℕ) le within one. omega (arith, at n, at m, rises.grows n m le within one);
      bound = λ (n : ℕ) le. omega (arith, at n, rises.bound n le);
    }
kept_rises b ends sound false e =
    let same : length (concat (own_segments b)) ≡ bytes_before (own_segments b) (length (own_segments b)) = (ap (λ (xs : List ℕ). length xs) (concat_is (own_segments b)) ∙ length-flat_map (λ (xs : List ℕ). xs) (own_segments b)) ∙ sym (all_before (own_segments b)) in
    let few = looked_few (length_of b.rect.x) (length_of b.rect.y) (coding_in b b.style.bits) (own_segments b) b.passes in
    let grows = looked_grows (length_of b.rect.x) (length_of b.rect.y) (coding_in b b.style.bits) (own_segments b) b.passes in
    let rises = looks_rise b.style.bits b.passes (own_segments b) (own_looked b) few grows in
    let at : (n : ℕ) → sent_in b None ends (own_segments b) n ≡ looks b n = λ (n : ℕ). cond-false (has_own_ends b.pieces ends) (sent_by_pieces b.pieces n) (looks b n) e in
    record {
      grows = λ (n m : ℕ) le within one. omega (arith, at n, at m, rises.grows n m le within one);
      bound = λ (n : ℕ) le. omega (arith, at n, rises.bound n le);
    }

pub kept_within : (b : Block) (ends : List LayerEnd) (r : Recoding) → IsAsked b None ends → Some r ≡ recoding b None ends → All (IsWithin (length r.bytes)) r.parts
unfolding recoding
kept_within b ends r asked e =
    let is : r ≡ recoding_of b None ends (own_segments b) = same_Some r (recoding_of b None ends (own_segments b)) e in
    let P : Recoding → Type 0 = λ q. All (IsWithin (length q.bytes)) q.parts in
    subst P (sym is)
    (parts_within b.style.bits b.passes (length (concat (own_segments b))) (sent_in b None ends (own_segments b)) 0 0 ends
    (kept_rises b ends asked.sound (has_own_ends b.pieces ends) refl) asked.layers)
