-- The parts of a block that is coded anew: within its bytes, again pieces of a sound block, and with its new segments.
use Rattle.std.proofs.Common.{◌≡◌, ℕ, ◌-◌, ◌<◌, ◌≤◌, ◌==◌, List, inl, inr, ◌∙◌, ap, sym, subst, refl, arith, length, Some}
use Rattle.std.specs.List.{All, concat}
use Rattle.std.proofs.lemmas.Bool.{cases_eq, or_left, or_right}
use Rattle.std.proofs.lemmas.List.Concat.{length-flat_map, concat_is}
use Rattle.jx_base.specs.declared.pieces.Block.{Block}
use Rattle.jx_base.specs.declared.style.Style.{Style}
use Rattle.jx_base.specs.Passes.{end_pass}
use Rattle.jx_base.specs.Pieces.{ArePieces}
use Rattle.jx_base.specs.Places.{length_of}
use Rattle.jx_codeblock.specs.declared.LayerEnd.{LayerEnd}
use Rattle.jx_codeblock.specs.Jobs.{IsAsked}
use Rattle.jx_codeblock.specs.Laws.{IsWithin}
use Rattle.jx_codeblock.specs.Recoding.{Recoding, recoding, coding_in, decoded_in, own_segments, recoded_pieces, sent_in}
use Rattle.jx_codeblock.specs.Segments.{bytes_before, segments_of}
use Rattle.jx_codeblock.proofs.AnewLemmas.{anew, anew_looked, is_anew}
use Rattle.jx_codeblock.proofs.GroupLemmas.{segments_are}
use Rattle.jx_codeblock.proofs.GrowLemmas.{looked_grows}
use Rattle.jx_codeblock.proofs.LookedLemmas.{looked_few}
use Rattle.jx_codeblock.proofs.RegroupLemmas.{Sends, HaveBytes, parts_have, regroup}
use Rattle.jx_codeblock.proofs.SentLemmas.{all_before}
use Rattle.jx_codeblock.proofs.SoundLemmas.{Clean, looks_clean, parts_sound}
use Rattle.jx_codeblock.proofs.WithinLemmas.{Rises, looks_all, looks_cut, looks_rise, parts_within}
use Rattle.jx_codeblock.proofs.WrittenLemmas.{none_written, written_clean, written_long}
use Rattle.jx_base.specs.Limits.{most_bytes}

pub all_bytes : (ss : List (List ℕ)) → length (concat ss) ≡ bytes_before ss (length ss)
all_bytes ss = (ap (λ (xs : List ℕ). length xs) (concat_is ss) ∙ length-flat_map (λ (xs : List ℕ). xs) ss) ∙ sym (all_before ss)

-- ---- what is sent of new segments
anew_rises : (b : Block) (style : Style) (ends : List LayerEnd) → Rises style.bits b.passes (length (concat (anew b style))) (sent_in b (Some style) ends (anew b style))
anew_rises b style ends =
    let few = looked_few (length_of b.rect.x) (length_of b.rect.y) (coding_in b style.bits) (anew b style) b.passes in
    let grows = looked_grows (length_of b.rect.x) (length_of b.rect.y) (coding_in b style.bits) (anew b style) b.passes in
    let rises = looks_rise style.bits b.passes (anew b style) (anew_looked b style) few grows in
    let same = all_bytes (anew b style) in
    record {
      grows = λ (n m : ℕ) le within one. rises.grows n m le within one;
      bound = λ (n : ℕ) le. omega (arith, rises.bound n le);
    }

anew_clean : (b : Block) (style : Style) (ends : List LayerEnd) → Clean b.passes (sent_in b (Some style) ends (anew b style)) (concat (anew b style))
anew_clean b style ends n le =
    let few = looked_few (length_of b.rect.x) (length_of b.rect.y) (coding_in b style.bits) (anew b style) b.passes in
    looks_clean style.bits b.passes (anew b style) (anew_looked b style)
    (written_clean (coding_in b style.bits) (decoded_in b b.style.bits (own_segments b)).cells b.passes) few n le

pub anew_sends : (b : Block) (style : Style) (ends : List LayerEnd) → Sends style.bits b.passes (anew b style) (sent_in b (Some style) ends (anew b style))
anew_sends b style ends = record {
  cut = λ (n : ℕ) (lt : n < b.passes) ended.
      looks_cut style.bits b.passes n (anew b style) (anew_looked b style) (λ (e : n ≡ b.passes). omega arith) (or_right (n == 0) (end_pass style.bits (n - 1)) ended);
  all = looks_all style.bits b.passes b.passes (anew b style) (anew_looked b style) refl;
  none = start;
  grows = (anew_rises b style ends).grows;
  long = λ (some : 1 ≤ b.passes). written_long (coding_in b style.bits) (decoded_in b b.style.bits (own_segments b)).cells b.passes some;
}
  where
    start : sent_in b (Some style) ends (anew b style) 0 ≡ 0
    start = elim (cases_eq 0 b.passes) [
      | inl e ↦
          looks_all style.bits b.passes 0 (anew b style) (anew_looked b style) e
          ∙ ap (λ (ss : List (List ℕ)). bytes_before ss (length ss)) (none_written (coding_in b style.bits) (decoded_in b b.style.bits (own_segments b)).cells b.passes (sym e))
      | inr ne ↦ looks_cut style.bits b.passes 0 (anew b style) (anew_looked b style) ne (or_left (0 == 0) (end_pass style.bits (0 - 1)) refl)
    ]

-- ---- a recoding in a style
pub anew_within : (b : Block) (style : Style) (ends : List LayerEnd) (r : Recoding) → IsAsked b (Some style) ends → Some r ≡ recoding b (Some style) ends
    → All (IsWithin (length r.bytes)) r.parts
anew_within b style ends r asked e =
    let P : Recoding → Type 0 = λ q. All (IsWithin (length q.bytes)) q.parts in
    subst P (sym (is_anew b style ends r e).is)
    (parts_within style.bits b.passes (length (concat (anew b style))) (sent_in b (Some style) ends (anew b style)) 0 0 ends (anew_rises b style ends) asked.layers)

pub anew_sound : (b : Block) (style : Style) (ends : List LayerEnd) (r : Recoding) → IsAsked b (Some style) ends → Some r ≡ recoding b (Some style) ends
    → ArePieces style.bits 0 0 b.passes (recoded_pieces r)
anew_sound b style ends r asked e =
    let P : Recoding → Type 0 = λ q. ArePieces style.bits 0 0 b.passes (recoded_pieces q) in
    subst P (sym (is_anew b style ends r e).is)
    (parts_sound style.bits b.passes (sent_in b (Some style) ends (anew b style)) (concat (anew b style)) 0 0 ends (anew_clean b style ends) asked.layers)

pub anew_have : (b : Block) (style : Style) (ends : List LayerEnd) (r : Recoding) → Some r ≡ recoding b (Some style) ends
    → HaveBytes (sent_in b (Some style) ends (anew b style)) (concat (anew b style)) (recoded_pieces r)
anew_have b style ends r e =
    let P : Recoding → Type 0 = λ q. HaveBytes (sent_in b (Some style) ends (anew b style)) (concat (anew b style)) (recoded_pieces q) in
    subst P (sym (is_anew b style ends r e).is) (parts_have style.bits (sent_in b (Some style) ends (anew b style)) (concat (anew b style)) 0 ends)

pub anew_segments : (b : Block) (style : Style) (ends : List LayerEnd) (r : Recoding) → IsAsked b (Some style) ends → Some r ≡ recoding b (Some style) ends
    → segments_of style.bits b.passes (recoded_pieces r) ≡ anew b style
anew_segments b style ends r asked e =
    let sound = anew_sound b style ends r asked e in
    segments_are style.bits 0 b.passes (recoded_pieces r) sound
    ∙ regroup style.bits b.passes (anew b style) (sent_in b (Some style) ends (anew b style)) (anew_sends b style ends) 0 (recoded_pieces r) sound (anew_have b style ends r e)
    (none_written (coding_in b style.bits) (decoded_in b b.style.bits (own_segments b)).cells b.passes)

pub few_before : (lists ss : List (List ℕ)) → ss ≡ lists → length (concat lists) ≤ most_bytes → bytes_before ss (length ss) ≤ most_bytes
few_before lists ss e le = subst (λ (s : List (List ℕ)). bytes_before s (length s) ≤ most_bytes) (sym e) (omega (arith, all_bytes lists))
