-- A kept block has its segments, whatever the layers.
use Rattle.std.proofs.Common.{◌≡◌, ℕ, zero, suc, ◌+◌, ◌-◌, ◌<◌, ◌≤◌, ◌==◌, true, List, [], ◌∷◌, ◌++◌, inl, inr, ◌∙◌, ap, sym, subst, refl, arith, length, map, take, drop, get_or, take-add, Some, None}
use Rattle.std.specs.List.{concat}
use Rattle.std.proofs.Math.Seq.{take-append_seam, drop-append-add}
use Rattle.std.proofs.lemmas.Bool.{cases_eq, cases_Bool, cond-true, cond-false, or_left, or_right}
use Rattle.std.proofs.lemmas.List.{drop-drop, map-append}
use Rattle.std.proofs.lemmas.List.FromFn.{length-map-range_with_len}
use Rattle.std.proofs.lemmas.List.Sums.{sum_by-cons}
use Rattle.std.proofs.lemmas.Option.{same_Some}
use Rattle.jx_base.specs.declared.pieces.Block.{Block}
use Rattle.jx_base.specs.Passes.{end_pass}
use Rattle.jx_base.specs.Pieces.{PieceValue, ArePieces, IsInOneSegment}
use Rattle.jx_base.specs.Sound.{IsSound}
use Rattle.jx_packet_header.specs.Parts.{cut}
use Rattle.jx_codeblock.specs.declared.LayerEnd.{LayerEnd}
use Rattle.jx_codeblock.specs.Jobs.{IsAsked}
use Rattle.jx_codeblock.specs.Groups.{ends_it, groups, groups_left}
use Rattle.jx_codeblock.specs.Recoding.{Recoding, recoding, recoding_of, layer_parts, layer_parts_after, piece_of, recoded_pieces, own_segments, sent_in, has_own_ends}
use Rattle.jx_codeblock.specs.Segments.{ends_below, segment_at, segment_count, segments_of, bytes_before, sent_by_pieces}
use Rattle.jx_codeblock.proofs.DecideLemmas.{looks, own_looked}
use Rattle.jx_codeblock.proofs.DropLemmas.{left_all, left_ended, left_on}
use Rattle.jx_codeblock.proofs.EndLemmas.{below_ended, below_still, below_grows, below_within, count_is}
use Rattle.jx_codeblock.proofs.GroupLemmas.{none_left, segments_are}
use Rattle.jx_codeblock.proofs.LawLemmas.{kept_rises}
use Rattle.jx_codeblock.proofs.PartLemmas.{IsCut}
use Rattle.jx_codeblock.proofs.RoomLemmas.{before_more}
use Rattle.jx_codeblock.proofs.SentLemmas.{same_at_cuts}
use Rattle.jx_codeblock.proofs.SoundLemmas.{kept_sound}
use Rattle.jx_codeblock.proofs.WithinLemmas.{looks_all, looks_cut}
use Rattle.jx_base.proofs.PieceLemmas.{pieces_end}

-- ---- bytes between places
segment_is : (ss : List (List ℕ)) (a : ℕ) → take (length (get_or ss a [])) (drop (bytes_before ss a) (concat ss)) ≡ get_or ss a []
segment_is [] a = refl
segment_is (s ∷ ss) zero = take-append_seam s (concat ss)
segment_is (s ∷ ss) (suc a) =
    let n : bytes_before (s ∷ ss) (suc a) ≡ length s + bytes_before ss a = sum_by-cons (λ (t : List ℕ). length t) s (take a ss) in
    ap (λ (k : ℕ). take (length (get_or ss a [])) (drop k (s ++ concat ss))) n
    ∙ ap (take (length (get_or ss a []))) (drop-append-add s (concat ss) (bytes_before ss a)) ∙ segment_is ss a

two_parts : (x y z : ℕ) (bytes : List ℕ) → x ≤ y → y ≤ z → take (y - x) (drop x bytes) ++ take (z - y) (drop y bytes) ≡ take (z - x) (drop x bytes)
two_parts x y z bytes le le' =
    let sum : z - x ≡ (y - x) + (z - y) = omega arith in
    let there : x + (y - x) ≡ y = omega arith in
    let e : drop (y - x) (drop x bytes) ≡ drop y bytes = drop-drop (y - x) x bytes ∙ ap (λ (k : ℕ). drop k bytes) there in
    sym (ap (λ (k : ℕ). take k (drop x bytes)) sum ∙ take-add (y - x) (z - y) (drop x bytes) ∙ ap (λ (xs : List ℕ). take (y - x) (drop x bytes) ++ take (z - y) xs) e)

pub drop_at : (ss : List (List ℕ)) (a : ℕ) → a < length ss → drop a ss ≡ get_or ss a [] ∷ drop (a + 1) ss
drop_at [] a lt = absurd (omega arith)
drop_at (s ∷ ss) zero lt = refl
drop_at (s ∷ ss) (suc a) lt =
    let e : suc a + 1 ≡ suc (a + 1) = omega arith in
    drop_at ss a (omega arith) ∙ ap (λ (k : ℕ). get_or ss a [] ∷ drop k (s ∷ ss)) (sym e)

pub drop_past : (ss : List (List ℕ)) (a : ℕ) → length ss ≤ a → drop a ss ≡ []
drop_past [] zero le = refl
drop_past [] (suc a) le = refl
drop_past (s ∷ ss) zero le = absurd (omega arith)
drop_past (s ∷ ss) (suc a) le = drop_past ss a (omega arith)

-- ---- what is sent of a block with these segments
pub record Sends (style passes : ℕ) (ss : List (List ℕ)) (sent : ℕ → ℕ) : Type 0 where
  pub cut : (n : ℕ) → n < passes → end_pass style (n - 1) ≡ true → sent n ≡ bytes_before ss (ends_below style n)
  pub all : sent passes ≡ bytes_before ss (length ss)
  pub none : sent 0 ≡ 0
  pub grows : (n m : ℕ) → n ≤ m → m ≤ passes → IsInOneSegment style n (m - n) → sent n ≤ sent m
  pub long : 1 ≤ passes → length ss ≡ ends_below style (passes - 1) + 1

abbrev pub HaveBytes : (ℕ → ℕ) → List ℕ → List PieceValue → Type 0
HaveBytes sent bytes [] = Unit {0}
HaveBytes sent bytes (p ∷ ps) = (p.bytes ≡ take (sent (p.first + p.passes) - sent p.first) (drop (sent p.first) bytes)) × HaveBytes sent bytes ps

module _ (style passes : ℕ) (ss : List (List ℕ)) (sent : ℕ → ℕ) (sends : Sends style passes ss sent) where
  -- bytes of the segment at hand that were sent before a pass
  abbrev begun : ℕ → List ℕ
  begun first = take (sent first - bytes_before ss (ends_below style first)) (drop (bytes_before ss (ends_below style first)) (concat ss))

  -- a piece after them
  grown : (layer first : ℕ) (p : PieceValue) (ps : List PieceValue) → ArePieces style layer first passes (p ∷ ps) → HaveBytes sent (concat ss) (p ∷ ps)
      → bytes_before ss (ends_below style first) ≤ sent first
      → (sent first ≤ sent (first + p.passes)) × (begun first ++ p.bytes ≡ take (sent (first + p.passes) - bytes_before ss (ends_below style first)) (drop (bytes_before ss (ends_below style first)) (concat ss)))
  grown layer first p ps are have le =
      let begins : p.first ≡ first = are.0.begins in
      let within : first + p.passes ≤ passes = pieces_end style p.layer (first + p.passes) passes ps are.1 in
      let run : p.passes ≡ first + p.passes - first = omega arith in
      let one : IsInOneSegment style first (first + p.passes - first) = subst (λ (k : ℕ). IsInOneSegment style first k) run (subst (λ (k : ℕ). IsInOneSegment style k p.passes) begins are.0.segment) in
      let more : sent first ≤ sent (first + p.passes) = sends.grows first (first + p.passes) (omega arith) within one in
      let bytes : p.bytes ≡ take (sent (first + p.passes) - sent first) (drop (sent first) (concat ss)) =
      subst (λ (k : ℕ). p.bytes ≡ take (sent (k + p.passes) - sent k) (drop (sent k) (concat ss))) begins have.0 in (
        more,
        ap (λ (xs : List ℕ). begun first ++ xs) bytes
            ∙ two_parts (bytes_before ss (ends_below style first)) (sent first) (sent (first + p.passes)) (concat ss) le more,
      )

  -- where the segment ends it is whole
  whole : (layer first : ℕ) (p : PieceValue) (ps : List PieceValue) → ArePieces style layer first passes (p ∷ ps) → HaveBytes sent (concat ss) (p ∷ ps)
      → bytes_before ss (ends_below style first) ≤ sent first → sent (first + p.passes) ≡ bytes_before ss (ends_below style first + 1)
      → begun first ++ p.bytes ≡ get_or ss (ends_below style first) []
  whole layer first p ps are have le e =
      let a : ℕ = ends_below style first in
      let n : sent (first + p.passes) - bytes_before ss a ≡ length (get_or ss a []) = omega (arith, before_more ss a) in
      (grown layer first p ps are have le).1 ∙ ap (λ (k : ℕ). take k (drop (bytes_before ss a) (concat ss))) n ∙ segment_is ss a

  regrouped : (layer first : ℕ) (p : PieceValue) (ps : List PieceValue) → ArePieces style layer first passes (p ∷ ps) → HaveBytes sent (concat ss) (p ∷ ps)
      → bytes_before ss (ends_below style first) ≤ sent first → groups_left style (begun first) (p ∷ ps) ≡ drop (ends_below style first) ss
  regrouped layer first p [] are have le =
      let begins : p.first ≡ first = are.0.begins in
      let some : 1 ≤ p.passes = are.0.some in
      let last : first + p.passes ≡ passes = are.1 in
      let a : ℕ = ends_below style first in
      let flat : ends_below style (passes - 1) ≡ ends_below style p.first = below_within style p.first p.passes (passes - 1) are.0.segment (omega arith) (omega arith) in
      let flat' : ends_below style (passes - 1) ≡ a = flat ∙ ap (ends_below style) begins in
      let long : length ss ≡ ends_below style (passes - 1) + 1 = sends.long (omega arith) in
      let count : length ss ≡ a + 1 = omega arith in
      let end : sent (first + p.passes) ≡ bytes_before ss (a + 1) = ap sent last ∙ sends.all ∙ ap (bytes_before ss) count in
      left_ended style (begun first) p [] refl
      ∙ ap (λ (s : List ℕ). s ∷ []) (whole layer first p [] are have le end)
      ∙ ap (λ (rest : List (List ℕ)). get_or ss a [] ∷ rest) (sym (drop_past ss (a + 1) (omega arith)))
      ∙ sym (drop_at ss a (omega arith))
  regrouped layer first p (q ∷ ps) are have le =
      let begins : p.first ≡ first = are.0.begins in
      let some : 1 ≤ p.passes = are.0.some in
      let some_q : 1 ≤ q.passes = are.1.0.some in
      let end_q : first + p.passes + q.passes ≤ passes = pieces_end style q.layer (first + p.passes + q.passes) passes ps are.1.1 in
      let a : ℕ = ends_below style first in
      let last : ℕ = p.first + p.passes - 1 in
      let next : last + 1 ≡ first + p.passes = omega arith in
      let there : first + p.passes - 1 ≡ last = omega arith in
      let flat : ends_below style last ≡ a = below_within style p.first p.passes last are.0.segment (omega arith) (omega arith) ∙ ap (ends_below style) begins in
      elim (cases_Bool (ends_it style p)) [
        | inl yes_it ↦
            let up : ends_below style (first + p.passes) ≡ a + 1 = ap (ends_below style) (sym next) ∙ below_ended style last yes_it ∙ ap (λ (k : ℕ). k + 1) flat in
            let ended : end_pass style (first + p.passes - 1) ≡ true = ap (λ (k : ℕ). end_pass style k) there ∙ yes_it in
            let here : sent (first + p.passes) ≡ bytes_before ss (ends_below style (first + p.passes)) = sends.cut (first + p.passes) (omega arith) ended in
            let here' : sent (first + p.passes) ≡ bytes_before ss (a + 1) = here ∙ ap (bytes_before ss) up in
            let nothing : begun (first + p.passes) ≡ [] =
            let z : sent (first + p.passes) - bytes_before ss (ends_below style (first + p.passes)) ≡ 0 = omega arith in
            ap (λ (k : ℕ). take k (drop (bytes_before ss (ends_below style (first + p.passes))) (concat ss))) z in
            let again = regrouped p.layer (first + p.passes) q ps are.1 have.1 (omega arith) in
            let again' : groups_left style [] (q ∷ ps) ≡ drop (a + 1) ss =
            ap (λ (s : List ℕ). groups_left style s (q ∷ ps)) (sym nothing) ∙ again ∙ ap (λ (k : ℕ). drop k ss) up in
            let long : length ss ≡ ends_below style (passes - 1) + 1 = sends.long (omega arith) in
            let low : ends_below style first ≤ ends_below style (passes - 1) = below_grows style first (passes - 1) (omega arith) in
            left_ended style (begun first) p (q ∷ ps) yes_it
            ∙ ap (λ (s : List ℕ). s ∷ groups_left style [] (q ∷ ps)) (whole layer first p (q ∷ ps) are have le here')
            ∙ ap (λ (rest : List (List ℕ)). get_or ss a [] ∷ rest) again'
            ∙ sym (drop_at ss a (omega arith))
        | inr no_it ↦
            let same : ends_below style (first + p.passes) ≡ a = ap (ends_below style) (sym next) ∙ below_still style last no_it ∙ flat in
            let both = grown layer first p (q ∷ ps) are have le in
            let more : sent first ≤ sent (first + p.passes) = both.0 in
            let bound : bytes_before ss (ends_below style (first + p.passes)) ≤ sent (first + p.passes) = rw same (omega arith) in
            let again = regrouped p.layer (first + p.passes) q ps are.1 have.1 bound in
            let now : begun first ++ p.bytes ≡ begun (first + p.passes) =
            both.1 ∙ ap (λ (k : ℕ). take (sent (first + p.passes) - bytes_before ss k) (drop (bytes_before ss k) (concat ss))) (sym same) in
            left_on style (begun first) p (q ∷ ps) no_it
            ∙ ap (λ (s : List ℕ). groups_left style s (q ∷ ps)) now ∙ again ∙ ap (λ (k : ℕ). drop k ss) same
      ]

  pub regroup : (layer : ℕ) (ps : List PieceValue) → ArePieces style layer 0 passes ps → HaveBytes sent (concat ss) ps → (passes ≡ 0 → ss ≡ []) → groups style ps ≡ ss
  regroup layer [] are have none_at = sym (none_at (sym are))
  regroup layer (p ∷ ps) are have none_at =
      let start : sent 0 - 0 ≡ 0 = omega (arith, sends.none) in
      let nothing : begun 0 ≡ [] = ap (λ (k : ℕ). take k (drop 0 (concat ss))) start in
      sym (left_all style (p ∷ ps)) ∙ ap (λ (s : List ℕ). groups_left style s (p ∷ ps)) (sym nothing) ∙ regrouped layer 0 p ps are have (omega arith)

-- ---- the bytes of parts
layer_have : (sent : ℕ → ℕ) (bytes : List ℕ) (layer first : ℕ) (runs : List ℕ) (rest : List PieceValue) → HaveBytes sent bytes rest
    → HaveBytes sent bytes (map (piece_of bytes) (layer_parts sent layer first runs) ++ rest)
layer_have sent bytes layer first [] rest have = have
layer_have sent bytes layer first (run ∷ runs) rest have = (refl, layer_have sent bytes layer (first + run) runs rest have)

pub parts_have : (style : ℕ) (sent : ℕ → ℕ) (bytes : List ℕ) (first : ℕ) (ends : List LayerEnd) → HaveBytes sent bytes (map (piece_of bytes) (layer_parts_after style sent first ends))
parts_have style sent bytes first [] = tt
parts_have style sent bytes first (e ∷ ends) =
    subst (λ (ps : List PieceValue). HaveBytes sent bytes ps)
    (sym (map-append (piece_of bytes) (layer_parts sent e.layer first (cut style first (e.passes - first))) (layer_parts_after style sent e.passes ends)))
    (layer_have sent bytes e.layer first (cut style first (e.passes - first)) (map (piece_of bytes) (layer_parts_after style sent e.passes ends)) (parts_have style sent bytes e.passes ends))

-- ---- a kept block
at_cut : (b : Block) (ends : List LayerEnd) (n : ℕ) → IsSound b → n ≤ b.passes → IsCut b.style.bits b.passes n → sent_in b None ends (own_segments b) n ≡ looks b n
at_cut b ends n sound le is = elim (cases_Bool (has_own_ends b.pieces ends)) [
  | inl t ↦ cond-true (has_own_ends b.pieces ends) (sent_by_pieces b.pieces n) (looks b n) t ∙ sym (same_at_cuts b.style.bits 0 b.passes n b.pieces (own_looked b) sound.pieces le is)
  | inr f ↦ cond-false (has_own_ends b.pieces ends) (sent_by_pieces b.pieces n) (looks b n) f
]

own_long : (b : Block) → length (own_segments b) ≡ segment_count b.style.bits b.passes
unfolding segments_of
own_long b = length-map-range_with_len (segment_at b.style.bits b.pieces) 0 (segment_count b.style.bits b.passes)

no_segments : (b : Block) → IsSound b → b.passes ≡ 0 → own_segments b ≡ []
no_segments b sound e =
    let none : b.pieces ≡ [] = none_left b.style.bits 0 0 b.passes b.pieces sound.pieces (omega arith) in
    segments_are b.style.bits 0 b.passes b.pieces sound.pieces ∙ ap (groups b.style.bits) none

pub kept_sends : (b : Block) (ends : List LayerEnd) → IsSound b → Sends b.style.bits b.passes (own_segments b) (sent_in b None ends (own_segments b))
kept_sends b ends sound = record {
  cut = λ (n : ℕ) (lt : n < b.passes) ended.
      at_cut b ends n sound (omega arith) (inr (inr ended))
      ∙ looks_cut b.style.bits b.passes n (own_segments b) (own_looked b) (λ (e : n ≡ b.passes). omega arith) (or_right (n == 0) (end_pass b.style.bits (n - 1)) ended);
  all = at_cut b ends b.passes sound (omega arith) (inr (inl refl)) ∙ looks_all b.style.bits b.passes b.passes (own_segments b) (own_looked b) refl;
  none = at_cut b ends 0 sound (omega arith) (inl refl) ∙ start;
  grows = (kept_rises b ends sound (has_own_ends b.pieces ends) refl).grows;
  long = λ (some : 1 ≤ b.passes). own_long b ∙ count_is b.style.bits b.passes (omega arith);
}
  where
    start : looks b 0 ≡ 0
    start = elim (cases_eq 0 b.passes) [
      | inl e ↦
          looks_all b.style.bits b.passes 0 (own_segments b) (own_looked b) e
          ∙ ap (λ (ss : List (List ℕ)). bytes_before ss (length ss)) (no_segments b sound (sym e))
      | inr ne ↦ looks_cut b.style.bits b.passes 0 (own_segments b) (own_looked b) ne (or_left (0 == 0) (end_pass b.style.bits (0 - 1)) refl)
    ]

pub kept_have : (b : Block) (ends : List LayerEnd) (r : Recoding) → Some r ≡ recoding b None ends → HaveBytes (sent_in b None ends (own_segments b)) (concat (own_segments b)) (recoded_pieces r)
unfolding recoding
kept_have b ends r e =
    let is : r ≡ recoding_of b None ends (own_segments b) = same_Some r (recoding_of b None ends (own_segments b)) e in
    let P : Recoding → Type 0 = λ q. HaveBytes (sent_in b None ends (own_segments b)) (concat (own_segments b)) (recoded_pieces q) in
    subst P (sym is) (parts_have b.style.bits (sent_in b None ends (own_segments b)) (concat (own_segments b)) 0 ends)

pub kept_segments : (b : Block) (ends : List LayerEnd) (r : Recoding) → IsAsked b None ends → Some r ≡ recoding b None ends
    → segments_of b.style.bits b.passes (recoded_pieces r) ≡ own_segments b
kept_segments b ends r asked e =
    let sound = kept_sound b ends r asked e in
    segments_are b.style.bits 0 b.passes (recoded_pieces r) sound
    ∙ regroup b.style.bits b.passes (own_segments b) (sent_in b None ends (own_segments b)) (kept_sends b ends asked.sound) 0 (recoded_pieces r) sound (kept_have b ends r e)
    (no_segments b asked.sound)
