-- The parts of a kept block are again pieces of it.
use Rattle.std.proofs.Common.{◌≡◌, ℕ, zero, suc, ◌+◌, ◌-◌, ◌<◌, ◌≤◌, ◌==◌, ◌||◌, Bool, true, false, List, [], ◌∷◌, ◌++◌, inl, inr, ◌∙◌, ap, sym, subst, refl, arith, length, map, take, drop, get_or, Some, None}
use Rattle.std.specs.List.{concat}
use Rattle.std.proofs.lemmas.Bool.{cases_lt, cases_eq, cases_Bool, cond-true, cond-false, or_parts, eqb-false}
use Rattle.std.proofs.lemmas.List.{drop-take, map-append}
use Rattle.std.proofs.lemmas.Option.{same_Some}
use Rattle.jx_base.specs.declared.pieces.Block.{Block}
use Rattle.jx_base.specs.Markers.{HasNoMarker}
use Rattle.jx_base.specs.Passes.{end_pass}
use Rattle.jx_base.specs.Pieces.{PieceValue, IsPieceOf, ArePieces, IsInOneSegment}
use Rattle.jx_base.specs.Places.{length_of}
use Rattle.jx_base.specs.Sound.{IsSound}
use Rattle.jx_packet_header.specs.Parts.{cut, one_more}
use Rattle.jx_codeblock.specs.declared.LayerEnd.{LayerEnd}
use Rattle.jx_codeblock.specs.Jobs.{IsAsked, AreEnds}
use Rattle.jx_codeblock.specs.Groups.{groups}
use Rattle.jx_codeblock.specs.Recoding.{Recoding, recoding, recoding_of, layer_parts, layer_parts_after, piece_of, recoded_pieces, own_segments, sent_in, has_own_ends, coding_in}
use Rattle.jx_codeblock.specs.Segments.{ends_below, bytes_before, less_last_ff, sent_by_looks, sent_by_pieces}
use Rattle.jx_codeblock.specs.Tables.{AreFew}
use Rattle.jx_codeblock.proofs.CleanLemmas.{AllClean, drop_clean, front_clean, groups_clean, less_clean, pieces_clean, none_clean}
use Rattle.jx_codeblock.proofs.DecideLemmas.{looks, own_looked}
use Rattle.jx_codeblock.proofs.EndLemmas.{below_still}
use Rattle.jx_codeblock.proofs.GroupLemmas.{segments_are}
use Rattle.jx_codeblock.proofs.LookedLemmas.{looked_few}
use Rattle.jx_codeblock.proofs.OwnBytes.{own_bytes}
use Rattle.jx_codeblock.proofs.PartLemmas.{ends_within}
use Rattle.jx_codeblock.proofs.WithinLemmas.{less_most, looks_all, looks_cut, looks_in}
use Rattle.jx_base.proofs.PieceLemmas.{alone, longer, pieces_lower}

-- ---- runs of passes as they are cut
abbrev pub Exact : ℕ → ℕ → ℕ → List ℕ → Type 0
Exact style first last [] = first ≡ last
Exact style first last (run ∷ runs) = (1 ≤ run) × IsInOneSegment style first run × Exact style (first + run) last runs

exact_more : (style first last : ℕ) (runs : List ℕ) → end_pass style first ≡ false → Exact style (first + 1) last runs → Exact style first last (one_more runs)
exact_more style first last [] flat h = (omega arith, alone style first, h)
exact_more style first last (run ∷ runs) flat h =
    let e : first + 1 + run ≡ first + suc run = omega arith in
    (omega arith, longer style first run flat h.1, subst (λ (n : ℕ). Exact style n last runs) e h.2)

pub cut_exact : (style first n : ℕ) → Exact style first (first + n) (cut style first n)
cut_exact style first zero = omega arith
cut_exact style first (suc n) =
    let e : first + 1 + n ≡ first + suc n = omega arith in
    let rest : Exact style (first + 1) (first + suc n) (cut style (first + 1) n) =
    subst (λ (k : ℕ). Exact style (first + 1) k (cut style (first + 1) n)) e (cut_exact style (first + 1) n) in
    let P : List ℕ → Type 0 = λ runs. Exact style first (first + suc n) runs in
    elim (cases_Bool (end_pass style first)) [
      | inl t ↦ subst P (sym (cond-true (end_pass style first) (1 ∷ cut style (first + 1) n) (one_more (cut style (first + 1) n)) t)) (omega arith, alone style first, rest)
      | inr f ↦ subst P (sym (cond-false (end_pass style first) (1 ∷ cut style (first + 1) n) (one_more (cut style (first + 1) n)) f))
          (exact_more style first (first + suc n) (cut style (first + 1) n) f rest)
    ]

pub exact_end : (style first last : ℕ) (runs : List ℕ) → Exact style first last runs → first ≤ last
exact_end style first last [] h = let e : first ≡ last = h in omega arith
exact_end style first last (run ∷ runs) h = let le : first + run ≤ last = exact_end style (first + run) last runs h.2 in omega arith

-- ---- the bytes between two places up to which they are clean
part_clean : (from to : ℕ) (bytes : List ℕ) → HasNoMarker 0 (take to bytes) → HasNoMarker 0 (take (to - from) (drop from bytes))
part_clean from to bytes h = elim (cases_lt from to) [
  | inl lt ↦
      let sum : to ≡ from + (to - from) = omega arith in
      let h' : HasNoMarker 0 (take (from + (to - from)) bytes) = subst (λ (n : ℕ). HasNoMarker 0 (take n bytes)) sum h in
      subst (λ (xs : List ℕ). HasNoMarker 0 xs) (drop-take from (to - from) bytes) (drop_clean from 0 (take (from + (to - from)) bytes) h')
  | inr ge ↦ let z : to - from ≡ 0 = omega arith in subst (λ (n : ℕ). HasNoMarker 0 (take n (drop from bytes))) (sym z) none_clean
]

abbrev pub Clean : ℕ → (ℕ → ℕ) → List ℕ → Type 0
Clean all sent bytes = (n : ℕ) → n ≤ all → HasNoMarker 0 (take (sent n) bytes)

-- ---- the parts of a layer, and those after it
part_is : (style all : ℕ) (sent : ℕ → ℕ) (bytes : List ℕ) (below layer first run : ℕ) → Clean all sent bytes → first + run ≤ all → below ≤ layer → 1 ≤ run → IsInOneSegment style first run
    → IsPieceOf style below first (piece_of bytes (record { layer = layer; first = first; passes = run; from = sent first; to = sent (first + run) }))
part_is style all sent bytes below layer first run clean le at some one = record {
  layers = at;
  begins = refl;
  some = some;
  segment = one;
  markers = part_clean (sent first) (sent (first + run)) bytes (clean (first + run) le);
}

layer_sound : (style all : ℕ) (sent : ℕ → ℕ) (bytes : List ℕ) (layer first last : ℕ) (runs : List ℕ) (rest : List PieceValue) → Clean all sent bytes → last ≤ all
    → Exact style first last runs → ArePieces style layer last all rest → ArePieces style layer first all (map (piece_of bytes) (layer_parts sent layer first runs) ++ rest)
layer_sound style all sent bytes layer first last [] rest clean le h are = subst (λ (n : ℕ). ArePieces style layer n all rest) (sym h) are
layer_sound style all sent bytes layer first last (run ∷ runs) rest clean le h are =
    let within : first + run ≤ last = exact_end style (first + run) last runs h.2 in (
      part_is style all sent bytes layer layer first run clean (omega arith) (omega arith) h.0 h.1,
      layer_sound style all sent bytes layer (first + run) last runs rest clean le h.2 are,
    )

-- a lower layer before
pub parts_sound : (style all : ℕ) (sent : ℕ → ℕ) (bytes : List ℕ) (layer first : ℕ) (ends : List LayerEnd) → Clean all sent bytes → AreEnds layer first all ends
    → ArePieces style layer first all (map (piece_of bytes) (layer_parts_after style sent first ends))
parts_sound style all sent bytes layer first [] clean are = are
parts_sound style all sent bytes layer first (e ∷ ends) clean are =
    let at : layer ≤ e.layer = are.0 in
    let lt : first < e.passes = are.1 in
    let le : e.passes ≤ all = ends_within (e.layer + 1) e.passes all ends are.2 in
    let sum : first + (e.passes - first) ≡ e.passes = omega arith in
    let later : ArePieces style (e.layer + 1) e.passes all (map (piece_of bytes) (layer_parts_after style sent e.passes ends)) =
    parts_sound style all sent bytes (e.layer + 1) e.passes ends clean are.2 in
    let rest : ArePieces style e.layer e.passes all (map (piece_of bytes) (layer_parts_after style sent e.passes ends)) =
    pieces_lower style e.layer (e.layer + 1) e.passes all (map (piece_of bytes) (layer_parts_after style sent e.passes ends)) (omega arith) later in
    let runs : Exact style first e.passes (cut style first (e.passes - first)) =
    subst (λ (n : ℕ). Exact style first n (cut style first (e.passes - first))) sum (cut_exact style first (e.passes - first)) in
    let here = layer_sound style all sent bytes e.layer first e.passes (cut style first (e.passes - first)) (map (piece_of bytes) (layer_parts_after style sent e.passes ends)) clean le runs rest in
    subst (λ (ps : List PieceValue). ArePieces style layer first all ps)
    (sym (map-append (piece_of bytes) (layer_parts sent e.layer first (cut style first (e.passes - first))) (layer_parts_after style sent e.passes ends)))
    (pieces_lower style layer e.layer first all
    (map (piece_of bytes) (layer_parts sent e.layer first (cut style first (e.passes - first))) ++ map (piece_of bytes) (layer_parts_after style sent e.passes ends)) at here)

-- ---- what is sent of a kept block is clean
pub looks_clean : (style passes : ℕ) (ss : List (List ℕ)) (looked : List ℕ) → AllClean ss → AreFew style ss looked → Clean passes (sent_by_looks style passes ss looked) (concat ss)
looks_clean style passes ss looked all few n le =
    let P : ℕ → Type 0 = λ k. HasNoMarker 0 (take k (concat ss)) in
    let whole : (k : ℕ) → P (bytes_before ss k) = λ (k : ℕ).
    let e : bytes_before ss k + 0 ≡ bytes_before ss k = omega arith in
    subst P e (front_clean ss k 0 all (omega arith) none_clean) in
    elim (cases_eq n passes) [
      | inl last ↦ subst P (sym (looks_all style passes n ss looked last)) (whole (length ss))
      | inr ne ↦ elim (cases_Bool (n == 0 || end_pass style (n - 1))) [
        | inl t ↦ subst P (sym (looks_cut style passes n ss looked ne t)) (whole (ends_below style n))
        | inr f ↦
            let parts = or_parts (n == 0) (end_pass style (n - 1)) f in
            let back : n - 1 + 1 ≡ n = positive n (eqb-false n 0 parts.0) in
            let still : ends_below style n ≡ ends_below style (n - 1) = ap (ends_below style) (sym back) ∙ below_still style (n - 1) parts.1 in
            let here : get_or looked (n - 1) 0 ≤ length (get_or ss (ends_below style (n - 1)) []) = few (n - 1) in
            let here' : get_or looked (n - 1) 0 ≤ length (get_or ss (ends_below style n) []) = rw still here in
            let segment : List ℕ = get_or ss (ends_below style n) [] in
            subst P (sym (looks_in style passes n ss looked ne f))
            (front_clean ss (ends_below style n) (less_last_ff segment (get_or looked (n - 1) 0)) all (less_within segment (get_or looked (n - 1) 0) here')
            (less_clean segment (get_or looked (n - 1) 0) (segment_clean ss (ends_below style n) all) here'))
      ]
    ]
  where
    positive : (n : ℕ) → (n ≡ 0 → ⊥) → n - 1 + 1 ≡ n
    positive zero ne = absurd (ne refl)
    positive (suc n) ne = omega arith

    less_within : (segment : List ℕ) (n : ℕ) → n ≤ length segment → less_last_ff segment n ≤ length segment
    less_within segment n le = omega (arith, (less_most segment n).0)

    segment_clean : (ss : List (List ℕ)) (k : ℕ) → AllClean ss → HasNoMarker 0 (get_or ss k [])
    segment_clean [] k all = none_clean
    segment_clean (s ∷ ss) zero all = all.0
    segment_clean (s ∷ ss) (suc k) all = segment_clean ss k all.1

kept_clean : (b : Block) (ends : List LayerEnd) → IsSound b → (own : Bool) → has_own_ends b.pieces ends ≡ own
    → Clean b.passes (sent_in b None ends (own_segments b)) (concat (own_segments b))
kept_clean b ends sound true e n le =
    let at : sent_in b None ends (own_segments b) n ≡ sent_by_pieces b.pieces n = cond-true (has_own_ends b.pieces ends) (sent_by_pieces b.pieces n) (looks b n) e in
    rw (at, own_bytes b sound) (pieces_clean b.style.bits 0 0 b.passes n b.pieces sound.pieces)
kept_clean b ends sound false e n le =
    let at : sent_in b None ends (own_segments b) n ≡ looks b n = cond-false (has_own_ends b.pieces ends) (sent_by_pieces b.pieces n) (looks b n) e in
    let own : own_segments b ≡ groups b.style.bits b.pieces = segments_are b.style.bits 0 b.passes b.pieces sound.pieces in
    let clean : AllClean (own_segments b) = subst (λ (ss : List (List ℕ)). AllClean ss) (sym own) (groups_clean b.style.bits 0 0 b.passes b.pieces sound.pieces) in
    let few = looked_few (length_of b.rect.x) (length_of b.rect.y) (coding_in b b.style.bits) (own_segments b) b.passes in
    subst (λ (k : ℕ). HasNoMarker 0 (take k (concat (own_segments b)))) (sym at) (looks_clean b.style.bits b.passes (own_segments b) (own_looked b) clean few n le)

pub kept_sound : (b : Block) (ends : List LayerEnd) (r : Recoding) → IsAsked b None ends → Some r ≡ recoding b None ends → ArePieces b.style.bits 0 0 b.passes (recoded_pieces r)
unfolding recoding
kept_sound b ends r asked e =
    let is : r ≡ recoding_of b None ends (own_segments b) = same_Some r (recoding_of b None ends (own_segments b)) e in
    let P : Recoding → Type 0 = λ q. ArePieces b.style.bits 0 0 b.passes (recoded_pieces q) in
    subst P (sym is)
    (parts_sound b.style.bits b.passes (sent_in b None ends (own_segments b)) (concat (own_segments b)) 0 0 ends
    (kept_clean b ends asked.sound (has_own_ends b.pieces ends) refl) asked.layers)
