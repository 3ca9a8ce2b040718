-- Which bytes the layers of a kept block have.
use Rattle.std.proofs.Common.{◌≡◌, ℕ, ◌+◌, ◌<◌, ◌≤◌, ◌^◌, true, false, List, [], ◌∷◌, inl, ◌∙◌, ap, sym, subst, refl, arith, length, map, get_or, None, Bor}
use Rattle.std.specs.List.{All, range_with_len, sum_by}
use Rattle.std.proofs.lemmas.Bool.{cond-true, cond-false}
use Rattle.std.proofs.lemmas.List.{length-map}
use Rattle.std.proofs.lemmas.List.Concat.{length-flat_map}
use Rattle.std.proofs.lemmas.List.Sums.{sum_by-cons}
use Rattle.std.proofs.lemmas.List.Elements.{All-cons, All-nil}
use Rattle.jx_base.specs.declared.pieces.Block.{Block}
use Rattle.jx_base.specs.declared.pieces.Piece.{Piece}
use Rattle.jx_base.specs.declared.style.Style.{Style}
use Rattle.jx_base.specs.Pieces.{PieceValue, value_of, ArePieces, bytes_in}
use Rattle.jx_base.specs.Places.{length_of}
use Rattle.jx_base.specs.Sound.{IsSound}
use Rattle.jx_tier1_specs.specs.Reading.{Coding, decoded}
use Rattle.jx_tier1_specs.specs.Segments.{bytes_of}
use Rattle.jx_tier1_specs.specs.Short.{AreShort}
use Rattle.jx_codeblock.specs.declared.LayerEnd.{LayerEnd}
use Rattle.jx_codeblock.specs.Groups.{groups}
use Rattle.jx_codeblock.specs.Segments.{bytes_before, sent_by_looks, sent_by_pieces}
use Rattle.jx_codeblock.specs.Recoding.{has_own_ends, own_segments, coding_in, decoded_in, layer_parts_after, sent_in}
use Rattle.jx_codeblock.specs.Jobs.{AreEnds}
use Rattle.jx_codeblock.specs.Laws.{decoded_first}
use Rattle.jx_codeblock.specs.Tables.{are_cut, at_place, rows, bytes_joined, AreFew}
use Rattle.jx_codeblock.proofs.DropLemmas.{pieces_few}
use Rattle.jx_codeblock.proofs.GroupLemmas.{segments_are}
use Rattle.jx_codeblock.proofs.LookedLemmas.{looked_few}
use Rattle.jx_codeblock.proofs.PartLemmas.{parts_everywhere, parts_at_cuts}
use Rattle.jx_codeblock.proofs.RoomLemmas.{listed_at}
use Rattle.jx_codeblock.proofs.SentLemmas.{table_at, same_at_cuts, groups_total, all_before}
use Rattle.jx_base.specs.Limits.{most_bytes}

-- what the decoder looked at in a block's own segments
abbrev pub own_looked : Block → List ℕ
own_looked b = (decoded_in b b.style.bits (own_segments b)).looked

abbrev pub looks : Block → ℕ → ℕ
looks b n = sent_by_looks b.style.bits b.passes (own_segments b) (own_looked b) n

pub kept_parts : (b : Block) (ends : List LayerEnd) → AreEnds 0 0 b.passes ends → has_own_ends b.pieces ends ≡ true
    → layer_parts_after b.style.bits (sent_by_pieces b.pieces) 0 ends ≡ layer_parts_after b.style.bits (sent_in b None ends (own_segments b)) 0 ends
kept_parts b ends are own =
    parts_everywhere (sent_by_pieces b.pieces) (sent_in b None ends (own_segments b)) b.style.bits 0 b.passes ends are
    (λ (n : ℕ) le. sym (cond-true (has_own_ends b.pieces ends) (sent_by_pieces b.pieces n) (looks b n) own))

pub cut_parts : (b : Block) (ends : List LayerEnd) → ArePieces b.style.bits 0 0 b.passes b.pieces → AreEnds 0 0 b.passes ends → has_own_ends b.pieces ends ≡ false
    → are_cut b.style.bits b.passes ends ≡ true
    → layer_parts_after b.style.bits (sent_by_pieces b.pieces) 0 ends ≡ layer_parts_after b.style.bits (sent_in b None ends (own_segments b)) 0 ends
cut_parts b ends pieces are own cuts =
    parts_at_cuts (sent_by_pieces b.pieces) (sent_in b None ends (own_segments b)) b.style.bits 0 b.passes ends are cuts
    (λ (n : ℕ) le cut.
    sym (same_at_cuts b.style.bits 0 b.passes n b.pieces (own_looked b) pieces le cut)
    ∙ sym (cond-false (has_own_ends b.pieces ends) (sent_by_pieces b.pieces n) (looks b n) own))

pub none_parts : (b : Block) (ends : List LayerEnd) → ArePieces b.style.bits 0 0 b.passes b.pieces → AreEnds 0 0 b.passes ends → has_own_ends b.pieces ends ≡ false
    → b.passes ≡ 0
    → layer_parts_after b.style.bits (sent_by_pieces b.pieces) 0 ends ≡ layer_parts_after b.style.bits (sent_in b None ends (own_segments b)) 0 ends
none_parts b ends pieces are own zero_passes =
    parts_everywhere (sent_by_pieces b.pieces) (sent_in b None ends (own_segments b)) b.style.bits 0 b.passes ends are
    (λ (n : ℕ) le.
    sym (same_at_cuts b.style.bits 0 b.passes n b.pieces (own_looked b) pieces le (inl (omega arith)))
    ∙ sym (cond-false (has_own_ends b.pieces ends) (sent_by_pieces b.pieces n) (looks b n) own))

-- over tables
pub pieces_table : (b : Block) (ends : List LayerEnd) (table : List ℕ) → ArePieces b.style.bits 0 0 b.passes b.pieces → AreEnds 0 0 b.passes ends → table ≡ 0 ∷ rows 0 b.pieces
    → layer_parts_after b.style.bits (at_place table) 0 ends ≡ layer_parts_after b.style.bits (sent_by_pieces b.pieces) 0 ends
pieces_table b ends table pieces are e =
    parts_everywhere (at_place table) (sent_by_pieces b.pieces) b.style.bits 0 b.passes ends are
    (λ (n : ℕ) le. ap (λ (l : List ℕ). get_or l n 0) e ∙ table_at b.style.bits 0 b.passes n b.pieces pieces le)

pub listed_table : (f : ℕ → ℕ) (style passes : ℕ) (ends : List LayerEnd) (table : List ℕ) → AreEnds 0 0 passes ends → table ≡ map f (range_with_len 0 (passes + 1))
    → layer_parts_after style (at_place table) 0 ends ≡ layer_parts_after style f 0 ends
listed_table f style passes ends table are e =
    parts_everywhere (at_place table) f style 0 passes ends are
    (λ (n : ℕ) le. ap (λ (l : List ℕ). get_or l n 0) e ∙ listed_at f 0 (passes + 1) n (omega arith) ∙ ap f (omega arith))

-- ---- segments have no more bytes than their block
all_short : (ss : List (List ℕ)) → sum_by (λ (t : List ℕ). length t) ss ≤ most_bytes → AreShort ss
all_short [] le = All-nil (λ (s : List ℕ). length s < 2 ^ 32)
all_short (s ∷ ss) le =
    let e : sum_by (λ (t : List ℕ). length t) (s ∷ ss) ≡ length s + sum_by (λ (t : List ℕ). length t) ss = sum_by-cons (λ (t : List ℕ). length t) s ss in
    All-cons (λ (t : List ℕ). length t < 2 ^ 32) s ss (omega arith) (all_short ss (omega arith))

pub groups_short : (style : ℕ) (ps : List PieceValue) → bytes_in ps ≤ most_bytes → AreShort (groups style ps)
groups_short style ps le = all_short (groups style ps) (omega (arith, groups_total style ps))

pub groups_few : (style : ℕ) (ps : List PieceValue) (slices : List (Bor (List ℕ))) → map bytes_of slices ≡ groups style ps → bytes_in ps ≤ most_bytes
    → bytes_before (map bytes_of slices) (length slices) ≤ most_bytes
groups_few style ps slices e le =
    let l : length (map bytes_of slices) ≡ length slices = length-map slices bytes_of in
    let whole : bytes_before (map bytes_of slices) (length (map bytes_of slices)) ≡ sum_by (λ (t : List ℕ). length t) (map bytes_of slices) = all_before (map bytes_of slices) in
    let whole' : bytes_before (map bytes_of slices) (length slices) ≡ sum_by (λ (t : List ℕ). length t) (map bytes_of slices) = rw l at whole in
    let sum : sum_by (λ (t : List ℕ). length t) (map bytes_of slices) ≡ bytes_in ps = ap (sum_by (λ (t : List ℕ). length t)) e ∙ groups_total style ps in
    omega arith

-- ---- what the decoder is given
pub few_of : (wide high : ℕ) (c : Coding) (ss slices : List (List ℕ)) (passes : ℕ) (looked : List ℕ) → slices ≡ ss → looked ≡ (decoded wide high c ss passes).looked
    → AreFew c.style slices looked
few_of wide high c ss slices passes looked e f = rw (e, f) (looked_few wide high c ss passes)

pub slice_few : (b : Block) (ps : List Piece) → IsSound b → map value_of ps ≡ b.pieces → All (λ (p : Piece). p.first + p.passes < 2 ^ 16) ps
slice_few b ps sound e =
    let P : List PieceValue → Type 0 = λ qs. ArePieces b.style.bits 0 0 b.passes qs in
    pieces_few b.style.bits 0 0 b.passes ps (subst P (sym e) sound.pieces) (omega (arith, sound.few, sound.planes))

pub joined_long : (b : Block) (ps : List Piece) (whole : List ℕ) → IsSound b → map value_of ps ≡ b.pieces → whole ≡ bytes_joined (map value_of ps) → length whole ≤ most_bytes
joined_long b ps whole sound e f =
    let g : whole ≡ bytes_joined b.pieces = f ∙ ap bytes_joined e in
    let l : length whole ≡ bytes_in b.pieces = ap (λ (xs : List ℕ). length xs) g ∙ length-flat_map (λ (p : PieceValue). p.bytes) b.pieces in
    omega (arith, sound.bytes)

-- ---- the same of any segments
pub groups_most : (style : ℕ) (ps : List PieceValue) (ss : List (List ℕ)) → ss ≡ groups style ps → bytes_in ps ≤ most_bytes → bytes_before ss (length ss) ≤ most_bytes
groups_most style ps ss e le =
    let sum : sum_by (λ (t : List ℕ). length t) ss ≡ bytes_in ps = ap (sum_by (λ (t : List ℕ). length t)) e ∙ groups_total style ps in
    omega (arith, all_before ss)

-- a block's own segments, put together from its pieces
pub own_same : (b : Block) (style : Style) (ss : List (List ℕ)) → IsSound b → style ≡ b.style → ss ≡ groups b.style.bits b.pieces
    → decoded_in b style.bits ss ≡ decoded_in b b.style.bits (own_segments b)
own_same b style ss sound e f =
    ap (λ (s : Style). decoded_in b s.bits ss) e
    ∙ ap (λ (segments : List (List ℕ)). decoded_in b b.style.bits segments) (f ∙ sym (segments_are b.style.bits 0 b.passes b.pieces sound.pieces))

pub looked_few_in : (b : Block) (style found : Style) (last : ℕ) (ss slices : List (List ℕ)) (looked : List ℕ) → found ≡ style → slices ≡ ss
    → looked ≡ (decoded_first b found.bits ss last).looked → AreFew style.bits slices looked
looked_few_in b style found last ss slices looked e f g =
    subst (λ (s : Style). AreFew s.bits slices looked) e (few_of (length_of b.rect.x) (length_of b.rect.y) (coding_in b found.bits) ss slices last looked f g)

pub own_table : (b : Block) (last : ℕ) (ss : List (List ℕ)) → IsSound b → ss ≡ groups b.style.bits b.pieces
    → map (sent_by_looks b.style.bits b.passes ss (decoded_first b b.style.bits ss last).looked) (range_with_len 0 (b.passes + 1))
    ≡ map (sent_by_looks b.style.bits b.passes (own_segments b) (decoded_first b b.style.bits (own_segments b) last).looked) (range_with_len 0 (b.passes + 1))
own_table b last ss sound e =
    let same : ss ≡ own_segments b = e ∙ sym (segments_are b.style.bits 0 b.passes b.pieces sound.pieces) in
    rw same refl
