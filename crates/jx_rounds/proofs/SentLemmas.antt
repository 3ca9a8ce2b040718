-- Tile-parts as they are written: their bytes, and their lengths.
use Rattle.std.proofs.Common.{◌≡◌, ◌∙◌, ◌<◌, ◌≤◌, ◌+◌, ℕ, List, [], ◌∷◌, ◌++◌, length, map, drop, refl, ap, sym, append_assoc, append-nil, Option, None, Some, slice_index_or}
use Rattle.std.specs.List.{concat}
use Rattle.std.proofs.lemmas.Grind.{flat_map-append}
use Rattle.std.specs.Option.{option_map}
use Rattle.std.proofs.lemmas.List.{drop_all, map-append}
use Rattle.std.proofs.lemmas.List.Folds.{concat-append}
use Rattle.jx_tier2_writer.specs.declared.index.PartLength.{PartLength}
use Rattle.jx_rounds.specs.MadeRounds.{parts_of}
use Rattle.jx_rounds.specs.Sent.{PartSent, bytes_sent, length_sent, lengths_behind, lengths_sent, sent_as, sent_from, sent_of}
use Rattle.jx_rounds.proofs.PartLemmas.{cut_at}

-- ---- bytes
strings_sent : (t : ℕ) (strings : List (List ℕ)) → bytes_sent (sent_of t strings) ≡ concat strings
strings_sent t [] = refl
strings_sent t (b ∷ strings) = ap (λ (more : List ℕ). b ++ more) (strings_sent t strings)

pub both_sent : (a b : List PartSent) → bytes_sent (a ++ b) ≡ bytes_sent a ++ bytes_sent b
both_sent a b = let f : PartSent → List ℕ = λ part. part.bytes in flat_map-append f a b

pub tiles_sent : (t : ℕ) (tiles : List (List (List (List ℕ)))) → bytes_sent (sent_from t tiles) ≡ concat (parts_of tiles)
tiles_sent t [] = refl
tiles_sent t (tile ∷ tiles) =
    both_sent (sent_of t (map concat tile)) (sent_from (t + 1) tiles) ∙ ap (λ (b : List ℕ). b ++ bytes_sent (sent_from (t + 1) tiles)) (strings_sent t (map concat tile))
    ∙ ap (λ (b : List ℕ). concat (map concat tile) ++ b) (tiles_sent (t + 1) tiles) ∙ sym (concat-append (map concat tile) (parts_of tiles))

-- ---- lengths
pub behind_none : (lengths : Option (List PartLength)) → lengths ≡ lengths_behind [] lengths
behind_none None = refl
behind_none (Some before) = ap (λ (l : List PartLength). Some l) (sym (append-nil before))

pub behind_both : (a b : List PartSent) (old now new : Option (List PartLength)) → now ≡ lengths_behind a old → new ≡ lengths_behind b now → new ≡ lengths_behind (a ++ b) old
behind_both a b None now new first later = later ∙ ap (lengths_behind b) first
behind_both a b (Some before) now new first later =
    later ∙ ap (lengths_behind b) first
    ∙ ap (λ (l : List PartLength). Some l) (append_assoc before (lengths_sent a) (lengths_sent b) ∙ ap (λ (l : List PartLength). before ++ l) (sym (map-append length_sent a b)))

-- one tile-part more
behind_one : (part : PartSent) (rest : List PartSent) (now next : Option (List PartLength)) → next ≡ option_map (λ (l : List PartLength). l ++ length_sent part ∷ []) now
    → lengths_behind rest next ≡ lengths_behind (part ∷ rest) now
behind_one part rest None next is = ap (lengths_behind rest) is
behind_one part rest (Some before) next is = ap (lengths_behind rest) is ∙ ap (λ (l : List PartLength). Some l) (append_assoc before (length_sent part ∷ []) (lengths_sent rest))

pub behind_next : (t : ℕ) (tile : List (List (List ℕ))) (i : ℕ) (now next : Option (List PartLength)) → i < length tile
    → next ≡ option_map (λ (l : List PartLength). l ++ (record { tile = t; length = length (concat (slice_index_or tile i [])) }) ∷ []) now
    → lengths_behind (sent_of t (map concat (drop (i + 1) tile))) next ≡ lengths_behind (sent_of t (map concat (drop i tile))) now
behind_next t tile i now next lt is =
    behind_one (sent_as t (concat (slice_index_or tile i []))) (sent_of t (map concat (drop (i + 1) tile))) now next is
    ∙ ap (λ (parts : List (List (List ℕ))). lengths_behind (sent_of t (map concat parts)) now) (sym (cut_at tile i [] lt))

pub behind_all : (t : ℕ) (tile : List (List (List ℕ))) (i : ℕ) (now all : Option (List PartLength)) → length tile ≤ i → lengths_behind (sent_of t (map concat (drop i tile))) now ≡ all → now ≡ all
behind_all t tile i now all past is =
    behind_none now ∙ ap (λ (parts : List (List (List ℕ))). lengths_behind (sent_of t (map concat parts)) now) (sym (drop_all i tile past)) ∙ is

-- one tile more
pub tiles_behind : (t : ℕ) (tiles : List (List (List (List ℕ)))) (i : ℕ) (tile : List (List (List ℕ))) (now next : Option (List PartLength)) → i < length tiles → tile ≡ slice_index_or tiles i tile
    → next ≡ lengths_behind (sent_of t (map concat tile)) now → lengths_behind (sent_from (t + 1) (drop (i + 1) tiles)) next ≡ lengths_behind (sent_from t (drop i tiles)) now
tiles_behind t tiles i tile now next lt is put =
    behind_both (sent_of t (map concat tile)) (sent_from (t + 1) (drop (i + 1) tiles)) now next (lengths_behind (sent_from (t + 1) (drop (i + 1) tiles)) next) put refl
    ∙ ap (λ (all : List (List (List (List ℕ)))). lengths_behind (sent_from t all) now) (sym (cut_at tiles i tile lt ∙ ap (λ (x : List (List (List ℕ))). x ∷ drop (i + 1) tiles) (sym is)))

pub behind_tiles : (t : ℕ) (tiles : List (List (List (List ℕ)))) (i : ℕ) (now all : Option (List PartLength)) → length tiles ≤ i → lengths_behind (sent_from t (drop i tiles)) now ≡ all → now ≡ all
behind_tiles t tiles i now all past is =
    behind_none now ∙ ap (λ (rest : List (List (List (List ℕ)))). lengths_behind (sent_from t rest) now) (sym (drop_all i tiles past)) ∙ is
