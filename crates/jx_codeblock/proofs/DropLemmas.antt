-- Pieces from a place on.
use Rattle.std.proofs.Common.{◌≡◌, ℕ, zero, suc, ◌+◌, ◌<◌, ◌≤◌, ◌==◌, ◌^◌, Bool, true, false, not, List, [], ◌∷◌, ◌++◌, ◌∙◌, ap, sym, refl, arith, length, map, take, drop, get_or, append_assoc, length-append, take-add, ◌||◌}
use Rattle.std.specs.List.{All}
use Rattle.std.proofs.Math.Seq.{drop-append_seam, take-append_seam}
use Rattle.std.proofs.lemmas.Bool.{or_parts, not-false}
use Rattle.std.proofs.lemmas.List.{length-drop, drop-drop}
use Rattle.std.proofs.lemmas.List.Elements.{All-cons, All-nil}
use Rattle.jx_base.specs.declared.pieces.Piece.{Piece}
use Rattle.jx_base.specs.Pieces.{PieceValue, value_of, ArePieces}
use Rattle.jx_codeblock.specs.Groups.{onto_first, joined_on, ends_it, groups, groups_left, is_last_of_segment, goes_on}
use Rattle.jx_codeblock.specs.Tables.{is_last_of_layer, bytes_joined}
use Rattle.jx_base.proofs.PieceLemmas.{pieces_end}

-- the first of them and the others
pub drop_one : (ps : List Piece) (at : ℕ) (d : Piece) → at < length ps → map value_of (drop at ps) ≡ value_of (get_or ps at d) ∷ map value_of (drop (at + 1) ps)
drop_one [] at d lt = absurd (omega arith)
drop_one (p ∷ ps) zero d lt = refl
drop_one (p ∷ ps) (suc at) d lt =
    let e : suc at + 1 ≡ suc (at + 1) = omega arith in
    drop_one ps at d (omega arith) ∙ ap (λ (k : ℕ). value_of (get_or ps at d) ∷ map value_of (drop k (p ∷ ps))) (sym e)

pub drop_end : (ps : List Piece) (at : ℕ) → at ≡ length ps → map value_of (drop at ps) ≡ []
drop_end [] zero e = refl
drop_end [] (suc at) e = refl
drop_end (p ∷ ps) zero e = absurd (omega arith)
drop_end (p ∷ ps) (suc at) e = drop_end ps at (omega arith)

pub last_in_layer : (ps : List Piece) (at : ℕ) → at < length ps → at + 1 ≡ length ps → true ≡ is_last_of_layer (map value_of (drop at ps))
last_in_layer [] at lt e = absurd (omega arith)
last_in_layer (p ∷ []) zero lt e = refl
last_in_layer (p ∷ q ∷ ps) zero lt e = absurd (omega arith)
last_in_layer (p ∷ ps) (suc at) lt e = last_in_layer ps at (omega arith) (omega arith)

pub before_in_layer : (ps : List Piece) (at : ℕ) (d : Piece) → at + 1 < length ps
    → is_last_of_layer (map value_of (drop at ps)) ≡ not ((get_or ps at d).layer == (get_or ps (at + 1) d).layer)
before_in_layer [] at d lt = absurd (omega arith)
before_in_layer (p ∷ []) zero d lt = absurd (omega arith)
before_in_layer (p ∷ q ∷ ps) zero d lt = refl
before_in_layer (p ∷ ps) (suc at) d lt =
    let e : suc at + 1 ≡ suc (at + 1) = omega arith in
    before_in_layer ps at d (omega arith) ∙ ap (λ (k : ℕ). not ((get_or ps at d).layer == (get_or (p ∷ ps) k d).layer)) (sym e)

pub last_in_segment : (style : ℕ) (ps : List Piece) (at : ℕ) → at < length ps → at + 1 ≡ length ps → true ≡ is_last_of_segment style (map value_of (drop at ps))
last_in_segment style [] at lt e = absurd (omega arith)
last_in_segment style (p ∷ []) zero lt e = refl
last_in_segment style (p ∷ q ∷ ps) zero lt e = absurd (omega arith)
last_in_segment style (p ∷ ps) (suc at) lt e = last_in_segment style ps at (omega arith) (omega arith)

pub before_in_segment : (style : ℕ) (ps : List Piece) (at : ℕ) (d : Piece) → at + 1 < length ps
    → ends_it style (value_of (get_or ps at d)) ≡ is_last_of_segment style (map value_of (drop at ps))
before_in_segment style [] at d lt = absurd (omega arith)
before_in_segment style (p ∷ []) zero d lt = absurd (omega arith)
before_in_segment style (p ∷ q ∷ ps) zero d lt = refl
before_in_segment style (p ∷ ps) (suc at) d lt = before_in_segment style ps at d (omega arith)

pub pieces_few : (style layer first passes : ℕ) (ps : List Piece) → ArePieces style layer first passes (map value_of ps) → passes < 2 ^ 16
    → All (λ (p : Piece). p.first + p.passes < 2 ^ 16) ps
pieces_few style layer first passes [] are lt = All-nil (λ (p : Piece). p.first + p.passes < 2 ^ 16)
pieces_few style layer first passes (p ∷ ps) are lt =
    let begins : p.first ≡ first = are.0.begins in
    let within : first + p.passes ≤ passes = pieces_end style p.layer (first + p.passes) passes (map value_of ps) are.1 in
    All-cons (λ (q : Piece). q.first + q.passes < 2 ^ 16) p ps (omega arith) (pieces_few style p.layer (first + p.passes) passes ps are.1 lt)

-- ---- the segments that are left
onto_onto : (a b : List ℕ) (ss : List (List ℕ)) → onto_first a (onto_first b ss) ≡ onto_first (a ++ b) ss
onto_onto a b [] = refl
onto_onto a b (s ∷ ss) = ap (λ (t : List ℕ). t ∷ ss) (sym (append_assoc a b s))

groups_some : (style : ℕ) (p : PieceValue) (ps : List PieceValue) → onto_first [] (groups style (p ∷ ps)) ≡ groups style (p ∷ ps)
groups_some style p ps = by (ends_it style p) (groups style ps)
  where
    by : (ends : Bool) (ss : List (List ℕ)) → onto_first [] (joined_on ends p.bytes ss) ≡ joined_on ends p.bytes ss
    by true ss = refl
    by false [] = refl
    by false (s ∷ ss) = refl

pub left_all : (style : ℕ) (ps : List PieceValue) → groups_left style [] ps ≡ groups style ps
left_all style [] = refl
left_all style (p ∷ ps) = groups_some style p ps

pub left_ended : (style : ℕ) (bytes : List ℕ) (p : PieceValue) (ps : List PieceValue) → is_last_of_segment style (p ∷ ps) ≡ true
    → groups_left style bytes (p ∷ ps) ≡ (bytes ++ p.bytes) ∷ groups_left style [] ps
left_ended style bytes p [] h = by (ends_it style p)
  where
    by : (ends : Bool) → onto_first bytes (joined_on ends p.bytes []) ≡ (bytes ++ p.bytes) ∷ []
    by true = refl
    by false = refl
left_ended style bytes p (q ∷ ps) h =
    ap (λ (ends : Bool). onto_first bytes (joined_on ends p.bytes (groups style (q ∷ ps)))) h ∙ ap (λ (ss : List (List ℕ)). (bytes ++ p.bytes) ∷ ss) (sym (left_all style (q ∷ ps)))

pub left_on : (style : ℕ) (bytes : List ℕ) (p : PieceValue) (ps : List PieceValue) → is_last_of_segment style (p ∷ ps) ≡ false
    → groups_left style bytes (p ∷ ps) ≡ groups_left style (bytes ++ p.bytes) ps
left_on style bytes p [] h = cc
left_on style bytes p (q ∷ ps) h =
    ap (λ (ends : Bool). onto_first bytes (joined_on ends p.bytes (groups style (q ∷ ps)))) h ∙ onto_onto bytes p.bytes (groups style (q ∷ ps))

-- ---- the bytes of the first and of the others
abbrev pub no_piece : Piece
no_piece = record { layer = 0; first = 0; passes = 0; bytes = record { ref_ptr = (0, 0); now = [] } }

abbrev pub first_piece : List Piece → ℕ → Piece
first_piece ps at = get_or ps at no_piece

pub joined_one : (ps : List Piece) (at : ℕ) → at < length ps
    → bytes_joined (map value_of (drop at ps)) ≡ (first_piece ps at).bytes.now ++ bytes_joined (map value_of (drop (at + 1) ps))
joined_one ps at lt = ap bytes_joined (drop_one ps at no_piece lt)

pub behind_has : (rest bytes more : List ℕ) (count : ℕ) → drop count rest ≡ bytes ++ more → count ≤ length rest → count + length bytes ≤ length rest
behind_has rest bytes more count e le =
    let l : length (drop count rest) ≡ length (bytes ++ more) = ap (λ (xs : List ℕ). length xs) e in
    omega (arith, length-drop count rest, length-append bytes more)

pub taken_more : (rest bytes more : List ℕ) (count : ℕ) → drop count rest ≡ bytes ++ more → take (count + length bytes) rest ≡ take count rest ++ bytes
taken_more rest bytes more count e =
    take-add count (length bytes) rest ∙ ap (λ (xs : List ℕ). take count rest ++ take (length bytes) xs) e ∙ ap (λ (xs : List ℕ). take count rest ++ xs) (take-append_seam bytes more)

pub dropped_more : (rest bytes more : List ℕ) (count : ℕ) → drop count rest ≡ bytes ++ more → drop (count + length bytes) rest ≡ more
dropped_more rest bytes more count e = sym (drop-drop (length bytes) count rest) ∙ ap (drop (length bytes)) e ∙ drop-append_seam bytes more

-- ---- a loop over the pieces: one that ends its segment, and one that doesn't
pub step_ended : (style : ℕ) (segs new whole : List (List ℕ)) (p : PieceValue) (ps qs : List PieceValue) (before segment : List ℕ) → qs ≡ p ∷ ps
    → is_last_of_segment style qs ≡ true → segs ++ groups_left style before qs ≡ whole → segment ≡ before ++ p.bytes → new ≡ segs ++ segment ∷ []
    → new ++ groups_left style [] ps ≡ whole
step_ended style segs new whole p ps qs before segment split last h e f =
    let last' : is_last_of_segment style (p ∷ ps) ≡ true = ap (is_last_of_segment style) (sym split) ∙ last in
    ap (λ (ss : List (List ℕ)). ss ++ groups_left style [] ps) f
    ∙ append_assoc segs (segment ∷ []) (groups_left style [] ps)
    ∙ ap (λ (s : List ℕ). segs ++ s ∷ groups_left style [] ps) e
    ∙ ap (λ (ss : List (List ℕ)). segs ++ ss) (sym (left_ended style before p ps last'))
    ∙ ap (λ (rs : List PieceValue). segs ++ groups_left style before rs) (sym split) ∙ h

pub step_on : (style : ℕ) (segs whole : List (List ℕ)) (p : PieceValue) (ps qs : List PieceValue) (before segment : List ℕ) → qs ≡ p ∷ ps
    → is_last_of_segment style qs ≡ false → segs ++ groups_left style before qs ≡ whole → segment ≡ before ++ p.bytes
    → segs ++ groups_left style segment ps ≡ whole
step_on style segs whole p ps qs before segment split last h e =
    let last' : is_last_of_segment style (p ∷ ps) ≡ false = ap (is_last_of_segment style) (sym split) ∙ last in
    ap (λ (s : List ℕ). segs ++ groups_left style s ps) e
    ∙ ap (λ (ss : List (List ℕ)). segs ++ ss) (sym (left_on style before p ps last'))
    ∙ ap (λ (rs : List PieceValue). segs ++ groups_left style before rs) (sym split) ∙ h

-- ---- pieces of which each is a segment
pub on_here : (style : ℕ) (p : PieceValue) (ps qs : List PieceValue) → qs ≡ p ∷ ps → is_last_of_segment style qs ≡ false → goes_on style qs ≡ true
on_here style p ps qs split last =
    let last' : is_last_of_segment style (p ∷ ps) ≡ false = ap (is_last_of_segment style) (sym split) ∙ last in
    ap (goes_on style) split ∙ ap (λ (b : Bool). not b || goes_on style ps) last'

pub on_later : (style : ℕ) (p : PieceValue) (ps qs : List PieceValue) → qs ≡ p ∷ ps → is_last_of_segment style qs ≡ true → goes_on style qs ≡ goes_on style ps
on_later style p ps qs split last =
    let last' : is_last_of_segment style (p ∷ ps) ≡ true = ap (is_last_of_segment style) (sym split) ∙ last in
    ap (goes_on style) split ∙ ap (λ (b : Bool). not b || goes_on style ps) last'

groups_apart : (style : ℕ) (p : PieceValue) (ps : List PieceValue) → is_last_of_segment style (p ∷ ps) ≡ true → groups style (p ∷ ps) ≡ p.bytes ∷ groups style ps
groups_apart style p ps last =
    sym (left_all style (p ∷ ps)) ∙ left_ended style [] p ps last ∙ ap (λ (ss : List (List ℕ)). p.bytes ∷ ss) (left_all style ps)

pub apart_step : (style : ℕ) (segs new whole : List (List ℕ)) (p : PieceValue) (ps qs : List PieceValue) → qs ≡ p ∷ ps → goes_on style qs ≡ false
    → segs ++ groups style qs ≡ whole → new ≡ segs ++ p.bytes ∷ [] → (new ++ groups style ps ≡ whole) × (goes_on style ps ≡ false)
apart_step style segs new whole p ps qs split apart h e =
    let both = or_parts (not (is_last_of_segment style (p ∷ ps))) (goes_on style ps) (ap (goes_on style) (sym split) ∙ apart) in
    let last : is_last_of_segment style (p ∷ ps) ≡ true = not-false (is_last_of_segment style (p ∷ ps)) both.0 in (
      ap (λ (ss : List (List ℕ)). ss ++ groups style ps) e
          ∙ append_assoc segs (p.bytes ∷ []) (groups style ps)
          ∙ ap (λ (ss : List (List ℕ)). segs ++ ss) (sym (groups_apart style p ps last))
          ∙ ap (λ (rs : List PieceValue). segs ++ groups style rs) (sym split) ∙ h,
      both.1,
    )
