-- The blocks that a picture keeps are those that are drawn.
use Rattle.std.proofs.Common.{◌≡◌, ◌∙◌, ℕ, suc, ◌+◌, ◌^◌, ◌≤◌, ◌<◌, ◌==◌, List, [], ◌∷◌, ◌++◌, length, map, drop, refl, sym, ap, subst, arith, inl, inr, All, append_assoc, append-nil, if◌then◌else◌, cond, get_or}
use Rattle.std.specs.Prelude.{slice_index_or}
use Rattle.std.specs.List.{AllByRecursion, flat_map, range_with_len}
use Rattle.std.proofs.lemmas.Bool.{cases_eq, cond-true, cond-false, eq-eqb, ne_eqb}
use Rattle.std.proofs.lemmas.List.{length-map, get_or-map, drop_all}
use Rattle.std.proofs.lemmas.List.Elements.{All-from_recursion}
use Rattle.std.proofs.lemmas.List.FromFn.{get_or-map-range_with_len, length-map-range_with_len}
use Rattle.std.proofs.Math.Seq.{drop-cons}
use Rattle.jx_base.specs.Pieces.{PieceValue}
use Rattle.jx_packet_header.specs.LeavesFit.{HasShort}
use Rattle.jx_tier2_reader.specs.BlockOf.{pieces_at}
use Rattle.jx_tier2_reader.specs.Planned.{leaf_part_of}
use Rattle.jx_tier2_reader.proofs.CarryLemmas.{layer_here, layer_past}
use Rattle.jx_generate.specs.declared.drawing.DrawnPiece.{DrawnPiece}
use Rattle.jx_generate.specs.declared.drawing.DrawnBlock.{DrawnBlock}
use Rattle.jx_generate.specs.Drawn.{Drawn, block_drawn, state_before}
use Rattle.jx_generate.specs.Headers.{geometry_made}
use Rattle.jx_generate.specs.Made.{data_made, drawn_layer_bytes, drawn_leaf_bytes, leaf_made, leaf_of_drawn, leaves_made}
use Rattle.jx_base.specs.Joined.{joined}
use Rattle.jx_base.proofs.Joined.{appends_next}
use Rattle.jx_packet_header.specs.declared.Leaf.{Leaf}
use Rattle.jx_packet_header.specs.Leafs.{leaf_of}
use Rattle.jx_packet_header.specs.Written.{Leafed}
use Rattle.jx_generate.proofs.ListLemmas.{next_made}
use Rattle.jx_generate.specs.Making.{IsMaking, Making, count_drawn, pieces_bytes}
use Rattle.jx_geom.specs.Geometry.{Geometry}
use Rattle.jx_geom.specs.Precincts.{HasPrecinct, leaf_number, leaves}
use Rattle.jx_geom.proofs.LeafLemmas.{leaf_below, leaves_limited}
use Rattle.jx_generate.proofs.GeometryLemmas.{geometry_in_range, precinct_there}
use Rattle.jx_generate.specs.Values.{drawn_of, drawn_piece}
use Rattle.jx_generate.proofs.DrawnFits.{drawn_short}
use Rattle.jx_base.specs.Limits.{most_blocks}

pub blocks_long : (seed count : ℕ) (blocks : List DrawnBlock) → map drawn_of blocks ≡ map (block_drawn seed) (range_with_len 0 count) → length blocks ≡ count
blocks_long seed count blocks e = sym (length-map blocks drawn_of) ∙ ap (λ (xs : List Drawn). length xs) e ∙ length-map-range_with_len (block_drawn seed) 0 count

-- pieces with few bytes
pieces_short : (ps : List DrawnPiece) → HasShort (map (leaf_part_of 0) (map drawn_piece ps)) → AllByRecursion (λ (p : DrawnPiece). length p.bytes.items < 2 ^ 32) ps
pieces_short [] short = tt
pieces_short (p ∷ ps) short = (short.0, pieces_short ps short.1)

pub block_short : (seed number : ℕ) (b : DrawnBlock) → drawn_of b ≡ block_drawn seed number → All (λ (p : DrawnPiece). length p.bytes.items < 2 ^ 32) b.pieces.items
block_short seed number b e =
    let short : HasShort (leaf_of_drawn 0 (drawn_of b)).parts = subst (λ (d : Drawn). HasShort (leaf_of_drawn 0 d).parts) (sym e) (drawn_short 0 (state_before seed number)) in
    All-from_recursion (λ (p : DrawnPiece). length p.bytes.items < 2 ^ 32) b.pieces.items (pieces_short b.pieces.items short)

-- a step over the pieces of a block
pub bytes_first : (layer : ℕ) (q : PieceValue) (qs : List PieceValue) → pieces_bytes layer (q ∷ qs) ≡ (if q.layer == layer then q.bytes else []) ++ pieces_bytes layer qs
bytes_first layer q qs = elim (cases_eq q.layer layer) [
  | inl e ↦
      ap (λ (xs : List PieceValue). flat_map (λ (p : PieceValue). p.bytes) xs) (layer_here layer q qs e)
      ∙ sym (ap (λ (xs : List ℕ). xs ++ pieces_bytes layer qs) (cond-true (q.layer == layer) q.bytes [] (eq-eqb q.layer layer e)))
  | inr ne ↦
      ap (λ (xs : List PieceValue). flat_map (λ (p : PieceValue). p.bytes) xs) (layer_past layer q qs ne)
      ∙ sym (ap (λ (xs : List ℕ). xs ++ pieces_bytes layer qs) (cond-false (q.layer == layer) q.bytes [] (ne_eqb q.layer layer ne)))
]

-- the block of a number
pub block_is : (seed count n : ℕ) (blocks : List DrawnBlock) (b : DrawnBlock) → map drawn_of blocks ≡ map (block_drawn seed) (range_with_len 0 count) → n < count → b ≡ slice_index_or blocks n b
    → drawn_of b ≡ block_drawn seed n
block_is seed count n blocks b e lt is =
    let long : length blocks ≡ count = blocks_long seed count blocks e in
    let at : 0 + n ≡ n = omega arith in
    ap drawn_of is ∙ sym (get_or-map drawn_of blocks n b (drawn_of b) (omega arith)) ∙ ap (λ (xs : List Drawn). get_or xs n (drawn_of b)) e
    ∙ get_or-map-range_with_len (block_drawn seed) 0 count n n (drawn_of b) lt at

-- a step over the pieces of a block, and the last
pub pieces_next : (layer i : ℕ) (list : List DrawnPiece) (out more base : List ℕ) (p : DrawnPiece) → i < length list → p ≡ slice_index_or list i p
    → more ≡ out ++ (if p.layer == layer then p.bytes.items else []) → out ++ pieces_bytes layer (map drawn_piece (drop i list)) ≡ base → more ++ pieces_bytes layer (map drawn_piece (drop (i + 1) list)) ≡ base
pieces_next layer i list out more base p lt is step was =
    let e : suc i ≡ i + 1 = omega arith in
    let own : List ℕ = cond (p.layer == layer) p.bytes.items [] in
    let later : List ℕ = pieces_bytes layer (map drawn_piece (drop (i + 1) list)) in
    let split : drop i list ≡ p ∷ drop (i + 1) list =
    drop-cons list i p lt ∙ ap (λ (x : DrawnPiece). x ∷ drop (suc i) list) (sym is) ∙ ap (λ (n : ℕ). p ∷ drop n list) e in
    ap (λ (xs : List ℕ). xs ++ later) step ∙ append_assoc out own later ∙ ap (λ (xs : List ℕ). out ++ xs) (sym (bytes_first layer (drawn_piece p) (map drawn_piece (drop (i + 1) list))))
    ∙ ap (λ (ps : List DrawnPiece). out ++ pieces_bytes layer (map drawn_piece ps)) (sym split) ∙ was

pub pieces_all : (layer i : ℕ) (list : List DrawnPiece) (out base : List ℕ) → length list ≤ i → out ++ pieces_bytes layer (map drawn_piece (drop i list)) ≡ base → out ≡ base
unfolding pieces_at
pieces_all layer i list out base over was = sym (append-nil out) ∙ sym (ap (λ (ps : List DrawnPiece). out ++ pieces_bytes layer (map drawn_piece ps)) (drop_all i list over)) ∙ was

pub layer_is : (layer : ℕ) (b : DrawnBlock) → pieces_bytes layer (map drawn_piece b.pieces.items) ≡ drawn_layer_bytes layer (drawn_of b)
unfolding drawn_layer_bytes
layer_is layer b = refl

-- what a picture's geometry has
pub precinct_in : (m : Making) (g : Geometry) (blocks : List Drawn) (c r : ℕ) → IsMaking m g blocks → c < 3 → r ≤ 5 → HasPrecinct g c r 0
precinct_in m g blocks c r is lt le = subst (λ (x : Geometry). HasPrecinct x c r 0) (sym is.geometry_is) (precinct_there m.width m.height c r is.sizes lt le)

-- the blocks of a precinct have numbers of drawn blocks
pub leaf_there : (m : Making) (g : Geometry) (blocks : List Drawn) (c r j : ℕ) → IsMaking m g blocks → c < 3 → r ≤ 5 → j < leaves (geometry_made m.width m.height) c r 0
    → leaf_number (geometry_made m.width m.height) c r 0 j < count_drawn m.width m.height
unfolding count_drawn
leaf_there m g blocks c r j is lt le inside =
    leaf_below (geometry_made m.width m.height) c r 0 j (geometry_in_range m.width m.height is.sizes) (precinct_there m.width m.height c r is.sizes lt le) inside

pub leaves_few : (m : Making) (g : Geometry) (blocks : List Drawn) (c r : ℕ) → IsMaking m g blocks → c < 3 → r ≤ 5 → leaves (geometry_made m.width m.height) c r 0 ≤ most_blocks
leaves_few m g blocks c r is lt le =
    leaves_limited (geometry_made m.width m.height) c r 0 (geometry_in_range m.width m.height is.sizes) (precinct_there m.width m.height c r is.sizes lt le)

-- the coded bytes of one more leaf
pub data_next : (seed w h c r layer j n : ℕ) (base out more : List ℕ) (b : DrawnBlock) → n ≡ leaf_number (geometry_made w h) c r 0 j → drawn_of b ≡ block_drawn seed n → more ≡ out ++ drawn_layer_bytes layer (drawn_of b)
    → out ≡ base ++ joined (drawn_leaf_bytes seed w h c r layer) 0 j → more ≡ base ++ joined (drawn_leaf_bytes seed w h c r layer) 0 (j + 1)
data_next seed w h c r layer j n base out more b number is step was =
    appends_next base out more (drawn_leaf_bytes seed w h c r layer) 0 j (omega arith) was
    (step ∙ ap (λ (d : Drawn). out ++ drawn_layer_bytes layer d) is ∙ ap (λ (k : ℕ). out ++ drawn_layer_bytes layer (block_drawn seed k)) number)

-- and its leaf
pub leaf_next : (seed w h c r j n : ℕ) (made more : List Leaf) (leaf : Leaf) (b : DrawnBlock) → n ≡ leaf_number (geometry_made w h) c r 0 j → drawn_of b ≡ block_drawn seed n → leaf_of leaf ≡ leaf_of_drawn j (drawn_of b)
    → more ≡ made ++ leaf ∷ [] → map leaf_of made ≡ map (leaf_made seed w h c r) (range_with_len 0 j) → map leaf_of more ≡ map (leaf_made seed w h c r) (range_with_len 0 (j + 1))
leaf_next seed w h c r j n made more leaf b number is own step was =
    next_made leaf_of (leaf_made seed w h c r) made more j leaf was
    (own ∙ ap (leaf_of_drawn j) is ∙ ap (λ (k : ℕ). leaf_of_drawn j (block_drawn seed k)) number) step

pub leaves_all : (seed w h c r j : ℕ) (xs : List Leafed) → j ≡ leaves (geometry_made w h) c r 0 → xs ≡ map (leaf_made seed w h c r) (range_with_len 0 j) → xs ≡ leaves_made seed w h c r
unfolding leaves_made
leaves_all seed w h c r j xs all is = is ∙ ap (λ (n : ℕ). map (leaf_made seed w h c r) (range_with_len 0 n)) all

pub data_all : (seed w h c r layer j : ℕ) (base out : List ℕ) → j ≡ leaves (geometry_made w h) c r 0 → out ≡ base ++ joined (drawn_leaf_bytes seed w h c r layer) 0 j → out ≡ base ++ data_made seed w h c r layer
unfolding data_made
data_all seed w h c r layer j base out all is = is ∙ ap (λ (n : ℕ). base ++ joined (drawn_leaf_bytes seed w h c r layer) 0 n) all
