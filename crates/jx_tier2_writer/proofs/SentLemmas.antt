-- The parts of blocks layer by layer, and their bytes.
use Rattle.std.proofs.Common.{◌≡◌, inl, inr, ℕ, zero, suc, ◌<◌, ◌≤◌, ◌==◌, Bool, true, false, cond, ◌+◌, ◌-◌, List, [], ◌∷◌, ◌++◌, length, map, nat_lt, take, drop, get_or, refl, sym, ap, ◌∙◌, subst, append-nil, append_assoc, slice_set, All, arith}
use Rattle.std.specs.Prelude.{slice_index_or, Option, Some}
use Rattle.std.specs.Global.{Vec}
use Rattle.std.specs.List.{flat_map, slice_get, AllByRecursion}
use Rattle.std.proofs.lemmas.Bool.{cases_eq, cases_lt}
use Rattle.std.proofs.lemmas.Bool.Decides.{nat_tests}
use Rattle.std.proofs.lemmas.Grind.{flat_map-append}
use Rattle.std.proofs.lemmas.List.{at_drop_all, at_drop_more, length-map}
use Rattle.std.proofs.lemmas.List.Elements.{All-from_recursion, recursion_from_All, All-append, All-head, All-tail}
use Rattle.jx_base.specs.declared.pieces.Block.{Block}
use Rattle.jx_base.specs.Pieces.{PieceValue}
use Rattle.jx_tier2_reader.specs.BlockOf.{pieces_at}
use Rattle.jx_tier2_reader.specs.Carries.{pieces_of}
use Rattle.jx_tier2_reader.proofs.CarryLemmas.{layer_here, layer_past, layer_nothing}
use Rattle.jx_tier2_writer.specs.Coded.{ArePartsOf, HasLayers, IsInside}
use Rattle.jx_tier2_writer.specs.BlockParts.{AreBlockParts, IsBlockPart, layer_bytes, row_at, row_bytes, rows_of, block_part_bytes, block_parts_in}
use Rattle.jx_codeblock.specs.declared.LayerPart.{LayerPart}
use Rattle.jx_codeblock.specs.Recoding.{layer_part_bytes, piece_of}
use Rattle.jx_tier2_writer.specs.declared.block_parts.BlockPart.{BlockPart}

-- one part, then the others
pub sent_next : (layer block : ℕ) (p : LayerPart) (parts : List LayerPart) → block_parts_in layer block (p ∷ parts) ≡ block_parts_in layer block (p ∷ []) ++ block_parts_in layer block parts
sent_next layer block p parts = by (p.layer == layer) (nat_lt p.from p.to)
  where
    rest : List BlockPart
    rest = block_parts_in layer block parts

    by : (a b : Bool) → cond a (cond b (record { block = block; part = p } ∷ rest) rest) rest ≡ cond a (cond b (record { block = block; part = p } ∷ []) []) [] ++ rest
    by true true = refl
    by true false = refl
    by false b = refl

sent_here : (layer block : ℕ) (p : LayerPart) (parts : List LayerPart) → p.layer ≡ layer → p.from < p.to
    → block_parts_in layer block (p ∷ parts) ≡ record { block = block; part = p } ∷ block_parts_in layer block parts
sent_here layer block p parts e lt = grind (arith, nat_tests)

-- one without bytes, of whatever layer
sent_none : (layer block : ℕ) (p : LayerPart) (parts : List LayerPart) → p.to ≤ p.from → block_parts_in layer block (p ∷ parts) ≡ block_parts_in layer block parts
sent_none layer block p parts le = grind (arith, nat_tests)

pub none_put : (layer block : ℕ) (p : LayerPart) (row : List BlockPart) → p.to ≤ p.from → row ≡ row ++ block_parts_in layer block (p ∷ [])
none_put layer block p row le = sym (ap (λ (xs : List BlockPart). row ++ xs) (sent_none layer block p [] le) ∙ append-nil row)

no_bytes : (bytes : List ℕ) (p : LayerPart) → p.to ≤ p.from → layer_part_bytes bytes p ≡ []
no_bytes bytes p le = let none : p.to - p.from ≡ 0 = omega arith in ap (λ (n : ℕ). take n (drop p.from bytes)) none

sent_past : (layer block : ℕ) (p : LayerPart) (parts : List LayerPart) → (p.layer ≡ layer → ⊥) → block_parts_in layer block (p ∷ parts) ≡ block_parts_in layer block parts
sent_past layer block p parts ne = grind (arith, nat_tests)

-- the bytes of a block's parts in a layer are those of its pieces
parts_bytes : (datas : List (List ℕ)) (layer block : ℕ) (parts : List LayerPart)
    → row_bytes datas (block_parts_in layer block parts) ≡ layer_bytes layer (map (piece_of (slice_index_or datas block [])) parts)
unfolding layer_bytes
parts_bytes datas layer block [] = ap (flat_map (λ (q : PieceValue). q.bytes)) (sym (layer_nothing layer))
parts_bytes datas layer block (p ∷ parts) =
    let bytes : List ℕ = slice_index_or datas block [] in
    let own : PieceValue = piece_of bytes p in
    let pieces : List PieceValue = map (piece_of bytes) parts in
    let rest : row_bytes datas (block_parts_in layer block parts) ≡ flat_map (λ (q : PieceValue). q.bytes) (pieces_at layer pieces) = parts_bytes datas layer block parts in
    elim (cases_eq p.layer layer) [
      | inl e ↦ elim (cases_lt p.from p.to) [
        | inl some ↦
            ap (row_bytes datas) (sent_here layer block p parts e some)
            ∙ ap (λ (xs : List ℕ). own.bytes ++ xs) rest
            ∙ ap (flat_map (λ (q : PieceValue). q.bytes)) (sym (layer_here layer own pieces e))
        | inr none ↦
            ap (row_bytes datas) (sent_none layer block p parts none) ∙ rest
            ∙ ap (λ (xs : List ℕ). xs ++ flat_map (λ (q : PieceValue). q.bytes) (pieces_at layer pieces)) (sym (no_bytes bytes p none))
            ∙ ap (flat_map (λ (q : PieceValue). q.bytes)) (sym (layer_here layer own pieces e))
      ]
      | inr ne ↦
          ap (row_bytes datas) (sent_past layer block p parts ne) ∙ rest ∙ ap (flat_map (λ (q : PieceValue). q.bytes)) (sym (layer_past layer own pieces ne))
    ]

pub block_sent : (datas : List (List ℕ)) (layer block : ℕ) (old new : List BlockPart) (o : Option Block) (b : Block) (bytes : List ℕ) (parts : List LayerPart)
    → o ≡ Some b → slice_index_or datas block [] ≡ bytes → ArePartsOf b bytes parts → new ≡ old ++ block_parts_in layer block parts
    → row_bytes datas new ≡ row_bytes datas old ++ layer_bytes layer (pieces_of o)
block_sent datas layer block old new o b bytes parts is held are made =
    let pieces : map (piece_of (slice_index_or datas block [])) parts ≡ pieces_of o =
    ap (λ (xs : List ℕ). map (piece_of xs) parts) held ∙ sym are.pieces ∙ ap pieces_of (sym is) in
    ap (row_bytes datas) made
    ∙ flat_map-append (block_part_bytes datas) old (block_parts_in layer block parts)
    ∙ ap (λ (xs : List ℕ). row_bytes datas old ++ xs) (parts_bytes datas layer block parts ∙ ap (layer_bytes layer) pieces)

-- each lies in its block's bytes
parts_inside : (datas : List (List ℕ)) (layer block : ℕ) (parts : List LayerPart) → block < length datas
    → AllByRecursion (IsInside (slice_index_or datas block [])) parts → AllByRecursion (IsBlockPart datas) (block_parts_in layer block parts)
parts_inside datas layer block [] lt all = tt
parts_inside datas layer block (p ∷ parts) lt all =
    let P : List BlockPart → Type 0 = λ xs. AllByRecursion (IsBlockPart datas) xs in
    let rest : P (block_parts_in layer block parts) = parts_inside datas layer block parts lt all.1 in
    elim (cases_eq p.layer layer) [
      | inl e ↦ elim (cases_lt p.from p.to) [
        | inl some ↦ subst P (sym (sent_here layer block p parts e some)) (record { there = lt; inside = all.0 }, rest)
        | inr none ↦ subst P (sym (sent_none layer block p parts none)) rest
      ]
      | inr ne ↦ subst P (sym (sent_past layer block p parts ne)) rest
    ]

pub block_inside : (datas : List (List ℕ)) (layer block : ℕ) (old new : List BlockPart) (b : Block) (bytes : List ℕ) (parts : List LayerPart)
    → block < length datas → slice_index_or datas block [] ≡ bytes → ArePartsOf b bytes parts → AreBlockParts datas old → new ≡ old ++ block_parts_in layer block parts → AreBlockParts datas new
block_inside datas layer block old new b bytes parts lt held are before made =
    let inside : AllByRecursion (IsInside (slice_index_or datas block [])) parts =
    subst (λ (xs : List ℕ). AllByRecursion (IsInside xs) parts) (sym held) (recursion_from_All (IsInside bytes) parts are.inside) in
    let all : All (IsBlockPart datas) (block_parts_in layer block parts) = All-from_recursion (IsBlockPart datas) (block_parts_in layer block parts) (parts_inside datas layer block parts lt inside) in
    subst (AreBlockParts datas) (sym made) (All-append (IsBlockPart datas) old (block_parts_in layer block parts) before all)

-- the layers of parts are those of the pieces
layers_back : (bytes : List ℕ) (layers : ℕ) (parts : List LayerPart) → AllByRecursion (λ (q : PieceValue). q.layer < layers) (map (piece_of bytes) parts)
    → AllByRecursion (λ (p : LayerPart). p.layer < layers) parts
layers_back bytes layers [] all = tt
layers_back bytes layers (p ∷ parts) all = (all.0, layers_back bytes layers parts all.1)

pub parts_in_layers : (layers : ℕ) (o : Option Block) (b : Block) (bytes : List ℕ) (parts : List LayerPart) → o ≡ Some b → ArePartsOf b bytes parts → HasLayers layers o
    → All (λ (p : LayerPart). p.layer < layers) parts
parts_in_layers layers o b bytes parts is are has =
    let own : All (λ (q : PieceValue). q.layer < layers) b.pieces = subst (λ (x : Option Block). HasLayers layers x) is has in
    let mapped : All (λ (q : PieceValue). q.layer < layers) (map (piece_of bytes) parts) = subst (λ (qs : List PieceValue). All (λ (q : PieceValue). q.layer < layers) qs) are.pieces own in
    All-from_recursion (λ (p : LayerPart). p.layer < layers) parts
    (layers_back bytes layers parts (recursion_from_All (λ (q : PieceValue). q.layer < layers) (map (piece_of bytes) parts) mapped))

-- ---- one row becomes longer
set_same : (vecs : List (Vec BlockPart)) (i : ℕ) (v : Vec BlockPart) → i < length vecs → row_at (rows_of (slice_set vecs i v)) i ≡ v.items
set_same [] i v lt = absurd (omega arith)
set_same (w ∷ vecs) zero v lt = refl
set_same (w ∷ vecs) (suc i) v lt = set_same vecs i v (omega arith)

set_other : (vecs : List (Vec BlockPart)) (i l : ℕ) (v : Vec BlockPart) → (l ≡ i → ⊥) → row_at (rows_of (slice_set vecs i v)) l ≡ row_at (rows_of vecs) l
set_other [] i l v ne = refl
set_other (w ∷ vecs) zero zero v ne = absurd (ne refl)
set_other (w ∷ vecs) zero (suc l) v ne = refl
set_other (w ∷ vecs) (suc i) zero v ne = refl
set_other (w ∷ vecs) (suc i) (suc l) v ne = set_other vecs i l v (λ e. ne (ap (λ (n : ℕ). suc n) e))

row_get : (vecs : List (Vec BlockPart)) (i : ℕ) (w : Vec BlockPart) → i < length vecs → w ≡ slice_index_or vecs i w → row_at (rows_of vecs) i ≡ w.items
row_get [] i w lt e = absurd (omega arith)
row_get (x ∷ vecs) zero w lt e = ap (λ (y : Vec BlockPart). y.items) (sym e)
row_get (x ∷ vecs) (suc i) w lt e = row_get vecs i w (omega arith) e

pub pushed : (vecs : List (Vec BlockPart)) (i layer block : ℕ) (v w : Vec BlockPart) (p : LayerPart) → i ≡ p.layer → i < length vecs → p.from < p.to → w ≡ slice_index_or vecs i w
    → v.items ≡ w.items ++ record { block = block; part = p } ∷ [] → row_at (rows_of (slice_set vecs i v)) layer ≡ row_at (rows_of vecs) layer ++ block_parts_in layer block (p ∷ [])
pushed vecs i layer block v w p is lt some at made = elim (cases_eq layer i) [
  | inl e ↦
      let same : p.layer ≡ layer = sym (e ∙ is) in
      ap (row_at (rows_of (slice_set vecs i v))) e ∙ set_same vecs i v lt ∙ made
      ∙ ap (λ (xs : List BlockPart). xs ++ record { block = block; part = p } ∷ []) (sym (row_get vecs i w lt at) ∙ ap (row_at (rows_of vecs)) (sym e))
      ∙ ap (λ (xs : List BlockPart). row_at (rows_of vecs) layer ++ xs) (sym (sent_here layer block p [] same some))
  | inr ne ↦
      let apart : p.layer ≡ layer → ⊥ = λ (e : p.layer ≡ layer). ne (sym e ∙ sym is) in
      set_other vecs i layer v ne ∙ sym (append-nil (row_at (rows_of vecs) layer))
      ∙ ap (λ (xs : List BlockPart). row_at (rows_of vecs) layer ++ xs) (sym (sent_past layer block p [] apart))
]

-- ---- the parts of a block, one after another
pub layer_inside : (most now : ℕ) (parts : List LayerPart) (i : ℕ) (d : LayerPart) → All (λ (p : LayerPart). p.layer < most) parts → now ≡ most → i < length parts → (get_or parts i d).layer < now
layer_inside most now [] i d all same lt = absurd (omega (arith, lt))
layer_inside most now (p ∷ parts) zero d all same lt = omega (arith, same, All-head (λ (q : LayerPart). q.layer < most) p parts all)
layer_inside most now (p ∷ parts) (suc i) d all same lt = layer_inside most now parts i d (All-tail (λ (q : LayerPart). q.layer < most) p parts all) same (omega (arith, lt))

pub sent_step : (layer block : ℕ) (parts : List LayerPart) (i : ℕ) (d : LayerPart) (old new all : List BlockPart) → i < length parts → new ≡ old ++ block_parts_in layer block (get_or parts i d ∷ [])
    → old ++ block_parts_in layer block (drop i parts) ≡ all → new ++ block_parts_in layer block (drop (i + 1) parts) ≡ all
sent_step layer block parts i d old new all lt put is =
    let part : LayerPart = get_or parts i d in
    let one : List BlockPart = block_parts_in layer block (part ∷ []) in
    let rest : List BlockPart = block_parts_in layer block (drop (i + 1) parts) in
    let split : block_parts_in layer block (drop i parts) ≡ one ++ rest = at_drop_more (block_parts_in layer block) parts i d lt ∙ sent_next layer block part (drop (i + 1) parts) in
    ap (λ (xs : List BlockPart). xs ++ rest) put ∙ append_assoc old one rest ∙ ap (λ (xs : List BlockPart). old ++ xs) (sym split) ∙ is

pub sent_last : (layer block : ℕ) (parts : List LayerPart) (i : ℕ) (now all : List BlockPart) → length parts ≤ i → now ++ block_parts_in layer block (drop i parts) ≡ all → now ≡ all
sent_last layer block parts i now all end is =
    sym (append-nil now) ∙ ap (λ (xs : List BlockPart). now ++ xs) (sym (at_drop_all (block_parts_in layer block) parts i end)) ∙ is

-- ---- a block by its number
pub block_there : {X Y : Type 0} (f : X → Y) (xs : List X) (i : ℕ) (x : X) → i < length xs → x ≡ slice_index_or xs i x → slice_get (map f xs) i ≡ Some (f x)
block_there f [] i x lt is = absurd (omega (arith, lt))
block_there f (y ∷ xs) zero x lt is = ap (λ z. Some (f z)) (sym is)
block_there f (y ∷ xs) (suc i) x lt is = block_there f xs i x (omega (arith, lt)) is

pub bytes_there : {X : Type 0} (f : X → List ℕ) (xs : List X) (i : ℕ) (x : X) → i < length xs → x ≡ slice_index_or xs i x → slice_index_or (map f xs) i [] ≡ f x
bytes_there f [] i x lt is = absurd (omega (arith, lt))
bytes_there f (y ∷ xs) zero x lt is = ap f (sym is)
bytes_there f (y ∷ xs) (suc i) x lt is = bytes_there f xs i x (omega (arith, lt)) is

-- ---- what is sent, part by part
pub sent_there : {X : Type 0} (f : X → List ℕ) (values : List X) (row : List BlockPart) (i : ℕ) (d : BlockPart) → AreBlockParts (map f values) row → i < length row → (get_or row i d).block < length values
sent_there f values row i d sent lt = subst (λ (n : ℕ). (get_or row i d).block < n) (length-map values f) (sent i d lt).there

pub sent_inside : (datas : List (List ℕ)) (row : List BlockPart) (i : ℕ) (d : BlockPart) (bytes : List ℕ) → AreBlockParts datas row → i < length row → slice_index_or datas (get_or row i d).block [] ≡ bytes
    → IsInside bytes (get_or row i d).part
sent_inside datas row i d bytes sent lt held = subst (λ (xs : List ℕ). IsInside xs (get_or row i d).part) held (sent i d lt).inside

pub body_next : (datas : List (List ℕ)) (row : List BlockPart) (i : ℕ) (d : BlockPart) (out new all bytes : List ℕ) → i < length row → slice_index_or datas (get_or row i d).block [] ≡ bytes
    → new ≡ out ++ layer_part_bytes bytes (get_or row i d).part → out ++ row_bytes datas (drop i row) ≡ all → new ++ row_bytes datas (drop (i + 1) row) ≡ all
body_next datas row i d out new all bytes lt held put is =
    let own : BlockPart = get_or row i d in
    let rest : List ℕ = row_bytes datas (drop (i + 1) row) in
    let split : row_bytes datas (drop i row) ≡ layer_part_bytes bytes own.part ++ rest =
    at_drop_more (row_bytes datas) row i d lt ∙ ap (λ (xs : List ℕ). layer_part_bytes xs own.part ++ rest) held in
    ap (λ (xs : List ℕ). xs ++ rest) put ∙ append_assoc out (layer_part_bytes bytes own.part) rest ∙ ap (λ (xs : List ℕ). out ++ xs) (sym split) ∙ is
