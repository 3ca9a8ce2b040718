-- The parts of a block as those of a leaf.
use Rattle.std.proofs.Common.{◌≡◌, ℕ, ◌+◌, ◌-◌, ◌≤◌, List, [], ◌∷◌, ◌++◌, length, map, drop, refl, sym, ap, ◌∙◌, arith, Some}
use Rattle.std.specs.List.{AllByRecursion, range_with_len}
use Rattle.std.proofs.lemmas.List.{append-nil, drop_all, length-drop, length-take, map-append}
use Rattle.std.proofs.lemmas.List.Elements.{recursion_from_All}
use Rattle.jx_base.specs.declared.pieces.Block.{Block}
use Rattle.jx_geom.specs.Geometry.{Geometry}
use Rattle.jx_geom.specs.Precincts.{leaves}
use Rattle.jx_packet_header.specs.declared.LeafPart.{LeafPart}
use Rattle.jx_packet_header.specs.Written.{Leafed}
use Rattle.jx_tier2_writer.specs.Own.{own_leaf, own_leaves}
use Rattle.jx_tier2_reader.specs.Planned.{leaf_from, leaf_part_of}
use Rattle.jx_tier2_writer.specs.Coded.{ArePartsOf, IsInside}
use Rattle.jx_tier2_writer.specs.Leaves.{leaf_part_from}
use Rattle.jx_codeblock.specs.declared.LayerPart.{LayerPart}
use Rattle.jx_codeblock.specs.Recoding.{layer_part_bytes, piece_of}
use Rattle.jx_base.proofs.Lists.{range_push}

pub between_long : (bytes : List ℕ) (p : LayerPart) → IsInside bytes p → length (layer_part_bytes bytes p) ≡ p.to - p.from
between_long bytes p is =
    let left : length (drop p.from bytes) ≡ length bytes - p.from = length-drop p.from bytes in
    let low : p.from ≤ p.to = is.order in
    let high : p.to ≤ length bytes = is.inside in
    grind (arith, length-take)

abbrev pub leaf_with : ℕ → List LeafPart → Leafed
leaf_with z xs = record { zero = z; parts = xs }

abbrev with_length : ℕ → LayerPart → ℕ → LeafPart
with_length j p n = record { layer = p.layer; told = record { block = j; first = p.first; passes = p.passes; length = n } }

same_parts : (j : ℕ) (bytes : List ℕ) (parts : List LayerPart) → AllByRecursion (IsInside bytes) parts → map (leaf_part_from j) parts ≡ map (leaf_part_of j) (map (piece_of bytes) parts)
same_parts j bytes [] all = refl
same_parts j bytes (p ∷ parts) all =
    ap (λ (n : ℕ). with_length j p n ∷ map (leaf_part_from j) parts) (sym (between_long bytes p all.0))
    ∙ ap (λ (xs : List LeafPart). with_length j p (length (layer_part_bytes bytes p)) ∷ xs) (same_parts j bytes parts all.1)

pub parts_are : (j : ℕ) (b : Block) (bytes : List ℕ) (parts : List LayerPart) → ArePartsOf b bytes parts → map (leaf_part_from j) parts ≡ map (leaf_part_of j) b.pieces
parts_are j b bytes parts are =
    same_parts j bytes parts (recursion_from_All (IsInside bytes) parts are.inside) ∙ ap (map (leaf_part_of j)) (sym are.pieces)

-- ---- leaves one after another
pub leaf_next : {X : Type 0} (f : ℕ → X) (xs ys : List X) (n : ℕ) (x : X) → xs ≡ map f (range_with_len 0 n) → x ≡ f n → ys ≡ xs ++ x ∷ [] → ys ≡ map f (range_with_len 0 (n + 1))
leaf_next {X} f xs ys n x before is made =
    made ∙ ap (λ (zs : List X). zs ++ x ∷ []) before ∙ ap (λ (z : X). map f (range_with_len 0 n) ++ z ∷ []) is
    ∙ sym (ap (map f) (range_push 0 n) ∙ map-append f (range_with_len 0 n) ((0 + n) ∷ []) ∙ (let e : 0 + n ≡ n = omega arith in ap (λ (m : ℕ). map f (range_with_len 0 n) ++ f m ∷ []) e))

pub leaves_all : (g : Geometry) (own : List Block) (c r k : ℕ) (xs : List Leafed) (n : ℕ) → xs ≡ map (own_leaf g own c r k) (range_with_len 0 n) → n ≡ leaves g c r k → xs ≡ own_leaves g own c r k
unfolding own_leaves
leaves_all g own c r k xs n is all = is ∙ ap (λ (m : ℕ). map (own_leaf g own c r k) (range_with_len 0 m)) all

pub leaf_made : (j : ℕ) (b : Block) (bytes : List ℕ) (list : List LayerPart) (xs : List LeafPart) (z i : ℕ) → length list ≤ i → ArePartsOf b bytes list
    → xs ++ map (leaf_part_from j) (drop i list) ≡ map (leaf_part_from j) list → z ≡ b.zero → leaf_with z xs ≡ leaf_from j (Some b)
leaf_made j b bytes list xs z i over are walked zero_is =
    let same : xs ≡ map (leaf_part_of j) b.pieces =
    sym (append-nil xs) ∙ ap (λ (ps : List LayerPart). xs ++ map (leaf_part_from j) ps) (sym (drop_all i list over)) ∙ walked ∙ parts_are j b bytes list are in
    ap (leaf_with z) same ∙ ap (λ (n : ℕ). leaf_with n (map (leaf_part_of j) b.pieces)) zero_is
