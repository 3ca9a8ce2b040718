-- Pieces put to their blocks one after another make the blocks that have all of them.
use Rattle.std.proofs.Common.{◌≡◌, ℕ, suc, ◌+◌, ◌<◌, ◌==◌, Bool, List, [], ◌∷◌, ◌++◌, length, set, filter, refl, sym, ap, ◌∙◌, subst, cond, arith, Some, inl, inr, ◌⊎◌, All, append_assoc, append-nil, length-set, Option, slice_get}
use Rattle.std.specs.List.{AllByRecursion}
use Rattle.std.proofs.lemmas.Bool.{cases_eq, eq-eqb, ne_eqb, cond-false}
use Rattle.std.proofs.lemmas.List.{map_push}
use Rattle.std.proofs.lemmas.List.Elements.{filter-append, recursion_from_All}
use Rattle.std.proofs.lemmas.List.Sums.{sum_by_push}
use Rattle.std.proofs.lemmas.Option.{slice_get_within}
use Rattle.jx_base.specs.declared.names.BlockName.{BlockName}
use Rattle.jx_base.specs.declared.pieces.Block.{Block}
use Rattle.jx_base.specs.Pieces.{PieceValue}
use Rattle.jx_geom.specs.Rects.{block_rect}
use Rattle.jx_geom.specs.Geometry.{Geometry, HasBlock, shape_of, rect_of_tile}
use Rattle.jx_geom.specs.Numbering.{number_in_tile}
use Rattle.jx_codestream.specs.declared.Stream.{Stream}
use Rattle.jx_codestream.specs.Params.{planes_at}
use Rattle.jx_codestream.specs.Shapes.{style_of}
use Rattle.jx_tier2_reader.specs.Blocks.{FoundPiece, own_founds, pieces_in, passes_in, zero_from, block_with, block_of, blocks_of_tile}
use Rattle.jx_tier2_reader.specs.Put.{put_to, put_at, put_one, put_all}
use Rattle.jx_base.proofs.Lists.{get-set_same, get-set_other, same_gets}

-- the blocks of a tile are those of its names, whatever pieces they have
pub record Tiled (s : Stream) (g : Geometry) : Type 0 where
  pub long : (founds : List FoundPiece) → length (blocks_of_tile s g founds) ≡ length (blocks_of_tile s g [])
  pub there : (founds : List FoundPiece) (n : BlockName) → HasBlock g n → slice_get (blocks_of_tile s g founds) (number_in_tile g n) ≡ Some (block_of s g founds n)
  pub named : (i : ℕ) → i < length (blocks_of_tile s g []) → (n : BlockName) × (HasBlock g n × (number_in_tile g n ≡ i))

-- a piece of one of the tile's blocks
pub record IsOfBlock (g : Geometry) (f : FoundPiece) : Type 0 where
  pub name : BlockName
  pub there : HasBlock g name
  pub number : number_in_tile g name ≡ f.number

-- ---- one piece
made : Stream → Geometry → BlockName → ℕ → ℕ → List PieceValue → Block
made s g n z passes pieces = record {
  name = n;
  rect = block_rect (rect_of_tile g) (shape_of g n.comp) n.res n.band n.index;
  planes = planes_at s g.tile n.comp n.res n.band;
  zero = z;
  passes = passes;
  style = record { bits = style_of s g.tile n.comp };
  pieces = pieces;
}

-- its zero planes stay those that the first piece told
zero_push : (planes : ℕ) (own : List FoundPiece) (f : FoundPiece) → cond (length (pieces_in own) == 0) f.zero (zero_from planes own) ≡ zero_from planes (own ++ f ∷ [])
zero_push planes [] f = refl
zero_push planes (x ∷ own) f = cond-false (length (pieces_in (x ∷ own)) == 0) f.zero x.zero (ne_eqb (length (pieces_in (x ∷ own))) 0 (λ (e : suc (length (pieces_in own)) ≡ 0). (let e' : suc (length (pieces_in own)) ≡ 0 = e in omega arith)))

put_with : (s : Stream) (g : Geometry) (n : BlockName) (own : List FoundPiece) (f : FoundPiece) → put_to (block_with s g n own) f ≡ block_with s g n (own ++ f ∷ [])
unfolding made
put_with s g n own f =
    let planes : ℕ = planes_at s g.tile n.comp n.res n.band in
    ap (λ (z : ℕ). made s g n z (passes_in own + f.piece.passes) (pieces_in own ++ f.piece ∷ [])) (zero_push planes own f)
    ∙ ap (λ (p : ℕ). made s g n (zero_from planes (own ++ f ∷ [])) p (pieces_in own ++ f.piece ∷ [])) (sym (sum_by_push (λ (x : FoundPiece). x.piece.passes) own f))
    ∙ ap (λ (l : List PieceValue). made s g n (zero_from planes (own ++ f ∷ [])) (passes_in (own ++ f ∷ [])) l) (sym (map_push (λ (x : FoundPiece). x.piece) own f))

own_same : (i : ℕ) (done : List FoundPiece) (f : FoundPiece) → f.number ≡ i → own_founds i (done ++ f ∷ []) ≡ own_founds i done ++ f ∷ []
unfolding own_founds
own_same i done f e =
    filter-append (λ (x : FoundPiece). x.number == i) done (f ∷ [])
    ∙ ap (λ (c : Bool). filter (λ (x : FoundPiece). x.number == i) done ++ cond c (f ∷ []) []) (eq-eqb f.number i e)

own_other : (i : ℕ) (done : List FoundPiece) (f : FoundPiece) → (f.number ≡ i → ⊥) → own_founds i (done ++ f ∷ []) ≡ own_founds i done
unfolding own_founds
own_other i done f ne =
    filter-append (λ (x : FoundPiece). x.number == i) done (f ∷ [])
    ∙ ap (λ (c : Bool). filter (λ (x : FoundPiece). x.number == i) done ++ cond c (f ∷ []) []) (ne_eqb f.number i ne)
    ∙ append-nil (filter (λ (x : FoundPiece). x.number == i) done)

put_here : (s : Stream) (g : Geometry) (n : BlockName) (done : List FoundPiece) (f : FoundPiece) → number_in_tile g n ≡ f.number → put_to (block_of s g done n) f ≡ block_of s g (done ++ f ∷ []) n
put_here s g n done f e =
    put_with s g n (own_founds (number_in_tile g n) done) f ∙ ap (λ (l : List FoundPiece). block_with s g n l) (sym (own_same (number_in_tile g n) done f (sym e)))

put_next : (s : Stream) (g : Geometry) (done : List FoundPiece) (f : FoundPiece) → Tiled s g → IsOfBlock g f → put_one (blocks_of_tile s g done) f ≡ blocks_of_tile s g (done ++ f ∷ [])
unfolding put_one
put_next s g done f t o =
    let old : slice_get (blocks_of_tile s g done) f.number ≡ Some (block_of s g done o.name) = subst (λ (i : ℕ). slice_get (blocks_of_tile s g done) i ≡ Some (block_of s g done o.name)) o.number (t.there done o.name o.there) in
    let new : slice_get (blocks_of_tile s g (done ++ f ∷ [])) f.number ≡ Some (block_of s g (done ++ f ∷ []) o.name) =
    subst (λ (i : ℕ). slice_get (blocks_of_tile s g (done ++ f ∷ [])) i ≡ Some (block_of s g (done ++ f ∷ []) o.name)) o.number (t.there (done ++ f ∷ []) o.name o.there) in
    let lt : f.number < length (blocks_of_tile s g done) = slice_get_within (blocks_of_tile s g done) f.number (block_of s g done o.name) old in
    let put = put_to (block_of s g done o.name) f in
    let sized : length (set (blocks_of_tile s g done) f.number put) ≡ length (blocks_of_tile s g done) = length-set (blocks_of_tile s g done) f.number put in
    let long : length (blocks_of_tile s g done) ≡ length (blocks_of_tile s g []) = t.long done in
    let longer : length (blocks_of_tile s g (done ++ f ∷ [])) ≡ length (blocks_of_tile s g []) = t.long (done ++ f ∷ []) in
    ap (λ (b : Option Block). put_at b (blocks_of_tile s g done) f) old
    ∙ same_gets (set (blocks_of_tile s g done) f.number put) (blocks_of_tile s g (done ++ f ∷ [])) (omega arith)
    (λ (i : ℕ) (below : i < length (set (blocks_of_tile s g done) f.number put)). at i (omega arith) (cases_eq i f.number) lt new)
  where
    other : (i : ℕ) → (i ≡ f.number → ⊥) → (n : BlockName) × (HasBlock g n × (number_in_tile g n ≡ i)) → slice_get (blocks_of_tile s g done) i ≡ slice_get (blocks_of_tile s g (done ++ f ∷ [])) i
    other i ne n =
        let number : number_in_tile g n.0 ≡ i = n.1.1 in
        let apart : f.number ≡ number_in_tile g n.0 → ⊥ = λ (e : f.number ≡ number_in_tile g n.0). ne (sym (e ∙ number)) in
        subst (λ (j : ℕ). slice_get (blocks_of_tile s g done) j ≡ slice_get (blocks_of_tile s g (done ++ f ∷ [])) j) number
        (t.there done n.0 n.1.0
        ∙ ap (λ (l : List FoundPiece). Some (block_with s g n.0 l)) (sym (own_other (number_in_tile g n.0) done f apart))
        ∙ sym (t.there (done ++ f ∷ []) n.0 n.1.0))

    at : (i : ℕ) → i < length (blocks_of_tile s g []) → (i ≡ f.number) ⊎ (i ≡ f.number → ⊥) → f.number < length (blocks_of_tile s g done) →
        slice_get (blocks_of_tile s g (done ++ f ∷ [])) f.number ≡ Some (block_of s g (done ++ f ∷ []) o.name) →
        slice_get (set (blocks_of_tile s g done) f.number (put_to (block_of s g done o.name) f)) i ≡ slice_get (blocks_of_tile s g (done ++ f ∷ [])) i
    at i below (inl same) lt new =
        subst (λ (j : ℕ). slice_get (set (blocks_of_tile s g done) f.number (put_to (block_of s g done o.name) f)) j ≡ slice_get (blocks_of_tile s g (done ++ f ∷ [])) j) (sym same)
        (get-set_same (blocks_of_tile s g done) f.number (put_to (block_of s g done o.name) f) lt
        ∙ ap (λ (b : Block). Some b) (put_here s g o.name done f o.number)
        ∙ sym new)
    at i below (inr ne) lt new = get-set_other (blocks_of_tile s g done) f.number i (put_to (block_of s g done o.name) f) ne ∙ other i ne (t.named i below)

put_after : (s : Stream) (g : Geometry) (done founds : List FoundPiece) → Tiled s g → AllByRecursion (IsOfBlock g) founds → put_all (blocks_of_tile s g done) founds ≡ blocks_of_tile s g (done ++ founds)
put_after s g done [] t all = ap (blocks_of_tile s g) (sym (append-nil done))
put_after s g done (f ∷ founds) t all =
    ap (λ (l : List Block). put_all l founds) (put_next s g done f t all.0)
    ∙ put_after s g (done ++ f ∷ []) founds t all.1
    ∙ ap (blocks_of_tile s g) (append_assoc done (f ∷ []) founds)

pub put_found : (s : Stream) (g : Geometry) (founds : List FoundPiece) → Tiled s g → All (IsOfBlock g) founds → put_all (blocks_of_tile s g []) founds ≡ blocks_of_tile s g founds
put_found s g founds t all = put_after s g [] founds t (recursion_from_All (IsOfBlock g) founds all)
