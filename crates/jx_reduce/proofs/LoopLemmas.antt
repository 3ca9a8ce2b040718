-- The steps of the loop over code-blocks.
use Rattle.std.proofs.Common.{◌≡◌, ◌∙◌, ℕ, ◌+◌, ◌≤◌, ◌<◌, List, [], ◌∷◌, ◌++◌, drop, length, slice_index_or, refl, sym, ap, arith, append-nil, append_assoc, inl, inr}
use Rattle.std.specs.List.{filter}
use Rattle.std.proofs.Math.ListN.{drop_of_length-le}
use Rattle.std.proofs.lemmas.Bool.{cases_Bool}
use Rattle.std.proofs.lemmas.List.{drop_more}
use Rattle.jx_base.specs.declared.pieces.Block.{Block}
use Rattle.jx_codestream.specs.declared.Stream.{Stream}
use Rattle.jx_codestream.specs.TileHeaders.{TileHeaders}
use Rattle.jx_codestream.specs.Params.{headers_at}
use Rattle.jx_reduce.specs.Reduction.{blocks_left, is_left}

pub none_left : (d : ℕ) (s : Stream) (blocks : List Block) → length blocks ≡ 0 → [] ≡ blocks_left d s blocks
unfolding blocks_left
none_left d s [] none = refl
none_left d s (b ∷ blocks) none = absurd (omega arith)

first_left : (d : ℕ) (s : Stream) (b : Block) (blocks : List Block) → blocks_left d s (b ∷ blocks) ≡ filter (is_left (headers_at s b.name.tile) d) (b ∷ []) ++ blocks_left d s blocks
unfolding blocks_left
first_left d s b blocks = elim (cases_Bool (is_left (headers_at s b.name.tile) d b)) [
  | inl t ↦ rw t refl
  | inr n ↦ rw n refl
]

-- all behind the end, and from a place on
past_end : (blocks : List Block) (i : ℕ) → length blocks ≤ i → drop i blocks ≡ []
past_end blocks i le = drop_of_length-le blocks le

pub left_ends : (d : ℕ) (s : Stream) (left blocks : List Block) (i : ℕ) → length blocks ≤ i → left ++ blocks_left d s (drop i blocks) ≡ blocks_left d s blocks → left ≡ blocks_left d s blocks
left_ends d s left blocks i le done =
    let none : blocks_left d s (drop i blocks) ≡ [] = ap (λ (l : List Block). blocks_left d s l) (past_end blocks i le) ∙ sym (none_left d s [] refl) in
    sym (append-nil left) ∙ ap (λ (l : List Block). left ++ l) (sym none) ∙ done

pub left_goes : (d : ℕ) (s : Stream) (left next blocks : List Block) (i : ℕ) (b : Block) (view : TileHeaders) → i < length blocks → b ≡ slice_index_or blocks i b → view ≡ headers_at s b.name.tile
    → next ≡ left ++ filter (is_left view d) (b ∷ []) → left ++ blocks_left d s (drop i blocks) ≡ blocks_left d s blocks → next ++ blocks_left d s (drop (i + 1) blocks) ≡ blocks_left d s blocks
left_goes d s left next blocks i b view lt is seen put done =
    let rest : List Block = drop (i + 1) blocks in
    let here : List Block = filter (is_left (headers_at s b.name.tile) d) (b ∷ []) in
    let from : drop i blocks ≡ b ∷ rest = drop_more blocks i b lt ∙ ap (λ (x : Block). x ∷ rest) (sym is) in
    let added : next ≡ left ++ here = put ∙ ap (λ (h : TileHeaders). left ++ filter (is_left h d) (b ∷ [])) seen in
    ap (λ (l : List Block). l ++ blocks_left d s rest) added ∙ append_assoc left here (blocks_left d s rest)
    ∙ ap (λ (l : List Block). left ++ l) (sym (first_left d s b rest) ∙ ap (λ (l : List Block). blocks_left d s l) (sym from)) ∙ done
