-- The tag tree of first layers of a band that is written.
use Rattle.std.proofs.Common.{◌≡◌, ℕ, ◌+◌, ◌*◌, ◌<◌, Bool, true, false, List, length, refl, sym, ap, ◌∙◌, subst, cond, Some, None}
use Rattle.std.specs.Prelude.{Option}
use Rattle.jx_tagtree.specs.Shape.{IsShape}
use Rattle.jx_tagtree.specs.TagTree.{Tree, IsTree, ValuesOf}
use Rattle.jx_tagtree.proofs.QuestionLemmas.{after_tree, after_values}
use Rattle.jx_packet_header.specs.Packet.{Cells, Values, Entry, contributes, block_at, first_after, cells_first, cells_included, entry_after}
use Rattle.jx_packet_header.specs.Written.{Leafed, Writes, least_of, cells_of}
use Rattle.jx_packet_header.specs.Writable.{AreWrites, SameSize}
use Rattle.jx_packet_header.proofs.PutLemmas.{same_least}

-- a query keeps what is known of a tag tree
first_kept : (known : Option ℕ) (values : ℕ → ℕ) (tree : Tree) (leaf layer : ℕ) → IsShape tree.wide tree.high → leaf < tree.wide * tree.high → IsTree tree → ValuesOf tree values →
    IsTree (first_after known values tree leaf layer) × ValuesOf (first_after known values tree leaf layer) values
first_kept None values tree leaf layer s lt is v = (after_tree tree leaf (layer + 1) s is lt values v, after_values tree leaf (layer + 1) s is lt values v)
first_kept (Some z) values tree leaf layer s lt is v = (is, v)

pub first_of : (v : Values) (layer i : ℕ) (cells : Cells) (e : Entry) → (entry_after v layer i cells e).first ≡ first_after (block_at cells i).zero v.first cells.first i layer
first_of v layer i cells e = by (contributes e)
  where
    by : (c : Bool) → (cond c (cells_included v i (cells_first v layer i cells) e) (cells_first v layer i cells)).first ≡ first_after (block_at cells i).zero v.first cells.first i layer
    by true = refl
    by false = refl

-- the tag tree of first layers, of which leaves are the blocks
pub first_shape : (leaves : List Leafed) (w : Writes) → AreWrites leaves w → IsShape w.first.tree.wide w.first.tree.high
first_shape leaves w a = subst (λ (n : ℕ). IsShape n w.first.tree.high) (sym a.wide) (subst (λ (n : ℕ). IsShape w.zeros.tree.wide n) (sym a.high) a.shape)

pub first_long : (leaves : List Leafed) (w : Writes) → AreWrites leaves w → length w.blocks ≡ w.first.tree.wide * w.first.tree.high
first_long leaves w a = a.long ∙ ap (λ (n : ℕ). n * w.zeros.tree.high) (sym a.wide) ∙ ap (λ (n : ℕ). w.first.tree.wide * n) (sym a.high)

-- what is known of it after a block
pub first_still : (v : Values) (layer i : ℕ) (leaves : List Leafed) (w new : Writes) (e : Entry) → AreWrites leaves w → i < length w.blocks → v.first ≡ least_of w.first →
    new.first.leaves ≡ w.first.leaves → cells_of new ≡ entry_after v layer i (cells_of w) e → SameSize (cells_of new) (cells_of w) → IsTree new.first.tree × ValuesOf new.first.tree (least_of new.first)
first_still v layer i leaves w new e a lt same first is size =
    let known : Option ℕ = (block_at (cells_of w) i).zero in
    let inside : i < w.first.tree.wide * w.first.tree.high = subst (λ (n : ℕ). i < n) (first_long leaves w a) lt in
    let kept = first_kept known (least_of w.first) w.first.tree i layer (first_shape leaves w a) inside a.first_is a.first_values in
    let tree : first_after known (least_of w.first) w.first.tree i layer ≡ new.first.tree =
    ap (λ (f : ℕ → ℕ). first_after known f w.first.tree i layer) (sym same) ∙ sym (first_of v layer i (cells_of w) e) ∙ ap (λ (c : Cells). c.first) (sym is) in
    let values : least_of w.first ≡ least_of new.first = sym (same_least new.first w.first first size.wide size.high) in (
      subst (λ (t : Tree). IsTree t) tree kept.0,
      subst (λ (f : ℕ → ℕ). ValuesOf new.first.tree f) values (subst (λ (t : Tree). ValuesOf t (least_of w.first)) tree kept.1),
    )
