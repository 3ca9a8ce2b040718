-- A tag tree of one leaf, which is its root.
use Rattle.std.proofs.Common.{◌≡◌, ℕ, ◌+◌, ◌<◌, ◌≤◌, ◌++◌, ◌&&◌, max, nat_lt, Bool, List, [], ◌∷◌, replicate, refl, sym, ap, ◌∙◌, subst, arith, Some, None}
use Rattle.std.specs.Prelude.{option_map, false, Result, IfOk}
use Rattle.jx_tagtree.specs.declared.node.Node.{Node}
use Rattle.jx_tagtree.specs.declared.BitFault.{BitFault}
use Rattle.jx_tagtree.specs.Header.{Took, Reading, to_come}
use Rattle.jx_tagtree.specs.Shape.{root, way}
use Rattle.jx_tagtree.specs.TagTree.{Tree, unknown, fresh, query, ValuesOf, IsTree, HasRead}
use Rattle.jx_tagtree.specs.Scan.{scan_one, scan_way, Scanned, scanned, WayRead}
use Rattle.jx_tagtree.specs.Kept.{KeepsTree}
use Rattle.jx_tagtree.specs.Past.{IsPast, Stops}
use Rattle.jx_tagtree.specs.Forms.{one_leaf}
use Rattle.jx_tagtree.proofs.TagLemmas.{call_read, call_only, call_none}
use Rattle.jx_tagtree.proofs.QuestionLemmas.{known_values}

root_one : 0 ≡ root 1 1
unfolding root
root_one = refl

way_first : 0 ∷ [] ≡ way 1 1 0
unfolding way
way_first = refl

pub way_one : (leaf : ℕ) → leaf < 1 → 0 ∷ [] ≡ way 1 1 leaf
way_one leaf lt = let first : 0 ≡ leaf = omega arith in subst (λ (l : ℕ). 0 ∷ [] ≡ way 1 1 l) first way_first

pub keeps_one : (node : Node) → KeepsTree 1 1 (node ∷ [])
keeps_one node = record {
  shape = record { some = omega arith; few = omega arith };
  long = ap (λ (n : ℕ). n + 1) root_one;
  sound = λ n lt. absurd (let top : 0 ≡ root 1 1 = root_one in omega arith);
}

-- what is scanned of its way is what is scanned of its node
pub way_read_one : (t : ℕ) (node after : Node) (bits rest : List Bool) (below : Bool) → scan_one t node 0 bits ≡ Some (record { node = after; rest = rest }) →
    below ≡ (after.settled && nat_lt after.known t) → WayRead t (node ∷ []) 0 (0 ∷ []) bits below (after ∷ []) rest
way_read_one t node after bits rest below h is =
    let more : max 0 after.known ≡ after.known = omega arith in
    record {
      known = after.known;
      read = ap (option_map (scanned 0 (record { nodes = node ∷ []; known = 0; rest = bits }))) h
          ∙ ap (λ (k : ℕ). let s : Scanned = record { nodes = after ∷ []; known = k; rest = rest } in Some s) more;
      answer = is;
    }

-- a tag tree of one leaf of which nothing is known
pub fresh_one : (node : Node) (wide high : ℕ) → node ≡ unknown → wide ≡ 1 → high ≡ 1 → one_leaf node ≡ fresh wide high
fresh_one node wide high is one_wide one_high =
    ap one_leaf is
    ∙ ap (λ (n : ℕ). let t : Tree = record { wide = 1; high = 1; nodes = replicate (n + 1) unknown } in t) root_one
    ∙ ap (λ (w : ℕ). fresh w 1) (sym one_wide)
    ∙ ap (fresh wide) (sym one_high)

-- its way stops at it
pub past_one : (node : Node) (t other : ℕ) → node.settled ≡ false → t ≤ node.known → other < 1 → IsPast (one_leaf node) other t
past_one node t other loose reached lt =
    let stops : Stops (node ∷ []) (0 ∷ []) 0 t = record { inside = omega arith; unsettled = loose; reached = reached; over = λ over. absurd (omega arith) } in
    record { place = 0; stops = subst (λ (w : List ℕ). Stops (node ∷ []) w 0 t) (way_one other lt) stops }

pub tree_one : (node : Node) → IsTree (one_leaf node)
tree_one node = let k = keeps_one node in record { nodes = k.long; sound = k.sound }

pub values_one : (node : Node) → (values : ℕ → ℕ) × ValuesOf (one_leaf node) values
values_one node = known_values (one_leaf node) (tree_one node)

-- a query of its leaf
module _ (node : Node) (leaf t : ℕ) (lt : leaf < 1) where
  pub one_read : (from to : Reading) (new : Node) (below : Bool) → WayRead t (node ∷ []) 0 (0 ∷ []) (to_come from) below (new ∷ []) (to_come to) → Took from to →
      (values : ℕ → ℕ) → ValuesOf (one_leaf new) values → HasRead values leaf t below (one_leaf node) from (one_leaf new) to
  one_read from to new below h =
      let first : 0 ≡ leaf = omega arith in
      call_read 1 1 leaf t (node ∷ []) (keeps_one node) (one_leaf node) refl lt (0 ∷ []) (way_one leaf lt) from to (new ∷ []) below
      (subst (λ (l : ℕ). WayRead t (node ∷ []) l (0 ∷ []) (to_come from) below (new ∷ []) (to_come to)) first h)

  pub one_only : (from to : Reading) (new : Node) (below : Bool) → WayRead t (node ∷ []) 0 (0 ∷ []) (to_come from) below (new ∷ []) (to_come to) → Took from to →
      (values : ℕ → ℕ) → ValuesOf (one_leaf node) values → (rest : List Bool) → to_come from ≡ (query values (one_leaf node) leaf t).bits ++ rest →
      HasRead values leaf t below (one_leaf node) from (one_leaf new) to
  one_only from to new below h took values v rest stands =
      one_read from to new below h took values
      (call_only 1 1 leaf t (node ∷ []) (keeps_one node) (one_leaf node) refl lt (0 ∷ []) (way_one leaf lt) from to (new ∷ []) h.known h.read values v rest stands)

  pub one_none : (from : Reading) → scan_way t (node ∷ []) (0 ∷ []) (to_come from) ≡ None →
      (values : ℕ → ℕ) → ValuesOf (one_leaf node) values → (rest : List Bool) → to_come from ≡ (query values (one_leaf node) leaf t).bits ++ rest → ⊥
  one_none from h = call_none 1 1 leaf t (node ∷ []) (keeps_one node) (one_leaf node) refl lt (0 ∷ []) (way_one leaf lt) from h

-- what a call read, whose result and trees are known by other names
abbrev Reads : ℕ → ℕ → Reading → Result Bool BitFault → Tree → Tree → Reading → Type 0
Reads leaf t from result old new to = IfOk result (λ below. (values : ℕ → ℕ) → ValuesOf new values → HasRead values leaf t below old from new to)

pub reads_as : (leaf t : ℕ) (from : Reading) (result mine : Result Bool BitFault) (old before new after : Tree) (to end : Reading) →
    result ≡ mine → old ≡ before → new ≡ after → to ≡ end → Reads leaf t from mine before after end → Reads leaf t from result old new to
reads_as leaf t from result mine old before new after to end same_result same_old same_new same_to h =
    subst (λ (r : Result Bool BitFault). Reads leaf t from r old new to) (sym same_result)
    (subst (λ (o : Tree). Reads leaf t from mine o new to) (sym same_old)
    (subst (λ (n : Tree). Reads leaf t from mine before n to) (sym same_new)
    (subst (λ (e : Reading). Reads leaf t from mine before after e) (sym same_to) h)))
