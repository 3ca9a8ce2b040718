-- Where a way stops, and the other leaves under its node.
use Rattle.std.proofs.Common.{◌≡◌, ℕ, suc, ◌+◌, ◌*◌, ◌/◌, ◌%◌, ◌^◌, ◌<◌, ◌≤◌, true, false, List, length, get_or, sym, ap, ◌∙◌, subst, arith, Some, None}
use Rattle.std.specs.Prelude.{Option, IfSome}
use Rattle.std.proofs.Math.Nat.{two-pow-succ, div-div-eq-div-mul}
use Rattle.jx_tagtree.specs.declared.node.Node.{Node}
use Rattle.jx_tagtree.specs.declared.shape.Level.{Level}
use Rattle.jx_tagtree.specs.Shape.{IsShape, root, parent, way, levels_of, node_in}
use Rattle.jx_tagtree.specs.TagTree.{node_at}
use Rattle.jx_tagtree.specs.Past.{Stops, IsPast, AreUnder}
use Rattle.jx_tagtree.proofs.ShapeLemmas.{no_level, nodes_at, nodes_long, way_over, table_few}
use Rattle.jx_tagtree.proofs.WayLemmas.{way_is, way_under}

-- ---- the last node from the leaf up that isn't settled
pub record Near (nodes : List Node) (ways : List ℕ) (threshold place p : ℕ) : Type 0 where
  pub next : suc p ≡ place
  pub unsettled : (node_at nodes (get_or ways p 0)).settled ≡ false
  pub reached : threshold ≤ (node_at nodes (get_or ways p 0)).known

-- under a node that is settled, or the root
pub stop_here : (nodes : List Node) (ways : List ℕ) (threshold place : ℕ) (stop : Option ℕ) → IfSome stop (Near nodes ways threshold place) → place ≤ length ways →
    (place < length ways → (node_at nodes (get_or ways place 0)).settled ≡ true) → IfSome stop (λ p. Stops nodes ways p threshold)
stop_here nodes ways threshold place None near le over = tt
stop_here nodes ways threshold place (Some p) near le over =
    let next : suc p ≡ place = near.next in
    record {
      inside = omega arith;
      unsettled = near.unsettled;
      reached = near.reached;
      over = λ lt. subst (λ (k : ℕ). (node_at nodes (get_or ways k 0)).settled ≡ true) (sym next) (over (subst (λ (k : ℕ). k < length ways) next lt));
    }

-- ---- leaves under one node
half_again : (n k : ℕ) → n / 2 ^ suc k ≡ n / 2 ^ k / 2
half_again n k = sym (div-div-eq-div-mul n (2 ^ k) 2 ∙ ap (λ (d : ℕ). n / d) (let e : 2 ^ suc k ≡ 2 ^ k + 2 ^ k = two-pow-succ k in let f : 2 ^ k * 2 ≡ 2 ^ suc k = omega arith in f))

module _ (wide high leaf other : ℕ) (s : IsShape wide high) (inside : leaf < wide * high) (other_inside : other < wide * high) where
  abbrev levels : List Level
  levels = levels_of wide high

  long_of : (l : ℕ) → l < wide * high → length (way wide high l) ≡ length levels
  long_of l lt = ap (λ (w : List ℕ). length w) (sym (way_over wide high l s lt)) ∙ nodes_long levels (l / wide) (l % wide)

  node_of : (l k : ℕ) → l < wide * high → k < length levels → get_or (way wide high l) k 0 ≡ node_in (get_or levels k no_level) (l / wide / 2 ^ k) (l % wide / 2 ^ k)
  node_of l k lt k_lt = ap (λ (w : List ℕ). get_or w k 0) (sym (way_over wide high l s lt)) ∙ nodes_at levels k (l / wide) (l % wide) k_lt

  one_node : (k : ℕ) → k < length levels → AreUnder wide k leaf other → get_or (way wide high other) k 0 ≡ get_or (way wide high leaf) k 0
  one_node k k_lt u =
      node_of other k other_inside k_lt
      ∙ ap (λ (d : ℕ). node_in (get_or levels k no_level) d (other % wide / 2 ^ k)) u.row
      ∙ ap (λ (a : ℕ). node_in (get_or levels k no_level) (leaf / wide / 2 ^ k) a) u.column
      ∙ sym (node_of leaf k inside k_lt)

  over_them : (k : ℕ) → AreUnder wide k leaf other → AreUnder wide (suc k) leaf other
  over_them k u = record {
    row = half_again (other / wide) k ∙ ap (λ (n : ℕ). n / 2) u.row ∙ sym (half_again (leaf / wide) k);
    column = half_again (other % wide) k ∙ ap (λ (n : ℕ). n / 2) u.column ∙ sym (half_again (leaf % wide) k);
  }

  pub stops_too : (nodes : List Node) (place threshold : ℕ) → AreUnder wide place leaf other → Stops nodes (way wide high leaf) place threshold → Stops nodes (way wide high other) place threshold
  stops_too nodes place threshold u st =
      let here : length (way wide high leaf) ≡ length levels = long_of leaf inside in
      let there : length (way wide high other) ≡ length levels = long_of other other_inside in
      let inside' : place < length (way wide high leaf) = st.inside in
      let same : get_or (way wide high other) place 0 ≡ get_or (way wide high leaf) place 0 = one_node place (omega arith) u in
      record {
        inside = omega arith;
        unsettled = ap (λ (n : ℕ). (node_at nodes n).settled) same ∙ st.unsettled;
        reached = subst (λ (n : ℕ). threshold ≤ (node_at nodes n).known) (sym same) st.reached;
        over = λ lt. (
            let lt' : suc place < length (way wide high other) = lt in
            ap (λ (n : ℕ). (node_at nodes n).settled) (one_node (suc place) (omega arith) (over_them place u)) ∙ st.over (omega arith));
      }

-- what a stop says of a tree
pub way_inside : (wide high leaf k : ℕ) (nodes : List Node) → IsShape wide high → leaf < wide * high → length nodes ≡ root wide high + 1 → k < length (way wide high leaf) → get_or (way wide high leaf) k 0 < length nodes
way_inside wide high leaf k nodes s lt long k_lt =
    let le : get_or (way wide high leaf) k 0 ≤ root wide high = way_under (parent wide high) (root wide high) leaf (way wide high leaf) (way_is wide high leaf s lt) k k_lt in
    omega arith

pub stop_low : (wide high leaf : ℕ) (nodes : List Node) (threshold : ℕ) (stop : Option ℕ) → IsShape wide high → leaf < wide * high →
    IfSome stop (λ p. Stops nodes (way wide high leaf) p threshold) → IfSome stop (λ p. p ≤ 22)
stop_low wide high leaf nodes threshold None s lt st = tt
stop_low wide high leaf nodes threshold (Some p) s lt st =
    let long : length (way wide high leaf) ≡ length (levels_of wide high) = ap (λ (w : List ℕ). length w) (sym (way_over wide high leaf s lt)) ∙ nodes_long (levels_of wide high) (leaf / wide) (leaf % wide) in
    let few : length (levels_of wide high) ≤ 23 = table_few wide high in
    let inside : p < length (way wide high leaf) = st.inside in
    omega arith

pub stop_under : (wide high leaf : ℕ) (nodes : List Node) (threshold : ℕ) (stop : Option ℕ) → IsShape wide high → leaf < wide * high →
    IfSome stop (λ p. Stops nodes (way wide high leaf) p threshold) →
    IfSome stop (λ p. (other : ℕ) → other < wide * high → AreUnder wide p leaf other → IsPast (record { wide = wide; high = high; nodes = nodes }) other threshold)
stop_under wide high leaf nodes threshold None s lt st = tt
stop_under wide high leaf nodes threshold (Some p) s lt st = λ other other_lt u. record { place = p; stops = stops_too wide high leaf other s lt other_lt nodes p threshold u st }
