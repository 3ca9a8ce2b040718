-- The values of nodes, and what a query writes.
use Rattle.std.proofs.Common.{◌/◌, ◌%◌, ◌≡◌, ℕ, zero, suc, ◌+◌, ◌-◌, ◌*◌, ◌^◌, ◌<◌, ◌≤◌, ◌==◌, ◌||◌, min, max, Bool, true, false, List, [], ◌∷◌, ◌++◌, length, get_or, set, take, drop, replicate, refl, sym, ap, ◌∙◌, subst, cond, arith, ◌⊎◌, inl, inr}
use Rattle.std.proofs.lemmas.List.{drop_more, get_or_default, get_or-take, length-take-le, drop_all, get_or_past, length-replicate, get_or-replicate}
use Rattle.std.proofs.lemmas.Grind.{same_number_lists}
use Rattle.std.proofs.lemmas.Bool.{cases_eq, cases_lt, ne_eqb, or_right, eq-eqb}
use Rattle.std.proofs.lemmas.Nat.{div_below, mod_below, mul-le, mul-add-lt, div-mul-add, mod-mul-add, div-add-mod'}
use Rattle.jx_tagtree.specs.declared.node.Node.{Node}
use Rattle.jx_tagtree.specs.declared.shape.Level.{Level}
use Rattle.jx_tagtree.specs.Shape.{IsShape, base, is_root, over, parent_at, root, parent, root_from, way_from, way, IsLevel, InLevel}
use Rattle.jx_tagtree.specs.TagTree.{unknown, node_at, node_bits, node_after, Walk, step, walk, AreValues}
use Rattle.jx_tagtree.specs.Leaves.{passes, least_from, least_leaf, AreLeaves, IsLeast, Written, told, told_after}
use Rattle.jx_tagtree.specs.KeptLeaves.{leaves_in, AreNodeValues, KeepsLeaves}
use Rattle.jx_tagtree.proofs.ShapeLemmas.{IsLevel-base, InLevel-base, IsLevel-over, InLevel-parent, way_begin, way_next}
use Rattle.jx_tagtree.proofs.WayLemmas.{IsWay, at_top, under, way_is, way_under}
use Rattle.jx_tagtree.proofs.TagLemmas.{way_le}
use Rattle.jx_base.proofs.Tests.{or_false}

-- ---- what a query writes
pub way_here : (way : List ℕ) (place : ℕ) → place ≤ length way → 0 < place → drop (place - 1) way ≡ get_or way (place - 1) 0 ∷ drop place way
way_here way place le some =
    let lt : place - 1 < length way = omega arith in
    let back : place - 1 + 1 ≡ place = omega arith in
    drop_more way (place - 1) 0 lt ∙ ap (λ (k : ℕ). get_or way (place - 1) 0 ∷ drop k way) back

abbrev walk_of : List Node → ℕ → List Bool → Walk
walk_of nodes known bits = record { nodes = nodes; known = known; bits = bits }

-- what a node's query makes of a walk
abbrev stepped : ℕ → ℕ → Node → ℕ → ℕ → List Node → List Bool → Walk
stepped at t node known value nodes bits =
    walk_of (set nodes at (node_after node (max node.known known) value t)) (max known (node_after node (max node.known known) value t).known) (bits ++ node_bits node (max node.known known) value t)

-- a node more of a way
pub told_more : (values : ℕ → ℕ) (t : ℕ) (begin : List Node) (way : List ℕ) (place at : ℕ) (nodes : List Node) (above : ℕ) (node after : Node) (value : ℕ) →
    place ≤ length way → 0 < place → at ≡ get_or way (place - 1) 0 → at < length nodes → node ≡ get_or nodes at node → value ≡ values at →
    nodes ≡ (walk values t begin (drop place way)).nodes → above ≡ (walk values t begin (drop place way)).known →
    after ≡ node_after node (max node.known above) value t →
    walk values t begin (drop (place - 1) way) ≡ walk_of (set nodes at after) (max above after.known) ((walk values t begin (drop place way)).bits ++ node_bits node (max node.known above) value t)
told_more values t begin way place at nodes above node after value le some here lt read value_is nodes_are above_is after_is =
    let w : Walk = walk values t begin (drop place way) in
    let node_is : node_at nodes at ≡ node = get_or_default nodes at unknown node lt ∙ sym read in
    let node_is' : node_at w.nodes at ≡ node = ap (λ (l : List Node). node_at l at) (sym nodes_are) ∙ node_is in
    ap (walk values t begin) (way_here way place le some)
    ∙ ap (λ (n : ℕ). step values t n w) (sym here)
    ∙ ap (λ (y : Node). stepped at t y w.known (values at) w.nodes w.bits) node_is'
    ∙ ap (λ (k : ℕ). stepped at t node k (values at) w.nodes w.bits) (sym above_is)
    ∙ ap (λ (m : ℕ). stepped at t node above m w.nodes w.bits) (sym value_is)
    ∙ ap (λ (y : Node). walk_of (set w.nodes at y) (max above y.known) (w.bits ++ node_bits node (max node.known above) value t)) (sym after_is)
    ∙ ap (λ (l : List Node). walk_of (set l at after) (max above after.known) (w.bits ++ node_bits node (max node.known above) value t)) (sym nodes_are)

-- the values of other nodes don't matter
pub walk-same : (f g : ℕ → ℕ) (t : ℕ) (nodes : List Node) (way : List ℕ) → ((k : ℕ) → k < length way → f (get_or way k 0) ≡ g (get_or way k 0)) → walk f t nodes way ≡ walk g t nodes way
walk-same f g t nodes [] same = refl
walk-same f g t nodes (n ∷ over) same =
    let w : Walk = walk f t nodes over in
    let here : f n ≡ g n = same 0 (omega arith) in
    ap (λ (m : ℕ). stepped n t (node_at w.nodes n) w.known m w.nodes w.bits) here
    ∙ ap (step g t n) (walk-same f g t nodes over (λ k lt. same (suc k) (omega arith)))

-- ---- which leaves are under a node
-- a way that begins above a node doesn't pass it
passes-above : (m : ℕ) (l : Level) (node n : ℕ) → IsLevel m l → InLevel l node → n < l.first → passes n (way_from m l node) ≡ false
passes-above zero l node n s i lt = let first : l.first ≤ node = i.first in let no : (node == n) ≡ false = ne_eqb node n (λ e. omega arith) in ap (λ (b : Bool). b || false) no
passes-above (suc m) l node n s i lt =
    let first : l.first ≤ node = i.first in
    let last : node < l.first + l.wide * l.high = i.last in
    let no : (node == n) ≡ false = ne_eqb node n (λ e. omega arith) in
    by (is_root l) no (passes-above m (over l) (parent_at l node) n (IsLevel-over m l s) (InLevel-parent (suc m) l node s i) (omega arith))
  where
    by : (b : Bool) → (node == n) ≡ false → passes n (way_from m (over l) (parent_at l node)) ≡ false → passes n (cond b (node ∷ []) (node ∷ way_from m (over l) (parent_at l node))) ≡ false
    by true other rest = ap (λ (c : Bool). c || false) other
    by false other rest = ap (λ (c : Bool). c || passes n (way_from m (over l) (parent_at l node))) other ∙ rest

-- of the leaves' level a way passes its own leaf alone
pub passes-leaf : (wide high l n : ℕ) → IsShape wide high → l < wide * high → n < wide * high → passes n (way wide high l) ≡ (l == n)
passes-leaf wide high l n s lt n_lt =
    let level : IsLevel 22 (base wide high) = IsLevel-base wide high s in
    let here : InLevel (base wide high) l = InLevel-base wide high l lt in
    let below : n < 0 + wide * high = omega arith in
    sym (ap (passes n) (way_begin wide high l))
    ∙ by (is_root (base wide high)) (passes-above 21 (over (base wide high)) (parent_at (base wide high) l) n (IsLevel-over 21 (base wide high) level) (InLevel-parent 22 (base wide high) l level here) below)
  where
    by : (b : Bool) → passes n (way_from 21 (over (base wide high)) (parent_at (base wide high) l)) ≡ false →
        passes n (cond b (l ∷ []) (l ∷ way_from 21 (over (base wide high)) (parent_at (base wide high) l))) ≡ (l == n)
    by true rest = or_false (l == n)
    by false rest = ap (λ (c : Bool). (l == n) || c) rest ∙ or_false (l == n)

passes-first : (up : ℕ → ℕ) (top n : ℕ) (ways : List ℕ) → IsWay up top n ways → passes n ways ≡ true
passes-first up top _ _ at_top = ap (λ (b : Bool). b || false) (eq-eqb top top refl)
passes-first up top _ _ (under {n} {over} lt w) = ap (λ (b : Bool). b || passes n over) (eq-eqb n n refl)

-- a way that passes a node passes its parent
passes-parent : (up : ℕ → ℕ) (top a : ℕ) (ways : List ℕ) → IsWay up top a ways → (n : ℕ) → n < top → passes n ways ≡ true → passes (up n) ways ≡ true
passes-parent up top _ _ at_top n lt h =
    let no : (top == n) ≡ false = ne_eqb top n (λ e. omega arith) in
    let none : passes n (top ∷ []) ≡ false = ap (λ (b : Bool). b || false) no in
    absurd (let e : true ≡ false = sym h ∙ none in cc)
passes-parent up top _ _ (under {n = m} {over} m_lt w) n lt h = by (m == n) refl (cases_eq m n) (λ k. passes-parent up top (up m) over w n lt k) (passes-first up top (up m) over w)
  where
    or_true : (b : Bool) → (b || true) ≡ true
    or_true true = refl
    or_true false = refl

    by : (b : Bool) → (m == n) ≡ b → (m ≡ n) ⊎ (m ≡ n → ⊥) → (passes n over ≡ true → passes (up n) over ≡ true) → passes (up m) over ≡ true → passes (up n) (m ∷ over) ≡ true
    by b e (inl same) again first = ap (λ (c : Bool). (m == up n) || c) (subst (λ (q : ℕ). passes (up q) over ≡ true) same first) ∙ or_true (m == up n)
    by b e (inr ne) again first =
        let no : (m == n) ≡ false = ne_eqb m n ne in
        let rest : passes n over ≡ true = sym (ap (λ (c : Bool). c || passes n over) no) ∙ h in
        ap (λ (c : Bool). (m == up n) || c) (again rest) ∙ or_true (m == up n)

-- ---- the least leaf under a node
pub least_from-le : (ways : ℕ → List ℕ) (n first : ℕ) (leaves : List ℕ) → least_from ways n first leaves ≤ 2 ^ 32 - 1
least_from-le ways n first [] = omega arith
least_from-le ways n first (leaf ∷ leaves) = by (passes n (ways first)) (least_from-le ways n (first + 1) leaves)
  where
    by : (b : Bool) → least_from ways n (first + 1) leaves ≤ 2 ^ 32 - 1 → cond b (min leaf (least_from ways n (first + 1) leaves)) (least_from ways n (first + 1) leaves) ≤ 2 ^ 32 - 1
    by true h = omega arith
    by false h = h

-- under a node that more ways pass stand lower leaves
least_from-less : (ways : ℕ → List ℕ) (n p first : ℕ) (leaves : List ℕ) →
    ((l : ℕ) → first ≤ l → l < first + length leaves → passes n (ways l) ≡ true → passes p (ways l) ≡ true) → least_from ways p first leaves ≤ least_from ways n first leaves
least_from-less ways n p first [] more = omega arith
least_from-less ways n p first (leaf ∷ leaves) more =
    by (passes n (ways first)) (passes p (ways first)) (more first (omega arith) (omega arith))
    (least_from-less ways n p (first + 1) leaves (λ l le lt. more l (omega arith) (omega arith)))
  where
    by : (a b : Bool) → (a ≡ true → b ≡ true) → least_from ways p (first + 1) leaves ≤ least_from ways n (first + 1) leaves →
        cond b (min leaf (least_from ways p (first + 1) leaves)) (least_from ways p (first + 1) leaves) ≤ cond a (min leaf (least_from ways n (first + 1) leaves)) (least_from ways n (first + 1) leaves)
    by true true h le = omega arith
    by true false h le = absurd (let e : false ≡ true = h refl in cc)
    by false true h le = omega arith
    by false false h le = le

-- the least leaves are values: each is at least its parent's
pub least_are_values : (wide high : ℕ) (leaves : List ℕ) → IsShape wide high → length leaves ≡ wide * high → AreValues wide high (least_leaf wide high leaves)
least_are_values wide high leaves s all n lt =
    least_from-less (way wide high) n (parent wide high n) 0 leaves
    (λ l le l_lt h. passes-parent (parent wide high) (root wide high) l (way wide high l) (way_is wide high l s (omega arith)) n lt h)

-- where only its own way passes a leaf, the least leaf is that leaf
least_past : (ways : ℕ → List ℕ) (n first : ℕ) (leaves : List ℕ) → n < first → ((l : ℕ) → first ≤ l → l < first + length leaves → passes n (ways l) ≡ (l == n)) →
    least_from ways n first leaves ≡ 2 ^ 32 - 1
least_past ways n first [] lt own = refl
least_past ways n first (leaf ∷ leaves) lt own =
    let no : passes n (ways first) ≡ false = own first (omega arith) (omega arith) ∙ ne_eqb first n (λ e. omega arith) in
    ap (λ (b : Bool). cond b (min leaf (least_from ways n (first + 1) leaves)) (least_from ways n (first + 1) leaves)) no
    ∙ least_past ways n (first + 1) leaves (omega arith) (λ l le l_lt. own l (omega arith) (omega arith))

least_own : (ways : ℕ → List ℕ) (first k : ℕ) (leaves : List ℕ) → k < length leaves → ((i : ℕ) → get_or leaves i 0 < 2 ^ 32) →
    ((l : ℕ) → first ≤ l → l < first + length leaves → passes (first + k) (ways l) ≡ (l == first + k)) → least_from ways (first + k) first leaves ≡ get_or leaves k 0
least_own ways first k [] lt fit own = absurd (omega arith)
least_own ways first zero (leaf ∷ leaves) lt fit own =
    let here : first + 0 ≡ first = omega arith in
    let yes : passes (first + 0) (ways first) ≡ true = own first (omega arith) (omega arith) ∙ ap (λ (q : ℕ). first == q) here ∙ eq-eqb first first refl in
    let rest : least_from ways (first + 0) (first + 1) leaves ≡ 2 ^ 32 - 1 = least_past ways (first + 0) (first + 1) leaves (omega arith) (λ l le l_lt. own l (omega arith) (omega arith)) in
    let fits : leaf < 2 ^ 32 = fit 0 in
    let least : min leaf (2 ^ 32 - 1) ≡ leaf = omega arith in
    ap (λ (b : Bool). cond b (min leaf (least_from ways (first + 0) (first + 1) leaves)) (least_from ways (first + 0) (first + 1) leaves)) yes
    ∙ ap (λ (q : ℕ). min leaf q) rest ∙ least
least_own ways first (suc k) (leaf ∷ leaves) lt fit own =
    let no : passes (first + suc k) (ways first) ≡ false = own first (omega arith) (omega arith) ∙ ne_eqb first (first + suc k) (λ e. omega arith) in
    let shift : first + suc k ≡ first + 1 + k = omega arith in
    ap (λ (b : Bool). cond b (min leaf (least_from ways (first + suc k) (first + 1) leaves)) (least_from ways (first + suc k) (first + 1) leaves)) no
    ∙ ap (λ (q : ℕ). least_from ways q (first + 1) leaves) shift
    ∙ least_own ways (first + 1) k leaves (omega arith) (λ i. fit (suc i)) (λ l le l_lt. subst (λ (q : ℕ). passes q (ways l) ≡ (l == q)) shift (own l (omega arith) (omega arith)))

-- the value of a leaf is the leaf
pub least_of_leaf : (wide high : ℕ) (leaves : List ℕ) (l : ℕ) → IsShape wide high → length leaves ≡ wide * high → ((i : ℕ) → get_or leaves i 0 < 2 ^ 32) → l < wide * high →
    least_leaf wide high leaves l ≡ get_or leaves l 0
least_of_leaf wide high leaves l s all fit lt =
    let same : 0 + l ≡ l = omega arith in
    ap (λ (q : ℕ). least_from (way wide high) q 0 leaves) (sym same)
    ∙ least_own (way wide high) 0 l leaves (omega arith) fit (λ k le k_lt. passes-leaf wide high k (0 + l) s (omega arith) (omega arith))

-- ---- the values, leaf by leaf
-- what is true of the values after some of the leaves
pub record Lowered (wide high : ℕ) (leaves : List ℕ) (count : ℕ) (values : List ℕ) : Type 0 where
  pub long : length values ≡ root wide high + 1
  pub fit : (n : ℕ) → get_or values n 0 ≤ 2 ^ 32 - 1
  pub each : (n : ℕ) → n ≤ root wide high → min (get_or values n 0) (least_from (way wide high) n count (drop count leaves)) ≡ least_leaf wide high leaves n

pub lowered_begin : (wide high : ℕ) (leaves values : List ℕ) → length values ≡ root wide high + 1 → ((n : ℕ) → n ≤ root wide high → get_or values n 0 ≡ 2 ^ 32 - 1) → Lowered wide high leaves 0 values
lowered_begin wide high leaves values long top = record {
  long = long;
  fit = λ n. elim (cases_lt n (length values)) [
    | inl lt ↦ (let e : get_or values n 0 ≡ 2 ^ 32 - 1 = top n (omega arith) in omega arith)
    | inr ge ↦ (let e : get_or values n 0 ≡ 0 = get_or_past values n 0 ge in omega arith)
  ];
  each = λ n le. (let e : get_or values n 0 ≡ 2 ^ 32 - 1 = top n le in let h : least_from (way wide high) n 0 leaves ≤ 2 ^ 32 - 1 = least_from-le (way wide high) n 0 leaves in omega arith);
}

pub lowered_end : (wide high : ℕ) (leaves : List ℕ) (count : ℕ) (values : List ℕ) → length leaves ≤ count → Lowered wide high leaves count values → AreNodeValues wide high leaves values
lowered_end wide high leaves count values all l = record {
  long = l.long;
  each = λ n le. (let none : drop count leaves ≡ [] = drop_all count leaves all in
      let h : min (get_or values n 0) (least_from (way wide high) n count (drop count leaves)) ≡ least_leaf wide high leaves n = l.each n le in
      let h' : min (get_or values n 0) (2 ^ 32 - 1) ≡ least_leaf wide high leaves n = subst (λ (r : List ℕ). min (get_or values n 0) (least_from (way wide high) n count r) ≡ least_leaf wide high leaves n) none h in
      let f : get_or values n 0 ≤ 2 ^ 32 - 1 = l.fit n in omega arith);
}

-- the tree has at least its leaves
pub leaves_le : (wide high : ℕ) → IsShape wide high → wide * high ≤ root wide high + 1
leaves_le wide high s =
    let some : 1 ≤ wide * high = s.some in
    let lt : wide * high - 1 < wide * high = omega arith in
    let le : wide * high - 1 ≤ root wide high = way_le (parent wide high) (root wide high) (wide * high - 1) (way wide high (wide * high - 1)) (way_is wide high (wide * high - 1) s lt) in
    omega arith

-- the first values are the leaves
pub leaves_first : (wide high : ℕ) (leaves values : List ℕ) → IsShape wide high → length leaves ≡ wide * high → ((i : ℕ) → get_or leaves i 0 < 2 ^ 32) → AreNodeValues wide high leaves values →
    leaves_in wide high values ≡ leaves
leaves_first wide high leaves values s all fit v =
    let long : length values ≡ root wide high + 1 = v.long in
    let most : wide * high ≤ root wide high + 1 = leaves_le wide high s in
    let size : length (take (wide * high) values) ≡ wide * high = length-take-le (wide * high) values (omega arith) in
    same_number_lists (take (wide * high) values) leaves (size ∙ sym all)
    (λ k lt. (let k_lt : k < wide * high = omega arith in
    get_or-take (wide * high) values k 0 k_lt ∙ v.each k (omega arith) ∙ least_of_leaf wide high leaves k s all fit k_lt))

-- ---- calls
pub all_highest : (wide high : ℕ) (leaves : List ℕ) (count : ℕ) (values : List ℕ) → count ≡ root wide high + 1 → values ≡ replicate count (2 ^ 32 - 1) → Lowered wide high leaves 0 values
all_highest wide high leaves count values size e = lowered_begin wide high leaves values (ap length e ∙ length-replicate count (2 ^ 32 - 1) ∙ size)
    (λ n le. ap (λ (l : List ℕ). get_or l n 0) e ∙ get_or-replicate count n (2 ^ 32 - 1) 0 (omega arith))

pub way_range : (wide high leaf : ℕ) (ways values : List ℕ) → IsShape wide high → leaf < wide * high → ways ≡ way wide high leaf → length values ≡ root wide high + 1 →
    (k : ℕ) → k < length ways → get_or ways k 0 < length values
way_range wide high leaf ways values s lt e long k k_lt =
    let le : get_or ways k 0 ≤ root wide high = way_under (parent wide high) (root wide high) leaf ways (subst (λ (w : List ℕ). IsWay (parent wide high) (root wide high) leaf w) (sym e) (way_is wide high leaf s lt)) k k_lt in
    omega arith

pub made_keeps : (wide high : ℕ) (leaves values : List ℕ) (nodes : List Node) → IsShape wide high → length leaves ≡ wide * high → ((i : ℕ) → get_or leaves i 0 < 2 ^ 32) → AreNodeValues wide high leaves values →
    length nodes ≡ root wide high + 1 → KeepsLeaves wide high values nodes
made_keeps wide high leaves values nodes s all fit v long = record {
  shape = s;
  long = long;
  are_values = subst (λ (l : List ℕ). AreNodeValues wide high l values) (sym (leaves_first wide high leaves values s all fit v)) v;
}

abbrev pub written_of : ℕ → ℕ → List ℕ → List Node → Written
written_of wide high leaves nodes = record { leaves = leaves; tree = record { wide = wide; high = high; nodes = nodes } }

module _ (wide high leaf t : ℕ) (values : List ℕ) (nodes : List Node) (keeps : KeepsLeaves wide high values nodes) (tree : Written) (view : written_of wide high (leaves_in wide high values) nodes ≡ tree)
    (inside : leaf < tree.tree.wide * tree.tree.high) (ways : List ℕ) (ways_are : ways ≡ way wide high leaf) where
  inside_it : leaf < wide * high
  inside_it = subst (λ (w : Written). leaf < w.tree.wide * w.tree.high) (sym view) inside

  pub told_nodes : (k : ℕ) → k < length ways → get_or ways k 0 < length nodes
  told_nodes = way_range' wide high leaf ways nodes keeps.shape inside_it ways_are keeps.long
    where
      way_range' : (wide high leaf : ℕ) (ways : List ℕ) (values : List Node) → IsShape wide high → leaf < wide * high → ways ≡ way wide high leaf → length values ≡ root wide high + 1 →
          (k : ℕ) → k < length ways → get_or ways k 0 < length values
      way_range' wide high leaf ways values s lt e long k k_lt =
          let le : get_or ways k 0 ≤ root wide high = way_under (parent wide high) (root wide high) leaf ways (subst (λ (w : List ℕ). IsWay (parent wide high) (root wide high) leaf w) (sym e) (way_is wide high leaf s lt)) k k_lt in
          omega arith

  pub told_values : (slice : List ℕ) → slice ≡ values → (k : ℕ) → k < length ways → get_or ways k 0 < length slice
  told_values slice e = subst (λ (l : List ℕ). (k : ℕ) → k < length ways → get_or ways k 0 < length l) (sym e) (way_range wide high leaf ways values keeps.shape inside_it ways_are keeps.are_values.long)

  pub told_is : (slice : List ℕ) → slice ≡ values → walk (λ n. get_or slice n 0) t nodes ways ≡ told tree leaf t
  told_is slice e =
      walk-same (λ n. get_or slice n 0) (least_leaf wide high (leaves_in wide high values)) t nodes ways
      (λ k lt. ap (λ (l : List ℕ). get_or l (get_or ways k 0) 0) e ∙ keeps.are_values.each (get_or ways k 0)
      (let lt' : get_or ways k 0 < length values = told_values values refl k lt in let long : length values ≡ root wide high + 1 = keeps.are_values.long in omega arith))
      ∙ ap (walk (least_leaf wide high (leaves_in wide high values)) t nodes) ways_are
      ∙ ap (λ (w : Written). told w leaf t) view

  pub told_keeps : (new : List Node) → length new ≡ length nodes → KeepsLeaves wide high values new
  told_keeps new e = record { shape = keeps.shape; long = e ∙ keeps.long; are_values = keeps.are_values }

  pub told_after_is : (slice : List ℕ) → slice ≡ values → (new : List Node) → new ≡ (walk (λ n. get_or slice n 0) t nodes ways).nodes → written_of wide high (leaves_in wide high values) new ≡ told_after tree leaf t
  told_after_is slice e new h =
      ap (written_of wide high (leaves_in wide high values)) (h ∙ ap (λ (w : Walk). w.nodes) (told_is slice e))
      ∙ ap (λ (w : Written). written_of w.tree.wide w.tree.high w.leaves (told tree leaf t).nodes) view

-- ---- each node has a leaf under it
-- a child of a node of the level above
child : (l : Level) (p : ℕ) → 1 ≤ l.wide → InLevel (over l) p → (q : ℕ) × InLevel l q × (parent_at l q ≡ p)
child l p some_wide i =
    let above : ℕ = (over l).first in
    let half : ℕ = (l.wide + 1) / 2 in
    let row : ℕ = (p - above) / half in
    let column : ℕ = (p - above) % half in
    let first : above ≤ p = i.first in
    let last : p < above + half * ((l.high + 1) / 2) = i.last in
    let half_pos : 0 < half = omega arith in
    let turned : half * ((l.high + 1) / 2) ≡ (l.high + 1) / 2 * half = omega arith in
    let place : p - above < (l.high + 1) / 2 * half = omega arith in
    let row_lt : row < (l.high + 1) / 2 = div_below (p - above) half ((l.high + 1) / 2) half_pos place in
    let column_lt : column < half = mod_below (p - above) half half_pos in
    let row2 : 2 * row < l.high = omega arith in
    let column2 : 2 * column < l.wide = omega arith in
    let inside : 2 * row * l.wide + 2 * column < l.wide * l.high = mul-add-lt (2 * row) l.wide (2 * column) l.high row2 column2 in
    let q : ℕ = l.first + (2 * row * l.wide + 2 * column) in
    let cell : q - l.first ≡ 2 * row * l.wide + 2 * column = omega arith in
    let row_is : (q - l.first) / l.wide / 2 ≡ row =
    ap (λ (c : ℕ). c / l.wide / 2) cell ∙ ap (λ (r : ℕ). r / 2) (div-mul-add (2 * row) l.wide (2 * column) column2) ∙ half_of row in
    let column_is : (q - l.first) % l.wide / 2 ≡ column =
    ap (λ (c : ℕ). c % l.wide / 2) cell ∙ ap (λ (r : ℕ). r / 2) (mod-mul-add (2 * row) l.wide (2 * column) column2) ∙ half_of column in
    let whole : row * half + column ≡ p - above = div-add-mod' (p - above) half in
    let back : above + row * half + column ≡ p = omega arith in (
      q,
      record { first = omega arith; last = omega arith },
      ap (λ (r : ℕ). above + r * half + (q - l.first) % l.wide / 2) row_is ∙ ap (λ (k : ℕ). above + row * half + k) column_is ∙ back,
    )
  where
    half_of : (n : ℕ) → 2 * n / 2 ≡ n
    half_of n = omega arith

passes-own : (m : ℕ) (l : Level) (n : ℕ) → passes n (way_from m l n) ≡ true
passes-own zero l n = ap (λ (b : Bool). b || false) (eq-eqb n n refl)
passes-own (suc m) l n = by (is_root l)
  where
    by : (b : Bool) → passes n (cond b (n ∷ []) (n ∷ way_from m (over l) (parent_at l n))) ≡ true
    by true = ap (λ (c : Bool). c || false) (eq-eqb n n refl)
    by false = ap (λ (c : Bool). c || passes n (way_from m (over l) (parent_at l n))) (eq-eqb n n refl)

-- a node from a level on is on the way of a node of that level
has_under : (m : ℕ) (l : Level) (n : ℕ) → IsLevel m l → l.first ≤ n → n ≤ root_from m l → (q : ℕ) × InLevel l q × (passes n (way_from m l q) ≡ true)
has_under zero l n s le top =
    let e : n ≡ l.first = omega arith in
    let some : 1 * 1 ≤ l.wide * l.high = mul-le 1 1 l.wide l.high s.some_wide s.some_high in
    (n, record { first = le; last = omega arith }, passes-own zero l n)
has_under (suc m) l n s le top =
    elim (cases_lt n (over l).first) [
      | inl lt ↦ (n, record { first = le; last = lt }, passes-own (suc m) l n)
      | inr ge ↦ by (is_root l) refl ge (λ t. has_under m (over l) n (IsLevel-over m l s) ge t)
    ]
  where
    some : 1 ≤ l.wide * l.high
    some = mul-le 1 1 l.wide l.high s.some_wide s.some_high

    by : (b : Bool) → is_root l ≡ b → (over l).first ≤ n → (n ≤ root_from m (over l) → (q : ℕ) × InLevel (over l) q × (passes n (way_from m (over l) q) ≡ true)) →
        (q : ℕ) × InLevel l q × (passes n (way_from (suc m) l q) ≡ true)
    by true e ge again =
        let t : n ≤ l.first = subst (λ (b : Bool). n ≤ cond b l.first (root_from m (over l))) e top in
        let size : 1 ≤ l.wide * l.high = some in
        absurd (omega arith)
    by false e ge again =
        let t : n ≤ root_from m (over l) = subst (λ (b : Bool). n ≤ cond b l.first (root_from m (over l))) e top in
        let r = again t in
        let c = child l r.0 s.some_wide r.1 in
        let rest : passes n (way_from m (over l) (parent_at l c.0)) ≡ true = subst (λ (p : ℕ). passes n (way_from m (over l) p) ≡ true) (sym c.2) r.2 in
        (c.0, c.1, ap (passes n) (way_next m l c.0 e) ∙ or_right (c.0 == n) (passes n (way_from m (over l) (parent_at l c.0))) rest)

-- a leaf is under each node
leaf_under : (wide high n : ℕ) → IsShape wide high → n ≤ root wide high → (l : ℕ) × (l < wide * high) × (passes n (way wide high l) ≡ true)
unfolding root
leaf_under wide high n s le =
    let r = has_under 22 (base wide high) n (IsLevel-base wide high s) (omega arith) le in
    let last : r.0 < 0 + wide * high = r.1.last in
    (r.0, omega arith, ap (passes n) (sym (way_begin wide high r.0)) ∙ r.2)

-- ---- the least leaf is the least
least_none_below : (ways : ℕ → List ℕ) (n first k : ℕ) (leaves : List ℕ) → k < length leaves → passes n (ways (first + k)) ≡ true → least_from ways n first leaves ≤ get_or leaves k 0
least_none_below ways n first k [] lt h = absurd (omega arith)
least_none_below ways n first zero (leaf ∷ leaves) lt h =
    let here : passes n (ways first) ≡ true = subst (λ (q : ℕ). passes n (ways q) ≡ true) (let e : first + 0 ≡ first = omega arith in e) h in
    subst (λ (b : Bool). cond b (min leaf (least_from ways n (first + 1) leaves)) (least_from ways n (first + 1) leaves) ≤ leaf) (sym here) (omega arith)
least_none_below ways n first (suc k) (leaf ∷ leaves) lt h =
    by (passes n (ways first)) (least_none_below ways n (first + 1) k leaves (omega arith)
    (subst (λ (q : ℕ). passes n (ways q) ≡ true) (let e : first + suc k ≡ first + 1 + k = omega arith in e) h))
  where
    by : (b : Bool) → least_from ways n (first + 1) leaves ≤ get_or leaves k 0 → cond b (min leaf (least_from ways n (first + 1) leaves)) (least_from ways n (first + 1) leaves) ≤ get_or leaves k 0
    by true le = omega arith
    by false le = le

-- a leaf's own isn't above it
pub least_le_leaf : (wide high : ℕ) (leaves : List ℕ) (l : ℕ) → IsShape wide high → length leaves ≡ wide * high → l < wide * high → least_leaf wide high leaves l ≤ get_or leaves l 0
least_le_leaf wide high leaves l s all lt =
    least_none_below (way wide high) l 0 l leaves (omega arith)
    (subst (λ (q : ℕ). passes l (way wide high q) ≡ true) (let e : l ≡ 0 + l = omega arith in e)
    (passes-first (parent wide high) (root wide high) l (way wide high l) (way_is wide high l s lt)))

-- it is one of them, or none is below the largest number of 32 bits
least_one : (ways : ℕ → List ℕ) (n first : ℕ) (leaves : List ℕ) →
    ((k : ℕ) × (k < length leaves) × (passes n (ways (first + k)) ≡ true) × (least_from ways n first leaves ≡ get_or leaves k 0)) ⊎ (least_from ways n first leaves ≡ 2 ^ 32 - 1)
least_one ways n first [] = inr refl
least_one ways n first (leaf ∷ leaves) = by (passes n (ways first)) refl (least_one ways n (first + 1) leaves)
  where
    by : (b : Bool) → passes n (ways first) ≡ b →
        ((k : ℕ) × (k < length leaves) × (passes n (ways (first + 1 + k)) ≡ true) × (least_from ways n (first + 1) leaves ≡ get_or leaves k 0)) ⊎ (least_from ways n (first + 1) leaves ≡ 2 ^ 32 - 1) →
        ((k : ℕ) × (k < length (leaf ∷ leaves)) × (passes n (ways (first + k)) ≡ true)
        × (cond b (min leaf (least_from ways n (first + 1) leaves)) (least_from ways n (first + 1) leaves) ≡ get_or (leaf ∷ leaves) k 0))
        ⊎ (cond b (min leaf (least_from ways n (first + 1) leaves)) (least_from ways n (first + 1) leaves) ≡ 2 ^ 32 - 1)
    by false e (inr h) = inr h
    by false e (inl f) = inl (suc f.0, (let lt : f.0 < length leaves = f.1 in omega arith), subst (λ (q : ℕ). passes n (ways q) ≡ true) (let e : first + 1 + f.0 ≡ first + suc f.0 = omega arith in e) f.2, f.3)
    by true e (inr h) = elim (cases_lt leaf (2 ^ 32)) [
      | inl lt ↦ inl (0, omega arith, subst (λ (q : ℕ). passes n (ways q) ≡ true) (let e : first ≡ first + 0 = omega arith in e) e, omega arith)
      | inr ge ↦ inr (omega arith)
    ]
    by true e (inl f) = elim (cases_lt leaf (least_from ways n (first + 1) leaves)) [
      | inl lt ↦ inl (0, omega arith, subst (λ (q : ℕ). passes n (ways q) ≡ true) (let e : first ≡ first + 0 = omega arith in e) e, omega arith)
      | inr ge ↦ inl (
        suc f.0,
        (let lt : f.0 < length leaves = f.1 in omega arith),
        subst (λ (q : ℕ). passes n (ways q) ≡ true) (let e : first + 1 + f.0 ≡ first + suc f.0 = omega arith in e) f.2,
        (let h : least_from ways n (first + 1) leaves ≡ get_or leaves f.0 0 = f.3 in omega arith),
      )
    ]

pub is_least : (wide high : ℕ) (leaves : List ℕ) (n : ℕ) → AreLeaves wide high leaves → n ≤ root wide high → IsLeast wide high leaves n (least_leaf wide high leaves n)
is_least wide high leaves n a le =
    let all : length leaves ≡ wide * high = a.all in
    let u = leaf_under wide high n a.shape le in
    let none : (l : ℕ) → l < wide * high → passes n (way wide high l) ≡ true → least_leaf wide high leaves n ≤ get_or leaves l 0 =
    λ l lt h. least_none_below (way wide high) n 0 l leaves (omega arith) (subst (λ (q : ℕ). passes n (way wide high q) ≡ true) (let e : l ≡ 0 + l = omega arith in e) h) in
    elim (least_one (way wide high) n 0 leaves) [
      | inl f ↦ record {
        none_below = none;
        leaf = f.0;
        inside = (let lt : f.0 < length leaves = f.1 in omega arith);
        under = subst (λ (q : ℕ). passes n (way wide high q) ≡ true) (let e : 0 + f.0 ≡ f.0 = omega arith in e) f.2;
        same = f.3;
      }
      | inr h ↦ record {
        none_below = none;
        leaf = u.0;
        inside = u.1;
        under = u.2;
        same = (let le' : least_leaf wide high leaves n ≤ get_or leaves u.0 0 = none u.0 u.1 u.2 in let fit : get_or leaves u.0 0 < 2 ^ 32 = a.fit u.0 in
            let top : least_leaf wide high leaves n ≡ 2 ^ 32 - 1 = h in omega arith);
      }
    ]
