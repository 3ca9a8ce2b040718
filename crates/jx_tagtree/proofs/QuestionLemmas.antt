-- Laws of queries.
use Rattle.std.proofs.Common.{◌≡◌, ◌&&◌, ◌||◌, ◌⊎◌, set, ℕ, zero, suc, ◌+◌, ◌*◌, ◌<◌, ◌≤◌, max, nat_lt, nat_le, Bool, true, false, List, [], ◌∷◌, ◌++◌, length, get_or, map, replicate, refl, sym, ap, ◌∙◌, subst, cond, arith, append_assoc, Some, inl, inr}
use Rattle.std.proofs.lemmas.List.{append_cancel_right, length-replicate, get_or-replicate, get_or_past, set-get_or}
use Rattle.std.proofs.lemmas.Bool.{cases_Bool, cases_lt, cases_eq}
use Rattle.std.proofs.lemmas.Bool.Decides.{nat_tests}
use Rattle.jx_tagtree.specs.declared.node.Node.{Node}
use Rattle.jx_tagtree.specs.Shape.{IsShape, root, parent, way}
use Rattle.jx_tagtree.specs.TagTree.{unknown, node_at, IsValueOf, Tree, query, tree_after, fresh, AreValues, ValuesOf, IsTree, Walk, walk, step, is_told, node_after, Agree, HasNothing}
use Rattle.jx_tagtree.specs.Past.{Stops, IsPast}
use Rattle.jx_tagtree.specs.Scan.{Scanned, scan_way}
use Rattle.jx_tagtree.specs.Leaves.{least_leaf, AreLeaves}
use Rattle.jx_tagtree.specs.Questions.{Question, all_bits, after_all, answers, AreAtLeaves, OneReading, AreReadBack}
use Rattle.jx_tagtree.proofs.WayLemmas.{IsWay, at_top, under, way_is}
use Rattle.jx_tagtree.proofs.TagLemmas.{Sound, Rising, After, scan_sound, IsRead, scan_only, answer_is, scanned_of, unsettled_under, walk_at, walked, told_node, told_bits, stepped_is, way_head, at_other}
use Rattle.jx_tagtree.proofs.LeafLemmas.{least_are_values, least_of_leaf}

-- ---- nothing known
unknown_at : (count n : ℕ) → node_at (replicate count unknown) n ≡ unknown
unknown_at count n = elim (cases_lt n count) [
  | inl lt ↦ get_or-replicate count n unknown unknown lt
  | inr ge ↦ get_or_past (replicate count unknown) n unknown (let e : length (replicate count unknown) ≡ count = length-replicate count unknown in omega arith)
]

pub fresh_tree : (wide high : ℕ) → IsTree (fresh wide high)
fresh_tree wide high = record {
  nodes = length-replicate (root wide high + 1) unknown;
  sound = λ n lt settled. absurd (let e : (node_at (replicate (root wide high + 1) unknown) n).settled ≡ false = ap (λ (y : Node). y.settled) (unknown_at (root wide high + 1) n) in
      let f : true ≡ false = sym settled ∙ e in cc);
}

pub fresh_values : (wide high : ℕ) (values : ℕ → ℕ) → AreValues wide high values → ValuesOf (fresh wide high) values
fresh_values wide high values v = record {
  are = v;
  agree = λ n. subst (λ (y : Node). IsValueOf y (values n)) (sym (unknown_at (root wide high + 1) n)) (record { known = omega arith; settled = λ e. absurd cc });
}

-- ---- values of what is known
-- the largest number that is known
greatest : List Node → ℕ
greatest [] = 0
greatest (node ∷ nodes) = max node.known (greatest nodes)

greatest-ge : (nodes : List Node) (n : ℕ) → (node_at nodes n).known ≤ greatest nodes
unfolding greatest
greatest-ge [] n = omega arith
greatest-ge (node ∷ nodes) zero = omega arith
greatest-ge (node ∷ nodes) (suc n) = let h : (node_at nodes n).known ≤ greatest nodes = greatest-ge nodes n in omega arith

-- a settled node has its value, any other the largest
completed : List Node → ℕ → ℕ
completed nodes n = cond (node_at nodes n).settled (node_at nodes n).known (greatest nodes)

completed-settled : (nodes : List Node) (n : ℕ) → (node_at nodes n).settled ≡ true → completed nodes n ≡ (node_at nodes n).known
unfolding completed
completed-settled nodes n e = ap (λ (b : Bool). cond b (node_at nodes n).known (greatest nodes)) e

completed-other : (nodes : List Node) (n : ℕ) → (node_at nodes n).settled ≡ false → completed nodes n ≡ greatest nodes
unfolding completed
completed-other nodes n e = ap (λ (b : Bool). cond b (node_at nodes n).known (greatest nodes)) e

completed-le : (nodes : List Node) (n : ℕ) → completed nodes n ≤ greatest nodes
completed-le nodes n = elim (cases_Bool (node_at nodes n).settled) [
  | inl e ↦ (let s : completed nodes n ≡ (node_at nodes n).known = completed-settled nodes n e in let h : (node_at nodes n).known ≤ greatest nodes = greatest-ge nodes n in omega arith)
  | inr e ↦ (let s : completed nodes n ≡ greatest nodes = completed-other nodes n e in omega arith)
]

pub known_values : (tree : Tree) → IsTree tree → (values : ℕ → ℕ) × ValuesOf tree values
known_values tree is = (
  completed tree.nodes,
  record {
    are = λ n lt. elim (cases_Bool (node_at tree.nodes n).settled) [
      | inl e ↦
          (let s = is.sound n lt e in
          let here : completed tree.nodes n ≡ (node_at tree.nodes n).known = completed-settled tree.nodes n e in
          let up : completed tree.nodes (parent tree.wide tree.high n) ≡ (node_at tree.nodes (parent tree.wide tree.high n)).known = completed-settled tree.nodes (parent tree.wide tree.high n) s.0 in
          let le : (node_at tree.nodes (parent tree.wide tree.high n)).known ≤ (node_at tree.nodes n).known = s.1 in
          omega arith)
      | inr e ↦
          (let here : completed tree.nodes n ≡ greatest tree.nodes = completed-other tree.nodes n e in
          let le : completed tree.nodes (parent tree.wide tree.high n) ≤ greatest tree.nodes = completed-le tree.nodes (parent tree.wide tree.high n) in
          omega arith)
    ];
    agree = λ n. elim (cases_Bool (node_at tree.nodes n).settled) [
      | inl e ↦
          (let here : completed tree.nodes n ≡ (node_at tree.nodes n).known = completed-settled tree.nodes n e in
          record { known = omega arith; settled = λ h. sym here })
      | inr e ↦
          (let here : completed tree.nodes n ≡ greatest tree.nodes = completed-other tree.nodes n e in
          let le : (node_at tree.nodes n).known ≤ greatest tree.nodes = greatest-ge tree.nodes n in
          record { known = omega arith; settled = λ h. absurd (let f : true ≡ false = sym h ∙ e in cc) })
    ];
  },
)

-- ---- one query
module _ (tree : Tree) (leaf t : ℕ) (shape : IsShape tree.wide tree.high) (is : IsTree tree) (inside : leaf < tree.wide * tree.high) where
  ways : IsWay (parent tree.wide tree.high) (root tree.wide tree.high) leaf (way tree.wide tree.high leaf)
  ways = way_is tree.wide tree.high leaf shape inside

  long : root tree.wide tree.high < length tree.nodes
  long = let e : length tree.nodes ≡ root tree.wide tree.high + 1 = is.nodes in omega arith

  -- the bits of values, with others behind, are read as those of these values
  reads : (values : ℕ → ℕ) → ValuesOf tree values → (rest : List Bool) →
      IsRead values t tree.nodes leaf (way tree.wide tree.high leaf) ((query values tree leaf t).bits ++ rest) rest
  reads values v rest = scan_only (parent tree.wide tree.high) (root tree.wide tree.high) t tree.nodes leaf (way tree.wide tree.high leaf) ways long values v.are v.agree
      ((query values tree leaf t).bits ++ rest) rest refl

  after : (values : ℕ → ℕ) → ValuesOf tree values → After (parent tree.wide tree.high) (root tree.wide tree.high) t tree.nodes leaf
      (scanned_of (query values tree leaf t).nodes (query values tree leaf t).known [])
  after values v = scan_sound (parent tree.wide tree.high) (root tree.wide tree.high) t tree.nodes ((query values tree leaf t).bits ++ []) leaf (way tree.wide tree.high leaf) ways long is.sound
      (scanned_of (query values tree leaf t).nodes (query values tree leaf t).known []) (reads values v []).reads

  pub after_tree : (values : ℕ → ℕ) → ValuesOf tree values → IsTree (tree_after values tree leaf t)
  after_tree values v = record { nodes = (after values v).long ∙ is.nodes; sound = (after values v).sound }

  pub after_values : (values : ℕ → ℕ) → ValuesOf tree values → ValuesOf (tree_after values tree leaf t) values
  after_values values v = record { are = v.are; agree = (reads values v []).agree }

  answer_of : (values : ℕ → ℕ) → ValuesOf tree values →
      ((node_at (query values tree leaf t).nodes leaf).settled && nat_lt (query values tree leaf t).known t) ≡ nat_lt (values leaf) t
  answer_of values v =
      let a = after values v in
      let r = reads values v [] in
      answer_is t (node_at (query values tree leaf t).nodes leaf) (query values tree leaf t).known (values leaf) (r.agree leaf) r.below a.known_is a.ended

  -- two readings are one
  pub one_query : (values others : ℕ → ℕ) → ValuesOf tree values → ValuesOf tree others → (rest behind : List Bool) →
      (query values tree leaf t).bits ++ rest ≡ (query others tree leaf t).bits ++ behind →
      ((query values tree leaf t).bits ≡ (query others tree leaf t).bits) × (nat_lt (values leaf) t ≡ nat_lt (others leaf) t)
      × (tree_after values tree leaf t ≡ tree_after others tree leaf t) × (rest ≡ behind)
  one_query values others v w rest behind same =
      let first = (reads values v rest).reads in
      let second = (reads others w behind).reads in
      let one : Some (scanned_of (query values tree leaf t).nodes (query values tree leaf t).known rest) ≡ Some (scanned_of (query others tree leaf t).nodes (query others tree leaf t).known behind) =
      sym first ∙ ap (scan_way t tree.nodes (way tree.wide tree.high leaf)) same ∙ second in
      let equal : scanned_of (query values tree leaf t).nodes (query values tree leaf t).known rest ≡ scanned_of (query others tree leaf t).nodes (query others tree leaf t).known behind = cc in
      let nodes : (query values tree leaf t).nodes ≡ (query others tree leaf t).nodes = ap (λ (s : Scanned). s.nodes) equal in
      let known : (query values tree leaf t).known ≡ (query others tree leaf t).known = ap (λ (s : Scanned). s.known) equal in
      let rests : rest ≡ behind = ap (λ (s : Scanned). s.rest) equal in (
        append_cancel_right (query values tree leaf t).bits (query others tree leaf t).bits rest (same ∙ ap (λ (l : List Bool). (query others tree leaf t).bits ++ l) (sym rests)),
        sym (answer_of values v)
            ∙ ap (λ (l : List Node). (node_at l leaf).settled && nat_lt (query values tree leaf t).known t) nodes
            ∙ ap (λ (k : ℕ). (node_at (query others tree leaf t).nodes leaf).settled && nat_lt k t) known
            ∙ answer_of others w,
        ap (λ (l : List Node). let r : Tree = record { wide = tree.wide; high = tree.high; nodes = l } in r) nodes,
        rests,
      )

-- ---- a query past the root
record Nothing (values : ℕ → ℕ) (t : ℕ) (nodes : List Node) (n : ℕ) (ways : List ℕ) : Type 0 where
  bits : (walk values t nodes ways).bits ≡ []
  nodes_are : (walk values t nodes ways).nodes ≡ nodes
  reached : t ≤ (walk values t nodes ways).known
  closed : (node_at nodes n).settled ≡ false
  least : t ≤ values n

-- a node that is settled has no bits
settled_step : (values : ℕ → ℕ) (t n : ℕ) (nodes : List Node) (known : ℕ) → (node_at nodes n).settled ≡ true → step values t n (walked nodes known) ≡ walked nodes (max known (node_at nodes n).known)
settled_step values t n nodes known settled =
    let node : Node = node_at nodes n in
    let start : ℕ = max node.known known in
    let told : is_told node start t ≡ true = ap (λ (b : Bool). b || nat_le t start) settled in
    ap (λ (b : Bool). walk_at (set nodes n (told_node b node start (values n) t)) (max known (told_node b node start (values n) t).known) (told_bits b start (values n) t)) told
    ∙ ap (λ (l : List Node). walked l (max known node.known)) (set-get_or nodes n unknown)

-- nor have those over it
settled_way : (up : ℕ → ℕ) (top t : ℕ) (values : ℕ → ℕ) (nodes : List Node) (n : ℕ) (ways : List ℕ) → IsWay up top n ways → Sound up top nodes → (node_at nodes n).settled ≡ true →
    (known : ℕ) × (walk values t nodes ways ≡ walked nodes known)
settled_way up top t values nodes _ _ at_top sound settled = (max 0 (node_at nodes top).known, settled_step values t top nodes 0 settled)
settled_way up top t values nodes _ _ (under {n} {over} lt w) sound settled =
    let above = settled_way up top t values nodes (up n) over w sound (sound n lt settled).0 in
    (max above.0 (node_at nodes n).known, ap (step values t n) above.1 ∙ settled_step values t n nodes above.0 settled)

stop_way : (up : ℕ → ℕ) (top t : ℕ) (values : ℕ → ℕ) (nodes : List Node) (n : ℕ) (ways : List ℕ) → IsWay up top n ways → Sound up top nodes → Rising up top values → Agree values nodes →
    (k : ℕ) → Stops nodes ways k t → Nothing values t nodes n ways
stop_way up top t values nodes _ _ at_top sound rising agree zero st =
    let unsettled : (node_at nodes top).settled ≡ false = st.unsettled in
    let reached : t ≤ (node_at nodes top).known = st.reached in
    let s = stepped_is values t top nodes 0 unsettled (omega arith) in
    let fits : IsValueOf (node_at nodes top) (values top) = agree top in
    record {
      bits = ap (λ (w : Walk). w.bits) s;
      nodes_are = ap (λ (w : Walk). w.nodes) s;
      reached = (let e : (walk values t nodes (top ∷ [])).known ≡ max 0 (node_at nodes top).known = ap (λ (w : Walk). w.known) s in omega arith);
      closed = unsettled;
      least = (let k : (node_at nodes top).known ≤ values top = fits.known in omega arith);
    }
stop_way up top t values nodes _ _ at_top sound rising agree (suc k) st = absurd (let lt : suc k < 1 = st.inside in omega arith)
stop_way up top t values nodes _ _ (under {n} {over} lt w) sound rising agree zero st =
    let head = way_head up top (up n) over w in
    let some : 0 < length over = head.1 in
    let parent_is : (node_at nodes (up n)).settled ≡ true = subst (λ (q : ℕ). (node_at nodes q).settled ≡ true) head.0 (st.over (omega arith)) in
    let above = settled_way up top t values nodes (up n) over w sound parent_is in
    let unsettled : (node_at nodes n).settled ≡ false = st.unsettled in
    let reached : t ≤ (node_at nodes n).known = st.reached in
    let s = ap (step values t n) above.1 ∙ stepped_is values t n nodes above.0 unsettled (omega arith) in
    let fits : IsValueOf (node_at nodes n) (values n) = agree n in
    record {
      bits = ap (λ (w : Walk). w.bits) s;
      nodes_are = ap (λ (w : Walk). w.nodes) s;
      reached = (let e : (walk values t nodes (n ∷ over)).known ≡ max above.0 (node_at nodes n).known = ap (λ (w : Walk). w.known) s in omega arith);
      closed = unsettled;
      least = (let k : (node_at nodes n).known ≤ values n = fits.known in omega arith);
    }
stop_way up top t values nodes _ _ (under {n} {over} lt w) sound rising agree (suc k) st =
    let inside : suc k < suc (length over) = st.inside in
    let above : Nothing values t nodes (up n) over = stop_way up top t values nodes (up n) over w sound rising agree k
    (record { inside = omega arith; unsettled = st.unsettled; reached = st.reached; over = λ (more : suc k < length over). st.over (omega arith) }) in
    let known : ℕ = (walk values t nodes over).known in
    let here : (node_at nodes n).settled ≡ false = unsettled_under up top nodes n sound lt above.closed in
    let le : t ≤ known = above.reached in
    let is : walk values t nodes over ≡ walked nodes known = ap (λ (l : List Node). walk_at l known (walk values t nodes over).bits) above.nodes_are ∙ ap (walk_at nodes known) above.bits in
    let s = ap (step values t n) is ∙ stepped_is values t n nodes known here (omega arith) in
    let rise : values (up n) ≤ values n = rising n lt in
    let least' : t ≤ values (up n) = above.least in
    record {
      bits = ap (λ (w : Walk). w.bits) s;
      nodes_are = ap (λ (w : Walk). w.nodes) s;
      reached = (let e : (walk values t nodes (n ∷ over)).known ≡ max known (node_at nodes n).known = ap (λ (w : Walk). w.known) s in omega arith);
      closed = here;
      least = omega arith;
    }

module _ (tree : Tree) (values : ℕ → ℕ) (leaf t : ℕ) (shape : IsShape tree.wide tree.high) (is : IsTree tree) (inside : leaf < tree.wide * tree.high) (v : ValuesOf tree values) (past : IsPast tree leaf t) where
  past_way : Nothing values t tree.nodes leaf (way tree.wide tree.high leaf)
  past_way = stop_way (parent tree.wide tree.high) (root tree.wide tree.high) t values tree.nodes leaf (way tree.wide tree.high leaf) (way_is tree.wide tree.high leaf shape inside) is.sound v.are v.agree past.place past.stops

  pub past_nothing : HasNothing tree values leaf t
  past_nothing =
      let low : t ≤ values leaf = past_way.least in
      record {
        bits = past_way.bits;
        after = ap (λ (l : List Node). let r : Tree = record { wide = tree.wide; high = tree.high; nodes = l } in r) past_way.nodes_are;
        answer = (let no : nat_lt (values leaf) t ≡ false = grind (arith, nat_tests) in no);
      }

  pub past_leaf : (node_at tree.nodes leaf).settled ≡ false
  past_leaf = past_way.closed

  pub past_least : t ≤ values leaf
  past_least = past_way.least

-- ---- what a query leaves as it is
told_stays : (node : Node) (start m t : ℕ) → is_told node start t ≡ true → node_after node start m t ≡ node
told_stays node start m t told = ap (λ (b : Bool). told_node b node start m t) told

told_of : (node : Node) (known t : ℕ) → (node.settled ≡ true) ⊎ (t ≤ node.known) → is_told node (max node.known known) t ≡ true
told_of node known t (inl s) = ap (λ (b : Bool). b || nat_le t (max node.known known)) s
told_of node known t (inr le) = by node.settled (let e : nat_le t (max node.known known) ≡ true = grind (arith, nat_tests) in e)
  where
    by : (b : Bool) → nat_le t (max node.known known) ≡ true → (b || nat_le t (max node.known known)) ≡ true
    by true e = refl
    by false e = e

-- a node that is settled, or reaches the threshold
pub walk_keeps : (values : ℕ → ℕ) (t : ℕ) (nodes : List Node) (ways : List ℕ) (q : ℕ) → ((node_at nodes q).settled ≡ true) ⊎ (t ≤ (node_at nodes q).known) →
    node_at (walk values t nodes ways).nodes q ≡ node_at nodes q
walk_keeps values t nodes [] q told = refl
walk_keeps values t nodes (n ∷ over) q told = elim (cases_eq q n) [
  | inl same ↦
      (let again : node_at above.nodes n ≡ node_at nodes n = subst (λ (j : ℕ). node_at above.nodes j ≡ node_at nodes j) same (walk_keeps values t nodes over q told) in
      let told' : ((node_at above.nodes n).settled ≡ true) ⊎ (t ≤ (node_at above.nodes n).known) =
      subst (λ (x : Node). (x.settled ≡ true) ⊎ (t ≤ x.known)) (sym again) (subst (λ (j : ℕ). ((node_at nodes j).settled ≡ true) ⊎ (t ≤ (node_at nodes j).known)) same told) in
      ap (λ (x : Node). node_at (set above.nodes n x) q) (told_stays (node_at above.nodes n) (max (node_at above.nodes n).known above.known) (values n) t (told_of (node_at above.nodes n) above.known t told'))
      ∙ ap (λ (l : List Node). node_at l q) (set-get_or above.nodes n unknown)
      ∙ walk_keeps values t nodes over q told)
  | inr ne ↦ at_other above.nodes n q (node_after (node_at above.nodes n) (max (node_at above.nodes n).known above.known) (values n) t) ne ∙ walk_keeps values t nodes over q told
]
  where
    above : Walk
    above = walk values t nodes over

pub settled_stays : (tree : Tree) (values : ℕ → ℕ) (leaf t q : ℕ) → (node_at tree.nodes q).settled ≡ true → (node_at (tree_after values tree leaf t).nodes q).settled ≡ true
settled_stays tree values leaf t q s = ap (λ (x : Node). x.settled) (walk_keeps values t tree.nodes (way tree.wide tree.high leaf) q (inl s)) ∙ s

pub past_stays : (tree : Tree) (values : ℕ → ℕ) (leaf other t : ℕ) → IsPast tree leaf t → IsPast (tree_after values tree other t) leaf t
past_stays tree values leaf other t p =
    let at : ℕ = get_or (way tree.wide tree.high leaf) p.place 0 in
    let up : ℕ = get_or (way tree.wide tree.high leaf) (suc p.place) 0 in
    let same : node_at (tree_after values tree other t).nodes at ≡ node_at tree.nodes at = walk_keeps values t tree.nodes (way tree.wide tree.high other) at (inr p.stops.reached) in
    record {
      place = p.place;
      stops = record {
        inside = p.stops.inside;
        unsettled = ap (λ (x : Node). x.settled) same ∙ p.stops.unsettled;
        reached = subst (λ (x : Node). t ≤ x.known) (sym same) p.stops.reached;
        over = λ lt. settled_stays tree values other t up (p.stops.over lt);
      };
    }

-- ---- some queries
pub all_one : (tree : Tree) (values others : ℕ → ℕ) (qs : List Question) (rest behind : List Bool) → IsShape tree.wide tree.high → IsTree tree →
    AreAtLeaves (tree.wide * tree.high) qs → ValuesOf tree values → ValuesOf tree others →
    all_bits values tree qs ++ rest ≡ all_bits others tree qs ++ behind → OneReading values others tree qs rest behind
all_one tree values others [] rest behind s is at v w same = record { bits = refl; answer = refl; after = refl; rests = same }
all_one tree values others (q ∷ qs) rest behind s is at v w same =
    let bits = (query values tree q.leaf q.threshold).bits in
    let bits' = (query others tree q.leaf q.threshold).bits in
    let next = tree_after values tree q.leaf q.threshold in
    let next' = tree_after others tree q.leaf q.threshold in
    let one = one_query tree q.leaf q.threshold s is at.0 values others v w (all_bits values next qs ++ rest) (all_bits others next' qs ++ behind)
    (sym (append_assoc bits (all_bits values next qs) rest) ∙ same ∙ append_assoc bits' (all_bits others next' qs) behind) in
    let w' : ValuesOf next others = subst (λ (r : Tree). ValuesOf r others) (sym one.2) (after_values tree q.leaf q.threshold s is at.0 others w) in
    let rests : all_bits values next qs ++ rest ≡ all_bits others next qs ++ behind = one.3 ∙ ap (λ (r : Tree). all_bits others r qs ++ behind) (sym one.2) in
    let r : OneReading values others next qs rest behind =
    all_one next values others qs rest behind s (after_tree tree q.leaf q.threshold s is at.0 values v) at.1 (after_values tree q.leaf q.threshold s is at.0 values v) w' rests in
    record {
      bits = ap (λ (l : List Bool). l ++ all_bits values next qs) one.0 ∙ ap (λ (l : List Bool). bits' ++ l) r.bits ∙ ap (λ (x : Tree). bits' ++ all_bits others x qs) one.2;
      answer = ap (λ (b : Bool). b ∷ answers values qs) one.1 ∙ ap (λ (l : List Bool). nat_lt (others q.leaf) q.threshold ∷ l) r.answer;
      after = r.after ∙ ap (λ (x : Tree). after_all others x qs) one.2;
      rests = r.rests;
    }

-- the answers of leaves are those of their values
leaf_answers : (wide high : ℕ) (leaves : List ℕ) (qs : List Question) → AreLeaves wide high leaves → AreAtLeaves (wide * high) qs →
    answers (least_leaf wide high leaves) qs ≡ map (λ (q : Question). nat_lt (get_or leaves q.leaf 0) q.threshold) qs
leaf_answers wide high leaves [] a at = refl
leaf_answers wide high leaves (q ∷ qs) a at =
    ap (λ (m : ℕ). nat_lt m q.threshold ∷ answers (least_leaf wide high leaves) qs) (least_of_leaf wide high leaves q.leaf a.shape a.all a.fit at.0)
    ∙ ap (λ (l : List Bool). nat_lt (get_or leaves q.leaf 0) q.threshold ∷ l) (leaf_answers wide high leaves qs a at.1)

pub all_back : (wide high : ℕ) (leaves : List ℕ) (values : ℕ → ℕ) (qs : List Question) (rest behind : List Bool) → AreLeaves wide high leaves →
    AreAtLeaves (wide * high) qs → AreValues wide high values →
    all_bits (least_leaf wide high leaves) (fresh wide high) qs ++ rest ≡ all_bits values (fresh wide high) qs ++ behind →
    AreReadBack wide high leaves values qs rest behind
all_back wide high leaves values qs rest behind a at v same =
    let r = all_one (fresh wide high) (least_leaf wide high leaves) values qs rest behind a.shape (fresh_tree wide high) at
    (fresh_values wide high (least_leaf wide high leaves) (least_are_values wide high leaves a.shape a.all)) (fresh_values wide high values v) same in
    record { bits = sym r.bits; answer = sym r.answer ∙ leaf_answers wide high leaves qs a at; after = sym r.after; rests = r.rests }
