-- Queries of tag trees, read without their values.
use Rattle.std.proofs.Common.{◌≡◌, ℕ, zero, suc, ◌+◌, ◌-◌, ◌<◌, ◌≤◌, min, nat_lt, Bool, true, false, ◌&&◌, List, [], ◌∷◌, ◌++◌, length, refl, sym, ap, ◌∙◌, subst, cond, arith, append_assoc, length-append, Some, None, Ok, Err, Result}
use Rattle.std.specs.Prelude.{Option, option_map, option_and_then}
use Rattle.std.proofs.lemmas.List.{append-nil}
use Rattle.std.proofs.lemmas.Bool.{ltb-false, ltb-true}
use Rattle.jx_tagtree.specs.declared.BitFault.{BitFault}
use Rattle.jx_tagtree.specs.declared.node.Node.{Node}
use Rattle.jx_tagtree.specs.Header.{Reading, to_come, advance, Took}
use Rattle.jx_tagtree.specs.Shape.{root, parent, way}
use Rattle.jx_tagtree.specs.TagTree.{Tree, node_at, Agree, ValuesOf, IsTree, query, tree_after, HasRead, HasNothing}
use Rattle.jx_tagtree.specs.Past.{IsPast}
use Rattle.jx_tagtree.specs.Scan.{Scanned, scan_way}
use Rattle.jx_tagtree.specs.Questions.{all_bits, after_all}
use Rattle.jx_tagtree.proofs.WayLemmas.{IsWay, way_is}
use Rattle.jx_tagtree.proofs.TagLemmas.{After, scan_sound, scan_read, IsRead, scan_only, read_below, answer_is, scanned_of, WasRead}
use Rattle.jx_tagtree.proofs.QuestionLemmas.{known_values, after_tree, after_values, past_nothing, past_leaf}
use Rattle.jx_packet_header.specs.Packet.{asked}
use Rattle.jx_packet_header.specs.Scan.{Asked, asked_of, ask, Zeros, scan_more_zeros}
use Rattle.jx_packet_header.specs.Frame.{Frame, frame}
use Rattle.jx_packet_header.specs.Kept.{IsLeafOf}

-- ---- one query
abbrev pub asked_is : Bool → Tree → List Bool → Asked
asked_is below tree rest = record { below = below; tree = tree; rest = rest }

-- what a query has read, for some values
pub record AskRead (values : ℕ → ℕ) (tree : Tree) (leaf t : ℕ) (bits : List Bool) (a : Asked) : Type 0 where
  pub before : ValuesOf tree values
  pub bits_are : bits ≡ (query values tree leaf t).bits ++ a.rest
  pub below_is : a.below ≡ nat_lt (values leaf) t
  pub tree_is : a.tree ≡ tree_after values tree leaf t

module _ (tree : Tree) (leaf t : ℕ) (l : IsLeafOf tree leaf) where
  ways : IsWay (parent tree.wide tree.high) (root tree.wide tree.high) leaf (way tree.wide tree.high leaf)
  ways = way_is tree.wide tree.high leaf l.shape l.inside

  long : root tree.wide tree.high < length tree.nodes
  long = let e : length tree.nodes ≡ root tree.wide tree.high + 1 = l.is.nodes in omega arith

  below_of : (values : ℕ → ℕ) (bits : List Bool) (s : Scanned) → scan_way t tree.nodes (way tree.wide tree.high leaf) bits ≡ Some s → Agree values s.nodes → s.known ≤ values leaf →
      ((node_at s.nodes leaf).settled && nat_lt s.known t) ≡ nat_lt (values leaf) t
  below_of values bits s h agree le =
      let a : After (parent tree.wide tree.high) (root tree.wide tree.high) t tree.nodes leaf s =
      scan_sound (parent tree.wide tree.high) (root tree.wide tree.high) t tree.nodes bits leaf (way tree.wide tree.high leaf) ways long l.is.sound s h in
      answer_is t (node_at s.nodes leaf) s.known (values leaf) (agree leaf) le a.known_is a.ended

  pub ask_made : (values : ℕ → ℕ) (rest : List Bool) → ValuesOf tree values →
      ask tree leaf t ((query values tree leaf t).bits ++ rest) ≡ Some (asked_is (nat_lt (values leaf) t) (tree_after values tree leaf t) rest)
  unfolding ask
  ask_made values rest v =
      let bits = (query values tree leaf t).bits ++ rest in
      let i : IsRead values t tree.nodes leaf (way tree.wide tree.high leaf) bits rest =
      scan_only (parent tree.wide tree.high) (root tree.wide tree.high) t tree.nodes leaf (way tree.wide tree.high leaf) ways long values v.are v.agree bits rest refl in
      ap (option_map (asked_of tree leaf t)) i.reads
      ∙ ap (λ (b : Bool). Some (asked_is b (tree_after values tree leaf t) rest))
      (below_of values bits (scanned_of (query values tree leaf t).nodes (query values tree leaf t).known rest) i.reads i.agree i.below)

  by_scan : (values : ℕ → ℕ) (bits : List Bool) (a : Asked) (o : Option Scanned) → scan_way t tree.nodes (way tree.wide tree.high leaf) bits ≡ o →
      option_map (asked_of tree leaf t) o ≡ Some a → ValuesOf a.tree values → AskRead values tree leaf t bits a
  by_scan values bits a None eq h v = absurd cc
  by_scan values bits a (Some s) eq h v =
      let is : asked_of tree leaf t s ≡ a = cc in
      let v' : ValuesOf (asked_of tree leaf t s).tree values = subst (λ (x : Asked). ValuesOf x.tree values) (sym is) v in
      let w : WasRead values t tree.nodes (way tree.wide tree.high leaf) bits s =
      scan_read (parent tree.wide tree.high) (root tree.wide tree.high) t tree.nodes bits leaf (way tree.wide tree.high leaf) ways long l.is.sound s eq values v'.agree in
      subst (λ (x : Asked). AskRead values tree leaf t bits x) is (record {
        before = record { are = v'.are; agree = w.before };
        bits_are = w.bits_are;
        below_is = below_of values bits s eq v'.agree
            (read_below (parent tree.wide tree.high) (root tree.wide tree.high) t tree.nodes bits leaf (way tree.wide tree.high leaf) ways long l.is.sound s eq values v'.are v'.agree);
        tree_is = ap (λ (ns : List Node). let r : Tree = record { wide = tree.wide; high = tree.high; nodes = ns } in r) w.nodes_are;
      })

  pub ask_read : (values : ℕ → ℕ) (bits : List Bool) (a : Asked) → ask tree leaf t bits ≡ Some a → ValuesOf a.tree values → AskRead values tree leaf t bits a
  unfolding ask
  ask_read values bits a h v = by_scan values bits a (scan_way t tree.nodes (way tree.wide tree.high leaf) bits) refl h v

  by_tree : (bits : List Bool) (a : Asked) (o : Option Scanned) → scan_way t tree.nodes (way tree.wide tree.high leaf) bits ≡ o →
      option_map (asked_of tree leaf t) o ≡ Some a → IsLeafOf a.tree leaf
  by_tree bits a None eq h = absurd cc
  by_tree bits a (Some s) eq h =
      let is : asked_of tree leaf t s ≡ a = cc in
      let f : After (parent tree.wide tree.high) (root tree.wide tree.high) t tree.nodes leaf s =
      scan_sound (parent tree.wide tree.high) (root tree.wide tree.high) t tree.nodes bits leaf (way tree.wide tree.high leaf) ways long l.is.sound s eq in
      subst (λ (x : Asked). IsLeafOf x.tree leaf) is (record { shape = l.shape; is = record { nodes = f.long ∙ l.is.nodes; sound = f.sound }; inside = l.inside })

  -- the tree afterwards is one
  pub ask_tree : (bits : List Bool) (a : Asked) → ask tree leaf t bits ≡ Some a → IsLeafOf a.tree leaf
  unfolding ask
  ask_tree bits a h = by_tree bits a (scan_way t tree.nodes (way tree.wide tree.high leaf) bits) refl h

  pub after_leaf : (values : ℕ → ℕ) → ValuesOf tree values → IsLeafOf (tree_after values tree leaf t) leaf
  after_leaf values v = record { shape = l.shape; is = after_tree tree leaf t l.shape l.is l.inside values v; inside = l.inside }

  pub after_agrees : (values : ℕ → ℕ) → ValuesOf tree values → ValuesOf (tree_after values tree leaf t) values
  after_agrees values v = after_values tree leaf t l.shape l.is l.inside values v

-- of a leaf that is past the threshold nothing is asked
pub ask_past : (tree : Tree) (leaf t : ℕ) (bits : List Bool) → IsLeafOf tree leaf → IsPast tree leaf t → ask tree leaf t bits ≡ Some (asked_is false tree bits)
ask_past tree leaf t bits l past =
    let some = known_values tree l.is in
    let n : HasNothing tree some.0 leaf t = past_nothing tree some.0 leaf t l.shape l.is l.inside some.1 past in
    ap (λ (b : List Bool). ask tree leaf t (b ++ bits)) (sym n.bits)
    ∙ ask_made tree leaf t l some.0 bits some.1
    ∙ ap (λ (b : Bool). Some (asked_is b (tree_after some.0 tree leaf t) bits)) n.answer
    ∙ ap (λ (x : Tree). Some (asked_is false x bits)) n.after

pub past_unsettled : (tree : Tree) (leaf t : ℕ) → IsLeafOf tree leaf → IsPast tree leaf t → (node_at tree.nodes leaf).settled ≡ false
past_unsettled tree leaf t l past = let some = known_values tree l.is in past_leaf tree some.0 leaf t l.shape l.is l.inside some.1 past

-- a leaf whose value is below the threshold is settled
pub ask_settles : (tree : Tree) (leaf t : ℕ) (bits : List Bool) (a : Asked) → ask tree leaf t bits ≡ Some a → a.below ≡ true → (node_at a.tree.nodes leaf).settled ≡ true
unfolding ask
ask_settles tree leaf t bits a h below = by (scan_way t tree.nodes (way tree.wide tree.high leaf) bits) h
  where
    both : (x y : Bool) → (x && y) ≡ true → x ≡ true
    both true y e = refl
    both false y e = e

    by : (o : Option Scanned) → option_map (asked_of tree leaf t) o ≡ Some a → (node_at a.tree.nodes leaf).settled ≡ true
    by None e = absurd cc
    by (Some s) e =
        let is : asked_of tree leaf t s ≡ a = cc in
        subst (λ (x : Asked). (node_at x.tree.nodes leaf).settled ≡ true) is
        (both (node_at s.nodes leaf).settled (nat_lt s.known t) (ap (λ (x : Asked). x.below) is ∙ below))

pub query_settles : (tree : Tree) (values : ℕ → ℕ) (leaf t : ℕ) → IsLeafOf tree leaf → ValuesOf tree values → nat_lt (values leaf) t ≡ true → (node_at (tree_after values tree leaf t).nodes leaf).settled ≡ true
query_settles tree values leaf t l v below =
    ask_settles tree leaf t ((query values tree leaf t).bits ++ []) (asked_is (nat_lt (values leaf) t) (tree_after values tree leaf t) []) (ask_made tree leaf t l values [] v) below

-- what `reach` says is what is asked
pub reach_ok : (tree new : Tree) (leaf t : ℕ) (from to : Reading) (below : Bool) → IsLeafOf tree leaf → IsTree new →
    ((values : ℕ → ℕ) → ValuesOf new values → HasRead values leaf t below tree from new to) →
    ask tree leaf t (to_come from) ≡ Some (asked_is below new (to_come to))
reach_ok tree new leaf t from to below l is read =
    let some = known_values new is in
    let h : HasRead some.0 leaf t below tree from new to = read some.0 some.1 in
    ap (ask tree leaf t) h.bits ∙ ask_made tree leaf t l some.0 (to_come to) h.before
    ∙ ap (λ (b : Bool). Some (asked_is b (tree_after some.0 tree leaf t) (to_come to))) (sym h.answer)
    ∙ ap (λ (x : Tree). Some (asked_is below x (to_come to))) (sym h.after)

pub reach_err : (tree new : Tree) (leaf t : ℕ) (from to : Reading) (e : BitFault) (result : Result Bool BitFault) → IsLeafOf tree leaf → result ≡ Err e →
    ((values : ℕ → ℕ) → ValuesOf tree values → (rest : List Bool) → to_come from ≡ (query values tree leaf t).bits ++ rest →
    (below : Bool) × (result ≡ Ok below) × HasRead values leaf t below tree from new to) →
    ask tree leaf t (to_come from) ≡ None
reach_err tree new leaf t from to e result l is_err only = by (ask tree leaf t (to_come from)) refl
  where
    by : (o : Option Asked) → ask tree leaf t (to_come from) ≡ o → o ≡ None
    by None eq = refl
    by (Some a) eq =
        let some = known_values a.tree (ask_tree tree leaf t l (to_come from) a eq).is in
        let r = ask_read tree leaf t l some.0 (to_come from) a eq some.1 in
        let o = only some.0 r.before a.rest r.bits_are in
        absurd (let x : Ok o.0 ≡ Err e = sym o.1 ∙ is_err in cc)

-- ---- what stays as it is
pub took_frame : (from to : Reading) → Took from to → frame to ≡ frame from
unfolding frame
took_frame from to took =
    let e : to_come from ≡ took.0 ++ to_come to = took.1 in
    let n : length (to_come from) ≡ length took.0 + length (to_come to) = ap length e ∙ length-append took.0 (to_come to) in
    let total : from.taken + length took.0 + length (to_come to) ≡ from.taken + length (to_come from) = omega arith in
    let same : to ≡ advance from (length took.0) = took.2 in
    let bytes : to.bytes ≡ from.bytes = ap (λ (r : Reading). r.bytes) same in
    let refused : to.refused ≡ from.refused = ap (λ (r : Reading). r.refused) same in
    let taken : to.taken ≡ from.taken + length took.0 = ap (λ (r : Reading). r.taken) same in
    let t : to.taken + length (to_come to) ≡ from.taken + length (to_come from) = ap (λ (k : ℕ). k + length (to_come to)) taken ∙ total in
    ap (λ (b : List ℕ). let f : Frame = record { bytes = b; refused = to.refused; total = to.taken + length (to_come to) } in f) bytes
    ∙ ap (λ (r : Option BitFault). let f : Frame = record { bytes = from.bytes; refused = r; total = to.taken + length (to_come to) } in f) refused
    ∙ ap (λ (k : ℕ). let f : Frame = record { bytes = from.bytes; refused = from.refused; total = k } in f) t

pub bit_frame : (from to : Reading) (b : Bool) → to_come from ≡ b ∷ to_come to → to ≡ advance from 1 → frame to ≡ frame from
bit_frame from to b e same = took_frame from to (b ∷ [], e, same)

-- ---- zero planes
abbrev pub zeros_is : ℕ → Tree → List Bool → Zeros
zeros_is z tree rest = record { zeros = z; tree = tree; rest = rest }

-- how many questions are left where n are known not to be below
abbrev left : ℕ → ℕ → ℕ → ℕ
left more m n = min more (m + 1 - n)

abbrev choose : ℕ → ℕ → ℕ → Asked → Option Zeros
choose leaf n more a = cond a.below (Some (zeros_is n a.tree a.rest)) (scan_more_zeros a.tree leaf (n + 1) more a.rest)

pub zeros_made : (values : ℕ → ℕ) (leaf more n : ℕ) (tree : Tree) (rest : List Bool) → IsLeafOf tree leaf → ValuesOf tree values → n ≤ values leaf →
    scan_more_zeros tree leaf n more (all_bits values tree (asked leaf n (left more (values leaf) n)) ++ rest)
    ≡ Some (zeros_is (min (values leaf) (n + more)) (after_all values tree (asked leaf n (left more (values leaf) n))) rest)
zeros_made values leaf zero n tree rest l v le =
    let none : left zero (values leaf) n ≡ 0 = omega arith in
    let m : n ≡ min (values leaf) (n + 0) = omega arith in
    ap (λ (k : ℕ). scan_more_zeros tree leaf n zero (all_bits values tree (asked leaf n k) ++ rest)) none
    ∙ ap (λ (k : ℕ). Some (zeros_is k tree rest)) m
    ∙ ap (λ (k : ℕ). Some (zeros_is (min (values leaf) (n + 0)) (after_all values tree (asked leaf n k)) rest)) (sym none)
zeros_made values leaf (suc more) n tree rest l v le =
    let next = tree_after values tree leaf (n + 1) in
    let bits = (query values tree leaf (n + 1)).bits in
    let k = left more (values leaf) (n + 1) in
    let some : left (suc more) (values leaf) n ≡ suc k = omega arith in
    let behind = all_bits values next (asked leaf (n + 1) k) in
    let begin : scan_more_zeros tree leaf n (suc more) (all_bits values tree (asked leaf n (suc k)) ++ rest) ≡ choose leaf n more (asked_is (nat_lt (values leaf) (n + 1)) next (behind ++ rest)) =
    ap (scan_more_zeros tree leaf n (suc more)) (append_assoc bits behind rest)
    ∙ ap (option_and_then (choose leaf n more)) (ask_made tree leaf (n + 1) l values (behind ++ rest) v) in
    ap (λ (j : ℕ). scan_more_zeros tree leaf n (suc more) (all_bits values tree (asked leaf n j) ++ rest)) some
    ∙ begin
    ∙ by (λ (h : n + 1 ≤ values leaf). zeros_made values leaf more (n + 1) next rest (after_leaf tree leaf (n + 1) l values v) (after_agrees tree leaf (n + 1) l values v) h) (nat_lt (values leaf) (n + 1)) refl
    ∙ ap (λ (j : ℕ). Some (zeros_is (min (values leaf) (n + suc more)) (after_all values tree (asked leaf n j)) rest)) (sym some)
  where
    next' : Tree
    next' = tree_after values tree leaf (n + 1)

    by : (n + 1 ≤ values leaf → scan_more_zeros (tree_after values tree leaf (n + 1)) leaf (n + 1) more (all_bits values (tree_after values tree leaf (n + 1)) (asked leaf (n + 1) (left more (values leaf) (n + 1))) ++ rest)
        ≡ Some (zeros_is (min (values leaf) (n + 1 + more)) (after_all values (tree_after values tree leaf (n + 1)) (asked leaf (n + 1) (left more (values leaf) (n + 1)))) rest)) →
        (b : Bool) → nat_lt (values leaf) (n + 1) ≡ b →
        choose leaf n more (asked_is b (tree_after values tree leaf (n + 1)) (all_bits values (tree_after values tree leaf (n + 1)) (asked leaf (n + 1) (left more (values leaf) (n + 1))) ++ rest))
        ≡ Some (zeros_is (min (values leaf) (n + suc more)) (after_all values (tree_after values tree leaf (n + 1)) (asked leaf (n + 1) (left more (values leaf) (n + 1)))) rest)
    by again true e =
        let lt : values leaf < n + 1 = ltb-true (values leaf) (n + 1) e in
        let none : left more (values leaf) (n + 1) ≡ 0 = omega arith in
        let z : n ≡ min (values leaf) (n + suc more) = omega arith in
        ap (λ (j : ℕ). Some (zeros_is n (tree_after values tree leaf (n + 1)) (all_bits values (tree_after values tree leaf (n + 1)) (asked leaf (n + 1) j) ++ rest))) none
        ∙ ap (λ (k : ℕ). Some (zeros_is k (tree_after values tree leaf (n + 1)) rest)) z
        ∙ ap (λ (j : ℕ). Some (zeros_is (min (values leaf) (n + suc more)) (after_all values (tree_after values tree leaf (n + 1)) (asked leaf (n + 1) j)) rest)) (sym none)
    by again false e =
        let ge : n + 1 ≤ values leaf = ltb-false (values leaf) (n + 1) e in
        let z : min (values leaf) (n + 1 + more) ≡ min (values leaf) (n + suc more) = omega arith in
        again ge ∙ ap (λ (k : ℕ). Some (zeros_is k (after_all values (tree_after values tree leaf (n + 1)) (asked leaf (n + 1) (left more (values leaf) (n + 1)))) rest)) z

-- what was read of zero planes, for some values
pub record ZerosRead (values : ℕ → ℕ) (leaf more n : ℕ) (tree : Tree) (bits : List Bool) (z : Zeros) : Type 0 where
  pub zeros_are : z.zeros ≡ min (values leaf) (n + more)
  pub bits_are : bits ≡ all_bits values tree (asked leaf n (left more (values leaf) n)) ++ z.rest
  pub tree_is : z.tree ≡ after_all values tree (asked leaf n (left more (values leaf) n))

-- they agree with what was known before, and where n are known not to be below, this was read
pub record ZerosGo (values : ℕ → ℕ) (leaf more n : ℕ) (tree : Tree) (bits : List Bool) (z : Zeros) : Type 0 where
  pub before : ValuesOf tree values
  pub read : n ≤ values leaf → ZerosRead values leaf more n tree bits z

pub zeros_leaf : (leaf more n : ℕ) (tree : Tree) (bits : List Bool) (z : Zeros) → IsLeafOf tree leaf → scan_more_zeros tree leaf n more bits ≡ Some z → IsLeafOf z.tree leaf
zeros_leaf leaf zero n tree bits z l h = let is : zeros_is n tree bits ≡ z = cc in subst (λ (x : Zeros). IsLeafOf x.tree leaf) is l
zeros_leaf leaf (suc more) n tree bits z l h =
    by (λ (next : Tree) (rest : List Bool) (k : IsLeafOf next leaf) (e : scan_more_zeros next leaf (n + 1) more rest ≡ Some z). zeros_leaf leaf more (n + 1) next rest z k e) (ask tree leaf (n + 1) bits) refl h
  where
    pick : ((next : Tree) (rest : List Bool) → IsLeafOf next leaf → scan_more_zeros next leaf (n + 1) more rest ≡ Some z → IsLeafOf z.tree leaf) →
        (a : Asked) → IsLeafOf a.tree leaf → (b : Bool) → cond b (Some (zeros_is n a.tree a.rest)) (scan_more_zeros a.tree leaf (n + 1) more a.rest) ≡ Some z → IsLeafOf z.tree leaf
    pick again a k true h = let is : zeros_is n a.tree a.rest ≡ z = cc in subst (λ (x : Zeros). IsLeafOf x.tree leaf) is k
    pick again a k false h = again a.tree a.rest k h

    by : ((next : Tree) (rest : List Bool) → IsLeafOf next leaf → scan_more_zeros next leaf (n + 1) more rest ≡ Some z → IsLeafOf z.tree leaf) →
        (o : Option Asked) → ask tree leaf (n + 1) bits ≡ o → option_and_then (choose leaf n more) o ≡ Some z → IsLeafOf z.tree leaf
    by again None eq h = absurd cc
    by again (Some a) eq h = pick again a (ask_tree tree leaf (n + 1) l bits a eq) a.below h

pub zeros_go : (values : ℕ → ℕ) (leaf more n : ℕ) (tree : Tree) (bits : List Bool) (z : Zeros) → IsLeafOf tree leaf → scan_more_zeros tree leaf n more bits ≡ Some z → ValuesOf z.tree values →
    ZerosGo values leaf more n tree bits z
zeros_go values leaf zero n tree bits z l h v =
    let is : zeros_is n tree bits ≡ z = cc in
    subst (λ (x : Zeros). ZerosGo values leaf zero n tree bits x) is (record {
      before = subst (λ (x : Zeros). ValuesOf x.tree values) (sym is) v;
      read = λ le. (let none : left zero (values leaf) n ≡ 0 = omega arith in record {
        zeros_are = omega arith;
        bits_are = ap (λ (k : ℕ). all_bits values tree (asked leaf n k) ++ bits) (sym none);
        tree_is = ap (λ (k : ℕ). after_all values tree (asked leaf n k)) (sym none);
      });
    })
zeros_go values leaf (suc more) n tree bits z l h v =
    by (λ (next : Tree) (rest : List Bool) (k : IsLeafOf next leaf) (e : scan_more_zeros next leaf (n + 1) more rest ≡ Some z). zeros_go values leaf more (n + 1) next rest z k e v) (ask tree leaf (n + 1) bits) refl h
  where
    last : (a : Asked) → ask tree leaf (n + 1) bits ≡ Some a → a.below ≡ true → zeros_is n a.tree a.rest ≡ z → ZerosGo values leaf (suc more) n tree bits z
    last a eq e is =
        let v' : ValuesOf a.tree values = subst (λ (x : Zeros). ValuesOf x.tree values) (sym is) v in
        let r = ask_read tree leaf (n + 1) l values bits a eq v' in
        subst (λ (x : Zeros). ZerosGo values leaf (suc more) n tree bits x) is (record {
          before = r.before;
          read = λ le. (
              let lt : values leaf < n + 1 = ltb-true (values leaf) (n + 1) (sym r.below_is ∙ e) in
              let one : left (suc more) (values leaf) n ≡ 1 = omega arith in
              record {
                zeros_are = omega arith;
                bits_are = r.bits_are ∙ ap (λ (q : List Bool). q ++ a.rest) (sym (nil_behind (query values tree leaf (n + 1)).bits)) ∙ ap (λ (k : ℕ). all_bits values tree (asked leaf n k) ++ a.rest) (sym one);
                tree_is = r.tree_is ∙ ap (λ (k : ℕ). after_all values tree (asked leaf n k)) (sym one);
              });
        })
      where
        nil_behind : (q : List Bool) → q ++ [] ≡ q
        nil_behind q = simp append-nil

    more_go : (a : Asked) → ask tree leaf (n + 1) bits ≡ Some a → a.below ≡ false → ZerosGo values leaf more (n + 1) a.tree a.rest z → ZerosGo values leaf (suc more) n tree bits z
    more_go a eq e g =
        let r = ask_read tree leaf (n + 1) l values bits a eq g.before in
        let ge : n + 1 ≤ values leaf = ltb-false (values leaf) (n + 1) (sym r.below_is ∙ e) in
        let s : ZerosRead values leaf more (n + 1) a.tree a.rest z = g.read ge in
        let zs : z.zeros ≡ min (values leaf) (n + 1 + more) = s.zeros_are in
        let k = left more (values leaf) (n + 1) in
        let some : left (suc more) (values leaf) n ≡ suc k = omega arith in
        let bits1 = (query values tree leaf (n + 1)).bits in
        record {
          before = r.before;
          read = λ le. record {
            zeros_are = omega arith;
            bits_are = r.bits_are ∙ ap (λ (q : List Bool). bits1 ++ q) s.bits_are
                ∙ ap (λ (x : Tree). bits1 ++ (all_bits values x (asked leaf (n + 1) k) ++ z.rest)) r.tree_is
                ∙ sym (append_assoc bits1 (all_bits values (tree_after values tree leaf (n + 1)) (asked leaf (n + 1) k)) z.rest)
                ∙ ap (λ (j : ℕ). all_bits values tree (asked leaf n j) ++ z.rest) (sym some);
            tree_is = s.tree_is ∙ ap (λ (x : Tree). after_all values x (asked leaf (n + 1) k)) r.tree_is
                ∙ ap (λ (j : ℕ). after_all values tree (asked leaf n j)) (sym some);
          };
        }

    pick : ((next : Tree) (rest : List Bool) → IsLeafOf next leaf → scan_more_zeros next leaf (n + 1) more rest ≡ Some z → ZerosGo values leaf more (n + 1) next rest z) →
        (a : Asked) → ask tree leaf (n + 1) bits ≡ Some a → (b : Bool) → a.below ≡ b → cond b (Some (zeros_is n a.tree a.rest)) (scan_more_zeros a.tree leaf (n + 1) more a.rest) ≡ Some z →
        ZerosGo values leaf (suc more) n tree bits z
    pick again a eq true e h = last a eq e cc
    pick again a eq false e h = more_go a eq e (again a.tree a.rest (ask_tree tree leaf (n + 1) l bits a eq) h)

    by : ((next : Tree) (rest : List Bool) → IsLeafOf next leaf → scan_more_zeros next leaf (n + 1) more rest ≡ Some z → ZerosGo values leaf more (n + 1) next rest z) →
        (o : Option Asked) → ask tree leaf (n + 1) bits ≡ o → option_and_then (choose leaf n more) o ≡ Some z → ZerosGo values leaf (suc more) n tree bits z
    by again None eq h = absurd cc
    by again (Some a) eq h = pick again a eq a.below refl h

-- ---- how many bits are left
pub few_left : (r : Reading) → length (to_come r) ≤ (frame r).total
unfolding frame
few_left r = omega arith
