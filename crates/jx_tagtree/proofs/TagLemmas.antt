-- What a query reads, against the values of the nodes.
use Rattle.std.proofs.Common.{◌&&◌, ◌||◌, ◌≡◌, ◌≢◌, ℕ, zero, suc, ◌+◌, ◌-◌, ◌*◌, ◌<◌, ◌≤◌, min, max, nat_lt, nat_le, Bool, true, false, List, [], ◌∷◌, ◌++◌, length, get_or, set, drop, replicate, refl, sym, ap, ◌∙◌, subst, cond, arith, append_assoc, Some, None, ◌⊎◌, inl, inr}
use Rattle.std.specs.Prelude.{Option, option_map, option_and_then}
use Rattle.std.proofs.lemmas.List.{get_or-set_same, get_or-set_other, set-get_or, length-set, append_cancel_right}
use Rattle.std.proofs.lemmas.Bool.Decides.{nat_tests}
use Rattle.std.proofs.lemmas.Bool.{cases_eq, cases_lt}
use Rattle.jx_tagtree.specs.declared.node.Node.{Node}
use Rattle.jx_tagtree.specs.TagTree.{unknown, node_at, is_told, node_bits, node_after, Walk, step, walk, IsValueOf, Agree, Tree, query, ValuesOf, HasRead}
use Rattle.jx_tagtree.specs.Scan.{Zeros, scan, more_zeros, Found, found, scan_one, Scanned, scanned, scan_node, scan_way, PartRead, WayRead}
use Rattle.jx_tagtree.specs.Kept.{KeepsTree, IsWayIn}
use Rattle.jx_tagtree.specs.Header.{Took, Reading, to_come, advance}
use Rattle.jx_tagtree.specs.Shape.{root, parent, way}
use Rattle.jx_tagtree.proofs.WayLemmas.{IsWay, at_top, under, way_is, way_under}

-- ---- the bits of one node
-- what was scanned stood there
scan_ok : (n : ℕ) (bits : List Bool) (z : Zeros) → scan n bits ≡ Some z →
    (bits ≡ replicate z.zeros false ++ cond z.one (true ∷ []) [] ++ z.rest) × (z.one ≡ true → z.zeros < n) × (z.one ≡ false → z.zeros ≡ n)
scan_ok zero bits z h = let e : z ≡ record { zeros = 0; one = false; rest = bits } = cc in
    subst (λ (w : Zeros). (bits ≡ replicate w.zeros false ++ cond w.one (true ∷ []) [] ++ w.rest) × (w.one ≡ true → w.zeros < 0) × (w.one ≡ false → w.zeros ≡ 0)) (sym e)
    (refl, (λ h. absurd cc), (λ h. refl))
scan_ok (suc n) [] z h = absurd cc
scan_ok (suc n) (true ∷ bits) z h = let e : z ≡ record { zeros = 0; one = true; rest = bits } = cc in
    subst (λ (w : Zeros). (true ∷ bits ≡ replicate w.zeros false ++ cond w.one (true ∷ []) [] ++ w.rest) × (w.one ≡ true → w.zeros < suc n) × (w.one ≡ false → w.zeros ≡ suc n)) (sym e)
    (refl, (λ h. omega arith), (λ h. absurd cc))
scan_ok (suc n) (false ∷ bits) z h = by (scan n bits) (λ w e. scan_ok n bits w e) h
  where
    by : (o : Option Zeros) →
        ((w : Zeros) → o ≡ Some w → (bits ≡ replicate w.zeros false ++ cond w.one (true ∷ []) [] ++ w.rest) × (w.one ≡ true → w.zeros < n) × (w.one ≡ false → w.zeros ≡ n)) →
        option_map (more_zeros 1) o ≡ Some z →
        (false ∷ bits ≡ replicate z.zeros false ++ cond z.one (true ∷ []) [] ++ z.rest) × (z.one ≡ true → z.zeros < suc n) × (z.one ≡ false → z.zeros ≡ suc n)
    by None again k = absurd cc
    by (Some w) again k =
        let r = again w refl in
        let is : z ≡ more_zeros 1 w = cc in
        let more : 1 + w.zeros ≡ suc w.zeros = omega arith in
        subst (λ (v : Zeros). (false ∷ bits ≡ replicate v.zeros false ++ cond v.one (true ∷ []) [] ++ v.rest) × (v.one ≡ true → v.zeros < suc n) × (v.one ≡ false → v.zeros ≡ suc n)) (sym is) (
          ap (λ (l : List Bool). false ∷ l) r.0 ∙ ap (λ (k : ℕ). replicate k false ++ cond w.one (true ∷ []) [] ++ w.rest) (sym more),
          (λ h. let lt : w.zeros < n = r.1 h in omega arith),
          (λ h. let lt : w.zeros ≡ n = r.2 h in omega arith),
        )

-- zeros and a 1 are scanned
scan_one_is : (n k : ℕ) (rest : List Bool) → k < n → scan n (replicate k false ++ (true ∷ []) ++ rest) ≡ Some (record { zeros = k; one = true; rest = rest })
scan_one_is zero k rest lt = absurd (omega arith)
scan_one_is (suc n) zero rest lt = refl
scan_one_is (suc n) (suc k) rest lt =
    let more : 1 + k ≡ suc k = omega arith in
    ap (option_map (more_zeros 1)) (scan_one_is n k rest (omega arith)) ∙ ap (λ (i : ℕ). let z : Zeros = record { zeros = i; one = true; rest = rest } in Some z) more

-- so are zeros alone, up to the last
scan_zeros_is : (n : ℕ) (rest : List Bool) → scan n (replicate n false ++ [] ++ rest) ≡ Some (record { zeros = n; one = false; rest = rest })
scan_zeros_is zero rest = refl
scan_zeros_is (suc n) rest =
    let more : 1 + n ≡ suc n = omega arith in
    ap (option_map (more_zeros 1)) (scan_zeros_is n rest) ∙ ap (λ (i : ℕ). let z : Zeros = record { zeros = i; one = false; rest = rest } in Some z) more

abbrev node_of : ℕ → Bool → Node
node_of k s = record { known = k; settled = s }

abbrev zeros_of : ℕ → Bool → List Bool → Zeros
zeros_of n b rest = record { zeros = n; one = b; rest = rest }

abbrev found_of : Node → List Bool → Found
found_of node rest = record { node = node; rest = rest }

-- the numbers of zeros that stand before a value's 1, or up to the threshold
zeros_are : (t start m zeros : ℕ) (one : Bool) → start + zeros ≤ m → (one ≡ true → start + zeros ≡ m) → (one ≡ true → zeros < t - start) → (one ≡ false → zeros ≡ t - start) →
    (one ≡ nat_lt m t) × (zeros ≡ min m t - start) × (start + zeros ≡ max start (min m t))
zeros_are t start m zeros true le exact short full =
    let e : start + zeros ≡ m = exact refl in
    let lt : zeros < t - start = short refl in
    ((let yes : nat_lt m t ≡ true = grind (arith, nat_tests) in sym yes), omega arith, omega arith)
zeros_are t start m zeros false le exact short full =
    let e : zeros ≡ t - start = full refl in
    let ge : t ≤ m = omega arith in
    ((let no : nat_lt m t ≡ false = grind (arith, nat_tests) in sym no), omega arith, omega arith)

-- what a node's value says of what was read at it
one_read_at : (t k : ℕ) (s : Bool) (above : ℕ) (bits : List Bool) (f : Found) (m : ℕ) → scan_one t (node_of k s) above bits ≡ Some f → IsValueOf f.node m →
    IsValueOf (node_of k s) m × (f.node ≡ node_after (node_of k s) (max k above) m t) × (bits ≡ node_bits (node_of k s) (max k above) m t ++ f.rest)
one_read_at t k true above bits f m h fits =
    let is : f ≡ found_of (node_of k true) bits = cc in
    (subst (λ (g : Found). IsValueOf g.node m) is fits, ap (λ (g : Found). g.node) is, sym (ap (λ (g : Found). g.rest) is))
one_read_at t k false above bits f m h fits = past (nat_le t (max k above)) h
  where
    by : (o : Option Zeros) →
        ((z : Zeros) → o ≡ Some z → (bits ≡ replicate z.zeros false ++ cond z.one (true ∷ []) [] ++ z.rest) × (z.one ≡ true → z.zeros < t - max k above) × (z.one ≡ false → z.zeros ≡ t - max k above)) →
        option_map (found (max k above)) o ≡ Some f →
        IsValueOf (node_of k false) m × (f.node ≡ node_of (max (max k above) (min m t)) (nat_lt m t)) × (bits ≡ replicate (min m t - max k above) false ++ cond (nat_lt m t) (true ∷ []) [] ++ f.rest)
    by None r e = absurd cc
    by (Some z) r e =
        let is : f ≡ found (max k above) z = cc in
        let fits' : IsValueOf (node_of (max k above + z.zeros) z.one) m = subst (λ (g : Found). IsValueOf g.node m) is fits in
        let q = r z refl in
        let le : max k above + z.zeros ≤ m = fits'.known in
        let a = zeros_are t (max k above) m z.zeros z.one le fits'.settled q.1 q.2 in (
          record { known = omega arith; settled = λ x. absurd cc },
          ap (λ (g : Found). g.node) is ∙ ap (λ (n : ℕ). node_of n z.one) a.2 ∙ ap (λ (b : Bool). node_of (max (max k above) (min m t)) b) a.0,
          q.0 ∙ ap (λ (n : ℕ). replicate n false ++ cond z.one (true ∷ []) [] ++ z.rest) a.1
              ∙ ap (λ (b : Bool). replicate (min m t - max k above) false ++ cond b (true ∷ []) [] ++ z.rest) a.0
              ∙ ap (λ (l : List Bool). replicate (min m t - max k above) false ++ cond (nat_lt m t) (true ∷ []) [] ++ l) (sym (ap (λ (g : Found). g.rest) is)),
        )

    past : (b : Bool) → cond b (Some (found_of (node_of k false) bits)) (option_map (found (max k above)) (scan (t - max k above) bits)) ≡ Some f →
        IsValueOf (node_of k false) m × (f.node ≡ cond b (node_of k false) (node_of (max (max k above) (min m t)) (nat_lt m t)))
        × (bits ≡ cond b [] (replicate (min m t - max k above) false ++ cond (nat_lt m t) (true ∷ []) []) ++ f.rest)
    past true e =
        let is : f ≡ found_of (node_of k false) bits = cc in
        (subst (λ (g : Found). IsValueOf g.node m) is fits, ap (λ (g : Found). g.node) is, sym (ap (λ (g : Found). g.rest) is))
    past false e =
        by (scan (t - max k above) bits) (λ z eq. scan_ok (t - max k above) bits z eq) e

one_read : (t : ℕ) (node : Node) (above : ℕ) (bits : List Bool) (f : Found) (m : ℕ) → scan_one t node above bits ≡ Some f → IsValueOf f.node m →
    IsValueOf node m × (f.node ≡ node_after node (max node.known above) m t) × (bits ≡ node_bits node (max node.known above) m t ++ f.rest)
one_read t node above bits f m h fits = one_read_at t node.known node.settled above bits f m h fits

-- the bits of a value are read as that value's
one_only_at : (t k : ℕ) (s : Bool) (above : ℕ) (rest : List Bool) (m : ℕ) → IsValueOf (node_of k s) m → above ≤ m →
    (scan_one t (node_of k s) above (node_bits (node_of k s) (max k above) m t ++ rest) ≡ Some (found_of (node_after (node_of k s) (max k above) m t) rest))
    × IsValueOf (node_after (node_of k s) (max k above) m t) m
one_only_at t k true above rest m fits le = (refl, fits)
one_only_at t k false above rest m fits le = past (nat_le t (max k above)) refl
  where
    by : (b : Bool) → nat_lt m t ≡ b →
        (option_map (found (max k above)) (scan (t - max k above) (replicate (min m t - max k above) false ++ cond b (true ∷ []) [] ++ rest)) ≡ Some (found_of (node_of (max (max k above) (min m t)) b) rest))
        × IsValueOf (node_of (max (max k above) (min m t)) b) m
    by true e =
        let lt : m < t = grind (arith, nat_tests) in
        let known : k ≤ m = fits.known in
        let short : min m t - max k above < t - max k above = omega arith in
        let sum : max k above + (min m t - max k above) ≡ max (max k above) (min m t) = omega arith in (
          ap (option_map (found (max k above))) (scan_one_is (t - max k above) (min m t - max k above) rest short)
              ∙ ap (λ (n : ℕ). Some (found_of (node_of n true) rest)) sum,
          record { known = omega arith; settled = λ x. omega arith },
        )
    by false e =
        let ge : t ≤ m = grind (arith, nat_tests) in
        let known : k ≤ m = fits.known in
        let all : min m t - max k above ≡ t - max k above = omega arith in
        let sum : max k above + (t - max k above) ≡ max (max k above) (min m t) = omega arith in (
          ap (λ (n : ℕ). option_map (found (max k above)) (scan (t - max k above) (replicate n false ++ [] ++ rest))) all
              ∙ ap (option_map (found (max k above))) (scan_zeros_is (t - max k above) rest)
              ∙ ap (λ (n : ℕ). Some (found_of (node_of n false) rest)) sum,
          record { known = omega arith; settled = λ x. absurd cc },
        )

    past : (b : Bool) → nat_le t (max k above) ≡ b →
        (cond b (Some (found_of (node_of k false) (cond b [] (replicate (min m t - max k above) false ++ cond (nat_lt m t) (true ∷ []) []) ++ rest)))
        (option_map (found (max k above)) (scan (t - max k above) (cond b [] (replicate (min m t - max k above) false ++ cond (nat_lt m t) (true ∷ []) []) ++ rest)))
        ≡ Some (found_of (cond b (node_of k false) (node_of (max (max k above) (min m t)) (nat_lt m t))) rest))
        × IsValueOf (cond b (node_of k false) (node_of (max (max k above) (min m t)) (nat_lt m t))) m
    past true e = (refl, fits)
    past false e =
        by (nat_lt m t) refl

one_only : (t : ℕ) (node : Node) (above : ℕ) (rest : List Bool) (m : ℕ) → IsValueOf node m → above ≤ m →
    (scan_one t node above (node_bits node (max node.known above) m t ++ rest) ≡ Some (found_of (node_after node (max node.known above) m t) rest))
    × IsValueOf (node_after node (max node.known above) m t) m
one_only t node above rest m fits le = one_only_at t node.known node.settled above rest m fits le

-- What is known after a node's bits, whatever its value: it is settled or reaches the threshold, a node is settled only
-- above what its parent is at least, and a settled node stays as it was.
abbrev IsAfter : ℕ → Bool → Node → ℕ → Node → Type 0
IsAfter t s before above after =
    ((after.settled ≡ true) ⊎ (t ≤ max above after.known)) × (after.settled ≡ true → (s ≡ true) ⊎ ((above < t) × (above ≤ after.known))) × (s ≡ true → after ≡ before)

one_sound_at : (t k : ℕ) (s : Bool) (above : ℕ) (bits : List Bool) (f : Found) → scan_one t (node_of k s) above bits ≡ Some f → IsAfter t s (node_of k s) above f.node
one_sound_at t k true above bits f h =
    let is : f ≡ found_of (node_of k true) bits = cc in
    subst (λ (g : Found). IsAfter t true (node_of k true) above g.node) (sym is) (inl refl, (λ x. inl refl), (λ x. refl))
one_sound_at t k false above bits f h = past (nat_le t (max k above)) refl h
  where
    ended : (z : Zeros) (b : Bool) → z.one ≡ b → (z.one ≡ false → z.zeros ≡ t - max k above) → (z.one ≡ true) ⊎ (t ≤ max above (max k above + z.zeros))
    ended z true e full = inl e
    ended z false e full = let all : z.zeros ≡ t - max k above = full e in inr (omega arith)

    by : (o : Option Zeros) →
        ((z : Zeros) → o ≡ Some z → (bits ≡ replicate z.zeros false ++ cond z.one (true ∷ []) [] ++ z.rest) × (z.one ≡ true → z.zeros < t - max k above) × (z.one ≡ false → z.zeros ≡ t - max k above)) →
        option_map (found (max k above)) o ≡ Some f → IsAfter t false (node_of k false) above f.node
    by None r e = absurd cc
    by (Some z) r e =
        let is : f ≡ found (max k above) z = cc in
        let q = r z refl in
        let short : z.one ≡ true → z.zeros < t - max k above = q.1 in
        subst (λ (g : Found). IsAfter t false (node_of k false) above g.node) (sym is)
        (ended z z.one refl q.2, (λ x. let lt : z.zeros < t - max k above = short x in inr (omega arith, omega arith)), (λ x. absurd cc))

    past : (b : Bool) → nat_le t (max k above) ≡ b → cond b (Some (found_of (node_of k false) bits)) (option_map (found (max k above)) (scan (t - max k above) bits)) ≡ Some f →
        IsAfter t false (node_of k false) above f.node
    past true here e =
        let is : f ≡ found_of (node_of k false) bits = cc in
        let le : t ≤ max k above = grind (arith, nat_tests) in
        subst (λ (g : Found). IsAfter t false (node_of k false) above g.node) (sym is) (inr (omega arith), (λ x. absurd cc), (λ x. absurd cc))
    past false here e = by (scan (t - max k above) bits) (λ z eq. scan_ok (t - max k above) bits z eq) e

one_sound : (t : ℕ) (node : Node) (above : ℕ) (bits : List Bool) (f : Found) → scan_one t node above bits ≡ Some f → IsAfter t node.settled node above f.node
one_sound t node above bits f h = one_sound_at t node.known node.settled above bits f h

-- ---- a whole way
-- what can be known of the nodes, where `up` gives the parent and `top` is the root
abbrev pub Sound : (ℕ → ℕ) → ℕ → List Node → Type 0
Sound up top nodes = (q : ℕ) → q < top → (node_at nodes q).settled ≡ true →
    ((node_at nodes (up q)).settled ≡ true) × ((node_at nodes (up q)).known ≤ (node_at nodes q).known)

abbrev pub Rising : (ℕ → ℕ) → ℕ → (ℕ → ℕ) → Type 0
Rising up top values = (q : ℕ) → q < top → values (up q) ≤ values q

-- a node that is written, and the others
pub at_same : (nodes : List Node) (n : ℕ) (x : Node) → n < length nodes → node_at (set nodes n x) n ≡ x
at_same nodes n x lt = get_or-set_same nodes n x unknown lt

pub at_other : (nodes : List Node) (n q : ℕ) (x : Node) → q ≢ n → node_at (set nodes n x) q ≡ node_at nodes q
at_other nodes n q x ne = get_or-set_other nodes n q x unknown ne

-- a fact of each node is kept where it holds of the one that is written
kept : (P : ℕ → Node → Type 0) (nodes : List Node) (n : ℕ) (x : Node) → n < length nodes → P n x → ((q : ℕ) → P q (node_at nodes q)) → (q : ℕ) → P q (node_at (set nodes n x) q)
kept P nodes n x lt here all q = elim (cases_eq q n) [
  | inl e ↦ subst (λ (j : ℕ). P j (node_at (set nodes n x) j)) (sym e) (subst (λ (y : Node). P n y) (sym (at_same nodes n x lt)) here)
  | inr ne ↦ subst (λ (y : Node). P q y) (sym (at_other nodes n q x ne)) (all q)
]

-- the same, of the other nodes
kept_before : (P : ℕ → Node → Type 0) (nodes : List Node) (n : ℕ) (x : Node) → P n (node_at nodes n) → ((q : ℕ) → P q (node_at (set nodes n x) q)) → (q : ℕ) → P q (node_at nodes q)
kept_before P nodes n x here all q = elim (cases_eq q n) [
  | inl e ↦ subst (λ (j : ℕ). P j (node_at nodes j)) (sym e) here
  | inr ne ↦ subst (λ (y : Node). P q y) (at_other nodes n q x ne) (all q)
]

-- a node that is written keeps what can be known
sound_step : (up : ℕ → ℕ) (top : ℕ) (nodes : List Node) (n : ℕ) (x : Node) → n < length nodes → Sound up top nodes →
    ((node_at nodes n).settled ≡ true → x ≡ node_at nodes n) →
    (n < top → x.settled ≡ true → ((node_at nodes (up n)).settled ≡ true) × ((node_at nodes (up n)).known ≤ x.known)) →
    Sound up top (set nodes n x)
sound_step up top nodes n x lt sound settled fresh q q_lt q_settled =
    elim (cases_eq q n) [
      | inl e ↦ at_it e
      | inr ne ↦
          (let same_q : node_at (set nodes n x) q ≡ node_at nodes q = at_other nodes n q x ne in
          let old : (node_at nodes q).settled ≡ true = sym (ap (λ (y : Node). y.settled) same_q) ∙ q_settled in
          let s = sound q q_lt old in
          elim (cases_eq (up q) n) [
            | inl e ↦
                (let here : (node_at nodes n).settled ≡ true = subst (λ (j : ℕ). (node_at nodes j).settled ≡ true) e s.0 in
                let same_up : node_at (set nodes n x) (up q) ≡ node_at nodes (up q) =
                ap (node_at (set nodes n x)) e ∙ at_same nodes n x lt ∙ settled here ∙ ap (node_at nodes) (sym e) in
                both same_q same_up s)
            | inr ne' ↦ both same_q (at_other nodes n (up q) x ne') s
          ])
    ]
  where
    both : node_at (set nodes n x) q ≡ node_at nodes q → node_at (set nodes n x) (up q) ≡ node_at nodes (up q) →
        ((node_at nodes (up q)).settled ≡ true) × ((node_at nodes (up q)).known ≤ (node_at nodes q).known) →
        ((node_at (set nodes n x) (up q)).settled ≡ true) × ((node_at (set nodes n x) (up q)).known ≤ (node_at (set nodes n x) q).known)
    both same_q same_up s = (
      ap (λ (y : Node). y.settled) same_up ∙ s.0,
      subst (λ (y : Node). y.known ≤ (node_at (set nodes n x) q).known) (sym same_up) (subst (λ (y : Node). (node_at nodes (up q)).known ≤ y.known) (sym same_q) s.1),
    )

    at_it : q ≡ n → ((node_at (set nodes n x) (up q)).settled ≡ true) × ((node_at (set nodes n x) (up q)).known ≤ (node_at (set nodes n x) q).known)
    at_it e =
        let same_q : node_at (set nodes n x) q ≡ x = ap (node_at (set nodes n x)) e ∙ at_same nodes n x lt in
        let x_settled : x.settled ≡ true = sym (ap (λ (y : Node). y.settled) same_q) ∙ q_settled in
        let n_lt : n < top = subst (λ (j : ℕ). j < top) e q_lt in
        let f = fresh n_lt x_settled in
        elim (cases_eq (up q) n) [
          | inl e' ↦
              (let same_up : node_at (set nodes n x) (up q) ≡ x = ap (node_at (set nodes n x)) e' ∙ at_same nodes n x lt in
              let same_known : (node_at (set nodes n x) (up q)).known ≡ (node_at (set nodes n x) q).known = ap (λ (y : Node). y.known) (same_up ∙ sym same_q) in
              (ap (λ (y : Node). y.settled) same_up ∙ x_settled, omega arith))
          | inr ne' ↦
              (let same_up : node_at (set nodes n x) (up q) ≡ node_at nodes (up n) = at_other nodes n (up q) x ne' ∙ ap (λ (j : ℕ). node_at nodes (up j)) e in (
                ap (λ (y : Node). y.settled) same_up ∙ f.0,
                subst (λ (y : Node). y.known ≤ (node_at (set nodes n x) q).known) (sym same_up) (subst (λ (y : Node). (node_at nodes (up n)).known ≤ y.known) (sym same_q) f.1),
              ))
        ]

-- what holds after the bits of a way
pub record After (up : ℕ → ℕ) (top t : ℕ) (nodes : List Node) (n : ℕ) (r : Scanned) : Type 0 where
  pub long : length r.nodes ≡ length nodes
  pub sound : Sound up top r.nodes
  pub known_is : (node_at r.nodes n).settled ≡ true → r.known ≡ (node_at r.nodes n).known
  pub ended : ((node_at r.nodes n).settled ≡ true) ⊎ (t ≤ r.known)

-- after the bits of a node
after_step : (up : ℕ → ℕ) (top t : ℕ) (nodes : List Node) (n : ℕ) (above : Scanned) (r : Scanned) →
    top < length nodes → n ≤ top → length above.nodes ≡ length nodes → Sound up top above.nodes →
    (n < top → ((node_at above.nodes (up n)).settled ≡ true → above.known ≡ (node_at above.nodes (up n)).known) × (((node_at above.nodes (up n)).settled ≡ true) ⊎ (t ≤ above.known))) →
    (top ≤ n → above.known ≡ 0) →
    scan_node t n above ≡ Some r → After up top t nodes n r
after_step up top t nodes n above r long le same sound parent_is root_is h =
    by (scan_one t (node_at above.nodes n) above.known above.rest) (λ f e. one_sound t (node_at above.nodes n) above.known above.rest f e) h
  where
    lt : n < length above.nodes
    lt = omega arith

    by : (o : Option Found) →
        ((f : Found) → o ≡ Some f → IsAfter t (node_at above.nodes n).settled (node_at above.nodes n) above.known f.node) →
        option_map (scanned n above) o ≡ Some r → After up top t nodes n r
    by None facts e = absurd cc
    by (Some f) facts e =
        let q = facts f refl in
        let is : r ≡ scanned n above f = cc in
        let here : node_at (set above.nodes n f.node) n ≡ f.node = at_same above.nodes n f.node lt in
        subst (λ (s : Scanned). After up top t nodes n s) (sym is) (record {
          long = length-set above.nodes n f.node ∙ same;
          sound = sound_step up top above.nodes n f.node lt sound q.2 (λ n_lt settled. above_it q.2 n_lt (parent_is n_lt) (q.1 settled));
          known_is = subst (λ (y : Node). y.settled ≡ true → max above.known f.node.known ≡ y.known) (sym here)
              (λ settled. let l : above.known ≤ f.node.known = before q.2 (q.1 settled) (cases_lt n top) in omega arith);
          ended = subst (λ (y : Node). (y.settled ≡ true) ⊎ (t ≤ max above.known f.node.known)) (sym here) q.0;
        })
      where
        before : ((node_at above.nodes n).settled ≡ true → f.node ≡ node_at above.nodes n) →
            ((node_at above.nodes n).settled ≡ true) ⊎ ((above.known < t) × (above.known ≤ f.node.known)) → (n < top) ⊎ (top ≤ n) → above.known ≤ f.node.known
        before kept (inl settled) (inl n_lt) =
            let s = sound n n_lt settled in
            let e : above.known ≡ (node_at above.nodes (up n)).known = (parent_is n_lt).0 s.0 in
            let l : (node_at above.nodes (up n)).known ≤ (node_at above.nodes n).known = s.1 in
            let g : above.known ≤ (node_at above.nodes n).known = omega arith in
            subst (λ (y : Node). above.known ≤ y.known) (sym (kept settled)) g
        before kept (inr fresh) at = fresh.1
        before kept settled (inr ge) = let e : above.known ≡ 0 = root_is ge in omega arith

        above_it : ((node_at above.nodes n).settled ≡ true → f.node ≡ node_at above.nodes n) → n < top →
            ((node_at above.nodes (up n)).settled ≡ true → above.known ≡ (node_at above.nodes (up n)).known) × (((node_at above.nodes (up n)).settled ≡ true) ⊎ (t ≤ above.known)) →
            ((node_at above.nodes n).settled ≡ true) ⊎ ((above.known < t) × (above.known ≤ f.node.known)) →
            ((node_at above.nodes (up n)).settled ≡ true) × ((node_at above.nodes (up n)).known ≤ f.node.known)
        above_it kept n_lt p (inl settled) =
            let s = sound n n_lt settled in
            (s.0, subst (λ (y : Node). (node_at above.nodes (up n)).known ≤ y.known) (sym (kept settled)) s.1)
        above_it kept n_lt p (inr fresh) =
            let below : above.known < t = fresh.0 in
            let is : (node_at above.nodes (up n)).settled ≡ true = elim p.1 [ inl settled ↦ settled | inr ge ↦ absurd (omega arith) ] in
            let e : above.known ≡ (node_at above.nodes (up n)).known = p.0 is in
            let le : above.known ≤ f.node.known = fresh.1 in
            (is, omega arith)

pub way_le : (up : ℕ → ℕ) (top n : ℕ) (ways : List ℕ) → IsWay up top n ways → n ≤ top
way_le up top n ways at_top = omega arith
way_le up top n ways (under lt w) = omega arith

-- the state before the last node of a way
split_way : (t n : ℕ) (o : Option Scanned) (r : Scanned) → option_and_then (scan_node t n) o ≡ Some r → (a : Scanned) × (o ≡ Some a) × (scan_node t n a ≡ Some r)
split_way t n None r h = absurd cc
split_way t n (Some a) r h = (a, refl, h)

abbrev pub scanned_of : List Node → ℕ → List Bool → Scanned
scanned_of nodes known rest = record { nodes = nodes; known = known; rest = rest }

pub scan_sound : (up : ℕ → ℕ) (top t : ℕ) (nodes : List Node) (bits : List Bool) (n : ℕ) (ways : List ℕ) → IsWay up top n ways → top < length nodes → Sound up top nodes →
    (r : Scanned) → scan_way t nodes ways bits ≡ Some r → After up top t nodes n r
scan_sound up top t nodes bits n ways at_top long sound r h =
    after_step up top t nodes top (scanned_of nodes 0 bits) r long (omega arith) refl sound (λ lt. absurd (omega arith)) (λ ge. refl) h
scan_sound up top t nodes bits _ _ (under {n} {over} lt w) long sound r h =
    let s = split_way t n (scan_way t nodes over bits) r h in
    let a : After up top t nodes (up n) s.0 = scan_sound up top t nodes bits (up n) over w long sound s.0 s.1 in
    after_step up top t nodes n s.0 r long (omega arith) a.long a.sound (λ n_lt. (a.known_is, a.ended)) (λ ge. absurd (omega arith)) s.2

-- what was read is the query's bits for all values that agree with what is known afterwards
pub record WasRead (values : ℕ → ℕ) (t : ℕ) (nodes : List Node) (ways : List ℕ) (bits : List Bool) (r : Scanned) : Type 0 where
  pub before : Agree values nodes
  pub nodes_are : r.nodes ≡ (walk values t nodes ways).nodes
  pub known_is : r.known ≡ (walk values t nodes ways).known
  pub bits_are : bits ≡ (walk values t nodes ways).bits ++ r.rest

-- at one node
read_step : (values : ℕ → ℕ) (t : ℕ) (nodes : List Node) (n : ℕ) (over : List ℕ) (bits : List Bool) (a r : Scanned) → n < length a.nodes →
    (Agree values a.nodes → WasRead values t nodes over bits a) → scan_node t n a ≡ Some r → Agree values r.nodes → WasRead values t nodes (n ∷ over) bits r
read_step values t nodes n over bits a r lt again h agree = by (scan_one t (node_at a.nodes n) a.known a.rest) refl h
  where
    by : (o : Option Found) → scan_one t (node_at a.nodes n) a.known a.rest ≡ o → option_map (scanned n a) o ≡ Some r → WasRead values t nodes (n ∷ over) bits r
    by None eq e = absurd cc
    by (Some f) eq e =
        let is : r ≡ scanned n a f = cc in
        let agree' : Agree values (set a.nodes n f.node) = subst (λ (s : Scanned). Agree values s.nodes) is agree in
        let fits : IsValueOf f.node (values n) = subst (λ (y : Node). IsValueOf y (values n)) (at_same a.nodes n f.node lt) (agree' n) in
        let one = one_read t (node_at a.nodes n) a.known a.rest f (values n) eq fits in
        let w : WasRead values t nodes over bits a = again (kept_before (λ q y. IsValueOf y (values q)) a.nodes n f.node one.0 agree') in
        let above : Walk = walk values t nodes over in
        let node_is : node_at a.nodes n ≡ node_at above.nodes n = ap (λ (l : List Node). node_at l n) w.nodes_are in
        let start_is : max (node_at a.nodes n).known a.known ≡ max (node_at above.nodes n).known above.known =
        ap (λ (y : Node). max y.known a.known) node_is ∙ ap (λ (k : ℕ). max (node_at above.nodes n).known k) w.known_is in
        let after_is : f.node ≡ node_after (node_at above.nodes n) (max (node_at above.nodes n).known above.known) (values n) t =
        one.1 ∙ ap (λ (y : Node). node_after y (max (node_at a.nodes n).known a.known) (values n) t) node_is
        ∙ ap (λ (k : ℕ). node_after (node_at above.nodes n) k (values n) t) start_is in
        let bits_is : a.rest ≡ node_bits (node_at above.nodes n) (max (node_at above.nodes n).known above.known) (values n) t ++ f.rest =
        one.2 ∙ ap (λ (y : Node). node_bits y (max (node_at a.nodes n).known a.known) (values n) t ++ f.rest) node_is
        ∙ ap (λ (k : ℕ). node_bits (node_at above.nodes n) k (values n) t ++ f.rest) start_is in
        subst (λ (s : Scanned). WasRead values t nodes (n ∷ over) bits s) (sym is) (record {
          before = w.before;
          nodes_are = ap (λ (l : List Node). set l n f.node) w.nodes_are ∙ ap (λ (y : Node). set above.nodes n y) after_is;
          known_is = ap (λ (y : Node). max a.known y.known) after_is ∙ ap (λ (k : ℕ). max k (node_after (node_at above.nodes n) (max (node_at above.nodes n).known above.known) (values n) t).known) w.known_is;
          bits_are = w.bits_are ∙ ap (λ (l : List Bool). above.bits ++ l) bits_is
              ∙ sym (append_assoc above.bits (node_bits (node_at above.nodes n) (max (node_at above.nodes n).known above.known) (values n) t) f.rest);
        })

pub scan_read : (up : ℕ → ℕ) (top t : ℕ) (nodes : List Node) (bits : List Bool) (n : ℕ) (ways : List ℕ) → IsWay up top n ways → top < length nodes → Sound up top nodes →
    (r : Scanned) → scan_way t nodes ways bits ≡ Some r → (values : ℕ → ℕ) → Agree values r.nodes → WasRead values t nodes ways bits r
scan_read up top t nodes bits n ways at_top long sound r h values agree =
    read_step values t nodes top [] bits (scanned_of nodes 0 bits) r long
    (λ ag. record { before = ag; nodes_are = refl; known_is = refl; bits_are = refl }) h agree
scan_read up top t nodes bits _ _ (under {n} {over} lt w) long sound r h values agree =
    let s = split_way t n (scan_way t nodes over bits) r h in
    let a : After up top t nodes (up n) s.0 = scan_sound up top t nodes bits (up n) over w long sound s.0 s.1 in
    let same : length s.0.nodes ≡ length nodes = a.long in
    read_step values t nodes n over bits s.0 r (omega arith)
    (λ ag. scan_read up top t nodes bits (up n) over w long sound s.0 s.1 values ag) s.2 agree

-- the bits of values that agree with what is known are read as those of these values
pub record IsRead (values : ℕ → ℕ) (t : ℕ) (nodes : List Node) (n : ℕ) (ways : List ℕ) (bits rest : List Bool) : Type 0 where
  pub reads : scan_way t nodes ways bits ≡ Some (scanned_of (walk values t nodes ways).nodes (walk values t nodes ways).known rest)
  pub agree : Agree values (walk values t nodes ways).nodes
  pub below : (walk values t nodes ways).known ≤ values n
  pub long : length (walk values t nodes ways).nodes ≡ length nodes

only_step : (values : ℕ → ℕ) (t : ℕ) (nodes : List Node) (n : ℕ) (over : List ℕ) (bits rest : List Bool) →
    n < length nodes → (walk values t nodes over).known ≤ values n → Agree values (walk values t nodes over).nodes → length (walk values t nodes over).nodes ≡ length nodes →
    scan_way t nodes over bits ≡ Some (scanned_of (walk values t nodes over).nodes (walk values t nodes over).known
    (node_bits (node_at (walk values t nodes over).nodes n) (max (node_at (walk values t nodes over).nodes n).known (walk values t nodes over).known) (values n) t ++ rest)) →
    IsRead values t nodes n (n ∷ over) bits rest
only_step values t nodes n over bits rest lt le agree long h =
    let above : Walk = walk values t nodes over in
    let node : Node = node_at above.nodes n in
    let one = one_only t node above.known rest (values n) (agree n) le in
    let lt' : n < length above.nodes = omega arith in
    record {
      reads = ap (option_and_then (scan_node t n)) h ∙ ap (option_map (scanned n (scanned_of above.nodes above.known []))) one.0;
      agree = kept (λ q y. IsValueOf y (values q)) above.nodes n (node_after node (max node.known above.known) (values n) t) lt' one.1 agree;
      below = (let l : (node_after node (max node.known above.known) (values n) t).known ≤ values n = one.1.known in omega arith);
      long = length-set above.nodes n (node_after node (max node.known above.known) (values n) t) ∙ long;
    }

pub scan_only : (up : ℕ → ℕ) (top t : ℕ) (nodes : List Node) (n : ℕ) (ways : List ℕ) → IsWay up top n ways → top < length nodes →
    (values : ℕ → ℕ) → Rising up top values → Agree values nodes → (bits rest : List Bool) → bits ≡ (walk values t nodes ways).bits ++ rest → IsRead values t nodes n ways bits rest
scan_only up top t nodes n ways at_top long values rising agree bits rest h =
    only_step values t nodes top [] bits rest long (omega arith) agree refl (ap (λ (l : List Bool). Some (scanned_of nodes 0 l)) h)
scan_only up top t nodes _ _ (under {n} {over} lt w) long values rising agree bits rest h =
    let above : Walk = walk values t nodes over in
    let b = node_bits (node_at above.nodes n) (max (node_at above.nodes n).known above.known) (values n) t in
    let i : IsRead values t nodes (up n) over bits (b ++ rest) = scan_only up top t nodes (up n) over w long values rising agree bits (b ++ rest) (h ∙ append_assoc above.bits b rest) in
    let le : above.known ≤ values (up n) = i.below in
    let rise : values (up n) ≤ values n = rising n lt in
    only_step values t nodes n over bits rest (omega arith) (omega arith) i.agree i.long i.reads

-- what the last node of a way is at least isn't more than its value
pub read_below : (up : ℕ → ℕ) (top t : ℕ) (nodes : List Node) (bits : List Bool) (n : ℕ) (ways : List ℕ) → IsWay up top n ways → top < length nodes → Sound up top nodes →
    (r : Scanned) → scan_way t nodes ways bits ≡ Some r → (values : ℕ → ℕ) → Rising up top values → Agree values r.nodes → r.known ≤ values n
read_below up top t nodes bits n ways w long sound r h values rising agree =
    let s : WasRead values t nodes ways bits r = scan_read up top t nodes bits n ways w long sound r h values agree in
    let i : IsRead values t nodes n ways bits r.rest = scan_only up top t nodes n ways w long values rising s.before bits r.rest s.bits_are in
    let same : r.known ≡ (walk values t nodes ways).known = s.known_is in
    let le : (walk values t nodes ways).known ≤ values n = i.below in
    omega arith

-- whether a value is below the threshold, as what is known of it says
pub answer_is : (t : ℕ) (node : Node) (known m : ℕ) → IsValueOf node m → known ≤ m → (node.settled ≡ true → known ≡ node.known) → (node.settled ≡ true) ⊎ (t ≤ known) →
    (node.settled && nat_lt known t) ≡ nat_lt m t
answer_is t node known m fits le known_is ended = by node.settled refl
  where
    by : (b : Bool) → node.settled ≡ b → (b && nat_lt known t) ≡ nat_lt m t
    by true e = ap (λ (k : ℕ). nat_lt k t) (known_is e ∙ fits.settled e)
    by false e =
        let ge : t ≤ known = elim ended [ inl s ↦ absurd cc | inr ge ↦ ge ] in
        let no : nat_lt m t ≡ false = grind (arith, nat_tests) in sym no

-- ---- below a node that isn't settled nothing is read
quiet : (t n : ℕ) (nodes : List Node) (known : ℕ) (rest : List Bool) → (node_at nodes n).settled ≡ false → t ≤ known →
    scan_node t n (record { nodes = nodes; known = known; rest = rest }) ≡ Some (record { nodes = nodes; known = max known (node_at nodes n).known; rest = rest })
quiet t n nodes known rest unsettled le =
    let node : Node = node_at nodes n in
    let a : Scanned = record { nodes = nodes; known = known; rest = rest } in
    let past : nat_le t (max node.known known) ≡ true = grind (arith, nat_tests) in
    ap (λ (b : Bool). option_map (scanned n a) (cond (b || nat_le t (max node.known known)) (Some (found_of node rest)) (option_map (found (max node.known known)) (scan (t - max node.known known) rest)))) unsettled
    ∙ ap (λ (b : Bool). option_map (scanned n a) (cond b (Some (found_of node rest)) (option_map (found (max node.known known)) (scan (t - max node.known known) rest)))) past
    ∙ ap (λ (l : List Node). let s : Scanned = record { nodes = l; known = max known node.known; rest = rest } in Some s) (set-get_or nodes n unknown)

-- the same of a walk
abbrev pub walk_at : List Node → ℕ → List Bool → Walk
walk_at nodes known bits = record { nodes = nodes; known = known; bits = bits }

abbrev pub walked : List Node → ℕ → Walk
walked nodes known = walk_at nodes known []

abbrev pub told_node : Bool → Node → ℕ → ℕ → ℕ → Node
told_node b node start m t = cond b node (record { known = max start (min m t); settled = nat_lt m t })

abbrev pub told_bits : Bool → ℕ → ℕ → ℕ → List Bool
told_bits b start m t = cond b [] (replicate (min m t - start) false ++ cond (nat_lt m t) (true ∷ []) [])

-- at a node that isn't settled, under what reaches the threshold
pub stepped_is : (values : ℕ → ℕ) (t n : ℕ) (nodes : List Node) (known : ℕ) → (node_at nodes n).settled ≡ false → t ≤ max (node_at nodes n).known known →
    step values t n (walked nodes known) ≡ walked nodes (max known (node_at nodes n).known)
stepped_is values t n nodes known unsettled le =
    let node : Node = node_at nodes n in
    let start : ℕ = max node.known known in
    let past : is_told node start t ≡ true = (let le' : nat_le t start ≡ true = grind (arith, nat_tests) in ap (λ (b : Bool). b || nat_le t start) unsettled ∙ le') in
    ap (λ (b : Bool). walk_at (set nodes n (told_node b node start (values n) t)) (max known (told_node b node start (values n) t).known) (told_bits b start (values n) t)) past
    ∙ ap (λ (l : List Node). walked l (max known node.known)) (set-get_or nodes n unknown)

-- a node under one that isn't settled isn't either
pub unsettled_under : (up : ℕ → ℕ) (top : ℕ) (nodes : List Node) (n : ℕ) → Sound up top nodes → n < top → (node_at nodes (up n)).settled ≡ false → (node_at nodes n).settled ≡ false
unsettled_under up top nodes n sound lt unsettled = by (node_at nodes n).settled refl
  where
    by : (b : Bool) → (node_at nodes n).settled ≡ b → b ≡ false
    by false e = refl
    by true e = absurd (let s = sound n lt e in let x : true ≡ false = sym s.0 ∙ unsettled in cc)

-- a way of which a part was read, up to a node that isn't settled
pub record Stopped (t : ℕ) (nodes : List Node) (n : ℕ) (ways : List ℕ) (bits : List Bool) (a : Scanned) : Type 0 where
  pub known : ℕ
  pub read : scan_way t nodes ways bits ≡ Some (scanned_of a.nodes known a.rest)
  pub reached : t ≤ known
  pub unsettled : (node_at a.nodes n).settled ≡ false

stopped_here : (up : ℕ → ℕ) (top t : ℕ) (nodes : List Node) (bits : List Bool) (n : ℕ) (ways : List ℕ) → IsWay up top n ways → top < length nodes → Sound up top nodes →
    (a : Scanned) → scan_way t nodes ways bits ≡ Some a → (node_at a.nodes n).settled ≡ false → Stopped t nodes n ways bits a
stopped_here up top t nodes bits n ways w long sound a h unsettled =
    let f : After up top t nodes n a = scan_sound up top t nodes bits n ways w long sound a h in
    record { known = a.known; read = h; reached = elim f.ended [ inl s ↦ absurd (let x : true ≡ false = sym s ∙ unsettled in cc) | inr le ↦ le ]; unsettled = unsettled }

pub stops : (up : ℕ → ℕ) (top t : ℕ) (nodes : List Node) (bits : List Bool) (n : ℕ) (ways : List ℕ) → IsWay up top n ways → top < length nodes → Sound up top nodes →
    (k : ℕ) → k < length ways → (a : Scanned) → scan_way t nodes (drop k ways) bits ≡ Some a → (node_at a.nodes (get_or ways k 0)).settled ≡ false → Stopped t nodes n ways bits a
stops up top t nodes bits _ _ at_top long sound zero lt a h unsettled = stopped_here up top t nodes bits top (top ∷ []) at_top long sound a h unsettled
stops up top t nodes bits _ _ at_top long sound (suc k) lt a h unsettled = absurd (omega arith)
stops up top t nodes bits _ _ (under {n} {over} n_lt w) long sound zero lt a h unsettled = stopped_here up top t nodes bits n (n ∷ over) (under n_lt w) long sound a h unsettled
stops up top t nodes bits _ _ (under {n} {over} n_lt w) long sound (suc k) lt a h unsettled =
    let s : Stopped t nodes (up n) over bits a = stops up top t nodes bits (up n) over w long sound k (omega arith) a h unsettled in
    let f : After up top t nodes (up n) (scanned_of a.nodes s.known a.rest) = scan_sound up top t nodes bits (up n) over w long sound (scanned_of a.nodes s.known a.rest) s.read in
    let here : (node_at a.nodes n).settled ≡ false = unsettled_under up top a.nodes n f.sound n_lt s.unsettled in
    let reached : t ≤ s.known = s.reached in
    record {
      known = max s.known (node_at a.nodes n).known;
      read = ap (option_and_then (scan_node t n)) s.read ∙ quiet t n a.nodes s.known a.rest here reached;
      reached = omega arith;
      unsettled = here;
    }

pub way_head : (up : ℕ → ℕ) (top n : ℕ) (ways : List ℕ) → IsWay up top n ways → (get_or ways 0 0 ≡ n) × (0 < length ways)
way_head up top _ _ at_top = (refl, omega arith)
way_head up top _ _ (under {n} {over} lt w) = (refl, omega arith)

-- ---- a query in a tree
-- the upper part of a way keeps what can be known
pub part_sound : (up : ℕ → ℕ) (top t : ℕ) (nodes : List Node) (bits : List Bool) (n : ℕ) (ways : List ℕ) → IsWay up top n ways → top < length nodes → Sound up top nodes →
    (k : ℕ) (r : Scanned) → scan_way t nodes (drop k ways) bits ≡ Some r → (length r.nodes ≡ length nodes) × Sound up top r.nodes
part_sound up top t nodes bits n ways w long sound zero r h = let a = scan_sound up top t nodes bits n ways w long sound r h in (a.long, a.sound)
part_sound up top t nodes bits _ _ at_top long sound (suc zero) r h = let is : scanned_of nodes 0 bits ≡ r = cc in subst (λ (s : Scanned). (length s.nodes ≡ length nodes) × Sound up top s.nodes) is (refl, sound)
part_sound up top t nodes bits _ _ at_top long sound (suc (suc k)) r h = let is : scanned_of nodes 0 bits ≡ r = cc in subst (λ (s : Scanned). (length s.nodes ≡ length nodes) × Sound up top s.nodes) is (refl, sound)
part_sound up top t nodes bits _ _ (under {n} {over} lt w) long sound (suc k) r h = part_sound up top t nodes bits (up n) over w long sound k r h

abbrev pub tree_of : ℕ → ℕ → List Node → Tree
tree_of wide high nodes = record { wide = wide; high = high; nodes = nodes }

module _ (wide high leaf t : ℕ) (inside : leaf < wide * high) (nodes : List Node) (keeps : KeepsTree wide high nodes) where
  here : IsWay (parent wide high) (root wide high) leaf (way wide high leaf)
  here = way_is wide high leaf keeps.shape inside

  long_enough : root wide high < length nodes
  long_enough = let e : length nodes ≡ root wide high + 1 = keeps.long in omega arith

  pub in_range : (k : ℕ) → k < length (way wide high leaf) → get_or (way wide high leaf) k 0 < length nodes
  in_range k lt = let le : get_or (way wide high leaf) k 0 ≤ root wide high = way_under (parent wide high) (root wide high) leaf (way wide high leaf) here k lt in
      let e : length nodes ≡ root wide high + 1 = keeps.long in omega arith

  pub part_keeps : (bits : List Bool) (new : List Node) → PartRead t nodes (way wide high leaf) bits new → KeepsTree wide high new
  part_keeps bits new p =
      let s = part_sound (parent wide high) (root wide high) t nodes bits leaf (way wide high leaf) here long_enough keeps.sound p.place (scanned_of new p.known p.rest) p.read in
      record { shape = keeps.shape; long = s.0 ∙ keeps.long; sound = s.1 }

  pub read_keeps : (bits rest : List Bool) (new : List Node) (known : ℕ) → scan_way t nodes (way wide high leaf) bits ≡ Some (scanned_of new known rest) → KeepsTree wide high new
  read_keeps bits rest new known h =
      let a = scan_sound (parent wide high) (root wide high) t nodes bits leaf (way wide high leaf) here long_enough keeps.sound (scanned_of new known rest) h in
      record { shape = keeps.shape; long = a.long ∙ keeps.long; sound = a.sound }

  pub reach_read : (from to : Reading) (new : List Node) (known : ℕ) → scan_way t nodes (way wide high leaf) (to_come from) ≡ Some (scanned_of new known (to_come to)) → Took from to →
      (values : ℕ → ℕ) → ValuesOf (tree_of wide high new) values →
      HasRead values leaf t ((node_at new leaf).settled && nat_lt known t) (tree_of wide high nodes) from (tree_of wide high new) to
  reach_read from to new known h took values v =
      let a = scan_sound (parent wide high) (root wide high) t nodes (to_come from) leaf (way wide high leaf) here long_enough keeps.sound (scanned_of new known (to_come to)) h in
      let w = scan_read (parent wide high) (root wide high) t nodes (to_come from) leaf (way wide high leaf) here long_enough keeps.sound (scanned_of new known (to_come to)) h values v.agree in
      let bits = (walk values t nodes (way wide high leaf)).bits in
      let given : took.0 ≡ bits = append_cancel_right took.0 bits (to_come to) (sym took.1 ∙ w.bits_are) in
      record {
        before = record { are = v.are; agree = w.before };
        bits = w.bits_are;
        place = took.2 ∙ ap (λ (l : List Bool). advance from (length l)) given;
        answer = answer_is t (node_at new leaf) known (values leaf) (v.agree leaf)
            (read_below (parent wide high) (root wide high) t nodes (to_come from) leaf (way wide high leaf) here long_enough keeps.sound (scanned_of new known (to_come to)) h values v.are v.agree)
            a.known_is a.ended;
        after = ap (λ (l : List Node). tree_of wide high l) w.nodes_are;
        still = v;
      }

  -- values that agree before and whose bits stand there agree afterwards
  pub reach_only : (from to : Reading) (new : List Node) (known : ℕ) → scan_way t nodes (way wide high leaf) (to_come from) ≡ Some (scanned_of new known (to_come to)) →
      (values : ℕ → ℕ) → ValuesOf (tree_of wide high nodes) values → (rest : List Bool) → to_come from ≡ (query values (tree_of wide high nodes) leaf t).bits ++ rest →
      ValuesOf (tree_of wide high new) values
  reach_only from to new known h values v rest stands =
      let i = scan_only (parent wide high) (root wide high) t nodes leaf (way wide high leaf) here long_enough values v.are v.agree (to_come from) rest stands in
      let same : scanned_of (walk values t nodes (way wide high leaf)).nodes (walk values t nodes (way wide high leaf)).known rest ≡ scanned_of new known (to_come to) =
      some_same (sym i.reads ∙ h) in
      record { are = v.are; agree = subst (λ (l : List Node). Agree values l) (ap (λ (s : Scanned). s.nodes) same) i.agree }
    where
      some_same : {x y : Scanned} → Some x ≡ Some y → x ≡ y
      some_same e = cc

  -- where the bits aren't there, no values have them
  pub reach_none : (from : Reading) → scan_way t nodes (way wide high leaf) (to_come from) ≡ None →
      (values : ℕ → ℕ) → ValuesOf (tree_of wide high nodes) values → (rest : List Bool) → to_come from ≡ (query values (tree_of wide high nodes) leaf t).bits ++ rest → ⊥
  reach_none from h values v rest stands =
      let i = scan_only (parent wide high) (root wide high) t nodes leaf (way wide high leaf) here long_enough values v.are v.agree (to_come from) rest stands in
      let e : Some (scanned_of (walk values t nodes (way wide high leaf)).nodes (walk values t nodes (way wide high leaf)).known rest) ≡ None = sym i.reads ∙ h in
      cc

-- the same for a call, whose tree is seen by its view
module _ (wide high leaf t : ℕ) (nodes : List Node) (keeps : KeepsTree wide high nodes) (tree : Tree) (view : tree_of wide high nodes ≡ tree) (inside : leaf < tree.wide * tree.high)
    (ways : List ℕ) (ways_are : ways ≡ way wide high leaf) where
  in_tree : leaf < wide * high
  in_tree = subst (λ (s : Tree). leaf < s.wide * s.high) (sym view) inside

  pub call_way : IsWayIn nodes leaf ways
  call_way = record { wide = wide; high = high; tree = keeps; inside = in_tree; is = ways_are }

  pub call_part : (bits : List Bool) (new : List Node) → PartRead t nodes ways bits new → KeepsTree wide high new
  call_part bits new p = part_keeps wide high leaf t in_tree nodes keeps bits new (subst (λ (w : List ℕ). PartRead t nodes w bits new) ways_are p)

  pub call_keeps : (bits rest : List Bool) (new : List Node) (known : ℕ) → scan_way t nodes ways bits ≡ Some (scanned_of new known rest) → KeepsTree wide high new
  call_keeps bits rest new known h = read_keeps wide high leaf t in_tree nodes keeps bits rest new known (subst (λ (w : List ℕ). scan_way t nodes w bits ≡ Some (scanned_of new known rest)) ways_are h)

  pub call_read : (from to : Reading) (new : List Node) (below : Bool) → WayRead t nodes leaf ways (to_come from) below new (to_come to) → Took from to →
      (values : ℕ → ℕ) → ValuesOf (tree_of wide high new) values → HasRead values leaf t below tree from (tree_of wide high new) to
  call_read from to new below h took values v =
      let r = reach_read wide high leaf t in_tree nodes keeps from to new h.known (subst (λ (w : List ℕ). scan_way t nodes w (to_come from) ≡ Some (scanned_of new h.known (to_come to))) ways_are h.read) took values v in
      let r' : HasRead values leaf t below (tree_of wide high nodes) from (tree_of wide high new) to =
      subst (λ (b : Bool). HasRead values leaf t b (tree_of wide high nodes) from (tree_of wide high new) to) (sym h.answer) r in
      subst (λ (s : Tree). HasRead values leaf t below s from (tree_of wide high new) to) view r'

  pub call_only : (from to : Reading) (new : List Node) (known : ℕ) → scan_way t nodes ways (to_come from) ≡ Some (scanned_of new known (to_come to)) →
      (values : ℕ → ℕ) → ValuesOf tree values → (rest : List Bool) → to_come from ≡ (query values tree leaf t).bits ++ rest → ValuesOf (tree_of wide high new) values
  call_only from to new known h values v rest stands =
      reach_only wide high leaf t in_tree nodes keeps from to new known (subst (λ (w : List ℕ). scan_way t nodes w (to_come from) ≡ Some (scanned_of new known (to_come to))) ways_are h)
      values (subst (λ (s : Tree). ValuesOf s values) (sym view) v) rest (subst (λ (s : Tree). to_come from ≡ (query values s leaf t).bits ++ rest) (sym view) stands)

  pub call_none : (from : Reading) → scan_way t nodes ways (to_come from) ≡ None →
      (values : ℕ → ℕ) → ValuesOf tree values → (rest : List Bool) → to_come from ≡ (query values tree leaf t).bits ++ rest → ⊥
  call_none from h values v rest stands =
      reach_none wide high leaf t in_tree nodes keeps from (subst (λ (w : List ℕ). scan_way t nodes w (to_come from) ≡ None) ways_are h)
      values (subst (λ (s : Tree). ValuesOf s values) (sym view) v) rest (subst (λ (s : Tree). to_come from ≡ (query values s leaf t).bits ++ rest) (sym view) stands)

-- ---- a way in a tag tree's nodes
module _ (nodes : List Node) (leaf : ℕ) (ways : List ℕ) (w : IsWayIn nodes leaf ways) where
  way_there : IsWay (parent w.wide w.high) (root w.wide w.high) leaf ways
  way_there = subst (λ (ws : List ℕ). IsWay (parent w.wide w.high) (root w.wide w.high) leaf ws) (sym w.is) (way_is w.wide w.high leaf w.tree.shape w.inside)

  long_there : root w.wide w.high < length nodes
  long_there = let e : length nodes ≡ root w.wide w.high + 1 = w.tree.long in omega arith

  pub way_range : (k : ℕ) → k < length ways → get_or ways k 0 < length nodes
  way_range k lt = let le : get_or ways k 0 ≤ root w.wide w.high = way_under (parent w.wide w.high) (root w.wide w.high) leaf ways way_there k lt in
      let e : length nodes ≡ root w.wide w.high + 1 = w.tree.long in omega arith

  -- all its nodes were read
  pub way_whole : (t : ℕ) (bits : List Bool) (new : List Node) (above place : ℕ) (rest : List Bool) → place ≡ 0 →
      scan_way t nodes (drop place ways) bits ≡ Some (scanned_of new above rest) → (place < length ways → (node_at new (get_or ways place 0)).settled ≡ true) → (below : Bool) → below ≡ nat_lt above t →
      WayRead t nodes leaf ways bits below new rest
  way_whole t bits new above place rest none read settled below is =
      let head = way_head (parent w.wide w.high) (root w.wide w.high) leaf ways way_there in
      let some : 0 < length ways = head.1 in
      let s : (node_at new (get_or ways place 0)).settled ≡ true = settled (omega arith) in
      let s' : (node_at new leaf).settled ≡ true = ap (λ (n : ℕ). (node_at new n).settled) (sym (ap (λ (k : ℕ). get_or ways k 0) none ∙ head.0)) ∙ s in
      record {
        known = above;
        read = subst (λ (k : ℕ). scan_way t nodes (drop k ways) bits ≡ Some (scanned_of new above rest)) none read;
        answer = is ∙ ap (λ (b : Bool). b && nat_lt above t) (sym s');
      }

  -- its nodes were read up to one that isn't settled
  pub way_stopped : (t : ℕ) (bits : List Bool) (new : List Node) (above place : ℕ) (rest : List Bool) → place < length ways →
      scan_way t nodes (drop place ways) bits ≡ Some (scanned_of new above rest) → (node_at new (get_or ways place 0)).settled ≡ false → WayRead t nodes leaf ways bits false new rest
  way_stopped t bits new above place rest lt read unsettled =
      let s : Stopped t nodes leaf ways bits (scanned_of new above rest) =
      stops (parent w.wide w.high) (root w.wide w.high) t nodes bits leaf ways way_there long_there w.tree.sound place lt (scanned_of new above rest) read unsettled in
      record {
        known = s.known;
        read = s.read;
        answer = ap (λ (b : Bool). b && nat_lt s.known t) (sym s.unsettled);
      }
