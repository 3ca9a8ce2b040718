-- First packets in the order of their numbers, each with those that stand together with it, are packets in the order of their keys.
use Rattle.std.proofs.Common.{◌≡◌, ◌≢◌, ℕ, ◌+◌, ◌<◌, Bool, true, false, List, [], ◌∷◌, inl, inr, ◌⊎◌, ◌↔◌, ◌∙◌, ap, sym, subst, refl, arith, length, get_or, min}
use Rattle.std.proofs.lemmas.Bool.{cases_Bool, cases_lt}
use Rattle.std.proofs.lemmas.List.Elements.{Contains-get_or}
use Rattle.std.proofs.lemmas.List.Sorted.{Contains-permutation, IsPermutation-sym}
use Rattle.std.proofs.lemmas.Map.Keys.{IsDistinct-IsPermutation, IsDistinct-from_apart, apart_from_distinct}
use Rattle.std.specs.List.{All, AllPairs, Contains, flat_map}
use Rattle.std.specs.List.Sorted.{IsPermutation}
use Rattle.jx_base.proofs.Joined.{joined_pairs}
use Rattle.jx_base.proofs.Lists.{pairs_from_next}
use Rattle.jx_geom.specs.declared.table.Resolution.{Resolution}
use Rattle.jx_geom.specs.Geometry.{Geometry, GeometryInRange}
use Rattle.jx_marker.specs.declared.Progression.{Progression}
use Rattle.jx_progression.specs.declared.names.PacketName.{PacketName}
use Rattle.jx_progression.specs.declared.keys.Order.{Order}
use Rattle.jx_progression.specs.Orders.{IsLess, ComesBefore, order_of}
use Rattle.jx_progression.specs.Steps.{AreSorted, Lists, all_heads, by_layer, count_of, group_names, group_size, name_of, numbers_of, one_layer, one_layer_head, one_precinct, one_precinct_head, row_heads, sent_at, sort_key}
use Rattle.jx_progression.specs.Tables.{AreHeads}
use Rattle.jx_progression.proofs.FlatLemmas.{flat_from, flat_has, flat_pairs}
use Rattle.jx_progression.proofs.GroupLemmas.{IsFirst, Listed, head_to, in_group, layer_names, layers_are, name_listed, no_heads, one_has, precinct_names, precincts_are, some_names, stands_in}
use Rattle.jx_progression.proofs.LessLemmas.{less_trans}
use Rattle.jx_progression.proofs.OrderCases.{head_layer, head_less, head_of, head_precinct, head_row, key_is, layer_rises, layer_shares, precinct_rises, precinct_shares}
use Rattle.jx_progression.proofs.OrderLemmas.{same_fields, same_or}

-- ---- none is listed twice
abbrev pub Apart : PacketName → PacketName → Type 0
Apart x y = x ≢ y

one_pairs : (x : PacketName) → AllPairs Apart (x ∷ [])
one_pairs x i j d lt below = absurd (omega arith)

layers_apart : (q : Resolution) (m n : ℕ) (x y : PacketName) → m < n → Contains (one_layer_head q m) x → Contains (one_layer_head q n) y → Apart x y
layers_apart q m n x y lt hx hy same =
    let ex : x.layer ≡ m = ap (λ (w : PacketName). w.layer) (one_has (name_of m q.res q.comp 0) x hx) in
    let ey : y.layer ≡ n = ap (λ (w : PacketName). w.layer) (one_has (name_of n q.res q.comp 0) y hy) in
    omega (arith, ap (λ (w : PacketName). w.layer) same)

precincts_apart : (q : Resolution) (from m n : ℕ) (x y : PacketName) → m < n → Contains (one_precinct_head q from m) x
    → Contains (one_precinct_head q from n) y → Apart x y
precincts_apart q from m n x y lt hx hy same =
    let ex : x.precinct ≡ m = ap (λ (w : PacketName). w.precinct) (one_has (name_of from q.res q.comp m) x hx) in
    let ey : y.precinct ≡ n = ap (λ (w : PacketName). w.precinct) (one_has (name_of from q.res q.comp n) y hy) in
    omega (arith, ap (λ (w : PacketName). w.precinct) same)

pub row_apart : (o : Order) (q : Resolution) (from to : ℕ) → AllPairs Apart (row_heads o q from to)
row_apart o q from to =
    let P : List PacketName → Type 0 = λ xs. AllPairs Apart xs in
    elim (cases_Bool (by_layer o)) [
      | inl h ↦
          subst P (sym (layers_are o q from to h)) (joined_pairs Apart (one_layer_head q) from to (λ n. one_pairs (name_of n q.res q.comp 0)) (layers_apart q))
      | inr h ↦ elim (cases_lt from to) [
        | inl some ↦
            subst P (sym (precincts_are o q from to h some))
            (joined_pairs Apart (one_precinct_head q from) 0 q.precincts (λ n. one_pairs (name_of from q.res q.comp n)) (precincts_apart q from))
        | inr none ↦ subst P (sym (no_heads o q from to h none)) (λ m n d lt below. absurd (omega arith))
      ]
    ]

-- ---- nor after a change of places
abbrev decided : (x y : PacketName) → (x ≡ y) ⊎ (x ≢ y) → Bool
decided x y (inl e) = true
decided x y (inr other) = false

abbrev is_one : PacketName → PacketName → Bool
is_one x y = decided x y (same_or x y)

decided_false : (x y : PacketName) (d : (x ≡ y) ⊎ (x ≢ y)) → Apart x y → decided x y d ≡ false
decided_false x y (inl e) h = absurd (h e)
decided_false x y (inr other) h = refl

decided_other : (x y : PacketName) (d : (x ≡ y) ⊎ (x ≢ y)) → decided x y d ≡ false → Apart x y
decided_other x y (inl e) h = absurd (cc)
decided_other x y (inr other) h = other

decided_flips : (x y : PacketName) (d : (x ≡ y) ⊎ (x ≢ y)) (f : (y ≡ x) ⊎ (y ≢ x)) → decided x y d ≡ decided y x f
decided_flips x y (inl e) (inl f) = refl
decided_flips x y (inl e) (inr f) = absurd (f (sym e))
decided_flips x y (inr e) (inl f) = absurd (e (sym f))
decided_flips x y (inr e) (inr f) = refl

pairs_permuted : (xs ys : List PacketName) → IsPermutation xs ys → AllPairs Apart xs → AllPairs Apart ys
pairs_permuted xs ys moved h =
    let flips : (x y : PacketName) → is_one x y ≡ is_one y x = λ x y. decided_flips x y (same_or x y) (same_or y x) in
    let before = IsDistinct-from_apart is_one xs (λ i j d lt below.
    decided_false (get_or xs i d) (get_or xs j d) (same_or (get_or xs i d) (get_or xs j d)) (h i j d lt below)) in
    let after = IsDistinct-IsPermutation is_one flips xs ys moved before in
    λ i j d lt below. decided_other (get_or ys i d) (get_or ys j d) (same_or (get_or ys i d) (get_or ys j d))
    (apart_from_distinct is_one ys i j d after lt below)

-- ---- the packets of a group share what they are sorted by
shares : (g : Geometry) (o : Order) (end : ℕ) (x p : PacketName) → Contains (group_names g o end x) p → head_of g o p ≡ head_of g o x
shares g o end x p c =
    let s = stands_in g o end x p c in
    elim (cases_Bool (by_layer o)) [
      | inl h ↦ ap (λ (q : PacketName). head_of g o q) (s.layer h).1 ∙ layer_shares g o x p.precinct h
      | inr h ↦ ap (λ (q : PacketName). head_of g o q) (s.precinct h).2 ∙ precinct_shares g o x p.layer h
    ]

-- ---- two first packets of one key are one
-- first packets of one head
one_first : (g : Geometry) (layers : ℕ) (e : Progression) (sent : List ℕ) (o : Order) (x y : PacketName) → GeometryInRange g
    → Listed g layers e sent x → Listed g layers e sent y → IsFirst g sent o x → IsFirst g sent o y → head_of g o x ≡ head_of g o y → x ≡ y
one_first g layers e sent o x y range lx ly fx fy same =
    let row = head_row g o x y same in
    elim (cases_Bool (by_layer o)) [
      | inl h ↦ same_fields x y (head_layer g o x y h same) row.res row.comp (fx.precinct h ∙ sym (fy.precinct h))
      | inr h ↦
          let layer : x.layer ≡ y.layer =
          fx.layer h ∙ ap (λ c. sent_at g sent c x.res) row.comp ∙ ap (λ r. sent_at g sent y.comp r) row.res ∙ sym (fy.layer h) in
          same_fields x y layer row.res row.comp (head_precinct g layers o x y range lx.0 ly.0 h same)
    ]

-- ---- packets of one group
pub one_name_pairs : (g : Geometry) (o : Order) (p : PacketName) → AllPairs (ComesBefore g o) (p ∷ [])
one_name_pairs g o p i j d lt below = absurd (omega arith)

moved_before : (g : Geometry) (o : Order) (x y p q : PacketName) → x ≡ p → y ≡ q → ComesBefore g o p q → ComesBefore g o x y
moved_before g o x y p q ex ey h =
    let P : PacketName → Type 0 = λ v. ComesBefore g o v q in
    let Q : PacketName → Type 0 = λ w. ComesBefore g o x w in
    subst Q (sym ey) (subst P (sym ex) h)

names_rise : (g : Geometry) (o : Order) (end : ℕ) (x : PacketName) → AllPairs (ComesBefore g o) (group_names g o end x)
names_rise g o end x =
    let P : List PacketName → Type 0 = λ xs. AllPairs (ComesBefore g o) xs in
    elim (cases_Bool (by_layer o)) [
      | inl h ↦
          subst P (sym (layer_names g o end x h))
          (joined_pairs (ComesBefore g o) (one_precinct x) 0 (count_of g x.comp x.res) (λ k. one_name_pairs g o (name_of x.layer x.res x.comp k))
          (λ i j a b lt ha hb. moved_before g o a b (name_of x.layer x.res x.comp i) (name_of x.layer x.res x.comp j) (one_has _ a ha) (one_has _ b hb)
          (layer_rises g o x i j h lt)))
      | inr h ↦
          subst P (sym (precinct_names g o end x h))
          (joined_pairs (ComesBefore g o) (one_layer x) x.layer end (λ l. one_name_pairs g o (name_of l x.res x.comp x.precinct))
          (λ i j a b lt ha hb. moved_before g o a b (name_of i x.res x.comp x.precinct) (name_of j x.res x.comp x.precinct) (one_has _ a ha) (one_has _ b hb)
          (precinct_rises g o x i j h lt)))
    ]

-- ---- what is listed and sorted is what the entry sends
abbrev pub names_of : Geometry → ℕ → Progression → List PacketName → List PacketName
names_of g layers e ys = flat_map (group_names g (order_of e.order) (min e.lye layers)) ys

abbrev Before : Geometry → Order → PacketName → PacketName → Type 0
Before g o x y = IsLess (head_of g o x) (head_of g o y)

pub exact_names : (g : Geometry) (layers : ℕ) (e : Progression) (sent : List ℕ) (ys : List PacketName)
    → ((x : PacketName) → Contains ys x → Contains (all_heads g layers e sent) x)
    → ((x : PacketName) → Contains (all_heads g layers e sent) x → Contains ys x)
    → (p : PacketName) → Contains (names_of g layers e ys) p ↔ Listed g layers e sent p
exact_names g layers e sent ys to from p = (
  λ h. (let n = flat_has (group_names g (order_of e.order) (min e.lye layers)) ys p h in
      name_listed g layers e sent (order_of e.order) n.0 p (head_to g layers e sent n.0 (to n.0 n.1)).0 n.2),
  λ h. (let i = in_group g layers e sent p h in
      flat_from (group_names g (order_of e.order) (min e.lye layers)) ys i.first p (from i.first i.there) i.has),
)

heads_sorted : (g : Geometry) (layers : ℕ) (e : Progression) (sent : List ℕ) (ys : List PacketName) → GeometryInRange g
    → ((x : PacketName) → Contains ys x → Contains (all_heads g layers e sent) x) → AllPairs Apart ys → AreSorted g (order_of e.order) ys
    → AllPairs (Before g (order_of e.order)) ys
heads_sorted g layers e sent ys range to apart sorted =
    pairs_from_next (Before g (order_of e.order))
    (λ x y z. less_trans (head_of g (order_of e.order) x) (head_of g (order_of e.order) y) (head_of g (order_of e.order) z)) ys (λ k d below.
    (let here : k < length ys = omega arith in
    let a = head_to g layers e sent (get_or ys k d) (to (get_or ys k d) (Contains-get_or ys k d here)) in
    let b = head_to g layers e sent (get_or ys (k + 1) d) (to (get_or ys (k + 1) d) (Contains-get_or ys (k + 1) d below)) in
    let ex = key_is g layers (order_of e.order) (get_or ys k d) a.0.0 in
    let ey = key_is g layers (order_of e.order) (get_or ys (k + 1) d) b.0.0 in
    let P : List ℕ → Type 0 = λ v. IsLess v (numbers_of (sort_key g (order_of e.order) (get_or ys (k + 1) d))) in
    let Q : List ℕ → Type 0 = λ w. IsLess (head_of g (order_of e.order) (get_or ys k d)) w in
    elim (sorted k d below) [
      | inl less ↦ subst Q ey (subst P ex less)
      | inr same ↦
          absurd (apart k (k + 1) d (omega arith) below (one_first g layers e sent (order_of e.order) (get_or ys k d) (get_or ys (k + 1) d) range a.0 b.0 a.1 b.1
          (sym ex ∙ same ∙ ey)))
    ]))

between : (g : Geometry) (o : Order) (end : ℕ) (x y p q : PacketName) → Before g o x y → Contains (group_names g o end x) p
    → Contains (group_names g o end y) q → ComesBefore g o p q
between g o end x y p q less cp cq =
    let P : List ℕ → Type 0 = λ v. IsLess v (head_of g o y) in
    let Q : List ℕ → Type 0 = λ w. IsLess (head_of g o p) w in
    head_less g o p q (subst Q (sym (shares g o end y q cq)) (subst P (sym (shares g o end x p cp)) less))

pub sorted_lists : (g : Geometry) (layers : ℕ) (e : Progression) (sent : List ℕ) (xs ys : List PacketName) → GeometryInRange g
    → AreHeads g layers e sent xs → IsPermutation xs ys → AreSorted g (order_of e.order) ys → Lists g layers e sent (names_of g layers e ys)
sorted_lists g layers e sent xs ys range made moved sorted =
    let to : (x : PacketName) → Contains ys x → Contains (all_heads g layers e sent) x = λ x h.
    (made.heads x).0 (Contains-permutation ys xs x (IsPermutation-sym xs ys moved) h) in
    let from : (x : PacketName) → Contains (all_heads g layers e sent) x → Contains ys x = λ x h.
    Contains-permutation xs ys x moved ((made.heads x).1 h) in
    let apart : AllPairs Apart ys = pairs_permuted xs ys moved made.once in
    record {
      exact = exact_names g layers e sent ys to from;
      sorted = flat_pairs (Before g (order_of e.order)) (ComesBefore g (order_of e.order)) (group_names g (order_of e.order) (min e.lye layers)) ys
          (heads_sorted g layers e sent ys range to apart sorted) (λ x h. names_rise g (order_of e.order) (min e.lye layers) x)
          (λ x y p q hx hy r cp cq. between g (order_of e.order) (min e.lye layers) x y p q r cp cq);
    }

-- none of them stands for nothing
pub some_each : (g : Geometry) (layers : ℕ) (e : Progression) (sent : List ℕ) (xs ys : List PacketName) → AreHeads g layers e sent xs
    → IsPermutation xs ys → All (λ x. 0 < group_size g (order_of e.order) (min e.lye layers) x) ys
some_each g layers e sent xs ys made moved k d lt =
    some_names g layers e sent (order_of e.order) (get_or ys k d)
    (head_to g layers e sent (get_or ys k d)
    ((made.heads (get_or ys k d)).0 (Contains-permutation ys xs (get_or ys k d) (IsPermutation-sym xs ys moved) (Contains-get_or ys k d lt)))).0

-- ---- the same of an order and an end that are these
pub entry_some : (g : Geometry) (layers : ℕ) (e : Progression) (sent : List ℕ) (o : Order) (end : ℕ) (xs ys zs : List PacketName) → o ≡ order_of e.order
    → end ≡ min e.lye layers → AreHeads g layers e sent xs → IsPermutation xs ys → zs ≡ ys → All (λ x. 0 < group_size g o end x) zs
entry_some g layers e sent o end xs ys zs eo ee made moved same =
    let P : Order → Type 0 = λ v. All (λ x. 0 < group_size g v end x) zs in
    let Q : ℕ → Type 0 = λ n. All (λ x. 0 < group_size g (order_of e.order) n x) zs in
    let R : List PacketName → Type 0 = λ l. All (λ x. 0 < group_size g (order_of e.order) (min e.lye layers) x) l in
    subst P (sym eo) (subst Q (sym ee) (subst R (sym same) (some_each g layers e sent xs ys made moved)))

pub entry_lists : (g : Geometry) (layers : ℕ) (e : Progression) (sent : List ℕ) (o : Order) (end : ℕ) (xs ys zs names : List PacketName) → GeometryInRange g
    → o ≡ order_of e.order → end ≡ min e.lye layers → AreHeads g layers e sent xs → IsPermutation xs ys → AreSorted g o ys → zs ≡ ys
    → names ≡ flat_map (group_names g o end) zs → Lists g layers e sent names
entry_lists g layers e sent o end xs ys zs names range eo ee made moved sorted same is =
    let P : Order → Type 0 = λ v. AreSorted g v ys in
    let L : List PacketName → Type 0 = λ l. Lists g layers e sent l in
    let named : names ≡ names_of g layers e ys =
    is ∙ ap (λ (l : List PacketName). flat_map (group_names g o end) l) same ∙ ap (λ (v : Order). flat_map (group_names g v end) ys) eo
    ∙ ap (λ n. flat_map (group_names g (order_of e.order) n) ys) ee in
    subst L (sym named) (sorted_lists g layers e sent xs ys range made moved (subst P eo sorted))
