-- What an entry lists: the packets that it covers from the first layer that wasn't sent, each once. Each stands together with a first one.
use Rattle.std.proofs.Common.{◌≡◌, ℕ, ◌-◌, ◌≤◌, ◌<◌, true, false, List, [], ◌∷◌, inl, inr, ◌∙◌, ap, sym, subst, refl, arith, length, get_or, min, slice_index}
use Rattle.std.proofs.lemmas.Bool.{cases_Bool, cases_lt, cond-false, cond-true, both_ways}
use Rattle.std.proofs.lemmas.Bool.Decides.{nat_tests}
use Rattle.std.proofs.lemmas.List.{get_or_past}
use Rattle.std.specs.List.{All, Contains}
use Rattle.jx_base.specs.Joined.{joined}
use Rattle.jx_base.specs.Places.{size_of}
use Rattle.jx_base.proofs.Joined.{joined_has, joined_from}
use Rattle.jx_base.proofs.Lists.{contains_cons, contains_head, contains_none}
use Rattle.jx_geom.specs.declared.table.Resolution.{Resolution}
use Rattle.jx_geom.specs.Geometry.{Geometry, HasResolution, precincts_in, shape_of}
use Rattle.jx_geom.specs.Resolutions.{resolutions_of}
use Rattle.jx_marker.specs.declared.Progression.{Progression}
use Rattle.jx_progression.specs.declared.names.PacketName.{PacketName}
use Rattle.jx_progression.specs.declared.keys.Order.{Order}
use Rattle.jx_progression.specs.Orders.{order_of}
use Rattle.jx_progression.specs.Packets.{IsPacketName, Covers}
use Rattle.jx_progression.specs.Steps.{all_heads, by_layer, count_of, group_names, group_size, heads_at, name_of, no_resolution, one_layer, one_layer_head, one_precinct, one_precinct_head, row_end, row_heads, row_of, sent_at}
use Rattle.jx_progression.proofs.OrderLemmas.{same_fields}
use Rattle.jx_progression.proofs.SpreadLemmas.{Some, joined_long}
use Rattle.jx_progression.proofs.RowLemmas.{end_from, end_to, index_of, packet_row, row_index, row_packet}

pub layers_are : (o : Order) (q : Resolution) (from to : ℕ) → by_layer o ≡ true → row_heads o q from to ≡ joined (one_layer_head q) from to
unfolding row_heads
layers_are o q from to h = cond-true (by_layer o) _ _ h

pub precincts_are : (o : Order) (q : Resolution) (from to : ℕ) → by_layer o ≡ false → from < to → row_heads o q from to ≡ joined (one_precinct_head q from) 0 q.precincts
unfolding row_heads
precincts_are o q from to h lt = cond-false (by_layer o) _ _ h ∙ (grind (arith, nat_tests))

pub no_heads : (o : Order) (q : Resolution) (from to : ℕ) → by_layer o ≡ false → to ≤ from → row_heads o q from to ≡ []
unfolding row_heads
no_heads o q from to h le = cond-false (by_layer o) _ _ h ∙ (grind (arith, nat_tests))

pub layer_names : (g : Geometry) (o : Order) (end : ℕ) (x : PacketName) → by_layer o ≡ true
    → group_names g o end x ≡ joined (one_precinct x) 0 (count_of g x.comp x.res)
unfolding group_names
layer_names g o end x h = cond-true (by_layer o) _ _ h

pub precinct_names : (g : Geometry) (o : Order) (end : ℕ) (x : PacketName) → by_layer o ≡ false → group_names g o end x ≡ joined (one_layer x) x.layer end
unfolding group_names
precinct_names g o end x h = cond-false (by_layer o) _ _ h

pub layer_size : (g : Geometry) (o : Order) (end : ℕ) (x : PacketName) → by_layer o ≡ true → group_size g o end x ≡ count_of g x.comp x.res
unfolding group_size
layer_size g o end x h = cond-true (by_layer o) _ _ h

pub precinct_size : (g : Geometry) (o : Order) (end : ℕ) (x : PacketName) → by_layer o ≡ false → group_size g o end x ≡ end - x.layer
unfolding group_size
precinct_size g o end x h = cond-false (by_layer o) _ _ h

pub count_is : (g : Geometry) (c r : ℕ) → HasResolution g c r → count_of g c r ≡ size_of (precincts_in g c r)
unfolding count_of
count_is g c r h =
    let component : c < length g.shapes = h.component in
    let level : r ≤ (shape_of g c).levels = h.level in
    grind (arith, nat_tests)

no_component : (g : Geometry) (c r : ℕ) → length g.shapes ≤ c → count_of g c r ≡ 0
unfolding count_of
no_component g c r h = grind (arith, nat_tests)

no_level : (g : Geometry) (c r : ℕ) → (shape_of g c).levels < r → count_of g c r ≡ 0
unfolding count_of
no_level g c r h = grind (arith, nat_tests)

pub count_there : (g : Geometry) (c r k : ℕ) → k < count_of g c r → HasResolution g c r × (k < size_of (precincts_in g c r))
count_there g c r k lt =
    let component : c < length g.shapes = elim (cases_lt c (length g.shapes)) [ inl less ↦ less | inr past ↦ absurd (omega (arith, no_component g c r past)) ] in
    let level : r ≤ (shape_of g c).levels = elim (cases_lt (shape_of g c).levels r) [ inl past ↦ absurd (omega (arith, no_level g c r past)) | inr le ↦ le ] in
    let there : HasResolution g c r = record { component = component; level = level } in
    (there, omega (arith, count_is g c r there))

pub one_has : {X : Type 0} (x y : X) → Contains (x ∷ []) y → y ≡ x
one_has x y h = elim (contains_cons x [] y h) [ inl e ↦ sym e | inr none ↦ absurd (contains_none y none) ]

-- ---- the packets of a resolution that an entry sends
pub record IsDue (g : Geometry) (layers : ℕ) (e : Progression) (sent : List ℕ) (i : ℕ) (p : PacketName) : Type 0 where
  pub below : i < length (resolutions_of g)
  pub comp : p.comp ≡ (row_of g i).comp
  pub res : p.res ≡ (row_of g i).res
  pub precinct : p.precinct < (row_of g i).precincts
  pub from : slice_index sent i ≤ p.layer
  pub to : p.layer < row_end layers e (row_of g i)

-- ---- due packets are those that the entry lists
abbrev pub Listed : Geometry → ℕ → Progression → List ℕ → PacketName → Type 0
Listed g layers e sent p = IsPacketName g layers p × Covers e p × (sent_at g sent p.comp p.res ≤ p.layer)

due_at : (g : Geometry) (layers : ℕ) (e : Progression) (sent : List ℕ) (i l k : ℕ) → i < length (resolutions_of g) → k < (row_of g i).precincts
    → slice_index sent i ≤ l → l < row_end layers e (row_of g i) → Listed g layers e sent (name_of l (row_of g i).res (row_of g i).comp k)
due_at g layers e sent i l k lt precinct from to =
    let end = end_to layers l e (row_of g i) to in
    let same : sent_at g sent (row_of g i).comp (row_of g i).res ≡ slice_index sent i = ap (λ n. slice_index sent n) (row_index g i lt end.some) in (
      row_packet g layers i l k lt end.layer precinct,
      record { layer = end.entry; res_from = end.res_from; res_below = end.res_below; comp_from = end.comp_from; comp_below = end.comp_below },
      omega arith,
    )

pub due_to : (g : Geometry) (layers : ℕ) (e : Progression) (sent : List ℕ) (i : ℕ) (p : PacketName) → IsDue g layers e sent i p → Listed g layers e sent p
due_to g layers e sent i p d =
    let same : p ≡ name_of p.layer (row_of g i).res (row_of g i).comp p.precinct =
    same_fields p (name_of p.layer (row_of g i).res (row_of g i).comp p.precinct) refl d.res d.comp refl in
    let P : PacketName → Type 0 = λ q. Listed g layers e sent q in
    subst P (sym same) (due_at g layers e sent i p.layer p.precinct d.below d.precinct d.from d.to)

pub due_from : (g : Geometry) (layers : ℕ) (e : Progression) (sent : List ℕ) (p : PacketName) → Listed g layers e sent p
    → IsDue g layers e sent (index_of g p.comp p.res) p
due_from g layers e sent p h =
    let row = packet_row g layers p h.0 in
    let cover = h.1 in
    record {
      below = row.below;
      comp = sym row.comp;
      res = sym row.res;
      precinct = row.precinct;
      from = h.2;
      to = end_from layers p.layer e (row_of g (index_of g p.comp p.res)) (record {
        some = omega (arith, row.precinct);
        comp_from = omega (arith, cover.comp_from, row.comp);
        comp_below = elim cover.comp_below [ inl none ↦ inl none | inr less ↦ inr (omega (arith, row.comp)) ];
        res_from = omega (arith, cover.res_from, row.res);
        res_below = omega (arith, cover.res_below, row.res);
        entry = cover.layer;
        layer = h.0.layer;
      });
    }

-- ---- the first of each group
pub record IsFirst (g : Geometry) (sent : List ℕ) (o : Order) (x : PacketName) : Type 0 where
  pub precinct : by_layer o ≡ true → x.precinct ≡ 0
  pub layer : by_layer o ≡ false → x.layer ≡ sent_at g sent x.comp x.res

-- the same of a resolution at a place
pub record FirstAt (g : Geometry) (layers : ℕ) (e : Progression) (sent : List ℕ) (o : Order) (i : ℕ) (x : PacketName) : Type 0 where
  pub due : IsDue g layers e sent i x
  pub precinct : by_layer o ≡ true → x.precinct ≡ 0
  pub layer : by_layer o ≡ false → x.layer ≡ slice_index sent i

pub row_below : (g : Geometry) (i : ℕ) → 0 < (row_of g i).precincts → i < length (resolutions_of g)
row_below g i some = elim (cases_lt i (length (resolutions_of g))) [
  | inl lt ↦ lt
  | inr past ↦
      let none : (row_of g i).precincts ≡ 0 = ap (λ (q : Resolution). q.precincts) (get_or_past (resolutions_of g) i no_resolution past) in
      absurd (omega arith)
]

row_layers : (g : Geometry) (layers : ℕ) (e : Progression) (sent : List ℕ) (o : Order) (i : ℕ) (x : PacketName) → by_layer o ≡ true
    → Contains (row_heads o (row_of g i) (slice_index sent i) (row_end layers e (row_of g i))) x → FirstAt g layers e sent o i x
row_layers g layers e sent o i x h c =
    let C : List PacketName → Type 0 = λ xs. Contains xs x in
    let j = joined_has (one_layer_head (row_of g i)) (slice_index sent i) (row_end layers e (row_of g i)) x
    (subst C (layers_are o (row_of g i) (slice_index sent i) (row_end layers e (row_of g i)) h) c) in
    let same : x ≡ name_of j.number (row_of g i).res (row_of g i).comp 0 = one_has (name_of j.number (row_of g i).res (row_of g i).comp 0) x j.has in
    let some : 0 < (row_of g i).precincts = (end_to layers j.number e (row_of g i) j.below).some in
    let P : PacketName → Type 0 = λ y. FirstAt g layers e sent o i y in
    subst P (sym same) (record {
      due = record { below = row_below g i some; comp = refl; res = refl; precinct = some; from = j.from; to = j.below };
      precinct = λ k. refl;
      layer = λ k. absurd (both_ways (by_layer o) k h);
    })

row_precincts : (g : Geometry) (layers : ℕ) (e : Progression) (sent : List ℕ) (o : Order) (i : ℕ) (x : PacketName) → by_layer o ≡ false
    → Contains (row_heads o (row_of g i) (slice_index sent i) (row_end layers e (row_of g i))) x → FirstAt g layers e sent o i x
row_precincts g layers e sent o i x h c = elim (cases_lt (slice_index sent i) (row_end layers e (row_of g i))) [
  | inl some ↦
      let C : List PacketName → Type 0 = λ xs. Contains xs x in
      let j = joined_has (one_precinct_head (row_of g i) (slice_index sent i)) 0 (row_of g i).precincts x
      (subst C (precincts_are o (row_of g i) (slice_index sent i) (row_end layers e (row_of g i)) h some) c) in
      let same : x ≡ name_of (slice_index sent i) (row_of g i).res (row_of g i).comp j.number =
      one_has (name_of (slice_index sent i) (row_of g i).res (row_of g i).comp j.number) x j.has in
      let P : PacketName → Type 0 = λ y. FirstAt g layers e sent o i y in
      subst P (sym same) (record {
        due = record { below = row_below g i (omega (arith, j.below)); comp = refl; res = refl; precinct = j.below; from = omega arith; to = some };
        precinct = λ k. absurd (both_ways (by_layer o) h k);
        layer = λ k. refl;
      })
  | inr none ↦
      let C : List PacketName → Type 0 = λ xs. Contains xs x in
      absurd (contains_none x (subst C (no_heads o (row_of g i) (slice_index sent i) (row_end layers e (row_of g i)) h none) c))
]

pub row_has : (g : Geometry) (layers : ℕ) (e : Progression) (sent : List ℕ) (o : Order) (i : ℕ) (x : PacketName)
    → Contains (row_heads o (row_of g i) (slice_index sent i) (row_end layers e (row_of g i))) x → FirstAt g layers e sent o i x
row_has g layers e sent o i x c = elim (cases_Bool (by_layer o)) [
  | inl h ↦ row_layers g layers e sent o i x h c
  | inr h ↦ row_precincts g layers e sent o i x h c
]

pub head_to : (g : Geometry) (layers : ℕ) (e : Progression) (sent : List ℕ) (x : PacketName) → Contains (all_heads g layers e sent) x
    → Listed g layers e sent x × IsFirst g sent (order_of e.order) x
unfolding all_heads
head_to g layers e sent x c =
    let j = joined_has (heads_at g layers e sent) 0 (length (resolutions_of g)) x c in
    let r = row_has g layers e sent (order_of e.order) j.number x j.has in
    let d = r.due in
    let at : index_of g x.comp x.res ≡ j.number =
    ap (λ n. index_of g n x.res) d.comp ∙ ap (λ n. index_of g (row_of g j.number).comp n) d.res ∙ row_index g j.number d.below (omega (arith, d.precinct)) in (
      due_to g layers e sent j.number x d,
      record { precinct = r.precinct; layer = λ k. r.layer k ∙ ap (λ n. slice_index sent n) (sym at) },
    )

head_at : (g : Geometry) (layers : ℕ) (e : Progression) (sent : List ℕ) (o : Order) (i : ℕ) (x : PacketName) → IsDue g layers e sent i x
    → (by_layer o ≡ true → x.precinct ≡ 0) → (by_layer o ≡ false → x.layer ≡ slice_index sent i)
    → Contains (row_heads o (row_of g i) (slice_index sent i) (row_end layers e (row_of g i))) x
head_at g layers e sent o i x d precinct layer = elim (cases_Bool (by_layer o)) [
  | inl h ↦
      let same : name_of x.layer (row_of g i).res (row_of g i).comp 0 ≡ x =
      same_fields (name_of x.layer (row_of g i).res (row_of g i).comp 0) x refl (sym d.res) (sym d.comp) (sym (precinct h)) in
      let P : PacketName → Type 0 = λ y. Contains (one_layer_head (row_of g i) x.layer) y in
      let C : List PacketName → Type 0 = λ xs. Contains xs x in
      subst C (sym (layers_are o (row_of g i) (slice_index sent i) (row_end layers e (row_of g i)) h))
      (joined_from (one_layer_head (row_of g i)) (slice_index sent i) (row_end layers e (row_of g i)) x (record {
        number = x.layer;
        from = d.from;
        below = d.to;
        has = subst P same (contains_head (name_of x.layer (row_of g i).res (row_of g i).comp 0) []);
      }))
  | inr h ↦
      let same : name_of (slice_index sent i) (row_of g i).res (row_of g i).comp x.precinct ≡ x =
      same_fields (name_of (slice_index sent i) (row_of g i).res (row_of g i).comp x.precinct) x (sym (layer h)) (sym d.res) (sym d.comp) refl in
      let P : PacketName → Type 0 = λ y. Contains (one_precinct_head (row_of g i) (slice_index sent i) x.precinct) y in
      let C : List PacketName → Type 0 = λ xs. Contains xs x in
      let some : slice_index sent i < row_end layers e (row_of g i) = omega (arith, d.from, d.to) in
      subst C (sym (precincts_are o (row_of g i) (slice_index sent i) (row_end layers e (row_of g i)) h some))
      (joined_from (one_precinct_head (row_of g i) (slice_index sent i)) 0 (row_of g i).precincts x (record {
        number = x.precinct;
        from = omega arith;
        below = d.precinct;
        has = subst P same (contains_head (name_of (slice_index sent i) (row_of g i).res (row_of g i).comp x.precinct) []);
      }))
]

pub head_from : (g : Geometry) (layers : ℕ) (e : Progression) (sent : List ℕ) (x : PacketName) → Listed g layers e sent x
    → IsFirst g sent (order_of e.order) x → Contains (all_heads g layers e sent) x
unfolding all_heads
head_from g layers e sent x l f =
    let d = due_from g layers e sent x l in
    joined_from (heads_at g layers e sent) 0 (length (resolutions_of g)) x (record {
      number = index_of g x.comp x.res;
      from = omega arith;
      below = d.below;
      has = head_at g layers e sent (order_of e.order) (index_of g x.comp x.res) x d f.precinct f.layer;
    })

-- ---- the packets of a group
pub group_long : (g : Geometry) (o : Order) (end : ℕ) (x : PacketName) → length (group_names g o end x) ≡ group_size g o end x
group_long g o end x = elim (cases_Bool (by_layer o)) [
  | inl h ↦ omega (
    arith,
    ap (λ (ps : List PacketName). length ps) (layer_names g o end x h),
    joined_long (one_precinct x) 0 (count_of g x.comp x.res) (λ k. refl),
    layer_size g o end x h,
  )
  | inr h ↦ omega (
    arith,
    ap (λ (ps : List PacketName). length ps) (precinct_names g o end x h),
    joined_long (one_layer x) x.layer end (λ l. refl),
    precinct_size g o end x h,
  )
]

pub some_groups : (g : Geometry) (o : Order) (end : ℕ) (xs : List PacketName) → All (λ x. 0 < group_size g o end x) xs → Some (group_names g o end) xs
some_groups g o end xs some i d lt = omega (arith, some i d lt, group_long g o end (get_or xs i d))

pub some_names : (g : Geometry) (layers : ℕ) (e : Progression) (sent : List ℕ) (o : Order) (x : PacketName) → Listed g layers e sent x
    → 0 < group_size g o (min e.lye layers) x
some_names g layers e sent o x l = elim (cases_Bool (by_layer o)) [
  | inl h ↦ omega (arith, layer_size g o (min e.lye layers) x h, count_is g x.comp x.res l.0.resolution, l.0.precinct)
  | inr h ↦ omega (arith, precinct_size g o (min e.lye layers) x h, l.0.layer, l.1.layer)
]

layer_listed : (g : Geometry) (layers : ℕ) (e : Progression) (sent : List ℕ) (x : PacketName) (k : ℕ) → Listed g layers e sent x
    → k < count_of g x.comp x.res → Listed g layers e sent (name_of x.layer x.res x.comp k)
layer_listed g layers e sent x k l lt =
    let packet = l.0 in
    let cover = l.1 in (
      record { layer = packet.layer; resolution = packet.resolution; precinct = omega (arith, lt, count_is g x.comp x.res packet.resolution) },
      record { layer = cover.layer; res_from = cover.res_from; res_below = cover.res_below; comp_from = cover.comp_from; comp_below = cover.comp_below },
      l.2,
    )

precinct_listed : (g : Geometry) (layers : ℕ) (e : Progression) (sent : List ℕ) (x : PacketName) (n : ℕ) → Listed g layers e sent x
    → x.layer ≤ n → n < min e.lye layers → Listed g layers e sent (name_of n x.res x.comp x.precinct)
precinct_listed g layers e sent x n l from lt =
    let packet = l.0 in
    let cover = l.1 in
    let unsent : sent_at g sent x.comp x.res ≤ x.layer = l.2 in (
      record { layer = omega arith; resolution = packet.resolution; precinct = packet.precinct },
      record { layer = omega arith; res_from = cover.res_from; res_below = cover.res_below; comp_from = cover.comp_from; comp_below = cover.comp_below },
      omega arith,
    )

-- a packet of a group, by the layer or by the precinct of its first
pub record Stands (g : Geometry) (o : Order) (end : ℕ) (x p : PacketName) : Type 0 where
  pub layer : by_layer o ≡ true → (p.precinct < count_of g x.comp x.res) × (p ≡ name_of x.layer x.res x.comp p.precinct)
  pub precinct : by_layer o ≡ false → (x.layer ≤ p.layer) × (p.layer < end) × (p ≡ name_of p.layer x.res x.comp x.precinct)

pub stands_in : (g : Geometry) (o : Order) (end : ℕ) (x p : PacketName) → Contains (group_names g o end x) p → Stands g o end x p
stands_in g o end x p c =
    let C : List PacketName → Type 0 = λ xs. Contains xs p in
    let P : PacketName → Type 0 = λ q. Stands g o end x q in
    elim (cases_Bool (by_layer o)) [
      | inl h ↦
          let j = joined_has (one_precinct x) 0 (count_of g x.comp x.res) p (subst C (layer_names g o end x h) c) in
          subst P (sym (one_has (name_of x.layer x.res x.comp j.number) p j.has))
          (record { layer = λ k. (j.below, refl); precinct = λ k. absurd (both_ways (by_layer o) k h) })
      | inr h ↦
          let j = joined_has (one_layer x) x.layer end p (subst C (precinct_names g o end x h) c) in
          subst P (sym (one_has (name_of j.number x.res x.comp x.precinct) p j.has))
          (record { layer = λ k. absurd (both_ways (by_layer o) h k); precinct = λ k. (j.from, j.below, refl) })
    ]

pub name_listed : (g : Geometry) (layers : ℕ) (e : Progression) (sent : List ℕ) (o : Order) (x p : PacketName) → Listed g layers e sent x
    → Contains (group_names g o (min e.lye layers) x) p → Listed g layers e sent p
name_listed g layers e sent o x p l c =
    let s = stands_in g o (min e.lye layers) x p c in
    let P : PacketName → Type 0 = λ q. Listed g layers e sent q in
    elim (cases_Bool (by_layer o)) [
      | inl h ↦ let n = s.layer h in subst P (sym n.1) (layer_listed g layers e sent x p.precinct l n.0)
      | inr h ↦ let n = s.precinct h in subst P (sym n.2) (precinct_listed g layers e sent x p.layer l n.0 n.1)
    ]

-- and each that is listed is in one
pub record InGroup (g : Geometry) (layers : ℕ) (e : Progression) (sent : List ℕ) (p : PacketName) : Type 0 where
  pub first : PacketName
  pub there : Contains (all_heads g layers e sent) first
  pub has : Contains (group_names g (order_of e.order) (min e.lye layers) first) p

in_layer : (g : Geometry) (layers : ℕ) (e : Progression) (sent : List ℕ) (p : PacketName) → Listed g layers e sent p
    → by_layer (order_of e.order) ≡ true → InGroup g layers e sent p
in_layer g layers e sent p l h =
    let C : List PacketName → Type 0 = λ xs. Contains xs p in
    let lt : p.precinct < count_of g p.comp p.res = omega (arith, l.0.precinct, count_is g p.comp p.res l.0.resolution) in
    record {
      first = name_of p.layer p.res p.comp 0;
      there = head_from g layers e sent (name_of p.layer p.res p.comp 0) (layer_listed g layers e sent p 0 l (omega arith))
          (record { precinct = λ k. refl; layer = λ k. absurd (both_ways (by_layer (order_of e.order)) k h) });
      has = subst C (sym (layer_names g (order_of e.order) (min e.lye layers) (name_of p.layer p.res p.comp 0) h))
          (joined_from (one_precinct (name_of p.layer p.res p.comp 0)) 0 (count_of g p.comp p.res) p
          (record { number = p.precinct; from = omega arith; below = lt; has = contains_head p [] }));
    }

in_precinct : (g : Geometry) (layers : ℕ) (e : Progression) (sent : List ℕ) (p : PacketName) → Listed g layers e sent p
    → by_layer (order_of e.order) ≡ false → InGroup g layers e sent p
in_precinct g layers e sent p l h =
    let C : List PacketName → Type 0 = λ xs. Contains xs p in
    let unsent : sent_at g sent p.comp p.res ≤ p.layer = l.2 in
    let packet = l.0 in
    let cover = l.1 in
    let below : p.layer < min e.lye layers = omega (arith, packet.layer, cover.layer) in
    let first : Listed g layers e sent (name_of (sent_at g sent p.comp p.res) p.res p.comp p.precinct) = (
      record { layer = omega (arith, packet.layer); resolution = packet.resolution; precinct = packet.precinct },
      record { layer = omega (arith, cover.layer); res_from = cover.res_from; res_below = cover.res_below; comp_from = cover.comp_from; comp_below = cover.comp_below },
      omega arith,
    ) in
    record {
      first = name_of (sent_at g sent p.comp p.res) p.res p.comp p.precinct;
      there = head_from g layers e sent (name_of (sent_at g sent p.comp p.res) p.res p.comp p.precinct) first
          (record { precinct = λ k. absurd (both_ways (by_layer (order_of e.order)) h k); layer = λ k. refl });
      has = subst C (sym (precinct_names g (order_of e.order) (min e.lye layers) (name_of (sent_at g sent p.comp p.res) p.res p.comp p.precinct) h))
          (joined_from (one_layer (name_of (sent_at g sent p.comp p.res) p.res p.comp p.precinct)) (sent_at g sent p.comp p.res) (min e.lye layers) p
          (record { number = p.layer; from = unsent; below = below; has = contains_head p [] }));
    }

pub in_group : (g : Geometry) (layers : ℕ) (e : Progression) (sent : List ℕ) (p : PacketName) → Listed g layers e sent p → InGroup g layers e sent p
in_group g layers e sent p l = elim (cases_Bool (by_layer (order_of e.order))) [
  | inl h ↦ in_layer g layers e sent p l h
  | inr h ↦ in_precinct g layers e sent p l h
]
