-- What an entry sends of some resolutions, and of all.
use Rattle.std.proofs.Common.{◌≡◌, ◌≢◌, ℕ, ◌+◌, ◌≤◌, ◌<◌, List, [], ◌++◌, inl, inr, ◌⊎◌, ◌∙◌, ap, sym, subst, refl, arith, append-nil, append_assoc, length, get_or, slice_index}
use Rattle.std.specs.Prelude.{slice_set}
use Rattle.std.proofs.lemmas.Bool.{cases_eq, cases_lt}
use Rattle.std.proofs.lemmas.List.{get_or-set_other, get_or-set_same, length-set}
use Rattle.std.proofs.lemmas.List.Elements.{All-contains, Contains-append_left, Contains-append_right, Contains-append_cases}
use Rattle.std.specs.List.{All, Contains}
use Rattle.jx_base.proofs.Joined.{joined_from, joined_has}
use Rattle.jx_base.proofs.Lists.{contains_none, pairs_append}
use Rattle.jx_geom.specs.declared.table.Resolution.{Resolution}
use Rattle.jx_geom.specs.Geometry.{Geometry}
use Rattle.jx_geom.specs.Resolutions.{resolutions_of}
use Rattle.jx_marker.specs.declared.Progression.{Progression}
use Rattle.jx_progression.specs.declared.names.PacketName.{PacketName}
use Rattle.jx_progression.specs.declared.keys.Order.{Order}
use Rattle.jx_progression.specs.Groups.{AreGroups, AreSome, IsSent, SendsSome, group_at}
use Rattle.jx_progression.specs.Orders.{order_of}
use Rattle.jx_progression.specs.Steps.{HasPlaces, all_heads, heads_at, row_at, row_end, row_heads, row_of}
use Rattle.jx_progression.specs.Tables.{IsAll, SendsAll}
use Rattle.jx_progression.proofs.GroupLemmas.{IsDue, row_below, row_has}
use Rattle.jx_progression.proofs.RowLemmas.{end_to, rows_once, zero_precincts}
use Rattle.jx_progression.proofs.SortLemmas.{Apart, row_apart}

-- a resolution with a first packet
due_of : (g : Geometry) (layers : ℕ) (e : Progression) (sent : List ℕ) (i : ℕ) (x : PacketName) → Contains (heads_at g layers e sent i) x → IsDue g layers e sent i x
due_of g layers e sent i x c = (row_has g layers e sent (order_of e.order) i x c).due

heads_below : (g : Geometry) (layers : ℕ) (e : Progression) (sent : List ℕ) (i : ℕ) (x : PacketName) → Contains (heads_at g layers e sent i) x
    → slice_index sent i < row_end layers e (row_of g i)
heads_below g layers e sent i x c =
    let d = due_of g layers e sent i x c in
    let from : slice_index sent i ≤ x.layer = d.from in
    let to : x.layer < row_end layers e (row_of g i) = d.to in
    omega arith

heads_same : (g : Geometry) (layers : ℕ) (e : Progression) (sent mid : List ℕ) (i : ℕ) → slice_index mid i ≡ slice_index sent i
    → heads_at g layers e mid i ≡ heads_at g layers e sent i
heads_same g layers e sent mid i same = ap (λ n. row_heads (order_of e.order) (row_of g i) n (row_end layers e (row_of g i))) same

pub heads_apart : (g : Geometry) (layers : ℕ) (e : Progression) (sent mid : List ℕ) (i j : ℕ) (x y : PacketName) → i ≢ j
    → Contains (heads_at g layers e sent i) x → Contains (heads_at g layers e mid j) y → Apart x y
heads_apart g layers e sent mid i j x y other hx hy same =
    let a = due_of g layers e sent i x hx in
    let b = due_of g layers e mid j y hy in
    other (rows_once g i j a.below b.below (sym a.comp ∙ ap (λ (w : PacketName). w.comp) same ∙ b.comp)
    (sym a.res ∙ ap (λ (w : PacketName). w.res) same ∙ b.res))

-- ---- none
pub some_none : (g : Geometry) (layers : ℕ) (e : Progression) (sent : List ℕ) → AreSome g layers e sent sent []
some_none g layers e sent = record {
  each = λ i. inl refl;
  long = refl;
  heads = λ x. (
    λ c. absurd (contains_none x c),
    λ r. (let less = heads_below g layers e sent r.0 x r.1 in
        let all : row_end layers e (row_of g r.0) ≤ slice_index sent r.0 = r.2 in
        absurd (omega arith)),
  );
  once = λ i j d lt below. absurd (omega arith);
}

-- ---- one after another
pub some_rises : (g : Geometry) (layers : ℕ) (e : Progression) (sent now : List ℕ) (xs : List PacketName) → AreSome g layers e sent now xs
    → (i : ℕ) → slice_index sent i ≤ slice_index now i
some_rises g layers e sent now xs h i = elim (h.each i) [ inl same ↦ omega (arith, same) | inr more ↦ omega (arith, more.0, more.1) ]

pub stays_sent : (g : Geometry) (layers : ℕ) (e : Progression) (sent now : List ℕ) (xs : List PacketName) → AreSome g layers e sent now xs
    → (i : ℕ) → IsSent g layers e sent i → IsSent g layers e now i
stays_sent g layers e sent now xs h i all =
    let up = some_rises g layers e sent now xs h i in
    let was : row_end layers e (row_of g i) ≤ slice_index sent i = all in
    omega arith

some_kept : (g : Geometry) (layers : ℕ) (e : Progression) (sent mid : List ℕ) (xs : List PacketName) → AreSome g layers e sent mid xs
    → (i : ℕ) → slice_index mid i < row_end layers e (row_of g i) → slice_index mid i ≡ slice_index sent i
some_kept g layers e sent mid xs h i less = elim (h.each i) [ inl same ↦ same | inr more ↦ absurd (omega (arith, more.0)) ]

some_each : (g : Geometry) (layers : ℕ) (e : Progression) (sent mid now : List ℕ) (xs ys : List PacketName) → AreSome g layers e sent mid xs
    → AreSome g layers e mid now ys → (i : ℕ) → (slice_index now i ≡ slice_index sent i)
    ⊎ ((slice_index now i ≡ row_end layers e (row_of g i)) × (slice_index sent i < row_end layers e (row_of g i)))
some_each g layers e sent mid now xs ys a b i = elim (b.each i) [
  | inl same ↦ elim (a.each i) [ inl before ↦ inl (same ∙ before) | inr more ↦ inr (same ∙ more.0, more.1) ]
  | inr last ↦ inr (last.0, omega (arith, last.1, some_rises g layers e sent mid xs a i))
]

some_heads : (g : Geometry) (layers : ℕ) (e : Progression) (sent mid now : List ℕ) (xs ys : List PacketName) → AreSome g layers e sent mid xs
    → AreSome g layers e mid now ys → (x : PacketName) → Contains (xs ++ ys) x
    → (i : ℕ) × Contains (heads_at g layers e sent i) x × IsSent g layers e now i
some_heads g layers e sent mid now xs ys a b x c = elim (Contains-append_cases xs ys x c) [
  | inl left ↦ let r = (a.heads x).0 left in (r.0, r.1, stays_sent g layers e mid now ys b r.0 r.2)
  | inr right ↦
      let r = (b.heads x).0 right in
      let C : List PacketName → Type 0 = λ l. Contains l x in
      let same = heads_same g layers e sent mid r.0 (some_kept g layers e sent mid xs a r.0 (heads_below g layers e mid r.0 x r.1)) in
      (r.0, subst C same r.1, r.2)
]

heads_some : (g : Geometry) (layers : ℕ) (e : Progression) (sent mid now : List ℕ) (xs ys : List PacketName) → AreSome g layers e sent mid xs
    → AreSome g layers e mid now ys → (x : PacketName) (i : ℕ) → Contains (heads_at g layers e sent i) x → IsSent g layers e now i → Contains (xs ++ ys) x
heads_some g layers e sent mid now xs ys a b x i c all = elim (cases_lt (slice_index mid i) (row_end layers e (row_of g i))) [
  | inl less ↦
      let C : List PacketName → Type 0 = λ l. Contains l x in
      let same = heads_same g layers e sent mid i (some_kept g layers e sent mid xs a i less) in
      Contains-append_right xs ys x ((b.heads x).1 (i, subst C (sym same) c, all))
  | inr done ↦ Contains-append_left xs ys x ((a.heads x).1 (i, c, done))
]

some_apart : (g : Geometry) (layers : ℕ) (e : Progression) (sent mid now : List ℕ) (xs ys : List PacketName) → AreSome g layers e sent mid xs
    → AreSome g layers e mid now ys → (x y : PacketName) → Contains xs x → Contains ys y → Apart x y
some_apart g layers e sent mid now xs ys a b x y cx cy =
    let r = (a.heads x).0 cx in
    let t = (b.heads y).0 cy in
    let less = heads_below g layers e mid t.0 y t.1 in
    let all : row_end layers e (row_of g r.0) ≤ slice_index mid r.0 = r.2 in
    heads_apart g layers e sent mid r.0 t.0 x y
    (λ same. (let P : ℕ → Type 0 = λ i. slice_index mid i < row_end layers e (row_of g i) in
    let here : slice_index mid r.0 < row_end layers e (row_of g r.0) = subst P (sym same) less in
    omega arith)) r.1 t.1

pub some_more : (g : Geometry) (layers : ℕ) (e : Progression) (sent mid now : List ℕ) (xs ys : List PacketName) → AreSome g layers e sent mid xs
    → AreSome g layers e mid now ys → AreSome g layers e sent now (xs ++ ys)
some_more g layers e sent mid now xs ys a b = record {
  each = some_each g layers e sent mid now xs ys a b;
  long = b.long ∙ a.long;
  heads = λ x. (some_heads g layers e sent mid now xs ys a b x, λ r. heads_some g layers e sent mid now xs ys a b x r.0 r.1 r.2);
  once = pairs_append Apart xs ys a.once b.once (some_apart g layers e sent mid now xs ys a b);
}

pub sends_none : (g : Geometry) (layers : ℕ) (e : Progression) (sent : List ℕ) (old : List PacketName) → SendsSome g layers e sent sent old old
sends_none g layers e sent old = ([], sym (append-nil old), some_none g layers e sent)

pub sends_more : (g : Geometry) (layers : ℕ) (e : Progression) (sent mid now : List ℕ) (old new last : List PacketName) → SendsSome g layers e sent mid old new
    → SendsSome g layers e mid now new last → SendsSome g layers e sent now old last
sends_more g layers e sent mid now old new last a b = (
  a.0 ++ b.0,
  b.1 ∙ ap (λ l. l ++ b.0) a.1 ∙ append_assoc old a.0 b.0,
  some_more g layers e sent mid now a.0 b.0 a.2 b.2,
)

-- ---- of one resolution
some_row : (g : Geometry) (layers : ℕ) (e : Progression) (sent : List ℕ) (place to : ℕ) → to ≡ row_end layers e (row_of g place)
    → slice_index sent place < to → place < length sent → AreSome g layers e sent (slice_set sent place to) (heads_at g layers e sent place)
some_row g layers e sent place to end some lt =
    let own : slice_index (slice_set sent place to) place ≡ to = get_or-set_same sent place to 0 lt in
    let other : (i : ℕ) → i ≢ place → slice_index (slice_set sent place to) i ≡ slice_index sent i = λ i h. get_or-set_other sent place i to 0 h in
    record {
      each = λ i. elim (cases_eq i place) [
        | inl same ↦
            let P : ℕ → Type 0 = λ n. (slice_index (slice_set sent place to) n ≡ row_end layers e (row_of g n)) × (slice_index sent n < row_end layers e (row_of g n)) in
            inr (subst P (sym same) (own ∙ end, omega arith))
        | inr not ↦ inl (other i not)
      ];
      long = length-set sent place to;
      heads = λ x. (
        λ c. (place, c, omega arith),
        λ r. elim (cases_eq r.0 place) [
          | inl same ↦
              let P : ℕ → Type 0 = λ n. Contains (heads_at g layers e sent n) x in
              subst P same r.1
          | inr not ↦
              let less = heads_below g layers e sent r.0 x r.1 in
              let all : row_end layers e (row_of g r.0) ≤ slice_index (slice_set sent place to) r.0 = r.2 in
              let kept = other r.0 not in
              absurd (omega arith)
        ],
      );
      once = row_apart (order_of e.order) (row_of g place) (slice_index sent place) (row_end layers e (row_of g place));
    }

-- ---- of all
pub all_from_some : (g : Geometry) (layers : ℕ) (e : Progression) (sent now : List ℕ) (xs : List PacketName) → AreSome g layers e sent now xs
    → ((i : ℕ) → i < length (resolutions_of g) → IsSent g layers e now i) → IsAll g layers e sent now xs
unfolding all_heads
all_from_some g layers e sent now xs h all = record {
  marked = λ i lt.
      (let done : row_end layers e (row_of g i) ≤ slice_index now i = all i lt in
      elim (h.each i) [ inl same ↦ omega (arith, same) | inr more ↦ omega (arith, more.0, more.1) ]);
  heads = record {
    heads = λ x. (
      λ c. (let r = (h.heads x).0 c in
          let d = due_of g layers e sent r.0 x r.1 in
          joined_from (heads_at g layers e sent) 0 (length (resolutions_of g)) x (record { number = r.0; from = omega arith; below = d.below; has = r.1 })),
      λ c. (let j = joined_has (heads_at g layers e sent) 0 (length (resolutions_of g)) x c in
          (h.heads x).1 (j.number, j.has, all j.number j.below)),
    );
    once = h.once;
  };
}

-- ---- some more resolutions of a list
pub sent_next : (g : Geometry) (layers : ℕ) (e : Progression) (mid now : List ℕ) (old new : List PacketName) (places : List ℕ) (n : ℕ)
    → ((j : ℕ) → j < n → IsSent g layers e mid (slice_index places j)) → SendsSome g layers e mid now old new → IsSent g layers e now (slice_index places n)
    → (j : ℕ) → j < n + 1 → IsSent g layers e now (slice_index places j)
sent_next g layers e mid now old new places n h sends own j lt = elim (cases_lt j n) [
  | inl less ↦ stays_sent g layers e mid now sends.0 sends.2 (slice_index places j) (h j less)
  | inr ge ↦
      let P : ℕ → Type 0 = λ k. IsSent g layers e now (slice_index places k) in
      let same : j ≡ n = omega arith in
      subst P (sym same) own
]

-- ---- the resolution at a place, or one past the end
pub row_sends : (g : Geometry) (layers : ℕ) (e : Progression) (o : Order) (rows : List Resolution) (q : Resolution) (sent now : List ℕ) (place from to : ℕ)
    (old new : List PacketName) → rows ≡ resolutions_of g → o ≡ order_of e.order → q ≡ row_at rows place → from ≡ slice_index sent place
    → to ≡ row_end layers e q → from < to → place < length sent → now ≡ slice_set sent place to → new ≡ old ++ row_heads o q from to
    → SendsSome g layers e sent now old new
row_sends g layers e o rows q sent now place from to old new er eo eq ef et some lt set made =
    let at : q ≡ row_of g place = eq ∙ ap (λ (rs : List Resolution). row_at rs place) er in
    let end : to ≡ row_end layers e (row_of g place) = et ∙ ap (λ (x : Resolution). row_end layers e x) at in
    let named : row_heads o q from to ≡ heads_at g layers e sent place =
    ap (λ (v : Order). row_heads v q from to) eo ∙ ap (λ (v : Resolution). row_heads (order_of e.order) v from to) at
    ∙ ap (λ n. row_heads (order_of e.order) (row_of g place) n to) ef ∙ ap (λ n. row_heads (order_of e.order) (row_of g place) (slice_index sent place) n) end in
    let P : List ℕ → Type 0 = λ l. AreSome g layers e sent l (heads_at g layers e sent place) in (
      heads_at g layers e sent place,
      made ∙ ap (λ l. old ++ l) named,
      subst P (sym set) (some_row g layers e sent place to end (omega arith) lt),
    )

pub row_sent : (g : Geometry) (layers : ℕ) (e : Progression) (rows : List Resolution) (q : Resolution) (now : List ℕ) (place to : ℕ)
    → rows ≡ resolutions_of g → q ≡ row_at rows place → to ≡ row_end layers e q → to ≤ slice_index now place → IsSent g layers e now place
row_sent g layers e rows q now place to er eq et le =
    let at : q ≡ row_of g place = eq ∙ ap (λ (rs : List Resolution). row_at rs place) er in
    let end : to ≡ row_end layers e (row_of g place) = et ∙ ap (λ (x : Resolution). row_end layers e x) at in
    omega arith

pub set_sent : (sent now : List ℕ) (place to : ℕ) → place < length sent → now ≡ slice_set sent place to → to ≤ slice_index now place
set_sent sent now place to lt set =
    let own : slice_index (slice_set sent place to) place ≡ to = get_or-set_same sent place to 0 lt in
    let same : slice_index now place ≡ slice_index (slice_set sent place to) place = ap (λ (l : List ℕ). slice_index l place) set in
    omega arith

-- a place of which something is to be sent is in the table
pub row_there : (g : Geometry) (layers : ℕ) (e : Progression) (rows : List Resolution) (q : Resolution) (sent : List ℕ) (place from to : ℕ)
    → rows ≡ resolutions_of g → q ≡ row_at rows place → to ≡ row_end layers e q → from < to → HasPlaces g sent → place < length sent
row_there g layers e rows q sent place from to er eq et some places =
    let at : q ≡ row_of g place = eq ∙ ap (λ (rs : List Resolution). row_at rs place) er in
    let end : to ≡ row_end layers e (row_of g place) = et ∙ ap (λ (x : Resolution). row_end layers e x) at in
    let here : 0 < (row_of g place).precincts = (end_to layers from e (row_of g place) (omega arith)).some in
    let below : place < length (resolutions_of g) = row_below g place here in
    omega (arith, places)

-- ---- all groups
pub sends_all : (g : Geometry) (layers : ℕ) (e : Progression) (sent now : List ℕ) (old new : List PacketName) (places : List ℕ) (n m : ℕ)
    → AreGroups g places n → n ≤ m → SendsSome g layers e sent now old new → ((k : ℕ) → k < m → All (IsSent g layers e now) (group_at places k))
    → SendsAll g layers e sent now old new
sends_all g layers e sent now old new places n m groups le sends h = (
  sends.0,
  sends.1,
  all_from_some g layers e sent now sends.0 sends.2 (λ i lt.
      elim (cases_lt 0 (row_of g i).precincts) [
        | inl some ↦
            let at = groups.every i lt some in
            All-contains (IsSent g layers e now) (group_at places at.0) i (h at.0 (omega (arith, at.1))) at.2
        | inr none ↦ omega (arith, zero_precincts layers e (row_of g i) (omega arith))
      ]),
)

pub groups_next : (g : Geometry) (layers : ℕ) (e : Progression) (mid now : List ℕ) (old new : List PacketName) (places : List ℕ) (n : ℕ)
    → ((k : ℕ) → k < n → All (IsSent g layers e mid) (group_at places k)) → SendsSome g layers e mid now old new
    → All (IsSent g layers e now) (group_at places n) → (k : ℕ) → k < n + 1 → All (IsSent g layers e now) (group_at places k)
groups_next g layers e mid now old new places n h sends own k lt = elim (cases_lt k n) [
  | inl less ↦ λ i d below. stays_sent g layers e mid now sends.0 sends.2 (get_or (group_at places k) i d) (h k less i d below)
  | inr ge ↦
      let P : ℕ → Type 0 = λ j. All (IsSent g layers e now) (group_at places j) in
      let same : k ≡ n = omega arith in
      subst P (sym same) own
]

pub places_kept : (g : Geometry) (layers : ℕ) (e : Progression) (sent now : List ℕ) (old new : List PacketName) → SendsSome g layers e sent now old new
    → HasPlaces g sent → HasPlaces g now
places_kept g layers e sent now old new sends places = sends.2.long ∙ places
