-- A sorted set is one list; the members of the joined lists of entries.
use Rattle.std.proofs.Common.{◌≡◌, ◌≢◌, ℕ, zero, suc, ◌<◌, List, [], ◌∷◌, ◌++◌, inl, inr, ◌⊎◌, ◌∙◌, ap, sym, subst, arith, length, take, drop}
use Rattle.std.proofs.lemmas.Bool.{cases_lt, cases_eq}
use Rattle.std.proofs.lemmas.List.{take-append-drop}
use Rattle.std.proofs.lemmas.List.Elements.{Contains-append_left, Contains-append_right, Contains-append_cases}
use Rattle.std.specs.List.{AllPairs, Contains}
use Rattle.jx_geom.specs.Geometry.{Geometry}
use Rattle.jx_marker.specs.declared.Progression.{Progression}
use Rattle.jx_progression.specs.declared.names.PacketName.{PacketName}
use Rattle.jx_progression.specs.Orders.{ComesBefore, order_of, key_of}
use Rattle.jx_progression.specs.Packets.{IsPacketName, Covers, Sends, IsOrder, entry_at}
use Rattle.jx_progression.specs.Steps.{name_of}
use Rattle.jx_progression.proofs.LessLemmas.{less_both}
use Rattle.jx_base.proofs.Lists.{pairs_append, contains_cons, contains_head, contains_tail, contains_none, one_sorted, pairs_apart}

-- ---- names can be told apart
pub same_fields : (p q : PacketName) → p.layer ≡ q.layer → p.res ≡ q.res → p.comp ≡ q.comp → p.precinct ≡ q.precinct → p ≡ q
same_fields p q el er ec ek =
    let e : name_of p.layer p.res p.comp p.precinct ≡ name_of q.layer q.res q.comp q.precinct = cc in
    e

pub same_or : (p q : PacketName) → (p ≡ q) ⊎ (p ≢ q)
same_or p q = elim (cases_eq p.layer q.layer) [
  | inr other ↦ inr (λ e. other (ap (λ (w : PacketName). w.layer) e))
  | inl el ↦ elim (cases_eq p.res q.res) [
    | inr other ↦ inr (λ e. other (ap (λ (w : PacketName). w.res) e))
    | inl er ↦ elim (cases_eq p.comp q.comp) [
      | inr other ↦ inr (λ e. other (ap (λ (w : PacketName). w.comp) e))
      | inl ec ↦ elim (cases_eq p.precinct q.precinct) [
        | inr other ↦ inr (λ e. other (ap (λ (w : PacketName). w.precinct) e))
        | inl ek ↦ inl (same_fields p q el er ec ek)
      ]
    ]
  ]
]

pub contains_or : (xs : List PacketName) (p : PacketName) → Contains xs p ⊎ (Contains xs p → ⊥)
contains_or [] p = inr (contains_none p)
contains_or (x ∷ xs) p = elim (same_or x p) [
  | inl e ↦
      let P : PacketName → Type 0 = λ w. Contains (x ∷ xs) w in
      inl (subst P e (contains_head x xs))
  | inr other ↦ elim (contains_or xs p) [
    | inl h ↦ inl (contains_tail x xs p h)
    | inr none ↦ inr (λ h. elim (contains_cons x xs p h) [ inl e ↦ other e | inr rest ↦ none rest ])
  ]
]

-- ---- the members of an order
pub record SentBy (g : Geometry) (layers : ℕ) (entries : List Progression) (n : ℕ) (p : PacketName) : Type 0 where
  pub packet : IsPacketName g layers p
  pub entry : ℕ
  pub below : entry < n
  pub covers : Covers (entry_at entries entry) p

pub order_to : (g : Geometry) (layers : ℕ) (entries : List Progression) (n : ℕ) (list : List PacketName) → IsOrder g layers entries n list
    → (p : PacketName) → Contains list p → SentBy g layers entries n p
order_to g layers entries zero list h p c =
    let P : List PacketName → Type 0 = λ xs. Contains xs p in
    absurd (contains_none p (subst P h c))
order_to g layers entries (suc n) list h p c =
    let P : List PacketName → Type 0 = λ xs. Contains xs p in
    elim (Contains-append_cases (take h.0 list) (drop h.0 list) p (subst P (sym (take-append-drop h.0 list)) c)) [
      | inl old ↦
          let s = order_to g layers entries n (take h.0 list) h.1 p old in
          record { packet = s.packet; entry = s.entry; below = omega (arith, s.below); covers = s.covers }
      | inr new ↦
          let s = (h.2.exact p).0 new in
          record { packet = s.0; entry = n; below = omega arith; covers = s.1 }
    ]

pub order_from : (g : Geometry) (layers : ℕ) (entries : List Progression) (n : ℕ) (list : List PacketName) → IsOrder g layers entries n list
    → (p : PacketName) → SentBy g layers entries n p → Contains list p
order_from g layers entries zero list h p s = absurd (omega (arith, s.below))
order_from g layers entries (suc n) list h p s =
    let P : List PacketName → Type 0 = λ xs. Contains xs p in
    let whole : Contains (take h.0 list ++ drop h.0 list) p = elim (contains_or (take h.0 list) p) [
      | inl old ↦ Contains-append_left (take h.0 list) (drop h.0 list) p old
      | inr none ↦ elim (cases_lt s.entry n) [
        | inl less ↦ absurd (none (order_from g layers entries n (take h.0 list) h.1 p (record { packet = s.packet; entry = s.entry; below = less; covers = s.covers })))
        | inr ge ↦
            let e : s.entry ≡ n = omega (arith, s.below) in
            let Q : ℕ → Type 0 = λ i. Covers (entry_at entries i) p in
            Contains-append_right (take h.0 list) (drop h.0 list) p ((h.2.exact p).1 (s.packet, subst Q e s.covers, none))
      ]
    ] in
    subst P (take-append-drop h.0 list) whole

-- ---- there is one order
before_both : (g : Geometry) (e : Progression) (p q : PacketName) → ComesBefore g (order_of e.order) p q → ComesBefore g (order_of e.order) q p → ⊥
before_both g e p q h k = less_both (key_of g (order_of e.order) p) (key_of g (order_of e.order) q) h k

one_sent : (g : Geometry) (layers : ℕ) (e : Progression) (before xs ys : List PacketName) → Sends g layers e before xs → Sends g layers e before ys → xs ≡ ys
one_sent g layers e before xs ys h k =
    one_sorted (ComesBefore g (order_of e.order)) (before_both g e) xs ys h.sorted k.sorted
    (λ p c. (k.exact p).1 ((h.exact p).0 c)) (λ p c. (h.exact p).1 ((k.exact p).0 c))

pub one_order : (g : Geometry) (layers : ℕ) (entries : List Progression) (n : ℕ) (a b : List PacketName)
    → IsOrder g layers entries n a → IsOrder g layers entries n b → a ≡ b
one_order g layers entries zero a b h k = h ∙ sym k
one_order g layers entries (suc n) a b h k =
    let front : take h.0 a ≡ take k.0 b = one_order g layers entries n (take h.0 a) (take k.0 b) h.1 k.1 in
    let P : List PacketName → Type 0 = λ xs. Sends g layers (entry_at entries n) xs (drop h.0 a) in
    let back : drop h.0 a ≡ drop k.0 b =
    one_sent g layers (entry_at entries n) (take k.0 b) (drop h.0 a) (drop k.0 b) (subst P front h.2) k.2 in
    let first : take h.0 a ++ drop h.0 a ≡ a = take-append-drop h.0 a in
    let second : take k.0 b ++ drop k.0 b ≡ b = take-append-drop k.0 b in
    cc

-- ---- no packet is sent twice
pub order_once : (g : Geometry) (layers : ℕ) (entries : List Progression) (n : ℕ) (list : List PacketName) → IsOrder g layers entries n list
    → AllPairs (λ p q. p ≢ q) list
order_once g layers entries zero list h = λ i j d lt below.
    let P : List PacketName → Type 0 = λ xs. j < length xs in
    let empty : List PacketName = [] in
    let none : j < length empty = subst P h below in
    absurd (omega (arith, none))
order_once g layers entries (suc n) list h =
    let P : List PacketName → Type 0 = λ xs. AllPairs (λ p q. p ≢ q) xs in
    let apart : (p q : PacketName) → Contains (take h.0 list) p → Contains (drop h.0 list) q → p ≢ q = λ p q hp hq e.
    (let Q : PacketName → Type 0 = λ w. Contains (take h.0 list) w in
    ((h.2.exact q).0 hq).2 (subst Q e hp)) in
    subst P (take-append-drop h.0 list) (pairs_append (λ p q. p ≢ q) (take h.0 list) (drop h.0 list)
    (order_once g layers entries n (take h.0 list) h.1)
    (pairs_apart (ComesBefore g (order_of (entry_at entries n).order)) (before_both g (entry_at entries n)) (drop h.0 list) h.2.sorted) apart)
