-- There is an order of each tile's packets: what an entry sends can be sorted.
use Rattle.std.proofs.Common.{◌≡◌, ℕ, zero, suc, List, [], ◌∷◌, ◌++◌, inl, inr, ◌⊎◌, ◌↔◌, ◌∙◌, sym, subst, refl, arith, length, take, drop}
use Rattle.std.proofs.lemmas.Bool.{cases_eq, cases_lt}
use Rattle.std.proofs.Math.Seq.{take-append_seam, drop-append_seam}
use Rattle.std.specs.List.{AllPairs, Contains}
use Rattle.jx_base.proofs.Lists.{contains_cons, contains_head, contains_tail, contains_none, pairs_append, pairs_head, pairs_tail}
use Rattle.jx_geom.specs.Geometry.{Geometry, GeometryInRange}
use Rattle.jx_marker.specs.declared.Progression.{Progression}
use Rattle.jx_progression.specs.declared.names.PacketName.{PacketName}
use Rattle.jx_progression.specs.declared.keys.Order.{Order}
use Rattle.jx_progression.specs.Orders.{IsLess, ComesBefore, key_of, order_of}
use Rattle.jx_progression.specs.Packets.{Covers, IsOrder, IsPacketName, Sends, entry_at}
use Rattle.jx_progression.specs.Steps.{all_heads}
use Rattle.jx_progression.proofs.LessLemmas.{less_trans}
use Rattle.jx_progression.proofs.OrderCases.{key_long, one_key}
use Rattle.jx_progression.proofs.OrderLemmas.{contains_or}
use Rattle.jx_progression.proofs.SortLemmas.{exact_names, names_of, one_name_pairs}

-- ---- of two keys of one length one is less, or they are one
less_or : (xs ys : List ℕ) → length xs ≡ length ys → IsLess xs ys ⊎ ((xs ≡ ys) ⊎ IsLess ys xs)
less_or [] [] e = inr (inl refl)
less_or [] (y ∷ ys) e = absurd (omega arith)
less_or (x ∷ xs) [] e = absurd (omega arith)
less_or (x ∷ xs) (y ∷ ys) e = elim (cases_lt x y) [
  | inl lt ↦ inl (inl lt)
  | inr ge ↦ elim (cases_lt y x) [
    | inl gt ↦ inr (inr (inl gt))
    | inr le ↦
        let same : x ≡ y = omega arith in
        elim (less_or xs ys (omega arith)) [
          | inl less ↦ inl (inr (same, less))
          | inr rest ↦ elim rest [
            | inl tail ↦ inr (inl (cc))
            | inr more ↦ inr (inr (inr (sym same, more)))
          ]
        ]
  ]
]

either_before : (g : Geometry) (layers : ℕ) (o : Order) (p q : PacketName) → GeometryInRange g → IsPacketName g layers p → IsPacketName g layers q
    → ComesBefore g o p q ⊎ ((p ≡ q) ⊎ ComesBefore g o q p)
either_before g layers o p q range hp hq = elim (less_or (key_of g o p) (key_of g o q) (key_long g o p q)) [
  | inl less ↦ inl less
  | inr rest ↦ elim rest [
    | inl same ↦ inr (inl (one_key g layers o p q range hp hq same))
    | inr more ↦ inr (inr more)
  ]
]

-- ---- a sorted list with one more packet
record Inserted (g : Geometry) (layers : ℕ) (o : Order) (x : PacketName) (ys : List PacketName) : Type 0 where
  pub list : List PacketName
  pub sorted : AllPairs (ComesBefore g o) list
  pub to : (p : PacketName) → Contains list p → (x ≡ p) ⊎ Contains ys p
  pub from : (p : PacketName) → (x ≡ p) ⊎ Contains ys p → Contains list p

pairs_cons : (g : Geometry) (o : Order) (x : PacketName) (ys : List PacketName) → ((y : PacketName) → Contains ys y → ComesBefore g o x y)
    → AllPairs (ComesBefore g o) ys → AllPairs (ComesBefore g o) (x ∷ ys)
pairs_cons g o x ys first rest =
    pairs_append (ComesBefore g o) (x ∷ []) ys (one_name_pairs g o x) rest (λ a b ha hb. elim (contains_cons x [] a ha) [
      | inl same ↦
          let P : PacketName → Type 0 = λ v. ComesBefore g o v b in
          subst P same (first b hb)
      | inr none ↦ absurd (contains_none a none)
    ])

trans : (g : Geometry) (o : Order) (p q r : PacketName) → ComesBefore g o p q → ComesBefore g o q r → ComesBefore g o p r
trans g o p q r = less_trans (key_of g o p) (key_of g o q) (key_of g o r)

insert : (g : Geometry) (layers : ℕ) (o : Order) (x : PacketName) (ys : List PacketName) → GeometryInRange g → IsPacketName g layers x
    → ((p : PacketName) → Contains ys p → IsPacketName g layers p) → AllPairs (ComesBefore g o) ys → Inserted g layers o x ys
insert g layers o x [] range hx are sorted = record {
  list = x ∷ [];
  sorted = one_name_pairs g o x;
  to = λ p h. contains_cons x [] p h;
  from = λ p h. elim h [
    | inl same ↦
        let P : PacketName → Type 0 = λ v. Contains (x ∷ []) v in
        subst P same (contains_head x [])
    | inr none ↦ absurd (contains_none p none)
  ];
}
insert g layers o x (y ∷ ys) range hx are sorted = elim (either_before g layers o x y range hx (are y (contains_head y ys))) [
  | inl less ↦ record {
    list = x ∷ y ∷ ys;
    sorted = pairs_cons g o x (y ∷ ys) (λ z h. elim (contains_cons y ys z h) [
      | inl same ↦
          let P : PacketName → Type 0 = λ v. ComesBefore g o x v in
          subst P same less
      | inr rest ↦ trans g o x y z less (pairs_head (ComesBefore g o) y ys z sorted rest)
    ]) sorted;
    to = λ p h. contains_cons x (y ∷ ys) p h;
    from = λ p h. elim h [
      | inl same ↦
          let P : PacketName → Type 0 = λ v. Contains (x ∷ y ∷ ys) v in
          subst P same (contains_head x (y ∷ ys))
      | inr rest ↦ contains_tail x (y ∷ ys) p rest
    ];
  }
  | inr later ↦ elim later [
    | inl same ↦ record {
      list = y ∷ ys;
      sorted = sorted;
      to = λ p h. inr h;
      from = λ p h. elim h [
        | inl here ↦
            let P : PacketName → Type 0 = λ v. Contains (y ∷ ys) v in
            subst P (sym same ∙ here) (contains_head y ys)
        | inr rest ↦ rest
      ];
    }
    | inr more ↦
        let r = insert g layers o x ys range hx (λ p h. are p (contains_tail y ys p h)) (pairs_tail (ComesBefore g o) y ys sorted) in
        record {
          list = y ∷ r.list;
          sorted = pairs_cons g o y r.list (λ z h. elim (r.to z h) [
            | inl same ↦
                let P : PacketName → Type 0 = λ v. ComesBefore g o y v in
                subst P same more
            | inr rest ↦ pairs_head (ComesBefore g o) y ys z sorted rest
          ]) r.sorted;
          to = λ p h. elim (contains_cons y r.list p h) [
            | inl same ↦
                let P : PacketName → Type 0 = λ v. Contains (y ∷ ys) v in
                inr (subst P same (contains_head y ys))
            | inr rest ↦ elim (r.to p rest) [ inl here ↦ inl here | inr old ↦ inr (contains_tail y ys p old) ]
          ];
          from = λ p h. elim h [
            | inl here ↦ contains_tail y r.list p (r.from p (inl here))
            | inr rest ↦ elim (contains_cons y ys p rest) [
              | inl same ↦
                  let P : PacketName → Type 0 = λ v. Contains (y ∷ r.list) v in
                  subst P same (contains_head y r.list)
              | inr old ↦ contains_tail y r.list p (r.from p (inr old))
            ]
          ];
        }
  ]
]

-- ---- the packets of a list that an entry sends after others
covers_or : (e : Progression) (p : PacketName) → Covers e p ⊎ (Covers e p → ⊥)
covers_or e p = elim (cases_lt p.layer e.lye) [
  | inr out ↦ inr (λ c. omega (arith, c.layer))
  | inl layer ↦ elim (cases_lt p.res e.rs) [
    | inl out ↦ inr (λ c. omega (arith, c.res_from))
    | inr res_from ↦ elim (cases_lt p.res e.re) [
      | inr out ↦ inr (λ c. omega (arith, c.res_below))
      | inl res_below ↦ elim (cases_lt p.comp e.cs) [
        | inl out ↦ inr (λ c. omega (arith, c.comp_from))
        | inr comp_from ↦ elim (cases_eq e.ce 0) [
          | inl none ↦ inl (record { layer = layer; res_from = res_from; res_below = res_below; comp_from = comp_from; comp_below = inl none })
          | inr some ↦ elim (cases_lt p.comp e.ce) [
            | inl less ↦ inl (record { layer = layer; res_from = res_from; res_below = res_below; comp_from = comp_from; comp_below = inr less })
            | inr out ↦ inr (λ c. elim c.comp_below [ inl none ↦ some none | inr less ↦ omega arith ])
          ]
        ]
      ]
    ]
  ]
]

record SentOf (g : Geometry) (layers : ℕ) (e : Progression) (before xs : List PacketName) : Type 0 where
  pub list : List PacketName
  pub sorted : AllPairs (ComesBefore g (order_of e.order)) list
  pub to : (p : PacketName) → Contains list p → Contains xs p × Covers e p × (Contains before p → ⊥)
  pub from : (p : PacketName) → Contains xs p → Covers e p → (Contains before p → ⊥) → Contains list p

left_out : (g : Geometry) (layers : ℕ) (e : Progression) (before : List PacketName) (x : PacketName) (xs : List PacketName) → SentOf g layers e before xs
    → (Covers e x → (Contains before x → ⊥) → ⊥) → SentOf g layers e before (x ∷ xs)
left_out g layers e before x xs r out = record {
  list = r.list;
  sorted = r.sorted;
  to = λ p h. (let t = r.to p h in (contains_tail x xs p t.0, t.1, t.2));
  from = λ p h c n. elim (contains_cons x xs p h) [
    | inl same ↦
        let P : PacketName → Type 0 = λ v. Covers e v → (Contains before v → ⊥) → ⊥ in
        absurd (subst P same out c n)
    | inr rest ↦ r.from p rest c n
  ];
}

sent_of : (g : Geometry) (layers : ℕ) (e : Progression) (before xs : List PacketName) → GeometryInRange g
    → ((p : PacketName) → Contains xs p → IsPacketName g layers p) → SentOf g layers e before xs
sent_of g layers e before [] range are =
    let none : List PacketName = [] in record {
      list = [];
      sorted = λ i j d lt below. absurd (omega arith);
      to = λ p h. absurd (contains_none p h);
      from = λ p h c n. absurd (contains_none p h);
    }
sent_of g layers e before (x ∷ xs) range are =
    let r = sent_of g layers e before xs range (λ p h. are p (contains_tail x xs p h)) in
    elim (covers_or e x) [
      | inr out ↦ left_out g layers e before x xs r (λ c n. out c)
      | inl covers ↦ elim (contains_or before x) [
        | inl old ↦ left_out g layers e before x xs r (λ c n. n old)
        | inr new ↦
            let i = insert g layers (order_of e.order) x r.list range (are x (contains_head x xs))
            (λ p h. are p (contains_tail x xs p (r.to p h).0)) r.sorted in
            let T : PacketName → Type 0 = λ v. Contains (x ∷ xs) v × Covers e v × (Contains before v → ⊥) in
            record {
              list = i.list;
              sorted = i.sorted;
              to = λ p h. elim (i.to p h) [
                | inl same ↦ subst T same (contains_head x xs, covers, new)
                | inr rest ↦ let t = r.to p rest in (contains_tail x xs p t.0, t.1, t.2)
              ];
              from = λ p h c n. elim (contains_cons x xs p h) [
                | inl same ↦ i.from p (inl same)
                | inr rest ↦ i.from p (inr (r.from p rest c n))
              ];
            }
      ]
    ]

-- ---- all packets of a tile, as those of an entry that covers all
abbrev all_of : ℕ → Progression
all_of layers = record { rs = 0; cs = 0; lye = layers; re = 33; ce = 0; order = 0 }

abbrev all_packets : Geometry → ℕ → List PacketName
all_packets g layers = names_of g layers (all_of layers) (all_heads g layers (all_of layers) [])

all_are : (g : Geometry) (layers : ℕ) (p : PacketName) → GeometryInRange g → Contains (all_packets g layers) p ↔ IsPacketName g layers p
all_are g layers p range =
    let exact = exact_names g layers (all_of layers) [] (all_heads g layers (all_of layers) []) (λ x h. h) (λ x h. h) p in (
      λ h. (exact.0 h).0,
      λ packet.
          (let level = (range.shapes p.comp packet.resolution.component).numbers.levels in
          exact.1 (
            packet,
            record { layer = packet.layer; res_from = omega arith; res_below = omega (arith, packet.resolution.level, level); comp_from = omega arith; comp_below = inl refl },
            omega arith,
          )),
    )

pub sends_exist : (g : Geometry) (layers : ℕ) (e : Progression) (before : List PacketName) → GeometryInRange g → (list : List PacketName) × Sends g layers e before list
sends_exist g layers e before range =
    let r = sent_of g layers e before (all_packets g layers) range (λ p h. (all_are g layers p range).0 h) in (
      r.list,
      record {
        exact = λ p. (
          λ h. (let t = r.to p h in ((all_are g layers p range).0 t.0, t.1, t.2)),
          λ h. r.from p ((all_are g layers p range).1 h.0) h.1 h.2,
        );
        sorted = r.sorted;
      },
    )

pub orders_exist : (g : Geometry) (layers : ℕ) (entries : List Progression) (n : ℕ) → GeometryInRange g → (list : List PacketName) × IsOrder g layers entries n list
orders_exist g layers entries zero range = ([], refl)
orders_exist g layers entries (suc n) range =
    let old = orders_exist g layers entries n range in
    let next = sends_exist g layers (entry_at entries n) old.0 range in
    let front : take (length old.0) (old.0 ++ next.0) ≡ old.0 = take-append_seam old.0 next.0 in
    let back : drop (length old.0) (old.0 ++ next.0) ≡ next.0 = drop-append_seam old.0 next.0 in
    let P : List PacketName → Type 0 = λ l. IsOrder g layers entries n l in
    let Q : List PacketName → Type 0 = λ l. Sends g layers (entry_at entries n) l next.0 in
    let R : List PacketName → Type 0 = λ l. Sends g layers (entry_at entries n) (take (length old.0) (old.0 ++ next.0)) l in
    (old.0 ++ next.0, (length old.0, subst P (sym front) old.1, subst R (sym back) (subst Q (sym front) next.1)))
