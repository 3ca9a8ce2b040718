-- Each packet of a tile is covered, or some packet isn't.
use Rattle.std.proofs.Common.{◌≡◌, ℕ, zero, suc, ◌<◌, ◌≤◌, ◌^◌, List, length, subst, arith, inl, inr, ◌⊎◌}
use Rattle.std.proofs.lemmas.Bool.{cases_lt, cases_eq}
use Rattle.jx_base.specs.Places.{size_of}
use Rattle.jx_geom.specs.Geometry.{Geometry, shape_of, precincts_in}
use Rattle.jx_marker.specs.declared.Progression.{Progression}
use Rattle.jx_progression.specs.declared.names.PacketName.{PacketName}
use Rattle.jx_progression.specs.Packets.{IsPacketName, Covers, IsCovered, AreCovered, HasUncovered, entry_at}
use Rattle.jx_progression.specs.Steps.{name_of}

-- ---- rule 25
-- what holds of all numbers below one, or fails of some
search_all : (P Q : ℕ → Type 0) (n : ℕ) → ((i : ℕ) → i < n → P i ⊎ Q i) → ((i : ℕ) → i < n → P i) ⊎ ((i : ℕ) × ((i < n) × Q i))
search_all P Q zero each = inl (λ i lt. absurd (omega arith))
search_all P Q (suc n) each = elim (search_all P Q n (λ i lt. each i (omega arith))) [
  | inl front ↦ elim (each n (omega arith)) [
    | inl own ↦ inl (λ i lt. last P n i front own lt)
    | inr fails ↦ inr (n, (omega arith, fails))
  ]
  | inr fails ↦ inr (fails.0, ((let lt = fails.1.0 in omega arith), fails.1.1))
]
  where
    last : (P : ℕ → Type 0) (n i : ℕ) → ((i : ℕ) → i < n → P i) → P n → i < suc n → P i
    last P n i front own lt = elim (cases_lt i n) [
      | inl below ↦ front i below
      | inr ge ↦ (let same : n ≡ i = omega arith in subst P same own)
    ]

-- the first of which it fails
pub search_first : (P Q : ℕ → Type 0) (n : ℕ) → ((i : ℕ) → i < n → P i ⊎ Q i) → ((i : ℕ) → i < n → P i) ⊎ ((i : ℕ) × ((i < n) × (((j : ℕ) → j < i → P j) × Q i)))
search_first P Q zero each = inl (λ i lt. absurd (omega arith))
search_first P Q (suc n) each = elim (search_first P Q n (λ i lt. each i (omega arith))) [
  | inl front ↦ elim (each n (omega arith)) [
    | inl own ↦ inl (λ i lt. last P n i front own lt)
    | inr fails ↦ inr (n, (omega arith, (front, fails)))
  ]
  | inr fails ↦ inr (fails.0, ((let lt = fails.1.0 in omega arith), fails.1.1))
]
  where
    last : (P : ℕ → Type 0) (n i : ℕ) → ((i : ℕ) → i < n → P i) → P n → i < suc n → P i
    last P n i front own lt = elim (cases_lt i n) [
      | inl below ↦ front i below
      | inr ge ↦ (let same : n ≡ i = omega arith in subst P same own)
    ]

abbrev Or : Type 0 → Type 0
Or P = P ⊎ (P → ⊥)

both : (P Q : Type 0) → Or P → Or Q → Or (P × Q)
both P Q (inl p) (inl q) = inl (p, q)
both P Q (inl p) (inr nq) = inr (λ x. nq x.1)
both P Q (inr np) q = inr (λ x. np x.0)

less_or : (m n : ℕ) → Or (m < n)
less_or m n = elim (cases_lt m n) [ inl lt ↦ inl lt | inr ge ↦ inr (λ lt. (let lt' : m < n = lt in omega arith)) ]

most_or : (m n : ℕ) → Or (m ≤ n)
most_or m n = elim (cases_lt n m) [ inl gt ↦ inr (λ le. (let le' : m ≤ n = le in omega arith)) | inr le ↦ inl le ]

end_or : (e : Progression) (p : PacketName) → Or ((e.ce ≡ 0) ⊎ (p.comp < e.ce))
end_or e p = elim (cases_eq e.ce 0) [
  | inl none ↦ inl (inl none)
  | inr some ↦ elim (cases_lt p.comp e.ce) [
    | inl lt ↦ inl (inr lt)
    | inr ge ↦ inr (λ x. elim x [ inl none ↦ some none | inr lt ↦ (let lt' : p.comp < e.ce = lt in omega arith) ])
  ]
]

covers_or : (e : Progression) (p : PacketName) → Or (Covers e p)
covers_or e p =
    elim (both ((p.layer < e.lye) × (e.rs ≤ p.res)) ((p.res < e.re) × ((e.cs ≤ p.comp) × ((e.ce ≡ 0) ⊎ (p.comp < e.ce))))
    (both (p.layer < e.lye) (e.rs ≤ p.res) (less_or p.layer e.lye) (most_or e.rs p.res))
    (both (p.res < e.re) ((e.cs ≤ p.comp) × ((e.ce ≡ 0) ⊎ (p.comp < e.ce))) (less_or p.res e.re)
    (both (e.cs ≤ p.comp) ((e.ce ≡ 0) ⊎ (p.comp < e.ce)) (most_or e.cs p.comp) (end_or e p)))) [
      | inl x ↦ inl (record { layer = x.0.0; res_from = x.0.1; res_below = x.1.0; comp_from = x.1.1.0; comp_below = x.1.1.1 })
      | inr fails ↦ inr (λ c. fails ((c.layer, c.res_from), (c.res_below, (c.comp_from, c.comp_below))))
    ]

covered_or : (entries : List Progression) (p : PacketName) → IsCovered entries p ⊎ (IsCovered entries p → ⊥)
covered_or entries p =
    elim (search_all (λ i. Covers (entry_at entries i) p → ⊥) (λ i. Covers (entry_at entries i) p) (length entries)
    (λ i lt. elim (covers_or (entry_at entries i) p) [ inl is ↦ inr is | inr fails ↦ inl fails ])) [
      | inl none ↦ inr (λ c. none c.0 c.1 c.2)
      | inr some ↦ inl (some.0, some.1.0, some.1.1)
    ]

-- a packet that is covered wherever it is one
abbrev CoveredAt : Geometry → ℕ → List Progression → ℕ → ℕ → ℕ → ℕ → Type 0
CoveredAt g layers entries c r k l = IsPacketName g layers (name_of l r c k) → IsCovered entries (name_of l r c k)

abbrev Uncovered : Geometry → ℕ → List Progression → Type 0
Uncovered g layers entries = HasUncovered g layers entries

layer_or : (g : Geometry) (layers : ℕ) (entries : List Progression) (c r k l : ℕ) → length g.shapes ≤ 2 ^ 16 → c < length g.shapes → r < suc (shape_of g c).levels → k < size_of (precincts_in g c r) → l < layers
    → CoveredAt g layers entries c r k l ⊎ HasUncovered g layers entries
layer_or g layers entries c r k l few hc hr hk hl = elim (covered_or entries (name_of l r c k)) [
  | inl is ↦ inl (λ named. is)
  | inr fails ↦ inr (name_of l r c k, record { layer = hl; resolution = record { component = hc; level = omega arith }; precinct = hk }, fails)
]

pub cover_or : (g : Geometry) (layers : ℕ) (entries : List Progression) → length g.shapes ≤ 2 ^ 16 → AreCovered g layers entries ⊎ HasUncovered g layers entries
cover_or g layers entries few =
    elim (over (length g.shapes) (λ c. (r : ℕ) → r < suc (shape_of g c).levels → (k : ℕ) → k < size_of (precincts_in g c r) → (l : ℕ) → l < layers → CoveredAt g layers entries c r k l)
    (λ c hc. over (suc (shape_of g c).levels) (λ r. (k : ℕ) → k < size_of (precincts_in g c r) → (l : ℕ) → l < layers → CoveredAt g layers entries c r k l)
    (λ r hr. over (size_of (precincts_in g c r)) (λ k. (l : ℕ) → l < layers → CoveredAt g layers entries c r k l)
    (λ k hk. over layers (λ l. CoveredAt g layers entries c r k l) (λ l hl. layer_or g layers entries c r k l few hc hr hk hl))))) [
      | inl all ↦ inl (λ p is. all p.comp is.resolution.component p.res (let le = is.resolution.level in omega arith) p.precinct is.precinct p.layer is.layer is)
      | inr some ↦ inr some
    ]
  where
    over : (n : ℕ) (P : ℕ → Type 0) → ((i : ℕ) → i < n → P i ⊎ HasUncovered g layers entries) → ((i : ℕ) → i < n → P i) ⊎ HasUncovered g layers entries
    over n P each = elim (search_all P (λ i. HasUncovered g layers entries) n each) [ inl all ↦ inl all | inr some ↦ inr some.1.1 ]
