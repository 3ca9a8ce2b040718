-- Whether each packet is covered, resolution by resolution.
use Rattle.std.proofs.Common.{◌≡◌, ◌↔◌, Bool, true, false, IsTrue, refl, ℕ, zero, suc, ◌+◌, ◌≤◌, ◌<◌, List, inl, inr, ◌⊎◌, ap, arith, max, length, slice_index}
use Rattle.std.proofs.lemmas.Bool.{cases_eq, cases_lt}
use Rattle.jx_geom.specs.declared.table.Resolution.{Resolution}
use Rattle.jx_geom.specs.Geometry.{Geometry}
use Rattle.jx_geom.specs.Resolutions.{resolutions_of}
use Rattle.jx_marker.specs.declared.Progression.{Progression}
use Rattle.jx_progression.specs.declared.names.PacketName.{PacketName}
use Rattle.jx_progression.specs.Packets.{AreCovered, HasUncovered, IsCovered, IsPacketName, entry_at}
use Rattle.jx_progression.specs.Groups.{AreCoveredTo}
use Rattle.jx_progression.specs.Steps.{IsCoveredTo, IsMarked, name_of, row_of, row_end}
use Rattle.jx_progression.proofs.RowLemmas.{end_from, end_to, index_of, packet_row, row_packet}

-- one more entry
pub record CoveredBelow (layers : ℕ) (entries : List Progression) (q : Resolution) (n i : ℕ) : Type 0 where
  pub each : (j : ℕ) → j < i → row_end layers (entry_at entries j) q ≤ n
  pub least : (m : ℕ) → ((j : ℕ) → j < i → row_end layers (entry_at entries j) q ≤ m) → n ≤ m

pub covered_next : (layers : ℕ) (entries : List Progression) (q : Resolution) (n i end new : ℕ) → CoveredBelow layers entries q n i
    → end ≡ row_end layers (entry_at entries i) q → new ≡ max n end → CoveredBelow layers entries q new (i + 1)
covered_next layers entries q n i end new h e is = record {
  each = λ j lt. elim (cases_lt j i) [
    | inl less ↦ omega (arith, h.each j less)
    | inr ge ↦
        let same : j ≡ i = omega arith in
        let at : row_end layers (entry_at entries j) q ≡ row_end layers (entry_at entries i) q = ap (λ k. row_end layers (entry_at entries k) q) same in
        omega arith
  ];
  least = λ m all.
      (let old : n ≤ m = h.least m (λ j lt. all j (omega arith)) in
      let own : row_end layers (entry_at entries i) q ≤ m = all i (omega arith) in
      omega arith);
}

-- some entry goes past a layer, or none does
search_below : (f : ℕ → ℕ) (l n : ℕ) → ((i : ℕ) × (i < n) × (l < f i)) ⊎ ((i : ℕ) → i < n → f i ≤ l)
search_below f l zero = inr (λ i lt. absurd (omega arith))
search_below f l (suc n) = elim (cases_lt l (f n)) [
  | inl past ↦ inl (n, omega arith, past)
  | inr here ↦ elim (search_below f l n) [
    | inl found ↦ inl (found.0, omega (arith, found.1), found.2)
    | inr none ↦ inr (λ i lt. elim (cases_eq i n) [ inl same ↦ rw same here | inr other ↦ none i (omega arith) ])
  ]
]

-- the packets of resolutions that are covered in all layers
pub row_covered : (g : Geometry) (layers : ℕ) (entries : List Progression) (p : PacketName) (n : ℕ) → IsPacketName g layers p
    → IsCoveredTo layers entries (row_of g (index_of g p.comp p.res)) n → layers ≤ n → IsCovered entries p
row_covered g layers entries p n packet to all =
    let row = packet_row g layers p packet in
    elim (search_below (λ i. row_end layers (entry_at entries i) (row_of g (index_of g p.comp p.res))) p.layer (length entries)) [
      | inl found ↦
          let end = end_to layers p.layer (entry_at entries found.0) (row_of g (index_of g p.comp p.res)) found.2 in (
            found.0,
            found.1,
            record {
              layer = end.entry;
              res_from = omega (arith, end.res_from, row.res);
              res_below = omega (arith, end.res_below, row.res);
              comp_from = omega (arith, end.comp_from, row.comp);
              comp_below = elim end.comp_below [ inl none ↦ inl none | inr less ↦ inr (omega (arith, row.comp)) ];
            },
          )
      | inr none ↦ absurd (omega (arith, to.least p.layer none, packet.layer))
    ]

pub record RowsCovered (g : Geometry) (layers : ℕ) (entries : List Progression) : Type 0 where
  pub each : (i : ℕ) → i < length (resolutions_of g) → 0 < (row_of g i).precincts → (n : ℕ) × IsCoveredTo layers entries (row_of g i) n × (layers ≤ n)

pub all_covered : (g : Geometry) (layers : ℕ) (entries : List Progression) → RowsCovered g layers entries → AreCovered g layers entries
all_covered g layers entries h p packet =
    let row = packet_row g layers p packet in
    let own = h.each (index_of g p.comp p.res) row.below (omega (arith, row.precinct)) in
    row_covered g layers entries p own.0 packet own.1 own.2

-- and one that isn't
pub row_uncovered : (g : Geometry) (layers : ℕ) (entries : List Progression) (i n : ℕ) → i < length (resolutions_of g) → 0 < (row_of g i).precincts
    → IsCoveredTo layers entries (row_of g i) n → n < layers → HasUncovered g layers entries
row_uncovered g layers entries i n lt some to below = (
  name_of n (row_of g i).res (row_of g i).comp 0,
  row_packet g layers i n 0 lt below some,
  λ covered.
      (let c = covered.2 in
      let past : n < row_end layers (entry_at entries covered.0) (row_of g i) = end_from layers n (entry_at entries covered.0) (row_of g i) (record {
        some = some;
        comp_from = c.comp_from;
        comp_below = c.comp_below;
        res_from = c.res_from;
        res_below = c.res_below;
        entry = c.layer;
        layer = below;
      }) in
      let each = to.each covered.0 covered.1 in
      omega arith),
)

pub not_both : (g : Geometry) (layers : ℕ) (entries : List Progression) → HasUncovered g layers entries → AreCovered g layers entries → ⊥
not_both g layers entries h all = h.2 (all h.0 h.1)

-- ---- the table after some entries
abbrev pub AreCoveredBelow : Geometry → ℕ → List Progression → List ℕ → ℕ → Type 0
AreCoveredBelow g layers entries sent n =
    (i : ℕ) → i < length (resolutions_of g) → CoveredBelow layers entries (row_of g i) (slice_index sent i) n

pub none_covered : (g : Geometry) (layers : ℕ) (entries : List Progression) (sent : List ℕ) → ((i : ℕ) → slice_index sent i ≡ 0)
    → AreCoveredBelow g layers entries sent 0
none_covered g layers entries sent none i lt = record {
  each = λ j below. absurd (omega arith);
  least = λ m all. omega (arith, none i);
}

pub more_covered : (g : Geometry) (layers : ℕ) (entries : List Progression) (e : Progression) (sent now : List ℕ) (n : ℕ)
    → ((q : Resolution) → row_end layers e q ≡ row_end layers (entry_at entries n) q) → AreCoveredBelow g layers entries sent n
    → IsMarked g layers e sent now → AreCoveredBelow g layers entries now (n + 1)
more_covered g layers entries e sent now n same h marked i lt =
    covered_next layers entries (row_of g i) (slice_index sent i) n (row_end layers e (row_of g i)) (slice_index now i) (h i lt) (same (row_of g i)) (marked i lt)

pub all_below : (g : Geometry) (layers : ℕ) (entries : List Progression) (sent : List ℕ) → AreCoveredBelow g layers entries sent (length entries)
    → AreCoveredTo g layers entries sent
all_below g layers entries sent h i lt = record { each = (h i lt).each; least = (h i lt).least }

-- the same of an entry of another order
pub unordered_end : (layers : ℕ) (e f : Progression) (q : Resolution) → f ≡ record e { order = 0 }
    → row_end layers f q ≡ row_end layers e q
unfolding row_end
unordered_end layers e f q same = ap (λ (v : Progression). row_end layers v q) same

-- ---- at the end
pub whole_covered : (g : Geometry) (layers : ℕ) (entries : List Progression) (sent : List ℕ) → AreCoveredTo g layers entries sent
    → ((i : ℕ) → i < length (resolutions_of g) → 0 < (row_of g i).precincts → layers ≤ slice_index sent i) → AreCovered g layers entries
whole_covered g layers entries sent to all =
    all_covered g layers entries (record { each = λ i lt some. (slice_index sent i, to i lt, all i lt some) })

pub some_uncovered : (g : Geometry) (layers : ℕ) (entries : List Progression) (sent : List ℕ) → AreCoveredTo g layers entries sent
    → ((i : ℕ) × (i < length (resolutions_of g)) × (0 < (row_of g i).precincts) × (slice_index sent i < layers)) → HasUncovered g layers entries
some_uncovered g layers entries sent to h = row_uncovered g layers entries h.0 (slice_index sent h.0) h.1 h.2 (to h.0 h.1) h.3

pub covered_answer : (g : Geometry) (layers : ℕ) (entries : List Progression) (sent : List ℕ) (b : Bool) → AreCoveredTo g layers entries sent
    → (IsTrue b → (i : ℕ) → i < length (resolutions_of g) → 0 < (row_of g i).precincts → layers ≤ slice_index sent i)
    → (b ≡ false → (i : ℕ) × (i < length (resolutions_of g)) × (0 < (row_of g i).precincts) × (slice_index sent i < layers))
    → IsTrue b ↔ AreCovered g layers entries
covered_answer g layers entries sent true to all lacks = (λ t. whole_covered g layers entries sent to (all t), λ h. refl)
covered_answer g layers entries sent false to all lacks = (
  λ t. absurd (cc),
  λ h. absurd (not_both g layers entries (some_uncovered g layers entries sent to (lacks refl)) h),
)

pub whole_when : (g : Geometry) (layers : ℕ) (entries : List Progression) (sent : List ℕ) (b : Bool) → AreCoveredTo g layers entries sent
    → (IsTrue b → (i : ℕ) → i < length (resolutions_of g) → 0 < (row_of g i).precincts → layers ≤ slice_index sent i)
    → b ≡ true → AreCovered g layers entries
whole_when g layers entries sent b to all is = whole_covered g layers entries sent to (all is)
