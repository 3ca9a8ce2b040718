-- The resolutions of a tile by their places, and how far an entry goes in one.
use Rattle.std.proofs.Common.{◌≡◌, ◌≢◌, ℕ, ◌+◌, ◌≤◌, ◌<◌, inl, inr, ◌⊎◌, ◌∙◌, ap, sym, refl, arith, min, length}
use Rattle.std.proofs.lemmas.Bool.{cases_eq, cases_lt}
use Rattle.std.proofs.lemmas.Bool.Decides.{nat_tests}
use Rattle.std.proofs.lemmas.List.Elements.{Contains-get_or}
use Rattle.std.proofs.lemmas.Option.{get_or_from_slice_get, slice_get_within}
use Rattle.jx_base.specs.Places.{size_of}
use Rattle.jx_geom.specs.declared.table.Resolution.{Resolution}
use Rattle.jx_geom.specs.Geometry.{Geometry, precincts_in, rect_of_tile}
use Rattle.jx_geom.specs.Resolutions.{place_of, resolution_at, resolutions_of}
use Rattle.jx_geom.proofs.TableLemmas.{IsListed, in_order, listed, precinct_listed}
use Rattle.jx_marker.specs.declared.Progression.{Progression}
use Rattle.jx_progression.specs.declared.names.PacketName.{PacketName}
use Rattle.jx_progression.specs.Packets.{IsPacketName}
use Rattle.jx_progression.specs.Steps.{name_of, no_resolution, row_of, row_end}

-- ---- how far an entry goes
pub zero_precincts : (layers : ℕ) (e : Progression) (q : Resolution) → q.precincts ≡ 0 → row_end layers e q ≡ 0
unfolding row_end
zero_precincts layers e q h = grind (arith, nat_tests)

pub zero_comp : (layers : ℕ) (e : Progression) (q : Resolution) → q.comp < e.cs → row_end layers e q ≡ 0
unfolding row_end
zero_comp layers e q h = grind (arith, nat_tests)

pub zero_res : (layers : ℕ) (e : Progression) (q : Resolution) → q.res < e.rs → row_end layers e q ≡ 0
unfolding row_end
zero_res layers e q h = grind (arith, nat_tests)

pub zero_below : (layers : ℕ) (e : Progression) (q : Resolution) → e.re ≤ q.res → row_end layers e q ≡ 0
unfolding row_end
zero_below layers e q h = grind (arith, nat_tests)

pub zero_end : (layers : ℕ) (e : Progression) (q : Resolution) → e.ce ≢ 0 → e.ce ≤ q.comp → row_end layers e q ≡ 0
unfolding row_end
zero_end layers e q some h = grind (arith, nat_tests)

pub end_most : (layers : ℕ) (e : Progression) (q : Resolution) → row_end layers e q ≤ min e.lye layers
unfolding row_end
end_most layers e q = grind (arith, nat_tests)

pub record InEnd (layers l : ℕ) (e : Progression) (q : Resolution) : Type 0 where
  pub some : 0 < q.precincts
  pub comp_from : e.cs ≤ q.comp
  pub comp_below : (e.ce ≡ 0) ⊎ (q.comp < e.ce)
  pub res_from : e.rs ≤ q.res
  pub res_below : q.res < e.re
  pub entry : l < e.lye
  pub layer : l < layers

pub end_to : (layers l : ℕ) (e : Progression) (q : Resolution) → l < row_end layers e q → InEnd layers l e q
end_to layers l e q lt = record {
  some = elim (cases_lt 0 q.precincts) [ inl some ↦ some | inr none ↦ absurd (omega (arith, zero_precincts layers e q (omega arith))) ];
  comp_from = elim (cases_lt q.comp e.cs) [ inl less ↦ absurd (omega (arith, zero_comp layers e q less)) | inr from ↦ from ];
  comp_below = elim (cases_eq e.ce 0) [
    | inl none ↦ inl none
    | inr some ↦ elim (cases_lt q.comp e.ce) [ inl less ↦ inr less | inr beyond ↦ absurd (omega (arith, zero_end layers e q some beyond)) ]
  ];
  res_from = elim (cases_lt q.res e.rs) [ inl less ↦ absurd (omega (arith, zero_res layers e q less)) | inr from ↦ from ];
  res_below = elim (cases_lt q.res e.re) [ inl less ↦ less | inr beyond ↦ absurd (omega (arith, zero_below layers e q beyond)) ];
  entry = omega (arith, end_most layers e q);
  layer = omega (arith, end_most layers e q);
}

end_whole : (layers : ℕ) (e : Progression) (q : Resolution) → 0 < q.precincts → e.cs ≤ q.comp → (e.ce ≡ 0) ⊎ (q.comp < e.ce)
    → e.rs ≤ q.res → q.res < e.re → row_end layers e q ≡ min e.lye layers
unfolding row_end
end_whole layers e q some cf cb rf rb = elim cb [
  | inl none ↦ grind (arith, nat_tests)
  | inr less ↦ elim (cases_eq e.ce 0) [ inl none ↦ grind (arith, nat_tests) | inr other ↦ grind (arith, nat_tests) ]
]

pub end_from : (layers l : ℕ) (e : Progression) (q : Resolution) → InEnd layers l e q → l < row_end layers e q
end_from layers l e q h =
    omega (arith, end_whole layers e q h.some h.comp_from h.comp_below h.res_from h.res_below, h.entry, h.layer)

-- ---- the resolution of a packet
abbrev pub index_of : Geometry → ℕ → ℕ → ℕ
index_of g c r = place_of (rect_of_tile g) g.shapes c + r

pub record RowOf (g : Geometry) (p : PacketName) : Type 0 where
  pub below : index_of g p.comp p.res < length (resolutions_of g)
  pub comp : (row_of g (index_of g p.comp p.res)).comp ≡ p.comp
  pub res : (row_of g (index_of g p.comp p.res)).res ≡ p.res
  pub precinct : p.precinct < (row_of g (index_of g p.comp p.res)).precincts

at_comp : (g : Geometry) (c r : ℕ) → (resolution_at (rect_of_tile g) g.shapes c r).comp ≡ c
unfolding resolution_at
at_comp g c r = refl

at_res : (g : Geometry) (c r : ℕ) → (resolution_at (rect_of_tile g) g.shapes c r).res ≡ r
unfolding resolution_at
at_res g c r = refl

at_size : (g : Geometry) (c r : ℕ) → (resolution_at (rect_of_tile g) g.shapes c r).precincts ≡ size_of (precincts_in g c r)
unfolding resolution_at
at_size g c r = refl

pub packet_row : (g : Geometry) (layers : ℕ) (p : PacketName) → IsPacketName g layers p → RowOf g p
packet_row g layers p h =
    let at = precinct_listed g p.comp p.res p.precinct (record { resolution = h.resolution; precinct = h.precinct }) in
    let e : row_of g (index_of g p.comp p.res) ≡ resolution_at (rect_of_tile g) g.shapes p.comp p.res =
    get_or_from_slice_get (resolutions_of g) (index_of g p.comp p.res) (resolution_at (rect_of_tile g) g.shapes p.comp p.res) no_resolution at in
    record {
      below = slice_get_within (resolutions_of g) (index_of g p.comp p.res) (resolution_at (rect_of_tile g) g.shapes p.comp p.res) at;
      comp = ap (λ (q : Resolution). q.comp) e ∙ at_comp g p.comp p.res;
      res = ap (λ (q : Resolution). q.res) e ∙ at_res g p.comp p.res;
      precinct = (let size : (row_of g (index_of g p.comp p.res)).precincts ≡ size_of (precincts_in g p.comp p.res) =
          ap (λ (q : Resolution). q.precincts) e ∙ at_size g p.comp p.res in
          omega (arith, h.precinct, size));
    }

pub row_listed : (g : Geometry) (i : ℕ) → i < length (resolutions_of g) → IsListed g (row_of g i)
row_listed g i lt = listed g (row_of g i) (Contains-get_or (resolutions_of g) i no_resolution lt)

-- two places of one resolution are one
not_same : (g : Geometry) (i j : ℕ) → j < length (resolutions_of g) → i < j → (row_of g i).comp ≡ (row_of g j).comp → (row_of g i).res ≡ (row_of g j).res → ⊥
not_same g i j below lt comp res = elim (in_order (rect_of_tile g) g.shapes i j no_resolution lt below) [
  | inl less ↦ omega arith
  | inr same ↦ omega (arith, same.1)
]

pub rows_once : (g : Geometry) (i j : ℕ) → i < length (resolutions_of g) → j < length (resolutions_of g)
    → (row_of g i).comp ≡ (row_of g j).comp → (row_of g i).res ≡ (row_of g j).res → i ≡ j
rows_once g i j hi hj comp res = elim (cases_lt i j) [
  | inl less ↦ absurd (not_same g i j hj less comp res)
  | inr ge ↦ elim (cases_lt j i) [
    | inl more ↦ absurd (not_same g j i hi more (sym comp) (sym res))
    | inr le ↦ omega arith
  ]
]

-- a resolution that has a precinct stands where its packets look for it
pub row_packet : (g : Geometry) (layers i l k : ℕ) → i < length (resolutions_of g) → l < layers → k < (row_of g i).precincts
    → IsPacketName g layers (name_of l (row_of g i).res (row_of g i).comp k)
row_packet g layers i l k lt layer precinct =
    let is = row_listed g i lt in
    record { layer = layer; resolution = is.there; precinct = omega (arith, is.precincts) }

pub row_index : (g : Geometry) (i : ℕ) → i < length (resolutions_of g) → 0 < (row_of g i).precincts → index_of g (row_of g i).comp (row_of g i).res ≡ i
row_index g i lt some =
    let p = name_of 0 (row_of g i).res (row_of g i).comp 0 in
    let own = packet_row g 1 (name_of 0 (row_of g i).res (row_of g i).comp 0) (row_packet g 1 i 0 0 lt (omega arith) some) in
    rows_once g (index_of g (row_of g i).comp (row_of g i).res) i own.below lt own.comp own.res
