-- A tile has few packets, so a list that has each once is short.
use Rattle.std.proofs.Common.{◌≡◌, ◌≢◌, ◌↔◌, ℕ, ◌+◌, ◌*◌, ◌<◌, ◌≤◌, ◌^◌, Bool, true, false, List, [], ◌∷◌, length, map, get_or, refl, sym, ap, subst, arith, nat_lt, None, All}
use Rattle.std.specs.List.{AllPairs, AllByRecursion, Contains, IsDistinct, list_any}
use Rattle.std.proofs.Math.Dec.{eqb}
use Rattle.std.proofs.lemmas.Bool.{ne_eqb}
use Rattle.std.proofs.lemmas.Bool.Decides.{nat_tests}
use Rattle.std.proofs.lemmas.List.{length-map}
use Rattle.std.proofs.lemmas.List.Elements.{Contains-get_or}
use Rattle.std.proofs.lemmas.Map.Steps.{length-le_from_distinct_below}
use Rattle.std.proofs.lemmas.Nat.{same_from_place}
use Rattle.jx_base.proofs.Lists.{contains_head, contains_tail, pairs_head, pairs_tail}
use Rattle.jx_base.proofs.Sums.{sum_below_more}
use Rattle.jx_geom.specs.Counts.{tile_precincts}
use Rattle.jx_geom.specs.Geometry.{Geometry, rect_of_tile}
use Rattle.jx_geom.specs.Precincts.{HasPrecinct, precinct_number}
use Rattle.jx_geom.proofs.PrecinctLemmas.{precinct_below, precinct_once}
use Rattle.jx_base.specs.Joined.{sum_below}
use Rattle.jx_codestream.specs.declared.Stream.{Stream}
use Rattle.jx_codestream.specs.First.{tile_number}
use Rattle.jx_tile.specs.Faults.{passed}
use Rattle.jx_tile.specs.Totals.{block_total, packet_total, tile_packets, totals_fault}
use Rattle.jx_tile.proofs.TotalLemmas.{packets_are, not_passed}
use Rattle.jx_progression.specs.Packets.{IsPacketName}
use Rattle.jx_progression.specs.declared.names.PacketName.{PacketName}
use Rattle.jx_codestream.proofs.FaultLemmas.{none_later as later_none}
use Rattle.jx_progression.proofs.OrderLemmas.{same_fields as same_name}
use Rattle.jx_base.specs.Limits.{most_blocks}

-- all that are in a list
pub All-contained : {X : Type 0} (P : X → Type 0) (xs : List X) → ((x : X) → Contains xs x → P x) → All P xs
All-contained P xs each = λ k d lt. each (get_or xs k d) (Contains-get_or xs k d lt)

-- a number for each packet: by precinct, then by layer
number : Geometry → ℕ → PacketName → ℕ
number g layers p = precinct_number g p.comp p.res p.precinct * layers + p.layer

times_more : (a b n : ℕ) → a < b → a * n + n ≤ b * n
times_more a b n lt = grind arith

pub has_precinct : (g : Geometry) (layers : ℕ) (p : PacketName) → IsPacketName g layers p → HasPrecinct g p.comp p.res p.precinct
has_precinct g layers p is = record { resolution = is.resolution; precinct = is.precinct }

number_once : (g : Geometry) (layers : ℕ) (p q : PacketName) → IsPacketName g layers p → IsPacketName g layers q → number g layers p ≡ number g layers q → p ≡ q
unfolding number
number_once g layers p q is is' e =
    let a : ℕ = precinct_number g p.comp p.res p.precinct in
    let b : ℕ = precinct_number g q.comp q.res q.precinct in
    let same : a ≡ b = (same_from_place a p.layer b q.layer layers is.layer is'.layer e).0 in
    let product : a * layers ≡ b * layers = ap (λ (n : ℕ). n * layers) same in
    let one = precinct_once g p.comp p.res p.precinct q.comp q.res q.precinct (has_precinct g layers p is) (has_precinct g layers q is') same in
    same_name p q (omega arith) one.1 one.0 one.2

number_below : (g : Geometry) (layers : ℕ) (p : PacketName) → IsPacketName g layers p → number g layers p < tile_precincts (rect_of_tile g) g.shapes * layers
unfolding number
number_below g layers p is =
    let low : p.layer < layers = is.layer in
    let more : precinct_number g p.comp p.res p.precinct * layers + layers ≤ tile_precincts (rect_of_tile g) g.shapes * layers =
    times_more (precinct_number g p.comp p.res p.precinct) (tile_precincts (rect_of_tile g) g.shapes) layers (precinct_below g p.comp p.res p.precinct (has_precinct g layers p is)) in
    omega arith

others : (g : Geometry) (layers : ℕ) (p : PacketName) (ps : List PacketName) → IsPacketName g layers p → ((q : PacketName) → Contains ps q → IsPacketName g layers q) → ((q : PacketName) → Contains ps q → p ≢ q)
    → AllByRecursion (λ (n : ℕ). eqb (number g layers p) n ≡ false) (map (number g layers) ps)
others g layers p [] is each ne = tt
others g layers p (q ∷ ps) is each ne = (
  ne_eqb (number g layers p) (number g layers q) (λ (e : number g layers p ≡ number g layers q). ne q (contains_head q ps) (number_once g layers p q is (each q (contains_head q ps)) e)),
  others g layers p ps is (λ x has. each x (contains_tail q ps x has)) (λ x has. ne x (contains_tail q ps x has)),
)

distinct : (g : Geometry) (layers : ℕ) (ps : List PacketName) → ((q : PacketName) → Contains ps q → IsPacketName g layers q) → AllPairs (λ p q. p ≢ q) ps → IsDistinct eqb (map (number g layers) ps)
unfolding IsDistinct
distinct g layers [] each pairs = tt
distinct g layers (p ∷ ps) each pairs = (
  others g layers p ps (each p (contains_head p ps)) (λ x has. each x (contains_tail p ps x has)) (λ x has. pairs_head (λ p q. p ≢ q) p ps x pairs has),
  distinct g layers ps (λ x has. each x (contains_tail p ps x has)) (pairs_tail (λ p q. p ≢ q) p ps pairs),
)

below : (g : Geometry) (layers : ℕ) (ps : List PacketName) (n : ℕ) → ((q : PacketName) → Contains ps q → IsPacketName g layers q) → list_any (eqb n) (map (number g layers) ps) ≡ true
    → n < tile_precincts (rect_of_tile g) g.shapes * layers
below g layers [] n each any = absurd cc
below g layers (p ∷ ps) n each any =
    by (eqb n (number g layers p)) refl (λ rest. below g layers ps n (λ x has. each x (contains_tail p ps x has)) rest) any
  where
    by : (b : Bool) → eqb n (number g layers p) ≡ b → (list_any (eqb n) (map (number g layers) ps) ≡ true → n < tile_precincts (rect_of_tile g) g.shapes * layers)
        → list_any (eqb n) (map (number g layers) (p ∷ ps)) ≡ true → n < tile_precincts (rect_of_tile g) g.shapes * layers
    by true e later found =
        let same : n ≡ number g layers p = grind (arith, nat_tests) in
        subst (λ (m : ℕ). m < tile_precincts (rect_of_tile g) g.shapes * layers) (sym same) (number_below g layers p (each p (contains_head p ps)))
    by false e later found = later (cc)

pub few_names : (g : Geometry) (layers : ℕ) (ps : List PacketName) → ((q : PacketName) → Contains ps q ↔ IsPacketName g layers q) → AllPairs (λ p q. p ≢ q) ps
    → length ps ≤ tile_precincts (rect_of_tile g) g.shapes * layers
few_names g layers ps every pairs =
    let each : (q : PacketName) → Contains ps q → IsPacketName g layers q = λ q has. (every q).0 has in
    let le : length (map (number g layers) ps) ≤ tile_precincts (rect_of_tile g) g.shapes * layers =
    length-le_from_distinct_below (map (number g layers) ps) (tile_precincts (rect_of_tile g) g.shapes * layers) (distinct g layers ps each pairs) (λ n any. below g layers ps n each any) in
    subst (λ (n : ℕ). n ≤ tile_precincts (rect_of_tile g) g.shapes * layers) (length-map ps (number g layers)) le

-- ---- limit 6

pub all_few : (s : Stream) → totals_fault s ≡ None → packet_total s ≤ 2 ^ 22
unfolding totals_fault
all_few s h =
    not_passed 6 (packet_total s) (2 ^ 22) (later_none (passed 5 (block_total s) (nat_lt (most_blocks) (block_total s))) (passed 6 (packet_total s) (nat_lt (2 ^ 22) (packet_total s))) h)

pub packets_few : (s : Stream) (t : ℕ) → totals_fault s ≡ None → t < tile_number s.siz → tile_packets s t ≤ 2 ^ 22
packets_few s t none inside =
    let more : sum_below (tile_packets s) t + tile_packets s t ≤ sum_below (tile_packets s) (tile_number s.siz) = sum_below_more (tile_packets s) t (tile_number s.siz) inside in
    omega (arith, more, packets_are s, all_few s none)
