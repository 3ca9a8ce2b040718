-- Bits that are given one by one.
use Rattle.std.proofs.Common.{◌≡◌, ℕ, zero, suc, ◌+◌, ◌-◌, ◌<◌, ◌≤◌, max, Bool, false, List, [], ◌∷◌, ◌++◌, length, refl, sym, ap, ◌∙◌, arith, append_assoc, length-append, Some, None}
use Rattle.std.specs.Prelude.{Option, option_map}
use Rattle.jx_tagtree.specs.Header.{Took, Reading, to_come, advance}
use Rattle.std.specs.Prelude.{option_and_then}
use Rattle.std.proofs.Common.{drop, get_or, set}
use Rattle.std.proofs.lemmas.List.{get_or_default}
use Rattle.jx_tagtree.specs.declared.node.Node.{Node}
use Rattle.jx_tagtree.specs.TagTree.{node_at, unknown}
use Rattle.jx_tagtree.specs.Scan.{Zeros, scan, more_zeros, Found, scan_one, Scanned, scanned, scan_node, scan_way}
use Rattle.jx_tagtree.proofs.LeafLemmas.{way_here}

abbrev reading_at : Reading → ℕ → Reading
reading_at r n = record r { taken = n }

-- one more bit is given
pub Took-bit : (from mid to : Reading) (b : Bool) → Took from mid → to_come mid ≡ b ∷ to_come to → to ≡ advance mid 1 → Took from to
Took-bit from mid to b t bit step =
    let sum : from.taken + length t.0 + 1 ≡ from.taken + length (t.0 ++ b ∷ []) = omega (arith, length-append t.0 (b ∷ [])) in (
      t.0 ++ b ∷ [],
      t.1 ∙ ap (λ (l : List Bool). t.0 ++ l) bit ∙ sym (append_assoc t.0 (b ∷ []) (to_come to)),
      step ∙ ap (λ (r : Reading). advance r 1) t.2 ∙ ap (λ (n : ℕ). reading_at from n) sum,
    )

-- one reading after another
pub Took-then : (from mid to : Reading) → Took from mid → Took mid to → Took from to
Took-then from mid to t u =
    let sum : from.taken + length t.0 + length u.0 ≡ from.taken + length (t.0 ++ u.0) = omega (arith, length-append t.0 u.0) in (
      t.0 ++ u.0,
      t.1 ∙ ap (λ (l : List Bool). t.0 ++ l) u.1 ∙ sym (append_assoc t.0 u.0 (to_come to)),
      u.2 ∙ ap (λ (r : Reading). advance r (length u.0)) t.2 ∙ ap (λ (n : ℕ). reading_at from n) sum,
    )

-- one more zero
pub scan_zero : (start known threshold : ℕ) (rest : List Bool) → start ≤ known → known < threshold →
    option_map (more_zeros (known - start)) (scan (threshold - known) (false ∷ rest)) ≡ option_map (more_zeros (known + 1 - start)) (scan (threshold - (known + 1)) rest)
scan_zero start known threshold rest begun lt =
    let one : threshold - known ≡ suc (threshold - (known + 1)) = omega arith in
    ap (λ (n : ℕ). option_map (more_zeros (known - start)) (scan n (false ∷ rest))) one ∙ by (scan (threshold - (known + 1)) rest)
  where
    by : (o : Option Zeros) → option_map (more_zeros (known - start)) (option_map (more_zeros 1) o) ≡ option_map (more_zeros (known + 1 - start)) o
    by None = refl
    by (Some z) = let sum : known - start + (1 + z.zeros) ≡ known + 1 - start + z.zeros = omega arith in
        ap (λ (n : ℕ). let w : Zeros = record { zeros = n; one = z.one; rest = z.rest } in Some w) sum

-- ---- a way, from its end on
abbrev at_place : List Node → ℕ → List Bool → Scanned
at_place nodes above rest = record { nodes = nodes; known = above; rest = rest }

abbrev at_node : Node → List Bool → Found
at_node node rest = record { node = node; rest = rest }

one_more : (t : ℕ) (begin : List Node) (way : List ℕ) (place at : ℕ) (bits : List Bool) (nodes : List Node) (above : ℕ) (rest : List Bool) (node : Node) (f : Option Found) →
    place ≤ length way → 0 < place → at ≡ get_or way (place - 1) 0 → at < length nodes → node ≡ get_or nodes at node →
    scan_way t begin (drop place way) bits ≡ Some (at_place nodes above rest) → scan_one t node above rest ≡ f →
    scan_way t begin (drop (place - 1) way) bits ≡ option_map (scanned at (at_place nodes above rest)) f
one_more t begin way place at bits nodes above rest node f le some here lt read before scan =
    let node_is : node_at nodes at ≡ node = get_or_default nodes at unknown node lt ∙ sym read in
    ap (λ (w : List ℕ). scan_way t begin w bits) (way_here way place le some)
    ∙ ap (λ (n : ℕ). option_and_then (scan_node t n) (scan_way t begin (drop place way) bits)) (sym here)
    ∙ ap (option_and_then (scan_node t at)) before
    ∙ ap (λ (y : Node). option_map (scanned at (at_place nodes above rest)) (scan_one t y above rest)) node_is
    ∙ ap (option_map (scanned at (at_place nodes above rest))) scan

-- a node more is read
pub way_more : (t : ℕ) (begin : List Node) (way : List ℕ) (place at : ℕ) (bits : List Bool) (nodes : List Node) (above : ℕ) (rest : List Bool) (node after : Node) (behind : List Bool) →
    place ≤ length way → 0 < place → at ≡ get_or way (place - 1) 0 → at < length nodes → node ≡ get_or nodes at node →
    scan_way t begin (drop place way) bits ≡ Some (at_place nodes above rest) → scan_one t node above rest ≡ Some (at_node after behind) →
    scan_way t begin (drop (place - 1) way) bits ≡ Some (at_place (set nodes at after) (max above after.known) behind)
way_more t begin way place at bits nodes above rest node after behind le some here lt read before scan =
    one_more t begin way place at bits nodes above rest node (Some (at_node after behind)) le some here lt read before scan

none_from : (t : ℕ) (begin : List Node) (way : List ℕ) (k : ℕ) (bits : List Bool) → scan_way t begin (drop k way) bits ≡ None → scan_way t begin way bits ≡ None
none_from t begin way zero bits h = h
none_from t begin [] (suc k) bits h = h
none_from t begin (n ∷ way) (suc k) bits h = ap (option_and_then (scan_node t n)) (none_from t begin way k bits h)

-- where a node's bits aren't there, neither are the way's
pub way_none : (t : ℕ) (begin : List Node) (way : List ℕ) (place at : ℕ) (bits : List Bool) (nodes : List Node) (above : ℕ) (rest : List Bool) (node : Node) →
    place ≤ length way → 0 < place → at ≡ get_or way (place - 1) 0 → at < length nodes → node ≡ get_or nodes at node →
    scan_way t begin (drop place way) bits ≡ Some (at_place nodes above rest) → scan_one t node above rest ≡ None →
    scan_way t begin way bits ≡ None
way_none t begin way place at bits nodes above rest node le some here lt read before scan =
    none_from t begin way (place - 1) bits (one_more t begin way place at bits nodes above rest node None le some here lt read before scan)
