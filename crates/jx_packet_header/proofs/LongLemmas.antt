-- Where there are bits enough a tag tree's queries find theirs.
use Rattle.std.proofs.Common.{◌≡◌, ℕ, zero, suc, ◌+◌, ◌-◌, ◌*◌, ◌≤◌, max, Bool, true, false, List, [], ◌∷◌, length, refl, sym, ap, ◌∙◌, subst, cond, arith, Some, mul-le-mul_left}
use Rattle.std.specs.Prelude.{Option, option_map, option_and_then}
use Rattle.jx_tagtree.specs.declared.node.Node.{Node}
use Rattle.jx_tagtree.specs.Shape.{way}
use Rattle.jx_tagtree.specs.TagTree.{Tree, node_at, is_told}
use Rattle.jx_tagtree.specs.Scan.{Zeros as NodeZeros, more_zeros, scan, Found as NodeFound, found, scan_one, Scanned, scanned, scan_node, scan_way}
use Rattle.jx_packet_header.specs.Scan.{Asked, asked_of, ask, Zeros, scan_more_zeros}

-- ---- a node
record ScanLong (n : ℕ) (bits : List Bool) : Type 0 where
  pub found : NodeZeros
  pub is : scan n bits ≡ Some found
  pub long : length bits ≤ n + length found.rest

scan_long : (n : ℕ) (bits : List Bool) → n ≤ length bits → ScanLong n bits
scan_long zero bits le = record { found = record { zeros = 0; one = false; rest = bits }; is = refl; long = omega arith }
scan_long (suc n) [] le = absurd (omega arith)
scan_long (suc n) (true ∷ bits) le = record { found = record { zeros = 0; one = true; rest = bits }; is = refl; long = omega arith }
scan_long (suc n) (false ∷ bits) le =
    let s = scan_long n bits (omega arith) in
    let l : length bits ≤ n + length s.found.rest = s.long in
    record { found = more_zeros 1 s.found; is = ap (option_map (more_zeros 1)) s.is; long = omega arith }

record OneLong (t : ℕ) (node : Node) (above : ℕ) (bits : List Bool) : Type 0 where
  pub found : NodeFound
  pub is : scan_one t node above bits ≡ Some found
  pub long : length bits ≤ t + length found.rest

one_long : (t : ℕ) (node : Node) (above : ℕ) (bits : List Bool) → t ≤ length bits → OneLong t node above bits
one_long t node above bits le = by (is_told node (max node.known above) t) refl
  where
    start : ℕ
    start = max node.known above

    step : (b : Bool) → is_told node (max node.known above) t ≡ b →
        scan_one t node above bits ≡ cond b (Some (record { node = node; rest = bits })) (option_map (found (max node.known above)) (scan (t - max node.known above) bits))
    step b e = ap (λ (c : Bool). cond c (Some (let f : NodeFound = record { node = node; rest = bits } in f)) (option_map (found (max node.known above)) (scan (t - max node.known above) bits))) e

    by : (b : Bool) → is_told node (max node.known above) t ≡ b → OneLong t node above bits
    by true e = record { found = record { node = node; rest = bits }; is = step true e; long = omega arith }
    by false e =
        let s = scan_long (t - max node.known above) bits (omega arith) in
        let l : length bits ≤ t - max node.known above + length s.found.rest = s.long in
        record { found = found (max node.known above) s.found; is = step false e ∙ ap (option_map (found (max node.known above))) s.is; long = omega arith }

-- ---- a way
record WayLong (t : ℕ) (nodes : List Node) (over : List ℕ) (bits : List Bool) : Type 0 where
  pub found : Scanned
  pub is : scan_way t nodes over bits ≡ Some found
  pub long : length bits ≤ length over * t + length found.rest

way_long : (t : ℕ) (nodes : List Node) (over : List ℕ) (bits : List Bool) → length over * t ≤ length bits → WayLong t nodes over bits
way_long t nodes [] bits le = record { found = record { nodes = nodes; known = 0; rest = bits }; is = refl; long = omega arith }
way_long t nodes (n ∷ over) bits le =
    let whole : t + length over * t ≤ length bits = omega arith in
    let s = way_long t nodes over bits (omega arith) in
    let l : length bits ≤ length over * t + length s.found.rest = s.long in
    let o = one_long t (node_at s.found.nodes n) s.found.known s.found.rest (omega arith) in
    let k : length s.found.rest ≤ t + length o.found.rest = o.long in
    let sum : length bits ≤ (t + length over * t) + length o.found.rest = omega arith in
    record {
      found = scanned n s.found o.found;
      is = ap (option_and_then (scan_node t n)) s.is ∙ ap (option_map (scanned n s.found)) o.is;
      long = omega arith;
    }

-- ---- a query
pub record AskLong (tree : Tree) (leaf t most : ℕ) (bits : List Bool) : Type 0 where
  pub found : Asked
  pub is : ask tree leaf t bits ≡ Some found
  pub wide : found.tree.wide ≡ tree.wide
  pub high : found.tree.high ≡ tree.high
  pub long : length bits ≤ most + length found.rest

pub ask_long : (tree : Tree) (leaf t most : ℕ) (bits : List Bool) → length (way tree.wide tree.high leaf) * t ≤ most → most ≤ length bits → AskLong tree leaf t most bits
unfolding ask
ask_long tree leaf t most bits few le =
    let w = way_long t tree.nodes (way tree.wide tree.high leaf) bits (omega arith) in
    let l : length bits ≤ length (way tree.wide tree.high leaf) * t + length w.found.rest = w.long in
    record {
      found = asked_of tree leaf t w.found;
      is = ap (option_map (asked_of tree leaf t)) w.is;
      wide = refl;
      high = refl;
      long = omega arith;
    }

-- ---- zero planes
pub zeros_long : (leaf top most more n steps : ℕ) (tree : Tree) (bits : List Bool) → length (way tree.wide tree.high leaf) ≡ steps → steps * top ≤ most → n + more ≤ top → more * most ≤ length bits →
    (z : Zeros) × (scan_more_zeros tree leaf n more bits ≡ Some z)
zeros_long leaf top most zero n steps tree bits e few le enough = (record { zeros = n; tree = tree; rest = bits }, refl)
zeros_long leaf top most (suc more) n steps tree bits e few le enough =
    let whole : most + more * most ≤ length bits = omega arith in
    let up : steps * (n + 1) ≤ steps * top = mul-le-mul_left steps (omega arith) in
    let fit : steps * (n + 1) ≤ most = omega arith in
    let a = ask_long tree leaf (n + 1) most bits (subst (λ (k : ℕ). k * (n + 1) ≤ most) (sym e) fit) (omega arith) in
    let l : length bits ≤ most + length a.found.rest = a.long in
    let wide : length (way a.found.tree.wide a.found.tree.high leaf) ≡ steps =
    ap (λ (w : ℕ). length (way w a.found.tree.high leaf)) a.wide ∙ ap (λ (h : ℕ). length (way tree.wide h leaf)) a.high ∙ e in
    let again = zeros_long leaf top most more (n + 1) steps a.found.tree a.found.rest wide few (omega arith) (omega arith) in
    by a.found a.is again a.found.below refl
  where
    choose : Asked → Option Zeros
    choose a = cond a.below (Some (record { zeros = n; tree = a.tree; rest = a.rest })) (scan_more_zeros a.tree leaf (n + 1) more a.rest)

    by : (a : Asked) → ask tree leaf (n + 1) bits ≡ Some a → ((z : Zeros) × (scan_more_zeros a.tree leaf (n + 1) more a.rest ≡ Some z)) → (b : Bool) → a.below ≡ b →
        (z : Zeros) × (scan_more_zeros tree leaf n (suc more) bits ≡ Some z)
    by a eq again true below = (
      record { zeros = n; tree = a.tree; rest = a.rest },
      ap (option_and_then (λ (x : Asked). let o : Option Zeros = cond x.below (Some (record { zeros = n; tree = x.tree; rest = x.rest })) (scan_more_zeros x.tree leaf (n + 1) more x.rest) in o)) eq
          ∙ ap (λ (c : Bool). let o : Option Zeros = cond c (Some (record { zeros = n; tree = a.tree; rest = a.rest })) (scan_more_zeros a.tree leaf (n + 1) more a.rest) in o) below,
    )
    by a eq again false below = (
      again.0,
      ap (option_and_then (λ (x : Asked). let o : Option Zeros = cond x.below (Some (record { zeros = n; tree = x.tree; rest = x.rest })) (scan_more_zeros x.tree leaf (n + 1) more x.rest) in o)) eq
          ∙ ap (λ (c : Bool). let o : Option Zeros = cond c (Some (record { zeros = n; tree = a.tree; rest = a.rest })) (scan_more_zeros a.tree leaf (n + 1) more a.rest) in o) below
          ∙ again.1,
    )
