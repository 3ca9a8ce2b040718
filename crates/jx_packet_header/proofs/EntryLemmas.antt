-- What is written of one block, by the calls that write it.
use Rattle.std.proofs.Common.{◌≡◌, ℕ, ◌≤◌, nat_lt, Bool, true, false, List, [], ◌++◌, set, sym, ap, ◌∙◌, subst, cond, arith, append_assoc, append-nil, refl, Option, Some, None, inl, inr}
use Rattle.std.specs.Option.{unwrap_or}
use Rattle.std.proofs.lemmas.Bool.Decides.{nat_tests}
use Rattle.std.proofs.lemmas.Bool.{cases_lt}
use Rattle.jx_tagtree.specs.TagTree.{Tree}
use Rattle.jx_packet_header.specs.declared.LeafPart.{LeafPart}
use Rattle.jx_packet_header.specs.declared.known.Known.{Known}
use Rattle.jx_packet_header.specs.Packet.{Cells, Entry, block_at, block_after, zero_planes, first_bits, first_after, zero_bits, zero_after, told_bits, cells_first, cells_included, entry_bits, entry_after}
use Rattle.jx_packet_header.specs.Written.{Writes, parts_in, passes_of, raise_of, entry_written, least_of, cells_of, values_of}

pub some_passes : (passes all : ℕ) → passes ≡ all → (passes ≡ 0 → ⊥) → 1 ≤ all
some_passes passes all is ne = elim (cases_lt 0 all) [
  | inl lt ↦ omega arith
  | inr le ↦ absurd (ne (omega arith))
]

are_some : (passes all : ℕ) → passes ≡ all → (passes ≡ 0 → ⊥) → nat_lt 0 all ≡ true
are_some passes all is ne = let some : 1 ≤ all = some_passes passes all is ne in grind (arith, nat_tests)

-- the zero planes of a block: those that are known, else its leaf's
pub zero_told : (o : Option ℕ) (values : ℕ → ℕ) (leaf own : ℕ) → values leaf ≡ own → unwrap_or o own ≡ zero_planes o values leaf
zero_told None values leaf own is = sym is
zero_told (Some z) values leaf own is = refl

-- the bits of a block that is included
pub entry_bits_are : (w : Writes) (layer leaf own passes : ℕ) (parts : List LeafPart) (known : Known) (start first zeros told : List Bool) →
    known ≡ block_at (cells_of w) leaf → passes ≡ passes_of (parts_in layer parts) → (passes ≡ 0 → ⊥) →
    first ≡ start ++ first_bits known.zero (least_of w.first) w.first.tree leaf layer (nat_lt 0 passes) →
    zeros ≡ first ++ zero_bits known.zero (least_of w.zeros) w.zeros.tree leaf w.planes →
    told ≡ zeros ++ told_bits known.lblock (record { passes = passes; raise = raise_of known.lblock (parts_in layer parts); parts = parts_in layer parts }) →
    told ≡ start ++ entry_bits (values_of w) layer leaf (cells_of w) (entry_written layer (block_at (cells_of w) leaf) (record { zero = own; parts = parts }))
entry_bits_are w layer leaf own passes parts known start first zeros told k is ne e f g =
    let n = passes_of (parts_in layer parts) in
    let some : nat_lt 0 n ≡ true = are_some passes n is ne in
    let F : ℕ → List Bool = λ (m : ℕ). first_bits known.zero (least_of w.first) w.first.tree leaf layer (nat_lt 0 m) in
    let Z : List Bool = zero_bits known.zero (least_of w.zeros) w.zeros.tree leaf w.planes in
    let T : ℕ → List Bool = λ (m : ℕ). told_bits known.lblock (record { passes = m; raise = raise_of known.lblock (parts_in layer parts); parts = parts_in layer parts }) in
    let all : told ≡ start ++ (F n ++ (Z ++ T n)) =
    g ∙ ap (λ (l : List Bool). l ++ T passes) f ∙ ap (λ (l : List Bool). (l ++ Z) ++ T passes) e ∙ ap (λ (m : ℕ). ((start ++ F m) ++ Z) ++ T m) is
    ∙ append_assoc (start ++ F n) Z (T n) ∙ append_assoc start (F n) (Z ++ T n) in
    let cut : Z ++ T n ≡ cond (nat_lt 0 n) (Z ++ T n) [] = sym (ap (λ (b : Bool). cond b (Z ++ T n) []) some) in
    subst (λ (x : Known). told ≡ start ++ (first_bits x.zero (least_of w.first) w.first.tree leaf layer (nat_lt 0 n)
    ++ cond (nat_lt 0 n) (zero_bits x.zero (least_of w.zeros) w.zeros.tree leaf w.planes ++ told_bits x.lblock (record { passes = n; raise = raise_of x.lblock (parts_in layer parts); parts = parts_in layer parts })) [])) k
    (all ∙ ap (λ (l : List Bool). start ++ (F n ++ l)) cut)

-- what is known after it
pub entry_after_is : (w : Writes) (layer leaf own told passes : ℕ) (parts : List LeafPart) (known after : Known) (first zeros : Tree) →
    known ≡ block_at (cells_of w) leaf → passes ≡ passes_of (parts_in layer parts) → (passes ≡ 0 → ⊥) →
    first ≡ first_after known.zero (least_of w.first) w.first.tree leaf layer →
    zeros ≡ zero_after known.zero (least_of w.zeros) w.zeros.tree leaf w.planes →
    told ≡ zero_planes known.zero (least_of w.zeros) leaf →
    after ≡ block_after known told (record { passes = passes; raise = raise_of known.lblock (parts_in layer parts); parts = parts_in layer parts }) →
    (let c : Cells = record { first = first; zeros = zeros; planes = w.planes; blocks = set w.blocks leaf after } in c)
    ≡ entry_after (values_of w) layer leaf (cells_of w) (entry_written layer (block_at (cells_of w) leaf) (record { zero = own; parts = parts }))
entry_after_is w layer leaf own told passes parts known after first zeros k is ne e f t g =
    let n = passes_of (parts_in layer parts) in
    let some : nat_lt 0 n ≡ true = are_some passes n is ne in
    let E : Known → ℕ → Entry = λ (x : Known) (m : ℕ). record { passes = m; raise = raise_of x.lblock (parts_in layer parts); parts = parts_in layer parts } in
    let made : Known → Cells = λ (x : Known). record {
      first = first_after x.zero (least_of w.first) w.first.tree leaf layer;
      zeros = zero_after x.zero (least_of w.zeros) w.zeros.tree leaf w.planes;
      planes = w.planes;
      blocks = set w.blocks leaf (block_after x (zero_planes x.zero (least_of w.zeros) leaf) (E x n));
    } in
    let of : Tree → Tree → Known → Cells = λ (a b : Tree) (x : Known). record { first = a; zeros = b; planes = w.planes; blocks = set w.blocks leaf x } in
    let known_is : after ≡ block_after known (zero_planes known.zero (least_of w.zeros) leaf) (E known n) =
    g ∙ ap (λ (z : ℕ). block_after known z (E known passes)) t ∙ ap (λ (m : ℕ). block_after known (zero_planes known.zero (least_of w.zeros) leaf) (E known m)) is in
    ap (λ (a : Tree). of a zeros after) e ∙ ap (λ (b : Tree). of (first_after known.zero (least_of w.first) w.first.tree leaf layer) b after) f
    ∙ ap (λ (x : Known). of (first_after known.zero (least_of w.first) w.first.tree leaf layer) (zero_after known.zero (least_of w.zeros) w.zeros.tree leaf w.planes) x) known_is
    ∙ ap made k
    ∙ sym (ap (λ (b : Bool). cond b (made (block_at (cells_of w) leaf)) (cells_first (values_of w) layer leaf (cells_of w))) some)

-- a block that isn't included
are_none : (passes all : ℕ) → passes ≡ all → passes ≡ 0 → nat_lt 0 all ≡ false
are_none passes all is none = ap (λ (n : ℕ). nat_lt 0 n) (sym is ∙ none)

pub entry_bits_none : (w : Writes) (layer leaf own passes : ℕ) (parts : List LeafPart) (known : Known) (start first : List Bool) →
    known ≡ block_at (cells_of w) leaf → passes ≡ passes_of (parts_in layer parts) → passes ≡ 0 →
    first ≡ start ++ first_bits known.zero (least_of w.first) w.first.tree leaf layer (nat_lt 0 passes) →
    first ≡ start ++ entry_bits (values_of w) layer leaf (cells_of w) (entry_written layer (block_at (cells_of w) leaf) (record { zero = own; parts = parts }))
entry_bits_none w layer leaf own passes parts known start first k is none e =
    let n = passes_of (parts_in layer parts) in
    let no : nat_lt 0 n ≡ false = are_none passes n is none in
    let F : Known → ℕ → List Bool = λ (x : Known) (m : ℕ). first_bits x.zero (least_of w.first) w.first.tree leaf layer (nat_lt 0 m) in
    let rest : Known → List Bool = λ (x : Known). zero_bits x.zero (least_of w.zeros) w.zeros.tree leaf w.planes
    ++ told_bits x.lblock (record { passes = n; raise = raise_of x.lblock (parts_in layer parts); parts = parts_in layer parts }) in
    subst (λ (x : Known). first ≡ start ++ (F x n ++ cond (nat_lt 0 n) (rest x) [])) k
    (e ∙ ap (λ (m : ℕ). start ++ F known m) is ∙ ap (λ (l : List Bool). start ++ l) (sym (append-nil (F known n)))
    ∙ ap (λ (b : Bool). start ++ (F known n ++ cond b (rest known) [])) (sym no))

pub entry_after_none : (w : Writes) (layer leaf own passes : ℕ) (parts : List LeafPart) (known : Known) (first : Tree) →
    known ≡ block_at (cells_of w) leaf → passes ≡ passes_of (parts_in layer parts) → passes ≡ 0 →
    first ≡ first_after known.zero (least_of w.first) w.first.tree leaf layer →
    (let c : Cells = record { first = first; zeros = w.zeros.tree; planes = w.planes; blocks = w.blocks } in c)
    ≡ entry_after (values_of w) layer leaf (cells_of w) (entry_written layer (block_at (cells_of w) leaf) (record { zero = own; parts = parts }))
entry_after_none w layer leaf own passes parts known first k is none e =
    let no : nat_lt 0 (passes_of (parts_in layer parts)) ≡ false = are_none passes (passes_of (parts_in layer parts)) is none in
    let entry : Entry = entry_written layer (block_at (cells_of w) leaf) (record { zero = own; parts = parts }) in
    let of : Tree → Cells = λ (a : Tree). record { first = a; zeros = w.zeros.tree; planes = w.planes; blocks = w.blocks } in
    let before : Cells = cells_first (values_of w) layer leaf (cells_of w) in
    ap of e ∙ (ap (λ (x : Known). of (first_after x.zero (least_of w.first) w.first.tree leaf layer)) k
    ∙ sym (ap (λ (b : Bool). cond b (cells_included (values_of w) leaf before entry) before) no))
