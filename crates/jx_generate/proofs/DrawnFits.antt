-- A drawn block may be written: its passes are as many as its planes allow, each layer has one part of them, without a marker.
use Rattle.std.proofs.Common.{◌≡◌, ◌≢◌, ◌∙◌, ◌⊎◌, ℕ, zero, suc, ◌+◌, ◌-◌, ◌*◌, ◌%◌, ◌≤◌, ◌<◌, ◌==◌, List, [], ◌∷◌, ◌++◌, length, map, refl, sym, ap, subst, arith, inl, inr}
use Rattle.std.specs.List.{AllByRecursion}
use Rattle.std.proofs.lemmas.Bool.{cases_eq, cond-true, cond-false, eq-eqb, ne_eqb}
use Rattle.std.proofs.lemmas.List.{length-map, length-append}
use Rattle.jx_base.specs.Joined.{joined}
use Rattle.jx_base.specs.Markers.{HasNoMarker}
use Rattle.jx_base.specs.Pieces.{PieceValue}
use Rattle.jx_base.proofs.Joined.{joined_none}
use Rattle.jx_packet_header.specs.declared.HeaderPart.{HeaderPart}
use Rattle.jx_packet_header.specs.declared.LeafPart.{LeafPart}
use Rattle.jx_packet_header.specs.LeavesFit.{AreRuns, FitsLeaf, HasShort, IsLayerCut, IsLeaf, passes_before}
use Rattle.jx_packet_header.specs.Parts.{cut, one_more}
use Rattle.jx_packet_header.specs.Writable.{all_passes}
use Rattle.jx_packet_header.specs.Written.{Leafed, parts_in, passes_of}
use Rattle.jx_packet_header.proofs.LayerLemmas.{in_none}
use Rattle.jx_tier2_reader.proofs.LaidBlocks.{joined_first}
use Rattle.jx_tier2_reader.specs.Planned.{leaf_part_of}
use Rattle.jx_generate.specs.Random.{number_at, numbers_at, state_after}
use Rattle.jx_generate.specs.Drawn.{drawn_at, first_pass, first_state, layer_pieces, lowered, pass_bytes, pass_count, passes_bytes, passes_in, past_pass, past_passes, piece_in, stuffed, without_end, without_markers, zero_planes}
use Rattle.jx_generate.specs.Made.{leaf_of_drawn}
use Rattle.jx_generate.proofs.DrawnLemmas.{first_all, first_few, first_grows, first_none}
use Rattle.jx_base.proofs.Markers.{append_clean}

-- ---- the bytes of passes
marked_long : (before : ℕ) (bytes : List ℕ) → length (without_markers before bytes) ≡ length bytes
marked_long before [] = refl
marked_long before (byte ∷ bytes) = ap suc (marked_long (stuffed before byte) bytes)

ended_long : (bytes : List ℕ) → length (without_end bytes) ≡ length bytes
ended_long [] = refl
ended_long (byte ∷ []) = refl
ended_long (byte ∷ next ∷ bytes) = ap suc (ended_long (next ∷ bytes))

numbers_long : (x n : ℕ) → length (numbers_at x n) ≡ n
numbers_long x zero = refl
numbers_long x (suc n) = ap suc (numbers_long (state_after x) n)

pass_short : (x : ℕ) → length (pass_bytes x) ≤ 23
unfolding pass_bytes
pass_short x =
    let n : ℕ = number_at x % 24 in
    let raw : List ℕ = map (λ (b : ℕ). b % 256) (numbers_at (state_after x) n) in
    omega (arith, ended_long (without_markers 0 raw), marked_long 0 raw, length-map (numbers_at (state_after x) n) (λ (b : ℕ). b % 256), numbers_long (state_after x) n)

pub passes_short : (x n : ℕ) → length (passes_bytes x n) ≤ n * 23
passes_short x zero = omega arith
passes_short x (suc n) = omega (arith, length-append (pass_bytes x) (passes_bytes (past_pass x) n), pass_short x, passes_short (past_pass x) n)

-- no marker in them
stuffed_low : (before byte : ℕ) → before ≡ 255 → stuffed before byte ≤ 143
stuffed_low before byte e = let is : stuffed before byte ≡ byte % 128 = cond-true (before == 255) (byte % 128) byte (eq-eqb before 255 e) in omega arith

lowered_not : (byte : ℕ) → lowered byte ≢ 255
lowered_not byte e = elim (cases_eq byte 255) [
  | inl same ↦ (let is : lowered byte ≡ 254 = cond-true (byte == 255) 254 byte (eq-eqb byte 255 same) in omega arith)
  | inr other ↦ (let is : lowered byte ≡ byte = cond-false (byte == 255) 254 byte (ne_eqb byte 255 other) in other (sym is ∙ e))
]

lowered_low : (byte : ℕ) → byte ≤ 143 → lowered byte ≤ 143
lowered_low byte le = let is : lowered byte ≡ byte = cond-false (byte == 255) 254 byte (ne_eqb byte 255 (λ e. omega arith)) in omega arith

pass_clear : (before : ℕ) (raw : List ℕ) → before ≢ 255 → HasNoMarker before (without_end (without_markers before raw))
pass_clear before [] ne = ne
pass_clear before (byte ∷ bytes) ne = some before byte bytes
  where
    some : (b y : ℕ) (rest : List ℕ) → HasNoMarker b (without_end (without_markers b (y ∷ rest)))
    some b y [] = (λ e. lowered_low (stuffed b y) (stuffed_low b y e), lowered_not (stuffed b y))
    some b y (z ∷ rest) = (λ e. stuffed_low b y e, some (stuffed b y) z rest)

pub one_clear : (x : ℕ) → HasNoMarker 0 (pass_bytes x)
unfolding pass_bytes
one_clear x = pass_clear 0 (map (λ (b : ℕ). b % 256) (numbers_at (state_after x) (number_at x % 24))) (λ e. omega arith)

passes_clear : (x n : ℕ) → HasNoMarker 0 (passes_bytes x n)
passes_clear x zero = λ e. omega arith
passes_clear x (suc n) = append_clean 0 (pass_bytes x) (passes_bytes (past_pass x) n) (one_clear x) (passes_clear (past_pass x) n)

-- ---- the pieces of layers
pub first_next : (n a : ℕ) → first_pass n a + passes_in n a ≡ first_pass n (a + 1)
unfolding passes_in
first_next n a = omega (arith, first_grows n a)

few_in : (n a : ℕ) → n ≤ 37 → a < 12 → passes_in n a ≤ 37
unfolding passes_in first_pass
few_in n a few lt = omega (arith, first_few n (a + 1) few (omega arith))

layer_none : (y n a : ℕ) → passes_in n a ≡ 0 → layer_pieces y n a ≡ []
unfolding layer_pieces
layer_none y n a e = cond-true (passes_in n a == 0) [] (piece_in y n a ∷ []) (eq-eqb (passes_in n a) 0 e)

layer_some : (y n a : ℕ) → (passes_in n a ≡ 0 → ⊥) → layer_pieces y n a ≡ piece_in y n a ∷ []
unfolding layer_pieces
layer_some y n a ne = cond-false (passes_in n a == 0) [] (piece_in y n a ∷ []) (ne_eqb (passes_in n a) 0 ne)

-- what holds of the pieces from each layer on
pub over_layers : (P : ℕ → List PieceValue → Type 0) (y n : ℕ) → P 12 [] → ((a : ℕ) (qs : List PieceValue) → a < 12 → passes_in n a ≡ 0 → P (a + 1) qs → P a qs)
    → ((a : ℕ) (qs : List PieceValue) → a < 12 → 1 ≤ passes_in n a → P (a + 1) qs → P a (piece_in y n a ∷ qs))
    → (k a : ℕ) → a + k ≡ 12 → P a (joined (layer_pieces y n) a 12)
over_layers P y n none skip more zero a e =
    let last : a ≡ 12 = omega arith in
    subst (λ (m : ℕ). P m (joined (layer_pieces y n) m 12)) (sym last) (subst (P 12) (sym (joined_none (layer_pieces y n) 12 12 (omega arith))) none)
over_layers P y n none skip more (suc k) a e =
    let rest : List PieceValue = joined (layer_pieces y n) (a + 1) 12 in
    let later : P (a + 1) rest = over_layers P y n none skip more k (a + 1) (omega arith) in
    let whole : joined (layer_pieces y n) a 12 ≡ layer_pieces y n a ++ rest = joined_first (layer_pieces y n) a 12 (omega arith) in
    elim (cases_eq (passes_in n a) 0) [
      | inl z ↦ subst (P a) (sym (whole ∙ ap (λ (qs : List PieceValue). qs ++ rest) (layer_none y n a z))) (skip a rest (omega arith) z later)
      | inr ne ↦ subst (P a) (sym (whole ∙ ap (λ (qs : List PieceValue). qs ++ rest) (layer_some y n a ne))) (more a rest (omega arith) (omega arith) later)
    ]

abbrev pub parts_with : ℕ → List PieceValue → List LeafPart
parts_with j qs = map (leaf_part_of j) qs

-- one part or none
pub record IsOnePart (p : HeaderPart) (ps : List HeaderPart) : Type 0 where
  pub one : ps ≡ p ∷ []
  pub some : 1 ≤ p.passes
  pub few : p.passes ≤ 37

abbrev pub HasFew : List HeaderPart → Type 0
HasFew ps = (ps ≡ []) ⊎ ((p : HeaderPart) × IsOnePart p ps)

-- what is known of the pieces from a layer on
pub record Fit (j n a : ℕ) (qs : List PieceValue) : Type 0 where
  pub runs : (l : ℕ) → l ≤ a → AreRuns 12 j l (first_pass n a) (parts_with j qs)
  pub sum : first_pass n a + all_passes (parts_with j qs) ≡ n
  pub few : (layer : ℕ) → HasFew (parts_in layer (parts_with j qs))
  pub short : HasShort (parts_with j qs)
  pub clear : AllByRecursion (λ (q : PieceValue). HasNoMarker 0 q.bytes) qs

fit_none : (j n : ℕ) → Fit j n 12 []
fit_none j n = record { runs = λ l le. tt; sum = omega (arith, first_all n); few = λ layer. inl refl; short = tt; clear = tt }

fit_skip : (j n a : ℕ) (qs : List PieceValue) → a < 12 → passes_in n a ≡ 0 → Fit j n (a + 1) qs → Fit j n a qs
fit_skip j n a qs lt none is =
    let same : first_pass n (a + 1) ≡ first_pass n a = omega (arith, first_next n a) in
    record {
      runs = λ l le. subst (λ (m : ℕ). AreRuns 12 j l m (parts_with j qs)) same (is.runs l (omega arith));
      sum = omega (arith, is.sum);
      few = is.few;
      short = is.short;
      clear = is.clear;
    }

fit_more : (j y n a : ℕ) (qs : List PieceValue) → n ≤ 37 → a < 12 → 1 ≤ passes_in n a → Fit j n (a + 1) qs → Fit j n a (piece_in y n a ∷ qs)
fit_more j y n a qs most lt some is =
    let next : first_pass n a + passes_in n a ≡ first_pass n (a + 1) = first_next n a in
    let p : LeafPart = leaf_part_of j (piece_in y n a) in
    let ps : List LeafPart = parts_with j qs in
    let few : passes_in n a ≤ 37 = few_in n a most lt in
    record {
      runs = λ l le. (le, lt, refl, refl, some, subst (λ (m : ℕ). AreRuns 12 j a m ps) (sym next) (is.runs a (omega arith)));
      sum = omega (arith, is.sum);
      few = λ layer. elim (cases_eq a layer) [
        | inl same ↦
            let rest : parts_in layer ps ≡ [] = in_none 12 j layer (a + 1) (first_pass n (a + 1)) ps (is.runs (a + 1) (omega arith)) (omega arith) in
            let here : parts_in layer (p ∷ ps) ≡ p.told ∷ parts_in layer ps = cond-true (a == layer) (p.told ∷ parts_in layer ps) (parts_in layer ps) (eq-eqb a layer same) in
            inr (p.told, record { one = here ∙ ap (λ (xs : List HeaderPart). p.told ∷ xs) rest; some = some; few = few })
        | inr other ↦
            let past : parts_in layer (p ∷ ps) ≡ parts_in layer ps = cond-false (a == layer) (p.told ∷ parts_in layer ps) (parts_in layer ps) (ne_eqb a layer other) in
            subst HasFew (sym past) (is.few layer)
      ];
      short = ((let le : length (piece_in y n a).bytes ≤ passes_in n a * 23 = passes_short (past_passes y (first_pass n a)) (passes_in n a) in omega arith), is.short);
      clear = (passes_clear (past_passes y (first_pass n a)) (passes_in n a), is.clear);
    }

fit_all : (j y n : ℕ) → n ≤ 37 → Fit j n 0 (joined (layer_pieces y n) 0 12)
fit_all j y n most = over_layers (Fit j n) y n (fit_none j n) (λ a qs lt none is. fit_skip j n a qs lt none is) (λ a qs lt some is. fit_more j y n a qs most lt some is) 12 0 (omega arith)

-- ---- the block
pub count_few : (x : ℕ) → zero_planes x < 13 × pass_count x ≤ 3 * (13 - zero_planes x) - 2 × pass_count x ≤ 37
unfolding zero_planes pass_count
count_few x =
    let z : ℕ = number_at x % 13 in
    let below : z < 13 = omega arith in
    let m : ℕ = 3 * (13 - z) - 2 in
    let some : 0 < m = omega arith in
    let left : number_at (state_after x) % m < m = grind arith in
    (below, omega arith, omega arith)

pub fit_drawn : (j x : ℕ) → Fit j (pass_count x) 0 (drawn_at x).pieces
unfolding drawn_at
fit_drawn j x = fit_all j (first_state x) (pass_count x) (count_few x).2

-- style 0 cuts nowhere
cut_none : (first n : ℕ) → cut 0 first (suc n) ≡ suc n ∷ []
cut_none first zero = refl
cut_none first (suc n) = ap one_more (cut_none (first + 1) n)

whole_cut : (first n : ℕ) → 1 ≤ n → n ∷ [] ≡ cut 0 first n
whole_cut first zero some = absurd (omega arith)
whole_cut first (suc n) some = sym (cut_none first n)

abbrev IsCutAs : ℕ → List HeaderPart → Type 0
IsCutAs first ps = map (λ (p : HeaderPart). p.passes) ps ≡ cut 0 first (passes_of ps)

few_cut : (layer : ℕ) (parts : List LeafPart) → HasFew (parts_in layer parts) → IsLayerCut 0 layer parts
few_cut layer parts (inl none) =
    record { few = subst (λ (ps : List HeaderPart). passes_of ps ≤ 164) (sym none) (omega arith); runs = subst (IsCutAs (passes_before layer parts)) (sym none) refl }
few_cut layer parts (inr (p, is)) =
    let sum : p.passes + 0 ≡ p.passes = omega arith in
    record {
      few = subst (λ (ps : List HeaderPart). passes_of ps ≤ 164) (sym is.one) (omega (arith, is.few));
      runs = subst (IsCutAs (passes_before layer parts)) (sym is.one) (whole_cut (passes_before layer parts) p.passes is.some ∙ ap (cut 0 (passes_before layer parts)) (sym sum));
    }

drawn_zero : (x : ℕ) → (drawn_at x).zero ≡ zero_planes x
unfolding drawn_at
drawn_zero x = refl

drawn_leaf : (j x : ℕ) → IsLeaf 0 12 13 j (leaf_of_drawn j (drawn_at x))
drawn_leaf j x =
    let is = fit_drawn j x in
    let z : (drawn_at x).zero ≡ zero_planes x = drawn_zero x in
    let count = count_few x in
    record {
      zero_planes = omega (arith, count.0);
      few = omega (arith, is.sum, first_none (pass_count x), count.1);
      parts = subst (λ (m : ℕ). AreRuns 12 j 0 m (parts_with j (drawn_at x).pieces)) (first_none (pass_count x)) (is.runs 0 (omega arith));
      cuts = λ layer. few_cut layer (parts_with j (drawn_at x).pieces) (is.few layer);
    }

fits_any : (j : ℕ) (leaf : Leafed) (parts : List LeafPart) → IsLeaf 0 12 13 j leaf → FitsLeaf 0 12 13 j leaf parts
fits_any j leaf [] is = tt
fits_any j leaf (p ∷ parts) is = is

pub drawn_fits : (j x : ℕ) → FitsLeaf 0 12 13 j (leaf_of_drawn j (drawn_at x)) (leaf_of_drawn j (drawn_at x)).parts
drawn_fits j x = fits_any j (leaf_of_drawn j (drawn_at x)) (leaf_of_drawn j (drawn_at x)).parts (drawn_leaf j x)

pub drawn_short : (j x : ℕ) → HasShort (leaf_of_drawn j (drawn_at x)).parts
drawn_short j x = (fit_drawn j x).short

pub drawn_clear : (x : ℕ) → AllByRecursion (λ (q : PieceValue). HasNoMarker 0 q.bytes) (drawn_at x).pieces
drawn_clear x = (fit_drawn 0 x).clear
