-- Rows of code-blocks, compared cell by cell.
use Rattle.std.proofs.Common.{◌≡◌, ◌∙◌, ℕ, zero, suc, ◌+◌, ◌*◌, ◌<◌, ◌≤◌, List, ◌++◌, inl, inr, ap, sym, subst, refl, add-one, arith, Bool, true, false, Option, None, Some}
use Rattle.std.specs.List.{find}
use Rattle.std.proofs.lemmas.Bool.{cases_lt}
use Rattle.std.proofs.lemmas.Nat.{mul-le}
use Rattle.jx_base.specs.declared.names.Rect.{Rect}
use Rattle.jx_base.specs.Joined.{joined}
use Rattle.jx_base.specs.Places.{size_of}
use Rattle.jx_base.proofs.Joined.{joined_next, joined_none}
use Rattle.jx_same.specs.declared.answer.Spot.{Spot}
use Rattle.jx_same.specs.declared.cells.Best.{Best}
use Rattle.jx_same.specs.declared.cells.Hit.{Hit}
use Rattle.jx_same.specs.declared.side.Walk.{Walk}
use Rattle.jx_same.specs.Runs.{FirstRow, IsBest, IsFoundAt, IsWalk, row_items, unit_count, unit_items}
use Rattle.jx_same.proofs.FindLemmas.{before, behind, from_begins, from_goes, from_stops, none_left, none_right}
use Rattle.jx_same.proofs.RunLemmas.{joined_split}

-- ---- each list has none, where all have none together, and the other way round
pub from_each : {X : Type 0} (p : X → Bool) (f : ℕ → List X) (a m n : ℕ) → find p (joined f a m) ≡ None → a ≤ n → n < m → find p (f n) ≡ None
from_each p f a zero n none le lt = absurd (omega arith)
from_each {X} p f a (suc m) n none le lt =
    let next : joined f a (m + 1) ≡ joined f a m ++ f m = joined_next f a m (omega arith) in
    let next' : joined f a (suc m) ≡ joined f a m ++ f m = rw add-one at next in
    let both : find p (joined f a m ++ f m) ≡ None = ap (find p) (sym next') ∙ none in
    elim (cases_lt n m) [
      | inl earlier ↦ from_each p f a m n (none_left p (joined f a m) (f m) both) le earlier
      | inr last ↦
          let same : n ≡ m = omega arith in
          ap (λ k. find p (f k)) same ∙ none_right p (joined f a m) (f m) both
    ]

pub from_all : {X : Type 0} (p : X → Bool) (f : ℕ → List X) (a m : ℕ) → ((n : ℕ) → a ≤ n → n < m → find p (f n) ≡ None) → find p (joined f a m) ≡ None
from_all p f a zero each = from_begins p f a 0 (omega arith)
from_all {X} p f a (suc m) each = elim (cases_lt m a) [
  | inl none ↦ from_begins p f a (suc m) (omega arith)
  | inr some ↦
      let next : find p (joined f a (m + 1)) ≡ None = from_goes p f a m some (from_all p f a m (λ n le lt. each n le (omega arith))) (each m some (omega arith)) in
      rw add-one at next
]

-- ---- numbers behind others
pub span_goes : {X : Type 0} (p : X → Bool) (f : ℕ → List X) (low at high : ℕ) → low ≤ at → at ≤ high → find p (joined f low at) ≡ None → find p (joined f at high) ≡ None → find p (joined f low high) ≡ None
span_goes p f low at high a b one two = ap (find p) (joined_split f low at high a b) ∙ behind p (joined f low at) (joined f at high) None one two

pub span_stops : {X : Type 0} (p : X → Bool) (f : ℕ → List X) (low at next high : ℕ) (x : X) → low ≤ at → at ≤ next → next ≤ high
    → find p (joined f low at) ≡ None → find p (joined f at next) ≡ Some x → find p (joined f low high) ≡ Some x
span_stops p f low at next high x a b c one two =
    ap (find p) (joined_split f low next high (omega arith) c)
    ∙ before p (joined f low next) (joined f next high) x (ap (find p) (joined_split f low at next a b) ∙ behind p (joined f low at) (joined f at next) (Some x) one two)

-- what was found from one index on below another, which are those of two columns of a row
pub row_found : {X : Type 0} (p : X → Bool) (f : ℕ → List X) (wide left right row low high : ℕ) (o r : Option X) → low ≡ row * wide + left → high ≡ row * wide + right
    → o ≡ find p (joined f low high) → o ≡ r → find p (row_items f wide left right row) ≡ r
row_found p f wide left right row low high o r e1 e2 is same =
    ap (λ (k : ℕ). find p (joined f k (row * wide + right))) (sym e1) ∙ ap (λ (k : ℕ). find p (joined f low k)) (sym e2) ∙ sym is ∙ same

-- ---- a row's columns of one cell behind those of others
module _ (p : Spot → Bool) (f : ℕ → List Spot) (wide left right : ℕ) (le : left ≤ right) where
  row_more : (r : ℕ) → row_items f wide 0 right r ≡ row_items f wide 0 left r ++ row_items f wide left right r
  row_more r = joined_split f (r * wide + 0) (r * wide + left) (r * wide + right) (omega arith) (omega arith)

  none_more : (r : ℕ) → find p (row_items f wide 0 left r) ≡ None → find p (row_items f wide left right r) ≡ None → find p (row_items f wide 0 right r) ≡ None
  none_more r one two = ap (find p) (row_more r) ∙ behind p (row_items f wide 0 left r) (row_items f wide left right r) None one two

  some_new : (r : ℕ) (x : Spot) → find p (row_items f wide 0 left r) ≡ None → find p (row_items f wide left right r) ≡ Some x → find p (row_items f wide 0 right r) ≡ Some x
  some_new r x one two = ap (find p) (row_more r) ∙ behind p (row_items f wide 0 left r) (row_items f wide left right r) (Some x) one two

  some_more : (r : ℕ) (x : Spot) → find p (row_items f wide 0 left r) ≡ Some x → find p (row_items f wide 0 right r) ≡ Some x
  some_more r x one = ap (find p) (row_more r) ∙ before p (row_items f wide 0 left r) (row_items f wide left right r) x one

  found_more : (end high : ℕ) (o : Option Spot) → IsFoundAt p (row_items f wide 0 left) end high o → IsFoundAt p (row_items f wide 0 right) end high o
  found_more end high None h = h
  found_more end high (Some x) h = (h.0, some_more end x h.1)

  -- no difference in the cell, or one in an earlier row
  pub best_same : (low high : ℕ) (b : Best) → IsBest p (row_items f wide 0 left) low high b → find p (joined (row_items f wide left right) low b.end) ≡ None
      → IsBest p (row_items f wide 0 right) low high b
  best_same low high b h none = record {
    from = h.from;
    within = h.within;
    none = from_all p (row_items f wide 0 right) low b.end
        (λ r a l. none_more r (from_each p (row_items f wide 0 left) low b.end r h.none a l) (from_each p (row_items f wide left right) low b.end r none a l));
    found = found_more b.end high b.found h.found;
  }

  pub best_new : (low high : ℕ) (b : Best) (hit : Hit) → IsBest p (row_items f wide 0 left) low high b → FirstRow p (row_items f wide left right) low b.end hit
      → IsBest p (row_items f wide 0 right) low high (record { end = hit.row; found = Some hit.spot })
  best_new low high b hit h k =
      let below : hit.row < b.end = k.below in
      let within : b.end ≤ high = h.within in
      record {
        from = k.from;
        within = omega arith;
        none = from_all p (row_items f wide 0 right) low hit.row
            (λ r a l. none_more r (from_each p (row_items f wide 0 left) low b.end r h.none a (omega arith)) (from_each p (row_items f wide left right) low hit.row r k.before a l));
        found = (omega arith, some_new hit.row hit.spot (from_each p (row_items f wide 0 left) low b.end hit.row h.none k.from k.below) k.here);
      }

-- before the first cell, and after the last
pub best_begins : (p : Spot → Bool) (f : ℕ → List Spot) (wide low high : ℕ) → low ≤ high → IsBest p (row_items f wide 0 0) low high (record { end = high; found = None })
best_begins p f wide low high le = record {
  from = le;
  within = omega arith;
  none = from_all p (row_items f wide 0 0) low high (λ r a l. from_begins p f (r * wide + 0) (r * wide + 0) (omega arith));
  found = refl;
}

ends_at : (p : Spot → Bool) (rows : ℕ → List Spot) (low high end : ℕ) (o : Option Spot) → low ≤ end → find p (joined rows low end) ≡ None → IsFoundAt p rows end high o
    → o ≡ find p (joined rows low high)
ends_at p rows low high end None le none h = sym (ap (λ k. find p (joined rows low k)) (sym h) ∙ none)
ends_at p rows low high end (Some x) le none h = sym (from_stops p rows low end high x le none h.1 h.0)

pub best_ends : (p : Spot → Bool) (f : ℕ → List Spot) (wide left low high : ℕ) (b : Best) → left ≡ wide → IsBest p (row_items f wide 0 left) low high b
    → b.found ≡ find p (joined (row_items f wide 0 wide) low high)
best_ends p f wide left low high b e h =
    let all : IsBest p (row_items f wide 0 wide) low high b = subst (λ (n : ℕ). IsBest p (row_items f wide 0 n) low high b) e h in
    ends_at p (row_items f wide 0 wide) low high b.end b.found all.from all.none all.found

-- ---- all rows together
rows_below : {X : Type 0} (f : ℕ → List X) (wide n : ℕ) → joined (row_items f wide 0 wide) 0 n ≡ joined f 0 (n * wide)
rows_below {X} f wide zero = joined_none (row_items f wide 0 wide) 0 0 (omega arith) ∙ sym (joined_none f 0 (0 * wide) (omega arith))
rows_below {X} f wide (suc n) =
    let next : joined (row_items f wide 0 wide) 0 (n + 1) ≡ joined (row_items f wide 0 wide) 0 n ++ joined f (n * wide + 0) (n * wide + wide) = joined_next (row_items f wide 0 wide) 0 n (omega arith) in
    let next' : joined (row_items f wide 0 wide) 0 (suc n) ≡ joined (row_items f wide 0 wide) 0 n ++ joined f (n * wide + 0) (n * wide + wide) = rw add-one at next in
    let same : n * wide + 0 ≡ n * wide = omega arith in
    let last : n * wide + wide ≡ suc n * wide = grind arith in
    next' ∙ ap (λ (xs : List X). xs ++ joined f (n * wide + 0) (n * wide + wide)) (rows_below f wide n)
    ∙ ap (λ (k : ℕ). joined f 0 (n * wide) ++ joined f k (n * wide + wide)) same
    ∙ sym (joined_split f 0 (n * wide) (n * wide + wide) (omega arith) (omega arith))
    ∙ ap (joined f 0) last

pub units_whole : {X : Type 0} (f : ℕ → List X) (by_rows : Bool) (r : Rect) (w : Walk) → IsWalk r w → joined (unit_items by_rows f w.wide) 0 (unit_count by_rows w) ≡ joined f 0 (size_of r)
units_whole f false r w is = ap (joined f 0) is.all
units_whole f true r w is =
    let turn : w.high * w.wide ≡ w.wide * w.high = grind arith in
    rows_below f w.wide w.high ∙ ap (joined f 0) (turn ∙ sym is.count ∙ is.all)

-- the index of a code-block of a row
pub row_in : (row column wide high count : ℕ) → row < high → column ≤ wide → count ≡ wide * high → row * wide + column ≤ count
row_in row column wide high count lt le is =
    let most : (row + 1) * wide ≤ high * wide = mul-le (row + 1) wide high wide (omega arith) (omega arith) in
    let more : (row + 1) * wide ≡ row * wide + wide = grind arith in
    let turn : high * wide ≡ wide * high = grind arith in
    omega arith
