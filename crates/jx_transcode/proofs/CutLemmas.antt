-- A front of a file is a front of a longer one.
use Rattle.std.proofs.Common.{◌≡◌, ◌∙◌, ◌≤◌, ◌+◌, ℕ, zero, suc, List, [], ◌++◌, ap, arith, inl, inr, sym, append_assoc, append-nil}
use Rattle.std.proofs.lemmas.Bool.{cases_lt}
use Rattle.jx_base.specs.Joined.{joined}
use Rattle.jx_base.proofs.Joined.{joined_next}
use Rattle.jx_cli.specs.Words.{Text}
use Rattle.jx_io.specs.Device.{Meaning}
use Rattle.jx_rounds.specs.Files.{IsUnfinished}

-- ---- lists under the first numbers begin those under more
pub joined_front : {X : Type 0} (f : ℕ → List X) (m n : ℕ) → m ≤ n → (rest : List X) × (joined f 0 n ≡ joined f 0 m ++ rest)
joined_front f m zero le = let e : m ≡ 0 = omega arith in ([], ap (λ (k : ℕ). joined f 0 k) (sym e) ∙ sym (append-nil (joined f 0 m)))
joined_front {X} f m (suc n) le = elim (cases_lt m (suc n)) [
  | inl lt ↦
      let before = joined_front f m n (omega (arith, lt)) in
      let next : suc n ≡ n + 1 = omega arith in (
        before.0 ++ f n,
        ap (λ (k : ℕ). joined f 0 k) next ∙ joined_next f 0 n (omega arith) ∙ ap (λ (xs : List X). xs ++ f n) before.1 ∙ append_assoc (joined f 0 m) before.0 (f n),
      )
  | inr ge ↦ let e : suc n ≡ m = omega (arith, le, ge) in ([], ap (λ (k : ℕ). joined f 0 k) e ∙ sym (append-nil (joined f 0 m)))
]

pub front_then : (a b c d : List ℕ) → (a ++ (b ++ c)) ++ d ≡ (a ++ b) ++ (c ++ d)
front_then a b c d = ap (λ (x : List ℕ). x ++ d) (sym (append_assoc a b c)) ∙ append_assoc (a ++ b) c d

-- ---- a file of which a front was made
pub longer_unfinished : (name : Text) (bytes out rest : List ℕ) (old new : Meaning) → out ≡ bytes ++ rest → IsUnfinished name bytes old new → IsUnfinished name out old new
longer_unfinished name bytes out rest old new all (inl same) = inl same
longer_unfinished name bytes out rest old new all (inr made) = inr (
  made.0,
  made.1 ++ rest,
  made.2,
  record {
    front = made.3.front;
    whole = all ∙ ap (λ (b : List ℕ). b ++ rest) made.3.whole ∙ append_assoc made.3.front made.1 rest;
    meaning = made.3.meaning;
  },
)
