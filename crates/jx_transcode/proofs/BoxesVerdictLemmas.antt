-- The boxes of a file have one verdict.
use Rattle.std.proofs.Common.{◌≡◌, ◌⊎◌, ◌≤◌, ◌+◌, ℕ, List, length, take, inl, inr, refl, arith}
use Rattle.std.specs.Str.{bytes_eq}
use Rattle.std.proofs.lemmas.Bool.{both_ways, cases_Bool, cases_lt}
use Rattle.std.proofs.lemmas.Slice.Eq.{bytes_eq-Decides}
use Rattle.jx_jp2.specs.Codestream.{IsJp2, signature}
use Rattle.jx_jp2.specs.Trees.{IsTree, IsTreeBroken, Tree}
use Rattle.jx_transcode.specs.BoxesRun.{BoxesVerdict, BreaksBoxes}
use Rattle.jx_transcode.specs.declared.status.Status.{Status}
use Rattle.jx_transcode.specs.declared.status.Status.TheVariants as status

-- the laws that this rests on
pub record OneTree : Type 0 where
  pub either : (bytes : List ℕ) (tree : Tree) (number place : ℕ) → IsTree bytes tree → IsTreeBroken bytes number place → ⊥
  pub fault : (bytes : List ℕ) (number place number2 place2 : ℕ) → IsTreeBroken bytes number place → IsTreeBroken bytes number2 place2 → (number ≡ number2) × (place ≡ place2)

abbrev pub SomeTree : Type 0
SomeTree = (bytes : List ℕ) → ((tree : Tree) × IsTree bytes tree) ⊎ ((number : ℕ) × (place : ℕ) × IsTreeBroken bytes number place)

-- ---- at most one
module _ (laws : OneTree) (limit : ℕ) (input : List ℕ) where
  same_rule : (n p k q : ℕ) → BreaksBoxes input n p → BreaksBoxes input k q → status.Rule n p ≡ status.Rule k q
  same_rule n p k q (inl x) (inl y) = rw (x.1, x.2, y.1, y.2) refl
  same_rule n p k q (inl x) (inr y) = absurd (x.0 y.0)
  same_rule n p k q (inr x) (inl y) = absurd (y.0 x.0)
  same_rule n p k q (inr x) (inr y) = let same = laws.fault input n p k q x.1 y.1 in rw (same.0, same.1) refl

  done_and_rule : (n p : ℕ) → BoxesVerdict limit input status.Done → BreaksBoxes input n p → ⊥
  done_and_rule n p x (inl y) = y.0 x.1
  done_and_rule n p x (inr y) = laws.either input x.2 n p x.3 y.1

  pub one_of_boxes : (s t : Status) → BoxesVerdict limit input s → BoxesVerdict limit input t → s ≡ t
  one_of_boxes status.Done status.Done x y = refl
  one_of_boxes status.Done (status.Rule n p) x y = absurd (done_and_rule n p x y.1)
  one_of_boxes status.Done (status.Limit n p) x y = absurd (omega (arith, x.0, y.0))
  one_of_boxes status.Done status.Words x y = absurd y
  one_of_boxes status.Done (status.Unlike how) x y = absurd y
  one_of_boxes status.Done (status.Choice n p) x y = absurd y
  one_of_boxes status.Done (status.Block n) x y = absurd y
  one_of_boxes status.Done status.ReadFault x y = absurd y
  one_of_boxes status.Done status.WriteFault x y = absurd y
  one_of_boxes status.Done status.NoMemory x y = absurd y
  one_of_boxes (status.Rule n p) status.Done x y = absurd (done_and_rule n p y x.1)
  one_of_boxes (status.Rule n p) (status.Rule k q) x y = same_rule n p k q x.1 y.1
  one_of_boxes (status.Rule n p) (status.Limit k q) x y = absurd (omega (arith, x.0, y.0))
  one_of_boxes (status.Rule n p) status.Words x y = absurd y
  one_of_boxes (status.Rule n p) (status.Unlike how) x y = absurd y
  one_of_boxes (status.Rule n p) (status.Choice k q) x y = absurd y
  one_of_boxes (status.Rule n p) (status.Block k) x y = absurd y
  one_of_boxes (status.Rule n p) status.ReadFault x y = absurd y
  one_of_boxes (status.Rule n p) status.WriteFault x y = absurd y
  one_of_boxes (status.Rule n p) status.NoMemory x y = absurd y
  one_of_boxes (status.Limit n p) status.Done x y = absurd (omega (arith, x.0, y.0))
  one_of_boxes (status.Limit n p) (status.Rule k q) x y = absurd (omega (arith, x.0, y.0))
  one_of_boxes (status.Limit n p) (status.Limit k q) x y = rw (x.1, x.2, y.1, y.2) refl
  one_of_boxes (status.Limit n p) status.Words x y = absurd y
  one_of_boxes (status.Limit n p) (status.Unlike how) x y = absurd y
  one_of_boxes (status.Limit n p) (status.Choice k q) x y = absurd y
  one_of_boxes (status.Limit n p) (status.Block k) x y = absurd y
  one_of_boxes (status.Limit n p) status.ReadFault x y = absurd y
  one_of_boxes (status.Limit n p) status.WriteFault x y = absurd y
  one_of_boxes (status.Limit n p) status.NoMemory x y = absurd y
  one_of_boxes status.Words t x y = absurd x
  one_of_boxes (status.Unlike how) t x y = absurd x
  one_of_boxes (status.Choice n p) t x y = absurd x
  one_of_boxes (status.Block n) t x y = absurd x
  one_of_boxes status.ReadFault t x y = absurd x
  one_of_boxes status.WriteFault t x y = absurd x
  one_of_boxes status.NoMemory t x y = absurd x

-- ---- and one
module _ (some : SomeTree) (limit : ℕ) (input : List ℕ) where
  tree_verdict : length input ≤ limit → IsJp2 input → (s : Status) × BoxesVerdict limit input s
  tree_verdict short is = elim (some input) [
    | inl tree ↦ (status.Done, (short, is, tree.0, tree.1))
    | inr broken ↦ (status.Rule broken.0 broken.1, (short, inr (is, broken.2)))
  ]

  short_boxes : length input ≤ limit → (s : Status) × BoxesVerdict limit input s
  short_boxes short = elim (cases_Bool (bytes_eq (take 12 input) signature)) [
    | inl is ↦ tree_verdict short ((bytes_eq-Decides (take 12 input) signature).0 is)
    | inr other ↦ (status.Rule 36 0, (short, inl (λ is. both_ways (bytes_eq (take 12 input) signature) other ((bytes_eq-Decides (take 12 input) signature).1 is), refl, refl)))
  ]

  pub some_of_boxes : (s : Status) × BoxesVerdict limit input s
  some_of_boxes = elim (cases_lt limit (length input)) [
    | inl long ↦ (status.Limit 1 (limit + 1), (long, refl, refl))
    | inr short ↦ short_boxes short
  ]
