use Rattle.std.proofs.Common.{◌≡◌, ℕ, ◌+◌, ◌<◌, ◌++◌, ◌∷◌, [], List, length, inl, inr, ap, sym, subst, ◌∙◌, arith}
use Rattle.std.proofs.lemmas.Bool.{cases_lt}
use Rattle.std.proofs.lemmas.List.{length-append}
use mathlib.Core.Option.{some}
use lib.ListN.{get_elem?}
use Rattle.atomic_table.proofs.Lists.{at_longer, at_last}
use Rattle.jx_ring.specs.declared.view.Place.{Place}
use Rattle.jx_ring.specs.declared.view.Place.TheVariants.{Empty, Tape}
use Rattle.jx_ring.proofs.make.first_slots.Goals as goal

more : {V : Type 0} (xs : List (Place V)) (n : ℕ) (x : Place V) → length xs ≡ n → ((j : ℕ) → j < n → get_elem? xs j ≡ some Empty) → (j : ℕ) → j < n → get_elem? (xs ++ x ∷ []) j ≡ some Empty
more xs n x long all j lt = at_longer xs (x ∷ []) j Empty (all j lt)

one_more : {V : Type 0} (xs : List (Place V)) (n : ℕ) → length xs ≡ n → ((j : ℕ) → j < n → get_elem? xs j ≡ some Empty) → (j : ℕ) → j < n + 1 → get_elem? (xs ++ Empty ∷ []) j ≡ some Empty
one_more xs n long all j lt = elim (cases_lt j n) [
  | inl below ↦ more xs n Empty long all j below
  | inr at ↦ (let e : n ≡ j = omega arith in at_last xs Empty j (long ∙ e))
]

pub loop-preserved : goal.loop-preserved
loop-preserved g c =
    let i = c.loop.invariant in let p = c.push_reserved.ensures in let long = sym c.loop.slots.ok.0 ∙ i.long in
    record {
      long = (let a = p.len in let b = i.long in omega (arith, a, b));
      room = (let a = p.capacity in let b = i.room in omega (arith, a, b));
      empty = subst (λ (xs : List (Place g.row.V.Denot)). (j : ℕ) → j < c.loop.counter + 1 → get_elem? xs j ≡ some Empty) (sym p.items) (one_more c.loop.slots.items c.loop.counter long i.empty);
    }

pub returns : goal.returns
returns g c =
    let i = c.loop.invariant in let p = c.push_reserved-2.ensures in let long = sym c.loop.slots.ok.0 ∙ i.long in
    let done = c.loop-test.false in let t = c.in_ok-tape.tape in let n : c.loop.counter ≡ c.args.window = omega (arith, done) in
    record {
      wide = ap length p.items ∙ length-append c.loop.slots.items (Tape t ∷ []) ∙ (let z : length c.loop.slots.items + 1 ≡ c.args.window + 1 = omega (arith, long, n) in z);
      empty = λ j lt. subst (λ (xs : List (Place g.row.V.Denot)). get_elem? xs j ≡ some Empty) (sym p.items) (more c.loop.slots.items c.loop.counter (Tape t) long i.empty j (omega (arith, lt, n)));
      tape = (t, subst (λ (xs : List (Place g.row.V.Denot)). get_elem? xs c.args.window ≡ some (Tape t)) (sym p.items) (at_last c.loop.slots.items (Tape t) c.args.window (long ∙ n)), c.in_ok-tape.ensures.items, (let cap = c.in_ok-tape.ensures.capacity in omega (arith, cap)));
    }
