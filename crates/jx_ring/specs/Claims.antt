-- Claims, as views keep them.
use Rattle.std.specs.Prelude.{ℕ, zero, suc, ◌+◌, ◌==◌, cond, List, ◌++◌, option_to_list}
use Rattle.jx_store.specs.declared.event.Taped.{Taped}
use Rattle.jx_store.specs.declared.work.Named.{Named}
use Rattle.jx_store.specs.declared.work.Named.TheVariants.{Made, Bad, Short}
use Rattle.jx_ring.specs.declared.view.Taken.{Taken}
use Rattle.jx_ring.specs.declared.view.RingView.{RingView}

module _ {V : Type 0} where
  -- what was committed: a value, a bad job, or want of memory
  abbrev pub kind_of : Named V → ℕ
  kind_of (Made v) = 1
  kind_of (Bad j) = 2
  kind_of (Short j) = 3

  -- what is kept of an entry
  abbrev pub taken : Taped (Named V) → Taken
  taken e = record { number = e.number; worker = e.worker; seen = e.seen; kind = kind_of e.named }

-- the claims that a view made, the one that it holds last
abbrev pub claims_of : RingView → List Taken
claims_of v = v.done ++ option_to_list v.holds

-- the sum of g over the n numbers from a on
abbrev pub stretch : (ℕ → ℕ) → ℕ → ℕ → ℕ
stretch g a zero = 0
stretch g a (suc n) = stretch g a n + g (a + n)

-- a map with one value changed
abbrev pub put : {X : Type 0} → (ℕ → X) → ℕ → X → ℕ → X
put m k x j = cond (j == k) x (m j)
