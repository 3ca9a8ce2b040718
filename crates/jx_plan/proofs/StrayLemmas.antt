-- Packets that no volume has, tile by tile.
use Rattle.std.proofs.Common.{◌≡◌, ◌<◌, ◌+◌, ℕ, Bool, true, false, arith, inl, inr, sym, subst, length}
use Rattle.std.specs.Bool.{Decides}
use Rattle.std.proofs.lemmas.Bool.{cases_eq}
use Rattle.jx_codestream.specs.declared.Stream.{Stream}
use Rattle.jx_codestream.specs.Shapes.{tile_at}
use Rattle.jx_tile.specs.Covered.{IsWhole}
use Rattle.jx_options.specs.Wanted.{Wanted}
use Rattle.jx_plan.specs.Changes.{has_long, main_order}
use Rattle.jx_plan.specs.Plan.{headers_with}
use Rattle.jx_plan.specs.Strays.{HasNoStrayIn}

module _ (s : Stream) (w : Wanted) (layers : ℕ) where
  pub short_decides : (t : ℕ) (other : Stream) (b : Bool) → other ≡ headers_with w layers s → has_long (length s.siz.comps) w.changes (main_order s.main) (tile_at s t) ≡ false
      → Decides b (IsWhole other t) → Decides b (HasNoStrayIn s w layers t)
  short_decides t other b is short d = (
    λ e. record { room = short; whole = subst (λ (x : Stream). IsWhole x t) is (d.0 e) },
    λ h. d.1 (subst (λ (x : Stream). IsWhole x t) (sym is) h.whole),
  )

  pub placed_next : (i : ℕ) (placed : Bool) → ((t : ℕ) → t < i → HasNoStrayIn s w layers t) → Decides placed (HasNoStrayIn s w layers i) → placed ≡ true
      → (t : ℕ) → t < i + 1 → HasNoStrayIn s w layers t
  placed_next i placed below d is t lt = elim (cases_eq t i) [
    | inl e ↦ subst (λ (n : ℕ). HasNoStrayIn s w layers n) (sym e) (d.0 is)
    | inr e ↦ below t (omega (arith, lt, e))
  ]
