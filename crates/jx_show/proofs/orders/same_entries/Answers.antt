use Rattle.std.proofs.Common.{◌≡◌, ◌≢◌, ◌&&◌, Bool, true, false, List, [], ◌∷◌, length, arith, refl, sym}
use Rattle.jx_marker.specs.declared.Progression.{Progression}
use Rattle.jx_show.specs.Orders.{same_entries, same_entry}
use Rattle.jx_show.proofs.orders.same_entries.Goals as goal

and_false : (holds : Bool) → (holds && false) ≡ false
and_false true = refl
and_false false = refl

unlike : (a b : List Progression) → length a ≢ length b → same_entries a b ≡ false
unlike [] [] h = absurd (h refl)
unlike [] (y ∷ ys) h = refl
unlike (x ∷ xs) [] h = refl
unlike (x ∷ xs) (y ∷ ys) h =
    let rest : same_entries xs ys ≡ false = unlike xs ys (λ (e : length xs ≡ length ys). h (omega (arith, e))) in
    rw rest (and_false (same_entry x y))

pub returns-then-a-b : goal.returns-then-a-b
returns-then-a-b c = sym (unlike c.args.a.now c.args.b.now c.if-a-b.true)
