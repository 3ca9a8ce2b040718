-- One seat takes in the others.
use Rattle.std.proofs.Common.{◌≡◌, ℕ, suc, ◌≤◌, max, All, List, [], ◌∷◌, ◌++◌, length, refl, ap, arith}
use Rattle.std.specs.Prelude.{None}
use Rattle.std.specs.List.{sum_by}
use Rattle.std.proofs.lemmas.Bool.Decides.{nat_tests}
use Rattle.std.proofs.lemmas.List.{length-append}
use Rattle.std.proofs.lemmas.List.Sums.{sum_by-cons, sum_by-append}
use Rattle.std.proofs.lemmas.List.Elements.{All-cons}
use Rattle.jx_ring.specs.declared.view.Taken.{Taken}
use Rattle.jx_ring.specs.declared.view.RingView.{RingView}
use Rattle.jx_ring.specs.Passes.{PassView}
use Rattle.jx_ring.specs.Closing.{IsLast}
use Rattle.jx_ring.specs.Rule.{joined}

-- the first pass
pub last_one : (p : PassView) (v : RingView) (k : ℕ) → v.holds ≡ None → v.drains ≡ None → v.stands ≡ k ∷ [] → v.done ≡ p.claims → p.next ≤ v.next → All (λ (t : Taken). t.worker ≡ p.worker) p.claims → IsLast (p ∷ []) v
last_one p v k holds drains stands done next mine = record {
  holds = holds;
  drains = drains;
  stands = ap length stands;
  claims = λ F. (let c = sum_by-cons (λ (q : PassView). sum_by F q.claims) p [] in let d = ap (sum_by F) done in omega (arith, c, d));
  next = All-cons (λ (q : PassView). q.next ≤ v.next) p [] next (λ k d lt. absurd (omega (arith, lt)));
  mine = All-cons (λ (q : PassView). All (λ (t : Taken). t.worker ≡ q.worker) q.claims) p [] mine (λ k d lt. absurd (omega (arith, lt)));
}

-- one pass more
pub last_more : (p : PassView) (ds : List PassView) (v w : RingView) (k : ℕ) → IsLast ds v → w.stands ≡ k ∷ [] → w.done ≡ p.claims → p.next ≤ w.next → All (λ (t : Taken). t.worker ≡ p.worker) p.claims → IsLast (p ∷ ds) (joined v w)
last_more p ds v w k i stands done next mine = record {
  holds = refl;
  drains = refl;
  stands = (let a = length-append v.stands w.stands in let b = ap length stands in let c = i.stands in omega (arith, a, b, c));
  claims = λ F. (let c = sum_by-cons (λ (q : PassView). sum_by F q.claims) p ds in let d = ap (sum_by F) done in let e = sum_by-append F v.done w.done in let f = i.claims F in omega (arith, c, d, e, f));
  next = All-cons (λ (q : PassView). q.next ≤ max v.next w.next) p ds (grind (arith, nat_tests)) (λ j d lt. let a = i.next j d lt in grind (arith, nat_tests));
  mine = All-cons (λ (q : PassView). All (λ (t : Taken). t.worker ≡ q.worker) q.claims) p ds mine i.mine;
}

-- an item in the midst of a list
pub all_mid : {X : Type 0} (P : X → Type 0) (xs : List X) (x : X) (ys : List X) → All P (xs ++ x ∷ ys) → P x
all_mid P [] x ys all = all 0 x (omega arith)
all_mid P (y ∷ xs) x ys all = all_mid P xs x ys (λ k d lt. all (suc k) d (omega (arith, lt)))
