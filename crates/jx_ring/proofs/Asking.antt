-- What a seat that asks for a number has seen, and what it is told.
use Rattle.std.proofs.Common.{◌≡◌, ◌≢◌, ℕ, ◌%◌, ◌<◌, ◌≤◌, [], ◌∷◌, refl, sym, ap, subst, ◌∙◌, arith}
use Rattle.std.specs.Prelude.{Some, None}
use Rattle.jx_store.specs.declared.claim.Claim.{Claim as AClaim}
use Rattle.jx_store.specs.declared.claim.ClaimAnswer.TheVariants.{Claim, Full, AllClaimed}
use Rattle.jx_store.specs.Setup.{Setup, Within, end_of}
use Rattle.jx_ring.specs.declared.view.RingView.{RingView}
use Rattle.jx_ring.specs.declared.view.Place.TheVariants.{Empty}
use Rattle.jx_ring.specs.Passes.{Fills, SeesMore, AnswersView}
use Rattle.jx_ring.specs.Told.{Seated, sees_drained, sees_next, claims_it}

pub more_then : (u v w : RingView) → SeesMore u v → SeesMore v w → SeesMore u w
more_then u v w a b = record {
  worker = b.worker ∙ a.worker;
  stands = b.stands ∙ a.stands;
  done = b.done ∙ a.done;
  drains = b.drains ∙ a.drains;
  drained = (let x = a.drained in let y = b.drained in omega (arith, x, y));
  next = (let x = a.next in let y = b.next in omega (arith, x, y));
}

module _ {V : Type 0} (p : Setup) where
  -- a seat that was `a` has no claim and nothing out, and saw these two numbers last
  pub record Looked (a m : Seated V) (d n : ℕ) : Type 0 where
    pub more : SeesMore a.0 m.0
    pub holds : m.0.holds ≡ None
    pub out : m.1 ≡ []
    pub drained : m.0.drained ≡ d
    pub next : m.0.next ≡ n
    pub low : p.first ≤ d
    pub order : d ≤ n
    pub high : n ≤ end_of p

  pub look : (a m x y : Seated V) (d n : ℕ) → SeesMore a.0 m.0 → m.0.holds ≡ None → m.1 ≡ [] → x ≡ (sees_drained m.0 d, m.1) → m.0.drained ≤ d → p.first ≤ d
      → y ≡ (sees_next x.0 n, x.1) → x.0.next ≤ n → x.0.drained ≤ n → n ≤ end_of p → Looked a y d n
  look a m x y d n more holds out e up low f later order high =
      let old : x.0.next ≡ m.0.next = ap (λ (z : Seated V). z.0.next) e in
      let is : x.0.drained ≡ d = ap (λ (z : Seated V). z.0.drained) e in
      subst (λ (z : Seated V). Looked a z d n) (sym (f ∙ ap (λ (z : Seated V). (sees_next z.0 n, z.1)) e)) (record {
        more = more_then a.0 m.0 (sees_next (sees_drained m.0 d) n) more (record {
          worker = refl;
          stands = refl;
          done = refl;
          drains = refl;
          drained = up;
          next = omega (arith, old, later);
        });
        holds = holds;
        out = out;
        drained = refl;
        next = refl;
        low = low;
        order = omega (arith, is, order);
        high = high;
      })

  module _ (a m : Seated V) (d n : ℕ) (x : Looked a m d n) where
    pub free : a.0.stands ≢ [] → (m.0.stands ≢ []) × (m.0.holds ≡ None)
    free some = ((λ none. some (sym x.more.stands ∙ none)), x.holds)

    pub drains_none : a.0.stands ≢ [] → a.0.drains ≡ None → (m.0.stands ≢ []) × (m.0.drains ≡ None) × (m.1 ≡ [])
    drains_none some none = ((λ e. some (sym x.more.stands ∙ e)), x.more.drains ∙ none, x.out)

    pub room : Within p d n → n < end_of p → (p.first ≤ m.0.drained) × Within p m.0.drained n × (n < end_of p)
    room within below = subst (λ (k : ℕ). (p.first ≤ k) × Within p k n × (n < end_of p)) (sym x.drained) (x.low, within, below)

    pub all_claimed : n ≡ end_of p → AnswersView p AllClaimed a.0 m.0
    all_claimed e = (x.more, x.holds, x.next ∙ e)

    pub claimed : (y : Seated V) (k : AClaim) → k ≡ record { number = n; seen = d } → y ≡ (claims_it m.0 n, (n % p.window, Empty) ∷ m.1) → Within p d n → n < end_of p → AnswersView p (Claim k) a.0 y.0
    claimed y k e f within below = rw e (subst (λ (z : Seated V). AnswersView p (Claim (record { number = n; seen = d })) a.0 z.0) (sym f) (
      record {
        worker = x.more.worker;
        stands = x.more.stands;
        done = x.more.done;
        drains = x.more.drains;
        drained = x.more.drained;
        next = (let b = x.more.next in let c = x.next in omega (arith, b, c));
      },
      (λ i. Some (record { number = n; worker = x.more.worker i; seen = x.drained i; kind = 0 })),
      x.drained,
      (let b = x.more.next in let c = x.next in omega (arith, b, c)),
      refl,
      within,
      below,
    ))

    pub claimed_out : (y : Seated V) (k : AClaim) → k ≡ record { number = n; seen = d } → y ≡ (claims_it m.0 n, (n % p.window, Empty) ∷ m.1) → y.1 ≡ (k.number % p.window, Empty) ∷ []
    claimed_out y k e f = rw e (ap (λ (z : Seated V). z.1) f ∙ ap (λ (l : _). (n % p.window, Empty) ∷ l) x.out)

    pub full : (w : RingView) → SeesMore m.0 w → w.holds ≡ m.0.holds → w.next ≡ m.0.next → w.drained ≡ m.0.drained → Fills p d n → n < end_of p → AnswersView p (Full n d) a.0 w
    full w b holds next drained fills below = (more_then a.0 m.0 w x.more b, holds ∙ x.holds, drained ∙ x.drained, next ∙ x.next, fills, below)

    pub later : (w : RingView) → SeesMore m.0 w → p.first ≤ w.drained
    later w b = let low = x.low in let is = x.drained in let up = b.drained in omega (arith, low, is, up)
