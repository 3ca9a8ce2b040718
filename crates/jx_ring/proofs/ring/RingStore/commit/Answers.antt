use Rattle.std.proofs.Common.{◌≡◌, ℕ, ◌%◌, ◌≤◌, [], ◌∷◌, length, All, refl, ap, sym, subst, ◌∙◌, arith}
use Rattle.std.proofs.lemmas.List.Elements.{All-push}
use Rattle.atomic_table.specs.Table.{rest}
use Rattle.jx_store.specs.declared.event.Taped.{Taped}
use Rattle.jx_store.specs.declared.work.Named.{Named}
use Rattle.jx_ring.specs.declared.view.Taken.{Taken}
use Rattle.jx_ring.specs.declared.view.Place.TheVariants.{Full}
use Rattle.jx_ring.specs.Claims.{taken}
use Rattle.jx_ring.specs.Told.{claim_out, commits_it}
use Rattle.jx_ring.specs.Passes.{PassView, claim_by, out}
use Rattle.jx_ring.proofs.ring.RingStore.commit.Goals as goal

pub park-requires-clause-held : goal.park-requires-clause-held
park-requires-clause-held g c =
    let i = c.pass.invariant in let now = c.args.pass.now in let W : ℕ = g.N.Bounds.setup.window in
    let worker = ap (λ (q : PassView). q.worker) c.pass.view_is in let held = ap (λ (q : PassView). q.holds) c.pass.view_is ∙ c.requires.held in
    let number = ap (λ x. x.0) c.spend-number.ensures in let seen = ap (λ x. x.1) c.spend-number.ensures in
    let me = c.exchange.ensures.3 in
    let e : Taped (Named g.row.V.Denot) = record { number = c.spend-number.result.0; worker = c.pass.inside.worker; seen = c.spend-number.result.1; named = c.args.value } in
    let place = c.place-place.ensures.is.0 ∙ ap (λ (z : ℕ). z % W) number in
    let slots = ap (λ m. m.1) me in (
      (λ none. let a = ap (λ m. m.0.stands) me ∙ i.stands in let l = ap length (sym a ∙ none) in omega (arith, l)),
      (
        claim_by now.worker c.args.claim.number c.args.claim.seen 0,
        e,
        ap (λ m. m.0.holds) me ∙ held,
        number,
        (number, worker, seen),
        c.requires.value,
        slots ∙ (λ z. (place z, Full e) ∷ sym (ap rest slots) z),
      ),
    )

pub invariant_of-pass : goal.invariant_of-pass
invariant_of-pass g c =
    let i = c.pass.invariant in let W : ℕ = g.N.Bounds.setup.window in let v = c.pass.inside.seat.me.0 in let old = c.pass.inside.seat.me.1 in
    let held = ap (λ (q : PassView). q.holds) c.pass.view_is ∙ c.requires.held in
    let e : Taped (Named g.row.V.Denot) = record { number = c.spend-number.result.0; worker = c.pass.inside.worker; seen = c.spend-number.result.1; named = c.args.value } in
    let me = c.exchange.ensures.3 in
    let after = c.park.ensures.1 ∙ ap (λ m. (commits_it m.0 (claim_out m.1), rest m.1)) me in
    let nothing : rest old ≡ [] = ap rest (i.out ∙ ap (out W) held) in
    record {
      own = ap (λ m. m.0.worker) after ∙ i.own;
      stands = ap (λ m. m.0.stands) after ∙ i.stands;
      idle = ap (λ m. m.0.drains) after ∙ i.idle;
      out = ap (λ m. m.1) after ∙ nothing ∙ ap (out W) (sym (ap (λ m. m.0.holds) after));
      mine = subst (All (λ (t : Taken). t.worker ≡ c.pass.inside.worker)) (sym (ap (λ m. m.0.done) after)) (All-push (λ (t : Taken). t.worker ≡ c.pass.inside.worker) v.done (taken e) i.mine refl);
      low = subst (λ (x : ℕ). g.N.Bounds.setup.first ≤ x) (sym (ap (λ m. m.0.drained) after)) i.low;
    }
