-- What a written slot does to the state that the fields show.
use Rattle.std.proofs.Common.{◌≡◌, ℕ, ◌+◌, ◌-◌, ◌%◌, ◌<◌, ◌≤◌, ◌==◌, Bool, true, false, cond, List, [], ◌∷◌, ◌++◌, length, set, refl, sym, ap, ◌∙◌, inr, arith}
use Rattle.std.specs.Prelude.{Option, Some, None, slice_get}
use Rattle.std.proofs.Math.Path.{fun_ext}
use Rattle.std.proofs.lemmas.Bool.{cases_lt, eqb-true}
use Rattle.jx_store.specs.declared.event.Event.TheVariants.{Claim, Drain}
use Rattle.jx_store_plain.specs.declared.slot.Slot.{Slot}
use Rattle.jx_store_plain.specs.declared.slot.Slot.TheVariants.{Empty, Held, Parked}
use Rattle.jx_store.specs.declared.event.Reply.{Reply}
use Rattle.jx_store.specs.declared.event.Reply.TheVariants.{Drained}
use Rattle.jx_store.specs.Setup.{Setup}
use Rattle.jx_store.specs.Machine.{Claimant, Done, State, start, put, end, is_full, claimed, committed, drained_one, does}
use Rattle.jx_store_plain.specs.Shown.{Shown, held_in, parked_in, slot_of, state_of}
use Rattle.jx_store.proofs.Changes.{not_full, does_claim, does_drain}
use Rattle.jx_store_plain.proofs.Windows.{slot_set, slot_next, slot_drained, slot_in, slot_out}

pub through : {X Y : Type 0} (f : X → Y) (b : Bool) (x y : X) → f (cond b x y) ≡ cond b (f x) (f y)
through f true x y = refl
through f false x y = refl

unchanged : {X : Type 0} (b : Bool) (x y : X) → (b ≡ true → y ≡ x) → cond b x y ≡ y
unchanged true x y e = sym (e refl)
unchanged false x y e = refl

-- the numbers of a core, as its invariant keeps them
pub record Fits {V : Type 0} (c : Shown V) : Type 0 where
  pub some : 0 < c.setup.window
  pub slots : length c.slots ≡ c.setup.window
  pub mid : c.drained ≤ c.next
  pub near : c.next ≤ c.drained + c.setup.window

module _ {V : Type 0} where
  pub claims : (c : Shown V) (w : ℕ) → Fits c → c.next < c.drained + c.setup.window
      → state_of (record c { next = c.next + 1; slots = set c.slots (c.next % c.setup.window) (Held w c.drained) }) ≡ claimed (state_of c) w
  claims c w f room =
      let s = state_of c in
      let at : (k : ℕ) → slot_of c.drained (c.next + 1) c.setup.window (set c.slots (c.next % c.setup.window) (Held w c.drained)) k ≡ cond (k == c.next) (Some (Held w c.drained)) (slot_of c.drained c.next c.setup.window c.slots k) = λ k. slot_next c.drained c.next c.setup.window c.slots (Held w c.drained) k f.some f.slots room f.mid in
      let held : (λ (k : ℕ). held_in (slot_of c.drained (c.next + 1) c.setup.window (set c.slots (c.next % c.setup.window) (Held w c.drained)) k)) ≡ put s.held c.next (Some (record { worker = w; seen = c.drained })) =
      fun_ext (λ k. ap held_in (at k) ∙ through held_in (k == c.next) _ _) in
      let parked : (λ (k : ℕ). parked_in (slot_of c.drained (c.next + 1) c.setup.window (set c.slots (c.next % c.setup.window) (Held w c.drained)) k)) ≡ s.parked =
      fun_ext (λ k. ap parked_in (at k) ∙ through parked_in (k == c.next) _ _ ∙ unchanged (k == c.next) None (s.parked k) (λ e. ap parked_in (slot_out c.drained c.next c.setup.window c.slots k (inr (let i = eqb-true k c.next e in omega arith))))) in
      cc

  pub commits : (c : Shown V) (w k seen : ℕ) (v : V) → Fits c → c.drained ≤ k → k < c.next → slice_get c.slots (k % c.setup.window) ≡ Some (Held w seen)
      → state_of (record c { slots = set c.slots (k % c.setup.window) (Parked w seen v) }) ≡ committed (state_of c) k v (record { worker = w; seen = seen })
  commits c w k seen v f low high is =
      let s = state_of c in
      let at : (j : ℕ) → slot_of c.drained c.next c.setup.window (set c.slots (k % c.setup.window) (Parked w seen v)) j ≡ cond (j == k) (Some (Parked w seen v)) (slot_of c.drained c.next c.setup.window c.slots j) = λ j. slot_set c.drained c.next c.setup.window c.slots k (Parked w seen v) j f.some f.slots f.near low high in
      let held : (λ (j : ℕ). held_in (slot_of c.drained c.next c.setup.window (set c.slots (k % c.setup.window) (Parked w seen v)) j)) ≡ put s.held k None =
      fun_ext (λ j. ap held_in (at j) ∙ through held_in (j == k) _ _) in
      let parked : (λ (j : ℕ). parked_in (slot_of c.drained c.next c.setup.window (set c.slots (k % c.setup.window) (Parked w seen v)) j)) ≡ put s.parked k (Some (record { by = record { worker = w; seen = seen }; value = v })) =
      fun_ext (λ j. ap parked_in (at j) ∙ through parked_in (j == k) _ _) in
      cc

  pub drains : (c : Shown V) (w seen : ℕ) (v : V) → Fits c → c.drained < c.next → slice_get c.slots (c.drained % c.setup.window) ≡ Some (Parked w seen v)
      → state_of (record c { drained = c.drained + 1; slots = set c.slots (c.drained % c.setup.window) Empty; tape = c.tape ++ record { number = c.drained; worker = w; seen = seen; named = v } ∷ [] })
      ≡ drained_one (state_of c) (record { by = record { worker = w; seen = seen }; value = v })
  drains c w seen v f some is =
      let s = state_of c in
      let at : (j : ℕ) → slot_of (c.drained + 1) c.next c.setup.window (set c.slots (c.drained % c.setup.window) Empty) j ≡ cond (j == c.drained) None (slot_of c.drained c.next c.setup.window c.slots j) = λ j. slot_drained c.drained c.next c.setup.window c.slots Empty j f.some f.slots f.near some in
      let here : slot_of c.drained c.next c.setup.window c.slots c.drained ≡ Some (Parked w seen v) = slot_in c.drained c.next c.setup.window c.slots c.drained (omega arith) some ∙ is in
      let held : (λ (j : ℕ). held_in (slot_of (c.drained + 1) c.next c.setup.window (set c.slots (c.drained % c.setup.window) Empty) j)) ≡ s.held =
      fun_ext (λ j. ap held_in (at j) ∙ through held_in (j == c.drained) _ _ ∙ unchanged (j == c.drained) None (s.held j) (λ e. ap s.held (eqb-true j c.drained e) ∙ ap held_in here)) in
      let parked : (λ (j : ℕ). parked_in (slot_of (c.drained + 1) c.next c.setup.window (set c.slots (c.drained % c.setup.window) Empty) j)) ≡ put s.parked c.drained None =
      fun_ext (λ j. ap parked_in (at j) ∙ through parked_in (j == c.drained) _ _) in
      cc

  -- nothing is claimed
  pub fresh : (p : Setup) (slots : List (Slot V)) → state_of (record { setup = p; next = p.first; drained = p.first; slots = slots; tape = [] }) ≡ start p
  fresh p slots =
      let first = p.first in let window = p.window in
      let no_claimant : ℕ → Option Claimant = λ k. None in let no_value : ℕ → Option (Done V) = λ k. None in
      let out : (k : ℕ) → slot_of first first window slots k ≡ None = λ k. slot_out first first window slots k (cases_lt k first) in
      let held : (λ (k : ℕ). held_in (slot_of first first window slots k)) ≡ no_claimant = fun_ext (λ k. ap held_in (out k)) in
      let parked : (λ (k : ℕ). parked_in (slot_of first first window slots k)) ≡ no_value = fun_ext (λ k. ap parked_in (out k)) in
      cc

  -- a parked slot at the head
  pub drain_does : (c : Shown V) (w seen : ℕ) (v : V) → Fits c → c.drained < c.next → slice_get c.slots (c.drained % c.setup.window) ≡ Some (Parked w seen v)
      → ◌≡◌ {A = State V × Reply} (does (state_of c) Drain)
      (state_of (record c { drained = c.drained + 1; slots = set c.slots (c.drained % c.setup.window) Empty; tape = c.tape ++ record { number = c.drained; worker = w; seen = seen; named = v } ∷ [] }), Drained c.drained)
  drain_does c w seen v f some is =
      let d : Done V = record { by = record { worker = w; seen = seen }; value = v } in
      let at : (state_of c).parked c.drained ≡ Some d = ap parked_in (slot_in c.drained c.next c.setup.window c.slots c.drained (omega arith) some ∙ is) in
      does_drain (state_of c) d at ∙ ap (λ (s : State V). (s, Drained c.drained)) (sym (drains c w seen v f some is))

  -- a claim that no window refuses
  pub claim_does : (c : Shown V) (w : ℕ) → Fits c → (c.next ≡ end (state_of c) → ⊥) → is_full (state_of c) ≡ false
      → state_of (record c { next = c.next + 1; slots = set c.slots (c.next % c.setup.window) (Held w c.drained) }) ≡ (does (state_of c) (Claim w)).0
  claim_does c w f some room =
      let apart = (not_full (state_of c) room).0 in
      claims c w f (let m = f.mid in let n = f.near in omega arith) ∙ sym (ap (λ r. r.0) (does_claim (state_of c) w some room))
