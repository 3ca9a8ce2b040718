-- What the rule says of claims, and of the store machine.
use Rattle.std.specs.Prelude.{◌≡◌, ◌≢◌, ℕ, ◌+◌, ◌*◌, ◌%◌, ◌<◌, ◌≤◌, nat_le, nat_lt, ◌==◌, ◌&&◌, cond, List, [], ◌∷◌, ◌++◌, map, length, Some, None, slice_set, vec_capacity}
use Rattle.std.specs.List.{sum_by}
use Rattle.std.specs.Global.{Vec}
use mathlib.Core.Option.{some}
use lib.ListN.{get_elem?}
use Rattle.atomic_table.specs.Table.{State, takes, stepped}
use Rattle.jx_store.specs.declared.event.Event.TheVariants.{Claim, Commit, Drain}
use Rattle.jx_store.specs.declared.event.Reply.TheVariants.{Claimed, Committed, Drained}
use Rattle.jx_store.specs.declared.event.Taped.{Taped}
use Rattle.jx_store.specs.declared.work.Named.{Named}
use Rattle.jx_store.specs.Setup.{Setup, end_of, Within}
use Rattle.jx_store.specs.Machine.{State as Store, does}
use Rattle.jx_ring.specs.declared.view.Taken.{Taken}
use Rattle.jx_ring.specs.declared.view.RingView.{RingView}
use Rattle.jx_ring.specs.declared.view.Place.{Place}
use Rattle.jx_ring.specs.declared.view.Place.TheVariants.{Empty, Full, Tape}
use Rattle.jx_ring.specs.Claims.{claims_of, taken}
use Rattle.jx_ring.specs.Rule.{leaving, TapeOk, Ring}
use Rattle.jx_ring.specs.Told.{Fulfils, claims_it, commits_it, ends}
use Rattle.jx_ring.specs.Shows.{shows, but_seen}

abbrev pub is_number : ℕ → Taken → ℕ
is_number k t = cond (t.number == k) 1 0

module _ {V : Type 0} (p : Setup) (workers : ℕ) (Ok : ℕ → Named V → Type 0) where
  -- how often a number stands in the lists of claims of all views
  abbrev pub ClaimsStandOnce : Type 0
  ClaimsStandOnce = (s : State (Place V) RingView) (r : Ring p workers Ok s) (k : ℕ) → sum_by (λ v. sum_by (is_number k) (claims_of v)) s.views ≡ cond (nat_le p.first k && nat_lt k r.next) 1 0

  -- a compare-exchange of NEXT that is won is a claim
  abbrev pub ClaimIsEvent : Type 0
  ClaimIsEvent = (s : State (Place V) RingView) (r : Ring p workers Ok s) (id : ℕ) (v : RingView) (out : List (ℕ × Place V)) → get_elem? s.views id ≡ some v → v.stands ≢ [] → v.holds ≡ None
      → p.first ≤ v.drained → Within p v.drained r.next → r.next < end_of p
      → (q : Ring p workers Ok (stepped s 0 (r.next + 1) id out (claims_it v r.next) (takes (r.next % p.window) Empty)))
      × (but_seen (shows p workers Ok _ q) ≡ but_seen (does (shows p workers Ok s r) (Claim v.worker)).0) × ((does (shows p workers Ok s r) (Claim v.worker)).1 ≡ Claimed r.next r.drained)

  -- a store into the word of the number that a seat holds is a commit
  abbrev pub CommitIsEvent : Type 0
  CommitIsEvent = (s : State (Place V) RingView) (r : Ring p workers Ok s) (id : ℕ) (v : RingView) (t : Taken) (e : Taped (Named V)) → get_elem? s.views id ≡ some v → v.stands ≢ [] → v.holds ≡ Some t → Fulfils t e → Ok t.number e.named
      → (q : Ring p workers Ok record { words = slice_set s.words (t.number % p.window + 2) (t.number + 1); homes = slice_set s.homes (t.number % p.window) (some (Full e)); views = slice_set s.views id (commits_it v (taken e ∷ [])) })
      × (shows p workers Ok _ q ≡ (does (shows p workers Ok s r) (Commit t.worker t.number e.named)).0) × ((does (shows p workers Ok s r) (Commit t.worker t.number e.named)).1 ≡ Committed)

  -- the store after a drain: the machine's, but that the tape is the one that came home, whose entries
  -- are the machine's but for their values
  pub record IsDrained (now after : Store (Named V)) (home : List (Taped (Named V))) : Type 0 where
    pub after_is : after ≡ record (does now Drain).0 { tape = home }
    pub entries : map taken home ≡ map taken (does now Drain).0.tape
    pub reply : (does now Drain).1 ≡ Drained now.drained

  -- a store of the next even value into DRAIN is a drain, which takes the head's entry to the tape's end
  abbrev pub DrainIsEvent : Type 0
  DrainIsEvent = (s : State (Place V) RingView) (r : Ring p workers Ok s) (id : ℕ) (v : RingView) (t : Vec (Taped (Named V))) → get_elem? s.views id ≡ some v → v.stands ≢ [] → v.drains ≡ Some (map taken t.items)
      → TapeOk p Ok t.items → length p.sizes ≤ vec_capacity t
      → (q : Ring p workers Ok record { words = slice_set s.words 1 (2 * v.drained + 2); homes = slice_set (slice_set s.homes p.window (some (Tape t))) (v.drained % p.window) (some Empty); views = slice_set s.views id (ends v) })
      × IsDrained (shows p workers Ok s r) (shows p workers Ok _ q) t.items × (e : Taped (Named V)) × (r.phase r.drained ≡ leaving id e) × ((does (shows p workers Ok s r) Drain).0.tape ≡ r.tape ++ e ∷ [])

  pub record StepsAreEvents : Type 0 where
    pub claim : ClaimIsEvent
    pub commit : CommitIsEvent
    pub drain : DrainIsEvent
