-- What the tape says of the passes' claims.
use Rattle.std.proofs.Common.{◌≡◌, ℕ, zero, suc, ◌+◌, ◌/◌, ◌<◌, ◌≤◌, eqb, cond, Bool, All, List, [], ◌∷◌, map, length, get_or, refl, sym, ap, subst, ◌∙◌, inl, inr, arith, eq-eqb, ne_eqb}
use Rattle.std.specs.Prelude.{Some, Any, Contains, slice_get}
use Rattle.std.specs.List.{sum_by}
use Rattle.std.proofs.lemmas.Bool.{cases_eq, cases_lt}
use Rattle.std.proofs.lemmas.Option.{same_Some, none-some}
use Rattle.std.proofs.lemmas.List.{length-map}
use Rattle.std.proofs.lemmas.List.Sums.{sum_by-cons}
use mathlib.Core.Option.{some, some-injective, some-ne-none}
use lib.ListN.{get_elem?}
use Rattle.atomic_table.proofs.Lists.{at_map}
use Rattle.jx_store.specs.declared.event.Taped.{Taped}
use Rattle.jx_store.specs.declared.work.Named.{Named}
use Rattle.jx_store.specs.declared.work.Named.TheVariants.{Short}
use Rattle.jx_store.specs.Setup.{Setup, end_of, Within}
use Rattle.jx_store.specs.Order.{numbers}
use Rattle.jx_ring.specs.declared.view.Taken.{Taken}
use Rattle.jx_ring.specs.Claims.{taken}
use Rattle.atomic_table.specs.Table.{Final, Seen}
use Rattle.jx_ring.specs.declared.view.RingView.{RingView}
use Rattle.jx_ring.specs.declared.view.Place.{Place}
use Rattle.jx_ring.specs.Rule.{Ring}
use Rattle.jx_ring.specs.Closing.{IsLast, IsWhole, Shut}
use Rattle.jx_ring.specs.Passes.{PassView}
use Rattle.jx_ring.proofs.Looks.{half}
use Rattle.jx_ring.proofs.Closes.{shuts, sum_ones}
use Rattle.jx_store.proofs.NumberLemmas.{numbers_first}

pub numbered : {X : Type 0} (f : X → ℕ) (xs : List X) (a : ℕ) → ((i : ℕ) (x : X) → get_elem? xs i ≡ some x → f x ≡ a + i) → map f xs ≡ numbers a (length xs)
numbered f [] a each = refl
numbered f (x ∷ xs) a each =
    let first : f x ≡ a = (let e = each 0 x refl in omega (arith, e)) in
    let below = numbered f xs (a + 1) (λ i y at. let e = each (suc i) y at in omega (arith, e)) in
    (λ i. first i ∷ below i) ∙ sym (numbers_first a (length xs))

pub slice_at : {X : Type 0} (xs : List X) (i : ℕ) (x : X) → slice_get xs i ≡ Some x → get_elem? xs i ≡ some x
slice_at [] i x at = absurd (none-some x at)
slice_at (y ∷ ys) zero x at = ap some (same_Some y x at)
slice_at (y ∷ ys) (suc i) x at = slice_at ys i x at

pub sum_cong : {X : Type 0} (f g : X → ℕ) (xs : List X) → ((x : X) → f x ≡ g x) → sum_by f xs ≡ sum_by g xs
sum_cong f g [] same = refl
sum_cong f g (x ∷ xs) same = (let c = sum_by-cons f x xs in let d = sum_by-cons g x xs in let s = same x in let below = sum_cong f g xs same in omega (arith, c, d, s, below))

-- where a sum isn't nothing, some item counts
counts_some : {X : Type 0} (f : X → ℕ) (xs : List X) → 0 < sum_by f xs → (k : ℕ) × (x : X) × (get_elem? xs k ≡ some x) × (k < length xs) × (0 < f x)
counts_some f [] pos = absurd (omega (arith, pos))
counts_some f (x ∷ xs) pos = elim (cases_lt 0 (f x)) [
  | inl here ↦ (0, x, refl, omega arith, here)
  | inr none ↦ (let c = sum_by-cons f x xs in let below = counts_some f xs (omega (arith, pos, c, none)) in let lt = below.3 in (suc below.0, below.1, below.2, omega (arith, lt), below.4))
]

part_of : {X : Type 0} (f : X → ℕ) (xs : List X) (i : ℕ) (x : X) → get_elem? xs i ≡ some x → f x ≤ sum_by f xs
part_of f [] i x at = absurd (some-ne-none x (sym at))
part_of f (y ∷ ys) zero x at = (let e = ap f (some-injective y x at) in let c = sum_by-cons f y ys in omega (arith, e, c))
part_of f (y ∷ ys) (suc i) x at = (let below = part_of f ys i x at in let c = sum_by-cons f y ys in omega (arith, below, c))

read : {X : Type 0} (xs : List X) (k : ℕ) (x d : X) → get_elem? xs k ≡ some x → get_or xs k d ≡ x
read [] k x d at = absurd (some-ne-none x (sym at))
read (y ∷ ys) zero x d at = some-injective y x at
read (y ∷ ys) (suc k) x d at = read ys k x d at

-- 1 for this very claim
same_claim : Taken → Taken → ℕ
same_claim a b = cond (eqb b.number a.number) (cond (eqb b.worker a.worker) (cond (eqb b.seen a.seen) (cond (eqb b.kind a.kind) 1 0) 0) 0) 0

itself : (a : Taken) → same_claim a a ≡ 1
unfolding same_claim
itself a = rw (eq-eqb a.number a.number refl, eq-eqb a.worker a.worker refl, eq-eqb a.seen a.seen refl, eq-eqb a.kind a.kind refl) refl

no_other : (a b : Taken) → 0 < same_claim a b → b ≡ a
unfolding same_claim
no_other a b pos =
    let f4 : Bool → ℕ = λ t. cond t 1 0 in let r4 : ℕ = f4 (eqb b.kind a.kind) in
    let f3 : Bool → ℕ = λ t. cond t r4 0 in let r3 : ℕ = f3 (eqb b.seen a.seen) in
    let f2 : Bool → ℕ = λ t. cond t r3 0 in let r2 : ℕ = f2 (eqb b.worker a.worker) in
    let f1 : Bool → ℕ = λ t. cond t r2 0 in
    elim (cases_eq b.number a.number) [
      | inr ne ↦ absurd (let z = ap f1 (ne_eqb b.number a.number ne) in omega (arith, pos, z))
      | inl n ↦ (let y1 = ap f1 (eq-eqb b.number a.number n) in elim (cases_eq b.worker a.worker) [
        | inr ne ↦ absurd (let z = ap f2 (ne_eqb b.worker a.worker ne) in omega (arith, pos, z, y1))
        | inl w ↦ (let y2 = ap f2 (eq-eqb b.worker a.worker w) in elim (cases_eq b.seen a.seen) [
          | inr ne ↦ absurd (let z = ap f3 (ne_eqb b.seen a.seen ne) in omega (arith, pos, z, y1, y2))
          | inl s ↦ (let y3 = ap f3 (eq-eqb b.seen a.seen s) in elim (cases_eq b.kind a.kind) [
            | inr ne ↦ absurd (let z = ap f4 (ne_eqb b.kind a.kind ne) in omega (arith, pos, z, y1, y2, y3))
            | inl k ↦ (λ i. record { number = n i; worker = w i; seen = s i; kind = k i })
          ])
        ])
      ])
    ]

-- an entry of the tape stands in the list of the pass that it names
pub who : {V : Type 0} (passes : List PassView) (tape : List (Taped (Named V))) (i : ℕ) (t : Taped (Named V)) → ((F : Taken → ℕ) → sum_by F (map taken tape) ≡ sum_by (λ (q : PassView). sum_by F q.claims) passes)
    → All (λ (q : PassView). All (λ (c : Taken). c.worker ≡ q.worker) q.claims) passes → get_elem? tape i ≡ some t → Any (λ (q : PassView). (q.worker ≡ t.worker) × Contains q.claims (taken t)) passes
who passes tape i t same mine at =
    let F : Taken → ℕ = same_claim (taken t) in let one = itself (taken t) in
    let here = part_of F (map taken tape) i (taken t) (at_map taken tape i t at) in let sums = same F in
    let p = counts_some (λ (q : PassView). sum_by F q.claims) passes (omega (arith, here, one, sums)) in
    let q : PassView = p.1 in let c = counts_some F q.claims p.4 in
    let is : c.1 ≡ taken t = no_other (taken t) c.1 c.4 in
    let there : (d : Taken) → get_or q.claims c.0 d ≡ taken t = λ d. read q.claims c.0 c.1 d c.2 ∙ is in
    let list : All (λ (x : Taken). x.worker ≡ q.worker) q.claims = subst (λ (y : PassView). All (λ (x : Taken). x.worker ≡ y.worker) y.claims) (read passes p.0 q q p.2) (mine p.0 q p.3) in
    let worker : q.worker ≡ t.worker = sym (list c.0 (taken t) c.3) ∙ ap (λ (x : Taken). x.worker) (there (taken t)) in
    (p.0, q, p.3, read passes p.0 q q p.2, (worker, (c.0, c.3, there (taken t))))

module _ {V : Type 0} (p : Setup) (Ok : ℕ → Named V → Type 0) where
  -- the closed table, where one seat took in all passes
  pub lasts : (workers : ℕ) (ws : List ℕ) (xs : List (Place V)) (id : ℕ) (v : RingView) (passes : List PassView) (x : ℕ) → Final (Seen (Ring p workers Ok) id v) ws xs → IsLast passes v → length passes ≡ workers → get_elem? ws 1 ≡ some x
      → (x / 2 ≤ end_of p) × Shut p Ok v.done v.next (x / 2) xs
  lasts workers ws xs id v passes x fin last all at =
      let s = fin.0 in let r = fin.1.0 in
      let word : get_or s.words 1 0 ≡ x = ap (λ (l : List ℕ). get_or l 1 0) fin.2 ∙ read ws 1 x 0 at in
      let d : x / 2 ≡ r.drained = ap (λ (n : ℕ). n / 2) (sym word) ∙ half p workers Ok s r in
      let z = shuts p workers Ok s r id v xs fin.1.1 (last.stands ∙ all) last.holds last.drains fin.4 (record { number = 0; worker = 0; seen = 0; named = Short 0 }) in
      let mid = r.placed.mid in let high = r.placed.high in
      (omega (arith, d, mid, high), subst (λ (n : ℕ). Shut p Ok v.done v.next n xs) (sym d) z.1)

  -- what a whole tape says
  pub record Says (passes : List PassView) (tape : List (Taped (Named V))) : Type 0 where
    pub order : map (λ t. t.number) tape ≡ numbers p.first (length tape)
    pub within : (i : ℕ) (t : Taped (Named V)) → slice_get tape i ≡ Some t → Within p t.seen t.number
    pub valid : (i : ℕ) (t : Taped (Named V)) → slice_get tape i ≡ Some t → Ok t.number t.named
    pub same : (F : Taken → ℕ) → sum_by F (map taken tape) ≡ sum_by (λ q. sum_by F q.claims) passes
    pub count : length tape ≡ sum_by (λ q. length q.claims) passes
    pub by_whom : (i : ℕ) (t : Taped (Named V)) → slice_get tape i ≡ Some t → Any (λ (q : PassView). (q.worker ≡ t.worker) × Contains q.claims (taken t)) passes
    pub whole : Any (λ (q : PassView). q.next ≡ end_of p) passes → length tape ≡ length p.sizes

  pub says : (passes : List PassView) (v : RingView) (tape : List (Taped (Named V))) → IsLast passes v → IsWhole p Ok v.done v.next tape → Says passes tape
  says passes v tape last w =
      let same : (F : Taken → ℕ) → sum_by F (map taken tape) ≡ sum_by (λ (q : PassView). sum_by F q.claims) passes = λ F. w.same F ∙ last.claims F in
      record {
        order = numbered (λ (t : Taped (Named V)). t.number) tape p.first (λ i t at. (w.ok.each i t at).number);
        within = λ i t at. (let e = w.ok.each i t (slice_at tape i t at) in subst (Within p t.seen) (sym e.number) e.within);
        valid = λ i t at. (let e = w.ok.each i t (slice_at tape i t at) in subst (λ (k : ℕ). Ok k t.named) (sym e.number) e.valid);
        same = same;
        count = (let s = same (λ _. 1) in let l = sum_ones (map taken tape) in let m = length-map tape taken in let c = sum_cong (λ (q : PassView). sum_by (λ (_ : Taken). 1) q.claims) (λ (q : PassView). length q.claims) passes (λ q. sum_ones q.claims) in omega (arith, s, l, m, c));
        by_whom = λ i t at. who passes tape i t same last.mine (slice_at tape i t at);
        whole = λ some_pass. (
            let a = last.next some_pass.0 some_pass.1 some_pass.2 in let e = ap (λ (q : PassView). q.next) some_pass.3 ∙ some_pass.4 in
            let long = w.long in let room = w.ok.room in omega (arith, a, e, long, room));
      }
