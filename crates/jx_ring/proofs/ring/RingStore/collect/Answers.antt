use Rattle.std.proofs.Common.{◌≡◌, ◌-◌, ℕ, ◌+◌, ◌%◌, Bool, true, false, List, ◌++◌, get_or, set, inl, inr, ap, sym, subst, ◌∙◌, arith, get_or-set_other, append-nil, ◌≤◌, ◌<◌, length}
use Rattle.std.specs.Prelude.{vec_capacity}
use Rattle.std.specs.Global.{Vec}
use Rattle.std.specs.Mem.Slots.{slots_items, slots_filled, slots_len}
use Rattle.std.proofs.lemmas.Bool.{cases_eq, cases_lt}
use Rattle.std.proofs.lemmas.Nat.{mod_below}
use mathlib.Core.Option.{some}
use lib.ListN.{get_elem?}
use Rattle.jx_store.proofs.Windows.{apart}
use Rattle.jx_store.specs.declared.event.Taped.{Taped}
use Rattle.jx_store.specs.declared.work.Named.{Named}
use Rattle.jx_ring.specs.declared.view.Place.{Place}
use Rattle.jx_ring.specs.declared.view.Place.TheVariants.{Empty, Full, Tape}
use Rattle.jx_ring.specs.Closing.{found}
use Rattle.jx_ring.proofs.Gathers.{step_full, step_empty, room_left, whole, cleared, still_clear, some_number}
use Rattle.jx_ring.proofs.Shelves.{tape_place, tape_here, no_tape}
use Rattle.jx_ring.proofs.ring.RingStore.collect.Goals as goal
use Rattle.jx_ring.proofs.ring.RingStore.collect.Goals.{in-Full, in-Empty}

abbrev At : {V : Type 0} → List (Place V) → ℕ → ℕ → ℕ → Place V → Type 0
At xs d i w y = get_elem? xs ((d + i) % w) ≡ some y

pub take-requires : goal.take-requires
take-requires g c =
    let l = c.requires.slots.0 in let k : c.args.window < slots_len c.args.closed.slots = omega (arith, l) in
    (k, c.requires.slots.1 c.args.window (omega arith) k)

pub unreachable-requires : goal.unreachable-requires
unreachable-requires g c =
    let sh = c.requires.shut in
    c.in_default.not-Tape sh.2.tape (tape_place _ _ sh.0 sh.1 c.args.drained (slots_items c.args.closed.slots) sh.2 c.args.window c.take.result c.requires.sizes.3 c.take.ensures.value)

pub loop-i-init : goal.loop-i-init
loop-i-init g c =
    let W : ℕ = c.args.window in let d : ℕ = c.args.drained in let pos = c.requires.sizes.1 in let xs = slots_items c.args.closed.slots in
    let others = c.take.ensures.others in let fs : List Bool = slots_filled c.args.closed.slots in let long = c.requires.slots.0 in
    let after : slots_filled c.take.new.self.slots ≡ set fs W false = others.1 in
    let at : get_elem? xs W ≡ some (Tape c.in-Tape.tape) = c.take.ensures.value ∙ ap some c.in-Tape.is in
    let sh = c.requires.shut in
    record {
      low = omega arith;
      len = others.2 ∙ long;
      same = others.0;
      got = λ claims seen x. ap (λ (t : Vec (Taped (Named g.row.V.Denot))). t.items) (tape_here _ _ claims seen d xs x W c.in-Tape.tape c.requires.sizes.3 at) ∙ sym (append-nil x.tape.items);
      room = subst (λ (t : Vec (Taped (Named g.row.V.Denot))). length g.N.Bounds.setup.sizes ≤ vec_capacity t) (sym (tape_here _ _ sh.0 sh.1 d xs sh.2 W c.in-Tape.tape c.requires.sizes.3 at)) sh.2.room;
      head = subst (λ (l : List Bool). get_or l W false ≡ false) (sym after) (cleared fs W);
      taken = λ k low high. absurd (omega (arith, low, high));
      left = λ k low high. (let below = mod_below k W pos in let there : k % W < slots_len c.args.closed.slots = omega (arith, below, long) in
          subst (λ (l : List Bool). get_or l (k % W) false ≡ true) (sym after)
          (get_or-set_other fs W (k % W) false false (λ e. omega (arith, below, e)) ∙ c.requires.slots.1 (k % W) (omega arith) there));
    }

pub nonzero_rem-place : goal.nonzero_rem-place
nonzero_rem-place g c = c.requires.sizes.1

pub take-requires-in-loop-i : goal.take-requires-in-loop-i
take-requires-in-loop-i g c =
    let i = c.loop-i.invariant in let len = i.len in let lt = c.loop-i-test.true in let k : ℕ = c.args.drained + c.loop-i.i in
    let below = mod_below k c.args.window c.requires.sizes.1 in (omega (arith, below, len), i.left k (omega arith) (omega (arith, lt)))

pub unreachable-requires-in-Tape-take : goal.unreachable-requires-in-Tape-take
unreachable-requires-in-Tape-take g c =
    let i = c.loop-i.invariant in let sh = c.requires.shut in let window = c.requires.sizes.3 in let lt = c.loop-i-test.true in let xs = slots_items c.args.closed.slots in
    let at : At xs c.args.drained c.loop-i.i g.N.Bounds.setup.window (Tape c.in-Tape-take.field-0) =
    subst (λ (y : List (Place g.row.V.Denot) × ℕ). At y.0 c.args.drained c.loop-i.i y.1 (Tape c.in-Tape-take.field-0)) (λ z. (i.same z, window z)) (c.take-in-loop-i.ensures.value ∙ ap some c.in-Tape-take.is) in
    no_tape _ _ sh.0 sh.1 c.args.drained xs sh.2 (c.args.drained + c.loop-i.i) c.in-Tape-take.field-0 (omega arith) (omega (arith, lt, window)) at

pub overflow_add-i : goal.overflow_add-i
overflow_add-i g c = let b = c.requires.sizes.2 in let lt = c.loop-i-test.true in record { fits = omega (arith, b, lt) }

pub loop-i-smaller : goal.loop-i-smaller
loop-i-smaller g c = let lt = c.loop-i-test.true in let e : c.args.window - (c.loop-i.i + 1) < c.args.window - c.loop-i.i = omega (arith, lt) in e

pub push_reserved-requires : goal.push_reserved-requires
push_reserved-requires g c =
    let i = c.loop-i.invariant in let sh = c.requires.shut in let window = c.requires.sizes.3 in let lt = c.loop-i-test.true in let xs = slots_items c.args.closed.slots in
    let at : At xs c.args.drained c.loop-i.i g.N.Bounds.setup.window (Full c.in-Full.entry) =
    subst (λ (y : List (Place g.row.V.Denot) × ℕ). At y.0 c.args.drained c.loop-i.i y.1 (Full c.in-Full.entry)) (λ z. (i.same z, window z)) (c.take-in-loop-i.ensures.value ∙ ap some c.in-Full.is) in
    let r = room_left _ _ sh.0 sh.1 c.args.drained xs sh.2 c.loop-i.i c.in-Full.entry c.loop-i.tape.items (omega (arith, lt, window)) at (i.got sh.0 sh.1 sh.2) in
    let long = c.loop-i.tape.ok.0 in let room = i.room in omega (arith, r, long, room)

pub loop-i-preserved : goal.loop-i-preserved
loop-i-preserved g c =
    let i = c.loop-i.invariant in let window = c.requires.sizes.3 in let lt = c.loop-i-test.true in let xs = slots_items c.args.closed.slots in
    let d : ℕ = c.args.drained in let n : ℕ = c.loop-i.i in let W : ℕ = c.args.window in let pos = c.requires.sizes.1 in
    let others = c.take-in-loop-i.ensures.others in let fs : List Bool = slots_filled c.loop-i.closed.slots in let place : ℕ = (d + n) % W in
    let after : slots_filled c.take-in-loop-i.new.self.slots ≡ set fs place false = others.1 in
    record {
      low = omega (arith, lt);
      len = others.2 ∙ i.len;
      same = others.0 ∙ i.same;
      got = λ claims seen x. elim c.match-take-2.branch [
        | in-Full w ↦ step_full _ _ claims seen d xs x n w.in-Full.entry c.loop-i.tape.items c.match-take-2.tape.items (omega (arith, lt, window))
            (subst (λ (y : List (Place g.row.V.Denot) × ℕ). At y.0 d n y.1 (Full w.in-Full.entry)) (λ z. (i.same z, window z)) (c.take-in-loop-i.ensures.value ∙ ap some w.in-Full.is))
            (i.got claims seen x) (ap (λ (t : Vec (Taped (Named g.row.V.Denot))). t.items) w.tape-is ∙ w.push_reserved.ensures.items)
        | in-Empty w ↦ step_empty _ _ claims seen d xs x n c.loop-i.tape.items c.match-take-2.tape.items
            (subst (λ (y : List (Place g.row.V.Denot) × ℕ). At y.0 d n y.1 Empty) (λ z. (i.same z, window z)) (c.take-in-loop-i.ensures.value ∙ ap some w.in-Empty.is))
            (i.got claims seen x) (ap (λ (t : Vec (Taped (Named g.row.V.Denot))). t.items) w.tape-is)
      ];
      room = elim c.match-take-2.branch [
        | in-Full w ↦ (let a = ap (λ (t : Vec (Taped (Named g.row.V.Denot))). vec_capacity t) w.tape-is in let b = w.push_reserved.ensures.capacity in let r = i.room in omega (arith, a, b, r))
        | in-Empty w ↦ (let a = ap (λ (t : Vec (Taped (Named g.row.V.Denot))). vec_capacity t) w.tape-is in let r = i.room in omega (arith, a, r))
      ];
      head = subst (λ (l : List Bool). get_or l W false ≡ false) (sym after) (still_clear fs place W i.head);
      taken = λ k low high. subst (λ (l : List Bool). get_or l (k % W) false ≡ false) (sym after) (elim (cases_eq k (d + n)) [
        | inl e ↦ ap (λ (z : ℕ). get_or (set fs place false) (z % W) false) e ∙ cleared fs place
        | inr ne ↦ still_clear fs place (k % W) (i.taken k low (omega (arith, high, ne)))
      ]);
      left = λ k low high. subst (λ (l : List Bool). get_or l (k % W) false ≡ true) (sym after)
          (get_or-set_other fs place (k % W) false false (apart d W k (d + n) pos (omega (arith, low)) (omega arith) high (omega (arith, lt)) (λ e. omega (arith, e, low))) ∙ i.left k (omega (arith, low)) high);
    }

pub free-requires : goal.free-requires
free-requires g c = λ k lt.
    let i = c.loop-i.invariant in let d : ℕ = c.args.drained in let W : ℕ = c.args.window in let fs : List Bool = slots_filled c.loop-i.closed.slots in let len = i.len in let done = c.loop-i-test.false in
    elim (cases_lt k W) [
      | inl below ↦ (let q = some_number d W k below in let high = q.2 in subst (λ (z : ℕ). get_or fs z false ≡ false) q.3 (i.taken q.0 q.1 (omega (arith, high, done))))
      | inr above ↦ (let e : W ≡ k = omega (arith, above, lt, len) in subst (λ (z : ℕ). get_or fs z false ≡ false) e i.head)
    ]

pub returns : goal.returns
returns g c = λ claims seen x.
    let i = c.loop-i.invariant in let window = c.requires.sizes.3 in let done = c.loop-i-test.false in let low = i.low in let d : ℕ = c.args.drained in
    let end : c.loop-i.i ≡ g.N.Bounds.setup.window = omega (arith, done, low, window) in
    whole _ _ claims seen d (slots_items c.args.closed.slots) x c.loop-i.tape.items (subst (λ (j : ℕ). c.loop-i.tape.items ≡ x.tape.items ++ found x.next x.entry d j) end (i.got claims seen x))
