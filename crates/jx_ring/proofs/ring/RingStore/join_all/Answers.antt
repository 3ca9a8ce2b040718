use Rattle.std.proofs.Common.{◌≡◌, ℕ, List, [], ◌∷◌, ◌++◌, All, ap, sym, subst, ◌∙◌, arith, append_assoc, length}
use Rattle.std.specs.Prelude.{None}
use Rattle.std.proofs.lemmas.List.{nil_from_length}
use Rattle.jx_ring.specs.declared.view.Taken.{Taken}
use Rattle.jx_ring.specs.Passes.{PassView, out}
use Rattle.jx_ring.specs.Closing.{IsLast}
use Rattle.jx_ring.proofs.Joining.{all_mid, last_one, last_more}
use Rattle.jx_ring.proofs.Seats.{first_nil}
use Rattle.jx_ring.proofs.ring.RingStore.join_all.Goals as goal

pub unreachable-requires : goal.unreachable-requires
unreachable-requires g c = let e = c.in_default.ensures.cases.0 in let some = c.requires.all.0 in omega (arith, e, some)

pub loop-pass-init : goal.loop-pass-init
loop-pass-init g c =
    let x : PassView = c.in-Some.last in let ys : List PassView = c.pop.new.self.items in let items = c.in-Some.ensures.items in
    let w = c.last.inside.seat.me.0 in let inv = c.last.invariant in let view = c.last.view_is in let z = c.args.self.now.table.shared.table_id in
    let none = ap (λ (q : PassView). q.holds) view ∙ all_mid (λ (q : PassView). q.holds ≡ None) ys x [] (subst (All (λ (q : PassView). q.holds ≡ None)) items c.requires.none) in
    let next = ap (λ (q : PassView). q.next) view in
    record {
      table = ap (λ (q : PassView). q.table) view ∙ all_mid (λ (q : PassView). q.table ≡ z) ys x [] (subst (All (λ (q : PassView). q.table ≡ z)) items c.requires.all.1);
      live = λ nil. (let e = ap (λ (l : List ℕ). length l) (sym inv.stands ∙ nil) in omega (arith, e));
      out = inv.out ∙ ap (out g.N.Bounds.setup.window) none;
      some = (
        x ∷ [],
        items,
        last_one x w c.last.inside.worker none inv.idle inv.stands (ap (λ (q : PassView). q.claims) view) (omega (arith, next)) (subst (λ (q : PassView). All (λ (t : Taken). t.worker ≡ q.worker) q.claims) view inv.mine),
      );
    }

pub join-requires-clause-table : goal.join-requires-clause-table
join-requires-clause-table g c =
    let i = c.loop-pass.invariant in let x : PassView = c.in-Some-pop.pass in let ds : List PassView = i.some.0 in let rest_of : List PassView = c.pop-in-loop-pass.new.self.items in
    let whole = i.some.1 ∙ ap (λ (l : List PassView). l ++ ds) c.in-Some-pop.ensures.items ∙ append_assoc rest_of (x ∷ []) ds in
    let z = c.args.self.now.table.shared.table_id in
    (i.table, ap (λ (q : PassView). q.table) c.pass.view_is ∙ all_mid (λ (q : PassView). q.table ≡ z) rest_of x ds (subst (All (λ (q : PassView). q.table ≡ z)) whole c.requires.all.1))

pub join-requires-clause-free : goal.join-requires-clause-free
join-requires-clause-free g c =
    let i = c.loop-pass.invariant in let x : PassView = c.in-Some-pop.pass in let ds : List PassView = i.some.0 in let rest_of : List PassView = c.pop-in-loop-pass.new.self.items in
    let whole = i.some.1 ∙ ap (λ (l : List PassView). l ++ ds) c.in-Some-pop.ensures.items ∙ append_assoc rest_of (x ∷ []) ds in
    let last = i.some.2 in let inv = c.pass.invariant in
    let none = ap (λ (q : PassView). q.holds) c.pass.view_is ∙ all_mid (λ (q : PassView). q.holds ≡ None) rest_of x ds (subst (All (λ (q : PassView). q.holds ≡ None)) whole c.requires.none) in
    (i.live, last.holds, none, last.drains, inv.idle, inv.out ∙ ap (out g.N.Bounds.setup.window) none)

pub loop-pass-preserved : goal.loop-pass-preserved
loop-pass-preserved g c =
    let i = c.loop-pass.invariant in let x : PassView = c.in-Some-pop.pass in let ds : List PassView = i.some.0 in let rest_of : List PassView = c.pop-in-loop-pass.new.self.items in
    let whole = i.some.1 ∙ ap (λ (l : List PassView). l ++ ds) c.in-Some-pop.ensures.items ∙ append_assoc rest_of (x ∷ []) ds in
    let last = i.some.2 in let inv = c.pass.invariant in let me = c.join.ensures.1 in let v = c.loop-pass.seat.me.0 in let w = c.pass.inside.seat.me.0 in
    let view = c.pass.view_is in let next = ap (λ (q : PassView). q.next) view in
    record {
      table = c.join.ensures.0.0 ∙ i.table;
      live = λ none. i.live (first_nil v.stands w.stands (sym (ap (λ m. m.0.stands) me) ∙ none));
      out = ap (λ m. m.1) me ∙ i.out;
      some = (
        x ∷ ds,
        whole,
        subst (IsLast (x ∷ ds)) (sym (ap (λ m. m.0) me))
            (last_more x ds v w c.pass.inside.worker last inv.stands (ap (λ (q : PassView). q.claims) view) (omega (arith, next)) (subst (λ (q : PassView). All (λ (t : Taken). t.worker ≡ q.worker) q.claims) view inv.mine)),
      );
    }

pub returns : goal.returns
returns g c =
    let i = c.loop-pass.invariant in let ds : List PassView = i.some.0 in let rest : List PassView = c.loop-pass.passes.items in
    let nil = nil_from_length rest (sym c.loop-pass.passes.ok.0 ∙ c.in_default-pop.ensures.cases.0) in
    (i.table, subst (λ (l : List PassView). IsLast l c.loop-pass.seat.me.0) (sym (i.some.1 ∙ ap (λ (l : List PassView). l ++ ds) nil)) i.some.2)
