use Rattle.std.proofs.Common.{ℕ, ◌+◌, ◌%◌, List, [], ◌∷◌, map, ap, sym, subst, ◌∙◌, arith}
use Rattle.std.specs.Prelude.{Some}
use Rattle.std.proofs.lemmas.List.{map-append}
use Rattle.jx_store.specs.Valid.{IsOf}
use Rattle.jx_ring.specs.declared.view.Taken.{Taken}
use Rattle.jx_ring.specs.declared.view.RingView.{RingView}
use Rattle.jx_ring.specs.declared.view.Place.TheVariants.{Empty, Full, Tape}
use Rattle.jx_ring.specs.Claims.{taken}
use Rattle.jx_ring.specs.Rule.{TapeOk}
use Rattle.jx_ring.proofs.Carrying.{longer_tape}
use Rattle.jx_ring.proofs.ring.RingStore.drain_one.Goals as goal

pub carry-requires-clause-out : goal.carry-requires-clause-out
carry-requires-clause-out g c =
    let seen = c.load_word.ensures.1.0 (c.if-load_word-drained.false ∙ ap (λ (x : ℕ). x + 1) c.requires.table.1) in
    let b = c.begin.ensures.1.0 c.if-begin-drained.false in let t = b.0 in let e = b.1 in
    let W : ℕ = g.N.Bounds.setup.window in
    let w = c.window-window.ensures.is.0 in let h = c.place-head.ensures.is.0 in
    let d = c.requires.table.1 ∙ sym (ap (λ m. m.0.drained) seen) in
    let head = ap (λ (z : ℕ). z % W) (sym d) ∙ sym h in
    let none_out = ap (λ m. m.1) seen ∙ c.requires.free.2 in
    let long = b.5 in let below = b.6 in let room = b.7 in
    (t, e, ap (λ m. m.1) b.2 ∙ (λ i. (sym w i, Tape t) ∷ (head i, Full e) ∷ none_out i), omega (arith, long, below, room))

pub end-requires-clause-drains : goal.end-requires-clause-drains
end-requires-clause-drains g c =
    let seen = c.load_word.ensures.1.0 (c.if-load_word-drained.false ∙ ap (λ (x : ℕ). x + 1) c.requires.table.1) in
    let b = c.begin.ensures.1.0 c.if-begin-drained.false in let t = b.0 in let e = b.1 in
    let W : ℕ = g.N.Bounds.setup.window in
    let w = c.window-window.ensures.is.0 in let h = c.place-head.ensures.is.0 in
    let d = c.requires.table.1 ∙ sym (ap (λ m. m.0.drained) seen) in
    let head = ap (λ (z : ℕ). z % W) (sym d) ∙ sym h in
    let none_out = ap (λ m. m.1) seen ∙ c.requires.free.2 in
    let m = c.carry.ensures.moved t e (ap (λ x. x.1) b.2 ∙ (λ i. (sym w i, Tape t) ∷ (head i, Full e) ∷ none_out i)) in
    let u = m.0 in let same = c.carry.ensures.seat.1 in let view = ap (λ x. x.0) b.2 in
    let stands = ap (λ (v : RingView). v.stands) same ∙ ap (λ (v : RingView). v.stands) view ∙ ap (λ x. x.0.stands) seen in
    let drains = ap (λ (v : RingView). v.drains) same ∙ ap (λ (v : RingView). v.drains) view in
    let list = sym (map-append taken t.items (e ∷ [])) ∙ ap (map taken) (sym m.2) in (
      (λ none. c.requires.free.0 (sym stands ∙ none)),
      (
        u,
        drains ∙ ap (λ (l : List Taken). Some l) list,
        subst (TapeOk g.N.Bounds.setup (IsOf g.V.Work.number g.V.Work.job g.V.Work.bad g.N.Bounds.setup.first g.N.Bounds.jobs)) (sym m.2) (longer_tape _ _ t.items e _ b.3 b.4 b.5 b.6),
        (let cap = m.3 in let room = b.7 in omega (arith, cap, room)),
        m.1 ∙ (λ i. (w i, Tape u) ∷ (h i, Empty) ∷ []),
      ),
    )
