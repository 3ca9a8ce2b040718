use Rattle.std.proofs.Common.{◌≡◌, ℕ, List, [], ◌∷◌, ◌++◌, ap, sym, ◌∙◌}
use Rattle.std.specs.Prelude.{vec_capacity}
use Rattle.atomic_table.specs.Table.{rest, turned}
use Rattle.jx_ring.specs.declared.view.Place.{Place}
use Rattle.jx_ring.specs.declared.view.Place.TheVariants.{Empty, Full, Tape}
use Rattle.jx_ring.proofs.Carrying.{first_of, one_tape, one_entry}
use Rattle.jx_ring.proofs.ring.RingStore.carry.Goals as goal

abbrev Slots : (V : Type 0) → Type 0
Slots V = List (ℕ × Place V)

pub exchange-requires : goal.exchange-requires
exchange-requires g c = let o = c.requires.out in let w = c.args.window in
    (c.requires.table, (Tape o.0, o.2 ∙ ap (λ (l : Slots g.row.V.Denot). (w, Tape o.0) ∷ l) (sym (ap rest o.2))))

pub exchange-requires-2 : goal.exchange-requires-2
exchange-requires-2 g c = let o = c.requires.out in let w = c.args.window in let h = c.args.head in
    let one : c.exchange.new.seat.me.1 ≡ (w, Empty) ∷ (h, Full o.1) ∷ [] = ap (λ m. m.1) c.exchange.ensures.3 ∙ ap (λ (l : Slots g.row.V.Denot). (w, Empty) ∷ l) (ap rest o.2) in
    let two : c.turn.new.self.me.1 ≡ (h, Full o.1) ∷ (w, Empty) ∷ [] = ap (λ m. m.1) c.turn.ensures.2 ∙ ap turned one in
    (c.turn.ensures.0 ∙ c.exchange.ensures.0 ∙ c.requires.table, (Full o.1, two ∙ ap (λ (l : Slots g.row.V.Denot). (h, Full o.1) ∷ l) (sym (ap rest two))))

pub returns-clause-moved : goal.returns-clause-moved
returns-clause-moved g c = λ t e is.
    let w = c.args.window in let h = c.args.head in let u = c.push_reserved.new.self in
    let one : c.exchange.new.seat.me.1 ≡ (w, Empty) ∷ (h, Full e) ∷ [] = ap (λ m. m.1) c.exchange.ensures.3 ∙ ap (λ (l : Slots g.row.V.Denot). (w, Empty) ∷ l) (ap rest is) in
    let two : c.turn.new.self.me.1 ≡ (h, Full e) ∷ (w, Empty) ∷ [] = ap (λ m. m.1) c.turn.ensures.2 ∙ ap turned one in
    let three : c.exchange-2.new.seat.me.1 ≡ (h, Empty) ∷ (w, Empty) ∷ [] = ap (λ m. m.1) c.exchange-2.ensures.3 ∙ ap (λ (l : Slots g.row.V.Denot). (h, Empty) ∷ l) (ap rest two) in
    let four : c.turn-2.new.self.me.1 ≡ (w, Empty) ∷ (h, Empty) ∷ [] = ap (λ m. m.1) c.turn-2.ensures.2 ∙ ap turned three in
    let five : c.exchange-3.new.seat.me.1 ≡ (w, Tape u) ∷ (h, Empty) ∷ [] = ap (λ m. m.1) c.exchange-3.ensures.3 ∙ ap (λ (l : Slots g.row.V.Denot). (w, Tape u) ∷ l) (ap rest four) in
    let tape = one_tape _ _ (sym c.in-Tape.is ∙ sym (ap first_of c.exchange.ensures.2) ∙ ap first_of is) in
    let entry = one_entry _ _ (sym c.in-Full.is ∙ sym (ap first_of c.exchange-2.ensures.2) ∙ ap first_of two) in
    (u, five, c.push_reserved.ensures.items ∙ (λ i. (tape i).items ++ entry i ∷ []), c.push_reserved.ensures.capacity ∙ ap vec_capacity tape)
