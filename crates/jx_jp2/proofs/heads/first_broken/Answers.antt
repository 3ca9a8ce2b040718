use Rattle.std.proofs.Common.{◌≡◌, ◌-◌, true, false, arith, refl, sym, ◌∙◌}
use Rattle.jx_jp2.specs.Heads.{lbox, breaks_32, breaks_33, breaks_34, first_broken}
use Rattle.jx_jp2.proofs.HeadLemmas.{head_room, long_room, is_clear}
use Rattle.jx_jp2.proofs.heads.first_broken.Goals as goal

pub returns-then-breaks_32 : goal.returns-then-breaks_32
unfolding first_broken
returns-then-breaks_32 c =
    let t : breaks_32 c.args.bytes.now c.args.at (c.args.stop - c.args.at) ≡ true = sym c.breaks_32.ensures ∙ c.if-breaks_32.true in
    rw t refl

pub breaks_33-requires-clause-head : goal.breaks_33-requires-clause-head
breaks_33-requires-clause-head c =
    let f : breaks_32 c.args.bytes.now c.args.at (c.args.stop - c.args.at) ≡ false = sym c.breaks_32.ensures ∙ c.if-breaks_32.false in
    let room = head_room c.args.bytes.now c.args.at (c.args.stop - c.args.at) f in
    omega (arith, room)

pub breaks_33-requires-clause-long : goal.breaks_33-requires-clause-long
breaks_33-requires-clause-long c = λ (is : lbox c.args.bytes.now c.args.at ≡ 1). (
    let f : breaks_32 c.args.bytes.now c.args.at (c.args.stop - c.args.at) ≡ false = sym c.breaks_32.ensures ∙ c.if-breaks_32.false in
    let room = long_room c.args.bytes.now c.args.at (c.args.stop - c.args.at) f is in
    omega (arith, room)
    )

pub returns-then-breaks_33 : goal.returns-then-breaks_33
unfolding first_broken
returns-then-breaks_33 c =
    let f : breaks_32 c.args.bytes.now c.args.at (c.args.stop - c.args.at) ≡ false = sym c.breaks_32.ensures ∙ c.if-breaks_32.false in
    let t : breaks_33 c.args.bytes.now c.args.is_top c.args.at ≡ true = sym c.breaks_33.ensures ∙ c.if-breaks_33.true in
    rw (f, t) refl

pub breaks_34-requires-clause-head : goal.breaks_34-requires-clause-head
breaks_34-requires-clause-head c =
    let f : breaks_32 c.args.bytes.now c.args.at (c.args.stop - c.args.at) ≡ false = sym c.breaks_32.ensures ∙ c.if-breaks_32.false in
    let room = head_room c.args.bytes.now c.args.at (c.args.stop - c.args.at) f in
    omega (arith, room)

pub breaks_34-requires-clause-long : goal.breaks_34-requires-clause-long
breaks_34-requires-clause-long c = λ (is : lbox c.args.bytes.now c.args.at ≡ 1). (
    let f : breaks_32 c.args.bytes.now c.args.at (c.args.stop - c.args.at) ≡ false = sym c.breaks_32.ensures ∙ c.if-breaks_32.false in
    let room = long_room c.args.bytes.now c.args.at (c.args.stop - c.args.at) f is in
    omega (arith, room)
    )

pub returns-then-breaks_34 : goal.returns-then-breaks_34
unfolding first_broken
returns-then-breaks_34 c =
    let f : breaks_32 c.args.bytes.now c.args.at (c.args.stop - c.args.at) ≡ false = sym c.breaks_32.ensures ∙ c.if-breaks_32.false in
    let g : breaks_33 c.args.bytes.now c.args.is_top c.args.at ≡ false = sym c.breaks_33.ensures ∙ c.if-breaks_33.false in
    let t : breaks_34 c.args.bytes.now c.args.at (c.args.stop - c.args.at) ≡ true = sym c.breaks_34.ensures ∙ c.if-breaks_34.true in
    rw (f, g, t) refl

pub returns : goal.returns
returns c = sym (is_clear c.args.bytes.now c.args.is_top c.args.stop c.args.at (record {
  head = sym c.breaks_32.ensures ∙ c.if-breaks_32.false;
  told = sym c.breaks_33.ensures ∙ c.if-breaks_33.false;
  ends = sym c.breaks_34.ensures ∙ c.if-breaks_34.false;
}))
