use Rattle.std.proofs.Common.{◌≡◌, arith, true, sym, ◌∙◌, None}
use Rattle.jx_marker.specs.Markers.{has_length}
use Rattle.jx_marker.specs.Segments.{code_at}
use Rattle.jx_marker.specs.Rules.{first_broken}
use Rattle.jx_marker.proofs.RuleLemmas.{two_bytes, has_room, clear, length_body, least_two}
use Rattle.jx_marker.proofs.read.read_front.Goals as goal

pub bounds-bytes-1 : goal.bounds-bytes-1
bounds-bytes-1 c =
    let none : first_broken c.args.comps c.args.bytes.now ≡ None = sym c.first_broken.ensures ∙ c.in_default.is in
    let fine = clear c.args.comps c.args.bytes.now none in
    omega (arith, two_bytes c.args.comps c.args.bytes.now fine.long)

pub returns-then-not-has_length-clause-within : goal.returns-then-not-has_length-clause-within
returns-then-not-has_length-clause-within c =
    let none : first_broken c.args.comps c.args.bytes.now ≡ None = sym c.first_broken.ensures ∙ c.in_default.is in
    let fine = clear c.args.comps c.args.bytes.now none in
    two_bytes c.args.comps c.args.bytes.now fine.long

pub u16_at-requires : goal.u16_at-requires
u16_at-requires c =
    let none : first_broken c.args.comps c.args.bytes.now ≡ None = sym c.first_broken.ensures ∙ c.in_default.is in
    let fine = clear c.args.comps c.args.bytes.now none in
    let follows : has_length (code_at c.args.bytes.now) ≡ true = sym c.has_length.ensures ∙ c.if-not-has_length.false in
    let room = has_room c.args.comps c.args.bytes.now fine.long follows in
    room.front

pub body_of-requires-clause-room : goal.body_of-requires-clause-room
body_of-requires-clause-room c =
    let none : first_broken c.args.comps c.args.bytes.now ≡ None = sym c.first_broken.ensures ∙ c.in_default.is in
    let fine = clear c.args.comps c.args.bytes.now none in
    let follows : has_length (code_at c.args.bytes.now) ≡ true = sym c.has_length.ensures ∙ c.if-not-has_length.false in
    let room = has_room c.args.comps c.args.bytes.now fine.long follows in
    room.whole

pub body_of-requires-clause-some : goal.body_of-requires-clause-some
body_of-requires-clause-some c =
    let none : first_broken c.args.comps c.args.bytes.now ≡ None = sym c.first_broken.ensures ∙ c.in_default.is in
    let fine = clear c.args.comps c.args.bytes.now none in
    let follows : has_length (code_at c.args.bytes.now) ≡ true = sym c.has_length.ensures ∙ c.if-not-has_length.false in
    let room = has_room c.args.comps c.args.bytes.now fine.long follows in
    omega (arith, room.least, least_two c.args.comps (code_at c.args.bytes.now))

pub value_of-requires-clause-room : goal.value_of-requires-clause-room
value_of-requires-clause-room c =
    let none : first_broken c.args.comps c.args.bytes.now ≡ None = sym c.first_broken.ensures ∙ c.in_default.is in
    let fine = clear c.args.comps c.args.bytes.now none in
    let follows : has_length (code_at c.args.bytes.now) ≡ true = sym c.has_length.ensures ∙ c.if-not-has_length.false in
    let room = has_room c.args.comps c.args.bytes.now fine.long follows in
    rw c.body_of.ensures (omega (arith, room.least, length_body c.args.comps c.args.bytes.now room))

pub value_of-requires-clause-sot : goal.value_of-requires-clause-sot
value_of-requires-clause-sot c =
    let none : first_broken c.args.comps c.args.bytes.now ≡ None = sym c.first_broken.ensures ∙ c.in_default.is in
    let fine = clear c.args.comps c.args.bytes.now none in
    let follows : has_length (code_at c.args.bytes.now) ≡ true = sym c.has_length.ensures ∙ c.if-not-has_length.false in
    let room = has_room c.args.comps c.args.bytes.now fine.long follows in
    λ is. rw c.body_of.ensures (omega (arith, room.sot is, length_body c.args.comps c.args.bytes.now room))

pub returns-in-Ok-clause-within : goal.returns-in-Ok-clause-within
returns-in-Ok-clause-within c =
    let none : first_broken c.args.comps c.args.bytes.now ≡ None = sym c.first_broken.ensures ∙ c.in_default.is in
    let fine = clear c.args.comps c.args.bytes.now none in
    let follows : has_length (code_at c.args.bytes.now) ≡ true = sym c.has_length.ensures ∙ c.if-not-has_length.false in
    let room = has_room c.args.comps c.args.bytes.now fine.long follows in
    omega (arith, room.whole)
