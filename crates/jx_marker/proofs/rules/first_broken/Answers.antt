use Rattle.std.proofs.Common.{◌≡◌, arith, false, true, sym, ◌∙◌}
use Rattle.jx_marker.specs.Markers.{has_length}
use Rattle.jx_marker.specs.Segments.{code_at, body_at}
use Rattle.jx_marker.specs.Rules.{breaks_1}
use Rattle.jx_marker.proofs.RuleLemmas.{two_bytes, has_room, alone_rules, clear_broken, length_body, least_two}
use Rattle.jx_marker.proofs.rules.first_broken.Goals as goal

pub bounds-bytes-1 : goal.bounds-bytes-1
bounds-bytes-1 c =
    let long : breaks_1 c.args.comps c.args.bytes.now ≡ false = cc in
    let two = two_bytes c.args.comps c.args.bytes.now long in omega arith

pub returns-then-not-has_length : goal.returns-then-not-has_length
returns-then-not-has_length c =
    let none : has_length (code_at c.args.bytes.now) ≡ false = sym c.has_length.ensures ∙ c.if-not-has_length.true in
    sym (clear_broken c.args.comps c.args.bytes.now (record {
      marker = cc;
      long = cc;
      inside = alone_rules c.args.comps (code_at c.args.bytes.now) (body_at c.args.bytes.now) none;
    }))

pub body_of-requires-clause-room : goal.body_of-requires-clause-room
body_of-requires-clause-room c =
    let long : breaks_1 c.args.comps c.args.bytes.now ≡ false = cc in
    let follows : has_length (code_at c.args.bytes.now) ≡ true = sym c.has_length.ensures ∙ c.if-not-has_length.false in
    (has_room c.args.comps c.args.bytes.now long follows).whole

pub body_of-requires-clause-some : goal.body_of-requires-clause-some
body_of-requires-clause-some c =
    let long : breaks_1 c.args.comps c.args.bytes.now ≡ false = cc in
    let follows : has_length (code_at c.args.bytes.now) ≡ true = sym c.has_length.ensures ∙ c.if-not-has_length.false in
    let room = has_room c.args.comps c.args.bytes.now long follows in
    omega (arith, room.least, least_two c.args.comps (code_at c.args.bytes.now))

pub rule_inside-requires : goal.rule_inside-requires
rule_inside-requires c =
    let long : breaks_1 c.args.comps c.args.bytes.now ≡ false = cc in
    let follows : has_length (code_at c.args.bytes.now) ≡ true = sym c.has_length.ensures ∙ c.if-not-has_length.false in
    let room = has_room c.args.comps c.args.bytes.now long follows in
    rw c.body_of.ensures (omega (arith, room.least, length_body c.args.comps c.args.bytes.now room))
