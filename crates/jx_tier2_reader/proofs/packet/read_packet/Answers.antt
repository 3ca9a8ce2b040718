use Rattle.std.proofs.Common.{◌≤◌, List, ℕ, length, drop, take, ap, sym, subst, ◌∙◌, arith}
use Rattle.jx_tier2_reader.specs.Data.{header_in, front_length}
use Rattle.jx_tier2_reader.specs.Reading.{seen}
use Rattle.jx_tier2_reader.proofs.PacketLemmas.{packet_within, head_breaks, body_breaks, cut_made, has_bytes}
use Rattle.jx_tier2_reader.proofs.packet.read_packet.Goals as goal

pub returns-in-Err-read_head-clause-err : goal.returns-in-Err-read_head-clause-err
returns-in-Err-read_head-clause-err c =
    head_breaks (seen c.args.packed) c.args.window.now c.header_in-header.result.now c.args.at c.args.number c.args.precinct.now c.in-Err-read_head.fault c.in-Ok.ensures.answer.0
    c.header_in-header.ensures c.in-Err-read_head.ensures.err

pub check_body-requires-clause-used : goal.check_body-requires-clause-used
check_body-requires-clause-used c =
    let inside = packet_within c.header_in-header.result.now c.args.precinct.now c.in-Ok-read_head.read.0.items c.in-Ok-read_head.read.1 c.read_head.new.precinct c.in-Ok-read_head.ensures.ok in
    subst (λ (h : List ℕ). c.in-Ok-read_head.read.1 ≤ length h) c.header_in-header.ensures inside

pub returns-in-Err-check_body-clause-err : goal.returns-in-Err-check_body-clause-err
returns-in-Err-check_body-clause-err c =
    body_breaks (seen c.args.packed) c.args.window.now c.header_in-header.result.now c.args.at c.args.number c.args.precinct.now c.in-Ok-read_head.read.0.items c.in-Ok-read_head.read.1
    c.read_head.new.precinct c.in-Err-check_body.fault c.in-Ok.ensures.answer.0 c.header_in-header.ensures c.in-Ok-read_head.ensures.ok (rw c.deref.ensures.value at c.in-Err-check_body.ensures.answer)

pub returns-clause-ok : goal.returns-clause-ok
returns-clause-ok c =
    let w = c.args.window.now in
    let packet = rw c.header_in-header.ensures at c.in-Ok-read_head.ensures.ok in
    let body = rw c.deref.ensures.value at c.in-Ok-check_body.ensures.answer in
    let coded = ap (λ (x : List ℕ). take c.in-Ok-check_body.lengths.1 x) (c.split_at.ensures.back ∙ ap (λ (n : ℕ). drop n w) body.1.0) in
    let length = ap (λ (n : ℕ). take n (drop (front_length (seen c.args.packed) w c.in-Ok-read_head.read.1) w)) body.1.1 in
    cut_made (seen c.args.packed) w c.args.at c.args.number c.args.precinct.now _ c.in-Ok.ensures.answer.0 packet body.0 (cc) (c.split_at-2.ensures.front ∙ coded ∙ length)

pub returns-clause-used : goal.returns-clause-used
returns-clause-used c =
    let inside = packet_within c.header_in-header.result.now c.args.precinct.now c.in-Ok-read_head.read.0.items c.in-Ok-read_head.read.1 c.read_head.new.precinct c.in-Ok-read_head.ensures.ok in
    has_bytes (seen c.args.packed) c.args.window.now c.in-Ok-read_head.read.1 (subst (λ (h : List ℕ). c.in-Ok-read_head.read.1 ≤ length h) c.header_in-header.ensures inside)
