use Rattle.std.proofs.Common.{ℕ, ◌+◌, ◌≤◌, List, ◌∷◌, length, get_or, drop, refl, ap, sym, ◌∙◌, arith}
use Rattle.std.proofs.lemmas.List.Elements.{All-head}
use Rattle.jx_packet_header.specs.Packet.{State}
use Rattle.jx_progression.specs.declared.names.PacketName.{PacketName}
use Rattle.jx_codestream.specs.declared.Body.{Body}
use Rattle.jx_tier2_reader.specs.Data.{behind}
use Rattle.jx_tier2_reader.specs.Cuts.{number_of}
use Rattle.jx_tier2_reader.specs.Reading.{state_at}
use Rattle.jx_tier2_reader.proofs.TileLemmas.{after_leaves, after_parts, bytes_enough, can_put, due_breaks, inside_turn, next_front, next_inside, ready_at, step_made, still_there, window_fits, window_short}
use Rattle.jx_tier2_reader.proofs.tile.Source.read_next.Goals as goal

abbrev none : PacketName
none = record { layer = 0; res = 0; comp = 0; precinct = 0 }

pub precinct_number-precinct-requires : goal.precinct_number-precinct-requires
precinct_number-precinct-requires c =
    (ready_at c.args.self.now.bytes.now c.args.self.now.stream.now c.args.self.now.geom.now c.args.self.now.list.now c.args.number c.args.rest.now c.args.blocks.now.items none c.args.rest.now.states (number_of c.args.self.now.geom.now (get_or c.args.self.now.list.now c.args.number none)) c.requires.task c.requires.number c.requires.front refl refl).precinct

pub window_of-window-requires : goal.window_of-window-requires
window_of-window-requires c =
    All-head (λ (y : Body). y.at + y.length ≤ length c.args.self.now.bytes.now) c.due-body.result (drop 1 c.due-body.new.self.bodies) (inside_turn c.args.self.now.bytes.now c.args.rest.now c.due-body.result (drop 1 c.due-body.new.self.bodies) c.requires.inside (c.due-body.ensures.due ∙ c.due-body.ensures.first))

pub read-requires-clause-there : goal.read-requires-clause-there
read-requires-clause-there c =
    (ready_at c.args.self.now.bytes.now c.args.self.now.stream.now c.args.self.now.geom.now c.args.self.now.list.now c.args.number c.args.rest.now c.args.blocks.now.items none c.due-body.new.self.states c.precinct_number-precinct.result c.requires.task c.requires.number c.requires.front c.due-body.ensures.states c.precinct_number-precinct.ensures.value).there

pub read-requires-clause-state : goal.read-requires-clause-state
read-requires-clause-state c =
    (ready_at c.args.self.now.bytes.now c.args.self.now.stream.now c.args.self.now.geom.now c.args.self.now.list.now c.args.number c.args.rest.now c.args.blocks.now.items none c.due-body.new.self.states c.precinct_number-precinct.result c.requires.task c.requires.number c.requires.front c.due-body.ensures.states c.precinct_number-precinct.ensures.value).is

pub read-requires-clause-layer : goal.read-requires-clause-layer
read-requires-clause-layer c =
    (ready_at c.args.self.now.bytes.now c.args.self.now.stream.now c.args.self.now.geom.now c.args.self.now.list.now c.args.number c.args.rest.now c.args.blocks.now.items none c.due-body.new.self.states c.precinct_number-precinct.result c.requires.task c.requires.number c.requires.front c.due-body.ensures.states c.precinct_number-precinct.ensures.value).layer

pub returns-in-Err-clause-err : goal.returns-in-Err-clause-err
returns-in-Err-clause-err c =
    due_breaks c.args.self.now.bytes.now c.args.self.now.stream.now c.args.self.now.geom.now c.args.self.now.list.now c.args.number c.args.rest.now c.args.blocks.now.items none c.due-body.result (drop 1 c.due-body.new.self.bodies) c.due-body.new.self.packed c.window_of-window.result.now c.due-body.new.self.states c.precinct_number-precinct.result c.in-Err.fault c.requires.task c.requires.number c.requires.front
    (c.due-body.ensures.due ∙ c.due-body.ensures.first) c.window_of-window.ensures c.due-body.ensures.packed c.due-body.ensures.states c.precinct_number-precinct.ensures.value (ready_at c.args.self.now.bytes.now c.args.self.now.stream.now c.args.self.now.geom.now c.args.self.now.list.now c.args.number c.args.rest.now c.args.blocks.now.items none c.due-body.new.self.states c.precinct_number-precinct.result c.requires.task c.requires.number c.requires.front c.due-body.ensures.states c.precinct_number-precinct.ensures.value).there c.in-Err.ensures.err

pub pass-requires-clause-fits : goal.pass-requires-clause-fits
pass-requires-clause-fits c =
    let inside : c.due-body.result.at + c.due-body.result.length ≤ length c.args.self.now.bytes.now =
    All-head (λ (y : Body). y.at + y.length ≤ length c.args.self.now.bytes.now) c.due-body.result (drop 1 c.due-body.new.self.bodies) (inside_turn c.args.self.now.bytes.now c.args.rest.now c.due-body.result (drop 1 c.due-body.new.self.bodies) c.requires.inside (c.due-body.ensures.due ∙ c.due-body.ensures.first)) in
    omega (arith, c.requires.task.fits)

pub put_pieces-requires-clause-precinct : goal.put_pieces-requires-clause-precinct
put_pieces-requires-clause-precinct c =
    (ready_at c.args.self.now.bytes.now c.args.self.now.stream.now c.args.self.now.geom.now c.args.self.now.list.now c.args.number c.args.rest.now c.args.blocks.now.items none c.due-body.new.self.states c.precinct_number-precinct.result c.requires.task c.requires.number c.requires.front c.due-body.ensures.states c.precinct_number-precinct.ensures.value).precinct

pub put_pieces-requires-clause-leaves : goal.put_pieces-requires-clause-leaves
put_pieces-requires-clause-leaves c =
    let p : PacketName = get_or c.args.self.now.list.now c.args.number none in
    let n = c.precinct_number-precinct.result in
    let after_is = c.precinct.ensures ∙ ap (λ (xs : List State). state_at xs n) c.pass.ensures.states in
    let bodies_are = c.pass.ensures.bodies ∙ ap (λ (xs : List Body). behind c.due-body.result c.in-Ok.packet.count ∷ drop 1 xs) c.in-Ok.ensures.bodies in
    let there = (ready_at c.args.self.now.bytes.now c.args.self.now.stream.now c.args.self.now.geom.now c.args.self.now.list.now c.args.number c.args.rest.now c.args.blocks.now.items none c.due-body.new.self.states c.precinct_number-precinct.result c.requires.task c.requires.number c.requires.front c.due-body.ensures.states c.precinct_number-precinct.ensures.value).there in
    let step = step_made c.args.self.now.bytes.now c.args.self.now.geom.now c.args.number c.args.rest.now p c.in-Ok.packet c.precinct.result.now c.pass.new.self c.due-body.result (drop 1 c.due-body.new.self.bodies)
    c.due-body.new.self.packed c.window_of-window.result.now c.due-body.new.self.states c.read.new.self.states n (c.due-body.ensures.due ∙ c.due-body.ensures.first) c.precinct_number-precinct.ensures.value c.due-body.ensures.packed c.due-body.ensures.states there c.window_of-window.ensures
    c.in-Ok.ensures.ok after_is c.in-Ok.ensures.states bodies_are (c.pass.ensures.end ∙ c.in-Ok.ensures.end ∙ c.due-body.ensures.end) (c.pass.ensures.packed ∙ c.in-Ok.ensures.packed) c.pass.ensures.states in
    after_leaves c.args.self.now.bytes.now c.args.self.now.stream.now c.args.self.now.geom.now c.args.self.now.list.now c.args.number c.args.rest.now c.args.blocks.now.items none c.in-Ok.packet c.precinct.result.now c.pass.new.self c.requires.task c.requires.number c.requires.front step

pub put_pieces-requires-clause-parts : goal.put_pieces-requires-clause-parts
put_pieces-requires-clause-parts c =
    let p : PacketName = get_or c.args.self.now.list.now c.args.number none in
    let n = c.precinct_number-precinct.result in
    let after_is = c.precinct.ensures ∙ ap (λ (xs : List State). state_at xs n) c.pass.ensures.states in
    let bodies_are = c.pass.ensures.bodies ∙ ap (λ (xs : List Body). behind c.due-body.result c.in-Ok.packet.count ∷ drop 1 xs) c.in-Ok.ensures.bodies in
    let there = (ready_at c.args.self.now.bytes.now c.args.self.now.stream.now c.args.self.now.geom.now c.args.self.now.list.now c.args.number c.args.rest.now c.args.blocks.now.items none c.due-body.new.self.states c.precinct_number-precinct.result c.requires.task c.requires.number c.requires.front c.due-body.ensures.states c.precinct_number-precinct.ensures.value).there in
    let step = step_made c.args.self.now.bytes.now c.args.self.now.geom.now c.args.number c.args.rest.now p c.in-Ok.packet c.precinct.result.now c.pass.new.self c.due-body.result (drop 1 c.due-body.new.self.bodies)
    c.due-body.new.self.packed c.window_of-window.result.now c.due-body.new.self.states c.read.new.self.states n (c.due-body.ensures.due ∙ c.due-body.ensures.first) c.precinct_number-precinct.ensures.value c.due-body.ensures.packed c.due-body.ensures.states there c.window_of-window.ensures
    c.in-Ok.ensures.ok after_is c.in-Ok.ensures.states bodies_are (c.pass.ensures.end ∙ c.in-Ok.ensures.end ∙ c.due-body.ensures.end) (c.pass.ensures.packed ∙ c.in-Ok.ensures.packed) c.pass.ensures.states in
    after_parts c.args.self.now.bytes.now c.args.self.now.geom.now c.args.number c.args.rest.now p c.in-Ok.packet c.precinct.result.now c.pass.new.self step

pub put_pieces-requires-clause-can : goal.put_pieces-requires-clause-can
put_pieces-requires-clause-can c =
    let p : PacketName = get_or c.args.self.now.list.now c.args.number none in
    let n = c.precinct_number-precinct.result in
    let after_is = c.precinct.ensures ∙ ap (λ (xs : List State). state_at xs n) c.pass.ensures.states in
    let bodies_are = c.pass.ensures.bodies ∙ ap (λ (xs : List Body). behind c.due-body.result c.in-Ok.packet.count ∷ drop 1 xs) c.in-Ok.ensures.bodies in
    let there = (ready_at c.args.self.now.bytes.now c.args.self.now.stream.now c.args.self.now.geom.now c.args.self.now.list.now c.args.number c.args.rest.now c.args.blocks.now.items none c.due-body.new.self.states c.precinct_number-precinct.result c.requires.task c.requires.number c.requires.front c.due-body.ensures.states c.precinct_number-precinct.ensures.value).there in
    let step = step_made c.args.self.now.bytes.now c.args.self.now.geom.now c.args.number c.args.rest.now p c.in-Ok.packet c.precinct.result.now c.pass.new.self c.due-body.result (drop 1 c.due-body.new.self.bodies)
    c.due-body.new.self.packed c.window_of-window.result.now c.due-body.new.self.states c.read.new.self.states n (c.due-body.ensures.due ∙ c.due-body.ensures.first) c.precinct_number-precinct.ensures.value c.due-body.ensures.packed c.due-body.ensures.states there c.window_of-window.ensures
    c.in-Ok.ensures.ok after_is c.in-Ok.ensures.states bodies_are (c.pass.ensures.end ∙ c.in-Ok.ensures.end ∙ c.due-body.ensures.end) (c.pass.ensures.packed ∙ c.in-Ok.ensures.packed) c.pass.ensures.states in
    can_put c.args.self.now.bytes.now c.args.self.now.stream.now c.args.self.now.geom.now c.args.self.now.list.now c.args.number c.args.rest.now c.args.blocks.now.items none c.in-Ok.packet c.precinct.result.now c.pass.new.self c.requires.task c.requires.number c.requires.front step

pub returns-in-Ok-put_pieces-clause-front : goal.returns-in-Ok-put_pieces-clause-front
returns-in-Ok-put_pieces-clause-front c =
    let p : PacketName = get_or c.args.self.now.list.now c.args.number none in
    let n = c.precinct_number-precinct.result in
    let after_is = c.precinct.ensures ∙ ap (λ (xs : List State). state_at xs n) c.pass.ensures.states in
    let bodies_are = c.pass.ensures.bodies ∙ ap (λ (xs : List Body). behind c.due-body.result c.in-Ok.packet.count ∷ drop 1 xs) c.in-Ok.ensures.bodies in
    let there = (ready_at c.args.self.now.bytes.now c.args.self.now.stream.now c.args.self.now.geom.now c.args.self.now.list.now c.args.number c.args.rest.now c.args.blocks.now.items none c.due-body.new.self.states c.precinct_number-precinct.result c.requires.task c.requires.number c.requires.front c.due-body.ensures.states c.precinct_number-precinct.ensures.value).there in
    let step = step_made c.args.self.now.bytes.now c.args.self.now.geom.now c.args.number c.args.rest.now p c.in-Ok.packet c.precinct.result.now c.pass.new.self c.due-body.result (drop 1 c.due-body.new.self.bodies)
    c.due-body.new.self.packed c.window_of-window.result.now c.due-body.new.self.states c.read.new.self.states n (c.due-body.ensures.due ∙ c.due-body.ensures.first) c.precinct_number-precinct.ensures.value c.due-body.ensures.packed c.due-body.ensures.states there c.window_of-window.ensures
    c.in-Ok.ensures.ok after_is c.in-Ok.ensures.states bodies_are (c.pass.ensures.end ∙ c.in-Ok.ensures.end ∙ c.due-body.ensures.end) (c.pass.ensures.packed ∙ c.in-Ok.ensures.packed) c.pass.ensures.states in
    next_front c.args.self.now.bytes.now c.args.self.now.stream.now c.args.self.now.geom.now c.args.self.now.list.now c.args.number c.args.rest.now c.args.blocks.now.items none c.in-Ok.packet c.precinct.result.now c.pass.new.self c.put_pieces.new.blocks.items c.requires.task c.requires.number c.requires.front step c.in-Ok-put_pieces.ensures

pub returns-in-Ok-put_pieces-clause-inside : goal.returns-in-Ok-put_pieces-clause-inside
returns-in-Ok-put_pieces-clause-inside c =
    let bodies_are = c.pass.ensures.bodies ∙ ap (λ (xs : List Body). behind c.due-body.result c.in-Ok.packet.count ∷ drop 1 xs) c.in-Ok.ensures.bodies in
    next_inside c.args.self.now.bytes.now c.args.rest.now c.pass.new.self c.due-body.result (drop 1 c.due-body.new.self.bodies) c.in-Ok.packet.count c.window_of-window.result.now c.requires.inside
    (c.due-body.ensures.due ∙ c.due-body.ensures.first) c.window_of-window.ensures c.in-Ok.ensures.within bodies_are (c.pass.ensures.end ∙ c.in-Ok.ensures.end ∙ c.due-body.ensures.end)

pub read-requires-clause-fits : goal.read-requires-clause-fits
read-requires-clause-fits c =
    window_fits c.args.self.now.bytes.now c.due-body.result (drop 1 c.due-body.new.self.bodies) c.window_of-window.result.now c.requires.task.fits
    (inside_turn c.args.self.now.bytes.now c.args.rest.now c.due-body.result (drop 1 c.due-body.new.self.bodies) c.requires.inside (c.due-body.ensures.due ∙ c.due-body.ensures.first)) c.window_of-window.ensures

pub pass-requires-clause-body : goal.pass-requires-clause-body
pass-requires-clause-body c = c.in-Ok.ensures.bodies ∙ c.due-body.ensures.first ∙ ap (λ (xs : List Body). c.due-body.result ∷ drop 1 xs) (sym c.in-Ok.ensures.bodies)

pub pass-requires-clause-count : goal.pass-requires-clause-count
pass-requires-clause-count c =
    let low : length c.window_of-window.result.now ≤ c.due-body.result.length = window_short c.args.self.now.bytes.now c.due-body.result c.window_of-window.result.now c.window_of-window.ensures in
    omega (arith, c.in-Ok.ensures.within, low)

pub precinct-requires : goal.precinct-requires
precinct-requires c =
    still_there c.due-body.new.self.states c.read.new.self.states c.pass.new.self.states c.precinct_number-precinct.result (state_at c.read.new.self.states c.precinct_number-precinct.result)
    (ready_at c.args.self.now.bytes.now c.args.self.now.stream.now c.args.self.now.geom.now c.args.self.now.list.now c.args.number c.args.rest.now c.args.blocks.now.items none c.due-body.new.self.states c.precinct_number-precinct.result c.requires.task c.requires.number c.requires.front c.due-body.ensures.states c.precinct_number-precinct.ensures.value).there c.in-Ok.ensures.states c.pass.ensures.states

pub put_pieces-requires-clause-bytes : goal.put_pieces-requires-clause-bytes
put_pieces-requires-clause-bytes c =
    bytes_enough c.due-body.new.self.packed c.window_of-window.result.now c.args.number (state_at c.due-body.new.self.states c.precinct_number-precinct.result) _ c.in-Ok.ensures.ok c.in-Ok.ensures.within
