use Rattle.std.proofs.Common.{◌≡◌, ◌≤◌, ◌+◌, ◌<◌, ℕ, List, ◌∷◌, length, get_or, drop, take, ap, sym, subst, ◌∙◌, arith, length-drop}
use Rattle.std.proofs.lemmas.List.{at_drop_more}
use Rattle.std.proofs.lemmas.List.Sums.{sum_by-cons}
use Rattle.jx_base.specs.declared.pieces.Block.{Block}
use Rattle.jx_geom.specs.Geometry.{Geometry}
use Rattle.jx_packet_header.specs.declared.HeaderPart.{HeaderPart}
use Rattle.jx_packet_header.specs.Packet.{State}
use Rattle.jx_progression.specs.declared.names.PacketName.{PacketName}
use Rattle.jx_tier2_reader.specs.Data.{parts_length}
use Rattle.jx_tier2_reader.specs.Blocks.{FoundPiece, founds_from}
use Rattle.jx_tier2_reader.specs.Reading.{CanPut, found_of}
use Rattle.jx_tier2_reader.proofs.PieceLemmas.{founds_next, can_there, can_room, put_next, can_next}
use Rattle.jx_tier2_reader.proofs.pieces.put_pieces.Goals as goal

none : HeaderPart
none = record { block = 0; first = 0; passes = 0; length = 0 }

-- the part of a turn is that of the packet
part_is : (ps parts : List HeaderPart) (i : ℕ) → ps ≡ parts → get_or ps i none ≡ get_or parts i none
part_is ps parts i e = ap (λ (xs : List HeaderPart). get_or xs i none) e

part_there : (ps parts : List HeaderPart) (i : ℕ) → ps ≡ parts → i < length ps → i < length parts
part_there ps parts i e h = let P : List HeaderPart → Type 0 = λ xs. i < length xs in subst P e h

rest_fits : (parts : List HeaderPart) (i : ℕ) (part : HeaderPart) (rest back : List ℕ) → i < length parts → part ≡ get_or parts i none → back ≡ drop part.length rest
    → parts_length (drop i parts) ≤ length rest → parts_length (drop (i + 1) parts) ≤ length back
rest_fits parts i part rest back h e b fits =
    let first : parts_length (drop i parts) ≡ part.length + parts_length (drop (i + 1) parts) =
    at_drop_more parts_length parts i none h ∙ ap (λ (q : HeaderPart). parts_length (q ∷ drop (i + 1) parts)) (sym e) ∙ sum_by-cons (λ (q : HeaderPart). q.length) part (drop (i + 1) parts) in
    omega (arith, ap length b, length-drop part.length rest)

-- the piece of a part is the first of those that are left
first_can : (g : Geometry) (p : PacketName) (k : State) (blocks : List Block) (rest : List ℕ) (parts : List HeaderPart) (i : ℕ) (part : HeaderPart) → i < length parts → part ≡ get_or parts i none
    → CanPut blocks (founds_from g p k rest (drop i parts))
    → CanPut blocks (found_of g p k part (take part.length rest) ∷ founds_from g p k (drop part.length rest) (drop (i + 1) parts))
first_can g p k blocks rest parts i part h e can =
    let C : List FoundPiece → Type 0 = λ xs. CanPut blocks xs in
    subst C (founds_next g p k rest parts i none part h e) can

pub put_part-requires-clause-there : goal.put_part-requires-clause-there
unfolding none
put_part-requires-clause-there c =
    let parts = c.args.packet.now.parts.items in
    let i = c.loop-part.part-index in
    let part : HeaderPart = get_or c.deref-part-items.result.now i none in
    let is = part_is c.deref-part-items.result.now parts i c.deref-part-items.ensures.value in
    let lt = part_there c.deref-part-items.result.now parts i c.deref-part-items.ensures.value c.loop-part-test.true in
    can_there c.loop-part.blocks.items _ _ (first_can c.args.geom.now c.args.name c.args.precinct.now c.loop-part.blocks.items c.loop-part.rest.now parts i part lt is c.loop-part.invariant.can)

pub put_part-requires-clause-few : goal.put_part-requires-clause-few
unfolding none
put_part-requires-clause-few c =
    let parts = c.args.packet.now.parts.items in
    let i = c.loop-part.part-index in
    let part : HeaderPart = get_or c.deref-part-items.result.now i none in
    let is = part_is c.deref-part-items.result.now parts i c.deref-part-items.ensures.value in
    let lt = part_there c.deref-part-items.result.now parts i c.deref-part-items.ensures.value c.loop-part-test.true in
    can_room c.loop-part.blocks.items _ _ (first_can c.args.geom.now c.args.name c.args.precinct.now c.loop-part.blocks.items c.loop-part.rest.now parts i part lt is c.loop-part.invariant.can)

pub loop-part-preserved : goal.loop-part-preserved
unfolding none
loop-part-preserved c =
    let g = c.args.geom.now in
    let k = c.args.precinct.now in
    let parts = c.args.packet.now.parts.items in
    let i = c.loop-part.part-index in
    let part : HeaderPart = get_or c.deref-part-items.result.now i none in
    let is = part_is c.deref-part-items.result.now parts i c.deref-part-items.ensures.value in
    let lt = part_there c.deref-part-items.result.now parts i c.deref-part-items.ensures.value c.loop-part-test.true in
    record {
      same = put_next g c.args.name k c.loop-part.blocks.items c.put_part.new.blocks.items c.loop-part.rest.now c.split_at.result.0.now c.split_at.result.1.now parts i none part lt is
          c.split_at.ensures.front c.split_at.ensures.back c.in_ok-put_part.ensures ∙ c.loop-part.invariant.same;
      can = can_next g c.args.name k c.loop-part.blocks.items c.put_part.new.blocks.items c.loop-part.rest.now c.split_at.result.0.now c.split_at.result.1.now parts i none part lt is
          c.split_at.ensures.front c.split_at.ensures.back c.in_ok-put_part.ensures c.loop-part.invariant.can;
      bytes = rest_fits parts i part c.loop-part.rest.now c.split_at.result.1.now lt is c.split_at.ensures.back c.loop-part.invariant.bytes;
    }
