-- What is first in an input is a rule, or a limit below 7.
use Rattle.std.proofs.Common.{◌≡◌, ◌⊎◌, ◌<◌, ◌+◌, ◌-◌, ◌==◌, ◌||◌, ◌&&◌, ◌%◌, ◌^◌, take, not, nat_lt, nat_le, ℕ, Bool, true, false, List, [], ◌∷◌, length, drop, sym, subst, arith, inl, inr, Option, None, Some, cond}
use Rattle.std.specs.Option.{option_or}
use Rattle.jx_geom.specs.Geometry.{Geometry}
use Rattle.jx_packet_header.specs.declared.HeaderPart.{HeaderPart}
use Rattle.jx_packet_header.specs.Packet.{State}
use Rattle.jx_marker.specs.Codes.{SOC, SIZ, SOT, EOC}
use Rattle.jx_marker.specs.declared.Segment.{Segment}
use Rattle.jx_marker.specs.declared.Siz.{Siz}
use Rattle.jx_marker.specs.declared.Sot.{Sot}
use Rattle.jx_marker.specs.Rules.{first_broken}
use Rattle.jx_marker.specs.Segments.{segment_at}
use Rattle.jx_progression.specs.declared.names.PacketName.{PacketName}
use Rattle.jx_codestream.specs.declared.faults.StreamFault.{StreamFault}
use Rattle.jx_codestream.specs.declared.faults.StreamFault.TheVariants as fault
use Rattle.jx_codestream.specs.declared.headers.HeaderKind.{HeaderKind}
use Rattle.jx_codestream.specs.declared.Stream.{Stream}
use Rattle.jx_codestream.specs.declared.Tile.{Tile}
use Rattle.jx_codestream.specs.Faults.{broken, rule_at}
use Rattle.jx_codestream.specs.First.{front_fault, tile_number, tiles_fault}
use Rattle.jx_codestream.specs.FirstViolated.{IsFirst}
use Rattle.jx_codestream.specs.Headers.{early_fault, is_packed_twice, is_second, segment_fault, stands_in}
use Rattle.jx_codestream.specs.PackedHeaders.{data_in_order, shares_fault, shares_fit}
use Rattle.jx_codestream.specs.declared.Body.{Body}
use Rattle.jx_codestream.specs.declared.packed.PackedSegment.{PackedSegment}
use Rattle.jx_codestream.specs.declared.parts.PlacedPart.{PlacedPart}
use Rattle.jx_codestream.specs.Params.{limit_4_of, rule_9_of}
use Rattle.jx_codestream.specs.Parts.{has_wrong_length, marker_at, sod_fault, sot_fault, start_fault}
use Rattle.jx_codestream.specs.Shapes.{geometry}
use Rattle.jx_codestream.specs.Spells.{first_sot, main_packed, placed}
use Rattle.jx_tier2_reader.specs.Cuts.{Breaks, Left, Stops, data_fault, left_fault, packed_fault}
use Rattle.jx_tier2_reader.specs.Data.{body_fault, due, eph_fault, first_mark, is_eph_cut, front_length, has_sop, marks_fault, number_at, parts_length, rule_30, sop_fault}
use Rattle.jx_tile.specs.Faults.{passed}
use Rattle.jx_tier2_reader.specs.Gathered.{IsBroken, head_pieces}
use Rattle.jx_tile.specs.Totals.{block_total, packet_total, totals_fault}
use Rattle.jx_transcode.specs.Judged.{BreaksTiles}
use Rattle.jx_base.specs.Limits.{most_blocks}

abbrev pub IsTold : StreamFault → Type 0
IsTold (fault.Rule number place) = Unit {0}
IsTold (fault.Limit number found) = number < 7
IsTold fault.NoMemory = ⊥

abbrev AllTold : Option StreamFault → Type 0
AllTold None = Unit {0}
AllTold (Some f) = IsTold f

told_or : (a b : Option StreamFault) → AllTold a → AllTold b → AllTold (option_or a b)
told_or None b x y = y
told_or (Some f) b x y = x

told_broken : (number place : ℕ) (violated : Bool) → AllTold (broken number place violated)
told_broken number place true = tt
told_broken number place false = tt

told_rule : (place : ℕ) (o : Option ℕ) → AllTold (rule_at place o)
told_rule place None = tt
told_rule place (Some number) = tt

told_cond : (t : Bool) (a b : Option StreamFault) → AllTold a → AllTold b → AllTold (cond t a b)
told_cond true a b x y = x
told_cond false a b x y = y

told_at : (o : Option StreamFault) (f : StreamFault) → AllTold o → o ≡ Some f → IsTold f
told_at o f x e = let y : AllTold (Some f) = subst AllTold e x in y

told_is : (f : StreamFault) (number place : ℕ) → f ≡ fault.Rule number place → IsTold f
told_is f number place e = subst IsTold (sym e) tt

-- ---- headers
front_told : (b : List ℕ) → AllTold (front_fault b)
unfolding front_fault
front_told b =
    told_or (broken 15 0 (not (marker_at b 0 SOC))) (option_or (broken 16 2 (not (marker_at b 2 SIZ))) (rule_at 2 (first_broken 1 (drop 2 b))))
    (told_broken 15 0 (not (marker_at b 0 SOC)))
    (told_or (broken 16 2 (not (marker_at b 2 SIZ))) (rule_at 2 (first_broken 1 (drop 2 b))) (told_broken 16 2 (not (marker_at b 2 SIZ))) (told_rule 2 (first_broken 1 (drop 2 b))))

tiles_told : (siz : Siz) → AllTold (tiles_fault siz)
unfolding tiles_fault
tiles_told siz = let few : 3 < 7 = omega arith in told_cond (nat_lt 65535 (tile_number siz)) (Some (fault.Limit 3 (tile_number siz))) None few tt

early_told : (kind : HeaderKind) (comps : ℕ) (b : List ℕ) (at : ℕ) → AllTold (early_fault kind comps b at)
unfolding early_fault
early_told kind comps b at =
    let twice = broken 14 at (is_packed_twice kind (segment_at comps (drop at b))) in
    let out = broken 19 at (not (stands_in kind (segment_at comps (drop at b)))) in
    told_or (rule_at at (first_broken comps (drop at b))) (option_or twice out) (told_rule at (first_broken comps (drop at b)))
    (told_or twice out (told_broken 14 at (is_packed_twice kind (segment_at comps (drop at b)))) (told_broken 19 at (not (stands_in kind (segment_at comps (drop at b))))))

segment_told : (kind : HeaderKind) (comps : ℕ) (b : List ℕ) (before : List Segment) (at : ℕ) → AllTold (segment_fault kind comps b before at)
unfolding segment_fault
segment_told kind comps b before at =
    told_or (early_fault kind comps b at) (broken 18 at (is_second before (segment_at comps (drop at b)))) (early_told kind comps b at) (told_broken 18 at (is_second before (segment_at comps (drop at b))))

start_told : (comps : ℕ) (b : List ℕ) (at : ℕ) → AllTold (start_fault comps b at)
unfolding start_fault
start_told comps b at =
    told_or (broken 23 at (not (marker_at b at SOT || marker_at b at EOC))) (rule_at at (first_broken comps (drop at b))) (told_broken 23 at (not (marker_at b at SOT || marker_at b at EOC)))
    (told_rule at (first_broken comps (drop at b)))

sot_told : (tiles : ℕ) (b : List ℕ) (at : ℕ) (sot : Sot) (out : Bool) → AllTold (sot_fault tiles b at sot out)
unfolding sot_fault
sot_told tiles b at sot out =
    told_or (option_or (broken 20 at (nat_le tiles sot.tile)) (broken 21 at out)) (broken 22 at (has_wrong_length b at sot))
    (told_or (broken 20 at (nat_le tiles sot.tile)) (broken 21 at out) (told_broken 20 at (nat_le tiles sot.tile)) (told_broken 21 at out)) (told_broken 22 at (has_wrong_length b at sot))

sod_told : (b : List ℕ) (at : ℕ) (sot : Sot) (sod : ℕ) → AllTold (sod_fault b at sot sod)
unfolding sod_fault
sod_told b at sot sod =
    told_cond (sot.psot == 0) (broken 23 (length b - 2) (not (marker_at b (length b - 2) EOC) || nat_lt (length b - 2) (sod + 2))) (broken 22 at (nat_lt (at + sot.psot) (sod + 2)))
    (told_broken 23 (length b - 2) (not (marker_at b (length b - 2) EOC) || nat_lt (length b - 2) (sod + 2))) (told_broken 22 at (nat_lt (at + sot.psot) (sod + 2)))

shares_told : (b : List ℕ) (packed : List PackedSegment) (parts : List PlacedPart) → AllTold (shares_fault b packed parts)
shares_told b [] parts = tt
shares_told b (p ∷ ps) parts = told_broken 37 p.place (not (shares_fit b (data_in_order (p ∷ ps)) parts))

entries_told : (o : Option Tile) → AllTold (rule_9_of o)
entries_told None = tt
entries_told (Some tile) = tt

planes_told : (o : Option ℕ) → AllTold (limit_4_of o)
planes_told None = tt
planes_told (Some planes) = let few : 4 < 7 = omega arith in few

pub first_told : (b : List ℕ) (f : StreamFault) → IsFirst b f → IsTold f
first_told b f (inl x) = told_at _ f (front_told b) x
first_told b f (inr (inl x)) = told_at _ f (tiles_told x.siz) x.first
first_told b f (inr (inr (inl x))) = told_at _ f (segment_told _ _ _ _ _) x.first
first_told b f (inr (inr (inr (inl x)))) = told_at _ f (told_broken _ _ _) x.first
first_told b f (inr (inr (inr (inr (inl x))))) = told_at _ f (start_told _ _ _) x.first
first_told b f (inr (inr (inr (inr (inr (inl x)))))) = told_at _ f (sot_told _ _ _ _ _) x.first
first_told b f (inr (inr (inr (inr (inr (inr (inl x))))))) = told_at _ f (segment_told _ _ _ _ _) x.first
first_told b f (inr (inr (inr (inr (inr (inr (inr (inl x)))))))) = told_at _ f (sod_told _ _ _ _) x.first
first_told b f (inr (inr (inr (inr (inr (inr (inr (inr (inl x))))))))) = told_at _ f (told_broken _ _ _) x.first
first_told b f (inr (inr (inr (inr (inr (inr (inr (inr (inr (inl x)))))))))) =
    told_at _ f (shares_told b (main_packed x.siz x.main) (placed (length x.siz.comps) (first_sot x.siz x.main) x.parts)) x.first
first_told b f (inr (inr (inr (inr (inr (inr (inr (inr (inr (inr (inl x))))))))))) = told_at _ f (entries_told _) x.first
first_told b f (inr (inr (inr (inr (inr (inr (inr (inr (inr (inr (inr x))))))))))) = told_at _ f (planes_told _) x.first

-- ---- tile data
sop_told : (w : List ℕ) (at number : ℕ) (f : StreamFault) → sop_fault w at number ≡ Some f → IsTold f
unfolding sop_fault
sop_told w at number f e =
    told_at (option_or (broken 26 at (has_sop w && nat_lt (length w) 6)) (broken 29 at (has_sop w && (not (number_at w 2 == 4) || not (number_at w 4 == number % 65536))))) f
    (told_or (broken 26 at (has_sop w && nat_lt (length w) 6)) (broken 29 at (has_sop w && (not (number_at w 2 == 4) || not (number_at w 4 == number % 65536))))
    (told_broken 26 at (has_sop w && nat_lt (length w) 6)) (told_broken 29 at (has_sop w && (not (number_at w 2 == 4) || not (number_at w 4 == number % 65536))))) e

mark_told : (at : ℕ) (o : Option ℕ) → AllTold (rule_30 at o)
mark_told at None = tt
mark_told at (Some i) = tt

marks_told : (at : ℕ) (bytes : List ℕ) (parts : List HeaderPart) → AllTold (marks_fault at bytes parts)
marks_told at bytes [] = tt
marks_told at bytes (p ∷ parts) =
    told_or (rule_30 at (first_mark (take p.length bytes))) (marks_fault (at + p.length) (drop p.length bytes) parts) (mark_told at (first_mark (take p.length bytes)))
    (marks_told (at + p.length) (drop p.length bytes) parts)

eph_told : (packed : Option (List ℕ)) (at used : ℕ) → AllTold (eph_fault packed at used)
eph_told None at used = tt
eph_told (Some packed) at used = told_broken 26 at (is_eph_cut (drop used packed))

body_told : (packed : Option (List ℕ)) (w : List ℕ) (at used : ℕ) (parts : List HeaderPart) (f : StreamFault) → body_fault packed w at used parts ≡ Some f → IsTold f
unfolding body_fault
body_told packed w at used parts f e =
    let n : ℕ = front_length packed w used in
    let long = broken 28 at (nat_lt (length w) (n + parts_length parts)) in
    let marks = marks_fault (at + n) (drop n w) parts in
    told_at (option_or (eph_fault packed at used) (option_or long marks)) f
    (told_or (eph_fault packed at used) (option_or long marks) (eph_told packed at used)
    (told_or long marks (told_broken 28 at (nat_lt (length w) (n + parts_length parts))) (marks_told (at + n) (drop n w) parts))) e

breaks_told : (packed : Option (List ℕ)) (w : List ℕ) (at number : ℕ) (k : State) (f : StreamFault) → Breaks packed w at number k f → IsTold f
breaks_told packed w at number k f (inl sop) = sop_told w at number f sop
breaks_told packed w at number k f (inr (none, inl (inl planes))) = told_is f 27 at planes.1
breaks_told packed w at number k f (inr (none, inl (inr bits))) = told_is f 26 at bits.2
breaks_told packed w at number k f (inr (none, inr body)) = body_told packed w at body.used body.parts f body.body

data_told : (bodies : List Body) → AllTold (data_fault bodies)
data_told [] = tt
data_told (body ∷ later) = tt

packed_told : (pieces : List Body) (packed : Option (List ℕ)) → AllTold (packed_fault pieces packed)
packed_told pieces None = tt
packed_told pieces (Some []) = tt
packed_told pieces (Some (byte ∷ rest)) = tt

stops_told : (b : List ℕ) (g : Geometry) (pieces : List Body) (number : ℕ) (left : Left) (rest : List PacketName) (f : StreamFault) → Stops b g pieces number left rest f → IsTold f
stops_told b g pieces number left [] f over =
    told_at (left_fault pieces left) f (told_or (data_fault (due left.bodies)) (packed_fault pieces left.packed) (data_told (due left.bodies)) (packed_told pieces left.packed)) over
stops_told b g pieces number left (p ∷ rest) f breaks = breaks_told _ _ _ _ _ f breaks.breaks

totals_told : (s : Stream) (f : StreamFault) → totals_fault s ≡ Some f → IsTold f
unfolding totals_fault
totals_told s f e =
    let five : 5 < 7 = omega arith in
    let six : 6 < 7 = omega arith in
    told_at (option_or (passed 5 (block_total s) (nat_lt (most_blocks) (block_total s))) (passed 6 (packet_total s) (nat_lt (2 ^ 22) (packet_total s)))) f
    (told_or (passed 5 (block_total s) (nat_lt (most_blocks) (block_total s))) (passed 6 (packet_total s) (nat_lt (2 ^ 22) (packet_total s)))
    (told_cond (nat_lt (most_blocks) (block_total s)) (Some (fault.Limit 5 (block_total s))) None five tt)
    (told_cond (nat_lt (2 ^ 22) (packet_total s)) (Some (fault.Limit 6 (packet_total s))) None six tt)) e

pub broken_told : (b : List ℕ) (s : Stream) (f : StreamFault) → IsBroken b s f → IsTold f
broken_told b s f (inl totals) = totals_told s f totals
broken_told b s f (inr (none, inl uncovered)) = told_is f 25 _ uncovered.fault_is
broken_told b s f (inr (none, inr breaks)) =
    stops_told b (geometry s breaks.tile) (head_pieces s breaks.tile) (length breaks.breaks.cuts) breaks.breaks.left breaks.breaks.rest f breaks.breaks.stops

pub stop_told : (input : List ℕ) (f : StreamFault) → IsFirst input f ⊎ BreaksTiles input f → IsTold f
stop_told input f (inl first) = first_told input f first
stop_told input f (inr breaks) = broken_told input breaks.stream f breaks.broken
