-- Packets that were written one after another are cut off as they were written, in whatever order and tile-parts they stand.
use Rattle.std.proofs.Common.{◌≡◌, ℕ, suc, ◌+◌, ◌-◌, ◌<◌, ◌≤◌, ◌==◌, Bool, true, false, List, [], ◌∷◌, ◌++◌, length, take, drop, set, refl, sym, ap, ◌∙◌, subst, cond, arith, Option, None, Some, append_assoc, length-append}
use Rattle.std.specs.Prelude.{slice_get}
use Rattle.std.specs.Option.{option_or}
use Rattle.std.proofs.lemmas.Bool.Decides.{nat_tests}
use Rattle.std.proofs.lemmas.List.{drop-drop, drop-take}
use Rattle.std.proofs.Math.Seq.{drop-append_seam}
use Rattle.jx_geom.specs.Geometry.{Geometry}
use Rattle.jx_packet_header.specs.Packet.{State}
use Rattle.jx_progression.specs.declared.names.PacketName.{PacketName}
use Rattle.jx_progression.specs.Packets.{IsPacketName}
use Rattle.jx_progression.specs.Steps.{name_of}
use Rattle.jx_codestream.specs.declared.Body.{Body}
use Rattle.jx_codestream.specs.declared.Stream.{Stream}
use Rattle.jx_codestream.specs.Shapes.{geometry, layers_of, tile_at}
use Rattle.jx_tier2_reader.specs.Fresh.{fresh_precinct, fresh_precincts}
use Rattle.jx_geom.specs.Precincts.{HasPrecinct}
use Rattle.jx_tier2_reader.specs.Data.{window, due, due_or, behind, packed_behind, packed_in, begins_with}
use Rattle.jx_tier2_reader.specs.Cuts.{Cut, Left, IsCut, IsTurn, AreCuts, data_fault, names_of, number_of, packed_fault}
use Rattle.jx_tile.specs.Covered.{IsListOf}
use Rattle.jx_tier2_reader.specs.Gathered.{IsCutUp, head_pieces, start}
use Rattle.jx_tier2_reader.specs.Written.{WrittenPacket, Packets, packet_bytes, sop_bytes, next_layer, IsWritten, AreWritten, bytes_from, AreFilled, IsLaid, cut_at, cuts_at, packets_in}
use Rattle.jx_tier2_reader.proofs.FrontLemmas.{StartsClear, header_starts, header_no_mark, cut_stands, packet_size, packet_some}
use Rattle.jx_tier2_reader.proofs.TurnLemmas.{Precincts, Listed, Turned, start_turned, own_turned, other_turned, each_precinct, has_precinct, due_named, layer_is, layer_after}
use Rattle.jx_base.proofs.Lists.{push_on}
use Rattle.jx_marker.specs.Codes.{EPH, eph_spelling}

-- ---- bytes
-- what follows a packet is no EPH
pub after_packet : (c : Bool) (number : ℕ) (h tail : List ℕ) → StartsClear h → begins_with (cond c (sop_bytes number) [] ++ (h ++ tail)) EPH ≡ false
after_packet true number h tail s = refl
after_packet false number h tail s = header_no_mark h tail EPH s (omega arith)

packets_start : (ps : Packets) (number : ℕ) (list : List PacketName) → ((q : PacketName) (more : List PacketName) → list ≡ q ∷ more → IsWritten ps q) → begins_with (bytes_from ps number list) EPH ≡ false
packets_start ps number [] written = refl
packets_start ps number (q ∷ list) written =
    let x : WrittenPacket = ps.written q in
    let is : IsWritten ps q = written q list refl in
    let tail : List ℕ = cond x.eph eph_spelling [] ++ x.bytes in
    let rest : List ℕ = bytes_from ps (number + 1) list in
    let a : List ℕ = cond x.sop (sop_bytes number) [] in
    let whole : packet_bytes number x ++ rest ≡ a ++ (x.header ++ (tail ++ rest)) =
    append_assoc a (x.header ++ tail) rest ∙ ap (λ (l : List ℕ). a ++ l) (append_assoc x.header tail rest) in
    ap (λ (l : List ℕ). begins_with l EPH) whole
    ∙ after_packet x.sop number x.header (tail ++ rest) (header_starts x.header (ps.before q) x.parts (ps.before (next_layer q)) is.header)

-- the data of a tile-part behind a packet
pub window_behind : (b : List ℕ) (body : Body) (xs rest : List ℕ) → window b body ≡ xs ++ rest → length xs ≤ body.length → window b (behind body (length xs)) ≡ rest
window_behind b body xs rest is few =
    let n : ℕ = length xs in
    let less : n + (body.length - n) ≡ body.length = omega arith in
    ap (take (body.length - n)) (sym (drop-drop n body.at b)) ∙ sym (drop-take n (body.length - n) (drop body.at b))
    ∙ ap (λ (m : ℕ). drop n (take m (drop body.at b))) less ∙ ap (drop n) is ∙ drop-append_seam xs rest

pub due_none : (body : Body) (bodies : List Body) → body.length ≡ 0 → due (body ∷ bodies) ≡ due bodies
due_none body bodies e = let test : (body.length == 0) ≡ true = grind (arith, nat_tests) in ap (λ (c : Bool). cond c (due bodies) (body ∷ bodies)) test

pub due_some : (body : Body) (bodies : List Body) → 0 < body.length → due (body ∷ bodies) ≡ body ∷ bodies
due_some body bodies h = let test : (body.length == 0) ≡ false = grind (arith, nat_tests) in ap (λ (c : Bool). cond c (due bodies) (body ∷ bodies)) test

-- ---- the state of a precinct is that which its own packets lead to
record Held (g : Geometry) (ps : Packets) (layers : ℕ) (done : List PacketName) (states : List State) (c r k : ℕ) : Type 0 where
  pub state : State
  pub turned : Turned g layers done states c r k state
  pub led : state ≡ ps.before (name_of state.layer r c k)

abbrev Stands : Stream → ℕ → Packets → List PacketName → List State → Type 0
Stands s t ps done states = (c r k : ℕ) → HasPrecinct (geometry s t) c r k → Held (geometry s t) ps (layers_of s t) done states c r k

-- what a tile is laid out by
record Layed (s : Stream) (t : ℕ) (ps : Packets) (list : List PacketName) : Type 0 where
  pub places : Precincts s (geometry s t)
  pub listed : Listed (geometry s t) (layers_of s t) list
  pub written : AreWritten s t ps

start_stands : (s : Stream) (t : ℕ) (ps : Packets) (list : List PacketName) → Layed s t ps list → Stands s t ps [] (fresh_precincts s (geometry s t))
start_stands s t ps list l c r k has = record {
  state = fresh_precinct s (geometry s t) c r k;
  turned = start_turned s t (layers_of s t) c r k l.places has;
  led = sym (l.written.first c r k has);
}

-- the packet that is due
record Due (s : Stream) (t : ℕ) (ps : Packets) (states : List State) (p : PacketName) : Type 0 where
  pub named : IsPacketName (geometry s t) (layers_of s t) p
  pub own : HasPrecinct (geometry s t) p.comp p.res p.precinct
  pub is : IsWritten ps p
  pub known : slice_get states (number_of (geometry s t) p) ≡ Some (ps.before p)
  pub layer : (ps.before p).layer ≡ p.layer

due_is : (s : Stream) (t : ℕ) (ps : Packets) (list done rest : List PacketName) (p : PacketName) (states : List State) → Layed s t ps list → list ≡ done ++ (p ∷ rest)
    → Stands s t ps done states → Due s t ps states p
due_is s t ps list done rest p states l e st =
    let g : Geometry = geometry s t in
    let layers : ℕ = layers_of s t in
    let named : IsPacketName g layers p = due_named g layers list done rest p l.listed e in
    let own : HasPrecinct g p.comp p.res p.precinct = has_precinct g layers p named in
    let h : Held g ps layers done states p.comp p.res p.precinct = st p.comp p.res p.precinct own in
    let layer : h.state.layer ≡ p.layer = layer_is g layers list done rest p states h.state l.listed e h.turned in
    let state : h.state ≡ ps.before p = h.led ∙ ap (λ (n : ℕ). ps.before (name_of n p.res p.comp p.precinct)) layer in
    record {
      named = named;
      own = own;
      is = l.written.each p named;
      known = h.turned.known ∙ ap (λ (x : State). Some x) state;
      layer = sym (ap (λ (x : State). x.layer) state) ∙ layer;
    }

-- its turn
abbrev next_left : Geometry → Packets → PacketName → Left → Body → List Body → Left
next_left g ps p old body later = record {
  bodies = behind body (cut_at ps p).count ∷ later;
  end = old.end;
  packed = packed_behind old.packed (cut_at ps p).used;
  states = set old.states (number_of g p) (ps.before (next_layer p));
}

turn_made : (b : List ℕ) (s : Stream) (t : ℕ) (ps : Packets) (p : PacketName) (number : ℕ) (old : Left) (body : Body) (later : List Body) (rest : List ℕ) → Due s t ps old.states p
    → old.packed ≡ None → due old.bodies ≡ body ∷ later → window b body ≡ packet_bytes number (ps.written p) ++ rest → begins_with rest EPH ≡ false
    → IsTurn b (geometry s t) number old (cut_at ps p) (next_left (geometry s t) ps p old body later)
turn_made b s t ps p number old body later rest d in_place first is none = record {
  body = body;
  later = later;
  due_is = ap (due_or old.end) first;
  state = ps.before p;
  known = d.known;
  cut = subst (λ (x : Option (List ℕ)). IsCut x (window b body) number (ps.before p) (cut_at ps p)) (sym in_place)
      (subst (λ (w : List ℕ). IsCut None w number (ps.before p) (cut_at ps p)) (sym is)
      (cut_stands number p (ps.written p) (ps.before p) (ps.before (next_layer p)) rest d.is.header d.is.long d.is.clear none));
  new_is = refl;
}

-- and what stands afterwards
own_held : (b : List ℕ) (s : Stream) (t : ℕ) (ps : Packets) (list done rest : List PacketName) (p : PacketName) (number : ℕ) (old new : Left) → Layed s t ps list → list ≡ done ++ (p ∷ rest)
    → Stands s t ps done old.states → Due s t ps old.states p → IsTurn b (geometry s t) number old (cut_at ps p) new
    → Held (geometry s t) ps (layers_of s t) (done ++ p ∷ []) new.states p.comp p.res p.precinct
own_held b s t ps list done rest p number old new l e st d turn =
    let g : Geometry = geometry s t in
    let layers : ℕ = layers_of s t in
    let was : Held g ps layers done old.states p.comp p.res p.precinct = st p.comp p.res p.precinct d.own in
    let after : State = ps.before (next_layer p) in
    let layer : after.layer ≡ (ps.before p).layer + 1 = layer_after ((ps.written p).header ++ []) (ps.before p) (ps.written p).parts (length (ps.written p).header) after (d.is.header []) in
    let next : p.layer + 1 ≡ after.layer = (let at = d.layer in omega arith) in
    record {
      state = after;
      turned = own_turned b g layers list done rest number old (cut_at ps p) new was.state l.listed e was.turned turn;
      led = ap (λ (n : ℕ). ps.before (name_of n p.res p.comp p.precinct)) next;
    }

all_held : (b : List ℕ) (s : Stream) (t : ℕ) (ps : Packets) (list done rest : List PacketName) (p : PacketName) (number : ℕ) (old new : Left) → Layed s t ps list → list ≡ done ++ (p ∷ rest)
    → Stands s t ps done old.states → Due s t ps old.states p → IsTurn b (geometry s t) number old (cut_at ps p) new → Stands s t ps (done ++ p ∷ []) new.states
all_held b s t ps list done rest p number old new l e st d turn =
    let g : Geometry = geometry s t in
    let layers : ℕ = layers_of s t in
    each_precinct s g layers p (λ c r k. Held g ps layers (done ++ p ∷ []) new.states c r k) l.places d.named
    (own_held b s t ps list done rest p number old new l e st d turn)
    (λ c r k has other. (let was = st c r k has in record {
      state = was.state;
      turned = other_turned b g layers done number old (cut_at ps p) new c r k was.state other turn was.turned;
      led = was.led;
    }))

-- ---- packets one after another
record Ends (b : List ℕ) (g : Geometry) (number : ℕ) (old : Left) (cuts : List Cut) : Type 0 where
  pub end : Left
  pub are : AreCuts b g number old cuts end
  pub none : due end.bodies ≡ []
  pub in_place : end.packed ≡ None

abbrev Fills : List ℕ → Stream → ℕ → Packets → List PacketName → List (List PacketName) → Type 0
Fills b s t ps list groups =
    (number : ℕ) (bodies : List Body) (done : List PacketName) (old : Left) → old.packed ≡ None → due old.bodies ≡ due bodies → AreFilled b ps number bodies groups → list ≡ done ++ packets_in groups
    → Stands s t ps done old.states → Ends b (geometry s t) number old (cuts_at ps (packets_in groups))

fills_none : (b : List ℕ) (s : Stream) (t : ℕ) (ps : Packets) (list : List PacketName) → Fills b s t ps list []
fills_none b s t ps list number [] done old in_place first filled e st = record { end = old; are = refl; none = first; in_place = in_place }
fills_none b s t ps list number (body ∷ bodies) done old in_place first filled e st = absurd filled

fills_part : (b : List ℕ) (s : Stream) (t : ℕ) (ps : Packets) (list : List PacketName) (names : List PacketName) (groups : List (List PacketName)) → Layed s t ps list → Fills b s t ps list groups
    → Fills b s t ps list (names ∷ groups)
fills_part b s t ps list names groups l again number [] done old in_place first filled e st = absurd filled
fills_part b s t ps list [] groups l again number (body ∷ bodies) done old in_place first filled e st =
    let same : number + 0 ≡ number = omega arith in
    again number bodies done old in_place (first ∙ due_none body bodies filled.1) (subst (λ (n : ℕ). AreFilled b ps n bodies groups) same filled.2) e st
fills_part b s t ps list (p ∷ names) groups l again number (body ∷ bodies) done old in_place first filled e st =
    let g : Geometry = geometry s t in
    let later : List PacketName = names ++ packets_in groups in
    let d : Due s t ps old.states p = due_is s t ps list done later p old.states l e st in
    let x : WrittenPacket = ps.written p in
    let rest : List ℕ = bytes_from ps (number + 1) names in
    let count : ℕ = (cut_at ps p).count in
    let size : length (packet_bytes number x) ≡ count = packet_size number 0 x in
    let some : 0 < length (packet_bytes number x) = packet_some number x (header_starts x.header (ps.before p) x.parts (ps.before (next_layer p)) d.is.header) in
    let long : body.length ≡ length (packet_bytes number x) + length rest = filled.1 ∙ length-append (packet_bytes number x) rest in
    let stand : due old.bodies ≡ body ∷ bodies = first ∙ due_some body bodies (omega arith) in
    let on : list ≡ (done ++ p ∷ []) ++ later = e ∙ sym (push_on done later p) in
    let more : begins_with rest EPH ≡ false = packets_start ps (number + 1) names
    (λ q others is. (let f : list ≡ (done ++ p ∷ []) ++ (q ∷ (others ++ packets_in groups)) = on ∙ ap (λ (ns : List PacketName). (done ++ p ∷ []) ++ (ns ++ packets_in groups)) is in
    l.written.each q (due_named g (layers_of s t) list (done ++ p ∷ []) (others ++ packets_in groups) q l.listed f))) in
    let next : Left = next_left g ps p old body bodies in
    let turn : IsTurn b g number old (cut_at ps p) next = turn_made b s t ps p number old body bodies rest d in_place stand filled.0 more in
    let left : window b (behind body count) ≡ rest =
    subst (λ (n : ℕ). window b (behind body n) ≡ rest) size (window_behind b body (packet_bytes number x) rest filled.0 (omega arith)) in
    let short : body.length - count ≡ length rest = omega arith in
    let same : number + suc (length names) ≡ number + 1 + length names = omega arith in
    let still : Stands s t ps (done ++ p ∷ []) next.states = all_held b s t ps list done later p number old next l e st d turn in
    let end : Ends b g (number + 1) next (cuts_at ps later) =
    fills_part b s t ps list names groups l again (number + 1) (behind body count ∷ bodies) (done ++ p ∷ []) next (ap (λ (x : Option (List ℕ)). packed_behind x (cut_at ps p).used) in_place) refl
    (left, short, subst (λ (n : ℕ). AreFilled b ps n bodies groups) same filled.2) on still in
    record { end = end.end; are = (next, turn, end.are); none = end.none; in_place = end.in_place }

fills : (b : List ℕ) (s : Stream) (t : ℕ) (ps : Packets) (list : List PacketName) (groups : List (List PacketName)) → Layed s t ps list → Fills b s t ps list groups
fills b s t ps list [] l = fills_none b s t ps list
fills b s t ps list (names ∷ groups) l = fills_part b s t ps list names groups l (fills b s t ps list groups l)

-- ---- a tile
pub names_at : (ps : Packets) (list : List PacketName) → names_of (cuts_at ps list) ≡ list
names_at ps [] = refl
names_at ps (p ∷ list) = ap (λ (xs : List PacketName). p ∷ xs) (names_at ps list)

pub cut_up : (b : List ℕ) (s : Stream) (t : ℕ) (ps : Packets) (groups : List (List PacketName)) → Precincts s (geometry s t)
    → Listed (geometry s t) (layers_of s t) (packets_in groups) → IsLaid b s t ps groups → IsCutUp b s t (cuts_at ps (packets_in groups))
cut_up b s t ps groups places listed laid =
    let l : Layed s t ps (packets_in groups) = record { places = places; listed = listed; written = laid.written } in
    let ends = fills b s t ps (packets_in groups) groups l 0 (tile_at s t).bodies [] (start b s t) (ap (packed_in b) laid.in_place) refl laid.filled refl (start_stands s t ps (packets_in groups) l) in
    record {
      order = subst (IsListOf s t) (sym (names_at ps (packets_in groups))) laid.order;
      end = ends.end;
      are = ends.are;
      none_left = ap (λ (xs : List Body). option_or (data_fault xs) (packed_fault (head_pieces s t) ends.end.packed)) ends.none
          ∙ ap (packed_fault (head_pieces s t)) ends.in_place;
    }
