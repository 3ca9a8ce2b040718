-- Packets in their turn: when a packet is due, its precinct's state is at its layer.
use Rattle.std.proofs.Common.{◌≡◌, ℕ, ◌+◌, ◌<◌, ◌≤◌, List, [], ◌∷◌, ◌++◌, ◌-◌, Option, None, Some, inl, inr, ◌∙◌, ap, sym, subst, refl, arith, length, set, take, drop, append-nil, length-drop, length-take}
use Rattle.std.specs.Prelude.{◌↔◌, slice_get}
use Rattle.std.specs.List.{AllPairs, Contains}
use Rattle.std.proofs.lemmas.Bool.{cases_lt, cases_eq}
use Rattle.std.proofs.lemmas.List.Elements.{Contains-append_left, Contains-append_right, Contains-append_cases, Contains-push, Contains-push_cases}
use Rattle.jx_geom.specs.Geometry.{Geometry}
use Rattle.jx_packet_header.specs.declared.HeaderPart.{HeaderPart}
use Rattle.jx_packet_header.specs.Packet.{State, IsPacket}
use Rattle.jx_packet_header.specs.Precinct.{IsState, all_blocks}
use Rattle.jx_progression.specs.declared.names.PacketName.{PacketName}
use Rattle.jx_progression.specs.Packets.{IsPacketName, SamePrecinct, LayersRise, IsCovered}
use Rattle.jx_progression.specs.Steps.{name_of}
use Rattle.jx_progression.proofs.OrderLemmas.{order_to, order_from}
use Rattle.jx_progression.proofs.RiseLemmas.{order_rises}
use Rattle.jx_codestream.specs.declared.Body.{Body}
use Rattle.jx_codestream.specs.declared.Stream.{Stream}
use Rattle.jx_codestream.specs.Shapes.{geometry, layers_of, tile_at, style_of}
use Rattle.jx_tier2_reader.specs.Fresh.{fresh_precinct, fresh_precincts}
use Rattle.jx_geom.specs.Precincts.{HasPrecinct, precinct_number}
use Rattle.jx_tier2_reader.specs.Data.{window, eph_length, header_in, packed_behind, sop_length}
use Rattle.jx_tier2_reader.specs.Cuts.{Cut, Left, IsTurn, AreCuts, names_of, number_of}
use Rattle.jx_tile.specs.Covered.{IsListOf, IsWhole}
use Rattle.jx_tier2_reader.specs.Gathered.{start}
use Rattle.jx_base.proofs.Lists.{contains_cons, contains_head, contains_none, pairs_head, pairs_across, pairs_back, push_on, get-set_other}
use Rattle.jx_tier2_reader.proofs.TrackLemmas.{here_after as after_there}

-- ---- what is cited of a tile's precincts and of their states
pub record Precincts (s : Stream) (g : Geometry) : Type 0 where
  pub there : (c r k : ℕ) → HasPrecinct g c r k → slice_get (fresh_precincts s g) (precinct_number g c r k) ≡ Some (fresh_precinct s g c r k)
  pub once : (c r k d q m : ℕ) → HasPrecinct g c r k → HasPrecinct g d q m → precinct_number g c r k ≡ precinct_number g d q m → (c ≡ d) × (r ≡ q) × (k ≡ m)
  pub states : (c r k : ℕ) → HasPrecinct g c r k → IsState (fresh_precinct s g c r k)

pub record StateKept (k after : State) : Type 0 where
  pub is : IsState after
  pub style : after.style ≡ k.style
  pub blocks : length (all_blocks after.bands) ≡ length (all_blocks k.bands)

-- headers that stand in bytes of which there are at most as many as in a file
pub record Keeps (b : List ℕ) : Type 0 where
  pub kept : (h : List ℕ) (k : State) (parts : List HeaderPart) (used : ℕ) (after : State) → length h ≤ length b → IsState k → IsPacket h k parts used after → StateKept k after

-- ---- a tile's list
pub record Listed (g : Geometry) (layers : ℕ) (list : List PacketName) : Type 0 where
  pub every : (p : PacketName) → Contains list p ↔ IsPacketName g layers p
  pub rise : LayersRise list

pub listed : (s : Stream) (t : ℕ) (list : List PacketName) → IsListOf s t list → IsWhole s t → Listed (geometry s t) (layers_of s t) list
listed s t list order whole =
    let entries = (tile_at s t).progressions in
    let from : (p : PacketName) → Contains list p → IsPacketName (geometry s t) (layers_of s t) p = λ p c.
    (let sent = order_to (geometry s t) (layers_of s t) entries (length entries) list order p c in
    sent.packet) in
    let to : (p : PacketName) → IsPacketName (geometry s t) (layers_of s t) p → Contains list p = λ p is.
    (let covered : IsCovered entries p = whole p is in
    order_from (geometry s t) (layers_of s t) entries (length entries) list order p
    (record { packet = is; entry = covered.0; below = covered.1; covers = covered.2 })) in
    record { every = λ p. (from p, to p); rise = order_rises (geometry s t) (layers_of s t) entries (length entries) list order }

-- ---- the layer of a precinct, where these packets were read
pub record Turned (g : Geometry) (layers : ℕ) (done : List PacketName) (states : List State) (c r k : ℕ) (state : State) : Type 0 where
  pub known : slice_get states (precinct_number g c r k) ≡ Some state
  pub layers_are : (l : ℕ) → l < layers → (l < state.layer) ↔ Contains done (name_of l r c k)

pub start_turned : (s : Stream) (t layers c r k : ℕ) → Precincts s (geometry s t) → HasPrecinct (geometry s t) c r k
    → Turned (geometry s t) layers [] (fresh_precincts s (geometry s t)) c r k (fresh_precinct s (geometry s t) c r k)
start_turned s t layers c r k p has = record {
  known = p.there c r k has;
  layers_are = λ l lt. (λ h. absurd (omega (arith, h)), λ h. absurd (contains_none (name_of l r c k) h));
}

-- ---- and what else is known of it
pub record Known (s : Stream) (g : Geometry) (layers : ℕ) (done : List PacketName) (states : List State) (c r k : ℕ) : Type 0 where
  pub state : State
  pub turned : Turned g layers done states c r k state
  pub is : IsState state
  pub style : state.style ≡ style_of s g.tile c
  pub blocks : length (all_blocks state.bands) ≡ length (all_blocks (fresh_precinct s g c r k).bands)

abbrev pub AllKnown : Stream → Geometry → ℕ → List PacketName → List State → Type 0
AllKnown s g layers done states = (c r k : ℕ) → HasPrecinct g c r k → Known s g layers done states c r k

pub start_known : (s : Stream) (t layers : ℕ) → Precincts s (geometry s t) → AllKnown s (geometry s t) layers [] (fresh_precincts s (geometry s t))
start_known s t layers p c r k has = record {
  state = fresh_precinct s (geometry s t) c r k;
  turned = start_turned s t layers c r k p has;
  is = p.states c r k has;
  style = refl;
  blocks = refl;
}

-- ---- a packet that is due
pub has_precinct : (g : Geometry) (layers : ℕ) (p : PacketName) → IsPacketName g layers p → HasPrecinct g p.comp p.res p.precinct
has_precinct g layers p is = record { resolution = is.resolution; precinct = is.precinct }

pub due_named : (g : Geometry) (layers : ℕ) (list done rest : List PacketName) (p : PacketName) → Listed g layers list → list ≡ done ++ (p ∷ rest) → IsPacketName g layers p
due_named g layers list done rest p h e =
    let P : List PacketName → Type 0 = λ xs. Contains xs p in
    (h.every p).0 (subst P (sym e) (Contains-append_right done (p ∷ rest) p (contains_head p rest)))

-- a lower layer was read before
pub lower_done : (g : Geometry) (layers : ℕ) (list done rest : List PacketName) (p : PacketName) (l : ℕ) → Listed g layers list → list ≡ done ++ (p ∷ rest)
    → l < p.layer → Contains done (name_of l p.res p.comp p.precinct)
lower_done g layers list done rest p l h e lt =
    let is = due_named g layers list done rest p h e in
    let q : PacketName = name_of l p.res p.comp p.precinct in
    let named : IsPacketName g layers q = record { layer = omega (arith, is.layer); resolution = is.resolution; precinct = is.precinct } in
    let C : List PacketName → Type 0 = λ xs. Contains xs q in
    let R : PacketName → PacketName → Type 0 = λ a b. (SamePrecinct a b → a.layer < b.layer) in
    let A : List PacketName → Type 0 = λ xs. AllPairs R xs in
    let rises : AllPairs R (p ∷ rest) = pairs_back R done (p ∷ rest) (subst A e h.rise) in
    elim (Contains-append_cases done (p ∷ rest) q (subst C e ((h.every q).1 named))) [
      | inl old ↦ old
      | inr new ↦ elim (contains_cons p rest q new) [
        | inl same ↦
            let layer : p.layer ≡ l = ap (λ (w : PacketName). w.layer) same in
            absurd (omega arith)
        | inr later ↦
            let up : p.layer < l = pairs_head R p rest q rises later (record { comp = refl; res = refl; precinct = refl }) in
            absurd (omega arith)
      ]
    ]

-- and the packet's own was not
pub own_new : (g : Geometry) (layers : ℕ) (list done rest : List PacketName) (p : PacketName) → Listed g layers list → list ≡ done ++ (p ∷ rest) → Contains done p → ⊥
own_new g layers list done rest p h e c =
    let R : PacketName → PacketName → Type 0 = λ a b. (SamePrecinct a b → a.layer < b.layer) in
    let A : List PacketName → Type 0 = λ xs. AllPairs R xs in
    let up : p.layer < p.layer =
    pairs_across R done (p ∷ rest) p p (subst A e h.rise) c (contains_head p rest) (record { comp = refl; res = refl; precinct = refl }) in
    omega arith

pub layer_is : (g : Geometry) (layers : ℕ) (list done rest : List PacketName) (p : PacketName) (states : List State) (state : State) → Listed g layers list
    → list ≡ done ++ (p ∷ rest) → Turned g layers done states p.comp p.res p.precinct state → state.layer ≡ p.layer
layer_is g layers list done rest p states state h e k =
    let is = due_named g layers list done rest p h e in
    elim (cases_lt state.layer p.layer) [
      | inl lt ↦
          let below : state.layer < state.layer =
          (k.layers_are state.layer (omega (arith, is.layer))).1 (lower_done g layers list done rest p state.layer h e lt) in
          absurd (omega arith)
      | inr le ↦ elim (cases_lt p.layer state.layer) [
        | inl gt ↦ absurd (own_new g layers list done rest p h e ((k.layers_are p.layer is.layer).0 gt))
        | inr ge ↦ omega arith
      ]
    ]

-- ---- one turn
-- packed headers of which at most as many bytes are left as a file has
abbrev pub AreFew : List ℕ → Option (List ℕ) → Type 0
AreFew b None = Unit {0}
AreFew b (Some packed) = length packed ≤ length b

pub header_few : (b : List ℕ) (packed : Option (List ℕ)) (body : Body) → AreFew b packed → length (header_in packed (window b body)) ≤ length b
unfolding header_in
header_few b None body few =
    let h : length (drop (sop_length (window b body)) (window b body)) ≤ length (window b body) = (let e = length-drop (sop_length (window b body)) (window b body) in omega arith) in
    let d : length (drop body.at b) ≤ length b = (let e = length-drop body.at b in omega arith) in
    let t : length (take body.length (drop body.at b)) ≤ length (drop body.at b) = (let e = length-take body.length (drop body.at b) in omega arith) in
    omega arith
header_few b (Some packed) body few = few

few_behind : (b : List ℕ) (packed : Option (List ℕ)) (used : ℕ) → AreFew b packed → AreFew b (packed_behind packed used)
few_behind b None used few = tt
few_behind b (Some packed) used few =
    let n : ℕ = used + eph_length (drop used packed) in
    let e : length (drop n packed) ≡ length packed - n = length-drop n packed in
    let was : length packed ≤ length b = few in
    omega arith

pub few_after : (b : List ℕ) (g : Geometry) (number : ℕ) (old : Left) (c : Cut) (new : Left) → IsTurn b g number old c new → AreFew b old.packed → AreFew b new.packed
few_after b g number old c new t few = subst (AreFew b) (sym (ap (λ (l : Left). l.packed) t.new_is)) (few_behind b old.packed c.used few)

pub layer_after : (h : List ℕ) (k : State) (parts : List HeaderPart) (used : ℕ) (after : State) → IsPacket h k parts used after → after.layer ≡ k.layer + 1
layer_after h k parts used after p = ap (λ (x : State). x.layer) p.after_is

same_state : (k m : State) → Some k ≡ Some m → k ≡ m
same_state k m e = cc

-- the turn's state is the one that is known
pub turn_state : (b : List ℕ) (g : Geometry) (layers : ℕ) (done : List PacketName) (number : ℕ) (old : Left) (c : Cut) (new : Left) (state : State)
    → Turned g layers done old.states c.name.comp c.name.res c.name.precinct state → (t : IsTurn b g number old c new) → state ≡ t.state
turn_state b g layers done number old c new state k t = same_state state t.state (sym k.known ∙ t.known)

pub own_turned : (b : List ℕ) (g : Geometry) (layers : ℕ) (list done rest : List PacketName) (number : ℕ) (old : Left) (c : Cut) (new : Left) (state : State) → Listed g layers list
    → list ≡ done ++ (c.name ∷ rest) → Turned g layers done old.states c.name.comp c.name.res c.name.precinct state → IsTurn b g number old c new
    → Turned g layers (done ++ c.name ∷ []) new.states c.name.comp c.name.res c.name.precinct c.after
own_turned b g layers list done rest number old c new state h e k t =
    let p : PacketName = c.name in
    let layer : c.after.layer ≡ t.state.layer + 1 = layer_after (header_in old.packed (window b t.body)) t.state c.parts c.used c.after t.cut.header in
    let same : state ≡ t.state = turn_state b g layers done number old c new state k t in
    let at : state.layer ≡ p.layer = layer_is g layers list done rest p old.states state h e k in
    let next : c.after.layer ≡ p.layer + 1 = (let l : state.layer ≡ t.state.layer = ap (λ (x : State). x.layer) same in omega arith) in
    record {
      known = after_there b g number old c new t;
      layers_are = λ l lt. (
        λ less. elim (cases_lt l p.layer) [
          | inl below ↦
              let was : l < state.layer = omega arith in
              Contains-append_left done (p ∷ []) (name_of l p.res p.comp p.precinct) ((k.layers_are l lt).0 was)
          | inr ge ↦
              let is : p.layer ≡ l = omega arith in
              let C : ℕ → Type 0 = λ m. Contains (done ++ p ∷ []) (name_of m p.res p.comp p.precinct) in
              subst C is (Contains-push done p)
        ],
        λ has. elim (Contains-push_cases done p (name_of l p.res p.comp p.precinct) has) [
          | inl old_one ↦ (let was : l < state.layer = (k.layers_are l lt).1 old_one in omega arith)
          | inr new_one ↦ (let is : p.layer ≡ l = ap (λ (w : PacketName). w.layer) new_one in omega arith)
        ],
      );
    }

own_known : (b : List ℕ) (s : Stream) (g : Geometry) (layers : ℕ) (list done rest : List PacketName) (number : ℕ) (old : Left) (c : Cut) (new : Left) → Keeps b → Listed g layers list
    → list ≡ done ++ (c.name ∷ rest) → Known s g layers done old.states c.name.comp c.name.res c.name.precinct → AreFew b old.packed → IsTurn b g number old c new
    → Known s g layers (done ++ c.name ∷ []) new.states c.name.comp c.name.res c.name.precinct
own_known b s g layers list done rest number old c new keeps h e k few t =
    let same : k.state ≡ t.state = turn_state b g layers done number old c new k.state k.turned t in
    let kept = keeps.kept (header_in old.packed (window b t.body)) t.state c.parts c.used c.after (header_few b old.packed t.body few)
    (let I : State → Type 0 = λ x. IsState x in subst I same k.is) t.cut.header in
    record {
      state = c.after;
      turned = own_turned b g layers list done rest number old c new k.state h e k.turned t;
      is = kept.is;
      style = kept.style ∙ sym (ap (λ (x : State). x.style) same) ∙ k.style;
      blocks = kept.blocks ∙ sym (ap (λ (x : State). length (all_blocks x.bands)) same) ∙ k.blocks;
    }

-- and that of another
pub other_turned : (b : List ℕ) (g : Geometry) (layers : ℕ) (done : List PacketName) (number : ℕ) (old : Left) (c : Cut) (new : Left) (e r k : ℕ) (state : State)
    → (number_of g c.name ≡ precinct_number g e r k → ⊥) → IsTurn b g number old c new → Turned g layers done old.states e r k state
    → Turned g layers (done ++ c.name ∷ []) new.states e r k state
other_turned b g layers done number old c new e r k state other t was =
    let p : PacketName = c.name in
    let states : new.states ≡ set old.states (number_of g p) c.after = ap (λ (x : Left). x.states) t.new_is in
    record {
      known = ap (λ (xs : List State). slice_get xs (precinct_number g e r k)) states
          ∙ get-set_other old.states (number_of g p) (precinct_number g e r k) c.after (λ (x : precinct_number g e r k ≡ number_of g p). other (sym x)) ∙ was.known;
      layers_are = λ l lt. (
        λ less. Contains-append_left done (p ∷ []) (name_of l r e k) ((was.layers_are l lt).0 less),
        λ has. elim (Contains-push_cases done p (name_of l r e k) has) [
          | inl old_one ↦ (was.layers_are l lt).1 old_one
          | inr new_one ↦ absurd (other (ap (number_of g) new_one))
        ],
      );
    }

-- what holds of the packet's own precinct and of each other holds of all
pub each_precinct : (s : Stream) (g : Geometry) (layers : ℕ) (p : PacketName) (P : ℕ → ℕ → ℕ → Type 0) → Precincts s g → IsPacketName g layers p
    → P p.comp p.res p.precinct → ((d r k : ℕ) → HasPrecinct g d r k → (number_of g p ≡ precinct_number g d r k → ⊥) → P d r k)
    → (d r k : ℕ) → HasPrecinct g d r k → P d r k
each_precinct s g layers p P places is here others d r k has = elim (cases_eq (number_of g p) (precinct_number g d r k)) [
  | inl same ↦
      let one = places.once p.comp p.res p.precinct d r k (has_precinct g layers p is) has same in
      let A : ℕ → Type 0 = λ x. P x p.res p.precinct in
      let B : ℕ → Type 0 = λ x. P d x p.precinct in
      let C : ℕ → Type 0 = λ x. P d r x in
      subst C one.2 (subst B one.1 (subst A one.0 here))
  | inr other ↦ others d r k has other
]

pub turn_known : (b : List ℕ) (s : Stream) (g : Geometry) (layers : ℕ) (list done rest : List PacketName) (number : ℕ) (old : Left) (c : Cut) (new : Left)
    → Precincts s g → Keeps b → Listed g layers list → list ≡ done ++ (c.name ∷ rest)
    → AllKnown s g layers done old.states → AreFew b old.packed → IsTurn b g number old c new → AllKnown s g layers (done ++ c.name ∷ []) new.states
turn_known b s g layers list done rest number old c new places keeps h e all few t =
    let p : PacketName = c.name in
    let is : IsPacketName g layers p = due_named g layers list done rest p h e in
    each_precinct s g layers p (λ d r k. Known s g layers (done ++ p ∷ []) new.states d r k) places is
    (own_known b s g layers list done rest number old c new keeps h e (all p.comp p.res p.precinct (has_precinct g layers p is)) few t)
    (λ d r k has other. (let was = all d r k has in record {
      state = was.state;
      turned = other_turned b g layers done number old c new d r k was.state other t was.turned;
      is = was.is;
      style = was.style;
      blocks = was.blocks;
    }))

-- ---- packets one after another
pub cuts_known : (b : List ℕ) (s : Stream) (g : Geometry) (layers : ℕ) (list done : List PacketName) (cuts : List Cut) (rest : List PacketName) (number : ℕ) (old new : Left)
    → Precincts s g → Keeps b → Listed g layers list → list ≡ done ++ (names_of cuts ++ rest)
    → AllKnown s g layers done old.states → AreFew b old.packed → AreCuts b g number old cuts new → AllKnown s g layers (done ++ names_of cuts) new.states
cuts_known b s g layers list done [] rest number old new places keeps h e all few are =
    let P : List PacketName → Type 0 = λ xs. AllKnown s g layers xs new.states in
    let Q : Left → Type 0 = λ x. AllKnown s g layers done x.states in
    subst P (sym (append-nil done)) (subst Q are all)
cuts_known b s g layers list done (c ∷ cuts) rest number old new places keeps h e all few are =
    let P : List PacketName → Type 0 = λ xs. AllKnown s g layers xs new.states in
    let next : AllKnown s g layers (done ++ c.name ∷ []) are.0.states =
    turn_known b s g layers list done (names_of cuts ++ rest) number old c are.0 places keeps h e all few are.1 in
    subst P (push_on done (names_of cuts) c.name)
    (cuts_known b s g layers list (done ++ c.name ∷ []) cuts rest (number + 1) are.0 new places keeps h
    (e ∙ sym (push_on done (names_of cuts ++ rest) c.name)) next (few_after b g number old c are.0 are.1 few) are.2)

pub known_there : (b : List ℕ) (s : Stream) (t : ℕ) (list : List PacketName) (cuts : List Cut) (rest : List PacketName) (left : Left)
    → Precincts s (geometry s t) → Keeps b → Listed (geometry s t) (layers_of s t) list → list ≡ names_of cuts ++ rest
    → AreFew b (start b s t).packed → AreCuts b (geometry s t) 0 (start b s t) cuts left → AllKnown s (geometry s t) (layers_of s t) (names_of cuts) left.states
known_there b s t list cuts rest left places keeps h e few are =
    cuts_known b s (geometry s t) (layers_of s t) list [] cuts rest 0 (start b s t) left places keeps h e (start_known s t (layers_of s t) places) few are

pub in_turn : (b : List ℕ) (s : Stream) (t : ℕ) (list : List PacketName) (cuts : List Cut) (p : PacketName) (rest : List PacketName) (left : Left) (state : State)
    → Precincts s (geometry s t) → Keeps b → Listed (geometry s t) (layers_of s t) list → list ≡ names_of cuts ++ (p ∷ rest)
    → AreFew b (start b s t).packed → AreCuts b (geometry s t) 0 (start b s t) cuts left → slice_get left.states (number_of (geometry s t) p) ≡ Some state → state.layer ≡ p.layer
in_turn b s t list cuts p rest left state places keeps h e few are found =
    let all = known_there b s t list cuts (p ∷ rest) left places keeps h e few are in
    let own = has_precinct (geometry s t) (layers_of s t) p (due_named (geometry s t) (layers_of s t) list (names_of cuts) rest p h e) in
    let k = all p.comp p.res p.precinct own in
    let same : k.state ≡ state = same_state k.state state (sym k.turned.known ∙ found) in
    sym (ap (λ (x : State). x.layer) same) ∙ layer_is (geometry s t) (layers_of s t) list (names_of cuts) rest p left.states k.state h e k.turned

-- ---- each turn with what is known of its precinct's state before it
pub record InTurn (b : List ℕ) (s : Stream) (g : Geometry) (number : ℕ) (old : Left) (c : Cut) (new : Left) : Type 0 where
  pub turn : IsTurn b g number old c new
  pub precinct : HasPrecinct g c.name.comp c.name.res c.name.precinct
  pub layer : turn.state.layer ≡ c.name.layer
  pub is : IsState turn.state
  pub style : turn.state.style ≡ style_of s g.tile c.name.comp
  pub blocks : length (all_blocks turn.state.bands) ≡ length (all_blocks (fresh_precinct s g c.name.comp c.name.res c.name.precinct).bands)

abbrev pub AreInTurn : List ℕ → Stream → Geometry → ℕ → Left → List Cut → Left → Type 0
AreInTurn b s g number old [] new = old ≡ new
AreInTurn b s g number old (c ∷ cuts) new = (next : Left) × InTurn b s g number old c next × AreInTurn b s g (number + 1) next cuts new

pub turn_in : (b : List ℕ) (s : Stream) (g : Geometry) (layers : ℕ) (list done rest : List PacketName) (number : ℕ) (old : Left) (c : Cut) (new : Left)
    → Listed g layers list → list ≡ done ++ (c.name ∷ rest) → AllKnown s g layers done old.states → IsTurn b g number old c new → InTurn b s g number old c new
turn_in b s g layers list done rest number old c new h e all t =
    let own = has_precinct g layers c.name (due_named g layers list done rest c.name h e) in
    let k = all c.name.comp c.name.res c.name.precinct own in
    let same : k.state ≡ t.state = turn_state b g layers done number old c new k.state k.turned t in
    let I : State → Type 0 = λ x. IsState x in
    record {
      turn = t;
      precinct = own;
      layer = sym (ap (λ (x : State). x.layer) same) ∙ layer_is g layers list done rest c.name old.states k.state h e k.turned;
      is = subst I same k.is;
      style = sym (ap (λ (x : State). x.style) same) ∙ k.style;
      blocks = sym (ap (λ (x : State). length (all_blocks x.bands)) same) ∙ k.blocks;
    }

pub cuts_in : (b : List ℕ) (s : Stream) (g : Geometry) (layers : ℕ) (list done : List PacketName) (cuts : List Cut) (rest : List PacketName) (number : ℕ) (old new : Left)
    → Precincts s g → Keeps b → Listed g layers list → list ≡ done ++ (names_of cuts ++ rest)
    → AllKnown s g layers done old.states → AreFew b old.packed → AreCuts b g number old cuts new → AreInTurn b s g number old cuts new
cuts_in b s g layers list done [] rest number old new places keeps h e all few are = are
cuts_in b s g layers list done (c ∷ cuts) rest number old new places keeps h e all few are = (
  are.0,
  turn_in b s g layers list done (names_of cuts ++ rest) number old c are.0 h e all are.1,
  cuts_in b s g layers list (done ++ c.name ∷ []) cuts rest (number + 1) are.0 new places keeps h (e ∙ sym (push_on done (names_of cuts ++ rest) c.name))
      (turn_known b s g layers list done (names_of cuts ++ rest) number old c are.0 places keeps h e all few are.1) (few_after b g number old c are.0 are.1 few) are.2,
)

pub are_in_turn : (b : List ℕ) (s : Stream) (t : ℕ) (list : List PacketName) (cuts : List Cut) (rest : List PacketName) (left : Left)
    → Precincts s (geometry s t) → Keeps b → Listed (geometry s t) (layers_of s t) list → list ≡ names_of cuts ++ rest
    → AreFew b (start b s t).packed → AreCuts b (geometry s t) 0 (start b s t) cuts left → AreInTurn b s (geometry s t) 0 (start b s t) cuts left
are_in_turn b s t list cuts rest left places keeps h e few are =
    cuts_in b s (geometry s t) (layers_of s t) list [] cuts rest 0 (start b s t) left places keeps h e (start_known s t (layers_of s t) places) few are
