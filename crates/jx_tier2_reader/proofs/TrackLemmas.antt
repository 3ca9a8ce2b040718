-- A block over the packets of its tile.
use Rattle.std.proofs.Common.{◌≡◌, ℕ, ◌+◌, ◌-◌, ◌<◌, ◌≤◌, ◌==◌, min, Bool, true, false, List, [], ◌∷◌, ◌++◌, length, take, drop, set, sum_by, refl, sym, ap, ◌∙◌, subst, cond, arith, Some, inl, inr, ◌⊎◌, slice_get, length-take}
use Rattle.std.specs.List.{AllByRecursion}
use Rattle.std.proofs.lemmas.Bool.{cases_eq, eqb-true}
use Rattle.std.proofs.lemmas.List.Elements.{recursion_from_All, filter-append}
use Rattle.std.proofs.lemmas.List.Sums.{sum_by-cons}
use Rattle.std.proofs.lemmas.Option.{same_Some, slice_get_within}
use Rattle.jx_base.specs.Pieces.{bytes_in}
use Rattle.jx_geom.specs.Geometry.{Geometry, GeometryInRange}
use Rattle.jx_packet_header.specs.declared.HeaderPart.{HeaderPart}
use Rattle.jx_packet_header.specs.Packet.{State}
use Rattle.jx_packet_header.specs.Precinct.{all_blocks}
use Rattle.jx_progression.specs.declared.names.PacketName.{PacketName}
use Rattle.jx_codestream.specs.declared.Body.{Body}
use Rattle.jx_codestream.specs.declared.Stream.{Stream}
use Rattle.jx_codestream.specs.Shapes.{style_of}
use Rattle.jx_geom.specs.Precincts.{leaves}
use Rattle.jx_tier2_reader.specs.Fresh.{fresh_precinct, fresh_precincts}
use Rattle.jx_geom.specs.Precincts.{HasPrecinct, precinct_number, leaf_number}
use Rattle.jx_tier2_reader.specs.Data.{window, due, due_or, behind, header_in, front_length, parts_length}
use Rattle.jx_tier2_reader.specs.Cuts.{Cut, Left, IsTurn, AreCuts, number_of}
use Rattle.jx_tier2_reader.specs.Blocks.{FoundPiece, told_zero, founds_from, founds_in, founds_of, own_founds, pieces_in}
use Rattle.jx_tier2_reader.proofs.NumberLemmas.{precinct_there}
use Rattle.jx_geom.proofs.PrecinctLemmas.{precinct_once}
use Rattle.jx_tier2_reader.proofs.CellLemmas.{leaf_count}
use Rattle.jx_geom.proofs.LeafLemmas.{leaf_once}
use Rattle.jx_tier2_reader.proofs.PartLemmas.{own_parts, known_in, planes_of, Goes, PartIn, Kept, part_inside, packet_goes, packet_kept}
use Rattle.jx_tier2_reader.proofs.MarkLemmas.{body_fits, body_marks}
use Rattle.jx_tier2_reader.proofs.GrowLemmas.{Apart, Elsewhere, own_elsewhere, Grows, HaveTop, packet_grows, grows_lower, grows_join, bytes_join, bytes_from}
use Rattle.jx_base.proofs.Lists.{get-set_same, get-set_other}

-- ---- packets of precincts that are there, in layers that rise
abbrev pub AreThere : Geometry → List Cut → Type 0
AreThere g cuts = AllByRecursion (λ (c : Cut). HasPrecinct g c.name.comp c.name.res c.name.precinct) cuts

abbrev pub Rise : Geometry → List Cut → Type 0
Rise g [] = Unit {0}
Rise g (c ∷ cuts) = AllByRecursion (λ (d : Cut). number_of g c.name ≡ number_of g d.name → c.name.layer < d.name.layer) cuts × Rise g cuts

-- ---- the states of precincts
-- what stays of a state from before the first packet on
pub record Follows (s : Stream) (g : Geometry) (c r k : ℕ) (state : State) : Type 0 where
  pub style : state.style ≡ style_of s g.tile c
  pub count : length (all_blocks state.bands) ≡ leaves g c r k
  pub planes : (j : ℕ) → planes_of state.bands j ≡ planes_of (fresh_precinct s g c r k).bands j

pub record FollowsAt (s : Stream) (g : Geometry) (c r k : ℕ) (states : List State) : Type 0 where
  pub state : State
  pub known : slice_get states (precinct_number g c r k) ≡ Some state
  pub is : Follows s g c r k state

abbrev pub AllFollow : Stream → Geometry → List State → Type 0
AllFollow s g states = (c r k : ℕ) → HasPrecinct g c r k → FollowsAt s g c r k states

pub start_follow : (s : Stream) (g : Geometry) → AllFollow s g (fresh_precincts s g)
start_follow s g c r k there = record {
  state = fresh_precinct s g c r k;
  known = precinct_there s g c r k there;
  is = record { style = refl; count = leaf_count s g c r k; planes = λ j. refl };
}

pub follows_on : (s : Stream) (g : Geometry) (c r k : ℕ) (old after : State) → Kept after old → Follows s g c r k old → Follows s g c r k after
follows_on s g c r k old after kept f = record {
  style = kept.style ∙ f.style;
  count = kept.blocks ∙ f.count;
  planes = λ j. kept.planes j ∙ f.planes j;
}

-- the states after a turn
pub states_after : (b : List ℕ) (g : Geometry) (number : ℕ) (old : Left) (c : Cut) (new : Left) → IsTurn b g number old c new → new.states ≡ set old.states (number_of g c.name) c.after
states_after b g number old c new t = ap (λ (l : Left). l.states) t.new_is

pub here_after : (b : List ℕ) (g : Geometry) (number : ℕ) (old : Left) (c : Cut) (new : Left) → IsTurn b g number old c new → slice_get new.states (number_of g c.name) ≡ Some c.after
here_after b g number old c new t =
    ap (λ (l : List State). slice_get l (number_of g c.name)) (states_after b g number old c new t)
    ∙ get-set_same old.states (number_of g c.name) c.after (slice_get_within old.states (number_of g c.name) t.state t.known)

pub other_after : (b : List ℕ) (g : Geometry) (number : ℕ) (old : Left) (c : Cut) (new : Left) (i : ℕ) → IsTurn b g number old c new → (number_of g c.name ≡ i → ⊥) → slice_get new.states i ≡ slice_get old.states i
other_after b g number old c new i t ne =
    ap (λ (l : List State). slice_get l i) (states_after b g number old c new t)
    ∙ get-set_other old.states (number_of g c.name) i c.after (λ (e : i ≡ number_of g c.name). ne (sym e))

turn_kept : (b : List ℕ) (g : Geometry) (number : ℕ) (old : Left) (c : Cut) (new : Left) → (t : IsTurn b g number old c new) → Kept c.after t.state
turn_kept b g number old c new t = packet_kept (header_in old.packed (window b t.body)) t.state c.parts c.used c.after t.cut.header

pub turn_follows : (b : List ℕ) (s : Stream) (g : Geometry) (number : ℕ) (old : Left) (c : Cut) (new : Left) → AllFollow s g old.states → IsTurn b g number old c new → AllFollow s g new.states
turn_follows b s g number old c new all t d r k there = by (cases_eq (number_of g c.name) (precinct_number g d r k)) (all d r k there)
  where
    by : (number_of g c.name ≡ precinct_number g d r k) ⊎ (number_of g c.name ≡ precinct_number g d r k → ⊥) → FollowsAt s g d r k old.states → FollowsAt s g d r k new.states
    by (inl same) f =
        let was : f.state ≡ t.state = same_Some f.state t.state (sym f.known ∙ (subst (λ (i : ℕ). slice_get old.states i ≡ Some t.state) same t.known)) in
        record {
          state = c.after;
          known = subst (λ (i : ℕ). slice_get new.states i ≡ Some c.after) same (here_after b g number old c new t);
          is = follows_on s g d r k t.state c.after (turn_kept b g number old c new t) (subst (λ (x : State). Follows s g d r k x) was f.is);
        }
    by (inr ne) f = record { state = f.state; known = other_after b g number old c new (precinct_number g d r k) t ne ∙ f.known; is = f.is }

pub own_follows : (b : List ℕ) (s : Stream) (g : Geometry) (number : ℕ) (old : Left) (c : Cut) (new : Left) → AllFollow s g old.states → HasPrecinct g c.name.comp c.name.res c.name.precinct →
    (t : IsTurn b g number old c new) → Follows s g c.name.comp c.name.res c.name.precinct t.state
own_follows b s g number old c new all there t =
    let f = all c.name.comp c.name.res c.name.precinct there in
    subst (λ (x : State). Follows s g c.name.comp c.name.res c.name.precinct x) (same_Some f.state t.state (sym f.known ∙ t.known)) f.is

-- the blocks of its parts are there
abbrev pub AreInside : ℕ → List HeaderPart → Type 0
AreInside count parts = AllByRecursion (λ (q : HeaderPart). q.block < count) parts

pub inside_from : (count : ℕ) (parts : List HeaderPart) → AllByRecursion (PartIn count) parts → AreInside count parts
inside_from count [] all = tt
inside_from count (q ∷ parts) all = (all.0.inside, inside_from count parts all.1)

pub turn_inside : (b : List ℕ) (s : Stream) (g : Geometry) (number : ℕ) (old : Left) (c : Cut) (new : Left) → AllFollow s g old.states → HasPrecinct g c.name.comp c.name.res c.name.precinct →
    IsTurn b g number old c new → AreInside (leaves g c.name.comp c.name.res c.name.precinct) c.parts
turn_inside b s g number old c new all there t =
    let f = own_follows b s g number old c new all there t in
    subst (λ (n : ℕ). AreInside n c.parts) f.count
    (inside_from (length (all_blocks t.state.bands)) c.parts
    (recursion_from_All (PartIn (length (all_blocks t.state.bands))) c.parts (part_inside (header_in old.packed (window b t.body)) t.state c.parts c.used c.after t.cut.header)))

-- ---- the pieces of a turn
pub parts_apart : (g : Geometry) (p : PacketName) (j : ℕ) (parts : List HeaderPart) → GeometryInRange g → HasPrecinct g p.comp p.res p.precinct → j < leaves g p.comp p.res p.precinct →
    AreInside (leaves g p.comp p.res p.precinct) parts → Apart g p (leaf_number g p.comp p.res p.precinct j) j parts
parts_apart g p j [] h there lt all = tt
parts_apart g p j (q ∷ parts) h there lt all = (
  (λ (e : leaf_number g p.comp p.res p.precinct q.block ≡ leaf_number g p.comp p.res p.precinct j).
      (leaf_once g p.comp p.res p.precinct q.block p.comp p.res p.precinct j h there all.0 there lt e).3),
  parts_apart g p j parts h there lt all.1,
)

pub parts_elsewhere : (g : Geometry) (p : PacketName) (c r k j : ℕ) (parts : List HeaderPart) → GeometryInRange g → HasPrecinct g p.comp p.res p.precinct → HasPrecinct g c r k → j < leaves g c r k →
    (number_of g p ≡ precinct_number g c r k → ⊥) → AreInside (leaves g p.comp p.res p.precinct) parts → Elsewhere g p (leaf_number g c r k j) parts
parts_elsewhere g p c r k j [] h there has lt ne all = tt
parts_elsewhere g p c r k j (q ∷ parts) h there has lt ne all = (
  (λ (e : leaf_number g p.comp p.res p.precinct q.block ≡ leaf_number g c r k j).
      (let one = leaf_once g p.comp p.res p.precinct q.block c r k j h there all.0 has lt e in
      ne (ap (λ (x : ℕ). precinct_number g x p.res p.precinct) one.0 ∙ ap (λ (x : ℕ). precinct_number g c x p.precinct) one.1 ∙ ap (λ (x : ℕ). precinct_number g c r x) one.2))),
  parts_elsewhere g p c r k j parts h there has lt ne all.1,
)

turn_grows : (b : List ℕ) (s : Stream) (g : Geometry) (number j : ℕ) (old : Left) (c : Cut) (new : Left) → GeometryInRange g → AllFollow s g old.states →
    HasPrecinct g c.name.comp c.name.res c.name.precinct → j < leaves g c.name.comp c.name.res c.name.precinct → (t : IsTurn b g number old c new) →
    Grows (style_of s g.tile c.name.comp) (planes_of (fresh_precinct s g c.name.comp c.name.res c.name.precinct).bands j) c.name.layer
    (own_founds (leaf_number g c.name.comp c.name.res c.name.precinct j) (founds_in g c)) (known_in t.state.bands j) (known_in c.after.bands j)
    × HaveTop c.name.layer (own_founds (leaf_number g c.name.comp c.name.res c.name.precinct j) (founds_in g c))
turn_grows b s g number j old c new h all there lt t =
    let f = own_follows b s g number old c new all there t in
    let w : List ℕ = window b t.body in
    let p : PacketName = c.name in
    let style : ℕ = style_of s g.tile p.comp in
    let planes : ℕ = planes_of (fresh_precinct s g p.comp p.res p.precinct).bands j in
    let goes : Goes t.state.style (planes_of t.state.bands j) (own_parts j c.parts) (known_in t.state.bands j) (known_in c.after.bands j) =
    packet_goes (header_in old.packed w) t.state c.parts c.used c.after t.cut.header j (subst (λ (n : ℕ). j < n) (sym f.count) lt) in
    let styled : Goes style (planes_of t.state.bands j) (own_parts j c.parts) (known_in t.state.bands j) (known_in c.after.bands j) =
    subst (λ (n : ℕ). Goes n (planes_of t.state.bands j) (own_parts j c.parts) (known_in t.state.bands j) (known_in c.after.bands j)) f.style goes in
    let planed : Goes style planes (own_parts j c.parts) (known_in t.state.bands j) (known_in c.after.bands j) =
    subst (λ (n : ℕ). Goes style n (own_parts j c.parts) (known_in t.state.bands j) (known_in c.after.bands j)) (f.planes j) styled in
    let apart = parts_apart g p j c.parts h there lt (turn_inside b s g number old c new all there t) in
    let grows = packet_grows g p style planes j (0 + front_length old.packed w c.used) c.after (known_in t.state.bands j) (known_in c.after.bands j) (drop (front_length old.packed w c.used) w) c.parts apart
    (body_marks old.packed w 0 c.used c.parts t.cut.body) planed (λ (z : ℕ) (e : (known_in c.after.bands j).zero ≡ Some z). ap told_zero e) in
    subst (λ (l : List ℕ). Grows style planes p.layer (own_founds (leaf_number g p.comp p.res p.precinct j) (founds_from g p c.after l c.parts)) (known_in t.state.bands j) (known_in c.after.bands j)
    × HaveTop p.layer (own_founds (leaf_number g p.comp p.res p.precinct j) (founds_from g p c.after l c.parts)))
    (sym t.cut.bytes_are) grows

-- ---- packets one after another
pub founds_cons : (g : Geometry) (c : Cut) (cuts : List Cut) → founds_of g (c ∷ cuts) ≡ founds_in g c ++ founds_of g cuts
unfolding founds_of
founds_cons g c cuts = refl

pub founds_nil : (g : Geometry) → founds_of g [] ≡ []
unfolding founds_of
founds_nil g = refl

pub own_joined : (number : ℕ) (fs gs : List FoundPiece) → own_founds number (fs ++ gs) ≡ own_founds number fs ++ own_founds number gs
unfolding own_founds
own_joined number fs gs = filter-append (λ (f : FoundPiece). f.number == number) fs gs

pub own_cons : (number : ℕ) (g : Geometry) (c : Cut) (cuts : List Cut) → own_founds number (founds_of g (c ∷ cuts)) ≡ own_founds number (founds_in g c) ++ own_founds number (founds_of g cuts)
own_cons number g c cuts = ap (own_founds number) (founds_cons g c cuts) ∙ own_joined number (founds_in g c) (founds_of g cuts)

pub own_nil : (number : ℕ) (g : Geometry) → own_founds number (founds_of g []) ≡ []
unfolding own_founds founds_of
own_nil number g = refl

-- packets of a precinct are in this layer or above
abbrev pub AreAbove : Geometry → ℕ → ℕ → List Cut → Type 0
AreAbove g number layer cuts = AllByRecursion (λ (d : Cut). number_of g d.name ≡ number → layer ≤ d.name.layer) cuts

above_from : (g : Geometry) (p : PacketName) (number : ℕ) (cuts : List Cut) → number_of g p ≡ number →
    AllByRecursion (λ (d : Cut). number_of g p ≡ number_of g d.name → p.layer < d.name.layer) cuts → AreAbove g number p.layer cuts
above_from g p number [] same all = tt
above_from g p number (d ∷ cuts) same all =
    ((λ (e : number_of g d.name ≡ number). (let lt : p.layer < d.name.layer = all.0 (same ∙ sym e) in omega arith)), above_from g p number cuts same all.1)

pub record Tracked (s : Stream) (g : Geometry) (c r k j layer : ℕ) (founds : List FoundPiece) (state : State) (states : List State) : Type 0 where
  pub after : State
  pub known : slice_get states (precinct_number g c r k) ≡ Some after
  pub grows : Grows (style_of s g.tile c) (planes_of (fresh_precinct s g c r k).bands j) layer (own_founds (leaf_number g c r k j) founds) (known_in state.bands j) (known_in after.bands j)

-- a turn of this precinct
turn_here : (b : List ℕ) (s : Stream) (g : Geometry) (c r k j layer number : ℕ) (old : Left) (d : Cut) (next : Left) (founds : List FoundPiece) (state : State) (states : List State) → GeometryInRange g →
    AllFollow s g old.states → HasPrecinct g d.name.comp d.name.res d.name.precinct → d.name.comp ≡ c → d.name.res ≡ r → d.name.precinct ≡ k → j < leaves g c r k → layer ≤ d.name.layer →
    IsTurn b g number old d next → slice_get old.states (precinct_number g c r k) ≡ Some state → Tracked s g c r k j d.name.layer founds d.after states →
    Tracked s g c r k j layer (founds_in g d ++ founds) state states
turn_here b s g c r k j layer number old d next founds state states h all there ec er ek lt le t found later =
    subst (λ (x : ℕ). At x r k → Tracked s g x r k j layer (founds_in g d ++ founds) state states) ec
    (subst (λ (y : ℕ). At d.name.comp y k → Tracked s g d.name.comp y k j layer (founds_in g d ++ founds) state states) er
    (subst (λ (z : ℕ). At d.name.comp d.name.res z → Tracked s g d.name.comp d.name.res z j layer (founds_in g d ++ founds) state states) ek own))
    (lt, found, later)
  where
    At : ℕ → ℕ → ℕ → Type 0
    At x y z = (j < leaves g x y z) × (slice_get old.states (precinct_number g x y z) ≡ Some state) × Tracked s g x y z j d.name.layer founds d.after states

    own : At d.name.comp d.name.res d.name.precinct → Tracked s g d.name.comp d.name.res d.name.precinct j layer (founds_in g d ++ founds) state states
    own a =
        let p : PacketName = d.name in
        let leaf : ℕ = leaf_number g p.comp p.res p.precinct j in
        let style : ℕ = style_of s g.tile p.comp in
        let planes : ℕ = planes_of (fresh_precinct s g p.comp p.res p.precinct).bands j in
        let same : t.state ≡ state = same_Some t.state state (sym t.known ∙ a.1) in
        let grown = turn_grows b s g number j old d next h all there a.0 t in
        let first : Grows style planes layer (own_founds leaf (founds_in g d)) (known_in state.bands j) (known_in d.after.bands j) =
        subst (λ (x : State). Grows style planes layer (own_founds leaf (founds_in g d)) (known_in x.bands j) (known_in d.after.bands j)) same
        (grows_lower style planes layer p.layer (own_founds leaf (founds_in g d)) (known_in t.state.bands j) (known_in d.after.bands j) le grown.0) in
        record {
          after = a.2.after;
          known = a.2.known;
          grows = subst (λ (l : List FoundPiece). Grows style planes layer l (known_in state.bands j) (known_in a.2.after.bands j)) (sym (own_joined leaf (founds_in g d) founds))
              (grows_join style planes layer p.layer (own_founds leaf (founds_in g d)) (own_founds leaf founds) (known_in state.bands j) (known_in d.after.bands j) (known_in a.2.after.bands j) le grown.1 first a.2.grows);
        }

-- a turn of another precinct
turn_other : (b : List ℕ) (s : Stream) (g : Geometry) (c r k j layer number : ℕ) (old : Left) (d : Cut) (next : Left) (founds : List FoundPiece) (state : State) (states : List State) → GeometryInRange g →
    AllFollow s g old.states → HasPrecinct g d.name.comp d.name.res d.name.precinct → HasPrecinct g c r k → (number_of g d.name ≡ precinct_number g c r k → ⊥) → j < leaves g c r k →
    IsTurn b g number old d next → Tracked s g c r k j layer founds state states → Tracked s g c r k j layer (founds_in g d ++ founds) state states
turn_other b s g c r k j layer number old d next founds state states h all there has ne lt t later =
    let leaf : ℕ = leaf_number g c r k j in
    let none : own_founds leaf (founds_in g d) ≡ [] =
    own_elsewhere g d.name d.after leaf d.bytes d.parts (parts_elsewhere g d.name c r k j d.parts h there has lt ne (turn_inside b s g number old d next all there t)) in
    let own : own_founds leaf founds ≡ own_founds leaf (founds_in g d ++ founds) = sym (own_joined leaf (founds_in g d) founds ∙ ap (λ (l : List FoundPiece). l ++ own_founds leaf founds) none) in
    record {
      after = later.after;
      known = later.known;
      grows = subst (λ (l : List FoundPiece). Grows (style_of s g.tile c) (planes_of (fresh_precinct s g c r k).bands j) layer l (known_in state.bands j) (known_in later.after.bands j)) own later.grows;
    }

pub track : (b : List ℕ) (s : Stream) (g : Geometry) (c r k j layer number : ℕ) (cuts : List Cut) (old new : Left) (state : State) → GeometryInRange g → HasPrecinct g c r k → j < leaves g c r k →
    AreThere g cuts → Rise g cuts → AllFollow s g old.states → AreAbove g (precinct_number g c r k) layer cuts → AreCuts b g number old cuts new →
    slice_get old.states (precinct_number g c r k) ≡ Some state → Tracked s g c r k j layer (founds_of g cuts) state new.states
track b s g c r k j layer number [] old new state h has lt there rise all above are found = record {
  after = state;
  known = subst (λ (l : Left). slice_get l.states (precinct_number g c r k) ≡ Some state) are found;
  grows = inl (own_nil (leaf_number g c r k j) g, refl);
}
track b s g c r k j layer number (d ∷ cuts) old new state h has lt there rise all above are found =
    subst (λ (l : List FoundPiece). Tracked s g c r k j layer l state new.states) (sym (founds_cons g d cuts))
    (by (cases_eq (number_of g d.name) (precinct_number g c r k))
    (λ (m : ℕ) (k' : State) (a : AreAbove g (precinct_number g c r k) m cuts) (e : slice_get are.0.states (precinct_number g c r k) ≡ Some k').
    track b s g c r k j m (number + 1) cuts are.0 new k' h has lt there.1 rise.1 (turn_follows b s g number old d are.0 all are.1) a are.2 e))
  where
    Again : Type 0
    Again = (m : ℕ) (k' : State) → AreAbove g (precinct_number g c r k) m cuts → slice_get are.0.states (precinct_number g c r k) ≡ Some k' → Tracked s g c r k j m (founds_of g cuts) k' new.states

    by : (number_of g d.name ≡ precinct_number g c r k) ⊎ (number_of g d.name ≡ precinct_number g c r k → ⊥) → Again → Tracked s g c r k j layer (founds_in g d ++ founds_of g cuts) state new.states
    by (inl same) again =
        let one = precinct_once g d.name.comp d.name.res d.name.precinct c r k there.0 has same in
        let from : slice_get are.0.states (precinct_number g c r k) ≡ Some d.after = subst (λ (i : ℕ). slice_get are.0.states i ≡ Some d.after) same (here_after b g number old d are.0 are.1) in
        turn_here b s g c r k j layer number old d are.0 (founds_of g cuts) state new.states h all there.0 one.0 one.1 one.2 lt (above.0 same) are.1 found
        (again d.name.layer d.after (above_from g d.name (precinct_number g c r k) cuts same rise.0) from)
    by (inr ne) again =
        turn_other b s g c r k j layer number old d are.0 (founds_of g cuts) state new.states h all there.0 has ne lt are.1
        (again layer state above.1 (other_after b g number old d are.0 (precinct_number g c r k) are.1 ne ∙ found))

-- ---- each piece is one of a precinct's block
pub record FromLeaf (g : Geometry) (f : FoundPiece) : Type 0 where
  pub comp : ℕ
  pub res : ℕ
  pub precinct : ℕ
  pub block : ℕ
  pub there : HasPrecinct g comp res precinct
  pub inside : block < leaves g comp res precinct
  pub number : leaf_number g comp res precinct block ≡ f.number

abbrev pub AreFromLeaves : Geometry → List FoundPiece → Type 0
AreFromLeaves g founds = AllByRecursion (FromLeaf g) founds

leaves_joined : (g : Geometry) (fs gs : List FoundPiece) → AreFromLeaves g fs → AreFromLeaves g gs → AreFromLeaves g (fs ++ gs)
leaves_joined g [] gs a b = b
leaves_joined g (f ∷ fs) gs a b = (a.0, leaves_joined g fs gs a.1 b)

leaves_from : (g : Geometry) (p : PacketName) (k : State) (bytes : List ℕ) (parts : List HeaderPart) → HasPrecinct g p.comp p.res p.precinct → AreInside (leaves g p.comp p.res p.precinct) parts →
    AreFromLeaves g (founds_from g p k bytes parts)
leaves_from g p k bytes [] there all = tt
leaves_from g p k bytes (q ∷ parts) there all =
    (record { comp = p.comp; res = p.res; precinct = p.precinct; block = q.block; there = there; inside = all.0; number = refl }, leaves_from g p k (drop q.length bytes) parts there all.1)

pub founds_leaves : (b : List ℕ) (s : Stream) (g : Geometry) (number : ℕ) (cuts : List Cut) (old new : Left) → AreThere g cuts → AllFollow s g old.states → AreCuts b g number old cuts new → AreFromLeaves g (founds_of g cuts)
founds_leaves b s g number [] old new there all are = subst (λ (l : List FoundPiece). AreFromLeaves g l) (sym (founds_nil g)) tt
founds_leaves b s g number (c ∷ cuts) old new there all are =
    subst (λ (l : List FoundPiece). AreFromLeaves g l) (sym (founds_cons g c cuts))
    (leaves_joined g (founds_in g c) (founds_of g cuts) (leaves_from g c.name c.after c.bytes c.parts there.0 (turn_inside b s g number old c are.0 all there.0 are.1))
    (founds_leaves b s g (number + 1) cuts are.0 new there.1 (turn_follows b s g number old c are.0 all are.1) are.2))

-- ---- no byte is in two pieces
abbrev pub together : List Body → ℕ
together bodies = sum_by (λ (body : Body). body.length) bodies

together_cons : (body : Body) (later : List Body) → together (body ∷ later) ≡ body.length + together later
together_cons body later = sum_by-cons (λ (x : Body). x.length) body later

due_together : (bodies : List Body) → together (due bodies) ≡ together bodies
due_together [] = refl
due_together (body ∷ later) = by (body.length == 0) refl (due_together later)
  where
    by : (b : Bool) → (body.length == 0) ≡ b → together (due later) ≡ together later → together (cond b (due later) (body ∷ later)) ≡ together (body ∷ later)
    by true e again =
        let none : body.length ≡ 0 = eqb-true body.length 0 e in
        let c : together (body ∷ later) ≡ body.length + together later = together_cons body later in
        omega arith
    by false e again = refl

due_or_together : (at : ℕ) (bodies : List Body) → together (due_or at bodies) ≡ together bodies
due_or_together at [] = together_cons (record { at = at; length = 0 }) []
due_or_together at (body ∷ later) = refl

turn_takes : (b : List ℕ) (g : Geometry) (number : ℕ) (old : Left) (c : Cut) (new : Left) → IsTurn b g number old c new → bytes_in (pieces_in (founds_in g c)) + together new.bodies ≤ together old.bodies
turn_takes b g number old c new t =
    let from : bytes_in (pieces_in (founds_from g c.name c.after c.bytes c.parts)) ≤ length c.bytes = bytes_from g c.name c.after c.bytes c.parts in
    let bytes : length c.bytes ≡ length (take (parts_length c.parts) (drop (front_length old.packed (window b t.body) c.used) (window b t.body))) = ap length t.cut.bytes_are in
    let short : length (take (parts_length c.parts) (drop (front_length old.packed (window b t.body) c.used) (window b t.body))) ≡ min (parts_length c.parts) (length (drop (front_length old.packed (window b t.body) c.used) (window b t.body))) =
    length-take (parts_length c.parts) (drop (front_length old.packed (window b t.body) c.used) (window b t.body)) in
    let fits : front_length old.packed (window b t.body) c.used + parts_length c.parts ≤ length (window b t.body) = body_fits old.packed (window b t.body) 0 c.used c.parts t.cut.body in
    let wide : length (take t.body.length (drop t.body.at b)) ≡ min t.body.length (length (drop t.body.at b)) = length-take t.body.length (drop t.body.at b) in
    let count : c.count ≡ front_length old.packed (window b t.body) c.used + parts_length c.parts = t.cut.count_is in
    let before : together old.bodies ≡ t.body.length + together t.later = sym (due_together old.bodies) ∙ sym (due_or_together old.end (due old.bodies)) ∙ ap together t.due_is ∙ together_cons t.body t.later in
    let after : together new.bodies ≡ (t.body.length - c.count) + together t.later = ap (λ (l : Left). together l.bodies) t.new_is ∙ together_cons (behind t.body c.count) t.later in
    omega arith

pub cuts_take : (b : List ℕ) (g : Geometry) (number : ℕ) (cuts : List Cut) (old new : Left) → AreCuts b g number old cuts new → bytes_in (pieces_in (founds_of g cuts)) ≤ together old.bodies
cuts_take b g number [] old new are = let e : bytes_in (pieces_in (founds_of g [])) ≡ 0 = ap (λ (l : List FoundPiece). bytes_in (pieces_in l)) (founds_nil g) in omega arith
cuts_take b g number (c ∷ cuts) old new are =
    let here : bytes_in (pieces_in (founds_in g c)) + together are.0.bodies ≤ together old.bodies = turn_takes b g number old c are.0 are.1 in
    let later : bytes_in (pieces_in (founds_of g cuts)) ≤ together are.0.bodies = cuts_take b g (number + 1) cuts are.0 new are.2 in
    let sum : bytes_in (pieces_in (founds_of g (c ∷ cuts))) ≡ bytes_in (pieces_in (founds_in g c)) + bytes_in (pieces_in (founds_of g cuts)) =
    ap (λ (l : List FoundPiece). bytes_in (pieces_in l)) (founds_cons g c cuts) ∙ bytes_join (founds_in g c) (founds_of g cuts) in
    omega arith
