-- How many passes of a block lie in one layer, and in which layers its pieces lie.
use Rattle.std.proofs.Common.{◌≡◌, ℕ, ◌+◌, ◌<◌, ◌≤◌, List, [], ◌∷◌, ◌++◌, drop, sym, ap, ◌∙◌, subst, arith, inl, inr}
use Rattle.std.specs.List.{AllByRecursion, Contains}
use Rattle.std.proofs.lemmas.Bool.{cases_eq}
use Rattle.std.proofs.lemmas.List.{map-append}
use Rattle.jx_base.specs.Pieces.{PieceValue, passes_at}
use Rattle.jx_base.proofs.Lists.{contains_head, contains_tail}
use Rattle.jx_geom.specs.Geometry.{Geometry, GeometryInRange}
use Rattle.jx_packet_header.specs.Packet.{State}
use Rattle.jx_packet_header.specs.declared.HeaderPart.{HeaderPart}
use Rattle.jx_packet_header.specs.Written.{passes_of}
use Rattle.jx_progression.specs.declared.names.PacketName.{PacketName}
use Rattle.jx_codestream.specs.declared.Stream.{Stream}
use Rattle.jx_geom.specs.Precincts.{leaves}
use Rattle.jx_geom.specs.Precincts.{HasPrecinct, precinct_number, leaf_number}
use Rattle.jx_tier2_reader.specs.Data.{window, header_in}
use Rattle.jx_tier2_reader.specs.Cuts.{Cut, Left, IsTurn, AreCuts, names_of, number_of}
use Rattle.jx_tier2_reader.specs.Blocks.{FoundPiece, founds_from, founds_in, founds_of, own_founds, pieces_in}
use Rattle.jx_geom.proofs.PrecinctLemmas.{precinct_once}
use Rattle.jx_tier2_reader.proofs.PartLemmas.{own_parts}
use Rattle.jx_tier2_reader.proofs.GrowLemmas.{own_elsewhere}
use Rattle.jx_tier2_reader.proofs.FewLemmas.{packet_few, founds_few, founds_layer, passes_join, passes_none, own_here, own_past, own_nothing}
use Rattle.jx_tier2_reader.proofs.TrackLemmas.{AreThere, Rise, AllFollow, turn_follows, turn_inside, parts_apart, parts_elsewhere, own_nil, own_cons}

-- ---- passes in one layer
abbrev pub in_layer : ℕ → ℕ → List FoundPiece → ℕ
in_layer layer number founds = passes_at layer (pieces_in (own_founds number founds))

in_layer_cons : (layer number : ℕ) (g : Geometry) (c : Cut) (cuts : List Cut)
    → in_layer layer number (founds_of g (c ∷ cuts)) ≡ in_layer layer number (founds_in g c) + in_layer layer number (founds_of g cuts)
in_layer_cons layer number g c cuts =
    let own : List FoundPiece = own_founds number (founds_in g c) in
    let later : List FoundPiece = own_founds number (founds_of g cuts) in
    ap (λ (l : List FoundPiece). passes_at layer (pieces_in l)) (own_cons number g c cuts)
    ∙ ap (passes_at layer) (map-append (λ (f : FoundPiece). f.piece) own later)
    ∙ passes_join layer (pieces_in own) (pieces_in later)

in_layer_nil : (layer number : ℕ) (g : Geometry) → in_layer layer number (founds_of g []) ≡ 0
in_layer_nil layer number g = ap (λ (l : List FoundPiece). passes_at layer (pieces_in l)) (own_nil number g)

not_same : (layer m : ℕ) (ps : List PieceValue) → (m ≡ layer → ⊥) → AllByRecursion (λ (p : PieceValue). p.layer ≡ m) ps → AllByRecursion (λ (p : PieceValue). p.layer ≡ layer → ⊥) ps
not_same layer m [] ne all = tt
not_same layer m (p ∷ ps) ne all = ((λ (e : p.layer ≡ layer). ne (sym all.0 ∙ e)), not_same layer m ps ne all.1)

-- a packet of another layer
other_layer : (g : Geometry) (c : Cut) (layer number : ℕ) → (c.name.layer ≡ layer → ⊥) → in_layer layer number (founds_in g c) ≡ 0
other_layer g c layer number ne =
    passes_none layer (pieces_in (own_founds number (founds_in g c)))
    (not_same layer c.name.layer (pieces_in (own_founds number (founds_in g c))) ne (founds_layer g c.name c.after number c.bytes c.parts))

-- what packets one after another are read by
pub record Walk (b : List ℕ) (s : Stream) (g : Geometry) (number : ℕ) (old : Left) (cuts : List Cut) (new : Left) : Type 0 where
  pub there : AreThere g cuts
  pub rise : Rise g cuts
  pub follow : AllFollow s g old.states
  pub are : AreCuts b g number old cuts new

-- a packet of another precinct
other_precinct : (b : List ℕ) (s : Stream) (g : Geometry) (layer c r k j number : ℕ) (old : Left) (d : Cut) (next : Left) → GeometryInRange g → HasPrecinct g c r k → j < leaves g c r k
    → HasPrecinct g d.name.comp d.name.res d.name.precinct → AllFollow s g old.states → (number_of g d.name ≡ precinct_number g c r k → ⊥) → IsTurn b g number old d next
    → in_layer layer (leaf_number g c r k j) (founds_in g d) ≡ 0
other_precinct b s g layer c r k j number old d next h has lt own follow ne turn =
    ap (λ (l : List FoundPiece). passes_at layer (pieces_in l))
    (own_elsewhere g d.name d.after (leaf_number g c r k j) d.bytes d.parts (parts_elsewhere g d.name c r k j d.parts h own has lt ne (turn_inside b s g number old d next follow own turn)))

-- the packet of the layer
own_layer : (b : List ℕ) (s : Stream) (g : Geometry) (layer j number : ℕ) (old : Left) (d : Cut) (next : Left) → GeometryInRange g → HasPrecinct g d.name.comp d.name.res d.name.precinct
    → AllFollow s g old.states → IsTurn b g number old d next → j < leaves g d.name.comp d.name.res d.name.precinct
    → in_layer layer (leaf_number g d.name.comp d.name.res d.name.precinct j) (founds_in g d) ≤ 164
own_layer b s g layer j number old d next h own follow turn lt =
    let few : passes_of (own_parts j d.parts) ≤ 164 = packet_few (header_in old.packed (window b turn.body)) turn.state d.parts d.used d.after turn.cut.header j in
    let less : in_layer layer (leaf_number g d.name.comp d.name.res d.name.precinct j) (founds_in g d) ≤ passes_of (own_parts j d.parts) =
    founds_few g d.name d.after j layer d.bytes d.parts (parts_apart g d.name j d.parts h own lt (turn_inside b s g number old d next follow own turn)) in
    omega arith

here_layer : (b : List ℕ) (s : Stream) (g : Geometry) (layer c r k j number : ℕ) (old : Left) (d : Cut) (next : Left) → GeometryInRange g → HasPrecinct g c r k → j < leaves g c r k
    → HasPrecinct g d.name.comp d.name.res d.name.precinct → AllFollow s g old.states → number_of g d.name ≡ precinct_number g c r k → IsTurn b g number old d next
    → in_layer layer (leaf_number g c r k j) (founds_in g d) ≤ 164
here_layer b s g layer c r k j number old d next h has lt own follow same turn =
    let is = precinct_once g d.name.comp d.name.res d.name.precinct c r k own has same in
    let P : ℕ → ℕ → ℕ → Type 0 = λ x y z. j < leaves g x y z → in_layer layer (leaf_number g x y z j) (founds_in g d) ≤ 164 in
    subst (λ (x : ℕ). P c r x) is.2 (subst (λ (x : ℕ). P c x d.name.precinct) is.1 (subst (λ (x : ℕ). P x d.name.res d.name.precinct) is.0
    (own_layer b s g layer j number old d next h own follow turn))) lt

-- packets of higher layers
abbrev pub AreHigher : Geometry → ℕ → ℕ → List Cut → Type 0
AreHigher g precinct layer cuts = AllByRecursion (λ (d : Cut). precinct ≡ number_of g d.name → layer < d.name.layer) cuts

higher_none : (b : List ℕ) (s : Stream) (g : Geometry) (layer c r k j number : ℕ) (old : Left) (cuts : List Cut) (new : Left) → GeometryInRange g → HasPrecinct g c r k → j < leaves g c r k
    → Walk b s g number old cuts new → AreHigher g (precinct_number g c r k) layer cuts → in_layer layer (leaf_number g c r k j) (founds_of g cuts) ≡ 0
higher_none b s g layer c r k j number old [] new h has lt w high = in_layer_nil layer (leaf_number g c r k j) g
higher_none b s g layer c r k j number old (d ∷ cuts) new h has lt w high =
    let next : Left = w.are.0 in
    let after : Walk b s g (number + 1) next cuts new = record { there = w.there.1; rise = w.rise.1; follow = turn_follows b s g number old d next w.follow w.are.1; are = w.are.2 } in
    let later : in_layer layer (leaf_number g c r k j) (founds_of g cuts) ≡ 0 = higher_none b s g layer c r k j (number + 1) next cuts new h has lt after high.1 in
    let first : in_layer layer (leaf_number g c r k j) (founds_in g d) ≡ 0 = elim (cases_eq (number_of g d.name) (precinct_number g c r k)) [
      | inl same ↦ other_layer g d layer (leaf_number g c r k j) (λ (e : d.name.layer ≡ layer). (let up : layer < d.name.layer = high.0 (sym same) in omega arith))
      | inr ne ↦ other_precinct b s g layer c r k j number old d next h has lt w.there.0 w.follow ne w.are.1
    ] in
    omega (arith, in_layer_cons layer (leaf_number g c r k j) g d cuts)

pub higher_from : (g : Geometry) (p : PacketName) (precinct layer : ℕ) (cuts : List Cut) → number_of g p ≡ precinct → p.layer ≡ layer
    → AllByRecursion (λ (d : Cut). number_of g p ≡ number_of g d.name → p.layer < d.name.layer) cuts → AreHigher g precinct layer cuts
higher_from g p precinct layer [] same at all = tt
higher_from g p precinct layer (d ∷ cuts) same at all =
    ((λ (e : precinct ≡ number_of g d.name). (let up : p.layer < d.name.layer = all.0 (same ∙ e) in omega arith)), higher_from g p precinct layer cuts same at all.1)

pub layer_few : (b : List ℕ) (s : Stream) (g : Geometry) (layer c r k j number : ℕ) (old : Left) (cuts : List Cut) (new : Left) → GeometryInRange g → HasPrecinct g c r k → j < leaves g c r k
    → Walk b s g number old cuts new → in_layer layer (leaf_number g c r k j) (founds_of g cuts) ≤ 164
layer_few b s g layer c r k j number old [] new h has lt w = omega (arith, in_layer_nil layer (leaf_number g c r k j) g)
layer_few b s g layer c r k j number old (d ∷ cuts) new h has lt w =
    let next : Left = w.are.0 in
    let after : Walk b s g (number + 1) next cuts new = record { there = w.there.1; rise = w.rise.1; follow = turn_follows b s g number old d next w.follow w.are.1; are = w.are.2 } in
    let sum = in_layer_cons layer (leaf_number g c r k j) g d cuts in
    let later : in_layer layer (leaf_number g c r k j) (founds_of g cuts) ≤ 164 = layer_few b s g layer c r k j (number + 1) next cuts new h has lt after in
    elim (cases_eq (number_of g d.name) (precinct_number g c r k)) [
      | inl same ↦ elim (cases_eq d.name.layer layer) [
        | inl at ↦
            let none = higher_none b s g layer c r k j (number + 1) next cuts new h has lt after (higher_from g d.name (precinct_number g c r k) layer cuts same at w.rise.0) in
            let few = here_layer b s g layer c r k j number old d next h has lt w.there.0 w.follow same w.are.1 in
            omega (arith, sum, none, few)
        | inr ne ↦ omega (arith, sum, later, other_layer g d layer (leaf_number g c r k j) ne)
      ]
      | inr ne ↦ omega (arith, sum, later, other_precinct b s g layer c r k j number old d next h has lt w.there.0 w.follow ne w.are.1)
    ]

-- ---- layers of the tile
abbrev pub AreBelow : ℕ → List FoundPiece → Type 0
AreBelow layers founds = AllByRecursion (λ (f : FoundPiece). f.piece.layer < layers) founds

below_from : (g : Geometry) (p : PacketName) (k : State) (layers : ℕ) (bytes : List ℕ) (parts : List HeaderPart) → p.layer < layers → AreBelow layers (founds_from g p k bytes parts)
below_from g p k layers bytes [] lt = tt
below_from g p k layers bytes (q ∷ parts) lt = (lt, below_from g p k layers (drop q.length bytes) parts lt)

below_join : (layers : ℕ) (fs gs : List FoundPiece) → AreBelow layers fs → AreBelow layers gs → AreBelow layers (fs ++ gs)
below_join layers [] gs a b = b
below_join layers (f ∷ fs) gs a b = (a.0, below_join layers fs gs a.1 b)

pub below_of : (g : Geometry) (layers : ℕ) (cuts : List Cut) → ((p : PacketName) → Contains (names_of cuts) p → p.layer < layers) → AreBelow layers (founds_of g cuts)
unfolding founds_of
below_of g layers [] all = tt
below_of g layers (c ∷ cuts) all =
    below_join layers (founds_in g c) (founds_of g cuts) (below_from g c.name c.after layers c.bytes c.parts (all c.name (contains_head c.name (names_of cuts))))
    (below_of g layers cuts (λ (p : PacketName) (h : Contains (names_of cuts) p). all p (contains_tail c.name (names_of cuts) p h)))

pub below_own : (layers number : ℕ) (founds : List FoundPiece) → AreBelow layers founds → AllByRecursion (λ (p : PieceValue). p.layer < layers) (pieces_in (own_founds number founds))
below_own layers number [] all = subst (λ (l : List FoundPiece). AllByRecursion (λ (p : PieceValue). p.layer < layers) (pieces_in l)) (sym (own_nothing number)) tt
below_own layers number (f ∷ founds) all =
    let P : List FoundPiece → Type 0 = λ l. AllByRecursion (λ (p : PieceValue). p.layer < layers) (pieces_in l) in
    let again : P (own_founds number founds) = below_own layers number founds all.1 in
    elim (cases_eq f.number number) [
      | inl e ↦ subst P (sym (own_here number f founds e)) (all.0, again)
      | inr ne ↦ subst P (sym (own_past number f founds ne)) again
    ]
