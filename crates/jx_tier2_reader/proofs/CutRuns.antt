-- In each layer a block's pieces are cut exactly after each pass that ends a segment.
use Rattle.std.proofs.Common.{◌≡◌, ℕ, ◌+◌, ◌<◌, ◌≤◌, ◌==◌, nat_lt, List, [], ◌∷◌, ◌++◌, length, map, drop, refl, sym, ap, ◌∙◌, subst, arith, Some, inl, inr, append-nil}
use Rattle.std.specs.Prelude.{slice_get}
use Rattle.std.specs.List.{AllByRecursion}
use Rattle.std.proofs.lemmas.Bool.{cases_lt, cases_eq, eq-eqb, ne_eqb, lt-ltb, cond-true, cond-false}
use Rattle.std.proofs.lemmas.List.{map-append}
use Rattle.std.proofs.lemmas.Option.{same_Some}
use Rattle.jx_base.specs.Pieces.{PieceValue, passes_at, passes_below}
use Rattle.jx_geom.specs.Geometry.{Geometry, GeometryInRange}
use Rattle.jx_packet_header.specs.declared.HeaderPart.{HeaderPart}
use Rattle.jx_packet_header.specs.Parts.{cut}
use Rattle.jx_packet_header.specs.Written.{passes_of}
use Rattle.jx_packet_header.specs.Packet.{State}
use Rattle.jx_packet_header.specs.Precinct.{all_blocks}
use Rattle.jx_progression.specs.declared.names.PacketName.{PacketName}
use Rattle.jx_codestream.specs.declared.Stream.{Stream}
use Rattle.jx_codestream.specs.Shapes.{style_of}
use Rattle.jx_geom.specs.Precincts.{leaves}
use Rattle.jx_geom.specs.Precincts.{HasPrecinct, precinct_number, leaf_number}
use Rattle.jx_tier2_reader.specs.Data.{window, header_in}
use Rattle.jx_tier2_reader.specs.Cuts.{Cut, Left, IsTurn, number_of}
use Rattle.jx_tier2_reader.specs.Blocks.{FoundPiece, founds_from, founds_in, founds_of, own_founds, pieces_in}
use Rattle.jx_tier2_reader.specs.BlockOf.{pieces_at}
use Rattle.jx_geom.proofs.PrecinctLemmas.{precinct_once}
use Rattle.jx_tier2_reader.proofs.PartLemmas.{own_parts, known_in, packet_goes}
use Rattle.jx_tier2_reader.proofs.GrowLemmas.{Apart, own_elsewhere}
use Rattle.jx_tier2_reader.proofs.FewLemmas.{found_from, founds_layer, own_here, own_past, own_nothing, passes_cons as at_here, passes_past as at_past}
use Rattle.jx_tier2_reader.proofs.TrackLemmas.{AllFollow, turn_follows, turn_inside, parts_apart, parts_elsewhere, own_nil, own_cons, here_after as state_here, other_after as state_other, own_follows}
use Rattle.jx_tier2_reader.proofs.LayersFew.{Walk, AreHigher, higher_from}
use Rattle.jx_tier2_reader.proofs.CarryLemmas.{layer_here, layer_past, layer_nothing}
use Rattle.jx_tier2_reader.proofs.PartCuts.{Cuts, packet_cut, goes_on}
use Rattle.jx_base.proofs.PieceLemmas.{below_here as below_past}

-- ---- pieces of a packet
abbrev pub total : List PieceValue → ℕ
total [] = 0
total (q ∷ qs) = q.passes + total qs

abbrev passes_list : List PieceValue → List ℕ
passes_list qs = map (λ (q : PieceValue). q.passes) qs

-- the pieces of a block in a packet have the passes of its parts
founds_passes : (g : Geometry) (p : PacketName) (k : State) (j : ℕ) (bytes : List ℕ) (parts : List HeaderPart) → Apart g p (leaf_number g p.comp p.res p.precinct j) j parts
    → passes_list (pieces_in (own_founds (leaf_number g p.comp p.res p.precinct j) (founds_from g p k bytes parts))) ≡ map (λ (q : HeaderPart). q.passes) (own_parts j parts)
founds_passes g p k j bytes [] apart = ap (λ (l : List FoundPiece). passes_list (pieces_in l)) (own_nothing (leaf_number g p.comp p.res p.precinct j))
founds_passes g p k j bytes (q ∷ parts) apart =
    let number : ℕ = leaf_number g p.comp p.res p.precinct j in
    let f : FoundPiece = found_from g p k bytes q in
    let later : List FoundPiece = founds_from g p k (drop q.length bytes) parts in
    let again : passes_list (pieces_in (own_founds number later)) ≡ map (λ (x : HeaderPart). x.passes) (own_parts j parts) = founds_passes g p k j (drop q.length bytes) parts apart.1 in
    elim (cases_eq q.block j) [
      | inl e ↦
          ap (λ (l : List FoundPiece). passes_list (pieces_in l)) (own_here number f later (ap (leaf_number g p.comp p.res p.precinct) e))
          ∙ ap (λ (ns : List ℕ). q.passes ∷ ns) again
          ∙ sym (ap (map (λ (x : HeaderPart). x.passes)) (cond-true (q.block == j) (q ∷ own_parts j parts) (own_parts j parts) (eq-eqb q.block j e)))
      | inr ne ↦
          ap (λ (l : List FoundPiece). passes_list (pieces_in l)) (own_past number f later (λ (e : f.number ≡ number). ne (apart.0 e)))
          ∙ again
          ∙ sym (ap (map (λ (x : HeaderPart). x.passes)) (cond-false (q.block == j) (q ∷ own_parts j parts) (own_parts j parts) (ne_eqb q.block j ne)))
    ]

-- equal lists of passes, equal sums
abbrev sum_list : List ℕ → ℕ
sum_list [] = 0
sum_list (n ∷ ns) = n + sum_list ns

sum_pieces : (qs : List PieceValue) → sum_list (passes_list qs) ≡ total qs
sum_pieces [] = refl
sum_pieces (q ∷ qs) = ap (λ (n : ℕ). q.passes + n) (sum_pieces qs)

sum_parts : (ps : List HeaderPart) → sum_list (map (λ (p : HeaderPart). p.passes) ps) ≡ passes_of ps
sum_parts [] = refl
sum_parts (p ∷ ps) = ap (λ (n : ℕ). p.passes + n) (sum_parts ps)

-- ---- pieces of one layer, and of higher ones
abbrev AreAt : ℕ → List PieceValue → Type 0
AreAt m qs = AllByRecursion (λ (q : PieceValue). q.layer ≡ m) qs

abbrev AreOver : ℕ → List PieceValue → Type 0
AreOver m qs = AllByRecursion (λ (q : PieceValue). m < q.layer) qs

below_here : (layer : ℕ) (q : PieceValue) (qs : List PieceValue) → q.layer < layer → passes_below layer (q ∷ qs) ≡ q.passes + passes_below layer qs
below_here layer q qs lt = cond-true (nat_lt q.layer layer) (q.passes + passes_below layer qs) (passes_below layer qs) (lt-ltb q.layer layer lt)

-- what pieces before others, all of one layer, add in a layer
record Adds (layer : ℕ) (ps qs : List PieceValue) (pieces : List PieceValue) (below at : ℕ) : Type 0 where
  pub pieces_are : pieces_at layer (ps ++ qs) ≡ pieces ++ pieces_at layer qs
  pub below_is : passes_below layer (ps ++ qs) ≡ below + passes_below layer qs
  pub at_is : passes_at layer (ps ++ qs) ≡ at + passes_at layer qs

adds_own : (m : ℕ) (ps qs : List PieceValue) → AreAt m ps → Adds m ps qs ps 0 (total ps)
adds_own m [] qs all = record { pieces_are = refl; below_is = omega arith; at_is = omega arith }
adds_own m (p ∷ ps) qs all =
    let a = adds_own m ps qs all.1 in
    let e : p.layer ≡ m = all.0 in
    record {
      pieces_are = layer_here m p (ps ++ qs) e ∙ ap (λ (l : List PieceValue). p ∷ l) a.pieces_are;
      below_is = below_past m p (ps ++ qs) (omega arith) ∙ a.below_is;
      at_is = omega (arith, at_here m p (ps ++ qs) e, a.at_is);
    }

adds_below : (m layer : ℕ) (ps qs : List PieceValue) → AreAt m ps → m < layer → Adds layer ps qs [] (total ps) 0
adds_below m layer [] qs all lt = record { pieces_are = refl; below_is = omega arith; at_is = omega arith }
adds_below m layer (p ∷ ps) qs all lt =
    let a = adds_below m layer ps qs all.1 lt in
    let e : p.layer ≡ m = all.0 in
    let ne : p.layer ≡ layer → ⊥ = λ (x : p.layer ≡ layer). (let x' : p.layer ≡ layer = x in omega arith) in
    record {
      pieces_are = layer_past layer p (ps ++ qs) ne ∙ a.pieces_are;
      below_is = omega (arith, below_here layer p (ps ++ qs) (omega arith), a.below_is);
      at_is = at_past layer p (ps ++ qs) ne ∙ a.at_is;
    }

-- none in a lower layer
record NoneIn (layer : ℕ) (qs : List PieceValue) : Type 0 where
  pub pieces_are : pieces_at layer qs ≡ []
  pub at_is : passes_at layer qs ≡ 0
  pub below_is : passes_below layer qs ≡ 0

none_over : (m layer : ℕ) (qs : List PieceValue) → AreOver m qs → layer ≤ m → NoneIn layer qs
none_over m layer [] all le = record { pieces_are = layer_nothing layer; at_is = refl; below_is = refl }
none_over m layer (q ∷ qs) all le =
    let r = none_over m layer qs all.1 le in
    let over : m < q.layer = all.0 in
    let ne : q.layer ≡ layer → ⊥ = λ (x : q.layer ≡ layer). (let x' : q.layer ≡ layer = x in omega arith) in
    record {
      pieces_are = layer_past layer q qs ne ∙ r.pieces_are;
      at_is = at_past layer q qs ne ∙ r.at_is;
      below_is = below_past layer q qs (omega arith) ∙ r.below_is;
    }

-- ---- in each layer, pieces from a pass on are cut at the ends of segments
abbrev pub CutFrom : ℕ → ℕ → List PieceValue → Type 0
CutFrom style first qs = (layer : ℕ) → passes_list (pieces_at layer qs) ≡ cut style (first + passes_below layer qs) (passes_at layer qs)

cut_nothing : (style first : ℕ) → CutFrom style first []
cut_nothing style first layer = ap passes_list (layer_nothing layer)

cut_join : (style first m : ℕ) (ps qs : List PieceValue) → AreAt m ps → AreOver m qs → passes_list ps ≡ cut style first (total ps) → CutFrom style (first + total ps) qs → CutFrom style first (ps ++ qs)
cut_join style first m ps qs at over own rest layer = elim (cases_eq layer m) [
  | inl same ↦ subst (λ (l : ℕ). passes_list (pieces_at l (ps ++ qs)) ≡ cut style (first + passes_below l (ps ++ qs)) (passes_at l (ps ++ qs))) (sym same) here
  | inr ne ↦ elim (cases_lt m layer) [
    | inl above ↦
        let a = adds_below m layer ps qs at above in
        let sum : first + total ps + passes_below layer qs ≡ first + passes_below layer (ps ++ qs) = omega (arith, a.below_is) in
        let count : passes_at layer qs ≡ passes_at layer (ps ++ qs) = omega (arith, a.at_is) in
        ap passes_list a.pieces_are ∙ rest layer ∙ ap (λ (n : ℕ). cut style n (passes_at layer qs)) sum ∙ ap (cut style (first + passes_below layer (ps ++ qs))) count
    | inr le ↦
        let low : layer < m = (let other : layer ≡ m → ⊥ = ne in omega (arith, other)) in
        let r = none_of_both m layer ps qs at over low in
        ap passes_list r.pieces_are ∙ sym (ap (cut style (first + passes_below layer (ps ++ qs))) r.at_is)
  ]
]
  where
    here : passes_list (pieces_at m (ps ++ qs)) ≡ cut style (first + passes_below m (ps ++ qs)) (passes_at m (ps ++ qs))
    here =
        let a = adds_own m ps qs at in
        let r = none_over m m qs over (omega arith) in
        let first_is : first ≡ first + passes_below m (ps ++ qs) = omega (arith, a.below_is, r.below_is) in
        let count : total ps ≡ passes_at m (ps ++ qs) = omega (arith, a.at_is, r.at_is) in
        ap passes_list (a.pieces_are ∙ ap (λ (l : List PieceValue). ps ++ l) r.pieces_are ∙ append-nil ps) ∙ own
        ∙ ap (λ (n : ℕ). cut style n (total ps)) first_is ∙ ap (cut style (first + passes_below m (ps ++ qs))) count

    none_of_both : (m layer : ℕ) (ps qs : List PieceValue) → AreAt m ps → AreOver m qs → layer < m → NoneIn layer (ps ++ qs)
    none_of_both m layer [] qs at over lt = none_over m layer qs over (omega arith)
    none_of_both m layer (p ∷ ps) qs at over lt =
        let r = none_of_both m layer ps qs at.1 over lt in
        let e : p.layer ≡ m = at.0 in
        let ne : p.layer ≡ layer → ⊥ = λ (x : p.layer ≡ layer). (let x' : p.layer ≡ layer = x in omega arith) in
        record {
          pieces_are = layer_past layer p (ps ++ qs) ne ∙ r.pieces_are;
          at_is = at_past layer p (ps ++ qs) ne ∙ r.at_is;
          below_is = below_past layer p (ps ++ qs) (omega arith) ∙ r.below_is;
        }

-- ---- over packets
own_found_join : (number : ℕ) (g : Geometry) (c : Cut) (cuts : List Cut) → pieces_in (own_founds number (founds_of g (c ∷ cuts))) ≡ pieces_in (own_founds number (founds_in g c)) ++ pieces_in (own_founds number (founds_of g cuts))
own_found_join number g c cuts =
    ap (λ (l : List FoundPiece). pieces_in l) (own_cons number g c cuts) ∙ map-append (λ (f : FoundPiece). f.piece) (own_founds number (founds_in g c)) (own_founds number (founds_of g cuts))

walk_on : (b : List ℕ) (s : Stream) (g : Geometry) (number : ℕ) (old : Left) (d : Cut) (cuts : List Cut) (new : Left) → (w : Walk b s g number old (d ∷ cuts) new) → Walk b s g (number + 1) w.are.0 cuts new
walk_on b s g number old d cuts new w = record { there = w.there.1; rise = w.rise.1; follow = turn_follows b s g number old d w.are.0 w.follow w.are.1; are = w.are.2 }

own_elsewhere_in : (b : List ℕ) (s : Stream) (g : Geometry) (c r k j number : ℕ) (old : Left) (d : Cut) (next : Left) → GeometryInRange g → HasPrecinct g c r k → j < leaves g c r k
    → HasPrecinct g d.name.comp d.name.res d.name.precinct → AllFollow s g old.states → (number_of g d.name ≡ precinct_number g c r k → ⊥) → IsTurn b g number old d next
    → pieces_in (own_founds (leaf_number g c r k j) (founds_in g d)) ≡ []
own_elsewhere_in b s g c r k j number old d next h has lt own follow ne turn =
    ap (λ (l : List FoundPiece). pieces_in l)
    (own_elsewhere g d.name d.after (leaf_number g c r k j) d.bytes d.parts (parts_elsewhere g d.name c r k j d.parts h own has lt ne (turn_inside b s g number old d next follow own turn)))

over_join : (m : ℕ) (ps qs : List PieceValue) → AreOver m ps → AreOver m qs → AreOver m (ps ++ qs)
over_join m [] qs a b = b
over_join m (p ∷ ps) qs a b = (a.0, over_join m ps qs a.1 b)

over_at : (m layer : ℕ) (ps : List PieceValue) → AreAt layer ps → m < layer → AreOver m ps
over_at m layer [] a lt = tt
over_at m layer (p ∷ ps) a lt = ((let e : p.layer ≡ layer = a.0 in omega arith), over_at m layer ps a.1 lt)

-- packets of higher layers have pieces of higher layers
higher_over : (b : List ℕ) (s : Stream) (g : Geometry) (m c r k j number : ℕ) (old : Left) (cuts : List Cut) (new : Left) → GeometryInRange g → HasPrecinct g c r k → j < leaves g c r k
    → Walk b s g number old cuts new → AreHigher g (precinct_number g c r k) m cuts → AreOver m (pieces_in (own_founds (leaf_number g c r k j) (founds_of g cuts)))
higher_over b s g m c r k j number old [] new h has lt w high = subst (λ (l : List FoundPiece). AreOver m (pieces_in l)) (sym (own_nil (leaf_number g c r k j) g)) tt
higher_over b s g m c r k j number old (d ∷ cuts) new h has lt w high =
    let later = higher_over b s g m c r k j (number + 1) w.are.0 cuts new h has lt (walk_on b s g number old d cuts new w) high.1 in
    let own : List PieceValue = pieces_in (own_founds (leaf_number g c r k j) (founds_in g d)) in
    let first : AreOver m own = elim (cases_eq (number_of g d.name) (precinct_number g c r k)) [
      | inl same ↦ over_at m d.name.layer own (founds_layer g d.name d.after (leaf_number g c r k j) d.bytes d.parts) (high.0 (sym same))
      | inr ne ↦ subst (AreOver m) (sym (own_elsewhere_in b s g c r k j number old d w.are.0 h has lt w.there.0 w.follow ne w.are.1)) tt
    ] in
    subst (AreOver m) (sym (own_found_join (leaf_number g c r k j) g d cuts)) (over_join m own (pieces_in (own_founds (leaf_number g c r k j) (founds_of g cuts))) first later)

-- one packet of a precinct
record Turned (g : Geometry) (style : ℕ) (d : Cut) (number j : ℕ) (state : State) : Type 0 where
  pub own : passes_list (pieces_in (own_founds number (founds_in g d))) ≡ cut style (known_in state.bands j).passes (total (pieces_in (own_founds number (founds_in g d))))
  pub next : (known_in state.bands j).passes + total (pieces_in (own_founds number (founds_in g d))) ≡ (known_in d.after.bands j).passes

turned : (b : List ℕ) (s : Stream) (g : Geometry) (number j : ℕ) (old : Left) (d : Cut) (next : Left) → GeometryInRange g → AllFollow s g old.states → HasPrecinct g d.name.comp d.name.res d.name.precinct
    → (t : IsTurn b g number old d next) → j < leaves g d.name.comp d.name.res d.name.precinct → Turned g (style_of s g.tile d.name.comp) d (leaf_number g d.name.comp d.name.res d.name.precinct j) j t.state
turned b s g number j old d next h follow own t lt =
    let f = own_follows b s g number old d next follow own t in
    let bytes : List ℕ = header_in old.packed (window b t.body) in
    let leaf : ℕ = leaf_number g d.name.comp d.name.res d.name.precinct j in
    let inside : j < length (all_blocks t.state.bands) = subst (λ (n : ℕ). j < n) (sym f.count) lt in
    let passes : passes_list (pieces_in (own_founds leaf (founds_in g d))) ≡ map (λ (q : HeaderPart). q.passes) (own_parts j d.parts) =
    founds_passes g d.name d.after j d.bytes d.parts (parts_apart g d.name j d.parts h own lt (turn_inside b s g number old d next follow own t)) in
    let sum : total (pieces_in (own_founds leaf (founds_in g d))) ≡ passes_of (own_parts j d.parts) =
    sym (sum_pieces (pieces_in (own_founds leaf (founds_in g d)))) ∙ ap sum_list passes ∙ sum_parts (own_parts j d.parts) in
    let runs : Cuts t.state.style (known_in t.state.bands j).passes (own_parts j d.parts) = packet_cut bytes t.state d.parts d.used d.after t.cut.header j inside in
    let goes = goes_on t.state.style _ (own_parts j d.parts) (known_in t.state.bands j) (known_in d.after.bands j) (packet_goes bytes t.state d.parts d.used d.after t.cut.header j inside) in
    record {
      own = passes ∙ runs ∙ ap (λ (n : ℕ). cut n (known_in t.state.bands j).passes (passes_of (own_parts j d.parts))) f.style
          ∙ ap (cut (style_of s g.tile d.name.comp) (known_in t.state.bands j).passes) (sym sum);
      next = ap (λ (n : ℕ). (known_in t.state.bands j).passes + n) sum ∙ sym goes;
    }

pub cut_over : (b : List ℕ) (s : Stream) (g : Geometry) (c r k j number : ℕ) (cuts : List Cut) (old new : Left) (state : State) → GeometryInRange g → HasPrecinct g c r k → j < leaves g c r k
    → Walk b s g number old cuts new → slice_get old.states (precinct_number g c r k) ≡ Some state
    → CutFrom (style_of s g.tile c) (known_in state.bands j).passes (pieces_in (own_founds (leaf_number g c r k j) (founds_of g cuts)))
cut_over b s g c r k j number [] old new state h has lt w found =
    subst (λ (l : List FoundPiece). CutFrom (style_of s g.tile c) (known_in state.bands j).passes (pieces_in l)) (sym (own_nil (leaf_number g c r k j) g))
    (cut_nothing (style_of s g.tile c) (known_in state.bands j).passes)
cut_over b s g c r k j number (d ∷ cuts) old new state h has lt w found =
    let on : Walk b s g (number + 1) w.are.0 cuts new = walk_on b s g number old d cuts new w in
    let rest : List PieceValue = pieces_in (own_founds (leaf_number g c r k j) (founds_of g cuts)) in
    let own : List PieceValue = pieces_in (own_founds (leaf_number g c r k j) (founds_in g d)) in
    let style : ℕ = style_of s g.tile c in
    subst (CutFrom style (known_in state.bands j).passes) (sym (own_found_join (leaf_number g c r k j) g d cuts))
    (elim (cases_eq (number_of g d.name) (precinct_number g c r k)) [
      | inl same ↦
          let is = precinct_once g d.name.comp d.name.res d.name.precinct c r k w.there.0 has same in
          let state_is : w.are.1.state ≡ state = same_Some w.are.1.state state (sym w.are.1.known ∙ ap (slice_get old.states) same ∙ found) in
          let T : ℕ → ℕ → ℕ → Type 0 = λ x y z. j < leaves g x y z → Turned g (style_of s g.tile x) d (leaf_number g x y z j) j w.are.1.state in
          let one : Turned g style d (leaf_number g c r k j) j w.are.1.state =
          (subst (λ (x : ℕ). T c r x) is.2 (subst (λ (x : ℕ). T c x d.name.precinct) is.1 (subst (λ (x : ℕ). T x d.name.res d.name.precinct) is.0
          (turned b s g number j old d w.are.0 h w.follow w.there.0 w.are.1)))) lt in
          let turn : Turned g style d (leaf_number g c r k j) j state = subst (Turned g style d (leaf_number g c r k j) j) state_is one in
          let after : slice_get w.are.0.states (precinct_number g c r k) ≡ Some d.after = subst (λ (i : ℕ). slice_get w.are.0.states i ≡ Some d.after) same (state_here b g number old d w.are.0 w.are.1) in
          let later : CutFrom style (known_in d.after.bands j).passes rest = cut_over b s g c r k j (number + 1) cuts w.are.0 new d.after h has lt on after in
          cut_join style (known_in state.bands j).passes d.name.layer own rest (founds_layer g d.name d.after (leaf_number g c r k j) d.bytes d.parts)
          (higher_over b s g d.name.layer c r k j (number + 1) w.are.0 cuts new h has lt on (higher_from g d.name (precinct_number g c r k) d.name.layer cuts same refl w.rise.0))
          turn.own (subst (λ (n : ℕ). CutFrom style n rest) (sym turn.next) later)
      | inr ne ↦
          let none : own ≡ [] = own_elsewhere_in b s g c r k j number old d w.are.0 h has lt w.there.0 w.follow ne w.are.1 in
          subst (λ (l : List PieceValue). CutFrom style (known_in state.bands j).passes (l ++ rest)) (sym none)
          (cut_over b s g c r k j (number + 1) cuts w.are.0 new state h has lt on (state_other b g number old d w.are.0 (precinct_number g c r k) w.are.1 ne ∙ found))
    ])
