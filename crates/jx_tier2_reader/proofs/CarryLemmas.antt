-- Packets that carry the pieces of a block give it back.
use Rattle.std.proofs.Common.{◌≡◌, ℕ, zero, suc, ◌+◌, ◌-◌, ◌<◌, ◌≤◌, ◌==◌, Bool, true, false, List, [], ◌∷◌, ◌++◌, length, map, drop, refl, sym, ap, ◌∙◌, cond, arith, inl, inr, append_assoc, append-nil}
use Rattle.std.specs.List.{AllByRecursion, filter, flat_map}
use Rattle.std.proofs.lemmas.Bool.{cases_eq, eq-eqb, ne_eqb, eqb-true, cond-true, cond-false}
use Rattle.std.proofs.Math.Seq.{take-append_seam, drop-append_seam}
use Rattle.jx_base.specs.declared.pieces.Block.{Block}
use Rattle.jx_base.specs.Joined.{joined, joined_below}
use Rattle.jx_base.specs.Pieces.{PieceValue}
use Rattle.jx_base.proofs.Joined.{joined_none}
use Rattle.jx_geom.specs.Geometry.{Geometry, GeometryInRange}
use Rattle.jx_packet_header.specs.declared.HeaderPart.{HeaderPart}
use Rattle.jx_packet_header.specs.Packet.{State}
use Rattle.jx_progression.specs.declared.names.PacketName.{PacketName}
use Rattle.jx_codestream.specs.declared.Stream.{Stream}
use Rattle.jx_codestream.specs.Shapes.{geometry}
use Rattle.jx_geom.specs.Precincts.{leaves}
use Rattle.jx_geom.specs.Precincts.{HasPrecinct, leaf_number}
use Rattle.jx_tier2_reader.specs.Blocks.{FoundPiece, zero_in, founds_from, founds_in, own_founds}
use Rattle.jx_tier2_reader.specs.Written.{Packets, next_layer, cut_at}
use Rattle.jx_tier2_reader.specs.BlockOf.{pieces_at}
use Rattle.jx_tier2_reader.specs.Carries.{pieces_of, zero_of, block_in, carried, header_part_of, carried_bytes, Carries}
use Rattle.jx_geom.proofs.LeafLemmas.{leaf_once}
use Rattle.jx_tier2_reader.proofs.FewLemmas.{own_here, own_past, own_nothing}
use Rattle.jx_tier2_reader.proofs.TrackLemmas.{own_joined}
use Rattle.jx_tier2_reader.proofs.LaidBlocks.{joined_first}

-- ---- the pieces of a packet
abbrev pub found_at : ℕ → ℕ → PieceValue → FoundPiece
found_at n z q = record { number = n; zero = z; piece = q }

abbrev in_place : Geometry → PacketName → State → ℕ → PieceValue → FoundPiece
in_place g p k j q = found_at (leaf_number g p.comp p.res p.precinct j) (zero_in k j) q

founds_pieces : (g : Geometry) (p : PacketName) (k : State) (j : ℕ) (qs : List PieceValue) (rest : List ℕ) (parts : List HeaderPart) → AllByRecursion (λ (q : PieceValue). q.layer ≡ p.layer) qs
    → founds_from g p k (flat_map (λ (q : PieceValue). q.bytes) qs ++ rest) (map (header_part_of j) qs ++ parts) ≡ map (in_place g p k j) qs ++ founds_from g p k rest parts
founds_pieces g p k j [] rest parts all = refl
founds_pieces g p k j (q ∷ qs) rest parts all =
    let later : List ℕ = flat_map (λ (x : PieceValue). x.bytes) qs ++ rest in
    let tail : List HeaderPart = map (header_part_of j) qs ++ parts in
    let bytes : (q.bytes ++ flat_map (λ (x : PieceValue). x.bytes) qs) ++ rest ≡ q.bytes ++ later = append_assoc q.bytes (flat_map (λ (x : PieceValue). x.bytes) qs) rest in
    let n : ℕ = leaf_number g p.comp p.res p.precinct j in
    let z : ℕ = zero_in k j in
    let first : ℕ → List ℕ → FoundPiece = λ layer bs. record { number = n; zero = z; piece = record { layer = layer; first = q.first; passes = q.passes; bytes = bs } } in
    ap (λ (bs : List ℕ). founds_from g p k bs (header_part_of j q ∷ tail)) bytes
    ∙ ap (λ (bs : List ℕ). first p.layer bs ∷ founds_from g p k (drop (length q.bytes) (q.bytes ++ later)) tail) (take-append_seam q.bytes later)
    ∙ ap (λ (bs : List ℕ). first p.layer q.bytes ∷ founds_from g p k bs tail) (drop-append_seam q.bytes later)
    ∙ ap (λ (l : ℕ). first l q.bytes ∷ founds_from g p k later tail) (sym all.0)
    ∙ ap (λ (fs : List FoundPiece). in_place g p k j q ∷ fs) (founds_pieces g p k j qs rest parts all.1)

-- over the blocks of the precinct
founds_below : (g : Geometry) (p : PacketName) (k : State) (pieces : ℕ → List PieceValue) (m : ℕ) (rest : List ℕ) (parts : List HeaderPart)
    → ((j : ℕ) → AllByRecursion (λ (q : PieceValue). q.layer ≡ p.layer) (pieces j))
    → founds_from g p k (joined_below (λ j. flat_map (λ (q : PieceValue). q.bytes) (pieces j)) 0 m ++ rest) (joined_below (λ j. map (header_part_of j) (pieces j)) 0 m ++ parts)
    ≡ joined_below (λ j. map (in_place g p k j) (pieces j)) 0 m ++ founds_from g p k rest parts
founds_below g p k pieces zero rest parts all = refl
founds_below g p k pieces (suc m) rest parts all =
    let B : ℕ → List ℕ = λ j. flat_map (λ (q : PieceValue). q.bytes) (pieces j) in
    let P : ℕ → List HeaderPart = λ j. map (header_part_of j) (pieces j) in
    let F : ℕ → List FoundPiece = λ j. map (in_place g p k j) (pieces j) in
    ap (λ (bs : List ℕ). founds_from g p k bs ((joined_below P 0 m ++ P (0 + m)) ++ parts)) (append_assoc (joined_below B 0 m) (B (0 + m)) rest)
    ∙ ap (λ (qs : List HeaderPart). founds_from g p k (joined_below B 0 m ++ (B (0 + m) ++ rest)) qs) (append_assoc (joined_below P 0 m) (P (0 + m)) parts)
    ∙ founds_below g p k pieces m (B (0 + m) ++ rest) (P (0 + m) ++ parts) all
    ∙ ap (λ (fs : List FoundPiece). joined_below F 0 m ++ fs) (founds_pieces g p k (0 + m) (pieces (0 + m)) rest parts (all (0 + m)))
    ∙ sym (append_assoc (joined_below F 0 m) (F (0 + m)) (founds_from g p k rest parts))

founds_joined : (g : Geometry) (p : PacketName) (k : State) (pieces : ℕ → List PieceValue) (n : ℕ) → ((j : ℕ) → AllByRecursion (λ (q : PieceValue). q.layer ≡ p.layer) (pieces j))
    → founds_from g p k (joined (λ j. flat_map (λ (q : PieceValue). q.bytes) (pieces j)) 0 n) (joined (λ j. map (header_part_of j) (pieces j)) 0 n) ≡ joined (λ j. map (in_place g p k j) (pieces j)) 0 n
unfolding joined
founds_joined g p k pieces n all =
    let m : ℕ = n - 0 in
    let B : ℕ → List ℕ = λ j. flat_map (λ (q : PieceValue). q.bytes) (pieces j) in
    let P : ℕ → List HeaderPart = λ j. map (header_part_of j) (pieces j) in
    let F : ℕ → List FoundPiece = λ j. map (in_place g p k j) (pieces j) in
    ap (λ (bs : List ℕ). founds_from g p k bs (joined_below P 0 m)) (sym (append-nil (joined_below B 0 m)))
    ∙ ap (λ (qs : List HeaderPart). founds_from g p k (joined_below B 0 m ++ []) qs) (sym (append-nil (joined_below P 0 m)))
    ∙ founds_below g p k pieces m [] [] all
    ∙ append-nil (joined_below F 0 m)

-- ---- those of one block
own_all : (n z : ℕ) (qs : List PieceValue) → own_founds n (map (found_at n z) qs) ≡ map (found_at n z) qs
own_all n z [] = own_nothing n
own_all n z (q ∷ qs) = own_here n (found_at n z q) (map (found_at n z) qs) refl ∙ ap (λ (fs : List FoundPiece). found_at n z q ∷ fs) (own_all n z qs)

own_none : (n m z : ℕ) (qs : List PieceValue) → (m ≡ n → ⊥) → own_founds n (map (found_at m z) qs) ≡ []
own_none n m z [] ne = own_nothing n
own_none n m z (q ∷ qs) ne = own_past n (found_at m z q) (map (found_at m z) qs) ne ∙ own_none n m z qs ne

-- lists of other numbers, and one of this
other_below : (F : ℕ → List FoundPiece) (n m : ℕ) → ((i : ℕ) → i < m → own_founds n (F i) ≡ []) → own_founds n (joined_below F 0 m) ≡ []
other_below F n zero none = own_nothing n
other_below F n (suc m) none =
    let e : 0 + m ≡ m = omega arith in
    own_joined n (joined_below F 0 m) (F (0 + m))
    ∙ ap (λ (fs : List FoundPiece). fs ++ own_founds n (F (0 + m))) (other_below F n m (λ i lt. none i (omega arith)))
    ∙ ap (λ (i : ℕ). own_founds n (F i)) e ∙ none m (omega arith)

own_below : (F : ℕ → List FoundPiece) (n m j : ℕ) → ((i : ℕ) → i < m → (i ≡ j → ⊥) → own_founds n (F i) ≡ []) → own_founds n (F j) ≡ F j → j < m → own_founds n (joined_below F 0 m) ≡ F j
own_below F n zero j none own lt = absurd (omega arith)
own_below F n (suc m) j none own lt =
    let e : 0 + m ≡ m = omega arith in
    let front : List FoundPiece = joined_below F 0 m in
    let last : own_founds n (F (0 + m)) ≡ own_founds n (F m) = ap (λ (i : ℕ). own_founds n (F i)) e in
    own_joined n front (F (0 + m)) ∙ ap (λ (fs : List FoundPiece). own_founds n front ++ fs) last
    ∙ elim (cases_eq m j) [
      | inl same ↦
          let before : own_founds n front ≡ [] = other_below F n m (λ i below. none i (omega arith) (λ (x : i ≡ j). (let x' : i ≡ j = x in omega arith))) in
          ap (λ (fs : List FoundPiece). fs ++ own_founds n (F m)) before ∙ ap (λ (i : ℕ). own_founds n (F i)) same ∙ own
      | inr other ↦
          let earlier : j < m = (let ne : m ≡ j → ⊥ = other in omega (arith, ne)) in
          ap (λ (fs : List FoundPiece). own_founds n front ++ fs) (none m (omega arith) other)
          ∙ append-nil (own_founds n front)
          ∙ own_below F n m j (λ i below ne. none i (omega arith) ne) own earlier
    ]

own_over : (F : ℕ → List FoundPiece) (n m j : ℕ) → ((i : ℕ) → i < m → (i ≡ j → ⊥) → own_founds n (F i) ≡ []) → own_founds n (F j) ≡ F j → j < m → own_founds n (joined F 0 m) ≡ F j
unfolding joined
own_over F n m j none own lt =
    let e : m - 0 ≡ m = omega arith in
    ap (λ (i : ℕ). own_founds n (joined_below F 0 i)) e ∙ own_below F n m j none own lt

at_layer : (layer : ℕ) (qs : List PieceValue) → AllByRecursion (λ (q : PieceValue). q.layer ≡ layer) (pieces_at layer qs)
unfolding pieces_at
at_layer layer [] = tt
at_layer layer (q ∷ qs) = by (q.layer == layer) refl (at_layer layer qs)
  where
    by : (c : Bool) → (q.layer == layer) ≡ c → AllByRecursion (λ (x : PieceValue). x.layer ≡ layer) (filter (λ (x : PieceValue). x.layer == layer) qs)
        → AllByRecursion (λ (x : PieceValue). x.layer ≡ layer) (cond c (q ∷ filter (λ (x : PieceValue). x.layer == layer) qs) (filter (λ (x : PieceValue). x.layer == layer) qs))
    by true e again = (eqb-true q.layer layer e, again)
    by false e again = again

-- where there is none, the zero planes are no matter
told_alike : (n z y : ℕ) (qs : List PieceValue) → ((qs ≡ [] → ⊥) → z ≡ y) → map (found_at n z) qs ≡ map (found_at n y) qs
told_alike n z y [] e = refl
told_alike n z y (q ∷ qs) e = ap (λ (x : ℕ). map (found_at n x) (q ∷ qs)) (e (λ none. absurd (cc)))

pub carried_founds : (s : Stream) (t : ℕ) (blocks : List Block) (ps : Packets) (p : PacketName) (j : ℕ) → GeometryInRange (geometry s t) → HasPrecinct (geometry s t) p.comp p.res p.precinct
    → j < leaves (geometry s t) p.comp p.res p.precinct → Carries s t blocks ps p
    → own_founds (leaf_number (geometry s t) p.comp p.res p.precinct j) (founds_in (geometry s t) (cut_at ps p))
    ≡ map (found_at (leaf_number (geometry s t) p.comp p.res p.precinct j) (zero_of (block_in s t blocks p j))) (carried s t blocks p j)
carried_founds s t blocks ps p j h has lt c =
    let g : Geometry = geometry s t in
    let k : State = ps.before (next_layer p) in
    let count : ℕ = leaves g p.comp p.res p.precinct in
    let number : ℕ → ℕ = λ i. leaf_number g p.comp p.res p.precinct i in
    let F : ℕ → List FoundPiece = λ i. map (in_place g p k i) (carried s t blocks p i) in
    let all : founds_in g (cut_at ps p) ≡ joined F 0 count =
    ap (λ (bs : List ℕ). founds_from g p k bs (ps.written p).parts) c.bytes
    ∙ ap (λ (qs : List HeaderPart). founds_from g p k (joined (carried_bytes s t blocks p) 0 count) qs) c.parts
    ∙ founds_joined g p k (carried s t blocks p) count (λ i. at_layer p.layer (pieces_of (block_in s t blocks p i))) in
    ap (own_founds (number j)) all
    ∙ own_over F (number j) count j
    (λ i below ne. own_none (number j) (number i) (zero_in k i) (carried s t blocks p i)
    (λ (same : number i ≡ number j). ne (leaf_once g p.comp p.res p.precinct i p.comp p.res p.precinct j h has below has lt same).3))
    (own_all (number j) (zero_in k j) (carried s t blocks p j)) lt
    ∙ told_alike (number j) (zero_in k j) (zero_of (block_in s t blocks p j)) (carried s t blocks p j) (c.zeros j lt)

-- ---- pieces joined over the layers
-- pieces in order of layers, from one on and below another
abbrev pub AreRising : ℕ → ℕ → List PieceValue → Type 0
AreRising low high [] = Unit {0}
AreRising low high (q ∷ qs) = (low ≤ q.layer) × (q.layer < high) × AreRising q.layer high qs

pub layer_here : (layer : ℕ) (q : PieceValue) (qs : List PieceValue) → q.layer ≡ layer → pieces_at layer (q ∷ qs) ≡ q ∷ pieces_at layer qs
unfolding pieces_at
layer_here layer q qs e = cond-true (q.layer == layer) (q ∷ filter (λ (x : PieceValue). x.layer == layer) qs) (filter (λ (x : PieceValue). x.layer == layer) qs) (eq-eqb q.layer layer e)

pub layer_past : (layer : ℕ) (q : PieceValue) (qs : List PieceValue) → (q.layer ≡ layer → ⊥) → pieces_at layer (q ∷ qs) ≡ pieces_at layer qs
unfolding pieces_at
layer_past layer q qs ne = cond-false (q.layer == layer) (q ∷ filter (λ (x : PieceValue). x.layer == layer) qs) (filter (λ (x : PieceValue). x.layer == layer) qs) (ne_eqb q.layer layer ne)

pub layer_nothing : (layer : ℕ) → pieces_at layer [] ≡ []
unfolding pieces_at
layer_nothing layer = refl

-- none below the first
layer_low : (low high layer : ℕ) (qs : List PieceValue) → AreRising low high qs → layer < low → pieces_at layer qs ≡ []
layer_low low high layer [] r lt = layer_nothing layer
layer_low low high layer (q ∷ qs) r lt =
    let le : low ≤ q.layer = r.0 in
    layer_past layer q qs (λ (e : q.layer ≡ layer). (let e' : q.layer ≡ layer = e in omega arith)) ∙ layer_low q.layer high layer qs r.2 (omega arith)

-- lists that are empty up to one, and lists that are the same from one on; n is how many there are
skip_empty : {X : Type 0} (f : ℕ → List X) (n a b c : ℕ) → a + n ≡ b → b ≤ c → ((i : ℕ) → a ≤ i → i < b → f i ≡ []) → joined f a c ≡ joined f b c
skip_empty f zero a b c e le none = let same : a ≡ b = omega arith in ap (λ (i : ℕ). joined f i c) same
skip_empty f (suc n) a b c e le none =
    joined_first f a c (omega arith) ∙ ap (λ xs. xs ++ joined f (a + 1) c) (none a (omega arith) (omega arith))
    ∙ skip_empty f n (a + 1) b c (omega arith) le (λ i from below. none i (omega arith) below)

pub same_from : {X : Type 0} (f h : ℕ → List X) (n a b : ℕ) → a + n ≡ b → ((i : ℕ) → a ≤ i → i < b → f i ≡ h i) → joined f a b ≡ joined h a b
same_from f h zero a b e same = joined_none f a b (omega arith) ∙ sym (joined_none h a b (omega arith))
same_from f h (suc n) a b e same =
    joined_first f a b (omega arith) ∙ ap (λ xs. xs ++ joined f (a + 1) b) (same a (omega arith) (omega arith))
    ∙ ap (λ xs. h a ++ xs) (same_from f h n (a + 1) b (omega arith) (λ i from below. same i (omega arith) below))
    ∙ sym (joined_first h a b (omega arith))

no_layers : {X : Type 0} (f : ℕ → List X) (n a b : ℕ) → a + n ≡ b → ((i : ℕ) → f i ≡ []) → joined f a b ≡ []
no_layers f n a b e none = skip_empty f n a b b e (omega arith) (λ i from below. none i) ∙ joined_none f b b (omega arith)

pub over_layers : (h : PieceValue → FoundPiece) (low high : ℕ) (qs : List PieceValue) → low ≤ high → AreRising low high qs → joined (λ l. map h (pieces_at l qs)) low high ≡ map h qs
over_layers h low high [] le r = no_layers (λ l. map h (pieces_at l [])) (high - low) low high (omega arith) (λ l. ap (map h) (layer_nothing l))
over_layers h low high (q ∷ qs) le r =
    let at : ℕ = q.layer in
    let from : low ≤ at = r.0 in
    let below : at < high = r.1 in
    let f : ℕ → List FoundPiece = λ l. map h (pieces_at l (q ∷ qs)) in
    let rest : ℕ → List FoundPiece = λ l. map h (pieces_at l qs) in
    let early : joined f low high ≡ joined f at high =
    skip_empty f (at - low) low at high (omega arith) (omega arith) (λ l a b. ap (map h) (layer_low at high l (q ∷ qs) (omega arith, below, r.2) b)) in
    let later : joined f (at + 1) high ≡ joined rest (at + 1) high =
    same_from f rest (high - (at + 1)) (at + 1) high (omega arith) (λ l a b. ap (map h) (layer_past l q qs (λ (e : q.layer ≡ l). (let e' : q.layer ≡ l = e in omega arith)))) in
    early ∙ joined_first f at high below
    ∙ ap (λ (xs : List PieceValue). map h xs ++ joined f (at + 1) high) (layer_here at q qs refl)
    ∙ ap (λ (xs : List FoundPiece). (h q ∷ rest at) ++ xs) later
    ∙ ap (λ (xs : List FoundPiece). h q ∷ xs) (sym (joined_first rest at high below) ∙ over_layers h at high qs (omega arith) r.2)
