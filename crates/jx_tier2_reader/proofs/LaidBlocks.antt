-- The pieces of a block are those of its own precinct's packets over the layers, in whatever order packets stand.
use Rattle.std.proofs.Common.{◌≡◌, ℕ, zero, suc, ◌+◌, ◌-◌, ◌<◌, ◌≤◌, List, [], ◌∷◌, ◌++◌, length, refl, sym, ap, ◌∙◌, subst, arith, inl, inr, append_assoc, append-nil}
use Rattle.std.specs.Prelude.{◌↔◌}
use Rattle.std.specs.List.{Contains}
use Rattle.std.proofs.lemmas.Bool.{cases_lt, cases_eq}
use Rattle.std.proofs.lemmas.List.Elements.{recursion_from_All, Contains-append_left, Contains-push, Contains-push_cases}
use Rattle.jx_base.specs.Joined.{joined, joined_below}
use Rattle.jx_base.proofs.Joined.{joined_none}
use Rattle.jx_base.proofs.Lists.{contains_none, push_on}
use Rattle.jx_geom.specs.Geometry.{Geometry, GeometryInRange}
use Rattle.jx_packet_header.specs.Packet.{State}
use Rattle.jx_packet_header.specs.Precinct.{all_blocks}
use Rattle.jx_progression.specs.declared.names.PacketName.{PacketName}
use Rattle.jx_progression.specs.Packets.{IsPacketName}
use Rattle.jx_progression.specs.Steps.{name_of}
use Rattle.jx_codestream.specs.declared.Stream.{Stream}
use Rattle.jx_codestream.specs.Shapes.{geometry, layers_of}
use Rattle.jx_geom.specs.Precincts.{leaves}
use Rattle.jx_tier2_reader.specs.Fresh.{fresh_precinct}
use Rattle.jx_geom.specs.Precincts.{HasPrecinct, precinct_number, leaf_number}
use Rattle.jx_tier2_reader.specs.Cuts.{number_of}
use Rattle.jx_tier2_reader.specs.Blocks.{FoundPiece, founds_in, founds_of, own_founds}
use Rattle.jx_tier2_reader.specs.Written.{WrittenPacket, Packets, next_layer, IsWritten, AreWritten, cut_at, cuts_at}
use Rattle.jx_geom.proofs.PrecinctLemmas.{precinct_once}
use Rattle.jx_tier2_reader.proofs.CellLemmas.{leaf_count}
use Rattle.jx_tier2_reader.proofs.PartLemmas.{PartIn, part_inside, packet_kept}
use Rattle.jx_tier2_reader.proofs.GrowLemmas.{own_elsewhere}
use Rattle.jx_tier2_reader.proofs.TrackLemmas.{Follows, follows_on, AreInside, inside_from, parts_elsewhere, own_nil, own_cons}
use Rattle.jx_tier2_reader.proofs.TurnLemmas.{Listed, has_precinct, due_named, lower_done, own_new}

-- ---- lists of numbers
below_first : {X : Type 0} (f : ℕ → List X) (a n : ℕ) → joined_below f a (suc n) ≡ f a ++ joined_below f (a + 1) n
below_first f a zero = let e : a + 0 ≡ a = omega arith in ap f e ∙ sym (append-nil (f a))
below_first f a (suc n) =
    let e : a + suc n ≡ a + 1 + n = omega arith in
    ap (λ xs. xs ++ f (a + suc n)) (below_first f a n) ∙ append_assoc (f a) (joined_below f (a + 1) n) (f (a + suc n))
    ∙ ap (λ (m : ℕ). f a ++ (joined_below f (a + 1) n ++ f m)) e

pub joined_first : {X : Type 0} (f : ℕ → List X) (a b : ℕ) → a < b → joined f a b ≡ f a ++ joined f (a + 1) b
unfolding joined
joined_first f a b lt =
    let e : b - a ≡ suc (b - (a + 1)) = omega arith in
    ap (joined_below f a) e ∙ below_first f a (b - (a + 1))

-- ---- the states of a precinct
-- the packets of a precinct that is there
pub packet_named : (s : Stream) (t : ℕ) (c r k l : ℕ) → length (geometry s t).shapes ≤ 16384 → HasPrecinct (geometry s t) c r k → l < layers_of s t → IsPacketName (geometry s t) (layers_of s t) (name_of l r c k)
packet_named s t c r k l few has lt =
    let below : c < length (geometry s t).shapes = has.resolution.component in
    record { layer = lt; resolution = has.resolution; precinct = has.precinct }

pub chain_follows : (s : Stream) (t : ℕ) (ps : Packets) (c r k l : ℕ) → AreWritten s t ps → length (geometry s t).shapes ≤ 16384 → HasPrecinct (geometry s t) c r k → l ≤ layers_of s t
    → Follows s (geometry s t) c r k (ps.before (name_of l r c k))
chain_follows s t ps c r k zero w few has le =
    let fresh : Follows s (geometry s t) c r k (fresh_precinct s (geometry s t) c r k) = record { style = refl; count = leaf_count s (geometry s t) c r k; planes = λ j. refl } in
    subst (λ (x : State). Follows s (geometry s t) c r k x) (sym (w.first c r k has)) fresh
chain_follows s t ps c r k (suc l) w few has le =
    let p : PacketName = name_of l r c k in
    let is : IsWritten ps p = w.each p (packet_named s t c r k l few has (omega arith)) in
    let next : l + 1 ≡ suc l = omega arith in
    subst (λ (n : ℕ). Follows s (geometry s t) c r k (ps.before (name_of n r c k))) next
    (follows_on s (geometry s t) c r k (ps.before p) (ps.before (next_layer p))
    (packet_kept ((ps.written p).header ++ []) (ps.before p) (ps.written p).parts (length (ps.written p).header) (ps.before (next_layer p)) (is.header []))
    (chain_follows s t ps c r k l w few has (omega arith)))

-- the blocks of which a packet tells are there
pub packet_inside : (s : Stream) (t : ℕ) (ps : Packets) (p : PacketName) → AreWritten s t ps → length (geometry s t).shapes ≤ 16384 → IsPacketName (geometry s t) (layers_of s t) p
    → AreInside (leaves (geometry s t) p.comp p.res p.precinct) (ps.written p).parts
packet_inside s t ps p w few is =
    let g : Geometry = geometry s t in
    let f = chain_follows s t ps p.comp p.res p.precinct p.layer w few (has_precinct g (layers_of s t) p is) (let lt = is.layer in omega arith) in
    let count : ℕ = length (all_blocks (ps.before p).bands) in
    subst (λ (n : ℕ). AreInside n (ps.written p).parts) f.count
    (inside_from count (ps.written p).parts (recursion_from_All (PartIn count) (ps.written p).parts
    (part_inside ((ps.written p).header ++ []) (ps.before p) (ps.written p).parts (length (ps.written p).header) (ps.before (next_layer p)) ((w.each p is).header []))))

-- ---- a block over the packets
-- how many layers of a precinct were sent
abbrev Sent : ℕ → ℕ → ℕ → ℕ → List PacketName → ℕ → Type 0
Sent layers c r k done m = (l : ℕ) → l < layers → (l < m) ↔ Contains done (name_of l r c k)

-- its next packet is that of the next layer
next_is : (g : Geometry) (layers : ℕ) (list done rest : List PacketName) (p : PacketName) (m : ℕ) → Listed g layers list → list ≡ done ++ (p ∷ rest) → m ≤ layers
    → Sent layers p.comp p.res p.precinct done m → m ≡ p.layer
next_is g layers list done rest p m h e le sent =
    let below = (due_named g layers list done rest p h e).layer in
    elim (cases_lt m p.layer) [
      | inl lt ↦ (let again : m < m = (sent m (omega arith)).1 (lower_done g layers list done rest p m h e lt) in absurd (omega arith))
      | inr ge ↦ elim (cases_lt p.layer m) [
        | inl gt ↦ absurd (own_new g layers list done rest p h e ((sent p.layer below).0 gt))
        | inr same ↦ omega arith
      ]
    ]

sent_own : (layers : ℕ) (done : List PacketName) (p : PacketName) (m : ℕ) → m ≡ p.layer → Sent layers p.comp p.res p.precinct done m → Sent layers p.comp p.res p.precinct (done ++ p ∷ []) (m + 1)
sent_own layers done p m at sent l lt = (
  λ less. elim (cases_lt l m) [
    | inl below ↦ Contains-append_left done (p ∷ []) (name_of l p.res p.comp p.precinct) ((sent l lt).0 below)
    | inr ge ↦
        let is : p.layer ≡ l = omega arith in
        let C : ℕ → Type 0 = λ n. Contains (done ++ p ∷ []) (name_of n p.res p.comp p.precinct) in
        subst C is (Contains-push done p)
  ],
  λ has. elim (Contains-push_cases done p (name_of l p.res p.comp p.precinct) has) [
    | inl old ↦ (let was : l < m = (sent l lt).1 old in omega arith)
    | inr new ↦ (let is : p.layer ≡ l = ap (λ (w : PacketName). w.layer) new in omega arith)
  ],
)

sent_other : (g : Geometry) (layers : ℕ) (c r k : ℕ) (done : List PacketName) (p : PacketName) (m : ℕ) → (number_of g p ≡ precinct_number g c r k → ⊥) → Sent layers c r k done m
    → Sent layers c r k (done ++ p ∷ []) m
sent_other g layers c r k done p m other sent l lt = (
  λ less. Contains-append_left done (p ∷ []) (name_of l r c k) ((sent l lt).0 less),
  λ has. elim (Contains-push_cases done p (name_of l r c k) has) [
    | inl old ↦ (sent l lt).1 old
    | inr new ↦ absurd (other (ap (number_of g) new))
  ],
)

-- what a tile's blocks are joined by
pub record Joins (s : Stream) (t : ℕ) (ps : Packets) (list : List PacketName) : Type 0 where
  pub range : GeometryInRange (geometry s t)
  pub few : length (geometry s t).shapes ≤ 16384
  pub listed : Listed (geometry s t) (layers_of s t) list
  pub written : AreWritten s t ps

-- the pieces of a block of a precinct in a layer
abbrev pub layer_founds : Geometry → Packets → ℕ → ℕ → ℕ → ℕ → ℕ → List FoundPiece
layer_founds g ps c r k j l = own_founds (leaf_number g c r k j) (founds_in g (cut_at ps (name_of l r c k)))

-- the same of later packets
abbrev Again : Stream → ℕ → Packets → List PacketName → List PacketName → ℕ → ℕ → ℕ → ℕ → Type 0
Again s t ps done rest c r k j =
    (n : ℕ) → n ≤ layers_of s t → Sent (layers_of s t) c r k done n
    → own_founds (leaf_number (geometry s t) c r k j) (founds_of (geometry s t) (cuts_at ps rest)) ≡ joined (layer_founds (geometry s t) ps c r k j) n (layers_of s t)

-- behind a packet of the precinct, and behind one of another
joined_own : (s : Stream) (t : ℕ) (ps : Packets) (list done rest : List PacketName) (p : PacketName) (j m : ℕ) → Joins s t ps list → list ≡ done ++ (p ∷ rest) → m ≤ layers_of s t
    → Sent (layers_of s t) p.comp p.res p.precinct done m → Again s t ps (done ++ p ∷ []) rest p.comp p.res p.precinct j
    → own_founds (leaf_number (geometry s t) p.comp p.res p.precinct j) (founds_of (geometry s t) (cuts_at ps (p ∷ rest)))
    ≡ joined (layer_founds (geometry s t) ps p.comp p.res p.precinct j) m (layers_of s t)
joined_own s t ps list done rest p j m h e le sent again =
    let g : Geometry = geometry s t in
    let layers : ℕ = layers_of s t in
    let number : ℕ = leaf_number g p.comp p.res p.precinct j in
    let f : ℕ → List FoundPiece = layer_founds g ps p.comp p.res p.precinct j in
    let at : m ≡ p.layer = next_is g layers list done rest p m h.listed e le sent in
    let below : p.layer < layers = (due_named g layers list done rest p h.listed e).layer in
    own_cons number g (cut_at ps p) (cuts_at ps rest)
    ∙ ap (λ (xs : List FoundPiece). own_founds number (founds_in g (cut_at ps p)) ++ xs) (again (m + 1) (omega arith) (sent_own layers done p m at sent))
    ∙ ap (λ (n : ℕ). f n ++ joined f (m + 1) layers) (sym at)
    ∙ sym (joined_first f m layers (omega arith))

joined_here : (s : Stream) (t : ℕ) (ps : Packets) (list done rest : List PacketName) (p : PacketName) (c r k j m : ℕ) → Joins s t ps list → HasPrecinct (geometry s t) c r k
    → list ≡ done ++ (p ∷ rest) → m ≤ layers_of s t → number_of (geometry s t) p ≡ precinct_number (geometry s t) c r k
    → Sent (layers_of s t) c r k done m → Again s t ps (done ++ p ∷ []) rest c r k j
    → own_founds (leaf_number (geometry s t) c r k j) (founds_of (geometry s t) (cuts_at ps (p ∷ rest))) ≡ joined (layer_founds (geometry s t) ps c r k j) m (layers_of s t)
joined_here s t ps list done rest p c r k j m h has e le same sent again =
    let own = has_precinct (geometry s t) (layers_of s t) p (due_named (geometry s t) (layers_of s t) list done rest p h.listed e) in
    let is = precinct_once (geometry s t) p.comp p.res p.precinct c r k own has same in
    let P : ℕ → ℕ → ℕ → Type 0 = λ x y z. Sent (layers_of s t) x y z done m → Again s t ps (done ++ p ∷ []) rest x y z j
    → own_founds (leaf_number (geometry s t) x y z j) (founds_of (geometry s t) (cuts_at ps (p ∷ rest))) ≡ joined (layer_founds (geometry s t) ps x y z j) m (layers_of s t) in
    subst (λ (x : ℕ). P c r x) is.2 (subst (λ (x : ℕ). P c x p.precinct) is.1 (subst (λ (x : ℕ). P x p.res p.precinct) is.0 (joined_own s t ps list done rest p j m h e le))) sent again

joined_other : (s : Stream) (t : ℕ) (ps : Packets) (list done rest : List PacketName) (p : PacketName) (c r k j m : ℕ) → Joins s t ps list → HasPrecinct (geometry s t) c r k
    → j < leaves (geometry s t) c r k → list ≡ done ++ (p ∷ rest) → m ≤ layers_of s t → (number_of (geometry s t) p ≡ precinct_number (geometry s t) c r k → ⊥)
    → Sent (layers_of s t) c r k done m → Again s t ps (done ++ p ∷ []) rest c r k j
    → own_founds (leaf_number (geometry s t) c r k j) (founds_of (geometry s t) (cuts_at ps (p ∷ rest))) ≡ joined (layer_founds (geometry s t) ps c r k j) m (layers_of s t)
joined_other s t ps list done rest p c r k j m h has lt e le other sent again =
    let g : Geometry = geometry s t in
    let layers : ℕ = layers_of s t in
    let number : ℕ = leaf_number g c r k j in
    let named : IsPacketName g layers p = due_named g layers list done rest p h.listed e in
    let x : WrittenPacket = ps.written p in
    let none : own_founds number (founds_in g (cut_at ps p)) ≡ [] =
    own_elsewhere g p (ps.before (next_layer p)) number x.bytes x.parts
    (parts_elsewhere g p c r k j x.parts h.range (has_precinct g layers p named) has lt other (packet_inside s t ps p h.written h.few named)) in
    own_cons number g (cut_at ps p) (cuts_at ps rest)
    ∙ ap (λ (xs : List FoundPiece). xs ++ own_founds number (founds_of g (cuts_at ps rest))) none
    ∙ again m le (sent_other g layers c r k done p m other sent)

-- those of the packets that are still to come
rest_joined : (s : Stream) (t : ℕ) (ps : Packets) (list done rest : List PacketName) (c r k j m : ℕ) → Joins s t ps list → HasPrecinct (geometry s t) c r k → j < leaves (geometry s t) c r k
    → list ≡ done ++ rest → m ≤ layers_of s t → Sent (layers_of s t) c r k done m
    → own_founds (leaf_number (geometry s t) c r k j) (founds_of (geometry s t) (cuts_at ps rest)) ≡ joined (layer_founds (geometry s t) ps c r k j) m (layers_of s t)
rest_joined s t ps list done [] c r k j m h has lt e le sent =
    let g : Geometry = geometry s t in
    let layers : ℕ = layers_of s t in
    let all : layers ≤ m = elim (cases_lt m layers) [
      | inl below ↦
          let p : PacketName = name_of m r c k in
          let C : List PacketName → Type 0 = λ xs. Contains xs p in
          let there : Contains done p = subst C (e ∙ append-nil done) ((h.listed.every p).1 (packet_named s t c r k m h.few has below)) in
          let again : m < m = (sent m below).1 there in
          absurd (omega arith)
      | inr ge ↦ ge
    ] in
    own_nil (leaf_number g c r k j) g ∙ sym (joined_none (layer_founds g ps c r k j) m layers all)
rest_joined s t ps list done (p ∷ rest) c r k j m h has lt e le sent =
    let again : Again s t ps (done ++ p ∷ []) rest c r k j =
    λ n few more. rest_joined s t ps list (done ++ p ∷ []) rest c r k j n h has lt (e ∙ sym (push_on done rest p)) few more in
    elim (cases_eq (number_of (geometry s t) p) (precinct_number (geometry s t) c r k)) [
      | inl same ↦ joined_here s t ps list done rest p c r k j m h has e le same sent again
      | inr other ↦ joined_other s t ps list done rest p c r k j m h has lt e le other sent again
    ]

-- all of them
pub own_joined_over : (s : Stream) (t : ℕ) (ps : Packets) (list : List PacketName) (c r k j : ℕ) → Joins s t ps list → HasPrecinct (geometry s t) c r k → j < leaves (geometry s t) c r k
    → own_founds (leaf_number (geometry s t) c r k j) (founds_of (geometry s t) (cuts_at ps list)) ≡ joined (layer_founds (geometry s t) ps c r k j) 0 (layers_of s t)
own_joined_over s t ps list c r k j h has lt =
    rest_joined s t ps list [] list c r k j 0 h has lt refl (omega arith) (λ l below. (λ x. absurd (omega (arith, x)), λ x. absurd (contains_none (name_of l r c k) x)))
