-- The pieces of a packet, put to their blocks one after another.
use Rattle.std.proofs.Common.{◌≡◌, ℕ, zero, suc, ◌+◌, ◌<◌, ◌≤◌, ◌^◌, List, [], ◌∷◌, length, get_or, drop, take, Option, Some, None, slice_get, refl, ap, sym, ◌∙◌, subst, arith, length-set, lit<, inl, inr, ◌⊎◌, All}
use Rattle.std.proofs.lemmas.Bool.{cases_eq}
use Rattle.std.proofs.lemmas.List.{at_drop_more}
use Rattle.std.proofs.lemmas.List.Elements.{All-head, All-tail}
use Rattle.jx_base.specs.declared.pieces.Block.{Block}
use Rattle.jx_geom.specs.Geometry.{Geometry}
use Rattle.jx_packet_header.specs.declared.HeaderPart.{HeaderPart}
use Rattle.jx_packet_header.specs.Packet.{State}
use Rattle.jx_progression.specs.declared.names.PacketName.{PacketName}
use Rattle.jx_tier2_reader.specs.Blocks.{FoundPiece, founds_from}
use Rattle.jx_tier2_reader.specs.Put.{put_to, put_at, put_one, put_all}
use Rattle.jx_tier2_reader.specs.Reading.{CanPut, HasRoom, found_of}
use Rattle.jx_base.proofs.Lists.{get-set_same, get-set_other}

-- ---- passes only grow
abbrev passes_of : Option Block → ℕ
passes_of None = 0
passes_of (Some b) = b.passes

get_within : (xs : List Block) (i : ℕ) (b : Block) → slice_get xs i ≡ Some b → i < length xs
get_within [] i b h = absurd (cc)
get_within (x ∷ xs) zero b h = omega arith
get_within (x ∷ xs) (suc i) b h = let lt : i < length xs = get_within xs i b h in omega arith

at_one : (blocks : List Block) (f : FoundPiece) (o : Option Block) → slice_get blocks f.number ≡ o → put_at o blocks f ≡ put_one blocks f
unfolding put_one
at_one blocks f o e = ap (λ (x : Option Block). put_at x blocks f) (sym e)

one_here : (blocks : List Block) (f : FoundPiece) (b : Block) → slice_get blocks f.number ≡ Some b → slice_get (put_one blocks f) f.number ≡ Some (put_to b f)
one_here blocks f b e =
    ap (λ (xs : List Block). slice_get xs f.number) (sym (at_one blocks f (Some b) e)) ∙ get-set_same blocks f.number (put_to b f) (get_within blocks f.number b e)

at_other : (o : Option Block) (blocks : List Block) (f : FoundPiece) (i : ℕ) → (f.number ≡ i → ⊥) → slice_get (put_at o blocks f) i ≡ slice_get blocks i
at_other None blocks f i ne = refl
at_other (Some b) blocks f i ne = get-set_other blocks f.number i (put_to b f) (λ (e : i ≡ f.number). ne (sym e))

one_other : (blocks : List Block) (f : FoundPiece) (i : ℕ) → (f.number ≡ i → ⊥) → slice_get (put_one blocks f) i ≡ slice_get blocks i
unfolding put_one
one_other blocks f i ne = at_other (slice_get blocks f.number) blocks f i ne

at_long : (o : Option Block) (blocks : List Block) (f : FoundPiece) → length (put_at o blocks f) ≡ length blocks
at_long None blocks f = refl
at_long (Some b) blocks f = length-set blocks f.number (put_to b f)

pub one_long : (blocks : List Block) (f : FoundPiece) → length (put_one blocks f) ≡ length blocks
unfolding put_one
one_long blocks f = at_long (slice_get blocks f.number) blocks f

one_grows : (blocks : List Block) (f : FoundPiece) (i : ℕ) → passes_of (slice_get blocks i) ≤ passes_of (slice_get (put_one blocks f) i)
one_grows blocks f i = by (cases_eq f.number i) (slice_get blocks f.number) refl
  where
    by : (f.number ≡ i) ⊎ (f.number ≡ i → ⊥) → (o : Option Block) → slice_get blocks f.number ≡ o → passes_of (slice_get blocks i) ≤ passes_of (slice_get (put_one blocks f) i)
    by (inr ne) o e = let same = ap passes_of (one_other blocks f i ne) in omega arith
    by (inl here) None e =
        let P : ℕ → Type 0 = λ n. passes_of (slice_get blocks n) ≤ passes_of (slice_get (put_one blocks f) n) in
        subst P here (let none : passes_of (slice_get blocks f.number) ≡ 0 = ap passes_of e in omega arith)
    by (inl here) (Some b) e =
        let P : ℕ → Type 0 = λ n. passes_of (slice_get blocks n) ≤ passes_of (slice_get (put_one blocks f) n) in
        subst P here (
        let was : passes_of (slice_get blocks f.number) ≡ b.passes = ap passes_of e in
        let is : passes_of (slice_get (put_one blocks f) f.number) ≡ b.passes + f.piece.passes = ap passes_of (one_here blocks f b e) in
        omega arith
        )

all_grow : (blocks : List Block) (founds : List FoundPiece) (i : ℕ) → passes_of (slice_get blocks i) ≤ passes_of (slice_get (put_all blocks founds) i)
all_grow blocks [] i = omega arith
all_grow blocks (f ∷ founds) i =
    let one = one_grows blocks f i in
    let more = all_grow (put_one blocks f) founds i in
    omega arith

few_there : (blocks : List Block) (i : ℕ) → All (λ (b : Block). b.passes < 2 ^ 16) blocks → passes_of (slice_get blocks i) < 2 ^ 16
few_there [] i h = lit< tt
few_there (x ∷ xs) zero h = All-head (λ (b : Block). b.passes < 2 ^ 16) x xs h
few_there (x ∷ xs) (suc i) h = few_there xs i (All-tail (λ (b : Block). b.passes < 2 ^ 16) x xs h)

-- ---- the first of some pieces
pub can_room : (blocks : List Block) (f : FoundPiece) (founds : List FoundPiece) → CanPut blocks (f ∷ founds) → HasRoom (slice_get blocks f.number) f.piece.passes
can_room blocks f founds can = by (slice_get blocks f.number) refl
  where
    by : (o : Option Block) → slice_get blocks f.number ≡ o → HasRoom o f.piece.passes
    by None e = tt
    by (Some b) e =
        let is : passes_of (slice_get (put_one blocks f) f.number) ≡ b.passes + f.piece.passes = ap passes_of (one_here blocks f b e) in
        let grows = all_grow (put_one blocks f) founds f.number in
        let few = few_there (put_all (put_one blocks f) founds) f.number can.few in
        omega arith

pub can_there : (blocks : List Block) (f : FoundPiece) (founds : List FoundPiece) → CanPut blocks (f ∷ founds) → f.number < length blocks
can_there blocks f founds can = All-head (λ (x : FoundPiece). x.number < length blocks) f founds can.there

pub can_rest : (blocks : List Block) (f : FoundPiece) (founds : List FoundPiece) → CanPut blocks (f ∷ founds) → CanPut (put_one blocks f) founds
can_rest blocks f founds can =
    let P : ℕ → Type 0 = λ n. All (λ (x : FoundPiece). x.number < n) founds in
    record { there = subst P (sym (one_long blocks f)) (All-tail (λ (x : FoundPiece). x.number < length blocks) f founds can.there); few = can.few }

-- ---- the piece of the next part
pub founds_next : (g : Geometry) (p : PacketName) (k : State) (rest : List ℕ) (parts : List HeaderPart) (i : ℕ) (d part : HeaderPart) → i < length parts → part ≡ get_or parts i d →
    founds_from g p k rest (drop i parts) ≡ found_of g p k part (take part.length rest) ∷ founds_from g p k (drop part.length rest) (drop (i + 1) parts)
founds_next g p k rest parts i d part h e =
    at_drop_more (founds_from g p k rest) parts i d h
    ∙ ap (λ (q : HeaderPart). found_of g p k q (take q.length rest) ∷ founds_from g p k (drop q.length rest) (drop (i + 1) parts)) (sym e)

pub put_next : (g : Geometry) (p : PacketName) (k : State) (blocks new : List Block) (rest front back : List ℕ) (parts : List HeaderPart) (i : ℕ) (d part : HeaderPart) → i < length parts → part ≡ get_or parts i d →
    front ≡ take part.length rest → back ≡ drop part.length rest → new ≡ put_one blocks (found_of g p k part front) →
    put_all new (founds_from g p k back (drop (i + 1) parts)) ≡ put_all blocks (founds_from g p k rest (drop i parts))
put_next g p k blocks new rest front back parts i d part h e f b n =
    let next = ap (put_all blocks) (founds_next g p k rest parts i d part h e) in
    let made = n ∙ ap (λ (x : List ℕ). put_one blocks (found_of g p k part x)) f in
    ap (λ (x : List Block). put_all x (founds_from g p k back (drop (i + 1) parts))) made
    ∙ ap (λ (x : List ℕ). put_all (put_one blocks (found_of g p k part (take part.length rest))) (founds_from g p k x (drop (i + 1) parts))) b
    ∙ sym next

pub can_next : (g : Geometry) (p : PacketName) (k : State) (blocks new : List Block) (rest front back : List ℕ) (parts : List HeaderPart) (i : ℕ) (d part : HeaderPart) → i < length parts → part ≡ get_or parts i d →
    front ≡ take part.length rest → back ≡ drop part.length rest → new ≡ put_one blocks (found_of g p k part front) →
    CanPut blocks (founds_from g p k rest (drop i parts)) → CanPut new (founds_from g p k back (drop (i + 1) parts))
can_next g p k blocks new rest front back parts i d part h e f b n can =
    let C : List FoundPiece → Type 0 = λ xs. CanPut blocks xs in
    let first = subst C (founds_next g p k rest parts i d part h e) can in
    let made = n ∙ ap (λ (x : List ℕ). put_one blocks (found_of g p k part x)) f in
    let N : List Block → Type 0 = λ xs. CanPut xs (founds_from g p k back (drop (i + 1) parts)) in
    let B : List ℕ → Type 0 = λ x. CanPut (put_one blocks (found_of g p k part (take part.length rest))) (founds_from g p k x (drop (i + 1) parts)) in
    subst N (sym made) (subst B (sym b) (can_rest blocks (found_of g p k part (take part.length rest)) (founds_from g p k (drop part.length rest) (drop (i + 1) parts)) first))
