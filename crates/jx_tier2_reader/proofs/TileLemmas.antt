-- The packets of a tile, read one after another.
use Rattle.std.proofs.Common.{◌≡◌, ℕ, suc, ◌+◌, ◌-◌, ◌<◌, ◌≤◌, ◌^◌, List, [], ◌∷◌, ◌++◌, length, get_or, set, drop, take, Option, None, Some, slice_get, refl, ap, sym, ◌∙◌, subst, arith, inl, inr, All, append-nil, ◌==◌, Bool, true, false, cond, length-take, take-append-drop}
use Rattle.std.specs.List.{flat_map}
use Rattle.std.specs.Borrow.{Bor}
use Rattle.std.specs.Option.{option_or}
use Rattle.std.specs.Prelude.{MatchOption, Result}
use Rattle.std.proofs.lemmas.List.{at_drop_more, at_drop_all, length-drop, length-set, take_more}
use Rattle.std.proofs.lemmas.List.Concat.{flat_map-append}
use Rattle.std.proofs.lemmas.List.Elements.{All-head, All-tail, All-cons, All-weaker}
use Rattle.std.proofs.lemmas.Bool.{both_ways, eq-eqb}
use Rattle.std.proofs.lemmas.Option.{get_or_from_slice_get, slice_get-get_or, slice_get_within}
use Rattle.jx_base.specs.declared.pieces.Block.{Block}
use Rattle.jx_geom.specs.Geometry.{Geometry, GeometryInRange, rect_of_tile}
use Rattle.jx_geom.specs.Counts.{tile_blocks}
use Rattle.jx_packet_header.specs.declared.HeaderPart.{HeaderPart}
use Rattle.jx_packet_header.specs.Packet.{State}
use Rattle.jx_packet_header.specs.Precinct.{IsState, all_blocks}
use Rattle.jx_progression.specs.declared.names.PacketName.{PacketName}
use Rattle.jx_codestream.specs.declared.Body.{Body}
use Rattle.jx_codestream.specs.declared.Stream.{Stream}
use Rattle.jx_codestream.specs.declared.faults.StreamFault.{StreamFault}
use Rattle.jx_tier2_reader.specs.declared.packet.Packet.{Packet}
use Rattle.jx_tile.specs.Faults.{Answers, HasCause}
use Rattle.jx_codestream.specs.Shapes.{geometry, layers_of, tile_at}
use Rattle.jx_geom.specs.Precincts.{HasPrecinct, leaf_number, leaves}
use Rattle.jx_tier2_reader.specs.Data.{window, due, due_or, behind, end_in, end_of_bytes, end_of_data, first_place, front_length, header_in, packed_behind, parts_length}
use Rattle.jx_tier2_reader.specs.Cuts.{Cut, Left, IsCut, IsTurn, AreCuts, names_of, number_of, Breaks, data_fault, left_fault, packed_fault}
use Rattle.jx_tier2_reader.specs.Blocks.{FoundPiece, founds_from, founds_in, founds_of, blocks_of_tile}
use Rattle.jx_tier2_reader.specs.InRange.{HeadsInRange}
use Rattle.jx_tier2_reader.specs.Put.{put_one, put_all}
use Rattle.jx_tile.specs.Covered.{IsListOf}
use Rattle.jx_tier2_reader.specs.Gathered.{AreTileBlocks, BreaksTile, head_pieces, start}
use Rattle.jx_tier2_reader.specs.Reading.{cut_of, CanPut, state_at, no_state, AreInside, AreShort, IsInside, IsFront, IsTask, seen}
use Rattle.jx_tile.proofs.TotalLemmas.{geometry_fits}
use Rattle.jx_tier2_reader.proofs.CellLemmas.{leaf_count}
use Rattle.jx_geom.proofs.LeafLemmas.{leaf_below}
use Rattle.jx_tier2_reader.proofs.BlockLemmas.{blocks_long}
use Rattle.jx_tier2_reader.proofs.PartLemmas.{PartIn, part_inside, packet_kept}
use Rattle.jx_tier2_reader.proofs.TurnLemmas.{Precincts, Keeps, Listed, Known, listed, due_named, has_precinct, known_there, layer_is}
use Rattle.jx_tier2_reader.proofs.HeadLemmas.{few_packed}
use Rattle.jx_tier2_reader.proofs.SoundLemmas.{IsBegun, begun, passes_fit, put_cuts}
use Rattle.jx_tier2_reader.proofs.ReadyLemmas.{keeps, precincts}
use Rattle.jx_tier2_reader.proofs.PacketLemmas.{cause_on}
use Rattle.jx_tier2_reader.proofs.PieceLemmas.{one_long}
use Rattle.jx_base.specs.Limits.{most_bytes}

-- ---- the data of tile-parts
pub inside_due : (b : List ℕ) (bodies : List Body) (body : Body) (later : List Body) → AreInside b bodies → due bodies ≡ body ∷ later → AreInside b (body ∷ later)
inside_due b [] body later all e = absurd (cc)
inside_due b (x ∷ bodies) body later all e = by (x.length == 0) (inside_due b bodies body later (All-tail (λ (y : Body). y.at + y.length ≤ length b) x bodies all)) e
  where
    by : (none : Bool) → (due bodies ≡ body ∷ later → AreInside b (body ∷ later)) → cond none (due bodies) (x ∷ bodies) ≡ body ∷ later → AreInside b (body ∷ later)
    by true again e = again e
    by false again e = let I : List Body → Type 0 = λ ys. AreInside b ys in subst I e all

pub inside_turn : (b : List ℕ) (left : Left) (body : Body) (later : List Body) → IsInside b left → due_or left.end (due left.bodies) ≡ body ∷ later → AreInside b (body ∷ later)
inside_turn b left body later inside e = by (due left.bodies) (λ x xs. inside_due b left.bodies x xs inside.bodies) e
  where
    by : (found : List Body) → ((x : Body) (xs : List Body) → found ≡ x ∷ xs → AreInside b (x ∷ xs)) → due_or left.end found ≡ body ∷ later → AreInside b (body ∷ later)
    by [] all is =
        let I : List Body → Type 0 = λ ys. AreInside b ys in
        let none : AreInside b [] = λ i d lt. absurd (omega arith) in
        subst I is (All-cons (λ (y : Body). y.at + y.length ≤ length b) (record { at = left.end; length = 0 }) [] (let low = inside.end in omega arith) none)
    by (x ∷ xs) all is = let I : List Body → Type 0 = λ ys. AreInside b ys in subst I is (all x xs refl)

-- where the packet that is due would begin without a byte, no byte of the tile data is left
first_long : List Body → ℕ
first_long [] = 0
first_long (body ∷ later) = body.length

due_empty : (at : ℕ) (bodies : List Body) (body : Body) (later : List Body) → due_or at (due bodies) ≡ body ∷ later → body.length ≡ 0 → due bodies ≡ []
unfolding first_long
due_empty at [] body later e none = refl
due_empty at (x ∷ bodies) body later e none = by (x.length == 0) refl (λ f. due_empty at bodies body later f none) e
  where
    by : (c : Bool) → (x.length == 0) ≡ c → (due_or at (due bodies) ≡ body ∷ later → due bodies ≡ []) → due_or at (cond c (due bodies) (x ∷ bodies)) ≡ body ∷ later → cond c (due bodies) (x ∷ bodies) ≡ []
    by true t again f = again f
    by false t again f = absurd (both_ways (x.length == 0) t (eq-eqb x.length 0 (ap first_long f ∙ none)))

-- so what is left is what is left of the packed headers
pub used_up : {X : Type 0} (pieces : List Body) (old : Left) (body : Body) (later : List Body) (packed : Option (List ℕ)) (r : Result X StreamFault)
    → due_or old.end (due old.bodies) ≡ body ∷ later → body.length ≡ 0 → packed ≡ old.packed → Answers r (packed_fault pieces packed) (λ x. Unit {0}) → Answers r (left_fault pieces old) (λ x. Unit {0})
used_up pieces old body later packed r first none same answer =
    let empty : due old.bodies ≡ [] = due_empty old.end old.bodies body later first none in
    let fault : packed_fault pieces packed ≡ left_fault pieces old =
    ap (packed_fault pieces) same ∙ sym (ap (λ (xs : List Body). option_or (data_fault xs) (packed_fault pieces old.packed)) empty) in
    subst (λ (o : Option StreamFault). Answers r o (λ x. Unit {0})) fault answer

pub behind_inside : (b : List ℕ) (body : Body) (later : List Body) (count : ℕ) → count ≤ body.length → AreInside b (body ∷ later) → AreInside b (behind body count ∷ later)
behind_inside b body later count few all =
    let first : body.at + body.length ≤ length b = All-head (λ (y : Body). y.at + y.length ≤ length b) body later all in
    All-cons (λ (y : Body). y.at + y.length ≤ length b) (behind body count) later (omega arith) (All-tail (λ (y : Body). y.at + y.length ≤ length b) body later all)

pub end_inside : (b : List ℕ) (bodies : List Body) → AreInside b bodies → end_of_data bodies ≤ length b
end_inside b [] all = omega arith
end_inside b (x ∷ []) all = All-head (λ (body : Body). body.at + body.length ≤ length b) x [] all
end_inside b (x ∷ y ∷ bodies) all = end_inside b (y ∷ bodies) (All-tail (λ (body : Body). body.at + body.length ≤ length b) x (y ∷ bodies) all)

pub last_ends : (bodies : List Body) (body : Body) → Some body ≡ slice_get bodies (length bodies - 1) → body.at + body.length ≡ end_of_data bodies
last_ends [] body e = absurd (cc)
last_ends (x ∷ []) body e = let same : body ≡ x = cc in ap (λ (y : Body). y.at + y.length) same
last_ends (x ∷ y ∷ bodies) body e =
    let less : suc (suc (length bodies)) - 1 ≡ suc (length bodies) = omega arith in
    let again : suc (length bodies) - 1 ≡ length bodies = omega arith in
    let P : ℕ → Type 0 = λ n. Some body ≡ slice_get (x ∷ y ∷ bodies) n in
    let Q : ℕ → Type 0 = λ n. Some body ≡ slice_get (y ∷ bodies) n in
    last_ends (y ∷ bodies) body (subst Q (sym again) (subst P less e))

-- pieces of a file that is read end before 2^32
pub heads_short : (b : List ℕ) (pieces : List Body) → length b ≤ most_bytes → HeadsInRange b pieces → AreShort pieces
heads_short b pieces fits range =
    All-weaker (λ (x : Body). x.at + x.length ≤ length b) (λ (x : Body). x.at + x.length < 2 ^ 32) (λ x le. (let low : x.at + x.length ≤ length b = le in omega (arith, low, fits))) pieces range.inside

pub bodies_short : (b : List ℕ) (bodies : List Body) → length b ≤ most_bytes → AreInside b bodies → AreShort bodies
bodies_short b bodies fits inside =
    All-weaker (λ (x : Body). x.at + x.length ≤ length b) (λ (x : Body). x.at + x.length < 2 ^ 32) (λ x le. (let low : x.at + x.length ≤ length b = le in omega (arith, low, fits))) bodies inside

pub seen_heads : (found : Option (Bor (List Body))) (heads : Option (List Body)) → MatchOption found (heads ≡ None) (λ pieces. heads ≡ Some pieces.now) → seen found ≡ heads
seen_heads None heads is = sym is
seen_heads (Some pieces) heads is = sym is

-- a packet begins in the file, or at its end
bytes_end : (b : List ℕ) (at : ℕ) (bodies : List Body) → at ≤ length b → AreInside b bodies → end_of_bytes at bodies ≤ length b
bytes_end b at [] low all = low
bytes_end b at (body ∷ later) low all =
    let own : body.at + body.length ≤ length b = All-head (λ (x : Body). x.at + x.length ≤ length b) body later all in
    let rest = All-tail (λ (x : Body). x.at + x.length ≤ length b) body later all in
    by (body.length == 0) (bytes_end b at later low rest) (bytes_end b (body.at + body.length) later own rest)
  where
    by : (c : Bool) → end_of_bytes at later ≤ length b → end_of_bytes (body.at + body.length) later ≤ length b → end_of_bytes (cond c at (body.at + body.length)) later ≤ length b
    by true x y = x
    by false x y = y

first_low : (b : List ℕ) (bodies : List Body) → AreInside b bodies → first_place bodies ≤ length b
first_low b [] all = omega arith
first_low b (body ∷ later) all =
    let own : body.at + body.length ≤ length b = All-head (λ (x : Body). x.at + x.length ≤ length b) body later all in
    omega arith

pub end_low : (b : List ℕ) (heads : Option (List Body)) (bodies : List Body) → AreInside b bodies → end_in heads bodies ≤ length b
end_low b None bodies all = end_inside b bodies all
end_low b (Some pieces) bodies all = bytes_end b (first_place bodies) bodies (first_low b bodies all) all

-- ---- cuts
pub cuts_on : (b : List ℕ) (g : Geometry) (number : ℕ) (old mid new : Left) (cuts : List Cut) (c : Cut) → AreCuts b g number old cuts mid → IsTurn b g (number + length cuts) mid c new
    → AreCuts b g number old (cuts ++ c ∷ []) new
cuts_on b g number old mid new [] c are turn =
    let T : Left → Type 0 = λ l. IsTurn b g (number + 0) l c new in
    let N : ℕ → Type 0 = λ n. IsTurn b g n old c new in
    let same : number + 0 ≡ number = omega arith in
    (new, subst N same (subst T (sym are) turn), refl)
cuts_on b g number old mid new (x ∷ cuts) c are turn =
    let N : ℕ → Type 0 = λ n. IsTurn b g n mid c new in
    let same : number + suc (length cuts) ≡ number + 1 + length cuts = omega arith in
    (are.0, are.1, cuts_on b g (number + 1) are.0 mid new cuts c are.2 (subst N same turn))

pub names_on : (cuts : List Cut) (c : Cut) → names_of (cuts ++ c ∷ []) ≡ names_of cuts ++ c.name ∷ []
names_on [] c = refl
names_on (x ∷ cuts) c = ap (λ (xs : List PacketName). x.name ∷ xs) (names_on cuts c)

names_long : (cuts : List Cut) → length (names_of cuts) ≡ length cuts
names_long [] = refl
names_long (x ∷ cuts) = ap suc (names_long cuts)

founds_on : (g : Geometry) (cuts : List Cut) (c : Cut) → founds_of g (cuts ++ c ∷ []) ≡ founds_of g cuts ++ founds_in g c
unfolding founds_of
founds_on g cuts c = flat_map-append (founds_in g) cuts (c ∷ []) ∙ ap (λ (xs : List FoundPiece). flat_map (founds_in g) cuts ++ xs) (append-nil (founds_in g c))

put_append : (blocks : List Block) (xs ys : List FoundPiece) → put_all blocks (xs ++ ys) ≡ put_all (put_all blocks xs) ys
put_append blocks [] ys = refl
put_append blocks (x ∷ xs) ys = put_append (put_one blocks x) xs ys

put_long : (blocks : List Block) (founds : List FoundPiece) → length (put_all blocks founds) ≡ length blocks
put_long blocks [] = refl
put_long blocks (f ∷ founds) = put_long (put_one blocks f) founds ∙ one_long blocks f

-- ---- a list that is read up to some place
rest_is : (list done : List PacketName) (i : ℕ) (d : PacketName) → done ≡ take i list → i < length list → list ≡ done ++ (get_or list i d ∷ drop (i + 1) list)
rest_is list done i d e h =
    sym (take-append-drop i list) ∙ ap (λ (xs : List PacketName). xs ++ drop i list) (sym e) ∙ at_drop_more (λ (xs : List PacketName). done ++ xs) list i d h

all_is : (list done : List PacketName) (i : ℕ) → done ≡ take i list → length list ≤ i → done ≡ list
all_is list done i e h =
    let none : drop i list ≡ [] = at_drop_all (λ (xs : List PacketName). xs) list i h in
    e ∙ sym (append-nil (take i list)) ∙ ap (λ (xs : List PacketName). take i list ++ xs) (sym none) ∙ take-append-drop i list

done_long : (list : List PacketName) (cuts : List Cut) (i : ℕ) → names_of cuts ≡ take i list → i ≤ length list → length cuts ≡ i
done_long list cuts i e h = omega (arith, names_long cuts, ap length e, length-take i list)

-- ---- the precinct of the packet that is due
pub record IsReady (g : Geometry) (states : List State) (n : ℕ) (p : PacketName) : Type 0 where
  pub precinct : HasPrecinct g p.comp p.res p.precinct
  pub there : n < length states
  pub is : IsState (state_at states n)
  pub layer : (state_at states n).layer ≡ p.layer
  pub leaves_are : length (all_blocks (state_at states n).bands) ≡ leaves g p.comp p.res p.precinct

known_ready : (s : Stream) (g : Geometry) (layers : ℕ) (list done rest : List PacketName) (p : PacketName) (states : List State) → Listed g layers list → list ≡ done ++ (p ∷ rest)
    → Known s g layers done states p.comp p.res p.precinct → IsReady g states (number_of g p) p
known_ready s g layers list done rest p states h e k =
    let same : state_at states (number_of g p) ≡ k.state = get_or_from_slice_get states (number_of g p) k.state no_state k.turned.known in
    let I : State → Type 0 = λ x. IsState x in
    record {
      precinct = has_precinct g layers p (due_named g layers list done rest p h e);
      there = slice_get_within states (number_of g p) k.state k.turned.known;
      is = subst I (sym same) k.is;
      layer = ap (λ (x : State). x.layer) same ∙ layer_is g layers list done rest p states k.state h e k.turned;
      leaves_are = ap (λ (x : State). length (all_blocks x.bands)) same ∙ k.blocks ∙ leaf_count s g p.comp p.res p.precinct;
    }

ready : (b : List ℕ) (s : Stream) (g : Geometry) (list : List PacketName) (number : ℕ) (left : Left) (blocks : List Block) (d : PacketName) → IsTask b s g list → number < length list
    → IsFront b s g.tile (take number list) left blocks → IsReady (geometry s g.tile) left.states (number_of (geometry s g.tile) (get_or list number d)) (get_or list number d)
ready b s g list number left blocks d task lt front =
    let t : ℕ = g.tile in
    let p : PacketName = get_or list number d in
    let after : List PacketName = drop (number + 1) list in
    let hold : Keeps b = keeps b (let few = task.fits in omega arith) in
    let places : Precincts s (geometry s t) = precincts s t task.range task.totals task.below in
    let h : Listed (geometry s t) (layers_of s t) list = listed s t list task.order task.whole in
    let e = rest_is list (names_of front.cuts) number d front.names lt in
    let all = known_there b s t list front.cuts (p ∷ after) front.mid places hold h e (few_packed b (tile_at s t).heads task.heads) front.are in
    let own = has_precinct (geometry s t) (layers_of s t) p (due_named (geometry s t) (layers_of s t) list (names_of front.cuts) after p h e) in
    let k = all p.comp p.res p.precinct own in
    let S : List State → Type 0 = λ xs. IsReady (geometry s t) xs (number_of (geometry s t) p) p in
    subst S front.states_are (known_ready s (geometry s t) (layers_of s t) list (names_of front.cuts) after p front.mid.states h e k)

pub ready_at : (b : List ℕ) (s : Stream) (g : Geometry) (list : List PacketName) (number : ℕ) (left : Left) (blocks : List Block) (d : PacketName) (states : List State) (n : ℕ) → IsTask b s g list
    → number < length list → IsFront b s g.tile (take number list) left blocks → states ≡ left.states → n ≡ number_of g (get_or list number d) → IsReady g states n (get_or list number d)
ready_at b s g list number left blocks d states n task lt front es en =
    let p : PacketName = get_or list number d in
    let S : List State → Type 0 = λ xs. IsReady (geometry s g.tile) xs (number_of (geometry s g.tile) p) p in
    let N : ℕ → Type 0 = λ m. IsReady (geometry s g.tile) states m p in
    let G : Geometry → Type 0 = λ x. IsReady x states n p in
    let same : n ≡ number_of (geometry s g.tile) p = en ∙ ap (λ (x : Geometry). number_of x p) task.geometry_is in
    subst G (sym task.geometry_is) (subst N (sym same) (subst S (sym es) (ready b s g list number left blocks d task lt front)))

-- ---- what is violated
-- a byte is left behind all packets
left_same : (pieces : List Body) (old new : Left) → due old.bodies ≡ due new.bodies → old.packed ≡ new.packed → left_fault pieces old ≡ left_fault pieces new
left_same pieces old new bodies packed =
    ap (λ (xs : List Body). option_or (data_fault xs) (packed_fault pieces old.packed)) bodies
    ∙ ap (λ (x : Option (List ℕ)). option_or (data_fault (due new.bodies)) (packed_fault pieces x)) packed

pub left_over : (b : List ℕ) (s : Stream) (g : Geometry) (list : List PacketName) (number : ℕ) (left : Left) (blocks : List Block) (pieces : List Body) (e : StreamFault) → IsTask b s g list → length list ≤ number
    → IsFront b s g.tile (take number list) left blocks → pieces ≡ head_pieces s g.tile → HasCause (λ f. left_fault pieces left ≡ Some f) e → HasCause (BreaksTile b s g.tile) e
left_over b s g list number left blocks pieces e task ge front pieces_are broken =
    let L : List PacketName → Type 0 = λ xs. IsListOf s g.tile xs in
    let same : left_fault (head_pieces s g.tile) front.mid ≡ left_fault pieces left =
    left_same (head_pieces s g.tile) front.mid left front.due_are front.packed_is ∙ ap (λ (xs : List Body). left_fault xs left) (sym pieces_are) in
    cause_on (λ f. left_fault pieces left ≡ Some f) (BreaksTile b s g.tile) e (λ f h. record {
      cuts = front.cuts;
      rest = [];
      order = subst L (sym (append-nil (names_of front.cuts) ∙ all_is list (names_of front.cuts) number front.names ge)) task.order;
      left = front.mid;
      are = front.are;
      stops = same ∙ h;
    }) broken

-- a rule is violated in the packet that is due
due_same : (old new : Left) → due old.bodies ≡ due new.bodies → old.end ≡ new.end → due_or old.end (due old.bodies) ≡ due_or new.end (due new.bodies)
due_same old new bodies end = ap (λ (n : ℕ). due_or n (due old.bodies)) end ∙ ap (due_or new.end) bodies

pub due_breaks : (b : List ℕ) (s : Stream) (g : Geometry) (list : List PacketName) (number : ℕ) (left : Left) (blocks : List Block) (d : PacketName) (body : Body) (later : List Body) (packed : Option (List ℕ)) (w : List ℕ) (states : List State) (n : ℕ) (e : StreamFault)
    → IsTask b s g list → number < length list → IsFront b s g.tile (take number list) left blocks → due_or left.end (due left.bodies) ≡ body ∷ later → w ≡ window b body
    → packed ≡ left.packed → states ≡ left.states → n ≡ number_of g (get_or list number d) → n < length states
    → HasCause (Breaks packed w body.at number (state_at states n)) e → HasCause (BreaksTile b s g.tile) e
due_breaks b s g list number left blocks d body later packed w states n e task lt front due_is window_is ep es en there breaks =
    let p : PacketName = get_or list number d in
    let L : List PacketName → Type 0 = λ xs. IsListOf s g.tile xs in
    let same : n ≡ number_of (geometry s g.tile) p = en ∙ ap (λ (x : Geometry). number_of x p) task.geometry_is in
    let long : length front.cuts ≡ number = done_long list front.cuts number front.names (omega arith) in
    let found : slice_get front.mid.states (number_of (geometry s g.tile) p) ≡ Some (state_at states n) =
    ap (λ (xs : List State). slice_get xs (number_of (geometry s g.tile) p)) (front.states_are ∙ sym es) ∙ ap (λ (m : ℕ). slice_get states m) (sym same) ∙ slice_get-get_or states n no_state there in
    let packed_is : packed ≡ front.mid.packed = ep ∙ sym front.packed_is in
    let W : StreamFault → List ℕ → Type 0 = λ f x. Breaks packed x body.at number (state_at states n) f in
    let P : StreamFault → Option (List ℕ) → Type 0 = λ f x. Breaks x (window b body) body.at number (state_at states n) f in
    let M : StreamFault → ℕ → Type 0 = λ f m. Breaks front.mid.packed (window b body) body.at m (state_at states n) f in
    cause_on (Breaks packed w body.at number (state_at states n)) (BreaksTile b s g.tile) e (λ f h. record {
      cuts = front.cuts;
      rest = p ∷ drop (number + 1) list;
      order = subst L (rest_is list (names_of front.cuts) number d front.names lt) task.order;
      left = front.mid;
      are = front.are;
      stops = record {
        body = body;
        later = later;
        due_is = due_same front.mid left front.due_are front.end_is ∙ due_is;
        state = state_at states n;
        known = found;
        breaks = subst (M f) (sym long) (subst (P f) packed_is (subst (W f) window_is h));
      };
    }) breaks

-- ---- a packet that is read
pub record Step (b : List ℕ) (g : Geometry) (number : ℕ) (left : Left) (p : PacketName) (packet : Packet) (after : State) (new : Left) : Type 0 where
  pub body : Body
  pub later : List Body
  pub due_is : due_or left.end (due left.bodies) ≡ body ∷ later
  pub n : ℕ
  pub number_is : n ≡ number_of g p
  pub there : n < length left.states
  pub cut : IsCut left.packed (window b body) number (state_at left.states n) (cut_of p packet after)
  pub bodies_are : new.bodies ≡ behind body packet.count ∷ later
  pub end_is : new.end ≡ left.end
  pub packed_is : new.packed ≡ packed_behind left.packed packet.used
  pub states_are : new.states ≡ set left.states n after

pub step_made : (b : List ℕ) (g : Geometry) (number : ℕ) (left : Left) (p : PacketName) (packet : Packet) (after : State) (new : Left) (body : Body) (later : List Body) (packed : Option (List ℕ)) (w : List ℕ) (states read : List State) (n : ℕ)
    → due_or left.end (due left.bodies) ≡ body ∷ later → n ≡ number_of g p → packed ≡ left.packed → states ≡ left.states → n < length states → w ≡ window b body
    → IsCut packed w number (state_at states n) (cut_of p packet (state_at read n)) → after ≡ state_at read n → read ≡ set states n (state_at read n)
    → new.bodies ≡ behind body packet.count ∷ later → new.end ≡ left.end → new.packed ≡ packed_behind packed packet.used → new.states ≡ read → Step b g number left p packet after new
step_made b g number left p packet after new body later packed w states read n due_is en ep es there window_is cut after_is read_is bodies_are end_is packed_is states_are =
    let W : List ℕ → Type 0 = λ x. IsCut packed x number (state_at states n) (cut_of p packet (state_at read n)) in
    let P : Option (List ℕ) → Type 0 = λ x. IsCut x (window b body) number (state_at states n) (cut_of p packet (state_at read n)) in
    let S : List State → Type 0 = λ xs. IsCut left.packed (window b body) number (state_at xs n) (cut_of p packet (state_at read n)) in
    let A : State → Type 0 = λ x. IsCut left.packed (window b body) number (state_at left.states n) (cut_of p packet x) in
    let T : List State → Type 0 = λ xs. n < length xs in
    record {
      body = body;
      later = later;
      due_is = due_is;
      n = n;
      number_is = en;
      there = subst T es there;
      cut = subst A (sym after_is) (subst S es (subst P ep (subst W window_is cut)));
      bodies_are = bodies_are;
      end_is = end_is;
      packed_is = packed_is ∙ ap (λ (x : Option (List ℕ)). packed_behind x packet.used) ep;
      states_are = states_are ∙ read_is ∙ ap (λ (xs : List State). set xs n (state_at read n)) es ∙ ap (λ (x : State). set left.states n x) (sym after_is);
    }

pub next_front : (b : List ℕ) (s : Stream) (g : Geometry) (list : List PacketName) (number : ℕ) (left : Left) (blocks : List Block) (d : PacketName) (packet : Packet) (after : State) (new : Left) (more : List Block)
    → IsTask b s g list → number < length list → IsFront b s g.tile (take number list) left blocks → Step b g number left (get_or list number d) packet after new
    → more ≡ put_all blocks (founds_from g (get_or list number d) after packet.bytes.now packet.parts.items) → IsFront b s g.tile (take (number + 1) list) new more
next_front b s g list number left blocks d packet after new more task lt front step put =
    let t : ℕ = g.tile in
    let p : PacketName = get_or list number d in
    let c : Cut = cut_of p packet after in
    let same : step.n ≡ number_of (geometry s t) p = step.number_is ∙ ap (λ (x : Geometry). number_of x p) task.geometry_is in
    let long : length front.cuts ≡ number = done_long list front.cuts number front.names (omega arith) in
    let mid : Left = record {
      bodies = behind step.body packet.count ∷ step.later;
      end = front.mid.end;
      packed = packed_behind front.mid.packed packet.used;
      states = set front.mid.states (number_of (geometry s t) p) after;
    } in
    let found : slice_get front.mid.states (number_of (geometry s t) p) ≡ Some (state_at left.states step.n) =
    ap (λ (xs : List State). slice_get xs (number_of (geometry s t) p)) front.states_are ∙ ap (λ (m : ℕ). slice_get left.states m) (sym same) ∙ slice_get-get_or left.states step.n no_state step.there in
    let P : Option (List ℕ) → Type 0 = λ x. IsCut x (window b step.body) number (state_at left.states step.n) c in
    let M : ℕ → Type 0 = λ m. IsCut front.mid.packed (window b step.body) m (state_at left.states step.n) c in
    let turn : IsTurn b (geometry s t) (0 + length front.cuts) front.mid c mid = record {
      body = step.body;
      later = step.later;
      due_is = due_same front.mid left front.due_are front.end_is ∙ step.due_is;
      state = state_at left.states step.n;
      known = found;
      cut = (let e : number ≡ 0 + length front.cuts = omega arith in subst M e (subst P (sym front.packed_is) step.cut));
      new_is = refl;
    } in
    let base : List Block = blocks_of_tile s (geometry s t) [] in
    record {
      cuts = front.cuts ++ c ∷ [];
      names = names_on front.cuts c ∙ ap (λ (xs : List PacketName). xs ++ p ∷ []) front.names ∙ sym (take_more list number d lt);
      mid = mid;
      are = cuts_on b (geometry s t) 0 (start b s t) front.mid mid front.cuts c front.are turn;
      due_are = ap due (sym step.bodies_are);
      end_is = front.end_is ∙ sym step.end_is;
      packed_is = ap (λ (x : Option (List ℕ)). packed_behind x packet.used) front.packed_is ∙ sym step.packed_is;
      states_are = ap (λ (xs : List State). set xs (number_of (geometry s t) p) after) front.states_are ∙ ap (λ (m : ℕ). set left.states m after) (sym same) ∙ sym step.states_are;
      blocks_are = put ∙ ap (λ (x : Geometry). put_all blocks (founds_from x p after packet.bytes.now packet.parts.items)) task.geometry_is
          ∙ ap (λ (xs : List Block). put_all xs (founds_in (geometry s t) c)) front.blocks_are
          ∙ sym (put_append base (founds_of (geometry s t) front.cuts) (founds_in (geometry s t) c))
          ∙ ap (λ (xs : List FoundPiece). put_all base xs) (sym (founds_on (geometry s t) front.cuts c));
    }

-- ---- the blocks so far
front_begun : (b : List ℕ) (s : Stream) (g : Geometry) (list : List PacketName) (number : ℕ) (left : Left) (blocks : List Block) → IsTask b s g list
    → (front : IsFront b s g.tile (take number list) left blocks) → IsBegun b s g.tile front.cuts front.mid
front_begun b s g list number left blocks task front =
    let L : List PacketName → Type 0 = λ xs. IsListOf s g.tile xs in
    let whole : list ≡ names_of front.cuts ++ drop number list = sym (take-append-drop number list) ∙ ap (λ (xs : List PacketName). xs ++ drop number list) (sym front.names) in
    begun b s g.tile front.cuts (drop number list) front.mid task.range (geometry_fits s g.tile task.range task.totals task.below) task.below task.fits task.bodies
    (subst L whole task.order) front.are

front_blocks : (b : List ℕ) (s : Stream) (g : Geometry) (list : List PacketName) (number : ℕ) (left : Left) (blocks : List Block) → IsTask b s g list
    → (front : IsFront b s g.tile (take number list) left blocks) → blocks ≡ blocks_of_tile s (geometry s g.tile) (founds_of (geometry s g.tile) front.cuts)
front_blocks b s g list number left blocks task front = front.blocks_are ∙ put_cuts b s g.tile front.cuts front.mid (front_begun b s g list number left blocks task front)

front_few : (b : List ℕ) (s : Stream) (g : Geometry) (list : List PacketName) (number : ℕ) (left : Left) (blocks : List Block) → IsTask b s g list
    → IsFront b s g.tile (take number list) left blocks → All (λ (k : Block). k.passes < 2 ^ 16) blocks
front_few b s g list number left blocks task front =
    let F : List Block → Type 0 = λ xs. All (λ (k : Block). k.passes < 2 ^ 16) xs in
    subst F (sym (front_blocks b s g list number left blocks task front)) (passes_fit b s g.tile front.cuts front.mid (front_begun b s g list number left blocks task front))

front_long : (b : List ℕ) (s : Stream) (t : ℕ) (done : List PacketName) (left : Left) (blocks : List Block) → IsFront b s t done left blocks
    → length blocks ≡ tile_blocks (rect_of_tile (geometry s t)) (geometry s t).shapes
front_long b s t done left blocks front =
    ap length front.blocks_are ∙ put_long (blocks_of_tile s (geometry s t) []) (founds_of (geometry s t) front.cuts) ∙ blocks_long s (geometry s t) []

founds_below : (g : Geometry) (p : PacketName) (k : State) (m count : ℕ) (bytes : List ℕ) (parts : List HeaderPart) → ((j : ℕ) → j < count → leaf_number g p.comp p.res p.precinct j < m)
    → All (λ (part : HeaderPart). part.block < count) parts → All (λ (f : FoundPiece). f.number < m) (founds_from g p k bytes parts)
founds_below g p k m count bytes [] low all = λ i d lt. absurd (omega arith)
founds_below g p k m count bytes (part ∷ parts) low all =
    All-cons (λ (f : FoundPiece). f.number < m) _ (founds_from g p k (drop part.length bytes) parts) (low part.block (All-head (λ (q : HeaderPart). q.block < count) part parts all))
    (founds_below g p k m count (drop part.length bytes) parts low (All-tail (λ (q : HeaderPart). q.block < count) part parts all))

pub parts_there : (b : List ℕ) (g : Geometry) (number : ℕ) (left : Left) (p : PacketName) (packet : Packet) (after : State) (new : Left) → (step : Step b g number left p packet after new)
    → All (λ (part : HeaderPart). part.block < length (all_blocks (state_at left.states step.n).bands)) packet.parts.items
parts_there b g number left p packet after new step =
    let count : ℕ = length (all_blocks (state_at left.states step.n).bands) in
    All-weaker (PartIn count) (λ (part : HeaderPart). part.block < count) (λ part in_it. in_it.inside) packet.parts.items
    (part_inside (header_in left.packed (window b step.body)) (state_at left.states step.n) packet.parts.items packet.used after step.cut.header)

pub can_put : (b : List ℕ) (s : Stream) (g : Geometry) (list : List PacketName) (number : ℕ) (left : Left) (blocks : List Block) (d : PacketName) (packet : Packet) (after : State) (new : Left)
    → IsTask b s g list → number < length list → IsFront b s g.tile (take number list) left blocks → Step b g number left (get_or list number d) packet after new
    → CanPut blocks (founds_from g (get_or list number d) after packet.bytes.now packet.parts.items)
can_put b s g list number left blocks d packet after new task lt front step =
    let p : PacketName = get_or list number d in
    let founds : List FoundPiece = founds_from g p after packet.bytes.now packet.parts.items in
    let is : IsReady g left.states step.n p = ready_at b s g list number left blocks d left.states step.n task lt front refl step.number_is in
    let range : GeometryInRange (geometry s g.tile) = geometry_fits s g.tile task.range task.totals task.below in
    let R : Geometry → Type 0 = λ x. GeometryInRange x in
    let B : Geometry → Type 0 = λ x. length blocks ≡ tile_blocks (rect_of_tile x) x.shapes in
    let long : length blocks ≡ tile_blocks (rect_of_tile g) g.shapes = subst B (sym task.geometry_is) (front_long b s g.tile (take number list) left blocks front) in
    let C : ℕ → Type 0 = λ m. All (λ (part : HeaderPart). part.block < m) packet.parts.items in
    let low : (j : ℕ) → j < leaves g p.comp p.res p.precinct → leaf_number g p.comp p.res p.precinct j < length blocks = λ j lt.
    (let below : leaf_number g p.comp p.res p.precinct j < tile_blocks (rect_of_tile g) g.shapes = leaf_below g p.comp p.res p.precinct j (subst R (sym task.geometry_is) range) is.precinct lt in omega arith) in
    record {
      there = founds_below g p after (length blocks) (leaves g p.comp p.res p.precinct) packet.bytes.now packet.parts.items low
          (subst C is.leaves_are (parts_there b g number left p packet after new step));
      few = front_few b s g list (number + 1) new (put_all blocks founds) task (next_front b s g list number left blocks d packet after new (put_all blocks founds) task lt front step refl);
    }

-- ---- all packets
pub all_read : (b : List ℕ) (s : Stream) (g : Geometry) (list : List PacketName) (number : ℕ) (left : Left) (blocks : List Block) (pieces : List Body) → IsTask b s g list → length list ≤ number
    → IsFront b s g.tile (take number list) left blocks → pieces ≡ head_pieces s g.tile → left_fault pieces left ≡ None → AreTileBlocks b s g.tile blocks
all_read b s g list number left blocks pieces task ge front pieces_are none =
    let L : List PacketName → Type 0 = λ xs. IsListOf s g.tile xs in (
      front.cuts,
      record {
        order = subst L (sym (all_is list (names_of front.cuts) number front.names ge)) task.order;
        end = front.mid;
        are = front.are;
        none_left = left_same (head_pieces s g.tile) front.mid left front.due_are front.packed_is ∙ ap (λ (xs : List Body). left_fault xs left) (sym pieces_are) ∙ none;
      },
      front_blocks b s g list number left blocks task front,
    )

-- no packet
pub first_front : (b : List ℕ) (s : Stream) (g : Geometry) (left : Left) (blocks : List Block) → g ≡ geometry s g.tile → due left.bodies ≡ due (tile_at s g.tile).bodies
    → left.end ≡ (start b s g.tile).end → left.packed ≡ (start b s g.tile).packed → left.states ≡ (start b s g.tile).states → blocks ≡ blocks_of_tile s g [] → IsFront b s g.tile [] left blocks
unfolding founds_of
first_front b s g left blocks geometry_is bodies end packed states same = record {
  cuts = [];
  names = refl;
  mid = start b s g.tile;
  are = refl;
  due_are = sym bodies;
  end_is = sym end;
  packed_is = sym packed;
  states_are = sym states;
  blocks_are = same ∙ ap (λ (x : Geometry). blocks_of_tile s x []) geometry_is;
}

-- ---- after a packet
after_kept : (b : List ℕ) (g : Geometry) (number : ℕ) (left : Left) (p : PacketName) (packet : Packet) (after : State) (new : Left) → (step : Step b g number left p packet after new)
    → length (all_blocks after.bands) ≡ length (all_blocks (state_at left.states step.n).bands)
after_kept b g number left p packet after new step =
    (packet_kept (header_in left.packed (window b step.body)) (state_at left.states step.n) packet.parts.items packet.used after step.cut.header).blocks

pub after_parts : (b : List ℕ) (g : Geometry) (number : ℕ) (left : Left) (p : PacketName) (packet : Packet) (after : State) (new : Left) → (step : Step b g number left p packet after new)
    → All (λ (part : HeaderPart). part.block < length (all_blocks after.bands)) packet.parts.items
after_parts b g number left p packet after new step =
    let C : ℕ → Type 0 = λ m. All (λ (part : HeaderPart). part.block < m) packet.parts.items in
    subst C (sym (after_kept b g number left p packet after new step)) (parts_there b g number left p packet after new step)

pub after_leaves : (b : List ℕ) (s : Stream) (g : Geometry) (list : List PacketName) (number : ℕ) (left : Left) (blocks : List Block) (d : PacketName) (packet : Packet) (after : State) (new : Left)
    → IsTask b s g list → number < length list → IsFront b s g.tile (take number list) left blocks → Step b g number left (get_or list number d) packet after new
    → length (all_blocks after.bands) ≡ leaves g (get_or list number d).comp (get_or list number d).res (get_or list number d).precinct
after_leaves b s g list number left blocks d packet after new task lt front step =
    after_kept b g number left (get_or list number d) packet after new step
    ∙ (ready_at b s g list number left blocks d left.states step.n task lt front refl step.number_is).leaves_are

pub next_inside : (b : List ℕ) (old new : Left) (body : Body) (later : List Body) (count : ℕ) (w : List ℕ) → IsInside b old → due_or old.end (due old.bodies) ≡ body ∷ later → w ≡ window b body
    → count ≤ length w → new.bodies ≡ behind body count ∷ later → new.end ≡ old.end → IsInside b new
next_inside b old new body later count w inside due_is window_is few bodies_are end_is =
    let long : length w ≤ body.length = omega (arith, ap length window_is, length-take body.length (drop body.at b)) in
    let I : List Body → Type 0 = λ ys. AreInside b ys in
    let E : ℕ → Type 0 = λ n. n ≤ length b in
    record {
      bodies = subst I (sym bodies_are) (behind_inside b body later count (omega arith) (inside_turn b old body later inside due_is));
      end = subst E (sym end_is) inside.end;
    }

pub first_inside : (b : List ℕ) (bodies : List Body) (left : Left) → AreInside b bodies → left.bodies ≡ record { at = 0; length = 0 } ∷ bodies → left.end ≤ length b → IsInside b left
first_inside b bodies left inside is end =
    let I : List Body → Type 0 = λ ys. AreInside b ys in
    record {
      bodies = subst I (sym is) (All-cons (λ (y : Body). y.at + y.length ≤ length b) (record { at = 0; length = 0 }) bodies (omega arith) inside);
      end = end;
    }

-- ---- what a call asks for beside a step
pub window_short : (b : List ℕ) (body : Body) (w : List ℕ) → w ≡ window b body → length w ≤ body.length
window_short b body w is = omega (arith, ap length is, length-take body.length (drop body.at b))

pub window_fits : (b : List ℕ) (body : Body) (later : List Body) (w : List ℕ) → length b ≤ most_bytes → AreInside b (body ∷ later) → w ≡ window b body → body.at + length w < 2 ^ 32
window_fits b body later w fits inside is =
    let low : length w ≤ body.length = window_short b body w is in
    let within : body.at + body.length ≤ length b = All-head (λ (y : Body). y.at + y.length ≤ length b) body later inside in
    omega (arith, low, within, fits)

pub bytes_enough : (packed : Option (List ℕ)) (w : List ℕ) (number : ℕ) (k : State) (c : Cut) → IsCut packed w number k c → c.count ≤ length w → parts_length c.parts ≤ length c.bytes
bytes_enough packed w number k c cut within =
    let n : ℕ = front_length packed w c.used in
    omega (arith, cut.count_is, within, ap length cut.bytes_are, length-take (parts_length c.parts) (drop n w), length-drop n w)

pub still_there : (states read now : List State) (n : ℕ) (k : State) → n < length states → read ≡ set states n k → now ≡ read → n < length now
still_there states read now n k there read_is now_is =
    let long : length now ≡ length states = ap length now_is ∙ ap length read_is ∙ length-set states n k in
    omega (arith, there, long)
