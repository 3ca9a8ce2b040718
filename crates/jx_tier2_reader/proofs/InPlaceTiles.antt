-- Tile data in which each packet's header stands in its place are cut up into the packets of those whose headers stand apart.
use Rattle.std.proofs.Common.{◌≡◌, ℕ, suc, ◌+◌, ◌-◌, ◌<◌, ◌≤◌, Bool, false, cond, List, [], ◌∷◌, ◌++◌, length, take, drop, set, Option, None, Some, refl, sym, ap, ◌∙◌, subst, arith, append_assoc, length-append}
use Rattle.std.specs.Prelude.{slice_get}
use Rattle.jx_base.proofs.Lists.{head_same, tail_same}
use Rattle.jx_geom.specs.Geometry.{Geometry}
use Rattle.jx_marker.specs.Codes.{EPH, eph_spelling}
use Rattle.jx_packet_header.specs.Packet.{State}
use Rattle.jx_codestream.specs.declared.Body.{Body}
use Rattle.jx_tier2_reader.specs.Data.{begins_with, behind, due, due_or, header_in, packed_behind, window}
use Rattle.jx_progression.specs.declared.names.PacketName.{PacketName}
use Rattle.jx_tier2_reader.specs.Blocks.{FoundPiece, founds_in, founds_of}
use Rattle.jx_tier2_reader.specs.Cuts.{AreCuts, Cut, IsCut, IsTurn, Left, names_of, number_of}
use Rattle.jx_tier2_reader.specs.InPlace.{AreFilledBy, IsPlaced, all_of, headers_left, placed, placed_all, placed_cut, placed_cuts, written_from}
use Rattle.jx_tier2_reader.specs.Written.{WrittenPacket, packet_bytes, sop_bytes}
use Rattle.jx_tier2_reader.proofs.FrontLemmas.{StartsClear, header_starts, packet_size, packet_some}
use Rattle.jx_tier2_reader.proofs.InPlaceLemmas.{placed_stands, read_anywhere}
use Rattle.jx_tier2_reader.proofs.TrackLemmas.{founds_cons}
use Rattle.jx_tier2_reader.proofs.LaidLemmas.{after_packet, due_none, due_some, window_behind}

-- a packet's header has a byte, and no marker stands in front of it
placed_clear : (packed w : List ℕ) (number : ℕ) (k : State) (c : Cut) → IsCut (Some packed) w number k c → StartsClear (take c.used packed)
unfolding header_in
placed_clear packed w number k c cut = header_starts (take c.used packed) k c.parts c.after (λ more. read_anywhere packed k c.parts c.used c.after cut.header more)

placed_start : (packed w : List ℕ) (number m : ℕ) (k : State) (c : Cut) (tail : List ℕ) → IsCut (Some packed) w number k c → begins_with (packet_bytes m (placed packed w c) ++ tail) EPH ≡ false
placed_start packed w number m k c tail cut =
    let x : WrittenPacket = placed packed w c in
    let a : List ℕ = cond x.sop (sop_bytes m) [] in
    let t : List ℕ = cond x.eph eph_spelling [] ++ x.bytes in
    let whole : packet_bytes m x ++ tail ≡ a ++ (x.header ++ (t ++ tail)) = append_assoc a (x.header ++ t) tail ∙ ap (λ (l : List ℕ). a ++ l) (append_assoc x.header t tail) in
    ap (λ (l : List ℕ). begins_with l EPH) whole ∙ after_packet x.sop m x.header (t ++ tail) (placed_clear packed w number k c cut)

-- what follows a packet in a tile-part is no EPH
rest_start : (b : List ℕ) (g : Geometry) (number m : ℕ) (old : Left) (cuts : List Cut) (new : Left) (packed : List ℕ) (are : AreCuts b g number old cuts new) → old.packed ≡ Some packed
    → (xs ys : List WrittenPacket) → xs ++ ys ≡ placed_all b g number old cuts new are → begins_with (written_from m xs) EPH ≡ false
rest_start b g number m old cuts new packed are is [] ys e = refl
rest_start b g number m old [] new packed are is (x ∷ xs) ys e = absurd (cc)
rest_start b g number m old (c ∷ cuts) new packed are is (x ∷ xs) ys e =
    let t = are.1 in
    let first : x ≡ placed (headers_left old.packed) (window b t.body) c = head_same x (placed (headers_left old.packed) (window b t.body) c) (xs ++ ys) (placed_all b g (number + 1) are.0 cuts new are.2) e in
    let same : x ≡ placed packed (window b t.body) c = first ∙ ap (λ (o : Option (List ℕ)). placed (headers_left o) (window b t.body) c) is in
    let cut : IsCut (Some packed) (window b t.body) number t.state c = subst (λ (o : Option (List ℕ)). IsCut o (window b t.body) number t.state c) is t.cut in
    ap (λ (y : WrittenPacket). begins_with (packet_bytes m y ++ written_from (m + 1) xs) EPH) same ∙ placed_start packed (window b t.body) number m t.state c (written_from (m + 1) xs) cut

-- ---- packets one after another
abbrev pub Fills : List ℕ → List ℕ → Geometry → List (List WrittenPacket) → Type 0
Fills b file g groups =
    (number : ℕ) (bodies : List Body) (old here : Left) (cuts : List Cut) (new : Left) (packed : List ℕ) (are : AreCuts b g number old cuts new) → old.packed ≡ Some packed → here.packed ≡ None
    → here.states ≡ old.states → due here.bodies ≡ due bodies → AreFilledBy file number bodies groups → all_of groups ≡ placed_all b g number old cuts new are
    → IsPlaced file g number here (placed_cuts b g number old cuts new are)

fills_none : (b file : List ℕ) (g : Geometry) → Fills b file g []
fills_none b file g number [] old here [] new packed are is none same first filled e = record { end = here; are = refl; none = first; in_place = none }
fills_none b file g number [] old here (c ∷ cuts) new packed are is none same first filled e = absurd (cc)
fills_none b file g number (body ∷ bodies) old here cuts new packed are is none same first filled e = absurd filled

fills_part : (b file : List ℕ) (g : Geometry) (xs : List WrittenPacket) (groups : List (List WrittenPacket)) → Fills b file g groups → Fills b file g (xs ∷ groups)
fills_part b file g xs groups again number [] old here cuts new packed are is none same first filled e = absurd filled
fills_part b file g [] groups again number (body ∷ bodies) old here cuts new packed are is none same first filled e =
    let zero_more : number + 0 ≡ number = omega arith in
    again number bodies old here cuts new packed are is none same (first ∙ due_none body bodies filled.1) (subst (λ (n : ℕ). AreFilledBy file n bodies groups) zero_more filled.2) e
fills_part b file g (x ∷ xs) groups again number (body ∷ bodies) old here [] new packed are is none same first filled e = absurd (cc)
fills_part b file g (x ∷ xs) groups again number (body ∷ bodies) old here (c ∷ cuts) new packed are is none same first filled e =
    let t = are.1 in
    let w : List ℕ = window b t.body in
    let y : WrittenPacket = placed (headers_left old.packed) w c in
    let own : x ≡ y = head_same x y (xs ++ all_of groups) (placed_all b g (number + 1) are.0 cuts new are.2) e in
    let later : xs ++ all_of groups ≡ placed_all b g (number + 1) are.0 cuts new are.2 = tail_same x y (xs ++ all_of groups) (placed_all b g (number + 1) are.0 cuts new are.2) e in
    let left : y ≡ placed packed w c = ap (λ (o : Option (List ℕ)). placed (headers_left o) w c) is in
    let cut : IsCut (Some packed) w number t.state c = subst (λ (o : Option (List ℕ)). IsCut o w number t.state c) is t.cut in
    let rest : List ℕ = written_from (number + 1) xs in
    let p : Cut = placed_cut (headers_left old.packed) w c in
    let next_packed : are.0.packed ≡ Some (drop_behind packed c.used) = ap (λ (l : Left). l.packed) t.new_is ∙ ap (λ (o : Option (List ℕ)). packed_behind o c.used) is in
    let start : begins_with rest EPH ≡ false = rest_start b g (number + 1) (number + 1) are.0 cuts new (drop_behind packed c.used) are.2 next_packed xs (all_of groups) later in
    let stood : IsCut None (packet_bytes number (placed packed w c) ++ rest) number t.state (placed_cut packed w c) = placed_stands packed w number t.state c rest cut start in
    let is_window : window file body ≡ packet_bytes number (placed packed w c) ++ rest = filled.0 ∙ ap (λ (z : WrittenPacket). packet_bytes number z ++ rest) (own ∙ left) in
    let C : Option (List ℕ) → Type 0 = λ o. IsCut None (window file body) number t.state (placed_cut (headers_left o) w c) in
    let W : List ℕ → Type 0 = λ l. IsCut None l number t.state (placed_cut packed w c) in
    let turned : IsCut None (window file body) number t.state p = subst C (sym is) (subst W (sym is_window) stood) in
    let size : length (packet_bytes number (placed packed w c)) ≡ length (packet_bytes 0 (placed packed w c)) = packet_size number 0 (placed packed w c) in
    let count : p.count ≡ length (packet_bytes number (placed packed w c)) = ap (λ (z : WrittenPacket). length (packet_bytes 0 z)) left ∙ sym size in
    let some : 0 < length (packet_bytes number (placed packed w c)) = packet_some number (placed packed w c) (placed_clear packed w number t.state c cut) in
    let long : body.length ≡ length (packet_bytes number (placed packed w c)) + length rest =
    filled.1 ∙ ap (λ (z : WrittenPacket). length (packet_bytes number z ++ rest)) (own ∙ left) ∙ length-append (packet_bytes number (placed packed w c)) rest in
    let stand : due here.bodies ≡ body ∷ bodies = first ∙ due_some body bodies (omega arith) in
    let next : Left = record { bodies = behind body p.count ∷ bodies; end = here.end; packed = packed_behind here.packed p.used; states = set here.states (number_of g c.name) c.after } in
    let turn : IsTurn file g number here p next = record {
      body = body;
      later = bodies;
      due_is = ap (due_or here.end) stand;
      state = t.state;
      known = ap (λ (l : List State). slice_get l (number_of g c.name)) same ∙ t.known;
      cut = subst (λ (o : Option (List ℕ)). IsCut o (window file body) number t.state p) (sym none) turned;
      new_is = refl;
    } in
    let behind_is : window file (behind body p.count) ≡ rest =
    subst (λ (n : ℕ). window file (behind body n) ≡ rest) (sym count) (window_behind file body (packet_bytes number (placed packed w c)) rest is_window (omega arith)) in
    let short : body.length - p.count ≡ length rest = omega arith in
    let more : number + suc (length xs) ≡ number + 1 + length xs = omega arith in
    let states : next.states ≡ are.0.states = ap (λ (l : List State). set l (number_of g c.name) c.after) same ∙ sym (ap (λ (l : Left). l.states) t.new_is) in
    let end : IsPlaced file g (number + 1) next (placed_cuts b g (number + 1) are.0 cuts new are.2) =
    fills_part b file g xs groups again (number + 1) (behind body p.count ∷ bodies) are.0 next cuts new (drop_behind packed c.used) are.2 next_packed
    (ap (λ (o : Option (List ℕ)). packed_behind o p.used) none) states refl (behind_is, short, subst (λ (n : ℕ). AreFilledBy file n bodies groups) more filled.2) later in
    record { end = end.end; are = (next, turn, end.are); none = end.none; in_place = end.in_place }
  where
    drop_behind : List ℕ → ℕ → List ℕ
    drop_behind packed used = headers_left (packed_behind (Some packed) used)

pub placed_fills : (b file : List ℕ) (g : Geometry) (groups : List (List WrittenPacket)) → Fills b file g groups
placed_fills b file g [] = fills_none b file g
placed_fills b file g (xs ∷ groups) = fills_part b file g xs groups (placed_fills b file g groups)

-- ---- so the pieces are the same
pub placed_names : (b : List ℕ) (g : Geometry) (number : ℕ) (old : Left) (cuts : List Cut) (new : Left) (are : AreCuts b g number old cuts new) → names_of (placed_cuts b g number old cuts new are) ≡ names_of cuts
placed_names b g number old [] new are = refl
placed_names b g number old (c ∷ cuts) new are = ap (λ (l : List PacketName). c.name ∷ l) (placed_names b g (number + 1) are.0 cuts new are.2)

pub placed_founds : (b : List ℕ) (g : Geometry) (number : ℕ) (old : Left) (cuts : List Cut) (new : Left) (are : AreCuts b g number old cuts new) → founds_of g (placed_cuts b g number old cuts new are) ≡ founds_of g cuts
placed_founds b g number old [] new are = refl
placed_founds b g number old (c ∷ cuts) new are =
    let p : Cut = placed_cut (headers_left old.packed) (window b are.1.body) c in
    let later : List Cut = placed_cuts b g (number + 1) are.0 cuts new are.2 in
    founds_cons g p later ∙ ap (λ (l : List FoundPiece). founds_in g c ++ l) (placed_founds b g (number + 1) are.0 cuts new are.2) ∙ sym (founds_cons g c cuts)
