-- Tile data have one reading: they are cut into packets in one way, or break one rule first.
use Rattle.std.proofs.Common.{◌≡◌, ℕ, suc, ◌+◌, ◌<◌, Bool, true, false, List, [], ◌∷◌, ◌++◌, Some, None, Option, inl, inr, ◌⊎◌, ◌∙◌, ap, sym, subst, refl, arith, length, take, drop, set, append-nil, length-append}
use Rattle.std.specs.Prelude.{slice_get}
use Rattle.std.specs.Option.{option_or}
use Rattle.std.proofs.lemmas.Bool.{cases_lt}
use Rattle.std.proofs.lemmas.Option.{none-some, same_Some}
use Rattle.jx_base.specs.declared.pieces.Block.{Block}
use Rattle.jx_geom.specs.Geometry.{Geometry}
use Rattle.jx_packet_header.specs.declared.HeaderPart.{HeaderPart}
use Rattle.jx_packet_header.specs.Packet.{State}
use Rattle.jx_packet_header.specs.Precinct.{IsState}
use Rattle.jx_packet_header.proofs.PacketLemmas.{one_header, planes_or_packet}
use Rattle.jx_progression.specs.declared.names.PacketName.{PacketName}
use Rattle.jx_progression.specs.Packets.{HasUncovered}
use Rattle.jx_progression.proofs.OrderLemmas.{one_order}
use Rattle.jx_codestream.specs.declared.Body.{Body}
use Rattle.jx_codestream.specs.declared.Stream.{Stream}
use Rattle.jx_codestream.specs.First.{tile_number}
use Rattle.jx_codestream.specs.declared.faults.StreamFault.{StreamFault}
use Rattle.jx_codestream.specs.Faults.{broken}
use Rattle.jx_codestream.specs.Shapes.{geometry, layers_of, tile_at}
use Rattle.jx_tile.specs.Totals.{totals_fault}
use Rattle.jx_tier2_reader.specs.Data.{window, due, behind, sop_fault, eph_fault, header_in, first_mark, rule_30, marks_fault, body_fault, front_length, packed_behind, parts_length}
use Rattle.jx_tier2_reader.specs.Cuts.{Cut, IsCut, BreaksHeader, BreaksBody, Breaks, Left, IsTurn, AreCuts, names_of, number_of, BreaksDue, left_fault, Stops}
use Rattle.jx_tier2_reader.specs.Blocks.{founds_of, blocks_of_tile}
use Rattle.jx_tile.specs.Covered.{IsListOf, IsWhole, IsUncovered}
use Rattle.jx_tier2_reader.specs.Gathered.{IsCutUp, AreTileBlocks, IsGathered, BreaksTile, BreaksData, IsBroken, head_pieces, start}
use Rattle.jx_tier2_reader.proofs.TurnLemmas.{Precincts, Keeps, AreFew, Listed, listed, AllKnown, AreInTurn, are_in_turn, known_there, has_precinct, due_named}
use Rattle.jx_base.proofs.Joined.{joined_same}
use Rattle.jx_base.proofs.Lists.{some_none, head_same, tail_same}
use Rattle.jx_codestream.specs.declared.faults.StreamFault.TheVariants as fault

-- ---- where a test is violated is no matter of the place
both_clear : (m n a b : ℕ) (x y : Bool) (f : StreamFault) → option_or (broken m a x) (broken n a y) ≡ Some f → option_or (broken m b x) (broken n b y) ≡ None → ⊥
both_clear m n a b true y f h k = some_none (fault.Rule m b) k
both_clear m n a b false true f h k = some_none (fault.Rule n b) k
both_clear m n a b false false f h k = none-some f h

pub sop_clear : (w : List ℕ) (a b number : ℕ) (f : StreamFault) → sop_fault w a number ≡ Some f → sop_fault w b number ≡ None → ⊥
unfolding sop_fault
sop_clear w a b number f h k = both_clear 26 29 a b _ _ f h k

marks_clear : (a b : ℕ) (bytes : List ℕ) (parts : List HeaderPart) (f : StreamFault) → marks_fault a bytes parts ≡ Some f → marks_fault b bytes parts ≡ None → ⊥
marks_clear a b bytes [] f h k = none-some f h
marks_clear a b bytes (p ∷ parts) f h k =
    by (first_mark (take p.length bytes)) (marks_fault (a + p.length) (drop p.length bytes) parts) (marks_fault (b + p.length) (drop p.length bytes) parts)
    (marks_clear (a + p.length) (b + p.length) (drop p.length bytes) parts f) h k
  where
    by : (m : Option ℕ) (x y : Option StreamFault) → (x ≡ Some f → y ≡ None → ⊥) → option_or (rule_30 a m) x ≡ Some f → option_or (rule_30 b m) y ≡ None → ⊥
    by None x y rest h k = rest h k
    by (Some i) x y rest h k = some_none (fault.Rule 30 (b + i)) k

first_clear : (m a b : ℕ) (v : Bool) (x y : Option StreamFault) (f : StreamFault) → (x ≡ Some f → y ≡ None → ⊥)
    → option_or (broken m a v) x ≡ Some f → option_or (broken m b v) y ≡ None → ⊥
first_clear m a b true x y f rest h k = some_none (fault.Rule m b) k
first_clear m a b false x y f rest h k = rest h k

eph_clear : (packed : Option (List ℕ)) (a b used : ℕ) (x y : Option StreamFault) (f : StreamFault) → (x ≡ Some f → y ≡ None → ⊥)
    → option_or (eph_fault packed a used) x ≡ Some f → option_or (eph_fault packed b used) y ≡ None → ⊥
eph_clear None a b used x y f rest h k = rest h k
eph_clear (Some packed) a b used x y f rest h k = first_clear 26 a b _ x y f rest h k

pub body_clear : (packed : Option (List ℕ)) (w : List ℕ) (a b used : ℕ) (parts : List HeaderPart) (f : StreamFault) → body_fault packed w a used parts ≡ Some f → body_fault packed w b used parts ≡ None → ⊥
unfolding body_fault
body_clear packed w a b used parts f h k =
    let n : ℕ = front_length packed w used in
    eph_clear packed a b used _ _ f
    (first_clear 28 a b _ (marks_fault (a + n) (drop n w) parts) (marks_fault (b + n) (drop n w) parts) f (marks_clear (a + n) (b + n) (drop n w) parts f)) h k

-- ---- a packet
cut_of : PacketName → ℕ → ℕ → List HeaderPart → List ℕ → State → Cut
cut_of n count used parts bytes after = record { name = n; count = count; used = used; parts = parts; bytes = bytes; after = after }

same_cut : (c d : Cut) → c.name ≡ d.name → c.count ≡ d.count → c.used ≡ d.used → c.parts ≡ d.parts → c.bytes ≡ d.bytes → c.after ≡ d.after → c ≡ d
unfolding cut_of
same_cut c d en ec eu ep eb ea =
    let e : cut_of c.name c.count c.used c.parts c.bytes c.after ≡ cut_of d.name d.count d.used d.parts d.bytes d.after = cc in
    e

pub cut_once : (packed : Option (List ℕ)) (w : List ℕ) (number : ℕ) (k : State) (c d : Cut) → IsState k → c.name ≡ d.name → IsCut packed w number k c → IsCut packed w number k d → c ≡ d
cut_once packed w number k c d is en x y =
    let one = one_header (header_in packed w) k c.parts d.parts c.used d.used c.after d.after is.bands x.header y.header in
    let ep : c.parts ≡ d.parts = one.parts_are in
    let eu : c.used ≡ d.used = one.used_is in
    let front : front_length packed w c.used ≡ front_length packed w d.used = ap (front_length packed w) eu in
    let long : parts_length c.parts ≡ parts_length d.parts = ap (λ (ps : List HeaderPart). parts_length ps) ep in
    let ec : c.count ≡ d.count = x.count_is ∙ ap (λ (m : ℕ). m + parts_length c.parts) front ∙ ap (λ (m : ℕ). front_length packed w d.used + m) long ∙ sym y.count_is in
    let eb : c.bytes ≡ d.bytes =
    x.bytes_are ∙ ap (λ (m : ℕ). take (parts_length c.parts) (drop m w)) front ∙ ap (λ (m : ℕ). take m (drop (front_length packed w d.used) w)) long ∙ sym y.bytes_are in
    same_cut c d en ec eu ep eb one.after_is

-- a rule is violated in it, or it is cut off
pub breaks_not_cut : (packed : Option (List ℕ)) (w : List ℕ) (at number : ℕ) (k : State) (f : StreamFault) (c : Cut) → IsState k → Breaks packed w at number k f → IsCut packed w number k c → ⊥
breaks_not_cut packed w at number k f c is x cut = elim x [
  | inl sop ↦ sop_clear w at 0 number f sop cut.sop
  | inr rest ↦ elim rest.1 [
    | inl header ↦ elim header [
      | inl planes ↦ planes_or_packet (header_in packed w) k c.parts c.used c.after is.bands planes.0 cut.header
      | inr bits ↦ bits.1 c.parts c.used c.after cut.header
    ]
    | inr body ↦
        let one = one_header (header_in packed w) k body.parts c.parts body.used c.used body.after c.after is.bands body.header cut.header in
        let P : ℕ → Type 0 = λ u. body_fault packed w at u body.parts ≡ Some f in
        let Q : List HeaderPart → Type 0 = λ ps. body_fault packed w at c.used ps ≡ Some f in
        body_clear packed w at 0 c.used c.parts f (subst Q one.parts_are (subst P one.used_is body.body)) cut.body
  ]
]

-- and it is one rule
header_breaks_once : (h : List ℕ) (at : ℕ) (k : State) (f g : StreamFault) → BreaksHeader h at k f → BreaksHeader h at k g → f ≡ g
header_breaks_once h at k f g x y = elim x [
  | inl p ↦ elim y [ inl q ↦ p.1 ∙ sym q.1 | inr q ↦ absurd (q.0 p.0) ]
  | inr p ↦ elim y [ inl q ↦ absurd (p.0 q.0) | inr q ↦ p.2 ∙ sym q.2 ]
]

header_or_body : (packed : Option (List ℕ)) (w : List ℕ) (at : ℕ) (k : State) (f g : StreamFault) → IsState k → BreaksHeader (header_in packed w) at k f → BreaksBody packed w at k g → ⊥
header_or_body packed w at k f g is x y = elim x [
  | inl p ↦ planes_or_packet (header_in packed w) k y.parts y.used y.after is.bands p.0 y.header
  | inr p ↦ p.1 y.parts y.used y.after y.header
]

body_breaks_once : (packed : Option (List ℕ)) (w : List ℕ) (at : ℕ) (k : State) (f g : StreamFault) → IsState k → BreaksBody packed w at k f → BreaksBody packed w at k g → f ≡ g
body_breaks_once packed w at k f g is x y =
    let one = one_header (header_in packed w) k x.parts y.parts x.used y.used x.after y.after is.bands x.header y.header in
    let P : ℕ → Type 0 = λ u. body_fault packed w at u x.parts ≡ Some f in
    let Q : List HeaderPart → Type 0 = λ ps. body_fault packed w at y.used ps ≡ Some f in
    same_Some f g (sym (subst Q one.parts_are (subst P one.used_is x.body)) ∙ y.body)

pub breaks_once : (packed : Option (List ℕ)) (w : List ℕ) (at number : ℕ) (k : State) (f g : StreamFault) → IsState k → Breaks packed w at number k f → Breaks packed w at number k g → f ≡ g
breaks_once packed w at number k f g is x y = elim x [
  | inl p ↦ elim y [ inl q ↦ same_Some f g (sym p ∙ q) | inr q ↦ absurd (some_none f (sym p ∙ q.0)) ]
  | inr p ↦ elim y [
    | inl q ↦ absurd (some_none g (sym q ∙ p.0))
    | inr q ↦ elim p.1 [
      | inl ph ↦ elim q.1 [ inl qh ↦ header_breaks_once (header_in packed w) at k f g ph qh | inr qb ↦ absurd (header_or_body packed w at k f g is ph qb) ]
      | inr pb ↦ elim q.1 [ inl qh ↦ absurd (header_or_body packed w at k g f is qh pb) | inr qb ↦ body_breaks_once packed w at k f g is pb qb ]
    ]
  ]
]

-- ---- the packet that is due
first_due : (body other : Body) (later others : List Body) → body ∷ later ≡ other ∷ others → body ≡ other
first_due body other later others e = cc

rest_due : (body other : Body) (later others : List Body) → body ∷ later ≡ other ∷ others → later ≡ others
rest_due body other later others e = cc

abbrev left_behind : Geometry → Left → Body → List Body → Cut → Left
left_behind g old body later c = record {
  bodies = behind body c.count ∷ later;
  end = old.end;
  packed = packed_behind old.packed c.used;
  states = set old.states (number_of g c.name) c.after;
}

pub record OneTurn (c d : Cut) (new other : Left) : Type 0 where
  pub cut : c ≡ d
  pub left : new ≡ other

pub turn_once : (b : List ℕ) (g : Geometry) (number : ℕ) (old : Left) (c d : Cut) (new other : Left) → d.name ≡ c.name
    → (t : IsTurn b g number old c new) → IsState t.state → IsTurn b g number old d other → OneTurn c d new other
turn_once b g number old c d new other en t is u =
    let both : t.body ∷ t.later ≡ u.body ∷ u.later = sym t.due_is ∙ u.due_is in
    let body : u.body ≡ t.body = sym (first_due t.body u.body t.later u.later both) in
    let later : t.later ≡ u.later = rest_due t.body u.body t.later u.later both in
    let found : slice_get old.states (number_of g c.name) ≡ Some u.state = ap (λ (n : PacketName). slice_get old.states (number_of g n)) (sym en) ∙ u.known in
    let state : u.state ≡ t.state = same_Some u.state t.state (sym found ∙ t.known) in
    let P : Body → Type 0 = λ x. IsCut old.packed (window b x) number u.state d in
    let Q : State → Type 0 = λ x. IsCut old.packed (window b t.body) number x d in
    let cut : c ≡ d = cut_once old.packed (window b t.body) number t.state c d is (sym en) t.cut (subst Q state (subst P body u.cut)) in
    let left : new ≡ other =
    t.new_is
    ∙ ap (λ (x : Body). left_behind g old x t.later c) (sym body)
    ∙ ap (λ (x : List Body). left_behind g old u.body x c) later
    ∙ ap (λ (x : Cut). left_behind g old u.body u.later x) cut
    ∙ sym u.new_is in
    record { cut = cut; left = left }

-- each precinct that is due has a state that wasn't given up
abbrev pub IsSure : Geometry → Left → PacketName → Type 0
IsSure g left p = (state : State) → slice_get left.states (number_of g p) ≡ Some state → IsState state

pub due_once : (b : List ℕ) (g : Geometry) (number : ℕ) (left : Left) (p : PacketName) (f h : StreamFault) → IsSure g left p
    → BreaksDue b g number left p f → BreaksDue b g number left p h → f ≡ h
due_once b g number left p f h sure x y =
    let both : x.body ∷ x.later ≡ y.body ∷ y.later = sym x.due_is ∙ y.due_is in
    let body : y.body ≡ x.body = sym (first_due x.body y.body x.later y.later both) in
    let state : y.state ≡ x.state = same_Some y.state x.state (sym y.known ∙ x.known) in
    let P : Body → Type 0 = λ w. Breaks left.packed (window b w) w.at number y.state h in
    let Q : State → Type 0 = λ w. Breaks left.packed (window b x.body) x.body.at number w h in
    breaks_once left.packed (window b x.body) x.body.at number x.state f h (sure x.state x.known) x.breaks (subst Q state (subst P body y.breaks))

pub due_no_turn : (b : List ℕ) (g : Geometry) (number : ℕ) (left : Left) (f : StreamFault) (c : Cut) (new : Left) → IsSure g left c.name
    → BreaksDue b g number left c.name f → IsTurn b g number left c new → ⊥
due_no_turn b g number left f c new sure x t =
    let both : x.body ∷ x.later ≡ t.body ∷ t.later = sym x.due_is ∙ t.due_is in
    let body : x.body ≡ t.body = first_due x.body t.body x.later t.later both in
    let state : x.state ≡ t.state = same_Some x.state t.state (sym x.known ∙ t.known) in
    let P : Body → Type 0 = λ w. Breaks left.packed (window b w) w.at number x.state f in
    let Q : State → Type 0 = λ w. Breaks left.packed (window b t.body) t.body.at number w f in
    breaks_not_cut left.packed (window b t.body) t.body.at number t.state f c (sure t.state t.known) (subst Q state (subst P body x.breaks)) t.cut

-- those that may be due
abbrev pub AreSure : Geometry → Left → List PacketName → Type 0
AreSure g left [] = Unit {0}
AreSure g left (p ∷ rest) = IsSure g left p

pub stops_once : (b : List ℕ) (g : Geometry) (pieces : List Body) (number : ℕ) (left : Left) (rest : List PacketName) (f h : StreamFault) → AreSure g left rest
    → Stops b g pieces number left rest f → Stops b g pieces number left rest h → f ≡ h
stops_once b g pieces number left [] f h sure x y = same_Some f h (sym x ∙ y)
stops_once b g pieces number left (p ∷ rest) f h sure x y = due_once b g number left p f h sure x y

-- ---- packets one after another
-- other cuts begin with these, and go on with those of the rest
pub record GoesOn (b : List ℕ) (g : Geometry) (number : ℕ) (cuts others : List Cut) (left new : Left) (rest : List PacketName) : Type 0 where
  pub more : List Cut
  pub is : others ≡ cuts ++ more
  pub names : names_of more ≡ rest
  pub on : AreCuts b g (number + length cuts) left more new

none_named : (n : PacketName) (ns : List PacketName) → [] ≡ n ∷ ns → ⊥
none_named n ns e = cc

name_first : (d : Cut) (ds : List Cut) (n : PacketName) (ns : List PacketName) → names_of (d ∷ ds) ≡ n ∷ ns → d.name ≡ n
name_first d ds n ns e = cc

name_rest : (d : Cut) (ds : List Cut) (n : PacketName) (ns : List PacketName) → names_of (d ∷ ds) ≡ n ∷ ns → names_of ds ≡ ns
name_rest d ds n ns e = cc

pub goes_on : (b : List ℕ) (s : Stream) (g : Geometry) (number : ℕ) (old left new : Left) (cuts others : List Cut) (rest : List PacketName)
    → AreInTurn b s g number old cuts left → AreCuts b g number old others new → names_of others ≡ names_of cuts ++ rest → GoesOn b g number cuts others left new rest
goes_on b s g number old left new [] others rest x y e =
    let P : Left → Type 0 = λ l. AreCuts b g (number + 0) l others new in
    let Q : ℕ → Type 0 = λ n. AreCuts b g n old others new in
    let same : number ≡ number + 0 = omega arith in
    record { more = others; is = refl; names = e; on = subst P x (subst Q same y) }
goes_on b s g number old left new (c ∷ cuts) [] rest x y e = absurd (none_named c.name (names_of cuts ++ rest) e)
goes_on b s g number old left new (c ∷ cuts) (d ∷ ds) rest x y e =
    let one : OneTurn c d x.0 y.0 = turn_once b g number old c d x.0 y.0 (name_first d ds c.name (names_of cuts ++ rest) e) x.1.turn x.1.is y.1 in
    let P : Left → Type 0 = λ l. AreCuts b g (number + 1) l ds new in
    let go = goes_on b s g (number + 1) x.0 left new cuts ds rest x.2 (subst P (sym one.left) y.2) (name_rest d ds c.name (names_of cuts ++ rest) e) in
    let Q : ℕ → Type 0 = λ n. AreCuts b g n left go.more new in
    let count : number + 1 + length cuts ≡ number + suc (length cuts) = omega arith in
    let first : d ≡ c = sym one.cut in
    let tail : ds ≡ cuts ++ go.more = go.is in
    record { more = go.more; is = cc; names = go.names; on = subst Q count go.on }

-- ---- a tile
-- what is asked of a tile: its precincts are told apart, and each packet is covered
pub record IsReady (b : List ℕ) (s : Stream) (t : ℕ) : Type 0 where
  pub places : Precincts s (geometry s t)
  pub keeps : Keeps b
  pub few : AreFew b (start b s t).packed
  pub whole : IsWhole s t

-- cuts at the front of a tile's list
record Begins (b : List ℕ) (s : Stream) (t : ℕ) (cuts : List Cut) (rest : List PacketName) (left : Left) : Type 0 where
  pub turns : AreInTurn b s (geometry s t) 0 (start b s t) cuts left
  pub sure : AreSure (geometry s t) left rest

sure_rest : (s : Stream) (g : Geometry) (layers : ℕ) (list done rest : List PacketName) (left : Left) → Listed g layers list → list ≡ done ++ rest
    → AllKnown s g layers done left.states → AreSure g left rest
sure_rest s g layers list done [] left h e all = tt
sure_rest s g layers list done (p ∷ rest) left h e all = λ state found.
    let k = all p.comp p.res p.precinct (has_precinct g layers p (due_named g layers list done rest p h e)) in
    let same : k.state ≡ state = same_Some k.state state (sym k.turned.known ∙ found) in
    let I : State → Type 0 = λ x. IsState x in
    subst I same k.is

begins : (b : List ℕ) (s : Stream) (t : ℕ) (cuts : List Cut) (rest : List PacketName) (left : Left) → IsReady b s t
    → IsListOf s t (names_of cuts ++ rest) → AreCuts b (geometry s t) 0 (start b s t) cuts left → Begins b s t cuts rest left
begins b s t cuts rest left r order are =
    let h = listed s t (names_of cuts ++ rest) order r.whole in
    record {
      turns = are_in_turn b s t (names_of cuts ++ rest) cuts rest left r.places r.keeps h refl r.few are;
      sure = sure_rest s (geometry s t) (layers_of s t) (names_of cuts ++ rest) (names_of cuts) rest left h refl
          (known_there b s t (names_of cuts ++ rest) cuts rest left r.places r.keeps h refl r.few are);
    }

one_list : (s : Stream) (t : ℕ) (xs ys : List PacketName) → IsListOf s t xs → IsListOf s t ys → xs ≡ ys
one_list s t xs ys hx hy = one_order (geometry s t) (layers_of s t) (tile_at s t).progressions (length (tile_at s t).progressions) xs ys hx hy

-- a tile's data are cut up in one way
unnamed : (cuts : List Cut) → names_of cuts ≡ [] → cuts ≡ []
unnamed [] e = refl
unnamed (c ∷ cuts) e = absurd (none_named c.name (names_of cuts) (sym e))

pub one_cut_up : (b : List ℕ) (s : Stream) (t : ℕ) (cuts others : List Cut) → IsReady b s t → IsCutUp b s t cuts → IsCutUp b s t others → cuts ≡ others
one_cut_up b s t cuts others r x y =
    let L : List PacketName → Type 0 = λ xs. IsListOf s t xs in
    let from = begins b s t cuts [] x.end r (subst L (sym (append-nil (names_of cuts))) x.order) x.are in
    let names : names_of others ≡ names_of cuts ++ [] = one_list s t (names_of others) (names_of cuts) y.order x.order ∙ sym (append-nil (names_of cuts)) in
    let go = goes_on b s (geometry s t) 0 (start b s t) x.end y.end cuts others [] from.turns y.are names in
    sym (go.is ∙ ap (λ (l : List Cut). cuts ++ l) (unnamed go.more go.names) ∙ append-nil cuts)

-- or not at all, where a rule is violated
stops_not_up : (b : List ℕ) (s : Stream) (g : Geometry) (pieces : List Body) (number count : ℕ) (left end : Left) (rest : List PacketName) (f : StreamFault) (more : List Cut) → AreSure g left rest
    → Stops b g pieces number left rest f → number ≡ count → names_of more ≡ rest → AreCuts b g count left more end → left_fault pieces end ≡ None → ⊥
stops_not_up b s g pieces number count left end [] f [] sure stops same names are up =
    none-some f (sym (ap (left_fault pieces) are ∙ up) ∙ stops)
stops_not_up b s g pieces number count left end [] f (c ∷ more) sure stops same names are up = none_named c.name (names_of more) (sym names)
stops_not_up b s g pieces number count left end (p ∷ rest) f [] sure stops same names are up = none_named p rest names
stops_not_up b s g pieces number count left end (p ∷ rest) f (c ∷ more) sure stops same names are up =
    let en : p ≡ c.name = sym (name_first c more p rest names) in
    let P : PacketName → Type 0 = λ n. IsSure g left n in
    let Q : PacketName → Type 0 = λ n. Stops b g pieces number left (n ∷ rest) f in
    let T : ℕ → Type 0 = λ n. IsTurn b g n left c are.0 in
    due_no_turn b g number left f c are.0 (subst P en sure) (subst Q en stops) (subst T (sym same) are.1)

pub up_or_broken : (b : List ℕ) (s : Stream) (t : ℕ) (cuts : List Cut) (f : StreamFault) → IsReady b s t → IsCutUp b s t cuts → BreaksTile b s t f → ⊥
up_or_broken b s t cuts f r up x =
    let from = begins b s t x.cuts x.rest x.left r x.order x.are in
    let names : names_of cuts ≡ names_of x.cuts ++ x.rest = one_list s t (names_of cuts) (names_of x.cuts ++ x.rest) up.order x.order in
    let go = goes_on b s (geometry s t) 0 (start b s t) x.left up.end x.cuts cuts x.rest from.turns up.are names in
    let count : length x.cuts ≡ 0 + length x.cuts = omega arith in
    stops_not_up b s (geometry s t) (head_pieces s t) (length x.cuts) (0 + length x.cuts) x.left up.end x.rest f go.more from.sure x.stops count
    go.names go.on up.none_left

-- ---- two fronts of a list: one begins the other
record Begun (xs ys us vs : List PacketName) : Type 0 where
  pub mid : List PacketName
  pub longer : ys ≡ xs ++ mid
  pub rest : us ≡ mid ++ vs

fronts : (xs ys us vs : List PacketName) → xs ++ us ≡ ys ++ vs → Begun xs ys us vs ⊎ Begun ys xs vs us
fronts [] ys us vs e = inl (record { mid = ys; longer = refl; rest = e })
fronts (x ∷ xs) [] us vs e = inr (record { mid = x ∷ xs; longer = refl; rest = sym e })
fronts (x ∷ xs) (y ∷ ys) us vs e =
    let first : x ≡ y = head_same x y (xs ++ us) (ys ++ vs) e in
    elim (fronts xs ys us vs (tail_same x y (xs ++ us) (ys ++ vs) e)) [
      | inl h ↦ inl (record { mid = h.mid; longer = (let l : ys ≡ xs ++ h.mid = h.longer in cc); rest = h.rest })
      | inr h ↦ inr (record { mid = h.mid; longer = (let l : xs ≡ ys ++ h.mid = h.longer in cc); rest = h.rest })
    ]

-- where reading stops, and where it stops later
stops_again : (b : List ℕ) (s : Stream) (g : Geometry) (pieces : List Body) (number count : ℕ) (left other : Left) (rest mid others : List PacketName) (f h : StreamFault) (more : List Cut)
    → AreSure g left rest → Stops b g pieces number left rest f → number ≡ count → rest ≡ mid ++ others → names_of more ≡ mid → AreCuts b g count left more other
    → Stops b g pieces (count + length more) other others h → f ≡ h
stops_again b s g pieces number count left other rest [] others f h [] sure stops same eq names are again =
    let N : ℕ → Type 0 = λ n. Stops b g pieces n other others h in
    let L : Left → Type 0 = λ l. Stops b g pieces number l others h in
    let R : List PacketName → Type 0 = λ ns. Stops b g pieces number left ns h in
    let back : count + 0 ≡ number = omega arith in
    stops_once b g pieces number left rest f h sure stops (subst R (sym eq) (subst L (sym are) (subst N back again)))
stops_again b s g pieces number count left other rest [] others f h (c ∷ more) sure stops same eq names are again = absurd (none_named c.name (names_of more) (sym names))
stops_again b s g pieces number count left other rest (p ∷ mid) others f h [] sure stops same eq names are again = absurd (none_named p mid names)
stops_again b s g pieces number count left other rest (p ∷ mid) others f h (c ∷ more) sure stops same eq names are again =
    let en : p ≡ c.name = sym (name_first c more p mid names) in
    let first : rest ≡ c.name ∷ (mid ++ others) = eq ∙ ap (λ (n : PacketName). n ∷ (mid ++ others)) en in
    let P : List PacketName → Type 0 = λ ns. AreSure g left ns in
    let Q : List PacketName → Type 0 = λ ns. Stops b g pieces number left ns f in
    let T : ℕ → Type 0 = λ n. IsTurn b g n left c are.0 in
    absurd (due_no_turn b g number left f c are.0 (subst P first sure) (subst Q first stops) (subst T (sym same) are.1))

broken_ahead : (b : List ℕ) (s : Stream) (t : ℕ) (f h : StreamFault) → IsReady b s t → (x : BreaksTile b s t f) → (y : BreaksTile b s t h)
    → Begun (names_of x.cuts) (names_of y.cuts) x.rest y.rest → f ≡ h
broken_ahead b s t f h r x y ahead =
    let from = begins b s t x.cuts x.rest x.left r x.order x.are in
    let go = goes_on b s (geometry s t) 0 (start b s t) x.left y.left x.cuts y.cuts ahead.mid from.turns y.are ahead.longer in
    let count : length x.cuts ≡ 0 + length x.cuts = omega arith in
    let all : length y.cuts ≡ 0 + length x.cuts + length go.more = (let e = ap (λ (l : List Cut). length l) go.is in let a = length-append x.cuts go.more in omega arith) in
    let N : ℕ → Type 0 = λ n. Stops b (geometry s t) (head_pieces s t) n y.left y.rest h in
    stops_again b s (geometry s t) (head_pieces s t) (length x.cuts) (0 + length x.cuts) x.left y.left x.rest ahead.mid y.rest f h go.more
    from.sure x.stops count ahead.rest go.names go.on (subst N all y.stops)

pub tile_broken_once : (b : List ℕ) (s : Stream) (t : ℕ) (f h : StreamFault) → IsReady b s t → BreaksTile b s t f → BreaksTile b s t h → f ≡ h
tile_broken_once b s t f h r x y =
    elim (fronts (names_of x.cuts) (names_of y.cuts) x.rest y.rest (one_list s t (names_of x.cuts ++ x.rest) (names_of y.cuts ++ y.rest) x.order y.order)) [
      | inl ahead ↦ broken_ahead b s t f h r x y ahead
      | inr behind ↦ sym (broken_ahead b s t h f r y x behind)
    ]

-- ---- a codestream
-- what is asked of it: in each tile the precincts are told apart, and no header gives a state up
pub record Ready (b : List ℕ) (s : Stream) : Type 0 where
  pub keeps : Keeps b
  pub places : (t : ℕ) → t < tile_number s.siz → Precincts s (geometry s t)
  pub few : (t : ℕ) → t < tile_number s.siz → AreFew b (start b s t).packed

pub ready_tile : (b : List ℕ) (s : Stream) (t : ℕ) → Ready b s → t < tile_number s.siz → IsWhole s t → IsReady b s t
ready_tile b s t r inside whole = record { places = r.places t inside; keeps = r.keeps; few = r.few t inside; whole = whole }

tile_once : (b : List ℕ) (s : Stream) (t : ℕ) (xs ys : List Block) → IsReady b s t → AreTileBlocks b s t xs → AreTileBlocks b s t ys → xs ≡ ys
tile_once b s t xs ys r x y =
    let same : x.0 ≡ y.0 = one_cut_up b s t x.0 y.0 r x.1 y.1 in
    x.2 ∙ ap (λ (cuts : List Cut). blocks_of_tile s (geometry s t) (founds_of (geometry s t) cuts)) same ∙ sym y.2

-- the blocks are one list
pub one_gathering : (b : List ℕ) (s : Stream) (xs ys : List Block) → Ready b s → IsGathered b s xs → IsGathered b s ys → xs ≡ ys
one_gathering b s xs ys r x y =
    let each : (t : ℕ) → t < tile_number s.siz → x.tiles t ≡ y.tiles t = λ t inside.
    tile_once b s t (x.tiles t) (y.tiles t) (ready_tile b s t r inside (x.whole t inside)) (x.are t inside) (y.are t inside) in
    x.blocks_are ∙ joined_same x.tiles y.tiles (tile_number s.siz) each ∙ sym y.blocks_are

-- a tile whose packets are covered has none that isn't
pub whole_or_uncovered : (s : Stream) (t : ℕ) → IsWhole s t → HasUncovered (geometry s t) (layers_of s t) (tile_at s t).progressions → ⊥
whole_or_uncovered s t whole some = some.2 (whole some.0 some.1)

-- the first violation is one
uncovered_once : (s : Stream) (f h : StreamFault) → IsUncovered s f → IsUncovered s h → f ≡ h
uncovered_once s f h x y = elim (cases_lt x.tile y.tile) [
  | inl lt ↦ absurd (whole_or_uncovered s x.tile (y.lowest x.tile lt) x.some)
  | inr le ↦ elim (cases_lt y.tile x.tile) [
    | inl gt ↦ absurd (whole_or_uncovered s y.tile (x.lowest y.tile gt) y.some)
    | inr ge ↦
        let same : x.tile ≡ y.tile = omega arith in
        x.fault_is ∙ ap (λ (t : ℕ). fault.Rule 25 (tile_at s t).place) same ∙ sym y.fault_is
  ]
]

data_once : (b : List ℕ) (s : Stream) (f h : StreamFault) → Ready b s → BreaksData b s f → BreaksData b s h → f ≡ h
data_once b s f h r x y = elim (cases_lt x.tile y.tile) [
  | inl lt ↦
      let up = y.before x.tile lt in
      absurd (up_or_broken b s x.tile up.0 f (ready_tile b s x.tile r x.inside (x.whole x.tile x.inside)) up.1 x.breaks)
  | inr le ↦ elim (cases_lt y.tile x.tile) [
    | inl gt ↦
        let up = x.before y.tile gt in
        absurd (up_or_broken b s y.tile up.0 h (ready_tile b s y.tile r y.inside (y.whole y.tile y.inside)) up.1 y.breaks)
    | inr ge ↦
        let same : x.tile ≡ y.tile = omega arith in
        let P : ℕ → Type 0 = λ t. BreaksTile b s t f in
        tile_broken_once b s y.tile f h (ready_tile b s y.tile r y.inside (y.whole y.tile y.inside)) (subst P same x.breaks) y.breaks
  ]
]

pub broken_once : (b : List ℕ) (s : Stream) (f h : StreamFault) → (totals_fault s ≡ None → Ready b s) → IsBroken b s f → IsBroken b s h → f ≡ h
broken_once b s f h r x y = elim x [
  | inl p ↦ elim y [ inl q ↦ same_Some f h (sym p ∙ q) | inr q ↦ absurd (some_none f (sym p ∙ q.0)) ]
  | inr p ↦ elim y [
    | inl q ↦ absurd (some_none h (sym q ∙ p.0))
    | inr q ↦ elim p.1 [
      | inl pu ↦ elim q.1 [ inl qu ↦ uncovered_once s f h pu qu | inr qd ↦ absurd (whole_or_uncovered s pu.tile (qd.whole pu.tile pu.inside) pu.some) ]
      | inr pd ↦ elim q.1 [ inl qu ↦ absurd (whole_or_uncovered s qu.tile (pd.whole qu.tile qu.inside) qu.some) | inr qd ↦ data_once b s f h (r p.0) pd qd ]
    ]
  ]
]

-- where no limit is passed, there are blocks or a violated rule, and not both
pub not_both : (b : List ℕ) (s : Stream) (blocks : List Block) (f : StreamFault) → Ready b s → totals_fault s ≡ None → IsGathered b s blocks → IsBroken b s f → ⊥
not_both b s blocks f r none x y = elim y [
  | inl p ↦ some_none f (sym p ∙ none)
  | inr p ↦ elim p.1 [
    | inl u ↦ whole_or_uncovered s u.tile (x.whole u.tile u.inside) u.some
    | inr d ↦
        let tile = x.are d.tile d.inside in
        up_or_broken b s d.tile tile.0 f (ready_tile b s d.tile r d.inside (x.whole d.tile d.inside)) tile.1 d.breaks
  ]
]
