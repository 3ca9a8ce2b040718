-- The stream that a file spells is the one that stands in it, and no rule is violated.
use Rattle.std.proofs.Common.{◌≡◌, ◌∙◌, ◌<◌, ◌+◌, ℕ, Bool, true, false, arith, List, [], ◌∷◌, ◌++◌, length, drop, refl, sym, ap, subst, Option, Some, None, cond, nat_lt, ◌⊎◌, inl, inr, Result, Ok, Err}
use Rattle.std.specs.List.{flat_map, find}
use Rattle.std.specs.Option.{option_or}
use Rattle.std.proofs.lemmas.List.{append_assoc}
use Rattle.jx_marker.specs.Codes.{SOC, SIZ, EOC}
use Rattle.jx_marker.specs.declared.Segment.{Segment}
use Rattle.jx_marker.specs.declared.Segment.TheVariants as segment
use Rattle.jx_marker.specs.declared.Siz.{Siz}
use Rattle.jx_marker.specs.Segments.{spelling}
use Rattle.jx_codestream.specs.declared.faults.StreamFault.{StreamFault}
use Rattle.jx_codestream.specs.declared.faults.StreamFault.TheVariants as fault
use Rattle.jx_codestream.specs.declared.headers.HeaderKind.TheVariants.{Main}
use Rattle.jx_codestream.specs.declared.headers.Header.{Header}
use Rattle.jx_codestream.specs.declared.parts.PlacedPart.{PlacedPart}
use Rattle.jx_codestream.specs.declared.Stream.{Stream}
use Rattle.jx_codestream.specs.declared.Tile.{Tile}
use Rattle.jx_codestream.specs.Faults.{broken, IsCause, Answers}
use Rattle.jx_codestream.specs.Headers.{has_packed, header_at, header_fault}
use Rattle.jx_codestream.specs.declared.packed.PackedSegment.{PackedSegment}
use Rattle.jx_codestream.specs.PackedHeaders.{packed_from, shares_fault, with_shares}
use Rattle.jx_codestream.specs.Parts.{marker_at, Parts, parts_from, fault_after}
use Rattle.jx_codestream.specs.Tiles.{tiles_of}
use Rattle.jx_codestream.specs.Params.{tile_has_too_few, tile_planes, rule_9_of, limit_4_of, planes_fault}
use Rattle.jx_codestream.specs.First.{tile_number, siz_of, after_siz, front_fault, tiles_fault, lacks_default, main_header, main_fault, parts_after, lacks_part, body_fault, stream_from, stream_in, parameters_fault, later_fault, first_fault}
use Rattle.jx_codestream.specs.Spells.{TilePart, all_bytes, part_bytes, placed, AreSegments, AreTileParts, first_sot, main_packed, Spells}
use Rattle.jx_codestream.specs.Read.{IsRead}
use Rattle.jx_codestream.proofs.FaultLemmas.{none_of_both, none_first, none_later, broken_false}
use Rattle.jx_codestream.proofs.FirstLemmas.{siz_stands, front_clear, parts_test, lacks_test, shares_test}
use Rattle.jx_codestream.proofs.SpellLemmas.{regroup}
use Rattle.jx_codestream.proofs.OneLemmas.{stands_there, drop_on, header_read, header_clear}
use Rattle.jx_codestream.proofs.PartsReadLemmas.{marker_is, parts_read}
use Rattle.jx_codestream.proofs.WholeLemmas.{whole_spelled}
use Rattle.jx_marker.specs.Ranges.{AreBytes, SizInRange}
use Rattle.jx_marker.specs.RuleNumbers.{NO_DEFAULTS, NO_PART}
use Rattle.std.proofs.lemmas.Bool.{cases_Bool}

-- the main header, with a tile-part after it
record MainRead (comps : ℕ) (b : List ℕ) (main : List Segment) (start : ℕ) : Type 0 where
  pub header : header_at Main comps b start ≡ record { segments = main; end = start + length (all_bytes comps main) }
  pub clear : header_fault Main comps b start ≡ None

main_read : (packed : Bool) (comps tiles : ℕ) (b rest tail : List ℕ) (main : List Segment) (parts : List TilePart) (before : List PlacedPart) (at start : ℕ) → 0 < length parts → AreTileParts packed comps tiles rest before at parts
    → AreSegments Main comps [] main → drop start b ≡ all_bytes comps main ++ (flat_map (part_bytes comps) parts ++ tail) → MainRead comps b main start
main_read packed comps tiles b rest tail main [] before at start some are segments h = absurd (omega arith)
main_read packed comps tiles b rest tail main (p ∷ ps) before at start some are segments h =
    let more = flat_map (part_bytes comps) ps ++ tail in
    let later = all_bytes comps p.header ++ (spelling comps segment.Sod ++ (p.body ++ more)) in
    let front : drop start b ≡ all_bytes comps main ++ (spelling comps (segment.Sot p.sot) ++ later) =
    h ∙ ap (λ (x : List ℕ). all_bytes comps main ++ x) (append_assoc (part_bytes comps p) (flat_map (part_bytes comps) ps) tail
    ∙ sym (regroup (spelling comps (segment.Sot p.sot)) (all_bytes comps p.header) (spelling comps segment.Sod) p.body more)) in
    record {
      header = header_read Main comps b main [] start (segment.Sot p.sot) later segments are.0.range refl refl front;
      clear = header_clear Main comps b main start (segment.Sot p.sot) later segments are.0.range refl refl front;
    }

-- the main header and the tile-parts, from their bytes
pub record BodyOver (comps tiles : ℕ) (b : List ℕ) (main : List Segment) (parts : List TilePart) (start : ℕ) : Type 0 where
  pub main_clear : main_fault comps b start ≡ None
  pub parts_clear : parts_test comps tiles b start ≡ None
  pub segments : (main_header comps b start).segments ≡ main
  pub all : (parts_after comps tiles b start).parts ≡ placed comps (start + length (all_bytes comps main)) parts
  pub end : (parts_after comps tiles b start).end ≡ start + length (all_bytes comps main) + length (flat_map (part_bytes comps) parts)

pub body_over : (comps tiles : ℕ) (b rest : List ℕ) (main : List Segment) (parts : List TilePart) (start : ℕ) → 0 < length parts → AreTileParts (has_packed main) comps tiles rest [] (start + length (all_bytes comps main)) parts
    → AreSegments Main comps [] main → lacks_default main ≡ false → drop start b ≡ all_bytes comps main ++ (flat_map (part_bytes comps) parts ++ (0xFF ∷ EOC ∷ rest)) → BodyOver comps tiles b main parts start
unfolding main_fault
body_over comps tiles b rest main parts start some are segments_fit defaults h =
    let packed = has_packed main in
    let read = main_read packed comps tiles b rest (0xFF ∷ EOC ∷ rest) main parts [] (start + length (all_bytes comps main)) start some are segments_fit h in
    let place = start + length (all_bytes comps main) in
    let there : drop place b ≡ flat_map (part_bytes comps) parts ++ (0xFF ∷ EOC ∷ rest) =
    drop_on b start (length (all_bytes comps main)) (all_bytes comps main) (flat_map (part_bytes comps) parts ++ (0xFF ∷ EOC ∷ rest)) h refl in
    let walked = parts_read packed comps tiles b parts [] place rest are there in
    let end = place + length (flat_map (part_bytes comps) parts) in
    let eoc : marker_at b end EOC ≡ true = marker_is b end EOC rest (drop_on b place (length (flat_map (part_bytes comps) parts)) (flat_map (part_bytes comps) parts) (0xFF ∷ EOC ∷ rest) there refl) in
    let segments_are : (main_header comps b start).segments ≡ main = ap (λ (x : Header). x.segments) read.header in
    let end_is : (main_header comps b start).end ≡ place = ap (λ (x : Header). x.end) read.header in
    let after : parts_after comps tiles b start ≡ record { parts = placed comps place parts; end = end } =
    ap (λ (x : List Segment). parts_from (has_packed x) comps tiles b (main_header comps b start).end) segments_are ∙ ap (λ (n : ℕ). parts_from packed comps tiles b n) end_is ∙ walked in
    record {
      main_clear = none_of_both (header_fault Main comps b start) (broken NO_DEFAULTS (main_header comps b start).end (lacks_default (main_header comps b start).segments)) read.clear
          (broken_false NO_DEFAULTS (main_header comps b start).end (lacks_default (main_header comps b start).segments) (ap lacks_default segments_are ∙ defaults));
      parts_clear = ap (λ (x : Parts). cond (marker_at b x.end EOC) None (fault_after (has_packed (main_header comps b start).segments) comps tiles b x.parts x.end)) after ∙ rw eoc refl;
      segments = segments_are;
      all = ap (λ (x : Parts). x.parts) after;
      end = ap (λ (x : Parts). x.end) after;
    }

-- the shares are those of these tile-parts
pub shares_are : (comps tiles : ℕ) (b : List ℕ) (main : List Segment) (parts : List TilePart) (start : ℕ) → BodyOver comps tiles b main parts start
    → shares_test comps tiles b start ≡ shares_fault b (packed_from comps start main) (placed comps (start + length (all_bytes comps main)) parts)
shares_are comps tiles b main parts start over =
    ap (λ (x : List Segment). shares_fault b (packed_from comps start x) (parts_after comps tiles b start).parts) over.segments
    ∙ ap (λ (x : List PlacedPart). shares_fault b (packed_from comps start main) x) over.all

-- the same, and each tile has a tile-part and its share
pub body_read : (comps tiles : ℕ) (b : List ℕ) (main : List Segment) (parts : List TilePart) (start : ℕ) → BodyOver comps tiles b main parts start
    → lacks_part (placed comps (start + length (all_bytes comps main)) parts) tiles ≡ false
    → shares_fault b (packed_from comps start main) (placed comps (start + length (all_bytes comps main)) parts) ≡ None → body_fault comps tiles b start ≡ None
unfolding body_fault
body_read comps tiles b main parts start over each shared =
    let lacks = lacks_test comps tiles b start in
    let shares = shares_test comps tiles b start in
    none_of_both (main_fault comps b start) (option_or (parts_test comps tiles b start) (option_or lacks shares)) over.main_clear
    (none_of_both (parts_test comps tiles b start) (option_or lacks shares) over.parts_clear
    (none_of_both lacks shares
    (broken_false NO_PART (parts_after comps tiles b start).end (lacks_part (parts_after comps tiles b start).parts tiles) (ap (λ (x : List PlacedPart). lacks_part x tiles) over.all ∙ each))
    (shares_are comps tiles b main parts start over ∙ shared)))

-- the front
pub record FrontRead (b : List ℕ) (siz : Siz) (later : List ℕ) : Type 0 where
  pub clear : front_fault b ≡ None
  pub same : siz_of b ≡ siz
  pub start : after_siz b ≡ 2 + length (spelling 1 (segment.Siz siz))
  pub rest : drop (after_siz b) b ≡ later

pub front_read : (b : List ℕ) (siz : Siz) (later : List ℕ) → SizInRange siz → b ≡ spelling 1 segment.Soc ++ (spelling 1 (segment.Siz siz) ++ later) → FrontRead b siz later
front_read b siz later range h =
    let second : drop 2 b ≡ spelling 1 (segment.Siz siz) ++ later = ap (λ (x : List ℕ). drop 2 x) h in
    let soc : marker_at b 0 SOC ≡ true = marker_is b 0 SOC (spelling 1 (segment.Siz siz) ++ later) h in
    let stands : marker_at b 2 SIZ ≡ true = marker_is b 2 SIZ (drop 2 (spelling 1 (segment.Siz siz) ++ later)) second in
    let there = stands_there 1 b 2 (segment.Siz siz) later range second in
    let same : segment.Siz (siz_of b) ≡ segment.Siz siz = sym (siz_stands b stands) ∙ there.value in
    let start : after_siz b ≡ 2 + length (spelling 1 (segment.Siz siz)) = ap (λ (n : ℕ). 2 + n) there.takes in
    record {
      clear = front_clear b soc stands there.rules;
      same = cc;
      start = start;
      rest = ap (λ (n : ℕ). drop n b) start ∙ drop_on b 2 (length (spelling 1 (segment.Siz siz))) (spelling 1 (segment.Siz siz)) later second refl;
    }

-- what is spelled is read, and the first violation is a limit or none
pub record IsTold (b : List ℕ) (s : Stream) : Type 0 where
  pub stream : s ≡ stream_in b
  pub first : first_fault b ≡ option_or (tiles_fault s.siz) (planes_fault s.main (length s.siz.comps) s.tiles)

later_is : (siz : Siz) (b : List ℕ) (start : ℕ) (s : Stream) → body_fault (length siz.comps) (tile_number siz) b start ≡ None → stream_from siz b start ≡ s → find (tile_has_too_few s.main (length s.siz.comps)) s.tiles ≡ None
    → later_fault siz b start ≡ option_or (tiles_fault siz) (planes_fault s.main (length s.siz.comps) s.tiles)
unfolding later_fault
later_is siz b start s body same entries =
    ap (λ (x : Option StreamFault). option_or (tiles_fault siz) (option_or x (parameters_fault (stream_from siz b start)))) body
    ∙ ap (λ (x : Stream). option_or (tiles_fault siz) (parameters_fault x)) same
    ∙ ap (λ (x : Option Tile). option_or (tiles_fault siz) (option_or (rule_9_of x) (planes_fault s.main (length s.siz.comps) s.tiles))) entries

pub first_is : (b : List ℕ) (siz : Siz) → front_fault b ≡ None → siz_of b ≡ siz → first_fault b ≡ later_fault siz b (after_siz b)
unfolding first_fault
first_is b siz clear same = ap (λ (x : Option StreamFault). option_or x (later_fault (siz_of b) b (after_siz b))) clear ∙ ap (λ (x : Siz). later_fault x b (after_siz b)) same

pub stream_made : (siz : Siz) (b : List ℕ) (start : ℕ) (main : List Segment) (all : List PlacedPart) (tiles : List Tile) → (main_header (length siz.comps) b start).segments ≡ main
    → (parts_after (length siz.comps) (tile_number siz) b start).parts ≡ all → tiles ≡ tiles_of main (with_shares b (packed_from (length siz.comps) start main) all) (tile_number siz) → stream_from siz b start ≡ record { siz = siz; main = main; tiles = tiles }
unfolding stream_from
stream_made siz b start main all tiles of parts made = rw (parts, of, made) refl

pub is_read : (b : List ℕ) (s : Stream) → Spells b s → IsTold b s
is_read b s spells =
    let comps = length s.siz.comps in
    let tiles = tile_number s.siz in
    let later = all_bytes comps s.main ++ (flat_map (part_bytes comps) spells.parts ++ (0xFF ∷ EOC ∷ spells.rest)) in
    let front = front_read b s.siz later spells.siz spells.bytes in
    let start = after_siz b in
    let own = packed_from comps start s.main in
    let own_is : own ≡ main_packed s.siz s.main = ap (λ (n : ℕ). packed_from comps n s.main) front.start in
    let place : first_sot s.siz s.main ≡ start + length (all_bytes comps s.main) = ap (λ (n : ℕ). n + length (all_bytes comps s.main)) (sym front.start) in
    let P : ℕ → Type 0 = λ n. AreTileParts (has_packed s.main) comps tiles spells.rest [] n spells.parts in
    let body = body_over comps tiles b spells.rest s.main spells.parts start spells.some (subst P place spells.tile_parts) spells.main spells.defaults front.rest in
    let clear = body_read comps tiles b s.main spells.parts start body (sym (ap (λ (n : ℕ). lacks_part (placed comps n spells.parts) tiles) place) ∙ spells.each)
    (sym (ap (λ (n : ℕ). shares_fault b own (placed comps n spells.parts)) place) ∙ ap (λ (x : List PackedSegment). shares_fault b x (placed comps (first_sot s.siz s.main) spells.parts)) own_is ∙ spells.packed) in
    let made : s.tiles ≡ tiles_of s.main (with_shares b own (placed comps (start + length (all_bytes comps s.main)) spells.parts)) tiles =
    spells.tiles ∙ ap (λ (x : List PackedSegment). tiles_of s.main (with_shares b x (placed comps (first_sot s.siz s.main) spells.parts)) tiles) (sym own_is)
    ∙ ap (λ (n : ℕ). tiles_of s.main (with_shares b own (placed comps n spells.parts)) tiles) place in
    let same : stream_from s.siz b start ≡ s = stream_made s.siz b start s.main (placed comps (start + length (all_bytes comps s.main)) spells.parts) s.tiles body.segments body.all made in
    record {
      stream = sym (ap (λ (x : Siz). stream_from x b start) front.same ∙ same);
      first = first_is b s.siz front.clear front.same ∙ later_is s.siz b start s clear same spells.entries;
    }

pub only_one : (b : List ℕ) (one other : Stream) → Spells b one → Spells b other → one ≡ other
only_one b one other spells spells_other = (is_read b one spells).stream ∙ sym (is_read b other spells_other).stream

-- the stream that is spelled, of which no limit is passed
pub clear_limits : (b : List ℕ) (s : Stream) → IsRead b s → first_fault b ≡ None
clear_limits b s read = (is_read b s read.spelled).first ∙ none_of_both (tiles_fault s.siz) (planes_fault s.main (length s.siz.comps) s.tiles) read.tiles read.planes

-- where a file violates no rule up to 24 and passes no limit up to 4
pub within_limits : (b : List ℕ) (s : Stream) → first_fault b ≡ None → Spells b s → IsRead b s
within_limits b s clear spells =
    let none = sym (is_read b s spells).first ∙ clear in
    record {
      spelled = spells;
      tiles = none_first (tiles_fault s.siz) (planes_fault s.main (length s.siz.comps) s.tiles) none;
      planes = none_later (tiles_fault s.siz) (planes_fault s.main (length s.siz.comps) s.tiles) none;
    }

planes_alone : (found : Option ℕ) (number place : ℕ) → limit_4_of found ≡ Some (fault.Rule number place) → ⊥
planes_alone None number place h = cc
planes_alone (Some planes) number place h = cc

-- a limit isn't a rule
pub limits_alone : (siz : Siz) (main : List Segment) (comps : ℕ) (tiles : List Tile) (number place : ℕ) → option_or (tiles_fault siz) (planes_fault main comps tiles) ≡ Some (fault.Rule number place) → ⊥
unfolding tiles_fault
limits_alone siz main comps tiles number place =
    elim (cases_Bool (nat_lt 65535 (tile_number siz))) [
      | inl t ↦ rw t (λ h. cc)
      | inr f ↦ rw f (planes_alone (find (nat_lt 74) (flat_map (tile_planes main comps) tiles)) number place)
    ]

-- where a rule is violated nothing is spelled
pub rule_unspelled : (b : List ℕ) (s : Stream) (number place : ℕ) → first_fault b ≡ Some (fault.Rule number place) → Spells b s → ⊥
rule_unspelled b s number place h spells = limits_alone s.siz s.main (length s.siz.comps) s.tiles number place (sym (is_read b s spells).first ∙ h)

-- what the answers of reading say

pub read_only : (b : List ℕ) (s : Stream) → s ≡ stream_in b → (other : Stream) → Spells b other → other ≡ s
read_only b s is other spells = (is_read b other spells).stream ∙ sym is

pub read_spelled : (b : List ℕ) (s : Stream) → AreBytes b → first_fault b ≡ None → s ≡ stream_in b → IsRead b s
read_spelled b s are clear is = within_limits b s clear (subst (λ (x : Stream). Spells b x) (sym is) (whole_spelled b are clear))

-- a stream that is spelled within the limits is read, but for want of memory

no_cause : (e : StreamFault) (first : Option StreamFault) → first ≡ None → IsCause e first → e ≡ fault.NoMemory
no_cause (fault.Rule number place) first none cause = let wrong : None ≡ Some (fault.Rule number place) = sym none ∙ cause in absurd (cc)
no_cause (fault.Limit number found) first none cause = let wrong : None ≡ Some (fault.Limit number found) = sym none ∙ cause in absurd (cc)
no_cause fault.NoMemory first none cause = refl

pub answer_read : (b : List ℕ) (r : Result Stream StreamFault) → Answers r (first_fault b) (λ s. s ≡ stream_in b) → (s : Stream) → IsRead b s → (r ≡ Ok s) ⊎ (r ≡ Err fault.NoMemory)
answer_read b (Ok x) answer s read = inl (ap (λ (y : Stream). Ok y) (answer.1 ∙ sym (is_read b s read.spelled).stream))
answer_read b (Err e) answer s read = inr (ap (λ (y : StreamFault). Err y) (no_cause e (first_fault b) (clear_limits b s read) answer))

same_fault : (e other : StreamFault) {X : Type 0} (r : Result X StreamFault) → r ≡ Err e → r ≡ Err other → e ≡ other
same_fault e other r one two = let p : Err e ≡ Err other = sym one ∙ two in cc

pub refused_unspelled : {X : Type 0} (b : List ℕ) (e : StreamFault) (r : Result X StreamFault) → r ≡ Err e → IsCause e (first_fault b)
    → (number place : ℕ) (s : Stream) → r ≡ Err (fault.Rule number place) → Spells b s → ⊥
refused_unspelled b e r is cause number place s refused spells =
    let same : e ≡ fault.Rule number place = same_fault e (fault.Rule number place) r is refused in
    rule_unspelled b s number place (subst (λ (x : StreamFault). IsCause x (first_fault b)) same cause) spells

pub refused_by : {X : Type 0} (b : List ℕ) (y e : StreamFault) (r : Result X StreamFault) → r ≡ Err y → y ≡ e → IsCause e (first_fault b)
    → (number place : ℕ) (s : Stream) → r ≡ Err (fault.Rule number place) → Spells b s → ⊥
refused_by b y e r is same cause = refused_unspelled b y r is (subst (λ (x : StreamFault). IsCause x (first_fault b)) (sym same) cause)
