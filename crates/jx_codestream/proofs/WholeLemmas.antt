-- A file in which nothing is violated spells its stream.
use Rattle.std.proofs.Common.{◌≡◌, ◌∙◌, ◌<◌, ◌+◌, ℕ, true, false, not, arith, List, [], ◌∷◌, ◌++◌, length, drop, refl, sym, ap, subst, Option, Some, None}
use Rattle.std.specs.List.{flat_map, find}
use Rattle.std.specs.Option.{option_or}
use Rattle.std.proofs.lemmas.List.{drop-drop}
use Rattle.jx_marker.specs.Codes.{SOC, SIZ, EOC}
use Rattle.jx_marker.specs.declared.Segment.{Segment}
use Rattle.jx_marker.specs.declared.Segment.TheVariants as segment
use Rattle.jx_marker.specs.declared.Siz.{Siz}
use Rattle.jx_marker.specs.Segments.{spelling, segment_at, size_at}
use Rattle.jx_marker.specs.Rules.{first_broken}
use Rattle.jx_marker.specs.Ranges.{AreBytes, SizInRange}
use Rattle.jx_marker.specs.Laws.{BeginsWith}
use Rattle.jx_marker.specs.RuleNumbers.{NO_DEFAULTS, NO_PART, NO_SIZ, NO_SOC}
use Rattle.jx_codestream.specs.declared.headers.HeaderKind.TheVariants.{Main}
use Rattle.jx_codestream.specs.declared.parts.PlacedPart.{PlacedPart}
use Rattle.jx_codestream.specs.declared.Stream.{Stream}
use Rattle.jx_codestream.specs.declared.Tile.{Tile}
use Rattle.jx_codestream.specs.Faults.{broken, rule_at}
use Rattle.jx_codestream.specs.Headers.{has_packed, header_fault, ends_header}
use Rattle.jx_codestream.specs.declared.packed.PackedSegment.{PackedSegment}
use Rattle.jx_codestream.specs.PackedHeaders.{packed_from, shares_fault, with_shares}
use Rattle.jx_codestream.specs.Parts.{marker_at, Parts, parts_fault}
use Rattle.jx_codestream.specs.Tiles.{tiles_of}
use Rattle.jx_codestream.specs.Params.{tile_has_too_few, rule_9_of, entries_fault, planes_fault}
use Rattle.jx_codestream.specs.First.{tile_number, siz_of, after_siz, front_fault, tiles_fault, lacks_default, main_header, main_fault, packed_after, parts_after, lacks_part, body_fault, stream_from, stream_in, parameters_fault, later_fault, first_fault}
use Rattle.jx_codestream.specs.Spells.{TilePart, all_bytes, part_bytes, placed, AreSegments, AreTileParts, first_sot, main_packed, Spells}
use Rattle.jx_codestream.specs.FirstViolated.{IsWhole}
use Rattle.jx_codestream.proofs.FaultLemmas.{none_first, none_later, broken_none, rule_none}
use Rattle.jx_codestream.proofs.FirstLemmas.{siz_stands}
use Rattle.jx_codestream.proofs.SpellLemmas.{header_spelled, parts_written, eoc_there, marker_there, begins_at, takes, header_ends}
use Rattle.std.proofs.lemmas.Bool.{not-false}

pub record FrontClear (b : List ℕ) : Type 0 where
  pub soc : marker_at b 0 SOC ≡ true
  pub siz : marker_at b 2 SIZ ≡ true
  pub rules : first_broken 1 (drop 2 b) ≡ None

pub front_is_clear : (b : List ℕ) → front_fault b ≡ None → FrontClear b
unfolding front_fault
front_is_clear b h =
    let soc = broken NO_SOC 0 (not (marker_at b 0 SOC)) in
    let siz = broken NO_SIZ 2 (not (marker_at b 2 SIZ)) in
    let rules = rule_at 2 (first_broken 1 (drop 2 b)) in
    let later = none_later soc (option_or siz rules) h in
    record {
      soc = not-false (marker_at b 0 SOC) (broken_none NO_SOC 0 (not (marker_at b 0 SOC)) (none_first soc (option_or siz rules) h));
      siz = not-false (marker_at b 2 SIZ) (broken_none NO_SIZ 2 (not (marker_at b 2 SIZ)) (none_first siz rules later));
      rules = rule_none 2 (first_broken 1 (drop 2 b)) (none_later siz rules later);
    }

pub record BodyClear (comps tiles : ℕ) (b : List ℕ) (start : ℕ) : Type 0 where
  pub header : header_fault Main comps b start ≡ None
  pub defaults : lacks_default (main_header comps b start).segments ≡ false
  pub parts : parts_fault (has_packed (main_header comps b start).segments) comps tiles b (main_header comps b start).end ≡ None
  pub each : lacks_part (parts_after comps tiles b start).parts tiles ≡ false
  pub packed : shares_fault b (packed_after comps b start) (parts_after comps tiles b start).parts ≡ None

pub body_is_clear : (comps tiles : ℕ) (b : List ℕ) (start : ℕ) → body_fault comps tiles b start ≡ None → BodyClear comps tiles b start
unfolding body_fault main_fault
body_is_clear comps tiles b start h =
    let header = header_fault Main comps b start in
    let lacks = broken NO_DEFAULTS (main_header comps b start).end (lacks_default (main_header comps b start).segments) in
    let parts = parts_fault (has_packed (main_header comps b start).segments) comps tiles b (main_header comps b start).end in
    let each = broken NO_PART (parts_after comps tiles b start).end (lacks_part (parts_after comps tiles b start).parts tiles) in
    let packed = shares_fault b (packed_after comps b start) (parts_after comps tiles b start).parts in
    let main = none_first (option_or header lacks) (option_or parts (option_or each packed)) h in
    let later = none_later (option_or header lacks) (option_or parts (option_or each packed)) h in
    let last = none_later parts (option_or each packed) later in
    record {
      header = none_first header lacks main;
      defaults = broken_none NO_DEFAULTS (main_header comps b start).end (lacks_default (main_header comps b start).segments) (none_later header lacks main);
      parts = none_first parts (option_or each packed) later;
      each = broken_none NO_PART (parts_after comps tiles b start).end (lacks_part (parts_after comps tiles b start).parts tiles) (none_first each packed last);
      packed = none_later each packed last;
    }

pub record FileClear (b : List ℕ) : Type 0 where
  pub front : FrontClear b
  pub few : tiles_fault (siz_of b) ≡ None
  pub body : BodyClear (length (siz_of b).comps) (tile_number (siz_of b)) b (after_siz b)
  pub entries : entries_fault (stream_in b).main (length (stream_in b).siz.comps) (stream_in b).tiles ≡ None

file_is_clear : (b : List ℕ) → first_fault b ≡ None → FileClear b
unfolding first_fault later_fault
file_is_clear b h =
    let front = front_fault b in
    let tiles = tiles_fault (siz_of b) in
    let body = body_fault (length (siz_of b).comps) (tile_number (siz_of b)) b (after_siz b) in
    let parameters = parameters_fault (stream_in b) in
    let one = none_later front (option_or tiles (option_or body parameters)) h in
    let two = none_later tiles (option_or body parameters) one in
    let s = stream_in b in
    record {
      front = front_is_clear b (none_first front (option_or tiles (option_or body parameters)) h);
      few = none_first tiles (option_or body parameters) one;
      body = body_is_clear (length (siz_of b).comps) (tile_number (siz_of b)) b (after_siz b) (none_first body parameters two);
      entries = none_first (entries_fault s.main (length s.siz.comps) s.tiles) (planes_fault s.main (length s.siz.comps) s.tiles) (none_later body parameters two);
    }

nothing_found : (x : Option Tile) → rule_9_of x ≡ None → x ≡ None
nothing_found None h = refl
nothing_found (Some tile) h = absurd (cc)

-- SOC and SIZ
pub record FrontSpelled (b : List ℕ) : Type 0 where
  pub range : SizInRange (siz_of b)
  pub start : after_siz b ≡ 2 + length (spelling 1 (segment.Siz (siz_of b)))
  pub bytes : b ≡ spelling 1 segment.Soc ++ (spelling 1 (segment.Siz (siz_of b)) ++ drop (after_siz b) b)

pub front_spelled : (b : List ℕ) → AreBytes b → FrontClear b → FrontSpelled b
front_spelled b are clear =
    let siz = siz_of b in
    let P : Segment → Type 0 = λ s. BeginsWith 1 (drop 2 b) s (drop (size_at (drop 2 b)) (drop 2 b)) in
    let begins = subst P (siz_stands b clear.siz) (begins_at 1 b 2 are clear.rules) in
    let size : size_at (drop 2 b) ≡ length (spelling 1 (segment.Siz siz)) = takes 1 (drop 2 b) (drop (size_at (drop 2 b)) (drop 2 b)) (segment.Siz siz) begins in
    record {
      range = begins.range;
      start = ap (λ (n : ℕ). 2 + n) size;
      bytes = marker_there b 0 SOC clear.soc (omega arith)
          ∙ ap (λ (x : List ℕ). 0xFF ∷ SOC ∷ x) (begins.spelled ∙ ap (λ (x : List ℕ). spelling 1 (segment.Siz siz) ++ x) (drop-drop (size_at (drop 2 b)) 2 b));
    }

-- the main header after them
pub record MainSpelled (b : List ℕ) : Type 0 where
  pub are : AreSegments Main (length (siz_of b).comps) [] (main_header (length (siz_of b).comps) b (after_siz b)).segments
  pub place : (main_header (length (siz_of b).comps) b (after_siz b)).end ≡ first_sot (siz_of b) (main_header (length (siz_of b).comps) b (after_siz b)).segments
  pub bytes : b ≡ spelling 1 segment.Soc ++ (spelling 1 (segment.Siz (siz_of b)) ++ (all_bytes (length (siz_of b).comps) (main_header (length (siz_of b).comps) b (after_siz b)).segments
      ++ drop (main_header (length (siz_of b).comps) b (after_siz b)).end b))

pub main_spelled : (b : List ℕ) → AreBytes b → FrontSpelled b → MainSpelled b
main_spelled b are front =
    let siz = siz_of b in
    let comps = length siz.comps in
    let main = (main_header comps b (after_siz b)).segments in
    let w = header_spelled Main comps b (after_siz b) are in
    record {
      are = w.are;
      place = w.size ∙ ap (λ (n : ℕ). n + length (all_bytes comps main)) front.start;
      bytes = front.bytes ∙ ap (λ (x : List ℕ). 0xFF ∷ SOC ∷ (spelling 1 (segment.Siz siz) ++ x)) w.spelled;
    }

-- where a header ends no EOC stands, so a tile-part does
some_part : (comps : ℕ) (b : List ℕ) (at end : ℕ) (rest : List ℕ) (new : List TilePart) → ends_header (segment_at comps (drop at b)) ≡ true
    → drop at b ≡ flat_map (part_bytes comps) new ++ drop end b → drop end b ≡ 0xFF ∷ EOC ∷ rest → 0 < length new
some_part comps b at end rest [] ends spelled eoc =
    let there : segment_at comps (drop at b) ≡ segment.Eoc = ap (λ (x : List ℕ). segment_at comps x) (spelled ∙ eoc) in
    let wrong : false ≡ true = sym (ap ends_header there) ∙ ends in
    absurd (cc)
some_part comps b at end rest (p ∷ ps) ends spelled eoc = omega arith

-- a file in which nothing is violated up to EOC
pub record WholeSpelled (b : List ℕ) (siz : Siz) (main : List Segment) (res : Parts) : Type 0 where
  pub parts : List TilePart
  pub rest : List ℕ
  pub whole : IsWhole b siz main parts rest
  pub all : res.parts ≡ placed (length siz.comps) (first_sot siz main) parts
  pub end : res.end ≡ first_sot siz main + length (flat_map (part_bytes (length siz.comps)) parts)

pub up_to_eoc : (b : List ℕ) → AreBytes b → FrontClear b → tiles_fault (siz_of b) ≡ None → header_fault Main (length (siz_of b).comps) b (after_siz b) ≡ None
    → lacks_default (main_header (length (siz_of b).comps) b (after_siz b)).segments ≡ false
    → parts_fault (has_packed (main_header (length (siz_of b).comps) b (after_siz b)).segments) (length (siz_of b).comps) (tile_number (siz_of b)) b (main_header (length (siz_of b).comps) b (after_siz b)).end ≡ None
    → WholeSpelled b (siz_of b) (main_header (length (siz_of b).comps) b (after_siz b)).segments (parts_after (length (siz_of b).comps) (tile_number (siz_of b)) b (after_siz b))
up_to_eoc b are clear few header defaults no_part =
    let siz = siz_of b in
    let comps = length siz.comps in
    let tiles = tile_number siz in
    let start = after_siz b in
    let main = (main_header comps b start).segments in
    let place = (main_header comps b start).end in
    let res = parts_after comps tiles b start in
    let front = front_spelled b are clear in
    let m = main_spelled b are front in
    let pw = parts_written (has_packed main) comps tiles b (length b) [] place are in
    let rest = drop (res.end + 2) b in
    let eoc : drop res.end b ≡ 0xFF ∷ EOC ∷ rest = marker_there b res.end EOC (eoc_there (has_packed main) comps tiles b place no_part) (omega arith) in
    let P : ℕ → Type 0 = λ n. AreTileParts (has_packed main) comps tiles rest [] n pw.new in
    record {
      parts = pw.new;
      rest = rest;
      whole = record {
        bytes = m.bytes ∙ ap (λ (x : List ℕ). 0xFF ∷ SOC ∷ (spelling 1 (segment.Siz siz) ++ (all_bytes comps main ++ x))) (pw.spelled ∙ ap (λ (x : List ℕ). flat_map (part_bytes comps) pw.new ++ x) eoc);
        front = record { range = front.range; few = few; segments = m.are };
        defaults = defaults;
        some = some_part comps b place res.end rest pw.new (header_ends Main comps b start header) pw.spelled eoc;
        each = subst P m.place (pw.are rest refl);
      };
      all = pw.all ∙ ap (λ (n : ℕ). placed comps n pw.new) m.place;
      end = pw.size ∙ ap (λ (n : ℕ). n + length (flat_map (part_bytes comps) pw.new)) m.place;
    }

spells_made : (b : List ℕ) (siz : Siz) (main : List Segment) (res : Parts) → (w : WholeSpelled b siz main res) → lacks_part res.parts (tile_number siz) ≡ false
    → shares_fault b (main_packed siz main) res.parts ≡ None
    → find (tile_has_too_few main (length siz.comps)) (tiles_of main (with_shares b (main_packed siz main) res.parts) (tile_number siz)) ≡ None
    → Spells b (record { siz = siz; main = main; tiles = tiles_of main (with_shares b (main_packed siz main) res.parts) (tile_number siz) })
spells_made b siz main res w each packed entries = record {
  parts = w.parts;
  rest = w.rest;
  bytes = w.whole.bytes;
  siz = w.whole.front.range;
  main = w.whole.front.segments;
  defaults = w.whole.defaults;
  some = w.whole.some;
  tile_parts = w.whole.each;
  each = ap (λ (x : List PlacedPart). lacks_part x (tile_number siz)) (sym w.all) ∙ each;
  packed = ap (λ (x : List PlacedPart). shares_fault b (main_packed siz main) x) (sym w.all) ∙ packed;
  tiles = ap (λ (x : List PlacedPart). tiles_of main (with_shares b (main_packed siz main) x) (tile_number siz)) w.all;
  entries = entries;
}

pub stream_shape : (b : List ℕ) → stream_in b ≡ record {
  siz = siz_of b;
  main = (main_header (length (siz_of b).comps) b (after_siz b)).segments;
  tiles = tiles_of (main_header (length (siz_of b).comps) b (after_siz b)).segments
      (with_shares b (packed_after (length (siz_of b).comps) b (after_siz b)) (parts_after (length (siz_of b).comps) (tile_number (siz_of b)) b (after_siz b)).parts) (tile_number (siz_of b));
}
unfolding stream_from
stream_shape b = refl

-- the PPM stand where SIZ ends
pub packed_same : (b : List ℕ) → FrontSpelled b → packed_after (length (siz_of b).comps) b (after_siz b) ≡ main_packed (siz_of b) (main_header (length (siz_of b).comps) b (after_siz b)).segments
packed_same b front = ap (λ (n : ℕ). packed_from (length (siz_of b).comps) n (main_header (length (siz_of b).comps) b (after_siz b)).segments) front.start

pub shape_by : (b : List ℕ) → packed_after (length (siz_of b).comps) b (after_siz b) ≡ main_packed (siz_of b) (main_header (length (siz_of b).comps) b (after_siz b)).segments
    → stream_in b ≡ record {
      siz = siz_of b;
      main = (main_header (length (siz_of b).comps) b (after_siz b)).segments;
      tiles = tiles_of (main_header (length (siz_of b).comps) b (after_siz b)).segments
          (with_shares b (main_packed (siz_of b) (main_header (length (siz_of b).comps) b (after_siz b)).segments) (parts_after (length (siz_of b).comps) (tile_number (siz_of b)) b (after_siz b)).parts)
          (tile_number (siz_of b));
    }
shape_by b own =
    let main = (main_header (length (siz_of b).comps) b (after_siz b)).segments in
    let all = (parts_after (length (siz_of b).comps) (tile_number (siz_of b)) b (after_siz b)).parts in
    let F : List PackedSegment → Stream = λ x. record { siz = siz_of b; main = main; tiles = tiles_of main (with_shares b x all) (tile_number (siz_of b)) } in
    stream_shape b ∙ ap F own

-- a file in which no rule is violated spells the stream that stands in it
pub clear_spelled : (b : List ℕ) → AreBytes b → FileClear b → Spells b (stream_in b)
clear_spelled b are clear =
    let siz = siz_of b in
    let comps = length siz.comps in
    let tiles = tile_number siz in
    let start = after_siz b in
    let main = (main_header comps b start).segments in
    let res = parts_after comps tiles b start in
    let w = up_to_eoc b are clear.front clear.few clear.body.header clear.body.defaults clear.body.parts in
    let S : Stream → Type 0 = λ s. Spells b s in
    let own : packed_after comps b start ≡ main_packed siz main = packed_same b (front_spelled b are clear.front) in
    let shape : stream_in b ≡ record { siz = siz; main = main; tiles = tiles_of main (with_shares b (main_packed siz main) res.parts) tiles } = shape_by b own in
    let entries : find (tile_has_too_few main comps) (tiles_of main (with_shares b (main_packed siz main) res.parts) tiles) ≡ None =
    nothing_found (find (tile_has_too_few main comps) (tiles_of main (with_shares b (main_packed siz main) res.parts) tiles))
    (sym (ap (λ (s : Stream). entries_fault s.main (length s.siz.comps) s.tiles) shape) ∙ clear.entries) in
    let packed : shares_fault b (main_packed siz main) res.parts ≡ None = ap (λ (x : List PackedSegment). shares_fault b x res.parts) (sym own) ∙ clear.body.packed in
    subst S (sym shape) (spells_made b siz main res w clear.body.each packed entries)

pub whole_spelled : (b : List ℕ) → AreBytes b → first_fault b ≡ None → Spells b (stream_in b)
whole_spelled b are h = clear_spelled b are (file_is_clear b h)
