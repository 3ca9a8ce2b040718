-- The first violation of a file, by what was read before it.
use Rattle.std.proofs.Common.{◌≡◌, ◌∙◌, ◌<◌, ◌==◌, ◌||◌, ◌&&◌, ℕ, Bool, true, false, not, arith, List, [], ◌∷◌, length, drop, map, get_or, refl, sym, ap, Option, Some, None, Result, Err}
use Rattle.std.specs.List.{list_any, range_with_len}
use Rattle.std.specs.Option.{option_or}
use Rattle.std.proofs.lemmas.List.{get_or-drop}
use Rattle.std.proofs.lemmas.List.FromFn.{fill_by_all}
use Rattle.jx_marker.specs.Codes.{SOC, SIZ}
use Rattle.jx_marker.specs.declared.Segment.{Segment}
use Rattle.jx_marker.specs.declared.Segment.TheVariants as segment
use Rattle.jx_marker.specs.declared.Siz.{Siz}
use Rattle.jx_marker.specs.declared.Rule.{Rule}
use Rattle.jx_marker.specs.declared.Rule.TheVariants as rule
use Rattle.jx_marker.specs.Rules.{first_broken}
use Rattle.jx_marker.specs.Segments.{segment_at}
use Rattle.jx_marker.specs.RuleNumbers.{NO_DEFAULTS, NO_PART, NO_SIZ, NO_SOC}
use Rattle.jx_codestream.specs.declared.faults.StreamFault.{StreamFault}
use Rattle.jx_codestream.specs.declared.faults.StreamFault.TheVariants as fault
use Rattle.jx_codestream.specs.declared.headers.Header.{Header}
use Rattle.jx_codestream.specs.declared.headers.HeaderKind.TheVariants.{Main}
use Rattle.jx_codestream.specs.declared.parts.PlacedPart.{PlacedPart}
use Rattle.jx_codestream.specs.declared.Stream.{Stream}
use Rattle.jx_codestream.specs.declared.Tile.{Tile}
use Rattle.jx_codestream.specs.Faults.{broken, fault_of, IsCause}
use Rattle.jx_codestream.specs.Headers.{has_packed, header_fault, slot_count, MarksSlots}
use Rattle.jx_codestream.specs.declared.packed.PackedSegment.{PackedSegment}
use Rattle.jx_codestream.specs.PackedHeaders.{shares_fault, with_shares}
use Rattle.jx_codestream.specs.Parts.{marker_at, Parts, parts_of, parts_fault, parts_from, Tracks}
use Rattle.jx_codestream.specs.Tiles.{tiles_of}
use Rattle.jx_codestream.specs.Params.{entries_fault, planes_fault}
use Rattle.jx_codestream.specs.First.{tile_number, siz_of, after_siz, front_fault, tiles_fault, lacks_default, main_header, main_fault, packed_after, parts_after, lacks_part, body_fault, stream_from, stream_in, parameters_fault, later_fault, first_fault}
use Rattle.jx_codestream.proofs.SharesLemmas.{packed_is}
use Rattle.jx_codestream.proofs.FaultLemmas.{cause_first, cause_later, cause_same, none_of_both, broken_true, broken_false}
use Rattle.std.proofs.lemmas.Bool.{and_parts, eqb-true}

-- SOC and SIZ

pub siz_stands : (b : List ℕ) → marker_at b 2 SIZ ≡ true → segment_at 1 (drop 2 b) ≡ segment.Siz (siz_of b)
siz_stands b h =
    let e : get_or (drop 2 b) 1 0 ≡ SIZ = get_or-drop 2 b 1 0 ∙ eqb-true (get_or b 3 0) SIZ (and_parts (get_or b 2 0 == 255) (get_or b 3 0 == SIZ) h).1 in
    rw e refl

pub front_15 : (b : List ℕ) → marker_at b 0 SOC ≡ false → front_fault b ≡ Some (fault.Rule NO_SOC 0)
unfolding front_fault
front_15 b h = rw h refl

pub front_16 : (b : List ℕ) → marker_at b 0 SOC ≡ true → marker_at b 2 SIZ ≡ false → front_fault b ≡ Some (fault.Rule NO_SIZ 2)
unfolding front_fault
front_16 b soc h = rw (soc, h) refl

pub front_cause : (b : List ℕ) (why : Rule) {X : Type 0} (x : Result X Rule) → marker_at b 0 SOC ≡ true → marker_at b 2 SIZ ≡ true → x ≡ Err why
    → ((m : ℕ) → x ≡ Err (rule.Broken m) → first_broken 1 (drop 2 b) ≡ Some m) → IsCause (fault_of why 2) (front_fault b)
unfolding front_fault
front_cause b (rule.Broken m) x soc siz is h = rw (soc, siz, h m is) refl
front_cause b rule.NoMemory x soc siz is h = tt

pub front_clear : (b : List ℕ) → marker_at b 0 SOC ≡ true → marker_at b 2 SIZ ≡ true → first_broken 1 (drop 2 b) ≡ None → front_fault b ≡ None
unfolding front_fault
front_clear b soc siz h = rw (soc, siz, h) refl

-- the main header

pub main_early : (comps : ℕ) (b : List ℕ) (start : ℕ) (e : StreamFault) → IsCause e (header_fault Main comps b start) → IsCause e (main_fault comps b start)
unfolding main_fault
main_early comps b start e h = cause_first e (header_fault Main comps b start) (broken NO_DEFAULTS (main_header comps b start).end (lacks_default (main_header comps b start).segments)) h

pub main_lacks : (comps : ℕ) (b : List ℕ) (start : ℕ) (main : Header) → header_fault Main comps b start ≡ None → main ≡ main_header comps b start → lacks_default main.segments ≡ true
    → main_fault comps b start ≡ Some (fault.Rule NO_DEFAULTS main.end)
unfolding main_fault
main_lacks comps b start main clear is lacks =
    rw clear (broken_true NO_DEFAULTS (main_header comps b start).end (lacks_default (main_header comps b start).segments) (sym (ap (λ (h : Header). lacks_default h.segments) is) ∙ lacks)
    ∙ ap (λ (h : Header). Some (fault.Rule NO_DEFAULTS h.end)) (sym is))

pub main_clear : (comps : ℕ) (b : List ℕ) (start : ℕ) (main : Header) → header_fault Main comps b start ≡ None → main ≡ main_header comps b start → lacks_default main.segments ≡ false
    → main_fault comps b start ≡ None
unfolding main_fault
main_clear comps b start main clear is lacks =
    rw clear (broken_false NO_DEFAULTS (main_header comps b start).end (lacks_default (main_header comps b start).segments) (sym (ap (λ (h : Header). lacks_default h.segments) is) ∙ lacks))

pub lacks_by_table : (comps start : ℕ) (segments : List Segment) (seen : List ℕ) (found : Bool) → MarksSlots start segments seen → length seen ≡ slot_count comps
    → found ≡ ((get_or seen 1 0 == start) && (get_or seen 2 0 == start)) → lacks_default segments ≡ not found
lacks_by_table comps start segments seen found marks size is =
    let first : 1 < length seen = omega arith in
    let second : 2 < length seen = omega arith in
    rw (is, marks.each 1 (omega arith) first, marks.each 2 (omega arith) second) refl

-- the body

module _ (comps tiles : ℕ) (b : List ℕ) (start : ℕ) where
  -- the tests that come after the main header, the tile-parts and rule 24
  abbrev pub parts_test : Option StreamFault
  parts_test = parts_fault (has_packed (main_header comps b start).segments) comps tiles b (main_header comps b start).end

  abbrev pub lacks_test : Option StreamFault
  lacks_test = broken NO_PART (parts_after comps tiles b start).end (lacks_part (parts_after comps tiles b start).parts tiles)

  abbrev pub shares_test : Option StreamFault
  shares_test = shares_fault b (packed_after comps b start) (parts_after comps tiles b start).parts

  pub body_main : (e : StreamFault) → IsCause e (main_fault comps b start) → IsCause e (body_fault comps tiles b start)
  unfolding body_fault
  body_main e h = cause_first e (main_fault comps b start) (option_or parts_test (option_or lacks_test shares_test)) h

  parts_same_test : (main : Header) (some : Bool) → main ≡ main_header comps b start → some ≡ has_packed main.segments → parts_fault some comps tiles b main.end ≡ parts_test
  parts_same_test main some is packed =
      ap (λ (x : Bool). parts_fault x comps tiles b main.end) packed ∙ ap (λ (h : Header). parts_fault (has_packed h.segments) comps tiles b h.end) is

  after_same : (main : Header) (some : Bool) → main ≡ main_header comps b start → some ≡ has_packed main.segments → parts_from some comps tiles b main.end ≡ parts_after comps tiles b start
  after_same main some is packed =
      ap (λ (x : Bool). parts_from x comps tiles b main.end) packed ∙ ap (λ (h : Header). parts_from (has_packed h.segments) comps tiles b h.end) is

  pub body_parts : (e : StreamFault) (main : Header) (some : Bool) → main_fault comps b start ≡ None → main ≡ main_header comps b start → some ≡ has_packed main.segments
      → IsCause e (parts_fault some comps tiles b main.end) → IsCause e (body_fault comps tiles b start)
  unfolding body_fault
  body_parts e main some clear is packed h =
      cause_later e (main_fault comps b start) (option_or parts_test (option_or lacks_test shares_test)) clear
      (cause_first e parts_test (option_or lacks_test shares_test)
      (cause_same e (parts_fault some comps tiles b main.end) parts_test (parts_same_test main some is packed) h))

  pub body_24 : (main : Header) (some : Bool) (parts : List PlacedPart) (eoc : ℕ) → main_fault comps b start ≡ None → main ≡ main_header comps b start → some ≡ has_packed main.segments
      → parts_fault some comps tiles b main.end ≡ None → parts ≡ (parts_from some comps tiles b main.end).parts → eoc ≡ (parts_from some comps tiles b main.end).end → lacks_part parts tiles ≡ true
      → body_fault comps tiles b start ≡ Some (fault.Rule NO_PART eoc)
  unfolding body_fault
  body_24 main some parts eoc clear is packed none all end lacks =
      let no_part : parts_test ≡ None = sym (parts_same_test main some is packed) ∙ none in
      let here : parts ≡ (parts_after comps tiles b start).parts = all ∙ ap (λ (x : Parts). x.parts) (after_same main some is packed) in
      let stop : eoc ≡ (parts_after comps tiles b start).end = end ∙ ap (λ (x : Parts). x.end) (after_same main some is packed) in
      let found : lacks_test ≡ Some (fault.Rule NO_PART eoc) =
      broken_true NO_PART (parts_after comps tiles b start).end (lacks_part (parts_after comps tiles b start).parts tiles) (sym (ap (λ (x : List PlacedPart). lacks_part x tiles) here) ∙ lacks)
      ∙ ap (λ (n : ℕ). Some (fault.Rule NO_PART n)) (sym stop) in
      rw (clear, no_part, found) refl

  -- the tile-parts are there, and each tile has one
  pub record AreThere (parts : List PlacedPart) (packed : List PackedSegment) : Type 0 where
    pub main : main_fault comps b start ≡ None
    pub none : parts_test ≡ None
    pub each : lacks_test ≡ None
    pub all : parts ≡ (parts_after comps tiles b start).parts
    pub own : packed ≡ packed_after comps b start

  pub are_there : (main : Header) (some : Bool) (parts : List PlacedPart) (packed : List PackedSegment) → main_fault comps b start ≡ None → main ≡ main_header comps b start
      → some ≡ has_packed main.segments → parts_fault some comps tiles b main.end ≡ None → parts ≡ (parts_from some comps tiles b main.end).parts → lacks_part parts tiles ≡ false
      → packed ≡ packed_after comps b start → AreThere parts packed
  are_there main some parts packed clear is apart none all lacks own =
      let here : parts ≡ (parts_after comps tiles b start).parts = all ∙ ap (λ (x : Parts). x.parts) (after_same main some is apart) in
      record {
        main = clear;
        none = sym (parts_same_test main some is apart) ∙ none;
        each = broken_false NO_PART (parts_after comps tiles b start).end (lacks_part (parts_after comps tiles b start).parts tiles) (sym (ap (λ (x : List PlacedPart). lacks_part x tiles) here) ∙ lacks);
        all = here;
        own = own;
      }

  shares_same : (parts : List PlacedPart) (packed : List PackedSegment) → AreThere parts packed → shares_fault b packed parts ≡ shares_test
  shares_same parts packed are = ap (λ (x : List PackedSegment). shares_fault b x parts) are.own ∙ ap (λ (x : List PlacedPart). shares_fault b (packed_after comps b start) x) are.all

  pub body_shares : (e : StreamFault) (parts : List PlacedPart) (packed : List PackedSegment) → AreThere parts packed → IsCause e (shares_fault b packed parts) → IsCause e (body_fault comps tiles b start)
  unfolding body_fault
  body_shares e parts packed are h =
      cause_later e (main_fault comps b start) (option_or parts_test (option_or lacks_test shares_test)) are.main
      (cause_later e parts_test (option_or lacks_test shares_test) are.none
      (cause_later e lacks_test shares_test are.each (cause_same e (shares_fault b packed parts) shares_test (shares_same parts packed are) h)))

  pub body_clear : (parts shared : List PlacedPart) (packed : List PackedSegment) → AreThere parts packed → shares_fault b packed parts ≡ None → shared ≡ with_shares b packed parts
      → (body_fault comps tiles b start ≡ None) × (shared ≡ with_shares b (packed_after comps b start) (parts_after comps tiles b start).parts)
  unfolding body_fault
  body_clear parts shared packed are none made = (
    rw (are.main, are.none, are.each) (sym (shares_same parts packed are) ∙ none),
    made ∙ ap (λ (x : List PackedSegment). with_shares b x parts) are.own ∙ ap (λ (x : List PlacedPart). with_shares b (packed_after comps b start) x) are.all,
  )

pub some_packed : (comps : ℕ) (b : List ℕ) (start : ℕ) (main : Header) (packed : List PackedSegment) (none : Bool) → main ≡ main_header comps b start → packed ≡ packed_after comps b start
    → none ≡ (length packed == 0) → not none ≡ has_packed main.segments
some_packed comps b start main packed none is own empty =
    ap not (empty ∙ ap (λ (x : List PackedSegment). length x == 0) own) ∙ sym (packed_is comps start (main_header comps b start).segments) ∙ ap (λ (h : Header). has_packed h.segments) (sym is)

any_mapped : (p : ℕ → Bool) (f : ℕ → ℕ) (xs : List ℕ) → list_any p (map f xs) ≡ list_any (λ (x : ℕ). p (f x)) xs
any_mapped p f [] = refl
any_mapped p f (x ∷ xs) = ap (λ (y : Bool). p (f x) || y) (any_mapped p f xs)

pub lacks_by_counts : (parts : List PlacedPart) (counts told : List ℕ) (tiles : ℕ) (found : Bool) → Tracks parts counts told → length counts ≡ tiles
    → found ≡ list_any (λ (n : ℕ). n == 0) counts → lacks_part parts tiles ≡ found
lacks_by_counts parts counts told tiles found tracks size is =
    let counted : counts ≡ map (λ (tile : ℕ). length (parts_of tile parts)) (range_with_len 0 tiles) =
    fill_by_all (λ (tile : ℕ). length (parts_of tile parts)) counts tiles 0 size (λ k inside. tracks.count k (omega arith)) in
    sym (is ∙ ap (λ (x : List ℕ). list_any (λ (n : ℕ). n == 0) x) counted ∙ any_mapped (λ (n : ℕ). n == 0) (λ (tile : ℕ). length (parts_of tile parts)) (range_with_len 0 tiles))

-- the rest of the file

pub later_tiles : (siz : Siz) (b : List ℕ) (start : ℕ) (e : StreamFault) → IsCause e (tiles_fault siz) → IsCause e (later_fault siz b start)
unfolding later_fault
later_tiles siz b start e h = cause_first e (tiles_fault siz) (option_or (body_fault (length siz.comps) (tile_number siz) b start) (parameters_fault (stream_from siz b start))) h

pub later_body : (siz : Siz) (b : List ℕ) (start comps tiles : ℕ) (e : StreamFault) → tiles_fault siz ≡ None → comps ≡ length siz.comps → tiles ≡ tile_number siz
    → IsCause e (body_fault comps tiles b start) → IsCause e (later_fault siz b start)
unfolding later_fault
later_body siz b start comps tiles e clear is count h =
    cause_later e (tiles_fault siz) (option_or (body_fault (length siz.comps) (tile_number siz) b start) (parameters_fault (stream_from siz b start))) clear
    (cause_first e (body_fault (length siz.comps) (tile_number siz) b start) (parameters_fault (stream_from siz b start))
    (cause_same e (body_fault comps tiles b start) (body_fault (length siz.comps) (tile_number siz) b start)
    (ap (λ (n : ℕ). body_fault n tiles b start) is ∙ ap (λ (n : ℕ). body_fault (length siz.comps) n b start) count) h))

pub stream_is : (siz : Siz) (b : List ℕ) (start comps count : ℕ) (main : List Segment) (parts : List PlacedPart) (tiles : List Tile) → comps ≡ length siz.comps → count ≡ tile_number siz
    → main ≡ (main_header comps b start).segments → parts ≡ with_shares b (packed_after comps b start) (parts_after comps count b start).parts → tiles ≡ tiles_of main parts count
    → ◌≡◌ {A = Stream} (record { siz = siz; main = main; tiles = tiles }) (stream_from siz b start)
unfolding stream_from
stream_is siz b start comps count main parts tiles is number of all made = rw (made, all, of, is, number) refl

pub later_parameters : (siz : Siz) (b : List ℕ) (start comps tiles : ℕ) (s : Stream) (e : StreamFault) → tiles_fault siz ≡ None → comps ≡ length siz.comps → tiles ≡ tile_number siz
    → body_fault comps tiles b start ≡ None → s ≡ stream_from siz b start → IsCause e (parameters_fault s) → IsCause e (later_fault siz b start)
unfolding later_fault
later_parameters siz b start comps tiles s e clear is count body stream h =
    let none : body_fault (length siz.comps) (tile_number siz) b start ≡ None =
    sym (ap (λ (n : ℕ). body_fault n tiles b start) is ∙ ap (λ (n : ℕ). body_fault (length siz.comps) n b start) count) ∙ body in
    cause_later e (tiles_fault siz) (option_or (body_fault (length siz.comps) (tile_number siz) b start) (parameters_fault (stream_from siz b start))) clear
    (cause_later e (body_fault (length siz.comps) (tile_number siz) b start) (parameters_fault (stream_from siz b start)) none
    (cause_same e (parameters_fault s) (parameters_fault (stream_from siz b start)) (ap parameters_fault stream) h))

pub later_clear : (siz : Siz) (b : List ℕ) (start comps tiles : ℕ) (s : Stream) → tiles_fault siz ≡ None → comps ≡ length siz.comps → tiles ≡ tile_number siz
    → body_fault comps tiles b start ≡ None → s ≡ stream_from siz b start → parameters_fault s ≡ None → later_fault siz b start ≡ None
unfolding later_fault
later_clear siz b start comps tiles s clear is count body stream h =
    let none : body_fault (length siz.comps) (tile_number siz) b start ≡ None =
    sym (ap (λ (n : ℕ). body_fault n tiles b start) is ∙ ap (λ (n : ℕ). body_fault (length siz.comps) n b start) count) ∙ body in
    none_of_both (tiles_fault siz) (option_or (body_fault (length siz.comps) (tile_number siz) b start) (parameters_fault (stream_from siz b start))) clear
    (none_of_both (body_fault (length siz.comps) (tile_number siz) b start) (parameters_fault (stream_from siz b start)) none (sym (ap parameters_fault stream) ∙ h))

-- the whole file

pub first_front : (b : List ℕ) (e : StreamFault) → IsCause e (front_fault b) → IsCause e (first_fault b)
unfolding first_fault
first_front b e h = cause_first e (front_fault b) (later_fault (siz_of b) b (after_siz b)) h

later_same : (b : List ℕ) (siz : Siz) (start : ℕ) → siz ≡ siz_of b → start ≡ after_siz b → later_fault siz b start ≡ later_fault (siz_of b) b (after_siz b)
later_same b siz start is after = ap (λ (s : Siz). later_fault s b start) is ∙ ap (λ (n : ℕ). later_fault (siz_of b) b n) after

pub first_later : (b : List ℕ) (siz : Siz) (start : ℕ) (e : StreamFault) → front_fault b ≡ None → siz ≡ siz_of b → start ≡ after_siz b → IsCause e (later_fault siz b start) → IsCause e (first_fault b)
unfolding first_fault
first_later b siz start e clear is after h =
    cause_later e (front_fault b) (later_fault (siz_of b) b (after_siz b)) clear (cause_same e (later_fault siz b start) (later_fault (siz_of b) b (after_siz b)) (later_same b siz start is after) h)

pub first_clear : (b : List ℕ) (siz : Siz) (start : ℕ) (s : Stream) → front_fault b ≡ None → siz ≡ siz_of b → start ≡ after_siz b → later_fault siz b start ≡ None → s ≡ stream_from siz b start
    → (first_fault b ≡ None) × (s ≡ stream_in b)
unfolding first_fault
first_clear b siz start s clear is after later stream = (
  none_of_both (front_fault b) (later_fault (siz_of b) b (after_siz b)) clear (sym (later_same b siz start is after) ∙ later),
  stream ∙ ap (λ (x : Siz). stream_from x b start) is ∙ ap (λ (n : ℕ). stream_from (siz_of b) b n) after,
)

siz_inside : Siz → Segment → Siz
siz_inside other (segment.Siz siz) = siz
siz_inside other _ = other

pub siz_value : (b : List ℕ) (s : Segment) (siz : Siz) → marker_at b 2 SIZ ≡ true → segment_at 1 (drop 2 b) ≡ s → s ≡ segment.Siz siz → siz ≡ siz_of b
unfolding siz_inside
siz_value b s siz stands value is =
    sym (ap (siz_inside siz) (sym (siz_stands b stands) ∙ value ∙ is))

pub parameters_same : (siz : Siz) (main slice : List Segment) (tiles items : List Tile) (comps : ℕ) → slice ≡ main → comps ≡ length siz.comps → items ≡ tiles
    → option_or (entries_fault slice comps items) (planes_fault slice comps items) ≡ parameters_fault (record { siz = siz; main = main; tiles = tiles })
parameters_same siz main slice tiles items comps all is made =
    ap (λ (x : List Segment). option_or (entries_fault x comps items) (planes_fault x comps items)) all
    ∙ ap (λ (x : List Tile). option_or (entries_fault main comps x) (planes_fault main comps x)) made
    ∙ ap (λ (n : ℕ). option_or (entries_fault main n tiles) (planes_fault main n tiles)) is
