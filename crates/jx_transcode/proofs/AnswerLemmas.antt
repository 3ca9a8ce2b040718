-- What becomes of an input, from what became of its plan.
use Rattle.std.proofs.Common.{◌≡◌, ◌∙◌, ◌⊎◌, ◌<◌, ◌≤◌, ℕ, Bool, false, List, [], ◌++◌, length, map, Option, None, Some, Result, Ok, Err, IfOk, IfErr, OnOk, refl, ap, sym, subst, arith, inl, inr, append_assoc, append-nil, if◌then◌else◌}
use Rattle.std.specs.List.{All, flat_map}
use Rattle.std.proofs.lemmas.Bool.{cases_lt}
use Rattle.std.proofs.lemmas.Grind.{flat_map-append}
use Rattle.jx_base.specs.declared.pieces.Block.{Block}
use Rattle.jx_base.specs.Joined.{joined}
use Rattle.jx_base.proofs.Joined.{joined_same}
use Rattle.jx_codeblock.specs.declared.job.Job.{Job}
use Rattle.jx_codeblock.specs.Written.{block_asked, is_wrong}
use Rattle.jx_marker.specs.Segments.{spelling}
use Rattle.jx_marker.specs.declared.Segment.{Segment}
use Rattle.jx_marker.specs.declared.Segment.TheVariants as segment
use Rattle.jx_io.specs.Device.{Meaning}
use Rattle.jx_codestream.specs.declared.Stream.{Stream}
use Rattle.jx_codestream.specs.First.{tile_number}
use Rattle.jx_codestream.specs.Read.{IsRead}
use Rattle.jx_codestream.specs.Spells.{TilePart, all_bytes, part_bytes}
use Rattle.jx_tile.specs.Totals.{block_total}
use Rattle.jx_layers.specs.Rule.{Rule}
use Rattle.jx_options.specs.declared.Marks.{Marks}
use Rattle.jx_plan.specs.Meaning.{meaning_of}
use Rattle.jx_plan.specs.Plan.{IsPlan, MayBePlanned, Plan, headers_with}
use Rattle.jx_plan.specs.Planned.{IsFreeBy, IsPlanned, IsPlannedBy, MakesLayers, blocks_written, layers_of_rule}
use Rattle.jx_plan.specs.Standing.{HeadersStand}
use Rattle.jx_reduce.specs.Left.{IsLeft}
use Rattle.jx_reduce.specs.Reduction.{blocks_left, stream_left}
use Rattle.jx_reduce.specs.Unreducible.{first_choice}
use Rattle.jx_options.specs.Wanted.{MayBeWanted, Wanted}
use Rattle.jx_tier2_writer.specs.Index.{entry_of, index_of, index_segments}
use Rattle.jx_tier2_writer.specs.Kept.{IsKeptIn}
use Rattle.jx_tier2_writer.specs.Ready.{AllShort, AreShort}
use Rattle.jx_tier2_writer.specs.Tile.{IsTooLong, blocks_in, main_bytes}
use Rattle.jx_tier2_writer.specs.TileParts.{AreTilePartsOf, IsOutput}
use Rattle.jx_tier2_writer.specs.declared.index.PartLength.{PartLength}
use Rattle.jx_transcode.specs.Aims.{Aim, rule_in}
use Rattle.jx_rounds.specs.Files.{IsFileBegun, IsFileCut, IsFileHalted, IsFileMade, IsFileSpoiled, IsStopped, IsUnfinished}
use Rattle.jx_transcode.specs.Filed.{IsAnswered, IsCarriedIn, IsCarriedOut, IsEndIn, IsEndOf, status_of}
use Rattle.jx_transcode.specs.MakeRun.{ComesOut}
use Rattle.jx_transcode.specs.Outcome.{IsCutShort, IsUnbegun, IsVerdict, Leaves, LeavesBegun}
use Rattle.jx_transcode.specs.Rewritten.{CanBePlanned, HasBlocks, IsBad, IsFront, IsFrontOf, IsKept, IsLong, IsRewritten, IsSpoiled, ReadsLeft, headers_of}
use Rattle.jx_rounds.specs.Tiles.{IsRight, IsWrongAt, Round, tile_size}
use Rattle.jx_transcode.specs.Rewritten.{IsTooLongAt}
use Rattle.jx_rounds.specs.Heads.{IsCodestreamOf, IsHead, IsIndexed, IsUnmeasured}
use Rattle.jx_rounds.specs.Rounds.{EndWithRound, IsHaltedAt, IsRoundFront, IsShortFront, IsSpoiledBy, IsSpoiledTile, IsTapedTo, IsWholeFile, most_of_part, round_in}
use Rattle.jx_rounds.specs.Sent.{PartSent, bytes_sent, sent_of}
use Rattle.jx_rounds.specs.declared.halt.Halt.{Halt}
use Rattle.jx_rounds.specs.declared.halt.Halt.TheVariants as halt
use Rattle.jx_transcode.specs.declared.status.Status.{Status}
use Rattle.jx_transcode.specs.declared.status.Status.TheVariants as status
use Rattle.jx_cli.specs.Words.{Text}
use Rattle.jx_options.specs.Work.{Work}
use Rattle.jx_rounds.proofs.FrontLemmas.{at_most_short, comps_stay, sent_by, tiles_stay}
use Rattle.jx_rounds.proofs.IndexLemmas.{front_bytes, front_lengths}
use Rattle.jx_rounds.proofs.SentLemmas.{both_sent}
use Rattle.jx_rounds.specs.Tapes.{IsTapeOf}
use Rattle.jx_rounds.specs.declared.tape.TapeEntry.{TapeEntry}
use Rattle.jx_transcode.specs.RunTapes.{IsRunTape, IsTapedAfter, IsTapedInPart}
use Rattle.jx_transcode.proofs.CutLemmas.{front_then, joined_front, longer_unfinished}
use Rattle.jx_transcode.proofs.TapeLemmas.{in_rounds, start_below, start_grows}
use Rattle.jx_transcode.proofs.WrongLemmas.{all_right, right_or_wrong}

-- ---- a plan was carried out: its file was written, or halted
halted_undone : (h : Halt) → status_of h ≡ status.Done → ⊥
halted_undone (halt.Bad tile number) e = cc
halted_undone (halt.TooLong tile) e = cc
halted_undone halt.Failed e = cc
halted_undone halt.NoMemory e = cc

-- ---- a plan by its stream, its blocks, what is wanted, its layers and its jobs
abbrev plan_of : Stream → List Block → Wanted → ℕ → List Job → Plan
plan_of s blocks w layers jobs = record { stream = s; blocks = blocks; wanted = w; layers = layers; jobs = jobs }

same_plan : (s s' : Stream) (b b' : List Block) (w w' : Wanted) (l l' : ℕ) (jobs : List Job) → s ≡ s' → b ≡ b' → w ≡ w' → l ≡ l' → plan_of s b w l jobs ≡ plan_of s' b' w' l' jobs
same_plan s s' b b' w w' l l' jobs e f g h = rw (e, f, g, h) refl

plan_is : (r : Rule) (s : Stream) (blocks : List Block) (w : Wanted) (p : Plan) → IsPlannedBy r s blocks w p → p ≡ plan_of s blocks w (layers_of_rule r s blocks) p.jobs
plan_is r s blocks w p planned = same_plan p.stream s p.blocks blocks p.wanted w p.layers (layers_of_rule r s blocks) p.jobs planned.stream planned.blocks_are planned.wanted planned.layers

joined_file : (a b c d e : List ℕ) → ((a ++ (b ++ c)) ++ d) ++ e ≡ a ++ (b ++ (c ++ (d ++ (e ++ []))))
joined_file a b c d e =
    append_assoc (a ++ (b ++ c)) d e ∙ append_assoc a (b ++ c) (d ++ e) ∙ ap (λ (x : List ℕ). a ++ x) (append_assoc b c (d ++ e))
    ∙ ap (λ (x : List ℕ). a ++ (b ++ (c ++ (d ++ x)))) (sym (append-nil e))

main_indexed : (comps : ℕ) (a b : List ℕ) (main index : List Segment) → (a ++ (b ++ all_bytes comps main)) ++ all_bytes comps index ≡ a ++ (b ++ all_bytes comps (main ++ index))
main_indexed comps a b main index =
    append_assoc a (b ++ all_bytes comps main) (all_bytes comps index) ∙ ap (λ (x : List ℕ). a ++ x) (append_assoc b (all_bytes comps main) (all_bytes comps index))
    ∙ ap (λ (x : List ℕ). a ++ (b ++ x)) (sym (flat_map-append (spelling comps) main index))

-- ---- what the laws of the crates below say of a plan by a rule, and of a file that is written anew
pub record Laws : Type 0 where
  pub blocks : (s : Stream) (blocks : List Block) (w : Wanted) (r : Rule) (p : Plan) → IsPlan p → IsPlannedBy r s blocks w p → map block_asked p.jobs ≡ blocks_written w r s blocks
  pub free : (s : Stream) (blocks : List Block) (w : Wanted) (r : Rule) (p : Plan) → IsPlan p → IsPlannedBy r s blocks w p → IsFreeBy r s blocks w
  pub keeps : (w : Wanted) (rule : Rule) (before : Stream) (blocks : List Block) (out : List ℕ)
      (is : IsOutput w.marks (headers_with w (layers_of_rule rule before blocks) before) (blocks_written w rule before blocks) out)
      → MayBePlanned before blocks → MakesLayers (Some rule) before blocks
      → MayBeWanted w → IsFreeBy rule before blocks w → All (λ (b : Block). is_wrong w.style b ≡ false) blocks → AllShort is.parts (tile_number before.siz)
      → (after : Stream) × IsKeptIn w rule before after blocks out
  pub stand : (b : List ℕ) (s : Stream) → IsRead b s → HeadersStand s
  pub left : (d : ℕ) (s : Stream) (blocks : List Block) → HeadersStand s → first_choice d s ≡ None → IsLeft d (meaning_of s blocks) (meaning_of (stream_left d s) (blocks_left d s blocks))
  pub parts : (m : Marks) (s : Stream) (blocks : List Block) (t : ℕ) (xs ys : List TilePart) → AreTilePartsOf m s blocks t xs → AreTilePartsOf m s blocks t ys → xs ≡ ys

-- ---- what stands of the file of an input that was planned
module _ (laws : Laws) (aim : Aim) (input : List ℕ) (s : Stream) (blocks : List Block) (jobs : List Job) (reads : ReadsLeft aim.reduce input s blocks) (planned : MayBePlanned s blocks) (within : length input ≤ aim.limit)
    (may : MayBeWanted aim.wanted) (can : CanBePlanned aim s blocks) (same : map block_asked jobs ≡ blocks_written aim.wanted can.by s blocks) (all : length blocks ≡ block_total s) where
  abbrev w : Wanted
  w = aim.wanted

  abbrev layers : ℕ
  layers = layers_of_rule can.by s blocks

  abbrev plan : Plan
  plan = plan_of s blocks w layers jobs

  abbrev tiles : ℕ
  tiles = tile_number s.siz

  abbrev headers : Stream
  headers = headers_of w can.by s blocks

  abbrev written_blocks : List Block
  written_blocks = blocks_written w can.by s blocks

  -- tile-parts of the plan's blocks are those of the blocks that the rule says
  are_of : (t : ℕ) (parts : List TilePart) → AreTilePartsOf w.marks headers (map block_asked jobs) t parts → AreTilePartsOf w.marks headers written_blocks t parts
  are_of t parts are = subst (λ (bs : List Block). AreTilePartsOf w.marks headers bs t parts) same are

  -- the bytes of a plain front are the main header and the tile-parts
  front_of : (n : ℕ) (head bytes : List ℕ) (sent : List PartSent) → IsShortFront plan n sent → w.marks.tlm ≡ false → head ≡ main_bytes headers → bytes ≡ head ++ bytes_sent sent → IsFront w can.by s blocks n bytes
  front_of n head bytes sent front plain is all = record {
    unindexed = plain;
    parts = front.parts;
    right = front.right;
    are = λ t lt. are_of t (front.parts t) (front.are t lt);
    bytes_are = all ∙ ap (λ (h : List ℕ). h ++ bytes_sent sent) is ∙ ap (λ (b : List ℕ). main_bytes headers ++ b) (front_bytes plan n sent front);
  }

  -- a tile has one list of tile-parts
  same_parts : (n m : ℕ) (sent again : List PartSent) (one : IsShortFront plan n sent) (two : IsShortFront plan m again) (t : ℕ) → t < n → t < m → one.parts t ≡ two.parts t
  same_parts n m sent again one two t below within =
      laws.parts w.marks headers written_blocks t (one.parts t) (two.parts t) (are_of t (one.parts t) (one.are t below)) (are_of t (two.parts t) (two.are t within))

  none_long : (n : ℕ) (sent : List PartSent) → IsShortFront plan n sent → (t : ℕ) → t < n → IsLong w can.by s blocks t → ⊥
  none_long n sent front t lt long =
      long.long (subst AreShort (laws.parts w.marks headers written_blocks t (front.parts t) long.parts (are_of t (front.parts t) (front.are t lt)) long.are) (front.short t lt))

  none_spoiled : (n : ℕ) (sent : List PartSent) → IsShortFront plan n sent → (t : ℕ) → t < n → IsSpoiled w can.by s blocks t → ⊥
  none_spoiled n sent front t lt (inl wrong) = right_or_wrong w s blocks t wrong.0 (front.right t lt) wrong.1
  none_spoiled n sent front t lt (inr long) = none_long n sent front t lt long

  long_of : (t : ℕ) → IsRight w s blocks t → IsTooLong plan (map block_asked jobs) t most_of_part → IsLong w can.by s blocks t
  long_of t right is = record { right = right; parts = is.parts; are = are_of t is.parts is.are; long = λ short. is.long (at_most_short is.parts short) }

  -- the index that a head ends with is that of the file's tile-parts
  abbrev index_here : List TilePart → List ℕ
  index_here parts = all_bytes (length s.siz.comps) (index_of w.marks parts)

  -- by whether it is asked
  abbrev index_where : List TilePart → Bool → List ℕ
  index_where parts asked = main_bytes headers ++ all_bytes (length s.siz.comps) (if asked then index_segments (map entry_of parts) else [])

  head_of : (head out : List ℕ) (whole : IsWholeFile plan head out) → IsHead plan head → head ≡ main_bytes headers ++ index_here (joined whole.tiles.parts 0 tiles)
  head_of head out whole (inl plain) = plain.1 ∙ sym (append-nil (main_bytes headers)) ∙ ap (index_where (joined whole.tiles.parts 0 tiles)) (sym plain.0)
  head_of head out whole (inr (asked, index)) =
      let same : joined index.are.front.parts 0 tiles ≡ joined whole.tiles.parts 0 tiles =
      joined_same index.are.front.parts whole.tiles.parts tiles (λ t lt. same_parts tiles tiles index.are.sent whole.sent index.are.front whole.tiles t lt lt) in
      let lengths : index.lengths ≡ map entry_of (joined whole.tiles.parts 0 tiles) =
      index.are.lengths_are ∙ front_lengths plan tiles index.are.sent index.are.front ∙ ap (λ (ps : List TilePart). map entry_of ps) same in
      index.head_is ∙ ap (λ (l : List PartLength). main_bytes headers ++ all_bytes (length s.siz.comps) (index_segments l)) lengths ∙ ap (index_where (joined whole.tiles.parts 0 tiles)) (sym asked)

  abbrev output_of : (head out : List ℕ) (whole : IsWholeFile plan head out) → IsHead plan head → IsOutput w.marks headers written_blocks out
  output_of head out whole is =
      let h : Stream = headers in
      let parts : ℕ → List TilePart = whole.tiles.parts in
      let count : tile_number h.siz ≡ tiles = tiles_stay w layers s in
      let comps : length h.siz.comps ≡ length s.siz.comps = comps_stay w layers s in
      let body : ℕ → ℕ → List ℕ = λ k n. flat_map (part_bytes k) (joined parts 0 n) in
      record {
        parts = parts;
        are = λ t lt. are_of t (parts t) (whole.tiles.are t (subst (λ (n : ℕ). t < n) count lt));
        bytes = whole.bytes_are ∙ ap (λ (b : List ℕ). (head ++ b) ++ spelling 1 segment.Eoc) (front_bytes plan tiles whole.sent whole.tiles)
            ∙ ap (λ (b : List ℕ). (b ++ body (length s.siz.comps) tiles) ++ spelling 1 segment.Eoc) (head_of head out whole is)
            ∙ ap (λ (k : ℕ). ((main_bytes h ++ all_bytes k (index_of w.marks (joined parts 0 tiles))) ++ body k tiles) ++ spelling 1 segment.Eoc) (sym comps)
            ∙ ap (λ (n : ℕ). ((main_bytes h ++ all_bytes (length h.siz.comps) (index_of w.marks (joined parts 0 n))) ++ body (length h.siz.comps) n) ++ spelling 1 segment.Eoc) (sym count)
            ∙ ap (λ (b : List ℕ). (b ++ body (length h.siz.comps) (tile_number h.siz)) ++ spelling 1 segment.Eoc) (main_indexed (length h.siz.comps) (spelling 1 segment.Soc) (spelling 1 (segment.Siz h.siz)) h.main (index_of w.marks (joined parts 0 (tile_number h.siz))))
            ∙ joined_file (spelling 1 segment.Soc) (spelling 1 (segment.Siz h.siz)) (all_bytes (length h.siz.comps) (h.main ++ index_of w.marks (joined parts 0 (tile_number h.siz)))) (body (length h.siz.comps) (tile_number h.siz)) (spelling 1 segment.Eoc);
      }

  right_of : (head out : List ℕ) → IsWholeFile plan head out → All (λ (b : Block). is_wrong w.style b ≡ false) blocks
  right_of head out whole = all_right w s blocks all whole.tiles.right

  pub rewritten_of : (head out : List ℕ) → IsWholeFile plan head out → IsHead plan head → IsRewritten aim input out
  rewritten_of head out whole is =
      record { stream = s; blocks = blocks; reads = reads; can = can; right = right_of head out whole; output = output_of head out whole is; short = whole.tiles.short }

  -- what the written file means is left of what was read
  left_of : (after : Stream) → meaning_of after written_blocks ≡ meaning_of s blocks → IsLeft aim.reduce (meaning_of reads.whole reads.all) (meaning_of after written_blocks)
  left_of after same =
      let d : ℕ = aim.reduce in
      let here = laws.left d reads.whole reads.all (laws.stand input reads.whole reads.reads.read) reads.free in
      let of : meaning_of after written_blocks ≡ meaning_of (stream_left d reads.whole) (blocks_left d reads.whole reads.all) =
      same ∙ ap (λ (x : Stream). meaning_of x blocks) reads.stream ∙ ap (λ (b : List Block). meaning_of (stream_left d reads.whole) b) reads.blocks_are in
      subst (λ m. IsLeft d (meaning_of reads.whole reads.all) m) (sym of) here

  kept_of : (head out : List ℕ) → IsWholeFile plan head out → IsHead plan head → IsKept aim input out
  kept_of head out whole is =
      let kept = laws.keeps w can.by s blocks out (output_of head out whole is) planned can.layers may can.free (right_of head out whole) whole.tiles.short in
      record { before = s; after = kept.0; blocks = blocks; reads = reads; by = can.by; is = can.is; kept = kept.1; left = left_of kept.0 kept.1.meaning }

  counted : (n : ℕ) → n ≡ length blocks → HasBlocks aim.reduce input n
  counted n is = record { stream = s; blocks = blocks; reads = reads; count_is = is }

  -- whole rounds, whose tiles are all written
  rounds_of : (head bytes : List ℕ) → IsRoundFront plan head bytes → w.marks.tlm ≡ false → head ≡ main_bytes headers → IsFrontOf aim input bytes
  rounds_of head bytes front plain is = record {
    stream = s;
    blocks = blocks;
    reads = reads;
    can = can;
    tiles = front.tiles;
    inside = front.inside;
    front = front_of front.tiles head bytes front.sent front.front plain is front.bytes_are;
    before = λ t inside spoiled. elim (cases_lt t front.tiles) [
      | inl lt ↦ absurd (none_spoiled front.tiles front.sent front.front t lt spoiled)
      | inr ge ↦ elim front.ends [
        | inl begins ↦
            let here : (round_in plan front.tiles).start ≡ front.tiles = ap (λ (r : Round). r.start) begins in
            omega (arith, here, start_grows (blocks_in plan) (tile_size s) front.tiles t ge)
        | inr past ↦ absurd (omega (arith, past, ge, inside))
      ]
    ];
  }

  -- where an index stands before them they are a front of the whole file
  begin_whole : (head bytes : List ℕ) → IsRoundFront plan head bytes → IsIndexed plan head → (out : List ℕ) × IsWholeFile plan head out × (rest : List ℕ) × (out ≡ bytes ++ rest)
  begin_whole head bytes front index =
      let all : List PartSent = index.are.sent in
      let one : ℕ → List PartSent = sent_by plan front.front.parts in
      let two : ℕ → List PartSent = sent_by plan index.are.front.parts in
      let same : joined one 0 front.tiles ≡ joined two 0 front.tiles = joined_same one two front.tiles (λ t lt.
      ap (λ (ps : List TilePart). sent_of t (map (part_bytes (length s.siz.comps)) ps)) (same_parts front.tiles tiles front.sent all front.front index.are.front t lt (omega (arith, lt, front.inside)))) in
      let cut = joined_front two front.tiles tiles front.inside in
      let whole : all ≡ front.sent ++ cut.0 = index.are.front.sent_are ∙ cut.1 ∙ ap (λ (x : List PartSent). x ++ cut.0) (sym same ∙ sym front.front.sent_are) in
      let rest : List ℕ = bytes_sent cut.0 ++ spelling 1 segment.Eoc in (
        (head ++ bytes_sent all) ++ spelling 1 segment.Eoc,
        record { sent = all; tiles = index.are.front; bytes_are = refl },
        rest,
        ap (λ (x : List PartSent). (head ++ bytes_sent x) ++ spelling 1 segment.Eoc) whole ∙ ap (λ (b : List ℕ). (head ++ b) ++ spelling 1 segment.Eoc) (both_sent front.sent cut.0)
            ∙ front_then head (bytes_sent front.sent) (bytes_sent cut.0) (spelling 1 segment.Eoc) ∙ ap (λ (b : List ℕ). b ++ rest) (sym front.bytes_are),
      )

  cut_stands : (name : Text) (old new : Meaning) → IsFileCut plan name old new → LeavesBegun name aim input old new
  cut_stands name old new file = elim file.of [
    | inr whole ↦ inr (inl (file.bytes, inr (rewritten_of file.head file.bytes whole file.is), file.begun))
    | inl front ↦ elim file.is [
      | inl plain ↦ inr (inl (file.bytes, inl (rounds_of file.head file.bytes front plain.0 plain.1), file.begun))
      | inr indexed ↦
          let whole = begin_whole file.head file.bytes front indexed.1 in
          inr (inl (whole.0, inr (rewritten_of file.head whole.0 whole.1 file.is), longer_unfinished name file.bytes whole.0 whole.2 old new whole.3 file.begun))
    ]
  ]

  begun_stands : (name : Text) (old new : Meaning) → IsFileBegun plan name old new → LeavesBegun name aim input old new
  begun_stands name old new (inl same) = inl same
  begun_stands name old new (inr file) = cut_stands name old new file

  begun_short : (name : Text) (n : ℕ) (old new : Meaning) → n ≡ length blocks → IsFileBegun plan name old new → IsCutShort name aim input n old new
  begun_short name n old new is file = inr (inr (inr (record { within = within; count = counted n is; stands = begun_stands name old new file })))

  -- a tile isn't written
  start_is : (head : List ℕ) (why : Halt) (t : ℕ) (bytes : List ℕ) (is : IsHaltedAt plan head why t bytes) → (round_in plan t).start ≡ is.start
  start_is head why t bytes is = is.round

  lowest_of : (why : Halt) (t : ℕ) → IsSpoiledTile plan why t → (n : ℕ) → n < t → IsSpoiled w can.by s blocks n → ⊥
  lowest_of why t is n lt spoiled = none_spoiled t is.below.0 is.below.1 n lt spoiled

  bad_of : (t number : ℕ) → IsSpoiledTile plan (halt.Bad t number) t → IsBad aim input number
  bad_of t number is = record {
    stream = s;
    blocks = blocks;
    reads = reads;
    can = can;
    tile = t;
    inside = is.inside;
    is = is.spoiled.1;
    lowest = lowest_of (halt.Bad t number) t is;
  }

  too_long_of : (t : ℕ) → IsSpoiledTile plan (halt.TooLong t) t → IsTooLongAt aim input t
  too_long_of t is = record {
    stream = s;
    blocks = blocks;
    reads = reads;
    can = can;
    inside = is.inside;
    is = long_of t is.spoiled.1 is.spoiled.2;
    lowest = lowest_of (halt.TooLong t) t is;
  }

  start_front : (head : List ℕ) (why : Halt) (t : ℕ) (bytes : List ℕ) → IsHaltedAt plan head why t bytes → w.marks.tlm ≡ false → head ≡ main_bytes headers
      → IsFront w can.by s blocks (round_in plan t).start bytes
  start_front head why t bytes is plain main =
      subst (λ (n : ℕ). IsFront w can.by s blocks n bytes) (sym (start_is head why t bytes is)) (front_of is.start head bytes is.sent is.front plain main is.bytes_are)

  cut_front : (head : List ℕ) (why : Halt) (t : ℕ) (bytes : List ℕ) → IsHaltedAt plan head why t bytes → w.marks.tlm ≡ false → head ≡ main_bytes headers → IsFrontOf aim input bytes
  cut_front head why t bytes is plain main = record {
    stream = s;
    blocks = blocks;
    reads = reads;
    can = can;
    tiles = is.start;
    inside = omega (arith, start_is head why t bytes is, start_below (blocks_in plan) (tile_size s) t, is.of.inside);
    front = front_of is.start head bytes is.sent is.front plain main is.bytes_are;
    before = λ n inside spoiled. elim (cases_lt n t) [
      | inl lt ↦ absurd (lowest_of why t is.of n lt spoiled)
      | inr ge ↦ omega (arith, start_is head why t bytes is, start_grows (blocks_in plan) (tile_size s) t n ge)
    ];
  }

  -- what is left where a tile isn't written: the rounds before its own, or nothing where the index is asked
  abbrev IsLeftAt : Text → Halt → ℕ → Meaning → Meaning → Type 0
  IsLeftAt name why t old new =
      IsSpoiledTile plan why t
      × (((bytes : List ℕ) × IsFront w can.by s blocks (round_in plan t).start bytes × IsFrontOf aim input bytes × IsStopped name bytes old new) ⊎ IsUnbegun aim old new)

  -- all tiles are right and short where the index was made
  indexed_whole : (why : Halt) (t : ℕ) (head : List ℕ) → IsIndexed plan head → (is : IsSpoiledTile plan why t) → IsSpoiled w can.by s blocks t → ⊥
  indexed_whole why t head index is spoiled = none_spoiled tiles index.are.sent index.are.front t is.inside spoiled

  left_at : (name : Text) (why : Halt) (t : ℕ) (old new : Meaning) → (IsSpoiledBy plan t why → IsSpoiled w can.by s blocks t) → IsFileSpoiled plan name why t old new → IsLeftAt name why t old new
  left_at name why t old new spoiled (inl file) = elim file.head_is [
    | inl plain ↦ (
      file.is.of,
      inl (
        file.bytes,
        start_front file.head why t file.bytes file.is plain.0 plain.1,
        cut_front file.head why t file.bytes file.is plain.0 plain.1,
        file.stopped,
      ),
    )
    | inr indexed ↦ absurd (indexed_whole why t file.head indexed.1 file.is.of (spoiled file.is.of.spoiled))
  ]
  left_at name why t old new spoiled (inr file) = (file.of, inr (file.asked, file.same))

  stopped_begun : (name : Text) (bytes : List ℕ) (old new : Meaning) → IsStopped name bytes old new → IsUnfinished name bytes old new
  stopped_begun name bytes old new stopped =
      inr (stopped.0, [], stopped.1, record { front = bytes; whole = sym (append-nil bytes); meaning = stopped.2 })

  left_short : (name : Text) (n : ℕ) (why : Halt) (t : ℕ) (old new : Meaning) → n ≡ length blocks → IsLeftAt name why t old new → IsCutShort name aim input n old new
  left_short name n why t old new is left = inr (inr (inr (record {
    within = within;
    count = counted n is;
    stands = elim left.1 [
      | inl cut ↦ inr (inl (cut.0, inl cut.2, stopped_begun name cut.0 old new cut.3))
      | inr none ↦ inl none.1
    ];
  })))

  long_spoiled : (t : ℕ) → IsSpoiledBy plan t (halt.TooLong t) → IsSpoiled w can.by s blocks t
  long_spoiled t is = inr (long_of t is.1 is.2)

  bad_spoiled : (t number : ℕ) → IsSpoiledBy plan t (halt.Bad t number) → IsSpoiled w can.by s blocks t
  bad_spoiled t number is = inl (number, is.1)

  module _ (name : Text) (work : Work) (n bytes : ℕ) (tape : List TapeEntry) (old new : Meaning) (count : n ≡ length blocks) (of : IsTapeOf work blocks tape) where
    taped : IsRunTape work aim.reduce input tape
    taped = inr (record { stream = s; blocks = blocks; reads = reads; of = of })

    begun : (st : Status) → (IsVerdict st → ⊥) → Leaves name aim input st n bytes old new → IsTapedAfter aim.reduce input st (length tape) → IsFileBegun plan name old new → IsAnswered name work aim input st n bytes tape old new
    begun st free leaves to file = record {
      verdict = λ v. absurd (free v);
      leaves = leaves;
      unsaid = begun_short name n old new count file;
      tape = taped;
      whole = λ done. absurd (free (subst IsVerdict (sym done) tt));
      taped = to;
    }

    cut : EndWithRound plan (length tape) → IsTapedInPart aim.reduce input (length tape)
    cut to = inr (in_rounds aim.reduce input plan (length tape) reads all to)

    halted : (h : Halt) → IsFileHalted plan name h old new → IsTapedTo plan h (length tape) → IsAnswered name work aim input (status_of h) n bytes tape old new
    halted (halt.Bad t number) file to =
        let left : IsLeftAt name (halt.Bad t number) t old new = left_at name (halt.Bad t number) t old new (bad_spoiled t number) file in
        let wrong : IsWrongAt w s blocks t number = left.0.spoiled.1 in
        record {
          verdict = λ v. (within, bad_of t number left.0);
          leaves = record {
            stands = elim left.1 [
              | inl cut ↦
                  inl (cut.0, record { stream = s; blocks = blocks; reads = reads; can = can; tile = t; from = wrong.from; below = wrong.below; front = cut.1 }, cut.3)
              | inr none ↦ inr none
            ];
            count = counted n count;
          };
          unsaid = left_short name n (halt.Bad t number) t old new count left;
          tape = taped;
          whole = λ done. absurd (halted_undone (halt.Bad t number) done);
          taped = record { stream = s; blocks = blocks; reads = reads; tile = t; inside = left.0.inside; from = wrong.from; below = wrong.below; count_is = to };
        }
    halted (halt.TooLong t) file to =
        let left : IsLeftAt name (halt.TooLong t) t old new = left_at name (halt.TooLong t) t old new (long_spoiled t) file in
        record {
          verdict = λ v. (within, inl (refl, too_long_of t left.0));
          leaves = inl (
            refl,
            record {
              stands = elim left.1 [
                | inl cut ↦ inl (cut.0, record { stream = s; blocks = blocks; reads = reads; can = can; front = cut.1 }, cut.3)
                | inr none ↦ inr none
              ];
              count = counted n count;
            },
          );
          unsaid = left_short name n (halt.TooLong t) t old new count left;
          tape = taped;
          whole = λ done. absurd (halted_undone (halt.TooLong t) done);
          taped = inl (refl, record { stream = s; blocks = blocks; reads = reads; inside = left.0.inside; count_is = to });
        }
    halted halt.Failed file to = begun status.WriteFault (λ v. v) (begun_short name n old new count file) (cut to) file
    halted halt.NoMemory file to = begun status.NoMemory (λ v. v) (begun_short name n old new count file) (cut to) file

    written : length tape ≡ length blocks → IsFileMade plan name bytes old new → IsAnswered name work aim input status.Done n bytes tape old new
    written whole file = record {
      verdict = λ v. (within, file.bytes, rewritten_of file.head file.bytes file.whole file.is);
      leaves = record {
        out = file.bytes;
        is = rewritten_of file.head file.bytes file.whole file.is;
        made = file.made;
        kept = kept_of file.head file.bytes file.whole file.is;
        count = counted n count;
        long = file.count_is;
      };
      unsaid = inr (inr (inr (record { within = within; count = counted n count; stands = inr (inr (file.bytes, rewritten_of file.head file.bytes file.whole file.is, file.made)) })));
      tape = taped;
      whole = λ done. counted (length tape) whole;
      taped = counted (length tape) whole;
    }

  pub answered : (name : Text) (work : Work) (wrote : Result ℕ Halt) (st : Status) (n bytes : ℕ) (tape : List TapeEntry) (old new : Meaning) → IsCarriedOut plan name work wrote n tape old new
      → IsEndOf wrote st bytes → IsAnswered name work aim input st n bytes tape old new
  answered name work (Ok count) st n bytes tape old new is ends = rw (ends.0, ends.1) (written name work n count tape old new is.count is.tape is.whole is.ok)
  answered name work (Err why) st n bytes tape old new is ends = rw ends.0 (halted name work n bytes tape old new is.count is.tape why is.err is.taped)

  -- ---- where it was written to memory
  module _ (work : Work) (n : ℕ) (tape : List TapeEntry) (count : n ≡ length blocks) (of : IsTapeOf work blocks tape) where
    tape_is : IsRunTape work aim.reduce input tape
    tape_is = inr (record { stream = s; blocks = blocks; reads = reads; of = of })

    comes_whole : (out : List ℕ) → IsCodestreamOf plan out → length tape ≡ length blocks → ComesOut work aim input status.Done n out tape
    comes_whole out is whole = record {
      verdict = λ v. (within, out, rewritten_of is.head out is.whole is.is);
      tells = record { is = rewritten_of is.head out is.whole is.is; kept = kept_of is.head out is.whole is.is; count = counted n count };
      tape = tape_is;
      whole = λ done. counted (length tape) whole;
      taped = counted (length tape) whole;
    }

    comes_halted : (h : Halt) (out : List ℕ) → IsUnmeasured plan h → IsTapedTo plan h (length tape) → ComesOut work aim input (status_of h) n out tape
    comes_halted (halt.Bad t number) out is to =
        let spoiled : IsSpoiledBy plan t (halt.Bad t number) = is.spoiled in
        let wrong : IsWrongAt w s blocks t number = spoiled.1 in
        record {
          verdict = λ v. (within, bad_of t number is);
          tells = counted n count;
          tape = tape_is;
          whole = λ done. absurd (halted_undone (halt.Bad t number) done);
          taped = record { stream = s; blocks = blocks; reads = reads; tile = t; inside = is.inside; from = wrong.from; below = wrong.below; count_is = to };
        }
    comes_halted (halt.TooLong t) out is to = record {
      verdict = λ v. (within, inl (refl, too_long_of t is));
      tells = inl ((λ e. omega (arith, e), λ e. omega (arith, e)), counted n count);
      tape = tape_is;
      whole = λ done. absurd (halted_undone (halt.TooLong t) done);
      taped = inl (refl, record { stream = s; blocks = blocks; reads = reads; inside = is.inside; count_is = to });
    }
    comes_halted halt.Failed out never to = absurd never
    comes_halted halt.NoMemory out free to = record {
      verdict = λ v. absurd v;
      tells = inr (inl (counted n count));
      tape = tape_is;
      whole = λ done. absurd (halted_undone halt.NoMemory done);
      taped = inr (in_rounds aim.reduce input plan (length tape) reads all to);
    }

    comes_by : (st : Status) (out : List ℕ) → IsEndIn plan st out (length tape) → ComesOut work aim input st n out tape
    comes_by st out (inl done) = rw done.0 (comes_whole out done.1 done.2)
    comes_by st out (inr (why, is, unmade, to)) = rw is (comes_halted why out unmade to)

  pub comes : (work : Work) (st : Status) (n : ℕ) (out : List ℕ) (tape : List TapeEntry) → IsCarriedIn plan work st n out tape → ComesOut work aim input st n out tape
  comes work st n out tape is = comes_by work n tape is.count is.tape st out is.ends

comes_by_rule : Laws → (work : Work) (aim : Aim) (input : List ℕ) (s : Stream) (blocks : List Block) (p : Plan) (st : Status) (n : ℕ) (out : List ℕ) (tape : List TapeEntry)
    → MayBeWanted aim.wanted → (r : Rule) → rule_in aim s blocks ≡ Some r → IsPlannedBy r s blocks aim.wanted p → length input ≤ aim.limit → ReadsLeft aim.reduce input s blocks → IsCarriedIn p work st n out tape
    → ComesOut work aim input st n out tape
comes_by_rule laws work aim input s blocks p st n out tape may r is planned within reads done =
    let same : p ≡ plan_of s blocks aim.wanted (layers_of_rule r s blocks) p.jobs = plan_is r s blocks aim.wanted p planned in
    let own : IsCarriedIn (plan_of s blocks aim.wanted (layers_of_rule r s blocks) p.jobs) work st n out tape = subst (λ (q : Plan). IsCarriedIn q work st n out tape) same done in
    let can : CanBePlanned aim s blocks = record { by = r; is = is; layers = (own.plan.some, own.plan.few); free = laws.free s blocks aim.wanted r p done.plan planned } in
    comes laws aim input s blocks p.jobs reads own.plan.may within may can (laws.blocks s blocks aim.wanted r p done.plan planned) own.plan.may.blocks_are.all work st n out tape own

comes_if : Laws → (work : Work) (aim : Aim) (input : List ℕ) (s : Stream) (blocks : List Block) (p : Plan) (st : Status) (n : ℕ) (out : List ℕ) (tape : List TapeEntry)
    → MayBeWanted aim.wanted → (o : Option Rule) → rule_in aim s blocks ≡ o → IsPlanned o s blocks aim.wanted p → length input ≤ aim.limit → ReadsLeft aim.reduce input s blocks → IsCarriedIn p work st n out tape
    → ComesOut work aim input st n out tape
comes_if laws work aim input s blocks p st n out tape may None is planned within reads done = absurd planned
comes_if laws work aim input s blocks p st n out tape may (Some r) is planned within reads done = comes_by_rule laws work aim input s blocks p st n out tape may r is planned within reads done

pub comes_by_plan : Laws → (work : Work) (aim : Aim) (input : List ℕ) (s : Stream) (blocks : List Block) (p : Plan) (st : Status) (n : ℕ) (out : List ℕ) (tape : List TapeEntry)
    → MayBeWanted aim.wanted → IsPlanned (rule_in aim s blocks) s blocks aim.wanted p → length input ≤ aim.limit → ReadsLeft aim.reduce input s blocks → IsCarriedIn p work st n out tape
    → ComesOut work aim input st n out tape
comes_by_plan laws work aim input s blocks p st n out tape may planned within reads done =
    comes_if laws work aim input s blocks p st n out tape may (rule_in aim s blocks) refl planned within reads done

answered_by_rule : Laws → (name : Text) (work : Work) (aim : Aim) (input : List ℕ) (s : Stream) (blocks : List Block) (p : Plan) (wrote : Result ℕ Halt) (st : Status) (n bytes : ℕ) (tape : List TapeEntry) (old new : Meaning)
    → MayBeWanted aim.wanted → (r : Rule) → rule_in aim s blocks ≡ Some r → IsPlannedBy r s blocks aim.wanted p → IsCarriedOut p name work wrote n tape old new → IsEndOf wrote st bytes → length input ≤ aim.limit
    → ReadsLeft aim.reduce input s blocks → IsAnswered name work aim input st n bytes tape old new
answered_by_rule laws name work aim input s blocks p wrote st n bytes tape old new may r is planned done ends within reads =
    let same : p ≡ plan_of s blocks aim.wanted (layers_of_rule r s blocks) p.jobs = plan_is r s blocks aim.wanted p planned in
    let own : IsCarriedOut (plan_of s blocks aim.wanted (layers_of_rule r s blocks) p.jobs) name work wrote n tape old new = subst (λ (q : Plan). IsCarriedOut q name work wrote n tape old new) same done in
    let can : CanBePlanned aim s blocks = record { by = r; is = is; layers = (own.plan.some, own.plan.few); free = laws.free s blocks aim.wanted r p done.plan planned } in
    answered laws aim input s blocks p.jobs reads own.plan.may within may can (laws.blocks s blocks aim.wanted r p done.plan planned) own.plan.may.blocks_are.all name work wrote st n bytes tape old new own ends

answered_by : Laws → (name : Text) (work : Work) (aim : Aim) (input : List ℕ) (s : Stream) (blocks : List Block) (p : Plan) (wrote : Result ℕ Halt) (st : Status) (n bytes : ℕ) (tape : List TapeEntry) (old new : Meaning)
    → MayBeWanted aim.wanted → (o : Option Rule) → rule_in aim s blocks ≡ o → IsPlanned o s blocks aim.wanted p → IsCarriedOut p name work wrote n tape old new → IsEndOf wrote st bytes → length input ≤ aim.limit
    → ReadsLeft aim.reduce input s blocks → IsAnswered name work aim input st n bytes tape old new
answered_by laws name work aim input s blocks p wrote st n bytes tape old new may None is planned done ends within reads = absurd planned
answered_by laws name work aim input s blocks p wrote st n bytes tape old new may (Some r) is planned done ends within reads =
    answered_by_rule laws name work aim input s blocks p wrote st n bytes tape old new may r is planned done ends within reads

pub answered_by_plan : Laws → (name : Text) (work : Work) (aim : Aim) (input : List ℕ) (s : Stream) (blocks : List Block) (p : Plan) (wrote : Result ℕ Halt) (st : Status) (n bytes : ℕ) (tape : List TapeEntry) (old new : Meaning)
    → MayBeWanted aim.wanted → IsPlanned (rule_in aim s blocks) s blocks aim.wanted p → IsCarriedOut p name work wrote n tape old new → IsEndOf wrote st bytes → length input ≤ aim.limit → ReadsLeft aim.reduce input s blocks
    → IsAnswered name work aim input st n bytes tape old new
answered_by_plan laws name work aim input s blocks p wrote st n bytes tape old new may planned done ends within reads =
    answered_by laws name work aim input s blocks p wrote st n bytes tape old new may (rule_in aim s blocks) refl planned done ends within reads
