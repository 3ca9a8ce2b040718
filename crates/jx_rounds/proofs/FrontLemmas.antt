-- Fronts of a file, tile by tile, and the rounds in which they are written.
use Rattle.std.proofs.Common.{◌≡◌, ◌∙◌, ◌<◌, ◌≤◌, ◌+◌, ◌^◌, nat_le, nat_lt, true, false, ℕ, suc, List, [], ◌∷◌, ◌++◌, length, map, refl, ap, sym, subst, arith, inl, inr, append_assoc, append-nil, add-one, Option, None, Some}
use Rattle.std.specs.List.{concat}
use Rattle.std.proofs.lemmas.Bool.{cases_Bool, cases_eq}
use Rattle.std.proofs.lemmas.Bool.Decides.{nat_tests}
use Rattle.std.proofs.lemmas.List.Elements.{All-cons, All-head, All-tail}
use Rattle.jx_base.specs.Joined.{joined}
use Rattle.jx_base.proofs.Joined.{joined_next, joined_none, joined_same}
use Rattle.jx_base.proofs.Sums.{sum_below_more, sum_below_next}
use Rattle.jx_base.specs.declared.pieces.Block.{Block}
use Rattle.std.specs.Option.{option_or}
use Rattle.jx_geom.specs.Numbering.{blocks_below}
use Rattle.jx_tile.specs.Faults.{passed}
use Rattle.jx_tile.specs.Totals.{block_total, packet_total, totals_fault}
use Rattle.jx_codestream.specs.declared.faults.StreamFault.{StreamFault}
use Rattle.jx_codestream.specs.declared.Stream.{Stream}
use Rattle.jx_codestream.specs.First.{canvas_of, tile_number}
use Rattle.jx_codestream.specs.Shapes.{shapes_of}
use Rattle.jx_codestream.specs.Spells.{TilePart, part_bytes}
use Rattle.jx_plan.specs.Headers.{stream_written}
use Rattle.jx_plan.specs.Plan.{IsPlan, MayBePlanned, Plan, headers_of, headers_with}
use Rattle.jx_options.specs.Wanted.{Wanted}
use Rattle.jx_tier2_writer.specs.Ready.{AreShort}
use Rattle.jx_tier2_writer.specs.Tile.{AreAtMost, IsTile, blocks_in, first_block}
use Rattle.jx_tier2_writer.specs.TileParts.{AreTilePartsOf}
use Rattle.jx_rounds.specs.Sent.{PartSent, sent_from, sent_of}
use Rattle.jx_rounds.specs.Rounds.{BeginsRound, IsInRound, IsRightTile, IsShortFront, IsSpoiledFrom, IsUnmade, IsUnmadeTile, LeadOn, blocks_of, most_of_part, with_parts}
use Rattle.jx_rounds.specs.MadeRounds.{IsRoundAt}
use Rattle.jx_rounds.specs.Tiles.{Round, begin_round, tile_size}
use Rattle.jx_rounds.specs.declared.halt.Halt.{Halt}
use Rattle.jx_rounds.specs.declared.halt.Halt.TheVariants as halt
use Rattle.jx_base.specs.Limits.{most_blocks}

-- ---- lengths of tile-parts
pub short_at_most : (parts : List TilePart) → AreAtMost most_of_part parts → AreShort parts
short_at_most [] each = tt
short_at_most (p ∷ ps) each =
    let here : p.sot.psot ≤ 4294967295 = All-head (λ (part : TilePart). part.sot.psot ≤ most_of_part) p ps each in
    (omega (arith, here), short_at_most ps (All-tail (λ (part : TilePart). part.sot.psot ≤ most_of_part) p ps each))

pub at_most_short : (parts : List TilePart) → AreShort parts → AreAtMost most_of_part parts
at_most_short [] short = λ k d lt. absurd (omega (arith, lt))
at_most_short (p ∷ ps) short =
    let here : p.sot.psot < 4294967296 = short.0 in
    All-cons (λ (part : TilePart). part.sot.psot ≤ most_of_part) p ps (omega (arith, here)) (at_most_short ps short.1)

-- ---- a front, with one tile more
own_parts : (parts : ℕ → List TilePart) (at : ℕ) (next : List TilePart) → with_parts parts at next at ≡ next
own_parts parts at next = grind (arith, nat_tests)

other_parts : (parts : ℕ → List TilePart) (at : ℕ) (next : List TilePart) (t : ℕ) → t < at → with_parts parts at next t ≡ parts t
other_parts parts at next t h = grind (arith, nat_tests)

-- the tile-parts of each tile, as they are written
abbrev pub sent_by : Plan → (ℕ → List TilePart) → ℕ → List PartSent
sent_by p parts t = sent_of t (map (part_bytes (length p.stream.siz.comps)) (parts t))

pub front_none : (p : Plan) → IsShortFront p 0 []
front_none p = record {
  parts = λ t. [];
  right = λ t h. absurd (omega (arith, h));
  are = λ t h. absurd (omega (arith, h));
  short = λ t h. absurd (omega (arith, h));
  sent_are = sym (joined_none (sent_by p (λ t. [])) 0 0 (omega arith));
}

front_with : (p : Plan) (t : ℕ) (sent : List PartSent) (own : List TilePart) → IsShortFront p t sent → IsRightTile p t → AreTilePartsOf p.wanted.marks (headers_of p) (blocks_of p) t own → AreShort own
    → IsShortFront p (t + 1) (sent ++ sent_of t (map (part_bytes (length p.stream.siz.comps)) own))
front_with p t sent own done right are short =
    let parts : ℕ → List TilePart = with_parts done.parts t own in
    let f : List TilePart → List PartSent = λ ps. sent_of t (map (part_bytes (length p.stream.siz.comps)) ps) in
    let front : joined (sent_by p parts) 0 t ≡ joined (sent_by p done.parts) 0 t =
    joined_same (sent_by p parts) (sent_by p done.parts) t (λ i h. ap (λ (ps : List TilePart). sent_of i (map (part_bytes (length p.stream.siz.comps)) ps)) (other_parts done.parts t own i h)) in
    let last : parts t ≡ own = own_parts done.parts t own in
    record {
      parts = parts;
      right = λ i h. elim (cases_eq i t) [
        | inl e ↦ subst (IsRightTile p) (sym e) right
        | inr e ↦ done.right i (omega (arith, h, e))
      ];
      are = λ i h. elim (cases_eq i t) [
        | inl e ↦ subst (λ (n : ℕ). AreTilePartsOf p.wanted.marks (headers_of p) (blocks_of p) n (parts n)) (sym e) (subst (AreTilePartsOf p.wanted.marks (headers_of p) (blocks_of p) t) (sym last) are)
        | inr e ↦ subst (AreTilePartsOf p.wanted.marks (headers_of p) (blocks_of p) i) (sym (other_parts done.parts t own i (omega (arith, h, e)))) (done.are i (omega (arith, h, e)))
      ];
      short = λ i h. elim (cases_eq i t) [
        | inl e ↦ subst (λ (n : ℕ). AreShort (parts n)) (sym e) (subst AreShort (sym last) short)
        | inr e ↦ subst AreShort (sym (other_parts done.parts t own i (omega (arith, h, e)))) (done.short i (omega (arith, h, e)))
      ];
      sent_are = ap (λ (b : List PartSent). b ++ f own) (done.sent_are ∙ sym front) ∙ ap (λ (ps : List TilePart). joined (sent_by p parts) 0 t ++ f ps) (sym last)
          ∙ sym (joined_next (sent_by p parts) 0 t (omega arith));
    }

pub tile_leads : (p : Plan) (t : ℕ) (strings : List (List ℕ)) → IsRightTile p t → IsTile p (blocks_of p) t most_of_part strings → LeadOn p t (t + 1) (sent_of t strings)
tile_leads p t strings right tile sent front =
    subst (λ (more : List (List ℕ)). IsShortFront p (t + 1) (sent ++ sent_of t more)) (sym tile.bytes_are) (front_with p t sent tile.parts front right tile.are (short_at_most tile.parts tile.short))

pub lead_none : (p : Plan) (t : ℕ) → LeadOn p t t []
lead_none p t sent front = subst (IsShortFront p t) (sym (append-nil sent)) front

pub lead_next : (p : Plan) (from t next : ℕ) (more later : List PartSent) → LeadOn p from t more → LeadOn p t next later → LeadOn p from next (more ++ later)
lead_next p from t next more later first second sent front = subst (IsShortFront p next) (append_assoc sent more later) (second (sent ++ more) (first sent front))

-- one tile more
sent_more : (t : ℕ) (tiles : List (List (List (List ℕ)))) (tile : List (List (List ℕ))) → sent_from t (tiles ++ tile ∷ []) ≡ sent_from t tiles ++ sent_of (t + length tiles) (map concat tile)
sent_more t [] tile = let here : t ≡ t + 0 = omega arith in append-nil (sent_of t (map concat tile)) ∙ ap (λ (n : ℕ). sent_of n (map concat tile)) here
sent_more t (first ∷ tiles) tile =
    let own : List PartSent = sent_of t (map concat first) in
    let here : (t + 1) + length tiles ≡ t + length (first ∷ tiles) = omega arith in
    ap (λ (s : List PartSent). own ++ s) (sent_more (t + 1) tiles tile) ∙ ap (λ (n : ℕ). own ++ (sent_from (t + 1) tiles ++ sent_of n (map concat tile))) here
    ∙ sym (append_assoc own (sent_from (t + 1) tiles) (sent_of (t + length (first ∷ tiles)) (map concat tile)))

pub lead_tile : (p : Plan) (from t next : ℕ) (tiles : List (List (List (List ℕ)))) (tile : List (List (List ℕ))) (all : List (List (List (List ℕ)))) → all ≡ tiles ++ tile ∷ [] → from + length tiles ≡ t
    → LeadOn p from t (sent_from from tiles) → LeadOn p t next (sent_of t (map concat tile)) → LeadOn p from next (sent_from from all)
lead_tile p from t next tiles tile all is count first later =
    let both : sent_from from all ≡ sent_from from tiles ++ sent_of t (map concat tile) =
    ap (sent_from from) is ∙ sent_more from tiles tile ∙ ap (λ (n : ℕ). sent_from from tiles ++ sent_of n (map concat tile)) count in
    subst (LeadOn p from next) (sym both) (lead_next p from t next (sent_from from tiles) (sent_of t (map concat tile)) first later)

-- ---- rounds
pub round_none : (p : Plan) → BeginsRound p 0
round_none p = refl

pub round_more : (p : Plan) (at start count room rest : ℕ) → IsRoundAt p at start count room → count + blocks_in p at < 4096 → rest + tile_size p.stream at ≡ room
    → IsRoundAt p (at + 1) start (count + blocks_in p at) rest
round_more p at start count room rest here few fits = record {
  bytes = here.bytes + tile_size p.stream at;
  is =
      let small : nat_le 4096 (count + blocks_in p at) ≡ false = grind (arith, nat_tests) in
      let light : nat_lt 8388608 (here.bytes + tile_size p.stream at) ≡ false = grind (arith, nat_tests) in
      rw (add-one, here.is, small, light) refl;
  room_is = omega (arith, here.room_is, fits);
}

-- it ends behind a tile at which it has enough blocks
pub round_full : (p : Plan) (at start count room : ℕ) → IsRoundAt p at start count room → 4096 ≤ count + blocks_in p at → BeginsRound p (at + 1)
round_full p at start count room here many =
    let full : nat_le 4096 (count + blocks_in p at) ≡ true = grind (arith, nat_tests) in
    let next : at + 1 ≡ suc at = omega arith in
    rw (add-one, here.is, full) (ap begin_round next)

-- or more bytes than there was room for
pub round_heavy : (p : Plan) (at start count room : ℕ) → IsRoundAt p at start count room → room < tile_size p.stream at → BeginsRound p (at + 1)
round_heavy p at start count room here heavy =
    let full : nat_lt 8388608 (here.bytes + tile_size p.stream at) ≡ true = grind (arith, nat_tests) in
    let next : at + 1 ≡ suc at = omega arith in
    elim (cases_Bool (nat_le 4096 (count + blocks_in p at))) [
      | inl many ↦ rw (add-one, here.is, many) (ap begin_round next)
      | inr few ↦ rw (add-one, here.is, few, full) (ap begin_round next)
    ]

pub round_begun : (p : Plan) (at : ℕ) → BeginsRound p at → IsRoundAt p at at 0 8388608
round_begun p at begins = record { bytes = 0; is = begins; room_is = refl }

pub in_round : (p : Plan) (at start count room : ℕ) → IsRoundAt p at start count room → IsInRound p at start
in_round p at start count room here = ap (λ (r : Round). r.start) here.is

-- ---- numbers of blocks
pub block_next : (p : Plan) (t block : ℕ) → block ≡ first_block p t → block + blocks_in p t ≡ first_block p (t + 1)
block_next p t block is = omega (arith, is, sum_below_next (blocks_in p) t)

-- all blocks are those of the tiles
pub blocks_are : (s : Stream) → block_total s ≡ blocks_below (canvas_of s.siz) (shapes_of s) (tile_number s.siz)
unfolding block_total
blocks_are s = refl

not_passed : (number found most : ℕ) → passed number found (nat_lt most found) ≡ None → found ≤ most
not_passed number found most h = grind (arith, nat_tests)

first_none : (first later : Option StreamFault) → option_or first later ≡ None → first ≡ None
first_none None later h = refl
first_none (Some f) later h = absurd (cc)

totals_few : (s : Stream) → totals_fault s ≡ None → block_total s ≤ most_blocks
unfolding totals_fault
totals_few s h =
    not_passed 5 (block_total s) most_blocks (first_none (passed 5 (block_total s) (nat_lt most_blocks (block_total s))) (passed 6 (packet_total s) (nat_lt (2 ^ 22) (packet_total s))) h)

pub block_few : (p : Plan) (t : ℕ) → IsPlan p → t < tile_number p.stream.siz → first_block p t + blocks_in p t ≤ most_blocks
block_few p t plan inside =
    let few : block_total p.stream ≤ most_blocks = totals_few p.stream plan.may.totals in
    omega (arith, sum_below_more (blocks_in p) t (tile_number p.stream.siz) inside, blocks_are p.stream, few)

pub blocks_few : (p : Plan) (t : ℕ) → IsPlan p → t < tile_number p.stream.siz → first_block p t + blocks_in p t ≤ length p.jobs
blocks_few p t plan inside =
    omega (arith, sum_below_more (blocks_in p) t (tile_number p.stream.siz) inside, blocks_are p.stream, plan.all, plan.may.blocks_are.all)

-- ---- a round that isn't made
pub unmade_of : (p : Plan) (start at : ℕ) (more : List PartSent) (h : Halt) → at < tile_number p.stream.siz → IsInRound p at start → LeadOn p start at more
    → IsUnmadeTile p at h → IsUnmade p start h
unmade_of p start at more (halt.Bad tile number) inside round lead spoiled = subst (λ (n : ℕ). IsSpoiledFrom p start (halt.Bad n number) n) (sym spoiled.0) (record {
  inside = inside;
  spoiled = (refl, spoiled.1);
  round = round;
  below = λ sent front. (sent ++ more, lead sent front);
})
unmade_of p start at more (halt.TooLong tile) inside round lead spoiled = subst (λ (n : ℕ). IsSpoiledFrom p start (halt.TooLong n) n) (sym spoiled.0) (record {
  inside = inside;
  spoiled = (refl, spoiled.1, spoiled.2);
  round = round;
  below = λ sent front. (sent ++ more, lead sent front);
})
unmade_of p start at more halt.Failed inside round lead never = absurd never
unmade_of p start at more halt.NoMemory inside round lead free = tt

-- ---- the headers that are written have the tiles and components of their stream
pub tiles_stay : (w : Wanted) (layers : ℕ) (s : Stream) → tile_number (headers_with w layers s).siz ≡ tile_number s.siz
unfolding stream_written
tiles_stay w layers s = refl

pub comps_stay : (w : Wanted) (layers : ℕ) (s : Stream) → length (headers_with w layers s).siz.comps ≡ length s.siz.comps
unfolding stream_written
comps_stay w layers s = refl

pub jobs_few : (p : Plan) → IsPlan p → length p.jobs ≤ most_blocks
jobs_few p plan =
    let few : block_total p.stream ≤ most_blocks = totals_few p.stream plan.may.totals in
    omega (arith, few, plan.all, plan.may.blocks_are.all)

pub planned_few : (s : Stream) (blocks : List Block) → MayBePlanned s blocks → length blocks ≤ most_blocks
planned_few s blocks may =
    let few : block_total s ≤ most_blocks = totals_few s may.totals in
    omega (arith, few, may.blocks_are.all)
