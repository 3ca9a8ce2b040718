-- The tiles of a round, one after another.
use Rattle.std.proofs.Common.{◌≡◌, ◌∙◌, ◌<◌, ◌≤◌, ◌+◌, ◌-◌, ℕ, zero, suc, List, [], ◌∷◌, ◌++◌, length, map, min, take, drop, refl, ap, sym, subst, arith, inl, inr, Some, length-append, length-drop, slice_index_or}
use Rattle.std.specs.List.{slice_get}
use Rattle.std.proofs.lemmas.Bool.{cases_eq, cases_lt}
use Rattle.std.proofs.lemmas.List.{drop-drop, drop-map, drop-take, length-take-le, take-append-drop, take-map, take-take, take_all}
use Rattle.std.proofs.lemmas.List.Elements.{All-append, All-nil}
use Rattle.std.proofs.Math.Seq.{take-add}
use Rattle.std.proofs.lemmas.Option.{none-some, same_Some, slice_get-get_or}
use Rattle.jx_base.proofs.Lists.{get_left, get_right}
use Rattle.jx_base.proofs.Sums.{sum_below_grows}
use Rattle.jx_codeblock.specs.declared.job.Job.{Job}
use Rattle.jx_codeblock.specs.Recoded.{WrittenBlock}
use Rattle.jx_store.specs.declared.event.Taped.{Taped}
use Rattle.jx_store.specs.declared.work.Named.{Named}
use Rattle.jx_workers.specs.Tapes.{answer_of}
use Rattle.jx_codestream.specs.First.{tile_number}
use Rattle.jx_plan.specs.Plan.{IsPlan, Plan}
use Rattle.jx_tier2_writer.specs.Tile.{AreMade, IsMade, blocks_in, first_block}
use Rattle.jx_rounds.specs.MadeRounds.{AreCounts, AreOfBlocks, AreOfRound, AreUpTo, IsExtent}
use Rattle.jx_rounds.specs.Rounds.{BeginsRound, IsInRound, IsPlace}
use Rattle.jx_rounds.proofs.FrontLemmas.{block_next, blocks_are, jobs_few}
use Rattle.jx_base.specs.Limits.{most_blocks}

-- ---- no tile yet, and one tile more
pub of_none : (p : Plan) (tile : ℕ) → tile < tile_number p.stream.siz → AreOfRound p tile [] 0
of_none p tile inside = record {
  counts_are = record { inside = omega (arith, inside); each = λ i count is. absurd (none-some count is) };
  blocks_are =
      let same : first_block p tile + 0 ≡ first_block p tile = omega arith in
      let place : tile ≡ tile + 0 = omega arith in
      same ∙ ap (first_block p) place;
  round = λ t from below. absurd (omega (arith, from, below));
}

only_one : (x count i : ℕ) → slice_get (x ∷ []) i ≡ Some count → (i ≡ 0) × (x ≡ count)
only_one x count zero is = (refl, same_Some x count is)
only_one x count (suc i) is = absurd (none-some count is)

counts_next : (p : Plan) (tile count : ℕ) (counts : List ℕ) → AreCounts p tile counts → tile + length counts < tile_number p.stream.siz → count ≡ blocks_in p (tile + length counts) → AreCounts p tile (counts ++ count ∷ [])
counts_next p tile count counts are inside is = record {
  inside = omega (arith, length-append counts (count ∷ []), inside);
  each = λ i x at. elim (cases_lt i (length counts)) [
    | inl before ↦ are.each i x (sym (get_left counts (count ∷ []) i before) ∙ at)
    | inr ge ↦
        let last = only_one count x (i - length counts) (sym (get_right counts (count ∷ []) i (i - length counts) (omega (arith, ge))) ∙ at) in
        let here : length counts ≡ i = omega (arith, last.0, ge) in
        sym last.1 ∙ is ∙ ap (λ (n : ℕ). blocks_in p (tile + n)) here
  ];
}

pub of_next : (p : Plan) (tile at blocks count : ℕ) (counts more : List ℕ) → AreOfRound p tile counts blocks → at ≡ tile + length counts → at < tile_number p.stream.siz → IsInRound p at tile
    → count ≡ blocks_in p at → more ≡ counts ++ count ∷ [] → AreOfRound p tile more (blocks + count)
of_next p tile at blocks count counts more of place inside round is push =
    let long : length more ≡ length counts + 1 = ap length push ∙ length-append counts (count ∷ []) in
    let next : first_block p at + blocks_in p at ≡ first_block p (at + 1) = block_next p at (first_block p at) refl in
    let so_far : first_block p tile + blocks ≡ first_block p at = of.blocks_are ∙ ap (first_block p) (sym place) in
    record {
      counts_are = subst (AreCounts p tile) (sym push) (counts_next p tile count counts of.counts_are (omega (arith, place, inside)) (is ∙ ap (blocks_in p) place));
      blocks_are =
          let sum : first_block p tile + (blocks + count) ≡ first_block p (at + 1) = omega (arith, so_far, is, next) in
          let last : at + 1 ≡ tile + length more = omega (arith, place, long) in
          sum ∙ ap (first_block p) last;
      round = λ t from below. elim (cases_eq t at) [
        | inl same ↦ subst (λ (n : ℕ). IsInRound p n tile) (sym same) round
        | inr other ↦ of.round t from (omega (arith, below, long, place, other))
      ];
    }

-- ---- another round begins behind the last tile, or it is the last of all
pub extent_full : (p : Plan) (tile at blocks count : ℕ) (counts more : List ℕ) → AreOfRound p tile counts blocks → at ≡ tile + length counts → at < tile_number p.stream.siz → IsInRound p at tile
    → count ≡ blocks_in p at → more ≡ counts ++ count ∷ [] → BeginsRound p (at + 1) → IsExtent p tile more (blocks + count)
extent_full p tile at blocks count counts more of place inside round is push begins =
    let long : length more ≡ length counts + 1 = ap length push ∙ length-append counts (count ∷ []) in
    record {
      of = of_next p tile at blocks count counts more of place inside round is push;
      some = omega (arith, long);
      ends =
          let last : at + 1 ≡ tile + length more = omega (arith, place, long) in
          inl (subst (BeginsRound p) last begins);
    }

pub extent_last : (p : Plan) (tile blocks tiles : ℕ) (counts : List ℕ) → AreOfRound p tile counts blocks → tiles ≡ tile_number p.stream.siz → tile < tile_number p.stream.siz → tiles ≡ tile + length counts → IsExtent p tile counts blocks
extent_last p tile blocks tiles counts of all inside past = record {
  of = of;
  some = omega (arith, all, inside, past);
  ends = inr (omega (arith, all, past));
}

-- ---- what an extent says
pub extent_place : (p : Plan) (tile block blocks : ℕ) (counts : List ℕ) → IsExtent p tile counts blocks → block ≡ first_block p tile → IsPlace p (tile + length counts) (block + blocks)
extent_place p tile block blocks counts extent is = record { inside = extent.of.counts_are.inside; block_is = omega (arith, is, extent.of.blocks_are) }

pub extent_few : (p : Plan) (tile block blocks : ℕ) (counts : List ℕ) → IsPlan p → IsExtent p tile counts blocks → block ≡ first_block p tile → block + blocks ≤ length p.jobs
extent_few p tile block blocks counts plan extent is =
    let grows : first_block p (tile + length counts) ≤ first_block p (tile_number p.stream.siz) = sum_below_grows (blocks_in p) (tile + length counts) (tile_number p.stream.siz) extent.of.counts_are.inside in
    omega (arith, is, extent.of.blocks_are, grows, blocks_are p.stream, plan.all, plan.may.blocks_are.all)

pub extent_small : (p : Plan) (tile block blocks : ℕ) (counts : List ℕ) → IsPlan p → IsExtent p tile counts blocks → block ≡ first_block p tile → block + blocks ≤ most_blocks
extent_small p tile block blocks counts plan extent is = omega (arith, extent_few p tile block blocks counts plan extent is, jobs_few p plan)

-- ---- the blocks of a tile among those of a round
part_same : {X : Type 0} (xs : List X) (first all from count : ℕ) → from + count ≤ all → take count (drop from (take all (drop first xs))) ≡ take count (drop (first + from) xs)
part_same xs first all from count within =
    let rest : ℕ = all - from in
    let whole : all ≡ from + rest = omega (arith, within) in
    ap (λ (n : ℕ). take count (drop from (take n (drop first xs)))) whole ∙ ap (take count) (drop-take from rest (drop first xs)) ∙ take-take count rest (drop from (drop first xs)) (omega (arith, within))
    ∙ ap (take count) (drop-drop from first xs)

pub part_of : (p : Plan) (first all from count at : ℕ) (entries part : List (Taped (Named WrittenBlock))) → AreOfBlocks p first all entries → from + count ≤ all → first + from ≡ at
    → part ≡ take count (drop from entries) → AreOfBlocks p at count part
part_of p first all from count at entries part are within place is =
    let named : Taped (Named WrittenBlock) → Named WrittenBlock = λ t. t.named in
    let jobs : List Job = take all (drop first p.jobs) in
    record {
      count_is = ap length is ∙ length-take-le count (drop from entries) (omega (arith, length-drop from entries, are.count_is, within));
      answers = ap (map named) is ∙ sym (take-map named count (drop from entries)) ∙ ap (take count) (sym (drop-map named from entries)) ∙ ap (λ (xs : List (Named WrittenBlock)). take count (drop from xs)) are.answers
          ∙ ap (take count) (drop-map answer_of from jobs) ∙ take-map answer_of count (drop from jobs)
          ∙ ap (map answer_of) (part_same p.jobs first all from count within ∙ ap (λ (n : ℕ). take count (drop n p.jobs)) place);
    }

-- ---- a tile of a round, and its blocks among those of the round
pub record IsTileAt (p : Plan) (tile at blocks count from : ℕ) : Type 0 where
  pub inside : at < tile_number p.stream.siz
  pub count_is : count ≡ blocks_in p at
  pub within : from + count ≤ blocks
  pub round : IsInRound p at tile
  pub next : first_block p tile + (from + count) ≡ first_block p (at + 1)

pub tile_at : (p : Plan) (tile at blocks count from : ℕ) (counts : List ℕ) → AreOfRound p tile counts blocks → tile ≤ at → at < tile + length counts → count ≡ slice_index_or counts (at - tile) count
    → first_block p tile + from ≡ first_block p at → IsTileAt p tile at blocks count from
tile_at p tile at blocks count from counts of low high is so_far =
    let i : ℕ = at - tile in
    let place : tile + i ≡ at = omega (arith, low) in
    let there : slice_get counts i ≡ Some count = slice_get-get_or counts i count (omega (arith, low, high)) ∙ ap Some (sym is) in
    let counted : count ≡ blocks_in p at = of.counts_are.each i count there ∙ ap (blocks_in p) place in
    let next : first_block p at + blocks_in p at ≡ first_block p (at + 1) = block_next p at (first_block p at) refl in
    let grows : first_block p (at + 1) ≤ first_block p (tile + length counts) = sum_below_grows (blocks_in p) (at + 1) (tile + length counts) (omega (arith, high)) in
    record {
      inside = omega (arith, high, of.counts_are.inside);
      count_is = counted;
      within = omega (arith, so_far, counted, next, grows, of.blocks_are);
      round = of.round at low high;
      next = omega (arith, so_far, counted, next);
    }

-- the entries before it are made, and these are its own, or those that there are
pub entries_at : (p : Plan) (tile at blocks count from end : ℕ) (entries part : List (Taped (Named WrittenBlock))) → IsTileAt p tile at blocks count from → AreUpTo p (first_block p tile) blocks entries
    → first_block p tile + from ≡ first_block p at → from ≤ length entries → AreMade (take from entries) → end ≡ min (from + count) (length entries) → part ≡ take (end - from) (drop from entries)
    → AreUpTo p (first_block p at) (blocks_in p at) part
entries_at p tile at blocks count from end entries part own are so_far low made ends is =
    let within : from + (end - from) ≤ length entries = omega (arith, low, ends) in
    let long : length part ≡ end - from = ap length is ∙ length-take-le (end - from) (drop from entries) (omega (arith, length-drop from entries, within)) in
    let of : AreOfBlocks p (first_block p at) (end - from) part = part_of p (first_block p tile) (length entries) from (end - from) (first_block p at) entries part are.of within so_far is in
    record {
      of = subst (λ (n : ℕ). AreOfBlocks p (first_block p at) n part) (sym long) of;
      few = omega (arith, long, ends, own.count_is);
      short = λ less own_made.
          let last : end ≡ length entries = omega (arith, less, long, ends, own.count_is, low) in
          let rest : part ≡ drop from entries = is ∙ take_all (end - from) (drop from entries) (omega (arith, length-drop from entries, last)) in
          let all : AreMade entries = subst AreMade (take-append-drop from entries) (All-append (λ (t : Taped (Named WrittenBlock)). IsMade t.named) (take from entries) (drop from entries) made (subst AreMade rest own_made)) in
          are.short (omega (arith, less, long, last, own.count_is, own.within, low)) all;
    }

-- where its own are those of all its blocks, they end where the tile does
pub end_whole : (p : Plan) (tile at blocks count from end : ℕ) (entries part : List (Taped (Named WrittenBlock))) → IsTileAt p tile at blocks count from → from ≤ length entries → end ≡ min (from + count) (length entries)
    → part ≡ take (end - from) (drop from entries) → length part ≡ blocks_in p at → (from ≤ end) × (end ≡ from + count) × (from + count ≤ length entries)
end_whole p tile at blocks count from end entries part own low ends is whole =
    let within : from + (end - from) ≤ length entries = omega (arith, low, ends) in
    let long : length part ≡ end - from = ap length is ∙ length-take-le (end - from) (drop from entries) (omega (arith, length-drop from entries, within)) in
    (omega (arith, low, ends), omega (arith, low, ends, long, whole, own.count_is), omega (arith, low, ends, long, whole, own.count_is))

-- the entries of all tiles are those of all blocks
pub entries_whole : (p : Plan) (tile at next blocks from : ℕ) (counts : List ℕ) (entries : List (Taped (Named WrittenBlock))) → AreOfRound p tile counts blocks → AreUpTo p (first_block p tile) blocks entries
    → next ≡ tile + length counts → at ≡ next → first_block p tile + from ≡ first_block p at → from ≤ length entries → length entries ≡ blocks
entries_whole p tile at next blocks from counts entries of are ends last so_far low =
    let place : first_block p at ≡ first_block p (tile + length counts) = ap (first_block p) (last ∙ ends) in
    omega (arith, so_far, place, of.blocks_are, low, are.few)

-- no entry yet, and those of one tile more, are made
pub made_none : (entries : List (Taped (Named WrittenBlock))) → AreMade (take 0 entries)
made_none entries = All-nil (λ (t : Taped (Named WrittenBlock)). IsMade t.named)

pub made_next : (from end next : ℕ) (entries part : List (Taped (Named WrittenBlock))) → from ≤ end → end ≡ next → AreMade (take from entries) → AreMade part → part ≡ take (end - from) (drop from entries) → AreMade (take next entries)
made_next from end next entries part low same made own is =
    let rest : ℕ = end - from in
    let whole : from + rest ≡ next = omega (arith, low, same) in
    let joined : take from entries ++ take rest (drop from entries) ≡ take next entries = sym (take-add from rest entries) ∙ ap (λ (n : ℕ). take n entries) whole in
    subst AreMade joined (All-append (λ (t : Taped (Named WrittenBlock)). IsMade t.named) (take from entries) (take rest (drop from entries)) made (subst AreMade is own))
