-- Where rounds begin, and where the tape ends.
use Rattle.std.proofs.Common.{◌≡◌, ◌∙◌, ◌⊎◌, ◌<◌, ◌≤◌, ◌+◌, ℕ, zero, suc, List, length, refl, ap, sym, arith, inl, inr}
use Rattle.std.proofs.lemmas.Bool.{cases_Bool, cases_lt}
use Rattle.jx_codestream.specs.declared.Stream.{Stream}
use Rattle.jx_codestream.specs.First.{tile_number}
use Rattle.jx_plan.specs.Plan.{Plan}
use Rattle.jx_rounds.specs.Rounds.{EndWithRound}
use Rattle.jx_rounds.specs.Tiles.{Round, blocks_in_tile, first_in_tile, is_full, next_round, round_of, round_start, tile_size, with_tile}
use Rattle.jx_rounds.proofs.FrontLemmas.{blocks_are}
use Rattle.jx_tile.specs.Totals.{block_total}
use Rattle.jx_transcode.specs.Rewritten.{ReadsLeft}
use Rattle.jx_transcode.specs.RunTapes.{IsTapedAfter, IsTapedInPart, IsTapedInRounds, IsTapedToRound}
use Rattle.jx_transcode.specs.declared.status.Status.{Status}
use Rattle.jx_transcode.specs.declared.status.Status.TheVariants as status

-- ---- rounds begin no later than their tiles, and later for later tiles
next_start : (counts sizes : ℕ → ℕ) (t : ℕ) (r : Round) → ((next_round counts sizes t r).start ≡ t + 1) ⊎ ((next_round counts sizes t r).start ≡ r.start)
next_start counts sizes t r = elim (cases_Bool (is_full (with_tile (counts t) (sizes t) r))) [
  | inl full ↦ inl (rw full refl)
  | inr more ↦ inr (rw more refl)
]

pub start_below : (counts sizes : ℕ → ℕ) (t : ℕ) → (round_of counts sizes t).start ≤ t
start_below counts sizes zero = omega arith
start_below counts sizes (suc t) = elim (next_start counts sizes t (round_of counts sizes t)) [
  | inl next ↦ omega (arith, next)
  | inr same ↦ omega (arith, same, start_below counts sizes t)
]

pub start_grows : (counts sizes : ℕ → ℕ) (a t : ℕ) → a ≤ t → (round_of counts sizes a).start ≤ (round_of counts sizes t).start
start_grows counts sizes a zero le = let e : a ≡ 0 = omega arith in rw e (omega arith)
start_grows counts sizes a (suc t) le = elim (cases_lt a (suc t)) [
  | inl lt ↦ elim (next_start counts sizes t (round_of counts sizes t)) [
    | inl next ↦ omega (arith, next, start_below counts sizes a)
    | inr same ↦ omega (arith, same, start_grows counts sizes a t (omega arith))
  ]
  | inr ge ↦ let e : a ≡ suc t = omega arith in rw e (omega arith)
]

-- the first tile of a round is that of its own round
start_begins : (counts sizes : ℕ → ℕ) (t : ℕ) → (round_of counts sizes ((round_of counts sizes t).start)).start ≡ (round_of counts sizes t).start
start_begins counts sizes zero = refl
start_begins counts sizes (suc t) =
    let start : ℕ → ℕ = λ n. (round_of counts sizes n).start in
    elim (next_start counts sizes t (round_of counts sizes t)) [
      | inl next ↦ let here : start (suc t) ≡ suc t = omega (arith, next) in ap start here
      | inr same ↦ let here : start (suc t) ≡ start t = same in ap start here ∙ start_begins counts sizes t ∙ sym here
    ]

-- ---- the blocks before the round of a tile end with a round
to_round : (s : Stream) (t entries : ℕ) → t < tile_number s.siz → entries ≡ first_in_tile s (round_start s t) → IsTapedToRound s entries
to_round s t entries inside is = record {
  tile = round_start s t;
  inside = omega (arith, inside, start_below (blocks_in_tile s) (tile_size s) t);
  begins = start_begins (blocks_in_tile s) (tile_size s) t;
  count_is = is;
}

-- so do those of whole rounds of a plan
pub in_rounds : (d : ℕ) (input : List ℕ) (p : Plan) (entries : ℕ) → ReadsLeft d input p.stream p.blocks → length p.blocks ≡ block_total p.stream → EndWithRound p entries → IsTapedInRounds d input entries
in_rounds d input p entries reads all is = record {
  stream = p.stream;
  blocks = p.blocks;
  reads = reads;
  ends = elim (cases_lt is.tile (tile_number p.stream.siz)) [
    | inl lt ↦ elim is.ends [
      | inl begins ↦ inr (record { tile = is.tile; inside = lt; begins = ap (λ (r : Round). r.start) begins; count_is = is.place.block_is })
      | inr past ↦ absurd (omega (arith, past, lt))
    ]
    | inr ge ↦
        let last : is.tile ≡ tile_number p.stream.siz = omega (arith, is.place.inside, ge) in
        inl (is.place.block_is ∙ ap (first_in_tile p.stream) last ∙ sym (blocks_are p.stream) ∙ sym all)
  ];
}

-- ---- where the line isn't said
pub taped_late : (d : ℕ) (input : List ℕ) (s : Status) (entries : ℕ) → IsTapedAfter d input s entries → IsTapedInPart d input entries
taped_late d input status.Done entries is = inr (record { stream = is.stream; blocks = is.blocks; reads = is.reads; ends = inl is.count_is })
taped_late d input status.Words entries is = inl is
taped_late d input (status.Unlike how) entries is = inl is
taped_late d input (status.Rule number place) entries is = inl is
taped_late d input (status.Limit number found) entries is = inl is
taped_late d input (status.Choice number place) entries (inl seven) =
    inr (record { stream = seven.1.stream; blocks = seven.1.blocks; reads = seven.1.reads; ends = inr (to_round seven.1.stream place entries seven.1.inside seven.1.count_is) })
taped_late d input (status.Choice number place) entries (inr few) = inl few.1
taped_late d input (status.Block number) entries is =
    inr (record { stream = is.stream; blocks = is.blocks; reads = is.reads; ends = inr (to_round is.stream is.tile entries is.inside is.count_is) })
taped_late d input status.ReadFault entries is = inl is
taped_late d input status.WriteFault entries is = is
taped_late d input status.NoMemory entries is = is
