-- The blocks of a tile as they are made: each as its job asks for it, or wrong.
use Rattle.std.proofs.Common.{◌≡◌, ◌≢◌, ◌∙◌, ◌<◌, ◌≤◌, ◌+◌, ◌-◌, ◌==◌, ℕ, zero, suc, true, false, List, [], ◌∷◌, length, map, take, drop, refl, ap, sym, subst, arith, inl, inr, Option, None, Some}
use Rattle.std.specs.List.{All, slice_get}
use Rattle.std.specs.Option.{option_map}
use Rattle.std.proofs.lemmas.Bool.{cases_Bool, cases_lt, cond-false, cond-true, eqb-true}
use Rattle.std.proofs.lemmas.List.{take_all}
use Rattle.std.proofs.lemmas.List.Elements.{All-cons, All-head, All-nil, All-tail}
use Rattle.std.proofs.lemmas.Option.{none-some, same_Some, slice_get-map, slice_get_cases, slice_get_within}
use Rattle.jx_base.specs.declared.pieces.Block.{Block}
use Rattle.jx_base.specs.declared.style.Style.{Style}
use Rattle.jx_base.specs.Pieces.{PieceValue}
use Rattle.jx_base.specs.Sound.{IsSound}
use Rattle.jx_codeblock.specs.declared.LayerEnd.{LayerEnd}
use Rattle.jx_codeblock.specs.declared.job.Job.{Job}
use Rattle.jx_codeblock.specs.Jobs.{IsAsked}
use Rattle.jx_codeblock.specs.Recoded.{WrittenBlock, recoding_in}
use Rattle.jx_codeblock.specs.Recoding.{Recoding, layer_ends, recoded_pieces, recoding}
use Rattle.jx_codeblock.specs.Written.{block_asked, block_with, is_wrong, style_for}
use Rattle.jx_store.specs.declared.event.Taped.{Taped}
use Rattle.jx_store.specs.declared.work.Named.{Named}
use Rattle.jx_store.specs.declared.work.Named.TheVariants.{Made, Bad, Short}
use Rattle.jx_workers.specs.Tapes.{answer_of, named_as}
use Rattle.jx_plan.specs.Plan.{IsJob, IsPlan, Plan}
use Rattle.jx_tier2_writer.specs.Tile.{AreMade, AreValuesOf, IsMade, StandIn, block_written, blocks_in, first_block, made_before, made_in}
use Rattle.jx_rounds.specs.MadeRounds.{AreOfBlocks, AreUpTo, IsFirstUnmade, IsUnmadeAs}
use Rattle.jx_rounds.specs.Tiles.{IsWrongBlock}
use Rattle.jx_rounds.specs.Rounds.{IsRightTile, IsWrongTile, blocks_of}
use Rattle.jx_base.proofs.Lists.{all_at}

-- ---- an item and all items
all_mapped : {X Y : Type 0} (P : Y → Type 0) (f : X → Y) (xs : List X) → ((i : ℕ) (x : X) → slice_get xs i ≡ Some x → P (f x)) → All P (map f xs)
all_mapped P f [] each = All-nil P
all_mapped P f (x ∷ xs) each = All-cons P (f x) (map f xs) (each 0 x refl) (all_mapped P f xs (λ i y is. each (suc i) y is))

mapped_at : {X Y : Type 0} (f : X → Y) (xs : List X) (i : ℕ) (x : X) → slice_get xs i ≡ Some x → slice_get (map f xs) i ≡ Some (f x)
mapped_at f xs i x is = slice_get-map f xs i ∙ ap (option_map f) is

pub get_take : {X : Type 0} (n : ℕ) (xs : List X) (i : ℕ) → i < n → slice_get (take n xs) i ≡ slice_get xs i
get_take zero xs i lt = absurd (omega (arith, lt))
get_take (suc n) [] i lt = refl
get_take (suc n) (x ∷ xs) zero lt = refl
get_take (suc n) (x ∷ xs) (suc i) lt = get_take n xs i (omega (arith, lt))

pub get_drop : {X : Type 0} (n : ℕ) (xs : List X) (i k : ℕ) → k ≡ n + i → slice_get (drop n xs) i ≡ slice_get xs k
get_drop zero xs i k is = let same : i ≡ k = omega (arith, is) in ap (slice_get xs) same
get_drop (suc n) [] i k is = refl
get_drop (suc n) (x ∷ xs) i zero is = absurd (omega (arith, is))
get_drop (suc n) (x ∷ xs) i (suc k) is = get_drop n xs i k (omega (arith, is))

-- ---- what a plan says of a job
pub record IsOwn (p : Plan) (number : ℕ) (j : Job) : Type 0 where
  pub number_is : j.number ≡ number
  pub stands : slice_get p.blocks number ≡ Some j.block.now
  pub style : j.style ≡ style_for p.wanted.style j.block.now
  pub asked : IsAsked j.block.now j.style j.ends
  pub below : All (λ (e : LayerEnd). e.layer < p.layers) j.ends

own_at : (p : Plan) (number : ℕ) (j : Job) → IsPlan p → slice_get p.jobs number ≡ Some j → IsOwn p number j
own_at p number j plan there =
    let job : IsJob p.wanted.style p.blocks number j = plan.each number j there in
    record { number_is = job.number_is; stands = job.block_is; style = job.style_is; asked = job.asked; below = plan.below number j there }

-- ---- pieces lie in the layers that end
pub in_layers : (n : ℕ) (ps : List PieceValue) → All (λ (e : LayerEnd). e.layer < n) (layer_ends ps) → All (λ (q : PieceValue). q.layer < n) ps
in_layers n [] each = All-nil (λ (q : PieceValue). q.layer < n)
in_layers n (p ∷ []) each =
    let here : p.layer < n = All-head (λ (e : LayerEnd). e.layer < n) (record { layer = p.layer; passes = p.first + p.passes }) [] each in
    All-cons (λ (q : PieceValue). q.layer < n) p [] here (All-nil (λ (q : PieceValue). q.layer < n))
in_layers n (p ∷ q ∷ ps) each =
    let P : LayerEnd → Type 0 = λ e. e.layer < n in
    let Q : PieceValue → Type 0 = λ x. x.layer < n in
    let e : LayerEnd = record { layer = p.layer; passes = p.first + p.passes } in
    let rest : List LayerEnd = layer_ends (q ∷ ps) in
    elim (cases_Bool (p.layer == q.layer)) [
      | inl t ↦
          let more : All P rest = subst (All P) (cond-true (p.layer == q.layer) rest (e ∷ rest) t) each in
          let later : All Q (q ∷ ps) = in_layers n (q ∷ ps) more in
          let next : q.layer < n = All-head Q q ps later in
          let same : p.layer ≡ q.layer = eqb-true p.layer q.layer t in
          All-cons Q p (q ∷ ps) (omega (arith, same, next)) later
      | inr f ↦
          let all : All P (e ∷ rest) = subst (All P) (cond-false (p.layer == q.layer) rest (e ∷ rest) f) each in
          All-cons Q p (q ∷ ps) (All-head P e rest all) (in_layers n (q ∷ ps) (All-tail P e rest all))
    ]

-- ---- what becomes of a block, and of one that is wrong
pub record BlockLaws : Type 0 where
  pub sound : (b : Block) (style : Option Style) (ends : List LayerEnd) (r : Recoding) → IsAsked b style ends → Some r ≡ recoding b style ends → IsSound (block_with b (Some r))
  pub layers : (b : Block) (style : Option Style) (ends : List LayerEnd) (r : Recoding) → IsAsked b style ends → Some r ≡ recoding b style ends → layer_ends (recoded_pieces r) ≡ ends
  pub wrong : (asked : Option Style) (b : Block) (ends : List LayerEnd) → is_wrong asked b ≡ true → recoding b (style_for asked b) ends ≡ None
  pub right : (asked : Option Style) (b : Block) (ends : List LayerEnd) → is_wrong asked b ≡ false → recoding b (style_for asked b) ends ≢ None

asked_is : (p : Plan) (number : ℕ) (j : Job) → IsOwn p number j → recoding_in j ≡ recoding j.block.now (style_for p.wanted.style j.block.now) j.ends
asked_is p number j own = ap (λ (s : Option Style). recoding j.block.now s j.ends) own.style

right_at : BlockLaws → (p : Plan) (number : ℕ) (j : Job) (r : Recoding) → IsOwn p number j → recoding_in j ≡ Some r → IsWrongBlock p.wanted (slice_get p.blocks number) → ⊥
right_at laws p number j r own is wrong =
    let here : is_wrong p.wanted.style j.block.now ≡ true = subst (IsWrongBlock p.wanted) own.stands wrong in
    none-some r (sym (laws.wrong p.wanted.style j.block.now j.ends here) ∙ sym (asked_is p number j own) ∙ is)

wrong_at : BlockLaws → (p : Plan) (number : ℕ) (j : Job) → IsOwn p number j → recoding_in j ≡ None → IsWrongBlock p.wanted (slice_get p.blocks number)
wrong_at laws p number j own none =
    let here : is_wrong p.wanted.style j.block.now ≡ true = elim (cases_Bool (is_wrong p.wanted.style j.block.now)) [
      | inl bad ↦ bad
      | inr fine ↦ absurd (laws.right p.wanted.style j.block.now j.ends fine (sym (asked_is p number j own) ∙ none))
    ] in
    subst (IsWrongBlock p.wanted) (sym own.stands) here

-- ---- the answer to a job
made_for : (j : Job) (o : Option Recoding) (r : WrittenBlock) → Made r ≡ named_as j o → (r.job ≡ j) × (o ≡ Some r.recoding)
made_for j None r e = absurd (cc)
made_for j (Some q) r e =
    let same : r ≡ record { job = j; recoding = q } = cc in
    (ap (λ (x : WrittenBlock). x.job) same, ap (λ (x : WrittenBlock). Some x.recoding) (sym same))

bad_for : (j : Job) (o : Option Recoding) (n : ℕ) → Bad n ≡ named_as j o → (n ≡ j.number) × (o ≡ None)
bad_for j None n e = let same : n ≡ j.number = cc in (same, refl)
bad_for j (Some q) n e = absurd (cc)

short_for : (j : Job) (o : Option Recoding) (n : ℕ) → Short n ≡ named_as j o → ⊥
short_for j None n e = cc
short_for j (Some q) n e = cc

unmade_for : (j : Job) (n : ℕ) (named : Named WrittenBlock) → named ≡ answer_of j → IsUnmadeAs named n → (n ≡ j.number) × (recoding_in j ≡ None)
unmade_for j n named of (inl bad) = bad_for j (recoding_in j) n (sym bad ∙ of)
unmade_for j n named of (inr short) = absurd (short_for j (recoding_in j) n (sym short ∙ of))

-- ---- an entry and its job
record IsAnswerAt (p : Plan) (number : ℕ) (t : Taped (Named WrittenBlock)) : Type 0 where
  pub job : Job
  pub there : slice_get p.jobs number ≡ Some job
  pub answer : t.named ≡ answer_of job

some_mapped : {X Y : Type 0} (f : X → Y) (o : Option X) (y : Y) → option_map f o ≡ Some y → (x : X) × (o ≡ Some x) × (y ≡ f x)
some_mapped f None y e = absurd (none-some y e)
some_mapped f (Some x) y e = (x, refl, sym (same_Some (f x) y e))

answer_at : (p : Plan) (first count i : ℕ) (entries : List (Taped (Named WrittenBlock))) (t : Taped (Named WrittenBlock)) → AreOfBlocks p first count entries → slice_get entries i ≡ Some t
    → IsAnswerAt p (first + i) t
answer_at p first count i entries t are is =
    let jobs : List Job = take count (drop first p.jobs) in
    let named : slice_get (map (λ (x : Taped (Named WrittenBlock)). x.named) entries) i ≡ Some t.named = mapped_at (λ (x : Taped (Named WrittenBlock)). x.named) entries i t is in
    let here : option_map answer_of (slice_get jobs i) ≡ Some t.named =
    sym (slice_get-map answer_of jobs i) ∙ sym (ap (λ (xs : List (Named WrittenBlock)). slice_get xs i) are.answers) ∙ named in
    let found = some_mapped answer_of (slice_get jobs i) t.named here in
    let inside : i < count = omega (arith, slice_get_within entries i t is, are.count_is) in
    record {
      job = found.0;
      there = sym (get_take count (drop first p.jobs) i inside ∙ get_drop first p.jobs i (first + i) refl) ∙ found.1;
      answer = found.2;
    }

-- ---- made entries and their blocks
pub made_is : (n : Named WrittenBlock) → IsMade n → (r : WrittenBlock) × (n ≡ Made r)
made_is (Made r) made = (r, refl)
made_is (Bad number) never = absurd never
made_is (Short number) never = absurd never

made_first : (n : Named WrittenBlock) (r : WrittenBlock) (rest : List WrittenBlock) → n ≡ Made r → made_before n rest ≡ r ∷ rest
made_first n r rest is = rw is refl

made_rest : (t : Taped (Named WrittenBlock)) (ts : List (Taped (Named WrittenBlock))) → AreMade (t ∷ ts) → (r : WrittenBlock) × (t.named ≡ Made r) × (made_in (t ∷ ts) ≡ r ∷ made_in ts)
made_rest t ts each =
    let first = made_is t.named (All-head (λ (x : Taped (Named WrittenBlock)). IsMade x.named) t ts each) in
    (first.0, first.1, made_first t.named first.0 (made_in ts) first.1)

pub made_later : (t : Taped (Named WrittenBlock)) (ts : List (Taped (Named WrittenBlock))) → AreMade (t ∷ ts) → AreMade ts
made_later t ts each = All-tail (λ (x : Taped (Named WrittenBlock)). IsMade x.named) t ts each

made_count : (entries : List (Taped (Named WrittenBlock))) → AreMade entries → length (made_in entries) ≡ length entries
made_count [] each = refl
made_count (t ∷ ts) each =
    let first = made_rest t ts each in
    let rest : length (made_in ts) ≡ length ts = made_count ts (made_later t ts each) in
    ap length first.2 ∙ ap suc rest

record IsMadeAt (entries : List (Taped (Named WrittenBlock))) (i : ℕ) (r : WrittenBlock) : Type 0 where
  pub entry : Taped (Named WrittenBlock)
  pub there : slice_get entries i ≡ Some entry
  pub made : entry.named ≡ Made r

made_at : (entries : List (Taped (Named WrittenBlock))) (i : ℕ) (r : WrittenBlock) → AreMade entries → slice_get (made_in entries) i ≡ Some r → IsMadeAt entries i r
made_at [] i r each is = absurd (none-some r is)
made_at (t ∷ ts) zero r each is =
    let first = made_rest t ts each in
    let same : first.0 ≡ r = same_Some first.0 r (sym (ap (λ (xs : List WrittenBlock). slice_get xs 0) first.2) ∙ is) in
    record { entry = t; there = refl; made = first.1 ∙ ap Made same }
made_at (t ∷ ts) (suc i) r each is =
    let first = made_rest t ts each in
    let later = made_at ts i r (made_later t ts each) (sym (ap (λ (xs : List WrittenBlock). slice_get xs (suc i)) first.2) ∙ is) in
    record { entry = later.entry; there = later.there; made = later.made }

-- entries of which each is made are those of all blocks
pub whole_of : (p : Plan) (first count : ℕ) (entries : List (Taped (Named WrittenBlock))) → AreUpTo p first count entries → AreMade entries → length entries ≡ count
whole_of p first count entries are made = elim (cases_lt (length entries) count) [
  | inl low ↦ absurd (are.short low made)
  | inr high ↦ omega (arith, high, are.few)
]

-- ---- the blocks of a tile
record IsMadeOf (p : Plan) (number : ℕ) (r : WrittenBlock) : Type 0 where
  pub there : slice_get p.jobs number ≡ Some r.job
  pub own : IsOwn p number r.job
  pub is : recoding_in r.job ≡ Some r.recoding

made_of : (p : Plan) (number : ℕ) (t : Taped (Named WrittenBlock)) (r : WrittenBlock) → IsPlan p → IsAnswerAt p number t → t.named ≡ Made r → IsMadeOf p number r
made_of p number t r plan at made =
    let for = made_for at.job (recoding_in at.job) r (sym made ∙ at.answer) in
    let there : slice_get p.jobs number ≡ Some r.job = at.there ∙ ap Some (sym for.0) in
    record { there = there; own = own_at p number r.job plan there; is = ap recoding_in for.0 ∙ for.1 }

module _ (laws : BlockLaws) (p : Plan) (t count : ℕ) (entries : List (Taped (Named WrittenBlock))) (plan : IsPlan p) (are : AreOfBlocks p (first_block p t) count entries) where
  value_at : (i : ℕ) (r : WrittenBlock) → AreMade entries → slice_get (made_in entries) i ≡ Some r → IsMadeOf p (first_block p t + i) r
  value_at i r made is =
      let at = made_at entries i r made is in
      made_of p (first_block p t + i) at.entry r plan (answer_at p (first_block p t) count i entries at.entry are at.there) at.made

  pub values_are : AreMade entries → count ≡ blocks_in p t → AreValuesOf p t (made_in entries)
  values_are made all = record {
    count = made_count entries made ∙ are.count_is ∙ all;
    each = λ i r is. (value_at i r made is).there;
    sound = all_mapped IsSound block_written (made_in entries) (λ i r is.
        let of = value_at i r made is in
        laws.sound r.job.block.now r.job.style r.job.ends r.recoding of.own.asked (sym of.is));
    layers = all_mapped (λ (b : Block). All (λ (q : PieceValue). q.layer < p.layers) b.pieces) block_written (made_in entries) (λ i r is.
        let of = value_at i r made is in
        let same : layer_ends (recoded_pieces r.recoding) ≡ r.job.ends = laws.layers r.job.block.now r.job.style r.job.ends r.recoding of.own.asked (sym of.is) in
        in_layers p.layers (recoded_pieces r.recoding) (subst (λ (ends : List LayerEnd). All (λ (e : LayerEnd). e.layer < p.layers) ends) (sym same) of.own.below));
  }

  pub values_stand : AreMade entries → StandIn (blocks_of p) p t (made_in entries)
  values_stand made i r is =
      let of = value_at i r made is in
      mapped_at block_asked p.jobs (first_block p t + i) r.job of.there ∙ ap (λ (o : Option Recoding). Some (block_with r.job.block.now o)) of.is

  right_below : (n k : ℕ) → AreMade (take k entries) → first_block p t ≤ n → n < first_block p t + k → n < first_block p t + count → IsWrongBlock p.wanted (slice_get p.blocks n) → ⊥
  right_below n k made from below inside wrong =
      let i : ℕ = n - first_block p t in
      let number : first_block p t + i ≡ n = omega (arith, from) in
      elim (slice_get_cases entries i).1 [
        | inl found ↦
            let here : slice_get (take k entries) i ≡ Some found.0 = get_take k entries i (omega (arith, from, below)) ∙ found.2 in
            let is = made_is found.0.named (all_at (λ (x : Taped (Named WrittenBlock)). IsMade x.named) (take k entries) i found.0 made here) in
            let at = answer_at p (first_block p t) count i entries found.0 are found.2 in
            let for = made_for at.job (recoding_in at.job) is.0 (sym is.1 ∙ at.answer) in
            let own : IsOwn p (first_block p t + i) at.job = own_at p (first_block p t + i) at.job plan at.there in
            right_at laws p (first_block p t + i) at.job is.0.recoding own for.1 (subst (λ (m : ℕ). IsWrongBlock p.wanted (slice_get p.blocks m)) (sym number) wrong)
        | inr past ↦ absurd (omega (arith, past.0, are.count_is, from, inside))
      ]

  pub tile_right : AreMade entries → count ≡ blocks_in p t → IsRightTile p t
  tile_right made all n from below wrong =
      let whole : AreMade (take count entries) = subst AreMade (sym (take_all count entries (omega (arith, are.count_is)))) made in
      right_below n count whole from (omega (arith, below, all)) (omega (arith, below, all)) wrong

  pub tile_wrong : (number : ℕ) → IsFirstUnmade entries number → count ≤ blocks_in p t → IsWrongTile p t number
  tile_wrong number first all =
      let at = answer_at p (first_block p t) count first.at entries first.entry are first.there in
      let own : IsOwn p (first_block p t + first.at) at.job = own_at p (first_block p t + first.at) at.job plan at.there in
      let none = unmade_for at.job number first.entry.named at.answer first.unmade in
      let is : first_block p t + first.at ≡ number = sym own.number_is ∙ sym none.0 in
      let inside : first.at < length entries = slice_get_within entries first.at first.entry first.there in
      record {
        from = omega (arith, is);
        below = omega (arith, is, inside, are.count_is, all);
        wrong = subst (λ (m : ℕ). IsWrongBlock p.wanted (slice_get p.blocks m)) is (wrong_at laws p (first_block p t + first.at) at.job own none.1);
        lowest = λ n from below. right_below n first.at first.before from (omega (arith, is, below)) (omega (arith, is, below, inside, are.count_is));
      }
