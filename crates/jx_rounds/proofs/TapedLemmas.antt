-- From what is made of the blocks of a round to the tape of a run.
use Rattle.std.proofs.Common.{◌≡◌, ◌∙◌, ◌<◌, ◌≤◌, ◌+◌, ◌-◌, ℕ, suc, true, false, is_some, List, [], ◌∷◌, ◌++◌, length, map, take, drop, refl, ap, sym, subst, arith, inl, inr, Some, append_assoc, append-nil, length-append, length-take, slice_index_or}
use Rattle.std.specs.List.{All, list_any, slice_get, sum}
use Rattle.std.proofs.lemmas.Bool.Decides.{nat_tests}
use Rattle.std.proofs.lemmas.List.{drop_all, drop-drop, drop-map, drop-take, length-map, map-append, take-map, take-take}
use Rattle.std.proofs.lemmas.List.Elements.{All-append, All-cons, All-head, All-map, All-nil}
use Rattle.std.proofs.Math.Seq.{drop-cons}
use Rattle.std.specs.Option.{option_map}
use Rattle.std.proofs.lemmas.Option.{same_Some, slice_get-map, slice_get_cases, slice_get_within}
use Rattle.std.proofs.lemmas.Simd.{map-map}
use Rattle.jx_base.specs.declared.pieces.Block.{Block}
use Rattle.jx_base.specs.Pieces.{bytes_in}
use Rattle.jx_codeblock.specs.declared.job.Job.{Job}
use Rattle.jx_codeblock.specs.Recoded.{WrittenBlock, is_bad}
use Rattle.jx_store.specs.declared.event.Taped.{Taped}
use Rattle.jx_store.specs.declared.work.Named.{Named}
use Rattle.jx_store.specs.Order.{numbers}
use Rattle.jx_store.specs.Setup.{Within}
use Rattle.jx_workers.specs.Tapes.{AreAsked, IsTape, answer_of, bounds, size_of, up_to_bad}
use Rattle.jx_workers.proofs.UpToLemmas.{fine_made, one_bad, one_fine, up_to_at, up_to_few, up_to_take}
use Rattle.jx_base.proofs.Lists.{all_at, all_from, same_gets}
use Rattle.jx_codestream.specs.First.{tile_number}
use Rattle.jx_tier2_writer.specs.Tile.{AreMade, IsMade, first_block}
use Rattle.jx_plan.specs.Plan.{IsPlan, Plan}
use Rattle.jx_options.specs.Work.{MayBeWork, Work, most_workers}
use Rattle.jx_rounds.proofs.FrontLemmas.{blocks_are}
use Rattle.jx_rounds.proofs.TileLemmas.{get_drop, get_take, made_is, made_later}
use Rattle.jx_rounds.specs.MadeRounds.{AreMadeAlone, AreUnshared, AreUpTo, IsTapeFrom, TapesOn, entry_of}
use Rattle.jx_rounds.specs.Rounds.{AreAnswers, EndsRound, HasTape, IsFault, IsOfRound, IsPlace, IsTapedTo, IsUnmade}
use Rattle.jx_rounds.specs.Tapes.{IsTapeOf, setup_of}
use Rattle.jx_rounds.specs.declared.halt.Halt.{Halt}
use Rattle.jx_rounds.specs.declared.halt.Halt.TheVariants as halt
use Rattle.jx_rounds.specs.declared.tape.TapeEntry.{TapeEntry}
use Rattle.jx_base.specs.Limits.{most_bytes}

-- ---- numbers from one on: what the law of the store says of them
pub record NumberLaws : Type 0 where
  pub count : (a n : ℕ) → length (numbers a n) ≡ n
  pub at : (a n i : ℕ) → i < n → slice_get (numbers a n) i ≡ Some (a + i)
  pub more : (a n m : ℕ) → numbers a n ++ numbers (a + n) m ≡ numbers a (n + m)

module _ (laws : NumberLaws) where
  length_numbered : {X : Type 0} (f : X → ℕ) (xs : List X) (a n : ℕ) → map f xs ≡ numbers a n → length xs ≡ n
  length_numbered f xs a n e = sym (length-map xs f) ∙ ap (λ (l : List ℕ). length l) e ∙ laws.count a n

  number_at : {X : Type 0} (f : X → ℕ) (xs : List X) (a n i : ℕ) (x : X) → map f xs ≡ numbers a n → slice_get xs i ≡ Some x → f x ≡ a + i
  number_at f xs a n i x e at =
      let inside : i < n = omega (arith, slice_get_within xs i x at, length_numbered f xs a n e) in
      same_Some (f x) (a + i) (sym (slice_get-map f xs i ∙ ap (option_map f) at) ∙ ap (λ (l : List ℕ). slice_get l i) e ∙ laws.at a n i inside)

  numbered : {X : Type 0} (f : X → ℕ) (xs : List X) (a : ℕ) → ((i : ℕ) (x : X) → slice_get xs i ≡ Some x → f x ≡ a + i) → map f xs ≡ numbers a (length xs)
  numbered f xs a each = same_gets (map f xs) (numbers a (length xs)) (length-map xs f ∙ sym (laws.count a (length xs))) (λ i lt.
      let inside : i < length xs = omega (arith, lt, length-map xs f) in
      elim (slice_get_cases xs i).1 [
        | inl there ↦ slice_get-map f xs i ∙ ap (option_map f) there.2 ∙ ap Some (each i there.0 there.2) ∙ sym (laws.at a (length xs) i inside)
        | inr past ↦ absurd (omega (arith, past.0, inside))
      ])

-- ---- a run has a worker, and a tape by some of its workers is one by all
some_workers : (threads : ℕ) → 1 ≤ most_workers threads
some_workers threads = grind (arith, nat_tests)

pub more_workers : (jobs : List Job) (first threads : ℕ) (work : Work) (entries : List (Taped (Named WrittenBlock))) → threads ≤ most_workers work.threads
    → IsTape jobs first threads work.window work.most entries → IsTapeFrom jobs first work entries
more_workers jobs first threads work entries few tape = record {
  order = tape.order;
  answers = tape.answers;
  workers = λ k d lt. omega (arith, tape.workers k d lt, few);
  within = tape.within;
  from = tape.from;
}

-- ---- what one thread makes of jobs is a tape of them, too
pub alone_is_tape : NumberLaws → (jobs : List Job) (first : ℕ) (work : Work) (entries : List (Taped (Named WrittenBlock))) → AreAsked first jobs → MayBeWork work → AreMadeAlone (up_to_bad jobs) entries → IsTapeFrom jobs first work entries
alone_is_tape laws jobs first work entries asked may alone =
    let number : Taped (Named WrittenBlock) → ℕ = λ t. t.number in
    let order : map number entries ≡ numbers first (length (up_to_bad jobs)) = alone.numbers_are ∙ numbered laws (λ (j : Job). j.number) (up_to_bad jobs) first (λ i j at. (asked i j (up_to_at jobs i j at)).numbered) in
    record {
      order = order;
      answers = alone.answers;
      workers = λ k d lt. omega (arith, alone.workers k d lt, some_workers work.threads);
      within = λ k d lt. (omega (arith, alone.seen k d lt), omega (arith, alone.seen k d lt, may.some_window), inl (alone.seen k d lt));
      from = all_from (λ (t : Taped (Named WrittenBlock)). first ≤ t.seen) entries (λ i t at.
          omega (arith, number_at laws number entries first (length (up_to_bad jobs)) i t order at, all_at (λ (x : Taped (Named WrittenBlock)). x.seen ≡ x.number) entries i t alone.seen at));
    }

-- jobs of which workers make something are shared
pub shared_none : (jobs : List Job) (entries : List (Taped (Named WrittenBlock))) → list_any (λ (j : Job). is_some j.style) jobs ≡ true → sum (map size_of jobs) ≤ most_bytes → AreUnshared jobs → AreMadeAlone (up_to_bad jobs) entries
shared_none jobs entries anew light (inl kept) = absurd (cc)
shared_none jobs entries anew light (inr heavy) = absurd (omega (arith, light, heavy))

-- ---- jobs, one after another
mapped_on : {X Y Z : Type 0} (f : X → Z) (g : Y → Z) (xs more : List X) (x : X) (now later : List Y) (y : Y) (whole : List Z) → map f xs ++ map g now ≡ whole → now ≡ y ∷ later → more ≡ xs ++ x ∷ [] → f x ≡ g y
    → map f more ++ map g later ≡ whole
mapped_on f g xs more x now later y whole so_far is push same =
    ap (λ zs. map f zs ++ map g later) push ∙ ap (λ zs. zs ++ map g later) (map-append f xs (x ∷ [])) ∙ append_assoc (map f xs) (f x ∷ []) (map g later) ∙ ap (λ z. map f xs ++ (z ∷ map g later)) same
    ∙ sym (ap (λ zs. map f xs ++ map g zs) is) ∙ so_far

all_next : {X : Type 0} (P : X → Type 0) (xs more : List X) (x : X) → All P xs → more ≡ xs ++ x ∷ [] → P x → All P more
all_next P xs more x each push here = subst (All P) (sym push) (All-append P xs (x ∷ []) each (All-cons P x [] here (All-nil P)))

-- what is left are the jobs up to the first bad one
pub record AreAloneBefore (jobs left : List Job) (entries : List (Taped (Named WrittenBlock))) : Type 0 where
  pub numbers_are : map (λ (t : Taped (Named WrittenBlock)). t.number) entries ++ map (λ (j : Job). j.number) left ≡ map (λ (j : Job). j.number) (up_to_bad jobs)
  pub answers : map (λ (t : Taped (Named WrittenBlock)). t.named) entries ++ map answer_of left ≡ map answer_of (up_to_bad jobs)
  pub workers : All (λ (t : Taped (Named WrittenBlock)). t.worker ≡ 0) entries
  pub seen : All (λ (t : Taped (Named WrittenBlock)). t.seen ≡ t.number) entries

abbrev pub AreAloneSoFar : List Job → ℕ → List (Taped (Named WrittenBlock)) → Type 0
AreAloneSoFar jobs i entries = AreAloneBefore jobs (up_to_bad (drop i jobs)) entries

pub alone_none : (jobs : List Job) → AreAloneSoFar jobs 0 []
alone_none jobs = record { numbers_are = refl; answers = refl; workers = All-nil _; seen = All-nil _ }

alone_on : (jobs now later : List Job) (entries more : List (Taped (Named WrittenBlock))) (t : Taped (Named WrittenBlock)) (j : Job) → AreAloneBefore jobs now entries → now ≡ j ∷ later
    → more ≡ entries ++ t ∷ [] → t ≡ record { number = j.number; worker = 0; seen = j.number; named = answer_of j } → AreAloneBefore jobs later more
alone_on jobs now later entries more t j so_far is push made = record {
  numbers_are = mapped_on (λ (x : Taped (Named WrittenBlock)). x.number) (λ (x : Job). x.number) entries more t now later j _ so_far.numbers_are is push (ap (λ (x : Taped (Named WrittenBlock)). x.number) made);
  answers = mapped_on (λ (x : Taped (Named WrittenBlock)). x.named) answer_of entries more t now later j _ so_far.answers is push (ap (λ (x : Taped (Named WrittenBlock)). x.named) made);
  workers = all_next (λ (x : Taped (Named WrittenBlock)). x.worker ≡ 0) entries more t so_far.workers push (ap (λ (x : Taped (Named WrittenBlock)). x.worker) made);
  seen = all_next (λ (x : Taped (Named WrittenBlock)). x.seen ≡ x.number) entries more t so_far.seen push
      (ap (λ (x : Taped (Named WrittenBlock)). x.seen) made ∙ sym (ap (λ (x : Taped (Named WrittenBlock)). x.number) made));
}

job_first : (jobs : List Job) (i : ℕ) (j : Job) → i < length jobs → j ≡ slice_index_or jobs i j → drop i jobs ≡ j ∷ drop (i + 1) jobs
job_first jobs i j lt is =
    let next : suc i ≡ i + 1 = omega arith in
    drop-cons jobs i j lt ∙ ap (λ z. z ∷ drop (suc i) jobs) (sym is) ∙ ap (λ (n : ℕ). j ∷ drop n jobs) next

pub alone_next : (jobs : List Job) (i : ℕ) (entries more : List (Taped (Named WrittenBlock))) (t : Taped (Named WrittenBlock)) (j : Job) → AreAloneSoFar jobs i entries → i < length jobs → j ≡ slice_index_or jobs i j
    → more ≡ entries ++ t ∷ [] → t ≡ record { number = j.number; worker = 0; seen = j.number; named = answer_of j } → is_bad j ≡ false → AreAloneSoFar jobs (i + 1) more
alone_next jobs i entries more t j so_far lt is push made fine =
    alone_on jobs (up_to_bad (drop i jobs)) (up_to_bad (drop (i + 1) jobs)) entries more t j so_far (ap up_to_bad (job_first jobs i j lt is) ∙ one_fine j (drop (i + 1) jobs) fine) push made

alone_end : (jobs : List Job) (entries : List (Taped (Named WrittenBlock))) → AreAloneBefore jobs [] entries → AreMadeAlone (up_to_bad jobs) entries
alone_end jobs entries so_far = record {
  numbers_are = sym (append-nil (map (λ (t : Taped (Named WrittenBlock)). t.number) entries)) ∙ so_far.numbers_are;
  answers = sym (append-nil (map (λ (t : Taped (Named WrittenBlock)). t.named) entries)) ∙ so_far.answers;
  workers = so_far.workers;
  seen = so_far.seen;
}

pub alone_bad : (jobs : List Job) (i : ℕ) (entries more : List (Taped (Named WrittenBlock))) (t : Taped (Named WrittenBlock)) (j : Job) → AreAloneSoFar jobs i entries → i < length jobs → j ≡ slice_index_or jobs i j
    → more ≡ entries ++ t ∷ [] → t ≡ record { number = j.number; worker = 0; seen = j.number; named = answer_of j } → is_bad j ≡ true → AreMadeAlone (up_to_bad jobs) more
alone_bad jobs i entries more t j so_far lt is push made bad =
    alone_end jobs more (alone_on jobs (up_to_bad (drop i jobs)) [] entries more t j so_far (ap up_to_bad (job_first jobs i j lt is) ∙ one_bad j (drop (i + 1) jobs) bad) push made)

pub alone_all : (jobs : List Job) (i : ℕ) (entries : List (Taped (Named WrittenBlock))) → AreAloneSoFar jobs i entries → length jobs ≤ i → AreMadeAlone (up_to_bad jobs) entries
alone_all jobs i entries so_far past = alone_end jobs entries (subst (λ (left : List Job). AreAloneBefore jobs left entries) (ap up_to_bad (drop_all i jobs past)) so_far)

-- ---- the windows of a round are those of the run
cut_same : (xs : List ℕ) (first count seen m : ℕ) → first ≤ seen → seen + m ≤ first + count → take m (drop (seen - first) (take count (drop first xs))) ≡ take m (drop seen xs)
cut_same xs first count seen m from within =
    let a : ℕ = seen - first in
    let b : ℕ = count - a in
    let whole : count ≡ a + b = omega (arith, from, within) in
    let here : first + a ≡ seen = omega (arith, from) in
    ap (λ (n : ℕ). take m (drop a (take n (drop first xs)))) whole ∙ ap (take m) (drop-take a b (drop first xs)) ∙ take-take m b (drop a (drop first xs)) (omega (arith, from, within))
    ∙ ap (take m) (drop-drop a first xs) ∙ ap (λ (n : ℕ). take m (drop n xs)) here

sizes_same : (p : Plan) → IsPlan p → map size_of p.jobs ≡ map (λ (b : Block). bytes_in b.pieces) p.blocks
sizes_same p plan =
    let size : Block → ℕ = λ b. bytes_in b.pieces in
    same_gets (map size_of p.jobs) (map size p.blocks) (length-map p.jobs size_of ∙ plan.all ∙ sym (length-map p.blocks size)) (λ i lt. elim (slice_get_cases p.jobs i).1 [
      | inl there ↦ slice_get-map size_of p.jobs i ∙ ap (option_map size_of) there.2 ∙ sym (slice_get-map size p.blocks i ∙ ap (option_map size) (plan.each i there.0 there.2).block_is)
      | inr past ↦ absurd (omega (arith, past.0, lt, length-map p.jobs size_of))
    ])

round_sizes : (p : Plan) (first count : ℕ) (jobs : List Job) → IsPlan p → jobs ≡ take count (drop first p.jobs) → map size_of jobs ≡ take count (drop first (map (λ (b : Block). bytes_in b.pieces) p.blocks))
round_sizes p first count jobs plan is =
    ap (map size_of) is ∙ sym (take-map size_of count (drop first p.jobs)) ∙ ap (take count) (sym (drop-map size_of first p.jobs)) ∙ ap (λ (sizes : List ℕ). take count (drop first sizes)) (sizes_same p plan)

within_run : (p : Plan) (work : Work) (first count seen number : ℕ) (jobs : List Job) → IsPlan p → jobs ≡ take count (drop first p.jobs) → first ≤ seen → number < first + count
    → Within (bounds first work.window work.most jobs) seen number → Within (setup_of work p.blocks) seen number
within_run p work first count seen number jobs plan is from below within =
    let sizes : List ℕ = map (λ (b : Block). bytes_in b.pieces) p.blocks in
    let m : ℕ = (number + 1) - seen in
    let less : seen ≤ number = within.0 in
    let whole : seen ≡ seen - 0 = omega arith in
    let here : take m (drop (seen - first) (map size_of jobs)) ≡ take m (drop (seen - 0) sizes) =
    ap (λ (xs : List ℕ). take m (drop (seen - first) xs)) (round_sizes p first count jobs plan is) ∙ cut_same sizes first count seen m from (omega (arith, less, below))
    ∙ ap (λ (n : ℕ). take m (drop n sizes)) whole in
    (within.0, within.1, elim within.2 [ inl alone ↦ inl alone | inr light ↦ inr (subst (λ (xs : List ℕ). sum xs ≤ work.most) here light) ])

-- ---- what a round's tape says, by the numbers of all blocks
pub jobs_asked : (p : Plan) (first count : ℕ) (jobs : List Job) → IsPlan p → jobs ≡ take count (drop first p.jobs) → first + count ≤ length p.jobs → AreAsked first jobs
jobs_asked p first count jobs plan is inside i j at =
    let here : slice_get (take count (drop first p.jobs)) i ≡ Some j = ap (λ (js : List Job). slice_get js i) (sym is) ∙ at in
    let below : i < count = omega (arith, slice_get_within (take count (drop first p.jobs)) i j here, length-take count (drop first p.jobs)) in
    let there : slice_get p.jobs (first + i) ≡ Some j = sym (get_take count (drop first p.jobs) i below ∙ get_drop first p.jobs i (first + i) refl) ∙ here in
    record { numbered = (plan.each (first + i) j there).number_is; asked = (plan.each (first + i) j there).asked }

-- where there are fewer entries than jobs, nothing was made of the last
short_bad : (jobs : List Job) (entries : List (Taped (Named WrittenBlock))) → map (λ (t : Taped (Named WrittenBlock)). t.named) entries ≡ map answer_of (up_to_bad jobs) → length entries < length jobs → AreMade entries → ⊥
short_bad [] entries answers low made = absurd (omega (arith, low))
short_bad (j ∷ jobs) [] answers low made = absurd (omega (arith, ap (λ (l : List (Named WrittenBlock)). length l) answers))
short_bad (j ∷ jobs) (t ∷ entries) answers low made =
    let is : t.named ≡ answer_of j = same_Some t.named (answer_of j) (ap (λ (l : List (Named WrittenBlock)). slice_get l 0) answers) in
    let own = made_is t.named (All-head (λ (x : Taped (Named WrittenBlock)). IsMade x.named) t entries made) in
    let fine : is_bad j ≡ false = fine_made own.0 j (sym own.1 ∙ is) in
    let rest : map (λ (x : Taped (Named WrittenBlock)). x.named) entries ≡ map answer_of (up_to_bad jobs) = ap (drop 1) (answers ∙ ap (map answer_of) (one_fine j jobs fine)) in
    short_bad jobs entries rest (omega (arith, low)) (made_later t entries made)

module _ (laws : NumberLaws) (p : Plan) (work : Work) (first count : ℕ) (jobs : List Job) (entries : List (Taped (Named WrittenBlock))) (plan : IsPlan p) (is : jobs ≡ take count (drop first p.jobs)) (all : length jobs ≡ count)
    (inside : first + count ≤ length p.jobs) (tape : IsTapeFrom jobs first work entries) where
  entries_long : length entries ≡ length (up_to_bad jobs)
  entries_long = length_numbered laws (λ (t : Taped (Named WrittenBlock)). t.number) entries first (length (up_to_bad jobs)) tape.order

  entries_few : length entries ≤ count
  entries_few = omega (arith, entries_long, up_to_few jobs, all)

  front_jobs : up_to_bad jobs ≡ take (length entries) (drop first p.jobs)
  front_jobs =
      up_to_take jobs ∙ ap (λ (n : ℕ). take n jobs) (sym entries_long) ∙ ap (take (length entries)) is ∙ take-take (length entries) count (drop first p.jobs) entries_few

  pub answers_of : AreUpTo p first count entries
  answers_of = record {
    of = record { count_is = refl; answers = tape.answers ∙ ap (map answer_of) front_jobs };
    few = entries_few;
    short = λ low made. short_bad jobs entries tape.answers (omega (arith, low, all)) made;
  }

  pub answers_are : AreAnswers p work first entries
  answers_are = record {
    order = tape.order ∙ ap (numbers first) (sym entries_long);
    within = omega (arith, inside, entries_few);
    answers = tape.answers ∙ ap (map answer_of) front_jobs;
    workers = tape.workers;
    seen = all_from (λ (t : Taped (Named WrittenBlock)). Within (setup_of work p.blocks) t.seen t.number) entries (λ i t at.
        let number : t.number ≡ first + i = number_at laws (λ (x : Taped (Named WrittenBlock)). x.number) entries first (length (up_to_bad jobs)) i t tape.order at in
        within_run p work first count t.seen t.number jobs plan is (all_at (λ (x : Taped (Named WrittenBlock)). first ≤ x.seen) entries i t tape.from at)
        (omega (arith, number, slice_get_within entries i t at, entries_few))
        (all_at (λ (x : Taped (Named WrittenBlock)). Within (bounds first work.window work.most jobs) x.seen x.number) entries i t tape.within at));
  }

-- ---- from tape to tape
pub tape_none : (work : Work) (blocks : List Block) → IsTapeOf work blocks []
tape_none work blocks = record { order = refl; few = omega arith; workers = All-nil _; within = All-nil _ }

pub first_tape : (p : Plan) (work : Work) (tape : List TapeEntry) → tape ≡ [] → HasTape p work 0 tape
first_tape p work tape none = subst (HasTape p work 0) (sym none) (record { of = tape_none work p.blocks; long = refl })

pub tapes_on : NumberLaws → (p : Plan) (work : Work) (first next : ℕ) (entries : List (Taped (Named WrittenBlock))) (more : List TapeEntry) → IsPlan p → AreAnswers p work first entries → next ≡ first + length entries
    → more ≡ map entry_of entries → TapesOn p work first next more
tapes_on laws p work first next entries more plan are count is tape so_far =
    let number : TapeEntry → ℕ = λ t. t.number in
    let long_is : length more ≡ length entries = ap length is ∙ length-map entries entry_of in
    let all : length (tape ++ more) ≡ length tape + length more = length-append tape more in
    let here : map number more ≡ numbers first (length entries) = ap (map number) is ∙ map-map number entry_of entries ∙ are.order in
    let begins : first ≡ 0 + length tape = omega (arith, so_far.long) in
    let ends : length tape + length entries ≡ length (tape ++ more) = omega (arith, all, long_is) in
    record {
      of = record {
        order = map-append number tape more ∙ ap (λ (ns : List ℕ). ns ++ map number more) so_far.of.order ∙ ap (λ (ns : List ℕ). numbers 0 (length tape) ++ ns) (here ∙ ap (λ (n : ℕ). numbers n (length entries)) begins)
            ∙ laws.more 0 (length tape) (length entries) ∙ ap (numbers 0) ends;
        few = omega (arith, all, long_is, so_far.long, are.within, plan.all);
        workers = All-append (λ (t : TapeEntry). t.worker < most_workers work.threads) tape more so_far.of.workers
            (subst (λ (ts : List TapeEntry). All (λ (t : TapeEntry). t.worker < most_workers work.threads) ts) (sym is) (All-map (λ (t : TapeEntry). t.worker < most_workers work.threads) entry_of entries are.workers));
        within = All-append (λ (t : TapeEntry). Within (setup_of work p.blocks) t.seen t.number) tape more so_far.of.within
            (subst (λ (ts : List TapeEntry). All (λ (t : TapeEntry). Within (setup_of work p.blocks) t.seen t.number) ts) (sym is)
            (All-map (λ (t : TapeEntry). Within (setup_of work p.blocks) t.seen t.number) entry_of entries are.seen));
      };
      long = omega (arith, all, long_is, so_far.long, count);
    }

pub all_place : (p : Plan) → IsPlan p → IsPlace p (tile_number p.stream.siz) (length p.blocks)
all_place p plan = record { inside = omega arith; block_is = plan.may.blocks_are.all ∙ blocks_are p.stream }

pub whole_tape : (p : Plan) (work : Work) (tile block : ℕ) (tape : List TapeEntry) → IsPlan p → IsPlace p tile block → tile_number p.stream.siz ≤ tile → HasTape p work block tape
    → length tape ≡ length p.blocks
whole_tape p work tile block tape plan place past whole =
    let last : tile ≡ tile_number p.stream.siz = omega (arith, place.inside, past) in
    let all : block ≡ length p.blocks = place.block_is ∙ ap (first_block p) last ∙ sym (all_place p plan).block_is in
    whole.long ∙ all

-- ---- where it ends
pub unmade_round : (p : Plan) (start : ℕ) (h : Halt) → IsUnmade p start h → IsOfRound p start h
unmade_round p start (halt.Bad tile number) spoiled = spoiled.round
unmade_round p start (halt.TooLong tile) spoiled = spoiled.round
unmade_round p start halt.Failed never = tt
unmade_round p start halt.NoMemory free = tt

pub fault_round : (p : Plan) (start : ℕ) (h : Halt) → IsFault h → IsOfRound p start h
fault_round p start (halt.Bad tile number) never = absurd never
fault_round p start (halt.TooLong tile) never = absurd never
fault_round p start halt.Failed fault = tt
fault_round p start halt.NoMemory fault = tt

pub fault_taped : (p : Plan) (tile entries : ℕ) (h : Halt) → IsFault h → IsPlace p tile entries → EndsRound p tile → IsTapedTo p h entries
fault_taped p tile entries (halt.Bad at number) never place ends = absurd never
fault_taped p tile entries (halt.TooLong at) never place ends = absurd never
fault_taped p tile entries halt.Failed fault place ends = record { tile = tile; place = place; ends = ends }
fault_taped p tile entries halt.NoMemory fault place ends = record { tile = tile; place = place; ends = ends }

taped_place : (p : Plan) (work : Work) (tile block : ℕ) (tape : List TapeEntry) → IsPlace p tile block → HasTape p work block tape → IsPlace p tile (length tape)
taped_place p work tile block tape place so_far = record { inside = place.inside; block_is = so_far.long ∙ place.block_is }

-- the tape stays as it was before the round that isn't written
pub taped_to : (p : Plan) (work : Work) (tile block : ℕ) (h : Halt) (tape : List TapeEntry) → IsPlace p tile block → EndsRound p tile → HasTape p work block tape → IsOfRound p tile h → IsTapedTo p h (length tape)
taped_to p work tile block (halt.Bad at number) tape place ends so_far of = so_far.long ∙ place.block_is ∙ ap (first_block p) (sym of)
taped_to p work tile block (halt.TooLong at) tape place ends so_far of = so_far.long ∙ place.block_is ∙ ap (first_block p) (sym of)
taped_to p work tile block halt.Failed tape place ends so_far of = record { tile = tile; place = taped_place p work tile block tape place so_far; ends = ends }
taped_to p work tile block halt.NoMemory tape place ends so_far of = record { tile = tile; place = taped_place p work tile block tape place so_far; ends = ends }

pub whole_taped : (p : Plan) (entries : ℕ) (h : Halt) → IsPlan p → IsFault h → entries ≡ length p.blocks → IsTapedTo p h entries
whole_taped p entries h plan fault all =
    fault_taped p (tile_number p.stream.siz) entries h fault (subst (λ (n : ℕ). IsPlace p (tile_number p.stream.siz) n) (sym all) (all_place p plan)) (inr refl)

pub last_place : (p : Plan) (work : Work) (tile block : ℕ) (tape : List TapeEntry) → IsPlace p tile block → tile_number p.stream.siz ≤ tile → HasTape p work block tape → IsPlace p (tile_number p.stream.siz) (length tape)
last_place p work tile block tape place past so_far =
    let last : tile ≡ tile_number p.stream.siz = omega (arith, place.inside, past) in
    subst (λ (t : ℕ). IsPlace p t (length tape)) last (taped_place p work tile block tape place so_far)
