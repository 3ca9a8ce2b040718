-- The segments that are written of coefficients: how many there are, and that no marker stands in them.
use Rattle.std.proofs.Common.{◌≡◌, ℕ, zero, suc, ◌+◌, ◌-◌, ◌≤◌, ◌||◌, Bool, true, false, List, [], ◌∷◌, ◌++◌, inl, inr, ◌∙◌, ap, sym, subst, refl, arith, length}
use Rattle.std.proofs.lemmas.Bool.{cases_Bool, cond-true, cond-false, or_left, or_right}
use Rattle.jx_base.specs.Markers.{HasNoMarker}
use Rattle.jx_coder_specs.specs.MqTable.{MqContexts, mq_fresh}
use Rattle.jx_coder_specs.specs.MqWriting.{MqGiven, mq_bits}
use Rattle.jx_base.specs.Passes.{end_pass, raw_pass}
use Rattle.jx_mq.proofs.Inversion.{write_no_marker}
use Rattle.jx_raw.proofs.Back.{written_no_marker}
use Rattle.jx_tier1_specs.specs.Cells.{Cells}
use Rattle.jx_tier1_specs.specs.Reading.{Coding, zeros}
use Rattle.jx_tier1_specs.specs.Needs.{contexts_after, followed_pass, is_last, needs, needs_from, segment_of, segments_from, written}
use Rattle.jx_codeblock.specs.Segments.{ends_below}
use Rattle.jx_codeblock.proofs.CleanLemmas.{AllClean}
use Rattle.jx_codeblock.proofs.EndLemmas.{below_ended, below_still}

-- ---- no marker
segment_clean : (raw : Bool) (x : MqContexts) (given : List MqGiven) → HasNoMarker 0 (segment_of raw x given)
segment_clean true x given = written_no_marker (mq_bits given)
segment_clean false x given = write_no_marker x given

segments_clean : (style pass : ℕ) (x : MqContexts) (begun : List MqGiven) (lists : List (List MqGiven)) → AllClean (segments_from style pass x begun lists)
unfolding segments_from
segments_clean style pass x begun [] = tt
segments_clean style pass x begun (given ∷ more) =
    let all : List MqGiven = begun ++ given in
    let here : List ℕ = segment_of (raw_pass style pass) x all in
    let ended : List (List ℕ) = segments_from style (pass + 1) (contexts_after (raw_pass style pass) x all) [] more in
    let goes_on : List (List ℕ) = segments_from style (pass + 1) x all more in
    elim (cases_Bool (end_pass style pass || is_last more)) [
      | inl t ↦
          subst (λ (ss : List (List ℕ)). AllClean ss) (sym (cond-true (end_pass style pass || is_last more) (here ∷ ended) goes_on t))
          (segment_clean (raw_pass style pass) x all, segments_clean style (pass + 1) (contexts_after (raw_pass style pass) x all) [] more)
      | inr f ↦
          subst (λ (ss : List (List ℕ)). AllClean ss) (sym (cond-false (end_pass style pass || is_last more) (here ∷ ended) goes_on f))
          (segments_clean style (pass + 1) x all more)
    ]

pub written_clean : (c : Coding) (g : Cells) (passes : ℕ) → AllClean (written c g passes)
written_clean c g passes = segments_clean c.style 0 mq_fresh [] (needs c g passes)

-- ---- how many
pub needs_long : (c : Coding) (g : Cells) (count pass : ℕ) (now : Cells) → length (needs_from c g count pass now) ≡ count
unfolding needs_from
needs_long c g zero pass now = refl
needs_long c g (suc count) pass now = ap suc (needs_long c g count (pass + 1) (followed_pass c g pass now))

segments_long : (style pass : ℕ) (x : MqContexts) (begun : List MqGiven) (lists : List (List MqGiven)) (n : ℕ) → length lists ≡ suc n
    → length (segments_from style pass x begun lists) + ends_below style pass ≡ ends_below style (pass + n) + 1
unfolding segments_from
segments_long style pass x begun [] n e = absurd (omega arith)
segments_long style pass x begun (given ∷ []) n e =
    let all : List MqGiven = begun ++ given in
    let here : List ℕ = segment_of (raw_pass style pass) x all in
    let at : (end_pass style pass || true) ≡ true = or_right (end_pass style pass) true refl in
    let is : segments_from style pass x begun (given ∷ []) ≡ here ∷ [] = cond-true (end_pass style pass || true) (here ∷ []) [] at in
    let l : length (segments_from style pass x begun (given ∷ [])) ≡ 1 = ap (λ (ss : List (List ℕ)). length ss) is in
    let same : ends_below style (pass + n) ≡ ends_below style pass = ap (ends_below style) (omega arith) in
    omega arith
segments_long style pass x begun (given ∷ other ∷ more) n e =
    let all : List MqGiven = begun ++ given in
    let here : List ℕ = segment_of (raw_pass style pass) x all in
    let ended : List (List ℕ) = segments_from style (pass + 1) (contexts_after (raw_pass style pass) x all) [] (other ∷ more) in
    let goes_on : List (List ℕ) = segments_from style (pass + 1) x all (other ∷ more) in
    let there : ends_below style (pass + 1 + (n - 1)) ≡ ends_below style (pass + n) = ap (ends_below style) (omega arith) in
    let rest : length (other ∷ more) ≡ suc (n - 1) = omega arith in
    elim (cases_Bool (end_pass style pass)) [
      | inl t ↦
          let is : segments_from style pass x begun (given ∷ other ∷ more) ≡ here ∷ ended = cond-true (end_pass style pass || false) (here ∷ ended) goes_on (or_left (end_pass style pass) false t) in
          let l : length (segments_from style pass x begun (given ∷ other ∷ more)) ≡ suc (length ended) = ap (λ (ss : List (List ℕ)). length ss) is in
          let up : ends_below style (pass + 1) ≡ ends_below style pass + 1 = below_ended style pass t in
          let r = segments_long style (pass + 1) (contexts_after (raw_pass style pass) x all) [] (other ∷ more) (n - 1) rest in
          omega arith
      | inr f ↦
          let none : (end_pass style pass || false) ≡ false = ap (λ (v : Bool). v || false) f in
          let is : segments_from style pass x begun (given ∷ other ∷ more) ≡ goes_on = cond-false (end_pass style pass || false) (here ∷ ended) goes_on none in
          let l : length (segments_from style pass x begun (given ∷ other ∷ more)) ≡ length goes_on = ap (λ (ss : List (List ℕ)). length ss) is in
          let up : ends_below style (pass + 1) ≡ ends_below style pass = below_still style pass f in
          let r = segments_long style (pass + 1) x all (other ∷ more) (n - 1) rest in
          omega arith
    ]

pub written_long : (c : Coding) (g : Cells) (passes : ℕ) → 1 ≤ passes → length (written c g passes) ≡ ends_below c.style (passes - 1) + 1
written_long c g passes some =
    let n : length (needs c g passes) ≡ suc (passes - 1) = needs_long c g passes 0 (zeros g.width g.height) ∙ omega arith in
    let l = segments_long c.style 0 mq_fresh [] (needs c g passes) (passes - 1) n in
    let there : ends_below c.style (0 + (passes - 1)) ≡ ends_below c.style (passes - 1) = ap (ends_below c.style) (omega arith) in
    omega arith

pub none_written : (c : Coding) (g : Cells) (passes : ℕ) → passes ≡ 0 → written c g passes ≡ []
unfolding needs_from segments_from
none_written c g passes e = rw e refl
