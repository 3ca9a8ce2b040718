-- Written segments are read back pass by pass.
use Rattle.std.proofs.Common.{◌≡◌, ◌+◌, ◌-◌, ◌==◌, ℕ, suc, Bool, true, false, ◌||◌, List, [], ◌∷◌, ◌++◌, drop, refl, sym, ap, subst, ◌∙◌, arith, inl, inr, if◌then◌else◌}
use Rattle.std.specs.Bool.{MatchBool}
use Rattle.std.proofs.lemmas.Bool.{cases_Bool}
use Rattle.jx_coder_specs.specs.MqTable.{MqContexts}
use Rattle.jx_coder_specs.specs.MqWriting.{MqGiven}
use Rattle.jx_base.specs.Passes.{raw_pass, end_pass}
use Rattle.jx_tier1_specs.specs.Segments.{begins}
use Rattle.jx_tier1_specs.specs.Reading.{Reading, Decoding, fresh_reading, first_segment}
use Rattle.jx_tier1_specs.specs.Needs.{segment_of, contexts_after, segments_from, is_last}
use Rattle.jx_tier1_specs.proofs.KindLemmas.{same_kind}
use Rattle.jx_tier1_specs.proofs.WroteLemmas.{or_false, isnt_none}
use Rattle.jx_tier1_specs.proofs.GivesLemmas.{read_all, Gives, read_all_more, read_all_raw, gives_first, gives_more, AreInverse, segment_gives, segment_contexts}

-- a reader within a segment gives the decisions of passes to come: those of this segment itself, the others from the segments
-- that are left
abbrev pub Ready : ℕ → ℕ → List (List MqGiven) → Reading → List (List ℕ) → Type 0
Ready style pass [] r rest = Unit {0}
Ready style pass (given ∷ more) r rest =
    (r.raw ≡ raw_pass style pass) × Gives r given ×
    MatchBool (end_pass style pass || is_last more)
    (rest ≡ segments_from style (pass + 1) (read_all r given).contexts [] more)
    (Ready style (pass + 1) more (read_all r given) rest)

-- the same of a segment that was begun with some decisions, and of a fresh reader of it
pub record Started (style pass : ℕ) (x : MqContexts) (begun : List MqGiven) (passes : List (List MqGiven)) (segments : List (List ℕ)) : Type 0 where
  pub gives : Gives (fresh_reading (raw_pass style pass) (first_segment segments) x) begun
  pub ready : Ready style pass passes (read_all (fresh_reading (raw_pass style pass) (first_segment segments) x) begun) (drop 1 segments)

or_last : (a : Bool) → a || true ≡ true
or_last true = refl
or_last false = refl

-- the segments of passes of which the first one ends its segment, or doesn't
abbrev segments_if : Bool → ℕ → ℕ → MqContexts → List MqGiven → List (List MqGiven) → List (List ℕ)
segments_if ends style pass x all more =
    if ends then segment_of (raw_pass style pass) x all ∷ segments_from style (pass + 1) (contexts_after (raw_pass style pass) x all) [] more
    else segments_from style (pass + 1) x all more

pub record StartedIf (ends : Bool) (style pass : ℕ) (x : MqContexts) (begun given : List MqGiven) (more : List (List MqGiven)) (segments : List (List ℕ)) : Type 0 where
  pub gives : Gives (fresh_reading (raw_pass style pass) (first_segment segments) x) begun
  pub raw : (read_all (fresh_reading (raw_pass style pass) (first_segment segments) x) begun).raw ≡ raw_pass style pass
  pub here : Gives (read_all (fresh_reading (raw_pass style pass) (first_segment segments) x) begun) given
  pub after : MatchBool ends
      (drop 1 segments ≡ segments_from style (pass + 1)
      (read_all (read_all (fresh_reading (raw_pass style pass) (first_segment segments) x) begun) given).contexts [] more)
      (Ready style (pass + 1) more (read_all (read_all (fresh_reading (raw_pass style pass) (first_segment segments) x) begun) given) (drop 1 segments))

started_end : AreInverse → (style pass : ℕ) (x : MqContexts) (begun given : List MqGiven) (more : List (List MqGiven))
    → StartedIf true style pass x begun given more (segments_if true style pass x (begun ++ given) more)
started_end i style pass x begun given more =
    let raw : Bool = raw_pass style pass in
    let all : List MqGiven = begun ++ given in
    let r : Reading = fresh_reading raw (segment_of raw x all) x in
    let h : Gives r all = segment_gives i raw x all in
    let S = λ (y : MqContexts). segments_from style (pass + 1) y [] more in
    record {
      gives = gives_first begun given r h;
      raw = read_all_raw begun r;
      here = gives_more begun given r h;
      after = ap S (sym (segment_contexts i raw x all) ∙ ap (λ (v : Reading). v.contexts) (read_all_more begun given r));
    }

-- the segment goes on
abbrev fresh_at : Bool → List (List ℕ) → MqContexts → Reading
fresh_at raw segments x = fresh_reading raw (first_segment segments) x

started_on : (style pass : ℕ) (x : MqContexts) (begun given : List MqGiven) (more : List (List MqGiven)) → end_pass style pass ≡ false
    → Started style (pass + 1) x (begun ++ given) more (segments_from style (pass + 1) x (begun ++ given) more)
    → StartedIf false style pass x begun given more (segments_if false style pass x (begun ++ given) more)
started_on style pass x begun given more e s =
    let segments : List (List ℕ) = segments_from style (pass + 1) x (begun ++ given) more in
    let k : raw_pass style (pass + 1) ≡ raw_pass style pass = same_kind style pass e in
    let P : Bool → Type 0 = λ raw. Gives (fresh_at raw segments x) (begun ++ given) in
    let Q : Bool → Type 0 = λ raw. Ready style (pass + 1) more (read_all (fresh_at raw segments x) (begun ++ given)) (drop 1 segments) in
    let R : Reading → Type 0 = λ r. Ready style (pass + 1) more r (drop 1 segments) in
    let r : Reading = fresh_at (raw_pass style pass) segments x in
    let h : Gives r (begun ++ given) = subst P k s.gives in
    record {
      gives = gives_first begun given r h;
      raw = read_all_raw begun r;
      here = gives_more begun given r h;
      after = subst R (read_all_more begun given r) (subst Q k s.ready);
    }

joined_up : (style pass : ℕ) (x : MqContexts) (begun given : List MqGiven) (more : List (List MqGiven)) (ends : Bool)
    → end_pass style pass || is_last more ≡ ends
    → StartedIf ends style pass x begun given more (segments_if ends style pass x (begun ++ given) more)
    → Started style pass x begun (given ∷ more) (segments_from style pass x begun (given ∷ more))
unfolding segments_from
joined_up style pass x begun given more ends e s =
    let P : Bool → Type 0 = λ b. StartedIf b style pass x begun given more (segments_if b style pass x (begun ++ given) more) in
    let t = subst P (sym e) s in
    record { gives = t.gives; ready = (t.raw, t.here, t.after) }

pub started : AreInverse → (style : ℕ) (given : List MqGiven) (more : List (List MqGiven)) (pass : ℕ) (x : MqContexts) (begun : List MqGiven)
    → Started style pass x begun (given ∷ more) (segments_from style pass x begun (given ∷ more))
started i style given [] pass x begun =
    joined_up style pass x begun given [] true (or_last (end_pass style pass)) (started_end i style pass x begun given [])
started i style given (next ∷ more) pass x begun =
    elim (cases_Bool (end_pass style pass || false)) [
      | inl e ↦ joined_up style pass x begun given (next ∷ more) true e (started_end i style pass x begun given (next ∷ more))
      | inr e ↦ joined_up style pass x begun given (next ∷ more) false e
          (started_on style pass x begun given (next ∷ more) (or_false (end_pass style pass) false e) (started i style next more (pass + 1) x (begun ++ given)))
    ]

-- the reader at the start of the next pass
abbrev pub opened_if : Bool → ℕ → ℕ → Decoding → Decoding
opened_if here style pass d =
    if here then record d { reading = fresh_reading (raw_pass style pass) (first_segment d.rest) d.reading.contexts; rest = drop 1 d.rest } else d

pub next_if : AreInverse → (ends : Bool) (style pass : ℕ) (given : List MqGiven) (more : List (List MqGiven)) (d : Decoding)
    → MatchBool (ends || false) (d.rest ≡ segments_from style (pass + 1) d.reading.contexts [] (given ∷ more)) (Ready style (pass + 1) (given ∷ more) d.reading d.rest)
    → Ready style (pass + 1) (given ∷ more) (opened_if ends style (pass + 1) d).reading (opened_if ends style (pass + 1) d).rest
next_if i true style pass given more d h =
    let x : MqContexts = d.reading.contexts in
    let P : List (List ℕ) → Type 0 = λ s. Ready style (pass + 1) (given ∷ more) (fresh_reading (raw_pass style (pass + 1)) (first_segment s) x) (drop 1 s) in
    subst P (sym h) (started i style given more (pass + 1) x []).ready
next_if i false style pass given more d h = h

next_test : (n : ℕ) (b : Bool) → (suc n == 0) || b ≡ b
next_test n b = rw (isnt_none n) refl

pub begins_next : (style pass : ℕ) → begins style (pass + 1) ≡ end_pass style pass
begins_next style pass =
    let e : pass + 1 ≡ suc pass = omega arith in
    let f : suc pass - 1 ≡ pass = omega arith in
    rw e (next_test pass (end_pass style (suc pass - 1)) ∙ ap (λ (p : ℕ). end_pass style p) f)
