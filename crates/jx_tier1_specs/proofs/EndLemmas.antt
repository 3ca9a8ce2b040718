-- What a decoder of written segments has looked at by the end of each pass is told by the encoder.
use Rattle.std.proofs.Common.{◌≡◌, ◌+◌, ◌-◌, ℕ, zero, suc, Bool, true, false, ◌||◌, List, [], ◌∷◌, ◌++◌, length, min, map, drop, refl, sym, ap, subst, ◌∙◌, arith, inl, inr, append_assoc, if◌then◌else◌}
use Rattle.std.proofs.lemmas.Bool.{cases_Bool}
use Rattle.std.proofs.lemmas.List.{append-nil, map-append}
use Rattle.jx_coder_specs.specs.MqTable.{MqContexts, mq_fresh, mq_row_of}
use Rattle.jx_coder_specs.specs.MqReading.{MqReader, mq_reader, mq_read, mq_after, mq_decisions_from, mq_looked}
use Rattle.jx_coder_specs.specs.MqWriting.{MqGiven, Decided, Renewed, mq_writer, mq_written_from, mq_write, mq_asked, mq_bits}
use Rattle.jx_coder_specs.specs.RawBits.{raw_bits, raw_write, raw_looked, raw_looked_after, looked_from}
use Rattle.jx_base.specs.Passes.{raw_pass, end_pass}
use Rattle.jx_tier1_specs.specs.Cells.{Cells}
use Rattle.jx_tier1_specs.specs.Reading.{Reading, fresh_reading, first_segment, looked_of}
use Rattle.jx_tier1_specs.specs.Needs.{segment_of, contexts_after, segments_from, is_last}
use Rattle.jx_tier1_specs.specs.Writing.{Writing, fresh_writing, wrote, segment_by}
use Rattle.jx_tier1_specs.specs.declared.stand.Stand.{Stand}
use Rattle.jx_tier1_specs.specs.Ends.{stand_of, end_in, ends_from}
use Rattle.jx_tier1_specs.proofs.KindLemmas.{same_kind}
use Rattle.jx_tier1_specs.proofs.WroteLemmas.{wrote_more, or_false}
use Rattle.jx_tier1_specs.proofs.SegmentLemmas.{wrote_mq, wrote_bits}
use Rattle.jx_tier1_specs.proofs.GivesLemmas.{read_all, read_all_more, read_all_raw, at_reading}

-- ---- a segment
-- what the coders' laws say of ends
pub record AreTold : Type 0 where
  pub mq : (x : MqContexts) (first more : List MqGiven) →
      mq_looked (mq_write x (first ++ more)) x (mq_asked first)
      ≡ looked_from (mq_write x (first ++ more)) (length (mq_written_from mq_writer x first).writer.bytes - 1) (27 - (mq_written_from mq_writer x first).writer.ct)
  pub raw : (bits more : List Bool) → raw_looked (raw_write (bits ++ more)) (length bits) ≡ raw_looked (raw_write bits) (length bits)
  pub counted : (segment : List ℕ) (n : ℕ) → raw_looked segment (length (raw_bits segment) - length (drop n (raw_bits segment))) ≡ raw_looked segment n

reader_is : (given : List MqGiven) (s : List ℕ) (r : MqReader) (left : List Bool) (x : MqContexts)
    → (read_all (at_reading s false r left x) given).mq ≡ (mq_decisions_from s r x (mq_asked given)).reader
reader_is [] s r left x = refl
reader_is (Decided label bit ∷ given) s r left x = reader_is given s (mq_read s r (mq_row_of x label).qe) left (mq_after r x label)
reader_is (Renewed ∷ given) s r left x = reader_is given s r left mq_fresh

mq_segment_kept : (given : List MqGiven) (s : List ℕ) (r : MqReader) (left : List Bool) (x : MqContexts)
    → (read_all (at_reading s false r left x) given).segment ≡ s
mq_segment_kept [] s r left x = refl
mq_segment_kept (Decided label bit ∷ given) s r left x = mq_segment_kept given s (mq_read s r (mq_row_of x label).qe) left (mq_after r x label)
mq_segment_kept (Renewed ∷ given) s r left x = mq_segment_kept given s r left mq_fresh

raw_segment_kept : (given : List MqGiven) (s : List ℕ) (r : MqReader) (left : List Bool) (x : MqContexts)
    → (read_all (at_reading s true r left x) given).segment ≡ s
raw_segment_kept [] s r left x = refl
raw_segment_kept (Decided label bit ∷ given) s r left x = raw_segment_kept given s r (drop 1 left) x
raw_segment_kept (Renewed ∷ given) s r left x = raw_segment_kept given s r left mq_fresh

none_left : (n : ℕ) → drop {A = Bool} n [] ≡ []
none_left zero = refl
none_left (suc n) = refl

drop_next : (n : ℕ) (left : List Bool) → drop n (drop 1 left) ≡ drop (suc n) left
drop_next n [] = none_left n
drop_next n (bit ∷ left) = refl

left_is : (given : List MqGiven) (s : List ℕ) (r : MqReader) (left : List Bool) (x : MqContexts)
    → (read_all (at_reading s true r left x) given).left ≡ drop (length (mq_bits given)) left
left_is [] s r left x = refl
left_is (Decided label bit ∷ given) s r left x = left_is given s r (drop 1 left) x ∙ drop_next (length (mq_bits given)) left
left_is (Renewed ∷ given) s r left x = left_is given s r left mq_fresh

bits_more : (first more : List MqGiven) → mq_bits (first ++ more) ≡ mq_bits first ++ mq_bits more
bits_more [] more = refl
bits_more (Decided label bit ∷ first) more = ap (λ (b : List Bool). bit ∷ b) (bits_more first more)
bits_more (Renewed ∷ first) more = bits_more first more

looked_none : (before : ℕ) (bytes : List ℕ) → raw_looked_after before bytes 0 ≡ 0
looked_none before [] = refl
looked_none before (byte ∷ rest) = refl

no_places : (segment : List ℕ) (given : ℕ) → looked_from segment given 0 ≡ given
no_places segment given = ap (λ (n : ℕ). given + n) (looked_none _ (drop given segment)) ∙ (omega arith)

-- of a reader by its parts
abbrev looked_by : Bool → List ℕ → MqReader → List Bool → ℕ
looked_by raw s mq left = if raw then raw_looked s (length (raw_bits s) - length left) else min mq.looked (length s)

pub looked_told : AreTold → (g : Cells) (raw : Bool) (x : MqContexts) (first more : List MqGiven)
    → looked_of (read_all (fresh_reading raw (segment_of raw x (first ++ more)) x) first)
    ≡ end_in (segment_of raw x (first ++ more)) (stand_of (wrote (fresh_writing g raw x) first))
looked_told t g true x first more =
    let s : List ℕ = raw_write (mq_bits (first ++ more)) in
    let bits : List Bool = mq_bits first in
    let n : ℕ = length bits in
    let r : Reading = read_all (fresh_reading true s x) first in
    let all : List ℕ = raw_write (bits ++ mq_bits more) in
    ap (λ (b : Bool). looked_by b r.segment r.mq r.left) (read_all_raw first (fresh_reading true s x))
    ∙ ap (λ (v : List ℕ). looked_by true v r.mq r.left) (raw_segment_kept first s (mq_reader s) (raw_bits s) x)
    ∙ ap (λ (l : List Bool). looked_by true s r.mq l) (left_is first s (mq_reader s) (raw_bits s) x)
    ∙ t.counted s n
    ∙ ap (λ (b : List Bool). raw_looked (raw_write b) n) (bits_more first more)
    ∙ t.raw bits (mq_bits more)
    ∙ sym (no_places s (raw_looked (raw_write bits) n))
    ∙ ap (λ (w : Writing). end_in s (stand_of w)) (sym (wrote_bits first g mq_writer [] x))
looked_told t g false x first more =
    let s : List ℕ = mq_write x (first ++ more) in
    let r : Reading = read_all (fresh_reading false s x) first in
    ap (λ (b : Bool). looked_by b r.segment r.mq r.left) (read_all_raw first (fresh_reading false s x))
    ∙ ap (λ (v : List ℕ). looked_by false v r.mq r.left) (mq_segment_kept first s (mq_reader s) (raw_bits s) x)
    ∙ ap (λ (m : MqReader). looked_by false s m r.left) (reader_is first s (mq_reader s) (raw_bits s) x)
    ∙ t.mq x first more
    ∙ ap (λ (w : Writing). end_in s (stand_of w)) (sym (wrote_mq first g mq_writer [] x))

-- ---- passes
-- what a reader has looked at by the end of each pass that it reads: the first one goes on in its segment
unfoldable pub seen_from : ℕ → ℕ → Reading → List (List ℕ) → List (List MqGiven) → List ℕ
seen_from style pass r rest [] = []
seen_from style pass r rest (given ∷ more) =
    looked_of (read_all r given)
    ∷ (if end_pass style pass
    then seen_from style (pass + 1) (fresh_reading (raw_pass style (pass + 1)) (first_segment rest) (read_all r given).contexts) (drop 1 rest) more
    else seen_from style (pass + 1) (read_all r given) rest more)

abbrev pub seen_tail : Bool → ℕ → ℕ → Reading → List (List ℕ) → List (List MqGiven) → List ℕ
seen_tail ends style pass r rest more =
    if ends then seen_from style (pass + 1) (fresh_reading (raw_pass style (pass + 1)) (first_segment rest) r.contexts) (drop 1 rest) more
    else seen_from style (pass + 1) r rest more

pub seen_next : (style pass : ℕ) (r : Reading) (rest : List (List ℕ)) (given : List MqGiven) (more : List (List MqGiven))
    → seen_from style pass r rest (given ∷ more) ≡ looked_of (read_all r given) ∷ seen_tail (end_pass style pass) style pass (read_all r given) rest more
unfolding seen_from
seen_next style pass r rest given more = refl

pub seen_none : (ends : Bool) (style pass : ℕ) (r : Reading) (rest : List (List ℕ)) → seen_tail ends style pass r rest [] ≡ []
unfolding seen_from
seen_none true style pass r rest = refl
seen_none false style pass r rest = refl

-- the segments and the ends after a pass that ends a segment, and after another one
pub segments_end : (style pass : ℕ) (x : MqContexts) (begun given : List MqGiven) (more : List (List MqGiven)) → end_pass style pass || is_last more ≡ true
    → segments_from style pass x begun (given ∷ more)
    ≡ segment_of (raw_pass style pass) x (begun ++ given) ∷ segments_from style (pass + 1) (contexts_after (raw_pass style pass) x (begun ++ given)) [] more
unfolding segments_from
segments_end style pass x begun given more e = rw e refl

pub segments_on : (style pass : ℕ) (x : MqContexts) (begun given : List MqGiven) (more : List (List MqGiven)) → end_pass style pass || is_last more ≡ false
    → segments_from style pass x begun (given ∷ more) ≡ segments_from style (pass + 1) x (begun ++ given) more
unfolding segments_from
segments_on style pass x begun given more e = rw e refl

pub ends_end : (style pass : ℕ) (stands : List Stand) (w : Writing) (given : List MqGiven) (more : List (List MqGiven)) → end_pass style pass || is_last more ≡ true
    → ends_from style pass stands w (given ∷ more)
    ≡ map (λ s. end_in (segment_by (wrote w given)) s) (stands ++ stand_of (wrote w given) ∷ [])
    ++ ends_from style (pass + 1) [] (fresh_writing (wrote w given).target (raw_pass style (pass + 1)) (wrote w given).contexts) more
unfolding ends_from
ends_end style pass stands w given more e = rw e refl

pub ends_on : (style pass : ℕ) (stands : List Stand) (w : Writing) (given : List MqGiven) (more : List (List MqGiven)) → end_pass style pass || is_last more ≡ false
    → ends_from style pass stands w (given ∷ more) ≡ ends_from style (pass + 1) (stands ++ stand_of (wrote w given) ∷ []) (wrote w given) more
unfolding ends_from
ends_on style pass stands w given more e = rw e refl

-- the segment at hand is written of what was begun and more
pub record IsFirst (s : List ℕ) (raw : Bool) (x : MqContexts) (all : List MqGiven) : Type 0 where
  pub more : List MqGiven
  pub is : s ≡ segment_of raw x (all ++ more)

first_whole : (raw : Bool) (x : MqContexts) (all : List MqGiven) → IsFirst (segment_of raw x all) raw x all
first_whole raw x all = record { more = []; is = ap (λ (l : List MqGiven). segment_of raw x l) (sym (append-nil all)) }

first_shorter : (s : List ℕ) (raw : Bool) (x : MqContexts) (all next : List MqGiven) → IsFirst s raw x (all ++ next) → IsFirst s raw x all
first_shorter s raw x all next h = record { more = next ++ h.more; is = h.is ∙ ap (λ (l : List MqGiven). segment_of raw x l) (append_assoc all next h.more) }

pub or_last : (a : Bool) → a || true ≡ true
or_last true = refl
or_last false = refl

pub or_none : (a : Bool) → a || false ≡ true → a ≡ true
or_none true h = h
or_none false h = h

pub first_is : (style : ℕ) (given : List MqGiven) (more : List (List MqGiven)) (pass : ℕ) (x : MqContexts) (begun : List MqGiven)
    → IsFirst (first_segment (segments_from style pass x begun (given ∷ more))) (raw_pass style pass) x (begun ++ given)
first_is style given [] pass x begun =
    rw (segments_end style pass x begun given [] (or_last (end_pass style pass))) (first_whole (raw_pass style pass) x (begun ++ given))
first_is style given (next ∷ more) pass x begun =
    elim (cases_Bool (end_pass style pass || false)) [
      | inl e ↦ rw (segments_end style pass x begun given (next ∷ more) e) (first_whole (raw_pass style pass) x (begun ++ given))
      | inr e ↦
          let raw : raw_pass style (pass + 1) ≡ raw_pass style pass = same_kind style pass (or_false (end_pass style pass) false e) in
          let s : List ℕ = first_segment (segments_from style (pass + 1) x (begun ++ given) (next ∷ more)) in
          let h : IsFirst s (raw_pass style (pass + 1)) x ((begun ++ given) ++ next) = first_is style next more (pass + 1) x (begun ++ given) in
          rw (segments_on style pass x begun given (next ∷ more) e)
          (first_shorter s (raw_pass style pass) x (begun ++ given) next (subst (λ (b : Bool). IsFirst s b x ((begun ++ given) ++ next)) raw h))
    ]

-- what a reader of segments has looked at and will have, where the first one was begun
abbrev pub all_seen : ℕ → ℕ → MqContexts → List MqGiven → List Stand → List (List MqGiven) → List (List ℕ) → List ℕ
all_seen style pass x begun stands passes segments =
    map (λ s. end_in (first_segment segments) s) stands
    ++ seen_from style pass (read_all (fresh_reading (raw_pass style pass) (first_segment segments) x) begun) (drop 1 segments) passes

abbrev pub begun_writing : ℕ → ℕ → Cells → MqContexts → List MqGiven → Writing
begun_writing style pass g x begun = wrote (fresh_writing g (raw_pass style pass) x) begun

-- a pass of a segment
pub seen_here : AreTold → (style pass : ℕ) (g : Cells) (x : MqContexts) (begun given : List MqGiven) (s : List ℕ) → IsFirst s (raw_pass style pass) x (begun ++ given)
    → looked_of (read_all (read_all (fresh_reading (raw_pass style pass) s x) begun) given) ≡ end_in s (stand_of (wrote (begun_writing style pass g x begun) given))
seen_here t style pass g x begun given s h =
    let raw : Bool = raw_pass style pass in
    let told : looked_of (read_all (fresh_reading raw s x) (begun ++ given)) ≡ end_in s (stand_of (wrote (fresh_writing g raw x) (begun ++ given))) =
    rw h.is (looked_told t g raw x (begun ++ given) h.more) in
    ap (λ (r : Reading). looked_of r) (sym (read_all_more begun given (fresh_reading raw s x)))
    ∙ told
    ∙ ap (λ (w : Writing). end_in s (stand_of w)) (wrote_more begun given (fresh_writing g raw x))

pub noted : (s : List ℕ) (stands : List Stand) (now : Stand) (rest : List ℕ) → map (λ d. end_in s d) stands ++ (end_in s now ∷ rest) ≡ map (λ d. end_in s d) (stands ++ now ∷ []) ++ rest
noted s stands now rest =
    sym (ap (λ (l : List ℕ). l ++ rest) (map-append (λ (d : Stand). end_in s d) stands (now ∷ []))
    ∙ append_assoc (map (λ d. end_in s d) stands) (end_in s now ∷ []) rest)
