-- What a reader gives of a written segment.
use Rattle.std.proofs.Common.{◌≡◌, ◌≤◌, ℕ, zero, suc, Bool, true, false, ◌&&◌, not, List, [], ◌∷◌, ◌++◌, length, take, drop, replicate, refl, ap, ◌∙◌, arith, if◌then◌else◌}
use Rattle.jx_coder_specs.specs.MqTable.{MqContexts, mq_fresh, mq_row_of}
use Rattle.jx_coder_specs.specs.MqReading.{MqReader, mq_reader, mq_bit, mq_after, mq_read, mq_decisions_from, mq_decisions}
use Rattle.jx_coder_specs.specs.MqWriting.{MqGiven, Decided, Renewed, mq_write, mq_contexts_after, mq_asked, mq_bits}
use Rattle.jx_coder_specs.specs.RawBits.{raw_bits, raw_read, raw_write}
use Rattle.jx_tier1_specs.specs.declared.question.Question.{Question}
use Rattle.jx_tier1_specs.specs.Cells.{Cells}
use Rattle.jx_tier1_specs.specs.Asking.{Asking, Told, Ask, told}
use Rattle.jx_tier1_specs.specs.Reading.{Reading, fresh_reading, coded_bit, after_bit, turned_over, read_answer}
use Rattle.jx_tier1_specs.specs.Needs.{answer_of, followed, called_for, renewed_by, segment_of, contexts_after}

-- a reader after a list of decisions and resets
abbrev pub read_all : Reading → List MqGiven → Reading
read_all r [] = r
read_all r (Decided label bit ∷ given) = read_all (after_bit r label) given
read_all r (Renewed ∷ given) = read_all (record r { contexts = mq_fresh }) given

-- it gives these decisions
abbrev pub Gives : Reading → List MqGiven → Type 0
Gives r [] = Unit {0}
Gives r (Decided label bit ∷ given) = (coded_bit r label ≡ bit) × Gives (after_bit r label) given
Gives r (Renewed ∷ given) = Gives (record r { contexts = mq_fresh }) given

pub read_all_more : (first more : List MqGiven) (r : Reading) → read_all r (first ++ more) ≡ read_all (read_all r first) more
read_all_more [] more r = refl
read_all_more (Decided label bit ∷ first) more r = read_all_more first more (after_bit r label)
read_all_more (Renewed ∷ first) more r = read_all_more first more (record r { contexts = mq_fresh })

pub gives_first : (first more : List MqGiven) (r : Reading) → Gives r (first ++ more) → Gives r first
gives_first [] more r h = tt
gives_first (Decided label bit ∷ first) more r h = (h.0, gives_first first more (after_bit r label) h.1)
gives_first (Renewed ∷ first) more r h = gives_first first more (record r { contexts = mq_fresh }) h

pub gives_more : (first more : List MqGiven) (r : Reading) → Gives r (first ++ more) → Gives (read_all r first) more
gives_more [] more r h = h
gives_more (Decided label bit ∷ first) more r h = gives_more first more (after_bit r label) h.1
gives_more (Renewed ∷ first) more r h = gives_more first more (record r { contexts = mq_fresh }) h

abbrev pub at_reading : List ℕ → Bool → MqReader → List Bool → MqContexts → Reading
at_reading s raw mq left x = record { segment = s; raw = raw; mq = mq; left = left; contexts = x }

after_raw : (raw : Bool) (s : List ℕ) (mq : MqReader) (left : List Bool) (x : MqContexts) (label : ℕ)
    → (after_bit (at_reading s raw mq left x) label).raw ≡ raw
after_raw true s mq left x label = refl
after_raw false s mq left x label = refl

pub read_all_raw : (given : List MqGiven) (r : Reading) → (read_all r given).raw ≡ r.raw
read_all_raw [] r = refl
read_all_raw (Decided label bit ∷ given) r = read_all_raw given (after_bit r label) ∙ after_raw r.raw r.segment r.mq r.left r.contexts label
read_all_raw (Renewed ∷ given) r = read_all_raw given (record r { contexts = mq_fresh })

first_same : (a b : Bool) (p q : List Bool) → a ∷ p ≡ b ∷ q → a ≡ b
first_same a b p q h = cc

rest_same : (a b : Bool) (p q : List Bool) → a ∷ p ≡ b ∷ q → p ≡ q
rest_same a b p q h = cc

-- an arithmetic decoder that gives the bits of a list
mq_gives : (given : List MqGiven) (s : List ℕ) (r : MqReader) (left : List Bool) (x : MqContexts)
    → (mq_decisions_from s r x (mq_asked given)).bits ≡ mq_bits given → Gives (at_reading s false r left x) given
mq_gives [] s r left x h = tt
mq_gives (Decided label bit ∷ given) s r left x h =
    let rest = (mq_decisions_from s (mq_read s r (mq_row_of x label).qe) (mq_after r x label) (mq_asked given)).bits in (
      first_same (mq_bit r x label) bit rest (mq_bits given) h,
      mq_gives given s (mq_read s r (mq_row_of x label).qe) left (mq_after r x label) (rest_same (mq_bit r x label) bit rest (mq_bits given) h),
    )
mq_gives (Renewed ∷ given) s r left x h = mq_gives given s r left mq_fresh h

mq_contexts : (given : List MqGiven) (s : List ℕ) (r : MqReader) (left : List Bool) (x : MqContexts)
    → (read_all (at_reading s false r left x) given).contexts ≡ (mq_decisions_from s r x (mq_asked given)).contexts
mq_contexts [] s r left x = refl
mq_contexts (Decided label bit ∷ given) s r left x = mq_contexts given s (mq_read s r (mq_row_of x label).qe) left (mq_after r x label)
mq_contexts (Renewed ∷ given) s r left x = mq_contexts given s r left mq_fresh

-- raw bits, with ones after them
raw_gives : (given : List MqGiven) (s : List ℕ) (mq : MqReader) (left : List Bool) (x : MqContexts) (ones : ℕ)
    → length (mq_bits given) ≤ ones → take (length (mq_bits given)) (left ++ replicate ones true) ≡ mq_bits given
    → Gives (at_reading s true mq left x) given
raw_gives [] s mq left x ones l h = tt
raw_gives (Decided label bit ∷ given) s mq [] x zero l h = absurd (omega arith)
raw_gives (Decided label bit ∷ given) s mq [] x (suc ones) l h =
    let rest = take (length (mq_bits given)) (replicate ones true) in
    (first_same true bit rest (mq_bits given) h, raw_gives given s mq [] x ones (omega arith) (rest_same true bit rest (mq_bits given) h))
raw_gives (Decided label bit ∷ given) s mq (b ∷ left) x ones l h =
    let rest = take (length (mq_bits given)) (left ++ replicate ones true) in
    (first_same b bit rest (mq_bits given) h, raw_gives given s mq left x ones (omega arith) (rest_same b bit rest (mq_bits given) h))
raw_gives (Renewed ∷ given) s mq left x ones l h = raw_gives given s mq left mq_fresh ones l h

raw_contexts : (given : List MqGiven) (s : List ℕ) (mq : MqReader) (left : List Bool) (x : MqContexts)
    → (read_all (at_reading s true mq left x) given).contexts ≡ renewed_by x given
raw_contexts [] s mq left x = refl
raw_contexts (Decided label bit ∷ given) s mq left x = raw_contexts given s mq (drop 1 left) x
raw_contexts (Renewed ∷ given) s mq left x = raw_contexts given s mq left mq_fresh

-- the inversion of the two coders
pub record AreInverse : Type 0 where
  pub bits : (x : MqContexts) (given : List MqGiven) → (mq_decisions (mq_write x given) x (mq_asked given)).bits ≡ mq_bits given
  pub contexts : (x : MqContexts) (given : List MqGiven) → (mq_decisions (mq_write x given) x (mq_asked given)).contexts ≡ mq_contexts_after x given
  pub raw : (bits : List Bool) → raw_read (raw_write bits) (length bits) ≡ bits

-- a fresh reader of a written segment gives its decisions, and has the encoder's contexts after them
pub segment_gives : AreInverse → (raw : Bool) (x : MqContexts) (given : List MqGiven) → Gives (fresh_reading raw (segment_of raw x given) x) given
segment_gives i true x given =
    raw_gives given (raw_write (mq_bits given)) (mq_reader (raw_write (mq_bits given))) (raw_bits (raw_write (mq_bits given))) x (length (mq_bits given)) (omega arith) (i.raw (mq_bits given))
segment_gives i false x given = mq_gives given (mq_write x given) (mq_reader (mq_write x given)) (raw_bits (mq_write x given)) x (i.bits x given)

pub segment_contexts : AreInverse → (raw : Bool) (x : MqContexts) (given : List MqGiven)
    → (read_all (fresh_reading raw (segment_of raw x given) x) given).contexts ≡ contexts_after raw x given
segment_contexts i true x given =
    raw_contexts given (raw_write (mq_bits given)) (mq_reader (raw_write (mq_bits given))) (raw_bits (raw_write (mq_bits given))) x
segment_contexts i false x given =
    mq_contexts given (mq_write x given) (mq_reader (mq_write x given)) (raw_bits (mq_write x given)) x ∙ i.contexts x given

-- a decision that is turned over twice
twice : (t b : Bool) → (if t then not (if t then not b else b) else (if t then not b else b)) ≡ b
twice true true = refl
twice true false = refl
twice false b = refl

turned_back : (raw : Bool) (q : Question) (b : Bool) → turned_over raw q (turned_over raw q b) ≡ b
turned_back raw q b = twice (not raw && q.turned) b

-- a procedure that is told the decisions that a grid is asked for ends as it does where the grid answers
pub told_follows : {A : Type 0} (t : Asking A) (g : Cells) (raw : Bool) (r : Reading) (more : List MqGiven) → r.raw ≡ raw
    → Gives r (called_for raw g t ++ more) → told read_answer t r ≡ (followed g t, read_all r (called_for raw g t))
told_follows (Told a) g raw r more e h = refl
told_follows (Ask q k) g raw r more e h =
    let b : Bool = answer_of g q in
    let s : Reading = after_bit r q.label in
    let f : turned_over r.raw q (coded_bit r q.label) ≡ b =
    ap (λ (c : Bool). turned_over r.raw q c) h.0 ∙ (ap (λ (d : Bool). turned_over d q (turned_over raw q b)) e ∙ turned_back raw q b) in
    ap (λ (c : Bool). told read_answer (k c) s) f
    ∙ told_follows (k b) g raw s more (after_raw r.raw r.segment r.mq r.left r.contexts q.label ∙ e) h.1
