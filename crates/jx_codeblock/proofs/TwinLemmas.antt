-- Two coders on segments that agree as far as was looked at give the same decisions.
use Rattle.std.proofs.Common.{◌≡◌, ◌≤◌, ◌-◌, ℕ, zero, suc, Bool, true, false, List, [], ◌∷◌, ◌++◌, length, drop, get_or, min, inl, inr, ◌∙◌, ap, sym, subst, refl, arith}
use Rattle.std.proofs.lemmas.Bool.{cases_Bool, both_ways}
use Rattle.jx_base.specs.Passes.{resets}
use Rattle.jx_coder_specs.specs.MqTable.{MqContexts, mq_fresh, mq_row_of}
use Rattle.jx_coder_specs.specs.MqReading.{MqReader, MqAsked, Under, Anew, MqDecisions, mq_reader, mq_read, mq_after, mq_decisions}
use Rattle.jx_coder_specs.specs.RawBits.{raw_bits, raw_looked}
use Rattle.jx_mq.proofs.Looking.{IsSeen, same_decisions, in_parts}
use Rattle.jx_raw.proofs.Looking.{looked_most}
use Rattle.jx_tier1_specs.specs.Asking.{Asking, Told, Ask, told}
use Rattle.jx_tier1_specs.specs.Symbol.{symbol_asked}
use Rattle.jx_tier1_specs.specs.Reading.{Reading, coded_bit, after_bit, turned_over, read_answer, looked_of, renewed, read_symbol, ends_by_symbol, fresh_reading}
use Rattle.jx_codeblock.proofs.AgreeLemmas.{Agrees, agrees_reader}
use Rattle.jx_codeblock.proofs.SeenLemmas.{after_grows, told_grows, fresh_seen}

-- a coder on the first segment, and one on the second that was asked the same: the decisions of the arithmetic decoder, or the
-- number of raw bits, that were read
pub record Twins (s t : List ℕ) (r q : Reading) : Type 0 where
  pub here : r.segment ≡ s
  pub there : q.segment ≡ t
  pub raw : q.raw ≡ r.raw
  pub contexts : q.contexts ≡ r.contexts
  pub seen : IsSeen r.mq
  pub start : MqContexts
  pub asked : List MqAsked
  pub reader : r.raw ≡ false → r.mq ≡ (mq_decisions s start asked).reader
  pub labels : r.raw ≡ false → r.contexts ≡ (mq_decisions s start asked).contexts
  pub same : r.raw ≡ false → q.mq ≡ r.mq
  pub count : ℕ
  pub left : r.raw ≡ true → r.left ≡ drop count (raw_bits s)
  pub others : r.raw ≡ true → q.left ≡ drop count (raw_bits t)

-- ---- the arithmetic decoder
-- one more decision
asked_more : (s : List ℕ) (x : MqContexts) (asked : List MqAsked) (label : ℕ)
    → ((mq_decisions s x (asked ++ Under label ∷ [])).reader ≡ mq_read s (mq_decisions s x asked).reader (mq_row_of (mq_decisions s x asked).contexts label).qe)
    × ((mq_decisions s x (asked ++ Under label ∷ [])).contexts ≡ mq_after (mq_decisions s x asked).reader (mq_decisions s x asked).contexts label)
asked_more s x asked label =
    let e = in_parts asked (Under label ∷ []) s (mq_reader s) x in
    (ap (λ (d : MqDecisions). d.reader) e, ap (λ (d : MqDecisions). d.contexts) e)

asked_anew : (s : List ℕ) (x : MqContexts) (asked : List MqAsked)
    → ((mq_decisions s x (asked ++ Anew ∷ [])).reader ≡ (mq_decisions s x asked).reader) × ((mq_decisions s x (asked ++ Anew ∷ [])).contexts ≡ mq_fresh)
asked_anew s x asked =
    let e = in_parts asked (Anew ∷ []) s (mq_reader s) x in
    (ap (λ (d : MqDecisions). d.reader) e, ap (λ (d : MqDecisions). d.contexts) e)

same_read : (s t : List ℕ) (x : MqContexts) (asked : List MqAsked) (label : ℕ) (n : ℕ) → Agrees s t n
    → min (mq_decisions s x asked).reader.looked (length s) ≤ n
    → min (mq_read s (mq_decisions s x asked).reader (mq_row_of (mq_decisions s x asked).contexts label).qe).looked (length s) ≤ n
    → mq_read t (mq_decisions s x asked).reader (mq_row_of (mq_decisions s x asked).contexts label).qe
    ≡ mq_read s (mq_decisions s x asked).reader (mq_row_of (mq_decisions s x asked).contexts label).qe
same_read s t x asked label n agrees before after =
    let in_s = (asked_more s x asked label).0 in
    let in_t = (asked_more t x asked label).0 in
    let first : mq_decisions t x asked ≡ mq_decisions s x asked =
    same_decisions s t x asked (agrees_reader s t n (mq_decisions s x asked).reader.looked agrees before) in
    let after' : min (mq_decisions s x (asked ++ Under label ∷ [])).reader.looked (length s) ≤ n =
    subst (λ (r : MqReader). min r.looked (length s) ≤ n) (sym in_s) after in
    let both : mq_decisions t x (asked ++ Under label ∷ []) ≡ mq_decisions s x (asked ++ Under label ∷ []) =
    same_decisions s t x (asked ++ Under label ∷ []) (agrees_reader s t n (mq_decisions s x (asked ++ Under label ∷ [])).reader.looked agrees after') in
    ap (λ (d : MqDecisions). mq_read t d.reader (mq_row_of d.contexts label).qe) (sym first) ∙ sym in_t ∙ ap (λ (d : MqDecisions). d.reader) both ∙ in_s

after_coded : (r : Reading) (label : ℕ) → r.raw ≡ false
    → after_bit r label ≡ record r { mq = mq_read r.segment r.mq (mq_row_of r.contexts label).qe; contexts = mq_after r.mq r.contexts label }
after_coded r label f = rw f refl

after_raw : (r : Reading) (label : ℕ) → r.raw ≡ true → after_bit r label ≡ record r { left = drop 1 r.left }
after_raw r label t = rw t refl

-- ---- a decision
record Next (s t : List ℕ) (r q : Reading) (label : ℕ) : Type 0 where
  bit : coded_bit q label ≡ coded_bit r label
  twins : Twins s t (after_bit r label) (after_bit q label)

coded_next : (s t : List ℕ) (r q : Reading) (label n : ℕ) → Agrees s t n → (h : Twins s t r q) → r.raw ≡ false → looked_of r ≤ n
    → looked_of (after_bit r label) ≤ n → Next s t r q label
coded_next s t r q label n agrees h f before after =
    let g : q.raw ≡ false = h.raw ∙ f in
    let in_r : mq_read r.segment r.mq (mq_row_of r.contexts label).qe ≡ mq_read s (mq_decisions s h.start h.asked).reader (mq_row_of (mq_decisions s h.start h.asked).contexts label).qe =
    rw (h.here, h.reader f, h.labels f) refl in
    let in_q : mq_read q.segment q.mq (mq_row_of q.contexts label).qe ≡ mq_read t (mq_decisions s h.start h.asked).reader (mq_row_of (mq_decisions s h.start h.asked).contexts label).qe =
    rw (h.there, h.same f, h.contexts, h.reader f, h.labels f) refl in
    let least : min (mq_decisions s h.start h.asked).reader.looked (length s) ≤ n = rw (← h.reader f, ← h.here) (looked_coded r n f before) in
    let most : min (mq_read s (mq_decisions s h.start h.asked).reader (mq_row_of (mq_decisions s h.start h.asked).contexts label).qe).looked (length s) ≤ n =
    rw (← in_r, ← h.here) (looked_after r label n f after) in
    let both = same_read s t h.start h.asked label n agrees least most in
    let more = asked_more s h.start h.asked label in
    let grown = after_grows r label h.seen in
    record {
      bit = rw (f, g, h.same f, h.contexts) refl;
      twins = rw (after_coded r label f, after_coded q label g) (record {
        here = h.here;
        there = h.there;
        raw = h.raw;
        contexts = rw (h.same f, h.contexts) refl;
        seen = ap_seen (after_coded r label f) grown.seen;
        start = h.start;
        asked = h.asked ++ Under label ∷ [];
        reader = λ (e : r.raw ≡ false). in_r ∙ sym more.0;
        labels = λ (e : r.raw ≡ false). let own : mq_after r.mq r.contexts label ≡ mq_after (mq_decisions s h.start h.asked).reader (mq_decisions s h.start h.asked).contexts label = rw (h.reader f, h.labels f) refl in own ∙ sym more.1;
        same = λ (e : r.raw ≡ false). in_q ∙ both ∙ sym in_r;
        count = h.count;
        left = λ (e : r.raw ≡ true). absurd (both_ways r.raw f e);
        others = λ (e : r.raw ≡ true). absurd (both_ways r.raw f e);
      });
    }
  where
    looked_coded : (r : Reading) (n : ℕ) → r.raw ≡ false → looked_of r ≤ n → min r.mq.looked (length r.segment) ≤ n
    looked_coded r n f le = rw f at le

    looked_after : (r : Reading) (label n : ℕ) → r.raw ≡ false → looked_of (after_bit r label) ≤ n → min (mq_read r.segment r.mq (mq_row_of r.contexts label).qe).looked (length r.segment) ≤ n
    looked_after r label n f le = rw f at le

    ap_seen : {a b : Reading} → a ≡ b → IsSeen a.mq → IsSeen b.mq
    ap_seen {a} {b} e h = subst (λ (x : Reading). IsSeen x.mq) e h

-- ---- raw bits
drop_one : (bits : List Bool) (k : ℕ) → drop 1 (drop k bits) ≡ drop (suc k) bits
drop_one [] zero = refl
drop_one [] (suc k) = refl
drop_one (b ∷ bits) zero = refl
drop_one (b ∷ bits) (suc k) = drop_one bits k

bit_at : (bits : List Bool) (k : ℕ) → get_or (drop k bits) 0 true ≡ get_or bits k true
bit_at [] zero = refl
bit_at [] (suc k) = refl
bit_at (b ∷ bits) zero = refl
bit_at (b ∷ bits) (suc k) = bit_at bits k

raw_next : (s t : List ℕ) (r q : Reading) (label n : ℕ) → Agrees s t n → (h : Twins s t r q) → r.raw ≡ true → looked_of (after_bit r label) ≤ n → Next s t r q label
raw_next s t r q label n agrees h e after =
    let g : q.raw ≡ true = h.raw ∙ e in
    let mine : drop 1 r.left ≡ drop (suc h.count) (raw_bits s) = ap (drop 1) (h.left e) ∙ drop_one (raw_bits s) h.count in
    let other : drop 1 q.left ≡ drop (suc h.count) (raw_bits t) = ap (drop 1) (h.others e) ∙ drop_one (raw_bits t) h.count in
    let looked : raw_looked s (length (raw_bits s) - length (drop (suc h.count) (raw_bits s))) ≤ n = rw (← mine, ← h.here) (looked_raw r label n e after) in
    let within : raw_looked s (suc h.count) ≤ n = rw (looked_most s (suc h.count)) at looked in
    let in_r : get_or r.left 0 true ≡ get_or (raw_bits s) h.count true = ap (λ (bits : List Bool). get_or bits 0 true) (h.left e) ∙ bit_at (raw_bits s) h.count in
    let in_q : get_or q.left 0 true ≡ get_or (raw_bits t) h.count true = ap (λ (bits : List Bool). get_or bits 0 true) (h.others e) ∙ bit_at (raw_bits t) h.count in
    record {
      bit = rw (e, g) (in_q ∙ agrees.bits h.count within ∙ sym in_r);
      twins = rw (after_raw r label e, after_raw q label g) (record {
        here = h.here;
        there = h.there;
        raw = h.raw;
        contexts = h.contexts;
        seen = h.seen;
        start = h.start;
        asked = h.asked;
        reader = h.reader;
        labels = h.labels;
        same = h.same;
        count = suc h.count;
        left = λ (_ : r.raw ≡ true). mine;
        others = λ (_ : r.raw ≡ true). other;
      });
    }
  where
    looked_raw : (r : Reading) (label n : ℕ) → r.raw ≡ true → looked_of (after_bit r label) ≤ n → raw_looked r.segment (length (raw_bits r.segment) - length (drop 1 r.left)) ≤ n
    looked_raw r label n e le = rw e at le

bit_next : (s t : List ℕ) (r q : Reading) (label n : ℕ) → Agrees s t n → (h : Twins s t r q) → looked_of (after_bit r label) ≤ n → Next s t r q label
bit_next s t r q label n agrees h after = elim (cases_Bool r.raw) [
  | inl e ↦ raw_next s t r q label n agrees h e after
  | inr f ↦
      let grown = after_grows r label h.seen in
      let more = grown.more in
      coded_next s t r q label n agrees h f (omega arith) after
]

-- ---- a procedure
pub record Ends {A : Type 0} (s t : List ℕ) (mine other : A × Reading) : Type 0 where
  pub same : other.0 ≡ mine.0
  pub twins : Twins s t mine.1 other.1

pub told_twins : {A : Type 0} (tree : Asking A) (s t : List ℕ) (r q : Reading) (n : ℕ) → Agrees s t n → Twins s t r q
    → looked_of (told read_answer tree r).1 ≤ n → Ends s t (told read_answer tree r) (told read_answer tree q)
told_twins (Told a) s t r q n agrees h le = record { same = refl; twins = h }
told_twins (Ask question more) s t r q n agrees h le =
    let step = after_grows r question.label h.seen in
    let rest = told_grows (more (read_answer r question).0) (after_bit r question.label) step.seen in
    let grown = rest.more in
    let one : Next s t r q question.label = bit_next s t r q question.label n agrees h (omega arith) in
    let answer : (read_answer q question).0 ≡ (read_answer r question).0 =
    ap (λ (raw : Bool). turned_over raw question (coded_bit q question.label)) h.raw ∙ ap (λ (bit : Bool). turned_over r.raw question bit) one.bit in
    rw answer (told_twins (more (read_answer r question).0) s t (after_bit r question.label) (after_bit q question.label) n agrees one.twins le)

-- ---- around a procedure
pub renewed_twins : (style : ℕ) (s t : List ℕ) (r q : Reading) → Twins s t r q → Twins s t (renewed style r) (renewed style q)
renewed_twins style s t r q h = elim (cases_Bool (resets style)) [
  | inl e ↦
      let anew = asked_anew s h.start h.asked in
      rw e (record {
        here = h.here;
        there = h.there;
        raw = h.raw;
        contexts = refl;
        seen = h.seen;
        start = h.start;
        asked = h.asked ++ Anew ∷ [];
        reader = λ (f : r.raw ≡ false). h.reader f ∙ sym anew.0;
        labels = λ (f : r.raw ≡ false). sym anew.1;
        same = h.same;
        count = h.count;
        left = h.left;
        others = h.others;
      })
  | inr f ↦ rw f h
]

pub symbol_twins : (style pass : ℕ) (s t : List ℕ) (r q : Reading) (n : ℕ) → Agrees s t n → Twins s t r q
    → looked_of (read_symbol style pass r).1 ≤ n → Ends s t (read_symbol style pass r) (read_symbol style pass q)
symbol_twins style pass s t r q n agrees h le = elim (cases_Bool (ends_by_symbol style pass)) [
  | inl e ↦ rw e (told_twins symbol_asked s t r q n agrees h (rw e at le))
  | inr f ↦ rw f (record { same = refl; twins = h })
]

-- a segment is begun
pub fresh_twins : (raw : Bool) (s t : List ℕ) (x : MqContexts) (n : ℕ) → Agrees s t n → looked_of (fresh_reading raw s x) ≤ n
    → Twins s t (fresh_reading raw s x) (fresh_reading raw t x)
fresh_twins raw s t x n agrees le = record {
  here = refl;
  there = refl;
  raw = refl;
  contexts = refl;
  seen = fresh_seen raw s (fresh_reading raw s x);
  start = x;
  asked = [];
  reader = λ (f : raw ≡ false). refl;
  labels = λ (f : raw ≡ false). refl;
  same = λ (f : raw ≡ false).
      let few : min (mq_reader s).looked (length s) ≤ n = looked_first raw f le in
      ap (λ (d : MqDecisions). d.reader) (same_decisions s t x [] (agrees_reader s t n (mq_reader s).looked agrees few));
  count = 0;
  left = λ (e : raw ≡ true). refl;
  others = λ (e : raw ≡ true). refl;
}
  where
    looked_first : (raw : Bool) → raw ≡ false → looked_of (fresh_reading raw s x) ≤ n → min (mq_reader s).looked (length s) ≤ n
    looked_first raw f le = rw f at le
