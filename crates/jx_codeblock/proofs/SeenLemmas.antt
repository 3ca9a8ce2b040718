-- The decoder never looks at fewer bytes of a segment than before.
use Rattle.std.proofs.Common.{◌≡◌, ℕ, ◌-◌, ◌≤◌, min, Bool, List, inl, inr, arith, length, drop}
use Rattle.std.proofs.lemmas.Bool.{cases_Bool}
use Rattle.std.proofs.lemmas.List.{length-drop}
use Rattle.jx_base.specs.Passes.{resets}
use Rattle.jx_coder_specs.specs.MqTable.{mq_row_of}
use Rattle.jx_coder_specs.specs.MqReading.{mq_read}
use Rattle.jx_coder_specs.specs.RawBits.{raw_bits, raw_looked}
use Rattle.jx_mq.proofs.Looking.{IsSeen, start_seen, sees_read}
use Rattle.jx_tier1_specs.specs.Asking.{Asking, Told, Ask, told}
use Rattle.jx_tier1_specs.specs.Symbol.{symbol_asked}
use Rattle.jx_tier1_specs.specs.Reading.{Reading, after_bit, read_answer, looked_of, renewed, read_symbol, ends_by_symbol, fresh_reading}
use Rattle.jx_raw.proofs.Agreeing.{looked_grows}

-- ---- a coder within its segment
pub record Grows (before after : Reading) : Type 0 where
  pub more : looked_of before ≤ looked_of after
  pub seen : IsSeen after.mq

pub fresh_seen : (raw : Bool) (segment : List ℕ) (r : Reading) → IsSeen (fresh_reading raw segment r.contexts).mq
fresh_seen raw segment r = start_seen segment

min_grows : (a b n : ℕ) → a ≤ b → min a n ≤ min b n
min_grows a b n le = omega arith

pub after_grows : (r : Reading) (label : ℕ) → IsSeen r.mq → Grows r (after_bit r label)
after_grows r label h = elim (cases_Bool r.raw) [
  | inl t ↦
      let fewer : length (drop 1 r.left) ≡ length r.left - 1 = length-drop 1 r.left in
      let more : raw_looked r.segment (length (raw_bits r.segment) - length r.left) ≤ raw_looked r.segment (length (raw_bits r.segment) - length (drop 1 r.left)) =
      looked_grows 0 r.segment (length (raw_bits r.segment) - length r.left) (length (raw_bits r.segment) - length (drop 1 r.left)) (omega arith) in
      record { more = rw t more; seen = rw t h }
  | inr f ↦
      let read = sees_read r.segment r.mq (mq_row_of r.contexts label).qe h in
      record { more = rw f (min_grows r.mq.looked (mq_read r.segment r.mq (mq_row_of r.contexts label).qe).looked (length r.segment) read.more); seen = rw f read.seen }
]

grows_more : (a b c : Reading) → Grows a b → Grows b c → Grows a c
grows_more a b c p q = let x = p.more in let y = q.more in record { more = omega arith; seen = q.seen }

pub told_grows : {A : Type 0} (t : Asking A) (r : Reading) → IsSeen r.mq → Grows r (told read_answer t r).1
told_grows (Told a) r h = record { more = omega arith; seen = h }
told_grows (Ask q more) r h =
    let step = after_grows r q.label h in
    grows_more r (after_bit r q.label) (told read_answer (more (read_answer r q).0) (after_bit r q.label)).1 step (told_grows (more (read_answer r q).0) (after_bit r q.label) step.seen)

pub renewed_grows : (style : ℕ) (r : Reading) → IsSeen r.mq → Grows r (renewed style r)
renewed_grows style r h = elim (cases_Bool (resets style)) [
  | inl t ↦ record { more = rw t (omega arith); seen = rw t h }
  | inr f ↦ record { more = rw f (omega arith); seen = rw f h }
]

pub symbol_grows : (style pass : ℕ) (r : Reading) → IsSeen r.mq → Grows r (read_symbol style pass r).1
symbol_grows style pass r h = elim (cases_Bool (ends_by_symbol style pass)) [
  | inl t ↦ rw t (told_grows symbol_asked r h)
  | inr f ↦ rw f (record { more = omega arith; seen = h })
]

pub sum_grows : (a b c d : Reading) → Grows a b → Grows b c → Grows c d → Grows a d
sum_grows a b c d p q r = grows_more a c d (grows_more a b c p q) r
