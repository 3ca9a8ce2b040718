-- How many bytes a decoder has looked at is told by the encoder's registers and the finished bytes.
use Rattle.std.proofs.Common.{◌≡◌, ◌<◌, ◌≤◌, ◌+◌, ◌-◌, ℕ, zero, suc, Bool, true, false, List, [], ◌∷◌, ◌++◌, length, min, refl, ap, sym, ◌∙◌, arith, ltb, inl, inr, if◌then◌else◌}
use Rattle.std.proofs.lemmas.Bool.{cases_lt}
use Rattle.jx_base.specs.Markers.{HasNoMarker}
use Rattle.jx_coder_specs.specs.MqTable.{MqContexts, mq_fresh, mq_row_of}
use Rattle.jx_coder_specs.specs.MqReading.{MqReader, mq_byte, mq_reader, mq_shifted_in, mq_refilled, mq_chosen, mq_read, mq_after, mq_decisions_from, mq_decisions, mq_looked}
use Rattle.jx_coder_specs.specs.MqWriting.{MqWriter, MqGiven, Decided, Renewed, mq_writer, mq_shifted, mq_renormalized, mq_lower, mq_upper, mq_part, mq_flushed, mq_trimmed, mq_is_mps, mq_wrote, mq_after_bit, mq_written_from, mq_write, mq_asked}
use Rattle.jx_coder_specs.specs.RawBits.{raw_looked, looked_from}
use Rattle.jx_mq.specs.Coding.{AreGiven, IsCoding, IsCoder}
use Rattle.jx_mq.specs.Fraction.{size, scale, front}
use Rattle.jx_mq.proofs.Bounds.{shifted_coding}
use Rattle.jx_mq.proofs.Refills.{refilled_more, refilled_done, shifted_a}
use Rattle.jx_mq.proofs.Renormals.{renormalized_more, renormalized_done}
use Rattle.jx_mq.proofs.Feeding.{shifted_doubles, renormalization_follows}
use Rattle.jx_mq.proofs.Fitting.{IsGrown, grown_size, FitsIn, fits_renormalized}
use Rattle.jx_mq.proofs.Flushing.{flushed_given}
use Rattle.jx_mq.proofs.Following.{Follows, decides}
use Rattle.jx_mq.proofs.Fronts.{IsSegment}
use Rattle.jx_mq.proofs.Segments.{in_order, segment_of, trimmed_markers, trimmed_front, trimmed_short}
use Rattle.jx_mq.proofs.Inversion.{wrote_coder, start_coder, end_coder, now_coding, fits_all, start_follows, flushed_long, written_in_parts}
use Rattle.jx_mq.proofs.Places.{places, looked_behind, front_places}
use Rattle.jx_mq.proofs.Reached.{Reached, reached_looked, reached_shift, reached_chosen, start_reached}

-- the reader has reached as many places as the writer's scale has, behind the byte 0 before the first
pub record Reaches (s : List ℕ) (w : MqWriter) (r : MqReader) : Type 0 where
  pub n : ℕ
  pub scale_is : scale w ≡ n + 8
  pub reached : Reached s n r

reaches_shift : (s : List ℕ) (w : MqWriter) (r : MqReader) → HasNoMarker 0 s → IsCoding w → w.a < 32768 → Reaches s w r → Reaches s (mq_shifted w) (mq_shifted_in s r)
reaches_shift s w r whole coding less h =
    let d = shifted_doubles w less coding in
    let before = h.scale_is in
    let after = d.scale_is in
    record { n = suc h.n; scale_is = omega arith; reached = reached_shift s h.n r whole h.reached }

reaches_renormalized : (k : ℕ) (s : List ℕ) (w : MqWriter) (r : MqReader) → HasNoMarker 0 s → IsCoding w → r.a ≡ w.a → Reaches s w r → Reaches s (mq_renormalized k w) (mq_refilled s k r)
unfolding mq_renormalized mq_refilled
reaches_renormalized zero s w r whole coding a h = h
reaches_renormalized (suc k) s w r whole coding a h =
    elim (cases_lt w.a 32768) [
      | inl less ↦
          let same : r.a < 32768 = rw a less in
          let d = shifted_doubles w less coding in
          let next : (mq_shifted_in s r).a ≡ (mq_shifted w).a = rw (d.a, shifted_a s r, a) refl in
          rw (renormalized_more k w less, refilled_more s k r same)
          (reaches_renormalized k s (mq_shifted w) (mq_shifted_in s r) whole (shifted_coding w less coding) next (reaches_shift s w r whole coding less h))
      | inr most ↦
          let same : 32768 ≤ r.a = rw a most in
          rw (renormalized_done (suc k) w most, refilled_done s (suc k) r same) h
    ]

scale_if : (test : Bool) (x y : MqWriter) (n : ℕ) → scale x ≡ n → scale y ≡ n → scale (if test then x else y) ≡ n
scale_if true x y n p q = p
scale_if false x y n p q = q

part_scale : (w : MqWriter) (qe : ℕ) (is_mps : Bool) → scale (mq_part w qe is_mps) ≡ scale w
part_scale w qe true = scale_if (ltb (w.a - qe) qe) (mq_lower w qe) (mq_upper w qe) (scale w) refl refl
part_scale w qe false = scale_if (ltb (w.a - qe) qe) (mq_upper w qe) (mq_lower w qe) (scale w) refl refl

reaches_part : (s : List ℕ) (w : MqWriter) (r : MqReader) (qe : ℕ) (is_mps : Bool) → Reaches s w r → Reaches s (mq_part w qe is_mps) (mq_chosen r qe)
reaches_part s w r qe is_mps h = record { n = h.n; scale_is = part_scale w qe is_mps ∙ h.scale_is; reached = reached_chosen s h.n r qe h.reached }

-- the registers after the first decisions of a segment
reaches_all : (first more : List MqGiven) (s : List ℕ) (w : MqWriter) (x : MqContexts) (r : MqReader) (last v : ℕ) → HasNoMarker 0 s → IsSegment (mq_byte s) last → IsCoder w →
    front (mq_byte s) last ≡ mq_flushed (mq_written_from w x (first ++ more)).writer → Follows w r (mq_byte s) last v → Reaches s w r →
    Reaches s (mq_written_from w x first).writer (mq_decisions_from s r x (mq_asked first)).reader
reaches_all [] more s w x r last v whole segment h is f reaches = reaches
reaches_all (Decided label bit ∷ first) more s w x r last v whole segment h is f reaches =
    let qe : ℕ = (mq_row_of x label).qe in
    let is_mps : Bool = mq_is_mps x label bit in
    let coding = now_coding w x label bit h in
    let coder = wrote_coder w x label bit h in
    let after : FitsIn (mq_wrote w x label bit) (mq_byte s) last = fits_all (mq_wrote w x label bit) (mq_after_bit w x label bit) (first ++ more) (mq_byte s) last coder is in
    let now : FitsIn (mq_part w (mq_row_of x label).qe (mq_is_mps x label bit)) (mq_byte s) last =
    fits_renormalized 15 (mq_part w (mq_row_of x label).qe (mq_is_mps x label bit)) (mq_byte s) last coding after in
    let decision = decides w r (mq_byte s) last v (mq_row_of x label).qe (mq_is_mps x label bit) coding now f in
    let next = renormalization_follows 15 s (mq_part w (mq_row_of x label).qe (mq_is_mps x label bit)) (mq_chosen r (mq_row_of x label).qe) last v segment coding after decision.follows in
    let gone = reaches_renormalized 15 s (mq_part w (mq_row_of x label).qe (mq_is_mps x label bit)) (mq_chosen r (mq_row_of x label).qe) whole coding decision.follows.a
    (reaches_part s w r (mq_row_of x label).qe (mq_is_mps x label bit) reaches) in
    let same : mq_after r x label ≡ mq_after_bit w x label bit = (let a = f.a in rw (decision.decision, a) refl) in
    rw same (reaches_all first more s (mq_wrote w x label bit) (mq_after_bit w x label bit) (mq_read s r (mq_row_of x label).qe) last next.v whole segment coder is next.follows gone)
reaches_all (Renewed ∷ first) more s w x r last v whole segment h is f reaches = reaches_all first more s w mq_fresh r last v whole segment h is f reaches

front_length : (byte : ℕ → ℕ) (count : ℕ) → length (front byte count) ≡ suc count
front_length byte zero = refl
front_length byte (suc count) = rw (front_length byte count) refl

grown_length : (bytes : List ℕ) (byte : ℕ → ℕ) (count : ℕ) → IsGrown bytes byte count → count ≡ length bytes - 1
grown_length bytes byte count h =
    let long : suc count ≡ length (h.now ∷ h.older) = sym (front_length byte count) ∙ ap (λ (l : List ℕ). length l) h.is in
    rw h.was (omega arith)

-- counted from the bytes that the encoder had given out
told_from : (s : List ℕ) (w : MqWriter) (r : MqReader) (last : ℕ) → last ≤ suc (length s) → IsCoder w → FitsIn w (mq_byte s) last → Reaches s w r →
    min r.looked (length s) ≡ looked_from s (length w.bytes - 1) (27 - w.ct)
unfolding FitsIn
told_from s w r last long h fits reaches =
    let less = fits.1.0 in
    let grown = fits.1.1.grown in
    let count = grown_length w.bytes (mq_byte s) fits.0 grown in
    let within : fits.0 ≤ length s = omega arith in
    let sizes : size w.bytes ≡ size (front (mq_byte s) fits.0) = grown_size w.bytes (mq_byte s) fits.0 grown in
    let behind = front_places s fits.0 within in
    let scale_is = reaches.scale_is in
    let n : reaches.n ≡ places 0 s fits.0 + (27 - w.ct) = omega arith in
    reached_looked s reaches.n r reaches.reached ∙ ap (λ (k : ℕ). raw_looked s k) n ∙ looked_behind 0 s fits.0 (27 - w.ct) within ∙ ap (λ (k : ℕ). looked_from s k (27 - w.ct)) count

told_at : (x : MqContexts) (first more : List MqGiven) (bytes : List ℕ) (last : ℕ) → mq_flushed (mq_written_from mq_writer x (first ++ more)).writer ≡ bytes → AreGiven bytes → 0 < last → suc last ≡ length bytes →
    mq_looked (in_order (mq_trimmed bytes)) x (mq_asked first) ≡ looked_from (in_order (mq_trimmed bytes)) (length (mq_written_from mq_writer x first).writer.bytes - 1) (27 - (mq_written_from mq_writer x first).writer.ct)
told_at x first more bytes last e h some long =
    let s : List ℕ = in_order (mq_trimmed bytes) in
    let segment = segment_of bytes last h some long in
    let whole = trimmed_markers bytes h in
    let is : front (mq_byte (in_order (mq_trimmed bytes))) last ≡ mq_flushed (mq_written_from mq_writer x (first ++ more)).writer = trimmed_front bytes last h long ∙ sym e in
    let start = start_follows (in_order (mq_trimmed bytes)) last segment in
    let begins : Reaches (in_order (mq_trimmed bytes)) mq_writer (mq_reader (in_order (mq_trimmed bytes))) = record { n = 15; scale_is = refl; reached = start_reached (in_order (mq_trimmed bytes)) whole } in
    let reaches = reaches_all first more (in_order (mq_trimmed bytes)) mq_writer x (mq_reader (in_order (mq_trimmed bytes))) last start.v whole segment start_coder is start.follows begins in
    let coder = end_coder mq_writer x first start_coder in
    let rest : front (mq_byte (in_order (mq_trimmed bytes))) last ≡ mq_flushed (mq_written_from (mq_written_from mq_writer x first).writer (mq_written_from mq_writer x first).contexts more).writer =
    rw (written_in_parts first more mq_writer x) at is in
    let fits = fits_all (mq_written_from mq_writer x first).writer (mq_written_from mq_writer x first).contexts more (mq_byte (in_order (mq_trimmed bytes))) last coder rest in
    told_from (in_order (mq_trimmed bytes)) (mq_written_from mq_writer x first).writer (mq_decisions (in_order (mq_trimmed bytes)) x (mq_asked first)).reader last (trimmed_short bytes last long) coder fits reaches

-- what a decoder of the finished segment has looked at by the end of its first decisions
pub told : (x : MqContexts) (first more : List MqGiven) →
    let w = (mq_written_from mq_writer x first).writer in
    mq_looked (mq_write x (first ++ more)) x (mq_asked first) ≡ looked_from (mq_write x (first ++ more)) (length w.bytes - 1) (27 - w.ct)
told x first more =
    let h : IsCoder (mq_written_from mq_writer x (first ++ more)).writer = end_coder mq_writer x (first ++ more) start_coder in
    let long = flushed_long (mq_written_from mq_writer x (first ++ more)).writer h in
    told_at x first more (mq_flushed (mq_written_from mq_writer x (first ++ more)).writer) long.0 refl (flushed_given (mq_written_from mq_writer x (first ++ more)).writer h) long.1.0 long.1.1
