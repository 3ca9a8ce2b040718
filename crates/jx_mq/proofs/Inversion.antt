-- What the encoder wrote of a list is read back by the decoder, from any contexts.
use Rattle.std.proofs.Common.{◌≡◌, ◌<◌, ◌≤◌, ◌+◌, ◌-◌, ◌*◌, ◌%◌, ◌^◌, ℕ, zero, suc, Bool, true, false, not, List, [], ◌∷◌, ◌++◌, map, length, slice_index_or, refl, ap, sym, ◌∙◌, arith, ltb, inl, inr, if◌then◌else◌}
use Rattle.std.proofs.lemmas.Bool.{cases_lt}
use Rattle.std.proofs.lemmas.Nat.{pow-add}
use Rattle.std.proofs.Math.Nat.{mod-eq_of_lt}
use Rattle.jx_base.specs.Markers.{HasNoMarker}
use Rattle.jx_coder_specs.specs.MqTable.{MqContexts, mq_fresh, mq_row_of, mq_mps}
use Rattle.jx_coder_specs.specs.MqReading.{MqReader, MqAsked, Under, MqDecisions, mq_byte, mq_byte_in, mq_reader, mq_reads_mps, mq_chosen, mq_read, mq_bit, mq_after, mq_decisions_from, mq_decisions}
use Rattle.jx_coder_specs.specs.MqWriting.{MqWriter, MqGiven, Decided, Renewed, mq_writer, mq_shifted, mq_renormalized, mq_lower, mq_upper, mq_part, mq_flushed, mq_trimmed, mq_is_mps, mq_wrote, mq_after_bit, mq_written_from, mq_write, mq_contexts_after, mq_asked, mq_bits, mq_write_each, mq_bits_each, mq_contexts_left, mq_contexts_each}
use Rattle.jx_mq.specs.Coding.{AreGiven, IsCoding, IsCoder}
use Rattle.jx_mq.specs.Fraction.{front}
use Rattle.jx_mq.proofs.Rows.{row_in_range}
use Rattle.jx_mq.proofs.Bounds.{coder, shifted_coding, part_coding, part_below}
use Rattle.jx_mq.proofs.Refills.{twice_is}
use Rattle.jx_mq.proofs.Renormals.{renormalized_more, renormalized_done, shifted_a}
use Rattle.jx_mq.proofs.Ends.{HasGivenOut}
use Rattle.jx_mq.proofs.Fitting.{FitsIn, fits_renormalized, fits_lower, fits_upper}
use Rattle.jx_mq.proofs.Flushing.{widened, flush_fits, flushed_given, flushed_is, flushed_second, flushed_first, second_out}
use Rattle.jx_mq.proofs.Fronts.{IsSegment, byte_fits, Taken}
use Rattle.jx_mq.proofs.Following.{Follows, decides}
use Rattle.jx_mq.proofs.Feeding.{feed, FollowsOn, renormalization_follows}
use Rattle.jx_mq.proofs.Segments.{in_order, segment_of, trimmed_markers, trimmed_front}

renormalized_coder : (n : ℕ) (w : MqWriter) → IsCoding w → w.a < 65536 → 32768 ≤ w.a * 2 ^ n → IsCoder (mq_renormalized n w)
unfolding mq_renormalized
renormalized_coder zero w h room enough = record { coding = h; low = omega arith; high = room }
renormalized_coder (suc n) w h room enough =
    elim (cases_lt w.a 32768) [
      | inl less ↦
          let e = shifted_a w in
          rw (renormalized_more n w less)
          (renormalized_coder n (mq_shifted w) (shifted_coding w less h) (rw e (omega arith)) (rw (e, twice_is w.a n) enough))
      | inr most ↦ rw (renormalized_done (suc n) w most) (record { coding = h; low = most; high = room })
    ]

pub wrote_coder : (w : MqWriter) (x : MqContexts) (label : ℕ) (bit : Bool) → IsCoder w → IsCoder (mq_wrote w x label bit)
wrote_coder w x label bit h =
    let row = row_in_range (slice_index_or x.rows label 0) in
    let qe : ℕ = (mq_row_of x label).qe in
    let low = h.low in
    let most = row.most in
    let less : (mq_row_of x label).qe < w.a = omega arith in
    let coding = part_coding w (mq_row_of x label).qe (mq_is_mps x label bit) row.some less h.coding in
    let some = coding.bounded.some in
    renormalized_coder 15 (mq_part w (mq_row_of x label).qe (mq_is_mps x label bit)) coding (part_below w (mq_row_of x label).qe (mq_is_mps x label bit) less h.high) (omega arith)

pub start_coder : IsCoder mq_writer
start_coder = record {
  coding = record {
    bounded = record { some = omega arith; width = omega arith; ct = omega arith; room = omega arith; given = refl; tight = λ full. omega arith };
    due = omega arith;
  };
  low = omega arith;
  high = omega arith;
}

pub end_coder : (w : MqWriter) (x : MqContexts) (given : List MqGiven) → IsCoder w → IsCoder (mq_written_from w x given).writer
end_coder w x [] h = h
end_coder w x (Decided label bit ∷ given) h = end_coder (mq_wrote w x label bit) (mq_after_bit w x label bit) given (wrote_coder w x label bit h)
end_coder w x (Renewed ∷ given) h = end_coder w mq_fresh given h

pub now_coding : (w : MqWriter) (x : MqContexts) (label : ℕ) (bit : Bool) → IsCoder w → IsCoding (mq_part w (mq_row_of x label).qe (mq_is_mps x label bit))
now_coding w x label bit h =
    let row = row_in_range (slice_index_or x.rows label 0) in
    let low = h.low in
    let most = row.most in
    part_coding w (mq_row_of x label).qe (mq_is_mps x label bit) row.some (omega arith) h.coding

fits_either : (test : Bool) (x y w : MqWriter) (byte : ℕ → ℕ) (last : ℕ) → (FitsIn x byte last → FitsIn w byte last) → (FitsIn y byte last → FitsIn w byte last) →
    FitsIn (if test then x else y) byte last → FitsIn w byte last
fits_either true x y w byte last p q h = p h
fits_either false x y w byte last p q h = q h

low_back : (w : MqWriter) (qe : ℕ) (byte : ℕ → ℕ) (last : ℕ) → qe ≤ w.a → FitsIn (mq_lower w qe) byte last → FitsIn w byte last
unfolding FitsIn
low_back w qe byte last most h = (h.0, (h.1.0, fits_lower w qe byte last h.0 most h.1.1))

high_back : (w : MqWriter) (qe : ℕ) (byte : ℕ → ℕ) (last : ℕ) → qe ≤ w.a → FitsIn (mq_upper w qe) byte last → FitsIn w byte last
unfolding FitsIn
high_back w qe byte last most h = (h.0, (h.1.0, fits_upper w qe byte last h.0 most h.1.1))

part_back : (w : MqWriter) (qe : ℕ) (is_mps : Bool) (byte : ℕ → ℕ) (last : ℕ) → qe ≤ w.a → FitsIn (mq_part w qe is_mps) byte last → FitsIn w byte last
part_back w qe true byte last most h =
    fits_either (ltb (w.a - qe) qe) (mq_lower w qe) (mq_upper w qe) w byte last (low_back w qe byte last most) (high_back w qe byte last most) h
part_back w qe false byte last most h =
    fits_either (ltb (w.a - qe) qe) (mq_upper w qe) (mq_lower w qe) w byte last (high_back w qe byte last most) (low_back w qe byte last most) h

-- the finished bytes lie in the interval of every state on the way
pub fits_all : (w : MqWriter) (x : MqContexts) (given : List MqGiven) (byte : ℕ → ℕ) (last : ℕ) → IsCoder w → front byte last ≡ mq_flushed (mq_written_from w x given).writer → FitsIn w byte last
fits_all w x [] byte last h is = flush_fits w h byte last is
fits_all w x (Decided label bit ∷ given) byte last h is =
    let row = row_in_range (slice_index_or x.rows label 0) in
    let low = h.low in
    let most = row.most in
    let after : FitsIn (mq_wrote w x label bit) byte last = fits_all (mq_wrote w x label bit) (mq_after_bit w x label bit) given byte last (wrote_coder w x label bit h) is in
    part_back w (mq_row_of x label).qe (mq_is_mps x label bit) byte last (omega arith)
    (fits_renormalized 15 (mq_part w (mq_row_of x label).qe (mq_is_mps x label bit)) byte last (now_coding w x label bit h) after)
fits_all w x (Renewed ∷ given) byte last h is = fits_all w mq_fresh given byte last h is

bit_again : (mps bit : Bool) → (if (if mps then bit else not bit) then mps else not mps) ≡ bit
bit_again true true = refl
bit_again true false = refl
bit_again false true = refl
bit_again false false = refl

pub record IsReadBack (d : MqDecisions) (bits : List Bool) (contexts : MqContexts) : Type 0 where
  pub bits_are : d.bits ≡ bits
  pub contexts_are : d.contexts ≡ contexts

read_more : (s : List ℕ) (w : MqWriter) (r : MqReader) (x : MqContexts) (label : ℕ) (bit : Bool) (given : List MqGiven) (asked : List MqAsked) (contexts : MqContexts) → r.a ≡ w.a →
    mq_reads_mps r (mq_row_of x label).qe ≡ mq_is_mps x label bit →
    IsReadBack (mq_decisions_from s (mq_read s r (mq_row_of x label).qe) (mq_after_bit w x label bit) asked) (mq_bits given) contexts →
    IsReadBack (mq_decisions_from s r x (Under label ∷ asked)) (bit ∷ mq_bits given) contexts
read_more s w r x label bit given asked contexts a decision rest =
    let after : mq_after r x label ≡ mq_after_bit w x label bit = rw (decision, a) refl in
    let here : mq_bit r x label ≡ bit = rw decision (bit_again (mq_mps x label) bit) in
    record {
      bits_are = rw (here, after, rest.bits_are) refl;
      contexts_are = rw after rest.contexts_are;
    }

-- the decisions are read as they were written, from states that follow each other
follows_all : (given : List MqGiven) (s : List ℕ) (w : MqWriter) (x : MqContexts) (r : MqReader) (last v : ℕ) → IsSegment (mq_byte s) last → IsCoder w →
    front (mq_byte s) last ≡ mq_flushed (mq_written_from w x given).writer → Follows w r (mq_byte s) last v →
    IsReadBack (mq_decisions_from s r x (mq_asked given)) (mq_bits given) (mq_written_from w x given).contexts
follows_all [] s w x r last v segment h is f = record { bits_are = refl; contexts_are = refl }
follows_all (Decided label bit ∷ given) s w x r last v segment h is f =
    let qe : ℕ = (mq_row_of x label).qe in
    let part : MqWriter = mq_part w (mq_row_of x label).qe (mq_is_mps x label bit) in
    let coding = now_coding w x label bit h in
    let coder = wrote_coder w x label bit h in
    let after : FitsIn (mq_wrote w x label bit) (mq_byte s) last = fits_all (mq_wrote w x label bit) (mq_after_bit w x label bit) given (mq_byte s) last coder is in
    let now : FitsIn (mq_part w (mq_row_of x label).qe (mq_is_mps x label bit)) (mq_byte s) last =
    fits_renormalized 15 (mq_part w (mq_row_of x label).qe (mq_is_mps x label bit)) (mq_byte s) last coding after in
    let decision = decides w r (mq_byte s) last v (mq_row_of x label).qe (mq_is_mps x label bit) coding now f in
    let next = renormalization_follows 15 s (mq_part w (mq_row_of x label).qe (mq_is_mps x label bit)) (mq_chosen r (mq_row_of x label).qe) last v segment coding after decision.follows in
    read_more s w r x label bit given (mq_asked given) (mq_written_from (mq_wrote w x label bit) (mq_after_bit w x label bit) given).contexts f.a decision.decision
    (follows_all given s (mq_wrote w x label bit) (mq_after_bit w x label bit) (mq_read s r (mq_row_of x label).qe) last next.v segment coder is next.follows)
follows_all (Renewed ∷ given) s w x r last v segment h is f = follows_all given s w mq_fresh r last v segment h is f

-- the decoder's registers before its first byte in, and the scale in which they stand
unfoldable pub first_reader : List ℕ → MqReader
first_reader s = record { a = 32768; c = mq_byte s 0 * 65536; ct = 0; place = 0; looked = 1 }

first_writer : MqWriter
first_writer = coder 32768 0 19 (0 ∷ [])

first_follows : (s : List ℕ) (last : ℕ) → IsSegment (mq_byte s) last → Follows first_writer (first_reader s) (mq_byte s) last (mq_byte s 0)
unfolding first_writer first_reader Taken
first_follows s last segment = record {
  a = refl;
  code = omega arith;
  ct = omega arith;
  taken = inl (record { within = segment.some; v_is = omega arith; t_is = refl });
}

moved_code : (c v ct : ℕ) → 7 ≤ ct → ct ≤ 8 → c + 0 * 65536 ≡ v * 2 ^ (16 - ct) → c * 128 + 0 * 65536 ≡ v * 2 ^ (16 - (ct - 7))
moved_code c v ct least most code =
    let e : 16 - (ct - 7) ≡ 7 + (16 - ct) = omega arith in
    let f : v * 2 ^ (7 + (16 - ct)) ≡ (v * 2 ^ (16 - ct)) * 128 = rw pow-add (grind arith) in
    rw (e, f, ← code) (omega arith)

moved_follows : (s : List ℕ) (r : MqReader) (last v : ℕ) → 7 ≤ r.ct → r.c < 33554432 → Follows first_writer r (mq_byte s) last v →
    Follows mq_writer (record r { c = r.c * 128 % 4294967296; ct = r.ct - 7 }) (mq_byte s) last v
unfolding first_writer
moved_follows s r last v least room f =
    let less : r.c * 128 < 4294967296 = omega arith in
    let ct = f.ct in
    let places : 23 + (r.ct - 7) ≡ 16 + r.ct = omega arith in
    rw (mod-eq_of_lt less) (record {
      a = f.a;
      code = moved_code r.c v r.ct least f.ct f.code;
      ct = omega arith;
      taken = rw places f.taken;
    })

pub start_follows : (s : List ℕ) (last : ℕ) → IsSegment (mq_byte s) last → FollowsOn mq_writer (mq_reader s) (mq_byte s) last
unfolding first_reader
start_follows s last segment =
    let fits = byte_fits (mq_byte s) last 0 segment in
    let fed = feed s first_writer (first_reader s) last (mq_byte s 0) segment refl (omega arith) (first_follows s last segment) in
    let less : (mq_byte_in s (first_reader s)).c < mq_byte s 0 * 65536 + 131072 = fed.less in
    record { v = fed.v; follows = moved_follows s (mq_byte_in s (first_reader s)) last fed.v fed.some (omega arith) fed.follows }

long_at : (w after : MqWriter) → HasGivenOut w after → (last : ℕ) × ((0 < last) × (suc last ≡ length after.bytes))
unfolding HasGivenOut
long_at w after g =
    let older : List ℕ = g.1.1.1.0 in
    (suc (length g.1.1.1.0), (omega arith, rw g.1.1.1.1.bytes refl))

-- a flush gives out at least one byte
pub flushed_long : (w : MqWriter) → IsCoder w → (last : ℕ) × ((0 < last) × (suc last ≡ length (mq_flushed w)))
flushed_long w h =
    let long = long_at (widened (flushed_first w)) (flushed_second w) (second_out w h) in
    (long.0, (long.1.0, long.1.1 ∙ ap (λ (bytes : List ℕ). length bytes) (sym (flushed_is w))))

read_back_at : (x : MqContexts) (given : List MqGiven) (w : MqWriter) (bytes : List ℕ) (last : ℕ) → mq_flushed (mq_written_from mq_writer x given).writer ≡ bytes → AreGiven bytes → 0 < last → suc last ≡ length bytes →
    IsReadBack (mq_decisions (in_order (mq_trimmed bytes)) x (mq_asked given)) (mq_bits given) (mq_contexts_after x given)
read_back_at x given w bytes last e h some long =
    let segment = segment_of bytes last h some long in
    let is : front (mq_byte (in_order (mq_trimmed bytes))) last ≡ mq_flushed (mq_written_from mq_writer x given).writer = trimmed_front bytes last h long ∙ sym e in
    let start = start_follows (in_order (mq_trimmed bytes)) last segment in
    follows_all given (in_order (mq_trimmed bytes)) mq_writer x (mq_reader (in_order (mq_trimmed bytes))) last start.v segment start_coder is start.follows

-- what was written of a list, from any contexts, is read back from the same
pub read_back : (x : MqContexts) (given : List MqGiven) → IsReadBack (mq_decisions (mq_write x given) x (mq_asked given)) (mq_bits given) (mq_contexts_after x given)
read_back x given =
    let w : MqWriter = (mq_written_from mq_writer x given).writer in
    let h : IsCoder (mq_written_from mq_writer x given).writer = end_coder mq_writer x given start_coder in
    let long = flushed_long (mq_written_from mq_writer x given).writer h in
    read_back_at x given mq_writer (mq_flushed (mq_written_from mq_writer x given).writer) long.0 refl (flushed_given (mq_written_from mq_writer x given).writer h) long.1.0 long.1.1

pub write_no_marker : (x : MqContexts) (given : List MqGiven) → HasNoMarker 0 (mq_write x given)
write_no_marker x given =
    let h : IsCoder (mq_written_from mq_writer x given).writer = end_coder mq_writer x given start_coder in
    trimmed_markers (mq_flushed (mq_written_from mq_writer x given).writer) (flushed_given (mq_written_from mq_writer x given).writer h)

-- and so are many segments, each from the contexts that the one before it left
pub read_back_each : (x : MqContexts) (lists : List (List MqGiven)) → mq_bits_each x (mq_write_each x lists) (map mq_asked lists) ≡ map mq_bits lists
read_back_each x [] = refl
read_back_each x (given ∷ lists) =
    let here = read_back x given in
    rw (here.bits_are, here.contexts_are, read_back_each (mq_contexts_after x given) lists) refl

pub written_in_parts : (first more : List MqGiven) (w : MqWriter) (x : MqContexts) →
    mq_written_from w x (first ++ more) ≡ mq_written_from (mq_written_from w x first).writer (mq_written_from w x first).contexts more
written_in_parts [] more w x = refl
written_in_parts (Decided label bit ∷ first) more w x = written_in_parts first more (mq_wrote w x label bit) (mq_after_bit w x label bit)
written_in_parts (Renewed ∷ first) more w x = written_in_parts first more w mq_fresh

pub contexts_back_each : (x : MqContexts) (lists : List (List MqGiven)) → mq_contexts_each x (mq_write_each x lists) (map mq_asked lists) ≡ mq_contexts_left x lists
contexts_back_each x [] = refl
contexts_back_each x (given ∷ lists) =
    let here = read_back x given in
    rw here.contexts_are (contexts_back_each (mq_contexts_after x given) lists)
