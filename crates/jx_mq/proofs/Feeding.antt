-- A byte taken by the decoder, and a shift of both registers.
use Rattle.std.proofs.Common.{◌≡◌, ◌≢◌, ◌<◌, ◌≤◌, ◌+◌, ◌-◌, ◌*◌, ◌%◌, ◌^◌, ℕ, zero, suc, List, refl, ◌∙◌, add-one, arith, ◌⊎◌, inl, inr}
use Rattle.std.proofs.lemmas.Bool.{cases_lt, cases_eq, lt-ltb, le-ltb, ne_eqb, eq-eqb}
use Rattle.std.proofs.lemmas.Nat.{pow-add}
use Rattle.std.proofs.Math.Nat.{two-pow-succ, mod-eq_of_lt}
use Rattle.jx_coder_specs.specs.MqReading.{MqReader, mq_byte, mq_byte_in, mq_shifted_in, mq_refilled}
use Rattle.jx_coder_specs.specs.MqWriting.{MqWriter, mq_byte_out, mq_shifted, mq_renormalized}
use Rattle.jx_mq.specs.Coding.{IsCoding}
use Rattle.jx_mq.specs.Fraction.{span, value, low, scale, front}
use Rattle.jx_mq.proofs.Bounds.{coder, shifted_coding}
use Rattle.jx_mq.proofs.Renormals.{renormalized_more, renormalized_done}
use Rattle.jx_mq.proofs.Refills.{refilled_more, refilled_done}
use Rattle.jx_mq.proofs.Ends.{HasGivenOut, gives_out, doubled_ends}
use Rattle.jx_mq.proofs.Fitting.{FitsIn, fits_shifted, fits_renormalized}
use Rattle.jx_mq.proofs.Fronts.{IsSegment, byte_fits, stuffed_fits, Inside, Past, Taken}
use Rattle.jx_mq.proofs.Following.{Follows, follows_below}

in_marker : (s : List ℕ) (r : MqReader) → r.c < 2147483648 → mq_byte s r.place ≡ 255 → 143 < mq_byte s (suc r.place) →
    mq_byte_in s r ≡ record r { c = r.c + 65280; ct = 8; looked = r.place + 2 }
in_marker s r room ff high =
    let less : r.c + 65280 < 4294967296 = omega arith in
    rw (eq-eqb (mq_byte s r.place) 255 ff, add-one r.place, lt-ltb 143 (mq_byte s (suc r.place)) high, mod-eq_of_lt less) refl

in_stuffed : (s : List ℕ) (r : MqReader) → r.c < 2147483648 → mq_byte s r.place ≡ 255 → mq_byte s (suc r.place) ≤ 143 →
    mq_byte_in s r ≡ record r { c = r.c + mq_byte s (suc r.place) * 512; ct = 7; place = suc r.place; looked = r.place + 2 }
in_stuffed s r room ff small =
    let less : r.c + mq_byte s (suc r.place) * 512 < 4294967296 = omega arith in
    rw (eq-eqb (mq_byte s r.place) 255 ff, add-one r.place, le-ltb 143 (mq_byte s (suc r.place)) small, mod-eq_of_lt less) refl

in_plain : (s : List ℕ) (r : MqReader) → r.c < 2147483648 → mq_byte s r.place ≢ 255 → mq_byte s (suc r.place) < 256 →
    mq_byte_in s r ≡ record r { c = r.c + mq_byte s (suc r.place) * 256; ct = 8; place = suc r.place; looked = r.place + 2 }
in_plain s r room ne fits =
    let less : r.c + mq_byte s (suc r.place) * 256 < 4294967296 = omega arith in
    rw (ne_eqb (mq_byte s r.place) 255 ne, add-one r.place, mod-eq_of_lt less) refl

-- a byte was taken
pub record Fed (w : MqWriter) (r : MqReader) (byte : ℕ → ℕ) (last most : ℕ) : Type 0 where
  pub v : ℕ
  pub follows : Follows w r byte last v
  pub some : 7 ≤ r.ct
  pub less : r.c < most + 131072

span_ff : (b : ℕ) → b ≡ 255 → span b ≡ 7
span_ff b e = rw (eq-eqb b 255 e) refl

span_other : (b : ℕ) → b ≢ 255 → span b ≡ 8
span_other b ne = rw (ne_eqb b 255 ne) refl

fed_stuffed : (s : List ℕ) (w : MqWriter) (r : MqReader) (last v : ℕ) → r.ct ≡ 0 → r.c < 2147483648 → mq_byte s r.place ≡ 255 → mq_byte s (suc r.place) ≤ 143 → suc r.place < last →
    Inside (mq_byte s) last r.place v (scale w + 0) → r.a ≡ w.a → r.c + low w * 65536 ≡ v * 65536 → Fed w (mq_byte_in s r) (mq_byte s) last r.c
unfolding Taken
fed_stuffed s w r last v none room ff small within inside a code =
    let t_is = inside.t_is in
    let widths = span_ff (mq_byte s r.place) ff in
    rw (in_stuffed s r room ff small) (record {
      v = v * 128 + mq_byte s (suc r.place);
      follows = record {
        a = a;
        code = omega arith;
        ct = omega arith;
        taken = inl (record {
          within = within;
          v_is = rw (widths, ← inside.v_is) refl;
          t_is = rw (widths, ← inside.t_is) (omega arith);
        });
      };
      some = omega arith;
      less = omega arith;
    })

fed_plain : (s : List ℕ) (w : MqWriter) (r : MqReader) (last v : ℕ) → r.ct ≡ 0 → r.c < 2147483648 → mq_byte s r.place ≢ 255 → mq_byte s (suc r.place) < 256 → suc r.place < last →
    Inside (mq_byte s) last r.place v (scale w + 0) → r.a ≡ w.a → r.c + low w * 65536 ≡ v * 65536 → Fed w (mq_byte_in s r) (mq_byte s) last r.c
unfolding Taken
fed_plain s w r last v none room ne fits within inside a code =
    let widths = span_other (mq_byte s r.place) ne in
    rw (in_plain s r room ne fits) (record {
      v = v * 256 + mq_byte s (suc r.place);
      follows = record {
        a = a;
        code = omega arith;
        ct = omega arith;
        taken = inl (record {
          within = within;
          v_is = rw (widths, ← inside.v_is) refl;
          t_is = rw (widths, ← inside.t_is) (omega arith);
        });
      };
      some = omega arith;
      less = omega arith;
    })

-- the first byte past the end after one that isn't FF
fed_end : (s : List ℕ) (w : MqWriter) (r : MqReader) (last v : ℕ) → r.ct ≡ 0 → r.c < 2147483648 → mq_byte s r.place ≢ 255 → mq_byte s (suc r.place) ≡ 255 → mq_byte s (suc (suc r.place)) ≡ 255 → suc r.place ≡ last →
    Inside (mq_byte s) last r.place v (scale w + 0) → r.a ≡ w.a → r.c + low w * 65536 ≡ v * 65536 → Fed w (mq_byte_in s r) (mq_byte s) last r.c
unfolding Taken
fed_end s w r last v none room ne next then_next here inside a code =
    let t_is = inside.t_is in
    let v_is = inside.v_is in
    let fits : mq_byte s (suc r.place) < 256 = omega arith in
    rw (in_plain s r room ne fits, next) (record {
      v = v * 256 + 255;
      follows = record {
        a = a;
        code = omega arith;
        ct = omega arith;
        taken = inr (record {
          here = next;
          next = then_next;
          ones = 8;
          v_is = rw (← here, ← inside.v_is) (omega arith);
          t_is = rw (← here, ← inside.t_is) (omega arith);
        });
      };
      some = omega arith;
      less = omega arith;
    })

-- the end after FF
fed_marker : (s : List ℕ) (w : MqWriter) (r : MqReader) (last v : ℕ) → r.ct ≡ 0 → r.c < 2147483648 → mq_byte s r.place ≡ 255 → mq_byte s (suc r.place) ≡ 255 → suc r.place ≡ last →
    Inside (mq_byte s) last r.place v (scale w + 0) → r.a ≡ w.a → r.c + low w * 65536 ≡ v * 65536 → Fed w (mq_byte_in s r) (mq_byte s) last r.c
unfolding Taken
fed_marker s w r last v none room ff next here inside a code =
    rw (in_marker s r room ff (omega arith)) (record {
      v = v * 256 + 255;
      follows = record {
        a = a;
        code = omega arith;
        ct = omega arith;
        taken = inr (record {
          here = ff;
          next = next;
          ones = 8;
          v_is = rw (← here, ← inside.v_is) (omega arith);
          t_is = rw (← here, ← inside.t_is) (omega arith);
        });
      };
      some = omega arith;
      less = omega arith;
    })

more_ones : (v vl j : ℕ) → v + 1 ≡ (vl + 1) * 2 ^ j → v * 256 + 255 + 1 ≡ (vl + 1) * 2 ^ (j + 8)
more_ones v vl j e =
    let a : (vl + 1) * 2 ^ (j + 8) ≡ ((vl + 1) * 2 ^ j) * 256 = rw pow-add (grind arith) in
    rw (a, ← e) (omega arith)

fed_past : (s : List ℕ) (w : MqWriter) (r : MqReader) (last v : ℕ) → r.ct ≡ 0 → r.c < 2147483648 →
    Past (mq_byte s) last r.place v (scale w + 0) → r.a ≡ w.a → r.c + low w * 65536 ≡ v * 65536 → Fed w (mq_byte_in s r) (mq_byte s) last r.c
unfolding Taken
fed_past s w r last v none room past a code =
    let next = past.next in
    let t_is = past.t_is in
    rw (in_marker s r room past.here (omega arith)) (record {
      v = v * 256 + 255;
      follows = record {
        a = a;
        code = omega arith;
        ct = omega arith;
        taken = inr (record {
          here = past.here;
          next = past.next;
          ones = past.ones + 8;
          v_is = more_ones v (value (front (mq_byte s) last)) past.ones past.v_is;
          t_is = omega arith;
        });
      };
      some = omega arith;
      less = omega arith;
    })

feed_inside : (s : List ℕ) (w : MqWriter) (r : MqReader) (last v : ℕ) → IsSegment (mq_byte s) last → r.ct ≡ 0 → r.c < 2147483648 →
    Inside (mq_byte s) last r.place v (scale w + 0) → r.a ≡ w.a → r.c + low w * 65536 ≡ v * 65536 → Fed w (mq_byte_in s r) (mq_byte s) last r.c
feed_inside s w r last v segment none room inside a code =
    let within = inside.within in
    elim (cases_eq (mq_byte s r.place) 255) [
      | inl ff ↦
          elim (cases_lt (suc r.place) last) [
            | inl more ↦ fed_stuffed s w r last v none room ff (stuffed_fits (mq_byte s) last r.place segment more ff) more inside a code
            | inr end ↦ fed_marker s w r last v none room ff (segment.tail (suc r.place) end) (omega arith) inside a code
          ]
      | inr ne ↦
          elim (cases_lt (suc r.place) last) [
            | inl more ↦ fed_plain s w r last v none room ne (byte_fits (mq_byte s) last (suc r.place) segment) more inside a code
            | inr end ↦ fed_end s w r last v none room ne (segment.tail (suc r.place) end) (segment.tail (suc (suc r.place)) (omega arith)) (omega arith) inside a code
          ]
    ]

-- at CT 0 a byte is taken, and the decoder goes on to follow
pub feed : (s : List ℕ) (w : MqWriter) (r : MqReader) (last v : ℕ) → IsSegment (mq_byte s) last → r.ct ≡ 0 → r.c < 2147483648 → Follows w r (mq_byte s) last v →
    Fed w (mq_byte_in s r) (mq_byte s) last r.c
unfolding Taken
feed s w r last v segment none room f =
    let code : r.c + low w * 65536 ≡ v * 2 ^ (16 - 0) = rw none at f.code in
    let taken : Inside (mq_byte s) last r.place v (scale w + 0) ⊎ Past (mq_byte s) last r.place v (scale w + 0) = rw none at f.taken in
    elim taken [
      | inl inside ↦ feed_inside s w r last v segment none room inside f.a code
      | inr past ↦ fed_past s w r last v none room past f.a code
    ]

-- what a shift of the encoder does to its interval
pub record Doubles (w after : MqWriter) : Type 0 where
  pub a : after.a ≡ 2 * w.a
  pub low_is : low after ≡ 2 * low w
  pub scale_is : scale after ≡ suc (scale w)

given_doubles : (w moved after : MqWriter) → HasGivenOut moved after → Doubles w moved → Doubles w after
unfolding HasGivenOut
given_doubles w moved after g h =
    let out = g.1.1.1.1 in
    record { a = out.a ∙ h.a; low_is = out.low_is ∙ h.low_is; scale_is = out.scale_is ∙ h.scale_is }

pub shifted_doubles : (w : MqWriter) → w.a < 32768 → IsCoding w → Doubles w (mq_shifted w)
shifted_doubles w less h =
    let b = h.bounded in
    let ends = doubled_ends w h.due b.ct in
    let moved : MqWriter = coder (2 * w.a) (2 * w.c) (w.ct - 1) w.bytes in
    let doubles : Doubles w (coder (2 * w.a) (2 * w.c) (w.ct - 1) w.bytes) = record { a = refl; low_is = ends.0; scale_is = ends.1 } in
    elim (cases_eq (w.ct - 1) 0) [
      | inl none ↦ rw (eq-eqb (w.ct - 1) 0 none)
          (given_doubles w moved (mq_byte_out moved) (gives_out (2 * w.a) (2 * w.c) (w.ct - 1) w.bytes none b.given) doubles)
      | inr ne ↦ rw (ne_eqb (w.ct - 1) 0 ne) doubles
    ]

doubled_code : (c l v ct : ℕ) → 0 < ct → ct ≤ 8 → c + l * 65536 ≡ v * 2 ^ (16 - ct) → 2 * c + 2 * l * 65536 ≡ v * 2 ^ (16 - (ct - 1))
doubled_code c l v ct some most code =
    let e : 16 - (ct - 1) ≡ suc (16 - ct) = omega arith in
    let f : v * 2 ^ suc (16 - ct) ≡ 2 * (v * 2 ^ (16 - ct)) = rw two-pow-succ (grind arith) in
    rw (e, f, ← code) (omega arith)

-- both registers shifted
both_doubled : (w after : MqWriter) (r : MqReader) (byte : ℕ → ℕ) (last v : ℕ) → Doubles w after → 0 < r.ct → r.c < 2147483648 → Follows w r byte last v →
    Follows after (record r { a = 2 * r.a; c = 2 * r.c % 4294967296; ct = r.ct - 1 }) byte last v
both_doubled w after r byte last v d some room f =
    let less : 2 * r.c < 4294967296 = omega arith in
    let places : suc (scale w) + (r.ct - 1) ≡ scale w + r.ct = omega arith in
    let ct = f.ct in
    rw (mod-eq_of_lt less) (record {
      a = rw (d.a, f.a) refl;
      code = rw d.low_is (doubled_code r.c (low w) v r.ct some f.ct f.code);
      ct = omega arith;
      taken = rw (d.scale_is, places) f.taken;
    })

pub record FollowsOn (w : MqWriter) (r : MqReader) (byte : ℕ → ℕ) (last : ℕ) : Type 0 where
  pub v : ℕ
  pub follows : Follows w r byte last v

-- a shift of the decoder follows a shift of the encoder
pub shift_follows : (s : List ℕ) (w : MqWriter) (r : MqReader) (last v : ℕ) → IsSegment (mq_byte s) last → IsCoding w → w.a < 32768 → FitsIn w (mq_byte s) last → Follows w r (mq_byte s) last v →
    FollowsOn (mq_shifted w) (mq_shifted_in s r) (mq_byte s) last
shift_follows s w r last v segment h less fits f =
    let d = shifted_doubles w less h in
    let room = follows_below w r (mq_byte s) last v h fits f in
    elim (cases_eq r.ct 0) [
      | inl none ↦
          let fed = feed s w r last v segment none (omega arith) f in
          let some = fed.some in
          let after = follows_below w (mq_byte_in s r) (mq_byte s) last fed.v h fits fed.follows in
          rw (eq-eqb r.ct 0 none) (record { v = fed.v; follows = both_doubled w (mq_shifted w) (mq_byte_in s r) (mq_byte s) last fed.v d (omega arith) (omega arith) fed.follows })
      | inr ne ↦ rw (ne_eqb r.ct 0 ne) (record { v = v; follows = both_doubled w (mq_shifted w) r (mq_byte s) last v d (omega arith) (omega arith) f })
    ]

-- and so does a renormalization
pub renormalization_follows : (n : ℕ) (s : List ℕ) (w : MqWriter) (r : MqReader) (last v : ℕ) → IsSegment (mq_byte s) last → IsCoding w → FitsIn (mq_renormalized n w) (mq_byte s) last → Follows w r (mq_byte s) last v →
    FollowsOn (mq_renormalized n w) (mq_refilled s n r) (mq_byte s) last
unfolding mq_renormalized mq_refilled
renormalization_follows zero s w r last v segment h fits f = record { v = v; follows = f }
renormalization_follows (suc n) s w r last v segment h fits f =
    elim (cases_lt w.a 32768) [
      | inl less ↦
          let more : FitsIn (mq_renormalized n (mq_shifted w)) (mq_byte s) last = rw (renormalized_more n w less) at fits in
          let coding = shifted_coding w less h in
          let now : FitsIn w (mq_byte s) last = fits_shifted w (mq_byte s) last less h (fits_renormalized n (mq_shifted w) (mq_byte s) last coding more) in
          let next = shift_follows s w r last v segment h less now f in
          let same : r.a < 32768 = rw f.a less in
          rw (renormalized_more n w less, refilled_more s n r same)
          (renormalization_follows n s (mq_shifted w) (mq_shifted_in s r) last next.v segment coding more next.follows)
      | inr most ↦
          let same : 32768 ≤ r.a = rw f.a most in
          rw (renormalized_done (suc n) w most, refilled_done s (suc n) r same) (record { v = v; follows = f })
    ]
