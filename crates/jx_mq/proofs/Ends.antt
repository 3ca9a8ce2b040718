-- What a shift and a byte given out do to the ends of the interval.
use Rattle.std.proofs.Common.{◌≡◌, ◌≢◌, ◌<◌, ◌≤◌, ◌+◌, ◌-◌, ◌*◌, ◌/◌, ◌%◌, ◌^◌, ℕ, suc, List, [], ◌∷◌, refl, ◌∙◌, arith, inl, inr}
use Rattle.std.proofs.lemmas.Bool.{cases_lt, cases_eq, lt-ltb, le-ltb, ne_eqb, eq-eqb}
use Rattle.std.proofs.Math.Nat.{two-pow-succ}
use Rattle.jx_coder_specs.specs.MqWriting.{MqWriter, mq_newest, mq_plain, mq_stuffed, mq_byte_out}
use Rattle.jx_mq.specs.Coding.{AreGiven}
use Rattle.jx_mq.specs.Fraction.{span, value, low, scale}
use Rattle.jx_mq.proofs.Bounds.{coder}

-- a byte was given out, and the one before it may have taken a carry
pub record GivesOut (w after : MqWriter) (newest byte before : ℕ) (older : List ℕ) : Type 0 where
  pub was : w.bytes ≡ newest ∷ older
  pub bytes : after.bytes ≡ byte ∷ before ∷ older
  pub least : newest ≤ before
  pub most : before ≤ newest + 1
  pub a : after.a ≡ w.a
  pub low_is : low after ≡ low w
  pub scale_is : scale after ≡ scale w
  pub rest : after.c < 2 ^ (27 - after.ct)
  pub ct_least : 7 ≤ after.ct
  pub ct_most : after.ct ≤ 8

plain_low : (v c : ℕ) → (v * 256 + c / 524288) * 524288 + c % 524288 ≡ v * 134217728 + c
plain_low v c = omega arith

stuffed_low : (v c : ℕ) → (v * 128 + c / 1048576) * 1048576 + c % 1048576 ≡ v * 134217728 + c
stuffed_low v c = omega arith

raised_low : (v c : ℕ) → 134217728 ≤ c → (v + 1) * 134217728 + (c - 134217728) ≡ v * 134217728 + c
raised_low v c carry = omega arith

raised_value : (v byte : ℕ) → v + (byte + 1) ≡ (v + byte) + 1
raised_value v byte = omega arith

plain_gives : (a c byte : ℕ) (older : List ℕ) → byte ≢ 255 →
    GivesOut (coder a c 0 (byte ∷ older)) (mq_plain (coder a c 0 (byte ∷ older))) byte (c / 524288) byte older
plain_gives a c byte older ne = record {
  was = refl;
  bytes = refl;
  least = omega arith;
  most = omega arith;
  a = refl;
  low_is = rw (ne_eqb byte 255 ne) (plain_low (value (byte ∷ older)) c);
  scale_is = rw (ne_eqb byte 255 ne) (omega arith);
  rest = omega arith;
  ct_least = omega arith;
  ct_most = omega arith;
}

stuffed_gives : (a c byte : ℕ) (older : List ℕ) → byte ≡ 255 →
    GivesOut (coder a c 0 (byte ∷ older)) (mq_stuffed (coder a c 0 (byte ∷ older))) byte (c / 1048576) byte older
stuffed_gives a c byte older ff = record {
  was = refl;
  bytes = refl;
  least = omega arith;
  most = omega arith;
  a = refl;
  low_is = rw (eq-eqb byte 255 ff) (stuffed_low (value (byte ∷ older)) c);
  scale_is = rw (eq-eqb byte 255 ff) (omega arith);
  rest = omega arith;
  ct_least = omega arith;
  ct_most = omega arith;
}

-- the carry moved from C into the newest byte
carried_gives : (a c byte next : ℕ) (older : List ℕ) (after : MqWriter) → 134217728 ≤ c →
    GivesOut (coder a (c - 134217728) 0 ((byte + 1) ∷ older)) after (byte + 1) next (byte + 1) older → GivesOut (coder a c 0 (byte ∷ older)) after byte next (byte + 1) older
carried_gives a c byte next older after carry h =
    let same : low (coder a (c - 134217728) 0 ((byte + 1) ∷ older)) ≡ low (coder a c 0 (byte ∷ older)) =
    rw (raised_value (value older * 2 ^ span (mq_newest older)) byte) (raised_low (value (byte ∷ older)) c carry) in
    record {
      was = refl;
      bytes = h.bytes;
      least = omega arith;
      most = omega arith;
      a = h.a;
      low_is = h.low_is ∙ same;
      scale_is = h.scale_is;
      rest = h.rest;
      ct_least = h.ct_least;
      ct_most = h.ct_most;
    }

unfoldable pub HasGivenOut : MqWriter → MqWriter → Type 0
HasGivenOut w after = (newest : ℕ) × ((byte : ℕ) × ((before : ℕ) × ((older : List ℕ) × GivesOut w after newest byte before older)))

gives_at : (a c byte : ℕ) (older : List ℕ) → HasGivenOut (coder a c 0 (byte ∷ older)) (mq_byte_out (coder a c 0 (byte ∷ older)))
unfolding HasGivenOut
gives_at a c byte older =
    elim (cases_eq byte 255) [
      | inl ff ↦ rw (eq-eqb byte 255 ff) (byte, (c / 1048576, (byte, (older, stuffed_gives a c byte older ff))))
      | inr ne ↦
          elim (cases_lt c 134217728) [
            | inl less ↦ rw (ne_eqb byte 255 ne, lt-ltb c 134217728 less) (byte, (c / 524288, (byte, (older, plain_gives a c byte older ne))))
            | inr carry ↦
                elim (cases_eq (byte + 1) 255) [
                  | inl ff ↦ rw (ne_eqb byte 255 ne, le-ltb c 134217728 carry, eq-eqb (byte + 1) 255 ff)
                      (byte, ((c - 134217728) / 1048576, (byte + 1, (older, carried_gives a c byte _ older _ carry (stuffed_gives a (c - 134217728) (byte + 1) older ff)))))
                  | inr more ↦ rw (ne_eqb byte 255 ne, le-ltb c 134217728 carry, ne_eqb (byte + 1) 255 more)
                      (byte, ((c - 134217728) / 524288, (byte + 1, (older, carried_gives a c byte _ older _ carry (plain_gives a (c - 134217728) (byte + 1) older more)))))
                ]
          ]
    ]

-- giving out a byte keeps both ends of the interval
pub gives_out : (a c ct : ℕ) (bytes : List ℕ) → ct ≡ 0 → AreGiven bytes → HasGivenOut (coder a c ct bytes) (mq_byte_out (coder a c ct bytes))
gives_out a c ct [] none given = absurd given
gives_out a c ct (byte ∷ older) none given = rw none (gives_at a c byte older)

doubled_low : (v c k : ℕ) → v * 2 ^ suc k + 2 * c ≡ 2 * (v * 2 ^ k + c)
doubled_low v c k = rw two-pow-succ (grind arith)

-- a shift doubles the ends and adds a place to the scale
pub doubled_ends : (w : MqWriter) → 0 < w.ct → w.ct ≤ 12 →
    (low (coder (2 * w.a) (2 * w.c) (w.ct - 1) w.bytes) ≡ 2 * low w) × (scale (coder (2 * w.a) (2 * w.c) (w.ct - 1) w.bytes) ≡ suc (scale w))
doubled_ends w some most =
    let e : 27 - (w.ct - 1) ≡ suc (27 - w.ct) = omega arith in
    (rw e (doubled_low (value w.bytes) w.c (27 - w.ct)), rw e (omega arith))
