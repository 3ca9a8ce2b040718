-- The encoder's registers stay within their bounds.
use Rattle.std.proofs.Common.{◌≡◌, ◌≢◌, ◌<◌, ◌≤◌, ◌+◌, ◌-◌, ◌*◌, ◌/◌, ◌^◌, ℕ, suc, Bool, true, false, List, [], ◌∷◌, refl, arith, ltb, inl, inr, if◌then◌else◌}
use Rattle.std.proofs.lemmas.Bool.{cases_lt, cases_eq, lt-ltb, le-ltb, ne_eqb, eq-eqb}
use Rattle.std.proofs.lemmas.Nat.{mul-le}
use Rattle.std.proofs.Math.Nat.{two-pow-succ}
use Rattle.jx_coder_specs.specs.MqWriting.{MqWriter, mq_plain, mq_stuffed, mq_byte_out, mq_shifted, mq_lower, mq_upper, mq_part}
use Rattle.jx_mq.specs.Coding.{AreGiven, IsFull, IsBounded, IsCoding}

-- at CT 0 the bounds are those of C and A
at_zero : (n ct : ℕ) → ct ≡ 0 → n * 2 ^ ct ≡ n
at_zero n ct e = rw e (omega arith)

given_more : (byte next : ℕ) (older : List ℕ) → AreGiven (byte ∷ older) → next < 256 → (byte ≡ 255 → next ≤ 143) → AreGiven (next ∷ byte ∷ older)
given_more byte next older h fits few = (fits, few, h)

-- the carry keeps what was given out in order: B isn't the byte before the first, nor 8F after FF
raised_given : (byte : ℕ) (older : List ℕ) → AreGiven (byte ∷ older) → (IsFull (byte ∷ older) → ⊥) → byte ≢ 255 → AreGiven ((byte + 1) ∷ older)
raised_given byte [] h free ne = absurd (free tt)
raised_given byte (before ∷ older) h free ne =
    let fits = h.0 in
    (omega arith, λ e. let most = h.1 e in let un : byte ≢ 143 = λ f. free (f, e) in omega arith, h.2)

abbrev pub coder : ℕ → ℕ → ℕ → List ℕ → MqWriter
coder a c ct bytes = record { a = a; c = c; ct = ct; bytes = bytes }

plain_coding : (a c ct byte : ℕ) (older : List ℕ) → 0 < a → a ≤ 65536 → c < 134217728 → AreGiven (byte ∷ older) → byte ≢ 255 →
    IsCoding (mq_plain (coder a c ct (byte ∷ older)))
plain_coding a c ct byte older some width room given ne = record {
  bounded = record {
    some = some;
    width = width;
    ct = omega arith;
    room = omega arith;
    given = given_more byte (c / 524288) older given (omega arith) (λ e. absurd (ne e));
    tight = λ full. absurd (ne full.1);
  };
  due = omega arith;
}

stuffed_coding : (a c ct byte : ℕ) (older : List ℕ) → 0 < a → a ≤ 65536 → c + a ≤ 150994944 → AreGiven (byte ∷ older) → byte ≡ 255 →
    IsCoding (mq_stuffed (coder a c ct (byte ∷ older)))
stuffed_coding a c ct byte older some width room given ff = record {
  bounded = record {
    some = some;
    width = width;
    ct = omega arith;
    room = omega arith;
    given = given_more byte (c / 1048576) older given (omega arith) (λ e. omega arith);
    tight = λ full. let top = full.0 in omega arith;
  };
  due = omega arith;
}

byte_out_at : (a c ct byte : ℕ) (older : List ℕ) → ct ≡ 0 → IsBounded (coder a c ct (byte ∷ older)) → IsCoding (mq_byte_out (coder a c ct (byte ∷ older)))
byte_out_at a c ct byte older zero_ct h =
    let room : c + a ≤ 150994944 = rw (at_zero (c + a) ct zero_ct) at h.room in
    let some = h.some in
    elim (cases_eq byte 255) [
      | inl ff ↦ rw (eq-eqb byte 255 ff) (stuffed_coding a c ct byte older h.some h.width room h.given ff)
      | inr ne ↦
          elim (cases_lt c 134217728) [
            | inl less ↦ rw (ne_eqb byte 255 ne, lt-ltb c 134217728 less) (plain_coding a c ct byte older h.some h.width less h.given ne)
            | inr carry ↦
                let free : IsFull (byte ∷ older) → ⊥ = λ full. let most : c + a ≤ 134217728 = rw (at_zero (c + a) ct zero_ct) at (h.tight full) in omega arith in
                let given : AreGiven ((byte + 1) ∷ older) = raised_given byte older h.given free ne in
                elim (cases_eq (byte + 1) 255) [
                  | inl ff ↦ rw (ne_eqb byte 255 ne, le-ltb c 134217728 carry, eq-eqb (byte + 1) 255 ff)
                      (stuffed_coding a (c - 134217728) ct (byte + 1) older h.some h.width (omega arith) given ff)
                  | inr more ↦ rw (ne_eqb byte 255 ne, le-ltb c 134217728 carry, ne_eqb (byte + 1) 255 more)
                      (plain_coding a (c - 134217728) ct (byte + 1) older h.some h.width (omega arith) given more)
                ]
          ]
    ]

pub byte_out_coding : (a c ct : ℕ) (bytes : List ℕ) → ct ≡ 0 → IsBounded (coder a c ct bytes) → IsCoding (mq_byte_out (coder a c ct bytes))
byte_out_coding a c ct [] zero_ct h = absurd h.given
byte_out_coding a c ct (byte ∷ older) zero_ct h = byte_out_at a c ct byte older zero_ct h

doubled_room : (c a k : ℕ) → (2 * c + 2 * a) * 2 ^ k ≡ (c + a) * 2 ^ suc k
doubled_room c a k = rw two-pow-succ (grind arith)

pub doubled_bounded : (w : MqWriter) → w.a < 32768 → IsCoding w → IsBounded (coder (2 * w.a) (2 * w.c) (w.ct - 1) w.bytes)
doubled_bounded w less h =
    let b = h.bounded in
    let some = b.some in
    let ct = b.ct in
    let due = h.due in
    let e : suc (w.ct - 1) ≡ w.ct = omega arith in
    let same : (2 * w.c + 2 * w.a) * 2 ^ (w.ct - 1) ≡ (w.c + w.a) * 2 ^ w.ct = rw (doubled_room w.c w.a (w.ct - 1), e) refl in
    record {
      some = omega arith;
      width = omega arith;
      ct = omega arith;
      room = rw same b.room;
      given = b.given;
      tight = λ full. rw same (b.tight full);
    }

pub shifted_coding : (w : MqWriter) → w.a < 32768 → IsCoding w → IsCoding (mq_shifted w)
shifted_coding w less h =
    let b = doubled_bounded w less h in
    let some = h.due in
    elim (cases_eq (w.ct - 1) 0) [
      | inl none ↦ rw (eq-eqb (w.ct - 1) 0 none) (byte_out_coding (2 * w.a) (2 * w.c) (w.ct - 1) w.bytes none b)
      | inr ne ↦ rw (ne_eqb (w.ct - 1) 0 ne) (record { bounded = b; due = omega arith })
    ]

lower_coding : (w : MqWriter) (qe : ℕ) → 0 < qe → qe < w.a → IsCoding w → IsCoding (mq_lower w qe)
lower_coding w qe some less h =
    let b = h.bounded in
    let width = b.width in
    let fewer : (w.c + qe) * 2 ^ w.ct ≤ (w.c + w.a) * 2 ^ w.ct = mul-le (w.c + qe) (2 ^ w.ct) (w.c + w.a) (2 ^ w.ct) (omega arith) (omega arith) in
    let room = b.room in
    record {
      bounded = record {
        some = some;
        width = omega arith;
        ct = b.ct;
        room = omega arith;
        given = b.given;
        tight = λ full. let most = b.tight full in omega arith;
      };
      due = h.due;
    }

upper_coding : (w : MqWriter) (qe : ℕ) → 0 < qe → qe < w.a → IsCoding w → IsCoding (mq_upper w qe)
upper_coding w qe some less h =
    let b = h.bounded in
    let width = b.width in
    let same : w.c + qe + (w.a - qe) ≡ w.c + w.a = omega arith in
    record {
      bounded = record {
        some = omega arith;
        width = omega arith;
        ct = b.ct;
        room = rw same b.room;
        given = b.given;
        tight = λ full. rw same (b.tight full);
      };
      due = h.due;
    }

either_coding : (test : Bool) (x y : MqWriter) → IsCoding x → IsCoding y → IsCoding (if test then x else y)
either_coding true x y p q = p
either_coding false x y p q = q

pub part_coding : (w : MqWriter) (qe : ℕ) (is_mps : Bool) → 0 < qe → qe < w.a → IsCoding w → IsCoding (mq_part w qe is_mps)
part_coding w qe true some less h = either_coding (ltb (w.a - qe) qe) (mq_lower w qe) (mq_upper w qe) (lower_coding w qe some less h) (upper_coding w qe some less h)
part_coding w qe false some less h = either_coding (ltb (w.a - qe) qe) (mq_upper w qe) (mq_lower w qe) (upper_coding w qe some less h) (lower_coding w qe some less h)

either_below : (test : Bool) (x y : MqWriter) → x.a < 65536 → y.a < 65536 → (if test then x else y).a < 65536
either_below true x y p q = p
either_below false x y p q = q

pub part_below : (w : MqWriter) (qe : ℕ) (is_mps : Bool) → qe < w.a → w.a < 65536 → (mq_part w qe is_mps).a < 65536
part_below w qe true less room = either_below (ltb (w.a - qe) qe) (mq_lower w qe) (mq_upper w qe) (omega arith) (omega arith)
part_below w qe false less room = either_below (ltb (w.a - qe) qe) (mq_upper w qe) (mq_lower w qe) (omega arith) (omega arith)
