-- Choices of a number by arithmetic.
use Rattle.std.proofs.Common.{◌≡◌, ◌<◌, ◌+◌, ◌-◌, ◌%◌, ℕ, zero, suc, Bool, true, false, not, ◌==◌, if◌then◌else◌, refl, arith, inl, inr, bit_and, bit_xor}
use Rattle.std.proofs.lemmas.Bool.{cases_eq, eq-eqb, ne_eqb}
use mir.Val.{bool_byte}
use Rattle.std.proofs.lemmas.Nat.{and_mask, and_comm}

none_of : (n : ℕ) → bit_and n 0 ≡ 0
none_of n = and_comm n 0

all_of : (n : ℕ) → n < 4294967296 → bit_and n 4294967295 ≡ n
all_of n fits =
    let e : bit_and n 4294967295 ≡ n % 4294967296 = and_mask n 32 in
    omega arith

pub by_bit_is : (bit one other : ℕ) → bit < 2 → one < 4294967296 → other < 4294967296 →
    (other + bit_and ((one + (4294967296 - other)) % 4294967296) ((0 + (4294967296 - bit)) % 4294967296)) % 4294967296 ≡ (if bit == 1 then one else other)
by_bit_is zero one other few fits fits' =
    let e = none_of ((one + (4294967296 - other)) % 4294967296) in
    rw e (omega arith)
by_bit_is (suc zero) one other few fits fits' =
    let e = all_of ((one + (4294967296 - other)) % 4294967296) (omega arith) in
    rw e (omega arith)
by_bit_is (suc (suc bit)) one other few fits fits' = absurd (omega arith)

pub unless_is : (bit number : ℕ) → bit < 2 → number < 4294967296 → bit_and number ((bit + 4294967295) % 4294967296) ≡ (if bit == 1 then 0 else number)
unless_is zero number few fits = all_of number fits
unless_is (suc zero) number few fits = none_of number
unless_is (suc (suc bit)) number few fits = absurd (omega arith)

odd_is : (bit : Bool) → (bit_xor 1 (bool_byte bit) == 0) ≡ bit
odd_is true = refl
odd_is false = refl

even_is : (bit : Bool) → (bit_xor 0 (bool_byte bit) == 0) ≡ not bit
even_is true = refl
even_is false = refl

-- whether a bit is the symbol of a state, by the state's last bit
pub symbol_is : (state : ℕ) (symbol bit : Bool) → (state % 2 == 1) ≡ symbol → (bit_xor (state % 2) (bool_byte bit) == 0) ≡ (if symbol then bit else not bit)
symbol_is state symbol bit e =
    elim (cases_eq (state % 2) 1) [
      | inl odd ↦ rw (← e, eq-eqb (state % 2) 1 odd, odd) (odd_is bit)
      | inr ne ↦ let even : state % 2 ≡ 0 = omega arith in rw (← e, ne_eqb (state % 2) 1 ne, even) (even_is bit)
    ]
