-- Where the bits of some bytes end.
use Rattle.std.proofs.Common.{◌≡◌, ℕ, suc, ◌≤◌, Bool, true, false, List, [], ◌∷◌, ◌++◌, take, refl, sym, ap, ◌∙◌, cond, arith, inl, inr, ◌⊎◌}
use Rattle.std.proofs.lemmas.Bool.Decides.{nat_tests}
use Rattle.jx_tagtree.specs.declared.BitFault.TheVariants.{Ended}
use Rattle.jx_tagtree.specs.Header.{Bits, room, is_stuffed, low_bits, before_all, none_after_stuffed, bits_after}
use Rattle.jx_packet_header.specs.Unread.{StuffedAfter}

record IsOne (before byte : ℕ) : Type 0 where
  pub last : before ≡ 255
  pub one : 128 ≤ byte

is_one : (before byte : ℕ) → is_stuffed before byte ≡ true → IsOne before byte
is_one before byte h =
    let e : before ≡ 255 = grind (arith, nat_tests) in
    let o : 128 ≤ byte = grind (arith, nat_tests) in
    record { last = e; one = o }

next_bits : (before byte : ℕ) (bytes : List ℕ) → is_stuffed before byte ≡ false → bits_after before (byte ∷ bytes) ≡ before_all (low_bits (room before) byte) (bits_after byte bytes)
next_bits before byte bytes e = ap (λ (b : Bool). cond b none_after_stuffed (before_all (low_bits (room before) byte) (bits_after byte bytes))) e

no_bits : (before byte : ℕ) (bytes : List ℕ) → is_stuffed before byte ≡ true → bits_after before (byte ∷ bytes) ≡ none_after_stuffed
no_bits before byte bytes e = ap (λ (b : Bool). cond b none_after_stuffed (before_all (low_bits (room before) byte) (bits_after byte bytes))) e

pub stuffed_or : (before : ℕ) (bytes : List ℕ) → ((bits_after before bytes).fault ≡ Ended) ⊎ ((n : ℕ) × StuffedAfter before bytes n)
stuffed_or before [] = inl refl
stuffed_or before (byte ∷ bytes) = by (is_stuffed before byte) refl (stuffed_or byte bytes)
  where
    by : (b : Bool) → is_stuffed before byte ≡ b → ((bits_after byte bytes).fault ≡ Ended) ⊎ ((n : ℕ) × StuffedAfter byte bytes n) →
        ((bits_after before (byte ∷ bytes)).fault ≡ Ended) ⊎ ((n : ℕ) × StuffedAfter before (byte ∷ bytes) n)
    by true e more =
        let o = is_one before byte e in
        inr (0, record { bits = ap (λ (x : Bits). x.bits) (no_bits before byte bytes e); clean = refl; last = o.last; one = o.one })
    by false e (inl clean) = inl (ap (λ (x : Bits). x.fault) (next_bits before byte bytes e) ∙ clean)
    by false e (inr more) =
        let s = more.1 in
        inr (
          suc more.0,
          record {
            bits = ap (λ (x : Bits). x.bits) (next_bits before byte bytes e) ∙ ap (λ (l : List Bool). low_bits (room before) byte ++ l) s.bits
                ∙ sym (ap (λ (x : Bits). x.bits) (next_bits before byte (take more.0 bytes) e));
            clean = ap (λ (x : Bits). x.fault) (next_bits before byte (take more.0 bytes) e) ∙ s.clean;
            last = s.last;
            one = s.one;
          },
        )
