use Rattle.std.proofs.Common.{◌≡◌, ◌-◌, ◌/◌, ◌%◌, ◌^◌, ◌==◌, ◌++◌, ◌∷◌, ◌∙◌, ℕ, List, Bool, sym, ap, arith}
use Rattle.jx_tagtree.specs.Header.{low_bits}
use Rattle.jx_packet_header.proofs.PutLemmas.{push_first, number_next}
use Rattle.jx_packet_header.proofs.put.put_number.Goals as goal

pub loop-place-preserved : goal.loop-place-preserved
loop-place-preserved c =
    let bit : c.bit_of.result ≡ (c.args.value / 2 ^ (c.loop-place.place - 1) % 2 == 1) = c.bit_of.ensures ∙ ap (λ (v : ℕ). v / 2 ^ (c.loop-place.place - 1) % 2 == 1) c.from.ensures in (
      push_first c.loop-place.bits c.bit.new.self (low_bits (c.loop-place.place - 1) c.args.value) c.bit_of.result c.in_ok-bit.ensures.ok
          ∙ ap (λ (b : Bool). c.loop-place.bits ++ b ∷ low_bits (c.loop-place.place - 1) c.args.value) bit
          ∙ ap (λ (l : List Bool). c.loop-place.bits ++ l) (sym (number_next c.loop-place.place c.args.value c.loop-place-test.true)) ∙ c.loop-place.invariant.0,
      omega arith,
    )
