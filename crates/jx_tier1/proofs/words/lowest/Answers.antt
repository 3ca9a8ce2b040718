use Rattle.std.proofs.Common.{w64}
use Rattle.std.proofs.lemmas.Nat.Bits.{bit_at-trailing_zeros}
use Rattle.jx_tier1.proofs.words.lowest.Goals as goal

pub returns : goal.returns
returns c =
    let t = bit_at-trailing_zeros w64 c.args.places c.requires c.ranges.places.fits in
    record { place = t.1; first = t.2; few = t.0 }
