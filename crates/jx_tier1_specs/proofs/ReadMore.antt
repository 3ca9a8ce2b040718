-- Passes one after the other.
use Rattle.std.proofs.Common.{◌≡◌, ◌<◌, ◌≤◌, ◌+◌, ◌-◌, ℕ, suc, refl, arith}
use Rattle.jx_tier1_specs.specs.Reading.{Coding, Decoding, read_from, read_pass}

pub read_more : (c : Coding) (end pass : ℕ) (d : Decoding) → pass < end
    → read_from c (end - pass) pass d ≡ read_from c (end - (pass + 1)) (pass + 1) (read_pass c pass d)
unfolding read_from
read_more c end pass d h = let e : end - pass ≡ suc (end - (pass + 1)) = omega arith in rw e refl

pub read_done : (c : Coding) (end pass : ℕ) (d : Decoding) → end ≤ pass → read_from c (end - pass) pass d ≡ d
unfolding read_from
read_done c end pass d h = let e : end - pass ≡ 0 = omega arith in rw e refl
