-- Which way the signs of two neighbours lean (ITU-T T.800, table D.2).
use Rattle.std.specs.Prelude.{ℤ, pos, negsuc, ◌+◌, nat_lt, Bool, if◌then◌else◌}
use Rattle.jx_tier1_specs.specs.Near.{one_if}

-- by whether the one and the other are significant and positive, significant and negative
abbrev pub leaned : Bool → Bool → Bool → Bool → ℤ
leaned p n q m =
    if nat_lt (one_if n + one_if m) (one_if p + one_if q) then pos 1
    else if nat_lt (one_if p + one_if q) (one_if n + one_if m) then negsuc 0
    else pos 0
