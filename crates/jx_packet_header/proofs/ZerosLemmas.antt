-- The zero planes of a block, asked plane by plane.
use Rattle.std.proofs.Common.{◌≡◌, ◌∙◌, ◌<◌, ◌≤◌, ◌+◌, ◌-◌, ℕ, suc, Bool, true, false, List, Option, Some, None, ap, arith, cond}
use Rattle.std.specs.Prelude.{option_and_then}
use Rattle.jx_tagtree.specs.TagTree.{Tree}
use Rattle.jx_packet_header.specs.Scan.{Asked, Zeros, ask, scan_more_zeros}

-- what the next answer decides
abbrev after_ask : ℕ → ℕ → ℕ → Option Asked → Option Zeros
after_ask leaf n more o =
    option_and_then (λ (a : Asked). cond a.below (Some (record { zeros = n; tree = a.tree; rest = a.rest })) (scan_more_zeros a.tree leaf (n + 1) more a.rest)) o

asked : (whole : Option Zeros) (tree : Tree) (leaf n planes : ℕ) (bits : List Bool) → n < planes → whole ≡ scan_more_zeros tree leaf n (planes - n) bits
    → whole ≡ after_ask leaf n (planes - (n + 1)) (ask tree leaf (n + 1) bits)
unfolding ask
asked whole tree leaf n planes bits lt h =
    let one : planes - n ≡ suc (planes - (n + 1)) = omega arith in
    h ∙ ap (λ (more : ℕ). scan_more_zeros tree leaf n more bits) one

pub zeros_next : (whole : Option Zeros) (tree new : Tree) (leaf n planes : ℕ) (bits rest : List Bool) (below : Bool) → n < planes
    → whole ≡ scan_more_zeros tree leaf n (planes - n) bits → ask tree leaf (n + 1) bits ≡ Some (record { below = below; tree = new; rest = rest }) → below ≡ false
    → whole ≡ scan_more_zeros new leaf (n + 1) (planes - (n + 1)) rest
zeros_next whole tree new leaf n planes bits rest below lt h e other =
    asked whole tree leaf n planes bits lt h ∙ (ap (after_ask leaf n (planes - (n + 1))) e
    ∙ ap (λ (b : Bool). cond b (Some (record { zeros = n; tree = new; rest = rest })) (scan_more_zeros new leaf (n + 1) (planes - (n + 1)) rest)) other)

pub zeros_found : (whole : Option Zeros) (tree new : Tree) (leaf n planes : ℕ) (bits rest : List Bool) (below : Bool) → n < planes
    → whole ≡ scan_more_zeros tree leaf n (planes - n) bits → ask tree leaf (n + 1) bits ≡ Some (record { below = below; tree = new; rest = rest }) → below ≡ true
    → whole ≡ Some (record { zeros = n; tree = new; rest = rest })
zeros_found whole tree new leaf n planes bits rest below lt h e here =
    asked whole tree leaf n planes bits lt h ∙ (ap (after_ask leaf n (planes - (n + 1))) e
    ∙ ap (λ (b : Bool). cond b (Some (record { zeros = n; tree = new; rest = rest })) (scan_more_zeros new leaf (n + 1) (planes - (n + 1)) rest)) here)

pub zeros_stop : (whole : Option Zeros) (tree : Tree) (leaf n planes : ℕ) (bits : List Bool) → n < planes
    → whole ≡ scan_more_zeros tree leaf n (planes - n) bits → ask tree leaf (n + 1) bits ≡ None → whole ≡ None
zeros_stop whole tree leaf n planes bits lt h e = asked whole tree leaf n planes bits lt h ∙ ap (after_ask leaf n (planes - (n + 1))) e

pub zeros_all : (whole : Option Zeros) (tree : Tree) (leaf n planes : ℕ) (bits : List Bool) → planes ≤ n → n ≤ planes
    → whole ≡ scan_more_zeros tree leaf n (planes - n) bits → whole ≡ Some (record { zeros = planes; tree = tree; rest = bits })
zeros_all whole tree leaf n planes bits ge le h =
    let none : planes - n ≡ 0 = omega arith in
    let all : n ≡ planes = omega arith in
    h ∙ (ap (λ (more : ℕ). scan_more_zeros tree leaf n more bits) none ∙ ap (λ (m : ℕ). Some (record { zeros = m; tree = tree; rest = bits })) all)
