-- The kind of a coding pass (ITU-T T.800, D.4 and D.6). Passes of a block are numbered from 0: pass 0 is the cleanup pass of
-- the first coded plane; above it, pass i is a significance pass where i mod 3 is 1, a refinement pass where it is 2, and
-- a cleanup pass where it is 0.
use Rattle.std.specs.Prelude.{ℕ, ◌/◌, ◌%◌, ◌==◌, nat_le, Bool, ◌&&◌, ◌||◌, not}

-- style bit 0: selective arithmetic coding bypass
abbrev pub bypasses : ℕ → Bool
bypasses style = style % 2 == 1

-- style bit 2: termination on each coding pass
abbrev pub terminates : ℕ → Bool
terminates style = style / 4 % 2 == 1

-- style bit 1: reset of the contexts on each coding pass
abbrev pub resets : ℕ → Bool
resets style = style / 2 % 2 == 1

-- style bit 3: vertically causal contexts
abbrev pub is_causal : ℕ → Bool
is_causal style = style / 8 % 2 == 1

-- style bit 5: segmentation symbols
abbrev pub has_symbols : ℕ → Bool
has_symbols style = style / 32 % 2 == 1

-- whether a pass is raw
abbrev pub raw_pass : ℕ → ℕ → Bool
raw_pass style pass = bypasses style && nat_le 10 pass && not (pass % 3 == 0)

-- whether a pass ends a segment, wherever the block's last pass is
abbrev pub end_pass : ℕ → ℕ → Bool
end_pass style pass = terminates style || bypasses style && (pass == 9 || nat_le 10 pass && not (pass % 3 == 1))
