-- The limits in words: what is counted, the most that is taken, and what to ask instead.
use Rattle.std.specs.Prelude.{ℕ, ◌==◌, ◌-◌, codes, if◌then◌else◌}
use Rattle.jx_base.specs.Limits.{most_blocks}
use Rattle.jx_messages.specs.Text.{Text}

pub record LimitRow : Type 0 where
  pub what : Text
  pub most : ℕ
  pub advice : Text

unfoldable pub limit_row : Text → ℕ → Text → LimitRow
limit_row a most b = record { what = a; most = most; advice = b }

-- the sentence of each limit, by what was found; there is no limit 2. Of limit 1 one byte more is read than may be there
unfoldable pub limit_words : ℕ → ℕ → LimitRow
limit_words number found =
    if number == 1 then limit_row (codes "bytes or more in the file") (found - 1) (codes ":\n    --limit-bytes N takes up to N bytes, 4294967295 at most") else
    if number == 3 then limit_row (codes "tiles") 65_535 (codes "") else
    if number == 4 then limit_row (codes "bit-planes of a band") 74 (codes "") else
    if number == 5 then limit_row (codes "code-blocks") most_blocks (codes "") else
    if number == 6 then limit_row (codes "packets in the file") 4_194_304 (codes "") else
    limit_row (codes "packets in the file that is asked for") 4_194_304 (codes ":\n    use larger precincts or fewer layers")
