-- How the work is done.
use Rattle.std.specs.Prelude.{◌≤◌, ◌==◌, if◌then◌else◌, ℕ}
use Rattle.jx_base.specs.Limits.{most_bytes}

-- so many workers recode blocks (0: as many as the system has free, at most 64); so many blocks may stand between claim and sequence; and so many bytes the pieces of several such
-- blocks may have together
pub record Work : Type 0 where
  pub threads : ℕ
  pub window : ℕ
  pub most : ℕ

-- the most workers that there may be
abbrev pub most_workers : ℕ → ℕ
most_workers threads = if threads == 0 then 64 else threads

-- where no option is among the words
abbrev pub default_work : Work
default_work = record { threads = 0; window = 64; most = 268435456 }

-- work that words can ask for
pub record MayBeWork (w : Work) : Type 0 where
  pub few_threads : w.threads ≤ 64
  pub some_window : 1 ≤ w.window
  pub few_window : w.window ≤ 1024
  pub some_most : 1 ≤ w.most
  pub few_most : w.most ≤ most_bytes

-- the most bytes that an input may have, as words can ask for it
pub record MayBeLimit (limit : ℕ) : Type 0 where
  pub some : 1 ≤ limit
  pub few : limit ≤ most_bytes
