-- The boxes of a file as a tree (ITU-T T.800, I.4): the boxes of a level fill the file, or the content of the box in which they stand.
-- Opened are the superboxes of I.5.3, I.5.3.7 and I.7.3.
use Rattle.std.specs.Prelude.{◌≡◌, ◌≢◌, ℕ, ◌==◌, Bool, true, false, List, length, Option, Some, None, MatchOption, if◌then◌else◌}
use Rattle.jx_jp2.specs.declared.levels.Level.{Level}
use Rattle.jx_jp2.specs.declared.levels.Level.TheVariants as levels
use Rattle.jx_jp2.specs.declared.faults.BoxFault.{BoxFault}
use Rattle.jx_jp2.specs.declared.faults.BoxFault.TheVariants as fault
use Rattle.jx_jp2.specs.Heads.{tbox, from_at, end_at, first_broken}
use Rattle.jx_jp2.specs.Kinds.{jp2h, uinf, res}

abbrev pub is_top : Level → Bool
is_top levels.Top = true
is_top levels.Header = false
is_top levels.Closed = false

-- the level of what is in a box of a level, by the box's type; none where it isn't opened
unfoldable pub opened : Level → ℕ → Option Level
opened levels.Top kind = if kind == jp2h then Some levels.Header else if kind == uinf then Some levels.Closed else None
opened levels.Header kind = if kind == res then Some levels.Closed else None
opened levels.Closed kind = None

-- how many levels may stand below one
abbrev pub below : Level → ℕ
below levels.Top = 2
below levels.Header = 1
below levels.Closed = 0

-- boxes one after the other in order of place
pub data Tree : Type 0 where
  Ended : Tree
  -- a box by its place, those in it, and those after it
  Next : ℕ → Tree → Tree → Tree

-- the boxes of a level from a place on fill it up to `stop`, and what is in each that is opened fills its content
abbrev pub Fills : List ℕ → Level → ℕ → ℕ → Tree → Type 0
Fills bytes level at stop Ended = at ≡ stop
Fills bytes level at stop (Next place inside after) =
    (place ≡ at) × (first_broken bytes (is_top level) stop at ≡ None)
    × MatchOption (opened level (tbox bytes at)) (inside ≡ Ended) (λ within. Fills bytes within (from_at bytes at) (end_at bytes at) inside)
    × Fills bytes level (end_at bytes at) stop after

-- the tree of what is in a box
abbrev pub IsInside : List ℕ → Level → ℕ → Tree → Type 0
IsInside bytes level at inside =
    MatchOption (opened level (tbox bytes at)) (inside ≡ Ended) (λ within. Fills bytes within (from_at bytes at) (end_at bytes at) inside)

-- a way over boxes in order of place: it ends at one, goes past one with all that is in it, or into one
pub data Way : Type 0 where
  Here : Way
  Past : Tree → Way → Way
  Into : Way → Way

-- from a place of a level on, a way over sound boxes ends at the box at `place`, which breaks the rule
abbrev pub LeadsTo : List ℕ → ℕ → ℕ → Level → ℕ → ℕ → Way → Type 0
LeadsTo bytes number place level at stop Here =
    (place ≡ at) × (at ≢ stop) × (first_broken bytes (is_top level) stop at ≡ Some number)
LeadsTo bytes number place level at stop (Past inside way) =
    (first_broken bytes (is_top level) stop at ≡ None) × IsInside bytes level at inside × LeadsTo bytes number place level (end_at bytes at) stop way
LeadsTo bytes number place level at stop (Into way) =
    (first_broken bytes (is_top level) stop at ≡ None)
    × MatchOption (opened level (tbox bytes at)) ⊥ (λ within. LeadsTo bytes number place within (from_at bytes at) (end_at bytes at) way)

-- the first box of a level, or in one of its boxes, that breaks a rule
pub record BreaksFirst (bytes : List ℕ) (level : Level) (at stop number place : ℕ) : Type 0 where
  pub way : Way
  pub leads : LeadsTo bytes number place level at stop way

abbrev pub IsLevelFault : List ℕ → Level → ℕ → ℕ → BoxFault → Type 0
IsLevelFault bytes level at stop (fault.Rule number place) = BreaksFirst bytes level at stop number place
IsLevelFault bytes level at stop fault.NoMemory = Unit {0}

-- the tree of a file, and the first of the rules 32 to 34 that it breaks, in order of place; want of memory may come at any box
abbrev pub IsTree : List ℕ → Tree → Type 0
IsTree bytes tree = Fills bytes levels.Top 0 (length bytes) tree

abbrev pub IsTreeFault : List ℕ → BoxFault → Type 0
IsTreeFault bytes wrong = IsLevelFault bytes levels.Top 0 (length bytes) wrong

abbrev pub IsTreeBroken : List ℕ → ℕ → ℕ → Type 0
IsTreeBroken bytes number place = BreaksFirst bytes levels.Top 0 (length bytes) number place
