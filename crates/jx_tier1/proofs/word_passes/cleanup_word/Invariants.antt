use Rattle.std.proofs.Common.{◌≡◌, ◌<◌, ◌≤◌, ◌-◌, ◌%◌, ◌^◌, ℕ, w64}
use Rattle.std.specs.Int.{bit_at, trailing_zeros}
use Rattle.jx_tier1_specs.specs.Cells.{Cells}
use Rattle.jx_tier1.specs.WordPasses.{BeforeCleanup}
use Rattle.jx_tier1.proofs.CleanWord.{Cleaned}
use Rattle.jx_tier1.proofs.word_passes.cleanup_word.Given as goal

abbrev pub invariant-loop-word : goal.invariant-loop-word
invariant-loop-word g l = record {
  within : (i : ℕ) → bit_at l.word.due i ≤ bit_at l.fn.places i;
  rows : (i : ℕ) → bit_at l.word.runs i ≡ 1 → i % 6 ≡ 0;
  fits : l.word.due < 2 ^ 64;
  walk : (v : Cells) → BeforeCleanup l.plane v l.corner.x l.corner.y l.fn.sight.window l.fn.sight.signs l.fn.places
      → Cleaned g.S.Source.ask l.plane v l.corner.x l.corner.y l.initial.source l.word.sight.window l.word.sight.signs l.word.due l.word.runs l.source;
}

abbrev pub decreases-loop-word : goal.decreases-loop-word
decreases-loop-word g l = 64 - trailing_zeros w64 l.word.due
