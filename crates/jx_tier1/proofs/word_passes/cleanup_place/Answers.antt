use Rattle.jx_tier1.proofs.DueWords.{some_bit}
use Rattle.jx_tier1.proofs.word_passes.cleanup_place.Goals as goal

pub cleanup_run-requires-clause-row : goal.cleanup_run-requires-clause-row
cleanup_run-requires-clause-row g c = c.requires.rows c.args.place (some_bit c.args.word.runs c.args.place c.if-word-place-ne0.true)

pub cleanup_run-requires-clause-run : goal.cleanup_run-requires-clause-run
cleanup_run-requires-clause-run g c = some_bit c.args.word.runs c.args.place c.if-word-place-ne0.true

pub cleanup_usual-requires-clause-run : goal.cleanup_usual-requires-clause-run
cleanup_usual-requires-clause-run g c = c.if-word-place-ne0.false
