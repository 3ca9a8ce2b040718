use Rattle.std.proofs.Common.{◌≡◌, ◌++◌, map, drop, string_bytes}
use Rattle.jx_messages.specs.Shown.{shown_all}
use Rattle.jx_messages.proofs.shown.shown_words.Given as goal

abbrev pub invariant-loop-word : goal.invariant-loop-word
invariant-loop-word l = map string_bytes l.texts.items ++ shown_all (map string_bytes (drop l.word-index l.words)) ≡ shown_all (map string_bytes l.words)
