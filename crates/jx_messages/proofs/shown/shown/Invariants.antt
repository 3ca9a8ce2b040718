use Rattle.std.proofs.Common.{string_bytes, ◌≡◌, encode_utf8_all, flat_map}
use Rattle.jx_messages.specs.Shown.{shown_char}
use Rattle.jx_messages.proofs.shown.shown.Given as goal

abbrev pub invariant-loop-c : goal.invariant-loop-c
invariant-loop-c l = string_bytes l.text ≡ encode_utf8_all (flat_map shown_char l.yielded)
