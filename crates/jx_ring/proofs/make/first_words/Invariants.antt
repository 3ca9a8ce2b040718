use Rattle.std.proofs.Common.{◌≡◌, ℕ, ◌+◌, ◌*◌, ◌≤◌, get_or, vec_len, vec_capacity}
use Rattle.jx_ring.proofs.make.first_words.Given as goal

abbrev pub invariant-loop : goal.invariant-loop
invariant-loop l = record {
  long : vec_len l.words ≡ l.counter + 2;
  room : l.window + 2 ≤ vec_capacity l.words;
  next : get_or l.words.items 0 0 ≡ l.first;
  drain : get_or l.words.items 1 0 ≡ 2 * l.first;
  zeros : (j : ℕ) → get_or l.words.items (j + 2) 0 ≡ 0;
}
