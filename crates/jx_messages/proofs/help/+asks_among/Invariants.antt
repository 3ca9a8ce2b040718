use Rattle.std.proofs.Common.{length}
use Rattle.jx_messages.proofs.help.+asks_among.Given as goal

abbrev pub decreases-asks_among : goal.decreases-asks_among
decreases-asks_among l = length l.words.now
