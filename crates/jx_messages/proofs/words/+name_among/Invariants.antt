use Rattle.std.proofs.Common.{length}
use Rattle.jx_messages.proofs.words.+name_among.Given as goal

abbrev pub decreases-name_among : goal.decreases-name_among
decreases-name_among l = length l.words.now
