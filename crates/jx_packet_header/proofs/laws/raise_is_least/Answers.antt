use Rattle.jx_packet_header.proofs.PutLemmas.{raise_fits, raise_least}
use Rattle.jx_packet_header.proofs.laws.raise_is_least.Goals as goal

pub returns-clause-fits : goal.returns-clause-fits
returns-clause-fits c = raise_fits

pub returns-clause-least : goal.returns-clause-least
returns-clause-least c = raise_least
