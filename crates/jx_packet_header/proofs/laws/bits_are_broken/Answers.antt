use Rattle.jx_packet_header.proofs.StopBandLemmas.{cause_broken, broken_cause}
use Rattle.jx_packet_header.proofs.laws.bits_are_broken.Goals as goal

pub returns-clause-is : goal.returns-clause-is
returns-clause-is c = λ bytes k is. cause_broken bytes k is.bands

pub returns-clause-back : goal.returns-clause-back
returns-clause-back c = λ bytes k is. broken_cause bytes k is.bands
