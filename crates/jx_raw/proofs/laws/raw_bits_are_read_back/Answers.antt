use Rattle.jx_raw.proofs.Back.{read_back, written_no_marker}
use Rattle.jx_raw.proofs.laws.raw_bits_are_read_back.Goals as goal

pub returns-clause-bits : goal.returns-clause-bits
returns-clause-bits c = read_back

pub returns-clause-markers : goal.returns-clause-markers
returns-clause-markers c = written_no_marker
