use Rattle.jx_raw.proofs.Agreeing.{same_bits, dropped_bits, looked_more}
use Rattle.jx_raw.proofs.laws.raw_bits_depend_on_bytes_looked_at.Goals as goal

pub returns-clause-same : goal.returns-clause-same
returns-clause-same c = same_bits

pub returns-clause-dropped : goal.returns-clause-dropped
returns-clause-dropped c = dropped_bits

pub returns-clause-more : goal.returns-clause-more
returns-clause-more c = looked_more
