use Rattle.jx_raw.proofs.Looking.{read_next, looked_most, cut_bits}
use Rattle.jx_raw.proofs.laws.raw_bits_one_by_one.Goals as goal

pub returns-clause-next : goal.returns-clause-next
returns-clause-next c = read_next

pub returns-clause-looked : goal.returns-clause-looked
returns-clause-looked c = looked_most

pub returns-clause-cut : goal.returns-clause-cut
returns-clause-cut c = cut_bits
