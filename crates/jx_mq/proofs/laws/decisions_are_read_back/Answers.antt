use Rattle.jx_mq.proofs.Inversion.{read_back, read_back_each, contexts_back_each, write_no_marker}
use Rattle.jx_mq.proofs.laws.decisions_are_read_back.Goals as goal

pub returns-clause-bits : goal.returns-clause-bits
returns-clause-bits c x given = (read_back x given).bits_are

pub returns-clause-contexts : goal.returns-clause-contexts
returns-clause-contexts c x given = (read_back x given).contexts_are

pub returns-clause-segments : goal.returns-clause-segments
returns-clause-segments c = read_back_each

pub returns-clause-markers : goal.returns-clause-markers
returns-clause-markers c = write_no_marker

pub returns-clause-contexts_of_segments : goal.returns-clause-contexts_of_segments
returns-clause-contexts_of_segments c = contexts_back_each
