use Rattle.jx_codestream.proofs.RangeLemmas.{read_in_range}
use Rattle.jx_tier2_reader.proofs.gathering.gather_first.Goals as goal

pub main_view-requires : goal.main_view-requires
main_view-requires c = read_in_range c.args.bytes.now c.args.stream.now c.requires.read

pub check_totals-requires-clause-range : goal.check_totals-requires-clause-range
check_totals-requires-clause-range c = read_in_range c.args.bytes.now c.args.stream.now c.requires.read

pub gather_tiles-requires-clause-range : goal.gather_tiles-requires-clause-range
gather_tiles-requires-clause-range c = read_in_range c.args.bytes.now c.args.stream.now c.requires.read
