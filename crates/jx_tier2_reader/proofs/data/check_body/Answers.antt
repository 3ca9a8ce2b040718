use Rattle.jx_tier2_reader.specs.Reading.{seen}
use Rattle.jx_tier2_reader.proofs.PacketLemmas.{has_bytes}
use Rattle.jx_tier2_reader.proofs.data.check_body.Goals as goal

pub check_eph-requires-clause-used : goal.check_eph-requires-clause-used
check_eph-requires-clause-used c = has_bytes (seen c.args.packed) c.args.bytes.now c.args.used c.requires.used
