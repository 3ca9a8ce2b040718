use Rattle.std.proofs.Common.{sym}
use Rattle.jx_base.proofs.Texts.{number_read}
use Rattle.jx_options.proofs.VolumeLemmas.{from_0_read}
use Rattle.jx_options.proofs.volumes.volume_of.Goals as goal

pub volume_with-requires : goal.volume_with-requires
volume_with-requires c = (
  from_0_read 32 _ c.args.fields.now.rs.now (sym c.in-Some.ensures),
  from_0_read 16383 _ c.args.fields.now.cs.now (sym c.in-Some-number_from_0.ensures),
  (number_read 65535 _ _ (sym c.in-Some-number_in.ensures)).1,
  (number_read 33 _ _ (sym c.in-Some-number_in-2.ensures)).1,
  (number_read 16384 _ _ (sym c.in-Some-number_in-3.ensures)).1,
)
