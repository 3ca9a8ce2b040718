use Rattle.std.proofs.Common.{◌≡◌, ◌≤◌, ◌+◌, ◌-◌, IsTrue, take, vec_len}
use Rattle.jx_io.specs.Device.{Allows}
use Rattle.jx_transcode.specs.Progress.{SameButLeft, HasRead}
use Rattle.jx_transcode.proofs.device.fill.Given as goal

abbrev pub invariant-loop-filled : goal.invariant-loop-filled
invariant-loop-filled g l = record {
  same : SameButLeft (g.F.Files.meaning l.initial.files) (g.F.Files.meaning l.files);
  so_far : HasRead (g.F.Files.meaning l.initial.files).left (g.F.Files.meaning l.files).left (take l.filled l.bytes.items);
  reading : IsTrue (g.F.Files.meaning l.files).reading;
  within : l.filled ≤ vec_len l.bytes;
  fits : vec_len l.bytes ≤ l.limit + 1;
  opens : Allows (g.F.Files.can_open l.initial.files) (g.F.Files.can_open l.files);
  creates : Allows (g.F.Files.can_create l.initial.files) (g.F.Files.can_create l.files);
  unrisen : g.F.Files.read_faults l.files ≡ g.F.Files.read_faults l.initial.files;
  other : g.F.Files.write_faults l.files ≡ g.F.Files.write_faults l.initial.files;
}

abbrev pub decreases-loop-filled : goal.decreases-loop-filled
decreases-loop-filled g l = l.limit + 1 - l.filled
