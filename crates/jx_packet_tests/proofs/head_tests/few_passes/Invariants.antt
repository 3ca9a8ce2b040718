use Rattle.std.proofs.Common.{◌≡◌, ◌+◌, ◌<◌, ◌^◌, drop}
use Rattle.jx_packet_header.specs.Writable.{all_passes}
use Rattle.jx_packet_tests.proofs.head_tests.few_passes.Given as goal

abbrev pub invariant-loop-part : goal.invariant-loop-part
invariant-loop-part l = (l.passes + all_passes (drop l.part-index l.parts) ≡ all_passes l.parts) × (l.passes < 2 ^ 16)
