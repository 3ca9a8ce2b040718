use Rattle.std.proofs.Common.{◌≡◌, ◌++◌, drop, length, take}
use Rattle.jx_codestream.specs.PackedHeaders.{LieIn, shared_out, shares_fit}
use Rattle.jx_codestream.proofs.packed.share_out.Given as goal

abbrev pub invariant-loop-place : goal.invariant-loop-place
invariant-loop-place l = record {
  lie : LieIn l.bytes l.left;
  size : length l.parts ≡ length l.fn.parts;
  fit : shares_fit l.bytes l.left (drop l.place l.parts) ≡ shares_fit l.bytes l.pieces l.fn.parts;
  shared : take l.place l.parts ++ shared_out l.bytes l.left (drop l.place l.parts) ≡ shared_out l.bytes l.pieces l.fn.parts;
}
