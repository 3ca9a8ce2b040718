use Rattle.std.proofs.Common.{◌≡◌, drop}
use Rattle.jx_io.specs.Stored.{found}
use Rattle.jx_io.proofs.store.copy_of.Given as goal

-- the files passed over have other names
abbrev pub invariant-loop-file : goal.invariant-loop-file
invariant-loop-file l = found l.stored l.name ≡ found (drop l.file-index l.stored) l.name
