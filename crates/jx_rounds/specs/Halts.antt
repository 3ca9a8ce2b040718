-- Why the writing of a file ends where a call of the files was refused.
use Rattle.jx_io.specs.declared.refused.Refused.{Refused}
use Rattle.jx_io.specs.declared.refused.Refused.TheVariants as refused
use Rattle.jx_rounds.specs.declared.halt.Halt.{Halt}
use Rattle.jx_rounds.specs.declared.halt.Halt.TheVariants as halt

abbrev pub halt_of : Refused → Halt
halt_of refused.Failed = halt.Failed
halt_of refused.NoMemory = halt.NoMemory
