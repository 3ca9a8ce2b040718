-- What is said of a run that was done, where the output may mislead.
use Rattle.std.specs.Prelude.{◌++◌, codes}
use Rattle.jx_messages.specs.Text.{Text}

-- boxes that hold positions in the file stay as they were in the input
abbrev pub positions_note : Text → Text
positions_note output =
    codes "jx: " ++ (output ++ codes ": boxes that hold positions in the file (ftbl, flst, cref, chck,\n    pagt, fidx, cidx or iptr) are as they were in the input, and may be wrong now\n")
