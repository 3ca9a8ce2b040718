-- Faults of files and of standard output in words, with what the system says of the cause.
use Rattle.std.specs.Prelude.{List, ◌++◌, codes, if◌then◌else◌}
use Rattle.jx_io.specs.declared.fault.Step.{Step}
use Rattle.jx_io.specs.declared.fault.Step.TheVariants as step
use Rattle.jx_messages.specs.Names.{inputs_in, name_in, writes_nowhere}
use Rattle.jx_messages.specs.Text.{Text}

-- a file with which something couldn't be done
abbrev pub input_words : Text → Text → Text → Text
input_words name done cause = codes "jx: " ++ (name ++ (codes " could not be " ++ (done ++ (codes ": " ++ (cause ++ codes "\n")))))

-- the same where an older file stands
abbrev pub older_words : Text → Text → Text → Text
older_words name done cause =
    codes "jx: " ++ (name ++ (codes " could not " ++ (done ++ (codes ": " ++ (cause ++ (codes "\n    an older " ++ (name ++ codes " is as it was\n")))))))

-- an output that is written as it stands
abbrev pub output_words : Text → Text → Text
output_words name cause = codes "jx: " ++ (name ++ (codes " could not be written: " ++ (cause ++ codes "\n    it may have a front of the codestream\n")))

-- an output that may be written and can't be replaced, and what to do
abbrev pub instead_words : Text → Text → Text
instead_words name why =
    codes "jx: " ++ (name ++ (codes " can't be replaced: " ++ (why ++ (codes ";\n    name an OUT in another folder, and copy it over " ++ (name ++ codes " (cp)\n")))))

-- an output whose name couldn't be brought to the disk
abbrev pub name_words : Text → Text → Text
name_words name cause = codes "jx: " ++ (name ++ (codes " was made whole, but its name could not be brought to the disk:\n    " ++ (cause ++ codes "\n")))

-- a line that couldn't be said; some commands write no file
abbrev pub line_words : List Text → Text → Text
line_words words cause =
    if writes_nowhere words then codes "jx: the line of the result could not be written: " ++ (cause ++ codes "\n") else
    codes "jx: the line of the result could not be written: " ++ (cause ++ (codes "\n    " ++ (name_in words 1 ++ codes " is as it was, or whole\n")))

-- the sentence of each fault
unfoldable pub fault_words : Step → Text → List Text → Text
fault_words step.Open cause words = input_words (inputs_in words) (codes "opened") cause
fault_words step.Read cause words = input_words (inputs_in words) (codes "read") cause
fault_words step.Create cause words = input_words (name_in words 1) (codes "created") cause
fault_words step.Draft cause words = instead_words (name_in words 1) cause
fault_words step.Mount cause words = instead_words (name_in words 1) (codes "it is a mount")
fault_words step.Sticky cause words = instead_words (name_in words 1) (codes "it is another user's, in a sticky folder")
fault_words step.Write cause words = older_words (name_in words 1) (codes "be written") cause
fault_words step.WriteOn cause words = output_words (name_in words 1) cause
fault_words step.Sync cause words = older_words (name_in words 1) (codes "be brought to its disk") cause
fault_words step.Rename cause words = older_words (name_in words 1) (codes "take its name") cause
fault_words step.Folder cause words = name_words (name_in words 1) cause
fault_words step.Say cause words = line_words words cause
