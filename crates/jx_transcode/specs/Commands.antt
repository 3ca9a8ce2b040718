-- The commands that words can name, and what good words of each ask for.
use Rattle.std.specs.Prelude.{◌≡◌, ◌≤◌, ℕ, true, false, List}
use Rattle.jx_options.specs.Wanted.{MayBeWanted}
use Rattle.jx_options.specs.Work.{MayBeLimit, MayBeWork}
use Rattle.jx_cli.specs.BoxesWords.{boxes_of, is_boxes}
use Rattle.jx_cli.specs.MakeWords.{Make, MayBeMade, is_make, make_of}
use Rattle.jx_cli.specs.SameWords.{MayBeCompared, is_same, same_of}
use Rattle.jx_cli.specs.ShowWords.{is_show, show_of}
use Rattle.jx_cli.specs.Words.{Text, is_good, request_of}
use Rattle.jx_transcode.specs.declared.commands.Command.{Command}
use Rattle.jx_transcode.specs.declared.commands.Command.TheVariants as command

-- what is asked of `make`, by its numbers
abbrev pub made_by : ℕ → ℕ → ℕ → Make
made_by seed width height = record { seed = seed; width = width; height = height }

-- the words are good for this command alone, and this is what they ask of it
abbrev pub Asks : List Text → Command → Type 0
Asks words (command.Transcode request) = (is_good words ≡ true) × (is_make words ≡ false) × (is_boxes words ≡ false) × (is_same words ≡ false) × (is_show words ≡ false) × (request ≡ request_of words)
Asks words (command.Make seed width height) = (is_good words ≡ false) × (is_make words ≡ true) × (is_boxes words ≡ false) × (is_same words ≡ false) × (is_show words ≡ false) × (made_by seed width height ≡ make_of words)
Asks words (command.Boxes asked) = (is_good words ≡ false) × (is_make words ≡ false) × (is_boxes words ≡ true) × (is_same words ≡ false) × (is_show words ≡ false) × (asked ≡ boxes_of words)
Asks words (command.Same names) = (is_good words ≡ false) × (is_make words ≡ false) × (is_boxes words ≡ false) × (is_same words ≡ true) × (is_show words ≡ false) × (names ≡ same_of words)
Asks words (command.Show asked) = (is_good words ≡ false) × (is_make words ≡ false) × (is_boxes words ≡ false) × (is_same words ≡ false) × (is_show words ≡ true) × (asked ≡ show_of words)

-- the words are good for no command
abbrev pub AskNothing : List Text → Type 0
AskNothing words = (is_good words ≡ false) × (is_make words ≡ false) × (is_boxes words ≡ false) × (is_same words ≡ false) × (is_show words ≡ false)

-- what words can ask for
abbrev pub MayBeDone : Command → Type 0
MayBeDone (command.Transcode request) = MayBeWanted request.wanted × MayBeWork request.work × (request.reduce ≤ 32) × MayBeLimit request.limit
MayBeDone (command.Make seed width height) = MayBeMade (made_by seed width height)
MayBeDone (command.Boxes asked) = MayBeLimit asked.limit
MayBeDone (command.Same names) = MayBeCompared names
MayBeDone (command.Show asked) = MayBeLimit asked.limit
