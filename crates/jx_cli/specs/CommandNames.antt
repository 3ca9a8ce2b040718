-- The commands by their names, and whether words are good for one.
use Rattle.std.specs.Prelude.{Bool, List, codes}
use Rattle.jx_cli.specs.BoxesWords.{is_boxes}
use Rattle.jx_cli.specs.MakeWords.{is_make}
use Rattle.jx_cli.specs.SameWords.{is_same}
use Rattle.jx_cli.specs.ShowWords.{is_show}
use Rattle.jx_cli.specs.Words.{Text, is_good}

pub data CommandName : Type 0 where
  Transcode : CommandName
  Make : CommandName
  Boxes : CommandName
  Same : CommandName
  Show : CommandName

-- the word that names it
unfoldable pub command_word : CommandName → Text
command_word Transcode = codes "transcode"
command_word Make = codes "make"
command_word Boxes = codes "boxes"
command_word Same = codes "same"
command_word Show = codes "show"

abbrev pub is_good_for : CommandName → List Text → Bool
is_good_for Transcode words = is_good words
is_good_for Make words = is_make words
is_good_for Boxes words = is_boxes words
is_good_for Same words = is_same words
is_good_for Show words = is_show words
