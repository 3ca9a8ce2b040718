-- No words are good for two commands, since good words have the command's name as their second.
use Rattle.std.proofs.Common.{◌≡◌, ◌∙◌, ap, refl, sym, true, List, [], codes, slice_index_or, if◌then◌else◌}
use Rattle.std.specs.Str.{bytes_eq}
use Rattle.std.proofs.lemmas.Bool.{and_parts}
use Rattle.std.proofs.lemmas.Slice.Eq.{bytes_eq-Decides}
use Rattle.jx_cli.specs.BoxesWords.{is_boxes, names_boxes}
use Rattle.jx_cli.specs.CommandNames.{Boxes, CommandName, Make, Same, Show, Transcode, command_word, is_good_for}
use Rattle.jx_cli.specs.MakeWords.{is_make, names_make}
use Rattle.jx_cli.specs.SameWords.{is_same, names_same}
use Rattle.jx_cli.specs.ShowWords.{is_show, names_show}
use Rattle.jx_cli.specs.Words.{Text, is_good, names_command}

abbrev second : List Text → Text
second words = slice_index_or words 1 []

named_is : (word name : Text) → bytes_eq word name ≡ true → word ≡ name
named_is word name t = (bytes_eq-Decides word name).0 t

good_named : (one : CommandName) (words : List Text) → is_good_for one words ≡ true → second words ≡ command_word one
unfolding is_good is_make is_boxes is_same is_show command_word
good_named Transcode words good = named_is (second words) (codes "transcode") (and_parts (names_command words) _ good).0
good_named Make words good = named_is (second words) (codes "make") (and_parts (names_make words) _ good).0
good_named Boxes words good = named_is (second words) (codes "boxes") (and_parts (names_boxes words) _ good).0
good_named Same words good = named_is (second words) (codes "same") (and_parts (names_same words) _ good).0
good_named Show words good = named_is (second words) (codes "show") (and_parts (names_show words) _ good).0

abbrev command_by : Text → CommandName
command_by word =
    if bytes_eq word (codes "transcode") then Transcode else
    if bytes_eq word (codes "make") then Make else
    if bytes_eq word (codes "boxes") then Boxes else
    if bytes_eq word (codes "same") then Same else Show

command_back : (one : CommandName) → command_by (command_word one) ≡ one
unfolding command_word
command_back Transcode = refl
command_back Make = refl
command_back Boxes = refl
command_back Same = refl
command_back Show = refl

pub commands_apart : (one other : CommandName) (words : List Text) → is_good_for one words ≡ true → is_good_for other words ≡ true → one ≡ other
commands_apart one other words good too =
    let same : command_word one ≡ command_word other = sym (good_named one words good) ∙ good_named other words too in
    sym (command_back one) ∙ (ap command_by same ∙ command_back other)
