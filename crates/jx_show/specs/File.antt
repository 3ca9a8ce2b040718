-- What is told of a file: whether it is a codestream or a JP2 file, whose brand and boxes' names are given, then the facts of its codestream.
use Rattle.std.specs.Prelude.{ℕ, Bool, true, false, List, ◌++◌, Option, None, Some, codes}
use Rattle.std.specs.Borrow.{Bor}
use Rattle.jx_show.specs.Facts.{Statement}
use Rattle.jx_show.specs.Stated.{text_of}

-- a codestream has no boxes and no brand
abbrev pub lines_head : Option (List ℕ) → List ℕ → List ℕ
lines_head None brand = codes "file: codestream\n"
lines_head (Some names) brand = codes "file: JP2\nbrand: " ++ (brand ++ (codes "\nboxes: " ++ (names ++ codes "\n")))

abbrev pub boxes_json : List ℕ → List ℕ → List ℕ
boxes_json names brand =
    codes "{\n  \"file\": \"JP2\",\n  \"brand\": " ++ (brand ++ (codes ",\n  \"boxes\": [" ++ (names ++ codes "]")))

abbrev pub json_head : Option (List ℕ) → List ℕ → List ℕ
json_head None brand = codes "{\n  \"file\": \"codestream\""
json_head (Some names) brand = boxes_json names brand

-- a line for each, or a JSON object with a member for each
abbrev pub file_text : Bool → Option (List ℕ) → List ℕ → List Statement → List ℕ
file_text false names brand facts = lines_head names brand ++ text_of false facts
file_text true names brand facts = json_head names brand ++ (text_of true facts ++ codes "\n}\n")

-- names that are lent
abbrev pub lent_names : Option (Bor (List ℕ)) → Option (List ℕ)
lent_names None = None
lent_names (Some names) = Some names.now
