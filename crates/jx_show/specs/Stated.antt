-- The text of statements, one behind the other: lines, or members of a JSON object.
use Rattle.std.specs.Prelude.{ℕ, Bool, List, if◌then◌else◌}
use Rattle.std.specs.List.{flat_map}
use Rattle.jx_show.specs.Facts.{Statement, One, Precincts}
use Rattle.jx_show.specs.Json.{fact_json, precincts_json}
use Rattle.jx_show.specs.Text.{fact_text, precincts_text}

unfoldable pub statement_text : Bool → Statement → List ℕ
statement_text json (One f) = if json then fact_json f else fact_text f
statement_text json (Precincts a bytes) = if json then precincts_json a bytes else precincts_text a bytes

abbrev pub text_of : Bool → List Statement → List ℕ
text_of json statements = flat_map (statement_text json) statements
