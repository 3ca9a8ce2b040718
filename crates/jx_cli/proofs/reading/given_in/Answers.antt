use Rattle.std.proofs.Common.{◌∙◌, ap, map, string_bytes}
use Rattle.clap.specs.Words.{app_of, is_simple_and_free}
use Rattle.jx_cli.specs.Command.{transcode}
use Rattle.jx_cli.specs.Words.{given_by}
use Rattle.jx_cli.proofs.CommandLemmas.{none_moved, same_fault, some_moved, texts_moved, transcode_free}
use Rattle.jx_cli.proofs.reading.given_in.Goals as goal

pub matches_in-requires : goal.matches_in-requires
matches_in-requires c = record { simple = ap is_simple_and_free c.in-Ok.ensures ∙ transcode_free }

pub returns-in-Ok-matches_in-clause-taken : goal.returns-in-Ok-matches_in-clause-taken
returns-in-Ok-matches_in-clause-taken c =
    none_moved (app_of c.in-Ok.command) transcode (map string_bytes c.args.words.now) c.in-Ok.ensures c.in-Ok-matches_in.ensures.taken

pub returns-in-Ok-matches_in-clause-given : goal.returns-in-Ok-matches_in-clause-given
returns-in-Ok-matches_in-clause-given c =
    c.given_by.ensures ∙ ap given_by (c.in-Ok-matches_in.ensures.found ∙ texts_moved (app_of c.in-Ok.command) transcode (map string_bytes c.args.words.now) c.in-Ok.ensures)

pub returns-in-Err-matches_in-clause-refused : goal.returns-in-Err-matches_in-clause-refused
returns-in-Err-matches_in-clause-refused c same =
    some_moved (app_of c.in-Ok.command) transcode (map string_bytes c.args.words.now) c.in-Ok.ensures (c.in-Err-matches_in.ensures.refused (same_fault _ _ same))
