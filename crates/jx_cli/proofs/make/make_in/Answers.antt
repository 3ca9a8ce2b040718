use Rattle.std.proofs.Common.{◌∙◌, ap, false, true, map, refl, string_bytes}
use Rattle.clap.specs.Words.{app_of, first_value, found_of, is_simple_and_free}
use Rattle.jx_cli.proofs.CommandLemmas.{asked, made_by, make_free, same_fault, unasked}
use Rattle.jx_cli.proofs.make.make_in.Goals as goal

pub matches_in-requires : goal.matches_in-requires
matches_in-requires c = record { simple = ap is_simple_and_free c.in-Ok.ensures ∙ make_free }

pub returns-in-Err-matches_in-clause-words : goal.returns-in-Err-matches_in-clause-words
returns-in-Err-matches_in-clause-words c same =
    unasked (app_of c.in-Ok.command) (map string_bytes c.args.words.now) c.in-Ok.ensures (c.in-Err-matches_in.ensures.refused (same_fault _ _ same))

pub returns-in-Some-clause-good : goal.returns-in-Some-clause-good
returns-in-Some-clause-good c =
    asked (app_of c.in-Ok.command) (map string_bytes c.args.words.now) (first_value (found_of c.in-Ok-matches_in.matches)) true c.in-Ok.ensures c.in-Ok-matches_in.ensures.taken c.in-Ok-matches_in.ensures.found c.in-Some.ensures.some.0

pub returns-in-Some-clause-value : goal.returns-in-Some-clause-value
returns-in-Some-clause-value c =
    made_by (app_of c.in-Ok.command) (map string_bytes c.args.words.now) (first_value (found_of c.in-Ok-matches_in.matches)) _ c.in-Ok.ensures c.in-Ok-matches_in.ensures.found c.in-Some.ensures.some.1

pub returns-clause-words : goal.returns-clause-words
returns-clause-words c same =
    asked (app_of c.in-Ok.command) (map string_bytes c.args.words.now) (first_value (found_of c.in-Ok-matches_in.matches)) false c.in-Ok.ensures c.in-Ok-matches_in.ensures.taken c.in-Ok-matches_in.ensures.found (c.in-None.ensures.none refl)
