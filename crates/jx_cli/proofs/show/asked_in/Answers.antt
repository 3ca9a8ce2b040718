use Rattle.std.proofs.Common.{◌∙◌, ap, false, map, string_bytes, true}
use Rattle.std.proofs.lemmas.Result.{IfOk-weaker}
use Rattle.clap.specs.Words.{app_of, first_value, found_of, is_simple_and_free}
use Rattle.jx_cli.proofs.ShowLemmas.{asked, show_free, shown, unasked}
use Rattle.jx_cli.proofs.CommandLemmas.{same_fault}
use Rattle.jx_cli.proofs.show.asked_in.Goals as goal

pub matches_in-requires : goal.matches_in-requires
matches_in-requires c = record { simple = ap is_simple_and_free c.in-Ok.ensures ∙ show_free }

pub returns-in-Err-matches_in-clause-words : goal.returns-in-Err-matches_in-clause-words
returns-in-Err-matches_in-clause-words c same =
    unasked (app_of c.in-Ok.command) (map string_bytes c.args.words.now) c.in-Ok.ensures (c.in-Err-matches_in.ensures.refused (same_fault _ _ same))

pub returns-in-Ok-matches_in-clause-good : goal.returns-in-Ok-matches_in-clause-good
returns-in-Ok-matches_in-clause-good c = IfOk-weaker c.show_by.result _ _
    (λ made said. asked (app_of c.in-Ok.command) (map string_bytes c.args.words.now) (first_value (found_of c.in-Ok-matches_in.matches)) true c.in-Ok.ensures c.in-Ok-matches_in.ensures.taken c.in-Ok-matches_in.ensures.found said) c.show_by.ensures.good

pub returns-in-Ok-matches_in-clause-value : goal.returns-in-Ok-matches_in-clause-value
returns-in-Ok-matches_in-clause-value c = IfOk-weaker c.show_by.result _ _
    (λ made by. shown (app_of c.in-Ok.command) (map string_bytes c.args.words.now) (first_value (found_of c.in-Ok-matches_in.matches)) made c.in-Ok.ensures c.in-Ok-matches_in.ensures.found by) c.show_by.ensures.value

pub returns-in-Ok-matches_in-clause-words : goal.returns-in-Ok-matches_in-clause-words
returns-in-Ok-matches_in-clause-words c same =
    asked (app_of c.in-Ok.command) (map string_bytes c.args.words.now) (first_value (found_of c.in-Ok-matches_in.matches)) false c.in-Ok.ensures c.in-Ok-matches_in.ensures.taken c.in-Ok-matches_in.ensures.found (c.show_by.ensures.words same)
