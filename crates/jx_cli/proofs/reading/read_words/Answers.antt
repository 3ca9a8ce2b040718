use Rattle.std.proofs.Common.{◌≡◌, ◌≤◌, ◌∙◌, ap, false, map, string_bytes, subst, sym, true}
use Rattle.std.proofs.lemmas.List.{drop-map}
use Rattle.std.proofs.lemmas.Result.{IfOk-weaker}
use Rattle.jx_options.specs.Wanted.{MayBeWanted}
use Rattle.jx_cli.specs.Words.{Request, names_command}
use Rattle.jx_options.specs.Work.{MayBeLimit, MayBeWork}
use Rattle.jx_cli.proofs.CommandLemmas.{same_fault}
use Rattle.jx_cli.proofs.GoodLemmas.{bad_by, good_by, requested, unnamed}
use Rattle.jx_cli.proofs.WantedLemmas.{given_limit, given_may_be, given_reduce_few, work_may_be}
use Rattle.jx_cli.proofs.reading.read_words.Goals as goal

pub returns-then-not-names_command-clause-words : goal.returns-then-not-names_command-clause-words
returns-then-not-names_command-clause-words c same =
    unnamed (map string_bytes c.args.words.now) (sym c.names_command.ensures.names ∙ c.if-not-names_command.true)

pub returns-in-Ok-clause-good : goal.returns-in-Ok-clause-good
returns-in-Ok-clause-good c =
    let named : names_command (map string_bytes c.args.words.now) ≡ true = sym c.names_command.ensures.names ∙ c.if-not-names_command.false in
    let rest = ap (map string_bytes) c.split_at.ensures.back ∙ sym (drop-map string_bytes 1 c.args.words.now) in
    IfOk-weaker c.request_by.result _ _ (λ r values. good_by (map string_bytes c.args.words.now) _ _ true named rest c.in-Ok.ensures.taken c.in-Ok.ensures.given values) c.request_by.ensures.good

pub returns-in-Ok-clause-value : goal.returns-in-Ok-clause-value
returns-in-Ok-clause-value c =
    let rest = ap (map string_bytes) c.split_at.ensures.back ∙ sym (drop-map string_bytes 1 c.args.words.now) in
    IfOk-weaker c.request_by.result _ _ (λ r is. requested (map string_bytes c.args.words.now) _ _ r rest c.in-Ok.ensures.given is) c.request_by.ensures.value

pub returns-in-Ok-clause-wanted : goal.returns-in-Ok-clause-wanted
returns-in-Ok-clause-wanted c =
    IfOk-weaker c.request_by.result _ _ (λ r is. subst (λ (asked : Request). MayBeWanted asked.wanted) (sym is) (given_may_be _)) c.request_by.ensures.value

pub returns-in-Ok-clause-work : goal.returns-in-Ok-clause-work
returns-in-Ok-clause-work c =
    IfOk-weaker c.request_by.result _ _ (λ r is. subst (λ (asked : Request). MayBeWork asked.work) (sym is) (work_may_be _)) c.request_by.ensures.value

pub returns-in-Ok-clause-reduce : goal.returns-in-Ok-clause-reduce
returns-in-Ok-clause-reduce c =
    IfOk-weaker c.request_by.result _ _ (λ r is. subst (λ (asked : Request). asked.reduce ≤ 32) (sym is) (given_reduce_few c.in-Ok.given)) c.request_by.ensures.value

pub returns-in-Ok-clause-limit : goal.returns-in-Ok-clause-limit
returns-in-Ok-clause-limit c =
    IfOk-weaker c.request_by.result _ _ (λ r is. subst (λ (asked : Request). MayBeLimit asked.limit) (sym is) (given_limit c.in-Ok.given)) c.request_by.ensures.value

pub returns-in-Ok-clause-words : goal.returns-in-Ok-clause-words
returns-in-Ok-clause-words c same =
    let named : names_command (map string_bytes c.args.words.now) ≡ true = sym c.names_command.ensures.names ∙ c.if-not-names_command.false in
    let rest = ap (map string_bytes) c.split_at.ensures.back ∙ sym (drop-map string_bytes 1 c.args.words.now) in
    good_by (map string_bytes c.args.words.now) _ _ false named rest c.in-Ok.ensures.taken c.in-Ok.ensures.given (c.request_by.ensures.words same)

pub returns-in-Err-clause-words : goal.returns-in-Err-clause-words
returns-in-Err-clause-words c same =
    let rest = ap (map string_bytes) c.split_at.ensures.back ∙ sym (drop-map string_bytes 1 c.args.words.now) in
    bad_by (map string_bytes c.args.words.now) _ rest (c.in-Err.ensures.refused (same_fault _ _ same))
