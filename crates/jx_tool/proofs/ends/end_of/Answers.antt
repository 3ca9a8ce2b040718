use Rattle.std.proofs.Common.{◌≡◌, ◌∙◌, ap, map, string_bytes, true, inl, inr, refl, subst, sym}
use Rattle.jx_transcode.specs.declared.status.Status.TheVariants as ending
use Rattle.jx_messages.specs.Help.{asks_help}
use Rattle.jx_messages.specs.Text.{EndsLine}
use Rattle.jx_tool.proofs.EndLemmas.{ended_by, ended_unbegun, helped_by}
use Rattle.jx_tool.proofs.ends.end_of.Goals as goal

pub returns-in-Err : goal.returns-in-Err
returns-in-Err g c = inl (ended_unbegun _ _ c.in-Err.status _ _ _ _ _ _ c.in-Err.ensures.err (c.from.ensures ∙ c.number.ensures))

pub returns-in-Ok-None : goal.returns-in-Ok-None
returns-in-Ok-None g c =
    inl (ended_by _ _ _ c.run-report.result.status c.run-report.result.blocks c.run-report.result.tape.items _ _ _ _ _ _ _ _ _ _ _ (ap (map string_bytes) c.deref-in-Ok-None.ensures.value ∙ c.in-Ok.ensures.words)
    c.run-report.ensures.outcome
    (record {
      read = c.run-report.ensures.read;
      write = c.run-report.ensures.write;
      read_rose = c.run-report.ensures.read_rose;
      write_rose = c.run-report.ensures.write_rose;
      unsaid = c.run-report.ensures.unsaid;
      complete = c.run-report.ensures.complete;
      idle = c.run-report.ensures.idle;
      unwritten = c.run-report.ensures.unwritten;
    })
    (c.from-in-Ok-None.ensures ∙ c.number-in-Ok-None.ensures))

pub returns-in-Ok-Some : goal.returns-in-Ok-Some
returns-in-Ok-Some g c =
    let asked : asks_help (map string_bytes c.deref.result.now) ≡ true = rw c.in-Ok-Some.field-0-is at c.in-Ok-Some.ensures.asked in
    let lines : EndsLine (string_bytes c.in-Ok-Some.text) = rw c.in-Ok-Some.field-0-is at c.in-Ok-Some.ensures.lines in
    inr (helped_by _ _ c.as_str.result.now c.help.result _ _ _ _ _ _ _ _ (ap (map string_bytes) c.deref.ensures.value ∙ c.in-Ok.ensures.words) asked
    (subst EndsLine (sym c.as_str.ensures.value) lines) c.help.ensures.said c.help.ensures.counted (c.from-in-Ok-Some.ensures ∙ c.number-in-Ok-Some.ensures))

pub returns-in-Err-help_of : goal.returns-in-Err-help_of
returns-in-Err-help_of g c = inl (ended_unbegun _ _ ending.NoMemory _ _ _ _ _ _ refl (c.from-in-Err-help_of.ensures ∙ c.number-in-Err-help_of.ensures))
