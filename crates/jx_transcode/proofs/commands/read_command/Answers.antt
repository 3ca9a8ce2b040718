use Rattle.std.proofs.Common.{◌∙◌, map, refl, string_bytes}
use Rattle.jx_cli.specs.CommandNames.{Boxes, Make, Same, Show, Transcode}
use Rattle.jx_transcode.proofs.RunLemmas.{not_good, same_fault}
use Rattle.jx_transcode.proofs.commands.read_command.Goals as goal

pub returns-in-Ok-clause-asks : goal.returns-in-Ok-clause-asks
returns-in-Ok-clause-asks c =
    let words = map string_bytes c.args.words.now in
    let apart = c.commands_are_apart.ensures in (
      c.in-Ok.ensures.good,
      not_good apart Transcode Make words (λ same. cc) c.in-Ok.ensures.good,
      not_good apart Transcode Boxes words (λ same. cc) c.in-Ok.ensures.good,
      not_good apart Transcode Same words (λ same. cc) c.in-Ok.ensures.good,
      not_good apart Transcode Show words (λ same. cc) c.in-Ok.ensures.good,
      c.in-Ok.ensures.value,
    )

pub returns-in-Ok-clause-may : goal.returns-in-Ok-clause-may
returns-in-Ok-clause-may c = (c.in-Ok.ensures.wanted, c.in-Ok.ensures.work, c.in-Ok.ensures.reduce, c.in-Ok.ensures.limit)

pub returns-in-Ok-read_make-clause-asks : goal.returns-in-Ok-read_make-clause-asks
returns-in-Ok-read_make-clause-asks c =
    let words = map string_bytes c.args.words.now in
    let apart = c.commands_are_apart.ensures in (
      c.in-Err-Words.ensures.words (rw c.in-Err-Words.field-0-is refl),
      c.in-Ok-read_make.ensures.good,
      not_good apart Make Boxes words (λ same. cc) c.in-Ok-read_make.ensures.good,
      not_good apart Make Same words (λ same. cc) c.in-Ok-read_make.ensures.good,
      not_good apart Make Show words (λ same. cc) c.in-Ok-read_make.ensures.good,
      c.asked.view_is ∙ c.in-Ok-read_make.ensures.value,
    )

pub returns-in-Ok-read_make-clause-may : goal.returns-in-Ok-read_make-clause-may
returns-in-Ok-read_make-clause-may c = rw c.asked.view_is c.in-Ok-read_make.ensures.may

pub returns-in-Ok-read_boxes-clause-asks : goal.returns-in-Ok-read_boxes-clause-asks
returns-in-Ok-read_boxes-clause-asks c =
    let words = map string_bytes c.args.words.now in
    let apart = c.commands_are_apart.ensures in (
      c.in-Err-Words.ensures.words (rw c.in-Err-Words.field-0-is refl),
      c.in-Err-Words-read_make.ensures.words (rw c.in-Err-Words-read_make.field-0-is refl),
      c.in-Ok-read_boxes.ensures.good,
      not_good apart Boxes Same words (λ same. cc) c.in-Ok-read_boxes.ensures.good,
      not_good apart Boxes Show words (λ same. cc) c.in-Ok-read_boxes.ensures.good,
      c.in-Ok-read_boxes.ensures.value,
    )

pub returns-in-Ok-read_same-clause-asks : goal.returns-in-Ok-read_same-clause-asks
returns-in-Ok-read_same-clause-asks c =
    let words = map string_bytes c.args.words.now in
    let apart = c.commands_are_apart.ensures in (
      c.in-Err-Words.ensures.words (rw c.in-Err-Words.field-0-is refl),
      c.in-Err-Words-read_make.ensures.words (rw c.in-Err-Words-read_make.field-0-is refl),
      c.in-Err-Words-read_boxes.ensures.words (rw c.in-Err-Words-read_boxes.field-0-is refl),
      c.in-Ok-read_same.ensures.good,
      not_good apart Same Show words (λ same. cc) c.in-Ok-read_same.ensures.good,
      c.in-Ok-read_same.ensures.value,
    )

pub returns-in-Ok-read_show-clause-asks : goal.returns-in-Ok-read_show-clause-asks
returns-in-Ok-read_show-clause-asks c = (
  c.in-Err-Words.ensures.words (rw c.in-Err-Words.field-0-is refl),
  c.in-Err-Words-read_make.ensures.words (rw c.in-Err-Words-read_make.field-0-is refl),
  c.in-Err-Words-read_boxes.ensures.words (rw c.in-Err-Words-read_boxes.field-0-is refl),
  c.in-Err-Words-read_same.ensures.words (rw c.in-Err-Words-read_same.field-0-is refl),
  c.in-Ok-read_show.ensures.good,
  c.in-Ok-read_show.ensures.value,
)

pub returns-in-Ok-read_boxes-clause-may : goal.returns-in-Ok-read_boxes-clause-may
returns-in-Ok-read_boxes-clause-may c = c.in-Ok-read_boxes.ensures.may

pub returns-in-Ok-read_show-clause-may : goal.returns-in-Ok-read_show-clause-may
returns-in-Ok-read_show-clause-may c = c.in-Ok-read_show.ensures.may

pub returns-in-Ok-read_same-clause-may : goal.returns-in-Ok-read_same-clause-may
returns-in-Ok-read_same-clause-may c = c.in-Ok-read_same.ensures.may

pub returns-in-Err-clause-words : goal.returns-in-Err-clause-words
returns-in-Err-clause-words c = λ words. (
  c.in-Err-Words.ensures.words (rw c.in-Err-Words.field-0-is refl),
  c.in-Err-Words-read_make.ensures.words (rw c.in-Err-Words-read_make.field-0-is refl),
  c.in-Err-Words-read_boxes.ensures.words (rw c.in-Err-Words-read_boxes.field-0-is refl),
  c.in-Err-Words-read_same.ensures.words (rw c.in-Err-Words-read_same.field-0-is refl),
  c.in-Err.ensures.words (same_fault _ _ words),
)
