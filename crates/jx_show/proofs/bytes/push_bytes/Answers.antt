use Rattle.std.proofs.Common.{◌≡◌, ◌++◌, arith, get_or, string_bytes, sum_by}
use Rattle.std.proofs.lemmas.Grind.{common_steps}
use Rattle.jx_show.specs.Facts.{byte_facts, bytes_in_comp}
use Rattle.jx_show.specs.Stated.{text_of}
use Rattle.jx_show.proofs.TextLemmas.{next, none}
use Rattle.jx_show.proofs.bytes.push_bytes.Goals as goal

pub loop-comp-init : goal.loop-comp-init
loop-comp-init c = none c.args.json (string_bytes c.args.text.now) (byte_facts c.args.blocks.now) 0 0 (omega arith)

pub loop-comp-preserved : goal.loop-comp-preserved
loop-comp-preserved c =
    let sum : get_or c.in_ok-sums.sums.items c.loop-comp.comp 0 ≡ sum_by (bytes_in_comp c.loop-comp.comp) c.args.blocks.now =
    c.in_ok-sums.ensures.each c.loop-comp.comp (omega arith) in
    let step : string_bytes c.push_one.new.text ≡ string_bytes c.loop-comp.text ++ text_of c.args.json (byte_facts c.args.blocks.now c.loop-comp.comp) =
    grind (arith, common_steps, sum) in
    next c.args.json (string_bytes c.args.text.now) (string_bytes c.loop-comp.text) (string_bytes c.push_one.new.text) (byte_facts c.args.blocks.now) 0 c.loop-comp.comp
    (omega arith) c.loop-comp.invariant step
