use Rattle.std.proofs.Common.{◌≡◌, ◌++◌, arith, string_bytes}
use Rattle.std.proofs.lemmas.Grind.{common_steps}
use Rattle.jx_show.specs.Facts.{comp_facts}
use Rattle.jx_show.specs.Stated.{text_of}
use Rattle.jx_show.proofs.TextLemmas.{next, none}
use Rattle.jx_show.proofs.picture.push_comps.Goals as goal

pub loop-comp-init : goal.loop-comp-init
loop-comp-init c = none c.args.json (string_bytes c.args.text.now) (comp_facts c.args.siz.now) 0 0 (omega arith)

pub loop-comp-preserved : goal.loop-comp-preserved
loop-comp-preserved c =
    let step : string_bytes c.push_differing.new.text ≡ string_bytes c.loop-comp.text ++ text_of c.args.json (comp_facts c.args.siz.now c.loop-comp.comp) = grind (arith, common_steps) in
    next c.args.json (string_bytes c.args.text.now) (string_bytes c.loop-comp.text) (string_bytes c.push_differing.new.text) (comp_facts c.args.siz.now) 0 c.loop-comp.comp
    (omega arith) c.loop-comp.invariant step
