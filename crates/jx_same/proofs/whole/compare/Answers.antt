use Rattle.std.proofs.Common.{◌∙◌, ap, sym}
use Rattle.std.specs.List.{find}
use Rattle.jx_base.proofs.Lists.{some_none}
use Rattle.jx_plan.specs.Meaning.{Meaning, meaning_of}
use Rattle.jx_same.specs.Items.{differs, items_of}
use Rattle.jx_same.proofs.HeaderLemmas.{self_none}
use Rattle.jx_same.proofs.OneLemmas.{means_one}
use Rattle.jx_same.proofs.WithinLemmas.{none_differs}
use Rattle.jx_same.proofs.whole.compare.Goals as goal

pub returns-in_ok-difference_at-in-Some-clause-same : goal.returns-in_ok-difference_at-in-Some-clause-same
returns-in_ok-difference_at-in-Some-clause-same g c = λ one.
    (let own : Meaning = meaning_of c.args.sa.now c.args.ba.now in
    let items = items_of c.args.sa.now in
    let none = ap (λ (m : Meaning). find (differs own m) items) (sym one) ∙ self_none own items in
    absurd (some_none c.in-Some.spot (sym c.in-Some.is ∙ c.in_ok-first_differing.ensures ∙ none)))

pub returns-in_ok-difference_at-in-Some-clause-within : goal.returns-in_ok-difference_at-in-Some-clause-within
returns-in_ok-difference_at-in-Some-clause-within g c = λ one.
    (let none = none_differs c.args.sa.now c.args.sb.now c.args.ba.now c.args.bb.now one in
    absurd (some_none c.in-Some.spot (sym c.in-Some.is ∙ c.in_ok-first_differing.ensures ∙ none)))

pub returns-in-None-clause-one : goal.returns-in-None-clause-one
returns-in-None-clause-one g c = λ same.
    means_one c.args.sa.now c.args.sb.now c.args.ba.now c.args.bb.now c.requires.a c.requires.b (sym c.in_ok-first_differing.ensures ∙ c.in-None.is)
