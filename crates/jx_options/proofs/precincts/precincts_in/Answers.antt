use Rattle.std.proofs.Common.{◌≡◌, ◌+◌, ◌-◌, ◌∙◌, ◌∷◌, ap, suc, arith, []}
use Rattle.jx_options.specs.Parts.{more_parts}
use Rattle.jx_options.specs.Values.{item_in, parts_of, precincts_in}
use Rattle.jx_options.proofs.ListLemmas.{begins, ends, put_on, refused, too_many}
use Rattle.jx_options.proofs.precincts.precincts_in.Goals as goal

pub loop-turn-init : goal.loop-turn-init
unfolding precincts_in
loop-turn-init c = begins item_in _ 33 (parts_of 44 _) c.new-bytes.ensures.items

pub returns-in-None : goal.returns-in-None
returns-in-None c =
    let left : 33 - c.loop-turn._turn ≡ suc (33 - (c.loop-turn._turn + 1)) = omega arith in
    refused item_in _ _ _ _ _ _ _ left c.in-None.ensures c.first_part.ensures.parts c.loop-turn.invariant

pub returns-in-None-more : goal.returns-in-None-more
returns-in-None-more c =
    let left : 33 - c.loop-turn._turn ≡ suc (33 - (c.loop-turn._turn + 1)) = omega arith in
    ends item_in _ _ _ (put_on item_in _ _ _ _ _ [] _ _ _ left c.in-Some.ensures c.in_ok-push-in-Some.ensures.items (c.first_part.ensures.parts ∙ ap (λ m. c.first_part.result.0.now ∷ more_parts 44 m) c.in-None-more.is) c.loop-turn.invariant)

pub loop-turn-preserved : goal.loop-turn-preserved
loop-turn-preserved c =
    let left : 33 - c.loop-turn._turn ≡ suc (33 - (c.loop-turn._turn + 1)) = omega arith in
    put_on item_in _ _ _ _ _ _ _ _ _ left c.in-Some.ensures c.in_ok-push-in-Some.ensures.items (c.first_part.ensures.parts ∙ ap (λ m. c.first_part.result.0.now ∷ more_parts 44 m) c.in-Some-more.is) c.loop-turn.invariant

pub returns : goal.returns
returns c = too_many item_in 44 _ _ _ _ (omega arith) c.loop-turn.invariant
