use Rattle.std.proofs.Common.{rules, ◌≡◌, ◌+◌, ◌-◌, ◌∙◌, ◌∷◌, ap, suc, arith, []}
use Rattle.jx_options.specs.Parts.{more_parts}
use Rattle.jx_options.specs.Values.{parts_of}
use Rattle.jx_options.specs.Volumes.{volume_in, volumes_in}
use Rattle.jx_options.proofs.ListLemmas.{begins, ends, put_on, refused, too_many}
use Rattle.jx_options.proofs.volumes.volumes_in.Goals as goal

pub loop-turn-init : goal.loop-turn-init
unfolding volumes_in
loop-turn-init c = (search rules, begins volume_in _ 32 (parts_of 47 _) c.new-volumes.ensures.items)

pub returns-in-None : goal.returns-in-None
returns-in-None c =
    let left : 32 - c.loop-turn._turn ≡ suc (32 - (c.loop-turn._turn + 1)) = omega arith in
    refused volume_in _ _ _ _ _ _ _ left c.in-None.ensures c.at_slash.ensures c.loop-turn.invariant.1

pub returns-in-None-more : goal.returns-in-None-more
returns-in-None-more c =
    let left : 32 - c.loop-turn._turn ≡ suc (32 - (c.loop-turn._turn + 1)) = omega arith in
    ends volume_in _ _ _ (put_on volume_in _ _ _ _ _ [] _ _ _ left c.in-Some.ensures c.in_ok-push-in-Some.ensures.items (c.at_slash.ensures ∙ ap (λ m. c.at_slash.result.0.now ∷ more_parts 47 m) c.in-None-more.is) c.loop-turn.invariant.1)

pub loop-turn-preserved : goal.loop-turn-preserved
loop-turn-preserved c =
    let left : 32 - c.loop-turn._turn ≡ suc (32 - (c.loop-turn._turn + 1)) = omega arith in
    (search rules, put_on volume_in _ _ _ _ _ _ _ _ _ left c.in-Some.ensures c.in_ok-push-in-Some.ensures.items (c.at_slash.ensures ∙ ap (λ m. c.at_slash.result.0.now ∷ more_parts 47 m) c.in-Some-more.is) c.loop-turn.invariant.1)

pub returns : goal.returns
returns c = too_many volume_in 47 _ _ _ _ (omega arith) c.loop-turn.invariant.1
