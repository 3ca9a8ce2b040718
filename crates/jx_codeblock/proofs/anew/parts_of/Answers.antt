use Rattle.std.proofs.Common.{◌∙◌, ap, map}
use Rattle.jx_codeblock.proofs.AnewParts.{few_before}
use Rattle.jx_codeblock.proofs.anew.parts_of.Goals as goal

pub parts_by_ends-requires-clause-few : goal.parts_by_ends-requires-clause-few
parts_by_ends-requires-clause-few c =
    few_before _ c.in_ok-segments.segments (c.in_ok-segments.ensures ∙ ap (map (λ l. l.items)) c.deref.ensures.value) c.requires.few

pub parts_by_looks-requires-clause-few : goal.parts_by_looks-requires-clause-few
parts_by_looks-requires-clause-few c =
    few_before _ c.in_ok-segments.segments (c.in_ok-segments.ensures ∙ ap (map (λ l. l.items)) c.deref.ensures.value) c.requires.few

pub parts_learnt-requires-clause-few : goal.parts_learnt-requires-clause-few
parts_learnt-requires-clause-few c =
    few_before _ c.in_ok-segments.segments (c.in_ok-segments.ensures ∙ ap (map (λ l. l.items)) c.deref.ensures.value) c.requires.few
