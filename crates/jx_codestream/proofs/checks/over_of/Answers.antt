use Rattle.std.proofs.Common.{◌∙◌, ap, not, sym}
use Rattle.jx_codestream.proofs.NamedLemmas.{not_some, over_named}
use Rattle.jx_codestream.proofs.checks.over_of.Goals as goal

pub returns-then-not-names_over : goal.returns-then-not-names_over
returns-then-not-names_over c =
    over_named c.in_ok-own.own.segments.now c.args.header.now c.args.main.now.segments.now c.args.comps c.args.bare_over c.in_ok-own.ensures c.requires
    (not_some c.args.bare_over (c.is_none.ensures ∙ ap not c.if-is_none.true)) (sym c.has_default.ensures ∙ c.if-not-has_default.true)
    (c.names_over.ensures c.if-not-names_over.true)
