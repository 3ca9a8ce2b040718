use Rattle.std.proofs.Common.{inl, inr, sym, subst}
use Rattle.jx_base.specs.declared.names.Band.{Band}
use Rattle.jx_tier1.specs.Contexts.{HasFirsts}
use Rattle.jx_tier1.specs.declared.tables.TheConstants.{LOW, HIGH, DIAGONAL}
use Rattle.jx_tier1.proofs.ContextLemmas.{low_ll, low_lh, high_hl, diagonal_hh}
use Rattle.jx_tier1.proofs.contexts.firsts_of.Goals as goal

pub returns-in-LL : goal.returns-in-LL
returns-in-LL c =
    elim c.in-LL.is [
      | inl e ↦ subst (λ (b : Band). HasFirsts b 512 LOW) (sym e) low_ll
      | inr e ↦ subst (λ (b : Band). HasFirsts b 512 LOW) (sym e) low_lh
    ]

pub returns-in-HL : goal.returns-in-HL
returns-in-HL c = subst (λ (b : Band). HasFirsts b 512 HIGH) (sym c.in-HL.is) high_hl

pub returns-in-HH : goal.returns-in-HH
returns-in-HH c = subst (λ (b : Band). HasFirsts b 512 DIAGONAL) (sym c.in-HH.is) diagonal_hh
