use Rattle.std.proofs.Common.{drop, ap, arith, ◌∙◌}
use Rattle.jx_tier2_reader.specs.Cuts.{Left}
use Rattle.jx_tier2_reader.specs.Reading.{seen}
use Rattle.jx_tier2_reader.proofs.TileLemmas.{used_up}
use Rattle.jx_tier2_reader.proofs.rest.Rest.check_left.Goals as goal

pub returns : goal.returns
returns c =
    used_up c.args.pieces.now c.args.self.now c.due-body.result (drop 1 c.due-body.new.self.bodies) (seen c.self.inside.packed) c.check_used_up.result
    (c.due-body.ensures.due ∙ c.due-body.ensures.first) (omega (arith, c.if-body-gt0.false)) (ap (λ (l : Left). l.packed) c.self.view_is) c.check_used_up.ensures
