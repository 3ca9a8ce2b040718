use Rattle.std.proofs.Common.{arith, ◌∙◌, ℕ, List, [], ◌∷◌, ◌++◌, ap}
use Rattle.std.specs.Option.{option_map}
use Rattle.jx_tier2_writer.specs.declared.index.PartLength.{PartLength}
use Rattle.jx_rounds.proofs.SentLemmas.{behind_all, behind_next}
use Rattle.jx_rounds.proofs.lengths.Lengths.put_tile.Goals as goal

pub loop-part-preserved : goal.loop-part-preserved
loop-part-preserved c = behind_next c.args.tile c.args.packed.now c.loop-part.part c.loop-part.self _ (omega (arith, c.loop-part-test.true, c.parts-part-end.ensures)) (c.in_ok-push.ensures ∙ ap (λ (n : ℕ). option_map (λ (l : List PartLength). l ++ (record { tile = c.args.tile; length = n }) ∷ []) c.loop-part.self) c.size.ensures) ∙ c.loop-part.invariant

pub returns : goal.returns
returns c = behind_all c.args.tile c.args.packed.now c.loop-part.part c.loop-part.self _ (omega (arith, c.loop-part-test.false, c.parts-part-end.ensures)) c.loop-part.invariant
