use Rattle.std.proofs.Common.{rules, ◌≡◌, ◌+◌, [], ◌∷◌, ◌++◌}
use Rattle.jx_rounds.proofs.FrontLemmas.{lead_tile}
use Rattle.jx_rounds.proofs.rounds.push_packed.Goals as goal

pub returns-clause-lead : goal.returns-clause-lead
returns-clause-lead c =
    let items : c.push.new.self.items ≡ c.args.tiles.now.items ++ c.in-Ok.out ∷ [] = search rules in
    λ first count lead. lead_tile c.args.making.now first c.args.tile (c.args.tile + 1) c.args.tiles.now.items c.in-Ok.out c.push.new.self.items items count lead c.in-Ok.ensures.parts
