use Rattle.jx_codestream.proofs.TileLemmas.{tiles_are}
use Rattle.jx_codestream.proofs.tiles.tiles_of.Goals as goal

pub returns : goal.returns
returns c = tiles_are c.args.main.now c.args.parts.items c.args.count c.in_ok-drafts.drafts.items c.in_ok-tiles.tiles.items c.in_ok-drafts.ensures.count c.in_ok-tiles.ensures.count c.in_ok-drafts.ensures.each c.in_ok-tiles.ensures.each
