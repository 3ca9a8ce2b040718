use Rattle.std.proofs.Common.{map}
use Rattle.jx_generate.specs.Values.{drawn_of}
use Rattle.jx_generate.proofs.PictureLemmas.{precinct_in}
use Rattle.jx_generate.proofs.picture.Picture.push_band.Goals as goal

pub blocks-requires-clause-res : goal.blocks-requires-clause-res
blocks-requires-clause-res c =
    (precinct_in (record { seed = c.self.inside.seed; width = c.self.inside.width; height = c.self.inside.height }) c.self.inside.geom (map drawn_of c.self.inside.blocks.items) c.args.comp c.args.res
    c.self.invariant c.requires.comp c.requires.res).resolution

pub blocks-requires-clause-precinct : goal.blocks-requires-clause-precinct
blocks-requires-clause-precinct c =
    (precinct_in (record { seed = c.self.inside.seed; width = c.self.inside.width; height = c.self.inside.height }) c.self.inside.geom (map drawn_of c.self.inside.blocks.items) c.args.comp c.args.res
    c.self.invariant c.requires.comp c.requires.res).precinct
