use Rattle.std.proofs.Common.{◌∙◌, List, map, sym, subst}
use Rattle.jx_packet_header.specs.declared.BandCells.{BandCells}
use Rattle.jx_packet_header.specs.Leafs.{leaf_of}
use Rattle.jx_packet_header.specs.LeavesFit.{LeavesInRange}
use Rattle.jx_packet_header.specs.Precinct.{CellsInRange}
use Rattle.jx_packet_header.specs.Written.{Leafed}
use Rattle.jx_generate.specs.Headers.{AreSizes}
use Rattle.jx_generate.specs.Made.{bands_made}
use Rattle.jx_generate.specs.Making.{Making}
use Rattle.jx_generate.proofs.PrecinctLemmas.{bands_in_range, leaves_in_range}
use Rattle.jx_generate.proofs.picture.Picture.precinct.Goals as goal

pub new-requires-clause-bands : goal.new-requires-clause-bands
new-requires-clause-bands c =
    let sizes : AreSizes c.args.self.now.width c.args.self.now.height = subst (λ (m : Making). AreSizes m.width m.height) c.self.view_is c.self.invariant.sizes in
    subst (λ (x : List BandCells). CellsInRange x) (sym (c.deref.ensures.value ∙ c.in_ok-bands.ensures))
    (bands_in_range c.args.self.now.width c.args.self.now.height c.args.comp c.args.res sizes c.requires.comp c.requires.res)

pub new-requires-clause-leaves : goal.new-requires-clause-leaves
new-requires-clause-leaves c =
    let sizes : AreSizes c.args.self.now.width c.args.self.now.height = subst (λ (m : Making). AreSizes m.width m.height) c.self.view_is c.self.invariant.sizes in
    subst (λ (x : List BandCells). LeavesInRange x (map leaf_of c.in_ok-leaves.leaves.items)) (sym (c.deref.ensures.value ∙ c.in_ok-bands.ensures))
    (subst (λ (x : List Leafed). LeavesInRange (bands_made c.args.self.now.width c.args.self.now.height c.args.comp c.args.res) x) (sym c.in_ok-leaves.ensures)
    (leaves_in_range c.args.self.now.seed c.args.self.now.width c.args.self.now.height c.args.comp c.args.res sizes c.requires.comp c.requires.res))
