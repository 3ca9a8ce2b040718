use Rattle.std.proofs.Common.{List, subst, sym}
use Rattle.jx_marker.specs.declared.Segment.{Segment}
use Rattle.jx_codestream.specs.InRange.{HeadersInRange}
use Rattle.jx_codestream.specs.Params.{header_of}
use Rattle.jx_codestream.specs.TileHeaders.{MainHeaders, with_own}
use Rattle.jx_codestream.proofs.RangeLemmas.{tile_in_range}
use Rattle.jx_codestream.proofs.Stream.tile_view.Goals as goal

pub new-requires : goal.new-requires
new-requires c =
    let s = c.args.self.now in
    let P : MainHeaders → Type 0 = λ m. HeadersInRange (with_own m (header_of s c.args.tile)) in
    let Q : List Segment → Type 0 = λ x. HeadersInRange (with_own c.args.main.now x) in
    subst Q (sym c.header.ensures) (subst P (sym c.requires.main) (tile_in_range s c.args.tile c.requires.range c.requires.tile))
