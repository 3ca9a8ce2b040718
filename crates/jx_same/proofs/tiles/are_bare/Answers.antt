use Rattle.std.proofs.Common.{◌∙◌, ap, sym}
use Rattle.jx_codestream.specs.Params.{header_of}
use Rattle.jx_same.specs.Shared.{gives_some}
use Rattle.jx_same.proofs.SharedLemmas.{bare_from}
use Rattle.jx_same.proofs.tiles.are_bare.Goals as goal

pub returns : goal.returns
returns c = λ is. record {
  one = bare_from (header_of c.args.a.now.stream.now c.args.tile) (ap gives_some (sym c.header.ensures) ∙ sym c.gives_some.ensures ∙ c.if-gives_some.false);
  two = bare_from (header_of c.args.b.now.stream.now c.args.tile) (ap gives_some (sym c.header-2.ensures) ∙ sym c.gives_some-2.ensures ∙ c.if-gives_some-2.false);
}
