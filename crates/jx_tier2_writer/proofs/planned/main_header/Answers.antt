use Rattle.std.proofs.Common.{◌≡◌, subst, IfOk}
use Rattle.jx_codestream.specs.declared.Stream.{Stream}
use Rattle.jx_tier2_writer.specs.Tile.{main_bytes}
use Rattle.jx_tier2_writer.proofs.planned.main_header.Goals as goal

pub header_bytes-requires-clause-siz : goal.header_bytes-requires-clause-siz
header_bytes-requires-clause-siz c = c.ready_headers.ensures.ready.siz

pub header_bytes-requires-clause-main : goal.header_bytes-requires-clause-main
header_bytes-requires-clause-main c = c.ready_headers.ensures.ready.main

pub returns : goal.returns
returns c =
    let P : Stream → Type 0 = λ s. IfOk c.header_bytes.result (λ bytes. bytes.items ≡ main_bytes s) in
    subst P c.ready_headers.ensures.value c.header_bytes.ensures
