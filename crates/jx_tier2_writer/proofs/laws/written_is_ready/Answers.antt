use Rattle.jx_tier2_writer.proofs.KeptLemmas.{HeaderLaws, written_ready}
use Rattle.jx_tier2_writer.proofs.laws.written_is_ready.Goals as goal

pub returns : goal.returns
returns c =
    let laws : HeaderLaws = record {
      stand = c.written_headers_stand.ensures;
      tiles = c.parameters_stay.ensures.tiles;
      header = c.written_headers_are_plain.ensures.header;
      lengths = c.written_headers_are_plain.ensures.lengths;
      left_main = c.written_headers_are_plain.ensures.left_main;
      left_header = c.written_headers_are_plain.ensures.left_header;
      informs = c.written_headers_are_plain.ensures.informs;
      order = c.written_headers_are_plain.ensures.order;
      cods = c.written_headers_are_plain.ensures.cods;
      limits = c.written_headers_are_plain.ensures.limits;
    } in
    λ w layers s some few may stand range none free. written_ready laws w layers s some few may stand none free
