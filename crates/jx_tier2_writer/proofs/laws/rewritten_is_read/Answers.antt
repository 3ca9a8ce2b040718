use Rattle.jx_tier2_writer.proofs.KeptLemmas.{HeaderLaws, KeepLaws, LayerLaws, rewritten_read}
use Rattle.jx_tier2_writer.proofs.laws.rewritten_is_read.Goals as goal

pub returns : goal.returns
returns c =
    let laws : HeaderLaws = record {
      stand = c.written_headers_stand.ensures;
      tiles = c.parameters_stay.ensures.tiles;
      header = c.written_headers_are_plain.ensures.header;
      lengths = c.written_headers_are_plain.ensures.lengths;
      left_main = c.written_headers_are_plain.ensures.left_main;
      left_header = c.written_headers_are_plain.ensures.left_header;
      informs = c.written_headers_are_plain.ensures.informs;
      order = c.written_headers_are_plain.ensures.order;
      cods = c.written_headers_are_plain.ensures.cods;
      limits = c.written_headers_are_plain.ensures.limits;
    } in
    let keep : KeepLaws = record {
      params = c.parameters_stay.ensures.params;
      steps = c.parameters_stay.ensures.steps;
      planes = c.parameters_stay.ensures.planes;
      places = c.parameters_stay.ensures.geometries;
      blocks = c.written_blocks_stand.ensures.blocks;
      sound = c.written_blocks_stand.ensures.sound;
      meaning = c.meaning_stays.ensures.written;
    } in
    let told : LayerLaws = record {
      whole = c.breaks_are_told.ensures.none;
      asked = c.jobs_have_these_ends.ensures.asked;
      final = c.first_layers_are_final.ensures;
    } in
    rewritten_read laws keep told
