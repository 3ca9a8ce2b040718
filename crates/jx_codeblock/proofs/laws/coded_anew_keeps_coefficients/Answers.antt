use Rattle.jx_codeblock.proofs.CoefLemmas.{KeepsCells, keeps_cells, keeps_first, keeps_right}
use Rattle.jx_codeblock.proofs.laws.coded_anew_keeps_coefficients.Goals as goal

pub returns-clause-cells : goal.returns-clause-cells
returns-clause-cells c b style ends r asked e =
    let k : KeepsCells = record {
      alike = c.recoding_keeps_coefficients.ensures.first;
      whole = c.recoding_keeps_whole_planes.ensures;
      size = c.decoded_fits.ensures.size;
      right = c.written_is_read_back.ensures.right;
    } in
    keeps_cells k b style ends asked r e

pub returns-clause-right : goal.returns-clause-right
returns-clause-right c b style ends r asked e =
    let k : KeepsCells = record {
      alike = c.recoding_keeps_coefficients.ensures.first;
      whole = c.recoding_keeps_whole_planes.ensures;
      size = c.decoded_fits.ensures.size;
      right = c.written_is_read_back.ensures.right;
    } in
    keeps_right k b style ends asked r e

pub returns-clause-first : goal.returns-clause-first
returns-clause-first c b style ends r first asked e le keeps =
    let k : KeepsCells = record {
      alike = c.recoding_keeps_coefficients.ensures.first;
      whole = c.recoding_keeps_whole_planes.ensures;
      size = c.decoded_fits.ensures.size;
      right = c.written_is_read_back.ensures.right;
    } in
    keeps_first k b style ends asked r first e le keeps
