use Rattle.jx_codeblock.proofs.MadeBlocks.{made_cells, written_cells}
use Rattle.jx_codeblock.proofs.laws.written_keeps_coefficients.Goals as goal

pub returns-clause-asked : goal.returns-clause-asked
returns-clause-asked c b style ends r asked e = made_cells c.coded_anew_keeps_coefficients.ensures.cells b style ends r asked e

pub returns-clause-own : goal.returns-clause-own
returns-clause-own c asked b sound causal = written_cells c.coded_anew_keeps_coefficients.ensures.cells asked b sound causal
