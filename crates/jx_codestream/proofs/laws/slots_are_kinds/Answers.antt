use Rattle.jx_codestream.proofs.KindLemmas.{cod_slot, qcd_slot, poc_slot, crg_slot, packed_slot, coc_slot, qcc_slot, rgn_slot}
use Rattle.jx_codestream.proofs.laws.slots_are_kinds.Goals as goal

pub returns-clause-cod : goal.returns-clause-cod
returns-clause-cod c = cod_slot

pub returns-clause-qcd : goal.returns-clause-qcd
returns-clause-qcd c = qcd_slot

pub returns-clause-poc : goal.returns-clause-poc
returns-clause-poc c = poc_slot

pub returns-clause-crg : goal.returns-clause-crg
returns-clause-crg c = crg_slot

pub returns-clause-packed : goal.returns-clause-packed
returns-clause-packed c = packed_slot

pub returns-clause-coc : goal.returns-clause-coc
returns-clause-coc c = coc_slot

pub returns-clause-qcc : goal.returns-clause-qcc
returns-clause-qcc c = qcc_slot

pub returns-clause-rgn : goal.returns-clause-rgn
returns-clause-rgn c = rgn_slot
