use Rattle.jx_transcode.proofs.BoxesVerdictLemmas.{one_of_boxes, some_of_boxes}
use Rattle.jx_transcode.proofs.laws.boxes_have_one_verdict.Goals as goal

pub returns-clause-one : goal.returns-clause-one
returns-clause-one c = λ limit input s t x y. one_of_boxes (record { either = c.one_tree.ensures.either; fault = c.one_tree.ensures.fault }) limit input s t x y

pub returns-clause-some : goal.returns-clause-some
returns-clause-some c = λ limit input. some_of_boxes c.some_tree.ensures limit input
