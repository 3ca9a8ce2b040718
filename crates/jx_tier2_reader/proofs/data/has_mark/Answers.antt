use Rattle.std.proofs.Common.{◌-◌, ◌||◌, ◌==◌, length, slice_index, Bool, ap, sym, ◌∙◌}
use Rattle.jx_tier2_reader.proofs.DataLemmas.{last_more, last_kept}
use Rattle.jx_tier2_reader.proofs.data.has_mark.Goals as goal

pub returns-then-has_pair : goal.returns-then-has_pair
returns-then-has_pair c = c.if-has_pair.true ∙ sym (last_kept c.args.bytes.now (sym c.has_pair.ensures ∙ c.if-has_pair.true))

pub returns-then-bytes-gt0 : goal.returns-then-bytes-gt0
returns-then-bytes-gt0 c =
    let last : Bool = slice_index c.args.bytes.now (length c.args.bytes.now - 1) == 255 in
    ap (λ (b : Bool). b || last) (sym c.if-has_pair.false ∙ c.has_pair.ensures) ∙ sym (last_more c.args.bytes.now c.if-bytes-gt0.true)
