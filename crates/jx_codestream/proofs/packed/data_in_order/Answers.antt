use Rattle.std.proofs.Common.{◌<◌, ◌+◌, ◌^◌, ◌∙◌, [], sym, subst}
use Rattle.std.specs.List.{All}
use Rattle.std.proofs.lemmas.List.Elements.{All-nil}
use Rattle.jx_codestream.specs.declared.packed.PackedSegment.{PackedSegment}
use Rattle.jx_codestream.proofs.PackedLemmas.{all_ascending}
use Rattle.jx_codestream.proofs.packed.data_in_order.Goals as goal

pub push_data-requires : goal.push_data-requires
push_data-requires c =
    let P : PackedSegment → Type 0 = λ (one : PackedSegment). one.place + 5 < 2 ^ 32 in
    subst (All P) (sym (c.deref.ensures.value ∙ c.in_ok-sorted.ensures)) (all_ascending P [] c.args.packed.now (All-nil P) c.requires)
