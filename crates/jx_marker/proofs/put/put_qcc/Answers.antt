use Rattle.std.proofs.Common.{◌≡◌, ◌∙◌, ◌+◌, ◌*◌, ◌++◌, ◌∷◌, ℕ, List, ap, length, sym}
use Rattle.std.proofs.lemmas.Result.{on_ok_weaker}
use Rattle.byteorder.specs.Endian.{big_bytes}
use Rattle.jx_marker.specs.Codes.{QCC}
use Rattle.jx_marker.specs.Markers.{index_size}
use Rattle.jx_marker.specs.Values.{index_bytes, quant_bytes}
use Rattle.jx_marker.proofs.PutLemmas.{front_kept, fronted_as, length_qcc}
use Rattle.jx_marker.proofs.put.put_qcc.Goals as goal

pub returns-clause-ok : goal.returns-clause-ok
returns-clause-ok c =
    let same : (c.index_size.result + 1 + length c.as_slice.result.now * c.entry_size.result) ≡ length (index_bytes c.args.comps c.args.comp ++ quant_bytes c.args.quant.now) =
    ap (λ n. n + 1 + length c.as_slice.result.now * c.entry_size.result) c.index_size.ensures.value
    ∙ (ap (λ (xs : List ℕ). index_size c.args.comps + 1 + length xs * c.entry_size.result) c.as_slice.ensures
    ∙ (ap (λ s. index_size c.args.comps + 1 + length c.args.quant.now.entries * s) c.entry_size.ensures.value ∙ sym (length_qcc c.args.comps c.args.comp c.args.quant.now))) in
    on_ok_weaker c.put_qcc_body.result (λ e. fronted_as QCC (c.index_size.result + 1 + length c.as_slice.result.now * c.entry_size.result) c.args.out.now.items c.put_front.new.out.items c.put_qcc_body.new.out.items (index_bytes c.args.comps c.args.comp ++ quant_bytes c.args.quant.now) c.in_ok-put_front.ensures.ok e same) c.put_qcc_body.ensures.ok

pub returns-clause-front : goal.returns-clause-front
returns-clause-front c =
    front_kept c.args.out.now.items (0xFF ∷ QCC ∷ big_bytes 2 (2 + (c.index_size.result + 1 + length c.as_slice.result.now * c.entry_size.result))) c.put_front.new.out.items c.put_qcc_body.new.out.items c.in_ok-put_front.ensures.ok c.put_qcc_body.ensures.front
