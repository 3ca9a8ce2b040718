use Rattle.std.proofs.Common.{◌≡◌, ◌∙◌, ◌+◌, ◌*◌, ◌∷◌, ℕ, List, ap, length, sym}
use Rattle.std.proofs.lemmas.Result.{on_ok_weaker}
use Rattle.byteorder.specs.Endian.{big_bytes}
use Rattle.jx_marker.specs.Codes.{QCD}
use Rattle.jx_marker.specs.Values.{quant_bytes}
use Rattle.jx_marker.proofs.PutLemmas.{front_kept, fronted_as, length_quant}
use Rattle.jx_marker.proofs.put.put_qcd.Goals as goal

pub returns-clause-ok : goal.returns-clause-ok
returns-clause-ok c =
    let same : (1 + length c.as_slice.result.now * c.entry_size.result) ≡ length (quant_bytes c.args.quant.now) =
    ap (λ (xs : List ℕ). 1 + length xs * c.entry_size.result) c.as_slice.ensures ∙ (ap (λ s. 1 + length c.args.quant.now.entries * s) c.entry_size.ensures.value ∙ sym (length_quant c.args.quant.now)) in
    on_ok_weaker c.put_quant.result (λ e. fronted_as QCD (1 + length c.as_slice.result.now * c.entry_size.result) c.args.out.now.items c.put_front.new.out.items c.put_quant.new.out.items (quant_bytes c.args.quant.now) c.in_ok-put_front.ensures.ok e same) c.put_quant.ensures.ok

pub returns-clause-front : goal.returns-clause-front
returns-clause-front c =
    front_kept c.args.out.now.items (0xFF ∷ QCD ∷ big_bytes 2 (2 + (1 + length c.as_slice.result.now * c.entry_size.result))) c.put_front.new.out.items c.put_quant.new.out.items c.in_ok-put_front.ensures.ok c.put_quant.ensures.front
