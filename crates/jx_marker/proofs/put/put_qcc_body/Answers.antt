use Rattle.std.proofs.Common.{◌∙◌, ◌++◌, ap}
use Rattle.std.proofs.lemmas.Result.{on_ok_weaker}
use Rattle.byteorder.specs.Endian.{big_bytes}
use Rattle.jx_marker.specs.Values.{quant_bytes}
use Rattle.jx_marker.proofs.PutLemmas.{after, front_kept}
use Rattle.jx_marker.proofs.put.put_qcc_body.Goals as goal

pub returns-clause-ok : goal.returns-clause-ok
returns-clause-ok c =
    on_ok_weaker c.put_quant.result (λ e. after c.args.out.now.items (big_bytes c.index_size.result c.args.comp) c.put_narrow.new.out.items c.put_quant.new.out.items (quant_bytes c.args.quant.now) c.in_ok-put_narrow.ensures.ok e
    ∙ ap (λ s. c.args.out.now.items ++ (big_bytes s c.args.comp ++ quant_bytes c.args.quant.now)) c.index_size.ensures.value) c.put_quant.ensures.ok

pub returns-clause-front : goal.returns-clause-front
returns-clause-front c =
    let f0 = c.in_ok-put_narrow.ensures.ok in
    front_kept c.args.out.now.items (big_bytes c.index_size.result c.args.comp) c.put_narrow.new.out.items c.put_quant.new.out.items f0 c.put_quant.ensures.front
