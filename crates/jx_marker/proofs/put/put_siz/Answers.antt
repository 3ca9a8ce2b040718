use Rattle.std.proofs.Common.{◌≡◌, ◌∙◌, ◌+◌, ◌*◌, ◌∷◌, List, ap, length, sym}
use Rattle.byteorder.specs.Endian.{big_bytes}
use Rattle.jx_marker.specs.Codes.{SIZ}
use Rattle.jx_marker.specs.declared.CompSize.{CompSize}
use Rattle.jx_marker.specs.Values.{siz_bytes}
use Rattle.jx_marker.proofs.PutLemmas.{front_kept, fronted_as, length_siz}
use Rattle.jx_marker.proofs.put.put_siz.Goals as goal

pub returns-clause-ok : goal.returns-clause-ok
returns-clause-ok c =
    let same : (36 + 3 * length c.as_slice.result.now) ≡ length (siz_bytes c.args.siz.now) =
    ap (λ (xs : List CompSize). 36 + 3 * length xs) c.as_slice.ensures ∙ sym (length_siz c.args.siz.now) in
    fronted_as SIZ (36 + 3 * length c.as_slice.result.now) c.args.out.now.items c.put_front.new.out.items c.put_siz_body.new.out.items (siz_bytes c.args.siz.now) c.in_ok-put_front.ensures.ok c.in_ok-put_siz_body.ensures.ok same

pub returns-clause-front : goal.returns-clause-front
returns-clause-front c =
    front_kept c.args.out.now.items (0xFF ∷ SIZ ∷ big_bytes 2 (2 + (36 + 3 * length c.as_slice.result.now))) c.put_front.new.out.items c.put_siz_body.new.out.items c.in_ok-put_front.ensures.ok c.put_siz_body.ensures.front

pub returns-in_err-put_siz_body-clause-front : goal.returns-in_err-put_siz_body-clause-front
returns-in_err-put_siz_body-clause-front c =
    front_kept c.args.out.now.items (0xFF ∷ SIZ ∷ big_bytes 2 (2 + (36 + 3 * length c.as_slice.result.now))) c.put_front.new.out.items c.put_siz_body.new.out.items c.in_ok-put_front.ensures.ok c.put_siz_body.ensures.front
