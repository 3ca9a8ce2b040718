use Rattle.std.proofs.Common.{◌≡◌, ◌+◌, ◌∷◌, length, arith, ap}
use Rattle.byteorder.specs.Endian.{big_bytes}
use Rattle.jx_marker.specs.Codes.{COD}
use Rattle.jx_marker.specs.Values.{cod_bytes}
use Rattle.jx_marker.proofs.PutLemmas.{front_kept, fronted_as, length_cod}
use Rattle.jx_marker.proofs.put.put_cod.Goals as goal

pub returns-clause-ok : goal.returns-clause-ok
returns-clause-ok c =
    let same : 10 + length c.as_slice.result.now ≡ length (cod_bytes c.args.cod.now) = omega (arith, length_cod c.args.cod.now, ap length c.as_slice.ensures) in
    fronted_as COD (10 + length c.as_slice.result.now) c.args.out.now.items c.put_front.new.out.items c.put_cod_body.new.out.items (cod_bytes c.args.cod.now)
    c.in_ok-put_front.ensures.ok c.in_ok-put_cod_body.ensures.ok same

pub returns-clause-front : goal.returns-clause-front
returns-clause-front c =
    front_kept c.args.out.now.items (0xFF ∷ COD ∷ big_bytes 2 (2 + (10 + length c.as_slice.result.now))) c.put_front.new.out.items c.put_cod_body.new.out.items c.in_ok-put_front.ensures.ok c.put_cod_body.ensures.front

pub returns-in_err-put_cod_body-clause-front : goal.returns-in_err-put_cod_body-clause-front
returns-in_err-put_cod_body-clause-front c =
    front_kept c.args.out.now.items (0xFF ∷ COD ∷ big_bytes 2 (2 + (10 + length c.as_slice.result.now))) c.put_front.new.out.items c.put_cod_body.new.out.items c.in_ok-put_front.ensures.ok c.put_cod_body.ensures.front
