use Rattle.std.proofs.Common.{◌∙◌, ◌++◌, ◌∷◌, [], ap}
use Rattle.std.proofs.lemmas.Result.{on_ok_weaker}
use Rattle.byteorder.specs.Endian.{big_bytes}
use Rattle.jx_marker.specs.Values.{shape_bytes}
use Rattle.jx_marker.proofs.PutLemmas.{after, front_kept, kept}
use Rattle.jx_marker.proofs.put.put_cod_body.Goals as goal

pub returns-clause-ok : goal.returns-clause-ok
returns-clause-ok c =
    on_ok_weaker c.put_shape.result (λ e. (after c.args.out.now.items (c.scod.result ∷ c.args.cod.now.order ∷ []) c.extend_from_slice.new.self.items c.put_shape.new.out.items ((big_bytes 2 c.args.cod.now.layers) ++ ((c.args.cod.now.transform ∷ []) ++ (shape_bytes c.args.cod.now.shape))) c.in_ok-extend_from_slice.ensures.items (after c.extend_from_slice.new.self.items (big_bytes 2 c.args.cod.now.layers) c.put_u16.new.out.items c.put_shape.new.out.items ((c.args.cod.now.transform ∷ []) ++ (shape_bytes c.args.cod.now.shape)) c.in_ok-put_u16.ensures.ok (after c.put_u16.new.out.items (c.args.cod.now.transform ∷ []) c.push.new.self.items c.put_shape.new.out.items (shape_bytes c.args.cod.now.shape) c.in_ok-push.ensures.items e))) ∙ ap (λ n. c.args.out.now.items ++ n ∷ c.args.cod.now.order ∷ (big_bytes 2 c.args.cod.now.layers ++ c.args.cod.now.transform ∷ shape_bytes c.args.cod.now.shape)) c.scod.ensures) c.put_shape.ensures.ok

pub returns-clause-front : goal.returns-clause-front
returns-clause-front c =
    let f0 = c.in_ok-extend_from_slice.ensures.items in
    let f1 = after c.args.out.now.items (c.scod.result ∷ c.args.cod.now.order ∷ []) c.extend_from_slice.new.self.items c.put_u16.new.out.items (big_bytes 2 c.args.cod.now.layers) f0 c.in_ok-put_u16.ensures.ok in
    let f2 = after c.args.out.now.items ((c.scod.result ∷ c.args.cod.now.order ∷ []) ++ (big_bytes 2 c.args.cod.now.layers)) c.put_u16.new.out.items c.push.new.self.items (c.args.cod.now.transform ∷ []) f1 c.in_ok-push.ensures.items in
    front_kept c.args.out.now.items (((c.scod.result ∷ c.args.cod.now.order ∷ []) ++ (big_bytes 2 c.args.cod.now.layers)) ++ (c.args.cod.now.transform ∷ [])) c.push.new.self.items c.put_shape.new.out.items f2 c.put_shape.ensures.front

pub returns-in_err-put_u16-clause-front : goal.returns-in_err-put_u16-clause-front
returns-in_err-put_u16-clause-front c =
    let f0 = c.in_ok-extend_from_slice.ensures.items in
    kept c.args.out.now.items (c.scod.result ∷ c.args.cod.now.order ∷ []) c.put_u16.new.out.items (c.in_err-put_u16.ensures.err ∙ f0)

pub returns-in_err-push-clause-front : goal.returns-in_err-push-clause-front
returns-in_err-push-clause-front c =
    let f0 = c.in_ok-extend_from_slice.ensures.items in
    let f1 = after c.args.out.now.items (c.scod.result ∷ c.args.cod.now.order ∷ []) c.extend_from_slice.new.self.items c.put_u16.new.out.items (big_bytes 2 c.args.cod.now.layers) f0 c.in_ok-put_u16.ensures.ok in
    kept c.args.out.now.items ((c.scod.result ∷ c.args.cod.now.order ∷ []) ++ (big_bytes 2 c.args.cod.now.layers)) c.push.new.self.items (c.in_err-push.ensures.items ∙ f1)
