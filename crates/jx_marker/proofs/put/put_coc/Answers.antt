use Rattle.std.proofs.Common.{◌≡◌, ◌+◌, ◌∙◌, ◌++◌, ◌∷◌, [], ap, arith, length, length-append}
use Rattle.std.proofs.lemmas.Result.{on_ok_weaker}
use Rattle.byteorder.specs.Endian.{big_bytes}
use Rattle.byteorder.specs.Numbers.{length-bytes_high_first}
use Rattle.jx_marker.specs.Codes.{COC}
use Rattle.jx_marker.specs.Markers.{index_size}
use Rattle.jx_marker.specs.Values.{index_bytes, precinct_bit, shape_bytes}
use Rattle.jx_marker.proofs.PutLemmas.{after, front_kept, fronted_as, kept}
use Rattle.jx_marker.proofs.put.put_coc.Goals as goal

pub returns-clause-ok : goal.returns-clause-ok
returns-clause-ok c =
    let long = length-bytes_high_first (index_size c.args.comps) c.args.comp in
    let same : c.index_size-size.result + 6 + length c.as_slice.result.now ≡ length (index_bytes c.args.comps c.args.comp ++ precinct_bit c.args.shape.now ∷ shape_bytes c.args.shape.now) =
    omega (arith, long, length-append (index_bytes c.args.comps c.args.comp) (precinct_bit c.args.shape.now ∷ shape_bytes c.args.shape.now), c.index_size-size.ensures.value, ap length c.as_slice.ensures) in
    on_ok_weaker c.put_shape.result (λ e. fronted_as COC (c.index_size-size.result + 6 + length c.as_slice.result.now) c.args.out.now.items c.put_front.new.out.items c.put_shape.new.out.items (index_bytes c.args.comps c.args.comp ++ precinct_bit c.args.shape.now ∷ shape_bytes c.args.shape.now) c.in_ok-put_front.ensures.ok
    (after c.put_front.new.out.items (big_bytes c.index_size-size.result c.args.comp) c.put_narrow.new.out.items c.put_shape.new.out.items ((c.precinct_bit.result ∷ []) ++ (shape_bytes c.args.shape.now)) c.in_ok-put_narrow.ensures.ok (after c.put_narrow.new.out.items (c.precinct_bit.result ∷ []) c.push.new.self.items c.put_shape.new.out.items (shape_bytes c.args.shape.now) c.in_ok-push.ensures.items e)
    ∙ (ap (λ n. c.put_front.new.out.items ++ (big_bytes c.index_size-size.result c.args.comp ++ n ∷ shape_bytes c.args.shape.now)) c.precinct_bit.ensures
    ∙ ap (λ s. c.put_front.new.out.items ++ (big_bytes s c.args.comp ++ precinct_bit c.args.shape.now ∷ shape_bytes c.args.shape.now)) c.index_size-size.ensures.value))
    same) c.put_shape.ensures.ok

pub returns-clause-front : goal.returns-clause-front
returns-clause-front c =
    let f0 = c.in_ok-put_front.ensures.ok in
    let f1 = after c.args.out.now.items (0xFF ∷ COC ∷ big_bytes 2 (2 + (c.index_size-size.result + 6 + length c.as_slice.result.now))) c.put_front.new.out.items c.put_narrow.new.out.items (big_bytes c.index_size-size.result c.args.comp) f0 c.in_ok-put_narrow.ensures.ok in
    let f2 = after c.args.out.now.items ((0xFF ∷ COC ∷ big_bytes 2 (2 + (c.index_size-size.result + 6 + length c.as_slice.result.now))) ++ (big_bytes c.index_size-size.result c.args.comp)) c.put_narrow.new.out.items c.push.new.self.items (c.precinct_bit.result ∷ []) f1 c.in_ok-push.ensures.items in
    front_kept c.args.out.now.items (((0xFF ∷ COC ∷ big_bytes 2 (2 + (c.index_size-size.result + 6 + length c.as_slice.result.now))) ++ (big_bytes c.index_size-size.result c.args.comp)) ++ (c.precinct_bit.result ∷ [])) c.push.new.self.items c.put_shape.new.out.items f2 c.put_shape.ensures.front

pub returns-in_err-put_narrow-clause-front : goal.returns-in_err-put_narrow-clause-front
returns-in_err-put_narrow-clause-front c =
    let f0 = c.in_ok-put_front.ensures.ok in
    kept c.args.out.now.items (0xFF ∷ COC ∷ big_bytes 2 (2 + (c.index_size-size.result + 6 + length c.as_slice.result.now))) c.put_narrow.new.out.items (c.in_err-put_narrow.ensures.err ∙ f0)

pub returns-in_err-push-clause-front : goal.returns-in_err-push-clause-front
returns-in_err-push-clause-front c =
    let f0 = c.in_ok-put_front.ensures.ok in
    let f1 = after c.args.out.now.items (0xFF ∷ COC ∷ big_bytes 2 (2 + (c.index_size-size.result + 6 + length c.as_slice.result.now))) c.put_front.new.out.items c.put_narrow.new.out.items (big_bytes c.index_size-size.result c.args.comp) f0 c.in_ok-put_narrow.ensures.ok in
    kept c.args.out.now.items ((0xFF ∷ COC ∷ big_bytes 2 (2 + (c.index_size-size.result + 6 + length c.as_slice.result.now))) ++ (big_bytes c.index_size-size.result c.args.comp)) c.push.new.self.items (c.in_err-push.ensures.items ∙ f1)
