use Rattle.std.proofs.Common.{◌≡◌, ◌+◌, ◌∙◌, ◌++◌, ◌∷◌, [], ap, arith, length, length-append}
use Rattle.byteorder.specs.Endian.{big_bytes}
use Rattle.byteorder.specs.Numbers.{length-bytes_high_first}
use Rattle.jx_marker.specs.Codes.{RGN}
use Rattle.jx_marker.specs.Markers.{index_size}
use Rattle.jx_marker.specs.Values.{index_bytes}
use Rattle.jx_marker.proofs.PutLemmas.{after, fronted_as, kept}
use Rattle.jx_marker.proofs.put.put_rgn.Goals as goal

pub returns-clause-ok : goal.returns-clause-ok
returns-clause-ok c =
    let long = length-bytes_high_first (index_size c.args.comps) c.args.comp in
    let same : c.index_size-size.result + 2 ≡ length (index_bytes c.args.comps c.args.comp ++ 0 ∷ c.args.shift ∷ []) = omega (arith, long, length-append (index_bytes c.args.comps c.args.comp) (0 ∷ c.args.shift ∷ []), c.index_size-size.ensures.value) in
    fronted_as RGN (c.index_size-size.result + 2) c.args.out.now.items c.put_front.new.out.items c.extend_from_slice.new.self.items (index_bytes c.args.comps c.args.comp ++ 0 ∷ c.args.shift ∷ []) c.in_ok-put_front.ensures.ok
    (after c.put_front.new.out.items (big_bytes c.index_size-size.result c.args.comp) c.put_narrow.new.out.items c.extend_from_slice.new.self.items (0 ∷ c.args.shift ∷ []) c.in_ok-put_narrow.ensures.ok c.in_ok-extend_from_slice.ensures.items
    ∙ ap (λ s. c.put_front.new.out.items ++ (big_bytes s c.args.comp ++ 0 ∷ c.args.shift ∷ [])) c.index_size-size.ensures.value) same

pub returns-clause-front : goal.returns-clause-front
returns-clause-front c =
    let f0 = c.in_ok-put_front.ensures.ok in
    let f1 = after c.args.out.now.items (0xFF ∷ RGN ∷ big_bytes 2 (2 + (c.index_size-size.result + 2))) c.put_front.new.out.items c.put_narrow.new.out.items (big_bytes c.index_size-size.result c.args.comp) f0 c.in_ok-put_narrow.ensures.ok in
    let f2 = after c.args.out.now.items ((0xFF ∷ RGN ∷ big_bytes 2 (2 + (c.index_size-size.result + 2))) ++ (big_bytes c.index_size-size.result c.args.comp)) c.put_narrow.new.out.items c.extend_from_slice.new.self.items (0 ∷ c.args.shift ∷ []) f1 c.in_ok-extend_from_slice.ensures.items in
    kept c.args.out.now.items (((0xFF ∷ RGN ∷ big_bytes 2 (2 + (c.index_size-size.result + 2))) ++ (big_bytes c.index_size-size.result c.args.comp)) ++ (0 ∷ c.args.shift ∷ [])) c.extend_from_slice.new.self.items f2

pub returns-in_err-put_narrow-clause-front : goal.returns-in_err-put_narrow-clause-front
returns-in_err-put_narrow-clause-front c =
    let f0 = c.in_ok-put_front.ensures.ok in
    kept c.args.out.now.items (0xFF ∷ RGN ∷ big_bytes 2 (2 + (c.index_size-size.result + 2))) c.put_narrow.new.out.items (c.in_err-put_narrow.ensures.err ∙ f0)

pub returns-in_err-extend_from_slice-clause-front : goal.returns-in_err-extend_from_slice-clause-front
returns-in_err-extend_from_slice-clause-front c =
    let f0 = c.in_ok-put_front.ensures.ok in
    let f1 = after c.args.out.now.items (0xFF ∷ RGN ∷ big_bytes 2 (2 + (c.index_size-size.result + 2))) c.put_front.new.out.items c.put_narrow.new.out.items (big_bytes c.index_size-size.result c.args.comp) f0 c.in_ok-put_narrow.ensures.ok in
    kept c.args.out.now.items ((0xFF ∷ RGN ∷ big_bytes 2 (2 + (c.index_size-size.result + 2))) ++ (big_bytes c.index_size-size.result c.args.comp)) c.extend_from_slice.new.self.items (c.in_err-extend_from_slice.ensures.items ∙ f1)
