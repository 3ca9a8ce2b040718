use Rattle.std.proofs.Common.{◌∙◌, ◌-◌, ◌++◌, ◌∷◌, [], ℕ, List, ap}
use Rattle.jx_marker.proofs.PutLemmas.{after, kept}
use Rattle.jx_marker.proofs.put.put_shape.Goals as goal

pub returns-clause-ok : goal.returns-clause-ok
returns-clause-ok c =
    let d0 = after c.args.out.now.items (c.args.shape.now.levels ∷ (c.args.shape.now.xcb - 2) ∷ (c.args.shape.now.ycb - 2) ∷ c.args.shape.now.style ∷ c.args.shape.now.wavelet ∷ []) c.extend_from_slice.new.self.items c.extend_from_slice-2.new.self.items c.as_slice.result.now c.in_ok-extend_from_slice.ensures.items c.in_ok-extend_from_slice-2.ensures.items in
    d0 ∙ ap (λ (xs : List ℕ). c.args.out.now.items ++ c.args.shape.now.levels ∷ (c.args.shape.now.xcb - 2) ∷ (c.args.shape.now.ycb - 2) ∷ c.args.shape.now.style ∷ c.args.shape.now.wavelet ∷ xs) c.as_slice.ensures

pub returns-clause-front : goal.returns-clause-front
returns-clause-front c =
    let f0 = c.in_ok-extend_from_slice.ensures.items in
    let f1 = after c.args.out.now.items (c.args.shape.now.levels ∷ (c.args.shape.now.xcb - 2) ∷ (c.args.shape.now.ycb - 2) ∷ c.args.shape.now.style ∷ c.args.shape.now.wavelet ∷ []) c.extend_from_slice.new.self.items c.extend_from_slice-2.new.self.items c.as_slice.result.now f0 c.in_ok-extend_from_slice-2.ensures.items in
    kept c.args.out.now.items ((c.args.shape.now.levels ∷ (c.args.shape.now.xcb - 2) ∷ (c.args.shape.now.ycb - 2) ∷ c.args.shape.now.style ∷ c.args.shape.now.wavelet ∷ []) ++ c.as_slice.result.now) c.extend_from_slice-2.new.self.items f1

pub returns-in_err-extend_from_slice-2-clause-front : goal.returns-in_err-extend_from_slice-2-clause-front
returns-in_err-extend_from_slice-2-clause-front c =
    let f0 = c.in_ok-extend_from_slice.ensures.items in
    kept c.args.out.now.items (c.args.shape.now.levels ∷ (c.args.shape.now.xcb - 2) ∷ (c.args.shape.now.ycb - 2) ∷ c.args.shape.now.style ∷ c.args.shape.now.wavelet ∷ []) c.extend_from_slice-2.new.self.items (c.in_err-extend_from_slice-2.ensures.items ∙ f0)
