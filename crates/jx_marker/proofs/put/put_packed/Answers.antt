use Rattle.std.proofs.Common.{◌∙◌, ◌+◌, ◌++◌, ◌∷◌, ◌≡◌, List, ℕ, [], length, arith}
use Rattle.byteorder.specs.Endian.{big_bytes}
use Rattle.jx_marker.proofs.PutLemmas.{after, fronted_as, kept}
use Rattle.jx_marker.proofs.put.put_packed.Goals as goal

pub returns-clause-ok : goal.returns-clause-ok
returns-clause-ok c =
    let bytes : List ℕ = c.args.bytes.now in
    let middle : List ℕ = c.put_front.new.out.items in
    let last : c.extend_from_slice.new.self.items ≡ middle ++ c.args.index ∷ bytes =
    after middle (c.args.index ∷ []) c.push.new.self.items c.extend_from_slice.new.self.items bytes c.in_ok-push.ensures.items c.in_ok-extend_from_slice.ensures.items in
    fronted_as c.args.code (1 + length bytes) c.args.out.now.items middle c.extend_from_slice.new.self.items (c.args.index ∷ bytes) c.in_ok-put_front.ensures.ok last (omega arith)

pub returns-clause-front : goal.returns-clause-front
returns-clause-front c =
    let bytes : List ℕ = c.args.bytes.now in
    let front : List ℕ = 255 ∷ c.args.code ∷ big_bytes 2 (2 + (1 + length bytes)) in
    let middle : List ℕ = c.put_front.new.out.items in
    let last : c.extend_from_slice.new.self.items ≡ middle ++ c.args.index ∷ bytes =
    after middle (c.args.index ∷ []) c.push.new.self.items c.extend_from_slice.new.self.items bytes c.in_ok-push.ensures.items c.in_ok-extend_from_slice.ensures.items in
    kept c.args.out.now.items (front ++ c.args.index ∷ bytes) c.extend_from_slice.new.self.items
    (after c.args.out.now.items front middle c.extend_from_slice.new.self.items (c.args.index ∷ bytes) c.in_ok-put_front.ensures.ok last)

pub returns-in_err-push-clause-front : goal.returns-in_err-push-clause-front
returns-in_err-push-clause-front c =
    kept c.args.out.now.items (255 ∷ c.args.code ∷ big_bytes 2 (2 + (1 + length c.args.bytes.now))) c.push.new.self.items (c.in_err-push.ensures.items ∙ c.in_ok-put_front.ensures.ok)

pub returns-in_err-extend_from_slice-clause-front : goal.returns-in_err-extend_from_slice-clause-front
returns-in_err-extend_from_slice-clause-front c =
    let front : List ℕ = 255 ∷ c.args.code ∷ big_bytes 2 (2 + (1 + length c.args.bytes.now)) in
    kept c.args.out.now.items (front ++ c.args.index ∷ []) c.extend_from_slice.new.self.items
    (c.in_err-extend_from_slice.ensures.items ∙ after c.args.out.now.items front c.put_front.new.out.items c.push.new.self.items (c.args.index ∷ []) c.in_ok-put_front.ensures.ok c.in_ok-push.ensures.items)
