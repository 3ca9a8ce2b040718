use Rattle.std.proofs.Common.{◌∙◌, ◌+◌, ◌++◌, ◌∷◌, length, refl}
use Rattle.byteorder.specs.Endian.{big_bytes}
use Rattle.jx_marker.proofs.PutLemmas.{after, fronted_as, kept}
use Rattle.jx_marker.proofs.put.put_bytes.Goals as goal

pub returns-clause-ok : goal.returns-clause-ok
returns-clause-ok c =
    fronted_as c.args.code (length c.args.bytes.now) c.args.out.now.items c.put_front.new.out.items c.extend_from_slice.new.self.items c.args.bytes.now c.in_ok-put_front.ensures.ok c.in_ok-extend_from_slice.ensures.items refl

pub returns-clause-front : goal.returns-clause-front
returns-clause-front c =
    kept c.args.out.now.items ((255 ∷ c.args.code ∷ big_bytes 2 (2 + length c.args.bytes.now)) ++ c.args.bytes.now) c.extend_from_slice.new.self.items (after c.args.out.now.items (255 ∷ c.args.code ∷ big_bytes 2 (2 + length c.args.bytes.now)) c.put_front.new.out.items c.extend_from_slice.new.self.items c.args.bytes.now c.in_ok-put_front.ensures.ok c.in_ok-extend_from_slice.ensures.items)

pub returns-in_err-extend_from_slice-clause-front : goal.returns-in_err-extend_from_slice-clause-front
returns-in_err-extend_from_slice-clause-front c =
    kept c.args.out.now.items (255 ∷ c.args.code ∷ big_bytes 2 (2 + length c.args.bytes.now)) c.extend_from_slice.new.self.items (c.in_err-extend_from_slice.ensures.items ∙ c.in_ok-put_front.ensures.ok)
