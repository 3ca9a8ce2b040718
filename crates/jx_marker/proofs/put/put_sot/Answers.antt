use Rattle.std.proofs.Common.{◌∙◌, ◌++◌, ◌∷◌, []}
use Rattle.byteorder.specs.Endian.{big_bytes}
use Rattle.jx_marker.specs.Codes.{SOT}
use Rattle.jx_marker.proofs.PutLemmas.{after, kept}
use Rattle.jx_marker.proofs.put.put_sot.Goals as goal

pub returns-clause-ok : goal.returns-clause-ok
returns-clause-ok c =
    let d2 = after c.put_u16.new.out.items (big_bytes 4 c.args.sot.psot) c.put_u32.new.out.items c.extend_from_slice.new.self.items (c.args.sot.part ∷ c.args.sot.parts ∷ []) c.in_ok-put_u32.ensures.ok c.in_ok-extend_from_slice.ensures.items in
    let d1 = after c.put_front.new.out.items (big_bytes 2 c.args.sot.tile) c.put_u16.new.out.items c.extend_from_slice.new.self.items ((big_bytes 4 c.args.sot.psot) ++ (c.args.sot.part ∷ c.args.sot.parts ∷ [])) c.in_ok-put_u16.ensures.ok d2 in
    let d0 = after c.args.out.now.items (0xFF ∷ SOT ∷ big_bytes 2 10) c.put_front.new.out.items c.extend_from_slice.new.self.items ((big_bytes 2 c.args.sot.tile) ++ ((big_bytes 4 c.args.sot.psot) ++ (c.args.sot.part ∷ c.args.sot.parts ∷ []))) c.in_ok-put_front.ensures.ok d1 in
    d0

pub returns-clause-front : goal.returns-clause-front
returns-clause-front c =
    let f0 = c.in_ok-put_front.ensures.ok in
    let f1 = after c.args.out.now.items (0xFF ∷ SOT ∷ big_bytes 2 10) c.put_front.new.out.items c.put_u16.new.out.items (big_bytes 2 c.args.sot.tile) f0 c.in_ok-put_u16.ensures.ok in
    let f2 = after c.args.out.now.items ((0xFF ∷ SOT ∷ big_bytes 2 10) ++ (big_bytes 2 c.args.sot.tile)) c.put_u16.new.out.items c.put_u32.new.out.items (big_bytes 4 c.args.sot.psot) f1 c.in_ok-put_u32.ensures.ok in
    let f3 = after c.args.out.now.items (((0xFF ∷ SOT ∷ big_bytes 2 10) ++ (big_bytes 2 c.args.sot.tile)) ++ (big_bytes 4 c.args.sot.psot)) c.put_u32.new.out.items c.extend_from_slice.new.self.items (c.args.sot.part ∷ c.args.sot.parts ∷ []) f2 c.in_ok-extend_from_slice.ensures.items in
    kept c.args.out.now.items ((((0xFF ∷ SOT ∷ big_bytes 2 10) ++ (big_bytes 2 c.args.sot.tile)) ++ (big_bytes 4 c.args.sot.psot)) ++ (c.args.sot.part ∷ c.args.sot.parts ∷ [])) c.extend_from_slice.new.self.items f3

pub returns-in_err-put_u16-clause-front : goal.returns-in_err-put_u16-clause-front
returns-in_err-put_u16-clause-front c =
    let f0 = c.in_ok-put_front.ensures.ok in
    kept c.args.out.now.items (0xFF ∷ SOT ∷ big_bytes 2 10) c.put_u16.new.out.items (c.in_err-put_u16.ensures.err ∙ f0)

pub returns-in_err-put_u32-clause-front : goal.returns-in_err-put_u32-clause-front
returns-in_err-put_u32-clause-front c =
    let f0 = c.in_ok-put_front.ensures.ok in
    let f1 = after c.args.out.now.items (0xFF ∷ SOT ∷ big_bytes 2 10) c.put_front.new.out.items c.put_u16.new.out.items (big_bytes 2 c.args.sot.tile) f0 c.in_ok-put_u16.ensures.ok in
    kept c.args.out.now.items ((0xFF ∷ SOT ∷ big_bytes 2 10) ++ (big_bytes 2 c.args.sot.tile)) c.put_u32.new.out.items (c.in_err-put_u32.ensures.err ∙ f1)

pub returns-in_err-extend_from_slice-clause-front : goal.returns-in_err-extend_from_slice-clause-front
returns-in_err-extend_from_slice-clause-front c =
    let f0 = c.in_ok-put_front.ensures.ok in
    let f1 = after c.args.out.now.items (0xFF ∷ SOT ∷ big_bytes 2 10) c.put_front.new.out.items c.put_u16.new.out.items (big_bytes 2 c.args.sot.tile) f0 c.in_ok-put_u16.ensures.ok in
    let f2 = after c.args.out.now.items ((0xFF ∷ SOT ∷ big_bytes 2 10) ++ (big_bytes 2 c.args.sot.tile)) c.put_u16.new.out.items c.put_u32.new.out.items (big_bytes 4 c.args.sot.psot) f1 c.in_ok-put_u32.ensures.ok in
    kept c.args.out.now.items (((0xFF ∷ SOT ∷ big_bytes 2 10) ++ (big_bytes 2 c.args.sot.tile)) ++ (big_bytes 4 c.args.sot.psot)) c.extend_from_slice.new.self.items (c.in_err-extend_from_slice.ensures.items ∙ f2)
