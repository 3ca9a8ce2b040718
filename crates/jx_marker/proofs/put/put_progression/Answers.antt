use Rattle.std.proofs.Common.{◌∙◌, ◌++◌, ◌∷◌, [], ap}
use Rattle.byteorder.specs.Endian.{big_bytes}
use Rattle.jx_marker.proofs.PutLemmas.{after, kept}
use Rattle.jx_marker.proofs.put.put_progression.Goals as goal

pub returns-clause-ok : goal.returns-clause-ok
returns-clause-ok c =
    let d4 = after c.push-2.new.self.items (big_bytes c.index_size-size.result c.args.entry.ce) c.put_narrow-2.new.out.items c.push-3.new.self.items (c.args.entry.order ∷ []) c.in_ok-put_narrow-2.ensures.ok c.in_ok-push-3.ensures.items in
    let d3 = after c.put_u16.new.out.items (c.args.entry.re ∷ []) c.push-2.new.self.items c.push-3.new.self.items ((big_bytes c.index_size-size.result c.args.entry.ce) ++ (c.args.entry.order ∷ [])) c.in_ok-push-2.ensures.items d4 in
    let d2 = after c.put_narrow.new.out.items (big_bytes 2 c.args.entry.lye) c.put_u16.new.out.items c.push-3.new.self.items ((c.args.entry.re ∷ []) ++ ((big_bytes c.index_size-size.result c.args.entry.ce) ++ (c.args.entry.order ∷ []))) c.in_ok-put_u16.ensures.ok d3 in
    let d1 = after c.push.new.self.items (big_bytes c.index_size-size.result c.args.entry.cs) c.put_narrow.new.out.items c.push-3.new.self.items ((big_bytes 2 c.args.entry.lye) ++ ((c.args.entry.re ∷ []) ++ ((big_bytes c.index_size-size.result c.args.entry.ce) ++ (c.args.entry.order ∷ [])))) c.in_ok-put_narrow.ensures.ok d2 in
    let d0 = after c.args.out.now.items (c.args.entry.rs ∷ []) c.push.new.self.items c.push-3.new.self.items ((big_bytes c.index_size-size.result c.args.entry.cs) ++ ((big_bytes 2 c.args.entry.lye) ++ ((c.args.entry.re ∷ []) ++ ((big_bytes c.index_size-size.result c.args.entry.ce) ++ (c.args.entry.order ∷ []))))) c.in_ok-push.ensures.items d1 in
    d0 ∙ ap (λ s. c.args.out.now.items ++ c.args.entry.rs ∷ (big_bytes s c.args.entry.cs ++ (big_bytes 2 c.args.entry.lye ++ c.args.entry.re ∷ (big_bytes s c.args.entry.ce ++ c.args.entry.order ∷ [])))) c.index_size-size.ensures.value

pub returns-clause-front : goal.returns-clause-front
returns-clause-front c =
    let f0 = c.in_ok-push.ensures.items in
    let f1 = after c.args.out.now.items (c.args.entry.rs ∷ []) c.push.new.self.items c.put_narrow.new.out.items (big_bytes c.index_size-size.result c.args.entry.cs) f0 c.in_ok-put_narrow.ensures.ok in
    let f2 = after c.args.out.now.items ((c.args.entry.rs ∷ []) ++ (big_bytes c.index_size-size.result c.args.entry.cs)) c.put_narrow.new.out.items c.put_u16.new.out.items (big_bytes 2 c.args.entry.lye) f1 c.in_ok-put_u16.ensures.ok in
    let f3 = after c.args.out.now.items (((c.args.entry.rs ∷ []) ++ (big_bytes c.index_size-size.result c.args.entry.cs)) ++ (big_bytes 2 c.args.entry.lye)) c.put_u16.new.out.items c.push-2.new.self.items (c.args.entry.re ∷ []) f2 c.in_ok-push-2.ensures.items in
    let f4 = after c.args.out.now.items ((((c.args.entry.rs ∷ []) ++ (big_bytes c.index_size-size.result c.args.entry.cs)) ++ (big_bytes 2 c.args.entry.lye)) ++ (c.args.entry.re ∷ [])) c.push-2.new.self.items c.put_narrow-2.new.out.items (big_bytes c.index_size-size.result c.args.entry.ce) f3 c.in_ok-put_narrow-2.ensures.ok in
    let f5 = after c.args.out.now.items (((((c.args.entry.rs ∷ []) ++ (big_bytes c.index_size-size.result c.args.entry.cs)) ++ (big_bytes 2 c.args.entry.lye)) ++ (c.args.entry.re ∷ [])) ++ (big_bytes c.index_size-size.result c.args.entry.ce)) c.put_narrow-2.new.out.items c.push-3.new.self.items (c.args.entry.order ∷ []) f4 c.in_ok-push-3.ensures.items in
    kept c.args.out.now.items ((((((c.args.entry.rs ∷ []) ++ (big_bytes c.index_size-size.result c.args.entry.cs)) ++ (big_bytes 2 c.args.entry.lye)) ++ (c.args.entry.re ∷ [])) ++ (big_bytes c.index_size-size.result c.args.entry.ce)) ++ (c.args.entry.order ∷ [])) c.push-3.new.self.items f5

pub returns-in_err-put_narrow-clause-front : goal.returns-in_err-put_narrow-clause-front
returns-in_err-put_narrow-clause-front c =
    let f0 = c.in_ok-push.ensures.items in
    kept c.args.out.now.items (c.args.entry.rs ∷ []) c.put_narrow.new.out.items (c.in_err-put_narrow.ensures.err ∙ f0)

pub returns-in_err-put_u16-clause-front : goal.returns-in_err-put_u16-clause-front
returns-in_err-put_u16-clause-front c =
    let f0 = c.in_ok-push.ensures.items in
    let f1 = after c.args.out.now.items (c.args.entry.rs ∷ []) c.push.new.self.items c.put_narrow.new.out.items (big_bytes c.index_size-size.result c.args.entry.cs) f0 c.in_ok-put_narrow.ensures.ok in
    kept c.args.out.now.items ((c.args.entry.rs ∷ []) ++ (big_bytes c.index_size-size.result c.args.entry.cs)) c.put_u16.new.out.items (c.in_err-put_u16.ensures.err ∙ f1)

pub returns-in_err-push-2-clause-front : goal.returns-in_err-push-2-clause-front
returns-in_err-push-2-clause-front c =
    let f0 = c.in_ok-push.ensures.items in
    let f1 = after c.args.out.now.items (c.args.entry.rs ∷ []) c.push.new.self.items c.put_narrow.new.out.items (big_bytes c.index_size-size.result c.args.entry.cs) f0 c.in_ok-put_narrow.ensures.ok in
    let f2 = after c.args.out.now.items ((c.args.entry.rs ∷ []) ++ (big_bytes c.index_size-size.result c.args.entry.cs)) c.put_narrow.new.out.items c.put_u16.new.out.items (big_bytes 2 c.args.entry.lye) f1 c.in_ok-put_u16.ensures.ok in
    kept c.args.out.now.items (((c.args.entry.rs ∷ []) ++ (big_bytes c.index_size-size.result c.args.entry.cs)) ++ (big_bytes 2 c.args.entry.lye)) c.push-2.new.self.items (c.in_err-push-2.ensures.items ∙ f2)

pub returns-in_err-put_narrow-2-clause-front : goal.returns-in_err-put_narrow-2-clause-front
returns-in_err-put_narrow-2-clause-front c =
    let f0 = c.in_ok-push.ensures.items in
    let f1 = after c.args.out.now.items (c.args.entry.rs ∷ []) c.push.new.self.items c.put_narrow.new.out.items (big_bytes c.index_size-size.result c.args.entry.cs) f0 c.in_ok-put_narrow.ensures.ok in
    let f2 = after c.args.out.now.items ((c.args.entry.rs ∷ []) ++ (big_bytes c.index_size-size.result c.args.entry.cs)) c.put_narrow.new.out.items c.put_u16.new.out.items (big_bytes 2 c.args.entry.lye) f1 c.in_ok-put_u16.ensures.ok in
    let f3 = after c.args.out.now.items (((c.args.entry.rs ∷ []) ++ (big_bytes c.index_size-size.result c.args.entry.cs)) ++ (big_bytes 2 c.args.entry.lye)) c.put_u16.new.out.items c.push-2.new.self.items (c.args.entry.re ∷ []) f2 c.in_ok-push-2.ensures.items in
    kept c.args.out.now.items ((((c.args.entry.rs ∷ []) ++ (big_bytes c.index_size-size.result c.args.entry.cs)) ++ (big_bytes 2 c.args.entry.lye)) ++ (c.args.entry.re ∷ [])) c.put_narrow-2.new.out.items (c.in_err-put_narrow-2.ensures.err ∙ f3)

pub returns-in_err-push-3-clause-front : goal.returns-in_err-push-3-clause-front
returns-in_err-push-3-clause-front c =
    let f0 = c.in_ok-push.ensures.items in
    let f1 = after c.args.out.now.items (c.args.entry.rs ∷ []) c.push.new.self.items c.put_narrow.new.out.items (big_bytes c.index_size-size.result c.args.entry.cs) f0 c.in_ok-put_narrow.ensures.ok in
    let f2 = after c.args.out.now.items ((c.args.entry.rs ∷ []) ++ (big_bytes c.index_size-size.result c.args.entry.cs)) c.put_narrow.new.out.items c.put_u16.new.out.items (big_bytes 2 c.args.entry.lye) f1 c.in_ok-put_u16.ensures.ok in
    let f3 = after c.args.out.now.items (((c.args.entry.rs ∷ []) ++ (big_bytes c.index_size-size.result c.args.entry.cs)) ++ (big_bytes 2 c.args.entry.lye)) c.put_u16.new.out.items c.push-2.new.self.items (c.args.entry.re ∷ []) f2 c.in_ok-push-2.ensures.items in
    let f4 = after c.args.out.now.items ((((c.args.entry.rs ∷ []) ++ (big_bytes c.index_size-size.result c.args.entry.cs)) ++ (big_bytes 2 c.args.entry.lye)) ++ (c.args.entry.re ∷ [])) c.push-2.new.self.items c.put_narrow-2.new.out.items (big_bytes c.index_size-size.result c.args.entry.ce) f3 c.in_ok-put_narrow-2.ensures.ok in
    kept c.args.out.now.items (((((c.args.entry.rs ∷ []) ++ (big_bytes c.index_size-size.result c.args.entry.cs)) ++ (big_bytes 2 c.args.entry.lye)) ++ (c.args.entry.re ∷ [])) ++ (big_bytes c.index_size-size.result c.args.entry.ce)) c.push-3.new.self.items (c.in_err-push-3.ensures.items ∙ f4)
