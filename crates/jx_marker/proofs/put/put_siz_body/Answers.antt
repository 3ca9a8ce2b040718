use Rattle.std.proofs.Common.{◌∙◌, ◌++◌, List, ap, length}
use Rattle.std.specs.List.{flat_map}
use Rattle.byteorder.specs.Endian.{big_bytes}
use Rattle.jx_marker.specs.declared.CompSize.{CompSize}
use Rattle.jx_marker.specs.Values.{canvas_bytes, comp_size_bytes}
use Rattle.jx_marker.proofs.PutLemmas.{after, front_kept, kept}
use Rattle.jx_marker.proofs.put.put_siz_body.Goals as goal

pub returns-clause-ok : goal.returns-clause-ok
returns-clause-ok c =
    let d2 = after c.put_canvas.new.out.items (big_bytes 2 (length c.as_slice-comps.result.now)) c.put_u16-2.new.out.items c.put_comp_sizes.new.out.items (flat_map comp_size_bytes c.as_slice-comps.result.now) c.in_ok-put_u16-2.ensures.ok c.in_ok-put_comp_sizes.ensures.ok in
    let d1 = after c.put_u16.new.out.items (canvas_bytes c.args.siz.now) c.put_canvas.new.out.items c.put_comp_sizes.new.out.items ((big_bytes 2 (length c.as_slice-comps.result.now)) ++ (flat_map comp_size_bytes c.as_slice-comps.result.now)) c.in_ok-put_canvas.ensures.ok d2 in
    let d0 = after c.args.out.now.items (big_bytes 2 c.args.siz.now.rsiz) c.put_u16.new.out.items c.put_comp_sizes.new.out.items ((canvas_bytes c.args.siz.now) ++ ((big_bytes 2 (length c.as_slice-comps.result.now)) ++ (flat_map comp_size_bytes c.as_slice-comps.result.now))) c.in_ok-put_u16.ensures.ok d1 in
    d0 ∙ ap (λ (xs : List CompSize). c.args.out.now.items ++ (big_bytes 2 c.args.siz.now.rsiz ++ (canvas_bytes c.args.siz.now ++ (big_bytes 2 (length xs) ++ flat_map comp_size_bytes xs)))) c.as_slice-comps.ensures

pub returns-clause-front : goal.returns-clause-front
returns-clause-front c =
    let f0 = c.in_ok-put_u16.ensures.ok in
    let f1 = after c.args.out.now.items (big_bytes 2 c.args.siz.now.rsiz) c.put_u16.new.out.items c.put_canvas.new.out.items (canvas_bytes c.args.siz.now) f0 c.in_ok-put_canvas.ensures.ok in
    let f2 = after c.args.out.now.items ((big_bytes 2 c.args.siz.now.rsiz) ++ (canvas_bytes c.args.siz.now)) c.put_canvas.new.out.items c.put_u16-2.new.out.items (big_bytes 2 (length c.as_slice-comps.result.now)) f1 c.in_ok-put_u16-2.ensures.ok in
    let f3 = after c.args.out.now.items (((big_bytes 2 c.args.siz.now.rsiz) ++ (canvas_bytes c.args.siz.now)) ++ (big_bytes 2 (length c.as_slice-comps.result.now))) c.put_u16-2.new.out.items c.put_comp_sizes.new.out.items (flat_map comp_size_bytes c.as_slice-comps.result.now) f2 c.in_ok-put_comp_sizes.ensures.ok in
    kept c.args.out.now.items ((((big_bytes 2 c.args.siz.now.rsiz) ++ (canvas_bytes c.args.siz.now)) ++ (big_bytes 2 (length c.as_slice-comps.result.now))) ++ (flat_map comp_size_bytes c.as_slice-comps.result.now)) c.put_comp_sizes.new.out.items f3

pub returns-in_err-put_canvas-clause-front : goal.returns-in_err-put_canvas-clause-front
returns-in_err-put_canvas-clause-front c =
    let f0 = c.in_ok-put_u16.ensures.ok in
    front_kept c.args.out.now.items (big_bytes 2 c.args.siz.now.rsiz) c.put_u16.new.out.items c.put_canvas.new.out.items f0 c.put_canvas.ensures.front

pub returns-in_err-put_u16-2-clause-front : goal.returns-in_err-put_u16-2-clause-front
returns-in_err-put_u16-2-clause-front c =
    let f0 = c.in_ok-put_u16.ensures.ok in
    let f1 = after c.args.out.now.items (big_bytes 2 c.args.siz.now.rsiz) c.put_u16.new.out.items c.put_canvas.new.out.items (canvas_bytes c.args.siz.now) f0 c.in_ok-put_canvas.ensures.ok in
    kept c.args.out.now.items ((big_bytes 2 c.args.siz.now.rsiz) ++ (canvas_bytes c.args.siz.now)) c.put_u16-2.new.out.items (c.in_err-put_u16-2.ensures.err ∙ f1)

pub returns-in_err-put_comp_sizes-clause-front : goal.returns-in_err-put_comp_sizes-clause-front
returns-in_err-put_comp_sizes-clause-front c =
    let f0 = c.in_ok-put_u16.ensures.ok in
    let f1 = after c.args.out.now.items (big_bytes 2 c.args.siz.now.rsiz) c.put_u16.new.out.items c.put_canvas.new.out.items (canvas_bytes c.args.siz.now) f0 c.in_ok-put_canvas.ensures.ok in
    let f2 = after c.args.out.now.items ((big_bytes 2 c.args.siz.now.rsiz) ++ (canvas_bytes c.args.siz.now)) c.put_canvas.new.out.items c.put_u16-2.new.out.items (big_bytes 2 (length c.as_slice-comps.result.now)) f1 c.in_ok-put_u16-2.ensures.ok in
    front_kept c.args.out.now.items (((big_bytes 2 c.args.siz.now.rsiz) ++ (canvas_bytes c.args.siz.now)) ++ (big_bytes 2 (length c.as_slice-comps.result.now))) c.put_u16-2.new.out.items c.put_comp_sizes.new.out.items f2 c.put_comp_sizes.ensures.front
