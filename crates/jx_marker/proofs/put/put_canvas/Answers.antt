use Rattle.std.proofs.Common.{◌++◌}
use Rattle.byteorder.specs.Endian.{big_bytes}
use Rattle.jx_marker.specs.Values.{canvas_bytes}
use Rattle.jx_marker.proofs.PutLemmas.{after, front_kept, kept}
use Rattle.jx_marker.proofs.put.put_canvas.Goals as goal

pub returns-clause-ok : goal.returns-clause-ok
unfolding canvas_bytes
returns-clause-ok c =
    let d2 = after c.put_pair-2.new.out.items (big_bytes 4 c.args.siz.now.tw ++ big_bytes 4 c.args.siz.now.th) c.put_pair-3.new.out.items c.put_pair-4.new.out.items (big_bytes 4 c.args.siz.now.tx ++ big_bytes 4 c.args.siz.now.ty) c.in_ok-put_pair-3.ensures.ok c.in_ok-put_pair-4.ensures.ok in
    let d1 = after c.put_pair.new.out.items (big_bytes 4 c.args.siz.now.x0 ++ big_bytes 4 c.args.siz.now.y0) c.put_pair-2.new.out.items c.put_pair-4.new.out.items ((big_bytes 4 c.args.siz.now.tw ++ big_bytes 4 c.args.siz.now.th) ++ (big_bytes 4 c.args.siz.now.tx ++ big_bytes 4 c.args.siz.now.ty)) c.in_ok-put_pair-2.ensures.ok d2 in
    let d0 = after c.args.out.now.items (big_bytes 4 c.args.siz.now.x1 ++ big_bytes 4 c.args.siz.now.y1) c.put_pair.new.out.items c.put_pair-4.new.out.items ((big_bytes 4 c.args.siz.now.x0 ++ big_bytes 4 c.args.siz.now.y0) ++ ((big_bytes 4 c.args.siz.now.tw ++ big_bytes 4 c.args.siz.now.th) ++ (big_bytes 4 c.args.siz.now.tx ++ big_bytes 4 c.args.siz.now.ty))) c.in_ok-put_pair.ensures.ok d1 in
    d0

pub returns-clause-front : goal.returns-clause-front
returns-clause-front c =
    let f0 = c.in_ok-put_pair.ensures.ok in
    let f1 = after c.args.out.now.items (big_bytes 4 c.args.siz.now.x1 ++ big_bytes 4 c.args.siz.now.y1) c.put_pair.new.out.items c.put_pair-2.new.out.items (big_bytes 4 c.args.siz.now.x0 ++ big_bytes 4 c.args.siz.now.y0) f0 c.in_ok-put_pair-2.ensures.ok in
    let f2 = after c.args.out.now.items ((big_bytes 4 c.args.siz.now.x1 ++ big_bytes 4 c.args.siz.now.y1) ++ (big_bytes 4 c.args.siz.now.x0 ++ big_bytes 4 c.args.siz.now.y0)) c.put_pair-2.new.out.items c.put_pair-3.new.out.items (big_bytes 4 c.args.siz.now.tw ++ big_bytes 4 c.args.siz.now.th) f1 c.in_ok-put_pair-3.ensures.ok in
    let f3 = after c.args.out.now.items (((big_bytes 4 c.args.siz.now.x1 ++ big_bytes 4 c.args.siz.now.y1) ++ (big_bytes 4 c.args.siz.now.x0 ++ big_bytes 4 c.args.siz.now.y0)) ++ (big_bytes 4 c.args.siz.now.tw ++ big_bytes 4 c.args.siz.now.th)) c.put_pair-3.new.out.items c.put_pair-4.new.out.items (big_bytes 4 c.args.siz.now.tx ++ big_bytes 4 c.args.siz.now.ty) f2 c.in_ok-put_pair-4.ensures.ok in
    kept c.args.out.now.items ((((big_bytes 4 c.args.siz.now.x1 ++ big_bytes 4 c.args.siz.now.y1) ++ (big_bytes 4 c.args.siz.now.x0 ++ big_bytes 4 c.args.siz.now.y0)) ++ (big_bytes 4 c.args.siz.now.tw ++ big_bytes 4 c.args.siz.now.th)) ++ (big_bytes 4 c.args.siz.now.tx ++ big_bytes 4 c.args.siz.now.ty)) c.put_pair-4.new.out.items f3

pub returns-in_err-put_pair-2-clause-front : goal.returns-in_err-put_pair-2-clause-front
returns-in_err-put_pair-2-clause-front c =
    let f0 = c.in_ok-put_pair.ensures.ok in
    front_kept c.args.out.now.items (big_bytes 4 c.args.siz.now.x1 ++ big_bytes 4 c.args.siz.now.y1) c.put_pair.new.out.items c.put_pair-2.new.out.items f0 c.put_pair-2.ensures.front

pub returns-in_err-put_pair-3-clause-front : goal.returns-in_err-put_pair-3-clause-front
returns-in_err-put_pair-3-clause-front c =
    let f0 = c.in_ok-put_pair.ensures.ok in
    let f1 = after c.args.out.now.items (big_bytes 4 c.args.siz.now.x1 ++ big_bytes 4 c.args.siz.now.y1) c.put_pair.new.out.items c.put_pair-2.new.out.items (big_bytes 4 c.args.siz.now.x0 ++ big_bytes 4 c.args.siz.now.y0) f0 c.in_ok-put_pair-2.ensures.ok in
    front_kept c.args.out.now.items ((big_bytes 4 c.args.siz.now.x1 ++ big_bytes 4 c.args.siz.now.y1) ++ (big_bytes 4 c.args.siz.now.x0 ++ big_bytes 4 c.args.siz.now.y0)) c.put_pair-2.new.out.items c.put_pair-3.new.out.items f1 c.put_pair-3.ensures.front

pub returns-in_err-put_pair-4-clause-front : goal.returns-in_err-put_pair-4-clause-front
returns-in_err-put_pair-4-clause-front c =
    let f0 = c.in_ok-put_pair.ensures.ok in
    let f1 = after c.args.out.now.items (big_bytes 4 c.args.siz.now.x1 ++ big_bytes 4 c.args.siz.now.y1) c.put_pair.new.out.items c.put_pair-2.new.out.items (big_bytes 4 c.args.siz.now.x0 ++ big_bytes 4 c.args.siz.now.y0) f0 c.in_ok-put_pair-2.ensures.ok in
    let f2 = after c.args.out.now.items ((big_bytes 4 c.args.siz.now.x1 ++ big_bytes 4 c.args.siz.now.y1) ++ (big_bytes 4 c.args.siz.now.x0 ++ big_bytes 4 c.args.siz.now.y0)) c.put_pair-2.new.out.items c.put_pair-3.new.out.items (big_bytes 4 c.args.siz.now.tw ++ big_bytes 4 c.args.siz.now.th) f1 c.in_ok-put_pair-3.ensures.ok in
    front_kept c.args.out.now.items (((big_bytes 4 c.args.siz.now.x1 ++ big_bytes 4 c.args.siz.now.y1) ++ (big_bytes 4 c.args.siz.now.x0 ++ big_bytes 4 c.args.siz.now.y0)) ++ (big_bytes 4 c.args.siz.now.tw ++ big_bytes 4 c.args.siz.now.th)) c.put_pair-3.new.out.items c.put_pair-4.new.out.items f2 c.put_pair-4.ensures.front
