use Rattle.std.proofs.Common.{◌≡◌, ◌∙◌, List, arith, ap, subst, sym, drop, length, take}
use Rattle.jx_progression.specs.declared.names.PacketName.{PacketName}
use Rattle.jx_progression.specs.Tables.{AreHeads}
use Rattle.jx_progression.proofs.SortLemmas.{entry_lists, entry_some}
use Rattle.jx_progression.proofs.SpreadLemmas.{whole_slice}
use Rattle.jx_progression.proofs.TableLemmas.{back_is, front_is}
use Rattle.jx_progression.proofs.entry.push_entry.Goals as goal

pub spread-requires-clause-some : goal.spread-requires-clause-some
spread-requires-clause-some c =
    let here : c.len-from.result ≡ length c.args.list.now.items = omega arith in
    let all = c.in_ok-send_heads.ensures.all in
    let made : drop c.len-from.result c.deref_mut.result.now ≡ all.0 =
    ap (λ i. drop i c.deref_mut.result.now) here ∙ ap (λ (ys : List PacketName). drop (length c.args.list.now.items) ys) c.deref_mut.ensures.value
    ∙ back_is c.args.list.now.items c.send_heads.new.list.items all.0 all.1 in
    let whole = whole_slice c.send_heads.new.list.items c.sort_from.new.list c.send_heads.new.list.len (omega arith) (omega arith) in
    entry_some c.args.geom.now c.args.layers c.args.entry c.args.table.now.sent.items c.order_from-order.result c.min.result
    (drop c.len-from.result c.deref_mut.result.now) (drop c.len-from.result c.sort_from.new.list) _ c.order_from-order.ensures c.min.ensures
    (subst (AreHeads c.args.geom.now c.args.layers c.args.entry c.args.table.now.sent.items) (sym made) all.2.heads) c.sort_from.ensures.moved
    (ap (λ (ys : List PacketName). drop c.len-from.result ys) whole)

pub returns-clause-front : goal.returns-clause-front
returns-clause-front c =
    let here : c.len-from.result ≡ length c.args.list.now.items = omega arith in
    let all = c.in_ok-send_heads.ensures.all in
    let whole = whole_slice c.send_heads.new.list.items c.sort_from.new.list c.send_heads.new.list.len (omega arith) (omega arith) in
    ap (λ i. take i c.spread.new.list.items) (sym here) ∙ c.in_ok-spread.ensures.front
    ∙ ap (λ (ys : List PacketName). take c.len-from.result ys) whole ∙ c.sort_from.ensures.front
    ∙ ap (λ (ys : List PacketName). take c.len-from.result ys) c.deref_mut.ensures.value
    ∙ ap (λ i. take i c.send_heads.new.list.items) here
    ∙ front_is c.args.list.now.items c.send_heads.new.list.items all.0 all.1

pub returns-clause-lists : goal.returns-clause-lists
returns-clause-lists c =
    let here : c.len-from.result ≡ length c.args.list.now.items = omega arith in
    let all = c.in_ok-send_heads.ensures.all in
    let made : drop c.len-from.result c.deref_mut.result.now ≡ all.0 =
    ap (λ i. drop i c.deref_mut.result.now) here ∙ ap (λ (ys : List PacketName). drop (length c.args.list.now.items) ys) c.deref_mut.ensures.value
    ∙ back_is c.args.list.now.items c.send_heads.new.list.items all.0 all.1 in
    let whole = whole_slice c.send_heads.new.list.items c.sort_from.new.list c.send_heads.new.list.len (omega arith) (omega arith) in
    entry_lists c.args.geom.now c.args.layers c.args.entry c.args.table.now.sent.items c.order_from-order.result c.min.result
    (drop c.len-from.result c.deref_mut.result.now) (drop c.len-from.result c.sort_from.new.list) _
    (drop (length c.args.list.now.items) c.spread.new.list.items) c.components-components.ensures.range c.order_from-order.ensures c.min.ensures
    (subst (AreHeads c.args.geom.now c.args.layers c.args.entry c.args.table.now.sent.items) (sym made) all.2.heads) c.sort_from.ensures.moved
    c.in_ok-sort_from.ensures.sorted (ap (λ (ys : List PacketName). drop c.len-from.result ys) whole)
    (ap (λ i. drop i c.spread.new.list.items) (sym here) ∙ c.in_ok-spread.ensures.names)

pub returns-clause-marked : goal.returns-clause-marked
returns-clause-marked c = c.in_ok-send_heads.ensures.all.2.marked
