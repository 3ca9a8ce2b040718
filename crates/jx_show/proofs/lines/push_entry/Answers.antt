use Rattle.std.proofs.Common.{◌≡◌, ◌++◌, ◌∙◌, ap, ℕ, List, append_assoc, string_bytes}
use Rattle.jx_marker.specs.declared.Progression.{Progression}
use Rattle.jx_show.specs.Text.{comps_text, entry_text, order_called, order_text}
use Rattle.jx_show.proofs.lines.push_entry.Goals as goal

appended : (e : Progression) (name t0 t1 t2 : List ℕ) → name ≡ order_called e.order → t1 ≡ t0 ++ order_text name e → t2 ≡ t1 ++ comps_text e.cs e.ce
    → t2 ≡ t0 ++ entry_text e
appended e name t0 t1 t2 called e1 e2 =
    let s1 : t1 ≡ t0 ++ order_text (order_called e.order) e = e1 ∙ ap (λ (x : List ℕ). t0 ++ order_text x e) called in
    e2 ∙ (ap (λ (x : List ℕ). x ++ comps_text e.cs e.ce) s1 ∙ append_assoc t0 (order_text (order_called e.order) e) (comps_text e.cs e.ce))

pub returns : goal.returns
returns c =
    appended c.args.entry c.order_called.result.now (string_bytes c.args.text.now) (string_bytes c.push_order.new.text) (string_bytes c.push_comps.new.text)
    c.order_called.ensures c.in_ok-push_order.ensures c.in_ok-push_comps.ensures
