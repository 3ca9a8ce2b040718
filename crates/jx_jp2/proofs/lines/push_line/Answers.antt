use Rattle.std.proofs.Common.{◌-◌, ◌++◌, ℕ, List, ap, ◌∙◌, string_bytes}
use Rattle.jx_jp2.proofs.LineLemmas.{line_appended}
use Rattle.jx_jp2.proofs.lines.push_line.Goals as goal

pub returns : goal.returns
returns c =
    line_appended c.args.depth c.args.kind c.args.boxed.now.head (c.args.boxed.now.to - c.args.boxed.now.head) (string_bytes c.args.text.now) (string_bytes c.push_str.new.self)
    (string_bytes c.push_type.new.text) (string_bytes c.write.new.self) c.write_u32.new.buf c.write_u32.ensures
    (c.in_ok-push_str.ensures.bytes ∙ ap (λ (t : List ℕ). string_bytes c.args.text.now ++ t) c.indent.ensures) c.in_ok-push_type.ensures c.in_ok-write.ensures.bytes
