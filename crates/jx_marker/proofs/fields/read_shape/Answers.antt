use Rattle.std.proofs.Common.{◌∙◌, ◌+◌, ◌-◌, ℕ, List, ap, arith, drop, get_or, length, length-drop}
use Rattle.std.proofs.lemmas.List.{take_all}
use Rattle.jx_marker.specs.declared.Shape.{Shape}
use Rattle.jx_marker.proofs.fields.read_shape.Goals as goal

pub returns : goal.returns
returns c =
    let of : List ℕ → Shape = λ precincts. record {
      levels = get_or c.args.body.now c.args.at 0;
      xcb = get_or c.args.body.now (c.args.at + 1) 0 + 2;
      ycb = get_or c.args.body.now (c.args.at + 2) 0 + 2;
      style = get_or c.args.body.now (c.args.at + 3) 0;
      wavelet = get_or c.args.body.now (c.args.at + 4) 0;
      precincts = precincts;
    } in
    ap of (c.in_ok-precincts.ensures ∙ take_all (length c.args.body.now - (c.args.at + 5)) (drop (c.args.at + 5) c.args.body.now) (omega (arith, length-drop (c.args.at + 5) c.args.body.now)))
