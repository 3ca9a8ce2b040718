use Rattle.std.proofs.Common.{◌≡◌, ◌∷◌, [], encode_utf8_all, flat_map, ◌∙◌, ap, sym, map-id, append-nil}
use Rattle.std.proofs.lemmas.Grind.{flat_map-append}
use Rattle.std.proofs.lemmas.Iterator.{YieldsList-from_chars}
use Rattle.std.proofs.lemmas.Iterator.Consumers.{YieldsList-end}
use Rattle.std.proofs.lemmas.Str.{encodes-append}
use Rattle.jx_messages.specs.Shown.{shown_char}
use Rattle.jx_messages.proofs.shown.shown.Goals as goal

pub loop-c-preserved : goal.loop-c-preserved
loop-c-preserved c =
    let one : flat_map shown_char (c.in-Some.c ∷ []) ≡ shown_char c.in-Some.c = append-nil _ in
    rw (flat_map-append, one, encodes-append, ← c.loop-c.invariant) c.in_ok-push_shown.ensures

pub returns : goal.returns
returns c =
    let done = YieldsList-end (YieldsList-from_chars c.args.word.now c.utf8.word cc) c.loop-c.yielded _ c.loop-c.yielded_by _ _ c.in-None.is c.next.ensures.steps in
    c.loop-c.invariant ∙ ap (λ cs. encode_utf8_all (flat_map shown_char cs)) (sym (map-id c.loop-c.yielded) ∙ done.0)
