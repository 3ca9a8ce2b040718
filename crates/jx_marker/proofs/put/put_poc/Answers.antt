use Rattle.std.proofs.Common.{◌≡◌, ◌∙◌, ◌+◌, ◌*◌, ◌∷◌, ap, length, sym}
use Rattle.std.proofs.lemmas.Result.{on_ok_weaker}
use Rattle.byteorder.specs.Endian.{big_bytes}
use Rattle.jx_marker.specs.Codes.{POC}
use Rattle.jx_marker.specs.Values.{poc_bytes}
use Rattle.jx_marker.proofs.PutLemmas.{front_kept, fronted_as, length_poc}
use Rattle.jx_marker.proofs.put.put_poc.Goals as goal

pub returns-clause-ok : goal.returns-clause-ok
returns-clause-ok c =
    let same : (length c.args.entries.now * c.progression_size.result) ≡ length (poc_bytes c.args.comps c.args.entries.now) =
    ap (λ s. length c.args.entries.now * s) c.progression_size.ensures.value ∙ sym (length_poc c.args.comps c.args.entries.now) in
    on_ok_weaker c.put_progressions.result (λ e. fronted_as POC (length c.args.entries.now * c.progression_size.result) c.args.out.now.items c.put_front.new.out.items c.put_progressions.new.out.items (poc_bytes c.args.comps c.args.entries.now) c.in_ok-put_front.ensures.ok e same) c.put_progressions.ensures.ok

pub returns-clause-front : goal.returns-clause-front
returns-clause-front c =
    front_kept c.args.out.now.items (0xFF ∷ POC ∷ big_bytes 2 (2 + (length c.args.entries.now * c.progression_size.result))) c.put_front.new.out.items c.put_progressions.new.out.items c.in_ok-put_front.ensures.ok c.put_progressions.ensures.front
