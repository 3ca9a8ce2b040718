use Rattle.std.proofs.Common.{◌∷◌, [], length, arith, ap, List}
use Rattle.std.proofs.lemmas.List.{length-append}
use Rattle.jx_codestream.specs.declared.tiles.Draft.{Draft}
use Rattle.jx_codestream.proofs.TileLemmas.{empties_more}
use Rattle.jx_codestream.proofs.tiles.empty_drafts.Goals as goal

pub loop-preserved : goal.loop-preserved
loop-preserved c =
    record {
      count = omega (arith, ap (λ (x : List Draft). length x) c.in_ok-push.ensures.items, length-append c.loop.drafts.items (c.new.result ∷ []), c.loop.invariant.count);
      each = empties_more c.loop.drafts.items c.push.new.self.items c.new.result c.in_ok-push.ensures.items c.new.ensures c.loop.invariant.each;
    }
