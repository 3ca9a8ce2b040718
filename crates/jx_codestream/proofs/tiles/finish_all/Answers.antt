use Rattle.std.proofs.Common.{◌∷◌, [], length, arith, ap, List}
use Rattle.std.proofs.lemmas.List.{length-append}
use Rattle.jx_codestream.specs.declared.Tile.{Tile}
use Rattle.jx_codestream.proofs.TileLemmas.{finishes_more}
use Rattle.jx_codestream.proofs.tiles.finish_all.Goals as goal

pub loop-draft-preserved : goal.loop-draft-preserved
loop-draft-preserved c =
    record {
      count = omega (arith, ap (λ (x : List Tile). length x) c.in_ok-push.ensures.items, length-append c.loop-draft.tiles.items (c.in_ok-tile.tile ∷ []), length-append c.loop-draft.yielded (c.in-Some.draft ∷ []), c.loop-draft.invariant.count);
      each = λ segments main default.
          finishes_more segments c.loop-draft.yielded c.loop-draft.tiles.items c.push.new.self.items c.in-Some.draft c.in_ok-tile.tile c.loop-draft.invariant.count c.in_ok-push.ensures.items (c.loop-draft.invariant.each segments main default)
          (λ own collects. c.in_ok-tile.ensures own segments collects main default);
    }
