use Rattle.std.proofs.Common.{◌≡◌, ◌≢◌, ℕ, List, [], ◌∷◌, ◌++◌, drop, Vec, Global, refl, ap, sym, ◌∙◌}
use Rattle.jx_mq.proofs.Lengths.{segment_whole, segment_trimmed}
use Rattle.jx_mq.proofs.encoder.MqEncoder.flush.Goals as goal
use Rattle.jx_mq.proofs.encoder.MqEncoder.flush.Goals.{then-twice+in_ok-push, else-twice}

pub returns : goal.returns
returns c =
    let last = c.set_bits-last.ensures c.self.inside.older.items in
    let once = c.in_ok-once.ensures in
    let twice = c.in_ok-twice.ensures in
    rw (← c.self.view_is) (elim c.if-twice.branch [
      | then-twice+in_ok-push w ↦
          let ne : c.in_ok-twice.twice.newest ≢ 255 = w.if-twice.true in
          let items : c.if-twice.older.items ≡ c.give_out-2.new.older.items ++ c.in_ok-twice.twice.newest ∷ [] = ap (λ (v : Vec ℕ Global). v.items) w.older-is ∙ w.in_ok-push.ensures.items in
          c.remove.ensures.items ∙ ap (λ (l : List ℕ). drop 1 l) items ∙ sym (segment_whole _ _ _ _ c.in_ok-twice.twice.newest c.give_out-2.new.older.items last once twice refl ne)
      | else-twice w ↦
          let ff : c.in_ok-twice.twice.newest ≡ 255 = w.if-twice.false in
          let items : c.if-twice.older.items ≡ c.give_out-2.new.older.items = ap (λ (v : Vec ℕ Global). v.items) w.older-is in
          c.remove.ensures.items ∙ ap (λ (l : List ℕ). drop 1 l) items ∙ sym (segment_trimmed _ _ _ _ c.in_ok-twice.twice.newest c.give_out-2.new.older.items last once twice refl ff)
    ])
