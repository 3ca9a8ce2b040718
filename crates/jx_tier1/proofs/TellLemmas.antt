-- What is told of ends while passes are coded is what is told of the encoder's passes.
use Rattle.std.proofs.Common.{◌≡◌, ◌+◌, ◌==◌, ℕ, suc, Bool, true, false, ◌||◌, List, [], ◌∷◌, ◌++◌, map, refl, sym, ap, ◌∙◌, append_assoc, if◌then◌else◌}
use Rattle.jx_coder_specs.specs.MqWriting.{MqGiven}
use Rattle.jx_base.specs.Passes.{raw_pass, end_pass}
use Rattle.jx_tier1_specs.specs.Cells.{Cells}
use Rattle.jx_tier1_specs.specs.Asking.{told}
use Rattle.jx_tier1_specs.specs.Reading.{Coding}
use Rattle.jx_tier1_specs.specs.Needs.{followed_pass, pass_needs, needs_from, is_last}
use Rattle.jx_tier1_specs.specs.Alike.{AreAlike}
use Rattle.jx_tier1_specs.specs.Writing.{Writing, fresh_writing, wrote, segment_by}
use Rattle.jx_tier1_specs.specs.Encoding.{Encoding, after_pass}
use Rattle.jx_tier1_specs.specs.declared.stand.Stand.{Stand}
use Rattle.jx_tier1_specs.specs.Ends.{stand_of, end_in, ends_from}
use Rattle.jx_tier1_specs.proofs.BackLemmas.{tree_of}
use Rattle.jx_tier1_specs.proofs.WroteLemmas.{last_is}
use Rattle.jx_tier1.specs.InStep.{copy_answer, Recoding, begun, copied, checked, marked, ended, recoded_pass}
use Rattle.jx_tier1.proofs.AnswerLemmas.{AnswersAs}
use Rattle.jx_tier1.proofs.CopyLemmas.{aimed, encoding_of, coded_by, copier_at, pen_at, pass_coded}

-- what was told so far, and what will be
abbrev pub told_from : Coding → Cells → ℕ → ℕ → Recoding → List ℕ
told_from d g count pass r = r.looked ++ ends_from d.style pass r.stands (aimed g r.copying.writing) (needs_from d g count pass r.cells)

-- what is told from the end of a pass on
abbrev told_by : Bool → ℕ → ℕ → List Stand → Writing → List (List MqGiven) → List ℕ
told_by ends style pass stands w more =
    if ends then map (λ s. end_in (segment_by w) s) (stands ++ stand_of w ∷ []) ++ ends_from style (pass + 1) [] (fresh_writing w.target (raw_pass style (pass + 1)) w.contexts) more
    else ends_from style (pass + 1) (stands ++ stand_of w ∷ []) w more

told_if : (ends : Bool) (style pass : ℕ) (g : Cells) (looked : List ℕ) (stands : List Stand) (w : Writing) (more : List (List MqGiven))
    → (if ends then looked ++ map (λ s. end_in (segment_by w) s) (stands ++ stand_of w ∷ []) else looked)
    ++ ends_from style (pass + 1) (if ends then [] else stands ++ stand_of w ∷ []) (aimed g (if ends then fresh_writing w.target (raw_pass style (pass + 1)) w.contexts else w)) more
    ≡ looked ++ told_by ends style pass stands (aimed g w) more
told_if true style pass g looked stands w more =
    append_assoc looked (map (λ s. end_in (segment_by w) s) (stands ++ stand_of w ∷ [])) (ends_from style (pass + 1) [] (fresh_writing g (raw_pass style (pass + 1)) w.contexts) more)
told_if false style pass g looked stands w more = refl

ends_next : (style pass : ℕ) (stands : List Stand) (w : Writing) (given : List MqGiven) (more : List (List MqGiven))
    → ends_from style pass stands w (given ∷ more) ≡ told_by (end_pass style pass || is_last more) style pass stands (wrote w given) more
unfolding ends_from
ends_next style pass stands w given more = refl

-- one more pass
pub pass_told : (c d : Coding) (count pass : ℕ) (r : Recoding) (g : Cells) → AreAlike c d → r.copying.writing.raw ≡ raw_pass d.style pass
    → AnswersAs copy_answer g (tree_of c pass r.cells) (copier_at c d pass r)
    → told_from d g count (pass + 1) (recoded_pass c d (count == 0) pass r) ≡ told_from d g (suc count) pass r
unfolding begun copied checked marked ended needs_from
pass_told c d count pass r g h k a =
    let cells : Cells = (told copy_answer (tree_of c pass r.cells) (copier_at c d pass r)).0 in
    let w : Writing = pen_at c d pass r in
    let given : List MqGiven = pass_needs d g pass r.cells in
    let now : Cells = followed_pass d g pass r.cells in
    let m : after_pass d pass (encoding_of g r) ≡ coded_by cells (aimed g w) r.done = pass_coded c d pass r g h k a in
    let T = λ (e : Encoding). r.looked ++ told_by (end_pass d.style pass || count == 0) d.style pass r.stands e.writing (needs_from d g count (pass + 1) e.cells) in
    let L = λ (b : Bool). r.looked ++ told_by (end_pass d.style pass || b) d.style pass r.stands (wrote (aimed g r.copying.writing) given) (needs_from d g count (pass + 1) now) in
    told_if (end_pass d.style pass || count == 0) d.style pass g r.looked r.stands w (needs_from d g count (pass + 1) cells)
    ∙ sym (ap T m)
    ∙ ap L (sym (last_is d g count (pass + 1) now))
    ∙ ap (λ (l : List ℕ). r.looked ++ l) (sym (ends_next d.style pass r.stands (aimed g r.copying.writing) given (needs_from d g count (pass + 1) now)))
