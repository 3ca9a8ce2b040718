-- Passes that are decoded and coded in step.
use Rattle.std.proofs.Common.{◌≡◌, ◌<◌, ◌≤◌, ◌+◌, ◌-◌, ◌/◌, ◌==◌, ℕ, zero, suc, Bool, List, [], ◌++◌, refl, sym, ap, ◌∙◌, arith, subst}
use Rattle.std.proofs.lemmas.List.{append-nil}
use Rattle.jx_coder_specs.specs.MqTable.{mq_fresh}
use Rattle.jx_base.specs.Passes.{raw_pass, is_causal}
use Rattle.jx_tier1_specs.specs.Cells.{Cells}
use Rattle.jx_tier1_specs.specs.Asking.{Asking}
use Rattle.jx_tier1_specs.specs.Pass.{IsScan, plane_of}
use Rattle.jx_tier1_specs.specs.Reading.{Coding, Decoding, read_pass, read_from, zeros, decoded}
use Rattle.jx_tier1_specs.specs.Needs.{needs, needs_from, written}
use Rattle.jx_tier1_specs.specs.Alike.{HasPasses, AreAlike}
use Rattle.jx_tier1_specs.specs.Writing.{Writing, fresh_writing, finished_from}
use Rattle.jx_tier1_specs.specs.Encoding.{Encoding, after_step}
use Rattle.jx_tier1_specs.specs.Ends.{ends_from}
use Rattle.jx_tier1_specs.proofs.GridLemmas.{IsFront, AreClean, front_same, front_next}
use Rattle.jx_tier1_specs.proofs.LeafLemmas.{IsBack, leaves_told}
use Rattle.jx_tier1_specs.proofs.BackLemmas.{tree_of}
use Rattle.jx_tier1_specs.proofs.PassBackLemmas.{pass_back, clean_more, one_scan, zeros_clean, refollowed}
use Rattle.jx_tier1_specs.proofs.WroteLemmas.{step_done, step_kind, last_test}
use Rattle.jx_tier1_specs.proofs.SegmentLemmas.{segments_finished}
use Rattle.jx_tier1.specs.InStep.{Copying, copy_answer, Recoding, begun, copied, checked, marked, ended, recoded_pass, recoded_from, to_recode}
use Rattle.jx_tier1.proofs.AnswerLemmas.{AnswersAs, pass_shows}
use Rattle.jx_tier1.proofs.TellLemmas.{told_from, pass_told}
use Rattle.jx_tier1.proofs.CopyLemmas.{aimed, encoding_of, copier_at, pass_encodes, decoding_of, pass_decodes}

-- what is decoded
reads_from : (c d : Coding) (count pass : ℕ) (r : Recoding) (looked : List ℕ)
    → decoding_of (read_from c count pass (decoding_of looked r)).looked (recoded_from c d count pass r) ≡ read_from c count pass (decoding_of looked r)
unfolding read_from recoded_from
reads_from c d zero pass r looked = refl
reads_from c d (suc count) pass r looked =
    let after : Recoding = recoded_pass c d (count == 0) pass r in
    let p : Decoding = read_pass c pass (decoding_of looked r) in
    let P : Decoding → Type 0 = λ x. decoding_of (read_from c count (pass + 1) x).looked (recoded_from c d count (pass + 1) after) ≡ read_from c count (pass + 1) x in
    subst P (pass_decodes c d (count == 0) pass r looked) (reads_from c d count (pass + 1) after p.looked)

-- what is written
record IsInStep (c d : Coding) (count pass : ℕ) (r : Recoding) : Type 0 where
  pub front : IsFront c.planes r.cells (recoded_from c d count pass r).cells
  pub done : (g : Cells) → IsFront c.planes (recoded_from c d count pass r).cells g
      → (recoded_from c d count pass r).done ≡ r.done ++ finished_from d.style pass (aimed g r.copying.writing) (needs_from d g count pass r.cells)
  pub looked : (g : Cells) → IsFront c.planes (recoded_from c d count pass r).cells g → (recoded_from c d count pass r).looked ≡ told_from d g count pass r

in_step : (c d : Coding) (passes count pass : ℕ) (r : Recoding) → HasPasses c passes → AreAlike c d → pass + count ≤ passes
    → AreClean c.planes ((pass + 1) / 3 + 1) r.cells → r.copying.writing.raw ≡ raw_pass d.style pass → IsInStep c d count pass r
unfolding recoded_from needs_from finished_from ends_from begun copied checked marked ended
in_step c d passes zero pass r h e l a k =
    record { front = front_same c.planes r.cells; done = λ g f. sym (append-nil r.done); looked = λ g f. sym (append-nil r.looked) }
in_step c d passes (suc count) pass r h e l a k =
    let last : Bool = count == 0 in
    let scan : IsScan (plane_of c.band (is_causal c.style) c.planes pass) = one_scan c pass passes h (omega arith) in
    let clean : AreClean c.planes ((pass + 2) / 3 + 1) r.cells = clean_more c.planes ((pass + 1) / 3 + 1) ((pass + 2) / 3 + 1) r.cells (omega arith) a in
    let t : Asking Cells = tree_of c pass r.cells in
    let s : Copying = copier_at c d pass r in
    let after : Recoding = recoded_pass c d last pass r in
    let most : ℕ = (pass + 2) / 3 + 1 in
    let b : IsBack c.planes most r.cells t after.cells = leaves_told copy_answer t (IsBack c.planes most r.cells t) s (pass_back c pass r.cells scan clean) in
    let answers : (g : Cells) → IsFront c.planes after.cells g → AnswersAs copy_answer g t s = λ g f. pass_shows copy_answer c pass r.cells s g scan clean f in
    let step : (g : Cells) → IsFront c.planes after.cells g → encoding_of g after ≡ after_step d last pass (encoding_of g r) =
    λ g f. pass_encodes c d last pass r g e k (answers g f) in
    let here : encoding_of after.cells after ≡ after_step d last pass (encoding_of after.cells r) = step after.cells (front_same c.planes after.cells) in
    let kind : after.copying.writing.raw ≡ raw_pass d.style (pass + 1) =
    ap (λ (x : Encoding). x.writing.raw) here ∙ step_kind d last pass (encoding_of after.cells r) k in
    let more : IsInStep c d count (pass + 1) after =
    in_step c d passes count (pass + 1) after h e (omega arith) (clean_more c.planes most ((pass + 1 + 1) / 3 + 1) after.cells (omega arith) b.clean) kind in
    let end : Cells = (recoded_from c d count (pass + 1) after).cells in
    record {
      front = front_next c.planes r.cells after.cells end b.front more.front;
      done = λ g f.
          let F = λ (x : Encoding). x.done ++ finished_from d.style (pass + 1) x.writing (needs_from d g count (pass + 1) x.cells) in
          more.done g f
          ∙ (ap F (step g (front_next c.planes after.cells end g more.front f)) ∙ step_done d g count pass (encoding_of g r) refl);
      looked = λ g f. more.looked g f ∙ pass_told c d count pass r g e k (answers g (front_next c.planes after.cells end g more.front f));
    }

-- a block
pub recoded_is : (width height : ℕ) (c d : Coding) (segments : List (List ℕ)) (passes : ℕ)
    → decoding_of (decoded width height c segments passes).looked (recoded_from c d passes 0 (to_recode width height d.style segments))
    ≡ decoded width height c segments passes
unfolding decoded
recoded_is width height c d segments passes = reads_from c d passes 0 (to_recode width height d.style segments) []

pub recoded_wrong : (width height : ℕ) (c d : Coding) (segments : List (List ℕ)) (passes : ℕ)
    → (recoded_from c d passes 0 (to_recode width height d.style segments)).wrong ≡ (decoded width height c segments passes).wrong
recoded_wrong width height c d segments passes = ap (λ (x : Decoding). x.wrong) (recoded_is width height c d segments passes)

pub recoded_done : (width height : ℕ) (c d : Coding) (segments : List (List ℕ)) (passes : ℕ) → HasPasses c passes → AreAlike c d
    → (recoded_from c d passes 0 (to_recode width height d.style segments)).done ≡ written d (decoded width height c segments passes).cells passes
recoded_done width height c d segments passes h e =
    let r : Recoding = to_recode width height d.style segments in
    let g : Cells = (decoded width height c segments passes).cells in
    let z = refollowed width height c c segments passes passes (omega arith) h (record { band = refl; causal = refl; planes = refl }) in
    let k : (recoded_from c d passes 0 r).cells ≡ g = ap (λ (x : Decoding). x.cells) (recoded_is width height c d segments passes) in
    let m = in_step c d passes passes 0 r h e (omega arith) (zeros_clean c.planes ((0 + 1) / 3 + 1) width height) refl in
    let f : IsFront c.planes (recoded_from c d passes 0 r).cells g =
    subst (λ (x : Cells). IsFront c.planes (recoded_from c d passes 0 r).cells x) k (front_same c.planes (recoded_from c d passes 0 r).cells) in
    let w : Writing = fresh_writing g (raw_pass d.style 0) mq_fresh in
    let N = λ (x : Cells). finished_from d.style 0 w (needs_from d g passes 0 x) in
    let a : zeros g.width g.height ≡ zeros width height = ap (λ (n : ℕ). zeros n g.height) z.width_is ∙ ap (λ (n : ℕ). zeros width n) z.height_is in
    m.done g f ∙ (sym (ap N a) ∙ sym (segments_finished d.style g (needs d g passes) 0 mq_fresh []))

-- how far a decoder of the new segments looks
pub recoded_looked : (width height : ℕ) (c d : Coding) (segments : List (List ℕ)) (passes : ℕ) → HasPasses c passes → AreAlike c d
    → ((e : Coding) (g : Cells) (n : ℕ) → (decoded g.width g.height e (written e g n) n).looked ≡ ends_from e.style 0 [] (fresh_writing g (raw_pass e.style 0) mq_fresh) (needs e g n))
    → (recoded_from c d passes 0 (to_recode width height d.style segments)).looked
    ≡ (decoded width height d (recoded_from c d passes 0 (to_recode width height d.style segments)).done passes).looked
recoded_looked width height c d segments passes h e law =
    let r : Recoding = to_recode width height d.style segments in
    let g : Cells = (decoded width height c segments passes).cells in
    let z = refollowed width height c c segments passes passes (omega arith) h (record { band = refl; causal = refl; planes = refl }) in
    let k : (recoded_from c d passes 0 r).cells ≡ g = ap (λ (x : Decoding). x.cells) (recoded_is width height c d segments passes) in
    let m = in_step c d passes passes 0 r h e (omega arith) (zeros_clean c.planes ((0 + 1) / 3 + 1) width height) refl in
    let f : IsFront c.planes (recoded_from c d passes 0 r).cells g =
    subst (λ (x : Cells). IsFront c.planes (recoded_from c d passes 0 r).cells x) k (front_same c.planes (recoded_from c d passes 0 r).cells) in
    let w : Writing = fresh_writing g (raw_pass d.style 0) mq_fresh in
    let N = λ (x : Cells). ends_from d.style 0 [] w (needs_from d g passes 0 x) in
    let a : zeros g.width g.height ≡ zeros width height = ap (λ (n : ℕ). zeros n g.height) z.width_is ∙ ap (λ (n : ℕ). zeros width n) z.height_is in
    m.looked g f
    ∙ sym (ap N a)
    ∙ sym (law d g passes)
    ∙ ap (λ (n : ℕ). (decoded n g.height d (written d g passes) passes).looked) z.width_is
    ∙ ap (λ (n : ℕ). (decoded width n d (written d g passes) passes).looked) z.height_is
    ∙ ap (λ (s : List (List ℕ)). (decoded width height d s passes).looked) (sym (recoded_done width height c d segments passes h e))

-- passes one after the other
pub recoded_more : (c d : Coding) (end pass : ℕ) (r : Recoding) → pass < end
    → recoded_from c d (end - pass) pass r ≡ recoded_from c d (end - (pass + 1)) (pass + 1) (recoded_pass c d (pass + 1 == end) pass r)
unfolding recoded_from
recoded_more c d end pass r h =
    let e : end - pass ≡ suc (end - (pass + 1)) = omega arith in
    let P : Bool → Type 0 = λ last.
    recoded_from c d (suc (end - (pass + 1))) pass r ≡ recoded_from c d (end - (pass + 1)) (pass + 1) (recoded_pass c d last pass r) in
    rw e (subst P (last_test end pass h) refl)

pub recoded_end : (c d : Coding) (end pass : ℕ) (r : Recoding) → end ≤ pass → recoded_from c d (end - pass) pass r ≡ r
unfolding recoded_from
recoded_end c d end pass r h = let e : end - pass ≡ 0 = omega arith in rw e refl
