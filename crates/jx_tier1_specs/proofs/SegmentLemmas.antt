-- An encoder's segments are those of the decisions.
use Rattle.std.proofs.Common.{◌≡◌, ◌+◌, ℕ, Bool, true, false, ◌||◌, List, [], ◌∷◌, ◌++◌, refl, sym, ap, ◌∙◌, append_assoc, if◌then◌else◌}
use Rattle.std.proofs.lemmas.List.{append-nil}
use Rattle.jx_coder_specs.specs.MqTable.{MqContexts, mq_fresh}
use Rattle.jx_coder_specs.specs.MqWriting.{MqWriter, MqGiven, Decided, Renewed, mq_writer, mq_wrote, mq_after_bit, mq_written_from, mq_bits}
use Rattle.jx_base.specs.Passes.{raw_pass, end_pass}
use Rattle.jx_tier1_specs.specs.Cells.{Cells}
use Rattle.jx_tier1_specs.specs.Needs.{segment_of, renewed_by, contexts_after, segments_from, is_last}
use Rattle.jx_tier1_specs.specs.Writing.{Writing, wrote, fresh_writing, segment_by, finished_from}
use Rattle.jx_tier1_specs.proofs.KindLemmas.{same_kind}
use Rattle.jx_tier1_specs.proofs.WroteLemmas.{made, wrote_more, wrote_target, or_false}

pub wrote_mq : (given : List MqGiven) (g : Cells) (mq : MqWriter) (bits : List Bool) (x : MqContexts)
    → wrote (made g false mq bits x) given ≡ made g false (mq_written_from mq x given).writer bits (mq_written_from mq x given).contexts
wrote_mq [] g mq bits x = refl
wrote_mq (Decided label bit ∷ given) g mq bits x = wrote_mq given g (mq_wrote mq x label bit) bits (mq_after_bit mq x label bit)
wrote_mq (Renewed ∷ given) g mq bits x = wrote_mq given g mq bits mq_fresh

pub wrote_bits : (given : List MqGiven) (g : Cells) (mq : MqWriter) (bits : List Bool) (x : MqContexts)
    → wrote (made g true mq bits x) given ≡ made g true mq (bits ++ mq_bits given) (renewed_by x given)
wrote_bits [] g mq bits x = ap (λ (b : List Bool). made g true mq b x) (sym (append-nil bits))
wrote_bits (Decided label bit ∷ given) g mq bits x =
    wrote_bits given g mq (bits ++ bit ∷ []) x
    ∙ ap (λ (b : List Bool). made g true mq b (renewed_by x given)) (append_assoc bits (bit ∷ []) (mq_bits given))
wrote_bits (Renewed ∷ given) g mq bits x = wrote_bits given g mq bits mq_fresh

pub segment_is : (raw : Bool) (g : Cells) (x : MqContexts) (given : List MqGiven) → segment_of raw x given ≡ segment_by (wrote (fresh_writing g raw x) given)
segment_is true g x given = ap (λ (w : Writing). segment_by w) (sym (wrote_bits given g mq_writer [] x))
segment_is false g x given = ap (λ (w : Writing). segment_by w) (sym (wrote_mq given g mq_writer [] x))

pub contexts_is : (raw : Bool) (g : Cells) (x : MqContexts) (given : List MqGiven) → contexts_after raw x given ≡ (wrote (fresh_writing g raw x) given).contexts
contexts_is true g x given = ap (λ (w : Writing). w.contexts) (sym (wrote_bits given g mq_writer [] x))
contexts_is false g x given = ap (λ (w : Writing). w.contexts) (sym (wrote_mq given g mq_writer [] x))

either : (b : Bool) (p q r s : List (List ℕ)) → p ≡ q → (b ≡ false → r ≡ s) → (if b then p else r) ≡ (if b then q else s)
either true p q r s e f = e
either false p q r s e f = f refl

kind_goes_on : (style pass : ℕ) (g : Cells) (x : MqContexts) (last : Bool) → end_pass style pass || last ≡ false
    → fresh_writing g (raw_pass style (pass + 1)) x ≡ fresh_writing g (raw_pass style pass) x
kind_goes_on style pass g x last h = ap (λ (raw : Bool). fresh_writing g raw x) (same_kind style pass (or_false (end_pass style pass) last h))

wrote_target_fresh : (raw : Bool) (g : Cells) (x : MqContexts) (given : List MqGiven) → (wrote (fresh_writing g raw x) given).target ≡ g
wrote_target_fresh raw g x given = wrote_target given (fresh_writing g raw x)

-- what is to come of passes, of which the first one's segment was begun, is what the encoder makes of it
pub segments_finished : (style : ℕ) (g : Cells) (passes : List (List MqGiven)) (pass : ℕ) (x : MqContexts) (begun : List MqGiven)
    → segments_from style pass x begun passes ≡ finished_from style pass (wrote (fresh_writing g (raw_pass style pass) x) begun) passes
unfolding segments_from finished_from
segments_finished style g [] pass x begun = refl
segments_finished style g (given ∷ more) pass x begun =
    let raw : Bool = raw_pass style pass in
    let w : Writing = fresh_writing g raw x in
    let all : List MqGiven = begun ++ given in
    let v : Writing = wrote (wrote w begun) given in
    let e = wrote_more begun given w in
    let last : Bool = is_last more in
    let S = λ (u : Writing). segment_by u ∷ finished_from style (pass + 1) (fresh_writing u.target (raw_pass style (pass + 1)) u.contexts) more in
    let T = λ (t : Cells). segment_of raw x all ∷ finished_from style (pass + 1) (fresh_writing t (raw_pass style (pass + 1)) (contexts_after raw x all)) more in
    let R = λ (s : List ℕ). s ∷ finished_from style (pass + 1) (fresh_writing (wrote w all).target (raw_pass style (pass + 1)) (contexts_after raw x all)) more in
    let Q = λ (y : MqContexts). segment_by (wrote w all) ∷ finished_from style (pass + 1) (fresh_writing (wrote w all).target (raw_pass style (pass + 1)) y) more in
    let I = λ (u : Writing). finished_from style (pass + 1) (wrote u all) more in
    let J = λ (u : Writing). finished_from style (pass + 1) u more in
    either (end_pass style pass || last) _ _ _ _
    (ap (λ (r : List (List ℕ)). segment_of raw x all ∷ r) (segments_finished style g more (pass + 1) (contexts_after raw x all) [])
    ∙ (ap T (sym (wrote_target_fresh raw g x all)) ∙ (ap R (segment_is raw g x all) ∙ (ap Q (contexts_is raw g x all) ∙ ap S e))))
    (λ h. segments_finished style g more (pass + 1) x all ∙ (ap I (kind_goes_on style pass g x last h) ∙ ap J e))
