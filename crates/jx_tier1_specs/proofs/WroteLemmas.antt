-- What an encoder has written.
use Rattle.std.proofs.Common.{◌≡◌, ◌<◌, ◌≤◌, ◌+◌, ◌-◌, ◌==◌, ℕ, zero, suc, Bool, true, false, ◌||◌, List, [], ◌∷◌, ◌++◌, refl, arith, sym, ap, ◌∙◌, append_assoc, if◌then◌else◌, subst}
use Rattle.std.proofs.lemmas.Bool.Decides.{nat_tests}
use Rattle.std.proofs.lemmas.List.{append-nil}
use Rattle.jx_coder_specs.specs.MqTable.{MqContexts, mq_fresh}
use Rattle.jx_coder_specs.specs.MqWriting.{MqWriter, MqGiven, Decided, Renewed, mq_wrote, mq_after_bit}
use Rattle.jx_base.specs.Passes.{raw_pass, end_pass, resets, is_causal}
use Rattle.jx_tier1_specs.specs.Cells.{Cells}
use Rattle.jx_tier1_specs.specs.Asking.{Asking, Told, Ask, told}
use Rattle.jx_tier1_specs.specs.Pass.{pass_of}
use Rattle.jx_tier1_specs.specs.Symbol.{symbol_asked}
use Rattle.jx_tier1_specs.specs.Reading.{Coding, turned_over, ends_by_symbol}
use Rattle.jx_tier1_specs.specs.Needs.{answer_of, followed, called_for, followed_pass, renewal, symbol_needs, pass_needs, needs_from, is_last}
use Rattle.jx_tier1_specs.specs.Writing.{Writing, write_answer, wrote, after_coded, fresh_writing, segment_by, finished_from}
use Rattle.jx_tier1_specs.specs.Encoding.{Encoding, after_bits, after_symbol, after_pass, closed, after_step}
use Rattle.jx_tier1_specs.proofs.KindLemmas.{same_kind}

abbrev pub made : Cells → Bool → MqWriter → List Bool → MqContexts → Writing
made g raw mq bits x = record { target = g; raw = raw; mq = mq; bits = bits; contexts = x }

raw_told : {A : Type 0} (g : Cells) (t : Asking A) (mq : MqWriter) (bits : List Bool) (x : MqContexts)
    → told write_answer t (made g true mq bits x) ≡ (followed g t, wrote (made g true mq bits x) (called_for true g t))
raw_told g (Told a) mq bits x = refl
raw_told g (Ask q k) mq bits x = raw_told g (k (answer_of g q)) mq (bits ++ answer_of g q ∷ []) x

mq_told : {A : Type 0} (g : Cells) (t : Asking A) (mq : MqWriter) (bits : List Bool) (x : MqContexts)
    → told write_answer t (made g false mq bits x) ≡ (followed g t, wrote (made g false mq bits x) (called_for false g t))
mq_told g (Told a) mq bits x = refl
mq_told g (Ask q k) mq bits x =
    let b : Bool = turned_over false q (answer_of g q) in
    mq_told g (k (answer_of g q)) (mq_wrote mq x q.label b) bits (mq_after_bit mq x q.label b)

told_made : {A : Type 0} (t : Asking A) (raw : Bool) (g : Cells) (mq : MqWriter) (bits : List Bool) (x : MqContexts)
    → told write_answer t (made g raw mq bits x) ≡ (followed g t, wrote (made g raw mq bits x) (called_for raw g t))
told_made t true g mq bits x = raw_told g t mq bits x
told_made t false g mq bits x = mq_told g t mq bits x

-- a procedure whose questions the grid answers writes the decisions that the grid is asked for
pub told_wrote : {A : Type 0} (t : Asking A) (w : Writing) → told write_answer t w ≡ (followed w.target t, wrote w (called_for w.raw w.target t))
told_wrote t w = told_made t w.raw w.target w.mq w.bits w.contexts

pub wrote_more : (first more : List MqGiven) (w : Writing) → wrote w (first ++ more) ≡ wrote (wrote w first) more
wrote_more [] more w = refl
wrote_more (Decided label bit ∷ first) more w = wrote_more first more (after_coded w label bit)
wrote_more (Renewed ∷ first) more w = wrote_more first more (record w { contexts = mq_fresh })

-- the grid and the kind stay
coded_raw : (raw : Bool) (g : Cells) (mq : MqWriter) (bits : List Bool) (x : MqContexts) (label : ℕ) (bit : Bool)
    → (after_coded (made g raw mq bits x) label bit).raw ≡ raw
coded_raw true g mq bits x label bit = refl
coded_raw false g mq bits x label bit = refl

coded_target : (raw : Bool) (g : Cells) (mq : MqWriter) (bits : List Bool) (x : MqContexts) (label : ℕ) (bit : Bool)
    → (after_coded (made g raw mq bits x) label bit).target ≡ g
coded_target true g mq bits x label bit = refl
coded_target false g mq bits x label bit = refl

pub wrote_raw : (given : List MqGiven) (w : Writing) → (wrote w given).raw ≡ w.raw
wrote_raw [] w = refl
wrote_raw (Decided label bit ∷ given) w = wrote_raw given (after_coded w label bit) ∙ coded_raw w.raw w.target w.mq w.bits w.contexts label bit
wrote_raw (Renewed ∷ given) w = wrote_raw given (record w { contexts = mq_fresh })

pub wrote_target : (given : List MqGiven) (w : Writing) → (wrote w given).target ≡ w.target
wrote_target [] w = refl
wrote_target (Decided label bit ∷ given) w = wrote_target given (after_coded w label bit) ∙ coded_target w.raw w.target w.mq w.bits w.contexts label bit
wrote_target (Renewed ∷ given) w = wrote_target given (record w { contexts = mq_fresh })

renewed_wrote : (resets : Bool) (w : Writing)
    → (if resets then record w { contexts = mq_fresh } else w) ≡ wrote w (if resets then Renewed ∷ [] else [])
renewed_wrote true w = refl
renewed_wrote false w = refl

-- what a symbol's decisions are
symbol_wrote : (here : Bool) (e : Encoding) (given : List MqGiven) → (told write_answer symbol_asked e.writing).1 ≡ wrote e.writing given
    → (if here then record e { writing = (told write_answer symbol_asked e.writing).1 } else e) ≡ record e { writing = wrote e.writing (if here then given else []) }
symbol_wrote true e given h = ap (λ w. record e { writing = w }) h
symbol_wrote false e given h = refl

-- a procedure's decisions, where the grid and the kind are known
told_known : {A : Type 0} (t : Asking A) (g : Cells) (raw : Bool) (w : Writing) → w.target ≡ g → w.raw ≡ raw
    → told write_answer t w ≡ (followed g t, wrote w (called_for raw g t))
told_known t g raw w p q =
    told_wrote t w ∙ (ap (λ h. (followed h t, wrote w (called_for w.raw h t))) p ∙ ap (λ r. (followed g t, wrote w (called_for r g t))) q)

abbrev asked_of : Coding → ℕ → Cells → Asking Cells
asked_of c pass now = pass_of c.band (is_causal c.style) c.planes pass now

bits_wrote : (c : Coding) (pass : ℕ) (e : Encoding) (raw : Bool) → e.writing.raw ≡ raw
    → after_bits c pass e ≡ record e {
      cells = followed_pass c e.writing.target pass e.cells;
      writing = wrote (wrote e.writing (renewal c)) (called_for raw e.writing.target (asked_of c pass e.cells));
    }
bits_wrote c pass e raw h =
    let w : Writing = e.writing in
    let t : Asking Cells = asked_of c pass e.cells in
    let v : Writing = wrote w (renewal c) in
    let F = λ (u : Writing). record e { cells = (told write_answer t u).0; writing = (told write_answer t u).1 } in
    let G = λ (p : Cells × Writing). record e { cells = p.0; writing = p.1 } in
    ap F (renewed_wrote (resets c.style) w) ∙ ap G (told_known t w.target raw v (wrote_target (renewal c) w) (wrote_raw (renewal c) w ∙ h))

all_wrote : (w : Writing) (a b d : List MqGiven) → wrote (wrote (wrote w a) b) d ≡ wrote w (a ++ (b ++ d))
all_wrote w a b d = sym (wrote_more a (b ++ d) w ∙ wrote_more b d (wrote w a))

-- a pass with its symbol
pub pass_wrote : (c : Coding) (pass : ℕ) (e : Encoding) → e.writing.raw ≡ raw_pass c.style pass
    → after_symbol c.style pass (after_bits c pass e) ≡ after_pass c pass e
pass_wrote c pass e h =
    let g : Cells = e.writing.target in
    let raw : Bool = raw_pass c.style pass in
    let ren : List MqGiven = renewal c in
    let own : List MqGiven = called_for raw g (asked_of c pass e.cells) in
    let v : Writing = wrote (wrote e.writing ren) own in
    let f : Encoding = record e { cells = followed_pass c g pass e.cells; writing = v } in
    let S = λ (x : Encoding). after_symbol c.style pass x in
    let p = wrote_target own (wrote e.writing ren) ∙ wrote_target ren e.writing in
    let q = wrote_raw own (wrote e.writing ren) ∙ (wrote_raw ren e.writing ∙ h) in
    let k = ap (λ (x : Bool × Writing). x.1) (told_known symbol_asked g raw v p q) in
    ap S (bits_wrote c pass e raw h)
    ∙ (symbol_wrote (ends_by_symbol c.style pass) f (called_for raw g symbol_asked) k
    ∙ ap (λ (x : Writing). record f { writing = x }) (all_wrote e.writing ren own (symbol_needs c g pass)))

-- a segment goes on, or is done
step_if : (style : ℕ) (ends : Bool) (pass : ℕ) (p : Encoding) (more : List (List MqGiven))
    → (if ends then closed style pass p else p).done ++ finished_from style (pass + 1) (if ends then closed style pass p else p).writing more
    ≡ p.done ++ (if ends then segment_by p.writing ∷ finished_from style (pass + 1) (fresh_writing p.writing.target (raw_pass style (pass + 1)) p.writing.contexts) more
    else finished_from style (pass + 1) p.writing more)
step_if style true pass p more =
    append_assoc p.done (segment_by p.writing ∷ []) (finished_from style (pass + 1) (closed style pass p).writing more)
step_if style false pass p more = refl

step_cells : (style : ℕ) (ends : Bool) (pass : ℕ) (p : Encoding) → (if ends then closed style pass p else p).cells ≡ p.cells
step_cells style true pass p = refl
step_cells style false pass p = refl

pub isnt_none : (n : ℕ) → (suc n == 0) ≡ false
isnt_none n = grind (arith, nat_tests)

pub last_is : (c : Coding) (g : Cells) (count pass : ℕ) (now : Cells) → is_last (needs_from c g count pass now) ≡ (count == 0)
unfolding needs_from
last_is c g zero pass now = refl
last_is c g (suc count) pass now = sym (isnt_none count)

step_here : (c : Coding) (count pass : ℕ) (e : Encoding)
    → (after_step c (count == 0) pass e).done
    ++ finished_from c.style (pass + 1) (after_step c (count == 0) pass e).writing
    (needs_from c e.writing.target count (pass + 1) (after_step c (count == 0) pass e).cells)
    ≡ e.done ++ finished_from c.style pass e.writing (needs_from c e.writing.target (suc count) pass e.cells)
unfolding finished_from needs_from
step_here c count pass e =
    let g : Cells = e.writing.target in
    let p : Encoding = after_pass c pass e in
    let ends : Bool = end_pass c.style pass || count == 0 in
    let f : Encoding = if ends then closed c.style pass p else p in
    let N : List (List MqGiven) = needs_from c g count (pass + 1) p.cells in
    let A = λ (x : Cells). f.done ++ finished_from c.style (pass + 1) f.writing (needs_from c g count (pass + 1) x) in
    let B = λ (l : Bool). e.done ++ (if end_pass c.style pass || l
    then segment_by p.writing ∷ finished_from c.style (pass + 1) (fresh_writing p.writing.target (raw_pass c.style (pass + 1)) p.writing.contexts) N
    else finished_from c.style (pass + 1) p.writing N) in
    let k = wrote_target (pass_needs c g pass e.cells) e.writing in
    ap A (step_cells c.style ends pass p) ∙ (step_if c.style ends pass p N ∙ ap B (sym (last_is c g count (pass + 1) p.cells)))

-- one more pass
pub step_done : (c : Coding) (g : Cells) (count pass : ℕ) (e : Encoding) → e.writing.target ≡ g
    → (after_step c (count == 0) pass e).done
    ++ finished_from c.style (pass + 1) (after_step c (count == 0) pass e).writing
    (needs_from c g count (pass + 1) (after_step c (count == 0) pass e).cells)
    ≡ e.done ++ finished_from c.style pass e.writing (needs_from c g (suc count) pass e.cells)
step_done c g count pass e h =
    let P : Cells → Type 0 = λ x. (after_step c (count == 0) pass e).done
    ++ finished_from c.style (pass + 1) (after_step c (count == 0) pass e).writing
    (needs_from c x count (pass + 1) (after_step c (count == 0) pass e).cells)
    ≡ e.done ++ finished_from c.style pass e.writing (needs_from c x (suc count) pass e.cells) in
    subst P h (step_here c count pass e)

-- the kind of the coder after a pass, where another one follows
step_kind_if : (style : ℕ) (ends : Bool) (pass : ℕ) (p : Encoding) → p.writing.raw ≡ raw_pass style pass → (ends ≡ false → end_pass style pass ≡ false)
    → (if ends then closed style pass p else p).writing.raw ≡ raw_pass style (pass + 1)
step_kind_if style true pass p h k = refl
step_kind_if style false pass p h k = h ∙ sym (same_kind style pass (k refl))

pub or_false : (a b : Bool) → a || b ≡ false → a ≡ false
or_false true b h = h
or_false false b h = refl

pub step_kind : (c : Coding) (last : Bool) (pass : ℕ) (e : Encoding) → e.writing.raw ≡ raw_pass c.style pass
    → (after_step c last pass e).writing.raw ≡ raw_pass c.style (pass + 1)
step_kind c last pass e h =
    step_kind_if c.style (end_pass c.style pass || last) pass (after_pass c pass e)
    (wrote_raw (pass_needs c e.writing.target pass e.cells) e.writing ∙ h) (or_false (end_pass c.style pass) last)

step_target_if : (style : ℕ) (ends : Bool) (pass : ℕ) (p : Encoding) → (if ends then closed style pass p else p).writing.target ≡ p.writing.target
step_target_if style true pass p = refl
step_target_if style false pass p = refl

pub step_target : (c : Coding) (last : Bool) (pass : ℕ) (e : Encoding) → (after_step c last pass e).writing.target ≡ e.writing.target
step_target c last pass e =
    step_target_if c.style (end_pass c.style pass || last) pass (after_pass c pass e) ∙ wrote_target (pass_needs c e.writing.target pass e.cells) e.writing

pub last_test : (end pass : ℕ) → pass < end → (end - (pass + 1) == 0) ≡ (pass + 1 == end)
last_test end pass h = grind (arith, nat_tests)

-- one more pass of those up to an end
pub step_more : (c : Coding) (g : Cells) (end pass : ℕ) (e : Encoding) → pass < end → e.writing.target ≡ g
    → (after_step c (pass + 1 == end) pass e).done
    ++ finished_from c.style (pass + 1) (after_step c (pass + 1 == end) pass e).writing
    (needs_from c g (end - (pass + 1)) (pass + 1) (after_step c (pass + 1 == end) pass e).cells)
    ≡ e.done ++ finished_from c.style pass e.writing (needs_from c g (end - pass) pass e.cells)
step_more c g end pass e h t =
    let k : end - pass ≡ suc (end - (pass + 1)) = omega arith in
    let P : Bool → Type 0 = λ last. (after_step c last pass e).done
    ++ finished_from c.style (pass + 1) (after_step c last pass e).writing
    (needs_from c g (end - (pass + 1)) (pass + 1) (after_step c last pass e).cells)
    ≡ e.done ++ finished_from c.style pass e.writing (needs_from c g (end - pass) pass e.cells) in
    let Q : ℕ → Type 0 = λ n. (after_step c (end - (pass + 1) == 0) pass e).done
    ++ finished_from c.style (pass + 1) (after_step c (end - (pass + 1) == 0) pass e).writing
    (needs_from c g (end - (pass + 1)) (pass + 1) (after_step c (end - (pass + 1) == 0) pass e).cells)
    ≡ e.done ++ finished_from c.style pass e.writing (needs_from c g n pass e.cells) in
    subst P (last_test end pass h) (subst Q (sym k) (step_done c g (end - (pass + 1)) pass e t))

-- no pass is left
pub step_end : (c : Coding) (g : Cells) (end pass : ℕ) (e : Encoding) → end ≤ pass
    → e.done ++ finished_from c.style pass e.writing (needs_from c g (end - pass) pass e.cells) ≡ e.done
unfolding needs_from finished_from
step_end c g end pass e h = let k : end - pass ≡ 0 = omega arith in rw k (append-nil e.done)
