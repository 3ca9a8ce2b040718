-- What is copied while it is read is what an encoder writes of the grid that comes of it.
use Rattle.std.proofs.Common.{◌≡◌, ◌+◌, ℕ, Bool, true, false, List, [], ◌∷◌, ◌++◌, ◌||◌, drop, refl, sym, ap, ◌∙◌, if◌then◌else◌}
use Rattle.jx_base.specs.declared.names.Band.{Band}
use Rattle.jx_coder_specs.specs.MqTable.{MqContexts, mq_fresh}
use Rattle.jx_coder_specs.specs.MqWriting.{MqWriter}
use Rattle.jx_base.specs.Passes.{raw_pass, end_pass, resets, is_causal}
use Rattle.jx_tier1_specs.specs.Cells.{Cells}
use Rattle.jx_tier1_specs.specs.Asking.{Asking, Told, Ask, told}
use Rattle.jx_tier1_specs.specs.Pass.{pass_of}
use Rattle.jx_tier1_specs.specs.Segments.{begins}
use Rattle.jx_tier1_specs.specs.Symbol.{symbol_asked}
use Rattle.jx_tier1_specs.specs.Reading.{Reading, Coding, Decoding, fresh_reading, first_segment, opened, read_answer, read_symbol, read_within, read_pass, turned_over, ends_by_symbol, first_wrong, looked_of}
use Rattle.jx_tier1_specs.specs.Alike.{AreAlike}
use Rattle.jx_tier1_specs.specs.Writing.{Writing, write_answer, after_coded, fresh_writing, segment_by}
use Rattle.jx_tier1_specs.specs.Encoding.{Encoding, renewed_writing, after_bits, after_symbol, after_pass, closed, after_step}
use Rattle.jx_tier1_specs.proofs.BackLemmas.{tree_of}
use Rattle.jx_tier1_specs.proofs.WroteLemmas.{made, told_wrote, pass_wrote}
use Rattle.jx_tier1.specs.InStep.{Copying, copy_answer, Recoding, begun, renewed_both, copied, checked, marked, ended, recoded_pass}
use Rattle.jx_tier1.proofs.AnswerLemmas.{AnswersAs, answers_follow}

-- a writing that a grid answers
abbrev pub aimed : Cells → Writing → Writing
aimed g w = record w { target = g }

aimed_made : (g t : Cells) (raw : Bool) (mq : MqWriter) (bits : List Bool) (x : MqContexts) (label : ℕ) (bit : Bool)
    → aimed g (after_coded (made t raw mq bits x) label bit) ≡ after_coded (made g raw mq bits x) label bit
aimed_made g t true mq bits x label bit = refl
aimed_made g t false mq bits x label bit = refl

aimed_coded : (g : Cells) (w : Writing) (label : ℕ) (bit : Bool) → aimed g (after_coded w label bit) ≡ after_coded (aimed g w) label bit
aimed_coded g w label bit = aimed_made g w.target w.raw w.mq w.bits w.contexts label bit

-- what is read
pub copied_reads : {A : Type 0} (t : Asking A) (s : Copying) → ((told copy_answer t s).0, (told copy_answer t s).1.reading) ≡ told read_answer t s.reading
copied_reads (Told a) s = refl
copied_reads (Ask q k) s = copied_reads (k (read_answer s.reading q).0) (copy_answer s q).1

-- what is written, where a grid answers as was read
pub copied_writes : {A : Type 0} (g : Cells) (t : Asking A) (s : Copying) → AnswersAs copy_answer g t s
    → aimed g (told copy_answer t s).1.writing ≡ (told write_answer t (aimed g s.writing)).1
copied_writes g (Told a) s h = refl
copied_writes g (Ask q k) s h =
    let w : Writing = s.writing in
    let a : Bool = (read_answer s.reading q).0 in
    let n : Copying = (copy_answer s q).1 in
    let F = λ (u : Writing). (told write_answer (k a) u).1 in
    let G = λ (b : Bool). (told write_answer (k b) (after_coded (aimed g w) q.label (turned_over w.raw q b))).1 in
    copied_writes g (k a) n h.1 ∙ (ap F (aimed_coded g w q.label (turned_over w.raw q a)) ∙ sym (ap G h.0))

pub copied_is : (g : Cells) (t : Asking Cells) (s : Copying) → AnswersAs copy_answer g t s
    → told write_answer t (aimed g s.writing) ≡ ((told copy_answer t s).0, aimed g (told copy_answer t s).1.writing)
copied_is g t s h =
    let u : Writing = aimed g s.writing in
    let c : (told write_answer t u).0 ≡ (told copy_answer t s).0 =
    ap (λ (p : Cells × Writing). p.0) (told_wrote t u) ∙ answers_follow copy_answer g t s h in
    ap (λ (x : Cells). (x, (told write_answer t u).1)) c
    ∙ ap (λ (v : Writing). ((told copy_answer t s).0, v)) (sym (copied_writes g t s h))

renewed_if : (b : Bool) (g : Cells) (w : Writing) → (if b then record (aimed g w) { contexts = mq_fresh } else aimed g w) ≡ aimed g (if b then record w { contexts = mq_fresh } else w)
renewed_if true g w = refl
renewed_if false g w = refl

symbol_made : (g t : Cells) (raw : Bool) (mq : MqWriter) (bits : List Bool) (x : MqContexts)
    → (told write_answer symbol_asked (made g raw mq bits x)).1 ≡ aimed g (told write_answer symbol_asked (made t raw mq bits x)).1
unfolding symbol_asked
symbol_made g t true mq bits x = refl
symbol_made g t false mq bits x = refl

symbol_if : (b : Bool) (g : Cells) (w : Writing)
    → (if b then (told write_answer symbol_asked (aimed g w)).1 else aimed g w) ≡ aimed g (if b then (told write_answer symbol_asked w).1 else w)
symbol_if true g w = symbol_made g w.target w.raw w.mq w.bits w.contexts
symbol_if false g w = refl

abbrev pub coded_by : Cells → Writing → List (List ℕ) → Encoding
coded_by cells w done = record { cells = cells; writing = w; done = done }

-- a recoding as the encoding of a grid
abbrev pub encoding_of : Cells → Recoding → Encoding
encoding_of g r = record { cells = r.cells; writing = aimed g r.copying.writing; done = r.done }

marked_if : (b : Bool) (e : Encoding) → (if b then record e { writing = (told write_answer symbol_asked e.writing).1 } else e)
    ≡ record e { writing = (if b then (told write_answer symbol_asked e.writing).1 else e.writing) }
marked_if true e = refl
marked_if false e = refl

ended_if : (b : Bool) (style pass : ℕ) (g : Cells) (cells : Cells) (w : Writing) (done : List (List ℕ))
    → (if b then closed style pass (coded_by cells (aimed g w) done) else coded_by cells (aimed g w) done)
    ≡ coded_by cells (aimed g (if b then fresh_writing w.target (raw_pass style (pass + 1)) w.contexts else w)) (if b then done ++ segment_by w ∷ [] else done)
ended_if true style pass g cells w done = refl
ended_if false style pass g cells w done = refl

-- both codings have the same passes
pub alike_tree : (c d : Coding) (pass : ℕ) (now : Cells) → AreAlike c d → tree_of d pass now ≡ tree_of c pass now
alike_tree c d pass now h =
    ap (λ (b : Band). pass_of b (is_causal d.style) d.planes pass now) h.band
    ∙ (ap (λ (b : Bool). pass_of c.band b d.planes pass now) h.causal
    ∙ ap (λ (p : ℕ). pass_of c.band (is_causal c.style) p pass now) h.planes)

bits_are : (c d : Coding) (pass : ℕ) (r : Recoding) (s : Copying) (g : Cells) → AreAlike c d → renewed_writing d.style (aimed g r.copying.writing) ≡ aimed g s.writing
    → AnswersAs copy_answer g (tree_of c pass r.cells) s
    → after_bits d pass (encoding_of g r) ≡ coded_by (told copy_answer (tree_of c pass r.cells) s).0 (aimed g (told copy_answer (tree_of c pass r.cells) s).1.writing) r.done
bits_are c d pass r s g h e a =
    let E = λ (p : Cells × Writing). coded_by p.0 p.1 r.done in
    let T = λ (t : Asking Cells). told write_answer t (renewed_writing d.style (aimed g r.copying.writing)) in
    let U = λ (u : Writing). told write_answer (tree_of c pass r.cells) u in
    ap E (ap T (alike_tree c d pass r.cells h) ∙ (ap U e ∙ copied_is g (tree_of c pass r.cells) s a))

-- the copier at a pass's own decisions
abbrev pub copier_at : Coding → Coding → ℕ → Recoding → Copying
copier_at c d pass r = renewed_both c.style d.style (begun c.style pass r).copying

-- the pen at a pass's end
abbrev pub pen_at : Coding → Coding → ℕ → Recoding → Writing
pen_at c d pass r =
    if ends_by_symbol d.style pass then (told write_answer symbol_asked (told copy_answer (tree_of c pass r.cells) (copier_at c d pass r)).1.writing).1
    else (told copy_answer (tree_of c pass r.cells) (copier_at c d pass r)).1.writing

-- what it has written is what a grid calls for that answers so
pub pass_coded : (c d : Coding) (pass : ℕ) (r : Recoding) (g : Cells) → AreAlike c d → r.copying.writing.raw ≡ raw_pass d.style pass
    → AnswersAs copy_answer g (tree_of c pass r.cells) (copier_at c d pass r)
    → after_pass d pass (encoding_of g r) ≡ coded_by (told copy_answer (tree_of c pass r.cells) (copier_at c d pass r)).0 (aimed g (pen_at c d pass r)) r.done
unfolding begun
pass_coded c d pass r g h k a =
    let s : Copying = copier_at c d pass r in
    let t : Asking Cells = tree_of c pass r.cells in
    let here : Bool = ends_by_symbol d.style pass in
    let v : Writing = (told copy_answer t s).1.writing in
    let cells : Cells = (told copy_answer t s).0 in
    let b = bits_are c d pass r s g h (renewed_if (resets d.style) g r.copying.writing) a in
    let S = λ (x : Encoding). after_symbol d.style pass x in
    let W = λ (x : Writing). coded_by cells x r.done in
    sym (pass_wrote d pass (encoding_of g r) k) ∙ (ap S b ∙ (marked_if here (W (aimed g v)) ∙ ap W (symbol_if here g v)))

-- a pass is one of an encoder of a grid that answers so
pub pass_encodes : (c d : Coding) (last : Bool) (pass : ℕ) (r : Recoding) (g : Cells) → AreAlike c d → r.copying.writing.raw ≡ raw_pass d.style pass
    → AnswersAs copy_answer g (tree_of c pass r.cells) (copier_at c d pass r)
    → encoding_of g (recoded_pass c d last pass r) ≡ after_step d last pass (encoding_of g r)
unfolding begun copied checked marked ended
pass_encodes c d last pass r g h k a =
    let ends : Bool = end_pass d.style pass || last in
    let cells : Cells = (told copy_answer (tree_of c pass r.cells) (copier_at c d pass r)).0 in
    let F = λ (x : Encoding). if ends then closed d.style pass x else x in
    sym (ap F (pass_coded c d pass r g h k a) ∙ ended_if ends d.style pass g cells (pen_at c d pass r) r.done)

-- a recoding as a decoding
abbrev pub decoding_of : List ℕ → Recoding → Decoding
decoding_of looked r = record { cells = r.cells; reading = r.copying.reading; rest = r.rest; looked = looked; wrong = r.wrong }

abbrev opened_if : Bool → ℕ → ℕ → Decoding → Decoding
opened_if b style pass d =
    if b then record d { reading = fresh_reading (raw_pass style pass) (first_segment d.rest) d.reading.contexts; rest = drop 1 d.rest } else d

abbrev begun_if : Bool → ℕ → ℕ → Decoding → Decoding
begun_if b style pass d = record d {
  reading = if b then fresh_reading (raw_pass style pass) (first_segment d.rest) d.reading.contexts else d.reading;
  rest = if b then drop 1 d.rest else d.rest;
}

opened_is : (b : Bool) (style pass : ℕ) (d : Decoding) → opened_if b style pass d ≡ begun_if b style pass d
opened_is true style pass d = refl
opened_is false style pass d = refl

abbrev within_of : Coding → ℕ → Decoding → Cells × Reading → Decoding
within_of c pass d bits = record {
  cells = bits.0;
  reading = (read_symbol c.style pass bits.1).1;
  rest = d.rest;
  looked = d.looked ++ looked_of (read_symbol c.style pass bits.1).1 ∷ [];
  wrong = first_wrong d.wrong pass (read_symbol c.style pass bits.1).0;
}

-- a pass is one of a decoder
pub pass_decodes : (c d : Coding) (last : Bool) (pass : ℕ) (r : Recoding) (looked : List ℕ)
    → decoding_of (read_pass c pass (decoding_of looked r)).looked (recoded_pass c d last pass r) ≡ read_pass c pass (decoding_of looked r)
unfolding begun copied checked marked ended
pass_decodes c d last pass r looked =
    let o : Recoding = begun c.style pass r in
    let s : Copying = copier_at c d pass r in
    let D : Decoding = decoding_of looked o in
    let e : opened c.style pass (decoding_of looked r) ≡ D = opened_is (begins c.style pass) c.style pass (decoding_of looked r) in
    let R = λ (x : Decoding). read_within c pass x in
    let N = λ (bits : Cells × Reading). within_of c pass D bits in
    let f : read_pass c pass (decoding_of looked r) ≡ N ((told copy_answer (tree_of c pass r.cells) s).0, (told copy_answer (tree_of c pass r.cells) s).1.reading) =
    ap R e ∙ ap N (sym (copied_reads (tree_of c pass r.cells) s)) in
    let L = λ (x : List ℕ). decoding_of x (recoded_pass c d last pass r) in
    ap L (ap (λ (x : Decoding). x.looked) f) ∙ sym f
