-- Passes that are read from written segments make what the grid makes.
use Rattle.std.proofs.Common.{◌≡◌, ◌≤◌, ◌+◌, ℕ, zero, suc, Bool, true, false, ◌||◌, List, [], ◌∷◌, ◌++◌, refl, sym, ap, subst, ◌∙◌, arith, if◌then◌else◌, Option, Some, None}
use Rattle.std.proofs.lemmas.List.{append-nil}
use Rattle.std.specs.Bool.{MatchBool}
use Rattle.jx_coder_specs.specs.MqTable.{mq_fresh}
use Rattle.jx_coder_specs.specs.MqWriting.{MqGiven, Renewed}
use Rattle.jx_base.specs.Passes.{raw_pass, end_pass, resets, is_causal}
use Rattle.jx_tier1_specs.specs.Cells.{Cells}
use Rattle.jx_tier1_specs.specs.Asking.{Asking, told}
use Rattle.jx_tier1_specs.specs.Pass.{pass_of}
use Rattle.jx_tier1_specs.specs.Symbol.{symbol_asked}
use Rattle.jx_tier1_specs.specs.Segments.{begins}
use Rattle.jx_tier1_specs.specs.Reading.{Reading, Coding, Decoding, opened, read_answer, read_bits, read_symbol, read_within, read_pass, read_from, first_wrong, ends_by_symbol, looked_of, zeros, at_start}
use Rattle.jx_tier1_specs.specs.Needs.{followed, called_for, followed_pass, followed_from, renewal, symbol_needs, pass_needs, needs_from, segments_from, written, is_last}
use Rattle.jx_tier1_specs.proofs.GivesLemmas.{read_all, Gives, read_all_more, read_all_raw, gives_more, AreInverse, told_follows}
use Rattle.jx_tier1_specs.proofs.ReadyLemmas.{Ready, started, next_if, begins_next, opened_if}

renewed_read : (b : Bool) (r : Reading) → (if b then record r { contexts = mq_fresh } else r) ≡ read_all r (if b then Renewed ∷ [] else [])
renewed_read true r = refl
renewed_read false r = refl

symbol_right : (g : Cells) → followed g symbol_asked ≡ true
unfolding symbol_asked
symbol_right g = refl

symbol_read : (here raw : Bool) (g : Cells) (r : Reading) → r.raw ≡ raw → Gives r (if here then called_for raw g symbol_asked else [])
    → (if here then told read_answer symbol_asked r else (true, r)) ≡ (true, read_all r (if here then called_for raw g symbol_asked else []))
symbol_read true raw g r e h =
    let given : List MqGiven = called_for raw g symbol_asked in
    let P : List MqGiven → Type 0 = λ l. Gives r l in
    told_follows symbol_asked g raw r [] e (subst P (sym (append-nil given)) h) ∙ ap (λ (b : Bool). (b, read_all r given)) (symbol_right g)
symbol_read false raw g r e h = refl

right_kept : (w : Option ℕ) (pass : ℕ) → first_wrong w pass true ≡ w
right_kept (Some n) pass = refl
right_kept None pass = refl

abbrev pub tree_of : Coding → ℕ → Cells → Asking Cells
tree_of c pass now = pass_of c.band (is_causal c.style) c.planes pass now

-- a pass reads what the grid calls for
pub record IsReadPass (c : Coding) (g : Cells) (pass : ℕ) (before after : Decoding) : Type 0 where
  pub cells : after.cells ≡ followed_pass c g pass before.cells
  pub reading : after.reading ≡ read_all before.reading (pass_needs c g pass before.cells)
  pub rest : after.rest ≡ before.rest
  pub wrong : after.wrong ≡ before.wrong
  pub looked : after.looked ≡ before.looked ++ looked_of after.reading ∷ []

bits_read : (c : Coding) (g : Cells) (pass : ℕ) (d : Decoding) (more : List MqGiven) → d.reading.raw ≡ raw_pass c.style pass
    → Gives (read_all d.reading (renewal c)) (called_for (raw_pass c.style pass) g (tree_of c pass d.cells) ++ more)
    → read_bits c pass d ≡ (followed_pass c g pass d.cells, read_all (read_all d.reading (renewal c)) (called_for (raw_pass c.style pass) g (tree_of c pass d.cells)))
bits_read c g pass d more e h =
    ap (λ (r : Reading). told read_answer (tree_of c pass d.cells) r) (renewed_read (resets c.style) d.reading)
    ∙ told_follows (tree_of c pass d.cells) g (raw_pass c.style pass) (read_all d.reading (renewal c)) more (read_all_raw (renewal c) d.reading ∙ e) h

abbrev within_by : ℕ → Decoding → Cells → Bool × Reading → Decoding
within_by pass d cells symbol = record {
  cells = cells;
  reading = symbol.1;
  rest = d.rest;
  looked = d.looked ++ looked_of symbol.1 ∷ [];
  wrong = first_wrong d.wrong pass symbol.0;
}

abbrev within_of : ℕ → ℕ → Decoding → Cells × Reading → Decoding
within_of style pass d bits = within_by pass d bits.0 (read_symbol style pass bits.1)

pub pass_read : (c : Coding) (g : Cells) (pass : ℕ) (d : Decoding) → d.reading.raw ≡ raw_pass c.style pass
    → Gives d.reading (pass_needs c g pass d.cells) → IsReadPass c g pass d (read_within c pass d)
pass_read c g pass d e h =
    let raw : Bool = raw_pass c.style pass in
    let ren : List MqGiven = renewal c in
    let own : List MqGiven = called_for raw g (tree_of c pass d.cells) in
    let symbol : List MqGiven = symbol_needs c g pass in
    let r1 : Reading = read_all d.reading ren in
    let r2 : Reading = read_all r1 own in
    let h1 : Gives r1 (own ++ symbol) = gives_more ren (own ++ symbol) d.reading h in
    let h2 : Gives r2 symbol = gives_more own symbol r1 h1 in
    let k : r2.raw ≡ raw = read_all_raw own r1 ∙ (read_all_raw ren d.reading ∙ e) in
    let now : Cells = followed_pass c g pass d.cells in
    let W = λ (b : Cells × Reading). within_of c.style pass d b in
    let V = λ (s : Bool × Reading). within_by pass d now s in
    let f : read_within c pass d ≡ within_by pass d now (true, read_all r2 symbol) =
    ap W (bits_read c g pass d symbol e h1) ∙ ap V (symbol_read (ends_by_symbol c.style pass) raw g r2 k h2) in
    record {
      cells = ap (λ (x : Decoding). x.cells) f;
      reading = ap (λ (x : Decoding). x.reading) f ∙ sym (read_all_more ren (own ++ symbol) d.reading ∙ read_all_more own symbol r1);
      rest = ap (λ (x : Decoding). x.rest) f;
      wrong = ap (λ (x : Decoding). x.wrong) f ∙ right_kept d.wrong pass;
      looked = ap (λ (x : Decoding). x.looked) f ∙ ap (λ (r : Reading). d.looked ++ looked_of r ∷ []) (sym (ap (λ (x : Decoding). x.reading) f));
    }

pub opened_cells : (b : Bool) (style pass : ℕ) (d : Decoding) → (opened_if b style pass d).cells ≡ d.cells
opened_cells true style pass d = refl
opened_cells false style pass d = refl

opened_wrong : (b : Bool) (style pass : ℕ) (d : Decoding) → (opened_if b style pass d).wrong ≡ d.wrong
opened_wrong true style pass d = refl
opened_wrong false style pass d = refl

-- the first passes of those that are ready
pub record IsRead (c : Coding) (g : Cells) (count pass : ℕ) (d : Decoding) : Type 0 where
  pub cells : (read_from c count pass d).cells ≡ followed_from c g count pass d.cells
  pub wrong : (read_from c count pass d).wrong ≡ d.wrong

abbrev pub ReadyAt : Coding → Cells → ℕ → ℕ → Decoding → Type 0
ReadyAt c g left pass d = Ready c.style pass (needs_from c g left pass d.cells) (opened c.style pass d).reading (opened c.style pass d).rest

-- the next pass is ready after one that was read
pub ready_next : AreInverse → (c : Coding) (g : Cells) (left pass : ℕ) (d after : Decoding)
    → IsReadPass c g pass d after
    → MatchBool (end_pass c.style pass || is_last (needs_from c g left (pass + 1) (followed_pass c g pass d.cells)))
    (d.rest ≡ segments_from c.style (pass + 1) (read_all d.reading (pass_needs c g pass d.cells)).contexts [] (needs_from c g left (pass + 1) (followed_pass c g pass d.cells)))
    (Ready c.style (pass + 1) (needs_from c g left (pass + 1) (followed_pass c g pass d.cells)) (read_all d.reading (pass_needs c g pass d.cells)) d.rest)
    → ReadyAt c g left (pass + 1) after
unfolding needs_from
ready_next i c g zero pass d after p h = tt
ready_next i c g (suc left) pass d after p h =
    let now : Cells = followed_pass c g pass d.cells in
    let N = λ (x : Cells). needs_from c g (suc left) (pass + 1) x in
    let r : Reading = read_all d.reading (pass_needs c g pass d.cells) in
    let ends : Bool = end_pass c.style pass in
    let A : Reading → Type 0 = λ s. MatchBool (ends || false) (d.rest ≡ segments_from c.style (pass + 1) s.contexts [] (N now)) (Ready c.style (pass + 1) (N now) s d.rest) in
    let B : List (List ℕ) → Type 0 = λ s. MatchBool (ends || false) (s ≡ segments_from c.style (pass + 1) after.reading.contexts [] (N now)) (Ready c.style (pass + 1) (N now) after.reading s) in
    let k = subst B (sym p.rest) (subst A (sym p.reading) h) in
    let n = next_if i ends c.style pass (pass_needs c g (pass + 1) now) (needs_from c g left (pass + 1 + 1) (followed_pass c g (pass + 1) now)) after k in
    let C : Bool → Type 0 = λ b. Ready c.style (pass + 1) (N now) (opened_if b c.style (pass + 1) after).reading (opened_if b c.style (pass + 1) after).rest in
    let D : Cells → Type 0 = λ x. Ready c.style (pass + 1) (N x) (opened c.style (pass + 1) after).reading (opened c.style (pass + 1) after).rest in
    subst D (sym p.cells) (subst C (sym (begins_next c.style pass)) n)

pub reads_back : AreInverse → (c : Coding) (g : Cells) (count left pass : ℕ) (d : Decoding) → count ≤ left → ReadyAt c g left pass d → IsRead c g count pass d
unfolding read_from followed_from needs_from
reads_back i c g zero left pass d l h = record { cells = refl; wrong = refl }
reads_back i c g (suc count) zero pass d l h = absurd (omega arith)
reads_back i c g (suc count) (suc left) pass d l h =
    let o : Decoding = opened c.style pass d in
    let here : Bool = begins c.style pass in
    let oc : o.cells ≡ d.cells = opened_cells here c.style pass d in
    let T = λ (x : Cells). pass_needs c g pass x in
    let G : Cells → Type 0 = λ x. Gives o.reading (T x) in
    let p0 : IsReadPass c g pass o (read_within c pass o) = pass_read c g pass o h.0 (subst G (sym oc) h.1) in
    let M : Cells → Type 0 = λ x. MatchBool (end_pass c.style pass || is_last (needs_from c g left (pass + 1) (followed_pass c g pass x)))
    (o.rest ≡ segments_from c.style (pass + 1) (read_all o.reading (pass_needs c g pass x)).contexts [] (needs_from c g left (pass + 1) (followed_pass c g pass x)))
    (Ready c.style (pass + 1) (needs_from c g left (pass + 1) (followed_pass c g pass x)) (read_all o.reading (pass_needs c g pass x)) o.rest) in
    let after : Decoding = read_pass c pass d in
    let n : ReadyAt c g left (pass + 1) after = ready_next i c g left pass o after p0 (subst M (sym oc) h.2) in
    let r = reads_back i c g count left (pass + 1) after (omega arith) n in
    record {
      cells = r.cells ∙ ap (λ (x : Cells). followed_from c g count (pass + 1) x) (p0.cells ∙ ap (λ (x : Cells). followed_pass c g pass x) oc);
      wrong = r.wrong ∙ (p0.wrong ∙ opened_wrong here c.style pass d);
    }

-- at the start the passes are ready
pub first_ready : AreInverse → (c : Coding) (g : Cells) (passes width height : ℕ)
    → ReadyAt c g passes 0 (at_start width height (segments_from c.style 0 mq_fresh [] (needs_from c g passes 0 (zeros width height))))
unfolding needs_from
first_ready i c g zero width height = tt
first_ready i c g (suc passes) width height =
    (started i c.style (pass_needs c g 0 (zeros width height)) (needs_from c g passes (0 + 1) (followed_pass c g 0 (zeros width height))) 0 mq_fresh []).ready

pub all_read : AreInverse → (c : Coding) (g : Cells) (passes count : ℕ) → count ≤ passes
    → IsRead c g count 0 (at_start g.width g.height (written c g passes))
all_read i c g passes count l = reads_back i c g count passes 0 (at_start g.width g.height (written c g passes)) l (first_ready i c g passes g.width g.height)
