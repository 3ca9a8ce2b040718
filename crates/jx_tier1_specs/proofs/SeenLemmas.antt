-- What a decoder has looked at by the end of each pass, over all passes.
use Rattle.std.proofs.Common.{◌≡◌, ◌≤◌, ◌+◌, ℕ, zero, suc, Bool, true, false, ◌||◌, List, [], ◌∷◌, ◌++◌, length, map, take, drop, refl, sym, ap, subst, ◌∙◌, arith, inl, inr, append_assoc, length-append}
use Rattle.std.specs.Bool.{MatchBool}
use Rattle.std.proofs.lemmas.Bool.{cases_Bool}
use Rattle.std.proofs.lemmas.List.{append-nil, take_at}
use Rattle.jx_coder_specs.specs.MqTable.{MqContexts, mq_fresh}
use Rattle.jx_coder_specs.specs.MqWriting.{MqGiven}
use Rattle.jx_base.specs.Passes.{raw_pass, end_pass}
use Rattle.jx_tier1_specs.specs.Cells.{Cells}
use Rattle.jx_tier1_specs.specs.Segments.{begins}
use Rattle.jx_tier1_specs.specs.Reading.{Reading, Coding, Decoding, fresh_reading, first_segment, looked_of, opened, read_within, read_pass, read_from, zeros, at_start, decoded}
use Rattle.jx_tier1_specs.specs.Needs.{segment_of, contexts_after, segments_from, followed_pass, pass_needs, needs_from, needs, written, is_last}
use Rattle.jx_tier1_specs.specs.Writing.{Writing, fresh_writing, wrote, segment_by}
use Rattle.jx_tier1_specs.specs.declared.stand.Stand.{Stand}
use Rattle.jx_tier1_specs.specs.Ends.{stand_of, end_in, ends_from}
use Rattle.jx_tier1_specs.proofs.KindLemmas.{same_kind}
use Rattle.jx_tier1_specs.proofs.WroteLemmas.{wrote_more, wrote_target, or_false}
use Rattle.jx_tier1_specs.proofs.SegmentLemmas.{segment_is, contexts_is}
use Rattle.jx_tier1_specs.proofs.GivesLemmas.{read_all, Gives, read_all_more, AreInverse, segment_contexts}
use Rattle.jx_tier1_specs.proofs.ReadyLemmas.{Ready, begins_next, opened_if}
use Rattle.jx_tier1_specs.proofs.BackLemmas.{IsReadPass, pass_read, opened_cells, ReadyAt, ready_next, first_ready}
use Rattle.jx_tier1_specs.proofs.EndLemmas.{AreTold, seen_from, seen_tail, seen_next, seen_none, segments_end, segments_on, ends_end, ends_on, first_is, or_last, or_none, all_seen, begun_writing, seen_here, noted}

-- ---- over written segments
abbrev is_told : ℕ → ℕ → Cells → MqContexts → List MqGiven → List Stand → List (List MqGiven) → Type 0
is_told style pass g x begun stands passes =
    all_seen style pass x begun stands passes (segments_from style pass x begun passes) ≡ ends_from style pass stands (begun_writing style pass g x begun) passes

-- a segment that ends with the pass: what stands of it, and what comes after it
told_end : AreInverse → AreTold → (style pass : ℕ) (g : Cells) (x : MqContexts) (begun given : List MqGiven) (stands : List Stand) (more : List (List MqGiven))
    → end_pass style pass || is_last more ≡ true
    → seen_tail (end_pass style pass) style pass (read_all (read_all (fresh_reading (raw_pass style pass) (segment_of (raw_pass style pass) x (begun ++ given)) x) begun) given)
    (segments_from style (pass + 1) (contexts_after (raw_pass style pass) x (begun ++ given)) [] more) more
    ≡ ends_from style (pass + 1) [] (fresh_writing g (raw_pass style (pass + 1)) (contexts_after (raw_pass style pass) x (begun ++ given))) more
    → is_told style pass g x begun stands (given ∷ more)
told_end i t style pass g x begun given stands more e tail =
    let raw : Bool = raw_pass style pass in
    let all : List MqGiven = begun ++ given in
    let s : List ℕ = segment_of raw x all in
    let rest : List (List ℕ) = segments_from style (pass + 1) (contexts_after raw x all) [] more in
    let v : Writing = wrote (begun_writing style pass g x begun) given in
    let r : Reading = read_all (fresh_reading raw s x) begun in
    let cut : segments_from style pass x begun (given ∷ more) ≡ s ∷ rest = segments_end style pass x begun given more e in
    let first : first_segment (segments_from style pass x begun (given ∷ more)) ≡ s = ap (λ (l : List (List ℕ)). first_segment l) cut in
    let here : looked_of (read_all r given) ≡ end_in s (stand_of v) =
    seen_here t style pass g x begun given s (rw first at (first_is style given more pass x begun)) in
    let wrote_all : wrote (fresh_writing g raw x) all ≡ v = wrote_more begun given (fresh_writing g raw x) in
    let by : s ≡ segment_by v = segment_is raw g x all ∙ ap (λ (w : Writing). segment_by w) wrote_all in
    let contexts : contexts_after raw x all ≡ v.contexts = contexts_is raw g x all ∙ ap (λ (w : Writing). w.contexts) wrote_all in
    let target : v.target ≡ g = wrote_target given (begun_writing style pass g x begun) ∙ wrote_target begun (fresh_writing g raw x) in
    let M = λ (l : List ℕ). map (λ d. end_in l d) (stands ++ stand_of v ∷ []) in
    let E = λ (h : Cells) (y : MqContexts). ends_from style (pass + 1) [] (fresh_writing h (raw_pass style (pass + 1)) y) more in
    ap (λ (l : List (List ℕ)). all_seen style pass x begun stands (given ∷ more) l) cut
    ∙ ap (λ (l : List ℕ). map (λ d. end_in s d) stands ++ l) (seen_next style pass r rest given more)
    ∙ ap (λ (n : ℕ). map (λ d. end_in s d) stands ++ n ∷ seen_tail (end_pass style pass) style pass (read_all r given) rest more) here
    ∙ ap (λ (l : List ℕ). map (λ d. end_in s d) stands ++ end_in s (stand_of v) ∷ l) tail
    ∙ noted s stands (stand_of v) (E g (contexts_after raw x all))
    ∙ ap (λ (l : List ℕ). M l ++ E g (contexts_after raw x all)) by
    ∙ ap (λ (y : MqContexts). M (segment_by v) ++ E g y) contexts
    ∙ ap (λ (h : Cells). M (segment_by v) ++ E h v.contexts) (sym target)
    ∙ sym (ends_end style pass stands (begun_writing style pass g x begun) given more e)

-- the next segment, from the contexts that this one left
tail_told : AreInverse → (style pass : ℕ) (g : Cells) (x : MqContexts) (begun given : List MqGiven) (passes : List (List MqGiven)) → end_pass style pass ≡ true
    → is_told style (pass + 1) g (contexts_after (raw_pass style pass) x (begun ++ given)) [] [] passes
    → seen_tail (end_pass style pass) style pass (read_all (read_all (fresh_reading (raw_pass style pass) (segment_of (raw_pass style pass) x (begun ++ given)) x) begun) given)
    (segments_from style (pass + 1) (contexts_after (raw_pass style pass) x (begun ++ given)) [] passes) passes
    ≡ ends_from style (pass + 1) [] (fresh_writing g (raw_pass style (pass + 1)) (contexts_after (raw_pass style pass) x (begun ++ given))) passes
tail_told i style pass g x begun given passes e h =
    let raw : Bool = raw_pass style pass in
    let all : List MqGiven = begun ++ given in
    let s : List ℕ = segment_of raw x all in
    let y : MqContexts = contexts_after raw x all in
    let rest : List (List ℕ) = segments_from style (pass + 1) y [] passes in
    let f : Reading = fresh_reading raw s x in
    let contexts : (read_all (read_all f begun) given).contexts ≡ y =
    ap (λ (r : Reading). r.contexts) (sym (read_all_more begun given f)) ∙ segment_contexts i raw x all in
    ap (λ (b : Bool). seen_tail b style pass (read_all (read_all f begun) given) rest passes) e
    ∙ ap (λ (z : MqContexts). seen_from style (pass + 1) (fresh_reading (raw_pass style (pass + 1)) (first_segment rest) z) (drop 1 rest) passes) contexts
    ∙ h

-- a segment that goes on
told_on : AreTold → (style pass : ℕ) (g : Cells) (x : MqContexts) (begun given : List MqGiven) (stands : List Stand) (more : List (List MqGiven))
    → end_pass style pass || is_last more ≡ false
    → is_told style (pass + 1) g x (begun ++ given) (stands ++ stand_of (wrote (begun_writing style pass g x begun) given) ∷ []) more
    → is_told style pass g x begun stands (given ∷ more)
told_on t style pass g x begun given stands more e h =
    let raw : Bool = raw_pass style pass in
    let all : List MqGiven = begun ++ given in
    let segments : List (List ℕ) = segments_from style (pass + 1) x all more in
    let s : List ℕ = first_segment segments in
    let v : Writing = wrote (begun_writing style pass g x begun) given in
    let f : Reading = fresh_reading raw s x in
    let r : Reading = read_all f begun in
    let ends : end_pass style pass ≡ false = or_false (end_pass style pass) (is_last more) e in
    let kind : raw_pass style (pass + 1) ≡ raw = same_kind style pass ends in
    let cut : segments_from style pass x begun (given ∷ more) ≡ segments = segments_on style pass x begun given more e in
    let first : first_segment (segments_from style pass x begun (given ∷ more)) ≡ s = ap (λ (l : List (List ℕ)). first_segment l) cut in
    let here : looked_of (read_all r given) ≡ end_in s (stand_of v) =
    seen_here t style pass g x begun given s (rw first at (first_is style given more pass x begun)) in
    let rest : List (List ℕ) = drop 1 segments in
    let all_stands : List Stand = stands ++ stand_of v ∷ [] in
    let S = λ (q : Reading). map (λ d. end_in s d) all_stands ++ seen_from style (pass + 1) q rest more in
    ap (λ (l : List (List ℕ)). all_seen style pass x begun stands (given ∷ more) l) cut
    ∙ ap (λ (l : List ℕ). map (λ d. end_in s d) stands ++ l) (seen_next style pass r rest given more)
    ∙ ap (λ (b : Bool). map (λ d. end_in s d) stands ++ looked_of (read_all r given) ∷ seen_tail b style pass (read_all r given) rest more) ends
    ∙ ap (λ (n : ℕ). map (λ d. end_in s d) stands ++ n ∷ seen_from style (pass + 1) (read_all r given) rest more) here
    ∙ noted s stands (stand_of v) (seen_from style (pass + 1) (read_all r given) rest more)
    ∙ ap S (sym (read_all_more begun given f))
    ∙ ap (λ (b : Bool). S (read_all (fresh_reading b s x) all)) (sym kind)
    ∙ h
    ∙ ap (λ (b : Bool). ends_from style (pass + 1) all_stands (wrote (fresh_writing g b x) all) more) kind
    ∙ ap (λ (w : Writing). ends_from style (pass + 1) all_stands w more) (wrote_more begun given (fresh_writing g raw x))
    ∙ sym (ends_on style pass stands (begun_writing style pass g x begun) given more e)

none_told : (style pass : ℕ) (w : Writing) → ends_from style pass [] w [] ≡ []
unfolding ends_from
none_told style pass w = refl

pub all_told : AreInverse → AreTold → (style : ℕ) (g : Cells) (given : List MqGiven) (more : List (List MqGiven)) (pass : ℕ) (x : MqContexts) (begun : List MqGiven) (stands : List Stand)
    → is_told style pass g x begun stands (given ∷ more)
all_told i t style g given [] pass x begun stands =
    let raw : Bool = raw_pass style pass in
    let all : List MqGiven = begun ++ given in
    told_end i t style pass g x begun given stands [] (or_last (end_pass style pass))
    (seen_none (end_pass style pass) style pass (read_all (read_all (fresh_reading raw (segment_of raw x all) x) begun) given) (segments_from style (pass + 1) (contexts_after raw x all) [] [])
    ∙ sym (none_told style (pass + 1) (fresh_writing g (raw_pass style (pass + 1)) (contexts_after raw x all))))
all_told i t style g given (next ∷ more) pass x begun stands =
    elim (cases_Bool (end_pass style pass || false)) [
      | inl e ↦ told_end i t style pass g x begun given stands (next ∷ more) e
          (tail_told i style pass g x begun given (next ∷ more) (or_none (end_pass style pass) e)
          (all_told i t style g next more (pass + 1) (contexts_after (raw_pass style pass) x (begun ++ given)) [] []))
      | inr e ↦ told_on t style pass g x begun given stands (next ∷ more) e
          (all_told i t style g next more (pass + 1) x (begun ++ given) (stands ++ stand_of (wrote (begun_writing style pass g x begun) given) ∷ []))
    ]

-- ---- over what is decoded
opened_looked : (b : Bool) (style pass : ℕ) (d : Decoding) → (opened_if b style pass d).looked ≡ d.looked
opened_looked true style pass d = refl
opened_looked false style pass d = refl

seen_opened : (b : Bool) (style pass : ℕ) (after : Decoding) (more : List (List MqGiven))
    → seen_from style (pass + 1) (opened_if b style (pass + 1) after).reading (opened_if b style (pass + 1) after).rest more ≡ seen_tail b style pass after.reading after.rest more
seen_opened true style pass after more = refl
seen_opened false style pass after more = refl

-- what a pass adds, and what those behind it do
seen_pass : (style pass : ℕ) (before : List ℕ) (r : Reading) (rest : List (List ℕ)) (given : List MqGiven) (more : List (List MqGiven)) (after : Decoding) (looked : List ℕ)
    → after.looked ≡ before ++ looked_of after.reading ∷ [] → after.reading ≡ read_all r given → after.rest ≡ rest
    → looked ≡ after.looked ++ seen_from style (pass + 1) (opened style (pass + 1) after).reading (opened style (pass + 1) after).rest more
    → looked ≡ before ++ seen_from style pass r rest (given ∷ more)
seen_pass style pass before r rest given more after looked a b c h =
    let T = λ (q : Reading) (s : List (List ℕ)). seen_tail (end_pass style pass) style pass q s more in
    h
    ∙ ap (λ (e : Bool). after.looked ++ seen_from style (pass + 1) (opened_if e style (pass + 1) after).reading (opened_if e style (pass + 1) after).rest more) (begins_next style pass)
    ∙ ap (λ (l : List ℕ). after.looked ++ l) (seen_opened (end_pass style pass) style pass after more)
    ∙ ap (λ (l : List ℕ). l ++ T after.reading after.rest) a
    ∙ append_assoc before (looked_of after.reading ∷ []) (T after.reading after.rest)
    ∙ ap (λ (q : Reading). before ++ looked_of q ∷ T q after.rest) b
    ∙ ap (λ (s : List (List ℕ)). before ++ looked_of (read_all r given) ∷ T (read_all r given) s) c
    ∙ ap (λ (l : List ℕ). before ++ l) (sym (seen_next style pass r rest given more))

nothing_seen : (style pass : ℕ) (r : Reading) (rest : List (List ℕ)) → seen_from style pass r rest [] ≡ []
unfolding seen_from
nothing_seen style pass r rest = refl

pub reads_seen : AreInverse → (c : Coding) (g : Cells) (count pass : ℕ) (d : Decoding) → ReadyAt c g count pass d
    → (read_from c count pass d).looked ≡ d.looked ++ seen_from c.style pass (opened c.style pass d).reading (opened c.style pass d).rest (needs_from c g count pass d.cells)
unfolding read_from needs_from
reads_seen i c g zero pass d h =
    sym (ap (λ (l : List ℕ). d.looked ++ l) (nothing_seen c.style pass (opened c.style pass d).reading (opened c.style pass d).rest) ∙ append-nil d.looked)
reads_seen i c g (suc count) pass d h =
    let o : Decoding = opened c.style pass d in
    let here : Bool = begins c.style pass in
    let oc : o.cells ≡ d.cells = opened_cells here c.style pass d in
    let ol : o.looked ≡ d.looked = opened_looked here c.style pass d in
    let G : Cells → Type 0 = λ x. Gives o.reading (pass_needs c g pass x) in
    let p0 : IsReadPass c g pass o (read_within c pass o) = pass_read c g pass o h.0 (subst G (sym oc) h.1) in
    let M : Cells → Type 0 = λ x. MatchBool (end_pass c.style pass || is_last (needs_from c g count (pass + 1) (followed_pass c g pass x)))
    (o.rest ≡ segments_from c.style (pass + 1) (read_all o.reading (pass_needs c g pass x)).contexts [] (needs_from c g count (pass + 1) (followed_pass c g pass x)))
    (Ready c.style (pass + 1) (needs_from c g count (pass + 1) (followed_pass c g pass x)) (read_all o.reading (pass_needs c g pass x)) o.rest) in
    let after : Decoding = read_pass c pass d in
    let n : ReadyAt c g count (pass + 1) after = ready_next i c g count pass o after p0 (subst M (sym oc) h.2) in
    let cells : after.cells ≡ followed_pass c g pass d.cells = p0.cells ∙ ap (λ (x : Cells). followed_pass c g pass x) oc in
    let all = reads_seen i c g count (pass + 1) after n in
    let A = opened c.style (pass + 1) after in
    seen_pass c.style pass d.looked o.reading o.rest (pass_needs c g pass d.cells) (needs_from c g count (pass + 1) (followed_pass c g pass d.cells)) after (read_from c count (pass + 1) after).looked
    (p0.looked ∙ ap (λ (l : List ℕ). l ++ looked_of after.reading ∷ []) ol)
    (p0.reading ∙ ap (λ (x : Cells). read_all o.reading (pass_needs c g pass x)) oc)
    p0.rest
    (all ∙ ap (λ (x : Cells). after.looked ++ seen_from c.style (pass + 1) A.reading A.rest (needs_from c g count (pass + 1) x)) cells)

start_told : AreInverse → AreTold → (c : Coding) (g : Cells) (n : ℕ)
    → all_seen c.style 0 mq_fresh [] [] (needs c g n) (written c g n) ≡ ends_from c.style 0 [] (fresh_writing g (raw_pass c.style 0) mq_fresh) (needs c g n)
unfolding needs_from
start_told i t c g zero = nothing_seen c.style 0 _ _ ∙ sym (none_told c.style 0 (fresh_writing g (raw_pass c.style 0) mq_fresh))
start_told i t c g (suc n) = all_told i t c.style g (pass_needs c g 0 (zeros g.width g.height)) (needs_from c g n (0 + 1) (followed_pass c g 0 (zeros g.width g.height))) 0 mq_fresh [] []

-- all passes of written segments
pub passes_told : AreInverse → AreTold → (c : Coding) (g : Cells) (passes : ℕ)
    → (decoded g.width g.height c (written c g passes) passes).looked ≡ ends_from c.style 0 [] (fresh_writing g (raw_pass c.style 0) mq_fresh) (needs c g passes)
unfolding decoded
passes_told i t c g passes =
    reads_seen i c g passes 0 (at_start g.width g.height (written c g passes)) (first_ready i c g passes g.width g.height) ∙ start_told i t c g passes

-- ---- the first passes of any segments
record Goes (first all : List ℕ) (count : ℕ) : Type 0 where
  more : List ℕ
  is : all ≡ first ++ more
  long : length more ≡ count

pass_looked : (b : Bool) (c : Coding) (pass : ℕ) (d : Decoding) (n : ℕ) → (opened_if b c.style pass d).looked ++ n ∷ [] ≡ d.looked ++ n ∷ []
pass_looked true c pass d n = refl
pass_looked false c pass d n = refl

goes_on : (c : Coding) (count pass : ℕ) (d : Decoding) → Goes d.looked (read_from c count pass d).looked count
unfolding read_from
goes_on c zero pass d = record { more = []; is = sym (append-nil d.looked); long = refl }
goes_on c (suc count) pass d =
    let after : Decoding = read_pass c pass d in
    let h = goes_on c count (pass + 1) after in
    let n : ℕ = looked_of after.reading in
    let one : after.looked ≡ d.looked ++ n ∷ [] = pass_looked (begins c.style pass) c pass d n in
    record {
      more = n ∷ h.more;
      is = h.is ∙ ap (λ (l : List ℕ). l ++ h.more) one ∙ append_assoc d.looked (n ∷ []) h.more;
      long = ap suc h.long;
    }

first_from : (c : Coding) (m n pass : ℕ) (d : Decoding) → m ≤ n → (read_from c m pass d).looked ≡ take (length d.looked + m) (read_from c n pass d).looked
unfolding read_from
first_from c zero n pass d few =
    let h = goes_on c n pass d in
    let e : length d.looked ≡ length d.looked + 0 = omega arith in
    rw h.is (sym (take_at d.looked h.more (length d.looked + 0) e))
first_from c (suc m) zero pass d few = absurd (omega arith)
first_from c (suc m) (suc n) pass d few =
    let after : Decoding = read_pass c pass d in
    let v : ℕ = looked_of after.reading in
    let one : after.looked ≡ d.looked ++ v ∷ [] = pass_looked (begins c.style pass) c pass d v in
    let long : length after.looked ≡ length d.looked + 1 = ap (λ (l : List ℕ). length l) one ∙ length-append d.looked (v ∷ []) in
    let e : length after.looked + m ≡ length d.looked + suc m = omega arith in
    first_from c m n (pass + 1) after (omega arith) ∙ ap (λ (k : ℕ). take k (read_from c n (pass + 1) after).looked) e

pub first_looked : (width height : ℕ) (c : Coding) (segments : List (List ℕ)) (passes first : ℕ) → first ≤ passes
    → (decoded width height c segments first).looked ≡ take first (decoded width height c segments passes).looked
unfolding decoded
first_looked width height c segments passes first few =
    let e : 0 + first ≡ first = omega arith in
    first_from c first passes 0 (at_start width height segments) few ∙ ap (λ (k : ℕ). take k (read_from c passes 0 (at_start width height segments)).looked) e
