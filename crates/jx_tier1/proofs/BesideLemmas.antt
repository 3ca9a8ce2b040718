-- Two codings that are read beside each other: where both answered alike both were read, and where they didn't no grid answers as both did.
use Rattle.std.proofs.Common.{◌≡◌, ◌+◌, ◌*◌, ◌/◌, ℕ, Bool, true, false, drop, refl, sym, ap, ◌∙◌, subst, if◌then◌else◌}
use Rattle.std.specs.Bool.{beq}
use Rattle.std.proofs.lemmas.Bool.{and_parts, and_from}
use Rattle.jx_base.specs.Passes.{raw_pass, is_causal}
use Rattle.jx_tier1_specs.specs.Cells.{Cells}
use Rattle.jx_tier1_specs.specs.Asking.{Asking, Told, Ask, told}
use Rattle.jx_tier1_specs.specs.Pass.{IsScan, plane_of, scanned, pass_of}
use Rattle.jx_tier1_specs.specs.Segments.{begins}
use Rattle.jx_tier1_specs.specs.Reading.{Coding, Decoding, fresh_reading, first_segment, opened, renewed, read_answer, read_pass}
use Rattle.jx_tier1_specs.specs.Alike.{AreAlike}
use Rattle.jx_tier1_specs.proofs.GridLemmas.{IsFront, AreClean}
use Rattle.jx_tier1_specs.proofs.BackLemmas.{tree_of}
use Rattle.jx_tier1.specs.Beside.{HalfValue, Pair, Agree, AreBeside, both_answer, half_read, half_opened, half_begun, half_ended, pair_begun, pair_ended, half_of, pair_of}
use Rattle.jx_tier1.specs.Blocks.{BlockWords}
use Rattle.jx_tier1.specs.BlockPasses.{Shows, Ends}
use Rattle.jx_tier1.specs.Walking.{IsNow}
use Rattle.jx_tier1.proofs.AnswerLemmas.{AnswersAs, pass_shows}
use Rattle.jx_tier1.proofs.CopyLemmas.{alike_tree}
use Rattle.jx_tier1.proofs.ReadingLemmas.{opened_cells}

-- ---- tests
beq_same : (x : Bool) → beq x x ≡ true
beq_same true = refl
beq_same false = refl

beq_to : (x y : Bool) → beq x y ≡ true → y ≡ x
beq_to true true e = refl
beq_to true false e = e
beq_to false true e = sym e
beq_to false false e = refl

-- ---- a procedure
-- the first one is read
first_reads : {A : Type 0} (t : Asking A) (p : Pair)
    → ◌≡◌ {A = A × HalfValue} ((told both_answer t p).0, (told both_answer t p).1.one)
    ((told read_answer t p.one.reading).0, half_read p.one (told read_answer t p.one.reading).1)
first_reads (Told a) p = refl
first_reads (Ask q k) p = first_reads (k (read_answer p.one.reading q).0) (both_answer p q).1

-- who answered alike in the end did so before
were_alike : {A : Type 0} (t : Asking A) (p : Pair) → (told both_answer t p).1.alike ≡ true → p.alike ≡ true
were_alike (Told a) p h = h
were_alike (Ask q k) p h =
    (and_parts p.alike (beq (read_answer p.one.reading q).0 (read_answer p.two.reading q).0) (were_alike (k (read_answer p.one.reading q).0) (both_answer p q).1 h)).0

-- then the second one is read too
second_reads : {A : Type 0} (t : Asking A) (p : Pair) → (told both_answer t p).1.alike ≡ true
    → ◌≡◌ {A = A × HalfValue} ((told both_answer t p).0, (told both_answer t p).1.two)
    ((told read_answer t p.two.reading).0, half_read p.two (told read_answer t p.two.reading).1)
second_reads (Told a) p h = refl
second_reads {A} (Ask q k) p h =
    let b : Bool = (read_answer p.one.reading q).0 in
    let c : Bool = (read_answer p.two.reading q).0 in
    let n : Pair = (both_answer p q).1 in
    let e : c ≡ b = beq_to b c (and_parts p.alike (beq b c) (were_alike (k b) n h)).1 in
    let F : Bool → A × HalfValue = λ x. ((told read_answer (k x) n.two.reading).0, half_read p.two (told read_answer (k x) n.two.reading).1) in
    second_reads (k b) n h ∙ ap F (sym e)

-- and where a grid answers as both do they answer alike
stay_alike : {A : Type 0} (g : Cells) (t : Asking A) (p : Pair) → p.alike ≡ true → AnswersAs read_answer g t p.one.reading
    → AnswersAs read_answer g t p.two.reading → (told both_answer t p).1.alike ≡ true
stay_alike g (Told a) p e h k = e
stay_alike g (Ask q n) p e h k =
    let b : Bool = (read_answer p.one.reading q).0 in
    let c : Bool = (read_answer p.two.reading q).0 in
    let i : c ≡ b = sym k.0 ∙ h.0 in
    let P : Bool → Type 0 = λ x. AnswersAs read_answer g (n x) (both_answer p q).1.two.reading in
    stay_alike g (n b) (both_answer p q).1 (and_from p.alike (beq b c) e (ap (beq b) i ∙ beq_same b)) h.1 (subst P i k.1)

-- ---- a pass
opened_half : (b : Bool) (style pass : ℕ) (d : Decoding)
    → half_of (if b then record d { reading = fresh_reading (raw_pass style pass) (first_segment d.rest) d.reading.contexts; rest = drop 1 d.rest } else d)
    ≡ (if b then record { reading = fresh_reading (raw_pass style pass) (first_segment d.rest) d.reading.contexts; rest = drop 1 d.rest } else half_of d)
opened_half true style pass d = refl
opened_half false style pass d = refl

-- where the pass's own decisions begin
abbrev begun_at : Coding → ℕ → Decoding → HalfValue
begun_at c pass d = half_begun c.style pass (half_of d)

-- the coefficients after a pass, and what is read on
record IsReadOn (c : Coding) (pass : ℕ) (d : Decoding) (t : Asking Cells) : Type 0 where
  pub cells : (read_pass c pass d).cells ≡ (told read_answer t (begun_at c pass d).reading).0
  pub half : half_of (read_pass c pass d)
      ≡ half_ended c.style pass (half_read (begun_at c pass d) (told read_answer t (begun_at c pass d).reading).1)

read_on : (c : Coding) (pass : ℕ) (d : Decoding) → IsReadOn c pass d (tree_of c pass d.cells)
read_on c pass d =
    let o : Decoding = opened c.style pass d in
    let t : Asking Cells = tree_of c pass d.cells in
    let e : tree_of c pass o.cells ≡ t = ap (tree_of c pass) (opened_cells c.style pass d) in
    let h : half_of o ≡ half_opened c.style pass (half_of d) = opened_half (begins c.style pass) c.style pass d in
    let F = λ (x : HalfValue). (told read_answer t (renewed c.style x.reading)).0 in
    let G = λ (x : HalfValue). half_ended c.style pass (half_read x (told read_answer t (renewed c.style x.reading)).1) in
    record {
      cells = ap (λ (x : Asking Cells). (told read_answer x (renewed c.style o.reading)).0) e ∙ ap F h;
      half = ap (λ (x : Asking Cells). half_ended c.style pass (half_read (half_of o) (told read_answer x (renewed c.style o.reading)).1)) e ∙ ap G h;
    }

-- both, from where two decodings agree
both_on : (c d : Coding) (pass : ℕ) (a b : Decoding) (m : BlockWords) → AreAlike c d → b.cells ≡ a.cells
    → IsScan (plane_of c.band (is_causal c.style) c.planes pass) → AreClean c.planes ((pass + 2) / 3 + 1) a.cells
    → (p : Pair) → p ≡ pair_begun c.style d.style pass (pair_of a b)
    → Shows c.planes (pass + 1) (told both_answer (tree_of c pass a.cells) p).0 m
    → AreBeside c d pass a b m (pair_ended c.style d.style pass (told both_answer (tree_of c pass a.cells) p).1)
both_on c d pass a b m h cells scan clean p begun shown =
    let t : Asking Cells = tree_of c pass a.cells in
    let tree : tree_of d pass b.cells ≡ t = ap (tree_of d pass) cells ∙ alike_tree c d pass a.cells h in
    let one : p.one ≡ begun_at c pass a = ap (λ (x : Pair). x.one) begun in
    let two : p.two ≡ begun_at d pass b = ap (λ (x : Pair). x.two) begun in
    let start : p.alike ≡ true = ap (λ (x : Pair). x.alike) begun in
    let i : IsReadOn c pass a t = read_on c pass a in
    let j : IsReadOn d pass b t = subst (λ (x : Asking Cells). IsReadOn d pass b x) tree (read_on d pass b) in
    let f = first_reads t p in
    let read_to = λ (x : HalfValue). half_read x (told read_answer t x.reading).1 in
    let first_cells : (told both_answer t p).0 ≡ (read_pass c pass a).cells =
    ap (λ (x : Cells × HalfValue). x.0) f ∙ (ap (λ (x : HalfValue). (told read_answer t x.reading).0) one ∙ sym i.cells) in
    let first_half : half_ended c.style pass (told both_answer t p).1.one ≡ half_of (read_pass c pass a) =
    ap (λ (x : Cells × HalfValue). half_ended c.style pass x.1) f ∙ (ap (λ (x : HalfValue). half_ended c.style pass (read_to x)) one ∙ sym i.half) in
    record {
      alike = λ e.
          let s = second_reads t p e in
          let second_cells : (told both_answer t p).0 ≡ (read_pass d pass b).cells =
          ap (λ (x : Cells × HalfValue). x.0) s ∙ (ap (λ (x : HalfValue). (told read_answer t x.reading).0) two ∙ sym j.cells) in
          let second_half : half_ended d.style pass (told both_answer t p).1.two ≡ half_of (read_pass d pass b) =
          ap (λ (x : Cells × HalfValue). half_ended d.style pass x.1) s ∙ (ap (λ (x : HalfValue). half_ended d.style pass (read_to x)) two ∙ sym j.half) in
          record {
            pair = ap (λ (x : HalfValue). record { one = x; two = half_ended d.style pass (told both_answer t p).1.two; alike = (told both_answer t p).1.alike }) first_half
                ∙ (ap (λ (x : HalfValue). record { one = half_of (read_pass c pass a); two = x; alike = (told both_answer t p).1.alike }) second_half
                ∙ ap (λ (x : Bool). record { one = half_of (read_pass c pass a); two = half_of (read_pass d pass b); alike = x }) e);
            cells = sym second_cells ∙ first_cells;
            block = subst (λ (x : Cells). Shows c.planes (pass + 1) x m) first_cells shown;
          };
      unlike = λ e g u v.
          let A = λ (x : HalfValue). AnswersAs read_answer g t x.reading in
          let first : A p.one =
          subst A (sym one) (pass_shows read_answer c pass a.cells (begun_at c pass a).reading g scan clean (subst (λ (x : Cells). IsFront c.planes x g) i.cells u)) in
          let second : A p.two =
          subst A (sym two) (pass_shows read_answer c pass a.cells (begun_at d pass b).reading g scan clean (subst (λ (x : Cells). IsFront c.planes x g) j.cells v)) in
          let stay = stay_alike g t p start first second in
          absurd (cc);
    }

pub pass_beside : (c d : Coding) (pass : ℕ) (a b : Decoding) (m n : BlockWords) (old begun walked now : Pair) → AreAlike c d → Agree c.planes pass a b m old
    → IsNow (plane_of c.band (is_causal c.style) c.planes pass) a.cells → begun ≡ pair_begun c.style d.style pass old
    → Ends c.planes (pass + 1) (told both_answer (scanned pass (plane_of c.band (is_causal c.style) c.planes pass) (a.cells.width * a.cells.height) 0 a.cells) begun) n walked
    → now ≡ pair_ended c.style d.style pass walked → AreBeside c d pass a b n now
unfolding pass_of
pass_beside c d pass a b m n old begun walked now h g w e k l =
    let P = λ (x : Pair). AreBeside c d pass a b n x in
    let F = λ (x : Pair). pair_ended c.style d.style pass x in
    subst P (sym (l ∙ ap F k.source))
    (both_on c d pass a b n h g.cells w.scan w.at.clean begun (e ∙ ap (λ (x : Pair). pair_begun c.style d.style pass x) g.pair) k.block)
