-- Passes of two codings, one after the other.
use Rattle.std.proofs.Common.{◌≡◌, ◌<◌, ◌≤◌, ◌+◌, ◌-◌, ◌/◌, ℕ, List, true, false, refl, sym, ap, ◌∙◌, arith, subst}
use Rattle.jx_base.specs.Passes.{is_causal}
use Rattle.jx_tier1_specs.specs.Cells.{Cells}
use Rattle.jx_tier1_specs.specs.Asking.{Asking}
use Rattle.jx_tier1_specs.specs.Pass.{plane_of}
use Rattle.jx_tier1_specs.specs.Reading.{Coding, Decoding, opened, read_answer, renewed, read_pass, read_from, at_start, decoded}
use Rattle.jx_tier1_specs.specs.Alike.{HasPasses, AreAlike}
use Rattle.jx_tier1_specs.proofs.BackLemmas.{tree_of}
use Rattle.jx_tier1_specs.proofs.GridLemmas.{IsFront, AreClean}
use Rattle.jx_tier1_specs.proofs.LeafLemmas.{IsBack, leaves_told}
use Rattle.jx_tier1_specs.proofs.PassBackLemmas.{pass_back, clean_more, one_scan, passes_back}
use Rattle.jx_tier1_specs.proofs.ReadMore.{read_more, read_done}
use Rattle.jx_tier1_specs.proofs.WholeLemmas.{Phase, phase_next, zeros_at}
use Rattle.jx_tier1.specs.Beside.{Pair, Agree, AreBeside, pair_of}
use Rattle.jx_tier1.specs.Blocks.{BlockWords, blank}
use Rattle.jx_tier1.specs.Walking.{IsNow}
use Rattle.jx_tier1.proofs.ReadingLemmas.{opened_cells}
use Rattle.jx_tier1.proofs.BlankLemmas.{shows_blank}

-- before a pass: both decoded the same so far, and go on to what is decoded of them
pub record AreOnWay (c d : Coding) (w h passes pass : ℕ) (m : BlockWords) (now : Pair) (ss ts : List (List ℕ)) : Type 0 where
  pub one : Decoding
  pub two : Decoding
  pub agree : Agree c.planes pass one two m now
  pub phase : Phase c w h pass one.cells
  pub first : read_from c (passes - pass) pass one ≡ decoded w h c ss passes
  pub second : read_from d (passes - pass) pass two ≡ decoded w h d ts passes

from_start : (c : Coding) (w h passes : ℕ) (ss : List (List ℕ)) → read_from c (passes - 0) 0 (at_start w h ss) ≡ decoded w h c ss passes
unfolding decoded
from_start c w h passes ss = let z : passes - 0 ≡ passes = omega arith in ap (λ (n : ℕ). read_from c n 0 (at_start w h ss)) z

pub both_begun : (c d : Coding) (w h passes : ℕ) (m : BlockWords) (now : Pair) (ss ts : List (List ℕ)) → m ≡ blank w h → now ≡ pair_of (at_start w h ss) (at_start w h ts)
    → AreOnWay c d w h passes 0 m now ss ts
both_begun c d w h passes m now ss ts e s = record {
  one = at_start w h ss;
  two = at_start w h ts;
  agree = record { pair = s; cells = refl; block = rw e (shows_blank c.planes w h) };
  phase = zeros_at c w h;
  first = from_start c w h passes ss;
  second = from_start d w h passes ts;
}

pub both_now : (c d : Coding) (w h passes pass : ℕ) (m : BlockWords) (now : Pair) (ss ts : List (List ℕ)) → HasPasses c passes → pass < passes
    → (o : AreOnWay c d w h passes pass m now ss ts) → IsNow (plane_of c.band (is_causal c.style) c.planes pass) o.one.cells
both_now c d w h passes pass m now ss ts b l o =
    let a = o.phase.here in
    record {
      scan = one_scan c pass passes b l;
      at = record { width = refl; height = refl; clean = a.clean; least = a.least; neat = a.neat };
    }

-- what a pass makes
after_pass : (c : Coding) (w h passes pass : ℕ) (d : Decoding) → HasPasses c passes → pass < passes → Phase c w h pass d.cells → Phase c w h (pass + 1) (read_pass c pass d).cells
after_pass c w h passes pass d b l p =
    let P : Cells → Type 0 = Phase c w h (pass + 1) in
    let o : Decoding = opened c.style pass d in
    let q : Phase c w h pass o.cells = subst (λ (x : Cells). Phase c w h pass x) (sym (opened_cells c.style pass d)) p in
    leaves_told read_answer (tree_of c pass o.cells) P (renewed c.style o.reading) (phase_next c w h pass o.cells (one_scan c pass passes b l) q)

pub both_next : (c d : Coding) (w h passes pass : ℕ) (m n : BlockWords) (now next : Pair) (ss ts : List (List ℕ)) → HasPasses c passes → pass < passes
    → (o : AreOnWay c d w h passes pass m now ss ts) → AreBeside c d pass o.one o.two n next → next.alike ≡ true → AreOnWay c d w h passes (pass + 1) n next ss ts
both_next c d w h passes pass m n now next ss ts b l o s e = record {
  one = read_pass c pass o.one;
  two = read_pass d pass o.two;
  agree = s.alike e;
  phase = after_pass c w h passes pass o.one b l o.phase;
  first = sym (read_more c passes pass o.one l) ∙ o.first;
  second = sym (read_more d passes pass o.two l) ∙ o.second;
}

pub both_done : (c d : Coding) (w h passes pass : ℕ) (m : BlockWords) (now : Pair) (ss ts : List (List ℕ)) → passes ≤ pass → AreOnWay c d w h passes pass m now ss ts
    → (decoded w h c ss passes).cells ≡ (decoded w h d ts passes).cells
both_done c d w h passes pass m now ss ts l o =
    let C = λ (x : Decoding). x.cells in
    ap C (sym o.first ∙ read_done c passes pass o.one l) ∙ (sym o.agree.cells ∙ ap C (sym (read_done d passes pass o.two l) ∙ o.second))

-- what a pass makes may become what all passes make
to_end : (c : Coding) (passes pass : ℕ) (d : Decoding) → HasPasses c passes → pass < passes → AreClean c.planes ((pass + 1) / 3 + 1) d.cells
    → IsFront c.planes (read_pass c pass d).cells (read_from c (passes - pass) pass d).cells
to_end c passes pass d b l a =
    let most : ℕ = (pass + 2) / 3 + 1 in
    let o : Decoding = opened c.style pass d in
    let e : o.cells ≡ d.cells = opened_cells c.style pass d in
    let clean : AreClean c.planes most o.cells = subst (λ (x : Cells). AreClean c.planes most x) (sym e) (clean_more c.planes ((pass + 1) / 3 + 1) most d.cells (omega arith) a) in
    let t : Asking Cells = tree_of c pass o.cells in
    let back : IsBack c.planes most o.cells t (read_pass c pass d).cells =
    leaves_told read_answer t (IsBack c.planes most o.cells t) (renewed c.style o.reading) (pass_back c pass o.cells (one_scan c pass passes b l) clean) in
    let more = passes_back c passes (passes - (pass + 1)) (pass + 1) (read_pass c pass d) b (omega arith)
    (clean_more c.planes most ((pass + 1 + 1) / 3 + 1) (read_pass c pass d).cells (omega arith) back.clean) in
    subst (λ (x : Decoding). IsFront c.planes (read_pass c pass d).cells x.cells) (sym (read_more c passes pass d l)) more.front

pub both_stopped : (c d : Coding) (w h passes pass : ℕ) (m n : BlockWords) (now next : Pair) (ss ts : List (List ℕ)) → HasPasses c passes → AreAlike c d → pass < passes
    → (o : AreOnWay c d w h passes pass m now ss ts) → AreBeside c d pass o.one o.two n next → next.alike ≡ false
    → (decoded w h c ss passes).cells ≡ (decoded w h d ts passes).cells → ⊥
both_stopped c d w h passes pass m n now next ss ts b k l o s e same =
    let g : Cells = (decoded w h c ss passes).cells in
    let other : HasPasses d passes = subst (λ (x : ℕ). HasPasses (record d { planes = x }) passes) (sym k.planes) (record { some = b.some; most = b.most; few = b.few }) in
    let two_clean : AreClean c.planes ((pass + 1) / 3 + 1) o.two.cells = subst (λ (x : Cells). AreClean c.planes ((pass + 1) / 3 + 1) x) (sym o.agree.cells) o.phase.clean in
    let first : IsFront c.planes (read_pass c pass o.one).cells g =
    subst (λ (x : Decoding). IsFront c.planes (read_pass c pass o.one).cells x.cells) o.first (to_end c passes pass o.one b l o.phase.clean) in
    let there : IsFront d.planes (read_pass d pass o.two).cells (read_from d (passes - pass) pass o.two).cells =
    to_end d passes pass o.two other l (subst (λ (x : ℕ). AreClean x ((pass + 1) / 3 + 1) o.two.cells) (sym k.planes) two_clean) in
    let moved : IsFront d.planes (read_pass d pass o.two).cells g =
    subst (λ (x : Cells). IsFront d.planes (read_pass d pass o.two).cells x) (ap (λ (x : Decoding). x.cells) o.second ∙ sym same) there in
    s.unlike e g first (subst (λ (x : ℕ). IsFront x (read_pass d pass o.two).cells g) k.planes moved)
