-- Passes of an encoding whose coefficients stand apart.
use Rattle.std.proofs.Common.{◌≡◌, ◌<◌, ◌≤◌, ◌+◌, ◌-◌, ◌*◌, ◌++◌, ◌==◌, ◌||◌, ℕ, Bool, true, false, List, refl, sym, ap, ◌∙◌, arith, subst, if◌then◌else◌}
use Rattle.jx_base.specs.Passes.{raw_pass, end_pass, is_causal}
use Rattle.jx_tier1_specs.specs.Cells.{Cells}
use Rattle.jx_tier1_specs.specs.Asking.{told}
use Rattle.jx_tier1_specs.specs.Pass.{scanned, plane_of, pass_of}
use Rattle.jx_tier1_specs.specs.Symbol.{symbol_asked}
use Rattle.jx_tier1_specs.specs.Reading.{Coding, zeros, ends_by_symbol}
use Rattle.jx_tier1_specs.specs.Needs.{needs_from, followed_pass}
use Rattle.jx_tier1_specs.specs.Alike.{HasPasses}
use Rattle.jx_tier1_specs.specs.Writing.{Writing, write_answer, finished_from}
use Rattle.jx_tier1_specs.specs.Encoding.{Encoding, renewed_writing, after_bits, after_symbol, closed, after_pass, after_step}
use Rattle.jx_tier1_specs.proofs.BackLemmas.{tree_of}
use Rattle.jx_tier1_specs.proofs.PassBackLemmas.{one_scan}
use Rattle.jx_tier1_specs.proofs.PhaseLemmas.{leaves_followed}
use Rattle.jx_tier1_specs.proofs.WholeLemmas.{Phase, phase_next, zeros_at}
use Rattle.jx_tier1_specs.proofs.WroteLemmas.{pass_wrote, step_kind, step_target, step_more, step_end}
use Rattle.jx_tier1.specs.InStep.{no_grid}
use Rattle.jx_tier1.specs.Blocks.{BlockWords, blank}
use Rattle.jx_tier1.specs.BlockPasses.{Shows, Ends}
use Rattle.jx_tier1.specs.Placing.{coded_in, Comes}
use Rattle.jx_tier1.specs.Walking.{IsNow}
use Rattle.jx_tier1.proofs.BlankLemmas.{shows_blank}

-- a pass's own decisions
bits_come : (c : Coding) (pass : ℕ) (e now : Encoding) (g : Cells) (m : BlockWords) → now ≡ record e { writing = now.writing }
    → Ends c.planes (pass + 1) (told write_answer (scanned pass (plane_of c.band (is_causal c.style) c.planes pass) (g.width * g.height) 0 g) (renewed_writing c.style e.writing)) m now.writing
    → Comes c.planes (pass + 1) (after_bits c pass (coded_in g e)) m now
unfolding pass_of
bits_come c pass e now g m h k = record {
  block = k.block;
  encoding = ap (λ (x : Encoding). coded_in no_grid x) h ∙ ap (λ (w : Writing). record e { cells = no_grid; writing = w }) k.source;
}

-- the coefficients stand apart whether a symbol follows or a segment ends
symbol_apart : (b : Bool) (g : Cells) (e : Encoding) (w : Writing)
    → (if b then record (coded_in g e) { writing = w } else coded_in g e) ≡ coded_in g (if b then record e { writing = w } else e)
symbol_apart true g e w = refl
symbol_apart false g e w = refl

end_apart : (b : Bool) (style pass : ℕ) (g : Cells) (e : Encoding)
    → (if b then closed style pass (coded_in g e) else coded_in g e) ≡ coded_in g (if b then closed style pass e else e)
end_apart true style pass g e = refl
end_apart false style pass g e = refl

symbol_cells : (b : Bool) (e : Encoding) (w : Writing) → (if b then record e { writing = w } else e).cells ≡ e.cells
symbol_cells true e w = refl
symbol_cells false e w = refl

end_cells : (b : Bool) (style pass : ℕ) (e : Encoding) → (if b then closed style pass e else e).cells ≡ e.cells
end_cells true style pass e = refl
end_cells false style pass e = refl

-- what follows a pass's own decisions
abbrev finish : Coding → Bool → ℕ → Encoding → Encoding
finish c last pass e = if end_pass c.style pass || last then closed c.style pass e else e

abbrev rest_of : Coding → Bool → ℕ → Encoding → Encoding
rest_of c last pass e = finish c last pass (after_symbol c.style pass e)

rest_apart : (c : Coding) (last : Bool) (pass : ℕ) (g : Cells) (e : Encoding) → rest_of c last pass (coded_in g e) ≡ coded_in g (rest_of c last pass e)
rest_apart c last pass g e =
    let w : Writing = (told write_answer symbol_asked e.writing).1 in
    ap (λ (x : Encoding). finish c last pass x) (symbol_apart (ends_by_symbol c.style pass) g e w)
    ∙ end_apart (end_pass c.style pass || last) c.style pass g (after_symbol c.style pass e)

rest_cells : (c : Coding) (last : Bool) (pass : ℕ) (e : Encoding) → (rest_of c last pass e).cells ≡ e.cells
rest_cells c last pass e =
    end_cells (end_pass c.style pass || last) c.style pass (after_symbol c.style pass e)
    ∙ symbol_cells (ends_by_symbol c.style pass) e (told write_answer symbol_asked e.writing).1

-- a pass
pub pass_comes : (c : Coding) (last : Bool) (pass : ℕ) (e b s n : Encoding) (g : Cells) (m : BlockWords) → e.writing.raw ≡ raw_pass c.style pass
    → b ≡ record e { writing = b.writing }
    → Ends c.planes (pass + 1) (told write_answer (scanned pass (plane_of c.band (is_causal c.style) c.planes pass) (g.width * g.height) 0 g) (renewed_writing c.style e.writing)) m b.writing
    → s ≡ after_symbol c.style pass b → n ≡ (if end_pass c.style pass || last then closed c.style pass s else s)
    → Comes c.planes (pass + 1) (after_step c last pass (coded_in g e)) m n
pass_comes c last pass e b s n g m k h w i j =
    let B : Encoding = after_bits c pass (coded_in g e) in
    let a = bits_come c pass e b g m h w in
    let F = λ (x : Encoding). finish c last pass x in
    let R = λ (x : Encoding). rest_of c last pass x in
    let o : n ≡ rest_of c last pass b = j ∙ ap F i in
    let q : rest_of c last pass B ≡ after_step c last pass (coded_in g e) = ap F (pass_wrote c pass (coded_in g e) k) in
    let u : (after_step c last pass (coded_in g e)).cells ≡ B.cells = ap (λ (x : Encoding). x.cells) (sym q) ∙ rest_cells c last pass B in
    let v : coded_in no_grid n ≡ coded_in no_grid (rest_of c last pass B) =
    ap (λ (x : Encoding). coded_in no_grid x) o
    ∙ (sym (rest_apart c last pass no_grid b) ∙ (ap R a.encoding ∙ rest_apart c last pass no_grid B)) in
    record {
      block = subst (λ (x : Cells). Shows c.planes (pass + 1) x m) (sym u) a.block;
      encoding = v ∙ ap (λ (x : Encoding). coded_in no_grid x) q;
    }

-- passes one after the other
abbrev all_from : Coding → ℕ → ℕ → Cells → Encoding → List (List ℕ)
all_from c count pass target e = e.done ++ finished_from c.style pass e.writing (needs_from c target count pass e.cells)

pub record IsComing (c : Coding) (w h passes pass : ℕ) (m : BlockWords) (now start : Encoding) : Type 0 where
  pub cells : Cells
  pub shows : Shows c.planes pass cells m
  pub phase : Phase c w h pass cells
  pub target : now.writing.target ≡ start.writing.target
  pub kind : now.writing.raw ≡ raw_pass c.style pass
  pub so_far : all_from c (passes - pass) pass start.writing.target (coded_in cells now) ≡ all_from c passes 0 start.writing.target (coded_in (zeros w h) start)

pub coming_begun : (c : Coding) (w h passes : ℕ) (m : BlockWords) (e : Encoding) → m ≡ blank w h → e.writing.raw ≡ raw_pass c.style 0
    → IsComing c w h passes 0 m e e
coming_begun c w h passes m e u k =
    let z : passes - 0 ≡ passes = omega arith in
    record {
      cells = zeros w h;
      shows = rw u (shows_blank c.planes w h);
      phase = zeros_at c w h;
      target = refl;
      kind = k;
      so_far = ap (λ (n : ℕ). all_from c n 0 e.writing.target (coded_in (zeros w h) e)) z;
    }

pub coming_now : (c : Coding) (w h passes pass : ℕ) (m : BlockWords) (now start : Encoding) → HasPasses c passes → pass < passes
    → (o : IsComing c w h passes pass m now start) → IsNow (plane_of c.band (is_causal c.style) c.planes pass) o.cells
coming_now c w h passes pass m now start b l o =
    let a = o.phase.here in
    record {
      scan = one_scan c pass passes b l;
      at = record { width = refl; height = refl; clean = a.clean; least = a.least; neat = a.neat };
    }

pub coming_next : (c : Coding) (w h passes pass : ℕ) (m n : BlockWords) (now next start : Encoding) → HasPasses c passes → pass < passes
    → (o : IsComing c w h passes pass m now start) → Comes c.planes (pass + 1) (after_step c (pass + 1 == passes) pass (coded_in o.cells now)) n next
    → IsComing c w h passes (pass + 1) n next start
coming_next c w h passes pass m n now next start b l o g =
    let e : Encoding = coded_in o.cells now in
    let r : Encoding = after_step c (pass + 1 == passes) pass e in
    let P : Cells → Type 0 = Phase c w h (pass + 1) in
    let t : Cells = start.writing.target in
    let f : followed_pass c e.writing.target pass e.cells ≡ r.cells =
    sym (end_cells (end_pass c.style pass || pass + 1 == passes) c.style pass (after_pass c pass e)) in
    let p : P (followed_pass c e.writing.target pass e.cells) =
    leaves_followed e.writing.target (tree_of c pass o.cells) P (phase_next c w h pass o.cells (one_scan c pass passes b l) o.phase) in
    let v : next.writing ≡ r.writing = ap (λ (x : Encoding). x.writing) g.encoding in
    let d : coded_in r.cells next ≡ r = ap (λ (x : Encoding). coded_in r.cells x) g.encoding in
    record {
      cells = r.cells;
      shows = g.block;
      phase = subst P f p;
      target = ap (λ (x : Writing). x.target) v ∙ (step_target c (pass + 1 == passes) pass e ∙ o.target);
      kind = ap (λ (x : Writing). x.raw) v ∙ step_kind c (pass + 1 == passes) pass e o.kind;
      so_far = ap (λ (x : Encoding). all_from c (passes - (pass + 1)) (pass + 1) t x) d ∙ (step_more c t passes pass e l o.target ∙ o.so_far);
    }

pub coming_done : (c : Coding) (w h passes pass : ℕ) (m : BlockWords) (now start : Encoding) → passes ≤ pass → IsComing c w h passes pass m now start
    → now.done ≡ start.done ++ finished_from c.style 0 start.writing (needs_from c start.writing.target passes 0 (zeros w h))
coming_done c w h passes pass m now start l o = sym (step_end c start.writing.target passes pass (coded_in o.cells now) l) ∙ o.so_far
