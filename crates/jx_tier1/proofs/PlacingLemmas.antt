-- Passes of a recoding whose coefficients stand apart.
use Rattle.std.proofs.Common.{◌≡◌, ◌<◌, ◌≤◌, ◌+◌, ◌-◌, ◌*◌, ◌==◌, ℕ, Bool, refl, sym, ap, ◌∙◌, arith, subst}
use Rattle.jx_base.specs.Passes.{is_causal}
use Rattle.jx_tier1_specs.specs.Cells.{Cells}
use Rattle.jx_tier1_specs.specs.Asking.{told}
use Rattle.jx_tier1_specs.specs.Pass.{scanned, plane_of, pass_of}
use Rattle.jx_tier1_specs.specs.Reading.{Coding, zeros}
use Rattle.jx_tier1_specs.specs.Alike.{HasPasses}
use Rattle.jx_tier1_specs.proofs.BackLemmas.{tree_of}
use Rattle.jx_tier1_specs.proofs.LeafLemmas.{leaves_told}
use Rattle.jx_tier1_specs.proofs.PassBackLemmas.{one_scan}
use Rattle.jx_tier1_specs.proofs.WholeLemmas.{Phase, phase_next, zeros_at}
use Rattle.jx_tier1.specs.InStep.{Copying, copy_answer, no_grid, Recoding, begun, renewed_both, copied, checked, marked, ended, recoded_pass, recoded_from}
use Rattle.jx_tier1.specs.Blocks.{BlockWords, blank}
use Rattle.jx_tier1.specs.BlockPasses.{Shows, Ends}
use Rattle.jx_tier1.specs.Placing.{placed, Goes}
use Rattle.jx_tier1.specs.Walking.{IsNow}
use Rattle.jx_tier1.proofs.RecodeLemmas.{recoded_more, recoded_end}
use Rattle.jx_tier1.proofs.CopyLemmas.{copier_at}
use Rattle.jx_tier1.proofs.BlankLemmas.{shows_blank}

-- a pass's own decisions
pub bits_go : (c d : Coding) (pass : ℕ) (r now : Recoding) (g : Cells) (m : BlockWords)
    → now ≡ record r { copying = now.copying }
    → Ends c.planes (pass + 1) (told copy_answer (scanned pass (plane_of c.band (is_causal c.style) c.planes pass) (g.width * g.height) 0 g) (renewed_both c.style d.style r.copying)) m now.copying
    → Goes c.planes (pass + 1) (copied c d pass (placed g r)) m now
unfolding copied pass_of
bits_go c d pass r now g m h k = record {
  block = k.block;
  recoding = ap (λ (u : Recoding). placed no_grid u) h ∙ ap (λ (u : Copying). record r { cells = no_grid; copying = u }) k.source;
}

-- a pass
pub pass_goes : (c d : Coding) (last : Bool) (pass : ℕ) (r a b s e n : Recoding) (g : Cells) (m : BlockWords)
    → a ≡ begun c.style pass r → Goes c.planes (pass + 1) (copied c d pass (placed g a)) m b → s ≡ checked c.style pass b → e ≡ marked d.style pass s → n ≡ ended d.style last pass e
    → Goes c.planes (pass + 1) (recoded_pass c d last pass (placed g r)) m n
unfolding begun copied checked marked ended
pass_goes c d last pass r a b s e n g m i f j k l =
    let P : Recoding → Type 0 = λ x. Goes c.planes (pass + 1) (copied c d pass (placed g x)) m b in
    let h : Goes c.planes (pass + 1) (copied c d pass (placed g (begun c.style pass r))) m b = subst P i f in
    let F = λ (x : Recoding). ended d.style last pass (marked d.style pass (checked c.style pass x)) in
    let o : n ≡ F b = l ∙ ap (λ (x : Recoding). ended d.style last pass x) (k ∙ ap (λ (x : Recoding). marked d.style pass x) j) in
    record {
      block = h.block;
      recoding = ap (λ (x : Recoding). placed no_grid x) o ∙ ap F h.recoding;
    }

-- passes one after the other
pub record IsOnWay (c d : Coding) (w h passes pass : ℕ) (m : BlockWords) (now start : Recoding) : Type 0 where
  pub cells : Cells
  pub shows : Shows c.planes pass cells m
  pub phase : Phase c w h pass cells
  pub so_far : recoded_from c d (passes - pass) pass (placed cells now) ≡ recoded_from c d passes 0 start

pub way_begun : (c d : Coding) (w h passes : ℕ) (m : BlockWords) (now : Recoding) → m ≡ blank w h → IsOnWay c d w h passes 0 m now (placed (zeros w h) now)
way_begun c d w h passes m now e =
    let z : passes - 0 ≡ passes = omega arith in
    record {
      cells = zeros w h;
      shows = rw e (shows_blank c.planes w h);
      phase = zeros_at c w h;
      so_far = ap (λ (n : ℕ). recoded_from c d n 0 (placed (zeros w h) now)) z;
    }

pub now_on : (c d : Coding) (w h passes pass : ℕ) (m : BlockWords) (now start : Recoding) → HasPasses c passes → pass < passes → (o : IsOnWay c d w h passes pass m now start)
    → IsNow (plane_of c.band (is_causal c.style) c.planes pass) o.cells
now_on c d w h passes pass m now start b l o =
    let a = o.phase.here in
    record {
      scan = one_scan c pass passes b l;
      at = record { width = refl; height = refl; clean = a.clean; least = a.least; neat = a.neat };
    }

pub way_next : (c d : Coding) (w h passes pass : ℕ) (m n : BlockWords) (now next start : Recoding) → HasPasses c passes → pass < passes → (o : IsOnWay c d w h passes pass m now start)
    → Goes c.planes (pass + 1) (recoded_pass c d (pass + 1 == passes) pass (placed o.cells now)) n next → IsOnWay c d w h passes (pass + 1) n next start
unfolding begun copied checked marked ended
way_next c d w h passes pass m n now next start b l o g =
    let r : Recoding = recoded_pass c d (pass + 1 == passes) pass (placed o.cells now) in
    let s : Copying = copier_at c d pass (placed o.cells now) in
    let p : Phase c w h (pass + 1) r.cells =
    leaves_told copy_answer (tree_of c pass o.cells) (Phase c w h (pass + 1)) s (phase_next c w h pass o.cells (one_scan c pass passes b l) o.phase) in
    let F = λ (x : Recoding). recoded_from c d (passes - (pass + 1)) (pass + 1) (placed r.cells x) in
    record {
      cells = r.cells;
      shows = g.block;
      phase = p;
      so_far = ap F g.recoding ∙ (sym (recoded_more c d passes pass (placed o.cells now) l) ∙ o.so_far);
    }

pub way_done : (c d : Coding) (w h passes pass : ℕ) (m : BlockWords) (now start : Recoding) → passes ≤ pass → IsOnWay c d w h passes pass m now start
    → (now.done ≡ (recoded_from c d passes 0 start).done) × ((now.looked ≡ (recoded_from c d passes 0 start).looked) × (now.wrong ≡ (recoded_from c d passes 0 start).wrong))
way_done c d w h passes pass m now start l o =
    let e : placed o.cells now ≡ recoded_from c d passes 0 start = sym (recoded_end c d passes pass (placed o.cells now) l) ∙ o.so_far in
    (ap (λ (x : Recoding). x.done) e, (ap (λ (x : Recoding). x.looked) e, ap (λ (x : Recoding). x.wrong) e))
