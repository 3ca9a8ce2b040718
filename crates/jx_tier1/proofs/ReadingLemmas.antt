-- Passes of a decoding, whose coefficients a block's words show.
use Rattle.std.proofs.Common.{◌≡◌, ◌<◌, ◌+◌, ◌-◌, ◌/◌, ℕ, Bool, true, false, drop, refl, sym, ap, ◌∙◌, arith, subst, if◌then◌else◌}
use Rattle.jx_base.specs.Passes.{raw_pass, is_causal}
use Rattle.jx_tier1_specs.specs.Cells.{Cells, AreWithin}
use Rattle.jx_tier1_specs.specs.Pass.{plane_of}
use Rattle.jx_tier1_specs.specs.Segments.{begins}
use Rattle.jx_tier1_specs.specs.Reading.{Coding, Decoding, fresh_reading, first_segment, opened, read_answer, renewed, read_pass, read_from, zeros}
use Rattle.jx_tier1_specs.specs.Alike.{HasPasses}
use Rattle.jx_tier1_specs.proofs.BackLemmas.{tree_of}
use Rattle.jx_tier1_specs.proofs.LeafLemmas.{leaves_told}
use Rattle.jx_tier1_specs.proofs.PassBackLemmas.{one_scan}
use Rattle.jx_tier1_specs.proofs.Places.{zeros_within, within_more}
use Rattle.jx_tier1_specs.proofs.ReadMore.{read_more, read_done}
use Rattle.jx_tier1_specs.proofs.WholeLemmas.{Phase, phase_next, zeros_at}
use Rattle.jx_tier1.specs.Blocks.{BlockWords, blank}
use Rattle.jx_tier1.specs.BlockPasses.{Shows}
use Rattle.jx_tier1.specs.Walking.{IsNow}
use Rattle.jx_tier1.proofs.BlankLemmas.{shows_blank}

-- a segment that begins changes no coefficient
opened_if : (b : Bool) (style pass : ℕ) (d : Decoding)
    → (if b then record d { reading = fresh_reading (raw_pass style pass) (first_segment d.rest) d.reading.contexts; rest = drop 1 d.rest } else d).cells ≡ d.cells
opened_if true style pass d = refl
opened_if false style pass d = refl

pub opened_cells : (style pass : ℕ) (d : Decoding) → (opened style pass d).cells ≡ d.cells
opened_cells style pass d = opened_if (begins style pass) style pass d

pub record IsReading (c : Coding) (w h passes pass : ℕ) (m : BlockWords) (now start : Decoding) : Type 0 where
  pub shows : Shows c.planes pass now.cells m
  pub phase : Phase c w h pass now.cells
  pub within : AreWithin c.planes ((pass + 1) / 3 + 1) now.cells
  pub so_far : read_from c (passes - pass) pass now ≡ read_from c passes 0 start

pub reading_begun : (c : Coding) (w h passes : ℕ) (m : BlockWords) (d : Decoding) → m ≡ blank w h → d.cells ≡ zeros w h → IsReading c w h passes 0 m d d
reading_begun c w h passes m d e z =
    let n : passes - 0 ≡ passes = omega arith in
    record {
      shows = rw (e, z) (shows_blank c.planes w h);
      phase = rw z (zeros_at c w h);
      within = rw z (zeros_within c.planes ((0 + 1) / 3 + 1) w h);
      so_far = ap (λ (x : ℕ). read_from c x 0 d) n;
    }

-- before a pass
pub record IsReady (c : Coding) (pass : ℕ) (d : Decoding) : Type 0 where
  pub now : IsNow (plane_of c.band (is_causal c.style) c.planes pass) d.cells
  pub within : AreWithin c.planes ((pass + 2) / 3 + 1) d.cells

pub reading_ready : (c : Coding) (w h passes pass : ℕ) (m : BlockWords) (now start : Decoding) → HasPasses c passes → pass < passes → IsReading c w h passes pass m now start
    → IsReady c pass now
reading_ready c w h passes pass m now start b l o =
    let a = o.phase.here in
    record {
      now = record {
        scan = one_scan c pass passes b l;
        at = record { width = refl; height = refl; clean = a.clean; least = a.least; neat = a.neat };
      };
      within = within_more c.planes ((pass + 1) / 3 + 1) ((pass + 2) / 3 + 1) now.cells (omega arith) o.within;
    }

pub reading_next : (c : Coding) (w h passes pass : ℕ) (m n : BlockWords) (now next start : Decoding) → HasPasses c passes → pass < passes → IsReading c w h passes pass m now start
    → next ≡ read_pass c pass now → Shows c.planes (pass + 1) next.cells n → AreWithin c.planes ((pass + 2) / 3 + 1) next.cells → IsReading c w h passes (pass + 1) n next start
reading_next c w h passes pass m n now next start b l o e s a =
    let P : Cells → Type 0 = Phase c w h (pass + 1) in
    let d : Decoding = opened c.style pass now in
    let q : Phase c w h pass d.cells = subst (λ (x : Cells). Phase c w h pass x) (sym (opened_cells c.style pass now)) o.phase in
    let p : P (read_pass c pass now).cells =
    leaves_told read_answer (tree_of c pass d.cells) P (renewed c.style d.reading) (phase_next c w h pass d.cells (one_scan c pass passes b l) q) in
    record {
      shows = s;
      phase = subst (λ (x : Decoding). P x.cells) (sym e) p;
      within = within_more c.planes ((pass + 2) / 3 + 1) ((pass + 1 + 1) / 3 + 1) next.cells (omega arith) a;
      so_far = ap (λ (x : Decoding). read_from c (passes - (pass + 1)) (pass + 1) x) e ∙ (sym (read_more c passes pass now l) ∙ o.so_far);
    }

pub reading_done : (c : Coding) (w h passes pass : ℕ) (m : BlockWords) (now start : Decoding) → HasPasses c passes → pass ≡ passes → IsReading c w h passes pass m now start
    → (now ≡ read_from c passes 0 start) × AreWithin c.planes c.planes now.cells
reading_done c w h passes pass m now start b l o =
    let some = b.some in
    let few = b.few in
    (sym (read_done c passes pass now (omega arith)) ∙ o.so_far, within_more c.planes ((pass + 1) / 3 + 1) c.planes now.cells (omega arith) o.within)
