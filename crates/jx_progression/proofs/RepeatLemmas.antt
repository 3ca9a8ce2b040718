-- Entries that cover the same packets as an entry before them send nothing.
use Rattle.std.proofs.Common.{◌≡◌, Bool, true, false, ℕ, ◌+◌, ◌≤◌, ◌<◌, List, inl, inr, [], ◌∙◌, ap, sym, subst, arith, length, replicate, slice_index}
use Rattle.std.specs.Prelude.{slice_index_or, slice_set}
use Rattle.std.proofs.lemmas.Bool.{cases_eq, cases_lt, true≢false}
use Rattle.std.proofs.lemmas.List.{get_or-replicate, get_or-set_other, get_or_past, length-replicate}
use Rattle.jx_geom.specs.declared.table.Resolution.{Resolution}
use Rattle.jx_geom.specs.Geometry.{Geometry}
use Rattle.jx_geom.specs.Resolutions.{resolutions_of}
use Rattle.jx_marker.specs.declared.Progression.{Progression}
use Rattle.jx_progression.specs.Groups.{IsSent}
use Rattle.jx_progression.specs.Packets.{entry_at}
use Rattle.jx_progression.specs.Repeats.{AreRepeats, CoverSame, IsRepeat}
use Rattle.jx_progression.specs.Steps.{row_end, row_of}
use Rattle.jx_progression.proofs.CoveredLemmas.{AreCoveredBelow}

-- they end at the same layer in each resolution
pub same_end : (layers : ℕ) (e f : Progression) (q : Resolution) → CoverSame e f → row_end layers e q ≡ row_end layers f q
unfolding row_end
same_end layers e f q same =
    ap (λ (v : ℕ). row_end layers (record { rs = v; cs = e.cs; lye = e.lye; re = e.re; ce = e.ce; order = 0 }) q) same.res_from
    ∙ ap (λ (v : ℕ). row_end layers (record { rs = f.rs; cs = v; lye = e.lye; re = e.re; ce = e.ce; order = 0 }) q) same.comp_from
    ∙ ap (λ (v : ℕ). row_end layers (record { rs = f.rs; cs = f.cs; lye = v; re = e.re; ce = e.ce; order = 0 }) q) same.layer
    ∙ ap (λ (v : ℕ). row_end layers (record { rs = f.rs; cs = f.cs; lye = f.lye; re = v; ce = e.ce; order = 0 }) q) same.res_below
    ∙ ap (λ (v : ℕ). row_end layers (record { rs = f.rs; cs = f.cs; lye = f.lye; re = f.re; ce = v; order = 0 }) q) same.comp_below

-- what one of them covers was sent before
pub repeat_sent : (g : Geometry) (layers : ℕ) (entries : List Progression) (e : Progression) (sent : List ℕ) (n : ℕ)
    → ((q : Resolution) → row_end layers e q ≡ row_end layers (entry_at entries n) q) → AreCoveredBelow g layers entries sent n → IsRepeat entries n
    → (i : ℕ) → i < length (resolutions_of g) → IsSent g layers e sent i
repeat_sent g layers entries e sent n same covered repeat i lt =
    let before : row_end layers (entry_at entries repeat.0) (row_of g i) ≤ slice_index sent i = (covered i lt).each repeat.0 repeat.1 in
    let alike : row_end layers (entry_at entries repeat.0) (row_of g i) ≡ row_end layers (entry_at entries n) (row_of g i) =
    same_end layers (entry_at entries repeat.0) (entry_at entries n) (row_of g i) repeat.2 in
    omega (arith, same (row_of g i))

-- one more is marked
pub repeats_set : (entries : List Progression) (repeats : List Bool) (before place : ℕ) → before < place
    → CoverSame (entry_at entries before) (entry_at entries place) → AreRepeats entries repeats → AreRepeats entries (slice_set repeats place true)
repeats_set entries repeats before place lt same h i is = elim (cases_eq i place) [
  | inl here ↦
      let P : ℕ → Type 0 = λ n. IsRepeat entries n in
      subst P (sym here) (before, lt, same)
  | inr other ↦ h i (sym (get_or-set_other repeats place i true false other) ∙ is)
]

-- none is marked
pub none_marked : (entries : List Progression) (n : ℕ) → AreRepeats entries (replicate n false)
none_marked entries n i is = elim (cases_lt i n) [
  | inl lt ↦ absurd (true≢false (sym is ∙ get_or-replicate n i false false lt))
  | inr past ↦ absurd (true≢false (sym is ∙ get_or_past (replicate n false) i false (omega (arith, length-replicate n false))))
]

pub without_marks : (entries : List Progression) → AreRepeats entries []
without_marks entries i is = absurd (true≢false (sym is))
