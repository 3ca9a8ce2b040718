-- What a written file keeps, it means.
use Rattle.std.proofs.Common.{◌≡◌, ◌≤◌, ◌==◌, ◌&&◌, ◌∙◌, Bool, true, false, ℕ, List, [], ◌∷◌, length, None, ap, arith, refl, subst, sym}
use Rattle.std.specs.List.{find}
use Rattle.std.proofs.lemmas.Bool.{and_from, eq-eqb}
use Rattle.jx_base.specs.Limits.{most_bytes}
use Rattle.jx_base.specs.declared.pieces.Block.{Block}
use Rattle.jx_codestream.specs.Shapes.{size_in}
use Rattle.jx_marker.specs.declared.Siz.{Siz}
use Rattle.jx_tier1_specs.specs.declared.coef.Coef.{Coef}
use Rattle.jx_tile.specs.Totals.{totals_fault}
use Rattle.jx_plan.specs.Meaning.{Meaning, meaning_of}
use Rattle.jx_plan.specs.Planned.{blocks_written}
use Rattle.jx_codestream.specs.declared.Stream.{Stream}
use Rattle.jx_same.specs.Items.{agree, answer_at, answer_of, coef_at_spot, component_at, differs, items_of, same_canvas, same_coef, same_sign, step_at}
use Rattle.jx_same.specs.declared.answer.Answer.TheVariants as answer
use Rattle.jx_same.specs.declared.answer.Field.{Field}
use Rattle.jx_same.specs.declared.answer.Field.TheVariants as field
use Rattle.jx_same.specs.declared.answer.Spot.{Spot}
use Rattle.jx_transcode.specs.Aims.{Aim}
use Rattle.jx_transcode.specs.Rewritten.{IsKept, ReadsLeft}
use Rattle.jx_transcode.specs.SameRun.{SameVerdict}
use Rattle.jx_transcode.specs.Sources.{HasCodestream}
use Rattle.jx_transcode.specs.declared.status.Status.TheVariants as status
use Rattle.jx_transcode.proofs.OneVerdictLemmas.{Laws, one_left}
use Rattle.jx_transcode.proofs.ReducedLemmas.{WholeLaws, left_is_all}
use Rattle.jx_transcode.proofs.SameVerdictLemmas.{inner_short}

-- ---- a meaning and itself
pub same_number : (n : ℕ) → (n == n) ≡ true
same_number n = eq-eqb n n refl

both : (x y : ℕ) → (x == x && y == y) ≡ true
both x y = and_from (x == x) (y == y) (same_number x) (same_number y)

pub canvas_self : (z : Siz) → same_canvas z z ≡ true
canvas_self z =
    and_from ((z.x1 == z.x1 && z.y1 == z.y1) && (z.x0 == z.x0 && z.y0 == z.y0)) ((z.tw == z.tw && z.th == z.th) && (z.tx == z.tx && z.ty == z.ty))
    (and_from (z.x1 == z.x1 && z.y1 == z.y1) (z.x0 == z.x0 && z.y0 == z.y0) (both z.x1 z.y1) (both z.x0 z.y0))
    (and_from (z.tw == z.tw && z.th == z.th) (z.tx == z.tx && z.ty == z.ty) (both z.tw z.th) (both z.tx z.ty))

sign_self : (b : Bool) → same_sign b b ≡ true
sign_self true = refl
sign_self false = refl

coef_self : (c : Coef) → same_coef c c ≡ true
coef_self c = and_from (same_sign c.negative c.negative) (c.bits == c.bits && c.planes == c.planes) (sign_self c.negative) (both c.bits c.planes)

agree_self : (f : Field) (m : Meaning) (s : Spot) → agree f m m s ≡ true
agree_self field.Canvas m s = canvas_self m.siz
agree_self field.Components m s = same_number (length m.siz.comps)
agree_self field.Depth m s = same_number (size_in m.siz s.comp).ssiz
agree_self field.Sampling m s = both (size_in m.siz s.comp).dx (size_in m.siz s.comp).dy
agree_self field.Levels m s = same_number (component_at m s).levels
agree_self field.Wavelet m s = same_number (component_at m s).wavelet
agree_self field.Transform m s = same_number (component_at m s).transform
agree_self field.Quant m s = same_number (component_at m s).quant
agree_self field.Guard m s = same_number (component_at m s).guard
agree_self field.Shift m s = same_number (component_at m s).shift
agree_self field.Exponent m s = same_number (step_at m s).0
agree_self field.Mantissa m s = same_number (step_at m s).1
agree_self field.Coef m s = coef_self (coef_at_spot m s)

self_none : (m : Meaning) (items : List Spot) → find (differs m m) items ≡ None
self_none m [] = refl
self_none m (s ∷ items) = let e : agree s.field m m s ≡ true = agree_self s.field m s in rw e (self_none m items)

one_answer : (s : Stream) (a b : Meaning) → b ≡ a → answer.Same ≡ answer_of s a b
one_answer s a b same = sym (ap (answer_of s a) same ∙ ap (answer_at a a) (self_none a (items_of s)))

-- ---- an input and what was written of it
abbrev pub blocks_of : (aim : Aim) (input out : List ℕ) → IsKept aim input out → List Block
blocks_of aim input out kept = blocks_written aim.wanted kept.by kept.before kept.blocks

-- with 0 the input means what is left of it
whole_meaning : WholeLaws → (d : ℕ) (input : List ℕ) (s : Stream) (blocks : List Block) → length input ≤ most_bytes → d ≡ 0 → (left : ReadsLeft d input s blocks) → meaning_of s blocks ≡ meaning_of left.whole left.all
whole_meaning laws d input s blocks short none left =
    let is = left_is_all laws d input s blocks short none left in
    ap (λ (x : Stream). meaning_of x blocks) is.0 ∙ ap (λ (b : List Block). meaning_of left.whole b) is.1

pub kept_same : WholeLaws → (aim : Aim) (limit : ℕ) (input out inner again : List ℕ) (from to : ℕ) (kept : IsKept aim inner again) → aim.reduce ≡ 0 → limit ≤ most_bytes → length input ≤ limit → length out ≤ limit → HasCodestream input from inner
    → HasCodestream out to again → totals_fault kept.after ≡ None → SameVerdict limit input out status.Done
kept_same laws aim limit input out inner again from to kept none few short short_out has has_out within = record {
  stream = kept.reads.whole;
  blocks = kept.reads.all;
  accepted = record { within = short; from = from; inner = inner; has = has; reads = kept.reads.reads };
  other = kept.after;
  others = blocks_of aim inner again kept;
  accepted_too = record { within = short_out; from = to; inner = again; has = has_out; reads = record { read = kept.kept.read; totals = within; gathered = kept.kept.gathered } };
  is = one_answer kept.reads.whole (meaning_of kept.reads.whole kept.reads.all) (meaning_of kept.after (blocks_of aim inner again kept))
      (kept.kept.meaning ∙ whole_meaning laws aim.reduce inner kept.before kept.blocks (inner_short most_bytes input inner from has (omega (arith, short, few))) none kept.reads);
}

-- ---- two files that were written of an input
-- what is left of an input without as many resolutions
pub kept_both : Laws → (aim more : Aim) (limit : ℕ) (input first second one two : List ℕ) (at to : ℕ) (kept : IsKept aim input one) (again : IsKept more input two) → aim.reduce ≡ more.reduce → length input ≤ most_bytes
    → length first ≤ limit → length second ≤ limit → HasCodestream first at one → HasCodestream second to two → totals_fault kept.after ≡ None → totals_fault again.after ≡ None → SameVerdict limit first second status.Done
kept_both laws aim more limit input first second one two at to kept again as_many short short_first short_second has has_too within within_too =
    let other : ReadsLeft aim.reduce input again.before again.blocks = subst (λ (d : ℕ). ReadsLeft d input again.before again.blocks) (sym as_many) again.reads in
    let left = one_left laws aim.reduce input kept.before again.before kept.blocks again.blocks short kept.reads other in
    let means : meaning_of again.before again.blocks ≡ meaning_of kept.before kept.blocks =
    ap (λ (x : Stream). meaning_of x again.blocks) left.0 ∙ ap (λ (b : List Block). meaning_of kept.before b) left.1 in record {
      stream = kept.after;
      blocks = blocks_of aim input one kept;
      accepted = record { within = short_first; from = at; inner = one; has = has; reads = record { read = kept.kept.read; totals = within; gathered = kept.kept.gathered } };
      other = again.after;
      others = blocks_of more input two again;
      accepted_too = record { within = short_second; from = to; inner = two; has = has_too; reads = record { read = again.kept.read; totals = within_too; gathered = again.kept.gathered } };
      is = one_answer kept.after (meaning_of kept.after (blocks_of aim input one kept)) (meaning_of again.after (blocks_of more input two again)) (again.kept.meaning ∙ means ∙ sym kept.kept.meaning);
    }
