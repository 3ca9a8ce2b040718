-- An input and what is left of it with fewer resolutions have other subsampling factors, and agree in all that is compared before.
use Rattle.std.proofs.Common.{◌≡◌, ◌≤◌, ◌<◌, ◌+◌, ◌-◌, ◌*◌, ◌%◌, ◌^◌, ◌==◌, ◌&&◌, ◌∙◌, Bool, true, false, not, nat_le, nat_lt, slice_index_or, ℕ, zero, suc, List, [], ◌∷◌, ◌++◌, length, map, None, Some, ap, refl, sym, arith, subst, append_assoc, append-nil}
use Rattle.std.specs.List.{All, find}
use Rattle.std.proofs.lemmas.Bool.{and_left, and_parts, ltb-true, ne_eqb}
use Rattle.std.proofs.lemmas.List.{length-map}
use Rattle.std.proofs.lemmas.List.Elements.{All-head}
use Rattle.std.proofs.lemmas.Nat.{pow_below}
use Rattle.std.proofs.Math.Nat.{mul-le-mul_left}
use Rattle.jx_base.specs.Limits.{most_bytes}
use Rattle.jx_base.specs.declared.pieces.Block.{Block}
use Rattle.jx_base.specs.Joined.{joined, joined_below}
use Rattle.jx_marker.specs.declared.CompSize.{CompSize}
use Rattle.jx_marker.specs.declared.Siz.{Siz}
use Rattle.jx_marker.specs.Rules.{comp_size_fits, siz_fits}
use Rattle.jx_codestream.specs.declared.Stream.{Stream}
use Rattle.jx_codestream.specs.First.{tile_number}
use Rattle.jx_codestream.specs.Shapes.{no_size, size_in}
use Rattle.jx_codestream.proofs.ShapeLemmas.{siz_is}
use Rattle.jx_tile.specs.Totals.{totals_fault}
use Rattle.jx_plan.specs.Meaning.{Meaning, meaning_of}
use Rattle.jx_plan.specs.Plan.{MayBePlanned}
use Rattle.jx_reduce.specs.Left.{IsLeft}
use Rattle.jx_reduce.specs.Reduction.{siz_left, size_left}
use Rattle.jx_same.specs.Items.{answer_of, answer_at, difference_at, differs, factors_value, items_of, picture_fields, same_canvas, same_sampling, size_items, spot_of_component, tile_items}
use Rattle.jx_same.specs.declared.answer.Answer.TheVariants as answer
use Rattle.jx_same.specs.declared.answer.Difference.{Difference}
use Rattle.jx_same.specs.declared.answer.Field.{Field}
use Rattle.jx_same.specs.declared.answer.Field.TheVariants as field
use Rattle.jx_same.specs.declared.answer.Spot.{Spot}
use Rattle.jx_transcode.specs.Aims.{Aim}
use Rattle.jx_transcode.specs.Rewritten.{IsKept}
use Rattle.jx_transcode.specs.SameRun.{SameVerdict, fewer_difference}
use Rattle.jx_transcode.specs.Sources.{HasCodestream}
use Rattle.jx_transcode.specs.declared.status.Status.TheVariants as status
use Rattle.jx_transcode.specs.declared.status.Unlike.TheVariants as unlike
use Rattle.jx_transcode.proofs.KeptSameLemmas.{blocks_of, canvas_self, same_number}
use Rattle.jx_transcode.proofs.ReducedLemmas.{WholeLaws, planned_of}
use Rattle.jx_transcode.proofs.SameVerdictLemmas.{inner_short}

-- ---- the first spots of a codestream's items
abbrev first_spot : Field → Spot
first_spot f = spot_of_component 0 0 f

below_begins : (f : ℕ → List Spot) (n : ℕ) → (rest : List Spot) × (joined_below f 0 (suc n) ≡ f 0 ++ rest)
below_begins f zero = ([], sym (append-nil (f 0)))
below_begins f (suc n) =
    let before = below_begins f n in
    (before.0 ++ f (0 + suc n), ap (λ (xs : List Spot). xs ++ f (0 + suc n)) before.1 ∙ append_assoc (f 0) before.0 (f (0 + suc n)))

joined_begins : (f : ℕ → List Spot) (n : ℕ) → 1 ≤ n → (rest : List Spot) × (joined f 0 n ≡ f 0 ++ rest)
unfolding joined
joined_begins f zero some = absurd (omega (arith, some))
joined_begins f (suc n) some =
    let all : suc n - 0 ≡ suc n = omega arith in
    let begins = below_begins f n in
    (begins.0, ap (λ (k : ℕ). joined_below f 0 k) all ∙ begins.1)

items_begin : (s : Stream) → 1 ≤ length s.siz.comps → (rest : List Spot) × (items_of s ≡ first_spot field.Canvas ∷ first_spot field.Components ∷ first_spot field.Depth ∷ first_spot field.Sampling ∷ rest)
unfolding items_of
items_begin s some =
    let begins = joined_begins size_items (length s.siz.comps) some in
    let tiles : List Spot = joined (tile_items s) 0 (tile_number s.siz) in
    (begins.0 ++ tiles, ap (λ (xs : List Spot). (map (spot_of_component 0 0) picture_fields ++ xs) ++ tiles) begins.1)

found_fourth : (test : Spot → Bool) (a b c d : Spot) (rest : List Spot) → test a ≡ false → test b ≡ false → test c ≡ false → test d ≡ true → find test (a ∷ b ∷ c ∷ d ∷ rest) ≡ Some d
found_fourth test a b c d rest e f g h = rw (e, f, g, h) refl

-- ---- the first component
record HasFirst (sizes : List CompSize) : Type 0 where
  pub size : CompSize
  pub rest : List CompSize
  pub is : sizes ≡ size ∷ rest

first_of : (sizes : List CompSize) → 1 ≤ length sizes → HasFirst sizes
first_of [] some = absurd (omega (arith, some))
first_of (size ∷ rest) some = record { size = size; rest = rest; is = refl }

grows : (n d : ℕ) → 0 < n → 1 ≤ d → n < n * 2 ^ d
grows n d some more =
    let two : 2 ^ 0 < 2 ^ d = pow_below 0 d more in
    let twice : n * 2 ≤ n * 2 ^ d = mul-le-mul_left n (omega (arith, two)) in
    omega (arith, twice, some)

abbrev sampling_by : CompSize → CompSize → Difference
sampling_by one two = record { spot = first_spot field.Sampling; first = factors_value one; second = factors_value two }

module _ (d : ℕ) (a b : Meaning) (is : IsLeft d a b) (size : CompSize) (rest : List CompSize) (first : a.siz.comps ≡ size ∷ rest) (some : 0 < size.dx) (more : 1 ≤ d) where
  size_here : size_in a.siz 0 ≡ size
  size_here = rw first refl

  size_there : size_in (siz_left d a.siz) 0 ≡ size_left d size
  size_there = rw first refl

  canvas_agrees : differs a b (first_spot field.Canvas) ≡ false
  canvas_agrees = ap (λ (z : Siz). not (same_canvas a.siz z)) is.siz ∙ ap not (canvas_self a.siz)

  count_agrees : differs a b (first_spot field.Components) ≡ false
  count_agrees =
      ap (λ (z : Siz). not (length a.siz.comps == length z.comps)) is.siz ∙ ap (λ (n : ℕ). not (length a.siz.comps == n)) (length-map a.siz.comps (size_left d))
      ∙ ap not (same_number (length a.siz.comps))

  depth_agrees : differs a b (first_spot field.Depth) ≡ false
  depth_agrees =
      ap (λ (z : Siz). not ((size_in a.siz 0).ssiz == (size_in z 0).ssiz)) is.siz ∙ ap (λ (x : CompSize). not (x.ssiz == (size_in (siz_left d a.siz) 0).ssiz)) size_here
      ∙ ap (λ (x : CompSize). not (size.ssiz == x.ssiz)) size_there ∙ ap not (same_number size.ssiz)

  factor_grows : (size.dx == size.dx * 2 ^ d) ≡ false
  factor_grows = ne_eqb size.dx (size.dx * 2 ^ d) (λ e. omega (arith, e, grows size.dx d some more))

  sampling_differs : differs a b (first_spot field.Sampling) ≡ true
  sampling_differs =
      ap (λ (z : Siz). not (same_sampling (size_in a.siz 0) (size_in z 0))) is.siz ∙ ap (λ (x : CompSize). not (same_sampling x (size_in (siz_left d a.siz) 0))) size_here
      ∙ ap (λ (x : CompSize). not (same_sampling size x)) size_there
      ∙ ap not (and_left (size.dx == size.dx * 2 ^ d) (size.dy == size.dy * 2 ^ d) factor_grows)

  -- the factors that the second has
  factors_there : size_in b.siz 0 ≡ size_left d (size_in a.siz 0)
  factors_there = ap (λ (z : Siz). size_in z 0) is.siz ∙ size_there ∙ ap (size_left d) (sym size_here)

  both_told : difference_at a b (first_spot field.Sampling) ≡ fewer_difference d (size_in a.siz 0)
  both_told = ap (λ (size : CompSize). sampling_by (size_in a.siz 0) size) factors_there

pub sampling_told : (d : ℕ) (s : Stream) (a b : Meaning) → IsLeft d a b → a.siz.comps ≡ s.siz.comps → 1 ≤ length s.siz.comps → All (λ (size : CompSize). 0 < size.dx) s.siz.comps → 1 ≤ d
    → answer.Differs (fewer_difference d (size_in s.siz 0)) ≡ answer_of s a b
sampling_told d s a b is same some each more =
    let first = first_of s.siz.comps some in
    let begins = items_begin s some in
    let here : a.siz.comps ≡ first.size ∷ first.rest = same ∙ first.is in
    let wide : 0 < first.size.dx = first_wide s.siz.comps first each in
    sym (ap (λ (xs : List Spot). answer_at a b (find (differs a b) xs)) begins.1 ∙ ap (answer_at a b) (found_fourth (differs a b) (first_spot field.Canvas) (first_spot field.Components) (first_spot field.Depth) (first_spot field.Sampling) begins.0
    (canvas_agrees d a b is first.size first.rest here wide more)
    (count_agrees d a b is first.size first.rest here wide more)
    (depth_agrees d a b is first.size first.rest here wide more)
    (sampling_differs d a b is first.size first.rest here wide more))
    ∙ ap (λ (x : Difference). answer.Differs x) (both_told d a b is first.size first.rest here wide more)
    ∙ ap (λ (sizes : List CompSize). answer.Differs (fewer_difference d (slice_index_or sizes 0 no_size))) same)
  where
    first_wide : (sizes : List CompSize) (first : HasFirst sizes) → All (λ (size : CompSize). 0 < size.dx) sizes → 0 < first.size.dx
    first_wide sizes first each = All-head (λ (size : CompSize). 0 < size.dx) first.size first.rest (subst (λ (xs : List CompSize). All (λ (size : CompSize). 0 < size.dx) xs) first.is each)

-- ---- an input and what was written of it
wide_comps : (siz : Siz) → siz_fits siz ≡ true → All (λ (size : CompSize). 0 < size.dx) siz.comps
wide_comps siz fits k size inside = wide_size (slice_index_or siz.comps k size) ((siz_is siz fits).each k size inside)
  where
    wide_size : (size : CompSize) → comp_size_fits size ≡ true → 0 < size.dx
    wide_size size h =
        let one = and_parts (nat_le (size.ssiz % 128 + 1) 38) (nat_lt 0 size.dx && nat_lt 0 size.dy) h in
        let two = and_parts (nat_lt 0 size.dx) (nat_lt 0 size.dy) one.1 in
        ltb-true 0 size.dx two.0

same_comps : (s : Stream) (blocks : List Block) → (meaning_of s blocks).siz.comps ≡ s.siz.comps
unfolding meaning_of
same_comps s blocks = refl

pub fewer_differ : WholeLaws → (aim : Aim) (limit : ℕ) (input out inner again : List ℕ) (from to : ℕ) (kept : IsKept aim inner again) → 1 ≤ aim.reduce → limit ≤ most_bytes → length input ≤ limit → length out ≤ limit → HasCodestream input from inner
    → HasCodestream out to again → totals_fault kept.after ≡ None → SameVerdict limit input out (status.Unlike (unlike.Differs (fewer_difference aim.reduce (size_in kept.reads.whole.siz 0))))
fewer_differ laws aim limit input out inner again from to kept more few short short_out has has_out within =
    let whole : Stream = kept.reads.whole in
    let plan : MayBePlanned whole kept.reads.all = planned_of laws inner whole kept.reads.all (inner_short most_bytes input inner from has (omega (arith, short, few))) kept.reads.reads in
    let fits : siz_fits whole.siz ≡ true = plan.headers.siz.fits in record {
      stream = whole;
      blocks = kept.reads.all;
      accepted = record { within = short; from = from; inner = inner; has = has; reads = kept.reads.reads };
      other = kept.after;
      others = blocks_of aim inner again kept;
      accepted_too = record { within = short_out; from = to; inner = again; has = has_out; reads = record { read = kept.kept.read; totals = within; gathered = kept.kept.gathered } };
      is = sampling_told aim.reduce whole (meaning_of whole kept.reads.all) (meaning_of kept.after (blocks_of aim inner again kept)) kept.left
          (same_comps whole kept.reads.all) (siz_is whole.siz fits).some (wide_comps whole.siz fits) more;
    }
