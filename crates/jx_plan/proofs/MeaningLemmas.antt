-- What a stream means stays, where it is written in another way, and with comments and packet lengths more.
use Rattle.std.proofs.Common.{◌≡◌, ◌∙◌, ◌≤◌, ℕ, ◌+◌, ◌-◌, ◌==◌, if◌then◌else◌, Bool, true, false, cond, List, [], ◌∷◌, refl, ap, Option, None, Some}
use Rattle.std.proofs.Math.Path.{fun_ext}
use Rattle.std.specs.List.{All, find}
use Rattle.std.specs.Option.{option_map}
use Rattle.std.proofs.lemmas.List.Elements.{All-head, All-tail}
use Rattle.jx_base.specs.declared.names.Band.{Band}
use Rattle.jx_base.specs.declared.names.Rect.{Rect}
use Rattle.jx_base.specs.declared.pieces.Block.{Block}
use Rattle.jx_base.specs.declared.style.Style.{Style}
use Rattle.jx_base.specs.Sound.{IsSound}
use Rattle.jx_tier1_specs.specs.declared.coef.Coef.{Coef}
use Rattle.jx_tier1_specs.specs.Cells.{Cells, coef_at}
use Rattle.jx_codeblock.specs.declared.LayerEnd.{LayerEnd}
use Rattle.jx_codeblock.specs.Written.{own_cells, written_in}
use Rattle.jx_plan.specs.Causal.{breaks_plane, first_broken}
use Rattle.jx_plan.proofs.CausalLemmas.{none_at}
use Rattle.jx_plan.specs.Layers.{ends_of, written_by, written_from}
use Rattle.jx_layers.specs.Rule.{Rule}
use Rattle.jx_marker.specs.declared.Siz.{Siz}
use Rattle.jx_codestream.specs.declared.Stream.{Stream}
use Rattle.jx_codestream.specs.Params.{params_of, step_of}
use Rattle.jx_plan.specs.Asides.{IsWithMore}
use Rattle.jx_plan.specs.Headers.{HeaderOptions, stream_written, with_layers}
use Rattle.jx_plan.specs.Meaning.{Component, Meaning, Place, component_of, lies_in, meaning_of, sample_at, sample_in}
use Rattle.jx_plan.specs.Plan.{headers_with}
use Rattle.jx_plan.specs.Planned.{blocks_written, layers_of_rule}
use Rattle.jx_plan.specs.Standing.{HeadersStand}
use Rattle.jx_options.specs.Wanted.{Wanted}
use Rattle.jx_plan.proofs.LayerLaws.{CellLaws, EndLaws}
use Rattle.jx_plan.proofs.MoreLemmas.{params_with_more, step_with_more}
use Rattle.jx_plan.proofs.StreamLemmas.{params_stay, step_stays}

-- ---- the coefficient of a place
lies_same : (p : Place) (b c : Block) → c.name ≡ b.name → c.rect ≡ b.rect → lies_in p c ≡ lies_in p b
lies_same p b c name rect = rw (name, rect) refl

abbrev sample_of : Place → Rect → ℕ → ℕ → Cells → Coef
sample_of p rect passes none cells =
    let c : Coef = coef_at cells (p.x - rect.x.low) (p.y - rect.y.low) in
    record { negative = c.negative; bits = c.bits; planes = if passes == 0 then 0 else none + c.planes }

of_same : (p : Place) (r q : Rect) (m n y z : ℕ) (u v : Cells) → r ≡ q → m ≡ n → y ≡ z → u ≡ v → sample_of p r m y u ≡ sample_of p q n z v
of_same p r q m n y z u v e d h k = rw (e, d, h, k) refl

sample_same : (p : Place) (b c : Block) → c.rect ≡ b.rect → c.passes ≡ b.passes → c.zero ≡ b.zero → own_cells c ≡ own_cells b → sample_in p c ≡ sample_in p b
sample_same p b c rect passes none cells = of_same p c.rect b.rect c.passes b.passes c.zero b.zero (own_cells c) (own_cells b) rect passes none cells

found_same : {X Y : Type 0} (g : X → Y) (x y : Bool) (c b : X) (m n : Option X) → x ≡ y → g c ≡ g b → option_map g m ≡ option_map g n
    → option_map g (cond x (Some c) m) ≡ option_map g (cond y (Some b) n)
found_same g x true c b m n e d h = rw e (ap Some d)
found_same g x false c b m n e d h = rw e h

module _ (laws : CellLaws) (ends : EndLaws) (asked : Option Style) (r : Rule) (layers : ℕ) (some : 1 ≤ layers) (all : List Block) (p : Place) where
  samples_same : (number : ℕ) (blocks : List Block) → All IsSound blocks → All (λ (b : Block). breaks_plane asked b ≡ false) blocks
      → sample_at (written_from asked r layers all number blocks) p ≡ sample_at blocks p
  samples_same number [] sound whole = refl
  samples_same number (b ∷ blocks) sound whole =
      let list : List LayerEnd = ends_of r layers all number b in
      let c : Block = written_in asked list b in
      let may = ends.asked asked r layers all number b some (All-head IsSound b blocks sound) (All-head (λ (x : Block). breaks_plane asked x ≡ false) b blocks whole) in
      let more = samples_same (number + 1) blocks (All-tail IsSound b blocks sound) (All-tail (λ (x : Block). breaks_plane asked x ≡ false) b blocks whole) in
      let own : sample_in p c ≡ sample_in p b = sample_same p b c (laws.rect asked list b) (laws.passes asked list b) (laws.zero asked list b) (laws.cells asked list b may) in
      found_same (sample_in p) (lies_in p c) (lies_in p b) c b (find (lies_in p) (written_from asked r layers all (number + 1) blocks)) (find (lies_in p) blocks)
      (lies_same p b c (laws.name asked list b) (laws.rect asked list b)) own more

  from_first : written_by asked r layers all ≡ written_from asked r layers all 0 all
  unfolding written_by
  from_first = refl

  samples_stay : All IsSound all → All (λ (b : Block). breaks_plane asked b ≡ false) all → sample_at (written_by asked r layers all) p ≡ sample_at all p
  samples_stay sound whole = ap (λ (list : List Block). sample_at list p) from_first ∙ samples_same 0 all sound whole

-- ---- all of it
same_meaning : (u v : Siz) (f g : ℕ → ℕ → Component) (h k : ℕ → ℕ → ℕ → Band → ℕ × ℕ) (x y : Place → Option Coef) → u ≡ v → f ≡ g → h ≡ k → x ≡ y
    → ◌≡◌ {A = Meaning} (record { siz = u; component = f; step = h; sample = x }) (record { siz = v; component = g; step = k; sample = y })
same_meaning u v f g h k x y a b c d = rw (a, b, c, d) refl

components_same : (s other : Stream) → ((t c : ℕ) → component_of (params_of other t c) ≡ component_of (params_of s t c))
    → ◌≡◌ {A = ℕ → ℕ → Component} (λ t c. component_of (params_of other t c)) (λ t c. component_of (params_of s t c))
components_same s other each = fun_ext (λ t. fun_ext (λ c. each t c))

steps_same : (s other : Stream) → ((t c r : ℕ) (band : Band) → step_of other t c r band ≡ step_of s t c r band) → ◌≡◌ {A = ℕ → ℕ → ℕ → Band → ℕ × ℕ} (step_of other) (step_of s)
steps_same s other each = fun_ext (λ t. fun_ext (λ c. fun_ext (λ r. fun_ext (λ band. each t c r band))))

siz_same : (a : HeaderOptions) (s : Stream) → ◌≡◌ {A = Siz} (record (stream_written a s).siz { rsiz = 0 }) (record s.siz { rsiz = 0 })
unfolding stream_written
siz_same a s = refl

pub meaning_written : CellLaws → EndLaws → (w : Wanted) (r : Rule) (s : Stream) (blocks : List Block) → 1 ≤ layers_of_rule r s blocks → HeadersStand s → All IsSound blocks
    → first_broken w.style blocks ≡ None → meaning_of (headers_with w (layers_of_rule r s blocks) s) (blocks_written w r s blocks) ≡ meaning_of s blocks
unfolding meaning_of
meaning_written laws ends w r s blocks some stand sound none =
    let layers : ℕ = layers_of_rule r s blocks in
    let a : HeaderOptions = with_layers w layers in
    let other : Stream = headers_with w layers s in
    same_meaning _ _ _ _ (step_of other) (step_of s) (sample_at (blocks_written w r s blocks)) (sample_at blocks)
    (siz_same a s)
    (components_same s other (λ t c. ap component_of (params_stay a s stand t c)))
    (steps_same s other (step_stays a s stand))
    (fun_ext (λ p. samples_stay laws ends w.style r layers some blocks p sound (none_at (breaks_plane w.style) blocks none)))

pub meaning_with_more : (s other : Stream) (blocks : List Block) → IsWithMore s other → meaning_of other blocks ≡ meaning_of s blocks
unfolding meaning_of
meaning_with_more s other blocks more =
    same_meaning _ _ _ _ (step_of other) (step_of s) (sample_at blocks) (sample_at blocks)
    (ap (λ (x : Siz). record x { rsiz = 0 }) more.siz)
    (components_same s other (λ t c. ap component_of (params_with_more s other more t c)))
    (steps_same s other (step_with_more s other more))
    refl
