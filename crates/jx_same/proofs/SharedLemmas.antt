-- Tiles whose headers say nothing of their components share what the main headers say.
use Rattle.std.proofs.Common.{◌≡◌, ◌∙◌, ◌+◌, ◌-◌, ◌%◌, ◌<◌, ◌≤◌, ℕ, List, [], ◌∷◌, length, ap, refl, sym, subst, arith, Bool, true, false, ◌||◌, Option, None}
use Rattle.std.specs.List.{find}
use Rattle.std.proofs.Math.Nat.{mod-lt}
use Rattle.std.proofs.lemmas.Bool.Decides.{nat_tests}
use Rattle.jx_base.specs.declared.names.Band.{Band}
use Rattle.jx_base.specs.declared.pieces.Block.{Block}
use Rattle.jx_base.specs.Joined.{joined}
use Rattle.jx_base.specs.Places.{size_of}
use Rattle.jx_geom.specs.declared.shape.CompShape.{CompShape}
use Rattle.jx_geom.specs.Geometry.{LacksPlace, blocks_in, rect_of_tile, shape_of}
use Rattle.jx_geom.specs.Rects.{component_rect}
use Rattle.jx_geom.proofs.EmptyLemmas.{some_block}
use Rattle.jx_marker.specs.declared.Cod.{Cod}
use Rattle.jx_marker.specs.declared.Quant.{Quant}
use Rattle.jx_marker.specs.declared.Segment.{Segment}
use Rattle.jx_marker.specs.declared.Segment.TheVariants as segment
use Rattle.jx_marker.specs.declared.Shape.{Shape}
use Rattle.jx_codestream.specs.declared.Params.{Params}
use Rattle.jx_codestream.specs.declared.Stream.{Stream}
use Rattle.jx_codestream.specs.Headers.{slot_of}
use Rattle.jx_codestream.specs.Index.{IsBare, gives, has_giving}
use Rattle.jx_codestream.specs.Params.{cod_or, exponent_of, header_of, mantissa_of, number_of, params_by, params_from, params_of, quant_or, shape_or, step_by, step_of}
use Rattle.jx_codestream.specs.Shapes.{geometry, shapes_of}
use Rattle.jx_codestream.proofs.BareLemmas.{cod_bare, none_gives, own_gives, quant_bare, shape_bare, shift_bare}
use Rattle.jx_plan.specs.Meaning.{component_of, meaning_of}
use Rattle.jx_same.specs.declared.input.Input.{Input}
use Rattle.jx_same.specs.Items.{block_items, coding_items, band_items, component_items, differs, resolution_items, step_items, tile_items}
use Rattle.jx_same.specs.Shared.{AreBareAt, AreSameHeaders, AreSameMain, SameHeaders, gives_parameters, gives_some}
use Rattle.jx_same.specs.Sides.{SideValue, meaning_in}
use Rattle.jx_same.proofs.BlockLemmas.{shape_is}
use Rattle.jx_same.proofs.FindLemmas.{behind, joined_all, joined_each}
use Rattle.jx_same.proofs.OneLemmas.{coding_none, step_none}
use Rattle.jx_same.proofs.RowLemmas.{from_each}
use Rattle.jx_same.proofs.TileLemmas.{side_of}
use Rattle.jx_same.proofs.WithinLemmas.{bands_all, none_coding, none_step}

-- ---- segments that give parameters
none_between : (n : ℕ) → 4 < n → n < 261 → gives n ≡ false
none_between n more less = grind (arith, nat_tests)

packed_gives : (index : ℕ) → gives (5 + index % 256) ≡ false
packed_gives index = let low : index % 256 < 256 = mod-lt index (omega arith) in none_between (5 + index % 256) (omega arith) (omega arith)

gives_is : (s : Segment) → gives (slot_of s) ≡ gives_parameters s
gives_is segment.Soc = refl
gives_is (segment.Siz siz) = refl
gives_is (segment.Cod cod) = refl
gives_is (segment.Coc comp shape) = own_gives 261 comp (omega arith)
gives_is (segment.Qcd quant) = refl
gives_is (segment.Qcc comp quant) = own_gives 262 comp (omega arith)
gives_is (segment.Rgn comp shift) = own_gives 263 comp (omega arith)
gives_is (segment.Poc entries) = refl
gives_is (segment.Crg bytes) = refl
gives_is (segment.Com bytes) = refl
gives_is (segment.Plt bytes) = refl
gives_is (segment.Plm bytes) = refl
gives_is (segment.Tlm bytes) = refl
gives_is (segment.Ppm index bytes) = packed_gives index
gives_is (segment.Ppt index bytes) = packed_gives index
gives_is (segment.Sot sot) = refl
gives_is segment.Sod = refl
gives_is segment.Eoc = refl
gives_is (segment.Skipped code) = refl

gives_all : (ss : List Segment) → has_giving ss ≡ gives_some ss
gives_all [] = refl
gives_all (s ∷ ss) = rw (gives_is s, gives_all ss) refl

pub bare_from : (ss : List Segment) → gives_some ss ≡ false → IsBare ss
bare_from ss none = none_gives ss (gives_all ss ∙ none)

-- ---- parameters and steps of a tile whose header gives none
from_same : (a b : Option Shape) (c d : Option Cod) (p q : Option Quant) (m n : ℕ) → a ≡ b → c ≡ d → p ≡ q → m ≡ n
    → params_from (shape_or a) (cod_or c) (quant_or p) m ≡ params_from (shape_or b) (cod_or d) (quant_or q) n
from_same a b c d p q m n e1 e2 e3 e4 = rw (e1, e2, e3, e4) refl

abbrev step_from : Option Shape → Option Quant → ℕ → ℕ × ℕ
step_from s q n = (exponent_of (quant_or q) (shape_or s).levels n, mantissa_of (quant_or q) n)

steps_same : (a b : Option Shape) (p q : Option Quant) (n : ℕ) → a ≡ b → p ≡ q → step_from a p n ≡ step_from b q n
steps_same a b p q n e1 e2 = rw (e1, e2) refl

module _ (s : Stream) (i : ℕ) (bare : IsBare (header_of s i)) (c : ℕ) where
  params_bare : params_of s i c ≡ params_by [] s.main c
  params_bare =
      from_same _ _ _ _ _ _ _ _ (shape_bare (header_of s i) bare s.main c) (cod_bare (header_of s i) bare s.main) (quant_bare (header_of s i) bare s.main c) (shift_bare (header_of s i) bare s.main c)

  step_bare : (r : ℕ) (b : Band) → step_of s i c r b ≡ step_by [] s.main c r b
  step_bare r b = steps_same _ _ _ _ (number_of r b) (shape_bare (header_of s i) bare s.main c) (quant_bare (header_of s i) bare s.main c)

-- what both main headers say is what both say of such a tile, and the other way round
module _ (s t : Stream) (i : ℕ) (bare : AreBareAt s t i) where
  pub headers_from : AreSameMain s t → AreSameHeaders s t i
  headers_from main c lt =
      let one = params_bare s i bare.one c in
      let two = params_bare t i bare.two c in
      record {
        component = ap component_of one ∙ (main c lt).component ∙ sym (ap component_of two);
        step = λ r b level has.
            (step_bare s i bare.one c r b ∙ (main c lt).step r b (subst (λ (p : Params). r ≤ p.levels) one level) has ∙ sym (step_bare t i bare.two c r b));
      }

  pub main_from : AreSameHeaders s t i → AreSameMain s t
  main_from headers c lt =
      let one = params_bare s i bare.one c in
      let two = params_bare t i bare.two c in
      record {
        component = sym (ap component_of one) ∙ (headers c lt).component ∙ ap component_of two;
        step = λ r b level has.
            (sym (step_bare s i bare.one c r b) ∙ (headers c lt).step r b (subst (λ (p : Params). r ≤ p.levels) (sym one) level) has ∙ step_bare t i bare.two c r b);
      }

-- ---- a tile of which no value differs, and a component without a place
module _ (s t : Stream) (x y : List Block) where
  pub headers_none : (i : ℕ) → find (differs (meaning_of s x) (meaning_of t y)) (tile_items s i) ≡ None → AreSameHeaders s t i
  unfolding tile_items
  headers_none i none c lt =
      let here = joined_each (differs (meaning_of s x) (meaning_of t y)) (component_items (geometry s i)) c (length s.siz.comps) none lt in
      record {
        component = coding_none s t x y i c here;
        step = λ r b level has. step_none s t x y i c here r b (subst (λ (k : ℕ). r ≤ k) (sym (ap (λ (z : CompShape). z.levels) (shape_is s i c lt))) level) has;
      }

  pub empty_none : (i c : ℕ) → c < length s.siz.comps → SameHeaders s t i c → LacksPlace (rect_of_tile (geometry s i)) (shapes_of s i) c
      → find (differs (meaning_of s x) (meaning_of t y)) (component_items (geometry s i) c) ≡ None
  empty_none i c lt same empty =
      let p = differs (meaning_of s x) (meaning_of t y) in
      let g = geometry s i in
      let levels : (shape_of g c).levels ≡ (params_of s i c).levels = ap (λ (z : CompShape). z.levels) (shape_is s i c lt) in
      behind p (coding_items i c) (joined (resolution_items g c) 0 ((shape_of g c).levels + 1)) None (none_coding s t x y i c same.component)
      (joined_all p (resolution_items g c) ((shape_of g c).levels + 1) (λ r below.
      bands_all p (band_items g c r) r (λ b has.
      behind p (step_items i c r b) (joined (block_items g c r b) 0 (size_of (blocks_in g c r b))) None
      (none_step s t x y i c r b (same.step r b (omega (arith, below, levels)) has))
      (joined_all p (block_items g c r b) (size_of (blocks_in g c r b))
      (λ k d. absurd (let some : 0 < size_of (component_rect (rect_of_tile g) (shape_of g c)) = some_block (rect_of_tile g) (shape_of g c) r b k d in omega (arith, empty)))))))

-- ---- of two inputs
pub headers_beside : (P : Stream → Stream → ℕ → Type 0) (i j : Input) (u v : SideValue) (t : ℕ) → u ≡ side_of i t → v ≡ side_of j t → P i.stream.now j.stream.now t → P u.stream v.stream u.tile
headers_beside P i j u v t own other same =
    subst (λ (x : SideValue). P x.stream v.stream x.tile) (sym own) (subst (λ (x : SideValue). P i.stream.now x.stream t) (sym other) same)

pub changed_beside : (i j : Input) (u v : SideValue) (t c : ℕ) → u ≡ side_of i t → v ≡ side_of j t
    → (c < length i.stream.now.siz.comps → SameHeaders i.stream.now j.stream.now t c) → c < length u.stream.siz.comps → SameHeaders u.stream v.stream u.tile c
changed_beside i j u v t c own other same = headers_beside (λ (x y : Stream) (n : ℕ). c < length x.siz.comps → SameHeaders x y n c) i j u v t own other same

-- where no value of tiles up to a tile differs, the headers of the tile before it say the same, if it is one of them
pub headers_before : (i j : Input) (low t : ℕ) → low < t → find (differs (meaning_in i) (meaning_in j)) (joined (tile_items i.stream.now) low t) ≡ None
    → AreSameHeaders i.stream.now j.stream.now (t - 1)
headers_before i j low t some none =
    headers_none i.stream.now j.stream.now i.blocks.now j.blocks.now (t - 1)
    (from_each (differs (meaning_in i) (meaning_in j)) (tile_items i.stream.now) low t (t - 1) none (omega (arith, some)) (omega (arith, some)))

-- ---- what is known after a tile
pub known_after : (known bare : Bool) (P : Type 0) → (known ≡ true → P) → (bare ≡ true → P) → (known || bare) ≡ true → P
known_after true bare P before here either = before refl
known_after false bare P before here either = here either
