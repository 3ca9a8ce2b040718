-- Headers that say the same of a component give it the same parameters and the same steps (A.6).
use Rattle.std.proofs.Common.{◌≡◌, ◌∙◌, ◌+◌, ◌-◌, ◌*◌, ◌/◌, ◌%◌, ◌==◌, ◌<◌, ◌≤◌, ℕ, List, [], ◌∷◌, map, length, ap, refl, sym, subst, Bool, true, false, cond, inl, inr, Option, None, Some}
use Rattle.std.specs.List.{filter, find}
use Rattle.std.specs.Option.{option_map, option_or}
use Rattle.std.proofs.lemmas.Bool.{cases_Bool, eq-eqb, eqb-true, or_parts}
use Rattle.jx_base.specs.declared.names.Band.{Band}
use Rattle.jx_marker.specs.declared.Quant.{Quant}
use Rattle.jx_marker.specs.declared.Segment.{Segment}
use Rattle.jx_marker.specs.declared.Segment.TheVariants as segment
use Rattle.jx_codestream.specs.declared.Stream.{Stream}
use Rattle.jx_codestream.specs.Headers.{slot_of}
use Rattle.jx_codestream.specs.Index.{comp_named, has_named, is_comp}
use Rattle.jx_codestream.specs.Params.{chosen, cod_in, cod_of, cod_or, exponent_of, header_of, mantissa_of, number_of, params_by, params_of, quant_in, quant_of, quant_or, shape_in, shape_of, shape_or, shift_in, shift_of, step_by}
use Rattle.jx_codestream.specs.Tiles.{in_slot}
use Rattle.jx_codestream.proofs.KindLemmas.{coc_slot, cod_slot, qcc_slot, qcd_slot, rgn_slot}
use Rattle.jx_plan.specs.Meaning.{Component, component_of}
use Rattle.jx_same.specs.Sayings.{AreAlikeAt, AreAsBefore, IsUnchanged, SaySame, Saying, concerns, said_of, saying_in, saying_of, sayings}
use Rattle.jx_same.specs.Shared.{AreSameHeaders, SameHeaders}
use Rattle.jx_same.proofs.FindLemmas.{map_one}

-- ---- the first segment of a slot, by what it says
slot_said : (all : Bool) (s : Segment) → concerns all s ≡ true → (said_of s).slot ≡ slot_of s
slot_said all (segment.Cod cod) h = refl
slot_said all (segment.Coc comp shape) h = refl
slot_said all (segment.Qcd quant) h = refl
slot_said all (segment.Qcc comp quant) h = refl
slot_said all (segment.Rgn comp shift) h = refl
slot_said all _ h = absurd (cc)

abbrev is_at : ℕ → Saying → Bool
is_at slot x = x.said.slot == slot

-- each segment of a slot counts
abbrev AreOf : Bool → ℕ → Type 0
AreOf all slot = (s : Segment) → slot_of s ≡ slot → concerns all s ≡ true

module _ (all : Bool) (slot : ℕ) (each : AreOf all slot) where
  found : (ss : List Segment) → option_map saying_of (in_slot slot ss) ≡ find (is_at slot) (sayings all ss)
  found [] = refl
  found (s ∷ ss) =
      let rest : List Saying = sayings all ss in
      let unfiltered : (b : Bool) → concerns all s ≡ b → find (is_at slot) (map saying_of (cond b (s ∷ filter (concerns all) ss) (filter (concerns all) ss))) ≡ find (is_at slot) (sayings all (s ∷ ss)) =
      λ b e. ap (λ (x : Bool). find (is_at slot) (map saying_of (cond x (s ∷ filter (concerns all) ss) (filter (concerns all) ss)))) (sym e) in
      elim (cases_Bool (concerns all s)) [
        | inl t ↦
            sym (map_one saying_of (slot_of s == slot) s (in_slot slot ss) (find (is_at slot) rest) (sym (found ss)))
            ∙ ap (λ (n : ℕ). cond (n == slot) (Some (saying_of s)) (find (is_at slot) rest)) (sym (slot_said all s t))
            ∙ unfiltered true t
        | inr f ↦ elim (cases_Bool (slot_of s == slot)) [
          | inl is ↦ let said : concerns all s ≡ true = each s (eqb-true (slot_of s) slot is) in absurd (cc)
          | inr other ↦ ap (λ (b : Bool). option_map saying_of (cond b (Some s) (in_slot slot ss))) other ∙ found ss ∙ unfiltered false f
        ]
      ]

  pub slot_same : (h k : List Segment) → sayings all h ≡ sayings all k → option_map saying_of (in_slot slot h) ≡ option_map saying_of (in_slot slot k)
  slot_same h k e = found h ∙ ap (λ (xs : List Saying). find (is_at slot) xs) e ∙ sym (found k)

or_same : {X Y : Type 0} (f : X → Y) (a b c d : Option X) → option_map f a ≡ option_map f b → option_map f c ≡ option_map f d → option_map f (option_or a c) ≡ option_map f (option_or b d)
or_same f None None c d e more = more
or_same f None (Some y) c d e more = absurd (cc)
or_same f (Some x) None c d e more = absurd (cc)
or_same f (Some x) (Some y) c d e more = e

-- what is taken of a segment is taken of what it says
taken_same : {X : Type 0} (P : Option Segment → X) (p : Saying → X) → ((s : Segment) → P (Some s) ≡ p (saying_of s)) → (x y : Option Segment)
    → option_map saying_of x ≡ option_map saying_of y → P x ≡ P y
taken_same P p is None None e = refl
taken_same P p is None (Some u) e = absurd (cc)
taken_same P p is (Some s) None e = absurd (cc)
taken_same P p is (Some s) (Some u) e = let same : saying_of s ≡ saying_of u = cc in is s ∙ ap p same ∙ sym (is u)

levels_said : (s : Segment) → (shape_or (shape_in (Some s))).levels ≡ (said_of s).levels
levels_said (segment.Cod cod) = refl
levels_said (segment.Coc comp shape) = refl
levels_said _ = refl

wavelet_said : (s : Segment) → (shape_or (shape_in (Some s))).wavelet ≡ (said_of s).wavelet
wavelet_said (segment.Cod cod) = refl
wavelet_said (segment.Coc comp shape) = refl
wavelet_said _ = refl

transform_said : (s : Segment) → (cod_or (cod_in (Some s))).transform ≡ (said_of s).transform
transform_said (segment.Cod cod) = refl
transform_said _ = refl

shift_said : (s : Segment) → shift_in (Some s) ≡ (said_of s).shift
shift_said (segment.Rgn comp shift) = refl
shift_said _ = refl

-- ---- the segments that a component follows
of_cod : (all : Bool) → AreOf all 1
of_cod all s e = let is = (cod_slot s).0 e in ap (concerns all) is.1

of_qcd : (all : Bool) → AreOf all 2
of_qcd all s e = let is = (qcd_slot s).0 e in ap (concerns all) is.1

component_from : ℕ → ℕ → ℕ → Option Quant → ℕ → Component
component_from l w t q s = record { levels = l; wavelet = w; transform = t; quant = (quant_or q).sqcd % 32; guard = (quant_or q).sqcd / 32; shift = s }

from_same : (l l' w w' t t' : ℕ) (q q' : Option Quant) (s s' : ℕ) → l ≡ l' → w ≡ w' → t ≡ t' → q ≡ q' → s ≡ s' → component_from l w t q s ≡ component_from l' w' t' q' s'
from_same l l' w w' t t' q q' s s' e1 e2 e3 e4 e5 = rw (e1, e2, e3, e4, e5) refl

step_from : ℕ → Option Quant → ℕ → ℕ × ℕ
step_from l q n = (exponent_of (quant_or q) l n, mantissa_of (quant_or q) n)

steps_same : (l l' : ℕ) (q q' : Option Quant) (n : ℕ) → l ≡ l' → q ≡ q' → step_from l q n ≡ step_from l' q' n
steps_same l l' q q' n e1 e2 = rw (e1, e2) refl

-- ---- headers of which all segments say the same
of_coc : (c : ℕ) → AreOf true (261 + 3 * c)
of_coc c s e = let is = (coc_slot s c).0 e in ap (concerns true) is.1

of_qcc : (c : ℕ) → AreOf true (262 + 3 * c)
of_qcc c s e = let is = (qcc_slot s c).0 e in ap (concerns true) is.1

of_rgn : (c : ℕ) → AreOf true (263 + 3 * c)
of_rgn c s e = let is = (rgn_slot s c).0 e in ap (concerns true) is.1

pub same_by_all : (c : ℕ) (h k : List Segment) → sayings true h ≡ sayings true k → SaySame c h k
same_by_all c h k e = record {
  cod = slot_same true 1 (of_cod true) h k e;
  qcd = slot_same true 2 (of_qcd true) h k e;
  coc = slot_same true (261 + 3 * c) (of_coc c) h k e;
  qcc = slot_same true (262 + 3 * c) (of_qcc c) h k e;
  rgn = slot_same true (263 + 3 * c) (of_rgn c) h k e;
}

-- ---- headers of which the defaults say the same, and that don't name the component
abbrev Names : ℕ → ℕ → Type 0
Names c slot = (s : Segment) → slot_of s ≡ slot → is_comp c (comp_named s) ≡ true

named_coc : (c : ℕ) → Names c (261 + 3 * c)
named_coc c s e = let is = (coc_slot s c).0 e in ap (λ (x : Segment). is_comp c (comp_named x)) is.1 ∙ eq-eqb c c refl

named_qcc : (c : ℕ) → Names c (262 + 3 * c)
named_qcc c s e = let is = (qcc_slot s c).0 e in ap (λ (x : Segment). is_comp c (comp_named x)) is.1 ∙ eq-eqb c c refl

named_rgn : (c : ℕ) → Names c (263 + 3 * c)
named_rgn c s e = let is = (rgn_slot s c).0 e in ap (λ (x : Segment). is_comp c (comp_named x)) is.1 ∙ eq-eqb c c refl

no_own : (c slot : ℕ) → Names c slot → (ss : List Segment) → has_named c ss ≡ false → in_slot slot ss ≡ None
no_own c slot names [] unnamed = refl
no_own c slot names (s ∷ ss) unnamed =
    let parts = or_parts (is_comp c (comp_named s)) (has_named c ss) unnamed in
    elim (cases_Bool (slot_of s == slot)) [
      | inl t ↦ let named : is_comp c (comp_named s) ≡ true = names s (eqb-true (slot_of s) slot t) in absurd (cc)
      | inr f ↦ rw f (no_own c slot names ss parts.1)
    ]

neither_own : (c slot : ℕ) → Names c slot → (h k : List Segment) → has_named c h ≡ false → has_named c k ≡ false → saying_in slot h ≡ saying_in slot k
neither_own c slot names h k one two = ap (λ (x : Option Segment). option_map saying_of x) (no_own c slot names h one ∙ sym (no_own c slot names k two))

pub same_by_defaults : (c : ℕ) (h k : List Segment) → sayings false h ≡ sayings false k → has_named c h ≡ false → has_named c k ≡ false → SaySame c h k
same_by_defaults c h k e one two = record {
  cod = slot_same false 1 (of_cod false) h k e;
  qcd = slot_same false 2 (of_qcd false) h k e;
  coc = neither_own c (261 + 3 * c) (named_coc c) h k one two;
  qcc = neither_own c (262 + 3 * c) (named_qcc c) h k one two;
  rgn = neither_own c (263 + 3 * c) (named_rgn c) h k one two;
}

same_self : (c : ℕ) (h : List Segment) → SaySame c h h
same_self c h = same_by_all c h h refl

module _ (c : ℕ) where
  module _ (h k m n : List Segment) (own : SaySame c h k) (main : SaySame c m n) where
    chosen_same : (slot default : ℕ) → saying_in slot h ≡ saying_in slot k → saying_in default h ≡ saying_in default k → saying_in slot m ≡ saying_in slot n → saying_in default m ≡ saying_in default n
        → option_map saying_of (chosen slot default h m) ≡ option_map saying_of (chosen slot default k n)
    chosen_same slot default e1 e2 e3 e4 =
        or_same saying_of (in_slot slot h) (in_slot slot k) _ _ e1
        (or_same saying_of (in_slot default h) (in_slot default k) _ _ e2
        (or_same saying_of (in_slot slot m) (in_slot slot n) _ _ e3 e4))

    shape_chosen : option_map saying_of (chosen (261 + 3 * c) 1 h m) ≡ option_map saying_of (chosen (261 + 3 * c) 1 k n)
    shape_chosen = chosen_same (261 + 3 * c) 1 own.coc own.cod main.coc main.cod

    first_same : (slot : ℕ) → saying_in slot h ≡ saying_in slot k → saying_in slot m ≡ saying_in slot n
        → option_map saying_of (option_or (in_slot slot h) (in_slot slot m)) ≡ option_map saying_of (option_or (in_slot slot k) (in_slot slot n))
    first_same slot e1 e2 = or_same saying_of (in_slot slot h) (in_slot slot k) _ _ e1 e2

    levels_same : (shape_or (shape_of h m c)).levels ≡ (shape_or (shape_of k n c)).levels
    levels_same = taken_same (λ (x : Option Segment). (shape_or (shape_in x)).levels) (λ (x : Saying). x.said.levels) levels_said _ _ shape_chosen

    wavelet_same : (shape_or (shape_of h m c)).wavelet ≡ (shape_or (shape_of k n c)).wavelet
    wavelet_same = taken_same (λ (x : Option Segment). (shape_or (shape_in x)).wavelet) (λ (x : Saying). x.said.wavelet) wavelet_said _ _ shape_chosen

    transform_same : (cod_or (cod_of h m)).transform ≡ (cod_or (cod_of k n)).transform
    transform_same = taken_same (λ (x : Option Segment). (cod_or (cod_in x)).transform) (λ (x : Saying). x.said.transform) transform_said _ _ (first_same 1 own.cod main.cod)

    quant_same : quant_of h m c ≡ quant_of k n c
    quant_same = taken_same quant_in (λ (x : Saying). x.quant) (λ s. refl) _ _ (chosen_same (262 + 3 * c) 2 own.qcc own.qcd main.qcc main.qcd)

    shift_same : shift_of h m c ≡ shift_of k n c
    shift_same = taken_same shift_in (λ (x : Saying). x.said.shift) shift_said _ _ (first_same (263 + 3 * c) own.rgn main.rgn)

    pub component_same : component_of (params_by h m c) ≡ component_of (params_by k n c)
    unfolding component_from
    component_same = from_same _ _ _ _ _ _ _ _ _ _ levels_same wavelet_same transform_same quant_same shift_same

    pub step_same : (r : ℕ) (b : Band) → step_by h m c r b ≡ step_by k n c r b
    unfolding step_from
    step_same r b = steps_same _ _ _ _ (number_of r b) levels_same quant_same

-- ---- tiles
pub alike_same : (s t : Stream) (i : ℕ) → AreAlikeAt s t i → AreSameHeaders s t i
alike_same s t i alike c lt =
    let own = same_by_all c (header_of s i) (header_of t i) alike.own in
    let main = same_by_all c s.main t.main alike.main in
    record {
      component = component_same c (header_of s i) (header_of t i) s.main t.main own main;
      step = λ r b level has. step_same c (header_of s i) (header_of t i) s.main t.main own main r b;
    }

-- in each the tile's header says of a component what that of the tile before says
before_same : (s t : Stream) (i c : ℕ) → SaySame c (header_of s i) (header_of s (i - 1)) → SaySame c (header_of t i) (header_of t (i - 1)) → SameHeaders s t (i - 1) c → SameHeaders s t i c
before_same s t i c here there before =
    let one = component_same c (header_of s i) (header_of s (i - 1)) s.main s.main here (same_self c s.main) in
    let two = component_same c (header_of t i) (header_of t (i - 1)) t.main t.main there (same_self c t.main) in
    let levels : (params_of s i c).levels ≡ (params_of s (i - 1) c).levels = ap (λ (x : Component). x.levels) one in
    record {
      component = one ∙ before.component ∙ sym two;
      step = λ r b level has.
          (step_same c (header_of s i) (header_of s (i - 1)) s.main s.main here (same_self c s.main) r b
          ∙ before.step r b (subst (λ (n : ℕ). r ≤ n) levels level) has
          ∙ sym (step_same c (header_of t i) (header_of t (i - 1)) t.main t.main there (same_self c t.main) r b));
    }

pub before_all : (s t : Stream) (i : ℕ) → AreAsBefore s t true i → (0 < i → AreSameHeaders s t (i - 1)) → AreSameHeaders s t i
before_all s t i kept before c lt =
    before_same s t i c (same_by_all c (header_of s i) (header_of s (i - 1)) kept.one) (same_by_all c (header_of t i) (header_of t (i - 1)) kept.two) (before kept.there c lt)

-- of a component of which they say no other thing than in the tile before
pub before_one : (s t : Stream) (i c : ℕ) → IsUnchanged s t i c → (0 < i → AreSameHeaders s t (i - 1)) → c < length s.siz.comps → SameHeaders s t i c
before_one s t i c kept before lt =
    before_same s t i c (same_by_defaults c (header_of s i) (header_of s (i - 1)) kept.defaults.one kept.unnamed.one kept.unnamed.one_before)
    (same_by_defaults c (header_of t i) (header_of t (i - 1)) kept.defaults.two kept.unnamed.two kept.unnamed.two_before) (before kept.defaults.there c lt)
