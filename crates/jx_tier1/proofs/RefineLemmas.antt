-- What a refinement pass asks at a place.
use Rattle.std.proofs.Common.{◌≡◌, ◌&&◌, ℕ, Bool, true, false, not, refl, sym, ap, ◌∙◌, if◌then◌else◌}
use Rattle.std.proofs.lemmas.Bool.{and_right}
use Rattle.jx_tier1_specs.specs.declared.question.Plane.{Plane}
use Rattle.jx_tier1_specs.specs.declared.question.Question.{Question}
use Rattle.jx_tier1_specs.specs.declared.question.About.TheVariants.{Bit}
use Rattle.jx_tier1_specs.specs.Cells.{Cells, coef_at, significant}
use Rattle.jx_tier1_specs.specs.Asking.{Asking, Told, Ask, told}
use Rattle.jx_tier1_specs.specs.Pass.{is_decided, changed, with_bit, question, shift_of, refinement_label_at, refinement_at}

asked : Plane → Cells → ℕ → ℕ → Asking Cells
asked k g x y = Ask (question k (refinement_label_at k g x y) false (Bit x y)) (λ bit. Told (changed g x y (with_bit k bit)))

-- no coefficient that isn't significant
pub refinement_unmarked : (k : Plane) (g : Cells) (x y : ℕ) → significant (coef_at g x y) ≡ false → refinement_at k g x y ≡ Told g
unfolding asked
refinement_unmarked k g x y e =
    let d = not (is_decided k (coef_at g x y)) in
    ap (λ (b : Bool). if b && d then asked k g x y else Told g) e

-- nor one that was decided
pub refinement_done : (k : Plane) (g : Cells) (x y : ℕ) → is_decided k (coef_at g x y) ≡ true → refinement_at k g x y ≡ Told g
unfolding asked
refinement_done k g x y e =
    let a = significant (coef_at g x y) in
    ap (λ (b : Bool). if a && not b then asked k g x y else Told g) e
    ∙ ap (λ (b : Bool). if b then asked k g x y else Told g) (and_right a false refl)

refinement_asked : (k : Plane) (g : Cells) (x y : ℕ) → significant (coef_at g x y) ≡ true → is_decided k (coef_at g x y) ≡ false → refinement_at k g x y ≡ asked k g x y
unfolding asked
refinement_asked k g x y s e =
    let d = not (is_decided k (coef_at g x y)) in
    ap (λ (b : Bool). if b && d then asked k g x y else Told g) s
    ∙ ap (λ (b : Bool). if not b then asked k g x y else Told g) e

-- all others, by the number and the answer that were told
pub refinement_told : {S : Type 0} (ask : S → Question → Bool × S) (k : Plane) (g h : Cells) (x y label shift : ℕ) (bit : Bool) (s t : S)
    → significant (coef_at g x y) ≡ true → is_decided k (coef_at g x y) ≡ false → label ≡ refinement_label_at k g x y → shift ≡ shift_of k
    → bit ≡ (ask s (record { label = label; turned = false; shift = shift; about = Bit x y })).0
    → t ≡ (ask s (record { label = label; turned = false; shift = shift; about = Bit x y })).1
    → h ≡ changed g x y (with_bit k bit)
    → (h ≡ (told ask (refinement_at k g x y) s).0) × (t ≡ (told ask (refinement_at k g x y) s).1)
unfolding asked
refinement_told {S = S} ask k g h x y label shift bit s t m d l n e f i =
    let q : Question = question k (refinement_label_at k g x y) false (Bit x y) in
    let tree : told ask (refinement_at k g x y) s ≡ (changed g x y (with_bit k (ask s q).0), (ask s q).1) =
    ap (λ (a : Asking Cells). told ask a s) (refinement_asked k g x y m d) in
    let e' : bit ≡ (ask s q).0 = rw (l, n) at e in
    let f' : t ≡ (ask s q).1 = rw (l, n) at f in (
      i ∙ (ap (λ (b : Bool). changed g x y (with_bit k b)) e' ∙ sym (ap (λ (z : Cells × S). z.0) tree)),
      f' ∙ sym (ap (λ (z : Cells × S). z.1) tree),
    )
