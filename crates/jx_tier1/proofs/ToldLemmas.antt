-- What is told of a bit and of a sign, by the question that was asked.
use Rattle.std.proofs.Common.{◌≡◌, ◌∙◌, ℕ, Bool, true, false, sym, ap, if◌then◌else◌}
use Rattle.jx_tier1_specs.specs.declared.question.Plane.{Plane}
use Rattle.jx_tier1_specs.specs.declared.question.Question.{Question}
use Rattle.jx_tier1_specs.specs.declared.question.About.TheVariants.{Bit, Sign}
use Rattle.jx_tier1_specs.specs.Cells.{Cells}
use Rattle.jx_tier1_specs.specs.Labels.{sign_row}
use Rattle.jx_tier1_specs.specs.Near.{across_of, down_of}
use Rattle.jx_tier1_specs.specs.Asking.{Told, told}
use Rattle.jx_tier1_specs.specs.Pass.{shift_of, changed, with_bit, with_sign, question, sign_question, label_at, sign_of, bit_of}

pub sign_told : {S : Type 0} (ask : S → Question → Bool × S) (k : Plane) (f g h : Cells) (x y shift : ℕ) (row : ℕ × Bool) (negative : Bool) (s t : S)
    → f ≡ g → row ≡ sign_row (across_of f k.causal x y) (down_of f k.causal x y) → shift ≡ shift_of k
    → negative ≡ (ask s (record { label = row.0; turned = row.1; shift = shift; about = Sign x y })).0
    → t ≡ (ask s (record { label = row.0; turned = row.1; shift = shift; about = Sign x y })).1
    → h ≡ changed g x y (with_sign k negative)
    → (h ≡ (told ask (sign_of k g x y) s).0) × (t ≡ (told ask (sign_of k g x y) s).1)
sign_told ask k f g h x y shift row negative s t i r n e u d =
    let q : Question = sign_question k g x y in
    let e' : negative ≡ (ask s q).0 = rw (r, n, i) at e in
    let u' : t ≡ (ask s q).1 = rw (r, n, i) at u in
    (d ∙ ap (λ (b : Bool). changed g x y (with_sign k b)) e', u')

-- a bit that is 1 leads to the sign
pub one_told : {S : Type 0} (ask : S → Question → Bool × S) (k : Plane) (g : Cells) (x y label shift : ℕ) (bit : Bool) (s t : S)
    → label ≡ label_at k g x y → shift ≡ shift_of k
    → bit ≡ (ask s (record { label = label; turned = false; shift = shift; about = Bit x y })).0
    → t ≡ (ask s (record { label = label; turned = false; shift = shift; about = Bit x y })).1
    → bit ≡ true → told ask (sign_of k g x y) t ≡ told ask (bit_of k g x y) s
one_told {S = S} ask k g x y label shift bit s t l n e u o =
    let q : Question = question k (label_at k g x y) false (Bit x y) in
    let e' : bit ≡ (ask s q).0 = rw (l, n) at e in
    let u' : t ≡ (ask s q).1 = rw (l, n) at u in
    ap (λ (v : S). told ask (sign_of k g x y) v) u'
    ∙ ap (λ (b : Bool). told ask (if b then sign_of k g x y else Told (changed g x y (with_bit k false))) (ask s q).1) (sym o ∙ e')

-- one that is 0 is decided
pub none_told : {S : Type 0} (ask : S → Question → Bool × S) (k : Plane) (g h : Cells) (x y label shift : ℕ) (bit : Bool) (s t : S)
    → label ≡ label_at k g x y → shift ≡ shift_of k
    → bit ≡ (ask s (record { label = label; turned = false; shift = shift; about = Bit x y })).0
    → t ≡ (ask s (record { label = label; turned = false; shift = shift; about = Bit x y })).1
    → bit ≡ false → h ≡ changed g x y (with_bit k false)
    → (h ≡ (told ask (bit_of k g x y) s).0) × (t ≡ (told ask (bit_of k g x y) s).1)
none_told {S = S} ask k g h x y label shift bit s t l n e u o d =
    let q : Question = question k (label_at k g x y) false (Bit x y) in
    let e' : bit ≡ (ask s q).0 = rw (l, n) at e in
    let u' : t ≡ (ask s q).1 = rw (l, n) at u in
    let m : told ask (bit_of k g x y) s ≡ (changed g x y (with_bit k false), (ask s q).1) =
    ap (λ (b : Bool). told ask (if b then sign_of k g x y else Told (changed g x y (with_bit k false))) (ask s q).1) (sym e' ∙ o) in (
      d ∙ sym (ap (λ (z : Cells × S). z.0) m),
      u' ∙ sym (ap (λ (z : Cells × S). z.1) m),
    )
