-- What holds wherever a procedure ends.
use Rattle.std.proofs.Common.{◌≡◌, ℕ, Bool, refl, ap, ◌∙◌}
use Rattle.jx_tier1_specs.specs.declared.question.Question.{Question}
use Rattle.jx_tier1_specs.specs.Cells.{Cells}
use Rattle.jx_tier1_specs.specs.Asking.{Asking, Told, Ask, and_then, told}
use Rattle.jx_tier1_specs.specs.Needs.{answer_of, followed}
use Rattle.jx_tier1_specs.proofs.GridLemmas.{IsFront, AreClean, front_same, front_next}

abbrev pub AllLeaves : Asking Cells → (Cells → Type 0) → Type 0
AllLeaves (Told a) P = P a
AllLeaves (Ask q k) P = (b : Bool) → AllLeaves (k b) P

pub leaves_told : {S : Type 0} (ask : S → Question → Bool × S) (t : Asking Cells) (P : Cells → Type 0) (s : S) → AllLeaves t P → P (told ask t s).0
leaves_told ask (Told a) P s h = h
leaves_told ask (Ask q k) P s h = leaves_told ask (k (ask s q).0) P (ask s q).1 (h (ask s q).0)

pub leaves_more : (t : Asking Cells) (P Q : Cells → Type 0) → ((v : Cells) → P v → Q v) → AllLeaves t P → AllLeaves t Q
leaves_more (Told a) P Q f h = f a h
leaves_more (Ask q k) P Q f h = λ b. leaves_more (k b) P Q f (h b)

pub leaves_then : (t : Asking Cells) (f : Cells → Asking Cells) (P : Cells → Type 0) → AllLeaves t (λ v. AllLeaves (f v) P) → AllLeaves (and_then t f) P
leaves_then (Told a) f P h = h
leaves_then (Ask q k) f P h = λ b. leaves_then (k b) f P (h b)

pub followed_then : (g : Cells) (t : Asking Cells) (f : Cells → Asking Cells) → followed g (and_then t f) ≡ followed g (f (followed g t))
followed_then g (Told a) f = refl
followed_then g (Ask q k) f = followed_then g (k (answer_of g q)) f

-- from m a procedure ends in v, and it does so again where a grid answers that v may become
pub record IsBack (planes most : ℕ) (m : Cells) (t : Asking Cells) (v : Cells) : Type 0 where
  pub front : IsFront planes m v
  pub clean : AreClean planes most v
  pub follows : (g : Cells) → IsFront planes v g → followed g t ≡ v

abbrev pub Back : ℕ → ℕ → Cells → Asking Cells → Type 0
Back planes most m t = AllLeaves t (IsBack planes most m t)

pub back_told : (planes most : ℕ) (m : Cells) → AreClean planes most m → Back planes most m (Told m)
back_told planes most m c = record { front = front_same planes m; clean = c; follows = λ g h. refl }

pub back_then : (planes most : ℕ) (m : Cells) (t : Asking Cells) (f : Cells → Asking Cells) → Back planes most m t
    → ((v : Cells) → IsBack planes most m t v → Back planes most v (f v)) → Back planes most m (and_then t f)
back_then planes most m t f h k =
    let Q : Cells → Type 0 = λ v. AllLeaves (f v) (IsBack planes most m (and_then t f)) in
    leaves_then t f (IsBack planes most m (and_then t f))
    (leaves_more t (IsBack planes most m t) Q
    (λ v a. leaves_more (f v) (IsBack planes most v (f v)) (IsBack planes most m (and_then t f))
    (λ w b. record {
      front = front_next planes m v w a.front b.front;
      clean = b.clean;
      follows = λ g e. followed_then g t f ∙ (ap (λ (x : Cells). followed g (f x)) (a.follows g (front_next planes v w g b.front e)) ∙ b.follows g e);
    })
    (k v a))
    h)
