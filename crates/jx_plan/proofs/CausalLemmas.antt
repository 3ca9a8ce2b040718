-- What is known of blocks by whether they would change their causal bit within a plane.
use Rattle.std.proofs.Common.{◌≡◌, ◌⊎◌, ◌≤◌, ◌%◌, ◌==◌, ◌&&◌, ap, subst, refl, arith, ℕ, Bool, true, false, not, nat_lt, cond, if◌then◌else◌, List, [], ◌∷◌, length, inl, inr, Option, None, Some}
use Rattle.std.specs.List.{All, position, position_or_len}
use Rattle.std.proofs.lemmas.Bool.{cases_Bool, cases_eq, eq-eqb, eqb-true, ne_eqb}
use Rattle.std.proofs.lemmas.Bool.Decides.{nat_tests}
use Rattle.std.proofs.lemmas.List.Elements.{All-nil, All-cons}
use Rattle.jx_base.specs.declared.pieces.Block.{Block}
use Rattle.jx_base.specs.declared.style.Style.{Style}
use Rattle.jx_base.specs.Passes.{is_causal}
use Rattle.jx_base.specs.Sound.{IsSound}
use Rattle.jx_codeblock.specs.declared.job.Job.{Job}
use Rattle.jx_codeblock.specs.Jobs.{IsAsked, KeepsCausal}
use Rattle.jx_codeblock.specs.Written.{style_for}
use Rattle.jx_plan.specs.Causal.{breaks_plane, differ}
use Rattle.jx_plan.specs.Layers.{IsJobOf}
use Rattle.jx_layers.specs.Rule.{Rule}

-- ---- one block
clear_of : (a b none last : Bool) → differ a b && (not none && not last) ≡ false → (a ≡ b) ⊎ (none ≡ true) ⊎ (last ≡ true)
clear_of true true none last h = inl refl
clear_of false false none last h = inl refl
clear_of true false true last h = inr (inl refl)
clear_of true false false true h = inr (inr refl)
clear_of true false false false h = absurd (cc)
clear_of false true true last h = inr (inl refl)
clear_of false true false true h = inr (inr refl)
clear_of false true false false h = absurd (cc)

told : (style : Style) (b : Block) → breaks_plane (Some style) b ≡ false → KeepsCausal b (Some style)
told style b h = elim (clear_of (is_causal style.bits) (is_causal b.style.bits) (b.passes == 0) (b.passes % 3 == 1) h) [
  | inl same ↦ inl same
  | inr ends ↦ elim ends [
    | inl none ↦ inr (inl (eqb-true b.passes 0 none))
    | inr last ↦ inr (inr (eqb-true (b.passes % 3) 1 last))
  ]
]

pub kept : (style : Option Style) (b : Block) → breaks_plane style b ≡ false → KeepsCausal b (style_for style b)
kept None b h = tt
kept (Some style) b h = by (style.bits == b.style.bits)
  where
    by : (same : Bool) → KeepsCausal b (if same then None else Some style)
    by true = tt
    by false = told style b h

-- it is in the way of nothing where one of the three is so
refuted : (a b none last : Bool) → differ a b && (not none && not last) ≡ true → (a ≡ b) ⊎ (none ≡ true) ⊎ (last ≡ true) → ⊥
refuted true true none last h one = absurd (cc)
refuted false false none last h one = absurd (cc)
refuted true false true last h one = absurd (cc)
refuted true false false true h one = absurd (cc)
refuted true false false false h one = elim one [ inl e ↦ absurd (cc) | inr more ↦ elim more [ inl e ↦ absurd (cc) | inr e ↦ absurd (cc) ] ]
refuted false true true last h one = absurd (cc)
refuted false true false true h one = absurd (cc)
refuted false true false false h one = elim one [ inl e ↦ absurd (cc) | inr more ↦ elim more [ inl e ↦ absurd (cc) | inr e ↦ absurd (cc) ] ]

-- the same bits have the same causal bit
keeps_some : (style : Style) (b : Block) → KeepsCausal b (style_for (Some style) b) → KeepsCausal b (Some style)
keeps_some style b keeps = elim (cases_eq style.bits b.style.bits) [
  | inl same ↦ inl (ap is_causal same)
  | inr other ↦ subst (λ (same : Bool). KeepsCausal b (if same then None else Some style)) (ne_eqb style.bits b.style.bits other) keeps
]

pub broken : (style : Option Style) (b : Block) → breaks_plane style b ≡ true → KeepsCausal b (style_for style b) → ⊥
broken None b h keeps = absurd (cc)
broken (Some style) b h keeps = refuted (is_causal style.bits) (is_causal b.style.bits) (b.passes == 0) (b.passes % 3 == 1) h (elim (keeps_some style b keeps) [
  | inl same ↦ inl same
  | inr ends ↦ elim ends [
    | inl none ↦ inr (inl (eq-eqb b.passes 0 none))
    | inr last ↦ inr (inr (eq-eqb (b.passes % 3) 1 last))
  ]
])

-- ---- all blocks
pub none_before : {X : Type 0} (p : X → Bool) (xs : List X) → length xs ≤ position_or_len p xs → All (λ (x : X). p x ≡ false) xs
none_before {X} p [] h = All-nil (λ (x : X). p x ≡ false)
none_before {X} p (x ∷ xs) h = elim (cases_Bool (p x)) [
  | inl t ↦ absurd (let e = rw t at h in omega (arith, e))
  | inr f ↦ All-cons (λ (y : X). p y ≡ false) x xs f (none_before p xs (let e = rw f at h in omega (arith, e)))
]

pub past : (m n : ℕ) → (cond (nat_lt m n) (Some m) None) ≡ None → n ≤ m
past m n h = elim (cases_Bool (nat_lt m n)) [
  | inl t ↦ absurd (let e = rw t at h in cc)
  | inr f ↦ grind (arith, nat_tests)
]

-- where no place passes
pub none_at : {X : Type 0} (p : X → Bool) (xs : List X) → position p xs ≡ None → All (λ (x : X). p x ≡ false) xs
none_at {X} p xs h = none_before p xs (past (position_or_len p xs) (length xs) h)

-- ---- what may be asked of a block
pub asked_of : (style : Option Style) (rule : Rule) (layers : ℕ) (blocks : List Block) (number : ℕ) (b : Block) (job : Job) → IsSound b → breaks_plane style b ≡ false → IsJobOf style rule layers blocks number b job
    → IsAsked job.block.now job.style job.ends
asked_of style rule layers blocks number b job sound clear is =
    let asked : IsAsked b (style_for style b) job.ends = record { sound = sound; layers = is.ends; causal = kept style b clear } in
    rw (is.block_is, is.style_is) asked
