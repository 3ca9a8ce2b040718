-- Texts that are cut once, at a comma or a slash.
use Rattle.std.proofs.Common.{◌≡◌, ◌<◌, ◌≤◌, ◌∙◌, ap, sym, subst, refl, arith, ℕ, eqb, List, [], ◌∷◌, Option, None, Some, length}
use Rattle.std.specs.Prelude.{MatchOption}
use Rattle.std.specs.Borrow.{Bor}
use Rattle.std.specs.List.{after_first, position_or_len}
use Rattle.std.proofs.lemmas.List.Splits.{slice_split_first, slice_split_none}
use Rattle.std.proofs.lemmas.List.Sums.{fails_before_first}
use Rattle.std.proofs.lemmas.Str.Pattern.{IsSplitOnceResult, split_once_first}
use Rattle.jx_options.specs.Parts.{more_parts}
use Rattle.jx_options.specs.Values.{parts_of}
use Rattle.jx_options.specs.Volumes.{volume_of}

abbrev pub Cut : Type 0
Cut = Option (Bor (List ℕ) × Bor (List ℕ))

-- a text is one part, or two are cut at its first separator
pub cut_once : (c : ℕ) (text : List ℕ) (r : Cut) → IsSplitOnceResult c text r → c < 128
    → MatchOption r (parts_of c text ≡ text ∷ []) (λ x. parts_of c text ≡ x.0.now ∷ parts_of c x.1.now)
unfolding parts_of
cut_once c text None h low =
    let none : position_or_len (λ b. eqb b c) text ≡ length text = split_once_first c text None h low in
    slice_split_none (λ b. eqb b c) text (λ k d l. fails_before_first (λ b. eqb b c) text k d (omega (arith, none, l)))
cut_once c text (Some x) h low =
    let is = split_once_first c text (Some x) h low in
    slice_split_first (λ b. eqb b c) text 0 is.0 ∙ ap (λ p. p ∷ parts_of c (after_first (λ b. eqb b c) text)) (sym is.1) ∙ ap (λ t. x.0.now ∷ parts_of c t) (sym is.2)

pub cut_first : (c : ℕ) (text : List ℕ) (r : Cut) (x : Bor (List ℕ) × Bor (List ℕ)) → r ≡ Some x → IsSplitOnceResult c text r → c < 128
    → parts_of c text ≡ x.0.now ∷ more_parts c (Some x.1)
cut_first c text r x e h low = cut_once c text (Some x) (subst (IsSplitOnceResult c text) e h) low

pub uncut : (c : ℕ) (text : List ℕ) (r : Cut) → r ≡ None → IsSplitOnceResult c text r → c < 128 → parts_of c text ≡ text ∷ more_parts c None
uncut c text r e h low = cut_once c text None (subst (IsSplitOnceResult c text) e h) low

-- more than six texts are no volume
pub seven : (a b d e f g : List ℕ) (more parts : List (List ℕ)) → 1 ≤ length more → parts ≡ a ∷ b ∷ d ∷ e ∷ f ∷ g ∷ more → volume_of parts ≡ None
seven a b d e f g [] parts some is = absurd (omega (arith, some))
seven a b d e f g (h ∷ more) parts some is = rw is refl
