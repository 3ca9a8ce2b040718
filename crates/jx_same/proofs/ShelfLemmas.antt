-- Code-blocks that stand on a shelf.
use Rattle.std.proofs.Common.{◌≡◌, ◌∙◌, ◌⊎◌, ℕ, zero, suc, ◌<◌, List, [], ◌∷◌, ◌++◌, inl, inr, length, slice_set, ap, sym, subst, Option, None, Some}
use Rattle.std.specs.List.{slice_get}
use Rattle.std.proofs.lemmas.Bool.{cases_eq}
use Rattle.jx_base.specs.declared.pieces.Block.{Block}
use Rattle.jx_base.proofs.Lists.{get-set_other, get-set_same}
use Rattle.jx_same.specs.declared.side.BandName.{BandName}
use Rattle.jx_same.specs.Sides.{AreOnShelf, Covers, SideValue}

-- a slot more
pub slot_more : (slots : List (Option Block)) (i : ℕ) (b : Block) → slice_get (slots ++ None ∷ []) i ≡ Some (Some b) → slice_get slots i ≡ Some (Some b)
slot_more [] zero b at = absurd (cc)
slot_more [] (suc i) b at = absurd (cc)
slot_more (o ∷ slots) zero b at = at
slot_more (o ∷ slots) (suc i) b at = slot_more slots i b at

-- one that comes into a slot
one_some : (a b : Block) → ◌≡◌ {A = Option (Option Block)} (Some (Some a)) (Some (Some b)) → a ≡ b
one_some a b e = cc

pub slot_set : (slots : List (Option Block)) (k i : ℕ) (a b : Block) → k < length slots → slice_get (slice_set slots k (Some a)) i ≡ Some (Some b) → (slice_get slots i ≡ Some (Some b)) ⊎ (b ≡ a)
slot_set slots k i a b lt at = elim (cases_eq i k) [
  | inl e ↦ inr (sym (one_some a b (sym (get-set_same slots k (Some a) lt) ∙ ap (λ (j : ℕ). slice_get (slice_set slots k (Some a)) j) (sym e) ∙ at)))
  | inr ne ↦ inl (sym (get-set_other slots k i (Some a) ne) ∙ at)
]

pub shelf_put : (v : SideValue) (n : BandName) (old new : List (Option Block)) (a : Block) → AreOnShelf v n old → Covers v n a
    → ((i : ℕ) (b : Block) → slice_get new i ≡ Some (Some b) → (slice_get old i ≡ Some (Some b)) ⊎ (b ≡ a)) → AreOnShelf v n new
shelf_put v n old new a are covers put i b at = elim (put i b at) [
  | inl before ↦ are i b before
  | inr is ↦ subst (λ (z : Block). Covers v n z) (sym is) covers
]

-- one that was found
pub shelf_found : (v : SideValue) (n : BandName) (seen inside slots : List (Option Block)) (at : ℕ) (b : Block) → AreOnShelf v n seen → inside ≡ seen → slots ≡ inside
    → slice_get slots at ≡ Some (Some b) → Covers v n b
shelf_found v n seen inside slots at b are view same there = are at b (ap (λ (xs : List (Option Block)). slice_get xs at) (sym (same ∙ view)) ∙ there)
