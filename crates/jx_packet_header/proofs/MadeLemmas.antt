-- The bands of which no packet was read, made one after the other.
use Rattle.std.proofs.Common.{◌≡◌, ◌∙◌, ◌<◌, ◌≤◌, ◌+◌, ◌==◌, ◌++◌, ◌∷◌, [], ℕ, Bool, true, false, List, add-one, ap, append_assoc, arith, cond, drop, get_or, length, sym}
use Rattle.std.proofs.Math.Seq.{drop-cons}
use Rattle.std.proofs.lemmas.Bool.Decides.{nat_tests}
use Rattle.jx_packet_header.specs.declared.BandCells.{BandCells}
use Rattle.jx_packet_header.specs.Packet.{Cells}
use Rattle.jx_packet_header.specs.Precinct.{fresh_bands, fresh_cells}

cut : (bands : List BandCells) (at : ℕ) (none : BandCells) (made : List Cells) → at < length bands
    → made ++ fresh_bands (drop at bands) ≡ made ++ cond ((get_or bands at none).wide == 0) (fresh_bands (drop (at + 1) bands)) (fresh_cells (get_or bands at none) ∷ fresh_bands (drop (at + 1) bands))
cut bands at none made lt =
    let here : drop at bands ≡ get_or bands at none ∷ drop (at + 1) bands = rw add-one (drop-cons bands at none lt) in
    ap (λ (list : List BandCells). made ++ fresh_bands list) here

-- a band without a block
pub fresh_skip : (bands : List BandCells) (at : ℕ) (none : BandCells) (made new all : List Cells) → at < length bands → (get_or bands at none).wide ≤ 0
    → new ≡ made → made ++ fresh_bands (drop at bands) ≡ all → new ++ fresh_bands (drop (at + 1) bands) ≡ all
fresh_skip bands at none made new all lt le is h =
    let b = get_or bands at none in
    let rest = fresh_bands (drop (at + 1) bands) in
    let empty : (b.wide == 0) ≡ true = grind (arith, nat_tests) in
    ap (λ (list : List Cells). list ++ rest) is ∙ (sym (ap (λ (t : Bool). made ++ cond t rest (fresh_cells b ∷ rest)) empty) ∙ (sym (cut bands at none made lt) ∙ h))

-- one that has some
pub fresh_next : (bands : List BandCells) (at : ℕ) (none : BandCells) (made new all : List Cells) (band : Cells) → at < length bands → 0 < (get_or bands at none).wide
    → band ≡ fresh_cells (get_or bands at none) → new ≡ made ++ band ∷ [] → made ++ fresh_bands (drop at bands) ≡ all → new ++ fresh_bands (drop (at + 1) bands) ≡ all
fresh_next bands at none made new all band lt some same is h =
    let b = get_or bands at none in
    let rest = fresh_bands (drop (at + 1) bands) in
    let full : (b.wide == 0) ≡ false = grind (arith, nat_tests) in
    ap (λ (list : List Cells). list ++ rest) is ∙ (append_assoc made (band ∷ []) rest ∙ (ap (λ (x : Cells). made ++ x ∷ rest) same
    ∙ (sym (ap (λ (t : Bool). made ++ cond t rest (fresh_cells b ∷ rest)) full) ∙ (sym (cut bands at none made lt) ∙ h))))
