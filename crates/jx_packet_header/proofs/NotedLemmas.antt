-- The layers to which some block contributes, noted block by block.
use Rattle.std.proofs.Common.{◌≡◌, ℕ, ◌+◌, ◌<◌, ◌≤◌, ◌||◌, nat_lt, Bool, false, List, ◌∷◌, length, get_or, drop, replicate, map, sym, ap, ◌∙◌, subst, add-one}
use Rattle.std.proofs.Math.Bool.{or_assoc}
use Rattle.std.proofs.Math.ListN.{drop_of_length-le}
use Rattle.std.proofs.Math.Seq.{drop-cons}
use Rattle.std.proofs.lemmas.List.{get_or-replicate}
use Rattle.jx_packet_header.specs.declared.Leaf.{Leaf}
use Rattle.jx_packet_header.specs.declared.LeafPart.{LeafPart}
use Rattle.jx_packet_header.specs.Leafs.{leaf_of}
use Rattle.jx_packet_header.specs.Written.{parts_in, passes_of, some_in}
use Rattle.jx_base.proofs.Tests.{or_false}

-- none is noted at first
pub noted_none : (layers layer : ℕ) (some : List Bool) (all : Bool) → some ≡ replicate layers false → layer < layers → (get_or some layer false || all) ≡ all
noted_none layers layer some all e lt =
    ap (λ (b : Bool). b || all) (ap (λ (list : List Bool). get_or list layer false) e ∙ get_or-replicate layers layer false false lt)

-- one block more
pub noted_next : (layer i : ℕ) (leaves : List Leaf) (leaf : Leaf) (parts : List LeafPart) (before after all : Bool) → i < length leaves
    → leaf ≡ get_or leaves i leaf → parts ≡ leaf.parts.items → after ≡ (before || nat_lt 0 (passes_of (parts_in layer parts)))
    → (before || some_in layer (map leaf_of (drop i leaves))) ≡ all → (after || some_in layer (map leaf_of (drop (i + 1) leaves))) ≡ all
noted_next layer i leaves leaf parts before after all lt is same e h =
    let rest : Bool = some_in layer (map leaf_of (drop (i + 1) leaves)) in
    let cut : drop i leaves ≡ leaf ∷ drop (i + 1) leaves = rw add-one (drop-cons leaves i leaf lt) ∙ ap (λ (x : Leaf). x ∷ drop (i + 1) leaves) (sym is) in
    let now : (before || (nat_lt 0 (passes_of (parts_in layer leaf.parts.items)) || rest)) ≡ all =
    subst (λ (list : List Leaf). (before || some_in layer (map leaf_of list)) ≡ all) cut h in
    let own : after ≡ (before || nat_lt 0 (passes_of (parts_in layer leaf.parts.items))) =
    e ∙ ap (λ (list : List LeafPart). before || nat_lt 0 (passes_of (parts_in layer list))) same in
    ap (λ (b : Bool). b || rest) own ∙ (or_assoc before (nat_lt 0 (passes_of (parts_in layer leaf.parts.items))) rest ∙ now)

-- all are
pub noted_all : (layer i : ℕ) (leaves : List Leaf) (before all : Bool) → length leaves ≤ i → (before || some_in layer (map leaf_of (drop i leaves))) ≡ all → before ≡ all
noted_all layer i leaves before all done h =
    sym (or_false before) ∙ (sym (ap (λ (list : List Leaf). before || some_in layer (map leaf_of list)) (drop_of_length-le leaves done)) ∙ h)
