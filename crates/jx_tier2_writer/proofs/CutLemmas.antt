-- A tile's tile-parts one after another: what is written so far, and what is still to come.
use Rattle.std.proofs.Common.{◌≡◌, ◌∙◌, ℕ, ◌+◌, ◌-◌, ◌<◌, ◌≤◌, List, [], ◌∷◌, ◌++◌, length, map, drop, take, refl, sym, ap, subst, arith, append-nil, append_assoc, Result, Ok, Err}
use Rattle.std.proofs.lemmas.List.Elements.{All-cons, All-head, All-nil, All-tail}
use Rattle.jx_base.specs.declared.pieces.Block.{Block}
use Rattle.jx_geom.specs.Geometry.{Geometry}
use Rattle.jx_progression.specs.declared.names.PacketName.{PacketName}
use Rattle.jx_codestream.specs.declared.Stream.{Stream}
use Rattle.jx_codestream.specs.Spells.{TilePart, part_bytes}
use Rattle.jx_options.specs.declared.Marks.{Marks}
use Rattle.jx_tile_parts.specs.Groups.{groups_of, more_groups}
use Rattle.jx_tile_parts.proofs.GroupLemmas.{more_cut, none_left, part_length}
use Rattle.jx_tier2_writer.specs.Packed.{own_part, own_parts, packed_parts_from}
use Rattle.jx_tier2_writer.specs.Tile.{AreAtMost}

abbrev IsAtMost : ℕ → TilePart → Type 0
IsAtMost most p = p.sot.psot ≤ most

-- the bytes of the tile-parts before a packet, and what is known of those from it on
pub record IsCut (m : Marks) (s : Stream) (g : Geometry) (own : List Block) (names : List PacketName) (most count part from : ℕ) (done : List (List ℕ)) : Type 0 where
  pub bytes : done ++ map (part_bytes (length s.siz.comps)) (packed_parts_from m s g own part count from (more_groups m.parts (drop from names)))
      ≡ map (part_bytes (length s.siz.comps)) (own_parts m s g own names)
  pub short : AreAtMost most (packed_parts_from m s g own part count from (more_groups m.parts (drop from names))) → AreAtMost most (own_parts m s g own names)
  pub long : AreAtMost most (own_parts m s g own names) → AreAtMost most (packed_parts_from m s g own part count from (more_groups m.parts (drop from names)))

module _ (m : Marks) (s : Stream) (g : Geometry) (own : List Block) (names : List PacketName) (most count : ℕ) where
  abbrev bytes_of : TilePart → List ℕ
  bytes_of = part_bytes (length s.siz.comps)

  abbrev all : List TilePart
  all = own_parts m s g own names

  abbrev rest : ℕ → ℕ → List TilePart
  rest part from = packed_parts_from m s g own part count from (more_groups m.parts (drop from names))

  -- the tile-part that begins at a packet
  abbrev here : ℕ → ℕ → ℕ → TilePart
  here part from end = own_part m s g own part count from (take (end - from) (drop from names))

  rest_next : (part from end : ℕ) → from < end → end ≤ length names
      → groups_of m.parts (drop from names) ≡ take (end - from) (drop from names) ∷ more_groups m.parts (drop end names)
      → rest part from ≡ here part from end ∷ rest (part + 1) end
  rest_next part from end low high cut =
      ap (packed_parts_from m s g own part count from) (more_cut m.parts names from end (omega arith) cut)
      ∙ ap (λ (n : ℕ). here part from end ∷ packed_parts_from m s g own (part + 1) count n (more_groups m.parts (drop end names))) (part_length names from end (omega arith) high)

  -- behind the last
  rest_none : (part from : ℕ) → length names ≤ from → rest part from ≡ []
  rest_none part from over = ap (packed_parts_from m s g own part count from) (none_left m.parts names from over)

  pub cut_whole : (part from : ℕ) (done : List (List ℕ)) → length names ≤ from → IsCut m s g own names most count part from done → done ≡ map bytes_of all
  cut_whole part from done over is =
      sym (append-nil done) ∙ ap (λ (ps : List TilePart). done ++ map bytes_of ps) (sym (rest_none part from over)) ∙ is.bytes

  pub cut_short : (part from : ℕ) (done : List (List ℕ)) → length names ≤ from → IsCut m s g own names most count part from done → AreAtMost most all
  cut_short part from done over is = is.short (subst (AreAtMost most) (sym (rest_none part from over)) (All-nil (IsAtMost most)))

  pub cut_next : (part from end next : ℕ) (done more : List (List ℕ)) (bytes : List ℕ) → from < end → end ≤ length names
      → groups_of m.parts (drop from names) ≡ take (end - from) (drop from names) ∷ more_groups m.parts (drop end names)
      → IsCut m s g own names most count part from done → bytes ≡ bytes_of (here part from end) → (here part from end).sot.psot ≤ most → more ≡ done ++ bytes ∷ [] → next ≡ part + 1
      → IsCut m s g own names most count next end more
  cut_next part from end next done more bytes low high cut is made few put counted =
      let split : rest part from ≡ here part from end ∷ rest (part + 1) end = rest_next part from end low high cut in
      let P : ℕ → Type 0 = λ n. IsCut m s g own names most count n end more in
      subst P (sym counted) (record {
        bytes =
            ap (λ (xs : List (List ℕ)). xs ++ map bytes_of (rest (part + 1) end)) (put ∙ ap (λ (b : List ℕ). done ++ b ∷ []) made)
            ∙ append_assoc done (bytes_of (here part from end) ∷ []) (map bytes_of (rest (part + 1) end))
            ∙ ap (λ (xs : List TilePart). done ++ map bytes_of xs) (sym split) ∙ is.bytes;
        short = λ later. is.short (subst (AreAtMost most) (sym split) (All-cons (IsAtMost most) (here part from end) (rest (part + 1) end) few later));
        long = λ whole. All-tail (IsAtMost most) (here part from end) (rest (part + 1) end) (subst (AreAtMost most) split (is.long whole));
      })

  -- one that is too long
  pub cut_long : (part from end : ℕ) (done : List (List ℕ)) → from < end → end ≤ length names
      → groups_of m.parts (drop from names) ≡ take (end - from) (drop from names) ∷ more_groups m.parts (drop end names)
      → IsCut m s g own names most count part from done → most < (here part from end).sot.psot → AreAtMost most all → ⊥
  cut_long part from end done low high cut is more whole =
      let few : IsAtMost most (here part from end) =
      All-head (IsAtMost most) (here part from end) (rest (part + 1) end) (subst (AreAtMost most) (rest_next part from end low high cut) (is.long whole)) in
      omega arith

-- ---- a tile without packets
module _ (m : Marks) (s : Stream) (g : Geometry) (own : List Block) (names : List PacketName) (none : names ≡ []) where
  abbrev empty : TilePart
  empty = own_part m s g own 0 1 0 names

  pub empty_parts : own_parts m s g own names ≡ empty ∷ []
  empty_parts =
      let P : List PacketName → Type 0 = λ xs. own_parts m s g own xs ≡ own_part m s g own 0 1 0 xs ∷ [] in
      subst P (sym none) refl

  pub empty_long : (most : ℕ) → most < empty.sot.psot → AreAtMost most (own_parts m s g own names) → ⊥
  empty_long most more whole =
      let few : IsAtMost most empty = All-head (IsAtMost most) empty [] (subst (AreAtMost most) empty_parts whole) in
      omega arith

-- ---- the fault of a call within
abbrev fault_of : {T E : Type 0} → E → Result T E → E
fault_of e (Ok x) = e
fault_of e (Err f) = f

pub same_fault : {T U E : Type 0} (r : Result T E) (e f : E) → r ≡ Err e → ◌≡◌ {A = Result U E} (Err e) (Err f) → r ≡ Err f
same_fault {T} {U} {E} r e f is same = is ∙ ap (λ (q : Result U E). Err (fault_of e q)) same
