-- The blocks of a tape's entries.
use Rattle.std.proofs.Common.{◌≡◌, ◌∙◌, ◌<◌, ◌+◌, ℕ, List, [], ◌∷◌, ◌++◌, length, map, drop, refl, sym, ap, subst}
use Rattle.std.specs.Borrow.{Bor}
use Rattle.std.specs.Prelude.{slice_index_or}
use Rattle.std.proofs.lemmas.List.{append_assoc, drop_more, map-append}
use Rattle.std.proofs.lemmas.Simd.{map-map}
use Rattle.jx_codeblock.specs.Recoded.{WrittenBlock}
use Rattle.jx_store.specs.declared.event.Taped.{Taped}
use Rattle.jx_store.specs.declared.work.Named.{Named}
use Rattle.jx_store.specs.declared.work.Named.TheVariants.{Made, Bad, Short}
use Rattle.jx_tier2_writer.specs.Tile.{IsMade, block_written, made_before, made_in}

abbrev pub Entry : Type 0
Entry = Taped (Named WrittenBlock)

abbrev pub lent : Bor WrittenBlock → WrittenBlock
lent r = r.now

-- the block of the next entry is lent
pub lent_next : (blocks more : List (Bor WrittenBlock)) (r : Bor WrittenBlock) (entries : List Entry) (i : ℕ) (t : Entry) → more ≡ blocks ++ r ∷ [] → i < length entries
    → t ≡ slice_index_or entries i t → t.named ≡ Made (lent r) → map lent blocks ++ made_in (drop i entries) ≡ made_in entries → map lent more ++ made_in (drop (i + 1) entries) ≡ made_in entries
lent_next blocks more r entries i t e lt is named done =
    let rest : List WrittenBlock = made_in (drop (i + 1) entries) in
    let next : drop i entries ≡ t ∷ drop (i + 1) entries = drop_more entries i t lt ∙ ap (λ (x : Entry). x ∷ drop (i + 1) entries) (sym is) in
    let first : made_in (drop i entries) ≡ lent r ∷ rest = ap made_in next ∙ ap (λ (n : Named WrittenBlock). made_before n rest) named in
    ap (λ (xs : List WrittenBlock). xs ++ rest) (ap (map lent) e ∙ map-append lent blocks (r ∷ []))
    ∙ append_assoc (map lent blocks) (lent r ∷ []) rest
    ∙ ap (λ (xs : List WrittenBlock). map lent blocks ++ xs) (sym first)
    ∙ done

-- blocks that are lent are those that they are
pub lent_blocks : (blocks : List (Bor WrittenBlock)) (values : List WrittenBlock) → map lent blocks ≡ values → map (λ (r : Bor WrittenBlock). block_written r.now) blocks ≡ map block_written values
lent_blocks blocks values e = sym (map-map block_written lent blocks) ∙ ap (map block_written) e

-- ---- an entry more
before_append : (n : Named WrittenBlock) (xs ys : List WrittenBlock) → made_before n (xs ++ ys) ≡ made_before n xs ++ ys
before_append (Made r) xs ys = refl
before_append (Bad number) xs ys = refl
before_append (Short number) xs ys = refl

last_made : (entries : List Entry) (t : Entry) (r : WrittenBlock) → t.named ≡ Made r → made_in (entries ++ t ∷ []) ≡ made_in entries ++ r ∷ []
last_made [] t r e = ap (λ (n : Named WrittenBlock). made_before n []) e
last_made (x ∷ entries) t r e = ap (made_before x.named) (last_made entries t r e) ∙ before_append x.named (made_in entries) (r ∷ [])

pub made_more : (entries more : List Entry) (t : Entry) (r : WrittenBlock) → more ≡ entries ++ t ∷ [] → t.named ≡ Made r → made_in more ≡ made_in entries ++ r ∷ []
made_more entries more t r e named = ap made_in e ∙ last_made entries t r named

pub is_made : (t : Entry) (r : WrittenBlock) → t.named ≡ Made r → IsMade t.named
is_made t r e = subst IsMade (sym e) tt
