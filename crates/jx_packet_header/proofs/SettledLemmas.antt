-- Blocks that are settled once a packet has included them, and blocks of which a header has no bits.
use Rattle.std.proofs.Common.{◌≡◌, ◌≢◌, ℕ, ◌+◌, Bool, true, false, refl, sym, ap, ◌∙◌, cond, Some, None, inl, inr}
use Rattle.std.specs.Prelude.{Option}
use Rattle.std.proofs.lemmas.Bool.{cases_eq}
use Rattle.std.proofs.lemmas.List.{get_or-set_other}
use Rattle.jx_tagtree.specs.TagTree.{Tree, node_at, ValuesOf}
use Rattle.jx_tagtree.specs.Past.{IsPast}
use Rattle.jx_tagtree.proofs.QuestionLemmas.{settled_stays, past_stays}
use Rattle.jx_packet_header.specs.declared.known.Known.{Known}
use Rattle.jx_packet_header.specs.Packet.{Cells, Values, Entry, contributes, block_at, block_after, unknown_block, zero_planes, first_after, IsInclusion, cells_first, cells_included, IsEntry, entry_after}
use Rattle.jx_packet_header.specs.Kept.{IsLeafOf, AreSettled, IsSilent}
use Rattle.jx_packet_header.proofs.AskLemmas.{query_settles}

first_settled : (known : Option ℕ) (values : ℕ → ℕ) (tree : Tree) (leaf layer q : ℕ) → (node_at tree.nodes q).settled ≡ true → (node_at (first_after known values tree leaf layer).nodes q).settled ≡ true
first_settled None values tree leaf layer q s = settled_stays tree values leaf (layer + 1) q s
first_settled (Some z) values tree leaf layer q s = s

pub first_unsettled : (known : Option ℕ) (values : ℕ → ℕ) (tree : Tree) (leaf layer q : ℕ) → (node_at (first_after known values tree leaf layer).nodes q).settled ≡ false → (node_at tree.nodes q).settled ≡ false
first_unsettled known values tree leaf layer q un = by (node_at tree.nodes q).settled refl
  where
    by : (b : Bool) → (node_at tree.nodes q).settled ≡ b → b ≡ false
    by false e = refl
    by true e = sym (first_settled known values tree leaf layer q e) ∙ un

pub first_past : (known : Option ℕ) (values : ℕ → ℕ) (tree : Tree) (leaf other layer : ℕ) → IsPast tree other (layer + 1) → IsPast (first_after known values tree leaf layer) other (layer + 1)
first_past None values tree leaf other layer p = past_stays tree values other leaf (layer + 1) p
first_past (Some z) values tree leaf other layer p = p

-- a block that is included is settled
included_settled : (known : Option ℕ) (values : ℕ → ℕ) (tree : Tree) (leaf layer : ℕ) → IsLeafOf tree leaf → ValuesOf tree values → ((node_at tree.nodes leaf).settled ≡ false → known ≡ None) →
    IsInclusion known values leaf layer true → (node_at (first_after known values tree leaf layer).nodes leaf).settled ≡ true
included_settled None values tree leaf layer l v none is = query_settles tree values leaf (layer + 1) l v is
included_settled (Some z) values tree leaf layer l v none is = by (node_at tree.nodes leaf).settled refl
  where
    by : (b : Bool) → (node_at tree.nodes leaf).settled ≡ b → b ≡ true
    by true e = refl
    by false e = absurd (let x : Some z ≡ None = none e in cc)

pub entry_settled : (v : Values) (style layer block leaf : ℕ) (cells : Cells) (e : Entry) → IsLeafOf cells.first leaf → ValuesOf cells.first v.first → AreSettled cells →
    IsEntry v style layer block leaf cells e → AreSettled (entry_after v layer leaf cells e)
entry_settled v style layer block leaf cells e l vals all is = by (contributes e) is.first
  where
    kept : (q : ℕ) → (node_at (first_after (block_at cells leaf).zero v.first cells.first leaf layer).nodes q).settled ≡ false → (block_at cells q).zero ≡ None
    kept q un = all q (first_unsettled (block_at cells leaf).zero v.first cells.first leaf layer q un)

    by : (c : Bool) → IsInclusion (block_at cells leaf).zero v.first leaf layer c → AreSettled (cond c (cells_included v leaf (cells_first v layer leaf cells) e) (cells_first v layer leaf cells))
    by false i = λ q un. kept q un
    by true i = λ q un. elim (cases_eq q leaf) [
      | inl same ↦ absurd (
          let here : (node_at (first_after (block_at cells leaf).zero v.first cells.first leaf layer).nodes leaf).settled ≡ true =
          included_settled (block_at cells leaf).zero v.first cells.first leaf layer l vals (all leaf) i in
          let x : true ≡ false = sym here ∙ ap (λ (n : ℕ). (node_at (first_after (block_at cells leaf).zero v.first cells.first leaf layer).nodes n).settled) (sym same) ∙ un in
          cc)
      | inr ne ↦
          ap (λ (k : Known). k.zero) (get_or-set_other cells.blocks leaf q (block_after (block_at cells leaf) (zero_planes (block_at cells leaf).zero v.zeros leaf) e) unknown_block ne)
          ∙ kept q un
    ]

-- a block of which a header has no bits stays so while the others are told
pub entry_silent : (v : Values) (layer leaf other : ℕ) (cells : Cells) (e : Entry) → other ≢ leaf → IsSilent layer cells other → IsSilent layer (entry_after v layer leaf cells e) other
entry_silent v layer leaf other cells e ne s = by (contributes e)
  where
    past : IsPast (first_after (block_at cells leaf).zero v.first cells.first leaf layer) other (layer + 1)
    past = first_past (block_at cells leaf).zero v.first cells.first leaf other layer s.past

    by : (c : Bool) → IsSilent layer (cond c (cells_included v leaf (cells_first v layer leaf cells) e) (cells_first v layer leaf cells)) other
    by false = record { none = s.none; past = past }
    by true = record {
      none = ap (λ (k : Known). k.zero) (get_or-set_other cells.blocks leaf other (block_after (block_at cells leaf) (zero_planes (block_at cells leaf).zero v.zeros leaf) e) unknown_block ne) ∙ s.none;
      past = past;
    }
