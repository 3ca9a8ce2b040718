-- The table of the layers that were sent, and one more entry.
use Rattle.std.proofs.Common.{◌≡◌, ℕ, suc, ◌+◌, ◌≤◌, ◌<◌, List, ◌++◌, inl, inr, ◌∙◌, ap, sym, subst, add-one, arith, max, length, take, drop, slice_index}
use Rattle.std.proofs.lemmas.Bool.{cases_lt}
use Rattle.std.proofs.lemmas.List.{take-append-drop}
use Rattle.std.proofs.lemmas.List.Elements.{Contains-append_left, Contains-append_right, Contains-append_cases}
use Rattle.std.proofs.Math.Seq.{take-append_seam, drop-append_seam}
use Rattle.std.specs.List.{Contains}
use Rattle.jx_geom.specs.Geometry.{Geometry}
use Rattle.jx_marker.specs.declared.Progression.{Progression}
use Rattle.jx_progression.specs.declared.names.PacketName.{PacketName}
use Rattle.jx_progression.specs.Packets.{AreCovered, Covers, IsOrder, IsPacketName, Sends, entry_at}
use Rattle.jx_progression.specs.Steps.{IsMarked, IsTable, Lists, row_end, row_of, sent_at}
use Rattle.jx_progression.proofs.OrderLemmas.{order_from}
use Rattle.jx_progression.proofs.RowLemmas.{end_from, end_to, index_of, packet_row}

-- ---- an entry that covers a packet goes past its layer, and back
goes_past : (g : Geometry) (layers : ℕ) (e : Progression) (p : PacketName) → IsPacketName g layers p → Covers e p
    → p.layer < row_end layers e (row_of g (index_of g p.comp p.res))
goes_past g layers e p packet covers =
    let row = packet_row g layers p packet in
    end_from layers p.layer e (row_of g (index_of g p.comp p.res)) (record {
      some = omega (arith, row.precinct);
      comp_from = omega (arith, covers.comp_from, row.comp);
      comp_below = elim covers.comp_below [ inl none ↦ inl none | inr less ↦ inr (omega (arith, row.comp)) ];
      res_from = omega (arith, covers.res_from, row.res);
      res_below = omega (arith, covers.res_below, row.res);
      entry = covers.layer;
      layer = packet.layer;
    })

past_covers : (g : Geometry) (layers : ℕ) (e : Progression) (p : PacketName) → IsPacketName g layers p
    → p.layer < row_end layers e (row_of g (index_of g p.comp p.res)) → Covers e p
past_covers g layers e p packet lt =
    let row = packet_row g layers p packet in
    let end = end_to layers p.layer e (row_of g (index_of g p.comp p.res)) lt in
    record {
      layer = end.entry;
      res_from = omega (arith, end.res_from, row.res);
      res_below = omega (arith, end.res_below, row.res);
      comp_from = omega (arith, end.comp_from, row.comp);
      comp_below = elim end.comp_below [ inl none ↦ inl none | inr less ↦ inr (omega (arith, row.comp)) ];
    }

-- ---- one more entry
pub sends_from : (g : Geometry) (layers : ℕ) (e : Progression) (sent : List ℕ) (before next : List PacketName)
    → IsTable g layers before sent → Lists g layers e sent next → Sends g layers e before next
sends_from g layers e sent before next table lists = record {
  exact = λ p. (
    λ h. (let l = (lists.exact p).0 h in
        let unsent : sent_at g sent p.comp p.res ≤ p.layer = l.2 in
        (l.0, l.1, λ there. (let less = (table p l.0).1 there in omega arith))),
    λ h. elim (cases_lt p.layer (sent_at g sent p.comp p.res)) [
      | inl less ↦ absurd (h.2 ((table p h.0).0 less))
      | inr ge ↦ (lists.exact p).1 (h.0, h.1, ge)
    ],
  );
  sorted = lists.sorted;
}

pub order_next : (g : Geometry) (layers : ℕ) (entries : List Progression) (n : ℕ) (old new : List PacketName) → IsOrder g layers entries n old
    → take (length old) new ≡ old → Sends g layers (entry_at entries n) old (drop (length old) new) → IsOrder g layers entries (n + 1) new
order_next g layers entries n old new h front s =
    let P : List PacketName → Type 0 = λ l. IsOrder g layers entries n l in
    let Q : List PacketName → Type 0 = λ l. Sends g layers (entry_at entries n) l (drop (length old) new) in
    let both : IsOrder g layers entries (suc n) new = (length old, subst P (sym front) h, subst Q (sym front) s) in
    rw add-one both

pub table_next : (g : Geometry) (layers : ℕ) (e : Progression) (sent now : List ℕ) (old new : List PacketName) → take (length old) new ≡ old
    → IsTable g layers old sent → Lists g layers e sent (drop (length old) new) → IsMarked g layers e sent now → IsTable g layers new now
table_next g layers e sent now old new front table lists marked p packet =
    let row = packet_row g layers p packet in
    let value : sent_at g now p.comp p.res ≡ max (sent_at g sent p.comp p.res) (row_end layers e (row_of g (index_of g p.comp p.res))) =
    marked (index_of g p.comp p.res) row.below in
    let C : List PacketName → Type 0 = λ xs. Contains xs p in
    let whole : take (length old) new ++ drop (length old) new ≡ new = take-append-drop (length old) new in (
      λ less. subst C whole (elim (cases_lt p.layer (sent_at g sent p.comp p.res)) [
        | inl before ↦
            Contains-append_left (take (length old) new) (drop (length old) new) p (subst C (sym front) ((table p packet).0 before))
        | inr ge ↦
            let past : p.layer < row_end layers e (row_of g (index_of g p.comp p.res)) = omega arith in
            Contains-append_right (take (length old) new) (drop (length old) new) p ((lists.exact p).1 (packet, past_covers g layers e p packet past, ge))
      ]),
      λ there. elim (Contains-append_cases (take (length old) new) (drop (length old) new) p (subst C (sym whole) there)) [
        | inl here ↦
            let less : p.layer < sent_at g sent p.comp p.res = (table p packet).1 (subst C front here) in
            omega arith
        | inr next ↦
            let l = (lists.exact p).0 next in
            let past = goes_past g layers e p packet l.1 in
            omega arith
      ],
    )

-- ---- at the end
pub all_there : (g : Geometry) (layers : ℕ) (entries : List Progression) (list : List PacketName) → IsOrder g layers entries (length entries) list
    → AreCovered g layers entries → (p : PacketName) → IsPacketName g layers p → Contains list p
all_there g layers entries list order all p packet =
    let c = all p packet in
    order_from g layers entries (length entries) list order p (record { packet = packet; entry = c.0; below = c.1; covers = c.2 })

-- what is appended
pub front_is : (old new next : List PacketName) → new ≡ old ++ next → take (length old) new ≡ old
front_is old new next e = ap (λ (l : List PacketName). take (length old) l) e ∙ take-append_seam old next

pub back_is : (old new next : List PacketName) → new ≡ old ++ next → drop (length old) new ≡ next
back_is old new next e = ap (λ (l : List PacketName). drop (length old) l) e ∙ drop-append_seam old next
