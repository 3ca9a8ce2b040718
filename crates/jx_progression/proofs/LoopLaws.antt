-- The order of a tile's packets is what the loops of its entries run through.
use Rattle.std.proofs.Common.{◌≡◌, ℕ, zero, suc, ◌==◌, Bool, true, false, ◌&&◌, ◌||◌, not, List, [], ◌∷◌, ◌++◌, inl, inr, refl, ap, sym, subst, length, take, drop}
use Rattle.std.proofs.lemmas.List.Kept.{AllPairs-filter}
use Rattle.std.proofs.Math.Seq.{take-append_seam, drop-append_seam}
use Rattle.std.specs.List.{Contains}
use Rattle.std.proofs.lemmas.Bool.{and_parts, eqb-true, or_cases, or_right, eq-eqb}
use Rattle.jx_base.proofs.Lists.{contains_cons, contains_head, contains_tail, contains_none}
use Rattle.jx_geom.specs.Geometry.{Geometry, GeometryInRange}
use Rattle.jx_marker.specs.declared.Progression.{Progression}
use Rattle.jx_progression.specs.declared.names.PacketName.{PacketName}
use Rattle.jx_progression.specs.Orders.{ComesBefore, order_of}
use Rattle.jx_progression.specs.Packets.{Sends, IsOrder, entry_at}
use Rattle.jx_progression.specs.Loops.{loops, is_same, was_sent, sent_by, all_loops}
use Rattle.jx_progression.proofs.OrderLemmas.{same_fields, one_order}
use Rattle.jx_progression.proofs.NestLemmas.{kept_to, kept_from}
use Rattle.jx_progression.proofs.MemberLemmas.{is_packet, is_covered, in_loops}
use Rattle.jx_progression.proofs.OrderCases.{loops_from, loops_has, loops_sorted}

-- ---- what was sent
same_to : (p q : PacketName) → is_same p q ≡ true → p ≡ q
same_to p q h =
    let a = and_parts (p.layer == q.layer) ((p.res == q.res) && ((p.comp == q.comp) && (p.precinct == q.precinct))) h in
    let b = and_parts (p.res == q.res) ((p.comp == q.comp) && (p.precinct == q.precinct)) a.1 in
    let c = and_parts (p.comp == q.comp) (p.precinct == q.precinct) b.1 in
    same_fields p q (eqb-true p.layer q.layer a.0) (eqb-true p.res q.res b.0) (eqb-true p.comp q.comp c.0) (eqb-true p.precinct q.precinct c.1)

same_refl : (p : PacketName) → is_same p p ≡ true
same_refl p =
    let l = eq-eqb p.layer p.layer refl in
    let r = eq-eqb p.res p.res refl in
    let c = eq-eqb p.comp p.comp refl in
    let k = eq-eqb p.precinct p.precinct refl in
    rw (l, r, c, k) refl

sent_to : (before : List PacketName) (p : PacketName) → was_sent before p ≡ true → Contains before p
sent_to [] p h = absurd cc
sent_to (q ∷ before) p h = elim (or_cases (is_same q p) (was_sent before p) h) [
  | inl same ↦ subst (λ (x : PacketName). Contains (q ∷ before) x) (same_to q p same) (contains_head q before)
  | inr rest ↦ contains_tail q before p (sent_to before p rest)
]

sent_from : (before : List PacketName) (p : PacketName) → Contains before p → was_sent before p ≡ true
sent_from [] p h = absurd (contains_none p h)
sent_from (q ∷ before) p h = elim (contains_cons q before p h) [
  | inl same ↦ subst (λ (x : PacketName). was_sent (q ∷ before) x ≡ true) same (ap (λ (b : Bool). b || was_sent before q) (same_refl q))
  | inr rest ↦ or_right (is_same q p) (was_sent before p) (sent_from before p rest)
]

not_true : (b : Bool) → not b ≡ true → b ≡ true → ⊥
not_true true h k = cc
not_true false h k = cc

not_from : (b : Bool) → (b ≡ true → ⊥) → not b ≡ true
not_from true h = absurd (h refl)
not_from false h = refl

-- ---- an entry
pub loops_sent : (g : Geometry) (layers : ℕ) (e : Progression) (before : List PacketName) → GeometryInRange g → Sends g layers e before (sent_by g layers e before)
loops_sent g layers e before range =
    let o = order_of e.order in
    record {
      exact = λ p. (
        λ h. (
            let k = kept_to (λ (q : PacketName). not (was_sent before q)) (loops g layers e o) p h in
            let i = loops_has g layers e o range p k.0 in
            (is_packet g layers e p i, is_covered g layers e p i, λ old. not_true (was_sent before p) k.1 (sent_from before p old))),
        λ h. kept_from (λ (q : PacketName). not (was_sent before q)) (loops g layers e o) p (loops_from g layers e o range p (in_loops g layers e p h.0 h.1))
            (not_from (was_sent before p) (λ t. h.2 (sent_to before p t))),
      );
      sorted = AllPairs-filter (ComesBefore g o) (λ (q : PacketName). not (was_sent before q)) (loops g layers e o) (loops_sorted g layers e o range);
    }

-- ---- all entries
pub loops_order : (g : Geometry) (layers : ℕ) (entries : List Progression) (n : ℕ) → GeometryInRange g → IsOrder g layers entries n (all_loops g layers entries n)
loops_order g layers entries zero range = refl
loops_order g layers entries (suc n) range =
    let front = all_loops g layers entries n in
    let back = sent_by g layers (entry_at entries n) front in
    let first : take (length front) (front ++ back) ≡ front = take-append_seam front back in
    let second : drop (length front) (front ++ back) ≡ back = drop-append_seam front back in (
      length front,
      subst (λ (xs : List PacketName). IsOrder g layers entries n xs) (sym first) (loops_order g layers entries n range),
      subst (λ (xs : List PacketName). Sends g layers (entry_at entries n) xs (drop (length front) (front ++ back))) (sym first)
          (subst (λ (ys : List PacketName). Sends g layers (entry_at entries n) front ys) (sym second) (loops_sent g layers (entry_at entries n) front range)),
    )

pub order_is_loops : (g : Geometry) (layers : ℕ) (entries : List Progression) (n : ℕ) (list : List PacketName) → GeometryInRange g → IsOrder g layers entries n list → list ≡ all_loops g layers entries n
order_is_loops g layers entries n list range h = one_order g layers entries n list (all_loops g layers entries n) h (loops_order g layers entries n range)
