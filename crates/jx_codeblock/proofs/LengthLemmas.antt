-- How many bytes a block has that is coded anew.
use Rattle.std.proofs.Common.{◌≡◌, ℕ, zero, suc, ◌+◌, ◌*◌, ◌%◌, ◌≤◌, ◌==◌, ◌&&◌, ◌||◌, not, nat_le, Bool, true, false, List, [], ◌∷◌, ◌++◌, inl, inr, ap, sym, ◌∙◌, subst, refl, arith, length, length-append, Some, if◌then◌else◌}
use Rattle.std.specs.List.{concat}
use Rattle.std.proofs.lemmas.Bool.{cases_Bool, cases_eq, cond-true, cond-false}
use Rattle.jx_base.specs.declared.pieces.Block.{Block}
use Rattle.jx_base.specs.declared.style.Style.{Style}
use Rattle.jx_base.specs.Passes.{bypasses, end_pass, raw_pass}
use Rattle.jx_base.specs.Sound.{IsSound}
use Rattle.jx_coder_specs.specs.MqTable.{MqContexts, mq_fresh}
use Rattle.jx_coder_specs.specs.MqWriting.{MqGiven, Decided, Renewed, mq_bits}
use Rattle.jx_mq.specs.Pace.{spared_in}
use Rattle.jx_mq.proofs.Pace.{fresh_spares_none, short_segment as mq_short}
use Rattle.jx_raw.proofs.Lengths.{short_segment as raw_short}
use Rattle.jx_tier1_specs.specs.Cells.{Cells}
use Rattle.jx_tier1_specs.specs.Needs.{contexts_after, is_last, needs, renewed_by, segment_of, segments_from, written}
use Rattle.jx_tier1_specs.specs.Reading.{Coding, zeros}
use Rattle.jx_tier1_specs.proofs.KindLemmas.{same_kind}
use Rattle.jx_tier1_specs.proofs.WroteLemmas.{or_false}
use Rattle.jx_codeblock.specs.declared.LayerEnd.{LayerEnd}
use Rattle.jx_codeblock.specs.Jobs.{IsAsked}
use Rattle.jx_codeblock.specs.Recoding.{Recoding, recoding, coding_in, decoded_in, own_segments}
use Rattle.jx_codeblock.proofs.AnewLemmas.{anew, is_anew}
use Rattle.jx_codeblock.proofs.CoefLemmas.{own_cells_size}
use Rattle.jx_codeblock.proofs.FewLemmas.{AllFew, needs_few}
use Rattle.jx_codeblock.proofs.WrittenLemmas.{needs_long, none_written}
use Rattle.jx_base.specs.Limits.{most_bytes}

-- ---- a segment
bits_long : (given : List MqGiven) → length (mq_bits given) ≤ length given
bits_long [] = omega arith
bits_long (Decided label bit ∷ given) = let a = bits_long given in omega arith
bits_long (Renewed ∷ given) = let a = bits_long given in omega arith

renewed_spares : (x : MqContexts) (given : List MqGiven) → spared_in (renewed_by x given).rows ≤ spared_in x.rows
renewed_spares x [] = omega arith
renewed_spares x (Decided label bit ∷ given) = renewed_spares x given
renewed_spares x (Renewed ∷ given) = let a = renewed_spares mq_fresh given in let none = fresh_spares_none in omega arith

-- how many sevenths of a byte a decision takes, beside what those before it have spared
abbrev pub cost : Bool → ℕ
cost raw = if raw then 1 else 6

segment_long : (raw : Bool) (x : MqContexts) (given : List MqGiven) → 7 * length (segment_of raw x given) + spared_in (contexts_after raw x given).rows ≤ cost raw * length given + 14 + spared_in x.rows
segment_long true x given =
    let bits = bits_long given in
    let short = raw_short (mq_bits given) in
    let spares = renewed_spares x given in
    omega arith
segment_long false x given = let short = mq_short x given in omega arith

-- ---- all segments
abbrev costs : ℕ → ℕ → List (List MqGiven) → ℕ
costs style pass [] = 0
costs style pass (given ∷ more) = cost (raw_pass style pass) * length given + costs style (pass + 1) more

parted : (k a b : ℕ) → k * (a + b) ≡ k * a + k * b
parted k a b = grind arith

segments_cost : (style pass : ℕ) (x : MqContexts) (begun : List MqGiven) (lists : List (List MqGiven))
    → 7 * length (concat (segments_from style pass x begun lists)) ≤ cost (raw_pass style pass) * length begun + costs style pass lists + 14 * length lists + spared_in x.rows
unfolding segments_from
segments_cost style pass x begun [] = omega arith
segments_cost style pass x begun (given ∷ more) =
    let all : List MqGiven = begun ++ given in
    let here : List ℕ = segment_of (raw_pass style pass) x all in
    let after : MqContexts = contexts_after (raw_pass style pass) x all in
    let ended : List (List ℕ) = segments_from style (pass + 1) after [] more in
    let goes_on : List (List ℕ) = segments_from style (pass + 1) x all more in
    let each : cost (raw_pass style pass) * length all ≡ cost (raw_pass style pass) * length begun + cost (raw_pass style pass) * length given =
    ap (λ (n : ℕ). cost (raw_pass style pass) * n) (length-append begun given) ∙ parted (cost (raw_pass style pass)) (length begun) (length given) in
    elim (cases_Bool (end_pass style pass || is_last more)) [
      | inl t ↦
          let is : segments_from style pass x begun (given ∷ more) ≡ here ∷ ended = cond-true (end_pass style pass || is_last more) (here ∷ ended) goes_on t in
          let l : length (concat (segments_from style pass x begun (given ∷ more))) ≡ length (here ++ concat ended) = ap (λ (ss : List (List ℕ)). length (concat ss)) is in
          let a = segment_long (raw_pass style pass) x all in
          let b = segments_cost style (pass + 1) after [] more in
          omega (arith, length-append here (concat ended))
      | inr f ↦
          let is : segments_from style pass x begun (given ∷ more) ≡ goes_on = cond-false (end_pass style pass || is_last more) (here ∷ ended) goes_on f in
          let l : length (concat (segments_from style pass x begun (given ∷ more))) ≡ length (concat goes_on) = ap (λ (ss : List (List ℕ)). length (concat ss)) is in
          let kind : raw_pass style (pass + 1) ≡ raw_pass style pass = same_kind style pass (or_false (end_pass style pass) (is_last more) f) in
          let same : cost (raw_pass style (pass + 1)) * length all ≡ cost (raw_pass style pass) * length all = ap (λ (raw : Bool). cost raw * length all) kind in
          let b = segments_cost style (pass + 1) x all more in
          omega arith
    ]

-- of passes of which each has at most 16,389 decisions: those from 10 on that aren't cleanup passes are raw with the bypass (D.6)
abbrev sevenths : Bool → ℕ → ℕ → ℕ
sevenths bypass pass zero = 0
sevenths bypass pass (suc n) = cost (bypass && nat_le 10 pass && not (pass % 3 == 0)) + sevenths bypass (pass + 1) n

cost_most : (raw : Bool) (n : ℕ) → n ≤ 16389 → cost raw * n ≤ 16389 * cost raw
cost_most true n le = omega arith
cost_most false n le = omega arith

costs_few : (style pass : ℕ) (lists : List (List MqGiven)) → AllFew lists → costs style pass lists ≤ 16389 * sevenths (bypasses style) pass (length lists)
costs_few style pass [] few = omega arith
costs_few style pass (given ∷ more) few =
    let a = cost_most (raw_pass style pass) (length given) few.0 in
    let b = costs_few style (pass + 1) more few.1 in
    omega arith

cost_six : (raw : Bool) → cost raw ≤ 6
cost_six true = omega arith
cost_six false = omega arith

sevenths_six : (bypass : Bool) (pass n : ℕ) → sevenths bypass pass n ≤ 6 * n
sevenths_six bypass pass zero = omega arith
sevenths_six bypass pass (suc n) = let a = cost_six (bypass && nat_le 10 pass && not (pass % 3 == 0)) in let b = sevenths_six bypass (pass + 1) n in omega arith

sevenths_more : (bypass : Bool) (pass n m : ℕ) → n ≤ m → sevenths bypass pass n ≤ sevenths bypass pass m
sevenths_more bypass pass zero m le = omega arith
sevenths_more bypass pass (suc n) zero le = absurd (omega arith)
sevenths_more bypass pass (suc n) (suc m) le = let a = sevenths_more bypass (pass + 1) n m (omega arith) in omega arith

-- 18 of 37 passes
sevenths_37 : sevenths true 0 37 ≡ 132
sevenths_37 = refl

written_cost : (c : Coding) (g : Cells) (passes : ℕ) → g.width * g.height ≤ 4096 → 7 * length (concat (written c g passes)) ≤ 16389 * sevenths (bypasses c.style) 0 passes + 14 * passes
written_cost c g passes size =
    let all : List (List MqGiven) = needs c g passes in
    let a = segments_cost c.style 0 mq_fresh [] all in
    let b = costs_few c.style 0 all (needs_few c g passes 0 (zeros g.width g.height) size) in
    let long : length all ≡ passes = needs_long c g passes 0 (zeros g.width g.height) in
    let same : sevenths (bypasses c.style) 0 (length all) ≡ sevenths (bypasses c.style) 0 passes = ap (λ (n : ℕ). sevenths (bypasses c.style) 0 n) long in
    let none = fresh_spares_none in
    omega arith

-- ---- the segments of a block that is coded anew
anew_cost : (b : Block) (style : Style) → IsSound b → 7 * length (concat (anew b style)) ≤ 16389 * sevenths (bypasses style.bits) 0 b.passes + 14 * b.passes
anew_cost b style sound = elim (cases_eq b.passes 0) [
  | inl none ↦ rw (none_written (coding_in b style.bits) (decoded_in b b.style.bits (own_segments b)).cells b.passes none) (omega arith)
  | inr some ↦
      let r = own_cells_size b sound (positive b.passes some) in
      let g : Cells = (decoded_in b b.style.bits (own_segments b)).cells in
      let area : g.width * g.height ≤ 4096 = rw (r.0, r.1) sound.size.most in
      written_cost (coding_in b style.bits) g b.passes area
]
  where
    positive : (n : ℕ) → (n ≡ 0 → ⊥) → 1 ≤ n
    positive zero ne = absurd (ne refl)
    positive (suc n) ne = omega arith

pub anew_few : (b : Block) (style : Style) → IsSound b → length (concat (anew b style)) ≤ most_bytes
anew_few b style sound =
    let each = anew_cost b style sound in
    let most = sevenths_six (bypasses style.bits) 0 b.passes in
    let few : b.passes ≤ 220 = omega (arith, sound.few, sound.planes) in
    omega arith

-- 37 passes are as many as 13 planes have
pub anew_short : (b : Block) (style : Style) → IsSound b → bypasses style.bits ≡ true → b.passes ≤ 37 → length (concat (anew b style)) ≤ 309123
anew_short b style sound bypass few =
    let each : 7 * length (concat (anew b style)) ≤ 16389 * sevenths true 0 b.passes + 14 * b.passes =
    subst (λ (t : Bool). 7 * length (concat (anew b style)) ≤ 16389 * sevenths t 0 b.passes + 14 * b.passes) bypass (anew_cost b style sound) in
    let most = sevenths_more true 0 b.passes 37 few in
    let all = sevenths_37 in
    omega arith

pub anew_bytes : (b : Block) (style : Style) (ends : List LayerEnd) (r : Recoding) → IsAsked b (Some style) ends → Some r ≡ recoding b (Some style) ends → length r.bytes ≤ most_bytes
anew_bytes b style ends r asked e = subst (λ (q : Recoding). length q.bytes ≤ most_bytes) (sym (is_anew b style ends r e).is) (anew_few b style asked.sound)
