-- What a decoder makes of the first layers of a block that is written: the values that its passes have in the end.
use Rattle.std.proofs.Common.{◌≡◌, ℕ, ◌+◌, ◌-◌, ◌<◌, ◌≤◌, ◌==◌, ◌||◌, Bool, true, false, List, [], ◌∷◌, ◌++◌, inl, inr, ◌∙◌, ap, sym, refl, arith, length, take, drop, get_or, Option, Some, None}
use Rattle.std.specs.List.{concat}
use Rattle.std.proofs.lemmas.Bool.{cases_eq, cases_Bool, ne_eqb}
use Rattle.std.proofs.lemmas.List.{append_assoc, length-take-le}
use Rattle.jx_base.specs.declared.pieces.Block.{Block}
use Rattle.jx_base.specs.declared.style.Style.{Style}
use Rattle.jx_base.specs.Passes.{end_pass}
use Rattle.jx_tier1_specs.specs.Reading.{Coding, decoded, read_from}
use Rattle.jx_codeblock.specs.declared.LayerEnd.{LayerEnd}
use Rattle.jx_codeblock.specs.Jobs.{IsAsked}
use Rattle.jx_codeblock.specs.Recoding.{Recoding, new_style, own_segments, recoded_pieces, recoding, sent_in}
use Rattle.jx_codeblock.specs.Segments.{bytes_before, ends_below, less_last_ff, segments_of, sent_by_looks}
use Rattle.jx_codeblock.proofs.AnewLemmas.{anew}
use Rattle.jx_codeblock.proofs.AnewParts.{anew_have, anew_segments, anew_sends}
use Rattle.jx_codeblock.proofs.EarlyLemmas.{cells_front, cut_short, looked_front}
use Rattle.jx_codeblock.proofs.EndLemmas.{below_ended, below_grows, below_still}
use Rattle.jx_codeblock.proofs.FrontLemmas.{front, front_long, front_whole, split_at}
use Rattle.jx_codeblock.proofs.RegroupLemmas.{HaveBytes, Sends, drop_past, kept_have, kept_segments, kept_sends}
use Rattle.jx_codeblock.proofs.RoomLemmas.{before_more}
use Rattle.jx_codeblock.proofs.WithinLemmas.{looks_in}

-- ---- what is made of a block, by its segments and what is sent of them
pub record IsSent (b : Block) (style : Option Style) (ends : List LayerEnd) (r : Recoding) : Type 0 where
  pub segments : List (List ℕ)
  pub sends : Sends (new_style b style) b.passes segments (sent_in b style ends segments)
  pub have : HaveBytes (sent_in b style ends segments) (concat segments) (recoded_pieces r)
  pub whole : segments_of (new_style b style) b.passes (recoded_pieces r) ≡ segments

pub is_sent : (b : Block) (style : Option Style) (ends : List LayerEnd) (r : Recoding) → IsAsked b style ends → Some r ≡ recoding b style ends → IsSent b style ends r
is_sent b None ends r asked e = record {
  segments = own_segments b;
  sends = kept_sends b ends asked.sound;
  have = kept_have b ends r e;
  whole = kept_segments b ends r asked e;
}
is_sent b (Some style) ends r asked e = record {
  segments = anew b style;
  sends = anew_sends b style ends;
  have = anew_have b style ends r e;
  whole = anew_segments b style ends r asked e;
}

-- ---- no pass at all
pub none_decoded : (w h : ℕ) (c d : Coding) (ss others : List (List ℕ)) (n : ℕ) → n ≡ 0 → (decoded w h c ss n).cells ≡ (decoded w h d others n).cells
unfolding decoded read_from
none_decoded w h c d ss others n e = rw e refl

-- ---- the first passes over the segments as far as they are sent
module _ (w h : ℕ) (c : Coding) (passes : ℕ) (ss : List (List ℕ)) (sent : ℕ → ℕ) (sends : Sends c.style passes ss sent)
    (looks : (n : ℕ) → sent n ≡ sent_by_looks c.style passes ss (decoded w h c ss passes).looked n) where
  module _ (n : ℕ) (some : 1 ≤ n) (within : n ≤ passes) where
    abbrev last : ℕ
    last = ends_below c.style (n - 1)

    abbrev short : ℕ
    short = sent n - bytes_before ss last

    there : last < length ss
    there =
        let long : length ss ≡ ends_below c.style (passes - 1) + 1 = sends.long (omega arith) in
        let low : last ≤ ends_below c.style (passes - 1) = below_grows c.style (n - 1) (passes - 1) (omega arith) in
        omega arith

    back : n - 1 + 1 ≡ n
    back = omega arith

    -- all bytes of the last of them are
    all_sent : sent n ≡ bytes_before ss (last + 1) → front ss last short ≡ take last ss ++ get_or ss last [] ∷ []
    all_sent e =
        let all : short ≡ length (get_or ss last []) = omega (arith, before_more ss last) in
        ap (front ss last) all ∙ front_whole ss last

    at_all : n ≡ passes → front ss last short ≡ ss
    at_all e =
        let long : length ss ≡ ends_below c.style (passes - 1) + 1 = sends.long (omega arith) in
        let same : ends_below c.style (passes - 1) ≡ last = ap (λ (k : ℕ). ends_below c.style (k - 1)) (sym e) in
        let count : length ss ≡ last + 1 = omega arith in
        let none : drop (last + 1) ss ≡ [] = ap (λ (k : ℕ). drop k ss) (sym count) ∙ drop_past ss (length ss) (omega arith) in
        all_sent (ap sent e ∙ sends.all ∙ ap (bytes_before ss) count)
        ∙ ap (λ (rest : List (List ℕ)). take last ss ++ get_or ss last [] ∷ rest) (sym none) ∙ split_at ss last there

    at_end : n < passes → end_pass c.style (n - 1) ≡ true → (decoded w h c (front ss last short) n).cells ≡ (decoded w h c ss n).cells
    at_end lt ended =
        let up : ends_below c.style n ≡ last + 1 = ap (ends_below c.style) (sym back) ∙ below_ended c.style (n - 1) ended in
        let whole : List (List ℕ) = take last ss ++ get_or ss last [] ∷ [] in
        let long : length whole ≡ last + 1 = ap (λ (qs : List (List ℕ)). length qs) (sym (front_whole ss last)) ∙ front_long ss last (length (get_or ss last [])) there in
        let split : whole ++ drop (last + 1) ss ≡ ss =
        append_assoc (take last ss) (get_or ss last [] ∷ []) (drop (last + 1) ss) ∙ split_at ss last there in
        ap (λ (qs : List (List ℕ)). (decoded w h c qs n).cells) (all_sent (sends.cut n lt ended ∙ ap (bytes_before ss) up))
        ∙ sym (cells_front w h c whole (drop (last + 1) ss) n (omega arith) ended (omega arith))
        ∙ ap (λ (qs : List (List ℕ)). (decoded w h c qs n).cells) split

    at_look : n < passes → end_pass c.style (n - 1) ≡ false → (decoded w h c (front ss last short) n).cells ≡ (decoded w h c ss n).cells
    at_look lt flat =
        let segment : List ℕ = get_or ss last [] in
        let still : ends_below c.style n ≡ last = ap (ends_below c.style) (sym back) ∙ below_still c.style (n - 1) flat in
        let in_it : (n == 0 || end_pass c.style (n - 1)) ≡ false =
        ap (λ (t : Bool). t || end_pass c.style (n - 1)) (ne_eqb n 0 (λ (e : n ≡ 0). omega arith)) ∙ flat in
        let sum : sent n ≡ bytes_before ss (ends_below c.style n) + less_last_ff (get_or ss (ends_below c.style n) []) (get_or (decoded w h c ss passes).looked (n - 1) 0) =
        looks n ∙ looks_in c.style passes n ss (decoded w h c ss passes).looked (λ (e : n ≡ passes). omega arith) in_it in
        let sum' : sent n ≡ bytes_before ss last + less_last_ff segment (get_or (decoded w h c ss passes).looked (n - 1) 0) =
        sum ∙ ap (λ (k : ℕ). bytes_before ss k + less_last_ff (get_or ss k []) (get_or (decoded w h c ss passes).looked (n - 1) 0)) still in
        let split : take last ss ++ segment ∷ drop (last + 1) ss ≡ ss = split_at ss last there in
        let seen : get_or (decoded w h c ss passes).looked (n - 1) 0 ≡ get_or (decoded w h c (take last ss ++ segment ∷ drop (last + 1) ss) n).looked (n - 1) 0 =
        looked_front w h c ss passes (n - 1) (omega arith)
        ∙ ap (λ (k : ℕ). get_or (decoded w h c ss k).looked (n - 1) 0) back
        ∙ ap (λ (qs : List (List ℕ)). get_or (decoded w h c qs n).looked (n - 1) 0) (sym split) in
        let count : less_last_ff segment (get_or (decoded w h c ss passes).looked (n - 1) 0) ≡ short = omega arith in
        let long : ends_below c.style (n - 1) ≡ length (take last ss) = sym (length-take-le last ss (omega (arith, there))) in
        cut_short w h c (take last ss) (drop (last + 1) ss) segment n short (omega arith) long (ap (less_last_ff segment) (sym seen) ∙ count)
        ∙ ap (λ (qs : List (List ℕ)). (decoded w h c qs n).cells) split

    pub front_final : (decoded w h c (front ss last short) n).cells ≡ (decoded w h c ss n).cells
    front_final = elim (cases_eq n passes) [
      | inl all ↦ ap (λ (qs : List (List ℕ)). (decoded w h c qs n).cells) (at_all all)
      | inr other ↦ elim (cases_Bool (end_pass c.style (n - 1))) [
        | inl t ↦ at_end (omega arith) t
        | inr f ↦ at_look (omega arith) f
      ]
    ]
