use Rattle.std.proofs.Common.{◌≡◌, ◌∙◌, ◌<◌, ℕ, List, [], ◌∷◌, ◌++◌, length, get_or, set, sym, ap, subst, inl, inr, arith, get_or-set_other}
use Rattle.std.proofs.lemmas.Bool.{cases_eq}
use Rattle.std.proofs.lemmas.List.{get_or-set_same, length-set}
use Rattle.jx_codestream.specs.declared.parts.PlacedPart.{PlacedPart}
use Rattle.jx_codestream.specs.declared.tiles.Draft.{Draft}
use Rattle.jx_codestream.specs.Parts.{parts_of}
use Rattle.jx_codestream.specs.Tiles.{Collects}
use Rattle.jx_codestream.proofs.PartLemmas.{own_more, own_same}
use Rattle.jx_codestream.proofs.tiles.collect_parts.Goals as goal

drafts_more : (drafts : List Draft) (yielded : List PlacedPart) (part : PlacedPart) (t count : ℕ) (old next : Draft) → length drafts ≡ count → t ≡ part.sot.tile → old ≡ get_or drafts t old
    → ((k : ℕ) (other : Draft) → k < count → Collects (parts_of k yielded) (get_or drafts k other))
    → ((own : List PlacedPart) → Collects own old → Collects (own ++ part ∷ []) next)
    → (k : ℕ) (other : Draft) → k < count → Collects (parts_of k (yielded ++ part ∷ [])) (get_or (set drafts t next) k other)
drafts_more drafts yielded part t count old next long e here before step k other inside = elim (cases_eq t k) [
  | inl same ↦
      let own = own_more k yielded part (sym e ∙ same) in
      let was : Collects (parts_of k yielded) old = subst (λ (d : Draft). Collects (parts_of k yielded) d) (ap (λ (n : ℕ). get_or drafts n old) (sym same) ∙ sym here) (before k old inside) in
      let now : get_or (set drafts t next) k other ≡ next = ap (λ (n : ℕ). get_or (set drafts t next) n other) (sym same) ∙ get_or-set_same drafts t next other (omega (arith, long, same, inside)) in
      subst (λ (d : Draft). Collects (parts_of k (yielded ++ part ∷ [])) d) (sym now) (subst (λ (own : List PlacedPart). Collects own next) (sym own) (step (parts_of k yielded) was))
  | inr differs ↦
      let own = own_same k yielded part (λ is. differs (e ∙ is)) in
      subst (λ (d : Draft). Collects (parts_of k (yielded ++ part ∷ [])) d) (sym (get_or-set_other drafts t k next other (λ is. differs (sym is))))
      (subst (λ (own : List PlacedPart). Collects own (get_or drafts k other)) (sym own) (before k other inside))
]

pub loop-part-init : goal.loop-part-init
loop-part-init c = record { count = c.in_ok-drafts.ensures.count; each = c.in_ok-drafts.ensures.each }

pub loop-part-preserved : goal.loop-part-preserved
loop-part-preserved c =
    let drafts : List Draft = c.loop-part.drafts.items in let i = c.loop-part.invariant in
    record {
      count = length-set drafts c.from-tile.result c.add.new.self ∙ i.count;
      each = drafts_more drafts c.loop-part.yielded c.in-Some.part c.from-tile.result c.args.count c.index_mut.result.now c.add.new.self i.count c.from-tile.ensures c.index_mut.ensures.value i.each c.in_ok-add.ensures;
    }

pub returns-clause-count : goal.returns-clause-count
returns-clause-count c = c.loop-part.invariant.count
