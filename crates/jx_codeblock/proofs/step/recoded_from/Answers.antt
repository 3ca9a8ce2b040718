use Rattle.std.proofs.Common.{◌≡◌, ◌∙◌, ap, sym, subst, map, List, ℕ}
use Rattle.std.proofs.lemmas.Result.{IfOk-weaker}
use Rattle.jx_tier1_specs.specs.Needs.{written}
use Rattle.jx_tier1_specs.specs.Reading.{Decoding}
use Rattle.jx_tier1_specs.specs.Short.{AreShort}
use Rattle.jx_codeblock.specs.Recoding.{coding_in, decoded_in, own_segments, wrong_in}
use Rattle.jx_codeblock.proofs.DecideLemmas.{groups_short, own_same}
use Rattle.jx_codeblock.proofs.step.recoded_from.Goals as goal

pub recode-requires-clause-short : goal.recode-requires-clause-short
recode-requires-clause-short c =
    let P : List (List ℕ) → Type 0 = λ ss. AreShort ss in
    subst P (sym (c.coded_in-coded.ensures.segments ∙ c.requires.own)) (groups_short c.args.block.now.style.bits c.args.block.now.pieces c.requires.sound.bytes)

pub returns-clause-segments : goal.returns-clause-segments
returns-clause-segments c =
    let b = c.args.block.now in
    let coded = c.coded_in-coded.result in
    let same = own_same b coded.style coded.segments c.requires.sound c.coded_in-coded.ensures.style (c.coded_in-coded.ensures.segments ∙ c.requires.own) in
    IfOk-weaker c.recode.result (λ r. map (λ s. s.items) r.segments.items ≡ written (coding_in b c.args.style.bits) (decoded_in b coded.style.bits coded.segments).cells b.passes)
    (λ r. map (λ s. s.items) r.segments.items ≡ written (coding_in b c.args.style.bits) (decoded_in b b.style.bits (own_segments b)).cells b.passes)
    (λ r e. e ∙ ap (λ (x : Decoding). written (coding_in b c.args.style.bits) x.cells b.passes) same) c.recode.ensures.segments

pub returns-clause-wrong : goal.returns-clause-wrong
returns-clause-wrong c =
    let b = c.args.block.now in
    let coded = c.coded_in-coded.result in
    let same = own_same b coded.style coded.segments c.requires.sound c.coded_in-coded.ensures.style (c.coded_in-coded.ensures.segments ∙ c.requires.own) in
    IfOk-weaker c.recode.result (λ r. r.wrong ≡ (decoded_in b coded.style.bits coded.segments).wrong) (λ r. r.wrong ≡ wrong_in b)
    (λ r e. e ∙ ap (λ (x : Decoding). x.wrong) same) c.recode.ensures.wrong
