use Rattle.std.proofs.Common.{◌≡◌, ◌∙◌, ap, sym, subst, List, ℕ}
use Rattle.std.proofs.lemmas.Result.{IfOk-weaker}
use Rattle.jx_tier1_specs.specs.Reading.{Decoding}
use Rattle.jx_tier1_specs.specs.Short.{AreShort}
use Rattle.jx_codeblock.specs.Laws.{decoded_first}
use Rattle.jx_codeblock.specs.Recoding.{decoded_in, own_segments, wrong_in}
use Rattle.jx_codeblock.proofs.DecideLemmas.{groups_short, own_same}
use Rattle.jx_codeblock.proofs.looks.own_from.Goals as goal

pub decode-requires-clause-short : goal.decode-requires-clause-short
decode-requires-clause-short c =
    let P : List (List ℕ) → Type 0 = λ ss. AreShort ss in
    subst P (sym (c.coded_in-coded.ensures.segments ∙ c.requires.own)) (groups_short c.args.block.now.style.bits c.args.block.now.pieces c.requires.sound.bytes)

pub returns-clause-grid : goal.returns-clause-grid
returns-clause-grid c =
    let b = c.args.block.now in
    let coded = c.coded_in-coded.result in
    let same = ap (decoded_first b coded.style.bits coded.segments) c.coded_in-coded.ensures.passes
    ∙ own_same b coded.style coded.segments c.requires.sound c.coded_in-coded.ensures.style (c.coded_in-coded.ensures.segments ∙ c.requires.own) in
    IfOk-weaker c.decode.result (λ d. d.grid ≡ (decoded_first b coded.style.bits coded.segments coded.passes).cells) (λ d. d.grid ≡ (decoded_in b b.style.bits (own_segments b)).cells)
    (λ d e. e ∙ ap (λ (x : Decoding). x.cells) same) c.decode.ensures.grid

pub returns-clause-wrong : goal.returns-clause-wrong
returns-clause-wrong c =
    let b = c.args.block.now in
    let coded = c.coded_in-coded.result in
    let same = ap (decoded_first b coded.style.bits coded.segments) c.coded_in-coded.ensures.passes
    ∙ own_same b coded.style coded.segments c.requires.sound c.coded_in-coded.ensures.style (c.coded_in-coded.ensures.segments ∙ c.requires.own) in
    IfOk-weaker c.decode.result (λ d. d.wrong ≡ (decoded_first b coded.style.bits coded.segments coded.passes).wrong) (λ d. d.wrong ≡ wrong_in b)
    (λ d e. e ∙ ap (λ (x : Decoding). x.wrong) same) c.decode.ensures.wrong
