use Rattle.std.proofs.Common.{◌≡◌, ◌∙◌, refl, sym, Option}
use Rattle.std.specs.List.{find}
use Rattle.std.proofs.lemmas.Result.{IfOk-weaker}
use Rattle.jx_base.specs.Joined.{joined}
use Rattle.jx_codestream.specs.First.{tile_number}
use Rattle.jx_same.specs.declared.answer.Spot.{Spot}
use Rattle.jx_same.specs.Items.{differs, items_of, picture_items, tile_items}
use Rattle.jx_same.specs.Sides.{meaning_in}
use Rattle.jx_same.proofs.FindLemmas.{before, behind, nothing}
use Rattle.jx_same.proofs.HeaderLemmas.{picture_same, siz_one}
use Rattle.jx_same.proofs.whole.first_differing.Goals as goal

pub returns-in-Some : goal.returns-in-Some
unfolding items_of
returns-in-Some g c =
    let s = c.args.a.stream.now in
    let p = differs (meaning_in c.args.a) (meaning_in c.args.b) in
    sym (before p (picture_items s.siz) (joined (tile_items s) 0 (tile_number s.siz)) c.in-Some.spot (sym c.compare_pictures.ensures ∙ c.in-Some.is))

pub compare_tiles-requires-clause-siz : goal.compare_tiles-requires-clause-siz
compare_tiles-requires-clause-siz g c κs held =
    let a = c.args.a in
    let b = c.args.b in
    siz_one a.stream.now b.stream.now a.blocks.now b.blocks.now
    (picture_same a.stream.now b.stream.now a.blocks.now b.blocks.now (sym c.compare_pictures.ensures ∙ nothing c.compare_pictures.result (λ x is. c.in_default.not-Some x is)))

pub returns : goal.returns
unfolding items_of
returns g c =
    let s = c.args.a.stream.now in
    let p = differs (meaning_in c.args.a) (meaning_in c.args.b) in
    let tiles = joined (tile_items s) 0 (tile_number s.siz) in
    let none = sym c.compare_pictures.ensures ∙ nothing c.compare_pictures.result (λ x is. c.in_default.not-Some x is) in
    IfOk-weaker c.compare_tiles.result (λ (r : Option Spot). r ≡ find p tiles) (λ (r : Option Spot). r ≡ find p (items_of s))
    (λ r h. h ∙ sym (behind p (picture_items s.siz) tiles (find p tiles) none refl)) c.compare_tiles.ensures
