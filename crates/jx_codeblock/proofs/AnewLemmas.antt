-- What a block that is coded anew becomes, and where nothing can be made of it.
use Rattle.std.proofs.Common.{◌≡◌, ℕ, List, ◌∙◌, ap, sym, refl, Option, Some, None, true, is_some, is_none}
use Rattle.std.proofs.lemmas.Bool.{and_from, and_parts, true≢false}
use Rattle.std.proofs.lemmas.Option.{same_Some}
use Rattle.jx_base.specs.declared.pieces.Block.{Block}
use Rattle.jx_base.specs.declared.style.Style.{Style}
use Rattle.jx_tier1_specs.specs.Needs.{written}
use Rattle.jx_codeblock.specs.declared.LayerEnd.{LayerEnd}
use Rattle.jx_codeblock.specs.declared.job.Job.{Job}
use Rattle.jx_codeblock.specs.Recoding.{Recoding, recoding, recoding_of, option_recoding, coding_in, decoded_in, new_segments, own_segments, unless_wrong, wrong_in}
use Rattle.jx_codeblock.specs.Recoded.{is_bad, recoding_in}

-- the segments in another style
abbrev pub anew : Block → Style → List (List ℕ)
anew b style = written (coding_in b style.bits) (decoded_in b b.style.bits (own_segments b)).cells b.passes

-- what the decoder looks at in them
abbrev pub anew_looked : Block → Style → List ℕ
anew_looked b style = (decoded_in b style.bits (anew b style)).looked

pub right_recoding : (b : Block) (style : Style) (ends : List LayerEnd) → wrong_in b ≡ None → recoding b (Some style) ends ≡ Some (recoding_of b (Some style) ends (anew b style))
unfolding recoding
right_recoding b style ends e = ap (λ (w : Option ℕ). option_recoding b (Some style) ends (unless_wrong w (anew b style))) e

pub wrong_recoding : (b : Block) (style : Style) (ends : List LayerEnd) (pass : ℕ) → wrong_in b ≡ Some pass → recoding b (Some style) ends ≡ None
unfolding recoding
wrong_recoding b style ends pass e = ap (λ (w : Option ℕ). option_recoding b (Some style) ends (unless_wrong w (anew b style))) e

-- nothing is made of a job of which a style is asked, and whose block has a wrong symbol
pub bad_job : (j : Job) (pass : ℕ) → wrong_in j.block.now ≡ Some pass → (j.style ≡ None → ⊥) → recoding_in j ≡ None
bad_job j pass e ne = by j.style ne
  where
    by : (style : Option Style) → (style ≡ None → ⊥) → recoding j.block.now style j.ends ≡ None
    by None none = absurd (none refl)
    by (Some style) none = wrong_recoding j.block.now style j.ends pass e

-- the same where only that some symbol is wrong is known
pub bad_found : (j : Job) → (wrong_in j.block.now ≡ None → ⊥) → (j.style ≡ None → ⊥) → recoding_in j ≡ None
bad_found j wrong ne = by (wrong_in j.block.now) refl
  where
    by : (w : Option ℕ) → wrong_in j.block.now ≡ w → recoding_in j ≡ None
    by None h = absurd (wrong h)
    by (Some pass) h = bad_job j pass h ne

-- a recoding in a style
pub record IsAnew (b : Block) (style : Style) (ends : List LayerEnd) (r : Recoding) : Type 0 where
  pub right : wrong_in b ≡ None
  pub is : r ≡ recoding_of b (Some style) ends (anew b style)

pub is_anew : (b : Block) (style : Style) (ends : List LayerEnd) (r : Recoding) → Some r ≡ recoding b (Some style) ends → IsAnew b style ends r
is_anew b style ends r e = by (wrong_in b) refl
  where
    by : (w : Option ℕ) → wrong_in b ≡ w → IsAnew b style ends r
    by None h = record { right = h; is = same_Some r (recoding_of b (Some style) ends (anew b style)) (e ∙ right_recoding b style ends h) }
    by (Some pass) h = let z : Some r ≡ None = e ∙ wrong_recoding b style ends pass h in absurd (cc)

-- a job of which a style is asked, where each symbol is right
pub right_job : (j : Job) (style : Style) → j.style ≡ Some style → wrong_in j.block.now ≡ None
    → Some (recoding_of j.block.now (Some style) j.ends (anew j.block.now style)) ≡ recoding_in j
right_job j style e right = sym (ap (λ (s : Option Style). recoding j.block.now s j.ends) e ∙ right_recoding j.block.now style j.ends right)

-- the new segments of a job that something is made of
pub new_are : (b : Block) (style : Style) (ends : List LayerEnd) (r : Recoding) (ss : List (List ℕ)) → Some r ≡ recoding b (Some style) ends → ss ≡ anew b style
    → Some ss ≡ new_segments b (Some style)
new_are b style ends r ss e f = let right = (is_anew b style ends r e).right in rw (right, f) refl

-- ---- exactly where nothing is made of a block
pub kept_some : (b : Block) (ends : List LayerEnd) → recoding b None ends ≡ None → ⊥
unfolding recoding
kept_some b ends e = cc

pub right_some : (b : Block) (style : Style) (ends : List LayerEnd) → wrong_in b ≡ None → recoding b (Some style) ends ≡ None → ⊥
right_some b style ends right e =
    let z : Some (recoding_of b (Some style) ends (anew b style)) ≡ None = sym (right_recoding b style ends right) ∙ e in cc

pub wrong_none : (b : Block) (style : Style) (ends : List LayerEnd) → (wrong_in b ≡ None → ⊥) → recoding b (Some style) ends ≡ None
wrong_none b style ends ne = by (wrong_in b) refl
  where
    by : (w : Option ℕ) → wrong_in b ≡ w → recoding b (Some style) ends ≡ None
    by None h = absurd (ne h)
    by (Some pass) h = wrong_recoding b style ends pass h

-- ---- bad jobs
none_of : {X : Type 0} (o : Option X) → is_none o ≡ true → o ≡ None
none_of None e = refl
none_of (Some x) e = absurd (true≢false (sym e))

pub bad_is : (j : Job) → is_bad j ≡ true → recoding_in j ≡ None
bad_is j e = none_of (recoding_in j) (and_parts (is_some j.style) (is_none (recoding_in j)) e).1

pub nothing_is_bad : (j : Job) → recoding_in j ≡ None → is_bad j ≡ true
nothing_is_bad j e = and_from (is_some j.style) (is_none (recoding_in j)) (by j.style refl) (ap (λ (o : Option Recoding). is_none o) e)
  where
    by : (style : Option Style) → j.style ≡ style → is_some j.style ≡ true
    by None s = absurd (kept_some j.block.now j.ends (ap (λ (t : Option Style). recoding j.block.now t j.ends) (sym s) ∙ e))
    by (Some style) s = ap (λ (t : Option Style). is_some t) s
