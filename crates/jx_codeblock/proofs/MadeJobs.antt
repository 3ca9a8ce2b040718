-- What is known of a job and of what it was made into.
use Rattle.std.proofs.Common.{◌≡◌, ◌+◌, ◌<◌, ◌≤◌, ◌∙◌, ℕ, ap, sym, subst, refl, arith, length, List, [], ◌∷◌, Option, Some, None}
use Rattle.std.specs.List.{All, concat}
use Rattle.std.proofs.lemmas.List.Concat.{length-flat_map}
use Rattle.jx_base.specs.Pieces.{ArePieces, PieceValue, bytes_in}
use Rattle.jx_base.specs.Sound.{IsSound}
use Rattle.jx_base.specs.declared.pieces.Block.{Block}
use Rattle.jx_base.specs.declared.style.Style.{Style}
use Rattle.jx_codeblock.specs.declared.LayerEnd.{LayerEnd}
use Rattle.jx_codeblock.specs.declared.job.Job.{Job}
use Rattle.jx_codeblock.specs.declared.LayerPart.{LayerPart}
use Rattle.jx_tier1_specs.specs.Reading.{decoded, read_from}
use Rattle.jx_codeblock.specs.Jobs.{AreEnds, IsAsked}
use Rattle.jx_codeblock.specs.Laws.{IsWithin}
use Rattle.jx_codeblock.specs.Recoding.{Recoding, coding_in, decoded_in, new_style, own_segments, layer_parts_after, recoded_pieces, recoding, recoding_of, sent_in, wrong_in}
use Rattle.jx_codeblock.specs.Recoded.{IsMade, bytes_by, made_recoding, recoding_in}
use Rattle.jx_codeblock.specs.Tables.{bytes_joined}
use Rattle.jx_codeblock.proofs.AnewLemmas.{anew, right_job}
use Rattle.jx_codeblock.proofs.AnewParts.{anew_sound, anew_within}
use Rattle.jx_codeblock.proofs.LawLemmas.{kept_within}
use Rattle.jx_codeblock.proofs.LengthLemmas.{anew_few}
use Rattle.jx_codeblock.proofs.OwnBytes.{kept_by, own_bytes}
use Rattle.jx_codeblock.proofs.PartLemmas.{ends_within}
use Rattle.jx_codeblock.proofs.SoundLemmas.{kept_sound}
use Rattle.jx_codeblock.proofs.StartLemmas.{no_starts}
use Rattle.jx_codeblock.proofs.WrittenLemmas.{none_written}
use Rattle.jx_base.specs.Limits.{most_bytes}

-- ---- in any style or none
pub all_within : (b : Block) (style : Option Style) (ends : List LayerEnd) (r : Recoding) → IsAsked b style ends → Some r ≡ recoding b style ends → All (IsWithin (length r.bytes)) r.parts
all_within b None ends r asked e = kept_within b ends r asked e
all_within b (Some style) ends r asked e = anew_within b style ends r asked e

pub all_sound : (b : Block) (style : Option Style) (ends : List LayerEnd) (r : Recoding) → IsAsked b style ends → Some r ≡ recoding b style ends
    → ArePieces (new_style b style) 0 0 b.passes (recoded_pieces r)
all_sound b None ends r asked e = kept_sound b ends r asked e
all_sound b (Some style) ends r asked e = anew_sound b style ends r asked e

by_few : (b : Block) (style : Option Style) (new : List ℕ) → IsSound b → length new ≤ most_bytes → length (bytes_by b style new) ≤ most_bytes
by_few b None new sound le =
    let l : length (concat (own_segments b)) ≡ bytes_in b.pieces = ap (λ (xs : List ℕ). length xs) (own_bytes b sound) ∙ length-flat_map (λ (p : PieceValue). p.bytes) b.pieces in
    omega (arith, sound.bytes)
by_few b (Some style) new sound le = le

-- ---- of a job
pub job_within : (j : Job) (new starts : List ℕ) (parts : List LayerPart) → IsMade j new starts parts → All (IsWithin (length (made_recoding j new parts).bytes)) parts
job_within j new starts parts h = all_within j.block.now j.style j.ends (made_recoding j new parts) h.asked h.is

pub job_sound : (j : Job) (new starts : List ℕ) (parts : List LayerPart) → IsMade j new starts parts
    → ArePieces (made_recoding j new parts).style 0 0 j.block.now.passes (recoded_pieces (made_recoding j new parts))
job_sound j new starts parts h = all_sound j.block.now j.style j.ends (made_recoding j new parts) h.asked h.is

pub job_few : (j : Job) (new starts : List ℕ) (parts : List LayerPart) → IsMade j new starts parts → length (made_recoding j new parts).bytes ≤ most_bytes
job_few j new starts parts h = by_few j.block.now j.style new h.asked.sound h.few

-- ---- the bytes that a job's parts are of
pub kept_bytes : (j : Job) (new : List ℕ) → IsSound j.block.now → j.style ≡ None → bytes_by j.block.now j.style new ≡ bytes_joined j.block.now.pieces
kept_bytes j new sound e = ap (λ (s : Option Style). bytes_by j.block.now s new) e ∙ own_bytes j.block.now sound

-- ---- a block without passes
no_ends : (layer passes : ℕ) (ends : List LayerEnd) → AreEnds layer passes 0 ends → ends ≡ []
no_ends layer passes [] are = refl
no_ends layer passes (e ∷ ends) are = let le : e.passes ≤ 0 = ends_within (e.layer + 1) e.passes 0 ends are.2 in let lt : passes < e.passes = are.1 in absurd (omega arith)

none_wrong : (b : Block) → b.passes ≡ 0 → wrong_in b ≡ None
unfolding decoded read_from
none_wrong b e = rw e refl

-- ---- a job of which a style is asked
pub made_by : (j : Job) (style : Style) (new : List ℕ) (parts : List LayerPart) → j.style ≡ Some style → wrong_in j.block.now ≡ None → new ≡ concat (anew j.block.now style)
    → parts ≡ layer_parts_after style.bits (sent_in j.block.now (Some style) j.ends (anew j.block.now style)) 0 j.ends → Some (made_recoding j new parts) ≡ recoding_in j
made_by j style new parts s right e f =
    let there : ◌≡◌ {A = Option Recoding} (Some (record { style = style.bits; bytes = new; parts = parts })) (Some (recoding_of j.block.now (Some style) j.ends (anew j.block.now style))) = rw (e, f) refl in
    ap (λ (t : Option Style). Some (record { style = new_style j.block.now t; bytes = bytes_by j.block.now t new; parts = parts })) s ∙ there ∙ right_job j style s right

pub nothing_made : (j : Job) (new : List ℕ) (parts : List LayerPart) → IsAsked j.block.now j.style j.ends → j.block.now.passes ≡ 0 → new ≡ [] → parts ≡ []
    → Some (made_recoding j new parts) ≡ recoding_in j
nothing_made j new parts asked none e f = by j.style refl
  where
    ends_none : j.ends ≡ []
    ends_none = no_ends 0 0 j.ends (subst (λ (n : ℕ). AreEnds 0 0 n j.ends) none asked.layers)

    by : (style : Option Style) → j.style ≡ style → Some (made_recoding j new parts) ≡ recoding_in j
    by None s =
        let no_parts : [] ≡ layer_parts_after j.block.now.style.bits (sent_in j.block.now None j.ends (own_segments j.block.now)) 0 j.ends = rw ends_none refl in
        kept_by j j.ends new parts s refl (f ∙ no_parts)
    by (Some style) s =
        let no_parts : [] ≡ layer_parts_after style.bits (sent_in j.block.now (Some style) j.ends (anew j.block.now style)) 0 j.ends = rw ends_none refl in
        let no_bytes : concat (anew j.block.now style) ≡ [] =
        ap (λ (ss : List (List ℕ)). concat ss)
        (none_written (coding_in j.block.now style.bits) (decoded_in j.block.now j.block.now.style.bits (own_segments j.block.now)).cells j.block.now.passes none) in
        made_by j style new parts s (none_wrong j.block.now none) (e ∙ sym no_bytes) (f ∙ no_parts)

-- from the lists that are written, and what is made of them
pub anew_made : (j : Job) (style : Style) (ends : List LayerEnd) (lists again : List (List ℕ)) (new starts : List ℕ) (parts : List LayerPart) → IsAsked j.block.now j.style j.ends
    → j.style ≡ Some style → wrong_in j.block.now ≡ None → ends ≡ j.ends → lists ≡ anew j.block.now style → again ≡ anew j.block.now style → new ≡ concat lists
    → starts ≡ [] → parts ≡ layer_parts_after style.bits (sent_in j.block.now (Some style) ends again) 0 ends → IsMade j new starts parts
anew_made j style ends lists again new starts parts asked s right same is was e none f =
    let bytes : new ≡ concat (anew j.block.now style) = e ∙ ap (λ (ss : List (List ℕ)). concat ss) is in
    let parts_are : parts ≡ layer_parts_after style.bits (sent_in j.block.now (Some style) j.ends (anew j.block.now style)) 0 j.ends = f ∙ rw (same, was) refl in
    record {
      asked = asked;
      few = subst (λ (bs : List ℕ). length bs ≤ most_bytes) (sym bytes) (anew_few j.block.now style asked.sound);
      begins = no_starts j.block.now.pieces starts none;
      is = made_by j style new parts s right bytes parts_are;
    }
