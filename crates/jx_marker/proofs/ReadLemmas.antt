-- Bytes that violate no rule are the spelling of what they are read as: kind by kind.
use Rattle.std.proofs.Common.{◌≡◌, ◌<◌, ◌≤◌, ◌+◌, ◌-◌, ◌*◌, ◌^◌, ◌%◌, ◌/◌, ℕ, zero, suc, List, ◌∷◌, ◌++◌, [], length, drop, arith, append_assoc, refl, ap, ap₂, sym, ◌∙◌, Bool, true, false, ◌||◌, ◌==◌, None, slice_index, ltb, leb, cond, length-drop, min, subst, inl, inr, ◌⊎◌}
use Rattle.std.proofs.lemmas.Bool.Decides.{nat_tests, eqb_tells}
use Rattle.std.proofs.lemmas.List.{take-append-drop, drop-drop}
use Rattle.std.proofs.lemmas.List.Elements.{All-take, All-from_get_or}
use Rattle.std.proofs.Math.Nat.{mod-add-div'}
use Rattle.std.specs.List.{flat_map, list_any}
use Rattle.byteorder.specs.Endian.{big_from, big_bytes}
use Rattle.jx_marker.specs.Codes.{SOC, SIZ, COD, COC, TLM, PLM, PLT, QCD, QCC, RGN, POC, PPM, PPT, CRG, COM, SOT, SOD, EOC}
use Rattle.jx_marker.specs.declared.Shape.{Shape}
use Rattle.jx_marker.specs.declared.Segment.{Segment}
use Rattle.jx_marker.specs.Markers.{has_length, stands_alone, index_size, entry_size, progression_size}
use Rattle.jx_marker.specs.Values.{values_from, comp_size_at, comp_size_bytes, siz_at, siz_bytes, canvas_bytes, shape_at, shape_bytes, precinct_bit, scod, cod_at, cod_bytes, index_at, index_bytes, entry_at, quant_at, quant_bytes, progression_at, progression_bytes, poc_at, poc_bytes, sot_at, sot_bytes}
use Rattle.jx_marker.specs.Segments.{spelling, with_length, value_of, code_at, body_at, length_at, segment_at, size_at, alone}
use Rattle.jx_marker.specs.RuleNumbers.{LENGTH_LISTS}
use Rattle.jx_marker.specs.Rules.{first_true, rules_inside, first_broken, has_zero_exponent, least_length, breaks_2, breaks_13}
use Rattle.jx_marker.specs.Ranges.{InRange, AreBytes, FitsLength, SizInRange, CompSizeInRange, ShapeInRange, CodInRange, CocInRange, QuantInRange, QccInRange, ProgressionInRange, PocInRange, SotInRange}
use Rattle.jx_marker.specs.Laws.{BeginsWith, StandsAt}
use Rattle.jx_marker.proofs.ValueLemmas.{length_values}
use Rattle.jx_marker.proofs.CutLemmas.{byte_small, drop_end, cut_2_to, cut_to, bytes_drop, drop_one, cut_2, cut_4, cut_narrow, small_2, small_4, small_narrow, values_spelled, all_values}
use Rattle.jx_marker.proofs.RuleLemmas.{cleared, both, plain_rules, IsClear, clear, two_bytes, has_room, length_body}
use Rattle.jx_marker.proofs.ClearLemmas.{IsClearSiz, clear_siz, IsClearShape, IsClearCod, clear_cod, IsClearCoc, clear_coc, IsClearQuant, clear_qcd, IsClearQcc, clear_qcc, IsClearRgn, clear_rgn, IsClearPoc, clear_poc, sot_left}
use Rattle.std.proofs.lemmas.Bool.{cases_Bool, or_parts, and_parts, not-false}

-- SIZ

comp_size_spelled : (body : List ℕ) (at : ℕ) → at + 3 ≤ length body → drop at body ≡ comp_size_bytes (comp_size_at at body) ++ drop (at + 3) body
comp_size_spelled body at room =
    cut_to body at (at + 1) (omega arith) (omega arith)
    ∙ ap (λ (t : List ℕ). slice_index body at ∷ t) (cut_to body (at + 1) (at + 2) (omega arith) (omega arith)
    ∙ ap (λ (t : List ℕ). slice_index body (at + 1) ∷ t) (cut_to body (at + 2) (at + 3) (omega arith) (omega arith)))

siz_spelled : (body : List ℕ) → AreBytes body → length body ≡ 36 + 3 * big_from 34 2 body → siz_bytes (siz_at body) ≡ body
unfolding canvas_bytes
siz_spelled body are size =
    let count = length_values comp_size_at 3 (big_from 34 2 body) 36 body in
    let comps : flat_map comp_size_bytes (siz_at body).comps ≡ drop 36 body = values_spelled comp_size_at comp_size_bytes 3 body (comp_size_spelled body) (big_from 34 2 body) 36 (omega arith) in
    let last : big_bytes 2 (length (siz_at body).comps) ++ flat_map comp_size_bytes (siz_at body).comps ≡ drop 34 body
    = ap₂ (λ (n : ℕ) (t : List ℕ). big_bytes 2 n ++ t) count comps ∙ sym (cut_2 body 34 are (omega arith)) in
    sym (cut_2 body 0 are (omega arith)
    ∙ ap (λ (t : List ℕ). big_bytes 2 (big_from 0 2 body) ++ t) (cut_4 body 2 are (omega arith)
    ∙ ap (λ (t : List ℕ). big_bytes 4 (big_from 2 4 body) ++ t) (cut_4 body 6 are (omega arith)
    ∙ ap (λ (t : List ℕ). big_bytes 4 (big_from 6 4 body) ++ t) (cut_4 body 10 are (omega arith)
    ∙ ap (λ (t : List ℕ). big_bytes 4 (big_from 10 4 body) ++ t) (cut_4 body 14 are (omega arith)
    ∙ ap (λ (t : List ℕ). big_bytes 4 (big_from 14 4 body) ++ t) (cut_4 body 18 are (omega arith)
    ∙ ap (λ (t : List ℕ). big_bytes 4 (big_from 18 4 body) ++ t) (cut_4 body 22 are (omega arith)
    ∙ ap (λ (t : List ℕ). big_bytes 4 (big_from 22 4 body) ++ t) (cut_4 body 26 are (omega arith)
    ∙ ap (λ (t : List ℕ). big_bytes 4 (big_from 26 4 body) ++ t) (cut_4 body 30 are (omega arith)
    ∙ ap (λ (t : List ℕ). big_bytes 4 (big_from 30 4 body) ++ t) (sym last))))))))))

comp_size_range : (body : List ℕ) → AreBytes body → (at : ℕ) → CompSizeInRange (comp_size_at at body)
comp_size_range body are at = record { ssiz = byte_small body are at; dx = byte_small body are (at + 1); dy = byte_small body are (at + 2) }

pub siz_range : (body : List ℕ) → AreBytes body → IsClearSiz body → SizInRange (siz_at body)
siz_range body are h = record {
  rsiz = h.rsiz;
  x1 = small_4 body 2 are;
  y1 = small_4 body 6 are;
  x0 = small_4 body 10 are;
  y0 = small_4 body 14 are;
  tw = small_4 body 18 are;
  th = small_4 body 22 are;
  tx = small_4 body 26 are;
  ty = small_4 body 30 are;
  fits = h.fits;
  each = all_values CompSizeInRange comp_size_at 3 body (comp_size_range body are) (big_from 34 2 body) 36;
}

-- COD and COC

back_to : (n : ℕ) → n + 2 - 2 ≡ n
back_to n = omega arith

shape_spelled : (flags at : ℕ) (body : List ℕ) → IsClearShape flags at body → drop at body ≡ shape_bytes (shape_at at body)
shape_spelled flags at body h =
    let size = h.size in
    rw (back_to (slice_index body (at + 1)), back_to (slice_index body (at + 2)))
    (cut_to body at (at + 1) (omega arith) (omega arith)
    ∙ ap (λ (t : List ℕ). slice_index body at ∷ t) (cut_to body (at + 1) (at + 2) (omega arith) (omega arith)
    ∙ ap (λ (t : List ℕ). slice_index body (at + 1) ∷ t) (cut_to body (at + 2) (at + 3) (omega arith) (omega arith)
    ∙ ap (λ (t : List ℕ). slice_index body (at + 2) ∷ t) (cut_to body (at + 3) (at + 4) (omega arith) (omega arith)
    ∙ ap (λ (t : List ℕ). slice_index body (at + 3) ∷ t) (cut_to body (at + 4) (at + 5) (omega arith) (omega arith))))))

count_spelled : (n levels : ℕ) (some : Bool) → n ≡ cond some (1 + levels) 0 → n ≡ cond (n == 0) 0 (1 + levels)
count_spelled n levels true h = let none : (n == 0) ≡ false = grind (arith, nat_tests) in rw none h
count_spelled n levels false h = rw h refl

shape_count : (flags at : ℕ) (body : List ℕ) → IsClearShape flags at body → length (drop (at + 5) body) ≡ cond (flags % 2 == 1) (1 + slice_index body at) 0
shape_count flags at body h = let size = h.size in simp length-drop (omega arith)

shape_range : (flags at : ℕ) (body : List ℕ) → AreBytes body → IsClearShape flags at body → ShapeInRange (shape_at at body)
shape_range flags at body are h =
    let x = h.xcb in let y = h.ycb in let area = h.area in
    record {
      levels = h.levels;
      least_xcb = omega arith;
      least_ycb = omega arith;
      xcb = omega arith;
      ycb = omega arith;
      area = omega arith;
      style = h.style;
      wavelet = h.wavelet;
      count = count_spelled (length (drop (at + 5) body)) (slice_index body at) (flags % 2 == 1) (shape_count flags at body h);
      precincts = bytes_drop body (at + 5) are;
      above = ap (λ (t : List ℕ). list_any has_zero_exponent t) (drop_one body (at + 5) (at + 6) (omega arith)) ∙ h.above;
    }

zero_or_one : (n : ℕ) → n < 2 → (n ≡ 0) ⊎ (n ≡ 1)
zero_or_one zero h = inl refl
zero_or_one (suc n) h = inr (omega arith)

bit_spelled : (bit n levels : ℕ) → bit < 2 → n ≡ cond (bit == 1) (1 + levels) 0 → min 1 n ≡ bit
bit_spelled bit n levels small h = elim (zero_or_one bit small) [
  | inl e ↦ let none = rw e at h in omega arith
  | inr e ↦ let some = rw e at h in omega arith
]

flags_spelled : (flags : ℕ) → flags < 8 → flags % 2 + (cond (flags / 2 % 2 == 1) 2 0 + cond (flags / 4 % 2 == 1) 4 0) ≡ flags
flags_spelled zero h = refl
flags_spelled (suc zero) h = refl
flags_spelled (suc (suc zero)) h = refl
flags_spelled (suc (suc (suc zero))) h = refl
flags_spelled (suc (suc (suc (suc zero)))) h = refl
flags_spelled (suc (suc (suc (suc (suc zero))))) h = refl
flags_spelled (suc (suc (suc (suc (suc (suc zero)))))) h = refl
flags_spelled (suc (suc (suc (suc (suc (suc (suc zero))))))) h = refl
flags_spelled (suc (suc (suc (suc (suc (suc (suc (suc n)))))))) h = absurd (omega arith)

cod_spelled : (body : List ℕ) → AreBytes body → IsClearCod body → cod_bytes (cod_at body) ≡ body
cod_spelled body are h =
    let flags : ℕ = slice_index body 0 in
    let size = h.shape.size in
    let bit : precinct_bit (shape_at 5 body) ≡ flags % 2 = bit_spelled (flags % 2) (length (drop 10 body)) (slice_index body 5) (omega arith) (shape_count flags 5 body h.shape) in
    let first : scod (cod_at body) ≡ flags
    = ap (λ (b : ℕ). b + (cond (flags / 2 % 2 == 1) 2 0 + cond (flags / 4 % 2 == 1) 4 0)) bit ∙ flags_spelled flags h.flags in
    let rest : body ≡ flags ∷ slice_index body 1 ∷ (big_bytes 2 (big_from 2 2 body) ++ slice_index body 4 ∷ shape_bytes (shape_at 5 body))
    = cut_to body 0 1 refl (omega arith)
    ∙ ap (λ (t : List ℕ). flags ∷ t) (cut_to body 1 2 refl (omega arith)
    ∙ ap (λ (t : List ℕ). slice_index body 1 ∷ t) (cut_2 body 2 are (omega arith)
    ∙ ap (λ (t : List ℕ). big_bytes 2 (big_from 2 2 body) ++ t) (cut_to body 4 5 refl (omega arith)
    ∙ ap (λ (t : List ℕ). slice_index body 4 ∷ t) (shape_spelled flags 5 body h.shape)))) in
    ap (λ (f : ℕ). f ∷ slice_index body 1 ∷ (big_bytes 2 (big_from 2 2 body) ++ slice_index body 4 ∷ shape_bytes (shape_at 5 body))) first ∙ sym rest

cod_range : (body : List ℕ) → AreBytes body → IsClearCod body → CodInRange (cod_at body)
cod_range body are h = record {
  order = h.order;
  some = h.layers;
  layers = small_2 body 2 are;
  transform = h.transform;
  shape = shape_range (slice_index body 0) 5 body are h.shape;
}

pub pick : (b : Bool) → (cond {A = ℕ} b 1 2 ≡ 1) ⊎ (cond {A = ℕ} b 1 2 ≡ 2)
pick true = inl refl
pick false = inr refl

pub index_narrow : (comps : ℕ) → (index_size comps ≡ 1) ⊎ (index_size comps ≡ 2)
index_narrow comps = pick (ltb comps 257)

pub entry_narrow : (sqcd : ℕ) → (entry_size sqcd ≡ 1) ⊎ (entry_size sqcd ≡ 2)
entry_narrow sqcd = pick (sqcd % 32 == 0)

pub index_most : (comps : ℕ) → index_size comps ≤ 2
index_most comps = elim (index_narrow comps) [ inl e ↦ omega arith | inr e ↦ omega arith ]

index_word : (comps : ℕ) (body : List ℕ) → AreBytes body → index_at comps 0 body < 2 ^ 16
index_word comps body are = elim (index_narrow comps) [
  | inl e ↦ let small : big_from 0 1 body < 256 = (let a = byte_small body are 0 in omega arith) in rw e (omega arith)
  | inr e ↦ rw e (small_2 body 0 are)
]

coc_spelled : (comps : ℕ) (body : List ℕ) → AreBytes body → IsClearCoc comps body
    → index_bytes comps (index_at comps 0 body) ++ precinct_bit (shape_at (1 + index_size comps) body) ∷ shape_bytes (shape_at (1 + index_size comps) body) ≡ body
coc_spelled comps body are h =
    let k : ℕ = index_size comps in
    let flags : ℕ = slice_index body k in
    let size = h.shape.size in
    let small = h.flags in
    let shape : Shape = shape_at (1 + k) body in
    let same : flags % 2 ≡ flags = omega arith in
    let bit : precinct_bit shape ≡ flags = bit_spelled (flags % 2) (length (drop (1 + k + 5) body)) (slice_index body (1 + k)) (omega arith) (shape_count flags (1 + k) body h.shape) ∙ same in
    let tail : precinct_bit shape ∷ shape_bytes shape ≡ drop k body
    = ap₂ (λ (f : ℕ) (t : List ℕ). f ∷ t) bit (sym (shape_spelled flags (1 + k) body h.shape)) ∙ sym (cut_to body k (1 + k) (omega arith) (omega arith)) in
    ap (λ (t : List ℕ). index_bytes comps (index_at comps 0 body) ++ t) tail ∙ sym (cut_narrow k (index_narrow comps) body 0 k (omega arith) are (omega arith))

coc_range : (comps : ℕ) (body : List ℕ) → AreBytes body → IsClearCoc comps body → CocInRange comps (index_at comps 0 body) (shape_at (1 + index_size comps) body)
coc_range comps body are h = record {
  index = h.index;
  word = index_word comps body are;
  fits = shape_range (slice_index body (index_size comps)) (1 + index_size comps) body are h.shape;
}

-- QCD and QCC

whole_again : (n size : ℕ) → n % size ≡ 0 → n / size * size ≡ n
whole_again n size whole = let e = mod-add-div' n size in omega (arith, e)

some_whole : (count size n : ℕ) → count * size ≡ n → 1 ≤ n → 0 < count
some_whole zero size n is some = absurd (omega arith)
some_whole (suc count) size n is some = omega arith

quant_whole : (at : ℕ) (body : List ℕ) → at + 1 ≤ length body → IsClearQuant at body
    → (length body - (at + 1)) / entry_size (slice_index body at) * entry_size (slice_index body at) ≡ length body - (at + 1)
quant_whole at body room h = whole_again (length body - (at + 1)) (entry_size (slice_index body at)) h.whole

quant_spelled : (at : ℕ) (body : List ℕ) → AreBytes body → at + 1 ≤ length body → IsClearQuant at body → quant_bytes (quant_at at body) ≡ drop at body
quant_spelled at body are room h =
    let size : ℕ = entry_size (slice_index body at) in
    let count : ℕ = (length body - (at + 1)) / size in
    let whole = quant_whole at body room h in
    let entries : flat_map (big_bytes size) (values_from (entry_at size) size count (at + 1) body) ≡ drop (at + 1) body
    = values_spelled (entry_at size) (big_bytes size) size body
    (λ (place : ℕ) (fits : place + size ≤ length body). cut_narrow size (entry_narrow (slice_index body at)) body place (place + size) refl are fits)
    count (at + 1) (omega (arith, whole)) in
    ap (λ (t : List ℕ). slice_index body at ∷ t) entries ∙ sym (cut_to body at (at + 1) refl (omega arith))

quant_range : (at : ℕ) (body : List ℕ) → AreBytes body → at + 1 ≤ length body → FitsLength body → IsClearQuant at body → QuantInRange (quant_at at body) at
quant_range at body are room fits h =
    let size : ℕ = entry_size (slice_index body at) in
    let count : ℕ = (length body - (at + 1)) / size in
    let whole = quant_whole at body room h in
    let long = length_values (entry_at size) size count (at + 1) body in
    let some = h.some in
    let one : 1 ≤ size = elim (entry_narrow (slice_index body at)) [ inl e ↦ omega arith | inr e ↦ omega arith ] in
    record {
      sqcd = byte_small body are at;
      style = h.style;
      some = rw long (some_whole count size (length body - (at + 1)) whole (omega arith));
      count = rw long (omega (arith, whole));
      entries = all_values (λ (e : ℕ). e < 256 ^ size) (entry_at size) size body (λ (place : ℕ). small_narrow size (entry_narrow (slice_index body at)) body place are) count (at + 1);
    }

qcc_spelled : (comps : ℕ) (body : List ℕ) → AreBytes body → index_size comps + 1 ≤ length body → IsClearQcc comps body
    → index_bytes comps (index_at comps 0 body) ++ quant_bytes (quant_at (index_size comps) body) ≡ body
qcc_spelled comps body are room h =
    ap (λ (t : List ℕ). index_bytes comps (index_at comps 0 body) ++ t) (quant_spelled (index_size comps) body are room h.quant)
    ∙ sym (cut_narrow (index_size comps) (index_narrow comps) body 0 (index_size comps) (omega arith) are (omega arith))

qcc_range : (comps : ℕ) (body : List ℕ) → AreBytes body → index_size comps + 1 ≤ length body → FitsLength body → IsClearQcc comps body
    → QccInRange comps (index_at comps 0 body) (quant_at (index_size comps) body)
qcc_range comps body are room fits h = record { index = h.index; word = index_word comps body are; fits = quant_range (index_size comps) body are room fits h.quant }

-- RGN

rgn_spelled : (comps : ℕ) (body : List ℕ) → AreBytes body → IsClearRgn comps body
    → index_bytes comps (index_at comps 0 body) ++ 0 ∷ slice_index body (1 + index_size comps) ∷ [] ≡ body
rgn_spelled comps body are h =
    let k : ℕ = index_size comps in
    let size = h.size in
    let end : drop (2 + k) body ≡ [] = drop_end body (2 + k) (omega arith) in
    let tail : 0 ∷ slice_index body (1 + k) ∷ [] ≡ drop k body
    = ap₂ (λ (style : ℕ) (t : List ℕ). style ∷ slice_index body (1 + k) ∷ t) (sym h.style) (sym end)
    ∙ sym (cut_to body k (1 + k) (omega arith) (omega arith) ∙ ap (λ (t : List ℕ). slice_index body k ∷ t) (cut_to body (1 + k) (2 + k) (omega arith) (omega arith))) in
    ap (λ (t : List ℕ). index_bytes comps (index_at comps 0 body) ++ t) tail ∙ sym (cut_narrow k (index_narrow comps) body 0 k (omega arith) are (omega arith))

-- POC

progression_spelled : (comps : ℕ) (body : List ℕ) → AreBytes body → (at : ℕ) → at + progression_size comps ≤ length body
    → drop at body ≡ progression_bytes comps (progression_at comps at body) ++ drop (at + progression_size comps) body
progression_spelled comps body are at room =
    let k : ℕ = index_size comps in
    let narrow = index_narrow comps in
    let chain : drop at body ≡ slice_index body at ∷ (big_bytes k (big_from (at + 1) k body) ++ (big_bytes 2 (big_from (at + 1 + k) 2 body)
    ++ slice_index body (at + 3 + k) ∷ (big_bytes k (big_from (at + 4 + k) k body) ++ slice_index body (at + 4 + 2 * k) ∷ drop (at + progression_size comps) body)))
    = cut_to body at (at + 1) refl (omega arith)
    ∙ ap (λ (t : List ℕ). slice_index body at ∷ t) (cut_narrow k narrow body (at + 1) (at + 1 + k) refl are (omega arith)
    ∙ ap (λ (t : List ℕ). big_bytes k (big_from (at + 1) k body) ++ t) (cut_2_to body (at + 1 + k) (at + 3 + k) (omega arith) are (omega arith)
    ∙ ap (λ (t : List ℕ). big_bytes 2 (big_from (at + 1 + k) 2 body) ++ t) (cut_to body (at + 3 + k) (at + 4 + k) (omega arith) (omega arith)
    ∙ ap (λ (t : List ℕ). slice_index body (at + 3 + k) ∷ t) (cut_narrow k narrow body (at + 4 + k) (at + 4 + 2 * k) (omega arith) are (omega arith)
    ∙ ap (λ (t : List ℕ). big_bytes k (big_from (at + 4 + k) k body) ++ t) (cut_to body (at + 4 + 2 * k) (at + progression_size comps) (omega arith) (omega arith)))))) in
    chain ∙ sym (simp append_assoc)

progression_range : (comps : ℕ) (body : List ℕ) → AreBytes body → (at : ℕ) → ProgressionInRange comps (progression_at comps at body)
progression_range comps body are at =
    let k : ℕ = index_size comps in
    record {
      rs = byte_small body are at;
      cs = small_narrow k (index_narrow comps) body (at + 1) are;
      lye = small_2 body (at + 1 + k) are;
      re = byte_small body are (at + 3 + k);
      ce = small_narrow k (index_narrow comps) body (at + 4 + k) are;
    }

poc_whole : (comps : ℕ) (body : List ℕ) → IsClearPoc comps body → length body / progression_size comps * progression_size comps ≡ length body
poc_whole comps body h = whole_again (length body) (progression_size comps) h.whole

poc_spelled : (comps : ℕ) (body : List ℕ) → AreBytes body → IsClearPoc comps body → poc_bytes comps (poc_at comps body) ≡ body
poc_spelled comps body are h =
    let whole = poc_whole comps body h in
    values_spelled (progression_at comps) (progression_bytes comps) (progression_size comps) body (progression_spelled comps body are) (length body / progression_size comps) 0 (omega (arith, whole))

poc_range : (comps : ℕ) (body : List ℕ) → AreBytes body → FitsLength body → progression_size comps ≤ length body → IsClearPoc comps body → PocInRange comps (poc_at comps body)
poc_range comps body are fits room h =
    let size : ℕ = progression_size comps in
    let count : ℕ = length body / size in
    let whole = poc_whole comps body h in
    let long = length_values (progression_at comps) size count 0 body in
    record {
      some = rw long (some_whole count size (length body) whole (omega arith));
      count = rw long (omega (arith, whole));
      fits = h.fits;
      each = all_values (ProgressionInRange comps) (progression_at comps) size body (progression_range comps body are) count 0;
    }

-- SOT

sot_spelled : (body : List ℕ) → AreBytes body → length body ≡ 8 → sot_bytes (sot_at body) ≡ body
sot_spelled body are size =
    let end : drop 8 body ≡ [] = drop_end body 8 (omega arith) in
    sym (cut_2 body 0 are (omega arith)
    ∙ ap (λ (t : List ℕ). big_bytes 2 (big_from 0 2 body) ++ t) (cut_4 body 2 are (omega arith)
    ∙ ap (λ (t : List ℕ). big_bytes 4 (big_from 2 4 body) ++ t) (cut_to body 6 7 refl (omega arith)
    ∙ ap (λ (t : List ℕ). slice_index body 6 ∷ t) (cut_to body 7 8 refl (omega arith)
    ∙ ap (λ (t : List ℕ). slice_index body 7 ∷ t) end))))

sot_range : (body : List ℕ) → AreBytes body → SotInRange (sot_at body)
sot_range body are = record { tile = small_2 body 0 are; psot = small_4 body 2 are; part = byte_small body are 6; parts = byte_small body are 7 }

-- all kinds

-- a whole segment that violates no rule
pub record IsSound (comps code : ℕ) (body : List ℕ) : Type 0 where
  pub rules : first_true (rules_inside comps code body) ≡ None
  pub are_bytes : AreBytes body
  pub fits : FitsLength body
  pub least : least_length comps code ≤ 2 + length body
  pub sot : code ≡ SOT → length body ≡ 8
  pub follows : has_length code ≡ true

pub record IsSpelled (comps code : ℕ) (body : List ℕ) : Type 0 where
  pub spelled : spelling comps (value_of comps code body) ≡ with_length code body
  pub range : InRange comps (value_of comps code body)

read_siz : (comps : ℕ) (body : List ℕ) → IsSound comps SIZ body → IsSpelled comps SIZ body
read_siz comps body h =
    let fine = clear_siz comps body h.rules in
    record { spelled = ap (with_length SIZ) (siz_spelled body h.are_bytes fine.count); range = siz_range body h.are_bytes fine }

read_cod : (comps : ℕ) (body : List ℕ) → IsSound comps COD body → IsSpelled comps COD body
read_cod comps body h =
    let fine = clear_cod comps body h.rules in
    record { spelled = ap (with_length COD) (cod_spelled body h.are_bytes fine); range = cod_range body h.are_bytes fine }

read_coc : (comps : ℕ) (body : List ℕ) → IsSound comps COC body → IsSpelled comps COC body
read_coc comps body h =
    let fine = clear_coc comps body h.rules in
    record { spelled = ap (with_length COC) (coc_spelled comps body h.are_bytes fine); range = coc_range comps body h.are_bytes fine }

read_qcd : (comps : ℕ) (body : List ℕ) → IsSound comps QCD body → IsSpelled comps QCD body
read_qcd comps body h =
    let fine = clear_qcd comps body h.rules in
    let least = h.least in
    record { spelled = ap (with_length QCD) (quant_spelled 0 body h.are_bytes (omega arith) fine); range = quant_range 0 body h.are_bytes (omega arith) h.fits fine }

read_qcc : (comps : ℕ) (body : List ℕ) → IsSound comps QCC body → IsSpelled comps QCC body
read_qcc comps body h =
    let fine = clear_qcc comps body h.rules in
    let least = h.least in
    let room : index_size comps + 1 ≤ length body = omega arith in
    record { spelled = ap (with_length QCC) (qcc_spelled comps body h.are_bytes room fine); range = qcc_range comps body h.are_bytes room h.fits fine }

read_rgn : (comps : ℕ) (body : List ℕ) → IsSound comps RGN body → IsSpelled comps RGN body
read_rgn comps body h =
    let fine = clear_rgn comps body h.rules in
    record {
      spelled = ap (with_length RGN) (rgn_spelled comps body h.are_bytes fine);
      range = record { index = fine.index; word = index_word comps body h.are_bytes; fits = byte_small body h.are_bytes (1 + index_size comps) };
    }

read_poc : (comps : ℕ) (body : List ℕ) → IsSound comps POC body → IsSpelled comps POC body
read_poc comps body h =
    let fine = clear_poc comps body h.rules in
    let least = h.least in
    record { spelled = ap (with_length POC) (poc_spelled comps body h.are_bytes fine); range = poc_range comps body h.are_bytes h.fits (omega arith) fine }

read_crg : (comps : ℕ) (body : List ℕ) → IsSound comps CRG body → IsSpelled comps CRG body
read_crg comps body h = record { spelled = refl; range = record { some = omega arith; count = h.fits; each = h.are_bytes } }

read_com : (comps : ℕ) (body : List ℕ) → IsSound comps COM body → IsSpelled comps COM body
read_com comps body h = record { spelled = refl; range = record { some = omega arith; count = h.fits; each = h.are_bytes } }

not_short : (n least : ℕ) → ltb (2 + n) (2 + least) ≡ false → least ≤ n
not_short n least h = grind (arith, nat_tests)

read_plt : (comps : ℕ) (body : List ℕ) → IsSound comps PLT body → IsSpelled comps PLT body
unfolding breaks_13
read_plt comps body h =
    let all = rw (plain_rules comps PLT body (record { siz = refl; cod = refl; coc = refl; qcd = refl; qcc = refl; rgn = refl; poc = refl })) at h.rules in
    let long = or_parts (ltb (2 + length body) 3) false (cleared LENGTH_LISTS (breaks_13 PLT body) [] all).0 in
    record { spelled = refl; range = record { some = not_short (length body) 1 long.0; count = h.fits; each = h.are_bytes } }

read_plm : (comps : ℕ) (body : List ℕ) → IsSound comps PLM body → IsSpelled comps PLM body
unfolding breaks_13
read_plm comps body h =
    let all = rw (plain_rules comps PLM body (record { siz = refl; cod = refl; coc = refl; qcd = refl; qcc = refl; rgn = refl; poc = refl })) at h.rules in
    let long = or_parts (ltb (2 + length body) 3) false (cleared LENGTH_LISTS (breaks_13 PLM body) [] all).0 in
    record { spelled = refl; range = record { some = not_short (length body) 1 long.0; count = h.fits; each = h.are_bytes } }

read_tlm : (comps : ℕ) (body : List ℕ) → IsSound comps TLM body → IsSpelled comps TLM body
unfolding breaks_13
read_tlm comps body h =
    let all = rw (plain_rules comps TLM body (record { siz = refl; cod = refl; coc = refl; qcd = refl; qcc = refl; rgn = refl; poc = refl })) at h.rules in
    record { spelled = refl; range = record { some = not_short (length body) 2 (cleared LENGTH_LISTS (breaks_13 TLM body) [] all).0; count = h.fits; each = h.are_bytes } }

read_ppm : (comps : ℕ) (body : List ℕ) → IsSound comps PPM body → IsSpelled comps PPM body
unfolding breaks_13
read_ppm comps body h =
    let all = rw (plain_rules comps PPM body (record { siz = refl; cod = refl; coc = refl; qcd = refl; qcc = refl; rgn = refl; poc = refl })) at h.rules in
    let long = or_parts (ltb (2 + length body) 3) false (cleared LENGTH_LISTS (breaks_13 PPM body) [] all).0 in
    let some : 1 ≤ length body = not_short (length body) 1 long.0 in
    record {
      spelled = ap (with_length PPM) (sym (cut_to body 0 1 refl (omega arith)));
      range = record { index_fits = byte_small body h.are_bytes 0; count = omega (arith, h.fits, length-drop 1 body); each = bytes_drop body 1 h.are_bytes };
    }

read_ppt : (comps : ℕ) (body : List ℕ) → IsSound comps PPT body → IsSpelled comps PPT body
unfolding breaks_13
read_ppt comps body h =
    let all = rw (plain_rules comps PPT body (record { siz = refl; cod = refl; coc = refl; qcd = refl; qcc = refl; rgn = refl; poc = refl })) at h.rules in
    let long = or_parts (ltb (2 + length body) 3) false (cleared LENGTH_LISTS (breaks_13 PPT body) [] all).0 in
    let some : 1 ≤ length body = not_short (length body) 1 long.0 in
    record {
      spelled = ap (with_length PPT) (sym (cut_to body 0 1 refl (omega arith)));
      range = record { index_fits = byte_small body h.are_bytes 0; count = omega (arith, h.fits, length-drop 1 body); each = bytes_drop body 1 h.are_bytes };
    }

read_sot : (comps : ℕ) (body : List ℕ) → IsSound comps SOT body → IsSpelled comps SOT body
read_sot comps body h = record { spelled = ap (with_length SOT) (sot_spelled body h.are_bytes (h.sot refl)); range = sot_range body h.are_bytes }

is_or_not : (a b : ℕ) → (a ≡ b) ⊎ ((a == b) ≡ false)
is_or_not a b = elim (eqb_tells a b) [ inl (is, same) ↦ inl same | inr (is, other) ↦ inr is ]

pub value_spelled : (comps code : ℕ) (body : List ℕ) → IsSound comps code body → IsSpelled comps code body
value_spelled comps code body h =
    elim (is_or_not code SIZ) [
      | inl e ↦ rw e (read_siz comps body (rw e at h))
      | inr not_siz ↦
          elim (is_or_not code COD) [
            | inl e ↦ rw e (read_cod comps body (rw e at h))
            | inr not_cod ↦
                elim (is_or_not code COC) [
                  | inl e ↦ rw e (read_coc comps body (rw e at h))
                  | inr not_coc ↦
                      elim (is_or_not code QCD) [
                        | inl e ↦ rw e (read_qcd comps body (rw e at h))
                        | inr not_qcd ↦
                            elim (is_or_not code QCC) [
                              | inl e ↦ rw e (read_qcc comps body (rw e at h))
                              | inr not_qcc ↦
                                  elim (is_or_not code RGN) [
                                    | inl e ↦ rw e (read_rgn comps body (rw e at h))
                                    | inr not_rgn ↦
                                        elim (is_or_not code POC) [
                                          | inl e ↦ rw e (read_poc comps body (rw e at h))
                                          | inr not_poc ↦
                                              elim (is_or_not code CRG) [
                                                | inl e ↦ rw e (read_crg comps body (rw e at h))
                                                | inr not_crg ↦
                                                    elim (is_or_not code COM) [
                                                      | inl e ↦ rw e (read_com comps body (rw e at h))
                                                      | inr not_com ↦
                                                          elim (is_or_not code PLT) [
                                                            | inl e ↦ rw e (read_plt comps body (rw e at h))
                                                            | inr not_plt ↦
                                                                elim (is_or_not code PLM) [
                                                                  | inl e ↦ rw e (read_plm comps body (rw e at h))
                                                                  | inr not_plm ↦
                                                                      elim (is_or_not code TLM) [
                                                                        | inl e ↦ rw e (read_tlm comps body (rw e at h))
                                                                        | inr not_tlm ↦
                                                                            elim (is_or_not code PPM) [
                                                                              | inl e ↦ rw e (read_ppm comps body (rw e at h))
                                                                              | inr not_ppm ↦
                                                                                  elim (is_or_not code PPT) [
                                                                                    | inl e ↦ rw e (read_ppt comps body (rw e at h))
                                                                                    | inr not_ppt ↦
                                                                                        (let e = sot_left code h.follows not_siz not_cod not_coc not_tlm not_plm not_plt not_qcd not_qcc not_rgn not_poc not_ppm not_ppt not_crg not_com in rw e (read_sot comps body (rw e at h)))
                                                                                  ]
                                                                            ]
                                                                      ]
                                                                ]
                                                          ]
                                                    ]
                                              ]
                                        ]
                                  ]
                            ]
                      ]
                ]
          ]
    ]

-- the whole place

-- a marker and its length in front of what follows
front_spelled : (bytes : List ℕ) → AreBytes bytes → 4 ≤ length bytes → slice_index bytes 0 ≡ 255 → length_at bytes ≡ 2 + length (body_at bytes)
    → bytes ≡ with_length (code_at bytes) (body_at bytes) ++ drop (2 + length_at bytes) bytes
front_spelled bytes are room first size =
    let tail : drop 4 bytes ≡ body_at bytes ++ drop (2 + length_at bytes) bytes
    = sym (take-append-drop (length_at bytes - 2) (drop 4 bytes))
    ∙ ap (λ (t : List ℕ). body_at bytes ++ t) (drop-drop (length_at bytes - 2) 4 bytes ∙ ap (λ (n : ℕ). drop n bytes) (let e : 4 + (length_at bytes - 2) ≡ 2 + length_at bytes = omega arith in e)) in
    cut_to bytes 0 1 refl (omega arith)
    ∙ ap₂ (λ (f : ℕ) (t : List ℕ). f ∷ t) first (cut_to bytes 1 2 refl (omega arith)
    ∙ ap (λ (t : List ℕ). code_at bytes ∷ t) (cut_2 bytes 2 are room
    ∙ ap₂ (λ (n : ℕ) (t : List ℕ). big_bytes 2 n ++ t) size tail))

marker_is : (bytes : List ℕ) → 2 ≤ length bytes → breaks_2 bytes ≡ false → (slice_index bytes 0 ≡ 255) × ((has_length (code_at bytes) || stands_alone (code_at bytes)) ≡ true)
unfolding breaks_2
marker_is bytes room h =
    let long : leb 2 (length bytes) ≡ true = grind (arith, nat_tests) in
    let fields = and_parts (slice_index bytes 0 == 255) (has_length (code_at bytes) || stands_alone (code_at bytes)) (not-false _ (both (leb 2 (length bytes)) _ long h)) in
    let is = fields.0 in
    (grind (arith, nat_tests, is), fields.1)

length_spelled : (comps : ℕ) (bytes : List ℕ) → AreBytes bytes → IsClear comps bytes → has_length (code_at bytes) ≡ true
    → BeginsWith comps bytes (segment_at comps bytes) (drop (size_at bytes) bytes)
length_spelled comps bytes are fine follows =
    let two = two_bytes comps bytes fine.long in
    let room = has_room comps bytes fine.long follows in
    let size = length_body comps bytes room in
    let mark = marker_is bytes two fine.marker in
    let word = small_2 bytes 2 are in
    let inner = All-take (λ (byte : ℕ). byte < 256) (length_at bytes - 2) (drop 4 bytes) (bytes_drop bytes 4 are) in
    let least = room.least in
    let sound : IsSound comps (code_at bytes) (body_at bytes) = record {
      rules = fine.inside;
      are_bytes = inner;
      fits = omega arith;
      least = omega arith;
      sot = λ is. (let ten = room.sot is in omega arith);
      follows = follows;
    } in
    let done = value_spelled comps (code_at bytes) (body_at bytes) sound in
    rw follows (record {
      spelled = front_spelled bytes are room.front mark.0 (sym size) ∙ ap (λ (t : List ℕ). t ++ drop (2 + length_at bytes) bytes) (sym done.spelled);
      range = done.range;
    })

alone_spelled : (comps code : ℕ) → stands_alone code ≡ true → (spelling comps (alone code) ≡ 255 ∷ code ∷ []) × InRange comps (alone code)
alone_spelled comps code h =
    elim (is_or_not code SOC) [
      | inl e ↦ rw e (refl, tt)
      | inr not_soc ↦
          elim (is_or_not code SOD) [
            | inl e ↦ rw e (refl, tt)
            | inr not_sod ↦
                elim (is_or_not code EOC) [
                  | inl e ↦ rw e (refl, tt)
                  | inr not_eoc ↦
                      (let left = rw (not_soc, not_sod, not_eoc) at h in
                      let low = and_parts (leb 48 code) (leb code 63) left in
                      let l0 = low.0 in let l1 = low.1 in
                      rw (not_soc, not_sod, not_eoc) (refl, (grind (arith, nat_tests, l0), grind (arith, nat_tests, l1))))
                ]
          ]
    ]

marker_spelled : (comps : ℕ) (bytes : List ℕ) → IsClear comps bytes → has_length (code_at bytes) ≡ false
    → BeginsWith comps bytes (segment_at comps bytes) (drop (size_at bytes) bytes)
marker_spelled comps bytes fine none =
    let two = two_bytes comps bytes fine.long in
    let mark = marker_is bytes two fine.marker in
    let known : stands_alone (code_at bytes) ≡ true = rw none at mark.1 in
    let done = alone_spelled comps (code_at bytes) known in
    let front : bytes ≡ (255 ∷ code_at bytes ∷ []) ++ drop 2 bytes
    = cut_to bytes 0 1 refl (omega arith) ∙ ap₂ (λ (f : ℕ) (t : List ℕ). f ∷ t) mark.0 (cut_to bytes 1 2 refl (omega arith)) in
    rw none (record {
      spelled = front ∙ ap (λ (t : List ℕ). t ++ drop 2 bytes) (sym done.0);
      range = done.1;
    })

pub segment_is_spelled : (comps : ℕ) (bytes : List ℕ) → AreBytes bytes → first_broken comps bytes ≡ None
    → BeginsWith comps bytes (segment_at comps bytes) (drop (size_at bytes) bytes)
segment_is_spelled comps bytes are h =
    let fine = clear comps bytes h in
    elim (cases_Bool (has_length (code_at bytes))) [ inl follows ↦ length_spelled comps bytes are fine follows | inr none ↦ marker_spelled comps bytes fine none ]

pub bytes_are : (bytes : List ℕ) → ((i : ℕ) → slice_index bytes i < 256) → AreBytes bytes
bytes_are bytes each = All-from_get_or (λ (byte : ℕ). byte < 256) bytes 0 (λ i inside. each i)

pub begins : (comps : ℕ) (bytes : List ℕ) (s : Segment) (size : ℕ) → AreBytes bytes → StandsAt comps bytes s size → BeginsWith comps bytes s (drop size bytes)
begins comps bytes s size are h =
    let done = segment_is_spelled comps bytes are h.rules in
    let P : Segment → Type 0 = λ x. BeginsWith comps bytes x (drop size bytes) in
    let Q : ℕ → Type 0 = λ n. BeginsWith comps bytes (segment_at comps bytes) (drop n bytes) in
    subst P h.value (subst Q h.takes done)
