-- What the fields of a segment are that violates no rule.
use Rattle.std.proofs.Common.{◌≡◌, ◌<◌, ◌≤◌, ◌+◌, ◌-◌, ◌*◌, ◌%◌, ◌^◌, ℕ, List, ◌∷◌, [], length, drop, arith, refl, Bool, true, false, ◌||◌, ◌==◌, None, slice_index, cond, leb, ltb}
use Rattle.std.specs.List.{list_all, list_any}
use Rattle.std.proofs.lemmas.Bool.Decides.{nat_tests}
use Rattle.byteorder.specs.Endian.{big_from}
use Rattle.jx_base.specs.OrderNumbers.{IsOrderNumber}
use Rattle.jx_marker.specs.Codes.{SIZ, COD, COC, TLM, PLM, PLT, QCD, QCC, RGN, POC, PPM, PPT, CRG, COM, SOT}
use Rattle.jx_marker.specs.Markers.{has_length, index_size, entry_size, progression_size}
use Rattle.jx_marker.specs.Values.{siz_at, poc_at, index_at}
use Rattle.jx_marker.specs.RuleNumbers.{CAPABILITIES, CODING, COMPONENT, LENGTH_LISTS, PRECINCTS, PROGRESSIONS, QUANTIZATION, REGION, SIZ_FIELDS, SIZ_LENGTH, STYLE}
use Rattle.jx_marker.specs.Rules.{breaks_3, breaks_4, breaks_5, breaks_6, breaks_7, breaks_8, breaks_9, breaks_10, breaks_11, breaks_12, breaks_13, first_true, rules_inside, siz_fits, shape_fits, cod_fits, quant_fits, has_zero_exponent, progression_fits}
use Rattle.jx_marker.proofs.RuleLemmas.{cleared, siz_rules, cod_rules, coc_rules, qcd_rules, qcc_rules, rgn_rules, poc_rules, plain_rules}
use Rattle.std.proofs.lemmas.Bool.{or_parts, and_parts, not-false, leb-true, leb-false, ltb-true, eqb-true}

last_holds : (x : Bool) → (x || false) ≡ true → x ≡ true
last_holds true h = refl
last_holds false h = absurd (cc)

pub record IsClearSiz (body : List ℕ) : Type 0 where
  pub count : length body ≡ 36 + 3 * big_from 34 2 body
  pub fits : siz_fits (siz_at body) ≡ true
  pub rsiz : big_from 0 2 body < 2 ^ 14

pub clear_siz : (comps : ℕ) (body : List ℕ) → first_true (rules_inside comps SIZ body) ≡ None → IsClearSiz body
unfolding breaks_3 breaks_4 breaks_5
clear_siz comps body h =
    let all = rw siz_rules at h in
    let third = cleared SIZ_LENGTH (breaks_3 SIZ body) ((SIZ_FIELDS, breaks_4 SIZ body) ∷ (CAPABILITIES, breaks_5 SIZ body) ∷ []) all in
    let fourth = cleared SIZ_FIELDS (breaks_4 SIZ body) ((CAPABILITIES, breaks_5 SIZ body) ∷ []) third.1 in
    let fifth = cleared CAPABILITIES (breaks_5 SIZ body) [] fourth.1 in
    let length_is = not-false _ third.0 in
    let rsiz_is = fifth.0 in
    record {
      count = grind (arith, nat_tests, length_is);
      fits = not-false _ fourth.0;
      rsiz = grind (arith, nat_tests, rsiz_is);
    }

pub record IsClearShape (flags at : ℕ) (body : List ℕ) : Type 0 where
  pub size : length body ≡ at + 5 + (cond (flags % 2 == 1) (1 + slice_index body at) 0)
  pub levels : slice_index body at ≤ 32
  pub xcb : slice_index body (at + 1) ≤ 8
  pub ycb : slice_index body (at + 2) ≤ 8
  pub area : slice_index body (at + 1) + slice_index body (at + 2) ≤ 8
  pub wavelet : slice_index body (at + 4) ≤ 1
  pub style : slice_index body (at + 3) < 64
  pub above : list_any has_zero_exponent (drop (at + 6) body) ≡ false

clear_shape : (flags at : ℕ) (body : List ℕ) → shape_fits flags at body ≡ true → leb 64 (slice_index body (at + 3)) ≡ false
    → list_any has_zero_exponent (drop (at + 6) body) ≡ false → IsClearShape flags at body
clear_shape flags at body h style above =
    let size = and_parts _ _ h in
    let levels = and_parts _ _ size.1 in
    let xcb = and_parts _ _ levels.1 in
    let ycb = and_parts _ _ xcb.1 in
    let area = and_parts _ _ ycb.1 in
    record {
      size = eqb-true _ _ size.0;
      levels = leb-true _ _ levels.0;
      xcb = leb-true _ _ xcb.0;
      ycb = leb-true _ _ ycb.0;
      area = leb-true _ _ area.0;
      wavelet = leb-true _ _ area.1;
      style = leb-false _ _ style;
      above = above;
    }

pub record IsClearCod (body : List ℕ) : Type 0 where
  pub flags : slice_index body 0 < 8
  pub order : IsOrderNumber (slice_index body 1)
  pub layers : 0 < big_from 2 2 body
  pub transform : slice_index body 4 ≤ 1
  pub shape : IsClearShape (slice_index body 0) 5 body

pub clear_cod : (comps : ℕ) (body : List ℕ) → first_true (rules_inside comps COD body) ≡ None → IsClearCod body
unfolding breaks_6 breaks_7 breaks_8
clear_cod comps body h =
    let all = rw cod_rules at h in
    let sixth = cleared CODING (breaks_6 comps COD body) ((STYLE, breaks_7 comps COD body) ∷ (PRECINCTS, breaks_8 comps COD body) ∷ []) all in
    let seventh = cleared STYLE (breaks_7 comps COD body) ((PRECINCTS, breaks_8 comps COD body) ∷ []) sixth.1 in
    let eighth = cleared PRECINCTS (breaks_8 comps COD body) [] seventh.1 in
    let fields = and_parts (cod_fits body) (shape_fits (slice_index body 0) 5 body) (not-false _ (or_parts _ _ sixth.0).0) in
    let flags = and_parts _ _ fields.0 in
    let order = and_parts _ _ flags.1 in
    let layers = and_parts _ _ order.1 in
    record {
      flags = ltb-true _ _ flags.0;
      order = leb-true _ _ order.0;
      layers = ltb-true _ _ layers.0;
      transform = leb-true _ _ layers.1;
      shape = clear_shape (slice_index body 0) 5 body fields.1 seventh.0 eighth.0;
    }

pub record IsClearCoc (comps : ℕ) (body : List ℕ) : Type 0 where
  pub flags : slice_index body (index_size comps) < 2
  pub shape : IsClearShape (slice_index body (index_size comps)) (1 + index_size comps) body
  pub index : index_at comps 0 body < comps

pub clear_coc : (comps : ℕ) (body : List ℕ) → first_true (rules_inside comps COC body) ≡ None → IsClearCoc comps body
unfolding breaks_6 breaks_7 breaks_8 breaks_12
clear_coc comps body h =
    let all = rw coc_rules at h in
    let sixth = cleared CODING (breaks_6 comps COC body) ((STYLE, breaks_7 comps COC body) ∷ (PRECINCTS, breaks_8 comps COC body) ∷ (COMPONENT, breaks_12 comps COC body) ∷ []) all in
    let seventh = cleared STYLE (breaks_7 comps COC body) ((PRECINCTS, breaks_8 comps COC body) ∷ (COMPONENT, breaks_12 comps COC body) ∷ []) sixth.1 in
    let eighth = cleared PRECINCTS (breaks_8 comps COC body) ((COMPONENT, breaks_12 comps COC body) ∷ []) seventh.1 in
    let twelfth = cleared COMPONENT (breaks_12 comps COC body) [] eighth.1 in
    let fields = and_parts _ (shape_fits (slice_index body (index_size comps)) (1 + index_size comps) body) (not-false _ sixth.0) in
    record {
      flags = ltb-true _ _ fields.0;
      shape = clear_shape (slice_index body (index_size comps)) (1 + index_size comps) body fields.1 seventh.0 eighth.0;
      index = leb-false _ _ twelfth.0;
    }

pub record IsClearQuant (at : ℕ) (body : List ℕ) : Type 0 where
  pub style : slice_index body at % 32 ≤ 2
  pub some : entry_size (slice_index body at) ≤ length body - (at + 1)
  pub whole : (length body - (at + 1)) % entry_size (slice_index body at) ≡ 0

clear_quant : (at : ℕ) (body : List ℕ) → quant_fits at body ≡ true → IsClearQuant at body
clear_quant at body h =
    let style = and_parts _ _ h in
    let some = and_parts _ _ style.1 in
    record { style = leb-true _ _ style.0; some = leb-true _ _ some.0; whole = eqb-true _ _ some.1 }

pub clear_qcd : (comps : ℕ) (body : List ℕ) → first_true (rules_inside comps QCD body) ≡ None → IsClearQuant 0 body
unfolding breaks_9
clear_qcd comps body h =
    let ninth = cleared QUANTIZATION (breaks_9 comps QCD body) [] (rw qcd_rules at h) in
    clear_quant 0 body (not-false _ (or_parts _ _ ninth.0).0)

pub record IsClearQcc (comps : ℕ) (body : List ℕ) : Type 0 where
  pub quant : IsClearQuant (index_size comps) body
  pub index : index_at comps 0 body < comps

pub clear_qcc : (comps : ℕ) (body : List ℕ) → first_true (rules_inside comps QCC body) ≡ None → IsClearQcc comps body
unfolding breaks_9 breaks_12
clear_qcc comps body h =
    let ninth = cleared QUANTIZATION (breaks_9 comps QCC body) ((COMPONENT, breaks_12 comps QCC body) ∷ []) (rw qcc_rules at h) in
    let twelfth = cleared COMPONENT (breaks_12 comps QCC body) [] ninth.1 in
    record { quant = clear_quant (index_size comps) body (not-false _ ninth.0); index = leb-false _ _ twelfth.0 }

pub record IsClearRgn (comps : ℕ) (body : List ℕ) : Type 0 where
  pub size : length body ≡ index_size comps + 2
  pub style : slice_index body (index_size comps) ≡ 0
  pub index : index_at comps 0 body < comps

pub clear_rgn : (comps : ℕ) (body : List ℕ) → first_true (rules_inside comps RGN body) ≡ None → IsClearRgn comps body
unfolding breaks_10 breaks_12
clear_rgn comps body h =
    let tenth = cleared REGION (breaks_10 comps RGN body) ((COMPONENT, breaks_12 comps RGN body) ∷ []) (rw rgn_rules at h) in
    let twelfth = cleared COMPONENT (breaks_12 comps RGN body) [] tenth.1 in
    let fields = and_parts _ _ (not-false _ tenth.0) in
    record { size = eqb-true _ _ fields.0; style = eqb-true _ _ fields.1; index = leb-false _ _ twelfth.0 }

pub record IsClearPoc (comps : ℕ) (body : List ℕ) : Type 0 where
  pub whole : length body % progression_size comps ≡ 0
  pub fits : list_all progression_fits (poc_at comps body) ≡ true

pub clear_poc : (comps : ℕ) (body : List ℕ) → first_true (rules_inside comps POC body) ≡ None → IsClearPoc comps body
unfolding breaks_11
clear_poc comps body h =
    let eleventh = cleared PROGRESSIONS (breaks_11 comps POC body) [] (rw poc_rules at h) in
    let fields = and_parts _ _ (not-false _ eleventh.0) in
    record { whole = eqb-true _ _ fields.0; fits = fields.1 }

not_short : (n : ℕ) → ltb (2 + n) 3 ≡ false → 1 ≤ n
not_short n h = grind (arith, nat_tests)

pub clear_ppm : (comps : ℕ) (body : List ℕ) → first_true (rules_inside comps PPM body) ≡ None → 1 ≤ length body
unfolding breaks_13
clear_ppm comps body h =
    let all = rw (plain_rules comps PPM body (record { siz = refl; cod = refl; coc = refl; qcd = refl; qcc = refl; rgn = refl; poc = refl })) at h in
    let long = or_parts (ltb (2 + length body) 3) false (cleared LENGTH_LISTS (breaks_13 PPM body) [] all).0 in
    not_short (length body) long.0

pub clear_ppt : (comps : ℕ) (body : List ℕ) → first_true (rules_inside comps PPT body) ≡ None → 1 ≤ length body
unfolding breaks_13
clear_ppt comps body h =
    let all = rw (plain_rules comps PPT body (record { siz = refl; cod = refl; coc = refl; qcd = refl; qcc = refl; rgn = refl; poc = refl })) at h in
    let long = or_parts (ltb (2 + length body) 3) false (cleared LENGTH_LISTS (breaks_13 PPT body) [] all).0 in
    not_short (length body) long.0

-- the only marker with a length that is left
pub sot_left : (code : ℕ) → has_length code ≡ true → (code == SIZ) ≡ false → (code == COD) ≡ false → (code == COC) ≡ false → (code == TLM) ≡ false → (code == PLM) ≡ false
    → (code == PLT) ≡ false → (code == QCD) ≡ false → (code == QCC) ≡ false → (code == RGN) ≡ false → (code == POC) ≡ false → (code == PPM) ≡ false → (code == PPT) ≡ false
    → (code == CRG) ≡ false → (code == COM) ≡ false → code ≡ SOT
sot_left code h n81 n82 n83 n85 n87 n88 n92 n93 n94 n95 n96 n97 n99 n100 =
    let left = rw (n81, n82, n83, n85, n87, n88, n92, n93, n94, n95, n96, n97, n99, n100) at h in
    eqb-true code SOT (last_holds (code == SOT) left)
