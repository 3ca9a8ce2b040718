-- Which rules speak of which segment, and what follows where none is violated.
use Rattle.std.proofs.Common.{◌≡◌, ◌<◌, ◌≤◌, ◌+◌, ℕ, List, ◌∷◌, [], length, arith, refl, Bool, true, false, ◌&&◌, ◌==◌, not, None, ltb, leb, length-take, length-drop}
use Rattle.std.proofs.lemmas.Bool.Decides.{nat_tests}
use Rattle.byteorder.specs.Endian.{big_from}
use Rattle.jx_marker.specs.Codes.{SIZ, COD, COC, TLM, PLM, PLT, QCD, QCC, RGN, POC, PPM, PPT, SOT}
use Rattle.jx_marker.specs.Markers.{has_length}
use Rattle.std.specs.List.{list_all}
use Rattle.jx_marker.specs.Values.{values_from, comp_size_at}
use Rattle.jx_marker.proofs.ValueLemmas.{length_values}
use Rattle.jx_marker.specs.Segments.{code_at, length_at, body_at}
use Rattle.jx_marker.specs.RuleNumbers.{CAPABILITIES, CODING, COMPONENT, LENGTH, LENGTH_LISTS, MARKER, PRECINCTS, PROGRESSIONS, QUANTIZATION, REGION, SIZ_FIELDS, SIZ_LENGTH, STYLE}
use Rattle.jx_marker.specs.Rules.{breaks_1, breaks_2, breaks_3, breaks_4, breaks_5, breaks_6, breaks_7, breaks_8, breaks_9, breaks_10, breaks_11, breaks_12, breaks_13, first_true, rules_inside, first_broken, least_length, axis_fits, comp_size_fits}
use Rattle.std.proofs.lemmas.Bool.{or_parts}

pub siz_rules : (comps : ℕ) (body : List ℕ) → first_true (rules_inside comps SIZ body) ≡ first_true ((SIZ_LENGTH, breaks_3 SIZ body) ∷ (SIZ_FIELDS, breaks_4 SIZ body) ∷ (CAPABILITIES, breaks_5 SIZ body) ∷ [])
unfolding breaks_6 breaks_7 breaks_8 breaks_9 breaks_10 breaks_11 breaks_12 breaks_13
siz_rules comps body = refl

pub cod_rules : (comps : ℕ) (body : List ℕ) → first_true (rules_inside comps COD body) ≡ first_true ((CODING, breaks_6 comps COD body) ∷ (STYLE, breaks_7 comps COD body) ∷ (PRECINCTS, breaks_8 comps COD body) ∷ [])
unfolding breaks_3 breaks_4 breaks_5 breaks_9 breaks_10 breaks_11 breaks_12 breaks_13
cod_rules comps body = refl

pub coc_rules : (comps : ℕ) (body : List ℕ) → first_true (rules_inside comps COC body) ≡ first_true ((CODING, breaks_6 comps COC body) ∷ (STYLE, breaks_7 comps COC body) ∷ (PRECINCTS, breaks_8 comps COC body) ∷ (COMPONENT, breaks_12 comps COC body) ∷ [])
unfolding breaks_3 breaks_4 breaks_5 breaks_9 breaks_10 breaks_11 breaks_13
coc_rules comps body = refl

pub qcd_rules : (comps : ℕ) (body : List ℕ) → first_true (rules_inside comps QCD body) ≡ first_true ((QUANTIZATION, breaks_9 comps QCD body) ∷ [])
unfolding breaks_3 breaks_4 breaks_5 breaks_6 breaks_7 breaks_8 breaks_10 breaks_11 breaks_12 breaks_13
qcd_rules comps body = refl

pub qcc_rules : (comps : ℕ) (body : List ℕ) → first_true (rules_inside comps QCC body) ≡ first_true ((QUANTIZATION, breaks_9 comps QCC body) ∷ (COMPONENT, breaks_12 comps QCC body) ∷ [])
unfolding breaks_3 breaks_4 breaks_5 breaks_6 breaks_7 breaks_8 breaks_10 breaks_11 breaks_13
qcc_rules comps body = refl

pub rgn_rules : (comps : ℕ) (body : List ℕ) → first_true (rules_inside comps RGN body) ≡ first_true ((REGION, breaks_10 comps RGN body) ∷ (COMPONENT, breaks_12 comps RGN body) ∷ [])
unfolding breaks_3 breaks_4 breaks_5 breaks_6 breaks_7 breaks_8 breaks_9 breaks_11 breaks_13
rgn_rules comps body = refl

pub poc_rules : (comps : ℕ) (body : List ℕ) → first_true (rules_inside comps POC body) ≡ first_true ((PROGRESSIONS, breaks_11 comps POC body) ∷ [])
unfolding breaks_3 breaks_4 breaks_5 breaks_6 breaks_7 breaks_8 breaks_9 breaks_10 breaks_12 breaks_13
poc_rules comps body = refl

-- a segment of none of these kinds
pub record IsPlain (code : ℕ) : Type 0 where
  pub siz : (code == SIZ) ≡ false
  pub cod : (code == COD) ≡ false
  pub coc : (code == COC) ≡ false
  pub qcd : (code == QCD) ≡ false
  pub qcc : (code == QCC) ≡ false
  pub rgn : (code == RGN) ≡ false
  pub poc : (code == POC) ≡ false

pub plain_rules : (comps code : ℕ) (body : List ℕ) → IsPlain code → first_true (rules_inside comps code body) ≡ first_true ((LENGTH_LISTS, breaks_13 code body) ∷ [])
unfolding breaks_3 breaks_4 breaks_5 breaks_6 breaks_7 breaks_8 breaks_9 breaks_10 breaks_11 breaks_12
plain_rules comps code body plain = rw (plain.siz, plain.cod, plain.coc, plain.qcd, plain.qcc, plain.rgn, plain.poc) refl

pub alone_rules : (comps code : ℕ) (body : List ℕ) → has_length code ≡ false → first_true (rules_inside comps code body) ≡ None
unfolding breaks_13
alone_rules comps code body none =
    let siz = or_parts (code == SIZ) _ none in
    let cod = or_parts (code == COD) _ siz.1 in
    let coc = or_parts (code == COC) _ cod.1 in
    let tlm = or_parts (code == TLM) _ coc.1 in
    let plm = or_parts (code == PLM) _ tlm.1 in
    let plt = or_parts (code == PLT) _ plm.1 in
    let qcd = or_parts (code == QCD) _ plt.1 in
    let qcc = or_parts (code == QCC) _ qcd.1 in
    let rgn = or_parts (code == RGN) _ qcc.1 in
    let poc = or_parts (code == POC) _ rgn.1 in
    let ppm = or_parts (code == PPM) _ poc.1 in
    let ppt = or_parts (code == PPT) _ ppm.1 in
    rw (plain_rules comps code body (record { siz = siz.0; cod = cod.0; coc = coc.0; qcd = qcd.0; qcc = qcc.0; rgn = rgn.0; poc = poc.0 }), plm.0, plt.0, ppm.0, ppt.0, tlm.0) refl

-- a test that comes first in a list of which none is true
pub cleared : (n : ℕ) (test : Bool) (rest : List (ℕ × Bool)) → first_true ((n, test) ∷ rest) ≡ None → (test ≡ false) × (first_true rest ≡ None)
cleared n true rest h = absurd (cc)
cleared n false rest h = (refl, h)

-- no rule is violated at a place
pub record IsClear (comps : ℕ) (bytes : List ℕ) : Type 0 where
  pub marker : breaks_2 bytes ≡ false
  pub long : breaks_1 comps bytes ≡ false
  pub inside : first_true (rules_inside comps (code_at bytes) (body_at bytes)) ≡ None

pub clear : (comps : ℕ) (bytes : List ℕ) → first_broken comps bytes ≡ None → IsClear comps bytes
clear comps bytes h =
    let inside : List (ℕ × Bool) = rules_inside comps (code_at bytes) (body_at bytes) in
    let second = cleared MARKER (breaks_2 bytes) ((LENGTH, breaks_1 comps bytes) ∷ inside) h in
    let first = cleared LENGTH (breaks_1 comps bytes) inside second.1 in
    record { marker = second.0; long = first.0; inside = first.1 }

pub clear_broken : (comps : ℕ) (bytes : List ℕ) → IsClear comps bytes → first_broken comps bytes ≡ None
clear_broken comps bytes h = rw (h.marker, h.long) h.inside

pub two_bytes : (comps : ℕ) (bytes : List ℕ) → breaks_1 comps bytes ≡ false → 2 ≤ length bytes
unfolding breaks_1
two_bytes comps bytes h = let none = or_parts (ltb (length bytes) 2) _ h in grind (arith, nat_tests)

-- the room that rule 1 sees to where a length follows
pub record HasRoom (comps : ℕ) (bytes : List ℕ) : Type 0 where
  pub front : 4 ≤ length bytes
  pub whole : 2 + length_at bytes ≤ length bytes
  pub least : least_length comps (code_at bytes) ≤ length_at bytes
  pub sot : code_at bytes ≡ SOT → length_at bytes ≡ 10

pub both : (x y : Bool) → x ≡ true → (x && y) ≡ false → y ≡ false
both true y h e = e
both false y h e = absurd (cc)

pub has_room : (comps : ℕ) (bytes : List ℕ) → breaks_1 comps bytes ≡ false → has_length (code_at bytes) ≡ true → HasRoom comps bytes
unfolding breaks_1
has_room comps bytes h follows =
    let short = or_parts (ltb (length bytes) 2) _ h in
    let inner = both (has_length (code_at bytes)) _ follows short.1 in
    let front = or_parts (ltb (length bytes) 4) _ inner in
    let whole = or_parts (ltb (length bytes) (2 + length_at bytes)) _ front.1 in
    let least = or_parts (ltb (length_at bytes) (least_length comps (code_at bytes))) _ whole.1 in
    let f0 = front.0 in let w0 = whole.0 in let l0 = least.0 in let l1 = least.1 in
    record {
      front = grind (arith, nat_tests, f0);
      whole = grind (arith, nat_tests, w0);
      least = grind (arith, nat_tests, l0);
      sot = λ is. grind (arith, nat_tests, l1, is);
    }

pub least_two : (comps code : ℕ) → 2 ≤ least_length comps code
least_two comps code = grind (arith, nat_tests)

pub length_body : (comps : ℕ) (bytes : List ℕ) → HasRoom comps bytes → 2 + length (body_at bytes) ≡ length_at bytes
length_body comps bytes room =
    let two : 2 ≤ length_at bytes = omega (arith, room.least, least_two comps (code_at bytes)) in
    let whole = room.whole in
    simp (length-take, length-drop) (omega arith)

-- rule 4 where all but the components was seen to be right
pub canvas_broken : (body : List ℕ) → 0 < big_from 34 2 body → big_from 34 2 body ≤ 16384
    → axis_fits (big_from 2 4 body) (big_from 10 4 body) (big_from 18 4 body) (big_from 26 4 body) ≡ true
    → axis_fits (big_from 6 4 body) (big_from 14 4 body) (big_from 22 4 body) (big_from 30 4 body) ≡ true
    → breaks_4 SIZ body ≡ not (list_all comp_size_fits (values_from comp_size_at 3 (big_from 34 2 body) 36 body))
unfolding breaks_4
canvas_broken body some most across down =
    let count = length_values comp_size_at 3 (big_from 34 2 body) 36 body in
    let least : ltb 0 (big_from 34 2 body) ≡ true = grind (arith, nat_tests) in
    let greatest : leb (big_from 34 2 body) 16384 ≡ true = grind (arith, nat_tests) in
    rw (count, least, greatest, across, down) refl
