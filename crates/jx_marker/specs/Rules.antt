-- The rules 1 to 13 at one place, and the first of them that the place violates. Rules 3 to 13 speak of a whole
-- segment: of its marker's second byte and of the bytes after its length.
use Rattle.std.specs.Prelude.{ℕ, ◌+◌, ◌-◌, ◌*◌, ◌/◌, ◌%◌, ◌^◌, ◌==◌, ◌&&◌, ◌||◌, not, nat_lt, nat_le, Bool, List, [], ◌∷◌, length, drop, Option, find, slice_index, if◌then◌else◌}
use Rattle.std.specs.Option.{option_map}
use Rattle.std.specs.List.{list_all, list_any}
use Rattle.byteorder.specs.Endian.{big_from}
use Rattle.jx_marker.specs.declared.CompSize.{CompSize}
use Rattle.jx_marker.specs.declared.Siz.{Siz}
use Rattle.jx_marker.specs.declared.Progression.{Progression}
use Rattle.jx_marker.specs.Markers.{has_length, stands_alone, index_size, entry_size, progression_size}
use Rattle.jx_marker.specs.Values.{siz_at, poc_at, index_at}
use Rattle.jx_marker.specs.Segments.{code_at, length_at, body_at}
use Rattle.jx_marker.specs.RuleNumbers.{CAPABILITIES, CODING, COMPONENT, LENGTH, LENGTH_LISTS, MARKER, PRECINCTS, PROGRESSIONS, QUANTIZATION, REGION, SIZ_FIELDS, SIZ_LENGTH, STYLE}
use Rattle.jx_marker.specs.Codes.{SIZ, COD, COC, TLM, PLM, PLT, QCD, QCC, RGN, POC, PPM, PPT, SOT}

-- rule 2: two bytes that are no marker (Table A.2), or SOP or EPH, which stand in tile data alone (A.8)
unfoldable pub breaks_2 : List ℕ → Bool
breaks_2 bytes = nat_le 2 (length bytes) && not ((slice_index bytes 0 == 255) && (has_length (code_at bytes) || stands_alone (code_at bytes)))

-- the least length of a segment: up to Csiz in SIZ, to the number of levels in COD and COC, to Sqcd or Srgn in
-- QCD, QCC and RGN, and one entry in POC
abbrev pub least_length : ℕ → ℕ → ℕ
least_length comps code =
    if code == SIZ then 38
    else if code == COD then 8
    else if code == COC then 4 + index_size comps
    else if code == QCD then 3
    else if code == QCC then 3 + index_size comps
    else if code == RGN then 3 + index_size comps
    else if code == POC then 2 + progression_size comps
    else 2

-- rule 1: no room for a marker or a length, or a length that is too short, past the end, or not the one of SOT
-- (A.1.1, A.4.2)
unfoldable pub breaks_1 : ℕ → List ℕ → Bool
breaks_1 comps bytes = nat_lt (length bytes) 2
    || (has_length (code_at bytes)
    && (nat_lt (length bytes) 4
    || (nat_lt (length bytes) (2 + length_at bytes)
    || (nat_lt (length_at bytes) (least_length comps (code_at bytes))
    || ((code_at bytes == SOT) && not (length_at bytes == 10))))))

-- rule 3: the length of SIZ isn't that of its components (A.5.1)
unfoldable pub breaks_3 : ℕ → List ℕ → Bool
breaks_3 code body = (code == SIZ) && not (2 + length body == 38 + 3 * big_from 34 2 body)

-- one axis: the canvas isn't empty, and the first tile meets it (B.2, B.3)
abbrev pub axis_fits : ℕ → ℕ → ℕ → ℕ → Bool
axis_fits end begin tile first = nat_lt 0 tile && (nat_le first begin && (nat_lt begin end && nat_lt begin (first + tile)))

-- a depth of at most 38 (Table A.11), and subsampling factors that aren't 0 (Table A.9)
abbrev pub comp_size_fits : CompSize → Bool
comp_size_fits comp = nat_le (comp.ssiz % 128 + 1) 38 && (nat_lt 0 comp.dx && nat_lt 0 comp.dy)

-- all that SIZ says, but for Rsiz (Table A.9)
abbrev pub siz_fits : Siz → Bool
siz_fits siz = nat_lt 0 (length siz.comps) && (nat_le (length siz.comps) 16384
    && (axis_fits siz.x1 siz.x0 siz.tw siz.tx && (axis_fits siz.y1 siz.y0 siz.th siz.ty && list_all comp_size_fits siz.comps)))

-- rule 4: the number of components, a depth, a subsampling factor, or the canvas and its tiles
unfoldable pub breaks_4 : ℕ → List ℕ → Bool
breaks_4 code body = (code == SIZ) && not (siz_fits (siz_at body))

-- rule 5: Rsiz asks for Part 2 or Part 15 (bits 15 and 14; Table A.10)
unfoldable pub breaks_5 : ℕ → List ℕ → Bool
breaks_5 code body = (code == SIZ) && nat_le (2 ^ 14) (siz_at body).rsiz

-- where the number of levels stands in COD and in COC
abbrev pub shape_place : ℕ → ℕ → ℕ
shape_place comps code = if code == COD then 5 else 1 + index_size comps

-- from the number of levels on: the length, by the flags' bit 0, and the ranges (Table A.15)
abbrev pub shape_fits : ℕ → ℕ → List ℕ → Bool
shape_fits flags at body = (length body == at + 5 + (if flags % 2 == 1 then 1 + slice_index body at else 0))
    && (nat_le (slice_index body at) 32 && (nat_le (slice_index body (at + 1)) 8 && (nat_le (slice_index body (at + 2)) 8
    && (nat_le (slice_index body (at + 1) + slice_index body (at + 2)) 8 && nat_le (slice_index body (at + 4)) 1))))

-- one of the five progression orders has this number (Table A.16)
abbrev pub is_order : ℕ → Bool
is_order number = nat_le number 4

-- Scod's bits 3 to 7, the order, the layers and the component transform (Tables A.13, A.14)
abbrev pub cod_fits : List ℕ → Bool
cod_fits body = nat_lt (slice_index body 0) 8 && (is_order (slice_index body 1) && (nat_lt 0 (big_from 2 2 body) && nat_le (slice_index body 4) 1))

-- rule 6: the length of COD or COC isn't that of its fields, or a field is out of its range (A.6.1, A.6.2)
unfoldable pub breaks_6 : ℕ → ℕ → List ℕ → Bool
breaks_6 comps code body =
    ((code == COD) && not (cod_fits body && shape_fits (slice_index body 0) 5 body))
    || ((code == COC) && not (nat_lt (slice_index body (index_size comps)) 2 && shape_fits (slice_index body (index_size comps)) (1 + index_size comps) body))

abbrev pub is_coding : ℕ → Bool
is_coding code = (code == COD) || (code == COC)

-- rule 7: bit 6 or 7 of the code-block style (Table A.19)
unfoldable pub breaks_7 : ℕ → ℕ → List ℕ → Bool
breaks_7 comps code body = is_coding code && nat_le 64 (slice_index body (shape_place comps code + 3))

-- a precinct byte with an exponent of 0 (Table A.21)
abbrev pub has_zero_exponent : ℕ → Bool
has_zero_exponent sizes = (sizes % 16 == 0) || (sizes / 16 == 0)

-- rule 8: a precinct exponent of 0 above resolution 0 (Table A.21)
unfoldable pub breaks_8 : ℕ → ℕ → List ℕ → Bool
breaks_8 comps code body = is_coding code && list_any has_zero_exponent (drop (shape_place comps code + 6) body)

-- the quantization style, and whole entries after Sqcd, which stands at this place (Table A.28)
abbrev pub quant_fits : ℕ → List ℕ → Bool
quant_fits at body = nat_le (slice_index body at % 32) 2
    && (nat_le (entry_size (slice_index body at)) (length body - (at + 1)) && ((length body - (at + 1)) % entry_size (slice_index body at) == 0))

-- rule 9: a quantization style over 2, no whole entry, or half an entry (A.6.4, A.6.5)
unfoldable pub breaks_9 : ℕ → ℕ → List ℕ → Bool
breaks_9 comps code body = ((code == QCD) && not (quant_fits 0 body)) || ((code == QCC) && not (quant_fits (index_size comps) body))

-- rule 10: RGN's length isn't that of its fields, or Srgn isn't 0 (A.6.3)
unfoldable pub breaks_10 : ℕ → ℕ → List ℕ → Bool
breaks_10 comps code body = (code == RGN) && not ((length body == index_size comps + 2) && (slice_index body (index_size comps) == 0))

-- an entry of POC that names some resolutions, components and layers, and one of the five orders
abbrev pub progression_fits : Progression → Bool
progression_fits entry = nat_lt entry.rs entry.re && (((entry.ce == 0) || nat_lt entry.cs entry.ce) && (nat_lt 0 entry.lye && is_order entry.order))

-- rule 11: POC isn't whole entries, or one of them is out of range (A.6.6)
unfoldable pub breaks_11 : ℕ → ℕ → List ℕ → Bool
breaks_11 comps code body = (code == POC) && not ((length body % progression_size comps == 0) && list_all progression_fits (poc_at comps body))

-- rule 12: a component's index isn't below the number of components (A.6.2, A.6.3, A.6.5)
unfoldable pub breaks_12 : ℕ → ℕ → List ℕ → Bool
breaks_12 comps code body = ((code == COC) || ((code == QCC) || (code == RGN))) && nat_le comps (index_at comps 0 body)

-- rule 13: PLT, PLM, PPM or PPT is shorter than 3, or TLM than 4 (A.7)
unfoldable pub breaks_13 : ℕ → List ℕ → Bool
breaks_13 code body = (((code == PLM) || ((code == PLT) || ((code == PPM) || (code == PPT)))) && nat_lt (2 + length body) 3) || ((code == TLM) && nat_lt (2 + length body) 4)

-- the number of the first test that is true
abbrev pub first_true : List (ℕ × Bool) → Option ℕ
first_true tests = option_map (λ (test : ℕ × Bool). test.0) (find (λ (test : ℕ × Bool). test.1) tests)

-- the rules of a whole segment, in the order in which they are tested
abbrev pub rules_inside : ℕ → ℕ → List ℕ → List (ℕ × Bool)
rules_inside comps code body =
    (SIZ_LENGTH, breaks_3 code body) ∷ (SIZ_FIELDS, breaks_4 code body) ∷ (CAPABILITIES, breaks_5 code body) ∷ (CODING, breaks_6 comps code body)
    ∷ (STYLE, breaks_7 comps code body) ∷ (PRECINCTS, breaks_8 comps code body) ∷ (QUANTIZATION, breaks_9 comps code body) ∷ (REGION, breaks_10 comps code body)
    ∷ (PROGRESSIONS, breaks_11 comps code body) ∷ (LENGTH_LISTS, breaks_13 code body) ∷ (COMPONENT, breaks_12 comps code body) ∷ []

-- the rules 1 to 13, in the order in which they are tested at a place
abbrev pub rules_at : ℕ → List ℕ → List (ℕ × Bool)
rules_at comps bytes = (MARKER, breaks_2 bytes) ∷ (LENGTH, breaks_1 comps bytes) ∷ rules_inside comps (code_at bytes) (body_at bytes)

-- the first rule that is violated at the front of these bytes
abbrev pub first_broken : ℕ → List ℕ → Option ℕ
first_broken comps bytes = first_true (rules_at comps bytes)
