-- What is spelled violates no rule and is read as what it was: kind by kind.
use Rattle.std.proofs.Common.{◌≡◌, ◌<◌, ◌≤◌, ◌+◌, ◌-◌, ◌*◌, ◌^◌, ◌%◌, ◌/◌, ℕ, zero, suc, List, ◌∷◌, ◌++◌, [], length, drop, arith, append_assoc, refl, ap, ap₂, sym, ◌∙◌, Bool, true, false, ◌&&◌, ◌||◌, ◌==◌, not, slice_index, ltb, leb, cond, length-append, min, inl, inr, ◌⊎◌}
use Rattle.std.proofs.lemmas.Bool.Decides.{nat_tests}
use Rattle.std.proofs.Math.Nat.{mul-div_cancel, mul-mod_left, mul-le-mul_right}
use Rattle.std.specs.List.{flat_map, list_all, list_any}
use Rattle.std.proofs.lemmas.List.Elements.{recursion_from_All}
use Rattle.byteorder.specs.Endian.{big_from, big_bytes}
use Rattle.byteorder.specs.Numbers.{big_number-reads_back, length-bytes_high_first}
use Rattle.jx_marker.specs.Codes.{SOC, SIZ, COD, COC, TLM, PLM, PLT, QCD, QCC, RGN, POC, PPM, PPT, CRG, COM, SOT, SOD, EOC}
use Rattle.jx_marker.specs.declared.CompSize.{CompSize}
use Rattle.jx_marker.specs.declared.Siz.{Siz}
use Rattle.jx_marker.specs.declared.Shape.{Shape}
use Rattle.jx_marker.specs.declared.Cod.{Cod}
use Rattle.jx_marker.specs.declared.Quant.{Quant}
use Rattle.jx_marker.specs.declared.Progression.{Progression}
use Rattle.jx_marker.specs.declared.Sot.{Sot}
use Rattle.jx_marker.specs.declared.Segment.{Segment}
use Rattle.jx_marker.specs.declared.Segment.TheVariants as segment
use Rattle.jx_marker.specs.Markers.{has_length, stands_alone, index_size, entry_size, progression_size}
use Rattle.jx_marker.specs.Values.{values_from, comp_size_at, comp_size_bytes, siz_at, siz_bytes, canvas_bytes, shape_at, shape_bytes, precinct_bit, scod, cod_at, cod_bytes, index_at, index_bytes, entry_at, quant_at, quant_bytes, progression_at, progression_bytes, poc_at, poc_bytes, sot_at, sot_bytes}
use Rattle.jx_marker.specs.Segments.{spelling, with_length, value_of, body_at, segment_at}
use Rattle.jx_marker.specs.Rules.{breaks_1, breaks_2, breaks_3, breaks_4, breaks_5, breaks_6, breaks_7, breaks_8, breaks_9, breaks_10, breaks_11, breaks_12, breaks_13, siz_fits, shape_fits, cod_fits, quant_fits, has_zero_exponent, progression_fits}
use Rattle.jx_marker.specs.Ranges.{InRange, SizInRange, CompSizeInRange, ShapeInRange, CodInRange, CocInRange, QuantInRange, QccInRange, RgnInRange, ProgressionInRange, PocInRange, BytesInRange, PackedInRange, SotInRange}
use Rattle.jx_marker.specs.Laws.{StandsAt}
use Rattle.jx_marker.proofs.RuleLemmas.{siz_rules, cod_rules, coc_rules, qcd_rules, qcc_rules, rgn_rules, poc_rules, plain_rules, alone_rules, clear_broken}
use Rattle.jx_marker.proofs.PutLemmas.{length_siz, length_cod, length_quant, length_qcc, length_poc, length_progression, most_comps}
use Rattle.jx_marker.proofs.FrontLemmas.{whole_read, values_read, slice_past, big_from_past}
use Rattle.std.proofs.lemmas.Bool.{eq-eqb, le-leb, lt-ltb, lt-leb, and_from}
use Rattle.jx_marker.proofs.ReadLemmas.{entry_narrow, index_most, index_narrow}

-- SIZ

comp_size_read : (front rest : List ℕ) (comp : CompSize) → CompSizeInRange comp → comp_size_at (length front) (front ++ (comp_size_bytes comp ++ rest)) ≡ comp
comp_size_read front rest comp range =
    let here : length front ≡ length front + 0 = omega arith in
    let ssiz : slice_index (front ++ (comp_size_bytes comp ++ rest)) (length front) ≡ comp.ssiz = rw here (slice_past front (comp_size_bytes comp ++ rest) 0) in
    let dx = slice_past front (comp_size_bytes comp ++ rest) 1 in
    let dy = slice_past front (comp_size_bytes comp ++ rest) 2 in
    rw (ssiz, dx, dy) refl

siz_count : (siz : Siz) → SizInRange siz → big_from 34 2 (siz_bytes siz) ≡ length siz.comps
unfolding canvas_bytes
siz_count siz range = big_number-reads_back 2 (length siz.comps) [] (let most = most_comps siz range in omega arith)

siz_comps : (siz : Siz) → SizInRange siz → values_from comp_size_at 3 (length siz.comps) 36 (siz_bytes siz) ≡ siz.comps
unfolding canvas_bytes
siz_comps siz range =
    let front : List ℕ = big_bytes 2 siz.rsiz ++ (canvas_bytes siz ++ big_bytes 2 (length siz.comps)) in
    values_read comp_size_at comp_size_bytes 3 CompSizeInRange (λ comp. refl) comp_size_read siz.comps front 36 refl (recursion_from_All _ _ range.each)

same_siz : (a b : Siz) → a.rsiz ≡ b.rsiz → a.x1 ≡ b.x1 → a.y1 ≡ b.y1 → a.x0 ≡ b.x0 → a.y0 ≡ b.y0 → a.tw ≡ b.tw → a.th ≡ b.th → a.tx ≡ b.tx → a.ty ≡ b.ty → a.comps ≡ b.comps → a ≡ b
same_siz a b e0 e1 e2 e3 e4 e5 e6 e7 e8 e9 = rw (← e0, ← e1, ← e2, ← e3, ← e4, ← e5, ← e6, ← e7, ← e8, ← e9) refl

siz_value : (siz : Siz) → SizInRange siz → siz_at (siz_bytes siz) ≡ siz
unfolding canvas_bytes
siz_value siz range =
    let rsiz : big_from 0 2 (siz_bytes siz) ≡ siz.rsiz = big_number-reads_back 2 siz.rsiz [] (omega (arith, range.rsiz)) in
    let x1 : big_from 2 4 (siz_bytes siz) ≡ siz.x1 = big_number-reads_back 4 siz.x1 [] range.x1 in
    let y1 : big_from 6 4 (siz_bytes siz) ≡ siz.y1 = big_number-reads_back 4 siz.y1 [] range.y1 in
    let x0 : big_from 10 4 (siz_bytes siz) ≡ siz.x0 = big_number-reads_back 4 siz.x0 [] range.x0 in
    let y0 : big_from 14 4 (siz_bytes siz) ≡ siz.y0 = big_number-reads_back 4 siz.y0 [] range.y0 in
    let tw : big_from 18 4 (siz_bytes siz) ≡ siz.tw = big_number-reads_back 4 siz.tw [] range.tw in
    let th : big_from 22 4 (siz_bytes siz) ≡ siz.th = big_number-reads_back 4 siz.th [] range.th in
    let tx : big_from 26 4 (siz_bytes siz) ≡ siz.tx = big_number-reads_back 4 siz.tx [] range.tx in
    let ty : big_from 30 4 (siz_bytes siz) ≡ siz.ty = big_number-reads_back 4 siz.ty [] range.ty in
    let comps : values_from comp_size_at 3 (big_from 34 2 (siz_bytes siz)) 36 (siz_bytes siz) ≡ siz.comps
    = ap (λ (n : ℕ). values_from comp_size_at 3 n 36 (siz_bytes siz)) (siz_count siz range) ∙ siz_comps siz range in
    same_siz (siz_at (siz_bytes siz)) siz rsiz x1 y1 x0 y0 tw th tx ty comps

siz_is_read : (comps : ℕ) (siz : Siz) (rest : List ℕ) → SizInRange siz → StandsAt comps (spelling comps (segment.Siz siz) ++ rest) (segment.Siz siz) (length (spelling comps (segment.Siz siz)))
unfolding breaks_3 breaks_4 breaks_5
siz_is_read comps siz rest range =
    let body : List ℕ = siz_bytes siz in
    let most = most_comps siz range in
    let size = length_siz siz in
    let value = siz_value siz range in
    let third : breaks_3 SIZ body ≡ false = rw (siz_count siz range, size) (grind (arith, nat_tests)) in
    let fourth : breaks_4 SIZ body ≡ false = ap (λ (s : Siz). not (siz_fits s)) value ∙ ap not range.fits in
    let low = range.rsiz in
    let small : leb (2 ^ 14) siz.rsiz ≡ false = grind (arith, nat_tests) in
    let fifth : breaks_5 SIZ body ≡ false = ap (λ (s : Siz). leb (2 ^ 14) s.rsiz) value ∙ small in
    whole_read comps SIZ body rest (segment.Siz siz) (record {
      follows = refl;
      fits = omega arith;
      least = omega arith;
      sot = refl;
      inside = siz_rules comps body ∙ rw (third, fourth, fifth) refl;
    }) (ap segment.Siz value)

-- COD and COC

drop_past : (front xs : List ℕ) (k : ℕ) → drop (length front + k) (front ++ xs) ≡ drop k xs
drop_past [] xs k = let e : 0 + k ≡ k = omega arith in rw e refl
drop_past (a ∷ front) xs k = let e : suc (length front) + k ≡ suc (length front + k) = omega arith in rw e (drop_past front xs k)

zero_or_one : (n : ℕ) → n ≤ 1 → (n ≡ 0) ⊎ (n ≡ 1)
zero_or_one zero h = inl refl
zero_or_one (suc n) h = inr (omega arith)

count_read : (n levels : ℕ) → n ≡ cond (n == 0) 0 (1 + levels) → cond (min 1 n == 1) (1 + levels) 0 ≡ n
count_read zero levels h = refl
count_read (suc n) levels h =
    let one : min 1 (suc n) ≡ 1 = omega arith in
    let none : (suc n == 0) ≡ false = grind (arith, nat_tests) in
    let is = rw none at h in
    rw one (sym is)

shape_fits_read : (flags : ℕ) (shape : Shape) → ShapeInRange shape → flags % 2 ≡ precinct_bit shape → (front : List ℕ) (at : ℕ) → at ≡ length front
    → shape_fits flags at (front ++ shape_bytes shape) ≡ true
shape_fits_read flags shape range bit front at place =
    let rest : List ℕ = shape_bytes shape in
    let here : length front ≡ length front + 0 = omega arith in
    let levels : slice_index (front ++ rest) (length front) ≡ shape.levels = rw here (slice_past front rest 0) in
    let xcb = slice_past front rest 1 in
    let ycb = slice_past front rest 2 in
    let wavelet = slice_past front rest 4 in
    let count = count_read (length shape.precincts) shape.levels range.count in
    let size : length (front ++ rest) ≡ length front + 5 + length shape.precincts = omega (arith, length-append front rest) in
    let low_x = range.least_xcb in let low_y = range.least_ycb in let area = range.area in let most_x = range.xcb in let most_y = range.ycb in
    rw place (rw (levels, xcb, ycb, wavelet, bit, count)
    (and_from _ _ (eq-eqb (length (front ++ rest)) (length front + 5 + length shape.precincts) size)
    (and_from _ _ (le-leb shape.levels 32 range.levels)
    (and_from _ _ (le-leb (shape.xcb - 2) 8 (omega arith))
    (and_from _ _ (le-leb (shape.ycb - 2) 8 (omega arith))
    (and_from _ _ (le-leb (shape.xcb - 2 + (shape.ycb - 2)) 8 (omega arith)) (le-leb shape.wavelet 1 range.wavelet)))))))

most_precincts : (shape : Shape) → ShapeInRange shape → length shape.precincts ≤ 33
most_precincts shape range = let count = range.count in let levels = range.levels in grind (arith, nat_tests)

style_read : (shape : Shape) → ShapeInRange shape → (front : List ℕ) (at : ℕ) → at ≡ length front → leb 64 (slice_index (front ++ shape_bytes shape) (at + 3)) ≡ false
style_read shape range front at place = rw place (rw (slice_past front (shape_bytes shape) 3) (lt-leb 64 shape.style range.style))

above_read : (shape : Shape) → ShapeInRange shape → (front : List ℕ) (at : ℕ) → at ≡ length front
    → list_any has_zero_exponent (drop (at + 6) (front ++ shape_bytes shape)) ≡ false
above_read shape range front at place = rw place (rw (drop_past front (shape_bytes shape) 6) range.above)

-- the three flags of Scod
sop_read_0 : (sop eph : Bool) → ((0 + (cond sop 2 0 + cond eph 4 0)) / 2 % 2 == 1) ≡ sop
sop_read_0 true true = refl
sop_read_0 true false = refl
sop_read_0 false true = refl
sop_read_0 false false = refl

sop_read_1 : (sop eph : Bool) → ((1 + (cond sop 2 0 + cond eph 4 0)) / 2 % 2 == 1) ≡ sop
sop_read_1 true true = refl
sop_read_1 true false = refl
sop_read_1 false true = refl
sop_read_1 false false = refl

eph_read_0 : (sop eph : Bool) → ((0 + (cond sop 2 0 + cond eph 4 0)) / 4 % 2 == 1) ≡ eph
eph_read_0 true true = refl
eph_read_0 true false = refl
eph_read_0 false true = refl
eph_read_0 false false = refl

eph_read_1 : (sop eph : Bool) → ((1 + (cond sop 2 0 + cond eph 4 0)) / 4 % 2 == 1) ≡ eph
eph_read_1 true true = refl
eph_read_1 true false = refl
eph_read_1 false true = refl
eph_read_1 false false = refl

bit_read_0 : (sop eph : Bool) → ((0 + (cond sop 2 0 + cond eph 4 0)) % 2) ≡ 0
bit_read_0 true true = refl
bit_read_0 true false = refl
bit_read_0 false true = refl
bit_read_0 false false = refl

bit_read_1 : (sop eph : Bool) → ((1 + (cond sop 2 0 + cond eph 4 0)) % 2) ≡ 1
bit_read_1 true true = refl
bit_read_1 true false = refl
bit_read_1 false true = refl
bit_read_1 false false = refl

sop_read : (bit : ℕ) → bit ≤ 1 → (sop eph : Bool) → ((bit + (cond sop 2 0 + cond eph 4 0)) / 2 % 2 == 1) ≡ sop
sop_read bit small sop eph = elim (zero_or_one bit small) [ inl e ↦ rw e (sop_read_0 sop eph) | inr e ↦ rw e (sop_read_1 sop eph) ]

eph_read : (bit : ℕ) → bit ≤ 1 → (sop eph : Bool) → ((bit + (cond sop 2 0 + cond eph 4 0)) / 4 % 2 == 1) ≡ eph
eph_read bit small sop eph = elim (zero_or_one bit small) [ inl e ↦ rw e (eph_read_0 sop eph) | inr e ↦ rw e (eph_read_1 sop eph) ]

bit_read : (bit : ℕ) → bit ≤ 1 → (sop eph : Bool) → (bit + (cond sop 2 0 + cond eph 4 0)) % 2 ≡ bit
bit_read bit small sop eph = elim (zero_or_one bit small) [ inl e ↦ rw e (bit_read_0 sop eph) | inr e ↦ rw e (bit_read_1 sop eph) ]

scod_small : (bit : ℕ) → bit ≤ 1 → (sop eph : Bool) → bit + (cond sop 2 0 + cond eph 4 0) < 8
scod_small bit small true true = omega arith
scod_small bit small true false = omega arith
scod_small bit small false true = omega arith
scod_small bit small false false = omega arith

bit_small : (shape : Shape) → precinct_bit shape ≤ 1
bit_small shape = omega arith

shape_value : (shape : Shape) → ShapeInRange shape → (front : List ℕ) → (at : ℕ) → at ≡ length front → shape_at at (front ++ shape_bytes shape) ≡ shape
shape_value shape range front at place =
    let rest : List ℕ = shape_bytes shape in
    let here : length front ≡ length front + 0 = omega arith in
    let levels : slice_index (front ++ rest) (length front) ≡ shape.levels = rw here (slice_past front rest 0) in
    let xcb : slice_index (front ++ rest) (length front + 1) + 2 ≡ shape.xcb = rw (slice_past front rest 1) (let low = range.least_xcb in omega arith) in
    let ycb : slice_index (front ++ rest) (length front + 2) + 2 ≡ shape.ycb = rw (slice_past front rest 2) (let low = range.least_ycb in omega arith) in
    let style = slice_past front rest 3 in
    let wavelet = slice_past front rest 4 in
    let precincts : drop (length front + 5) (front ++ rest) ≡ shape.precincts = drop_past front rest 5 in
    rw place (rw (levels, xcb, ycb, style, wavelet, precincts) refl)

same_cod : (a b : Cod) → a.sop ≡ b.sop → a.eph ≡ b.eph → a.order ≡ b.order → a.layers ≡ b.layers → a.transform ≡ b.transform → a.shape ≡ b.shape → a ≡ b
same_cod a b e0 e1 e2 e3 e4 e5 = rw (← e0, ← e1, ← e2, ← e3, ← e4, ← e5) refl

cod_value : (cod : Cod) → CodInRange cod → cod_at (cod_bytes cod) ≡ cod
cod_value cod range =
    let bit = bit_small cod.shape in
    let sop : (scod cod / 2 % 2 == 1) ≡ cod.sop = sop_read (precinct_bit cod.shape) bit cod.sop cod.eph in
    let eph : (scod cod / 4 % 2 == 1) ≡ cod.eph = eph_read (precinct_bit cod.shape) bit cod.sop cod.eph in
    let layers : big_from 2 2 (cod_bytes cod) ≡ cod.layers = big_number-reads_back 2 cod.layers [] range.layers in
    let front : List ℕ = scod cod ∷ cod.order ∷ (big_bytes 2 cod.layers ++ cod.transform ∷ []) in
    let shape : shape_at 5 (cod_bytes cod) ≡ cod.shape = shape_value cod.shape range.shape front 5 refl in
    same_cod (cod_at (cod_bytes cod)) cod sop eph refl layers refl shape

cod_is_read : (comps : ℕ) (cod : Cod) (rest : List ℕ) → CodInRange cod → StandsAt comps (spelling comps (segment.Cod cod) ++ rest) (segment.Cod cod) (length (spelling comps (segment.Cod cod)))
unfolding breaks_6 breaks_7 breaks_8
cod_is_read comps cod rest range =
    let body : List ℕ = cod_bytes cod in
    let small = bit_small cod.shape in
    let front : List ℕ = scod cod ∷ cod.order ∷ (big_bytes 2 cod.layers ++ cod.transform ∷ []) in
    let layers : big_from 2 2 body ≡ cod.layers = big_number-reads_back 2 cod.layers [] range.layers in
    let bit : scod cod % 2 ≡ precinct_bit cod.shape = bit_read (precinct_bit cod.shape) small cod.sop cod.eph in
    let shape : shape_fits (scod cod) 5 body ≡ true = shape_fits_read (scod cod) cod.shape range.shape bit front 5 refl in
    let flags : ltb (scod cod) 8 ≡ true = lt-ltb (scod cod) 8 (scod_small (precinct_bit cod.shape) small cod.sop cod.eph) in
    let fields : cod_fits body ≡ true = rw layers (and_from _ _ flags (and_from _ _ (le-leb cod.order 4 range.order) (and_from _ _ (lt-ltb 0 cod.layers range.some) (le-leb cod.transform 1 range.transform)))) in
    let sixth : breaks_6 comps COD body ≡ false = ap (λ (x : Bool). not x || false) (and_from (cod_fits body) (shape_fits (scod cod) 5 body) fields shape) in
    let seventh : breaks_7 comps COD body ≡ false = style_read cod.shape range.shape front 5 refl in
    let eighth : breaks_8 comps COD body ≡ false = above_read cod.shape range.shape front 5 refl in
    let size = length_cod cod in
    let count = most_precincts cod.shape range.shape in
    whole_read comps COD body rest (segment.Cod cod) (record {
      follows = refl;
      fits = omega arith;
      least = omega arith;
      sot = refl;
      inside = cod_rules comps body ∙ rw (sixth, seventh, eighth) refl;
    }) (ap segment.Cod (cod_value cod range))

-- a component's index

index_fits : (comps comp : ℕ) → comp < comps → comp < 2 ^ 16 → comp < 256 ^ index_size comps
index_fits comps comp below word = grind (arith, nat_tests)

mul_some : (n size : ℕ) → 0 < n → size ≤ n * size
mul_some n size some = let one = mul-le-mul_right size some in omega (arith, one)

index_read : (comps comp : ℕ) (rest : List ℕ) → comp < 256 ^ index_size comps → index_at comps 0 (index_bytes comps comp ++ rest) ≡ comp
index_read comps comp rest fits = big_number-reads_back (index_size comps) comp rest fits

index_length : (comps comp : ℕ) → length (index_bytes comps comp) ≡ index_size comps
index_length comps comp = length-bytes_high_first (index_size comps) comp

coc_front : (comps comp : ℕ) (shape : Shape) → 1 + index_size comps ≡ length (index_bytes comps comp ++ precinct_bit shape ∷ [])
coc_front comps comp shape = omega (arith, length-append (index_bytes comps comp) (precinct_bit shape ∷ []), index_length comps comp)

flag_read : (comps comp : ℕ) (rest : List ℕ) (flag : ℕ) → slice_index (index_bytes comps comp ++ flag ∷ rest) (index_size comps) ≡ flag
flag_read comps comp rest flag =
    let here : index_size comps ≡ length (index_bytes comps comp) + 0 = omega (arith, index_length comps comp) in
    ap (λ (n : ℕ). slice_index (index_bytes comps comp ++ flag ∷ rest) n) here ∙ slice_past (index_bytes comps comp) (flag ∷ rest) 0

abbrev coc_bytes : ℕ → ℕ → Shape → List ℕ
coc_bytes comps comp shape = index_bytes comps comp ++ precinct_bit shape ∷ shape_bytes shape

-- the index and the flag in front, as one list
coc_parts : (comps comp : ℕ) (shape : Shape) → coc_bytes comps comp shape ≡ (index_bytes comps comp ++ precinct_bit shape ∷ []) ++ shape_bytes shape
coc_parts comps comp shape = sym (append_assoc (index_bytes comps comp) (precinct_bit shape ∷ []) (shape_bytes shape))

bit_of_bit : (shape : Shape) → precinct_bit shape % 2 ≡ precinct_bit shape
bit_of_bit shape = elim (zero_or_one (precinct_bit shape) (bit_small shape)) [ inl e ↦ rw e refl | inr e ↦ rw e refl ]

coc_value : (comps comp : ℕ) (shape : Shape) → CocInRange comps comp shape
    → value_of comps COC (coc_bytes comps comp shape) ≡ segment.Coc comp shape
coc_value comps comp shape range =
    let front : List ℕ = index_bytes comps comp ++ precinct_bit shape ∷ [] in
    let body : List ℕ = coc_bytes comps comp shape in
    let comp_is : index_at comps 0 body ≡ comp = index_read comps comp (precinct_bit shape ∷ shape_bytes shape) (index_fits comps comp range.index range.word) in
    let shape_is : shape_at (1 + index_size comps) body ≡ shape
    = ap (λ (b : List ℕ). shape_at (1 + index_size comps) b) (coc_parts comps comp shape) ∙ shape_value shape range.fits front (1 + index_size comps) (coc_front comps comp shape) in
    ap₂ (λ (c : ℕ) (s : Shape). segment.Coc c s) comp_is shape_is

coc_is_read : (comps comp : ℕ) (shape : Shape) (rest : List ℕ) → CocInRange comps comp shape
    → StandsAt comps (spelling comps (segment.Coc comp shape) ++ rest) (segment.Coc comp shape) (length (spelling comps (segment.Coc comp shape)))
unfolding breaks_6 breaks_7 breaks_8 breaks_12
coc_is_read comps comp shape rest range =
    let front : List ℕ = index_bytes comps comp ++ precinct_bit shape ∷ [] in
    let body : List ℕ = coc_bytes comps comp shape in
    let parts = coc_parts comps comp shape in
    let place = coc_front comps comp shape in
    let at : ℕ = 1 + index_size comps in
    let bit : slice_index body (index_size comps) ≡ precinct_bit shape = flag_read comps comp (shape_bytes shape) (precinct_bit shape) in
    let small = bit_small shape in
    let fits : shape_fits (precinct_bit shape) at body ≡ true
    = ap (λ (b : List ℕ). shape_fits (precinct_bit shape) at b) parts ∙ shape_fits_read (precinct_bit shape) shape range.fits (bit_of_bit shape) front at place in
    let flag : ltb (precinct_bit shape) 2 ≡ true = lt-ltb (precinct_bit shape) 2 (omega arith) in
    let sixth : breaks_6 comps COC body ≡ false
    = ap (λ (f : ℕ). not (ltb f 2 && shape_fits f at body)) bit ∙ ap not (and_from (ltb (precinct_bit shape) 2) (shape_fits (precinct_bit shape) at body) flag fits) in
    let seventh : breaks_7 comps COC body ≡ false = ap (λ (b : List ℕ). leb 64 (slice_index b (at + 3))) parts ∙ style_read shape range.fits front at place in
    let eighth : breaks_8 comps COC body ≡ false = ap (λ (b : List ℕ). list_any has_zero_exponent (drop (at + 6) b)) parts ∙ above_read shape range.fits front at place in
    let index : index_at comps 0 body ≡ comp = index_read comps comp (precinct_bit shape ∷ shape_bytes shape) (index_fits comps comp range.index range.word) in
    let twelfth : breaks_12 comps COC body ≡ false = ap (λ (n : ℕ). leb comps n) index ∙ lt-leb comps comp range.index in
    let size : length body ≡ index_size comps + (6 + length shape.precincts)
    = omega (arith, length-append (index_bytes comps comp) (precinct_bit shape ∷ shape_bytes shape), index_length comps comp) in
    let count = most_precincts shape range.fits in
    let narrow = index_most comps in
    whole_read comps COC body rest (segment.Coc comp shape) (record {
      follows = refl;
      fits = omega arith;
      least = omega arith;
      sot = refl;
      inside = coc_rules comps body ∙ rw (sixth, seventh, eighth, twelfth) refl;
    }) (coc_value comps comp shape range)

-- QCD and QCC

entry_sizes : (sqcd : ℕ) → (1 ≤ entry_size sqcd) × (entry_size sqcd ≤ 2)
entry_sizes sqcd = elim (entry_narrow sqcd) [ inl e ↦ (omega arith, omega arith) | inr e ↦ (omega arith, omega arith) ]

number_read : (size : ℕ) (front rest : List ℕ) (value : ℕ) → value < 256 ^ size → entry_at size (length front) (front ++ (big_bytes size value ++ rest)) ≡ value
number_read size front rest value fits =
    let here : length front ≡ length front + 0 = omega arith in
    ap (λ (n : ℕ). big_from n size (front ++ (big_bytes size value ++ rest))) here
    ∙ big_from_past front (big_bytes size value ++ rest) size 0 ∙ big_number-reads_back size value rest fits

quant_length : (front : List ℕ) (quant : Quant) → length (front ++ quant_bytes quant) - (length front + 1) ≡ length quant.entries * entry_size quant.sqcd
quant_length front quant = omega (arith, length-append front (quant_bytes quant), length_quant quant)

quant_value : (quant : Quant) (space : ℕ) → QuantInRange quant space → (front : List ℕ) (at : ℕ) → at ≡ length front → quant_at at (front ++ quant_bytes quant) ≡ quant
quant_value quant space range front at place =
    let body : List ℕ = front ++ quant_bytes quant in
    let size : ℕ = entry_size quant.sqcd in
    let here : length front ≡ length front + 0 = omega arith in
    let sqcd : slice_index body (length front) ≡ quant.sqcd = ap (λ (n : ℕ). slice_index body n) here ∙ slice_past front (quant_bytes quant) 0 in
    let count : (length body - (length front + 1)) / size ≡ length quant.entries
    = ap (λ (n : ℕ). n / size) (quant_length front quant) ∙ mul-div_cancel (length quant.entries) (entry_sizes quant.sqcd).0 in
    let longer : List ℕ = front ++ quant.sqcd ∷ [] in
    let after : length front + 1 ≡ length longer = omega (arith, length-append front (quant.sqcd ∷ [])) in
    let parts : longer ++ flat_map (big_bytes size) quant.entries ≡ body = append_assoc front (quant.sqcd ∷ []) (flat_map (big_bytes size) quant.entries) in
    let entries : values_from (entry_at size) size (length quant.entries) (length front + 1) body ≡ quant.entries
    = ap (λ (b : List ℕ). values_from (entry_at size) size (length quant.entries) (length front + 1) b) (sym parts)
    ∙ values_read (entry_at size) (big_bytes size) size (λ (e : ℕ). e < 256 ^ size) (length-bytes_high_first size) (number_read size) quant.entries longer (length front + 1) after (recursion_from_All _ _ range.entries) in
    rw place (rw (sqcd, count) (ap (λ (es : List ℕ). record quant { entries = es }) entries))

quant_fits_read : (quant : Quant) (space : ℕ) → QuantInRange quant space → (front : List ℕ) (at : ℕ) → at ≡ length front → quant_fits at (front ++ quant_bytes quant) ≡ true
quant_fits_read quant space range front at place =
    let body : List ℕ = front ++ quant_bytes quant in
    let size : ℕ = entry_size quant.sqcd in
    let here : length front ≡ length front + 0 = omega arith in
    let sqcd : slice_index body (length front) ≡ quant.sqcd = ap (λ (n : ℕ). slice_index body n) here ∙ slice_past front (quant_bytes quant) 0 in
    let some : size ≤ length quant.entries * size = mul_some (length quant.entries) size range.some in
    let whole : length quant.entries * size % size ≡ 0 = mul-mod_left (length quant.entries) size in
    rw place (rw (sqcd, quant_length front quant) (and_from _ _ (le-leb (quant.sqcd % 32) 2 range.style)
    (and_from _ _ (le-leb size (length quant.entries * size) some) (eq-eqb (length quant.entries * size % size) 0 whole))))

qcd_is_read : (comps : ℕ) (quant : Quant) (rest : List ℕ) → QuantInRange quant 0 → StandsAt comps (spelling comps (segment.Qcd quant) ++ rest) (segment.Qcd quant) (length (spelling comps (segment.Qcd quant)))
unfolding breaks_9
qcd_is_read comps quant rest range =
    let body : List ℕ = quant_bytes quant in
    let fits : quant_fits 0 body ≡ true = quant_fits_read quant 0 range [] 0 refl in
    let ninth : breaks_9 comps QCD body ≡ false = ap (λ (x : Bool). not x || false) fits in
    let size = length_quant quant in
    let count = range.count in
    whole_read comps QCD body rest (segment.Qcd quant) (record {
      follows = refl;
      fits = omega arith;
      least = omega arith;
      sot = refl;
      inside = qcd_rules comps body ∙ rw ninth refl;
    }) (ap segment.Qcd (quant_value quant 0 range [] 0 refl))

qcc_is_read : (comps comp : ℕ) (quant : Quant) (rest : List ℕ) → QccInRange comps comp quant
    → StandsAt comps (spelling comps (segment.Qcc comp quant) ++ rest) (segment.Qcc comp quant) (length (spelling comps (segment.Qcc comp quant)))
unfolding breaks_9 breaks_12
qcc_is_read comps comp quant rest range =
    let front : List ℕ = index_bytes comps comp in
    let body : List ℕ = front ++ quant_bytes quant in
    let place = sym (index_length comps comp) in
    let fits : quant_fits (index_size comps) body ≡ true = quant_fits_read quant (index_size comps) range.fits front (index_size comps) place in
    let ninth : breaks_9 comps QCC body ≡ false = ap not fits in
    let index : index_at comps 0 body ≡ comp = index_read comps comp (quant_bytes quant) (index_fits comps comp range.index range.word) in
    let twelfth : breaks_12 comps QCC body ≡ false = ap (λ (n : ℕ). leb comps n) index ∙ lt-leb comps comp range.index in
    let size = length_qcc comps comp quant in
    let count = range.fits.count in
    let value : quant_at (index_size comps) body ≡ quant = quant_value quant (index_size comps) range.fits front (index_size comps) place in
    whole_read comps QCC body rest (segment.Qcc comp quant) (record {
      follows = refl;
      fits = omega arith;
      least = omega arith;
      sot = refl;
      inside = qcc_rules comps body ∙ rw (ninth, twelfth) refl;
    }) (ap₂ (λ (c : ℕ) (q : Quant). segment.Qcc c q) index value)

-- RGN

rgn_is_read : (comps comp shift : ℕ) (rest : List ℕ) → RgnInRange comps comp shift
    → StandsAt comps (spelling comps (segment.Rgn comp shift) ++ rest) (segment.Rgn comp shift) (length (spelling comps (segment.Rgn comp shift)))
unfolding breaks_10 breaks_12
rgn_is_read comps comp shift rest range =
    let body : List ℕ = index_bytes comps comp ++ 0 ∷ shift ∷ [] in
    let size : length body ≡ index_size comps + 2 = omega (arith, length-append (index_bytes comps comp) (0 ∷ shift ∷ []), index_length comps comp) in
    let style : slice_index body (index_size comps) ≡ 0 = flag_read comps comp (shift ∷ []) 0 in
    let tenth : breaks_10 comps RGN body ≡ false
    = ap not (and_from (length body == index_size comps + 2) (slice_index body (index_size comps) == 0) (eq-eqb (length body) (index_size comps + 2) size) (eq-eqb (slice_index body (index_size comps)) 0 style)) in
    let index : index_at comps 0 body ≡ comp = index_read comps comp (0 ∷ shift ∷ []) (index_fits comps comp range.index range.word) in
    let twelfth : breaks_12 comps RGN body ≡ false = ap (λ (n : ℕ). leb comps n) index ∙ lt-leb comps comp range.index in
    let narrow = index_most comps in
    let here : 1 + index_size comps ≡ length (index_bytes comps comp) + 1 = omega (arith, index_length comps comp) in
    let shift_is : slice_index body (1 + index_size comps) ≡ shift = ap (λ (n : ℕ). slice_index body n) here ∙ slice_past (index_bytes comps comp) (0 ∷ shift ∷ []) 1 in
    whole_read comps RGN body rest (segment.Rgn comp shift) (record {
      follows = refl;
      fits = omega arith;
      least = omega arith;
      sot = refl;
      inside = rgn_rules comps body ∙ rw (tenth, twelfth) refl;
    }) (ap₂ (λ (c n : ℕ). segment.Rgn c n) index shift_is)

-- POC

same_progression : (a b : Progression) → a.rs ≡ b.rs → a.cs ≡ b.cs → a.lye ≡ b.lye → a.re ≡ b.re → a.ce ≡ b.ce → a.order ≡ b.order → a ≡ b
same_progression a b e0 e1 e2 e3 e4 e5 = rw (← e0, ← e1, ← e2, ← e3, ← e4, ← e5) refl

abbrev progression_at_size : ℕ → ℕ → List ℕ → Progression
progression_at_size size at body = record {
  rs = slice_index body at;
  cs = big_from (at + 1) size body;
  lye = big_from (at + 1 + size) 2 body;
  re = slice_index body (at + 3 + size);
  ce = big_from (at + 4 + size) size body;
  order = slice_index body (at + 4 + 2 * size);
}

abbrev progression_bytes_size : ℕ → Progression → List ℕ
progression_bytes_size size entry = entry.rs ∷ (big_bytes size entry.cs ++ (big_bytes 2 entry.lye ++ entry.re ∷ (big_bytes size entry.ce ++ entry.order ∷ [])))

progression_zero_1 : (comps : ℕ) → index_size comps ≡ 1 → (entry : Progression) (rest : List ℕ) → ProgressionInRange comps entry
    → progression_at comps 0 (progression_bytes comps entry ++ rest) ≡ entry
progression_zero_1 comps is entry rest range =
    let cs_fits : entry.cs < 256 ^ 1 = rw is at range.cs in
    let ce_fits : entry.ce < 256 ^ 1 = rw is at range.ce in
    let cs = big_number-reads_back 1 entry.cs [] cs_fits in
    let lye = big_number-reads_back 2 entry.lye [] range.lye in
    let ce = big_number-reads_back 1 entry.ce [] ce_fits in
    rw is (same_progression (progression_at_size 1 0 (progression_bytes_size 1 entry ++ rest)) entry refl cs lye refl ce refl)

progression_zero_2 : (comps : ℕ) → index_size comps ≡ 2 → (entry : Progression) (rest : List ℕ) → ProgressionInRange comps entry
    → progression_at comps 0 (progression_bytes comps entry ++ rest) ≡ entry
progression_zero_2 comps is entry rest range =
    let cs_fits : entry.cs < 256 ^ 2 = rw is at range.cs in
    let ce_fits : entry.ce < 256 ^ 2 = rw is at range.ce in
    let cs = big_number-reads_back 2 entry.cs [] cs_fits in
    let lye = big_number-reads_back 2 entry.lye [] range.lye in
    let ce = big_number-reads_back 2 entry.ce [] ce_fits in
    rw is (same_progression (progression_at_size 2 0 (progression_bytes_size 2 entry ++ rest)) entry refl cs lye refl ce refl)

progression_zero : (comps : ℕ) (entry : Progression) (rest : List ℕ) → ProgressionInRange comps entry → progression_at comps 0 (progression_bytes comps entry ++ rest) ≡ entry
progression_zero comps entry rest range = elim (index_narrow comps) [ inl e ↦ progression_zero_1 comps e entry rest range | inr e ↦ progression_zero_2 comps e entry rest range ]

progression_shift : (comps : ℕ) (front xs : List ℕ) → progression_at comps (length front) (front ++ xs) ≡ progression_at comps 0 xs
progression_shift comps front xs =
    let n : ℕ = length front in
    let k : ℕ = index_size comps in
    let b : List ℕ = front ++ xs in
    let p0 : n ≡ n + 0 = omega arith in
    let p2 : n + 1 + k ≡ n + (1 + k) = omega arith in
    let p3 : n + 3 + k ≡ n + (3 + k) = omega arith in
    let p4 : n + 4 + k ≡ n + (4 + k) = omega arith in
    let p5 : n + 4 + 2 * k ≡ n + (4 + 2 * k) = omega arith in
    same_progression (progression_at comps n b) (progression_at comps 0 xs)
    (ap (λ (m : ℕ). slice_index b m) p0 ∙ slice_past front xs 0)
    (big_from_past front xs k 1)
    (ap (λ (m : ℕ). big_from m 2 b) p2 ∙ big_from_past front xs 2 (1 + k))
    (ap (λ (m : ℕ). slice_index b m) p3 ∙ slice_past front xs (3 + k))
    (ap (λ (m : ℕ). big_from m k b) p4 ∙ big_from_past front xs k (4 + k))
    (ap (λ (m : ℕ). slice_index b m) p5 ∙ slice_past front xs (4 + 2 * k))

progression_read : (comps : ℕ) (front rest : List ℕ) (entry : Progression) → ProgressionInRange comps entry
    → progression_at comps (length front) (front ++ (progression_bytes comps entry ++ rest)) ≡ entry
progression_read comps front rest entry range = progression_shift comps front (progression_bytes comps entry ++ rest) ∙ progression_zero comps entry rest range

some_progression : (comps : ℕ) → 1 ≤ progression_size comps
some_progression comps = omega arith

poc_value : (comps : ℕ) (entries : List Progression) → PocInRange comps entries → poc_at comps (poc_bytes comps entries) ≡ entries
poc_value comps entries range =
    let size : ℕ = progression_size comps in
    let body : List ℕ = poc_bytes comps entries in
    let count : length body / size ≡ length entries = ap (λ (n : ℕ). n / size) (length_poc comps entries) ∙ mul-div_cancel (length entries) (some_progression comps) in
    ap (λ (n : ℕ). values_from (progression_at comps) size n 0 body) count
    ∙ values_read (progression_at comps) (progression_bytes comps) size (ProgressionInRange comps) (length_progression comps) (progression_read comps) entries [] 0 refl (recursion_from_All _ _ range.each)

poc_is_read : (comps : ℕ) (entries : List Progression) (rest : List ℕ) → PocInRange comps entries
    → StandsAt comps (spelling comps (segment.Poc entries) ++ rest) (segment.Poc entries) (length (spelling comps (segment.Poc entries)))
unfolding breaks_11
poc_is_read comps entries rest range =
    let size : ℕ = progression_size comps in
    let body : List ℕ = poc_bytes comps entries in
    let value = poc_value comps entries range in
    let long = length_poc comps entries in
    let whole : length body % size ≡ 0 = ap (λ (n : ℕ). n % size) long ∙ mul-mod_left (length entries) size in
    let fits : list_all progression_fits (poc_at comps body) ≡ true = ap (λ (es : List Progression). list_all progression_fits es) value ∙ range.fits in
    let eleventh : breaks_11 comps POC body ≡ false = ap not (and_from (length body % size == 0) (list_all progression_fits (poc_at comps body)) (eq-eqb (length body % size) 0 whole) fits) in
    let some = mul_some (length entries) size range.some in
    let count = range.count in
    whole_read comps POC body rest (segment.Poc entries) (record {
      follows = refl;
      fits = omega arith;
      least = omega arith;
      sot = refl;
      inside = poc_rules comps body ∙ rw eleventh refl;
    }) (ap segment.Poc value)

-- bytes that are kept as they are, and SOT

crg_is_read : (comps : ℕ) (bytes rest : List ℕ) → BytesInRange 0 bytes → StandsAt comps (with_length CRG bytes ++ rest) (segment.Crg bytes) (length (with_length CRG bytes))
unfolding breaks_13
crg_is_read comps bytes rest range = whole_read comps CRG bytes rest (segment.Crg bytes) (record {
  follows = refl;
  fits = range.count;
  least = omega arith;
  sot = refl;
  inside = plain_rules comps CRG bytes (record { siz = refl; cod = refl; coc = refl; qcd = refl; qcc = refl; rgn = refl; poc = refl }) ∙ refl;
}) refl

com_is_read : (comps : ℕ) (bytes rest : List ℕ) → BytesInRange 0 bytes → StandsAt comps (with_length COM bytes ++ rest) (segment.Com bytes) (length (with_length COM bytes))
unfolding breaks_13
com_is_read comps bytes rest range = whole_read comps COM bytes rest (segment.Com bytes) (record {
  follows = refl;
  fits = range.count;
  least = omega arith;
  sot = refl;
  inside = plain_rules comps COM bytes (record { siz = refl; cod = refl; coc = refl; qcd = refl; qcc = refl; rgn = refl; poc = refl }) ∙ refl;
}) refl

long_enough : (n least : ℕ) → least ≤ n → ltb (2 + n) (2 + least) ≡ false
long_enough n least h = grind (arith, nat_tests)

plt_is_read : (comps : ℕ) (bytes rest : List ℕ) → BytesInRange 1 bytes → StandsAt comps (with_length PLT bytes ++ rest) (segment.Plt bytes) (length (with_length PLT bytes))
unfolding breaks_13
plt_is_read comps bytes rest range = whole_read comps PLT bytes rest (segment.Plt bytes) (record {
  follows = refl;
  fits = range.count;
  least = omega arith;
  sot = refl;
  inside = plain_rules comps PLT bytes (record { siz = refl; cod = refl; coc = refl; qcd = refl; qcc = refl; rgn = refl; poc = refl })
      ∙ (let e = long_enough (length bytes) 1 range.some in rw e refl);
}) refl

plm_is_read : (comps : ℕ) (bytes rest : List ℕ) → BytesInRange 1 bytes → StandsAt comps (with_length PLM bytes ++ rest) (segment.Plm bytes) (length (with_length PLM bytes))
unfolding breaks_13
plm_is_read comps bytes rest range = whole_read comps PLM bytes rest (segment.Plm bytes) (record {
  follows = refl;
  fits = range.count;
  least = omega arith;
  sot = refl;
  inside = plain_rules comps PLM bytes (record { siz = refl; cod = refl; coc = refl; qcd = refl; qcc = refl; rgn = refl; poc = refl })
      ∙ (let e = long_enough (length bytes) 1 range.some in rw e refl);
}) refl

tlm_is_read : (comps : ℕ) (bytes rest : List ℕ) → BytesInRange 2 bytes → StandsAt comps (with_length TLM bytes ++ rest) (segment.Tlm bytes) (length (with_length TLM bytes))
unfolding breaks_13
tlm_is_read comps bytes rest range = whole_read comps TLM bytes rest (segment.Tlm bytes) (record {
  follows = refl;
  fits = range.count;
  least = omega arith;
  sot = refl;
  inside = plain_rules comps TLM bytes (record { siz = refl; cod = refl; coc = refl; qcd = refl; qcc = refl; rgn = refl; poc = refl })
      ∙ (let e = long_enough (length bytes) 2 range.some in rw e refl);
}) refl

ppm_is_read : (comps index : ℕ) (bytes rest : List ℕ) → PackedInRange index bytes → StandsAt comps (with_length PPM (index ∷ bytes) ++ rest) (segment.Ppm index bytes) (length (with_length PPM (index ∷ bytes)))
unfolding breaks_13
ppm_is_read comps index bytes rest range = whole_read comps PPM (index ∷ bytes) rest (segment.Ppm index bytes) (record {
  follows = refl;
  fits = omega (arith, range.count);
  least = omega arith;
  sot = refl;
  inside = plain_rules comps PPM (index ∷ bytes) (record { siz = refl; cod = refl; coc = refl; qcd = refl; qcc = refl; rgn = refl; poc = refl })
      ∙ (let e = long_enough (suc (length bytes)) 1 (omega arith) in rw e refl);
}) refl

ppt_is_read : (comps index : ℕ) (bytes rest : List ℕ) → PackedInRange index bytes → StandsAt comps (with_length PPT (index ∷ bytes) ++ rest) (segment.Ppt index bytes) (length (with_length PPT (index ∷ bytes)))
unfolding breaks_13
ppt_is_read comps index bytes rest range = whole_read comps PPT (index ∷ bytes) rest (segment.Ppt index bytes) (record {
  follows = refl;
  fits = omega (arith, range.count);
  least = omega arith;
  sot = refl;
  inside = plain_rules comps PPT (index ∷ bytes) (record { siz = refl; cod = refl; coc = refl; qcd = refl; qcc = refl; rgn = refl; poc = refl })
      ∙ (let e = long_enough (suc (length bytes)) 1 (omega arith) in rw e refl);
}) refl

sot_value : (sot : Sot) → SotInRange sot → sot_at (sot_bytes sot) ≡ sot
sot_value sot range =
    let tile = big_number-reads_back 2 sot.tile [] range.tile in
    let psot = big_number-reads_back 4 sot.psot [] range.psot in
    ap₂ (λ (t p : ℕ). record sot { tile = t; psot = p }) tile psot

sot_is_read : (comps : ℕ) (sot : Sot) (rest : List ℕ) → SotInRange sot → StandsAt comps (with_length SOT (sot_bytes sot) ++ rest) (segment.Sot sot) (length (with_length SOT (sot_bytes sot)))
unfolding breaks_13
sot_is_read comps sot rest range = whole_read comps SOT (sot_bytes sot) rest (segment.Sot sot) (record {
  follows = refl;
  fits = omega arith;
  least = omega arith;
  sot = refl;
  inside = plain_rules comps SOT (sot_bytes sot) (record { siz = refl; cod = refl; coc = refl; qcd = refl; qcc = refl; rgn = refl; poc = refl }) ∙ refl;
}) (ap segment.Sot (sot_value sot range))

-- markers that stand alone

alone_is_read : (comps code : ℕ) (rest : List ℕ) (s : Segment) → has_length code ≡ false → stands_alone code ≡ true → segment_at comps (255 ∷ code ∷ rest) ≡ s
    → StandsAt comps (255 ∷ code ∷ rest) s 2
unfolding breaks_1 breaks_2
alone_is_read comps code rest s none alone value =
    let long : ltb (length (255 ∷ code ∷ rest)) 2 ≡ false = grind (arith, nat_tests) in
    let two : leb 2 (length (255 ∷ code ∷ rest)) ≡ true = grind (arith, nat_tests) in
    record {
      rules = clear_broken comps (255 ∷ code ∷ rest) (record {
        marker = rw (none, alone, two) refl;
        long = rw (long, none) refl;
        inside = alone_rules comps code (body_at (255 ∷ code ∷ rest)) none;
      });
      value = value;
      takes = rw none refl;
    }

skipped_is_read : (comps code : ℕ) (rest : List ℕ) → 48 ≤ code → code ≤ 63 → StandsAt comps (255 ∷ code ∷ rest) (segment.Skipped code) 2
skipped_is_read comps code rest low high =
    let none : has_length code ≡ false = grind (arith, nat_tests) in
    let alone : stands_alone code ≡ true = grind (arith, nat_tests) in
    let soc : (code == SOC) ≡ false = grind (arith, nat_tests) in
    let sod : (code == SOD) ≡ false = grind (arith, nat_tests) in
    let eoc : (code == EOC) ≡ false = grind (arith, nat_tests) in
    alone_is_read comps code rest (segment.Skipped code) none alone (rw (none, soc, sod, eoc) refl)

pub segment_is_read : (comps : ℕ) (s : Segment) (rest : List ℕ) → InRange comps s → StandsAt comps (spelling comps s ++ rest) s (length (spelling comps s))
segment_is_read comps segment.Soc rest range = alone_is_read comps SOC rest segment.Soc refl refl refl
segment_is_read comps (segment.Siz siz) rest range = siz_is_read comps siz rest range
segment_is_read comps (segment.Cod cod) rest range = cod_is_read comps cod rest range
segment_is_read comps (segment.Coc comp shape) rest range = coc_is_read comps comp shape rest range
segment_is_read comps (segment.Qcd quant) rest range = qcd_is_read comps quant rest range
segment_is_read comps (segment.Qcc comp quant) rest range = qcc_is_read comps comp quant rest range
segment_is_read comps (segment.Rgn comp shift) rest range = rgn_is_read comps comp shift rest range
segment_is_read comps (segment.Poc entries) rest range = poc_is_read comps entries rest range
segment_is_read comps (segment.Crg bytes) rest range = crg_is_read comps bytes rest range
segment_is_read comps (segment.Com bytes) rest range = com_is_read comps bytes rest range
segment_is_read comps (segment.Plt bytes) rest range = plt_is_read comps bytes rest range
segment_is_read comps (segment.Plm bytes) rest range = plm_is_read comps bytes rest range
segment_is_read comps (segment.Tlm bytes) rest range = tlm_is_read comps bytes rest range
segment_is_read comps (segment.Ppm index bytes) rest range = ppm_is_read comps index bytes rest range
segment_is_read comps (segment.Ppt index bytes) rest range = ppt_is_read comps index bytes rest range
segment_is_read comps (segment.Sot sot) rest range = sot_is_read comps sot rest range
segment_is_read comps segment.Sod rest range = alone_is_read comps SOD rest segment.Sod refl refl refl
segment_is_read comps segment.Eoc rest range = alone_is_read comps EOC rest segment.Eoc refl refl refl
segment_is_read comps (segment.Skipped code) rest range = skipped_is_read comps code rest range.0 range.1
