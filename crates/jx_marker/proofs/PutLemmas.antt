-- How long what follows a segment's length is.
use Rattle.std.proofs.Common.{◌≡◌, ◌≤◌, ◌<◌, ◌+◌, ◌*◌, ℕ, List, ◌∷◌, ◌++◌, [], length, arith, append_assoc, append-nil, get_or, add-one, refl, ap, length-append, ltb, leb, take, drop, sym, ◌∙◌}
use Rattle.std.proofs.Math.Seq.{take-append_seam, take-suc}
use Rattle.std.proofs.lemmas.List.{take-append-drop, take_all}
use Rattle.std.proofs.lemmas.Bool.Decides.{nat_tests}
use Rattle.std.proofs.lemmas.Grind.{flat_map-append}
use Rattle.std.specs.List.{flat_map}
use Rattle.byteorder.specs.Endian.{big_bytes}
use Rattle.byteorder.specs.Numbers.{length-bytes_high_first}
use Rattle.jx_marker.specs.declared.Siz.{Siz}
use Rattle.jx_marker.specs.declared.Quant.{Quant}
use Rattle.jx_marker.specs.declared.Cod.{Cod}
use Rattle.jx_marker.specs.declared.Progression.{Progression}
use Rattle.jx_marker.specs.Markers.{index_size, entry_size, progression_size}
use Rattle.jx_marker.specs.Values.{siz_bytes, canvas_bytes, cod_bytes, comp_size_bytes, index_bytes, quant_bytes, progression_bytes, poc_bytes}
use Rattle.jx_marker.specs.Segments.{with_length}
use Rattle.jx_marker.specs.Ranges.{SizInRange}
use Rattle.std.proofs.lemmas.Bool.{and_parts}

-- a marker, a length and what follows it, appended in turn
pub fronted : (code size : ℕ) (out body : List ℕ) → size ≡ length body → (out ++ 255 ∷ code ∷ big_bytes 2 (2 + size)) ++ body ≡ out ++ with_length code body
fronted code size out body same = rw (same, append_assoc) refl

pub length_each : {A : Type 0} (bytes_of : A → List ℕ) (size : ℕ) → ((value : A) → length (bytes_of value) ≡ size) → (values : List A) → length (flat_map bytes_of values) ≡ length values * size
length_each bytes_of size same [] = omega arith
length_each bytes_of size same (value ∷ values) =
    omega (arith, length-append (bytes_of value) (flat_map bytes_of values), same value, length_each bytes_of size same values)

pub length_entries : (size : ℕ) (entries : List ℕ) → length (flat_map (big_bytes size) entries) ≡ length entries * size
length_entries size entries = length_each (big_bytes size) size (length-bytes_high_first size) entries

length_canvas : (siz : Siz) → length (canvas_bytes siz) ≡ 32
unfolding canvas_bytes
length_canvas siz = refl

pub length_siz : (siz : Siz) → length (siz_bytes siz) ≡ 36 + 3 * length siz.comps
length_siz siz = let e = length_each comp_size_bytes 3 (λ comp. refl) siz.comps in
    let tail : List ℕ = big_bytes 2 (length siz.comps) ++ flat_map comp_size_bytes siz.comps in
    omega (arith, e, length_canvas siz, length-append (canvas_bytes siz) tail)

pub most_comps : (siz : Siz) → SizInRange siz → length siz.comps ≤ 16384
most_comps siz range =
    let some = and_parts (ltb 0 (length siz.comps)) _ range.fits in
    let most = and_parts (leb (length siz.comps) 16384) _ some.1 in
    let most0 = most.0 in
    grind (arith, nat_tests, most0)

pub length_quant : (quant : Quant) → length (quant_bytes quant) ≡ 1 + length quant.entries * entry_size quant.sqcd
length_quant quant = let e = length_entries (entry_size quant.sqcd) quant.entries in omega (arith, e)

pub length_qcc : (comps comp : ℕ) (quant : Quant) → length (index_bytes comps comp ++ quant_bytes quant) ≡ index_size comps + 1 + length quant.entries * entry_size quant.sqcd
length_qcc comps comp quant =
    omega (arith, length-append (index_bytes comps comp) (quant_bytes quant), length-bytes_high_first (index_size comps) comp, length_quant quant)

pub length_progression : (comps : ℕ) (entry : Progression) → length (progression_bytes comps entry) ≡ progression_size comps
length_progression comps entry =
    let first = length-bytes_high_first (index_size comps) entry.cs in
    let last = length-bytes_high_first (index_size comps) entry.ce in
    simp length-append (omega (arith, first, last))

pub length_poc : (comps : ℕ) (entries : List Progression) → length (poc_bytes comps entries) ≡ length entries * progression_size comps
length_poc comps entries = length_each (progression_bytes comps) (progression_size comps) (length_progression comps) entries

pub length_cod : (cod : Cod) → length (cod_bytes cod) ≡ 10 + length cod.shape.precincts
length_cod cod = omega arith

-- what stood in front of a list that was appended to stands there still
pub front_kept : (out more middle new : List ℕ) → middle ≡ out ++ more → take (length middle) new ≡ middle → take (length out) new ≡ out
front_kept out more middle new is kept =
    let rest : List ℕ = drop (length middle) new in
    let whole : middle ++ rest ≡ new = ap (λ (front : List ℕ). front ++ rest) (sym kept) ∙ take-append-drop (length middle) new in
    let parts : new ≡ out ++ (more ++ rest) = sym whole ∙ ap (λ (front : List ℕ). front ++ rest) is ∙ append_assoc out more rest in
    rw parts (take-append_seam out (more ++ rest))

-- the same, with names for what stood there in between
pub fronted_as : (code size : ℕ) (out middle new body : List ℕ) → middle ≡ out ++ 255 ∷ code ∷ big_bytes 2 (2 + size) → new ≡ middle ++ body → size ≡ length body
    → new ≡ out ++ with_length code body
fronted_as code size out middle new body first then_body same = then_body ∙ ap (λ (front : List ℕ). front ++ body) first ∙ fronted code size out body same

-- what one call appends after the others
pub after : (out so_far last new more : List ℕ) → last ≡ out ++ so_far → new ≡ last ++ more → new ≡ out ++ (so_far ++ more)
after out so_far last new more before e = e ∙ (ap (λ (front : List ℕ). front ++ more) before ∙ append_assoc out so_far more)

pub kept : (out more new : List ℕ) → new ≡ out ++ more → take (length out) new ≡ out
kept out more new e = ap (λ (list : List ℕ). take (length out) list) e ∙ take-append_seam out more

-- what each value of a list appends
pub each_next : {A : Type 0} (bytes_of : A → List ℕ) (values : List A) (i : ℕ) (none : A) (out last new : List ℕ) → i < length values
    → last ≡ out ++ flat_map bytes_of (take i values) → new ≡ last ++ bytes_of (get_or values i none) → new ≡ out ++ flat_map bytes_of (take (i + 1) values)
each_next {A} bytes_of values i none out last new lt before e =
    let one : take (i + 1) values ≡ take i values ++ get_or values i none ∷ [] = rw add-one (take-suc values i none lt) in
    let more : flat_map bytes_of (take (i + 1) values) ≡ flat_map bytes_of (take i values) ++ bytes_of (get_or values i none) =
    ap (λ (list : List A). flat_map bytes_of list) one
    ∙ (flat_map-append bytes_of (take i values) (get_or values i none ∷ [])
    ∙ ap (λ (list : List ℕ). flat_map bytes_of (take i values) ++ list) (append-nil (bytes_of (get_or values i none)))) in
    after out (flat_map bytes_of (take i values)) last new (bytes_of (get_or values i none)) before e ∙ ap (λ (list : List ℕ). out ++ list) (sym more)

pub each_all : {A : Type 0} (bytes_of : A → List ℕ) (values : List A) (i : ℕ) (out new : List ℕ) → length values ≤ i
    → new ≡ out ++ flat_map bytes_of (take i values) → new ≡ out ++ flat_map bytes_of values
each_all {A} bytes_of values i out new done e = e ∙ ap (λ (list : List A). out ++ flat_map bytes_of list) (take_all i values done)
