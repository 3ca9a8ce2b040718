-- The entries of headers that stand are in range.
use Rattle.std.proofs.Common.{◌≡◌, ◌⊎◌, ◌<◌, ◌≤◌, ◌+◌, ◌*◌, ◌^◌, ◌==◌, ◌&&◌, ◌||◌, ℕ, suc, Bool, true, false, arith, List, [], ◌∷◌, map, take, length, nat_lt, refl, ap, subst, inl, inr, Option, Some, None, cond}
use Rattle.std.specs.List.{All, filter, list_all}
use Rattle.std.specs.Option.{IfSome}
use Rattle.std.proofs.lemmas.Bool.{cases_Bool, cases_lt}
use Rattle.std.proofs.lemmas.Bool.Decides.{nat_tests}
use Rattle.std.proofs.lemmas.List.{length-map, length-take}
use Rattle.std.proofs.lemmas.List.Elements.{All-nil, All-cons, All-head, All-tail, All-append, All-take, All-weaker}
use Rattle.jx_base.specs.OrderNumbers.{IsOrderNumber}
use Rattle.jx_base.proofs.Lists.{all_pass}
use Rattle.jx_marker.specs.Markers.{index_size, progression_size}
use Rattle.jx_marker.specs.declared.Cod.{Cod}
use Rattle.jx_marker.specs.declared.Progression.{Progression}
use Rattle.jx_marker.specs.declared.Segment.{Segment}
use Rattle.jx_marker.specs.declared.Segment.TheVariants as segment
use Rattle.jx_marker.specs.Rules.{is_order, progression_fits}
use Rattle.jx_marker.specs.Ranges.{CodInRange, InRange, PocInRange, ProgressionInRange}
use Rattle.jx_codestream.specs.declared.parts.PlacedPart.{PlacedPart}
use Rattle.jx_codestream.specs.declared.Tile.{Tile}
use Rattle.jx_codestream.specs.Tiles.{in_slot, entries_of, entries_joined, entry_of, entry_in, headers_of, first_header, or_list, progressions_of}
use Rattle.jx_codestream.proofs.SegmentLemmas.{HasFitting, IsChosen, slot_chosen, headers_fit, first_fits}
use Rattle.jx_options.specs.Volumes.{AreVolumes, IsVolume}
use Rattle.jx_plan.specs.Changes.{MainOrder, end_written, entries_by, entry_kept, has_comp, main_order, most_entries, own_entries, tile_entries, volume_written, volumes_written}
use Rattle.jx_plan.specs.Standing.{IsEntry}

-- ---- entries that are read
both_of : (comps : ℕ) (entries : List Progression) → PocInRange comps entries → All (IsEntry comps) entries
both_of comps entries r = λ k d inside. record { fits = all_pass progression_fits entries r.fits k d inside; range = r.each k d inside }

own_fit : (comps : ℕ) (s : Segment) → InRange comps s → All (IsEntry comps) (entries_of s)
own_fit comps (segment.Poc entries) r = both_of comps entries r
own_fit comps _ r = All-nil (IsEntry comps)

pub joined_fit : (comps : ℕ) (segments : List Segment) → All (InRange comps) segments → All (IsEntry comps) (entries_joined segments)
joined_fit comps [] h = All-nil (IsEntry comps)
joined_fit comps (s ∷ ss) h =
    All-append (IsEntry comps) (entries_of s) (entries_joined ss) (own_fit comps s (All-head (InRange comps) s ss h)) (joined_fit comps ss (All-tail (InRange comps) s ss h))

small_index : (comps n : ℕ) → n < 256 → n < 256 ^ index_size comps
small_index comps n small = elim (cases_Bool (nat_lt comps 257)) [
  | inl one ↦ rw one (omega (arith, small))
  | inr two ↦ rw two (omega (arith, small))
]

cod_passes : (layers order : ℕ) → 0 < layers → IsOrderNumber order → (nat_lt 0 33 && ((0 == 0 || nat_lt 0 0) && (nat_lt 0 layers && is_order order))) ≡ true
cod_passes layers order some known = grind (arith, nat_tests)

one_fits : (comps : ℕ) (cod : Cod) → CodInRange cod → IsEntry comps (entry_of cod)
one_fits comps cod r = record {
  fits = cod_passes cod.layers cod.order r.some r.order;
  range = record { rs = omega arith; cs = small_index comps 0 (omega arith); lye = r.layers; re = omega arith; ce = small_index comps 0 (omega arith) };
}

default_fit : (comps : ℕ) (o : Option Segment) → IsChosen comps 1 1 o → All (IsEntry comps) (entry_in o)
default_fit comps None h = All-nil (IsEntry comps)
default_fit comps (Some (segment.Cod cod)) h = All-cons (IsEntry comps) (entry_of cod) [] (one_fits comps cod h.0) (All-nil (IsEntry comps))
default_fit comps (Some _) h = All-nil (IsEntry comps)

or_fit : (comps : ℕ) (first second : List Progression) → All (IsEntry comps) first → All (IsEntry comps) second → All (IsEntry comps) (or_list first second)
or_fit comps [] second a b = b
or_fit comps (entry ∷ entries) second a b = a

cod_fits : (comps : ℕ) (segments : List Segment) → All (InRange comps) segments → All (IsEntry comps) (entry_in (in_slot 1 segments))
cod_fits comps segments h = default_fit comps (in_slot 1 segments) (slot_chosen comps 1 1 1 segments h (inl refl))

pub by_fit : (comps : ℕ) (main header : List Segment) → All (InRange comps) main → All (InRange comps) header → All (IsEntry comps) (entries_by (main_order main) header)
by_fit comps main header there here =
    or_fit comps (entries_joined header) _ (joined_fit comps header here)
    (or_fit comps (entries_joined main) _ (joined_fit comps main there)
    (or_fit comps (entry_in (in_slot 1 header)) (entry_in (in_slot 1 main)) (cod_fits comps header here) (cod_fits comps main there)))

pub read_fit : (comps : ℕ) (main : List Segment) (own : List PlacedPart) → All (InRange comps) main → All (HasFitting comps) own → All (IsEntry comps) (progressions_of main own)
read_fit comps main own there here =
    or_fit comps (entries_joined (headers_of own)) _ (joined_fit comps (headers_of own) (headers_fit comps own here))
    (or_fit comps (entries_joined main) _ (joined_fit comps main there)
    (or_fit comps (entry_in (in_slot 1 (first_header own))) (entry_in (in_slot 1 main)) (cod_fits comps (first_header own) (first_fits comps own here)) (cod_fits comps main there)))

-- ---- a POC of entries in range
poc_fits : (comps : ℕ) (e : Progression) (es : List Progression) → All (IsEntry comps) (e ∷ es) → 2 + length (e ∷ es) * progression_size comps < 2 ^ 16 → PocInRange comps (e ∷ es)
poc_fits comps e es each count = record {
  some = omega arith;
  count = count;
  fits = all_fit (e ∷ es) each;
  each = All-weaker (IsEntry comps) (ProgressionInRange comps) (λ x h. h.range) (e ∷ es) each;
}
  where
    all_fit : (xs : List Progression) → All (IsEntry comps) xs → list_all progression_fits xs ≡ true
    all_fit [] h = refl
    all_fit (x ∷ xs) h = rw ((All-head (IsEntry comps) x xs h).fits) (all_fit xs (All-tail (IsEntry comps) x xs h))

-- those of a tile
own_fits : (comps : ℕ) (m : MainOrder) (t : Tile) → All (IsEntry comps) t.progressions → All (IsEntry comps) (own_entries m t)
own_fits comps m t h = by _ t.progressions h
  where
    by : (b : Bool) (xs : List Progression) → All (IsEntry comps) xs → All (IsEntry comps) (cond b xs [])
    by true xs h = h
    by false xs h = All-nil (IsEntry comps)

few_bytes : (comps n : ℕ) → n ≤ most_entries comps → 2 + n * progression_size comps < 2 ^ 16
few_bytes comps n few = elim (cases_Bool (nat_lt comps 257)) [
  | inl one ↦ rw one (omega (arith, rw one at few))
  | inr two ↦ rw two (omega (arith, rw two at few))
]

-- entries that are kept
kept_passes : (rs re cs ce lye order : ℕ) → (nat_lt rs re && ((ce == 0 || nat_lt cs ce) && (nat_lt 0 lye && is_order order))) ≡ true
    → (nat_lt rs re && ((cond (ce == 16384) 0 ce == 0 || nat_lt cs (cond (ce == 16384) 0 ce)) && (nat_lt 0 lye && is_order order))) ≡ true
kept_passes rs re cs ce lye order h = elim (cases_Bool (ce == 16384)) [
  | inl full ↦ rw full (grind (arith, nat_tests))
  | inr other ↦ rw other h
]

kept_index : (comps ce : ℕ) → ce < 256 ^ index_size comps → cond (ce == 16384) 0 ce < 256 ^ index_size comps
kept_index comps ce h = elim (cases_Bool (ce == 16384)) [
  | inl full ↦ rw full (small_index comps 0 (omega arith))
  | inr other ↦ rw other h
]

kept_fits : (comps : ℕ) (e : Progression) → IsEntry comps e → IsEntry comps (entry_kept e)
kept_fits comps e h = record {
  fits = kept_passes e.rs e.re e.cs e.ce e.lye e.order h.fits;
  range = record { rs = h.range.rs; cs = h.range.cs; lye = h.range.lye; re = h.range.re; ce = kept_index comps e.ce h.range.ce };
}

all_kept : (comps : ℕ) (es : List Progression) → All (IsEntry comps) es → All (IsEntry comps) (map entry_kept es)
all_kept comps [] h = All-nil (IsEntry comps)
all_kept comps (e ∷ es) h = All-cons (IsEntry comps) (entry_kept e) (map entry_kept es) (kept_fits comps e (All-head (IsEntry comps) e es h)) (all_kept comps es (All-tail (IsEntry comps) e es h))

pub kept_poc : (comps : ℕ) (es : List Progression) → PocInRange comps es → PocInRange comps (map entry_kept es)
kept_poc comps [] r = absurd (let some = r.some in omega arith)
kept_poc comps (e ∷ es) r = poc_fits comps (entry_kept e) (map entry_kept es) (all_kept comps (e ∷ es) (both_of comps (e ∷ es) r)) (same_count (length (map entry_kept es)) (length-map es entry_kept) r.count)
  where
    same_count : (n : ℕ) → n ≡ length es → 2 + (suc (length es)) * progression_size comps < 2 ^ 16 → 2 + suc n * progression_size comps < 2 ^ 16
    same_count n same h = rw same h

pub tile_poc : (comps : ℕ) (changes : Option (List Progression)) (m : MainOrder) (t : Tile) (e : Progression) (es : List Progression) → All (IsEntry comps) t.progressions
    → tile_entries comps changes m t ≡ e ∷ es → PocInRange comps (e ∷ es)
tile_poc comps (Some entries) m t e es h is = absurd (cc)
tile_poc comps None m t e es h is =
    let some : List Progression = take (most_entries comps) (own_entries m t) in
    let each : All (IsEntry comps) (e ∷ es) = subst (All (IsEntry comps)) is (all_kept comps some (All-take (IsEntry comps) (most_entries comps) (own_entries m t) (own_fits comps m t h))) in
    let few : length (e ∷ es) ≤ most_entries comps = omega (arith, ap length is, length-map some entry_kept, length-take (most_entries comps) (own_entries m t)) in
    poc_fits comps e es each (few_bytes comps (length (e ∷ es)) few)

-- volumes
two_bytes : (comps n : ℕ) → 257 ≤ comps → n < 2 ^ 16 → n < 256 ^ index_size comps
two_bytes comps n two small =
    let no : nat_lt comps 257 ≡ false = grind (arith, nat_tests) in
    rw no (omega (arith, small))

end_fits : (comps cs ce : ℕ) → cs < comps → cs < ce → comps < 2 ^ 16 → (end_written comps ce < 256 ^ index_size comps) × ((end_written comps ce == 0 || nat_lt cs (end_written comps ce)) ≡ true)
end_fits comps cs ce low above few = elim (cases_Bool (nat_lt ce comps)) [
  | inl less ↦ rw less (less_fits less, grind (arith, nat_tests))
  | inr more ↦ rw more (elim (cases_Bool (comps == 256 || comps == 16384)) [
    | inl full ↦ rw full (small_index comps 0 (omega arith), refl)
    | inr other ↦ rw other (comps_fit other, grind (arith, nat_tests))
  ])
]
  where
    less_fits : nat_lt ce comps ≡ true → ce < 256 ^ index_size comps
    less_fits less =
        let lt : ce < comps = grind (arith, nat_tests) in
        elim (cases_lt comps 257) [
          | inl one ↦ small_index comps ce (omega (arith, lt, one))
          | inr two ↦ two_bytes comps ce (omega (arith, two)) (omega (arith, lt, few))
        ]

    comps_fit : (comps == 256 || comps == 16384) ≡ false → comps < 256 ^ index_size comps
    comps_fit other = elim (cases_lt comps 257) [
      | inl one ↦ (let apart : comps < 256 = grind (arith, nat_tests) in small_index comps comps apart)
      | inr two ↦ two_bytes comps comps two few
    ]

volume_passes : (rs re lye order : ℕ) (b : Bool) → rs < re → 1 ≤ lye → IsOrderNumber order → b ≡ true → (nat_lt rs re && (b && (nat_lt 0 lye && is_order order))) ≡ true
volume_passes rs re lye order true res some known e = grind (arith, nat_tests)
volume_passes rs re lye order false res some known e = absurd (cc)

index_fits : (comps n : ℕ) → n < comps → comps < 2 ^ 16 → n < 256 ^ index_size comps
index_fits comps n low few = elim (cases_lt comps 257) [
  | inl one ↦ small_index comps n (omega (arith, low, one))
  | inr two ↦ (let no : nat_lt comps 257 ≡ false = grind (arith, nat_tests) in rw no (omega (arith, low, few)))
]

volume_fits : (comps : ℕ) (e : Progression) → comps < 2 ^ 16 → has_comp comps e ≡ true → IsVolume e → IsEntry comps (volume_written comps e)
volume_fits comps e few here is =
    let low : e.cs < comps = grind (arith, nat_tests) in
    let end = end_fits comps e.cs e.ce low is.comp few in
    record {
      fits = volume_passes e.rs e.re e.lye e.order (end_written comps e.ce == 0 || nat_lt e.cs (end_written comps e.ce)) is.res is.layers is.order end.1;
      range = record { rs = omega (arith, is.res, is.few_res); cs = index_fits comps e.cs low few; lye = omega (arith, is.few_layers); re = omega (arith, is.few_res); ce = end.0 };
    }

some_fit : (comps : ℕ) (es : List Progression) → comps < 2 ^ 16 → All IsVolume es → All (IsEntry comps) (map (volume_written comps) (filter (has_comp comps) es))
some_fit comps [] few h = All-nil (IsEntry comps)
some_fit comps (e ∷ es) few h = elim (cases_Bool (has_comp comps e)) [
  | inl here ↦ rw here (All-cons (IsEntry comps) (volume_written comps e) _ (volume_fits comps e few here (All-head IsVolume e es h)) (some_fit comps es few (All-tail IsVolume e es h)))
  | inr past ↦ rw past (some_fit comps es few (All-tail IsVolume e es h))
]

fewer : (comps : ℕ) (es : List Progression) → length (map (volume_written comps) (filter (has_comp comps) es)) ≤ length es
fewer comps [] = omega arith
fewer comps (e ∷ es) = elim (cases_Bool (has_comp comps e)) [
  | inl here ↦ rw here (omega (arith, fewer comps es))
  | inr past ↦ rw past (omega (arith, fewer comps es))
]

short_poc : (comps n : ℕ) → n ≤ 32 → 2 + n * progression_size comps < 2 ^ 16
short_poc comps n few = elim (cases_Bool (nat_lt comps 257)) [
  | inl one ↦ rw one (omega (arith, few))
  | inr two ↦ rw two (omega (arith, few))
]

pub volumes_poc : (comps : ℕ) (changes : Option (List Progression)) (e : Progression) (es : List Progression) → comps < 2 ^ 16
    → IfSome changes (λ entries. (entries ≡ []) ⊎ AreVolumes entries) → volumes_written comps changes ≡ e ∷ es → PocInRange comps (e ∷ es)
volumes_poc comps None e es few may is = absurd (cc)
volumes_poc comps (Some []) e es few may is = absurd (cc)
volumes_poc comps (Some (x ∷ xs)) e es few (inl none) is = absurd (omega (arith, ap length none))
volumes_poc comps (Some (x ∷ xs)) e es few (inr are) is =
    let each : All (IsEntry comps) (e ∷ es) = subst (All (IsEntry comps)) is (some_fit comps (x ∷ xs) few are.each) in
    let count : length (e ∷ es) ≤ 32 = omega (arith, ap length is, fewer comps (x ∷ xs), are.few) in
    poc_fits comps e es each (short_poc comps (length (e ∷ es)) count)

-- the orders of entries
pub has_order : (comps : ℕ) (e : Progression) → IsEntry comps e → IsOrderNumber e.order
has_order comps e h = by e.rs e.re e.cs e.ce e.lye e.order h.fits
  where
    by : (rs re cs ce lye order : ℕ) → (nat_lt rs re && ((ce == 0 || nat_lt cs ce) && (nat_lt 0 lye && is_order order))) ≡ true → IsOrderNumber order
    by rs re cs ce lye order t = grind (arith, nat_tests)
