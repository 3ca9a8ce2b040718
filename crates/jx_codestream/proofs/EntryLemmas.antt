-- The progression entries of a tile that was read name one of the five orders.
use Rattle.std.proofs.Common.{◌≡◌, ◌==◌, ◌&&◌, ◌||◌, ℕ, true, List, [], ◌∷◌, nat_lt, refl, inl, Option, Some, None}
use Rattle.std.specs.List.{All}
use Rattle.std.proofs.lemmas.List.Elements.{All-nil, All-cons, All-head, All-tail, All-append, All-weaker}
use Rattle.jx_base.specs.OrderNumbers.{IsOrderNumber}
use Rattle.jx_marker.specs.declared.Progression.{Progression}
use Rattle.jx_marker.specs.declared.Segment.{Segment}
use Rattle.jx_marker.specs.declared.Segment.TheVariants as segment
use Rattle.jx_marker.specs.Rules.{is_order, progression_fits}
use Rattle.jx_marker.specs.Ranges.{InRange}
use Rattle.jx_codestream.specs.declared.parts.PlacedPart.{PlacedPart}
use Rattle.jx_codestream.specs.Tiles.{in_slot, entries_of, entries_joined, entry_of, entry_in, headers_of, first_header, or_list, progressions_of}
use Rattle.jx_codestream.proofs.SegmentLemmas.{HasFitting, IsChosen, slot_chosen, headers_fit, first_fits}
use Rattle.jx_base.proofs.Lists.{all_pass}
use Rattle.std.proofs.lemmas.Bool.{leb-true, and_parts}

abbrev pub HasOrder : Progression → Type 0
HasOrder e = IsOrderNumber e.order

one_order : (e : Progression) → progression_fits e ≡ true → HasOrder e
one_order e h =
    let one = and_parts (nat_lt e.rs e.re) (((e.ce == 0) || nat_lt e.cs e.ce) && (nat_lt 0 e.lye && is_order e.order)) h in
    let two = and_parts ((e.ce == 0) || nat_lt e.cs e.ce) (nat_lt 0 e.lye && is_order e.order) one.1 in
    leb-true e.order 4 (and_parts (nat_lt 0 e.lye) (is_order e.order) two.1).1

own_orders : (comps : ℕ) (s : Segment) → InRange comps s → All HasOrder (entries_of s)
own_orders comps (segment.Poc entries) r = All-weaker (λ (e : Progression). progression_fits e ≡ true) HasOrder one_order entries (all_pass progression_fits entries r.fits)
own_orders comps _ r = All-nil HasOrder

joined_orders : (comps : ℕ) (segments : List Segment) → All (InRange comps) segments → All HasOrder (entries_joined segments)
joined_orders comps [] h = All-nil HasOrder
joined_orders comps (s ∷ ss) h =
    All-append HasOrder (entries_of s) (entries_joined ss) (own_orders comps s (All-head (InRange comps) s ss h)) (joined_orders comps ss (All-tail (InRange comps) s ss h))

default_order : (comps : ℕ) (o : Option Segment) → IsChosen comps 1 1 o → All HasOrder (entry_in o)
default_order comps None h = All-nil HasOrder
default_order comps (Some (segment.Cod cod)) h = All-cons HasOrder (entry_of cod) [] h.0.order (All-nil HasOrder)
default_order comps (Some _) h = All-nil HasOrder

or_orders : (first second : List Progression) → All HasOrder first → All HasOrder second → All HasOrder (or_list first second)
or_orders [] second a b = b
or_orders (entry ∷ entries) second a b = a

pub orders_fit : (comps : ℕ) (main : List Segment) (own : List PlacedPart) → All (InRange comps) main → All (HasFitting comps) own → All HasOrder (progressions_of main own)
orders_fit comps main own there here =
    let tile = default_order comps (in_slot 1 (first_header own)) (slot_chosen comps 1 1 1 (first_header own) (first_fits comps own here) (inl refl)) in
    let default = default_order comps (in_slot 1 main) (slot_chosen comps 1 1 1 main there (inl refl)) in
    or_orders (entries_joined (headers_of own)) _ (joined_orders comps (headers_of own) (headers_fit comps own here))
    (or_orders (entries_joined main) _ (joined_orders comps main there) (or_orders (entry_in (in_slot 1 (first_header own))) (entry_in (in_slot 1 main)) tile default))
