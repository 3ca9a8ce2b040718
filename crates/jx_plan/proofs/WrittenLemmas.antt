-- What is written of a header says the same as the header, but for COD's marks, order and layers, and for precincts and style.
use Rattle.std.proofs.Common.{◌≡◌, ◌+◌, ◌%◌, ◌<◌, ◌==◌, ℕ, true, false, arith, List, [], ◌∷◌, ◌++◌, length, map, refl, sym, ap, ◌∙◌, Option, Some, None, inl, inr}
use Rattle.std.specs.List.{All, range_with_len}
use Rattle.std.specs.Option.{option_map}
use Rattle.std.proofs.Math.Nat.{mod-lt}
use Rattle.std.proofs.lemmas.Bool.Decides.{nat_tests}
use Rattle.std.proofs.lemmas.Bool.{cases_Bool}
use Rattle.std.proofs.lemmas.List.FromFn.{map-range_with_len_more}
use Rattle.std.proofs.lemmas.List.Elements.{All-head, All-tail}
use Rattle.jx_base.specs.declared.style.Style.{Style}
use Rattle.jx_marker.specs.declared.Progression.{Progression}
use Rattle.jx_marker.specs.declared.Segment.{Segment}
use Rattle.jx_marker.specs.declared.Segment.TheVariants as segment
use Rattle.jx_marker.specs.declared.Siz.{Siz}
use Rattle.jx_codestream.specs.declared.Tile.{Tile}
use Rattle.jx_codestream.specs.declared.Stream.{Stream}
use Rattle.jx_codestream.specs.Headers.{slot_of, has_slot}
use Rattle.jx_codestream.specs.Index.{gives}
use Rattle.jx_codestream.specs.Tiles.{in_slot}
use Rattle.jx_codestream.specs.Params.{cod_in, shape_in}
use Rattle.jx_plan.specs.Changes.{MainOrder, main_order}
use Rattle.jx_plan.specs.Headers.{HeaderOptions, all_written, cod_written, is_written, item_at, main_written, rsiz_written, stream_written, tile_written, written}
use Rattle.jx_plan.specs.Asides.{IsAside, is_aside}
use Rattle.jx_plan.proofs.AlikeLemmas.{AreAlike, none_asked}

pub slot_kept : (a : HeaderOptions) (s : Segment) → slot_of (written a s) ≡ slot_of s
slot_kept a (segment.Cod cod) = refl
slot_kept a (segment.Coc comp shape) = refl
slot_kept a (segment.Poc entries) = refl
slot_kept a _ = refl

-- what is left out gives nothing
not_between : (n slot : ℕ) → gives slot ≡ true → 4 < n → n < 261 → (n == slot) ≡ false
not_between n slot g more less = grind (arith, nat_tests)

packed_gives : (index slot : ℕ) → gives slot ≡ true → (5 + index % 256 == slot) ≡ false
packed_gives index slot g = let low : index % 256 < 256 = mod-lt index (omega arith) in not_between (5 + index % 256) slot g (omega arith) (omega arith)

left_out : (changes : Option (List Progression)) (s : Segment) (slot : ℕ) → is_written changes s ≡ false → gives slot ≡ true → (slot_of s == slot) ≡ false
left_out changes (segment.Poc entries) slot h g = grind (arith, nat_tests)
left_out changes (segment.Plt bytes) slot h g = grind (arith, nat_tests)
left_out changes (segment.Plm bytes) slot h g = grind (arith, nat_tests)
left_out changes (segment.Tlm bytes) slot h g = grind (arith, nat_tests)
left_out changes (segment.Ppm index bytes) slot h g = packed_gives index slot g
left_out changes (segment.Ppt index bytes) slot h g = packed_gives index slot g
left_out changes (segment.Skipped code) slot h g = grind (arith, nat_tests)
left_out changes _ slot h g = absurd (cc)

pub slot_written : (a : HeaderOptions) (slot : ℕ) (ss : List Segment) → gives slot ≡ true → in_slot slot (all_written a ss) ≡ option_map (written a) (in_slot slot ss)
slot_written a slot [] g = refl
slot_written a slot (s ∷ ss) g = elim (cases_Bool (is_written a.wanted.changes s)) [
  | inl t ↦ rw (t, slot_kept a s) (elim (cases_Bool (slot_of s == slot)) [
    | inl here ↦ rw here refl
    | inr past ↦ rw past (slot_written a slot ss g)
  ])
  | inr f ↦ rw (f, left_out a.wanted.changes s slot f g) (slot_written a slot ss g)
]

-- so is the same kind there
pub kind_written : (a : HeaderOptions) (slot : ℕ) (ss : List Segment) → gives slot ≡ true → has_slot slot (all_written a ss) ≡ has_slot slot ss
kind_written a slot [] g = refl
kind_written a slot (s ∷ ss) g = elim (cases_Bool (is_written a.wanted.changes s)) [
  | inl t ↦ rw (t, slot_kept a s, kind_written a slot ss g) refl
  | inr f ↦ rw (f, left_out a.wanted.changes s slot f g) (kind_written a slot ss g)
]

pub alike_written : (a : HeaderOptions) (o : Option Segment) → AreAlike a.wanted.precincts a.wanted.style (option_map (written a) o) o
alike_written a None = record { some = refl; shape = refl; quant = refl; shift = refl }
alike_written a (Some (segment.Cod cod)) = record { some = refl; shape = refl; quant = refl; shift = refl }
alike_written a (Some (segment.Coc comp shape)) = record { some = refl; shape = refl; quant = refl; shift = refl }
alike_written a (Some (segment.Poc entries)) = record { some = refl; shape = refl; quant = refl; shift = refl }
alike_written a (Some _) = record { some = refl; shape = refl; quant = refl; shift = refl }

pub alike_to : (ps : Option (List ℕ)) (st : Option Style) (o p q : Option Segment) → o ≡ p → AreAlike ps st p q → AreAlike ps st o q
alike_to ps st o p q e h = rw e h

pub cod_kept : (a : HeaderOptions) (o : Option Segment) → cod_in (option_map (written a) o) ≡ option_map (cod_written a) (cod_in o)
cod_kept a None = refl
cod_kept a (Some (segment.Cod cod)) = refl
cod_kept a (Some (segment.Coc comp shape)) = refl
cod_kept a (Some (segment.Poc entries)) = refl
cod_kept a (Some _) = refl

-- comments and packet lengths give nothing either

aside_slot : (s : Segment) → is_aside s ≡ true → slot_of s ≡ 0
aside_slot (segment.Com bytes) h = refl
aside_slot (segment.Plt bytes) h = refl
aside_slot _ h = absurd (cc)

zero_gives : (slot n : ℕ) → gives slot ≡ true → n ≡ 0 → (n == slot) ≡ false
zero_gives slot n g e = grind (arith, nat_tests)

none_aside : (comps slot : ℕ) (more : List Segment) → gives slot ≡ true → All (IsAside comps) more → in_slot slot more ≡ None
none_aside comps slot [] g h = refl
none_aside comps slot (s ∷ ss) g h =
    let first = zero_gives slot (slot_of s) g (aside_slot s (All-head (IsAside comps) s ss h).is) in
    rw first (none_aside comps slot ss g (All-tail (IsAside comps) s ss h))

pub slot_more : (comps slot : ℕ) (own more : List Segment) → gives slot ≡ true → All (IsAside comps) more → in_slot slot (own ++ more) ≡ in_slot slot own
slot_more comps slot [] more g h = none_aside comps slot more g h
slot_more comps slot (s ∷ ss) more g h = elim (cases_Bool (slot_of s == slot)) [
  | inl here ↦ rw here refl
  | inr past ↦ rw past (slot_more comps slot ss more g h)
]

pub alike_self : (o : Option Segment) → AreAlike None None o o
alike_self o = record { some = refl; shape = sym (none_asked (shape_in o)); quant = refl; shift = refl }

-- one byte of precincts more
pub bytes_next : (items : List ℕ) (res : ℕ) → map (item_at items) (range_with_len 0 (res + 1)) ≡ map (item_at items) (range_with_len 0 res) ++ item_at items res ∷ []
bytes_next items res = map-range_with_len_more (item_at items) 0 res res (omega arith)

-- the stream of such a main header and such tiles
pub stream_is : (a : HeaderOptions) (s : Stream) (siz : Siz) (main : List Segment) (tiles : List Tile) → siz ≡ record s.siz { rsiz = rsiz_written a.wanted.rsiz s.siz.rsiz }
    → main ≡ main_written a (length s.siz.comps) s.main → tiles ≡ map (tile_written a (length s.siz.comps) (main_order s.main) (main_order main)) s.tiles
    → (let x : Stream = record { siz = siz; main = main; tiles = tiles } in x) ≡ stream_written a s
unfolding stream_written
stream_is a s siz main tiles e f g =
    ap (λ (x : Siz). let y : Stream = record { siz = x; main = main; tiles = tiles } in y) e
    ∙ ap (λ (x : List Tile). let y : Stream = record { siz = record s.siz { rsiz = rsiz_written a.wanted.rsiz s.siz.rsiz }; main = main; tiles = x } in y) g
    ∙ ap (λ (x : List Segment). let y : Stream = record {
      siz = record s.siz { rsiz = rsiz_written a.wanted.rsiz s.siz.rsiz };
      main = x;
      tiles = map (tile_written a (length s.siz.comps) (main_order s.main) (main_order x)) s.tiles;
    } in y) f

-- tiles with their orders
pub tiles_same : (a : HeaderOptions) (comps : ℕ) (m n read made : MainOrder) (xs ys : List Tile) → m ≡ read → n ≡ made → xs ≡ ys
    → map (tile_written a comps m n) xs ≡ map (tile_written a comps read made) ys
tiles_same a comps m n read made xs ys e h k = rw (e, h, k) refl
