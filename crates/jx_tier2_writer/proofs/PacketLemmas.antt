-- A packet as it is put together, and its length.
use Rattle.std.proofs.Common.{◌≡◌, ℕ, zero, suc, ◌+◌, ◌<◌, Bool, true, false, cond, List, [], ◌∷◌, ◌++◌, length, map, sym, ap, ◌∙◌, subst, arith, append_assoc, length-append}
use Rattle.std.specs.Prelude.{slice_index_or, if◌then◌else◌}
use Rattle.std.specs.List.{range_with_len, slice_get}
use Rattle.std.proofs.lemmas.List.FromFn.{get_or-map-range_with_len, length-map-range_with_len}
use Rattle.jx_base.specs.declared.pieces.Block.{Block}
use Rattle.jx_geom.specs.Geometry.{Geometry}
use Rattle.jx_codestream.specs.declared.Stream.{Stream}
use Rattle.jx_marker.specs.Codes.{eph_spelling}
use Rattle.jx_tier2_reader.specs.Written.{WrittenPacket, packet_bytes, sop_bytes}
use Rattle.jx_tier2_writer.specs.Own.{IsSending}
use Rattle.jx_tier2_writer.specs.Sendings.{Sending}
use Rattle.jx_tier2_writer.proofs.SendingsLemmas.{IsSendingOf}

pub there_below : (s : Stream) (g : Geometry) (own : List Block) (datas : List (List ℕ)) (c r k : ℕ) (list : List Sending) (i : ℕ) → IsSendingOf s g own datas c r k (slice_get list i) → i < length list
there_below s g own datas c r k [] i is = absurd is
there_below s g own datas c r k (p ∷ list) zero is = omega arith
there_below s g own datas c r k (p ∷ list) (suc i) is = let lt : i < length list = there_below s g own datas c r k list i is in omega arith

pub there_is : (s : Stream) (g : Geometry) (own : List Block) (datas : List (List ℕ)) (c r k : ℕ) (list : List Sending) (i : ℕ) (p : Sending)
    → IsSendingOf s g own datas c r k (slice_get list i) → p ≡ slice_index_or list i p → IsSending s g own datas c r k p
there_is s g own datas c r k [] i p is at = absurd is
there_is s g own datas c r k (q ∷ list) zero p is at = subst (λ (x : Sending). IsSending s g own datas c r k x) (sym at) is
there_is s g own datas c r k (q ∷ list) (suc i) p is at = there_is s g own datas c r k list i p is at

-- rows that are given layer by layer
pub rows_count : {X : Type 0} (f : ℕ → X) (n : ℕ) (rows : List X) → rows ≡ map f (range_with_len 0 n) → length rows ≡ n
rows_count {X} f n rows is = ap (λ (xs : List X). length xs) is ∙ length-map-range_with_len f 0 n

pub row_of : {X : Type 0} (f : ℕ → List X) (n i : ℕ) (rows : List (List X)) → rows ≡ map f (range_with_len 0 n) → i < n → slice_index_or rows i [] ≡ f i
row_of {X} f n i rows is lt = ap (λ (xs : List (List X)). slice_index_or xs i []) is ∙ get_or-map-range_with_len f 0 n i i [] lt (let e : 0 + i ≡ i = omega arith in e)

-- its length
pub packet_long : (w : WrittenPacket) (number : ℕ) → length (packet_bytes number w) ≡ ((if w.sop then 6 else 0) + (if w.eph then 2 else 0)) + length w.header + length w.bytes
packet_long w number = by w.sop w.eph
  where
    by : (a b : Bool) → length (cond a (sop_bytes number) [] ++ (w.header ++ (cond b eph_spelling [] ++ w.bytes))) ≡ (cond a 6 0 + cond b 2 0) + length w.header + length w.bytes
    by true true = let e : length (w.header ++ (eph_spelling ++ w.bytes)) ≡ length w.header + length (eph_spelling ++ w.bytes) = length-append w.header (eph_spelling ++ w.bytes) in omega arith
    by true false = let e : length (w.header ++ w.bytes) ≡ length w.header + length w.bytes = length-append w.header w.bytes in omega arith
    by false true = let e : length (w.header ++ (eph_spelling ++ w.bytes)) ≡ length w.header + length (eph_spelling ++ w.bytes) = length-append w.header (eph_spelling ++ w.bytes) in omega arith
    by false false = let e : length (w.header ++ w.bytes) ≡ length w.header + length w.bytes = length-append w.header w.bytes in omega arith

-- four lists appended one after another
pub four_put : (a b c d e w x y z : List ℕ) → b ≡ a ++ w → c ≡ b ++ x → d ≡ c ++ y → e ≡ d ++ z → e ≡ a ++ (w ++ (x ++ (y ++ z)))
four_put a b c d e w x y z one two three four =
    four ∙ ap (λ (q : List ℕ). q ++ z) (three ∙ ap (λ (q : List ℕ). q ++ y) (two ∙ ap (λ (q : List ℕ). q ++ x) one))
    ∙ append_assoc ((a ++ w) ++ x) y z ∙ append_assoc (a ++ w) x (y ++ z) ∙ append_assoc a w (x ++ (y ++ z))
