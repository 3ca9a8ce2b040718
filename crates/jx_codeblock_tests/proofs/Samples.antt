-- Blocks of the tests.
use Rattle.std.proofs.Common.{ℕ, ◌≡◌, ◌+◌, ◌*◌, ◌<◌, ◌≤◌, ◌%◌, List, [], ◌∷◌, ◌++◌, ◌∙◌, inl, inr, refl, sym, arith, length, Some}
use Rattle.std.specs.List.{All}
use Rattle.std.proofs.lemmas.List.Elements.{All-head, All-nil, All-push, All-tail, All-weaker}
use Rattle.std.proofs.lemmas.List.Sums.{sum_by-append, sum_by-cons}
use Rattle.jx_base.specs.Markers.{HasNoMarker}
use Rattle.jx_base.specs.Pieces.{PieceValue, IsPieceOf, ArePieces, bytes_in}
use Rattle.jx_base.specs.Sound.{IsSound}
use Rattle.jx_base.specs.declared.pieces.Block.{Block}
use Rattle.jx_base.specs.declared.style.Style.{Style}
use Rattle.jx_codeblock.specs.declared.LayerEnd.{LayerEnd}
use Rattle.jx_codeblock.specs.Jobs.{AreEnds, IsAsked}
use Rattle.jx_base.specs.Limits.{most_bytes}

piece : (layer first passes : ℕ) (bytes : List ℕ) → 1 ≤ passes → HasNoMarker 0 bytes
    → IsPieceOf 0 layer first (record { layer = layer; first = first; passes = passes; bytes = bytes })
piece layer first passes bytes some h = record {
  layers = omega arith;
  begins = refl;
  some = some;
  segment = λ (pass : ℕ) le lt. refl;
  markers = h;
}

pub one_piece : (bytes : List ℕ) → HasNoMarker 0 bytes → ArePieces 0 0 0 4 (record { layer = 0; first = 0; passes = 4; bytes = bytes } ∷ [])
one_piece bytes h = (piece 0 0 4 bytes (omega arith) h, refl)

pub one_bytes : (p : PieceValue) → length p.bytes ≤ 100 → bytes_in (p ∷ []) ≤ most_bytes
one_bytes p le = omega (arith, sum_by-cons (λ (q : PieceValue). length q.bytes) p [])

pub two_pieces : (a b : List ℕ) → HasNoMarker 0 a → HasNoMarker 0 b
    → ArePieces 0 0 0 4 (record { layer = 0; first = 0; passes = 2; bytes = a } ∷ record { layer = 1; first = 2; passes = 2; bytes = b } ∷ [])
two_pieces a b h k =
    (piece 0 0 2 a (omega arith) h, (record { layers = omega arith; begins = refl; some = omega arith; segment = λ (pass : ℕ) le lt. refl; markers = k }, refl))

pub two_bytes : (p q : PieceValue) → length p.bytes ≤ 100 → length q.bytes ≤ 100 → bytes_in (p ∷ q ∷ []) ≤ most_bytes
two_bytes p q le le' = omega (arith, sum_by-cons (λ (x : PieceValue). length x.bytes) p (q ∷ []), sum_by-cons (λ (x : PieceValue). length x.bytes) q [])

-- ---- blocks that are coded anew
single : (style layer first : ℕ) (bytes : List ℕ) → HasNoMarker 0 bytes → IsPieceOf style layer first (record { layer = layer; first = first; passes = 1; bytes = bytes })
single style layer first bytes h = record {
  layers = omega arith;
  begins = refl;
  some = omega arith;
  segment = λ (pass : ℕ) le lt. absurd (omega arith);
  markers = h;
}

pub one_pass : (style : ℕ) (bytes : List ℕ) → HasNoMarker 0 bytes → ArePieces style 0 0 1 (record { layer = 0; first = 0; passes = 1; bytes = bytes } ∷ [])
one_pass style bytes h = (single style 0 0 bytes h, refl)

pub each_pass : (style : ℕ) (a b : List ℕ) → HasNoMarker 0 a → HasNoMarker 0 b
    → ArePieces style 0 0 4 (record { layer = 0; first = 0; passes = 1; bytes = a } ∷ record { layer = 0; first = 1; passes = 1; bytes = b }
    ∷ record { layer = 0; first = 2; passes = 1; bytes = b } ∷ record { layer = 0; first = 3; passes = 1; bytes = b } ∷ [])
each_pass style a b h k = (single style 0 0 a h, (single style 0 1 b k, (single style 0 2 b k, (single style 0 3 b k, refl))))

pub each_bytes : (p q r s : PieceValue) → length p.bytes ≤ 100 → length q.bytes ≤ 100 → length r.bytes ≤ 100 → length s.bytes ≤ 100 → bytes_in (p ∷ q ∷ r ∷ s ∷ []) ≤ most_bytes
each_bytes p q r s a b c d =
    let f : PieceValue → ℕ = λ x. length x.bytes in
    omega (arith, sum_by-cons f p (q ∷ r ∷ s ∷ []), sum_by-cons f q (r ∷ s ∷ []), sum_by-cons f r (s ∷ []), sum_by-cons f s [])

pub asked_whole : (b : Block) (style : Style) (ends : List LayerEnd) → IsSound b → AreEnds 0 0 b.passes ends → b.passes % 3 ≡ 1 → IsAsked b (Some style) ends
asked_whole b style ends sound layers whole = record { sound = sound; layers = layers; causal = inr (inr whole) }

pub asked_none : (b : Block) (style : Style) (ends : List LayerEnd) → IsSound b → b.passes ≡ 0 → ends ≡ [] → IsAsked b (Some style) ends
asked_none b style ends sound none e = record { sound = sound; layers = rw e (sym none); causal = inr (inl none) }

-- ---- a block of which each pass is a piece of its own layer
pub record Spread (style passes : ℕ) (ps : List PieceValue) : Type 0 where
  pub are : ArePieces style 0 0 passes ps
  pub layers : All (λ (p : PieceValue). p.layer < passes) ps
  pub bytes : bytes_in ps ≤ 100 * passes

pieces_push : (style layer first passes : ℕ) (ps : List PieceValue) (p : PieceValue) → ArePieces style layer first passes ps → All (λ (q : PieceValue). q.layer ≤ p.layer) ps
    → layer ≤ p.layer → IsPieceOf style p.layer passes p → p.passes ≡ 1 → ArePieces style layer first (passes + 1) (ps ++ p ∷ [])
pieces_push style layer first passes [] p are below le is one =
    let begins : first ≡ passes = are in
    (record { layers = le; begins = is.begins ∙ sym begins; some = is.some; segment = is.segment; markers = is.markers }, omega arith)
pieces_push style layer first passes (q ∷ ps) p are below le is one =
    let P : PieceValue → Type 0 = λ (x : PieceValue). x.layer ≤ p.layer in
    (are.0, pieces_push style q.layer (first + q.passes) passes ps p are.1 (All-tail P q ps below) (All-head P q ps below) is one)

pub spread_none : (style : ℕ) → Spread style 0 []
spread_none style = record { are = refl; layers = All-nil (λ (p : PieceValue). p.layer < 0); bytes = omega arith }

pub spread_next : (style pass : ℕ) (bytes : List ℕ) (ps more : List PieceValue) → Spread style pass ps → HasNoMarker 0 bytes → length bytes ≤ 100
    → more ≡ ps ++ record { layer = pass; first = pass; passes = 1; bytes = bytes } ∷ [] → Spread style (pass + 1) more
spread_next style pass bytes ps more h markers few e =
    let p : PieceValue = record { layer = pass; first = pass; passes = 1; bytes = bytes } in
    let is : IsPieceOf style pass pass p = single style pass pass bytes markers in
    let below : All (λ (q : PieceValue). q.layer ≤ pass) ps = All-weaker (λ (q : PieceValue). q.layer < pass) (λ (q : PieceValue). q.layer ≤ pass) (λ q lt. omega arith) ps h.layers in
    let lower : All (λ (q : PieceValue). q.layer < pass + 1) ps = All-weaker (λ (q : PieceValue). q.layer < pass) (λ (q : PieceValue). q.layer < pass + 1) (λ q lt. omega arith) ps h.layers in
    let f : PieceValue → ℕ = λ (q : PieceValue). length q.bytes in
    rw e (record {
      are = pieces_push style 0 0 pass ps p h.are below (omega arith) is refl;
      layers = All-push (λ (q : PieceValue). q.layer < pass + 1) ps p lower (omega arith);
      bytes = omega (arith, h.bytes, sum_by-append f ps (p ∷ []), sum_by-cons f p []);
    })

pub spread_pieces : (style : ℕ) (ps : List PieceValue) → Spread style 13 ps → ArePieces style 0 0 13 ps
spread_pieces style ps h = h.are

pub spread_bytes : (style : ℕ) (ps : List PieceValue) → Spread style 13 ps → bytes_in ps ≤ most_bytes
spread_bytes style ps h = omega (arith, h.bytes)
