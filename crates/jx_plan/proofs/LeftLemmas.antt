-- The pieces of a sound block, one after another.
use Rattle.std.proofs.Common.{◌≡◌, ◌<◌, ◌≤◌, ◌+◌, ◌^◌, ◌∙◌, ap, refl, arith, ℕ, suc, nat_lt, true, false, List, [], ◌∷◌, length, map, drop, drop-cons, subst, slice_index_or, Option, None, Some, IfSome}
use Rattle.std.proofs.lemmas.Bool.Decides.{nat_tests}
use Rattle.std.proofs.lemmas.List.{drop_all}
use Rattle.jx_base.specs.declared.pieces.Block.{Block}
use Rattle.jx_base.specs.declared.pieces.Piece.{Piece}
use Rattle.jx_base.specs.declared.style.Style.{Style}
use Rattle.jx_base.specs.Pieces.{PieceValue, ArePieces, value_of}
use Rattle.jx_base.specs.Sound.{IsSound}
use Rattle.jx_plan.specs.Layers.{Divide, greatest_to, layer_in}
use Rattle.jx_plan.specs.Sent.{AreLeft, AreSent, IsJobFrom, answered}
use Rattle.jx_layers.specs.Rule.{Rule}
use Rattle.jx_codeblock.specs.declared.LayerEnd.{LayerEnd}
use Rattle.jx_codeblock.specs.declared.job.Job.{Job}
use Rattle.jx_codeblock.specs.Jobs.{AreEnds}
use Rattle.jx_codeblock.specs.Written.{style_for}
use Rattle.jx_base.proofs.PieceLemmas.{pieces_end}

-- a lower layer before them serves too
pieces_low : (style layer first passes : ℕ) (ps : List PieceValue) → ArePieces style layer first passes ps → ArePieces style 0 first passes ps
pieces_low style layer first passes [] are = are
pieces_low style layer first passes (p ∷ ps) are =
    (record { layers = omega arith; begins = are.0.begins; some = are.0.some; segment = are.0.segment; markers = are.0.markers }, are.1)

pub left_all : (b : Block) → IsSound b → AreLeft b 0 b.pieces
left_all b sound = record { pieces = sound.pieces; layers = λ pass from. refl }

pub left_first : (b : Block) (n : ℕ) (p : PieceValue) (left : List PieceValue) → AreLeft b n (p ∷ left) → p.first ≡ n
left_first b n p left are = are.pieces.0.begins

pub left_few : (b : Block) (n : ℕ) (p : PieceValue) (left : List PieceValue) → IsSound b → AreLeft b n (p ∷ left) → p.first + p.passes ≤ 220
left_few b n p left sound are =
    let reach = pieces_end b.style.bits p.layer (n + p.passes) b.passes left are.pieces.1 in
    omega (arith, reach, are.pieces.0.begins, sound.few, sound.planes)

pub left_layer : (b : Block) (n : ℕ) (p : PieceValue) (left : List PieceValue) → AreLeft b n (p ∷ left) → (pass : ℕ) → p.first ≤ pass → pass < p.first + p.passes → layer_in b.pieces pass ≡ p.layer
left_layer b n p left are pass from below =
    let begins = are.pieces.0.begins in
    let test : nat_lt pass (p.first + p.passes) ≡ true = grind (arith, nat_tests) in
    are.layers pass (omega (arith, begins, from)) ∙ rw test refl

pub left_next : (b : Block) (n : ℕ) (p : PieceValue) (left : List PieceValue) → AreLeft b n (p ∷ left) → AreLeft b (p.first + p.passes) left
left_next b n p left are =
    let begins = are.pieces.0.begins in
    record {
      pieces = rw begins (pieces_low b.style.bits p.layer (n + p.passes) b.passes left are.pieces.1);
      layers = λ pass from.
          let test : nat_lt pass (p.first + p.passes) ≡ false = grind (arith, nat_tests) in
          are.layers pass (omega (arith, begins, from)) ∙ rw test refl;
    }

pub left_none : (b : Block) (n : ℕ) → AreLeft b n [] → n ≡ b.passes
left_none b n are = are.pieces

-- ---- the same at a place of a list
piece_at : (b : Block) (n i : ℕ) (items : List Piece) (d : Piece) → i < length items → AreLeft b n (map value_of (drop i items)) → AreLeft b n (value_of (slice_index_or items i d) ∷ map value_of (drop (i + 1) items))
piece_at b n i items d lt are =
    let next : i + 1 ≡ suc i = omega arith in
    rw next (subst (λ ps. AreLeft b n (map value_of ps)) (drop-cons items i d lt) are)

pub item_few : (b : Block) (n i : ℕ) (items : List Piece) (d : Piece) → IsSound b → i < length items → AreLeft b n (map value_of (drop i items))
    → (slice_index_or items i d).first + (slice_index_or items i d).passes ≤ 220
item_few b n i items d sound lt are = left_few b n (value_of (slice_index_or items i d)) (map value_of (drop (i + 1) items)) sound (piece_at b n i items d lt are)

pub item_next : (b : Block) (n i : ℕ) (items : List Piece) (d : Piece) → i < length items → AreLeft b n (map value_of (drop i items))
    → AreLeft b ((slice_index_or items i d).first + (slice_index_or items i d).passes) (map value_of (drop (i + 1) items))
item_next b n i items d lt are = left_next b n (value_of (slice_index_or items i d)) (map value_of (drop (i + 1) items)) (piece_at b n i items d lt are)

-- what is sent after a piece
pub sent_on : (o now : Option Rule) (last start number : ℕ) (b : Block) (asked old_passes old_last new_passes new_last : ℕ) (old_ends new_ends : List LayerEnd) → now ≡ o → asked ≡ start + old_passes
    → IfSome o (λ r. AreSent (answered r last start number b) old_passes old_last old_ends)
    → IfSome now (λ r. (from : ℕ) → asked ≡ from + old_passes → AreSent (answered r last from number b) old_passes old_last old_ends → AreSent (answered r last from number b) new_passes new_last new_ends)
    → IfSome o (λ r. AreSent (answered r last start number b) new_passes new_last new_ends)
sent_on None now last start number b asked old_passes old_last new_passes new_last old_ends new_ends is start_is before goes = tt
sent_on (Some r) now last start number b asked old_passes old_last new_passes new_last old_ends new_ends is start_is before goes =
    let goes_some : IfSome (Some r) (λ x. (from : ℕ) → asked ≡ from + old_passes → AreSent (answered x last from number b) old_passes old_last old_ends → AreSent (answered x last from number b) new_passes new_last new_ends) =
    subst (λ x. IfSome x (λ y. (from : ℕ) → asked ≡ from + old_passes → AreSent (answered y last from number b) old_passes old_last old_ends → AreSent (answered y last from number b) new_passes new_last new_ends)) is goes in
    goes_some start start_is before

-- how often was asked after it, and what is left
pub asked_on : (b : Block) (n i : ℕ) (items : List Piece) (d : Piece) (start before now more : ℕ) → i < length items → AreLeft b n (map value_of (drop i items)) → before ≡ start + n → now ≡ before + (slice_index_or items i d).passes
    → more ≡ (slice_index_or items i d).first + (slice_index_or items i d).passes → now ≡ start + more
asked_on b n i items d start before now more lt are before_is now_is more_is =
    let begins = left_first b n (value_of (slice_index_or items i d)) (map value_of (drop (i + 1) items)) (piece_at b n i items d lt are) in
    omega (arith, begins, before_is, now_is, more_is)

pub left_on : (b : Block) (n i : ℕ) (items : List Piece) (d : Piece) (more : ℕ) → i < length items → AreLeft b n (map value_of (drop i items)) → more ≡ (slice_index_or items i d).first + (slice_index_or items i d).passes
    → AreLeft b more (map value_of (drop (i + 1) items))
left_on b n i items d more lt are more_is = rw more_is (item_next b n i items d lt are)

-- and how often at most, when not all of the piece was asked for
pub asked_most : (b : Block) (n i : ℕ) (items : List Piece) (d : Piece) (start before now : ℕ) → i < length items → AreLeft b n (map value_of (drop i items)) → before ≡ start + n → now ≤ before + (slice_index_or items i d).passes
    → now ≤ start + b.passes
asked_most b n i items d start before now lt are before_is most =
    let p : PieceValue = value_of (slice_index_or items i d) in
    let at : AreLeft b n (p ∷ map value_of (drop (i + 1) items)) = piece_at b n i items d lt are in
    let reach = pieces_end b.style.bits p.layer (n + p.passes) b.passes (map value_of (drop (i + 1) items)) at.pieces.1 in
    omega (arith, reach, before_is, most)

-- ---- what a loop over pieces asks, and what it leaves
pub item_first : (b : Block) (n i : ℕ) (items : List Piece) (d : Piece) → i < length items → AreLeft b n (map value_of (drop i items)) → (slice_index_or items i d).first ≡ n
item_first b n i items d lt are = left_first b n (value_of (slice_index_or items i d)) (map value_of (drop (i + 1) items)) (piece_at b n i items d lt are)

pub item_layer : (b : Block) (n i : ℕ) (items : List Piece) (d : Piece) → i < length items → AreLeft b n (map value_of (drop i items))
    → (pass : ℕ) → (slice_index_or items i d).first ≤ pass → pass < (slice_index_or items i d).first + (slice_index_or items i d).passes → layer_in b.pieces pass ≡ (slice_index_or items i d).layer
item_layer b n i items d lt are = left_layer b n (value_of (slice_index_or items i d)) (map value_of (drop (i + 1) items)) (piece_at b n i items d lt are)

pub room_on : (start n asked : ℕ) → asked ≡ start + n → n ≤ 220 → start < 2 ^ 31 → asked < 2 ^ 32
room_on start n asked is few room = omega arith

pub few_on : (b : Block) (n i : ℕ) (items : List Piece) (d : Piece) (more : ℕ) → IsSound b → i < length items → AreLeft b n (map value_of (drop i items)) → more ≡ (slice_index_or items i d).first + (slice_index_or items i d).passes → more ≤ 220
few_on b n i items d more sound lt are is = omega (arith, item_few b n i items d sound lt are, is)

pub asked_begun : (start n : ℕ) → n ≡ 0 → start ≡ start + n
asked_begun start n is = omega (arith, is)

pub left_begun : (b : Block) (n : ℕ) (left : List PieceValue) → IsSound b → n ≡ 0 → left ≡ b.pieces → AreLeft b n left
left_begun b n left sound is left_is = rw is (rw left_is (left_all b sound))

pub sent_begun : (o : Option Rule) (last start number : ℕ) (b : Block) (n now : ℕ) (ends : List LayerEnd) → ((g : ℕ → ℕ) → AreSent g n now ends) → IfSome o (λ r. AreSent (answered r last start number b) n now ends)
sent_begun None last start number b n now ends sent = tt
sent_begun (Some r) last start number b n now ends sent = sent (answered r last start number b)

pub left_ended : (b : Block) (n i : ℕ) (items : List Piece) → length items ≤ i → AreLeft b n (map value_of (drop i items)) → n ≡ b.passes
left_ended b n i items past are = left_none b n (subst (λ (ps : List Piece). AreLeft b n (map value_of ps)) (drop_all i items past) are)

pub asked_ended : (b : Block) (n i : ℕ) (items : List Piece) (start asked : ℕ) → length items ≤ i → AreLeft b n (map value_of (drop i items)) → asked ≡ start + n → asked ≡ start + b.passes
asked_ended b n i items start asked past are is = is ∙ ap (λ m. start + m) (left_ended b n i items past are)

pub most_ended : (b : Block) (n i : ℕ) (items : List Piece) (start asked : ℕ) → length items ≤ i → AreLeft b n (map value_of (drop i items)) → asked ≡ start + n → asked ≤ start + b.passes
most_ended b n i items start asked past are is = omega (arith, asked_ended b n i items start asked past are is)

-- what is asked of a block whose passes are all in layers
pub job_ended : (style : Option Style) (o : Option Rule) (last start number : ℕ) (b : Block) (n now : ℕ) (ends : List LayerEnd) (job : Job) → n ≡ b.passes → job.number ≡ number → job.block.now ≡ b → job.style ≡ style_for style b
    → IfSome o (λ r. AreSent (answered r last start number b) n now ends) → ((g : ℕ → ℕ) → AreSent g n now ends → AreEnds 0 0 n job.ends × Divide (greatest_to g) 0 job.ends)
    → IfSome o (λ r. IsJobFrom style r last start number b job)
job_ended style None last start number b n now ends job all number_is block_is style_is sent goes = tt
job_ended style (Some r) last start number b n now ends job all number_is block_is style_is sent goes =
    let both = goes (answered r last start number b) sent in
    record { number_is = number_is; block_is = block_is; style_is = style_is; ends = subst (λ m. AreEnds 0 0 m job.ends) all both.0; layers_are = both.1 }
