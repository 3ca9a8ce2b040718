-- Bytes that a writer takes, one piece after another.
use Rattle.std.proofs.Common.{◌≡◌, ℕ, List, [], ◌++◌, Option, Some, None, refl, ap, sym, ◌∙◌, append_assoc, append-nil}
use Rattle.jx_rounds.specs.Taken.{HasTaken, SomeFront, followed_by}

pub nothing_written : (w : Option (List ℕ)) → w ≡ followed_by [] w
nothing_written None = refl
nothing_written (Some bytes) = ap (λ (b : List ℕ). Some b) (sym (append-nil bytes))

written_twice : (a b : List ℕ) (w : Option (List ℕ)) → followed_by b (followed_by a w) ≡ followed_by (a ++ b) w
written_twice a b None = refl
written_twice a b (Some bytes) = ap (λ (all : List ℕ). Some all) (append_assoc bytes a b)

pub has_taken_none : (w : Option (List ℕ)) (bytes : List ℕ) → HasTaken w w bytes bytes
has_taken_none w bytes = record { front = []; whole = refl; written = nothing_written w }

pub has_taken_more : (old now new : Option (List ℕ)) (bytes rest piece rest' : List ℕ)
    → HasTaken old now bytes rest → rest ≡ piece ++ rest' → new ≡ followed_by piece now → HasTaken old new bytes rest'
has_taken_more old now new bytes rest piece rest' so_far cut step = record {
  front = so_far.front ++ piece;
  whole = simp append_assoc (so_far.whole ∙ ap (λ (r : List ℕ). so_far.front ++ r) cut);
  written = step ∙ (ap (followed_by piece) so_far.written ∙ written_twice so_far.front piece old);
}

pub has_taken_all : (old new : Option (List ℕ)) (bytes rest : List ℕ) → HasTaken old new bytes rest → rest ≡ [] → new ≡ followed_by bytes old
has_taken_all old new bytes rest so_far none =
    let whole : bytes ≡ so_far.front = simp append-nil at (so_far.whole ∙ ap (λ (r : List ℕ). so_far.front ++ r) none) in
    so_far.written ∙ ap (λ (front : List ℕ). followed_by front old) (sym whole)

pub front_of_later : (old now new : Option (List ℕ)) (bytes first later : List ℕ) → bytes ≡ first ++ later → now ≡ followed_by first old → SomeFront now new later → SomeFront old new bytes
front_of_later old now new bytes first later cut wrote (rest, done) = (
  rest,
  has_taken_more old now new bytes later done.front rest
      (record { front = first; whole = cut; written = wrote }) done.whole done.written,
)

pub both_written : (old now new : Option (List ℕ)) (bytes first later : List ℕ) → bytes ≡ first ++ later → now ≡ followed_by first old → new ≡ followed_by later now → new ≡ followed_by bytes old
both_written old now new bytes first later cut wrote wrote_later =
    wrote_later ∙ (ap (followed_by later) wrote ∙ (written_twice first later old ∙ ap (λ (piece : List ℕ). followed_by piece old) (sym cut)))

pub all_front : (old new : Option (List ℕ)) (bytes : List ℕ) → new ≡ followed_by bytes old → SomeFront old new bytes
all_front old new bytes wrote = ([], record { front = bytes; whole = sym (append-nil bytes); written = wrote })

-- nothing is a front
pub no_front : (w : Option (List ℕ)) (bytes : List ℕ) → SomeFront w w bytes
no_front w bytes = (bytes, has_taken_none w bytes)

-- a front of the next piece
pub front_after : (old now new : Option (List ℕ)) (bytes rest piece rest' : List ℕ) → HasTaken old now bytes rest → rest ≡ piece ++ rest' → SomeFront now new piece → SomeFront old new bytes
front_after old now new bytes rest piece rest' so_far cut (left, done) = (
  left ++ rest',
  has_taken_more old now new bytes rest done.front (left ++ rest') so_far
      (cut ∙ ap (λ (b : List ℕ). b ++ rest') done.whole ∙ append_assoc done.front left rest') done.written,
)
