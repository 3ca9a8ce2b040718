-- A file that is made, as a writer of bytes.
use Rattle.std.proofs.Common.{◌≡◌, ℕ, Bool, List, ◌++◌, Option, None, Some, refl, ap}
use Rattle.std.specs.Option.{option_map}
use Rattle.jx_io.specs.Device.{Meaning, Named, after_write, appended}
use Rattle.jx_rounds.specs.FileBytes.{bytes_made, bytes_of, emptied, told_beside}
use Rattle.jx_rounds.specs.Taken.{followed_by}

made_more : (w : Option (Option Named)) (more : List ℕ) → bytes_made (option_map (option_map (appended more)) w) ≡ followed_by more (bytes_made w)
made_more None more = refl
made_more (Some None) more = refl
made_more (Some (Some file)) more = refl

beside_more : (w : Option (Option Named)) (more : List ℕ) → option_map (option_map emptied) (option_map (option_map (appended more)) w) ≡ option_map (option_map emptied) w
beside_more None more = refl
beside_more (Some None) more = refl
beside_more (Some (Some file)) more = refl

pub bytes_after : (m : Meaning) (more : List ℕ) → bytes_of (after_write more m) ≡ followed_by more (bytes_of m)
bytes_after m more = made_more m.written more

pub beside_after : (m : Meaning) (more : List ℕ) → told_beside (after_write more m) ≡ told_beside m
beside_after m more = ap (λ (w : Option (Option Named)). record m { written = w }) (beside_more m.written more)

-- ---- and back: the bytes and all beside them are the whole
file_is : (f g : Named) (more : List ℕ) → g.bytes ≡ f.bytes ++ more → g.name ≡ f.name → g ≡ appended more f
file_is f g more bytes name = rw (← bytes, ← name) refl

same_file : (f g : Named) (more : List ℕ) → Some g.bytes ≡ Some (f.bytes ++ more) → Some (Some (emptied g)) ≡ Some (Some (emptied f)) → Some (Some g) ≡ Some (Some (appended more f))
same_file f g more bytes beside =
    let b : g.bytes ≡ f.bytes ++ more = cc in
    let e : emptied g ≡ emptied f = cc in
    ap (λ (file : Named). Some (Some file)) (file_is f g more b (ap (λ (file : Named). file.name) e))

made_after : (v w : Option (Option Named)) (more : List ℕ) → bytes_made w ≡ followed_by more (bytes_made v) → option_map (option_map emptied) w ≡ option_map (option_map emptied) v
    → w ≡ option_map (option_map (appended more)) v
made_after None None more bytes beside = refl
made_after None (Some w) more bytes beside = absurd (cc)
made_after (Some None) None more bytes beside = absurd (cc)
made_after (Some None) (Some None) more bytes beside = refl
made_after (Some None) (Some (Some g)) more bytes beside = absurd (cc)
made_after (Some (Some f)) None more bytes beside = absurd (cc)
made_after (Some (Some f)) (Some None) more bytes beside = absurd (cc)
made_after (Some (Some f)) (Some (Some g)) more bytes beside = same_file f g more bytes beside

meaning_is : (n : Meaning) (h : List ℕ → Option (Option (List ℕ))) (r k : Bool) (l : Option (List ℕ)) (w : Option (Option Named))
    → n.holds ≡ h → n.reading ≡ r → n.making ≡ k → n.left ≡ l → n.written ≡ w → n ≡ record { holds = h; reading = r; left = l; making = k; written = w }
meaning_is n h r k l w a b c d e = rw (← a, ← b, ← c, ← d, ← e) refl

pub meaning_after : (m n : Meaning) (more : List ℕ) → bytes_of n ≡ followed_by more (bytes_of m) → told_beside n ≡ told_beside m → n ≡ after_write more m
meaning_after m n more bytes beside =
    meaning_is n m.holds m.reading m.making m.left (option_map (option_map (appended more)) m.written)
    (ap (λ (x : Meaning). x.holds) beside) (ap (λ (x : Meaning). x.reading) beside) (ap (λ (x : Meaning). x.making) beside) (ap (λ (x : Meaning). x.left) beside)
    (made_after m.written n.written more bytes (ap (λ (x : Meaning). x.written) beside))
