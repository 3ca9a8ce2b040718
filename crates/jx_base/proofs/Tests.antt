-- Lemmas over tests and answers, beside those of std.
use Rattle.std.proofs.Common.{◌≡◌, ◌||◌, Bool, true, false, refl, Result, Ok, Err, OnErr}

pub or_false : (b : Bool) → (b || false) ≡ b
or_false true = refl
or_false false = refl

pub on_err : {T E P : Type 0} (r : Result T E) → P → OnErr r P
on_err (Ok x) p = tt
on_err (Err e) p = p
