-- Lists that are written in place, item by item and group by group.
use Rattle.std.proofs.Common.{◌≡◌, ℕ, suc, zero, ◌+◌, ◌-◌, ◌≤◌, ◌<◌, List, [], ◌∷◌, ◌++◌, inl, inr, ◌∙◌, ap, sym, subst, refl, arith, append_assoc, append-nil, length, length-append, take, drop, get_or, max, set}
use Rattle.std.proofs.lemmas.List.{drop_more, get_or-drop, get_or-take, drop-take, drop_all, length-drop, length-take, length-take-le, take-append-drop, take-append-le, take-take}
use Rattle.std.proofs.lemmas.Bool.{cases_lt}
use Rattle.std.proofs.Math.Seq.{drop-append_seam, set-append_seam, take-length}
use Rattle.std.specs.List.{flat_map}
use Rattle.jx_base.specs.Joined.{joined, joined_below}
use Rattle.jx_base.proofs.Joined.{joined_next, joined_none}
use Rattle.jx_progression.proofs.FlatLemmas.{flat_next}

-- ---- lists of one item each
below_long : {X : Type 0} (f : ℕ → List X) (a n : ℕ) → ((i : ℕ) → length (f i) ≡ 1) → length (joined_below f a n) ≡ n
below_long f a zero one = refl
below_long f a (suc n) one = omega (arith, length-append (joined_below f a n) (f (a + n)), below_long f a n one, one (a + n))

pub joined_long : {X : Type 0} (f : ℕ → List X) (a b : ℕ) → ((i : ℕ) → length (f i) ≡ 1) → length (joined f a b) ≡ b - a
unfolding joined
joined_long f a b one = below_long f a (b - a) one

pub written_none : {X : Type 0} (xs : List X) (at n a b : ℕ) (f : ℕ → List X) → b ≤ a → n ≡ at → xs ≡ take at xs ++ joined f a b ++ drop n xs
written_none {X} xs at n a b f le e =
    let P : ℕ → Type 0 = λ m. xs ≡ take at xs ++ joined f a b ++ drop m xs in
    let Q : List X → Type 0 = λ ys. xs ≡ take at xs ++ ys ++ drop at xs in
    subst P (sym e) (subst Q (sym (joined_none f a b le)) (sym (ap (λ ys. ys ++ drop at xs) (append-nil (take at xs)) ∙ take-append-drop at xs)))

pub written_next : {X : Type 0} (xs old now : List X) (at n m a b : ℕ) (f : ℕ → List X) (x : X) → ((i : ℕ) → length (f i) ≡ 1) → a ≤ b
    → n ≡ at + (b - a) → m ≡ n + 1 → n < length xs → f b ≡ x ∷ []
    → old ≡ take at xs ++ joined f a b ++ drop n xs → now ≡ set old n x → now ≡ take at xs ++ joined f a (b + 1) ++ drop m xs
written_next {X} xs old now at n m a b f x one le en em lt last before step =
    let rest : drop n xs ≡ get_or xs n x ∷ drop (n + 1) xs = drop_more xs n x lt in
    let front : length (take at xs ++ joined f a b) ≡ n =
    omega (arith, length-append (take at xs) (joined f a b), length-take-le at xs (omega arith), joined_long f a b one) in
    let old_is : old ≡ take at xs ++ joined f a b ++ get_or xs n x ∷ drop (n + 1) xs = before ∙ ap (λ ys. take at xs ++ joined f a b ++ ys) rest in
    let at_place : set (take at xs ++ joined f a b ++ get_or xs n x ∷ drop (n + 1) xs) n x ≡ take at xs ++ joined f a b ++ x ∷ drop (n + 1) xs =
    ap (λ i. set (take at xs ++ joined f a b ++ get_or xs n x ∷ drop (n + 1) xs) i x) (sym front)
    ∙ set-append_seam (take at xs ++ joined f a b) (get_or xs n x) (drop (n + 1) xs) x in
    let more : joined f a (b + 1) ≡ joined f a b ++ x ∷ [] = joined_next f a b le ∙ ap (λ ys. joined f a b ++ ys) last in
    let both : take at xs ++ joined f a b ++ x ∷ [] ≡ take at xs ++ joined f a (b + 1) =
    append_assoc (take at xs) (joined f a b) (x ∷ []) ∙ ap (λ ys. take at xs ++ ys) (sym more) in
    step ∙ ap (λ ys. set ys n x) old_is ∙ at_place ∙ sym (append_assoc (take at xs ++ joined f a b) (x ∷ []) (drop (n + 1) xs))
    ∙ ap (λ ys. ys ++ drop (n + 1) xs) both ∙ ap (λ i. take at xs ++ joined f a (b + 1) ++ drop i xs) (sym em)

-- after the last of the numbers from a on below b, where b may lie before a
pub written_all : {X : Type 0} (xs now : List X) (at a b n : ℕ) (f : ℕ → List X) → a ≤ n → b ≤ n → n ≤ max a b
    → now ≡ take at xs ++ joined f a n ++ drop (at + (n - a)) xs → now ≡ take at xs ++ joined f a b ++ drop (at + (b - a)) xs
written_all {X} xs now at a b n f ha hb hn h = elim (cases_lt a b) [
  | inl some ↦ let e : n ≡ b = omega arith in h ∙ ap (λ m. take at xs ++ joined f a m ++ drop (at + (m - a)) xs) e
  | inr none ↦
      let e : n ≡ a = omega arith in
      let long : at + (n - a) ≡ at + (b - a) = omega arith in
      h ∙ ap (λ ys. take at xs ++ ys ++ drop (at + (n - a)) xs) (joined_none f a n (omega arith) ∙ sym (joined_none f a b none))
      ∙ ap (λ m. take at xs ++ joined f a b ++ drop m xs) long
]

-- the items of a front that stayed
pub front_item : {X : Type 0} (before now : List X) (n i : ℕ) (d : X) → i < n → take n now ≡ take n before → get_or now i d ≡ get_or before i d
front_item {X} before now n i d lt e = sym (get_or-take n now i d lt) ∙ ap (λ (ys : List X). get_or ys i d) e ∙ get_or-take n before i d lt

pub front_all : {X : Type 0} (before now : List X) (i : ℕ) (d : X) → i < length before → take (length before) now ≡ before → get_or now i d ≡ get_or before i d
front_all before now i d lt e = front_item before now (length before) i d lt (e ∙ sym (take-length before))

-- a list of which all was lent as a slice
pub whole_slice : {X : Type 0} (xs ys : List X) (n : ℕ) → n ≡ length xs → length ys ≡ length xs → take n (ys ++ drop (length ys) xs) ≡ ys
whole_slice xs ys n e long =
    ap (λ zs. take n (ys ++ zs)) (drop_all (length ys) xs (omega arith)) ∙ ap (λ zs. take n zs) (append-nil ys)
    ∙ ap (λ i. take i ys) (e ∙ sym long) ∙ take-length ys

-- what stood at the end still stands there once more is appended
pub heads_stay : {X : Type 0} (before now lent : List X) (from n : ℕ) → from ≤ length before → n ≡ length before - from → lent ≡ now
    → take (length before) now ≡ before → take n (drop from lent) ≡ drop from before
heads_stay {X} before now lent from n le e same front =
    let long : from + n ≡ length before = omega arith in
    sym (drop-take from n lent) ∙ ap (λ i. drop from (take i lent)) long ∙ ap (λ (ys : List X). drop from (take (length before) ys)) same
    ∙ ap (λ (ys : List X). drop from ys) front

-- ---- groups behind the first of each
module _ {A : Type 0} (F : A → List A) where
  -- no group is empty
  abbrev pub Some : List A → Type 0
  Some xs = (i : ℕ) (d : A) → i < length xs → 0 < length (F (get_or xs i d))

  pub flat_long : (xs : List A) (k : ℕ) → Some xs → k ≤ length xs → k ≤ length (flat_map F (take k xs))
  flat_long xs zero some le = omega arith
  flat_long [] (suc k) some le = absurd (omega arith)
  flat_long (x ∷ xs) (suc k) some le =
      let first : 0 < length (F x) = some 0 x (omega arith) in
      let rest : k ≤ length (flat_map F (take k xs)) = flat_long xs k (λ i d lt. some (suc i) d (omega arith)) (omega arith) in
      let whole : length (F x ++ flat_map F (take k xs)) ≡ length (F x) + length (flat_map F (take k xs)) = length-append (F x) (flat_map F (take k xs)) in
      omega arith

  pub flat_more : (xs : List A) (k : ℕ) (d : A) → k < length xs
      → length (flat_map F (take (k + 1) xs)) ≡ length (flat_map F (take k xs)) + length (F (get_or xs k d))
  flat_more xs k d lt =
      ap (λ (ys : List A). length ys) (flat_next F xs k d lt) ∙ length-append (flat_map F (take k xs)) (F (get_or xs k d))

  flat_rest : (xs : List A) (k : ℕ) (d : A) → k < length xs → flat_map F (drop k xs) ≡ F (get_or xs k d) ++ flat_map F (drop (k + 1) xs)
  flat_rest xs k d lt = ap (λ ys. flat_map F ys) (drop_more xs k d lt)

  -- room for the groups of so many
  pub record Room (heads before now : List A) (k : ℕ) : Type 0 where
    pub front : take (length before) now ≡ before
    pub size : length now + k ≡ length before + length (flat_map F (take k heads))

  -- groups from the last on to one
  pub record Spread (heads before now : List A) (from k to : ℕ) : Type 0 where
    pub front : take (from + k) now ≡ take (from + k) before
    pub back : drop to now ≡ flat_map F (drop k heads)
    pub at : to ≡ from + length (flat_map F (take k heads))
    pub within : to ≤ length now
    pub long : length now ≡ length before

  pub spread_item : (before now : List A) (from n k to : ℕ) (d : A) → k < n → Spread (take n (drop from before)) before now from (k + 1) to
      → get_or (take n (drop from before)) k d ≡ get_or now (from + k) d
  spread_item before now from n k to d lt s =
      get_or-take n (drop from before) k d lt ∙ get_or-drop from before k d ∙ sym (front_item before now (from + (k + 1)) (from + k) d (omega arith) s.front)

  pub spread_room : (heads before now : List A) (from k to : ℕ) (d : A) → k < length heads → Spread heads before now from (k + 1) to
      → length (F (get_or heads k d)) ≤ to
  spread_room heads before now from k to d lt s = omega (arith, flat_more heads k d lt, s.at)

  pub spread_next : (heads before now next : List A) (from k to n : ℕ) (d : A) → Some heads → k < length heads
      → Spread heads before now from (k + 1) to → n ≡ length (F (get_or heads k d))
      → next ≡ take (to - n) now ++ F (get_or heads k d) ++ drop to now → Spread heads before next from k (to - n)
  spread_next heads before now next from k to n d some lt s size e =
      let more = flat_more heads k d lt in
      let at : to - n ≡ from + length (flat_map F (take k heads)) = omega (arith, more, s.at) in
      let past : n ≤ to = omega (arith, more, s.at) in
      let long_front : length (take (to - n) now) ≡ to - n = length-take-le (to - n) now (omega (arith, s.within)) in
      let reach : from + k ≤ to - n = omega (arith, at, flat_long heads k some (omega arith)) in
      let apart : next ≡ take (to - n) now ++ (F (get_or heads k d) ++ drop to now) = e ∙ append_assoc (take (to - n) now) (F (get_or heads k d)) (drop to now) in
      let whole : length next ≡ length (take (to - n) now) + (length (F (get_or heads k d)) + length (drop to now)) =
      ap (λ (ys : List A). length ys) apart ∙ length-append (take (to - n) now) (F (get_or heads k d) ++ drop to now)
      ∙ ap (λ i. length (take (to - n) now) + i) (length-append (F (get_or heads k d)) (drop to now)) in
      let back_long : length (drop to now) ≡ length now - to = length-drop to now in
      record {
        front = ap (λ (ys : List A). take (from + k) ys) apart
            ∙ take-append-le (from + k) (take (to - n) now) (F (get_or heads k d) ++ drop to now) (omega (arith, long_front))
            ∙ take-take (from + k) (to - n) now reach ∙ sym (take-take (from + k) (from + (k + 1)) now (omega arith))
            ∙ ap (λ (ys : List A). take (from + k) ys) s.front ∙ take-take (from + k) (from + (k + 1)) before (omega arith);
        back = ap (λ (ys : List A). drop (to - n) ys) apart
            ∙ ap (λ i. drop i (take (to - n) now ++ (F (get_or heads k d) ++ drop to now))) (sym long_front)
            ∙ drop-append_seam (take (to - n) now) (F (get_or heads k d) ++ drop to now)
            ∙ ap (λ ys. F (get_or heads k d) ++ ys) s.back ∙ sym (flat_rest heads k d lt);
        at = at;
        within = omega (arith, whole, reach, long_front, s.within, back_long, past);
        long = omega (arith, whole, long_front, s.within, back_long, past, s.long, size);
      }

  pub room_none : (heads before : List A) → Room heads before before 0
  room_none heads before = record { front = take-length before; size = omega arith }

  pub room_next : (heads before now next : List A) (k n : ℕ) (d : A) → Some heads → k < length heads → Room heads before now k
      → n ≡ length (F (get_or heads k d)) → take (length now) next ≡ now → length next ≡ length now + (n - 1) → Room heads before next (k + 1)
  room_next heads before now next k n d some lt r size front long =
      let more = flat_more heads k d lt in
      let one = some k d lt in
      let room : length before ≤ length now = omega (arith, length-take (length before) now, ap (λ (ys : List A). length ys) r.front) in
      record {
        front = sym (take-take (length before) (length now) next room) ∙ ap (λ (ys : List A). take (length before) ys) front ∙ r.front;
        size = omega (arith, more, one, r.size);
      }

  pub spread_none : (heads before : List A) (from n to : ℕ) → n ≡ length heads → to ≡ length before → length before ≡ from + length (flat_map F heads)
      → Spread heads before before from n to
  spread_none heads before from n to e et size =
      let whole : take n heads ≡ heads = ap (λ i. take i heads) e ∙ take-length heads in
      let flat : length (flat_map F (take n heads)) ≡ length (flat_map F heads) = ap (λ ys. length (flat_map F ys)) whole in
      record {
        front = refl;
        back = drop_all to before (omega arith) ∙ ap (λ ys. flat_map F ys) (sym (drop_all n heads (omega arith)));
        at = omega arith;
        within = omega arith;
        long = refl;
      }

  -- a step of the loop that has done so many from the last on
  heads_long : (before : List A) (from n : ℕ) → from + n ≤ length before → length (take n (drop from before)) ≡ n
  heads_long before from n le = length-take-le n (drop from before) (omega (arith, length-drop from before))

  left : (before now : List A) (from n done to : ℕ) → done < n → Spread (take n (drop from before)) before now from (n - done) to
      → Spread (take n (drop from before)) before now from (n - 1 - done + 1) to
  left before now from n done to lt s =
      let P : ℕ → Type 0 = λ i. Spread (take n (drop from before)) before now from i to in
      let e : n - done ≡ n - 1 - done + 1 = omega arith in
      subst P e s

  pub spread_fits : (before now : List A) (from n done to : ℕ) (d : A) → done < n → from + n ≤ length before
      → Spread (take n (drop from before)) before now from (n - done) to → length (F (get_or now (from + (n - 1 - done)) d)) ≤ to
  spread_fits before now from n done to d lt le s =
      let on = left before now from n done to lt s in
      omega (
        arith,
        ap (λ (y : A). length (F y)) (spread_item before now from n (n - 1 - done) to d (omega arith) on),
        spread_room (take n (drop from before)) before now from (n - 1 - done) to d (omega (arith, heads_long before from n le)) on,
      )

  pub spread_step : (before now next : List A) (from n done to size at : ℕ) (d : A) → Some (take n (drop from before)) → done < n → from + n ≤ length before
      → Spread (take n (drop from before)) before now from (n - done) to → size ≡ length (F (get_or now (from + (n - 1 - done)) d)) → at ≡ to - size
      → next ≡ take (to - size) now ++ F (get_or now (from + (n - 1 - done)) d) ++ drop to now
      → Spread (take n (drop from before)) before next from (n - (done + 1)) at
  spread_step before now next from n done to size at d some lt le s es ea e =
      let on = left before now from n done to lt s in
      let item = spread_item before now from n (n - 1 - done) to d (omega arith) on in
      let next_is = spread_next (take n (drop from before)) before now next from (n - 1 - done) to size d some (omega (arith, heads_long before from n le)) on
      (es ∙ ap (λ (y : A). length (F y)) (sym item)) (e ∙ ap (λ (y : A). take (to - size) now ++ F y ++ drop to now) (sym item)) in
      let P : ℕ → Type 0 = λ i. Spread (take n (drop from before)) before next from i at in
      let Q : ℕ → Type 0 = λ i. Spread (take n (drop from before)) before next from (n - 1 - done) i in
      let last : n - 1 - done ≡ n - (done + 1) = omega arith in
      subst P last (subst Q (sym ea) next_is)
