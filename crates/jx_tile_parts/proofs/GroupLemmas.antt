-- The packets of a tile, cut into tile-parts.
use Rattle.std.proofs.Common.{◌-◌, get_or, ◌==◌, if◌then◌else◌, ◌≡◌, ◌+◌, ◌<◌, ◌≤◌, ◌∙◌, ap, sym, subst, refl, arith, ℕ, zero, suc, Bool, true, false, List, [], ◌∷◌, ◌++◌, length, drop, take, inl, inr, Some}
use Rattle.std.specs.List.{All, AllByRecursion, AllPairs, Contains, slice_get}
use Rattle.std.proofs.Math.Dec.{eqb}
use Rattle.std.proofs.lemmas.Bool.{cases_eq}
use Rattle.std.proofs.Math.Seq.{drop-cons}
use Rattle.std.proofs.lemmas.List.{drop-drop, drop_all, length-drop, length-take-le}
use Rattle.std.proofs.lemmas.List.Elements.{Contains-push}
use Rattle.std.proofs.lemmas.Bool.Decides.{nat_tests}
use Rattle.std.proofs.lemmas.Option.{same_Some}
use Rattle.jx_base.proofs.Lists.{All-left, All-right, contains_cons, contains_head, contains_none, contains_tail, pairs_head, pairs_tail}
use Rattle.jx_progression.specs.declared.names.PacketName.{PacketName}
use Rattle.jx_options.specs.declared.PartChoice.{PartChoice}
use Rattle.jx_options.specs.declared.PartChoice.TheVariants as part
use Rattle.jx_tier2_reader.specs.Written.{packets_in}
use Rattle.jx_tile_parts.specs.Groups.{groups_of, key_of, more_groups, put_before, with_first}

-- ---- one packet more at the front
pub put_same : (parts : PartChoice) (p q : PacketName) (names : List PacketName) (groups : List (List PacketName)) → key_of parts p ≡ key_of parts q
    → put_before parts p (q ∷ names) groups ≡ with_first p groups
put_same parts p q names groups e = by (eqb (key_of parts p) (key_of parts q)) refl
  where
    by : (b : Bool) → eqb (key_of parts p) (key_of parts q) ≡ b → put_before parts p (q ∷ names) groups ≡ with_first p groups
    by true is = rw is refl
    by false is = absurd (grind (arith, nat_tests))

pub put_other : (parts : PartChoice) (p q : PacketName) (names : List PacketName) (groups : List (List PacketName)) → (key_of parts p ≡ key_of parts q → ⊥)
    → put_before parts p (q ∷ names) groups ≡ (p ∷ []) ∷ groups
put_other parts p q names groups ne = by (eqb (key_of parts p) (key_of parts q)) refl
  where
    by : (b : Bool) → eqb (key_of parts p) (key_of parts q) ≡ b → put_before parts p (q ∷ names) groups ≡ (p ∷ []) ∷ groups
    by true is = absurd (grind (arith, nat_tests))
    by false is = rw is refl

-- ---- the packets stay
first_stays : (p : PacketName) (groups : List (List PacketName)) → packets_in (with_first p groups) ≡ p ∷ packets_in groups
first_stays p [] = refl
first_stays p (names ∷ groups) = refl

pub groups_stay : (parts : PartChoice) (names : List PacketName) → packets_in (groups_of parts names) ≡ names
groups_stay parts [] = refl
groups_stay parts (p ∷ []) = refl
groups_stay parts (p ∷ q ∷ names) =
    let groups : List (List PacketName) = groups_of parts (q ∷ names) in
    elim (cases_eq (key_of parts p) (key_of parts q)) [
      | inl e ↦ ap packets_in (put_same parts p q names groups e) ∙ first_stays p groups ∙ ap (λ ns. p ∷ ns) (groups_stay parts (q ∷ names))
      | inr ne ↦ ap packets_in (put_other parts p q names groups ne) ∙ ap (λ ns. p ∷ ns) (groups_stay parts (q ∷ names))
    ]

-- ---- each has a packet
abbrev pub AreFull : List (List PacketName) → Type 0
AreFull = AllByRecursion (λ (names : List PacketName). 0 < length names)

first_full : (p : PacketName) (groups : List (List PacketName)) → AreFull groups → AreFull (with_first p groups)
first_full p [] full = (omega arith, tt)
first_full p (names ∷ groups) full = (omega arith, full.1)

pub groups_full : (parts : PartChoice) (p : PacketName) (names : List PacketName) → AreFull (groups_of parts (p ∷ names))
groups_full parts p [] = (omega arith, tt)
groups_full parts p (q ∷ names) =
    let groups : List (List PacketName) = groups_of parts (q ∷ names) in
    elim (cases_eq (key_of parts p) (key_of parts q)) [
      | inl e ↦ subst AreFull (sym (put_same parts p q names groups e)) (first_full p groups (groups_full parts q names))
      | inr ne ↦ let one : AreFull ((p ∷ []) ∷ groups) = (omega arith, groups_full parts q names) in subst AreFull (sym (put_other parts p q names groups ne)) one
    ]

full_at : (groups : List (List PacketName)) (i : ℕ) → AreFull groups → slice_get groups i ≡ Some [] → ⊥
full_at [] i full e = absurd (cc)
full_at (names ∷ groups) zero full e =
    let none : names ≡ [] = same_Some names [] e in
    let some : 0 < length names = full.0 in
    let empty : length names ≡ 0 = ap length none in
    omega arith
full_at (names ∷ groups) (suc i) full e = full_at groups i full.1 e

pub empty_group : (parts : PartChoice) (names : List PacketName) (i : ℕ) → slice_get (groups_of parts names) i ≡ Some [] → names ≡ []
empty_group parts [] i e = refl
empty_group parts (p ∷ names) i e = absurd (full_at (groups_of parts (p ∷ names)) i (groups_full parts p names) e)

-- ---- how many there are
first_count : (p : PacketName) (groups : List (List PacketName)) → 1 ≤ length groups → length (with_first p groups) ≡ length groups
first_count p [] some = absurd (omega arith)
first_count p (names ∷ groups) some = refl

counted : (parts : PartChoice) (p : PacketName) (names : List PacketName) → (1 ≤ length (groups_of parts (p ∷ names))) × (length (groups_of parts (p ∷ names)) ≤ 1 + length names)
counted parts p [] = (omega arith, omega arith)
counted parts p (q ∷ names) =
    let groups : List (List PacketName) = groups_of parts (q ∷ names) in
    let more = counted parts q names in
    elim (cases_eq (key_of parts p) (key_of parts q)) [
      | inl e ↦
          let same : length (groups_of parts (p ∷ q ∷ names)) ≡ length groups = ap length (put_same parts p q names groups e) ∙ first_count p groups more.0 in
          (omega arith, omega arith)
      | inr ne ↦
          let next : length (groups_of parts (p ∷ q ∷ names)) ≡ suc (length groups) = ap length (put_other parts p q names groups ne) in
          (omega arith, omega arith)
    ]

pub some_group : (parts : PartChoice) (names : List PacketName) → 1 ≤ length (groups_of parts names)
some_group parts [] = omega arith
some_group parts (p ∷ names) = (counted parts p names).0

pub groups_few : (parts : PartChoice) (names : List PacketName) → length (groups_of parts names) ≤ 1 + length names
groups_few parts [] = omega arith
groups_few parts (p ∷ names) = let few = (counted parts p names).1 in omega arith

-- ---- by resolution, where it never falls
abbrev Rises : PacketName → PacketName → Type 0
Rises p q = p.res ≤ q.res

-- those from a packet on have at most the resolutions from its own on
rising_from : (n : ℕ) (p : PacketName) (names : List PacketName) → AllPairs Rises (p ∷ names) → ((x : PacketName) → Contains (p ∷ names) x → x.res < n)
    → length (groups_of part.Resolution (p ∷ names)) + p.res ≤ n
rising_from n p [] sorted below = omega (arith, below p (contains_head p []))
rising_from n p (q ∷ names) sorted below =
    let groups : List (List PacketName) = groups_of part.Resolution (q ∷ names) in
    let later : length groups + q.res ≤ n = rising_from n q names (pairs_tail Rises p (q ∷ names) sorted) (λ x has. below x (contains_tail p (q ∷ names) x has)) in
    let le : p.res ≤ q.res = pairs_head Rises p (q ∷ names) q sorted (contains_head q names) in
    elim (cases_eq p.res q.res) [
      | inl e ↦
          let same : length (groups_of part.Resolution (p ∷ q ∷ names)) ≡ length groups =
          ap length (put_same part.Resolution p q names groups e) ∙ first_count p groups (some_group part.Resolution (q ∷ names)) in
          omega (arith, same, later, e)
      | inr ne ↦
          let next : length (groups_of part.Resolution (p ∷ q ∷ names)) ≡ suc (length groups) = ap length (put_other part.Resolution p q names groups ne) in
          omega (arith, next, later, le, ne)
    ]

pub rising_few : (names : List PacketName) (n : ℕ) → 1 ≤ n → AllPairs Rises names → ((p : PacketName) → Contains names p → p.res < n) → length (groups_of part.Resolution names) ≤ n
rising_few [] n some sorted below = omega (arith, some)
rising_few (p ∷ names) n some sorted below = omega (arith, rising_from n p names sorted below)

-- ---- nothing is asked
pub one_group : (names : List PacketName) → groups_of part.None names ≡ names ∷ []
one_group [] = refl
one_group (p ∷ []) = refl
one_group (p ∷ q ∷ names) = ap (with_first p) (one_group (q ∷ names))

-- ---- the packets of one agree
abbrev pub HaveKey : PartChoice → ℕ → List PacketName → Type 0
HaveKey parts k = AllByRecursion (λ (p : PacketName). key_of parts p ≡ k)

abbrev HasOneKey : PartChoice → List PacketName → Type 0
HasOneKey parts [] = Unit {0}
HasOneKey parts (p ∷ names) = HaveKey parts (key_of parts p) names

-- the first packets of two tile-parts don't
abbrev AreApart : PartChoice → List PacketName → List PacketName → Type 0
AreApart parts [] others = Unit {0}
AreApart parts (p ∷ names) [] = Unit {0}
AreApart parts (p ∷ names) (q ∷ others) = key_of parts p ≡ key_of parts q → ⊥

abbrev IsApart : PartChoice → List PacketName → List (List PacketName) → Type 0
IsApart parts names [] = Unit {0}
IsApart parts names (others ∷ groups) = AreApart parts names others

abbrev AreCut : PartChoice → List (List PacketName) → Type 0
AreCut parts [] = Unit {0}
AreCut parts (names ∷ groups) = HasOneKey parts names × IsApart parts names groups × AreCut parts groups

-- the first packet of all
abbrev BeginWith : PacketName → List (List PacketName) → Type 0
BeginWith p [] = ⊥
BeginWith p ([] ∷ groups) = ⊥
BeginWith p ((q ∷ names) ∷ groups) = q ≡ p

first_begins : (p q : PacketName) (groups : List (List PacketName)) → BeginWith p (with_first p groups)
first_begins p q [] = refl
first_begins p q (names ∷ groups) = refl

begins : (parts : PartChoice) (p : PacketName) (names : List PacketName) → BeginWith p (groups_of parts (p ∷ names))
begins parts p [] = refl
begins parts p (q ∷ names) =
    let groups : List (List PacketName) = groups_of parts (q ∷ names) in
    elim (cases_eq (key_of parts p) (key_of parts q)) [
      | inl e ↦ subst (BeginWith p) (sym (put_same parts p q names groups e)) (first_begins p q groups)
      | inr ne ↦ let one : BeginWith p ((p ∷ []) ∷ groups) = refl in subst (BeginWith p) (sym (put_other parts p q names groups ne)) one
    ]

apart_first : (parts : PartChoice) (p q : PacketName) (names : List PacketName) (groups : List (List PacketName)) → key_of parts p ≡ key_of parts q
    → IsApart parts (q ∷ names) groups → IsApart parts (p ∷ q ∷ names) groups
apart_first parts p q names [] e apart = tt
apart_first parts p q names ([] ∷ groups) e apart = tt
apart_first parts p q names ((x ∷ others) ∷ groups) e apart = λ same. apart (sym e ∙ same)

cut_first : (parts : PartChoice) (p q : PacketName) (groups : List (List PacketName)) → key_of parts p ≡ key_of parts q → BeginWith q groups → AreCut parts groups
    → AreCut parts (with_first p groups)
cut_first parts p q [] e from cut = absurd from
cut_first parts p q ([] ∷ groups) e from cut = absurd from
cut_first parts p q ((x ∷ names) ∷ groups) e from cut =
    let same : key_of parts x ≡ key_of parts p = ap (key_of parts) from ∙ sym e in (
      (same, subst (λ (k : ℕ). HaveKey parts k names) same cut.0),
      apart_first parts p x names groups (sym same) cut.1,
      cut.2,
    )

apart_one : (parts : PartChoice) (p q : PacketName) (groups : List (List PacketName)) → (key_of parts p ≡ key_of parts q → ⊥) → BeginWith q groups → IsApart parts (p ∷ []) groups
apart_one parts p q [] ne from = tt
apart_one parts p q ([] ∷ groups) ne from = tt
apart_one parts p q ((x ∷ names) ∷ groups) ne from = λ same. ne (same ∙ ap (key_of parts) from)

are_cut : (parts : PartChoice) (names : List PacketName) → AreCut parts (groups_of parts names)
are_cut parts [] = (tt, tt, tt)
are_cut parts (p ∷ []) = (tt, tt, tt)
are_cut parts (p ∷ q ∷ names) =
    let groups : List (List PacketName) = groups_of parts (q ∷ names) in
    let from : BeginWith q groups = begins parts q names in
    elim (cases_eq (key_of parts p) (key_of parts q)) [
      | inl e ↦ subst (AreCut parts) (sym (put_same parts p q names groups e)) (cut_first parts p q groups e from (are_cut parts (q ∷ names)))
      | inr ne ↦
          let one : AreCut parts ((p ∷ []) ∷ groups) = (tt, apart_one parts p q groups ne from, are_cut parts (q ∷ names)) in
          subst (AreCut parts) (sym (put_other parts p q names groups ne)) one
    ]

one_at : (parts : PartChoice) (groups : List (List PacketName)) (i : ℕ) (group : List PacketName) → AreCut parts groups → slice_get groups i ≡ Some group → HasOneKey parts group
one_at parts [] i group cut e = absurd (cc)
one_at parts (names ∷ groups) zero group cut e = subst (HasOneKey parts) (same_Some names group e) cut.0
one_at parts (names ∷ groups) (suc i) group cut e = one_at parts groups i group cut.2 e

key_in : (parts : PartChoice) (k : ℕ) (names : List PacketName) (p : PacketName) → HaveKey parts k names → Contains names p → key_of parts p ≡ k
key_in parts k [] p have has = absurd (contains_none p has)
key_in parts k (x ∷ names) p have has = elim (contains_cons x names p has) [
  | inl here ↦ ap (key_of parts) (sym here) ∙ have.0
  | inr later ↦ key_in parts k names p have.1 later
]

key_first : (parts : PartChoice) (x : PacketName) (names : List PacketName) (p : PacketName) → HasOneKey parts (x ∷ names) → Contains (x ∷ names) p → key_of parts p ≡ key_of parts x
key_first parts x names p one has = elim (contains_cons x names p has) [
  | inl here ↦ ap (key_of parts) (sym here)
  | inr later ↦ key_in parts (key_of parts x) names p one later
]

agree_in : (parts : PartChoice) (group : List PacketName) (p q : PacketName) → HasOneKey parts group → Contains group p → Contains group q → key_of parts p ≡ key_of parts q
agree_in parts [] p q one has other = absurd (contains_none p has)
agree_in parts (x ∷ names) p q one has other = key_first parts x names p one has ∙ sym (key_first parts x names q one other)

pub groups_agree : (parts : PartChoice) (names group : List PacketName) (i : ℕ) (p q : PacketName) → slice_get (groups_of parts names) i ≡ Some group
    → Contains group p → Contains group q → key_of parts p ≡ key_of parts q
groups_agree parts names group i p q e has other = agree_in parts group p q (one_at parts (groups_of parts names) i group (are_cut parts names) e) has other

-- ---- the last of one and the first of the next don't
apart_last : (parts : PartChoice) (xs ys : List PacketName) (p q : PacketName) → HasOneKey parts (xs ++ p ∷ []) → AreApart parts (xs ++ p ∷ []) (q ∷ ys) → key_of parts p ≡ key_of parts q → ⊥
apart_last parts [] ys p q one apart same = apart same
apart_last parts (x ∷ xs) ys p q one apart same = apart (sym (key_in parts (key_of parts x) (xs ++ p ∷ []) p one (Contains-push xs p)) ∙ same)

cut_apart : (parts : PartChoice) (before after : List (List PacketName)) (xs ys : List PacketName) (p q : PacketName) → AreCut parts (before ++ ((xs ++ p ∷ []) ∷ (q ∷ ys) ∷ after))
    → key_of parts p ≡ key_of parts q → ⊥
cut_apart parts [] after xs ys p q cut = apart_last parts xs ys p q cut.0 cut.1
cut_apart parts (names ∷ before) after xs ys p q cut = cut_apart parts before after xs ys p q cut.2

pub groups_differ : (parts : PartChoice) (names : List PacketName) (before after : List (List PacketName)) (xs ys : List PacketName) (p q : PacketName)
    → groups_of parts names ≡ before ++ ((xs ++ p ∷ []) ∷ (q ∷ ys) ∷ after) → key_of parts p ≡ key_of parts q → ⊥
groups_differ parts names before after xs ys p q e = cut_apart parts before after xs ys p q (subst (AreCut parts) e (are_cut parts names))

-- ---- where a tile-part ends
-- how many packets have a key before one has another
abbrev pub run_of : PartChoice → ℕ → List PacketName → ℕ
run_of parts k [] = 0
run_of parts k (p ∷ names) = if key_of parts p == k then suc (run_of parts k names) else 0

run_same : (parts : PartChoice) (k : ℕ) (p : PacketName) (names : List PacketName) → key_of parts p ≡ k → run_of parts k (p ∷ names) ≡ suc (run_of parts k names)
run_same parts k p names e = by (eqb (key_of parts p) k) refl
  where
    by : (b : Bool) → eqb (key_of parts p) k ≡ b → run_of parts k (p ∷ names) ≡ suc (run_of parts k names)
    by true is = rw is refl
    by false is = absurd (grind (arith, nat_tests))

run_other : (parts : PartChoice) (k : ℕ) (p : PacketName) (names : List PacketName) → (key_of parts p ≡ k → ⊥) → run_of parts k (p ∷ names) ≡ 0
run_other parts k p names ne = by (eqb (key_of parts p) k) refl
  where
    by : (b : Bool) → eqb (key_of parts p) k ≡ b → run_of parts k (p ∷ names) ≡ 0
    by true is = absurd (grind (arith, nat_tests))
    by false is = rw is refl

-- it ends where no packet is left, and where one has another key
pub run_none : (parts : PartChoice) (k : ℕ) (names : List PacketName) (end : ℕ) → length names ≤ end → run_of parts k (drop end names) ≡ 0
run_none parts k names end le = ap (run_of parts k) (drop_all end names le)

pub run_stops : (parts : PartChoice) (k : ℕ) (names : List PacketName) (end : ℕ) (d : PacketName) → end < length names → (key_of parts (get_or names end d) ≡ k → ⊥)
    → run_of parts k (drop end names) ≡ 0
run_stops parts k names end d lt ne = ap (run_of parts k) (drop-cons names end d lt) ∙ run_other parts k (get_or names end d) (drop (suc end) names) ne

-- the packets up to there are the first tile-part
abbrev CutAt : PartChoice → PacketName → List PacketName → ℕ → Type 0
CutAt parts p names n = groups_of parts (p ∷ names) ≡ (p ∷ take n names) ∷ more_groups parts (drop n names)

cut_at_run : (parts : PartChoice) (p : PacketName) (names : List PacketName) → CutAt parts p names (run_of parts (key_of parts p) names)
cut_at_run parts p [] = refl
cut_at_run parts p (q ∷ names) =
    let groups : List (List PacketName) = groups_of parts (q ∷ names) in
    let k : ℕ = key_of parts p in
    elim (cases_eq k (key_of parts q)) [
      | inl e ↦
          let more : CutAt parts q names (run_of parts k names) = subst (λ (x : ℕ). CutAt parts q names (run_of parts x names)) (sym e) (cut_at_run parts q names) in
          let all : CutAt parts p (q ∷ names) (suc (run_of parts k names)) = put_same parts p q names groups e ∙ ap (with_first p) more in
          subst (CutAt parts p (q ∷ names)) (sym (run_same parts k q names (sym e))) all
      | inr ne ↦
          let all : CutAt parts p (q ∷ names) 0 = put_other parts p q names groups ne in
          subst (CutAt parts p (q ∷ names)) (sym (run_other parts k q names (λ h. ne (sym h)))) all
    ]

-- the tile-part that begins at a place, and those that follow
pub part_is : (parts : PartChoice) (names : List PacketName) (from end k : ℕ) (d : PacketName) → from < length names → k ≡ key_of parts (get_or names from d)
    → end ≡ from + 1 + run_of parts k (drop (from + 1) names)
    → groups_of parts (drop from names) ≡ take (end - from) (drop from names) ∷ more_groups parts (drop end names)
part_is parts names from end k d lt key is =
    let p : PacketName = get_or names from d in
    let later : List PacketName = drop (suc from) names in
    let n : ℕ = run_of parts k later in
    let next : from + 1 ≡ suc from = omega arith in
    let ends : end ≡ suc from + n = is ∙ ap (λ (x : ℕ). x + run_of parts k (drop x names)) next in
    let most : end - from ≡ suc n = omega arith in
    let front : drop from names ≡ p ∷ later = drop-cons names from d lt in
    let cut : CutAt parts p later n = subst (λ (x : ℕ). CutAt parts p later (run_of parts x later)) (sym key) (cut_at_run parts p later) in
    let taken : take (end - from) (drop from names) ≡ p ∷ take n later = ap (λ (x : ℕ). take x (drop from names)) most ∙ ap (take (suc n)) front in
    let left : drop end names ≡ drop n later = ap (λ (x : ℕ). drop x names) ends ∙ sym (drop-drop n (suc from) names) in
    ap (groups_of parts) front ∙ cut ∙ ap (λ (xs : List PacketName). xs ∷ more_groups parts (drop n later)) (sym taken)
    ∙ ap (λ (xs : List PacketName). take (end - from) (drop from names) ∷ more_groups parts xs) (sym left)

-- where packets are left, those that follow one are the tile-parts of the packets that are left
pub more_at : (parts : PartChoice) (names : List PacketName) → 0 < length names → more_groups parts names ≡ groups_of parts names
more_at parts [] some = absurd (omega arith)
more_at parts (p ∷ names) some = refl

-- one tile-part is counted
pub count_next : (parts : PartChoice) (names : List PacketName) (from end : ℕ) → from < length names
    → groups_of parts (drop from names) ≡ take (end - from) (drop from names) ∷ more_groups parts (drop end names)
    → length (more_groups parts (drop from names)) ≡ suc (length (more_groups parts (drop end names)))
count_next parts names from end lt cut = ap length (more_at parts (drop from names) (omega (arith, length-drop from names)) ∙ cut)

-- none is left
pub none_left : (parts : PartChoice) (names : List PacketName) (end : ℕ) → length names ≤ end → more_groups parts (drop end names) ≡ []
none_left parts names end le = ap (more_groups parts) (drop_all end names le)

-- the tile-part that begins at a place is the next
pub more_cut : (parts : PartChoice) (names : List PacketName) (from end : ℕ) → from < length names
    → groups_of parts (drop from names) ≡ take (end - from) (drop from names) ∷ more_groups parts (drop end names)
    → more_groups parts (drop from names) ≡ take (end - from) (drop from names) ∷ more_groups parts (drop end names)
more_cut parts names from end lt cut = more_at parts (drop from names) (omega (arith, length-drop from names)) ∙ cut

-- its packets end where it does
pub part_length : (names : List PacketName) (from end : ℕ) → from ≤ end → end ≤ length names → from + length (take (end - from) (drop from names)) ≡ end
part_length names from end low high =
    let left : length (drop from names) ≡ length names - from = length-drop from names in
    let few : end - from ≤ length (drop from names) = omega arith in
    omega (arith, length-take-le (end - from) (drop from names) few)

-- ---- what holds of each packet
all_each : (P : PacketName → Type 0) (groups : List (List PacketName)) → All P (packets_in groups) → AllByRecursion (λ (names : List PacketName). All P names) groups
all_each P [] all = tt
all_each P (names ∷ groups) all = (All-left P names (packets_in groups) all, all_each P groups (All-right P names (packets_in groups) all))

pub groups_all : (P : PacketName → Type 0) (parts : PartChoice) (names : List PacketName) → All P names
    → AllByRecursion (λ (group : List PacketName). All P group) (groups_of parts names)
groups_all P parts names all = all_each P (groups_of parts names) (subst (All P) (sym (groups_stay parts names)) all)
