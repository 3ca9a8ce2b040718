-- Cursors in the parts of blocks.
use Rattle.std.proofs.Common.{◌≡◌, ℕ, zero, suc, ◌+◌, ◌-◌, ◌<◌, ◌≤◌, ◌==◌, Bool, true, false, List, [], ◌∷◌, ◌++◌, length, take, drop, get_or, refl, sym, ap, ◌∙◌, subst, cond, arith}
use Rattle.std.proofs.lemmas.Bool.Decides.{nat_tests}
use Rattle.std.proofs.lemmas.List.{append-nil, take-append-drop, get_or_default}
use Rattle.jx_packet_header.specs.declared.HeaderPart.{HeaderPart}
use Rattle.jx_packet_header.specs.declared.LeafPart.{LeafPart}
use Rattle.jx_packet_header.specs.Written.{Leafed, first_layer, parts_in}
use Rattle.jx_packet_header.specs.Writable.{IsCursor, IsRising, AreRising, AreFrom, leaf_at}

-- ---- cursors
pub cursor_more : (layer c : ℕ) (parts : List LeafPart) → IsCursor layer c parts → IsCursor (layer + 1) c parts
cursor_more layer zero parts i = tt
cursor_more layer (suc c) [] i = i
cursor_more layer (suc c) (p ∷ ps) i = (let lt : p.layer < layer = i.0 in omega arith, cursor_more layer c ps i.1)

pub cursor_le : (layer c : ℕ) (parts : List LeafPart) → IsCursor layer c parts → c ≤ length parts
cursor_le layer zero parts i = omega arith
cursor_le layer (suc c) [] i = absurd i
cursor_le layer (suc c) (p ∷ ps) i = let le : c ≤ length ps = cursor_le layer c ps i.1 in omega arith

-- a part, where there is none
abbrev pub no_part : LeafPart
no_part = record { layer = 0; told = record { block = 0; first = 0; passes = 0; length = 0 } }

pub cursor_next : (layer c : ℕ) (parts : List LeafPart) → IsCursor layer c parts → c < length parts → (get_or parts c no_part).layer < layer → IsCursor layer (c + 1) parts
cursor_next layer c [] i lt below = absurd (omega arith)
cursor_next layer zero (q ∷ qs) i lt below = (below, tt)
cursor_next layer (suc c) (q ∷ qs) i lt below =
    let n : suc c + 1 ≡ suc (c + 1) = omega arith in
    subst (λ (k : ℕ). IsCursor layer k (q ∷ qs)) (sym n) (i.0, cursor_next layer c qs i.1 (omega arith) below)

skipped : (layer : ℕ) (p : LeafPart) (ps : List LeafPart) → p.layer < layer → parts_in layer (p ∷ ps) ≡ parts_in layer ps
skipped layer p ps lt = let no : (p.layer == layer) ≡ false = grind (arith, nat_tests) in ap (λ (b : Bool). cond b (p.told ∷ parts_in layer ps) (parts_in layer ps)) no

pub cursor_in : (layer c : ℕ) (parts : List LeafPart) → IsCursor layer c parts → parts_in layer (drop c parts) ≡ parts_in layer parts
cursor_in layer zero parts i = refl
cursor_in layer (suc c) [] i = absurd i
cursor_in layer (suc c) (p ∷ ps) i = cursor_in layer c ps i.1 ∙ sym (skipped layer p ps i.0)

in_append : (layer : ℕ) (xs ys : List LeafPart) → parts_in layer (xs ++ ys) ≡ parts_in layer xs ++ parts_in layer ys
in_append layer [] ys = refl
in_append layer (x ∷ xs) ys = by (x.layer == layer) (in_append layer xs ys)
  where
    by : (b : Bool) → parts_in layer (xs ++ ys) ≡ parts_in layer xs ++ parts_in layer ys →
        cond b (x.told ∷ parts_in layer (xs ++ ys)) (parts_in layer (xs ++ ys)) ≡ cond b (x.told ∷ parts_in layer xs) (parts_in layer xs) ++ parts_in layer ys
    by true h = ap (λ (l : List HeaderPart). x.told ∷ l) h
    by false h = h

drop_drop : (n m : ℕ) (xs : List LeafPart) → drop n (drop m xs) ≡ drop (m + n) xs
drop_drop n zero xs = let e : n ≡ 0 + n = omega arith in ap (λ (k : ℕ). drop k xs) e
drop_drop n (suc m) [] = none n ∙ sym (none (suc m + n))
  where
    none : (k : ℕ) → drop {A = LeafPart} k [] ≡ []
    none zero = refl
    none (suc k) = refl
drop_drop n (suc m) (x ∷ xs) = drop_drop n m xs ∙ (let e : suc (m + n) ≡ suc m + n = omega arith in ap (λ (k : ℕ). drop k (x ∷ xs)) e)

-- the parts from a cursor up to where no more are of the layer have all that are
pub run_in : (layer start stop : ℕ) (parts : List LeafPart) → IsCursor layer start parts → start ≤ stop → parts_in layer (drop stop parts) ≡ [] →
    parts_in layer (take (stop - start) (drop start parts)) ≡ parts_in layer parts
run_in layer start stop parts i le none =
    let n : ℕ = stop - start in
    let mine = drop start parts in
    let at : start + n ≡ stop = omega arith in
    let behind : parts_in layer (drop n mine) ≡ [] = ap (parts_in layer) (drop_drop n start parts ∙ ap (λ (k : ℕ). drop k parts) at) ∙ none in
    sym (append-nil (parts_in layer (take n mine))) ∙ ap (λ (l : List HeaderPart). parts_in layer (take n mine) ++ l) (sym behind)
    ∙ sym (in_append layer (take n mine) (drop n mine)) ∙ ap (parts_in layer) (take-append-drop n mine) ∙ cursor_in layer start parts i

-- the same where the parts are read twice
pub run_same : (layer start n : ℕ) (first second parts : List LeafPart) → first ≡ parts → second ≡ parts → parts_in layer (take n (drop start first)) ≡ parts_in layer first →
    parts_in layer (take n (drop start second)) ≡ parts_in layer parts
run_same layer start n first second parts e f run = ap (λ (l : List LeafPart). parts_in layer (take n (drop start l))) (f ∙ sym e) ∙ run ∙ ap (parts_in layer) e

-- ---- layers that don't fall
rising_none : (layer last : ℕ) (parts : List LeafPart) → IsRising last parts → layer < last → parts_in layer parts ≡ []
rising_none layer last [] r lt = refl
rising_none layer last (p ∷ ps) r lt =
    let le : last ≤ p.layer = r.0 in
    let no : (p.layer == layer) ≡ false = grind (arith, nat_tests) in
    ap (λ (b : Bool). cond b (p.told ∷ parts_in layer ps) (parts_in layer ps)) no ∙ rising_none layer p.layer ps r.1 (omega arith)

rising_from : (last c : ℕ) (parts : List LeafPart) → IsRising last parts → c < length parts → IsRising (get_or parts c no_part).layer (drop c parts)
rising_from last c [] r lt = absurd (omega arith)
rising_from last zero (q ∷ qs) r lt = (omega arith, r.1)
rising_from last (suc c) (q ∷ qs) r lt = rising_from q.layer c qs r.1 (omega arith)

-- from a part of a later layer on none is of the layer
pub none_from : (layer c : ℕ) (parts : List LeafPart) → IsRising 0 parts → c < length parts → layer < (get_or parts c no_part).layer → parts_in layer (drop c parts) ≡ []
none_from layer c parts r lt above = rising_none layer (get_or parts c no_part).layer (drop c parts) (rising_from 0 c parts r lt) above

pub rising_take : (n : ℕ) (leaves : List Leafed) → AreRising leaves → AreRising (take n leaves)
rising_take zero leaves r = tt
rising_take (suc n) [] r = tt
rising_take (suc n) (l ∷ ls) r = (r.0, rising_take n ls r.1)

pub rising_drop : (n : ℕ) (leaves : List Leafed) → AreRising leaves → AreRising (drop n leaves)
rising_drop zero leaves r = r
rising_drop (suc n) [] r = tt
rising_drop (suc n) (l ∷ ls) r = rising_drop n ls r.1

pub rising_at : (i : ℕ) (leaves : List Leafed) → AreRising leaves → IsRising 0 (leaf_at leaves i).parts
rising_at i [] r = tt
rising_at zero (l ∷ ls) r = r.0
rising_at (suc i) (l ∷ ls) r = rising_at i ls r.1

-- ---- parts from a layer on
pub from_less : (layer : ℕ) (parts : List LeafPart) → AreFrom (layer + 1) parts → AreFrom layer parts
from_less layer [] f = tt
from_less layer (p ∷ ps) f = (let le : layer + 1 ≤ p.layer = f.0 in omega arith, from_less layer ps f.1)

pub from_none : (layer : ℕ) (parts : List LeafPart) → AreFrom (layer + 1) parts → parts_in layer parts ≡ []
from_none layer [] f = refl
from_none layer (p ∷ ps) f =
    let le : layer + 1 ≤ p.layer = f.0 in
    let no : (p.layer == layer) ≡ false = grind (arith, nat_tests) in
    ap (λ (b : Bool). cond b (p.told ∷ parts_in layer ps) (parts_in layer ps)) no ∙ from_none layer ps f.1

rising_are : (layer last : ℕ) (parts : List LeafPart) → IsRising last parts → layer ≤ last → AreFrom layer parts
rising_are layer last [] r le = tt
rising_are layer last (p ∷ ps) r le = let ge : last ≤ p.layer = r.0 in (omega arith, rising_are layer p.layer ps r.1 (omega arith))

-- where layers don't fall, those of the parts begin with the first part's
pub rising_first : (layers layer : ℕ) (parts : List LeafPart) → IsRising 0 parts → layer ≤ first_layer layers parts → AreFrom layer parts
rising_first layers layer [] r le = tt
rising_first layers layer (p ∷ ps) r le = (le, rising_are layer p.layer ps r.1 le)

-- ---- what stands at a place
pub cursor_here : (layer leaf r : ℕ) (inside now : List ℕ) (parts : List LeafPart) → inside ≡ now → leaf < length now → r ≡ get_or inside leaf r → IsCursor layer (get_or now leaf 0) parts → IsCursor layer r parts
cursor_here layer leaf r inside now parts same lt read i =
    let here : get_or now leaf 0 ≡ r = get_or_default now leaf 0 r lt ∙ ap (λ (l : List ℕ). get_or l leaf r) (sym same) ∙ sym read in
    subst (λ (k : ℕ). IsCursor layer k parts) here i

pub noted_here : (xs : List Bool) (i : ℕ) (r s : Bool) → i < length xs → r ≡ get_or xs i r → get_or xs i false ≡ s → r ≡ s
noted_here xs i r s lt read is = read ∙ sym (get_or_default xs i false r lt) ∙ is
