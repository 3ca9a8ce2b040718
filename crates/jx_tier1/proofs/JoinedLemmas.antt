-- Lists of coefficients and their parts.
use Rattle.std.proofs.Common.{◌≡◌, ◌<◌, ℕ, zero, suc, refl, sym, ap, ◌∙◌, arith, Bool, false, List, [], ◌∷◌, length, get_or, set, replicate}
use Rattle.std.proofs.lemmas.List.{set-get_or}
use Rattle.jx_tier1_specs.specs.declared.coef.Coef.{Coef}
use Rattle.jx_tier1_specs.specs.Cells.{zero_coef}
use Rattle.jx_tier1.specs.Joined.{joined}

suc_back : (m n : ℕ) → suc m ≡ suc n → m ≡ n
suc_back m n e = omega arith

pub joined_length : (bits planes : List ℕ) (negatives : List Bool) → length planes ≡ length bits → length negatives ≡ length bits
    → length (joined bits planes negatives) ≡ length bits
joined_length [] planes negatives p n = refl
joined_length (b ∷ bits) [] negatives p n = absurd (omega arith)
joined_length (b ∷ bits) (q ∷ planes) [] p n = absurd (omega arith)
joined_length (b ∷ bits) (q ∷ planes) (m ∷ negatives) p n =
    ap suc (joined_length bits planes negatives (suc_back (length planes) (length bits) p) (suc_back (length negatives) (length bits) n))

pub joined_at : (bits planes : List ℕ) (negatives : List Bool) (i : ℕ) (d e : ℕ) (f : Bool) (z : Coef)
    → length planes ≡ length bits → length negatives ≡ length bits → i < length bits
    → get_or (joined bits planes negatives) i z ≡ record { negative = get_or negatives i f; bits = get_or bits i d; planes = get_or planes i e }
joined_at [] planes negatives i d e f z p n l = absurd (omega arith)
joined_at (b ∷ bits) [] negatives i d e f z p n l = absurd (omega arith)
joined_at (b ∷ bits) (q ∷ planes) [] i d e f z p n l = absurd (omega arith)
joined_at (b ∷ bits) (q ∷ planes) (m ∷ negatives) zero d e f z p n l = refl
joined_at (b ∷ bits) (q ∷ planes) (m ∷ negatives) (suc i) d e f z p n l =
    joined_at bits planes negatives i d e f z (suc_back (length planes) (length bits) p) (suc_back (length negatives) (length bits) n) (omega arith)

pub joined_set : (bits planes : List ℕ) (negatives : List Bool) (i : ℕ) (c : Coef)
    → length planes ≡ length bits → length negatives ≡ length bits
    → joined (set bits i c.bits) (set planes i c.planes) (set negatives i c.negative) ≡ set (joined bits planes negatives) i c
joined_set [] planes negatives i c p n = refl
joined_set (b ∷ bits) [] negatives i c p n = absurd (omega arith)
joined_set (b ∷ bits) (q ∷ planes) [] i c p n = absurd (omega arith)
joined_set (b ∷ bits) (q ∷ planes) (m ∷ negatives) zero c p n = refl
joined_set (b ∷ bits) (q ∷ planes) (m ∷ negatives) (suc i) c p n =
    ap (λ (cs : List Coef). record { negative = m; bits = b; planes = q } ∷ cs)
    (joined_set bits planes negatives i c (suc_back (length planes) (length bits) p) (suc_back (length negatives) (length bits) n))

pub joined_more : (bits planes : List ℕ) (negatives : List Bool) (i b p : ℕ) (z : Coef)
    → length planes ≡ length bits → length negatives ≡ length bits → i < length bits
    → joined (set bits i b) (set planes i p) negatives
    ≡ set (joined bits planes negatives) i (record (get_or (joined bits planes negatives) i z) { bits = b; planes = p })
joined_more bits planes negatives i b p z e f l =
    let c : Coef = record { negative = get_or negatives i false; bits = b; planes = p } in
    ap (λ (ns : List Bool). joined (set bits i b) (set planes i p) ns) (sym (set-get_or negatives i false))
    ∙ (joined_set bits planes negatives i c e f
    ∙ ap (λ (d : Coef). set (joined bits planes negatives) i (record d { bits = b; planes = p })) (sym (joined_at bits planes negatives i 0 0 false z e f l)))

pub joined_zeros : (n : ℕ) → joined (replicate n 0) (replicate n 0) (replicate n false) ≡ replicate n zero_coef
joined_zeros zero = refl
joined_zeros (suc n) = ap (λ (cs : List Coef). zero_coef ∷ cs) (joined_zeros n)
