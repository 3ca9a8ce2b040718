-- The markers by their second byte, the first being FF (T.800, Table A.2).
use Rattle.std.specs.Prelude.{ℕ, ◌+◌, ◌*◌, ◌%◌, ◌==◌, ◌&&◌, ◌||◌, nat_lt, nat_le, Bool, [], ◌∷◌, if◌then◌else◌}
use Rattle.std.specs.List.{list_any}
use Rattle.jx_marker.specs.Codes.{SOC, SIZ, COD, COC, TLM, PLM, PLT, QCD, QCC, RGN, POC, PPM, PPT, CRG, COM, SOT, SOD, EOC}

-- SIZ, COD, COC, TLM, PLM, PLT, QCD, QCC, RGN, POC, PPM, PPT, CRG, COM, SOT: a length follows
abbrev pub has_length : ℕ → Bool
has_length code = list_any (λ marker. code == marker) (SIZ ∷ COD ∷ COC ∷ TLM ∷ PLM ∷ PLT ∷ QCD ∷ QCC ∷ RGN ∷ POC ∷ PPM ∷ PPT ∷ CRG ∷ COM ∷ SOT ∷ [])

-- SOC, SOD, EOC, and FF30 to FF3F, which no reader needs: no length follows
abbrev pub stands_alone : ℕ → Bool
stands_alone code = list_any (λ marker. code == marker) (SOC ∷ SOD ∷ EOC ∷ []) || (nat_le 48 code && nat_le code 63)

-- the bytes of a component's index: two where the picture has 257 components or more (A.6.2)
abbrev pub index_size : ℕ → ℕ
index_size comps = if nat_lt comps 257 then 1 else 2

-- the bytes of an entry of a quantization style: one without quantization, else two (A.6.4)
abbrev pub entry_size : ℕ → ℕ
entry_size sqcd = if sqcd % 32 == 0 then 1 else 2

-- the bytes of an entry of POC (A.6.6)
abbrev pub progression_size : ℕ → ℕ
progression_size comps = 5 + 2 * index_size comps
