-- A slot tells a segment's kind, and its component where there is one.
use Rattle.std.proofs.Common.{◌≡◌, ◌+◌, ◌*◌, ◌%◌, ◌<◌, ℕ, arith, refl, ap, inl, inr}
use Rattle.std.proofs.Math.Nat.{mod-lt}
use Rattle.jx_marker.specs.declared.Segment.{Segment}
use Rattle.jx_marker.specs.declared.Segment.TheVariants as segment
use Rattle.jx_codestream.specs.Headers.{slot_of}
use Rattle.jx_codestream.specs.Kinds.{IsCod, IsQcd, IsPoc, IsCrg, IsPacked, IsCoc, IsQcc, IsRgn}

low : (index : ℕ) → index % 256 < 256
low index = mod-lt index (omega arith)

cod_to : (s : Segment) → slot_of s ≡ 1 → IsCod s
cod_to (segment.Cod cod) h = (cod, refl)
cod_to (segment.Coc comp shape) h = absurd (omega arith)
cod_to (segment.Qcc comp quant) h = absurd (omega arith)
cod_to (segment.Rgn comp shift) h = absurd (omega arith)
cod_to (segment.Ppm index bytes) h = absurd (omega (arith, h))
cod_to (segment.Ppt index bytes) h = absurd (omega (arith, h))
cod_to _ h = absurd (omega arith)

qcd_to : (s : Segment) → slot_of s ≡ 2 → IsQcd s
qcd_to (segment.Qcd quant) h = (quant, refl)
qcd_to (segment.Coc comp shape) h = absurd (omega arith)
qcd_to (segment.Qcc comp quant) h = absurd (omega arith)
qcd_to (segment.Rgn comp shift) h = absurd (omega arith)
qcd_to (segment.Ppm index bytes) h = absurd (omega (arith, h))
qcd_to (segment.Ppt index bytes) h = absurd (omega (arith, h))
qcd_to _ h = absurd (omega arith)

poc_to : (s : Segment) → slot_of s ≡ 3 → IsPoc s
poc_to (segment.Poc entries) h = (entries, refl)
poc_to (segment.Coc comp shape) h = absurd (omega arith)
poc_to (segment.Qcc comp quant) h = absurd (omega arith)
poc_to (segment.Rgn comp shift) h = absurd (omega arith)
poc_to (segment.Ppm index bytes) h = absurd (omega (arith, h))
poc_to (segment.Ppt index bytes) h = absurd (omega (arith, h))
poc_to _ h = absurd (omega arith)

crg_to : (s : Segment) → slot_of s ≡ 4 → IsCrg s
crg_to (segment.Crg bytes) h = (bytes, refl)
crg_to (segment.Coc comp shape) h = absurd (omega arith)
crg_to (segment.Qcc comp quant) h = absurd (omega arith)
crg_to (segment.Rgn comp shift) h = absurd (omega arith)
crg_to (segment.Ppm index bytes) h = absurd (omega (arith, h))
crg_to (segment.Ppt index bytes) h = absurd (omega (arith, h))
crg_to _ h = absurd (omega arith)

coc_to : (s : Segment) (comp : ℕ) → slot_of s ≡ 261 + 3 * comp → IsCoc comp s
coc_to (segment.Coc other shape) comp h = let same : other ≡ comp = omega arith in (shape, ap (λ (n : ℕ). segment.Coc n shape) same)
coc_to (segment.Qcc other quant) comp h = absurd (omega arith)
coc_to (segment.Rgn other shift) comp h = absurd (omega arith)
coc_to (segment.Ppm index bytes) comp h = absurd (omega (arith, h, low index))
coc_to (segment.Ppt index bytes) comp h = absurd (omega (arith, h, low index))
coc_to _ comp h = absurd (omega arith)

qcc_to : (s : Segment) (comp : ℕ) → slot_of s ≡ 262 + 3 * comp → IsQcc comp s
qcc_to (segment.Qcc other quant) comp h = let same : other ≡ comp = omega arith in (quant, ap (λ (n : ℕ). segment.Qcc n quant) same)
qcc_to (segment.Coc other shape) comp h = absurd (omega arith)
qcc_to (segment.Rgn other shift) comp h = absurd (omega arith)
qcc_to (segment.Ppm index bytes) comp h = absurd (omega (arith, h, low index))
qcc_to (segment.Ppt index bytes) comp h = absurd (omega (arith, h, low index))
qcc_to _ comp h = absurd (omega arith)

rgn_to : (s : Segment) (comp : ℕ) → slot_of s ≡ 263 + 3 * comp → IsRgn comp s
rgn_to (segment.Rgn other shift) comp h = let same : other ≡ comp = omega arith in (shift, ap (λ (n : ℕ). segment.Rgn n shift) same)
rgn_to (segment.Coc other shape) comp h = absurd (omega arith)
rgn_to (segment.Qcc other quant) comp h = absurd (omega arith)
rgn_to (segment.Ppm index bytes) comp h = absurd (omega (arith, h, low index))
rgn_to (segment.Ppt index bytes) comp h = absurd (omega (arith, h, low index))
rgn_to _ comp h = absurd (omega arith)

packed_to : (s : Segment) (index : ℕ) → slot_of s ≡ 5 + index % 256 → (other : ℕ) × IsPacked other s × (other % 256 ≡ index % 256)
packed_to (segment.Ppm other bytes) index h = (other, (bytes, inl refl), omega (arith, h))
packed_to (segment.Ppt other bytes) index h = (other, (bytes, inr refl), omega (arith, h))
packed_to (segment.Coc comp shape) index h = absurd (omega (arith, h, low index))
packed_to (segment.Qcc comp quant) index h = absurd (omega (arith, h, low index))
packed_to (segment.Rgn comp shift) index h = absurd (omega (arith, h, low index))
packed_to _ index h = absurd (omega (arith, h))

packed_from : (s : Segment) (index : ℕ) → IsPacked index s → slot_of s ≡ 5 + index % 256
packed_from s index is = elim is.1 [ inl e ↦ ap slot_of e | inr e ↦ ap slot_of e ]

pub packed_slot : (s : Segment) (index : ℕ) → ((slot_of s ≡ 5 + index % 256) → (other : ℕ) × IsPacked other s × (other % 256 ≡ index % 256)) × (IsPacked index s → slot_of s ≡ 5 + index % 256)
packed_slot s index = (packed_to s index, packed_from s index)

pub cod_slot : (s : Segment) → ((slot_of s ≡ 1) → IsCod s) × (IsCod s → slot_of s ≡ 1)
cod_slot s = (cod_to s, λ is. ap slot_of is.1)

pub qcd_slot : (s : Segment) → ((slot_of s ≡ 2) → IsQcd s) × (IsQcd s → slot_of s ≡ 2)
qcd_slot s = (qcd_to s, λ is. ap slot_of is.1)

pub poc_slot : (s : Segment) → ((slot_of s ≡ 3) → IsPoc s) × (IsPoc s → slot_of s ≡ 3)
poc_slot s = (poc_to s, λ is. ap slot_of is.1)

pub crg_slot : (s : Segment) → ((slot_of s ≡ 4) → IsCrg s) × (IsCrg s → slot_of s ≡ 4)
crg_slot s = (crg_to s, λ is. ap slot_of is.1)

pub coc_slot : (s : Segment) (comp : ℕ) → ((slot_of s ≡ 261 + 3 * comp) → IsCoc comp s) × (IsCoc comp s → slot_of s ≡ 261 + 3 * comp)
coc_slot s comp = (coc_to s comp, λ is. ap slot_of is.1)

pub qcc_slot : (s : Segment) (comp : ℕ) → ((slot_of s ≡ 262 + 3 * comp) → IsQcc comp s) × (IsQcc comp s → slot_of s ≡ 262 + 3 * comp)
qcc_slot s comp = (qcc_to s comp, λ is. ap slot_of is.1)

pub rgn_slot : (s : Segment) (comp : ℕ) → ((slot_of s ≡ 263 + 3 * comp) → IsRgn comp s) × (IsRgn comp s → slot_of s ≡ 263 + 3 * comp)
rgn_slot s comp = (rgn_to s comp, λ is. ap slot_of is.1)
