-- What is read of the bands of a precinct, band after band.
use Rattle.std.proofs.Common.{◌≡◌, ℕ, zero, suc, ◌+◌, ◌<◌, ◌≤◌, Bool, List, [], ◌∷◌, ◌++◌, length, take, drop, refl, sym, ap, ◌∙◌, arith, append_assoc, Ok, Err, Result, length-append, get_or, set}
use Rattle.std.proofs.lemmas.List.{append-nil, drop_all, take_all}
use Rattle.jx_packet_header.specs.declared.HeaderPart.{HeaderPart}
use Rattle.jx_packet_header.specs.declared.HeadFault.{HeadFault}
use Rattle.jx_packet_header.specs.declared.HeadFault.TheVariants.{Bits, Planes, NoMemory}
use Rattle.jx_packet_header.specs.Said.{Refuses, BandsSaid}
use Rattle.jx_packet_header.specs.Precinct.{all_blocks}
use Rattle.jx_packet_header.specs.Packet.{Cells}
use Rattle.jx_packet_header.specs.Kept.{IsBand, AreBands}
use Rattle.jx_packet_header.specs.Scan.{and_then, AllTold, BandsRead, and_band, scan_band, scan_bands}
use Rattle.jx_packet_header.proofs.BandLemmas.{all_is, on_band, bands_is}

pub record SetAt (xs : List Cells) (at : ℕ) (y d : Cells) : Type 0 where
  pub front : take (at + 1) (set xs at y) ≡ take at xs ++ y ∷ []
  pub behind : drop (at + 1) (set xs at y) ≡ drop (at + 1) xs
  pub here : drop at xs ≡ get_or xs at d ∷ drop (at + 1) xs

pub set_at : (xs : List Cells) (at : ℕ) (y d : Cells) → at < length xs → SetAt xs at y d
set_at [] at y d lt = absurd (omega arith)
set_at (x ∷ xs) zero y d lt = record { front = refl; behind = refl; here = refl }
set_at (x ∷ xs) (suc at) y d lt =
    let s = set_at xs at y d (omega arith) in
    let e : suc at + 1 ≡ suc (at + 1) = omega arith in
    record {
      front = ap (λ (n : ℕ). take n (x ∷ set xs at y)) e ∙ ap (λ (l : List Cells). x ∷ l) s.front;
      behind = ap (λ (n : ℕ). drop n (x ∷ set xs at y)) e ∙ s.behind ∙ ap (λ (n : ℕ). drop n (x ∷ xs)) (sym e);
      here = s.here ∙ ap (λ (n : ℕ). get_or xs at d ∷ drop n (x ∷ xs)) (sym e);
    }

pub band_at : (bands : List Cells) (at : ℕ) (d : Cells) → AreBands bands → at < length bands → IsBand (get_or bands at d)
band_at [] at d b lt = absurd (omega arith)
band_at (x ∷ xs) zero d b lt = b.0
band_at (x ∷ xs) (suc at) d b lt = band_at xs at d b.1 (omega arith)

pub bands_set : (bands : List Cells) (at : ℕ) (y : Cells) → AreBands bands → IsBand y → AreBands (set bands at y)
bands_set [] at y b h = tt
bands_set (x ∷ xs) zero y b h = (h, b.1)
bands_set (x ∷ xs) (suc at) y b h = (b.0, bands_set xs at y b.1 h)

pub blocks_set : (bands : List Cells) (at : ℕ) (y d : Cells) → at < length bands → length y.blocks ≡ length (get_or bands at d).blocks → length (all_blocks (set bands at y)) ≡ length (all_blocks bands)
blocks_set [] at y d lt e = absurd (omega arith)
blocks_set (x ∷ xs) zero y d lt e =
    let a : length (y.blocks ++ all_blocks xs) ≡ length y.blocks + length (all_blocks xs) = length-append y.blocks (all_blocks xs) in
    let b : length (x.blocks ++ all_blocks xs) ≡ length x.blocks + length (all_blocks xs) = length-append x.blocks (all_blocks xs) in
    omega arith
blocks_set (x ∷ xs) (suc at) y d lt e =
    let i : length (all_blocks (set xs at y)) ≡ length (all_blocks xs) = blocks_set xs at y d (omega arith) e in
    let a : length (x.blocks ++ all_blocks (set xs at y)) ≡ length x.blocks + length (all_blocks (set xs at y)) = length-append x.blocks (all_blocks (set xs at y)) in
    let b : length (x.blocks ++ all_blocks xs) ≡ length x.blocks + length (all_blocks xs) = length-append x.blocks (all_blocks xs) in
    omega arith

abbrev pub and_done : List HeaderPart → List Cells → Result BandsRead HeadFault → Result BandsRead HeadFault
and_done parts done r = and_then r (λ (b : BandsRead). Ok (bands_is (parts ++ b.parts) (done ++ b.bands) b.rest))

done_done : (now parts : List HeaderPart) (done : List Cells) (cells : Cells) (rest : List Bool) (r : Result BandsRead HeadFault) →
    and_done now done (and_band (all_is parts cells rest) r) ≡ and_done (now ++ parts) (done ++ cells ∷ []) r
done_done now parts done cells rest (Err e) = refl
done_done now parts done cells rest (Ok b) =
    ap (λ (l : List HeaderPart). Ok (bands_is l (done ++ cells ∷ b.bands) b.rest)) (sym (append_assoc now parts b.parts))
    ∙ ap (λ (l : List Cells). Ok (bands_is ((now ++ parts) ++ b.parts) l b.rest)) (sym (append_assoc done (cells ∷ []) b.bands))

pub bands_step : (whole : Result BandsRead HeadFault) (begun now new parts : List HeaderPart) (style layer base at : ℕ) (bands : List Cells) (y d : Cells) (bits rest : List Bool) → at < length bands →
    and_done begun [] whole ≡ and_done now (take at bands) (scan_bands style layer base (drop at bands) bits) →
    scan_band style layer base (get_or bands at d) bits ≡ Ok (all_is parts y rest) → new ≡ now ++ parts →
    and_done begun [] whole ≡ and_done new (take (at + 1) (set bands at y)) (scan_bands style layer (base + length (get_or bands at d).blocks) (drop (at + 1) (set bands at y)) rest)
bands_step whole begun now new parts style layer base at bands y d bits rest lt h was is =
    let s = set_at bands at y d lt in
    let x = get_or bands at d in
    let next = scan_bands style layer (base + length x.blocks) (drop (at + 1) bands) rest in
    h ∙ ap (λ (l : List Cells). and_done now (take at bands) (scan_bands style layer base l bits)) s.here
    ∙ ap (λ (r : Result AllTold HeadFault). and_done now (take at bands) (and_then r (on_band style layer base x (drop (at + 1) bands)))) was
    ∙ done_done now parts (take at bands) y rest next
    ∙ ap (λ (l : List HeaderPart). and_done l (take at bands ++ y ∷ []) next) (sym is)
    ∙ ap (λ (l : List Cells). and_done new l next) (sym s.front)
    ∙ ap (λ (l : List Cells). and_done new (take (at + 1) (set bands at y)) (scan_bands style layer (base + length x.blocks) l rest)) (sym s.behind)

pub next_left : (bands : List Cells) (at base most : ℕ) (y d : Cells) → at < length bands → base + length (all_blocks (drop at bands)) ≤ most →
    base + length (get_or bands at d).blocks + length (all_blocks (drop (at + 1) (set bands at y))) ≤ most
next_left bands at base most y d lt le =
    let s = set_at bands at y d lt in
    let x = get_or bands at d in
    let a : length (x.blocks ++ all_blocks (drop (at + 1) bands)) ≡ length x.blocks + length (all_blocks (drop (at + 1) bands)) = length-append x.blocks (all_blocks (drop (at + 1) bands)) in
    let b : length (all_blocks (drop at bands)) ≡ length (x.blocks ++ all_blocks (drop (at + 1) bands)) = ap (λ (l : List Cells). length (all_blocks l)) s.here in
    let e : length (all_blocks (drop (at + 1) (set bands at y))) ≡ length (all_blocks (drop (at + 1) bands)) = ap (λ (l : List Cells). length (all_blocks l)) s.behind in
    omega arith

-- after the last band
pub bands_said : (whole : Result BandsRead HeadFault) (begun now : List HeaderPart) (style layer base at : ℕ) (bands : List Cells) (bits : List Bool) → length bands ≤ at →
    and_done begun [] whole ≡ and_done now (take at bands) (scan_bands style layer base (drop at bands) bits) → BandsSaid whole begun now bands bits
bands_said whole begun now style layer base at bands bits le h =
    said whole (h ∙ ap (λ (l : List Cells). and_done now (take at bands) (scan_bands style layer base l bits)) (drop_all at bands le) ∙ ap (λ (l : List Cells). Ok (bands_is (now ++ []) (l ++ []) bits)) (take_all at bands le))
  where
    said : (w : Result BandsRead HeadFault) → and_done begun [] w ≡ Ok (bands_is (now ++ []) (bands ++ []) bits) → BandsSaid w begun now bands bits
    said (Err e) is = absurd cc
    said (Ok b) is =
        let same : bands_is (begun ++ b.parts) b.bands b.rest ≡ bands_is (now ++ []) (bands ++ []) bits = cc in
        let new : begun ++ b.parts ≡ now = ap (λ (x : BandsRead). x.parts) same ∙ append-nil now in
        record {
          parts = b.parts;
          is = ap (λ (l : List Cells). Ok (bands_is b.parts l b.rest)) (ap (λ (x : BandsRead). x.bands) same ∙ append-nil bands) ∙ ap (λ (l : List Bool). Ok (bands_is b.parts bands l)) (ap (λ (x : BandsRead). x.rest) same);
          new_is = sym new;
        }

-- where a band is refused
bands_err : (whole : Result BandsRead HeadFault) (begun : List HeaderPart) (f : HeadFault) → and_done begun [] whole ≡ Err f → whole ≡ Err f
bands_err (Err e) begun f h = h
bands_err (Ok b) begun f h = absurd cc

band_err : (whole : Result BandsRead HeadFault) (begun now : List HeaderPart) (style layer base at : ℕ) (bands : List Cells) (d : Cells) (bits : List Bool) (f : HeadFault) → at < length bands →
    and_done begun [] whole ≡ and_done now (take at bands) (scan_bands style layer base (drop at bands) bits) → scan_band style layer base (get_or bands at d) bits ≡ Err f → whole ≡ Err f
band_err whole begun now style layer base at bands d bits f lt h was =
    let s = set_at bands at d d lt in
    bands_err whole begun f (h ∙ ap (λ (l : List Cells). and_done now (take at bands) (scan_bands style layer base l bits)) s.here
    ∙ ap (λ (r : Result AllTold HeadFault). and_done now (take at bands) (and_then r (on_band style layer base (get_or bands at d) (drop (at + 1) bands)))) was)

pub bands_refuse : (whole : Result BandsRead HeadFault) (begun now : List HeaderPart) (style layer base at : ℕ) (bands : List Cells) (d : Cells) (bits : List Bool) (f : HeadFault) → at < length bands →
    and_done begun [] whole ≡ and_done now (take at bands) (scan_bands style layer base (drop at bands) bits) → Refuses f (scan_band style layer base (get_or bands at d) bits) → Refuses f whole
bands_refuse whole begun now style layer base at bands d bits Bits lt h was = band_err whole begun now style layer base at bands d bits Bits lt h was
bands_refuse whole begun now style layer base at bands d bits Planes lt h was = band_err whole begun now style layer base at bands d bits Planes lt h was
bands_refuse whole begun now style layer base at bands d bits NoMemory lt h was = tt
