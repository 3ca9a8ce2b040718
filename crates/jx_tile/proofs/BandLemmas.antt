-- The code-blocks of a precinct's bands, one band after another.
use Rattle.std.proofs.Common.{◌≡◌, ◌∙◌, ℕ, zero, suc, ◌+◌, ◌<◌, List, [], ◌∷◌, ◌++◌, length, map, take, get_or, ap, sym, subst, arith}
use Rattle.std.proofs.Math.Seq.{take-length}
use Rattle.std.proofs.lemmas.List.{map-append, take_more}
use Rattle.jx_base.specs.declared.names.Band.{Band}
use Rattle.jx_base.specs.Bands.{bands_at}
use Rattle.jx_geom.specs.Geometry.{Geometry}
use Rattle.jx_geom.specs.Ranges.{HasBand}
use Rattle.jx_geom.proofs.LeafLemmas.{Have, bands_have}
use Rattle.jx_codestream.specs.declared.Stream.{Stream}
use Rattle.jx_codestream.specs.Params.{headers_at}
use Rattle.jx_codestream.specs.TileHeaders.{TileHeaders}
use Rattle.jx_tile.specs.Cells.{bands_in, precinct_bands}

have_at : (r : ℕ) (bands : List Band) (i : ℕ) (d : Band) → Have r bands → i < length bands → HasBand r (get_or bands i d)
have_at r [] i d have lt = absurd (omega (arith, lt))
have_at r (b ∷ bands) zero d have lt = have.0
have_at r (b ∷ bands) (suc i) d have lt = have_at r bands i d have.1 (omega (arith, lt))

-- a resolution has each of its bands
pub band_there : (r : ℕ) (bands : List Band) (i : ℕ) (d : Band) → bands ≡ bands_at r → i < length bands → HasBand r (get_or bands i d)
band_there r bands i d e lt =
    let P : List Band → Type 0 = λ xs. Have r xs in
    have_at r bands i d (subst P (sym e) (bands_have r)) lt

-- a list that is made band by band: one more, and all
pub bands_next : {X : Type 0} (f : Band → X) (bands : List Band) (i : ℕ) (d : Band) (x : X) (old new : List X) → i < length bands
    → old ≡ map f (take i bands) → x ≡ f (get_or bands i d) → new ≡ old ++ x ∷ [] → new ≡ map f (take (i + 1) bands)
bands_next {X} f bands i d x old new lt before own step =
    step ∙ ap (λ (xs : List X). xs ++ x ∷ []) before ∙ ap (λ (y : X). map f (take i bands) ++ y ∷ []) own
    ∙ sym (map-append f (take i bands) (get_or bands i d ∷ [])) ∙ ap (map f) (sym (take_more bands i d lt))

pub bands_all : {X : Type 0} (f : Band → X) (r : ℕ) (bands : List Band) (n : ℕ) (xs : List X) → n ≡ length bands → bands ≡ bands_at r
    → xs ≡ map f (take n bands) → xs ≡ map f (bands_at r)
bands_all f r bands n xs all e h =
    h ∙ ap (λ (m : ℕ). map f (take m bands)) all ∙ ap (map f) (take-length bands) ∙ ap (map f) e

-- by the headers of the tile
pub bands_are : (s : Stream) (h : TileHeaders) (g : Geometry) (c r k : ℕ) → h ≡ headers_at s g.tile → bands_in h g c r k ≡ precinct_bands s g c r k
unfolding precinct_bands
bands_are s h g c r k e = ap (λ (x : TileHeaders). bands_in x g c r k) e
