use Rattle.jx_geom.proofs.SetLemmas.{band_rect_to, band_rect_from, block_rect_to, block_rect_from}
use Rattle.jx_geom.proofs.SizeLemmas.{block_fits}
use Rattle.jx_geom.proofs.laws.bands_are_sets.Goals as goal

pub returns-clause-bands : goal.returns-clause-bands
returns-clause-bands c = λ tile s r b x y h. (λ i. band_rect_to tile s r b x y h i, λ i. band_rect_from tile s r b x y h i)

pub returns-clause-blocks : goal.returns-clause-blocks
returns-clause-blocks c = λ tile s r b i x y h. (λ p. block_rect_to tile s r b i x y h p, λ p. block_rect_from tile s r b i x y h p)

pub returns-clause-fit : goal.returns-clause-fit
returns-clause-fit c = λ tile s r b i h lt. block_fits tile s r b i h lt
