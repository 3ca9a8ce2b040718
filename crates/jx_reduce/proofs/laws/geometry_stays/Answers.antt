use Rattle.jx_reduce.proofs.GeometryLemmas.{across_stays, band_stays, blocks_stay, down_stays, leaves_stay, part_stays, precincts_stay, rect_stays, there_both, tile_stays}
use Rattle.jx_reduce.proofs.laws.geometry_stays.Goals as goal

pub returns-clause-tiles : goal.returns-clause-tiles
returns-clause-tiles c = tile_stays

pub returns-clause-resolutions : goal.returns-clause-resolutions
returns-clause-resolutions c = there_both

pub returns-clause-bands : goal.returns-clause-bands
returns-clause-bands c = λ d s t comp r b stand none has. band_stays d s t comp r stand none has b

pub returns-clause-precincts : goal.returns-clause-precincts
returns-clause-precincts c = precincts_stay

pub returns-clause-parts : goal.returns-clause-parts
returns-clause-parts c = λ d s t comp r k b stand none has. part_stays d s t comp r stand none has b k

pub returns-clause-leaves : goal.returns-clause-leaves
returns-clause-leaves c = λ d s t comp r k b stand none has. leaves_stay d s t comp r stand none has b k

pub returns-clause-blocks : goal.returns-clause-blocks
returns-clause-blocks c = λ d s t comp r b stand none has. blocks_stay d s t comp r stand none has b

pub returns-clause-places : goal.returns-clause-places
returns-clause-places c = λ d s t comp r i b stand none has. rect_stays d s t comp r stand none has b i

pub returns-clause-across : goal.returns-clause-across
returns-clause-across c = λ d s t comp r k stand none has. across_stays d s t comp r stand none has k

pub returns-clause-down : goal.returns-clause-down
returns-clause-down c = λ d s t comp r k stand none has. down_stays d s t comp r stand none has k
