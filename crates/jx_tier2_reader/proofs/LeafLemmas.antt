-- Each block of a tile is one of a precinct's.
use Rattle.std.proofs.Common.{◌≡◌, ℕ, ◌<◌, ap, ◌∙◌}
use Rattle.jx_base.specs.declared.names.BlockName.{BlockName}
use Rattle.jx_geom.specs.Geometry.{Geometry, GeometryInRange, HasBlock}
use Rattle.jx_geom.specs.Numbering.{number_in_tile}
use Rattle.jx_geom.specs.Precincts.{HasPrecinct, IsLeaf, leaves, leaf_number}
use Rattle.jx_geom.proofs.LeafLemmas.{leaf_is, leaf_taken}

pub record LeafOf (g : Geometry) (n : BlockName) : Type 0 where
  pub precinct : ℕ
  pub block : ℕ
  pub there : HasPrecinct g n.comp n.res precinct
  pub inside : block < leaves g n.comp n.res precinct
  pub number : leaf_number g n.comp n.res precinct block ≡ number_in_tile g n

pub block_leaf : (g : Geometry) (n : BlockName) → GeometryInRange g → HasBlock g n → LeafOf g n
block_leaf g n h has =
    let found = leaf_taken g n h has in
    let is : IsLeaf g found.0 found.1 n = found.2 in
    record {
      precinct = found.0;
      block = found.1;
      there = is.precinct;
      inside = is.leaf;
      number = leaf_is g n.comp n.res found.0 found.1 ∙ ap (number_in_tile g) is.name;
    }
