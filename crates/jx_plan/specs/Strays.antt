-- Packets that no volume has, as a stream is to be written (ITU-T T.800, A.6.6 and B.12).
use Rattle.std.specs.Prelude.{◌≡◌, ◌⊎◌, ◌<◌, ℕ, true, false, length}
use Rattle.jx_codestream.specs.declared.Stream.{Stream}
use Rattle.jx_codestream.specs.First.{tile_number}
use Rattle.jx_codestream.specs.Shapes.{tile_at}
use Rattle.jx_tile.specs.Covered.{IsWhole}
use Rattle.jx_options.specs.Wanted.{Wanted}
use Rattle.jx_plan.specs.Changes.{has_long, has_outside, main_order}
use Rattle.jx_plan.specs.Headers.{stream_written, with_layers}

-- a tile's own entries, where they are kept, are few enough for a POC segment, and each of its packets is in an entry that applies
pub record HasNoStrayIn (s : Stream) (w : Wanted) (layers t : ℕ) : Type 0 where
  pub room : has_long (length s.siz.comps) w.changes (main_order s.main) (tile_at s t) ≡ false
  pub whole : IsWhole (stream_written (with_layers w layers) s) t

-- no volume begins above the components, and so it is with each tile
pub record HasNoStray (s : Stream) (w : Wanted) (layers : ℕ) : Type 0 where
  pub comps : has_outside (length s.siz.comps) w.changes ≡ false
  pub each : (t : ℕ) → t < tile_number s.siz → HasNoStrayIn s w layers t

-- the lowest tile with which it isn't
pub record IsFirstStray (s : Stream) (w : Wanted) (layers place : ℕ) : Type 0 where
  pub inside : place < tile_number s.siz
  pub stray : HasNoStrayIn s w layers place → ⊥
  pub lowest : (t : ℕ) → t < place → HasNoStrayIn s w layers t

-- choice 12
abbrev pub IsStray : Stream → Wanted → ℕ → ℕ → Type 0
IsStray s w layers place =
    ((has_outside (length s.siz.comps) w.changes ≡ true) × (place ≡ 0))
    ⊎ ((has_outside (length s.siz.comps) w.changes ≡ false) × IsFirstStray s w layers place)
