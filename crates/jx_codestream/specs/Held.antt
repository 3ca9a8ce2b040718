-- Packet headers that stand apart, as contracts see them. No public clause of a crate above cites this module.
use Rattle.std.specs.Prelude.{List, [], ◌∷◌, Option, None, Some}
use Rattle.jx_codestream.specs.declared.Body.{Body}
use Rattle.jx_codestream.specs.declared.lists.Pieces.{Pieces}
use Rattle.jx_codestream.specs.declared.lists.Pieces.TheVariants as pieces

-- the pieces of the file that are held, where there are packet headers
abbrev pub held : Pieces → Option (List Body)
held pieces.None = None
held (pieces.One piece) = Some (piece ∷ [])
held (pieces.Many list) = Some list.items
