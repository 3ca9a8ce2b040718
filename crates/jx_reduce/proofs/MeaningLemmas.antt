-- What is left of a codestream means what is left of its meaning.
use Rattle.std.proofs.Common.{◌≡◌, ℕ, ◌+◌, ◌-◌, ◌==◌, ◌&&◌, ◌≤◌, ◌<◌, Bool, true, false, nat_le, List, refl, ap, arith, None}
use Rattle.std.specs.Option.{option_map}
use Rattle.std.proofs.lemmas.Bool.{and_parts, eqb-true, le-leb}
use Rattle.std.proofs.lemmas.Bool.Decides.{nat_tests}
use Rattle.jx_base.specs.declared.pieces.Block.{Block}
use Rattle.jx_codestream.specs.declared.Stream.{Stream}
use Rattle.jx_codestream.specs.Params.{headers_at, params_of}
use Rattle.jx_plan.specs.Meaning.{Component, Place, is_band, lies_in, meaning_of, sample_at, sample_in}
use Rattle.jx_plan.specs.Standing.{HeadersStand}
use Rattle.jx_progression.specs.Loops.{is_in}
use Rattle.jx_reduce.specs.Left.{IsLeft}
use Rattle.jx_reduce.specs.Reduction.{blocks_left, is_left, stream_left}
use Rattle.jx_reduce.proofs.HeaderLemmas.{IsClear}
use Rattle.jx_reduce.proofs.ListLemmas.{found_in, found_none}
use Rattle.jx_reduce.proofs.ParameterLemmas.{component_same, enough, step_same}

record LiesAt (p : Place) (b : Block) : Type 0 where
  tile : p.tile ≡ b.name.tile
  comp : p.comp ≡ b.name.comp
  res : p.res ≡ b.name.res

lies_at : (p : Place) (b : Block) → lies_in p b ≡ true → LiesAt p b
lies_at p b h =
    let name : Bool = p.tile == b.name.tile && (p.comp == b.name.comp && p.res == b.name.res) in
    let rest : Bool = is_band p.band b.name.band && (is_in b.rect.x p.x && is_in b.rect.y p.y) in
    let one = and_parts name rest h in
    let two = and_parts (p.tile == b.name.tile) (p.comp == b.name.comp && p.res == b.name.res) one.0 in
    let three = and_parts (p.comp == b.name.comp) (p.res == b.name.res) two.1 in
    record { tile = eqb-true p.tile b.name.tile two.0; comp = eqb-true p.comp b.name.comp three.0; res = eqb-true p.res b.name.res three.1 }

above_fails : (a b : ℕ) → b < a → nat_le a b ≡ false
above_fails a b h = grind (arith, nat_tests)

module _ (d : ℕ) (s : Stream) (p : Place) where
  abbrev keep : Block → Bool
  keep b = is_left (headers_at s b.name.tile) d b

  levels_of : (b : Block) → LiesAt p b → (params_of s b.name.tile b.name.comp).levels ≡ (params_of s p.tile p.comp).levels
  levels_of b at = rw (at.tile, at.comp) refl

  kept : p.res + d ≤ (params_of s p.tile p.comp).levels → (b : Block) → lies_in p b ≡ true → keep b ≡ true
  kept le b h =
      let at : LiesAt p b = lies_at p b h in
      le-leb (b.name.res + d) (params_of s b.name.tile b.name.comp).levels (omega (arith, le, at.res, levels_of b at))

  dropped : (params_of s p.tile p.comp).levels < p.res + d → (b : Block) → lies_in p b ≡ true → keep b ≡ false
  dropped lt b h =
      let at : LiesAt p b = lies_at p b h in
      above_fails (b.name.res + d) (params_of s b.name.tile b.name.comp).levels (omega (arith, lt, at.res, levels_of b at))

  sample_same : (blocks : List Block) → p.res + d ≤ (params_of s p.tile p.comp).levels → sample_at (blocks_left d s blocks) p ≡ sample_at blocks p
  unfolding blocks_left
  sample_same blocks le = ap (option_map (sample_in p)) (found_in (lies_in p) keep blocks (kept le))

  sample_none : (blocks : List Block) → (params_of s p.tile p.comp).levels < p.res + d → sample_at (blocks_left d s blocks) p ≡ None
  unfolding blocks_left
  sample_none blocks lt = ap (option_map (sample_in p)) (found_none (lies_in p) keep blocks (dropped lt))

pub meaning_left : (d : ℕ) (s : Stream) (blocks : List Block) → IsClear d s → HeadersStand s → IsLeft d (meaning_of s blocks) (meaning_of (stream_left d s) (blocks_left d s blocks))
unfolding meaning_of stream_left
meaning_left d s blocks clear stand =
    let levels : (t c : ℕ) → (params_of (stream_left d s) t c).levels ≡ (params_of s t c).levels - d = λ t c. ap (λ (x : Component). x.levels) (component_same d s t c) in
    record {
      siz = refl;
      component = λ t c. component_same d s t c;
      step = λ t c r b le. step_same d s t c r b (omega (arith, le, levels t c));
      sample = λ p le. sample_same d s p blocks (omega (arith, le, levels p.tile p.comp, enough s stand d clear p.tile p.comp));
      above = λ p lt. sample_none d s p blocks (omega (arith, lt, levels p.tile p.comp));
    }

pub meaning_as : (d : ℕ) (s o : Stream) (blocks others : List Block) → o ≡ stream_left d s → others ≡ blocks_left d s blocks → IsClear d s → HeadersStand s → IsLeft d (meaning_of s blocks) (meaning_of o others)
meaning_as d s o blocks others e h clear stand = rw (e, h) (meaning_left d s blocks clear stand)
