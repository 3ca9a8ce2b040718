-- A written file is strict: its tile-parts tell their number and their packets' lengths, and SOP and EPH are as COD announces them.
use Rattle.std.proofs.Common.{◌≡◌, ◌∙◌, ◌<◌, ◌+◌, ℕ, zero, suc, false, arith, List, [], ◌∷◌, length, map, refl, ap}
use Rattle.std.specs.List.{filter}
use Rattle.jx_base.specs.declared.pieces.Block.{Block}
use Rattle.jx_marker.specs.declared.Segment.{Segment}
use Rattle.jx_progression.specs.declared.names.PacketName.{PacketName}
use Rattle.jx_codestream.specs.declared.Stream.{Stream}
use Rattle.jx_codestream.specs.Spells.{all_bytes}
use Rattle.jx_tier2_reader.specs.Written.{Packets, bytes_from}
use Rattle.jx_tier2_writer.specs.Told.{has_lengths}
use Rattle.jx_tier2_writer.specs.Lengths.{numbered}
use Rattle.jx_tier2_writer.specs.Ready.{AreShort}
use Rattle.jx_tier2_writer.specs.Strict.{AreStrictParts}
use Rattle.jx_options.specs.declared.Marks.{Marks}
use Rattle.jx_tier2_writer.specs.TileParts.{packet_length, packets_of, written_part_header, parts_with}
use Rattle.jx_tier2_writer.proofs.HeldLemmas.{held_by}
use Rattle.jx_tier2_writer.proofs.MadeLemmas.{header_is, lengths_short, own_at, part_long}
use Rattle.jx_tier2_writer.proofs.TellLemmas.{held_none, held_told, lengths_found}
use Rattle.jx_tier2_writer.proofs.WholeLemmas.{held_whole}
use Rattle.jx_plan.specs.Asides.{is_plt}

own_none : (own : List Segment) (part : ℕ) → has_lengths own ≡ false → has_lengths (own_at part own) ≡ false
own_none own zero none = none
own_none own (suc part) none = refl

found_in : (m : Marks) (own : List Segment) (part : ℕ) (lengths : List ℕ) → has_lengths own ≡ false → filter is_plt (written_part_header m own part lengths) ≡ numbered 0 (held_by m.plt lengths)
found_in m own part lengths none =
    ap (λ (z : List Segment). filter is_plt z) (header_is m own part lengths) ∙ lengths_found (own_at part own) (held_by m.plt lengths) (own_none own part none)

later_is : (m : Marks) (own : List Segment) (part : ℕ) (lengths : List ℕ) → 0 < part → written_part_header m own part lengths ≡ numbered 0 (held_by m.plt lengths)
later_is m own zero lengths some = absurd (omega arith)
later_is m own (suc part) lengths some = header_is m own (suc part) lengths

pub strict_made : (m : Marks) (comps t : ℕ) (own : List Segment) (ps : Packets) (count part number : ℕ) (groups : List (List PacketName)) → has_lengths own ≡ false
    → AreShort (parts_with m comps t own ps part count number groups) → AreStrictParts m.plt comps t count part ps number groups (parts_with m comps t own ps part count number groups)
strict_made m comps t own ps count part number [] none short = tt
strict_made m comps t own ps count part number (names ∷ groups) none short =
    let lengths : List ℕ = map (packet_length ps) names in
    let header : List Segment = written_part_header m own part lengths in
    let total = lengths_short ps number (length (all_bytes comps header)) names short.0 in (
      record {
        tile = refl;
        part_is = refl;
        parts = refl;
        psot = part_long comps t part count header (bytes_from ps number names);
        body = refl;
        held = held_by m.plt lengths;
        segments = found_in m own part lengths none;
        lengths = held_told m.plt lengths total;
        whole = held_whole m.plt lengths total;
        none = held_none m.plt lengths;
        later = later_is m own part lengths;
      },
      strict_made m comps t own ps count (part + 1) (number + length names) groups none short.1,
    )

pub has_sop : (m : Marks) (s : Stream) (t : ℕ) (blocks : List Block) (p : PacketName) → ((packets_of m s t blocks).written p).sop ≡ m.sop
unfolding packets_of
has_sop m s t blocks p = refl

pub has_eph : (m : Marks) (s : Stream) (t : ℕ) (blocks : List Block) (p : PacketName) → ((packets_of m s t blocks).written p).eph ≡ m.eph
unfolding packets_of
has_eph m s t blocks p = refl
