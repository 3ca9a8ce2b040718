use Rattle.std.proofs.Common.{◌≡◌, ◌<◌, ◌≤◌, ◌++◌, length, set, sym, ap, subst, ◌∙◌}
use Rattle.jx_tagtree.specs.Leaves.{Written}
use Rattle.jx_packet_header.specs.Packet.{Cells, block_at, entry_bits, entry_after}
use Rattle.jx_packet_header.specs.Written.{Writes, cells_of, values_of, entry_written, least_of, parts_in, passes_of}
use Rattle.jx_packet_header.proofs.BandLemmas.{block_is}
use Rattle.jx_packet_header.proofs.EntryLemmas.{some_passes, zero_told, entry_bits_are, entry_bits_none, entry_after_is, entry_after_none}
use Rattle.jx_packet_header.proofs.band_out.write_block.Goals as goal

pub returns-clause-bits : goal.returns-clause-bits
returns-clause-bits c =
    let w : Writes = record { first = c.band.inside.first; zeros = c.band.inside.zeros; planes = c.band.inside.planes; blocks = c.band.inside.blocks.items; cursors = c.band.inside.cursors.items } in
    let inside : c.args.leaf < length w.blocks = subst (λ (x : Writes). c.args.leaf < length x.blocks) (sym c.band.view_is) c.requires.inside in
    let known : c.index-known.result.now ≡ block_at (cells_of w) c.args.leaf = sym (block_is w.blocks c.args.leaf c.index-known.result.now inside c.index-known.ensures) in
    subst (λ (x : Writes). c.write_entry.new.bits ≡ c.args.bits.now ++ entry_bits (values_of x) c.args.layer c.args.leaf (cells_of x) (entry_written c.args.layer (block_at (cells_of x) c.args.leaf) (record { zero = c.args.zero; parts = c.args.parts.now }))) c.band.view_is
    (entry_bits_are w c.args.layer c.args.leaf c.args.zero c.passes_in-passes.result c.args.parts.now c.index-known.result.now c.args.bits.now c.write_inclusion.new.bits c.write_zero.new.bits c.write_entry.new.bits
    known c.passes_in-passes.ensures c.if-passes-eq0.false c.in_ok-write_inclusion.ensures.bits c.in_ok-write_zero.ensures.bits c.in_ok-band-inside.ensures.bits)

pub returns-clause-after : goal.returns-clause-after
returns-clause-after c =
    let w : Writes = record { first = c.band.inside.first; zeros = c.band.inside.zeros; planes = c.band.inside.planes; blocks = c.band.inside.blocks.items; cursors = c.band.inside.cursors.items } in
    let inside : c.args.leaf < length w.blocks = subst (λ (x : Writes). c.args.leaf < length x.blocks) (sym c.band.view_is) c.requires.inside in
    let known : c.index-known.result.now ≡ block_at (cells_of w) c.args.leaf = sym (block_is w.blocks c.args.leaf c.index-known.result.now inside c.index-known.ensures) in
    let some : 1 ≤ passes_of (parts_in c.args.layer c.args.parts.now) = some_passes c.passes_in-passes.result (passes_of (parts_in c.args.layer c.args.parts.now)) c.passes_in-passes.ensures c.if-passes-eq0.false in
    let zero : least_of w.zeros c.args.leaf ≡ c.args.zero = subst (λ (x : Writes). least_of x.zeros c.args.leaf ≡ c.args.zero) (sym c.band.view_is) (c.requires.zero some) in
    let cells : Cells = record { first = c.write_inclusion.new.tree.tree; zeros = c.write_zero.new.tree.tree; planes = w.planes; blocks = set w.blocks c.args.leaf c.in_ok-band-inside.field-0 } in
    subst (λ (x : Writes). cells ≡ entry_after (values_of x) c.args.layer c.args.leaf (cells_of x) (entry_written c.args.layer (block_at (cells_of x) c.args.leaf) (record { zero = c.args.zero; parts = c.args.parts.now }))) c.band.view_is
    (entry_after_is w c.args.layer c.args.leaf c.args.zero c.unwrap_or-zero.result c.passes_in-passes.result c.args.parts.now c.index-known.result.now c.in_ok-band-inside.field-0 c.write_inclusion.new.tree.tree c.write_zero.new.tree.tree
    known c.passes_in-passes.ensures c.if-passes-eq0.false (ap (λ (t : Written). t.tree) c.in_ok-write_inclusion.ensures.tree) (ap (λ (t : Written). t.tree) c.in_ok-write_zero.ensures.tree)
    (c.unwrap_or-zero.ensures ∙ zero_told c.index-known.result.now.zero (least_of w.zeros) c.args.leaf c.args.zero zero) c.in_ok-band-inside.ensures.after)

pub returns-then-passes-eq0-clause-bits : goal.returns-then-passes-eq0-clause-bits
returns-then-passes-eq0-clause-bits c =
    let w : Writes = record { first = c.band.inside.first; zeros = c.band.inside.zeros; planes = c.band.inside.planes; blocks = c.band.inside.blocks.items; cursors = c.band.inside.cursors.items } in
    let inside : c.args.leaf < length w.blocks = subst (λ (x : Writes). c.args.leaf < length x.blocks) (sym c.band.view_is) c.requires.inside in
    let known : c.index-known.result.now ≡ block_at (cells_of w) c.args.leaf = sym (block_is w.blocks c.args.leaf c.index-known.result.now inside c.index-known.ensures) in
    subst (λ (x : Writes). c.write_inclusion.new.bits ≡ c.args.bits.now ++ entry_bits (values_of x) c.args.layer c.args.leaf (cells_of x) (entry_written c.args.layer (block_at (cells_of x) c.args.leaf) (record { zero = c.args.zero; parts = c.args.parts.now }))) c.band.view_is
    (entry_bits_none w c.args.layer c.args.leaf c.args.zero c.passes_in-passes.result c.args.parts.now c.index-known.result.now c.args.bits.now c.write_inclusion.new.bits
    known c.passes_in-passes.ensures c.if-passes-eq0.true c.in_ok-write_inclusion.ensures.bits)

pub returns-then-passes-eq0-clause-after : goal.returns-then-passes-eq0-clause-after
returns-then-passes-eq0-clause-after c =
    let w : Writes = record { first = c.band.inside.first; zeros = c.band.inside.zeros; planes = c.band.inside.planes; blocks = c.band.inside.blocks.items; cursors = c.band.inside.cursors.items } in
    let inside : c.args.leaf < length w.blocks = subst (λ (x : Writes). c.args.leaf < length x.blocks) (sym c.band.view_is) c.requires.inside in
    let known : c.index-known.result.now ≡ block_at (cells_of w) c.args.leaf = sym (block_is w.blocks c.args.leaf c.index-known.result.now inside c.index-known.ensures) in
    let cells : Cells = record { first = c.write_inclusion.new.tree.tree; zeros = w.zeros.tree; planes = w.planes; blocks = w.blocks } in
    subst (λ (x : Writes). cells ≡ entry_after (values_of x) c.args.layer c.args.leaf (cells_of x) (entry_written c.args.layer (block_at (cells_of x) c.args.leaf) (record { zero = c.args.zero; parts = c.args.parts.now }))) c.band.view_is
    (entry_after_none w c.args.layer c.args.leaf c.args.zero c.passes_in-passes.result c.args.parts.now c.index-known.result.now c.write_inclusion.new.tree.tree
    known c.passes_in-passes.ensures c.if-passes-eq0.true (ap (λ (t : Written). t.tree) c.in_ok-write_inclusion.ensures.tree))

pub returns-then-passes-eq0-clause-first : goal.returns-then-passes-eq0-clause-first
returns-then-passes-eq0-clause-first c =
    ap (λ (t : Written). t.leaves) c.in_ok-write_inclusion.ensures.tree ∙ ap (λ (x : Writes). x.first.leaves) c.band.view_is

pub returns-clause-first : goal.returns-clause-first
returns-clause-first c =
    ap (λ (t : Written). t.leaves) c.in_ok-write_inclusion.ensures.tree ∙ ap (λ (x : Writes). x.first.leaves) c.band.view_is

pub returns-clause-zeros : goal.returns-clause-zeros
returns-clause-zeros c =
    ap (λ (t : Written). t.leaves) c.in_ok-write_zero.ensures.tree ∙ ap (λ (x : Writes). x.zeros.leaves) c.band.view_is

pub returns-then-passes-eq0-clause-zeros : goal.returns-then-passes-eq0-clause-zeros
returns-then-passes-eq0-clause-zeros c = ap (λ (x : Writes). x.zeros.leaves) c.band.view_is

pub returns-then-passes-eq0-clause-cursors : goal.returns-then-passes-eq0-clause-cursors
returns-then-passes-eq0-clause-cursors c = ap (λ (x : Writes). x.cursors) c.band.view_is

pub returns-clause-cursors : goal.returns-clause-cursors
returns-clause-cursors c = ap (λ (x : Writes). x.cursors) c.band.view_is
