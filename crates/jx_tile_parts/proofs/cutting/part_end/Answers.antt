use Rattle.std.proofs.Common.{◌≡◌, arith, drop, length}
use Rattle.jx_progression.specs.declared.names.PacketName.{PacketName}
use Rattle.jx_tile_parts.proofs.GroupLemmas.{part_is, run_none, run_of, run_stops}
use Rattle.jx_tile_parts.proofs.cutting.part_end.Goals as goal

abbrev no_name : PacketName
no_name = record { layer = 0; res = 0; comp = 0; precinct = 0 }

-- src/parting.rt:30:13
pub returns-then-key_of-key-clause-group : goal.returns-then-key_of-key-clause-group
returns-then-key_of-key-clause-group c =
    let names = c.args.names.now in
    let none : run_of c.args.parts c.key_of-key.result (drop c.loop-end.end names) ≡ 0 = run_stops c.args.parts c.key_of-key.result names c.loop-end.end no_name c.loop-end-test.true (omega arith) in
    part_is c.args.parts names c.args.from c.loop-end.end c.key_of-key.result no_name c.requires c.key_of-key.ensures (omega arith)

-- src/parting.rt:21:1
pub returns-clause-group : goal.returns-clause-group
returns-clause-group c =
    let names = c.args.names.now in
    let none : run_of c.args.parts c.key_of-key.result (drop c.loop-end.end names) ≡ 0 = run_none c.args.parts c.key_of-key.result names c.loop-end.end c.loop-end-test.false in
    part_is c.args.parts names c.args.from (length names) c.key_of-key.result no_name c.requires c.key_of-key.ensures (omega arith)
