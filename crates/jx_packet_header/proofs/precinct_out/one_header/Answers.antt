use Rattle.std.proofs.Common.{◌≡◌, ℕ, map, Vec, Global}
use Rattle.std.proofs.lemmas.Result.{IfOk-weaker}
use Rattle.jx_tagtree.specs.Header.{bytes_of}
use Rattle.jx_packet_header.specs.Leafs.{leaf_of}
use Rattle.jx_packet_header.specs.Writable.{HeaderDone}
use Rattle.jx_packet_header.proofs.PlanLemmas.{one_empty}
use Rattle.jx_packet_header.proofs.precinct_out.one_header.Goals as goal

pub returns-then-not-some : goal.returns-then-not-some
returns-then-not-some c =
    IfOk-weaker c.finish.result (λ (b : Vec ℕ Global). b.items ≡ bytes_of c.bit.new.self) (λ (b : Vec ℕ Global). HeaderDone c.args.layer (map leaf_of c.args.leaves.now) c.args.bands.now.items c.args.bands.now.items b.items)
    (λ (b : Vec ℕ Global) (e : b.items ≡ bytes_of c.bit.new.self). one_empty c.args.layer (map leaf_of c.args.leaves.now) c.args.bands.now.items c.new-bits.result c.bit.new.self c.args.some
    c.requires.due c.requires.some c.if-not-some.true c.new-bits.ensures c.in_ok-bit.ensures.ok b.items e)
    c.finish.ensures
