use Rattle.jx_generate.specs.Made.{packet_made, resolution_made}
use Rattle.jx_generate.proofs.ListLemmas.{three_put}
use Rattle.jx_generate.proofs.picture.Picture.put_resolution.Goals as goal

pub returns-clause-out : goal.returns-clause-out
unfolding resolution_made
returns-clause-out c =
    three_put (packet_made c.args.self.now.seed c.args.self.now.width c.args.self.now.height c.args.layer c.args.res) c.args.out.now.items c.put_packet.new.out.items c.put_packet-2.new.out.items
    c.put_packet-3.new.out.items c.in_ok-put_packet.ensures.out c.in_ok-put_packet-2.ensures.out c.in_ok-put_packet-3.ensures.out
