use Rattle.std.proofs.Common.{◌+◌, ap, subst}
use Rattle.jx_packet_header.specs.Written.{Plan}
use Rattle.jx_packet_header.specs.LeavesFit.{IsPlan}
use Rattle.jx_packet_header.proofs.AgreeLemmas.{plan_is_read}
use Rattle.jx_packet_header.proofs.precinct_out.PrecinctOut.write_header.Goals as goal

pub returns-clause-read_back : goal.returns-clause-read_back
returns-clause-read_back c = λ fit rest.
    plan_is_read c.args.self.now _ c.args.layer c.self.inside.headers.items c.self.inside.places.items rest
    (subst (λ (p : Plan). IsPlan p.layers p.style p.bands p.leaves c.self.inside.headers.items c.self.inside.places.items) c.self.view_is c.self.invariant) fit c.requires.layer c.requires.below
    (ap (λ (p : Plan). record p { next = p.next + 1 }) c.self.view_is)
